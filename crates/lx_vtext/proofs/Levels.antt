-- Statements that nest so deep fit where there are so many levels.
use Rattle.std.proofs.Common.{ℕ, zero, suc, ◌≤◌, refl, arith}
use Rattle.lx_vtext.specs.Names.{is_name}
use Rattle.lx_tables.specs.VerilogWords.{verilog_words}
use Rattle.lx_vtext.specs.Fits.{IsBlock}
use Rattle.lx_vtext.specs.Worked.{nested}

pub nested_fits : (n d : ℕ) → n ≤ d → IsBlock d (nested n)
unfolding is_name verilog_words
nested_fits zero d le = tt
nested_fits (suc n) zero le = absurd (omega arith)
nested_fits (suc n) (suc d) le = ((refl, nested_fits n d (omega arith), tt), tt)

pub nested_most : (n d : ℕ) → IsBlock d (nested n) → n ≤ d
nested_most zero d h = omega arith
nested_most (suc n) zero h = absurd h
nested_most (suc n) (suc d) h = let le = nested_most n d h.0.1 in omega arith
