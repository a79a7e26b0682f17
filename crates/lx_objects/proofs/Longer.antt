-- A chain of registers, register by register.
use Rattle.std.proofs.Common.{◌≡◌, ◌∙◌, ap, sym, ℕ, zero, suc, ◌-◌, ◌<◌, arith, Ok, Err}
use Rattle.lx_num.specs.declared.Shape.{Shape}
use Rattle.lx_text.specs.declared.faults.Fault.{Fault}
use Rattle.lx_state.specs.declared.machine.Machine.{Machine}
use Rattle.lx_state.specs.Step.{Outcome, go_on}
use Rattle.lx_objects.specs.declared.crossings.Chain.{Chain}
use Rattle.lx_objects.specs.Crossings.{lengthen, lengthen_by}

-- one register more stands
pub one_further : (line object : ℕ) (s : Shape) (left : ℕ) (chain next : Chain) (m n : Machine) (whole : Outcome Chain) → lengthen_by line object s left chain m ≡ whole → lengthen line object s chain m ≡ Ok (next, n) → 0 < left → lengthen_by line object s (left - 1) next n ≡ whole
unfolding lengthen_by
one_further line object s zero chain next m n whole is one l = absurd (omega (arith, l))
one_further line object s (suc left) chain next m n whole is one l =
    let less : suc left - 1 ≡ left = omega arith in
    rw less (ap (λ run. go_on run (λ longer. lengthen_by line object s left longer)) (sym one) ∙ is)

-- a register has a fault
pub stopped : (line object : ℕ) (s : Shape) (left : ℕ) (chain : Chain) (m : Machine) (f : Fault) (whole : Outcome Chain) → lengthen_by line object s left chain m ≡ whole → lengthen line object s chain m ≡ Err f → 0 < left → whole ≡ Err f
unfolding lengthen_by
stopped line object s zero chain m f whole is one l = absurd (omega (arith, l))
stopped line object s (suc left) chain m f whole is one l = sym is ∙ ap (λ run. go_on run (λ longer. lengthen_by line object s left longer)) one

-- all registers stand
pub none_further : (line object : ℕ) (s : Shape) (left : ℕ) (chain : Chain) (m : Machine) (whole : Outcome Chain) → lengthen_by line object s left chain m ≡ whole → left ≡ 0 → whole ≡ Ok (chain, m)
unfolding lengthen_by
none_further line object s zero chain m whole is e = sym is
none_further line object s (suc left) chain m whole is e = absurd (omega (arith, e))
