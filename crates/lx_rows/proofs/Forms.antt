-- The design keeps what designs keep, and can be written.
use Rattle.std.proofs.Common.{◌≡◌, ℕ, zero, suc, ◌<◌, arith, Bool, true, false, ◌&&◌, ◌||◌, List, length, nat_eq, refl, sym, subst, inl, inr}
use Rattle.std.specs.List.{list_all}
use Rattle.std.proofs.lemmas.Bool.{or_cases}
use Rattle.lx_tables.specs.VerilogWords.{verilog_words}
use Rattle.lx_arena.specs.Folds.{fold_at}
use Rattle.lx_circuit.specs.Places.{Place}
use Rattle.lx_circuit.specs.Circuit as circuit
use Rattle.lx_circuit.specs.Circuit.{Circuit, Role, role}
use Rattle.lx_circuit.specs.Reads.{HasOrder, reads_block, role_reads}
use Rattle.lx_vtext.specs.Names.{is_name}
use Rattle.lx_vtext.specs.Tree.{Name}
use Rattle.lx_fhdl.specs.Trees.{term_at}
use Rattle.lx_fhdl.specs.Stmts.{target_at, stmt_at}
use Rattle.lx_fhdl.specs.Designs.{circuit_of}
use Rattle.lx_fhdl.specs.Keeping.{Keeps}
use Rattle.lx_fhdl.specs.Kept.{is_kept}
use Rattle.lx_fhdl.specs.declared.design.Design.{Design}
use Rattle.lx_fhdl.proofs.Kept.{is_kept-is}
use Rattle.lx_emission.specs.Naming.{NamesFit, clock, clock_name, is_among, node_name}
use Rattle.lx_emission.specs.Emits.{MemoriesFit, PortsFit}
use Rattle.lx_emission.proofs.Roles.{no_reads}
use Rattle.lx_write.specs.Writes.{CanBeWritten}
use Rattle.lx_rows.specs.Forms.{case_stmts, first_exprs, first_targets, forms, forms_exprs, forms_names, forms_signals, forms_stmts, forms_targets, if_stmts, more_exprs}

keeps : Keeps forms
unfolding first_exprs more_exprs forms_exprs first_targets forms_targets if_stmts case_stmts forms_stmts forms_signals forms circuit_of fold_at term_at target_at stmt_at is_kept
keeps = is_kept-is forms refl

-- no signal reads another in the same moment
reads_none : (x : ℕ) (y : Place) → reads_block x y (circuit_of forms).comb ≡ true → ⊥
unfolding first_exprs more_exprs forms_exprs first_targets forms_targets if_stmts case_stmts forms_stmts forms_signals forms circuit_of fold_at term_at target_at stmt_at
reads_none x y h = by (nat_eq 9 x) h
  where
    by : (b : Bool) → (b && false) || ((b && false) || false) ≡ true → ⊥
    by true h = cc
    by false h = cc

role_reads_none : (x : ℕ) (y : Place) → role_reads (circuit_of forms) y (role (circuit_of forms) x) ≡ true → ⊥
unfolding forms circuit_of
role_reads_none x y = by (role (circuit_of forms) x) refl
  where
    by : (r : Role) → role (circuit_of forms) x ≡ r → role_reads (circuit_of forms) y r ≡ true → ⊥
    by circuit.Input e t = cc
    by circuit.Comb e t = cc
    by (circuit.Sync k) e t = cc
    by (circuit.Read j) e t = no_reads (circuit_of forms) tt x j e
    by circuit.Undriven e t = cc

order : HasOrder (circuit_of forms)
order = record {
  rank = λ p. 0;
  after = λ x y e. elim (or_cases (reads_block x y (circuit_of forms).comb) (role_reads (circuit_of forms) y (role (circuit_of forms) x)) e) [ inl p ↦ absurd (reads_none x y p) | inr p ↦ absurd (role_reads_none x y p) ];
}

clocks : (k : ℕ) → k < length forms.domains → is_among (clock forms k) forms_names ≡ false
unfolding forms clock_name
clocks zero l = refl
clocks (suc k) l = absurd (omega arith)

named : NamesFit forms forms_names
unfolding first_exprs more_exprs forms_exprs first_targets forms_targets if_stmts case_stmts forms_stmts forms_signals forms node_name clock_name is_name verilog_words
named = record { long = refl; lawful = refl; distinct = refl; clocks = clocks; nodes = λ n. refl }

io : PortsFit forms
unfolding first_exprs more_exprs forms_exprs first_targets forms_targets if_stmts case_stmts forms_stmts forms_signals forms circuit_of
io = record { once = refl; resets = refl }

stored : MemoriesFit forms
unfolding forms circuit_of
stored = record { show_nothing = tt; one_domain = tt }

pub forms_keeps : (d : Design) → d ≡ forms → Keeps d
forms_keeps d e = subst Keeps (sym e) keeps

can : CanBeWritten forms forms_names
unfolding forms
can = record { keeps = keeps; order = order; named = named; ports = io; memories = stored }

pub forms_can : (d : Design) (names : List Name) → d ≡ forms → names ≡ forms_names → CanBeWritten d names
forms_can d names e f = subst (λ (x : Design). CanBeWritten x names) (sym e) (subst (λ (x : List Name). CanBeWritten forms x) (sym f) can)
