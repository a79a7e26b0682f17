-- Descriptions that keep all but one fact.
use Rattle.std.proofs.Common.{◌≡◌, ◌<◌, ◌≤◌, refl, ap, arith}
use Rattle.std.specs.Prelude.{codes}
use Rattle.std.specs.Str.{bytes_eq}
use Rattle.std.proofs.lemmas.Bool.{false≢true, true≢false}
use Rattle.lx_num.specs.declared.Shape.{Shape}
use Rattle.lx_arena.specs.Folds.{fold_at}
use Rattle.lx_fhdl.specs.Trees.{term_at}
use Rattle.lx_fhdl.specs.Stmts.{target_at, stmt_at}
use Rattle.lx_fhdl.specs.Designs.{circuit_of}
use Rattle.lx_description.specs.Fsms.{assigned_at}
use Rattle.lx_description.specs.Instance.{and_design, fsm_stmts_of, system, system_design, system_signals}
use Rattle.lx_description.specs.Rows.{AreRefused}

pub refused : AreRefused
unfolding and_design system system_design system_signals fsm_stmts_of circuit_of fold_at term_at target_at stmt_at assigned_at
refused = record {
  field_outside = λ k. let e : 9 ≤ 8 = (k.modules.each 1 _ refl).parts.0.fields.0.inside in omega arith;
  parts_swapped = λ k. let e : 1 ≡ 8 = ap (λ (a : Shape). a.bits) (k.modules.each 1 _ refl).parts.0.signals.0.shape in omega arith;
  module_twice = λ k. let e : 2 ≡ 1 = k.modules.once 1 (omega arith) (omega arith) in omega arith;
  module_nowhere = λ k. let e : 0 ≡ 1 = k.modules.once 1 (omega arith) (omega arith) in omega arith;
  module_in_itself = λ k. let e : 0 < 0 = (k.modules.each 0 _ refl).later.0.0 in omega arith;
  two_places = λ k. false≢true k.apart;
  driven_reset = λ k. true≢false (k.undriven 23 _ refl refl);
  other_name = λ k. true≢false (ap (bytes_eq (codes "rom")) k.top.slaves.1.0.0);
  slave_alone = λ k. absurd (cc (k.top.slaves));
  quoted = λ k. false≢true k.constants.0.value;
  no_reset = λ k. true≢false k.top.sys.1;
  no_line = λ k. let e : 1 ≤ 0 = k.lines.0 in omega arith;
}
