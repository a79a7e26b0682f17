-- What a design means and keeps, on one design and on designs that are nearly like it.
use Rattle.std.proofs.Common.{◌≡◌, ℕ, ◌<◌, ◌≤◌, ◌^◌, Some, None, refl, ap, arith, true≢false}
use Rattle.lx_num.specs.declared.Shape.{Shape}
use Rattle.lx_num.proofs.Ranges.{fits_pos}
use Rattle.lx_arena.specs.Folds.{fold_at}
use Rattle.lx_circuit.specs.Circuit.{Input, Comb}
use Rattle.lx_fhdl.specs.Trees.{term_at}
use Rattle.lx_fhdl.specs.Stmts.{target_at, stmt_at}
use Rattle.lx_fhdl.specs.Designs.{circuit_of}
use Rattle.lx_fhdl.specs.Instance.{instance_exprs, instance_targets, instance_stmts, instance_signals, instance_memories, instance_ports, instance}
use Rattle.lx_fhdl.specs.Rows.{AreWorked, NodesAreWorked, AreSpelled, AreRefused}

pub worked : AreWorked
unfolding instance_exprs instance_targets instance_stmts instance_signals instance_memories instance_ports instance circuit_of fold_at term_at target_at stmt_at
worked = record {
  input = refl;
  reset = refl;
  comb = refl;
  registered = refl;
  read = refl;
  given = refl;
  word = refl;
  reader = refl;
  writer = refl;
  memory = refl;
  parts = refl;
}

pub nodes : NodesAreWorked
nodes = record { wrapped = refl; before = refl; after = refl; too_early = refl; late = refl }

pub spelled : AreSpelled
spelled = record { name = refl; word = refl; digit = refl; dot = refl; none = refl }

comb_input : Comb ≡ Input → ⊥
comb_input e = absurd (cc)

some_none : (k : ℕ) → Some k ≡ None → ⊥
some_none k e = absurd (cc)

pub refused : AreRefused
unfolding instance_exprs instance_targets instance_stmts instance_signals instance_memories instance_ports instance circuit_of fold_at term_at target_at stmt_at
refused = record {
  other_width = λ k. let e : 7 ≡ 8 = k.arenas.named 8 _ refl in omega arith;
  no_memory = λ k. k.arenas.named 8 _ refl;
  signed_index = λ k. true≢false (k.arenas.indices 9 _ refl);
  no_signal = λ k. let e : 13 < 13 = k.arenas.named 8 _ refl in omega arith;
  driven_reset = λ k. comb_input k.domains.0.reset.input;
  content_too_large = λ k. let e : 256 < 2 ^ 8 = k.memories.0.contents.0 in omega arith;
  contents_past_the_depth = λ k. let e : 4 ≤ 3 = k.memories.0.contents_most in omega arith;
  needless_clock = λ k. some_none 0 k.ports.0.domain;
  no_clock = λ k. k.ports.0.domain;
  wide_address = λ k. let e : 3 ≤ 2 = k.ports.0.adr.fewest.fewest 2 (omega arith) (fits_pos 2 2 (omega arith)) in omega arith;
  narrow_data = λ k. let e : 3 ≡ 8 = ap (λ (a : Shape). a.bits) k.ports.0.writer.0.shape in omega arith;
  lone_enable = λ k. let e : 1 ≡ 2 = ap (λ (a : Shape). a.bits) k.ports.0.writer.1.shape in omega arith;
  uneven_parts = λ k. let e : 2 ≡ 0 = k.ports.0.parts in omega arith;
}
