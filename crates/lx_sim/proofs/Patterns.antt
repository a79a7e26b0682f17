-- A pattern whose bits are taken from a number, as a target takes them.
use Rattle.std.proofs.Common.{◌≡◌, ℕ, true, ◌+◌, ◌*◌, ◌/◌, ◌%◌, ◌^◌, sym, ◌∙◌, ap, subst, arith}
use Rattle.std.specs.Prelude.{ℤ, pos, Some, ◌≤ℤ◌, ◌<ℤ◌, slice_get}
use Rattle.std.proofs.Math.Nat.{mul_comm}
use Rattle.lx_num.specs.Ints.{modulo}
use Rattle.lx_num.specs.Fields.{with_field_of}
use Rattle.lx_circuit.specs.Statements.{after_pieces, laid_over, pieces}
use Rattle.lx_circuit.specs.Statements as tree
use Rattle.lx_fhdl.specs.Below.{TargetId}
use Rattle.lx_fhdl.specs.Designs.{shapes, target}
use Rattle.lx_fhdl.specs.Keeping.{Keeps}
use Rattle.lx_fhdl.specs.Lowered.{is_plain_target}
use Rattle.lx_fhdl.specs.declared.exprs.SigId.{SigId}
use Rattle.lx_fhdl.specs.declared.stmts.Target.TheVariants as node
use Rattle.lx_fhdl.specs.declared.design.Design.{Design}
use Rattle.lx_sheet.proofs.Inside.{target_is}
use Rattle.lx_emission.proofs.Pieces.{after_piece}
use Rattle.lx_sim.specs.Blocks.{IsTargetRun}

laid_is : (q low len : ℕ) (z : ℤ) → with_field_of (pos q) low len z ≡ pos (laid_over q low len z)
laid_is q low len z =
    let a = mul_comm (q / 2 ^ (low + len)) (2 ^ (low + len)) in
    let b = mul_comm (modulo z (2 ^ len)) (2 ^ low) in
    ap pos (let e : q / 2 ^ (low + len) * 2 ^ (low + len) + (modulo z (2 ^ len) * 2 ^ low + q % 2 ^ low) ≡ laid_over q low len z = omega (arith, a, b) in e)

pub whole_run : (d : Design) (x : ℕ) (id : TargetId) (y : SigId) (z p r : ℤ) → Keeps d → slice_get d.targets id.place ≡ Some (node.Whole y) → is_plain_target x (target d id.place) ≡ true
    → r ≡ with_field_of p 0 (shapes d y.0).bits z → pos 0 ≤ℤ r → r <ℤ pos (2 ^ 64) → IsTargetRun d x id z p r
whole_run d x id y z p r keeps found alone e low high =
    let same : target d id.place ≡ tree.Whole y.0 = target_is d id.place (node.Whole y) keeps found in
    record {
      pattern = record { from_zero = low; within = high };
      is = λ v q pq.
          e ∙ (ap (λ (k : ℤ). with_field_of k 0 (shapes d y.0).bits z) pq ∙ (laid_is q 0 (shapes d y.0).bits z
          ∙ ap pos (sym (after_piece x y.0 q 0 (shapes d y.0).bits z (subst (λ (t : tree.Target). is_plain_target x t ≡ true) same alone))
          ∙ ap (λ (t : tree.Target). after_pieces x q (pieces (shapes d) v t z)) (sym same))));
    }

pub part_run : (d : Design) (x : ℕ) (id : TargetId) (y : SigId) (low len : ℕ) (z p r : ℤ) → Keeps d → slice_get d.targets id.place ≡ Some (node.Part y low len) → is_plain_target x (target d id.place) ≡ true
    → r ≡ with_field_of p low len z → pos 0 ≤ℤ r → r <ℤ pos (2 ^ 64) → IsTargetRun d x id z p r
part_run d x id y low len z p r keeps found alone e from below =
    let same : target d id.place ≡ tree.Part y.0 low len = target_is d id.place (node.Part y low len) keeps found in
    record {
      pattern = record { from_zero = from; within = below };
      is = λ v q pq.
          e ∙ (ap (λ (k : ℤ). with_field_of k low len z) pq ∙ (laid_is q low len z
          ∙ ap pos (sym (after_piece x y.0 q low len z (subst (λ (t : tree.Target). is_plain_target x t ≡ true) same alone))
          ∙ ap (λ (t : tree.Target). after_pieces x q (pieces (shapes d) v t z)) (sym same))));
    }
