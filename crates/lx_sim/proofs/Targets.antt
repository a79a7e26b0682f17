-- A target of one signal, as the code has it.
use Rattle.std.proofs.Common.{◌≡◌, ℕ, true, false, ◌+◌, ◌<◌, ◌≤◌, length, subst, arith, List}
use Rattle.std.specs.Prelude.{Some, slice_get}
use Rattle.lx_circuit.specs.Statements as tree
use Rattle.lx_fhdl.specs.Below.{ExprId, TargetId}
use Rattle.lx_fhdl.specs.Keeping.{IsSignal, Keeps}
use Rattle.lx_fhdl.specs.Lowered.{is_plain_target}
use Rattle.lx_fhdl.specs.declared.exprs.SigId.{SigId}
use Rattle.lx_fhdl.specs.declared.stmts.Target.TheVariants as node
use Rattle.lx_fhdl.specs.declared.design.Signal.{Signal}
use Rattle.lx_fhdl.specs.declared.design.Design.{Design}
use Rattle.lx_fhdl.proofs.Designs.{signal_most}
use Rattle.lx_fhdl.proofs.Resets.{each_of_at}
use Rattle.lx_sheet.proofs.Inside.{target_is}
use Rattle.lx_sim.specs.Blocks.{IsOwnTarget}

pub whole_there : (d : Design) (x : ℕ) (id : TargetId) (y : SigId) → IsOwnTarget d x id → slice_get d.targets id.place ≡ Some (node.Whole y) → y.0 < length d.signals
whole_there d x id y own found = own.keeps.arenas.targets id.place (node.Whole y) found

pub signal_is : (d : Design) (x : ℕ) (s : Signal) → Keeps d → slice_get d.signals x ≡ Some s → IsSignal s
signal_is d x s keeps found = each_of_at IsSignal d.signals keeps.signals x s found

pub part_some : (d : Design) (x : ℕ) (id : TargetId) (y : SigId) (low len : ℕ) → IsOwnTarget d x id → slice_get d.targets id.place ≡ Some (node.Part y low len) → 1 ≤ len
part_some d x id y low len own found = (own.keeps.arenas.targets id.place (node.Part y low len) found).1

pub part_within : (d : Design) (x : ℕ) (id : TargetId) (y : SigId) (low len : ℕ) → IsOwnTarget d x id → slice_get d.targets id.place ≡ Some (node.Part y low len) → low + len ≤ 64
part_within d x id y low len own found = let fits = (own.keeps.arenas.targets id.place (node.Part y low len) found).2 in let most = signal_most d own.keeps y.0 in omega (arith, fits, most)

pub no_cat : (d : Design) (x : ℕ) (id : TargetId) (parts : List TargetId) → IsOwnTarget d x id → slice_get d.targets id.place ≡ Some (node.Cat parts) → ⊥
no_cat d x id parts own found = let e : false ≡ true = subst (λ (t : tree.Target). is_plain_target x t ≡ true) (target_is d id.place (node.Cat parts) own.keeps found) own.alone in absurd cc

pub no_pick : (d : Design) (x : ℕ) (id : TargetId) (items : List TargetId) (index : ExprId) → IsOwnTarget d x id → slice_get d.targets id.place ≡ Some (node.Pick items index) → ⊥
no_pick d x id items index own found = let e : false ≡ true = subst (λ (t : tree.Target). is_plain_target x t ≡ true) (target_is d id.place (node.Pick items index) own.keeps found) own.alone in absurd cc
