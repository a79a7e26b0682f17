-- What each call of a draft gives.
use Rattle.std.proofs.Common.{◌≡◌, ℕ, ◌+◌, ◌≤◌, Bool, true, false, ◌&&◌, List, ◌∷◌, [], ◌++◌, Some, None, length, slice_get, nat_lt, nat_le, refl, sym, ap, ◌∙◌, inl, inr}
use Rattle.std.specs.Prelude.{Ok, Err}
use Rattle.std.proofs.lemmas.Bool.{cases_lt, lt-ltb, le-ltb, le-leb}
use Rattle.std.proofs.lemmas.Option.{slice_get_within}
use Rattle.lx_num.specs.declared.Shape.{Shape}
use Rattle.lx_arena.proofs.Places.{node_there}
use Rattle.lx_circuit.specs.declared.WidthFault.{WidthFault}
use Rattle.lx_fhdl.specs.Below.{ExprId, TargetId, StmtId}
use Rattle.lx_fhdl.specs.Designs.{shapes}
use Rattle.lx_fhdl.specs.Drafts.{MemoryPut, SignalPut, DraftKeeps, CanAddExpr, CanAddTarget, ExprPut, TargetPut, StmtPut}
use Rattle.lx_fhdl.specs.Instance.{the_expr, the_signal, the_target, the_stmt}
use Rattle.lx_fhdl.specs.declared.design.Design.{Design}
use Rattle.lx_fhdl.specs.Kept.{is_memory, is_signal}
use Rattle.lx_fhdl.specs.declared.design.Memory.{Memory}
use Rattle.lx_fhdl.specs.declared.design.Signal.{Signal}
use Rattle.lx_fhdl.specs.declared.exprs.SigId.{SigId}
use Rattle.lx_fhdl.specs.declared.exprs.Expr.{Expr}
use Rattle.lx_fhdl.specs.declared.stmts.Stmt.{Stmt}
use Rattle.lx_fhdl.specs.declared.stmts.Target.{Target}
use Rattle.lx_width.specs.Width.{node_result, shape_of_one}
use Rattle.lx_width.specs.Shapes.{AreShapes}
use Rattle.lx_shaped.specs.Making.{judged, unless, expr_stands, expr_fault, expr_shape, shape_made, make_expr, target_in, target_fault, target_width, make_target, stmt_in, make_stmt, make_signal, make_memory}
use Rattle.lx_shaped.specs.declared.outcome.Outcome.TheVariants.{Made, Faulty, Misplaced}
use Rattle.lx_shaped.proofs.Additions.{can_add_expr, can_add_target, expr_stands-is}
use Rattle.lx_shaped.proofs.Outcomes.{IsMade, judged_made, other_made, other_faulty, other_misplaced, not_there, there_faulty, unless_ok, unless_err, judged_ok, judged_err}
use Rattle.lx_width.proofs.Shaped.{signal_is}
use Rattle.lx_shaped.proofs.Reading.{node_is}

-- ---- the shape of an expression

pub shape_misplaced : (x : Expr) (d : Design) → expr_stands x d ≡ false → Misplaced ≡ shape_made x d
unfolding shape_made
shape_misplaced x d e = sym (ap (λ (b : Bool). judged b (expr_fault x d) (expr_shape x d)) e)

pub shape_ok : (x : Expr) (d : Design) (hs : List Shape) (a : Shape) → DraftKeeps d → AreShapes d hs → expr_stands x d ≡ true → Ok a ≡ node_result d.signals hs x → Made a ≡ shape_made x d
unfolding shape_made
shape_ok x d hs a keep h b e = sym (judged_ok (expr_stands x d) (expr_fault x d) (expr_shape x d) a b (sym (node_is d hs x keep h (expr_stands-is x d b).below) ∙ sym e))

pub shape_err : (x : Expr) (d : Design) (hs : List Shape) (g : WidthFault) → DraftKeeps d → AreShapes d hs → expr_stands x d ≡ true → Err g ≡ node_result d.signals hs x → Faulty g ≡ shape_made x d
unfolding shape_made
shape_err x d hs g keep h b e = sym (judged_err (expr_stands x d) (expr_fault x d) (expr_shape x d) g b (sym (node_is d hs x keep h (expr_stands-is x d b).below) ∙ sym e))

-- ---- an expression

made_so : (x : Expr) (d : Design) (a : Shape) → Made a ≡ shape_made x d → IsMade (expr_stands x d) (expr_fault x d) (expr_shape x d) a
unfolding shape_made
made_so x d a e = judged_made (expr_stands x d) (expr_fault x d) (expr_shape x d) a (sym e)

pub expr_can : (x : Expr) (d : Design) (a : Shape) → Made a ≡ shape_made x d → CanAddExpr d x
expr_can x d a e = let h = made_so x d a e in can_add_expr x d h.stands h.sound

pub expr_has : (x : Expr) (d : Design) (a : Shape) → Made a ≡ shape_made x d → a ≡ expr_shape x d
expr_has x d a e = (made_so x d a e).value

pub expr_made : (x : Expr) (d new : Design) (a : Shape) (id : ExprId) → Made a ≡ shape_made x d → ExprPut d new x id.place → (Made id, new) ≡ make_expr x d
unfolding make_expr
expr_made x d new a id e put =
    let h = made_so x d a e in
    rw (put.is) (ap (λ (k : ℕ). (Made (the_expr k), record d { exprs = d.exprs ++ x ∷ [] })) put.place ∙ sym (other_made (expr_stands x d) (expr_fault x d) (the_expr (length d.exprs)) (record d { exprs = d.exprs ++ x ∷ [] }) d h.stands h.sound))

pub expr_faulty : (x : Expr) (d : Design) (g : WidthFault) → Faulty g ≡ shape_made x d → (Faulty g, d) ≡ make_expr x d
unfolding make_expr shape_made
expr_faulty x d g e = sym (other_faulty (expr_stands x d) (expr_fault x d) (expr_shape x d) (the_expr (length d.exprs)) (record d { exprs = d.exprs ++ x ∷ [] }) d g (sym e))

pub expr_misplaced : (x : Expr) (d : Design) → Misplaced ≡ shape_made x d → (Misplaced, d) ≡ make_expr x d
unfolding make_expr shape_made
expr_misplaced x d e = sym (other_misplaced (expr_stands x d) (expr_fault x d) (expr_shape x d) (the_expr (length d.exprs)) (record d { exprs = d.exprs ++ x ∷ [] }) d (sym e))

-- ---- a target

-- bits low to low + len - 1 of a signal that is there
pub part_in : (d : Design) (x low len : ℕ) (s : Signal) → slice_get d.signals x ≡ Some s → 1 ≤ len → nat_le (low + len) s.shape.bits ≡ (nat_lt x (length d.signals) && (nat_le 1 len && nat_le (low + len) (shapes d x).bits))
part_in d x low len s e l =
    let there : nat_lt x (length d.signals) ≡ true = lt-ltb x (length d.signals) (slice_get_within d.signals x s e) in
    let some : nat_le 1 len ≡ true = le-leb 1 len l in
    let bits : shapes d x ≡ s.shape = signal_is d x ∙ ap shape_of_one e in
    rw (there, some, bits) refl

pub part_out : (d : Design) (x : ℕ) (b : Bool) → slice_get d.signals x ≡ None → false ≡ (nat_lt x (length d.signals) && b)
part_out d x b e =
    elim (cases_lt x (length d.signals)) [
      | inl l ↦ let (s, there) = node_there d.signals x l in absurd (cc)
      | inr l ↦ sym (ap (λ (c : Bool). c && b) (le-ltb x (length d.signals) l))
    ]

pub target_can : (x : Target) (d : Design) (n : ℕ) → target_in x d ≡ true → Ok n ≡ unless (target_fault x d) (target_width x d) → CanAddTarget d x
target_can x d n b e = can_add_target x d b (unless_ok (target_fault x d) (target_width x d) n (sym e)).0

pub target_has : (x : Target) (d : Design) (n : ℕ) → Ok n ≡ unless (target_fault x d) (target_width x d) → n ≡ target_width x d
target_has x d n e = (unless_ok (target_fault x d) (target_width x d) n (sym e)).1

pub target_made : (x : Target) (d new : Design) (n : ℕ) (id : TargetId) → target_in x d ≡ true → Ok n ≡ unless (target_fault x d) (target_width x d) → TargetPut d new x id.place → (Made id, new) ≡ make_target x d
unfolding make_target
target_made x d new n id b e put =
    let sound = (unless_ok (target_fault x d) (target_width x d) n (sym e)).0 in
    rw (put.is) (ap (λ (k : ℕ). (Made (the_target k), record d { targets = d.targets ++ x ∷ [] })) put.place ∙ sym (other_made (target_in x d) (target_fault x d) (the_target (length d.targets)) (record d { targets = d.targets ++ x ∷ [] }) d b sound))

pub target_faulty : (x : Target) (d : Design) (g : WidthFault) → target_in x d ≡ true → Err g ≡ unless (target_fault x d) (target_width x d) → (Faulty g, d) ≡ make_target x d
unfolding make_target
target_faulty x d g b e = sym (there_faulty (target_in x d) (target_fault x d) (the_target (length d.targets)) (record d { targets = d.targets ++ x ∷ [] }) d g b (unless_err (target_fault x d) (target_width x d) g (sym e)))

pub target_misplaced : (x : Target) (d : Design) → target_in x d ≡ false → (Misplaced, d) ≡ make_target x d
unfolding make_target
target_misplaced x d e = sym (not_there (target_in x d) (target_fault x d) (the_target (length d.targets)) (record d { targets = d.targets ++ x ∷ [] }) d e)

-- ---- a statement

pub stmt_made : (x : Stmt) (d new : Design) (id : StmtId) → stmt_in x d ≡ true → StmtPut d new x id.place → (Made id, new) ≡ make_stmt x d
unfolding make_stmt
stmt_made x d new id b put =
    rw (put.is) (ap (λ (k : ℕ). (Made (the_stmt k), record d { stmts = d.stmts ++ x ∷ [] })) put.place ∙ sym (other_made (stmt_in x d) None (the_stmt (length d.stmts)) (record d { stmts = d.stmts ++ x ∷ [] }) d b refl))

pub stmt_misplaced : (x : Stmt) (d : Design) → stmt_in x d ≡ false → (Misplaced, d) ≡ make_stmt x d
unfolding make_stmt
stmt_misplaced x d e = sym (not_there (stmt_in x d) None (the_stmt (length d.stmts)) (record d { stmts = d.stmts ++ x ∷ [] }) d e)

-- ---- a signal, a memory

pub signal_made : (x : Signal) (d new : Design) (id : SigId) → is_signal x ≡ true → SignalPut d new x id.0 → (Made id, new) ≡ make_signal x d
unfolding make_signal
signal_made x d new id b put =
    rw (put.is) (ap (λ (k : ℕ). (Made (the_signal k), record d { signals = d.signals ++ x ∷ [] })) put.place ∙ sym (other_made (is_signal x) None (the_signal (length d.signals)) (record d { signals = d.signals ++ x ∷ [] }) d b refl))

pub signal_misplaced : (x : Signal) (d : Design) → is_signal x ≡ false → (Misplaced, d) ≡ make_signal x d
unfolding make_signal
signal_misplaced x d e = sym (not_there (is_signal x) None (the_signal (length d.signals)) (record d { signals = d.signals ++ x ∷ [] }) d e)

pub memory_made : (x : Memory) (d new : Design) (place : ℕ) → is_memory x ≡ true → MemoryPut d new x place → (Made place, new) ≡ make_memory x d
unfolding make_memory
memory_made x d new place b put =
    rw (put.is) (ap (λ (k : ℕ). (Made k, record d { memories = d.memories ++ x ∷ [] })) put.place ∙ sym (other_made (is_memory x) None (length d.memories) (record d { memories = d.memories ++ x ∷ [] }) d b refl))

pub memory_misplaced : (x : Memory) (d : Design) → is_memory x ≡ false → (Misplaced, d) ≡ make_memory x d
unfolding make_memory
memory_misplaced x d e = sym (not_there (is_memory x) None (length d.memories) (record d { memories = d.memories ++ x ∷ [] }) d e)
