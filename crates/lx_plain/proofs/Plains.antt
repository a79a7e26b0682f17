-- Drafts stay plain while they grow by plain expressions.
use Rattle.std.proofs.Common.{◌≡◌, ℕ, true, List, [], ◌∷◌, ◌++◌, length, sym, ap, subst, ◌∙◌}
use Rattle.std.specs.Prelude.{Some, IsTrue, slice_get}
use Rattle.lx_arena.proofs.Places.{each_more, get_last, lower_at}
use Rattle.lx_fhdl.specs.Below.{stmt_below}
use Rattle.lx_fhdl.specs.Keeping.{StmtStands}
use Rattle.lx_fhdl.specs.Drafts.{DraftKeeps, ExprPut, StmtPut, TargetPut, started}
use Rattle.lx_fhdl.specs.Lowered.{is_no_pick}
use Rattle.lx_fhdl.specs.declared.design.Design.{Design}
use Rattle.lx_fhdl.specs.declared.design.Memory.{Memory}
use Rattle.lx_fhdl.specs.declared.design.Signal.{Signal}
use Rattle.lx_fhdl.specs.declared.exprs.Expr.{Expr}
use Rattle.lx_fhdl.specs.declared.stmts.Stmt.{Stmt}
use Rattle.lx_fhdl.specs.declared.stmts.Target.{Target}
use Rattle.lx_plain.specs.Lines.{lines_at}
use Rattle.lx_plain.specs.Owned.{AreOwned, all_signals}
use Rattle.lx_plain.specs.Plain.{CanAdd, ExprAdded, IsPlain, StmtAdded, TargetAdded}
use Rattle.lx_plain.specs.declared.owned.Own.{Own}
use Rattle.lx_plain.proofs.Grouping.{signals_owned}
use Rattle.lx_plain.proofs.Lining.{lines_at-is, lines_stay, node_stays}

pub start_plain : (d : Design) (ss : List Signal) (ms : List Memory) (slots : List ℕ) → d ≡ started ss ms → length slots ≡ length ss → IsPlain d slots
start_plain d ss ms slots e f = subst (λ (x : Design). IsPlain x slots) (sym e) (record { plain = λ k x h. absurd (cc); slots_long = f })

pub plain_more : (old new : Design) (slots : List ℕ) (x : Expr) (id : ℕ) → IsPlain old slots → CanAdd old x → ExprPut old new x id → IsPlain new slots
plain_more old new slots x id h can put = subst (λ (d : Design). IsPlain d slots) (sym put.is) (record { plain = each_more (λ y. is_no_pick y ≡ true) old.exprs x h.plain can.plain; slots_long = h.slots_long })

pub plain_target : (old new : Design) (slots : List ℕ) (x : Target) (id : ℕ) → IsPlain old slots → TargetPut old new x id → IsPlain new slots
plain_target old new slots x id h put = subst (λ (d : Design). IsPlain d slots) (sym put.is) (record { plain = h.plain; slots_long = h.slots_long })

pub plain_stmt : (old new : Design) (slots : List ℕ) (x : Stmt) (id : ℕ) → IsPlain old slots → StmtPut old new x id → IsPlain new slots
plain_stmt old new slots x id h put = subst (λ (d : Design). IsPlain d slots) (sym put.is) (record { plain = h.plain; slots_long = h.slots_long })

pub slots_kept : (d : Design) (slots more : List ℕ) → IsPlain d slots → length more ≡ length slots → IsPlain d more
slots_kept d slots more h e = record { plain = h.plain; slots_long = e ∙ h.slots_long }

pub owned_signals : (d : Design) (slots : List ℕ) (os : List Own) → IsPlain d slots → AreOwned d os → IsTrue (all_signals (length slots) os)
owned_signals d slots os h owned = subst (λ (n : ℕ). IsTrue (all_signals n os)) (sym h.slots_long) (signals_owned (length d.signals) (length d.stmts) os owned)

-- a node more
pub expr_added : (old new : Design) (x : Expr) (id : ℕ) → DraftKeeps old → DraftKeeps new → ExprPut old new x id → ExprAdded old new x id
expr_added old new x id h i put = record {
  grows = record { signals = ap (λ (d : Design). d.signals) put.is; memories = ap (λ (d : Design). d.memories) put.is; stays = put.stays; lines = lines_stay old new h i (ap (λ (d : Design). d.signals) put.is) put.stays };
  put = put;
}

pub target_added : (old new : Design) (x : Target) (id : ℕ) → DraftKeeps old → DraftKeeps new → TargetPut old new x id → TargetAdded old new x id
target_added old new x id h i put = record {
  grows = record { signals = ap (λ (d : Design). d.signals) put.is; memories = ap (λ (d : Design). d.memories) put.is; stays = put.stays; lines = lines_stay old new h i (ap (λ (d : Design). d.signals) put.is) put.stays };
  put = put;
}

pub stmt_added : (old new : Design) (x : Stmt) (id : ℕ) → DraftKeeps old → DraftKeeps new → StmtPut old new x id → StmtAdded old new x id
stmt_added old new x id h i put =
    let same : new.signals ≡ old.signals = ap (λ (d : Design). d.signals) put.is in
    let stay = lines_stay old new h i same put.stays in
    let found : slice_get new.stmts id ≡ Some x = ap (λ (d : Design). slice_get d.stmts id) put.is ∙ ap (slice_get (old.stmts ++ x ∷ [])) put.place ∙ get_last old.stmts x in
    let targets : length new.targets ≡ length old.targets = ap (λ (d : Design). length d.targets) put.is in
    let exprs : length new.exprs ≡ length old.exprs = ap (λ (d : Design). length d.exprs) put.is in
    let below : stmt_below x (length old.stmts) ≡ true = subst (λ (n : ℕ). stmt_below x n ≡ true) put.place (lower_at stmt_below new.stmts i.arenas.stmts_lower id x found) in
    let stands = subst (λ (n : ℕ). StmtStands n (length old.targets) x) exprs (subst (λ (m : ℕ). StmtStands (length new.exprs) m x) targets (i.arenas.stmts id x found)) in
    record {
      grows = record { signals = same; memories = ap (λ (d : Design). d.memories) put.is; stays = put.stays; lines = stay };
      put = put;
      lines = λ s. lines_at-is new s id x i.arenas.stmts_lower found ∙ node_stays old new s (length old.stmts) x same put.stays (stay s) below stands;
    }
