-- The test of one FSM, part by part.
use Rattle.std.proofs.Common.{◌≡◌, ℕ, ◌<◌, ◌≤◌, Bool, true, false, ◌&&◌, ◌||◌, nat_le, nat_eq, List, length, refl, ◌∙◌, ap, arith}
use Rattle.std.specs.Prelude.{map}
use Rattle.std.specs.List.{list_all}
use Rattle.std.proofs.lemmas.Bool.{and_left, le-leb, lt-leb}
use Rattle.lx_fhdl.specs.Keeping.{block_depth, is_distinct}
use Rattle.lx_fhdl.specs.Kept.{is_address, is_unsigned}
use Rattle.lx_fhdl.specs.declared.design.Design.{Design}
use Rattle.lx_description.specs.Below.{FsmStmtId, all_fsm_below}
use Rattle.lx_description.specs.Fsms.{assigned}
use Rattle.lx_description.specs.Kept.{is_body, is_fsm, is_place}
use Rattle.lx_description.specs.declared.description.Description.{Description}
use Rattle.lx_description.specs.declared.fsms.Asked.{Asked}
use Rattle.lx_description.specs.declared.fsms.FsmDecl.{FsmDecl}
use Rattle.lx_description.specs.declared.fsms.StateDecl.{StateDecl}
use Rattle.lx_fsm_kept.specs.Depths.{AreDepths, deepest, stmt_tree}
use Rattle.lx_fsm_kept.specs.Names.{asked_names, state_names}
use Rattle.lx_fsm_kept.proofs.Deeper.{block_told, depth_tells}

-- a state with a statement that isn't there
pub body_missing : (d : Description) (s : StateDecl) → all_fsm_below (length d.fsm_stmts) s.body ≡ false → is_body d s ≡ false
body_missing d s e = rw e refl

pub body_told : (d : Description) (depths : List ℕ) (s : StateDecl) → AreDepths d.design d.fsm_stmts (length d.fsm_stmts) depths → all_fsm_below (length d.fsm_stmts) s.body ≡ true → nat_le (deepest depths s.body) 64 ≡ is_body d s
body_told d depths s are e =
    rw (e, block_told (stmt_tree d.design d.fsm_stmts) (length d.fsm_stmts) depths s.body are e) (depth_tells (block_depth (assigned d s.body)))

-- more states than 256
pub too_many : (d : Description) (f : FsmDecl) → 256 < length f.states → is_fsm d f ≡ false
too_many d f l = and_left (nat_le (length f.states) 256 && is_distinct (state_names f.states)) _ (and_left (nat_le (length f.states) 256) (is_distinct (state_names f.states)) (lt-leb (length f.states) 256 l))

pub not_more : (d : Description) (f : FsmDecl) → length f.states ≤ 256
    → is_fsm d f ≡ (is_distinct (state_names f.states)
    && ((list_all (is_body d) f.states && (nat_eq (length f.states) 0 || is_address d.design (length f.states) f.state))
    && ((list_all (λ (a : Asked). is_unsigned d.design 1 a.signal) f.asked && is_distinct (asked_names f.asked)) && is_place d.design f.place)))
not_more d f l = rw (le-leb (length f.states) 256 l) refl
