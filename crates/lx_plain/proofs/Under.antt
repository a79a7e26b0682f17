-- Statements under a condition, signal by signal.
use Rattle.std.proofs.Common.{◌≡◌, ℕ, ◌+◌, ◌<◌, ◌≤◌, Bool, true, false, ◌&&◌, cond, List, [], ◌∷◌, ◌++◌, length, refl, sym, ap, subst, ◌∙◌, arith, nat_lt, nat_eq, eq-eqb, eqb-true, inl, inr, ne_eqb}
use Rattle.std.specs.Prelude.{IsTrue}
use Rattle.std.proofs.lemmas.List.{append-nil}
use Rattle.std.proofs.lemmas.Bool.{and_from, cases_lt, eqb-false, lt-ltb, le-ltb}
use Rattle.lx_circuit.specs.Statements as tree
use Rattle.lx_circuit.specs.Statements.{Block, Done, Then}
use Rattle.lx_circuit.specs.Terms.{Term}
use Rattle.lx_fhdl.specs.Below.{ExprId, StmtId, all_stmts_below}
use Rattle.lx_fhdl.specs.Designs as design
use Rattle.lx_fhdl.specs.Designs.{block, term}
use Rattle.lx_fhdl.specs.Drafts.{CanAddStmt}
use Rattle.lx_fhdl.specs.Stmts.{block_at}
use Rattle.lx_fhdl.specs.declared.design.Design.{Design}
use Rattle.lx_fhdl.specs.declared.stmts.Stmt.TheVariants as stmt
use Rattle.lx_lowering.specs.Flat.{append, one}
use Rattle.lx_lowering.specs.Split.{lone_if}
use Rattle.lx_plain.specs.Lines.{Assigned, inside, lines, lines_at, lines_in, under}
use Rattle.lx_plain.specs.Owned.{node_lines_of, own_lines, tree_of, AreGrouped, AreGroups, AreOwned, GroupStands, PutGroup, PutOne, PutUnder, else_of, group_at, has_group, ids_at, ids_of, own, slot_at, then_of}
use Rattle.lx_plain.specs.Plain.{Grows}
use Rattle.lx_plain.specs.declared.groups.Group.{Group}
use Rattle.lx_plain.specs.declared.owned.Own.{Own}
use Rattle.lx_plain.proofs.Grouping.{side_there}
use Rattle.lx_plain.proofs.Lining.{lines_under, under_append}
use Rattle.lx_plain.proofs.Puts.{lines_kept, as_many, block_kept, ids_there, owned_kept}
use Rattle.lx_plain.proofs.Sound.{grows_same, grows_then, term_kept}
use Rattle.lx_lowering.proofs.Appends.{append_done}

-- ---- one group

pub group_none : (d : Design) (a : List Own) (c : Term) (g : Group) (line : ℕ) → AreOwned d a → g.then_ ≡ [] → g.else_ ≡ [] → PutGroup d d a a c g line
group_none d a c g line h e f = record {
  grows = grows_same d;
  owned = h;
  here =
      sym (append_done (own d a g.signal.0))
      ∙ ap (append (own d a g.signal.0)) (sym (ap (λ (is : List StmtId). lone_if c (block d is) (block d g.else_)) e ∙ ap (λ (is : List StmtId). lone_if c Done (block d is)) f));
  others = λ y n. refl;
  lines =
      sym (append-nil (own_lines d a g.signal.0))
      ∙ ap (λ (xs : List Assigned). own_lines d a g.signal.0 ++ xs) (sym (ap (λ (is : List StmtId). under line (lines d g.signal.0 is ++ lines d g.signal.0 g.else_)) e ∙ ap (λ (is : List StmtId). under line (lines d g.signal.0 is)) f));
  other_lines = λ y n. refl;
}

pub group_added : (d : Design) (on : ExprId) (g : Group) (line : ℕ) → on.place < length d.exprs → GroupStands d g → CanAddStmt d (stmt.If ((record { cond = on; body = g.then_ }) ∷ []) g.else_ line)
group_added d on g line l h =
    let n = length d.stmts in
    record {
      below = search (and_from (all_stmts_below n g.then_ && true) (all_stmts_below n g.else_) (and_from (all_stmts_below n g.then_) true (search h.then_) refl) (search h.else_));
      stands = (l, tt);
    }

lone_some : (c : Term) (b rest : Block) → (b ≡ Done → rest ≡ Done → ⊥) → one (tree.If (tree.Branch c b tree.NoBranch) rest) ≡ lone_if c b rest
lone_some c Done Done h = absurd (h refl refl)
lone_some c Done (Then s ss) h = refl
lone_some c (Then s ss) rest h = refl

no_block : (f : ℕ → tree.Stmt) (ids : List StmtId) → block_at f ids ≡ Done → ids ≡ []
no_block f [] e = refl
no_block f (i ∷ is) e = absurd (cc)

pub group_put : (x y : Design) (a b : List Own) (on : ExprId) (g : Group) (line : ℕ) → (g.then_ ≡ [] → g.else_ ≡ [] → ⊥) → PutOne x y a b g.signal.0 (tree_of x (stmt.If ((record { cond = on; body = g.then_ }) ∷ []) g.else_ line)) (node_lines_of x g.signal.0 (stmt.If ((record { cond = on; body = g.then_ }) ∷ []) g.else_ line))
    → PutGroup x y a b (term x on.place) g line
group_put x y a b on g line some p = record {
  grows = p.grows;
  owned = p.owned;
  here = p.here ∙ ap (append (own x a g.signal.0)) (lone_some (term x on.place) (block x g.then_) (block x g.else_) (λ e f. some (no_block (design.stmt x) g.then_ e) (no_block (design.stmt x) g.else_ f)));
  others = p.others;
  lines =
      p.lines
      ∙ ap (λ (xs : List Assigned). own_lines x a g.signal.0 ++ (xs ++ lines_in (inside true line (lines_at x g.signal.0)) g.else_))
      (append-nil (lines_in (inside true line (lines_at x g.signal.0)) g.then_) ∙ lines_under line (lines_at x g.signal.0) g.then_)
      ∙ ap (λ (xs : List Assigned). own_lines x a g.signal.0 ++ (under line (lines x g.signal.0 g.then_) ++ xs)) (lines_under line (lines_at x g.signal.0) g.else_)
      ∙ ap (λ (xs : List Assigned). own_lines x a g.signal.0 ++ xs) (sym (under_append line (lines x g.signal.0 g.then_) (lines x g.signal.0 g.else_)));
  other_lines = p.other_lines;
}

-- ---- all of them

-- what the first k groups give a signal
abbrev pub part : Design → Term → List ℕ → List Group → ℕ → ℕ → Block
part d c slots gs k x = cond (has_group slots gs k x) (lone_if c (block d (ids_at then_of slots gs (length gs) x)) (block d (ids_at else_of slots gs (length gs) x))) Done

abbrev pub part_lines : Design → ℕ → List ℕ → List Group → ℕ → ℕ → List Assigned
part_lines d line slots gs k x = cond (has_group slots gs k x) (under line (lines d x (ids_at then_of slots gs (length gs) x) ++ lines d x (ids_at else_of slots gs (length gs) x))) []

pub record UnderSome (old new : Design) (before after : List Own) (c : Term) (then_ else_ : List Own) (line : ℕ) (gs : List Group) (k : ℕ) : Type 0 where
  pub table : List ℕ
  pub groups : AreGroups (length old.signals) table gs (λ x. ids_of x then_) (λ x. ids_of x else_)
  pub grows : Grows old new
  pub owned : AreOwned new after
  pub own : (x : ℕ) → x < length old.signals → own new after x ≡ append (own old before x) (part old c table gs k x)
  pub lines : (x : ℕ) → x < length old.signals → own_lines new after x ≡ own_lines old before x ++ part_lines old line table gs k x

pub under_none : (d : Design) (a : List Own) (c : Term) (then_ else_ : List Own) (line : ℕ) (gs : List Group) → AreOwned d a → AreGrouped (length d.signals) then_ else_ gs → UnderSome d d a a c then_ else_ line gs 0
under_none d a c then_ else_ line gs h p = record {
  table = p.table;
  groups = p.groups;
  grows = grows_same d;
  owned = h;
  own = λ x l.
      sym (append_done (own d a x))
      ∙ ap (append (own d a x)) (sym (ap (λ (b : Bool). cond (b && nat_eq (group_at gs (slot_at p.table x)).signal.0 x) (lone_if c (block d (ids_at then_of p.table gs (length gs) x)) (block d (ids_at else_of p.table gs (length gs) x))) Done) (le-ltb (slot_at p.table x) 0 (omega arith))));
  lines = λ x l.
      sym (append-nil (own_lines d a x))
      ∙ ap (λ (xs : List Assigned). own_lines d a x ++ xs) (sym (ap (λ (b : Bool). cond (b && nat_eq (group_at gs (slot_at p.table x)).signal.0 x) (under line (lines d x (ids_at then_of p.table gs (length gs) x) ++ lines d x (ids_at else_of p.table gs (length gs) x))) []) (le-ltb (slot_at p.table x) 0 (omega arith))));
}

-- the statements of a group stand
pub group_stands : (old new : Design) (before after then_ else_ : List Own) (c : Term) (line : ℕ) (gs : List Group) (k : ℕ) (g : Group) → AreOwned old then_ → AreOwned old else_ → UnderSome old new before after c then_ else_ line gs k → k < length gs → g ≡ group_at gs k → GroupStands new g
group_stands old new before after then_ else_ c line gs k g h i u l e =
    let y = (group_at gs k).signal.0 in
    let within = u.groups.signals k l in
    let slot = u.groups.own_slots k l in
    let one : ids_of y then_ ≡ (group_at gs k).then_ = sym (u.groups.then_ y within) ∙ side_there then_of u.table gs y k l slot refl in
    let two : ids_of y else_ ≡ (group_at gs k).else_ = sym (u.groups.else_ y within) ∙ side_there else_of u.table gs y k l slot refl in
    let own : GroupStands new (group_at gs k) = record {
      signal = omega (arith, within, as_many u.grows);
      then_ = subst (λ (is : List StmtId). IsTrue (all_stmts_below (length new.stmts) is)) one (ids_there new y then_ (owned_kept then_ u.grows h));
      else_ = subst (λ (is : List StmtId). IsTrue (all_stmts_below (length new.stmts) is)) two (ids_there new y else_ (owned_kept else_ u.grows i));
    } in
    subst (GroupStands new) (sym e) own

pub under_more : (old x y : Design) (before a b then_ else_ : List Own) (cond_id line : ℕ) (gs : List Group) (k : ℕ) (g : Group) → AreOwned old then_ → AreOwned old else_ → cond_id < length old.exprs → k < length gs → g ≡ group_at gs k
    → UnderSome old x before a (term old cond_id) then_ else_ line gs k → PutGroup x y a b (term x cond_id) g line → UnderSome old y before b (term old cond_id) then_ else_ line gs (k + 1)
under_more old x y before a b then_ else_ cond_id line gs k g h i there l e u p = record {
  table = u.table;
  groups = u.groups;
  grows = grows_then u.grows p.grows;
  owned = p.owned;
  own = λ z m. by_signal z m (nat_eq s z) refl;
  lines = λ z m. by_lines z m (nat_eq s z) refl;
}
  where
    c : Term
    c = term old cond_id

    s : ℕ
    s = (group_at gs k).signal.0

    slot : slot_at u.table s ≡ k
    slot = u.groups.own_slots k l

    within : s < length old.signals
    within = u.groups.signals k l

    put : PutGroup x y a b (term x cond_id) (group_at gs k) line
    put = subst (λ (w : Group). PutGroup x y a b (term x cond_id) w line) e p

    has_now : has_group u.table gs (k + 1) s ≡ true
    has_now = ap (λ (j : ℕ). nat_lt j (k + 1) && nat_eq (group_at gs j).signal.0 s) slot ∙ and_from (nat_lt k (k + 1)) (nat_eq s s) (lt-ltb k (k + 1) (omega arith)) (eq-eqb s s refl)

    not_yet : has_group u.table gs k s ≡ false
    not_yet = ap (λ (j : ℕ). nat_lt j k && nat_eq (group_at gs j).signal.0 s) slot ∙ ap (λ (r : Bool). r && nat_eq s s) (le-ltb k k (omega arith))

    side : (f : Group → List StmtId) → ids_at f u.table gs (length gs) s ≡ f (group_at gs k)
    side f = side_there f u.table gs s k l slot refl

    stands : (is : List StmtId) → IsTrue (all_stmts_below (length old.stmts) is) → block x is ≡ block old is
    stands is q = block_kept is u.grows q

    one : (group_at gs k).then_ ≡ ids_of s then_
    one = sym (side then_of) ∙ u.groups.then_ s within

    two : (group_at gs k).else_ ≡ ids_of s else_
    two = sym (side else_of) ∙ u.groups.else_ s within

    here : own y b s ≡ append (own old before s) (part old c u.table gs (k + 1) s)
    here =
        put.here
        ∙ ap (λ (w : Block). append w (lone_if (term x cond_id) (block x (group_at gs k).then_) (block x (group_at gs k).else_)))
        (u.own s within ∙ ap (λ (r : Bool). append (own old before s) (cond r (lone_if c (block old (ids_at then_of u.table gs (length gs) s)) (block old (ids_at else_of u.table gs (length gs) s))) Done)) not_yet ∙ append_done (own old before s))
        ∙ ap (append (own old before s))
        (ap (λ (t : Term). lone_if t (block x (group_at gs k).then_) (block x (group_at gs k).else_)) (term_kept cond_id u.grows there)
        ∙ ap (λ (is : List StmtId). lone_if c (block x is) (block x (group_at gs k).else_)) one
        ∙ ap (λ (is : List StmtId). lone_if c (block x (ids_of s then_)) (block x is)) two
        ∙ ap (λ (w : Block). lone_if c w (block x (ids_of s else_))) (stands (ids_of s then_) (ids_there old s then_ h))
        ∙ ap (lone_if c (block old (ids_of s then_))) (stands (ids_of s else_) (ids_there old s else_ i))
        ∙ ap (λ (is : List StmtId). lone_if c (block old is) (block old (ids_of s else_))) (sym (u.groups.then_ s within))
        ∙ ap (λ (is : List StmtId). lone_if c (block old (ids_at then_of u.table gs (length gs) s)) (block old is)) (sym (u.groups.else_ s within))
        ∙ ap (λ (r : Bool). cond r (lone_if c (block old (ids_at then_of u.table gs (length gs) s)) (block old (ids_at else_of u.table gs (length gs) s))) Done) (sym has_now))

    lines_stand : (is : List StmtId) → IsTrue (all_stmts_below (length old.stmts) is) → lines x s is ≡ lines old s is
    lines_stand is q = lines_kept s is u.grows q

    lines_here : own_lines y b s ≡ own_lines old before s ++ part_lines old line u.table gs (k + 1) s
    lines_here =
        put.lines
        ∙ ap (λ (xs : List Assigned). xs ++ under line (lines x s (group_at gs k).then_ ++ lines x s (group_at gs k).else_))
        (u.lines s within ∙ ap (λ (r : Bool). own_lines old before s ++ cond r (under line (lines old s (ids_at then_of u.table gs (length gs) s) ++ lines old s (ids_at else_of u.table gs (length gs) s))) []) not_yet ∙ append-nil (own_lines old before s))
        ∙ ap (λ (xs : List Assigned). own_lines old before s ++ xs)
        (ap (under line)
        (ap (λ (is : List StmtId). lines x s is ++ lines x s (group_at gs k).else_) one
        ∙ ap (λ (is : List StmtId). lines x s (ids_of s then_) ++ lines x s is) two
        ∙ ap (λ (xs : List Assigned). xs ++ lines x s (ids_of s else_)) (lines_stand (ids_of s then_) (ids_there old s then_ h))
        ∙ ap (λ (xs : List Assigned). lines old s (ids_of s then_) ++ xs) (lines_stand (ids_of s else_) (ids_there old s else_ i))
        ∙ ap (λ (is : List StmtId). lines old s is ++ lines old s (ids_of s else_)) (sym (u.groups.then_ s within))
        ∙ ap (λ (is : List StmtId). lines old s (ids_at then_of u.table gs (length gs) s) ++ lines old s is) (sym (u.groups.else_ s within)))
        ∙ ap (λ (r : Bool). cond r (under line (lines old s (ids_at then_of u.table gs (length gs) s) ++ lines old s (ids_at else_of u.table gs (length gs) s))) []) (sym has_now))

    same_has : (z : ℕ) → (s ≡ z → ⊥) → has_group u.table gs (k + 1) z ≡ has_group u.table gs k z
    same_has z apart =
        elim (cases_lt (slot_at u.table z) k) [
          | inl q ↦ ap (λ (r : Bool). r && nat_eq (group_at gs (slot_at u.table z)).signal.0 z) (lt-ltb (slot_at u.table z) (k + 1) (omega arith) ∙ sym (lt-ltb (slot_at u.table z) k q))
          | inr q ↦
              elim (cases_lt k (slot_at u.table z)) [
                | inl r ↦ ap (λ (r : Bool). r && nat_eq (group_at gs (slot_at u.table z)).signal.0 z) (le-ltb (slot_at u.table z) (k + 1) (omega arith) ∙ sym (le-ltb (slot_at u.table z) k q))
                | inr r ↦
                    let at : slot_at u.table z ≡ k = omega arith in
                    let other : nat_eq (group_at gs (slot_at u.table z)).signal.0 z ≡ false = ne_eqb (group_at gs (slot_at u.table z)).signal.0 z (λ f. apart (sym (ap (λ (j : ℕ). (group_at gs j).signal.0) at) ∙ f)) in
                    none_and (nat_lt (slot_at u.table z) (k + 1)) _ other ∙ sym (none_and (nat_lt (slot_at u.table z) k) _ other)
              ]
        ]
      where
        none_and : (r t : Bool) → t ≡ false → (r && t) ≡ false
        none_and true t f = f
        none_and false t f = refl

    by_signal : (z : ℕ) → z < length old.signals → (r : Bool) → nat_eq s z ≡ r → own y b z ≡ append (own old before z) (part old c u.table gs (k + 1) z)
    by_signal z m true q = subst (λ (j : ℕ). own y b j ≡ append (own old before j) (part old c u.table gs (k + 1) j)) (eqb-true s z q) here
    by_signal z m false q =
        put.others z q
        ∙ u.own z m
        ∙ ap (λ (r : Bool). append (own old before z) (cond r (lone_if c (block old (ids_at then_of u.table gs (length gs) z)) (block old (ids_at else_of u.table gs (length gs) z))) Done)) (sym (same_has z (eqb-false s z q)))

    by_lines : (z : ℕ) → z < length old.signals → (r : Bool) → nat_eq s z ≡ r → own_lines y b z ≡ own_lines old before z ++ part_lines old line u.table gs (k + 1) z
    by_lines z m true q = subst (λ (j : ℕ). own_lines y b j ≡ own_lines old before j ++ part_lines old line u.table gs (k + 1) j) (eqb-true s z q) lines_here
    by_lines z m false q =
        put.other_lines z q
        ∙ u.lines z m
        ∙ ap (λ (r : Bool). own_lines old before z ++ cond r (under line (lines old z (ids_at then_of u.table gs (length gs) z) ++ lines old z (ids_at else_of u.table gs (length gs) z))) []) (sym (same_has z (eqb-false s z q)))

pub under_all : (old new : Design) (before after then_ else_ : List Own) (c : Term) (line : ℕ) (gs : List Group) (k : ℕ) → length gs ≤ k → k ≤ length gs → UnderSome old new before after c then_ else_ line gs k → PutUnder old new before after c then_ else_ line
under_all old new before after then_ else_ c line gs k l m u = record {
  grows = u.grows;
  owned = u.owned;
  own = λ x n. let o : x < length old.signals = omega (arith, as_many u.grows) in u.own x o ∙ ap (append (own old before x)) (whole x o);
  lines = λ x n. let o : x < length old.signals = omega (arith, as_many u.grows) in u.lines x o ∙ ap (λ (xs : List Assigned). own_lines old before x ++ xs) (whole_lines x o);
}
  where
    same : k ≡ length gs
    same = omega arith

    by_has : (x : ℕ) (r : Bool) → has_group u.table gs (length gs) x ≡ r
        → cond r (lone_if c (block old (ids_at then_of u.table gs (length gs) x)) (block old (ids_at else_of u.table gs (length gs) x))) Done ≡ lone_if c (block old (ids_at then_of u.table gs (length gs) x)) (block old (ids_at else_of u.table gs (length gs) x))
    by_has x true e = refl
    by_has x false e =
        sym (ap (λ (b : Bool). lone_if c (block old (cond b (then_of (group_at gs (slot_at u.table x))) [])) (block old (cond b (else_of (group_at gs (slot_at u.table x))) []))) e)

    whole : (x : ℕ) → x < length old.signals → part old c u.table gs k x ≡ lone_if c (own old then_ x) (own old else_ x)
    whole x o =
        ap (λ (j : ℕ). part old c u.table gs j x) same
        ∙ by_has x (has_group u.table gs (length gs) x) refl
        ∙ ap (λ (is : List StmtId). lone_if c (block old is) (block old (ids_at else_of u.table gs (length gs) x))) (u.groups.then_ x o)
        ∙ ap (λ (is : List StmtId). lone_if c (own old then_ x) (block old is)) (u.groups.else_ x o)

    lines_has : (x : ℕ) (r : Bool) → has_group u.table gs (length gs) x ≡ r
        → cond r (under line (lines old x (ids_at then_of u.table gs (length gs) x) ++ lines old x (ids_at else_of u.table gs (length gs) x))) [] ≡ under line (lines old x (ids_at then_of u.table gs (length gs) x) ++ lines old x (ids_at else_of u.table gs (length gs) x))
    lines_has x true e = refl
    lines_has x false e =
        sym (ap (λ (b : Bool). under line (lines old x (cond b (then_of (group_at gs (slot_at u.table x))) []) ++ lines old x (cond b (else_of (group_at gs (slot_at u.table x))) []))) e)

    whole_lines : (x : ℕ) → x < length old.signals → part_lines old line u.table gs k x ≡ under line (own_lines old then_ x ++ own_lines old else_ x)
    whole_lines x o =
        ap (λ (j : ℕ). part_lines old line u.table gs j x) same
        ∙ lines_has x (has_group u.table gs (length gs) x) refl
        ∙ ap (λ (is : List StmtId). under line (lines old x is ++ lines old x (ids_at else_of u.table gs (length gs) x))) (u.groups.then_ x o)
        ∙ ap (λ (is : List StmtId). under line (own_lines old then_ x ++ lines old x is)) (u.groups.else_ x o)
