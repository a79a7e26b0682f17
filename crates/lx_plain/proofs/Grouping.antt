-- Groups of statements, one for each signal, found by slots.
use Rattle.std.proofs.Common.{◌≡◌, ℕ, zero, suc, append_assoc, ◌+◌, ◌<◌, ◌≤◌, Bool, true, false, ◌&&◌, not, cond, List, [], ◌∷◌, ◌++◌, length, refl, sym, ap, subst, ◌∙◌, arith, nat_lt, nat_eq, eq-eqb, eqb-true, ne_eqb, take, get_or, set, get_or-set_same, get_or-set_other, inl, inr}
use Rattle.std.specs.Prelude.{IsTrue}
use Rattle.std.proofs.Math.ListN.{length-set}
use Rattle.std.proofs.lemmas.Bool.{and_parts, cases_lt, ltb-true, lt-ltb, eqb-false, and_from, le-ltb}
use Rattle.std.proofs.lemmas.List.{append-nil, get_or_default, take_all, get_or_append_left, get_or_push, length_push, take_more}
use Rattle.lx_fhdl.specs.Below.{StmtId}
use Rattle.lx_fhdl.specs.declared.exprs.SigId.{SigId}
use Rattle.lx_plain.specs.Owned.{AreGrouped, AreGroups, HasPlace, OwnsAdded, all_owned, all_signals, else_of, group_at, has_group, ids_at, ids_of, no_group, slot_at, then_of, with_owns, with_stmt}
use Rattle.lx_plain.specs.declared.groups.Group.{Group}
use Rattle.lx_plain.specs.declared.owned.Own.{Own}
use Rattle.lx_plain.proofs.Puts.{ids_append}

-- ---- a group of no statement for a signal that has none

abbrev new_group : ℕ → Group
new_group x = record { signal = record { 0 = x }; then_ = []; else_ = [] }

-- the sides that signals have stay
made_side : (side : Group → List StmtId) (s : List ℕ) (gs : List Group) (e : Group) (x y : ℕ) → e.signal.0 ≡ x → side e ≡ [] → x < length s → has_group s gs (length gs) x ≡ false
    → ids_at side (set s x (length gs)) (gs ++ e ∷ []) (length (gs ++ e ∷ [])) y ≡ ids_at side s gs (length gs) y
made_side side s gs e x y same none l h = by_signal (nat_eq x y) refl
  where
    m : ℕ
    m = length gs

    hs : List Group
    hs = gs ++ e ∷ []

    t : List ℕ
    t = set s x m

    long : length hs ≡ m + 1
    long = length_push gs e

    both_false : (a b : Bool) (xs : List StmtId) → b ≡ false → cond (a && b) xs [] ≡ []
    both_false true b xs f = ap (λ (c : Bool). cond c xs []) f
    both_false false b xs f = refl

    by_place : (j : ℕ) → (x ≡ y → ⊥) → cond (nat_lt j (length hs) && nat_eq (group_at hs j).signal.0 y) (side (group_at hs j)) [] ≡ cond (nat_lt j m && nat_eq (group_at gs j).signal.0 y) (side (group_at gs j)) []
    by_place j other =
        elim (cases_lt j m) [
          | inl p ↦
              ap (λ (b : Bool). cond (b && nat_eq (group_at hs j).signal.0 y) (side (group_at hs j)) []) (lt-ltb j (length hs) (omega (arith, long)) ∙ sym (lt-ltb j m p))
              ∙ ap (λ (g : Group). cond (nat_lt j m && nat_eq g.signal.0 y) (side g) []) (get_or_append_left gs (e ∷ []) no_group j p)
          | inr p ↦
              elim (cases_lt m j) [
                | inl q ↦
                    ap (λ (b : Bool). cond (b && nat_eq (group_at hs j).signal.0 y) (side (group_at hs j)) []) (le-ltb j (length hs) (omega (arith, long)))
                    ∙ sym (ap (λ (b : Bool). cond (b && nat_eq (group_at gs j).signal.0 y) (side (group_at gs j)) []) (le-ltb j m p))
                | inr q ↦
                    let at : m ≡ j = omega arith in
                    let last : group_at hs j ≡ e = get_or_push gs e no_group j at in
                    let apart : nat_eq (group_at hs j).signal.0 y ≡ false = ne_eqb (group_at hs j).signal.0 y (λ f. other (sym same ∙ sym (ap (λ (g : Group). g.signal.0) last) ∙ f)) in
                    both_false (nat_lt j (length hs)) (nat_eq (group_at hs j).signal.0 y) (side (group_at hs j)) apart
                    ∙ sym (ap (λ (b : Bool). cond (b && nat_eq (group_at gs j).signal.0 y) (side (group_at gs j)) []) (le-ltb j m p))
              ]
        ]

    by_signal : (b : Bool) → nat_eq x y ≡ b → ids_at side t hs (length hs) y ≡ ids_at side s gs m y
    by_signal true q =
        let is : x ≡ y = eqb-true x y q in
        let slot : slot_at t x ≡ m = get_or-set_same s x m 0 l in
        let own : ids_at side t hs (length hs) x ≡ [] =
        ap (λ (j : ℕ). cond (nat_lt j (length hs) && nat_eq (group_at hs j).signal.0 x) (side (group_at hs j)) []) slot
        ∙ ap (λ (g : Group). cond (nat_lt m (length hs) && nat_eq g.signal.0 x) (side g) []) (get_or_push gs e no_group m refl)
        ∙ ap (λ (is : List StmtId). cond (nat_lt m (length hs) && nat_eq e.signal.0 x) is []) none
        ∙ either (nat_lt m (length hs) && nat_eq e.signal.0 x) [] in
        let old : ids_at side s gs m x ≡ [] = ap (λ (c : Bool). cond c (side (group_at gs (slot_at s x))) []) h in
        subst (λ (z : ℕ). ids_at side t hs (length hs) z ≡ ids_at side s gs m z) is (own ∙ sym old)
      where
        either : (b : Bool) (xs : List StmtId) → cond b xs xs ≡ xs
        either true xs = refl
        either false xs = refl
    by_signal false q =
        let other : x ≡ y → ⊥ = eqb-false x y q in
        let slot : slot_at t y ≡ slot_at s y = get_or-set_other s x y m 0 (λ f. other (sym f)) in
        ap (λ (j : ℕ). cond (nat_lt j (length hs) && nat_eq (group_at hs j).signal.0 y) (side (group_at hs j)) []) slot
        ∙ by_place (slot_at s y) other

groups_made : (n : ℕ) (s : List ℕ) (gs : List Group) (f g : ℕ → List StmtId) (x : SigId) → AreGroups n s gs f g → x.0 < n → has_group s gs (length gs) x.0 ≡ false
    → AreGroups n (set s x.0 (length gs)) (gs ++ (record { signal = x; then_ = []; else_ = [] }) ∷ []) f g
groups_made n s gs f g x h l none =
    let e : Group = record { signal = x; then_ = []; else_ = [] } in
    let m = length gs in
    let hs = gs ++ e ∷ [] in
    let there : x.0 < length s = omega (arith, h.long) in
    let front = λ (k : ℕ) (i : k < m). get_or_append_left gs (e ∷ []) no_group k i in
    let last = λ (k : ℕ) (i : m ≡ k). get_or_push gs e no_group k i in
    record {
      long = length-set s x.0 m ∙ h.long;
      signals = λ k i.
          elim (cases_lt k m) [
            | inl p ↦ subst (λ (g : Group). g.signal.0 < n) (sym (front k p)) (h.signals k p)
            | inr p ↦ let q : m ≡ k = omega (arith, length_push gs e) in subst (λ (g : Group). g.signal.0 < n) (sym (last k q)) l
          ];
      own_slots = λ k i.
          elim (cases_lt k m) [
            | inl p ↦
                let y = (group_at gs k).signal.0 in
                let apart : y ≡ x.0 → ⊥ = λ q.
                let has : has_group s gs m y ≡ true =
                ap (λ (j : ℕ). nat_lt j m && nat_eq (group_at gs j).signal.0 y) (h.own_slots k p) ∙ and_from (nat_lt k m) (nat_eq y y) (lt-ltb k m p) (eq-eqb y y refl) in
                let hasn : has_group s gs m y ≡ false = subst (λ (z : ℕ). has_group s gs m z ≡ false) (sym q) none in
                absurd (cc) in
                ap (λ (g : Group). slot_at (set s x.0 m) g.signal.0) (front k p)
                ∙ get_or-set_other s x.0 y m 0 apart
                ∙ h.own_slots k p
            | inr p ↦
                let q : m ≡ k = omega (arith, length_push gs e) in
                ap (λ (g : Group). slot_at (set s x.0 m) g.signal.0) (last k q) ∙ get_or-set_same s x.0 m 0 there ∙ q
          ];
      then_ = λ y i. made_side then_of s gs e x.0 y refl refl there none ∙ h.then_ y i;
      else_ = λ y i. made_side else_of s gs e x.0 y refl refl there none ∙ h.else_ y i;
    }

pub place_made : (s t : List ℕ) (gs hs : List Group) (x : SigId) (at : ℕ) → x.0 < length s → has_group s gs (length gs) x.0 ≡ false → at ≡ length gs → t ≡ set s x.0 at → hs ≡ gs ++ (record { signal = x; then_ = []; else_ = [] }) ∷ []
    → HasPlace x.0 s t gs hs at
place_made s t gs hs x at l none e f g =
    let own : Group = record { signal = x; then_ = []; else_ = [] } in
    record {
      long = ap length f ∙ length-set s x.0 at;
      within = omega (arith, ap length g, length_push gs own);
      signal = ap (λ (is : List Group). (group_at is at).signal.0) g ∙ ap (λ (h : Group). h.signal.0) (get_or_push gs own no_group at (sym e));
      groups = λ n p q h.
          let made = groups_made n s gs p q x h (omega (arith, h.long)) none in
          let slots : set s x.0 (length gs) ≡ t = ap (set s x.0) (sym e) ∙ sym f in
          subst (λ (r : List ℕ). AreGroups n r hs p q) slots (subst (λ (is : List Group). AreGroups n (set s x.0 (length gs)) is p q) (sym g) made);
    }

pub place_found : (s : List ℕ) (gs : List Group) (x at : ℕ) → at < length gs → (group_at gs at).signal.0 ≡ x → HasPlace x s s gs gs at
place_found s gs x at l e = record { long = refl; within = l; signal = e; groups = λ n f g h. h }

-- ---- a statement more

pushed_side : (side : Group → List StmtId) (t : List ℕ) (hs : List Group) (x at : ℕ) (e : Group) (y : ℕ) → at < length hs → slot_at t x ≡ at → (group_at hs at).signal.0 ≡ x → e.signal.0 ≡ x
    → ids_at side t (set hs at e) (length (set hs at e)) y ≡ cond (nat_eq x y) (side e) (ids_at side t hs (length hs) y)
pushed_side side t hs x at e y l slot old new = ap (λ (m : ℕ). ids_at side t (set hs at e) m y) (length-set hs at e) ∙ by_signal (nat_eq x y) refl
  where
    m : ℕ
    m = length hs

    is : List Group
    is = set hs at e

    by_signal : (b : Bool) → nat_eq x y ≡ b → ids_at side t is m y ≡ cond b (side e) (ids_at side t hs m y)
    by_signal true q =
        let same : x ≡ y = eqb-true x y q in
        subst (λ (z : ℕ). ids_at side t is m z ≡ side e) same
        (ap (λ (j : ℕ). cond (nat_lt j m && nat_eq (group_at is j).signal.0 x) (side (group_at is j)) []) slot
        ∙ ap (λ (g : Group). cond (nat_lt at m && nat_eq g.signal.0 x) (side g) []) (get_or-set_same hs at e no_group l)
        ∙ ap (λ (b : Bool). cond b (side e) []) (and_from (nat_lt at m) (nat_eq e.signal.0 x) (lt-ltb at m l) (eq-eqb e.signal.0 x new)))
    by_signal false q =
        let other = eqb-false x y q in
        by_slot (nat_eq (slot_at t y) at) refl
      where
        empty : (b c : Bool) (xs : List StmtId) → c ≡ false → cond (b && c) xs [] ≡ []
        empty true c xs f = ap (λ (d : Bool). cond d xs []) f
        empty false c xs f = refl

        by_slot : (b : Bool) → nat_eq (slot_at t y) at ≡ b → ids_at side t is m y ≡ ids_at side t hs m y
        by_slot true r =
            let here : slot_at t y ≡ at = eqb-true (slot_at t y) at r in
            let apart = eqb-false x y q in
            let one : nat_eq (group_at is (slot_at t y)).signal.0 y ≡ false =
            ne_eqb (group_at is (slot_at t y)).signal.0 y (λ f. apart (sym (ap (λ (j : ℕ). (group_at is j).signal.0) here ∙ ap (λ (g : Group). g.signal.0) (get_or-set_same hs at e no_group l) ∙ new) ∙ f)) in
            let two : nat_eq (group_at hs (slot_at t y)).signal.0 y ≡ false =
            ne_eqb (group_at hs (slot_at t y)).signal.0 y (λ f. apart (sym (ap (λ (j : ℕ). (group_at hs j).signal.0) here ∙ old) ∙ f)) in
            empty (nat_lt (slot_at t y) m) (nat_eq (group_at is (slot_at t y)).signal.0 y) (side (group_at is (slot_at t y))) one
            ∙ sym (empty (nat_lt (slot_at t y) m) (nat_eq (group_at hs (slot_at t y)).signal.0 y) (side (group_at hs (slot_at t y))) two)
        by_slot false r =
            ap (λ (g : Group). cond (nat_lt (slot_at t y) m && nat_eq g.signal.0 y) (side g) []) (get_or-set_other hs at (slot_at t y) e no_group (eqb-false (slot_at t y) at r))

-- the side that a signal's group has
pub side_there : (side : Group → List StmtId) (t : List ℕ) (hs : List Group) (x at : ℕ) → at < length hs → slot_at t x ≡ at → (group_at hs at).signal.0 ≡ x → ids_at side t hs (length hs) x ≡ side (group_at hs at)
side_there side t hs x at l slot old =
    ap (λ (j : ℕ). cond (nat_lt j (length hs) && nat_eq (group_at hs j).signal.0 x) (side (group_at hs j)) []) slot
    ∙ ap (λ (b : Bool). cond b (side (group_at hs at)) []) (and_from (nat_lt at (length hs)) (nat_eq (group_at hs at).signal.0 x) (lt-ltb at (length hs) l) (eq-eqb (group_at hs at).signal.0 x old))

-- what a side is afterwards
side_more : (side : Group → List StmtId) (t : List ℕ) (hs : List Group) (x at : ℕ) (e : Group) (f : ℕ → List StmtId) (more : List StmtId) (y : ℕ) → at < length hs → slot_at t x ≡ at → (group_at hs at).signal.0 ≡ x → e.signal.0 ≡ x
    → side e ≡ side (group_at hs at) ++ more → ids_at side t hs (length hs) y ≡ f y → ids_at side t (set hs at e) (length (set hs at e)) y ≡ f y ++ cond (nat_eq x y) more []
side_more side t hs x at e f more y l slot old new made is = pushed_side side t hs x at e y l slot old new ∙ by_signal (nat_eq x y) refl
  where
    by_signal : (b : Bool) → nat_eq x y ≡ b → cond b (side e) (ids_at side t hs (length hs) y) ≡ f y ++ cond b more []
    by_signal true q =
        let same : x ≡ y = eqb-true x y q in
        made ∙ ap (λ (xs : List StmtId). xs ++ more) (sym (side_there side t hs x at l slot old) ∙ ap (λ (z : ℕ). ids_at side t hs (length hs) z) same ∙ is)
    by_signal false q = is ∙ sym (append-nil (f y))

-- the other side is as it was
side_same : (side : Group → List StmtId) (t : List ℕ) (hs : List Group) (x at : ℕ) (e : Group) (f : ℕ → List StmtId) (y : ℕ) → at < length hs → slot_at t x ≡ at → (group_at hs at).signal.0 ≡ x → e.signal.0 ≡ x
    → side e ≡ side (group_at hs at) → ids_at side t hs (length hs) y ≡ f y → ids_at side t (set hs at e) (length (set hs at e)) y ≡ f y
side_same side t hs x at e f y l slot old new made is =
    side_more side t hs x at e f [] y l slot old new (made ∙ sym (append-nil (side (group_at hs at)))) is
    ∙ ap (λ (xs : List StmtId). f y ++ xs) (either (nat_eq x y) []) ∙ append-nil (f y)
  where
    either : (b : Bool) (xs : List StmtId) → cond b xs xs ≡ xs
    either true xs = refl
    either false xs = refl

groups_pushed : (n : ℕ) (t : List ℕ) (hs : List Group) (f g : ℕ → List StmtId) (o : Own) (at : ℕ) (holds : Bool) → AreGroups n t hs f g → at < length hs → (group_at hs at).signal.0 ≡ o.signal.0
    → AreGroups n t (set hs at (with_stmt (group_at hs at) o.stmt holds)) (with_owns (o ∷ []) holds f) (with_owns (o ∷ []) (not holds) g)
groups_pushed n t hs f g o at holds h l old = by_side holds
  where
    x : ℕ
    x = o.signal.0

    slot : slot_at t x ≡ at
    slot = subst (λ (y : ℕ). slot_at t y ≡ at) old (h.own_slots at l)

    signal_same : (e : Group) → e.signal.0 ≡ x → (k : ℕ) → k < length (set hs at e) → (group_at (set hs at e) k).signal.0 ≡ (group_at hs k).signal.0
    signal_same e new k i = by_place (nat_eq k at) refl
      where
        by_place : (b : Bool) → nat_eq k at ≡ b → (group_at (set hs at e) k).signal.0 ≡ (group_at hs k).signal.0
        by_place true q =
            let here : k ≡ at = eqb-true k at q in
            ap (λ (j : ℕ). (group_at (set hs at e) j).signal.0) here ∙ ap (λ (g : Group). g.signal.0) (get_or-set_same hs at e no_group l) ∙ new ∙ sym old ∙ ap (λ (j : ℕ). (group_at hs j).signal.0) (sym here)
        by_place false q = ap (λ (g : Group). g.signal.0) (get_or-set_other hs at k e no_group (eqb-false k at q))

    by_side : (b : Bool) → AreGroups n t (set hs at (with_stmt (group_at hs at) o.stmt b)) (with_owns (o ∷ []) b f) (with_owns (o ∷ []) (not b) g)
    by_side true =
        let e = with_stmt (group_at hs at) o.stmt true in
        record {
          long = h.long;
          signals = λ k i. subst (λ (y : ℕ). y < n) (sym (signal_same e old k i)) (h.signals k (omega (arith, length-set hs at e)));
          own_slots = λ k i. ap (slot_at t) (signal_same e old k i) ∙ h.own_slots k (omega (arith, length-set hs at e));
          then_ = λ y i. side_more then_of t hs x at e f (o.stmt ∷ []) y l slot old old refl (h.then_ y i);
          else_ = λ y i. side_same else_of t hs x at e g y l slot old old refl (h.else_ y i);
        }
    by_side false =
        let e = with_stmt (group_at hs at) o.stmt false in
        record {
          long = h.long;
          signals = λ k i. subst (λ (y : ℕ). y < n) (sym (signal_same e old k i)) (h.signals k (omega (arith, length-set hs at e)));
          own_slots = λ k i. ap (slot_at t) (signal_same e old k i) ∙ h.own_slots k (omega (arith, length-set hs at e));
          then_ = λ y i. side_same then_of t hs x at e f y l slot old old refl (h.then_ y i);
          else_ = λ y i. side_more else_of t hs x at e g (o.stmt ∷ []) y l slot old old refl (h.else_ y i);
        }

pub own_added : (s t : List ℕ) (gs hs is : List Group) (o : Own) (at : ℕ) (holds : Bool) → HasPlace o.signal.0 s t gs hs at → is ≡ set hs at (with_stmt (group_at hs at) o.stmt holds) → OwnsAdded (o ∷ []) holds s t gs is
own_added s t gs hs is o at holds p e = record {
  long = p.long;
  groups = λ n f g h. subst (λ (js : List Group). AreGroups n t js (with_owns (o ∷ []) holds f) (with_owns (o ∷ []) (not holds) g)) (sym e) (groups_pushed n t hs f g o at holds (p.groups n f g h) p.within p.signal);
}

-- ---- statements one after the other

groups_as : (n : ℕ) (t : List ℕ) (hs : List Group) (f g p q : ℕ → List StmtId) → ((x : ℕ) → f x ≡ p x) → ((x : ℕ) → g x ≡ q x) → AreGroups n t hs f g → AreGroups n t hs p q
groups_as n t hs f g p q e d h = record { long = h.long; signals = h.signals; own_slots = h.own_slots; then_ = λ x i. h.then_ x i ∙ e x; else_ = λ x i. h.else_ x i ∙ d x }

with_more : (a b : List Own) (holds : Bool) (f : ℕ → List StmtId) (x : ℕ) → with_owns b holds (with_owns a holds f) x ≡ with_owns (a ++ b) holds f x
with_more a b true f x = append_assoc (f x) (ids_of x a) (ids_of x b) ∙ ap (λ (is : List StmtId). f x ++ is) (sym (ids_append x a b))
with_more a b false f x = refl

with_none : (holds : Bool) (f : ℕ → List StmtId) (x : ℕ) → f x ≡ with_owns [] holds f x
with_none true f x = sym (append-nil (f x))
with_none false f x = refl

pub owns_none : (s : List ℕ) (gs : List Group) (holds : Bool) → OwnsAdded [] holds s s gs gs
owns_none s gs holds = record { long = refl; groups = λ n f g h. groups_as n s gs f g (with_owns [] holds f) (with_owns [] (not holds) g) (with_none holds f) (with_none (not holds) g) h }

pub owns_more : (os : List Own) (k : ℕ) (o d : Own) (holds : Bool) (s t r : List ℕ) (gs hs is : List Group) → k < length os → o ≡ get_or os k d → OwnsAdded (take k os) holds s t gs hs → OwnsAdded (o ∷ []) holds t r hs is → OwnsAdded (take (k + 1) os) holds s r gs is
owns_more os k o d holds s t r gs hs is l e p q =
    let same : take k os ++ o ∷ [] ≡ take (k + 1) os = ap (λ (z : Own). take k os ++ z ∷ []) e ∙ sym (take_more os k d l) in
    subst (λ (ws : List Own). OwnsAdded ws holds s r gs is) same (record {
      long = q.long ∙ p.long;
      groups = λ n f g h.
          groups_as n r is _ _ (with_owns (take k os ++ o ∷ []) holds f) (with_owns (take k os ++ o ∷ []) (not holds) g) (with_more (take k os) (o ∷ []) holds f) (with_more (take k os) (o ∷ []) (not holds) g)
          (q.groups n (with_owns (take k os) holds f) (with_owns (take k os) (not holds) g) (p.groups n f g h));
    })

pub signal_there : (n : ℕ) (os : List Own) (k : ℕ) (d : Own) → IsTrue (all_signals n os) → k < length os → (get_or os k d).signal.0 < n
signal_there n [] k d h l = absurd (omega arith)
signal_there n (o ∷ os) zero d h l = ltb-true o.signal.0 n (and_parts (nat_lt o.signal.0 n) (all_signals n os) (search h)).0
signal_there n (o ∷ os) (suc k) d h l = signal_there n os k d (search ((and_parts (nat_lt o.signal.0 n) (all_signals n os) (search h)).1)) (omega arith)

pub signals_owned : (n m : ℕ) (os : List Own) → IsTrue (all_owned n m os) → IsTrue (all_signals n os)
signals_owned n m os h = search (by_list os (search h))
  where
    by_list : (ws : List Own) → all_owned n m ws ≡ true → all_signals n ws ≡ true
    by_list [] e = refl
    by_list (w ∷ ws) e =
        let p = and_parts (nat_lt w.signal.0 n && nat_lt w.stmt.place m) (all_owned n m ws) e in
        and_from (nat_lt w.signal.0 n) (all_signals n ws) (and_parts (nat_lt w.signal.0 n) (nat_lt w.stmt.place m) p.0).0 (by_list ws p.1)

-- both lists, from no group
pub are_grouped : (s t r : List ℕ) (gs hs is : List Group) (then_ else_ : List Own) → gs ≡ [] → OwnsAdded then_ true s t gs hs → OwnsAdded else_ false t r hs is → AreGrouped (length s) then_ else_ is
are_grouped s t r gs hs is then_ else_ e p q =
    let n = length s in
    let start : AreGroups n s gs (λ x. []) (λ x. []) = subst (λ (js : List Group). AreGroups n s js (λ x. []) (λ x. [])) (sym e) (record {
      long = refl;
      signals = λ k l. absurd (omega arith);
      own_slots = λ k l. absurd (omega arith);
      then_ = λ x l. nothing then_of x;
      else_ = λ x l. nothing else_of x;
    }) in
    record { table = r; groups = q.groups n (λ x. ids_of x then_) (λ x. []) (p.groups n (λ x. []) (λ x. []) start) }
  where
    nothing : (side : Group → List StmtId) (x : ℕ) → ids_at side s [] 0 x ≡ []
    nothing side x = ap (λ (b : Bool). cond (b && nat_eq (group_at [] (slot_at s x)).signal.0 x) (side (group_at [] (slot_at s x))) []) (le-ltb (slot_at s x) 0 (omega arith))

-- all of them
pub owns_all : (os : List Own) (k : ℕ) (holds : Bool) (s t : List ℕ) (gs hs : List Group) → length os ≤ k → OwnsAdded (take k os) holds s t gs hs → OwnsAdded os holds s t gs hs
owns_all os k holds s t gs hs l p = subst (λ (ws : List Own). OwnsAdded ws holds s t gs hs) (take_all k os l) p

-- a signal whose slot leads to no group of its own
pub group_beyond : (s : List ℕ) (gs : List Group) (x at d : ℕ) → x < length s → at ≡ get_or s x d → length gs ≤ at → has_group s gs (length gs) x ≡ false
group_beyond s gs x at d l e far =
    let slot : slot_at s x ≡ at = get_or_default s x 0 d l ∙ sym e in
    ap (λ (j : ℕ). nat_lt j (length gs) && nat_eq (group_at gs j).signal.0 x) slot ∙ ap (λ (b : Bool). b && nat_eq (group_at gs at).signal.0 x) (le-ltb at (length gs) far)

pub group_other : (s : List ℕ) (gs : List Group) (x at d : ℕ) (g : Group) → x < length s → at ≡ get_or s x d → at < length gs → g ≡ get_or gs at g → (g.signal.0 ≡ x → ⊥) → has_group s gs (length gs) x ≡ false
group_other s gs x at d g l e within here apart =
    let slot : slot_at s x ≡ at = get_or_default s x 0 d l ∙ sym e in
    let is : group_at gs at ≡ g = get_or_default gs at no_group g within ∙ sym here in
    ap (λ (j : ℕ). nat_lt j (length gs) && nat_eq (group_at gs j).signal.0 x) slot
    ∙ ap (λ (h : Group). nat_lt at (length gs) && nat_eq h.signal.0 x) is
    ∙ ap (λ (b : Bool). nat_lt at (length gs) && b) (ne_eqb g.signal.0 x apart)
    ∙ none (nat_lt at (length gs))
  where
    none : (b : Bool) → (b && false) ≡ false
    none true = refl
    none false = refl
