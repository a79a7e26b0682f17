-- Lists of FSMs that are laid among statements.
use Rattle.std.proofs.Common.{◌≡◌, ℕ, zero, suc, ◌+◌, ◌<◌, ◌≢◌, Bool, true, false, List, [], ◌∷◌, ◌++◌, Option, Some, None, cond, get_or, length, map, set, refl, sym, ap, subst, ◌∙◌, arith, nat_eq, nat_lt}
use Rattle.std.specs.Prelude.{slice_get}
use Rattle.std.proofs.lemmas.Option.{get_or_from_slice_get}
use Rattle.std.proofs.lemmas.Bool.{and_from, and_parts, eqb-true}
use Rattle.std.proofs.lemmas.List.{append_assoc, get_or-set_other, get_or-set_same, length-set}
use Rattle.lx_circuit.specs.Statements as tree
use Rattle.lx_fhdl.specs.Below.{StmtId, all_stmts_below}
use Rattle.lx_fhdl.specs.Designs as design
use Rattle.lx_fhdl.specs.Designs.{block, stmts_of}
use Rattle.lx_fhdl.specs.Keeping.{EachOf}
use Rattle.lx_fhdl.specs.Stmts.{block_at}
use Rattle.lx_fhdl.specs.declared.design.Design.{Design}
use Rattle.lx_fhdl.specs.declared.design.SyncPart.{SyncPart}
use Rattle.lx_description.specs.declared.fsms.FsmDecl.{FsmDecl}
use Rattle.lx_lowering.specs.Flat.{append, one}
use Rattle.lx_lowering.proofs.Appends.{append_all, append_done}
use Rattle.lx_fsm.specs.Flattened.{given_at, is_at, part_of, woven}
use Rattle.lx_fsm.specs.Laid.{AreGiven, AreNone, IsWithin, put_where, some_part, woven_ids, woven_parts}
use Rattle.lx_fsm.specs.Lowers.{AreThere, Grows, StmtsAre}
use Rattle.lx_fsm.proofs.Grown.{block_kept, there_kept}

-- ---- one FSM more

last_by : (t : Bool) (a : tree.Block) → cond t (append a tree.Done) tree.Done ≡ cond t a tree.Done
last_by true a = append_done a
last_by false a = refl

more_by : (t u : Bool) (a b c : tree.Block) → cond t (append a (cond u (append b c) b)) (cond u (append b c) b) ≡ cond u (append (cond t (append a b) b) c) (cond t (append a b) b)
more_by true true a b c = sym (append_all a b c)
more_by true false a b c = refl
more_by false u a b c = refl

pub given_last : (place : FsmDecl → Option ℕ) (list : FsmDecl → tree.Block) (k : ℕ) (fs : List FsmDecl) (f : FsmDecl)
    → given_at place list k (fs ++ f ∷ []) ≡ cond (is_at k (place f)) (append (given_at place list k fs) (list f)) (given_at place list k fs)
given_last place list k [] f = last_by (is_at k (place f)) (list f)
given_last place list k (g ∷ gs) f =
    ap (λ (b : tree.Block). cond (is_at k (place g)) (append (list g) b) b) (given_last place list k gs f)
    ∙ more_by (is_at k (place g)) (is_at k (place f)) (list g) (given_at place list k gs) (list f)

-- ---- statements after statements

pub below_join : (n : ℕ) (xs ys : List StmtId) → all_stmts_below n xs ≡ true → all_stmts_below n ys ≡ true → all_stmts_below n (xs ++ ys) ≡ true
below_join n [] ys h g = g
below_join n (x ∷ xs) ys h g =
    let p = and_parts (nat_lt x.place n) (all_stmts_below n xs) h in
    and_from (nat_lt x.place n) (all_stmts_below n (xs ++ ys)) p.0 (below_join n xs ys p.1 g)

pub block_join : (f : ℕ → tree.Stmt) (xs ys : List StmtId) → block_at f (xs ++ ys) ≡ append (block_at f xs) (block_at f ys)
block_join f [] ys = refl
block_join f (x ∷ xs) ys = ap (tree.Then (f x.place)) (block_join f xs ys)

pub are_join : {d : Design} {xs ys : List StmtId} {a b : tree.Block} → StmtsAre d xs a → StmtsAre d ys b → StmtsAre d (xs ++ ys) (append a b)
are_join {d} {xs} {ys} {a} {b} h g = record {
  there = search (below_join (length d.stmts) xs ys (search h.there) (search g.there));
  tree = block_join (design.stmt d) xs ys ∙ ap (λ (c : tree.Block). append c (block d ys)) h.tree ∙ ap (append a) g.tree;
}

pub are_none : (d : Design) → StmtsAre d [] tree.Done
are_none d = record { there = refl; tree = refl }

pub are_kept : {x y : Design} {ids : List StmtId} {b : tree.Block} → Grows x y → StmtsAre x ids b → StmtsAre y ids b
are_kept {x} {y} {ids} {b} g h = record { there = there_kept ids g h.there; tree = block_kept ids g h.there ∙ h.tree }

pub are_is : {d : Design} {ids : List StmtId} {a b : tree.Block} → a ≡ b → StmtsAre d ids a → StmtsAre d ids b
are_is {d} {ids} e h = subst (λ (b : tree.Block). StmtsAre d ids b) e h

-- ---- lists at numbers

pub none_at : (lists : List (List StmtId)) (k : ℕ) → AreNone lists → get_or lists k [] ≡ []
none_at [] k h = refl
none_at (a ∷ as_) zero h = h.0
none_at (a ∷ as_) (suc k) h = none_at as_ k h.1

pub given_none : (d : Design) (lists : List (List StmtId)) → AreNone lists → AreGiven d (λ k. tree.Done) lists
given_none d lists h = λ k l. subst (λ (ids : List StmtId). StmtsAre d ids tree.Done) (sym (none_at lists k h)) (are_none d)

pub given_kept : {x y : Design} {at : ℕ → tree.Block} (lists : List (List StmtId)) → Grows x y → AreGiven x at lists → AreGiven y at lists
given_kept lists g h = λ k l. are_kept g (h k l)

pub put_long : (o : Option ℕ) (ids : List StmtId) (lists : List (List StmtId)) → length (put_where o ids lists) ≡ length lists
put_long None ids lists = refl
put_long (Some p) ids lists = length-set lists p (get_or lists p [] ++ ids)

put_by : (d : Design) (at : ℕ → tree.Block) (lists : List (List StmtId)) (ids : List StmtId) (b : tree.Block) (p k : ℕ) (t : Bool) → nat_eq p k ≡ t → AreGiven d at lists → StmtsAre d ids b → p < length lists → k < length lists
    → StmtsAre d (get_or (set lists p (get_or lists p [] ++ ids)) k []) (cond t (append (at k) b) (at k))
put_by d at lists ids b p k true e h g l m =
    let same : p ≡ k = eqb-true p k e in
    subst (λ (j : ℕ). StmtsAre d (get_or (set lists p (get_or lists p [] ++ ids)) j []) (append (at j) b)) same
    (subst (λ (is : List StmtId). StmtsAre d is (append (at p) b)) (sym (get_or-set_same lists p (get_or lists p [] ++ ids) [] l)) (are_join (h p l) g))
put_by d at lists ids b p k false e h g l m =
    subst (λ (is : List StmtId). StmtsAre d is (at k)) (sym (get_or-set_other lists p k (get_or lists p [] ++ ids) [] (ne_of p k e))) (h k m)
  where
    ne_of : (p k : ℕ) → nat_eq p k ≡ false → k ≢ p
    ne_of p k e = grind arith

pub given_put : (d : Design) (at : ℕ → tree.Block) (lists : List (List StmtId)) (ids : List StmtId) (b : tree.Block) (o : Option ℕ) → AreGiven d at lists → StmtsAre d ids b → IsWithin (length lists) o
    → AreGiven d (λ k. cond (is_at k o) (append (at k) b) (at k)) (put_where o ids lists)
given_put d at lists ids b None h g w = h
given_put d at lists ids b (Some p) h g w = λ k l. put_by d at lists ids b p k (nat_eq p k) refl h g w (subst (λ n. k < n) (put_long (Some p) ids lists) l)

-- ---- lists among statements

pub shift : (d : Design) (at : ℕ → tree.Block) (a : List StmtId) (as_ : List (List StmtId)) (n : ℕ) → ((k : ℕ) → k < length (a ∷ as_) → StmtsAre d (get_or (a ∷ as_) k []) (at (n + k)))
    → (k : ℕ) → k < length as_ → StmtsAre d (get_or as_ k []) (at (n + 1 + k))
shift d at a as_ n h k l =
    let e : n + suc k ≡ n + 1 + k = omega arith in
    subst (λ (j : ℕ). StmtsAre d (get_or as_ k []) (at j)) e (h (suc k) (omega (arith, l)))

here : (d : Design) (at : ℕ → tree.Block) (a : List StmtId) (as_ : List (List StmtId)) (n : ℕ) → ((k : ℕ) → k < length (a ∷ as_) → StmtsAre d (get_or (a ∷ as_) k []) (at (n + k))) → StmtsAre d a (at n)
here d at a as_ n h =
    let e : n + 0 ≡ n = omega arith in
    subst (λ (j : ℕ). StmtsAre d a (at j)) e (h 0 (omega arith))

pub woven_are : (d : Design) (at : ℕ → tree.Block) (n : ℕ) (lists : List (List StmtId)) (is : List StmtId) → length lists ≡ length is + 1 → ((k : ℕ) → k < length lists → StmtsAre d (get_or lists k []) (at (n + k))) → AreThere d is
    → StmtsAre d (woven_ids lists is) (woven at n (map (λ (i : StmtId). one (design.stmt d i.place)) is))
woven_are d at n [] is l h t = absurd (omega (arith, l))
woven_are d at n (a ∷ as_) [] l h t = here d at a as_ n h
woven_are d at n (a ∷ as_) (i ∷ is) l h t =
    let p = and_parts (nat_lt i.place (length d.stmts)) (all_stmts_below (length d.stmts) is) (search t) in
    let own : StmtsAre d (i ∷ []) (one (design.stmt d i.place)) = record { there = search (and_from (nat_lt i.place (length d.stmts)) true p.0 refl); tree = refl } in
    are_join (here d at a as_ n h) (are_join own (woven_are d at (n + 1) as_ is (omega (arith, l)) (shift d at a as_ n h) (search p.1)))

-- ---- lists among parts of domains

pub parts_join : (m : ℕ) (ps qs : List SyncPart) → stmts_of m (ps ++ qs) ≡ stmts_of m ps ++ stmts_of m qs
parts_join m [] qs = refl
parts_join m (p ∷ ps) qs = by_test (nat_eq p.domain m) p.stmts (stmts_of m (ps ++ qs)) (stmts_of m ps) (stmts_of m qs) (parts_join m ps qs)
  where
    by_test : (t : Bool) (xs zs ys ws : List StmtId) → zs ≡ ys ++ ws → cond t (xs ++ zs) zs ≡ cond t (xs ++ ys) ys ++ ws
    by_test true xs zs ys ws e = ap (λ (l : List StmtId). xs ++ l) e ∙ sym (append_assoc xs ys ws)
    by_test false xs zs ys ws e = e

none_after : (xs : List StmtId) → xs ++ [] ≡ xs
none_after [] = refl
none_after (x ∷ xs) = ap (λ (l : List StmtId). x ∷ l) (none_after xs)

none_where : (t : Bool) → ◌≡◌ {A = List StmtId} [] (cond t [] [])
none_where true = refl
none_where false = refl

some_where : (t : Bool) (xs : List StmtId) → cond t (xs ++ []) [] ≡ cond t xs []
some_where true xs = none_after xs
some_where false xs = refl

pub some_of : (s m : ℕ) (a : List StmtId) → stmts_of m (some_part s a) ≡ cond (nat_eq s m) a []
some_of s m [] = none_where (nat_eq s m)
some_of s m (i ∷ is) = some_where (nat_eq s m) (i ∷ is)

are_where : {d : Design} {a : List StmtId} {b : tree.Block} (t : Bool) → StmtsAre d a b → StmtsAre d (cond t a []) (cond t b tree.Done)
are_where true h = h
are_where {d} false h = are_none d

-- what a part has of a domain
pub own_part : (m : ℕ) (p : SyncPart) → stmts_of m (p ∷ []) ≡ cond (nat_eq p.domain m) p.stmts []
own_part m p = some_where (nat_eq p.domain m) p.stmts

pub parts_are : (d : Design) (at : ℕ → tree.Block) (s m n : ℕ) (lists : List (List StmtId)) (ps : List SyncPart) → length lists ≡ length ps + 1 → ((k : ℕ) → k < length lists → StmtsAre d (get_or lists k []) (at (n + k)))
    → EachOf (λ (p : SyncPart). AreThere d p.stmts) ps → StmtsAre d (stmts_of m (woven_parts s lists ps)) (woven (λ k. cond (nat_eq s m) (at k) tree.Done) n (map (part_of d m) ps))
parts_are d at s m n [] ps l h t = absurd (omega (arith, l))
parts_are d at s m n (a ∷ as_) [] l h t =
    subst (λ (is : List StmtId). StmtsAre d is (cond (nat_eq s m) (at n) tree.Done)) (sym (some_of s m a)) (are_where (nat_eq s m) (here d at a as_ n h))
parts_are d at s m n (a ∷ as_) (p ∷ ps) l h t =
    let first : StmtsAre d (stmts_of m (some_part s a)) (cond (nat_eq s m) (at n) tree.Done) = subst (λ (is : List StmtId). StmtsAre d is (cond (nat_eq s m) (at n) tree.Done)) (sym (some_of s m a)) (are_where (nat_eq s m) (here d at a as_ n h)) in
    let own : StmtsAre d p.stmts (block d p.stmts) = record { there = t.0; tree = refl } in
    let second : StmtsAre d (stmts_of m (p ∷ [])) (part_of d m p) = subst (λ (is : List StmtId). StmtsAre d is (part_of d m p)) (sym (own_part m p)) (are_where (nat_eq p.domain m) own) in
    let rest = parts_are d at s m (n + 1) as_ ps (omega (arith, l)) (shift d at a as_ n h) t.1 in
    let both : StmtsAre d (stmts_of m (p ∷ []) ++ stmts_of m (woven_parts s as_ ps)) (append (part_of d m p) (woven (λ k. cond (nat_eq s m) (at k) tree.Done) (n + 1) (map (part_of d m) ps))) = are_join second rest in
    subst (λ (is : List StmtId). StmtsAre d is (woven (λ k. cond (nat_eq s m) (at k) tree.Done) n (map (part_of d m) (p ∷ ps))))
    (sym (parts_join m (some_part s a) (p ∷ woven_parts s as_ ps) ∙ ap (λ (is : List StmtId). stmts_of m (some_part s a) ++ is) (parts_join m (p ∷ []) (woven_parts s as_ ps))))
    (are_join first both)

-- ---- a list that is put back longer

set_again : {X : Type 0} (xs : List X) (k : ℕ) (a b : X) → set (set xs k a) k b ≡ set xs k b
set_again [] k a b = refl
set_again (x ∷ xs) zero a b = refl
set_again (x ∷ xs) (suc k) a b = ap (λ l. x ∷ l) (set_again xs k a b)

pub put_back : (xs ys zs : List (List StmtId)) (k : ℕ) (a e b ids : List StmtId) → slice_get xs k ≡ Some a → ys ≡ set xs k e → b ≡ a ++ ids → zs ≡ set ys k b → zs ≡ set xs k (get_or xs k [] ++ ids)
put_back xs ys zs k a e b ids h p q r =
    r
    ∙ ap (λ (l : List (List StmtId)). set l k b) p
    ∙ set_again xs k e b
    ∙ ap (set xs k) (q ∙ ap (λ (l : List StmtId). l ++ ids) (sym (get_or_from_slice_get xs k a [] h)))
