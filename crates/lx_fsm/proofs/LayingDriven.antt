-- What lists of FSMs that are laid among statements drive.
use Rattle.std.proofs.Common.{◌≡◌, ℕ, suc, ◌+◌, ◌<◌, ◌≢◌, Bool, true, false, List, [], ◌∷◌, ◌++◌, Option, Some, None, cond, get_or, length, map, set, refl, sym, ap, subst, ◌∙◌, arith, nat_eq}
use Rattle.std.proofs.lemmas.Bool.{eqb-true}
use Rattle.std.proofs.lemmas.List.{append-nil, append_assoc, get_or-set_other, get_or-set_same}
use Rattle.lx_fhdl.specs.Below.{StmtId}
use Rattle.lx_fhdl.specs.Designs.{stmts_of}
use Rattle.lx_fhdl.specs.declared.design.Design.{Design}
use Rattle.lx_fhdl.specs.declared.design.SyncPart.{SyncPart}
use Rattle.lx_description.specs.declared.fsms.FsmDecl.{FsmDecl}
use Rattle.lx_reads.specs.Drivings.{Driving, drivings_at, drivings_in, drivings_of}
use Rattle.lx_fsm.specs.Flattened.{given_driven, is_at, woven_driven}
use Rattle.lx_fsm.specs.Laid.{AreDriven, AreNone, IsWithin, put_where, some_part, woven_ids, woven_parts}
use Rattle.lx_fsm.proofs.Drives.{in_both}
use Rattle.lx_fsm.proofs.Laying.{none_at, own_part, parts_join, put_long, some_of}

-- ---- one FSM more

last_by : (t : Bool) (a : List Driving) → cond t (a ++ []) [] ≡ cond t a []
last_by true a = append-nil a
last_by false a = refl

more_by : (t u : Bool) (a b c : List Driving) → cond t (a ++ cond u (b ++ c) b) (cond u (b ++ c) b) ≡ cond u (cond t (a ++ b) b ++ c) (cond t (a ++ b) b)
more_by true true a b c = sym (append_assoc a b c)
more_by true false a b c = refl
more_by false u a b c = refl

pub driven_last : (place : FsmDecl → Option ℕ) (list : FsmDecl → List Driving) (k : ℕ) (fs : List FsmDecl) (f : FsmDecl)
    → given_driven place list k (fs ++ f ∷ []) ≡ cond (is_at k (place f)) (given_driven place list k fs ++ list f) (given_driven place list k fs)
driven_last place list k [] f = last_by (is_at k (place f)) (list f)
driven_last place list k (g ∷ gs) f =
    ap (λ (b : List Driving). cond (is_at k (place g)) (list g ++ b) b) (driven_last place list k gs f)
    ∙ more_by (is_at k (place g)) (is_at k (place f)) (list g) (given_driven place list k gs) (list f)

-- ---- lists at numbers

-- the list of each number drives this
abbrev pub Drive : (ℕ → List Driving) → (ℕ → List Driving) → List (List StmtId) → Type 0
Drive f at lists = (k : ℕ) → k < length lists → drivings_in f (get_or lists k []) ≡ at k

put_by : (f at : ℕ → List Driving) (lists : List (List StmtId)) (ids : List StmtId) (b : List Driving) (p k : ℕ) (t : Bool) → nat_eq p k ≡ t → Drive f at lists → drivings_in f ids ≡ b → p < length lists → k < length lists
    → drivings_in f (get_or (set lists p (get_or lists p [] ++ ids)) k []) ≡ cond t (at k ++ b) (at k)
put_by f at lists ids b p k true e h g l m =
    let same : p ≡ k = eqb-true p k e in
    subst (λ (j : ℕ). drivings_in f (get_or (set lists p (get_or lists p [] ++ ids)) j []) ≡ at j ++ b) same
    (ap (drivings_in f) (get_or-set_same lists p (get_or lists p [] ++ ids) [] l)
    ∙ in_both f (get_or lists p []) ids
    ∙ ap (λ (q : List Driving). q ++ drivings_in f ids) (h p l)
    ∙ ap (λ (q : List Driving). at p ++ q) g)
put_by f at lists ids b p k false e h g l m =
    ap (drivings_in f) (get_or-set_other lists p k (get_or lists p [] ++ ids) [] (ne_of p k e)) ∙ h k m
  where
    ne_of : (p k : ℕ) → nat_eq p k ≡ false → k ≢ p
    ne_of p k e = grind arith

-- ---- lists among statements

next_driven : (f at : ℕ → List Driving) (a : List StmtId) (as_ : List (List StmtId)) (n : ℕ) → ((k : ℕ) → k < length (a ∷ as_) → drivings_in f (get_or (a ∷ as_) k []) ≡ at (n + k))
    → (k : ℕ) → k < length as_ → drivings_in f (get_or as_ k []) ≡ at (n + 1 + k)
next_driven f at a as_ n h k l = let e : n + suc k ≡ n + 1 + k = omega arith in h (suc k) (omega (arith, l)) ∙ ap at e

here_driven : (f at : ℕ → List Driving) (a : List StmtId) (as_ : List (List StmtId)) (n : ℕ) → ((k : ℕ) → k < length (a ∷ as_) → drivings_in f (get_or (a ∷ as_) k []) ≡ at (n + k)) → drivings_in f a ≡ at n
here_driven f at a as_ n h = let e : n + 0 ≡ n = omega arith in h 0 (omega arith) ∙ ap at e

pub woven_drive : (f at : ℕ → List Driving) (n : ℕ) (lists : List (List StmtId)) (is : List StmtId) → length lists ≡ length is + 1 → ((k : ℕ) → k < length lists → drivings_in f (get_or lists k []) ≡ at (n + k))
    → drivings_in f (woven_ids lists is) ≡ woven_driven at n (map (λ (i : StmtId). f i.place) is)
woven_drive f at n [] is l h = absurd (omega (arith, l))
woven_drive f at n (a ∷ as_) [] l h = here_driven f at a as_ n h
woven_drive f at n (a ∷ as_) (i ∷ is) l h =
    in_both f a (i ∷ woven_ids as_ is)
    ∙ ap (λ (q : List Driving). q ++ (f i.place ++ drivings_in f (woven_ids as_ is))) (here_driven f at a as_ n h)
    ∙ ap (λ (q : List Driving). at n ++ (f i.place ++ q)) (woven_drive f at (n + 1) as_ is (omega (arith, l)) (next_driven f at a as_ n h))

drive_where : (f : ℕ → List Driving) (t : Bool) (a : List StmtId) (b : List Driving) → drivings_in f a ≡ b → drivings_in f (cond t a []) ≡ cond t b []
drive_where f true a b e = e
drive_where f false a b e = refl

pub parts_drive : (f at : ℕ → List Driving) (s m n : ℕ) (lists : List (List StmtId)) (ps : List SyncPart) → length lists ≡ length ps + 1 → ((k : ℕ) → k < length lists → drivings_in f (get_or lists k []) ≡ at (n + k))
    → drivings_in f (stmts_of m (woven_parts s lists ps)) ≡ woven_driven (λ k. cond (nat_eq s m) (at k) []) n (map (λ (p : SyncPart). cond (nat_eq p.domain m) (drivings_in f p.stmts) []) ps)
parts_drive f at s m n [] ps l h = absurd (omega (arith, l))
parts_drive f at s m n (a ∷ as_) [] l h = ap (drivings_in f) (some_of s m a) ∙ drive_where f (nat_eq s m) a (at n) (here_driven f at a as_ n h)
parts_drive f at s m n (a ∷ as_) (p ∷ ps) l h =
    let own = cond (nat_eq p.domain m) (drivings_in f p.stmts) [] in
    let first = cond (nat_eq s m) (at n) [] in
    let rest = stmts_of m (woven_parts s as_ ps) in
    ap (drivings_in f) (parts_join m (some_part s a) (p ∷ woven_parts s as_ ps))
    ∙ in_both f (stmts_of m (some_part s a)) (stmts_of m (p ∷ woven_parts s as_ ps))
    ∙ ap (λ (q : List Driving). q ++ drivings_in f (stmts_of m (p ∷ woven_parts s as_ ps))) (ap (drivings_in f) (some_of s m a) ∙ drive_where f (nat_eq s m) a (at n) (here_driven f at a as_ n h))
    ∙ ap (λ (q : List StmtId). first ++ drivings_in f q) (parts_join m (p ∷ []) (woven_parts s as_ ps))
    ∙ ap (λ (q : List Driving). first ++ q) (in_both f (stmts_of m (p ∷ [])) rest)
    ∙ ap (λ (q : List Driving). first ++ (q ++ drivings_in f rest)) (ap (drivings_in f) (own_part m p) ∙ drive_where f (nat_eq p.domain m) p.stmts (drivings_in f p.stmts) refl)
    ∙ ap (λ (q : List Driving). first ++ (own ++ q)) (parts_drive f at s m (n + 1) as_ ps (omega (arith, l)) (next_driven f at a as_ n h))

-- ---- of a design

pub driven_none : (d : Design) (driver : ℕ) (lists : List (List StmtId)) → AreNone lists → AreDriven d driver (λ k. []) lists
driven_none d driver lists h = λ k l. ap (drivings_of d driver) (none_at lists k h)

pub driven_put : (d : Design) (driver : ℕ) (at : ℕ → List Driving) (lists : List (List StmtId)) (ids : List StmtId) (b : List Driving) (o : Option ℕ) → AreDriven d driver at lists → drivings_of d driver ids ≡ b → IsWithin (length lists) o
    → AreDriven d driver (λ k. cond (is_at k o) (at k ++ b) (at k)) (put_where o ids lists)
driven_put d driver at lists ids b None h g w = h
driven_put d driver at lists ids b (Some p) h g w = λ k l. put_by (drivings_at d driver) at lists ids b p k (nat_eq p k) refl h g w (subst (λ n. k < n) (put_long (Some p) ids lists) l)
