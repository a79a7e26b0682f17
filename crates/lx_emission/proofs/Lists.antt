-- Lists of names, and what is collected by name from lists.
use Rattle.std.proofs.Common.{◌≡◌, ℕ, zero, suc, ◌<◌, ◌≤◌, ◌+◌, Bool, true, false, not, ◌&&◌, ◌||◌, cond, List, [], ◌∷◌, ◌++◌, length, map, flat_map, refl, ap, ◌∙◌, arith, inl, inr}
use Rattle.std.specs.Prelude.{Option, Some, None, slice_get}
use Rattle.std.specs.List.{list_all, list_any, range_with_len, AllByRecursion}
use Rattle.std.specs.Str.{bytes_eq}
use Rattle.std.proofs.lemmas.Bool.{and_parts, cases_eq, not-true, false_from_ne_true}
use Rattle.std.proofs.lemmas.List.{append-nil, map-append}
use Rattle.std.proofs.lemmas.Slice.Eq.{bytes_eq-Decides}
use Rattle.std.proofs.Math.Bool.{or-true}
use Rattle.lx_vtext.specs.Tree.{Name, VNet, VPort, VDecl, NetDecl, MemoryDecl, VAssign, VAlways}
use Rattle.lx_vmeaning.specs.Runs.{decl_nets, decl_memories, net_named, outside_drivers, assign_drivers, block_drivers, always_driver, sets_block, Driver, Outside, ByAssign}
use Rattle.lx_vmeaning.specs.Naming as naming
use Rattle.lx_vmeaning.proofs.Declared.{is_among, are_distinct}
use Rattle.lx_fhdl.specs.Keeping.{is_distinct}
use Rattle.lx_emission.specs.Emission.{places_from}

-- ---- names

pub name_other : (n m : List ℕ) → (n ≡ m → ⊥) → bytes_eq n m ≡ false
name_other n m ne = false_from_ne_true (bytes_eq n m) (λ t. ne ((bytes_eq-Decides n m).0 t))

-- ---- distinct names

-- a name at a place is among the names
pub is_there : (n : List ℕ) (ns : List (List ℕ)) (k : ℕ) → slice_get ns k ≡ Some n → list_any (bytes_eq n) ns ≡ true
is_there n [] k e = absurd cc
is_there n (m ∷ ms) zero e = let same : n ≡ m = cc in rw ((bytes_eq-Decides n m).1 same) refl
is_there n (m ∷ ms) (suc k) e = rw (is_there n ms k e) (or-true (bytes_eq n m))

-- a name stands at one place of a list of distinct names
pub one_place : (ns : List (List ℕ)) → is_distinct ns ≡ true → (j k : ℕ) (n : List ℕ) → slice_get ns j ≡ Some n → slice_get ns k ≡ Some n → j ≡ k
one_place [] h j k n p q = absurd cc
one_place (m ∷ ms) h zero zero n p q = refl
one_place (m ∷ ms) h zero (suc k) n p q =
    let same : m ≡ n = cc in
    let some = is_there n ms k q in
    let none = not-true (list_any (bytes_eq m) ms) (and_parts (not (list_any (bytes_eq m) ms)) (is_distinct ms) h).0 in
    absurd cc
one_place (m ∷ ms) h (suc j) zero n p q =
    let same : m ≡ n = cc in
    let some = is_there n ms j p in
    let none = not-true (list_any (bytes_eq m) ms) (and_parts (not (list_any (bytes_eq m) ms)) (is_distinct ms) h).0 in
    absurd cc
one_place (m ∷ ms) h (suc j) (suc k) n p q =
    ap suc (one_place ms (and_parts (not (list_any (bytes_eq m) ms)) (is_distinct ms) h).1 j k n p q)

-- ---- what is collected from lists

-- what is collected from a list is what is collected from its parts
pub record Collects {A B : Type 0} (F : List A → List B) : Type 0 where
  pub none : F [] ≡ []
  pub joined : (xs ys : List A) → F (xs ++ ys) ≡ F xs ++ F ys

pub collects_next : {A B : Type 0} (F : List A → List B) → Collects F → (x : A) (xs : List A) → F (x ∷ xs) ≡ F (x ∷ []) ++ F xs
collects_next F c x xs = c.joined (x ∷ []) xs

-- one collection after another
pub collects_after : {A B C : Type 0} (F : List B → List C) (G : List A → List B) → Collects F → Collects G → Collects (λ xs. F (G xs))
collects_after F G f g = record {
  none = ap F g.none ∙ f.none;
  joined = λ xs ys. ap F (g.joined xs ys) ∙ f.joined (G xs) (G ys);
}

pub collects_map : {A B : Type 0} (f : A → B) → Collects (λ xs. map f xs)
collects_map f = record { none = refl; joined = map-append f }

pub none_of_two : {B : Type 0} (xs ys : List B) → xs ≡ [] → ys ≡ [] → xs ++ ys ≡ []
none_of_two xs ys p q = rw (p, q) refl

pub first_of_two : {B : Type 0} (xs ys : List B) → ys ≡ [] → xs ++ ys ≡ xs
first_of_two xs ys q = rw q (append-nil xs)

pub second_of_two : {B : Type 0} (xs ys : List B) → xs ≡ [] → xs ++ ys ≡ ys
second_of_two xs ys p = rw p refl

-- nothing is collected where no place gives anything
pub none_at_places : {A B T : Type 0} (F : List A → List B) → Collects F → (g : ℕ → List A) (k : ℕ) (xs : List T) → ((j : ℕ) → k ≤ j → j < k + length xs → F (g j) ≡ []) → F (flat_map g (places_from k xs)) ≡ []
none_at_places F c g k [] h = c.none
none_at_places F c g k (x ∷ xs) h =
    c.joined (g k) (flat_map g (places_from (k + 1) xs))
    ∙ none_of_two (F (g k)) (F (flat_map g (places_from (k + 1) xs))) (h k (omega arith) (omega arith))
    (none_at_places F c g (k + 1) xs (λ j p q. h j (omega arith) (omega arith)))

-- what the only place gives that gives anything
pub one_at_places : {A B T : Type 0} (F : List A → List B) → Collects F → (g : ℕ → List A) (n k : ℕ) (xs : List T) → k ≤ n → n < k + length xs → ((j : ℕ) → k ≤ j → j < k + length xs → (j ≡ n → ⊥) → F (g j) ≡ []) → F (flat_map g (places_from k xs)) ≡ F (g n)
one_at_places F c g n k [] low high h = absurd (omega arith)
one_at_places F c g n k (x ∷ xs) low high h = elim (cases_eq k n) [
  | inl same ↦
      c.joined (g k) (flat_map g (places_from (k + 1) xs))
      ∙ first_of_two (F (g k)) (F (flat_map g (places_from (k + 1) xs)))
      (none_at_places F c g (k + 1) xs (λ j p q. h j (omega arith) (omega arith) (λ e. omega (arith, e, same, p))))
      ∙ ap (λ (i : ℕ). F (g i)) same
  | inr other ↦
      c.joined (g k) (flat_map g (places_from (k + 1) xs))
      ∙ second_of_two (F (g k)) (F (flat_map g (places_from (k + 1) xs))) (h k (omega arith) (omega arith) other)
      ∙ one_at_places F c g n (k + 1) xs (omega (arith, other)) (omega arith) (λ j p q. h j (omega arith) (omega arith))
]

-- ---- what holds of each element

pub each_of_two : {A : Type 0} (P : A → Type 0) (xs ys : List A) → AllByRecursion P xs → AllByRecursion P ys → AllByRecursion P (xs ++ ys)
each_of_two P [] ys p q = q
each_of_two P (x ∷ xs) ys p q = (p.0, each_of_two P xs ys p.1 q)

pub each_at_places : {A T : Type 0} (P : A → Type 0) (g : ℕ → List A) (k : ℕ) (xs : List T) → ((j : ℕ) → k ≤ j → j < k + length xs → AllByRecursion P (g j)) → AllByRecursion P (flat_map g (places_from k xs))
each_at_places P g k [] h = tt
each_at_places P g k (x ∷ xs) h =
    each_of_two P (g k) (flat_map g (places_from (k + 1) xs)) (h k (omega arith) (omega arith))
    (each_at_places P g (k + 1) xs (λ j p q. h j (omega arith) (omega arith)))

pub each_mapped_places : {A T : Type 0} (P : A → Type 0) (f : ℕ → A) (k : ℕ) (xs : List T) → ((j : ℕ) → k ≤ j → j < k + length xs → P (f j)) → AllByRecursion P (map f (places_from k xs))
each_mapped_places P f k [] h = tt
each_mapped_places P f k (x ∷ xs) h = (h k (omega arith) (omega arith), each_mapped_places P f (k + 1) xs (λ j p q. h j (omega arith) (omega arith)))

-- what holds of each of so many, from a on
pub each_counted : {A : Type 0} (P : A → Type 0) (g : ℕ → A) (a n : ℕ) → ((k : ℕ) → a ≤ k → k < a + n → P (g k)) → AllByRecursion P (map g (range_with_len a n))
each_counted P g a zero h = tt
each_counted P g a (suc n) h = (h a (omega arith) (omega arith), each_counted P g (a + 1) n (λ k p q. h k (omega arith) (omega arith)))

pub each_mapped : {A B : Type 0} (P : B → Type 0) (f : A → B) (xs : List A) → AllByRecursion (λ x. P (f x)) xs → AllByRecursion P (map f xs)
each_mapped P f [] h = tt
each_mapped P f (x ∷ xs) h = (h.0, each_mapped P f xs h.1)

pub all_from_each : {A : Type 0} (P : A → Bool) (xs : List A) → AllByRecursion (λ x. P x ≡ true) xs → list_all P xs ≡ true
all_from_each P [] h = refl
all_from_each P (x ∷ xs) h = rw (h.0, all_from_each P xs h.1) refl

-- ---- nets by name

-- the nets of a list that have a name
abbrev pub called : Name → List VNet → List VNet
called n [] = []
called n (x ∷ xs) = cond (bytes_eq x.name n) (x ∷ called n xs) (called n xs)

choice_joined : {B : Type 0} (b : Bool) (e : B) (both xs ys : List B) → both ≡ xs ++ ys → cond b (e ∷ both) both ≡ cond b (e ∷ xs) xs ++ ys
choice_joined true e both xs ys h = ap (λ t. e ∷ t) h
choice_joined false e both xs ys h = h

called_joined : (n : Name) (xs ys : List VNet) → called n (xs ++ ys) ≡ called n xs ++ called n ys
called_joined n [] ys = refl
called_joined n (x ∷ xs) ys = choice_joined (bytes_eq x.name n) x (called n (xs ++ ys)) (called n xs) (called n ys) (called_joined n xs ys)

pub collects_called : (n : Name) → Collects (called n)
collects_called n = record { none = refl; joined = called_joined n }

decl_nets-append : (xs ys : List VDecl) → decl_nets (xs ++ ys) ≡ decl_nets xs ++ decl_nets ys
decl_nets-append [] ys = refl
decl_nets-append (NetDecl x ∷ xs) ys = ap (λ t. x ∷ t) (decl_nets-append xs ys)
decl_nets-append (MemoryDecl x ∷ xs) ys = decl_nets-append xs ys

pub collects_decls : Collects decl_nets
collects_decls = record { none = refl; joined = decl_nets-append }

decl_memories-append : (xs ys : List VDecl) → decl_memories (xs ++ ys) ≡ decl_memories xs ++ decl_memories ys
decl_memories-append [] ys = refl
decl_memories-append (NetDecl x ∷ xs) ys = decl_memories-append xs ys
decl_memories-append (MemoryDecl x ∷ xs) ys = ap (λ t. x ∷ t) (decl_memories-append xs ys)

pub collects_memories : Collects decl_memories
collects_memories = record { none = refl; joined = decl_memories-append }

outside-append : (n : Name) (xs ys : List VPort) → outside_drivers n (xs ++ ys) ≡ outside_drivers n xs ++ outside_drivers n ys
outside-append n [] ys = refl
outside-append n (x ∷ xs) ys =
    choice_joined (x.is_input && bytes_eq x.net.name n) Outside (outside_drivers n (xs ++ ys)) (outside_drivers n xs) (outside_drivers n ys) (outside-append n xs ys)

pub collects_outside : (n : Name) → Collects (outside_drivers n)
collects_outside n = record { none = refl; joined = outside-append n }

assigns-append : (n : Name) (xs ys : List VAssign) → assign_drivers n (xs ++ ys) ≡ assign_drivers n xs ++ assign_drivers n ys
assigns-append n [] ys = refl
assigns-append n (x ∷ xs) ys =
    choice_joined (bytes_eq x.name n) (ByAssign x.value) (assign_drivers n (xs ++ ys)) (assign_drivers n xs) (assign_drivers n ys) (assigns-append n xs ys)

pub collects_assigns : (n : Name) → Collects (assign_drivers n)
collects_assigns n = record { none = refl; joined = assigns-append n }

blocks-append : (n : Name) (xs ys : List VAlways) → block_drivers n (xs ++ ys) ≡ block_drivers n xs ++ block_drivers n ys
blocks-append n [] ys = refl
blocks-append n (x ∷ xs) ys =
    choice_joined (sets_block n x.body) (always_driver x.clock x.body) (block_drivers n (xs ++ ys)) (block_drivers n xs) (block_drivers n ys) (blocks-append n xs ys)

pub collects_blocks : (n : Name) → Collects (block_drivers n)
collects_blocks n = record { none = refl; joined = blocks-append n }

-- the first net of a name is the first that has it
abbrev pub first_net : List VNet → Option VNet
first_net [] = None
first_net (x ∷ xs) = Some x

pub net_named_is : (n : Name) (xs : List VNet) → net_named n xs ≡ first_net (called n xs)
net_named_is n [] = refl
net_named_is n (x ∷ xs) = by (bytes_eq x.name n) (net_named_is n xs)
  where
    by : (b : Bool) → net_named n xs ≡ first_net (called n xs) → cond b (Some x) (net_named n xs) ≡ first_net (cond b (x ∷ called n xs) (called n xs))
    by true h = refl
    by false h = h

-- at most one
abbrev pub is_once : {A : Type 0} → List A → Bool
is_once [] = true
is_once (x ∷ []) = true
is_once (x ∷ (y ∷ ys)) = false

once_alone : {A : Type 0} (x : A) (xs : List A) → is_once (x ∷ xs) ≡ true → xs ≡ []
once_alone x [] h = refl
once_alone x (y ∷ ys) h = absurd cc

once_after : {A : Type 0} (x : A) (xs : List A) → is_once (x ∷ xs) ≡ true → is_once xs ≡ true
once_after x [] h = refl
once_after x (y ∷ ys) h = absurd cc

-- ---- declarations of a name

-- the names of a list that are this one
abbrev pub matching : Name → List Name → List Name
matching n [] = []
matching n (k ∷ ks) = cond (bytes_eq k n) (k ∷ matching n ks) (matching n ks)

matching_joined : (n : Name) (xs ys : List Name) → matching n (xs ++ ys) ≡ matching n xs ++ matching n ys
matching_joined n [] ys = refl
matching_joined n (x ∷ xs) ys = choice_joined (bytes_eq x n) x (matching n (xs ++ ys)) (matching n xs) (matching n ys) (matching_joined n xs ys)

pub collects_matching : (n : Name) → Collects (matching n)
collects_matching n = record { none = refl; joined = matching_joined n }

abbrev pub names_of : List VNet → List Name
names_of xs = map (λ (x : VNet). x.name) xs

pub matching_called : (n : Name) (xs : List VNet) → matching n (names_of xs) ≡ names_of (called n xs)
matching_called n [] = refl
matching_called n (x ∷ xs) = by (bytes_eq x.name n) (matching_called n xs)
  where
    by : (b : Bool) → matching n (names_of xs) ≡ names_of (called n xs) → cond b (x.name ∷ matching n (names_of xs)) (matching n (names_of xs)) ≡ names_of (cond b (x ∷ called n xs) (called n xs))
    by true h = ap (λ t. x.name ∷ t) h
    by false h = h

pub names_of_three : (a b c : List VNet) → names_of (a ++ (b ++ c)) ≡ names_of a ++ (names_of b ++ names_of c)
names_of_three a b c = map-append (λ (x : VNet). x.name) a (b ++ c) ∙ ap (λ t. names_of a ++ t) (map-append (λ (x : VNet). x.name) b c)

pub map_append_three : {A B : Type 0} (f : A → B) (a b c : List A) → map f (a ++ (b ++ c)) ≡ map f a ++ (map f b ++ map f c)
map_append_three f a b c = map-append f a (b ++ c) ∙ ap (λ t. map f a ++ t) (map-append f b c)

pub join_parts : {B : Type 0} (a b c d : List B) → a ≡ c → b ≡ d → a ++ b ≡ c ++ d
join_parts a b c d p q = ap (λ t. t ++ b) p ∙ ap (λ t. c ++ t) q

none_of_joined : {B : Type 0} (a b : List B) → a ++ b ≡ [] → (a ≡ []) × (b ≡ [])
none_of_joined [] b e = (refl, e)
none_of_joined (x ∷ xs) b e = absurd cc

pub none_of_three : {B : Type 0} (a b c : List B) → a ++ (b ++ c) ≡ [] → (a ≡ []) × (b ≡ []) × (c ≡ [])
none_of_three a b c e =
    let p = none_of_joined a (b ++ c) e in
    let q = none_of_joined b c p.1 in
    (p.0, q.0, q.1)

pub once_named : (xs : List VNet) → is_once xs ≡ true → is_once (names_of xs) ≡ true
once_named [] h = refl
once_named (x ∷ []) h = refl
once_named (x ∷ (y ∷ ys)) h = absurd cc

-- a name that nothing has is not among the names
not_among : (n : Name) (ns : List Name) → matching n ns ≡ [] → is_among n ns ≡ false
not_among n [] h = refl
not_among n (k ∷ ks) h = by (bytes_eq k n) h (not_among n ks)
  where
    by : (b : Bool) → cond b (k ∷ matching n ks) (matching n ks) ≡ [] → (matching n ks ≡ [] → is_among n ks ≡ false) → (b || is_among n ks) ≡ false
    by true h ih = absurd cc
    by false h ih = ih h

-- names are distinct where each stands at most once
pub distinct_from_once : (ns : List Name) → ((n : Name) → is_once (matching n ns) ≡ true) → are_distinct ns ≡ true
distinct_from_once [] h = refl
distinct_from_once (n ∷ ns) h =
    let own : is_once (n ∷ matching n ns) ≡ true = rw ((bytes_eq-Decides n n).1 refl) at (h n) in
    let none = not_among n ns (once_alone n (matching n ns) own) in
    rw none (distinct_from_once ns (λ k. by (bytes_eq n k) k (h k)))
  where
    by : (b : Bool) (k : Name) → is_once (cond b (n ∷ matching k ns) (matching k ns)) ≡ true → is_once (matching k ns) ≡ true
    by true k t = once_after n (matching k ns) t
    by false k t = t

pub none_from_each : {A : Type 0} (P : A → Bool) (xs : List A) → AllByRecursion (λ x. P x ≡ false) xs → list_any P xs ≡ false
none_from_each P [] h = refl
none_from_each P (x ∷ xs) h = rw (h.0, none_from_each P xs h.1) refl

-- a fact of a declared net
abbrev pub OfNet : (VNet → Type 0) → VDecl → Type 0
OfNet P (NetDecl x) = P x
OfNet P (MemoryDecl x) = Unit {0}

pub each_decl_net : (P : VNet → Type 0) (ds : List VDecl) → AllByRecursion (OfNet P) ds → AllByRecursion P (decl_nets ds)
each_decl_net P [] h = tt
each_decl_net P (NetDecl x ∷ ds) h = (h.0, each_decl_net P ds h.1)
each_decl_net P (MemoryDecl x ∷ ds) h = each_decl_net P ds h.1

abbrev pub is_some_driver : List Driver → Bool
is_some_driver [] = false
is_some_driver (x ∷ xs) = true

-- an input drives its net from outside
pub input_is : (n : Name) (ps : List VPort) → naming.is_input n ps ≡ is_some_driver (outside_drivers n ps)
input_is n [] = refl
input_is n (p ∷ ps) = by (p.is_input && bytes_eq p.net.name n) (input_is n ps)
  where
    by : (b : Bool) → naming.is_input n ps ≡ is_some_driver (outside_drivers n ps) → (b || naming.is_input n ps) ≡ is_some_driver (cond b (Outside ∷ outside_drivers n ps) (outside_drivers n ps))
    by true h = refl
    by false h = h
