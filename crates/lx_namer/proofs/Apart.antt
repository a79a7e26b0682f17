-- Names that are given are distinct.
use Rattle.std.proofs.Common.{◌≡◌, Bool, true, false, cond, not, ◌||◌, List, [], ◌∷◌, ◌++◌, refl, sym, ap, subst, ◌∙◌, inl, inr, ◌⊎◌, true≢false}
use Rattle.std.specs.List.{AllByRecursion}
use Rattle.std.specs.Str.{bytes_eq}
use Rattle.std.proofs.lemmas.Bool.{and_from, or_left, or_right, or_parts}
use Rattle.std.proofs.lemmas.List.Folds.{list_any-append}
use Rattle.std.proofs.lemmas.Slice.Eq.{bytes_eq-Decides}
use Rattle.lx_vtext.specs.Tree.{Name}
use Rattle.lx_fhdl.specs.Keeping.{is_distinct}
use Rattle.lx_emission.specs.Naming.{is_among}
use Rattle.lx_emission.proofs.Lists.{name_other}
use Rattle.lx_namer.specs.Names.{Wish, all_given, given}
use Rattle.lx_namer.specs.Taken.{free_name}
use Rattle.lx_namer.proofs.Free.{found_free}
use Rattle.lx_namer.proofs.Spelling.{IsGood, good_numbered, is_marked_name, no_mark}

-- ---- what is given

pub given_only : (taken : List Name) (w : Wish) → w.only ≡ true → given taken w ≡ w.name
unfolding given
given_only taken w e = ap (λ t. cond t w.name (free_name taken w.name)) e

pub given_free : (taken : List Name) (w : Wish) → w.only ≡ false → given taken w ≡ free_name taken w.name
unfolding given
given_free taken w e = ap (λ t. cond t w.name (free_name taken w.name)) e

pub record IsNew (taken : List Name) (n : Name) : Type 0 where
  pub good : IsGood n
  pub free : is_among n taken ≡ false

free_new : (taken : List Name) (base : Name) → IsGood base → IsNew taken (free_name taken base)
free_new taken base h =
    let found = found_free taken base in
    record { good = subst IsGood (sym found.1.is) (good_numbered base found.0 h); free = found.1.free }

given_new : (taken : List Name) (w : Wish) → w.only ≡ false → IsGood w.name → IsNew taken (given taken w)
given_new taken w e h = subst (λ (n : Name). IsNew taken n) (sym (given_free taken w e)) (free_new taken w.name h)

-- ---- names that are among others

pub among_first : (n : Name) (a b : List Name) → is_among n a ≡ true → is_among n (a ++ b) ≡ true
among_first n a b h = list_any-append (bytes_eq n) a b ∙ or_left (is_among n a) (is_among n b) h

pub among_second : (n : Name) (a b : List Name) → is_among n b ≡ true → is_among n (a ++ b) ≡ true
among_second n a b h = list_any-append (bytes_eq n) a b ∙ or_right (is_among n a) (is_among n b) h

pub among_itself : (n : Name) (ns : List Name) → is_among n (n ∷ ns) ≡ true
among_itself n ns = or_left (bytes_eq n n) (is_among n ns) ((bytes_eq-Decides n n).1 refl)

pub not_among_first : (n : Name) (a b : List Name) → is_among n (a ++ b) ≡ false → is_among n a ≡ false
not_among_first n a b h = (or_parts (is_among n a) (is_among n b) (sym (list_any-append (bytes_eq n) a b) ∙ h)).0

-- a name that is among others isn't one that isn't
pub among_not : (n m : Name) (ns : List Name) → is_among n ns ≡ true → is_among m ns ≡ false → n ≡ m → ⊥
among_not n m ns h g e = true≢false (sym h ∙ ap (λ k. is_among k ns) e ∙ g)

-- ---- wishes that can be met

-- the only name that will do is taken first, or has a `$`; another is good
pub record IsKnown (taken : List Name) (w : Wish) : Type 0 where
  pub only : w.only ≡ true → (is_among w.name taken ≡ true) ⊎ (is_marked_name w.name ≡ true)
  pub free : w.only ≡ false → IsGood w.name

-- the name is not the only one that will do
abbrev pub IsOther : Name → Wish → Type 0
IsOther n w = w.only ≡ true → w.name ≡ n → ⊥

-- no name is the only one of two
abbrev pub AreApart : List Wish → Type 0
AreApart [] = Unit {0}
AreApart (w ∷ ws) = (w.only ≡ true → AllByRecursion (IsOther w.name) ws) × AreApart ws

known_more : (taken more : List Name) (ws : List Wish) → AllByRecursion (IsKnown taken) ws → AllByRecursion (IsKnown (taken ++ more)) ws
known_more taken more [] h = tt
known_more taken more (w ∷ ws) h = (record { only = λ e. by (h.0.only e); free = h.0.free }, known_more taken more ws h.1)
  where
    by : (is_among w.name taken ≡ true) ⊎ (is_marked_name w.name ≡ true) → (is_among w.name (taken ++ more) ≡ true) ⊎ (is_marked_name w.name ≡ true)
    by (inl e) = inl (among_first w.name taken more e)
    by (inr e) = inr e

-- a name that is taken is given again to nothing that doesn't ask for it alone
later_other : (n : Name) (taken : List Name) (ws : List Wish) → is_among n taken ≡ true → AllByRecursion (IsKnown taken) ws → AllByRecursion (IsOther n) ws → is_among n (all_given taken ws) ≡ false
unfolding all_given
later_other n taken [] h known other = refl
later_other n taken (w ∷ ws) h known other =
    let g = given taken w in
    let here : bytes_eq n g ≡ false = name_other n g (by w.only refl) in
    let rest = later_other n (taken ++ g ∷ []) ws (among_first n taken (g ∷ []) h) (known_more taken (g ∷ []) ws known.1) other.1 in
    ap (λ t. t || is_among n (all_given (taken ++ g ∷ []) ws)) here ∙ rest
  where
    by : (b : Bool) → w.only ≡ b → n ≡ given taken w → ⊥
    by true e same = other.0 e (sym (same ∙ given_only taken w e))
    by false e same = among_not n (given taken w) taken h (given_new taken w e (known.0.free e)).free same

-- a new name is the only one of nothing
new_other : (n : Name) (taken : List Name) (ws : List Wish) → IsNew taken n → AllByRecursion (IsKnown taken) ws → AllByRecursion (IsOther n) ws
new_other n taken [] h known = tt
new_other n taken (w ∷ ws) h known = (λ e same. by (known.0.only e) same, new_other n taken ws h known.1)
  where
    by : (is_among w.name taken ≡ true) ⊎ (is_marked_name w.name ≡ true) → w.name ≡ n → ⊥
    by (inl e) same = among_not w.name n taken e h.free same
    by (inr e) same = true≢false (sym e ∙ ap is_marked_name same ∙ no_mark n h.good.identifier)

pub given_distinct : (taken : List Name) (ws : List Wish) → AllByRecursion (IsKnown taken) ws → AreApart ws → is_distinct (all_given taken ws) ≡ true
unfolding all_given
given_distinct taken [] known apart = refl
given_distinct taken (w ∷ ws) known apart =
    let g = given taken w in
    let none : is_among g (all_given (taken ++ g ∷ []) ws) ≡ false =
    later_other g (taken ++ g ∷ []) ws (among_second g taken (g ∷ []) (among_itself g [])) (known_more taken (g ∷ []) ws known.1) (by w.only refl) in
    and_from (not (is_among g (all_given (taken ++ g ∷ []) ws))) (is_distinct (all_given (taken ++ g ∷ []) ws)) (ap (λ t. not t) none)
    (given_distinct (taken ++ g ∷ []) ws (known_more taken (g ∷ []) ws known.1) apart.1)
  where
    by : (b : Bool) → w.only ≡ b → AllByRecursion (IsOther (given taken w)) ws
    by true e = subst (λ (n : Name). AllByRecursion (IsOther n) ws) (sym (given_only taken w e)) (apart.0 e)
    by false e = new_other (given taken w) taken ws (given_new taken w e (known.0.free e)) known.1

-- ---- what holds of each name

-- of the only one that will do, where it is that
abbrev pub OfOnly : (Name → Type 0) → Wish → Type 0
OfOnly P w = w.only ≡ true → P w.name

pub each_given : (P : Name → Type 0) (first : List Name) → ((n : Name) → IsNew first n → P n) → (more : List Name) (ws : List Wish) → AllByRecursion (IsKnown first) ws → AllByRecursion (OfOnly P) ws → AllByRecursion P (all_given (first ++ more) ws)
unfolding all_given
each_given P first new more [] known only = tt
each_given P first new more (w ∷ ws) known only =
    let g = given (first ++ more) w in
    (by w.only refl, subst (λ (t : List Name). AllByRecursion P (all_given t ws)) (joined first more (g ∷ [])) (each_given P first new (more ++ g ∷ []) ws known.1 only.1))
  where
    joined : (a b c : List Name) → a ++ (b ++ c) ≡ (a ++ b) ++ c
    joined [] b c = refl
    joined (x ∷ xs) b c = ap (λ t. x ∷ t) (joined xs b c)

    by : (b : Bool) → w.only ≡ b → P (given (first ++ more) w)
    by true e = subst P (sym (given_only (first ++ more) w e)) (only.0 e)
    by false e =
        let made = given_new (first ++ more) w e (known.0.free e) in
        new (given (first ++ more) w) (record { good = made.good; free = not_among_first (given (first ++ more) w) first more made.free })
