-- What the sign of a token before others tells: facts that the tests show for each sign.
use Rattle.std.proofs.Common.{ℕ, Bool, true, false, ◌≡◌, ◌<◌, ◌&&◌, ◌||◌, ◌+◌, ◌-◌, nat_eq, nat_lt, refl, sym, ap, subst, ◌∙◌, List, [], ◌∷◌, if◌then◌else◌, not}
use Rattle.std.proofs.lemmas.Bool.{eqb-true, ltb-true, eq-eqb, and_parts, and_from, or_left, or_right}
use Rattle.lx_grammar.specs.declared.sign.Item.{Item}
use Rattle.lx_grammar.specs.declared.sign.TheConstants.{OPENING, CLOSING, LOUD, ASSIGNING, ENDS_VALUES}
use Rattle.lx_grammar.specs.Numbers.{number, accepts}
use Rattle.lx_grammar.specs.Ahead.{mark, look, ahead}
use Rattle.lx_grammar.specs.Derives.{takes}
use Rattle.lx_grammar.proofs.Below.{number_below}
use Rattle.lx_grammar.proofs.Checks.{imp, same, every, some, each_bool, modus, same_is, every_at, some_at, bool_at}
use Rattle.lx_grammar.proofs.Test.{plain, gives, marks, tells}

-- the sign of a token, by the three questions about what stands behind it
unfoldable pub marked : ℕ → Bool → Bool → Bool → ℕ
marked c a e t = if nat_lt c 3 then (if a then 56 else c) else (if nat_eq c 54 then (if t then 57 else c) else (if nat_eq c 53 then (if e then 58 else (if t then 59 else c)) else c))

pub mark_marked : (c g : ℕ) → mark c g ≡ marked c (accepts ASSIGNING g) (accepts ENDS_VALUES g) (nat_eq g 56)
unfolding mark marked
mark_marked c g = refl

-- a test of each sign before each answer to the three questions
unfoldable pub for_marks : (ℕ → Bool → Bool → Bool → Bool) → Bool
for_marks p = every 61 (λ c. each_bool (λ a. each_bool (λ e. each_bool (λ t. p c a e t))))

pub marks_at : (p : ℕ → Bool → Bool → Bool → Bool) (c : ℕ) (a e t : Bool) → for_marks p ≡ true → c < 61 → p c a e t ≡ true
unfolding for_marks
marks_at p c a e t h lt = bool_at (p c a e) t (bool_at (λ f. each_bool (p c a f)) e (bool_at (λ b. each_bool (λ f. each_bool (p c b f))) a (every_at 61 c (λ d. each_bool (λ b. each_bool (λ f. each_bool (p d b f)))) h lt)))

abbrev below : ℕ → Bool → Bool → Bool → Bool
below c a e t = nat_lt (marked c a e t) 61

all_below : for_marks below ≡ true
unfolding for_marks every each_bool marked
all_below = refl

pub mark_below : (c g : ℕ) → c < 61 → mark c g < 61
mark_below c g lt = subst (λ k. k < 61) (sym (mark_marked c g)) (ltb-true _ _ (marks_at below c (accepts ASSIGNING g) (accepts ENDS_VALUES g) (nat_eq g 56) all_below lt))

pub look_below : (l : List Item) → look l < 61
unfolding look
look_below [] = ltb-true 60 61 refl
look_below (x ∷ l) = mark_below (number x.sign) (look l) (number_below x.sign)

-- what stands behind a token changes no answer to the first two questions, and the third one not by itself
abbrev keeps_assigning : ℕ → Bool → Bool → Bool → Bool
keeps_assigning c a e t = same (accepts ASSIGNING (marked c a e t)) (accepts ASSIGNING c)

abbrev keeps_ends : ℕ → Bool → Bool → Bool → Bool
keeps_ends c a e t = same (accepts ENDS_VALUES (marked c a e t)) (accepts ENDS_VALUES c)

abbrev keeps_target : ℕ → Bool → Bool → Bool → Bool
keeps_target c a e t = same (nat_eq (marked c a e t) 56) (nat_eq (marked c a false false) 56)

all_assigning : for_marks keeps_assigning ≡ true
unfolding for_marks every each_bool marked accepts
all_assigning = refl

all_ends : for_marks keeps_ends ≡ true
unfolding for_marks every each_bool marked accepts
all_ends = refl

all_target : for_marks keeps_target ≡ true
unfolding for_marks every each_bool marked
all_target = refl

alike : (x g : ℕ) (a e t : Bool) → accepts ASSIGNING g ≡ a → accepts ENDS_VALUES g ≡ e → nat_eq g 56 ≡ t → mark x g ≡ marked x a e t
alike x g a e t p q r = let m : mark x g ≡ marked x (accepts ASSIGNING g) (accepts ENDS_VALUES g) (nat_eq g 56) = mark_marked x g in cc

-- a third token's own sign is enough
pub mark_near : (x y z g : ℕ) → y < 61 → z < 61 → mark x (mark y (mark z g)) ≡ mark x (mark y z)
mark_near x y z g ly lz =
    let a : Bool = accepts ASSIGNING g in
    let e : Bool = accepts ENDS_VALUES g in
    let t : Bool = nat_eq g 56 in
    let b : ℕ = mark z g in
    let zb : b ≡ marked z a e t = mark_marked z g in
    let za : accepts ASSIGNING b ≡ accepts ASSIGNING z = ap (λ k. accepts ASSIGNING k) zb ∙ same_is _ _ (marks_at keeps_assigning z a e t all_assigning lz) in
    let ze : accepts ENDS_VALUES b ≡ accepts ENDS_VALUES z = ap (λ k. accepts ENDS_VALUES k) zb ∙ same_is _ _ (marks_at keeps_ends z a e t all_ends lz) in
    let m1 : mark y b ≡ marked y (accepts ASSIGNING z) (accepts ENDS_VALUES z) (nat_eq b 56) = mark_marked y b ∙ (ap (λ k. marked y k (accepts ENDS_VALUES b) (nat_eq b 56)) za ∙ ap (λ k. marked y (accepts ASSIGNING z) k (nat_eq b 56)) ze) in
    let m2 : mark y z ≡ marked y (accepts ASSIGNING z) (accepts ENDS_VALUES z) (nat_eq z 56) = mark_marked y z in
    let ya : (t : Bool) → accepts ASSIGNING (marked y (accepts ASSIGNING z) (accepts ENDS_VALUES z) t) ≡ accepts ASSIGNING y = λ t. same_is _ _ (marks_at keeps_assigning y (accepts ASSIGNING z) (accepts ENDS_VALUES z) t all_assigning ly) in
    let ye : (t : Bool) → accepts ENDS_VALUES (marked y (accepts ASSIGNING z) (accepts ENDS_VALUES z) t) ≡ accepts ENDS_VALUES y = λ t. same_is _ _ (marks_at keeps_ends y (accepts ASSIGNING z) (accepts ENDS_VALUES z) t all_ends ly) in
    let yt : (t : Bool) → nat_eq (marked y (accepts ASSIGNING z) (accepts ENDS_VALUES z) t) 56 ≡ nat_eq (marked y (accepts ASSIGNING z) false false) 56 = λ t. same_is _ _ (marks_at keeps_target y (accepts ASSIGNING z) (accepts ENDS_VALUES z) t all_target ly) in
    let n1 : mark x (mark y b) ≡ marked x (accepts ASSIGNING y) (accepts ENDS_VALUES y) (nat_eq (marked y (accepts ASSIGNING z) false false) 56) = alike x (mark y b) _ _ _ (ap (λ k. accepts ASSIGNING k) m1 ∙ ya (nat_eq b 56)) (ap (λ k. accepts ENDS_VALUES k) m1 ∙ ye (nat_eq b 56)) (ap (λ k. nat_eq k 56) m1 ∙ yt (nat_eq b 56)) in
    let n2 : mark x (mark y z) ≡ marked x (accepts ASSIGNING y) (accepts ENDS_VALUES y) (nat_eq (marked y (accepts ASSIGNING z) false false) 56) = alike x (mark y z) _ _ _ (ap (λ k. accepts ASSIGNING k) m2 ∙ ya (nat_eq z 56)) (ap (λ k. accepts ENDS_VALUES k) m2 ∙ ye (nat_eq z 56)) (ap (λ k. nat_eq k 56) m2 ∙ yt (nat_eq z 56)) in
    n1 ∙ sym n2

-- a token that is taken has the mark of what it is taken for
abbrev gives_plain : ℕ → ℕ → Bool → Bool → Bool → Bool
gives_plain w c a e t = imp (takes w c && plain w) (nat_eq (marked c a e t) w)

abbrev is_one_of : ℕ → ℕ → Bool
is_one_of w c = imp (takes w c) (nat_eq c w || nat_eq w 0 && (nat_eq c 1 || nat_eq c 2))

all_plain : every 61 (λ w. for_marks (gives_plain w)) ≡ true
unfolding for_marks every each_bool marked takes plain
all_plain = refl

all_ones : every 61 (λ w. every 61 (is_one_of w)) ≡ true
unfolding every takes
all_ones = refl

gives_by : (w c g : ℕ) (p q r s : Bool) → nat_eq c w ≡ p → nat_eq w 0 ≡ q → nat_eq c 1 ≡ r → nat_eq c 2 ≡ s → (p || q && (r || s)) ≡ true → (nat_eq (mark c g) (mark w g) || nat_eq w 0 && (nat_eq (mark c g) (mark 1 g) || nat_eq (mark c g) (mark 2 g))) ≡ true
gives_by w c g true q r s e1 e2 e3 e4 h = or_left _ _ (eq-eqb _ _ (ap (λ k. mark k g) (eqb-true c w e1)))
gives_by w c g false true true s e1 e2 e3 e4 h = or_right _ _ (and_from _ _ e2 (or_left _ _ (eq-eqb _ _ (ap (λ k. mark k g) (eqb-true c 1 e3)))))
gives_by w c g false true false true e1 e2 e3 e4 h = or_right _ _ (and_from _ _ e2 (or_right _ _ (eq-eqb _ _ (ap (λ k. mark k g) (eqb-true c 2 e4)))))
gives_by w c g false true false false e1 e2 e3 e4 h = cc
gives_by w c g false false r s e1 e2 e3 e4 h = cc

gives_at : (w c g : ℕ) → (nat_eq c w || nat_eq w 0 && (nat_eq c 1 || nat_eq c 2)) ≡ true → gives w g (mark c g) ≡ true
unfolding gives
gives_at w c g h = gives_by w c g (nat_eq c w) (nat_eq w 0) (nat_eq c 1) (nat_eq c 2) refl refl refl refl h

marks_by : (w c g : ℕ) (G : ℕ → Bool) → w < 61 → c < 61 → g < 61 → takes w c ≡ true → G g ≡ true → (p : Bool) → plain w ≡ p → (if p then nat_eq (mark c g) w else some 61 (λ i. G i && gives w i (mark c g))) ≡ true
marks_by w c g G lw lc lg h hG true e =
    let t : gives_plain w c (accepts ASSIGNING g) (accepts ENDS_VALUES g) (nat_eq g 56) ≡ true = marks_at (gives_plain w) c _ _ _ (every_at 61 w (λ v. for_marks (gives_plain v)) all_plain lw) lc in
    ap (λ k. nat_eq k w) (mark_marked c g) ∙ modus _ _ t (and_from _ _ h e)
marks_by w c g G lw lc lg h hG false e = some_at 61 g (λ i. G i && gives w i (mark c g)) lg (and_from _ _ hG (gives_at w c g (modus _ _ (every_at 61 c (is_one_of w) (every_at 61 w (λ v. every 61 (is_one_of v)) all_ones lw) lc) h)))

pub marks_sound : (w c g : ℕ) (G : ℕ → Bool) → w < 61 → c < 61 → g < 61 → takes w c ≡ true → G g ≡ true → marks w G (mark c g) ≡ true
unfolding marks
marks_sound w c g G lw lc lg h hG = marks_by w c g G lw lc lg h hG (plain w) refl

-- the kind of bracket of what a token is taken for
abbrev kind_same : ℕ → ℕ → Bool
kind_same w c = imp (takes w c) (same (accepts OPENING c) (accepts OPENING w) && (same (accepts CLOSING c) (accepts CLOSING w) && same (accepts LOUD c) (accepts LOUD w)))

abbrev tells_same : ℕ → ℕ → Bool
tells_same w c = imp (takes w c && tells w) (nat_eq c w)

abbrev tells_mark : ℕ → Bool → Bool → Bool → Bool
tells_mark c a e t = imp (tells (marked c a e t)) (nat_eq (marked c a e t) c)

abbrev tells_ends : ℕ → Bool
tells_ends c = imp (tells c) (not (accepts OPENING c))

all_kinds : every 61 (λ w. every 61 (kind_same w)) ≡ true
unfolding every takes accepts
all_kinds = refl

all_tells : every 61 (λ w. every 61 (tells_same w)) ≡ true
unfolding every takes accepts tells
all_tells = refl

all_told : for_marks tells_mark ≡ true
unfolding for_marks every each_bool marked accepts tells
all_told = refl

all_end : every 61 tells_ends ≡ true
unfolding every accepts tells
all_end = refl

pub kinds : (w c : ℕ) → w < 61 → c < 61 → takes w c ≡ true → (accepts OPENING c ≡ accepts OPENING w) × (accepts CLOSING c ≡ accepts CLOSING w) × (accepts LOUD c ≡ accepts LOUD w)
kinds w c lw lc h =
    let t : (same (accepts OPENING c) (accepts OPENING w) && (same (accepts CLOSING c) (accepts CLOSING w) && same (accepts LOUD c) (accepts LOUD w))) ≡ true = modus _ _ (every_at 61 c (kind_same w) (every_at 61 w (λ v. every 61 (kind_same v)) all_kinds lw) lc) h in
    (same_is _ _ (and_parts _ _ t).0, same_is _ _ (and_parts _ _ (and_parts _ _ t).1).0, same_is _ _ (and_parts _ _ (and_parts _ _ t).1).1)

-- the look ends at once
pub ahead_ends : (x : Item) (l : List Item) → tells (number x.sign) ≡ true → ahead 0 (x ∷ l) ≡ number x.sign
unfolding ahead tells
ahead_ends x l h =
    let c : ℕ = number x.sign in
    let o : not (accepts OPENING c) ≡ true = modus _ _ (every_at 61 c tells_ends all_end (number_below x.sign)) h in
    elim (accepts OPENING c) as (λ b. not b ≡ true → (if b then ahead (0 + 1) l else (if accepts CLOSING c then (if nat_eq 0 0 then c else ahead (0 - 1) l) else (if nat_eq 0 0 && accepts LOUD c then c else ahead 0 l))) ≡ c) [ true ↦ λ (k : not true ≡ true). cc | false ↦ λ (k : not false ≡ true). elim (accepts CLOSING c) as (λ b. (b || accepts LOUD c) ≡ true → (if b then c else (if accepts LOUD c then c else ahead 0 l)) ≡ c) [ true ↦ λ (j : (true || accepts LOUD c) ≡ true). refl | false ↦ λ (j : (false || accepts LOUD c) ≡ true). elim (accepts LOUD c) as (λ b. b ≡ true → (if b then c else ahead 0 l) ≡ c) [ true ↦ λ (i : true ≡ true). refl | false ↦ λ (i : false ≡ true). cc ] j ] h ] o

nothing_ahead : ahead 0 [] ≡ 60
unfolding ahead
nothing_ahead = refl

pub ahead_told : (l : List Item) → tells (look l) ≡ true → ahead 0 l ≡ look l
unfolding look
ahead_told [] h = nothing_ahead
ahead_told (x ∷ l) h =
    let c : ℕ = number x.sign in
    let g : ℕ = look l in
    let h2 : tells (marked c (accepts ASSIGNING g) (accepts ENDS_VALUES g) (nat_eq g 56)) ≡ true = subst (λ k. tells k ≡ true) (mark_marked c g) h in
    let e : mark c g ≡ c = mark_marked c g ∙ eqb-true _ _ (modus _ _ (marks_at tells_mark c _ _ _ all_told (number_below x.sign)) h2) in
    ahead_ends x l (subst (λ k. tells k ≡ true) e h) ∙ sym e

pub ahead_taken : (w : ℕ) (x : Item) (l : List Item) → w < 61 → takes w (number x.sign) ≡ true → tells w ≡ true → ahead 0 (x ∷ l) ≡ w
ahead_taken w x l lw h t =
    let e : number x.sign ≡ w = eqb-true _ _ (modus _ _ (every_at 61 (number x.sign) (tells_same w) (every_at 61 w (λ v. every 61 (tells_same v)) all_tells lw) (number_below x.sign)) (and_from _ _ h t)) in
    ahead_ends x l (subst (λ k. tells k ≡ true) (sym e) t) ∙ e
