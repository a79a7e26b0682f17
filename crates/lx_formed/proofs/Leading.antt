-- What the grammar derives goes its rule's way.
use Rattle.std.proofs.Common.{ℕ, zero, suc, Bool, true, ◌≡◌, ◌<◌, ◌&&◌, nat_eq, nat_lt, List, [], ◌∷◌, Option, Some, None, refl, sym, ap, subst, ◌∙◌, arith, map, slice_get, inl, inr}
use Rattle.std.proofs.lemmas.Bool.{and_parts, eqb-true, ltb-true, or_cases}
use Rattle.std.proofs.lemmas.Option.{same_Some}
use Rattle.lx_token.specs.declared.tokens.Token.{Token}
use Rattle.lx_grammar.specs.declared.grammar.Spot.{Spot}
use Rattle.lx_grammar.specs.declared.grammar.Spot.TheVariants as spot
use Rattle.lx_grammar.specs.declared.grammar.Symbol.{Symbol}
use Rattle.lx_grammar.specs.declared.grammar.Symbol.TheVariants as symbol
use Rattle.lx_grammar.specs.declared.sign.Item.{Item}
use Rattle.lx_grammar.specs.declared.sign.Sign.{Sign}
use Rattle.lx_grammar.specs.declared.sign.Sign.TheVariants as sign
use Rattle.lx_grammar.specs.Derives.{Tree, Parts, end, token, child, joined, label, takes, Derives, IsTreeOf, none, take, node, one, skip, once, stop, more}
use Rattle.lx_grammar.specs.Grammar.{rules}
use Rattle.lx_grammar.specs.Numbers.{number}
use Rattle.lx_grammar.specs.Signs.{item_of}
use Rattle.lx_syntax.specs.Convert.{comparison_of, operator_of, prefix_of, sign_of}
use Rattle.lx_formed.specs.Formed.{AreClasses}
use Rattle.lx_syntax.specs.Classes.{classes, is_assign}
use Rattle.lx_formed.proofs.Inverting.{kid}
use Rattle.lx_formed.proofs.Steps.{After, Ended, Kind, Leads, State, Step, all_of, ends, goes, kind_of, on, on_kind, part, plain, q0, q1, q2, q3, q4, q14, row_goes, same, step, top_step, whole, word}
use Rattle.lx_formed.proofs.Accepting.{accepted}

-- ---- signs

-- a number that tells names alike
abbrev told : ℕ → ℕ
told zero = 0
told (suc zero) = 0
told (suc (suc zero)) = 0
told n = n

number_plain : (s : Sign) → number (plain s) ≡ told (number s)
unfolding number
number_plain sign.Name = refl
number_plain sign.Init = refl
number_plain sign.SelfName = refl
number_plain _ = refl

-- the sign of a number
all_signs : List Sign
all_signs = sign.Name ∷ sign.Init ∷ sign.SelfName ∷ sign.Number ∷ sign.Text ∷ sign.Newline ∷ sign.Indent ∷ sign.Dedent ∷ sign.End ∷ sign.From ∷ sign.Import ∷ sign.Class ∷ sign.Def ∷ sign.Pass ∷ sign.If ∷ sign.Elif ∷ sign.Else ∷ sign.For ∷ sign.In ∷ sign.Or ∷ sign.And ∷ sign.Not ∷ sign.Is ∷ sign.None ∷ sign.True ∷ sign.False ∷ sign.Plus ∷ sign.Minus ∷ sign.Star ∷ sign.Floor ∷ sign.Percent ∷ sign.Power ∷ sign.ShiftLeft ∷ sign.ShiftRight ∷ sign.Ampersand ∷ sign.Bar ∷ sign.Caret ∷ sign.Tilde ∷ sign.Less ∷ sign.LessEqual ∷ sign.Equal ∷ sign.Unequal ∷ sign.Greater ∷ sign.GreaterEqual ∷ sign.Assign ∷ sign.AddAssign ∷ sign.OpenRound ∷ sign.CloseRound ∷ sign.OpenSquare ∷ sign.CloseSquare ∷ sign.OpenCurly ∷ sign.CloseCurly ∷ sign.Colon ∷ sign.Comma ∷ sign.Dot ∷ sign.Other ∷ sign.Target ∷ sign.LastDot ∷ sign.LastComma ∷ sign.KeyComma ∷ sign.Nothing ∷ []

sign_there : (s : Sign) → slice_get all_signs (number s) ≡ Some s
unfolding number all_signs
sign_there sign.Name = refl
sign_there _ = refl

number_same : (s g : Sign) → number s ≡ number g → s ≡ g
number_same s g e = same_Some s g (sym (sign_there s) ∙ ap (slice_get all_signs) e ∙ sign_there g)

below_three : (n : ℕ) → nat_lt n 3 ≡ true → told n ≡ 0
below_three zero h = refl
below_three (suc zero) h = refl
below_three (suc (suc zero)) h = refl
below_three (suc (suc (suc n))) h = let l : suc (suc (suc n)) < 3 = ltb-true _ _ h in absurd (omega arith)

pub plain_same : (s g : Sign) → takes (number s) (number g) ≡ true → plain s ≡ plain g
unfolding takes
plain_same s g h =
    elim (or_cases (nat_eq (number s) (number g)) (nat_eq (number s) 0 && nat_lt (number g) 3) h) [
      | inl e ↦ ap plain (number_same s g (eqb-true (number s) (number g) e))
      | inr e ↦
          let both = and_parts (nat_eq (number s) 0) (nat_lt (number g) 3) e in
          let z : number s ≡ 0 = eqb-true (number s) 0 both.0 in
          number_same (plain s) (plain g) (number_plain s ∙ ap told z ∙ sym (below_three (number g) both.1) ∙ sym (number_plain g))
    ]

-- ---- rows

all_at : {A : Type 0} (test : A → Bool) (xs : List A) (i : ℕ) (x : A) → all_of test xs ≡ true → slice_get xs i ≡ Some x → test x ≡ true
unfolding all_of
all_at test [] i x h e = absurd (cc)
all_at test (y ∷ xs) zero x h e = ap test (sym (same_Some y x e)) ∙ (and_parts (test y) (all_of test xs) h).0
all_at test (y ∷ xs) (suc i) x h e = all_at test xs i x (and_parts (test y) (all_of test xs) h).1 e

same_is : (p q : State) → same p q ≡ true → p ≡ q
same_is q0 q0 h = refl
same_is q1 q1 h = refl
same_is q2 q2 h = refl
same_is q3 q3 h = refl
same_is q4 q4 h = refl
same_is q14 q14 h = refl
same_is _ _ h = absurd (cc)

after_on : (o : Option State) (test : State → Bool) (k : State → Type 0) → ((q : State) → test q ≡ true → k q) → on o test ≡ true → After o k
after_on None test k f h = absurd (cc)
after_on (Some q) test k f h = f q h

kind_on : (o : Option Kind) (test : Kind → Bool) → on_kind o test ≡ true → (j : Kind) × ((o ≡ Some j) × (test j ≡ true))
kind_on None test h = absurd (cc)
kind_on (Some j) test h = (j, (refl, h))

-- ---- ways

after_more : (o : Option State) (k l : State → Type 0) → ((q : State) → k q → l q) → After o k → After o l
after_more None k l f h = h
after_more (Some q) k l f h = f q h

leads_joined : (src : List ℕ) (st : Step) (q : State) (qs ps : Parts) (k : State → Type 0) → Leads src st q qs (λ p. Leads src st p ps k) → Leads src st q (joined qs ps) k
unfolding Leads joined
leads_joined src st q end ps k h = h
leads_joined src st q (token x qs) ps k h = after_more _ _ _ (λ p l. leads_joined src st p qs ps k l) h
leads_joined src st q (child t qs) ps k h = (h.0, (h.1.0, after_more _ _ _ (λ p l. leads_joined src st p qs ps k l) h.1.1))

leads_more : (src : List ℕ) (st : Step) (q : State) (ps : Parts) (k l : State → Type 0) → ((p : State) → k p → l p) → Leads src st q ps k → Leads src st q ps l
unfolding Leads
leads_more src st q end k l f h = f q h
leads_more src st q (token x ps) k l f h = after_more _ _ _ (λ p m. leads_more src st p ps k l f m) h
leads_more src st q (child t ps) k l f h = (h.0, (h.1.0, after_more _ _ _ (λ p m. leads_more src st p ps k l f m) h.1.1))

-- ---- items whose signs are those of their tokens

unfoldable pub Signed : List ℕ → List Item → Type 0
Signed src [] = Unit {0}
Signed src (x ∷ l) = (x.sign ≡ sign_of src x.token) × Signed src l

pub signed_items : (src : List ℕ) (xs : List Token) → Signed src (map (item_of src) xs)
unfolding Signed item_of
signed_items src [] = tt
signed_items src (x ∷ xs) = (refl, signed_items src xs)

rest_signed : (src : List ℕ) {α : List Symbol} {l m : List Item} {ps : Parts} → Derives α l m ps → Signed src l → Signed src m
unfolding Signed
rest_signed src none h = h
rest_signed src (take e g) h = rest_signed src g h.1
rest_signed src (node i e f g) h = rest_signed src g (rest_signed src f h)
rest_signed src (one i e f g) h = rest_signed src g (rest_signed src f h)
rest_signed src (skip g) h = rest_signed src g h
rest_signed src (once i e f g) h = rest_signed src g (rest_signed src f h)
rest_signed src (stop g) h = rest_signed src g h
rest_signed src (more i e f g) h = rest_signed src g (rest_signed src f h)

-- ---- the rows go their ways

rows_go : (r : Spot) (j : Kind) → kind_of r ≡ Some j → all_of (row_goes r) (rules r) ≡ true
unfolding all_of rules goes label is_assign comparison_of operator_of prefix_of
rows_go spot.File j e = refl
rows_go spot.Import j e = refl
rows_go spot.Dotted j e = refl
rows_go spot.Names j e = refl
rows_go spot.Class j e = refl
rows_go spot.Init j e = refl
rows_go spot.Suite j e = refl
rows_go spot.Stmt j e = refl
rows_go spot.If j e = refl
rows_go spot.For j e = refl
rows_go spot.Simple j e = refl
rows_go spot.Values j e = refl
rows_go spot.Place j e = refl
rows_go spot.Expr j e = refl
rows_go spot.Or j e = refl
rows_go spot.And j e = refl
rows_go spot.Not j e = refl
rows_go spot.Comp j e = refl
rows_go spot.Bor j e = refl
rows_go spot.Bxor j e = refl
rows_go spot.Band j e = refl
rows_go spot.Shift j e = refl
rows_go spot.Sum j e = refl
rows_go spot.Term j e = refl
rows_go spot.Unary j e = refl
rows_go spot.Power j e = refl
rows_go spot.Post j e = refl
rows_go spot.Sub j e = refl
rows_go spot.Args j e = refl
rows_go spot.PlaceArg j e = refl
rows_go spot.NameArg j e = refl
rows_go spot.Atom j e = refl
rows_go _ j e = absurd (cc)

row_at : (r : Spot) (j : Kind) (i : ℕ) (β : List Symbol) → kind_of r ≡ Some j → slice_get (rules r) i ≡ Some β → row_goes r β ≡ true
row_at r j i β k e = all_at (row_goes r) (rules r) i β (rows_go r j k) e

pub leads : (src : List ℕ) (st : Step) {α : List Symbol} {l m : List Item} {ps : Parts} → Derives α l m ps → (n : ℕ) (q : State) (k : State → Bool) → Signed src l → goes n st α q k ≡ true → Leads src st q ps (Ended k)
unfolding goes Leads Signed
leads src st none zero q k s h = absurd (cc)
leads src st none (suc n) q k s h = h
leads src st (take e g) zero q k s h = absurd (cc)
leads src st (take {s = w} {α = α} {x = x} {ps = ps} e g) (suc n) q k s h =
    let letter : plain w ≡ plain (sign_of src x.token) = plain_same w x.sign e ∙ ap plain s.0 in
    subst (λ z. After (st q (word z)) (λ p. Leads src st p ps (Ended k))) letter
    (after_on (st q (word (plain w))) (λ p. goes n st α p k) (λ p. Leads src st p ps (Ended k)) (λ p o. leads src st g n p k s.1 o) h)
leads src st (node i e f g) zero q k s h = absurd (cc)
leads src st (node {r = r} i {β = β} {α = α} {qs = qs} {ps = ps} e f g) (suc n) q k s h =
    let found = kind_on (kind_of r) (λ j. on (st q (part j)) (λ p. goes n st α p k)) h in
    let inside : Leads src (step (label r)) q0 qs (Ended (ends (label r))) = leads src (step (label r)) f 30 q0 (ends (label r)) s (row_at r found.0 i β found.1.0 e) in (
      found.0,
      (
        accepted src r found.0 qs found.1.0 inside,
        after_on (st q (part found.0)) (λ p. goes n st α p k) (λ p. Leads src st p ps (Ended k)) (λ p o. leads src st g n p k (rest_signed src f s) o) found.1.1,
      ),
    )
leads src st (one i e f g) zero q k s h = absurd (cc)
leads src st (one {r = r} i {β = β} {α = α} {qs = qs} {ps = ps} e f g) (suc n) q k s h =
    let row : goes n st β q (λ p. goes n st α p k) ≡ true = all_at (λ γ. goes n st γ q (λ p. goes n st α p k)) (rules r) i β h e in
    leads_joined src st q qs ps (Ended k) (leads_more src st q qs (Ended (λ p. goes n st α p k)) (λ p. Leads src st p ps (Ended k)) (λ p o. leads src st g n p k (rest_signed src f s) o)
    (leads src st f n q (λ p. goes n st α p k) s row))
leads src st (skip g) zero q k s h = absurd (cc)
leads src st (skip {r = r} {α = α} g) (suc n) q k s h = leads src st g n q k s (and_parts (all_of (λ γ. goes n st γ q (λ p. goes n st α p k)) (rules r)) (goes n st α q k) h).1
leads src st (once i e f g) zero q k s h = absurd (cc)
leads src st (once {r = r} i {β = β} {α = α} {qs = qs} {ps = ps} e f g) (suc n) q k s h =
    let row : goes n st β q (λ p. goes n st α p k) ≡ true = all_at (λ γ. goes n st γ q (λ p. goes n st α p k)) (rules r) i β (and_parts (all_of (λ γ. goes n st γ q (λ p. goes n st α p k)) (rules r)) (goes n st α q k) h).0 e in
    leads_joined src st q qs ps (Ended k) (leads_more src st q qs (Ended (λ p. goes n st α p k)) (λ p. Leads src st p ps (Ended k)) (λ p o. leads src st g n p k (rest_signed src f s) o)
    (leads src st f n q (λ p. goes n st α p k) s row))
leads src st (stop g) zero q k s h = absurd (cc)
leads src st (stop {r = r} {α = α} g) (suc n) q k s h = leads src st g n q k s (and_parts (all_of (λ γ. goes n st γ q (λ p. same p q)) (rules r)) (goes n st α q k) h).1
leads src st (more i e f g) zero q k s h = absurd (cc)
leads src st (more {r = r} i {β = β} {α = α} {qs = qs} {ps = ps} e f g) (suc n) q k s h =
    let row : goes n st β q (λ p. same p q) ≡ true = all_at (λ γ. goes n st γ q (λ p. same p q)) (rules r) i β (and_parts (all_of (λ γ. goes n st γ q (λ p. same p q)) (rules r)) (goes n st α q k) h).0 e in
    leads_joined src st q qs ps (Ended k) (leads_more src st q qs (Ended (λ p. same p q)) (λ p. Leads src st p ps (Ended k))
    (λ p o. subst (λ z. Leads src st z ps (Ended k)) (sym (same_is p q o)) (leads src st g (suc n) q k (rest_signed src f s) h))
    (leads src st f n q (λ p. same p q) s row))

-- ---- a file

top_goes : goes 30 top_step (symbol.Node spot.File ∷ []) q0 (λ p. same p q1) ≡ true
unfolding goes
top_goes = refl

pub formed : (src : List ℕ) (tokens : List Token) (t : Tree) → IsTreeOf (map (item_of src) tokens) t → AreClasses (classes src t)
unfolding Leads
formed src tokens t h =
    let l : Leads src top_step q0 (child t end) (Ended (λ p. same p q1)) = leads src top_step h.derived 30 q0 (λ p. same p q1) (signed_items src tokens) top_goes in
    (kid src whole l.0 t q1 (Ended (λ p. same p q1)) l.1.0 l.1.1).0
