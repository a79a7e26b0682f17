-- Every tree of the grammar is the one that is read where what stands ahead picks each row; so there is at most one.
use Rattle.std.proofs.Common.{ℕ, Bool, true, false, ◌≡◌, ◌<◌, ◌≤◌, ◌&&◌, ◌+◌, ◌-◌, nat_eq, nat_lt, refl, sym, ap, subst, arith, ◌∙◌, List, [], ◌∷◌, length, Option, Some, None, slice_get, if◌then◌else◌, not}
use Rattle.std.proofs.lemmas.Bool.{eqb-true, ltb-true, eq-eqb, and_parts, or_left, or_right, ltb-false, not-true}
use Rattle.std.proofs.lemmas.Bool.Decides.{nat_tests}
use Rattle.std.proofs.lemmas.Option.{slice_get_past}
use Rattle.std.proofs.Math.Bool.{or-false}
use Rattle.lx_grammar.specs.declared.sign.Item.{Item}
use Rattle.lx_grammar.specs.declared.grammar.Spot.{Spot}
use Rattle.lx_grammar.specs.declared.grammar.Spot.TheVariants as spot
use Rattle.lx_grammar.specs.declared.grammar.Symbol.{Symbol}
use Rattle.lx_grammar.specs.declared.grammar.Symbol.TheVariants as symbol
use Rattle.lx_grammar.specs.declared.sign.TheConstants.{OPENING, CLOSING, LOUD}
use Rattle.lx_grammar.specs.Numbers.{number, accepts}
use Rattle.lx_grammar.specs.Grammar.{rules}
use Rattle.lx_grammar.specs.Pick.{pick, is_far}
use Rattle.lx_grammar.specs.Ahead.{look, ahead, view}
use Rattle.lx_grammar.specs.Derives.{Tree, NoTree, Parts, end, token, child, joined, wrap, label, Derives, none, take, node, one, skip, once, stop, more, IsTreeOf}
use Rattle.lx_grammar.specs.Reads.{Reads, done, took, opened, inlined, skipped, given, ended, again}
use Rattle.lx_grammar.proofs.Tables.{starts, follow, hush}
use Rattle.lx_grammar.proofs.Below.{number_below}
use Rattle.lx_grammar.proofs.Checks.{imp, every, modus, every_at, row_at}
use Rattle.lx_grammar.proofs.Marks.{look_below, marks_sound, kinds, ahead_told, ahead_taken}
use Rattle.lx_grammar.proofs.Test.{within, predict, passes_by, fits, tells, rings, audible, still_token, still, picked_near, picked_far, row_fits}
use Rattle.lx_grammar.proofs.Passed.{passes}

-- each row of the table has passed
pub fitting : (r : Spot) (i : ℕ) (β : List Symbol) → slice_get (rules r) i ≡ Some β → row_fits r i β ≡ true
fitting r i β e = row_at (row_fits r) (rules r) i β (passes r) e

-- the four parts of a row's test
abbrev picks_part : Spot → ℕ → List Symbol → Bool
picks_part r i β = if is_far r then picked_far r i β else picked_near r i β

abbrev starts_part : Spot → List Symbol → Bool
starts_part r β = within (predict (accepts (follow r)) β) (accepts (starts r))

abbrev fits_part : Spot → List Symbol → Bool
fits_part r β = fits (accepts (follow r)) β

abbrev still_part : Spot → List Symbol → Bool
still_part r β = still (hush r) β 0

pub row_picked : (r : Spot) (i : ℕ) (β : List Symbol) → slice_get (rules r) i ≡ Some β → (if is_far r then picked_far r i β else picked_near r i β) ≡ true
unfolding row_fits
row_picked r i β e = (and_parts (picks_part r i β) (starts_part r β && (fits_part r β && still_part r β)) (fitting r i β e)).0

row_rest : (r : Spot) (i : ℕ) (β : List Symbol) → slice_get (rules r) i ≡ Some β → (starts_part r β && (fits_part r β && still_part r β)) ≡ true
unfolding row_fits
row_rest r i β e = (and_parts (picks_part r i β) (starts_part r β && (fits_part r β && still_part r β)) (fitting r i β e)).1

pub row_starts : (r : Spot) (i : ℕ) (β : List Symbol) → slice_get (rules r) i ≡ Some β → within (predict (accepts (follow r)) β) (accepts (starts r)) ≡ true
row_starts r i β e = (and_parts (starts_part r β) (fits_part r β && still_part r β) (row_rest r i β e)).0

pub row_inner : (r : Spot) (i : ℕ) (β : List Symbol) → slice_get (rules r) i ≡ Some β → fits (accepts (follow r)) β ≡ true
row_inner r i β e = (and_parts (fits_part r β) (still_part r β) (and_parts (starts_part r β) (fits_part r β && still_part r β) (row_rest r i β e)).1).0

pub row_still : (r : Spot) (i : ℕ) (β : List Symbol) → slice_get (rules r) i ≡ Some β → still (hush r) β 0 ≡ true
row_still r i β e = (and_parts (fits_part r β) (still_part r β) (and_parts (starts_part r β) (fits_part r β && still_part r β) (row_rest r i β e)).1).1

pub within_at : (p q : ℕ → Bool) (k : ℕ) → within p q ≡ true → k < 61 → p k ≡ true → q k ≡ true
unfolding within
within_at p q k h lt e = modus _ _ (every_at 61 k (λ i. imp (p i) (q i)) h lt) e

stilled : (o2 c2 l2 o c lo : Bool) (h d : ℕ) (next : ℕ → Bool) → o ≡ o2 → c ≡ c2 → lo ≡ l2 → still_token o2 c2 l2 h d next ≡ true → still_token o c lo h d next ≡ true
stilled o2 c2 l2 o c lo h d next p q r s = subst (λ k. still_token k c lo h d next ≡ true) (sym p) (subst (λ k. still_token o2 k lo h d next ≡ true) (sym q) (subst (λ k. still_token o2 c2 k h d next ≡ true) (sym r) s))

deep : (r : Spot) (h d b : ℕ) → not (nat_lt (h + d) (hush r)) ≡ true → h ≤ b → hush r ≤ d + b
deep r h d b n hb = let x : hush r ≤ h + d = ltb-false _ _ (not-true _ n) in omega arith

-- one token of a row whose brackets are balanced
calm_token : (o cl lo : Bool) (h d b c : ℕ) (next : ℕ → Bool) (l : List Item) (goal : ℕ) → ((e : ℕ) → next e ≡ true → ahead (e + b) l ≡ goal) → still_token o cl lo h d next ≡ true → h ≤ b → (if o then ahead ((d + b) + 1) l else (if cl then (if nat_eq (d + b) 0 then c else ahead ((d + b) - 1) l) else (if nat_eq (d + b) 0 && lo then c else ahead (d + b) l))) ≡ goal
calm_token true cl lo h d b c next l goal go s hb = let e : (d + b) + 1 ≡ (d + 1) + b = omega arith in ap (λ k. ahead k l) e ∙ go (d + 1) s
calm_token false true lo h d b c next l goal go s hb =
    let pos : 0 < d = ltb-true 0 d (and_parts _ _ s).0 in
    let z : nat_eq (d + b) 0 ≡ false = grind (arith, nat_tests) in
    let e : (d + b) - 1 ≡ (d - 1) + b = omega arith in
    let last : ahead ((d + b) - 1) l ≡ goal = ap (λ k. ahead k l) e ∙ go (d - 1) (and_parts _ _ s).1 in
    subst (λ k. (if k then c else ahead ((d + b) - 1) l) ≡ goal) (sym z) last
calm_token false false true h d b c next l goal go s hb =
    let pos : 0 < h + d = ltb-true 0 (h + d) (sym (or-false (nat_lt 0 (h + d))) ∙ (and_parts _ _ s).0) in
    let z : nat_eq (d + b) 0 ≡ false = grind (arith, nat_tests) in
    subst (λ k. (if k && true then c else ahead (d + b) l) ≡ goal) (sym z) (go d (and_parts _ _ s).1)
calm_token false false false h d b c next l goal go s hb =
    elim (nat_eq (d + b) 0) as (λ k. (if k && false then c else ahead (d + b) l) ≡ goal) [ true ↦ go d (and_parts _ _ s).1 | false ↦ go d (and_parts _ _ s).1 ]

from_zero : (n : ℕ) (l : List Item) → ahead n l ≡ ahead (0 + n) l
from_zero n l = let e : n ≡ 0 + n = omega arith in ap (λ k. ahead k l) e

-- over what a row with balanced brackets takes, the look ahead goes on
pub calm : {α : List Symbol} {l m : List Item} {ps : Parts} → Derives α l m ps → (h d b : ℕ) → still h α d ≡ true → h ≤ b → ahead (d + b) l ≡ ahead b m
unfolding still ahead
calm (none {l = l}) h d b s hb = let z : d ≡ 0 = eqb-true d 0 s in let e : d + b ≡ b = omega arith in ap (λ k. ahead k l) e
calm (take {s = s} {α = α} {x = x} {l = l} {m = m} e f) h d b g hb =
    let k : (accepts OPENING (number x.sign) ≡ accepts OPENING (number s)) × (accepts CLOSING (number x.sign) ≡ accepts CLOSING (number s)) × (accepts LOUD (number x.sign) ≡ accepts LOUD (number s)) = kinds (number s) (number x.sign) (number_below s) (number_below x.sign) e in
    let g2 : still_token (accepts OPENING (number x.sign)) (accepts CLOSING (number x.sign)) (accepts LOUD (number x.sign)) h d (still h α) ≡ true = stilled _ _ _ _ _ _ h d (still h α) k.0 k.1 k.2 g in
    calm_token (accepts OPENING (number x.sign)) (accepts CLOSING (number x.sign)) (accepts LOUD (number x.sign)) h d b (number x.sign) (still h α) l (ahead b m) (λ i j. calm f h i b j hb) g2 hb
calm (node {r = r} i {β = β} {α = α} {l = l} {k = k} e f g) h d b s hb = from_zero (d + b) _ ∙ calm f (hush r) 0 (d + b) (row_still r i β e) (deep r h d b (and_parts _ _ s).0 hb) ∙ calm g h d b (and_parts _ _ s).1 hb
calm (one {r = r} i {β = β} e f g) h d b s hb = from_zero (d + b) _ ∙ calm f (hush r) 0 (d + b) (row_still r i β e) (deep r h d b (and_parts _ _ s).0 hb) ∙ calm g h d b (and_parts _ _ s).1 hb
calm (skip g) h d b s hb = calm g h d b (and_parts _ _ s).1 hb
calm (once {r = r} i {β = β} e f g) h d b s hb = from_zero (d + b) _ ∙ calm f (hush r) 0 (d + b) (row_still r i β e) (deep r h d b (and_parts _ _ s).0 hb) ∙ calm g h d b (and_parts _ _ s).1 hb
calm (stop g) h d b s hb = calm g h d b (and_parts _ _ s).1 hb
calm (more {r = r} i {β = β} e f g) h d b s hb = from_zero (d + b) _ ∙ calm f (hush r) 0 (d + b) (row_still r i β e) (deep r h d b (and_parts _ _ s).0 hb) ∙ calm g h d b s hb

-- the same, where the look starts outside brackets
pub calm_row : (r : Spot) (i : ℕ) {β : List Symbol} {l k : List Item} {qs : Parts} → slice_get (rules r) i ≡ Some β → Derives β l k qs → nat_eq (hush r) 0 ≡ true → ahead 0 l ≡ ahead 0 k
calm_row r i {β = β} {l = l} e f h = from_zero 0 l ∙ calm f (hush r) 0 0 (row_still r i β e) (let z : hush r ≡ 0 = eqb-true _ _ h in omega arith)

-- what the look far ahead ends at
pub heard : {β : List Symbol} {l m : List Item} {ps : Parts} → Derives β l m ps → (F : ℕ → Bool) → audible F β ≡ true → F (look m) ≡ true → rings F β (ahead 0 l) ≡ true
unfolding rings audible
heard (none {l = l}) F h e = subst (λ k. F k ≡ true) (sym (ahead_told l (within_at F tells (look l) h (look_below l) e))) e
heard (take {s = s} {x = x} {l = l} e f) F h g = eq-eqb _ _ (ahead_taken (number s) x l (number_below s) e h)
heard (node {r = r} i {β = β} {α = α} e f g) F h j = subst (λ k. rings F α k ≡ true) (sym (calm_row r i e f (and_parts _ _ h).0)) (heard g F (and_parts _ _ h).1 j)
heard (one {r = r} i {β = β} {α = α} e f g) F h j = subst (λ k. rings F α k ≡ true) (sym (calm_row r i e f (and_parts _ _ h).0)) (heard g F (and_parts _ _ h).1 j)
heard (skip g) F h j = heard g F (and_parts _ _ h).1 j
heard (once {r = r} i {β = β} {α = α} e f g) F h j = subst (λ k. rings F α k ≡ true) (sym (calm_row r i e f (and_parts _ _ h).0)) (heard g F (and_parts _ _ h).1 j)
heard (stop g) F h j = heard g F (and_parts _ _ h).1 j
heard (more {r = r} i {β = β} {α = α} e f g) F h j = subst (λ k. rings F α k ≡ true) (sym (calm_row r i e f (and_parts _ _ h).0)) (heard g F h j)

if_below : (b : Bool) (m n : ℕ) → m < 61 → n < 61 → (if b then m else n) < 61
if_below true m n p q = p
if_below false m n p q = q

near_chosen : (r : Spot) (i : ℕ) (β : List Symbol) (l : List Item) → predict (accepts (follow r)) β (look l) ≡ true → picked_near r i β ≡ true → pick r (look l) ≡ i
unfolding picked_near
near_chosen r i β l p h = eqb-true _ _ (modus _ _ (every_at 61 (look l) (λ k. imp (predict (accepts (follow r)) β k) (nat_eq (pick r k) i)) h (look_below l)) p)

ahead_below : (d : ℕ) (l : List Item) → ahead d l < 61
unfolding ahead
ahead_below d [] = ltb-true 60 61 refl
ahead_below d (x ∷ l) = if_below (accepts OPENING (number x.sign)) _ _ (ahead_below (d + 1) l) (if_below (accepts CLOSING (number x.sign)) _ _ (if_below (nat_eq d 0) _ _ (number_below x.sign) (ahead_below (d - 1) l)) (if_below (nat_eq d 0 && accepts LOUD (number x.sign)) _ _ (number_below x.sign) (ahead_below d l)))

far_chosen : (r : Spot) (i : ℕ) {β : List Symbol} {l k : List Item} {qs : Parts} → slice_get (rules r) i ≡ Some β → Derives β l k qs → accepts (follow r) (look k) ≡ true → picked_far r i β ≡ true → pick r (ahead 0 l) ≡ i
unfolding picked_far
far_chosen r i {β = β} {l = l} e f q h = eqb-true _ _ (modus _ _ (every_at 61 (ahead 0 l) (λ k. imp (rings (accepts (follow r)) β k) (nat_eq (pick r k) i)) (and_parts _ _ h).1 (ahead_below 0 l)) (heard f (accepts (follow r)) (and_parts _ _ h).0 q))

-- the row that was derived is the one that is picked
pub chosen : (r : Spot) (i : ℕ) {β : List Symbol} {l k : List Item} {qs : Parts} → slice_get (rules r) i ≡ Some β → Derives β l k qs → predict (accepts (follow r)) β (look l) ≡ true → accepts (follow r) (look k) ≡ true → pick r (view r l) ≡ i
unfolding view
chosen r i {β = β} {l = l} e f p q =
    elim (is_far r) as (λ b. (if b then picked_far r i β else picked_near r i β) ≡ true → pick r (if b then ahead 0 l else look l) ≡ i) [ true ↦ far_chosen r i e f q | false ↦ near_chosen r i β l p ] (row_picked r i β e)

-- what reading gives, and what the next token may be
pub record Led (F : ℕ → Bool) (α : List Symbol) (l m : List Item) (ps : Parts) : Type 0 where
  pub reads : Reads α l m ps
  pub seen : predict F α (look l) ≡ true

-- the inner row of a spot, from the outer row's test
record Inner (r : Spot) (i : ℕ) (β : List Symbol) (l k : List Item) (qs : Parts) : Type 0 where
  inside : Reads β l k qs
  picks : slice_get (rules r) (pick r (view r l)) ≡ Some β
  begins : accepts (starts r) (look l) ≡ true

inner : (r : Spot) (i : ℕ) {β : List Symbol} {l k : List Item} {qs : Parts} → slice_get (rules r) i ≡ Some β → Derives β l k qs → Led (accepts (follow r)) β l k qs → accepts (follow r) (look k) ≡ true → Inner r i β l k qs
inner r i {β = β} {l = l} {k = k} e f led q = record {
  inside = led.reads;
  picks = subst (λ j. slice_get (rules r) j ≡ Some β) (sym (chosen r i e f led.seen q)) e;
  begins = within_at _ _ (look l) (row_starts r i β e) (look_below l) led.seen;
}

passed_by : (r : Spot) (G : ℕ → Bool) (l : List Item) → passes_by r G ≡ true → G (look l) ≡ true → slice_get (rules r) (pick r (view r l)) ≡ None
unfolding passes_by view
passed_by r G l h e =
    let near : is_far r ≡ false = not-true _ (and_parts _ _ h).0 in
    let out : not (nat_lt (pick r (look l)) (length (rules r))) ≡ true = modus _ _ (every_at 61 (look l) (λ k. imp (G k) (not (nat_lt (pick r k) (length (rules r))))) (and_parts _ _ h).1 (look_below l)) e in
    let past : length (rules r) ≤ pick r (look l) = ltb-false _ _ (not-true _ out) in
    subst (λ b. slice_get (rules r) (pick r (if b then ahead 0 l else look l)) ≡ None) (sym near) (slice_get_past (rules r) (pick r (look l)) past)

pub guided : {α : List Symbol} {l m : List Item} {ps : Parts} → Derives α l m ps → (F : ℕ → Bool) → fits F α ≡ true → F (look m) ≡ true → Led F α l m ps
unfolding fits predict look
guided none F h e = record { reads = done; seen = e }
guided (take {s = s} {α = α} {x = x} {l = l} t g) F h e =
    let rest : Led F α l _ _ = guided g F h e in
    record { reads = took t rest.reads; seen = marks_sound (number s) (number x.sign) (look l) (predict F α) (number_below s) (number_below x.sign) (look_below l) t rest.seen }
guided (node {r = r} i {β = β} {α = α} {l = l} {k = k} {qs = qs} t f g) F h e =
    let rest : Led F α k _ _ = guided g F (and_parts _ _ h).1 e in
    let q : accepts (follow r) (look k) ≡ true = within_at _ _ (look k) (and_parts _ _ h).0 (look_below k) rest.seen in
    let in_row : Inner r i β l k qs = inner r i t f (guided f (accepts (follow r)) (row_inner r i β t) q) q in
    record { reads = opened in_row.picks in_row.inside rest.reads; seen = in_row.begins }
guided (one {r = r} i {β = β} {α = α} {l = l} {k = k} {qs = qs} t f g) F h e =
    let rest : Led F α k _ _ = guided g F (and_parts _ _ h).1 e in
    let q : accepts (follow r) (look k) ≡ true = within_at _ _ (look k) (and_parts _ _ h).0 (look_below k) rest.seen in
    let in_row : Inner r i β l k qs = inner r i t f (guided f (accepts (follow r)) (row_inner r i β t) q) q in
    record { reads = inlined in_row.picks in_row.inside rest.reads; seen = in_row.begins }
guided (skip {r = r} {α = α} {l = l} g) F h e =
    let rest : Led F α l _ _ = guided g F (and_parts _ _ (and_parts _ _ h).1).1 e in
    record { reads = skipped (passed_by r (predict F α) l (and_parts _ _ (and_parts _ _ h).1).0 rest.seen) rest.reads; seen = or_right _ _ rest.seen }
guided (once {r = r} i {β = β} {α = α} {l = l} {k = k} {qs = qs} t f g) F h e =
    let rest : Led F α k _ _ = guided g F (and_parts _ _ (and_parts _ _ h).1).1 e in
    let q : accepts (follow r) (look k) ≡ true = within_at _ _ (look k) (and_parts _ _ h).0 (look_below k) rest.seen in
    let in_row : Inner r i β l k qs = inner r i t f (guided f (accepts (follow r)) (row_inner r i β t) q) q in
    record { reads = given in_row.picks in_row.inside rest.reads; seen = or_left _ _ in_row.begins }
guided (stop {r = r} {α = α} {l = l} g) F h e =
    let rest : Led F α l _ _ = guided g F (and_parts _ _ (and_parts _ _ h).1).1 e in
    record { reads = ended (passed_by r (predict F α) l (and_parts _ _ (and_parts _ _ h).1).0 rest.seen) rest.reads; seen = or_right _ _ rest.seen }
guided (more {r = r} i {β = β} {α = α} {l = l} {k = k} {qs = qs} t f g) F h e =
    let rest : Led F (symbol.Many r ∷ α) k _ _ = guided g F h e in
    let q : accepts (follow r) (look k) ≡ true = within_at _ _ (look k) (and_parts _ _ h).0 (look_below k) rest.seen in
    let in_row : Inner r i β l k qs = inner r i t f (guided f (accepts (follow r)) (row_inner r i β t) q) q in
    record { reads = again in_row.picks in_row.inside rest.reads; seen = or_left _ _ in_row.begins }

pub sound : {α : List Symbol} {l m : List Item} {ps : Parts} → Reads α l m ps → Derives α l m ps
sound done = none
sound (took t g) = take t (sound g)
sound (opened {r = r} {l = l} t f g) = node (pick r (view r l)) t (sound f) (sound g)
sound (inlined {r = r} {l = l} t f g) = one (pick r (view r l)) t (sound f) (sound g)
sound (skipped t g) = skip (sound g)
sound (given {r = r} {l = l} t f g) = once (pick r (view r l)) t (sound f) (sound g)
sound (ended t g) = stop (sound g)
sound (again {r = r} {l = l} t f g) = more (pick r (view r l)) t (sound f) (sound g)

file_fits : fits (accepts 1152921504606846976) (symbol.Node spot.File ∷ []) ≡ true
unfolding fits within every predict accepts follow
file_fits = refl

nothing_left : accepts 1152921504606846976 (look []) ≡ true
unfolding look accepts
nothing_left = refl

-- a file's tree is the one that is read
pub file_read : (items : List Item) (t : Tree) → IsTreeOf items t → Reads (symbol.Node spot.File ∷ []) items [] (child t end)
file_read items t h = let led : Led (accepts 1152921504606846976) (symbol.Node spot.File ∷ []) items [] (child t end) = guided h.derived (accepts 1152921504606846976) file_fits nothing_left in led.reads

pub read_file : (items : List Item) (t : Tree) → Reads (symbol.Node spot.File ∷ []) items [] (child t end) → IsTreeOf items t
read_file items t h = record { derived = sound h }

-- reading leaves one rest and has one list of parts
pub record Alike (m n : List Item) (ps qs : Parts) : Type 0 where
  pub rest : m ≡ n
  pub parts : ps ≡ qs

same_some : {X : Type 0} {x y : X} (o : Option X) → o ≡ Some x → o ≡ Some y → y ≡ x
same_some o t u = cc

two_parts : (r : Spot) {qs qs2 ps ps2 : Parts} → qs ≡ qs2 → ps ≡ ps2 → child (wrap (label r) qs) ps ≡ child (wrap (label r) qs2) ps2
two_parts r a b = cc

two_joined : {qs qs2 ps ps2 : Parts} → qs ≡ qs2 → ps ≡ ps2 → joined qs ps ≡ joined qs2 ps2
two_joined a b = cc

pub same_read : {α : List Symbol} {l m n : List Item} {ps qs : Parts} → Reads α l m ps → Reads α l n qs → Alike m n ps qs
same_read done done = record { rest = refl; parts = refl }
same_read (took {x = x} t g) (took u h) = let a : Alike _ _ _ _ = same_read g h in record { rest = a.rest; parts = ap (λ ps. token x.token ps) a.parts }
same_read {n = n} (opened {r = r} {β = β} {α = α} {l = l} {k = k} {m = m} {qs = qs} {ps = ps} t f g) (opened {β = γ} {k = k2} {qs = qs2} {ps = ps2} u h j) =
    let e : γ ≡ β = same_some (slice_get (rules r) (pick r (view r l))) t u in
    let a : Alike k k2 qs qs2 = same_read f (subst (λ b. Reads b l k2 qs2) e h) in
    let b : Alike m n ps ps2 = same_read g (subst (λ i. Reads α i n ps2) (sym a.rest) j) in
    record { rest = b.rest; parts = two_parts r a.parts b.parts }
same_read {n = n} (inlined {r = r} {β = β} {α = α} {l = l} {k = k} {m = m} {qs = qs} {ps = ps} t f g) (inlined {β = γ} {k = k2} {qs = qs2} {ps = ps2} u h j) =
    let e : γ ≡ β = same_some (slice_get (rules r) (pick r (view r l))) t u in
    let a : Alike k k2 qs qs2 = same_read f (subst (λ b. Reads b l k2 qs2) e h) in
    let b : Alike m n ps ps2 = same_read g (subst (λ i. Reads α i n ps2) (sym a.rest) j) in
    record { rest = b.rest; parts = two_joined a.parts b.parts }
same_read (skipped t g) (skipped u h) = same_read g h
same_read (skipped t g) (given u h j) = cc
same_read (given t f g) (skipped u h) = cc
same_read {n = n} (given {r = r} {β = β} {α = α} {l = l} {k = k} {m = m} {qs = qs} {ps = ps} t f g) (given {β = γ} {k = k2} {qs = qs2} {ps = ps2} u h j) =
    let e : γ ≡ β = same_some (slice_get (rules r) (pick r (view r l))) t u in
    let a : Alike k k2 qs qs2 = same_read f (subst (λ b. Reads b l k2 qs2) e h) in
    let b : Alike m n ps ps2 = same_read g (subst (λ i. Reads α i n ps2) (sym a.rest) j) in
    record { rest = b.rest; parts = two_joined a.parts b.parts }
same_read (ended t g) (ended u h) = same_read g h
same_read (ended t g) (again u h j) = cc
same_read (again t f g) (ended u h) = cc
same_read {n = n} (again {r = r} {β = β} {α = α} {l = l} {k = k} {m = m} {qs = qs} {ps = ps} t f g) (again {β = γ} {k = k2} {qs = qs2} {ps = ps2} u h j) =
    let e : γ ≡ β = same_some (slice_get (rules r) (pick r (view r l))) t u in
    let a : Alike k k2 qs qs2 = same_read f (subst (λ b. Reads b l k2 qs2) e h) in
    let b : Alike m n ps ps2 = same_read g (subst (λ i. Reads (symbol.Many r ∷ α) i n ps2) (sym a.rest) j) in
    record { rest = b.rest; parts = two_joined a.parts b.parts }

tree_in : Parts → Tree
tree_in end = NoTree
tree_in (token x ps) = NoTree
tree_in (child t ps) = t

pub one_tree : (items : List Item) (t u : Tree) → IsTreeOf items t → IsTreeOf items u → t ≡ u
unfolding tree_in
one_tree items t u h j = let a : Alike [] [] (child t end) (child u end) = same_read (file_read items t h) (file_read items u j) in ap (λ ps. tree_in ps) a.parts
