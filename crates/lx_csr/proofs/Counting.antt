-- The registers of a system are no more than its modules declare.
use Rattle.std.proofs.Common.{◌≡◌, ℕ, zero, suc, ◌+◌, ◌*◌, ◌<◌, ◌≤◌, List, [], ◌∷◌, ◌++◌, Option, Some, None, length, map, refl, ap, sym, ◌∙◌, arith, subst, true, false, Bool, if◌then◌else◌, nat_eq, length-append, add-zero, zero-add}
use Rattle.std.proofs.Math.Path.{ap₂}
use Rattle.std.specs.Prelude.{flat_map, slice_get, sum}
use Rattle.std.specs.List.{range_with_len}
use Rattle.std.proofs.lemmas.Bool.{eqb-true, eqb-false}
use Rattle.std.proofs.lemmas.List.{append-nil}
use Rattle.std.proofs.lemmas.List.Sums.{sum_by-cons}
use Rattle.std.proofs.lemmas.Option.{slice_get_within}
use Rattle.std.proofs.lemmas.Grind.{flat_map-append}
use Rattle.lx_fhdl.specs.Keeping.{EachOf}
use Rattle.lx_description.specs.Keeping as keeping
use Rattle.lx_description.specs.Keeping.{IsPart, ModulesKeep, most_size, submodule, submodules, times}
use Rattle.lx_fhdl.specs.declared.design.Design.{Design}
use Rattle.lx_description.specs.declared.registers.RegKind.{RegKind}
use Rattle.lx_description.specs.declared.registers.RegKind.TheVariants as kind
use Rattle.lx_description.specs.declared.modules.Part.{Part}
use Rattle.lx_description.specs.declared.modules.Part.TheVariants as part
use Rattle.lx_description.specs.declared.modules.ModuleDecl.{ModuleDecl}
use Rattle.lx_description.specs.declared.description.Description.{Description}
use Rattle.lx_csr.specs.Names.{joined}
use Rattle.lx_csr.specs.Collected.{Attribute, Peripheral, attribute_of, attributes_within, below, named_attributes, named_peripheral, part_peripheral, part_registers, registers_of, submodule as peripheral_of}
use Rattle.lx_csr.specs.Places.{word_count_of, words_in}
use Rattle.lx_csr.specs.Gathered.{IsRoomy, IsSized}
use Rattle.lx_csr.specs.Walked.{AreNested}
use Rattle.lx_csr.specs.declared.registers.Register.{Register}
use Rattle.lx_csr.proofs.Lists.{each_both, each_left, each_right, each_weaker}

-- ---- the registers below a module, those of modules without a name counted too

abbrev some_weight : (ModuleDecl → ℕ) → Option ModuleDecl → ℕ
some_weight f None = 0
some_weight f (Some m) = f m

abbrev part_weight : List ModuleDecl → (ModuleDecl → ℕ) → Part → ℕ
part_weight ms f (part.Reg r) = 1
part_weight ms f (part.Constant c) = 0
part_weight ms f (part.Manager name m) = 3
part_weight ms f (part.Module k) = some_weight f (slice_get ms k)

abbrev parts_weight : List ModuleDecl → (ModuleDecl → ℕ) → List Part → ℕ
parts_weight ms f [] = 0
parts_weight ms f (p ∷ ps) = part_weight ms f p + parts_weight ms f ps

abbrev weight : List ModuleDecl → ℕ → ModuleDecl → ℕ
weight ms zero m = 0
weight ms (suc n) m = parts_weight ms (weight ms n) m.parts

-- ---- what is collected weighs no more

abbrev count : List Attribute → ℕ
count xs = length (registers_of xs)

count_append : (xs ys : List Attribute) → count (xs ++ ys) ≡ count xs + count ys
count_append xs ys =
    ap length (flat_map-append (λ (x : Attribute). part_registers x.owner x.part) xs ys) ∙ length-append (registers_of xs) (registers_of ys)

abbrev Bounds : (List ℕ → ModuleDecl → List Attribute) → (ModuleDecl → ℕ) → Type 0
Bounds g f = (name : List ℕ) (m : ModuleDecl) → count (g name m) ≤ f m

named_bound : (g : List ℕ → ModuleDecl → List Attribute) (f : ModuleDecl → ℕ) → Bounds g f → (owner : List ℕ) (o : Option ModuleDecl) → count (named_attributes g owner o) ≤ some_weight f o
named_bound g f h owner None = omega arith
named_bound g f h owner (Some m) = elim m.named as (λ b. count (if b then g (joined owner m.name) m else []) ≤ f m) [
  | true ↦ h (joined owner m.name) m
  | false ↦ omega arith
]

part_bound : (ms : List ModuleDecl) (g : List ℕ → ModuleDecl → List Attribute) (f : ModuleDecl → ℕ) → Bounds g f → (owner : List ℕ) (p : Part) →
    count (attribute_of owner p ∷ below g ms owner p) ≤ part_weight ms f p
part_bound ms g f h owner (part.Reg r) = omega arith
part_bound ms g f h owner (part.Constant c) = omega arith
part_bound ms g f h owner (part.Manager name m) = omega arith
part_bound ms g f h owner (part.Module k) = named_bound g f h owner (slice_get ms k)

parts_bound : (ms : List ModuleDecl) (g : List ℕ → ModuleDecl → List Attribute) (f : ModuleDecl → ℕ) → Bounds g f → (owner : List ℕ) (ps : List Part) →
    count (flat_map (λ p. attribute_of owner p ∷ below g ms owner p) ps) ≤ parts_weight ms f ps
parts_bound ms g f h owner [] = omega arith
parts_bound ms g f h owner (p ∷ ps) =
    let a = part_bound ms g f h owner p in
    let b = parts_bound ms g f h owner ps in
    let c = count_append (attribute_of owner p ∷ below g ms owner p) (flat_map (λ q. attribute_of owner q ∷ below g ms owner q) ps) in
    omega (arith, a, b, c)

within_bound : (ms : List ModuleDecl) (n : ℕ) → Bounds (attributes_within ms n) (weight ms n)
within_bound ms zero name m = omega arith
within_bound ms (suc n) name m = parts_bound ms (attributes_within ms n) (weight ms n) (within_bound ms n) name m.parts

abbrev pub total : List Peripheral → ℕ
total ps = length (flat_map (λ (p : Peripheral). p.registers) ps)

pub total_append : (ps qs : List Peripheral) → total (ps ++ qs) ≡ total ps + total qs
total_append ps qs =
    ap length (flat_map-append (λ (p : Peripheral). p.registers) ps qs)
    ∙ length-append (flat_map (λ (p : Peripheral). p.registers) ps) (flat_map (λ (p : Peripheral). p.registers) qs)

total_one : (p : Peripheral) → total (p ∷ []) ≡ length p.registers
total_one p = ap length (append-nil p.registers)

named_total : (ms : List ModuleDecl) (o : Option ModuleDecl) → total (named_peripheral ms o) ≤ some_weight (weight ms (length ms)) o
named_total ms None = omega arith
named_total ms (Some m) = elim m.named as (λ b. total (if b then peripheral_of ms m ∷ [] else []) ≤ weight ms (length ms) m) [
  | true ↦ omega (arith, total_one (peripheral_of ms m), within_bound ms (length ms) m.name m)
  | false ↦ omega arith
]

part_total : (ms : List ModuleDecl) (p : Part) → total (part_peripheral ms p) ≤ part_weight ms (weight ms (length ms)) p
part_total ms (part.Reg r) = omega arith
part_total ms (part.Constant c) = omega arith
part_total ms (part.Manager name m) = omega arith
part_total ms (part.Module k) = named_total ms (slice_get ms k)

parts_total : (ms : List ModuleDecl) (ps : List Part) → total (flat_map (part_peripheral ms) ps) ≤ parts_weight ms (weight ms (length ms)) ps
parts_total ms [] = omega arith
parts_total ms (p ∷ ps) =
    omega (arith, part_total ms p, parts_total ms ps, total_append (part_peripheral ms p) (flat_map (part_peripheral ms) ps))

-- ---- more levels than modules change nothing

abbrev IsLater : ℕ → ℕ → ℕ → Type 0
IsLater k n j = (k < j) × (j < n)

shifted : (k i : ℕ) → (k + 1) + i ≡ k + suc i
shifted k i = omega arith

some_alike : (f g : ModuleDecl → ℕ) (o : Option ModuleDecl) → ((m : ModuleDecl) → o ≡ Some m → f m ≡ g m) → some_weight f o ≡ some_weight g o
some_alike f g None e = refl
some_alike f g (Some m) e = e m refl

part_alike : (ms : List ModuleDecl) (k : ℕ) (f g : ModuleDecl → ℕ) (p : Part) → EachOf (IsLater k (length ms)) (submodule p) →
    ((j : ℕ) (m : ModuleDecl) → k < j → slice_get ms j ≡ Some m → f m ≡ g m) → part_weight ms f p ≡ part_weight ms g p
part_alike ms k f g (part.Reg r) later e = refl
part_alike ms k f g (part.Constant c) later e = refl
part_alike ms k f g (part.Manager name m) later e = refl
part_alike ms k f g (part.Module j) later e = some_alike f g (slice_get ms j) (λ m is. e j m later.0.0 is)

parts_alike : (ms : List ModuleDecl) (k : ℕ) (f g : ModuleDecl → ℕ) (ps : List Part) → EachOf (IsLater k (length ms)) (flat_map submodule ps) →
    ((j : ℕ) (m : ModuleDecl) → k < j → slice_get ms j ≡ Some m → f m ≡ g m) → parts_weight ms f ps ≡ parts_weight ms g ps
parts_alike ms k f g [] later e = refl
parts_alike ms k f g (p ∷ ps) later e =
    ap₂ (λ a b. a + b) (part_alike ms k f g p (each_left (IsLater k (length ms)) (submodule p) (flat_map submodule ps) later) e)
    (parts_alike ms k f g ps (each_right (IsLater k (length ms)) (submodule p) (flat_map submodule ps) later) e)

weight_more : (ms : List ModuleDecl) → AreNested ms → (n k : ℕ) (m : ModuleDecl) → slice_get ms k ≡ Some m → length ms ≤ n + k → weight ms n m ≡ weight ms (suc n) m
weight_more ms nested zero k m is enough = absurd (omega (arith, slice_get_within ms k m is))
weight_more ms nested (suc n) k m is enough =
    parts_alike ms k (weight ms n) (weight ms (suc n)) m.parts (nested.each k m is).later
    (λ j q l at. weight_more ms nested n j q at (omega arith))

-- ---- a tree weighs what its modules declare

abbrev sum_of : (ℕ → ℕ) → List ℕ → ℕ
sum_of f [] = 0
sum_of f (x ∷ xs) = f x + sum_of f xs

sum_append : (f : ℕ → ℕ) (xs ys : List ℕ) → sum_of f (xs ++ ys) ≡ sum_of f xs + sum_of f ys
sum_append f [] ys = omega arith
sum_append f (x ∷ xs) ys = omega (arith, sum_append f xs ys)

-- the numbers but x
abbrev others : ℕ → List ℕ → List ℕ
others x [] = []
others x (y ∷ ys) = if nat_eq y x then others x ys else y ∷ others x ys

none_step : (f : ℕ → ℕ) (x y : ℕ) (ys : List ℕ) (b : Bool) → (if b then 1 + times x ys else times x ys) ≡ 0 →
    (times x ys ≡ 0 → sum_of f ys ≡ sum_of f (others x ys)) → f y + sum_of f ys ≡ sum_of f (if b then others x ys else y ∷ others x ys)
none_step f x y ys true none rest = absurd (omega arith)
none_step f x y ys false none rest = ap (λ n. f y + n) (rest none)

sum_none : (f : ℕ → ℕ) (x : ℕ) (ys : List ℕ) → times x ys ≡ 0 → sum_of f ys ≡ sum_of f (others x ys)
sum_none f x [] none = refl
sum_none f x (y ∷ ys) none = none_step f x y ys (nat_eq y x) none (λ e. sum_none f x ys e)

split_step : (f : ℕ → ℕ) (x y : ℕ) (ys : List ℕ) (b : Bool) → nat_eq y x ≡ b → (if b then 1 + times x ys else times x ys) ≤ 1 →
    (times x ys ≤ 1 → sum_of f ys ≤ f x + sum_of f (others x ys)) → f y + sum_of f ys ≤ f x + sum_of f (if b then others x ys else y ∷ others x ys)
split_step f x y ys true e l rest =
    let same : y ≡ x = eqb-true y x e in
    omega (arith, ap f same, sum_none f x ys (omega arith))
split_step f x y ys false e l rest = omega (arith, rest l)

sum_split : (f : ℕ → ℕ) (x : ℕ) (ys : List ℕ) → times x ys ≤ 1 → sum_of f ys ≤ f x + sum_of f (others x ys)
sum_split f x [] l = omega arith
sum_split f x (y ∷ ys) l = split_step f x y ys (nat_eq y x) refl l (λ k. sum_split f x ys k)

times_step : (j x y : ℕ) (ys : List ℕ) (b : Bool) → times j (others x ys) ≤ times j ys →
    times j (if b then others x ys else y ∷ others x ys) ≤ (if nat_eq y j then 1 + times j ys else times j ys)
times_step j x y ys true h = elim (nat_eq y j) as (λ c. times j (others x ys) ≤ (if c then 1 + times j ys else times j ys)) [ true ↦ omega (arith, h) | false ↦ h ]
times_step j x y ys false h = elim (nat_eq y j) as (λ c. (if c then 1 + times j (others x ys) else times j (others x ys)) ≤ (if c then 1 + times j ys else times j ys)) [ true ↦ omega (arith, h) | false ↦ h ]

times_others : (j x : ℕ) (ys : List ℕ) → times j (others x ys) ≤ times j ys
times_others j x [] = omega arith
times_others j x (y ∷ ys) = times_step j x y ys (nat_eq y x) (times_others j x ys)

abbrev IsIn : ℕ → ℕ → ℕ → Type 0
IsIn a n y = (a ≤ y) × (y < a + n)

above_step : (a n y : ℕ) (ys : List ℕ) (b : Bool) → nat_eq y a ≡ b → IsIn a (suc n) y → EachOf (IsIn (a + 1) n) (others a ys) →
    EachOf (IsIn (a + 1) n) (if b then others a ys else y ∷ others a ys)
above_step a n y ys true e h rest = rest
above_step a n y ys false e h rest =
    let other : y ≡ a → ⊥ = eqb-false y a e in
    let low : a ≤ y = h.0 in
    let high : y < a + suc n = h.1 in
    ((omega arith, omega arith), rest)

above : (a n : ℕ) (ys : List ℕ) → EachOf (IsIn a (suc n)) ys → EachOf (IsIn (a + 1) n) (others a ys)
above a n [] h = tt
above a n (y ∷ ys) h = above_step a n y ys (nat_eq y a) refl h.0 (above a n ys h.1)

-- each of these numbers stands there once at most, and there are no others
sum_within : (f : ℕ → ℕ) (a n : ℕ) (ys : List ℕ) → EachOf (IsIn a n) ys → ((j : ℕ) → a ≤ j → j < a + n → times j ys ≤ 1) →
    sum_of f ys ≤ sum_of f (range_with_len a n)
sum_within f a zero [] h once = omega arith
sum_within f a zero (y ∷ ys) h once = absurd (omega (arith, h.0.0, h.0.1))
sum_within f a (suc n) ys h once =
    let rest = sum_within f (a + 1) n (others a ys) (above a n ys h)
    (λ j low high. let t = times_others j a ys in let o : times j ys ≤ 1 = once j (omega arith) (omega arith) in omega arith) in
    omega (arith, sum_split f a ys (once a (omega arith) (omega arith)), rest)

abbrev at : List ModuleDecl → ℕ → ℕ
at ms j = some_weight (weight ms (length ms)) (slice_get ms j)

abbrev own : ModuleDecl → ℕ
own m = sum (map keeping.part_registers m.parts)

sum-cons : (x : ℕ) (xs : List ℕ) → sum (x ∷ xs) ≡ x + sum xs
sum-cons x xs = sum_by-cons (λ (y : ℕ). y) x xs

-- a part weighs what it declares, and what its submodule does
part_splits : (ms : List ModuleDecl) (p : Part) → part_weight ms (weight ms (length ms)) p ≡ keeping.part_registers p + sum_of (at ms) (submodule p)
part_splits ms (part.Reg r) = refl
part_splits ms (part.Constant c) = refl
part_splits ms (part.Manager name m) = refl
part_splits ms (part.Module k) = omega arith

parts_split : (ms : List ModuleDecl) (ps : List Part) →
    parts_weight ms (weight ms (length ms)) ps ≡ sum (map keeping.part_registers ps) + sum_of (at ms) (flat_map submodule ps)
parts_split ms [] = refl
parts_split ms (p ∷ ps) =
    let own : sum (map keeping.part_registers (p ∷ ps)) ≡ keeping.part_registers p + sum (map keeping.part_registers ps) = sum-cons (keeping.part_registers p) (map keeping.part_registers ps) in
    let all : sum_of (at ms) (flat_map submodule (p ∷ ps)) ≡ sum_of (at ms) (submodule p) + sum_of (at ms) (flat_map submodule ps) = sum_append (at ms) (submodule p) (flat_map submodule ps) in
    omega (arith, part_splits ms p, parts_split ms ps)

-- so the modules from place k on
modules_split : (ms : List ModuleDecl) → AreNested ms → (k : ℕ) (rest : List ModuleDecl) → ((i : ℕ) (m : ModuleDecl) → slice_get rest i ≡ Some m → slice_get ms (k + i) ≡ Some m) →
    sum_of (at ms) (range_with_len k (length rest)) ≡ sum (map own rest) + sum_of (at ms) (flat_map submodules rest)
modules_split ms nested k [] are = refl
modules_split ms nested k (m ∷ rest) are =
    let is : slice_get ms k ≡ Some m = ap (slice_get ms) (sym (add-zero k)) ∙ are 0 m refl in
    let here : at ms k ≡ weight ms (length ms) m = ap (some_weight (weight ms (length ms))) is in
    let split : weight ms (length ms) m ≡ own m + sum_of (at ms) (submodules m) =
    weight_more ms nested (length ms) k m is (omega arith) ∙ parts_split ms m.parts in
    let later = modules_split ms nested (k + 1) rest (λ i q e. ap (slice_get ms) (shifted k i) ∙ are (suc i) q e) in
    let owns : sum (map own (m ∷ rest)) ≡ own m + sum (map own rest) = sum-cons (own m) (map own rest) in
    let all : sum_of (at ms) (flat_map submodules (m ∷ rest)) ≡ sum_of (at ms) (submodules m) + sum_of (at ms) (flat_map submodules rest) = sum_append (at ms) (submodules m) (flat_map submodules rest) in
    omega arith

-- submodules stand behind the first module, and there are as many modules
all_behind : (ms : List ModuleDecl) (n k : ℕ) (rest : List ModuleDecl) → ((i : ℕ) (m : ModuleDecl) → slice_get rest i ≡ Some m → EachOf (IsLater (k + i) n) (submodules m)) →
    EachOf (λ j. (1 ≤ j) × (j < n)) (flat_map submodules rest)
all_behind ms n k [] h = tt
all_behind ms n k (m ∷ rest) h =
    each_both (λ j. (1 ≤ j) × (j < n)) (submodules m) (flat_map submodules rest)
    (each_weaker (IsLater (k + 0) n) (λ j. (1 ≤ j) × (j < n)) (submodules m) (λ j l. (omega (arith, l.0), l.1)) (h 0 m refl))
    (all_behind ms n (k + 1) rest (λ i q e. subst (λ t. EachOf (IsLater t n) (submodules q)) (sym (shifted k i)) (h (suc i) q e)))

-- of n modules: the sum over all is that over the first and those behind it
top_is : (ms : List ModuleDecl) (n : ℕ) (all : List ℕ) (most : ℕ) → sum_of (at ms) (range_with_len 0 n) ≡ most + sum_of (at ms) all →
    EachOf (λ j. (1 ≤ j) × (j < n)) all → ((k : ℕ) → 0 < k → k < n → times k all ≡ 1) → 0 < n → at ms 0 ≤ most
top_is ms zero all most split behind once some = absurd (omega arith)
top_is ms (suc n) all most split behind once some =
    let inside = each_weaker (λ j. (1 ≤ j) × (j < suc n)) (IsIn 1 n) all (λ j l. (l.0, omega (arith, l.1))) behind in
    let less = sum_within (at ms) 1 n all inside (λ j low high. let e = once j (omega arith) (omega arith) in omega arith) in
    omega (arith, split, less)

-- The registers below the top are no more than all modules declare.
top_weight : (d : Description) → AreNested d.modules → ModulesKeep d → 0 < length d.modules → at d.modules 0 ≤ keeping.registers d.modules
top_weight d nested keep some =
    let ms = d.modules in
    let split = modules_split ms nested 0 ms (λ i m e. ap (slice_get ms) (zero-add i) ∙ e) in
    let behind = all_behind ms (length ms) 0 ms (λ i m e. subst (λ t. EachOf (IsLater t (length ms)) (submodules m)) (sym (zero-add i)) (nested.each i m e).later) in
    top_is ms (length ms) (flat_map submodules ms) (keeping.registers ms) split behind keep.once some

-- ---- sizes

abbrev IsSmall : Register → Type 0
IsSmall r = r.size ≤ 64

small_words : (rs : List Register) → EachOf IsSmall rs → words_in rs ≤ 2 * length rs
small_words [] h = omega arith
small_words (r ∷ rs) h =
    let l : r.size ≤ 64 = h.0 in
    let n : word_count_of r.size ≤ 2 = omega arith in
    omega (arith, small_words rs h.1)

abbrev AreSmall : (List ℕ → ModuleDecl → List Attribute) → ModuleDecl → Type 0
AreSmall g m = (name : List ℕ) → EachOf IsSmall (registers_of (g name m))

own_small : (owner : List ℕ) (p : Part) → IsSized p → EachOf IsSmall (part_registers owner p)
own_small owner (part.Reg r) h = (h.1, tt)
own_small owner (part.Constant c) h = tt
own_small owner (part.Manager name m) h = (omega (arith, h), (omega (arith, h), (omega (arith, h), tt)))
own_small owner (part.Module k) h = tt

named_small : (g : List ℕ → ModuleDecl → List Attribute) (owner : List ℕ) (o : Option ModuleDecl) → ((m : ModuleDecl) → o ≡ Some m → AreSmall g m) →
    EachOf IsSmall (registers_of (named_attributes g owner o))
named_small g owner None h = tt
named_small g owner (Some m) h = elim m.named as (λ b. EachOf IsSmall (registers_of (if b then g (joined owner m.name) m else []))) [
  | true ↦ h m refl (joined owner m.name)
  | false ↦ tt
]

below_small : (ms : List ModuleDecl) (g : List ℕ → ModuleDecl → List Attribute) (owner : List ℕ) (p : Part) →
    ((k : ℕ) (m : ModuleDecl) → slice_get ms k ≡ Some m → AreSmall g m) → EachOf IsSmall (registers_of (below g ms owner p))
below_small ms g owner (part.Reg r) h = tt
below_small ms g owner (part.Constant c) h = tt
below_small ms g owner (part.Manager name m) h = tt
below_small ms g owner (part.Module k) h = named_small g owner (slice_get ms k) (λ m e. h k m e)

parts_small : (ms : List ModuleDecl) (g : List ℕ → ModuleDecl → List Attribute) (owner : List ℕ) (ps : List Part) → EachOf IsSized ps →
    ((k : ℕ) (m : ModuleDecl) → slice_get ms k ≡ Some m → AreSmall g m) →
    EachOf IsSmall (registers_of (flat_map (λ p. attribute_of owner p ∷ below g ms owner p) ps))
parts_small ms g owner [] sized h = tt
parts_small ms g owner (p ∷ ps) sized h =
    let xs = attribute_of owner p ∷ below g ms owner p in
    let ys = flat_map (λ q. attribute_of owner q ∷ below g ms owner q) ps in
    subst (EachOf IsSmall) (sym (flat_map-append (λ (x : Attribute). part_registers x.owner x.part) xs ys))
    (each_both IsSmall (registers_of xs) (registers_of ys)
    (each_both IsSmall (part_registers owner p) (registers_of (below g ms owner p)) (own_small owner p sized.0) (below_small ms g owner p h))
    (parts_small ms g owner ps sized.1 h))

within_small : (ms : List ModuleDecl) → AreNested ms → (n k : ℕ) (m : ModuleDecl) → slice_get ms k ≡ Some m → AreSmall (attributes_within ms n) m
within_small ms nested zero k m is = λ name. tt
within_small ms nested (suc n) k m is = λ name.
    parts_small ms (attributes_within ms n) name m.parts (nested.each k m is).sized (λ j q at. within_small ms nested n j q at)

-- ---- room

abbrev IsSmallPeripheral : Peripheral → Type 0
IsSmallPeripheral p = EachOf IsSmall p.registers

named_peripheral_small : (ms : List ModuleDecl) → AreNested ms → (k : ℕ) (o : Option ModuleDecl) → slice_get ms k ≡ o → EachOf IsSmallPeripheral (named_peripheral ms o)
named_peripheral_small ms nested k None e = tt
named_peripheral_small ms nested k (Some m) e = elim m.named as (λ b. EachOf IsSmallPeripheral (if b then peripheral_of ms m ∷ [] else [])) [
  | true ↦ (within_small ms nested (length ms) k m e m.name, tt)
  | false ↦ tt
]

part_peripheral_small : (ms : List ModuleDecl) → AreNested ms → (p : Part) → IsSized p → EachOf IsSmallPeripheral (part_peripheral ms p)
part_peripheral_small ms nested (part.Reg r) h = tt
part_peripheral_small ms nested (part.Constant c) h = tt
part_peripheral_small ms nested (part.Manager name m) h = ((omega (arith, h), (omega (arith, h), (omega (arith, h), tt))), tt)
part_peripheral_small ms nested (part.Module k) h = named_peripheral_small ms nested k (slice_get ms k) refl

peripherals_small : (ms : List ModuleDecl) → AreNested ms → (ps : List Part) → EachOf IsSized ps → EachOf IsSmallPeripheral (flat_map (part_peripheral ms) ps)
peripherals_small ms nested [] h = tt
peripherals_small ms nested (p ∷ ps) h =
    each_both IsSmallPeripheral (part_peripheral ms p) (flat_map (part_peripheral ms) ps) (part_peripheral_small ms nested p h.0) (peripherals_small ms nested ps h.1)

all_words : (ps : List Peripheral) → total ps ≤ 1000000 → EachOf IsSmallPeripheral ps → EachOf (λ (p : Peripheral). 4 * words_in p.registers ≤ 64000000) ps
all_words [] few h = tt
all_words (p ∷ ps) few h =
    let both : total (p ∷ ps) ≡ length p.registers + total ps = length-append p.registers (flat_map (λ (q : Peripheral). q.registers) ps) in
    (omega (arith, both, small_words p.registers h.0), all_words ps (omega arith) h.1)

-- What a description keeps of its modules is enough room for the peripherals of its top.
pub roomy : (d : Description) → AreNested d.modules → ModulesKeep d → (top : ModuleDecl) → slice_get d.modules 0 ≡ Some top →
    IsRoomy (flat_map (part_peripheral d.modules) top.parts)
roomy d nested keep top is =
    let ms = d.modules in
    let some : 0 < length ms = slice_get_within ms 0 top is in
    let here : at ms 0 ≡ weight ms (length ms) top = ap (some_weight (weight ms (length ms))) is in
    let down = weight_more ms nested (length ms) 0 top is (omega arith) in
    let few : total (flat_map (part_peripheral ms) top.parts) ≤ 1000000 = omega (arith, parts_total ms top.parts, top_weight d nested keep some, keep.registers) in
    record {
      registers = few;
      words = all_words (flat_map (part_peripheral ms) top.parts) few (peripherals_small ms nested top.parts (nested.each 0 top is).sized);
    }

-- ---- what a description keeps

most_bits : (k : RegKind) (size : ℕ) → size ≤ most_size k → size ≤ 64
most_bits kind.Storage size h = h
most_bits kind.Status size h = h
most_bits kind.Raw size h = omega arith
most_bits kind.Pending size h = omega arith

sized_part : (d : Design) (p : Part) → IsPart d p → IsSized p
sized_part d (part.Reg r) h = (h.some, most_bits r.kind r.size h.most)
sized_part d (part.Constant c) h = tt
sized_part d (part.Manager name m) h = h.1.most
sized_part d (part.Module k) h = tt

sized_parts : (d : Design) (ps : List Part) → EachOf (IsPart d) ps → EachOf IsSized ps
sized_parts d [] h = tt
sized_parts d (p ∷ ps) h = (sized_part d p h.0, sized_parts d ps h.1)

pub nested_of : (d : Description) → ModulesKeep d → AreNested d.modules
nested_of d keep = record {
  each = λ k m is. record { later = (keep.each k m is).later; sized = sized_parts d.design m.parts (keep.each k m is).parts };
}
