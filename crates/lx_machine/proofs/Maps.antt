-- The map of banks that fit: words without gaps, at addresses that rise.
use Rattle.std.proofs.Common.{◌≡◌, ℕ, Bool, true, false, List, [], ◌∷◌, ◌++◌, ◌+◌, ◌-◌, ◌*◌, ◌/◌, ◌<◌, ◌≤◌, ◌⊎◌, inl, inr, ◌||◌, ◌&&◌, cond, not, refl, sym, ◌∙◌, ap, subst, append_assoc, nat_le, nat_lt, zero, suc, arith}
use Rattle.std.specs.Prelude.{min, slice_index_or}
use Rattle.std.proofs.Math.Nat.{min-eq_left, min-eq_right, min-le_left}
use Rattle.std.proofs.lemmas.Nat.{div-add-mod', mod_below, le-div, mul-le, div-mul-add}
use Rattle.std.proofs.lemmas.Bool.{ne_eqb, le-leb, lt-ltb, leb-true, leb-false}
use Rattle.lx_circuit.specs.Circuit.{is_among}
use Rattle.lx_circuit.proofs.Cases.{by_test}
use Rattle.lx_machine.specs.Map.{CsrOptions, Declared, Bank, Kind, Register, word_count, low_bit, word_of, words_from, words_of, bank_map, map_of}
use Rattle.lx_machine.specs.System.{System, Region, Csr}
use Rattle.lx_machine.specs.Bus.{target_of, place_in, null_region}
use Rattle.lx_machine.specs.Access.{Each}
use Rattle.lx_machine.specs.Sound.{IsWord, IsRegister, Down, Up, Ascend, word_addresses, addresses_of, is_distinct}
use Rattle.lx_machine.specs.Maps.{OptionsFit, BanksFit, bank_words, banks_region, MapsBanks, HasMap}
use Rattle.lx_machine.proofs.Hangs.{each_append}

-- ---- how many words a register has

-- m words of d bits are too few, and one more is enough
record Counts (d size c : ℕ) : Type 0 where
  m : ℕ
  is : c ≡ m + 1
  low : d * m < size
  high : size ≤ d * m + d

counts : (d size : ℕ) → 1 ≤ d → 1 ≤ size → Counts d size ((size + d - 1) / d)
counts d size h k =
    let x = size + d - 1 in
    let c = x / d in
    let pos_d : 0 < d = omega arith in
    let e = div-add-mod' x d in
    let r = mod_below x d pos_d in
    let one : 1 ≤ c = le-div 1 x d pos_d (omega arith) in
    let is : c ≡ (c - 1) + 1 = omega arith in
    let p : c * d ≡ ((c - 1) + 1) * d = ap (λ (n : ℕ). n * d) is in
    record { m = c - 1; is = is; low = omega arith; high = omega arith }

-- k words of d bits, and the next one
over_min : (p d size : ℕ) → p ≤ size → p + min d (size - p) ≡ min size (p + d)
over_min p d size h =
    by_test (nat_le (p + d) size)
    (λ e. let k = leb-true (p + d) size e in
    let a : min d (size - p) ≡ d = min-eq_left (omega arith) in
    let b : min size (p + d) ≡ p + d = min-eq_right k in
    omega arith)
    (λ e. let k = leb-false (p + d) size e in
    let a : min d (size - p) ≡ size - p = min-eq_right (omega arith) in
    let b : min size (p + d) ≡ size = min-eq_left (omega arith) in
    omega arith)

-- ---- words without gaps

low_big : (o : CsrOptions) (c i k : ℕ) → o.little ≡ false → c ≡ (k + i) + 1 → low_bit o c i ≡ o.data_width * k
low_big o c i k e h =
    ap (λ b. cond b (o.data_width * i) (o.data_width * (c - 1 - i))) e ∙ ap (λ (n : ℕ). o.data_width * n) (let g : c - 1 - i ≡ k = omega arith in g)

low_little : (o : CsrOptions) (c i : ℕ) → o.little ≡ true → low_bit o c i ≡ o.data_width * i
low_little o c i e = ap (λ b. cond b (o.data_width * i) (o.data_width * (c - 1 - i))) e

-- fewer words than all leave a rest
few : (d size c k : ℕ) → Counts d size c → k + 1 ≤ c → d * k < size
few d size c k n h =
    let j : k ≤ n.m = omega (arith, n.is) in
    let l : d * k ≤ d * n.m = mul-le d k d n.m (omega arith) j in
    omega (arith, n.low)

down_words : (o : CsrOptions) (size addr i n t : ℕ) → Counts o.data_width size (word_count o size) → o.little ≡ false → n + i ≡ word_count o size
    → t ≡ min size (o.data_width * n) → Down t (words_from o size addr i n)
down_words o size addr i zero t c e h q =
    let z : min size (o.data_width * 0) ≡ o.data_width * 0 = min-eq_right (omega arith) in
    omega arith
down_words o size addr i (suc k) t c e h q =
    let d = o.data_width in
    let low : low_bit o (word_count o size) i ≡ d * k = low_big o (word_count o size) i k e (omega arith) in
    let rest : d * k < size = few d size (word_count o size) k c (omega arith) in
    let top : d * k + min d (size - d * k) ≡ t =
    over_min (d * k) d size (omega arith) ∙ (ap (λ (n : ℕ). min size n) (let g : d * k + d ≡ d * suc k = omega arith in g) ∙ sym q) in (
      ap (λ (n : ℕ). n + min d (size - n)) low ∙ top,
      down_words o size addr (i + 1) k (low_bit o (word_count o size) i) c e (omega arith) (low ∙ sym (min-eq_right (let g : d * k ≤ size = omega arith in g))),
    )

up_words : (o : CsrOptions) (size addr i n t : ℕ) → Counts o.data_width size (word_count o size) → o.little ≡ true → n + i ≡ word_count o size
    → t ≡ min size (o.data_width * i) → Up size t (words_from o size addr i n)
up_words o size addr i zero t c e h q =
    let d = o.data_width in
    let g : i ≡ c.m + 1 = omega (arith, c.is) in
    let f : d * i ≡ d * (c.m + 1) = ap (λ (n : ℕ). d * n) g in
    let k : size ≤ d * i = omega (arith, c.high) in
    q ∙ min-eq_left k
up_words o size addr i (suc k) t c e h q =
    let d = o.data_width in
    let low : low_bit o (word_count o size) i ≡ d * i = low_little o (word_count o size) i e in
    let rest : d * i < size = few d size (word_count o size) i c (omega arith) in
    let here : t ≡ d * i = q ∙ min-eq_right (let g : d * i ≤ size = omega arith in g) in (
      low ∙ sym here,
      up_words o size addr (i + 1) k (t + min d (size - low_bit o (word_count o size) i)) c e (omega arith)
          (ap (λ (n : ℕ). n + min d (size - low_bit o (word_count o size) i)) here
          ∙ (ap (λ (n : ℕ). d * i + min d (size - n)) low
          ∙ (over_min (d * i) d size (omega arith) ∙ ap (λ (n : ℕ). min size n) (let g : d * i + d ≡ d * (i + 1) = omega arith in g)))),
    )

tiled_by : (o : CsrOptions) (size addr : ℕ) (b : Bool) → Counts o.data_width size (word_count o size) → o.little ≡ b → Down size (words_of o size addr) ⊎ Up size 0 (words_of o size addr)
tiled_by o size addr true c e =
    inr (up_words o size addr 0 (word_count o size) 0 c e (omega arith) (sym (min-eq_right (let g : o.data_width * 0 ≤ size = omega arith in g) ∙ (let z : o.data_width * 0 ≡ 0 = omega arith in z))))
tiled_by o size addr false c e =
    let d = o.data_width in
    let f : d * word_count o size ≡ d * (c.m + 1) = ap (λ (n : ℕ). d * n) c.is in
    inl (down_words o size addr 0 (word_count o size) size c e (omega arith) (sym (min-eq_left (let g : size ≤ d * word_count o size = omega (arith, c.high) in g))))

-- ---- addresses

aligned_more : (a i : ℕ) → a ≡ 4 * (a / 4) → a + 4 * i ≡ 4 * ((a + 4 * i) / 4)
aligned_more a i h =
    let e : a + 4 * i ≡ (a / 4 + i) * 4 + 0 = omega arith in
    let f = ap (λ (n : ℕ). n / 4) e ∙ div-mul-add (a / 4 + i) 4 0 (omega arith) in
    omega arith

csr_at : (o : CsrOptions) (more : List Region) (a : ℕ) → o.base ≤ a → a < o.base + 32 * o.paging → (slice_index_or (banks_region o ∷ more) (place_in (banks_region o ∷ more) a 0) null_region).target ≡ Csr
csr_at o more a h k =
    let e : (nat_le o.base a && nat_lt a (o.base + 32 * o.paging)) ≡ true =
    ap (λ z. z && nat_lt a (o.base + 32 * o.paging)) (le-leb o.base a h) ∙ lt-ltb a (o.base + 32 * o.paging) k in
    ap (λ z. (slice_index_or (banks_region o ∷ more) (cond z 0 (place_in more a (0 + 1))) null_region).target) e

csr_is : (y : System) (o : CsrOptions) (more : List Region) (a : ℕ) → y.regions ≡ banks_region o ∷ more → o.base ≤ a → a < o.base + 32 * o.paging → target_of y a ≡ Csr
csr_is y o more a e h k = let P : List Region → Type 0 = λ rs. (slice_index_or rs (place_in rs a 0) null_region).target ≡ Csr in subst P (sym e) (csr_at o more a h k)

-- what a register's place must be
record Lies (o : CsrOptions) (addr size : ℕ) : Type 0 where
  aligned : addr ≡ 4 * (addr / 4)
  low : o.base ≤ addr
  high : addr + 4 * word_count o size ≤ o.base + 32 * o.paging

low_below : (o : CsrOptions) (size i k : ℕ) (b : Bool) → Counts o.data_width size (word_count o size) → o.little ≡ b → suc k + i ≡ word_count o size → low_bit o (word_count o size) i < size
low_below o size i k true c e h =
    let l = low_little o (word_count o size) i e in
    let f = few o.data_width size (word_count o size) i c (omega arith) in
    omega arith
low_below o size i k false c e h =
    let l = low_big o (word_count o size) i k e (omega arith) in
    let f = few o.data_width size (word_count o size) k c (omega arith) in
    omega arith

word_is : (y : System) (o : CsrOptions) (more : List Region) (size addr i k : ℕ) → OptionsFit o → y.regions ≡ banks_region o ∷ more → Counts o.data_width size (word_count o size) → Lies o addr size → suc k + i ≡ word_count o size
    → IsWord y size (word_of o size addr i)
word_is y o more size addr i k f g c l h =
    let low = low_bit o (word_count o size) i in
    let below : low < size = low_below o size i k o.little c refl h in
    let m : low + min o.data_width (size - low) ≡ min size (low + o.data_width) = over_min low o.data_width size (omega arith) in
    let n : min size (low + o.data_width) ≤ size = min-le_left size (low + o.data_width) in
    let s : min o.data_width (size - low) ≤ o.data_width = min-le_left o.data_width (size - low) in
    record {
      aligned = aligned_more addr i l.aligned;
      csr = csr_is y o more (addr + 4 * i) g (omega (arith, l.low)) (omega (arith, l.high));
      inside = omega arith;
      short = omega (arith, f.most);
    }

words_are : (y : System) (o : CsrOptions) (more : List Region) (size addr i n : ℕ) → OptionsFit o → y.regions ≡ banks_region o ∷ more → Counts o.data_width size (word_count o size) → Lies o addr size → n + i ≡ word_count o size
    → Each (λ w. IsWord y size w) (words_from o size addr i n)
words_are y o more size addr i zero f g c l h = tt
words_are y o more size addr i (suc k) f g c l h =
    (word_is y o more size addr i k f g c l h, words_are y o more size addr (i + 1) k f g c l (omega arith))

ascend_words : (o : CsrOptions) (size addr i n a : ℕ) → a ≤ addr + 4 * i → Ascend a (words_from o size addr i n)
ascend_words o size addr i zero a h = tt
ascend_words o size addr i (suc k) a h = (h, ascend_words o size addr (i + 1) k (addr + 4 * i + 1) (omega arith))

register_fits : (y : System) (o : CsrOptions) (more : List Region) (size addr : ℕ) (kind : Kind) → OptionsFit o → y.regions ≡ banks_region o ∷ more → 1 ≤ size → Lies o addr size
    → IsRegister y (record { size = size; kind = kind; words = words_of o size addr })
register_fits y o more size addr kind f g s l =
    let c = counts o.data_width size f.some s in
    record {
      some = s;
      words = words_are y o more size addr 0 (word_count o size) f g c l (omega arith);
      tiled = tiled_by o size addr o.little c refl;
      ascend = ascend_words o size addr 0 (word_count o size) 0 (omega arith);
    }

bank_registers : (y : System) (o : CsrOptions) (more : List Region) (addr : ℕ) (ds : List Declared) → OptionsFit o → y.regions ≡ banks_region o ∷ more → Each (λ (d : Declared). 1 ≤ d.size) ds
    → addr ≡ 4 * (addr / 4) → o.base ≤ addr → addr + 4 * bank_words o ds ≤ o.base + 32 * o.paging → Each (IsRegister y) (bank_map o addr ds)
bank_registers y o more addr [] f g s a h k = tt
bank_registers y o more addr (d ∷ ds) f g s a h k = (
  register_fits y o more d.size addr d.kind f g s.0 (record { aligned = a; low = h; high = omega arith }),
  bank_registers y o more (addr + 4 * word_count o d.size) ds f g s.1 (aligned_more addr (word_count o d.size) a) (omega arith) (omega arith),
)

bank_aligned : (o : CsrOptions) (n : ℕ) → OptionsFit o → o.base + o.paging * n ≡ 4 * ((o.base + o.paging * n) / 4)
bank_aligned o n f =
    let p : o.paging * n ≡ 4 * (o.paging / 4) * n = ap (λ (k : ℕ). k * n) f.paging in
    let b = f.base in
    let e : o.base + o.paging * n ≡ (o.base / 4 + o.paging / 4 * n) * 4 + 0 = omega arith in
    let g = ap (λ (k : ℕ). k / 4) e ∙ div-mul-add (o.base / 4 + o.paging / 4 * n) 4 0 (omega arith) in
    omega arith

-- a bank ends where the next one may begin, and the last one before the region does
bank_end : (o : CsrOptions) (n : ℕ) → n ≤ 31 → o.paging * n + o.paging ≤ 32 * o.paging
bank_end o n h =
    let e : o.paging * (n + 1) ≤ o.paging * 32 = mul-le o.paging (n + 1) o.paging 32 (omega arith) (omega arith) in
    omega arith

map_registers : (y : System) (o : CsrOptions) (more : List Region) (n : ℕ) (bs : List Bank) → OptionsFit o → y.regions ≡ banks_region o ∷ more → BanksFit o n bs → Each (IsRegister y) (map_of o bs)
map_registers y o more n [] f g h = tt
map_registers y o more n (b ∷ bs) f g h =
    let fits = h.1 in
    let e = bank_end o b.number fits.number in
    let r = fits.room in
    each_append (IsRegister y) (bank_map o (o.base + o.paging * b.number) b.registers) (map_of o bs)
    (bank_registers y o more (o.base + o.paging * b.number) b.registers f g fits.some (bank_aligned o b.number f) (omega arith) (omega arith))
    (map_registers y o more (b.number + 1) bs f g h.2)

-- ---- no two words have one address

-- from a on, below b, and rising
abbrev Within : ℕ → List ℕ → ℕ → Type 0
Within a [] b = a ≤ b
Within a (x ∷ xs) b = (a ≤ x) × Within (x + 1) xs b

wider : (a c : ℕ) (xs : List ℕ) (b e : ℕ) → c ≤ a → b ≤ e → Within a xs b → Within c xs e
wider a c [] b e h k w = omega arith
wider a c (x ∷ xs) b e h k w = (omega (arith, w.0), wider (x + 1) (x + 1) xs b e (omega arith) k w.1)

within_append : (a : ℕ) (xs : List ℕ) (b : ℕ) (ys : List ℕ) (c : ℕ) → Within a xs b → Within b ys c → Within a (xs ++ ys) c
within_append a [] b ys c h k = wider b a ys c c h (omega arith) k
within_append a (x ∷ xs) b ys c h k = (h.0, within_append (x + 1) xs b ys c h.1 k)

not_among : (z a : ℕ) (xs : List ℕ) (b : ℕ) → z < a → Within a xs b → is_among z xs ≡ false
not_among z a [] b h w = refl
not_among z a (x ∷ xs) b h w =
    ap (λ t. t || is_among z xs) (ne_eqb x z (λ e. absurd (omega (arith, e, h, w.0)))) ∙ not_among z (x + 1) xs b (omega (arith, w.0)) w.1

within_distinct : (a : ℕ) (xs : List ℕ) (b : ℕ) → Within a xs b → is_distinct xs ≡ true
within_distinct a [] b w = refl
within_distinct a (x ∷ xs) b w = ap (λ t. not t && is_distinct xs) (not_among x (x + 1) xs b (omega arith) w.1) ∙ within_distinct (x + 1) xs b w.1

words_within : (o : CsrOptions) (size addr i n : ℕ) → Within (addr + 4 * i) (word_addresses (words_from o size addr i n)) (addr + 4 * (i + n))
words_within o size addr i zero = omega arith
words_within o size addr i (suc k) = (
  (let e : addr + 4 * i ≤ addr + 4 * i = omega arith in e),
  wider (addr + 4 * (i + 1)) (addr + 4 * i + 1) (word_addresses (words_from o size addr (i + 1) k)) (addr + 4 * ((i + 1) + k)) (addr + 4 * (i + suc k)) (omega arith) (omega arith) (words_within o size addr (i + 1) k),
)

bank_within : (o : CsrOptions) (addr : ℕ) (ds : List Declared) → Within addr (addresses_of (bank_map o addr ds)) (addr + 4 * bank_words o ds)
bank_within o addr [] = omega arith
bank_within o addr (d ∷ ds) =
    let n = word_count o d.size in
    let next = addr + 4 * n in
    within_append addr (word_addresses (words_of o d.size addr)) next (addresses_of (bank_map o next ds)) (addr + 4 * bank_words o (d ∷ ds))
    (wider (addr + 4 * 0) addr (word_addresses (words_of o d.size addr)) (addr + 4 * (0 + n)) next (omega arith) (omega arith) (words_within o d.size addr 0 n))
    (wider next next (addresses_of (bank_map o next ds)) (next + 4 * bank_words o ds) (addr + 4 * bank_words o (d ∷ ds)) (omega arith) (omega arith) (bank_within o next ds))

addresses_of-append : (rs qs : List Register) → addresses_of (rs ++ qs) ≡ addresses_of rs ++ addresses_of qs
addresses_of-append [] qs = refl
addresses_of-append (r ∷ rs) qs = ap (λ xs. word_addresses r.words ++ xs) (addresses_of-append rs qs) ∙ sym (append_assoc (word_addresses r.words) (addresses_of rs) (addresses_of qs))

addresses_append : (a b : ℕ) (rs qs : List Register) (c : ℕ) → Within a (addresses_of rs) b → Within b (addresses_of qs) c → Within a (addresses_of (rs ++ qs)) c
addresses_append a b rs qs c h k = let P : List ℕ → Type 0 = λ xs. Within a xs c in subst P (sym (addresses_of-append rs qs)) (within_append a (addresses_of rs) b (addresses_of qs) c h k)

map_within : (o : CsrOptions) (n : ℕ) (bs : List Bank) → n ≤ 32 → BanksFit o n bs → Within (o.base + o.paging * n) (addresses_of (map_of o bs)) (o.base + 32 * o.paging)
map_within o n [] h f =
    let e : o.paging * n ≤ o.paging * 32 = mul-le o.paging n o.paging 32 (omega arith) h in
    omega arith
map_within o n (b ∷ bs) h f =
    let start = o.base + o.paging * b.number in
    let e : o.paging * n ≤ o.paging * b.number = mul-le o.paging n o.paging b.number (omega arith) f.0 in
    let g : o.paging * (b.number + 1) ≡ o.paging * b.number + o.paging = omega arith in
    let r = f.1.room in
    let k = f.1.number in
    addresses_append (o.base + o.paging * n) (o.base + o.paging * (b.number + 1)) (bank_map o start b.registers) (map_of o bs) (o.base + 32 * o.paging)
    (wider start (o.base + o.paging * n) (addresses_of (bank_map o start b.registers)) (start + 4 * bank_words o b.registers) (o.base + o.paging * (b.number + 1)) (omega arith) (omega arith) (bank_within o start b.registers))
    (map_within o (b.number + 1) bs (omega arith) f.2)

pub map_law : (y : System) (o : CsrOptions) (banks : List Bank) (more : List Region) → MapsBanks y o banks more → HasMap y
map_law y o banks more h = record {
  registers = let P : List Register → Type 0 = λ rs. Each (IsRegister y) rs in subst P (sym h.registers) (map_registers y o more 0 banks h.options h.regions h.fit);
  addresses =
      let P : List Register → Type 0 = λ rs. is_distinct (addresses_of rs) ≡ true in
      subst P (sym h.registers) (within_distinct (o.base + o.paging * 0) (addresses_of (map_of o banks)) (o.base + 32 * o.paging) (map_within o 0 banks (omega arith) h.fit));
}
