-- Addresses that rise.
use Rattle.std.proofs.Common.{◌≡◌, ℕ, zero, suc, ◌+◌, ◌*◌, ◌≤◌, List, [], ◌∷◌, ◌++◌, length, map, refl, ap, sym, ◌∙◌, arith, subst, true, false, if◌then◌else◌, nat_eq}
use Rattle.std.proofs.Math.Path.{ap₂}
use Rattle.std.specs.Prelude.{flat_map}
use Rattle.std.specs.List.{range_with_len}
use Rattle.std.proofs.lemmas.List.{map-append}
use Rattle.std.proofs.lemmas.Grind.{flat_map-append}
use Rattle.lx_fhdl.specs.Keeping.{EachOf}
use Rattle.lx_fhdl.specs.declared.places.Numbered.{Numbered}
use Rattle.lx_machine.specs.Map.{words_from}
use Rattle.lx_csr.specs.Places.{AreBanks, Rise, addresses, follow, options, word_count_of, word_place, words_at, words_in}
use Rattle.lx_csr.specs.Collected.{Peripheral, bank_of, banks_from}
use Rattle.lx_csr.specs.Mapped.{AreShort, IsShort, mapped, numbered}
use Rattle.lx_csr.specs.declared.registers.WordPlace.{WordPlace}
use Rattle.lx_csr.specs.declared.registers.Register.{Register}
use Rattle.lx_csr.specs.declared.registers.Bank.{Bank}

pub rise_low : (a b c : ℕ) (xs : List ℕ) → a ≤ b → Rise b c xs → Rise a c xs
rise_low a b c [] l h = omega arith
rise_low a b c (x ∷ xs) l h = (omega (arith, h.0), h.1)

pub rise_high : (a b c : ℕ) (xs : List ℕ) → b ≤ c → Rise a b xs → Rise a c xs
rise_high a b c [] l h = omega arith
rise_high a b c (x ∷ xs) l h = (h.0, rise_high (x + 4) b c xs l h.1)

pub rise_top : (a b : ℕ) (xs : List ℕ) → Rise a b xs → a ≤ b
rise_top a b [] h = h
rise_top a b (x ∷ xs) h = let t : x + 4 ≤ b = rise_top (x + 4) b xs h.1 in omega (arith, h.0)

pub rise_append : (a b c : ℕ) (xs ys : List ℕ) → Rise a b xs → Rise b c ys → Rise a c (xs ++ ys)
rise_append a b c [] ys h k = rise_low a b c ys h k
rise_append a b c (x ∷ xs) ys h k = (h.0, rise_append (x + 4) b c xs ys h.1 k)

pub rise_shift : (s a b : ℕ) (xs : List ℕ) → Rise a b xs → Rise (s + a) (s + b) (map (λ x. s + x) xs)
rise_shift s a b [] h = omega arith
rise_shift s a b (x ∷ xs) h =
    let e : s + (x + 4) ≡ (s + x) + 4 = omega arith in
    (omega (arith, h.0), subst (λ n. Rise n (s + b) (map (λ y. s + y) xs)) e (rise_shift s (x + 4) b xs h.1))

pub addresses_append : (rs qs : List Register) → addresses (rs ++ qs) ≡ addresses rs ++ addresses qs
addresses_append rs qs = flat_map-append (λ (r : Register). map (λ (w : WordPlace). w.addr) r.words) rs qs

-- ---- registers that follow one another

abbrev word_addresses : List WordPlace → List ℕ
word_addresses ws = map (λ (w : WordPlace). w.addr) ws

words_rise : (size addr i n : ℕ) → Rise (addr + 4 * i) (addr + 4 * (i + n)) (word_addresses (map word_place (words_from options size addr i n)))
words_rise size addr i zero = omega arith
words_rise size addr i (suc n) =
    let xs = word_addresses (map word_place (words_from options size addr (i + 1) n)) in
    let low : addr + 4 * (i + 1) ≡ (addr + 4 * i) + 4 = omega arith in
    let high : addr + 4 * ((i + 1) + n) ≡ addr + 4 * (i + suc n) = omega arith in
    let rest : Rise ((addr + 4 * i) + 4) (addr + 4 * (i + suc n)) xs =
    subst (λ h. Rise ((addr + 4 * i) + 4) h xs) high (subst (λ l. Rise l (addr + 4 * ((i + 1) + n)) xs) low (words_rise size addr (i + 1) n)) in
    (omega arith, rest)

register_rises : (size addr : ℕ) → Rise addr (addr + 4 * word_count_of size) (word_addresses (words_at size addr))
register_rises size addr =
    let n = word_count_of size in
    let low : addr + 4 * 0 ≡ addr = omega arith in
    let high : addr + 4 * (0 + n) ≡ addr + 4 * n = omega arith in
    subst (λ h. Rise addr h (word_addresses (words_at size addr))) high (subst (λ l. Rise l (addr + 4 * (0 + n)) (word_addresses (words_at size addr))) low (words_rise size addr 0 n))

pub follow_rises : (b a : ℕ) (rs : List Register) → Rise a (a + 4 * words_in rs) (addresses (follow b a rs))
follow_rises b a [] = omega arith
follow_rises b a (r ∷ rs) =
    let n = word_count_of r.size in
    let e : (a + 4 * n) + 4 * words_in rs ≡ a + 4 * (n + words_in rs) = omega arith in
    rise_append a (a + 4 * n) (a + 4 * (n + words_in rs)) (word_addresses (words_at r.size a)) (addresses (follow b (a + 4 * n) rs))
    (register_rises r.size a)
    (subst (λ h. Rise (a + 4 * n) h (addresses (follow b (a + 4 * n) rs))) e (follow_rises b (a + 4 * n) rs))

bank_keeps : (n : ℕ) (name : List ℕ) (rs : List Register) → AreBanks (bank_of n name rs)
bank_keeps n name [] = tt
bank_keeps n name (r ∷ rs) =
    let e : 0 + 4 * words_in (r ∷ rs) ≡ 4 * words_in (r ∷ rs) = omega arith in
    (subst (λ h. Rise 0 h (addresses (follow n 0 (r ∷ rs)))) e (follow_rises n 0 (r ∷ rs)), tt)

banks_and : (xs ys : List Bank) → AreBanks xs → AreBanks ys → AreBanks (xs ++ ys)
banks_and [] ys h k = k
banks_and (x ∷ xs) ys h k = (h.0, banks_and xs ys h.1 k)

-- The banks of peripherals keep what banks keep.
pub banks_keep : (n : ℕ) (ps : List Peripheral) → AreBanks (banks_from n ps)
banks_keep n [] = tt
banks_keep n (p ∷ ps) =
    let bs = bank_of n p.name p.registers in
    banks_and bs (banks_from (n + length bs) ps) (bank_keeps n p.name p.registers) (banks_keep (n + length bs) ps)

-- ---- banks with numbers

rise_each : (a b : ℕ) (xs : List ℕ) → Rise a b xs → EachOf (λ x. x + 4 ≤ b) xs
rise_each a b [] h = tt
rise_each a b (x ∷ xs) h = (rise_top (x + 4) b xs h.1, rise_each (x + 4) b xs h.1)

each_words : (b : ℕ) (ws : List WordPlace) (more : List ℕ) → EachOf (λ x. x + 4 ≤ b) (word_addresses ws ++ more) →
    EachOf (λ (w : WordPlace). w.addr + 4 ≤ b) ws × EachOf (λ x. x + 4 ≤ b) more
each_words b [] more h = (tt, h)
each_words b (w ∷ ws) more h = let r = each_words b ws more h.1 in ((h.0, r.0), r.1)

each_register : (rs : List Register) → EachOf (λ x. x + 4 ≤ 2048) (addresses rs) → EachOf IsShort rs
each_register [] h = tt
each_register (r ∷ rs) h = let p = each_words 2048 r.words (addresses rs) h in (p.0, each_register rs p.1)

pub are_short : (bs : List Bank) → AreBanks bs → EachOf (λ (b : Bank). b.wish.words ≤ 512) bs → AreShort bs
are_short [] h few = tt
are_short (b ∷ bs) h few =
    let l : 4 * b.wish.words ≤ 2048 = omega (arith, few.0) in
    (each_register b.registers (rise_each 0 2048 (addresses b.registers) (rise_high 0 (4 * b.wish.words) 2048 (addresses b.registers) l h.0)), are_short bs h.1 few.1)

moved_words : (s : ℕ) (ws : List WordPlace) → word_addresses (map (λ (w : WordPlace). record w { addr = s + w.addr }) ws) ≡ map (λ x. s + x) (word_addresses ws)
moved_words s [] = refl
moved_words s (w ∷ ws) = ap (λ xs. (s + w.addr) ∷ xs) (moved_words s ws)

pub moved_addresses : (s n : ℕ) (rs : List Register) → addresses (map (mapped s n) rs) ≡ map (λ x. s + x) (addresses rs)
moved_addresses s n [] = refl
moved_addresses s n (r ∷ rs) =
    ap₂ (λ xs ys. xs ++ ys) (moved_words s r.words) (moved_addresses s n rs)
    ∙ sym (map-append (λ x. s + x) (word_addresses r.words) (addresses rs))

-- each bank rises in its 0x800 bytes
abbrev pub AllRise : List Bank → Type 0
AllRise bs = EachOf (λ (b : Bank). Rise 0 2048 (addresses b.registers)) bs

pub all_rise : (bs : List Bank) → AreBanks bs → EachOf (λ (b : Bank). b.wish.words ≤ 512) bs → AllRise bs
all_rise [] h few = tt
all_rise (b ∷ bs) h few =
    let l : 4 * b.wish.words ≤ 2048 = omega (arith, few.0) in
    (rise_high 0 (4 * b.wish.words) 2048 (addresses b.registers) l h.0, all_rise bs h.1 few.1)

numbered_rises : (base n : ℕ) (ps : List Numbered) (bs : List Bank) → AllRise bs → Rise (base + 2048 * n) (base + 2048 * (n + 1)) (addresses (numbered base ps bs n))
numbered_rises base n [] bs h = omega arith
numbered_rises base n (p ∷ ps) [] h = omega arith
numbered_rises base n (p ∷ ps) (b ∷ bs) h =
    elim (nat_eq p.number n) as (λ t. Rise (base + 2048 * n) (base + 2048 * (n + 1)) (addresses (if t then map (mapped (base + 2048 * n) n) b.registers else numbered base ps bs n))) [
      | true ↦
          let s = base + 2048 * n in
          let low : s + 0 ≡ s = omega arith in
          let high : s + 2048 ≡ base + 2048 * (n + 1) = omega arith in
          subst (λ xs. Rise s (base + 2048 * (n + 1)) xs) (sym (moved_addresses s n b.registers))
          (subst (λ t. Rise s t (map (λ x. s + x) (addresses b.registers))) high
          (subst (λ l. Rise l (s + 2048) (map (λ x. s + x) (addresses b.registers))) low (rise_shift s 0 2048 (addresses b.registers) h.0)))
      | false ↦ numbered_rises base n ps bs h.1
    ]

pub numbers_rise : (base : ℕ) (ps : List Numbered) (bs : List Bank) → AllRise bs → (n k : ℕ) →
    Rise (base + 2048 * n) (base + 2048 * (n + k)) (addresses (flat_map (numbered base ps bs) (range_with_len n k)))
numbers_rise base ps bs h n zero = omega arith
numbers_rise base ps bs h n (suc k) =
    let e : base + 2048 * ((n + 1) + k) ≡ base + 2048 * (n + suc k) = omega arith in
    let rest = subst (λ t. Rise (base + 2048 * (n + 1)) t (addresses (flat_map (numbered base ps bs) (range_with_len (n + 1) k)))) e (numbers_rise base ps bs h (n + 1) k) in
    subst (λ xs. Rise (base + 2048 * n) (base + 2048 * (n + suc k)) xs)
    (sym (addresses_append (numbered base ps bs n) (flat_map (numbered base ps bs) (range_with_len (n + 1) k))))
    (rise_append (base + 2048 * n) (base + 2048 * (n + 1)) (base + 2048 * (n + suc k)) (addresses (numbered base ps bs n)) (addresses (flat_map (numbered base ps bs) (range_with_len (n + 1) k)))
    (numbered_rises base n ps bs h) rest)
