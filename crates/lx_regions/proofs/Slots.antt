-- Slots of n bytes against regions of whole slots.
use Rattle.std.proofs.Common.{◌≡◌, ℕ, zero, ◌+◌, ◌-◌, ◌*◌, ◌/◌, ◌^◌, ◌<◌, ◌≤◌, Bool, true, false, not, cond, ◌&&◌, inl, inr, refl, arith, ap, sym, ◌∙◌}
use Rattle.std.specs.Int.{IsPowerOfTwo}
use Rattle.std.proofs.Math.Nat.{mul-le-mul_left}
use Rattle.std.proofs.lemmas.Nat.{pow-add, pow_below, pow_pos}
use Rattle.std.proofs.lemmas.Bool.{and_from, and_right, cases_lt}
use Rattle.lx_regions.specs.declared.spots.Place.{Place}
use Rattle.lx_regions.specs.declared.spots.Place.TheVariants.{Fixed, Chosen, Open}
use Rattle.lx_regions.specs.Space.{is_inside, is_apart}
use Rattle.lx_regions.specs.Free.{count, same}
use Rattle.lx_regions.proofs.Tests.{inside_parts, apart_before, apart_behind, meets_from}
use Rattle.lx_regions.proofs.Counts.{count_without}

-- of two powers of two the greater is a multiple of the other
pub multiple : (n m : ℕ) → IsPowerOfTwo n → IsPowerOfTwo m → n ≤ m → (k : ℕ) × (m ≡ k * n)
multiple n m (a, e) (b, f) h =
    elim (cases_lt b a) [
      | inl less ↦ let below = pow_below b a less in absurd (omega (arith, e, f, below))
      | inr more ↦
          let split : b ≡ (b - a) + a = omega arith in
          (2 ^ (b - a), f ∙ ap (λ z. 2 ^ z) split ∙ pow-add 2 (b - a) a ∙ ap (λ z. 2 ^ (b - a) * z) (sym e))
    ]

pub power_pos : (n : ℕ) → IsPowerOfTwo n → zero < n
power_pos n (a, e) = let p = pow_pos a in omega (arith, e, p)

pub aligned_low : (n share m q o : ℕ) → m ≡ share * n → o ≡ m * q → o ≡ (q * share) * n
aligned_low n share m q o e f = let g : m * q ≡ (share * n) * q = ap (λ z. z * q) e in omega (arith, f, g)

pub slot_order : (n i j : ℕ) → i < j → i * n + n ≤ j * n
slot_order n i j h = let g = mul-le-mul_left n h in omega (arith, g)

-- slots inside a region of whole slots leave, and no others
pub region_out : (k n o m low share : ℕ) (p r : ℕ → Bool) → zero < n → o ≡ low * n → m ≡ share * n → low + share ≤ k →
    ((i : ℕ) → o ≤ i * n → i * n + n ≤ o + m → (p i ≡ true) × (r i ≡ true)) →
    count k (λ i. p i && (is_apart (i * n) n o m && r i)) + share ≡ count k (λ i. p i && r i)
region_out k n o m low share p r pos e f room pass =
    count_without k low share (λ i. p i && r i) (λ i. p i && (is_apart (i * n) n o m && r i)) room
    (λ i b. let g = slot_order n i low b in
    let a : is_apart (i * n) n o m ≡ true = apart_before (i * n) n o m (omega (arith, e, g)) in
    ap (λ z. p i && (z && r i)) (sym a))
    (λ i b l. let g = mul-le-mul_left n b in
    let a : is_apart (i * n) n o m ≡ true = apart_behind (i * n) n o m (omega (arith, e, f, g)) in
    ap (λ z. p i && (z && r i)) (sym a))
    (λ i a b.
    let g = mul-le-mul_left n a in
    let h = slot_order n i (low + share) b in
    let both = pass i (omega (arith, e, g)) (omega (arith, e, f, h)) in
    let met : is_apart (i * n) n o m ≡ false = meets_from (i * n) n o m (omega (arith, e, f, h, g)) (omega (arith, e, f, h, g)) in
    (and_from _ _ both.0 both.1, ap (λ z. p i && (z && r i)) met ∙ and_right (p i) false refl))

pub windows_apart : (w : Bool) (s n o m : ℕ) → is_inside w s n ≡ true → is_inside (not w) o m ≡ true → is_apart s n o m ≡ true
windows_apart true s n o m a b =
    let x = inside_parts true s n a in let y = inside_parts false o m b in apart_before s n o m (omega (arith, x.1, y.0))
windows_apart false s n o m a b =
    let x = inside_parts false s n a in let y = inside_parts true o m b in apart_behind s n o m (omega (arith, x.0, y.1))

-- slots that a chosen region takes, where it is of the window and its size counts
abbrev pub taken : (ℕ → Bool) → Bool → ℕ → Place → ℕ → Bool → ℕ
taken t w n (Fixed o) m c = 0
taken t w n (Chosen o) m c = cond (t m && same w c) (m / n) 0
taken t w n Open m c = 0
