-- Words laid over a register: what each leaves, and what all of them leave.
use Rattle.std.proofs.Common.{◌≡◌, ℕ, ℤ, pos, List, [], ◌∷◌, ◌+◌, ◌-◌, ◌*◌, ◌/◌, ◌%◌, ◌^◌, ◌<◌, ◌≤◌, ◌⊎◌, inl, inr, sym, ◌∙◌, ap, subst, nat_eq, arith}
use Rattle.std.proofs.lemmas.Nat.{pow_pos, pow-add, shr-shr, mod-pow-add, mod_below, mul-add-lt, div-mul-add, mod-mul-add, shr_below, div-add-mod'}
use Rattle.std.proofs.lemmas.Nat.{field_of as field-mod}
use Rattle.std.proofs.Math.Nat.{mod-eq_of_lt, div-eq_of_lt}
use Rattle.lx_num.specs.Ints.{modulo, field_of}
use Rattle.lx_num.proofs.Ints.{modulo-modulo, modulo-below}
use Rattle.lx_circuit.specs.Statements.{laid_over}
use Rattle.lx_machine.specs.Map.{CsrWord}
use Rattle.lx_machine.specs.Bus.{bit_of}
use Rattle.lx_machine.specs.Access.{Each}
use Rattle.lx_machine.specs.Sound.{Down, Up}

-- the laid pattern by its parts
laid_low_first : (p low len b : ℕ) → p % 2 ^ low + 2 ^ low * b + 2 ^ (low + len) * (p / 2 ^ (low + len)) ≡ (b + 2 ^ len * (p / 2 ^ (low + len))) * 2 ^ low + p % 2 ^ low
laid_low_first p low len b =
    let e = ap (λ (k : ℕ). k * (p / 2 ^ (low + len))) (pow-add 2 low len) in
    omega arith

laid_high_first : (p low len b : ℕ) → p % 2 ^ low + 2 ^ low * b + 2 ^ (low + len) * (p / 2 ^ (low + len)) ≡ (p / 2 ^ (low + len)) * 2 ^ (low + len) + (b * 2 ^ low + p % 2 ^ low)
laid_high_first p low len b = omega arith

low_part_below : (p low len b : ℕ) → b < 2 ^ len → b * 2 ^ low + p % 2 ^ low < 2 ^ (low + len)
low_part_below p low len b h =
    let e = mul-add-lt b (2 ^ low) (p % 2 ^ low) (2 ^ len) h (mod_below p (2 ^ low) (pow_pos low)) in
    let f = pow-add 2 low len in
    omega arith

-- above its low bit
pub laid_quotient : (p low len : ℕ) (z : ℤ) → laid_over p low len z / 2 ^ low ≡ modulo z (2 ^ len) + 2 ^ len * (p / 2 ^ (low + len))
laid_quotient p low len z =
    ap (λ (n : ℕ). n / 2 ^ low) (laid_low_first p low len (modulo z (2 ^ len)))
    ∙ div-mul-add (modulo z (2 ^ len) + 2 ^ len * (p / 2 ^ (low + len))) (2 ^ low) (p % 2 ^ low) (mod_below p (2 ^ low) (pow_pos low))

-- up to its top bit
pub laid_low : (p low len : ℕ) (z : ℤ) → laid_over p low len z % 2 ^ (low + len) ≡ modulo z (2 ^ len) * 2 ^ low + p % 2 ^ low
laid_low p low len z =
    ap (λ (n : ℕ). n % 2 ^ (low + len)) (laid_high_first p low len (modulo z (2 ^ len)))
    ∙ mod-mul-add (p / 2 ^ (low + len)) (2 ^ (low + len)) (modulo z (2 ^ len) * 2 ^ low + p % 2 ^ low) (low_part_below p low len (modulo z (2 ^ len)) (modulo-below z (2 ^ len) (pow_pos len)))

pub laid_below : (p low len size : ℕ) (z : ℤ) → p < 2 ^ size → low + len ≤ size → laid_over p low len z < 2 ^ size
laid_below p low len size z h k =
    let b = modulo z (2 ^ len) in
    let j = size - (low + len) in
    let e : j + (low + len) ≡ size = omega arith in
    let h' : p < 2 ^ (j + (low + len)) = subst (λ (n : ℕ). p < 2 ^ n) (sym e) h in
    let c = shr_below p j (low + len) h' in
    let m = mul-add-lt (p / 2 ^ (low + len)) (2 ^ (low + len)) (b * 2 ^ low + p % 2 ^ low) (2 ^ j) c (low_part_below p low len b (modulo-below z (2 ^ len) (pow_pos len))) in
    let f = pow-add 2 (low + len) j in
    let g : (low + len) + j ≡ size = omega arith in
    let t : 2 ^ ((low + len) + j) ≡ 2 ^ size = ap (λ (n : ℕ). 2 ^ n) g in
    let d = laid_high_first p low len b in
    omega arith

-- ---- what a word changes

pub laid_word : (p low len : ℕ) (z : ℤ) → field_of (pos (laid_over p low len z)) low len ≡ modulo z (2 ^ len)
laid_word p low len z =
    let c = p / 2 ^ (low + len) in
    let m = modulo z (2 ^ len) in
    let e : m + 2 ^ len * c ≡ c * 2 ^ len + m = omega arith in
    ap (λ (n : ℕ). n % 2 ^ len) (laid_quotient p low len z ∙ e) ∙ mod-mul-add c (2 ^ len) m (modulo-below z (2 ^ len) (pow_pos len))

pub laid_rest_below : (p low len : ℕ) (z : ℤ) → laid_over p low len z % 2 ^ low ≡ p % 2 ^ low
laid_rest_below p low len z =
    ap (λ (n : ℕ). n % 2 ^ low) (laid_low_first p low len (modulo z (2 ^ len)))
    ∙ mod-mul-add (modulo z (2 ^ len) + 2 ^ len * (p / 2 ^ (low + len))) (2 ^ low) (p % 2 ^ low) (mod_below p (2 ^ low) (pow_pos low))

pub laid_rest_above : (p low len : ℕ) (z : ℤ) → laid_over p low len z / 2 ^ (low + len) ≡ p / 2 ^ (low + len)
laid_rest_above p low len z =
    ap (λ (n : ℕ). n / 2 ^ (low + len)) (laid_high_first p low len (modulo z (2 ^ len)))
    ∙ div-mul-add (p / 2 ^ (low + len)) (2 ^ (low + len)) (modulo z (2 ^ len) * 2 ^ low + p % 2 ^ low) (low_part_below p low len (modulo z (2 ^ len)) (modulo-below z (2 ^ len) (pow_pos len)))

-- the bits of v that a word of v carries
carried_is : (v low len : ℕ) → len ≤ 32 → modulo (pos (v / 2 ^ low % 2 ^ 32)) (2 ^ len) ≡ v / 2 ^ low % 2 ^ len
carried_is v low len h = modulo-modulo (pos (v / 2 ^ low)) len 32 h

-- they are those of v modulo 2 to the size
part_of_rest : (v low len size : ℕ) → low + len ≤ size → (v % 2 ^ size) / 2 ^ low % 2 ^ len ≡ v / 2 ^ low % 2 ^ len
part_of_rest v low len size h =
    let e : (size - low) + low ≡ size = omega arith in
    let l : len ≤ size - low = omega arith in
    ap (λ (n : ℕ). (v % 2 ^ n) / 2 ^ low % 2 ^ len) (sym e)
    ∙ (ap (λ (n : ℕ). n % 2 ^ len) (field-mod v (size - low) low) ∙ modulo-modulo (pos (v / 2 ^ low)) len (size - low) l)

pub word_carries : (v low len size : ℕ) → len ≤ 32 → low + len ≤ size → modulo (pos (v / 2 ^ low % 2 ^ 32)) (2 ^ len) ≡ (v % 2 ^ size) / 2 ^ low % 2 ^ len
word_carries v low len size h k = carried_is v low len h ∙ sym (part_of_rest v low len size k)

-- ---- all words of v, one after the other

abbrev pub laid_all : ℕ → ℕ → List CsrWord → ℕ
laid_all v p [] = p
laid_all v p (w ∷ ws) = laid_all v (laid_over p w.low w.len (pos (v / 2 ^ w.low % 2 ^ 32))) ws

pub record Lies (size : ℕ) (w : CsrWord) : Type 0 where
  pub inside : w.low + w.len ≤ size
  pub short : w.len ≤ 32

down_end : (p x top : ℕ) → top ≡ 0 → p / 2 ^ top ≡ x / 2 ^ top → p ≡ x
down_end p x top e h =
    let k : p / 2 ^ 0 ≡ x / 2 ^ 0 = subst (λ (n : ℕ). p / 2 ^ n ≡ x / 2 ^ n) e h in
    omega arith

down_step : (v size p : ℕ) (w : CsrWord) → Lies size w → p / 2 ^ (w.low + w.len) ≡ (v % 2 ^ size) / 2 ^ (w.low + w.len)
    → laid_over p w.low w.len (pos (v / 2 ^ w.low % 2 ^ 32)) / 2 ^ w.low ≡ (v % 2 ^ size) / 2 ^ w.low
down_step v size p w l h =
    let x = (v % 2 ^ size) / 2 ^ w.low in
    let e = laid_quotient p w.low w.len (pos (v / 2 ^ w.low % 2 ^ 32)) in
    let f = word_carries v w.low w.len size l.short l.inside in
    let g = ap (λ (n : ℕ). 2 ^ w.len * n) (h ∙ sym (shr-shr (v % 2 ^ size) w.low w.len)) in
    let d = div-add-mod' x (2 ^ w.len) in
    omega arith

pub down_all : (v size top p : ℕ) (ws : List CsrWord) → Each (Lies size) ws → Down top ws → p / 2 ^ top ≡ (v % 2 ^ size) / 2 ^ top → laid_all v p ws ≡ v % 2 ^ size
down_all v size top p [] l d h = down_end p (v % 2 ^ size) top d h
down_all v size top p (w ∷ ws) l d h =
    down_all v size w.low (laid_over p w.low w.len (pos (v / 2 ^ w.low % 2 ^ 32))) ws l.1 d.1
    (down_step v size p w l.0 (subst (λ (n : ℕ). p / 2 ^ n ≡ (v % 2 ^ size) / 2 ^ n) (sym d.0) h))

up_step : (v size p : ℕ) (w : CsrWord) → Lies size w → p % 2 ^ w.low ≡ (v % 2 ^ size) % 2 ^ w.low
    → laid_over p w.low w.len (pos (v / 2 ^ w.low % 2 ^ 32)) % 2 ^ (w.low + w.len) ≡ (v % 2 ^ size) % 2 ^ (w.low + w.len)
up_step v size p w l h =
    let e = laid_low p w.low w.len (pos (v / 2 ^ w.low % 2 ^ 32)) in
    let f = ap (λ (n : ℕ). n * 2 ^ w.low) (word_carries v w.low w.len size l.short l.inside) in
    let g = mod-pow-add (v % 2 ^ size) w.len w.low in
    let c : (v % 2 ^ size) % 2 ^ (w.len + w.low) ≡ (v % 2 ^ size) % 2 ^ (w.low + w.len) = ap (λ (n : ℕ). (v % 2 ^ size) % 2 ^ n) (omega arith) in
    omega arith

up_end : (v size low p : ℕ) → low ≡ size → p < 2 ^ size → p % 2 ^ low ≡ (v % 2 ^ size) % 2 ^ low → p ≡ v % 2 ^ size
up_end v size low p e b h =
    let k : p % 2 ^ size ≡ (v % 2 ^ size) % 2 ^ size = subst (λ (n : ℕ). p % 2 ^ n ≡ (v % 2 ^ size) % 2 ^ n) e h in
    sym (mod-eq_of_lt b) ∙ (k ∙ mod-eq_of_lt (mod_below v (2 ^ size) (pow_pos size)))

pub up_all : (v size low p : ℕ) (ws : List CsrWord) → Each (Lies size) ws → Up size low ws → p < 2 ^ size → p % 2 ^ low ≡ (v % 2 ^ size) % 2 ^ low → laid_all v p ws ≡ v % 2 ^ size
up_all v size low p [] l u b h = up_end v size low p u b h
up_all v size low p (w ∷ ws) l u b h =
    let q = laid_over p w.low w.len (pos (v / 2 ^ w.low % 2 ^ 32)) in
    let h' : p % 2 ^ w.low ≡ (v % 2 ^ size) % 2 ^ w.low = subst (λ (n : ℕ). p % 2 ^ n ≡ (v % 2 ^ size) % 2 ^ n) (sym u.0) h in
    let s = up_step v size p w l.0 h' in
    up_all v size (low + w.len) q ws l.1 u.1 (laid_below p w.low w.len size (pos (v / 2 ^ w.low % 2 ^ 32)) b l.0.inside)
    (subst (λ (n : ℕ). q % 2 ^ (n + w.len) ≡ (v % 2 ^ size) % 2 ^ (n + w.len)) u.0 s)

-- all words of v leave v, modulo 2 to the size
pub laid_whole : (v size p : ℕ) (ws : List CsrWord) → Each (Lies size) ws → Down size ws ⊎ Up size 0 ws → p < 2 ^ size → laid_all v p ws ≡ v % 2 ^ size
laid_whole v size p ws l (inl d) b =
    down_all v size size p ws l d (div-eq_of_lt b ∙ sym (div-eq_of_lt (mod_below v (2 ^ size) (pow_pos size))))
laid_whole v size p ws l (inr u) b =
    up_all v size 0 p ws l u b (let e : p % 2 ^ 0 ≡ (v % 2 ^ size) % 2 ^ 0 = omega arith in e)

-- ---- bits

-- a bit of a word of v is a bit of v
pub bit_carried : (v low len i : ℕ) → len ≤ 32 → low ≤ i → i < low + len → bit_of (pos (v / 2 ^ low % 2 ^ 32)) (i - low) ≡ bit_of (pos v) i
bit_carried v low len i h k l =
    let j = i - low in
    let m : 1 ≤ 32 - j = omega arith in
    let e : (32 - j) + j ≡ 32 = omega arith in
    let f : low + j ≡ i = omega arith in
    let a : (v / 2 ^ low % 2 ^ 32) / 2 ^ j % 2 ^ 1 ≡ v / 2 ^ i % 2 ^ 1 =
    ap (λ (n : ℕ). (v / 2 ^ low % 2 ^ n) / 2 ^ j % 2 ^ 1) (sym e)
    ∙ (ap (λ (n : ℕ). n % 2 ^ 1) (field-mod (v / 2 ^ low) (32 - j) j)
    ∙ (modulo-modulo (pos (v / 2 ^ low / 2 ^ j)) 1 (32 - j) m
    ∙ (ap (λ (n : ℕ). n % 2 ^ 1) (shr-shr v low j) ∙ ap (λ (n : ℕ). v / 2 ^ n % 2 ^ 1) f))) in
    ap (λ (n : ℕ). nat_eq n 1) a
