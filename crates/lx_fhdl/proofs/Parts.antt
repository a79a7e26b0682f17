-- Lists of children: one part after the other.
use Rattle.std.proofs.Common.{◌≡◌, ℕ, ◌+◌, ◌-◌, ◌*◌, ◌%◌, ◌^◌, ◌<◌, ◌≤◌, List, [], ◌∷◌, length, drop, get_or, min, sym, ◌∙◌, ap, arith, suc, zero, add-one, drop-cons}
use Rattle.std.specs.Prelude.{ℤ, pos, FitsSigned}
use Rattle.std.specs.Int.{w128}
use mir.Val.{to_z, of_z}
use Rattle.std.proofs.lemmas.Int.{to_z-of_z}
use Rattle.std.proofs.Math.Nat.{pow-le-pow_right, zero-min, min-zero, suc-min-suc}
use Rattle.std.proofs.lemmas.Nat.{pow-add, mul-add-lt, one_shl}
use Rattle.lx_num.specs.declared.Shape.{Shape}
use Rattle.lx_num.specs.Ints.{modulo}
use Rattle.lx_circuit.specs.Shapes.{bits_sum}
use Rattle.lx_circuit.specs.Values.{cat_pattern, nth_or_last, count_of, pick_value}
use Rattle.lx_fhdl.specs.Below.{ExprId}
use Rattle.lx_fhdl.specs.Nodes.{EachPlace, shape_at, shapes_at, value_at, values_at}

pub each_at : (P : ℕ → Type 0) (xs : List ExprId) (k : ℕ) (d : ExprId) → EachPlace P xs → k < length xs → P (get_or xs k d).place
each_at P [] k d e h = absurd (omega arith)
each_at P (x ∷ xs) zero d e h = e.0
each_at P (x ∷ xs) (suc k) d e h = each_at P xs k d e.1 (omega arith)

pub next_part : (xs : List ExprId) (k : ℕ) (d : ExprId) → k < length xs → drop k xs ≡ get_or xs k d ∷ drop (k + 1) xs
next_part xs k d h = drop-cons xs k d h ∙ ap (λ (j : ℕ). get_or xs k d ∷ drop j xs) (sym (add-one k))

pub next_bits : (hs : List Shape) (xs : List ExprId) (k : ℕ) (d : ExprId) (low total : ℕ) → k < length xs → low + bits_sum (shapes_at hs (drop k xs)) ≡ total
    → low + (shape_at hs (get_or xs k d).place).bits + bits_sum (shapes_at hs (drop (k + 1) xs)) ≡ total
next_bits hs xs k d low total h e =
    omega (arith, ap (λ (ys : List ExprId). bits_sum (shapes_at hs ys)) (next_part xs k d h))

pub next_value : (hs : List Shape) (known : List ℤ) (xs : List ExprId) (k : ℕ) (d : ExprId) (pattern low own total : ℕ) → k < length xs
    → own ≡ modulo (value_at known (get_or xs k d).place) (2 ^ (shape_at hs (get_or xs k d).place).bits)
    → pattern + 2 ^ low * cat_pattern (shapes_at hs (drop k xs)) (values_at known (drop k xs)) ≡ total
    → pattern + 2 ^ low * own + 2 ^ (low + (shape_at hs (get_or xs k d).place).bits) * cat_pattern (shapes_at hs (drop (k + 1) xs)) (values_at known (drop (k + 1) xs)) ≡ total
next_value hs known xs k d pattern low own total h o e =
    let n = (shape_at hs (get_or xs k d).place).bits in
    let rest = cat_pattern (shapes_at hs (drop (k + 1) xs)) (values_at known (drop (k + 1) xs)) in
    let s : cat_pattern (shapes_at hs (drop k xs)) (values_at known (drop k xs)) ≡ modulo (value_at known (get_or xs k d).place) (2 ^ n) + 2 ^ n * rest =
    ap (λ (ys : List ExprId). cat_pattern (shapes_at hs ys) (values_at known ys)) (next_part xs k d h) in
    let t : 2 ^ low * cat_pattern (shapes_at hs (drop k xs)) (values_at known (drop k xs)) ≡ 2 ^ low * (own + 2 ^ n * rest) =
    ap (λ (z : ℕ). 2 ^ low * z) (s ∙ ap (λ (z : ℕ). z + 2 ^ n * rest) (sym o)) in
    let p : 2 ^ (low + n) * rest ≡ 2 ^ low * 2 ^ n * rest = ap (λ (z : ℕ). z * rest) (pow-add 2 low n) in
    omega (arith, t, p, e)

-- the code's sum of two patterns
pub beside_is : (pattern low above bits : ℕ) → pattern < 2 ^ low → above < 2 ^ bits → low + bits ≤ 127
    → (pattern + (1 * 2 ^ low) % 2 ^ 128 * above ≡ pattern + 2 ^ low * above) × (pattern + 2 ^ low * above < 2 ^ (low + bits)) × (2 ^ (low + bits) ≤ 2 ^ 127)
beside_is pattern low above bits p q h =
    let l : low < 128 = omega arith in
    let two : 0 < 2 = omega arith in (
      ap (λ (k : ℕ). pattern + k * above) (one_shl low 128 l),
      omega (arith, mul-add-lt above (2 ^ low) pattern (2 ^ bits) q p, pow-add 2 low bits),
      pow-le-pow_right two h,
    )

pub nth_is : (known : List ℤ) (x : ExprId) (xs : List ExprId) (z : ℤ) (n : ℕ) (d : ExprId) → nth_or_last z (values_at known (x ∷ xs)) n ≡ value_at known (get_or (x ∷ xs) (min n (length xs)) d).place
nth_is known x xs z zero d = ap (λ (k : ℕ). value_at known (get_or (x ∷ xs) k d).place) (sym (zero-min (length xs)))
nth_is known x [] z (suc n) d = ap (λ (k : ℕ). value_at known (get_or (x ∷ []) k d).place) (sym (min-zero (suc n)))
nth_is known x (y ∷ ys) z (suc n) d =
    nth_is known y ys (value_at known x.place) n d
    ∙ ap (λ (k : ℕ). value_at known (get_or (x ∷ y ∷ ys) k d).place) (sym (suc-min-suc n (length ys)))

pub pick_is : (known : List ℤ) (xs : List ExprId) (index : ℤ) (k : ℕ) (d : ExprId) → 0 < length xs → k ≡ min (count_of index) (length xs - 1) → pick_value (values_at known xs) index ≡ value_at known (get_or xs k d).place
pick_is known [] index k d h e = absurd (omega arith)
pick_is known (x ∷ xs) index k d h e =
    let g : min (count_of index) (length xs) ≡ k = omega arith in
    nth_is known x xs (pos 0) (count_of index) d ∙ ap (λ (j : ℕ). value_at known (get_or (x ∷ xs) j d).place) g

-- one more part, as the code takes it
pub part_step : (hs : List Shape) (known : List ℤ) (xs : List ExprId) (k : ℕ) (d : ExprId) (low pattern own new bits total : ℕ) (a : Shape) (v : ℤ)
    → k < length xs → a ≡ shape_at hs (get_or xs k d).place → v ≡ value_at known (get_or xs k d).place → FitsSigned w128 v
    → own ≡ modulo (to_z w128 (of_z w128 v)) (2 ^ a.bits) → new ≡ pattern + 2 ^ low * own
    → low + bits_sum (shapes_at hs (drop k xs)) ≡ bits
    → pattern + 2 ^ low * cat_pattern (shapes_at hs (drop k xs)) (values_at known (drop k xs)) ≡ total
    → (low + a.bits + bits_sum (shapes_at hs (drop (k + 1) xs)) ≡ bits)
    × (new + 2 ^ (low + a.bits) * cat_pattern (shapes_at hs (drop (k + 1) xs)) (values_at known (drop (k + 1) xs)) ≡ total)
part_step hs known xs k d low pattern own new bits total a v h e f g o n b t =
    let own_is : own ≡ modulo (value_at known (get_or xs k d).place) (2 ^ (shape_at hs (get_or xs k d).place).bits) =
    o ∙ ap (λ (z : ℤ). modulo z (2 ^ a.bits)) (to_z-of_z w128 v g ∙ f) ∙ ap (λ (s : Shape). modulo (value_at known (get_or xs k d).place) (2 ^ s.bits)) e in (
      ap (λ (s : Shape). low + s.bits + bits_sum (shapes_at hs (drop (k + 1) xs))) e ∙ next_bits hs xs k d low bits h b,
      ap (λ (p : ℕ). p + 2 ^ (low + a.bits) * cat_pattern (shapes_at hs (drop (k + 1) xs)) (values_at known (drop (k + 1) xs))) n
          ∙ ap (λ (s : Shape). pattern + 2 ^ low * own + 2 ^ (low + s.bits) * cat_pattern (shapes_at hs (drop (k + 1) xs)) (values_at known (drop (k + 1) xs))) e
          ∙ next_value hs known xs k d pattern low own total h own_is t,
    )
