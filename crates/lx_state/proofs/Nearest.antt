-- The nearest class, from the last place downward.
use Rattle.std.proofs.Common.{◌≡◌, ◌∙◌, true, false, ℕ, zero, suc, ◌+◌, ◌-◌, ◌<◌, List, Option, Some, None, refl, arith, if◌then◌else◌, slice_get}
use Rattle.lx_state.specs.declared.machine.Class.{Class}
use Rattle.lx_state.specs.Frames.{nearest, is_class}

pub nearest_none : (cs : List Class) (name : List ℕ) (n : ℕ) → n ≡ 0 → nearest cs name n ≡ None
unfolding nearest
nearest_none cs name zero e = refl
nearest_none cs name (suc n) e = absurd (omega (arith, e))

pub nearest_down : (cs : List Class) (name : List ℕ) (n k : ℕ) → n ≡ k + 1 → nearest cs name n ≡ (if is_class (slice_get cs k) name then Some k else nearest cs name k)
unfolding nearest
nearest_down cs name zero k e = absurd (omega (arith, e))
nearest_down cs name (suc n) k e = let same : n ≡ k = omega (arith, e) in rw same refl

pub found_at : (cs : List Class) (name : List ℕ) (n k : ℕ) → n ≡ k + 1 → is_class (slice_get cs k) name ≡ true → nearest cs name n ≡ Some k
found_at cs name n k e h = nearest_down cs name n k e ∙ rw h refl

pub passed_by : (cs : List Class) (name : List ℕ) (n k : ℕ) → n ≡ k + 1 → is_class (slice_get cs k) name ≡ false → nearest cs name n ≡ nearest cs name k
passed_by cs name n k e h = nearest_down cs name n k e ∙ rw h refl
