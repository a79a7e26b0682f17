-- Numbers that are cut where they are greater than all that matter.
use Rattle.std.specs.Prelude.{ℕ, ℤ, pos, negsuc, Bool, true, false, ◌≤◌, Option, IfSome, min, option_map}
use Rattle.std.proofs.Common.{neg_ℤ, suc}

-- 2 to the power 64
abbrev pub cutoff : ℕ
cutoff = 18446744073709551616

abbrev pub capped : ℕ → ℕ
capped n = min n cutoff

abbrev pub clipped : ℤ → ℤ
clipped (pos n) = pos (min n cutoff)
clipped (negsuc n) = neg_ℤ (pos (min (suc n) cutoff))

abbrev pub AtMost : Option ℕ → Type 0
AtMost o = IfSome o (λ n. n ≤ cutoff)

abbrev pub with_sign : Bool → ℕ → ℤ
with_sign true n = neg_ℤ (pos n)
with_sign false n = pos n

abbrev pub signed_of : Bool → Option ℕ → Option ℤ
signed_of negative o = option_map (with_sign negative) o
