-- Measures that go down.
use Rattle.std.proofs.Common.{◌≡◌, ◌≢◌, ◌<◌, ◌≤◌, ◌+◌, ◌-◌, ◌*◌, ℕ, zero, suc, length, sub-one, refl, arith}
use Rattle.std.proofs.Math.Nat.{suc-mul}
use Rattle.lx_syntax.specs.declared.forms.Place.{Place}
use Rattle.lx_syntax.specs.declared.forms.Place.TheVariants as place
use Rattle.lx_syntax.specs.declared.forms.Program.{Program}
use Rattle.lx_run.specs.Meant.{IsLowerPlace}
use Rattle.lx_run.proofs.Measures.{level, place_in}

pub place_below : (n k : ℕ) (p : Place) → IsLowerPlace n p → k < n → place_in p < n
place_below n k (place.Name x) h l = omega arith
place_below n k (place.Attribute of x) h l = h

pub place_further : (n k : ℕ) (p : Place) → IsLowerPlace n p → n ≤ k → IsLowerPlace k p
place_further n k (place.Name x) h l = tt
place_further n k (place.Attribute of x) h l = omega arith

-- one class less may still be made
pub level_down : (p : Program) (levels : ℕ) → levels ≢ 0 → level p (levels - 1) + 32 * length p.nodes + 2 < level p levels
level_down p zero some = absurd (some refl)
level_down p (suc levels) some =
    let more : suc levels * (32 * length p.nodes + 32) ≡ levels * (32 * length p.nodes + 32) + (32 * length p.nodes + 32) = suc-mul levels (32 * length p.nodes + 32) in
    rw sub-one (omega arith)
