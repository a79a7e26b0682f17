-- A circuit in which two states follow one another is one that the laws speak of.
use Rattle.std.proofs.Common.{◌≡◌, ℕ, zero, suc, false, [], ◌∷◌, subst, refl, lit≤}
use Rattle.std.specs.Prelude.{Some, codes, slice_get}
use Rattle.lx_circuit.specs.Statements.{Done, drives_block}
use Rattle.lx_fsm.specs.Lists.{all_kept}
use Rattle.lx_fsm.specs.Machine.{State}
use Rattle.lx_fsm.specs.Runs.{HasFsm, next_values}
use Rattle.lx_fsm.specs.Worked.{to_and_fro, turning}

-- what holds of two states holds of each of a list of them
each_of_two : (P : State → Type 0) (a b : State) → P a → P b → (k : ℕ) (s : State) → slice_get (a ∷ b ∷ []) k ≡ Some s → P s
each_of_two P a b h g zero s e = let same : a ≡ s = cc in subst P same h
each_of_two P a b h g (suc zero) s e = let same : b ≡ s = cc in subst P same g
each_of_two P a b h g (suc (suc k)) s e = absurd (cc)

pub turns : HasFsm turning 0 (to_and_fro (codes "A"))
turns = record {
  known = refl;
  comb = record { before = Done; after = Done; is = refl };
  sync = record { before = Done; after = Done; is = refl };
  register = record {
    plain = refl;
    some = lit≤ tt;
    bits = lit≤ tt;
    reset = refl;
    is_reset = refl;
    values = each_of_two (λ (s : State). drives_block 0 (all_kept next_values s.acts) ≡ false) _ _ refl refl;
    role = refl;
  };
  alone = record { before = refl; after = refl };
}
