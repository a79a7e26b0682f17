-- Pairs of the items of two lists.
use Rattle.std.proofs.Common.{◌≡◌, ℕ, ◌≤◌, List, [], ◌∷◌, length, drop, Ok, refl}
use Rattle.std.proofs.lemmas.List.{drop_all}
use Rattle.lx_state.specs.declared.machine.Machine.{Machine}
use Rattle.lx_state.specs.declared.values.Value.{Value}
use Rattle.lx_builtins.specs.Sequences.{joint_pairs}

nothing_beside : (line : ℕ) (xs ys : List Value) (m : Machine) → ys ≡ [] → joint_pairs line xs ys m ≡ Ok ([], m)
unfolding joint_pairs
nothing_beside line [] ys m e = refl
nothing_beside line (x ∷ xs) ys m e = rw e refl

pub joint_ended : (line k : ℕ) (xs ys : List Value) (m : Machine) → length ys ≤ k → joint_pairs line xs (drop k ys) m ≡ Ok ([], m)
joint_ended line k xs ys m h = nothing_beside line xs (drop k ys) m (drop_all k ys h)
