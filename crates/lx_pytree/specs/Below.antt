-- Parts whose nodes stand below a place.
use Rattle.std.specs.Prelude.{ℕ, Bool, true, List, [], ◌∷◌, ◌&&◌, nat_lt}
use Rattle.lx_pytree.specs.declared.tree.PyPart.{PyPart}
use Rattle.lx_pytree.specs.declared.tree.PyPart.TheVariants as part

abbrev pub part_below : ℕ → PyPart → Bool
part_below n (part.Token x) = true
part_below n (part.Node id) = nat_lt id.place n

unfoldable pub parts_below : ℕ → List PyPart → Bool
parts_below n [] = true
parts_below n (p ∷ ps) = part_below n p && parts_below n ps
