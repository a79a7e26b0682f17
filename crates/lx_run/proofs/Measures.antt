-- How far a run may still go.
use Rattle.std.proofs.Common.{◌<◌, ◌+◌, ◌*◌, ℕ, length}
use Rattle.lx_syntax.specs.declared.forms.Place.{Place}
use Rattle.lx_syntax.specs.declared.forms.Place.TheVariants as place
use Rattle.lx_syntax.specs.declared.forms.Program.{Program}

-- a class that is made goes through all nodes once more
abbrev pub level : Program → ℕ → ℕ
level p levels = levels * (32 * length p.nodes + 32)

-- the node in a place
abbrev pub place_in : Place → ℕ
place_in (place.Name x) = 0
place_in (place.Attribute of x) = of.place
