-- Fields that lie in the lowest 64 bits.
use Rattle.std.proofs.Common.{◌≡◌, ℕ, ◌≤◌, Bool, true, false, List, [], Some, None, nat_le, if◌then◌else◌, refl, arith}
use Rattle.lx_description.specs.declared.registers.Field.{Field}
use Rattle.lx_objects.specs.Registers.{fields_end, fitting}

pub none_fit : fields_end [] ≤ 64
unfolding fields_end
none_fit = grind arith

pub fitted : (fs gs : List Field) → fitting fs ≡ Some gs → fields_end gs ≤ 64
fitted fs gs e = grind arith
