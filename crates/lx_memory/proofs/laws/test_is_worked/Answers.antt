use Rattle.std.proofs.Common.{refl}
use Rattle.lx_memory.proofs.laws.test_is_worked.Goals as goal

pub returns : goal.returns
returns c = record { apart = refl; twice = refl; silent = refl; driven = refl }
