use Rattle.lx_emission.specs.Instance.{stored, stored_names}
use Rattle.lx_emission.proofs.Instances.{stored_can}
use Rattle.lx_write.proofs.Written.{written_from_emitted}
use Rattle.lx_write.proofs.laws.stored_law.Goals as goal

pub returns : goal.returns
returns c = written_from_emitted stored stored_names stored_can
