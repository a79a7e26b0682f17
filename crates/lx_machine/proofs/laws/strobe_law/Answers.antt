use Rattle.lx_machine.proofs.Strobes.{storage_strobe, status_strobe}
use Rattle.lx_machine.proofs.laws.strobe_law.Goals as goal

pub returns : goal.returns
returns c = record { storage = storage_strobe; status = status_strobe }
