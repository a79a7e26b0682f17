use Rattle.lx_machine.proofs.Others.{others_kept, reads_kept, ram_kept}
use Rattle.lx_machine.proofs.laws.others_law.Goals as goal

pub returns : goal.returns
returns c = record { storages = others_kept; reads = reads_kept; ram = ram_kept }
