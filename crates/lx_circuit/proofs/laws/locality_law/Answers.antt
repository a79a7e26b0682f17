use Rattle.lx_circuit.proofs.BlockLocality.{block_alike}
use Rattle.lx_circuit.proofs.Locality.{term_same}
use Rattle.lx_circuit.proofs.laws.locality_law.Goals as goal

pub returns : goal.returns
returns c = record { terms = term_same; blocks = block_alike }
