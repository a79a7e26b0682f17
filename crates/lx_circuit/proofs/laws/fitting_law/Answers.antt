use Rattle.lx_circuit.proofs.Fitting.{view_fits}
use Rattle.lx_circuit.proofs.laws.fitting_law.Goals as goal

pub returns : goal.returns
returns c = view_fits
