use Rattle.lx_vmeaning.proofs.Bits.{bits_fit}
use Rattle.lx_vmeaning.proofs.Fitting.{views_fit}
use Rattle.lx_vmeaning.proofs.laws.fitting_law.Goals as goal

pub returns : goal.returns
returns c = record { views = views_fit; bits = λ d v e k x f w t le. bits_fit d v e k x f w t le }
