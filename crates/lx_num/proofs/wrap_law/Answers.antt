use Rattle.lx_num.proofs.Ranges.{FitsBits-wrap_bits, modulo-wrap_bits, wrap_bits_only}
use Rattle.lx_num.proofs.wrap_law.Goals as goal

pub returns-clause-fits : goal.returns-clause-fits
returns-clause-fits c = λ s z h. FitsBits-wrap_bits s.bits s.signed z h

pub returns-clause-congruent : goal.returns-clause-congruent
returns-clause-congruent c = λ s z h. modulo-wrap_bits s.bits s.signed z

pub returns-clause-unique : goal.returns-clause-unique
returns-clause-unique c = λ s z y h f e. wrap_bits_only s.bits s.signed z y h f e
