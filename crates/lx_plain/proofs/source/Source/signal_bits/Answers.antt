use Rattle.lx_plain.proofs.Reading.{signal_bits_are}
use Rattle.lx_plain.proofs.source.Source.signal_bits.Goals as goal

pub at-requires : goal.at-requires
at-requires c = rw (← c.self.view_is) at c.requires

pub returns : goal.returns
returns c = rw (← c.self.view_is) (signal_bits_are _ _ _ c.at.ensures)
