use Rattle.lx_num.proofs.Machine.{wraps_to_itself}
use Rattle.lx_num.proofs.fits.Goals as goal

pub returns : goal.returns
returns c = wraps_to_itself c.args.s.bits c.args.s.signed c.args.v c.wrap.result c.requires.some c.ranges.v (record { sfits = c.wrap.type_inv }) c.wrap.ensures
