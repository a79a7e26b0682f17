use Rattle.lx_regions.proofs.Doubling.{rounded_is}
use Rattle.lx_regions.proofs.spots.rounded_size.Goals as goal

pub returns : goal.returns
returns c =
    rounded_is c.args.size _ c.requires c.next_power_of_two.ensures.power
    (rw c.max.ensures at c.next_power_of_two.ensures.lower_bound) (rw c.max.ensures at c.next_power_of_two.ensures.upper_bound)
