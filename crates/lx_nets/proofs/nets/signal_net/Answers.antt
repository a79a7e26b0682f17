use Rattle.lx_nets.proofs.Driven.{net_is}
use Rattle.lx_nets.proofs.nets.signal_net.Goals as goal

pub returns : goal.returns
returns c = net_is _ _ _ _ _ _ _ c.shape-shape.ensures.is c.in_ok-name.ensures c.init.ensures c.drive.ensures.drive
