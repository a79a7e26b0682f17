use Rattle.lx_fsm.proofs.source.Source.stmt.Goals as goal

pub get-requires : goal.get-requires
get-requires c = rw (← c.self.view_is) at c.requires

pub returns : goal.returns
returns c = rw (← c.self.view_is) (record { item = c.get.ensures.item; below = c.get.ensures.lower })
