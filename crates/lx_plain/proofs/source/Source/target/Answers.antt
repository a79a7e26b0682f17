use Rattle.lx_fhdl.proofs.Drafts.{target_is}
use Rattle.lx_plain.proofs.Reading.{target_most}
use Rattle.lx_plain.proofs.source.Source.target.Goals as goal

pub get-requires : goal.get-requires
get-requires c = rw (← c.self.view_is) at c.requires

pub returns : goal.returns
returns c =
    let arenas = c.self.invariant.keeps.arenas in
    rw (← c.self.view_is) (record {
      below = c.get.ensures.lower;
      stands = arenas.targets _ _ c.get.ensures.item;
      tree = target_is c.self.inside.design.now _ _ arenas.targets_lower c.get.ensures.item;
      most = target_most c.self.inside.design.now _ _ c.self.invariant.keeps c.get.ensures.item;
    })
