use Rattle.std.proofs.Common.{◌≡◌, true}
use Rattle.lx_shaped.specs.Making.{target_in}
use Rattle.lx_shaped.proofs.Targets.{whole_width, cat_width, pick_width}
use Rattle.lx_shaped.proofs.shaped.Shaped.target_width.Goals as goal

pub returns-in-Whole : goal.returns-in-Whole
returns-in-Whole c = whole_width c.args.self.now c.args.node.now c.in-Whole.x c.at.result.now c.in-Whole.is (rw (c.design.ensures.is, c.self.view_is) at c.at.ensures)

pub returns-in-Cat : goal.returns-in-Cat
returns-in-Cat c =
    let there : target_in c.args.node.now c.args.self.now ≡ true = search c.requires in
    rw (← c.self.view_is) (cat_width c.self.inside.draft c.self.inside.bits c.args.node.now c.in-Cat.parts c.sum_of_bits.result c.self.invariant.targets (rw (← c.self.view_is) at there) c.in-Cat.is
    (rw (c.as_slice.ensures, c.as_slice-in-Cat.ensures) at c.sum_of_bits.ensures))

pub returns-in-Pick : goal.returns-in-Pick
returns-in-Pick c =
    let there : target_in c.args.node.now c.args.self.now ≡ true = search c.requires in
    rw (← c.self.view_is) (pick_width c.self.inside.draft c.self.inside.bits c.args.node.now c.in-Pick.items c.in-Pick.index c.most_of_bits.result c.self.invariant.targets (rw (← c.self.view_is) at there) c.in-Pick.is
    (rw (c.as_slice-in-Pick.ensures, c.as_slice-in-Pick-2.ensures) at c.most_of_bits.ensures))
