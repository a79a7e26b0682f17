use Rattle.lx_kept.proofs.Deeper.{list_told}
use Rattle.lx_kept.proofs.depths.Depths.list_stands.Goals as goal

pub returns : goal.returns
returns c =
    let inside = rw c.self.view_is at c.self.invariant in
    rw (c.deepest.ensures, c.as_slice.ensures) (list_told c.args.self.now _ c.args.ids.now inside (cc))
