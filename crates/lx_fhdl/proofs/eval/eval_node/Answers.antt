use Rattle.lx_arena.proofs.Places.{node_there}
use Rattle.lx_fhdl.proofs.Arena.{children_known, given_fits}
use Rattle.lx_fhdl.proofs.eval.eval_node.Goals as goal

pub value-requires-clause-node : goal.value-requires-clause-node
value-requires-clause-node g c = λ x e. c.requires.shaped.each _ x e

pub value-requires-clause-children : goal.value-requires-clause-children
value-requires-clause-children g c =
    λ x e. children_known c.args.exprs.now c.args.shapes.now c.args.vals.now c.args.known.now c.lower.ensures c.requires.shaped c.requires.long c.args.id.place x c.requires.place e (c.requires.children x e)

pub returns-clause-fits : goal.returns-clause-fits
returns-clause-fits g c =
    let (x, e) = node_there c.args.exprs.now c.args.id.place c.requires.place in
    given_fits c.args.shapes.now c.args.vals.now c.args.known.now c.args.id.place x c.value.result (c.requires.shaped.each c.args.id.place x e)
    (children_known c.args.exprs.now c.args.shapes.now c.args.vals.now c.args.known.now c.lower.ensures c.requires.shaped c.requires.long c.args.id.place x c.requires.place e (c.requires.children x e))
    (record { sfits = c.value.type_inv }) (c.value.ensures x e)
