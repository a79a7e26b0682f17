use Rattle.std.proofs.Common.{◌≡◌, ◌<◌, ◌∙◌, length, arith}
use Rattle.lx_check.proofs.Addresses.{address_is, shown_fits, wider_fits}
use Rattle.lx_check.proofs.Graphing.{has_all, has_more, has_none}
use Rattle.lx_check.proofs.Roles.{read_address}
use Rattle.lx_check.proofs.graph.add_ports.Goals as goal

pub loop-x-init : goal.loop-x-init
loop-x-init c = has_none _ _ c.requires.graph

pub add_address-requires-clause-address : goal.add_address-requires-clause-address
add_address-requires-clause-address c =
    let l : c.loop-x.x < length c.args.design.now.signals = omega (arith, c.loop-x-test.true, c.len-x-end.ensures) in
    let is : c.shown_address.result ≡ read_address c.args.design.now c.loop-x.x = c.shown_address.ensures ∙ address_is c.args.design.now c.loop-x.x c.args.marks.now c.args.readers.now _ _ c.requires.marks c.requires.readers l in
    wider_fits _ _ _ _ c.loop-x.invariant (shown_fits c.args.design.now c.loop-x.x _ c.requires.keeps is)

pub loop-x-preserved : goal.loop-x-preserved
loop-x-preserved c =
    let l : c.loop-x.x < length c.args.design.now.signals = omega (arith, c.loop-x-test.true, c.len-x-end.ensures) in
    let is : c.shown_address.result ≡ read_address c.args.design.now c.loop-x.x = c.shown_address.ensures ∙ address_is c.args.design.now c.loop-x.x c.args.marks.now c.args.readers.now _ _ c.requires.marks c.requires.readers l in
    has_more _ _ _ _ _ l is (shown_fits c.args.design.now c.loop-x.x _ c.requires.keeps is) c.loop-x.invariant c.in_ok-add_address.ensures

pub returns : goal.returns
returns c = has_all _ _ _ c.requires.keeps (omega (arith, c.len-x-end.ensures)) c.loop-x.invariant
