use Rattle.std.proofs.Common.{Some, ap, sym, ◌∙◌, length}
use Rattle.lx_emission.specs.Emission.{is_net_node}
use Rattle.lx_nets.proofs.Puts.{put_ok}
use Rattle.lx_nets.proofs.Shaped.{slice_bits}
use Rattle.lx_nets.proofs.Written.{no_other, parts_below, memory_there, item_in, unary_is, binary_is, choice_is, cat_is, copies_is, slice_is, word_is}
use Rattle.lx_nets.proofs.exprs.put_node.Goals as goal

pub unreachable-requires : goal.unreachable-requires
unreachable-requires c =
    no_other _ (ap is_net_node (sym c.get.ensures.item) ∙ (rw (← c.sheet.view_is) at c.requires.operator)) (c.sheet.invariant.fit.lowered.exprs _ _ c.get.ensures.item) c.in-Const.is

pub put_cat-requires-clause-places : goal.put_cat-requires-clause-places
put_cat-requires-clause-places c =
    parts_below (length c.args.node.sheet.now.design.exprs) c.args.node.id.place _ c.in-Cat.parts c.as_slice.result.now c.args.node.there c.get.ensures.lower c.in-Cat.is c.as_slice.ensures

pub put_cat-requires-clause-some : goal.put_cat-requires-clause-some
put_cat-requires-clause-some c = rw c.as_slice.ensures (c.sheet.invariant.fit.keeps.arenas.parts _ _ (c.get.ensures.item ∙ ap Some c.in-Cat.is))

pub put_slice-requires-clause-some : goal.put_slice-requires-clause-some
put_slice-requires-clause-some c = (slice_bits _ _ _ _ _ _ c.sheet.invariant.fit.keeps c.get.ensures.item c.in-Slice.is).0

pub put_slice-requires-clause-most : goal.put_slice-requires-clause-most
put_slice-requires-clause-most c = (slice_bits _ _ _ _ _ _ c.sheet.invariant.fit.keeps c.get.ensures.item c.in-Slice.is).1

pub new-memory-requires : goal.new-memory-requires
new-memory-requires c = rw (← c.sheet.view_is) (memory_there _ _ _ _ _ _ c.sheet.invariant.fit.keeps c.get.ensures.item c.in-Fetch.is)

pub returns-in_ok-of-in-Unary : goal.returns-in_ok-of-in-Unary
returns-in_ok-of-in-Unary c =
    put_ok _ _ _ _ _ (unary_is c.args.node.sheet.now _ _ _ _ _ (item_in _ _ _ _ c.sheet.view_is c.get.ensures.item) c.in-Unary.is c.in_ok-of-in-Unary.ensures) c.put_unary.ensures

pub returns-in_ok-right-in-Binary : goal.returns-in_ok-right-in-Binary
returns-in_ok-right-in-Binary c =
    put_ok _ _ _ _ _ (binary_is c.args.node.sheet.now _ _ _ _ _ _ _ (item_in _ _ _ _ c.sheet.view_is c.get.ensures.item) c.in-Binary.is c.in_ok-left-in-Binary.ensures c.in_ok-right-in-Binary.ensures) c.put_binary.ensures

pub returns-in_ok-no-in-Mux : goal.returns-in_ok-no-in-Mux
returns-in_ok-no-in-Mux c =
    put_ok _ _ _ _ _ (choice_is c.args.node.sheet.now _ _ _ _ _ _ _ _ (item_in _ _ _ _ c.sheet.view_is c.get.ensures.item) c.in-Mux.is c.in_ok-cond-in-Mux.ensures c.in_ok-yes-in-Mux.ensures c.in_ok-no-in-Mux.ensures) c.put_choice.ensures

pub returns-in-Cat : goal.returns-in-Cat
returns-in-Cat c = put_ok _ _ _ _ _ (cat_is c.args.node.sheet.now _ _ _ (item_in _ _ _ _ c.sheet.view_is c.get.ensures.item) c.in-Cat.is) (rw c.as_slice.ensures at c.put_cat.ensures)

pub returns-in_ok-of-in-Replicate : goal.returns-in_ok-of-in-Replicate
returns-in_ok-of-in-Replicate c =
    put_ok _ _ _ _ _ (copies_is c.args.node.sheet.now _ _ _ _ _ (item_in _ _ _ _ c.sheet.view_is c.get.ensures.item) c.in-Replicate.is c.in_ok-of-in-Replicate.ensures) c.put_copies.ensures

pub returns-in_ok-of-in-Slice : goal.returns-in_ok-of-in-Slice
returns-in_ok-of-in-Slice c =
    put_ok _ _ _ _ _ (slice_is c.args.node.sheet.now _ _ _ _ _ _ (item_in _ _ _ _ c.sheet.view_is c.get.ensures.item) c.in-Slice.is c.in_ok-of-in-Slice.ensures) c.put_slice.ensures

pub returns-in_ok-at-in-Fetch : goal.returns-in_ok-at-in-Fetch
returns-in_ok-at-in-Fetch c =
    put_ok _ _ _ _ _
    (word_is c.args.node.sheet.now _ _ _ _ _ _ _ (item_in _ _ _ _ c.sheet.view_is c.get.ensures.item) c.in-Fetch.is (rw (c.new-memory.ensures.sheet, c.new-memory.ensures.place) at c.in_ok-name-in-Fetch.ensures) c.in_ok-at-in-Fetch.ensures)
    c.put_word.ensures
