use Rattle.std.proofs.Common.{◌∙◌, Some, ap}
use Rattle.lx_fhdl.proofs.Operators.{not_wide}
use Rattle.lx_fhdl.proofs.Arena.{operand_fits, places_within, replicate_small}
use Rattle.lx_fhdl.proofs.eval.value.Goals as goal

pub constant-requires : goal.constant-requires
constant-requires c = (c.requires.node _ (c.get.ensures.item ∙ ap Some c.in-Const.is)).sound

pub signal_of-requires : goal.signal_of-requires
signal_of-requires c = (c.requires.node _ (c.get.ensures.item ∙ ap Some c.in-Sig.is)).signal.2

pub unary-requires-clause-small : goal.unary-requires-clause-small
unary-requires-clause-small c = rw c.shape_of.ensures (c.requires.children _ (c.get.ensures.item ∙ ap Some c.in-Unary.is)).small

pub unary-requires-clause-sound : goal.unary-requires-clause-sound
unary-requires-clause-sound c = rw c.shape_of.ensures (not_wide _ (c.requires.node _ (c.get.ensures.item ∙ ap Some c.in-Unary.is)).sound)

pub unary-requires-clause-fits : goal.unary-requires-clause-fits
unary-requires-clause-fits c = operand_fits _ _ _ c.shape_of.result c.value_of.result c.shape_of.ensures c.value_of.ensures (record { sfits = c.value_of.type_inv }) (c.requires.children _ (c.get.ensures.item ∙ ap Some c.in-Unary.is))

pub binary-requires-clause-left_small : goal.binary-requires-clause-left_small
binary-requires-clause-left_small c = rw c.shape_of-in-Binary.ensures (c.requires.children _ (c.get.ensures.item ∙ ap Some c.in-Binary.is)).0.small

pub binary-requires-clause-right_small : goal.binary-requires-clause-right_small
binary-requires-clause-right_small c = rw c.shape_of-in-Binary-2.ensures (c.requires.children _ (c.get.ensures.item ∙ ap Some c.in-Binary.is)).1.small

pub binary-requires-clause-sound : goal.binary-requires-clause-sound
binary-requires-clause-sound c = rw (c.shape_of-in-Binary.ensures, c.shape_of-in-Binary-2.ensures) (c.requires.node _ (c.get.ensures.item ∙ ap Some c.in-Binary.is)).sound

pub binary-requires-clause-left : goal.binary-requires-clause-left
binary-requires-clause-left c = operand_fits _ _ _ c.shape_of-in-Binary.result c.value_of-in-Binary.result c.shape_of-in-Binary.ensures c.value_of-in-Binary.ensures (record { sfits = c.value_of-in-Binary.type_inv }) (c.requires.children _ (c.get.ensures.item ∙ ap Some c.in-Binary.is)).0

pub binary-requires-clause-right : goal.binary-requires-clause-right
binary-requires-clause-right c = operand_fits _ _ _ c.shape_of-in-Binary-2.result c.value_of-in-Binary-2.result c.shape_of-in-Binary-2.ensures c.value_of-in-Binary-2.ensures (record { sfits = c.value_of-in-Binary-2.type_inv }) (c.requires.children _ (c.get.ensures.item ∙ ap Some c.in-Binary.is)).1

pub cat-requires-clause-known : goal.cat-requires-clause-known
cat-requires-clause-known c = rw c.as_slice.ensures (c.requires.children _ (c.get.ensures.item ∙ ap Some c.in-Cat.is))

pub cat-requires-clause-narrow : goal.cat-requires-clause-narrow
cat-requires-clause-narrow c = rw c.as_slice.ensures (not_wide _ (c.requires.node _ (c.get.ensures.item ∙ ap Some c.in-Cat.is)).sound)

pub pick-requires-clause-some : goal.pick-requires-clause-some
pick-requires-clause-some c = rw c.as_slice-in-Pick.ensures (c.requires.node _ (c.get.ensures.item ∙ ap Some c.in-Pick.is)).parts

pub pick-requires-clause-within : goal.pick-requires-clause-within
pick-requires-clause-within c = rw c.as_slice-in-Pick.ensures (places_within _ _ _ (c.requires.children _ (c.get.ensures.item ∙ ap Some c.in-Pick.is)).0)

pub replicate-requires-clause-small : goal.replicate-requires-clause-small
replicate-requires-clause-small c = rw c.shape_of-in-Replicate.ensures (c.requires.children _ (c.get.ensures.item ∙ ap Some c.in-Replicate.is)).small

pub replicate-requires-clause-narrow : goal.replicate-requires-clause-narrow
replicate-requires-clause-narrow c = rw c.shape_of-in-Replicate.ensures (replicate_small _ _ (c.requires.children _ (c.get.ensures.item ∙ ap Some c.in-Replicate.is)).small (c.requires.node _ (c.get.ensures.item ∙ ap Some c.in-Replicate.is)).sound).1

pub slice-requires-clause-small : goal.slice-requires-clause-small
slice-requires-clause-small c = rw c.shape_of-in-Slice.ensures (c.requires.children _ (c.get.ensures.item ∙ ap Some c.in-Slice.is)).small

pub slice-requires-clause-sound : goal.slice-requires-clause-sound
slice-requires-clause-sound c = rw c.shape_of-in-Slice.ensures (c.requires.node _ (c.get.ensures.item ∙ ap Some c.in-Slice.is)).sound

pub shape_of-requires-in-Unary : goal.shape_of-requires-in-Unary
shape_of-requires-in-Unary c = (c.requires.children _ (c.get.ensures.item ∙ ap Some c.in-Unary.is)).has_shape

pub value_of-requires : goal.value_of-requires
value_of-requires c = (c.requires.children _ (c.get.ensures.item ∙ ap Some c.in-Unary.is)).has_value

pub shape_of-requires-in-Binary : goal.shape_of-requires-in-Binary
shape_of-requires-in-Binary c = (c.requires.children _ (c.get.ensures.item ∙ ap Some c.in-Binary.is)).0.has_shape

pub shape_of-requires-in-Binary-2 : goal.shape_of-requires-in-Binary-2
shape_of-requires-in-Binary-2 c = (c.requires.children _ (c.get.ensures.item ∙ ap Some c.in-Binary.is)).1.has_shape

pub value_of-requires-in-Binary : goal.value_of-requires-in-Binary
value_of-requires-in-Binary c = (c.requires.children _ (c.get.ensures.item ∙ ap Some c.in-Binary.is)).0.has_value

pub value_of-requires-in-Binary-2 : goal.value_of-requires-in-Binary-2
value_of-requires-in-Binary-2 c = (c.requires.children _ (c.get.ensures.item ∙ ap Some c.in-Binary.is)).1.has_value

pub value_of-requires-in-Mux : goal.value_of-requires-in-Mux
value_of-requires-in-Mux c = (c.requires.children _ (c.get.ensures.item ∙ ap Some c.in-Mux.is)).0.has_value

pub value_of-requires-in-Mux-2 : goal.value_of-requires-in-Mux-2
value_of-requires-in-Mux-2 c = (c.requires.children _ (c.get.ensures.item ∙ ap Some c.in-Mux.is)).1.0.has_value

pub value_of-requires-in-Mux-3 : goal.value_of-requires-in-Mux-3
value_of-requires-in-Mux-3 c = (c.requires.children _ (c.get.ensures.item ∙ ap Some c.in-Mux.is)).1.1.has_value

pub value_of-requires-in-Pick : goal.value_of-requires-in-Pick
value_of-requires-in-Pick c = (c.requires.children _ (c.get.ensures.item ∙ ap Some c.in-Pick.is)).1.has_value

pub shape_of-requires-in-Replicate : goal.shape_of-requires-in-Replicate
shape_of-requires-in-Replicate c = (c.requires.children _ (c.get.ensures.item ∙ ap Some c.in-Replicate.is)).has_shape

pub value_of-requires-in-Replicate : goal.value_of-requires-in-Replicate
value_of-requires-in-Replicate c = (c.requires.children _ (c.get.ensures.item ∙ ap Some c.in-Replicate.is)).has_value

pub shape_of-requires-in-Slice : goal.shape_of-requires-in-Slice
shape_of-requires-in-Slice c = (c.requires.children _ (c.get.ensures.item ∙ ap Some c.in-Slice.is)).has_shape

pub value_of-requires-in-Slice : goal.value_of-requires-in-Slice
value_of-requires-in-Slice c = (c.requires.children _ (c.get.ensures.item ∙ ap Some c.in-Slice.is)).has_value

pub unreachable-requires : goal.unreachable-requires
unreachable-requires c = let h = (c.requires.node _ (c.get.ensures.item ∙ ap Some c.in-Fetch.is)).no_fetch in cc
