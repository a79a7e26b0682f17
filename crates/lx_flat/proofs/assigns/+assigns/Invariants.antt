use Rattle.std.proofs.Common.{◌+◌, ◌*◌, drop}
use Rattle.lx_fhdl.specs.Designs.{shapes, target, term}
use Rattle.lx_fhdl.specs.Stmts.{targets_at}
use Rattle.lx_lowering.specs.Flat.{items_assigns, parts_assigns}
use Rattle.lx_plain.specs.Lines.{targets_lines, under_each}
use Rattle.lx_flat.specs.Puts.{items_lines}
use Rattle.lx_plain.specs.Operands.{HasShape}
use Rattle.lx_plain.specs.Owned.{PutSome}
use Rattle.lx_flat.proofs.assigns.+assigns.Given as goal

abbrev pub decreases-put_assigns : goal.decreases-put_assigns
decreases-put_assigns l = 2 * l.target.id.place + 1

abbrev pub decreases-put_parts : goal.decreases-put_parts
decreases-put_parts l = 2 * l.parts.bound

abbrev pub decreases-put_pick : goal.decreases-put_pick
decreases-put_pick l = 2 * l.items.bound

abbrev pub invariant-put_parts-loop-number : goal.invariant-put_parts-loop-number
invariant-put_parts-loop-number l =
    PutSome l.initial.draft l.draft l.initial.out l.out
    (parts_assigns (shapes l.parts.source.now.design) (targets_at (target l.parts.source.now.design) l.parts.ids.now) (term l.initial.draft l.initial.value.id.place))
    (parts_assigns (shapes l.parts.source.now.design) (targets_at (target l.parts.source.now.design) (drop l.number l.parts.ids.now)) (term l.draft l.value.id.place))
    (targets_lines (targets_at (target l.parts.source.now.design) l.parts.ids.now) l.line)
    (targets_lines (targets_at (target l.parts.source.now.design) (drop l.number l.parts.ids.now)) l.line)
    × HasShape l.draft l.value

abbrev pub invariant-put_pick-loop-number : goal.invariant-put_pick-loop-number
invariant-put_pick-loop-number l =
    PutSome l.initial.draft l.draft l.initial.out l.out
    (items_assigns (shapes l.items.source.now.design) 0 (targets_at (target l.items.source.now.design) l.items.ids.now) (term l.initial.draft l.index.id.place) (term l.initial.draft l.value.id.place))
    (items_assigns (shapes l.items.source.now.design) l.number (targets_at (target l.items.source.now.design) (drop l.number l.items.ids.now)) (term l.initial.draft l.index.id.place) (term l.initial.draft l.value.id.place))
    (items_lines (targets_at (target l.items.source.now.design) l.items.ids.now) l.line)
    (under_each l.line (targets_lines (targets_at (target l.items.source.now.design) (drop l.number l.items.ids.now)) l.line))
