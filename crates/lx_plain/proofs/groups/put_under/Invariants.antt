use Rattle.lx_fhdl.specs.Designs.{term}
use Rattle.lx_plain.proofs.Under.{UnderSome}
use Rattle.lx_plain.proofs.groups.put_under.Given as goal

abbrev pub invariant-loop-group : goal.invariant-loop-group
invariant-loop-group l = UnderSome l.fn.draft l.draft l.fn.out l.out (term l.fn.draft l.cond.place) l.then_ l.else_ l.line l.group-items l.group-index
