use Rattle.std.proofs.Common.{sym, ◌∙◌}
use Rattle.lx_shaped.proofs.Calls.{memory_made, memory_misplaced}
use Rattle.lx_shaped.proofs.Growing.{sizes_memory}
use Rattle.lx_fhdl.proofs.Kept.{is_memory-is}
use Rattle.lx_shaped.proofs.shaped.Shaped.memory.Goals as goal

pub returns-then-not-is_memory-clause-ok : goal.returns-then-not-is_memory-clause-ok
returns-then-not-is_memory-clause-ok c = memory_misplaced c.args.memory c.args.self.now (sym c.is_memory.ensures ∙ c.if-not-is_memory.true)

pub push_memory-requires : goal.push_memory-requires
push_memory-requires c = is_memory-is c.args.memory (sym c.is_memory.ensures ∙ c.if-not-is_memory.false)

pub invariant_of-self-2 : goal.invariant_of-self-2
invariant_of-self-2 c = sizes_memory c.self.inside.draft c.push_memory.new.self c.args.memory c.in_ok-place.place c.self.inside.shapes c.self.inside.bits c.self.invariant c.in_ok-place.ensures.ok

pub returns-clause-ok : goal.returns-clause-ok
returns-clause-ok c =
    rw (← c.self.view_is) (memory_made c.args.memory c.self.inside.draft c.push_memory.new.self c.in_ok-place.place (sym c.is_memory.ensures ∙ c.if-not-is_memory.false) c.in_ok-place.ensures.ok)
