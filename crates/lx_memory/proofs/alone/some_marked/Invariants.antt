use Rattle.std.proofs.Common.{◌≡◌, false, take}
use Rattle.std.specs.Prelude.{slice_index_or}
use Rattle.std.specs.List.{list_any}
use Rattle.lx_reads.specs.declared.net.Driven.{Driven}
use Rattle.lx_memory.proofs.alone.some_marked.Given as goal

abbrev pub invariant-loop-one : goal.invariant-loop-one
invariant-loop-one l = list_any (λ (a : Driven). slice_index_or l.marks a.signal false) (take l.one-index l.driven) ≡ false
