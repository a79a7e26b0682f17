use Rattle.std.proofs.Common.{◌≡◌, ◌++◌, take, drop}
use Rattle.lx_tables.specs.WordTables.{word_of}
use Rattle.lx_tables.proofs.words.word_in.Given as goal

abbrev pub invariant-loop-i : goal.invariant-loop-i
invariant-loop-i l = word_of l.entry ≡ take l.i l.entry ++ word_of (drop l.i l.entry)
