use Rattle.std.proofs.Common.{◌≡◌, ◌++◌, drop, map, flat_map}
use Rattle.lx_vtext.specs.Printed.{set_text}
use Rattle.lx_vtree.specs.Modules.{set_of}
use Rattle.lx_vprint.proofs.parts.put_words.Given as goal

abbrev pub invariant-loop-word : goal.invariant-loop-word
invariant-loop-word l = l.out ++ flat_map set_text (map set_of (drop l.word-index l.words)) ≡ l.initial.out ++ flat_map set_text (map set_of l.words)
