use Rattle.std.proofs.Common.{◌≡◌, map, take}
use Rattle.lx_grammar.specs.Signs.{item_of}
use Rattle.lx_grammar.proofs.sign.signed.Given as goal

abbrev pub invariant-loop-token : goal.invariant-loop-token
invariant-loop-token l = l.items ≡ map (item_of l.src) (take l.token-index l.tokens)
