use Rattle.std.proofs.Common.{◌≡◌, ◌++◌, [], drop}
use Rattle.lx_value.specs.Seen.{are_new}
use Rattle.lx_value.proofs.arguments.given_names.Given as goal

abbrev pub invariant-loop-key : goal.invariant-loop-key
invariant-loop-key l = record {
  rest : are_new [] l.keys ≡ are_new l.given (drop l.key-index l.keys);
  names : l.given ++ drop l.key-index l.keys ≡ l.keys;
}
