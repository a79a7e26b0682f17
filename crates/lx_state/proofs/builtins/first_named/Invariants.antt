use Rattle.std.proofs.Common.{◌≡◌, drop}
use Rattle.lx_state.specs.Builtins.{first_named}
use Rattle.lx_state.proofs.builtins.first_named.Given as goal

abbrev pub invariant-loop-builtin : goal.invariant-loop-builtin
invariant-loop-builtin l = first_named l.name (drop l.builtin-index l.builtins) ≡ first_named l.name l.builtins
