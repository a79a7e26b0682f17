use Rattle.std.proofs.Common.{◌≡◌, ◌++◌, drop}
use Rattle.lx_state.specs.Step.{go_on, give}
use Rattle.lx_fragments.specs.Domains.{domains_made}
use Rattle.lx_fragments.proofs.domains.domains_made.Given as goal

abbrev pub invariant-loop-mention : goal.invariant-loop-mention
invariant-loop-mention l = go_on (domains_made (drop l.mention-index l.mentions) l.machine) (λ xs. give (l.domains ++ xs)) ≡ domains_made l.mentions l.initial.machine
