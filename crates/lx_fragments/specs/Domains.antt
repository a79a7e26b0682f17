-- The clock domains of a design, and their resets.
use Rattle.std.specs.Prelude.{ℕ, false, pos, List, [], ◌∷◌, Option, Some, None, if◌then◌else◌}
use Rattle.lx_num.specs.Ints.{unsigned}
use Rattle.lx_fhdl.specs.Keeping.{reset_name}
use Rattle.lx_fhdl.specs.declared.design.Domain.{Domain}
use Rattle.lx_fhdl.specs.declared.design.Signal.{Signal}
use Rattle.lx_fhdl.specs.declared.exprs.SigId.{SigId}
use Rattle.lx_state.specs.declared.machine.DomainState.{DomainState}
use Rattle.lx_state.specs.Step.{Step, give, ◌>>=◌}
use Rattle.lx_objects.specs.Signals.{put_signal}
use Rattle.lx_fragments.specs.declared.domains.Mention.{Mention}

-- the reset of a domain is an input of one bit; no line of the text makes it
abbrev pub reset_signal : List ℕ → Signal
reset_signal name = record { path = reset_name name ∷ []; shape = unsigned 1; reset = pos 0; reset_less = false; by_bus = false; line = 0 }

abbrev pub mention_of : List ℕ × DomainState → Mention
mention_of e = record { name = e.0; reset = e.1.reset }

abbrev pub mention_at : Option (List ℕ × DomainState) → List Mention
mention_at None = []
mention_at (Some e) = mention_of e ∷ []

unfoldable pub some_reset : Mention → Step (Option SigId)
some_reset x = if x.reset then (put_signal 0 (reset_signal x.name) >>= λ id. give (Some id)) else give None

unfoldable pub domain_made : Mention → Step Domain
domain_made x = do
  reset ← some_reset x
  give (record { name = x.name; reset = reset })

-- the domains in order of first mention; their resets are the last signals, in this order
unfoldable pub domains_made : List Mention → Step (List Domain)
domains_made [] = give []
domains_made (x ∷ xs) = do
  made ← domain_made x
  more ← domains_made xs
  give (made ∷ more)
