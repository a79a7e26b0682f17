-- Clock domains: where they are mentioned, and what declares them.
use Rattle.std.specs.Prelude.{ℕ, Bool, true, false, if◌then◌else◌, List, length, drop, nat_eq, codes, slice_get, Option, Some, None}
use Rattle.std.specs.List.{starts_with}
use Rattle.lx_text.specs.declared.faults.LimitKind.TheVariants as limit
use Rattle.lx_text.specs.declared.faults.Kind.TheVariants as kind
use Rattle.lx_fhdl.specs.Keeping.{is_identifier}
use Rattle.lx_names.specs.Tables.{look_up, place_of, with_name}
use Rattle.lx_state.specs.declared.machine.ClockDomain.{ClockDomain}
use Rattle.lx_state.specs.declared.machine.DomainState.{DomainState}
use Rattle.lx_state.specs.declared.machine.Object.{Object}
use Rattle.lx_state.specs.declared.machine.What.{What}
use Rattle.lx_state.specs.declared.machine.What.TheVariants as what
use Rattle.lx_state.specs.declared.values.Value.{Value}
use Rattle.lx_state.specs.declared.values.Value.TheVariants as value
use Rattle.lx_state.specs.Naming.{object_made, turn_object}
use Rattle.lx_state.specs.Step.{Step, give, fault, ◌>>=◌}
use Rattle.lx_state.specs.Work.{one_more}

-- ---- mentions

-- a domain that wasn't mentioned before; it has a reset until it is declared without one
unfoldable pub new_domain : ℕ → List ℕ → Step ℕ
new_domain line name m = (do
  _ ← one_more line limit.Domains (length m.domains)
  λ n. give (length m.domains) (record n { domains = with_name n.domains name (record { declared = false; reset = true }) })) m

abbrev pub place_among : Option ℕ → ℕ → List ℕ → Step ℕ
place_among (Some place) line name = give place
place_among None line name = new_domain line name

-- the place of a domain, which is mentioned by this
unfoldable pub mention : ℕ → List ℕ → Step ℕ
mention line name m = place_among (place_of m.domains name) line name m

-- ---- declarations

-- `ClockDomain(..)`, which declares nothing yet
unfoldable pub clock_domain_made : ℕ → Bool → Step Value
clock_domain_made line reset = do
  object ← object_made (what.ClockDomain (record { reset = reset; bound = false })) line None
  give (value.Object object)

-- the first declaration of a domain decides
abbrev pub declared_with : Bool → Option DomainState → DomainState
declared_with reset None = record { declared = true; reset = reset }
declared_with reset (Some d) = if d.declared then d else record { declared = true; reset = reset }

unfoldable pub note_domain : List ℕ → Bool → Step (Unit {0})
note_domain name reset m = give tt (record m { domains = with_name m.domains name (declared_with reset (look_up m.domains name)) })

-- a domain is declared, which mentions it
unfoldable pub declare : ℕ → List ℕ → Bool → Step (Unit {0})
declare line name reset = do
  _ ← mention line name
  note_domain name reset

unfoldable pub declare_named : ℕ → List ℕ → Bool → Step (Unit {0})
declare_named line name reset m = if is_identifier name then declare line name reset m else fault line kind.BadKey m

-- the name of an attribute without the prefix `cd_`
abbrev pub domain_name : List ℕ → List ℕ
domain_name name = if starts_with nat_eq name (codes "cd_") then drop 3 name else name

-- a `ClockDomain` to which no attribute was bound yet
abbrev pub unbound : What → Option ClockDomain
unbound (what.ClockDomain d) = if d.bound then None else Some d
unbound _ = None

abbrev pub unbound_there : Option Object → Option ClockDomain
unbound_there None = None
unbound_there (Some o) = unbound o.what

abbrev pub bound_now : ClockDomain → What
bound_now d = what.ClockDomain (record d { bound = true })

abbrev pub declare_some : ℕ → List ℕ → ℕ → Option ClockDomain → Step (Unit {0})
declare_some line name at None m = give tt m
declare_some line name at (Some d) m = (do
  _ ← turn_object (bound_now d) at
  declare_named line (domain_name name) d.reset) m

-- An attribute is bound to a value: a `ClockDomain` declares a domain by the first one.
unfoldable pub declare_bound : ℕ → List ℕ → Value → Step (Unit {0})
declare_bound line name (value.Object at) m = declare_some line name at (unbound_there (slice_get m.objects at)) m
declare_bound line name _ m = give tt m
