-- The event managers of a description: each has a source.
use Rattle.std.specs.Prelude.{Bool, true, false, [], ◌∷◌, slice_get, Option, Some, None}
use Rattle.std.specs.List.{find}
use Rattle.lx_text.specs.declared.faults.Kind.TheVariants as kind
use Rattle.lx_state.specs.declared.machine.ManagerState.{ManagerState}
use Rattle.lx_state.specs.Step.{Step, give, fault}
use Rattle.lx_describe.specs.Fsms.{object_line}

abbrev pub has_no_source : ManagerState → Bool
has_no_source x = elim x.sources as (λ _. Bool) [ [] ↦ true | s ∷ ss ↦ false ]

-- one without is told by the line of its call
abbrev pub none_without : Option ManagerState → Step (Unit {0})
none_without None m = give tt m
none_without (Some x) m = fault (object_line (slice_get m.objects x.object)) kind.WrongCount m

-- the first one in order of making, whether it was added or not
unfoldable pub all_have_sources : Step (Unit {0})
all_have_sources m = none_without (find has_no_source m.managers) m
