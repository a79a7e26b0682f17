-- The statements of the modules that were added to the top or below, in the order of the design.
use Rattle.std.specs.Prelude.{ℕ, zero, suc, List, [], ◌∷◌, ◌++◌, slice_get, Option, Some, None}
use Rattle.lx_fhdl.specs.declared.design.SyncPart.{SyncPart}
use Rattle.lx_state.specs.declared.machine.Module.{Module}
use Rattle.lx_state.specs.declared.machine.Specials.{Specials}
use Rattle.lx_state.specs.declared.machine.Submodule.{Submodule}
use Rattle.lx_state.specs.declared.machine.SyncItem.{SyncItem}
use Rattle.lx_state.specs.Step.{Step, give, reads, ◌>>=◌}
use Rattle.lx_fragments.specs.Laying.{lay, lay_out}
use Rattle.lx_fragments.specs.declared.fragments.Fragments.{Fragments}

-- ---- the modules

unfoldable pub all_under : (ℕ → List ℕ) → List Submodule → List ℕ
all_under f [] = []
all_under f (x ∷ xs) = f x.place ++ all_under f xs

abbrev pub submodules_of : Option Module → List Submodule
submodules_of None = []
submodules_of (Some x) = x.submodules

-- a module, then its submodules in the order of adding, each followed by its own, within so many levels
unfoldable pub under : List Module → ℕ → ℕ → List ℕ
under modules zero at = []
under modules (suc levels) at = at ∷ all_under (under modules levels) (submodules_of (slice_get modules at))

-- ---- their statements

abbrev pub comb_of : Option Module → List ℕ
comb_of None = []
comb_of (Some x) = x.comb

unfoldable pub all_comb : List Module → List ℕ → List ℕ
all_comb modules [] = []
all_comb modules (at ∷ ats) = comb_of (slice_get modules at) ++ all_comb modules ats

abbrev pub sync_of : Option Module → List SyncItem
sync_of None = []
sync_of (Some x) = x.sync

unfoldable pub all_sync : List Module → List ℕ → List SyncItem
all_sync modules [] = []
all_sync modules (at ∷ ats) = sync_of (slice_get modules at) ++ all_sync modules ats

-- each statement of a clock domain is a part by itself
unfoldable pub lay_parts : List SyncItem → Step (List SyncPart)
lay_parts [] = give []
lay_parts (item ∷ items) = do
  id ← lay 64 0 item.made
  parts ← lay_parts items
  give (record { domain = item.domain; stmts = id ∷ [] } ∷ parts)

-- the combinatorial statements of what takes part once it is made, those of registers' fields first
abbrev pub first_comb : Specials → List ℕ
first_comb s = s.fields ++ s.comb

-- the statements of what takes part once it is made, then the fragment of a module with those of all modules below it; no
-- chain of modules is longer than 64, and what stands for an FSM or an event manager may stand below
unfoldable pub fragments_of : ℕ → Step Fragments
fragments_of top = do
  places ← reads (λ m. under m.modules 65 top)
  made ← reads (λ m. first_comb m.specials ++ all_comb m.modules places)
  items ← reads (λ m. m.specials.sync ++ all_sync m.modules places)
  comb ← lay_out made
  sync ← lay_parts items
  give (record { comb = comb; sync = sync })
