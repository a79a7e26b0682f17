-- Names that loops and comprehensions bind.
use Rattle.std.specs.Prelude.{◌≡◌, ℕ, ◌+◌, nat_eq, List, [], ◌∷◌, ◌++◌, length, Option, Some, None, if◌then◌else◌}
use Rattle.lx_text.specs.declared.faults.Kind.TheVariants as kind
use Rattle.lx_state.specs.declared.values.Value.{Value}
use Rattle.lx_state.specs.declared.machine.Machine.{Machine}
use Rattle.lx_state.specs.Frames.{hide, restore, set_local}
use Rattle.lx_state.specs.Lists.{items_of}
use Rattle.lx_state.specs.Step.{Step, give, fault, ◌>>=◌}
use Rattle.lx_run.specs.declared.loops.Hidden.{Hidden}

-- each name to its value
unfoldable pub names_set : ℕ → List (List ℕ) → List Value → Step (Unit {0})
names_set line (name ∷ names) (v ∷ vs) = do
  _ ← set_local line name v
  names_set line names vs
names_set line _ _ = give tt

unfoldable pub items_bound : ℕ → List (List ℕ) → Value → Step (Unit {0})
items_bound line names v = do
  items ← items_of line v
  if nat_eq (length items) (length names) then names_set line names items else fault line kind.WrongCount

-- one name to the item; several to the items of a list or a tuple, of which there are as many
unfoldable pub names_bound : ℕ → List (List ℕ) → Value → Step (Unit {0})
names_bound line (name ∷ []) v = set_local line name v
names_bound line names v = items_bound line names v

-- ---- the names of a comprehension

-- a name, with what was under it before
unfoldable pub name_hidden : List ℕ → Step Hidden
name_hidden name = do
  before ← hide name
  give (record { name = name; before = before })

unfoldable pub names_hidden : List (List ℕ) → Step (List Hidden)
names_hidden [] = give []
names_hidden (name ∷ names) = do
  hidden ← name_hidden name
  others ← names_hidden names
  give (hidden ∷ others)

-- what was under them is there again, the last one first
unfoldable pub names_restored : List Hidden → Step (Unit {0})
names_restored [] = give tt
names_restored (h ∷ hs) = do
  _ ← names_restored hs
  restore h.name h.before
