-- Steps worked by hand.
use Rattle.std.specs.Prelude.{◌≡◌, ℕ, Bool, true, false, List, [], ◌∷◌, map, codes, pos, Option, Some, None, Result, Ok, Err}
use Rattle.lx_text.specs.declared.faults.Fault.{Fault}
use Rattle.lx_text.specs.declared.faults.LimitKind.TheVariants as limit
use Rattle.lx_text.specs.declared.faults.Kind.TheVariants as kind
use Rattle.lx_fhdl.specs.Drafts.{started}
use Rattle.lx_state.specs.declared.values.Builtin.TheVariants as builtin
use Rattle.lx_state.specs.declared.values.Value.{Value}
use Rattle.lx_state.specs.declared.values.Value.TheVariants as value
use Rattle.lx_state.specs.declared.machine.Binding.{Binding}
use Rattle.lx_state.specs.declared.machine.Binding.TheVariants as binding
use Rattle.lx_state.specs.declared.machine.Class.{Class}
use Rattle.lx_state.specs.declared.machine.Form.TheVariants as form
use Rattle.lx_state.specs.declared.machine.Items.{Items}
use Rattle.lx_state.specs.declared.machine.Leaves.TheVariants as leaves
use Rattle.lx_state.specs.declared.machine.Machine.{Machine}
use Rattle.lx_state.specs.declared.machine.Made.{Made}
use Rattle.lx_state.specs.declared.machine.ModuleKind.TheVariants as bases
use Rattle.lx_state.specs.declared.machine.Object.{Object}
use Rattle.lx_state.specs.declared.machine.What.TheVariants as what
use Rattle.lx_state.specs.Frames.{hide, meaning, restore, set_local, set_param}
use Rattle.lx_state.specs.Lists.{all_leaves, depth_of, list_made, sizes_of}
use Rattle.lx_state.specs.Naming.{bind_name, settle_object}
use Rattle.lx_state.specs.Step.{Step, Outcome, give, ◌>>=◌}
use Rattle.lx_state.specs.Work.{spend}

-- nothing was made
abbrev pub start : Machine
start = record { spent = 0; nodes = 0; classes = []; shaped = started [] []; owners = []; objects = []; modules = []; fsms = []; memories = []; memory_objects = []; words = 0; ports = []; registers = []; fields = []; constants = []; managers = []; sources = []; regions = []; interfaces = []; system = record { base = 0xf0000000; line = 0; regions = []; slaves = []; fixes = []; irqs = []; constants = [] }; texts = []; lists = []; dictionaries = []; made = []; fsm_stmts = []; domains = []; specials = record { fields = []; comb = []; sync = [] }; frame = record { locals = []; this = None; class = 0 } }

-- ---- what is seen of an outcome

abbrev pub seen : {A B : Type 0} → (Machine → B) → Outcome A → Result B Fault
seen f (Ok r) = Ok (f r.1)
seen f (Err e) = Err e

abbrev pub attribute_names : Machine → List (Option (List ℕ))
attribute_names m = map (λ o. o.by_attribute) m.objects

abbrev pub local_names : Machine → List (Option (List ℕ))
local_names m = map (λ o. o.by_local) m.objects

abbrev pub homes : Machine → List (Option ℕ)
homes m = map (λ o. o.home) m.objects

abbrev pub spent : Machine → ℕ
spent m = m.spent

-- ---- machines

abbrev pub object : Object
object = record { what = what.Module 0; line = 1; maker = None; given = None; by_attribute = None; by_local = None; home = None }

abbrev pub items : List Value → ℕ → Items
items values depth = record { values = values; depth = depth; leaves = leaves.Others; size = 0; named = binding.Nowhere }

-- three objects, and `[o0, [o1, o2]]`
abbrev pub nested : Machine
nested = record start { objects = object ∷ object ∷ object ∷ []; lists = items (value.Object 1 ∷ value.Object 2 ∷ []) 1 ∷ items (value.Object 0 ∷ value.List 0 ∷ []) 2 ∷ [] }

-- a list of 64 levels
abbrev pub deep : Machine
deep = record start { lists = items [] 64 ∷ items [] 63 ∷ [] }

abbrev pub a_class : List ℕ → Class
a_class name = record { name = name; kind = bases.Plain; defaults = [] }

-- `A`, `Signal`, `A`; the class at a place runs
abbrev pub classes : ℕ → Machine
classes place = record start { classes = a_class (codes "A") ∷ a_class (codes "Signal") ∷ a_class (codes "A") ∷ []; frame = record { locals = []; this = None; class = place } }

-- a comprehension over one item takes the name of a local
abbrev pub around : List ℕ → Step (Unit {0})
around name = do
  before ← hide name
  _ ← set_local 1 name (value.Int (pos 7))
  restore name before

abbrev pub locals : Machine → List (List ℕ × Value)
locals m = m.frame.locals

abbrev pub a_statement : Bool → Made
a_statement in_state = record { form = form.Else 0 []; line = 1; size = 1; depth = 1; in_state = in_state }

-- a `ClockDomain`, two `MultiReg`s, a module, an FSM, a memory, a port, an event manager, and `[]`; a statement, and one that stands in a state alone
abbrev pub kinds : Machine
kinds = record start {
  objects = record object { what = what.ClockDomain (record { reset = true; bound = false }) } ∷ record object { what = what.MultiReg } ∷ record object { what = what.MultiReg } ∷ object ∷ record object { what = what.Fsm 0 } ∷ record object { what = what.Memory 0 } ∷ record object { what = what.Port 0 } ∷ record object { what = what.Manager 0 } ∷ [];
  lists = record (items [] 1) { leaves = leaves.Nothing } ∷ [];
  made = a_statement false ∷ a_statement true ∷ [];
}

-- What steps do.
pub record AreWorked : Type 0 where
  -- the items of a nested list are named from it
  pub items_are_named : seen attribute_names (bind_name binding.Attribute (codes "a") (value.List 1) nested) ≡ Ok (Some (codes "a_0") ∷ Some (codes "a_1_0") ∷ Some (codes "a_1_1") ∷ [])
  pub tuples_name_nothing : seen attribute_names (bind_name binding.Attribute (codes "a") (value.Tuple 1) nested) ≡ Ok (None ∷ None ∷ None ∷ [])
  -- the first binding of each kind counts
  pub bound_twice : seen local_names ((bind_name binding.Local (codes "a") (value.Object 0) >>= λ _. bind_name binding.Local (codes "b") (value.Object 0)) nested) ≡ Ok (Some (codes "a") ∷ None ∷ None ∷ [])
  pub list_bound_twice : seen local_names ((bind_name binding.Local (codes "a") (value.List 0) >>= λ _. bind_name binding.Local (codes "b") (value.List 1)) nested) ≡ Ok (Some (codes "b_0") ∷ Some (codes "a_0") ∷ Some (codes "a_1") ∷ [])
  pub parameters_name_nothing : seen local_names (set_param 1 (codes "a") (value.Object 0) nested) ≡ Ok (None ∷ None ∷ None ∷ [])
  -- the first module by an attribute of which an object was bound itself is its home
  pub first_home : seen homes ((settle_object 2 0 >>= λ _. settle_object 3 0) nested) ≡ Ok (Some 2 ∷ None ∷ None ∷ [])
  -- a list within a list is a level more
  pub a_level_more : seen (λ m. depth_of m (value.List 2)) (list_made 1 (value.List 1 ∷ value.Int (pos 3) ∷ []) nested) ≡ Ok 3
  pub sixty_four_levels : seen spent (list_made 1 (value.List 1 ∷ []) deep) ≡ Ok 1
  pub too_deep : seen spent (list_made 9 (value.List 0 ∷ []) deep) ≡ Err (record { line = 9; kind = kind.Limit limit.Depth })
  -- what hangs in values is of one kind, or of several
  pub one_kind : all_leaves kinds (value.Object 1 ∷ value.List 0 ∷ value.Object 2 ∷ []) ≡ leaves.Specials
  pub memories_beside_crossings : all_leaves kinds (value.Object 5 ∷ value.Object 1 ∷ value.Object 6 ∷ []) ≡ leaves.Specials
  pub another_kind : all_leaves kinds (value.Tuple 0 ∷ value.Object 0 ∷ []) ≡ leaves.ClockDomains
  pub two_kinds : all_leaves kinds (value.Object 3 ∷ value.Object 1 ∷ []) ≡ leaves.Others
  pub two_kinds_more : all_leaves kinds (value.Object 0 ∷ value.Object 1 ∷ []) ≡ leaves.Others
  pub manager_beside_module : all_leaves kinds (value.Object 3 ∷ value.Object 7 ∷ []) ≡ leaves.Modules
  pub fsm_beside_module : all_leaves kinds (value.Object 3 ∷ value.Object 4 ∷ []) ≡ leaves.Modules
  -- one statement that stands in a state alone is enough
  pub plain_statements : all_leaves kinds (value.Made 0 ∷ value.Tuple 0 ∷ value.Made 0 ∷ []) ≡ leaves.Statements
  pub state_statement_first : all_leaves kinds (value.Made 1 ∷ value.Made 0 ∷ []) ≡ leaves.StateStatements
  pub state_statement_last : all_leaves kinds (value.Made 0 ∷ value.Made 1 ∷ []) ≡ leaves.StateStatements
  pub statement_beside_fsm : all_leaves kinds (value.Made 1 ∷ value.Object 4 ∷ []) ≡ leaves.Others
  pub too_much_work : seen spent (spend 9 1000001 start) ≡ Err (record { line = 9; kind = kind.Limit limit.Work })
  -- of two classes above with one name the nearer one counts, and a class doesn't see itself
  pub first_class : meaning (classes 0) (codes "A") ≡ None
  pub second_class : meaning (classes 2) (codes "A") ≡ Some (value.Class 0)
  pub nearer_class : meaning (classes 3) (codes "A") ≡ Some (value.Class 2)
  -- a class hides a built-in name
  pub built_in : meaning (classes 1) (codes "Signal") ≡ Some (value.Builtin builtin.Signal)
  pub hidden_built_in : meaning (classes 2) (codes "Signal") ≡ Some (value.Class 1)
  -- after a comprehension a local is what it was before, and a name that was none is none
  pub restored : seen locals ((set_local 1 (codes "x") (value.Int (pos 5)) >>= λ _. around (codes "x")) start) ≡ Ok ((codes "x", value.Int (pos 5)) ∷ [])
  pub gone : seen locals (around (codes "x") start) ≡ Ok []
