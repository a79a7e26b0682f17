-- Names of a running `__init__`, and what they stand for.
use Rattle.std.specs.Prelude.{◌≡◌, ℕ, zero, suc, Bool, true, false, List, [], ◌∷◌, ◌++◌, slice_get, Option, Some, None, option_map, if◌then◌else◌}
use Rattle.std.specs.Str.{bytes_eq}
use Rattle.lx_text.specs.declared.faults.Kind.TheVariants as kind
use Rattle.lx_state.specs.declared.values.Value.{Value}
use Rattle.lx_state.specs.declared.values.Value.TheVariants as value
use Rattle.lx_state.specs.declared.machine.Binding.TheVariants as binding
use Rattle.lx_state.specs.declared.machine.Class.{Class}
use Rattle.lx_state.specs.declared.machine.Frame.{Frame}
use Rattle.lx_state.specs.declared.machine.Machine.{Machine}
use Rattle.lx_state.specs.Builtins.{builtin_of}
use Rattle.lx_state.specs.Naming.{bind_name}
use Rattle.lx_state.specs.Step.{Step, give, or_fault, ◌>>=◌}
use Rattle.lx_names.specs.Tables.{look_up, with_name, without}
use Rattle.lx_state.specs.Work.{name_fits}

-- ---- what a name stands for

abbrev pub or_else : {A : Type 0} → Option A → Option A → Option A
or_else (Some x) other = Some x
or_else None other = other

abbrev pub is_class : Option Class → List ℕ → Bool
is_class (Some c) name = bytes_eq c.name name
is_class None name = false

-- of the first n classes, the last one with this name
unfoldable pub nearest : List Class → List ℕ → ℕ → Option ℕ
nearest classes name zero = None
nearest classes name (suc n) = if is_class (slice_get classes n) name then Some n else nearest classes name n

-- the nearest class above with this name
abbrev pub class_above : Machine → List ℕ → Option ℕ
class_above m name = nearest m.classes name m.frame.class

-- a class above, or a built-in
abbrev pub global : Machine → List ℕ → Option Value
global m name = or_else (option_map value.Class (class_above m name)) (option_map value.Builtin (builtin_of name))

-- a parameter or local, a class above, or a built-in
abbrev pub meaning : Machine → List ℕ → Option Value
meaning m name = or_else (look_up m.frame.locals name) (global m name)

unfoldable pub named : ℕ → List ℕ → Step Value
named line name m = or_fault (meaning m name) line (kind.UnknownName name) m

-- ---- what is bound

unfoldable pub put_local : List ℕ → Value → Step (Unit {0})
put_local name v m = give tt (record m { frame = record m.frame { locals = with_name m.frame.locals name v } })

-- a parameter names nothing
unfoldable pub set_param : ℕ → List ℕ → Value → Step (Unit {0})
set_param line name v = do
  _ ← name_fits line name
  put_local name v

unfoldable pub set_local : ℕ → List ℕ → Value → Step (Unit {0})
set_local line name v = do
  _ ← name_fits line name
  _ ← bind_name binding.Local name v
  put_local name v

-- ---- the names of a comprehension, which live in it alone

-- a local is set aside
unfoldable pub hide : List ℕ → Step (Option Value)
hide name m = give (look_up m.frame.locals name) (record m { frame = record m.frame { locals = without m.frame.locals name } })

-- what was under the name before is there again
unfoldable pub restore : List ℕ → Option Value → Step (Unit {0})
restore name (Some v) m = put_local name v m
restore name None m = give tt (record m { frame = record m.frame { locals = without m.frame.locals name } })

-- ---- the `__init__` of a module

-- the frame of the caller
unfoldable pub enter : Option ℕ → ℕ → Step Frame
enter this class m = give m.frame (record m { frame = record { locals = []; this = this; class = class } })

unfoldable pub leave : Frame → Step (Unit {0})
leave frame m = give tt (record m { frame = frame })
