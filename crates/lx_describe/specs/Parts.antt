-- What a module declares: the registers and constants that its attributes bound first, and the event managers and modules that
-- were added to it, in the order of the attributes; then the modules that were added without a name.
use Rattle.std.specs.Prelude.{ℕ, ◌+◌, nat_eq, List, [], ◌∷◌, ◌++◌, flat_map, map, slice_get, Option, Some, None, if◌then◌else◌}
use Rattle.lx_description.specs.declared.modules.ConstValue.{ConstValue}
use Rattle.lx_description.specs.declared.modules.Part.{Part}
use Rattle.lx_description.specs.declared.modules.Part.TheVariants as part
use Rattle.lx_description.specs.declared.registers.ManagerDecl.{ManagerDecl}
use Rattle.lx_description.specs.declared.registers.RegDecl.{RegDecl}
use Rattle.lx_description.specs.declared.registers.SourceDecl.{SourceDecl}
use Rattle.lx_state.specs.declared.machine.Machine.{Machine}
use Rattle.lx_state.specs.declared.machine.ManagerState.{ManagerState}
use Rattle.lx_state.specs.declared.machine.Module.{Module}
use Rattle.lx_state.specs.declared.machine.Object.{Object}
use Rattle.lx_state.specs.declared.machine.RegisterState.{RegisterState}
use Rattle.lx_state.specs.declared.machine.SourceState.{SourceState}
use Rattle.lx_state.specs.declared.machine.Submodule.{Submodule}
use Rattle.lx_state.specs.declared.machine.What.{What}
use Rattle.lx_state.specs.declared.machine.What.TheVariants as what
use Rattle.lx_paths.specs.Paths.{own_name}
use Rattle.lx_describe.specs.Submodules.{bound_once, is_below, is_place, unnamed_below}

-- ---- registers and constants

-- a register has its object's name
abbrev pub reg_decl : Machine → Object → RegisterState → RegDecl
reg_decl m o r = record r.decl { name = own_name m o }

abbrev pub register_part : Machine → Object → Option RegisterState → List Part
register_part m o None = []
register_part m o (Some r) = part.Reg (reg_decl m o r) ∷ []

abbrev pub constant_part : Machine → Object → Option ConstValue → List Part
constant_part m o None = []
constant_part m o (Some v) = part.Constant (record { name = own_name m o; value = v; line = o.line }) ∷ []

-- ---- event managers

abbrev pub object_text : Machine → Option Object → List ℕ
object_text m None = []
object_text m (Some o) = own_name m o

abbrev pub source_decl : Machine → SourceState → SourceDecl
source_decl m s = record { name = object_text m (slice_get m.objects s.object); kind = s.kind; signals = s.signals }

abbrev pub some_source : Machine → Option SourceState → List SourceDecl
some_source m None = []
some_source m (Some s) = source_decl m s ∷ []

abbrev pub source_at : Machine → ℕ → List SourceDecl
source_at m k = some_source m (slice_get m.sources k)

abbrev pub manager_decl : Machine → Object → ManagerState → ManagerDecl
manager_decl m o x = record { sources = flat_map (source_at m) x.sources; irq = x.irq; enable = x.enable; line = o.line }

-- where it was added to the module at a place
abbrev pub manager_part : Machine → ℕ → Object → Option ManagerState → List Part
manager_part m at o None = []
manager_part m at o (Some x) = if is_below at (slice_get m.modules x.«module») then part.Manager (own_name m o) (manager_decl m o x) ∷ [] else []

-- ---- modules

-- how many stand before the module at a place
abbrev pub place_among : List Submodule → ℕ → ℕ
place_among [] at = 0
place_among (x ∷ xs) at = if nat_eq x.place at then 0 else place_among xs at + 1

abbrev pub module_part : Machine → List Submodule → ℕ → ℕ → List Part
module_part m all at k = if is_below at (slice_get m.modules k) then part.Module (place_among all k) ∷ [] else []

abbrev pub part_of : List Submodule → Submodule → Part
part_of all x = part.Module (place_among all x.place)

-- ---- all of them

-- what an object is that an attribute of the module at a place binds; a register and a constant stand in their home
abbrev pub part_of_what : Machine → List Submodule → ℕ → Object → What → List Part
part_of_what m all at o (what.Register k) = if is_place at o.home then register_part m o (slice_get m.registers k) else []
part_of_what m all at o (what.Constant k) = if is_place at o.home then constant_part m o (slice_get m.constants k) else []
part_of_what m all at o (what.Manager k) = manager_part m at o (slice_get m.managers k)
part_of_what m all at o (what.Module k) = module_part m all at k
part_of_what m all at o _ = []

abbrev pub some_part : Machine → List Submodule → ℕ → Option Object → List Part
some_part m all at None = []
some_part m all at (Some o) = part_of_what m all at o o.what

abbrev pub part_at : Machine → List Submodule → ℕ → ℕ → List Part
part_at m all at object = some_part m all at (slice_get m.objects object)

-- the parts of the module at a place, where these are all modules in their order
abbrev pub parts_of : Machine → List Submodule → ℕ → Option Module → List Part
parts_of m all at None = []
parts_of m all at (Some x) = flat_map (part_at m all at) (bound_once x) ++ map (part_of all) (unnamed_below m x)
