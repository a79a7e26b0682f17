-- The modules of a description, as it declares them.
use Rattle.std.specs.Prelude.{ℕ, List, [], map, slice_get, Option, Some, None, if◌then◌else◌}
use Rattle.lx_state.specs.declared.machine.Class.{Class}
use Rattle.lx_state.specs.declared.machine.Machine.{Machine}
use Rattle.lx_state.specs.declared.machine.Module.{Module}
use Rattle.lx_state.specs.declared.machine.Submodule.{Submodule}
use Rattle.lx_description.specs.declared.modules.ModuleDecl.{ModuleDecl}
use Rattle.lx_paths.specs.Paths.{is_top}
use Rattle.lx_describe.specs.Parts.{object_text, parts_of}

-- ---- names

abbrev pub class_text : Option Class → List ℕ
class_text None = []
class_text (Some c) = c.name

-- the name of its object; the top has its class's
abbrev pub module_text : Machine → Option Module → List ℕ
module_text m None = []
module_text m (Some x) = if is_top m x then class_text (slice_get m.classes x.class) else object_text m (slice_get m.objects x.object)

-- ---- modules

abbrev pub module_decl : Machine → List Submodule → Submodule → ModuleDecl
module_decl m all x = record { name = module_text m (slice_get m.modules x.place); named = x.named; parts = parts_of m all x.place (slice_get m.modules x.place) }

abbrev pub module_decls : Machine → List Submodule → List ModuleDecl
module_decls m all = map (module_decl m all) all
