-- The files that a build stores.
use Rattle.std.specs.Prelude.{ℕ, List, [], ◌∷◌, codes}
use Rattle.lx_outside.specs.declared.calls.Pair.{Pair}
use Rattle.lx_outside.specs.Calls.{pair}
use Rattle.lx_fhdl.specs.declared.places.Placement.{Placement}
use Rattle.lx_description.specs.declared.modules.ConstDecl.{ConstDecl}
use Rattle.lx_csr.specs.declared.registers.Register.{Register}
use Rattle.lx_export.specs.Csv.{csv_text}
use Rattle.lx_export.specs.Json.{json_text}
use Rattle.lx_export.specs.Ld.{ld_text}

-- what a build stores, in order: the circuit's text, and what tells software of its registers, places and constants
abbrev pub build_files : List ℕ → List Register → Placement → List ConstDecl → List Pair
build_files text rs p cs =
    pair (codes "top.v") text ∷ pair (codes "csr.csv") (csv_text rs p cs) ∷ pair (codes "csr.json") (json_text rs p cs)
    ∷ pair (codes "regions.ld") (ld_text p) ∷ []

-- no places
abbrev pub nowhere : Placement
nowhere = record { regions = []; banks = []; irqs = [] }

-- what it stores of a circuit without a bus
abbrev pub module_files : List ℕ → List Pair
module_files text = build_files text [] nowhere []
