-- The faults of collecting a system's registers, in their order.
use Rattle.std.specs.Prelude.{◌≡◌, ℕ, Bool, true, false, List, [], ◌∷◌, ◌++◌, Result, Ok, Err, ◌+◌, nat_lt, flat_map, if◌then◌else◌}
use Rattle.std.specs.List.{list_any}
use Rattle.std.specs.Str.{bytes_eq}
use Rattle.lx_text.specs.declared.faults.Fault.{Fault}
use Rattle.lx_text.specs.declared.faults.Kind.TheVariants as fault
use Rattle.lx_text.specs.declared.faults.Refusal.{Refusal}
use Rattle.lx_alloc.specs.Judged.{Refused, each_pair, told}
use Rattle.lx_description.specs.declared.registers.Field.{Field}
use Rattle.lx_description.specs.declared.modules.Part.{Part}
use Rattle.lx_description.specs.declared.modules.Part.TheVariants as part
use Rattle.lx_description.specs.declared.description.Description.{Description}
use Rattle.lx_csr.specs.CWords.{c_words}
use Rattle.lx_csr.specs.Names.{bare}
use Rattle.lx_csr.specs.Collected.{banks, top_parts}
use Rattle.lx_csr.specs.Defined.{header_names, wish_names}
use Rattle.lx_csr.specs.declared.registers.Register.{Register}
use Rattle.lx_csr.specs.declared.registers.Bank.{Bank}
use Rattle.lx_csr.specs.declared.names.Defined.{Defined}

-- a register in the top itself
abbrev pub top_faults : Part → List Fault
top_faults (part.Reg r) = told true r.line (fault.TopRegister (bare r.name))
top_faults _ = []

abbrev pub is_among : List ℕ → List (List ℕ) → Bool
is_among name names = list_any (bytes_eq name) names

abbrev pub name_fault : List (List ℕ) → Defined → List Fault
name_fault before x = told (is_among x.text before) x.line (fault.NameTaken x.text)

-- names in their order, where these are taken first: each that is taken too
abbrev pub taken_faults : List (List ℕ) → List Defined → List Fault
taken_faults before [] = []
taken_faults before (x ∷ xs) = name_fault before x ++ taken_faults (before ++ x.text ∷ []) xs

-- of the headers the words of C are
abbrev pub taken_first : Bool → List (List ℕ)
taken_first true = c_words
taken_first false = []

-- Two names of the headers are one, or one is a word of C; or a bank is wished twice. An interrupt that is wished
-- twice defines its name twice.
abbrev pub name_faults : Description → List Fault
name_faults d = taken_faults (taken_first true) (header_names d) ++ taken_faults (taken_first false) (wish_names d)

-- a field begins before the end of an earlier one
abbrev pub field_faults : Field → Field → List Fault
field_faults later earlier =
    told (nat_lt later.offset (earlier.offset + earlier.size)) later.line (fault.FieldOverlap earlier.name later.name)

abbrev pub register_faults : Register → List Fault
register_faults r = each_pair field_faults [] r.fields

abbrev pub bank_faults : Bank → List Fault
bank_faults b = flat_map register_faults b.registers

-- All faults of a system's registers; a top that is no system has none.
abbrev pub faults : Description → List Fault
faults d =
    if d.soc
    then flat_map top_faults (top_parts d) ++ (name_faults d ++ flat_map bank_faults (banks d))
    else []

-- the registers, where there is no fault, or the first fault; or memory runs out
abbrev pub Collects : Description → Result (List Bank) Refusal → Type 0
Collects d (Ok bs) = (faults d ≡ []) × (bs ≡ banks d)
Collects d (Err e) = Refused (faults d) e
