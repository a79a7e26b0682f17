-- Peripherals are gathered part by part.
use Rattle.std.proofs.Common.{◌≡◌, ℕ, suc, ◌+◌, ◌*◌, ◌<◌, ◌≤◌, List, [], ◌∷◌, ◌++◌, Option, Some, None, length, take, drop, get_or, refl, ap, sym, ◌∙◌, arith, subst, true, false, if◌then◌else◌, length-append, add-one}
use Rattle.std.specs.Prelude.{flat_map, slice_get}
use Rattle.std.proofs.lemmas.List.{append-nil}
use Rattle.std.proofs.lemmas.Grind.{flat_map-append}
use Rattle.lx_fhdl.specs.Keeping.{EachOf}
use Rattle.lx_description.specs.Keeping.{ModulesKeep}
use Rattle.lx_description.specs.declared.modules.Part.{Part}
use Rattle.lx_description.specs.declared.modules.Part.TheVariants as part
use Rattle.lx_description.specs.declared.modules.ModuleDecl.{ModuleDecl}
use Rattle.lx_description.specs.declared.description.Description.{Description}
use Rattle.lx_csr.specs.Places.{words_in}
use Rattle.lx_csr.specs.Collected.{Peripheral, attributes, bank_of, banks_from, named_peripheral, parts_of, part_peripheral, submodule, top_parts}
use Rattle.lx_csr.specs.Gathered.{HaveRoom, IsRoomy, IsSized, gathered_of, with_attributes, with_bank, with_peripherals}
use Rattle.lx_csr.specs.declared.registers.Register.{Register}
use Rattle.lx_csr.specs.declared.gathering.Gathered.{Gathered}
use Rattle.lx_csr.proofs.Counting.{nested_of, roomy, total, total_append}
use Rattle.lx_csr.proofs.Following.{attributes_gathered, gathered_all}
use Rattle.lx_csr.proofs.Lists.{each_left, each_right, split_at, take_at}

-- ---- a step

pub gathered_step : (ms : List ModuleDecl) (parts : List Part) (i : ℕ) (p : Part) → i < length parts → p ≡ get_or parts i p →
    with_peripherals (gathered_of (flat_map (part_peripheral ms) (take i parts))) (part_peripheral ms p)
    ≡ gathered_of (flat_map (part_peripheral ms) (take (i + 1) parts))
gathered_step ms parts i p l same =
    let one : flat_map (part_peripheral ms) (p ∷ []) ≡ part_peripheral ms p = append-nil (part_peripheral ms p) in
    let more : flat_map (part_peripheral ms) (take (suc i) parts) ≡ flat_map (part_peripheral ms) (take i parts) ++ part_peripheral ms p =
    ap (flat_map (part_peripheral ms)) (take_at parts i p l same)
    ∙ (flat_map-append (part_peripheral ms) (take i parts) (p ∷ []) ∙ ap (λ ys. flat_map (part_peripheral ms) (take i parts) ++ ys) one) in
    rw add-one (gathered_all (flat_map (part_peripheral ms) (take i parts)) (part_peripheral ms p) ∙ ap gathered_of (sym more))

-- a submodule with a name is a peripheral
pub module_gathered : (ms : List ModuleDecl) (g : Gathered) (k : ℕ) (m : ModuleDecl) (p : Part) → p ≡ part.Module k → slice_get ms k ≡ Some m → m.named ≡ true →
    with_bank (with_attributes g (attributes ms m.name m)) m.name ≡ with_peripherals g (part_peripheral ms p)
module_gathered ms g k m p is there named =
    let own : part_peripheral ms p ≡ submodule ms m ∷ [] =
    ap (part_peripheral ms) is ∙ (ap (named_peripheral ms) there ∙ ap (λ b. if b then submodule ms m ∷ [] else []) named) in
    ap (λ h. with_bank h m.name) (attributes_gathered g (attributes ms m.name m)) ∙ ap (with_peripherals g) (sym own)

-- ---- room

-- a bank has a register
few_of : (n : ℕ) (name : List ℕ) (rs : List Register) → length (bank_of n name rs) ≤ length rs
few_of n name [] = omega arith
few_of n name (r ∷ rs) = omega arith

few_banks : (n : ℕ) (ps : List Peripheral) → length (banks_from n ps) ≤ total ps
few_banks n [] = omega arith
few_banks n (p ∷ ps) =
    let bs = bank_of n p.name p.registers in
    let both : total (p ∷ ps) ≡ length p.registers + total ps = length-append p.registers (flat_map (λ (q : Peripheral). q.registers) ps) in
    omega (arith, both, few_of n p.name p.registers, few_banks (n + length bs) ps, length-append bs (banks_from (n + length bs) ps))

abbrev HasAddresses : Peripheral → Type 0
HasAddresses p = 4 * words_in p.registers ≤ 64000000

rooms : (ps qs : List Peripheral) → length (banks_from 0 ps) ≤ 1000000 → EachOf HasAddresses qs → HaveRoom (gathered_of ps) qs
rooms ps [] few h = tt
rooms ps (q ∷ qs) few h = (record { banks = few; words = omega (arith, h.0) }, rooms ps qs few h.1)

middle_room : (before here after : List Peripheral) → IsRoomy (before ++ (here ++ after)) → HaveRoom (gathered_of before) here
middle_room before here after room =
    let few : length (banks_from 0 before) ≤ 1000000 = omega (arith, room.registers, total_append before (here ++ after), few_banks 0 before) in
    rooms before here few (each_left HasAddresses here after (each_right HasAddresses before (here ++ after) room.words))

pub room_at : (ms : List ModuleDecl) (parts : List Part) (i : ℕ) (p : Part) → i < length parts → p ≡ get_or parts i p →
    IsRoomy (flat_map (part_peripheral ms) parts) → HaveRoom (gathered_of (flat_map (part_peripheral ms) (take i parts))) (part_peripheral ms p)
room_at ms parts i p l same room =
    let f = part_peripheral ms in
    let all : flat_map f parts ≡ flat_map f (take i parts) ++ (f p ++ flat_map f (drop (suc i) parts)) =
    ap (flat_map f) (split_at parts i p l same) ∙ flat_map-append f (take i parts) (p ∷ drop (suc i) parts) in
    middle_room (flat_map f (take i parts)) (f p) (flat_map f (drop (suc i) parts)) (subst IsRoomy all room)

-- ---- the top

some_sized : (d : Description) → ModulesKeep d → (o : Option ModuleDecl) → slice_get d.modules 0 ≡ o → EachOf IsSized (parts_of o)
some_sized d keep None e = tt
some_sized d keep (Some m) e = ((nested_of d keep).each 0 m e).sized

pub top_sized : (d : Description) → ModulesKeep d → EachOf IsSized (top_parts d)
unfolding top_parts
top_sized d keep = elim d.soc as (λ b. EachOf IsSized (if b then parts_of (slice_get d.modules 0) else [])) [
  | true ↦ some_sized d keep (slice_get d.modules 0) refl
  | false ↦ tt
]

some_roomy : (d : Description) → ModulesKeep d → (o : Option ModuleDecl) → slice_get d.modules 0 ≡ o → IsRoomy (flat_map (part_peripheral d.modules) (parts_of o))
some_roomy d keep None e = record { registers = omega arith; words = tt }
some_roomy d keep (Some m) e = roomy d (nested_of d keep) keep m e

pub top_roomy : (d : Description) → ModulesKeep d → IsRoomy (flat_map (part_peripheral d.modules) (top_parts d))
unfolding top_parts
top_roomy d keep = elim d.soc as (λ b. IsRoomy (flat_map (part_peripheral d.modules) (if b then parts_of (slice_get d.modules 0) else []))) [
  | true ↦ some_roomy d keep (slice_get d.modules 0) refl
  | false ↦ record { registers = omega arith; words = tt }
]
