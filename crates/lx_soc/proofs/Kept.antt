-- What the description of a system gives for its survey.
use Rattle.std.proofs.Common.{◌≡◌, ℕ, Bool, true, false, List, [], ◌∷◌, length, map, refl, ap, sym, subst, inl, inr, ◌∙◌}
use Rattle.std.specs.Prelude.{Err, slice_get, IsSomeAnd, ◌⊎◌, flat_map, if◌then◌else◌}
use Rattle.std.specs.List.{list_all}
use Rattle.lx_text.specs.declared.faults.Refusal.{Refusal}
use Rattle.lx_text.specs.declared.faults.Refusal.TheVariants as refusal
use Rattle.lx_fhdl.specs.Keeping.{EachOf}
use Rattle.lx_fhdl.specs.declared.design.Design.{Design}
use Rattle.lx_fhdl.specs.declared.places.BankWish.{BankWish}
use Rattle.lx_fhdl.specs.declared.places.Fix.{Fix}
use Rattle.lx_fhdl.specs.declared.places.Placement.{Placement}
use Rattle.lx_fhdl.specs.declared.places.RegionWish.{RegionWish}
use Rattle.lx_fhdl.specs.declared.places.Wishes.{Wishes}
use Rattle.lx_description.specs.Keeping.{IsFirstRegion, IsRegion, KeepsDescription, RegionsStand, TopKeeps, has_name}
use Rattle.lx_description.specs.declared.modules.ConstDecl.{ConstDecl}
use Rattle.lx_description.specs.declared.slaves.SlaveDecl.{SlaveDecl}
use Rattle.lx_description.specs.declared.description.Description.{Description}
use Rattle.lx_alloc.specs.Answer as alloc
use Rattle.lx_alloc.specs.Numbers.{number_of}
use Rattle.lx_alloc.specs.Judged.{Refused}
use Rattle.lx_alloc.specs.Places.{AreSized}
use Rattle.lx_csr.specs.Collected.{banks, banks_from, constants, managers, part_peripheral, parts_of, top_parts}
use Rattle.lx_csr.specs.Faults.{faults}
use Rattle.lx_csr.specs.Mapped.{IsHoused, map_of, wishes_of}
use Rattle.lx_csr.specs.declared.registers.Bank.{Bank}
use Rattle.lx_csr.specs.declared.registers.Register.{Register}
use Rattle.lx_soc.specs.Surveyed.{Surveys, wishes, with_banks}
use Rattle.lx_soc.specs.Told.{AreTold, are_constants, are_registers}
use Rattle.lx_soc.proofs.Told.{all_constants_told, bank_words, map_told}
use Rattle.lx_soc.proofs.Placing.{all_numbers_told, all_regions_told, are_sized, irq_words}

-- ---- the wishes of a description

regions_of : (d : Description) (t : Bool) → TopKeeps d t → EachOf IsRegion d.wishes.regions
regions_of d true h = h.regions
regions_of d false h = subst (λ ws. EachOf IsRegion ws) (sym h.regions) tt

irqs_of : (d : Description) (t : Bool) → TopKeeps d t → list_all has_name d.wishes.irqs ≡ true
irqs_of d true h = h.irqs
irqs_of d false h = ap (list_all has_name) h.irqs

first_of : (d : Design) (ws : List RegionWish) (ss : List SlaveDecl) → RegionsStand d ws ss → IsSomeAnd (slice_get ws 0) IsFirstRegion
first_of d [] ss h = absurd h
first_of d (w ∷ ws) ss h = h.0

no_banks : (d : Description) → d.soc ≡ false → length (banks d) ≡ 0
unfolding top_parts
no_banks d is = ap (λ t. length (banks_from 0 (flat_map (part_peripheral d.modules) (if t then parts_of (slice_get d.modules 0) else [])))) is

housing : (d : Description) (t : Bool) → d.soc ≡ t → TopKeeps d t → (length (banks d) ≡ 0) ⊎ IsSomeAnd (slice_get d.wishes.regions 0) IsFirstRegion
housing d true is h = inr (first_of d.design d.wishes.regions d.slaves h.slaves)
housing d false is h = inl (no_banks d is)

pub sized : (d : Description) → KeepsDescription d → AreSized d.wishes.regions
sized d keep = are_sized d.wishes.regions (regions_of d d.soc keep.top)

-- the wishes of a description, whose banks and managers are these
pub same_wishes : (d : Description) (w : Wishes) (bs : List Bank) (ws : List BankWish) (ms : List (List ℕ)) → w ≡ d.wishes → bs ≡ banks d → ws ≡ wishes_of bs → ms ≡ managers d →
    with_banks w ws ms ≡ wishes d
same_wishes d w bs ws ms own e f g = rw (own, f, e, g)

-- ---- faults

pub collect_fails : (d : Description) (e : Refusal) → Refused (faults d) e → Surveys d (Err e)
collect_fails d (refusal.Fault f) h = inl h
collect_fails d refusal.NoMemory h = tt

pub place_fails : (d : Description) (w : Wishes) (e : Refusal) → faults d ≡ [] → w ≡ wishes d → alloc.Answers w (Err e) → Surveys d (Err e)
place_fails d w (refusal.Fault f) none same h = inr (none, subst (λ v. alloc.IsFault v f) same h)
place_fails d w refusal.NoMemory none same h = tt

-- ---- a placement of these wishes

pub is_housed : (d : Description) (p : Placement) → KeepsDescription d → alloc.IsPlacement (wishes d) p → IsHoused (banks d) p
is_housed d p keep placed = record { wishes = wishes d; banks = refl; region = housing d d.soc refl keep.top; placement = placed }

-- a placement of these wishes is one of the description's
pub placed_for : (d : Description) (w : Wishes) (bs : List Bank) (ws : List BankWish) (ms : List (List ℕ)) (p : Placement) → w ≡ d.wishes → bs ≡ banks d → ws ≡ wishes_of bs → ms ≡ managers d →
    alloc.IsPlacement (with_banks w ws ms) p → alloc.IsPlacement (wishes d) p
placed_for d w bs ws ms p own e f g h = subst (λ v. alloc.IsPlacement v p) (same_wishes d w bs ws ms own e f g) h

pub system_keeps : (d : Description) (bs : List Bank) (rs : List Register) (p : Placement) (cs : List ConstDecl) → KeepsDescription d → alloc.IsPlacement (wishes d) p →
    bs ≡ banks d → rs ≡ map_of bs p → cs ≡ constants d → AreTold rs p cs
system_keeps d bs rs p cs keep placed eb em ec =
    let names = map (λ (b : BankWish). b.name) (wishes_of (banks d)) in
    let numbers = map (λ (b : BankWish). number_of d.wishes.fixes b.name) (wishes_of (banks d)) in
    record {
      registers = subst (λ xs. are_registers xs ≡ true) (sym (em ∙ ap (λ xs. map_of xs p) eb)) (map_told d p keep.modules);
      regions = all_regions_told d.wishes.regions p.regions (regions_of d d.soc keep.top) placed.regions;
      banks = all_numbers_told names numbers p.banks (bank_words d keep.modules) placed.banks;
      interrupts =
          all_numbers_told (map (λ (f : Fix). f.name) d.wishes.irqs) (map (λ (f : Fix). f.number) d.wishes.irqs) p.irqs
          (irq_words d.wishes.irqs (irqs_of d d.soc keep.top)) placed.irqs;
      numbers = subst (λ xs. are_constants xs ≡ true) (sym ec) (all_constants_told d keep.modules keep.constants);
    }
