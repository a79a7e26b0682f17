-- Attributes while they are walked.
use Rattle.std.specs.Prelude.{◌≡◌, ℕ, List, [], ◌∷◌, ◌++◌, Option, Some, None, ◌+◌, ◌*◌, ◌<◌, drop, flat_map, length, slice_get, if◌then◌else◌}
use Rattle.lx_fhdl.specs.Keeping.{EachOf}
use Rattle.lx_description.specs.Keeping.{submodules}
use Rattle.lx_description.specs.declared.modules.Part.{Part}
use Rattle.lx_description.specs.declared.modules.Part.TheVariants as part
use Rattle.lx_description.specs.declared.modules.ModuleDecl.{ModuleDecl}
use Rattle.lx_csr.specs.Names.{joined}
use Rattle.lx_csr.specs.Collected.{Attribute, attribute_of, attributes, below, parts_of, registers_of}
use Rattle.lx_csr.specs.Gathered.{HasRoom, IsSized, with_attributes}
use Rattle.lx_csr.specs.declared.gathering.Gathered.{Gathered}
use Rattle.lx_csr.specs.declared.walking.Frame.{Frame}

-- the module at this place stands before its submodules, and its parts are sized
pub record IsNested (ms : List ModuleDecl) (k : ℕ) (m : ModuleDecl) : Type 0 where
  pub later : EachOf (λ j. (k < j) × (j < length ms)) (submodules m)
  pub sized : EachOf IsSized m.parts

pub record AreNested (ms : List ModuleDecl) : Type 0 where
  pub each : (k : ℕ) (m : ModuleDecl) → slice_get ms k ≡ Some m → IsNested ms k m

-- an attribute, and behind it what it holds
abbrev pub part_attributes : List ModuleDecl → List ℕ → Part → List Attribute
part_attributes ms owner p = attribute_of owner p ∷ below (attributes ms) ms owner p

-- what is left of a module
abbrev pub frame_attributes : List ModuleDecl → Frame → List Attribute
frame_attributes ms f = flat_map (part_attributes ms f.name) (drop f.next (parts_of (slice_get ms f.place)))

-- what is left of all, that of the last first
abbrev pub pending : List ModuleDecl → List Frame → List Attribute
pending ms [] = []
pending ms (f ∷ fs) = pending ms fs ++ frame_attributes ms f

abbrev pub named_frames : List ℕ → ℕ → Option ModuleDecl → List Frame
named_frames owner k (Some m) = if m.named then record { place = k; name = joined owner m.name; next = 0 } ∷ [] else []
named_frames owner k None = []

abbrev pub below_frames : List ModuleDecl → List ℕ → Part → List Frame
below_frames ms owner (part.Module k) = named_frames owner k (slice_get ms k)
below_frames ms owner _ = []

abbrev pub IsFrame : List ModuleDecl → Frame → Type 0
IsFrame ms f = f.place < length ms

-- how much is left
abbrev pub left : List ModuleDecl → List Frame → ℕ
left ms fs = 2 * length (pending ms fs) + length fs

-- a step on: what is gathered with what is left stays, and less is left
pub record WentOn (ms : List ModuleDecl) (old new : Gathered) (before after : List Frame) : Type 0 where
  pub same : with_attributes new (pending ms after) ≡ with_attributes old (pending ms before)
  pub room : HasRoom new (registers_of (pending ms after))
  pub frames : EachOf (IsFrame ms) after
  pub less : left ms after < left ms before
