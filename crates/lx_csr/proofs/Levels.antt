-- The attributes of a module, level by level: more levels than modules change nothing.
use Rattle.std.proofs.Common.{◌≡◌, ℕ, zero, suc, ◌+◌, ◌<◌, ◌≤◌, List, [], ◌∷◌, ◌++◌, Option, Some, None, length, refl, arith, true, false, Bool, if◌then◌else◌}
use Rattle.std.proofs.Math.Path.{ap₂}
use Rattle.std.specs.Prelude.{flat_map, slice_get}
use Rattle.std.proofs.lemmas.Option.{slice_get_within}
use Rattle.lx_fhdl.specs.Keeping.{EachOf}
use Rattle.lx_description.specs.Keeping.{submodule}
use Rattle.lx_description.specs.declared.modules.Part.{Part}
use Rattle.lx_description.specs.declared.modules.Part.TheVariants as part
use Rattle.lx_description.specs.declared.modules.ModuleDecl.{ModuleDecl}
use Rattle.lx_csr.specs.Names.{joined}
use Rattle.lx_csr.specs.Collected.{Attribute, attribute_of, attributes, attributes_within, below, named_attributes}
use Rattle.lx_csr.specs.Walked.{AreNested, part_attributes}
use Rattle.lx_csr.proofs.Lists.{each_left, each_right}

-- a submodule behind the module k, of so many
abbrev IsLater : ℕ → ℕ → ℕ → Type 0
IsLater k n j = (k < j) × (j < n)

named_same : (f g : List ℕ → ModuleDecl → List Attribute) (owner : List ℕ) (m : ModuleDecl) (b : Bool) (name : List ℕ) →
    f name m ≡ g name m → (if b then f name m else []) ≡ (if b then g name m else [])
named_same f g owner m true name e = e
named_same f g owner m false name e = refl

some_same : (ms : List ModuleDecl) (f g : List ℕ → ModuleDecl → List Attribute) (owner : List ℕ) (o : Option ModuleDecl) →
    ((m : ModuleDecl) → o ≡ Some m → (name : List ℕ) → f name m ≡ g name m) → named_attributes f owner o ≡ named_attributes g owner o
some_same ms f g owner None e = refl
some_same ms f g owner (Some m) e = named_same f g owner m m.named (joined owner m.name) (e m refl (joined owner m.name))

-- what a part holds is the same, where it is so for submodules
below_same : (ms : List ModuleDecl) (k : ℕ) (f g : List ℕ → ModuleDecl → List Attribute) (owner : List ℕ) (p : Part) →
    EachOf (IsLater k (length ms)) (submodule p) →
    ((j : ℕ) (m : ModuleDecl) → k < j → slice_get ms j ≡ Some m → (name : List ℕ) → f name m ≡ g name m) →
    below f ms owner p ≡ below g ms owner p
below_same ms k f g owner (part.Module j) later e = some_same ms f g owner (slice_get ms j) (λ m is. e j m later.0.0 is)
below_same ms k f g owner (part.Reg r) later e = refl
below_same ms k f g owner (part.Constant c) later e = refl
below_same ms k f g owner (part.Manager name m) later e = refl

pub parts_same : (ms : List ModuleDecl) (k : ℕ) (f g : List ℕ → ModuleDecl → List Attribute) (owner : List ℕ) (ps : List Part) →
    EachOf (IsLater k (length ms)) (flat_map submodule ps) →
    ((j : ℕ) (m : ModuleDecl) → k < j → slice_get ms j ≡ Some m → (name : List ℕ) → f name m ≡ g name m) →
    flat_map (λ p. attribute_of owner p ∷ below f ms owner p) ps ≡ flat_map (λ p. attribute_of owner p ∷ below g ms owner p) ps
parts_same ms k f g owner [] later e = refl
parts_same ms k f g owner (p ∷ ps) later e =
    let here = below_same ms k f g owner p (each_left (IsLater k (length ms)) (submodule p) (flat_map submodule ps) later) e in
    let rest = parts_same ms k f g owner ps (each_right (IsLater k (length ms)) (submodule p) (flat_map submodule ps) later) e in
    ap₂ (λ xs ys. attribute_of owner p ∷ (xs ++ ys)) here rest

-- one level more is the same from there on
pub one_more : (ms : List ModuleDecl) → AreNested ms → (n k : ℕ) (m : ModuleDecl) (name : List ℕ) → slice_get ms k ≡ Some m → length ms ≤ n + k →
    attributes_within ms n name m ≡ attributes_within ms (suc n) name m
one_more ms nested zero k m name is enough = absurd (omega (arith, slice_get_within ms k m is))
one_more ms nested (suc n) k m name is enough =
    parts_same ms k (attributes_within ms n) (attributes_within ms (suc n)) name m.parts (nested.each k m is).later
    (λ j m2 l is2 name2. one_more ms nested n j m2 name2 is2 (omega arith))

-- The attributes of a module: each of its own, and behind it what it holds.
pub attributes_are : (ms : List ModuleDecl) → AreNested ms → (k : ℕ) (m : ModuleDecl) (name : List ℕ) → slice_get ms k ≡ Some m →
    attributes ms name m ≡ flat_map (part_attributes ms name) m.parts
attributes_are ms nested k m name is = one_more ms nested (length ms) k m name is (omega arith)
