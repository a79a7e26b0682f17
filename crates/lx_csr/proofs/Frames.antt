-- Steps of the walk over attributes.
use Rattle.std.proofs.Common.{◌≡◌, ℕ, ◌+◌, ◌≤◌, List, [], ◌∷◌, ◌++◌, Option, Some, None, length, drop, refl, ap, sym, ◌∙◌, arith, true, false, append_assoc, length-append, if◌then◌else◌, subst}
use Rattle.std.proofs.Math.Path.{ap₂}
use Rattle.std.specs.Prelude.{flat_map, slice_get}
use Rattle.std.proofs.lemmas.List.{append-nil}
use Rattle.std.proofs.lemmas.Option.{slice_get_within}
use Rattle.lx_fhdl.specs.Keeping.{EachOf}
use Rattle.lx_description.specs.declared.modules.Part.{Part}
use Rattle.lx_description.specs.declared.modules.Part.TheVariants as part
use Rattle.lx_description.specs.declared.modules.ModuleDecl.{ModuleDecl}
use Rattle.lx_csr.specs.Names.{joined}
use Rattle.lx_csr.specs.Collected.{Attribute, attribute_of, attributes, below, named_attributes, parts_of, part_registers, registers_of}
use Rattle.lx_csr.specs.Gathered.{HasRoom, with_attributes, with_part}
use Rattle.lx_csr.specs.Walked.{AreNested, IsFrame, WentOn, below_frames, frame_attributes, named_frames, part_attributes, pending}
use Rattle.lx_csr.specs.declared.gathering.Gathered.{Gathered}
use Rattle.lx_csr.specs.declared.walking.Frame.{Frame}
use Rattle.lx_csr.proofs.Following.{words_in_append}
use Rattle.lx_csr.proofs.Levels.{attributes_are}
use Rattle.lx_csr.proofs.Lists.{drop_at, drop_past, each_both, each_left, each_right}

-- ---- what is left

pub pending_push : (ms : List ModuleDecl) (fs : List Frame) (f : Frame) → pending ms (fs ++ f ∷ []) ≡ frame_attributes ms f ++ pending ms fs
pending_push ms [] f = sym (append-nil (frame_attributes ms f))
pending_push ms (x ∷ fs) f =
    ap (λ ys. ys ++ frame_attributes ms x) (pending_push ms fs f) ∙ append_assoc (frame_attributes ms f) (pending ms fs) (frame_attributes ms x)

-- a submodule before its first attribute
abbrev entered : List ℕ → ℕ → ModuleDecl → Frame
entered owner k m = record { place = k; name = joined owner m.name; next = 0 }

named_pending : (ms : List ModuleDecl) → AreNested ms → (owner : List ℕ) (k : ℕ) (o : Option ModuleDecl) → slice_get ms k ≡ o →
    pending ms (named_frames owner k o) ≡ named_attributes (attributes ms) owner o
named_pending ms nested owner k None e = refl
named_pending ms nested owner k (Some m) e = elim m.named as (λ b. pending ms (if b then entered owner k m ∷ [] else []) ≡ (if b then attributes ms (joined owner m.name) m else [])) [
  | true ↦ ap (λ o. flat_map (part_attributes ms (joined owner m.name)) (parts_of o)) e ∙ sym (attributes_are ms nested k m (joined owner m.name) e)
  | false ↦ refl
]

pub below_pending : (ms : List ModuleDecl) → AreNested ms → (owner : List ℕ) (p : Part) →
    pending ms (below_frames ms owner p) ≡ below (attributes ms) ms owner p
below_pending ms nested owner (part.Module k) = named_pending ms nested owner k (slice_get ms k) refl
below_pending ms nested owner (part.Reg r) = refl
below_pending ms nested owner (part.Constant c) = refl
below_pending ms nested owner (part.Manager name m) = refl

pending_append : (ms : List ModuleDecl) (fs gs : List Frame) → pending ms (fs ++ gs) ≡ pending ms gs ++ pending ms fs
pending_append ms [] gs = sym (append-nil (pending ms gs))
pending_append ms (x ∷ fs) gs =
    ap (λ ys. ys ++ frame_attributes ms x) (pending_append ms fs gs) ∙ append_assoc (pending ms gs) (pending ms fs) (frame_attributes ms x)

abbrev advanced : Frame → Frame
advanced f = record f { next = f.next + 1 }

frame_next : (ms : List ModuleDecl) (f : Frame) (m : ModuleDecl) (p : Part) → slice_get ms f.place ≡ Some m → slice_get m.parts f.next ≡ Some p →
    frame_attributes ms f ≡ part_attributes ms f.name p ++ frame_attributes ms (advanced f)
frame_next ms f m p is at =
    let own : parts_of (slice_get ms f.place) ≡ m.parts = ap parts_of is in
    let here = ap (drop f.next) own ∙ drop_at m.parts f.next p at in
    let there = ap (drop (f.next + 1)) own in
    ap (flat_map (part_attributes ms f.name)) here ∙ ap (λ ys. part_attributes ms f.name p ++ flat_map (part_attributes ms f.name) ys) (sym there)

-- the attribute that comes next, and what is left after it
pub pending_next : (ms : List ModuleDecl) → AreNested ms → (fs : List Frame) (f : Frame) (m : ModuleDecl) (p : Part) →
    slice_get ms f.place ≡ Some m → slice_get m.parts f.next ≡ Some p →
    pending ms (fs ++ f ∷ []) ≡ attribute_of f.name p ∷ pending ms ((fs ++ advanced f ∷ []) ++ below_frames ms f.name p)
pending_next ms nested fs f m p is at =
    let down = pending_append ms (fs ++ advanced f ∷ []) (below_frames ms f.name p) in
    let up = ap₂ (λ xs ys. xs ++ ys) (below_pending ms nested f.name p) (pending_push ms fs (advanced f)) in
    let before = pending_push ms fs f ∙ ap (λ ys. ys ++ pending ms fs) (frame_next ms f m p is at) in
    let all = append_assoc (below (attributes ms) ms f.name p) (frame_attributes ms (advanced f)) (pending ms fs) in
    before ∙ ap (λ ys. attribute_of f.name p ∷ ys) (all ∙ sym (down ∙ up))

pub pending_done : (ms : List ModuleDecl) (fs : List Frame) (f : Frame) (m : ModuleDecl) → slice_get ms f.place ≡ Some m → length m.parts ≤ f.next →
    pending ms (fs ++ f ∷ []) ≡ pending ms fs
pending_done ms fs f m is past =
    let own = ap (drop f.next) (ap parts_of is) ∙ drop_past m.parts f.next past in
    pending_push ms fs f ∙ ap (λ ys. flat_map (part_attributes ms f.name) ys ++ pending ms fs) own

-- ---- steps

frames_named : (ms : List ModuleDecl) (owner : List ℕ) (k : ℕ) (o : Option ModuleDecl) → slice_get ms k ≡ o → EachOf (IsFrame ms) (named_frames owner k o)
frames_named ms owner k None e = tt
frames_named ms owner k (Some m) e = elim m.named as (λ b. EachOf (IsFrame ms) (if b then entered owner k m ∷ [] else [])) [
  | true ↦ (slice_get_within ms k m e, tt)
  | false ↦ tt
]

frames_below : (ms : List ModuleDecl) (owner : List ℕ) (p : Part) → EachOf (IsFrame ms) (below_frames ms owner p)
frames_below ms owner (part.Module k) = frames_named ms owner k (slice_get ms k) refl
frames_below ms owner (part.Reg r) = tt
frames_below ms owner (part.Constant c) = tt
frames_below ms owner (part.Manager name m) = tt

few_named : (owner : List ℕ) (k : ℕ) (o : Option ModuleDecl) → length (named_frames owner k o) ≤ 1
few_named owner k None = omega arith
few_named owner k (Some m) = elim m.named as (λ b. length (if b then entered owner k m ∷ [] else []) ≤ 1) [
  | true ↦ omega arith
  | false ↦ omega arith
]

few_below : (ms : List ModuleDecl) (owner : List ℕ) (p : Part) → length (below_frames ms owner p) ≤ 1
few_below ms owner (part.Module k) = few_named owner k (slice_get ms k)
few_below ms owner (part.Reg r) = omega arith
few_below ms owner (part.Constant c) = omega arith
few_below ms owner (part.Manager name m) = omega arith

-- room for an attribute's registers and those of the rest is room for each
pub room_here : (g : Gathered) (x : Attribute) (xs : List Attribute) → HasRoom g (registers_of (x ∷ xs)) → HasRoom g (part_registers x.owner x.part)
room_here g x xs h = record { banks = h.banks; words = omega (arith, h.words, words_in_append (part_registers x.owner x.part) (registers_of xs)) }

room_rest : (g : Gathered) (x : Attribute) (xs : List Attribute) → HasRoom g (registers_of (x ∷ xs)) → HasRoom (with_part g x.owner x.part) (registers_of xs)
room_rest g x xs h = record { banks = h.banks; words = omega (arith, h.words, words_in_append (part_registers x.owner x.part) (registers_of xs)) }

pub room_next : (ms : List ModuleDecl) → AreNested ms → (g : Gathered) (fs : List Frame) (f : Frame) (m : ModuleDecl) (p : Part) (owner : List ℕ) → owner ≡ f.name →
    HasRoom g (registers_of (pending ms (fs ++ f ∷ []))) → slice_get ms f.place ≡ Some m → slice_get m.parts f.next ≡ Some p → HasRoom g (part_registers owner p)
room_next ms nested g fs f m p owner named room is at =
    subst (λ n. HasRoom g (part_registers n p)) (sym named)
    (room_here g (attribute_of f.name p) (pending ms ((fs ++ advanced f ∷ []) ++ below_frames ms f.name p))
    (subst (λ xs. HasRoom g (registers_of xs)) (pending_next ms nested fs f m p is at) room))

-- a module is done
pub went_past : (ms : List ModuleDecl) (g : Gathered) (fs : List Frame) (f : Frame) (m : ModuleDecl) →
    EachOf (IsFrame ms) (fs ++ f ∷ []) → HasRoom g (registers_of (pending ms (fs ++ f ∷ []))) →
    slice_get ms f.place ≡ Some m → length m.parts ≤ f.next → WentOn ms g g (fs ++ f ∷ []) fs
went_past ms g fs f m frames room is past =
    let e = pending_done ms fs f m is past in
    record {
      same = ap (with_attributes g) (sym e);
      room = subst (λ xs. HasRoom g (registers_of xs)) e room;
      frames = each_left (IsFrame ms) fs (f ∷ []) frames;
      less = omega (arith, ap length e, length-append fs (f ∷ []));
    }

-- an attribute is taken
pub went_on : (ms : List ModuleDecl) → AreNested ms → (g : Gathered) (fs : List Frame) (f : Frame) (m : ModuleDecl) (p : Part) →
    EachOf (IsFrame ms) (fs ++ f ∷ []) → HasRoom g (registers_of (pending ms (fs ++ f ∷ []))) →
    slice_get ms f.place ≡ Some m → slice_get m.parts f.next ≡ Some p →
    WentOn ms g (with_part g f.name p) (fs ++ f ∷ []) ((fs ++ advanced f ∷ []) ++ below_frames ms f.name p)
went_on ms nested g fs f m p frames room is at =
    let after = (fs ++ advanced f ∷ []) ++ below_frames ms f.name p in
    let e = pending_next ms nested fs f m p is at in
    record {
      same = ap (with_attributes g) (sym e);
      room = room_rest g (attribute_of f.name p) (pending ms after) (subst (λ xs. HasRoom g (registers_of xs)) e room);
      frames = each_both (IsFrame ms) (fs ++ advanced f ∷ []) (below_frames ms f.name p)
          (each_both (IsFrame ms) fs (advanced f ∷ []) (each_left (IsFrame ms) fs (f ∷ []) frames) ((each_right (IsFrame ms) fs (f ∷ []) frames).0, tt)) (frames_below ms f.name p);
      less = omega (arith, ap length e, length-append fs (f ∷ []), length-append fs (advanced f ∷ []), length-append (fs ++ advanced f ∷ []) (below_frames ms f.name p), few_below ms f.name p);
    }

-- an attribute is taken, by the names under which the code has it
pub went_by : (ms : List ModuleDecl) → AreNested ms → (g new : Gathered) (fs : List Frame) (f : Frame) (m : ModuleDecl) (p : Part) (pushed after : List Frame) (owner second : List ℕ) →
    owner ≡ f.name → second ≡ f.name → EachOf (IsFrame ms) (fs ++ f ∷ []) → HasRoom g (registers_of (pending ms (fs ++ f ∷ []))) →
    slice_get ms f.place ≡ Some m → slice_get m.parts f.next ≡ Some p →
    new ≡ with_part g owner p → pushed ≡ fs ++ advanced f ∷ [] → after ≡ pushed ++ below_frames ms second p → WentOn ms g new (fs ++ f ∷ []) after
went_by ms nested g new fs f m p pushed after owner second own own2 frames room is at added put below =
    let new_is : new ≡ with_part g f.name p = added ∙ ap (λ n. with_part g n p) own in
    let after_is : after ≡ (fs ++ advanced f ∷ []) ++ below_frames ms f.name p = below ∙ ap₂ (λ (xs : List Frame) n. xs ++ below_frames ms n p) put own2 in
    subst (λ (h : Gathered). WentOn ms g h (fs ++ f ∷ []) after) (sym new_is)
    (subst (λ (ys : List Frame). WentOn ms g (with_part g f.name p) (fs ++ f ∷ []) ys) (sym after_is) (went_on ms nested g fs f m p frames room is at))

-- ---- the start

abbrev pub first_frame : ℕ → List ℕ → List Frame
first_frame k name = record { place = k; name = name; next = 0 } ∷ []

pub walk_start : (ms : List ModuleDecl) → AreNested ms → (k : ℕ) (m : ModuleDecl) → slice_get ms k ≡ Some m →
    pending ms (first_frame k m.name) ≡ attributes ms m.name m
walk_start ms nested k m is =
    ap (λ o. flat_map (part_attributes ms m.name) (parts_of o)) is ∙ sym (attributes_are ms nested k m m.name is)
