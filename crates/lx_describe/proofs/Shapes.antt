-- A design whose signals got their paths, and some of them bits that were not known before, keeps what its arenas kept.
use Rattle.std.proofs.Common.{◌≡◌, ℕ, ◌+◌, Bool, true, false, List, [], ◌∷◌, length, refl, sym, ap, ◌∙◌, subst, zero, suc, arith}
use Rattle.std.specs.Prelude.{Option, Some, None, is_some, map, slice_get, slice_index_or}
use Rattle.std.specs.List.{list_all}
use Rattle.std.proofs.lemmas.Bool.{and_parts}
use Rattle.lx_num.specs.declared.Shape.{Shape}
use Rattle.lx_circuit.specs.Circuit.{nothing}
use Rattle.lx_circuit.specs.Shapes.{Shapes}
use Rattle.lx_fhdl.specs.Designs.{circuit_of, made_of, shapes}
use Rattle.lx_fhdl.specs.Drafts.{DraftKeeps}
use Rattle.lx_fhdl.specs.Keeping.{ArenasKeep}
use Rattle.lx_fhdl.specs.declared.exprs.SigId.{SigId}
use Rattle.lx_fhdl.specs.declared.design.Design.{Design}
use Rattle.lx_fhdl.specs.declared.design.Domain.{Domain}
use Rattle.lx_fhdl.specs.declared.design.Signal.{Signal}
use Rattle.lx_fragments.specs.declared.fragments.Fragments.{Fragments}
use Rattle.lx_state.specs.declared.machine.Machine.{Machine}
use Rattle.lx_kept.specs.Given.{HasArenas}
use Rattle.lx_paths.specs.Paths.{owner_path}
use Rattle.lx_describe.specs.Apart.{all_apart, expr_passes, is_late, late_bits, target_passes}
use Rattle.lx_describe.specs.Describing.{design_of, named_of}
use Rattle.lx_describe.specs.Memories.{named_memories}
use Rattle.lx_describe.specs.Signals.{named_signal, named_signals, with_bits, with_bus, with_path}
use Rattle.lx_describe.specs.Systems.{is_bus_given}
use Rattle.lx_describe.specs.declared.describing.Named.{Named}
use Rattle.lx_describe.proofs.Unnamed.{SameElsewhere, arenas_kept}

-- ---- signals

path_apart : (path : List (List ℕ)) (s : Signal) → (with_path path s).shape ≡ s.shape
path_apart [] s = refl
path_apart (w ∷ ws) s = refl

bits_apart : (bits : Option ℕ) (s : Signal) → is_some bits ≡ false → with_bits bits s ≡ s
bits_apart None s e = refl
bits_apart (Some b) s e = absurd (cc)

bus_apart : (b : Bool) (s : Signal) → (with_bus b s).shape ≡ s.shape
bus_apart false s = refl
bus_apart true s = refl

-- a path leaves the shape, and so do the bus, and the bits where they were known
one_same : (m : Machine) (x : ℕ) (s : Signal) → is_late m x ≡ false → (named_signal m x s).shape ≡ s.shape
one_same m x s e =
    bus_apart (is_bus_given m (slice_get m.owners x)) (with_bits (late_bits m (slice_get m.owners x)) (with_path (owner_path m (slice_get m.owners x)) s))
    ∙ ap (λ (t : Signal). t.shape) (bits_apart (late_bits m (slice_get m.owners x)) (with_path (owner_path m (slice_get m.owners x)) s) e)
    ∙ path_apart (owner_path m (slice_get m.owners x)) s

abbrev shape_at : List Signal → ℕ → Shape
shape_at ss x = (slice_index_or (map made_of ss) x nothing).shape

each_same : (m : Machine) (from k : ℕ) (ss : List Signal) → is_late m (from + k) ≡ false → shape_at (named_signals m from ss) k ≡ shape_at ss k
unfolding named_signals
each_same m from k [] e = refl
each_same m from zero (s ∷ ss) e = let here : from + 0 ≡ from = omega arith in one_same m from s (ap (is_late m) (sym here) ∙ e)
each_same m from (suc k) (s ∷ ss) e = let next : (from + 1) + k ≡ from + suc k = omega arith in each_same m (from + 1) k ss (ap (is_late m) next ∙ e)

named_long : (m : Machine) (from : ℕ) (ss : List Signal) → length (named_signals m from ss) ≡ length ss
unfolding named_signals
named_long m from [] = refl
named_long m from (s ∷ ss) = ap suc (named_long m (from + 1) ss)

-- ---- designs

same_elsewhere : (m : Machine) (d e : Design) → e.signals ≡ named_signals m 0 d.signals → SameElsewhere m (shapes d) (shapes e)
unfolding circuit_of
same_elsewhere m d e is x h =
    let from : 0 + x ≡ x = omega arith in
    ap (λ (ss : List Signal). shape_at ss x) is ∙ each_same m 0 x d.signals (ap (is_late m) from ∙ h)

-- the signals and memories of a machine of which nothing names a signal whose bits were not known leave what the arenas keep
pub finished : (m : Machine) (d e : Design) (named : Named) (fragments : Fragments) (domains : List Domain) (ios : List SigId)
    → all_apart m ≡ true → d ≡ m.shaped → DraftKeeps d → named ≡ named_of m → e ≡ design_of d named fragments domains ios → HasArenas e
finished m d e named fragments domains ios apart is keep named_is made =
    let passes = and_parts (list_all (expr_passes m) m.shaped.exprs) (list_all (target_passes m) m.shaped.targets) apart in
    let old : Design = m.shaped in
    let whole : Design = design_of old (named_of m) fragments domains ios in
    let kept : DraftKeeps old = subst DraftKeeps is keep in
    let arenas : ArenasKeep (shapes whole) (length old.signals) (named_memories m) old.exprs old.targets old.stmts =
    arenas_kept m (shapes old) (shapes whole) (length old.signals) old.memories (named_memories m) old.exprs old.targets old.stmts
    (record { keep = kept.arenas; exprs = passes.0; targets = passes.1 }) (same_elsewhere m old whole refl) in
    let has : HasArenas whole = subst (λ (n : ℕ). ArenasKeep (shapes whole) n (named_memories m) old.exprs old.targets old.stmts) (sym (named_long m 0 old.signals)) arenas in
    let same : e ≡ whole = made ∙ ap (λ (f : Design). design_of f named fragments domains ios) is ∙ ap (λ (x : Named). design_of old x fragments domains ios) named_is in
    subst HasArenas (sym same) has
