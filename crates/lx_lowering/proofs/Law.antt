-- The law of lowering: the same runs, plain statements, constants where they read nothing, and an order of reads where there was one.
use Rattle.std.proofs.Common.{ℕ, ◌<◌, length, ◌∙◌}
use Rattle.lx_num.specs.Ints.{Fits}
use Rattle.lx_circuit.specs.Places.{Values, At}
use Rattle.lx_circuit.specs.Shapes.{Shapes}
use Rattle.lx_circuit.specs.Circuit.{Circuit, shapes}
use Rattle.lx_circuit.specs.Fitting.{InputsFit}
use Rattle.lx_circuit.specs.Runs.{Extends}
use Rattle.lx_circuit.proofs.Runs.{extends_by_runs}
use Rattle.lx_fhdl.specs.Nodes.{IsSmall}
use Rattle.lx_lowering.specs.Lowering.{CanBeLowered, Lowers, lowered}
use Rattle.lx_lowering.proofs.TermFacts.{term_small, term_fits}
use Rattle.lx_lowering.proofs.LowerTerms.{lower_shape, lower_value, lower_keeps, lower_names}
use Rattle.lx_lowering.proofs.Targets.{ShapeLaws, TermLaws}
use Rattle.lx_lowering.proofs.FlatTaken.{flat_block_taken}
use Rattle.lx_lowering.proofs.FlatReads.{flat_block_drives, flat_block_reads}
use Rattle.lx_lowering.proofs.FlatShape.{flat_block_is_flat}
use Rattle.lx_lowering.proofs.Lowering.{FlatLaws, lowers}

pub shape_laws_of : (s : Shapes) (n : ℕ) → ((x : ℕ) → x < n → IsSmall (s x)) → ShapeLaws s n
shape_laws_of s n small = record {
  small = small;
  term_small = λ t k. term_small s n t small k;
  lower_shape = λ t k. lower_shape s n t k;
  lower_keeps = λ t k. lower_keeps s n t small k;
  lower_names = λ y t k e. lower_names s y t e;
}

term_laws_of : (s : Shapes) (n : ℕ) (v : Values) → ((x : ℕ) → x < n → IsSmall (s x)) → ((x : ℕ) → x < n → Fits (s x) (v (At x))) → TermLaws s n v
term_laws_of s n v small fits = record {
  small = small;
  fits = fits;
  term_small = λ t k. term_small s n t small k;
  term_fits = λ t k. term_fits s n v t small fits k;
  lower_shape = λ t k. lower_shape s n t k;
  lower_value = λ t k. lower_value s n v t small fits k;
  lower_keeps = λ t k. lower_keeps s n t small k;
  lower_names = λ y t k e. lower_names s y t e;
}

pub flat_laws : (s : Shapes) (n : ℕ) → ((x : ℕ) → x < n → IsSmall (s x)) → FlatLaws s n
flat_laws s n small = record {
  taken = λ v fits b k. flat_block_taken s n v (term_laws_of s n v small fits) b k;
  drives = λ b k x. flat_block_drives s x b;
  reads = λ b k x y e. flat_block_reads s n x y (shape_laws_of s n small) b k e;
  flat = λ b k. flat_block_is_flat s n b k;
}

pub lowering : (c : Circuit) → CanBeLowered c → Lowers c (lowered c)
lowering c can = lowers c can (flat_laws (shapes c) (length c.signals) can.small)

-- ---- an extension by no signals

inputs_fit : (c : Circuit) → CanBeLowered c → (i : Values) → InputsFit c i → InputsFit (lowered c) i
unfolding lowered
inputs_fit c can i f = record { each = λ x e. f.each x ((lowering c can).roles x ∙ e) }

pub lowering_extends : (n : ℕ) (c : Circuit) → CanBeLowered c → Extends n c (lowered c)
lowering_extends n c can = extends_by_runs n c (lowered c) (inputs_fit c can) (lowering c can).runs
