-- The marks of the signals that are inputs.
use Rattle.std.proofs.Common.{◌≡◌, ℕ, ◌+◌, ◌<◌, Bool, false, List, [], ◌∷◌, ◌++◌, length, refl, sym, ◌∙◌, ap, subst, arith, length-append, inl, inr}
use Rattle.std.specs.Prelude.{slice_index_or}
use Rattle.std.proofs.lemmas.Bool.{cases_lt}
use Rattle.std.proofs.lemmas.List.{get_or_append_left}
use Rattle.std.proofs.Math.Seq.{get_or-append_seam}
use Rattle.lx_circuit.specs.Circuit.{role}
use Rattle.lx_fhdl.specs.Designs.{circuit_of}
use Rattle.lx_fhdl.specs.declared.design.Design.{Design}
use Rattle.lx_trace.specs.Directories.{AreInputs}
use Rattle.lx_trace.specs.Traces.{is_input}
use Rattle.lx_running.specs.Parts.{HaveInputs}

-- a mark for each of the first n signals
pub record AreMarked (d : Design) (n : ℕ) (inputs : List Bool) : Type 0 where
  pub long : length inputs ≡ n
  pub each : (x : ℕ) → x < n → slice_index_or inputs x false ≡ is_input (role (circuit_of d) x)

pub none_marked : (d : Design) → AreMarked d 0 []
none_marked d = record { long = refl; each = λ x l. absurd (omega (arith, l)) }

pub one_marked : (d e : Design) (n : ℕ) (inputs : List Bool) (b : Bool) → HaveInputs d e → AreMarked d n inputs → n < length d.signals → b ≡ is_input (role (circuit_of e) n) → AreMarked d (n + 1) (inputs ++ b ∷ [])
one_marked d e n inputs b have m there is = record { long = omega (arith, length-append inputs (b ∷ []), m.long); each = each }
  where
    each : (x : ℕ) → x < n + 1 → slice_index_or (inputs ++ b ∷ []) x false ≡ is_input (role (circuit_of d) x)
    each x l = elim (cases_lt x n) [
      | inl before ↦ get_or_append_left inputs (b ∷ []) false x (omega (arith, before, m.long)) ∙ m.each x before
      | inr from ↦
          let same : length inputs ≡ x = omega (arith, from, l, m.long) in
          let last : slice_index_or (inputs ++ b ∷ []) x false ≡ b = subst (λ (k : ℕ). slice_index_or (inputs ++ b ∷ []) k false ≡ b) same (get_or-append_seam inputs b [] false) in
          let here : n ≡ x = omega (arith, from, l) in
          last ∙ is ∙ sym (have.same n there) ∙ ap (λ (k : ℕ). is_input (role (circuit_of d) k)) here
    ]

pub all_marked : (d : Design) (inputs : List Bool) → AreMarked d (length d.signals) inputs → AreInputs d inputs
all_marked d inputs m = record { long = m.long; each = m.each }
