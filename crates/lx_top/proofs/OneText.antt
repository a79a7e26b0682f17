-- From the same files `sim` gives one text.
use Rattle.std.proofs.Common.{◌≡◌, ℕ, List, [], ◌∷◌, Ok, sym, subst, inl, inr}
use Rattle.lx_outside.specs.declared.calls.Pair.{Pair}
use Rattle.lx_description.specs.declared.description.Description.{Description}
use Rattle.lx_running.proofs.Alike.{answer_too}
use Rattle.lx_running.proofs.Once as once
use Rattle.lx_command.specs.Next.{Gives, Then}
use Rattle.lx_top.specs.Meaning.{Answered, IsBuilt, Simulated}
use Rattle.lx_top.specs.Table.{IsOneTextLaw}
use Rattle.lx_top.proofs.Answers.{says_one}
use Rattle.lx_top.proofs.Flat.{flat_alike}

-- the text that is given is what the trace is answered
given : (trace lines : List ℕ) (d : Description) (files : List Pair) (x : List ℕ) → Then trace (Simulated d lines) Answered (Gives files x) → (files ≡ []) × Simulated d lines (Ok x)
given trace lines d files x (inl refused) = let bad = refused.2 in absurd cc
given trace lines d files x (inr said) =
    let e = said.2 in
    let none : files ≡ [] = cc in
    let same : x ≡ said.0 = cc in
    (none, subst (λ (t : List ℕ). Simulated d lines (Ok t)) (sym same) said.1)

-- a description without a fault has one answer to a trace
one_answered : (d : Description) (lines x y : List ℕ) → IsBuilt d → Simulated d lines (Ok x) → Simulated d lines (Ok y) → x ≡ y
one_answered d lines x y b p q =
    once.one_answer b.0.design lines x y b.3
    (answer_too p.0.design b.0.design lines x (flat_alike d p.0 b.0 p.1 b.1) p.2)
    (answer_too q.0.design b.0.design lines y (flat_alike d q.0 b.0 q.1 b.1) q.2)

pub one_text : IsOneTextLaw
one_text source trace [] files more x y p q = absurd cc
one_text source trace (bytes ∷ []) files more x y (inl p) q = let bad = p.2 in absurd cc
one_text source trace (bytes ∷ []) files more x y (inr p) q = let bad = p.2 in absurd cc
one_text source trace (lines ∷ bytes ∷ []) files more x y p q =
    let e = says_one bytes (Ok p.0) (Ok q.0) p.1.0 q.1.0 in
    let same : p.0 ≡ q.0 = cc in
    let a = given trace lines p.0 files x p.2 in
    let b = given trace lines q.0 more y q.2 in
    (a.0, one_answered q.0 lines x y q.1.1 (subst (λ (d : Description). Simulated d lines (Ok x)) same a.1) b.1)
one_text source trace (more_lines ∷ lines ∷ bytes ∷ rest) files more x y p q = absurd p
