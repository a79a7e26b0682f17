-- A read of a memory stands for the word at its index.
use Rattle.std.proofs.Common.{◌≡◌, ℕ, ℤ, false, ◌^◌, nat_lt, refl, sym, ◌∙◌, ap, inl, inr}
use Rattle.std.proofs.lemmas.Bool.{cond-true, cond-false, lt-ltb, le-ltb, cases_lt}
use Rattle.std.proofs.lemmas.Nat.{pow_pos}
use Rattle.lx_num.specs.Ints.{modulo, unsigned, wrapped}
use Rattle.lx_num.proofs.Ints.{modulo-small}
use Rattle.lx_num.proofs.Ranges.{FitsBits-wrap_bits, modulo-wrap_bits}
use Rattle.lx_circuit.specs.Values.{count_of}
use Rattle.lx_vtext.specs.Tree.{Name}
use Rattle.lx_vmeaning.specs.Meaning.{Valuation, own, read_word}
use Rattle.lx_tie.specs.Words.{HasWords, IsWordLaw}
use Rattle.lx_tie.proofs.Leaves.{exact_leaf}
use Rattle.lx_tie.proofs.Texts.{amount_is}

-- the word at a place, 0 past the end
word_is : (u : Valuation) (name : Name) (width depth : ℕ) (words : ℕ → ℤ) → HasWords u name width depth words → (k : ℕ) → read_word depth (u.words name) k ≡ modulo (words k) (2 ^ width)
word_is u name width depth words has k = elim (cases_lt k depth) [
  | inl less ↦ cond-true (nat_lt k depth) (u.words name k) 0 (lt-ltb k depth less) ∙ has.each k less
  | inr most ↦
      cond-false (nat_lt k depth) (u.words name k) 0 (le-ltb k depth most)
      ∙ (sym (modulo-small 0 (2 ^ width) (pow_pos width)) ∙ ap (λ z. modulo z (2 ^ width)) (sym (has.past k most)))
]

pub word_exact : IsWordLaw
word_exact u name width depth bits words i index some has x =
    exact_leaf u width width false (wrapped (unsigned width) (words (count_of i))) (λ v. read_word depth (v.words name) (own index v)) refl some
    (FitsBits-wrap_bits width false (words (count_of i)) some)
    (ap (λ (k : ℕ). read_word depth (u.words name) k) (amount_is u bits i index x) ∙ word_is u name width depth words has (count_of i) ∙ sym (modulo-wrap_bits width false (words (count_of i))))
