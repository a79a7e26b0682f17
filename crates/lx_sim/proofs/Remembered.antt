-- Words that are those of a moment.
use Rattle.std.proofs.Common.{◌≡◌, ℕ, Bool, false, ◌+◌, ◌^◌, ◌<◌, ◌≤◌, List, [], ◌∷◌, ◌++◌, length, map, cond, sym, ◌∙◌, ap, subst, arith, inl, inr, length-append}
use Rattle.std.specs.Prelude.{ℤ, pos, Some, nat_lt, slice_get, slice_index_or}
use Rattle.std.proofs.Math.ListN.{get_or-append}
use Rattle.std.proofs.Math.Seq.{get_or-append_seam}
use Rattle.std.proofs.lemmas.Bool.{cases_lt, ltb-false, ltb-true}
use Rattle.std.proofs.lemmas.List.{get_or_past, length-map}
use Rattle.std.proofs.lemmas.Nat.{mod_below, pow_pos}
use Rattle.lx_num.specs.Ints.{Fits, unsigned}
use Rattle.lx_num.proofs.Ranges.{fits_pos, fits_wider, read_bits-modulo}
use Rattle.lx_circuit.specs.Memories.{Memory}
use Rattle.lx_circuit.specs.Places.{Values, Word}
use Rattle.lx_circuit.specs.Circuit.{IsSettled, first_state, first_word, no_memory}
use Rattle.lx_circuit.proofs.Cases.{by_test}
use Rattle.lx_fhdl.specs.Designs.{circuit_of, memory_at, memory_of}
use Rattle.lx_fhdl.specs.Keeping.{Keeps}
use Rattle.lx_fhdl.specs.declared.design.Memory as design
use Rattle.lx_fhdl.specs.declared.design.Design.{Design}
use Rattle.lx_emission.proofs.MemoryRuns.{memory_there}
use Rattle.lx_emission.proofs.Writers.{sized}
use Rattle.lx_sheet.proofs.Remembered.{memory_is}
use Rattle.lx_sim.specs.Words.{AreWords, HaveWords, word_at, words_of}
use Rattle.lx_sim.specs.Writing.{AreFirstOf, AreFirstWords, ArePatterns, pattern_at}

-- ---- words of a moment

-- where they are those of the state
pub words_are : (d : Design) (words : List (List ℤ)) (state inputs v : Values) → HaveWords d words → IsSettled (circuit_of d) state inputs v → ((m k : ℕ) → k < (memory_at d m).depth → word_at words m k ≡ state (Word m k)) → AreWords words v
words_are d words state inputs v have settled is = record {
  each = λ m k.
      by_test (nat_lt k (memory_at d m).depth)
      (λ e. is m k (ltb-true k (memory_at d m).depth e) ∙ sym (settled.each (Word m k) ∙ ap (λ (b : Bool). cond b (state (Word m k)) (pos 0)) e))
      (λ e.
      get_or_past (words_of words m) k (pos 0) (let l = ltb-false k (memory_at d m).depth e in omega (arith, l, have.deep m))
      ∙ sym (settled.each (Word m k) ∙ ap (λ (b : Bool). cond b (state (Word m k)) (pos 0)) e));
}

-- other inputs change no words
pub words_stay : (d : Design) (words : List (List ℤ)) (state inputs v after w : Values) → IsSettled (circuit_of d) state inputs v → IsSettled (circuit_of d) state after w → AreWords words v → AreWords words w
words_stay d words state inputs v after w settled again are = record { each = λ m k. are.each m k ∙ (settled.each (Word m k) ∙ sym (again.each (Word m k))) }

-- ---- patterns

-- a word is the number of its pattern
pub word_pattern : (d : Design) (words : List (List ℤ)) (m k : ℕ) → Keeps d → HaveWords d words → k < (memory_at d m).depth → word_at words m k ≡ pos (pattern_at d words m k)
word_pattern d words m k keeps have l = sym (read_bits-modulo (memory_at d m).width false (word_at words m k) (sized d keeps m (memory_there d m k l)).width_some (have.fit m k l))

pub are_patterns : (d : Design) (words : List (List ℤ)) (m : ℕ) → Keeps d → HaveWords d words → ArePatterns (words_of words m)
are_patterns d words m keeps have = record {
  each = λ k l.
      let deep : k < (memory_at d m).depth = omega (arith, l, have.deep m) in
      let wide = fits_wider (memory_at d m).width 64 false (word_at words m k) (sized d keeps m (memory_there d m k deep)).width_most (have.fit m k deep) in
      record { from_zero = wide.low; within = wide.high };
}

-- ---- first words

past_depth : (d : Design) (m : ℕ) → length d.memories ≤ m → (memory_at d m).depth ≡ 0
unfolding circuit_of
past_depth d m l = ap (λ (a : Memory). a.depth) (get_or_past (map memory_of d.memories) m no_memory (omega (arith, l, length-map d.memories memory_of)))

pub have_first : (d : Design) (words : List (List ℤ)) → AreFirstWords d (length d.memories) words → HaveWords d words
have_first d words first = record {
  memories = first.long;
  deep = λ m.
      elim (cases_lt m (length d.memories)) [
        | inl l ↦ (first.each m l).long
        | inr l ↦ ap length (get_or_past words m [] (omega (arith, l, first.long))) ∙ sym (past_depth d m l)
      ];
  fit = λ m k l.
      let there = memory_there d m k l in
      let n = (memory_at d m).width in
      subst (λ (z : ℤ). Fits (unsigned n) z) (sym ((first.each m there).each k l)) (fits_pos n (first_word (memory_at d m) k) (mod_below (slice_index_or (memory_at d m).init k 0) (2 ^ n) (pow_pos n)));
}

pub words_none : (d : Design) (words : List (List ℤ)) → words ≡ [] → AreFirstWords d 0 words
words_none d words e = record { long = ap length e; each = λ m l. absurd (omega arith) }

-- the words of one memory more
pub words_more : (d : Design) (n : ℕ) (words new : List (List ℤ)) (own : List ℤ) (m : design.Memory) → slice_get d.memories n ≡ Some m → AreFirstWords d n words → AreFirstOf (memory_of m) m.depth own → new ≡ words ++ own ∷ [] → AreFirstWords d (n + 1) new
words_more d n words new own m found first of e = subst (AreFirstWords d (n + 1)) (sym e) (record {
  long = omega (arith, length-append words (own ∷ []), first.long);
  each = λ k l.
      elim (cases_lt k n) [
        | inl q ↦
            subst (λ (xs : List ℤ). AreFirstOf (memory_at d k) (memory_at d k).depth xs) (sym (get_or-append words (own ∷ []) [] k (omega (arith, q, first.long)))) (first.each k q)
        | inr q ↦
            let here : n ≡ k = omega arith in
            subst (λ (i : ℕ). AreFirstOf (memory_at d i) (memory_at d i).depth (words_of (words ++ own ∷ []) i)) here
            (subst (λ (xs : List ℤ). AreFirstOf (memory_at d n) (memory_at d n).depth xs) (sym (ap (words_of (words ++ own ∷ [])) (sym first.long) ∙ get_or-append_seam words own [] []))
            (subst (λ (a : Memory). AreFirstOf a a.depth own) (sym (memory_is d n m found)) of))
      ];
})

pub first_are : (d : Design) (words : List (List ℤ)) (inputs v : Values) → AreFirstWords d (length d.memories) words → IsSettled (circuit_of d) (first_state (circuit_of d)) inputs v → AreWords words v
first_are d words inputs v first settled = words_are d words (first_state (circuit_of d)) inputs v (have_first d words first) settled (λ m k l. (first.each m (memory_there d m k l)).each k l)
