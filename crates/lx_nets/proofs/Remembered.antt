-- Memories: their declarations and first words.
use Rattle.std.proofs.Common.{◌≡◌, ℕ, ◌+◌, List, [], ◌∷◌, ◌++◌, map, sym, ap, ◌∙◌, arith}
use Rattle.std.specs.Prelude.{Some, slice_get}
use Rattle.std.specs.List.{range_with_len}
use Rattle.std.proofs.lemmas.List.FromFn.{map-range_with_len_more}
use Rattle.lx_vtext.specs.Tree.{Name, VSet}
use Rattle.lx_vtree.specs.declared.modules.WordInit.{WordInit}
use Rattle.lx_vtree.specs.Modules.{literal_of, set_of}
use Rattle.lx_fhdl.specs.Designs.{memory_of}
use Rattle.lx_fhdl.specs.declared.design.Memory.{Memory}
use Rattle.lx_emission.specs.Memories.{memory_decl, set_line, first_words}
use Rattle.lx_nets.specs.Memories.{first_words_in, memory_decl_in, word_literal}
use Rattle.lx_sheet.specs.Plans.{Plan, memory_in}
use Rattle.lx_sheet.proofs.Lines.{line_more}
use Rattle.lx_circuit.specs.Memories as circuit
use Rattle.lx_vtext.specs.Tree as tree
use Rattle.lx_sheet.proofs.Remembered.{memory_is}

pub decl_is : (p : Plan) (k : ℕ) (m : Memory) (n : Name) → slice_get p.design.memories k ≡ Some m → n ≡ memory_in p k → tree.MemoryDecl (record { bits = m.width; name = n; depth = m.depth }) ≡ memory_decl_in p k
decl_is p k m n e f =
    ap (λ (o : Name). tree.MemoryDecl (memory_decl o (memory_of m))) f
    ∙ ap (λ (x : circuit.Memory). tree.MemoryDecl (memory_decl (memory_in p k) x)) (sym (memory_is p.design k m e))

set_is : (s : WordInit) (n : Name) (x : circuit.Memory) (k : ℕ) → s.name ≡ n → s.index ≡ k → literal_of s.value ≡ word_literal x k → set_of s ≡ set_line n x k
unfolding set_of
set_is s n x k e f g = λ i. record { name = e i; index = f i; value = g i }

-- a line more
pub words_more : (n : Name) (x : circuit.Memory) (words : List WordInit) (s : WordInit) (k : ℕ) → map set_of words ≡ map (set_line n x) (range_with_len 0 k) → s.name ≡ n → s.index ≡ k → literal_of s.value ≡ word_literal x k
    → map set_of (words ++ s ∷ []) ≡ map (set_line n x) (range_with_len 0 (k + 1))
words_more n x words s k h e f g =
    line_more set_of words s (set_line n x k) (set_is s n x k e f g)
    ∙ ap (λ (ss : List VSet). ss ++ set_line n x k ∷ []) h
    ∙ sym (map-range_with_len_more (set_line n x) 0 k k (omega arith))

-- a line for every word
pub words_are : (p : Plan) (k n : ℕ) (m : Memory) (words : List WordInit) → slice_get p.design.memories k ≡ Some m → n ≡ m.depth → map set_of words ≡ map (set_line (memory_in p k) (memory_of m)) (range_with_len 0 n) → map set_of words ≡ first_words_in p k
unfolding first_words
words_are p k n m words e f h =
    h
    ∙ ap (λ j. map (set_line (memory_in p k) (memory_of m)) (range_with_len 0 j)) f
    ∙ ap (λ (x : circuit.Memory). map (set_line (memory_in p k) x) (range_with_len 0 x.depth)) (sym (memory_is p.design k m e))
