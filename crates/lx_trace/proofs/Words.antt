-- What words say, by their number.
use Rattle.std.proofs.Common.{◌≡◌, ℕ, true, false, List, [], ◌∷◌, length, get_or, refl, arith}
use Rattle.std.specs.Prelude.{None, Err, codes}
use Rattle.std.specs.Str.{bytes_eq}
use Rattle.lx_text.specs.declared.faults.Kind.{Kind}
use Rattle.lx_text.specs.declared.faults.Refusal.{Refusal}
use Rattle.lx_text.specs.declared.faults.Refusal.TheVariants as refusal
use Rattle.lx_trace.specs.Lines.{is_plain, saying, saying_by_arguments, saying_of, saying_of_words, set_saying}
use Rattle.lx_trace.specs.Numbers.{number}
use Rattle.lx_trace.specs.Pieces.{pieces}
use Rattle.lx_trace.specs.Reading.{Comes, IsRefusedAs}

pub two_words : (word : List ℕ) (words : List (List ℕ)) (a b d e : List ℕ) → length words ≡ 2 → a ≡ get_or words 0 d → b ≡ get_or words 1 e → bytes_eq word (codes "set") ≡ true → saying_by_arguments word words ≡ set_saying a (number b)
two_words word [] a b d e l f g h = absurd (omega arith)
two_words word (x ∷ []) a b d e l f g h = absurd (omega arith)
two_words word (x ∷ (y ∷ [])) a b d e l f g h = rw (h, f, g) refl
two_words word (x ∷ (y ∷ (z ∷ zs))) a b d e l f g h = absurd (omega arith)

pub other_word : (word : List ℕ) (words : List (List ℕ)) → bytes_eq word (codes "tick") ≡ false → bytes_eq word (codes "run") ≡ false → saying_of word words ≡ saying_by_arguments word words
other_word word words e f = rw (e, f) refl

pub not_plain : (bytes : List ℕ) → is_plain bytes ≡ false → saying bytes ≡ None
unfolding saying
not_plain bytes e = rw e refl

pub plain_saying : (bytes : List ℕ) → is_plain bytes ≡ true → saying bytes ≡ saying_of_words (pieces 32 bytes)
unfolding saying
plain_saying bytes e = rw e refl

pub refused_comes : (k : ℕ) (kind : Kind) (r : Refusal) → IsRefusedAs k kind r → Comes k (Err kind) (Err r)
refused_comes k kind (refusal.Fault f) h = rw h (refl, refl)
refused_comes k kind refusal.NoMemory h = tt
