-- Blocks that are appended: what they take, drive and read, how deep they are, and that they keep what their parts keep.
use Rattle.std.proofs.Common.{◌≡◌, ℕ, List, ◌++◌, ◌||◌, max, refl, sym, ◌∙◌, ap, append_assoc, arith}
use Rattle.std.proofs.Math.Bool.{or_assoc}
use Rattle.lx_circuit.specs.Places.{Place, Values}
use Rattle.lx_circuit.specs.Shapes.{Shapes}
use Rattle.lx_circuit.specs.Statements.{Block, Done, Then, Piece, taken, taken_block, drives, drives_block}
use Rattle.lx_circuit.specs.Reads.{reads, reads_block}
use Rattle.lx_fhdl.specs.Keeping.{block_depth}
use Rattle.lx_lowering.specs.Flat.{append}
use Rattle.lx_lowering.specs.Lowering.{BlockKeeps}

pub taken_append : (s : Shapes) (v : Values) (a b : Block) → taken_block s v (append a b) ≡ taken_block s v a ++ taken_block s v b
taken_append s v Done b = refl
taken_append s v (Then x xs) b = ap (λ ps. taken s v x ++ ps) (taken_append s v xs b) ∙ sym (append_assoc (taken s v x) (taken_block s v xs) (taken_block s v b))

pub both_taken : (s : Shapes) (v : Values) (a b : Block) (ps qs : List Piece) → taken_block s v a ≡ ps → taken_block s v b ≡ qs → taken_block s v (append a b) ≡ ps ++ qs
both_taken s v a b ps qs e f = taken_append s v a b ∙ ap (λ l. l ++ taken_block s v b) e ∙ ap (λ l. ps ++ l) f

pub drives_append : (y : ℕ) (a b : Block) → drives_block y (append a b) ≡ (drives_block y a || drives_block y b)
drives_append y Done b = refl
drives_append y (Then x xs) b = ap (λ d. drives y x || d) (drives_append y xs b) ∙ sym (or_assoc (drives y x) (drives_block y xs) (drives_block y b))

pub reads_append : (x : ℕ) (y : Place) (a b : Block) → reads_block x y (append a b) ≡ (reads_block x y a || reads_block x y b)
reads_append x y Done b = refl
reads_append x y (Then t ts) b = ap (λ d. reads x y t || d) (reads_append x y ts b) ∙ sym (or_assoc (reads x y t) (reads_block x y ts) (reads_block x y b))

pub depth_append : (a b : Block) → block_depth (append a b) ≡ max (block_depth a) (block_depth b)
depth_append Done b = omega arith
depth_append (Then x xs) b = omega (arith, depth_append xs b)

pub keeps_append : (s : Shapes) (n : ℕ) (a b : Block) → BlockKeeps s n a → BlockKeeps s n b → BlockKeeps s n (append a b)
keeps_append s n Done b p q = q
keeps_append s n (Then x xs) b p q = (p.0, keeps_append s n xs b p.1 q)

pub append_done : (a : Block) → append a Done ≡ a
append_done Done = refl
append_done (Then st ss) = ap (λ b. Then st b) (append_done ss)

pub append_all : (a b d : Block) → append (append a b) d ≡ append a (append b d)
append_all Done b d = refl
append_all (Then st ss) b d = ap (λ r. Then st r) (append_all ss b d)
