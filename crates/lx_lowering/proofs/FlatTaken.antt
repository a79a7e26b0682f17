-- Flat statements take the same assignments, in the same order.
use Rattle.std.proofs.Common.{◌≡◌, ℕ, ℤ, Bool, ◌&&◌, ◌||◌, not, cond, List, [], ◌∷◌, Option, None, refl, ◌∙◌, ap}
use Rattle.std.specs.Ordering.{int_eq}
use Rattle.lx_num.specs.Ints.{Fits}
use Rattle.lx_tables.specs.declared.operators.Op.TheVariants as op
use Rattle.lx_circuit.specs.Places.{Values}
use Rattle.lx_circuit.specs.Terms.{Term, Binary}
use Rattle.lx_circuit.specs.Shapes.{Shapes, shape_of}
use Rattle.lx_circuit.specs.Values.{value_of, is_zero, flag}
use Rattle.lx_circuit.specs.Statements.{Stmt, Assign, If, Case, Branches, NoBranch, Branch, Arms, NoArm, Arm, Block, Done, Then, Piece, pieces, taken, taken_branch, taken_arm, taken_block}
use Rattle.lx_fhdl.specs.Nodes.{IsSmall}
use Rattle.lx_lowering.specs.Terms.{lower_term}
use Rattle.lx_lowering.specs.Flat.{some_when, holds, fails, is_among_keys, is_key, no_key, flat, flat_if, flat_chain, flat_arms, flat_block}
use Rattle.lx_lowering.specs.Lowering.{StmtKeeps, BranchesKeep, ArmsKeep, BlockKeeps}
use Rattle.lx_lowering.proofs.Appends.{both_taken}
use Rattle.lx_lowering.proofs.Targets.{TermLaws, some_when_taken, assigns_taken}
use Rattle.lx_lowering.proofs.Branches.{and_value, holds_value, fails_value, lone_taken, first_taken, further_taken, NoneIs, is_key_value, no_key_value, otherwise_taken, arm_taken}

mutual
  pub flat_taken : (s : Shapes) (n : ℕ) (v : Values) → TermLaws s n v → (x : Stmt) → StmtKeeps s n x → taken_block s v (flat s x) ≡ taken s v x
  flat_taken s n v laws (Assign t e) p =
      assigns_taken s n v laws t p.0 (lower_term s e) (laws.lower_keeps e p.2) ∙ ap (λ z. pieces s v t z) (laws.lower_value e p.2)
  flat_taken s n v laws (If bs rest) p = if_taken s n v laws bs p.0 (flat_block s rest) (taken_block s v rest) (flat_block_taken s n v laws rest p.1)
  flat_taken s n v laws (Case on arms rest) p =
      let k = laws.lower_keeps on p.0 in
      arms_taken s n v laws (lower_term s on) (laws.term_small (lower_term s on) k) (laws.term_fits (lower_term s on) k) [] None refl arms p.1 (flat_block s rest) (taken_block s v rest) (flat_block_taken s n v laws rest p.2)
      ∙ ap (λ z. taken_arm s v z arms (taken_block s v rest)) (laws.lower_value on p.0)

  if_taken : (s : Shapes) (n : ℕ) (v : Values) → TermLaws s n v → (bs : Branches) → BranchesKeep s n bs → (rest : Block) (ps : List Piece) → taken_block s v rest ≡ ps → taken_block s v (flat_if s bs rest) ≡ taken_branch s v bs ps
  if_taken s n v laws NoBranch p rest ps e = e
  if_taken s n v laws (Branch c b NoBranch) p rest ps e =
      lone_taken s v (lower_term s c) (flat_block s b) (flat_chain s (fails s (lower_term s c)) NoBranch rest) rest
      ∙ ap (λ z. cond (is_zero z) (taken_block s v rest) (taken_block s v (flat_block s b))) (laws.lower_value c p.0)
      ∙ ap (λ qs. cond (is_zero (value_of s v c)) qs (taken_block s v (flat_block s b))) e
      ∙ ap (λ qs. cond (is_zero (value_of s v c)) ps qs) (flat_block_taken s n v laws b p.1)
  if_taken s n v laws (Branch c b (Branch d f more)) p rest ps e =
      let x = lower_term s c in
      first_taken s v x d (flat_block s b) f (flat_chain s (fails s x) (Branch d f more) rest) rest more (taken_branch s v (Branch d f more) ps)
      (chain_taken s n v laws (fails s x) (is_zero (value_of s v x)) (fails_value s v x (laws.term_small x (laws.lower_keeps c p.0))) (Branch d f more) p.2 rest ps e)
      ∙ ap (λ z. cond (is_zero z) (taken_branch s v (Branch d f more) ps) (taken_block s v (flat_block s b))) (laws.lower_value c p.0)
      ∙ ap (λ qs. cond (is_zero (value_of s v c)) (taken_branch s v (Branch d f more) ps) qs) (flat_block_taken s n v laws b p.1)

  -- further branches, where t says that none before them was taken
  chain_taken : (s : Shapes) (n : ℕ) (v : Values) → TermLaws s n v → (none : Term) (t : Bool) → value_of s v none ≡ flag t → (bs : Branches) → BranchesKeep s n bs → (rest : Block) (ps : List Piece) → taken_block s v rest ≡ ps
      → taken_block s v (flat_chain s none bs rest) ≡ cond t (taken_branch s v bs ps) []
  chain_taken s n v laws none t h NoBranch p rest ps e = some_when_taken s v none rest t h ∙ ap (λ qs. cond t qs []) e
  chain_taken s n v laws none t h (Branch c b more) p rest ps e =
      let x = lower_term s c in
      let small = laws.term_small x (laws.lower_keeps c p.0) in
      let q = is_zero (value_of s v x) in
      both_taken s v (some_when (Binary op.And none (holds s x)) (flat_block s b)) (flat_chain s (Binary op.And none (fails s x)) more rest) (cond (t && not q) (taken_block s v b) []) (cond (t && q) (taken_branch s v more ps) [])
      (some_when_taken s v (Binary op.And none (holds s x)) (flat_block s b) (t && not q) (and_value s v none (holds s x) t (not q) h (holds_value s v x small)) ∙ ap (λ qs. cond (t && not q) qs []) (flat_block_taken s n v laws b p.1))
      (chain_taken s n v laws (Binary op.And none (fails s x)) (t && q) (and_value s v none (fails s x) t q h (fails_value s v x small)) more p.2 rest ps e)
      ∙ further_taken t q (taken_block s v b) (taken_branch s v more ps)
      ∙ ap (λ z. cond t (cond (is_zero z) (taken_branch s v more ps) (taken_block s v b)) []) (laws.lower_value c p.0)

  arms_taken : (s : Shapes) (n : ℕ) (v : Values) → TermLaws s n v → (on : Term) → IsSmall (shape_of s on) → Fits (shape_of s on) (value_of s v on) → (seen : List ℤ) (none : Option Term) → NoneIs s v none (not (is_among_keys (value_of s v on) seen))
      → (arms : Arms) → ArmsKeep s n arms → (rest : Block) (ps : List Piece) → taken_block s v rest ≡ ps
      → taken_block s v (flat_arms s on seen none arms rest) ≡ cond (is_among_keys (value_of s v on) seen) [] (taken_arm s v (value_of s v on) arms ps)
  arms_taken s n v laws on small fits seen none h NoArm p rest ps e =
      otherwise_taken s v none rest (is_among_keys (value_of s v on) seen) h ∙ ap (λ qs. cond (is_among_keys (value_of s v on) seen) [] qs) e
  arms_taken s n v laws on small fits seen none h (Arm key b more) p rest ps e =
      let z = value_of s v on in
      let w = int_eq key z in
      let before = is_among_keys z seen in
      both_taken s v (some_when (is_key s on seen key) (flat_block s b)) (flat_arms s on (key ∷ seen) (no_key s on seen none key) more rest) (cond (w && not before) (taken_block s v b) []) (cond (w || before) [] (taken_arm s v z more ps))
      (some_when_taken s v (is_key s on seen key) (flat_block s b) (w && not before) (is_key_value s v on seen key small fits) ∙ ap (λ qs. cond (w && not before) qs []) (flat_block_taken s n v laws b p.0))
      (arms_taken s n v laws on small fits (key ∷ seen) (no_key s on seen none key) (no_key_value s v on seen none key small fits h) more p.1 rest ps e)
      ∙ arm_taken w before (taken_block s v b) (taken_arm s v z more ps)

  pub flat_block_taken : (s : Shapes) (n : ℕ) (v : Values) → TermLaws s n v → (b : Block) → BlockKeeps s n b → taken_block s v (flat_block s b) ≡ taken_block s v b
  flat_block_taken s n v laws Done p = refl
  flat_block_taken s n v laws (Then x xs) p = both_taken s v (flat s x) (flat_block s xs) (taken s v x) (taken_block s v xs) (flat_taken s n v laws x p.0) (flat_block_taken s n v laws xs p.1)
