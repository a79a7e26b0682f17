-- Statements that read neither a signal nor a word of a memory.
use Rattle.std.specs.Prelude.{ℕ, ℤ, pos, Bool, true, false, ◌&&◌}
use Rattle.lx_circuit.specs.Terms.{Term, Terms, Constant, Signal, Unary, Binary, Mux, Cat, Replicate, Slice, Pick, Fetch, NoTerm, MoreTerms}
use Rattle.lx_circuit.specs.Shapes.{Shapes}
use Rattle.lx_circuit.specs.Places.{Values}
use Rattle.lx_circuit.specs.Statements.{Whole, Stmt, Assign, If, Case, Branches, NoBranch, Branch, Block, Done, Then, taken_block, result}
use Rattle.lx_lowering.specs.Flat.{one}

abbrev mutual
  pub names_none : Term → Bool
  names_none (Constant value a) = true
  names_none (Signal x) = false
  names_none (Unary o a) = names_none a
  names_none (Binary o a b) = names_none a && names_none b
  names_none (Mux c a b) = names_none c && (names_none a && names_none b)
  names_none (Cat parts) = all_name_none parts
  names_none (Replicate a count) = names_none a
  names_none (Slice a low high) = names_none a
  names_none (Pick items index) = all_name_none items && names_none index
  -- a word may change, whatever its index is
  names_none (Fetch m width at) = false

  pub all_name_none : Terms → Bool
  all_name_none NoTerm = true
  all_name_none (MoreTerms t ts) = names_none t && all_name_none ts

-- split statements have no index in their targets and no arms
abbrev mutual
  pub reads_none : Stmt → Bool
  reads_none (Assign t e) = names_none e
  reads_none (If bs rest) = branches_read_none bs && block_reads_none rest
  reads_none (Case on arms rest) = false

  pub branches_read_none : Branches → Bool
  branches_read_none NoBranch = true
  branches_read_none (Branch c b more) = names_none c && (block_reads_none b && branches_read_none more)

  pub block_reads_none : Block → Bool
  block_reads_none Done = true
  block_reads_none (Then s ss) = reads_none s && block_reads_none ss

abbrev pub zeros : Values
zeros p = pos 0

-- what statements that read nothing give a signal that was start
abbrev pub constant_of : Shapes → ℕ → ℤ → Block → Term
constant_of s x start b = Constant (result s x start (taken_block s zeros b)) (s x)

-- such statements become one whole assignment of what they give
abbrev pub or_constant : Shapes → ℕ → ℤ → Block → Bool → Block
or_constant s x start Done none = Done
or_constant s x start (Then t ts) false = Then t ts
or_constant s x start (Then t ts) true = one (Assign (Whole x) (constant_of s x start (Then t ts)))

abbrev pub folded : Shapes → ℕ → ℤ → Block → Block
folded s x start b = or_constant s x start b (block_reads_none b)
