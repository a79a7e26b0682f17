-- The statements of one signal among flat ones.
use Rattle.std.specs.Prelude.{ℕ, if◌then◌else◌}
use Rattle.lx_circuit.specs.Terms.{Term}
use Rattle.lx_circuit.specs.Statements.{Stmt, Assign, If, Case, Branches, NoBranch, Branch, Block, Done, Then, is_target}
use Rattle.lx_lowering.specs.Flat.{append, one}

-- a branch and its rest, where one of them has statements
abbrev pub lone_if : Term → Block → Block → Block
lone_if c Done Done = Done
lone_if c b rest = one (If (Branch c b NoBranch) rest)

abbrev mutual
  pub split : ℕ → Stmt → Block
  split x (Assign t e) = if is_target x t then one (Assign t e) else Done
  split x (If bs rest) = split_if x bs (split_block x rest)
  split x (Case on arms rest) = Done

  -- a flat statement has one branch
  pub split_if : ℕ → Branches → Block → Block
  split_if x NoBranch rest = Done
  split_if x (Branch c b more) rest = lone_if c (split_block x b) rest

  pub split_block : ℕ → Block → Block
  split_block x Done = Done
  split_block x (Then s ss) = append (split x s) (split_block x ss)
