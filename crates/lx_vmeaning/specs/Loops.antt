-- What nets depend on in the same moment: no net depends on itself.
use Rattle.std.specs.Prelude.{◌≡◌, ℕ, Bool, true, false, ◌<◌, ◌||◌}
use Rattle.std.specs.Str.{bytes_eq}
use Rattle.lx_vtext.specs.Tree.{Name, VExpr, VExprs, Net, Literal, PartSelect, Word, Unary, Binary, Conditional, Concatenation, Replication, ToSigned, ToUnsigned, NoMore, More, VStmt, Assign, When, VElse, NoElse, Else, VBlock, EndBlock, InBlock, VModule}
use Rattle.lx_vmeaning.specs.Runs.{Driver, Outside, ByAssign, ByBlock, Clocked, Nothing, driver}

-- a net is named in an expression; a memory's word hangs on its index alone
abbrev mutual
  pub reads : Name → VExpr → Bool
  reads n (Net k) = bytes_eq k n
  reads n (Literal bits signed value) = false
  reads n (PartSelect k hi lo) = bytes_eq k n
  reads n (Word k index) = reads n index
  reads n (Unary o a) = reads n a
  reads n (Binary a o b) = reads n a || reads n b
  reads n (Conditional c a b) = reads n c || (reads n a || reads n b)
  reads n (Concatenation a as_) = reads n a || some_reads n as_
  reads n (Replication k a) = reads n a
  reads n (ToSigned a) = reads n a
  reads n (ToUnsigned a) = reads n a

  pub some_reads : Name → VExprs → Bool
  some_reads n NoMore = false
  some_reads n (More a as_) = reads n a || some_reads n as_

abbrev mutual
  pub stmt_reads : Name → VStmt → Bool
  stmt_reads n (Assign t blocking e) = reads n e
  stmt_reads n (When c so other) = reads n c || (block_reads n so || else_reads n other)

  pub else_reads : Name → VElse → Bool
  else_reads n NoElse = false
  else_reads n (Else b) = block_reads n b

  pub block_reads : Name → VBlock → Bool
  block_reads n EndBlock = false
  block_reads n (InBlock s ss) = stmt_reads n s || block_reads n ss

-- what a net depends on in the same moment
abbrev pub driver_reads : Name → Driver → Bool
driver_reads n Outside = false
driver_reads n (ByAssign e) = reads n e
driver_reads n (ByBlock b) = block_reads n b
driver_reads n (Clocked c b) = false
driver_reads n Nothing = false

-- No net depends on itself: a net's rank is above the ranks of all that its driver reads.
pub record HasNoLoop (m : VModule) : Type 0 where
  pub rank : Name → ℕ
  pub falls : (n k : Name) → driver_reads k (driver m n) ≡ true → rank k < rank n
