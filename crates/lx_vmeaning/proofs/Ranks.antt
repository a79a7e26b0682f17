-- A module has no loop where all that a driver reads has a lower rank, as a test says.
use Rattle.std.proofs.Common.{◌≡◌, ℕ, ◌<◌, Bool, true, false, ◌&&◌, ◌||◌, cond, nat_lt, refl, subst}
use Rattle.std.specs.Prelude.{List, [], ◌∷◌, ◌++◌, Option, Some, None}
use Rattle.std.specs.List.{list_all}
use Rattle.std.specs.Str.{bytes_eq}
use Rattle.std.proofs.lemmas.Bool.{and_parts, ltb-true}
use Rattle.std.proofs.lemmas.Slice.Eq.{bytes_eq-Decides}
use Rattle.lx_vtext.specs.Tree.{Name, VExpr, VExprs, Net, Literal, PartSelect, Word, Unary, Binary, Conditional, Concatenation, Replication, ToSigned, ToUnsigned, NoMore, More, VStmt, Assign, When, VElse, NoElse, Else, VBlock, EndBlock, InBlock, VPort, VAssign, VAlways, VModule}
use Rattle.lx_vmeaning.specs.Runs.{Driver, Outside, ByAssign, target_name, sets_stmt, sets_else, sets_block, always_driver, outside_drivers, assign_drivers, block_drivers, first_driver, driver}
use Rattle.lx_vmeaning.specs.Loops.{reads, some_reads, stmt_reads, else_reads, block_reads, driver_reads}
use Rattle.lx_vmeaning.proofs.Frames.{some_of}

-- all nets that are read, and all names that are assigned, pass a test
abbrev mutual
  all_read : (Name → Bool) → VExpr → Bool
  all_read f (Net n) = f n
  all_read f (Literal bits signed value) = true
  all_read f (PartSelect n hi lo) = f n
  all_read f (Word n index) = all_read f index
  all_read f (Unary o a) = all_read f a
  all_read f (Binary a o b) = all_read f a && all_read f b
  all_read f (Conditional c a b) = all_read f c && (all_read f a && all_read f b)
  all_read f (Concatenation a as_) = all_read f a && some_all f as_
  all_read f (Replication k a) = all_read f a
  all_read f (ToSigned a) = all_read f a
  all_read f (ToUnsigned a) = all_read f a

  some_all : (Name → Bool) → VExprs → Bool
  some_all f NoMore = true
  some_all f (More a as_) = all_read f a && some_all f as_

abbrev mutual
  stmt_all : (Name → Bool) → VStmt → Bool
  stmt_all f (Assign t blocking e) = all_read f e
  stmt_all f (When c so other) = all_read f c && (block_all f so && else_all f other)

  else_all : (Name → Bool) → VElse → Bool
  else_all f NoElse = true
  else_all f (Else b) = block_all f b

  block_all : (Name → Bool) → VBlock → Bool
  block_all f EndBlock = true
  block_all f (InBlock s ss) = stmt_all f s && block_all f ss

abbrev mutual
  stmt_sets_all : (Name → Bool) → VStmt → Bool
  stmt_sets_all f (Assign t blocking e) = f (target_name t)
  stmt_sets_all f (When c so other) = block_sets_all f so && else_sets_all f other

  else_sets_all : (Name → Bool) → VElse → Bool
  else_sets_all f NoElse = true
  else_sets_all f (Else b) = block_sets_all f b

  block_sets_all : (Name → Bool) → VBlock → Bool
  block_sets_all f EndBlock = true
  block_sets_all f (InBlock s ss) = stmt_sets_all f s && block_sets_all f ss

-- a name is above all that an expression, or a block, reads
abbrev is_above : (Name → ℕ) → Name → Name → Bool
is_above rank n k = nat_lt (rank k) (rank n)

abbrev comb_ranked : (Name → ℕ) → Option Name → VBlock → Bool
comb_ranked rank None b = block_sets_all (λ n. block_all (is_above rank n) b) b
comb_ranked rank (Some c) b = true

abbrev pub assigns_ranked : (Name → ℕ) → List VAssign → Bool
assigns_ranked rank as_ = list_all (λ a. all_read (is_above rank a.name) a.value) as_

abbrev pub blocks_ranked : (Name → ℕ) → List VAlways → Bool
blocks_ranked rank as_ = list_all (λ a. comb_ranked rank a.clock a.body) as_

-- ---- what the tests say

named : (f : Name → Bool) (n k : Name) → f n ≡ true → bytes_eq n k ≡ true → f k ≡ true
named f n k h e = subst (λ (i : Name). f i ≡ true) ((bytes_eq-Decides n k).0 e) h

mutual
  read_passes : (f : Name → Bool) (k : Name) (e : VExpr) → all_read f e ≡ true → reads k e ≡ true → f k ≡ true
  read_passes f k (Net n) h r = named f n k h r
  read_passes f k (Literal bits signed value) h r = absurd cc
  read_passes f k (PartSelect n hi lo) h r = named f n k h r
  read_passes f k (Word n index) h r = read_passes f k index h r
  read_passes f k (Unary o a) h r = read_passes f k a h r
  read_passes f k (Binary a o b) h r =
      let p = and_parts (all_read f a) (all_read f b) h in
      some_of (reads k a) (reads k b) r (read_passes f k a p.0) (read_passes f k b p.1)
  read_passes f k (Conditional c a b) h r =
      let p = and_parts (all_read f c) (all_read f a && all_read f b) h in
      let q = and_parts (all_read f a) (all_read f b) p.1 in
      some_of (reads k c) (reads k a || reads k b) r (read_passes f k c p.0) (λ s. some_of (reads k a) (reads k b) s (read_passes f k a q.0) (read_passes f k b q.1))
  read_passes f k (Concatenation a as_) h r =
      let p = and_parts (all_read f a) (some_all f as_) h in
      some_of (reads k a) (some_reads k as_) r (read_passes f k a p.0) (some_pass f k as_ p.1)
  read_passes f k (Replication c a) h r = read_passes f k a h r
  read_passes f k (ToSigned a) h r = read_passes f k a h r
  read_passes f k (ToUnsigned a) h r = read_passes f k a h r

  some_pass : (f : Name → Bool) (k : Name) (es : VExprs) → some_all f es ≡ true → some_reads k es ≡ true → f k ≡ true
  some_pass f k NoMore h r = absurd cc
  some_pass f k (More a as_) h r =
      let p = and_parts (all_read f a) (some_all f as_) h in
      some_of (reads k a) (some_reads k as_) r (read_passes f k a p.0) (some_pass f k as_ p.1)

mutual
  stmt_passes : (f : Name → Bool) (k : Name) (s : VStmt) → stmt_all f s ≡ true → stmt_reads k s ≡ true → f k ≡ true
  stmt_passes f k (Assign t blocking e) h r = read_passes f k e h r
  stmt_passes f k (When c so other) h r =
      let p = and_parts (all_read f c) (block_all f so && else_all f other) h in
      let q = and_parts (block_all f so) (else_all f other) p.1 in
      some_of (reads k c) (block_reads k so || else_reads k other) r (read_passes f k c p.0) (λ s. some_of (block_reads k so) (else_reads k other) s (block_passes f k so q.0) (else_passes f k other q.1))

  else_passes : (f : Name → Bool) (k : Name) (s : VElse) → else_all f s ≡ true → else_reads k s ≡ true → f k ≡ true
  else_passes f k NoElse h r = absurd cc
  else_passes f k (Else b) h r = block_passes f k b h r

  block_passes : (f : Name → Bool) (k : Name) (b : VBlock) → block_all f b ≡ true → block_reads k b ≡ true → f k ≡ true
  block_passes f k EndBlock h r = absurd cc
  block_passes f k (InBlock s ss) h r =
      let p = and_parts (stmt_all f s) (block_all f ss) h in
      some_of (stmt_reads k s) (block_reads k ss) r (stmt_passes f k s p.0) (block_passes f k ss p.1)

mutual
  stmt_set : (f : Name → Bool) (n : Name) (s : VStmt) → stmt_sets_all f s ≡ true → sets_stmt n s ≡ true → f n ≡ true
  stmt_set f n (Assign t blocking e) h r = named f (target_name t) n h r
  stmt_set f n (When c so other) h r =
      let p = and_parts (block_sets_all f so) (else_sets_all f other) h in
      some_of (sets_block n so) (sets_else n other) r (block_set f n so p.0) (else_set f n other p.1)

  else_set : (f : Name → Bool) (n : Name) (s : VElse) → else_sets_all f s ≡ true → sets_else n s ≡ true → f n ≡ true
  else_set f n NoElse h r = absurd cc
  else_set f n (Else b) h r = block_set f n b h r

  block_set : (f : Name → Bool) (n : Name) (b : VBlock) → block_sets_all f b ≡ true → sets_block n b ≡ true → f n ≡ true
  block_set f n EndBlock h r = absurd cc
  block_set f n (InBlock s ss) h r =
      let p = and_parts (stmt_sets_all f s) (block_sets_all f ss) h in
      some_of (sets_stmt n s) (sets_block n ss) r (stmt_set f n s p.0) (block_set f n ss p.1)

-- ---- drivers

abbrev Below : (Name → ℕ) → Name → Driver → Type 0
Below rank n r = (k : Name) → driver_reads k r ≡ true → rank k < rank n

of_always : (rank : Name → ℕ) (n : Name) (c : Option Name) (b : VBlock) → comb_ranked rank c b ≡ true → sets_block n b ≡ true → Below rank n (always_driver c b)
of_always rank n None b h s k r = ltb-true (rank k) (rank n) (block_passes (is_above rank n) k b (block_set (λ i. block_all (is_above rank i) b) n b h s) r)
of_always rank n (Some c) b h s k r = absurd cc

of_blocks : (rank : Name → ℕ) (n : Name) (as_ : List VAlways) → blocks_ranked rank as_ ≡ true → Below rank n (first_driver (block_drivers n as_))
of_blocks rank n [] h = λ k r. absurd cc
of_blocks rank n (a ∷ as_) h =
    let p = and_parts (comb_ranked rank a.clock a.body) (blocks_ranked rank as_) h in
    by (sets_block n a.body) refl p.0 (of_blocks rank n as_ p.1)
  where
    by : (b : Bool) → sets_block n a.body ≡ b → comb_ranked rank a.clock a.body ≡ true → Below rank n (first_driver (block_drivers n as_))
        → Below rank n (first_driver (cond b (always_driver a.clock a.body ∷ block_drivers n as_) (block_drivers n as_)))
    by true s t rest = of_always rank n a.clock a.body t s
    by false s t rest = rest

of_assigns : (rank : Name → ℕ) (n : Name) (as_ : List VAssign) (rest : List Driver) → assigns_ranked rank as_ ≡ true → Below rank n (first_driver rest) → Below rank n (first_driver (assign_drivers n as_ ++ rest))
of_assigns rank n [] rest h below = below
of_assigns rank n (a ∷ as_) rest h below =
    let p = and_parts (all_read (is_above rank a.name) a.value) (assigns_ranked rank as_) h in
    by (bytes_eq a.name n) refl p.0 (of_assigns rank n as_ rest p.1 below)
  where
    by : (b : Bool) → bytes_eq a.name n ≡ b → all_read (is_above rank a.name) a.value ≡ true → Below rank n (first_driver (assign_drivers n as_ ++ rest))
        → Below rank n (first_driver (cond b (ByAssign a.value ∷ assign_drivers n as_) (assign_drivers n as_) ++ rest))
    by true e t more = λ k r. subst (λ (i : Name). rank k < rank i) ((bytes_eq-Decides a.name n).0 e) (ltb-true (rank k) (rank a.name) (read_passes (is_above rank a.name) k a.value t r))
    by false e t more = more

of_ports : (rank : Name → ℕ) (n : Name) (ps : List VPort) (rest : List Driver) → Below rank n (first_driver rest) → Below rank n (first_driver (outside_drivers n ps ++ rest))
of_ports rank n [] rest below = below
of_ports rank n (p ∷ ps) rest below = by (p.is_input && bytes_eq p.net.name n) (of_ports rank n ps rest below)
  where
    by : (b : Bool) → Below rank n (first_driver (outside_drivers n ps ++ rest)) → Below rank n (first_driver (cond b (Outside ∷ outside_drivers n ps) (outside_drivers n ps) ++ rest))
    by true more = λ k r. absurd cc
    by false more = more

-- where the tests hold, a net's rank is above those of all that its driver reads
pub ranks_fall : (m : VModule) (rank : Name → ℕ) → assigns_ranked rank m.assigns ≡ true → blocks_ranked rank m.always ≡ true → (n k : Name) → driver_reads k (driver m n) ≡ true → rank k < rank n
ranks_fall m rank assigns blocks n =
    of_ports rank n m.ports (assign_drivers n m.assigns ++ block_drivers n m.always) (of_assigns rank n m.assigns (block_drivers n m.always) assigns (of_blocks rank n m.always blocks))
