-- What statements for one signal make of its pattern.
use Rattle.std.proofs.Common.{◌≡◌, ℕ, Bool, true, false, not, ◌&&◌, ◌||◌, List, [], ◌∷◌, length, drop, get_or, cond, refl, sym, ◌∙◌, ap, subst, arith, ◌<◌, ◌≤◌, ◌+◌}
use Rattle.std.specs.Prelude.{ℤ, pos, Some, slice_get}
use Rattle.std.proofs.Math.ListN.{drop_of_length-le}
use Rattle.std.proofs.lemmas.Bool.{and_parts, and_from, or_left, or_right}
use Rattle.std.proofs.lemmas.Option.{slice_get-get_or}
use Rattle.lx_arena.proofs.Places.{lower_at}
use Rattle.lx_circuit.specs.Places.{Values, At}
use Rattle.lx_circuit.specs.Values.{is_zero, value_of}
use Rattle.lx_circuit.specs.Statements as tree
use Rattle.lx_circuit.specs.Statements.{after_pieces, pieces, taken, taken_block, drives, drives_block, is_target}
use Rattle.lx_circuit.specs.Reads.{names, reads, reads_block, target_names}
use Rattle.lx_circuit.proofs.Cases.{after_append}
use Rattle.lx_fhdl.specs.Below.{ExprId, StmtId, TargetId, all_stmts_below, stmt_below}
use Rattle.lx_fhdl.specs.Designs.{block, shapes, stmt, target, term}
use Rattle.lx_fhdl.specs.Lowered.{are_for, is_for}
use Rattle.lx_fhdl.specs.Nodes.{value_at}
use Rattle.lx_fhdl.specs.declared.stmts.Arm.{Arm}
use Rattle.lx_fhdl.specs.declared.stmts.Branch.{Branch}
use Rattle.lx_fhdl.specs.declared.stmts.Stmt.TheVariants as node
use Rattle.lx_fhdl.specs.declared.design.Design.{Design}
use Rattle.lx_sheet.proofs.Inside.{assign_for, stmt_is}
use Rattle.lx_sheet.proofs.Lines.{drop_at}
use Rattle.lx_emission.proofs.BlockReads.{plain_is_target}
use Rattle.lx_emission.proofs.Pieces.{both_are_for}
use Rattle.lx_sim.specs.Blocks.{AreRight, BlockReads, IsBlockRun, IsOwnBlock, IsOwnStmt, IsOwnTarget, IsPattern, IsStmtRun, IsTargetRun, StmtReads}

-- ---- assignments

assign_is : (d : Design) (x : ℕ) (known : List ℤ) (id : StmtId) (t : TargetId) (value : ExprId) (line : ℕ) → IsOwnStmt d x known id → slice_get d.stmts id.place ≡ Some (node.Assign t value line)
    → stmt d id.place ≡ tree.Assign (target d t.place) (term d value.place)
assign_is d x known id t value line own found = stmt_is d id.place (node.Assign t value line) own.keeps found

pub own_target : (d : Design) (x : ℕ) (known : List ℤ) (id : StmtId) (t : TargetId) (value : ExprId) (line : ℕ) → IsOwnStmt d x known id → slice_get d.stmts id.place ≡ Some (node.Assign t value line) → IsOwnTarget d x t
own_target d x known id t value line own found = record {
  keeps = own.keeps;
  within = (own.keeps.arenas.stmts id.place (node.Assign t value line) found).0;
  alone = sym (assign_for d id.place x t value line own.keeps found) ∙ own.alone;
}

pub value_within : (d : Design) (x : ℕ) (known : List ℤ) (id : StmtId) (t : TargetId) (value : ExprId) (line : ℕ) → IsOwnStmt d x known id → slice_get d.stmts id.place ≡ Some (node.Assign t value line) → value.place < length known
value_within d x known id t value line own found = let l = (own.keeps.arenas.stmts id.place (node.Assign t value line) found).1 in omega (arith, l, own.long)

pub assign_run : (d : Design) (x : ℕ) (known : List ℤ) (id : StmtId) (t : TargetId) (value : ExprId) (line : ℕ) (p r : ℤ) → IsOwnStmt d x known id → slice_get d.stmts id.place ≡ Some (node.Assign t value line)
    → IsTargetRun d x t (value_at known value.place) p r → IsStmtRun d x known id p r
assign_run d x known id t value line p r own found run =
    let same = assign_is d x known id t value line own found in
    let aimed = plain_is_target x (target d t.place) (own_target d x known id t value line own found).alone in
    record {
      pattern = run.pattern;
      is = λ v test right reads q pq.
          let here : StmtReads x (tree.Assign (target d t.place) (term d value.place)) test = subst (λ (s : tree.Stmt). StmtReads x s test) same reads in
          let known_is = right.each value.place ((own.keeps.arenas.stmts id.place (node.Assign t value line) found).1)
          (λ y e. here y (and_from (is_target x (target d t.place)) (names (At y) (term d value.place) || target_names (At y) (target d t.place)) aimed (or_left (names (At y) (term d value.place)) (target_names (At y) (target d t.place)) e))) in
          run.is v q pq
          ∙ ap (λ (z : ℤ). pos (after_pieces x q (pieces (shapes d) v (target d t.place) z))) known_is
          ∙ ap (λ (s : tree.Stmt). pos (after_pieces x q (taken (shapes d) v s))) (sym same);
    }

-- ---- statements for a signal drive it

for_drives : (x : ℕ) (s : tree.Stmt) → is_for x s ≡ true → drives x s ≡ true
for_drives x (tree.Assign t e) h = plain_is_target x t h
for_drives x (tree.If tree.NoBranch rest) h = absurd cc
for_drives x (tree.If (tree.Branch c b (tree.Branch d a more)) rest) h = absurd cc
for_drives x (tree.If (tree.Branch c (tree.Then s ss) tree.NoBranch) rest) h =
    let both = both_are_for x c (tree.Then s ss) rest h in
    or_left (drives_block x (tree.Then s ss) || false) (drives_block x rest)
    (or_left (drives_block x (tree.Then s ss)) false (or_left (drives x s) (drives_block x ss) (for_drives x s (and_parts (is_for x s) (are_for x ss) both.0).0)))
for_drives x (tree.If (tree.Branch c tree.Done tree.NoBranch) (tree.Then s ss)) h =
    let both = both_are_for x c tree.Done (tree.Then s ss) h in
    or_right (drives_block x tree.Done || false) (drives_block x (tree.Then s ss)) (or_left (drives x s) (drives_block x ss) (for_drives x s (and_parts (is_for x s) (are_for x ss) both.1).0))
for_drives x (tree.If (tree.Branch c tree.Done tree.NoBranch) tree.Done) h = absurd cc
for_drives x (tree.Case on arms rest) h = absurd cc

-- ---- conditions

if_is : (d : Design) (x : ℕ) (known : List ℤ) (id : StmtId) (b : Branch) (rest : List StmtId) (line : ℕ) → IsOwnStmt d x known id → slice_get d.stmts id.place ≡ Some (node.If (b ∷ []) rest line)
    → stmt d id.place ≡ tree.If (tree.Branch (term d b.cond.place) (block d b.body) tree.NoBranch) (block d rest)
if_is d x known id b rest line own found = stmt_is d id.place (node.If (b ∷ []) rest line) own.keeps found

both_for : (d : Design) (x : ℕ) (known : List ℤ) (id : StmtId) (b : Branch) (rest : List StmtId) (line : ℕ) → IsOwnStmt d x known id → slice_get d.stmts id.place ≡ Some (node.If (b ∷ []) rest line)
    → (are_for x (block d b.body) ≡ true) × (are_for x (block d rest) ≡ true)
both_for d x known id b rest line own found =
    both_are_for x (term d b.cond.place) (block d b.body) (block d rest) (subst (λ (s : tree.Stmt). is_for x s ≡ true) (if_is d x known id b rest line own found) own.alone)

pub own_body : (d : Design) (x : ℕ) (known : List ℤ) (id : StmtId) (b : Branch) (rest : List StmtId) (line : ℕ) → IsOwnStmt d x known id → slice_get d.stmts id.place ≡ Some (node.If (b ∷ []) rest line) → IsOwnBlock d x known b.body
own_body d x known id b rest line own found = record { keeps = own.keeps; alone = (both_for d x known id b rest line own found).0; long = own.long }

pub own_rest : (d : Design) (x : ℕ) (known : List ℤ) (id : StmtId) (b : Branch) (rest : List StmtId) (line : ℕ) → IsOwnStmt d x known id → slice_get d.stmts id.place ≡ Some (node.If (b ∷ []) rest line) → IsOwnBlock d x known rest
own_rest d x known id b rest line own found = record { keeps = own.keeps; alone = (both_for d x known id b rest line own found).1; long = own.long }

pub cond_within : (d : Design) (x : ℕ) (known : List ℤ) (id : StmtId) (b : Branch) (rest : List StmtId) (line : ℕ) → IsOwnStmt d x known id → slice_get d.stmts id.place ≡ Some (node.If (b ∷ []) rest line) → b.cond.place < length known
cond_within d x known id b rest line own found = let l = (own.keeps.arenas.stmts id.place (node.If (b ∷ []) rest line) found).0 in omega (arith, l, own.long)

-- the condition has its value
cond_right : (d : Design) (x : ℕ) (known : List ℤ) (id : StmtId) (b : Branch) (rest : List StmtId) (line : ℕ) (v : Values) (test : ℕ → Bool) → IsOwnStmt d x known id → slice_get d.stmts id.place ≡ Some (node.If (b ∷ []) rest line)
    → AreRight d v known test → StmtReads x (stmt d id.place) test → value_at known b.cond.place ≡ value_of (shapes d) v (term d b.cond.place)
cond_right d x known id b rest line v test own found right reads =
    let same = if_is d x known id b rest line own found in
    let c = term d b.cond.place in
    let here = subst (λ (s : tree.Stmt). StmtReads x s test) same reads in
    let alone = subst (λ (s : tree.Stmt). is_for x s ≡ true) same own.alone in
    let driven = or_swap (drives_block x (block d b.body)) (drives_block x (block d rest)) (for_drives x (tree.If (tree.Branch c (block d b.body) tree.NoBranch) (block d rest)) alone) in
    right.each b.cond.place ((own.keeps.arenas.stmts id.place (node.If (b ∷ []) rest line) found).0)
    (λ y e. here y (or_left (names (At y) c && (drives_block x (block d b.body) || (false || drives_block x (block d rest)))) (reads_block x (At y) (block d b.body) || reads_block x (At y) (block d rest))
    (and_from (names (At y) c) (drives_block x (block d b.body) || (false || drives_block x (block d rest))) e driven)))
  where
    or_swap : (a b : Bool) → ((a || false) || b) ≡ true → (a || (false || b)) ≡ true
    or_swap true b h = refl
    or_swap false b h = h

pub taken_run : (d : Design) (x : ℕ) (known : List ℤ) (id : StmtId) (b : Branch) (rest : List StmtId) (line : ℕ) (p r : ℤ) → IsOwnStmt d x known id → slice_get d.stmts id.place ≡ Some (node.If (b ∷ []) rest line)
    → not (is_zero (value_at known b.cond.place)) ≡ true → IsBlockRun d x known b.body p r → IsStmtRun d x known id p r
taken_run d x known id b rest line p r own found holds run =
    let same = if_is d x known id b rest line own found in
    record {
      pattern = run.pattern;
      is = λ v test right reads q pq.
          let here = subst (λ (s : tree.Stmt). StmtReads x s test) same reads in
          let zero : is_zero (value_of (shapes d) v (term d b.cond.place)) ≡ false = flipped (is_zero (value_of (shapes d) v (term d b.cond.place))) (ap (λ (z : ℤ). not (is_zero z)) (sym (cond_right d x known id b rest line v test own found right reads)) ∙ holds) in
          run.is v test right (λ y e. here y (or_right (names (At y) (term d b.cond.place) && (drives_block x (block d b.body) || (false || drives_block x (block d rest)))) (reads_block x (At y) (block d b.body) || reads_block x (At y) (block d rest)) (or_left (reads_block x (At y) (block d b.body)) (reads_block x (At y) (block d rest)) e))) q pq
          ∙ ap (λ (f : Bool). pos (after_pieces x q (cond f (taken_block (shapes d) v (block d rest)) (taken_block (shapes d) v (block d b.body))))) (sym zero)
          ∙ ap (λ (s : tree.Stmt). pos (after_pieces x q (taken (shapes d) v s))) (sym same);
    }
  where
    flipped : (f : Bool) → not f ≡ true → f ≡ false
    flipped true h = absurd cc
    flipped false h = refl

pub passed_run : (d : Design) (x : ℕ) (known : List ℤ) (id : StmtId) (b : Branch) (rest : List StmtId) (line : ℕ) (p r : ℤ) → IsOwnStmt d x known id → slice_get d.stmts id.place ≡ Some (node.If (b ∷ []) rest line)
    → not (is_zero (value_at known b.cond.place)) ≡ false → IsBlockRun d x known rest p r → IsStmtRun d x known id p r
passed_run d x known id b rest line p r own found holds run =
    let same = if_is d x known id b rest line own found in
    record {
      pattern = run.pattern;
      is = λ v test right reads q pq.
          let here = subst (λ (s : tree.Stmt). StmtReads x s test) same reads in
          let zero : is_zero (value_of (shapes d) v (term d b.cond.place)) ≡ true = flipped (is_zero (value_of (shapes d) v (term d b.cond.place))) (ap (λ (z : ℤ). not (is_zero z)) (sym (cond_right d x known id b rest line v test own found right reads)) ∙ holds) in
          run.is v test right (λ y e. here y (or_right (names (At y) (term d b.cond.place) && (drives_block x (block d b.body) || (false || drives_block x (block d rest)))) (reads_block x (At y) (block d b.body) || reads_block x (At y) (block d rest)) (or_right (reads_block x (At y) (block d b.body)) (reads_block x (At y) (block d rest)) e))) q pq
          ∙ ap (λ (f : Bool). pos (after_pieces x q (cond f (taken_block (shapes d) v (block d rest)) (taken_block (shapes d) v (block d b.body))))) (sym zero)
          ∙ ap (λ (s : tree.Stmt). pos (after_pieces x q (taken (shapes d) v s))) (sym same);
    }
  where
    flipped : (f : Bool) → not f ≡ false → f ≡ true
    flipped true h = refl
    flipped false h = absurd cc

-- other forms are none of a lowered design's
pub some_branch : (d : Design) (x : ℕ) (known : List ℤ) (id : StmtId) (bs : List Branch) (rest : List StmtId) (line : ℕ) → IsOwnStmt d x known id → slice_get d.stmts id.place ≡ Some (node.If bs rest line) → 0 < length bs
some_branch d x known id [] rest line own found = let e : false ≡ true = subst (λ (s : tree.Stmt). is_for x s ≡ true) (stmt_is d id.place (node.If [] rest line) own.keeps found) own.alone in absurd cc
some_branch d x known id (b ∷ bs) rest line own found = omega arith

pub lone_branch : (d : Design) (x : ℕ) (known : List ℤ) (id : StmtId) (bs : List Branch) (rest : List StmtId) (line : ℕ) (b : Branch) → IsOwnStmt d x known id → slice_get d.stmts id.place ≡ Some (node.If bs rest line) → slice_get bs 0 ≡ Some b
    → slice_get d.stmts id.place ≡ Some (node.If (b ∷ []) rest line)
lone_branch d x known id [] rest line b own found e = absurd cc
lone_branch d x known id (a ∷ []) rest line b own found e = let same : a ≡ b = cc in found ∙ ap (λ (c : Branch). Some (node.If (c ∷ []) rest line)) same
lone_branch d x known id (a ∷ (c ∷ cs)) rest line b own found e =
    let f : false ≡ true = subst (λ (s : tree.Stmt). is_for x s ≡ true) (stmt_is d id.place (node.If (a ∷ (c ∷ cs)) rest line) own.keeps found) own.alone in absurd cc

pub no_case : (d : Design) (x : ℕ) (known : List ℤ) (id : StmtId) (on : ExprId) (arms : List Arm) (rest : List StmtId) (line : ℕ) → IsOwnStmt d x known id → slice_get d.stmts id.place ≡ Some (node.Case on arms rest line) → ⊥
no_case d x known id on arms rest line own found =
    let e : false ≡ true = subst (λ (s : tree.Stmt). is_for x s ≡ true) (stmt_is d id.place (node.Case on arms rest line) own.keeps found) own.alone in absurd cc

pub body_below : (d : Design) (x : ℕ) (known : List ℤ) (id : StmtId) (b : Branch) (rest : List StmtId) (line : ℕ) → IsOwnStmt d x known id → slice_get d.stmts id.place ≡ Some (node.If (b ∷ []) rest line) → all_stmts_below id.place b.body ≡ true
body_below d x known id b rest line own found =
    let low = lower_at stmt_below d.stmts own.keeps.arenas.stmts_lower id.place (node.If (b ∷ []) rest line) found in
    (and_parts (all_stmts_below id.place b.body) true (and_parts (all_stmts_below id.place b.body && true) (all_stmts_below id.place rest) low).0).0

pub rest_below : (d : Design) (x : ℕ) (known : List ℤ) (id : StmtId) (b : Branch) (rest : List StmtId) (line : ℕ) → IsOwnStmt d x known id → slice_get d.stmts id.place ≡ Some (node.If (b ∷ []) rest line) → all_stmts_below id.place rest ≡ true
rest_below d x known id b rest line own found =
    let low = lower_at stmt_below d.stmts own.keeps.arenas.stmts_lower id.place (node.If (b ∷ []) rest line) found in
    (and_parts (all_stmts_below id.place b.body && true) (all_stmts_below id.place rest) low).1

-- ---- lists

-- what is left of a list of statements
pub record RunsTo (d : Design) (x : ℕ) (known : List ℤ) (ids left : List StmtId) (p now : ℤ) : Type 0 where
  pub pattern : IsPattern now
  pub own : IsOwnBlock d x known left
  pub reads : (y : ℕ) → reads_block x (At y) (block d left) ≡ true → reads_block x (At y) (block d ids) ≡ true
  pub is : (v : Values) (test : ℕ → Bool) → AreRight d v known test → BlockReads x (block d ids) test → (q : ℕ) → p ≡ pos q
      → (k : ℕ) × (now ≡ pos k) × (after_pieces x q (taken_block (shapes d) v (block d ids)) ≡ after_pieces x k (taken_block (shapes d) v (block d left)))

pub runs_start : (d : Design) (x : ℕ) (known : List ℤ) (ids : List StmtId) (p : ℤ) → IsOwnBlock d x known ids → IsPattern p → RunsTo d x known ids ids p p
runs_start d x known ids p own pattern = record { pattern = pattern; own = own; reads = λ y e. e; is = λ v test right reads q pq. (q, pq, refl) }

pub runs_first : (d : Design) (x : ℕ) (known : List ℤ) (ids left : List StmtId) (i : StmtId) (p now : ℤ) → RunsTo d x known ids (i ∷ left) p now → i.place < length d.stmts → IsOwnStmt d x known i
runs_first d x known ids left i p now runs within = record { keeps = runs.own.keeps; within = within; alone = (and_parts (is_for x (stmt d i.place)) (are_for x (block d left)) runs.own.alone).0; long = runs.own.long }

pub runs_more : (d : Design) (x : ℕ) (known : List ℤ) (ids left : List StmtId) (i : StmtId) (p now r : ℤ) → RunsTo d x known ids (i ∷ left) p now → IsStmtRun d x known i now r → RunsTo d x known ids left p r
runs_more d x known ids left i p now r runs run = record {
  pattern = run.pattern;
  own = record { keeps = runs.own.keeps; alone = (and_parts (is_for x (stmt d i.place)) (are_for x (block d left)) runs.own.alone).1; long = runs.own.long };
  reads = λ y e. runs.reads y (or_right (reads x (At y) (stmt d i.place)) (reads_block x (At y) (block d left)) e);
  is = λ v test right reads_all q pq.
      let before = runs.is v test right reads_all q pq in
      let here = taken (shapes d) v (stmt d i.place) in (
        after_pieces x before.0 here,
        run.is v test right (λ y e. reads_all y (runs.reads y (or_left (reads x (At y) (stmt d i.place)) (reads_block x (At y) (block d left)) e))) before.0 before.1,
        before.2 ∙ after_append x before.0 here (taken_block (shapes d) v (block d left)),
      );
}

-- the next of a list
pub runs_at : (d : Design) (x : ℕ) (known : List ℤ) (ids : List StmtId) (k : ℕ) (other : StmtId) (p now : ℤ) → RunsTo d x known ids (drop k ids) p now → k < length ids → RunsTo d x known ids (get_or ids k other ∷ drop (k + 1) ids) p now
runs_at d x known ids k other p now runs l = subst (λ (is : List StmtId). RunsTo d x known ids is p now) (drop_at ids k (get_or ids k other) (slice_get-get_or ids k other l)) runs

pub runs_out : (d : Design) (x : ℕ) (known : List ℤ) (ids : List StmtId) (k : ℕ) (p now : ℤ) → RunsTo d x known ids (drop k ids) p now → length ids ≤ k → RunsTo d x known ids [] p now
runs_out d x known ids k p now runs l = subst (λ (is : List StmtId). RunsTo d x known ids is p now) (drop_of_length-le ids l) runs

pub runs_end : (d : Design) (x : ℕ) (known : List ℤ) (ids : List StmtId) (p now : ℤ) → RunsTo d x known ids [] p now → IsBlockRun d x known ids p now
runs_end d x known ids p now runs = record {
  pattern = runs.pattern;
  is = λ v test right reads q pq.
      let last = runs.is v test right reads q pq in
      last.1 ∙ ap pos (sym last.2);
}
