-- Which places statements and ports read, worked by hand.
use Rattle.std.specs.Prelude.{◌≡◌, ℕ, pos, true, false}
use Rattle.lx_circuit.specs.Places.{At, Word, Kept}
use Rattle.lx_circuit.specs.Terms.{Term, Signal, Slice, Fetch}
use Rattle.lx_circuit.specs.Statements.{Block, Stmt, Done, Then, Assign, If, Branch, NoBranch, Case, NoArm, Arm, Whole, Part, CatTarget, PickTarget, NoTarget, MoreTargets}
use Rattle.lx_circuit.specs.Memories.{Async, WriteFirst, ReadFirst, NoChange}
use Rattle.lx_circuit.specs.Reads.{names, reads, reads_in}
use Rattle.lx_circuit.specs.WorkedMemories.{memory_circuit}

-- signals x and y are assigned, from e; c and d are conditions, and i is an index
abbrev pub x : ℕ
x = 0

abbrev pub y : ℕ
y = 1

abbrev pub c : ℕ
c = 2

abbrev pub d : ℕ
d = 3

abbrev pub e : ℕ
e = 4

abbrev pub i : ℕ
i = 5

-- z.eq(e)
abbrev pub set : ℕ → Block
set z = Then (Assign (Whole z) (Signal e)) Done

-- If(c, x.eq(e)).Elif(d, y.eq(e))
abbrev pub branches : Stmt
branches = If (Branch (Signal c) (set x) (Branch (Signal d) (set y) NoBranch)) Done

-- If(c, y.eq(i)).Elif(d, y.eq(i)).Else(x.eq(e))
abbrev pub with_rest : Stmt
with_rest =
    let other = Then (Assign (Whole y) (Signal i)) Done in
    If (Branch (Signal c) other (Branch (Signal d) other NoBranch)) (set x)

-- If(c, If(d, x.eq(e)))
abbrev pub around : Stmt
around = If (Branch (Signal c) (Then (If (Branch (Signal d) (set x) NoBranch) Done) Done) NoBranch) Done

-- Case(c, {"default": x.eq(e)})
abbrev pub default_alone : Stmt
default_alone = Case (Signal c) NoArm (set x)

-- Case(c, {0: y.eq(e)})
abbrev pub arm_alone : Stmt
arm_alone = Case (Signal c) (Arm (pos 0) (set y) NoArm) Done

-- Cat(x, Array([y, d])[i]).eq(e)
abbrev pub index_inside : Stmt
index_inside =
    Assign
    (CatTarget (MoreTargets (Whole x) (MoreTargets (PickTarget (MoreTargets (Whole y) (MoreTargets (Whole d) NoTarget)) (Signal i)) NoTarget)))
    (Signal e)

-- Array([x, y])[i].eq(e)
abbrev pub items : Stmt
items = Assign (PickTarget (MoreTargets (Whole x) (MoreTargets (Whole y) NoTarget)) (Signal i)) (Signal e)

-- x[0:4].eq(x[4:8])
abbrev pub of_itself : Stmt
of_itself = Assign (Part x 0 4) (Slice (Signal x) 4 8)

-- the word of memory 1 at i
abbrev pub word : Term
word = Fetch 1 8 (Signal i)

-- What is read.
pub record AreRead : Type 0 where
  pub value : reads x (At e) branches ≡ true
  pub condition : reads x (At c) branches ≡ true
  pub later_condition : reads x (At d) branches ≡ false
  pub earlier_condition : reads y (At c) branches ≡ true
  pub own_condition : reads y (At d) branches ≡ true
  pub condition_of_others : reads i (At c) branches ≡ false
  pub value_of_rest : reads x (At e) with_rest ≡ true
  pub value_of_others : reads x (At i) with_rest ≡ false
  pub first_of_rest : reads x (At c) with_rest ≡ true
  pub second_of_rest : reads x (At d) with_rest ≡ true
  pub condition_around : reads x (At c) around ≡ true
  pub condition_inside : reads x (At d) around ≡ true
  pub case_of_default : reads x (At c) default_alone ≡ true
  pub case_of_arm : reads y (At c) arm_alone ≡ true
  pub case_of_others : reads x (At c) arm_alone ≡ false
  pub index_of_a_part : reads x (At i) index_inside ≡ true
  pub index_of_items : reads x (At i) items ≡ true
  pub other_item : reads x (At y) items ≡ false
  pub itself : reads x (At x) of_itself ≡ true
  pub assigned_elsewhere : reads x (At e) (Assign (Whole y) (Signal e)) ≡ false
  pub no_condition : reads x (At c) (Assign (Whole x) (Signal e)) ≡ false
  -- any word of the memory, and the index
  pub word_named : names (Word 1 3) word ≡ true
  pub word_of_another : names (Word 0 3) word ≡ false
  pub index_named : names (At i) word ≡ true
  -- the number of a memory is no signal
  pub no_signal_named : names (At 1) word ≡ false
  pub nothing_kept_named : names (Kept 1) word ≡ false
  -- dat_r is signal 1, adr signal 0, of memory 0
  pub async_address : reads_in (memory_circuit Async) 1 (At 0) ≡ true
  pub async_word : reads_in (memory_circuit Async) 1 (Word 0 2) ≡ true
  pub async_kept : reads_in (memory_circuit Async) 1 (Kept 0) ≡ false
  pub write_first_address : reads_in (memory_circuit WriteFirst) 1 (At 0) ≡ false
  pub write_first_word : reads_in (memory_circuit WriteFirst) 1 (Word 0 2) ≡ true
  pub write_first_kept : reads_in (memory_circuit WriteFirst) 1 (Kept 0) ≡ true
  pub read_first_word : reads_in (memory_circuit ReadFirst) 1 (Word 0 2) ≡ false
  pub read_first_kept : reads_in (memory_circuit ReadFirst) 1 (Kept 0) ≡ true
  pub no_change_kept : reads_in (memory_circuit NoChange) 1 (Kept 0) ≡ true
  pub address_reads_nothing : reads_in (memory_circuit Async) 0 (Word 0 2) ≡ false
