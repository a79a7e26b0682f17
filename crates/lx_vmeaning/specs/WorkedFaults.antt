-- Modules that have no cycle meaning, each one step away from a module that has one.
use Rattle.std.specs.Prelude.{◌≡◌, ℕ, Bool, true, false, List, [], ◌∷◌, ◌++◌, codes}
use Rattle.lx_vtext.specs.declared.operators.BinOp.TheVariants as op
use Rattle.lx_vtext.specs.Tree.{Name, VExpr, Net, PartSelect, Word, Binary, Replication, Whole, Part, WholeWord, Assign, When, NoElse, VBlock, EndBlock, InBlock, VDecl, NetDecl, MemoryDecl, VSet, VAssign, VAlways, VModule}
use Rattle.lx_vtext.specs.Printed.{module_text}
use Rattle.lx_vmeaning.specs.Cycle.{HasCycleMeaning}
use Rattle.lx_vmeaning.specs.Samples.{wire, literal, register, input, output, number, assign, at_rise, always, one_line, set_line, c, m, q, r, s}

abbrev pub a : Name
a = codes "a"

abbrev pub y : Name
y = codes "y"

abbrev pub zero_register : ℕ → Name → VDecl
zero_register bits n = NetDecl (register bits n (literal 4 false 0))

abbrev pub memory : ℕ → Name → VDecl
memory bits n = MemoryDecl (record { bits = bits; name = n; depth = 2 })

abbrev pub word_line : ℕ → VSet
word_line k = set_line m k (literal 4 false 9)

-- s = 4'd0; s = (a + y);
abbrev pub sum : VBlock
sum = InBlock (Assign (Whole s) true (number 4 0)) (one_line (Assign (Whole s) true (Binary (Net a) op.Add (Net y))))

abbrev pub keeps : VBlock
keeps = one_line (Assign (Whole q) false (Net s))

abbrev pub writes : VBlock
writes = one_line (Assign (WholeWord m (PartSelect a 0 0)) false (Net q))

-- what can be changed: more declarations, the initial blocks, assigns, and blocks
abbrev pub made : List VDecl → List (List VSet) → List VAssign → List VAlways → VModule
made more inits assigns blocks = record {
  ports = input 1 c ∷ input 4 a ∷ output 4 y ∷ [];
  decls = zero_register 4 q ∷ zero_register 4 s ∷ memory 4 m ∷ more;
  inits = inits;
  assigns = assigns;
  always = blocks;
}

abbrev pub lines : List (List VSet)
lines = (word_line 0 ∷ word_line 1 ∷ []) ∷ []

abbrev pub value : VExpr
value = Binary (Net a) op.Add (Net q)

abbrev pub blocks : List VAlways
blocks = always sum ∷ at_rise c keeps ∷ at_rise c writes ∷ []

-- y = (a + q) beside these blocks
abbrev pub plain : VModule
plain = made [] lines (assign y value ∷ []) blocks

abbrev pub plain_text : List ℕ
plain_text =
    codes "module top (\n    input wire c,\n    input wire [3:0] a,\n    output wire [3:0] y\n);\nreg [3:0] q = 4'd0;\n"
    ++ codes "reg [3:0] s = 4'd0;\nreg [3:0] m [0:1];\ninitial begin\n    m[0] = 4'd9;\n    m[1] = 4'd9;\nend\n"
    ++ codes "assign y = (a + q);\nalways @(*) begin\n    s = 4'd0;\n    s = (a + y);\nend\nalways @(posedge c) begin\n"
    ++ codes "    q <= s;\nend\nalways @(posedge c) begin\n    m[a[0:0]] <= q;\nend\nendmodule\n"

abbrev pub declaring : VDecl → VModule
declaring x = made (x ∷ []) lines (assign y value ∷ []) blocks

abbrev pub reading : VExpr → VModule
reading e = made [] lines (assign y e ∷ []) blocks

abbrev pub assigning : VAssign → VModule
assigning x = made [] lines (assign y value ∷ x ∷ []) blocks

abbrev pub setting : List (List VSet) → VModule
setting inits = made [] inits (assign y value ∷ []) blocks

-- in place of the block of `always @(*)`, and of the first clocked one
abbrev pub combining : VBlock → VModule
combining b = made [] lines (assign y value ∷ []) (always b ∷ at_rise c keeps ∷ at_rise c writes ∷ [])

abbrev pub clocking : Name → VBlock → VModule
clocking clock b = made [] lines (assign y value ∷ []) (always sum ∷ at_rise clock b ∷ at_rise c writes ∷ [])

-- a further block
abbrev pub acting : VAlways → VModule
acting x = made [] lines (assign y value ∷ []) (blocks ++ x ∷ [])

-- a further register, and a further block
abbrev pub acting_on : VDecl → VAlways → VModule
acting_on x b = made (x ∷ []) lines (assign y value ∷ []) (blocks ++ b ∷ [])

abbrev pub HasNone : VModule → Type 0
HasNone x = HasCycleMeaning x → ⊥

-- 129'b11..1
abbrev pub too_wide : VExpr
too_wide = Replication 129 (number 1 1)

abbrev pub sets : Bool → Name → VExpr → VBlock
sets blocking n e = one_line (Assign (Whole n) blocking e)

-- The plain module has a cycle meaning, and none of the others has one.
pub record FaultsAreRefused : Type 0 where
  pub plain_has_meaning : HasCycleMeaning plain
  pub plain_has_text : module_text plain ≡ plain_text
  -- names
  pub declared_twice : HasNone (declaring (memory 4 q))
  pub undeclared : HasNone (reading (Net r))
  pub memory_read_as_net : HasNone (reading (Net m))
  pub net_read_as_memory : HasNone (reading (Word a (number 1 0)))
  pub select_past_the_top : HasNone (reading (PartSelect a 4 0))
  pub select_turned : HasNone (reading (PartSelect a 0 1))
  pub clock_read : HasNone (reading (Net c))
  pub register_assigned : HasNone (assigning (assign q (number 4 0)))
  pub wire_in_a_block : HasNone (acting_on (NetDecl (wire 4 r)) (at_rise c (sets false r (Net a))))
  pub clock_is_no_input : HasNone (clocking y keeps)
  pub net_in_an_initial_block : HasNone (setting (lines ++ (set_line q 0 (literal 4 false 0) ∷ []) ∷ []))
  -- widths
  pub wide_net : HasNone (acting_on (zero_register 128 r) (at_rise c (sets false r (Net a))))
  pub wide_memory : HasNone (made (memory 128 r ∷ []) (lines ++ (set_line r 0 (literal 4 false 0) ∷ set_line r 1 (literal 4 false 0) ∷ []) ∷ []) (assign y value ∷ []) blocks)
  pub net_of_no_bits : HasNone (acting_on (zero_register 0 r) (at_rise c (sets false r (Net a))))
  pub expression_of_no_bits : HasNone (reading (Replication 0 (Net a)))
  pub wide_expression : HasNone (reading too_wide)
  pub wide_operand : HasNone (reading (Binary (Net a) op.Less too_wide))
  pub wide_amount : HasNone (reading (Binary (Net a) op.ShiftLeft too_wide))
  pub wide_index : HasNone (reading (Word m too_wide))
  pub wide_condition : HasNone (clocking c (one_line (When too_wide keeps NoElse)))
  -- drivers
  pub not_driven : HasNone (declaring (NetDecl (wire 4 r)))
  pub driven_twice : HasNone (assigning (assign y (number 4 0)))
  pub driven_by_two_blocks : HasNone (acting (at_rise c keeps))
  pub input_driven : HasNone (assigning (assign a (number 4 0)))
  pub memory_written_twice : HasNone (acting (at_rise c writes))
  -- blocks
  pub no_initial_block : HasNone (setting [])
  pub two_initial_blocks : HasNone (setting (lines ++ lines))
  pub word_left_out : HasNone (setting ((word_line 0 ∷ []) ∷ []))
  pub words_turned : HasNone (setting ((word_line 1 ∷ word_line 0 ∷ []) ∷ []))
  pub word_twice : HasNone (setting ((word_line 0 ∷ word_line 0 ∷ []) ∷ []))
  pub empty_initial_block : HasNone (setting (lines ++ [] ∷ []))
  pub no_target : HasNone (acting (at_rise c EndBlock))
  pub two_targets : HasNone (made (zero_register 4 r ∷ []) lines (assign y value ∷ []) (always sum ∷ at_rise c (InBlock (Assign (Whole q) false (Net s)) (sets false r (Net a))) ∷ at_rise c writes ∷ []))
  pub nonblocking : HasNone (combining (InBlock (Assign (Whole s) true (number 4 0)) (sets false s (Net a))))
  pub blocking : HasNone (clocking c (sets true q (Net s)))
  pub begins_with_a_part : HasNone (combining (one_line (Assign (Part s 1 0) true (number 4 0))))
  pub begins_with_a_net : HasNone (combining (sets true s (Net a)))
  pub begins_with_a_branch : HasNone (combining (one_line (When (Net a) sum NoElse)))
  -- loops
  pub net_reads_itself : HasNone (reading (Binary (Net a) op.Add (Net y)))
  pub block_reads_its_target : HasNone (combining (InBlock (Assign (Whole s) true (number 4 0)) (sets true s (Binary (Net s) op.Add (Net a)))))
  pub two_nets : HasNone (reading (Net s))
