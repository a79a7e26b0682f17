-- What expressions and statements become, worked by hand.
use Rattle.std.specs.Prelude.{◌≡◌, ℕ, ℤ, pos, negsuc, true, false, [], ◌∷◌, Some, None, nat_eq, if◌then◌else◌, codes}
use Rattle.lx_num.specs.declared.Shape.{Shape}
use Rattle.lx_num.specs.Ints.{shape, unsigned}
use Rattle.lx_tables.specs.declared.operators.Op.TheVariants as op
use Rattle.lx_circuit.specs.Terms.{Term, Constant, Signal, Unary, Binary, Mux, Cat, Pick, Fetch, NoTerm, MoreTerms}
use Rattle.lx_circuit.specs.Shapes.{Shapes}
use Rattle.lx_circuit.specs.Statements.{Whole, Part, CatTarget, PickTarget, NoTarget, MoreTargets, Stmt, Assign, If, Case, NoBranch, Branch, NoArm, Arm, Block, Done, Then}
use Rattle.lx_circuit.specs.Memories.{Memory, Port, WriteFirst}
use Rattle.lx_circuit.specs.Circuit.{Made, Circuit}
use Rattle.lx_lowering.specs.Terms.{lower_term}
use Rattle.lx_lowering.specs.Flat.{flat, flat_block}
use Rattle.lx_lowering.specs.Split.{split_block}
use Rattle.lx_lowering.specs.Constants.{folded}
use Rattle.lx_lowering.specs.Lowering.{lowered}

-- signal 0 is s of four signed bits, signal 1 is u of eight bits, signal 2 is q of two, and signal 3 is r of one
abbrev pub shapes : Shapes
shapes x = if nat_eq x 0 then shape 4 true else (if nat_eq x 1 then unsigned 8 else (if nat_eq x 2 then unsigned 2 else unsigned 1))

-- constants of one bit, of two and of four signed ones
abbrev pub bit : ℕ → Term
bit k = Constant (pos k) (unsigned 1)

abbrev pub two_bits : ℕ → Term
two_bits k = Constant (pos k) (unsigned 2)

abbrev pub four_signed : ℤ → Term
four_signed z = Constant z (shape 4 true)

-- a.eq(k), a number of eight bits
abbrev pub set : ℕ → ℕ → Block
set x k = Then (Assign (Whole x) (Constant (pos k) (unsigned 8))) Done

-- If(c, b), and then other statements
abbrev pub only_if : Term → Block → Block → Block
only_if c b others = Then (If (Branch c b NoBranch) Done) others

abbrev pub both : Term → Term → Term
both a b = Binary op.And a b

-- ---- expressions

-- Array([s, u, q])[i], and with one item more
abbrev pub three_items : Term → Term
three_items i = Pick (MoreTerms (Signal 0) (MoreTerms (Signal 1) (MoreTerms (Signal 2) NoTerm))) i

abbrev pub four_items : Term → Term
four_items i = Pick (MoreTerms (Signal 0) (MoreTerms (Signal 1) (MoreTerms (Signal 2) (MoreTerms (Signal 3) NoTerm)))) i

-- Array([s, u])[r]
abbrev pub two_items : Term
two_items = Pick (MoreTerms (Signal 0) (MoreTerms (Signal 1) NoTerm)) (Signal 3)

-- the word of memory 0 at the index
abbrev pub word_at : Term → Term
word_at i = Fetch 0 8 i

-- e >> k, the amount of so many bits
abbrev pub shifted : Term → ℕ → ℕ → Term
shifted e k bits = Binary op.Shr e (Constant (pos k) (unsigned bits))

-- ---- statements

-- If(r, u.eq(1)).Elif(q, u.eq(2)).Elif(s, u.eq(3)).Else(u.eq(4))
abbrev pub chain : Stmt
chain = If (Branch (Signal 3) (set 1 1) (Branch (Signal 2) (set 1 2) (Branch (Signal 0) (set 1 3) NoBranch))) (set 1 4)

abbrev pub no_r : Term
no_r = Binary op.Eq (Signal 3) (bit 0)

abbrev pub no_q : Term
no_q = Binary op.Eq (Signal 2) (two_bits 0)

-- each branch under its own condition, where none before it holds
abbrev pub chain_parts : Block
chain_parts =
    only_if (Signal 3) (set 1 1)
    (only_if (both no_r (Binary op.Ne (Signal 2) (two_bits 0))) (set 1 2)
    (only_if (both (both no_r no_q) (Binary op.Ne (Signal 0) (four_signed (pos 0)))) (set 1 3)
    (only_if (both (both no_r no_q) (Binary op.Eq (Signal 0) (four_signed (pos 0)))) (set 1 4) Done)))

-- If(r, u.eq(1)).Else(u.eq(2))
abbrev pub choice : Stmt
choice = If (Branch (Signal 3) (set 1 1) NoBranch) (set 1 2)

-- Case(s, {-8: u.eq(1), 8: u.eq(2), -8: u.eq(3), 5: u.eq(4), "default": u.eq(5)})
abbrev pub cased : Stmt
cased = Case (Signal 0) (Arm (negsuc 7) (set 1 1) (Arm (pos 8) (set 1 2) (Arm (negsuc 7) (set 1 3) (Arm (pos 5) (set 1 4) NoArm)))) (set 1 5)

-- 8 is no value of s, and the second -8 is never reached
abbrev pub cased_parts : Block
cased_parts =
    only_if (Binary op.Eq (Signal 0) (four_signed (negsuc 7))) (set 1 1)
    (only_if (bit 0) (set 1 2)
    (only_if (bit 0) (set 1 3)
    (only_if (Binary op.Eq (Signal 0) (four_signed (pos 5))) (set 1 4)
    (only_if (both (Binary op.Ne (Signal 0) (four_signed (negsuc 7))) (Binary op.Ne (Signal 0) (four_signed (pos 5)))) (set 1 5) Done))))

-- Cat(u[4:8], s, q).eq(e)
abbrev pub to_parts : Term → Stmt
to_parts e = Assign (CatTarget (MoreTargets (Part 1 4 4) (MoreTargets (Whole 0) (MoreTargets (Whole 2) NoTarget)))) e

-- Array([u, s, r])[q].eq(u)
abbrev pub to_item : Stmt
to_item = Assign (PickTarget (MoreTargets (Whole 1) (MoreTargets (Whole 0) (MoreTargets (Whole 3) NoTarget))) (Signal 2)) (Signal 1)

-- Cat(Array([u[0:2], u[2:4]])[r], s).eq(u)
abbrev pub to_item_and_part : Stmt
to_item_and_part = Assign (CatTarget (MoreTargets (PickTarget (MoreTargets (Part 1 0 2) (MoreTargets (Part 1 2 2) NoTarget)) (Signal 3)) (MoreTargets (Whole 0) NoTarget))) (Signal 1)

-- Array([u])[q].eq(u)
abbrev pub to_lone_item : Stmt
to_lone_item = Assign (PickTarget (MoreTargets (Whole 1) NoTarget) (Signal 2)) (Signal 1)

-- u.eq(1), and then If(r, [u.eq(2), s.eq(3)]).Else(s.eq(4)), and then q.eq(1)
abbrev pub mixed : Block
mixed =
    Then (Assign (Whole 1) (Constant (pos 1) (unsigned 8)))
    (Then (If (Branch (Signal 3) (Then (Assign (Whole 1) (Constant (pos 2) (unsigned 8))) (set 0 3)) NoBranch) (set 0 4))
    (set 2 1))

-- u[0:4].eq(3)
abbrev pub low_bits : Block
low_bits = Then (Assign (Part 1 0 4) (Constant (pos 3) (unsigned 4))) Done

-- ---- a circuit

abbrev pub signal_of : Shape → ℤ → Made
signal_of a reset = record { shape = a; reset = reset; reset_less = false; given = false }

-- four words, and a port that writes one
abbrev pub words : Memory
words = record { width = 8; depth = 4; init = 17 ∷ [] }

abbrev pub port : Port
port = record { memory = 0; adr = 2; domain = Some 0; reader = None; writer = Some (record { from = 1; we = 3; part = 8 }); mode = WriteFirst }

-- u is 165 at first, and the others 0; the statements of q, which a reset r sets to 0, are those of a domain
abbrev pub circuit_of : Block → Block → Circuit
circuit_of comb sync = record {
  signals = signal_of (shape 4 true) (pos 0) ∷ signal_of (unsigned 8) (pos 165) ∷ signal_of (unsigned 2) (pos 0) ∷ signal_of (unsigned 1) (pos 0) ∷ [];
  comb = comb;
  domains = record { name = codes "sys"; reset = Some 3; stmts = sync } ∷ [];
  memories = words ∷ [];
  ports = port ∷ [];
  ios = 3 ∷ [];
}

-- What these become.
pub record AreWorked : Type 0 where
  -- past the end the last item is picked
  pub picked : lower_term shapes (three_items (Signal 2)) ≡ Mux (Binary op.Eq (Signal 2) (two_bits 0)) (Signal 0) (Mux (Binary op.Eq (Signal 2) (two_bits 1)) (Signal 1) (Signal 2))
  -- one bit is never 2
  pub picked_by_bit : lower_term shapes (four_items (Signal 3)) ≡ Mux (Binary op.Eq (Signal 3) (bit 0)) (Signal 0) (Mux (Binary op.Eq (Signal 3) (bit 1)) (Signal 1) (Mux (bit 0) (Signal 2) (Signal 3)))
  pub picked_inside : lower_term shapes (Cat (MoreTerms (Signal 2) (MoreTerms (Unary op.Not two_items) NoTerm))) ≡ Cat (MoreTerms (Signal 2) (MoreTerms (Unary op.Not (Mux (Binary op.Eq (Signal 3) (bit 0)) (Signal 0) (Signal 1))) NoTerm))
  -- the index of a word is lowered too
  pub word : lower_term shapes (word_at two_items) ≡ word_at (Mux (Binary op.Eq (Signal 3) (bit 0)) (Signal 0) (Signal 1))
  pub word_assigned : flat_block shapes (Then (Assign (Whole 1) (word_at (Signal 2))) Done) ≡ Then (Assign (Whole 1) (word_at (Signal 2))) Done
  pub shifted_far : lower_term shapes (shifted (Signal 1) 200 8) ≡ shifted (Signal 1) 8 8
  pub shifted_out : lower_term shapes (shifted (Signal 1) 8 4) ≡ shifted (Signal 1) 8 4
  pub shifted_near : lower_term shapes (shifted (Signal 1) 7 3) ≡ shifted (Signal 1) 7 3
  pub shifted_sum : lower_term shapes (shifted (Binary op.Add (Signal 1) (Signal 1)) 200 8) ≡ shifted (Binary op.Add (Signal 1) (Signal 1)) 9 8
  pub shifted_by_signal : lower_term shapes (Binary op.Shr (Signal 0) (Signal 1)) ≡ Binary op.Shr (Signal 0) (Signal 1)
  pub shifted_left : lower_term shapes (Binary op.Shl (Signal 2) (Constant (pos 3) (unsigned 2))) ≡ Binary op.Shl (Signal 2) (Constant (pos 3) (unsigned 2))
  pub branches : flat shapes chain ≡ chain_parts
  -- a lone branch keeps the rest beside it
  pub lone_branch : flat shapes choice ≡ Then choice Done
  pub no_branch : flat shapes (If NoBranch (set 1 4)) ≡ set 1 4
  pub branch_inside : flat_block shapes (only_if (Signal 2) (Then chain Done) (set 1 9)) ≡ only_if (Signal 2) chain_parts (set 1 9)
  pub nothing_inside : flat_block shapes (only_if (Signal 2) Done Done) ≡ Done
  pub arms : flat shapes cased ≡ cased_parts
  pub no_arm : flat shapes (Case (Signal 2) (Arm (pos 4) (set 1 1) NoArm) (set 1 5)) ≡ only_if (bit 0) (set 1 1) (set 1 5)
  -- a part takes the value without the bits of the parts before it
  pub parts : flat shapes (to_parts (Signal 1)) ≡ Then (Assign (Part 1 4 4) (Signal 1)) (Then (Assign (Whole 0) (shifted (Signal 1) 4 7)) (Then (Assign (Whole 2) (shifted (shifted (Signal 1) 4 7) 4 7)) Done))
  pub parts_of_few_bits : flat shapes (to_parts (Signal 2)) ≡ Then (Assign (Part 1 4 4) (Signal 2)) (Then (Assign (Whole 0) (shifted (Signal 2) 2 7)) (Then (Assign (Whole 2) (shifted (shifted (Signal 2) 2 7) 2 7)) Done))
  -- past the end the last item is assigned
  pub items : flat shapes to_item ≡ only_if (Binary op.Eq (Signal 2) (two_bits 0)) (Then (Assign (Whole 1) (Signal 1)) Done) (only_if (Binary op.Eq (Signal 2) (two_bits 1)) (Then (Assign (Whole 0) (Signal 1)) Done) (only_if (Binary op.Ge (Signal 2) (two_bits 2)) (Then (Assign (Whole 3) (Signal 1)) Done) Done))
  pub item_and_part : flat shapes to_item_and_part ≡ only_if (Binary op.Eq (Signal 3) (bit 0)) (Then (Assign (Part 1 0 2) (Signal 1)) Done) (only_if (Binary op.Ge (Signal 3) (bit 1)) (Then (Assign (Part 1 2 2) (Signal 1)) Done) (Then (Assign (Whole 0) (shifted (Signal 1) 2 7)) Done))
  pub lone_item : flat shapes to_lone_item ≡ Then (Assign (Whole 1) (Signal 1)) Done
  pub own_of_u : split_block 1 mixed ≡ Then (Assign (Whole 1) (Constant (pos 1) (unsigned 8))) (Then (If (Branch (Signal 3) (set 1 2) NoBranch) Done) Done)
  pub own_of_s : split_block 0 mixed ≡ Then (If (Branch (Signal 3) (set 0 3) NoBranch) (set 0 4)) Done
  pub own_of_q : split_block 2 mixed ≡ set 2 1
  pub own_of_r : split_block 3 mixed ≡ Done
  -- the upper bits stay those of 165
  pub constant_bits : folded shapes 1 (pos 165) low_bits ≡ set 1 163
  pub constant_choice : folded shapes 1 (pos 165) (Then (If (Branch (bit 1) (set 1 7) NoBranch) (set 1 9)) Done) ≡ set 1 7
  pub constant_signed : folded shapes 0 (pos 5) (set 0 12) ≡ Then (Assign (Whole 0) (four_signed (negsuc 3))) Done
  pub no_constant : folded shapes 1 (pos 165) Done ≡ Done
  pub read_value : folded shapes 1 (pos 165) (Then (Assign (Whole 1) (Signal 2)) Done) ≡ Then (Assign (Whole 1) (Signal 2)) Done
  pub read_condition : folded shapes 1 (pos 165) (only_if (Signal 3) (set 1 7) Done) ≡ only_if (Signal 3) (set 1 7) Done
  -- a word may change, though its index is a number
  pub read_word : folded shapes 1 (pos 165) (Then (Assign (Whole 1) (word_at (bit 1))) Done) ≡ Then (Assign (Whole 1) (word_at (bit 1))) Done
  -- a list for each signal, those of s before those of u
  pub circuit : lowered (circuit_of (Then (Assign (Part 1 0 4) (Constant (pos 3) (unsigned 4))) (only_if (Signal 3) (set 0 3) Done)) (only_if (Signal 1) (set 2 1) Done))
      ≡ circuit_of (only_if (Signal 3) (set 0 3) (set 1 163)) (only_if (Signal 1) (set 2 1) Done)
