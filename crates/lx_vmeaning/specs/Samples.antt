-- Modules that are run by hand: one with a memory, and one with two clocks.
use Rattle.std.specs.Prelude.{ℕ, Bool, true, false, List, [], ◌∷◌, Some, None, codes, ◌++◌}
use Rattle.lx_vtext.specs.declared.operators.BinOp.TheVariants as op
use Rattle.lx_vtext.specs.Tree.{Name, VExpr, Net, Literal, Word, Binary, Whole, Part, WholeWord, PartWord, VStmt, Assign, When, NoElse, VBlock, EndBlock, InBlock, VLiteral, VNet, VPort, NetDecl, MemoryDecl, VSet, VAssign, VAlways, VModule}

abbrev pub wire : ℕ → Name → VNet
wire bits n = record { signed = false; bits = bits; name = n; init = None }

abbrev pub literal : ℕ → Bool → ℕ → VLiteral
literal bits signed value = record { bits = bits; signed = signed; value = value }

abbrev pub register : ℕ → Name → VLiteral → VNet
register bits n first = record { signed = false; bits = bits; name = n; init = Some first }

abbrev pub input : ℕ → Name → VPort
input bits n = record { is_input = true; net = wire bits n }

abbrev pub output : ℕ → Name → VPort
output bits n = record { is_input = false; net = wire bits n }

abbrev pub number : ℕ → ℕ → VExpr
number bits value = Literal bits false value

abbrev pub assign : Name → VExpr → VAssign
assign n e = record { name = n; value = e }

abbrev pub at_rise : Name → VBlock → VAlways
at_rise c b = record { clock = Some c; body = b }

abbrev pub always : VBlock → VAlways
always b = record { clock = None; body = b }

abbrev pub one_line : VStmt → VBlock
one_line s = InBlock s EndBlock

abbrev pub set_line : Name → ℕ → VLiteral → VSet
set_line n k x = record { name = n; index = k; value = x }

-- ---- a memory of three words, one port that reads and writes

abbrev pub c : Name
c = codes "c"

abbrev pub we : Name
we = codes "we"

abbrev pub adr : Name
adr = codes "adr"

abbrev pub d : Name
d = codes "d"

abbrev pub r : Name
r = codes "r"

abbrev pub m : Name
m = codes "m"

-- m[adr] <= d; m[adr][3:0] <= 4'd5;
abbrev pub two_writes : VBlock
two_writes = InBlock (Assign (WholeWord m (Net adr)) false (Net d)) (one_line (Assign (PartWord m (Net adr) 3 0) false (number 4 5)))

-- the words start as 8'd1, 4'sd15 and 9'd259
abbrev pub first_lines : List VSet
first_lines = set_line m 0 (literal 8 false 1) ∷ set_line m 1 (literal 4 true 15) ∷ set_line m 2 (literal 9 false 259) ∷ []

abbrev pub with_memory : VModule
with_memory = record {
  ports = input 1 c ∷ input 1 we ∷ input 2 adr ∷ input 8 d ∷ output 8 r ∷ [];
  decls = MemoryDecl (record { bits = 8; name = m; depth = 3 }) ∷ [];
  inits = first_lines ∷ [];
  assigns = assign r (Word m (Net adr)) ∷ [];
  always = at_rise c (one_line (When (Net we) two_writes NoElse)) ∷ [];
}

-- ---- two registers that swap, each at its own clock, and a sum in a block of `always @(*)`

abbrev pub e : Name
e = codes "e"

abbrev pub p : Name
p = codes "p"

abbrev pub q : Name
q = codes "q"

abbrev pub s : Name
s = codes "s"

abbrev pub two_clocks : VModule
two_clocks = record {
  ports = input 1 c ∷ input 1 e ∷ record { is_input = false; net = register 4 s (literal 4 false 0) } ∷ [];
  decls = NetDecl (register 4 p (literal 4 false 1)) ∷ NetDecl (register 4 q (literal 4 false 10)) ∷ [];
  inits = [];
  assigns = [];
  -- s = 4'd0; s = (p + q);   p[2:1] <= q;   q <= p;
  always =
      always (InBlock (Assign (Whole s) true (number 4 0)) (one_line (Assign (Whole s) true (Binary (Net p) op.Add (Net q)))))
      ∷ at_rise c (one_line (Assign (Part p 2 1) false (Net q))) ∷ at_rise e (one_line (Assign (Whole q) false (Net p))) ∷ [];
}

-- ---- their texts

abbrev pub with_memory_text : List ℕ
with_memory_text =
    codes "module top (\n    input wire c,\n    input wire we,\n    input wire [1:0] adr,\n    input wire [7:0] d,\n"
    ++ codes "    output wire [7:0] r\n);\nreg [7:0] m [0:2];\ninitial begin\n    m[0] = 8'd1;\n    m[1] = 4'sd15;\n"
    ++ codes "    m[2] = 9'd259;\nend\nassign r = m[adr];\nalways @(posedge c) begin\n    if (we) begin\n"
    ++ codes "        m[adr] <= d;\n        m[adr][3:0] <= 4'd5;\n    end\nend\nendmodule\n"

abbrev pub two_clocks_text : List ℕ
two_clocks_text =
    codes "module top (\n    input wire c,\n    input wire e,\n    output reg [3:0] s = 4'd0\n);\nreg [3:0] p = 4'd1;\n"
    ++ codes "reg [3:0] q = 4'd10;\nalways @(*) begin\n    s = 4'd0;\n    s = (p + q);\nend\nalways @(posedge c) begin\n"
    ++ codes "    p[2:1] <= q;\nend\nalways @(posedge e) begin\n    q <= p;\nend\nendmodule\n"
