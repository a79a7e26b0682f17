-- A module with each form of the text, and one without parts, beside their texts, which were written by hand.
use Rattle.std.specs.Prelude.{◌≡◌, ℕ, true, false, List, [], ◌∷◌, ◌++◌, Some, None, codes}
use Rattle.lx_vtext.specs.declared.operators.BinOp.TheVariants.{ArithmeticRight}
use Rattle.lx_vtext.specs.declared.operators.UnOp.TheVariants.{Negate}
use Rattle.lx_vtext.specs.Tree.{VExpr, Net, Literal, PartSelect, Word, Unary, Binary, Conditional, Concatenation, Replication, ToSigned, ToUnsigned, NoMore, More, Whole, Part, WholeWord, PartWord, VStmt, Assign, When, Else, EndBlock, InBlock, VLiteral, NetDecl, MemoryDecl, VModule}
use Rattle.lx_vtext.specs.Printed.{module_text}

abbrev pub c : VExpr
c = Net (codes "c")

abbrev pub a : VExpr
a = Net (codes "a")

abbrev pub joined : VExpr
joined = Concatenation (Unary Negate a) (More (Word (codes "m") (Literal 2 false 1)) (More (Replication 2 (PartSelect (codes "a") 2 1)) NoMore))

abbrev pub chosen : VExpr
chosen = Conditional c (ToSigned a) (Binary (ToUnsigned a) ArithmeticRight (Literal 4 true 15))

-- a choice with both branches, and each target
abbrev pub choice : VStmt
choice = When c
    (InBlock (Assign (Part (codes "s") 1 0) true c) (InBlock (Assign (WholeWord (codes "m") c) false c) EndBlock))
    (Else (InBlock (Assign (PartWord (codes "m") c 0 0) false c) EndBlock))

abbrev pub one_bit : ℕ → VLiteral
one_bit n = record { bits = 1; signed = false; value = n }

abbrev pub all_forms : VModule
all_forms = record {
  ports = record { is_input = true; net = record { signed = false; bits = 1; name = codes "c"; init = None } }
      ∷ record { is_input = false; net = record { signed = true; bits = 8; name = codes "y"; init = None } } ∷ [];
  decls = NetDecl (record { signed = true; bits = 2; name = codes "s"; init = Some (record { bits = 2; signed = true; value = 2 }) })
      ∷ MemoryDecl (record { bits = 1; name = codes "m"; depth = 4 }) ∷ [];
  inits = (record { name = codes "m"; index = 0; value = one_bit 1 } ∷ record { name = codes "m"; index = 1; value = one_bit 0 } ∷ []) ∷ [];
  assigns = record { name = codes "x"; value = joined } ∷ record { name = codes "y"; value = chosen } ∷ [];
  always = record { clock = None; body = InBlock (Assign (Whole (codes "s")) true c) (InBlock choice EndBlock) } ∷ [];
}

abbrev pub text_of_all : List ℕ
text_of_all =
    codes "module top (\n"
    ++ codes "    input wire c,\n"
    ++ codes "    output wire signed [7:0] y\n"
    ++ codes ");\n"
    ++ codes "reg signed [1:0] s = 2'sd2;\n"
    ++ codes "reg [0:0] m [0:3];\n"
    ++ codes "initial begin\n"
    ++ codes "    m[0] = 1'd1;\n"
    ++ codes "    m[1] = 1'd0;\n"
    ++ codes "end\n"
    ++ codes "assign x = {(-a), m[2'd1], {2{a[2:1]}}};\n"
    ++ codes "assign y = (c ? $signed(a) : ($unsigned(a) >>> 4'sd15));\n"
    ++ codes "always @(*) begin\n"
    ++ codes "    s = c;\n"
    ++ codes "    if (c) begin\n"
    ++ codes "        s[1:0] = c;\n"
    ++ codes "        m[c] <= c;\n"
    ++ codes "    end else begin\n"
    ++ codes "        m[c][0:0] <= c;\n"
    ++ codes "    end\n"
    ++ codes "end\n"
    ++ codes "endmodule\n"

abbrev pub without_parts : VModule
without_parts = record { ports = []; decls = []; inits = []; assigns = []; always = [] }

pub record FormsAreWorked : Type 0 where
  pub all : module_text all_forms ≡ text_of_all
  pub none : module_text without_parts ≡ codes "module top (\n);\nendmodule\n"
