-- Two modules and their texts, byte for byte.
use Rattle.std.proofs.Common.{◌≡◌, ℕ, Bool, true, false, List, [], ◌∷◌, Some, None, IsTrue, ◌≤◌, refl, arith}
use Rattle.std.specs.Prelude.{codes}
use Rattle.std.proofs.lemmas.Bool.{false≢true}
use Rattle.lx_vtext.specs.declared.operators.BinOp.TheVariants as op
use Rattle.lx_vtext.specs.declared.operators.UnOp.TheVariants as unary
use Rattle.lx_tables.specs.VerilogWords.{verilog_words}
use Rattle.lx_vtext.specs.Tree.{Net, Literal, Unary, Binary, Whole, Assign, When, NoElse, VBlock, EndBlock, InBlock, VLiteral, VNet, NetDecl, VModule}
use Rattle.lx_vtext.specs.Names.{is_name}
use Rattle.lx_vtext.specs.Printed.{number_text, literal_text, head_text, assign_text, always_text, module_text}
use Rattle.lx_vtext.specs.Fits.{IsModule, IsNet, IsPort}

abbrev pub wire : ℕ → List ℕ → VNet
wire bits name = record { signed = false; bits = bits; name = name; init = None }

abbrev pub one_of_two : VLiteral
one_of_two = record { bits = 2; signed = false; value = 1 }

abbrev pub and_module : VModule
and_module = record {
  ports = record { is_input = true; net = wire 4 (codes "a") } ∷ record { is_input = true; net = wire 4 (codes "b") } ∷ record { is_input = false; net = wire 4 (codes "y") } ∷ [];
  decls = NetDecl (wire 4 (codes "n$0")) ∷ [];
  inits = [];
  assigns = record { name = codes "n$0"; value = Binary (Net (codes "a")) op.And (Net (codes "b")) } ∷ record { name = codes "y"; value = Net (codes "n$0") } ∷ [];
  always = [];
}

pub and_text : module_text and_module ≡ codes "module top (\n    input wire [3:0] a,\n    input wire [3:0] b,\n    output wire [3:0] y\n);\nwire [3:0] n$0;\nassign n$0 = (a & b);\nassign y = n$0;\nendmodule\n"
unfolding module_text number_text head_text assign_text
and_text = refl

abbrev pub flip_body : VBlock
flip_body = InBlock (When (Net (codes "c")) (InBlock (Assign (Whole (codes "q")) false (Net (codes "n$0"))) EndBlock) NoElse)
    (InBlock (When (Net (codes "sys_rst")) (InBlock (Assign (Whole (codes "q")) false (Literal 2 false 1)) EndBlock) NoElse) EndBlock)

abbrev pub flip_module : VModule
flip_module = record {
  ports = record { is_input = true; net = wire 1 (codes "sys_clk") } ∷ record { is_input = true; net = wire 1 (codes "sys_rst") } ∷ record { is_input = true; net = wire 1 (codes "c") }
      ∷ record { is_input = false; net = record { signed = false; bits = 2; name = codes "q"; init = Some one_of_two } } ∷ [];
  decls = NetDecl (wire 2 (codes "n$0")) ∷ [];
  inits = [];
  assigns = record { name = codes "n$0"; value = Unary unary.Invert (Net (codes "q")) } ∷ [];
  always = record { clock = Some (codes "sys_clk"); body = flip_body } ∷ [];
}

pub flip_text : module_text flip_module ≡ codes "module top (\n    input wire sys_clk,\n    input wire sys_rst,\n    input wire c,\n    output reg [1:0] q = 2'd1\n);\nwire [1:0] n$0;\nassign n$0 = (~q);\nalways @(posedge sys_clk) begin\n    if (c) begin\n        q <= n$0;\n    end\n    if (sys_rst) begin\n        q <= 2'd1;\n    end\nend\nendmodule\n"
unfolding module_text number_text head_text literal_text assign_text always_text
flip_text = refl

wire_fits : (bits : ℕ) (name : List ℕ) → 1 ≤ bits → IsTrue (is_name name) → IsNet (wire bits name)
wire_fits bits name b n = record { name = n; bits = b; init = tt }

port_fits : (is_input : Bool) (bits : ℕ) (name : List ℕ) → 1 ≤ bits → IsTrue (is_name name) → IsPort (record { is_input = is_input; net = wire bits name })
port_fits is_input bits name b n = record { net = wire_fits bits name b n; wire = λ e. refl }

-- both are modules of the profile
pub and_fits : IsModule and_module
unfolding is_name verilog_words
and_fits = record {
  ports = (port_fits true 4 (codes "a") (omega arith) refl, (port_fits true 4 (codes "b") (omega arith) refl, (port_fits false 4 (codes "y") (omega arith) refl, tt)));
  decls = (wire_fits 4 (codes "n$0") (omega arith) refl, tt);
  inits = tt;
  assigns = (record { name = refl; value = (refl, refl) }, (record { name = refl; value = refl }, tt));
  always = tt;
}

pub flip_fits : IsModule flip_module
unfolding is_name verilog_words
flip_fits = record {
  ports = (port_fits true 1 (codes "sys_clk") (omega arith) refl, (port_fits true 1 (codes "sys_rst") (omega arith) refl, (port_fits true 1 (codes "c") (omega arith) refl, (record { net = record { name = refl; bits = omega arith; init = refl }; wire = λ e. absurd (false≢true e) }, tt))));
  decls = (wire_fits 2 (codes "n$0") (omega arith) refl, tt);
  inits = tt;
  assigns = (record { name = refl; value = refl }, tt);
  always = (record { clock = refl; body = ((refl, ((refl, refl), tt), tt), ((refl, ((refl, refl), tt), tt), tt)) }, tt);
}
