-- Six designs that can be emitted, and the texts of their modules.
use Rattle.std.specs.Prelude.{ℕ, pos, negsuc, true, false, List, [], ◌∷◌, ◌++◌, Some, None, codes}
use Rattle.lx_num.specs.Ints.{shape}
use Rattle.lx_tables.specs.declared.operators.Op.TheVariants as op
use Rattle.lx_vtext.specs.Tree.{Name}
use Rattle.lx_fhdl.specs.Instance.{the_signal, the_expr, the_target, the_stmt, signal_of}
use Rattle.lx_fhdl.specs.declared.exprs.Expr.{Expr}
use Rattle.lx_fhdl.specs.declared.exprs.Expr.TheVariants as expr
use Rattle.lx_fhdl.specs.declared.stmts.Target.{Target}
use Rattle.lx_fhdl.specs.declared.stmts.Target.TheVariants as target
use Rattle.lx_fhdl.specs.declared.stmts.Stmt.{Stmt}
use Rattle.lx_fhdl.specs.declared.stmts.Stmt.TheVariants as stmt
use Rattle.lx_fhdl.specs.declared.design.Signal.{Signal}
use Rattle.lx_fhdl.specs.declared.design.Memory.{Memory}
use Rattle.lx_fhdl.specs.declared.design.PortMode.TheVariants as mode
use Rattle.lx_fhdl.specs.declared.design.Port.{Port}
use Rattle.lx_fhdl.specs.declared.design.Design.{Design}

-- ---- one domain with a reset: If(c, q.eq(~q))

unfoldable pub toggle_exprs : List Expr
toggle_exprs = expr.Sig (the_signal 0) ∷ expr.Sig (the_signal 1) ∷ expr.Unary op.Not (the_expr 1) ∷ []

unfoldable pub toggle_targets : List Target
toggle_targets = target.Whole (the_signal 1) ∷ []

unfoldable pub toggle_stmts : List Stmt
toggle_stmts = stmt.Assign (the_target 0) (the_expr 2) 3 ∷ stmt.If (record { cond = the_expr 0; body = the_stmt 0 ∷ [] } ∷ []) [] 2 ∷ []

unfoldable pub toggle_signals : List Signal
toggle_signals = signal_of (codes "c") 1 0 ∷ signal_of (codes "q") 2 1 ∷ signal_of (codes "sys_rst") 1 0 ∷ []

-- In the domain `sys` the signal q, which a reset sets to 1, turns into its complement while c is not 0.
unfoldable pub toggle : Design
toggle = record {
  exprs = toggle_exprs;
  targets = toggle_targets;
  stmts = toggle_stmts;
  signals = toggle_signals;
  comb = [];
  sync = record { domain = 0; stmts = the_stmt 1 ∷ [] } ∷ [];
  memories = [];
  ports = [];
  domains = record { name = codes "sys"; reset = Some (the_signal 2) } ∷ [];
  ios = the_signal 0 ∷ the_signal 1 ∷ [];
}

abbrev pub toggle_names : List Name
toggle_names = codes "c" ∷ codes "q" ∷ codes "sys_rst" ∷ []

abbrev pub toggle_text : List ℕ
toggle_text =
    codes "module top (\n"
    ++ codes "    input wire sys_clk,\n"
    ++ codes "    input wire sys_rst,\n"
    ++ codes "    input wire c,\n"
    ++ codes "    output reg [1:0] q = 2'd1\n"
    ++ codes ");\n"
    ++ codes "wire [1:0] n$0;\n"
    ++ codes "assign n$0 = (~q);\n"
    ++ codes "always @(posedge sys_clk) begin\n"
    ++ codes "    if (c) begin\n"
    ++ codes "        q <= n$0;\n"
    ++ codes "    end\n"
    ++ codes "    if (sys_rst) begin\n"
    ++ codes "        q <= 2'd1;\n"
    ++ codes "    end\n"
    ++ codes "end\n"
    ++ codes "endmodule\n"

-- ---- two domains, the first without a reset: a.eq(b) in `sys`, b.eq(a) in `pix`

unfoldable pub swap_exprs : List Expr
swap_exprs = expr.Sig (the_signal 1) ∷ expr.Sig (the_signal 0) ∷ []

unfoldable pub swap_targets : List Target
swap_targets = target.Whole (the_signal 0) ∷ target.Whole (the_signal 1) ∷ []

unfoldable pub swap_stmts : List Stmt
swap_stmts = stmt.Assign (the_target 0) (the_expr 0) 2 ∷ stmt.Assign (the_target 1) (the_expr 1) 3 ∷ []

unfoldable pub swap_signals : List Signal
swap_signals = signal_of (codes "a") 2 1 ∷ signal_of (codes "b") 2 2 ∷ signal_of (codes "pix_rst") 1 0 ∷ []

-- Where both domains rise together, a and b take each other's value.
unfoldable pub swap : Design
swap = record {
  exprs = swap_exprs;
  targets = swap_targets;
  stmts = swap_stmts;
  signals = swap_signals;
  comb = [];
  sync = record { domain = 0; stmts = the_stmt 0 ∷ [] } ∷ record { domain = 1; stmts = the_stmt 1 ∷ [] } ∷ [];
  memories = [];
  ports = [];
  domains = record { name = codes "sys"; reset = None } ∷ record { name = codes "pix"; reset = Some (the_signal 2) } ∷ [];
  ios = the_signal 0 ∷ the_signal 1 ∷ [];
}

abbrev pub swap_names : List Name
swap_names = codes "a" ∷ codes "b" ∷ codes "pix_rst" ∷ []

abbrev pub swap_text : List ℕ
swap_text =
    codes "module top (\n"
    ++ codes "    input wire sys_clk,\n"
    ++ codes "    input wire pix_clk,\n"
    ++ codes "    input wire pix_rst,\n"
    ++ codes "    output reg [1:0] a = 2'd1,\n"
    ++ codes "    output reg [1:0] b = 2'd2\n"
    ++ codes ");\n"
    ++ codes "always @(posedge sys_clk) begin\n"
    ++ codes "    a <= b;\n"
    ++ codes "end\n"
    ++ codes "always @(posedge pix_clk) begin\n"
    ++ codes "    b <= a;\n"
    ++ codes "    if (pix_rst) begin\n"
    ++ codes "        b <= 2'd2;\n"
    ++ codes "    end\n"
    ++ codes "end\n"
    ++ codes "endmodule\n"

-- ---- no domain: s[0:4].eq(5), and then If(c, s[2:6].eq(0))

unfoldable pub slices_exprs : List Expr
slices_exprs = expr.Const (pos 5) 3 false ∷ expr.Sig (the_signal 0) ∷ expr.Const (pos 0) 1 false ∷ []

unfoldable pub slices_targets : List Target
slices_targets = target.Part (the_signal 1) 0 4 ∷ target.Part (the_signal 1) 2 4 ∷ []

unfoldable pub slices_stmts : List Stmt
slices_stmts =
    stmt.Assign (the_target 0) (the_expr 0) 2 ∷ stmt.Assign (the_target 1) (the_expr 2) 4
    ∷ stmt.If (record { cond = the_expr 1; body = the_stmt 1 ∷ [] } ∷ []) [] 3 ∷ []

unfoldable pub slices_signals : List Signal
slices_signals = signal_of (codes "c") 1 0 ∷ signal_of (codes "s") 8 192 ∷ []

-- The bits of s that no assignment takes are those of its reset value, 0xc0.
unfoldable pub slices : Design
slices = record {
  exprs = slices_exprs;
  targets = slices_targets;
  stmts = slices_stmts;
  signals = slices_signals;
  comb = the_stmt 0 ∷ the_stmt 2 ∷ [];
  sync = [];
  memories = [];
  ports = [];
  domains = [];
  ios = the_signal 0 ∷ the_signal 1 ∷ [];
}

abbrev pub slices_names : List Name
slices_names = codes "c" ∷ codes "s" ∷ []

abbrev pub slices_text : List ℕ
slices_text =
    codes "module top (\n"
    ++ codes "    input wire c,\n"
    ++ codes "    output reg [7:0] s = 8'd192\n"
    ++ codes ");\n"
    ++ codes "always @(*) begin\n"
    ++ codes "    s = 8'd192;\n"
    ++ codes "    s[3:0] = 3'd5;\n"
    ++ codes "    if (c) begin\n"
    ++ codes "        s[5:2] = 1'd0;\n"
    ++ codes "    end\n"
    ++ codes "end\n"
    ++ codes "endmodule\n"

-- ---- operators, slices and a signal that nothing drives: y.eq(u + t), z.eq(Cat(u[0:1], t[1:3]))

unfoldable pub mixed_exprs : List Expr
mixed_exprs =
    expr.Sig (the_signal 0) ∷ expr.Sig (the_signal 1) ∷ expr.Binary op.Add (the_expr 0) (the_expr 1)
    ∷ expr.Slice (the_expr 0) 0 1 ∷ expr.Slice (the_expr 1) 1 3 ∷ expr.Cat (the_expr 3 ∷ the_expr 4 ∷ []) ∷ []

unfoldable pub mixed_targets : List Target
mixed_targets = target.Whole (the_signal 2) ∷ target.Whole (the_signal 3) ∷ []

unfoldable pub mixed_stmts : List Stmt
mixed_stmts = stmt.Assign (the_target 0) (the_expr 2) 2 ∷ stmt.Assign (the_target 1) (the_expr 5) 3 ∷ []

unfoldable pub mixed_signals : List Signal
mixed_signals =
    signal_of (codes "u") 1 0 ∷ record (signal_of (codes "t") 4 0) { shape = shape 4 true } ∷ record (signal_of (codes "y") 5 0) { shape = shape 5 true }
    ∷ signal_of (codes "z") 3 0 ∷ signal_of (codes "k") 2 2 ∷ []

-- Of u, which has one unsigned bit, and t, which has four signed ones, y is the sum; k keeps its reset value.
unfoldable pub mixed : Design
mixed = record {
  exprs = mixed_exprs;
  targets = mixed_targets;
  stmts = mixed_stmts;
  signals = mixed_signals;
  comb = the_stmt 0 ∷ the_stmt 1 ∷ [];
  sync = [];
  memories = [];
  ports = [];
  domains = [];
  ios = the_signal 0 ∷ the_signal 1 ∷ the_signal 2 ∷ the_signal 3 ∷ [];
}

abbrev pub mixed_names : List Name
mixed_names = codes "u" ∷ codes "t" ∷ codes "y" ∷ codes "z" ∷ codes "k" ∷ []

abbrev pub mixed_text : List ℕ
mixed_text =
    codes "module top (\n"
    ++ codes "    input wire u,\n"
    ++ codes "    input wire signed [3:0] t,\n"
    ++ codes "    output wire signed [4:0] y,\n"
    ++ codes "    output wire [2:0] z\n"
    ++ codes ");\n"
    ++ codes "wire [1:0] k;\n"
    ++ codes "wire signed [4:0] n$0;\n"
    ++ codes "wire n$1;\n"
    ++ codes "wire [1:0] n$2;\n"
    ++ codes "wire [2:0] n$3;\n"
    ++ codes "assign n$0 = ($signed({1'd0, u}) + t);\n"
    ++ codes "assign n$1 = $unsigned(u);\n"
    ++ codes "assign n$2 = t[2:1];\n"
    ++ codes "assign n$3 = {n$2, n$1};\n"
    ++ codes "assign y = n$0;\n"
    ++ codes "assign z = n$3;\n"
    ++ codes "assign k = 2'd2;\n"
    ++ codes "endmodule\n"

-- ---- a register that its reset leaves as it is, a slice alone, and two assignments:
-- If(u, r.eq(-1)).Else(r.eq(u)) in `sys`; v[0:1].eq(u), w.eq(u), w.eq(r)

unfoldable pub branched_exprs : List Expr
branched_exprs = expr.Sig (the_signal 0) ∷ expr.Const (negsuc 0) 2 true ∷ expr.Sig (the_signal 1) ∷ []

unfoldable pub branched_targets : List Target
branched_targets = target.Part (the_signal 2) 0 1 ∷ target.Whole (the_signal 3) ∷ target.Whole (the_signal 1) ∷ []

unfoldable pub branched_stmts : List Stmt
branched_stmts =
    stmt.Assign (the_target 0) (the_expr 0) 5 ∷ stmt.Assign (the_target 1) (the_expr 0) 6 ∷ stmt.Assign (the_target 1) (the_expr 2) 7
    ∷ stmt.Assign (the_target 2) (the_expr 1) 3 ∷ stmt.Assign (the_target 2) (the_expr 0) 4
    ∷ stmt.If (record { cond = the_expr 0; body = the_stmt 3 ∷ [] } ∷ []) (the_stmt 4 ∷ []) 2 ∷ []

unfoldable pub branched_signals : List Signal
branched_signals =
    signal_of (codes "u") 1 0 ∷ record (signal_of (codes "r") 2 3) { reset_less = true } ∷ signal_of (codes "v") 2 0 ∷ signal_of (codes "w") 2 0
    ∷ signal_of (codes "sys_rst") 1 0 ∷ []

-- r turns to 3 while u is not 0, else to u; bit 0 of v is u, and w is r.
unfoldable pub branched : Design
branched = record {
  exprs = branched_exprs;
  targets = branched_targets;
  stmts = branched_stmts;
  signals = branched_signals;
  comb = the_stmt 0 ∷ the_stmt 1 ∷ the_stmt 2 ∷ [];
  sync = record { domain = 0; stmts = the_stmt 5 ∷ [] } ∷ [];
  memories = [];
  ports = [];
  domains = record { name = codes "sys"; reset = Some (the_signal 4) } ∷ [];
  ios = the_signal 0 ∷ the_signal 1 ∷ the_signal 2 ∷ the_signal 3 ∷ [];
}

abbrev pub branched_names : List Name
branched_names = codes "u" ∷ codes "r" ∷ codes "v" ∷ codes "w" ∷ codes "sys_rst" ∷ []

abbrev pub branched_text : List ℕ
branched_text =
    codes "module top (\n"
    ++ codes "    input wire sys_clk,\n"
    ++ codes "    input wire sys_rst,\n"
    ++ codes "    input wire u,\n"
    ++ codes "    output reg [1:0] r = 2'd3,\n"
    ++ codes "    output reg [1:0] v = 2'd0,\n"
    ++ codes "    output reg [1:0] w = 2'd0\n"
    ++ codes ");\n"
    ++ codes "always @(posedge sys_clk) begin\n"
    ++ codes "    if (u) begin\n"
    ++ codes "        r <= 2'sd3;\n"
    ++ codes "    end else begin\n"
    ++ codes "        r <= u;\n"
    ++ codes "    end\n"
    ++ codes "end\n"
    ++ codes "always @(*) begin\n"
    ++ codes "    v = 2'd0;\n"
    ++ codes "    v[0:0] = u;\n"
    ++ codes "end\n"
    ++ codes "always @(*) begin\n"
    ++ codes "    w = 2'd0;\n"
    ++ codes "    w = u;\n"
    ++ codes "    w = r;\n"
    ++ codes "end\n"
    ++ codes "endmodule\n"

-- ---- two memories in the domain `sys`: three words, written in two parts and read by Mux(adr < 3, m[adr], 0), and two words, written whole and read at 1

unfoldable pub stored_exprs : List Expr
stored_exprs =
    expr.Sig (the_signal 0) ∷ expr.Fetch 0 8 (the_expr 0) ∷ expr.Const (pos 3) 2 false ∷ expr.Binary op.Lt (the_expr 0) (the_expr 2)
    ∷ expr.Const (pos 0) 8 false ∷ expr.Mux (the_expr 3) (the_expr 1) (the_expr 4) ∷ expr.Const (pos 1) 1 false ∷ expr.Fetch 1 4 (the_expr 6) ∷ []

unfoldable pub stored_targets : List Target
stored_targets = target.Whole (the_signal 3) ∷ target.Whole (the_signal 8) ∷ []

unfoldable pub stored_stmts : List Stmt
stored_stmts = stmt.Assign (the_target 0) (the_expr 5) 5 ∷ stmt.Assign (the_target 1) (the_expr 7) 6 ∷ []

unfoldable pub stored_signals : List Signal
stored_signals =
    signal_of (codes "adr") 2 0 ∷ signal_of (codes "dat_w") 8 0 ∷ signal_of (codes "we") 2 0 ∷ signal_of (codes "r") 8 0
    ∷ signal_of (codes "sys_rst") 1 0 ∷ signal_of (codes "a") 1 0 ∷ signal_of (codes "d") 4 0 ∷ signal_of (codes "w") 1 0
    ∷ signal_of (codes "y") 4 0 ∷ []

unfoldable pub stored_memories : List Memory
stored_memories =
    record { path = codes "m" ∷ []; width = 8; depth = 3; init = 1 ∷ 255 ∷ []; line = 2 }
    ∷ record { path = codes "t" ∷ []; width = 4; depth = 2; init = []; line = 3 } ∷ []

-- a port of the domain `sys` that writes in parts of 4 bits, and shows nothing
abbrev pub writing : (memory adr dat_w we : ℕ) → Port
writing memory adr dat_w we = record {
  memory = memory;
  domain = Some 0;
  adr = the_signal adr;
  dat_r = None;
  dat_w = Some (the_signal dat_w);
  we = Some (the_signal we);
  part = 4;
  mode = mode.WriteFirst;
}

unfoldable pub stored_ports : List Port
stored_ports = writing 0 0 1 2 ∷ writing 1 5 6 7 ∷ []

-- The address 3 is past the end of m: it reads 0 and takes nothing, and no tool is asked what stands there.
unfoldable pub stored : Design
stored = record {
  exprs = stored_exprs;
  targets = stored_targets;
  stmts = stored_stmts;
  signals = stored_signals;
  comb = the_stmt 0 ∷ the_stmt 1 ∷ [];
  sync = [];
  memories = stored_memories;
  ports = stored_ports;
  domains = record { name = codes "sys"; reset = Some (the_signal 4) } ∷ [];
  ios = the_signal 0 ∷ the_signal 1 ∷ the_signal 2 ∷ the_signal 3 ∷ the_signal 5 ∷ the_signal 6 ∷ the_signal 7 ∷ the_signal 8 ∷ [];
}

abbrev pub stored_names : List Name
stored_names =
    codes "adr" ∷ codes "dat_w" ∷ codes "we" ∷ codes "r" ∷ codes "sys_rst" ∷ codes "a" ∷ codes "d" ∷ codes "w" ∷ codes "y"
    ∷ codes "m" ∷ codes "t" ∷ []

abbrev pub stored_text : List ℕ
stored_text =
    codes "module top (\n"
    ++ codes "    input wire sys_clk,\n"
    ++ codes "    input wire sys_rst,\n"
    ++ codes "    input wire [1:0] adr,\n"
    ++ codes "    input wire [7:0] dat_w,\n"
    ++ codes "    input wire [1:0] we,\n"
    ++ codes "    output wire [7:0] r,\n"
    ++ codes "    input wire a,\n"
    ++ codes "    input wire [3:0] d,\n"
    ++ codes "    input wire w,\n"
    ++ codes "    output wire [3:0] y\n"
    ++ codes ");\n"
    ++ codes "reg [7:0] m [0:2];\n"
    ++ codes "reg [3:0] t [0:1];\n"
    ++ codes "wire [7:0] n$0;\n"
    ++ codes "wire n$1;\n"
    ++ codes "wire [7:0] n$2;\n"
    ++ codes "wire [3:0] n$3;\n"
    ++ codes "initial begin\n"
    ++ codes "    m[0] = 8'd1;\n"
    ++ codes "    m[1] = 8'd255;\n"
    ++ codes "    m[2] = 8'd0;\n"
    ++ codes "end\n"
    ++ codes "initial begin\n"
    ++ codes "    t[0] = 4'd0;\n"
    ++ codes "    t[1] = 4'd0;\n"
    ++ codes "end\n"
    ++ codes "assign n$0 = m[adr];\n"
    ++ codes "assign n$1 = (adr < 2'd3);\n"
    ++ codes "assign n$2 = (n$1 ? n$0 : 8'd0);\n"
    ++ codes "assign n$3 = t[1'd1];\n"
    ++ codes "assign r = n$2;\n"
    ++ codes "assign y = n$3;\n"
    ++ codes "always @(posedge sys_clk) begin\n"
    ++ codes "    if ((adr < 2'd3)) begin\n"
    ++ codes "        if (we[0:0]) begin\n"
    ++ codes "            m[adr][3:0] <= dat_w[3:0];\n"
    ++ codes "        end\n"
    ++ codes "        if (we[1:1]) begin\n"
    ++ codes "            m[adr][7:4] <= dat_w[7:4];\n"
    ++ codes "        end\n"
    ++ codes "    end\n"
    ++ codes "end\n"
    ++ codes "always @(posedge sys_clk) begin\n"
    ++ codes "    if (w) begin\n"
    ++ codes "        t[a] <= d;\n"
    ++ codes "    end\n"
    ++ codes "end\n"
    ++ codes "endmodule\n"
