-- A test of what a design keeps.
use Rattle.std.specs.Prelude.{ℕ, ℤ, Bool, true, false, List, [], ◌∷◌, Option, Some, None, ◌+◌, ◌-◌, ◌/◌, ◌%◌, ◌^◌, nat_le, nat_lt, nat_eq, not, is_none, ◌&&◌, ◌||◌, map, length, slice_get}
use Rattle.std.specs.List.{list_all}
use Rattle.std.specs.Ordering.{int_eq}
use Rattle.std.specs.Str.{bytes_eq}
use Rattle.lx_num.specs.declared.Shape.{Shape}
use Rattle.lx_num.specs.Ints.{wrapped}
use Rattle.lx_arena.specs.Lower.{all_at}
use Rattle.lx_circuit.specs.Operands.{is_unary, is_binary}
use Rattle.lx_circuit.specs.Shapes.{Shapes, shape_of, fault_of}
use Rattle.lx_circuit.specs.Statements.{target_bits}
use Rattle.lx_circuit.specs.Circuit.{Role, Input, role}
use Rattle.lx_fhdl.specs.Below.{StmtId, expr_below, target_below, stmt_below, all_stmts_below}
use Rattle.lx_fhdl.specs.Trees.{term_at}
use Rattle.lx_fhdl.specs.Stmts.{target_at}
use Rattle.lx_fhdl.specs.Designs.{block, circuit_of, shapes, memory_at}
use Rattle.lx_fhdl.specs.Keeping.{is_identifier, is_distinct, is_clocked, reset_name, block_depth}
use Rattle.lx_fhdl.specs.declared.exprs.SigId.{SigId}
use Rattle.lx_fhdl.specs.declared.exprs.Expr.{Expr}
use Rattle.lx_fhdl.specs.declared.exprs.Expr.TheVariants.{Sig, Unary, Binary, Cat, Pick, Fetch}
use Rattle.lx_fhdl.specs.declared.stmts.Target.{Target}
use Rattle.lx_fhdl.specs.declared.stmts.Target.TheVariants as target
use Rattle.lx_fhdl.specs.declared.stmts.Branch.{Branch}
use Rattle.lx_fhdl.specs.declared.stmts.Stmt.{Stmt}
use Rattle.lx_fhdl.specs.declared.stmts.Stmt.TheVariants as stmt
use Rattle.lx_fhdl.specs.declared.design.Signal.{Signal}
use Rattle.lx_fhdl.specs.declared.design.Memory.{Memory}
use Rattle.lx_fhdl.specs.declared.design.Port.{Port}
use Rattle.lx_fhdl.specs.declared.design.Domain.{Domain}
use Rattle.lx_fhdl.specs.declared.design.SyncPart.{SyncPart}
use Rattle.lx_fhdl.specs.declared.design.Design.{Design}

-- ---- arenas

abbrev pub has_width : ℕ → Option Memory → Bool
has_width width (Some m) = nat_eq width m.width
has_width width None = false

abbrev pub names_there : ℕ → List Memory → Expr → Bool
names_there n memories (Sig x) = nat_lt x.0 n
names_there n memories (Fetch memory width at) = has_width width (slice_get memories memory)
names_there n memories _ = true

abbrev pub has_plain_index : Shapes → List Expr → Expr → Bool
has_plain_index s xs (Fetch memory width at) = not (shape_of s (term_at xs at.place)).signed
has_plain_index s xs _ = true

abbrev pub takes_operands : Expr → Bool
takes_operands (Unary op of) = is_unary op
takes_operands (Binary op left right) = is_binary op
takes_operands _ = true

abbrev pub has_parts : Expr → Bool
has_parts (Cat parts) = nat_lt 0 (length parts)
has_parts (Pick items index) = nat_lt 0 (length items)
has_parts _ = true

abbrev pub target_stands : Shapes → ℕ → List Expr → Target → Bool
target_stands s n xs (target.Whole x) = nat_lt x.0 n
target_stands s n xs (target.Part x low len) = nat_lt x.0 n && (nat_le 1 len && nat_le (low + len) (s x.0).bits)
target_stands s n xs (target.Cat parts) = nat_lt 0 (length parts)
target_stands s n xs (target.Pick items index) = nat_lt 0 (length items) && (nat_lt index.place (length xs) && not (shape_of s (term_at xs index.place)).signed)

abbrev pub stmt_stands : ℕ → ℕ → Stmt → Bool
stmt_stands n m (stmt.Assign target value line) = nat_lt target.place m && nat_lt value.place n
stmt_stands n m (stmt.If branches rest line) = list_all (λ (b : Branch). nat_lt b.cond.place n) branches
stmt_stands n m (stmt.Case on arms rest line) = nat_lt on.place n

abbrev pub are_lower : List Expr → List Target → List Stmt → Bool
are_lower xs ts ss = all_at expr_below 0 xs && (all_at target_below 0 ts && all_at stmt_below 0 ss)

-- the node x stands at the place k
abbrev pub expr_keeps : Shapes → ℕ → List Memory → List Expr → Expr → ℕ → Bool
expr_keeps s n memories xs x k =
    is_none (fault_of s (term_at xs k))
    && (takes_operands x && (has_parts x && (names_there n memories x && has_plain_index s xs x)))

abbrev pub target_keeps : Shapes → ℕ → List Expr → List Target → Target → ℕ → Bool
target_keeps s n xs ts x k = target_stands s n xs x && nat_le (target_bits s (target_at (term_at xs) ts k)) 127

abbrev pub arenas_keep : Shapes → ℕ → List Memory → List Expr → List Target → List Stmt → Bool
arenas_keep s n memories xs ts ss =
    are_lower xs ts ss
    && (all_at (expr_keeps s n memories xs) 0 xs && (all_at (target_keeps s n xs ts) 0 ts && list_all (stmt_stands (length xs) (length ts)) ss))

-- ---- lists of statements

abbrev pub list_stands : Design → List StmtId → Bool
list_stands d ids = all_stmts_below (length d.stmts) ids && nat_le (block_depth (block d ids)) 128

abbrev pub part_stands : Design → SyncPart → Bool
part_stands d p = nat_lt p.domain (length d.domains) && list_stands d p.stmts

-- ---- signals and memories

abbrev pub is_between : ℕ → ℕ → ℕ → Bool
is_between low high n = nat_le low n && nat_le n high

abbrev pub is_fit : Shape → ℤ → Bool
is_fit a z = int_eq (wrapped a z) z

abbrev pub is_signal : Signal → Bool
is_signal s = is_between 1 64 s.shape.bits && (is_fit s.shape s.reset && list_all is_identifier s.path)

abbrev pub is_memory : Memory → Bool
is_memory m =
    (is_between 1 64 m.width && is_between 1 65536 m.depth)
    && (list_all (λ z. nat_lt z (2 ^ m.width)) m.init && (nat_le (length m.init) m.depth && list_all is_identifier m.path))

-- ---- ports

abbrev pub is_there : Design → SigId → Bool
is_there d x = nat_lt x.0 (length d.signals)

abbrev pub is_unsigned : Design → ℕ → SigId → Bool
is_unsigned d n x = is_there d x && (nat_eq (shapes d x.0).bits n && not (shapes d x.0).signed)

-- n is the least number of bits, at least 1, that hold a
abbrev pub is_fewest : ℕ → ℕ → Bool
is_fewest a n = nat_le 1 n && (nat_lt a (2 ^ n) && (nat_eq n 1 || nat_le (2 ^ (n - 1)) a))

abbrev pub is_address : Design → ℕ → SigId → Bool
is_address d depth x = is_there d x && (not (shapes d x.0).signed && is_fewest (depth - 1) (shapes d x.0).bits)

abbrev pub is_some_unsigned : Design → ℕ → Option SigId → Bool
is_some_unsigned d n None = true
is_some_unsigned d n (Some x) = is_unsigned d n x

abbrev pub writer_stands : Design → (width part : ℕ) → Option SigId → Option SigId → Bool
writer_stands d width part (Some dat_w) (Some we) = is_unsigned d width dat_w && is_unsigned d (width / part) we
writer_stands d width part None None = true
writer_stands d width part _ _ = false

abbrev pub has_domain : ℕ → Bool → Option ℕ → Bool
has_domain n true (Some k) = nat_lt k n
has_domain n true None = false
has_domain n false o = is_none o

abbrev pub is_port : Design → Port → Bool
is_port d q =
    let m = memory_at d q.memory in
    (nat_lt q.memory (length d.memories) && has_domain (length d.domains) (is_clocked q.mode q.we) q.domain)
    && (is_address d m.depth q.adr
    && (is_some_unsigned d m.width q.dat_r
    && (writer_stands d m.width q.part q.dat_w q.we && (nat_le 1 q.part && nat_eq (m.width % q.part) 0))))

-- ---- domains

abbrev pub is_reset_path : List ℕ → List (List ℕ) → Bool
is_reset_path name [] = false
is_reset_path name (p ∷ []) = bytes_eq p (reset_name name)
is_reset_path name (p ∷ q ∷ ps) = false

abbrev pub has_reset_path : Domain → Option Signal → Bool
has_reset_path x None = false
has_reset_path x (Some s) = is_reset_path x.name s.path

abbrev pub is_input : Role → Bool
is_input Input = true
is_input _ = false

abbrev pub is_reset : Design → Domain → Option SigId → Bool
is_reset d x None = true
is_reset d x (Some r) = has_reset_path x (slice_get d.signals r.0) && is_input (role (circuit_of d) r.0)

abbrev pub is_domain : Design → Domain → Bool
is_domain d x = is_identifier x.name && is_reset d x x.reset

abbrev pub are_domains : Design → Bool
are_domains d =
    list_all (is_domain d) d.domains
    && (nat_le (length d.domains) 16 && is_distinct (map (λ (x : Domain). x.name) d.domains))

-- The test: where it is true, the design keeps what designs keep.
unfoldable pub is_kept : Design → Bool
is_kept d =
    arenas_keep (shapes d) (length d.signals) d.memories d.exprs d.targets d.stmts
    && ((list_all is_signal d.signals && (list_all is_memory d.memories && list_all (is_port d) d.ports))
    && ((list_stands d d.comb && list_all (part_stands d) d.sync)
    && (are_domains d && list_all (is_there d) d.ios)))
