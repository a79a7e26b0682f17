-- A test of what a description keeps.
use Rattle.std.specs.Prelude.{ℕ, pos, Bool, true, false, List, [], ◌∷◌, Option, Some, None, ◌+◌, ◌/◌, ◌^◌, nat_lt, nat_le, nat_eq, not, is_none, ◌&&◌, ◌||◌, codes, map, flat_map, length, slice_get}
use Rattle.std.specs.List.{list_all}
use Rattle.std.specs.Ordering.{int_eq}
use Rattle.std.specs.Str.{bytes_eq}
use Rattle.lx_num.specs.Ints.{unsigned, wrapped}
use Rattle.lx_arena.specs.Lower.{all_at}
use Rattle.lx_fhdl.specs.Keeping.{block_depth, is_between, is_distinct, is_identifier}
use Rattle.lx_fhdl.specs.Kept.{is_address, is_kept, is_unsigned}
use Rattle.lx_fhdl.specs.Nodes.{is_fetch}
use Rattle.lx_fhdl.specs.declared.exprs.SigId.{SigId}
use Rattle.lx_fhdl.specs.declared.exprs.Expr.{Expr}
use Rattle.lx_fhdl.specs.declared.stmts.Stmt.{Stmt}
use Rattle.lx_fhdl.specs.declared.design.Signal.{Signal}
use Rattle.lx_fhdl.specs.declared.design.Domain.{Domain}
use Rattle.lx_fhdl.specs.declared.design.Design.{Design}
use Rattle.lx_fhdl.specs.declared.places.RegionWish.{RegionWish}
use Rattle.lx_description.specs.Below.{all_fsm_below, fsm_below}
use Rattle.lx_description.specs.Fsms.{assigned}
use Rattle.lx_description.specs.Wires.{BusPort, Wire, bus_ports, given, interface_wires, left, placed, register_wires, source_wires}
use Rattle.lx_description.specs.Keeping.{are_apart, fsm_line, has_name, have_clock, is_driven, is_generated, is_reserved, is_value, line_of, most_size, registers, submodules, takes_options, times}
use Rattle.lx_description.specs.declared.registers.Field.{Field}
use Rattle.lx_description.specs.declared.registers.RegDecl.{RegDecl}
use Rattle.lx_description.specs.declared.registers.SourceDecl.{SourceDecl}
use Rattle.lx_description.specs.declared.registers.ManagerDecl.{ManagerDecl}
use Rattle.lx_description.specs.declared.modules.Part.{Part}
use Rattle.lx_description.specs.declared.modules.Part.TheVariants as part
use Rattle.lx_description.specs.declared.modules.ModuleDecl.{ModuleDecl}
use Rattle.lx_description.specs.declared.modules.ConstDecl.{ConstDecl}
use Rattle.lx_description.specs.declared.slaves.SlaveKind.{SlaveKind}
use Rattle.lx_description.specs.declared.slaves.SlaveKind.TheVariants as slave
use Rattle.lx_description.specs.declared.slaves.SlaveDecl.{SlaveDecl}
use Rattle.lx_description.specs.declared.fsms.FsmStmt.{FsmStmt}
use Rattle.lx_description.specs.declared.fsms.FsmStmt.TheVariants as fsm
use Rattle.lx_description.specs.declared.fsms.FsmBranch.{FsmBranch}
use Rattle.lx_description.specs.declared.fsms.Asked.{Asked}
use Rattle.lx_description.specs.declared.fsms.StateDecl.{StateDecl}
use Rattle.lx_description.specs.declared.fsms.FsmPlace.{FsmPlace}
use Rattle.lx_description.specs.declared.fsms.FsmDecl.{FsmDecl}
use Rattle.lx_description.specs.declared.description.Description.{Description}

-- ---- signals of declarations

abbrev pub same_bit : Bool → Bool → Bool
same_bit true b = b
same_bit false b = not b

abbrev pub is_wire : Signal → Wire → Bool
is_wire s w =
    (nat_eq s.shape.bits w.bits && not s.shape.signed)
    && (int_eq s.reset (wrapped (unsigned w.bits) w.reset) && (not s.reset_less && same_bit s.by_bus w.given))

abbrev pub has_wire : Option Signal → Wire → Bool
has_wire (Some s) w = is_wire s w
has_wire None w = false

abbrev pub have_wires : Design → List SigId → List Wire → Bool
have_wires d [] [] = true
have_wires d (x ∷ xs) (w ∷ ws) = has_wire (slice_get d.signals x.0) w && have_wires d xs ws
have_wires d _ _ = false

abbrev pub has_path : List ℕ → List (List ℕ) → Bool
has_path name [] = false
has_path name (p ∷ []) = bytes_eq p name
has_path name (p ∷ q ∷ ps) = false

abbrev pub are_bus_ports : List Signal → List BusPort → Bool
are_bus_ports ss [] = true
are_bus_ports [] (p ∷ ps) = false
are_bus_ports (s ∷ ss) (p ∷ ps) = (has_path p.name s.path && is_wire s (left p.bits (pos 0))) && are_bus_ports ss ps

-- ---- registers, event managers and constants

abbrev pub is_field : ℕ → Field → Bool
is_field size f = is_identifier f.name && (nat_le 1 f.size && nat_le (f.offset + f.size) size)

abbrev pub is_register : Design → RegDecl → Bool
is_register d r =
    is_identifier r.name
    && (is_between 1 (most_size r.kind) r.size
    && (takes_options r r.kind && (list_all (is_field r.size) r.fields && have_wires d r.signals (register_wires r r.kind))))

abbrev pub is_source : Design → SourceDecl → Bool
is_source d s = is_identifier s.name && have_wires d s.signals source_wires

abbrev pub is_some_generated : Option Signal → Bool
is_some_generated (Some s) = is_generated s
is_some_generated None = false

abbrev pub is_manager : Design → ManagerDecl → Bool
is_manager d m =
    is_between 1 32 (length m.sources)
    && (list_all (is_source d) m.sources
    && (has_wire (slice_get d.signals m.irq.0) (given 1 (pos 0))
    && (has_wire (slice_get d.signals m.enable.0) (left (length m.sources) (pos 0)) && is_some_generated (slice_get d.signals m.enable.0))))

abbrev pub is_constant : ConstDecl → Bool
is_constant c = is_identifier c.name && is_value c.value

-- ---- modules

abbrev pub is_part : Design → Part → Bool
is_part d (part.Reg r) = is_register d r
is_part d (part.Constant c) = is_constant c
is_part d (part.Manager name m) = is_identifier name && is_manager d m
is_part d (part.Module k) = true

abbrev pub is_later : ℕ → ℕ → ℕ → Bool
is_later k n j = nat_lt k j && nat_lt j n

abbrev pub is_module : Description → ModuleDecl → ℕ → Bool
is_module d m k =
    is_identifier m.name
    && (list_all (is_part d.design) m.parts
    && (list_all (is_later k (length d.modules)) (submodules m)
    && (nat_eq k 0 || nat_eq (times k (flat_map submodules d.modules)) 1)))

abbrev pub is_top : List ℕ → List ModuleDecl → Bool
is_top name [] = false
is_top name (m ∷ ms) = bytes_eq m.name name

abbrev pub modules_keep : Description → Bool
modules_keep d = is_top d.top d.modules && (all_at (is_module d) 0 d.modules && nat_le (registers d.modules) 1000000)

-- ---- FSMs

abbrev pub fsm_stmt_stands : ℕ → ℕ → FsmStmt → Bool
fsm_stmt_stands n m (fsm.Assign target value line) = nat_lt target.place m && nat_lt value.place n
fsm_stmt_stands n m (fsm.If branches rest line) = list_all (λ (b : FsmBranch). nat_lt b.cond.place n) branches
fsm_stmt_stands n m (fsm.Case on arms rest line) = nat_lt on.place n
fsm_stmt_stands n m (fsm.NextState name line) = true
fsm_stmt_stands n m (fsm.NextValue target value line) = nat_lt target.place m && nat_lt value.place n

abbrev pub is_body : Description → StateDecl → Bool
is_body d s = all_fsm_below (length d.fsm_stmts) s.body && nat_le (block_depth (assigned d s.body)) 64

abbrev pub is_place : Design → Option FsmPlace → Bool
is_place d (Some p) = nat_le p.comb (length d.comb) && nat_le p.sync (length d.sync)
is_place d None = true

abbrev pub is_fsm : Description → FsmDecl → Bool
is_fsm d f =
    (nat_le (length f.states) 256 && is_distinct (map (λ (s : StateDecl). s.name) f.states))
    && ((list_all (is_body d) f.states && (nat_eq (length f.states) 0 || is_address d.design (length f.states) f.state))
    && ((list_all (λ (a : Asked). is_unsigned d.design 1 a.signal) f.asked && is_distinct (map (λ (a : Asked). a.name) f.asked))
    && is_place d.design f.place))

abbrev pub fsms_keep : Description → Bool
fsms_keep d =
    all_at fsm_below 0 d.fsm_stmts
    && (list_all (fsm_stmt_stands (length d.design.exprs) (length d.design.targets)) d.fsm_stmts
    && (list_all (is_fsm d) d.fsms && have_clock d))

-- ---- statements

abbrev pub have_lines : Description → Bool
have_lines d = list_all (λ (s : Stmt). nat_le 1 (line_of s)) d.design.stmts && list_all (λ (s : FsmStmt). nat_le 1 (fsm_line s)) d.fsm_stmts

abbrev pub is_left : Description → Signal → ℕ → Bool
is_left d s x = not (is_reserved d s x) || not (is_driven d x)

-- ---- the system

abbrev pub is_region : RegionWish → Bool
is_region w = is_identifier w.name && is_between 1 4294967296 w.size

abbrev pub is_first_region : RegionWish → Bool
is_first_region w = bytes_eq w.name (codes "csr") && (not (is_none w.origin) && (nat_eq w.size 65536 && not w.cached))

abbrev pub is_memory_region : RegionWish → List ℕ → Bool
is_memory_region w contents =
    (nat_le w.size 262144 && w.cached) && (list_all (λ z. nat_lt z (2 ^ 32)) contents && nat_le (length contents) ((w.size + 3) / 4))

abbrev pub answers : Design → RegionWish → SlaveKind → Bool
answers d w (slave.Ram contents) = is_memory_region w contents
answers d w (slave.Rom contents) = is_memory_region w contents
answers d w (slave.User xs) = have_wires d xs interface_wires

abbrev pub have_slaves : Design → List RegionWish → List SlaveDecl → Bool
have_slaves d [] [] = true
have_slaves d (w ∷ ws) (s ∷ ss) = (bytes_eq s.name w.name && answers d w s.kind) && have_slaves d ws ss
have_slaves d _ _ = false

abbrev pub regions_stand : Design → List RegionWish → List SlaveDecl → Bool
regions_stand d [] ss = false
regions_stand d (w ∷ ws) ss = is_first_region w && have_slaves d ws ss

abbrev pub is_clocked : List Domain → Bool
is_clocked [] = false
is_clocked (x ∷ xs) = bytes_eq x.name (codes "sys") && not (is_none x.reset)

abbrev pub is_system : Description → Bool
is_system d =
    (are_bus_ports d.design.signals bus_ports && is_clocked d.design.domains)
    && ((list_all is_region d.wishes.regions && nat_le (length d.wishes.regions) 64)
    && (regions_stand d.design d.wishes.regions d.slaves && (list_all has_name d.wishes.fixes && list_all has_name d.wishes.irqs)))

abbrev pub is_empty : {T : Type 0} → List T → Bool
is_empty [] = true
is_empty (x ∷ xs) = false

abbrev pub is_alone : Description → Bool
is_alone d = (is_empty d.wishes.regions && is_empty d.slaves) && (is_empty d.wishes.fixes && is_empty d.wishes.irqs)

abbrev pub top_keeps : Description → Bool → Bool
top_keeps d true = is_system d
top_keeps d false = is_alone d

-- The test: where it is true, the description keeps what descriptions keep.
unfoldable pub keeps_description : Description → Bool
keeps_description d =
    (is_kept d.design && list_all (λ (x : Expr). not (is_fetch x)) d.design.exprs)
    && ((modules_keep d && (list_all is_constant d.constants && fsms_keep d))
    && ((have_lines d && (all_at (is_left d) 0 d.design.signals && are_apart (placed d)))
    && ((is_empty d.wishes.banks && is_empty d.wishes.managers) && top_keeps d d.soc)))
