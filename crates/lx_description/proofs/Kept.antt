-- The test of what a description keeps: where it is true, the description keeps it.
use Rattle.std.proofs.Common.{◌≡◌, ℕ, pos, ◌+◌, ◌-◌, ◌/◌, ◌^◌, ◌<◌, ◌≤◌, Bool, true, false, ◌&&◌, ◌||◌, not, List, [], ◌∷◌, Option, Some, None, length, slice_get, nat_lt, nat_le, nat_eq, refl, ap, arith, inl, inr}
use Rattle.std.specs.Prelude.{IfSome, IsSomeAnd, IsTrue, codes, flat_map}
use Rattle.std.specs.List.{list_all}
use Rattle.std.proofs.lemmas.Bool.{ltb-true, leb-true, eqb-true, and_parts, or_cases, not-true}
use Rattle.std.proofs.lemmas.Bool.Decides.{Decides-int_eq}
use Rattle.std.proofs.lemmas.Slice.Eq.{bytes_eq-Decides}
use Rattle.lx_num.specs.Ints.{shape, unsigned, wrapped}
use Rattle.lx_arena.proofs.Places.{all_at-is, all_at-lower, node_there}
use Rattle.lx_fhdl.specs.Keeping.{IsAddress, IsUnsigned, block_depth}
use Rattle.lx_fhdl.specs.Kept.{is_address, is_unsigned}
use Rattle.lx_fhdl.specs.Nodes.{is_fetch}
use Rattle.lx_fhdl.specs.declared.exprs.SigId.{SigId}
use Rattle.lx_fhdl.specs.declared.exprs.Expr.{Expr}
use Rattle.lx_fhdl.specs.declared.stmts.Stmt.{Stmt}
use Rattle.lx_fhdl.specs.declared.design.Signal.{Signal}
use Rattle.lx_fhdl.specs.declared.design.Domain.{Domain}
use Rattle.lx_fhdl.specs.declared.design.Design.{Design}
use Rattle.lx_fhdl.specs.declared.places.RegionWish.{RegionWish}
use Rattle.lx_fhdl.proofs.Kept.{is_kept-is, each_of, shape_is, is_unsigned-is, is_address-is}
use Rattle.lx_description.specs.Below.{fsm_below}
use Rattle.lx_description.specs.Fsms.{assigned}
use Rattle.lx_description.specs.Wires.{AreBusPorts, BusPort, HasWires, IsWire, Wire, bus_ports, given, interface_wires, left, register_wires, source_wires}
use Rattle.lx_description.specs.Keeping.{Answers, FsmBranchesStand, FsmStmtStands, FsmsKeep, HaveSlaves, IsAlone, IsBody, IsClocked, IsConstant, IsField, IsFirstRegion, IsFsm, IsManager, IsMemoryRegion, IsModule, IsPart, IsPlace, IsRegion, IsRegister, IsSource, IsSystem, KeepsDescription, ModulesKeep, RegionsStand, TopKeeps, fsm_line, is_driven, is_generated, is_reserved, line_of, most_size, registers, submodules, times}
use Rattle.lx_description.specs.Kept.{answers, are_bus_ports, fsm_stmt_stands, fsms_keep, has_path, has_wire, have_slaves, have_wires, is_alone, is_body, is_clocked, is_constant, is_empty, is_field, is_first_region, is_fsm, is_later, is_left, is_manager, is_memory_region, is_module, is_part, is_place, is_region, is_register, is_some_generated, is_source, is_system, is_top, is_wire, keeps_description, modules_keep, regions_stand, same_bit, top_keeps}
use Rattle.lx_description.specs.declared.registers.Field.{Field}
use Rattle.lx_description.specs.declared.registers.RegDecl.{RegDecl}
use Rattle.lx_description.specs.declared.registers.SourceDecl.{SourceDecl}
use Rattle.lx_description.specs.declared.registers.ManagerDecl.{ManagerDecl}
use Rattle.lx_description.specs.declared.modules.Part.{Part}
use Rattle.lx_description.specs.declared.modules.Part.TheVariants as part
use Rattle.lx_description.specs.declared.modules.ModuleDecl.{ModuleDecl}
use Rattle.lx_description.specs.declared.modules.ConstDecl.{ConstDecl}
use Rattle.lx_description.specs.declared.slaves.SlaveKind.{SlaveKind}
use Rattle.lx_description.specs.declared.slaves.SlaveKind.TheVariants as slave
use Rattle.lx_description.specs.declared.slaves.SlaveDecl.{SlaveDecl}
use Rattle.lx_description.specs.declared.fsms.FsmStmt.{FsmStmt}
use Rattle.lx_description.specs.declared.fsms.FsmStmt.TheVariants as fsm
use Rattle.lx_description.specs.declared.fsms.FsmBranch.{FsmBranch}
use Rattle.lx_description.specs.declared.fsms.Asked.{Asked}
use Rattle.lx_description.specs.declared.fsms.StateDecl.{StateDecl}
use Rattle.lx_description.specs.declared.fsms.FsmPlace.{FsmPlace}
use Rattle.lx_description.specs.declared.fsms.FsmDecl.{FsmDecl}
use Rattle.lx_description.specs.declared.description.Description.{Description}

empty-is : {T : Type 0} (xs : List T) → is_empty xs ≡ true → xs ≡ []
empty-is [] h = refl
empty-is (x ∷ xs) h = absurd (cc)

between : (low high n : ℕ) → (nat_le low n && nat_le n high) ≡ true → (low ≤ n) × (n ≤ high)
between low high n h = let p = and_parts _ _ h in (leb-true low n p.0, leb-true n high p.1)

-- ---- signals of declarations

same_bit-is : (a b : Bool) → same_bit a b ≡ true → a ≡ b
same_bit-is true true h = refl
same_bit-is true false h = absurd (cc)
same_bit-is false true h = absurd (cc)
same_bit-is false false h = refl

is_wire-is : (s : Signal) (w : Wire) → is_wire s w ≡ true → IsWire s w
is_wire-is s w h =
    let p = and_parts _ _ h in
    let a = and_parts _ _ p.0 in
    let q = and_parts _ _ p.1 in
    let r = and_parts _ _ q.1 in
    record {
      shape = shape_is s.shape w.bits (eqb-true s.shape.bits w.bits a.0) (not-true _ a.1);
      reset = (Decides-int_eq s.reset (wrapped (unsigned w.bits) w.reset)).0 q.0;
      resets = not-true _ r.0;
      given = same_bit-is s.by_bus w.given r.1;
    }

has_wire-is : (o : Option Signal) (w : Wire) → has_wire o w ≡ true → IsSomeAnd o (λ s. IsWire s w)
has_wire-is (Some s) w h = is_wire-is s w h
has_wire-is None w h = absurd (cc)

have_wires-is : (d : Design) (xs : List SigId) (ws : List Wire) → have_wires d xs ws ≡ true → HasWires d xs ws
have_wires-is d [] [] h = tt
have_wires-is d (x ∷ xs) (w ∷ ws) h = let p = and_parts _ _ h in (has_wire-is (slice_get d.signals x.0) w p.0, have_wires-is d xs ws p.1)
have_wires-is d [] (w ∷ ws) h = absurd (cc)
have_wires-is d (x ∷ xs) [] h = absurd (cc)

has_path-is : (name : List ℕ) (path : List (List ℕ)) → has_path name path ≡ true → path ≡ name ∷ []
has_path-is name [] h = absurd (cc)
has_path-is name (p ∷ []) h = ap (λ (q : List ℕ). q ∷ []) ((bytes_eq-Decides p name).0 h)
has_path-is name (p ∷ q ∷ ps) h = absurd (cc)

are_bus_ports-is : (ss : List Signal) (ps : List BusPort) → are_bus_ports ss ps ≡ true → AreBusPorts ss ps
are_bus_ports-is ss [] h = tt
are_bus_ports-is [] (p ∷ ps) h = absurd (cc)
are_bus_ports-is (s ∷ ss) (p ∷ ps) h =
    let a = and_parts _ _ h in
    let b = and_parts _ _ a.0 in
    ((has_path-is p.name s.path b.0, is_wire-is s (left p.bits (pos 0)) b.1), are_bus_ports-is ss ps a.1)

-- ---- registers, event managers and constants

is_field-is : (size : ℕ) (f : Field) → is_field size f ≡ true → IsField size f
is_field-is size f h =
    let p = and_parts _ _ h in
    let q = and_parts _ _ p.1 in
    record { name = p.0; some = leb-true 1 f.size q.0; inside = leb-true (f.offset + f.size) size q.1 }

is_register-is : (d : Design) (r : RegDecl) → is_register d r ≡ true → IsRegister d r
is_register-is d r h =
    let p = and_parts _ _ h in
    let q = and_parts _ _ p.1 in
    let size = between 1 (most_size r.kind) r.size q.0 in
    let a = and_parts _ _ q.1 in
    let b = and_parts _ _ a.1 in
    record {
      name = p.0;
      some = size.0;
      most = size.1;
      options = a.0;
      fields = each_of (IsField r.size) (is_field r.size) r.fields (is_field-is r.size) b.0;
      signals = have_wires-is d r.signals (register_wires r r.kind) b.1;
    }

is_source-is : (d : Design) (s : SourceDecl) → is_source d s ≡ true → IsSource d s
is_source-is d s h = let p = and_parts _ _ h in record { name = p.0; signals = have_wires-is d s.signals source_wires p.1 }

is_some_generated-is : (o : Option Signal) → is_some_generated o ≡ true → IsSomeAnd o (λ s. IsTrue (is_generated s))
is_some_generated-is (Some s) h = h
is_some_generated-is None h = absurd (cc)

is_manager-is : (d : Design) (m : ManagerDecl) → is_manager d m ≡ true → IsManager d m
is_manager-is d m h =
    let p = and_parts _ _ h in
    let count = between 1 32 (length m.sources) p.0 in
    let q = and_parts _ _ p.1 in
    let r = and_parts _ _ q.1 in
    let last = and_parts _ _ r.1 in
    record {
      some = count.0;
      most = count.1;
      sources = each_of (IsSource d) (is_source d) m.sources (is_source-is d) q.0;
      irq = has_wire-is (slice_get d.signals m.irq.0) (given 1 (pos 0)) r.0;
      enable = has_wire-is (slice_get d.signals m.enable.0) (left (length m.sources) (pos 0)) last.0;
      generated = is_some_generated-is (slice_get d.signals m.enable.0) last.1;
    }

is_constant-is : (c : ConstDecl) → is_constant c ≡ true → IsConstant c
is_constant-is c h = let p = and_parts _ _ h in record { name = p.0; value = p.1 }

-- ---- modules

is_part-is : (d : Design) (x : Part) → is_part d x ≡ true → IsPart d x
is_part-is d (part.Reg r) h = is_register-is d r h
is_part-is d (part.Constant c) h = is_constant-is c h
is_part-is d (part.Manager name m) h = let p = and_parts _ _ h in (p.0, is_manager-is d m p.1)
is_part-is d (part.Module k) h = tt

is_later-is : (k n j : ℕ) → is_later k n j ≡ true → (k < j) × (j < n)
is_later-is k n j h = let p = and_parts _ _ h in (ltb-true k j p.0, ltb-true j n p.1)

-- what the test says of the module m at the place k
record ModuleKept (d : Description) (m : ModuleDecl) (k : ℕ) : Type 0 where
  is : IsModule d k m
  once : 0 < k → times k (flat_map submodules d.modules) ≡ 1

once-is : (k n : ℕ) → (nat_eq k 0 || nat_eq n 1) ≡ true → 0 < k → n ≡ 1
once-is k n h some =
    elim (or_cases (nat_eq k 0) (nat_eq n 1) h) [
      | inl e ↦ absurd (omega (arith, eqb-true k 0 e, some))
      | inr e ↦ eqb-true n 1 e
    ]

is_module-is : (d : Description) (m : ModuleDecl) (k : ℕ) → is_module d m k ≡ true → ModuleKept d m k
is_module-is d m k h =
    let p = and_parts _ _ h in
    let q = and_parts _ _ p.1 in
    let r = and_parts _ _ q.1 in
    record {
      is = record {
        name = p.0;
        parts = each_of (IsPart d.design) (is_part d.design) m.parts (is_part-is d.design) q.0;
        later = each_of (λ j. (k < j) × (j < length d.modules)) (is_later k (length d.modules)) (submodules m) (is_later-is k (length d.modules)) r.0;
      };
      once = once-is k (times k (flat_map submodules d.modules)) r.1;
    }

is_top-is : (name : List ℕ) (ms : List ModuleDecl) → is_top name ms ≡ true → IsSomeAnd (slice_get ms 0) (λ m. m.name ≡ name)
is_top-is name [] h = absurd (cc)
is_top-is name (m ∷ ms) h = (bytes_eq-Decides m.name name).0 h

modules_keep-is : (d : Description) → modules_keep d ≡ true → ModulesKeep d
modules_keep-is d h =
    let p = and_parts _ _ h in
    let q = and_parts _ _ p.1 in
    let each : (k : ℕ) (m : ModuleDecl) → slice_get d.modules k ≡ Some m → ModuleKept d m k = λ k m e. is_module-is d m k (all_at-is (is_module d) d.modules q.0 k m e) in
    record {
      top = is_top-is d.top d.modules p.0;
      each = λ k m e. (each k m e).is;
      once = λ k some l. let (m, e) = node_there d.modules k l in (each k m e).once some;
      registers = leb-true (registers d.modules) 1000000 q.1;
    }

-- ---- FSMs

fsm_branches-is : (n : ℕ) (bs : List FsmBranch) → list_all (λ (b : FsmBranch). nat_lt b.cond.place n) bs ≡ true → FsmBranchesStand n bs
fsm_branches-is n [] h = tt
fsm_branches-is n (b ∷ bs) h = let p = and_parts _ _ h in (ltb-true b.cond.place n p.0, fsm_branches-is n bs p.1)

fsm_stmt-is : (n m : ℕ) (x : FsmStmt) → fsm_stmt_stands n m x ≡ true → FsmStmtStands n m x
fsm_stmt-is n m (fsm.Assign target value line) h = let p = and_parts _ _ h in (ltb-true target.place m p.0, ltb-true value.place n p.1)
fsm_stmt-is n m (fsm.If branches rest line) h = fsm_branches-is n branches h
fsm_stmt-is n m (fsm.Case on arms rest line) h = ltb-true on.place n h
fsm_stmt-is n m (fsm.NextState name line) h = tt
fsm_stmt-is n m (fsm.NextValue target value line) h = let p = and_parts _ _ h in (ltb-true target.place m p.0, ltb-true value.place n p.1)

is_body-is : (d : Description) (s : StateDecl) → is_body d s ≡ true → IsBody d s
is_body-is d s h = let p = and_parts _ _ h in record { there = p.0; depth = leb-true (block_depth (assigned d s.body)) 64 p.1 }

is_place-is : (d : Design) (o : Option FsmPlace) → is_place d o ≡ true → IfSome o (IsPlace d)
is_place-is d None h = tt
is_place-is d (Some p) h = let q = and_parts _ _ h in record { comb = leb-true p.comb (length d.comb) q.0; sync = leb-true p.sync (length d.sync) q.1 }

state-is : (d : Design) (n : ℕ) (x : SigId) → (nat_eq n 0 || is_address d n x) ≡ true → 0 < n → IsAddress d n x
state-is d n x h some =
    elim (or_cases (nat_eq n 0) (is_address d n x) h) [
      | inl e ↦ absurd (omega (arith, eqb-true n 0 e, some))
      | inr e ↦ is_address-is d n x e
    ]

is_fsm-is : (d : Description) (f : FsmDecl) → is_fsm d f ≡ true → IsFsm d f
is_fsm-is d f h =
    let p = and_parts _ _ h in
    let names = and_parts _ _ p.0 in
    let q = and_parts _ _ p.1 in
    let states = and_parts _ _ q.0 in
    let r = and_parts _ _ q.1 in
    let asked = and_parts _ _ r.0 in
    record {
      most = leb-true (length f.states) 256 names.0;
      distinct = names.1;
      bodies = each_of (IsBody d) (is_body d) f.states (is_body-is d) states.0;
      state = state-is d.design (length f.states) f.state states.1;
      asked = each_of (λ (a : Asked). IsUnsigned d.design 1 a.signal) (λ (a : Asked). is_unsigned d.design 1 a.signal) f.asked (λ a e. is_unsigned-is d.design 1 a.signal e) asked.0;
      asked_once = asked.1;
      place = is_place-is d.design f.place r.1;
    }

fsms_keep-is : (d : Description) → fsms_keep d ≡ true → FsmsKeep d
fsms_keep-is d h =
    let p = and_parts _ _ h in
    let q = and_parts _ _ p.1 in
    let r = and_parts _ _ q.1 in
    let n = length d.design.exprs in
    let m = length d.design.targets in
    record {
      lower = all_at-lower fsm_below d.fsm_stmts p.0;
      stmts = each_of (FsmStmtStands n m) (fsm_stmt_stands n m) d.fsm_stmts (fsm_stmt-is n m) q.0;
      fsms = each_of (IsFsm d) (is_fsm d) d.fsms (is_fsm-is d) r.0;
      clock = r.1;
    }

-- ---- statements

is_left-is : (a b : Bool) → (not a || not b) ≡ true → a ≡ true → b ≡ false
is_left-is true true h e = absurd (cc)
is_left-is true false h e = refl
is_left-is false b h e = absurd (cc)

-- ---- the system

is_region-is : (w : RegionWish) → is_region w ≡ true → IsRegion w
is_region-is w h =
    let p = and_parts _ _ h in
    let size = between 1 4294967296 w.size p.1 in
    (p.0, size.0, size.1)

is_first_region-is : (w : RegionWish) → is_first_region w ≡ true → IsFirstRegion w
is_first_region-is w h =
    let p = and_parts _ _ h in
    let q = and_parts _ _ p.1 in
    let r = and_parts _ _ q.1 in
    record { name = (bytes_eq-Decides w.name (codes "csr")).0 p.0; origin = not-true _ q.0; size = eqb-true w.size 65536 r.0; uncached = not-true _ r.1 }

is_memory_region-is : (w : RegionWish) (contents : List ℕ) → is_memory_region w contents ≡ true → IsMemoryRegion w contents
is_memory_region-is w contents h =
    let p = and_parts _ _ h in
    let a = and_parts _ _ p.0 in
    let b = and_parts _ _ p.1 in
    record {
      size = leb-true w.size 262144 a.0;
      cached = a.1;
      words = each_of (λ z. z < 2 ^ 32) (λ z. nat_lt z (2 ^ 32)) contents (λ z e. ltb-true z (2 ^ 32) e) b.0;
      most = leb-true (length contents) ((w.size + 3) / 4) b.1;
    }

answers-is : (d : Design) (w : RegionWish) (k : SlaveKind) → answers d w k ≡ true → Answers d w k
answers-is d w (slave.Ram contents) h = is_memory_region-is w contents h
answers-is d w (slave.Rom contents) h = is_memory_region-is w contents h
answers-is d w (slave.User xs) h = have_wires-is d xs interface_wires h

have_slaves-is : (d : Design) (ws : List RegionWish) (ss : List SlaveDecl) → have_slaves d ws ss ≡ true → HaveSlaves d ws ss
have_slaves-is d [] [] h = tt
have_slaves-is d (w ∷ ws) (s ∷ ss) h =
    let p = and_parts _ _ h in
    let q = and_parts _ _ p.0 in
    (((bytes_eq-Decides s.name w.name).0 q.0, answers-is d w s.kind q.1), have_slaves-is d ws ss p.1)
have_slaves-is d [] (s ∷ ss) h = absurd (cc)
have_slaves-is d (w ∷ ws) [] h = absurd (cc)

regions_stand-is : (d : Design) (ws : List RegionWish) (ss : List SlaveDecl) → regions_stand d ws ss ≡ true → RegionsStand d ws ss
regions_stand-is d [] ss h = absurd (cc)
regions_stand-is d (w ∷ ws) ss h = let p = and_parts _ _ h in (is_first_region-is w p.0, have_slaves-is d ws ss p.1)

is_clocked-is : (xs : List Domain) → is_clocked xs ≡ true → IsSomeAnd (slice_get xs 0) IsClocked
is_clocked-is [] h = absurd (cc)
is_clocked-is (x ∷ xs) h = let p = and_parts _ _ h in ((bytes_eq-Decides x.name (codes "sys")).0 p.0, not-true _ p.1)

is_system-is : (d : Description) → is_system d ≡ true → IsSystem d
is_system-is d h =
    let p = and_parts _ _ h in
    let a = and_parts _ _ p.0 in
    let q = and_parts _ _ p.1 in
    let b = and_parts _ _ q.0 in
    let r = and_parts _ _ q.1 in
    let c = and_parts _ _ r.1 in
    record {
      ports = are_bus_ports-is d.design.signals bus_ports a.0;
      sys = is_clocked-is d.design.domains a.1;
      regions = each_of IsRegion is_region d.wishes.regions is_region-is b.0;
      regions_most = leb-true (length d.wishes.regions) 64 b.1;
      slaves = regions_stand-is d.design d.wishes.regions d.slaves r.0;
      fixes = c.0;
      irqs = c.1;
    }

is_alone-is : (d : Description) → is_alone d ≡ true → IsAlone d
is_alone-is d h =
    let p = and_parts _ _ h in
    let a = and_parts _ _ p.0 in
    let b = and_parts _ _ p.1 in
    record { regions = empty-is d.wishes.regions a.0; slaves = empty-is d.slaves a.1; fixes = empty-is d.wishes.fixes b.0; irqs = empty-is d.wishes.irqs b.1 }

top_keeps-is : (d : Description) (soc : Bool) → top_keeps d soc ≡ true → TopKeeps d soc
top_keeps-is d true h = is_system-is d h
top_keeps-is d false h = is_alone-is d h

-- ---- the whole

-- A description that passes the test keeps what descriptions keep.
pub keeps_description-is : (d : Description) → keeps_description d ≡ true → KeepsDescription d
unfolding keeps_description
keeps_description-is d h =
    let p = and_parts _ _ h in
    let circuit = and_parts _ _ p.0 in
    let q = and_parts _ _ p.1 in
    let declared = and_parts _ _ q.0 in
    let others = and_parts _ _ declared.1 in
    let r = and_parts _ _ q.1 in
    let stmts = and_parts _ _ r.0 in
    let lines = and_parts _ _ stmts.0 in
    let places = and_parts _ _ stmts.1 in
    let last = and_parts _ _ r.1 in
    let wishes = and_parts _ _ last.0 in
    record {
      design = is_kept-is d.design circuit.0;
      no_fetch = each_of (λ (x : Expr). is_fetch x ≡ false) (λ (x : Expr). not (is_fetch x)) d.design.exprs (λ x e. not-true (is_fetch x) e) circuit.1;
      modules = modules_keep-is d declared.0;
      constants = each_of IsConstant is_constant d.constants is_constant-is others.0;
      fsms = fsms_keep-is d others.1;
      lines = each_of (λ (s : Stmt). 1 ≤ line_of s) (λ (s : Stmt). nat_le 1 (line_of s)) d.design.stmts (λ s e. leb-true 1 (line_of s) e) lines.0;
      fsm_lines = each_of (λ (s : FsmStmt). 1 ≤ fsm_line s) (λ (s : FsmStmt). nat_le 1 (fsm_line s)) d.fsm_stmts (λ s e. leb-true 1 (fsm_line s) e) lines.1;
      undriven = λ x s e f. is_left-is (is_reserved d s x) (is_driven d x) (all_at-is (is_left d) d.design.signals places.0 x s e) f;
      apart = places.1;
      banks = empty-is d.wishes.banks wishes.0;
      managers = empty-is d.wishes.managers wishes.1;
      top = top_keeps-is d d.soc last.1;
    }
