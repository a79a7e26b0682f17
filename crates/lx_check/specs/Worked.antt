-- Drivers, cycles and their faults, worked by hand.
use Rattle.std.specs.Prelude.{◌≡◌, ℕ, Bool, pos, true, false, List, [], ◌∷◌, Option, Some, None, codes}
use Rattle.lx_num.specs.Ints.{unsigned}
use Rattle.lx_circuit.specs.Places.{At}
use Rattle.lx_circuit.specs.Reads.{reads_in}
use Rattle.lx_fhdl.specs.Below.{StmtId}
use Rattle.lx_fhdl.specs.Designs.{circuit_of}
use Rattle.lx_fhdl.specs.Instance.{the_expr, the_signal, the_stmt, the_target}
use Rattle.lx_fhdl.specs.declared.design.Design.{Design}
use Rattle.lx_fhdl.specs.declared.design.Domain.{Domain}
use Rattle.lx_fhdl.specs.declared.design.Memory.{Memory}
use Rattle.lx_fhdl.specs.declared.design.Port.{Port}
use Rattle.lx_fhdl.specs.declared.design.PortMode.TheVariants as mode
use Rattle.lx_fhdl.specs.declared.design.Signal.{Signal}
use Rattle.lx_fhdl.specs.declared.design.SyncPart.{SyncPart}
use Rattle.lx_fhdl.specs.declared.exprs.Expr.TheVariants as expr
use Rattle.lx_fhdl.specs.declared.stmts.Stmt.{Stmt}
use Rattle.lx_fhdl.specs.declared.stmts.Stmt.TheVariants as stmt
use Rattle.lx_fhdl.specs.declared.stmts.Target.TheVariants as target
use Rattle.lx_text.specs.declared.faults.Kind.TheVariants.{CombLoop, MemoryClocks, StorageDriven, TwoDrivers}
use Rattle.lx_check.specs.Faults.{fault, first_fault}
use Rattle.lx_check.specs.Loops.{loop_fault}

abbrev pub made : List ℕ → Bool → Signal
made name by_bus = record { path = name ∷ []; shape = unsigned 1; reset = pos 0; reset_less = false; by_bus = by_bus; line = 1 }

abbrev pub part : ℕ → List StmtId → SyncPart
part k stmts = record { domain = k; stmts = stmts }

abbrev pub domain : List ℕ → Domain
domain name = record { name = name; reset = None }

-- the word reg is one of Verilog's
abbrev pub memory : Memory
memory = record { path = codes "reg" ∷ []; width = 1; depth = 2; init = []; line = 6 }

-- a port of the memory at address a, which is read as that signal
abbrev pub reading : ℕ → Port
reading x = record { memory = 0; domain = None; adr = the_signal 0; dat_r = Some (the_signal x); dat_w = None; we = None; part = 1; mode = mode.Async }

-- a port of the memory that writes b, where c, in that domain
abbrev pub writing : ℕ → Port
writing k = record { memory = 0; domain = Some k; adr = the_signal 0; dat_r = None; dat_w = Some (the_signal 1); we = Some (the_signal 2); part = 1; mode = mode.WriteFirst }

-- signals a, b and c, of which a may be given, with these statements and ports
abbrev pub design : Bool → List Stmt → List StmtId → List SyncPart → List Port → Design
design given stmts comb sync ports = record {
  exprs = expr.Sig (the_signal 0) ∷ expr.Sig (the_signal 1) ∷ expr.Sig (the_signal 2) ∷ [];
  targets =
      target.Whole (the_signal 0) ∷
      target.Whole (the_signal 1) ∷
      target.Whole (the_signal 2) ∷
      target.Pick (the_target 1 ∷ the_target 2 ∷ []) (the_expr 0) ∷
      target.Cat (the_target 0 ∷ the_target 3 ∷ []) ∷
      [];
  stmts = stmts;
  signals = made (codes "a") given ∷ made (codes "b") false ∷ made (codes "c") false ∷ [];
  memories = memory ∷ [];
  ports = ports;
  comb = comb;
  sync = sync;
  domains = domain (codes "sys") ∷ domain (codes "pix") ∷ [];
  ios = [];
}

-- an assignment to a target
abbrev pub set : ℕ → ℕ → ℕ → Stmt
set t value line = stmt.Assign (the_target t) (the_expr value) line

-- a.eq(a)
abbrev pub of_itself : Design
of_itself = design false (set 0 0 3 ∷ []) (the_stmt 0 ∷ []) [] []

-- a.eq(b), b.eq(a)
abbrev pub of_each_other : Design
of_each_other = design false (set 1 0 5 ∷ set 0 1 4 ∷ []) (the_stmt 0 ∷ the_stmt 1 ∷ []) [] []

-- Cat(a, Array([b, c])[a]).eq(b)
abbrev pub by_an_index : Design
by_an_index = design false (set 4 1 3 ∷ []) (the_stmt 0 ∷ []) [] []

-- If(b, a.eq(c)).Elif(a, b.eq(c))
abbrev pub later_condition : Design
later_condition =
    design false
    (set 0 2 3 ∷ set 1 2 4 ∷ stmt.If (record { cond = the_expr 1; body = the_stmt 0 ∷ [] } ∷ record { cond = the_expr 0; body = the_stmt 1 ∷ [] } ∷ []) [] 3 ∷ []) (the_stmt 2 ∷ []) [] []

-- b is dat_r of a port whose address is a
abbrev pub of_a_port : Design
of_a_port = design false [] [] [] (reading 1 ∷ [])

-- a.eq(b) in comb and in a domain
abbrev pub comb_and_sync : Design
comb_and_sync = design false (set 0 1 8 ∷ set 0 2 9 ∷ []) (the_stmt 0 ∷ []) (part 0 (the_stmt 1 ∷ []) ∷ []) []

-- in two domains, the later one first in the text
abbrev pub two_domains : Design
two_domains = design false (set 0 1 8 ∷ set 0 2 9 ∷ []) [] (part 1 (the_stmt 0 ∷ []) ∷ part 0 (the_stmt 1 ∷ []) ∷ []) []

-- twice in one domain
abbrev pub one_domain : Design
one_domain = design false (set 0 1 8 ∷ set 0 2 9 ∷ []) [] (part 1 (the_stmt 0 ∷ []) ∷ part 1 (the_stmt 1 ∷ []) ∷ []) []

-- an output is assigned by generated hardware, and then by the description
abbrev pub given_driven : Design
given_driven = design true (set 0 1 0 ∷ set 0 2 9 ∷ []) (the_stmt 0 ∷ the_stmt 1 ∷ []) [] []

-- by generated hardware alone
abbrev pub given_made : Design
given_made = design true (set 0 1 0 ∷ []) (the_stmt 0 ∷ []) [] []

-- dat_r of a port is assigned, and so is an earlier signal twice
abbrev pub read_driven : Design
read_driven = design false (set 0 1 8 ∷ set 0 2 9 ∷ set 1 2 7 ∷ []) (the_stmt 0 ∷ []) (part 0 (the_stmt 1 ∷ the_stmt 2 ∷ []) ∷ []) (reading 1 ∷ [])

abbrev pub two_writers : Design
two_writers = design false [] [] [] (writing 0 ∷ writing 1 ∷ [])

abbrev pub one_clock : Design
one_clock = design false [] [] [] (writing 1 ∷ reading 2 ∷ writing 1 ∷ [])

abbrev pub reads : Design → ℕ → ℕ → Bool
reads d x y = reads_in (circuit_of d) x (At y)

-- What signals read, and the lines of cycles.
pub record ReadsAreWorked : Type 0 where
  pub itself : reads of_itself 0 0 ≡ true
  pub itself_told : loop_fault of_itself (0 ∷ []) ≡ fault 3 (CombLoop (codes "a" ∷ []))
  pub there : reads of_each_other 0 1 ≡ true
  pub back : reads of_each_other 1 0 ≡ true
  -- at the line of the first signal, though it stands later
  pub each_other_told : loop_fault of_each_other (0 ∷ 1 ∷ []) ≡ fault 4 (CombLoop (codes "a" ∷ codes "b" ∷ []))
  pub index : reads by_an_index 0 0 ≡ true
  pub index_of_item : reads by_an_index 2 0 ≡ true
  pub condition : reads later_condition 0 1 ≡ true
  pub later : reads later_condition 0 0 ≡ false
  pub own : reads later_condition 1 0 ≡ true
  pub address : reads of_a_port 1 0 ≡ true
  -- no statement drives it
  pub port_told : loop_fault of_a_port (1 ∷ []) ≡ fault 0 (CombLoop (codes "b" ∷ []))

-- The first faults.
pub record FaultsAreWorked : Type 0 where
  pub two : first_fault comb_and_sync ≡ Some (fault 9 (TwoDrivers (codes "a") 8))
  pub in_order_of_domains : first_fault two_domains ≡ Some (fault 8 (TwoDrivers (codes "a") 9))
  pub one : first_fault one_domain ≡ None
  pub storage : first_fault given_driven ≡ Some (fault 9 (StorageDriven (codes "a")))
  pub generated : first_fault given_made ≡ None
  pub port : first_fault read_driven ≡ Some (fault 7 (StorageDriven (codes "b")))
  pub clocks : first_fault two_writers ≡ Some (fault 6 (MemoryClocks (codes "reg_")))
  pub clock : first_fault one_clock ≡ None
