-- What is known of a design before it is tested.
use Rattle.std.specs.Prelude.{ℕ, Bool, List, ◌<◌, ◌%◌, ◌&&◌, nat_lt, nat_le, nat_eq, map, length, IsTrue}
use Rattle.std.specs.List.{list_all}
use Rattle.lx_fhdl.specs.Below.{all_stmts_below}
use Rattle.lx_fhdl.specs.Designs.{shapes}
use Rattle.lx_fhdl.specs.Keeping.{ArenasKeep, EachOf}
use Rattle.lx_fhdl.specs.Kept.{is_address, is_memory, is_port, is_signal, is_some_unsigned, is_there, list_stands, part_stands, writer_stands}
use Rattle.lx_fhdl.specs.declared.design.Design.{Design}
use Rattle.lx_fhdl.specs.declared.design.Domain.{Domain}
use Rattle.lx_fhdl.specs.declared.design.Port.{Port}
use Rattle.lx_fhdl.specs.declared.design.SyncPart.{SyncPart}
use Rattle.lx_fhdl.specs.declared.stmts.Stmt.{Stmt}
use Rattle.lx_fhdl.specs.declared.stmts.Stmt.TheVariants as stmt

-- its arenas keep what a design's arenas keep
abbrev pub HasArenas : Design → Type 0
HasArenas d = ArenasKeep (shapes d) (length d.signals) d.memories d.exprs d.targets d.stmts

-- a part of a domain that is there, of statements that are there
pub record PartIsThere (d : Design) (p : SyncPart) : Type 0 where
  pub domain : IsTrue (nat_lt p.domain (length d.domains))
  pub stmts : IsTrue (all_stmts_below (length d.stmts) p.stmts)

-- so are all its lists of statements
pub record ListsAreThere (d : Design) : Type 0 where
  pub comb : IsTrue (all_stmts_below (length d.stmts) d.comb)
  pub sync : EachOf (PartIsThere d) d.sync

-- the target of an assignment is one of the first n
abbrev pub TargetIsThere : ℕ → Stmt → Type 0
TargetIsThere n (stmt.Assign target value line) = target.place < n
TargetIsThere n _ = Unit {0}

-- the statements of all these parts are among the first n
abbrev pub AllPartsBelow : ℕ → List SyncPart → Type 0
AllPartsBelow n ps = EachOf (λ (p : SyncPart). IsTrue (all_stmts_below n p.stmts)) ps

-- ---- parts of the test

abbrev pub names : List Domain → List (List ℕ)
names ds = map (λ (x : Domain). x.name) ds

-- a port has the signals that a memory of this width and depth asks for, and parts that divide its word
abbrev pub has_signals : Design → (width depth : ℕ) → Port → Bool
has_signals d width depth q =
    is_address d depth q.adr
    && (is_some_unsigned d width q.dat_r
    && (writer_stands d width q.part q.dat_w q.we && (nat_le 1 q.part && nat_eq (width % q.part) 0)))

-- signals, memories and all ports
abbrev pub kept_parts : Design → Bool
kept_parts d = list_all is_signal d.signals && (list_all is_memory d.memories && (list_all (is_port d) d.ports && list_all (is_there d) d.ios))

abbrev pub lists_stand : Design → Bool
lists_stand d = list_stands d d.comb && list_all (part_stands d) d.sync
