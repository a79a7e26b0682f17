-- Which descriptions keep what descriptions keep.
use Rattle.std.specs.Prelude.{◌≡◌, ℕ, true, false, List, [], ◌∷◌, ◌++◌, ◌<◌, ◌≤◌, flat_map, length, IsTrue}
use Rattle.lx_fhdl.specs.Keeping.{EachOf, Keeps, is_identifier}
use Rattle.lx_fhdl.specs.Nodes.{is_fetch}
use Rattle.lx_fhdl.specs.declared.exprs.Expr.{Expr}
use Rattle.lx_fhdl.specs.declared.stmts.Stmt.{Stmt}
use Rattle.lx_fhdl.specs.declared.design.Signal.{Signal}
use Rattle.lx_fhdl.specs.declared.design.Design.{Design}
use Rattle.lx_fhdl.specs.declared.places.Wishes.{Wishes}
use Rattle.lx_description.specs.Wires.{port_signals, resets}
use Rattle.lx_description.specs.Keeping.{KeepsDescription, are_apart, line_of}
use Rattle.lx_description.specs.Kept.{keeps_description}
use Rattle.lx_description.specs.declared.description.Description.{Description}

-- The test is never true of another description.
abbrev pub TestHolds : Type 0
TestHolds = (d : Description) → keeps_description d ≡ true → KeepsDescription d

abbrev pub no_wishes : Wishes
no_wishes = record { regions = []; banks = []; fixes = []; managers = []; irqs = [] }

-- a top of this name that is no system, and a design with nothing declared beside
abbrev pub plain : List ℕ → Design → Description
plain name d = record {
  top = name;
  soc = false;
  design = d;
  modules = record { name = name; named = true; parts = [] } ∷ [];
  slaves = [];
  wishes = no_wishes;
  constants = [];
  fsm_stmts = [];
  fsms = [];
}

-- what a text can make of a design: no Fetch, lines of statements, names of signals, and one place of each signal among
-- the ports of memories and the resets
pub record IsWritten (d : Design) : Type 0 where
  pub no_fetch : EachOf (λ (x : Expr). is_fetch x ≡ false) d.exprs
  pub lines : EachOf (λ (s : Stmt). 1 ≤ line_of s) d.stmts
  pub names : EachOf (λ (s : Signal). 0 < length s.path) d.signals
  pub apart : IsTrue (are_apart (flat_map port_signals d.ports ++ resets d.domains))

-- A plain module keeps what its design keeps.
abbrev pub PlainKeeps : Type 0
PlainKeeps = (name : List ℕ) (d : Design) → IsTrue (is_identifier name) → Keeps d → IsWritten d → KeepsDescription (plain name d)
