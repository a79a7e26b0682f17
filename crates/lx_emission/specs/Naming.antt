-- The names of nets and memories: a signal's and a memory's are handed in, a node's is `n$<k>`, a clock's is `<domain>_clk`.
use Rattle.std.specs.Prelude.{◌≡◌, ℕ, Bool, true, false, List, [], ◌∷◌, ◌++◌, ◌+◌, ◌<◌, codes, length, Option, Some, None, slice_get, slice_index_or, if◌then◌else◌, IsTrue}
use Rattle.std.proofs.Common.{zero, suc}
use Rattle.std.specs.List.{list_all, list_any}
use Rattle.std.specs.Str.{bytes_eq}
use Rattle.lx_vtext.specs.Tree.{Name}
use Rattle.lx_vtext.specs.Names.{is_name}
use Rattle.lx_vtext.specs.Printed.{number_text}
use Rattle.lx_agree.specs.Agreement.{Naming}
use Rattle.lx_fhdl.specs.Keeping.{is_distinct}
use Rattle.lx_fhdl.specs.declared.exprs.Expr.{Expr}
use Rattle.lx_fhdl.specs.declared.exprs.Expr.TheVariants.{Const, Sig}
use Rattle.lx_fhdl.specs.declared.design.Domain.{Domain}
use Rattle.lx_fhdl.specs.declared.design.Design.{Design}

-- the net of a signal
abbrev pub net : List Name → ℕ → Name
net names x = slice_index_or names x []

-- the name of a memory: those of memories stand behind those of signals
abbrev pub memory_name : Design → List Name → ℕ → Name
memory_name d names k = net names (length d.signals + k)

-- every operator, slice and read of a memory has a net of its own
abbrev pub has_net : Expr → Bool
has_net (Const value bits signed) = false
has_net (Sig x) = false
has_net _ = true

-- how many of the first k nodes have nets
unfoldable pub nets_before : List Expr → ℕ → ℕ
nets_before [] k = 0
nets_before (x ∷ xs) zero = 0
nets_before (x ∷ xs) (suc k) = if has_net x then suc (nets_before xs k) else nets_before xs k

unfoldable pub node_name : ℕ → Name
node_name n = codes "n$" ++ number_text n

-- the net of the node at a place
abbrev pub node_net : List Expr → ℕ → Name
node_net xs k = node_name (nets_before xs k)

unfoldable pub clock_name : List ℕ → Name
clock_name name = name ++ codes "_clk"

abbrev pub clock_of : Option Domain → Name
clock_of None = []
clock_of (Some x) = clock_name x.name

-- the clock of a domain
abbrev pub clock : Design → ℕ → Name
clock d k = clock_of (slice_get d.domains k)

abbrev pub naming : Design → List Name → Naming
naming d names = record { net = λ x. net names x; clock = λ k. clock d k; memory = λ k. memory_name d names k }

abbrev pub is_among : Name → List Name → Bool
is_among n names = list_any (bytes_eq n) names

-- One name for each signal, then one for each memory: distinct names of Verilog, none of them a domain's clock or of the form `n$<k>`.
pub record NamesFit (d : Design) (names : List Name) : Type 0 where
  pub long : length names ≡ length d.signals + length d.memories
  pub lawful : IsTrue (list_all is_name names)
  pub distinct : IsTrue (is_distinct names)
  pub clocks : (k : ℕ) → k < length d.domains → is_among (clock d k) names ≡ false
  pub nodes : (n : ℕ) → is_among (node_name n) names ≡ false
