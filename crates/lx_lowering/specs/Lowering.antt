-- Lowering keeps every run.
use Rattle.std.specs.Prelude.{◌≡◌, ◌⊎◌, ℕ, ℤ, Bool, true, false, ◌&&◌, List, [], ◌∷◌, ◌+◌, ◌<◌, ◌≤◌, None, nat_lt, map, length}
use Rattle.lx_circuit.specs.Terms.{Term, Terms, Constant, Signal, Unary, Binary, Mux, Cat, Replicate, Slice, Pick, Fetch, NoTerm, MoreTerms}
use Rattle.lx_circuit.specs.Shapes.{Shapes, shape_of, fault_of}
use Rattle.lx_circuit.specs.Statements.{Target, Targets, Whole, Part, CatTarget, PickTarget, NoTarget, MoreTargets, Stmt, Assign, If, Case, Branches, NoBranch, Branch, Arms, NoArm, Arm, Block, Done, Then, target_bits, drives_block}
use Rattle.lx_circuit.specs.Circuit.{Circuit, Made, Domain, shapes, made, domain_at, role}
use Rattle.lx_circuit.specs.Fitting.{KeepsShapes}
use Rattle.lx_circuit.specs.Runs.{HaveSameRuns, Extends}
use Rattle.lx_circuit.specs.Reads.{HasOrder}
use Rattle.lx_fhdl.specs.Nodes.{IsSmall}
use Rattle.lx_fhdl.specs.Keeping.{EachOf}
use Rattle.lx_fhdl.specs.Lowered.{ArePlain}
use Rattle.lx_lowering.specs.Flat.{append, one, flat_block}
use Rattle.lx_lowering.specs.Split.{split_block}
use Rattle.lx_lowering.specs.Constants.{block_reads_none, folded}

-- ---- what statements keep, over n signals

-- signals are there, and lists of parts and items aren't empty
abbrev mutual
  pub is_sound : ℕ → Term → Bool
  is_sound n (Constant value a) = true
  is_sound n (Signal x) = nat_lt x n
  is_sound n (Unary o a) = is_sound n a
  is_sound n (Binary o a b) = is_sound n a && is_sound n b
  is_sound n (Mux c a b) = is_sound n c && (is_sound n a && is_sound n b)
  is_sound n (Cat parts) = has_some parts && are_sound n parts
  is_sound n (Replicate a count) = is_sound n a
  is_sound n (Slice a low high) = is_sound n a
  is_sound n (Pick items index) = has_some items && (are_sound n items && is_sound n index)
  is_sound n (Fetch m width at) = is_sound n at

  pub are_sound : ℕ → Terms → Bool
  are_sound n NoTerm = true
  are_sound n (MoreTerms t ts) = is_sound n t && are_sound n ts

  pub has_some : Terms → Bool
  has_some NoTerm = false
  has_some (MoreTerms t ts) = true

pub record TermKeeps (s : Shapes) (n : ℕ) (t : Term) : Type 0 where
  pub sound : is_sound n t ≡ true
  pub fault : fault_of s t ≡ None

abbrev pub some_targets : Targets → Bool
some_targets NoTarget = false
some_targets (MoreTargets t ts) = true

abbrev mutual
  pub TargetKeeps : Shapes → ℕ → Target → Type 0
  TargetKeeps s n (Whole x) = x < n
  TargetKeeps s n (Part x low len) = (x < n) × (1 ≤ len) × (low + len ≤ (s x).bits)
  TargetKeeps s n (CatTarget parts) = (some_targets parts ≡ true) × TargetsKeep s n parts
  TargetKeeps s n (PickTarget items index) = (some_targets items ≡ true) × TargetsKeep s n items × TermKeeps s n index × ((shape_of s index).signed ≡ false)

  pub TargetsKeep : Shapes → ℕ → Targets → Type 0
  TargetsKeep s n NoTarget = Unit {0}
  TargetsKeep s n (MoreTargets t ts) = TargetKeeps s n t × TargetsKeep s n ts

abbrev mutual
  pub StmtKeeps : Shapes → ℕ → Stmt → Type 0
  StmtKeeps s n (Assign t e) = TargetKeeps s n t × (target_bits s t ≤ 127) × TermKeeps s n e
  StmtKeeps s n (If bs rest) = BranchesKeep s n bs × BlockKeeps s n rest
  StmtKeeps s n (Case on arms rest) = TermKeeps s n on × ArmsKeep s n arms × BlockKeeps s n rest

  pub BranchesKeep : Shapes → ℕ → Branches → Type 0
  BranchesKeep s n NoBranch = Unit {0}
  BranchesKeep s n (Branch c b more) = TermKeeps s n c × BlockKeeps s n b × BranchesKeep s n more

  pub ArmsKeep : Shapes → ℕ → Arms → Type 0
  ArmsKeep s n NoArm = Unit {0}
  ArmsKeep s n (Arm key b more) = BlockKeeps s n b × ArmsKeep s n more

  pub BlockKeeps : Shapes → ℕ → Block → Type 0
  BlockKeeps s n Done = Unit {0}
  BlockKeeps s n (Then x xs) = StmtKeeps s n x × BlockKeeps s n xs

-- signals of 1 to 127 bits, and statements that keep to them
pub record CanBeLowered (c : Circuit) : Type 0 where
  pub signals : KeepsShapes c
  pub small : (x : ℕ) → x < length c.signals → IsSmall (shapes c x)
  pub comb : BlockKeeps (shapes c) (length c.signals) c.comb
  pub domains : EachOf (λ (d : Domain). BlockKeeps (shapes c) (length c.signals) d.stmts) c.domains

-- ---- the lowered circuit

-- the lists of all signals from number x on
abbrev pub lists_from : (ℕ → Block) → ℕ → List Made → Block
lists_from f x [] = Done
lists_from f x (m ∷ ms) = append (f x) (lists_from f (x + 1) ms)

abbrev pub lowered_comb : Circuit → Block
lowered_comb c = lists_from (λ x. folded (shapes c) x (made c x).reset (split_block x (flat_block (shapes c) c.comb))) 0 c.signals

abbrev pub lowered_sync : Circuit → Block → Block
lowered_sync c b = lists_from (λ x. split_block x (flat_block (shapes c) b)) 0 c.signals

abbrev pub lowered_domain : Circuit → Domain → Domain
lowered_domain c d = record { name = d.name; reset = d.reset; stmts = lowered_sync c d.stmts }

-- One list of flat statements for each signal; a combinatorial one that reads no signal is one assignment.
unfoldable pub lowered : Circuit → Circuit
lowered c = record {
  signals = c.signals;
  comb = lowered_comb c;
  domains = map (lowered_domain c) c.domains;
  memories = c.memories;
  ports = c.ports;
  ios = c.ios;
}

-- ---- what lowering keeps

-- one assignment of a constant to the whole signal, under no condition
pub record IsOneConstant (s : Shapes) (x : ℕ) (b : Block) : Type 0 where
  pub value : ℤ
  pub alone : b ≡ one (Assign (Whole x) (Constant value (s x)))

-- Where the combinatorial statements of a signal read no signal, there are none or the assignment of a constant.
pub record IsFolded (c : Circuit) : Type 0 where
  pub each : (x : ℕ) → block_reads_none (split_block x c.comb) ≡ true → (split_block x c.comb ≡ Done) ⊎ IsOneConstant (shapes c) x (split_block x c.comb)

-- the signals, memories, ports and ios of two circuits are the same, and so are the names and the resets of their domains
pub record SameParts (c e : Circuit) : Type 0 where
  pub signals : e.signals ≡ c.signals
  pub memories : e.memories ≡ c.memories
  pub ports : e.ports ≡ c.ports
  pub ios : e.ios ≡ c.ios
  pub names : map (λ (d : Domain). d.name) e.domains ≡ map (λ (d : Domain). d.name) c.domains
  pub resets : map (λ (d : Domain). d.reset) e.domains ≡ map (λ (d : Domain). d.reset) c.domains

-- a signal is assigned in the same of two circuits' lists: the combinatorial one, and that of each domain
pub record DrivenAlike (c e : Circuit) : Type 0 where
  pub comb : (x : ℕ) → drives_block x e.comb ≡ drives_block x c.comb
  pub sync : (x d : ℕ) → drives_block x (domain_at e d).stmts ≡ drives_block x (domain_at c d).stmts

-- The lowered circuit has the same runs and differs in statements alone; its signals have the same roles and the same
-- drivers, its statements are plain, those that read nothing are constants, and its reads have an order too.
pub record Lowers (c e : Circuit) : Type 0 where
  pub runs : HaveSameRuns c e
  pub parts : SameParts c e
  pub roles : (x : ℕ) → role c x ≡ role e x
  pub drivers : DrivenAlike c e
  pub comb : ArePlain e.comb
  pub sync : EachOf (λ (d : Domain). ArePlain d.stmts) e.domains
  pub folded : IsFolded e
  pub order : HasOrder c → HasOrder e

abbrev pub IsLoweringLaw : Type 0
IsLoweringLaw = (c : Circuit) → CanBeLowered c → Lowers c (lowered c)

-- So lowering can stand before and behind passes that add signals.
abbrev pub IsExtendingLaw : Type 0
IsExtendingLaw = (n : ℕ) (c : Circuit) → CanBeLowered c → Extends n c (lowered c)
