-- One list of statements for each signal.
use Rattle.std.specs.Prelude.{◌≡◌, ℕ, true, List, [], Option, None, ◌<◌, length, map, slice_index_or, IsTrue}
use Rattle.lx_circuit.specs.Statements.{Block}
use Rattle.lx_fhdl.specs.Below.{StmtId, all_stmts_below}
use Rattle.lx_fhdl.specs.Designs.{block, made_of, stmts_of}
use Rattle.lx_fhdl.specs.Lowered.{are_for}
use Rattle.lx_fhdl.specs.declared.design.Design.{Design}
use Rattle.lx_fhdl.specs.declared.design.Signal.{Signal}
use Rattle.lx_fhdl.specs.declared.design.SyncPart.{SyncPart}
use Rattle.lx_lowering.specs.Constants.{block_reads_none}
use Rattle.lx_lowering.specs.Lowering.{lists_from}
use Rattle.lx_lowering.specs.Split.{split_block}
use Rattle.lx_lower.specs.Fixed.{chosen, chosen_lines, folded_in}
use Rattle.lx_plain.specs.Lines.{Assigned, folded_lines, lines}
use Rattle.lx_lower.specs.declared.fold.Folded.{Folded}
use Rattle.lx_plain.specs.Owned.{ids_of}
use Rattle.lx_plain.specs.Plain.{Grows}
use Rattle.lx_flat.specs.Puts.{flat_of}
use Rattle.lx_plain.specs.declared.owned.Own.{Own}

-- statements of a design
abbrev pub AreThere : Design → List StmtId → Type 0
AreThere d ids = IsTrue (all_stmts_below (length d.stmts) ids)

abbrev pub list_at : List (List StmtId) → ℕ → List StmtId
list_at lists k = slice_index_or lists k []

-- for each of n signals its statements
pub record AreBySignal (n : ℕ) (os : List Own) (lists : List (List StmtId)) : Type 0 where
  pub long : length lists ≡ n
  pub each : (x : ℕ) → x < n → list_at lists x ≡ ids_of x os

-- the draft grows by a list for each of the first n signals: with these blocks, each for its signal alone, and these lines
pub record ListsPut (old new : Design) (n : ℕ) (lists : List (List StmtId)) (f : ℕ → Block) (ls : ℕ → List Assigned) : Type 0 where
  pub grows : Grows old new
  pub long : length lists ≡ n
  pub there : (k : ℕ) → k < n → AreThere new (list_at lists k)
  pub blocks : (k : ℕ) → k < n → block new (list_at lists k) ≡ f k
  pub alone : (k : ℕ) → k < n → are_for k (block new (list_at lists k)) ≡ true
  pub lines : (k : ℕ) → k < n → lines new k (list_at lists k) ≡ ls k

-- by a list for the signal x
pub record OnePut (old new : Design) (x : ℕ) (list : List StmtId) (b : Block) (ls : List Assigned) : Type 0 where
  pub grows : Grows old new
  pub there : AreThere new list
  pub alone : are_for x (block new list) ≡ true
  pub block : block new list ≡ b
  pub lines : lines new x list ≡ ls

-- lists of statements, each for its own signal alone
pub record AreForSignals (d : Design) (lists : List (List StmtId)) : Type 0 where
  pub long : length lists ≡ length d.signals
  pub there : (k : ℕ) → k < length d.signals → AreThere d (list_at lists k)
  pub alone : (k : ℕ) → k < length d.signals → are_for k (block d (list_at lists k)) ≡ true

-- statements for the signal x, which is there
pub record IsFor (d : Design) (x : ℕ) (ids : List StmtId) : Type 0 where
  pub signal : x < length d.signals
  pub there : AreThere d ids
  pub alone : are_for x (block d ids) ≡ true

-- the draft grows by statements with this block, and with these lines for each signal
pub record ListPut (old new : Design) (list : List StmtId) (b : Block) (ls : ℕ → List Assigned) : Type 0 where
  pub grows : Grows old new
  pub there : AreThere new list
  pub block : block new list ≡ b
  pub lines : (x : ℕ) → x < length new.signals → lines new x list ≡ ls x

-- ---- all signals

-- the blocks of all signals, one after the other
abbrev pub all_lists : List Signal → (ℕ → Block) → Block
all_lists ss f = lists_from f 0 (map made_of ss)

-- the folded blocks of these lists
abbrev pub folded_lists : Design → List (List StmtId) → ℕ → Block
folded_lists d lists k = folded_in d k (block d (list_at lists k))

abbrev pub fold_at : List (Option Folded) → ℕ → Option Folded
fold_at folds k = slice_index_or folds k None

-- the lines of lists, or of the constants in their places
abbrev pub fold_lines : Design → List (List StmtId) → List (Option Folded) → ℕ → List Assigned
fold_lines d lists folds k = chosen_lines (fold_at folds k) (lines d k (list_at lists k))

-- what the first n lists give their signals where they are folded, which are those that read nothing
pub record AreFolds (d : Design) (lists : List (List StmtId)) (n : ℕ) (folds : List (Option Folded)) : Type 0 where
  pub long : length folds ≡ n
  pub each : (k : ℕ) → k < n → chosen d k (fold_at folds k) (block d (list_at lists k)) ≡ folded_lists d lists k
  pub lines : (k : ℕ) → k < n → fold_lines d lists folds k ≡ folded_lines (block_reads_none (block d (list_at lists k))) (lines d k (list_at lists k))

-- ---- a design's statements

abbrev pub split_of : Design → List StmtId → ℕ → Block
split_of d ids x = split_block x (flat_of d ids)

-- by signals
abbrev pub lists_of : Design → List StmtId → Block
lists_of d ids = all_lists d.signals (split_of d ids)

abbrev pub folded_of : Design → List StmtId → Block
folded_of d ids = all_lists d.signals (λ x. folded_in d x (split_of d ids x))

-- the lines for the signal x, where its statements are folded if they read nothing
abbrev pub folded_lines_of : Design → List StmtId → ℕ → List Assigned
folded_lines_of d ids x = folded_lines (block_reads_none (split_of d ids x)) (lines d x ids)

abbrev pub part_at : List SyncPart → ℕ → SyncPart
part_at parts k = slice_index_or parts k (record { domain = 0; stmts = [] })

-- one part for each of the first n domains, with these blocks and lines
pub record AreParts (x : Design) (n : ℕ) (parts : List SyncPart) (g : ℕ → Block) (ls : ℕ → ℕ → List Assigned) : Type 0 where
  pub long : length parts ≡ n
  pub domain : (k : ℕ) → k < n → (part_at parts k).domain ≡ k
  pub there : (k : ℕ) → k < n → AreThere x (part_at parts k).stmts
  pub blocks : (k : ℕ) → k < n → block x (part_at parts k).stmts ≡ g k
  pub lines : (k s : ℕ) → k < n → s < length x.signals → lines x s (part_at parts k).stmts ≡ ls k s

-- the statements of domain number k, by signals
abbrev pub sync_lists : Design → ℕ → Block
sync_lists d k = lists_of d (stmts_of k d.sync)

-- their lines for the signal x
abbrev pub sync_lines : Design → ℕ → ℕ → List Assigned
sync_lines d k x = lines d x (stmts_of k d.sync)

-- the draft grows by the parts of the first n domains
pub record PartsPut (d old new : Design) (n : ℕ) (parts : List SyncPart) : Type 0 where
  pub grows : Grows old new
  pub are : AreParts new n parts (sync_lists d) (sync_lines d)
