-- Statements that are each for one signal, and how a draft grows by them.
use Rattle.std.specs.Prelude.{◌≡◌, ℕ, Bool, true, false, not, List, [], ◌∷◌, ◌++◌, ◌<◌, ◌&&◌, length, nat_eq, nat_lt, slice_index_or, if◌then◌else◌, IsTrue}
use Rattle.lx_circuit.specs.Statements as tree
use Rattle.lx_circuit.specs.Statements.{Block}
use Rattle.lx_circuit.specs.Terms.{Term}
use Rattle.lx_fhdl.specs.Below.{StmtId, all_stmts_below}
use Rattle.lx_fhdl.specs.Designs as design
use Rattle.lx_fhdl.specs.Designs.{block, term}
use Rattle.lx_fhdl.specs.Drafts.{CanAddTarget}
use Rattle.lx_fhdl.specs.Lowered.{is_plain_target}
use Rattle.lx_fhdl.specs.Stmts.{node_stmt, node_target}
use Rattle.lx_fhdl.specs.declared.design.Design.{Design}
use Rattle.lx_fhdl.specs.declared.stmts.Stmt.{Stmt}
use Rattle.lx_fhdl.specs.declared.stmts.Target.{Target}
use Rattle.lx_lowering.specs.Flat.{append, one}
use Rattle.lx_lowering.specs.Split.{lone_if, split_block}
use Rattle.lx_plain.specs.Lines.{Assigned, assigned_by, expr_shape, lines, lines_at, node_lines, under}
use Rattle.lx_plain.specs.Plain.{Grows}
use Rattle.lx_plain.specs.declared.owned.Own.{Own}
use Rattle.lx_plain.specs.declared.groups.Group.{Group}

-- the statements for the signal x
abbrev pub ids_of : ℕ → List Own → List StmtId
ids_of x [] = []
ids_of x (o ∷ os) = if nat_eq o.signal.0 x then o.stmt ∷ ids_of x os else ids_of x os

-- signals and statements of so many
abbrev pub all_owned : ℕ → ℕ → List Own → Bool
all_owned n m [] = true
all_owned n m (o ∷ os) = (nat_lt o.signal.0 n && nat_lt o.stmt.place m) && all_owned n m os

abbrev pub AreOwned : Design → List Own → Type 0
AreOwned d os = IsTrue (all_owned (length d.signals) (length d.stmts) os)

-- the trees of those for the signal x
abbrev pub own : Design → List Own → ℕ → Block
own d os x = block d (ids_of x os)

-- the lines of their assignments to it
abbrev pub own_lines : Design → List Own → ℕ → List Assigned
own_lines d os x = lines d x (ids_of x os)

-- the list grows by what a block of flat statements assigns to each signal, from these lines
pub record Put (old new : Design) (before after : List Own) (b : Block) (ls : ℕ → List Assigned) : Type 0 where
  pub grows : Grows old new
  pub owned : AreOwned new after
  pub own : (x : ℕ) → x < length new.signals → own new after x ≡ append (own old before x) (split_block x b)
  pub lines : (x : ℕ) → x < length new.signals → own_lines new after x ≡ own_lines old before x ++ ls x

-- it grows by the first statements of a block, so that the rest is still to be put
pub record PutSome (old new : Design) (before after : List Own) (whole rest : Block) (ls ms : ℕ → List Assigned) : Type 0 where
  pub grows : Grows old new
  pub owned : AreOwned new after
  pub own : (x : ℕ) → x < length new.signals → append (own new after x) (split_block x rest) ≡ append (own old before x) (split_block x whole)
  pub lines : (x : ℕ) → x < length new.signals → own_lines new after x ++ ms x ≡ own_lines old before x ++ ls x

-- the list grows by a statement for the signal x
pub record PutOne (old new : Design) (before after : List Own) (x : ℕ) (t : tree.Stmt) (ls : List Assigned) : Type 0 where
  pub grows : Grows old new
  pub owned : AreOwned new after
  pub here : own new after x ≡ append (own old before x) (one t)
  pub others : (y : ℕ) → nat_eq x y ≡ false → own new after y ≡ own old before y
  pub lines : own_lines new after x ≡ own_lines old before x ++ ls
  pub other_lines : (y : ℕ) → nat_eq x y ≡ false → own_lines new after y ≡ own_lines old before y

-- the list grows by a condition, from a line, for each signal that has statements where it holds or where it fails
pub record PutUnder (old new : Design) (before after : List Own) (c : Term) (then_ else_ : List Own) (line : ℕ) : Type 0 where
  pub grows : Grows old new
  pub owned : AreOwned new after
  pub own : (x : ℕ) → x < length new.signals → own new after x ≡ append (own old before x) (lone_if c (own old then_ x) (own old else_ x))
  pub lines : (x : ℕ) → x < length new.signals → own_lines new after x ≡ own_lines old before x ++ under line (own_lines old then_ x ++ own_lines old else_ x)

-- ---- nodes of a draft

abbrev pub tree_of : Design → Stmt → tree.Stmt
tree_of d node = node_stmt (term d) (design.target d) (design.stmt d) node

abbrev pub target_of : Design → Target → tree.Target
target_of d node = node_target (term d) (design.target d) node

-- the lines for the signal x
abbrev pub node_lines_of : Design → ℕ → Stmt → List Assigned
node_lines_of d x node = node_lines (assigned_by d x) (expr_shape d) (lines_at d x) node

-- a target that is the signal x, or some of its bits
pub record CanAssign (d : Design) (x : ℕ) (t : Target) : Type 0 where
  pub signal : x < length d.signals
  pub target : CanAddTarget d t
  pub plain : is_plain_target x (node_target (term d) (design.target d) t) ≡ true

-- ---- groups

abbrev pub no_group : Group
no_group = record { signal = record { 0 = 0 }; then_ = []; else_ = [] }

abbrev pub group_at : List Group → ℕ → Group
group_at gs k = slice_index_or gs k no_group

-- the place of a signal's group, if it is one of the first k
abbrev pub slot_at : List ℕ → ℕ → ℕ
slot_at slots x = slice_index_or slots x 0

abbrev pub has_group : List ℕ → List Group → ℕ → ℕ → Bool
has_group slots gs k x = nat_lt (slot_at slots x) k && nat_eq (group_at gs (slot_at slots x)).signal.0 x

-- one side of a signal's group
abbrev pub ids_at : (Group → List StmtId) → List ℕ → List Group → ℕ → ℕ → List StmtId
ids_at side slots gs k x = if has_group slots gs k x then side (group_at gs (slot_at slots x)) else []

abbrev pub then_of : Group → List StmtId
then_of g = g.then_

abbrev pub else_of : Group → List StmtId
else_of g = g.else_

-- one group for each signal that has statements, at its slot; of n signals
pub record AreGroups (n : ℕ) (slots : List ℕ) (gs : List Group) (f g : ℕ → List StmtId) : Type 0 where
  pub long : length slots ≡ n
  pub signals : (k : ℕ) → k < length gs → (group_at gs k).signal.0 < n
  pub own_slots : (k : ℕ) → k < length gs → slot_at slots (group_at gs k).signal.0 ≡ k
  pub then_ : (x : ℕ) → x < n → ids_at then_of slots gs (length gs) x ≡ f x
  pub else_ : (x : ℕ) → x < n → ids_at else_of slots gs (length gs) x ≡ g x

-- the groups of two lists
pub record AreGrouped (n : ℕ) (then_ else_ : List Own) (gs : List Group) : Type 0 where
  pub table : List ℕ
  pub groups : AreGroups n table gs (λ x. ids_of x then_) (λ x. ids_of x else_)

-- a signal has a group at this place
pub record HasPlace (x : ℕ) (s t : List ℕ) (gs hs : List Group) (at : ℕ) : Type 0 where
  pub long : length t ≡ length s
  pub within : at < length hs
  pub signal : (group_at hs at).signal.0 ≡ x
  pub groups : (n : ℕ) (f g : ℕ → List StmtId) → AreGroups n s gs f g → AreGroups n t hs f g

abbrev pub with_stmt : Group → StmtId → Bool → Group
with_stmt g id true = record g { then_ = g.then_ ++ id ∷ [] }
with_stmt g id false = record g { else_ = g.else_ ++ id ∷ [] }

abbrev pub all_signals : ℕ → List Own → Bool
all_signals n [] = true
all_signals n (o ∷ os) = nat_lt o.signal.0 n && all_signals n os

-- statements more, on the side that is meant
abbrev pub with_owns : List Own → Bool → (ℕ → List StmtId) → ℕ → List StmtId
with_owns os true f x = f x ++ ids_of x os
with_owns os false f x = f x

pub record OwnsAdded (os : List Own) (holds : Bool) (s t : List ℕ) (gs hs : List Group) : Type 0 where
  pub long : length t ≡ length s
  pub groups : (n : ℕ) (f g : ℕ → List StmtId) → AreGroups n s gs f g → AreGroups n t hs (with_owns os holds f) (with_owns os (not holds) g)

-- the statements of a group stand
pub record GroupStands (d : Design) (g : Group) : Type 0 where
  pub signal : g.signal.0 < length d.signals
  pub then_ : IsTrue (all_stmts_below (length d.stmts) g.then_)
  pub else_ : IsTrue (all_stmts_below (length d.stmts) g.else_)

-- the list grows by the condition of a group, from a line, if it has statements
pub record PutGroup (old new : Design) (before after : List Own) (c : Term) (g : Group) (line : ℕ) : Type 0 where
  pub grows : Grows old new
  pub owned : AreOwned new after
  pub here : own new after g.signal.0 ≡ append (own old before g.signal.0) (lone_if c (block old g.then_) (block old g.else_))
  pub others : (y : ℕ) → nat_eq g.signal.0 y ≡ false → own new after y ≡ own old before y
  pub lines : own_lines new after g.signal.0 ≡ own_lines old before g.signal.0 ++ under line (lines old g.signal.0 g.then_ ++ lines old g.signal.0 g.else_)
  pub other_lines : (y : ℕ) → nat_eq g.signal.0 y ≡ false → own_lines new after y ≡ own_lines old before y
