-- Statements, and the assignments that are taken.
use Rattle.std.specs.Prelude.{ℕ, ℤ, Bool, false, List, [], ◌∷◌, ◌++◌, ◌+◌, ◌*◌, ◌/◌, ◌%◌, ◌^◌, ◌||◌, max, nat_eq, if◌then◌else◌}
use Rattle.std.specs.Ordering.{int_eq}
use Rattle.lx_num.specs.Ints.{modulo, floor_div, read_bits}
use Rattle.lx_circuit.specs.Places.{Values}
use Rattle.lx_circuit.specs.Terms.{Term}
use Rattle.lx_circuit.specs.Shapes.{Shapes}
use Rattle.lx_circuit.specs.Values.{value_of, is_zero, count_of, nth_or_last}

mutual
  pub data Target : Type 0 where
    Whole : (signal : ℕ) → Target
    Part : (signal low len : ℕ) → Target
    CatTarget : (parts : Targets) → Target
    PickTarget : (items : Targets) (index : Term) → Target

  pub data Targets : Type 0 where
    NoTarget : Targets
    MoreTargets : (first : Target) (rest : Targets) → Targets

mutual
  pub data Stmt : Type 0 where
    Assign : (target : Target) (value : Term) → Stmt
    -- the first branch whose condition is not 0, else the rest
    If : (branches : Branches) (rest : Block) → Stmt
    -- the arm whose key is the value, else the rest
    Case : (on : Term) (arms : Arms) (rest : Block) → Stmt

  pub data Branches : Type 0 where
    NoBranch : Branches
    Branch : (cond : Term) (body : Block) (more : Branches) → Branches

  pub data Arms : Type 0 where
    NoArm : Arms
    Arm : (key : ℤ) (body : Block) (more : Arms) → Arms

  pub data Block : Type 0 where
    Done : Block
    Then : (first : Stmt) (rest : Block) → Block

-- an assignment that is taken: bits low to low + len - 1 of the signal become the lowest bits of the number
pub record Piece : Type 0 where
  pub signal : ℕ
  pub low : ℕ
  pub len : ℕ
  pub number : ℤ

abbrev pub piece : ℕ → ℕ → ℕ → ℤ → Piece
piece x low len z = record { signal = x; low = low; len = len; number = z }

-- the bits of a target; one with an index has those of its widest item
abbrev mutual
  pub target_bits : Shapes → Target → ℕ
  target_bits s (Whole x) = (s x).bits
  target_bits s (Part x low len) = len
  target_bits s (CatTarget parts) = sum_bits s parts
  target_bits s (PickTarget items index) = most_bits s items

  pub sum_bits : Shapes → Targets → ℕ
  sum_bits s NoTarget = 0
  sum_bits s (MoreTargets t ts) = target_bits s t + sum_bits s ts

  pub most_bits : Shapes → Targets → ℕ
  most_bits s NoTarget = 0
  most_bits s (MoreTargets t ts) = max (target_bits s t) (most_bits s ts)

-- what a target takes of a number: the parts from the low end, and the chosen item alone
abbrev mutual
  pub pieces : Shapes → Values → Target → ℤ → List Piece
  pieces s v (Whole x) z = piece x 0 (s x).bits z ∷ []
  pieces s v (Part x low len) z = piece x low len z ∷ []
  pieces s v (CatTarget parts) z = parts_pieces s v parts z
  pieces s v (PickTarget items index) z = nth_or_last [] (items_pieces s v items z) (count_of (value_of s v index))

  pub parts_pieces : Shapes → Values → Targets → ℤ → List Piece
  parts_pieces s v NoTarget z = []
  parts_pieces s v (MoreTargets t ts) z = pieces s v t z ++ parts_pieces s v ts (floor_div z (2 ^ target_bits s t))

  pub items_pieces : Shapes → Values → Targets → ℤ → List (List Piece)
  items_pieces s v NoTarget z = []
  items_pieces s v (MoreTargets t ts) z = pieces s v t z ∷ items_pieces s v ts z

-- the assignments that statements take, in order
abbrev mutual
  pub taken : Shapes → Values → Stmt → List Piece
  taken s v (Assign t e) = pieces s v t (value_of s v e)
  taken s v (If bs rest) = taken_branch s v bs (taken_block s v rest)
  taken s v (Case on arms rest) = taken_arm s v (value_of s v on) arms (taken_block s v rest)

  pub taken_branch : Shapes → Values → Branches → List Piece → List Piece
  taken_branch s v NoBranch rest = rest
  taken_branch s v (Branch c b more) rest = if is_zero (value_of s v c) then taken_branch s v more rest else taken_block s v b

  pub taken_arm : Shapes → Values → ℤ → Arms → List Piece → List Piece
  taken_arm s v z NoArm rest = rest
  taken_arm s v z (Arm key b more) rest = if int_eq key z then taken_block s v b else taken_arm s v z more rest

  pub taken_block : Shapes → Values → Block → List Piece
  taken_block s v Done = []
  taken_block s v (Then x xs) = taken s v x ++ taken_block s v xs

-- bits low to low + len - 1 of a pattern become the lowest bits of z
abbrev pub laid_over : ℕ → ℕ → ℕ → ℤ → ℕ
laid_over p low len z = p % 2 ^ low + 2 ^ low * modulo z (2 ^ len) + 2 ^ (low + len) * (p / 2 ^ (low + len))

-- the pattern of a signal after these assignments
abbrev pub after_pieces : ℕ → ℕ → List Piece → ℕ
after_pieces x p [] = p
after_pieces x p (q ∷ qs) = after_pieces x (if nat_eq q.signal x then laid_over p q.low q.len q.number else p) qs

-- the value of a signal that had the value start, after these assignments, wrapped to its shape
abbrev pub result : Shapes → ℕ → ℤ → List Piece → ℤ
result s x start ps =
    let n = (s x).bits in
    read_bits n (s x).signed (after_pieces x (modulo start (2 ^ n)) ps % 2 ^ n)

-- some part or item of a target is the signal
abbrev mutual
  pub is_target : ℕ → Target → Bool
  is_target x (Whole y) = nat_eq y x
  is_target x (Part y low len) = nat_eq y x
  is_target x (CatTarget parts) = some_target x parts
  is_target x (PickTarget items index) = some_target x items

  pub some_target : ℕ → Targets → Bool
  some_target x NoTarget = false
  some_target x (MoreTargets t ts) = is_target x t || some_target x ts

-- some statement assigns the signal, whether it is taken or not
abbrev mutual
  pub drives : ℕ → Stmt → Bool
  drives x (Assign t e) = is_target x t
  drives x (If bs rest) = drives_branch x bs || drives_block x rest
  drives x (Case on arms rest) = drives_arm x arms || drives_block x rest

  pub drives_branch : ℕ → Branches → Bool
  drives_branch x NoBranch = false
  drives_branch x (Branch c b more) = drives_block x b || drives_branch x more

  pub drives_arm : ℕ → Arms → Bool
  drives_arm x NoArm = false
  drives_arm x (Arm key b more) = drives_block x b || drives_arm x more

  pub drives_block : ℕ → Block → Bool
  drives_block x Done = false
  drives_block x (Then s ss) = drives x s || drives_block x ss
