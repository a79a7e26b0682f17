-- The blocks of a module: a memory has one initial block, which sets its words in order, each once; each block has one target;
-- a block of `always @(*)` uses `=` alone and begins with its whole target from a literal; a clocked block uses `<=` alone.
-- Memories are tested in the order of their declaration, then blocks in the order of the text.
use Rattle.std.specs.Prelude.{ℕ, Bool, true, false, List, [], ◌∷◌, Option, Some, None, ◌+◌, nat_eq, not, ◌&&◌, length, if◌then◌else◌, IsTrue}
use Rattle.std.specs.List.{list_all}
use Rattle.std.specs.Str.{bytes_eq}
use Rattle.lx_vtext.specs.Tree.{Name, Literal, Whole, VStmt, Assign, When, VElse, NoElse, Else, VBlock, EndBlock, InBlock, VMemory, VSet, VAlways, VModule}
use Rattle.lx_vmeaning.specs.Runs.{decl_memories, target_name}

-- ---- initial blocks

-- the lines set the words of a memory in order, each once
abbrev pub sets_in_order : Name → ℕ → List VSet → Bool
sets_in_order n k [] = true
sets_in_order n k (x ∷ xs) = bytes_eq x.name n && (nat_eq x.index k && sets_in_order n (k + 1) xs)

abbrev pub begins_with : Name → List VSet → Bool
begins_with n [] = false
begins_with n (x ∷ xs) = bytes_eq x.name n

abbrev pub blocks_of : Name → List (List VSet) → List (List VSet)
blocks_of n [] = []
blocks_of n (b ∷ bs) = if begins_with n b then b ∷ blocks_of n bs else blocks_of n bs

abbrev pub is_full_block : VMemory → List (List VSet) → Bool
is_full_block x (b ∷ []) = sets_in_order x.name 0 b && nat_eq (length b) x.depth
is_full_block x _ = false

abbrev pub memory_fits : VModule → VMemory → Bool
memory_fits m x = is_full_block x (blocks_of x.name m.inits)

-- all lines have the target of the first
abbrev pub init_fits : List VSet → Bool
init_fits [] = false
init_fits (x ∷ xs) = list_all (λ y. bytes_eq y.name x.name) xs

-- ---- always blocks

-- the first name that a block assigns
abbrev pub or_name : Option Name → Option Name → Option Name
or_name (Some n) other = Some n
or_name None other = other

abbrev mutual
  pub stmt_target : VStmt → Option Name
  stmt_target (Assign t blocking e) = Some (target_name t)
  stmt_target (When c so other) = or_name (block_target so) (else_target other)

  pub else_target : VElse → Option Name
  else_target NoElse = None
  else_target (Else b) = block_target b

  pub block_target : VBlock → Option Name
  block_target EndBlock = None
  block_target (InBlock s ss) = or_name (stmt_target s) (block_target ss)

-- all assignments have one target, and `=` alone or `<=` alone
abbrev mutual
  pub stmt_fits : Name → Bool → VStmt → Bool
  stmt_fits n now (Assign t blocking e) = bytes_eq (target_name t) n && (if now then blocking else not blocking)
  stmt_fits n now (When c so other) = block_fits n now so && else_fits n now other

  pub else_fits : Name → Bool → VElse → Bool
  else_fits n now NoElse = true
  else_fits n now (Else b) = block_fits n now b

  pub block_fits : Name → Bool → VBlock → Bool
  block_fits n now EndBlock = true
  block_fits n now (InBlock s ss) = stmt_fits n now s && block_fits n now ss

abbrev pub target_fits : Bool → Option Name → VBlock → Bool
target_fits now None b = false
target_fits now (Some n) b = block_fits n now b

-- the whole target from a literal, by `=`
abbrev pub begins_whole : VBlock → Bool
begins_whole (InBlock (Assign (Whole n) true (Literal bits signed value)) ss) = true
begins_whole _ = false

abbrev pub body_fits : Option Name → VBlock → Bool
body_fits None b = begins_whole b && target_fits true (block_target b) b
body_fits (Some c) b = target_fits false (block_target b) b

abbrev pub always_fits : VAlways → Bool
always_fits a = body_fits a.clock a.body

pub record HasBlocks (m : VModule) : Type 0 where
  pub memories : IsTrue (list_all (λ x. memory_fits m x) (decl_memories m.decls))
  pub inits : IsTrue (list_all init_fits m.inits)
  pub always : IsTrue (list_all always_fits m.always)
