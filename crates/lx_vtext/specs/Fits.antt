-- Which trees have a text: names, literals in their bounds, at most 32 brackets open at a place, statements at most 128 deep.
use Rattle.std.specs.Prelude.{◌≡◌, ℕ, zero, suc, Bool, true, ◌&&◌, ◌^◌, ◌≤◌, None, IsTrue, IfSome, nat_le, nat_lt}
use Rattle.std.specs.List.{AllByRecursion}
use Rattle.lx_vtext.specs.Names.{is_name}
use Rattle.lx_vtext.specs.Tree.{VExpr, Net, Literal, PartSelect, Word, Unary, Binary, Conditional, Concatenation, Replication, ToSigned, ToUnsigned, VExprs, NoMore, More, VTarget, Whole, Part, WholeWord, PartWord, VStmt, Assign, When, VElse, NoElse, Else, VBlock, EndBlock, InBlock, VLiteral, VNet, VPort, VMemory, VDecl, NetDecl, MemoryDecl, VSet, VAssign, VAlways, VModule}

-- 1 to 128 bits, and a value of so many bits
abbrev pub is_literal : ℕ → ℕ → Bool
is_literal bits value = nat_le 1 bits && nat_le bits 128 && nat_lt value (2 ^ bits)

-- an expression within whose text at most so many brackets are open at a place
abbrev mutual
  pub IsExpr : ℕ → VExpr → Type 0
  IsExpr d (Net n) = IsTrue (is_name n)
  IsExpr d (Literal bits signed value) = IsTrue (is_literal bits value)
  IsExpr (suc d) (PartSelect n hi lo) = IsTrue (is_name n)
  IsExpr (suc d) (Word n e) = IsTrue (is_name n) × IsExpr d e
  IsExpr (suc d) (Unary op e) = IsExpr d e
  IsExpr (suc d) (Binary a op b) = IsExpr d a × IsExpr d b
  IsExpr (suc d) (Conditional c a b) = IsExpr d c × IsExpr d a × IsExpr d b
  IsExpr (suc d) (Concatenation e es) = IsExpr d e × AreExprs d es
  IsExpr (suc (suc d)) (Replication k e) = IsExpr d e
  IsExpr (suc d) (ToSigned e) = IsExpr d e
  IsExpr (suc d) (ToUnsigned e) = IsExpr d e
  IsExpr _ _ = ⊥

  pub AreExprs : ℕ → VExprs → Type 0
  AreExprs d NoMore = Unit {0}
  AreExprs d (More e es) = IsExpr d e × AreExprs d es

abbrev pub IsTarget : VTarget → Type 0
IsTarget (Whole n) = IsTrue (is_name n)
IsTarget (Part n hi lo) = IsTrue (is_name n)
IsTarget (WholeWord n e) = IsTrue (is_name n) × IsExpr 31 e
IsTarget (PartWord n e hi lo) = IsTrue (is_name n) × IsExpr 31 e

-- statements that nest at most so deep
abbrev mutual
  pub IsStmt : ℕ → VStmt → Type 0
  IsStmt d (Assign t blocking e) = IsTarget t × IsExpr 32 e
  IsStmt d (When c so other) = IsExpr 31 c × IsBlock d so × IsElse d other

  pub IsElse : ℕ → VElse → Type 0
  IsElse d NoElse = Unit {0}
  IsElse d (Else b) = IsBlock d b

  pub IsBlock : ℕ → VBlock → Type 0
  IsBlock d EndBlock = Unit {0}
  IsBlock zero (InBlock s ss) = ⊥
  IsBlock (suc d) (InBlock s ss) = IsStmt d s × IsBlock (suc d) ss

abbrev pub IsValue : VLiteral → Type 0
IsValue v = IsTrue (is_literal v.bits v.value)

pub record IsNet (n : VNet) : Type 0 where
  pub name : IsTrue (is_name n.name)
  pub bits : 1 ≤ n.bits
  pub init : IfSome n.init IsValue

-- an input is a wire
pub record IsPort (p : VPort) : Type 0 where
  pub net : IsNet p.net
  pub wire : p.is_input ≡ true → p.net.init ≡ None

pub record IsMemory (m : VMemory) : Type 0 where
  pub name : IsTrue (is_name m.name)
  pub bits : 1 ≤ m.bits
  pub depth : 1 ≤ m.depth

abbrev pub IsDecl : VDecl → Type 0
IsDecl (NetDecl n) = IsNet n
IsDecl (MemoryDecl m) = IsMemory m

pub record IsSet (s : VSet) : Type 0 where
  pub name : IsTrue (is_name s.name)
  pub value : IsValue s.value

pub record IsAssign (a : VAssign) : Type 0 where
  pub name : IsTrue (is_name a.name)
  pub value : IsExpr 32 a.value

pub record IsAlways (a : VAlways) : Type 0 where
  pub clock : IfSome a.clock (λ c. IsTrue (is_name c))
  pub body : IsBlock 128 a.body

pub record IsModule (m : VModule) : Type 0 where
  pub ports : AllByRecursion IsPort m.ports
  pub decls : AllByRecursion IsDecl m.decls
  pub inits : AllByRecursion (λ sets. AllByRecursion IsSet sets) m.inits
  pub assigns : AllByRecursion IsAssign m.assigns
  pub always : AllByRecursion IsAlways m.always
