-- The tree of a Verilog module. Each form of the profile is one constructor or record,
-- with its parts in the order of the text (IEEE 1364-2005, formal syntax).
use Rattle.std.specs.Prelude.{ℕ, Bool, List, Option}
use Rattle.lx_vtext.specs.declared.operators.UnOp.{UnOp}
use Rattle.lx_vtext.specs.declared.operators.BinOp.{BinOp}

abbrev pub Name : Type 0
Name = List ℕ

mutual
  pub data VExpr : Type 0 where
    Net : (name : Name) → VExpr
    Literal : (bits : ℕ) (signed : Bool) (value : ℕ) → VExpr
    -- name[hi:lo]
    PartSelect : (name : Name) (hi lo : ℕ) → VExpr
    -- name[index], a word of a memory
    Word : (name : Name) (index : VExpr) → VExpr
    Unary : (op : UnOp) (of : VExpr) → VExpr
    Binary : (left : VExpr) (op : BinOp) (right : VExpr) → VExpr
    -- cond ? so : other
    Conditional : (cond so other : VExpr) → VExpr
    -- the first part stands in the highest bits
    Concatenation : (first : VExpr) (more : VExprs) → VExpr
    Replication : (count : ℕ) (of : VExpr) → VExpr
    ToSigned : (of : VExpr) → VExpr
    ToUnsigned : (of : VExpr) → VExpr

  pub data VExprs : Type 0 where
    NoMore : VExprs
    More : (first : VExpr) (rest : VExprs) → VExprs

pub data VTarget : Type 0 where
  Whole : (name : Name) → VTarget
  Part : (name : Name) (hi lo : ℕ) → VTarget
  WholeWord : (name : Name) (index : VExpr) → VTarget
  PartWord : (name : Name) (index : VExpr) (hi lo : ℕ) → VTarget

mutual
  pub data VStmt : Type 0 where
    -- `=` where it is blocking, else `<=`
    Assign : (target : VTarget) (blocking : Bool) (value : VExpr) → VStmt
    When : (cond : VExpr) (so : VBlock) (other : VElse) → VStmt

  pub data VElse : Type 0 where
    NoElse : VElse
    Else : (body : VBlock) → VElse

  pub data VBlock : Type 0 where
    EndBlock : VBlock
    InBlock : (first : VStmt) (rest : VBlock) → VBlock

pub record VLiteral : Type 0 where
  pub bits : ℕ
  pub signed : Bool
  pub value : ℕ

-- a wire, or a register with its first value
pub record VNet : Type 0 where
  pub signed : Bool
  pub bits : ℕ
  pub name : Name
  pub init : Option VLiteral

pub record VPort : Type 0 where
  pub is_input : Bool
  pub net : VNet

-- a memory of so many words
pub record VMemory : Type 0 where
  pub bits : ℕ
  pub name : Name
  pub depth : ℕ

pub data VDecl : Type 0 where
  NetDecl : (net : VNet) → VDecl
  MemoryDecl : (memory : VMemory) → VDecl

-- a line `name[index] = value;` of an initial block
pub record VSet : Type 0 where
  pub name : Name
  pub index : ℕ
  pub value : VLiteral

pub record VAssign : Type 0 where
  pub name : Name
  pub value : VExpr

-- `always @(*)`, or `always @(posedge clock)`
pub record VAlways : Type 0 where
  pub clock : Option Name
  pub body : VBlock

pub record VModule : Type 0 where
  pub ports : List VPort
  pub decls : List VDecl
  pub inits : List (List VSet)
  pub assigns : List VAssign
  pub always : List VAlways
