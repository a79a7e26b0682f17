-- The syntax of a description: what the nodes of its tree say. Each form has the line on which it begins.
use Rattle.std.specs.Prelude.{ℕ, ℤ, Bool, List, Option}
use Rattle.lx_syntax.specs.declared.forms.Operator.{Operator}
use Rattle.lx_syntax.specs.declared.forms.Comparison.{Comparison}
use Rattle.lx_syntax.specs.declared.forms.Prefix.{Prefix}

-- a sign before an operand, and its line
pub record Sign : Type 0 where
  pub line : ℕ
  pub prefix : Prefix

-- expressions, and what stands in them; `Misshapen` is what no tree of the grammar says
mutual
  pub data Expr : Type 0 where
    Name : (line : ℕ) (name : List ℕ) → Expr
    -- its value, where it may be written
    Number : (line : ℕ) (value : Option ℤ) → Expr
    -- what a text stands for
    Quoted : (line : ℕ) (bytes : List ℕ) → Expr
    Nothing : (line : ℕ) → Expr
    Truth : (line : ℕ) (holds : Bool) → Expr
    Tuple : (line : ℕ) (items : Exprs) → Expr
    Listed : (line : ℕ) (items : Exprs) → Expr
    -- an item for each of a source's whose filter holds, where there is one
    Comprehension : (line : ℕ) (item : Expr) (names : List (List ℕ)) (source : Expr) (filter : Exprs) → Expr
    Dictionary : (line : ℕ) (pairs : Pairs) → Expr
    -- `value if condition else value if condition else ..`: each conditional begins at its first value
    Choice : (line : ℕ) (value : Expr) (rest : Choices) → Expr
    -- chains of `or` and of `and`
    Either : (line : ℕ) (parts : Exprs) → Expr
    Both : (line : ℕ) (parts : Exprs) → Expr
    -- each `not` begins its own expression, on its line
    Not : (lines : List ℕ) (of : Expr) → Expr
    Compare : (line : ℕ) (by_ : Comparison) (left right : Expr) → Expr
    IsNothing : (line : ℕ) (negated : Bool) (of : Expr) → Expr
    -- a chain of operators of one level, from the left
    Chain : (line : ℕ) (first : Expr) (rest : Links) → Expr
    -- each sign begins its own expression, on its line; the last one is the innermost
    Prefixed : (signs : List Sign) (of : Expr) → Expr
    Power : (line : ℕ) (base exponent : Expr) → Expr
    -- attributes, calls and subscripts of what stands before them, from the left
    Post : (line : ℕ) (of : Expr) (trailers : Trailers) → Expr
    Misshapen : Expr

  pub data Exprs : Type 0 where
    none : Exprs
    more : Expr → Exprs → Exprs

  pub data Pairs : Type 0 where
    no_pair : Pairs
    pair : (key value : Expr) → Pairs → Pairs

  pub data Choices : Type 0 where
    no_choice : Choices
    choice : (line : ℕ) (condition value : Expr) → Choices → Choices

  pub data Links : Type 0 where
    no_link : Links
    link : Operator → Expr → Links → Links

  pub data Trailers : Type 0 where
    no_trailer : Trailers
    attribute : (name : List ℕ) → Trailers → Trailers
    call : Arguments → Trailers → Trailers
    item : (index : Expr) → Trailers → Trailers
    -- bounds that may be missing
    slice : (low high : Exprs) → Trailers → Trailers

  pub data Arguments : Type 0 where
    no_argument : Arguments
    placed : Expr → Arguments → Arguments
    starred : Expr → Arguments → Arguments
    keyed : (name : List ℕ) → Expr → Arguments → Arguments

-- where a value is bound: a name, or an attribute of an object
pub data Place : Type 0 where
  Named : (name : List ℕ) → Place
  Attribute : (of : Expr) (name : List ℕ) → Place

-- statements; the blocks of an `if` are those behind its conditions, and what is done where none holds
mutual
  pub data Stmt : Type 0 where
    Pass : (line : ℕ) → Stmt
    Value : (line : ℕ) → Expr → Stmt
    Bind : (line : ℕ) (place : Place) (value : Expr) → Stmt
    Add : (line : ℕ) (place : Place) (value : Expr) → Stmt
    If : (line : ℕ) (branches : Branches) (rest : Stmts) → Stmt
    For : (line : ℕ) (names : List (List ℕ)) (source : Expr) (body : Stmts) → Stmt
    NoStmt : Stmt

  pub data Stmts : Type 0 where
    done : Stmts
    then_ : Stmt → Stmts → Stmts

  pub data Branches : Type 0 where
    no_branch : Branches
    branch : (condition : Expr) (body : Stmts) → Branches → Branches

-- a parameter, and its default where it has one
pub record Param : Type 0 where
  pub name : List ℕ
  pub default : Exprs

-- a base of a class, and its line
pub record Base : Type 0 where
  pub line : ℕ
  pub name : List ℕ

-- a class: its line, name and bases, and its `__init__`, whose first parameter is `self`
pub record Class : Type 0 where
  pub line : ℕ
  pub name : List ℕ
  pub bases : List Base
  pub init_line : ℕ
  pub params : List Param
  pub body : Stmts
