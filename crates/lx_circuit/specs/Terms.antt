-- Expressions of FHDL as trees.
use Rattle.std.specs.Prelude.{ℕ, ℤ}
use Rattle.lx_num.specs.declared.Shape.{Shape}
use Rattle.lx_tables.specs.declared.operators.Op.{Op}

mutual
  pub data Term : Type 0 where
    -- a number, wrapped to the shape
    Constant : (value : ℤ) (shape : Shape) → Term
    Signal : (id : ℕ) → Term
    Unary : (op : Op) (of : Term) → Term
    Binary : (op : Op) (left right : Term) → Term
    Mux : (cond then_ else_ : Term) → Term
    -- the first part in the lowest bits
    Cat : (parts : Terms) → Term
    Replicate : (of : Term) (count : ℕ) → Term
    -- bits low to high - 1
    Slice : (of : Term) (low high : ℕ) → Term
    -- the item at the index, the last item past the end
    Pick : (items : Terms) (index : Term) → Term
    -- the word of a memory at the index, of so many bits
    Fetch : (memory width : ℕ) (at : Term) → Term

  pub data Terms : Type 0 where
    NoTerm : Terms
    MoreTerms : (first : Term) (rest : Terms) → Terms
