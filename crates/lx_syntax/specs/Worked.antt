-- What trees say, for each form that a description has. The names of the rows are what is said.
use Rattle.std.specs.Prelude.{ℕ, true, false, [], ◌∷◌, ◌≡◌, codes, pos, Some}
use Rattle.lx_token.specs.declared.tokens.Token.{Token}
use Rattle.lx_token.specs.declared.tokens.TokenKind.TheVariants as kind
use Rattle.lx_grammar.specs.declared.grammar.Rule.TheVariants as rule
use Rattle.lx_grammar.specs.Derives.{Grown, end, token, child}
use Rattle.lx_syntax.specs.declared.forms.Operator.TheVariants as operator
use Rattle.lx_syntax.specs.declared.forms.Comparison.TheVariants as comparison
use Rattle.lx_syntax.specs.declared.forms.Prefix.{Prefix}
use Rattle.lx_syntax.specs.declared.forms.Prefix.TheVariants as prefix
use Rattle.lx_syntax.specs.Ast as ast
use Rattle.lx_syntax.specs.Convert.{expr, stmt}
use Rattle.lx_syntax.specs.Classes.{classes}

-- tokens of the first line, from a byte up to another
abbrev pub name : ℕ → ℕ → Token
name a b = record { kind = kind.Name; start = a; end = b; line = 1 }

-- a name on the second line
abbrev pub name_below : ℕ → ℕ → Token
name_below a b = record { kind = kind.Name; start = a; end = b; line = 2 }

abbrev pub keyword : ℕ → ℕ → Token
keyword a b = record { kind = kind.Keyword; start = a; end = b; line = 1 }

abbrev pub digits : ℕ → ℕ → Token
digits a b = record { kind = kind.Number; start = a; end = b; line = 1 }

abbrev pub quoted : ℕ → ℕ → Token
quoted a b = record { kind = kind.Quoted; start = a; end = b; line = 1 }

abbrev pub sign_at : ℕ → ℕ → Token
sign_at a b = record { kind = kind.Op; start = a; end = b; line = 1 }

abbrev pub newline : ℕ → ℕ → Token
newline a b = record { kind = kind.Newline; start = a; end = b; line = 1 }

abbrev pub sign_on : Prefix → ast.Sign
sign_on p = record { line = 1; prefix = p }

-- Expressions.
pub record ExpressionsAreWorked : Type 0 where
  -- a name
  pub a_name : expr (codes "a") (Grown rule.Atom (token (name 0 1) end)) ≡ ast.Name 1 (codes "a")
  -- a number
  pub a_number : expr (codes "0x1F") (Grown rule.Atom (token (digits 0 4) end)) ≡ ast.Number 1 (Some (pos 31))
  -- a text
  pub a_text : expr (codes "'a\\n'") (Grown rule.Atom (token (quoted 0 5) end)) ≡ ast.Quoted 1 (97 ∷ 10 ∷ [])
  -- `None`
  pub nothing : expr (codes "None") (Grown rule.Atom (token (keyword 0 4) end)) ≡ ast.Nothing 1
  -- `True`
  pub truth : expr (codes "True") (Grown rule.Atom (token (keyword 0 4) end)) ≡ ast.Truth 1 true
  -- `False`
  pub untruth : expr (codes "False") (Grown rule.Atom (token (keyword 0 5) end)) ≡ ast.Truth 1 false
  -- an empty tuple
  pub no_items : expr (codes "()") (Grown rule.Atom (token (sign_at 0 1) (token (sign_at 1 2) end))) ≡ ast.Tuple 1 ast.none
  -- brackets
  pub brackets : expr (codes "(a)") (Grown rule.Atom (token (sign_at 0 1) (child (Grown rule.Atom (token (name 1 2) end)) (token (sign_at 2 3) end)))) ≡ ast.Name 1 (codes "a")
  -- a tuple of one item
  pub a_tuple : expr (codes "a,") (Grown rule.Values (child (Grown rule.Atom (token (name 0 1) end)) (token (sign_at 1 2) end))) ≡ ast.Tuple 1 (ast.more (ast.Name 1 (codes "a")) ast.none)
  -- an empty list
  pub empty_list : expr (codes "[]") (Grown rule.Atom (token (sign_at 0 1) (token (sign_at 1 2) end))) ≡ ast.Listed 1 ast.none
  -- a list of one item
  pub list_of_one : expr (codes "[a]") (Grown rule.Atom (token (sign_at 0 1) (child (Grown rule.Atom (token (name 1 2) end)) (token (sign_at 2 3) end)))) ≡ ast.Listed 1 (ast.more (ast.Name 1 (codes "a")) ast.none)
  -- a list of two items
  pub list_of_two : expr (codes "[a, b]") (Grown rule.Atom (token (sign_at 0 1) (child (Grown rule.Values (child (Grown rule.Atom (token (name 1 2) end)) (token (sign_at 2 3) (child (Grown rule.Atom (token (name 4 5) end)) end)))) (token (sign_at 5 6) end)))) ≡ ast.Listed 1 (ast.more (ast.Name 1 (codes "a")) (ast.more (ast.Name 1 (codes "b")) ast.none))
  -- a list of one tuple
  pub list_of_a_tuple : expr (codes "[(a, b)]") (Grown rule.Atom (token (sign_at 0 1) (child (Grown rule.Atom (token (sign_at 1 2) (child (Grown rule.Values (child (Grown rule.Atom (token (name 2 3) end)) (token (sign_at 3 4) (child (Grown rule.Atom (token (name 5 6) end)) end)))) (token (sign_at 6 7) end)))) (token (sign_at 7 8) end)))) ≡ ast.Listed 1 (ast.more (ast.Tuple 1 (ast.more (ast.Name 1 (codes "a")) (ast.more (ast.Name 1 (codes "b")) ast.none))) ast.none)
  -- a comprehension
  pub a_comprehension : expr (codes "[a for a in b]") (Grown rule.Atom (token (sign_at 0 1) (child (Grown rule.Atom (token (name 1 2) end)) (token (keyword 3 6) (child (Grown rule.Names (token (name 7 8) end)) (token (keyword 9 11) (child (Grown rule.Atom (token (name 12 13) end)) (token (sign_at 13 14) end)))))))) ≡ ast.Comprehension 1 (ast.Name 1 (codes "a")) (codes "a" ∷ []) (ast.Name 1 (codes "b")) ast.none
  -- a comprehension with two names and a filter
  pub a_filter : expr (codes "[a for a, b in c if b]") (Grown rule.Atom (token (sign_at 0 1) (child (Grown rule.Atom (token (name 1 2) end)) (token (keyword 3 6) (child (Grown rule.Names (token (name 7 8) (token (sign_at 8 9) (token (name 10 11) end)))) (token (keyword 12 14) (child (Grown rule.Atom (token (name 15 16) end)) (token (keyword 17 19) (child (Grown rule.Atom (token (name 20 21) end)) (token (sign_at 21 22) end)))))))))) ≡ ast.Comprehension 1 (ast.Name 1 (codes "a")) (codes "a" ∷ codes "b" ∷ []) (ast.Name 1 (codes "c")) (ast.more (ast.Name 1 (codes "b")) ast.none)
  -- a dictionary
  pub a_dictionary : expr (codes "{a: b, c: d}") (Grown rule.Atom (token (sign_at 0 1) (child (Grown rule.Atom (token (name 1 2) end)) (token (sign_at 2 3) (child (Grown rule.Atom (token (name 4 5) end)) (token (sign_at 5 6) (child (Grown rule.Atom (token (name 7 8) end)) (token (sign_at 8 9) (child (Grown rule.Atom (token (name 10 11) end)) (token (sign_at 11 12) end)))))))))) ≡ ast.Dictionary 1 (ast.pair (ast.Name 1 (codes "a")) (ast.Name 1 (codes "b")) (ast.pair (ast.Name 1 (codes "c")) (ast.Name 1 (codes "d")) ast.no_pair))
  -- an empty dictionary
  pub no_pairs : expr (codes "{}") (Grown rule.Atom (token (sign_at 0 1) (token (sign_at 1 2) end))) ≡ ast.Dictionary 1 ast.no_pair
  -- a conditional
  pub conditional : expr (codes "a if b else c") (Grown rule.Expr (child (Grown rule.Atom (token (name 0 1) end)) (token (keyword 2 4) (child (Grown rule.Atom (token (name 5 6) end)) (token (keyword 7 11) (child (Grown rule.Atom (token (name 12 13) end)) end)))))) ≡ ast.Choice 1 (ast.Name 1 (codes "a")) (ast.choice 1 (ast.Name 1 (codes "b")) (ast.Name 1 (codes "c")) ast.no_choice)
  -- a later conditional begins at its own first value
  pub later_conditional : expr (codes "a if b else c if d else e") (Grown rule.Expr (child (Grown rule.Atom (token (name 0 1) end)) (token (keyword 2 4) (child (Grown rule.Atom (token (name 5 6) end)) (token (keyword 7 11) (child (Grown rule.Atom (token (name_below 12 13) end)) (token (keyword 14 16) (child (Grown rule.Atom (token (name 17 18) end)) (token (keyword 19 23) (child (Grown rule.Atom (token (name 24 25) end)) end)))))))))) ≡ ast.Choice 1 (ast.Name 1 (codes "a")) (ast.choice 1 (ast.Name 1 (codes "b")) (ast.Name 2 (codes "c")) (ast.choice 2 (ast.Name 1 (codes "d")) (ast.Name 1 (codes "e")) ast.no_choice))
  -- `or`
  pub either : expr (codes "a or b") (Grown rule.Or (child (Grown rule.Atom (token (name 0 1) end)) (token (keyword 2 4) (child (Grown rule.Atom (token (name 5 6) end)) end)))) ≡ ast.Either 1 (ast.more (ast.Name 1 (codes "a")) (ast.more (ast.Name 1 (codes "b")) ast.none))
  -- `and`
  pub both : expr (codes "a and b") (Grown rule.And (child (Grown rule.Atom (token (name 0 1) end)) (token (keyword 2 5) (child (Grown rule.Atom (token (name 6 7) end)) end)))) ≡ ast.Both 1 (ast.more (ast.Name 1 (codes "a")) (ast.more (ast.Name 1 (codes "b")) ast.none))
  -- `not` twice
  pub twice_not : expr (codes "not not a") (Grown rule.Not (token (keyword 0 3) (token (keyword 4 7) (child (Grown rule.Atom (token (name 8 9) end)) end)))) ≡ ast.Not (1 ∷ 1 ∷ []) (ast.Name 1 (codes "a"))
  -- `==`
  pub equal : expr (codes "a == b") (Grown rule.Comp (child (Grown rule.Atom (token (name 0 1) end)) (token (sign_at 2 4) (child (Grown rule.Atom (token (name 5 6) end)) end)))) ≡ ast.Compare 1 comparison.Equal (ast.Name 1 (codes "a")) (ast.Name 1 (codes "b"))
  -- `!=`
  pub unequal : expr (codes "a != b") (Grown rule.Comp (child (Grown rule.Atom (token (name 0 1) end)) (token (sign_at 2 4) (child (Grown rule.Atom (token (name 5 6) end)) end)))) ≡ ast.Compare 1 comparison.Unequal (ast.Name 1 (codes "a")) (ast.Name 1 (codes "b"))
  -- `<`
  pub less : expr (codes "a < b") (Grown rule.Comp (child (Grown rule.Atom (token (name 0 1) end)) (token (sign_at 2 3) (child (Grown rule.Atom (token (name 4 5) end)) end)))) ≡ ast.Compare 1 comparison.Less (ast.Name 1 (codes "a")) (ast.Name 1 (codes "b"))
  -- `<=`
  pub less_or_equal : expr (codes "a <= b") (Grown rule.Comp (child (Grown rule.Atom (token (name 0 1) end)) (token (sign_at 2 4) (child (Grown rule.Atom (token (name 5 6) end)) end)))) ≡ ast.Compare 1 comparison.LessEqual (ast.Name 1 (codes "a")) (ast.Name 1 (codes "b"))
  -- `>`
  pub greater : expr (codes "a > b") (Grown rule.Comp (child (Grown rule.Atom (token (name 0 1) end)) (token (sign_at 2 3) (child (Grown rule.Atom (token (name 4 5) end)) end)))) ≡ ast.Compare 1 comparison.Greater (ast.Name 1 (codes "a")) (ast.Name 1 (codes "b"))
  -- `>=`
  pub greater_or_equal : expr (codes "a >= b") (Grown rule.Comp (child (Grown rule.Atom (token (name 0 1) end)) (token (sign_at 2 4) (child (Grown rule.Atom (token (name 5 6) end)) end)))) ≡ ast.Compare 1 comparison.GreaterEqual (ast.Name 1 (codes "a")) (ast.Name 1 (codes "b"))
  -- `in`
  pub within : expr (codes "a in b") (Grown rule.Comp (child (Grown rule.Atom (token (name 0 1) end)) (token (keyword 2 4) (child (Grown rule.Atom (token (name 5 6) end)) end)))) ≡ ast.Compare 1 comparison.In (ast.Name 1 (codes "a")) (ast.Name 1 (codes "b"))
  -- `is None`
  pub is_none : expr (codes "a is None") (Grown rule.Comp (child (Grown rule.Atom (token (name 0 1) end)) (token (keyword 2 4) (token (keyword 5 9) end)))) ≡ ast.IsNothing 1 false (ast.Name 1 (codes "a"))
  -- `is not None`
  pub is_not_none : expr (codes "a is not None") (Grown rule.Comp (child (Grown rule.Atom (token (name 0 1) end)) (token (keyword 2 4) (token (keyword 5 8) (token (keyword 9 13) end))))) ≡ ast.IsNothing 1 true (ast.Name 1 (codes "a"))
  -- `|`
  pub bits_or : expr (codes "a | b") (Grown rule.Bor (child (Grown rule.Atom (token (name 0 1) end)) (token (sign_at 2 3) (child (Grown rule.Atom (token (name 4 5) end)) end)))) ≡ ast.Chain 1 (ast.Name 1 (codes "a")) (ast.link operator.Or (ast.Name 1 (codes "b")) ast.no_link)
  -- `^`
  pub bits_xor : expr (codes "a ^ b") (Grown rule.Bxor (child (Grown rule.Atom (token (name 0 1) end)) (token (sign_at 2 3) (child (Grown rule.Atom (token (name 4 5) end)) end)))) ≡ ast.Chain 1 (ast.Name 1 (codes "a")) (ast.link operator.Xor (ast.Name 1 (codes "b")) ast.no_link)
  -- `&`
  pub bits_and : expr (codes "a & b") (Grown rule.Band (child (Grown rule.Atom (token (name 0 1) end)) (token (sign_at 2 3) (child (Grown rule.Atom (token (name 4 5) end)) end)))) ≡ ast.Chain 1 (ast.Name 1 (codes "a")) (ast.link operator.And (ast.Name 1 (codes "b")) ast.no_link)
  -- `<<`
  pub shift_left : expr (codes "a << b") (Grown rule.Shift (child (Grown rule.Atom (token (name 0 1) end)) (token (sign_at 2 4) (child (Grown rule.Atom (token (name 5 6) end)) end)))) ≡ ast.Chain 1 (ast.Name 1 (codes "a")) (ast.link operator.ShiftLeft (ast.Name 1 (codes "b")) ast.no_link)
  -- `>>`
  pub shift_right : expr (codes "a >> b") (Grown rule.Shift (child (Grown rule.Atom (token (name 0 1) end)) (token (sign_at 2 4) (child (Grown rule.Atom (token (name 5 6) end)) end)))) ≡ ast.Chain 1 (ast.Name 1 (codes "a")) (ast.link operator.ShiftRight (ast.Name 1 (codes "b")) ast.no_link)
  -- `*`
  pub product : expr (codes "a * b") (Grown rule.Term (child (Grown rule.Atom (token (name 0 1) end)) (token (sign_at 2 3) (child (Grown rule.Atom (token (name 4 5) end)) end)))) ≡ ast.Chain 1 (ast.Name 1 (codes "a")) (ast.link operator.Mul (ast.Name 1 (codes "b")) ast.no_link)
  -- `//`
  pub floor : expr (codes "a // b") (Grown rule.Term (child (Grown rule.Atom (token (name 0 1) end)) (token (sign_at 2 4) (child (Grown rule.Atom (token (name 5 6) end)) end)))) ≡ ast.Chain 1 (ast.Name 1 (codes "a")) (ast.link operator.Floor (ast.Name 1 (codes "b")) ast.no_link)
  -- `%`
  pub remainder : expr (codes "a % b") (Grown rule.Term (child (Grown rule.Atom (token (name 0 1) end)) (token (sign_at 2 3) (child (Grown rule.Atom (token (name 4 5) end)) end)))) ≡ ast.Chain 1 (ast.Name 1 (codes "a")) (ast.link operator.Remainder (ast.Name 1 (codes "b")) ast.no_link)
  -- operators of one level, from the left
  pub sum_and_difference : expr (codes "a + b - c") (Grown rule.Sum (child (Grown rule.Atom (token (name 0 1) end)) (token (sign_at 2 3) (child (Grown rule.Atom (token (name 4 5) end)) (token (sign_at 6 7) (child (Grown rule.Atom (token (name 8 9) end)) end)))))) ≡ ast.Chain 1 (ast.Name 1 (codes "a")) (ast.link operator.Add (ast.Name 1 (codes "b")) (ast.link operator.Sub (ast.Name 1 (codes "c")) ast.no_link))
  -- signs before an operand
  pub prefixes : expr (codes "-+~a") (Grown rule.Unary (token (sign_at 0 1) (token (sign_at 1 2) (token (sign_at 2 3) (child (Grown rule.Atom (token (name 3 4) end)) end))))) ≡ ast.Prefixed (sign_on prefix.Minus ∷ sign_on prefix.Plus ∷ sign_on prefix.Tilde ∷ []) (ast.Name 1 (codes "a"))

-- Powers, and attributes, calls and subscripts.
pub record TrailersAreWorked : Type 0 where
  -- a power
  pub power : expr (codes "a ** b") (Grown rule.Power (child (Grown rule.Atom (token (name 0 1) end)) (token (sign_at 2 4) (child (Grown rule.Atom (token (name 5 6) end)) end)))) ≡ ast.Power 1 (ast.Name 1 (codes "a")) (ast.Name 1 (codes "b"))
  -- an attribute
  pub an_attribute : expr (codes "a.b") (Grown rule.Post (child (Grown rule.Atom (token (name 0 1) end)) (token (sign_at 1 2) (token (name 2 3) end)))) ≡ ast.Post 1 (ast.Name 1 (codes "a")) (ast.attribute (codes "b") ast.no_trailer)
  -- a call without arguments
  pub a_call : expr (codes "a()") (Grown rule.Post (child (Grown rule.Atom (token (name 0 1) end)) (token (sign_at 1 2) (token (sign_at 2 3) end)))) ≡ ast.Post 1 (ast.Name 1 (codes "a")) (ast.call ast.no_argument ast.no_trailer)
  -- a call of one argument
  pub placed_argument : expr (codes "a(b)") (Grown rule.Post (child (Grown rule.Atom (token (name 0 1) end)) (token (sign_at 1 2) (child (Grown rule.Atom (token (name 2 3) end)) (token (sign_at 3 4) end))))) ≡ ast.Post 1 (ast.Name 1 (codes "a")) (ast.call (ast.placed (ast.Name 1 (codes "b")) ast.no_argument) ast.no_trailer)
  -- a call of a list of arguments
  pub starred_argument : expr (codes "a(*b)") (Grown rule.Post (child (Grown rule.Atom (token (name 0 1) end)) (token (sign_at 1 2) (child (Grown rule.Arg (token (sign_at 2 3) (child (Grown rule.Atom (token (name 3 4) end)) end))) (token (sign_at 4 5) end))))) ≡ ast.Post 1 (ast.Name 1 (codes "a")) (ast.call (ast.starred (ast.Name 1 (codes "b")) ast.no_argument) ast.no_trailer)
  -- a call of arguments by place and by name
  pub keyed_arguments : expr (codes "a(b, c=d)") (Grown rule.Post (child (Grown rule.Atom (token (name 0 1) end)) (token (sign_at 1 2) (child (Grown rule.Args (child (Grown rule.Atom (token (name 2 3) end)) (token (sign_at 3 4) (child (Grown rule.Arg (token (name 5 6) (token (sign_at 6 7) (child (Grown rule.Atom (token (name 7 8) end)) end)))) end)))) (token (sign_at 8 9) end))))) ≡ ast.Post 1 (ast.Name 1 (codes "a")) (ast.call (ast.placed (ast.Name 1 (codes "b")) (ast.keyed (codes "c") (ast.Name 1 (codes "d")) ast.no_argument)) ast.no_trailer)
  -- a call of one argument with a comma
  pub one_comma : expr (codes "a(b,)") (Grown rule.Post (child (Grown rule.Atom (token (name 0 1) end)) (token (sign_at 1 2) (child (Grown rule.Args (child (Grown rule.Atom (token (name 2 3) end)) (token (sign_at 3 4) end))) (token (sign_at 4 5) end))))) ≡ ast.Post 1 (ast.Name 1 (codes "a")) (ast.call (ast.placed (ast.Name 1 (codes "b")) ast.no_argument) ast.no_trailer)
  -- a call of a tuple
  pub tuple_argument : expr (codes "a((b, c))") (Grown rule.Post (child (Grown rule.Atom (token (name 0 1) end)) (token (sign_at 1 2) (child (Grown rule.Atom (token (sign_at 2 3) (child (Grown rule.Values (child (Grown rule.Atom (token (name 3 4) end)) (token (sign_at 4 5) (child (Grown rule.Atom (token (name 6 7) end)) end)))) (token (sign_at 7 8) end)))) (token (sign_at 8 9) end))))) ≡ ast.Post 1 (ast.Name 1 (codes "a")) (ast.call (ast.placed (ast.Tuple 1 (ast.more (ast.Name 1 (codes "b")) (ast.more (ast.Name 1 (codes "c")) ast.none))) ast.no_argument) ast.no_trailer)
  -- a subscript
  pub an_item : expr (codes "a[b]") (Grown rule.Post (child (Grown rule.Atom (token (name 0 1) end)) (token (sign_at 1 2) (child (Grown rule.Atom (token (name 2 3) end)) (token (sign_at 3 4) end))))) ≡ ast.Post 1 (ast.Name 1 (codes "a")) (ast.item (ast.Name 1 (codes "b")) ast.no_trailer)
  -- a slice
  pub a_slice : expr (codes "a[b:c]") (Grown rule.Post (child (Grown rule.Atom (token (name 0 1) end)) (token (sign_at 1 2) (child (Grown rule.Sub (child (Grown rule.Atom (token (name 2 3) end)) (token (sign_at 3 4) (child (Grown rule.Atom (token (name 4 5) end)) end)))) (token (sign_at 5 6) end))))) ≡ ast.Post 1 (ast.Name 1 (codes "a")) (ast.slice (ast.more (ast.Name 1 (codes "b")) ast.none) (ast.more (ast.Name 1 (codes "c")) ast.none) ast.no_trailer)
  -- a slice from a bound on
  pub low_slice : expr (codes "a[b:]") (Grown rule.Post (child (Grown rule.Atom (token (name 0 1) end)) (token (sign_at 1 2) (child (Grown rule.Sub (child (Grown rule.Atom (token (name 2 3) end)) (token (sign_at 3 4) end))) (token (sign_at 4 5) end))))) ≡ ast.Post 1 (ast.Name 1 (codes "a")) (ast.slice (ast.more (ast.Name 1 (codes "b")) ast.none) ast.none ast.no_trailer)
  -- a slice up to a bound
  pub high_slice : expr (codes "a[:c]") (Grown rule.Post (child (Grown rule.Atom (token (name 0 1) end)) (token (sign_at 1 2) (child (Grown rule.Sub (token (sign_at 2 3) (child (Grown rule.Atom (token (name 3 4) end)) end))) (token (sign_at 4 5) end))))) ≡ ast.Post 1 (ast.Name 1 (codes "a")) (ast.slice ast.none (ast.more (ast.Name 1 (codes "c")) ast.none) ast.no_trailer)
  -- a slice without bounds
  pub whole_slice : expr (codes "a[:]") (Grown rule.Post (child (Grown rule.Atom (token (name 0 1) end)) (token (sign_at 1 2) (child (Grown rule.Sub (token (sign_at 2 3) end)) (token (sign_at 3 4) end))))) ≡ ast.Post 1 (ast.Name 1 (codes "a")) (ast.slice ast.none ast.none ast.no_trailer)
  -- trailers, from the left
  pub chained_trailers : expr (codes "a.b(c)[d]") (Grown rule.Post (child (Grown rule.Atom (token (name 0 1) end)) (token (sign_at 1 2) (token (name 2 3) (token (sign_at 3 4) (child (Grown rule.Atom (token (name 4 5) end)) (token (sign_at 5 6) (token (sign_at 6 7) (child (Grown rule.Atom (token (name 7 8) end)) (token (sign_at 8 9) end)))))))))) ≡ ast.Post 1 (ast.Name 1 (codes "a")) (ast.attribute (codes "b") (ast.call (ast.placed (ast.Name 1 (codes "c")) ast.no_argument) (ast.item (ast.Name 1 (codes "d")) ast.no_trailer)))

-- Statements and classes.
pub record StatementsAreWorked : Type 0 where
  -- `pass`
  pub a_pass : stmt (codes "pass") (Grown rule.Simple (token (keyword 0 4) (token (newline 4 4) end))) ≡ ast.Pass 1
  -- a value
  pub a_value : stmt (codes "a") (Grown rule.Simple (child (Grown rule.Atom (token (name 0 1) end)) (token (newline 1 1) end))) ≡ ast.Value 1 (ast.Name 1 (codes "a"))
  -- a name is bound
  pub a_binding : stmt (codes "a = b") (Grown rule.Simple (child (Grown rule.Place (token (name 0 1) end)) (token (sign_at 2 3) (child (Grown rule.Atom (token (name 4 5) end)) (token (newline 5 5) end))))) ≡ ast.Bind 1 (ast.Named (codes "a")) (ast.Name 1 (codes "b"))
  -- a value is added to an attribute
  pub an_addition : stmt (codes "a.b += c") (Grown rule.Simple (child (Grown rule.Place (child (Grown rule.Atom (token (name 0 1) end)) (token (sign_at 1 2) (token (name 2 3) end)))) (token (sign_at 4 6) (child (Grown rule.Atom (token (name 7 8) end)) (token (newline 8 8) end))))) ≡ ast.Add 1 (ast.Attribute (ast.Name 1 (codes "a")) (codes "b")) (ast.Name 1 (codes "c"))
  -- an `if` of three branches
  pub an_if : stmt (codes "if a: b elif c: d else: e") (Grown rule.If (token (keyword 0 2) (child (Grown rule.Atom (token (name 3 4) end)) (token (sign_at 4 5) (child (Grown rule.Simple (child (Grown rule.Atom (token (name 6 7) end)) (token (newline 7 7) end))) (token (keyword 8 12) (child (Grown rule.Atom (token (name 13 14) end)) (token (sign_at 14 15) (child (Grown rule.Simple (child (Grown rule.Atom (token (name 16 17) end)) (token (newline 17 17) end))) (token (keyword 18 22) (token (sign_at 22 23) (child (Grown rule.Simple (child (Grown rule.Atom (token (name 24 25) end)) (token (newline 25 25) end))) end)))))))))))) ≡ ast.If 1 (ast.branch (ast.Name 1 (codes "a")) (ast.then_ (ast.Value 1 (ast.Name 1 (codes "b"))) ast.done) (ast.branch (ast.Name 1 (codes "c")) (ast.then_ (ast.Value 1 (ast.Name 1 (codes "d"))) ast.done) ast.no_branch)) (ast.then_ (ast.Value 1 (ast.Name 1 (codes "e"))) ast.done)
  -- a `for` over a block of two lines
  pub a_for : stmt (codes "for a, b in c: d e") (Grown rule.For (token (keyword 0 3) (child (Grown rule.Names (token (name 4 5) (token (sign_at 5 6) (token (name 7 8) end)))) (token (keyword 9 11) (child (Grown rule.Atom (token (name 12 13) end)) (token (sign_at 13 14) (child (Grown rule.Suite (token (newline 14 14) (token (newline 14 14) (child (Grown rule.Simple (child (Grown rule.Atom (token (name 15 16) end)) (token (newline 16 16) end))) (child (Grown rule.Simple (child (Grown rule.Atom (token (name 17 18) end)) (token (newline 18 18) end))) (token (newline 18 18) end)))))) end))))))) ≡ ast.For 1 (codes "a" ∷ codes "b" ∷ []) (ast.Name 1 (codes "c")) (ast.then_ (ast.Value 1 (ast.Name 1 (codes "d"))) (ast.then_ (ast.Value 1 (ast.Name 1 (codes "e"))) ast.done))
  -- a class whose `__init__` has a default, behind an import
  pub a_class : classes (codes "import m class C(B, D): def __init__(self, x, y=z): pass") (Grown rule.File (child (Grown rule.Import (token (keyword 0 6) (child (Grown rule.Dotted (token (name 7 8) end)) (token (newline 8 8) end)))) (child (Grown rule.Class (token (keyword 9 14) (token (name 15 16) (token (sign_at 16 17) (token (name 17 18) (token (sign_at 18 19) (token (name 20 21) (token (sign_at 21 22) (token (sign_at 22 23) (token (newline 23 23) (token (newline 23 23) (child (Grown rule.Init (token (keyword 24 27) (token (name 28 36) (token (sign_at 36 37) (token (name 37 41) (token (sign_at 41 42) (token (name 43 44) (token (sign_at 44 45) (token (name 46 47) (token (sign_at 47 48) (child (Grown rule.Atom (token (name 48 49) end)) (token (sign_at 49 50) (token (sign_at 50 51) (child (Grown rule.Simple (token (keyword 52 56) (token (newline 56 56) end))) end)))))))))))))) (token (newline 56 56) end))))))))))))) (token (newline 56 56) end)))) ≡ record { line = 1; name = codes "C"; bases = record { line = 1; name = codes "B" } ∷ record { line = 1; name = codes "D" } ∷ []; init_line = 1; params = record { name = codes "x"; default = ast.none } ∷ record { name = codes "y"; default = (ast.more (ast.Name 1 (codes "z")) ast.none) } ∷ []; body = (ast.then_ (ast.Pass 1) ast.done) } ∷ []
