-- What an expression of Verilog means: its own size and sign, and its bits in a context
-- (IEEE 1364-2005, "Expressions": expression bit lengths, signed expressions).
use Rattle.std.specs.Prelude.{ℕ, ℤ, Bool, true, false, List, [], ◌∷◌, ◌+◌, ◌-◌, ◌*◌, ◌/◌, ◌%◌, ◌^◌, max, nat_le, nat_lt, nat_eq, not, ◌&&◌, if◌then◌else◌, bit_and, bit_or, bit_xor, int_lt}
use Rattle.std.proofs.Common.{zero, suc}
use Rattle.std.specs.Ordering.{int_eq}
use Rattle.lx_num.specs.Ints.{read_bits}
use Rattle.lx_vtext.specs.declared.operators.UnOp.{UnOp}
use Rattle.lx_vtext.specs.declared.operators.UnOp.TheVariants.{Negate, Invert}
use Rattle.lx_vtext.specs.declared.operators.BinOp.{BinOp}
use Rattle.lx_vtext.specs.declared.operators.BinOp.TheVariants as op
use Rattle.lx_vtext.specs.Tree.{Name, VExpr, VExprs, Net, Literal, PartSelect, Word, Unary, Binary, Conditional, Concatenation, Replication, ToSigned, ToUnsigned, NoMore, More}

-- how a name is declared: a net, or a memory of so many words of so many bits
pub record Declared : Type 0 where
  pub bits : ℕ
  pub signed : Bool
  pub depth : ℕ

abbrev pub Sizes : Type 0
Sizes = Name → Declared

-- the patterns of the nets, and the words of the memories
pub record Valuation : Type 0 where
  pub nets : Name → ℕ
  pub words : Name → ℕ → ℕ

-- own width, own sign, and the bits in a context of so many bits that is signed or not
pub record Meaning : Type 0 where
  pub width : ℕ
  pub signed : Bool
  pub bits : Valuation → ℕ → Bool → ℕ

-- a pattern of n bits in a context of w bits: filled with its top bit where the context is signed, else with zeros
abbrev pub extend : ℕ → ℕ → Bool → ℕ → ℕ
extend n w false p = p
extend n w true p = if nat_le (2 ^ (n - 1)) p then p + (2 ^ w - 2 ^ n) else p

-- the bits by itself, in its own size and sign
abbrev pub own : Meaning → Valuation → ℕ
own a v = a.bits v a.width a.signed

-- a pattern of its own size, which a context extends
abbrev pub leaf : ℕ → Bool → (Valuation → ℕ) → Meaning
leaf n s p = record { width = n; signed = s; bits = λ v w t. extend n w t (p v) }

-- operands in the context: the wider one's width, signed where both are
abbrev pub both : (ℕ → ℕ → ℕ → ℕ) → Meaning → Meaning → Meaning
both f a b = record { width = max a.width b.width; signed = a.signed && b.signed; bits = λ v w t. f w (a.bits v w t) (b.bits v w t) }

abbrev pub add_bits : ℕ → ℕ → ℕ → ℕ
add_bits w a b = (a + b) % 2 ^ w

abbrev pub sub_bits : ℕ → ℕ → ℕ → ℕ
sub_bits w a b = (a + (2 ^ w - b)) % 2 ^ w

abbrev pub mul_bits : ℕ → ℕ → ℕ → ℕ
mul_bits w a b = a * b % 2 ^ w

abbrev pub and_bits : ℕ → ℕ → ℕ → ℕ
and_bits w a b = bit_and a b

abbrev pub or_bits : ℕ → ℕ → ℕ → ℕ
or_bits w a b = bit_or a b

abbrev pub xor_bits : ℕ → ℕ → ℕ → ℕ
xor_bits w a b = bit_xor a b

abbrev pub negated : Meaning → Meaning
negated a = record { width = a.width; signed = a.signed; bits = λ v w t. (2 ^ w - a.bits v w t) % 2 ^ w }

abbrev pub inverted : Meaning → Meaning
inverted a = record { width = a.width; signed = a.signed; bits = λ v w t. 2 ^ w - 1 - a.bits v w t }

-- an amount is taken by itself, as unsigned
abbrev pub left_shift : Meaning → Meaning → Meaning
left_shift a b = record { width = a.width; signed = a.signed; bits = λ v w t. a.bits v w t * 2 ^ own b v % 2 ^ w }

abbrev pub right_shift : Meaning → Meaning → Meaning
right_shift a b = record { width = a.width; signed = a.signed; bits = λ v w t. a.bits v w t / 2 ^ own b v }

-- a pattern of w bits moved right by k, filled with its top bit
abbrev pub fill_shift : ℕ → ℕ → ℕ → ℕ
fill_shift w p k = if nat_le (2 ^ (w - 1)) p then p / 2 ^ k + (2 ^ w - 2 ^ (w - k)) else p / 2 ^ k

-- filled with the top bit where the context is signed
abbrev pub arithmetic_right : Meaning → Meaning → Meaning
arithmetic_right a b = record { width = a.width; signed = a.signed; bits = λ v w t. if t then fill_shift w (a.bits v w t) (own b v) else a.bits v w t / 2 ^ own b v }

abbrev pub truth : Bool → ℕ
truth b = if b then 1 else 0

-- operands in the greater of their widths, signed where both are
abbrev pub compare : (ℤ → ℤ → Bool) → Meaning → Meaning → Meaning
compare test a b =
    let w = max a.width b.width in
    let s = a.signed && b.signed in
    leaf 1 false (λ v. truth (test (read_bits w s (a.bits v w s)) (read_bits w s (b.bits v w s))))

abbrev pub less : ℤ → ℤ → Bool
less x y = int_lt x y

abbrev pub less_equal : ℤ → ℤ → Bool
less_equal x y = not (int_lt y x)

abbrev pub greater : ℤ → ℤ → Bool
greater x y = int_lt y x

abbrev pub greater_equal : ℤ → ℤ → Bool
greater_equal x y = not (int_lt x y)

abbrev pub equal : ℤ → ℤ → Bool
equal x y = int_eq x y

abbrev pub not_equal : ℤ → ℤ → Bool
not_equal x y = not (int_eq x y)

-- the condition is taken by itself
abbrev pub choose : Meaning → Meaning → Meaning → Meaning
choose c a b = record { width = max a.width b.width; signed = a.signed && b.signed; bits = λ v w t. if nat_eq (own c v) 0 then b.bits v w t else a.bits v w t }

abbrev pub width_sum : List Meaning → ℕ
width_sum [] = 0
width_sum (a ∷ as_) = a.width + width_sum as_

-- the last part in the lowest bits, each by itself
abbrev pub concat_bits : List Meaning → Valuation → ℕ
concat_bits [] v = 0
concat_bits (a ∷ as_) v = own a v * 2 ^ width_sum as_ + concat_bits as_ v

abbrev pub concat : List Meaning → Meaning
concat as_ = leaf (width_sum as_) false (λ v. concat_bits as_ v)

-- n copies of a pattern of so many bits
abbrev pub repeated : ℕ → ℕ → ℕ → ℕ
repeated zero bits p = 0
repeated (suc n) bits p = p + 2 ^ bits * repeated n bits p

abbrev pub repeat : ℕ → Meaning → Meaning
repeat k a = leaf (k * a.width) false (λ v. repeated k a.width (own a v))

abbrev pub as_signed : Meaning → Meaning
as_signed a = leaf a.width true (λ v. own a v)

abbrev pub as_unsigned : Meaning → Meaning
as_unsigned a = leaf a.width false (λ v. own a v)

-- a word of a memory, 0 past its end
abbrev pub read_word : ℕ → (ℕ → ℕ) → ℕ → ℕ
read_word depth words k = if nat_lt k depth then words k else 0

abbrev pub net : Declared → Name → Meaning
net d n = leaf d.bits d.signed (λ v. v.nets n)

abbrev pub literal : ℕ → Bool → ℕ → Meaning
literal bits signed value = leaf bits signed (λ v. value)

abbrev pub select : Name → ℕ → ℕ → Meaning
select n hi lo = leaf (hi - lo + 1) false (λ v. v.nets n / 2 ^ lo % 2 ^ (hi - lo + 1))

abbrev pub word : Declared → Name → Meaning → Meaning
word d n index = leaf d.bits false (λ v. read_word d.depth (v.words n) (own index v))

abbrev pub unary : UnOp → Meaning → Meaning
unary Negate a = negated a
unary Invert a = inverted a

abbrev pub binary : BinOp → Meaning → Meaning → Meaning
binary op.Add a b = both add_bits a b
binary op.Sub a b = both sub_bits a b
binary op.Mul a b = both mul_bits a b
binary op.And a b = both and_bits a b
binary op.Or a b = both or_bits a b
binary op.Xor a b = both xor_bits a b
binary op.ShiftLeft a b = left_shift a b
binary op.ArithmeticLeft a b = left_shift a b
binary op.ShiftRight a b = right_shift a b
binary op.ArithmeticRight a b = arithmetic_right a b
binary op.Less a b = compare less a b
binary op.LessEqual a b = compare less_equal a b
binary op.Equal a b = compare equal a b
binary op.NotEqual a b = compare not_equal a b
binary op.Greater a b = compare greater a b
binary op.GreaterEqual a b = compare greater_equal a b

-- What an expression means, where names are declared so.
abbrev mutual
  pub meaning : Sizes → VExpr → Meaning
  meaning d (Net n) = net (d n) n
  meaning d (Literal bits signed value) = literal bits signed value
  meaning d (PartSelect n hi lo) = select n hi lo
  meaning d (Word n index) = word (d n) n (meaning d index)
  meaning d (Unary o a) = unary o (meaning d a)
  meaning d (Binary a o b) = binary o (meaning d a) (meaning d b)
  meaning d (Conditional c a b) = choose (meaning d c) (meaning d a) (meaning d b)
  meaning d (Concatenation first more) = concat (meaning d first ∷ meanings d more)
  meaning d (Replication k a) = repeat k (meaning d a)
  meaning d (ToSigned a) = as_signed (meaning d a)
  meaning d (ToUnsigned a) = as_unsigned (meaning d a)

  pub meanings : Sizes → VExprs → List Meaning
  meanings d NoMore = []
  meanings d (More a as_) = meaning d a ∷ meanings d as_

-- a right side for a target of n bits: in the greater of both widths, with its own sign, cut to the target
abbrev pub cut_to : ℕ → Meaning → Valuation → ℕ
cut_to n a v = a.bits v (max n a.width) a.signed % 2 ^ n

abbrev pub assigned : Sizes → Valuation → ℕ → VExpr → ℕ
assigned d v n e = cut_to n (meaning d e) v

-- a condition, taken by itself
abbrev pub holds : Sizes → Valuation → VExpr → Bool
holds d v e = not (nat_eq (own (meaning d e) v) 0)
