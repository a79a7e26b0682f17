-- Conditions that are added to a draft.
use Rattle.std.proofs.Common.{◌≡◌, ℕ, ◌*◌, ◌%◌, ◌^◌, ◌<◌, ◌≤◌, Bool, true, false, refl, sym, ap, subst, ◌∙◌, arith, nat_lt, [], ◌∷◌, length, length-append}
use Rattle.std.specs.Prelude.{ℤ, pos, Option, None, Some, cond}
use Rattle.lx_circuit.specs.declared.WidthFault.{WidthFault}
use Rattle.std.proofs.Math.Nat.{pow-le-pow_right}
use Rattle.std.proofs.lemmas.Bool.{lt-ltb, and_from}
use Rattle.std.proofs.lemmas.Nat.{one_shl}
use Rattle.lx_num.specs.declared.Shape.{Shape}
use Rattle.lx_tables.specs.declared.operators.Op.{Op}
use Rattle.lx_circuit.specs.Shapes.{Shapes, or_else, shape_of, fault_of, binary_fault}
use Rattle.lx_lowering.specs.Terms.{never}
use Rattle.lx_circuit.specs.Terms as tree
use Rattle.lx_circuit.specs.Terms.{Term}
use Rattle.lx_fhdl.specs.Below.{ExprId}
use Rattle.lx_fhdl.specs.Designs.{shapes, term}
use Rattle.lx_fhdl.specs.Drafts.{DraftKeeps}
use Rattle.lx_fhdl.specs.Nodes.{IsSmall}
use Rattle.lx_fhdl.specs.Trees.{node_term}
use Rattle.lx_fhdl.specs.declared.design.Design.{Design}
use Rattle.lx_fhdl.specs.declared.exprs.Expr.{Expr}
use Rattle.lx_fhdl.specs.declared.exprs.Expr.TheVariants.{Binary}
use Rattle.lx_plain.specs.Operands.{CanJoin, HasShape}
use Rattle.lx_plain.specs.Plain.{CanAdd, ExprAdded, IsBit, TermPut}
use Rattle.lx_plain.specs.Tests.{asked, compared, is_test}
use Rattle.lx_plain.specs.declared.operands.Test.{Test}
use Rattle.lx_plain.specs.declared.operands.Test.TheVariants.{Holds, Fails, Item, Last, Key, NoKey}
use Rattle.lx_plain.specs.declared.operands.Operand.{Operand}
use Rattle.lx_plain.proofs.Sound.{grows_then, put_is, same_shapes, shape_kept, small_shape, term_kept}
use Rattle.lx_num.specs.Ints.{shape, unsigned}
use Rattle.lx_circuit.specs.Shapes.{joined, too_wide}
use Rattle.lx_circuit.specs.Operands.{is_binary}
use Rattle.lx_tables.specs.declared.operators.Op.TheVariants as op
use Rattle.lx_fhdl.proofs.Operators.{narrow}

-- a node that was added, by its tree
pub term_put : (old new : Design) (x : Expr) (id : ℕ) → ExprAdded old new x id → TermPut old new id (node_term (term old) x)
term_put old new x id p = record {
  grows = p.grows;
  within = omega (arith, p.put.place, ap (λ (d : Design). length d.exprs) p.put.is, length-append old.exprs (x ∷ []));
  tree = p.put.tree;
}

pub binary_added : (d : Design) (o : Op) (left right : ExprId) → DraftKeeps d → CanJoin d o left right → CanAdd d (Binary o left right)
binary_added d o left right keep can = record {
  sound = record {
    below = search (and_from (nat_lt left.place (length d.exprs)) (nat_lt right.place (length d.exprs)) (lt-ltb left.place (length d.exprs) can.left_there) (lt-ltb right.place (length d.exprs) can.right_there));
    shaped =
        ap (λ o. or_else o (or_else (fault_of (shapes d) (term d right.place)) own)) (keep.arenas.shaped left.place can.left_there)
        ∙ ap (λ o. or_else o own) (keep.arenas.shaped right.place can.right_there)
        ∙ can.sound;
    operands = can.binary;
    parts = tt;
    named = tt;
    index = tt;
  };
  plain = refl;
}
  where
    own : Option WidthFault
    own = binary_fault o (shape_of (shapes d) (term d left.place)) (shape_of (shapes d) (term d right.place))

-- a number of 64 bits is less than 2 to 64 or more bits
pub below_far : (k b : ℕ) → k < 2 ^ 64 → 64 ≤ b → true ≡ nat_lt k (2 ^ b)
below_far k b h l = let two : 0 < 2 = omega arith in sym (lt-ltb k (2 ^ b) (omega (arith, pow-le-pow_right two l)))

pub below_near : (k b : ℕ) → b < 64 → nat_lt k ((1 * 2 ^ b) % 2 ^ 64) ≡ nat_lt k (2 ^ b)
below_near k b h = ap (nat_lt k) (one_shl b 64 h)

-- ---- tests

test_binary : (o : Op) → is_test o ≡ true → is_binary o ≡ true
test_binary op.Eq h = refl
test_binary op.Ne h = refl
test_binary op.Ge h = refl
test_binary _ h = absurd (cc)

same_bits : (n : ℕ) (b : Bool) → (joined (shape n b) (shape n b)).bits ≡ n
same_bits n true = omega arith
same_bits n false = omega arith

both_narrow : (a : Shape) → IsSmall a → or_else (too_wide (joined a a).bits) None ≡ None
both_narrow a h = ap (λ o. or_else o None) (narrow (joined a a).bits (omega (arith, same_bits a.bits a.signed, h.most)))

test_sound : (o : Op) (a : Shape) → IsSmall a → is_test o ≡ true → binary_fault o a a ≡ None
test_sound op.Eq a h t = both_narrow a h
test_sound op.Ne a h t = both_narrow a h
test_sound op.Ge a h t = both_narrow a h
test_sound _ a h t = absurd (cc)

pub can_test : (old mid : Design) (o : Op) (of : Operand) (number : ExprId) (z : ℤ) → DraftKeeps old → is_test o ≡ true → HasShape old of → TermPut old mid number.place (tree.Constant z of.shape) → CanJoin mid o of.id number
can_test old mid o of number z keep test h p =
    let s = shapes mid in
    record {
      binary = test_binary o test;
      left_there = omega (arith, h.there, p.grows.stays.exprs);
      right_there = p.within;
      sound =
          ap (λ a. binary_fault o a (shape_of s (term mid number.place))) (shape_kept p.grows h).shape
          ∙ ap (λ t. binary_fault o of.shape (shape_of s t)) p.tree
          ∙ test_sound o of.shape (small_shape old of keep h) test;
    }

-- an operator over an expression and a number that was added for it
pub number_put : (old mid new : Design) (o : Op) (of number : ExprId) (id : ℕ) (t : Term) → of.place < length old.exprs → TermPut old mid number.place t → TermPut mid new id (tree.Binary o (term mid of.place) (term mid number.place)) → TermPut old new id (tree.Binary o (term old of.place) t)
number_put old mid new o of number id t l p q = record {
  grows = grows_then p.grows q.grows;
  within = q.within;
  tree = q.tree ∙ ap (λ u. tree.Binary o u (term mid number.place)) (term_kept of.place p.grows l) ∙ ap (tree.Binary o (term old of.place)) p.tree;
}

-- ---- what a test asks

-- a comparison, or what never holds
abbrev compared_term : Term → Shape → Option (Op × ℤ) → Term
compared_term e a None = never
compared_term e a (Some c) = tree.Binary c.0 e (tree.Constant c.1 a)

abbrev are_tests : Option (Op × ℤ) → Bool
are_tests None = true
are_tests (Some c) = is_test c.0

all_tests : (n : ℕ) (t : Test) → are_tests (compared n t) ≡ true
all_tests n Holds = refl
all_tests n Fails = refl
all_tests n (Item k) = by_size (nat_lt k (2 ^ n))
  where
    by_size : (b : Bool) → are_tests (cond b (Some (op.Eq, pos k)) None) ≡ true
    by_size true = refl
    by_size false = refl
all_tests n (Last k) = by_size (nat_lt k (2 ^ n))
  where
    by_size : (b : Bool) → are_tests (cond b (Some (op.Ge, pos k)) None) ≡ true
    by_size true = refl
    by_size false = refl
all_tests n (Key key) = refl
all_tests n (NoKey key) = refl

pub compared_test : (n : ℕ) (t : Test) (o : Op) (z : ℤ) → compared n t ≡ Some (o, z) → is_test o ≡ true
compared_test n t o z e = sym (ap are_tests e) ∙ all_tests n t

asked_is : (s : Shapes) (e : Term) (t : Test) → compared_term e (shape_of s e) (compared (shape_of s e).bits t) ≡ asked s e t
asked_is s e Holds = refl
asked_is s e Fails = refl
asked_is s e (Item k) = by_size (nat_lt k (2 ^ (shape_of s e).bits))
  where
    by_size : (b : Bool) → compared_term e (shape_of s e) (cond b (Some (op.Eq, pos k)) None) ≡ cond b (tree.Binary op.Eq e (tree.Constant (pos k) (shape_of s e))) never
    by_size true = refl
    by_size false = refl
asked_is s e (Last k) = by_size (nat_lt k (2 ^ (shape_of s e).bits))
  where
    by_size : (b : Bool) → compared_term e (shape_of s e) (cond b (Some (op.Ge, pos k)) None) ≡ cond b (tree.Binary op.Ge e (tree.Constant (pos k) (shape_of s e))) never
    by_size true = refl
    by_size false = refl
asked_is s e (Key key) = refl
asked_is s e (NoKey key) = refl

asked_by : (d : Design) (of : Operand) (t : Test) (c : Option (Op × ℤ)) → HasShape d of → compared of.shape.bits t ≡ c → compared_term (term d of.id.place) of.shape c ≡ asked (shapes d) (term d of.id.place) t
asked_by d of t c h e =
    let own = term d of.id.place in
    ap (compared_term own of.shape) (sym e) ∙ subst (λ (a : Shape). compared_term own a (compared a.bits t) ≡ asked (shapes d) own t) h.shape (asked_is (shapes d) own t)

pub test_put : (old mid new : Design) (o : Op) (of : Operand) (number : ExprId) (id : ℕ) (z : ℤ) (t : Test) → HasShape old of → compared of.shape.bits t ≡ Some (o, z)
    → TermPut old mid number.place (tree.Constant z of.shape) → TermPut mid new id (tree.Binary o (term mid of.id.place) (term mid number.place)) → TermPut old new id (asked (shapes old) (term old of.id.place) t)
test_put old mid new o of number id z t h e p q =
    put_is old new id _ _ (number_put old mid new o of.id number id (tree.Constant z of.shape) h.there p q) (asked_by old of t (Some (o, z)) h e)

pub never_put : (old new : Design) (of : Operand) (id : ℕ) (t : Test) → HasShape old of → compared of.shape.bits t ≡ None → TermPut old new id never → TermPut old new id (asked (shapes old) (term old of.id.place) t)
never_put old new of id t h e p = put_is old new id _ _ p (asked_by old of t None h e)

-- what a test asks has one bit
asked_one : (s : Shapes) (e : Term) (t : Test) → shape_of s (asked s e t) ≡ unsigned 1
asked_one s e Holds = refl
asked_one s e Fails = refl
asked_one s e (Item k) = by_size (nat_lt k (2 ^ (shape_of s e).bits))
  where
    by_size : (b : Bool) → shape_of s (cond b (tree.Binary op.Eq e (tree.Constant (pos k) (shape_of s e))) never) ≡ unsigned 1
    by_size true = refl
    by_size false = refl
asked_one s e (Last k) = by_size (nat_lt k (2 ^ (shape_of s e).bits))
  where
    by_size : (b : Bool) → shape_of s (cond b (tree.Binary op.Ge e (tree.Constant (pos k) (shape_of s e))) never) ≡ unsigned 1
    by_size true = refl
    by_size false = refl
asked_one s e (Key key) = refl
asked_one s e (NoKey key) = refl

pub asked_bit : (old new : Design) (e : Term) (t : Test) (id : ℕ) → TermPut old new id (asked (shapes old) e t) → IsBit new id
asked_bit old new e t id p = record {
  there = p.within;
  bit = ap (λ (s : Shapes). shape_of s (term new id)) (same_shapes old new p.grows.signals) ∙ ap (shape_of (shapes old)) p.tree ∙ asked_one (shapes old) e t;
}

pub bits_join : (d : Design) (left right : ExprId) → IsBit d left.place → IsBit d right.place → CanJoin d op.And left right
bits_join d left right a b = record {
  binary = refl;
  left_there = a.there;
  right_there = b.there;
  sound = ap (λ x. binary_fault op.And x (shape_of (shapes d) (term d right.place))) a.bit ∙ ap (binary_fault op.And (unsigned 1)) b.bit;
}
