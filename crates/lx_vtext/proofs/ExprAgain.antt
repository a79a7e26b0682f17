-- An expression is read again where it was printed.
use Rattle.std.proofs.Common.{◌≡◌, ℕ, zero, suc, ◌≤◌, Bool, true, List, ◌++◌, length, Some, None, IsTrue, codes, refl, append_assoc, arith, length-append}
use Rattle.lx_vtext.specs.declared.operators.BinOp.{BinOp}
use Rattle.lx_vtext.specs.declared.operators.BinOp.TheVariants as op
use Rattle.lx_vtext.specs.declared.operators.UnOp.{UnOp}
use Rattle.lx_vtext.specs.declared.operators.UnOp.TheVariants as unary
use Rattle.lx_vtext.specs.Names.{is_name}
use Rattle.lx_vtext.specs.Tree.{Name, VExpr, Net, Literal, PartSelect, Word, Unary, Binary, Conditional, Concatenation, Replication, ToSigned, ToUnsigned, VExprs, NoMore, More}
use Rattle.lx_vtext.specs.Fits.{is_literal, IsExpr, AreExprs}
use Rattle.lx_vtext.specs.Printed.{number_text, base_text, literal_text, range_text, expr_text, more_text, unary_text, op_text}
use Rattle.lx_vtext.specs.Reading.{Reader, after, word_of, named_at, count_at, unary_of, unary_at, op_at, choose_at, binary_at, joined_at, round_at, more_at, parts_at, repeat_at, curly_at, to_signed_at, to_unsigned_at, sign_form_at, start_of, Start, Letter, Digit, Round, Curly, Dollar, leaf_at, form_at, nothing_at, expr_at}
use Rattle.lx_vtext.proofs.Pieces.{closes, closes_name, closes_digit, closes_bracket, after_again, name_again, number_again, range_again, literal_again}
use Rattle.lx_vtext.proofs.Starts.{Plain, plain, name_start_of, number_start_of}

-- the reader reads this expression again, whatever follows that closes it
abbrev pub Reads : Reader VExpr → VExpr → Type 0
Reads read e = (rest : List ℕ) → closes rest ≡ true → read (expr_text e ++ rest) ≡ Some (e, rest)

abbrev pub ReadsAll : Reader VExpr → VExprs → Type 0
ReadsAll read NoMore = Unit {0}
ReadsAll read (More e es) = Reads read e × ReadsAll read es

net_again : (read inner : Reader VExpr) (n : Name) (rest : List ℕ) → IsTrue (is_name n) → closes rest ≡ true → form_at read inner Letter (n ++ rest) ≡ Some (Net n, rest)
unfolding form_at named_at
net_again read inner n rest h c = rw (name_again n rest h (closes_name rest c), closes_bracket rest c) refl

select_again : (read inner : Reader VExpr) (n : Name) (hi lo : ℕ) (rest : List ℕ) → IsTrue (is_name n) → form_at read inner Letter ((n ++ range_text hi lo) ++ rest) ≡ Some (PartSelect n hi lo, rest)
unfolding form_at named_at range_text
select_again read inner n hi lo rest h =
    let tail = number_text hi ++ (codes ":" ++ (number_text lo ++ (codes "]" ++ rest))) in
    simp append_assoc (rw (name_again n (codes "[" ++ tail) h refl, after_again (codes "[") tail, range_again hi lo rest) refl)

word_again : (read inner : Reader VExpr) (n : Name) (e : VExpr) (rest : List ℕ) → IsTrue (is_name n) → Reads read e → ((r : List ℕ) → Plain (expr_text e ++ r)) → form_at read inner Letter ((n ++ codes "[" ++ expr_text e ++ codes "]") ++ rest) ≡ Some (Word n e, rest)
unfolding form_at named_at word_of
word_again read inner n e rest h re p =
    let end = codes "]" ++ rest in
    let tail = expr_text e ++ end in
    simp append_assoc (rw (name_again n (codes "[" ++ tail) h refl, after_again (codes "[") tail, (p end).range, re end refl, after_again (codes "]") rest) refl)

unary_op_again : (o : UnOp) (rest : List ℕ) → unary_of (unary_text o ++ rest) ≡ Some (o, rest)
unfolding unary_of after
unary_op_again unary.Negate rest = refl
unary_op_again unary.Invert rest = refl

unary_again : (read inner : Reader VExpr) (o : UnOp) (e : VExpr) (rest : List ℕ) → Reads read e → form_at read inner Round ((codes "(" ++ unary_text o ++ expr_text e ++ codes ")") ++ rest) ≡ Some (Unary o e, rest)
unfolding form_at round_at unary_at
unary_again read inner o e rest re =
    let end = codes ")" ++ rest in
    let tail = expr_text e ++ end in
    simp append_assoc (rw (after_again (codes "(") (unary_text o ++ tail), unary_op_again o tail, re end refl, after_again (codes ")") rest) refl)

op_steps : (o : BinOp) (rest : List ℕ) → (after (codes " ? ") (codes " " ++ (op_text o ++ (codes " " ++ rest))) ≡ None) × (op_at (op_text o ++ (codes " " ++ rest)) ≡ Some (o, codes " " ++ rest))
unfolding after op_at
op_steps op.Add rest = (refl, refl)
op_steps op.Sub rest = (refl, refl)
op_steps op.Mul rest = (refl, refl)
op_steps op.ShiftLeft rest = (refl, refl)
op_steps op.ArithmeticLeft rest = (refl, refl)
op_steps op.ShiftRight rest = (refl, refl)
op_steps op.ArithmeticRight rest = (refl, refl)
op_steps op.And rest = (refl, refl)
op_steps op.Or rest = (refl, refl)
op_steps op.Xor rest = (refl, refl)
op_steps op.Less rest = (refl, refl)
op_steps op.LessEqual rest = (refl, refl)
op_steps op.Equal rest = (refl, refl)
op_steps op.NotEqual rest = (refl, refl)
op_steps op.Greater rest = (refl, refl)
op_steps op.GreaterEqual rest = (refl, refl)

binary_again : (read inner : Reader VExpr) (a : VExpr) (o : BinOp) (b : VExpr) (rest : List ℕ) → Reads read a → Reads read b → ((r : List ℕ) → Plain (expr_text a ++ r)) → form_at read inner Round ((codes "(" ++ expr_text a ++ codes " " ++ op_text o ++ codes " " ++ expr_text b ++ codes ")") ++ rest) ≡ Some (Binary a o b, rest)
unfolding form_at round_at joined_at binary_at
binary_again read inner a o b rest ra rb p =
    let end = codes ")" ++ rest in
    let second = expr_text b ++ end in
    let joint = codes " " ++ (op_text o ++ (codes " " ++ second)) in
    simp append_assoc (rw (after_again (codes "(") (expr_text a ++ joint), (p joint).unary, ra joint refl, (op_steps o second).0, after_again (codes " ") (op_text o ++ (codes " " ++ second)), (op_steps o second).1, after_again (codes " ") second, rb end refl, after_again (codes ")") rest) refl)

choose_again : (read inner : Reader VExpr) (c a b : VExpr) (rest : List ℕ) → Reads read c → Reads read a → Reads read b → ((r : List ℕ) → Plain (expr_text c ++ r)) → form_at read inner Round ((codes "(" ++ expr_text c ++ codes " ? " ++ expr_text a ++ codes " : " ++ expr_text b ++ codes ")") ++ rest) ≡ Some (Conditional c a b, rest)
unfolding form_at round_at joined_at choose_at
choose_again read inner c a b rest rc ra rb p =
    let end = codes ")" ++ rest in
    let third = expr_text b ++ end in
    let colon = codes " : " ++ third in
    let second = expr_text a ++ colon in
    let joint = codes " ? " ++ second in
    simp append_assoc (rw (after_again (codes "(") (expr_text c ++ joint), (p joint).unary, rc joint refl, after_again (codes " ? ") second, ra colon refl, after_again (codes " : ") third, rb end refl, after_again (codes ")") rest) refl)

no_next : (rest : List ℕ) → after (codes ", ") (codes "}" ++ rest) ≡ None
unfolding after
no_next rest = refl

more_closes : (es : VExprs) (rest : List ℕ) → closes (more_text es ++ (codes "}" ++ rest)) ≡ true
more_closes NoMore rest = refl
more_closes (More e es) rest = refl

more_again : (read : Reader VExpr) (n : ℕ) (es : VExprs) (rest : List ℕ) → ReadsAll read es → length (more_text es) ≤ n → more_at read n (more_text es ++ (codes "}" ++ rest)) ≡ (es, codes "}" ++ rest)
unfolding more_at
more_again read zero NoMore rest h le = refl
more_again read (suc n) NoMore rest h le = rw (no_next rest) refl
more_again read zero (More e es) rest h le = absurd (omega (arith, length-append (codes ", " ++ expr_text e) (more_text es), length-append (codes ", ") (expr_text e)))
more_again read (suc n) (More e es) rest h le =
    let next = more_text es ++ (codes "}" ++ rest) in
    let short : length (more_text es) ≤ n = omega (arith, length-append (codes ", " ++ expr_text e) (more_text es), length-append (codes ", ") (expr_text e)) in
    simp append_assoc (rw (after_again (codes ", ") (expr_text e ++ next), h.0 next (more_closes es rest), more_again read n es rest h.1 short) refl)

concat_again : (read inner : Reader VExpr) (e : VExpr) (es : VExprs) (rest : List ℕ) → Reads read e → ReadsAll read es → ((r : List ℕ) → Plain (expr_text e ++ r)) → form_at read inner Curly ((codes "{" ++ expr_text e ++ more_text es ++ codes "}") ++ rest) ≡ Some (Concatenation e es, rest)
unfolding form_at curly_at parts_at
concat_again read inner e es rest re res p =
    let end = codes "}" ++ rest in
    let joint = more_text es ++ end in
    simp append_assoc (rw (after_again (codes "{") (expr_text e ++ joint), (p joint).count, re joint (more_closes es rest), more_again read (length joint) es rest res (omega (arith, length-append (more_text es) end)), after_again (codes "}") rest) refl)

count_again : (k : ℕ) (rest : List ℕ) → count_at (number_text k ++ (codes "{" ++ rest)) ≡ Some (k, rest)
unfolding count_at
count_again k rest = rw (number_again k (codes "{" ++ rest) refl, after_again (codes "{") rest) refl

repeat_again : (read inner : Reader VExpr) (k : ℕ) (e : VExpr) (rest : List ℕ) → Reads inner e → form_at read inner Curly ((codes "{" ++ number_text k ++ codes "{" ++ expr_text e ++ codes "}}") ++ rest) ≡ Some (Replication k e, rest)
unfolding form_at curly_at repeat_at
repeat_again read inner k e rest re =
    let end = codes "}}" ++ rest in
    let tail = expr_text e ++ end in
    simp append_assoc (rw (after_again (codes "{") (number_text k ++ (codes "{" ++ tail)), count_again k tail, re end refl, after_again (codes "}}") rest) refl)

signed_again : (read inner : Reader VExpr) (e : VExpr) (rest : List ℕ) → Reads read e → form_at read inner Dollar ((codes "$signed(" ++ expr_text e ++ codes ")") ++ rest) ≡ Some (ToSigned e, rest)
unfolding form_at sign_form_at to_signed_at
signed_again read inner e rest re =
    let end = codes ")" ++ rest in
    simp append_assoc (rw (after_again (codes "$signed(") (expr_text e ++ end), re end refl, after_again (codes ")") rest) refl)

not_signed : (rest : List ℕ) → after (codes "$signed(") (codes "$unsigned(" ++ rest) ≡ None
unfolding after
not_signed rest = refl

unsigned_again : (read inner : Reader VExpr) (e : VExpr) (rest : List ℕ) → Reads read e → form_at read inner Dollar ((codes "$unsigned(" ++ expr_text e ++ codes ")") ++ rest) ≡ Some (ToUnsigned e, rest)
unfolding form_at sign_form_at to_unsigned_at
unsigned_again read inner e rest re =
    let end = codes ")" ++ rest in
    simp append_assoc (rw (not_signed (expr_text e ++ end), after_again (codes "$unsigned(") (expr_text e ++ end), re end refl, after_again (codes ")") rest) refl)

-- ---- all levels

abbrev pub inner : ℕ → Reader VExpr
inner zero = nothing_at
inner (suc d) = expr_at d

pub level : (d : ℕ) (bytes : List ℕ) → expr_at (suc d) bytes ≡ form_at (expr_at d) (inner d) (start_of bytes) bytes
unfolding expr_at
level zero bytes = refl
level (suc d) bytes = refl

-- an expression that begins so is read by its form
by_form : (d : ℕ) (s : Start) (bytes : List ℕ) (e : VExpr) (rest : List ℕ) → start_of bytes ≡ s → form_at (expr_at d) (inner d) s bytes ≡ Some (e, rest) → expr_at (suc d) bytes ≡ Some (e, rest)
by_form d s bytes e rest is reads = rw (level d bytes, is) reads

net_leaf : (n : Name) (rest : List ℕ) → IsTrue (is_name n) → closes rest ≡ true → expr_at zero (n ++ rest) ≡ Some (Net n, rest)
unfolding expr_at leaf_at
net_leaf n rest h c = rw (name_start_of n rest h, name_again n rest h (closes_name rest c)) refl

literal_start : (bits : ℕ) (signed : Bool) (value : ℕ) (rest : List ℕ) → start_of (literal_text bits signed value ++ rest) ≡ Digit
unfolding literal_text
literal_start bits signed value rest = simp append_assoc (number_start_of bits (base_text signed ++ (number_text value ++ rest)))

literal_leaf : (bits : ℕ) (signed : Bool) (value : ℕ) (rest : List ℕ) → IsTrue (is_literal bits value) → closes rest ≡ true → expr_at zero (literal_text bits signed value ++ rest) ≡ Some (Literal bits signed value, rest)
unfolding expr_at leaf_at
literal_leaf bits signed value rest h c = rw (literal_start bits signed value rest, literal_again bits signed value rest h (closes_digit rest c)) refl

literal_form : (read inside : Reader VExpr) (bits : ℕ) (signed : Bool) (value : ℕ) (rest : List ℕ) → IsTrue (is_literal bits value) → closes rest ≡ true → form_at read inside Digit (literal_text bits signed value ++ rest) ≡ Some (Literal bits signed value, rest)
unfolding form_at
literal_form read inside bits signed value rest h c = literal_again bits signed value rest h (closes_digit rest c)

start_after : (n x rest : List ℕ) → IsTrue (is_name n) → start_of ((n ++ x) ++ rest) ≡ Letter
start_after n x rest h = rw append_assoc (name_start_of n (x ++ rest) h)

word_start : (n : Name) (x rest : List ℕ) → IsTrue (is_name n) → start_of ((n ++ codes "[" ++ x ++ codes "]") ++ rest) ≡ Letter
word_start n x rest h = simp append_assoc (name_start_of n (codes "[" ++ (x ++ (codes "]" ++ rest))) h)

mutual
  -- An expression is read again, whatever closes it.
  pub expr_again : (d : ℕ) (e : VExpr) (rest : List ℕ) → IsExpr d e → closes rest ≡ true → expr_at d (expr_text e ++ rest) ≡ Some (e, rest)
  expr_again zero (Net n) rest h c = net_leaf n rest h c
  expr_again (suc d) (Net n) rest h c = by_form d Letter _ _ rest (name_start_of n rest h) (net_again (expr_at d) (inner d) n rest h c)
  expr_again zero (Literal bits signed value) rest h c = literal_leaf bits signed value rest h c
  expr_again (suc d) (Literal bits signed value) rest h c = by_form d Digit _ _ rest (literal_start bits signed value rest) (literal_form (expr_at d) (inner d) bits signed value rest h c)
  expr_again zero (PartSelect n hi lo) rest h c = absurd h
  expr_again (suc d) (PartSelect n hi lo) rest h c = by_form d Letter _ _ rest (start_after n (range_text hi lo) rest h) (select_again (expr_at d) (inner d) n hi lo rest h)
  expr_again zero (Word n e) rest h c = absurd h
  expr_again (suc d) (Word n e) rest h c = by_form d Letter _ _ rest (word_start n (expr_text e) rest h.0) (word_again (expr_at d) (inner d) n e rest h.0 (λ r k. expr_again d e r h.1 k) (λ r. plain d e r h.1))
  expr_again zero (Unary o e) rest h c = absurd h
  expr_again (suc d) (Unary o e) rest h c = by_form d Round _ _ rest refl (unary_again (expr_at d) (inner d) o e rest (λ r k. expr_again d e r h k))
  expr_again zero (Binary a o b) rest h c = absurd h
  expr_again (suc d) (Binary a o b) rest h c = by_form d Round _ _ rest refl (binary_again (expr_at d) (inner d) a o b rest (λ r k. expr_again d a r h.0 k) (λ r k. expr_again d b r h.1 k) (λ r. plain d a r h.0))
  expr_again zero (Conditional q a b) rest h c = absurd h
  expr_again (suc d) (Conditional q a b) rest h c = by_form d Round _ _ rest refl (choose_again (expr_at d) (inner d) q a b rest (λ r k. expr_again d q r h.0 k) (λ r k. expr_again d a r h.1 k) (λ r k. expr_again d b r h.2 k) (λ r. plain d q r h.0))
  expr_again zero (Concatenation e es) rest h c = absurd h
  expr_again (suc d) (Concatenation e es) rest h c = by_form d Curly _ _ rest refl (concat_again (expr_at d) (inner d) e es rest (λ r k. expr_again d e r h.0 k) (exprs_again d es h.1) (λ r. plain d e r h.0))
  expr_again zero (Replication k e) rest h c = absurd h
  expr_again (suc zero) (Replication k e) rest h c = absurd h
  expr_again (suc (suc d)) (Replication k e) rest h c = by_form (suc d) Curly _ _ rest refl (repeat_again (expr_at (suc d)) (expr_at d) k e rest (λ r q. expr_again d e r h q))
  expr_again zero (ToSigned e) rest h c = absurd h
  expr_again (suc d) (ToSigned e) rest h c = by_form d Dollar _ _ rest refl (signed_again (expr_at d) (inner d) e rest (λ r k. expr_again d e r h k))
  expr_again zero (ToUnsigned e) rest h c = absurd h
  expr_again (suc d) (ToUnsigned e) rest h c = by_form d Dollar _ _ rest refl (unsigned_again (expr_at d) (inner d) e rest (λ r k. expr_again d e r h k))

  pub exprs_again : (d : ℕ) (es : VExprs) → AreExprs d es → ReadsAll (expr_at d) es
  exprs_again d NoMore h = tt
  exprs_again d (More e es) h = ((λ r k. expr_again d e r h.0 k), exprs_again d es h.1)
