-- What reads as an expression or a statement is its text.
use Rattle.std.proofs.Common.{◌≡◌, ℕ, zero, suc, ◌+◌, true, false, List, [], ◌∷◌, ◌++◌, length, Option, Some, None, IsTrue, codes, refl, sym, ap, ◌∙◌, append_assoc}
use Rattle.std.proofs.lemmas.Slice.Eq.{bytes_eq-Decides}
use Rattle.lx_vtext.specs.declared.operators.BinOp.{BinOp}
use Rattle.lx_vtext.specs.declared.operators.UnOp.{UnOp}
use Rattle.lx_vtext.specs.declared.operators.UnOp.TheVariants as unary
use Rattle.lx_vtext.specs.Names.{is_digit, is_name_byte, is_name}
use Rattle.lx_vtext.specs.Tree.{Name, VExpr, Net, Literal, PartSelect, Word, Unary, Binary, Conditional, Concatenation, Replication, ToSigned, ToUnsigned, VExprs, VTarget, Whole, Part, WholeWord, PartWord, VStmt, Assign, When, NoElse, Else, VBlock}
use Rattle.lx_vtext.specs.Fits.{IsValue, IsExpr, AreExprs, IsTarget, IsStmt, IsBlock}
use Rattle.lx_vtext.specs.Printed.{number_text, base_text, literal_text, range_text, value_text, expr_text, more_text, unary_text, op_text, indent, target_text, sets_text, stmt_text, block_text}
use Rattle.lx_vtext.specs.Reading.{◌>>=◌, Reader, after, front, behind, name_at, number_value, number_at, range_at, sign_at, value_at, literal_at, word_of, named_at, unary_of, unary_at, ops, find_op, not_blank, op_at, choose_at, binary_at, joined_at, round_at, with_part, more_at, parts_at, count_at, repeat_at, curly_at, to_signed_at, to_unsigned_at, sign_form_at, start_of, Start, Letter, Digit, Round, Curly, Dollar, Other, leaf_at, form_at, nothing_at, expr_at, word_target_of, target_at, sets_at, assign_stmt_at, Blocks, else_at, end_at, when_at, stmt_at, with_stmt, stmts_at, block_at}
use Rattle.lx_vtext.proofs.Pieces.{after_is, front_behind}
use Rattle.lx_vtext.proofs.Gives.{Gives, gives_none, gives_some, and_then, if_given, if_true, if_true_or, weaken}

-- ---- leaves

pub after_takes : (w bytes : List ℕ) → Gives (after w bytes) (λ r. bytes ≡ w ++ r)
after_takes w bytes = record { gives = λ r e. after_is w bytes r e }

pub name_takes : (bytes : List ℕ) → Gives (name_at bytes) (λ y. IsTrue (is_name y.0) × (bytes ≡ y.0 ++ y.1))
unfolding name_at
name_takes bytes = if_true (λ e. gives_some (front is_name_byte bytes, behind is_name_byte bytes) (e, front_behind is_name_byte bytes))

pub number_takes : (bytes : List ℕ) → Gives (number_at bytes) (λ y. bytes ≡ number_text y.0 ++ y.1)
unfolding number_at
number_takes bytes =
    if_true (λ e. gives_some (number_value (front is_digit bytes), behind is_digit bytes) (front_behind is_digit bytes ∙ ap (λ x. x ++ behind is_digit bytes) (sym ((bytes_eq-Decides (number_text (number_value (front is_digit bytes))) (front is_digit bytes)).0 e))))

pub range_takes : (bytes : List ℕ) → Gives (range_at bytes) (λ y. codes "[" ++ bytes ≡ range_text y.0.0 y.0.1 ++ y.1)
unfolding range_at range_text
range_takes bytes =
    and_then (number_takes bytes) (λ hi a. and_then (after_takes (codes ":") hi.1) (λ r b. and_then (number_takes r) (λ lo c. and_then (after_takes (codes "]") lo.1) (λ s d.
    gives_some ((hi.0, lo.0), s) (rw (a, b, c, d) (simp append_assoc refl))))))

sign_takes : (bytes : List ℕ) → Gives (sign_at bytes) (λ y. bytes ≡ base_text y.0 ++ y.1)
unfolding sign_at
sign_takes bytes = if_given (after_takes (codes "'sd") bytes) (λ r e. gives_some (true, r) e) (and_then (after_takes (codes "'d") bytes) (λ r e. gives_some (false, r) e))

pub value_takes : (bytes : List ℕ) → Gives (value_at bytes) (λ y. IsValue y.0 × (bytes ≡ value_text y.0 ++ y.1))
unfolding value_at literal_text
value_takes bytes =
    and_then (number_takes bytes) (λ bits a. and_then (sign_takes bits.1) (λ sign b. and_then (number_takes sign.1) (λ value c. if_true (λ e.
    gives_some (record { bits = bits.0; signed = sign.0; value = value.0 }, value.1) (e, rw (a, b, c) (simp append_assoc refl))))))

-- ---- expressions

abbrev pub GoodExpr : ℕ → List ℕ → VExpr × List ℕ → Type 0
GoodExpr d bytes y = IsExpr d y.0 × (bytes ≡ expr_text y.0 ++ y.1)

abbrev pub Takes : Reader VExpr → ℕ → Type 0
Takes read d = (bytes : List ℕ) → Gives (read bytes) (GoodExpr d bytes)

literal_takes : (d : ℕ) (bytes : List ℕ) → Gives (literal_at bytes) (GoodExpr d bytes)
unfolding literal_at
literal_takes d bytes = and_then (value_takes bytes) (λ v h. gives_some (Literal v.0.bits v.0.signed v.0.value, v.1) (h.0, h.1))

word_takes : (read : Reader VExpr) (d : ℕ) (n : Name) (bytes whole : List ℕ) → Takes read d → IsTrue (is_name n) → whole ≡ n ++ (codes "[" ++ bytes) → Gives (word_of read n bytes) (GoodExpr (suc d) whole)
unfolding word_of
word_takes read d n bytes whole t h w =
    and_then (t bytes) (λ e g. and_then (after_takes (codes "]") e.1) (λ r a.
    gives_some (Word n e.0, r) ((h, g.0), rw (w, g.1, a) (simp append_assoc refl))))

named_takes : (read : Reader VExpr) (d : ℕ) (bytes : List ℕ) → Takes read d → Gives (named_at read bytes) (GoodExpr (suc d) bytes)
unfolding named_at
named_takes read d bytes t =
    and_then (name_takes bytes) (λ n h. if_given (after_takes (codes "[") n.1)
    (λ r a. if_given (range_takes r) (λ s b. gives_some (PartSelect n.0 s.0.0 s.0.1, s.1) (h.0, rw (h.1, a, b) (simp append_assoc refl))) (word_takes read d n.0 r bytes t h.0 (rw (h.1, a) refl)))
    (gives_some (Net n.0, n.1) h))

unary_op_takes : (bytes : List ℕ) → Gives (unary_of bytes) (λ y. bytes ≡ unary_text y.0 ++ y.1)
unfolding unary_of
unary_op_takes bytes = if_given (after_takes (codes "-") bytes) (λ r e. gives_some (unary.Negate, r) e) (and_then (after_takes (codes "~") bytes) (λ r e. gives_some (unary.Invert, r) e))

unary_takes : (read : Reader VExpr) (d : ℕ) (o : UnOp) (bytes whole : List ℕ) → Takes read d → whole ≡ codes "(" ++ (unary_text o ++ bytes) → Gives (unary_at read o bytes) (GoodExpr (suc d) whole)
unfolding unary_at
unary_takes read d o bytes whole t w =
    and_then (t bytes) (λ e g. and_then (after_takes (codes ")") e.1) (λ r a.
    gives_some (Unary o e.0, r) (g.0, rw (w, g.1, a) (simp append_assoc refl))))

found : (os : List BinOp) (word : List ℕ) → Gives (find_op os word) (λ o. op_text o ≡ word)
found [] word = gives_none
found (o ∷ os) word = if_true_or (λ e. gives_some o ((bytes_eq-Decides (op_text o) word).0 e)) (λ e. found os word)

op_takes : (bytes : List ℕ) → Gives (op_at bytes) (λ y. bytes ≡ op_text y.0 ++ y.1)
unfolding op_at
op_takes bytes = and_then (found ops (front not_blank bytes)) (λ o e. gives_some (o, behind not_blank bytes) (front_behind not_blank bytes ∙ ap (λ x. x ++ behind not_blank bytes) (sym e)))

choose_takes : (read : Reader VExpr) (d : ℕ) (x : VExpr) (bytes whole : List ℕ) → Takes read d → IsExpr d x → whole ≡ codes "(" ++ (expr_text x ++ (codes " ? " ++ bytes)) → Gives (choose_at read x bytes) (GoodExpr (suc d) whole)
unfolding choose_at
choose_takes read d x bytes whole t h w =
    and_then (t bytes) (λ a g. and_then (after_takes (codes " : ") a.1) (λ r c. and_then (t r) (λ b k. and_then (after_takes (codes ")") b.1) (λ s e.
    gives_some (Conditional x a.0 b.0, s) ((h, g.0, k.0), rw (w, g.1, c, k.1, e) (simp append_assoc refl))))))

binary_takes : (read : Reader VExpr) (d : ℕ) (x : VExpr) (bytes whole : List ℕ) → Takes read d → IsExpr d x → whole ≡ codes "(" ++ (expr_text x ++ bytes) → Gives (binary_at read x bytes) (GoodExpr (suc d) whole)
unfolding binary_at
binary_takes read d x bytes whole t h w =
    and_then (after_takes (codes " ") bytes) (λ p a. and_then (op_takes p) (λ o g. and_then (after_takes (codes " ") o.1) (λ q c. and_then (t q) (λ b k. and_then (after_takes (codes ")") b.1) (λ s e.
    gives_some (Binary x o.0 b.0, s) ((h, k.0), rw (w, a, g, c, k.1, e) (simp append_assoc refl)))))))

round_takes : (read : Reader VExpr) (d : ℕ) (bytes whole : List ℕ) → Takes read d → whole ≡ codes "(" ++ bytes → Gives (round_at read bytes) (GoodExpr (suc d) whole)
unfolding round_at joined_at
round_takes read d bytes whole t w =
    if_given (unary_op_takes bytes) (λ u g. unary_takes read d u.0 u.1 whole t (w ∙ ap (λ x. codes "(" ++ x) g))
    (and_then (t bytes) (λ x g. if_given (after_takes (codes " ? ") x.1)
    (λ r a. choose_takes read d x.0 r whole t g.0 (rw (w, g.1, a) refl))
    (binary_takes read d x.0 x.1 whole t g.0 (rw (w, g.1) refl))))

abbrev GoodParts : ℕ → List ℕ → VExprs × List ℕ → Type 0
GoodParts d bytes y = AreExprs d y.0 × (bytes ≡ more_text y.0 ++ y.1)

part_cases : (d : ℕ) (bytes : List ℕ) (o : Option (VExpr × List ℕ)) (more : List ℕ → VExprs × List ℕ) → Gives o (λ y. IsExpr d y.0 × (bytes ≡ codes ", " ++ (expr_text y.0 ++ y.1))) → ((rest : List ℕ) → GoodParts d rest (more rest)) → GoodParts d bytes (with_part bytes o more)
part_cases d bytes None more g f = (tt, refl)
part_cases d bytes (Some x) more g f =
    let h = g.gives x refl in
    let k = f x.1 in
    ((h.0, k.0), h.1 ∙ ap (λ y. codes ", " ++ (expr_text x.0 ++ y)) k.1 ∙ joined (expr_text x.0) (more_text (more x.1).0) (more x.1).1)
  where
    joined : (a b c : List ℕ) → codes ", " ++ (a ++ (b ++ c)) ≡ ((codes ", " ++ a) ++ b) ++ c
    joined a b c = simp append_assoc refl

more_takes : (read : Reader VExpr) (d n : ℕ) (bytes : List ℕ) → Takes read d → GoodParts d bytes (more_at read n bytes)
unfolding more_at
more_takes read d zero bytes t = (tt, refl)
more_takes read d (suc n) bytes t =
    part_cases d bytes (after (codes ", ") bytes >>= read) (λ rest. more_at read n rest)
    (and_then (after_takes (codes ", ") bytes) (λ r a. weaken (t r) (λ y g. (g.0, rw (a, g.1) refl)))) (λ rest. more_takes read d n rest t)

parts_takes : (read : Reader VExpr) (d : ℕ) (bytes whole : List ℕ) → Takes read d → whole ≡ codes "{" ++ bytes → Gives (parts_at read bytes) (GoodExpr (suc d) whole)
unfolding parts_at
parts_takes read d bytes whole t w =
    and_then (t bytes) (λ e g. let m = more_takes read d (length e.1) e.1 t in and_then (after_takes (codes "}") (more_at read (length e.1) e.1).1) (λ r a.
    gives_some (Concatenation e.0 (more_at read (length e.1) e.1).0, r) ((g.0, m.0), w ∙ ap (λ x. codes "{" ++ x) (g.1 ∙ ap (λ x. expr_text e.0 ++ x) (m.1 ∙ ap (λ x. more_text (more_at read (length e.1) e.1).0 ++ x) a)) ∙ joined (expr_text e.0) (more_text (more_at read (length e.1) e.1).0) r)))
  where
    joined : (a b c : List ℕ) → codes "{" ++ (a ++ (b ++ (codes "}" ++ c))) ≡ (((codes "{" ++ a) ++ b) ++ codes "}") ++ c
    joined a b c = simp append_assoc refl

count_takes : (bytes : List ℕ) → Gives (count_at bytes) (λ y. bytes ≡ number_text y.0 ++ (codes "{" ++ y.1))
unfolding count_at
count_takes bytes = and_then (number_takes bytes) (λ k a. and_then (after_takes (codes "{") k.1) (λ r b. gives_some (k.0, r) (rw (a, b) refl)))

-- inner reads within a bracket less
abbrev Inner : Reader VExpr → ℕ → Type 0
Inner inner zero = (bytes : List ℕ) → inner bytes ≡ None
Inner inner (suc d) = Takes inner d

repeat_takes : (inner : Reader VExpr) (d k : ℕ) (bytes whole : List ℕ) → Inner inner d → whole ≡ codes "{" ++ (number_text k ++ (codes "{" ++ bytes)) → Gives (repeat_at inner k bytes) (GoodExpr (suc d) whole)
unfolding repeat_at
repeat_takes inner zero k bytes whole t w = rw (t bytes) gives_none
repeat_takes inner (suc d) k bytes whole t w =
    and_then (t bytes) (λ e g. and_then (after_takes (codes "}}") e.1) (λ r a.
    gives_some (Replication k e.0, r) (g.0, rw (w, g.1, a) (simp append_assoc refl))))

curly_takes : (read inner : Reader VExpr) (d : ℕ) (bytes whole : List ℕ) → Takes read d → Inner inner d → whole ≡ codes "{" ++ bytes → Gives (curly_at read inner bytes) (GoodExpr (suc d) whole)
unfolding curly_at
curly_takes read inner d bytes whole t i w = if_given (count_takes bytes) (λ k g. repeat_takes inner d k.0 k.1 whole i (rw (w, g) refl)) (parts_takes read d bytes whole t w)

to_signed_takes : (read : Reader VExpr) (d : ℕ) (bytes whole : List ℕ) → Takes read d → whole ≡ codes "$signed(" ++ bytes → Gives (to_signed_at read bytes) (GoodExpr (suc d) whole)
unfolding to_signed_at
to_signed_takes read d bytes whole t w =
    and_then (t bytes) (λ e g. and_then (after_takes (codes ")") e.1) (λ r a.
    gives_some (ToSigned e.0, r) (g.0, rw (w, g.1, a) (simp append_assoc refl))))

to_unsigned_takes : (read : Reader VExpr) (d : ℕ) (bytes whole : List ℕ) → Takes read d → whole ≡ codes "$unsigned(" ++ bytes → Gives (to_unsigned_at read bytes) (GoodExpr (suc d) whole)
unfolding to_unsigned_at
to_unsigned_takes read d bytes whole t w =
    and_then (t bytes) (λ e g. and_then (after_takes (codes ")") e.1) (λ r a.
    gives_some (ToUnsigned e.0, r) (g.0, rw (w, g.1, a) (simp append_assoc refl))))

sign_form_takes : (read : Reader VExpr) (d : ℕ) (bytes : List ℕ) → Takes read d → Gives (sign_form_at read bytes) (GoodExpr (suc d) bytes)
unfolding sign_form_at
sign_form_takes read d bytes t =
    if_given (after_takes (codes "$signed(") bytes) (λ r a. to_signed_takes read d r bytes t a) (and_then (after_takes (codes "$unsigned(") bytes) (λ r a. to_unsigned_takes read d r bytes t a))

form_takes : (read inner : Reader VExpr) (d : ℕ) (s : Start) (bytes : List ℕ) → Takes read d → Inner inner d → Gives (form_at read inner s bytes) (GoodExpr (suc d) bytes)
unfolding form_at
form_takes read inner d Letter bytes t i = named_takes read d bytes t
form_takes read inner d Digit bytes t i = literal_takes (suc d) bytes
form_takes read inner d Round bytes t i = and_then (after_takes (codes "(") bytes) (λ r a. round_takes read d r bytes t a)
form_takes read inner d Curly bytes t i = and_then (after_takes (codes "{") bytes) (λ r a. curly_takes read inner d r bytes t i a)
form_takes read inner d Dollar bytes t i = sign_form_takes read d bytes t
form_takes read inner d Other bytes t i = gives_none

leaf_takes : (s : Start) (bytes : List ℕ) → Gives (leaf_at s bytes) (GoodExpr zero bytes)
unfolding leaf_at
leaf_takes Letter bytes = and_then (name_takes bytes) (λ n h. gives_some (Net n.0, n.1) h)
leaf_takes Digit bytes = literal_takes zero bytes
leaf_takes Round bytes = gives_none
leaf_takes Curly bytes = gives_none
leaf_takes Dollar bytes = gives_none
leaf_takes Other bytes = gives_none

-- What reads as an expression is its text.
pub expr_takes : (d : ℕ) → Takes (expr_at d) d
unfolding expr_at
expr_takes zero bytes = leaf_takes (start_of bytes) bytes
expr_takes (suc zero) bytes = form_takes (expr_at zero) nothing_at zero (start_of bytes) bytes (expr_takes zero) (λ b. refl)
expr_takes (suc (suc d)) bytes = form_takes (expr_at (suc d)) (expr_at d) (suc d) (start_of bytes) bytes (expr_takes (suc d)) (expr_takes d)

-- ---- statements

abbrev GoodTarget : List ℕ → VTarget × List ℕ → Type 0
GoodTarget bytes y = IsTarget y.0 × (bytes ≡ target_text y.0 ++ y.1)

word_target_takes : (n : Name) (bytes whole : List ℕ) → IsTrue (is_name n) → whole ≡ n ++ (codes "[" ++ bytes) → Gives (word_target_of n bytes) (GoodTarget whole)
unfolding word_target_of
word_target_takes n bytes whole h w =
    and_then (expr_takes 31 bytes) (λ e g. and_then (after_takes (codes "]") e.1) (λ r a. if_given (after_takes (codes "[") r)
    (λ b c. and_then (range_takes b) (λ s k. gives_some (PartWord n e.0 s.0.0 s.0.1, s.1) ((h, g.0), rw (w, g.1, a, c, k) (simp append_assoc refl))))
    (gives_some (WholeWord n e.0, r) ((h, g.0), rw (w, g.1, a) (simp append_assoc refl)))))

target_takes : (bytes : List ℕ) → Gives (target_at bytes) (GoodTarget bytes)
unfolding target_at
target_takes bytes =
    and_then (name_takes bytes) (λ n h. if_given (after_takes (codes "[") n.1)
    (λ r a. if_given (range_takes r) (λ s b. gives_some (Part n.0 s.0.0 s.0.1, s.1) (h.0, rw (h.1, a, b) (simp append_assoc refl))) (word_target_takes n.0 r bytes h.0 (rw (h.1, a) refl)))
    (gives_some (Whole n.0, n.1) h))

sets_takes : (bytes : List ℕ) → Gives (sets_at bytes) (λ y. bytes ≡ sets_text y.0 ++ y.1)
unfolding sets_at
sets_takes bytes = if_given (after_takes (codes " = ") bytes) (λ r e. gives_some (true, r) e) (and_then (after_takes (codes " <= ") bytes) (λ r e. gives_some (false, r) e))

abbrev GoodStmt : ℕ → ℕ → List ℕ → VStmt × List ℕ → Type 0
GoodStmt d k bytes y = IsStmt d y.0 × (bytes ≡ stmt_text k y.0 ++ y.1)

abbrev GoodBlock : ℕ → ℕ → List ℕ → VBlock × List ℕ → Type 0
GoodBlock d k bytes y = IsBlock d y.0 × (bytes ≡ block_text k y.0 ++ y.1)

abbrev BlockTakes : Blocks → ℕ → ℕ → Type 0
BlockTakes block d k = (bytes : List ℕ) → GoodBlock d k bytes (block bytes)

assign_takes : (d k : ℕ) (t : VTarget) (bytes whole : List ℕ) → IsTarget t → whole ≡ indent k ++ (target_text t ++ bytes) → Gives (assign_stmt_at t bytes) (GoodStmt d k whole)
unfolding assign_stmt_at
assign_takes d k t bytes whole h w =
    and_then (sets_takes bytes) (λ b a. and_then (expr_takes 32 b.1) (λ e g. and_then (after_takes (codes ";\n") e.1) (λ r c.
    gives_some (Assign t b.0 e.0, r) ((h, g.0), rw (w, a, g.1, c) (simp append_assoc refl)))))

when_text : (k : ℕ) (c : VExpr) (so : VBlock) (rest : List ℕ) → List ℕ
when_text k c so rest = indent k ++ (codes "if (" ++ (expr_text c ++ (codes ") begin\n" ++ (block_text (k + 1) so ++ rest))))

no_else_text : (k : ℕ) (c : VExpr) (so : VBlock) (rest : List ℕ) → when_text k c so (indent k ++ (codes "end\n" ++ rest)) ≡ stmt_text k (When c so NoElse) ++ rest
unfolding when_text
no_else_text k c so rest = simp append_assoc refl

else_when_text : (k : ℕ) (c : VExpr) (so other : VBlock) (rest : List ℕ) → when_text k c so (indent k ++ (codes "end else begin\n" ++ (block_text (k + 1) other ++ (indent k ++ (codes "end\n" ++ rest))))) ≡ stmt_text k (When c so (Else other)) ++ rest
unfolding when_text
else_when_text k c so other rest = simp append_assoc refl

else_takes : (block : Blocks) (d k : ℕ) (c : VExpr) (so : VBlock) (bytes whole : List ℕ) → BlockTakes block d (k + 1) → IsExpr 31 c → IsBlock d so → whole ≡ when_text k c so (indent k ++ (codes "end else begin\n" ++ bytes)) → Gives (else_at block k c so bytes) (GoodStmt d k whole)
unfolding else_at
else_takes block d k c so bytes whole t h g w =
    let other = t bytes in
    and_then (after_takes (indent k) (block bytes).1) (λ e a. and_then (after_takes (codes "end\n") e) (λ r b.
    gives_some (When c so (Else (block bytes).0), r) ((h, g, other.0), w ∙ ap (λ x. when_text k c so (indent k ++ (codes "end else begin\n" ++ x))) (other.1 ∙ ap (λ x. block_text (k + 1) (block bytes).0 ++ x) (a ∙ ap (λ x. indent k ++ x) b)) ∙ else_when_text k c so (block bytes).0 r)))

end_takes : (block : Blocks) (d k : ℕ) (c : VExpr) (so : VBlock) (bytes whole : List ℕ) → BlockTakes block d (k + 1) → IsExpr 31 c → IsBlock d so → whole ≡ when_text k c so bytes → Gives (end_at block k c so bytes) (GoodStmt d k whole)
unfolding end_at
end_takes block d k c so bytes whole t h g w =
    and_then (after_takes (indent k) bytes) (λ e a. if_given (after_takes (codes "end else begin\n") e)
    (λ r b. else_takes block d k c so r whole t h g (w ∙ ap (when_text k c so) (a ∙ ap (λ x. indent k ++ x) b)))
    (and_then (after_takes (codes "end\n") e) (λ r b. gives_some (When c so NoElse, r) ((h, g, tt), w ∙ ap (when_text k c so) (a ∙ ap (λ x. indent k ++ x) b) ∙ no_else_text k c so r))))

when_takes : (block : Blocks) (d k : ℕ) (bytes whole : List ℕ) → BlockTakes block d (k + 1) → whole ≡ indent k ++ bytes → Gives (when_at block k bytes) (GoodStmt d k whole)
unfolding when_at when_text
when_takes block d k bytes whole t w =
    and_then (after_takes (codes "if (") bytes) (λ b a. and_then (expr_takes 31 b) (λ c g. and_then (after_takes (codes ") begin\n") c.1) (λ r e.
    let so = t r in
    end_takes block d k c.0 (block r).0 (block r).1 whole t g.0 so.0 (rw (w, a, g.1, e) (ap (λ x. indent k ++ (codes "if (" ++ (expr_text c.0 ++ (codes ") begin\n" ++ x)))) so.1)))))

stmt_takes : (block : Blocks) (d k : ℕ) (bytes : List ℕ) → BlockTakes block d (k + 1) → Gives (stmt_at block k bytes) (GoodStmt d k bytes)
unfolding stmt_at
stmt_takes block d k bytes t =
    and_then (after_takes (indent k) bytes) (λ b a. if_given (target_takes b) (λ x g. assign_takes d k x.0 x.1 bytes g.0 (rw (a, g.1) refl)) (when_takes block d k b bytes t a))

stmt_cases : (d k : ℕ) (bytes : List ℕ) (o : Option (VStmt × List ℕ)) (more : Blocks) → Gives o (GoodStmt d k bytes) → ((rest : List ℕ) → GoodBlock (suc d) k rest (more rest)) → GoodBlock (suc d) k bytes (with_stmt bytes o more)
stmt_cases d k bytes None more g f = (tt, refl)
stmt_cases d k bytes (Some x) more g f =
    let h = g.gives x refl in
    let m = f x.1 in
    ((h.0, m.0), h.1 ∙ ap (λ y. stmt_text k x.0 ++ y) m.1 ∙ sym (append_assoc (stmt_text k x.0) (block_text k (more x.1).0) (more x.1).1))

stmts_takes : (read : Reader VStmt) (d k n : ℕ) (bytes : List ℕ) → ((b : List ℕ) → Gives (read b) (GoodStmt d k b)) → GoodBlock (suc d) k bytes (stmts_at read n bytes)
unfolding stmts_at
stmts_takes read d k zero bytes t = (tt, refl)
stmts_takes read d k (suc n) bytes t = stmt_cases d k bytes (read bytes) (λ rest. stmts_at read n rest) (t bytes) (λ rest. stmts_takes read d k n rest t)

-- What reads as a block is its text.
pub block_takes : (d k : ℕ) → BlockTakes (block_at d k) d k
unfolding block_at
block_takes zero k bytes = (tt, refl)
block_takes (suc d) k bytes = stmts_takes (stmt_at (block_at d (k + 1)) k) d k (length bytes) bytes (λ b. stmt_takes (block_at d (k + 1)) d k b (block_takes d (k + 1)))
