-- A statement is read again where it was printed.
use Rattle.std.proofs.Common.{◌≡◌, ℕ, zero, suc, ◌+◌, ◌≤◌, Bool, true, false, List, ◌++◌, length, Some, None, IsTrue, codes, refl, append_assoc, arith, length-append, add-one}
use Rattle.lx_vtext.specs.Names.{is_name}
use Rattle.lx_tables.specs.VerilogWords.{verilog_words}
use Rattle.lx_vtext.specs.Tree.{Name, VExpr, VTarget, Whole, Part, WholeWord, PartWord, VStmt, Assign, When, NoElse, Else, VBlock, EndBlock, InBlock}
use Rattle.lx_vtext.specs.Fits.{IsExpr, IsTarget, IsStmt, IsBlock}
use Rattle.lx_vtext.specs.Printed.{number_text, range_text, expr_text, indent, target_text, sets_text, stmt_text, else_text, block_text}
use Rattle.lx_vtext.specs.Reading.{Reader, after, name_at, word_target_of, target_at, sets_at, assign_stmt_at, Blocks, else_at, end_at, when_at, stmt_at, stmts_at, block_at}
use Rattle.lx_vtext.proofs.Pieces.{closes, closes_name, closes_bracket, after_again, name_again, range_again}
use Rattle.lx_vtext.proofs.Starts.{plain}
use Rattle.lx_vtext.proofs.ExprAgain.{expr_again}

whole_again : (n : Name) (rest : List ℕ) → IsTrue (is_name n) → closes rest ≡ true → target_at (n ++ rest) ≡ Some (Whole n, rest)
unfolding target_at
whole_again n rest h c = rw (name_again n rest h (closes_name rest c), closes_bracket rest c) refl

part_again : (n : Name) (hi lo : ℕ) (rest : List ℕ) → IsTrue (is_name n) → target_at ((n ++ range_text hi lo) ++ rest) ≡ Some (Part n hi lo, rest)
unfolding target_at range_text
part_again n hi lo rest h =
    let tail = number_text hi ++ (codes ":" ++ (number_text lo ++ (codes "]" ++ rest))) in
    simp append_assoc (rw (name_again n (codes "[" ++ tail) h refl, after_again (codes "[") tail, range_again hi lo rest) refl)

whole_word_again : (n : Name) (e : VExpr) (rest : List ℕ) → IsTrue (is_name n) → IsExpr 31 e → closes rest ≡ true → target_at ((n ++ codes "[" ++ expr_text e ++ codes "]") ++ rest) ≡ Some (WholeWord n e, rest)
unfolding target_at word_target_of
whole_word_again n e rest h k c =
    let end = codes "]" ++ rest in
    let tail = expr_text e ++ end in
    simp append_assoc (rw (name_again n (codes "[" ++ tail) h refl, after_again (codes "[") tail, (plain 31 e end k).range, expr_again 31 e end k refl, after_again (codes "]") rest, closes_bracket rest c) refl)

part_word_again : (n : Name) (e : VExpr) (hi lo : ℕ) (rest : List ℕ) → IsTrue (is_name n) → IsExpr 31 e → target_at ((n ++ codes "[" ++ expr_text e ++ codes "]" ++ range_text hi lo) ++ rest) ≡ Some (PartWord n e hi lo, rest)
unfolding target_at word_target_of range_text
part_word_again n e hi lo rest h k =
    let range = number_text hi ++ (codes ":" ++ (number_text lo ++ (codes "]" ++ rest))) in
    let end = codes "]" ++ (codes "[" ++ range) in
    let tail = expr_text e ++ end in
    simp append_assoc (rw (name_again n (codes "[" ++ tail) h refl, after_again (codes "[") tail, (plain 31 e end k).range, expr_again 31 e end k refl, after_again (codes "]") (codes "[" ++ range), after_again (codes "[") range, range_again hi lo rest) refl)

pub target_again : (t : VTarget) (rest : List ℕ) → IsTarget t → closes rest ≡ true → target_at (target_text t ++ rest) ≡ Some (t, rest)
target_again (Whole n) rest h c = whole_again n rest h c
target_again (Part n hi lo) rest h c = part_again n hi lo rest h
target_again (WholeWord n e) rest h c = whole_word_again n e rest h.0 h.1 c
target_again (PartWord n e hi lo) rest h c = part_word_again n e hi lo rest h.0 h.1

sets_again : (b : Bool) (rest : List ℕ) → sets_at (sets_text b ++ rest) ≡ Some (b, rest)
unfolding sets_at after
sets_again true rest = refl
sets_again false rest = refl

sets_closes : (b : Bool) (rest : List ℕ) → closes (sets_text b ++ rest) ≡ true
sets_closes true rest = refl
sets_closes false rest = refl

assign_again : (block : Blocks) (k : ℕ) (t : VTarget) (b : Bool) (e : VExpr) (rest : List ℕ) → IsTarget t → IsExpr 32 e → stmt_at block k ((indent k ++ target_text t ++ sets_text b ++ expr_text e ++ codes ";\n") ++ rest) ≡ Some (Assign t b e, rest)
unfolding stmt_at assign_stmt_at
assign_again block k t b e rest h g =
    let end = codes ";\n" ++ rest in
    let value = expr_text e ++ end in
    let sets = sets_text b ++ value in
    simp append_assoc (rw (after_again (indent k) (target_text t ++ sets), target_again t sets h (sets_closes b value), sets_again b value, expr_again 32 e end g refl, after_again (codes ";\n") rest) refl)

no_target : (rest : List ℕ) → target_at (codes "if (" ++ rest) ≡ None
unfolding target_at name_at is_name verilog_words
no_target rest = refl

no_else : (rest : List ℕ) → after (codes "end else begin\n") (codes "end\n" ++ rest) ≡ None
unfolding after
no_else rest = refl

when_again : (block : Blocks) (k : ℕ) (c : VExpr) (so : VBlock) (rest : List ℕ) → IsExpr 31 c → ((r : List ℕ) → block (block_text (k + 1) so ++ (indent k ++ (codes "end" ++ r))) ≡ (so, indent k ++ (codes "end" ++ r))) → stmt_at block k (stmt_text k (When c so NoElse) ++ rest) ≡ Some (When c so NoElse, rest)
unfolding stmt_at when_at end_at
when_again block k c so rest h f =
    let last = codes "end\n" ++ rest in
    let end = indent k ++ last in
    let body = block_text (k + 1) so ++ end in
    let begin = codes ") begin\n" ++ body in
    simp append_assoc (rw (after_again (indent k) (codes "if (" ++ (expr_text c ++ begin)), no_target (expr_text c ++ begin), after_again (codes "if (") (expr_text c ++ begin), expr_again 31 c begin h refl, after_again (codes ") begin\n") body, f (codes "\n" ++ rest), after_again (indent k) last, no_else rest, after_again (codes "end\n") rest) refl)

else_again : (block : Blocks) (k : ℕ) (c : VExpr) (so other : VBlock) (rest : List ℕ) → IsExpr 31 c → ((r : List ℕ) → block (block_text (k + 1) so ++ (indent k ++ (codes "end" ++ r))) ≡ (so, indent k ++ (codes "end" ++ r))) → ((r : List ℕ) → block (block_text (k + 1) other ++ (indent k ++ (codes "end" ++ r))) ≡ (other, indent k ++ (codes "end" ++ r))) → stmt_at block k (stmt_text k (When c so (Else other)) ++ rest) ≡ Some (When c so (Else other), rest)
unfolding stmt_at when_at end_at else_at
else_again block k c so other rest h f g =
    let last = codes "end\n" ++ rest in
    let end = indent k ++ last in
    let second = block_text (k + 1) other ++ end in
    let middle = codes "end else begin\n" ++ second in
    let body = block_text (k + 1) so ++ (indent k ++ middle) in
    let begin = codes ") begin\n" ++ body in
    simp append_assoc (rw (after_again (indent k) (codes "if (" ++ (expr_text c ++ begin)), no_target (expr_text c ++ begin), after_again (codes "if (") (expr_text c ++ begin), expr_again 31 c begin h refl, after_again (codes ") begin\n") body, f (codes " else begin\n" ++ second), after_again (indent k) middle, after_again (codes "end else begin\n") second, g (codes "\n" ++ rest), after_again (indent k) last, after_again (codes "end\n") rest) refl)

stmt_len : (k : ℕ) (s : VStmt) → 1 ≤ length (stmt_text k s)
stmt_len k (Assign t b e) = omega (arith, length-append (indent k ++ target_text t ++ sets_text b ++ expr_text e) (codes ";\n"))
stmt_len k (When c so other) = omega (arith, length-append (indent k ++ codes "if (" ++ expr_text c ++ codes ") begin\n" ++ block_text (k + 1) so ++ else_text k other ++ indent k) (codes "end\n"))

no_stmts : (block : Blocks) (k n : ℕ) (rest : List ℕ) → after (indent k) rest ≡ None → stmts_at (stmt_at block k) n rest ≡ (EndBlock, rest)
unfolding stmts_at stmt_at
no_stmts block k zero rest e = refl
no_stmts block k (suc n) rest e = rw e refl

more_stmts : (read : Reader VStmt) (k n : ℕ) (s : VStmt) (ss : VBlock) (rest : List ℕ) → ((r : List ℕ) → read (stmt_text k s ++ r) ≡ Some (s, r)) → stmts_at read n (block_text k ss ++ rest) ≡ (ss, rest) → stmts_at read (suc n) ((stmt_text k s ++ block_text k ss) ++ rest) ≡ (InBlock s ss, rest)
unfolding stmts_at
more_stmts read k n s ss rest f e = rw (append_assoc (stmt_text k s) (block_text k ss) rest, f (block_text k ss ++ rest), e) refl

suc_ends : (k : ℕ) (rest : List ℕ) → after (indent (suc k)) (indent k ++ (codes "end" ++ rest)) ≡ None
unfolding after
suc_ends zero rest = refl
suc_ends (suc k) rest = suc_ends k rest

-- a line of fewer levels ends a block
pub indent_ends : (k : ℕ) (rest : List ℕ) → after (indent (k + 1)) (indent k ++ (codes "end" ++ rest)) ≡ None
indent_ends k rest = rw add-one (suc_ends k rest)

block_from : (d k : ℕ) (b : VBlock) (rest : List ℕ) → IsBlock d b → ((e : ℕ) → IsBlock (suc e) b → (n : ℕ) → length (block_text k b) ≤ n → stmts_at (stmt_at (block_at e (k + 1)) k) n (block_text k b ++ rest) ≡ (b, rest)) → block_at d k (block_text k b ++ rest) ≡ (b, rest)
unfolding block_at
block_from zero k EndBlock rest h f = refl
block_from zero k (InBlock s ss) rest h f = absurd h
block_from (suc d) k b rest h f = f d h (length (block_text k b ++ rest)) (omega (arith, length-append (block_text k b) rest))

mutual
  pub stmt_again : (d k : ℕ) (s : VStmt) (rest : List ℕ) → IsStmt d s → stmt_at (block_at d (k + 1)) k (stmt_text k s ++ rest) ≡ Some (s, rest)
  stmt_again d k (Assign t b e) rest h = assign_again (block_at d (k + 1)) k t b e rest h.0 h.1
  stmt_again d k (When c so NoElse) rest h =
      when_again (block_at d (k + 1)) k c so rest h.0 (λ r. block_from d (k + 1) so _ h.1 (λ e g n le. stmts_again e (k + 1) n so _ g (indent_ends k r) le))
  stmt_again d k (When c so (Else other)) rest h =
      else_again (block_at d (k + 1)) k c so other rest h.0 (λ r. block_from d (k + 1) so _ h.1 (λ e g n le. stmts_again e (k + 1) n so _ g (indent_ends k r) le))
      (λ r. block_from d (k + 1) other _ h.2 (λ e g n le. stmts_again e (k + 1) n other _ g (indent_ends k r) le))

  pub stmts_again : (d k n : ℕ) (b : VBlock) (rest : List ℕ) → IsBlock (suc d) b → after (indent k) rest ≡ None → length (block_text k b) ≤ n → stmts_at (stmt_at (block_at d (k + 1)) k) n (block_text k b ++ rest) ≡ (b, rest)
  stmts_again d k n EndBlock rest h e le = no_stmts (block_at d (k + 1)) k n rest e
  stmts_again d k zero (InBlock s ss) rest h e le = absurd (omega (arith, length-append (stmt_text k s) (block_text k ss), stmt_len k s))
  stmts_again d k (suc n) (InBlock s ss) rest h e le =
      more_stmts (stmt_at (block_at d (k + 1)) k) k n s ss rest (λ r. stmt_again d k s r h.0) (stmts_again d k n ss rest h.1 e (omega (arith, length-append (stmt_text k s) (block_text k ss), stmt_len k s)))

-- A block is read again, where what follows is no line of its level.
pub block_again : (d k : ℕ) (b : VBlock) (rest : List ℕ) → IsBlock d b → after (indent k) rest ≡ None → block_at d k (block_text k b ++ rest) ≡ (b, rest)
block_again d k b rest h e = block_from d k b rest h (λ f g n le. stmts_again f k n b rest g e le)
