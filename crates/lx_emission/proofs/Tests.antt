-- Tests that go over the statements of a block: of names, of widths, and of targets.
use Rattle.std.proofs.Common.{◌≡◌, ℕ, Bool, true, ◌&&◌, List, [], ◌∷◌, refl, ◌∙◌}
use Rattle.std.specs.List.{AllByRecursion}
use Rattle.std.proofs.lemmas.Bool.{and_parts, and_from}
use Rattle.lx_circuit.specs.Statements as tree
use Rattle.lx_vtext.specs.Tree.{Name, VExpr, VStmt, When, VElse, NoElse, Else, VBlock, EndBlock, InBlock, VModule}
use Rattle.lx_vmeaning.specs.Meaning.{Sizes}
use Rattle.lx_vmeaning.specs.Naming.{names_fit, stmt_names, else_names, block_names}
use Rattle.lx_vmeaning.specs.Widths.{alone_fits, stmt_widths, else_widths, block_widths}
use Rattle.lx_vmeaning.specs.Blocks.{stmt_fits, else_fits, block_fits}
use Rattle.lx_fhdl.specs.Below.{StmtId}
use Rattle.lx_fhdl.specs.Stmts.{block_at}
use Rattle.lx_fhdl.specs.Lowered.{is_for, are_for}
use Rattle.lx_emission.specs.Texts.{block_onto, else_text}
use Rattle.lx_emission.specs.Memories.{block_of}

-- a test of statements, with those of conditions, blocks and rests that it is made of
pub record IsTest (C : VExpr → Bool) (S : VStmt → Bool) (B : VBlock → Bool) (E : VElse → Bool) : Type 0 where
  pub done : B EndBlock ≡ true
  pub next : (s : VStmt) (ss : VBlock) → B (InBlock s ss) ≡ (S s && B ss)
  pub none : E NoElse ≡ true
  pub rest : (b : VBlock) → E (Else b) ≡ B b
  pub when : (c : VExpr) (b : VBlock) (e : VElse) → S (When c b e) ≡ (C c && (B b && E e))

pub names_test : (m : VModule) → IsTest (names_fit m) (stmt_names m) (block_names m) (else_names m)
names_test m = record { done = refl; next = λ s ss. refl; none = refl; rest = λ b. refl; when = λ c b e. refl }

pub widths_test : (d : Sizes) → IsTest (alone_fits d) (stmt_widths d) (block_widths d) (else_widths d)
widths_test d = record { done = refl; next = λ s ss. refl; none = refl; rest = λ b. refl; when = λ c b e. refl }

pub fits_test : (n : Name) (now : Bool) → IsTest (λ c. true) (stmt_fits n now) (block_fits n now) (else_fits n now)
fits_test n now = record { done = refl; next = λ s ss. refl; none = refl; rest = λ b. refl; when = λ c b e. refl }

-- ---- lists of statements

-- a list passes where its statements do
pub list_passes : {C : VExpr → Bool} {S : VStmt → Bool} {B : VBlock → Bool} {E : VElse → Bool} → IsTest C S B E → (x : ℕ) (s : ℕ → tree.Stmt) (g : ℕ → VStmt) → ((j : ℕ) → is_for x (s j) ≡ true → S (g j) ≡ true)
    → (ids : List StmtId) → are_for x (block_at s ids) ≡ true → (end : VBlock) → B end ≡ true → B (block_onto g ids end) ≡ true
list_passes t x s g h [] plain end e = e
list_passes {C} {S} {B} {E} t x s g h (i ∷ is) plain end e =
    let p = and_parts (is_for x (s i.place)) (are_for x (block_at s is)) plain in
    t.next (g i.place) (block_onto g is end) ∙ and_from (S (g i.place)) (B (block_onto g is end)) (h i.place p.0) (list_passes t x s g h is p.1 end e)

pub else_passes : {C : VExpr → Bool} {S : VStmt → Bool} {B : VBlock → Bool} {E : VElse → Bool} → IsTest C S B E → (x : ℕ) (s : ℕ → tree.Stmt) (g : ℕ → VStmt) → ((j : ℕ) → is_for x (s j) ≡ true → S (g j) ≡ true)
    → (ids : List StmtId) → are_for x (block_at s ids) ≡ true → E (else_text g ids) ≡ true
else_passes t x s g h [] plain = t.none
else_passes t x s g h (i ∷ is) plain = t.rest (block_onto g (i ∷ is) EndBlock) ∙ list_passes t x s g h (i ∷ is) plain EndBlock t.done

pub when_passes : {C : VExpr → Bool} {S : VStmt → Bool} {B : VBlock → Bool} {E : VElse → Bool} → IsTest C S B E → (c : VExpr) (b : VBlock) (e : VElse) → C c ≡ true → B b ≡ true → E e ≡ true → S (When c b e) ≡ true
when_passes {C} {S} {B} {E} t c b e p q r = t.when c b e ∙ and_from (C c) (B b && E e) p (and_from (B b) (E e) q r)

pub block_passes : {C : VExpr → Bool} {S : VStmt → Bool} {B : VBlock → Bool} {E : VElse → Bool} → IsTest C S B E → (ss : List VStmt) → AllByRecursion (λ s. S s ≡ true) ss → B (block_of ss) ≡ true
block_passes t [] h = t.done
block_passes {C} {S} {B} {E} t (s ∷ ss) h = t.next s (block_of ss) ∙ and_from (S s) (B (block_of ss)) h.0 (block_passes t ss h.1)
