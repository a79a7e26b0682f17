-- The texts of the statements for one signal have a text: lawful names, few brackets, and no deeper than the statements.
use Rattle.std.proofs.Common.{◌≡◌, ℕ, zero, suc, ◌<◌, ◌≤◌, Bool, true, false, List, [], ◌∷◌, ◌++◌, length, refl, sym, subst, arith}
use Rattle.std.specs.Prelude.{Option, Some, None, nat_eq, slice_get, IsTrue}
use Rattle.std.proofs.lemmas.Bool.{and_parts}
use Rattle.lx_circuit.specs.Statements as tree
use Rattle.lx_circuit.specs.Circuit.{made}
use Rattle.lx_vtext.specs.Tree.{Name, Net, Whole, VStmt, Assign, When, NoElse, VBlock, EndBlock, InBlock}
use Rattle.lx_vtext.specs.Names.{is_name}
use Rattle.lx_vtext.specs.Fits.{IsExpr, IsTarget, IsStmt, IsElse, IsBlock}
use Rattle.lx_fhdl.specs.Below.{StmtId, all_stmts_below}
use Rattle.lx_fhdl.specs.Stmts.{block_at}
use Rattle.lx_fhdl.specs.Designs.{stmt, block, stmts_of, circuit_of}
use Rattle.lx_fhdl.specs.Lowered.{is_for, are_for, IsLowered}
use Rattle.lx_fhdl.specs.Keeping.{Keeps, PartStands, EachOf, stmt_depth, block_depth}
use Rattle.lx_fhdl.specs.declared.exprs.SigId.{SigId}
use Rattle.lx_fhdl.specs.declared.design.SyncPart.{SyncPart}
use Rattle.lx_fhdl.specs.declared.design.Design.{Design}
use Rattle.lx_emission.specs.Naming.{net, NamesFit}
use Rattle.lx_emission.specs.Signals.{CombBlock, Sync, own, drive, domain_reset, reset_block, reset_text, comb_body, sync_body}
use Rattle.lx_emission.specs.Texts.{block_onto, else_text, stmt_text}
use Rattle.lx_emission.proofs.Setting.{OperandsAreLawful}
use Rattle.lx_emission.proofs.Blocks.{Bits, AllBits, SomeBits, bits_text, text_holds, by_choice, comb_list, comb_own, sync_list, sync_own, reset_within}
use Rattle.lx_emission.proofs.Lawful.{net_lawful}

-- a statement's text is lawful where it may nest as deep as the statement
abbrev IsLawfulText : tree.Stmt → VStmt → Type 0
IsLawfulText s v = (m : ℕ) → stmt_depth s ≤ suc m → IsStmt m v

some_depth : (s : tree.Stmt) → 1 ≤ stmt_depth s
some_depth (tree.Assign t e) = omega arith
some_depth (tree.If bs rest) = omega arith
some_depth (tree.Case on arms rest) = omega arith

bits_lawful : (d : Design) (n : Name) (x : ℕ) → IsTrue (is_name n) → (c : Bits d x) → IsTarget (bits_text d n x c)
bits_lawful d n x h AllBits = h
bits_lawful d n x h (SomeBits low len some inside) = h

list_lawful : (x : ℕ) (s : ℕ → tree.Stmt) (g : ℕ → VStmt) → ((j : ℕ) → is_for x (s j) ≡ true → IsLawfulText (s j) (g j)) → (ids : List StmtId) → are_for x (block_at s ids) ≡ true
    → (n : ℕ) → block_depth (block_at s ids) ≤ n → (end : VBlock) → IsBlock n end → IsBlock n (block_onto g ids end)
list_lawful x s g h [] plain n deep end e = e
list_lawful x s g h (i ∷ is) plain zero deep end e = let some = some_depth (s i.place) in absurd (omega arith)
list_lawful x s g h (i ∷ is) plain (suc m) deep end e =
    let p = and_parts (is_for x (s i.place)) (are_for x (block_at s is)) plain in
    (h i.place p.0 m (omega arith), list_lawful x s g h is p.1 (suc m) (omega arith) end e)

else_lawful : (x : ℕ) (s : ℕ → tree.Stmt) (g : ℕ → VStmt) → ((j : ℕ) → is_for x (s j) ≡ true → IsLawfulText (s j) (g j)) → (ids : List StmtId) → are_for x (block_at s ids) ≡ true
    → (n : ℕ) → block_depth (block_at s ids) ≤ n → IsElse n (else_text g ids)
else_lawful x s g h [] plain n deep = tt
else_lawful x s g h (i ∷ is) plain n deep = list_lawful x s g h (i ∷ is) plain n deep EndBlock tt

stmt_lawful : (d : Design) (names : List Name) (now : Bool) (x : ℕ) → Keeps d → OperandsAreLawful d names → IsTrue (is_name (net names x)) → (k : ℕ) → is_for x (stmt d k) ≡ true → IsLawfulText (stmt d k) (stmt_text d names now k)
stmt_lawful d names now x keeps operands name = text_holds d names now x IsLawfulText keeps (record {
  assigns = λ t c k h made l m deep. (bits_lawful d (net names x) x name c, operands.each k 32 l);
  chooses = λ s g k body rest l h p q some m deep. (operands.each k 31 l, list_lawful x s g h body p m (omega arith) EndBlock tt, else_lawful x s g h rest q m (omega arith));
})

-- a block of statements for x nests no deeper than the statements
pub text_lawful : (d : Design) (names : List Name) (now : Bool) (x : ℕ) → Keeps d → OperandsAreLawful d names → IsTrue (is_name (net names x)) → (ids : List StmtId) → all_stmts_below (length d.stmts) ids ≡ true → are_for x (block d ids) ≡ true
    → (n : ℕ) → block_depth (block d ids) ≤ n → (end : VBlock) → IsBlock n end → IsBlock n (block_onto (stmt_text d names now) ids end)
text_lawful d names now x keeps operands name ids below plain n deep end e = list_lawful x (stmt d) (stmt_text d names now) (stmt_lawful d names now x keeps operands name) ids plain n deep end e

-- ---- the depth of lists

pub own_depth : (d : Design) (x : ℕ) (ids : List StmtId) → block_depth (block d (own d x ids)) ≤ block_depth (block d ids)
unfolding own
own_depth d x [] = omega arith
own_depth d x (i ∷ is) =
    let more = own_depth d x is in
    by_choice (λ (ks : List StmtId). block_depth (block d ks) ≤ block_depth (block d (i ∷ is))) (tree.drives x (stmt d i.place)) (i ∷ own d x is) (own d x is) (λ h. omega arith) (λ h. omega arith)

append_depth : (d : Design) (is js : List StmtId) (n : ℕ) → block_depth (block d is) ≤ n → block_depth (block d js) ≤ n → block_depth (block d (is ++ js)) ≤ n
append_depth d [] js n p q = q
append_depth d (i ∷ is) js n p q = let more = append_depth d is js n (omega arith) q in omega arith

sync_depth : (d : Design) (k : ℕ) (ps : List SyncPart) → EachOf (PartStands d) ps → block_depth (block d (stmts_of k ps)) ≤ 128
sync_depth d k [] h = omega arith
sync_depth d k (p ∷ ps) h =
    let more = sync_depth d k ps h.1 in
    by_choice (λ (ks : List StmtId). block_depth (block d ks) ≤ 128) (nat_eq p.domain k) (p.stmts ++ stmts_of k ps) (stmts_of k ps)
    (λ e. append_depth d p.stmts (stmts_of k ps) 128 h.0.stmts.depth more)
    (λ e. more)

-- ---- the blocks of a module

reset_lawful : (d : Design) (names : List Name) (x : ℕ) → IsTrue (is_name (net names x)) → ((b : ℕ) → IsExpr b (reset_text d x)) → (o : Option SigId) → ((r : SigId) → o ≡ Some r → IsTrue (is_name (net names r.0))) → IsBlock 128 (reset_block d names x o)
reset_lawful d names x name reset None reads = tt
reset_lawful d names x name reset (Some r) reads =
    by_choice (λ b. IsBlock 128 b) (made (circuit_of d) x).reset_less
    EndBlock (InBlock (When (Net (net names r.0)) (InBlock (Assign (Whole (net names x)) false (reset_text d x)) EndBlock) NoElse) EndBlock)
    (λ h. tt) (λ h. ((reads r refl, ((name, reset 32), tt), tt), tt))

-- the block of `always @(*)` for x
pub comb_lawful : (d : Design) (names : List Name) (x : ℕ) → Keeps d → IsLowered d → OperandsAreLawful d names → NamesFit d names → x < length d.signals → ((b : ℕ) → IsExpr b (reset_text d x))
    → (ids : List StmtId) → drive d x ≡ CombBlock ids → IsBlock 128 (comb_body d names x ids)
comb_lawful d names x keeps low operands fit lt reset ids e =
    let list = comb_own d x ids keeps low e in
    let name = net_lawful d names fit x lt in
    let deep : block_depth (block d ids) ≤ 128 = subst (λ (ks : List StmtId). block_depth (block d ks) ≤ 128) (sym (comb_list d x ids e)) (omega (arith, own_depth d x d.comb, keeps.comb.depth)) in
    ((name, reset 32), text_lawful d names true x keeps operands name ids list.below list.plain 128 deep EndBlock tt)

-- and the clocked block
pub sync_lawful : (d : Design) (names : List Name) (x : ℕ) → Keeps d → IsLowered d → OperandsAreLawful d names → NamesFit d names → x < length d.signals → ((b : ℕ) → IsExpr b (reset_text d x))
    → (k : ℕ) (ids : List StmtId) → drive d x ≡ Sync k ids → IsBlock 128 (sync_body d names x k ids)
sync_lawful d names x keeps low operands fit lt reset k ids e =
    let list = sync_own d x k ids keeps low e in
    let name = net_lawful d names fit x lt in
    let deep : block_depth (block d ids) ≤ 128 =
    subst (λ (ks : List StmtId). block_depth (block d ks) ≤ 128) (sym (sync_list d x k ids e)) (omega (arith, own_depth d x (stmts_of k d.sync), sync_depth d k d.sync keeps.sync)) in
    let end = reset_lawful d names x name reset (domain_reset (slice_get d.domains k)) (λ r h. net_lawful d names fit r.0 (reset_within d keeps k r h)) in
    text_lawful d names false x keeps operands name ids list.below list.plain 128 deep (reset_block d names x (domain_reset (slice_get d.domains k))) end
