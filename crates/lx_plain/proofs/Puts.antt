-- Statements for signals that are put one after the other.
use Rattle.std.proofs.Common.{◌≡◌, ℕ, ◌<◌, ◌≤◌, Bool, true, false, ◌&&◌, cond, List, [], ◌∷◌, ◌++◌, length, refl, sym, ap, subst, ◌∙◌, arith, nat_lt, nat_eq, eq-eqb, eqb-true, length-append, append_assoc}
use Rattle.std.specs.Prelude.{IsTrue}
use Rattle.std.proofs.lemmas.List.{append-nil}
use Rattle.std.proofs.lemmas.Bool.{and_parts, ltb-true, lt-ltb, and_from}
use Rattle.lx_circuit.specs.Terms.{Term}
use Rattle.lx_circuit.specs.Statements as tree
use Rattle.lx_circuit.specs.Statements.{Block, Done, Then}
use Rattle.lx_fhdl.specs.Below.{ExprId, StmtId, TargetId, all_stmts_below}
use Rattle.lx_fhdl.specs.Designs as design
use Rattle.lx_fhdl.specs.Designs.{block, term}
use Rattle.lx_fhdl.specs.Drafts.{CanAddStmt}
use Rattle.lx_fhdl.specs.Lowered.{is_plain_target}
use Rattle.lx_fhdl.specs.Stmts.{block_at, node_stmt, node_target}
use Rattle.lx_fhdl.specs.declared.design.Design.{Design}
use Rattle.lx_fhdl.specs.declared.exprs.SigId.{SigId}
use Rattle.lx_fhdl.specs.declared.stmts.Stmt.{Stmt}
use Rattle.lx_fhdl.specs.declared.stmts.Stmt.TheVariants as stmt
use Rattle.lx_fhdl.specs.declared.stmts.Target.{Target}
use Rattle.lx_fhdl.proofs.StmtTrees.{block_same}
use Rattle.lx_lowering.specs.Flat.{append, one, when, some_when, first_branch}
use Rattle.lx_lowering.specs.Split.{lone_if, split, split_block}
use Rattle.lx_plain.specs.Lines.{Assigned, alone, both_lines, lines, lines_at, lines_in, no_lines, target_lines, under, under_each}
use Rattle.lx_plain.specs.Owned.{node_lines_of, ids_of, own_lines, all_owned, AreOwned, own, Put, PutSome, PutOne, PutUnder}
use Rattle.lx_plain.specs.Plain.{Grows, StmtAdded, TargetAdded}
use Rattle.lx_plain.specs.declared.owned.Own.{Own}
use Rattle.lx_plain.proofs.Lining.{under_append}
use Rattle.lx_plain.proofs.Sound.{grows_same, grows_then}
use Rattle.lx_lowering.proofs.Appends.{append_done, append_all}

-- ---- blocks

pub block_append : (h : ℕ → tree.Stmt) (a b : List StmtId) → block_at h (a ++ b) ≡ append (block_at h a) (block_at h b)
block_append h [] b = refl
block_append h (i ∷ is) b = ap (Then (h i.place)) (block_append h is b)

pub split_append : (x : ℕ) (a b : Block) → split_block x (append a b) ≡ append (split_block x a) (split_block x b)
split_append x Done b = refl
split_append x (Then s ss) b = ap (append (split x s)) (split_append x ss b) ∙ sym (append_all (split x s) (split_block x ss) (split_block x b))

-- ---- statements for signals

pub ids_append : (x : ℕ) (a b : List Own) → ids_of x (a ++ b) ≡ ids_of x a ++ ids_of x b
ids_append x [] b = refl
ids_append x (o ∷ os) b = by_test (nat_eq o.signal.0 x) (ids_append x os b)
  where
    by_test : (t : Bool) → ids_of x (os ++ b) ≡ ids_of x os ++ ids_of x b → cond t (o.stmt ∷ ids_of x (os ++ b)) (ids_of x (os ++ b)) ≡ cond t (o.stmt ∷ ids_of x os) (ids_of x os) ++ ids_of x b
    by_test true e = ap (λ (is : List StmtId). o.stmt ∷ is) e
    by_test false e = e

pub owned_ids : (n m x : ℕ) (os : List Own) → all_owned n m os ≡ true → all_stmts_below m (ids_of x os) ≡ true
owned_ids n m x [] h = refl
owned_ids n m x (o ∷ os) h =
    let p = and_parts (nat_lt o.signal.0 n && nat_lt o.stmt.place m) (all_owned n m os) h in
    let q = and_parts (nat_lt o.signal.0 n) (nat_lt o.stmt.place m) p.0 in
    let rest = owned_ids n m x os p.1 in
    by_test (nat_eq o.signal.0 x) q.1 rest
  where
    by_test : (t : Bool) → nat_lt o.stmt.place m ≡ true → all_stmts_below m (ids_of x os) ≡ true → all_stmts_below m (cond t (o.stmt ∷ ids_of x os) (ids_of x os)) ≡ true
    by_test true a b = and_from (nat_lt o.stmt.place m) (all_stmts_below m (ids_of x os)) a b
    by_test false a b = b

pub owned_wider : (n m p : ℕ) (os : List Own) → m ≤ p → all_owned n m os ≡ true → all_owned n p os ≡ true
owned_wider n m p [] l h = refl
owned_wider n m p (o ∷ os) l h =
    let a = and_parts (nat_lt o.signal.0 n && nat_lt o.stmt.place m) (all_owned n m os) h in
    let b = and_parts (nat_lt o.signal.0 n) (nat_lt o.stmt.place m) a.0 in
    let q = ltb-true o.stmt.place m b.1 in
    and_from (nat_lt o.signal.0 n && nat_lt o.stmt.place p) (all_owned n p os) (and_from (nat_lt o.signal.0 n) (nat_lt o.stmt.place p) b.0 (lt-ltb o.stmt.place p (omega arith))) (owned_wider n m p os l a.1)

owned_last : (n m : ℕ) (os : List Own) (o : Own) → all_owned n m os ≡ true → o.signal.0 < n → o.stmt.place < m → all_owned n m (os ++ o ∷ []) ≡ true
owned_last n m [] o h l g = and_from (nat_lt o.signal.0 n && nat_lt o.stmt.place m) true (and_from (nat_lt o.signal.0 n) (nat_lt o.stmt.place m) (lt-ltb o.signal.0 n l) (lt-ltb o.stmt.place m g)) refl
owned_last n m (p ∷ ps) o h l g =
    let a = and_parts (nat_lt p.signal.0 n && nat_lt p.stmt.place m) (all_owned n m ps) h in
    and_from (nat_lt p.signal.0 n && nat_lt p.stmt.place m) (all_owned n m (ps ++ o ∷ [])) a.0 (owned_last n m ps o a.1 l g)

-- ---- drafts that grow

pub as_many : {x y : Design} → Grows x y → length y.signals ≡ length x.signals
as_many g = ap length g.signals

pub owned_kept : {x y : Design} (os : List Own) → Grows x y → AreOwned x os → AreOwned y os
owned_kept {x} {y} os g h =
    search (subst (λ (n : ℕ). all_owned n (length y.stmts) os ≡ true) (sym (as_many g)) (owned_wider (length x.signals) (length x.stmts) (length y.stmts) os g.stays.stmts (search h)))

pub ids_there : (d : Design) (x : ℕ) (os : List Own) → AreOwned d os → IsTrue (all_stmts_below (length d.stmts) (ids_of x os))
ids_there d x os h = search (owned_ids (length d.signals) (length d.stmts) x os (search h))

pub block_kept : {x y : Design} (ids : List StmtId) → Grows x y → IsTrue (all_stmts_below (length x.stmts) ids) → block y ids ≡ block x ids
block_kept {x} {y} ids g h = block_same (design.stmt y) (design.stmt x) (length x.stmts) ids g.stays.stmt_trees (search h)

pub own_kept : {x y : Design} (os : List Own) (k : ℕ) → Grows x y → AreOwned x os → own y os k ≡ own x os k
own_kept {x} {y} os k g h = block_kept (ids_of k os) g (ids_there x k os h)

-- the lines too
pub lines_append : (f : ℕ → List Assigned) (a b : List StmtId) → lines_in f (a ++ b) ≡ lines_in f a ++ lines_in f b
lines_append f [] b = refl
lines_append f (i ∷ is) b = ap (λ (xs : List Assigned). f i.place ++ xs) (lines_append f is b) ∙ sym (append_assoc (f i.place) (lines_in f is) (lines_in f b))

lines_below : (f g : ℕ → List Assigned) (n : ℕ) (ids : List StmtId) → ((k : ℕ) → k < n → f k ≡ g k) → all_stmts_below n ids ≡ true → lines_in f ids ≡ lines_in g ids
lines_below f g n [] h b = refl
lines_below f g n (i ∷ is) h b =
    let p = and_parts (nat_lt i.place n) (all_stmts_below n is) b in
    ap (λ (xs : List Assigned). xs ++ lines_in f is) (h i.place (ltb-true i.place n p.0)) ∙ ap (λ (xs : List Assigned). g i.place ++ xs) (lines_below f g n is h p.1)

pub lines_kept : {x y : Design} (s : ℕ) (ids : List StmtId) → Grows x y → IsTrue (all_stmts_below (length x.stmts) ids) → lines y s ids ≡ lines x s ids
lines_kept {x} {y} s ids g h = lines_below (lines_at y s) (lines_at x s) (length x.stmts) ids (λ k l. g.lines s k l) (search h)

pub own_lines_kept : {x y : Design} (os : List Own) (k : ℕ) → Grows x y → AreOwned x os → own_lines y os k ≡ own_lines x os k
own_lines_kept {x} {y} os k g h = lines_kept k (ids_of k os) g (ids_there x k os h)

-- ---- statements that are put

pub put_is : {x y : Design} {a b : List Own} {s t : Block} {ls : ℕ → List Assigned} → s ≡ t → Put x y a b s ls → Put x y a b t ls
put_is {x} {y} {a} {b} {ls = ls} e p = subst (λ (w : Block). Put x y a b w ls) e p

pub put_lines : {x y : Design} {a b : List Own} {s : Block} {ls ms : ℕ → List Assigned} → ((k : ℕ) → ls k ≡ ms k) → Put x y a b s ls → Put x y a b s ms
put_lines {x} {a = a} e p = record { grows = p.grows; owned = p.owned; own = p.own; lines = λ k l. p.lines k l ∙ ap (λ (xs : List Assigned). own_lines x a k ++ xs) (e k) }

pub put_none : (x : Design) (a : List Own) → AreOwned x a → Put x x a a Done no_lines
put_none x a h = record { grows = grows_same x; owned = h; own = λ k l. sym (append_done (own x a k)); lines = λ k l. sym (append-nil (own_lines x a k)) }

pub put_then : {x y z : Design} {a b c : List Own} {s t : Block} {ls ms : ℕ → List Assigned} → Put x y a b s ls → Put y z b c t ms → Put x z a c (append s t) (both_lines ls ms)
put_then {x = x} {a = a} {s = s} {t = t} {ls = ls} {ms = ms} p q = record {
  grows = grows_then p.grows q.grows;
  owned = q.owned;
  own = λ k l.
      q.own k l ∙ ap (λ (w : Block). append w (split_block k t)) (p.own k (omega (arith, as_many q.grows))) ∙ append_all (own x a k) (split_block k s) (split_block k t)
      ∙ ap (append (own x a k)) (sym (split_append k s t));
  lines = λ k l. q.lines k l ∙ ap (λ (xs : List Assigned). xs ++ ms k) (p.lines k (omega (arith, as_many q.grows))) ∙ append_assoc (own_lines x a k) (ls k) (ms k);
}

-- after the draft grew
pub put_after : {x y z : Design} {a b : List Own} {s : Block} {ls : ℕ → List Assigned} → Grows x y → AreOwned x a → Put y z a b s ls → Put x z a b s ls
put_after {a = a} {s = s} {ls = ls} g there p = record {
  grows = grows_then g p.grows;
  owned = p.owned;
  own = λ k l. p.own k l ∙ ap (λ (w : Block). append w (split_block k s)) (own_kept a k g there);
  lines = λ k l. p.lines k l ∙ ap (λ (xs : List Assigned). xs ++ ls k) (own_lines_kept a k g there);
}

-- one statement
pub put_one : (x y : Design) (node : Stmt) (a : List Own) (signal : SigId) (id : StmtId) → AreOwned x a → signal.0 < length x.signals → StmtAdded x y node id.place
    → PutOne x y a (a ++ (record { signal = signal; stmt = id }) ∷ []) signal.0 (node_stmt (term x) (design.target x) (design.stmt x) node) (node_lines_of x signal.0 node)
put_one x y node a signal id h l p =
    let g = p.grows in
    let o : Own = record { signal = signal; stmt = id } in
    let within : id.place < length y.stmts = omega (arith, p.put.place, ap (λ (d : Design). length d.stmts) p.put.is, length-append x.stmts (node ∷ [])) in
    let old = λ (k : ℕ). own_kept a k g h in
    let old_lines = λ (k : ℕ). own_lines_kept a k g h in
    let last : (k : ℕ) (b : Bool) → nat_eq signal.0 k ≡ b → ids_of k (a ++ o ∷ []) ≡ ids_of k a ++ cond b (id ∷ []) [] =
    λ k b e. ids_append k a (o ∷ []) ∙ ap (λ (t : Bool). ids_of k a ++ cond t (id ∷ []) []) e in
    record {
      grows = g;
      owned = search (owned_last (length y.signals) (length y.stmts) a o (search (owned_kept a g h)) (omega (arith, as_many g)) within);
      here =
          ap (block y) (last signal.0 true (eq-eqb signal.0 signal.0 refl))
          ∙ block_append (design.stmt y) (ids_of signal.0 a) (id ∷ [])
          ∙ ap (λ (w : Block). append w (one (design.stmt y id.place))) (old signal.0)
          ∙ ap (λ (w : tree.Stmt). append (own x a signal.0) (one w)) p.put.tree;
      others = λ k e. ap (block y) (last k false e ∙ append-nil (ids_of k a)) ∙ old k;
      lines =
          ap (lines y signal.0) (last signal.0 true (eq-eqb signal.0 signal.0 refl))
          ∙ lines_append (lines_at y signal.0) (ids_of signal.0 a) (id ∷ [])
          ∙ ap (λ (xs : List Assigned). xs ++ (lines_at y signal.0 id.place ++ [])) (old_lines signal.0)
          ∙ ap (λ (xs : List Assigned). own_lines x a signal.0 ++ xs) (append-nil (lines_at y signal.0 id.place) ∙ p.lines signal.0);
      other_lines = λ k e. ap (lines y k) (last k false e ∙ append-nil (ids_of k a)) ∙ old_lines k;
    }

-- an assignment to the signal, or to some of its bits
assign_is : (x y : ℕ) (t : tree.Target) (e : Term) → is_plain_target x t ≡ true → split_block y (one (tree.Assign t e)) ≡ append (cond (nat_eq x y) (one (tree.Assign t e)) Done) Done
assign_is x y (tree.Whole z) e h = ap (λ (k : ℕ). append (cond (nat_eq k y) (one (tree.Assign (tree.Whole z) e)) Done) Done) (eqb-true z x h)
assign_is x y (tree.Part z low len) e h = ap (λ (k : ℕ). append (cond (nat_eq k y) (one (tree.Assign (tree.Part z low len) e)) Done) Done) (eqb-true z x h)
assign_is x y (tree.CatTarget parts) e h = absurd (cc)
assign_is x y (tree.PickTarget items index) e h = absurd (cc)

pub target_others : (x y line : ℕ) (t : tree.Target) → is_plain_target x t ≡ true → nat_eq x y ≡ false → target_lines t line y ≡ []
target_others x y line (tree.Whole z) h e = ap (λ (k : ℕ). cond (nat_eq k y) (alone line ∷ []) []) (eqb-true z x h) ∙ ap (λ (b : Bool). cond b (alone line ∷ []) []) e
target_others x y line (tree.Part z low len) h e = ap (λ (k : ℕ). cond (nat_eq k y) (alone line ∷ []) []) (eqb-true z x h) ∙ ap (λ (b : Bool). cond b (alone line ∷ []) []) e
target_others x y line (tree.CatTarget parts) h e = absurd (cc)
target_others x y line (tree.PickTarget items index) h e = absurd (cc)

own_put : (x y z : Design) (a b : List Own) (s line : ℕ) (t : tree.Target) (e : Term) → Grows x y → AreOwned x a → is_plain_target s t ≡ true → PutOne y z a b s (tree.Assign t e) (target_lines t line s) → Put x z a b (one (tree.Assign t e)) (target_lines t line)
own_put x y z a b s line t e g h plain p = record {
  grows = grows_then g p.grows;
  owned = p.owned;
  own = λ k l. by_test k (nat_eq s k) refl;
  lines = λ k l. by_line k (nat_eq s k) refl;
}
  where
    by_test : (k : ℕ) (r : Bool) → nat_eq s k ≡ r → own z b k ≡ append (own x a k) (split_block k (one (tree.Assign t e)))
    by_test k true q =
        let same : s ≡ k = eqb-true s k q in
        let given = λ (j : ℕ). own z b j ≡ append (own y a j) (one (tree.Assign t e)) in
        subst given same p.here
        ∙ ap (λ (w : Block). append w (one (tree.Assign t e))) (own_kept a k g h)
        ∙ ap (append (own x a k)) (sym (assign_is s k t e plain ∙ ap (λ (b : Bool). append (cond b (one (tree.Assign t e)) Done) Done) q))
    by_test k false q =
        p.others k q
        ∙ own_kept a k g h
        ∙ sym (append_done (own x a k))
        ∙ ap (append (own x a k)) (sym (assign_is s k t e plain ∙ ap (λ (b : Bool). append (cond b (one (tree.Assign t e)) Done) Done) q))

    by_line : (k : ℕ) (r : Bool) → nat_eq s k ≡ r → own_lines z b k ≡ own_lines x a k ++ target_lines t line k
    by_line k true q =
        subst (λ (j : ℕ). own_lines z b j ≡ own_lines y a j ++ target_lines t line j) (eqb-true s k q) p.lines ∙ ap (λ (xs : List Assigned). xs ++ target_lines t line k) (own_lines_kept a k g h)
    by_line k false q =
        p.other_lines k q
        ∙ own_lines_kept a k g h
        ∙ sym (append-nil (own_lines x a k))
        ∙ ap (λ (xs : List Assigned). own_lines x a k ++ xs) (sym (target_others s k line t plain q))

-- an assignment to a target that was added
pub assign_added : (x y : Design) (t : Target) (id : TargetId) (value : ExprId) (line : ℕ) → TargetAdded x y t id.place → value.place < length x.exprs → CanAddStmt y (stmt.Assign id value line)
assign_added x y t id value line p l = record {
  below = search;
  stands = (omega (arith, p.put.place, ap (λ (d : Design). length d.targets) p.put.is, length-append x.targets (t ∷ [])), omega (arith, l, p.grows.stays.exprs));
}

pub one_put : (x y z : Design) (a b : List Own) (s : ℕ) (t : Target) (id : TargetId) (value : ExprId) (line : ℕ) → AreOwned x a → value.place < length x.exprs → TargetAdded x y t id.place → is_plain_target s (node_target (term x) (design.target x) t) ≡ true
    → PutOne y z a b s (node_stmt (term y) (design.target y) (design.stmt y) (stmt.Assign id value line)) (node_lines_of y s (stmt.Assign id value line))
    → Put x z a b (one (tree.Assign (node_target (term x) (design.target x) t) (term x value.place))) (target_lines (node_target (term x) (design.target x) t) line)
one_put x y z a b s t id value line h l put plain p =
    let own = node_target (term x) (design.target x) t in
    let q = subst (λ (e : Term). PutOne y z a b s (tree.Assign (design.target y id.place) e) (target_lines (design.target y id.place) line s)) (put.grows.stays.terms value.place l) p in
    own_put x y z a b s line own (term x value.place) put.grows h plain (subst (λ (u : tree.Target). PutOne y z a b s (tree.Assign u (term x value.place)) (target_lines u line s)) put.put.tree q)

-- ---- conditions

split_first : (k : ℕ) (c : Term) (b rest : Block) → split_block k (first_branch c b tree.NoBranch Done rest) ≡ lone_if c (split_block k b) (split_block k rest)
split_first k c Done Done = refl
split_first k c Done (Then s ss) = append_done (lone_if c Done (split_block k (Then s ss)))
split_first k c (Then s ss) rest = append_done (lone_if c (split_block k (Then s ss)) (split_block k rest))

split_when : (k : ℕ) (c : Term) (b : Block) → split_block k (when c b) ≡ lone_if c (split_block k b) Done
split_when k c b = append_done (lone_if c (split_block k b) Done)

first_when : (c : Term) (b : Block) → first_branch c b tree.NoBranch Done Done ≡ some_when c b
first_when c Done = refl
first_when c (Then s ss) = refl

-- what was put from nothing
pub own_new : {x y : Design} {a : List Own} {b : Block} {ls : ℕ → List Assigned} (k : ℕ) → Put x y [] a b ls → k < length y.signals → own y a k ≡ split_block k b
own_new k p l = p.own k l

pub lines_new : {x y : Design} {a : List Own} {b : Block} {ls : ℕ → List Assigned} (k : ℕ) → Put x y [] a b ls → k < length y.signals → own_lines y a k ≡ ls k
lines_new k p l = p.lines k l

-- what lists have for each signal: a block's statements and these lines
pub record Holds (d : Design) (os : List Own) (b : Block) (ls : ℕ → List Assigned) : Type 0 where
  pub owned : AreOwned d os
  pub own : (k : ℕ) → k < length d.signals → own d os k ≡ split_block k b
  pub lines : (k : ℕ) → k < length d.signals → own_lines d os k ≡ ls k

pub holds_new : {x y : Design} {a : List Own} {b : Block} {ls : ℕ → List Assigned} → Put x y [] a b ls → Holds y a b ls
holds_new p = record { owned = p.owned; own = p.own; lines = p.lines }

pub holds_none : (d : Design) → Holds d [] Done no_lines
holds_none d = record { owned = search; own = λ k l. refl; lines = λ k l. refl }

pub holds_kept : {x y : Design} {a : List Own} {b : Block} {ls : ℕ → List Assigned} → Grows x y → Holds x a b ls → Holds y a b ls
holds_kept {a = a} g h = record {
  owned = owned_kept a g h.owned;
  own = λ k l. own_kept a k g h.owned ∙ h.own k (omega (arith, as_many g));
  lines = λ k l. own_lines_kept a k g h.owned ∙ h.lines k (omega (arith, as_many g));
}

pub holds_is : {d : Design} {a : List Own} {b c : Block} {ls : ℕ → List Assigned} → b ≡ c → Holds d a b ls → Holds d a c ls
holds_is {d} {a} {ls = ls} e h = subst (λ (w : Block). Holds d a w ls) e h

-- under a condition, with a rest
pub under_put : (c : ℕ) (s r : Block) {x z w : Design} {then_ else_ a b : List Own} {t : Term} {line : ℕ} {ls ms : ℕ → List Assigned} → Grows x z → AreOwned x a → Holds z then_ s ls → Holds z else_ r ms → term z c ≡ t
    → PutUnder z w a b (term z c) then_ else_ line → Put x w a b (first_branch t s tree.NoBranch Done r) (both_lines (under_each line ls) (under_each line ms))
under_put c s r {x = x} {z = z} {then_ = then_} {else_ = else_} {a = a} {t = t} {line = line} {ls = ls} {ms = ms} g h f e q p = record {
  grows = grows_then g p.grows;
  owned = p.owned;
  own = λ k l.
      let m : k < length z.signals = omega (arith, as_many p.grows) in
      p.own k l
      ∙ ap (λ (u : Block). append u (lone_if (term z c) (own z then_ k) (own z else_ k))) (own_kept a k g h)
      ∙ ap (append (own x a k))
      (ap (λ (u : Term). lone_if u (own z then_ k) (own z else_ k)) q
      ∙ ap (λ (u : Block). lone_if t u (own z else_ k)) (f.own k m)
      ∙ ap (lone_if t (split_block k s)) (e.own k m)
      ∙ sym (split_first k t s r));
  lines = λ k l.
      let m : k < length z.signals = omega (arith, as_many p.grows) in
      p.lines k l
      ∙ ap (λ (xs : List Assigned). xs ++ under line (own_lines z then_ k ++ own_lines z else_ k)) (own_lines_kept a k g h)
      ∙ ap (λ (xs : List Assigned). own_lines x a k ++ under line (xs ++ own_lines z else_ k)) (f.lines k m)
      ∙ ap (λ (xs : List Assigned). own_lines x a k ++ under line (ls k ++ xs)) (e.lines k m)
      ∙ ap (λ (xs : List Assigned). own_lines x a k ++ xs) (under_append line (ls k) (ms k));
}

-- under a condition alone
pub some_under : (c : ℕ) (s : Block) {x z w : Design} {then_ a b : List Own} {t : Term} {line : ℕ} {ls : ℕ → List Assigned} → Grows x z → AreOwned x a → Holds z then_ s ls → term z c ≡ t → PutUnder z w a b (term z c) then_ [] line → Put x w a b (some_when t s) (under_each line ls)
some_under c s {x = x} {z = z} {w = w} {then_ = then_} {a = a} {b = b} {t = t} {line = line} {ls = ls} g h f q p =
    put_lines (λ k. append-nil (under line (ls k))) (put_is (first_when t s) (under_put c s Done {x = x} {z = z} {w = w} {then_ = then_} {else_ = []} {a = a} {b = b} {t = t} {line = line} {ls = ls} {ms = no_lines} g h f (holds_none z) q p))

pub when_under : (c : ℕ) (s : Block) {x z w : Design} {then_ a b : List Own} {t : Term} {line : ℕ} {ls : ℕ → List Assigned} → Grows x z → AreOwned x a → Holds z then_ s ls → term z c ≡ t → PutUnder z w a b (term z c) then_ [] line → Put x w a b (when t s) (under_each line ls)
when_under c s {x = x} {z = z} {then_ = then_} {a = a} {t = t} {line = line} {ls = ls} g h f q p = record {
  grows = grows_then g p.grows;
  owned = p.owned;
  own = λ k l.
      let m : k < length z.signals = omega (arith, as_many p.grows) in
      p.own k l
      ∙ ap (λ (u : Block). append u (lone_if (term z c) (own z then_ k) Done)) (own_kept a k g h)
      ∙ ap (append (own x a k)) (ap (λ (u : Term). lone_if u (own z then_ k) Done) q ∙ ap (λ (u : Block). lone_if t u Done) (f.own k m) ∙ sym (split_when k t s));
  lines = λ k l.
      let m : k < length z.signals = omega (arith, as_many p.grows) in
      p.lines k l
      ∙ ap (λ (xs : List Assigned). xs ++ under line (own_lines z then_ k ++ [])) (own_lines_kept a k g h)
      ∙ ap (λ (xs : List Assigned). own_lines x a k ++ under line xs) (append-nil (own_lines z then_ k) ∙ f.lines k m);
}

-- ---- some of the statements that are to be put

pub some_start : (x : Design) (a : List Own) (w : Block) (ls : ℕ → List Assigned) → AreOwned x a → PutSome x x a a w w ls ls
some_start x a w ls h = record { grows = grows_same x; owned = h; own = λ k l. refl; lines = λ k l. refl }

pub some_more : {x y z : Design} {a b c : List Own} {w s r : Block} {ls ms ns : ℕ → List Assigned} → PutSome x y a b w (append s r) ls (both_lines ms ns) → Put y z b c s ms → PutSome x z a c w r ls ns
some_more {y = y} {b = b} {s = s} {r = r} {ms = ms} {ns = ns} p q = record {
  grows = grows_then p.grows q.grows;
  owned = q.owned;
  own = λ k l.
      ap (λ (v : Block). append v (split_block k r)) (q.own k l)
      ∙ append_all (own y b k) (split_block k s) (split_block k r)
      ∙ ap (append (own y b k)) (sym (split_append k s r))
      ∙ p.own k (omega (arith, as_many q.grows));
  lines = λ k l.
      ap (λ (xs : List Assigned). xs ++ ns k) (q.lines k l)
      ∙ append_assoc (own_lines y b k) (ms k) (ns k)
      ∙ p.lines k (omega (arith, as_many q.grows));
}

pub some_last : {x y z : Design} {a b c : List Own} {w r : Block} {ls ms : ℕ → List Assigned} → PutSome x y a b w r ls ms → Put y z b c r ms → Put x z a c w ls
some_last p q = record {
  grows = grows_then p.grows q.grows;
  owned = q.owned;
  own = λ k l. q.own k l ∙ p.own k (omega (arith, as_many q.grows));
  lines = λ k l. q.lines k l ∙ p.lines k (omega (arith, as_many q.grows));
}

pub some_is : {x y : Design} {a b : List Own} {w r q : Block} {ls ms : ℕ → List Assigned} → r ≡ q → PutSome x y a b w r ls ms → PutSome x y a b w q ls ms
some_is {x} {y} {a} {b} {w} {ls = ls} {ms = ms} e p = subst (λ (v : Block). PutSome x y a b w v ls ms) e p

pub some_lines : {x y : Design} {a b : List Own} {w r : Block} {ls ms ns : ℕ → List Assigned} → ((k : ℕ) → ms k ≡ ns k) → PutSome x y a b w r ls ms → PutSome x y a b w r ls ns
some_lines {y = y} {b = b} e p = record { grows = p.grows; owned = p.owned; own = p.own; lines = λ k l. ap (λ (xs : List Assigned). own_lines y b k ++ xs) (sym (e k)) ∙ p.lines k l }

pub some_grown : {x y z : Design} {a b : List Own} {w r : Block} {ls ms : ℕ → List Assigned} → PutSome x y a b w r ls ms → Grows y z → PutSome x z a b w r ls ms
some_grown {b = b} {r = r} {ms = ms} p g = record {
  grows = grows_then p.grows g;
  owned = owned_kept b g p.owned;
  own = λ k l. ap (λ (v : Block). append v (split_block k r)) (own_kept b k g p.owned) ∙ p.own k (omega (arith, as_many g));
  lines = λ k l. ap (λ (xs : List Assigned). xs ++ ms k) (own_lines_kept b k g p.owned) ∙ p.lines k (omega (arith, as_many g));
}

pub some_all : {x y : Design} {a b : List Own} {w : Block} {ls ms : ℕ → List Assigned} → ((k : ℕ) → ms k ≡ []) → PutSome x y a b w Done ls ms → Put x y a b w ls
some_all {y = y} {b = b} e p = record {
  grows = p.grows;
  owned = p.owned;
  own = λ k l. sym (append_done (own y b k)) ∙ p.own k l;
  lines = λ k l. sym (append-nil (own_lines y b k)) ∙ ap (λ (xs : List Assigned). own_lines y b k ++ xs) (sym (e k)) ∙ p.lines k l;
}
