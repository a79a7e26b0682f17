-- Lists of statements, one for each signal.
use Rattle.std.proofs.Common.{◌≡◌, ℕ, zero, suc, ◌+◌, ◌<◌, ◌≤◌, Bool, true, false, cond, nat_lt, nat_eq, List, [], ◌∷◌, ◌++◌, length, take, get_or, set, map, refl, sym, ap, ◌∙◌, subst, arith, inl, inr, eq-eqb, eqb-true}
use Rattle.std.specs.Prelude.{ℤ, Option, Some, None, slice_index_or}
use Rattle.std.specs.List.{flat_map}
use Rattle.std.proofs.Math.ListN.{length-set}
use Rattle.std.proofs.lemmas.Bool.{cases_lt, and_parts, and_from, eqb-false, lt-ltb, ltb-true}
use Rattle.std.proofs.lemmas.List.{append-nil, get_or-set_other, get_or-set_same, get_or_append_left, get_or_push, get_or_default, length_push, length-map, take_all, take_more}
use Rattle.lx_num.specs.declared.Shape.{Shape}
use Rattle.lx_circuit.specs.Circuit.{Made, nothing}
use Rattle.lx_circuit.specs.Shapes.{Shapes}
use Rattle.lx_circuit.specs.Statements as tree
use Rattle.lx_circuit.specs.Statements.{Block}
use Rattle.lx_circuit.specs.Terms.{Constant}
use Rattle.lx_fhdl.specs.Below.{ExprId, StmtId, TargetId, all_stmts_below}
use Rattle.lx_fhdl.specs.Designs as design
use Rattle.lx_fhdl.specs.Designs.{block, circuit_of, made_of, shapes, term}
use Rattle.lx_fhdl.specs.Drafts.{CanAddTarget, DraftKeeps}
use Rattle.lx_fhdl.specs.Lowered.{are_for}
use Rattle.lx_fhdl.specs.Nodes.{IsSmall}
use Rattle.lx_fhdl.specs.declared.design.Design.{Design}
use Rattle.lx_fhdl.specs.declared.design.Signal.{Signal}
use Rattle.lx_fhdl.specs.declared.design.SyncPart.{SyncPart}
use Rattle.lx_fhdl.specs.declared.exprs.SigId.{SigId}
use Rattle.lx_fhdl.specs.declared.stmts.Stmt.TheVariants as stmt
use Rattle.lx_fhdl.specs.declared.stmts.Target.TheVariants as target
use Rattle.lx_lowering.specs.Constants.{block_reads_none, folded}
use Rattle.lx_lowering.specs.Flat.{append, one}
use Rattle.lx_lowering.specs.Lowering.{lists_from}
use Rattle.lx_lowering.specs.Split.{split_block}
use Rattle.lx_lower.specs.Fixed.{chosen, chosen_lines, constant_in, folded_in, reset_of}
use Rattle.lx_plain.specs.Lines.{Assigned, alone, folded_lines, lines, lines_at, lines_in, target_lines}
use Rattle.lx_lower.specs.Lists.{AreBySignal, AreFolds, AreForSignals, AreThere, IsFor, ListPut, ListsPut, OnePut, PartsPut, all_lists, fold_at, fold_lines, folded_lines_of, folded_lists, folded_of, list_at, part_at, split_of, sync_lines, sync_lists}
use Rattle.lx_plain.specs.Owned.{Put, ids_of}
use Rattle.lx_plain.specs.Plain.{Grows, StmtAdded, TargetAdded, TermPut}
use Rattle.lx_flat.specs.Puts.{lines_for}
use Rattle.lx_lower.specs.declared.fold.Folded.{Folded}
use Rattle.lx_plain.specs.declared.owned.Own.{Own}
use Rattle.lx_lower.proofs.Alone.{block_others}
use Rattle.lx_plain.proofs.Puts.{as_many, block_append, block_kept, ids_append, ids_there, lines_append, lines_kept}
use Rattle.lx_plain.proofs.Sound.{grows_same, grows_then, same_shapes}

-- ---- statements by signals

pub none_by_signal : (os : List Own) (lists : List (List StmtId)) → lists ≡ [] → AreBySignal 0 os lists
none_by_signal os lists e = record { long = ap length e; each = λ x l. absurd (omega arith) }

pub one_by_signal : (n : ℕ) (lists more : List (List StmtId)) (list : List StmtId) → AreBySignal n [] lists → list ≡ [] → more ≡ lists ++ list ∷ [] → AreBySignal (n + 1) [] more
one_by_signal n lists more list h e f = subst (AreBySignal (n + 1) []) (sym f) (record {
  long = length_push lists list ∙ ap (λ (k : ℕ). k + 1) h.long;
  each = λ x l.
      elim (cases_lt x n) [
        | inl p ↦ get_or_append_left lists (list ∷ []) [] x (omega (arith, h.long)) ∙ h.each x p
        | inr p ↦ let q : n ≡ x = omega arith in get_or_push lists list [] x (h.long ∙ q) ∙ e
      ];
})

-- a statement more
pub more_by_signal : (n : ℕ) (os : List Own) (k : ℕ) (o d : Own) (lists more : List (List StmtId)) (list e : List StmtId) → k < length os → o ≡ get_or os k d → o.signal.0 < n → AreBySignal n (take k os) lists
    → list ≡ get_or lists o.signal.0 e ++ o.stmt ∷ [] → more ≡ set lists o.signal.0 list → AreBySignal n (take (k + 1) os) more
more_by_signal n os k o d lists more list e l same within h is made = subst (AreBySignal n (take (k + 1) os)) (sym made) (record {
  long = length-set lists x list ∙ h.long;
  each = λ y m. by_signal y m (nat_eq x y) refl;
})
  where
    x : ℕ
    x = o.signal.0

    there : x < length lists
    there = omega (arith, h.long)

    next : (y : ℕ) → ids_of y (take (k + 1) os) ≡ ids_of y (take k os) ++ cond (nat_eq x y) (o.stmt ∷ []) []
    next y = ap (ids_of y) (take_more os k d l ∙ ap (λ (z : Own). take k os ++ z ∷ []) (sym same)) ∙ ids_append y (take k os) (o ∷ [])

    by_signal : (y : ℕ) → y < n → (b : Bool) → nat_eq x y ≡ b → list_at (set lists x list) y ≡ ids_of y (take (k + 1) os)
    by_signal y m true q =
        let is_same : x ≡ y = eqb-true x y q in
        subst (λ (z : ℕ). list_at (set lists x list) z ≡ ids_of z (take (k + 1) os)) is_same
        (get_or-set_same lists x list [] there
        ∙ is
        ∙ ap (λ (ids : List StmtId). ids ++ o.stmt ∷ []) (get_or_default lists x e [] there ∙ h.each x within)
        ∙ sym (next x ∙ ap (λ (b : Bool). ids_of x (take k os) ++ cond b (o.stmt ∷ []) []) (eq-eqb x x refl)))
    by_signal y m false q =
        get_or-set_other lists x y list [] (λ f. eqb-false x y q (sym f))
        ∙ h.each y m
        ∙ sym (append-nil (ids_of y (take k os)))
        ∙ sym (next y ∙ ap (λ (b : Bool). ids_of y (take k os) ++ cond b (o.stmt ∷ []) []) q)

pub all_by_signal : (n : ℕ) (os : List Own) (k : ℕ) (lists : List (List StmtId)) → length os ≤ k → AreBySignal n (take k os) lists → AreBySignal n os lists
all_by_signal n os k lists l h = subst (λ (ws : List Own). AreBySignal n ws lists) (take_all k os l) h

-- the lists of what flat statements assign to each signal
pub split_put : (x y : Design) (os : List Own) (b : Block) (ls : ℕ → List Assigned) (lists : List (List StmtId)) → ((k : ℕ) → are_for k (split_block k b) ≡ true) → Put x y [] os b ls → AreBySignal (length y.signals) os lists
    → ListsPut x y (length y.signals) lists (λ k. split_block k b) ls
split_put x y os b ls lists alone p h = record {
  grows = p.grows;
  long = h.long;
  there = λ k l. subst (λ (ids : List StmtId). AreThere y ids) (sym (h.each k l)) (ids_there y k os p.owned);
  blocks = λ k l. ap (block y) (h.each k l) ∙ p.own k l;
  alone = λ k l. ap (are_for k) (ap (block y) (h.each k l) ∙ p.own k l) ∙ alone k;
  lines = λ k l. ap (lines y k) (h.each k l) ∙ p.lines k l;
}

stmts_wider : (n m : ℕ) (ids : List StmtId) → n ≤ m → all_stmts_below n ids ≡ true → all_stmts_below m ids ≡ true
stmts_wider n m [] l h = refl
stmts_wider n m (i ∷ is) l h =
    let p = and_parts (nat_lt i.place n) (all_stmts_below n is) h in
    let q = ltb-true i.place n p.0 in
    and_from (nat_lt i.place m) (all_stmts_below m is) (lt-ltb i.place m (omega arith)) (stmts_wider n m is l p.1)

pub there_kept : {x y : Design} (ids : List StmtId) → Grows x y → AreThere x ids → AreThere y ids
there_kept {x} {y} ids g h = search (stmts_wider (length x.stmts) (length y.stmts) ids g.stays.stmts (search h))

-- the resets too
pub same_reset : (d y : Design) (k : ℕ) → y.signals ≡ d.signals → reset_of y k ≡ reset_of d k
unfolding circuit_of
same_reset d y k e = ap (λ (ss : List Signal). (slice_index_or (map made_of ss) k nothing).reset) e

-- ---- all lists, one after the other

pub below_both : (n : ℕ) (a b : List StmtId) → all_stmts_below n a ≡ true → all_stmts_below n b ≡ true → all_stmts_below n (a ++ b) ≡ true
below_both n [] b p q = q
below_both n (i ∷ is) b p q =
    let r = and_parts (nat_lt i.place n) (all_stmts_below n is) p in
    and_from (nat_lt i.place n) (all_stmts_below n (is ++ b)) r.0 (below_both n is b r.1 q)

joined_from : (x : Design) (lists : List (List StmtId)) (f : ℕ → Block) (k : ℕ) (ms : List Made) → length lists ≡ length ms → ((j : ℕ) → j < length lists → block x (list_at lists j) ≡ f (k + j)) → block x (flat_map (λ ids. ids) lists) ≡ lists_from f k ms
joined_from x [] f k [] e h = refl
joined_from x [] f k (m ∷ ms) e h = absurd (omega arith)
joined_from x (list ∷ ls) f k [] e h = absurd (omega arith)
joined_from x (list ∷ ls) f k (m ∷ ms) e h =
    let here : block x list ≡ f k = h 0 (omega arith) ∙ ap f (omega arith) in
    block_append (design.stmt x) list (flat_map (λ ids. ids) ls)
    ∙ ap (λ (b : Block). append b (block x (flat_map (λ ids. ids) ls))) here
    ∙ ap (append (f k)) (joined_from x ls f (k + 1) ms (omega arith) (λ j l. h (suc j) (omega arith) ∙ ap f (omega arith)))

joined_there : (n : ℕ) (lists : List (List StmtId)) → ((j : ℕ) → j < length lists → all_stmts_below n (list_at lists j) ≡ true) → all_stmts_below n (flat_map (λ ids. ids) lists) ≡ true
joined_there n [] h = refl
joined_there n (list ∷ ls) h = below_both n list (flat_map (λ ids. ids) ls) (h 0 (omega arith)) (joined_there n ls (λ j l. h (suc j) (omega arith)))

-- the lines for one signal: all lists but its own have none
none_joined : (f : ℕ → List Assigned) (lists : List (List StmtId)) → ((j : ℕ) → j < length lists → lines_in f (list_at lists j) ≡ []) → lines_in f (flat_map (λ ids. ids) lists) ≡ []
none_joined f [] h = refl
none_joined f (list ∷ ls) h =
    lines_append f list (flat_map (λ ids. ids) ls)
    ∙ ap (λ (xs : List Assigned). xs ++ lines_in f (flat_map (λ ids. ids) ls)) (h 0 (omega arith))
    ∙ none_joined f ls (λ j l. h (suc j) (omega arith))

one_joined : (f : ℕ → List Assigned) (lists : List (List StmtId)) (k : ℕ) → k < length lists → ((j : ℕ) → j < length lists → (k ≡ j → ⊥) → lines_in f (list_at lists j) ≡ []) → lines_in f (flat_map (λ ids. ids) lists) ≡ lines_in f (list_at lists k)
one_joined f [] k l h = absurd (omega arith)
one_joined f (list ∷ ls) zero l h =
    lines_append f list (flat_map (λ ids. ids) ls)
    ∙ ap (λ (xs : List Assigned). lines_in f list ++ xs) (none_joined f ls (λ j m. h (suc j) (omega arith) (λ e. omega (arith, e))))
    ∙ append-nil (lines_in f list)
one_joined f (list ∷ ls) (suc k) l h =
    lines_append f list (flat_map (λ ids. ids) ls)
    ∙ ap (λ (xs : List Assigned). xs ++ lines_in f (flat_map (λ ids. ids) ls)) (h 0 (omega arith) (λ e. omega (arith, e)))
    ∙ one_joined f ls k (omega arith) (λ j m apart. h (suc j) (omega arith) (λ e. apart (omega (arith, e))))

pub joined_put : (ss : List Signal) (x y : Design) (lists : List (List StmtId)) (list : List StmtId) (f : ℕ → Block) (ls : ℕ → List Assigned) → DraftKeeps y → y.signals ≡ ss → ListsPut x y (length y.signals) lists f ls → list ≡ flat_map (λ ids. ids) lists
    → ListPut x y list (all_lists ss f) ls
joined_put ss x y lists list f ls keeps same h e =
    let many : length lists ≡ length ss = h.long ∙ ap length same in
    rw e (record {
      grows = h.grows;
      there = search (joined_there (length y.stmts) lists (λ j l. search (h.there j (omega (arith, h.long)))));
      block = joined_from y lists f 0 (map made_of ss) (many ∙ sym (length-map ss made_of)) (λ j l. h.blocks j (omega (arith, h.long)) ∙ ap f (omega arith));
      lines = λ s l.
          one_joined (lines_at y s) lists s (omega (arith, h.long)) (λ j m apart. let n : j < length y.signals = omega (arith, h.long) in block_others y j s (list_at lists j) keeps (h.there j n) (h.alone j n) (λ q. apart (sym q)))
          ∙ h.lines s l;
    })

lists_same : (f g : ℕ → Block) (k : ℕ) (ms : List Made) → ((j : ℕ) → j < k + length ms → f j ≡ g j) → lists_from f k ms ≡ lists_from g k ms
lists_same f g k [] h = refl
lists_same f g k (m ∷ ms) h =
    ap (λ (b : Block). append b (lists_from f (k + 1) ms)) (h k (omega arith))
    ∙ ap (append (g k)) (lists_same f g (k + 1) ms (λ j l. h j (omega arith)))

all_same : (ss : List Signal) (f g : ℕ → Block) → ((j : ℕ) → j < length ss → f j ≡ g j) → all_lists ss f ≡ all_lists ss g
all_same ss f g h = lists_same f g 0 (map made_of ss) (λ j l. h j (omega (arith, length-map ss made_of)))

-- ---- lists that are folded

pub copied_put : (x : Design) (s : ℕ) (ids list : List StmtId) (o : Option Folded) → IsFor x s ids → o ≡ None → list ≡ ids → OnePut x x s list (chosen x s o (block x ids)) (chosen_lines o (lines x s ids))
copied_put x s ids list o h e f = rw (e, f) (record { grows = grows_same x; there = h.there; block = refl; alone = h.alone; lines = refl })

-- the assignment of a constant
pub constant_put : (x y z w : Design) (list : List StmtId) (s : SigId) (number : ℤ) (shape : Shape) (value : ExprId) (t : TargetId) (id : StmtId) (line : ℕ) → shape ≡ shapes x s.0 → TermPut x y value.place (Constant number shape)
    → TargetAdded y z (target.Whole s) t.place → StmtAdded z w (stmt.Assign t value line) id.place → list ≡ id ∷ [] → OnePut x w s.0 list (constant_in x s.0 number) (alone line ∷ [])
constant_put x y z w list s number shape value t id line same p q r made =
    let within : id.place < length w.stmts = omega (arith, r.put.place, ap (λ (d : Design). length d.stmts) r.put.is, length_push z.stmts (stmt.Assign t value line)) in
    let value_is : term z value.place ≡ Constant number (shapes x s.0) = q.grows.stays.terms value.place p.within ∙ p.tree ∙ ap (Constant number) same in
    let tree_is : design.stmt w id.place ≡ tree.Assign (tree.Whole s.0) (Constant number (shapes x s.0)) =
    r.put.tree ∙ ap (λ (u : tree.Target). tree.Assign u (term z value.place)) q.put.tree ∙ ap (tree.Assign (tree.Whole s.0)) value_is in
    let block_is : block w (id ∷ []) ≡ constant_in x s.0 number = ap one tree_is in
    let line_is : lines_at w s.0 id.place ≡ alone line ∷ [] =
    r.lines s.0 ∙ ap (λ (u : tree.Target). target_lines u line s.0) q.put.tree ∙ ap (λ (b : Bool). cond b (alone line ∷ []) []) (eq-eqb s.0 s.0 refl) in
    rw made (record {
      grows = grows_then p.grows (grows_then q.grows r.grows);
      there = search (and_from (nat_lt id.place (length w.stmts)) true (lt-ltb id.place (length w.stmts) within) refl);
      block = block_is;
      alone = ap (are_for s.0) block_is ∙ and_from (nat_eq s.0 s.0) true (eq-eqb s.0 s.0 refl) refl;
      lines = append-nil (lines_at w s.0 id.place) ∙ line_is;
    })

-- a whole signal as a target
pub whole_there : (x y : Design) (s : SigId) (shape : Shape) → Grows x y → s.0 < length x.signals → shape ≡ shapes x s.0 → IsSmall shape → CanAddTarget y (target.Whole s)
whole_there x y s shape g l e h = record {
  below = search;
  stands = omega (arith, as_many g, l);
  bits = omega (arith, h.most, ap (λ (a : Shape). a.bits) e, ap (λ (f : Shapes). (f s.0).bits) (same_shapes x y g.signals));
}

-- ---- the next list

pub shown_is : (lists : List (List StmtId)) (k : ℕ) (item shown : List StmtId) → k < length lists → item ≡ get_or lists k item → shown ≡ item → shown ≡ list_at lists k
shown_is lists k item shown l e f = f ∙ e ∙ get_or_default lists k item [] l

pub shown_for : (x y : Design) (lists : List (List StmtId)) (k : ℕ) (shown : List StmtId) → Grows x y → AreForSignals x lists → k < length lists → shown ≡ list_at lists k → IsFor y k shown
shown_for x y lists k shown g h l e =
    let m : k < length x.signals = omega (arith, h.long) in
    let there = h.there k m in
    subst (λ (is : List StmtId). IsFor y k is) (sym e) (record { signal = omega (arith, m, as_many g); there = there_kept (list_at lists k) g there; alone = ap (are_for k) (block_kept (list_at lists k) g there) ∙ h.alone k m })

pub shown_alone : (x : Design) (lists : List (List StmtId)) (k : ℕ) (shown : List StmtId) → AreForSignals x lists → k < length lists → shown ≡ list_at lists k → are_for k (block x shown) ≡ true
shown_alone x lists k shown h l e = ap (λ (is : List StmtId). are_for k (block x is)) e ∙ h.alone k (omega (arith, h.long))

same_chosen : (x y : Design) (k : ℕ) (o : Option Folded) (b : Block) → Grows x y → chosen y k o b ≡ chosen x k o b
same_chosen x y k None b g = refl
same_chosen x y k (Some f) b g = ap (λ (s : Shapes). one (tree.Assign (tree.Whole k) (Constant f.value (s k)))) (same_shapes x y g.signals)

pub folds_none : (x : Design) (lists : List (List StmtId)) (folds : List (Option Folded)) → folds ≡ [] → AreFolds x lists 0 folds
folds_none x lists folds e = record { long = ap length e; each = λ k l. absurd (omega arith); lines = λ k l. absurd (omega arith) }

-- a fact of each fold, and of one more
each_fold : (P : ℕ → Option Folded → Type 0) (n : ℕ) (folds : List (Option Folded)) (fold : Option Folded) → length folds ≡ n → ((k : ℕ) → k < n → P k (fold_at folds k)) → P n fold → (k : ℕ) → k < n + 1 → P k (fold_at (folds ++ fold ∷ []) k)
each_fold P n folds fold long h e k l =
    elim (cases_lt k n) [
      | inl p ↦ subst (P k) (sym (get_or_append_left folds (fold ∷ []) None k (omega arith))) (h k p)
      | inr p ↦
          let q : n ≡ k = omega arith in
          subst (P k) (sym (get_or_push folds fold None k (long ∙ q))) (subst (λ (j : ℕ). P j fold) q e)
    ]

pub folds_more : (x : Design) (lists : List (List StmtId)) (n : ℕ) (folds more : List (Option Folded)) (fold : Option Folded) (shown : List StmtId) → AreFolds x lists n folds → shown ≡ list_at lists n
    → chosen x n fold (block x shown) ≡ folded_in x n (block x shown) → chosen_lines fold (lines x n shown) ≡ folded_lines (block_reads_none (block x shown)) (lines x n shown) → more ≡ folds ++ fold ∷ [] → AreFolds x lists (n + 1) more
folds_more x lists n folds more fold shown h e f g made = rw made (record {
  long = length_push folds fold ∙ ap (λ (k : ℕ). k + 1) h.long;
  each = each_fold (λ k o. chosen x k o (block x (list_at lists k)) ≡ folded_lists x lists k) n folds fold h.long h.each (subst (λ (is : List StmtId). chosen x n fold (block x is) ≡ folded_in x n (block x is)) e f);
  lines = each_fold (λ k o. chosen_lines o (lines x k (list_at lists k)) ≡ folded_lines (block_reads_none (block x (list_at lists k))) (lines x k (list_at lists k))) n folds fold h.long h.lines
      (subst (λ (is : List StmtId). chosen_lines fold (lines x n is) ≡ folded_lines (block_reads_none (block x is)) (lines x n is)) e g);
})

-- ---- lists that are made one after the other

pub lists_none : (x : Design) (lists : List (List StmtId)) (f : ℕ → Block) (ls : ℕ → List Assigned) → lists ≡ [] → ListsPut x x 0 lists f ls
lists_none x lists f ls e = record {
  grows = grows_same x;
  long = ap length e;
  there = λ k l. absurd (omega arith);
  blocks = λ k l. absurd (omega arith);
  alone = λ k l. absurd (omega arith);
  lines = λ k l. absurd (omega arith);
}

-- a fact of each list, and of one more
each_list : (P : ℕ → List StmtId → Type 0) (n : ℕ) (lists : List (List StmtId)) (list : List StmtId) → length lists ≡ n → ((k : ℕ) → k < n → P k (list_at lists k)) → P n list → (k : ℕ) → k < n + 1 → P k (list_at (lists ++ list ∷ []) k)
each_list P n lists list long h e k l =
    elim (cases_lt k n) [
      | inl p ↦ subst (P k) (sym (get_or_append_left lists (list ∷ []) [] k (omega arith))) (h k p)
      | inr p ↦
          let q : n ≡ k = omega arith in
          subst (P k) (sym (get_or_push lists list [] k (long ∙ q))) (subst (λ (j : ℕ). P j list) q e)
    ]

pub lists_more : (u x y : Design) (n : ℕ) (lists more : List (List StmtId)) (list : List StmtId) (f : ℕ → Block) (ls : ℕ → List Assigned) (b : Block) (bl : List Assigned) → ListsPut u x n lists f ls → OnePut x y n list b bl → b ≡ f n → bl ≡ ls n → more ≡ lists ++ list ∷ [] → ListsPut u y (n + 1) more f ls
lists_more u x y n lists more list f ls b bl h p e d made = rw made (record {
  grows = grows_then h.grows p.grows;
  long = length_push lists list ∙ ap (λ (k : ℕ). k + 1) h.long;
  there = each_list (λ k is. AreThere y is) n lists list h.long (λ k l. there_kept (list_at lists k) p.grows (h.there k l)) p.there;
  blocks = each_list (λ k is. block y is ≡ f k) n lists list h.long (λ k l. block_kept (list_at lists k) p.grows (h.there k l) ∙ h.blocks k l) (p.block ∙ e);
  alone = each_list (λ k is. are_for k (block y is) ≡ true) n lists list h.long (λ k l. ap (are_for k) (block_kept (list_at lists k) p.grows (h.there k l)) ∙ h.alone k l) p.alone;
  lines = each_list (λ k is. lines y k is ≡ ls k) n lists list h.long (λ k l. lines_kept k (list_at lists k) p.grows (h.there k l) ∙ h.lines k l) (p.lines ∙ d);
})

pub lists_all : (u x : Design) (n m : ℕ) (lists : List (List StmtId)) (f : ℕ → Block) (ls : ℕ → List Assigned) → n ≡ m → ListsPut u x n lists f ls → ListsPut u x m lists f ls
lists_all u x n m lists f ls e h = subst (λ (k : ℕ). ListsPut u x k lists f ls) e h

-- one that is folded
pub folded_more : (u x y : Design) (k : ℕ) (lists outs more : List (List StmtId)) (folds : List (Option Folded)) (fold d : Option Folded) (shown list : List StmtId) → AreForSignals u lists → AreFolds u lists (length u.signals) folds → k < length lists
    → shown ≡ list_at lists k → fold ≡ get_or folds k d → ListsPut u x k outs (folded_lists u lists) (fold_lines u lists folds) → OnePut x y k list (chosen x k fold (block x shown)) (chosen_lines fold (lines x k shown)) → more ≡ outs ++ list ∷ []
    → ListsPut u y (k + 1) more (folded_lists u lists) (fold_lines u lists folds)
folded_more u x y k lists outs more folds fold d shown list h m l e f p q made =
    let i : k < length u.signals = omega (arith, h.long) in
    let own = f ∙ get_or_default folds k d None (omega (arith, m.long, i)) in
    let old : block x shown ≡ block u (list_at lists k) = ap (block x) e ∙ block_kept (list_at lists k) p.grows (h.there k i) in
    let old_lines : lines x k shown ≡ lines u k (list_at lists k) = ap (lines x k) e ∙ lines_kept k (list_at lists k) p.grows (h.there k i) in
    let block_is : chosen x k fold (block x shown) ≡ folded_lists u lists k =
    same_chosen u x k fold (block x shown) p.grows ∙ ap (chosen u k fold) old ∙ ap (λ (o : Option Folded). chosen u k o (block u (list_at lists k))) own ∙ m.each k i in
    let lines_are : chosen_lines fold (lines x k shown) ≡ fold_lines u lists folds k = ap (chosen_lines fold) old_lines ∙ ap (λ (o : Option Folded). chosen_lines o (lines u k (list_at lists k))) own in
    lists_more u x y k outs more list (folded_lists u lists) (fold_lines u lists folds) (chosen x k fold (block x shown)) (chosen_lines fold (lines x k shown)) p q block_is lines_are made

-- the folded lists of a design's statements
pub comb_put : (d x y z : Design) (ids : List StmtId) (lists : List (List StmtId)) (folds : List (Option Folded)) (list : List StmtId) → y.signals ≡ d.signals → ListsPut x y (length y.signals) lists (split_of d ids) (lines_for d ids) → AreFolds y lists (length y.signals) folds
    → ListPut y z list (all_lists d.signals (folded_lists y lists)) (fold_lines y lists folds) → ListPut x z list (folded_of d ids) (folded_lines_of d ids)
comb_put d x y z ids lists folds list same h m p =
    let each = λ (j : ℕ) (l : j < length d.signals).
    ap (folded_in y j) (h.blocks j (omega (arith, ap length same))) ∙ ap (λ (f : Shapes). folded f j (reset_of y j) (split_of d ids j)) (same_shapes d y same) ∙ ap (λ (n : ℤ). folded (shapes d) j n (split_of d ids j)) (same_reset d y j same) in
    record {
      grows = grows_then h.grows p.grows;
      there = p.there;
      block = p.block ∙ all_same d.signals (folded_lists y lists) (λ j. folded_in d j (split_of d ids j)) each;
      lines = λ k l.
          let i : k < length y.signals = omega (arith, as_many p.grows, l) in
          p.lines k l
          ∙ m.lines k i
          ∙ ap (λ (b : Block). folded_lines (block_reads_none b) (lines y k (list_at lists k))) (h.blocks k i)
          ∙ ap (folded_lines (block_reads_none (split_of d ids k))) (h.lines k i);
    }

-- ---- parts

pub list_is : (x y : Design) (a : List StmtId) (s t : Block) (ls ms : ℕ → List Assigned) → s ≡ t → ((k : ℕ) → ls k ≡ ms k) → ListPut x y a s ls → ListPut x y a t ms
list_is x y a s t ls ms e f p = record { grows = p.grows; there = p.there; block = p.block ∙ e; lines = λ k l. p.lines k l ∙ f k }

pub parts_none : (d x : Design) (parts : List SyncPart) → parts ≡ [] → PartsPut d x x 0 parts
parts_none d x parts e = record {
  grows = grows_same x;
  are = record { long = ap length e; domain = λ k l. absurd (omega arith); there = λ k l. absurd (omega arith); blocks = λ k l. absurd (omega arith); lines = λ k s l. absurd (omega arith) };
}

-- a fact of each part, and of one more
each_part : (P : ℕ → SyncPart → Type 0) (n : ℕ) (parts : List SyncPart) (part : SyncPart) → length parts ≡ n → ((k : ℕ) → k < n → P k (part_at parts k)) → P n part → (k : ℕ) → k < n + 1 → P k (part_at (parts ++ part ∷ []) k)
each_part P n parts part long h e k l =
    let d : SyncPart = record { domain = 0; stmts = [] } in
    elim (cases_lt k n) [
      | inl p ↦ subst (P k) (sym (get_or_append_left parts (part ∷ []) d k (omega arith))) (h k p)
      | inr p ↦
          let q : n ≡ k = omega arith in
          subst (P k) (sym (get_or_push parts part d k (long ∙ q))) (subst (λ (j : ℕ). P j part) q e)
    ]

pub parts_more : (d u x y : Design) (n : ℕ) (parts more : List SyncPart) (stmts : List StmtId) → PartsPut d u x n parts → ListPut x y stmts (sync_lists d n) (sync_lines d n) → more ≡ parts ++ (record { domain = n; stmts = stmts }) ∷ [] → PartsPut d u y (n + 1) more
parts_more d u x y n parts more stmts h p made =
    let part : SyncPart = record { domain = n; stmts = stmts } in
    let g = sync_lists d in
    rw made (record {
      grows = grows_then h.grows p.grows;
      are = record {
        long = length_push parts part ∙ ap (λ (k : ℕ). k + 1) h.are.long;
        domain = each_part (λ k q. q.domain ≡ k) n parts part h.are.long h.are.domain refl;
        there = each_part (λ k q. AreThere y q.stmts) n parts part h.are.long (λ k l. there_kept (part_at parts k).stmts p.grows (h.are.there k l)) p.there;
        blocks = each_part (λ k q. block y q.stmts ≡ g k) n parts part h.are.long (λ k l. block_kept (part_at parts k).stmts p.grows (h.are.there k l) ∙ h.are.blocks k l) p.block;
        lines = λ k s l m. each_part (λ j q. lines y s q.stmts ≡ sync_lines d j s) n parts part h.are.long (λ j i. lines_kept s (part_at parts j).stmts p.grows (h.are.there j i) ∙ h.are.lines j s i (omega (arith, as_many p.grows, m))) (p.lines s m) k l;
      };
    })
