-- One port lowered: an order of the circuit's reads gives one of the result's.
use Rattle.std.proofs.Common.{◌≡◌, ℕ, pos, ◌<◌, ◌≤◌, ◌||◌, ◌&&◌, ◌^◌, Bool, true, false, length, min, refl, sym, ap, subst, ◌∙◌, arith, nat_eq, nat_lt, cond, eq-eqb, inl, inr}
use Rattle.std.proofs.Math.Bool.{or_assoc, or-false}
use Rattle.std.proofs.lemmas.Bool.{and_parts, eqb-true, ltb-false, ltb-true, ne_eqb, or_cases, or_left, or_right}
use Rattle.lx_circuit.specs.Circuit.{Circuit, Role, Input, Comb, Sync, Read, Undriven, memory_at, no_port, port_at, role, shapes}
use Rattle.lx_circuit.specs.Memories.{Mode, Async, WriteFirst, ReadFirst, NoChange, Port}
use Rattle.lx_circuit.specs.Places.{Place, At, Word, Kept, is_at, is_kept, is_word}
use Rattle.lx_circuit.specs.Reads.{HasOrder, names, reads_arm, reads_block, reads_branch, reads_in, role_reads, shown_reads, target_names}
use Rattle.lx_circuit.specs.Reads as statement
use Rattle.lx_circuit.specs.Statements.{Stmt, Assign, If, Case, Branches, NoBranch, Branch, Arms, NoArm, Arm, Block, Done, Then, Whole, is_target, drives, drives_branch, drives_arm, drives_block}
use Rattle.lx_circuit.specs.Terms.{Binary, Constant, Fetch, Mux, Signal}
use Rattle.lx_tables.specs.declared.operators.Op.TheVariants as op
use Rattle.lx_circuit.proofs.Cases.{by_test}
use Rattle.lx_lowering.specs.Flat.{one}
use Rattle.lx_lowering.proofs.Appends.{reads_append}
use Rattle.lx_memory.specs.Ports.{reads, silent, word_at, word_shape}
use Rattle.lx_memory.proofs.Changed.{changed_there}
use Rattle.lx_memory.proofs.Roles.{Shows, drives_past, known, ported, role_before, role_reader}
use Rattle.lx_memory.proofs.Settled.{other_port}
use Rattle.lx_memory.proofs.Simulated.{by_state, past_role}

-- ---- what is read is read for a signal that is assigned

mutual
  stmt_driven : (x : ℕ) (y : Place) (st : Stmt) → statement.reads x y st ≡ true → drives x st ≡ true
  stmt_driven x y (Assign t e) h = (and_parts (is_target x t) (names y e || target_names y t) h).0
  stmt_driven x y (If bs rest) h = branch_driven x y bs (drives_block x rest) (reads_block x y rest) (block_driven x y rest) h
  stmt_driven x y (Case on arms rest) h =
      elim (or_cases (names y on && (drives_arm x arms || drives_block x rest)) (reads_arm x y arms || reads_block x y rest) h) [
        | inl p ↦ (and_parts (names y on) (drives_arm x arms || drives_block x rest) p).1
        | inr p ↦ elim (or_cases (reads_arm x y arms) (reads_block x y rest) p) [
          | inl k ↦ or_left (drives_arm x arms) (drives_block x rest) (arm_driven x y arms k)
          | inr k ↦ or_right (drives_arm x arms) (drives_block x rest) (block_driven x y rest k)
        ]
      ]

  branch_driven : (x : ℕ) (y : Place) (bs : Branches) (driven read : Bool) → (read ≡ true → driven ≡ true) → reads_branch x y bs driven read ≡ true → (drives_branch x bs || driven) ≡ true
  branch_driven x y NoBranch driven read g h = g h
  branch_driven x y (Branch c b more) driven read g h =
      or_assoc (drives_block x b) (drives_branch x more) driven
      ∙ elim (or_cases (names y c && (drives_block x b || (drives_branch x more || driven))) (reads_block x y b || reads_branch x y more driven read) h) [
        | inl p ↦ (and_parts (names y c) (drives_block x b || (drives_branch x more || driven)) p).1
        | inr p ↦ elim (or_cases (reads_block x y b) (reads_branch x y more driven read) p) [
          | inl k ↦ or_left (drives_block x b) (drives_branch x more || driven) (block_driven x y b k)
          | inr k ↦ or_right (drives_block x b) (drives_branch x more || driven) (branch_driven x y more driven read g k)
        ]
      ]

  arm_driven : (x : ℕ) (y : Place) (arms : Arms) → reads_arm x y arms ≡ true → drives_arm x arms ≡ true
  arm_driven x y NoArm h = absurd cc
  arm_driven x y (Arm key b more) h =
      elim (or_cases (reads_block x y b) (reads_arm x y more) h) [
        | inl p ↦ or_left (drives_block x b) (drives_arm x more) (block_driven x y b p)
        | inr p ↦ or_right (drives_block x b) (drives_arm x more) (arm_driven x y more p)
      ]

  block_driven : (x : ℕ) (y : Place) (b : Block) → reads_block x y b ≡ true → drives_block x b ≡ true
  block_driven x y Done h = absurd cc
  block_driven x y (Then st ss) h =
      elim (or_cases (statement.reads x y st) (reads_block x y ss) h) [
        | inl p ↦ or_left (drives x st) (drives_block x ss) (stmt_driven x y st p)
        | inr p ↦ or_right (drives x st) (drives_block x ss) (block_driven x y ss p)
      ]

-- ---- ranks

-- the register stands no later than what the port keeps
abbrev rank_beside : {c : Circuit} → HasOrder c → ℕ → ℕ → Place → ℕ
rank_beside o n j (At x) = cond (nat_eq n x) (min (o.rank (At x)) (o.rank (Kept j))) (o.rank (At x))
rank_beside o n j (Word m k) = o.rank (Word m k)
rank_beside o n j (Kept k) = o.rank (Kept k)

rank_most : (c : Circuit) (o : HasOrder c) (n j : ℕ) (y : Place) → rank_beside o n j y ≤ o.rank y
rank_most c o n j (At x) = by_answer (nat_eq n x)
  where
    by_answer : (t : Bool) → cond t (min (o.rank (At x)) (o.rank (Kept j))) (o.rank (At x)) ≤ o.rank (At x)
    by_answer true = omega arith
    by_answer false = omega arith
rank_most c o n j (Word m k) = omega arith
rank_most c o n j (Kept k) = omega arith

rank_register : (c : Circuit) (o : HasOrder c) (n j : ℕ) → rank_beside o n j (At n) ≤ o.rank (Kept j)
rank_register c o n j =
    subst (λ t. cond t (min (o.rank (At n)) (o.rank (Kept j))) (o.rank (At n)) ≤ o.rank (Kept j)) (sym (eq-eqb n n refl)) (omega arith)

rank_other : (c : Circuit) (o : HasOrder c) (n j x : ℕ) → nat_eq n x ≡ false → rank_beside o n j (At x) ≡ o.rank (At x)
rank_other c o n j x e = ap (λ t. cond t (min (o.rank (At x)) (o.rank (Kept j))) (o.rank (At x))) e

-- ---- what dat_r reads

-- a read of a word names its address, and words of the memory
word_reads : (c : Circuit) (q : Port) (x : ℕ) (y : Place) → names y (word_at c q x) ≡ true → (is_at x y || is_word q.memory y) ≡ true
word_reads c q x y e = by_answer (nat_lt (memory_at c q.memory).depth (2 ^ (shapes c q.adr).bits)) e
  where
    once : (a b : Bool) → (b || a) ≡ true → (a || b) ≡ true
    once true b h = refl
    once false true h = refl
    once false false h = absurd cc

    twice : (a b : Bool) → ((a || false) || ((b || a) || false)) ≡ true → (a || b) ≡ true
    twice true b h = refl
    twice false true h = refl
    twice false false h = absurd cc

    by_answer : (t : Bool) → names y (cond t (Mux (Binary op.Lt (Signal x) (Constant (pos (memory_at c q.memory).depth) (shapes c q.adr))) (Fetch q.memory (memory_at c q.memory).width (Signal x)) (Constant (pos 0) (word_shape c q))) (Fetch q.memory (memory_at c q.memory).width (Signal x))) ≡ true → (is_at x y || is_word q.memory y) ≡ true
    by_answer true h = twice (is_at x y) (is_word q.memory y) h
    by_answer false h = once (is_at x y) (is_word q.memory y) h

-- each place that dat_r reads stands before it
reads_before : (c : Circuit) (j : ℕ) (q : Port) (r : ℕ) (o : HasOrder c) (m : Mode) (y : Place) → Shows c j q r → q.mode ≡ m → names y (reads c q (length c.signals) m) ≡ true
    → rank_beside o (length c.signals) j y < o.rank (At r)
reads_before c j q r o m y h is e =
    let n = length c.signals in
    let own = known c j q r h in
    let shows : (z : Place) → role_reads c z (Read j) ≡ shown_reads j z q q.mode = λ z. ap (λ (p : Port). shown_reads j z p p.mode) h.is in
    let before : (z : Place) → shown_reads j z q m ≡ true → o.rank z < o.rank (At r) =
    λ z t. o.after r z (or_right (reads_block r z c.comb) (role_reads c z (role c r)) (ap (role_reads c z) own.alone ∙ (shows z ∙ (ap (shown_reads j z q) is ∙ t)))) in
    by_mode m before e
  where
    named_at : (z : Place) (x : ℕ) → is_at x z ≡ true → z ≡ At x
    named_at (At k) x t = ap At (sym (eqb-true x k t))
    named_at (Word a k) x t = absurd cc
    named_at (Kept k) x t = absurd cc

    by_register : (before : o.rank (Kept j) < o.rank (At r)) → is_at (length c.signals) y ≡ true → rank_beside o (length c.signals) j y < o.rank (At r)
    by_register before t =
        let low = rank_register c o (length c.signals) j in
        subst (λ z. rank_beside o (length c.signals) j z < o.rank (At r)) (sym (named_at y (length c.signals) t)) (omega arith)

    by_mode : (k : Mode) → ((z : Place) → shown_reads j z q k ≡ true → o.rank z < o.rank (At r)) → names y (reads c q (length c.signals) k) ≡ true → rank_beside o (length c.signals) j y < o.rank (At r)
    by_mode Async before t =
        let low = rank_most c o (length c.signals) j y in
        let high = before y (word_reads c q q.adr y t) in omega arith
    by_mode WriteFirst before t =
        elim (or_cases (is_at (length c.signals) y) (is_word q.memory y) (word_reads c q (length c.signals) y t)) [
          | inl p ↦ by_register (before (Kept j) (or_left (nat_eq j j) (is_word q.memory (Kept j)) (eq-eqb j j refl))) p
          | inr p ↦ (let low = rank_most c o (length c.signals) j y in let high = before y (or_right (is_kept j y) (is_word q.memory y) p) in omega arith)
        ]
    by_mode ReadFirst before t = by_register (before (Kept j) (eq-eqb j j refl)) t
    by_mode NoChange before t = by_register (before (Kept j) (eq-eqb j j refl)) t

-- ---- all signals

-- where x isn't the register, what stands before it stays before it
before_other : (c : Circuit) (o : HasOrder c) (n j x : ℕ) (y : Place) → nat_eq n x ≡ false → o.rank y < o.rank (At x) → rank_beside o n j y < rank_beside o n j (At x)
before_other c o n j x y e h =
    let low = rank_most c o n j y in
    let same = rank_other c o n j x e in omega arith

comb_after : (c : Circuit) (j : ℕ) (q : Port) (r x : ℕ) (o : HasOrder c) (y : Place) → Shows c j q r → reads_block x y c.comb ≡ true → rank_beside o (length c.signals) j y < rank_beside o (length c.signals) j (At x)
comb_after c j q r x o y h e =
    let n = length c.signals in
    by_test (nat_eq n x)
    (λ t. let d = block_driven x y c.comb e in
    let z : drives_block x c.comb ≡ false = drives_past n x c.comb h.can.comb (let k = eqb-true n x t in omega arith) in absurd (cc))
    (λ t. before_other c o n j x y t (o.after x y (or_left (reads_block x y c.comb) (role_reads c y (role c x)) e)))

assign_after : (c : Circuit) (j : ℕ) (q : Port) (r x : ℕ) (o : HasOrder c) (y : Place) → Shows c j q r → reads_block x y (one (Assign (Whole r) (reads c q (length c.signals) q.mode))) ≡ true
    → rank_beside o (length c.signals) j y < rank_beside o (length c.signals) j (At x)
assign_after c j q r x o y h e =
    let n = length c.signals in
    let own = known c j q r h in
    let a = reads c q n q.mode in
    let p = and_parts (nat_eq r x) (names y a || false) (sym (or-false (nat_eq r x && (names y a || false))) ∙ e) in
    let same = eqb-true r x p.0 in
    let low = reads_before c j q r o q.mode y h refl (sym (or-false (names y a)) ∙ p.1) in
    let high = rank_other c o n j r (ne_eqb n r (λ s. let t = own.reader_there in omega arith)) in
    subst (λ z. rank_beside o n j y < rank_beside o n j (At z)) same (omega arith)

-- another port's dat_r
role_after_other : (c : Circuit) (j : ℕ) (q : Port) (r x : ℕ) (o : HasOrder c) (y : Place) → Shows c j q r → x < length c.signals → nat_eq r x ≡ false → (k : Role) → role c x ≡ k
    → role_reads (ported c j q r) y k ≡ true → rank_beside o (length c.signals) j y < rank_beside o (length c.signals) j (At x)
role_after_other c j q r x o y h l e Input is t = absurd cc
role_after_other c j q r x o y h l e Comb is t = absurd cc
role_after_other c j q r x o y h l e (Sync k) is t = absurd cc
role_after_other c j q r x o y h l e (Read k) is t =
    let n = length c.signals in
    let apart = other_port c j q r x k h e is in
    let port : port_at (ported c j q r) k ≡ port_at c k = changed_there silent j k c.ports no_port apart in
    let shown : shown_reads k y (port_at c k) (port_at c k).mode ≡ true = ap (λ (p : Port). shown_reads k y p p.mode) (sym port) ∙ t in
    before_other c o n j x y (ne_eqb n x (λ s. omega arith)) (o.after x y (or_right (reads_block x y c.comb) (role_reads c y (role c x)) (ap (role_reads c y) is ∙ shown)))
role_after_other c j q r x o y h l e Undriven is t = absurd cc

no_reads : (c : Circuit) (y : Place) (k : Role) → by_state k ≡ true → role_reads c y k ≡ false
no_reads c y Input e = absurd cc
no_reads c y Comb e = absurd cc
no_reads c y (Sync k) e = refl
no_reads c y (Read k) e = absurd cc
no_reads c y Undriven e = refl

role_after : (c : Circuit) (j : ℕ) (q : Port) (r x : ℕ) (o : HasOrder c) (y : Place) → Shows c j q r → role_reads (ported c j q r) y (role (ported c j q r) x) ≡ true
    → rank_beside o (length c.signals) j y < rank_beside o (length c.signals) j (At x)
role_after c j q r x o y h t =
    let d = ported c j q r in
    let n = length c.signals in
    by_test (nat_lt x n)
    (λ a. let l = ltb-true x n a in
    by_test (nat_eq r x)
    (λ e. let z : role d x ≡ Comb = subst (λ k. role d k ≡ Comb) (eqb-true r x e) (role_reader c j q r) in
    let none : role_reads d y (role d x) ≡ false = ap (role_reads d y) z in absurd (cc))
    (λ e. role_after_other c j q r x o y h l e (role c x) refl (ap (role_reads d y) (sym (role_before c j q r x h l e)) ∙ t)))
    (λ a. let none = no_reads d y (role d x) (past_role c j q r x h (ltb-false x n a)) in absurd (cc))

pub port_order : (c : Circuit) (j : ℕ) (q : Port) (r : ℕ) → Shows c j q r → HasOrder c → HasOrder (ported c j q r)
port_order c j q r h o =
    let d = ported c j q r in
    let n = length c.signals in
    record {
      rank = rank_beside o n j;
      after = λ x y e.
          elim (or_cases (reads_block x y d.comb) (role_reads d y (role d x)) e) [
            | inl p ↦ elim (or_cases (reads_block x y c.comb) (reads_block x y (one (Assign (Whole r) (reads c q n q.mode)))) (sym (reads_append x y c.comb (one (Assign (Whole r) (reads c q n q.mode)))) ∙ p)) [
              | inl k ↦ comb_after c j q r x o y h k
              | inr k ↦ assign_after c j q r x o y h k
            ]
            | inr p ↦ role_after c j q r x o y h p
          ];
    }
