-- In every settled valuation nets and words fit, and after every step.
use Rattle.std.proofs.Common.{◌≡◌, ℕ, ◌+◌, ◌-◌, ◌*◌, ◌/◌, ◌%◌, ◌^◌, ◌<◌, ◌≤◌, Bool, true, false, ◌&&◌, cond, nat_eq, nat_le, nat_lt, refl, sym, ap, subst, ◌∙◌, arith}
use Rattle.std.specs.Prelude.{List, [], ◌∷◌, ◌++◌, Option, Some, None}
use Rattle.std.specs.List.{list_all}
use Rattle.std.specs.Str.{bytes_eq}
use Rattle.std.proofs.lemmas.Bool.{and_parts, leb-true, ltb-true, or_left, or_right}
use Rattle.std.proofs.lemmas.Nat.{pow_pos, pow-add, mod_below, div_below}
use Rattle.std.proofs.lemmas.Slice.Eq.{bytes_eq-Decides}
use Rattle.std.proofs.Math.Nat.{mul_comm}
use Rattle.lx_vtext.specs.Tree.{Name, VExpr, Literal, VTarget, Whole, Part, WholeWord, PartWord, VStmt, Assign, When, VElse, NoElse, Else, VBlock, EndBlock, InBlock, VLiteral, VNet, VPort, VSet, VAssign, VAlways, VModule}
use Rattle.lx_vmeaning.specs.Meaning.{Sizes, Valuation, meaning, own, assigned, holds}
use Rattle.lx_vmeaning.specs.Runs.{all_nets, decl_memories, net_named, memory_named, memory_declared, net_declared, sizes, set_bits, set_word, new_pattern, write_word, new_words, run_stmt, run_else, run_block, run_stmt_words, run_else_words, run_block_words, target_name, sets_stmt, sets_else, sets_block, Driver, Outside, ByAssign, ByBlock, Clocked, Nothing, always_driver, outside_drivers, assign_drivers, block_drivers, first_driver, driver, by_driver, IsVSettled, VStep, next_net, next_words, v_next, zeros, literal_value, first_value, first_net, set_value, first_word, v_first, VViewFrom, IsVView}
use Rattle.lx_vmeaning.specs.Naming.{is_input, is_within, target_names, stmt_names, else_names, block_names, clock_names, always_names}
use Rattle.lx_vmeaning.specs.Blocks.{stmt_fits, else_fits, block_fits, target_fits, block_target, begins_whole, body_fits, always_fits}
use Rattle.lx_vmeaning.specs.Cycle.{HasCycleMeaning}
use Rattle.lx_vmeaning.specs.Fitting.{NetsFit}
use Rattle.lx_vmeaning.proofs.Bits.{by_cond, stacked}
use Rattle.lx_vmeaning.proofs.Frames.{some_of}

-- ---- bits of a pattern that become others

pub set_bits_fit : (old hi lo p n : ℕ) → lo ≤ hi → hi < n → old < 2 ^ n → p < 2 ^ (hi - lo + 1) → set_bits old hi lo p < 2 ^ n
set_bits_fit old hi lo p n ordered within h q =
    let low = stacked p (old % 2 ^ lo) (hi - lo + 1) lo q (mod_below old (2 ^ lo) (pow_pos lo)) in
    let same : hi - lo + 1 + lo ≡ hi + 1 = omega arith in
    let len : 2 ^ (hi - lo + 1 + lo) ≡ 2 ^ (hi + 1) = ap (λ (k : ℕ). 2 ^ k) same in
    let split : n - (hi + 1) + (hi + 1) ≡ n = omega arith in
    let whole : 2 ^ (n - (hi + 1) + (hi + 1)) ≡ 2 ^ n = ap (λ (k : ℕ). 2 ^ k) split in
    let parts = pow-add 2 (n - (hi + 1)) (hi + 1) in
    let high = div_below old (2 ^ (hi + 1)) (2 ^ (n - (hi + 1))) (pow_pos (hi + 1)) (omega arith) in
    let all = stacked (old / 2 ^ (hi + 1)) (p * 2 ^ lo + old % 2 ^ lo) (n - (hi + 1)) (hi + 1) high (omega arith) in
    let a = mul_comm (2 ^ lo) p in
    let b = mul_comm (2 ^ (hi + 1)) (old / 2 ^ (hi + 1)) in
    omega arith

-- a right side is cut to its target
pub assigned_fits : (d : Sizes) (v : Valuation) (n : ℕ) (e : VExpr) → assigned d v n e < 2 ^ n
assigned_fits d v n e = mod_below _ (2 ^ n) (pow_pos n)

ordered : (m : VModule) (n : Name) (hi lo : ℕ) → is_within m n hi lo ≡ true → lo ≤ hi
ordered m n hi lo h = leb-true lo hi (and_parts (nat_le lo hi) (nat_lt hi (sizes m n).bits) h).0

inside : (m : VModule) (n : Name) (hi lo : ℕ) → is_within m n hi lo ≡ true → hi < (sizes m n).bits
inside m n hi lo h = ltb-true hi (sizes m n).bits (and_parts (nat_le lo hi) (nat_lt hi (sizes m n).bits) h).1

-- ---- statements for one name

-- a target that may stand in the module: what it writes fits
target_keeps : (m : VModule) (v : Valuation) (t : VTarget) (e : VExpr) (old : ℕ) → target_names m t ≡ true → old < 2 ^ (sizes m (target_name t)).bits → new_pattern (sizes m) v t e old < 2 ^ (sizes m (target_name t)).bits
target_keeps m v (Whole n) e old h p = assigned_fits (sizes m) v (sizes m n).bits e
target_keeps m v (Part n hi lo) e old h p =
    let w = (and_parts _ (is_within m n hi lo) h).1 in
    set_bits_fit old hi lo (assigned (sizes m) v (hi - lo + 1) e) (sizes m n).bits (ordered m n hi lo w) (inside m n hi lo w) p (assigned_fits (sizes m) v (hi - lo + 1) e)
target_keeps m v (WholeWord n index) e old h p = p
target_keeps m v (PartWord n index hi lo) e old h p = p

-- all words of a memory fit
abbrev pub WordsFit : ℕ → (ℕ → ℕ) → Type 0
WordsFit bits words = (k : ℕ) → words k < 2 ^ bits

written : (depth bits : ℕ) (words : ℕ → ℕ) (k p : ℕ) → WordsFit bits words → p < 2 ^ bits → WordsFit bits (write_word depth words k p)
written depth bits words k p h q j = by_depth _
  where
    by_depth : (b : Bool) → cond b (set_word words k p) words j < 2 ^ bits
    by_depth true = by_cond (nat_eq j k) p (words j) (2 ^ bits) q (h j)
    by_depth false = h j

target_words : (m : VModule) (v : Valuation) (t : VTarget) (e : VExpr) (words : ℕ → ℕ) → target_names m t ≡ true → WordsFit (sizes m (target_name t)).bits words → WordsFit (sizes m (target_name t)).bits (new_words (sizes m) v t e words)
target_words m v (Whole n) e words h p = p
target_words m v (Part n hi lo) e words h p = p
target_words m v (WholeWord n index) e words h p =
    written (sizes m n).depth (sizes m n).bits words (own (meaning (sizes m) index) v) (assigned (sizes m) v (sizes m n).bits e) p (assigned_fits (sizes m) v (sizes m n).bits e)
target_words m v (PartWord n index hi lo) e words h p =
    let w = (and_parts (is_within m n hi lo) _ (and_parts _ (is_within m n hi lo && _) h).1).0 in
    let k = own (meaning (sizes m) index) v in
    written (sizes m n).depth (sizes m n).bits words k (set_bits (words k) hi lo (assigned (sizes m) v (hi - lo + 1) e)) p
    (set_bits_fit (words k) hi lo (assigned (sizes m) v (hi - lo + 1) e) (sizes m n).bits (ordered m n hi lo w) (inside m n hi lo w) (p k) (assigned_fits (sizes m) v (hi - lo + 1) e))

same_target : (n k : Name) → bytes_eq k n ≡ true → k ≡ n
same_target n k e = (bytes_eq-Decides k n).0 e

-- the statements of a block may stand in the module, and have one target
record IsOwn (m : VModule) (n : Name) (b : VBlock) : Type 0 where
  now : Bool
  fits : block_fits n now b ≡ true
  names : block_names m b ≡ true

mutual
  stmt_keeps : (m : VModule) (v : Valuation) (n : Name) (now : Bool) (s : VStmt) (old : ℕ) → stmt_fits n now s ≡ true → stmt_names m s ≡ true → old < 2 ^ (sizes m n).bits → run_stmt (sizes m) v s old < 2 ^ (sizes m n).bits
  stmt_keeps m v n now (Assign t blocking e) old f h p =
      let same = same_target n (target_name t) (and_parts (bytes_eq (target_name t) n) _ f).0 in
      subst (λ (k : Name). old < 2 ^ (sizes m k).bits → new_pattern (sizes m) v t e old < 2 ^ (sizes m k).bits) same (target_keeps m v t e old (and_parts (target_names m t) _ h).0) p
  stmt_keeps m v n now (When c so other) old f h p =
      let q = and_parts (block_fits n now so) (else_fits n now other) f in
      let r = and_parts (block_names m so) (else_names m other) (and_parts _ (block_names m so && else_names m other) h).1 in
      by_cond (holds (sizes m) v c) (run_block (sizes m) v so old) (run_else (sizes m) v other old) (2 ^ (sizes m n).bits) (block_keeps m v n now so old q.0 r.0 p) (else_keeps m v n now other old q.1 r.1 p)

  else_keeps : (m : VModule) (v : Valuation) (n : Name) (now : Bool) (s : VElse) (old : ℕ) → else_fits n now s ≡ true → else_names m s ≡ true → old < 2 ^ (sizes m n).bits → run_else (sizes m) v s old < 2 ^ (sizes m n).bits
  else_keeps m v n now NoElse old f h p = p
  else_keeps m v n now (Else b) old f h p = block_keeps m v n now b old f h p

  block_keeps : (m : VModule) (v : Valuation) (n : Name) (now : Bool) (b : VBlock) (old : ℕ) → block_fits n now b ≡ true → block_names m b ≡ true → old < 2 ^ (sizes m n).bits → run_block (sizes m) v b old < 2 ^ (sizes m n).bits
  block_keeps m v n now EndBlock old f h p = p
  block_keeps m v n now (InBlock s ss) old f h p =
      let q = and_parts (stmt_fits n now s) (block_fits n now ss) f in
      let r = and_parts (stmt_names m s) (block_names m ss) h in
      block_keeps m v n now ss (run_stmt (sizes m) v s old) q.1 r.1 (stmt_keeps m v n now s old q.0 r.0 p)

mutual
  stmt_words : (m : VModule) (v : Valuation) (n : Name) (now : Bool) (s : VStmt) (words : ℕ → ℕ) → stmt_fits n now s ≡ true → stmt_names m s ≡ true → WordsFit (sizes m n).bits words → WordsFit (sizes m n).bits (run_stmt_words (sizes m) v s words)
  stmt_words m v n now (Assign t blocking e) words f h p =
      let same = same_target n (target_name t) (and_parts (bytes_eq (target_name t) n) _ f).0 in
      subst (λ (k : Name). WordsFit (sizes m k).bits words → WordsFit (sizes m k).bits (new_words (sizes m) v t e words)) same (target_words m v t e words (and_parts (target_names m t) _ h).0) p
  stmt_words m v n now (When c so other) words f h p =
      let q = and_parts (block_fits n now so) (else_fits n now other) f in
      let r = and_parts (block_names m so) (else_names m other) (and_parts _ (block_names m so && else_names m other) h).1 in
      either (holds (sizes m) v c) (block_words m v n now so words q.0 r.0 p) (else_words m v n now other words q.1 r.1 p)
    where
      either : (b : Bool) → WordsFit (sizes m n).bits (run_block_words (sizes m) v so words) → WordsFit (sizes m n).bits (run_else_words (sizes m) v other words) → WordsFit (sizes m n).bits (cond b (run_block_words (sizes m) v so words) (run_else_words (sizes m) v other words))
      either true x y = x
      either false x y = y

  else_words : (m : VModule) (v : Valuation) (n : Name) (now : Bool) (s : VElse) (words : ℕ → ℕ) → else_fits n now s ≡ true → else_names m s ≡ true → WordsFit (sizes m n).bits words → WordsFit (sizes m n).bits (run_else_words (sizes m) v s words)
  else_words m v n now NoElse words f h p = p
  else_words m v n now (Else b) words f h p = block_words m v n now b words f h p

  block_words : (m : VModule) (v : Valuation) (n : Name) (now : Bool) (b : VBlock) (words : ℕ → ℕ) → block_fits n now b ≡ true → block_names m b ≡ true → WordsFit (sizes m n).bits words → WordsFit (sizes m n).bits (run_block_words (sizes m) v b words)
  block_words m v n now EndBlock words f h p = p
  block_words m v n now (InBlock s ss) words f h p =
      let q = and_parts (stmt_fits n now s) (block_fits n now ss) f in
      let r = and_parts (stmt_names m s) (block_names m ss) h in
      block_words m v n now ss (run_stmt_words (sizes m) v s words) q.1 r.1 (stmt_words m v n now s words q.0 r.0 p)

-- ---- drivers

-- what is known of a name's driver
abbrev OfDriver : VModule → Name → Driver → Type 0
OfDriver m n Outside = is_input n m.ports ≡ true
OfDriver m n (ByAssign e) = Unit {0}
OfDriver m n (ByBlock b) = IsOwn m n b
OfDriver m n (Clocked c b) = IsOwn m n b
OfDriver m n Nothing = Unit {0}

mutual
  stmt_name : (n k : Name) (now : Bool) (s : VStmt) → stmt_fits k now s ≡ true → sets_stmt n s ≡ true → k ≡ n
  stmt_name n k now (Assign t blocking e) f h =
      sym (same_target k (target_name t) (and_parts (bytes_eq (target_name t) k) _ f).0) ∙ same_target n (target_name t) h
  stmt_name n k now (When c so other) f h =
      let q = and_parts (block_fits k now so) (else_fits k now other) f in
      some_of (sets_block n so) (sets_else n other) h (block_name n k now so q.0) (else_name n k now other q.1)

  else_name : (n k : Name) (now : Bool) (s : VElse) → else_fits k now s ≡ true → sets_else n s ≡ true → k ≡ n
  else_name n k now NoElse f h = absurd cc
  else_name n k now (Else b) f h = block_name n k now b f h

  block_name : (n k : Name) (now : Bool) (b : VBlock) → block_fits k now b ≡ true → sets_block n b ≡ true → k ≡ n
  block_name n k now EndBlock f h = absurd cc
  block_name n k now (InBlock s ss) f h =
      let q = and_parts (stmt_fits k now s) (block_fits k now ss) f in
      some_of (sets_stmt n s) (sets_block n ss) h (stmt_name n k now s q.0) (block_name n k now ss q.1)

own_block : (m : VModule) (n : Name) (now : Bool) (o : Option Name) (b : VBlock) → target_fits now o b ≡ true → block_names m b ≡ true → sets_block n b ≡ true → IsOwn m n b
own_block m n now None b f h s = absurd cc
own_block m n now (Some k) b f h s = record { now = now; fits = subst (λ (i : Name). block_fits i now b ≡ true) (block_name n k now b f s) f; names = h }

of_always : (m : VModule) (n : Name) (c : Option Name) (b : VBlock) → body_fits c b ≡ true → block_names m b ≡ true → sets_block n b ≡ true → OfDriver m n (always_driver c b)
of_always m n None b f h s = own_block m n true (block_target b) b (and_parts (begins_whole b) _ f).1 h s
of_always m n (Some c) b f h s = own_block m n false (block_target b) b f h s

of_blocks : (m : VModule) (n : Name) (as_ : List VAlways) → list_all always_fits as_ ≡ true → list_all (λ a. always_names m a) as_ ≡ true → OfDriver m n (first_driver (block_drivers n as_))
of_blocks m n [] f h = tt
of_blocks m n (a ∷ as_) f h =
    let q = and_parts (always_fits a) (list_all always_fits as_) f in
    let r = and_parts (always_names m a) (list_all (λ x. always_names m x) as_) h in
    by (sets_block n a.body) refl q.0 (and_parts (clock_names m a.clock) (block_names m a.body) r.0).1 (of_blocks m n as_ q.1 r.1)
  where
    by : (b : Bool) → sets_block n a.body ≡ b → always_fits a ≡ true → block_names m a.body ≡ true → OfDriver m n (first_driver (block_drivers n as_))
        → OfDriver m n (first_driver (cond b (always_driver a.clock a.body ∷ block_drivers n as_) (block_drivers n as_)))
    by true s x y rest = of_always m n a.clock a.body x y s
    by false s x y rest = rest

of_assigns : (m : VModule) (n : Name) (as_ : List VAssign) (rest : List Driver) → OfDriver m n (first_driver rest) → OfDriver m n (first_driver (assign_drivers n as_ ++ rest))
of_assigns m n [] rest h = h
of_assigns m n (a ∷ as_) rest h = by (bytes_eq a.name n) (of_assigns m n as_ rest h)
  where
    by : (b : Bool) → OfDriver m n (first_driver (assign_drivers n as_ ++ rest)) → OfDriver m n (first_driver (cond b (ByAssign a.value ∷ assign_drivers n as_) (assign_drivers n as_) ++ rest))
    by true more = tt
    by false more = more

of_ports : (m : VModule) (n : Name) (ps : List VPort) (rest : List Driver) → (is_input n ps ≡ true → is_input n m.ports ≡ true) → OfDriver m n (first_driver rest) → OfDriver m n (first_driver (outside_drivers n ps ++ rest))
of_ports m n [] rest i h = h
of_ports m n (p ∷ ps) rest i h = by (p.is_input && bytes_eq p.net.name n) refl (of_ports m n ps rest (λ e. i (or_right (p.is_input && bytes_eq p.net.name n) (is_input n ps) e)) h)
  where
    by : (b : Bool) → (p.is_input && bytes_eq p.net.name n) ≡ b → OfDriver m n (first_driver (outside_drivers n ps ++ rest)) → OfDriver m n (first_driver (cond b (Outside ∷ outside_drivers n ps) (outside_drivers n ps) ++ rest))
    by true e more = i (or_left (p.is_input && bytes_eq p.net.name n) (is_input n ps) e)
    by false e more = more

of_driver : (m : VModule) → HasCycleMeaning m → (n : Name) → OfDriver m n (driver m n)
of_driver m h n =
    of_ports m n m.ports (assign_drivers n m.assigns ++ block_drivers n m.always) (λ e. e)
    (of_assigns m n m.assigns (block_drivers n m.always) (of_blocks m n m.always h.blocks.always h.names.blocks))

-- ---- settled valuations and steps

-- the nets and words of a state fit
pub record StateFits (m : VModule) (state : Valuation) : Type 0 where
  pub nets : (n : Name) → state.nets n < 2 ^ (sizes m n).bits
  pub words : (n : Name) → WordsFit (sizes m n).bits (state.words n)

pub settled_fits : (m : VModule) → HasCycleMeaning m → (state : Valuation) (inputs : Name → ℕ) (v : Valuation) → StateFits m state → IsVSettled m state inputs v → NetsFit m inputs v
settled_fits m h state inputs v fits s = record {
  nets = λ n i. subst (λ (p : ℕ). p < 2 ^ (sizes m n).bits) (sym (s.nets n)) (by n (driver m n) (of_driver m h n) i);
  words = λ n k. subst (λ (p : ℕ). p < 2 ^ (sizes m n).bits) (sym (s.words n k)) (fits.words n k);
}
  where
    by : (n : Name) (r : Driver) → OfDriver m n r → (is_input n m.ports ≡ true → inputs n < 2 ^ (sizes m n).bits) → by_driver m state inputs v n r < 2 ^ (sizes m n).bits
    by n Outside o i = i o
    by n (ByAssign e) o i = assigned_fits (sizes m) v (sizes m n).bits e
    by n (ByBlock b) o i = block_keeps m v n o.now b 0 o.fits o.names (pow_pos (sizes m n).bits)
    by n (Clocked c b) o i = fits.nets n
    by n Nothing o i = pow_pos (sizes m n).bits

pub next_fits : (m : VModule) → HasCycleMeaning m → (state v : Valuation) (rises : Name → Bool) → StateFits m state → StateFits m (v_next m state v rises)
next_fits m h state v rises fits = record { nets = λ n. net n (driver m n) (of_driver m h n); words = λ n. word n (driver m n) (of_driver m h n) }
  where
    net : (n : Name) (r : Driver) → OfDriver m n r → next_net m state v rises n r < 2 ^ (sizes m n).bits
    net n Outside o = fits.nets n
    net n (ByAssign e) o = fits.nets n
    net n (ByBlock b) o = fits.nets n
    net n (Clocked c b) o = by_cond (rises c) (run_block (sizes m) v b (state.nets n)) (state.nets n) (2 ^ (sizes m n).bits) (block_keeps m v n o.now b (state.nets n) o.fits o.names (fits.nets n)) (fits.nets n)
    net n Nothing o = fits.nets n

    risen : (n c : Name) (b : VBlock) (r : Bool) → WordsFit (sizes m n).bits (run_block_words (sizes m) v b (state.words n)) → WordsFit (sizes m n).bits (cond r (run_block_words (sizes m) v b (state.words n)) (state.words n))
    risen n c b true x = x
    risen n c b false x = fits.words n

    word : (n : Name) (r : Driver) → OfDriver m n r → WordsFit (sizes m n).bits (next_words m state v rises n r)
    word n Outside o = fits.words n
    word n (ByAssign e) o = fits.words n
    word n (ByBlock b) o = fits.words n
    word n (Clocked c b) o = risen n c b (rises c) (block_words m v n o.now b (state.words n) o.fits o.names (fits.words n))
    word n Nothing o = fits.words n

-- ---- the first state

literal_fits : (n : ℕ) (x : VLiteral) → literal_value n x < 2 ^ n
literal_fits n x = assigned_fits (λ name. memory_declared None) zeros n (Literal x.bits x.signed x.value)

first_value_fits : (n : ℕ) (o : Option VLiteral) → first_value n o < 2 ^ n
first_value_fits n None = pow_pos n
first_value_fits n (Some x) = literal_fits n x

first_net_fits : (m : VModule) (n : Name) → first_net (net_named n (all_nets m)) < 2 ^ (sizes m n).bits
first_net_fits m n = by (net_named n (all_nets m))
  where
    by : (o : Option VNet) → first_net o < 2 ^ (net_declared o (memory_declared (memory_named n (decl_memories m.decls)))).bits
    by None = pow_pos (memory_declared (memory_named n (decl_memories m.decls))).bits
    by (Some x) = first_value_fits x.bits x.init

set_value_fits : (n : Name) (bits k : ℕ) (sets : List VSet) (other : ℕ) → other < 2 ^ bits → set_value n bits k sets other < 2 ^ bits
set_value_fits n bits k [] other h = h
set_value_fits n bits k (x ∷ xs) other h = by_cond (bytes_eq x.name n && nat_eq x.index k) (literal_value bits x.value) (set_value n bits k xs other) (2 ^ bits) (literal_fits bits x.value) (set_value_fits n bits k xs other h)

first_word_fits : (n : Name) (bits k : ℕ) (bs : List (List VSet)) → first_word n bits k bs < 2 ^ bits
first_word_fits n bits k [] = pow_pos bits
first_word_fits n bits k (b ∷ bs) = set_value_fits n bits k b (first_word n bits k bs) (first_word_fits n bits k bs)

pub first_fits : (m : VModule) → StateFits m (v_first m)
first_fits m = record { nets = λ n. first_net_fits m n; words = λ n k. first_word_fits n (sizes m n).bits k m.inits }

-- ---- views

from_fits : (m : VModule) → HasCycleMeaning m → (state : Valuation) (steps : List VStep) (inputs : Name → ℕ) (v : Valuation) → StateFits m state → VViewFrom m state steps inputs v → NetsFit m inputs v
from_fits m h state [] inputs v fits s = settled_fits m h state inputs v fits s
from_fits m h state (t ∷ ts) inputs v fits s = from_fits m h (v_next m state s.0 t.rises) ts inputs v (next_fits m h state s.0 t.rises fits) s.2

pub views_fit : (m : VModule) → HasCycleMeaning m → (steps : List VStep) (inputs : Name → ℕ) (v : Valuation) → IsVView m steps inputs v → NetsFit m inputs v
views_fit m h steps inputs v s = from_fits m h (v_first m) steps inputs v (first_fits m) s
