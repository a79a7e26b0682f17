-- The block of a memory's writers: what it writes, and that it may stand in the module.
use Rattle.std.proofs.Common.{◌≡◌, ℕ, zero, suc, ◌+◌, ◌-◌, ◌*◌, ◌/◌, ◌^◌, ◌<◌, ◌≤◌, Bool, true, false, ◌&&◌, ◌||◌, cond, List, [], ◌∷◌, length, flat_map, nat_le, nat_lt, refl, sym, ap, subst, ◌∙◌, arith}
use Rattle.std.specs.Prelude.{Option, Some, None, IsTrue}
use Rattle.std.specs.List.{AllByRecursion}
use Rattle.std.specs.Str.{bytes_eq}
use Rattle.std.proofs.lemmas.Bool.{and_from, le-leb, lt-ltb}
use Rattle.std.proofs.lemmas.Slice.Eq.{bytes_eq-Decides}
use Rattle.std.proofs.Math.Bool.{or-false}
use Rattle.lx_num.specs.declared.Shape.{Shape}
use Rattle.lx_circuit.specs.Memories.{Writer, Port}
use Rattle.lx_vtext.specs.declared.operators.BinOp.TheVariants as op
use Rattle.lx_vtext.specs.Tree.{Name, VExpr, Net, Literal, PartSelect, Binary, WholeWord, PartWord, VStmt, Assign, NoElse, VElse, VBlock, EndBlock, InBlock, VModule}
use Rattle.lx_vtext.specs.Names.{is_name}
use Rattle.lx_vtext.specs.Fits.{IsExpr, IsTarget, IsStmt, IsBlock}
use Rattle.lx_vmeaning.specs.Runs.{sizes, target_name, sets_stmt, sets_block}
use Rattle.lx_vmeaning.specs.Naming.{is_memory, is_readable, is_within, is_input, names_fit, target_names, stmt_names, block_names}
use Rattle.lx_vmeaning.specs.Widths.{is_width, alone_fits, right_fits, stmt_widths}
use Rattle.lx_vmeaning.specs.Blocks.{or_name, stmt_target, block_target, stmt_fits, target_fits}
use Rattle.lx_vmeaning.proofs.Owns.{owns_fit, is_width-of, alone_from_owns, right_from_owns}
use Rattle.lx_fhdl.specs.Designs.{circuit_of, memory_at, shapes}
use Rattle.lx_fhdl.specs.Keeping.{Keeps}
use Rattle.lx_fhdl.specs.declared.design.Design.{Design}
use Rattle.lx_fhdl.proofs.Designs as fhdl
use Rattle.lx_emission.specs.Naming.{net, clock, memory_name, NamesFit}
use Rattle.lx_emission.specs.Texts.{covers}
use Rattle.lx_emission.specs.Memories.{field_text, word_target, block_of, port_text, memory_body, writing_domain}
use Rattle.lx_emission.proofs.Setting.{LetsRead, IsFit, WritesAlone}
use Rattle.lx_emission.proofs.Tests.{IsTest, names_test, widths_test, fits_test, when_passes, block_passes}
use Rattle.lx_emission.proofs.Blocks.{AlwaysFits}
use Rattle.lx_emission.proofs.Lawful.{net_lawful, memory_lawful}
use Rattle.lx_emission.proofs.Writes.{part_inside}
use Rattle.lx_emission.proofs.Writers.{sized, IsWriter, HoldsOfWrites, writes_hold, writes_some, all_bare}

-- ---- what it writes

target_is : (n : Name) (index : VExpr) (bits low len : ℕ) → target_name (word_target n index bits low len) ≡ n
target_is n index bits low len = by (covers bits low len)
  where
    by : (b : Bool) → target_name (cond b (WholeWord n index) (PartWord n index (low + len - 1) low)) ≡ n
    by true = refl
    by false = refl

or_self : (a b c : Bool) → a ≡ c → b ≡ c → (a || b) ≡ c
or_self true b c p q = p
or_self false b c p q = q

-- a block whose statements all assign a name or not does so too
block_sets : (n : Name) (b : Bool) (ss : List VStmt) → 0 < length ss → AllByRecursion (λ s. sets_stmt n s ≡ b) ss → sets_block n (block_of ss) ≡ b
block_sets n b [] some h = absurd (omega arith)
block_sets n b (s ∷ []) some h = or-false (sets_stmt n s) ∙ h.0
block_sets n b (s ∷ (t ∷ ts)) some h = or_self (sets_stmt n s) (sets_block n (block_of (t ∷ ts))) b h.0 (block_sets n b (t ∷ ts) (omega arith) h.1)

sets_hold : (d : Design) (names : List Name) (k : ℕ) (n : Name) → HoldsOfWrites d names k (λ s. sets_stmt n s ≡ bytes_eq (memory_name d names k) n) (λ s. sets_stmt n s ≡ bytes_eq (memory_name d names k) n)
sets_hold d names k n = record {
  part = λ q w same is i lt.
      let low = w.part * i in
      let bits = (memory_at d k).width in
      let m = memory_name d names q.memory in
      or-false (bytes_eq (target_name (word_target m (Net (net names q.adr)) bits low w.part)) n || false) ∙ or-false (bytes_eq (target_name (word_target m (Net (net names q.adr)) bits low w.part)) n)
      ∙ (ap (λ (t : Name). bytes_eq t n) (target_is m (Net (net names q.adr)) bits low w.part) ∙ ap (λ (j : ℕ). bytes_eq (memory_name d names j) n) same);
  bare = λ s h. h;
  guard = λ q w same is few ss some h. or-false (sets_block n (block_of ss)) ∙ block_sets n (bytes_eq (memory_name d names k) n) ss some h;
}

-- the block of a memory's writers writes this memory alone
pub writes_alone : (d : Design) (names : List Name) → Keeps d → (k : ℕ) → WritesAlone d names k (writing_domain k (circuit_of d).ports)
unfolding memory_body
writes_alone d names keeps k = by (writing_domain k (circuit_of d).ports) refl
  where
    by : (o : Option ℕ) → writing_domain k (circuit_of d).ports ≡ o → WritesAlone d names k o
    by None e = tt
    by (Some x) e = λ n.
        block_sets n (bytes_eq (memory_name d names k) n) (flat_map (port_text d names k) (circuit_of d).ports) (writes_some d names k x keeps e)
        (writes_hold d names k (λ s. sets_stmt n s ≡ bytes_eq (memory_name d names k) n) (λ s. sets_stmt n s ≡ bytes_eq (memory_name d names k) n) keeps (sets_hold d names k n))

first_target : (n : Name) (ss : List VStmt) → 0 < length ss → AllByRecursion (λ s. stmt_target s ≡ Some n) ss → block_target (block_of ss) ≡ Some n
first_target n [] some h = absurd (omega arith)
first_target n (s ∷ ss) some h = ap (λ o. or_name o (block_target (block_of ss))) h.0

targets_hold : (d : Design) (names : List Name) (k : ℕ) → HoldsOfWrites d names k (λ s. stmt_target s ≡ Some (memory_name d names k)) (λ s. stmt_target s ≡ Some (memory_name d names k))
targets_hold d names k = record {
  part = λ q w same is i lt.
      let low = w.part * i in
      let bits = (memory_at d k).width in
      let m = memory_name d names q.memory in
      ap (λ (t : Name). Some t) (target_is m (Net (net names q.adr)) bits low w.part) ∙ ap (λ (j : ℕ). Some (memory_name d names j)) same;
  bare = λ s h. h;
  guard = λ q w same is few ss some h. ap (λ o. or_name o None) (first_target (memory_name d names k) ss some h);
}

-- ---- that it may stand in the module

-- bits of a net that may be read
field_fits : (m : VModule) (n : Name) (bits low len : ℕ) → is_readable m n ≡ true → (sizes m n).bits ≡ bits → 1 ≤ len → low + len ≤ bits → bits ≤ 127 → IsFit m (field_text n bits low len)
field_fits m n bits low len readable e some inside most = by (covers bits low len)
  where
    by : (b : Bool) → IsFit m (cond b (Net n) (PartSelect n (low + len - 1) low))
    by true = record { names = readable; widths = is_width-of (sizes m n).bits (omega (arith, e, some, inside)) (omega (arith, e, most)) }
    by false = record {
      names = and_from (is_readable m n) (is_within m n (low + len - 1) low) readable
          (and_from (nat_le low (low + len - 1)) (nat_lt (low + len - 1) (sizes m n).bits) (le-leb low (low + len - 1) (omega (arith, some))) (lt-ltb (low + len - 1) (sizes m n).bits (omega (arith, e, some, inside))));
      widths = is_width-of (low + len - 1 - low + 1) (omega arith) (omega (arith, inside, most));
    }

-- a signal's net with its bits
pub record IsNetOf (d : Design) (names : List Name) (m : VModule) (x count : ℕ) : Type 0 where
  pub readable : is_readable m (net names x) ≡ true
  pub bits : (sizes m (net names x)).bits ≡ count

net_of : (d : Design) (names : List Name) (m : VModule) → LetsRead d names m → (x : ℕ) → x < length d.signals → IsNetOf d names m x (shapes d x).bits
net_of d names m lets x lt = record { readable = lets.signals x lt; bits = ap (λ s. s.bits) (lets.declares.signals x lt) }

-- what a port's statements need of the module
record Stands (d : Design) (names : List Name) (m : VModule) (k : ℕ) (q : Port) (w : Writer) : Type 0 where
  there : is_memory m (memory_name d names k) ≡ true
  word : (sizes m (memory_name d names k)).bits ≡ (memory_at d k).width
  width_most : (memory_at d k).width ≤ 64
  adr : IsNetOf d names m q.adr (shapes d q.adr).bits
  adr_some : 1 ≤ (shapes d q.adr).bits
  adr_most : (shapes d q.adr).bits ≤ 64
  from : IsNetOf d names m w.from (memory_at d k).width
  we : IsNetOf d names m w.we ((memory_at d k).width / w.part)
  part_some : 1 ≤ w.part
  parts : (memory_at d k).width / w.part * w.part ≤ (memory_at d k).width

stands : (d : Design) (names : List Name) (m : VModule) → Keeps d → LetsRead d names m → (k : ℕ) (q : Port) (w : Writer) → q.memory ≡ k → IsWriter d q w → Stands d names m k q w
stands d names m keeps lets k q w same is =
    let P : ℕ → Type 0 = λ j. Stands d names m j q w in
    let size = sized d keeps q.memory is.memory in
    subst P same (record {
      there = lets.memories q.memory is.memory;
      word = ap (λ s. s.bits) (lets.declares.memories q.memory is.memory);
      width_most = size.width_most;
      adr = net_of d names m lets q.adr is.adr;
      adr_some = fhdl.signal_some d keeps q.adr;
      adr_most = fhdl.signal_most d keeps q.adr;
      from = subst (λ (b : ℕ). IsNetOf d names m w.from b) (ap (λ (a : Shape). a.bits) is.from_shape) (net_of d names m lets w.from is.from);
      we = subst (λ (b : ℕ). IsNetOf d names m w.we b) (ap (λ (a : Shape). a.bits) is.we_shape) (net_of d names m lets w.we is.we);
      part_some = is.part_some;
      parts = is.parts;
    })

quotient_most : (n p : ℕ) → 1 ≤ p → n / p * p ≤ n → n / p ≤ n
quotient_most n p h le = omega (arith, h, le, grows (n / p) p h)
  where
    grows : (q p : ℕ) → 1 ≤ p → q ≤ q * p
    grows q zero h = absurd (omega arith)
    grows q (suc p) h = omega arith

condition_fits : (d : Design) (names : List Name) (m : VModule) (k : ℕ) (q : Port) (w : Writer) (i : ℕ) → Stands d names m k q w → i < (memory_at d k).width / w.part → IsFit m (field_text (net names w.we) ((memory_at d k).width / w.part) i 1)
condition_fits d names m k q w i h lt =
    field_fits m (net names w.we) ((memory_at d k).width / w.part) i 1 h.we.readable h.we.bits (omega arith) (omega arith)
    (omega (arith, h.width_most, quotient_most (memory_at d k).width w.part h.part_some h.parts))

data_fits : (d : Design) (names : List Name) (m : VModule) (k : ℕ) (q : Port) (w : Writer) (i : ℕ) → Stands d names m k q w → i < (memory_at d k).width / w.part → IsFit m (field_text (net names w.from) (memory_at d k).width (w.part * i) w.part)
data_fits d names m k q w i h lt =
    field_fits m (net names w.from) (memory_at d k).width (w.part * i) w.part h.from.readable h.from.bits h.part_some
    (part_inside (memory_at d k).width w.part ((memory_at d k).width / w.part) i h.parts lt) (omega (arith, h.width_most))

address_fits : (d : Design) (names : List Name) (m : VModule) (k : ℕ) (q : Port) (w : Writer) → Stands d names m k q w → IsFit m (Net (net names q.adr))
address_fits d names m k q w h =
    record { names = h.adr.readable; widths = is_width-of (sizes m (net names q.adr)).bits (omega (arith, h.adr.bits, h.adr_some)) (omega (arith, h.adr.bits, h.adr_most)) }

guard_fits : (d : Design) (names : List Name) (m : VModule) (k : ℕ) (q : Port) (w : Writer) → Stands d names m k q w → IsFit m (Binary (Net (net names q.adr)) op.Less (Literal (shapes d q.adr).bits false (memory_at d k).depth))
guard_fits d names m k q w h =
    let a = address_fits d names m k q w h in
    record {
      names = and_from (is_readable m (net names q.adr)) true a.names refl;
      widths = and_from (owns_fit (sizes m) (Net (net names q.adr))) (is_width (shapes d q.adr).bits) a.widths (is_width-of (shapes d q.adr).bits h.adr_some (omega (arith, h.adr_most)));
    }

target_stands : (d : Design) (names : List Name) (m : VModule) (k : ℕ) (q : Port) (w : Writer) (i : ℕ) → Stands d names m k q w → i < (memory_at d k).width / w.part → (b : Bool)
    → target_names m (cond b (WholeWord (memory_name d names k) (Net (net names q.adr))) (PartWord (memory_name d names k) (Net (net names q.adr)) (w.part * i + w.part - 1) (w.part * i))) ≡ true
target_stands d names m k q w i h lt true = and_from (is_memory m (memory_name d names k)) (is_readable m (net names q.adr)) h.there h.adr.readable
target_stands d names m k q w i h lt false =
    let n = memory_name d names k in
    let low = w.part * i in
    let inside = part_inside (memory_at d k).width w.part ((memory_at d k).width / w.part) i h.parts lt in
    and_from (is_memory m n) (is_within m n (low + w.part - 1) low && is_readable m (net names q.adr)) h.there
    (and_from (is_within m n (low + w.part - 1) low) (is_readable m (net names q.adr))
    (and_from (nat_le low (low + w.part - 1)) (nat_lt (low + w.part - 1) (sizes m n).bits) (le-leb low (low + w.part - 1) (omega (arith, h.part_some))) (lt-ltb (low + w.part - 1) (sizes m n).bits (omega (arith, h.word, h.part_some, inside))))
    h.adr.readable)

target_wide : (d : Design) (names : List Name) (m : VModule) (k : ℕ) (q : Port) (w : Writer) (i : ℕ) (e : VExpr) → Stands d names m k q w → i < (memory_at d k).width / w.part → IsFit m e → (b : Bool)
    → stmt_widths (sizes m) (Assign (cond b (WholeWord (memory_name d names k) (Net (net names q.adr))) (PartWord (memory_name d names k) (Net (net names q.adr)) (w.part * i + w.part - 1) (w.part * i))) false e) ≡ true
target_wide d names m k q w i e h lt fit true =
    and_from (alone_fits (sizes m) (Net (net names q.adr))) (right_fits (sizes m) (sizes m (memory_name d names k)).bits e)
    (alone_from_owns (sizes m) (Net (net names q.adr)) (address_fits d names m k q w h).widths)
    (right_from_owns (sizes m) (sizes m (memory_name d names k)).bits e (omega (arith, h.word, h.width_most)) fit.widths)
target_wide d names m k q w i e h lt fit false =
    let low = w.part * i in
    let inside = part_inside (memory_at d k).width w.part ((memory_at d k).width / w.part) i h.parts lt in
    and_from (alone_fits (sizes m) (Net (net names q.adr))) (right_fits (sizes m) (low + w.part - 1 - low + 1) e)
    (alone_from_owns (sizes m) (Net (net names q.adr)) (address_fits d names m k q w h).widths)
    (right_from_owns (sizes m) (low + w.part - 1 - low + 1) e (omega (arith, h.width_most, h.part_some, inside)) fit.widths)

-- a test that the parts and the condition around them pass
tests_hold : {C : VExpr → Bool} {S : VStmt → Bool} {B : VBlock → Bool} {E : VElse → Bool} → IsTest C S B E → (d : Design) (names : List Name) (k : ℕ)
    → ((q : Port) (w : Writer) → q.memory ≡ k → IsWriter d q w → (i : ℕ) → i < (memory_at d k).width / w.part → C (field_text (net names w.we) ((memory_at d k).width / w.part) i 1) ≡ true)
    → ((q : Port) (w : Writer) → q.memory ≡ k → IsWriter d q w → (i : ℕ) → i < (memory_at d k).width / w.part
    → S (Assign (word_target (memory_name d names k) (Net (net names q.adr)) (memory_at d k).width (w.part * i) w.part) false (field_text (net names w.from) (memory_at d k).width (w.part * i) w.part)) ≡ true)
    → ((q : Port) (w : Writer) → q.memory ≡ k → IsWriter d q w → C (Binary (Net (net names q.adr)) op.Less (Literal (shapes d q.adr).bits false (memory_at d k).depth)) ≡ true)
    → HoldsOfWrites d names k (λ s. S s ≡ true) (λ s. S s ≡ true)
tests_hold {C} {S} {B} {E} t d names k conditions assigns guards = record {
  part = λ q w same is i lt.
      let c = field_text (net names w.we) ((memory_at d k).width / w.part) i 1 in
      let e = field_text (net names w.from) (memory_at d k).width (w.part * i) w.part in
      let of_name : Name → VStmt = λ n. Assign (word_target n (Net (net names q.adr)) (memory_at d k).width (w.part * i) w.part) false e in
      let a = of_name (memory_name d names q.memory) in
      let own : S a ≡ true = subst (λ (j : ℕ). S (of_name (memory_name d names j)) ≡ true) (sym same) (assigns q w same is i lt) in
      when_passes t c (InBlock a EndBlock) NoElse (conditions q w same is i lt) (t.next a EndBlock ∙ and_from (S a) (B EndBlock) own t.done) t.none;
  bare = λ s h. h;
  guard = λ q w same is few ss some h. when_passes t (Binary (Net (net names q.adr)) op.Less (Literal (shapes d q.adr).bits false (memory_at d k).depth)) (block_of ss) NoElse (guards q w same is) (block_passes t ss h) t.none;
}

-- it may stand in the module
pub memory_fits : (d : Design) (names : List Name) (m : VModule) → Keeps d → LetsRead d names m → (k x : ℕ) → writing_domain k (circuit_of d).ports ≡ Some x → is_input (clock d x) m.ports ≡ true
    → AlwaysFits m (record { clock = Some (clock d x); body = memory_body d names k })
unfolding memory_body
memory_fits d names m keeps lets k x e input =
    let n = memory_name d names k in
    let ss = flat_map (port_text d names k) (circuit_of d).ports in
    let named = block_passes (names_test m) ss (writes_hold d names k (λ s. stmt_names m s ≡ true) (λ s. stmt_names m s ≡ true) keeps (tests_hold (names_test m) d names k
    (λ q w same is i lt. (condition_fits d names m k q w i (stands d names m keeps lets k q w same is) lt).names)
    (λ q w same is i lt.
    let h = stands d names m keeps lets k q w same is in
    and_from (target_names m (word_target n (Net (net names q.adr)) (memory_at d k).width (w.part * i) w.part)) (names_fit m (field_text (net names w.from) (memory_at d k).width (w.part * i) w.part))
    (target_stands d names m k q w i h lt (covers (memory_at d k).width (w.part * i) w.part)) (data_fits d names m k q w i h lt).names)
    (λ q w same is. (guard_fits d names m k q w (stands d names m keeps lets k q w same is)).names))) in
    let wide = block_passes (widths_test (sizes m)) ss (writes_hold d names k (λ s. stmt_widths (sizes m) s ≡ true) (λ s. stmt_widths (sizes m) s ≡ true) keeps (tests_hold (widths_test (sizes m)) d names k
    (λ q w same is i lt. alone_from_owns (sizes m) (field_text (net names w.we) ((memory_at d k).width / w.part) i 1) (condition_fits d names m k q w i (stands d names m keeps lets k q w same is) lt).widths)
    (λ q w same is i lt.
    let h = stands d names m keeps lets k q w same is in
    target_wide d names m k q w i (field_text (net names w.from) (memory_at d k).width (w.part * i) w.part) h lt (data_fits d names m k q w i h lt) (covers (memory_at d k).width (w.part * i) w.part))
    (λ q w same is. alone_from_owns (sizes m) (Binary (Net (net names q.adr)) op.Less (Literal (shapes d q.adr).bits false (memory_at d k).depth)) (guard_fits d names m k q w (stands d names m keeps lets k q w same is)).widths))) in
    let one = block_passes (fits_test n false) ss (writes_hold d names k (λ s. stmt_fits n false s ≡ true) (λ s. stmt_fits n false s ≡ true) keeps (tests_hold (fits_test n false) d names k
    (λ q w same is i lt. refl)
    (λ q w same is i lt. and_from (bytes_eq (target_name (word_target n (Net (net names q.adr)) (memory_at d k).width (w.part * i) w.part)) n) true
    (ap (λ (t : Name). bytes_eq t n) (target_is n (Net (net names q.adr)) (memory_at d k).width (w.part * i) w.part) ∙ (bytes_eq-Decides n n).1 refl) refl)
    (λ q w same is. refl))) in
    let target = first_target n ss (writes_some d names k x keeps e) (writes_hold d names k (λ s. stmt_target s ≡ Some n) (λ s. stmt_target s ≡ Some n) keeps (targets_hold d names k)) in
    record {
      names = and_from (is_input (clock d x) m.ports) (block_names m (block_of ss)) input named;
      widths = wide;
      fits = ap (λ (o : Option Name). target_fits false o (block_of ss)) target ∙ one;
    }

-- ---- that it has a text

field_lawful : (b : ℕ) (n : Name) (bits low len : ℕ) → IsTrue (is_name n) → IsExpr (suc b) (field_text n bits low len)
field_lawful b n bits low len h = by (covers bits low len)
  where
    by : (t : Bool) → IsExpr (suc b) (cond t (Net n) (PartSelect n (low + len - 1) low))
    by true = h
    by false = h

target_lawful : (n a : Name) (bits low len : ℕ) → IsTrue (is_name n) → IsTrue (is_name a) → IsTarget (word_target n (Net a) bits low len)
target_lawful n a bits low len h l = by (covers bits low len)
  where
    by : (t : Bool) → IsTarget (cond t (WholeWord n (Net a)) (PartWord n (Net a) (low + len - 1) low))
    by true = (h, l)
    by false = (h, l)

block_lawful : (n : ℕ) (ss : List VStmt) → AllByRecursion (λ s. IsStmt n s) ss → IsBlock (suc n) (block_of ss)
block_lawful n [] h = tt
block_lawful n (s ∷ ss) h = (h.0, block_lawful n ss h.1)

lawful_hold : (d : Design) (names : List Name) (k : ℕ) → Keeps d → NamesFit d names → HoldsOfWrites d names k (λ s. (b : ℕ) → IsStmt (suc b) s) (λ s. (b : ℕ) → IsStmt (suc (suc b)) s)
lawful_hold d names k keeps fit = record {
  part = λ q w same is i lt b. (
    field_lawful 30 (net names w.we) ((memory_at d k).width / w.part) i 1 (net_lawful d names fit w.we is.we),
    (
      (
        target_lawful (memory_name d names q.memory) (net names q.adr) (memory_at d k).width (w.part * i) w.part (memory_lawful d names fit q.memory is.memory) (net_lawful d names fit q.adr is.adr),
        field_lawful 31 (net names w.from) (memory_at d k).width (w.part * i) w.part (net_lawful d names fit w.from is.from),
      ),
      tt,
    ),
    tt,
  );
  bare = λ s h b. h (suc b);
  guard = λ q w same is few ss some h b.
      let bits = (shapes d q.adr).bits in (
        (
          net_lawful d names fit q.adr is.adr,
          and_from (nat_le 1 bits && nat_le bits 128) (nat_lt (memory_at d k).depth (2 ^ bits))
              (and_from (nat_le 1 bits) (nat_le bits 128) (le-leb 1 bits (fhdl.signal_some d keeps q.adr)) (le-leb bits 128 (omega (arith, fhdl.signal_most d keeps q.adr)))) (lt-ltb (memory_at d k).depth (2 ^ bits) few),
        ),
        block_lawful (suc b) ss (all_bare (λ s. (c : ℕ) → IsStmt (suc c) s) (λ s. IsStmt (suc b) s) ss (λ s l. l b) h),
        tt,
      );
}

-- it nests three deep at most
pub memory_body_lawful : (d : Design) (names : List Name) → Keeps d → NamesFit d names → (k : ℕ) → IsBlock 128 (memory_body d names k)
unfolding memory_body
memory_body_lawful d names keeps fit k =
    let ss = flat_map (port_text d names k) (circuit_of d).ports in
    block_lawful 127 ss (all_bare (λ s. (b : ℕ) → IsStmt (suc (suc b)) s) (λ s. IsStmt 127 s) ss (λ s l. l 125)
    (writes_hold d names k (λ s. (b : ℕ) → IsStmt (suc b) s) (λ s. (b : ℕ) → IsStmt (suc (suc b)) s) keeps (lawful_hold d names k keeps fit)))
