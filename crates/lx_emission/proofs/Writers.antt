-- The ports of a design that write, and what holds of their statements.
use Rattle.std.proofs.Common.{◌≡◌, ℕ, zero, suc, ◌+◌, ◌*◌, ◌/◌, ◌%◌, ◌^◌, ◌<◌, ◌≤◌, Bool, true, false, cond, List, [], ◌∷◌, ◌++◌, length, map, flat_map, nat_eq, nat_le, refl, sym, ap, subst, ◌∙◌, arith}
use Rattle.std.specs.Prelude.{Option, Some, None, is_some, slice_index_or}
use Rattle.std.specs.List.{AllByRecursion, range_with_len}
use Rattle.std.proofs.Math.Nat.{div-mul-le_self, div-add-mod, mul-zero}
use Rattle.std.proofs.lemmas.Bool.{eqb-true, and_parts, leb-false}
use Rattle.lx_num.specs.Ints.{unsigned}
use Rattle.lx_circuit.specs.Memories.{Writer, Port}
use Rattle.lx_circuit.specs.Circuit.{no_memory}
use Rattle.lx_circuit.proofs.Cases.{by_test}
use Rattle.lx_vtext.specs.declared.operators.BinOp.TheVariants as op
use Rattle.lx_vtext.specs.Tree.{Name, Net, Binary, Literal, VStmt, When, NoElse}
use Rattle.lx_fhdl.specs.Designs.{circuit_of, memory_of, memory_at, port_of, writer_of, shapes}
use Rattle.lx_fhdl.specs.Keeping.{Keeps, IsMemory, IsPort, WriterStands, EachOf}
use Rattle.lx_fhdl.specs.declared.exprs.SigId.{SigId}
use Rattle.lx_fhdl.specs.declared.design.Memory.{Memory}
use Rattle.lx_fhdl.specs.declared.design.Port as design
use Rattle.lx_fhdl.specs.declared.design.Design.{Design}
use Rattle.lx_emission.specs.Naming.{net}
use Rattle.lx_emission.specs.Memories.{part_text, parts_text, guarded, block_of, write_names, writes_text, port_text, writes_memory, writing_domain}
use Rattle.lx_emission.proofs.Lists.{each_of_two, each_counted}

-- ---- memories

pub record IsSized (d : Design) (k : ℕ) : Type 0 where
  pub width_some : 1 ≤ (memory_at d k).width
  pub width_most : (memory_at d k).width ≤ 64
  pub depth_some : 1 ≤ (memory_at d k).depth

sized_at : (ms : List Memory) (k : ℕ) → EachOf IsMemory ms → k < length ms
    → (1 ≤ (slice_index_or (map memory_of ms) k no_memory).width) × ((slice_index_or (map memory_of ms) k no_memory).width ≤ 64) × (1 ≤ (slice_index_or (map memory_of ms) k no_memory).depth)
sized_at [] k h lt = absurd (omega arith)
sized_at (m ∷ ms) zero h lt = (h.0.width_some, h.0.width_most, h.0.depth_some)
sized_at (m ∷ ms) (suc k) h lt = sized_at ms k h.1 (omega arith)

-- a memory has words of 1 to 64 bits, and a word
pub sized : (d : Design) → Keeps d → (k : ℕ) → k < length d.memories → IsSized d k
unfolding circuit_of
sized d keeps k lt = let all = sized_at d.memories k keeps.memories lt in record { width_some = all.0; width_most = all.1; depth_some = all.2 }

-- ---- ports

-- a port that writes, as the design keeps it
pub record IsWriter (d : Design) (q : Port) (w : Writer) : Type 0 where
  pub memory : q.memory < length d.memories
  pub adr : q.adr < length d.signals
  pub plain : (shapes d q.adr).signed ≡ false
  pub from : w.from < length d.signals
  pub from_shape : shapes d w.from ≡ unsigned (memory_at d q.memory).width
  pub we : w.we < length d.signals
  pub we_shape : shapes d w.we ≡ unsigned ((memory_at d q.memory).width / w.part)
  pub part_some : 1 ≤ w.part
  pub parts : (memory_at d q.memory).width / w.part * w.part ≤ (memory_at d q.memory).width
  pub some_parts : 1 ≤ (memory_at d q.memory).width / w.part

abbrev pub WritesWell : Design → Port → Type 0
WritesWell d q = (w : Writer) → q.writer ≡ Some w → IsWriter d q w

-- a width that its part divides has a part
has_part : (n p : ℕ) → 1 ≤ n → n % p ≡ 0 → 1 ≤ n / p
has_part n p some e = by (n / p) refl
  where
    by : (q : ℕ) → n / p ≡ q → 1 ≤ q
    by zero z =
        let rule : p * (n / p) + n % p ≡ n = div-add-mod n p in
        let none : p * (n / p) ≡ 0 = ap (λ (i : ℕ). p * i) z ∙ mul-zero p in
        absurd (omega (arith, rule, none, e, some))
    by (suc q) z = omega arith

port_writes : (d : Design) → Keeps d → (q : design.Port) → IsPort d q → WritesWell d (port_of q)
port_writes d keeps q h = by q.dat_w q.we h.writer
  where
    size : IsSized d q.memory
    size = sized d keeps q.memory h.memory

    by : (from we : Option SigId) → WriterStands d (memory_at d q.memory).width q.part from we → (w : Writer) → writer_of q.part from we ≡ Some w → IsWriter d (port_of q) w
    by (Some x) (Some y) s w e =
        let same : record { from = x.0; we = y.0; part = q.part } ≡ w = cc in
        subst (λ (u : Writer). IsWriter d (port_of q) u) same (record {
          memory = h.memory;
          adr = h.adr.there;
          plain = h.adr.plain;
          from = s.0.there;
          from_shape = s.0.shape;
          we = s.1.there;
          we_shape = s.1.shape;
          part_some = h.part_some;
          parts = div-mul-le_self (memory_at d q.memory).width q.part;
          some_parts = has_part (memory_at d q.memory).width q.part size.width_some h.parts;
        })
    by (Some x) None s w e = absurd s
    by None (Some y) s w e = absurd s
    by None None s w e = absurd cc

ports_write : (d : Design) → Keeps d → (qs : List design.Port) → EachOf (IsPort d) qs → EachOf (WritesWell d) (map port_of qs)
ports_write d keeps [] h = tt
ports_write d keeps (q ∷ qs) h = (port_writes d keeps q h.0, ports_write d keeps qs h.1)

pub all_write : (d : Design) → Keeps d → EachOf (WritesWell d) (circuit_of d).ports
unfolding circuit_of
all_write d keeps = ports_write d keeps d.ports keeps.ports

-- ---- what holds of each statement of a port

-- what holds of each part, and of the condition around parts of which it holds
pub record HoldsOfWrites (d : Design) (names : List Name) (k : ℕ) (I P : VStmt → Type 0) : Type 0 where
  pub part : (q : Port) (w : Writer) → q.memory ≡ k → IsWriter d q w → (i : ℕ) → i < (memory_at d k).width / w.part → I (part_text (write_names d names q w) (memory_at d k).width w.part i)
  pub bare : (s : VStmt) → I s → P s
  pub guard : (q : Port) (w : Writer) → q.memory ≡ k → IsWriter d q w → (memory_at d k).depth < 2 ^ (shapes d q.adr).bits → (ss : List VStmt) → 0 < length ss → AllByRecursion I ss
      → P (When (Binary (Net (net names q.adr)) op.Less (Literal (shapes d q.adr).bits false (memory_at d k).depth)) (block_of ss) NoElse)

pub all_bare : (I P : VStmt → Type 0) (ss : List VStmt) → ((s : VStmt) → I s → P s) → AllByRecursion I ss → AllByRecursion P ss
all_bare I P [] f h = tt
all_bare I P (s ∷ ss) f h = (f s h.0, all_bare I P ss f h.1)

counted_some : (g : ℕ → VStmt) (n : ℕ) → 1 ≤ n → 0 < length (map g (range_with_len 0 n))
counted_some g zero h = absurd (omega arith)
counted_some g (suc n) h = omega arith

-- it holds of all that a port writes
writer_holds : (d : Design) (names : List Name) (k : ℕ) (I P : VStmt → Type 0) → HoldsOfWrites d names k I P → (q : Port) → q.memory ≡ k → WritesWell d q → AllByRecursion P (writes_text d names q q.writer)
writer_holds d names k I P h q same well = by q.writer refl
  where
    by : (o : Option Writer) → q.writer ≡ o → AllByRecursion P (writes_text d names q o)
    by None e = tt
    by (Some w) e = written w (well w e)
      where
        of_memory : ℕ → Type 0
        of_memory m = AllByRecursion P (guarded (net names q.adr) (shapes d q.adr).bits (memory_at d m).depth (parts_text (write_names d names q w) (memory_at d m).width w.part))

        written : (u : Writer) → IsWriter d q u → AllByRecursion P (writes_text d names q (Some u))
        written u is =
            let parts = each_counted I (part_text (write_names d names q u) (memory_at d k).width u.part) 0 ((memory_at d k).width / u.part) (λ i low lt. h.part q u same is i (omega arith)) in
            let ss = parts_text (write_names d names q u) (memory_at d k).width u.part in
            subst (λ (m : ℕ). AllByRecursion P (guarded (net names q.adr) (shapes d q.adr).bits (memory_at d m).depth (parts_text (write_names d names q u) (memory_at d m).width u.part))) (sym same)
            (by_test (nat_le (2 ^ (shapes d q.adr).bits) (memory_at d k).depth)
            (λ t. rw t (all_bare I P ss h.bare parts))
            (λ t. rw t (
              h.guard q u same is (leb-false (2 ^ (shapes d q.adr).bits) (memory_at d k).depth t) ss
                  (counted_some (part_text (write_names d names q u) (memory_at d k).width u.part) ((memory_at d k).width / u.part) (subst (λ (m : ℕ). 1 ≤ (memory_at d m).width / u.part) same is.some_parts)) parts,
              tt,
            )))

port_holds : (d : Design) (names : List Name) (k : ℕ) (I P : VStmt → Type 0) → HoldsOfWrites d names k I P → (q : Port) → WritesWell d q → AllByRecursion P (port_text d names k q)
unfolding port_text
port_holds d names k I P h q well =
    by_test (nat_eq q.memory k) (λ t. rw t (writer_holds d names k I P h q (eqb-true q.memory k t) well)) (λ t. rw t tt)

ports_hold : (d : Design) (names : List Name) (k : ℕ) (I P : VStmt → Type 0) → HoldsOfWrites d names k I P → (qs : List Port) → EachOf (WritesWell d) qs → AllByRecursion P (flat_map (port_text d names k) qs)
ports_hold d names k I P h [] well = tt
ports_hold d names k I P h (q ∷ qs) well =
    each_of_two P (port_text d names k q) (flat_map (port_text d names k) qs) (port_holds d names k I P h q well.0) (ports_hold d names k I P h qs well.1)

-- it holds of all that is written to a memory
pub writes_hold : (d : Design) (names : List Name) (k : ℕ) (I P : VStmt → Type 0) → Keeps d → HoldsOfWrites d names k I P → AllByRecursion P (flat_map (port_text d names k) (circuit_of d).ports)
writes_hold d names k I P keeps h = ports_hold d names k I P h (circuit_of d).ports (all_write d keeps)

-- ---- a memory that has a writer has a statement

guarded_some : (adr : Name) (bits depth : ℕ) (ss : List VStmt) → 0 < length ss → 0 < length (guarded adr bits depth ss)
guarded_some adr bits depth ss h = by (nat_le (2 ^ bits) depth)
  where
    by : (b : Bool) → 0 < length (cond b ss (When (Binary (Net adr) op.Less (Literal bits false depth)) (block_of ss) NoElse ∷ []))
    by true = h
    by false = omega arith

some_left : (xs ys : List VStmt) → 0 < length xs → 0 < length (xs ++ ys)
some_left [] ys h = absurd (omega arith)
some_left (x ∷ xs) ys h = omega arith

some_right : (xs ys : List VStmt) → 0 < length ys → 0 < length (xs ++ ys)
some_right [] ys h = h
some_right (x ∷ xs) ys h = omega arith

port_some : (d : Design) (names : List Name) (k : ℕ) (q : Port) → WritesWell d q → writes_memory k q ≡ true → 0 < length (port_text d names k q)
unfolding port_text
port_some d names k q well e =
    let p = and_parts (nat_eq q.memory k) (is_some q.writer) e in
    rw p.0 (by q.writer refl p.1)
  where
    by : (o : Option Writer) → q.writer ≡ o → is_some o ≡ true → 0 < length (writes_text d names q o)
    by None t s = absurd cc
    by (Some w) t s =
        guarded_some (net names q.adr) (shapes d q.adr).bits (memory_at d q.memory).depth (parts_text (write_names d names q w) (memory_at d q.memory).width w.part)
        (counted_some (part_text (write_names d names q w) (memory_at d q.memory).width w.part) ((memory_at d q.memory).width / w.part) (well w t).some_parts)

listed_some : (d : Design) (names : List Name) (k x : ℕ) (qs : List Port) → EachOf (WritesWell d) qs → writing_domain k qs ≡ Some x → 0 < length (flat_map (port_text d names k) qs)
listed_some d names k x [] well e = absurd cc
listed_some d names k x (q ∷ qs) well e =
    by_test (writes_memory k q)
    (λ t. some_left (port_text d names k q) (flat_map (port_text d names k) qs) (port_some d names k q well.0 t))
    (λ t. some_right (port_text d names k q) (flat_map (port_text d names k) qs) (listed_some d names k x qs well.1 (rw t at e)))

pub writes_some : (d : Design) (names : List Name) (k x : ℕ) → Keeps d → writing_domain k (circuit_of d).ports ≡ Some x → 0 < length (flat_map (port_text d names k) (circuit_of d).ports)
writes_some d names k x keeps e = listed_some d names k x (circuit_of d).ports (all_write d keeps) e
