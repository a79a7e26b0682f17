-- The block of a memory's writers does to its words what the ports of the circuit write.
use Rattle.std.proofs.Common.{◌≡◌, ℕ, zero, suc, ◌^◌, ◌<◌, Bool, true, false, ◌&&◌, cond, List, [], ◌∷◌, length, flat_map, map, nat_eq, refl, sym, ap, subst, ◌∙◌, arith}
use Rattle.std.specs.Prelude.{Option, Some, None, is_some, slice_index_or}
use Rattle.std.proofs.lemmas.Bool.{eqb-true, and_parts, and_from}
use Rattle.lx_num.specs.declared.Shape.{Shape}
use Rattle.lx_num.specs.Ints.{modulo, FitsBits}
use Rattle.lx_circuit.specs.Places.{Values, At}
use Rattle.lx_circuit.specs.Memories.{Writer, Port, addressed, laid_by, rises_in, writes_to, written}
use Rattle.lx_circuit.specs.Circuit.{no_memory}
use Rattle.lx_circuit.proofs.Cases.{by_test}
use Rattle.lx_circuit.proofs.Fitting.{written_below}
use Rattle.lx_vtext.specs.Tree.{Name}
use Rattle.lx_vmeaning.specs.Meaning.{Sizes, Valuation}
use Rattle.lx_vmeaning.specs.Runs.{run_block_words}
use Rattle.lx_fhdl.specs.Designs.{circuit_of, memory_at, memory_of, shapes}
use Rattle.lx_fhdl.specs.Keeping.{Keeps, EachOf}
use Rattle.lx_fhdl.specs.declared.design.Memory.{Memory}
use Rattle.lx_fhdl.specs.declared.design.Design.{Design}
use Rattle.lx_fhdl.proofs.Designs as fhdl
use Rattle.lx_emission.specs.Memories.{block_of, write_names, writes_text, port_text, memory_body, writes_memory, writing_domain}
use Rattle.lx_emission.specs.Emits.{IsWithFirst, MemoriesFit}
use Rattle.lx_emission.proofs.Setting.{DeclaresNets, HasPatterns, SignalsFit, declared}
use Rattle.lx_emission.proofs.Writers.{IsWriter, WritesWell, all_write}
use Rattle.lx_emission.proofs.Writes.{PortStands, writes_run, runs_joined, same_either}

-- a memory with a word is one of the design
there : (ms : List Memory) (k a : ℕ) → a < (slice_index_or (map memory_of ms) k no_memory).depth → k < length ms
there [] k a lt = absurd (omega arith)
there (m ∷ ms) zero a lt = omega arith
there (m ∷ ms) (suc k) a lt = let rest = there ms k a lt in omega arith

pub memory_there : (d : Design) (k a : ℕ) → a < (memory_at d k).depth → k < length d.memories
unfolding circuit_of
memory_there d k a lt = there d.memories k a lt

-- ---- one port

-- the nets of a port that writes, and what they have
port_stands : (d : Design) (names : List Name) (s : Sizes) (v : Values) (w : Valuation) → Keeps d → DeclaresNets d names s → HasPatterns d names v w → SignalsFit d v → (q : Port) (u : Writer) → IsWriter d q u
    → PortStands s w (write_names d names q u) (memory_at d q.memory).width (memory_at d q.memory).depth u.part (shapes d q.adr).bits (v (At q.adr)) (v (At u.from)) (v (At u.we))
port_stands d names s v w keeps declares has fits q u is = record {
  memory = declares.memories q.memory is.memory;
  address = declares.signals q.adr is.adr ∙ ap (λ (t : Bool). declared (shapes d q.adr).bits t) is.plain;
  address_bits = has.signals q.adr is.adr;
  address_fits = subst (λ (t : Bool). FitsBits (shapes d q.adr).bits t (v (At q.adr))) is.plain (fits.each q.adr);
  address_some = fhdl.signal_some d keeps q.adr;
  from_net = declares.signals u.from is.from ∙ ap (λ (a : Shape). declared a.bits a.signed) is.from_shape;
  from_bits = has.signals u.from is.from ∙ ap (λ (a : Shape). modulo (v (At u.from)) (2 ^ a.bits)) is.from_shape;
  we_net = declares.signals u.we is.we ∙ ap (λ (a : Shape). declared a.bits a.signed) is.we_shape;
  we_bits = has.signals u.we is.we ∙ ap (λ (a : Shape). modulo (v (At u.we)) (2 ^ a.bits)) is.we_shape;
  part_some = is.part_some;
  parts = is.parts;
}

-- the ports of a memory that write rise
abbrev pub RisesWith : (ℕ → Bool) → ℕ → Port → Type 0
RisesWith rises k q = writes_memory k q ≡ true → rises_in rises q.domain ≡ true

writer_runs : (d : Design) (names : List Name) (s : Sizes) (v : Values) (w : Valuation) → Keeps d → DeclaresNets d names s → HasPatterns d names v w → SignalsFit d v → (rises : ℕ → Bool) (q : Port) → WritesWell d q
    → (is_some q.writer ≡ true → rises_in rises q.domain ≡ true) → (words : ℕ → ℕ) (a : ℕ) → a < (memory_at d q.memory).depth → words a < 2 ^ (memory_at d q.memory).width
    → run_block_words s w (block_of (writes_text d names q q.writer)) words a ≡ cond (rises_in rises q.domain && nat_eq (addressed v q) a) (laid_by v (memory_at d q.memory).width (words a) q.writer) (words a)
writer_runs d names s v w keeps declares has fits rises q well rise words a lt below = by q.writer refl
  where
    by : (o : Option Writer) → q.writer ≡ o
        → run_block_words s w (block_of (writes_text d names q o)) words a ≡ cond (rises_in rises q.domain && nat_eq (addressed v q) a) (laid_by v (memory_at d q.memory).width (words a) o) (words a)
    by None e = sym (same_either (rises_in rises q.domain && nat_eq (addressed v q) a) (words a))
    by (Some u) e =
        let is = well u e in
        let m = memory_at d q.memory in
        let up = rise (ap is_some e) in
        writes_run s w (write_names d names q u) m.width m.depth u.part (shapes d q.adr).bits (v (At q.adr)) (v (At u.from)) (v (At u.we)) (port_stands d names s v w keeps declares has fits q u is) words a lt below
        ∙ ap (λ b. cond (b && nat_eq (addressed v q) a) (laid_by v m.width (words a) (Some u)) (words a)) (sym up)

port_runs : (d : Design) (names : List Name) (s : Sizes) (v : Values) (w : Valuation) → Keeps d → DeclaresNets d names s → HasPatterns d names v w → SignalsFit d v → (rises : ℕ → Bool) (k : ℕ) (q : Port) → WritesWell d q → RisesWith rises k q
    → (words : ℕ → ℕ) (a : ℕ) → a < (memory_at d k).depth → words a < 2 ^ (memory_at d k).width
    → run_block_words s w (block_of (port_text d names k q)) words a ≡ cond (writes_to v rises k a q) (laid_by v (memory_at d k).width (words a) q.writer) (words a)
unfolding port_text
port_runs d names s v w keeps declares has fits rises k q well rise words a lt below =
    by_test (nat_eq q.memory k)
    (λ t.
    let same = eqb-true q.memory k t in
    rw t (subst (λ (j : ℕ). run_block_words s w (block_of (writes_text d names q q.writer)) words a ≡ cond (rises_in rises q.domain && nat_eq (addressed v q) a) (laid_by v (memory_at d j).width (words a) q.writer) (words a)) same
    (writer_runs d names s v w keeps declares has fits rises q well (λ some. rise (and_from (nat_eq q.memory k) (is_some q.writer) t some)) words a
    (subst (λ (j : ℕ). a < (memory_at d j).depth) (sym same) lt) (subst (λ (j : ℕ). words a < 2 ^ (memory_at d j).width) (sym same) below))))
    (λ t. rw t refl)

-- ---- all ports

all_run : (d : Design) (names : List Name) (s : Sizes) (v : Values) (w : Valuation) → Keeps d → DeclaresNets d names s → HasPatterns d names v w → SignalsFit d v → (rises : ℕ → Bool) (k : ℕ) (qs : List Port)
    → EachOf (WritesWell d) qs → EachOf (RisesWith rises k) qs → (words : ℕ → ℕ) (a : ℕ) → a < (memory_at d k).depth → words a < 2 ^ (memory_at d k).width
    → run_block_words s w (block_of (flat_map (port_text d names k) qs)) words a ≡ written v rises k (memory_at d k).width a qs (words a)
all_run d names s v w keeps declares has fits rises k [] well rise words a lt below = refl
all_run d names s v w keeps declares has fits rises k (q ∷ qs) well rise words a lt below =
    let m = memory_at d k in
    let after = run_block_words s w (block_of (port_text d names k q)) words in
    let here = port_runs d names s v w keeps declares has fits rises k q well.0 rise.0 words a lt below in
    let small : after a < 2 ^ m.width = subst (λ (p : ℕ). p < 2 ^ m.width) (sym here) (written_below v rises k m.width a (q ∷ []) (words a) below) in
    ap (λ (f : ℕ → ℕ). f a) (runs_joined s w (port_text d names k q) (flat_map (port_text d names k) qs) words)
    ∙ (all_run d names s v w keeps declares has fits rises k qs well.1 rise.1 after a lt small
    ∙ ap (λ (p : ℕ). written v rises k m.width a qs p) here)

-- where the clock of its writers rises, a memory's block writes what its ports do
pub body_runs : (d : Design) (names : List Name) (s : Sizes) (v : Values) (w : Valuation) → Keeps d → DeclaresNets d names s → HasPatterns d names v w → SignalsFit d v → (rises : ℕ → Bool) (k : ℕ)
    → EachOf (RisesWith rises k) (circuit_of d).ports → (words : ℕ → ℕ) (a : ℕ) → a < (memory_at d k).depth → words a < 2 ^ (memory_at d k).width
    → run_block_words s w (memory_body d names k) words a ≡ written v rises k (memory_at d k).width a (circuit_of d).ports (words a)
unfolding memory_body
body_runs d names s v w keeps declares has fits rises k rise words a lt below =
    all_run d names s v w keeps declares has fits rises k (circuit_of d).ports (all_write d keeps) rise words a lt below

-- ---- where no port of a memory writes

abbrev pub IsIdle : (ℕ → Bool) → ℕ → Port → Type 0
IsIdle rises k q = writes_memory k q ≡ true → rises_in rises q.domain ≡ false

port_idle : (v : Values) (rises : ℕ → Bool) (k width a : ℕ) (q : Port) (p : ℕ) → IsIdle rises k q → cond (writes_to v rises k a q) (laid_by v width p q.writer) p ≡ p
port_idle v rises k width a q p idle = by q.writer refl
  where
    by : (o : Option Writer) → q.writer ≡ o → cond (writes_to v rises k a q) (laid_by v width p o) p ≡ p
    by None e = same_either (writes_to v rises k a q) p
    by (Some u) e =
        by_test (nat_eq q.memory k)
        (λ t. rw (t, idle (and_from (nat_eq q.memory k) (is_some q.writer) t (ap is_some e))) refl)
        (λ t. rw t refl)

pub written_idle : (v : Values) (rises : ℕ → Bool) (k width a : ℕ) (qs : List Port) (p : ℕ) → EachOf (IsIdle rises k) qs → written v rises k width a qs p ≡ p
written_idle v rises k width a [] p idle = refl
written_idle v rises k width a (q ∷ qs) p idle =
    ap (λ (x : ℕ). written v rises k width a qs x) (port_idle v rises k width a q p idle.0) ∙ written_idle v rises k width a qs p idle.1

-- ---- the domain of a memory's writers

-- the ports that write a memory stand in this domain
abbrev pub IsIn : ℕ → Option ℕ → Port → Type 0
IsIn k o q = writes_memory k q ≡ true → q.domain ≡ o

all_in : (k : ℕ) (all qs : List Port) → EachOf (IsWithFirst all) qs → EachOf (IsIn k (writing_domain k all)) qs
all_in k all [] h = tt
all_in k all (q ∷ qs) h = (
  λ e.
      let p = and_parts (nat_eq q.memory k) (is_some q.writer) e in
      h.0 p.1 ∙ ap (λ (j : ℕ). writing_domain j all) (eqb-true q.memory k p.0),
  all_in k all qs h.1,
)

pub one_domain : (d : Design) → MemoriesFit d → (k : ℕ) → EachOf (IsIn k (writing_domain k (circuit_of d).ports)) (circuit_of d).ports
one_domain d fit k = all_in k (circuit_of d).ports (circuit_of d).ports fit.one_domain

pub rise_together : (rises : ℕ → Bool) (k : ℕ) (o : Option ℕ) (b : Bool) (qs : List Port) → EachOf (IsIn k o) qs → rises_in rises o ≡ b → EachOf (λ (q : Port). writes_memory k q ≡ true → rises_in rises q.domain ≡ b) qs
rise_together rises k o b [] h e = tt
rise_together rises k o b (q ∷ qs) h e = (λ t. ap (rises_in rises) (h.0 t) ∙ e, rise_together rises k o b qs h.1 e)
