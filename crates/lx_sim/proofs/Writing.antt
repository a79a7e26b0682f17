-- What ports write.
use Rattle.std.proofs.Common.{◌≡◌, ◌≢◌, ℕ, Bool, true, false, ◌&&◌, ◌⊎◌, ◌+◌, ◌/◌, ◌^◌, ◌<◌, ◌≤◌, List, [], ◌∷◌, drop, length, set, cond, nat_eq, refl, sym, ◌∙◌, ap, subst, arith, inl, inr, eq-eqb, length-set, get_or-set_same, get_or-set_other}
use Rattle.std.specs.Prelude.{ℤ, pos, Option, None, Some, nat_lt, option_map, slice_get, slice_index_or}
use Rattle.std.proofs.Math.Bool.{and-false}
use Rattle.std.proofs.Math.ListN.{drop_of_length-le}
use Rattle.std.proofs.lemmas.Bool.{cases_eq, ltb-true, ne_eqb}
use Rattle.std.proofs.lemmas.List.{get_or_default, length-map}
use Rattle.std.proofs.lemmas.Option.{slice_get-map}
use Rattle.std.proofs.lemmas.Nat.{pow_pos}
use Rattle.lx_num.specs.Ints.{Fits, modulo, unsigned}
use Rattle.lx_num.proofs.Ints.{modulo-below, modulo-small}
use Rattle.lx_num.proofs.Ranges.{fits_pos}
use Rattle.lx_circuit.specs.Places.{Values, At}
use Rattle.lx_circuit.specs.Values.{count_of}
use Rattle.lx_circuit.specs.Memories.{Port, Writer, laid_by, laid_parts, rises_in, writes_to, written}
use Rattle.lx_circuit.specs.Circuit.{IsSettled, next_state}
use Rattle.lx_circuit.proofs.Cases.{by_test}
use Rattle.lx_circuit.proofs.Fitting.{written_below}
use Rattle.lx_fhdl.specs.Designs.{circuit_of, memory_at, port_of, writer_of}
use Rattle.lx_fhdl.specs.Keeping.{IsPort, Keeps, WriterStands}
use Rattle.lx_fhdl.specs.Nodes.{value_at}
use Rattle.lx_fhdl.specs.declared.design.Port as design
use Rattle.lx_fhdl.proofs.Resets.{each_of_at}
use Rattle.lx_fhdl.specs.declared.design.Design.{Design}
use Rattle.lx_fhdl.specs.declared.exprs.SigId.{SigId}
use Rattle.lx_emission.proofs.Writers.{sized}
use Rattle.lx_emission.proofs.Writes.{same_either}
use Rattle.lx_sheet.proofs.Lines.{drop_at}
use Rattle.lx_trace.specs.Traces.{rises_of}
use Rattle.lx_sim.specs.Moments.{AreValues}
use Rattle.lx_sim.specs.Words.{AreWords, HaveWords, placed, word_at, words_of}
use Rattle.lx_sim.specs.Writing.{ArePatterns, IsPut, IsPutOf, PutsWord, Writes, WritesFrom, pattern_at, within}
use Rattle.lx_sim.specs.declared.words.Put.{Put}
use Rattle.lx_sim.proofs.Remembered.{are_patterns, word_pattern, words_are}

-- ---- one memory

within_is : (n j k : ℕ) → Some k ≡ within n j → (k ≡ j) × (j < n)
within_is n j k e =
    by_test (nat_lt j n)
    (λ t. (let f : Some k ≡ Some j = e ∙ ap (λ (b : Bool). cond b (Some j) None) t in cc, ltb-true j n t))
    (λ t. absurd (let f : Some k ≡ None = e ∙ ap (λ (b : Bool). cond b (Some j) None) t in cc))

pub word_put : (put : Put) (old new : List ℤ) (k : ℕ) (x z : ℤ) → Some k ≡ within (length old) (count_of put.at) → x ≡ slice_index_or old k (pos 0)
    → ((p : ℕ) → x ≡ pos p → z ≡ pos (laid_parts put.part put.we put.from p (put.width / put.part))) → new ≡ set old k z → PutsWord put old new
word_put put old new k x z here found is after = subst (PutsWord put old) (sym after) (record {
  long = length-set old k z;
  each = λ i p l e.
      let (same, room) = within_is (length old) (count_of put.at) k here in
      let laid = laid_parts put.part put.we put.from p (put.width / put.part) in
      elim (cases_eq i k) [
        | inl q ↦
            let first : x ≡ pos p = found ∙ (ap (λ (j : ℕ). slice_index_or old j (pos 0)) (sym q) ∙ e) in
            ap (λ (j : ℕ). slice_index_or (set old k z) j (pos 0)) q
            ∙ (get_or-set_same old k z (pos 0) (omega (arith, same, room))
            ∙ (is p first ∙ ap pos (sym (ap (λ (b : Bool). cond b laid p) (eq-eqb (count_of put.at) i (sym same ∙ sym q))))))
        | inr q ↦ get_or-set_other old k i z (pos 0) q ∙ (e ∙ ap pos (sym (ap (λ (b : Bool). cond b laid p) (ne_eqb (count_of put.at) i (λ r. q (sym r ∙ sym same))))))
      ];
})

-- ---- from words to patterns

-- words are numbers of what one port leaves, so it writes them
one_writes : (d : Design) (q : Port) (rises : ℕ) (vals : List ℤ) (old new : List (List ℤ)) → length new ≡ length d.memories → ((m : ℕ) → length (words_of new m) ≡ (memory_at d m).depth)
    → ((v : Values) → AreValues d vals v → (m k : ℕ) → k < (memory_at d m).depth → word_at new m k ≡ pos (written v (rises_of rises) m (memory_at d m).width k (q ∷ []) (pattern_at d old m k)))
    → Writes d (q ∷ []) rises vals old new
one_writes d q rises vals old new long deep are =
    let below : (v : Values) (m k : ℕ) → written v (rises_of rises) m (memory_at d m).width k (q ∷ []) (pattern_at d old m k) < 2 ^ (memory_at d m).width =
    λ (v : Values) (m k : ℕ). written_below v (rises_of rises) m (memory_at d m).width k (q ∷ []) (pattern_at d old m k) (modulo-below (word_at old m k) (2 ^ (memory_at d m).width) (pow_pos (memory_at d m).width)) in
    record {
      have = record {
        memories = long;
        deep = deep;
        fit = λ m k l.
            let v = placed vals old in
            let is = are v (record { each = λ x h. refl }) m k l in
            subst (λ (z : ℤ). Fits (unsigned (memory_at d m).width) z) (sym is) (fits_pos (memory_at d m).width (written v (rises_of rises) m (memory_at d m).width k (q ∷ []) (pattern_at d old m k)) (below v m k));
      };
      is = λ v values m k l.
          ap (λ (z : ℤ). modulo z (2 ^ (memory_at d m).width)) (are v values m k l)
          ∙ modulo-small (written v (rises_of rises) m (memory_at d m).width k (q ∷ []) (pattern_at d old m k)) (2 ^ (memory_at d m).width) (below v m k);
    }

-- ---- what a port writes

pub is_put : (d : Design) (q : design.Port) (rises : ℕ) (vals : List ℤ) (from we : SigId) (put : Put) → IsPort d q → rises_in (rises_of rises) q.domain ≡ true → q.dat_w ≡ Some from → q.we ≡ Some we → put.at ≡ value_at vals q.adr.0
    → put.we ≡ value_at vals we.0 → put.from ≡ value_at vals from.0 → put.part ≡ q.part → put.width ≡ (memory_at d q.memory).width → IsPut d q rises vals put
is_put d q rises vals from we put is up e f at we_is from_is part width =
    let writer : Writer = record { from = from.0; we = we.0; part = q.part } in
    let writes : (port_of q).writer ≡ Some writer = ap (λ (o : Option SigId). writer_of q.part o q.we) e ∙ ap (writer_of q.part (Some from)) f in
    let n = (memory_at d q.memory).width in
    let first : WriterStands d n q.part (Some from) q.we = subst (λ (o : Option SigId). WriterStands d n q.part o q.we) e is.writer in
    let stands : WriterStands d n q.part (Some from) (Some we) = subst (λ (o : Option SigId). WriterStands d n q.part (Some from) o) f first in
    record {
      up = up;
      writer = writer;
      writes = writes;
      adr_there = is.adr.there;
      we_there = stands.1.there;
      from_there = stands.0.there;
      at = at;
      we = we_is;
      from = from_is;
      part = part;
      width = width;
    }

-- ---- a port that writes nothing

idle : (v : Values) (rises : ℕ → Bool) (m w k p : ℕ) (q : Port) → (rises_in rises q.domain ≡ false) ⊎ (q.writer ≡ None) → written v rises m w k (q ∷ []) p ≡ p
idle v rises m w k p q (inl e) =
    let f = count_of (v (At q.adr)) in
    ap (λ (b : Bool). cond (nat_eq q.memory m && (b && nat_eq f k)) (laid_by v w p q.writer) p) e ∙ ap (λ (b : Bool). cond b (laid_by v w p q.writer) p) (and-false (nat_eq q.memory m))
idle v rises m w k p q (inr e) = ap (λ (o : Option Writer). cond (writes_to v rises m k q) (laid_by v w p o) p) e ∙ same_either (writes_to v rises m k q) p

pub nothing_written : (d : Design) (q : design.Port) (rises : ℕ) (vals : List ℤ) (words : List (List ℤ)) → Keeps d → HaveWords d words → IsPutOf d q rises vals None → Writes d (port_of q ∷ []) rises vals words words
nothing_written d q rises vals words keeps have none =
    one_writes d (port_of q) rises vals words words have.memories have.deep
    (λ v values m k l. word_pattern d words m k keeps have l ∙ ap pos (sym (idle v (rises_of rises) m (memory_at d m).width k (pattern_at d words m k) (port_of q) none)))

-- ---- a port that writes

written_there : (v : Values) (rises : ℕ → Bool) (w k p : ℕ) (q : Port) (u : Writer) → rises_in rises q.domain ≡ true → q.writer ≡ Some u
    → written v rises q.memory w k (q ∷ []) p ≡ cond (nat_eq (count_of (v (At q.adr))) k) (laid_parts u.part (v (At u.we)) (v (At u.from)) p (w / u.part)) p
written_there v rises w k p q u up e =
    let f = nat_eq (count_of (v (At q.adr))) k in
    ap (λ (o : Option Writer). cond (writes_to v rises q.memory k q) (laid_by v w p o) p) e
    ∙ (ap (λ (b : Bool). cond (b && (rises_in rises q.domain && f)) (laid_by v w p (Some u)) p) (eq-eqb q.memory q.memory refl)
    ∙ ap (λ (b : Bool). cond (b && f) (laid_by v w p (Some u)) p) up)

written_elsewhere : (v : Values) (rises : ℕ → Bool) (m w k p : ℕ) (q : Port) → m ≢ q.memory → written v rises m w k (q ∷ []) p ≡ p
written_elsewhere v rises m w k p q n = ap (λ (b : Bool). cond (b && (rises_in rises q.domain && nat_eq (count_of (v (At q.adr))) k)) (laid_by v w p q.writer) p) (ne_eqb q.memory m (λ e. n (sym e)))

pub put_written : (d : Design) (q : design.Port) (rises : ℕ) (vals : List ℤ) (old : List (List ℤ)) (own : List ℤ) (put : Put) → Keeps d → HaveWords d old → q.memory < length d.memories → IsPutOf d q rises vals (Some put) → PutsWord put (words_of old q.memory) own
    → Writes d (port_of q ∷ []) rises vals old (set old q.memory own)
put_written d q rises vals old own put keeps have within is puts =
    let c = port_of q in
    let there : words_of (set old q.memory own) q.memory ≡ own = get_or-set_same old q.memory own [] (omega (arith, within, have.memories)) in
    one_writes d c rises vals old (set old q.memory own) (length-set old q.memory own ∙ have.memories)
    (λ m.
    elim (cases_eq m q.memory) [
      | inl e ↦ subst (λ (i : ℕ). length (words_of (set old q.memory own) i) ≡ (memory_at d i).depth) (sym e) (ap length there ∙ (puts.long ∙ have.deep q.memory))
      | inr e ↦ ap length (get_or-set_other old q.memory m own [] e) ∙ have.deep m
    ])
    (λ v values m k l.
    elim (cases_eq m q.memory) [
      | inl e ↦
          subst (λ (i : ℕ). k < (memory_at d i).depth → word_at (set old q.memory own) i k ≡ pos (written v (rises_of rises) i (memory_at d i).width k (c ∷ []) (pattern_at d old i k))) (sym e)
          (λ (h : k < (memory_at d q.memory).depth).
          let p = pattern_at d old q.memory k in
          ap (λ (xs : List ℤ). slice_index_or xs k (pos 0)) there
          ∙ (puts.each k p (omega (arith, h, have.deep q.memory)) (word_pattern d old q.memory k keeps have h)
          ∙ (put_is v values p k ∙ ap pos (sym (written_there v (rises_of rises) (memory_at d q.memory).width k p c is.writer is.up is.writes)))))
          l
      | inr e ↦
          ap (λ (xs : List ℤ). slice_index_or xs k (pos 0)) (get_or-set_other old q.memory m own [] e)
          ∙ (word_pattern d old m k keeps have l ∙ ap pos (sym (written_elsewhere v (rises_of rises) m (memory_at d m).width k (pattern_at d old m k) c e)))
    ])
  where
    put_is : (v : Values) → AreValues d vals v → (p k : ℕ)
        → pos (cond (nat_eq (count_of put.at) k) (laid_parts put.part put.we put.from p (put.width / put.part)) p)
        ≡ pos (cond (nat_eq (count_of (v (At q.adr.0))) k) (laid_parts is.writer.part (v (At is.writer.we)) (v (At is.writer.from)) p ((memory_at d q.memory).width / is.writer.part)) p)
    put_is v values p k =
        let at : put.at ≡ v (At q.adr.0) = is.at ∙ values.each q.adr.0 is.adr_there in
        let we : put.we ≡ v (At is.writer.we) = is.we ∙ values.each is.writer.we is.we_there in
        let from : put.from ≡ v (At is.writer.from) = is.from ∙ values.each is.writer.from is.from_there in
        rw (at, we, from, is.part, is.width) refl

-- ---- a port of a design

pub port_is : (d : Design) (k : ℕ) (q : design.Port) → Keeps d → slice_get d.ports k ≡ Some q → IsPort d q
port_is d k q keeps found = each_of_at (IsPort d) d.ports keeps.ports k q found

pub put_narrow : (d : Design) (k : ℕ) (q : design.Port) (rises : ℕ) (vals : List ℤ) (put : Put) → Keeps d → slice_get d.ports k ≡ Some q → IsPut d q rises vals put → put.width ≤ 64
put_narrow d k q rises vals put keeps found is = let most = (sized d keeps q.memory (port_is d k q keeps found).memory).width_most in omega (arith, is.width, most)

words_at : (d : Design) (words : List (List ℤ)) (m : ℕ) (other : List ℤ) → HaveWords d words → m < length d.memories → words_of words m ≡ slice_index_or words m other
words_at d words m other have l = get_or_default words m [] other (omega (arith, l, have.memories))

pub patterns_at : (d : Design) (k : ℕ) (q : design.Port) (words : List (List ℤ)) (other : List ℤ) → Keeps d → HaveWords d words → slice_get d.ports k ≡ Some q → ArePatterns (slice_index_or words q.memory other)
patterns_at d k q words other keeps have found = subst ArePatterns (words_at d words q.memory other have (port_is d k q keeps found).memory) (are_patterns d words q.memory keeps have)

pub port_written : (d : Design) (k : ℕ) (q : design.Port) (rises : ℕ) (vals : List ℤ) (old : List (List ℤ)) (own other : List ℤ) (put : Put) → Keeps d → HaveWords d old → slice_get d.ports k ≡ Some q → IsPutOf d q rises vals (Some put)
    → PutsWord put (slice_index_or old q.memory other) own → (r : design.Port) → slice_get d.ports k ≡ Some r → Writes d (port_of r ∷ []) rises vals old (set old q.memory own)
port_written d k q rises vals old own other put keeps have found is puts r here =
    let there = (port_is d k q keeps found).memory in
    let same : q ≡ r = cc in
    subst (λ (p : design.Port). Writes d (port_of p ∷ []) rises vals old (set old q.memory own)) same
    (put_written d q rises vals old own put keeps have there is (subst (λ (xs : List ℤ). PutsWord put xs own) (sym (words_at d old q.memory other have there)) puts))

pub port_idle : (d : Design) (k : ℕ) (q : design.Port) (rises : ℕ) (vals : List ℤ) (words : List (List ℤ)) → Keeps d → HaveWords d words → slice_get d.ports k ≡ Some q → IsPutOf d q rises vals None → (r : design.Port) → slice_get d.ports k ≡ Some r
    → Writes d (port_of r ∷ []) rises vals words words
port_idle d k q rises vals words keeps have found none r here =
    let same : q ≡ r = cc in
    subst (λ (p : design.Port). Writes d (port_of p ∷ []) rises vals words words) same (nothing_written d q rises vals words keeps have none)

-- ---- all ports

pub writes_none : (d : Design) (qs : List Port) (rises : ℕ) (vals : List ℤ) (words : List (List ℤ)) → HaveWords d words → WritesFrom d qs 0 rises vals words words
writes_none d qs rises vals words have = record { have = have; is = λ v values m k l. refl }

pub writes_more : (d : Design) (qs : List Port) (q : Port) (n rises : ℕ) (vals : List ℤ) (old now next : List (List ℤ)) → slice_get qs n ≡ Some q → WritesFrom d qs n rises vals old now → Writes d (q ∷ []) rises vals now next → WritesFrom d qs (n + 1) rises vals old next
writes_more d qs q n rises vals old now next found from one = record {
  have = one.have;
  is = λ v values m k l.
      let w = (memory_at d m).width in
      ap (λ (p : ℕ). written v (rises_of rises) m w k (drop (n + 1) qs) p) (one.is v values m k l)
      ∙ (ap (λ (rest : List Port). written v (rises_of rises) m w k rest (pattern_at d now m k)) (sym (drop_at qs n q found)) ∙ from.is v values m k l);
}

pub writes_all : (d : Design) (qs : List Port) (n rises : ℕ) (vals : List ℤ) (old new : List (List ℤ)) → length qs ≤ n → WritesFrom d qs n rises vals old new → Writes d qs rises vals old new
writes_all d qs n rises vals old new l from = record {
  have = from.have;
  is = λ v values m k h. ap (λ (rest : List Port). written v (rises_of rises) m (memory_at d m).width k rest (pattern_at d new m k)) (sym (drop_of_length-le qs l)) ∙ from.is v values m k h;
}

pub port_at : (d : Design) (k : ℕ) (q : design.Port) → slice_get d.ports k ≡ Some q → slice_get (circuit_of d).ports k ≡ Some (port_of q)
unfolding circuit_of
port_at d k q e = slice_get-map port_of d.ports k ∙ ap (option_map port_of) e

pub ports_long : (d : Design) → length (circuit_of d).ports ≡ length d.ports
unfolding circuit_of
ports_long d = length-map d.ports port_of

-- ---- after a rise

pub words_next : (d : Design) (rises : ℕ) (vals : List ℤ) (old new : List (List ℤ)) (state v inputs w : Values) → Keeps d → Writes d (circuit_of d).ports rises vals old new → AreValues d vals v → AreWords old v
    → IsSettled (circuit_of d) (next_state (circuit_of d) state v (rises_of rises)) inputs w → AreWords new w
words_next d rises vals old new state v inputs w keeps writes values words settled =
    words_are d new (next_state (circuit_of d) state v (rises_of rises)) inputs w writes.have settled
    (λ m k l.
    word_pattern d new m k keeps writes.have l
    ∙ ap pos (writes.is v values m k l ∙ ap (λ (z : ℤ). written v (rises_of rises) m (memory_at d m).width k (circuit_of d).ports (modulo z (2 ^ (memory_at d m).width))) (words.each m k)))
