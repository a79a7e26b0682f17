-- The states after a step are the same, and so are the first ones.
use Rattle.std.proofs.Common.{◌≡◌, ℕ, ℤ, zero, suc, ◌+◌, ◌^◌, ◌<◌, Bool, true, false, cond, ◌&&◌, not, List, [], ◌∷◌, length, Option, Some, None, refl, sym, ap, subst, ◌∙◌, arith}
use Rattle.std.specs.Prelude.{slice_get, slice_index_or, option_map}
use Rattle.std.proofs.lemmas.Nat.{pow_pos}
use Rattle.lx_num.specs.Ints.{modulo, wrapped, shape}
use Rattle.lx_num.proofs.Ints.{modulo-below, modulo-small}
use Rattle.lx_num.proofs.Ranges.{modulo-wrap_bits}
use Rattle.lx_circuit.specs.Places.{Values, At, Word}
use Rattle.lx_circuit.specs.Values.{is_zero}
use Rattle.lx_circuit.specs.Statements.{after_pieces, taken_block, result}
use Rattle.lx_circuit.specs.Circuit as circuit
use Rattle.lx_circuit.specs.Circuit.{Role, role, made, by_role, IsSettled, next_state, first_state, risen, is_reset, domain_at, no_domain}
use Rattle.lx_circuit.specs.Fitting.{InputsFit, StateFits}
use Rattle.lx_circuit.proofs.Fitting.{settled_fits, written_below}
use Rattle.lx_vtext.specs.Tree.{Name, Net, Whole, Assign, When, NoElse, VBlock, EndBlock, InBlock}
use Rattle.lx_vmeaning.specs.Meaning.{Sizes, Valuation, meaning, assigned, holds}
use Rattle.lx_vmeaning.specs.Runs as runs
use Rattle.lx_vmeaning.proofs.Views as v_views
use Rattle.lx_vmeaning.specs.Runs.{IsVSettled, driver, first_driver, first_net, sizes, run_block, run_block_words, v_next, v_first, next_net, next_words}
use Rattle.lx_agree.specs.Agreement.{pattern, net_shape, declared_size, SameInputs, Declares}
use Rattle.lx_agree.specs.Following.{SameState, Steps, Follows}
use Rattle.lx_fhdl.specs.Below.{StmtId}
use Rattle.lx_fhdl.specs.Designs.{shapes, signal_number, domain_of, domains_from, circuit_of, memory_of, memory_at, block, stmts_of}
use Rattle.lx_fhdl.specs.declared.exprs.SigId.{SigId}
use Rattle.lx_fhdl.specs.declared.design.Domain.{Domain}
use Rattle.lx_fhdl.specs.declared.design.Design.{Design}
use Rattle.lx_fhdl.proofs.Designs as design
use Rattle.lx_arena.proofs.Places.{node_there}
use Rattle.lx_emission.specs.Naming.{net, node_net, clock, memory_name, naming}
use Rattle.lx_emission.specs.Signals.{Drive, Sync, drive, drive_by, own, reset_of_signal, reset_text, domain_reset, reset_block, sync_body, init_of, shape_of_signal, signal_net}
use Rattle.lx_emission.specs.Emission.{emitted}
use Rattle.lx_emission.specs.Emits.{CanBeEmitted}
use Rattle.lx_emission.proofs.Setting.{HasPatterns, SignalsFit, driver_by, clocked_drivers, memory_drivers}
use Rattle.lx_emission.proofs.Structure.{net_of_signal}
use Rattle.lx_emission.proofs.Classes.{memory_of_name}
use Rattle.lx_emission.proofs.Parts.{declares, drive_within, writing_within, domains-length}
use Rattle.lx_emission.proofs.Inits.{word_starts}
use Rattle.lx_emission.proofs.Writers.{sized}
use Rattle.lx_emission.proofs.MemoryRuns.{IsIn, memory_there, body_runs, written_idle, one_domain, rise_together}
use Rattle.std.proofs.lemmas.List.{length-map}
use Rattle.std.proofs.lemmas.Nat.{mod_below}
use Rattle.lx_circuit.specs.Memories.{written}
use Rattle.lx_circuit.specs.Circuit.{first_word}
use Rattle.lx_circuit.proofs.Cases.{by_test}
use Rattle.lx_fhdl.specs.Keeping.{EachOf}
use Rattle.lx_emission.specs.Memories.{memory_body, writing_domain}
use Rattle.lx_emission.proofs.Fitting.{signal_bits}
use Rattle.lx_emission.proofs.Operands.{literal_exact, net_exact, cut_exact, holds_exact}
use Rattle.lx_emission.proofs.Pieces.{own_for, own_below}
use Rattle.lx_emission.proofs.Runs.{block_runs}
use Rattle.lx_emission.proofs.Blocks.{list_made, sync_plain, sync_below, sync_some, sync_own, reset_within}
use Rattle.lx_emission.proofs.Whole.{cycle_meaning, drivers_are, memory_blocks}
use Rattle.lx_emission.proofs.Follow.{Moment, moment, patterns_of, has_patterns, words_have, settled_for, settles, reset_assigned, own_pattern, made_within}

-- ---- the domain of a number

domains_at : (d : Design) (j k : ℕ) (xs : List Domain) (x : Domain) → slice_get xs k ≡ Some x → slice_index_or (domains_from d j xs) k no_domain ≡ domain_of d (j + k) x
domains_at d j k [] x e = absurd cc
domains_at d j zero (y ∷ ys) x e = let same : y ≡ x = cc in rw same (ap (λ (i : ℕ). domain_of d i x) (let p : j ≡ j + 0 = omega arith in p))
domains_at d j (suc k) (y ∷ ys) x e = domains_at d (j + 1) k ys x e ∙ ap (λ (i : ℕ). domain_of d i x) (let p : j + 1 + k ≡ j + suc k = omega arith in p)

domain_is : (d : Design) (k : ℕ) (x : Domain) → slice_get d.domains k ≡ Some x → domain_at (circuit_of d) k ≡ domain_of d k x
unfolding circuit_of
domain_is d k x e = domains_at d 0 k d.domains x e ∙ ap (λ (i : ℕ). domain_of d i x) (let p : 0 + k ≡ k = omega arith in p)

-- ---- the reset of a clocked block

reset_holds : (d : Design) (names : List Name) (v : Values) (w : Valuation) (r : SigId) → CanBeEmitted d names → Moment d names v w → r.0 < length d.signals → holds (sizes (emitted d names)) w (Net (net names r.0)) ≡ not (is_zero (v (At r.0)))
reset_holds d names v w r can now lt =
    let s = sizes (emitted d names) in
    let a = shapes d r.0 in
    holds_exact w a.bits a.signed (v (At r.0)) (meaning s (Net (net names r.0)))
    (net_exact w s (net names r.0) a (v (At r.0)) ((declares d names can.keeps can.named can.ports).signals r.0 lt) (design.signal_small d can.keeps r.0) (now.fits.each r.0) (now.has.signals r.0 lt))

by_tests : (a b c : Bool) (p q : ℕ) → a ≡ c → cond b q (cond a p q) ≡ cond (c && not b) p q
by_tests true true c p q e = rw (sym e) refl
by_tests true false c p q e = rw (sym e) refl
by_tests false true c p q e = rw (sym e) refl
by_tests false false c p q e = rw (sym e) refl

run_choice : (s : Sizes) (w : Valuation) (b : Bool) (body : VBlock) (p : ℕ) → run_block s w (cond b EndBlock body) p ≡ cond b p (run_block s w body p)
run_choice s w true body p = refl
run_choice s w false body p = refl

same_choice : (b c : Bool) (p q r : ℕ) → p ≡ q → cond b r (cond c p r) ≡ cond b r (cond c q r)
same_choice b c p q r e = ap (λ (z : ℕ). cond b r (cond c z r)) e

reset_runs : (d : Design) (names : List Name) (v : Values) (w : Valuation) (x : ℕ) (o : Option SigId) (p : ℕ) → CanBeEmitted d names → Moment d names v w → x < length d.signals → ((r : SigId) → o ≡ Some r → r.0 < length d.signals)
    → run_block (sizes (emitted d names)) w (reset_block d names x o) p ≡ cond (is_reset v (option_map signal_number o) && not (made (circuit_of d) x).reset_less) (modulo (reset_of_signal d x) (2 ^ (shapes d x).bits)) p
reset_runs d names v w x None p can now lt within = refl
reset_runs d names v w x (Some r) p can now lt within =
    let s = sizes (emitted d names) in
    let less = (made (circuit_of d) x).reset_less in
    let body = InBlock (When (Net (net names r.0)) (InBlock (Assign (Whole (net names x)) false (reset_text d x)) EndBlock) NoElse) EndBlock in
    let to = assigned s w (s (net names x)).bits (reset_text d x) in
    run_choice s w less body p
    ∙ (same_choice less (holds s w (Net (net names r.0))) to (modulo (reset_of_signal d x) (2 ^ (shapes d x).bits)) p (reset_assigned d names x w can lt)
    ∙ by_tests (holds s w (Net (net names r.0))) less (not (is_zero (v (At r.0)))) (modulo (reset_of_signal d x) (2 ^ (shapes d x).bits)) p (reset_holds d names v w r can now (within r refl)))

choice_pattern : (b : Bool) (m : ℕ) (y z : ℤ) → modulo (cond b y z) m ≡ cond b (modulo y m) (modulo z m)
choice_pattern true m y z = refl
choice_pattern false m y z = refl

-- ---- a step

-- what a risen domain gives a signal
risen_pattern : (d : Design) (names : List Name) (v : Values) (w : Valuation) (x k : ℕ) (y : Domain) → CanBeEmitted d names → Moment d names v w → x < length d.signals → slice_get d.domains k ≡ Some y
    → run_block (sizes (emitted d names)) w (sync_body d names x k (own d x (stmts_of k d.sync))) (modulo (v (At x)) (2 ^ (shapes d x).bits)) ≡ pattern (circuit_of d) x (risen (circuit_of d) v (domain_of d k y) x)
risen_pattern d names v w x k y can now lt there =
    let n = (shapes d x).bits in
    let s = sizes (emitted d names) in
    let keeps = can.keeps in
    let all = stmts_of k d.sync in
    let ids = own d x all in
    let plain = sync_plain d k d.sync can.lowered.sync in
    let below = sync_below d k d.sync keeps.sync in
    let old = modulo (v (At x)) (2 ^ n) in
    let o = domain_reset (slice_get d.domains k) in
    let runs = block_runs d names s v w false x keeps (declares d names keeps can.named can.ports) now.stand lt ids (own_below d x (length d.stmts) all below) (own_for d x all plain) (reset_block d names x o) old (modulo-below (v (At x)) (2 ^ n) (pow_pos n)) in
    let moved = own_pattern d v x all (v (At x)) keeps below plain in
    runs
    ∙ (reset_runs d names v w x o (after_pieces x old (taken_block (shapes d) v (block d ids))) can now lt (λ r e. reset_within d keeps k r e)
    ∙ (ap (λ (q : ℕ). cond (is_reset v (option_map signal_number o) && not (made (circuit_of d) x).reset_less) (modulo (reset_of_signal d x) (2 ^ n)) q) (sym moved)
    ∙ (ap (λ (h : Option Domain). cond (is_reset v (option_map signal_number (domain_reset h)) && not (made (circuit_of d) x).reset_less) (modulo (reset_of_signal d x) (2 ^ n)) (modulo (result (shapes d) x (v (At x)) (taken_block (shapes d) v (block d all))) (2 ^ n))) there
    ∙ sym (choice_pattern (is_reset v (option_map signal_number y.reset) && not (made (circuit_of d) x).reset_less) (2 ^ n) (reset_of_signal d x) (result (shapes d) x (v (At x)) (taken_block (shapes d) v (block d all)))))))

step_pattern : (b c : Bool) (p q : ℕ) (m : ℕ) (y z : ℤ) → b ≡ c → p ≡ modulo y m → q ≡ modulo z m → cond b p q ≡ modulo (cond c y z) m
step_pattern true c p q m y z e f g = rw (sym e) f
step_pattern false c p q m y z e f g = rw (sym e) g

sync_drive : (d : Design) (x k : ℕ) → role (circuit_of d) x ≡ circuit.Sync k → drive d x ≡ Sync k (own d x (stmts_of k d.sync))
unfolding drive
sync_drive d x k e = ap (drive_by d x) e

-- a registered signal is one of the design's
registered : (d : Design) (names : List Name) (x k : ℕ) → CanBeEmitted d names → role (circuit_of d) x ≡ circuit.Sync k → x < length d.signals
registered d names x k can e =
    let f = sync_drive d x k e in
    let list = sync_own d x k (own d x (stmts_of k d.sync)) can.keeps can.lowered f in
    list_made d x can.keeps (own d x (stmts_of k d.sync)) list.plain (sync_some d x k (own d x (stmts_of k d.sync)) f)

registered_next : (d : Design) (names : List Name) (state v : Values) (v_state w : Valuation) (rises : ℕ → Bool) (v_rises : Name → Bool) (x k : ℕ) → CanBeEmitted d names → Moment d names v w
    → role (circuit_of d) x ≡ circuit.Sync k → v_state.nets (net names x) ≡ modulo (state (At x)) (2 ^ (shapes d x).bits) → v (At x) ≡ state (At x) → v_rises (clock d k) ≡ rises k
    → (v_next (emitted d names) v_state w v_rises).nets (net names x) ≡ pattern (circuit_of d) x (next_state (circuit_of d) state v rises (At x))
registered_next d names state v v_state w rises v_rises x k can now e same held rise =
    let m = emitted d names in
    let n = (shapes d x).bits in
    let lt = registered d names x k can e in
    let f = sync_drive d x k e in
    let ids = own d x (stmts_of k d.sync) in
    let within = drive_within d x k ids f in
    let (y, there) = node_there d.domains k within in
    let body = sync_body d names x k ids in
    let is : driver m (net names x) ≡ runs.Clocked (clock d k) body = ap first_driver ((drivers_are d names can).signals x lt) ∙ ap (driver_by d names x) f in
    let old : v_state.nets (net names x) ≡ modulo (v (At x)) (2 ^ n) = same ∙ ap (λ z. modulo z (2 ^ n)) (sym held) in
    let ran = ap (λ p. run_block (sizes m) w body p) old ∙ risen_pattern d names v w x k y can now lt there in
    let domain = domain_is d k y there in
    ap (next_net m v_state w v_rises (net names x)) is
    ∙ (step_pattern (v_rises (clock d k)) (rises k) (run_block (sizes m) w body (v_state.nets (net names x))) (v_state.nets (net names x)) (2 ^ n) (risen (circuit_of d) v (domain_of d k y) x) (state (At x)) rise ran same
    ∙ (ap (λ h. modulo (cond (rises k) (risen (circuit_of d) v h x) (state (At x))) (2 ^ n)) (sym domain)
    ∙ ap (λ r. modulo (circuit.next (circuit_of d) state v rises x r) (2 ^ n)) (sym e)))

within_circuit : (d : Design) (k : ℕ) → k < length d.domains → k < length (circuit_of d).domains
unfolding circuit_of
within_circuit d k lt = omega (arith, domains-length d 0 d.domains)

sync_held : (d : Design) (state inputs v : Values) (x k : ℕ) → IsSettled (circuit_of d) state inputs v → role (circuit_of d) x ≡ circuit.Sync k → v (At x) ≡ state (At x)
sync_held d state inputs v x k settled e = settled.each (At x) ∙ ap (by_role (circuit_of d) state inputs v x) e

-- settled patterns are those of the values, for nodes too
settled_patterns : (d : Design) (names : List Name) (state inputs v : Values) (v_state w : Valuation) (v_inputs : Name → ℕ) → CanBeEmitted d names → StateFits (circuit_of d) state → InputsFit (circuit_of d) inputs
    → SameState (circuit_of d) (naming d names) state v_state → SameInputs (circuit_of d) (naming d names) inputs v_inputs → IsSettled (circuit_of d) state inputs v → IsVSettled (emitted d names) v_state v_inputs w → HasPatterns d names v w
settled_patterns d names state inputs v v_state w v_inputs can fits inputs_fit same_s same_i settled v_settled =
    let one = v_views.settling (emitted d names) (cycle_meaning d names can) v_state v_inputs in
    let has = has_patterns d names can.keeps can.named state inputs v v_inputs v_state same_s settled in
    let same : (n : Name) → w.nets n ≡ (patterns_of d names v v_inputs v_state).nets n = λ n. (one.only w v_settled).nets n ∙ sym ((one.only (patterns_of d names v v_inputs v_state) (settled_for d names state inputs v v_state v_inputs can fits inputs_fit same_s same_i settled)).nets n) in
    record {
      signals = λ x lt. same (net names x) ∙ has.signals x lt;
      nodes = λ k is. same (node_net d.exprs k) ∙ has.nodes k is;
      memories = λ k lt. words_have d names state inputs v v_state w k same_s settled (v_settled.words (memory_name d names k));
    }

-- ---- words

-- the words of a memory after a step, by the domain of its writers
word_by : (d : Design) (names : List Name) (v : Values) (v_state w : Valuation) (rises : ℕ → Bool) (v_rises : Name → Bool) (k a : ℕ) → CanBeEmitted d names → Moment d names v w → a < (memory_at d k).depth
    → v_state.words (memory_name d names k) a ≡ modulo (v (Word k a)) (2 ^ (memory_at d k).width) → ((x : ℕ) → x < length d.domains → v_rises (clock d x) ≡ rises x)
    → (o : Option ℕ) → writing_domain k (circuit_of d).ports ≡ o
    → next_words (emitted d names) v_state w v_rises (memory_name d names k) (first_driver (clocked_drivers d (memory_body d names k) o)) a
    ≡ written v rises k (memory_at d k).width a (circuit_of d).ports (modulo (v (Word k a)) (2 ^ (memory_at d k).width))
word_by d names v v_state w rises v_rises k a can now lt same rise None e =
    let n = (memory_at d k).width in
    let idle = rise_together rises k None false (circuit_of d).ports (subst (λ (o : Option ℕ). EachOf (IsIn k o) (circuit_of d).ports) e (one_domain d can.memories k)) refl in
    same ∙ sym (written_idle v rises k n a (circuit_of d).ports (modulo (v (Word k a)) (2 ^ n)) idle)
word_by d names v v_state w rises v_rises k a can now lt same rise (Some x) e =
    let m = emitted d names in
    let n = (memory_at d k).width in
    let p = modulo (v (Word k a)) (2 ^ n) in
    let old = v_state.words (memory_name d names k) in
    let ran = run_block_words (sizes m) w (memory_body d names k) old in
    let in_domain = subst (λ (o : Option ℕ). EachOf (IsIn k o) (circuit_of d).ports) e (one_domain d can.memories k) in
    let below : old a < 2 ^ n = subst (λ (q : ℕ). q < 2 ^ n) (sym same) (modulo-below (v (Word k a)) (2 ^ n) (pow_pos n)) in
    ap (λ b. cond b ran old a) (rise x (writing_within d can.keeps k x e))
    ∙ by_test (rises x)
    (λ t.
    rw t (body_runs d names (sizes m) v w can.keeps (declares d names can.keeps can.named can.ports) now.has now.fits rises k (rise_together rises k (Some x) true (circuit_of d).ports in_domain t) old a lt below
    ∙ ap (λ (q : ℕ). written v rises k n a (circuit_of d).ports q) same))
    (λ t. rw t (same ∙ sym (written_idle v rises k n a (circuit_of d).ports p (rise_together rises k (Some x) false (circuit_of d).ports in_domain t))))

word_next : (d : Design) (names : List Name) (state inputs v : Values) (v_state w : Valuation) (rises : ℕ → Bool) (v_rises : Name → Bool) (k a : ℕ) → CanBeEmitted d names → Moment d names v w
    → SameState (circuit_of d) (naming d names) state v_state → IsSettled (circuit_of d) state inputs v → ((x : ℕ) → x < length d.domains → v_rises (clock d x) ≡ rises x) → a < (memory_at d k).depth
    → (v_next (emitted d names) v_state w v_rises).words (memory_name d names k) a ≡ modulo (next_state (circuit_of d) state v rises (Word k a)) (2 ^ (memory_at d k).width)
word_next d names state inputs v v_state w rises v_rises k a can now same_s settled rise lt =
    let m = emitted d names in
    let n = (memory_at d k).width in
    let p = modulo (v (Word k a)) (2 ^ n) in
    let within = memory_there d k a lt in
    let is : driver m (memory_name d names k) ≡ first_driver (memory_drivers d names k) = ap first_driver ((drivers_are d names can).memories k within) in
    let same = (words_have d names state inputs v v_state v_state k same_s settled (λ b. refl)).each a lt in
    let small = written_below v rises k n a (circuit_of d).ports p (modulo-below (v (Word k a)) (2 ^ n) (pow_pos n)) in
    ap (λ g. next_words m v_state w v_rises (memory_name d names k) g a) is
    ∙ (word_by d names v v_state w rises v_rises k a can now lt same rise (writing_domain k (circuit_of d).ports) refl
    ∙ sym (modulo-small (written v rises k n a (circuit_of d).ports p) (2 ^ n) small))

steps : (d : Design) (names : List Name) → CanBeEmitted d names → Steps (circuit_of d) (emitted d names) (naming d names)
steps d names can state inputs v v_state w v_inputs rises v_rises fits inputs_fit same_s same_i settled v_settled same_v rise =
    let all : SignalsFit d v = record { each = (settled_fits (circuit_of d) (design.keeps_shapes d can.keeps) state inputs v fits inputs_fit settled).signals } in
    let now = moment d names v w can all (settled_patterns d names state inputs v v_state w v_inputs can fits inputs_fit same_s same_i settled v_settled) in
    record {
      signals = λ x k e.
          let within = drive_within d x k (own d x (stmts_of k d.sync)) (sync_drive d x k e) in
          registered_next d names state v v_state w rises v_rises x k can now e (same_s.signals x k e) (sync_held d state inputs v x k settled e) (rise k (within_circuit d k within));
      words = λ k a lt. word_next d names state inputs v v_state w rises v_rises k a can now same_s settled (λ x within. rise x (within_circuit d x within)) lt;
    }

-- ---- the first state

literal_first : (d : Design) (names : List Name) (x : ℕ) (g : Drive) → CanBeEmitted d names → x < length d.signals → (k : ℕ) (body : List StmtId) → g ≡ Sync k body
    → first_net (Some (record { signed = (shape_of_signal d x).signed; bits = (shape_of_signal d x).bits; name = net names x; init = init_of (shape_of_signal d x) (reset_of_signal d x) g })) ≡ modulo (reset_of_signal d x) (2 ^ (shapes d x).bits)
literal_first d names x g can lt k body e =
    let n = (shapes d x).bits in
    let t = (shapes d x).signed in
    let some = (signal_bits d can.keeps x lt).0 in
    let u = runs.zeros in
    let none : Sizes = λ name. runs.memory_declared None in
    ap (λ h. first_net (Some (record { signed = (shape_of_signal d x).signed; bits = (shape_of_signal d x).bits; name = net names x; init = init_of (shape_of_signal d x) (reset_of_signal d x) h }))) e
    ∙ (cut_exact u n t (wrapped (shape n t) (reset_of_signal d x)) (meaning none (reset_text d x)) (literal_exact u (reset_of_signal d x) n t some) n
    ∙ modulo-wrap_bits n t (reset_of_signal d x))

own_first : (d : Design) (names : List Name) (k a : ℕ) → CanBeEmitted d names → k < length d.memories → a < (memory_at d k).depth
    → runs.first_word (memory_name d names k) (memory_at d k).width a (emitted d names).inits ≡ first_word (memory_at d k) a
unfolding emitted
own_first d names k a can within lt = word_starts (λ i. memory_name d names i) (λ i. memory_at d i) d.memories k a (memory_blocks d names can) within (sized d can.keeps k within).width_some lt

word_first : (d : Design) (names : List Name) (k a : ℕ) → CanBeEmitted d names → a < (memory_at d k).depth
    → (v_first (emitted d names)).words (memory_name d names k) a ≡ modulo (first_state (circuit_of d) (Word k a)) (2 ^ (memory_at d k).width)
word_first d names k a can lt =
    let x = memory_at d k in
    let within = memory_there d k a lt in
    let bits = ap (λ s. s.bits) ((declares d names can.keeps can.named can.ports).memories k within) in
    ap (λ (b : ℕ). runs.first_word (memory_name d names k) b a (emitted d names).inits) bits
    ∙ (own_first d names k a can within lt
    ∙ sym (modulo-small (first_word x a) (2 ^ x.width) (mod_below (slice_index_or x.init a 0) (2 ^ x.width) (pow_pos x.width))))

starts : (d : Design) (names : List Name) → CanBeEmitted d names → SameState (circuit_of d) (naming d names) (first_state (circuit_of d)) (v_first (emitted d names))
unfolding signal_net
starts d names can = record {
  signals = λ x k e.
      let lt = registered d names x k can e in
      ap first_net (net_of_signal d names can.keeps can.named can.ports x lt) ∙ literal_first d names x (drive d x) can lt k (own d x (stmts_of k d.sync)) (sync_drive d x k e);
  words = λ k a lt. word_first d names k a can lt;
}

-- ---- declarations

memory_within : (d : Design) (k : ℕ) → k < length (circuit_of d).memories → k < length d.memories
unfolding circuit_of
memory_within d k lt = omega (arith, length-map d.memories memory_of)

declared : (d : Design) (names : List Name) → CanBeEmitted d names → Declares (circuit_of d) (emitted d names) (naming d names)
unfolding signal_net
declared d names can = record {
  nets = λ x lt. ap (option_map net_shape) (net_of_signal d names can.keeps can.named can.ports x (made_within d x lt));
  memories = λ k lt. ap (option_map declared_size) (memory_of_name d names can.named k (memory_within d k lt));
}

pub follows : (d : Design) (names : List Name) → CanBeEmitted d names → Follows (circuit_of d) (emitted d names) (naming d names)
follows d names can = record { declares = declared d names can; settles = settles d names can; steps = steps d names can; starts = starts d names can }
