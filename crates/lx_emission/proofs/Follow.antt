-- The module follows the circuit: what is settled for the one is settled for the other, and so is the state after a step.
use Rattle.std.proofs.lemmas.Bool.{cond-true, cond-false, lt-ltb, le-ltb}
use Rattle.std.proofs.Common.{◌≡◌, ℕ, ℤ, pos, nat_lt, ◌%◌, ◌^◌, ◌<◌, true, List, length, Option, Some, None, refl, sym, ap, subst, ◌∙◌, arith}
use Rattle.std.proofs.Math.Nat.{mod-eq_of_lt}
use Rattle.std.proofs.lemmas.List.{length-map}
use Rattle.std.proofs.lemmas.Nat.{pow_pos, mod_below}
use Rattle.lx_num.specs.Ints.{modulo, wrapped, shape}
use Rattle.lx_num.proofs.Ints.{modulo-below}
use Rattle.lx_num.proofs.Ranges.{modulo-read_bits, modulo-wrap_bits}
use Rattle.lx_circuit.specs.Places.{Values, At, Word}
use Rattle.lx_circuit.specs.Values.{value_of}
use Rattle.lx_circuit.specs.Statements.{Piece, after_pieces, taken_block, result}
use Rattle.lx_circuit.specs.Circuit as circuit
use Rattle.lx_circuit.specs.Circuit.{Role, role, by_role, IsSettled}
use Rattle.lx_circuit.specs.Fitting.{InputsFit, StateFits}
use Rattle.lx_circuit.proofs.Fitting.{settled_fits}
use Rattle.lx_vtext.specs.Tree.{Name, VBlock, EndBlock}
use Rattle.lx_vmeaning.specs.Meaning.{Valuation, meaning, assigned}
use Rattle.lx_vmeaning.specs.Runs.{Outside, ByAssign, Nothing, driver, first_driver, by_driver, sizes, run_block, IsVSettled}
use Rattle.lx_agree.specs.Agreement.{SameInputs}
use Rattle.lx_agree.specs.Following.{SameState, Settles}
use Rattle.lx_fhdl.specs.Below.{ExprId, StmtId, all_stmts_below}
use Rattle.lx_fhdl.specs.Lowered.{ArePlain}
use Rattle.lx_emission.specs.Texts.{block_onto, stmt_text}
use Rattle.lx_fhdl.specs.Designs.{term, shapes, made_of, memory_at, circuit_of, block, stmts_of}
use Rattle.lx_fhdl.specs.Keeping.{Keeps}
use Rattle.lx_fhdl.specs.declared.design.Design.{Design}
use Rattle.lx_fhdl.proofs.Designs as design
use Rattle.lx_emission.specs.Naming.{net, node_net, clock, memory_name, naming, NamesFit}
use Rattle.lx_emission.specs.Memories.{memory_body, writing_domain}
use Rattle.lx_tie.specs.Words.{HasWords}
use Rattle.lx_emission.specs.Nodes.{node_shape, operand, node_text}
use Rattle.lx_emission.specs.Signals.{Drive, Input, Undriven, CombAssign, CombBlock, Sync, drive, drive_by, comb_drive, own, single, reset_of_signal, reset_text}
use Rattle.lx_emission.specs.Emission.{emitted}
use Rattle.lx_emission.specs.Emits.{CanBeEmitted}
use Rattle.lx_emission.proofs.Setting.{IsNetNode, HasPatterns, SignalsFit, OperandsStand, driver_by, clocked_drivers}
use Rattle.lx_emission.proofs.Names.{net_once, node_net_once, net_not_clock, net_not_node, net_not_memory, memory_once, memory_not_clock, memory_not_node, clock_not_node}
use Rattle.lx_emission.proofs.Structure.{IsNoSignal, IsNoNode, IsNoClock, IsNoMemory}
use Rattle.lx_emission.proofs.Classes.{Class, OfSignal, OfNode, OfClock, OfMemory, OfNothing, name_classes}
use Rattle.lx_emission.proofs.Parts.{declares}
use Rattle.lx_emission.proofs.Roles.{no_reads}
use Rattle.lx_emission.proofs.Operands.{literal_exact, cut_exact, operands_stand}
use Rattle.lx_emission.proofs.Drives.{node_text_drives}
use Rattle.lx_emission.proofs.Pieces.{own_takes, own_for, own_below, pieces_below, single_value}
use Rattle.lx_emission.proofs.Runs.{block_runs}
use Rattle.lx_emission.proofs.Fitting.{signal_bits}
use Rattle.lx_emission.proofs.Whole.{terms_small, drivers_are}

-- ---- patterns by name

-- what stands under a memory's name among the nets: the state, where some block writes it
held : Option ℕ → ℕ → ℕ
held None p = 0
held (Some x) p = p

value_by : (d : Design) (names : List Name) (v : Values) (inputs : Name → ℕ) (state : Valuation) (n : Name) → Class d names n → ℕ
value_by d names v inputs state n (OfSignal x lt e) = modulo (v (At x)) (2 ^ (shapes d x).bits)
value_by d names v inputs state n (OfNode k is e) = modulo (value_of (shapes d) v (term d k)) (2 ^ (node_shape d k).bits)
value_by d names v inputs state n (OfClock k lt e) = inputs n
value_by d names v inputs state n (OfMemory k lt e) = held (writing_domain k (circuit_of d).ports) (state.nets n)
value_by d names v inputs state n (OfNothing s k c m) = 0

-- the patterns of values, and the words of the state
pub patterns_of : Design → List Name → Values → (Name → ℕ) → Valuation → Valuation
patterns_of d names v inputs state = record { nets = λ n. value_by d names v inputs state n (name_classes d names n); words = state.words }

net_pattern : (d : Design) (names : List Name) → NamesFit d names → (v : Values) (inputs : Name → ℕ) (state : Valuation) (x : ℕ) → x < length d.signals → (patterns_of d names v inputs state).nets (net names x) ≡ modulo (v (At x)) (2 ^ (shapes d x).bits)
unfolding patterns_of value_by
net_pattern d names fit v inputs state x lt = by_class (name_classes d names (net names x))
  where
    by_class : (c : Class d names (net names x)) → value_by d names v inputs state (net names x) c ≡ modulo (v (At x)) (2 ^ (shapes d x).bits)
    by_class (OfSignal y p e) = ap (λ z. modulo (v (At z)) (2 ^ (shapes d z).bits)) (sym (net_once d names fit x y lt p e))
    by_class (OfNode k is e) = absurd (net_not_node d names fit x _ lt e)
    by_class (OfClock k p e) = absurd (net_not_clock d names fit x k lt p e)
    by_class (OfMemory k p e) = absurd (net_not_memory d names fit x k lt p e)
    by_class (OfNothing s k c m) = absurd (s.each x lt refl)

node_pattern : (d : Design) (names : List Name) → Keeps d → NamesFit d names → (v : Values) (inputs : Name → ℕ) (state : Valuation) (k : ℕ) → IsNetNode d k → (patterns_of d names v inputs state).nets (node_net d.exprs k) ≡ modulo (value_of (shapes d) v (term d k)) (2 ^ (node_shape d k).bits)
unfolding patterns_of value_by
node_pattern d names keeps fit v inputs state k is = by_class (name_classes d names (node_net d.exprs k))
  where
    by_class : (c : Class d names (node_net d.exprs k)) → value_by d names v inputs state (node_net d.exprs k) c ≡ modulo (value_of (shapes d) v (term d k)) (2 ^ (node_shape d k).bits)
    by_class (OfSignal y p e) = absurd (net_not_node d names fit y _ p (sym e))
    by_class (OfNode j at e) = ap (λ i. modulo (value_of (shapes d) v (term d i)) (2 ^ (node_shape d i).bits)) (sym (node_net_once d k j is at e))
    by_class (OfClock j p e) = absurd (clock_not_node d keeps j _ p (sym e))
    by_class (OfMemory j p e) = absurd (memory_not_node d names fit j _ p (sym e))
    by_class (OfNothing s j c m) = absurd (j.each k is refl)

clock_pattern : (d : Design) (names : List Name) → Keeps d → NamesFit d names → (v : Values) (inputs : Name → ℕ) (state : Valuation) (k : ℕ) → k < length d.domains → (patterns_of d names v inputs state).nets (clock d k) ≡ inputs (clock d k)
unfolding patterns_of value_by
clock_pattern d names keeps fit v inputs state k lt = by_class (name_classes d names (clock d k))
  where
    by_class : (c : Class d names (clock d k)) → value_by d names v inputs state (clock d k) c ≡ inputs (clock d k)
    by_class (OfSignal y p e) = absurd (net_not_clock d names fit y k p lt (sym e))
    by_class (OfNode j at e) = absurd (clock_not_node d keeps k _ lt e)
    by_class (OfClock j p e) = refl
    by_class (OfMemory j p e) = absurd (memory_not_clock d names fit j k p lt (sym e))
    by_class (OfNothing s j c m) = absurd (c.each k lt refl)

memory_pattern : (d : Design) (names : List Name) → Keeps d → NamesFit d names → (v : Values) (inputs : Name → ℕ) (state : Valuation) (k : ℕ) → k < length d.memories
    → (patterns_of d names v inputs state).nets (memory_name d names k) ≡ held (writing_domain k (circuit_of d).ports) (state.nets (memory_name d names k))
unfolding patterns_of value_by
memory_pattern d names keeps fit v inputs state k lt = by_class (name_classes d names (memory_name d names k))
  where
    by_class : (c : Class d names (memory_name d names k)) → value_by d names v inputs state (memory_name d names k) c ≡ held (writing_domain k (circuit_of d).ports) (state.nets (memory_name d names k))
    by_class (OfSignal y p e) = absurd (net_not_memory d names fit y k p lt (sym e))
    by_class (OfNode j at e) = absurd (memory_not_node d names fit k _ lt e)
    by_class (OfClock j p e) = absurd (memory_not_clock d names fit k j lt p e)
    by_class (OfMemory j p e) = ap (λ (i : ℕ). held (writing_domain i (circuit_of d).ports) (state.nets (memory_name d names k))) (sym (memory_once d names fit k j lt p e))
    by_class (OfNothing s j c m) = absurd (m.each k lt refl)

-- words that are those of the state have the patterns of settled values
pub words_have : (d : Design) (names : List Name) (state inputs v : Values) (v_state w : Valuation) (k : ℕ) → SameState (circuit_of d) (naming d names) state v_state → IsSettled (circuit_of d) state inputs v
    → ((a : ℕ) → w.words (memory_name d names k) a ≡ v_state.words (memory_name d names k) a) → HasWords w (memory_name d names k) (memory_at d k).width (memory_at d k).depth (λ a. v (Word k a))
words_have d names state inputs v v_state w k same settled words = record {
  each = λ a lt.
      let here = settled.each (Word k a) ∙ cond-true (nat_lt a (memory_at d k).depth) (state (Word k a)) (pos 0) (lt-ltb a (memory_at d k).depth lt) in
      words a ∙ (same.words k a lt ∙ ap (λ z. modulo z (2 ^ (memory_at d k).width)) (sym here));
  past = λ a le. settled.each (Word k a) ∙ cond-false (nat_lt a (memory_at d k).depth) (state (Word k a)) (pos 0) (le-ltb a (memory_at d k).depth le);
}

same_words : (d : Design) (names : List Name) (v : Values) (v_inputs : Name → ℕ) (v_state : Valuation) (n : Name) (k : ℕ) → (patterns_of d names v v_inputs v_state).words n k ≡ v_state.words n k
unfolding patterns_of
same_words d names v v_inputs v_state n k = refl

pub has_patterns : (d : Design) (names : List Name) → Keeps d → NamesFit d names → (state inputs v : Values) (v_inputs : Name → ℕ) (v_state : Valuation) → SameState (circuit_of d) (naming d names) state v_state → IsSettled (circuit_of d) state inputs v
    → HasPatterns d names v (patterns_of d names v v_inputs v_state)
has_patterns d names keeps fit state inputs v v_inputs v_state same settled = record {
  signals = net_pattern d names fit v v_inputs v_state;
  nodes = node_pattern d names keeps fit v v_inputs v_state;
  memories = λ k lt. words_have d names state inputs v v_state (patterns_of d names v v_inputs v_state) k same settled (same_words d names v v_inputs v_state (memory_name d names k));
}

-- ---- the premises of one moment

-- settled values that fit, and patterns that are theirs
pub record Moment (d : Design) (names : List Name) (v : Values) (w : Valuation) : Type 0 where
  pub has : HasPatterns d names v w
  pub fits : SignalsFit d v
  pub stand : OperandsStand d names (sizes (emitted d names)) v w

pub moment : (d : Design) (names : List Name) (v : Values) (w : Valuation) → CanBeEmitted d names → SignalsFit d v → HasPatterns d names v w → Moment d names v w
unfolding node_shape
moment d names v w can fits has = record {
  has = has;
  fits = fits;
  stand = operands_stand d names (sizes (emitted d names)) v w can.keeps can.lowered (declares d names can.keeps can.named can.ports) has fits (terms_small d can.keeps) (record { each = λ k lt. design.term_fits d can.keeps v fits.each k lt });
}

-- how many bits the module gives the net of a signal
pub net_bits : (d : Design) (names : List Name) (x : ℕ) → CanBeEmitted d names → x < length d.signals → (sizes (emitted d names) (net names x)).bits ≡ (shapes d x).bits
net_bits d names x can lt = ap (λ z. z.bits) ((declares d names can.keeps can.named can.ports).signals x lt)

-- the literal of a reset value
pub reset_assigned : (d : Design) (names : List Name) (x : ℕ) (w : Valuation) → CanBeEmitted d names → x < length d.signals → assigned (sizes (emitted d names)) w (sizes (emitted d names) (net names x)).bits (reset_text d x) ≡ modulo (reset_of_signal d x) (2 ^ (shapes d x).bits)
reset_assigned d names x w can lt =
    let n = (shapes d x).bits in
    let some = (signal_bits d can.keeps x lt).0 in
    ap (λ k. assigned (sizes (emitted d names)) w k (reset_text d x)) (net_bits d names x can lt)
    ∙ (cut_exact w n (shapes d x).signed (wrapped (shape n (shapes d x).signed) (reset_of_signal d x)) (meaning (sizes (emitted d names)) (reset_text d x)) (literal_exact w (reset_of_signal d x) n (shapes d x).signed some) n
    ∙ modulo-wrap_bits n (shapes d x).signed (reset_of_signal d x))

-- ---- the value of a combinatorial signal

-- the pattern of a result
result_pattern : (d : Design) (x : ℕ) (start : ℤ) (ps : List Piece) → after_pieces x (modulo start (2 ^ (shapes d x).bits)) ps < 2 ^ (shapes d x).bits → modulo (result (shapes d) x start ps) (2 ^ (shapes d x).bits) ≡ after_pieces x (modulo start (2 ^ (shapes d x).bits)) ps
result_pattern d x start ps below =
    let n = (shapes d x).bits in
    let p = after_pieces x (modulo start (2 ^ n)) ps in
    modulo-read_bits n (shapes d x).signed (p % 2 ^ n) (mod_below p (2 ^ n) (pow_pos n)) ∙ mod-eq_of_lt below

-- the pattern that a list's own statements give
pub own_pattern : (d : Design) (v : Values) (x : ℕ) (ids : List StmtId) (start : ℤ) → Keeps d → all_stmts_below (length d.stmts) ids ≡ true → ArePlain (block d ids)
    → modulo (result (shapes d) x start (taken_block (shapes d) v (block d ids))) (2 ^ (shapes d x).bits) ≡ after_pieces x (modulo start (2 ^ (shapes d x).bits)) (taken_block (shapes d) v (block d (own d x ids)))
own_pattern d v x ids start keeps below plain =
    let n = (shapes d x).bits in
    let start_below : modulo start (2 ^ n) < 2 ^ n = modulo-below start (2 ^ n) (pow_pos n) in
    let same = own_takes d v x ids plain (modulo start (2 ^ n)) in
    let less = pieces_below d v x keeps (own d x ids) (own_below d x (length d.stmts) ids below) (own_for d x ids plain) (modulo start (2 ^ n)) start_below in
    result_pattern d x start (taken_block (shapes d) v (block d ids)) (subst (λ k. k < 2 ^ n) same less) ∙ sym same

comb_pattern : (d : Design) (names : List Name) (state inputs v : Values) (x : ℕ) → CanBeEmitted d names → IsSettled (circuit_of d) state inputs v → role (circuit_of d) x ≡ circuit.Comb
    → modulo (v (At x)) (2 ^ (shapes d x).bits) ≡ after_pieces x (modulo (reset_of_signal d x) (2 ^ (shapes d x).bits)) (taken_block (shapes d) v (block d (own d x d.comb)))
unfolding circuit_of
comb_pattern d names state inputs v x can settled e =
    ap (λ z. modulo z (2 ^ (shapes d x).bits)) (settled.each (At x) ∙ ap (by_role (circuit_of d) state inputs v x) e)
    ∙ own_pattern d v x d.comb (reset_of_signal d x) can.keeps can.keeps.comb.there can.lowered.comb

-- the circuit has the design's signals
pub made_within : (d : Design) (x : ℕ) → x < length (circuit_of d).signals → x < length d.signals
unfolding circuit_of
made_within d x lt = omega (arith, length-map d.signals made_of)

-- ---- settled

abbrev Holds : Design → List Name → Valuation → (Name → ℕ) → Valuation → ℕ → Drive → Type 0
Holds d names state inputs w x g = w.nets (net names x) ≡ by_driver (emitted d names) state inputs w (net names x) (driver_by d names x g)

undriven_holds : (d : Design) (names : List Name) (state inputs v : Values) (v_state : Valuation) (v_inputs : Name → ℕ) (w : Valuation) (x : ℕ) → CanBeEmitted d names → x < length d.signals → Moment d names v w → IsSettled (circuit_of d) state inputs v
    → role (circuit_of d) x ≡ circuit.Undriven → Holds d names v_state v_inputs w x Undriven
undriven_holds d names state inputs v v_state v_inputs w x can lt now settled e =
    now.has.signals x lt
    ∙ (ap (λ z. modulo z (2 ^ (shapes d x).bits)) (settled.each (At x) ∙ ap (by_role (circuit_of d) state inputs v x) e)
    ∙ sym (reset_assigned d names x w can lt))

comb_assign_holds : (d : Design) (names : List Name) (state inputs v : Values) (v_state : Valuation) (v_inputs : Name → ℕ) (w : Valuation) (x : ℕ) → CanBeEmitted d names → x < length d.signals → Moment d names v w → IsSettled (circuit_of d) state inputs v
    → role (circuit_of d) x ≡ circuit.Comb → (value : ExprId) → single d (own d x d.comb) ≡ Some value → Holds d names v_state v_inputs w x (CombAssign value)
comb_assign_holds d names state inputs v v_state v_inputs w x can lt now settled e value is =
    let n = (shapes d x).bits in
    let keeps = can.keeps in
    let one = single_value d names v x keeps lt (own d x d.comb) (own_below d x (length d.stmts) d.comb keeps.comb.there) (own_for d x d.comb can.lowered.comb) value is in
    now.has.signals x lt
    ∙ (comb_pattern d names state inputs v x can settled e
    ∙ (one.1 (modulo (reset_of_signal d x) (2 ^ n)) (modulo-below (reset_of_signal d x) (2 ^ n) (pow_pos n))
    ∙ sym (ap (λ k. assigned (sizes (emitted d names)) w k (operand d names value.place)) (net_bits d names x can lt) ∙ now.stand.assigned value.place one.0 n)))

comb_block_holds : (d : Design) (names : List Name) (state inputs v : Values) (v_state : Valuation) (v_inputs : Name → ℕ) (w : Valuation) (x : ℕ) → CanBeEmitted d names → x < length d.signals → Moment d names v w → IsSettled (circuit_of d) state inputs v
    → role (circuit_of d) x ≡ circuit.Comb → Holds d names v_state v_inputs w x (CombBlock (own d x d.comb))
comb_block_holds d names state inputs v v_state v_inputs w x can lt now settled e =
    let n = (shapes d x).bits in
    let keeps = can.keeps in
    let s = sizes (emitted d names) in
    let start = modulo (reset_of_signal d x) (2 ^ n) in
    let ids = own d x d.comb in
    let runs = block_runs d names s v w true x keeps (declares d names keeps can.named can.ports) now.stand lt ids (own_below d x (length d.stmts) d.comb keeps.comb.there) (own_for d x d.comb can.lowered.comb) EndBlock start (modulo-below (reset_of_signal d x) (2 ^ n) (pow_pos n)) in
    now.has.signals x lt
    ∙ (comb_pattern d names state inputs v x can settled e
    ∙ sym (ap (λ k. run_block s w (block_onto (stmt_text d names true) ids EndBlock) k) (reset_assigned d names x w can lt) ∙ runs))

input_holds : (d : Design) (names : List Name) (state inputs v : Values) (v_state : Valuation) (v_inputs : Name → ℕ) (w : Valuation) (x : ℕ) → x < length d.signals → Moment d names v w → IsSettled (circuit_of d) state inputs v
    → SameInputs (circuit_of d) (naming d names) inputs v_inputs → role (circuit_of d) x ≡ circuit.Input → Holds d names v_state v_inputs w x Input
input_holds d names state inputs v v_state v_inputs w x lt now settled same e =
    now.has.signals x lt
    ∙ (ap (λ z. modulo z (2 ^ (shapes d x).bits)) (settled.each (At x) ∙ ap (by_role (circuit_of d) state inputs v x) e)
    ∙ sym (same.each x e))

sync_holds : (d : Design) (names : List Name) (state inputs v : Values) (v_state : Valuation) (v_inputs : Name → ℕ) (w : Valuation) (x k : ℕ) (ids : List StmtId) → x < length d.signals → Moment d names v w → IsSettled (circuit_of d) state inputs v
    → SameState (circuit_of d) (naming d names) state v_state → role (circuit_of d) x ≡ circuit.Sync k → Holds d names v_state v_inputs w x (Sync k ids)
sync_holds d names state inputs v v_state v_inputs w x k ids lt now settled same e =
    now.has.signals x lt
    ∙ (ap (λ z. modulo z (2 ^ (shapes d x).bits)) (settled.each (At x) ∙ ap (by_role (circuit_of d) state inputs v x) e)
    ∙ sym (same.signals x k e))

comb_holds : (d : Design) (names : List Name) (state inputs v : Values) (v_state : Valuation) (v_inputs : Name → ℕ) (w : Valuation) (x : ℕ) → CanBeEmitted d names → x < length d.signals → Moment d names v w → IsSettled (circuit_of d) state inputs v
    → role (circuit_of d) x ≡ circuit.Comb → (o : Option ExprId) → single d (own d x d.comb) ≡ o → Holds d names v_state v_inputs w x (comb_drive (own d x d.comb) o)
comb_holds d names state inputs v v_state v_inputs w x can lt now settled e None is = comb_block_holds d names state inputs v v_state v_inputs w x can lt now settled e
comb_holds d names state inputs v v_state v_inputs w x can lt now settled e (Some value) is = comb_assign_holds d names state inputs v v_state v_inputs w x can lt now settled e value is

role_holds : (d : Design) (names : List Name) (state inputs v : Values) (v_state : Valuation) (v_inputs : Name → ℕ) (w : Valuation) (x : ℕ) → CanBeEmitted d names → x < length d.signals → Moment d names v w → IsSettled (circuit_of d) state inputs v
    → SameState (circuit_of d) (naming d names) state v_state → SameInputs (circuit_of d) (naming d names) inputs v_inputs → (r : Role) → role (circuit_of d) x ≡ r → Holds d names v_state v_inputs w x (drive_by d x r)
role_holds d names state inputs v v_state v_inputs w x can lt now settled same_s same_i circuit.Input e = input_holds d names state inputs v v_state v_inputs w x lt now settled same_i e
role_holds d names state inputs v v_state v_inputs w x can lt now settled same_s same_i circuit.Comb e = comb_holds d names state inputs v v_state v_inputs w x can lt now settled e (single d (own d x d.comb)) refl
role_holds d names state inputs v v_state v_inputs w x can lt now settled same_s same_i (circuit.Sync k) e = sync_holds d names state inputs v v_state v_inputs w x k (own d x (stmts_of k d.sync)) lt now settled same_s e
role_holds d names state inputs v v_state v_inputs w x can lt now settled same_s same_i (circuit.Read j) e = absurd (no_reads (circuit_of d) can.memories.show_nothing x j e)
role_holds d names state inputs v v_state v_inputs w x can lt now settled same_s same_i circuit.Undriven e = undriven_holds d names state inputs v v_state v_inputs w x can lt now settled e

signal_holds : (d : Design) (names : List Name) (state inputs v : Values) (v_state : Valuation) (v_inputs : Name → ℕ) (w : Valuation) (x : ℕ) → CanBeEmitted d names → x < length d.signals → Moment d names v w → IsSettled (circuit_of d) state inputs v
    → SameState (circuit_of d) (naming d names) state v_state → SameInputs (circuit_of d) (naming d names) inputs v_inputs → Holds d names v_state v_inputs w x (drive d x)
unfolding drive
signal_holds d names state inputs v v_state v_inputs w x can lt now settled same_s same_i =
    role_holds d names state inputs v v_state v_inputs w x can lt now settled same_s same_i (role (circuit_of d) x) refl

-- what drives a node's net gives it the node's pattern
node_holds : (d : Design) (names : List Name) (v : Values) (state : Valuation) (inputs : Name → ℕ) (w : Valuation) (k : ℕ) → CanBeEmitted d names → Moment d names v w → IsNetNode d k
    → w.nets (node_net d.exprs k) ≡ by_driver (emitted d names) state inputs w (node_net d.exprs k) (ByAssign (node_text d names k))
unfolding node_shape
node_holds d names v state inputs w k can now is =
    let keeps = can.keeps in
    let declared = declares d names keeps can.named can.ports in
    now.has.nodes k is
    ∙ sym (ap (λ z. assigned (sizes (emitted d names)) w z.bits (node_text d names k)) (declared.nodes k is)
    ∙ node_text_drives d names (sizes (emitted d names)) v w keeps can.lowered declared now.has now.fits (terms_small d keeps) (record { each = λ j lt. design.term_fits d keeps v now.fits.each j lt }) k is)

nothing_pattern : (d : Design) (names : List Name) (v : Values) (inputs : Name → ℕ) (state : Valuation) (n : Name) (s : IsNoSignal d names n) (k : IsNoNode d n) (c : IsNoClock d n) (m : IsNoMemory d names n) → (e : Class d names n) → value_by d names v inputs state n e ≡ 0
unfolding value_by
nothing_pattern d names v inputs state n s k c m (OfSignal x lt e) = absurd (s.each x lt (sym e))
nothing_pattern d names v inputs state n s k c m (OfNode j is e) = absurd (k.each j is (sym e))
nothing_pattern d names v inputs state n s k c m (OfClock j lt e) = absurd (c.each j lt (sym e))
nothing_pattern d names v inputs state n s k c m (OfMemory j lt e) = absurd (m.each j lt (sym e))
nothing_pattern d names v inputs state n s k c m (OfNothing a b f g) = refl

nothing_net : (d : Design) (names : List Name) (v : Values) (inputs : Name → ℕ) (state : Valuation) (n : Name) → IsNoSignal d names n → IsNoNode d n → IsNoClock d n → IsNoMemory d names n → (patterns_of d names v inputs state).nets n ≡ 0
unfolding patterns_of
nothing_net d names v inputs state n s k c m = nothing_pattern d names v inputs state n s k c m (name_classes d names n)

-- what drives a memory's name
memory_holds : (d : Design) (names : List Name) (state w : Valuation) (inputs : Name → ℕ) (k : ℕ) (o : Option ℕ) (body : VBlock) → held o (state.nets (memory_name d names k)) ≡ by_driver (emitted d names) state inputs w (memory_name d names k) (first_driver (clocked_drivers d body o))
unfolding held
memory_holds d names state w inputs k None body = refl
memory_holds d names state w inputs k (Some x) body = refl

settled_at : (d : Design) (names : List Name) (state inputs v : Values) (v_state : Valuation) (v_inputs : Name → ℕ) → CanBeEmitted d names → Moment d names v (patterns_of d names v v_inputs v_state) → IsSettled (circuit_of d) state inputs v
    → SameState (circuit_of d) (naming d names) state v_state → SameInputs (circuit_of d) (naming d names) inputs v_inputs → (n : Name) → Class d names n
    → (patterns_of d names v v_inputs v_state).nets n ≡ by_driver (emitted d names) v_state v_inputs (patterns_of d names v v_inputs v_state) n (driver (emitted d names) n)
settled_at d names state inputs v v_state v_inputs can now settled same_s same_i n (OfSignal x lt e) =
    let m = emitted d names in
    let w = patterns_of d names v v_inputs v_state in
    let is : driver m (net names x) ≡ driver_by d names x (drive d x) = ap first_driver ((drivers_are d names can).signals x lt) in
    subst (λ k. w.nets k ≡ by_driver m v_state v_inputs w k (driver m k)) (sym e)
    (subst (λ g. w.nets (net names x) ≡ by_driver m v_state v_inputs w (net names x) g) (sym is) (signal_holds d names state inputs v v_state v_inputs w x can lt now settled same_s same_i))
settled_at d names state inputs v v_state v_inputs can now settled same_s same_i n (OfNode k node e) =
    let m = emitted d names in
    let w = patterns_of d names v v_inputs v_state in
    let is : driver m (node_net d.exprs k) ≡ ByAssign (node_text d names k) = ap first_driver ((drivers_are d names can).nodes k node) in
    subst (λ j. w.nets j ≡ by_driver m v_state v_inputs w j (driver m j)) (sym e)
    (subst (λ g. w.nets (node_net d.exprs k) ≡ by_driver m v_state v_inputs w (node_net d.exprs k) g) (sym is) (node_holds d names v v_state v_inputs w k can now node))
settled_at d names state inputs v v_state v_inputs can now settled same_s same_i n (OfClock k lt e) =
    let m = emitted d names in
    let w = patterns_of d names v v_inputs v_state in
    let is : driver m (clock d k) ≡ Outside = ap first_driver ((drivers_are d names can).clocks k lt) in
    subst (λ j. w.nets j ≡ by_driver m v_state v_inputs w j (driver m j)) (sym e)
    (subst (λ g. w.nets (clock d k) ≡ by_driver m v_state v_inputs w (clock d k) g) (sym is) (clock_pattern d names can.keeps can.named v v_inputs v_state k lt))
settled_at d names state inputs v v_state v_inputs can now settled same_s same_i n (OfMemory k lt e) =
    let m = emitted d names in
    let w = patterns_of d names v v_inputs v_state in
    let is = ap first_driver ((drivers_are d names can).memories k lt) in
    subst (λ j. w.nets j ≡ by_driver m v_state v_inputs w j (driver m j)) (sym e)
    (subst (λ g. w.nets (memory_name d names k) ≡ by_driver m v_state v_inputs w (memory_name d names k) g) (sym is)
    (memory_pattern d names can.keeps can.named v v_inputs v_state k lt ∙ memory_holds d names v_state w v_inputs k (writing_domain k (circuit_of d).ports) (memory_body d names k)))
settled_at d names state inputs v v_state v_inputs can now settled same_s same_i n (OfNothing s k c e) =
    let m = emitted d names in
    let w = patterns_of d names v v_inputs v_state in
    let is : driver m n ≡ Nothing = ap first_driver ((drivers_are d names can).none n s k c e) in
    subst (λ g. w.nets n ≡ by_driver m v_state v_inputs w n g) (sym is) (nothing_net d names v v_inputs v_state n s k c e)

now_at : (d : Design) (names : List Name) (state inputs v : Values) (v_state : Valuation) (v_inputs : Name → ℕ) → CanBeEmitted d names → StateFits (circuit_of d) state → InputsFit (circuit_of d) inputs → SameState (circuit_of d) (naming d names) state v_state → IsSettled (circuit_of d) state inputs v → Moment d names v (patterns_of d names v v_inputs v_state)
now_at d names state inputs v v_state v_inputs can fits inputs_fit same settled =
    moment d names v (patterns_of d names v v_inputs v_state) can
    (record { each = (settled_fits (circuit_of d) (design.keeps_shapes d can.keeps) state inputs v fits inputs_fit settled).signals })
    (has_patterns d names can.keeps can.named state inputs v v_inputs v_state same settled)

pub settled_for : (d : Design) (names : List Name) (state inputs v : Values) (v_state : Valuation) (v_inputs : Name → ℕ) → CanBeEmitted d names → StateFits (circuit_of d) state → InputsFit (circuit_of d) inputs
    → SameState (circuit_of d) (naming d names) state v_state → SameInputs (circuit_of d) (naming d names) inputs v_inputs → IsSettled (circuit_of d) state inputs v → IsVSettled (emitted d names) v_state v_inputs (patterns_of d names v v_inputs v_state)
settled_for d names state inputs v v_state v_inputs can fits inputs_fit same_s same_i settled =
    let now = now_at d names state inputs v v_state v_inputs can fits inputs_fit same_s settled in
    record { nets = λ n. settled_at d names state inputs v v_state v_inputs can now settled same_s same_i n (name_classes d names n); words = same_words d names v v_inputs v_state }

pub settles : (d : Design) (names : List Name) → CanBeEmitted d names → Settles (circuit_of d) (emitted d names) (naming d names)
settles d names can state inputs v v_state v_inputs fits inputs_fit same_s same_i settled = (
  patterns_of d names v v_inputs v_state,
  settled_for d names state inputs v v_state v_inputs can fits inputs_fit same_s same_i settled,
  record {
    signals = λ x lt. net_pattern d names can.named v v_inputs v_state x (made_within d x lt);
    words = λ k a lt. (words_have d names state inputs v v_state (patterns_of d names v v_inputs v_state) k same_s settled (same_words d names v v_inputs v_state (memory_name d names k))).each a lt;
  },
)
