-- What the bus does at the two edges of an access.
use Rattle.std.proofs.Common.{◌≡◌, ℕ, ℤ, true, false, List, [], ◌∷◌, Option, Some, None, ◌*◌, ◌/◌, ◌&&◌, cond, not, refl, sym, ◌∙◌, ap, eq-eqb}
use Rattle.std.proofs.Math.Bool.{and-false}
use Rattle.lx_circuit.specs.Places.{Values}
use Rattle.lx_circuit.specs.Values.{is_zero, count_of}
use Rattle.lx_circuit.specs.Circuit.{Step, is_reset, domain_at}
use Rattle.lx_circuit.proofs.Values.{flag_on}
use Rattle.lx_machine.specs.Map.{Register}
use Rattle.lx_machine.specs.System.{System, Target, Csr}
use Rattle.lx_machine.specs.Bus.{Bus, Phase, Idle, Answering, is_on, is_csr, is_user, asks, offers, writes, reads, csr_writes, csr_reads, written_word, address, selected, target, target_of, place_of, word_at, answers, offer_word, edge, is_last, is_last_of}
use Rattle.lx_machine.specs.Views.{State, IsSystemSettled, Runs, system_next}
use Rattle.lx_machine.specs.Access.{Each, Ask, Asks}
use Rattle.lx_machine.specs.Sound.{AreInputs, IsSound}
use Rattle.lx_machine.specs.Laws.{asked_word}
use Rattle.lx_machine.proofs.Given.{at_input}

-- ---- the port's inputs in a settled valuation

reset_as : (y : System) (st : State) (inputs v : Values) (o : Option ℕ) → IsSystemSettled y st inputs v → AreInputs y o → is_reset v o ≡ is_reset inputs o
reset_as y st inputs v None p i = refl
reset_as y st inputs v (Some x) p i = ap (λ z. not (is_zero z)) (at_input y st inputs v x p i)

pub asked : (y : System) (q : Ask) (st : State) (inputs v : Values) → IsSound y → Asks y q inputs → IsSystemSettled y st inputs v → Asks y q v
asked y q st inputs v s h p = record {
  adr = at_input y st inputs v y.port.adr p s.adr ∙ h.adr;
  sel = at_input y st inputs v y.port.sel p s.sel ∙ h.sel;
  cyc = at_input y st inputs v y.port.cyc p s.cyc ∙ h.cyc;
  stb = at_input y st inputs v y.port.stb p s.stb ∙ h.stb;
  we = at_input y st inputs v y.port.we p s.we ∙ h.we;
  dat_w = λ e. at_input y st inputs v y.port.dat_w p s.dat_w ∙ h.dat_w e;
  reset = reset_as y st inputs v (domain_at y.circuit y.sys).reset p s.reset ∙ h.reset;
}

pub asked_all : (y : System) (q : Ask) (st : State) (ts : List Step) (ws : List Values) (new : State) → IsSound y → Each (λ (t : Step). Asks y q t.inputs) ts → Runs y st ts ws new → Each (λ w. Asks y q w) ws
asked_all y q st [] [] new s h run = tt
asked_all y q st [] (w ∷ ws) new s h run = absurd run
asked_all y q st (t ∷ ts) [] new s h run = absurd run
asked_all y q st (t ∷ ts) (w ∷ ws) new s h run =
    (asked y q st t.inputs w s h.0 run.0, asked_all y q (system_next y st w t.rises) ts ws new s h.1 run.1)

-- ---- where the access goes

pub record Reaches (y : System) (q : Ask) : Type 0 where
  pub aligned : q.addr ≡ 4 * (q.addr / 4)
  pub csr : target_of y q.addr ≡ Csr

pub address_is : (y : System) (q : Ask) (v : Values) → Reaches y q → Asks y q v → address y v ≡ q.addr
address_is y q v r h = ap (λ (z : ℤ). 4 * count_of z) h.adr ∙ sym r.aligned

pub target_is : (y : System) (q : Ask) (v : Values) → Reaches y q → Asks y q v → target y v ≡ Csr
target_is y q v r h = ap (λ (a : ℕ). target_of y a) (address_is y q v r h) ∙ r.csr

pub selected_is : (y : System) (q : Ask) (v : Values) → Reaches y q → Asks y q v → selected y v ≡ place_of y q.addr
selected_is y q v r h = ap (λ (a : ℕ). place_of y a) (address_is y q v r h)

asks_is : (y : System) (q : Ask) (v : Values) → Asks y q v → asks y v ≡ true
asks_is y q v h =
    ap (λ z. not z && (is_on v y.port.cyc && is_on v y.port.stb)) h.reset
    ∙ (ap (λ z. not (is_zero z) && is_on v y.port.stb) h.cyc ∙ ap (λ z. not (is_zero z)) h.stb)

pub we_is : (y : System) (q : Ask) (v : Values) → Asks y q v → is_on v y.port.we ≡ q.writes
we_is y q v h = ap (λ z. not (is_zero z)) h.we ∙ flag_on q.writes

-- by whether the target is answering
offers_are : (y : System) (q : Ask) (b : Bus) (v : Values) → Reaches y q → Asks y q v → offers y b v ≡ not (answers b.phase (selected y v))
offers_are y q b v r h =
    ap (λ z. z && (not (is_user (target y v)) && not (answers b.phase (selected y v)))) (asks_is y q v h)
    ∙ ap (λ (g : Target). not (is_user g) && not (answers b.phase (selected y v))) (target_is y q v r h)

-- ---- the first edge, from an idle bus

pub offers_idle : (y : System) (q : Ask) (b : Bus) (v : Values) → Reaches y q → Asks y q v → b.phase ≡ Idle → offers y b v ≡ true
offers_idle y q b v r h i = offers_are y q b v r h ∙ ap (λ (p : Phase). not (answers p (selected y v))) i

pub writes_idle : (y : System) (q : Ask) (b : Bus) (v : Values) → Reaches y q → Asks y q v → b.phase ≡ Idle → csr_writes y b v ≡ q.writes
writes_idle y q b v r h i =
    ap (λ (g : Target). is_csr g && writes y b v) (target_is y q v r h)
    ∙ (ap (λ z. z && is_on v y.port.we) (offers_idle y q b v r h i) ∙ we_is y q v h)

pub reads_idle : (y : System) (q : Ask) (b : Bus) (v : Values) → Reaches y q → Asks y q v → b.phase ≡ Idle → csr_reads y b v ≡ not q.writes
reads_idle y q b v r h i =
    ap (λ (g : Target). is_csr g && reads y b v) (target_is y q v r h)
    ∙ (ap (λ z. z && not (is_on v y.port.we)) (offers_idle y q b v r h i) ∙ ap (λ z. not z) (we_is y q v h))

pub phase_taken : (y : System) (q : Ask) (b : Bus) (v : Values) → Reaches y q → Asks y q v → b.phase ≡ Idle
    → (edge y b v).phase ≡ Answering (place_of y q.addr) (offer_word y b v)
phase_taken y q b v r h i =
    ap (λ z. cond z (Answering (selected y v) (offer_word y b v)) Idle) (offers_idle y q b v r h i)
    ∙ ap (λ (n : ℕ). Answering n (offer_word y b v)) (selected_is y q v r h)

-- the word that a write, or a read, asks for
pub word_idle : (y : System) (q : Ask) (b : Bus) (v : Values) (g : Register) → Reaches y q → Asks y q v → b.phase ≡ Idle → written_word y b v g ≡ asked_word q g
word_idle y q b v g r h i =
    ap (λ z. cond z (word_at g.words (address y v)) None) (writes_idle y q b v r h i)
    ∙ ap (λ (a : ℕ). cond q.writes (word_at g.words a) None) (address_is y q v r h)

pub last_is : (y : System) (q : Ask) (v : Values) (g : Register) → Reaches y q → Asks y q v → is_last_of y v g ≡ is_last g.words q.addr
last_is y q v g r h = ap (λ (a : ℕ). is_last g.words a) (address_is y q v r h)

-- ---- the second edge

pub offers_taken : (y : System) (q : Ask) (b : Bus) (v : Values) (z : ℕ) → Reaches y q → Asks y q v → b.phase ≡ Answering (place_of y q.addr) z → offers y b v ≡ false
offers_taken y q b v z r h i =
    offers_are y q b v r h
    ∙ (ap (λ (p : Phase). not (answers p (selected y v))) i
    ∙ ap (λ e. not e) (eq-eqb (place_of y q.addr) (selected y v) (sym (selected_is y q v r h))))

pub writes_taken : (y : System) (q : Ask) (b : Bus) (v : Values) (z : ℕ) → Reaches y q → Asks y q v → b.phase ≡ Answering (place_of y q.addr) z → csr_writes y b v ≡ false
writes_taken y q b v z r h i = ap (λ e. is_csr (target y v) && (e && is_on v y.port.we)) (offers_taken y q b v z r h i) ∙ and-false (is_csr (target y v))

pub reads_taken : (y : System) (q : Ask) (b : Bus) (v : Values) (z : ℕ) → Reaches y q → Asks y q v → b.phase ≡ Answering (place_of y q.addr) z → csr_reads y b v ≡ false
reads_taken y q b v z r h i = ap (λ e. is_csr (target y v) && (e && not (is_on v y.port.we))) (offers_taken y q b v z r h i) ∙ and-false (is_csr (target y v))

pub phase_closed : (y : System) (q : Ask) (b : Bus) (v : Values) (z : ℕ) → Reaches y q → Asks y q v → b.phase ≡ Answering (place_of y q.addr) z → (edge y b v).phase ≡ Idle
phase_closed y q b v z r h i = ap (λ e. cond e (Answering (selected y v) (offer_word y b v)) Idle) (offers_taken y q b v z r h i)

pub word_taken : (y : System) (q : Ask) (b : Bus) (v : Values) (z : ℕ) (g : Register) → Reaches y q → Asks y q v → b.phase ≡ Answering (place_of y q.addr) z → written_word y b v g ≡ None
word_taken y q b v z g r h i = ap (λ e. cond e (word_at g.words (address y v)) None) (writes_taken y q b v z r h i)
