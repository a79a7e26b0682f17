-- The small system meets the premises of the laws.
use Rattle.std.proofs.Common.{◌≡◌, ◌≢◌, ℕ, Bool, true, false, List, [], ◌∷◌, Option, Some, ◌<◌, inl, inr, ◌||◌, ◌&&◌, cond, refl, sym, ◌∙◌, ap, subst, nat_eq, nat_lt, slice_index_or, lit<, lit≤, zero, suc, arith}
use Rattle.std.proofs.lemmas.Bool.{eqb-true, ltb-true, or_cases, both_ways, and_parts}
use Rattle.lx_circuit.specs.Places.{Place, At, Word, Kept, is_at}
use Rattle.lx_circuit.specs.Circuit.{is_among}
use Rattle.lx_circuit.specs.Reads.{reads_block, reads_in}
use Rattle.lx_circuit.proofs.Orders.{reads_by_statements}
use Rattle.lx_machine.specs.Map.{CsrWord, Register}
use Rattle.lx_machine.specs.Bus.{register, word_at}
use Rattle.lx_machine.specs.Gives.{Given, given_at, all_given}
use Rattle.lx_machine.specs.Views.{State, system_reads, reads_of, is_signal_of, HasSystemOrder, Runs}
use Rattle.lx_machine.specs.Access.{Ask, Asks, IsAccess, AccessorRan, from_of, IsIdle, writes_all}
use Rattle.lx_machine.specs.Running.{state_run, values_run, inputs_of, access_steps, after_asks, traces_of}
use Rattle.lx_machine.specs.Sound.{IsSound}
use Rattle.lx_machine.specs.Laws.{CsrRan, RegisterRan}
use Rattle.lx_machine.specs.Maps.{MapsBanks}
use Rattle.lx_machine.proofs.Maps.{map_law}
use Rattle.lx_machine.proofs.Others.{others_kept}
use Rattle.lx_machine.specs.Tiny.{tiny, tiny_banks, more_regions, tiny_circuit, tiny_comb, tiny_rank, tiny_ranks, usual}
use Rattle.lx_machine.specs.WorkedTiny.{tiny_start, tiny_trace, plain_words, atomic_words, wrote_plain, wrote_atomic, TinyMeetsPremises}
use Rattle.lx_machine.proofs.Settle.{computed}
use Rattle.lx_machine.proofs.Accessors.{write_law, atomic_law, register_is, found_at}

-- ---- the order of reads

abbrev reads_ordered : ℕ → List ℕ → Bool
reads_ordered n [] = true
reads_ordered n (z ∷ zs) = nat_lt (tiny_rank (At z)) n && reads_ordered n zs

abbrev rows_ordered : List Given → Bool
rows_ordered [] = true
rows_ordered (g ∷ gs) = reads_ordered (tiny_rank (At g.signal)) g.reads && rows_ordered gs

read_below : (n : ℕ) (zs : List ℕ) (z : ℕ) → reads_ordered n zs ≡ true → is_among z zs ≡ true → tiny_rank (At z) < n
read_below n [] z o m = absurd cc
read_below n (x ∷ xs) z o m =
    let first = (and_parts (nat_lt (tiny_rank (At x)) n) (reads_ordered n xs) o).0 in
    elim (or_cases (nat_eq x z) (is_among z xs) m) [
      | inl e ↦ let same : x ≡ z = eqb-true x z e in let P : ℕ → Type 0 = λ i. tiny_rank (At i) < n in subst P same (ltb-true (tiny_rank (At x)) n first)
      | inr e ↦ read_below n xs z (and_parts (nat_lt (tiny_rank (At x)) n) (reads_ordered n xs) o).1 e
    ]

place_below : (n : ℕ) (zs : List ℕ) (q : Place) → reads_ordered n zs ≡ true → is_signal_of zs q ≡ true → tiny_rank q < n
place_below n zs (At z) o m = read_below n zs z o m
place_below n zs (Word m k) o e = absurd cc
place_below n zs (Kept j) o e = absurd cc

row_by : (t : Bool) (g : Given) (o : Option Given) (q : Place) (c : Bool) (n : ℕ) → (t ≡ true → is_signal_of g.reads q ≡ true → tiny_rank q < n) → (reads_of o q c ≡ true → tiny_rank q < n)
    → reads_of (cond t (Some g) o) q c ≡ true → tiny_rank q < n
row_by true g o q c n h k e = h refl e
row_by false g o q c n h k e = k e

rows_below : (gs : List Given) (x : ℕ) (q : Place) (c : Bool) → rows_ordered gs ≡ true → (c ≡ true → tiny_rank q < tiny_rank (At x)) → reads_of (given_at x gs) q c ≡ true → tiny_rank q < tiny_rank (At x)
rows_below [] x q c o h e = h e
rows_below (g ∷ gs) x q c o h e =
    row_by (nat_eq g.signal x) g (given_at x gs) q c (tiny_rank (At x))
    (λ t m. let same : g.signal ≡ x = eqb-true g.signal x t in let P : ℕ → Type 0 = λ i. tiny_rank q < tiny_rank (At i) in
    subst P same (place_below (tiny_rank (At g.signal)) g.reads q (and_parts (reads_ordered (tiny_rank (At g.signal)) g.reads) (rows_ordered gs) o).0 m))
    (λ k. rows_below gs x q c (and_parts (reads_ordered (tiny_rank (At g.signal)) g.reads) (rows_ordered gs) o).1 h k) e

-- the slave's ack reads its cyc, and nothing else is read in a statement
nothing_read : (x : ℕ) (q : Place) (a b : Bool) → nat_eq 48 x ≡ a → is_at 44 q ≡ b → reads_block x q tiny_comb ≡ ((a && (b || false)) || ((nat_eq 47 x && false) || false))
nothing_read x q a b e f =
    ap (λ z. (z && (is_at 44 q || false)) || ((nat_eq 47 x && false) || false)) e ∙ ap (λ z. (a && (z || false)) || ((nat_eq 47 x && false) || false)) f

none_else : (a : Bool) → ((a && false) || false) ≡ false
none_else true = refl
none_else false = refl

slave_reads : (x : ℕ) (q : Place) (a b : Bool) → nat_eq 48 x ≡ a → is_at 44 q ≡ b → reads_block x q tiny_comb ≡ true → tiny_rank q < tiny_rank (At x)
slave_reads x (At z) true true e f r =
    let P : ℕ → Type 0 = λ i. tiny_rank (At z) < tiny_rank (At i) in
    let Q : ℕ → Type 0 = λ i. tiny_rank (At i) < tiny_rank (At 48) in
    subst P (eqb-true 48 x e) (subst Q (eqb-true 44 z f) (lit< tt))
slave_reads x (Word m k) true true e f r = absurd cc
slave_reads x (Kept j) true true e f r = absurd cc
slave_reads x q true false e f r = absurd (both_ways (reads_block x q tiny_comb) (nothing_read x q true false e f ∙ none_else (nat_eq 47 x)) r)
slave_reads x q false b e f r = absurd (both_ways (reads_block x q tiny_comb) (nothing_read x q false b e f ∙ none_else (nat_eq 47 x)) r)

circuit_below : (x : ℕ) (q : Place) → reads_in tiny_circuit x q ≡ true → tiny_rank q < tiny_rank (At x)
circuit_below x q r = slave_reads x q (nat_eq 48 x) (is_at 44 q) refl refl (reads_by_statements tiny_circuit refl x q r)

pub tiny_after : (p q : Place) → system_reads tiny p q ≡ true → tiny_rank q < tiny_rank p
tiny_after (At x) q e = rows_below (all_given tiny) x q (reads_in tiny_circuit x q) refl (λ r. circuit_below x q r) e
tiny_after (Word m k) q e = absurd cc
tiny_after (Kept j) q e = absurd cc

unfoldable pub tiny_order : HasSystemOrder tiny
tiny_order = record { rank = tiny_rank; after = tiny_after }

abbrev all_small : List ℕ → Bool
all_small [] = true
all_small (x ∷ xs) = nat_lt x 4 && all_small xs

all_below : (xs : List ℕ) (k : ℕ) → all_small xs ≡ true → slice_index_or xs k 0 < 4
all_below [] k e = lit< tt
all_below (x ∷ xs) zero e = ltb-true x 4 (and_parts (nat_lt x 4) (all_small xs) e).0
all_below (x ∷ xs) (suc k) e = all_below xs k (and_parts (nat_lt x 4) (all_small xs) e).1

pub tiny_below : (p : Place) → tiny_rank p < 4
tiny_below (At x) = all_below tiny_ranks x refl
tiny_below (Word m k) = lit< tt
tiny_below (Kept j) = lit< tt

-- ---- what it keeps to

pub tiny_maps : MapsBanks tiny usual tiny_banks more_regions
tiny_maps = record {
  options = record { some = lit≤ tt; most = lit≤ tt; base = refl; paging = refl };
  fit = (
    lit≤ tt,
    record { number = lit≤ tt; room = lit≤ tt; some = (lit≤ tt, (lit≤ tt, (lit≤ tt, (lit≤ tt, tt)))) },
    (lit≤ tt, record { number = lit≤ tt; room = lit≤ tt; some = (lit≤ tt, (lit≤ tt, (lit≤ tt, tt))) }, tt),
  );
  registers = refl;
  regions = refl;
}

pub tiny_sound : IsSound tiny
tiny_sound = record {
  adr = record { input = refl; free = refl };
  dat_w = record { input = refl; free = refl };
  sel = record { input = refl; free = refl };
  cyc = record { input = refl; free = refl };
  stb = record { input = refl; free = refl };
  we = record { input = refl; free = refl };
  reset = record { input = refl; free = refl };
  distinct = refl;
  registers = (map_law tiny usual tiny_banks more_regions tiny_maps).registers;
  addresses = refl;
}

-- ---- accesses and accessors on it

tiny_asks : (q : Ask) → Asks tiny q (inputs_of tiny q)
tiny_asks q = record { adr = refl; sel = refl; cyc = refl; stb = refl; we = refl; dat_w = λ e. refl; reset = refl }

tiny_access : (q : Ask) → IsAccess tiny q (access_steps tiny q)
tiny_access q = record { asks = (tiny_asks q, (tiny_asks q, tt)); rises = tt }

tiny_runs : (st : State) (q : Ask) → Runs tiny st (access_steps tiny q) (values_run tiny 4 st (access_steps tiny q)) (state_run tiny 4 st (access_steps tiny q))
unfolding tiny_order
tiny_runs st q = computed tiny 4 tiny_order tiny_below st (access_steps tiny q)

from_is : (st : State) (asks : List Ask) → from_of (traces_of tiny 4 st asks) (after_asks tiny 4 st asks) ≡ st
from_is st [] = refl
from_is st (q ∷ qs) = refl

tiny_accessor : (st : State) (asks : List Ask) → AccessorRan tiny asks (traces_of tiny 4 st asks) (after_asks tiny 4 st asks)
tiny_accessor st [] = tt
tiny_accessor st (q ∷ qs) =
    let next = state_run tiny 4 st (access_steps tiny q) in
    let P : State → Type 0 = λ z. Runs tiny st (access_steps tiny q) (values_run tiny 4 st (access_steps tiny q)) z in
    (tiny_access q, subst P (sym (from_is next qs)) (tiny_runs st q), tiny_accessor next qs)

start_idle : IsIdle tiny tiny_start
start_idle = record { before = []; values = []; ran = refl; idle = refl }

pub tiny_register_ran : (k : ℕ) (r : Register) (asks : List Ask) → register tiny k ≡ Some r → RegisterRan tiny k r asks (traces_of tiny 4 tiny_start asks) (after_asks tiny 4 tiny_start asks)
tiny_register_ran k r asks e = record {
  sound = tiny_sound;
  is = e;
  idle = let P : State → Type 0 = λ z. IsIdle tiny z in subst P (sym (from_is tiny_start asks)) start_idle;
  ran = tiny_accessor tiny_start asks;
}

pub tiny_csr_ran : (k : ℕ) (r : Register) (w : CsrWord) (q : Ask) → register tiny k ≡ Some r → word_at r.words q.addr ≡ Some w → CsrRan tiny q (tiny_trace q) (state_run tiny 4 tiny_start (access_steps tiny q))
tiny_csr_ran k r w q e f =
    let i = found_at tiny r.size r.words q.addr w (register_is tiny k r tiny_sound e).words f in
    record {
      sound = tiny_sound;
      aligned = i.0;
      csr = i.1;
      ran = record { access = tiny_access q; ran = tiny_runs tiny_start q; idle = refl };
    }

not_first : (n : ℕ) → n ≡ 6 → n ≢ 0
not_first n e f = absurd (omega (arith, e, f))

pub tiny_meets : TinyMeetsPremises
unfolding tiny_order
tiny_meets = record {
  sound = tiny_sound;
  order = tiny_order;
  ranks = tiny_below;
  kinds = refl;
  accesses = tiny_csr_ran;
  accessors = tiny_register_ran;
  maps = tiny_maps;
  pending = refl;
  plain = λ v. write_law tiny 0 v _ _ (traces_of tiny 4 tiny_start (writes_all v plain_words)) (wrote_plain v) (tiny_register_ran 0 _ (writes_all v plain_words) refl) refl refl;
  atomic = λ v. atomic_law tiny 1 v _ _ _ _ (wrote_atomic v) (tiny_register_ran 1 _ (writes_all v atomic_words) refl) refl refl;
  others = λ v. (others_kept tiny 0 _ (writes_all v plain_words) (traces_of tiny 4 tiny_start (writes_all v plain_words)) (wrote_plain v) (tiny_register_ran 0 _ (writes_all v plain_words) refl) (refl, (refl, tt)) 6 _ _ refl refl (not_first 6 refl)).storage refl;
}
