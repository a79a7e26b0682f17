-- The instance can be lowered, and its reads have an order: nothing that is proved of lowering is empty.
use Rattle.std.proofs.Common.{◌≡◌, ℕ, zero, suc, ◌<◌, true, false, refl, sym, ◌∙◌, arith}
use Rattle.std.proofs.lemmas.Bool.{true≢false, ne_eqb}
use Rattle.std.specs.Prelude.{negsuc, length}
use Rattle.lx_num.proofs.Ranges.{fits_pos, fits_signed}
use Rattle.lx_circuit.specs.Places.{Place, At, Word, Kept}
use Rattle.lx_circuit.specs.Terms.{Signal}
use Rattle.lx_circuit.specs.Statements.{drives_block}
use Rattle.lx_circuit.specs.Circuit.{Domain, shapes, made}
use Rattle.lx_circuit.specs.Fitting.{IsMade}
use Rattle.lx_circuit.specs.Reads.{reads_block, HasOrder}
use Rattle.lx_circuit.proofs.Orders.{order_by_statements}
use Rattle.lx_fhdl.specs.Nodes.{IsSmall}
use Rattle.lx_fhdl.specs.Keeping.{EachOf}
use Rattle.lx_lowering.specs.Lowering.{TermKeeps, StmtKeeps, BlockKeeps, CanBeLowered}
use Rattle.lx_lowering.proofs.ListFacts.{undriven}
use Rattle.lx_lowering.specs.Instance.{branches, arms, word_read, instance}

signal_made : (x : ℕ) → IsMade (made instance x)
unfolding instance
signal_made zero = record { some = omega arith; fits = fits_signed 4 (negsuc 2) (omega arith) (omega arith) }
signal_made (suc zero) = record { some = omega arith; fits = fits_pos 8 5 (omega arith) }
signal_made (suc (suc zero)) = record { some = omega arith; fits = fits_pos 2 1 (omega arith) }
signal_made (suc (suc (suc zero))) = record { some = omega arith; fits = fits_pos 1 0 (omega arith) }
signal_made (suc (suc (suc (suc x)))) = record { some = omega arith; fits = fits_pos 1 0 (omega arith) }

signal_small : (x : ℕ) → x < length instance.signals → IsSmall (shapes instance x)
unfolding instance
signal_small zero h = record { some = omega arith; most = omega arith }
signal_small (suc zero) h = record { some = omega arith; most = omega arith }
signal_small (suc (suc zero)) h = record { some = omega arith; most = omega arith }
signal_small (suc (suc (suc zero))) h = record { some = omega arith; most = omega arith }
signal_small (suc (suc (suc (suc x)))) h = absurd (omega arith)

branches_keep : StmtKeeps (shapes instance) (length instance.signals) branches
unfolding instance
branches_keep =
    let keeps_r : TermKeeps (shapes instance) 4 (Signal 3) = record { sound = refl; fault = refl } in
    let keeps_q : TermKeeps (shapes instance) 4 (Signal 2) = record { sound = refl; fault = refl } in (
      (
        keeps_r,
        ((omega arith, omega arith, record { sound = refl; fault = refl }), tt),
        (keeps_q, (((omega arith, omega arith, omega arith), omega arith, record { sound = refl; fault = refl }), tt), tt),
      ),
      (((refl, ((omega arith, omega arith, omega arith), (omega arith, tt))), omega arith, keeps_q), tt),
    )

arms_keep : StmtKeeps (shapes instance) (length instance.signals) arms
unfolding instance
arms_keep =
    let keeps_r : TermKeeps (shapes instance) 4 (Signal 3) = record { sound = refl; fault = refl } in
    let keeps_q : TermKeeps (shapes instance) 4 (Signal 2) = record { sound = refl; fault = refl } in (
      keeps_q,
      (
        (((refl, (omega arith, (omega arith, tt)), keeps_r, refl), omega arith, keeps_q), tt),
        (((omega arith, omega arith, record { sound = refl; fault = refl }), tt), tt),
      ),
      tt,
    )

word_keeps : StmtKeeps (shapes instance) (length instance.signals) word_read
unfolding instance
word_keeps = ((omega arith, omega arith, omega arith), omega arith, record { sound = refl; fault = refl })

domains_keep : EachOf (λ (d : Domain). BlockKeeps (shapes instance) (length instance.signals) d.stmts) instance.domains
unfolding instance
domains_keep = (((omega arith, omega arith, record { sound = refl; fault = refl }), tt), tt)

pub can_be_lowered : CanBeLowered instance
unfolding instance
can_be_lowered = record {
  signals = record { each = signal_made };
  small = signal_small;
  comb = (branches_keep, (arms_keep, (word_keeps, tt)));
  domains = domains_keep;
}

rank : Place → ℕ
rank (At zero) = 1
rank (At (suc zero)) = 1
rank (At (suc (suc x))) = 0
rank (Word m k) = 0
rank (Kept j) = 0

idle : (x : ℕ) → drives_block (suc (suc x)) instance.comb ≡ false
unfolding instance
idle x = rw (ne_eqb 0 (suc (suc x)) (λ e. omega arith), ne_eqb 1 (suc (suc x)) (λ e. omega arith)) refl

read_before : (x : ℕ) (y : Place) → reads_block x y instance.comb ≡ true → rank y < rank (At x)
unfolding instance rank
read_before zero (At zero) r = absurd (cc)
read_before zero (At (suc zero)) r = absurd (cc)
read_before zero (At (suc (suc y))) r = omega arith
read_before zero (Word m k) r = omega arith
read_before zero (Kept j) r = omega arith
read_before (suc zero) (At zero) r = absurd (cc)
read_before (suc zero) (At (suc zero)) r = absurd (cc)
read_before (suc zero) (At (suc (suc y))) r = omega arith
read_before (suc zero) (Word m k) r = omega arith
read_before (suc zero) (Kept j) r = omega arith
read_before (suc (suc x)) y r = absurd (true≢false (sym r ∙ undriven (suc (suc x)) y instance.comb (idle x)))

pub has_order : HasOrder instance
unfolding instance
has_order = order_by_statements instance refl rank read_before
