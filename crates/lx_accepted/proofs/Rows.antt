-- The rows, and the instance of what the laws ask for.
use Rattle.std.proofs.Common.{◌≡◌, ℕ, zero, suc, ◌<◌, ◌≤◌, true, false, [], ◌∷◌, Some, refl, sym, ap, subst, ◌∙◌, arith, nat_eq}
use Rattle.std.specs.Prelude.{slice_get}
use Rattle.std.proofs.Math.Bool.{or-false}
use Rattle.std.proofs.lemmas.Bool.{ne_eqb, true≢false}
use Rattle.lx_arena.specs.Folds.{fold_at}
use Rattle.lx_tables.specs.VerilogWords.{verilog_words}
use Rattle.lx_circuit.specs.Circuit.{Role, Comb, Input, Read, Sync, Undriven, role}
use Rattle.lx_circuit.specs.Places.{Place, At, Word, Kept}
use Rattle.lx_circuit.specs.Reads.{reads_in, role_reads}
use Rattle.lx_fhdl.specs.Designs as design
use Rattle.lx_fhdl.specs.Designs.{circuit_of}
use Rattle.lx_fhdl.specs.Drafts.{Stays}
use Rattle.lx_fhdl.specs.Keeping.{Keeps}
use Rattle.lx_fhdl.specs.Kept.{is_kept}
use Rattle.lx_fhdl.specs.Stmts.{stmt_at, target_at}
use Rattle.lx_fhdl.specs.Trees.{term_at}
use Rattle.lx_fhdl.specs.declared.stmts.Stmt.{Stmt}
use Rattle.lx_fhdl.proofs.Kept.{is_kept-is}
use Rattle.lx_reads.specs.Drivings.{drivings, drivings_at}
use Rattle.lx_memory.specs.Alone.{shows_alone}
use Rattle.lx_memory.specs.Lowers.{Added, IsPortsOf, LowersPorts, ShowAlone, line_of}
use Rattle.lx_memory.specs.Ports.{lowered}
use Rattle.lx_memory.proofs.Apart.{alone}
use Rattle.lx_memory.proofs.FromDesign.{can_lower_ports}
use Rattle.lx_memory.proofs.Law.{lowers}
use Rattle.lx_namer.specs.Base.{base_name}
use Rattle.lx_check.specs.Checked.{IsSound}
use Rattle.lx_check.specs.Faults.{first_fault}
use Rattle.lx_check.specs.Worked.{part, set}
use Rattle.lx_fhdl.specs.Instance.{the_stmt}
use Rattle.lx_accepted.specs.Worked.{AreWorked, IsInstance, kept, two_ports, two_ports_lowered}

pub worked : AreWorked
unfolding circuit_of stmt_at target_at term_at fold_at base_name drivings drivings_at first_fault verilog_words
worked = record { none = refl; twice = refl; address = refl; register = refl; clocked = refl }

-- ---- the premises

keeps : Keeps two_ports
unfolding circuit_of fold_at term_at target_at stmt_at is_kept
keeps = is_kept-is two_ports refl

lowered_keeps : Keeps two_ports_lowered
unfolding circuit_of fold_at term_at target_at stmt_at is_kept
lowered_keeps = is_kept-is two_ports_lowered refl

shows : ShowAlone (circuit_of two_ports)
unfolding circuit_of fold_at term_at target_at stmt_at drivings drivings_at shows_alone
shows = alone two_ports keeps refl

stays : Stays two_ports two_ports_lowered
unfolding fold_at term_at target_at stmt_at
stays = record {
  exprs = omega arith;
  targets = omega arith;
  stmts = omega arith;
  terms = terms;
  target_trees = targets;
  stmt_trees = stmts;
  stmt_nodes = nodes;
  signals_more = omega arith;
  signals = signals;
}
  where
    terms : (k : ℕ) → k < 3 → design.term two_ports_lowered k ≡ design.term two_ports k
    terms zero l = refl
    terms (suc zero) l = refl
    terms (suc (suc zero)) l = refl
    terms (suc (suc (suc k))) l = absurd (omega arith)

    targets : (k : ℕ) → k < 5 → design.target two_ports_lowered k ≡ design.target two_ports k
    targets zero l = refl
    targets (suc zero) l = refl
    targets (suc (suc zero)) l = refl
    targets (suc (suc (suc zero))) l = refl
    targets (suc (suc (suc (suc zero)))) l = refl
    targets (suc (suc (suc (suc (suc k))))) l = absurd (omega arith)

    stmts : (k : ℕ) → k < 1 → design.stmt two_ports_lowered k ≡ design.stmt two_ports k
    stmts zero l = refl
    stmts (suc k) l = absurd (omega arith)

    nodes : (k : ℕ) → k < 1 → slice_get two_ports_lowered.stmts k ≡ slice_get two_ports.stmts k
    nodes zero l = refl
    nodes (suc k) l = absurd (omega arith)

    signals : (k : ℕ) → k < 3 → slice_get two_ports_lowered.signals k ≡ slice_get two_ports.signals k
    signals zero l = refl
    signals (suc zero) l = refl
    signals (suc (suc zero)) l = refl
    signals (suc (suc (suc k))) l = absurd (omega arith)

added : Added two_ports two_ports_lowered
added = record {
  signals = kept ∷ [];
  comb = the_stmt 1 ∷ the_stmt 3 ∷ [];
  sync = part 0 (the_stmt 2 ∷ []) ∷ [];
  signals_are = refl;
  comb_are = refl;
  sync_are = refl;
  generated = (record { path = refl; line = refl }, tt);
  past = (omega arith, (omega arith, tt));
  lines = lines;
}
  where
    lines : (k : ℕ) (x : Stmt) → 1 ≤ k → slice_get two_ports_lowered.stmts k ≡ Some x → line_of x ≡ 0
    lines zero x l e = absurd (omega arith)
    lines (suc zero) x l e = let same : set 5 4 0 ≡ x = cc in ap line_of (sym same)
    lines (suc (suc zero)) x l e = let same : set 6 5 0 ≡ x = cc in ap line_of (sym same)
    lines (suc (suc (suc zero))) x l e = let same : set 7 7 0 ≡ x = cc in ap line_of (sym same)
    lines (suc (suc (suc (suc k)))) x l e = absurd cc

same_circuit : circuit_of two_ports_lowered ≡ lowered (circuit_of two_ports)
unfolding circuit_of fold_at term_at target_at stmt_at lowered
same_circuit = refl

ports_of : IsPortsOf two_ports two_ports_lowered
ports_of = record {
  keeps = lowered_keeps;
  stays = stays;
  added = added;
  memories = refl;
  domains = refl;
  ios = refl;
  ports = refl;
  circuit = same_circuit;
  lowers = subst (LowersPorts (circuit_of two_ports)) (sym same_circuit) (lowers (circuit_of two_ports) (can_lower_ports two_ports keeps shows));
}

-- ---- an order

abbrev rank : Place → ℕ
rank (At zero) = 0
rank (At (suc x)) = 1
rank (Word m k) = 0
rank (Kept j) = 0

-- no signal but a is read
no_other : (z : ℕ) (r : Role) → role_reads (circuit_of two_ports) (At (suc z)) r ≡ false
unfolding circuit_of fold_at term_at target_at stmt_at
no_other z Input = refl
no_other z Comb = refl
no_other z (Sync k) = refl
no_other z (Read zero) = or-false (nat_eq 0 (suc z)) ∙ ne_eqb 0 (suc z) (λ e. omega arith)
no_other z (Read (suc zero)) = refl
no_other z (Read (suc (suc j))) = refl
no_other z Undriven = refl

after : (x : ℕ) (y : Place) → reads_in (circuit_of two_ports) x y ≡ true → rank y < rank (At x)
unfolding circuit_of fold_at term_at target_at stmt_at
after zero y e = absurd (true≢false (sym e))
after (suc x) (At zero) e = omega arith
after (suc x) (At (suc z)) e = absurd (true≢false (sym e ∙ no_other z (role (circuit_of two_ports) (suc x))))
after (suc x) (Word m k) e = omega arith
after (suc x) (Kept j) e = omega arith

sound : IsSound two_ports
unfolding circuit_of stmt_at target_at term_at fold_at base_name drivings drivings_at first_fault verilog_words
sound = record { faultless = refl; order = record { rank = rank; after = after } }

pub instance : IsInstance
instance = record { lowered = record { keeps = keeps; alone = shows; ports = ports_of }; sound = sound }
