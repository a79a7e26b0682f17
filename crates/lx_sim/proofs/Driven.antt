-- The value of a signal by what drives it.
use Rattle.std.proofs.Common.{◌≡◌, ℕ, true, ◌<◌, ◌^◌, ◌%◌, ◌/◌, List, [], length, refl, sym, ◌∙◌, ap, subst, arith}
use Rattle.std.specs.Prelude.{ℤ, pos, negsuc, Option, Some, None}
use Rattle.std.proofs.Math.Nat.{mod-eq_of_lt}
use Rattle.std.proofs.lemmas.Nat.{pow_pos}
use Rattle.lx_num.specs.Ints.{Fits, field_of, floor_div, modulo, read_bits, wrapped}
use Rattle.lx_num.proofs.Ints.{modulo-below}
use Rattle.lx_num.proofs.Ranges.{FitsBits-wrap_bits}
use Rattle.lx_circuit.specs.Places.{At}
use Rattle.lx_circuit.specs.Reads.{reads_block}
use Rattle.lx_circuit.specs.Statements.{result, taken_block}
use Rattle.lx_circuit.specs.Values.{value_of}
use Rattle.lx_circuit.specs.Circuit as circuit
use Rattle.lx_circuit.specs.Circuit.{Role, made, role}
use Rattle.lx_fhdl.specs.Below.{ExprId, StmtId}
use Rattle.lx_fhdl.specs.Designs.{block, circuit_of, shapes, term}
use Rattle.lx_fhdl.specs.Keeping.{Keeps}
use Rattle.lx_fhdl.specs.Lowered.{IsLowered}
use Rattle.lx_fhdl.specs.Nodes.{value_at}
use Rattle.lx_fhdl.specs.declared.design.Design.{Design}
use Rattle.lx_fhdl.proofs.Designs.{signal_some}
use Rattle.lx_emission.specs.Signals as signals
use Rattle.lx_emission.specs.Signals.{comb_drive, drive, drive_by, own, single}
use Rattle.lx_emission.proofs.BlockReads.{own_reads}
use Rattle.lx_emission.proofs.Blocks.{comb_list}
use Rattle.lx_emission.proofs.Loop.{assign_side}
use Rattle.lx_emission.proofs.Pieces.{own_below, own_for, own_takes, single_value}
use Rattle.lx_sim.specs.Blocks.{IsBlockRun}
use Rattle.lx_sim.specs.Evaluating.{IsBlockValue, IsCombValue}

-- ---- statements

floor_whole : (z : ℤ) → floor_div z (2 ^ 0) ≡ z
floor_whole (pos a) = ap pos (let e : a / 1 ≡ a = omega arith in e)
floor_whole (negsuc a) = ap negsuc (let e : a / 1 ≡ a = omega arith in e)

pub block_is : (d : Design) (x : ℕ) (known : List ℤ) (body : List StmtId) (start p r z : ℤ) → Keeps d → p ≡ pos (field_of start 0 (shapes d x).bits) → IsBlockRun d x known body p r → z ≡ wrapped (shapes d x) r → IsBlockValue d x known body start z
block_is d x known body start p r z keeps e run w = record {
  fits = subst (λ (k : ℤ). Fits (shapes d x) k) (sym w) (FitsBits-wrap_bits (shapes d x).bits (shapes d x).signed r (signal_some d keeps x));
  is = λ v test right reads.
      let n = (shapes d x).bits in
      let from : p ≡ pos (modulo start (2 ^ n)) = e ∙ ap (λ (k : ℤ). pos (modulo k (2 ^ n))) (floor_whole start) in
      w ∙ ap (wrapped (shapes d x)) (run.is v test right reads (modulo start (2 ^ n)) from);
}

-- ---- combinatorial signals

-- what drives a combinatorial signal
comb_by_block : (d : Design) (x : ℕ) (ids : List StmtId) (r : Role) → drive_by d x r ≡ signals.CombBlock ids → r ≡ circuit.Comb
comb_by_block d x ids circuit.Input e = absurd cc
comb_by_block d x ids circuit.Comb e = refl
comb_by_block d x ids (circuit.Sync k) e = absurd cc
comb_by_block d x ids (circuit.Read j) e = absurd cc
comb_by_block d x ids circuit.Undriven e = absurd cc

comb_by_assign : (d : Design) (x : ℕ) (value : ExprId) (r : Role) → drive_by d x r ≡ signals.CombAssign value → r ≡ circuit.Comb
comb_by_assign d x value circuit.Input e = absurd cc
comb_by_assign d x value circuit.Comb e = refl
comb_by_assign d x value (circuit.Sync k) e = absurd cc
comb_by_assign d x value (circuit.Read j) e = absurd cc
comb_by_assign d x value circuit.Undriven e = absurd cc

single_of : (d : Design) (x : ℕ) (value : ExprId) (o : Option ExprId) → comb_drive (own d x d.comb) o ≡ signals.CombAssign value → o ≡ Some value
single_of d x value None e = absurd cc
single_of d x value (Some v) e = cc

pub comb_block : (d : Design) (x : ℕ) (vals known : List ℤ) (ids : List StmtId) (z : ℤ) → Keeps d → IsLowered d → drive d x ≡ signals.CombBlock ids → IsBlockValue d x known ids (made (circuit_of d) x).reset z → IsCombValue d x vals known z
unfolding drive
comb_block d x vals known ids z keeps low e value =
    let same : ids ≡ own d x d.comb = comb_list d x ids e in
    let comb = comb_by_block d x ids (role (circuit_of d) x) e in
    let n = (shapes d x).bits in
    record {
      fits = value.fits;
      comb = λ v test r right reads.
          value.is v test right (λ y f. reads y (own_reads d x (At y) d.comb (subst (λ (is : List StmtId). reads_block x (At y) (block d is) ≡ true) same f)))
          ∙ (ap (λ (is : List StmtId). result (shapes d) x (made (circuit_of d) x).reset (taken_block (shapes d) v (block d is))) same
          ∙ ap (λ (q : ℕ). read_bits n (shapes d x).signed (q % 2 ^ n)) (own_takes d v x d.comb low.comb (modulo (made (circuit_of d) x).reset (2 ^ n))));
      other = λ f. absurd (f comb);
    }

pub comb_assign : (d : Design) (x : ℕ) (vals known : List ℤ) (value : ExprId) (z : ℤ) → Keeps d → IsLowered d → x < length d.signals → drive d x ≡ signals.CombAssign value → z ≡ wrapped (shapes d x) (value_at known value.place) → IsCombValue d x vals known z
unfolding drive
comb_assign d x vals known value z keeps low lt e w =
    let comb = comb_by_assign d x value (role (circuit_of d) x) e in
    let one : single d (own d x d.comb) ≡ Some value = single_of d x value (single d (own d x d.comb)) (sym (ap (drive_by d x) comb) ∙ e) in
    let side = assign_side d x value keeps low e in
    let n = (shapes d x).bits in
    record {
      fits = subst (λ (k : ℤ). Fits (shapes d x) k) (sym w) (FitsBits-wrap_bits (shapes d x).bits (shapes d x).signed (value_at known value.place) (signal_some d keeps x));
      comb = λ v test r right reads.
          let same = right.each value.place side.within (λ y f. reads y (own_reads d x (At y) d.comb (side.signals y f))) in
          let start = modulo (made (circuit_of d) x).reset (2 ^ n) in
          let takes = single_value d [] v x keeps lt (own d x d.comb) (own_below d x (length d.stmts) d.comb keeps.comb.there) (own_for d x d.comb low.comb) value one in
          let number = value_of (shapes d) v (term d value.place) in
          w
          ∙ (ap (wrapped (shapes d x)) same
          ∙ (ap (λ (q : ℕ). read_bits n (shapes d x).signed q) (sym (mod-eq_of_lt (modulo-below number (2 ^ n) (pow_pos n))))
          ∙ (ap (λ (q : ℕ). read_bits n (shapes d x).signed (q % 2 ^ n)) (sym (takes.1 start (modulo-below (made (circuit_of d) x).reset (2 ^ n) (pow_pos n))))
          ∙ ap (λ (q : ℕ). read_bits n (shapes d x).signed (q % 2 ^ n)) (own_takes d v x d.comb low.comb start))));
      other = λ f. absurd (f comb);
    }

-- ---- other signals

not_comb : (d : Design) (x : ℕ) (g : signals.Drive) (r : Role) → drive_by d x r ≡ g → ((ids : List StmtId) → g ≡ signals.CombBlock ids → ⊥) → ((value : ExprId) → g ≡ signals.CombAssign value → ⊥) → r ≡ circuit.Comb → ⊥
not_comb d x g r e no_block no_assign same = by (single d (own d x d.comb)) (sym e ∙ ap (drive_by d x) same)
  where
    by : (o : Option ExprId) → g ≡ comb_drive (own d x d.comb) o → ⊥
    by None f = no_block (own d x d.comb) f
    by (Some value) f = no_assign value f

pub comb_other : (d : Design) (x : ℕ) (vals known : List ℤ) (g : signals.Drive) (z : ℤ) → drive d x ≡ g → ((ids : List StmtId) → g ≡ signals.CombBlock ids → ⊥) → ((value : ExprId) → g ≡ signals.CombAssign value → ⊥)
    → z ≡ value_at vals x → Fits (shapes d x) (value_at vals x) → IsCombValue d x vals known z
unfolding drive
comb_other d x vals known g z e no_block no_assign w fits = record {
  fits = subst (λ (k : ℤ). Fits (shapes d x) k) (sym w) fits;
  comb = λ v test r right reads. absurd (not_comb d x g (role (circuit_of d) x) e no_block no_assign r);
  other = λ f. w;
}
