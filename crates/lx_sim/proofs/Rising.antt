-- The value of a signal after a rise of its domain.
use Rattle.std.proofs.Common.{◌≡◌, ℕ, zero, suc, Bool, true, false, not, ◌&&◌, ◌+◌, ◌%◌, ◌^◌, ◌<◌, List, [], ◌∷◌, length, set, cond, refl, sym, ◌∙◌, ap, subst, arith, inl, inr, get_or-set_same, get_or-set_other, length-set}
use Rattle.std.specs.Prelude.{ℤ, pos, Option, Some, None, option_map, slice_get, slice_index_or}
use Rattle.std.proofs.lemmas.Bool.{cases_eq}
use Rattle.lx_num.specs.Ints.{Fits, modulo, read_bits}
use Rattle.lx_arena.proofs.Places.{node_there}
use Rattle.lx_circuit.specs.Places.{Values, At}
use Rattle.lx_circuit.specs.Values.{is_zero}
use Rattle.lx_circuit.specs.Statements.{result, taken_block}
use Rattle.lx_circuit.specs.Circuit as circuit
use Rattle.lx_circuit.specs.Circuit.{Role, domain_at, is_reset, made, next, no_domain, risen, role}
use Rattle.lx_fhdl.specs.Below.{StmtId}
use Rattle.lx_fhdl.specs.Designs.{block, circuit_of, domain_of, domains_from, shapes, signal_number, stmts_of}
use Rattle.lx_fhdl.specs.Keeping.{Keeps}
use Rattle.lx_fhdl.specs.Lowered.{IsLowered}
use Rattle.lx_fhdl.specs.Nodes.{value_at}
use Rattle.lx_fhdl.specs.declared.exprs.SigId.{SigId}
use Rattle.lx_fhdl.specs.declared.design.Domain.{Domain}
use Rattle.lx_fhdl.specs.declared.design.Signal.{Signal}
use Rattle.lx_fhdl.specs.declared.design.Design.{Design}
use Rattle.lx_emission.specs.Signals as signals
use Rattle.lx_emission.specs.Signals.{comb_drive, drive, drive_by, own, single}
use Rattle.lx_emission.proofs.Blocks.{reset_within, sync_list, sync_plain}
use Rattle.lx_emission.proofs.Parts.{drive_within}
use Rattle.lx_emission.proofs.Pieces.{own_takes}
use Rattle.lx_sheet.proofs.Owners.{made_is}
use Rattle.lx_sim.specs.Evaluating.{IsBlockValue, IsNextValue, IsRisen, domain_reset, is_reset_by, reset_of}
use Rattle.lx_sim.proofs.Firsts.{reset_fits}
use Rattle.lx_sim.specs.declared.plan.Plan.{Plan}
use Rattle.lx_trace.specs.Traces.{rises_of}

-- ---- domains

domains_at : (d : Design) (j k : ℕ) (xs : List Domain) (x : Domain) → slice_get xs k ≡ Some x → slice_index_or (domains_from d j xs) k no_domain ≡ domain_of d (j + k) x
domains_at d j k [] x e = absurd cc
domains_at d j zero (y ∷ ys) x e = let same : y ≡ x = cc in rw same (ap (λ (n : ℕ). domain_of d n x) (let q : j ≡ j + 0 = omega arith in q))
domains_at d j (suc k) (y ∷ ys) x e = domains_at d (j + 1) k ys x e ∙ ap (λ (n : ℕ). domain_of d n x) (let q : j + 1 + k ≡ j + suc k = omega arith in q)

domain_is : (d : Design) (k : ℕ) (x : Domain) → slice_get d.domains k ≡ Some x → domain_at (circuit_of d) k ≡ domain_of d k x
unfolding circuit_of
domain_is d k x e = domains_at d 0 k d.domains x e ∙ ap (λ (n : ℕ). domain_of d n x) (let q : 0 + k ≡ k = omega arith in q)

-- ---- resets

reset_same : (vals : List ℤ) (v : Values) (o : Option SigId) → ((r : SigId) → o ≡ Some r → value_at vals r.0 ≡ v (At r.0)) → is_reset_by vals o ≡ is_reset v (option_map signal_number o)
reset_same vals v None h = refl
reset_same vals v (Some r) h = ap (λ (z : ℤ). not (is_zero z)) (h r refl)

-- a signal that takes its reset value
pub risen_reset : (d : Design) (x k : ℕ) (vals known : List ℤ) (body : List StmtId) (s : Signal) → Keeps d → slice_get d.signals x ≡ Some s → is_reset_by vals (reset_of d k) && not (made (circuit_of d) x).reset_less ≡ true → IsRisen d x k vals known body s.reset
risen_reset d x k vals known body s keeps found up = record {
  fits = reset_fits d x s keeps found;
  is = λ v right.
      let after = result (shapes d) x (value_at vals x) (taken_block (shapes d) v (block d body)) in
      sym (ap (λ (b : Bool). cond b (made (circuit_of d) x).reset after) up ∙ ap (λ (m : circuit.Made). m.reset) (made_is d x s found));
}

-- one that follows its statements
pub risen_on : (d : Design) (x k : ℕ) (vals known : List ℤ) (body : List StmtId) (z : ℤ) → is_reset_by vals (reset_of d k) && not (made (circuit_of d) x).reset_less ≡ false → IsBlockValue d x known body (value_at vals x) z → IsRisen d x k vals known body z
risen_on d x k vals known body z off value = record {
  fits = value.fits;
  is = λ v right.
      let after = result (shapes d) x (value_at vals x) (taken_block (shapes d) v (block d body)) in
      value.is v (λ y. true) right (λ y e. refl) ∙ sym (ap (λ (b : Bool). cond b (made (circuit_of d) x).reset after) off);
}

-- whether it takes its reset value
pub to_reset : (d : Design) (x k : ℕ) (vals : List ℤ) (s : Signal) (a : Bool) → slice_get d.signals x ≡ Some s → a ≡ is_reset_by vals (reset_of d k) → a && not s.reset_less ≡ is_reset_by vals (reset_of d k) && not (made (circuit_of d) x).reset_less
to_reset d x k vals s a found up = ap (λ (b : Bool). b && not s.reset_less) up ∙ ap (λ (m : circuit.Made). is_reset_by vals (reset_of d k) && not m.reset_less) (sym (made_is d x s found))

-- ---- what drives a registered signal

sync_by : (d : Design) (x k : ℕ) (ids : List StmtId) (r : Role) → drive_by d x r ≡ signals.Sync k ids → r ≡ circuit.Sync k
sync_by d x k ids circuit.Input e = absurd cc
sync_by d x k ids circuit.Comb e = by (single d (own d x d.comb)) e
  where
    by : (o : Option _) → comb_drive (own d x d.comb) o ≡ signals.Sync k ids → circuit.Comb ≡ circuit.Sync k
    by None f = absurd cc
    by (Some value) f = absurd cc
sync_by d x k ids (circuit.Sync j) e = let same : j ≡ k = cc in ap circuit.Sync same
sync_by d x k ids (circuit.Read j) e = absurd cc
sync_by d x k ids circuit.Undriven e = absurd cc

same_sync : (j k : ℕ) → circuit.Sync j ≡ circuit.Sync k → j ≡ k
same_sync j k e = cc

pub risen_next : (d : Design) (x k rises : ℕ) (vals known : List ℤ) (body : List StmtId) (z : ℤ) → Keeps d → IsLowered d → x < length d.signals → drive d x ≡ signals.Sync k body → rises_of rises k ≡ true → IsRisen d x k vals known body z → IsNextValue d x rises vals known z
unfolding drive
risen_next d x k rises vals known body z keeps low lt e up value =
    let is = sync_by d x k body (role (circuit_of d) x) e in
    let same : body ≡ own d x (stmts_of k d.sync) = sync_list d x k body e in
    let there = node_there d.domains k (drive_within d x k body e) in
    let y = there.0 in
    let c = circuit_of d in
    let n = (shapes d x).bits in
    record {
      fits = value.fits;
      clocked = λ state v j r right are held.
          let resets : is_reset_by vals (reset_of d k) ≡ is_reset v (option_map signal_number y.reset) =
          reset_same vals v (reset_of d k) (λ s f. are s.0 (reset_within d keeps k s f)) ∙ ap (λ (o : Option Domain). is_reset v (option_map signal_number (domain_reset o))) there.1 in
          let old : value_at vals x ≡ v (At x) = are x lt in
          let taken : result (shapes d) x (value_at vals x) (taken_block (shapes d) v (block d body)) ≡ result (shapes d) x (v (At x)) (taken_block (shapes d) v (block d (stmts_of k d.sync))) =
          ap (λ (q : ℤ). result (shapes d) x q (taken_block (shapes d) v (block d body))) old
          ∙ (ap (λ (ids : List StmtId). result (shapes d) x (v (At x)) (taken_block (shapes d) v (block d ids))) same
          ∙ ap (λ (q : ℕ). read_bits n (shapes d x).signed (q % 2 ^ n)) (own_takes d v x (stmts_of k d.sync) (sync_plain d k d.sync low.sync) (modulo (v (At x)) (2 ^ n)))) in
          value.is v right
          ∙ (ap (λ (b : Bool). cond (b && not (made c x).reset_less) (made c x).reset (result (shapes d) x (value_at vals x) (taken_block (shapes d) v (block d body)))) resets
          ∙ (ap (λ (q : ℤ). cond (is_reset v (option_map signal_number y.reset) && not (made c x).reset_less) (made c x).reset q) taken
          ∙ (ap (λ (g : circuit.Domain). risen c v g x) (sym (domain_is d k y there.1))
          ∙ (ap (λ (b : Bool). cond b (risen c v (domain_at c k) x) (state (At x))) (sym up)
          ∙ ap (next c state v (rises_of rises) x) (sym is)))));
      other = λ f. absurd (f k is);
    }

-- a signal whose domain doesn't rise, or that is none of a domain
pub held_next : (d : Design) (x rises : ℕ) (vals known : List ℤ) (z : ℤ) → x < length d.signals → Fits (shapes d x) (value_at vals x) → ((k : ℕ) (body : List StmtId) → drive d x ≡ signals.Sync k body → rises_of rises k ≡ false) → z ≡ value_at vals x → IsNextValue d x rises vals known z
unfolding drive
held_next d x rises vals known z lt fits down w = record {
  fits = subst (λ (k : ℤ). Fits (shapes d x) k) (sym w) fits;
  clocked = λ state v k r right are held.
      let c = circuit_of d in
      let no = down k (own d x (stmts_of k d.sync)) (ap (drive_by d x) r) in
      w ∙ (are x lt ∙ (sym held ∙ (ap (λ (b : Bool). cond b (risen c v (domain_at c k) x) (state (At x))) (sym no) ∙ ap (next c state v (rises_of rises) x) (sym r))));
  other = λ f. w;
}

-- a signal that no domain drives
pub other_next : (d : Design) (x rises : ℕ) (vals known : List ℤ) (g : signals.Drive) (z : ℤ) → x < length d.signals → Fits (shapes d x) (value_at vals x) → drive d x ≡ g → ((k : ℕ) (body : List StmtId) → g ≡ signals.Sync k body → ⊥) → z ≡ value_at vals x → IsNextValue d x rises vals known z
other_next d x rises vals known g z lt fits e none w = held_next d x rises vals known z lt fits (λ k body f. absurd (none k body (sym e ∙ f))) w

-- one of a domain that doesn't rise
pub idle_next : (d : Design) (x j rises : ℕ) (vals known : List ℤ) (ids : List StmtId) (z : ℤ) → x < length d.signals → Fits (shapes d x) (value_at vals x) → drive d x ≡ signals.Sync j ids → rises_of rises j ≡ false → z ≡ value_at vals x → IsNextValue d x rises vals known z
idle_next d x j rises vals known ids z lt fits e down w = held_next d x rises vals known z lt fits (λ k body f. subst (λ (i : ℕ). rises_of rises i ≡ false) (same_domain j k ids body (sym e ∙ f)) down) w
  where
    same_domain : (j k : ℕ) (ids body : List StmtId) → signals.Sync j ids ≡ signals.Sync k body → j ≡ k
    same_domain j k ids body f = cc

-- ---- all signals

-- the first n signals have their values
pub record AdvancesTo (p : Plan) (n rises : ℕ) (vals known next : List ℤ) : Type 0 where
  pub long : length next ≡ length p.design.signals
  pub each : (x : ℕ) → x < n → IsNextValue p.design x rises vals known (value_at next x)

pub none_advanced : (p : Plan) (rises : ℕ) (vals known next : List ℤ) → length next ≡ length p.design.signals → AdvancesTo p 0 rises vals known next
none_advanced p rises vals known next long = record { long = long; each = λ x l. absurd (omega arith) }

pub one_advanced : (p : Plan) (n rises : ℕ) (vals known next : List ℤ) (z : ℤ) → n < length next → AdvancesTo p n rises vals known next → IsNextValue p.design n rises vals known z → AdvancesTo p (n + 1) rises vals known (set next n z)
one_advanced p n rises vals known next z room to is = record {
  long = length-set next n z ∙ to.long;
  each = λ x l.
      elim (cases_eq x n) [
        | inl e ↦
            subst (λ (i : ℕ). IsNextValue p.design i rises vals known (value_at (set next n z) i)) (sym e)
            (subst (IsNextValue p.design n rises vals known) (sym (get_or-set_same next n z (pos 0) room)) is)
        | inr e ↦ subst (IsNextValue p.design x rises vals known) (sym (get_or-set_other next n x z (pos 0) e)) (to.each x (omega arith))
      ];
}
