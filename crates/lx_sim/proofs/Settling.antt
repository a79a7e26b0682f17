-- A moment settles, from place to place of the order.
use Rattle.std.proofs.Common.{◌≡◌, ℕ, true, false, ◌+◌, ◌<◌, List, length, set, refl, sym, ◌∙◌, ap, subst, arith, inl, inr, get_or-set_same, get_or-set_other, length-set}
use Rattle.std.specs.Prelude.{ℤ, Option, Some, slice_get}
use Rattle.std.proofs.lemmas.Bool.{cases_lt, cases_eq, lt-ltb, ltb-true}
use Rattle.lx_num.specs.Ints.{Fits}
use Rattle.lx_circuit.specs.Places.{Values, At}
use Rattle.lx_circuit.specs.Circuit as circuit
use Rattle.lx_circuit.specs.Circuit.{IsSettled, Role, by_role, made, role}
use Rattle.lx_circuit.proofs.Cases.{by_test}
use Rattle.lx_fhdl.specs.Designs.{circuit_of, shapes}
use Rattle.lx_fhdl.specs.Nodes.{value_at}
use Rattle.lx_sim.specs.Blocks.{AreRight}
use Rattle.lx_sim.specs.Evaluating.{Evaluates, IsCombValue}
use Rattle.lx_sim.specs.Moments.{AreValues}
use Rattle.lx_sim.specs.Orders.{HasBuckets, is_before, place_of}
use Rattle.lx_sim.specs.Plans.{IsPlan}
use Rattle.lx_sim.specs.Settled.{AllFit, AreSourced, HaveSettled, Settles, is_comb}
use Rattle.lx_sim.specs.Settling.{IsKeptTo, MovesOn, RightTo, SettledTo, SignalsTo}
use Rattle.lx_sim.specs.Words.{AreWords}
use Rattle.lx_sim.specs.declared.plan.Plan.{Plan}
use Rattle.lx_sim.proofs.Naming.{named_there}
use Rattle.lx_sim.proofs.Rightness.{bucket_right}

comb_role : (r : Role) → is_comb r ≡ true → r ≡ circuit.Comb
comb_role circuit.Comb e = refl
comb_role circuit.Input e = absurd cc
comb_role (circuit.Sync d) e = absurd cc
comb_role (circuit.Read j) e = absurd cc
comb_role circuit.Undriven e = absurd cc

other_role : (r : Role) → is_comb r ≡ false → r ≡ circuit.Comb → ⊥
other_role circuit.Comb e f = absurd cc
other_role circuit.Input e f = absurd cc
other_role (circuit.Sync d) e f = absurd cc
other_role (circuit.Read j) e f = absurd cc
other_role circuit.Undriven e f = absurd cc

-- at the start the sources alone have their values
pub settled_start : (p : Plan) (b : HasBuckets p.design p.order p.buckets) (v : Values) (vals known : List ℤ) → AreSourced p.design v vals → SettledTo p b v 0 vals known
settled_start p b v vals known sourced = record {
  signals = λ y l before. by_test (is_comb (role (circuit_of p.design) y)) (λ e. absurd (let q = before e in omega arith)) (λ e. sourced.each y l e);
  exprs = λ k l less. absurd (omega arith);
}

-- the signals at earlier places
signals_to : (p : Plan) (b : HasBuckets p.design p.order p.buckets) (v : Values) (n : ℕ) (vals known : List ℤ) → SettledTo p b v n vals known → SignalsTo p.design v b.places n vals
signals_to p b v n vals known to = λ y l less. to.signals y l (λ e. less)

-- expressions that name earlier signals alone have their values
right_before : (p : Plan) (b : HasBuckets p.design p.order p.buckets) (v : Values) (n : ℕ) (known : List ℤ) → RightTo p.design v b.ranks (n + 1) known → AreRight p.design v known (is_before b.places n)
right_before p b v n known right = record {
  each = λ k l named.
      let most = (b.ranked.each k l).least n (λ y e. ltb-true (place_of b.places y) n (named y e)) in
      right k l (omega (arith, most));
}

pub place_settles : (p : Plan) (n x : ℕ) (bucket : List ℕ) (vals : List ℤ) (words : List (List ℤ)) (old known : List ℤ) (z : ℤ) → IsPlan p → slice_get p.order n ≡ Some x → slice_get p.buckets n ≡ Some bucket
    → Evaluates p bucket vals words old known → IsCombValue p.design x vals known z → MovesOn p n words vals old (set vals x z) known
unfolding circuit_of
place_settles p n x bucket vals words old known z plan at found ev one =
    let within = plan.below n x at in
    let room : x < length vals = (let q = ev.fit.signals in omega (arith, within)) in
    record {
      fit = record {
        signals = length-set vals x z ∙ ev.fit.signals;
        signals_fit = λ y l.
            elim (cases_eq y x) [
              | inl e ↦ subst (λ (i : ℕ). Fits (shapes p.design i) (value_at (set vals x z) i)) (sym e) (subst (λ (q : ℤ). Fits (shapes p.design x) q) (sym (get_or-set_same vals x z _ room)) one.fits)
              | inr e ↦ subst (λ (q : ℤ). Fits (shapes p.design y) q) (sym (get_or-set_other vals x y z _ e)) (ev.fit.signals_fit y l)
            ];
        exprs = ev.fit.exprs;
        exprs_fit = ev.fit.exprs_fit;
      };
      is = λ b state inputs v settled right_words to.
          let right = bucket_right p v b.places b.ranks bucket n vals words old known plan right_words b.ranked (b.stand.each n bucket found) ev (signals_to p b v n vals old to) to.exprs in
          record {
            signals = λ y l before.
                elim (cases_eq y x) [
                  | inl e ↦
                      subst (λ (i : ℕ). value_at (set vals x z) i ≡ v (At i)) (sym e)
                      (get_or-set_same vals x z _ room
                      ∙ by_test (is_comb (role (circuit_of p.design) x))
                      (λ c.
                      let same = comb_role (role (circuit_of p.design) x) c in
                      one.comb v (is_before b.places n) same (right_before p b v n known right)
                      (λ i r. lt-ltb (place_of b.places i) n (let q = b.placed.after x i within r in let w = b.placed.only n x at in omega (arith, q, w)))
                      ∙ sym (settled.each (At x) ∙ ap (by_role (circuit_of p.design) state inputs v x) same))
                      (λ c. one.other (other_role (role (circuit_of p.design) x) c) ∙ to.signals x within (λ d. absurd (let f : true ≡ false = sym d ∙ c in cc))))
                  | inr e ↦
                      get_or-set_other vals x y z _ e
                      ∙ to.signals y l (λ c.
                      let less = before c in
                      elim (cases_lt (place_of b.places y) n) [
                        | inl q ↦ q
                        | inr q ↦
                            let here : place_of b.places y ≡ n = omega arith in
                            absurd (e (same_item y x (slice_get p.order n) (ap (slice_get p.order) (sym here) ∙ b.placed.there y l) at))
                      ])
                ];
            exprs = right;
          };
      kept = λ b kept v right_words to.
          let before : SignalsTo p.design v b.places n vals = λ y l less.
          sym (get_or-set_other vals x y z _ (λ e. (let w = b.placed.only n x at in let q : place_of b.places y ≡ place_of b.places x = ap (place_of b.places) e in absurd (omega (arith, w, q, less))))) ∙ to y l (omega arith) in
          bucket_right p v b.places b.ranks bucket n vals words old known plan right_words b.ranked (b.stand.each n bucket found) ev before (kept v right_words before);
    }
  where
    same_item : (i j : ℕ) (o : Option ℕ) → o ≡ Some i → o ≡ Some j → i ≡ j
    same_item i j o e f = cc

-- behind the last place all have their values
pub settled_end : (p : Plan) (bucket : List ℕ) (vals : List ℤ) (words : List (List ℤ)) (old known : List ℤ) (b : HasBuckets p.design p.order p.buckets) (v : Values) → IsPlan p → AreWords words v → slice_get p.buckets (length p.order) ≡ Some bucket → Evaluates p bucket vals words old known
    → SettledTo p b v (length p.order) vals old → HaveSettled p.design v vals known
settled_end p bucket vals words old known b v plan right_words found ev to =
    let n = length p.order in
    let right = bucket_right p v b.places b.ranks bucket n vals words old known plan right_words b.ranked (b.stand.each n bucket found) ev (signals_to p b v n vals old to) to.exprs in
    record {
      signals = record { each = λ y l. to.signals y l (λ e. b.placed.within y l) };
      exprs = record {
        each = λ k l named.
            let most = (b.ranked.each k l).least n (λ y e. b.placed.within y (named_there p.design plan.keeps k l y e)) in
            right k l (omega (arith, most));
      };
    }

pub known_end : (p : Plan) (bucket : List ℕ) (vals : List ℤ) (words : List (List ℤ)) (old known : List ℤ) (b : HasBuckets p.design p.order p.buckets) (v : Values) → IsPlan p → AreWords words v → slice_get p.buckets (length p.order) ≡ Some bucket → Evaluates p bucket vals words old known
    → IsKeptTo p b (length p.order) words vals old → AreValues p.design vals v → AreRight p.design v known (λ y. true)
known_end p bucket vals words old known b v plan right_words found ev kept are =
    let n = length p.order in
    let to : SignalsTo p.design v b.places n vals = λ y l less. are.each y l in
    let right = bucket_right p v b.places b.ranks bucket n vals words old known plan right_words b.ranked (b.stand.each n bucket found) ev to (kept v right_words to) in
    record {
      each = λ k l named.
          let most = (b.ranked.each k l).least n (λ y e. b.placed.within y (named_there p.design plan.keeps k l y e)) in
          right k l (omega (arith, most));
    }

-- ---- all places

-- the first n places have settled
pub record SettlesTo (p : Plan) (n : ℕ) (words : List (List ℤ)) (old vals known : List ℤ) : Type 0 where
  pub fit : AllFit p vals known
  pub is : (b : HasBuckets p.design p.order p.buckets) (state inputs v : Values) → IsSettled (circuit_of p.design) state inputs v → AreSourced p.design v old → AreWords words v → SettledTo p b v n vals known
  pub kept : (b : HasBuckets p.design p.order p.buckets) → IsKeptTo p b n words vals known

pub settles_none : (p : Plan) (words : List (List ℤ)) (old known : List ℤ) → AllFit p old known → SettlesTo p 0 words old old known
settles_none p words old known fit = record {
  fit = fit;
  is = λ b state inputs v settled sourced right. settled_start p b v old known sourced;
  kept = λ b v right to k l less. absurd (omega arith);
}

pub settles_more : (p : Plan) (n : ℕ) (words : List (List ℤ)) (old vals known later again : List ℤ) → SettlesTo p n words old vals known → MovesOn p n words vals known later again → SettlesTo p (n + 1) words old later again
settles_more p n words old vals known later again to on = record {
  fit = on.fit;
  is = λ b state inputs v settled sourced right. on.is b state inputs v settled right (to.is b state inputs v settled sourced right);
  kept = λ b. on.kept b (to.kept b);
}

pub settles_last : (p : Plan) (n : ℕ) (words : List (List ℤ)) (old vals known : List ℤ) → n ≡ length p.order → SettlesTo p n words old vals known → SettlesTo p (length p.order) words old vals known
settles_last p n words old vals known e to = subst (λ (k : ℕ). SettlesTo p k words old vals known) e to

pub settles_all : (p : Plan) (bucket : List ℕ) (words : List (List ℤ)) (old vals known again : List ℤ) → IsPlan p → slice_get p.buckets (length p.order) ≡ Some bucket → SettlesTo p (length p.order) words old vals known
    → Evaluates p bucket vals words known again → Settles p words old vals again
settles_all p bucket words old vals known again plan found to ev = record {
  fit = ev.fit;
  is = λ state inputs v settled sourced right. settled_end p bucket vals words known again plan.buckets v plan right found ev (to.is plan.buckets state inputs v settled sourced right);
  right = λ v are right. known_end p bucket vals words known again plan.buckets v plan right found ev (to.kept plan.buckets) are;
}
