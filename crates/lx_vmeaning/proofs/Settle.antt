-- A module without a loop settles in exactly one way: round after round of the drivers, a net of rank k
-- stays as it is from round k + 1 on.
use Rattle.std.proofs.Common.{◌≡◌, ℕ, ◌+◌, ◌-◌, ◌<◌, refl, sym, ◌∙◌, ap, zero, suc, arith}
use Rattle.std.proofs.Math.Path.{fun_ext}
use Rattle.lx_vtext.specs.Tree.{Name, VModule}
use Rattle.lx_vmeaning.specs.Meaning.{Valuation}
use Rattle.lx_vmeaning.specs.Runs.{driver, by_driver, IsVSettled}
use Rattle.lx_vmeaning.specs.Loops.{HasNoLoop}
use Rattle.lx_vmeaning.specs.Settling.{VSettlesOnce}
use Rattle.lx_vmeaning.proofs.Frames.{by_driver_same}

-- patterns of nets beside the words of a state
abbrev pub with_words : (Name → ℕ) → Valuation → Valuation
with_words nets state = record { nets = nets; words = state.words }

-- the patterns after so many rounds
abbrev pub rounds : VModule → Valuation → (Name → ℕ) → ℕ → Name → ℕ
rounds m state inputs zero = λ n. 0
rounds m state inputs (suc i) = λ n. by_driver m state inputs (with_words (rounds m state inputs i) state) n (driver m n)

abbrev pub round : VModule → Valuation → (Name → ℕ) → ℕ → Valuation
round m state inputs i = with_words (rounds m state inputs i) state

stable : (m : VModule) (o : HasNoLoop m) (state : Valuation) (inputs : Name → ℕ) (i : ℕ) (n : Name) → o.rank n < i → rounds m state inputs i n ≡ rounds m state inputs (suc i) n
stable m o state inputs zero n h = absurd (omega arith)
stable m o state inputs (suc i) n h =
    by_driver_same m state inputs (round m state inputs i) (round m state inputs (suc i)) n (driver m n)
    (λ k r. let below : o.rank k < o.rank n = o.falls n k r in stable m o state inputs i k (omega arith)) refl

-- from its round on a net stays
stays : (m : VModule) (o : HasNoLoop m) (state : Valuation) (inputs : Name → ℕ) (k : ℕ) (n : Name) → rounds m state inputs (k + suc (o.rank n)) n ≡ rounds m state inputs (suc (o.rank n)) n
stays m o state inputs zero n = ap (λ i. rounds m state inputs i n) (let e : 0 + suc (o.rank n) ≡ suc (o.rank n) = omega arith in e)
stays m o state inputs (suc k) n =
    ap (λ i. rounds m state inputs i n) (let e : suc k + suc (o.rank n) ≡ suc (k + suc (o.rank n)) = omega arith in e)
    ∙ (sym (stable m o state inputs (k + suc (o.rank n)) n (omega arith)) ∙ stays m o state inputs k n)

abbrev pub reached : (m : VModule) → HasNoLoop m → Valuation → (Name → ℕ) → Valuation
reached m o state inputs = with_words (λ n. rounds m state inputs (suc (o.rank n)) n) state

late : (m : VModule) (o : HasNoLoop m) (state : Valuation) (inputs : Name → ℕ) (i : ℕ) (n : Name) → o.rank n < i → rounds m state inputs i n ≡ (reached m o state inputs).nets n
late m o state inputs i n h =
    ap (λ j. rounds m state inputs j n) (let e : i ≡ (i - suc (o.rank n)) + suc (o.rank n) = omega arith in e) ∙ stays m o state inputs (i - suc (o.rank n)) n

pub reached_settled : (m : VModule) (o : HasNoLoop m) (state : Valuation) (inputs : Name → ℕ) → IsVSettled m state inputs (reached m o state inputs)
reached_settled m o state inputs = record {
  nets = λ n. by_driver_same m state inputs (round m state inputs (o.rank n)) (reached m o state inputs) n (driver m n) (λ k r. late m o state inputs (o.rank n) k (o.falls n k r)) refl;
  words = λ n k. refl;
}

same_words : (m : VModule) (state : Valuation) (inputs : Name → ℕ) (v u : Valuation) → IsVSettled m state inputs v → IsVSettled m state inputs u → v.words ≡ u.words
same_words m state inputs v u p q = fun_ext (λ n. fun_ext (λ k. p.words n k ∙ sym (q.words n k)))

-- two settled valuations agree, from the lowest rank on
agree_below : (m : VModule) (o : HasNoLoop m) (state : Valuation) (inputs : Name → ℕ) (v u : Valuation) → IsVSettled m state inputs v → IsVSettled m state inputs u → (i : ℕ) (n : Name) → o.rank n < i → v.nets n ≡ u.nets n
agree_below m o state inputs v u p q zero n h = absurd (omega arith)
agree_below m o state inputs v u p q (suc i) n h =
    p.nets n ∙ (by_driver_same m state inputs v u n (driver m n) (λ k r. let below : o.rank k < o.rank n = o.falls n k r in agree_below m o state inputs v u p q i k (omega arith)) (same_words m state inputs v u p q)
    ∙ sym (q.nets n))

pub settles_once : (m : VModule) → HasNoLoop m → (state : Valuation) (inputs : Name → ℕ) → VSettlesOnce m state inputs
settles_once m o state inputs = record {
  values = reached m o state inputs;
  settled = reached_settled m o state inputs;
  only = λ v p. record {
    nets = λ n. agree_below m o state inputs v (reached m o state inputs) p (reached_settled m o state inputs) (suc (o.rank n)) n (omega arith);
    words = p.words;
  };
}
