-- Graphs worked by hand.
use Rattle.std.proofs.Common.{◌≡◌, ℕ, zero, suc, ◌<◌, ◌≤◌, ◌⊎◌, inl, inr, List, [], ◌∷◌, refl, subst, arith}
use Rattle.std.specs.List.{Contains}
use Rattle.lx_graph.specs.Graph.{Reads}
use Rattle.lx_graph.specs.Cycle.{Walk}
use Rattle.lx_graph.specs.Through.{Within}
use Rattle.lx_graph.specs.Worked.{fork, line, AreWorked}
use Rattle.lx_graph.proofs.Rows.{none_in, contains_cons}

-- what a row of one node has
only : (x b : ℕ) → Contains (x ∷ []) b → x ≡ b
only x b h = elim (contains_cons x [] b h) [ inl e ↦ e | inr none ↦ absurd (none_in b none) ]

head_in : (x : ℕ) (xs : List ℕ) → Contains (x ∷ xs) x
head_in x xs = (0, omega arith, refl)

tail_in : (x : ℕ) (xs : List ℕ) (b : ℕ) → Contains xs b → Contains (x ∷ xs) b
tail_in x xs b (k, l, e) = (suc k, omega arith, e)

forks : (b : ℕ) → Reads fork 0 b → (1 ≡ b) ⊎ (2 ≡ b)
forks b h = elim (contains_cons 1 (2 ∷ []) b h) [ inl e ↦ inl e | inr later ↦ inr (only 2 b later) ]

no_loop : (n : ℕ) → Walk (Reads fork) 0 0 (suc n) → 1 ≤ n
no_loop zero (c, reads, e) = elim (forks c reads) [ inl one ↦ absurd (omega arith) | inr two ↦ absurd (omega arith) ]
no_loop (suc n) w = omega arith

no_way_on : (b : ℕ) → Reads line 1 b → ⊥
no_way_on b h = none_in b h

not_back : (k : ℕ) → Within line 1 0 k → ⊥
not_back zero h = none_in 0 h
not_back (suc k) (c, inner, reads, within) = none_in c reads

stands_all : (a : ℕ) → a < 3 → Contains (1 ∷ 2 ∷ 0 ∷ []) a
stands_all zero l = (2, omega arith, refl)
stands_all (suc zero) l = (0, omega arith, refl)
stands_all (suc (suc zero)) l = (1, omega arith, refl)
stands_all (suc (suc (suc a))) l = absurd (omega arith)

pub worked : AreWorked
worked = record {
  told = record {
    cycle = (
      record {
        link = head_in 1 (2 ∷ []);
        lowest = λ b reads _. elim (forks b reads) [ inl e ↦ omega arith | inr e ↦ omega arith ];
      },
      head_in 0 [],
    );
    shortest = no_loop;
    first = λ a l _. absurd (omega arith);
  };
  later_link = λ t. absurd (omega (arith, t.cycle.0.lowest 1 (head_in 1 (2 ∷ [])) (0, head_in 0 [], refl)));
  later_start = λ t. t.first 0 (omega arith) (1, (1, head_in 1 (2 ∷ []), (0, head_in 0 [], refl)));
  longer = λ t. absurd (omega (arith, t.shortest 1 (1, head_in 1 (2 ∷ []), (0, head_in 0 [], refl))));
  through = (omega arith, omega arith, (1, (2, omega arith, head_in 2 [], head_in 1 [])));
  not_back = λ l. not_back l.2.0 l.2.1;
  not_inner = λ l. absurd (omega (arith, l.1));
  ordered = record {
    all = stands_all;
    turns = (
      record { node = omega arith; once = none_in 1; reads = λ b h. absurd (none_in b h) },
      (
        record { node = omega arith; once = λ h. absurd (omega (arith, only 1 2 h)); reads = λ b h. subst (λ (v : ℕ). Contains (1 ∷ []) v) (only 1 b h) (head_in 1 []) },
        (
          record {
            node = omega arith;
            once = λ h. elim (contains_cons 1 (2 ∷ []) 0 h) [ inl e ↦ absurd (omega arith) | inr later ↦ absurd (omega (arith, only 2 0 later)) ];
            reads = λ b h. subst (λ (v : ℕ). Contains (1 ∷ 2 ∷ []) v) (only 2 b h) (tail_in 1 (2 ∷ []) 2 (head_in 2 []));
          },
          tt,
        ),
      ),
    );
  };
  before_its_read = λ o. none_in 1 (o.turns.0.reads 1 (head_in 1 []));
  twice = λ o. o.turns.1.1.1.0.once (head_in 1 (2 ∷ 0 ∷ []));
  not_all = λ o. elim (contains_cons 1 (2 ∷ []) 0 (o.all 0 (omega arith))) [ inl e ↦ absurd (omega arith) | inr later ↦ absurd (omega (arith, only 2 0 later)) ];
}
