-- Walks and cycles of a relation between numbers, and the cycle that is told.
use Rattle.std.specs.Prelude.{◌≡◌, ℕ, zero, suc, ◌<◌, ◌≤◌, List, [], ◌∷◌, length}

-- a walk of so many links from a to b
abbrev pub Walk : (ℕ → ℕ → Type 0) → ℕ → ℕ → ℕ → Type 0
Walk R a b zero = a ≡ b
Walk R a b (suc n) = (c : ℕ) × R a c × Walk R c b n

-- a lies on a cycle
abbrev pub OnCycle : (ℕ → ℕ → Type 0) → ℕ → Type 0
OnCycle R a = (n : ℕ) × Walk R a a (suc n)

-- a is linked to c, and c is the lowest of those to which a is linked and from which a walk of so many links leads to t
pub record IsLink (R : ℕ → ℕ → Type 0) (t a c links : ℕ) : Type 0 where
  pub link : R a c
  pub lowest : (b : ℕ) → R a b → Walk R b t links → c ≤ b

-- from a over these and back to t; each is the lowest from which as many links lead to t
abbrev pub IsWayBack : (ℕ → ℕ → Type 0) → ℕ → ℕ → List ℕ → Type 0
IsWayBack R t a [] = R a t
IsWayBack R t a (c ∷ others) = IsLink R t a c (suc (length others)) × IsWayBack R t c others

-- the cycle of t and these: no lower number lies on a cycle, it is a shortest cycle of t, and each link goes to the
-- lowest number that still closes a shortest cycle
pub record IsToldFrom (R : ℕ → ℕ → Type 0) (t : ℕ) (others : List ℕ) : Type 0 where
  pub cycle : IsWayBack R t t others
  pub shortest : (n : ℕ) → Walk R t t (suc n) → length others ≤ n
  pub first : (a : ℕ) → a < t → OnCycle R a → ⊥

-- the cycle that is told, from its first number on
abbrev pub IsTold : (ℕ → ℕ → Type 0) → List ℕ → Type 0
IsTold R [] = ⊥
IsTold R (t ∷ others) = IsToldFrom R t others
