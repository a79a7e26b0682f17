-- The test that what stands ahead picks the right row everywhere.
use Rattle.std.proofs.Common.{ℕ, Bool, true, false, ◌&&◌, ◌||◌, ◌+◌, ◌-◌, nat_eq, nat_lt, List, [], ◌∷◌, length, if◌then◌else◌, not}
use Rattle.lx_grammar.specs.declared.grammar.Spot.{Spot}
use Rattle.lx_grammar.specs.declared.grammar.Symbol.{Symbol}
use Rattle.lx_grammar.specs.declared.grammar.Symbol.TheVariants as symbol
use Rattle.lx_grammar.specs.declared.sign.TheConstants.{OPENING, CLOSING, LOUD}
use Rattle.lx_grammar.specs.Numbers.{number, accepts}
use Rattle.lx_grammar.specs.Grammar.{rules}
use Rattle.lx_grammar.specs.Pick.{pick, is_far}
use Rattle.lx_grammar.specs.Ahead.{mark}
use Rattle.lx_grammar.proofs.Tables.{starts, follow, hush}
use Rattle.lx_grammar.proofs.Checks.{imp, every, some}

unfoldable pub within : (ℕ → Bool) → (ℕ → Bool) → Bool
within p q = every 61 (λ k. imp (p k) (q k))

-- signs that do not change with what stands behind them
unfoldable pub plain : ℕ → Bool
plain w = nat_lt 2 w && (not (nat_eq w 53) && not (nat_eq w 54))

-- what a token that is taken for w looks like before g
unfoldable pub gives : ℕ → ℕ → ℕ → Bool
gives w g k = nat_eq k (mark w g) || nat_eq w 0 && (nat_eq k (mark 1 g) || nat_eq k (mark 2 g))

unfoldable pub marks : ℕ → (ℕ → Bool) → ℕ → Bool
marks w G k = if plain w then nat_eq k w else some 61 (λ g. G g && gives w g k)

-- the signs that a row may begin with, where F may follow it
unfoldable pub predict : (ℕ → Bool) → List Symbol → ℕ → Bool
predict F [] k = F k
predict F (symbol.Token s ∷ α) k = marks (number s) (predict F α) k
predict F (symbol.Node r ∷ α) k = accepts (starts r) k
predict F (symbol.One r ∷ α) k = accepts (starts r) k
predict F (symbol.Maybe r ∷ α) k = accepts (starts r) k || predict F α k
predict F (symbol.Many r ∷ α) k = accepts (starts r) k || predict F α k

-- no row of this group is picked by what may stand behind the group
unfoldable pub passes_by : Spot → (ℕ → Bool) → Bool
passes_by r G = not (is_far r) && every 61 (λ k. imp (G k) (not (nat_lt (pick r k) (length (rules r)))))

unfoldable pub fits : (ℕ → Bool) → List Symbol → Bool
fits F [] = true
fits F (symbol.Token s ∷ α) = fits F α
fits F (symbol.Node r ∷ α) = within (predict F α) (accepts (follow r)) && fits F α
fits F (symbol.One r ∷ α) = within (predict F α) (accepts (follow r)) && fits F α
fits F (symbol.Maybe r ∷ α) = within (predict F α) (accepts (follow r)) && (passes_by r (predict F α) && fits F α)
fits F (symbol.Many r ∷ α) = within (predict F (symbol.Many r ∷ α)) (accepts (follow r)) && (passes_by r (predict F α) && fits F α)

-- tokens at which the look far ahead ends
unfoldable pub tells : ℕ → Bool
tells k = accepts CLOSING k || accepts LOUD k

-- what the look far ahead may end at, from the begin of a row
unfoldable pub rings : (ℕ → Bool) → List Symbol → ℕ → Bool
rings F [] k = F k
rings F (symbol.Token s ∷ α) k = nat_eq k (number s)
rings F (symbol.Node r ∷ α) k = rings F α k
rings F (symbol.One r ∷ α) k = rings F α k
rings F (symbol.Maybe r ∷ α) k = rings F α k
rings F (symbol.Many r ∷ α) k = rings F α k

unfoldable pub audible : (ℕ → Bool) → List Symbol → Bool
audible F [] = within F tells
audible F (symbol.Token s ∷ α) = tells (number s)
audible F (symbol.Node r ∷ α) = nat_eq (hush r) 0 && audible F α
audible F (symbol.One r ∷ α) = nat_eq (hush r) 0 && audible F α
audible F (symbol.Maybe r ∷ α) = nat_eq (hush r) 0 && audible F α
audible F (symbol.Many r ∷ α) = nat_eq (hush r) 0 && audible F α

-- a row's brackets are balanced, and outside h brackets it shows no token at which the look ends; d are open
abbrev pub still_token : Bool → Bool → Bool → ℕ → ℕ → (ℕ → Bool) → Bool
still_token true cl lo h d next = next (d + 1)
still_token false true lo h d next = nat_lt 0 d && next (d - 1)
still_token false false lo h d next = (nat_lt 0 (h + d) || not lo) && next d

unfoldable pub still : ℕ → List Symbol → ℕ → Bool
still h [] d = nat_eq d 0
still h (symbol.Token s ∷ α) d = still_token (accepts OPENING (number s)) (accepts CLOSING (number s)) (accepts LOUD (number s)) h d (still h α)
still h (symbol.Node r ∷ α) d = not (nat_lt (h + d) (hush r)) && still h α d
still h (symbol.One r ∷ α) d = not (nat_lt (h + d) (hush r)) && still h α d
still h (symbol.Maybe r ∷ α) d = not (nat_lt (h + d) (hush r)) && still h α d
still h (symbol.Many r ∷ α) d = not (nat_lt (h + d) (hush r)) && still h α d

unfoldable pub picked_near : Spot → ℕ → List Symbol → Bool
picked_near r i α = every 61 (λ k. imp (predict (accepts (follow r)) α k) (nat_eq (pick r k) i))

unfoldable pub picked_far : Spot → ℕ → List Symbol → Bool
picked_far r i α = audible (accepts (follow r)) α && every 61 (λ k. imp (rings (accepts (follow r)) α k) (nat_eq (pick r k) i))

unfoldable pub row_fits : Spot → ℕ → List Symbol → Bool
row_fits r i α = (if is_far r then picked_far r i α else picked_near r i α) && (within (predict (accepts (follow r)) α) (accepts (starts r)) && (fits (accepts (follow r)) α && still (hush r) α 0))
