-- What stands first where parts go an automaton's way.
use Rattle.std.proofs.Common.{◌≡◌, List, ℕ, None, refl, ap, subst}
use Rattle.lx_token.specs.declared.tokens.Token.{Token}
use Rattle.lx_grammar.specs.declared.grammar.Rule.{Rule}
use Rattle.lx_grammar.specs.declared.sign.Sign.{Sign}
use Rattle.lx_grammar.specs.Derives.{Tree, Grown, Parts, end, token, child, wrap}
use Rattle.lx_syntax.specs.Ast as ast
use Rattle.lx_syntax.specs.Convert.{expr, exprs, sign_of}
use Rattle.lx_formed.specs.Formed.{AreFormed, IsFormed}
use Rattle.lx_formed.proofs.Steps.{After, Good, Kind, Leads, State, Step, block, given, heading, index, making, order, part, plain, spot_, value, when_is, whole, word}

pub kid : (src : List ℕ) (wanted j : Kind) (t : Tree) (q : State) (k : State → Type 0) → Good src j t → After (when_is wanted j q) k → Good src wanted t × k q
kid src value value t q k g h = (g, h)
kid src index index t q k g h = (g, h)
kid src given given t q k g h = (g, h)
kid src block block t q k g h = (g, h)
kid src order order t q k g h = (g, h)
kid src spot_ spot_ t q k g h = (g, h)
kid src heading heading t q k g h = (g, h)
kid src making making t q k g h = (g, h)
kid src whole whole t q k g h = (g, h)
kid src _ _ t q k g h = absurd h

-- a node at the front
pub record Child (src : List ℕ) (wanted : Kind) (st : Step) (p : State) (ps : Parts) (k : State → Type 0) : Type 0 where
  pub tree : Tree
  pub rest : Parts
  pub is : ps ≡ child tree rest
  pub good : Good src wanted tree
  pub on : Leads src st p rest k

pub child_first : (src : List ℕ) (wanted : Kind) (st : Step) (q p : State) (ps : Parts) (k : State → Type 0) → ((s : Sign) → st q (word s) ≡ None) → ((j : Kind) → st q (part j) ≡ when_is wanted j p) → (k q → ⊥) → Leads src st q ps k → Child src wanted st p ps k
unfolding Leads
child_first src wanted st q p end k n e z h = absurd (z h)
child_first src wanted st q p (token x ps) k n e z h = absurd (subst (λ o. After o (λ r. Leads src st r ps k)) (n (plain (sign_of src x))) h)
child_first src wanted st q p (child t ps) k n e z h =
    let both = kid src wanted h.0 t p (λ r. Leads src st r ps k) h.1.0 (subst (λ o. After o (λ r. Leads src st r ps k)) (e h.0) h.1.1) in
    record { tree = t; rest = ps; is = refl; good = both.0; on = both.1 }

-- a token at the front
pub record Word (src : List ℕ) (st : Step) (q : State) (ps : Parts) (k : State → Type 0) : Type 0 where
  pub first : Token
  pub rest : Parts
  pub is : ps ≡ token first rest
  pub on : After (st q (word (plain (sign_of src first)))) (λ p. Leads src st p rest k)

pub word_first : (src : List ℕ) (st : Step) (q : State) (ps : Parts) (k : State → Type 0) → ((j : Kind) → st q (part j) ≡ None) → (k q → ⊥) → Leads src st q ps k → Word src st q ps k
unfolding Leads
word_first src st q end k n z h = absurd (z h)
word_first src st q (token x ps) k n z h = record { first = x; rest = ps; is = refl; on = h }
word_first src st q (child t ps) k n z h = absurd (subst (λ o. After o (λ r. Leads src st r ps k)) (n h.0) h.1.1)

pub over : (src : List ℕ) (st : Step) (q : State) (ps : Parts) (k : State → Type 0) → ((s : Sign) → st q (word s) ≡ None) → ((j : Kind) → st q (part j) ≡ None) → Leads src st q ps k → ps ≡ end
unfolding Leads
over src st q end k n m h = refl
over src st q (token x ps) k n m h = absurd (subst (λ o. After o (λ r. Leads src st r ps k)) (n (plain (sign_of src x))) h)
over src st q (child t ps) k n m h = absurd (subst (λ o. After o (λ r. Leads src st r ps k)) (m h.0) h.1.1)

-- ---- trees whose rule has a node of its own, or not

abbrev pub NotSole : Parts → Type 0
NotSole (child t end) = ⊥
NotSole _ = Unit {0}

pub wrapped : (P : Tree → Type 0) (r : Rule) (qs : Parts) → (NotSole qs → P (Grown r qs)) → ((t : Tree) → qs ≡ child t end → P t) → P (wrap r qs)
unfolding wrap
wrapped P r end f g = f tt
wrapped P r (token x ps) f g = f tt
wrapped P r (child t end) f g = g t refl
wrapped P r (child t (token x ps)) f g = f tt
wrapped P r (child t (child u ps)) f g = f tt

pub sole_end : (t : Tree) (ps : Parts) → NotSole (child t ps) → ps ≡ end → ⊥
sole_end t end h e = h
sole_end t (token x ps) h e = cc
sole_end t (child u ps) h e = cc

-- the only node, where one stands first
pub sole : (src : List ℕ) (wanted : Kind) (st : Step) (q p : State) (qs : Parts) (k : State → Type 0) (t : Tree) → ((j : Kind) → st q (part j) ≡ when_is wanted j p) → Leads src st q qs k → qs ≡ child t end → Good src wanted t × k p
unfolding Leads
sole src wanted st q p qs k t e h s =
    let l : Leads src st q (child t end) k = subst (λ z. Leads src st q z k) s h in
    kid src wanted l.0 t p k l.1.0 (subst (λ o. After o (λ r. Leads src st r end k)) (e l.0) l.1.1)

-- ---- one expression, two, and no more

pub no_exprs : (src : List ℕ) (ps : Parts) → ps ≡ end → exprs src ps ≡ ast.none
unfolding exprs
no_exprs src end e = refl
no_exprs src (token x ps) e = absurd (cc)
no_exprs src (child t ps) e = absurd (cc)

pub one_expr : (src : List ℕ) (t : Tree) (ps : Parts) → exprs src ps ≡ ast.none → exprs src (child t ps) ≡ ast.more (expr src t) ast.none
unfolding exprs
one_expr src t ps e = ap (ast.more (expr src t)) e

pub token_exprs : (src : List ℕ) (x : Token) (ps : Parts) → exprs src (token x ps) ≡ exprs src ps
unfolding exprs
token_exprs src x ps = refl

pub both_formed : (e : ast.Expr) (es : ast.Exprs) → IsFormed e → AreFormed es → AreFormed (ast.more e es)
unfolding AreFormed
both_formed e es f g = (f, g)

pub none_formed : AreFormed ast.none
unfolding AreFormed
none_formed = tt
