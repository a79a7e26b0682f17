-- What each step does to the trees that reading on gives.
use Rattle.std.proofs.Common.{ℕ, true, false, ◌≡◌, ◌++◌, List, [], ◌∷◌, refl, sym, ap, ◌∙◌, subst, slice_get, Option, Some, None}
use Rattle.lx_token.specs.declared.tokens.Token.{Token}
use Rattle.lx_grammar.specs.declared.sign.Item.{Item}
use Rattle.lx_grammar.specs.declared.sign.Sign.{Sign}
use Rattle.lx_grammar.specs.declared.grammar.Spot.{Spot}
use Rattle.lx_grammar.specs.declared.grammar.Symbol.{Symbol}
use Rattle.lx_grammar.specs.declared.grammar.Symbol.TheVariants as symbol
use Rattle.lx_grammar.specs.Numbers.{number}
use Rattle.lx_grammar.specs.Grammar.{rules}
use Rattle.lx_grammar.specs.Pick.{pick}
use Rattle.lx_grammar.specs.Ahead.{view}
use Rattle.lx_grammar.specs.Derives.{Tree, Parts, end, token, child, joined, wrap, label, takes}
use Rattle.lx_grammar.specs.Reads.{Reads, done, took, opened, inlined, skipped, given, ended, again}
use Rattle.lx_pytree.specs.declared.machine.Step.{Step}
use Rattle.lx_pytree.specs.declared.machine.Open.{Open}
use Rattle.lx_pytree.specs.Trees.{plants}
use Rattle.lx_pytree.specs.Machine.{upto, after, Gets, Ends}

pub joined_end : (ps : Parts) → joined ps end ≡ ps
unfolding joined
joined_end end = refl
joined_end (token x ps) = ap (λ qs. token x qs) (joined_end ps)
joined_end (child t ps) = ap (λ qs. child t qs) (joined_end ps)

pub joined_assoc : (ps qs rs : Parts) → joined (joined ps qs) rs ≡ joined ps (joined qs rs)
unfolding joined
joined_assoc end qs rs = refl
joined_assoc (token x ps) qs rs = ap (λ k. token x k) (joined_assoc ps qs rs)
joined_assoc (child t ps) qs rs = ap (λ k. child t k) (joined_assoc ps qs rs)

pub joined_token : (ps qs : Parts) (x : Token) → joined (joined ps (token x end)) qs ≡ joined ps (token x qs)
unfolding joined
joined_token ps qs x = joined_assoc ps (token x end) qs

pub joined_child : (ps qs : Parts) (t : Tree) → joined (joined ps (child t end)) qs ≡ joined ps (child t qs)
unfolding joined
joined_child ps qs t = joined_assoc ps (child t end) qs

-- a row and what stands behind it
pub record Split (β α : List Symbol) (l m : List Item) (rs : Parts) : Type 0 where
  pub between : List Item
  pub first : Parts
  pub second : Parts
  pub reads : Reads β l between first
  pub then_reads : Reads α between m second
  pub are : rs ≡ joined first second

pub split : {γ : List Symbol} {l m : List Item} {rs : Parts} → Reads γ l m rs → (β α : List Symbol) → γ ≡ β ++ α → Split β α l m rs
unfolding joined
split {l = l} {m = m} {rs = rs} d [] α e = record { between = l; first = end; second = rs; reads = done; then_reads = subst (λ g. Reads g l m rs) e d; are = refl }
split done (σ ∷ β) α e = cc
split {m = m} (took {s = s} {x = x} {l = l} {ps = ps} t d) (σ ∷ β) α e =
    let same : symbol.Token s ≡ σ = cc in
    let r : Split β α l m ps = split d β α (cc) in
    record { between = r.between; first = token x.token r.first; second = r.second; reads = subst (λ τ. Reads (τ ∷ β) (x ∷ l) r.between (token x.token r.first)) same (took t r.reads); then_reads = r.then_reads; are = ap (λ k. token x.token k) r.are }
split {l = l} {m = m} (opened {r = s} {k = k} {qs = qs} {ps = ps} t f d) (σ ∷ β) α e =
    let same : symbol.Node s ≡ σ = cc in
    let r : Split β α k m ps = split d β α (cc) in
    record { between = r.between; first = child (wrap (label s) qs) r.first; second = r.second; reads = subst (λ τ. Reads (τ ∷ β) l r.between (child (wrap (label s) qs) r.first)) same (opened t f r.reads); then_reads = r.then_reads; are = ap (λ j. child (wrap (label s) qs) j) r.are }
split {l = l} {m = m} (inlined {r = s} {k = k} {qs = qs} {ps = ps} t f d) (σ ∷ β) α e =
    let same : symbol.One s ≡ σ = cc in
    let r : Split β α k m ps = split d β α (cc) in
    record { between = r.between; first = joined qs r.first; second = r.second; reads = subst (λ τ. Reads (τ ∷ β) l r.between (joined qs r.first)) same (inlined t f r.reads); then_reads = r.then_reads; are = ap (λ j. joined qs j) r.are ∙ sym (joined_assoc qs r.first r.second) }
split {l = l} {m = m} (skipped {r = s} {ps = ps} t d) (σ ∷ β) α e =
    let same : symbol.Maybe s ≡ σ = cc in
    let r : Split β α l m ps = split d β α (cc) in
    record { between = r.between; first = r.first; second = r.second; reads = subst (λ τ. Reads (τ ∷ β) l r.between (r.first)) same (skipped t r.reads); then_reads = r.then_reads; are = r.are }
split {l = l} {m = m} (given {r = s} {k = k} {qs = qs} {ps = ps} t f d) (σ ∷ β) α e =
    let same : symbol.Maybe s ≡ σ = cc in
    let r : Split β α k m ps = split d β α (cc) in
    record { between = r.between; first = joined qs r.first; second = r.second; reads = subst (λ τ. Reads (τ ∷ β) l r.between (joined qs r.first)) same (given t f r.reads); then_reads = r.then_reads; are = ap (λ j. joined qs j) r.are ∙ sym (joined_assoc qs r.first r.second) }
split {l = l} {m = m} (ended {r = s} {ps = ps} t d) (σ ∷ β) α e =
    let same : symbol.Many s ≡ σ = cc in
    let r : Split β α l m ps = split d β α (cc) in
    record { between = r.between; first = r.first; second = r.second; reads = subst (λ τ. Reads (τ ∷ β) l r.between (r.first)) same (ended t r.reads); then_reads = r.then_reads; are = r.are }
split {l = l} {m = m} (again {r = s} {k = k} {qs = qs} {ps = ps} t f d) (σ ∷ β) α e =
    let same : symbol.Many s ≡ σ = cc in
    let r : Split (symbol.Many s ∷ β) α k m ps = split d (symbol.Many s ∷ β) α (cc) in
    record { between = r.between; first = joined qs r.first; second = r.second; reads = subst (λ τ. Reads (τ ∷ β) l r.between (joined qs r.first)) same (again t f r.reads); then_reads = r.then_reads; are = ap (λ j. joined qs j) r.are ∙ sym (joined_assoc qs r.first r.second) }

pub glue : {β α : List Symbol} {l k m : List Item} {qs ps : Parts} → Reads β l k qs → Reads α k m ps → Reads (β ++ α) l m (joined qs ps)
unfolding joined
glue done e = e
glue (took t d) e = took t (glue d e)
glue (opened t f d) e = opened t f (glue d e)
glue {α = α} {l = l} {m = m} {ps = ps} (inlined {r = r} {α = γ} {qs = a} {ps = b} t f d) e = subst (λ k. Reads (symbol.One r ∷ (γ ++ α)) l m k) (sym (joined_assoc a b ps)) (inlined t f (glue d e))
glue (skipped t d) e = skipped t (glue d e)
glue {α = α} {l = l} {m = m} {ps = ps} (given {r = r} {α = γ} {qs = a} {ps = b} t f d) e = subst (λ k. Reads (symbol.Maybe r ∷ (γ ++ α)) l m k) (sym (joined_assoc a b ps)) (given t f (glue d e))
glue (ended t d) e = ended t (glue d e)
glue {α = α} {l = l} {m = m} {ps = ps} (again {r = r} {α = γ} {qs = a} {ps = b} t f d) e = subst (λ k. Reads (symbol.Many r ∷ (γ ++ α)) l m k) (sym (joined_assoc a b ps)) (again t f (glue d e))

-- a step that stays in its node
pub ends_map : (f : ℕ → Tree) (os : List Open) (r : Spot) (ps qs : Parts) (S R : List Step) (l m : List Item) (t : Tree) → ((k : List Item) (rs : Parts) → Gets ps (upto S) l k rs → Gets qs (upto R) m k rs) → after S ≡ after R → Ends f os r ps S l t → Ends f os r qs R m t
unfolding Ends
ends_map f [] r ps qs S R l m t go e h = (h.0, (go [] h.0 h.1.0, h.1.1))
ends_map f (o ∷ os) r ps qs S R l m t go e h = (h.0, (h.1.0, (go h.0 h.1.0 h.1.1.0, subst (λ T. Ends f os o.spot (joined (plants f o.parts) (child (wrap (label r) h.1.0) end)) T h.0 t) e h.1.1.1)))

same_rows : {X : Type 0} {x y : X} (o : Option X) → o ≡ Some x → o ≡ Some y → x ≡ y
same_rows o t u = cc

token_by : (ps : Parts) {s : Sign} {α : List Symbol} {x : Item} {l k : List Item} {more rs : Parts} → Reads (symbol.Token s ∷ α) (x ∷ l) k more → rs ≡ joined ps more → Gets (joined ps (token x.token end)) α l k rs
token_by ps {x = x} (took {ps = qs} t d) e = record { more = qs; reads = d; are = e ∙ sym (joined_token ps qs x.token) }

not_token_by : {s : Sign} {α : List Symbol} {x : Item} {l k : List Item} {more : Parts} → takes (number s) (number x.sign) ≡ false → Reads (symbol.Token s ∷ α) (x ∷ l) k more → ⊥
not_token_by f (took t d) = cc

no_token_by : {s : Sign} {α : List Symbol} {k : List Item} {more : Parts} → Reads (symbol.Token s ∷ α) [] k more → ⊥
no_token_by d = elim d [ ]

-- a token
pub gets_token : (s : Sign) (α : List Symbol) (x : Item) (l k : List Item) (ps rs : Parts) → Gets ps (symbol.Token s ∷ α) (x ∷ l) k rs → Gets (joined ps (token x.token end)) α l k rs
gets_token s α x l k ps rs g = token_by ps g.reads g.are

pub puts_token : (s : Sign) (α : List Symbol) (x : Item) (l k : List Item) (ps rs : Parts) → takes (number s) (number x.sign) ≡ true → Gets (joined ps (token x.token end)) α l k rs → Gets ps (symbol.Token s ∷ α) (x ∷ l) k rs
puts_token s α x l k ps rs t g = record { more = token x.token g.more; reads = took t g.reads; are = g.are ∙ joined_token ps g.more x.token }

pub not_token : (s : Sign) (α : List Symbol) (x : Item) (l k : List Item) (ps rs : Parts) → takes (number s) (number x.sign) ≡ false → Gets ps (symbol.Token s ∷ α) (x ∷ l) k rs → ⊥
not_token s α x l k ps rs f g = not_token_by f g.reads

pub no_token : (s : Sign) (α : List Symbol) (k : List Item) (ps rs : Parts) → Gets ps (symbol.Token s ∷ α) [] k rs → ⊥
no_token s α k ps rs g = no_token_by g.reads

-- the picked row of a spot at a place
abbrev pub Picked : Spot → List Item → Option (List Symbol) → Type 0
Picked r l o = slice_get (rules r) (pick r (view r l)) ≡ o

-- a group that stands once
one_by : (ps : Parts) {r : Spot} {β α : List Symbol} {l k : List Item} {more rs : Parts} → Picked r l (Some β) → Reads (symbol.One r ∷ α) l k more → rs ≡ joined ps more → Gets ps (β ++ α) l k rs
one_by ps {r = r} {β = β} {l = l} p (inlined {β = γ} {k = j} {qs = a} {ps = b} t f d) e = record { more = joined a b; reads = glue (subst (λ δ. Reads δ l j a) (same_rows (slice_get (rules r) (pick r (view r l))) t p) f) d; are = e }

pub gets_one : (r : Spot) (β α : List Symbol) (l k : List Item) (ps rs : Parts) → Picked r l (Some β) → Gets ps (symbol.One r ∷ α) l k rs → Gets ps (β ++ α) l k rs
gets_one r β α l k ps rs p g = one_by ps p g.reads g.are

pub puts_one : (r : Spot) (β α : List Symbol) (l k : List Item) (ps rs : Parts) → Picked r l (Some β) → Gets ps (β ++ α) l k rs → Gets ps (symbol.One r ∷ α) l k rs
puts_one r β α l k ps rs p g =
    let s : Split β α l k g.more = split g.reads β _ refl in
    record { more = joined s.first s.second; reads = inlined p s.reads s.then_reads; are = g.are ∙ ap (λ j. joined ps j) s.are }

not_one_by : {r : Spot} {α : List Symbol} {l k : List Item} {more : Parts} → Picked r l None → Reads (symbol.One r ∷ α) l k more → ⊥
not_one_by p (inlined t f d) = cc

pub not_one : (r : Spot) (α : List Symbol) (l k : List Item) (ps rs : Parts) → Picked r l None → Gets ps (symbol.One r ∷ α) l k rs → ⊥
not_one r α l k ps rs p g = not_one_by p g.reads

-- a group that may stand
maybe_by : (ps : Parts) {r : Spot} {β α : List Symbol} {l k : List Item} {more rs : Parts} → Picked r l (Some β) → Reads (symbol.Maybe r ∷ α) l k more → rs ≡ joined ps more → Gets ps (β ++ α) l k rs
maybe_by ps p (skipped t d) e = cc
maybe_by ps {r = r} {β = β} {l = l} p (given {β = γ} {k = j} {qs = a} {ps = b} t f d) e = record { more = joined a b; reads = glue (subst (λ δ. Reads δ l j a) (same_rows (slice_get (rules r) (pick r (view r l))) t p) f) d; are = e }

pub gets_maybe : (r : Spot) (β α : List Symbol) (l k : List Item) (ps rs : Parts) → Picked r l (Some β) → Gets ps (symbol.Maybe r ∷ α) l k rs → Gets ps (β ++ α) l k rs
gets_maybe r β α l k ps rs p g = maybe_by ps p g.reads g.are

pub puts_maybe : (r : Spot) (β α : List Symbol) (l k : List Item) (ps rs : Parts) → Picked r l (Some β) → Gets ps (β ++ α) l k rs → Gets ps (symbol.Maybe r ∷ α) l k rs
puts_maybe r β α l k ps rs p g =
    let s : Split β α l k g.more = split g.reads β _ refl in
    record { more = joined s.first s.second; reads = given p s.reads s.then_reads; are = g.are ∙ ap (λ j. joined ps j) s.are }

skip_by : (ps : Parts) {r : Spot} {α : List Symbol} {l k : List Item} {more rs : Parts} → Picked r l None → Reads (symbol.Maybe r ∷ α) l k more → rs ≡ joined ps more → Gets ps α l k rs
skip_by ps p (skipped {ps = b} t d) e = record { more = b; reads = d; are = e }
skip_by ps p (given t f d) e = cc

pub gets_skip : (r : Spot) (α : List Symbol) (l k : List Item) (ps rs : Parts) → Picked r l None → Gets ps (symbol.Maybe r ∷ α) l k rs → Gets ps α l k rs
gets_skip r α l k ps rs p g = skip_by ps p g.reads g.are

pub puts_skip : (r : Spot) (α : List Symbol) (l k : List Item) (ps rs : Parts) → Picked r l None → Gets ps α l k rs → Gets ps (symbol.Maybe r ∷ α) l k rs
puts_skip r α l k ps rs p g = record { more = g.more; reads = skipped p g.reads; are = g.are }

-- a group that may stand any number of times
many_by : (ps : Parts) {r : Spot} {β α : List Symbol} {l k : List Item} {more rs : Parts} → Picked r l (Some β) → Reads (symbol.Many r ∷ α) l k more → rs ≡ joined ps more → Gets ps (β ++ symbol.Many r ∷ α) l k rs
many_by ps p (ended t d) e = cc
many_by ps {r = r} {β = β} {l = l} p (again {β = γ} {k = j} {qs = a} {ps = b} t f d) e = record { more = joined a b; reads = glue (subst (λ δ. Reads δ l j a) (same_rows (slice_get (rules r) (pick r (view r l))) t p) f) d; are = e }

pub gets_many : (r : Spot) (β α : List Symbol) (l k : List Item) (ps rs : Parts) → Picked r l (Some β) → Gets ps (symbol.Many r ∷ α) l k rs → Gets ps (β ++ symbol.Many r ∷ α) l k rs
gets_many r β α l k ps rs p g = many_by ps p g.reads g.are

pub puts_many : (r : Spot) (β α : List Symbol) (l k : List Item) (ps rs : Parts) → Picked r l (Some β) → Gets ps (β ++ symbol.Many r ∷ α) l k rs → Gets ps (symbol.Many r ∷ α) l k rs
puts_many r β α l k ps rs p g =
    let s : Split β (symbol.Many r ∷ α) l k g.more = split g.reads β _ refl in
    record { more = joined s.first s.second; reads = again p s.reads s.then_reads; are = g.are ∙ ap (λ j. joined ps j) s.are }

stop_by : (ps : Parts) {r : Spot} {α : List Symbol} {l k : List Item} {more rs : Parts} → Picked r l None → Reads (symbol.Many r ∷ α) l k more → rs ≡ joined ps more → Gets ps α l k rs
stop_by ps p (ended {ps = b} t d) e = record { more = b; reads = d; are = e }
stop_by ps p (again t f d) e = cc

pub gets_stop : (r : Spot) (α : List Symbol) (l k : List Item) (ps rs : Parts) → Picked r l None → Gets ps (symbol.Many r ∷ α) l k rs → Gets ps α l k rs
gets_stop r α l k ps rs p g = stop_by ps p g.reads g.are

pub puts_stop : (r : Spot) (α : List Symbol) (l k : List Item) (ps rs : Parts) → Picked r l None → Gets ps α l k rs → Gets ps (symbol.Many r ∷ α) l k rs
puts_stop r α l k ps rs p g = record { more = g.more; reads = ended p g.reads; are = g.are }

-- a node: its row, and what stands behind it
pub record Inner (r : Spot) (β α : List Symbol) (l m : List Item) (ps rs : Parts) : Type 0 where
  pub between : List Item
  pub inside : Parts
  pub reads : Reads β l between inside
  pub then_gets : Gets (joined ps (child (wrap (label r) inside) end)) α between m rs

inner_by : (ps : Parts) {r : Spot} {β α : List Symbol} {l k : List Item} {more rs : Parts} → Picked r l (Some β) → Reads (symbol.Node r ∷ α) l k more → rs ≡ joined ps more → Inner r β α l k ps rs
inner_by ps {r = r} {β = β} {l = l} p (opened {β = γ} {k = j} {qs = a} {ps = b} t f d) e = record { between = j; inside = a; reads = subst (λ δ. Reads δ l j a) (same_rows (slice_get (rules r) (pick r (view r l))) t p) f; then_gets = record { more = b; reads = d; are = e ∙ sym (joined_child ps b (wrap (label r) a)) } }

pub gets_node : (r : Spot) (β α : List Symbol) (l k : List Item) (ps rs : Parts) → Picked r l (Some β) → Gets ps (symbol.Node r ∷ α) l k rs → Inner r β α l k ps rs
gets_node r β α l k ps rs p g = inner_by ps p g.reads g.are

pub puts_node : (r : Spot) (β α : List Symbol) (l k : List Item) (ps rs : Parts) → Picked r l (Some β) → Inner r β α l k ps rs → Gets ps (symbol.Node r ∷ α) l k rs
puts_node r β α l k ps rs p i = record { more = child (wrap (label r) i.inside) i.then_gets.more; reads = opened p i.reads i.then_gets.reads; are = i.then_gets.are ∙ joined_child ps i.then_gets.more (wrap (label r) i.inside) }

not_node_by : {r : Spot} {α : List Symbol} {l k : List Item} {more : Parts} → Picked r l None → Reads (symbol.Node r ∷ α) l k more → ⊥
not_node_by p (opened t f d) = cc

pub not_node : (r : Spot) (α : List Symbol) (l k : List Item) (ps rs : Parts) → Picked r l None → Gets ps (symbol.Node r ∷ α) l k rs → ⊥
not_node r α l k ps rs p g = not_node_by p g.reads
