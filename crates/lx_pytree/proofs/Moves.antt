-- What each step does to the reader's state.
use Rattle.std.proofs.Common.{ℕ, zero, suc, true, false, ◌≡◌, ◌<◌, ◌≤◌, ◌+◌, ◌-◌, ◌*◌, ◌&&◌, ◌++◌, max, List, [], ◌∷◌, length, reverse, map, take, drop, refl, sym, ap, ◌∙◌, subst, arith, Option, Some, None, length-append, append-nil, add-one, drop-cons, get_or, Result, Ok, Err, option_to_list}
use Rattle.std.proofs.lemmas.Bool.{lt-ltb, and_parts, and_from}
use Rattle.std.proofs.lemmas.List.{reverse-append}
use Rattle.std.specs.Global.{Vec}
use Rattle.std.proofs.Math.Seq.{drop-nil}
use Rattle.std.proofs.Math.ListN.{drop_of_length-le}
use Rattle.lx_arena.specs.declared.Id.{Id}
use Rattle.lx_pytree.specs.declared.tree.PyNodes.{PyNodes}
use Rattle.lx_grammar.specs.declared.sign.Item.{Item}
use Rattle.lx_grammar.specs.declared.sign.Sign.{Sign}
use Rattle.lx_grammar.specs.declared.grammar.Spot.{Spot}
use Rattle.lx_grammar.specs.declared.grammar.Symbol.{Symbol}
use Rattle.lx_grammar.specs.declared.grammar.Symbol.TheVariants as symbol
use Rattle.lx_grammar.specs.Numbers.{number}
use Rattle.lx_grammar.specs.Derives.{Tree, Parts, end, token, child, joined, wrap, label, takes, IsTreeOf}
use Rattle.lx_grammar.specs.Reads.{Reads, done, opened}
use Rattle.lx_grammar.specs.declared.grammar.Rule.{Rule}
use Rattle.lx_grammar.specs.declared.grammar.Spot.TheVariants as spot
use Rattle.lx_grammar.proofs.Guided.{file_read, read_file}
use Rattle.lx_pytree.specs.declared.machine.Stop.{Stop}
use Rattle.lx_pytree.specs.declared.machine.Stop.TheVariants as stop
use Rattle.lx_pytree.specs.declared.machine.Turn.{Turn}
use Rattle.lx_pytree.specs.declared.machine.Turn.TheVariants as turn
use Rattle.lx_pytree.specs.declared.tree.PyNode.{PyNode}
use Rattle.lx_pytree.specs.declared.tree.PyPart.{PyPart}
use Rattle.lx_pytree.specs.declared.tree.PyPart.TheVariants as part
use Rattle.lx_pytree.specs.declared.machine.Step.{Step}
use Rattle.lx_pytree.specs.declared.machine.Step.TheVariants as step
use Rattle.lx_pytree.specs.declared.machine.Open.{Open}
use Rattle.lx_pytree.specs.declared.machine.Machine.{Machine}
use Rattle.lx_pytree.specs.Below.{parts_below}
use Rattle.lx_pytree.specs.Trees.{plants, tree_at, IsHung}
use Rattle.lx_pytree.specs.Weights.{weight}
use Rattle.lx_pytree.specs.Machine.{upto, after, Gets, Ends, cost, opens_below, EndsIn, left, IsSound, Moves, IsWhole, Turns, IsStart, IsReading}
use Rattle.lx_pytree.proofs.Planting.{plants_same, parts_more, parts_push, plants_push_node, plants_push_token}
use Rattle.lx_pytree.proofs.Falls.{cost_most, row_falls}
use Rattle.lx_pytree.proofs.Steps.{joined_end, ends_map, gets_token, puts_token, not_token, no_token, Picked, gets_one, puts_one, not_one, gets_maybe, puts_maybe, gets_skip, puts_skip, gets_many, puts_many, gets_stop, puts_stop, Inner, gets_node, puts_node, not_node}

pub upto_row : (β : List Symbol) (S : List Step) → upto (map step.Do β ++ S) ≡ β ++ upto S
unfolding upto
upto_row [] S = refl
upto_row (s ∷ β) S = ap (λ γ. s ∷ γ) (upto_row β S)

pub after_row : (β : List Symbol) (S : List Step) → after (map step.Do β ++ S) ≡ after S
unfolding after
after_row [] S = refl
after_row (s ∷ β) S = after_row β S

pub length_row : (β : List Symbol) (S : List Step) → length (map step.Do β ++ S) ≡ length β + length S
length_row [] S = omega arith
length_row (s ∷ β) S = omega (arith, length_row β S)

-- a step that stays in its node
pub swap : (f : ℕ → Tree) (os : List Open) (r : Spot) (ps qs : Parts) (S R : List Step) (l m : List Item) (t : Tree) (α β : List Symbol) → upto S ≡ α → upto R ≡ β → after S ≡ after R → ((k : List Item) (rs : Parts) → Gets ps α l k rs → Gets qs β m k rs) → Ends f os r ps S l t → Ends f os r qs R m t
swap f os r ps qs S R l m t α β a b e go h = ends_map f os r ps qs S R l m t (λ k rs g. subst (λ γ. Gets qs γ m k rs) (sym b) (go k rs (subst (λ γ. Gets ps γ l k rs) a g))) e h

-- a step that cannot be taken
pub stuck : (f : ℕ → Tree) (os : List Open) (r : Spot) (ps : Parts) (S : List Step) (l : List Item) (t : Tree) (α : List Symbol) → upto S ≡ α → ((k : List Item) (rs : Parts) → Gets ps α l k rs → ⊥) → Ends f os r ps S l t → ⊥
unfolding Ends
stuck f [] r ps S l t α a never h = never [] h.0 (subst (λ γ. Gets ps γ l [] h.0) a h.1.0)
stuck f (o ∷ os) r ps S l t α a never h = never h.0 h.1.0 (subst (λ γ. Gets ps γ l h.0 h.1.0) a h.1.1.0)

pub one_moves : (items : List Item) (m : Machine) (p : Vec Step) (S : List Step) (r : Spot) (β : List Symbol) → Picked r (drop m.at items) (Some β) → reverse p.items ≡ map step.Do β ++ S → IsSound m → Moves items m (step.Do (symbol.One r) ∷ S) (record m { pending = p })
unfolding EndsIn left upto after cost
one_moves items m p S r β k e sound =
    let f : ℕ → Tree = tree_at m.nodes in
    let os : List Open = reverse m.opens.items in
    let ps : Parts = plants f m.current.parts in
    let l : List Item = drop m.at items in
    record {
      trees = λ t. (λ h. subst (λ R. Ends f os m.current.spot ps R l t) (sym e) (swap f os m.current.spot ps ps (step.Do (symbol.One r) ∷ S) (map step.Do β ++ S) l l t (symbol.One r ∷ upto S) (β ++ upto S) refl (upto_row β S) (sym (after_row β S)) (λ j rs g. gets_one r β (upto S) l j ps rs k g) h), λ h. swap f os m.current.spot ps ps (map step.Do β ++ S) (step.Do (symbol.One r) ∷ S) l l t (β ++ upto S) (symbol.One r ∷ upto S) (upto_row β S) refl (after_row β S) (λ j rs g. puts_one r β (upto S) l j ps rs k g) (subst (λ R. Ends f os m.current.spot ps R l t) e h));
      fewer = subst (λ R. 65536 * (length items - m.at) + (length R + (length m.opens.items + cost R)) < 65536 * (length items - m.at) + (suc (length S) + (length m.opens.items + weight r))) (sym e) (omega (arith, length_row β S, row_falls r _ β S k));
      sound = record { parts = sound.parts; opens = sound.opens };
    }

pub one_stuck : (items : List Item) (m : Machine) (S : List Step) (r : Spot) (t : Tree) → Picked r (drop m.at items) None → EndsIn items m (step.Do (symbol.One r) ∷ S) t → ⊥
unfolding EndsIn upto
one_stuck items m S r t k h = stuck (tree_at m.nodes) (reverse m.opens.items) m.current.spot (plants (tree_at m.nodes) m.current.parts) (step.Do (symbol.One r) ∷ S) (drop m.at items) t (symbol.One r ∷ upto S) refl (λ j rs g. not_one r (upto S) (drop m.at items) j (plants (tree_at m.nodes) m.current.parts) rs k g) h

pub maybe_moves : (items : List Item) (m : Machine) (p : Vec Step) (S : List Step) (r : Spot) (β : List Symbol) → Picked r (drop m.at items) (Some β) → reverse p.items ≡ map step.Do β ++ S → IsSound m → Moves items m (step.Do (symbol.Maybe r) ∷ S) (record m { pending = p })
unfolding EndsIn left upto after cost
maybe_moves items m p S r β k e sound =
    let f : ℕ → Tree = tree_at m.nodes in
    let os : List Open = reverse m.opens.items in
    let ps : Parts = plants f m.current.parts in
    let l : List Item = drop m.at items in
    record {
      trees = λ t. (λ h. subst (λ R. Ends f os m.current.spot ps R l t) (sym e) (swap f os m.current.spot ps ps (step.Do (symbol.Maybe r) ∷ S) (map step.Do β ++ S) l l t (symbol.Maybe r ∷ upto S) (β ++ upto S) refl (upto_row β S) (sym (after_row β S)) (λ j rs g. gets_maybe r β (upto S) l j ps rs k g) h), λ h. swap f os m.current.spot ps ps (map step.Do β ++ S) (step.Do (symbol.Maybe r) ∷ S) l l t (β ++ upto S) (symbol.Maybe r ∷ upto S) (upto_row β S) refl (after_row β S) (λ j rs g. puts_maybe r β (upto S) l j ps rs k g) (subst (λ R. Ends f os m.current.spot ps R l t) e h));
      fewer = subst (λ R. 65536 * (length items - m.at) + (length R + (length m.opens.items + cost R)) < 65536 * (length items - m.at) + (suc (length S) + (length m.opens.items + max (weight r) (cost S)))) (sym e) (omega (arith, length_row β S, row_falls r _ β S k));
      sound = record { parts = sound.parts; opens = sound.opens };
    }

pub skip_moves : (items : List Item) (m : Machine) (r : Spot) → Picked r (drop m.at items) None → IsSound m → Moves items m (step.Do (symbol.Maybe r) ∷ reverse m.pending.items) m
unfolding EndsIn left upto after cost
skip_moves items m r k sound =
    let f : ℕ → Tree = tree_at m.nodes in
    let os : List Open = reverse m.opens.items in
    let ps : Parts = plants f m.current.parts in
    let l : List Item = drop m.at items in
    let S : List Step = reverse m.pending.items in
    record {
      trees = λ t. (λ h. swap f os m.current.spot ps ps (step.Do (symbol.Maybe r) ∷ S) S l l t (symbol.Maybe r ∷ upto S) (upto S) refl refl refl (λ j rs g. gets_skip r (upto S) l j ps rs k g) h, λ h. swap f os m.current.spot ps ps S (step.Do (symbol.Maybe r) ∷ S) l l t (upto S) (symbol.Maybe r ∷ upto S) refl refl refl (λ j rs g. puts_skip r (upto S) l j ps rs k g) h);
      fewer = omega arith;
      sound = sound;
    }

pub many_moves : (items : List Item) (m : Machine) (p : Vec Step) (S : List Step) (r : Spot) (β : List Symbol) → Picked r (drop m.at items) (Some β) → reverse p.items ≡ map step.Do β ++ (step.Do (symbol.Many r) ∷ S) → IsSound m → Moves items m (step.Do (symbol.Many r) ∷ S) (record m { pending = p })
unfolding EndsIn left upto after cost
many_moves items m p S r β k e sound =
    let f : ℕ → Tree = tree_at m.nodes in
    let os : List Open = reverse m.opens.items in
    let ps : Parts = plants f m.current.parts in
    let l : List Item = drop m.at items in
    let T : List Step = step.Do (symbol.Many r) ∷ S in
    record {
      trees = λ t. (λ h. subst (λ R. Ends f os m.current.spot ps R l t) (sym e) (swap f os m.current.spot ps ps T (map step.Do β ++ T) l l t (symbol.Many r ∷ upto S) (β ++ symbol.Many r ∷ upto S) refl (upto_row β T) (sym (after_row β T)) (λ j rs g. gets_many r β (upto S) l j ps rs k g) h), λ h. swap f os m.current.spot ps ps (map step.Do β ++ T) T l l t (β ++ symbol.Many r ∷ upto S) (symbol.Many r ∷ upto S) (upto_row β T) refl (after_row β T) (λ j rs g. puts_many r β (upto S) l j ps rs k g) (subst (λ R. Ends f os m.current.spot ps R l t) e h));
      fewer = subst (λ R. 65536 * (length items - m.at) + (length R + (length m.opens.items + cost R)) < 65536 * (length items - m.at) + (suc (length S) + (length m.opens.items + max (weight r) (cost S)))) (sym e) (omega (arith, length_row β T, row_falls r _ β T k));
      sound = record { parts = sound.parts; opens = sound.opens };
    }

pub stop_moves : (items : List Item) (m : Machine) (r : Spot) → Picked r (drop m.at items) None → IsSound m → Moves items m (step.Do (symbol.Many r) ∷ reverse m.pending.items) m
unfolding EndsIn left upto after cost
stop_moves items m r k sound =
    let f : ℕ → Tree = tree_at m.nodes in
    let os : List Open = reverse m.opens.items in
    let ps : Parts = plants f m.current.parts in
    let l : List Item = drop m.at items in
    let S : List Step = reverse m.pending.items in
    record {
      trees = λ t. (λ h. swap f os m.current.spot ps ps (step.Do (symbol.Many r) ∷ S) S l l t (symbol.Many r ∷ upto S) (upto S) refl refl refl (λ j rs g. gets_stop r (upto S) l j ps rs k g) h, λ h. swap f os m.current.spot ps ps S (step.Do (symbol.Many r) ∷ S) l l t (upto S) (symbol.Many r ∷ upto S) refl refl refl (λ j rs g. puts_stop r (upto S) l j ps rs k g) h);
      fewer = omega arith;
      sound = sound;
    }

-- a token is taken
pub take_moves : (items : List Item) (m : Machine) (qs : List PyPart) (x : Item) (s : Sign) → m.at < length items → drop m.at items ≡ x ∷ drop (m.at + 1) items → takes (number s) (number x.sign) ≡ true → qs ≡ m.current.parts ++ part.Token x.token ∷ [] → IsSound m → Moves items m (step.Do (symbol.Token s) ∷ reverse m.pending.items) (record m { current = record m.current { parts = qs }; at = m.at + 1 })
unfolding EndsIn left upto after cost
take_moves items m qs x s lt d t e sound =
    let f : ℕ → Tree = tree_at m.nodes in
    let os : List Open = reverse m.opens.items in
    let ps : Parts = plants f m.current.parts in
    let l : List Item = drop (m.at + 1) items in
    let S : List Step = reverse m.pending.items in
    let c : plants f qs ≡ joined ps (token x.token end) = ap (λ k. plants f k) e ∙ plants_push_token f m.current.parts x.token in
    record {
      trees = λ u. (λ h. subst (λ k. Ends f os m.current.spot k S l u) (sym c) (swap f os m.current.spot ps (joined ps (token x.token end)) (step.Do (symbol.Token s) ∷ S) S (x ∷ l) l u (symbol.Token s ∷ upto S) (upto S) refl refl refl (λ j rs g. gets_token s (upto S) x l j ps rs g) (subst (λ k. Ends f os m.current.spot ps (step.Do (symbol.Token s) ∷ S) k u) d h)), λ h. subst (λ k. Ends f os m.current.spot ps (step.Do (symbol.Token s) ∷ S) k u) (sym d) (swap f os m.current.spot (joined ps (token x.token end)) ps S (step.Do (symbol.Token s) ∷ S) l (x ∷ l) u (upto S) (symbol.Token s ∷ upto S) refl refl refl (λ j rs g. puts_token s (upto S) x l j ps rs t g) (subst (λ k. Ends f os m.current.spot k S l u) c h)));
      fewer = omega (arith, cost_most S);
      sound = record { parts = subst (λ k. parts_below (length m.nodes) k ≡ true) (sym e) (parts_push (length m.nodes) m.current.parts (part.Token x.token) sound.parts refl); opens = sound.opens };
    }

pub take_stuck : (items : List Item) (m : Machine) (S : List Step) (x : Item) (s : Sign) (t : Tree) → drop m.at items ≡ x ∷ drop (m.at + 1) items → takes (number s) (number x.sign) ≡ false → EndsIn items m (step.Do (symbol.Token s) ∷ S) t → ⊥
unfolding EndsIn upto
take_stuck items m S x s t d never h = stuck (tree_at m.nodes) (reverse m.opens.items) m.current.spot (plants (tree_at m.nodes) m.current.parts) (step.Do (symbol.Token s) ∷ S) (x ∷ drop (m.at + 1) items) t (symbol.Token s ∷ upto S) refl (λ j rs g. not_token s (upto S) x (drop (m.at + 1) items) j (plants (tree_at m.nodes) m.current.parts) rs never g) (subst (λ k. Ends (tree_at m.nodes) (reverse m.opens.items) m.current.spot (plants (tree_at m.nodes) m.current.parts) (step.Do (symbol.Token s) ∷ S) k t) d h)

pub take_none : (items : List Item) (m : Machine) (S : List Step) (s : Sign) (t : Tree) → drop m.at items ≡ [] → EndsIn items m (step.Do (symbol.Token s) ∷ S) t → ⊥
unfolding EndsIn upto
take_none items m S s t d h = stuck (tree_at m.nodes) (reverse m.opens.items) m.current.spot (plants (tree_at m.nodes) m.current.parts) (step.Do (symbol.Token s) ∷ S) [] t (symbol.Token s ∷ upto S) refl (λ j rs g. no_token s (upto S) j (plants (tree_at m.nodes) m.current.parts) rs g) (subst (λ k. Ends (tree_at m.nodes) (reverse m.opens.items) m.current.spot (plants (tree_at m.nodes) m.current.parts) (step.Do (symbol.Token s) ∷ S) k t) d h)

pub drop_at : (items : List Item) (n : ℕ) (d : Item) → n < length items → drop n items ≡ get_or items n d ∷ drop (n + 1) items
drop_at items n d h = rw (add-one, drop-cons items n d) refl

pub take_moves_at : (items : List Item) (m : Machine) (qs : List PyPart) (d : Item) (s : Sign) → m.at < length items → takes (number s) (number (get_or items m.at d).sign) ≡ true → qs ≡ m.current.parts ++ part.Token (get_or items m.at d).token ∷ [] → IsSound m → Moves items m (step.Do (symbol.Token s) ∷ reverse m.pending.items) (record m { current = record m.current { parts = qs }; at = m.at + 1 })
take_moves_at items m qs d s lt t e sound = take_moves items m qs (get_or items m.at d) s lt (drop_at items m.at d lt) t e sound

pub take_stuck_at : (items : List Item) (m : Machine) (S : List Step) (d : Item) (s : Sign) (t : Tree) → m.at < length items → takes (number s) (number (get_or items m.at d).sign) ≡ false → EndsIn items m (step.Do (symbol.Token s) ∷ S) t → ⊥
take_stuck_at items m S d s t lt e h = take_stuck items m S (get_or items m.at d) s t (drop_at items m.at d lt) e h

-- a node opens
pub open_in : (f : ℕ → Tree) (os : List Open) (o : Open) (r : Spot) (β : List Symbol) (S : List Step) (l : List Item) (t : Tree) → Picked r l (Some β) → Ends f os o.spot (plants f o.parts) (step.Do (symbol.Node r) ∷ S) l t → Ends f (o ∷ os) r end (map step.Do β ++ (step.Close ∷ S)) l t
unfolding Ends upto after joined
open_in f [] o r β S l t k h =
    let i : Inner r β (upto S) l [] (plants f o.parts) h.0 = gets_node r β (upto S) l [] (plants f o.parts) h.0 k h.1.0 in
    let a : upto (map step.Do β ++ (step.Close ∷ S)) ≡ β = upto_row β (step.Close ∷ S) ∙ append-nil β in
    let g : Gets end (upto (map step.Do β ++ (step.Close ∷ S))) l i.between i.inside = record { more = i.inside; reads = subst (λ γ. Reads γ l i.between i.inside) (sym a) i.reads; are = refl } in
    let rest : Ends f [] o.spot (joined (plants f o.parts) (child (wrap (label r) i.inside) end)) S i.between t = (h.0, (i.then_gets, h.1.1)) in
    (i.between, (i.inside, (g, subst (λ T. Ends f [] o.spot (joined (plants f o.parts) (child (wrap (label r) i.inside) end)) T i.between t) (sym (after_row β (step.Close ∷ S))) rest)))
open_in f (p ∷ os) o r β S l t k h =
    let i : Inner r β (upto S) l h.0 (plants f o.parts) h.1.0 = gets_node r β (upto S) l h.0 (plants f o.parts) h.1.0 k h.1.1.0 in
    let a : upto (map step.Do β ++ (step.Close ∷ S)) ≡ β = upto_row β (step.Close ∷ S) ∙ append-nil β in
    let g : Gets end (upto (map step.Do β ++ (step.Close ∷ S))) l i.between i.inside = record { more = i.inside; reads = subst (λ γ. Reads γ l i.between i.inside) (sym a) i.reads; are = refl } in
    let rest : Ends f (p ∷ os) o.spot (joined (plants f o.parts) (child (wrap (label r) i.inside) end)) S i.between t = (h.0, (h.1.0, (i.then_gets, h.1.1.1))) in
    (i.between, (i.inside, (g, subst (λ T. Ends f (p ∷ os) o.spot (joined (plants f o.parts) (child (wrap (label r) i.inside) end)) T i.between t) (sym (after_row β (step.Close ∷ S))) rest)))

-- and what its row gives is what the node gave
from_end : (α : List Symbol) (l k : List Item) (rs : Parts) → Gets end α l k rs → Reads α l k rs
unfolding joined
from_end α l k rs g = subst (λ q. Reads α l k q) (sym g.are) g.reads

pub open_out : (f : ℕ → Tree) (os : List Open) (o : Open) (r : Spot) (β : List Symbol) (S : List Step) (l : List Item) (t : Tree) → Picked r l (Some β) → Ends f (o ∷ os) r end (map step.Do β ++ (step.Close ∷ S)) l t → Ends f os o.spot (plants f o.parts) (step.Do (symbol.Node r) ∷ S) l t
unfolding Ends upto after
open_out f [] o r β S l t k h =
    let a : upto (map step.Do β ++ (step.Close ∷ S)) ≡ β = upto_row β (step.Close ∷ S) ∙ append-nil β in
    let inside : Reads β l h.0 h.1.0 = subst (λ γ. Reads γ l h.0 h.1.0) a (from_end _ _ _ _ h.1.1.0) in
    let rest : Ends f [] o.spot (joined (plants f o.parts) (child (wrap (label r) h.1.0) end)) S h.0 t = subst (λ T. Ends f [] o.spot (joined (plants f o.parts) (child (wrap (label r) h.1.0) end)) T h.0 t) (after_row β (step.Close ∷ S)) h.1.1.1 in
    (rest.0, (puts_node r β (upto S) l [] (plants f o.parts) rest.0 k (record { between = h.0; inside = h.1.0; reads = inside; then_gets = rest.1.0 }), rest.1.1))
open_out f (p ∷ os) o r β S l t k h =
    let a : upto (map step.Do β ++ (step.Close ∷ S)) ≡ β = upto_row β (step.Close ∷ S) ∙ append-nil β in
    let inside : Reads β l h.0 h.1.0 = subst (λ γ. Reads γ l h.0 h.1.0) a (from_end _ _ _ _ h.1.1.0) in
    let rest : Ends f (p ∷ os) o.spot (joined (plants f o.parts) (child (wrap (label r) h.1.0) end)) S h.0 t = subst (λ T. Ends f (p ∷ os) o.spot (joined (plants f o.parts) (child (wrap (label r) h.1.0) end)) T h.0 t) (after_row β (step.Close ∷ S)) h.1.1.1 in
    (rest.0, (rest.1.0, (puts_node r β (upto S) l rest.0 (plants f o.parts) rest.1.0 k (record { between = h.0; inside = h.1.0; reads = inside; then_gets = rest.1.1.0 }), rest.1.1.1)))

pub open_moves : (items : List Item) (m : Machine) (p : Vec Step) (os : Vec Open) (S : List Step) (r : Spot) (β : List Symbol) (inner : Open) → inner ≡ record { spot = r; parts = [] } → Picked r (drop m.at items) (Some β) → reverse p.items ≡ map step.Do β ++ (step.Close ∷ S) → os.items ≡ m.opens.items ++ m.current ∷ [] → IsSound m → Moves items m (step.Do (symbol.Node r) ∷ S) (record m { pending = p; opens = os; current = inner })
unfolding EndsIn left cost plants opens_below parts_below
open_moves items m p os S r β inner new k e eo sound =
    let f : ℕ → Tree = tree_at m.nodes in
    let l : List Item = drop m.at items in
    let R : List Step = map step.Do β ++ (step.Close ∷ S) in
    let ro : reverse os.items ≡ m.current ∷ reverse m.opens.items = ap (λ v. reverse v) eo ∙ reverse-append m.opens.items (m.current ∷ []) in
    let lo : length os.items ≡ length m.opens.items + 1 = ap (λ v. length v) eo ∙ length-append m.opens.items (m.current ∷ []) in
    record {
      trees = λ t. (λ h. subst (λ i. Ends f (reverse os.items) i.spot (plants f i.parts) (reverse p.items) l t) (sym new) (subst (λ O. Ends f O r end (reverse p.items) l t) (sym ro) (subst (λ T. Ends f (m.current ∷ reverse m.opens.items) r end T l t) (sym e) (open_in f (reverse m.opens.items) m.current r β S l t k h))), λ h. open_out f (reverse m.opens.items) m.current r β S l t k (subst (λ T. Ends f (m.current ∷ reverse m.opens.items) r end T l t) e (subst (λ O. Ends f O r end (reverse p.items) l t) ro (subst (λ i. Ends f (reverse os.items) i.spot (plants f i.parts) (reverse p.items) l t) new h))));
      fewer = subst (λ T. 65536 * (length items - m.at) + (length T + (length os.items + cost T)) < 65536 * (length items - m.at) + (suc (length S) + (length m.opens.items + weight r))) (sym e) (omega (arith, length_row β (step.Close ∷ S), row_falls r _ β (step.Close ∷ S) k, lo));
      sound = record { parts = subst (λ i. parts_below (length m.nodes) i.parts ≡ true) (sym new) refl; opens = subst (λ O. opens_below (length m.nodes) O ≡ true) (sym ro) (and_from _ _ sound.parts sound.opens) };
    }

pub open_stuck : (items : List Item) (m : Machine) (S : List Step) (r : Spot) (t : Tree) → Picked r (drop m.at items) None → EndsIn items m (step.Do (symbol.Node r) ∷ S) t → ⊥
unfolding EndsIn upto
open_stuck items m S r t k h = stuck (tree_at m.nodes) (reverse m.opens.items) m.current.spot (plants (tree_at m.nodes) m.current.parts) (step.Do (symbol.Node r) ∷ S) (drop m.at items) t (symbol.Node r ∷ upto S) refl (λ j rs g. not_node r (upto S) (drop m.at items) j (plants (tree_at m.nodes) m.current.parts) rs k g) h

-- more nodes change nothing
pub ends_more : (f g : ℕ → Tree) (n : ℕ) (os : List Open) (r : Spot) (ps : Parts) (S : List Step) (l : List Item) (t : Tree) → opens_below n os ≡ true → ((i : ℕ) → i < n → f i ≡ g i) → Ends f os r ps S l t → Ends g os r ps S l t
unfolding Ends opens_below
ends_more f g n [] r ps S l t low e h = h
ends_more f g n (o ∷ os) r ps S l t low e h =
    let same : plants f o.parts ≡ plants g o.parts = plants_same f g n o.parts (and_parts (parts_below n o.parts) (opens_below n os) low).0 e in
    (h.0, (h.1.0, (h.1.1.0, subst (λ k. Ends g os o.spot (joined k (child (wrap (label r) h.1.0) end)) (after S) h.0 t) same (ends_more f g n os o.spot (joined (plants f o.parts) (child (wrap (label r) h.1.0) end)) (after S) h.0 t (and_parts (parts_below n o.parts) (opens_below n os) low).1 e h.1.1.1))))

pub opens_more : (n m : ℕ) (os : List Open) → n ≤ m → opens_below n os ≡ true → opens_below m os ≡ true
unfolding opens_below
opens_more n m [] le h = refl
opens_more n m (o ∷ os) le h = and_from _ _ (parts_more n m o.parts le (and_parts (parts_below n o.parts) (opens_below n os) h).0) (opens_more n m os le (and_parts (parts_below n o.parts) (opens_below n os) h).1)

-- nothing is read before a node closes
pub record Nothing (ps : Parts) (l k : List Item) (rs : Parts) : Type 0 where
  pub rest : l ≡ k
  pub parts : rs ≡ ps

nothing_by : {l k : List Item} {more : Parts} → Reads [] l k more → Nothing end l k more
nothing_by done = record { rest = refl; parts = refl }

pub gets_nothing : (α : List Symbol) (ps : Parts) (l k : List Item) (rs : Parts) → α ≡ [] → Gets ps α l k rs → Nothing ps l k rs
gets_nothing α ps l k rs e g =
    let n : Nothing end l k g.more = nothing_by (subst (λ γ. Reads γ l k g.more) e g.reads) in
    record { rest = n.rest; parts = g.are ∙ (ap (λ q. joined ps q) n.parts ∙ joined_end ps) }

pub puts_nothing : (α : List Symbol) (ps : Parts) (l : List Item) → α ≡ [] → Gets ps α l l ps
puts_nothing α ps l e = record { more = end; reads = subst (λ γ. Reads γ l l end) (sym e) done; are = sym (joined_end ps) }

pub close_in : (f : ℕ → Tree) (os : List Open) (o : Open) (r : Spot) (ps : Parts) (S : List Step) (l : List Item) (t : Tree) → upto S ≡ [] → Ends f (o ∷ os) r ps S l t → Ends f os o.spot (joined (plants f o.parts) (child (wrap (label r) ps) end)) (after S) l t
unfolding Ends
close_in f os o r ps S l t e h =
    let n : Nothing ps l h.0 h.1.0 = gets_nothing (upto S) ps l h.0 h.1.0 e h.1.1.0 in
    subst (λ k. Ends f os o.spot (joined (plants f o.parts) (child (wrap (label r) ps) end)) (after S) k t) (sym n.rest) (subst (λ q. Ends f os o.spot (joined (plants f o.parts) (child (wrap (label r) q) end)) (after S) h.0 t) n.parts h.1.1.1)

pub close_out : (f : ℕ → Tree) (os : List Open) (o : Open) (r : Spot) (ps : Parts) (S : List Step) (l : List Item) (t : Tree) → upto S ≡ [] → Ends f os o.spot (joined (plants f o.parts) (child (wrap (label r) ps) end)) (after S) l t → Ends f (o ∷ os) r ps S l t
unfolding Ends
close_out f os o r ps S l t e h = (l, (ps, (puts_nothing (upto S) ps l e, h)))

pub close_moves : (items : List Item) (m : Machine) (nodes : List PyNode) (os : Vec Open) (outer : Open) (qs : List PyPart) (S : List Step) (id : Id PyNodes) → upto S ≡ [] → after S ≡ reverse m.pending.items → length (reverse m.pending.items) ≤ length S → cost (reverse m.pending.items) ≤ cost S → m.opens.items ≡ os.items ++ outer ∷ [] → IsHung (label m.current.spot) m.current.parts m.nodes nodes id.place → qs ≡ outer.parts ++ part.Node id ∷ [] → IsSound m → Moves items m S (record m { nodes = nodes; opens = os; current = record outer { parts = qs } })
unfolding EndsIn left opens_below
close_moves items m nodes os outer qs S id eu ea len cst eo hung eq sound =
    let f : ℕ → Tree = tree_at m.nodes in
    let g : ℕ → Tree = tree_at nodes in
    let n : ℕ = length m.nodes in
    let l : List Item = drop m.at items in
    let R : List Step = reverse m.pending.items in
    let ro : reverse m.opens.items ≡ outer ∷ reverse os.items = ap (λ v. reverse v) eo ∙ reverse-append os.items (outer ∷ []) in
    let lo : length m.opens.items ≡ length os.items + 1 = ap (λ v. length v) eo ∙ length-append os.items (outer ∷ []) in
    let low : (parts_below n outer.parts && opens_below n (reverse os.items)) ≡ true = subst (λ v. opens_below n v ≡ true) ro sound.opens in
    let low1 : parts_below n outer.parts ≡ true = (and_parts (parts_below n outer.parts) (opens_below n (reverse os.items)) low).0 in
    let low2 : opens_below n (reverse os.items) ≡ true = (and_parts (parts_below n outer.parts) (opens_below n (reverse os.items)) low).1 in
    let alike : (i : ℕ) → i < n → f i ≡ g i = λ i lt. sym (hung.grows.trees i lt) in
    let back : (i : ℕ) → i < n → g i ≡ f i = λ i lt. hung.grows.trees i lt in
    let ps : Parts = plants f m.current.parts in
    let node : g id.place ≡ wrap (label m.current.spot) ps = hung.is in
    let parts : plants g qs ≡ joined (plants f outer.parts) (child (wrap (label m.current.spot) ps) end) = ap (λ v. plants g v) eq ∙ (plants_push_node g outer.parts id ∙ (ap (λ q. joined q (child (g id.place) end)) (plants_same g f n outer.parts low1 back) ∙ ap (λ u. joined (plants f outer.parts) (child u end)) node)) in
    let whole : Parts = joined (plants f outer.parts) (child (wrap (label m.current.spot) ps) end) in
    record {
      trees = λ t. (λ h. subst (λ q. Ends g (reverse os.items) outer.spot q R l t) (sym parts) (ends_more f g n (reverse os.items) outer.spot whole R l t low2 alike (subst (λ T. Ends f (reverse os.items) outer.spot whole T l t) ea (close_in f (reverse os.items) outer m.current.spot ps S l t eu (subst (λ v. Ends f v m.current.spot ps S l t) ro h)))), λ h. subst (λ v. Ends f v m.current.spot ps S l t) (sym ro) (close_out f (reverse os.items) outer m.current.spot ps S l t eu (subst (λ T. Ends f (reverse os.items) outer.spot whole T l t) (sym ea) (ends_more g f n (reverse os.items) outer.spot whole R l t low2 back (subst (λ q. Ends g (reverse os.items) outer.spot q R l t) parts h)))));
      fewer = omega (arith, lo, len, cst);
      sound = record { parts = subst (λ v. parts_below (length nodes) v ≡ true) (sym eq) (parts_push (length nodes) outer.parts (part.Node id) (parts_more n (length nodes) outer.parts hung.grows.longer low1) (lt-ltb id.place (length nodes) hung.within)); opens = opens_more n (length nodes) (reverse os.items) hung.grows.longer low2 };
    }

whole_in : (f : ℕ → Tree) (r : Spot) (ps : Parts) (S : List Step) (t : Tree) → upto S ≡ [] → Ends f [] r ps S [] t → t ≡ wrap (label r) ps
unfolding Ends
whole_in f r ps S t eu h = h.1.1 ∙ ap (λ q. wrap (label r) q) (gets_nothing (upto S) ps [] [] h.0 eu h.1.0).parts

whole_out : (f : ℕ → Tree) (r : Spot) (ps : Parts) (S : List Step) (t : Tree) → upto S ≡ [] → t ≡ wrap (label r) ps → Ends f [] r ps S [] t
unfolding Ends
whole_out f r ps S t eu e = (ps, (puts_nothing (upto S) ps [] eu, e))

left_over : (items : List Item) (n : ℕ) → n < length items → drop n items ≡ [] → ⊥
left_over [] n lt e = absurd (omega arith)
left_over (x ∷ items) zero lt e = cc
left_over (x ∷ items) (suc n) lt e = left_over items n (omega arith) e

-- the last node closes where no token is left
pub close_whole : (items : List Item) (m new : Machine) (S : List Step) (id : Id PyNodes) → upto S ≡ [] → m.opens.items ≡ [] → length items ≤ m.at → IsHung (label m.current.spot) m.current.parts m.nodes new.nodes id.place → IsSound m → IsWhole items m S new id.place
unfolding EndsIn Ends
close_whole items m new S id eu eo past hung sound =
    let f : ℕ → Tree = tree_at m.nodes in
    let g : ℕ → Tree = tree_at new.nodes in
    let ps : Parts = plants f m.current.parts in
    let ro : reverse m.opens.items ≡ [] = ap (λ v. reverse v) eo in
    let d : drop m.at items ≡ [] = drop_of_length-le items past in
    let node : g id.place ≡ wrap (label m.current.spot) ps = hung.is in
    record {
      trees = λ t. (λ h. whole_in f m.current.spot ps S t eu (subst (λ v. Ends f v m.current.spot ps S [] t) ro (subst (λ k. Ends f (reverse m.opens.items) m.current.spot ps S k t) d h)) ∙ sym node, λ e. subst (λ k. Ends f (reverse m.opens.items) m.current.spot ps S k t) (sym d) (subst (λ v. Ends f v m.current.spot ps S [] t) (sym ro) (whole_out f m.current.spot ps S t eu (e ∙ node))));
      inside = hung.within;
    }

pub close_stuck : (items : List Item) (m : Machine) (S : List Step) (t : Tree) → upto S ≡ [] → m.opens.items ≡ [] → m.at < length items → EndsIn items m S t → ⊥
unfolding EndsIn Ends
close_stuck items m S t eu eo lt h =
    let f : ℕ → Tree = tree_at m.nodes in
    let ps : Parts = plants f m.current.parts in
    let ro : reverse m.opens.items ≡ [] = ap (λ v. reverse v) eo in
    let ended : Ends f [] m.current.spot ps S (drop m.at items) t = subst (λ v. Ends f v m.current.spot ps S (drop m.at items) t) ro h in
    left_over items m.at lt (gets_nothing (upto S) ps (drop m.at items) [] ended.0 eu ended.1.0).rest

-- the same, after the pushes of the code
pub open_pushed : (items : List Item) (m : Machine) (p q : Vec Step) (os : Vec Open) (r : Spot) (β : List Symbol) (outer inner : Open) (none : List PyPart) → inner ≡ record { spot = r; parts = none } → none ≡ [] → outer ≡ m.current → Picked r (drop m.at items) (Some β) → q.items ≡ m.pending.items ++ step.Close ∷ [] → reverse p.items ≡ map step.Do β ++ reverse q.items → os.items ≡ m.opens.items ++ outer ∷ [] → IsSound m → Moves items m (step.Do (symbol.Node r) ∷ reverse m.pending.items) (record m { pending = p; opens = os; current = inner })
open_pushed items m p q os r β outer inner none ei en eo k eq ep es sound =
    open_moves items m p os (reverse m.pending.items) r β inner (ei ∙ ap (λ v. record { spot = r; parts = v }) en) k
    (ep ∙ ap (λ v. map step.Do β ++ v) (ap (λ v. reverse v) eq ∙ reverse-append m.pending.items (step.Close ∷ [])))
    (es ∙ ap (λ o. m.opens.items ++ o ∷ []) eo) sound

pub many_pushed : (items : List Item) (m : Machine) (p q : Vec Step) (r : Spot) (β : List Symbol) → Picked r (drop m.at items) (Some β) → q.items ≡ m.pending.items ++ step.Do (symbol.Many r) ∷ [] → reverse p.items ≡ map step.Do β ++ reverse q.items → IsSound m → Moves items m (step.Do (symbol.Many r) ∷ reverse m.pending.items) (record m { pending = p })
many_pushed items m p q r β k eq ep sound = many_moves items m p (reverse m.pending.items) r β k (ep ∙ ap (λ v. map step.Do β ++ v) (ap (λ v. reverse v) eq ∙ reverse-append m.pending.items (step.Do (symbol.Many r) ∷ []))) sound

-- the steps of a close: one that is told, or that none is left
pub record Closes (m : Machine) (S : List Step) : Type 0 where
  pub none : upto S ≡ []
  pub behind : after S ≡ reverse m.pending.items
  pub shorter : length (reverse m.pending.items) ≤ length S
  pub cheaper : cost (reverse m.pending.items) ≤ cost S

pub closes_top : (m : Machine) → Closes m (step.Close ∷ reverse m.pending.items)
unfolding upto after cost
closes_top m = record { none = refl; behind = refl; shorter = omega arith; cheaper = omega arith }

pub closes_end : (m : Machine) → m.pending.items ≡ [] → Closes m []
unfolding upto after cost
closes_end m e =
    let z : reverse m.pending.items ≡ [] = ap (λ v. reverse v) e in
    record { none = refl; behind = sym z; shorter = subst (λ v. length v ≤ 0) (sym z) (omega arith); cheaper = subst (λ v. cost v ≤ 0) (sym z) (omega arith) }

-- a list from which nothing could be taken, and what is left of it
pub record Emptied {A : Type 0} (old new : List A) : Type 0 where
  pub before : old ≡ []
  pub now : new ≡ []

pub emptied : {A : Type 0} (old new : List A) (n : ℕ) → n ≡ 0 → new ≡ take (n - 1) old → old ≡ new ++ [] → Emptied old new
emptied old new n z r e =
    let t : new ≡ [] = r ∙ ap (λ k. take (k - 1) old) z in
    record { before = e ∙ ap (λ l. l ++ []) t; now = t }

pub close_last : (items : List Item) (m new : Machine) (S : List Step) (id : Id PyNodes) (rule : Rule) (ps : List PyPart) → Closes m S → m.opens.items ≡ [] → length items ≤ m.at → rule ≡ label m.current.spot → ps ≡ m.current.parts → IsHung rule ps m.nodes new.nodes id.place → IsSound m → IsWhole items m S new id.place
close_last items m new S id rule ps c eo past er ep hung sound = close_whole items m new S id c.none eo past (subst (λ r. IsHung r m.current.parts m.nodes new.nodes id.place) er (subst (λ q. IsHung rule q m.nodes new.nodes id.place) ep hung)) sound

pub close_left : (items : List Item) (m : Machine) (S : List Step) (t : Tree) → Closes m S → m.opens.items ≡ [] → m.at < length items → EndsIn items m S t → ⊥
close_left items m S t c eo lt h = close_stuck items m S t c.none eo lt h

pub close_inner : (items : List Item) (m : Machine) (nodes : List PyNode) (os : Vec Open) (outer popped inner : Open) (rule : Rule) (qs : List PyPart) (S : List Step) (id : Id PyNodes) → Closes m S → m.opens.items ≡ os.items ++ popped ∷ [] → outer ≡ popped → inner ≡ m.current → rule ≡ label inner.spot → IsHung rule inner.parts m.nodes nodes id.place → qs ≡ outer.parts ++ part.Node id ∷ [] → IsSound m → Moves items m S (record m { nodes = nodes; opens = os; current = record outer { parts = qs } })
close_inner items m nodes os outer popped inner rule qs S id c eo ep ei er hung eq sound =
    close_moves items m nodes os outer qs S id c.none c.behind c.shorter c.cheaper
    (eo ∙ ap (λ o. os.items ++ o ∷ []) (sym ep))
    (subst (λ i. IsHung (label i.spot) i.parts m.nodes nodes id.place) ei (subst (λ r. IsHung r inner.parts m.nodes nodes id.place) er hung)) eq sound

-- the state after the next step is taken from the list of steps
pub popped_turns : (items : List Item) (m : Machine) (p : Vec Step) (S T : List Step) (new : Machine) (result : Result Turn Stop) → S ≡ T → Turns items (record m { pending = p }) S new result → Turns items m T new result
unfolding EndsIn left
popped_turns items m p S T new (Ok turn.On) e h = subst (λ R. Moves items m R new) e (record { trees = h.trees; fewer = h.fewer; sound = h.sound })
popped_turns items m p S T new (Ok (turn.Done id)) e h = subst (λ R. IsWhole items m R new id.place) e (record { trees = h.trees; inside = h.inside })
popped_turns items m p S T new (Err (stop.Wrong at)) e h = λ t k. h t (subst (λ R. EndsIn items m R t) (sym e) k)
popped_turns items m p S T new (Err stop.NoMemory) e h = tt

pub popped_some : (items : List Item) (m : Machine) (p : Vec Step) (top : Option Step) (x s : Step) (new : Machine) (result : Result Turn Stop) → top ≡ Some x → x ≡ s → m.pending.items ≡ p.items ++ option_to_list top → Turns items (record m { pending = p }) (s ∷ reverse p.items) new result → Turns items m (reverse m.pending.items) new result
popped_some items m p top x s new result is at e h = popped_turns items m p (s ∷ reverse p.items) (reverse m.pending.items) new result (sym (ap (λ v. reverse v) (e ∙ (ap (λ o. p.items ++ option_to_list o) is ∙ ap (λ y. p.items ++ y ∷ []) at)) ∙ reverse-append p.items (s ∷ []))) h

pub popped_none : (items : List Item) (m : Machine) (p : Vec Step) (new : Machine) (result : Result Turn Stop) → Emptied m.pending.items p.items → (p.items ≡ [] → Turns items (record m { pending = p }) [] new result) → Turns items m (reverse m.pending.items) new result
popped_none items m p new result e h = popped_turns items m p [] (reverse m.pending.items) new result (sym (ap (λ v. reverse v) e.before)) (h e.now)

no_parts : (n : ℕ) → parts_below n [] ≡ true
unfolding parts_below
no_parts n = refl

no_opens : (n : ℕ) → opens_below n [] ≡ true
unfolding opens_below
no_opens n = refl

only_child : {l : List Item} {more : Parts} {t : Tree} → Reads (symbol.Node spot.File ∷ []) l [] more → t ≡ wrap (label spot.File) more → Reads (symbol.Node spot.File ∷ []) l [] (child t end)
unfolding wrap
only_child {l = l} {t = t} (opened {qs = qs} k f done) e = subst (λ u. Reads (symbol.Node spot.File ∷ []) l [] (child u end)) (sym e) (opened k f done)

start_in : (f : ℕ → Tree) (items : List Item) (t : Tree) → Ends f [] spot.File (plants f []) (step.Do (symbol.Node spot.File) ∷ []) items t → IsTreeOf items t
unfolding Ends upto plants joined
start_in f items t h = read_file items t (only_child h.1.0.reads (h.1.1 ∙ ap (λ q. wrap (label spot.File) q) h.1.0.are))

start_out : (f : ℕ → Tree) (items : List Item) (t : Tree) → IsTreeOf items t → Ends f [] spot.File (plants f []) (step.Do (symbol.Node spot.File) ∷ []) items t
unfolding Ends upto plants joined wrap
start_out f items t h = (child t end, (record { more = child t end; reads = file_read items t h; are = refl }, refl))

-- the first state has the trees of the whole list
pub started : (items : List Item) (m : Machine) → IsStart m → IsReading items m
unfolding EndsIn
started items m s =
    let zero_at : drop m.at items ≡ items = ap (λ n. drop n items) s.at in
    let rp : reverse m.pending.items ≡ step.Do (symbol.Node spot.File) ∷ [] = ap (λ v. reverse v) s.pending in
    let ro : reverse m.opens.items ≡ [] = ap (λ v. reverse v) s.opens in
    record {
      sound = record { parts = subst (λ v. parts_below (length m.nodes) v ≡ true) (sym s.parts) (no_parts (length m.nodes)); opens = subst (λ v. opens_below (length m.nodes) v ≡ true) (sym ro) (no_opens (length m.nodes)) };
      trees = λ t. (λ h. start_in (tree_at m.nodes) items t (subst (λ v. Ends (tree_at m.nodes) v spot.File (plants (tree_at m.nodes) []) (step.Do (symbol.Node spot.File) ∷ []) items t) ro (subst (λ v. Ends (tree_at m.nodes) (reverse m.opens.items) spot.File (plants (tree_at m.nodes) []) v items t) rp (subst (λ v. Ends (tree_at m.nodes) (reverse m.opens.items) spot.File (plants (tree_at m.nodes) []) (reverse m.pending.items) v t) zero_at (subst (λ v. Ends (tree_at m.nodes) (reverse m.opens.items) spot.File (plants (tree_at m.nodes) v) (reverse m.pending.items) (drop m.at items) t) s.parts (subst (λ v. Ends (tree_at m.nodes) (reverse m.opens.items) v (plants (tree_at m.nodes) m.current.parts) (reverse m.pending.items) (drop m.at items) t) s.spot h))))), λ h. subst (λ v. Ends (tree_at m.nodes) (reverse m.opens.items) v (plants (tree_at m.nodes) m.current.parts) (reverse m.pending.items) (drop m.at items) t) (sym s.spot) (subst (λ v. Ends (tree_at m.nodes) (reverse m.opens.items) spot.File (plants (tree_at m.nodes) v) (reverse m.pending.items) (drop m.at items) t) (sym s.parts) (subst (λ v. Ends (tree_at m.nodes) (reverse m.opens.items) spot.File (plants (tree_at m.nodes) []) (reverse m.pending.items) v t) (sym zero_at) (subst (λ v. Ends (tree_at m.nodes) (reverse m.opens.items) spot.File (plants (tree_at m.nodes) []) v items t) (sym rp) (subst (λ v. Ends (tree_at m.nodes) v spot.File (plants (tree_at m.nodes) []) (step.Do (symbol.Node spot.File) ∷ []) items t) (sym ro) (start_out (tree_at m.nodes) items t h))))));
    }

pub go_on_reading : (items : List Item) (old new : Machine) → IsReading items old → Moves items old (reverse old.pending.items) new → IsReading items new
go_on_reading items old new r m = record { sound = m.sound; trees = λ t. (λ h. (r.trees t).0 ((m.trees t).1 h), λ h. (m.trees t).0 ((r.trees t).1 h)) }

pub whole_is : (items : List Item) (old new : Machine) (place : ℕ) → IsReading items old → IsWhole items old (reverse old.pending.items) new place → IsTreeOf items (tree_at new.nodes place)
whole_is items old new place r w = (r.trees (tree_at new.nodes place)).0 ((w.trees (tree_at new.nodes place)).1 refl)
