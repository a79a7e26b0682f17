-- The same trees, where at each place the row is the one that is picked by what stands ahead.
use Rattle.std.specs.Prelude.{true, List, [], ◌∷◌, ◌≡◌, Some, None, slice_get}
use Rattle.lx_grammar.specs.declared.sign.Item.{Item}
use Rattle.lx_grammar.specs.declared.sign.Sign.{Sign}
use Rattle.lx_grammar.specs.declared.grammar.Spot.{Spot}
use Rattle.lx_grammar.specs.declared.grammar.Symbol.{Symbol}
use Rattle.lx_grammar.specs.declared.grammar.Symbol.TheVariants as symbol
use Rattle.lx_grammar.specs.Numbers.{number}
use Rattle.lx_grammar.specs.Grammar.{rules}
use Rattle.lx_grammar.specs.Pick.{pick}
use Rattle.lx_grammar.specs.Ahead.{view}
use Rattle.lx_grammar.specs.Derives.{Parts, end, token, child, joined, wrap, label, takes}

pub data Reads : List Symbol → List Item → List Item → Parts → Type 0 where
  done : {l : List Item} → Reads [] l l end
  took : {s : Sign} {α : List Symbol} {x : Item} {l m : List Item} {ps : Parts} → takes (number s) (number x.sign) ≡ true → Reads α l m ps → Reads (symbol.Token s ∷ α) (x ∷ l) m (token x.token ps)
  opened : {r : Spot} {β α : List Symbol} {l k m : List Item} {qs ps : Parts} → slice_get (rules r) (pick r (view r l)) ≡ Some β → Reads β l k qs → Reads α k m ps → Reads (symbol.Node r ∷ α) l m (child (wrap (label r) qs) ps)
  inlined : {r : Spot} {β α : List Symbol} {l k m : List Item} {qs ps : Parts} → slice_get (rules r) (pick r (view r l)) ≡ Some β → Reads β l k qs → Reads α k m ps → Reads (symbol.One r ∷ α) l m (joined qs ps)
  skipped : {r : Spot} {α : List Symbol} {l m : List Item} {ps : Parts} → slice_get (rules r) (pick r (view r l)) ≡ None → Reads α l m ps → Reads (symbol.Maybe r ∷ α) l m ps
  given : {r : Spot} {β α : List Symbol} {l k m : List Item} {qs ps : Parts} → slice_get (rules r) (pick r (view r l)) ≡ Some β → Reads β l k qs → Reads α k m ps → Reads (symbol.Maybe r ∷ α) l m (joined qs ps)
  ended : {r : Spot} {α : List Symbol} {l m : List Item} {ps : Parts} → slice_get (rules r) (pick r (view r l)) ≡ None → Reads α l m ps → Reads (symbol.Many r ∷ α) l m ps
  again : {r : Spot} {β α : List Symbol} {l k m : List Item} {qs ps : Parts} → slice_get (rules r) (pick r (view r l)) ≡ Some β → Reads β l k qs → Reads (symbol.Many r ∷ α) k m ps → Reads (symbol.Many r ∷ α) l m (joined qs ps)
