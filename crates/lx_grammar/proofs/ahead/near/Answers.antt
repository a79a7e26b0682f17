use Rattle.std.proofs.Common.{ℕ, ◌≡◌, ◌≤◌, ◌∙◌, List, [], ◌∷◌, length, get_or, arith, sym, ap}
use Rattle.lx_grammar.specs.declared.sign.Item.{Item}
use Rattle.lx_grammar.specs.Numbers.{number}
use Rattle.lx_grammar.specs.Ahead.{mark, look}
use Rattle.lx_grammar.proofs.Below.{number_below}
use Rattle.lx_grammar.proofs.Marks.{mark_near}
use Rattle.lx_grammar.proofs.ahead.near.Goals as goal

look_three : (d : Item) (l : List Item) (a n : ℕ) → 3 ≤ length l → a ≡ mark (number (get_or l 1 d).sign) (number (get_or l 2 d).sign) → n ≡ mark (number (get_or l 0 d).sign) a → n ≡ look l
unfolding look
look_three d [] a n h p q = absurd (omega arith)
look_three d (x ∷ []) a n h p q = absurd (omega arith)
look_three d (x ∷ y ∷ []) a n h p q = absurd (omega arith)
look_three d (x ∷ y ∷ z ∷ l) a n h p q = q ∙ (ap (λ k. mark (number x.sign) k) p ∙ sym (mark_near (number x.sign) (number y.sign) (number z.sign) (look l) (number_below y.sign) (number_below z.sign)))

pub returns-in-len3-up : goal.returns-in-len3-up
returns-in-len3-up c = look_three _ c.args.items.now _ _ c.in-len3-up.len_at_least c.marked-in-len3-up.ensures c.marked-in-len3-up-2.ensures
