-- Words joined by `_`.
use Rattle.std.proofs.Common.{◌≡◌, ◌∙◌, List, [], ◌∷◌, ◌++◌, codes}
use Rattle.std.proofs.lemmas.List.{append_assoc, flat_map_more}
use Rattle.lx_vtext.specs.Tree.{Name}
use Rattle.lx_namer.specs.Base.{continued}

pub continued_more : (text : Name) (words : List Name) (word : Name) → ((text ++ continued words) ++ codes "_") ++ word ≡ text ++ continued (words ++ word ∷ [])
continued_more text words word = append_assoc (text ++ continued words) (codes "_") word ∙ flat_map_more (λ w. codes "_" ++ w) text words word
