use Rattle.std.proofs.Common.{length, ◌∙◌, rules}
use Rattle.std.specs.List.Sorted.{IsBinarySearchResult, IsSearchInRange}
use Rattle.std.proofs.lemmas.Fn.{always_returns_same}
use Rattle.lx_tables.specs.WordTables.{word_of}
use Rattle.lx_tables.proofs.Search.{found, order}
use Rattle.lx_tables.proofs.words.Words.has.Goals as goal

pub returns : goal.returns
returns g c =
    let words = c.self.inside.words.now in
    let searched : IsBinarySearchResult (λ t. order (word_of t) c.args.word.now) words c.binary_search_by.result =
    c.binary_search_by.ensures.position (λ t. order (word_of t) c.args.word.now) (always_returns_same _ _ _ (λ a r h called. (search rules, search rules))) in
    let within : IsSearchInRange c.binary_search_by.result (length words) = c.binary_search_by.ensures.bound in
    rw (← c.self.view_is) (c.is_ok.ensures.value ∙ found c.args.word.now words c.binary_search_by.result c.self.invariant.sorted within searched)
