use Rattle.std.proofs.Common.{ap, ◌∙◌}
use Rattle.std.specs.List.{list_any}
use Rattle.std.specs.Str.{bytes_eq}
use Rattle.lx_csr.specs.CWords.{c_words}
use Rattle.lx_csr.proofs.c_words.is_c_word.Goals as goal

pub returns : goal.returns
unfolding c_words
returns c = c.has.ensures ∙ ap (λ words. list_any (bytes_eq c.args.word.now) words) c.new.ensures
