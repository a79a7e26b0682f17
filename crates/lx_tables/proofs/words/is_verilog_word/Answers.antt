use Rattle.std.proofs.Common.{ap, ◌∙◌}
use Rattle.std.specs.List.{list_any}
use Rattle.std.specs.Str.{bytes_eq}
use Rattle.lx_tables.specs.VerilogWords.{verilog_words}
use Rattle.lx_tables.proofs.words.is_verilog_word.Goals as goal

pub returns : goal.returns
unfolding verilog_words
returns c = c.has.ensures ∙ ap (λ words. list_any (bytes_eq c.args.word.now) words) c.new.ensures
