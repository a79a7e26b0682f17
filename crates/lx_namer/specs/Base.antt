-- The base name of a signal or a memory, from its path.
use Rattle.std.specs.Prelude.{List, [], ◌∷◌, ◌++◌, codes, if◌then◌else◌}
use Rattle.std.specs.List.{flat_map}
use Rattle.lx_tables.specs.VerilogWords.{is_verilog_word}
use Rattle.lx_vtext.specs.Tree.{Name}

-- each word behind `_`
abbrev pub continued : List Name → Name
continued words = flat_map (λ w. codes "_" ++ w) words

-- the words, with `_` between each two
abbrev pub joined : List Name → Name
joined [] = []
joined (word ∷ words) = word ++ continued words

-- a keyword of Verilog gets a further `_`
abbrev pub kept_apart : Name → Name
kept_apart name = if is_verilog_word name then name ++ codes "_" else name

unfoldable pub base_name : List Name → Name
base_name path = kept_apart (joined path)
