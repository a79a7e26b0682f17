-- The signals among nodes, and the line of a cycle as marks tell it.
use Rattle.std.specs.Prelude.{ℕ, Bool, List, [], ◌∷◌, Option, Some, None, nat_lt, slice_index_or}
use Rattle.std.specs.List.{filter, list_all}
use Rattle.lx_reads.specs.declared.net.Driven.{Driven}
use Rattle.lx_check.specs.Marks.{no_mark}
use Rattle.lx_check.specs.declared.marks.Mark.{Mark}

abbrev pub is_under : ℕ → ℕ → Bool
is_under n x = nat_lt x n

abbrev pub are_under : ℕ → List ℕ → Bool
are_under n xs = list_all (is_under n) xs

abbrev pub signals_among : ℕ → List ℕ → List ℕ
signals_among n nodes = filter (is_under n) nodes

abbrev pub line_marked : Option Driven → ℕ
line_marked None = 0
line_marked (Some a) = a.line

abbrev pub line_among : List Mark → List ℕ → ℕ
line_among marks [] = 0
line_among marks (x ∷ others) = line_marked (slice_index_or marks x no_mark).first
