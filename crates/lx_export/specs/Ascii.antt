-- Texts of ASCII.
use Rattle.std.specs.Prelude.{ℕ, Bool, List, nat_lt}
use Rattle.std.specs.List.{list_all}

abbrev pub are_ascii : List ℕ → Bool
are_ascii bytes = list_all (λ b. nat_lt b 128) bytes
