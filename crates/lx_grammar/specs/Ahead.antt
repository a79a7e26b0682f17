-- What stands ahead of a place in the list of tokens: the sign of the next token, seen with those behind it.
use Rattle.std.specs.Prelude.{ℕ, List, [], ◌∷◌, nat_eq, nat_lt, ◌&&◌, ◌+◌, ◌-◌, if◌then◌else◌}
use Rattle.lx_grammar.specs.declared.sign.Item.{Item}
use Rattle.lx_grammar.specs.declared.grammar.Spot.{Spot}
use Rattle.lx_grammar.specs.Numbers.{number, accepts}
use Rattle.lx_grammar.specs.Pick.{is_far}
use Rattle.lx_grammar.specs.declared.sign.TheConstants.{OPENING, CLOSING, LOUD, ENDS_VALUES, ASSIGNING}

-- a name before `=` or `+=` is a target; a dot before a target is the last one; a comma before a target stands before
-- a keyword argument, and one before a closing bracket or the line's end is the last one
unfoldable pub mark : ℕ → ℕ → ℕ
mark c next = if nat_lt c 3 then (if accepts ASSIGNING next then 56 else c) else (if nat_eq c 54 then (if nat_eq next 56 then 57 else c) else (if nat_eq c 53 then (if accepts ENDS_VALUES next then 58 else (if nat_eq next 56 then 59 else c)) else c))

unfoldable pub look : List Item → ℕ
look [] = 60
look (x ∷ l) = mark (number x.sign) (look l)

-- the first token outside brackets that is no part of a value, or the bracket that closes; `depth` brackets are open
unfoldable pub ahead : ℕ → List Item → ℕ
ahead depth [] = 60
ahead depth (x ∷ l) = if accepts OPENING (number x.sign) then ahead (depth + 1) l else (if accepts CLOSING (number x.sign) then (if nat_eq depth 0 then number x.sign else ahead (depth - 1) l) else (if nat_eq depth 0 && accepts LOUD (number x.sign) then number x.sign else ahead depth l))

-- what a spot's row is picked by
unfoldable pub view : Spot → List Item → ℕ
view r l = if is_far r then ahead 0 l else look l
