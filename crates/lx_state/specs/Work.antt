-- What a description may spend.
use Rattle.std.specs.Prelude.{◌≡◌, ℕ, ◌+◌, nat_lt, if◌then◌else◌, List, length, ◌≤◌}
use Rattle.lx_text.specs.declared.faults.LimitKind.{LimitKind}
use Rattle.lx_text.specs.declared.faults.LimitKind.TheVariants as limit
use Rattle.lx_text.specs.declared.faults.Kind.TheVariants as kind
use Rattle.lx_text.specs.Limits.{limit_number}
use Rattle.lx_state.specs.declared.machine.Machine.{Machine}
use Rattle.lx_state.specs.Step.{Step, give, fault, ◌>>=◌}

-- no more than the greatest number of this kind
unfoldable pub within : ℕ → LimitKind → ℕ → Step (Unit {0})
within line what n m = if nat_lt (limit_number what) n then fault line (kind.Limit what) m else give tt m

-- where so many are there already, one more may come
unfoldable pub one_more : ℕ → LimitKind → ℕ → Step (Unit {0})
one_more line what count m = if nat_lt count (limit_number what) then give tt m else fault line (kind.Limit what) m

-- units of work
unfoldable pub spend : ℕ → ℕ → Step (Unit {0})
spend line units m = if nat_lt (limit_number limit.Work) (m.spent + units)
    then fault line (kind.Limit limit.Work) m
    else give tt (record m { spent = m.spent + units })

-- expressions and statements
unfoldable pub spend_nodes : ℕ → ℕ → Step (Unit {0})
spend_nodes line count m = if nat_lt (limit_number limit.Nodes) (m.nodes + count)
    then fault line (kind.Limit limit.Nodes) m
    else give tt (record m { nodes = m.nodes + count })

-- a name has at most as many bytes as the limit says
unfoldable pub name_fits : ℕ → List ℕ → Step (Unit {0})
name_fits line name = within line limit.Name (length name)
