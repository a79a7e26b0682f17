-- A test of what a description keeps beside its design and its FSMs, which are tested before.
use Rattle.std.specs.Prelude.{ℕ, Bool, true, ◌&&◌, not, List, length, nat_lt, slice_get}
use Rattle.std.specs.List.{list_all}
use Rattle.lx_circuit.specs.Circuit.{is_among}
use Rattle.lx_fhdl.specs.Nodes.{is_fetch}
use Rattle.lx_fhdl.specs.declared.exprs.Expr.{Expr}
use Rattle.lx_fhdl.specs.declared.stmts.Target.{Target}
use Rattle.lx_fhdl.specs.declared.stmts.Target.TheVariants as target
use Rattle.lx_description.specs.Keeping.{are_apart}
use Rattle.lx_description.specs.Kept.{have_lines, is_constant, is_empty, is_some_generated, modules_keep, top_keeps}
use Rattle.lx_description.specs.Wires.{bus_signals, placed}
use Rattle.lx_description.specs.declared.description.Description.{Description}

-- no port of the bus, and none of generated hardware
abbrev pub is_open : Description → ℕ → Bool
is_open d x = not (is_some_generated (slice_get d.design.signals x)) && not (is_among x (bus_signals d.soc))

-- what a target names itself may be assigned
abbrev pub names_open : Description → Target → Bool
names_open d (target.Whole x) = is_open d x.0
names_open d (target.Part x low len) = is_open d x.0
names_open d _ = true

abbrev pub are_open : Description → Bool
are_open d = list_all (λ (x : Expr). not (is_fetch x)) d.design.exprs && list_all (names_open d) d.design.targets

-- each of these is one of the first n, and none stands twice
abbrev pub are_places : ℕ → List ℕ → Bool
are_places n xs = list_all (λ x. nat_lt x n) xs && are_apart xs

-- The test, for a description whose design and whose FSMs have passed theirs.
abbrev pub parts_keep : Description → Bool
parts_keep d =
    are_open d
    && ((modules_keep d && (list_all is_constant d.constants && have_lines d))
    && (are_places (length d.design.signals) (placed d)
    && ((is_empty d.wishes.banks && is_empty d.wishes.managers) && top_keeps d d.soc)))
