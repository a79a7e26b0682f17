-- Elaboration.
use Rattle.std.specs.Prelude.{Bool, true, false, ◌&&◌, List, Result, Ok, Err}
use Rattle.lx_text.specs.declared.faults.Fault.{Fault}
use Rattle.lx_text.specs.declared.faults.Kind.TheVariants as kind
use Rattle.lx_alloc.specs.Judged.{first}
use Rattle.lx_fhdl.specs.Kept.{is_kept}
use Rattle.lx_syntax.specs.Ast as ast
use Rattle.lx_state.specs.Step.{◌>>=◌}
use Rattle.lx_state.specs.declared.machine.Machine.{Machine}
use Rattle.lx_description.specs.declared.description.Description.{Description}
use Rattle.lx_describe.specs.Answers.{answer}
use Rattle.lx_describe.specs.Describing.{described}
use Rattle.lx_describe.specs.Start.{start}
use Rattle.lx_fsm_kept.specs.Stand.{fsms_stand}
use Rattle.lx_parts_kept.specs.Parts.{parts_keep}
use Rattle.lx_run.specs.Classes.{description_run}
use Rattle.lx_elab.specs.Fsms.{bodies_there, fsm_faults, unless}

-- What classes describe when they are run under this machine, or the first fault: the top is made, and what the machine holds
-- then is described.
abbrev pub described_under : Machine → List ast.Class → Result Description Fault
described_under m classes = answer ((description_run classes >>= described) m)

-- What a text with these classes describes, or its first fault: nothing was made before.
abbrev pub untested : List ast.Class → Result Description Fault
untested classes = described_under start classes

-- ---- what is tested at the end

-- a description that fails a test is not built; none is known that fails one
abbrev pub built : Bool → Description → Result Description Fault
built true d = Ok d
built false d = Err (record { line = 0; kind = kind.NotYetBuilt })

-- the design keeps what designs keep, and the statements of all states are there
abbrev pub kept : Description → Result Description Fault
kept d = built (is_kept d.design && bodies_there d) d

-- the first fault of the FSMs in order of creation is told, whether they were added or not
abbrev pub checked : Description → Result Description Fault
checked d = unless d (first (fsm_faults d))

-- the FSMs are such as descriptions have
abbrev pub stood : Description → Result Description Fault
stood d = built (fsms_stand d) d

abbrev pub after : (Description → Result Description Fault) → Result Description Fault → Result Description Fault
after f (Ok d) = f d
after f (Err e) = Err e

-- what it declares beside its circuit is such as descriptions have
abbrev pub parted : Description → Result Description Fault
parted d = built (parts_keep d) d

-- The description of a text with these classes, which keeps what descriptions keep; or its first fault.
abbrev pub elaborated : List ast.Class → Result Description Fault
elaborated classes = after parted (after stood (after checked (after kept (untested classes))))
