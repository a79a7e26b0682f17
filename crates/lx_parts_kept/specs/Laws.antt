-- What the three tests say together.
use Rattle.std.specs.Prelude.{◌≡◌, true}
use Rattle.lx_arena.specs.Lower.{EachLower}
use Rattle.lx_fhdl.specs.Kept.{is_kept}
use Rattle.lx_description.specs.Below.{fsm_below}
use Rattle.lx_description.specs.Keeping.{KeepsDescription}
use Rattle.lx_description.specs.declared.description.Description.{Description}
use Rattle.lx_fsm_kept.specs.Stand.{fsms_stand}
use Rattle.lx_parts_kept.specs.Parts.{parts_keep}

-- A description whose design, whose FSMs and whose other parts pass their tests keeps what descriptions keep. (That each
-- statement of an FSM stands behind those inside it is kept by the arena.)
abbrev pub PartsKeep : Type 0
PartsKeep = (d : Description) → is_kept d.design ≡ true → fsms_stand d ≡ true → EachLower fsm_below d.fsm_stmts → parts_keep d ≡ true → KeepsDescription d
