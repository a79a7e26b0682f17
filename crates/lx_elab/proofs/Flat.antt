-- The statements of FSMs can stand in a design that keeps what designs keep, where the FSMs are such as descriptions have.
use Rattle.std.proofs.Common.{◌≡◌, subst, sym}
use Rattle.lx_fhdl.specs.Keeping.{Keeps}
use Rattle.lx_description.specs.declared.description.Description.{Description}
use Rattle.lx_fsm.specs.Flattened.{CanFlatten}
use Rattle.lx_fsm_kept.specs.Stand.{FsmsStand}

pub can_flatten : (d e : Description) → Keeps d.design → e ≡ d → FsmsStand e → CanFlatten e
can_flatten d e keeps same stand = record { design = subst (λ (x : Description). Keeps x.design) (sym same) keeps; fsms = stand.keep; driven = stand.driven; apart = stand.apart }
