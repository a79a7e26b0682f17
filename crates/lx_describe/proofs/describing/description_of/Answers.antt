use Rattle.std.proofs.Common.{◌∙◌, ap}
use Rattle.lx_state.specs.declared.machine.Machine.{Machine}
use Rattle.lx_describe.proofs.Shapes.{finished}
use Rattle.lx_describe.proofs.describing.description_of.Goals as goal

pub returns-clause-arenas : goal.returns-clause-arenas
returns-clause-arenas c =
    let same = c.replace-shaped.ensures.value ∙ ap (λ (m : Machine). m.shaped) c.in_ok-named.ensures.rest in
    finished c.args.machine.now c.replace-shaped.result c.design_of-design.result _ _ _ _ c.requires same c.design_of-design.ensures.keeps c.in_ok-named.ensures.named c.design_of-design.ensures.is
