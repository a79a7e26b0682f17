use Rattle.std.proofs.Common.{ap, ◌∙◌}
use Rattle.lx_names.specs.Tables.{with_name}
use Rattle.lx_vtext.specs.Tree.{Name}
use Rattle.lx_namer.proofs.Table.{found_after, nexts_found_after}
use Rattle.lx_namer.proofs.taken.Taken.keep.Goals as goal

pub invariant_of-self-2 : goal.invariant_of-self-2
invariant_of-self-2 c =
    nexts_found_after _ c.self.inside.table c.set.new.self c.set-2.new.self _ _ _ _ c.self.invariant c.self.view_is c.requires.first
    (c.in_ok-set.ensures.ok ∙ ap (λ (m : Name). with_name c.self.inside.table m 2) c.as_bytes.ensures) c.set-2.ensures.ok c.set-2.ensures.err

pub returns : goal.returns
returns c =
    found_after _ c.self.inside.table c.set.new.self c.set-2.new.self _ _ _ _ c.self.view_is c.requires.first
    (c.in_ok-set.ensures.ok ∙ ap (λ (m : Name). with_name c.self.inside.table m 2) c.as_bytes.ensures) c.set-2.ensures.ok
