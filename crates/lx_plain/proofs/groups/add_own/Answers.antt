use Rattle.std.proofs.Common.{ap, sym, ◌∙◌, set}
use Rattle.std.proofs.lemmas.List.{get_or_default}
use Rattle.lx_plain.specs.Owned.{no_group, with_stmt}
use Rattle.lx_plain.specs.declared.groups.Group.{Group}
use Rattle.lx_plain.proofs.Grouping.{own_added}
use Rattle.lx_plain.proofs.groups.add_own.Goals as goal

pub returns-clause-ok : goal.returns-clause-ok
returns-clause-ok c =
    let gs = c.group_of.new.groups.items in
    let at = c.in_ok-at.at in
    let here = get_or_default gs at no_group _ c.in_ok-at.ensures.ok.within in
    own_added _ _ _ _ _ c.args.own _ c.args.holds c.in_ok-at.ensures.ok (ap (set gs at) (c.in_ok-add_to.ensures ∙ ap (λ (g : Group). with_stmt g c.args.own.stmt c.args.holds) (c.index_mut.ensures.value ∙ sym here)))
