use Rattle.std.proofs.Common.{◌≡◌, true, List, sym, subst, ◌∙◌}
use Rattle.lx_vtext.specs.Tree.{Name}
use Rattle.lx_vtree.specs.Modules.{module_of}
use Rattle.lx_write.specs.Writes.{Writes}
use Rattle.lx_translate.proofs.Translated.{translated}
use Rattle.lx_translate.proofs.writing.top_v.Goals as goal

pub returns : goal.returns
returns c =
    let d = c.args.design.now in
    let p = c.in_ok-plain.plain in
    let m = module_of c.in_ok-module.module in
    let alone : c.in_ok-alone.alone ≡ true = c.if-not-alone.false in
    translated d p c.in_ok-names-2.names.words m c.in_ok-text.text c.requires (sym c.in_ok-alone.ensures.exact ∙ alone) (c.in_ok-alone.ensures.alone alone) c.in_ok-check.ensures.0 c.in_ok-plain.ensures
    c.in_ok-names-2.ensures.exact (subst (λ (names : List Name). Writes p names m) c.as_list.ensures c.in_ok-module.ensures) c.in_ok-text.ensures.text
