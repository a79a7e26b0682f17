use Rattle.std.proofs.lemmas.Result.{on_ok_weaker}
use Rattle.std.proofs.Common.{◌∙◌, ap, map}
use Rattle.lx_vtree.specs.Modules.{decl_of}
use Rattle.lx_sheet.proofs.Lines.{line_more}
use Rattle.lx_nets.proofs.Remembered.{decl_is}
use Rattle.lx_nets.proofs.memories.put_decl.Goals as goal

pub returns : goal.returns
returns c = on_ok_weaker c.push.result (λ e. ap (map decl_of) e ∙ line_more decl_of _ _ _ (decl_is _ _ _ _ c.memory-memory.ensures.item c.in_ok-name.ensures)) c.push.ensures.ok
