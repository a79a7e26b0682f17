use Rattle.std.proofs.Common.{ap}
use Rattle.lx_num.specs.declared.Shape.{Shape}
use Rattle.lx_memory.proofs.Fetching.{fetch_put}
use Rattle.lx_memory.proofs.Nodes.{can_fetch}
use Rattle.lx_memory.proofs.words.push_fetch.Goals as goal

pub push_expr-requires : goal.push_expr-requires
push_expr-requires c = can_fetch _ _ _ c.args.at c.keeps.ensures c.requires.memory c.requires.there c.requires.plain (ap (λ (a : Shape). a.bits) c.word_shape-width.ensures)

pub returns : goal.returns
returns c = fetch_put (ap (λ (a : Shape). a.bits) c.word_shape-width.ensures) c.in_ok-id.ensures.ok
