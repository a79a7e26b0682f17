use Rattle.lx_syntax.proofs.Trailing.{read_more, read_none}
use Rattle.lx_syntax.proofs.trailers.trailers_of.Goals as goal

pub trailers-init : goal.trailers-init
trailers-init c = read_none _ _ _ _ _ c.requires.low c.new-trailers.ensures

pub trailers-preserved : goal.trailers-preserved
trailers-preserved c = read_more _ _ _ _ _ _ _ _ _ c.trailers.invariant c.in-On.ensures c.in_ok-put-in-On.ensures
