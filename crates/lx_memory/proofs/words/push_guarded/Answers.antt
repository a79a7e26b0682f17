use Rattle.lx_memory.proofs.Fetching.{guarded_put}
use Rattle.lx_memory.proofs.words.push_guarded.Goals as goal

pub returns : goal.returns
returns c = guarded_put c.requires.read (rw c.depth_of-depth.ensures at c.in_ok-cond.ensures) (rw c.word_shape-shape.ensures at c.in_ok-nothing.ensures) c.requires.word c.in_ok-id.ensures.ok
