use Rattle.std.proofs.Common.{◌≡◌, ◌<◌, length}
use Rattle.lx_syntax.specs.Forms.{expr_of}
use Rattle.lx_run.specs.Running.{is_text}
use Rattle.lx_run.proofs.run.is_text.Given as goal

abbrev pub invariant-brackets : goal.invariant-brackets
invariant-brackets l = (is_text (expr_of l.syntax l.id.place) ≡ is_text (expr_of l.syntax l.initial.id.place)) × (l.id.place < length l.syntax.nodes)

abbrev pub decreases-brackets : goal.decreases-brackets
decreases-brackets l = l.id.place
