use Rattle.lx_bench.proofs.Fans.{lines_fan}
use Rattle.lx_bench.proofs.designs.put_form.Goals as goal

pub returns-in-Lines : goal.returns-in-Lines
returns-in-Lines c = lines_fan _ _ _ c.in_ok-lines.ensures
