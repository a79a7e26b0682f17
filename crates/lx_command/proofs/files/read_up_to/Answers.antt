use Rattle.lx_command.proofs.Edges.{unread}
use Rattle.lx_command.proofs.files.read_up_to.Goals as goal

pub returns-in-Err : goal.returns-in-Err
returns-in-Err g c = unread c.args.limit (g.F.Read.remaining c.args.file.now) c.in-Err.fault c.in-Err.ensures
