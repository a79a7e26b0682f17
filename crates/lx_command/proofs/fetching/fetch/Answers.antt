use Rattle.std.proofs.Common.{refl}
use Rattle.lx_command.proofs.Deliveries.{long_by}
use Rattle.lx_command.proofs.fetching.fetch.Goals as goal

pub returns-in-Err-TooLong-clause-fetched : goal.returns-in-Err-TooLong-clause-fetched
returns-in-Err-TooLong-clause-fetched g c = (
  refl,
  long_by (g.S.Source.files c.args.src.now) c.args.name.now (g.S.Source.faults c.args.src.now) (g.S.Source.faults c.load.new.self) c.in-Err-TooLong.field-0 _ c.in-Err-TooLong.field-0-is c.in-Err-TooLong.ensures.loads,
  c.whole.ensures,
)
