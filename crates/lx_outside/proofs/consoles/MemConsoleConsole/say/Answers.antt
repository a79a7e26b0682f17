use Rattle.std.proofs.Common.{rules, arith, ap}
use Rattle.lx_outside.proofs.Parts.{says_part}
use Rattle.lx_outside.proofs.consoles.MemConsoleConsole.say.Goals as goal

pub returns-clause-says : goal.returns-clause-says
returns-clause-says c =
    let faults = ap (λ s. s.faults) c.self.view_is in
    (omega (arith, faults, c.saturating_add-self-inside-2.ensures), says_part c.add_bytes-added.result c.taken_at-taken.result c.args.self.now.bytes c.add_bytes-added.new.items.items c.args.bytes.now (search rules))
