use Rattle.lx_sim.proofs.Writing.{patterns_at, port_written, put_narrow}
use Rattle.lx_sim.proofs.words.write_port.Goals as goal

pub put_word-requires-clause-most : goal.put_word-requires-clause-most
put_word-requires-clause-most c = put_narrow _ _ _ _ _ _ c.requires.plan.keeps c.at-port.ensures c.in-Some.ensures

pub put_word-requires-clause-patterns : goal.put_word-requires-clause-patterns
put_word-requires-clause-patterns c = patterns_at _ _ _ _ _ c.requires.plan.keeps c.requires.words c.at-port.ensures

pub returns-in-Some : goal.returns-in-Some
returns-in-Some c = port_written _ _ _ _ _ _ _ _ _ c.requires.plan.keeps c.requires.words c.at-port.ensures c.in-Some.ensures c.put_word.ensures
