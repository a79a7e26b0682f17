use Rattle.std.proofs.Common.{sym, ◌∙◌}
use Rattle.lx_memory.proofs.Apart.{alone, alone_is, driven_all}
use Rattle.lx_memory.proofs.alone.shows_alone.Goals as goal

pub returns-clause-exact : goal.returns-clause-exact
returns-clause-exact c =
    c.and_not.ensures
    ∙ alone_is c.args.design.now _ c.put_all-apart.new.marks c.as_slice.result.now _ _ c.put_all-apart.ensures.marks c.put_all-apart.ensures.apart (driven_all c.in_ok-net.ensures c.in_ok-put_domains.ensures c.as_slice.ensures)
    c.some_marked-driven.ensures

pub returns-clause-alone : goal.returns-clause-alone
returns-clause-alone c = λ e. alone c.args.design.now c.requires (sym (returns-clause-exact c) ∙ e)
