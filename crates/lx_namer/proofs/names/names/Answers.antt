use Rattle.std.proofs.lemmas.Result.{err_from_is_err_and}
use Rattle.lx_namer.proofs.Fit.{fit_as, names_are, ports_fit, refused, resets_as}
use Rattle.lx_namer.proofs.names.names.Goals as goal

pub returns-in_err-check_ports-clause-exact : goal.returns-in_err-check_ports-clause-exact
returns-in_err-check_ports-clause-exact c =
    let p = err_from_is_err_and c.from_residual-in_err-check_ports.result c.from_residual-in_err-check_ports.ensures.1 in
    rw (p.1, p.2) (refused c.args.design.now c.in_err-check_ports.field-0.0 c.in_err-check_ports.ensures.fault)

pub returns-clause-exact : goal.returns-clause-exact
returns-clause-exact c = names_are c.args.design.now c.in_ok-words.words c.in_ok-check_ports.ensures.none c.in_ok-words.ensures

pub returns-clause-fit : goal.returns-clause-fit
returns-clause-fit c = fit_as c.args.design.now c.in_ok-words.words (record { keeps = c.requires; ports = c.in_ok-check_ports.ensures.none }) c.in_ok-words.ensures

pub returns-clause-ports : goal.returns-clause-ports
returns-clause-ports c = ports_fit c.args.design.now (record { keeps = c.requires; ports = c.in_ok-check_ports.ensures.none })

pub returns-clause-resets : goal.returns-clause-resets
returns-clause-resets c = resets_as c.args.design.now c.in_ok-words.words (record { keeps = c.requires; ports = c.in_ok-check_ports.ensures.none }) c.in_ok-words.ensures
