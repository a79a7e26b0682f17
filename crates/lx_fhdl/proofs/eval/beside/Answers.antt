use Rattle.std.proofs.Common.{arith}
use Rattle.lx_fhdl.proofs.Parts.{beside_is}
use Rattle.lx_fhdl.proofs.eval.beside.Goals as goal

pub overflow_mul-result : goal.overflow_mul-result
overflow_mul-result c =
    let e = beside_is c.args.pattern c.args.low c.args.above c.args.bits c.requires.pattern c.requires.above c.requires.narrow in
    omega arith

pub overflow_add-result : goal.overflow_add-result
overflow_add-result c =
    let e = beside_is c.args.pattern c.args.low c.args.above c.args.bits c.requires.pattern c.requires.above c.requires.narrow in
    omega arith

pub returns-clause-below : goal.returns-clause-below
returns-clause-below c =
    let e = beside_is c.args.pattern c.args.low c.args.above c.args.bits c.requires.pattern c.requires.above c.requires.narrow in
    omega arith
