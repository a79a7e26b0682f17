use Rattle.std.proofs.Common.{arith}
use Rattle.lx_parts_kept.proofs.Wires.{all_fit}
use Rattle.lx_parts_kept.proofs.system.words_fit.Goals as goal

pub returns : goal.returns
returns c = all_fit c.args.words.now (λ k l. omega (arith, c.type_inv.words k))
