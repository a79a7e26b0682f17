use Rattle.std.proofs.Common.{◌∙◌, ◌+◌, ap, arith, drop}
use Rattle.std.specs.Prelude.{List}
use Rattle.lx_objects.specs.Cases.{Key, keys_fit}
use Rattle.lx_objects.proofs.Keys.{keys_more}
use Rattle.lx_objects.proofs.cases.keys_fit.Goals as goal

pub loop-pair-preserved : goal.loop-pair-preserved
loop-pair-preserved c =
    ap (λ (ks : List Key). keys_fit c.args.line ks (drop (c.loop-pair.pair-index + 1) c.args.pairs.now) c.args.machine.now) c.in_ok-add.ensures
    ∙ keys_more c.args.line c.loop-pair.seen c.args.pairs.now c.loop-pair.pair-index _ c.args.machine.now c.in_ok-key.key c.args.machine.now (omega arith) c.in_ok-key.ensures
    ∙ c.loop-pair.invariant
