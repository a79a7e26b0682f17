use Rattle.std.proofs.Common.{◌≡◌, true, arith, subst, sym}
use Rattle.lx_export.specs.Ascii.{are_ascii}
use Rattle.lx_export.specs.Json.{constant_entry}
use Rattle.lx_export.proofs.Joined.{constant_at, entries_next, lower_ascii, lowered}
use Rattle.lx_export.proofs.object.put_constants.Goals as goal

pub value_of-requires : goal.value_of-requires
value_of-requires c = (constant_at c.args.constants.now c.loop-constant.constant-index c.constant-item.result c.requires (omega arith) c.constant-item.is).1

pub put-requires : goal.put-requires
put-requires c =
    subst (λ key. are_ascii key ≡ true)
    (sym (lowered _ _ _ _ c.constant-item.result.name c.as_bytes-in-loop-constant.ensures c.in_ok-put_lower.ensures c.new-name.ensures c.as_bytes.ensures))
    (lower_ascii c.constant-item.result.name (constant_at c.args.constants.now c.loop-constant.constant-index c.constant-item.result c.requires (omega arith) c.constant-item.is).0)

pub loop-constant-preserved : goal.loop-constant-preserved
loop-constant-preserved c =
    entries_next constant_entry _ _ _ c.args.constants.now c.loop-constant.constant-index c.constant-item.result _ _ (omega arith) c.constant-item.is
    (lowered _ _ _ _ c.constant-item.result.name c.as_bytes-in-loop-constant.ensures c.in_ok-put_lower.ensures c.new-name.ensures c.as_bytes.ensures)
    c.in_ok-value.ensures c.in_ok-put.ensures c.loop-constant.invariant
