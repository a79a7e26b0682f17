use Rattle.std.proofs.Common.{◌≡◌, true, arith, subst, sym}
use Rattle.lx_export.specs.Ascii.{are_ascii}
use Rattle.lx_export.specs.Json.{register_entry}
use Rattle.lx_export.proofs.Joined.{entries_next, register_at, word_ascii}
use Rattle.lx_export.proofs.object.put_registers.Goals as goal

pub put-requires : goal.put-requires
put-requires c =
    subst (λ key. are_ascii key ≡ true) (sym c.as_bytes.ensures)
    (word_ascii c.register-item.result.name (register_at c.args.registers.now c.loop-register.register-index c.register-item.result c.requires (omega arith) c.register-item.is))

pub loop-register-preserved : goal.loop-register-preserved
loop-register-preserved c =
    entries_next register_entry _ _ _ c.args.registers.now c.loop-register.register-index c.register-item.result _ _ (omega arith) c.register-item.is
    c.as_bytes.ensures c.in_ok-value.ensures c.in_ok-put.ensures c.loop-register.invariant
