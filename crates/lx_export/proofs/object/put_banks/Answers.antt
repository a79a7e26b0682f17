use Rattle.std.proofs.Common.{◌≡◌, ◌∙◌, true, ap, arith, subst, sym}
use Rattle.serde_json.specs.Data.{number, unsigned}
use Rattle.lx_export.specs.Ascii.{are_ascii}
use Rattle.lx_export.specs.Json.{bank_entry}
use Rattle.lx_export.proofs.Joined.{entries_next, number_at, word_ascii}
use Rattle.lx_export.proofs.object.put_banks.Goals as goal

pub put-requires : goal.put-requires
put-requires c =
    subst (λ key. are_ascii key ≡ true) (sym c.as_bytes.ensures)
    (word_ascii c.bank-item.result.name (number_at c.args.banks.now c.loop-bank.bank-index c.bank-item.result c.requires.names (omega arith) c.bank-item.is).0)

pub loop-bank-preserved : goal.loop-bank-preserved
loop-bank-preserved c =
    entries_next (bank_entry c.args.base) _ _ _ c.args.banks.now c.loop-bank.bank-index c.bank-item.result _ _ (omega arith) c.bank-item.is
    c.as_bytes.ensures (c.from.ensures ∙ ap (λ n. number (unsigned n)) c.bank_address.ensures) c.in_ok-put.ensures c.loop-bank.invariant
