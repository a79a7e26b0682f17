use Rattle.std.proofs.Common.{append_assoc, refl}
use Rattle.lx_export.specs.Csv.{bank_row}
use Rattle.lx_export.proofs.table.put_bank.Goals as goal

pub returns : goal.returns
unfolding bank_row
returns c =
    rw (c.in_ok-word-4.ensures.ok, c.in_ok-put_address.ensures, c.bank_address.ensures, c.in_ok-word-3.ensures.ok, c.in_ok-word-2.ensures.ok, c.as_bytes.ensures, c.in_ok-word.ensures.ok) (simp append_assoc refl)
