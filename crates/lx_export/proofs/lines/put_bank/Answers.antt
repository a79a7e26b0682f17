use Rattle.std.proofs.Common.{append_assoc, refl}
use Rattle.lx_export.specs.Listing.{bank_line}
use Rattle.lx_export.proofs.lines.put_bank.Goals as goal

pub returns : goal.returns
unfolding bank_line
returns c =
    rw (c.in_ok-word-5.ensures.ok, c.in_ok-word-4.ensures.ok, c.as_bytes.ensures, c.in_ok-word-3.ensures.ok, c.in_ok-put_address.ensures, c.bank_address.ensures, c.in_ok-word-2.ensures.ok, c.in_ok-count.ensures.ok, c.in_ok-word.ensures.ok) (simp append_assoc refl)
