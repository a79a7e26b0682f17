use Rattle.std.proofs.Common.{append_assoc, refl}
use Rattle.lx_export.specs.Listing.{region_line}
use Rattle.lx_export.proofs.lines.put_region.Goals as goal

pub returns : goal.returns
unfolding region_line
returns c =
    rw (c.in_ok-word-7.ensures.ok, c.in_ok-word-6.ensures.ok, c.as_bytes-2.ensures, c.in_ok-word-5.ensures.ok, c.in_ok-word-4.ensures.ok, c.as_bytes.ensures.value, c.window_word.ensures, c.in_ok-word-3.ensures.ok, c.in_ok-put_address-2.ensures, c.in_ok-word-2.ensures.ok, c.in_ok-put_address.ensures, c.in_ok-word.ensures.ok) (simp append_assoc refl)
