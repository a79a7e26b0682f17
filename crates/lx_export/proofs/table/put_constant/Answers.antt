use Rattle.std.proofs.Common.{append_assoc, refl}
use Rattle.lx_export.specs.Csv.{constant_row}
use Rattle.lx_export.proofs.table.put_constant.Goals as goal

pub returns : goal.returns
unfolding constant_row
returns c =
    rw (c.in_ok-word-3.ensures.ok, c.in_ok-put_value.ensures, c.in_ok-word-2.ensures.ok, c.in_ok-put_lower.ensures, c.as_bytes.ensures, c.in_ok-word.ensures.ok) (simp append_assoc refl)
