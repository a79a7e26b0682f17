use Rattle.std.proofs.Common.{append_assoc, refl}
use Rattle.lx_export.specs.Ld.{memory_line}
use Rattle.lx_export.proofs.memories.put_memory.Goals as goal

pub returns : goal.returns
unfolding memory_line
returns c =
    rw (c.in_ok-word-5.ensures.ok, c.in_ok-put_address-2.ensures, c.in_ok-word-4.ensures.ok, c.in_ok-put_address.ensures, c.in_ok-word-3.ensures.ok, c.in_ok-word-2.ensures.ok, c.as_bytes.ensures, c.in_ok-word.ensures.ok) (simp append_assoc refl)
