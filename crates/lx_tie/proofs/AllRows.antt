-- All rows of the table of operators together.
use Rattle.std.proofs.Common.{pos, [], ◌*◌, false}
use Rattle.lx_circuit.specs.Shapes.{bits_sum}
use Rattle.lx_circuit.specs.Values.{cat_pattern, replicate_value}
use Rattle.lx_vmeaning.specs.Meaning.{concat, repeat}
use Rattle.lx_tie.specs.Rows.{AllRowsStand, IsPartsLaw, IsCopiesLaw, reversed_onto}
use Rattle.lx_tie.proofs.Leaves.{exact_spreads, spreads_drives}
use Rattle.lx_tie.proofs.Parts.{exact_cat, exact_repeat}
use Rattle.lx_tie.proofs.Rows.{unary_drives, binary_drives, choice_drives}

parts_drive : IsPartsLaw
parts_drive u m ss zs es stand some =
    spreads_drives u (bits_sum ss) (pos (cat_pattern ss zs)) (concat (reversed_onto es []))
    (exact_spreads u (bits_sum ss) false (pos (cat_pattern ss zs)) (concat (reversed_onto es [])) (exact_cat u ss zs es stand some))

copies_drive : IsCopiesLaw
copies_drive u m a k x d some exact =
    spreads_drives u (k * a.bits) (replicate_value a k x) (repeat k d)
    (exact_spreads u (k * a.bits) false (replicate_value a k x) (repeat k d) (exact_repeat u a k x d exact some))

pub all_rows : AllRowsStand
all_rows = record { unary = unary_drives; binary = binary_drives; choice = choice_drives; parts = parts_drive; copies = copies_drive }
