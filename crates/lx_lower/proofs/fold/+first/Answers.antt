use Rattle.std.proofs.Common.{arith}
use Rattle.lx_lower.proofs.Alone.{NoFirst, else_first, empty_first, first_in, none_first, then_first}
use Rattle.lx_lower.proofs.fold.+first.Goals.{first_line-else-as_slice-lt1-via-then-as_slice-lt1, first_line-else-as_slice-lt1-via-in-len1-up+else-not-is_empty}
use Rattle.lx_lower.proofs.fold.+first.Goals as goal

pub first_line-returns-in-If : goal.first_line-returns-in-If
first_line-returns-in-If t c =
    then_first _ c.args.stmt.signal.0 _ _ _ _ _ _ _ _ _ _ (c.stmt.ensures.lines c.args.stmt.signal.0) c.in-If.is c.as_slice.ensures c.in-len1-up.len_at_least c.branch-item.is c.as_slice-in-If.ensures c.first_line_in.ensures

pub first_line-returns-else-as_slice-lt1 : goal.first_line-returns-else-as_slice-lt1
first_line-returns-else-as_slice-lt1 t c =
    let none : NoFirst c.in-If.branches = elim c.else-as_slice-lt1.branch [
      | first_line-else-as_slice-lt1-via-then-as_slice-lt1 w ↦ none_first _ _ c.as_slice.ensures (grind arith)
      | first_line-else-as_slice-lt1-via-in-len1-up+else-not-is_empty w ↦ empty_first _ _ _ _ c.as_slice.ensures w.branch-item.is (grind arith)
    ] in
    else_first _ _ _ _ _ _ _ _ _ (c.stmt.ensures.lines c.args.stmt.signal.0) c.stmt.ensures.tree c.args.stmt.alone c.in-If.is none _ c.as_slice-in-If-2.ensures c.first_line_in-in-If.ensures

pub first_line_in-returns : goal.first_line_in-returns
first_line_in-returns t c = first_in _ _ _ _ c.requires c.first_line.ensures
