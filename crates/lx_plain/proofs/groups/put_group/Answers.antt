use Rattle.std.proofs.Common.{◌≡◌, ◌∙◌, [], true, sym}
use Rattle.std.proofs.lemmas.Bool.{true≢false}
use Rattle.lx_plain.proofs.Under.{group_none, group_put}
use Rattle.lx_plain.proofs.groups.put_group.Goals as goal
use Rattle.lx_plain.proofs.groups.put_group.Goals.{else-is_empty-via-then-is_empty+else-is_empty-2, else-is_empty-via-else-is_empty}

pub returns-then-is_empty-2 : goal.returns-then-is_empty-2
returns-then-is_empty-2 c = group_none _ _ _ _ c.args.line c.requires.out (c.is_empty.ensures.0 (search c.if-is_empty.true)) (c.is_empty-then-is_empty.ensures.0 (search c.if-is_empty-2.true))

pub returns : goal.returns
returns c =
    let some : c.args.group.now.then_ ≡ [] → c.args.group.now.else_ ≡ [] → ⊥ =
    λ e f. elim c.else-is_empty.branch [
      | else-is_empty-via-then-is_empty+else-is_empty-2 w ↦ let t : w.is_empty-then-is_empty.result ≡ true = search (w.is_empty-then-is_empty.ensures.1 f) in absurd (true≢false (sym t ∙ w.if-is_empty-2.false))
      | else-is_empty-via-else-is_empty w ↦ let t : c.is_empty.result ≡ true = search (c.is_empty.ensures.1 e) in absurd (true≢false (sym t ∙ w.if-is_empty.false))
    ] in
    group_put _ _ _ _ c.args.cond c.args.group.now c.args.line some (rw (c.in_ok-of_one.ensures, c.in_ok-body.ensures, c.as_slice.ensures, c.in_ok-rest.ensures, c.as_slice-2.ensures) at c.in_ok-put_own.ensures)
