use Rattle.std.proofs.Common.{◌∙◌, sym}
use Rattle.lx_syntax.proofs.Bracketing.{choice_made, no_choice, value_rest}
use Rattle.lx_syntax.proofs.exprs.choice.Goals as goal

pub returns-in-Done : goal.returns-in-Done
returns-in-Done c = no_choice _ _ _ _ c.in_ok-ids.ensures (sym c.as_slice.ensures ∙ c.in-Done.ensures)

pub branchings_of-requires-clause-inside : goal.branchings_of-requires-clause-inside
branchings_of-requires-clause-inside c = value_rest _ _ _ _ _ _ c.in_ok-ids.ensures (sym c.as_slice.ensures ∙ c.in-Next.ensures.0) c.requires.low c.requires.inside

pub returns : goal.returns
returns c = choice_made _ _ _ _ _ _ _ _ c.in_ok-ids.ensures (sym c.as_slice.ensures ∙ c.in-Next.ensures.0) c.requires.low c.requires.begin c.in_ok-branchings_of-in-Next.ensures
