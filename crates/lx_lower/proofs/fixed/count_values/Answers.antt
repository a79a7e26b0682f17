use Rattle.std.proofs.Common.{List, subst, ◌∙◌}
use Rattle.std.specs.Prelude.{ℤ}
use Rattle.lx_lower.specs.Fixed.{AreValued}
use Rattle.lx_lower.proofs.Masks.{written}
use Rattle.lx_lower.proofs.fixed.count_values.Goals as goal

pub returns : goal.returns
returns g c =
    let same = written _ _ _ _ c.from_vec.ensures (c.eval_into.auto.into ∙ c.as_mut_slice.ensures.len) in
    subst (λ (known : List ℤ). AreValued c.args.exprs.now c.args.shapes.now known) same (record {
      long = c.eval_into.auto.into ∙ c.as_mut_slice.ensures.len ∙ c.in_ok-known.ensures.len ∙ c.len.ensures;
      each = c.eval_into.ensures.values;
    })
