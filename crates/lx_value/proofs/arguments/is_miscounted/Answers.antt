use Rattle.std.proofs.Common.{◌∙◌, ◌&&◌, Bool, List, ℕ, ap, not}
use Rattle.lx_value.proofs.Binding.{miscounted_before, miscounted_behind}
use Rattle.lx_value.proofs.Repeats.{among}
use Rattle.lx_value.proofs.arguments.is_miscounted.Goals as goal

pub returns-then-place-placed : goal.returns-then-place-placed
returns-then-place-placed c =
    c.has-named.ensures ∙ ap (λ (n : List ℕ). among n c.args.keys.now) c.as_bytes.ensures
    ∙ miscounted_before c.args.placed c.args.place c.args.keys.now c.args.param.now c.requires.distinct c.if-place-placed.true

pub returns-else-place-placed : goal.returns-else-place-placed
returns-else-place-placed c =
    c.is_missing.ensures
    ∙ ap (λ (b : Bool). c.args.param.now.required && not b) (c.has-named.ensures ∙ ap (λ (n : List ℕ). among n c.args.keys.now) c.as_bytes.ensures)
    ∙ miscounted_behind c.args.placed c.args.place c.args.keys.now c.args.param.now c.requires.distinct c.if-place-placed.false
