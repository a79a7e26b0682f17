use Rattle.std.proofs.Common.{◌∙◌, ap}
use Rattle.std.specs.List.{list_any}
use Rattle.std.specs.Prelude.{List}
use Rattle.lx_objects.specs.Cases.{Key, same_key}
use Rattle.lx_objects.proofs.Keys.{has_is}
use Rattle.lx_objects.proofs.cases.Seen.has.Goals as goal

pub returns : goal.returns
returns c = c.contains.ensures ∙ has_is c.args.key c.self.inside.set.keys ∙ ap (λ (ks : List Key). list_any (same_key c.args.key) ks) c.self.view_is
