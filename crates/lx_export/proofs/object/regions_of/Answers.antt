use Rattle.std.proofs.Common.{◌≡◌, ◌∙◌, true, ap, map, subst, sym}
use Rattle.serde_json.specs.Data.{no_members, object}
use Rattle.serde_json.specs.View.{members_view}
use Rattle.lx_soc.specs.Told.{are_regions}
use Rattle.lx_export.specs.Json.{region_entry, with_entries}
use Rattle.lx_export.proofs.object.regions_of.Goals as goal

pub put_regions-requires : goal.put_regions-requires
put_regions-requires c = subst (λ xs. are_regions xs ≡ true) (sym c.as_slice.ensures) c.args.s.now.regions

pub returns : goal.returns
returns c =
    let begun = ap members_view c.new-object.ensures.empty in
    c.from.ensures ∙ ap object
    (c.in_ok-put_regions.ensures ∙ (ap (λ ms. with_entries ms (map region_entry c.as_slice.result.now)) begun
    ∙ ap (λ xs. with_entries no_members (map region_entry xs)) c.as_slice.ensures))
