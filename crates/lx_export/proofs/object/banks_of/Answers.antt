use Rattle.std.proofs.Common.{◌≡◌, ◌∙◌, true, ap, map, subst, sym}
use Rattle.serde_json.specs.Data.{no_members, object}
use Rattle.serde_json.specs.View.{members_view}
use Rattle.lx_csr.specs.Mapped.{base_of}
use Rattle.lx_soc.specs.Told.{are_numbered, are_regions}
use Rattle.lx_export.specs.Json.{bank_entry, with_entries}
use Rattle.lx_export.proofs.object.banks_of.Goals as goal

pub base_of-requires : goal.base_of-requires
base_of-requires c = subst (λ rs. are_regions rs ≡ true) (sym c.as_slice.ensures) c.args.s.now.regions

pub put_banks-requires-clause-names : goal.put_banks-requires-clause-names
put_banks-requires-clause-names c = subst (λ xs. are_numbered xs ≡ true) (sym c.as_slice-2.ensures) c.args.s.now.banks

pub returns : goal.returns
returns c =
    let begun = ap members_view c.new-object.ensures.empty in
    let base = c.base_of.ensures.base ∙ ap base_of c.as_slice.ensures in
    c.from.ensures ∙ ap object
    (c.in_ok-put_banks.ensures ∙ (ap (λ ms. with_entries ms (map (bank_entry c.base_of.result) c.as_slice-2.result.now)) begun
    ∙ (ap (λ n. with_entries no_members (map (bank_entry n) c.as_slice-2.result.now)) base
    ∙ ap (λ xs. with_entries no_members (map (bank_entry (base_of c.args.s.now.placement.regions)) xs)) c.as_slice-2.ensures)))
