use Rattle.std.proofs.Common.{◌≡◌, ◌∙◌, true, ap, map, subst, sym}
use Rattle.serde_json.specs.Data.{no_members, object}
use Rattle.serde_json.specs.View.{members_view}
use Rattle.lx_soc.specs.Told.{are_registers}
use Rattle.lx_export.specs.Json.{register_entry, with_entries}
use Rattle.lx_export.proofs.object.registers_of.Goals as goal

pub put_registers-requires : goal.put_registers-requires
put_registers-requires c = subst (λ xs. are_registers xs ≡ true) (sym c.registers.ensures.registers) c.args.s.now.registers

pub returns : goal.returns
returns c =
    let begun = ap members_view c.new-object.ensures.empty in
    c.from.ensures ∙ ap object
    (c.in_ok-put_registers.ensures ∙ (ap (λ ms. with_entries ms (map register_entry c.registers.result.now)) begun
    ∙ ap (λ xs. with_entries no_members (map register_entry xs)) c.registers.ensures.registers))
