use Rattle.std.proofs.Common.{◌∙◌, ◌+◌, ◌≤◌, ap, subst, sym, arith}
use Rattle.lx_csr.specs.Laws.{AreInBanks}
use Rattle.lx_csr.specs.Mapped.{AreShort, base_of}
use Rattle.lx_csr.specs.Places.{IsMap}
use Rattle.lx_csr.proofs.Housing.{housed_base, housed_few, list_is, map_in_banks, map_rises, no_map, none_left, some_left}
use Rattle.lx_csr.proofs.Rising.{are_short}
use Rattle.lx_csr.proofs.mapping.map.Goals as goal

pub returns-then-is_empty-clause-map : goal.returns-then-is_empty-clause-map
returns-then-is_empty-clause-map c =
    c.of.ensures ∙ (c.new.ensures ∙ sym (no_map c.args.r.now c.args.p.now (none_left c.args.r.now c.banks-banks.result.now c.is_empty.result c.banks-banks.ensures.banks c.is_empty.ensures c.if-is_empty.true)))

pub base_of-base-requires : goal.base_of-base-requires
base_of-base-requires c =
    let most = housed_base c.args.r.now c.args.p.now c.requires (some_left c.args.r.now c.banks-banks.result.now c.is_empty.result c.banks-banks.ensures.banks c.is_empty.ensures c.if-is_empty.false) in
    subst (λ rs. base_of rs ≤ 4294967295) (sym c.as_slice.ensures) (omega arith)

pub all_mapped-requires-clause-base : goal.all_mapped-requires-clause-base
all_mapped-requires-clause-base c =
    let most = housed_base c.args.r.now c.args.p.now c.requires (some_left c.args.r.now c.banks-banks.result.now c.is_empty.result c.banks-banks.ensures.banks c.is_empty.ensures c.if-is_empty.false) in
    subst (λ n. n + 65536 ≤ 4294967296) (sym (c.base_of-base.ensures ∙ ap base_of c.as_slice.ensures)) most

pub all_mapped-requires-clause-short : goal.all_mapped-requires-clause-short
all_mapped-requires-clause-short c =
    subst (λ bs. AreShort bs) (sym c.banks-banks.ensures.banks) (are_short c.args.r.now c.banks-banks.ensures.kept (housed_few c.args.r.now c.args.p.now c.requires))

pub of-requires-2 : goal.of-requires-2
of-requires-2 c =
    let some = some_left c.args.r.now c.banks-banks.result.now c.is_empty.result c.banks-banks.ensures.banks c.is_empty.ensures c.if-is_empty.false in
    subst (λ rs. IsMap rs)
    (sym (list_is c.args.r.now c.args.p.now c.base_of-base.result c.as_slice-2.result.now c.banks-banks.result.now c.in_ok-list.list (c.base_of-base.ensures ∙ ap base_of c.as_slice.ensures) c.as_slice-2.ensures c.banks-banks.ensures.banks c.in_ok-list.ensures))
    (map_rises c.args.r.now c.args.p.now c.banks-banks.ensures.kept c.requires some)

pub returns-clause-map : goal.returns-clause-map
returns-clause-map c =
    c.of-2.ensures ∙ list_is c.args.r.now c.args.p.now c.base_of-base.result c.as_slice-2.result.now c.banks-banks.result.now c.in_ok-list.list (c.base_of-base.ensures ∙ ap base_of c.as_slice.ensures) c.as_slice-2.ensures c.banks-banks.ensures.banks c.in_ok-list.ensures

pub returns-clause-banks : goal.returns-clause-banks
returns-clause-banks c =
    subst (λ rs. AreInBanks c.args.p.now rs)
    (sym (c.of-2.ensures ∙ list_is c.args.r.now c.args.p.now c.base_of-base.result c.as_slice-2.result.now c.banks-banks.result.now c.in_ok-list.list (c.base_of-base.ensures ∙ ap base_of c.as_slice.ensures) c.as_slice-2.ensures c.banks-banks.ensures.banks c.in_ok-list.ensures))
    (map_in_banks c.args.r.now c.args.p.now c.banks-banks.ensures.kept c.requires)
