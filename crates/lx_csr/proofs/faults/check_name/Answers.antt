use Rattle.std.proofs.Common.{◌≡◌, ◌++◌, ◌∙◌, ap, sym, false}
use Rattle.lx_names.specs.Tables.{names, with_name}
use Rattle.lx_csr.specs.Faults.{is_among, taken_first}
use Rattle.lx_csr.proofs.Taking.{not_later, set_names}
use Rattle.lx_csr.proofs.faults.check_name.Goals as goal

pub returns-clause-taken : goal.returns-clause-taken
returns-clause-taken c =
    let before = taken_first c.args.headers in
    let own = names c.args.taken.now in
    let free : is_among c.args.name.now.text (before ++ own) ≡ false =
    ap (λ n. is_among n (before ++ own)) (sym c.as_bytes.ensures) ∙ (sym c.is_taken.ensures ∙ c.if-is_taken.false) in
    ap names (c.in_ok-set.ensures.ok ∙ ap (λ n. with_name c.args.taken.now n c.args.name.now.line) c.as_bytes-2.ensures)
    ∙ set_names c.args.taken.now c.args.name.now.text c.args.name.now.line (not_later c.args.name.now.text before own free)
