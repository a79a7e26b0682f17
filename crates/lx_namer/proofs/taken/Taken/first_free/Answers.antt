use Rattle.std.proofs.Common.{◌≡◌, ◌+◌, ◌∙◌, ◌≤◌, ap, arith, sym, true}
use Rattle.lx_vtext.specs.Tree.{Name}
use Rattle.lx_emission.specs.Naming.{is_among}
use Rattle.lx_namer.specs.Taken.{numbered}
use Rattle.lx_namer.proofs.Free.{below_next, few_entries}
use Rattle.lx_namer.proofs.taken.Taken.first_free.Goals as goal

pub tried-init : goal.tried-init
tried-init c = (c.in_ok-name.ensures, c.next-number.ensures, few_entries c.self.inside.table _ _ _ _ c.self.view_is c.len-most.ensures.is c.next-number.ensures)

pub tried-smaller : goal.tried-smaller
tried-smaller c =
    let among : is_among (numbered c.args.base.now c.tried.number) c.args.self.now ≡ true =
    ap (λ (n : Name). is_among n c.args.self.now) (sym (c.as_bytes.ensures ∙ c.tried.invariant.0)) ∙ sym c.has.ensures ∙ c.tried-test.true in
    let few : c.tried.number + 1 ≤ c.len-most.result + 1 = few_entries c.self.inside.table _ _ _ _ c.self.view_is c.len-most.ensures.is (below_next _ _ _ c.tried.invariant.1 among) in
    omega (arith, few)

pub tried-preserved : goal.tried-preserved
tried-preserved c =
    let among : is_among (numbered c.args.base.now c.tried.number) c.args.self.now ≡ true =
    ap (λ (n : Name). is_among n c.args.self.now) (sym (c.as_bytes.ensures ∙ c.tried.invariant.0)) ∙ sym c.has.ensures ∙ c.tried-test.true in
    let below = below_next c.args.self.now c.args.base.now c.tried.number c.tried.invariant.1 among in
    (c.in_ok-name-2.ensures, below, few_entries c.self.inside.table _ _ _ _ c.self.view_is c.len-most.ensures.is below)
