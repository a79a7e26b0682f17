use Rattle.std.proofs.Common.{◌∙◌, ◌<◌, ◌≤◌, length, get_or, ap, subst, arith}
use Rattle.std.specs.Prelude.{slice_get}
use Rattle.std.proofs.lemmas.Option.{slice_get_within}
use Rattle.lx_csr.proofs.Steps.{found_more}
use Rattle.lx_csr.proofs.registers.RegisterMap.find.Goals as goal

pub loop-i-preserved : goal.loop-i-preserved
loop-i-preserved c =
    let same = c.registers-register-items.ensures.registers in
    let l : c.loop-i.i < length c.args.self.now = subst (λ rs. c.loop-i.i < length rs) same c.loop-i-test.true in
    let read = c.register-item.is ∙ ap (λ rs. get_or rs c.loop-i.i c.register-item.result) same in
    found_more c.args.self.now c.loop-i.i c.register-item.result c.args.addr c.loop-i.invariant l read
    (λ j w e a. c.in_default.ensures j w (ap (λ ws. slice_get ws j) c.as_slice.ensures ∙ e) a)

pub returns : goal.returns
returns c = λ i j at.
    let l = slice_get_within c.args.self.now i at.register at.is_register in
    let past : length c.args.self.now ≤ c.loop-i.i = subst (λ rs. length rs ≤ c.loop-i.i) c.registers-register-items.ensures.registers c.loop-i-test.false in
    c.loop-i.invariant i (omega arith) j at
