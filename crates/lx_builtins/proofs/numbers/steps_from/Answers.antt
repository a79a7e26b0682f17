use Rattle.std.proofs.Common.{◌≡◌, ◌∙◌, sym, ap, ◌++◌, ◌∷◌, [], ◌+◌, ◌-◌, map, true, false, arith, rules, append_assoc}
use Rattle.std.specs.Prelude.{◌+ℤ◌, FitsSigned}
use Rattle.std.specs.Int.{w128}
use Rattle.std.proofs.lemmas.Int.{to_z-of_z}
use Rattle.std.proofs.lemmas.List.{append-nil}
use Rattle.lx_state.specs.declared.values.Value.TheVariants as value
use Rattle.lx_builtins.specs.Numbers.{comes_before, steps_from}
use Rattle.lx_builtins.proofs.Steps.{ended, overflown, steps_none, steps_on}
use Rattle.lx_builtins.proofs.numbers.steps_from.Goals as goal

pub returns-then-not-comes_before : goal.returns-then-not-comes_before
returns-then-not-comes_before c =
    let fs : FitsSigned w128 c.args.step = search rules in
    let fp : FitsSigned w128 c.args.past = search rules in
    let fa : FitsSigned w128 c.args.start = search rules in
    let fn : FitsSigned w128 c.loop.number = search rules in
    let inv : (c.loop.list ++ map value.Int (steps_from (c.args.most - c.loop.counter) c.args.step c.loop.number c.args.past)) ≡ map value.Int (steps_from c.args.most c.args.step c.args.start c.args.past) = grind (arith, to_z-of_z, c.loop.invariant) in
    let stop : comes_before c.args.step c.loop.number c.args.past ≡ false = grind (arith, to_z-of_z, c.comes_before.ensures) in
    sym (append-nil c.loop.list) ∙ ap (λ xs. c.loop.list ++ map value.Int xs) (sym (ended (c.args.most - c.loop.counter) c.args.step c.loop.number c.args.past stop)) ∙ inv

pub returns-in-None : goal.returns-in-None
returns-in-None c =
    let fs : FitsSigned w128 c.args.step = search rules in
    let fp : FitsSigned w128 c.args.past = search rules in
    let fa : FitsSigned w128 c.args.start = search rules in
    let fn : FitsSigned w128 c.loop.number = search rules in
    let inv : (c.loop.list ++ map value.Int (steps_from (c.args.most - c.loop.counter) c.args.step c.loop.number c.args.past)) ≡ map value.Int (steps_from c.args.most c.args.step c.args.start c.args.past) = grind (arith, to_z-of_z, c.loop.invariant) in
    let on : comes_before c.args.step c.loop.number c.args.past ≡ true = grind (arith, to_z-of_z, c.comes_before.ensures) in
    let put : c.push.new.self ≡ c.loop.list ++ value.Int c.loop.number ∷ [] = grind (arith, to_z-of_z, c.in_ok-push.ensures.ok) in
    let over : FitsSigned w128 (c.loop.number +ℤ c.args.step) → ⊥ = λ f. grind (arith, to_z-of_z, c.checked_add.ensures, c.in-None.is) in
    let next : c.args.most - c.loop.counter ≡ c.args.most - c.loop.counter - 1 + 1 = omega (arith, c.loop-test.true) in
    let one = steps_on (c.args.most - c.loop.counter) (c.args.most - c.loop.counter - 1) c.args.step c.loop.number c.args.past next on in
    let none_ = overflown (c.args.most - c.loop.counter - 1) c.args.step c.loop.number c.args.past fn fp over in
    put ∙ sym (ap (λ xs. c.loop.list ++ map value.Int xs) (one ∙ ap (λ xs. c.loop.number ∷ xs) none_)) ∙ inv

pub loop-preserved : goal.loop-preserved
loop-preserved c =
    let fs : FitsSigned w128 c.args.step = search rules in
    let fp : FitsSigned w128 c.args.past = search rules in
    let fa : FitsSigned w128 c.args.start = search rules in
    let fn : FitsSigned w128 c.loop.number = search rules in
    let inv : (c.loop.list ++ map value.Int (steps_from (c.args.most - c.loop.counter) c.args.step c.loop.number c.args.past)) ≡ map value.Int (steps_from c.args.most c.args.step c.args.start c.args.past) = grind (arith, to_z-of_z, c.loop.invariant) in
    let on : comes_before c.args.step c.loop.number c.args.past ≡ true = grind (arith, to_z-of_z, c.comes_before.ensures) in
    let put : c.push.new.self ≡ c.loop.list ++ value.Int c.loop.number ∷ [] = grind (arith, to_z-of_z, c.in_ok-push.ensures.ok) in
    let later : c.in-Some.next ≡ c.loop.number +ℤ c.args.step = grind (arith, to_z-of_z, c.checked_add.ensures, c.in-Some.is) in
    let ff : FitsSigned w128 c.in-Some.next = search rules in
    let next : c.args.most - c.loop.counter ≡ c.args.most - (c.loop.counter + 1) + 1 = omega (arith, c.loop-test.true) in
    let one = steps_on (c.args.most - c.loop.counter) (c.args.most - (c.loop.counter + 1)) c.args.step c.loop.number c.args.past next on in
    let all : (c.push.new.self ++ map value.Int (steps_from (c.args.most - (c.loop.counter + 1)) c.args.step c.in-Some.next c.args.past)) ≡ map value.Int (steps_from c.args.most c.args.step c.args.start c.args.past) = rw (put, later, append_assoc) (sym (ap (λ xs. c.loop.list ++ map value.Int xs) one) ∙ inv) in
    grind (arith, to_z-of_z, all)

pub returns : goal.returns
returns c =
    let fs : FitsSigned w128 c.args.step = search rules in
    let fp : FitsSigned w128 c.args.past = search rules in
    let fa : FitsSigned w128 c.args.start = search rules in
    let fn : FitsSigned w128 c.loop.number = search rules in
    let inv : (c.loop.list ++ map value.Int (steps_from (c.args.most - c.loop.counter) c.args.step c.loop.number c.args.past)) ≡ map value.Int (steps_from c.args.most c.args.step c.args.start c.args.past) = grind (arith, to_z-of_z, c.loop.invariant) in
    let last : c.args.most - c.loop.counter ≡ 0 = omega (arith, c.loop-test.false) in
    sym (append-nil c.loop.list) ∙ ap (λ xs. c.loop.list ++ map value.Int xs) (sym (steps_none (c.args.most - c.loop.counter) c.args.step c.loop.number c.args.past last)) ∙ inv
