use Rattle.std.proofs.Common.{◌≡◌, ◌≤◌, ◌+◌, ◌∷◌, [], ◌++◌, true, length, rules, arith, cond}
use Rattle.std.proofs.lemmas.Grind.{common_steps}
use Rattle.std.proofs.lemmas.List.{length-append}
use Rattle.lx_outside.specs.Cuts.{AllCuts}
use Rattle.lx_outside.proofs.CutsLemmas.{pairs_behind, cuts_behind, cut_behind}
use Rattle.lx_outside.proofs.sinks.add_pair.Goals as goal

pub returns-then-filled-clause-pairs : goal.returns-then-filled-clause-pairs
returns-then-filled-clause-pairs c =
    let text : c.extend_from_slice-2.new.self.items ≡ (c.args.text.now.items ++ c.args.name.now) ++ c.args.bytes.now = grind (arith, common_steps) in
    let cuts : c.push.new.self.items ≡ c.args.cuts.now.items ++ cut_behind c.args.text.now.items c.args.name.now c.args.bytes.now ∷ [] = grind (arith, common_steps) in
    let done : c.is_ok.result ≡ true = search rules in
    rw (text, cuts, done) (pairs_behind c.args.text.now.items c.args.name.now c.args.bytes.now c.args.cuts.now.items c.requires.lie)

pub returns-then-filled-clause-roomy : goal.returns-then-filled-clause-roomy
returns-then-filled-clause-roomy c =
    let text : c.extend_from_slice-2.new.self.items ≡ (c.args.text.now.items ++ c.args.name.now) ++ c.args.bytes.now = grind (arith, common_steps) in
    let cuts : c.push.new.self.items ≡ c.args.cuts.now.items ++ cut_behind c.args.text.now.items c.args.name.now c.args.bytes.now ∷ [] = grind (arith, common_steps) in
    let whole = (c.args.text.now.items ++ c.args.name.now) ++ c.args.bytes.now in
    let first = length-append c.args.text.now.items c.args.name.now in
    let second = length-append (c.args.text.now.items ++ c.args.name.now) c.args.bytes.now in
    let lie : AllCuts (length whole) (c.args.cuts.now.items ++ cut_behind c.args.text.now.items c.args.name.now c.args.bytes.now ∷ []) =
    cuts_behind (length c.args.text.now.items) (length whole) c.args.cuts.now.items (cut_behind c.args.text.now.items c.args.name.now c.args.bytes.now) (omega arith) c.requires.lie
    (record { name = omega arith; bytes = omega arith; inside = omega arith }) in
    record { lie = rw (text, cuts) lie; bytes = search rules; pairs = search rules }
