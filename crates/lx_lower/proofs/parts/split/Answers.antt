use Rattle.std.proofs.Common.{◌≡◌, ◌∙◌, ap, length, subst, sym}
use Rattle.std.specs.Prelude.{ℕ, IsTrue}
use Rattle.std.proofs.lemmas.Result.{IfOk-weaker}
use Rattle.lx_fhdl.specs.declared.design.Design.{Design}
use Rattle.lx_lower.specs.Lists.{AreBySignal}
use Rattle.lx_plain.specs.Owned.{all_signals}
use Rattle.lx_lower.proofs.BySignal.{lower_there, split_is_alone}
use Rattle.lx_plain.proofs.Grouping.{signals_owned}
use Rattle.lx_lower.proofs.Listing.{split_put}
use Rattle.lx_lower.proofs.parts.split.Goals as goal

pub invariant_of-by_signal : goal.invariant_of-by_signal
invariant_of-by_signal c =
    let put = c.in_ok-owns.ensures in
    let same : c.len-signals.result ≡ length c.flatten.new.draft.signals =
    c.len-signals.ensures ∙ ap (λ (d : Design). length d.signals) c.design.ensures.is ∙ ap length (sym (put.grows.signals ∙ c.requires.lowered.signals)) in
    record { there = rw c.as_slice-owns.ensures (subst (λ (n : ℕ). IsTrue (all_signals n c.in_ok-owns.owns)) (sym same) (signals_owned (length c.flatten.new.draft.signals) (length c.flatten.new.draft.stmts) c.in_ok-owns.owns put.owned)) }

pub returns : goal.returns
returns c =
    let put = c.in_ok-owns.ensures in
    let same : c.len-signals.result ≡ length c.flatten.new.draft.signals =
    c.len-signals.ensures ∙ ap (λ (d : Design). length d.signals) c.design.ensures.is ∙ ap length (sym (put.grows.signals ∙ c.requires.lowered.signals)) in
    let alone = split_is_alone c.args.stmts.source.now.design c.args.stmts.ids.now c.design.ensures.keeps.keeps (lower_there _ _ _ c.args.stmts.lower) in
    IfOk-weaker c.by_signal.result _ _ (λ lists h. split_put _ _ _ _ _ _ alone put (subst (λ (n : ℕ). AreBySignal n c.in_ok-owns.owns lists.items) same h)) (rw c.as_slice-owns.ensures at c.by_signal.ensures)
