use Rattle.std.proofs.Common.{◌≡◌, ◌∙◌, suc, sym, arith, rules}
use Rattle.lx_syntax.specs.Forms.{expr_of}
use Rattle.lx_run.specs.Meant.{makes}
use Rattle.lx_run.proofs.Making.{made_further, made_limit, made_stops}
use Rattle.lx_run.proofs.Operands.{passed_first}
use Rattle.lx_run.proofs.Trailing.{trailed_next}
use Rattle.lx_run.proofs.Arguing.{argument_next, argument_stops}
use Rattle.lx_run.proofs.Listing.{run_both, run_chain, run_choice, run_comprehension, run_dictionary, run_either, run_listed, run_post, run_tuple}
use Rattle.lx_run.proofs.run.+run.Goals as goal

pub arguments_run-loop-argument-preserved : goal.arguments_run-loop-argument-preserved
arguments_run-loop-argument-preserved t c =
    sym (argument_next c.args.syntax.now c.args.depth.classes c.loop-argument.at c.args.line c.loop-argument.args c.in_ok-args.args c.args.arguments.now c.loop-argument.argument-index _ c.loop-argument.machine c.argument_run.new.machine (omega arith) c.in_ok-args.ensures) ∙ c.loop-argument.invariant

pub arguments_run-returns-in_err-args : goal.arguments_run-returns-in_err-args
arguments_run-returns-in_err-args t c =
    let inv = rw c.no_arguments-args.ensures at c.loop-argument.invariant in
    let stop = argument_stops c.in_err-args.field-0.0 c.args.syntax.now c.args.depth.classes c.loop-argument.at c.args.line c.loop-argument.args c.args.arguments.now c.loop-argument.argument-index _ c.loop-argument.machine (omega arith) c.in_err-args.ensures in
    rw (← inv) (search (rules, stop))

pub eval-returns-in_err-values-in-Tuple : goal.eval-returns-in_err-values-in-Tuple
eval-returns-in_err-values-in-Tuple t c =
    rw (run_tuple c.args.syntax.now c.args.depth.classes c.args.id.place c.expr_at-node.result.now.line c.expr_at-node.result.now.expr c.args.machine.now c.expr_at-node.ensures.tree c.in-Tuple.ids c.in-Tuple.is, ← c.as_slice.ensures) (search rules)

pub eval-returns-in_err-values-in-Listed : goal.eval-returns-in_err-values-in-Listed
eval-returns-in_err-values-in-Listed t c =
    rw (run_listed c.args.syntax.now c.args.depth.classes c.args.id.place c.expr_at-node.result.now.line c.expr_at-node.result.now.expr c.args.machine.now c.expr_at-node.ensures.tree c.in-Listed.ids c.in-Listed.is, ← c.as_slice-in-Listed.ensures) (search rules)

pub eval-returns-in_err-entries-in-Dictionary : goal.eval-returns-in_err-entries-in-Dictionary
eval-returns-in_err-entries-in-Dictionary t c =
    rw (run_dictionary c.args.syntax.now c.args.depth.classes c.args.id.place c.expr_at-node.result.now.line c.expr_at-node.result.now.expr c.args.machine.now c.expr_at-node.ensures.tree c.in-Dictionary.pairs c.in-Dictionary.is, ← c.as_slice-in-Dictionary.ensures) (search rules)

pub eval-returns-in_err-held-in-Post : goal.eval-returns-in_err-held-in-Post
eval-returns-in_err-held-in-Post t c =
    rw (run_post c.args.syntax.now c.args.depth.classes c.args.id.place c.expr_at-node.result.now.line c.expr_at-node.result.now.expr c.args.machine.now c.expr_at-node.ensures.tree c.in-Post.of c.in-Post.trailers c.in-Post.is, c.in_ok-value-in-Post.ensures, ← c.as_slice-trailers.ensures) (search rules)

pub eval-returns-in_ok-values-in-Tuple : goal.eval-returns-in_ok-values-in-Tuple
eval-returns-in_ok-values-in-Tuple t c =
    let ran = rw c.as_slice.ensures at c.in_ok-values-in-Tuple.ensures in
    rw (run_tuple c.args.syntax.now c.args.depth.classes c.args.id.place c.expr_at-node.result.now.line c.expr_at-node.result.now.expr c.args.machine.now c.expr_at-node.ensures.tree c.in-Tuple.ids c.in-Tuple.is, ran) c.tuple_made.ensures

pub eval-returns-in_ok-values-in-Listed : goal.eval-returns-in_ok-values-in-Listed
eval-returns-in_ok-values-in-Listed t c =
    let ran = rw c.as_slice-in-Listed.ensures at c.in_ok-values-in-Listed.ensures in
    rw (run_listed c.args.syntax.now c.args.depth.classes c.args.id.place c.expr_at-node.result.now.line c.expr_at-node.result.now.expr c.args.machine.now c.expr_at-node.ensures.tree c.in-Listed.ids c.in-Listed.is, ran) c.list_made.ensures

pub eval-returns-in_ok-entries-in-Dictionary : goal.eval-returns-in_ok-entries-in-Dictionary
eval-returns-in_ok-entries-in-Dictionary t c =
    let ran = rw c.as_slice-in-Dictionary.ensures at c.in_ok-entries-in-Dictionary.ensures in
    rw (run_dictionary c.args.syntax.now c.args.depth.classes c.args.id.place c.expr_at-node.result.now.line c.expr_at-node.result.now.expr c.args.machine.now c.expr_at-node.ensures.tree c.in-Dictionary.pairs c.in-Dictionary.is, ran) c.dictionary_made.ensures

pub eval-returns-in_ok-source-in-Comprehension : goal.eval-returns-in_ok-source-in-Comprehension
eval-returns-in_ok-source-in-Comprehension t c =
    let made = rw c.as_slice-names.ensures at c.comprehended.ensures in
    rw (run_comprehension c.args.syntax.now c.args.depth.classes c.args.id.place c.expr_at-node.result.now.line c.expr_at-node.result.now.expr c.args.machine.now c.expr_at-node.ensures.tree c.in-Comprehension.item c.in-Comprehension.names c.in-Comprehension.source c.in-Comprehension.filter c.in-Comprehension.is, c.in_ok-source-in-Comprehension.ensures) made

pub eval-returns-in-Choice : goal.eval-returns-in-Choice
eval-returns-in-Choice t c =
    let made = rw c.as_slice-in-Choice.ensures at c.chosen.ensures in
    rw (run_choice c.args.syntax.now c.args.depth.classes c.args.id.place c.expr_at-node.result.now.line c.expr_at-node.result.now.expr c.args.machine.now c.expr_at-node.ensures.tree c.in-Choice.value c.in-Choice.rest c.in-Choice.is) made

pub eval-returns-in-Either : goal.eval-returns-in-Either
eval-returns-in-Either t c =
    let made = rw c.as_slice-in-Either.ensures at c.first_that.ensures in
    rw (run_either c.args.syntax.now c.args.depth.classes c.args.id.place c.expr_at-node.result.now.line c.expr_at-node.result.now.expr c.args.machine.now c.expr_at-node.ensures.tree c.in-Either.ids c.in-Either.is) made

pub eval-returns-in-Both : goal.eval-returns-in-Both
eval-returns-in-Both t c =
    let made = rw c.as_slice-in-Both.ensures at c.first_that-in-Both.ensures in
    rw (run_both c.args.syntax.now c.args.depth.classes c.args.id.place c.expr_at-node.result.now.line c.expr_at-node.result.now.expr c.args.machine.now c.expr_at-node.ensures.tree c.in-Both.ids c.in-Both.is) made

pub eval-returns-in_ok-value-in-Chain : goal.eval-returns-in_ok-value-in-Chain
eval-returns-in_ok-value-in-Chain t c =
    let made = rw c.as_slice-in-Chain.ensures at c.linked.ensures in
    rw (run_chain c.args.syntax.now c.args.depth.classes c.args.id.place c.expr_at-node.result.now.line c.expr_at-node.result.now.expr c.args.machine.now c.expr_at-node.ensures.tree c.in-Chain.first c.in-Chain.rest c.in-Chain.is, c.in_ok-value-in-Chain.ensures) made

pub eval-returns-in_ok-held-in-Post : goal.eval-returns-in_ok-held-in-Post
eval-returns-in_ok-held-in-Post t c =
    let ran = rw c.as_slice-trailers.ensures at c.in_ok-held-in-Post.ensures in
    rw (run_post c.args.syntax.now c.args.depth.classes c.args.id.place c.expr_at-node.result.now.line c.expr_at-node.result.now.expr c.args.machine.now c.expr_at-node.ensures.tree c.in-Post.of c.in-Post.trailers c.in-Post.is, c.in_ok-value-in-Post.ensures, ran) c.held_value.ensures

pub first_that-operands-preserved : goal.first_that-operands-preserved
first_that-operands-preserved t c =
    let inv = rw c.in-More.ensures.0 at c.operands.invariant in
    (sym (passed_first (makes c.args.syntax.now c.args.depth.classes) (expr_of c.args.syntax.now) c.args.wanted c.in_ok-value-in-More.holds c.args.line c.in-More.id c.in-More.left.now c.in_ok-value-in-More.value c.operands.machine c.weighed.new.machine c.in-More.ensures.1 c.in_ok-value-in-More.ensures (sym c.if-is_wanted.ensures)) ∙ inv.0, λ k d l. inv.1 (suc k) d (omega (arith, l)))

pub trailed-trailers-preserved : goal.trailed-trailers-preserved
trailed-trailers-preserved t c =
    let inv = rw c.in-More.ensures.0 at c.trailers.invariant in
    (sym (trailed_next c.args.syntax.now c.args.depth.classes c.args.at c.args.line c.trailers.value c.in_ok-value-in-More.value c.in-More.trailer.now c.in-More.left.now c.trailers.machine c.trailer_run.new.machine c.in-More.ensures.1 c.in_ok-value-in-More.ensures) ∙ inv.0, λ k d l. inv.1 (suc k) d (omega (arith, l)))

pub make-returns-in_err-values : goal.make-returns-in_err-values
make-returns-in_err-values t c =
    let stop = made_stops c.in_err-values.field-0.0 c.args.syntax.now c.args.depth.classes c.args.line c.args.at c.args.args.now c.in-Some.class.now c.args.machine.now (sym c.in-Some.ensures.class) c.in_err-values.ensures in
    search (rules, stop)

pub make-returns-then-depth-eq0 : goal.make-returns-then-depth-eq0
make-returns-then-depth-eq0 t c = made_limit c.limit.result c.args.syntax.now c.args.depth.classes c.args.line c.args.at c.args.args.now c.in-Some.class.now _ c.args.machine.now c.args.machine.now c.if-depth-eq0.true (sym c.in-Some.ensures.class) c.in_ok-values.ensures c.limit.ensures

pub make-returns : goal.make-returns
make-returns t c = rw (made_further c.args.syntax.now c.args.depth.classes c.args.line c.args.at c.args.args.now c.in-Some.class.now _ c.args.machine.now c.args.machine.now c.if-depth-eq0.false (sym c.in-Some.ensures.class) c.in_ok-values.ensures) c.module_run.ensures
