use Rattle.std.proofs.Common.{◌≡◌, ◌≤◌, ◌<◌, ◌+◌, ◌*◌, ◌++◌, ℕ, [], max, length, drop}
use Rattle.std.specs.List.{All}
use Rattle.lx_syntax.specs.declared.forms.Program.{Program}
use Rattle.lx_syntax.specs.Forms.{argument_id, arguments_at, block_at, branches_at, choices_at, expr_of, items_at, links_at, pairs_at, stmt_of, trailers_at}
use Rattle.lx_state.specs.Step.{give, go_on}
use Rattle.lx_run.specs.Meant.{AreLower, IsLowerTrailer, block_run, kept_of, makes, run_plain, texts}
use Rattle.lx_run.specs.Running.{arguments_run, branched, chosen, entries, evals, execs, first_that, gathered, linked, trailed, turns}
use Rattle.lx_run.specs.Signs.{all_applied}
use Rattle.lx_run.proofs.Measures.{level, place_in}
use Rattle.lx_run.proofs.run.+run.Given as goal

-- ---- measures: the classes that may still be made, the place of a node, and how a call stands to it

abbrev pub decreases-eval : goal.decreases-eval
decreases-eval l = level l.syntax.now l.depth.classes + 32 * l.id.place + 10

abbrev pub decreases-spine : goal.decreases-spine
decreases-spine l = level l.syntax.now l.depth.classes + 32 * l.operand.place + 11

abbrev pub decreases-hold : goal.decreases-hold
decreases-hold l = level l.syntax.now l.depth.classes + 32 * l.id.place + 11

abbrev pub decreases-base_run : goal.decreases-base_run
decreases-base_run l = level l.syntax.now l.depth.classes + 32 * l.base.place + 11

abbrev pub decreases-entry_run : goal.decreases-entry_run
decreases-entry_run l = level l.syntax.now l.depth.classes + 32 * max l.pair.first.place l.pair.second.place + 11

abbrev pub decreases-some_run : goal.decreases-some_run
decreases-some_run l = level l.syntax.now l.depth.classes + 32 * l.id.place + 11

abbrev pub decreases-tested : goal.decreases-tested
decreases-tested l = level l.syntax.now l.depth.classes + 32 * l.id.place + 11

abbrev pub decreases-weighed : goal.decreases-weighed
decreases-weighed l = level l.syntax.now l.depth.classes + 32 * l.id.place + 11

abbrev pub decreases-link_run : goal.decreases-link_run
decreases-link_run l = level l.syntax.now l.depth.classes + 32 * l.link.operand.place + 11

abbrev pub decreases-item_run : goal.decreases-item_run
decreases-item_run l = level l.syntax.now l.depth.classes + 32 * l.id.place + 11

abbrev pub decreases-run_alone : goal.decreases-run_alone
decreases-run_alone l = level l.syntax.now l.depth.classes + 32 * l.id.place + 11

abbrev pub decreases-name_added : goal.decreases-name_added
decreases-name_added l = level l.syntax.now l.depth.classes + 32 * l.id.place + 11

abbrev pub decreases-fragment_added : goal.decreases-fragment_added
decreases-fragment_added l = level l.syntax.now l.depth.classes + 32 * l.id.place + 11

abbrev pub decreases-attribute_sum : goal.decreases-attribute_sum
decreases-attribute_sum l = level l.syntax.now l.depth.classes + 32 * l.id.place + 11

abbrev pub decreases-argument_run : goal.decreases-argument_run
decreases-argument_run l = level l.syntax.now l.depth.classes + 32 * (argument_id l.argument).place + 12

abbrev pub decreases-place_bound : goal.decreases-place_bound
decreases-place_bound l = level l.syntax.now l.depth.classes + 32 * place_in l.place + 12

abbrev pub decreases-value_added : goal.decreases-value_added
decreases-value_added l = level l.syntax.now l.depth.classes + 32 * max l.of.place l.id.place + 13

abbrev pub decreases-object_added : goal.decreases-object_added
decreases-object_added l = level l.syntax.now l.depth.classes + 32 * max l.of.place l.id.place + 14

abbrev pub decreases-place_added : goal.decreases-place_added
decreases-place_added l = level l.syntax.now l.depth.classes + 32 * max (place_in l.place) l.id.place + 15

abbrev pub decreases-evals : goal.decreases-evals
decreases-evals l = level l.syntax.now l.depth.classes + 32 * l.bound

abbrev pub decreases-entries : goal.decreases-entries
decreases-entries l = level l.syntax.now l.depth.classes + 32 * l.bound

abbrev pub decreases-chosen : goal.decreases-chosen
decreases-chosen l = level l.syntax.now l.depth.classes + 32 * l.bound

abbrev pub decreases-first_that : goal.decreases-first_that
decreases-first_that l = level l.syntax.now l.depth.classes + 32 * l.bound

abbrev pub decreases-linked : goal.decreases-linked
decreases-linked l = level l.syntax.now l.depth.classes + 32 * l.bound

abbrev pub decreases-kept : goal.decreases-kept
decreases-kept l = level l.syntax.now l.depth.classes + 32 * l.bound

abbrev pub decreases-turn_gathered : goal.decreases-turn_gathered
decreases-turn_gathered l = level l.syntax.now l.depth.classes + 32 * l.bound + 1

abbrev pub decreases-gathered : goal.decreases-gathered
decreases-gathered l = level l.syntax.now l.depth.classes + 32 * l.bound + 2

abbrev pub decreases-comprehended : goal.decreases-comprehended
decreases-comprehended l = level l.syntax.now l.depth.classes + 32 * l.bound + 3

abbrev pub decreases-bound_run : goal.decreases-bound_run
decreases-bound_run l = level l.syntax.now l.depth.classes + 32 * l.bound

abbrev pub decreases-slice_run : goal.decreases-slice_run
decreases-slice_run l = level l.syntax.now l.depth.classes + 32 * l.bound + 1

abbrev pub decreases-arguments_run : goal.decreases-arguments_run
decreases-arguments_run l = level l.syntax.now l.depth.classes + 32 * l.bound

abbrev pub decreases-called : goal.decreases-called
decreases-called l = level l.syntax.now l.depth.classes + 1

abbrev pub decreases-call_run : goal.decreases-call_run
decreases-call_run l = level l.syntax.now l.depth.classes + 32 * l.bound + 2

abbrev pub decreases-trailer_run : goal.decreases-trailer_run
decreases-trailer_run l = level l.syntax.now l.depth.classes + 32 * l.bound + 3

abbrev pub decreases-last_run : goal.decreases-last_run
decreases-last_run l = level l.syntax.now l.depth.classes + 32 * l.bound + 4

abbrev pub decreases-trailed : goal.decreases-trailed
decreases-trailed l = level l.syntax.now l.depth.classes + 32 * l.bound + 5

abbrev pub decreases-exec : goal.decreases-exec
decreases-exec l = level l.syntax.now l.depth.classes + 32 * l.id.place + 10

abbrev pub decreases-execs : goal.decreases-execs
decreases-execs l = level l.syntax.now l.depth.classes + 32 * l.bound

abbrev pub decreases-branched : goal.decreases-branched
decreases-branched l = level l.syntax.now l.depth.classes + 32 * l.bound + 1

abbrev pub decreases-turn : goal.decreases-turn
decreases-turn l = level l.syntax.now l.depth.classes + 32 * l.bound + 1

abbrev pub decreases-turns : goal.decreases-turns
decreases-turns l = level l.syntax.now l.depth.classes + 32 * l.bound + 2

abbrev pub decreases-loop_run : goal.decreases-loop_run
decreases-loop_run l = level l.syntax.now l.depth.classes + 32 * l.bound + 3

abbrev pub decreases-body_run : goal.decreases-body_run
decreases-body_run l = level l.syntax.now l.depth.classes + 32 * length l.syntax.now.nodes + 1

abbrev pub decreases-module_run : goal.decreases-module_run
decreases-module_run l = level l.syntax.now l.depth.classes + 32 * length l.syntax.now.nodes + 2

abbrev pub decreases-make : goal.decreases-make
decreases-make l = level l.syntax.now l.depth.classes

-- ---- loops: what is left gives from here what all gives from the start

abbrev pub invariant-spine-spine : goal.invariant-spine-spine
invariant-spine-spine l = (go_on (run_plain l.syntax l.depth.classes l.id l.machine) (all_applied l.pending) ≡ go_on (run_plain l.syntax l.depth.classes l.initial.id l.initial.machine) (all_applied l.initial.pending)) × (l.id.place ≤ l.initial.id.place)

abbrev pub decreases-spine-spine : goal.decreases-spine-spine
decreases-spine-spine l = l.id.place

abbrev pub invariant-evals-loop-id : goal.invariant-evals-loop-id
invariant-evals-loop-id l = go_on (evals (makes l.syntax l.depth.classes) (items_at (expr_of l.syntax) (drop l.id-index l.ids)) l.machine) (λ values. give (l.values ++ values)) ≡ evals (makes l.syntax l.depth.classes) (items_at (expr_of l.syntax) l.ids) l.initial.machine

abbrev pub invariant-entries-loop-pair : goal.invariant-entries-loop-pair
invariant-entries-loop-pair l = go_on (entries (makes l.syntax l.depth.classes) (pairs_at (expr_of l.syntax) (drop l.pair-index l.pairs)) l.machine) (λ made. give (l.made ++ made)) ≡ entries (makes l.syntax l.depth.classes) (pairs_at (expr_of l.syntax) l.pairs) l.initial.machine

abbrev pub invariant-chosen-loop-branching : goal.invariant-chosen-loop-branching
invariant-chosen-loop-branching l = (chosen (makes l.syntax l.depth.classes) (run_plain l.syntax l.depth.classes l.value) (choices_at (expr_of l.syntax) (drop l.branching-index l.rest)) l.machine ≡ chosen (makes l.syntax l.depth.classes) (run_plain l.syntax l.depth.classes l.initial.value) (choices_at (expr_of l.syntax) l.rest) l.initial.machine) × (l.value.place < l.bound)

abbrev pub invariant-first_that-operands : goal.invariant-first_that-operands
invariant-first_that-operands l = (first_that (makes l.syntax l.depth.classes) l.wanted l.line (items_at (expr_of l.syntax) l.rest) l.machine ≡ first_that (makes l.syntax l.depth.classes) l.wanted l.line (items_at (expr_of l.syntax) l.ids) l.initial.machine) × AreLower l.bound l.rest

abbrev pub decreases-first_that-operands : goal.decreases-first_that-operands
decreases-first_that-operands l = length l.rest

abbrev pub invariant-linked-loop-link : goal.invariant-linked-loop-link
invariant-linked-loop-link l = linked (makes l.syntax l.depth.classes) l.line l.value (links_at (expr_of l.syntax) (drop l.link-index l.rest)) l.machine ≡ linked (makes l.syntax l.depth.classes) l.line l.initial.value (links_at (expr_of l.syntax) l.rest) l.initial.machine

abbrev pub invariant-gathered-loop-value : goal.invariant-gathered-loop-value
invariant-gathered-loop-value l = gathered l.line (texts l.syntax l.names) (kept_of l.syntax l.depth.classes l.line l.item l.filter) l.values (drop l.value-index l.items) l.machine ≡ gathered l.line (texts l.syntax l.names) (kept_of l.syntax l.depth.classes l.line l.item l.filter) [] l.items l.initial.machine

abbrev pub invariant-arguments_run-loop-argument : goal.invariant-arguments_run-loop-argument
invariant-arguments_run-loop-argument l = arguments_run (makes l.syntax l.depth.classes) l.at l.line l.args (arguments_at l.syntax.src (expr_of l.syntax) (drop l.argument-index l.arguments)) l.machine ≡ arguments_run (makes l.syntax l.depth.classes) l.initial.at l.line l.initial.args (arguments_at l.syntax.src (expr_of l.syntax) l.arguments) l.initial.machine

abbrev pub invariant-trailed-trailers : goal.invariant-trailed-trailers
invariant-trailed-trailers l = (trailed (makes l.syntax l.depth.classes) l.at l.line l.value (trailers_at l.syntax.src (expr_of l.syntax) l.rest) l.machine ≡ trailed (makes l.syntax l.depth.classes) l.at l.line l.initial.value (trailers_at l.syntax.src (expr_of l.syntax) l.initial.rest) l.initial.machine) × All (IsLowerTrailer l.bound) l.rest

abbrev pub decreases-trailed-trailers : goal.decreases-trailed-trailers
decreases-trailed-trailers l = length l.rest

abbrev pub invariant-execs-loop-id : goal.invariant-execs-loop-id
invariant-execs-loop-id l = block_run l.syntax l.depth.classes (drop l.id-index l.ids) l.machine ≡ block_run l.syntax l.depth.classes l.ids l.initial.machine

abbrev pub invariant-branched-loop-branch : goal.invariant-branched-loop-branch
invariant-branched-loop-branch l = branched (makes l.syntax l.depth.classes) l.line (branches_at (expr_of l.syntax) (stmt_of l.syntax) (drop l.branch-index l.branches)) (block_run l.syntax l.depth.classes l.rest) l.machine ≡ branched (makes l.syntax l.depth.classes) l.line (branches_at (expr_of l.syntax) (stmt_of l.syntax) l.branches) (block_run l.syntax l.depth.classes l.rest) l.initial.machine

abbrev pub invariant-turns-loop-item : goal.invariant-turns-loop-item
invariant-turns-loop-item l = turns l.line (texts l.syntax l.names) (block_run l.syntax l.depth.classes l.body) (drop l.item-index l.items) l.machine ≡ turns l.line (texts l.syntax l.names) (block_run l.syntax l.depth.classes l.body) l.items l.initial.machine
