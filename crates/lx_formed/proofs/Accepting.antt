-- Each node whose parts go its rule's way says what has a form.
use Rattle.std.proofs.Common.{◌≡◌, List, ℕ, Some, subst}
use Rattle.std.proofs.lemmas.Bool.{false≢true as no}
use Rattle.lx_grammar.specs.declared.grammar.Spot.{Spot}
use Rattle.lx_grammar.specs.declared.grammar.Spot.TheVariants as spot
use Rattle.lx_grammar.specs.Derives.{Parts, label, wrap}
use Rattle.lx_formed.proofs.Steps.{Ended, Good, Kind, Leads, block, ends, given, heading, index, kind_of, making, order, q0, spot_, step, value, whole}
use Rattle.lx_formed.proofs.Values.{and_good, arg_good, band_good, bor_good, bxor_good, expr_good, not_good, or_good, shift_good, sum_good, term_good, unary_good, values_good}
use Rattle.lx_formed.proofs.Pairs.{args_good, comp_good, power_good, sub_good}
use Rattle.lx_formed.proofs.Atoms.{atom_good, post_good}
use Rattle.lx_formed.proofs.Orders.{class_good, dotted_good, file_good, for_good, if_good, import_good, init_good, names_good, place_good, simple_good, stmt_good, suite_good}

kind_same : (i j : Kind) → Some i ≡ Some j → i ≡ j
kind_same i j e = cc

abbrev Goes : List ℕ → Spot → Parts → Type 0
Goes src r qs = Leads src (step (label r)) q0 qs (Ended (ends (label r)))

pub accepted : (src : List ℕ) (r : Spot) (j : Kind) (qs : Parts) → kind_of r ≡ Some j → Goes src r qs → Good src j (wrap (label r) qs)
unfolding label
accepted src spot.File j qs e h = subst (λ k. Good src k (wrap (label spot.File) qs)) (kind_same whole j e) (file_good src qs h)
accepted src spot.Import j qs e h = subst (λ k. Good src k (wrap (label spot.Import) qs)) (kind_same heading j e) (import_good src qs (Ended (ends (label spot.Import))) h)
accepted src spot.Dotted j qs e h = subst (λ k. Good src k (wrap (label spot.Dotted) qs)) (kind_same heading j e) (dotted_good src qs (Ended (ends (label spot.Dotted))) h)
accepted src spot.Names j qs e h = subst (λ k. Good src k (wrap (label spot.Names) qs)) (kind_same heading j e) (names_good src qs (Ended (ends (label spot.Names))) h)
accepted src spot.Class j qs e h = subst (λ k. Good src k (wrap (label spot.Class) qs)) (kind_same heading j e) (class_good src qs h)
accepted src spot.Init j qs e h = subst (λ k. Good src k (wrap (label spot.Init) qs)) (kind_same making j e) (init_good src qs h)
accepted src spot.Suite j qs e h = subst (λ k. Good src k (wrap (label spot.Suite) qs)) (kind_same block j e) (suite_good src qs (Ended (ends (label spot.Suite))) h)
accepted src spot.Stmt j qs e h = subst (λ k. Good src k (wrap (label spot.Stmt) qs)) (kind_same order j e) (stmt_good src qs h)
accepted src spot.If j qs e h = subst (λ k. Good src k (wrap (label spot.If) qs)) (kind_same order j e) (if_good src qs h)
accepted src spot.For j qs e h = subst (λ k. Good src k (wrap (label spot.For) qs)) (kind_same order j e) (for_good src qs h)
accepted src spot.Simple j qs e h = subst (λ k. Good src k (wrap (label spot.Simple) qs)) (kind_same order j e) (simple_good src qs h)
accepted src spot.Values j qs e h = subst (λ k. Good src k (wrap (label spot.Values) qs)) (kind_same value j e) (values_good src qs (Ended (ends (label spot.Values))) h)
accepted src spot.Place j qs e h = subst (λ k. Good src k (wrap (label spot.Place) qs)) (kind_same spot_ j e) (place_good src qs h)
accepted src spot.Expr j qs e h = subst (λ k. Good src k (wrap (label spot.Expr) qs)) (kind_same value j e) (expr_good src qs (Ended (ends (label spot.Expr))) no h)
accepted src spot.Or j qs e h = subst (λ k. Good src k (wrap (label spot.Or) qs)) (kind_same value j e) (or_good src qs (Ended (ends (label spot.Or))) h)
accepted src spot.And j qs e h = subst (λ k. Good src k (wrap (label spot.And) qs)) (kind_same value j e) (and_good src qs (Ended (ends (label spot.And))) h)
accepted src spot.Not j qs e h = subst (λ k. Good src k (wrap (label spot.Not) qs)) (kind_same value j e) (not_good src qs (Ended (ends (label spot.Not))) no h)
accepted src spot.Comp j qs e h = subst (λ k. Good src k (wrap (label spot.Comp) qs)) (kind_same value j e) (comp_good src qs h)
accepted src spot.Bor j qs e h = subst (λ k. Good src k (wrap (label spot.Bor) qs)) (kind_same value j e) (bor_good src qs (Ended (ends (label spot.Bor))) no h)
accepted src spot.Bxor j qs e h = subst (λ k. Good src k (wrap (label spot.Bxor) qs)) (kind_same value j e) (bxor_good src qs (Ended (ends (label spot.Bxor))) no h)
accepted src spot.Band j qs e h = subst (λ k. Good src k (wrap (label spot.Band) qs)) (kind_same value j e) (band_good src qs (Ended (ends (label spot.Band))) no h)
accepted src spot.Shift j qs e h = subst (λ k. Good src k (wrap (label spot.Shift) qs)) (kind_same value j e) (shift_good src qs (Ended (ends (label spot.Shift))) no h)
accepted src spot.Sum j qs e h = subst (λ k. Good src k (wrap (label spot.Sum) qs)) (kind_same value j e) (sum_good src qs (Ended (ends (label spot.Sum))) no h)
accepted src spot.Term j qs e h = subst (λ k. Good src k (wrap (label spot.Term) qs)) (kind_same value j e) (term_good src qs (Ended (ends (label spot.Term))) no h)
accepted src spot.Unary j qs e h = subst (λ k. Good src k (wrap (label spot.Unary) qs)) (kind_same value j e) (unary_good src qs (Ended (ends (label spot.Unary))) no h)
accepted src spot.Power j qs e h = subst (λ k. Good src k (wrap (label spot.Power) qs)) (kind_same value j e) (power_good src qs h)
accepted src spot.Post j qs e h = subst (λ k. Good src k (wrap (label spot.Post) qs)) (kind_same value j e) (post_good src qs h)
accepted src spot.Sub j qs e h = subst (λ k. Good src k (wrap (label spot.Sub) qs)) (kind_same index j e) (sub_good src qs h)
accepted src spot.Args j qs e h = subst (λ k. Good src k (wrap (label spot.Args) qs)) (kind_same given j e) (args_good src qs (Ended (ends (label spot.Args))) h)
accepted src spot.PlaceArg j qs e h = subst (λ k. Good src k (wrap (label spot.PlaceArg) qs)) (kind_same value j e) (arg_good src qs (Ended (ends (label spot.PlaceArg))) no h)
accepted src spot.NameArg j qs e h = subst (λ k. Good src k (wrap (label spot.NameArg) qs)) (kind_same value j e) (arg_good src qs (Ended (ends (label spot.NameArg))) no h)
accepted src spot.Atom j qs e h = subst (λ k. Good src k (wrap (label spot.Atom) qs)) (kind_same value j e) (atom_good src qs h)
accepted src _ j qs e h = absurd (cc)
