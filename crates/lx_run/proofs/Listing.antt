-- What the forms whose parts are lists give.
use Rattle.std.proofs.Common.{◌≡◌, ◌∙◌, ℕ, true, false, List, Option, ap}
use Rattle.lx_arena.specs.declared.Id.{Id}
use Rattle.lx_token.specs.declared.tokens.Token.{Token}
use Rattle.lx_pytree.specs.declared.tree.PyNodes.{PyNodes}
use Rattle.lx_syntax.specs.declared.forms.Branching.{Branching}
use Rattle.lx_syntax.specs.declared.forms.Couple.{Couple}
use Rattle.lx_syntax.specs.declared.forms.ExprForm.{ExprForm}
use Rattle.lx_syntax.specs.declared.forms.ExprForm.TheVariants as form
use Rattle.lx_syntax.specs.declared.forms.Link.{Link}
use Rattle.lx_syntax.specs.declared.forms.Program.{Program}
use Rattle.lx_syntax.specs.declared.forms.Trailer.{Trailer}
use Rattle.lx_syntax.specs.Forms.{choices_at, expr_form, expr_of, items_at, links_at, pairs_at, trailers_at}
use Rattle.lx_state.specs.declared.machine.Machine.{Machine}
use Rattle.lx_state.specs.Lists.{dictionary_made, list_made, tuple_made}
use Rattle.lx_state.specs.Step.{go_on, ◌>>=◌}
use Rattle.lx_run.specs.declared.run.Standing.TheVariants as standing
use Rattle.lx_run.specs.Meant.{kept_of, makes, run_plain, texts}
use Rattle.lx_run.specs.Running.{chosen, comprehended, entries, eval, evals, first_that, held_value, linked, trailed}
use Rattle.lx_run.proofs.Down.{Stands}

module _ (p : Program) (levels k line : ℕ) (e : ExprForm) (m : Machine) (tree : Stands p k line e) where
  pub run_tuple : (ids : List (Id PyNodes)) → e ≡ form.Tuple ids → eval (makes p levels) (expr_of p k) m ≡ go_on (evals (makes p levels) (items_at (expr_of p) ids) m) (tuple_made line)
  unfolding eval expr_form
  run_tuple ids is = ap (λ x. eval (makes p levels) x m) (tree ∙ ap (expr_form p.src (expr_of p) line) is)

  pub run_listed : (ids : List (Id PyNodes)) → e ≡ form.Listed ids → eval (makes p levels) (expr_of p k) m ≡ go_on (evals (makes p levels) (items_at (expr_of p) ids) m) (list_made line)
  unfolding eval expr_form
  run_listed ids is = ap (λ x. eval (makes p levels) x m) (tree ∙ ap (expr_form p.src (expr_of p) line) is)

  pub run_dictionary : (pairs : List Couple) → e ≡ form.Dictionary pairs → eval (makes p levels) (expr_of p k) m ≡ go_on (entries (makes p levels) (pairs_at (expr_of p) pairs) m) dictionary_made
  unfolding eval expr_form
  run_dictionary pairs is = ap (λ x. eval (makes p levels) x m) (tree ∙ ap (expr_form p.src (expr_of p) line) is)

  pub run_comprehension : (item : Id PyNodes) (names : List Token) (source : Id PyNodes) (filter : Option (Id PyNodes)) → e ≡ form.Comprehension item names source filter → eval (makes p levels) (expr_of p k) m ≡ go_on (run_plain p levels source m) (comprehended line (texts p names) (kept_of p levels line item filter))
  unfolding eval expr_form
  run_comprehension item names source filter is = ap (λ x. eval (makes p levels) x m) (tree ∙ ap (expr_form p.src (expr_of p) line) is)

  pub run_choice : (value : Id PyNodes) (rest : List Branching) → e ≡ form.Choice value rest → eval (makes p levels) (expr_of p k) m ≡ chosen (makes p levels) (run_plain p levels value) (choices_at (expr_of p) rest) m
  unfolding eval expr_form
  run_choice value rest is = ap (λ x. eval (makes p levels) x m) (tree ∙ ap (expr_form p.src (expr_of p) line) is)

  pub run_either : (ids : List (Id PyNodes)) → e ≡ form.Either ids → eval (makes p levels) (expr_of p k) m ≡ first_that (makes p levels) true line (items_at (expr_of p) ids) m
  unfolding eval expr_form
  run_either ids is = ap (λ x. eval (makes p levels) x m) (tree ∙ ap (expr_form p.src (expr_of p) line) is)

  pub run_both : (ids : List (Id PyNodes)) → e ≡ form.Both ids → eval (makes p levels) (expr_of p k) m ≡ first_that (makes p levels) false line (items_at (expr_of p) ids) m
  unfolding eval expr_form
  run_both ids is = ap (λ x. eval (makes p levels) x m) (tree ∙ ap (expr_form p.src (expr_of p) line) is)

  pub run_chain : (first : Id PyNodes) (rest : List Link) → e ≡ form.Chain first rest → eval (makes p levels) (expr_of p k) m ≡ go_on (run_plain p levels first m) (λ v. linked (makes p levels) line v (links_at (expr_of p) rest))
  unfolding eval expr_form
  run_chain first rest is = ap (λ x. eval (makes p levels) x m) (tree ∙ ap (expr_form p.src (expr_of p) line) is)

  pub run_post : (of : Id PyNodes) (trailers : List Trailer) → e ≡ form.Post of trailers → eval (makes p levels) (expr_of p k) m ≡ go_on (run_plain p levels of m) (λ v. trailed (makes p levels) standing.Plain line v (trailers_at p.src (expr_of p) trailers) >>= held_value line)
  unfolding eval expr_form
  run_post of trailers is = ap (λ x. eval (makes p levels) x m) (tree ∙ ap (expr_form p.src (expr_of p) line) is)
