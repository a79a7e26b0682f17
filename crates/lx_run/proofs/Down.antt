-- Nodes whose operand is run with what waits for it.
use Rattle.std.proofs.Common.{◌≡◌, ◌∙◌, ◌++◌, ℕ, List, [], ◌∷◌, Ok, map, ap, refl, sym}
use Rattle.lx_arena.specs.declared.Id.{Id}
use Rattle.lx_token.specs.declared.tokens.Token.{Token}
use Rattle.lx_pytree.specs.declared.tree.PyNodes.{PyNodes}
use Rattle.lx_syntax.specs.declared.forms.ExprForm.{ExprForm}
use Rattle.lx_syntax.specs.declared.forms.ExprForm.TheVariants as form
use Rattle.lx_syntax.specs.declared.forms.Program.{Program}
use Rattle.lx_syntax.specs.declared.forms.Signed.{Signed}
use Rattle.lx_syntax.specs.Ast as ast
use Rattle.lx_syntax.specs.Convert.{token_line}
use Rattle.lx_syntax.specs.Forms.{expr_form, expr_of, signed}
use Rattle.lx_state.specs.declared.machine.Machine.{Machine}
use Rattle.lx_state.specs.declared.values.Value.{Value}
use Rattle.lx_state.specs.Step.{go_on, ◌>>=◌}
use Rattle.lx_run.specs.declared.signs.Pending.{Pending}
use Rattle.lx_run.specs.declared.signs.Pending.TheVariants as pending
use Rattle.lx_run.specs.Meant.{makes, run_plain}
use Rattle.lx_run.specs.Running.{base_run, eval}
use Rattle.lx_run.specs.Signs.{all_applied}
use Rattle.lx_run.proofs.Spine.{nots_end, signs_end, spine_power, spine_signs}

-- a node of this form stands at k
abbrev pub Stands : Program → ℕ → ℕ → ExprForm → Type 0
Stands p k line e = expr_of p k ≡ expr_form p.src (expr_of p) line e

-- ---- behind what waits already

pub down_signs : (p : Program) (levels k line : ℕ) (e : ExprForm) (xs : List Signed) (of : Id PyNodes) (ps qs : List Pending) (m : Machine) → Stands p k line e → e ≡ form.Prefixed xs of → qs ≡ ps ++ map pending.Sign xs → go_on (eval (makes p levels) (expr_of p k) m) (all_applied ps) ≡ go_on (eval (makes p levels) (expr_of p of.place) m) (all_applied qs)
unfolding expr_form
down_signs p levels k line e xs of ps qs m tree is more =
    let node : expr_of p k ≡ ast.Prefixed (map signed xs) (expr_of p of.place) = tree ∙ ap (expr_form p.src (expr_of p) line) is in
    ap (λ x. go_on (eval (makes p levels) x m) (all_applied ps)) node ∙ spine_signs (makes p levels) xs (expr_of p of.place) ps m ∙ ap (λ rs. go_on (eval (makes p levels) (expr_of p of.place) m) (all_applied rs)) (sym more)

pub down_power : (p : Program) (levels k line : ℕ) (e : ExprForm) (base exponent : Id PyNodes) (ps : List Pending) (m : Machine) → Stands p k line e → e ≡ form.Power base exponent → go_on (eval (makes p levels) (expr_of p k) m) (all_applied ps) ≡ go_on (base_run ps line (run_plain p levels base) m) (λ more. eval (makes p levels) (expr_of p exponent.place) >>= all_applied more)
unfolding expr_form
down_power p levels k line e base exponent ps m tree is =
    let node : expr_of p k ≡ ast.Power line (expr_of p base.place) (expr_of p exponent.place) = tree ∙ ap (expr_form p.src (expr_of p) line) is in
    ap (λ x. go_on (eval (makes p levels) x m) (all_applied ps)) node ∙ spine_power (makes p levels) line (expr_of p base.place) (expr_of p exponent.place) ps m

pub down_base : (p : Program) (levels k line : ℕ) (e : ExprForm) (base exponent : Id PyNodes) (ps qs : List Pending) (m n : Machine) → Stands p k line e → e ≡ form.Power base exponent → base_run ps line (run_plain p levels base) m ≡ Ok (qs, n) → go_on (eval (makes p levels) (expr_of p k) m) (all_applied ps) ≡ go_on (eval (makes p levels) (expr_of p exponent.place) n) (all_applied qs)
down_base p levels k line e base exponent ps qs m n tree is ran = down_power p levels k line e base exponent ps m tree is ∙ ap (λ r. go_on r (λ more. eval (makes p levels) (expr_of p exponent.place) >>= all_applied more)) ran

-- ---- alone

pub run_nots : (p : Program) (levels k line : ℕ) (e : ExprForm) (xs : List Token) (of : Id PyNodes) (ps : List Pending) (m : Machine) → Stands p k line e → e ≡ form.Not xs of → ps ≡ map (λ x. pending.Not (token_line x)) xs → eval (makes p levels) (expr_of p k) m ≡ go_on (eval (makes p levels) (expr_of p of.place) m) (all_applied ps)
unfolding expr_form eval
run_nots p levels k line e xs of ps m tree is more =
    let node : expr_of p k ≡ ast.Not (map token_line xs) (expr_of p of.place) = tree ∙ ap (expr_form p.src (expr_of p) line) is in
    let same = nots_end xs (eval (makes p levels) (expr_of p of.place) m) in
    ap (λ x. eval (makes p levels) x m) node ∙ sym same ∙ ap (λ rs. go_on (eval (makes p levels) (expr_of p of.place) m) (all_applied rs)) (sym more)

pub run_signs : (p : Program) (levels k line : ℕ) (e : ExprForm) (xs : List Signed) (of : Id PyNodes) (ps : List Pending) (m : Machine) → Stands p k line e → e ≡ form.Prefixed xs of → ps ≡ map pending.Sign xs → eval (makes p levels) (expr_of p k) m ≡ go_on (eval (makes p levels) (expr_of p of.place) m) (all_applied ps)
unfolding expr_form eval
run_signs p levels k line e xs of ps m tree is more =
    let node : expr_of p k ≡ ast.Prefixed (map signed xs) (expr_of p of.place) = tree ∙ ap (expr_form p.src (expr_of p) line) is in
    let same = signs_end xs (eval (makes p levels) (expr_of p of.place) m) in
    ap (λ x. eval (makes p levels) x m) node ∙ sym same ∙ ap (λ rs. go_on (eval (makes p levels) (expr_of p of.place) m) (all_applied rs)) (sym more)

-- the base was run
pub run_power : (p : Program) (levels k line : ℕ) (e : ExprForm) (base exponent : Id PyNodes) (v : Value) (ps : List Pending) (m n : Machine) → Stands p k line e → e ≡ form.Power base exponent → ps ≡ pending.Power line v ∷ [] → run_plain p levels base m ≡ Ok (v, n) → eval (makes p levels) (expr_of p k) m ≡ go_on (eval (makes p levels) (expr_of p exponent.place) n) (all_applied ps)
unfolding expr_form eval all_applied
run_power p levels k line e base exponent v ps m n tree is more ran =
    let node : expr_of p k ≡ ast.Power line (expr_of p base.place) (expr_of p exponent.place) = tree ∙ ap (expr_form p.src (expr_of p) line) is in
    rw (node, ran, more) refl
