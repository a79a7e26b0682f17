-- Forms that are neither brackets nor attributes, calls and subscripts.
use Rattle.std.proofs.Common.{◌≡◌, ◌≢◌, ℕ, false, List, refl}
use Rattle.lx_arena.specs.declared.Id.{Id}
use Rattle.lx_token.specs.declared.tokens.Token.{Token}
use Rattle.lx_pytree.specs.declared.tree.PyNodes.{PyNodes}
use Rattle.lx_syntax.specs.declared.forms.ExprForm.{ExprForm}
use Rattle.lx_syntax.specs.declared.forms.ExprForm.TheVariants as form
use Rattle.lx_syntax.specs.declared.forms.Trailer.{Trailer}
use Rattle.lx_syntax.specs.Ast.{Expr}
use Rattle.lx_syntax.specs.Forms.{expr_form}
use Rattle.lx_state.specs.declared.machine.Machine.{Machine}
use Rattle.lx_run.specs.declared.run.Standing.{Standing}
use Rattle.lx_run.specs.Calls.{Make}
use Rattle.lx_run.specs.Running.{eval, hold, is_text, plainly}

pub hold_plain : (make : Make) (at : Standing) (src : List ℕ) (f : ℕ → Expr) (line : ℕ) (e : ExprForm) (m : Machine) → ((id : Id PyNodes) → e ≢ form.Same id) → ((of : Id PyNodes) (trailers : List Trailer) → e ≢ form.Post of trailers) → hold make at (expr_form src f line e) m ≡ plainly (eval make (expr_form src f line e)) m
unfolding hold expr_form
hold_plain make at src f line (form.Same id) m same post = absurd (same id refl)
hold_plain make at src f line (form.Post of trailers) m same post = absurd (post of trailers refl)
hold_plain make at src f line e m same post = refl

pub no_text : (src : List ℕ) (f : ℕ → Expr) (line : ℕ) (e : ExprForm) → ((id : Id PyNodes) → e ≢ form.Same id) → ((x : Token) → e ≢ form.Quoted x) → is_text (expr_form src f line e) ≡ false
unfolding expr_form
no_text src f line (form.Same id) same quoted = absurd (same id refl)
no_text src f line (form.Quoted x) same quoted = absurd (quoted x refl)
no_text src f line e same quoted = refl
