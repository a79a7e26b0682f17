-- Trailers and arguments one by one.
use Rattle.std.proofs.Common.{◌≡◌, ◌≢◌, ◌∙◌, ℕ, List, [], ◌∷◌, Ok, ap, refl, sym}
use Rattle.lx_syntax.specs.declared.forms.Program.{Program}
use Rattle.lx_syntax.specs.declared.forms.Trailer.{Trailer}
use Rattle.lx_syntax.specs.declared.forms.Trailer.TheVariants as trailer
use Rattle.lx_syntax.specs.Ast as ast
use Rattle.lx_syntax.specs.Ast.{Expr}
use Rattle.lx_syntax.specs.Forms.{expr_of, trailers_at}
use Rattle.lx_state.specs.declared.machine.Machine.{Machine}
use Rattle.lx_state.specs.declared.values.Value.{Value}
use Rattle.lx_state.specs.Step.{Step, give, go_on, ◌>>=◌}
use Rattle.lx_ops.specs.declared.places.Holder.TheVariants as holder
use Rattle.lx_builtins.specs.declared.arguments.Arguments.{Arguments}
use Rattle.lx_run.specs.declared.run.Standing.{Standing}
use Rattle.lx_run.specs.declared.run.Standing.TheVariants as standing
use Rattle.lx_run.specs.Calls.{Make, with_held}
use Rattle.lx_run.specs.Meant.{last_run, makes, trailer_run}
use Rattle.lx_run.specs.Running.{arguments_run, held_run, hold, placed_run, plainly, trailed}
use Rattle.lx_run.proofs.Steps.{go_on_go_on}

pub trailed_none : (p : Program) (levels : ℕ) (at : Standing) (line : ℕ) (v : Value) (m : Machine) → trailed (makes p levels) at line v (trailers_at p.src (expr_of p) []) m ≡ give (holder.Plain v) m
unfolding trailed trailers_at
trailed_none p levels at line v m = refl

pub trailed_last : (p : Program) (levels : ℕ) (at : Standing) (line : ℕ) (v : Value) (x : Trailer) (m : Machine) → trailed (makes p levels) at line v (trailers_at p.src (expr_of p) (x ∷ [])) m ≡ last_run p levels at line v x m
unfolding trailed trailers_at
trailed_last p levels at line v (trailer.Attribute name) m = refl
trailed_last p levels at line v (trailer.Call arguments) m = refl
trailed_last p levels at line v (trailer.Item id) m = refl
trailed_last p levels at line v (trailer.Slice low high) m = refl

pub trailed_more : (p : Program) (levels : ℕ) (at : Standing) (line : ℕ) (v : Value) (x : Trailer) (rest : List Trailer) (m : Machine) → rest ≢ [] → trailed (makes p levels) at line v (trailers_at p.src (expr_of p) (x ∷ rest)) m ≡ go_on (trailer_run p levels line v x m) (λ w. trailed (makes p levels) at line w (trailers_at p.src (expr_of p) rest))
unfolding trailed trailers_at
trailed_more p levels at line v x [] m some = absurd (some refl)
trailed_more p levels at line v (trailer.Attribute name) (trailer.Attribute other ∷ rest) m some = refl
trailed_more p levels at line v (trailer.Attribute name) (trailer.Call arguments ∷ rest) m some = refl
trailed_more p levels at line v (trailer.Attribute name) (trailer.Item id ∷ rest) m some = refl
trailed_more p levels at line v (trailer.Attribute name) (trailer.Slice low high ∷ rest) m some = refl
trailed_more p levels at line v (trailer.Call arguments) (y ∷ rest) m some = refl
trailed_more p levels at line v (trailer.Item id) (y ∷ rest) m some = refl
trailed_more p levels at line v (trailer.Slice low high) (y ∷ rest) m some = refl

-- a turn of the loop over trailers
pub trailed_next : (p : Program) (levels : ℕ) (at : Standing) (line : ℕ) (v w : Value) (x : Trailer) (rest : List Trailer) (m n : Machine) → rest ≢ [] → trailer_run p levels line v x m ≡ Ok (w, n) → trailed (makes p levels) at line v (trailers_at p.src (expr_of p) (x ∷ rest)) m ≡ trailed (makes p levels) at line w (trailers_at p.src (expr_of p) rest) n
trailed_next p levels at line v w x rest m n some ran =
    trailed_more p levels at line v x rest m some ∙ ap (λ r. go_on r (λ w. trailed (makes p levels) at line w (trailers_at p.src (expr_of p) rest))) ran

held_plain : (so_far : Arguments) (part : Step Value) (m : Machine) → placed_run so_far part m ≡ held_run so_far (plainly part) m
unfolding placed_run held_run
held_plain so_far part m = let same = go_on_go_on (part m) (λ v. give (holder.Plain v)) (λ h. give (with_held h so_far)) in sym same

-- an argument without a name is held as its expression is
pub placed_is : (make : Make) (at : Standing) (line : ℕ) (so_far : Arguments) (e : Expr) (rest : ast.Arguments) (m : Machine) → arguments_run make at line so_far (ast.placed e rest) m ≡ go_on (held_run so_far (hold make at e) m) (λ more. arguments_run make standing.Plain line more rest)
unfolding arguments_run hold
placed_is make at line so_far (ast.Post begin of trailers) rest m = refl
placed_is make at line so_far e rest m = ap (λ r. go_on r (λ more. arguments_run make standing.Plain line more rest)) (held_plain so_far _ m)
