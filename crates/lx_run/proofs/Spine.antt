-- Signs and powers that nest are gone down one by one.
use Rattle.std.proofs.Common.{◌≡◌, ◌∙◌, ◌++◌, ℕ, List, [], ◌∷◌, map, ap, refl, sym}
use Rattle.lx_value.specs.declared.numbers.PyOp.TheVariants as op
use Rattle.lx_token.specs.declared.tokens.Token.{Token}
use Rattle.lx_syntax.specs.declared.forms.Signed.{Signed}
use Rattle.lx_syntax.specs.Ast as ast
use Rattle.lx_syntax.specs.Ast.{Expr}
use Rattle.lx_syntax.specs.Convert.{token_line}
use Rattle.lx_syntax.specs.Forms.{signed}
use Rattle.lx_state.specs.declared.machine.Machine.{Machine}
use Rattle.lx_state.specs.declared.values.Value.{Value}
use Rattle.lx_state.specs.Step.{Outcome, Step, give, go_on, ◌>>=◌}
use Rattle.lx_ops.specs.Binary.{binary}
use Rattle.lx_run.specs.declared.signs.Pending.{Pending}
use Rattle.lx_run.specs.declared.signs.Pending.TheVariants as pending
use Rattle.lx_run.specs.Calls.{Make}
use Rattle.lx_run.specs.Running.{base_run, eval}
use Rattle.lx_run.specs.Signs.{all_applied, all_negated, all_signed, applied}
use Rattle.lx_run.proofs.Applied.{applied_last, nots_apply, signs_apply}
use Rattle.lx_run.proofs.Steps.{go_on_give, go_on_go_on, go_on_same}

applied_both : (ps qs : List Pending) (v : Value) (m : Machine) → all_applied (ps ++ qs) v m ≡ go_on (all_applied qs v m) (all_applied ps)
unfolding all_applied
applied_both [] qs v m = sym (go_on_give (all_applied qs v m))
applied_both (p ∷ ps) qs v m = ap (λ r. go_on r (applied p)) (applied_both ps qs v m) ∙ go_on_go_on (all_applied qs v m) (all_applied ps) (applied p)

-- ---- what waits for one operand

pub nots_end : (xs : List Token) (r : Outcome Value) → go_on r (all_applied (map (λ x. pending.Not (token_line x)) xs)) ≡ go_on r (all_negated (map token_line xs))
nots_end xs r = go_on_same r (all_applied (map (λ x. pending.Not (token_line x)) xs)) (all_negated (map token_line xs)) (nots_apply xs)

pub signs_end : (xs : List Signed) (r : Outcome Value) → go_on r (all_applied (map pending.Sign xs)) ≡ go_on r (all_signed (map signed xs))
signs_end xs r = go_on_same r (all_applied (map pending.Sign xs)) (all_signed (map signed xs)) (signs_apply xs)

-- ---- a step down

pub spine_signs : (make : Make) (xs : List Signed) (e : Expr) (ps : List Pending) (m : Machine) → go_on (eval make (ast.Prefixed (map signed xs) e) m) (all_applied ps) ≡ go_on (eval make e m) (all_applied (ps ++ map pending.Sign xs))
unfolding eval
spine_signs make xs e ps m =
    let behind : Value → Step Value = λ v n. go_on (all_signed (map signed xs) v n) (all_applied ps) in
    go_on_go_on (eval make e m) (all_signed (map signed xs)) (all_applied ps) ∙ go_on_same (eval make e m) behind (all_applied (ps ++ map pending.Sign xs)) (λ v n. ap (λ r. go_on r (all_applied ps)) (sym (signs_apply xs v n)) ∙ sym (applied_both ps (map pending.Sign xs) v n))

-- the base is run, and its power waits with what waits already
pub spine_power : (make : Make) (line : ℕ) (a b : Expr) (ps : List Pending) (m : Machine) → go_on (eval make (ast.Power line a b) m) (all_applied ps) ≡ go_on (base_run ps line (eval make a) m) (λ more. eval make b >>= all_applied more)
unfolding eval base_run
spine_power make line a b ps m =
    let powers : Value → Step Value = λ v. eval make b >>= λ w. binary line op.Pow v w in
    let waits : Value → Step Value = λ v. eval make b >>= all_applied (ps ++ pending.Power line v ∷ []) in
    let further : List Pending → Step Value = λ more. eval make b >>= all_applied more in
    let each : (v : Value) (n : Machine) → go_on (powers v n) (all_applied ps) ≡ waits v n =
    λ v n. go_on_go_on (eval make b n) (λ w. binary line op.Pow v w) (all_applied ps) ∙ go_on_same (eval make b n) (λ w k. go_on (binary line op.Pow v w k) (all_applied ps)) (all_applied (ps ++ pending.Power line v ∷ [])) (λ w k. sym (applied_last ps (pending.Power line v) w k)) in
    go_on_go_on (eval make a m) powers (all_applied ps) ∙ go_on_same (eval make a m) (λ v n. go_on (powers v n) (all_applied ps)) waits each ∙ sym (go_on_go_on (eval make a m) (λ v. give (ps ++ pending.Power line v ∷ [])) further)
