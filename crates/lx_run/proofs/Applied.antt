-- What waits for its operand.
use Rattle.std.proofs.Common.{◌≡◌, ◌∙◌, ◌++◌, List, [], ◌∷◌, map, ap, refl, sym}
use Rattle.lx_token.specs.declared.tokens.Token.{Token}
use Rattle.lx_syntax.specs.declared.forms.Signed.{Signed}
use Rattle.lx_syntax.specs.Convert.{token_line}
use Rattle.lx_syntax.specs.Forms.{signed}
use Rattle.lx_state.specs.declared.machine.Machine.{Machine}
use Rattle.lx_state.specs.declared.values.Value.{Value}
use Rattle.lx_state.specs.Step.{go_on}
use Rattle.lx_ops.specs.Compare.{negated, prefixed}
use Rattle.lx_run.specs.declared.signs.Pending.{Pending}
use Rattle.lx_run.specs.declared.signs.Pending.TheVariants as pending
use Rattle.lx_run.specs.Signs.{all_applied, all_negated, all_signed, applied, sign_of}
use Rattle.lx_run.proofs.Steps.{go_on_give, go_on_go_on}

pub applied_last : (ps : List Pending) (p : Pending) (v : Value) (m : Machine) → all_applied (ps ++ p ∷ []) v m ≡ go_on (applied p v m) (all_applied ps)
unfolding all_applied
applied_last [] p v m = sym (go_on_give (applied p v m))
applied_last (q ∷ ps) p v m = ap (λ r. go_on r (applied q)) (applied_last ps p v m) ∙ go_on_go_on (applied p v m) (all_applied ps) (applied q)

pub nots_apply : (xs : List Token) (v : Value) (m : Machine) → all_applied (map (λ x. pending.Not (token_line x)) xs) v m ≡ all_negated (map token_line xs) v m
unfolding all_applied all_negated
nots_apply [] v m = refl
nots_apply (x ∷ xs) v m = ap (λ r. go_on r (negated (token_line x))) (nots_apply xs v m)

pub signs_apply : (xs : List Signed) (v : Value) (m : Machine) → all_applied (map pending.Sign xs) v m ≡ all_signed (map signed xs) v m
unfolding all_applied all_signed
signs_apply [] v m = refl
signs_apply (x ∷ xs) v m = ap (λ r. go_on r (prefixed x.line (sign_of x.prefix))) (signs_apply xs v m)
