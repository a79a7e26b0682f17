-- Forms of few nodes, and of few tokens.
use Rattle.std.proofs.Common.{ℕ, Bool, true, false, ◌≡◌, ◌<◌, ◌≤◌, List, [], ◌∷◌, length, refl, subst, arith, map, Option, Some, None}
use Rattle.lx_token.specs.declared.tokens.Token.{Token}
use Rattle.lx_arena.specs.declared.Id.{Id}
use Rattle.lx_grammar.specs.declared.grammar.Rule.{Rule}
use Rattle.lx_grammar.specs.declared.grammar.Rule.TheVariants as rule
use Rattle.lx_pytree.specs.declared.tree.PyNodes.{PyNodes}
use Rattle.lx_syntax.specs.declared.forms.Comparison.{Comparison}
use Rattle.lx_syntax.specs.declared.forms.ExprForm.{ExprForm}
use Rattle.lx_syntax.specs.declared.forms.ExprForm.TheVariants as form
use Rattle.lx_syntax.specs.declared.forms.Link.{Link}
use Rattle.lx_syntax.specs.declared.forms.Signed.{Signed}
use Rattle.lx_syntax.specs.Ast as ast
use Rattle.lx_syntax.specs.Ast.{Expr}
use Rattle.lx_syntax.specs.Convert.{alone, chain, compared, comparison_of, flat, of_two, prefixed, related, sign_of, signs, token_line}
use Rattle.lx_syntax.specs.Forming.{links_in}
use Rattle.lx_syntax.specs.Forms.{Ids, Lower, expr_form, expr_ids, items_at, signed}
use Rattle.lx_syntax.specs.Says.{IsAlone, IsFlat, IsPair}
use Rattle.lx_syntax.proofs.Flats.{chain_form, no_chain}

-- ---- of one node

bare : (n : ℕ) → Lower n (expr_ids form.Misshapen)
unfolding expr_ids Lower
bare n = tt

none_alone : (src : List ℕ) (say : ℕ → Expr → Expr) → IsAlone src say [] form.Misshapen
unfolding alone expr_form items_at
none_alone src say = record { expr = λ f line. refl; lower = λ n h. bare n }

two_alone : (src : List ℕ) (say : ℕ → Expr → Expr) (a b : Id PyNodes) (ids : Ids) → IsAlone src say (a ∷ b ∷ ids) form.Misshapen
unfolding alone expr_form items_at
two_alone src say a b ids = record { expr = λ f line. refl; lower = λ n h. bare n }

pub alone_zero : (say : ℕ → Expr → Expr) (ids : Ids) → ids ≡ [] → (src : List ℕ) → IsAlone src say ids form.Misshapen
alone_zero say ids e src = rw e (none_alone src say)

pub alone_two : (say : ℕ → Expr → Expr) (ids : Ids) (a b : Id PyNodes) → ids ≡ a ∷ b ∷ [] → (src : List ℕ) → IsAlone src say ids form.Misshapen
alone_two say ids a b e src = rw e (two_alone src say a b [])

pub alone_many : (say : ℕ → Expr → Expr) (ids : Ids) → 3 ≤ length ids → (src : List ℕ) → IsAlone src say ids form.Misshapen
alone_many say [] h src = absurd (omega (arith, h))
alone_many say (a ∷ []) h src = absurd (omega (arith, h))
alone_many say (a ∷ b ∷ ids) h src = two_alone src say a b ids

one_lower : (n : ℕ) (a : Id PyNodes) → Lower n (a ∷ []) → a.place < n
unfolding Lower
one_lower n a h = h.0

pub negated_one : (xs : List Token) (ids : Ids) (a : Id PyNodes) → ids ≡ a ∷ [] → (src : List ℕ) → IsAlone src (λ _ e. ast.Not (map token_line xs) e) ids (form.Not xs a)
unfolding alone expr_form expr_ids items_at
negated_one xs ids a e src = rw e (record { expr = λ f line. refl; lower = λ n h. h })

pub nothing_one : (negated : Bool) (ids : Ids) (a : Id PyNodes) → ids ≡ a ∷ [] → (src : List ℕ) → IsAlone src (λ line e. ast.IsNothing line negated e) ids (form.IsNothing negated a)
unfolding alone expr_form expr_ids items_at
nothing_one negated ids a e src = rw e (record { expr = λ f line. refl; lower = λ n h. h })

pub prefixed_one : (ss : List Signed) (ids : Ids) (a : Id PyNodes) → ids ≡ a ∷ [] → (src : List ℕ) → IsAlone src (λ _ e. ast.Prefixed (map signed ss) e) ids (form.Prefixed ss a)
unfolding alone expr_form expr_ids items_at
prefixed_one ss ids a e src = rw e (record { expr = λ f line. refl; lower = λ n h. h })

pub same_one : (ids : Ids) (a : Id PyNodes) → ids ≡ a ∷ [] → (src : List ℕ) → IsAlone src (λ _ e. e) ids (form.Same a)
unfolding alone expr_form expr_ids items_at
same_one ids a e src = rw e (record { expr = λ f line. refl; lower = λ n h. h })

-- ---- of two nodes

none_pair : (src : List ℕ) (say : ℕ → Expr → Expr → Expr) → IsPair src say [] form.Misshapen
unfolding of_two expr_form items_at
none_pair src say = record { expr = λ f line. refl; lower = λ n h. bare n }

one_pair : (src : List ℕ) (say : ℕ → Expr → Expr → Expr) (a : Id PyNodes) → IsPair src say (a ∷ []) form.Misshapen
unfolding of_two expr_form items_at
one_pair src say a = record { expr = λ f line. refl; lower = λ n h. bare n }

three_pair : (src : List ℕ) (say : ℕ → Expr → Expr → Expr) (a b c : Id PyNodes) (ids : Ids) → IsPair src say (a ∷ b ∷ c ∷ ids) form.Misshapen
unfolding of_two expr_form items_at
three_pair src say a b c ids = record { expr = λ f line. refl; lower = λ n h. bare n }

pub pair_zero : (say : ℕ → Expr → Expr → Expr) (ids : Ids) → ids ≡ [] → (src : List ℕ) → IsPair src say ids form.Misshapen
pair_zero say ids e src = rw e (none_pair src say)

pub pair_one : (say : ℕ → Expr → Expr → Expr) (ids : Ids) (a : Id PyNodes) → ids ≡ a ∷ [] → (src : List ℕ) → IsPair src say ids form.Misshapen
pair_one say ids a e src = rw e (one_pair src say a)

pub pair_many : (say : ℕ → Expr → Expr → Expr) (ids : Ids) → 3 ≤ length ids → (src : List ℕ) → IsPair src say ids form.Misshapen
pair_many say [] h src = absurd (omega (arith, h))
pair_many say (a ∷ []) h src = absurd (omega (arith, h))
pair_many say (a ∷ b ∷ []) h src = absurd (omega (arith, h))
pair_many say (a ∷ b ∷ c ∷ ids) h src = three_pair src say a b c ids

pub pair_two : (src : List ℕ) (say : ℕ → Expr → Expr → Expr) (ids : Ids) (a b : Id PyNodes) (made : ExprForm) → ids ≡ a ∷ b ∷ [] → IsPair src say (a ∷ b ∷ []) made → IsPair src say ids made
pair_two src say ids a b made e is = rw e is

pub powered_two : (ids : Ids) (a b : Id PyNodes) → ids ≡ a ∷ b ∷ [] → (src : List ℕ) → IsPair src (λ line. ast.Power line) ids (form.Power a b)
unfolding of_two expr_form expr_ids items_at
powered_two ids a b e src = rw e (record { expr = λ f line. refl; lower = λ n h. h })

pub compared_none : (src : List ℕ) (o : Option Comparison) (a b : Id PyNodes) → None ≡ o → IsPair src (λ line. compared line o) (a ∷ b ∷ []) form.Misshapen
unfolding of_two compared expr_form items_at
compared_none src None a b e = record { expr = λ f line. refl; lower = λ n h. bare n }
compared_none src (Some c) a b e = absurd (cc)

pub compared_some : (src : List ℕ) (o : Option Comparison) (c : Comparison) (a b : Id PyNodes) → Some c ≡ o → IsPair src (λ line. compared line o) (a ∷ b ∷ []) (form.Compare c a b)
unfolding of_two compared expr_form expr_ids items_at
compared_some src o c a b e = subst (λ p. IsPair src (λ line. compared line p) (a ∷ b ∷ []) (form.Compare c a b)) e (record { expr = λ f line. refl; lower = λ n h. h })

-- ---- comparisons, by their tokens

pub related_none : (src : List ℕ) (xs : List Token) (ids : Ids) → xs ≡ [] → IsFlat src (related src) xs ids form.Misshapen
unfolding related expr_form
related_none src xs ids e = rw e (record { expr = λ f line. refl; lower = λ n h. bare n })

pub related_one : (src : List ℕ) (xs : List Token) (ids : Ids) (x : Token) (made : ExprForm) → xs ≡ x ∷ [] → IsPair src (λ line. compared line (comparison_of (sign_of src x))) ids made → IsFlat src (related src) xs ids made
unfolding related
related_one src xs ids x made e is = rw e (record { expr = is.expr; lower = is.lower })

pub related_two : (src : List ℕ) (xs : List Token) (ids : Ids) (made : ExprForm) → length xs ≡ 2 → IsAlone src (λ line e. ast.IsNothing line false e) ids made → IsFlat src (related src) xs ids made
unfolding related
related_two src [] ids made h is = absurd (omega (arith, h))
related_two src (x ∷ []) ids made h is = absurd (omega (arith, h))
related_two src (x ∷ y ∷ []) ids made h is = record { expr = is.expr; lower = is.lower }
related_two src (x ∷ y ∷ z ∷ xs) ids made h is = absurd (omega (arith, h))

pub related_three : (src : List ℕ) (xs : List Token) (ids : Ids) (made : ExprForm) → length xs ≡ 3 → IsAlone src (λ line e. ast.IsNothing line true e) ids made → IsFlat src (related src) xs ids made
unfolding related
related_three src [] ids made h is = absurd (omega (arith, h))
related_three src (x ∷ []) ids made h is = absurd (omega (arith, h))
related_three src (x ∷ y ∷ []) ids made h is = absurd (omega (arith, h))
related_three src (x ∷ y ∷ z ∷ []) ids made h is = record { expr = is.expr; lower = is.lower }
related_three src (x ∷ y ∷ z ∷ w ∷ xs) ids made h is = absurd (omega (arith, h))

pub related_many : (src : List ℕ) (xs : List Token) (ids : Ids) → 4 ≤ length xs → IsFlat src (related src) xs ids form.Misshapen
unfolding related expr_form
related_many src [] ids h = absurd (omega (arith, h))
related_many src (x ∷ []) ids h = absurd (omega (arith, h))
related_many src (x ∷ y ∷ []) ids h = absurd (omega (arith, h))
related_many src (x ∷ y ∷ z ∷ []) ids h = absurd (omega (arith, h))
related_many src (x ∷ y ∷ z ∷ w ∷ xs) ids h = record { expr = λ f line. refl; lower = λ n l. bare n }

-- ---- chains

pub chain_none : (src : List ℕ) (xs : List Token) (ids : Ids) → ids ≡ [] → IsFlat src (chain src) xs ids form.Misshapen
unfolding chain expr_form items_at
chain_none src xs ids e = rw e (record { expr = λ f line. refl; lower = λ n h. bare n })

pub chain_odd : (src : List ℕ) (xs : List Token) (ids rest : Ids) (first : Id PyNodes) → ids ≡ first ∷ rest → None ≡ links_in src xs rest → IsFlat src (chain src) xs ids form.Misshapen
chain_odd src xs ids rest first e h = rw e (no_chain src xs first rest h)

pub chain_some : (src : List ℕ) (xs : List Token) (ids rest : Ids) (first : Id PyNodes) (ls : List Link) → ids ≡ first ∷ rest → Some ls ≡ links_in src xs rest → IsFlat src (chain src) xs ids (form.Chain first ls)
chain_some src xs ids rest first ls e h = rw e (chain_form src xs first rest ls h)

-- ---- by rules

pub flat_not : (src : List ℕ) (xs : List Token) (ids : Ids) (made : ExprForm) → IsAlone src (λ _ e. ast.Not (map token_line xs) e) ids made → IsFlat src (flat src rule.Not) xs ids made
unfolding flat
flat_not src xs ids made is = record { expr = is.expr; lower = is.lower }

pub flat_power : (src : List ℕ) (xs : List Token) (ids : Ids) (made : ExprForm) → IsPair src (λ line. ast.Power line) ids made → IsFlat src (flat src rule.Power) xs ids made
unfolding flat
flat_power src xs ids made is = record { expr = is.expr; lower = is.lower }

pub flat_arg : (src : List ℕ) (xs : List Token) (ids : Ids) (made : ExprForm) → IsAlone src (λ _ e. e) ids made → IsFlat src (flat src rule.Arg) xs ids made
unfolding flat
flat_arg src xs ids made is = record { expr = is.expr; lower = is.lower }

pub flat_unary : (src : List ℕ) (xs : List Token) (ids : Ids) (made : ExprForm) → IsFlat src (λ ys _ es. prefixed (signs src ys) es) xs ids made → IsFlat src (flat src rule.Unary) xs ids made
unfolding flat
flat_unary src xs ids made is = record { expr = is.expr; lower = is.lower }

pub flat_comp : (src : List ℕ) (xs : List Token) (ids : Ids) (made : ExprForm) → IsFlat src (related src) xs ids made → IsFlat src (flat src rule.Comp) xs ids made
unfolding flat
flat_comp src xs ids made is = record { expr = is.expr; lower = is.lower }

pub flat_by : (src : List ℕ) (r s : Rule) (xs : List Token) (ids : Ids) (made : ExprForm) → r ≡ s → IsFlat src (flat src s) xs ids made → IsFlat src (flat src r) xs ids made
flat_by src r s xs ids made e is = rw e is
