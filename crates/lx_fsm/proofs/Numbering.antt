-- Nodes that an FSM adds to a draft: the numbers of its states, their conditions, and whole targets.
use Rattle.std.proofs.Common.{◌≡◌, ℕ, ℤ, pos, ◌+◌, ◌<◌, List, [], ◌∷◌, ◌++◌, length, refl, sym, ap, subst, ◌∙◌, arith, nat_lt, inl, inr}
use Rattle.std.specs.Prelude.{Option, Some, slice_get}
use Rattle.std.proofs.lemmas.Bool.{and_from, cases_lt, lt-ltb}
use Rattle.std.proofs.lemmas.List.{length_push}
use Rattle.std.proofs.lemmas.Option.{slice_get_within}
use Rattle.lx_arena.proofs.Places.{get_front, get_last}
use Rattle.lx_circuit.specs.declared.WidthFault.{WidthFault}
use Rattle.lx_circuit.specs.Shapes.{binary_fault, fault_of, or_else, shape_of}
use Rattle.lx_circuit.specs.Terms.{Binary, Constant, Signal, Term}
use Rattle.lx_tables.specs.declared.operators.Op.TheVariants as op
use Rattle.lx_fhdl.specs.Below.{ExprId}
use Rattle.lx_fhdl.specs.Designs.{shapes, term}
use Rattle.lx_fhdl.specs.Drafts.{CanAddExpr, CanAddTarget, DraftKeeps, ExprPut}
use Rattle.lx_fhdl.specs.Nodes.{IsSmall}
use Rattle.lx_fhdl.specs.declared.design.Design.{Design}
use Rattle.lx_fhdl.specs.declared.exprs.Expr.TheVariants as expr
use Rattle.lx_fhdl.specs.declared.exprs.SigId.{SigId}
use Rattle.lx_fhdl.specs.declared.stmts.Target.TheVariants as target
use Rattle.lx_fhdl.proofs.Drafts.{draft_small}
use Rattle.lx_num.specs.declared.Shape.{Shape}
use Rattle.lx_lowering.proofs.Picks.{compared, small_constant}
use Rattle.lx_description.specs.declared.fsms.FsmDecl.{FsmDecl}
use Rattle.lx_fsm.specs.Lists.{Register, is_in, numeral}
use Rattle.lx_fsm.specs.Decls.{names_of}
use Rattle.lx_fsm.specs.Lowers.{AreAll, Grows, HasTerm, NumbersPut, TermPut, register}
use Rattle.lx_fsm.specs.declared.numbers.Numbers.{Numbers}
use Rattle.lx_fsm.proofs.Grown.{exprs_kept, grows_then, same_shapes, term_kept, term_put}

-- ---- what can be added

pub can_signal : (d : Design) (x : SigId) → x.0 < length d.signals → CanAddExpr d (expr.Sig x)
can_signal d x l = record { below = refl; shaped = refl; operands = tt; parts = tt; named = l; index = tt }

pub can_number : (d : Design) (x : SigId) (a : Shape) (z : ℤ) → DraftKeeps d → a ≡ shapes d x.0 → CanAddExpr d (expr.Const z a.bits a.signed)
can_number d x a z keep e = record { below = refl; shaped = small_constant a (subst IsSmall (sym e) (draft_small d keep x.0)); operands = tt; parts = tt; named = tt; index = tt }

pub can_equal : (d : Design) (f : FsmDecl) (state constant : ExprId) (k : ℕ) → DraftKeeps d → HasTerm d state.place (Signal f.state.0) → HasTerm d constant.place (numeral (register d f) k) → CanAddExpr d (expr.Binary op.Eq state constant)
can_equal d f state constant k keep h g =
    let s = shapes d in
    let own : Option WidthFault = binary_fault op.Eq (shape_of s (term d state.place)) (shape_of s (term d constant.place)) in
    record {
      below = search (and_from (nat_lt state.place (length d.exprs)) (nat_lt constant.place (length d.exprs)) (lt-ltb state.place (length d.exprs) h.there) (lt-ltb constant.place (length d.exprs) g.there));
      shaped =
          ap (λ o. or_else o (or_else (fault_of s (term d constant.place)) own)) (keep.arenas.shaped state.place h.there)
          ∙ ap (λ o. or_else o own) (keep.arenas.shaped constant.place g.there)
          ∙ ap (λ (t : Term). binary_fault op.Eq (shape_of s t) (shape_of s (term d constant.place))) h.tree
          ∙ ap (λ (t : Term). binary_fault op.Eq (s f.state.0) (shape_of s t)) g.tree
          ∙ compared (s f.state.0) (draft_small d keep f.state.0);
      operands = refl;
      parts = tt;
      named = tt;
      index = tt;
    }

pub can_whole : (d : Design) (x : SigId) → DraftKeeps d → x.0 < length d.signals → CanAddTarget d (target.Whole x)
can_whole d x keep l = record { below = refl; stands = l; bits = (draft_small d keep x.0).most }

-- ---- the numbers of more states

pub all_none : (d : Design) (t : ℕ → Term) → AreAll d t 0 []
all_none d t = record { long = refl; each = λ k i e. absurd (cc) }

pub all_more : (d : Design) (t : ℕ → Term) (n : ℕ) (ids : List ExprId) (id : ExprId) → AreAll d t n ids → HasTerm d id.place (t n) → AreAll d t (n + 1) (ids ++ id ∷ [])
all_more d t n ids id h g = record {
  long = omega (arith, length_push ids id, h.long);
  each = λ k i e.
      elim (cases_lt k (length ids)) [
        | inl l ↦ h.each k i (sym (get_front ids (id ∷ []) k l) ∙ e)
        | inr l ↦
            let within = slice_get_within (ids ++ id ∷ []) k i e in
            let one = length_push ids id in
            let q : length ids ≡ k = omega arith in
            let r : n ≡ k = omega (arith, h.long) in
            let last : slice_get (ids ++ id ∷ []) k ≡ Some id = subst (λ (j : ℕ). slice_get (ids ++ id ∷ []) j ≡ Some id) q (get_last ids id) in
            let is : id ≡ i = cc in
            subst (λ (j : ExprId). HasTerm d j.place (t k)) is (subst (λ (j : ℕ). HasTerm d id.place (t j)) r g)
      ];
}

-- the numbers of the first states, while `state` stands as an expression
pub record SomePut (x y : Design) (f : FsmDecl) (state : ExprId) (n : ℕ) (ids tests : List ExprId) : Type 0 where
  pub grows : Grows x y
  pub named : HasTerm y state.place (Signal f.state.0)
  pub numerals : AreAll y (numeral (register x f)) n ids
  pub conds : AreAll y (is_in (register x f)) n tests

abbrev pub register_with : ℕ → Shape → List (List ℕ) → Register
register_with x a names = record { signal = x; shape = a; names = names }

pub same_register : {x y : Design} (f : FsmDecl) → Grows x y → register y f ≡ register x f
same_register f g = ap (λ (a : Shape). register_with f.state.0 a (names_of f.states)) (same_shapes g f.state.0)

pub some_start : (x y : Design) (f : FsmDecl) (state : ExprId) → TermPut x y state.place (Signal f.state.0) → SomePut x y f state 0 [] []
some_start x y f state p = record { grows = p.grows; named = p.has; numerals = all_none y (numeral (register x f)); conds = all_none y (is_in (register x f)) }

pub some_more : (x y z w : Design) (f : FsmDecl) (state constant cond : ExprId) (n : ℕ) (numerals conds : List ExprId) → SomePut x y f state n numerals conds
    → TermPut y z constant.place (numeral (register y f) n) → TermPut z w cond.place (is_in (register z f) n) → SomePut x w f state (n + 1) (numerals ++ constant ∷ []) (conds ++ cond ∷ [])
some_more x y z w f state constant cond n numerals conds h p q =
    let g = grows_then p.grows q.grows in
    let to_z = grows_then h.grows p.grows in
    let one : HasTerm w constant.place (numeral (register x f) n) = subst (λ (r : Register). HasTerm w constant.place (numeral r n)) (same_register f h.grows) (term_kept q.grows p.has) in
    let two : HasTerm w cond.place (is_in (register x f) n) = subst (λ (r : Register). HasTerm w cond.place (is_in r n)) (same_register f to_z) q.has in
    record {
      grows = grows_then h.grows g;
      named = term_kept g h.named;
      numerals = all_more w (numeral (register x f)) n numerals constant (exprs_kept g h.numerals) one;
      conds = all_more w (is_in (register x f)) n conds cond (exprs_kept g h.conds) two;
    }

pub some_done : (x y : Design) (f : FsmDecl) (state : ExprId) (n m : ℕ) (numbers : Numbers) → SomePut x y f state n numbers.numerals numbers.conds → n ≡ m → NumbersPut x y (register x f) m numbers
some_done x y f state n m numbers h e = subst (λ (k : ℕ). NumbersPut x y (register x f) k numbers) e (record { grows = h.grows; are = record { numerals = h.numerals; conds = h.conds } })

-- ---- a condition more

pub cond_put : (x y : Design) (f : FsmDecl) (state constant : ExprId) (k id : ℕ) → DraftKeeps x → DraftKeeps y → HasTerm x state.place (Signal f.state.0) → HasTerm x constant.place (numeral (register x f) k)
    → ExprPut x y (expr.Binary op.Eq state constant) id → TermPut x y id (is_in (register x f) k)
cond_put x y f state constant k id before after h g p =
    let q = term_put x y (expr.Binary op.Eq state constant) id before after p in
    record {
      grows = q.grows;
      has = record {
        there = q.has.there;
        tree = q.has.tree ∙ ap (λ (t : Term). Binary op.Eq t (term x constant.place)) h.tree ∙ ap (Binary op.Eq (Signal f.state.0)) g.tree;
      };
    }

pub constant_kept : (x y : Design) (f : FsmDecl) (constant : ExprId) (k : ℕ) → TermPut x y constant.place (numeral (register x f) k) → HasTerm y constant.place (numeral (register y f) k)
constant_kept x y f constant k p = subst (λ (r : Register). HasTerm y constant.place (numeral r k)) (sym (same_register f p.grows)) p.has

pub number_put : (x y : Design) (f : FsmDecl) (a : Shape) (k id : ℕ) (z : ℤ) → DraftKeeps x → DraftKeeps y → a ≡ shapes x f.state.0 → z ≡ pos k → ExprPut x y (expr.Const z a.bits a.signed) id → TermPut x y id (numeral (register x f) k)
number_put x y f a k id z before after same is p =
    let q = term_put x y (expr.Const z a.bits a.signed) id before after p in
    record {
      grows = q.grows;
      has = record {
        there = q.has.there;
        tree = q.has.tree ∙ ap (λ (i : ℤ). Constant i a) is ∙ ap (Constant (pos k)) same;
      };
    }
