-- What is kept of statements takes what the statements' own actions become.
use Rattle.std.proofs.Common.{◌≡◌, ℤ, Bool, true, false, ◌&&◌, List, [], ◌++◌, cond, refl, sym, ap, ◌∙◌}
use Rattle.std.specs.Prelude.{flat_map}
use Rattle.std.specs.Ordering.{int_eq}
use Rattle.std.proofs.lemmas.Bool.{and_parts}
use Rattle.std.proofs.lemmas.Grind.{flat_map-append}
use Rattle.std.proofs.lemmas.List.{append-nil}
use Rattle.lx_circuit.specs.Places.{Values}
use Rattle.lx_circuit.specs.Shapes.{Shapes}
use Rattle.lx_circuit.specs.Values.{value_of, is_zero}
use Rattle.lx_circuit.specs.Statements as tree
use Rattle.lx_circuit.specs.Statements.{Piece, taken_block}
use Rattle.lx_circuit.proofs.Cases.{by_test}
use Rattle.lx_fhdl.specs.Lowered.{is_done}
use Rattle.lx_lowering.proofs.Appends.{taken_append}
use Rattle.lx_fsm.specs.Actions.{Action, Act, Do, If, Case, Branches, NoBranch, Branch, Arms, NoArm, Arm, Acts, Done, Then, all_taken, taken, taken_arm, taken_branch}
use Rattle.lx_fsm.specs.Lists.{all_kept, are_empty, arms_empty, kept, kept_arms, kept_branches, some_case, some_if}
use Rattle.lx_circuit.specs.Terms.{Term}

-- what becomes of actions
abbrev pub become : Shapes → Values → (Action → tree.Block) → List Action → List Piece
become s v f as_ = flat_map (λ a. taken_block s v (f a)) as_

-- ---- an If or a Case in which nothing stands takes nothing

done_takes : (s : Shapes) (v : Values) (b : tree.Block) → is_done b ≡ true → taken_block s v b ≡ []
done_takes s v tree.Done e = refl
done_takes s v (tree.Then x xs) e = absurd (cc)

both_nothing : {P : Type 0} (b : Bool) (ps qs : List P) → ps ≡ [] → qs ≡ [] → cond b ps qs ≡ []
both_nothing true ps qs e f = e
both_nothing false ps qs e f = f

empty_takes : (s : Shapes) (v : Values) (bs : tree.Branches) (ps : List Piece) → are_empty bs ≡ true → ps ≡ [] → tree.taken_branch s v bs ps ≡ []
empty_takes s v tree.NoBranch ps e f = f
empty_takes s v (tree.Branch c b more) ps e f =
    let p = and_parts (is_done b) (are_empty more) e in
    both_nothing (is_zero (value_of s v c)) (tree.taken_branch s v more ps) (taken_block s v b) (empty_takes s v more ps p.1 f) (done_takes s v b p.0)

empty_arms_take : (s : Shapes) (v : Values) (z : ℤ) (arms : tree.Arms) (ps : List Piece) → arms_empty arms ≡ true → ps ≡ [] → tree.taken_arm s v z arms ps ≡ []
empty_arms_take s v z tree.NoArm ps e f = f
empty_arms_take s v z (tree.Arm key b more) ps e f =
    let p = and_parts (is_done b) (arms_empty more) e in
    both_nothing (int_eq key z) (taken_block s v b) (tree.taken_arm s v z more ps) (done_takes s v b p.0) (empty_arms_take s v z more ps p.1 f)

if_takes : (s : Shapes) (v : Values) (bs : tree.Branches) (rest : tree.Block) → taken_block s v (some_if bs rest) ≡ tree.taken_branch s v bs (taken_block s v rest)
if_takes s v bs rest =
    by_test (are_empty bs && is_done rest)
    (λ e. let p = and_parts (are_empty bs) (is_done rest) e in rw e (sym (empty_takes s v bs (taken_block s v rest) p.0 (done_takes s v rest p.1))))
    (λ e. rw e (append-nil (tree.taken_branch s v bs (taken_block s v rest))))

case_takes : (s : Shapes) (v : Values) (on : Term) (arms : tree.Arms) (rest : tree.Block) → taken_block s v (some_case on arms rest) ≡ tree.taken_arm s v (value_of s v on) arms (taken_block s v rest)
case_takes s v on arms rest =
    by_test (arms_empty arms && is_done rest)
    (λ e. let p = and_parts (arms_empty arms) (is_done rest) e in rw e (sym (empty_arms_take s v (value_of s v on) arms (taken_block s v rest) p.0 (done_takes s v rest p.1))))
    (λ e. rw e (append-nil (tree.taken_arm s v (value_of s v on) arms (taken_block s v rest))))

-- ---- what is kept

choice_becomes : (g : List Action → List Piece) (b : Bool) (ps qs : List Piece) (as_ cs : List Action) → ps ≡ g as_ → qs ≡ g cs → cond b ps qs ≡ g (cond b as_ cs)
choice_becomes g true ps qs as_ cs e f = e
choice_becomes g false ps qs as_ cs e f = f

mutual
  pub kept_takes : (s : Shapes) (v : Values) (f : Action → tree.Block) (a : Act) → taken_block s v (kept f a) ≡ become s v f (taken s v a)
  kept_takes s v f (Do a) = sym (append-nil (taken_block s v (f a)))
  kept_takes s v f (If bs rest) =
      if_takes s v (kept_branches f bs) (all_kept f rest)
      ∙ branches_take s v f bs (taken_block s v (all_kept f rest)) (all_taken s v rest) (all_kept_takes s v f rest)
  kept_takes s v f (Case on arms rest) =
      case_takes s v on (kept_arms f arms) (all_kept f rest)
      ∙ arms_take s v f (value_of s v on) arms (taken_block s v (all_kept f rest)) (all_taken s v rest) (all_kept_takes s v f rest)

  branches_take : (s : Shapes) (v : Values) (f : Action → tree.Block) (bs : Branches) (ps : List Piece) (as_ : List Action) → ps ≡ become s v f as_
      → tree.taken_branch s v (kept_branches f bs) ps ≡ become s v f (taken_branch s v bs as_)
  branches_take s v f NoBranch ps as_ e = e
  branches_take s v f (Branch c b more) ps as_ e =
      choice_becomes (become s v f) (is_zero (value_of s v c)) (tree.taken_branch s v (kept_branches f more) ps) (taken_block s v (all_kept f b)) (taken_branch s v more as_) (all_taken s v b)
      (branches_take s v f more ps as_ e) (all_kept_takes s v f b)

  arms_take : (s : Shapes) (v : Values) (f : Action → tree.Block) (z : ℤ) (arms : Arms) (ps : List Piece) (as_ : List Action) → ps ≡ become s v f as_
      → tree.taken_arm s v z (kept_arms f arms) ps ≡ become s v f (taken_arm s v z arms as_)
  arms_take s v f z NoArm ps as_ e = e
  arms_take s v f z (Arm key b more) ps as_ e =
      choice_becomes (become s v f) (int_eq key z) (taken_block s v (all_kept f b)) (tree.taken_arm s v z (kept_arms f more) ps) (all_taken s v b) (taken_arm s v z more as_)
      (all_kept_takes s v f b) (arms_take s v f z more ps as_ e)

  -- The assignments of what is kept are those that the actions taken become.
  pub all_kept_takes : (s : Shapes) (v : Values) (f : Action → tree.Block) (acts : Acts) → taken_block s v (all_kept f acts) ≡ become s v f (all_taken s v acts)
  all_kept_takes s v f Done = refl
  all_kept_takes s v f (Then x xs) =
      taken_append s v (kept f x) (all_kept f xs)
      ∙ ap (λ (ps : List Piece). ps ++ taken_block s v (all_kept f xs)) (kept_takes s v f x)
      ∙ ap (λ (ps : List Piece). become s v f (taken s v x) ++ ps) (all_kept_takes s v f xs)
      ∙ sym (flat_map-append (λ (a : Action). taken_block s v (f a)) (taken s v x) (all_taken s v xs))
