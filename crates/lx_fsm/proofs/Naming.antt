-- Names that no state has, looked for one after another.
use Rattle.std.proofs.Common.{◌≡◌, ℕ, ◌+◌, ◌<◌, ◌≤◌, Bool, true, false, List, [], ◌∷◌, ◌++◌, Option, Some, None, cond, drop, get_or, length, take, refl, sym, ap, subst, ◌∙◌, arith, add-one}
use Rattle.std.specs.Prelude.{IfSome, Err, Ok, Result, flat_map, map, slice_get}
use Rattle.std.specs.Option.{unwrap_or}
use Rattle.std.specs.Str.{bytes_eq}
use Rattle.std.proofs.lemmas.Grind.{flat_map-append}
use Rattle.std.proofs.lemmas.List.{append-nil, length-map, take_all}
use Rattle.lx_text.specs.declared.faults.Fault.{Fault}
use Rattle.lx_text.specs.declared.faults.Kind.TheVariants as kind
use Rattle.lx_text.specs.declared.faults.Refusal.{Refusal}
use Rattle.lx_text.specs.declared.faults.Refusal.TheVariants as refusal
use Rattle.lx_alloc.specs.Judged.{Judged, Refused}
use Rattle.lx_alloc.proofs.Judging.{flat_exit_at, flat_more, flat_more_at, none_both, refused_right}
use Rattle.lx_fhdl.specs.declared.design.Design.{Design}
use Rattle.lx_fhdl.specs.Designs as design
use Rattle.lx_fhdl.specs.Designs.{term}
use Rattle.lx_arena.specs.Lower.{EachLower}
use Rattle.lx_description.specs.Below.{FsmStmtId, fsm_below}
use Rattle.lx_description.specs.declared.fsms.Asked.{Asked}
use Rattle.lx_description.specs.declared.fsms.FsmArm.{FsmArm}
use Rattle.lx_description.specs.declared.fsms.FsmBranch.{FsmBranch}
use Rattle.lx_description.specs.declared.fsms.FsmDecl.{FsmDecl}
use Rattle.lx_description.specs.declared.fsms.FsmStmt.{FsmStmt}
use Rattle.lx_description.specs.declared.fsms.StateDecl.{StateDecl}
use Rattle.lx_fsm.specs.Actions.{all_named, named, named_arms, named_branches}
use Rattle.lx_fsm.specs.Decls.{act, acts_at, arms_at, asked_names, branches_at, fsm_of, names_of, node_act, ongoing_of, state_of}
use Rattle.lx_fsm.specs.Lowers.{Refuses, unknown_in, unknown_in_acts, unknown_in_arms, unknown_in_branches, unknown_in_states, unknown_later}
use Rattle.lx_fsm.specs.Machine.{Fsm, Ongoing, State, faults, faults_with, number_from, state_names, stated, unknown, unknown_of}
use Rattle.lx_fsm.proofs.Acts.{act_is}
use Rattle.lx_fsm.proofs.Puts.{next_item, no_more}

-- ---- the number of a name

pub number_here : (ss : List StateDecl) (k : ℕ) (s : StateDecl) (name : List ℕ) → k < length ss → s ≡ get_or ss k s → bytes_eq s.name name ≡ true → number_from k (names_of (drop k ss)) name ≡ Some k
number_here ss k s name l e t =
    ap (λ (xs : List StateDecl). number_from k (names_of xs) name) (next_item ss k s l)
    ∙ ap (λ (x : StateDecl). cond (bytes_eq x.name name) (Some k) (number_from (k + 1) (names_of (drop (k + 1) ss)) name)) (sym e)
    ∙ ap (λ (b : Bool). cond b (Some k) (number_from (k + 1) (names_of (drop (k + 1) ss)) name)) t

pub number_on : (ss : List StateDecl) (k : ℕ) (s : StateDecl) (name : List ℕ) → k < length ss → s ≡ get_or ss k s → bytes_eq s.name name ≡ false → number_from k (names_of (drop k ss)) name ≡ number_from (k + 1) (names_of (drop (k + 1) ss)) name
number_on ss k s name l e t =
    ap (λ (xs : List StateDecl). number_from k (names_of xs) name) (next_item ss k s l)
    ∙ ap (λ (x : StateDecl). cond (bytes_eq x.name name) (Some k) (number_from (k + 1) (names_of (drop (k + 1) ss)) name)) (sym e)
    ∙ ap (λ (b : Bool). cond b (Some k) (number_from (k + 1) (names_of (drop (k + 1) ss)) name)) t

pub number_end : (ss : List StateDecl) (k : ℕ) (name : List ℕ) → length ss ≤ k → number_from k (names_of (drop k ss)) name ≡ None
number_end ss k name l = ap (λ (xs : List StateDecl). number_from k (names_of xs) name) (no_more ss k l)

-- ---- one after another

pub all_seen : {X : Type 0} (g : X → List Fault) (xs : List X) (k : ℕ) → length xs ≤ k → flat_map g (take k xs) ≡ [] → flat_map g xs ≡ []
all_seen g xs k l h = ap (flat_map g) (sym (take_all k xs l)) ∙ h

pub more_seen : {X : Type 0} (g : X → List Fault) (xs : List X) (k : ℕ) (d : X) → k < length xs → flat_map g (take k xs) ≡ [] → g (get_or xs k d) ≡ [] → flat_map g (take (k + 1) xs) ≡ []
more_seen g xs k d l h e = rw add-one (flat_more g xs k d l h e)

-- a first list, and then a second
pub judged_then : {T : Type 0} (a b : List Fault) (r : Result T Refusal) → a ≡ [] → Judged b r → Judged (a ++ b) r
judged_then a b (Ok x) e h = none_both a b e h
judged_then a b (Err x) e h = refused_right a b x e h

pub judged_is : {T : Type 0} (a b : List Fault) (r : Result T Refusal) → a ≡ b → Judged b r → Judged a r
judged_is a b r e h = subst (λ (fs : List Fault). Judged fs r) (sym e) h

-- ---- the names in a statement

unknown_append : (f : FsmDecl) (a b : List (List ℕ)) → unknown_in f (a ++ b) ≡ unknown_in f a ++ unknown_in f b
unknown_append f a b = flat_map-append (unknown (names_of f.states) f.line) a b

pub acts_unknown : (d : Design) (f : FsmDecl) (xs : List FsmStmt) (ids : List FsmStmtId) → unknown_in f (all_named (acts_at (act d xs) ids)) ≡ unknown_in_acts d f xs ids
acts_unknown d f xs [] = refl
acts_unknown d f xs (i ∷ is) =
    unknown_append f (named (act d xs i.place)) (all_named (acts_at (act d xs) is))
    ∙ ap (λ (fs : List Fault). unknown_in f (named (act d xs i.place)) ++ fs) (acts_unknown d f xs is)

branches_unknown : (d : Design) (f : FsmDecl) (xs : List FsmStmt) (bs : List FsmBranch) → unknown_in f (named_branches (branches_at (term d) (act d xs) bs)) ≡ unknown_in_branches d f xs bs
branches_unknown d f xs [] = refl
branches_unknown d f xs (b ∷ bs) =
    unknown_append f (all_named (acts_at (act d xs) b.body)) (named_branches (branches_at (term d) (act d xs) bs))
    ∙ ap (λ (fs : List Fault). fs ++ unknown_in f (named_branches (branches_at (term d) (act d xs) bs))) (acts_unknown d f xs b.body)
    ∙ ap (λ (fs : List Fault). unknown_in_acts d f xs b.body ++ fs) (branches_unknown d f xs bs)

arms_unknown : (d : Design) (f : FsmDecl) (xs : List FsmStmt) (arms : List FsmArm) → unknown_in f (named_arms (arms_at (act d xs) arms)) ≡ unknown_in_arms d f xs arms
arms_unknown d f xs [] = refl
arms_unknown d f xs (a ∷ as_) =
    unknown_append f (all_named (acts_at (act d xs) a.body)) (named_arms (arms_at (act d xs) as_))
    ∙ ap (λ (fs : List Fault). fs ++ unknown_in f (named_arms (arms_at (act d xs) as_))) (acts_unknown d f xs a.body)
    ∙ ap (λ (fs : List Fault). unknown_in_acts d f xs a.body ++ fs) (arms_unknown d f xs as_)

pub if_unknown : (d : Design) (f : FsmDecl) (xs : List FsmStmt) (bs : List FsmBranch) (rest : List FsmStmtId)
    → unknown_in f (named_branches (branches_at (term d) (act d xs) bs) ++ all_named (acts_at (act d xs) rest)) ≡ unknown_in_branches d f xs bs ++ unknown_in_acts d f xs rest
if_unknown d f xs bs rest =
    unknown_append f (named_branches (branches_at (term d) (act d xs) bs)) (all_named (acts_at (act d xs) rest))
    ∙ ap (λ (fs : List Fault). fs ++ unknown_in f (all_named (acts_at (act d xs) rest))) (branches_unknown d f xs bs)
    ∙ ap (λ (fs : List Fault). unknown_in_branches d f xs bs ++ fs) (acts_unknown d f xs rest)

pub case_unknown : (d : Design) (f : FsmDecl) (xs : List FsmStmt) (arms : List FsmArm) (rest : List FsmStmtId)
    → unknown_in f (named_arms (arms_at (act d xs) arms) ++ all_named (acts_at (act d xs) rest)) ≡ unknown_in_arms d f xs arms ++ unknown_in_acts d f xs rest
case_unknown d f xs arms rest =
    unknown_append f (named_arms (arms_at (act d xs) arms)) (all_named (acts_at (act d xs) rest))
    ∙ ap (λ (fs : List Fault). fs ++ unknown_in f (all_named (acts_at (act d xs) rest))) (arms_unknown d f xs arms)
    ∙ ap (λ (fs : List Fault). unknown_in_arms d f xs arms ++ fs) (acts_unknown d f xs rest)

-- the node at a place
pub named_is : (d : Design) (xs : List FsmStmt) (k : ℕ) (x y : FsmStmt) → EachLower fsm_below xs → slice_get xs k ≡ Some x → x ≡ y → named (act d xs k) ≡ named (node_act (term d) (design.target d) (act d xs) y)
named_is d xs k x y low e same = ap named (act_is d xs low k x e) ∙ ap (λ (z : FsmStmt). named (node_act (term d) (design.target d) (act d xs) z)) same

pub one_unknown : (f : FsmDecl) (name : List ℕ) → unknown_in f (name ∷ []) ≡ unknown (names_of f.states) f.line name
one_unknown f name = append-nil (unknown (names_of f.states) f.line name)

-- ---- all faults

pub same_names : (d : Design) (xs : List FsmStmt) (ss : List StateDecl) → map (λ (s : State). s.name) (map (state_of d xs) ss) ≡ names_of ss
same_names d xs [] = refl
same_names d xs (s ∷ ss) = ap (λ (ns : List (List ℕ)). s.name ∷ ns) (same_names d xs ss)

same_asked : (as_ : List Asked) → map (λ (o : Ongoing). o.name) (map ongoing_of as_) ≡ asked_names as_
same_asked [] = refl
same_asked (a ∷ as_) = ap (λ (ns : List (List ℕ)). a.name ∷ ns) (same_asked as_)

states_unknown : (d : Design) (f : FsmDecl) (xs : List FsmStmt) (ss : List StateDecl)
    → flat_map (λ (x : State). flat_map (unknown (names_of f.states) f.line) (all_named x.acts)) (map (state_of d xs) ss) ≡ unknown_in_states d f xs ss
states_unknown d f xs [] = refl
states_unknown d f xs (s ∷ ss) =
    ap (λ (fs : List Fault). fs ++ flat_map (λ (x : State). flat_map (unknown (names_of f.states) f.line) (all_named x.acts)) (map (state_of d xs) ss)) (acts_unknown d f xs s.body)
    ∙ ap (λ (fs : List Fault). unknown_in_acts d f xs s.body ++ fs) (states_unknown d f xs ss)

-- those of an FSM by the names of its states
with_names : (f : Fsm) (line : ℕ) (all : List (List ℕ)) → state_names f ≡ all
    → unknown_of f line (stated f.start) ++ (flat_map (λ (x : State). unknown_of f line (all_named x.acts)) f.states ++ unknown_of f line (map (λ (o : Ongoing). o.name) f.ongoing))
    ≡ flat_map (unknown all line) (stated f.start) ++ (flat_map (λ (x : State). flat_map (unknown all line) (all_named x.acts)) f.states ++ flat_map (unknown all line) (map (λ (o : Ongoing). o.name) f.ongoing))
with_names f line all e =
    ap (λ (ns : List (List ℕ)). flat_map (unknown ns line) (stated f.start) ++ (flat_map (λ (x : State). flat_map (unknown ns line) (all_named x.acts)) f.states ++ flat_map (unknown ns line) (map (λ (o : Ongoing). o.name) f.ongoing))) e

some_faults : (f : Fsm) (line : ℕ) (ss : List State) → 0 < length ss
    → faults_with f line ss ≡ unknown_of f line (stated f.start) ++ (flat_map (λ (x : State). unknown_of f line (all_named x.acts)) f.states ++ unknown_of f line (map (λ (o : Ongoing). o.name) f.ongoing))
some_faults f line [] l = absurd (omega arith)
some_faults f line (s ∷ ss) l = refl

pub faults_are : (d : Design) (f : FsmDecl) (xs : List FsmStmt) → 0 < length f.states
    → faults (fsm_of d xs f) f.line ≡ unknown_in f (stated f.start) ++ unknown_later d f xs
faults_are d f xs l =
    let m = fsm_of d xs f in
    some_faults m f.line m.states (omega (arith, length-map f.states (state_of d xs)))
    ∙ with_names m f.line (names_of f.states) (same_names d xs f.states)
    ∙ ap (λ (fs : List Fault). unknown_in f (stated f.start) ++ (fs ++ unknown_in f (map (λ (o : Ongoing). o.name) (map ongoing_of f.asked)))) (states_unknown d f xs f.states)
    ∙ ap (λ (ns : List (List ℕ)). unknown_in f (stated f.start) ++ (unknown_in_states d f xs f.states ++ unknown_in f ns)) (same_asked f.asked)

pub no_states : (d : Design) (f : FsmDecl) (xs : List FsmStmt) → f.states ≡ [] → faults (fsm_of d xs f) f.line ≡ record { line = f.line; kind = kind.NoStates } ∷ []
no_states d f xs e = ap (λ (ss : List StateDecl). faults_with (fsm_of d xs f) f.line (map (state_of d xs) ss)) e

-- ---- the names of `ongoing`

asked_flat : (f : FsmDecl) (as_ : List Asked) → unknown_in f (asked_names as_) ≡ flat_map (λ (a : Asked). unknown (names_of f.states) f.line a.name) as_
asked_flat f [] = refl
asked_flat f (a ∷ as_) = ap (λ (fs : List Fault). unknown (names_of f.states) f.line a.name ++ fs) (asked_flat f as_)

pub asked_more : (f : FsmDecl) (as_ : List Asked) (k : ℕ) (a : Asked) → k < length as_ → a ≡ get_or as_ k a → unknown_in f (asked_names (take k as_)) ≡ [] → unknown (names_of f.states) f.line a.name ≡ [] → unknown_in f (asked_names (take (k + 1) as_)) ≡ []
asked_more f as_ k a l e h n =
    asked_flat f (take (k + 1) as_)
    ∙ flat_more_at (λ (q : Asked). unknown (names_of f.states) f.line q.name) as_ k a l e (sym (asked_flat f (take k as_)) ∙ h) n

pub asked_end : (f : FsmDecl) (as_ : List Asked) (k : ℕ) → length as_ ≤ k → unknown_in f (asked_names (take k as_)) ≡ [] → unknown_in f (asked_names as_) ≡ []
asked_end f as_ k l h = ap (λ (q : List Asked). unknown_in f (asked_names q)) (sym (take_all k as_ l)) ∙ h

pub asked_exit : (f : FsmDecl) (as_ : List Asked) (k : ℕ) (a : Asked) (x : Refusal) → k < length as_ → a ≡ get_or as_ k a → unknown_in f (asked_names (take k as_)) ≡ [] → Refused (unknown (names_of f.states) f.line a.name) x → Refused (unknown_in f (asked_names as_)) x
asked_exit f as_ k a x l e h n =
    subst (λ (fs : List Fault). Refused fs x) (sym (asked_flat f as_))
    (flat_exit_at (λ (q : Asked). unknown (names_of f.states) f.line q.name) as_ k a x l e (sym (asked_flat f (take k as_)) ∙ h) n)

-- ---- the answer

pub some_of : {X : Type 0} (xs : List X) → (xs ≡ [] → ⊥) → 0 < length xs
some_of [] n = absurd (n refl)
some_of (x ∷ xs) n = omega arith

pub states_there : (d : Design) (f : FsmDecl) (xs : List FsmStmt) → faults (fsm_of d xs f) f.line ≡ [] → 0 < length f.states
states_there d f xs e = some_of f.states (λ n. let h : (record { line = f.line; kind = kind.NoStates } ∷ []) ≡ [] = sym (no_states d f xs n) ∙ e in absurd (cc))

pub refuses : (d : Design) (f : FsmDecl) (xs : List FsmStmt) (e : Refusal) → Refused (faults (fsm_of d xs f) f.line) e → Refuses d d xs f e
refuses d f xs (refusal.Fault x) h = (refl, h)
refuses d f xs refusal.NoMemory h = tt

-- a number that there is, else 0
pub or_zero_below : (o : Option ℕ) (n : ℕ) → IfSome o (λ k. k < n) → 0 < n → unwrap_or o 0 < n
or_zero_below (Some k) n h l = h
or_zero_below None n h l = l

-- ---- the names in the bodies of states

pub states_end : (d : Design) (f : FsmDecl) (xs : List FsmStmt) (ss all : List StateDecl) (k : ℕ) → ss ≡ all → length ss ≤ k → unknown_in_states d f xs (take k ss) ≡ [] → unknown_in_states d f xs all ≡ []
states_end d f xs ss all k e l h =
    subst (λ (q : List StateDecl). unknown_in_states d f xs q ≡ []) e (all_seen (λ (s : StateDecl). unknown_in_acts d f xs s.body) ss k l h)

pub states_exit : (d : Design) (f : FsmDecl) (xs : List FsmStmt) (ss all : List StateDecl) (k : ℕ) (s : StateDecl) (x : Refusal) → ss ≡ all → k < length ss → s ≡ get_or ss k s → unknown_in_states d f xs (take k ss) ≡ [] → Refused (unknown_in_acts d f xs s.body) x → Refused (unknown_in_states d f xs all) x
states_exit d f xs ss all k s x e l is h n =
    subst (λ (q : List StateDecl). Refused (unknown_in_states d f xs q) x) e (flat_exit_at (λ (q : StateDecl). unknown_in_acts d f xs q.body) ss k s x l is h n)
