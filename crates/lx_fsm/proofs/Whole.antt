-- The two lists of an FSM.
use Rattle.std.proofs.Common.{◌≡◌, ℕ, ◌+◌, ◌<◌, ◌≤◌, List, [], ◌∷◌, ◌++◌, drop, get_or, length, sym, ap, subst, ◌∙◌, arith}
use Rattle.std.specs.Prelude.{map}
use Rattle.std.proofs.Math.Path.{fun_ext}
use Rattle.lx_arena.specs.Lower.{EachLower}
use Rattle.lx_circuit.specs.Statements as tree
use Rattle.lx_circuit.specs.Terms.{Term}
use Rattle.lx_fhdl.specs.Below.{ExprId, StmtId, TargetId}
use Rattle.lx_fhdl.specs.Designs as design
use Rattle.lx_fhdl.specs.Designs.{shapes, term}
use Rattle.lx_fhdl.specs.Keeping.{EachOf, IsUnsigned}
use Rattle.lx_fhdl.specs.declared.design.Design.{Design}
use Rattle.lx_description.specs.Below.{fsm_below}
use Rattle.lx_description.specs.Keeping.{FsmStmtStands}
use Rattle.lx_description.specs.declared.fsms.Asked.{Asked}
use Rattle.lx_description.specs.declared.fsms.FsmDecl.{FsmDecl}
use Rattle.lx_description.specs.declared.fsms.FsmStmt.{FsmStmt}
use Rattle.lx_description.specs.declared.fsms.StateDecl.{StateDecl}
use Rattle.lx_reads.specs.Drivings.{Driving, assign_drivings, driving}
use Rattle.lx_lowering.specs.Flat.{append, one}
use Rattle.lx_fsm.specs.Actions.{Act}
use Rattle.lx_fsm.specs.Decls.{acts_at, fsm_of, names_of, ongoing_of, state_of}
use Rattle.lx_fsm.specs.Driven.{comb_driven, driven_at, ongoing_driven, states_driven, sync_driven}
use Rattle.lx_fsm.specs.Lists.{Register, by_state, is_in, numeral, ongoing_list, register_of}
use Rattle.lx_fsm.specs.Lowers.{AreAll, AreThere, CanLower, Driven, Grows, HasTerm, IsListed, IsReady, NumbersPut, Put, Read, TargetPut, becomes, register}
use Rattle.lx_fsm.specs.Machine.{State, number_among, start_among}
use Rattle.lx_fsm.specs.declared.numbers.Numbers.{Numbers}
use Rattle.lx_fsm.specs.declared.states.Part.{Part}
use Rattle.lx_fsm.specs.declared.states.Part.TheVariants as part
use Rattle.lx_fsm.proofs.Naming.{same_names}
use Rattle.lx_fsm.proofs.Grown.{block_kept, exprs_kept, grows_then, there_kept}
use Rattle.lx_fsm.proofs.Numbering.{register_with, same_register}
use Rattle.lx_fsm.proofs.Drives.{list_stays}
use Rattle.lx_fsm.proofs.StatesDriven.{driven_kept}
use Rattle.lx_fsm.proofs.Puts.{PutSome, next_item, no_more, put_after, put_drives, put_is, put_then, some_done, some_more}
use Rattle.lx_fsm.proofs.Ready.{acts_stay, all_wider}

-- ---- `ongoing`

pub ongoing_put : {x y z : Design} {a b : List StmtId} (f : FsmDecl) (asked : Asked) (target : TargetId) (i : ExprId) → AreThere x a → TargetPut x y target.place (tree.Whole asked.signal.0)
    → HasTerm x i.place (is_in (register x f) (number_among (names_of f.states) asked.name)) → Put y z a b (one (tree.Assign (design.target y target.place) (term y i.place))) (λ driver. assign_drivings driver f.line (design.target y target.place))
    → Put x z a b (ongoing_list (register x f) (ongoing_of asked ∷ [])) (λ driver. driving driver f.line asked.signal.0 ∷ [])
ongoing_put {x} {y} f asked target i h t c put =
    put_after t.grows h
    (put_drives (λ driver. ap (assign_drivings driver f.line) t.has.tree) (put_is
    (ap (λ (u : tree.Target). one (tree.Assign u (term y i.place))) t.has.tree
    ∙ ap (λ (u : Term). one (tree.Assign (tree.Whole asked.signal.0) u)) (t.grows.stays.terms i.place c.there ∙ c.tree))
    put))

pub ongoing_next : {x y z : Design} {a b c : List StmtId} {whole : tree.Block} {all : Driven} (f : FsmDecl) (as_ : List Asked) (k : ℕ) (asked : Asked) → k < length as_ → asked ≡ get_or as_ k asked
    → PutSome x y a b whole (ongoing_list (register x f) (map ongoing_of (drop k as_))) all (λ driver. ongoing_driven driver f.line (drop k as_)) → Put y z b c (ongoing_list (register y f) (ongoing_of asked ∷ [])) (λ driver. driving driver f.line asked.signal.0 ∷ [])
    → PutSome x z a c whole (ongoing_list (register x f) (map ongoing_of (drop (k + 1) as_))) all (λ driver. ongoing_driven driver f.line (drop (k + 1) as_))
ongoing_next {x} {y} f as_ k asked l e some put =
    some_more some
    (ap (λ (qs : List Asked). ongoing_list (register x f) (map ongoing_of qs)) (next_item as_ k asked l)
    ∙ ap (λ (q : Asked). ongoing_list (register x f) (ongoing_of q ∷ map ongoing_of (drop (k + 1) as_))) (sym e))
    (put_is (ap (λ (r : Register). ongoing_list r (ongoing_of asked ∷ [])) (same_register f some.grows)) put)
    (λ driver. ap (λ (q : List Asked). ongoing_driven driver f.line q) (next_item as_ k asked l) ∙ ap (λ (q : Asked). ongoing_driven driver f.line (q ∷ drop (k + 1) as_)) (sym e))

pub ongoing_done : {x y : Design} {a b : List StmtId} (f : FsmDecl) (all as_ : List Asked) (k : ℕ) → all ≡ as_ → length all ≤ k
    → PutSome x y a b (ongoing_list (register x f) (map ongoing_of all)) (ongoing_list (register x f) (map ongoing_of (drop k all))) (λ driver. ongoing_driven driver f.line all) (λ driver. ongoing_driven driver f.line (drop k all))
    → Put x y a b (ongoing_list (register x f) (map ongoing_of as_)) (λ driver. ongoing_driven driver f.line as_)
ongoing_done {x} {y} {a} {b} f all as_ k e l some =
    subst (λ (q : List Asked). Put x y a b (ongoing_list (register x f) (map ongoing_of q)) (λ driver. ongoing_driven driver f.line q)) e
    (some_done some (ap (λ (q : List Asked). ongoing_list (register x f) (map ongoing_of q)) (no_more all k l)) (λ driver. ap (λ (q : List Asked). ongoing_driven driver f.line q) (no_more all k l)))

pub signals_there : (d : Design) (as_ : List Asked) → EachOf (λ (a : Asked). IsUnsigned d 1 a.signal) as_ → EachOf (λ (a : Asked). a.signal.0 < length d.signals) as_
signals_there d [] h = tt
signals_there d (a ∷ as_) h = (h.0.there, signals_there d as_ h.1)

pub signals_kept : {x y : Design} (as_ : List Asked) → Grows x y → EachOf (λ (a : Asked). a.signal.0 < length x.signals) as_ → EachOf (λ (a : Asked). a.signal.0 < length y.signals) as_
signals_kept [] g h = tt
signals_kept {x} {y} (a ∷ as_) g h = let e : length y.signals ≡ length x.signals = ap length g.signals in (omega (arith, h.0), signals_kept as_ g h.1)

-- ---- what is read

pub is_ready : {x y z : Design} (r : Read) (numbers : Numbers) → CanLower x r.stmts r.fsm → 0 < length r.fsm.states → EachLower fsm_below r.stmts → NumbersPut x y (register x r.fsm) (length r.fsm.states) numbers → r.numerals ≡ numbers.numerals
    → TargetPut y z r.state.place (tree.Whole r.fsm.state.0) → IsReady r z
is_ready {x} {y} {z} r numbers can some low n e t =
    let g = grows_then n.grows t.grows in
    record {
      lower = low;
      stmts = all_wider (length x.exprs) (length x.targets) (length z.exprs) (length z.targets) r.stmts g.stays.exprs g.stays.targets can.stmts;
      some = some;
      state = t.has;
      numerals =
          subst (λ (ids : List ExprId). AreAll z (numeral (register z r.fsm)) (length r.fsm.states) ids) (sym e)
          (subst (λ (q : Register). AreAll z (numeral q) (length r.fsm.states) numbers.numerals) (sym (same_register r.fsm g)) (exprs_kept t.grows n.are.numerals));
    }

pub conds_kept : {x y z : Design} (f : FsmDecl) (n : ℕ) (numbers : Numbers) → NumbersPut x y (register x f) n numbers → Grows y z → AreAll z (is_in (register z f)) n numbers.conds
conds_kept {x} {y} {z} f n numbers p g =
    subst (λ (q : Register). AreAll z (is_in q) n numbers.conds) (sym (same_register f (grows_then p.grows g))) (exprs_kept g p.are.conds)

-- ---- the two lists over the draft as it was

register_is : (d : Design) (xs : List FsmStmt) (f : FsmDecl) → register d f ≡ register_of (shapes d) (fsm_of d xs f)
register_is d xs f = ap (register_with f.state.0 (shapes d f.state.0)) (sym (same_names d xs f.states))

-- the trees of states stay
abbrev pub state_by : (ℕ → Act) → StateDecl → State
state_by a s = record { name = s.name; acts = acts_at a s.body }

pub states_stay : {x y : Design} (xs : List FsmStmt) (ss : List StateDecl) → Grows x y → EachLower fsm_below xs → EachOf (FsmStmtStands (length x.exprs) (length x.targets)) xs → map (state_of y xs) ss ≡ map (state_of x xs) ss
states_stay {x} {y} xs ss g low h = ap (λ (a : ℕ → Act). map (state_by a) ss) (acts_stay xs g low h)

states_over : {x y : Design} (p : Part) (xs : List FsmStmt) (f : FsmDecl) → Grows x y → EachLower fsm_below xs → EachOf (FsmStmtStands (length x.exprs) (length x.targets)) xs
    → by_state (register y f) (becomes (register y f) p) 0 (map (state_of y xs) f.states) ≡ by_state (register_of (shapes x) (fsm_of x xs f)) (becomes (register_of (shapes x) (fsm_of x xs f)) p) 0 (map (state_of x xs) f.states)
states_over {x} {y} p xs f g low h =
    let r = register_of (shapes x) (fsm_of x xs f) in
    ap (λ (q : Register). by_state q (becomes q p) 0 (map (state_of y xs) f.states)) (same_register f g ∙ register_is x xs f)
    ∙ ap (λ (ss : List State). by_state r (becomes r p) 0 ss) (states_stay xs f.states g low h)

-- what the states drive stays
abbrev pub states_driven_at : Design → Part → List FsmStmt → FsmDecl → Driven
states_driven_at d p xs f = λ driver. states_driven (driven_at d f.state.0 p driver xs) f.states

pub driven_over : {x y : Design} (p : Part) (xs : List FsmStmt) (f : FsmDecl) → Grows x y → EachLower fsm_below xs → EachOf (FsmStmtStands (length x.exprs) (length x.targets)) xs
    → (driver : ℕ) → states_driven_at y p xs f driver ≡ states_driven_at x p xs f driver
driven_over p xs f g low h driver = ap (λ (k : ℕ → List Driving). states_driven k f.states) (fun_ext (driven_kept f.state.0 p driver xs g low h))

-- the drivings of the two lists stay
pub comb_driven_stays : {x y : Design} (xs : List FsmStmt) (f : FsmDecl) → Grows x y → EachLower fsm_below xs → EachOf (FsmStmtStands (length x.exprs) (length x.targets)) xs → (driver : ℕ) → comb_driven y xs f driver ≡ comb_driven x xs f driver
comb_driven_stays xs f g low h driver = ap (λ (l : List Driving). l ++ ongoing_driven driver f.line f.asked) (driven_over part.Comb xs f g low h driver)

pub sync_driven_stays : {x y : Design} (xs : List FsmStmt) (f : FsmDecl) → Grows x y → EachLower fsm_below xs → EachOf (FsmStmtStands (length x.exprs) (length x.targets)) xs → (driver : ℕ) → sync_driven y xs f driver ≡ sync_driven x xs f driver
sync_driven_stays xs f g low h driver = driven_over part.Sync xs f g low h driver

pub listed : {x z u v w : Design} {comb sync first : List StmtId} {start : ℕ} (xs : List FsmStmt) (f : FsmDecl) → CanLower x xs f → EachLower fsm_below xs → Grows x z
    → Put z u [] first (by_state (register z f) (becomes (register z f) part.Comb) 0 (map (state_of z xs) f.states)) (states_driven_at z part.Comb xs f)
    → Put u v first comb (ongoing_list (register u f) (map ongoing_of f.asked)) (λ driver. ongoing_driven driver f.line f.asked)
    → Put v w [] sync (by_state (register v f) (becomes (register v f) part.Sync) 0 (map (state_of v xs) f.states)) (states_driven_at v part.Sync xs f)
    → start ≡ start_among (names_of f.states) f.start → IsListed x w xs f (record { comb = comb; sync = sync; start = start })
listed {x} {z} {u} {v} {w} {comb} {sync} {first} {start} xs f can low g states ongoing after e =
    let r = register_of (shapes x) (fsm_of x xs f) in
    let to_v = grows_then (grows_then g states.grows) ongoing.grows in
    let both = put_then states ongoing in
    record {
      grows = grows_then to_v after.grows;
      comb = record {
        there = there_kept comb after.grows both.there;
        tree =
            block_kept comb after.grows both.there
            ∙ both.tree
            ∙ ap (λ (b : tree.Block). append b (ongoing_list (register u f) (map ongoing_of f.asked))) (states_over part.Comb xs f g low can.stmts)
            ∙ ap (λ (q : Register). append (by_state r (becomes r part.Comb) 0 (map (state_of x xs) f.states)) (ongoing_list q (map ongoing_of f.asked))) (same_register f (grows_then g states.grows) ∙ register_is x xs f);
      };
      sync = record { there = after.there; tree = after.tree ∙ states_over part.Sync xs f to_v low can.stmts };
      comb_drivings = λ driver.
          list_stays v w comb after.grows.drivings both.there driver
          ∙ both.drives driver
          ∙ ap (λ (l : List Driving). l ++ ongoing_driven driver f.line f.asked) (driven_over part.Comb xs f g low can.stmts driver);
      sync_drivings = λ driver. after.drives driver ∙ driven_over part.Sync xs f to_v low can.stmts driver;
      start = e ∙ ap (λ (ns : List (List ℕ)). start_among ns f.start) (sym (same_names x xs f.states));
    }

-- the conditions stay
pub conds_stay : {x y : Design} {ids : List ExprId} (f : FsmDecl) (n : ℕ) → Grows x y → AreAll x (is_in (register x f)) n ids → AreAll y (is_in (register y f)) n ids
conds_stay {x} {y} {ids} f n g h = subst (λ (q : Register). AreAll y (is_in q) n ids) (sym (same_register f g)) (exprs_kept g h)
