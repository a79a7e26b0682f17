-- An access has two edges of the bus, and between them nothing of the bus changes.
use Rattle.std.proofs.Common.{◌≡◌, Bool, true, false, List, [], ◌∷◌, cond, refl, sym, ◌∙◌, ap, subst}
use Rattle.lx_circuit.specs.Places.{Values}
use Rattle.lx_circuit.specs.Circuit.{Step, next_state}
use Rattle.lx_machine.specs.System.{System}
use Rattle.lx_machine.specs.Bus.{Bus, in_reset, edge, moved}
use Rattle.lx_machine.specs.Views.{State, IsSystemSettled, Runs}
use Rattle.lx_machine.specs.Access.{Each, Either, Rises, until_edge, after_edge, last_of}

-- settled where the bus has this state
abbrev pub SettledAt : System → Bus → Values → Type 0
SettledAt y b w = (held : Values) × (inputs : Values) × IsSystemSettled y (record { held = held; bus = b }) inputs w

abbrev pub NotReset : System → Values → Type 0
NotReset y w = in_reset y w ≡ false

settled_at : (y : System) (st : State) (b : Bus) (inputs w : Values) → st.bus ≡ b → IsSystemSettled y st inputs w → SettledAt y b w
settled_at y st b inputs w e s = subst (λ (c : Bus). SettledAt y c w) e (st.held, inputs, s)

-- an edge that is no reset
edge_is : (y : System) (b c : Bus) (w : Values) → c ≡ b → in_reset y w ≡ false → moved y c w true (in_reset y w) ≡ edge y b w
edge_is y b c w e r = ap (λ z. moved y c w true z) r ∙ ap (λ (d : Bus). edge y d w) e

-- ---- up to one edge

record One (y : System) (b : Bus) (ws : List Values) (new : Bus) : Type 0 where
  moves : (v : Values) → new ≡ edge y b (last_of v ws)
  settled : Each (SettledAt y b) ws

-- after the last edge there is no step more
none_more : (y : System) (st : State) (ts : List Step) (ws : List Values) (new : State) → Rises y 0 ts → Runs y st ts ws new → (ws ≡ []) × (new ≡ st)
none_more y st [] [] new h run = (refl, run)
none_more y st [] (w ∷ ws) new h run = absurd run
none_more y st (t ∷ ts) ws new h run = absurd h

one_here : (y : System) (b c : Bus) (held w : Values) (ts : List Step) (ws : List Values) (new : State)
    → c ≡ edge y b w → SettledAt y b w → Rises y 0 ts → Runs y (record { held = held; bus = c }) ts ws new → One y b (w ∷ ws) new.bus
one_here y b c held w ts ws new e s h run =
    let both = none_more y (record { held = held; bus = c }) ts ws new h run in
    subst (λ (us : List Values). One y b (w ∷ us) new.bus) (sym both.0)
    (record { moves = λ v. ap (λ (z : State). z.bus) both.1 ∙ e; settled = (s, tt) })

one_later : (y : System) (b : Bus) (w : Values) (ws : List Values) (new : Bus) → SettledAt y b w → One y b ws new → One y b (w ∷ ws) new
one_later y b w ws new s o = record { moves = λ v. o.moves w; settled = (s, o.settled) }

-- by whether the step is an edge
one_by : (y : System) (b : Bus) (st : State) (w : Values) (held : Values) (r : Bool) (ts : List Step) (ws : List Values) (new : State)
    → st.bus ≡ b → in_reset y w ≡ false → SettledAt y b w → Either r (Rises y 0 ts) (Rises y 1 ts)
    → Runs y (record { held = held; bus = moved y st.bus w r (in_reset y w) }) ts ws new
    → ((z : State) → z.bus ≡ b → Rises y 1 ts → Runs y z ts ws new → One y b ws new.bus)
    → One y b (w ∷ ws) new.bus
one_by y b st w held true ts ws new e n s h run more = one_here y b (moved y st.bus w true (in_reset y w)) held w ts ws new (edge_is y b st.bus w e n) s h run
one_by y b st w held false ts ws new e n s h run more = one_later y b w ws new.bus s (more (record { held = held; bus = st.bus }) e h run)

one_edge : (y : System) (b : Bus) (st : State) (ts : List Step) (ws : List Values) (new : State) → st.bus ≡ b → Each (NotReset y) ws → Rises y 1 ts → Runs y st ts ws new → One y b ws new.bus
one_edge y b st [] ws new e n h run = absurd h
one_edge y b st (t ∷ ts) [] new e n h run = absurd run
one_edge y b st (t ∷ ts) (w ∷ ws) new e n h run =
    one_by y b st w (next_state y.circuit st.held w t.rises) (t.rises y.sys) ts ws new e n.0 (settled_at y st b t.inputs w e run.0) h run.1
    (λ z f k more. one_edge y b z ts ws new f n.1 k more)

-- ---- two edges

-- us stands for the values up to the taking edge, vs for those after it
pub record Two (y : System) (b : Bus) (us vs ws : List Values) (new : Bus) : Type 0 where
  pub moves : (u v : Values) → new ≡ edge y (edge y b (last_of u us)) (last_of v ws)
  pub before : Each (SettledAt y b) us
  pub after : (u : Values) → Each (SettledAt y (edge y b (last_of u us))) vs

two_here : (y : System) (b : Bus) (w : Values) (ws : List Values) (new : Bus) → SettledAt y b w → One y (edge y b w) ws new → Two y b (w ∷ []) ws (w ∷ ws) new
two_here y b w ws new s o = record { moves = λ u v. o.moves w; before = (s, tt); after = λ u. o.settled }

two_later : (y : System) (b : Bus) (w : Values) (us vs ws : List Values) (new : Bus) → SettledAt y b w → Two y b us vs ws new → Two y b (w ∷ us) vs (w ∷ ws) new
two_later y b w us vs ws new s o = record { moves = λ u v. o.moves w w; before = (s, o.before); after = λ u. o.after w }

two_by : (y : System) (b : Bus) (st : State) (w : Values) (held : Values) (r : Bool) (ts : List Step) (ws : List Values) (new : State)
    → st.bus ≡ b → in_reset y w ≡ false → Each (NotReset y) ws → SettledAt y b w → Either r (Rises y 1 ts) (Rises y 2 ts)
    → Runs y (record { held = held; bus = moved y st.bus w r (in_reset y w) }) ts ws new
    → ((z : State) → z.bus ≡ b → Rises y 2 ts → Runs y z ts ws new → Two y b (until_edge y ts ws) (after_edge y ts ws) ws new.bus)
    → Two y b (cond r (w ∷ []) (w ∷ until_edge y ts ws)) (cond r ws (after_edge y ts ws)) (w ∷ ws) new.bus
two_by y b st w held true ts ws new e n ns s h run more =
    two_here y b w ws new.bus s
    (one_edge y (edge y b w) (record { held = held; bus = moved y st.bus w true (in_reset y w) }) ts ws new (edge_is y b st.bus w e n) ns h run)
two_by y b st w held false ts ws new e n ns s h run more =
    two_later y b w (until_edge y ts ws) (after_edge y ts ws) ws new.bus s (more (record { held = held; bus = st.bus }) e h run)

pub two_edges : (y : System) (b : Bus) (st : State) (ts : List Step) (ws : List Values) (new : State) → st.bus ≡ b → Each (NotReset y) ws → Rises y 2 ts → Runs y st ts ws new
    → Two y b (until_edge y ts ws) (after_edge y ts ws) ws new.bus
two_edges y b st [] ws new e n h run = absurd h
two_edges y b st (t ∷ ts) [] new e n h run = absurd run
two_edges y b st (t ∷ ts) (w ∷ ws) new e n h run =
    two_by y b st w (next_state y.circuit st.held w t.rises) (t.rises y.sys) ts ws new e n.0 n.1 (settled_at y st b t.inputs w e run.0) h run.1
    (λ z f k more. two_edges y b z ts ws new f n.1 k more)
