-- An input is one of its design's signals.
use Rattle.std.proofs.Common.{◌≡◌, ℕ, Bool, true, false, ◌||◌, ◌+◌, ◌<◌, List, [], ◌∷◌, length, map, cond, refl, sym, ◌∙◌, ap, subst, inl, inr, eqb-true, nat_eq}
use Rattle.std.specs.Prelude.{Option, Some, None, IfSome, option_map, slice_get}
use Rattle.std.proofs.lemmas.Bool.{or_cases}
use Rattle.std.proofs.lemmas.Option.{slice_get_within}
use Rattle.lx_circuit.specs.Memories.{Port}
use Rattle.lx_circuit.specs.Statements.{drives_block}
use Rattle.lx_circuit.specs.Circuit as circuit
use Rattle.lx_circuit.specs.Circuit.{Circuit, Role, idle_role, is_among, is_named, is_some_reset, made, read_role, role, sync_role}
use Rattle.lx_fhdl.specs.Designs.{circuit_of, domains_from, signal_number}
use Rattle.lx_fhdl.specs.Keeping.{EachOf, HasResetPath, IsDomain, IsReset, Keeps}
use Rattle.lx_fhdl.specs.declared.exprs.SigId.{SigId}
use Rattle.lx_fhdl.specs.declared.design.Domain.{Domain}
use Rattle.lx_fhdl.specs.declared.design.Signal.{Signal}
use Rattle.lx_fhdl.specs.declared.design.Design.{Design}
use Rattle.lx_emission.specs.Signals as signals
use Rattle.lx_emission.specs.Signals.{drive}
use Rattle.lx_lower.specs.Lowers.{IsLoweringOf}
use Rattle.lx_trace.specs.Traces.{is_input}
use Rattle.lx_sim.proofs.Firsts.{driven_input, input_is}

-- ---- what an input is

not_sync : (b : Bool) (k : ℕ) (rest : Role) → cond b (circuit.Sync k) rest ≡ circuit.Input → rest ≡ circuit.Input
not_sync true k rest e = absurd cc
not_sync false k rest e = e

sync_input : (x k : ℕ) (ds : List circuit.Domain) (other : Role) → sync_role x k ds other ≡ circuit.Input → other ≡ circuit.Input
sync_input x k [] other e = e
sync_input x k (d ∷ ds) other e = sync_input x (k + 1) ds other (not_sync (drives_block x d.stmts) k (sync_role x (k + 1) ds other) e)

not_read : (b : Bool) (k : ℕ) (rest : Role) → cond b (circuit.Read k) rest ≡ circuit.Input → rest ≡ circuit.Input
not_read true k rest e = absurd cc
not_read false k rest e = e

read_input : (x k : ℕ) (qs : List Port) (other : Role) → read_role x k qs other ≡ circuit.Input → other ≡ circuit.Input
read_input x k [] other e = e
read_input x k (q ∷ qs) other e = read_input x (k + 1) qs other (not_read (is_named x q.reader) k (read_role x (k + 1) qs other) e)

idle_input : (given named : Bool) → cond given circuit.Undriven (cond named circuit.Input circuit.Undriven) ≡ circuit.Input → named ≡ true
idle_input true named e = absurd cc
idle_input false true e = refl
idle_input false false e = absurd cc

input_named : (c : Circuit) (x : ℕ) → role c x ≡ circuit.Input → is_among x c.ios || is_some_reset x c.domains ≡ true
input_named c x e = by (drives_block x c.comb) e
  where
    by : (b : Bool) → cond b circuit.Comb (sync_role x 0 c.domains (read_role x 0 c.ports (idle_role c x))) ≡ circuit.Input → is_among x c.ios || is_some_reset x c.domains ≡ true
    by true f = absurd cc
    by false f =
        idle_input (made c x).given (is_among x c.ios || is_some_reset x c.domains)
        (read_input x 0 c.ports (idle_role c x) (sync_input x 0 c.domains (read_role x 0 c.ports (idle_role c x)) f))

-- ---- what is named is there

ios_there : (n y : ℕ) (xs : List SigId) → EachOf (λ (x : SigId). x.0 < n) xs → is_among y (map signal_number xs) ≡ true → y < n
ios_there n y [] h e = absurd cc
ios_there n y (x ∷ xs) h e =
    elim (or_cases (nat_eq x.0 y) (is_among y (map signal_number xs)) e) [
      | inl p ↦ subst (λ (z : ℕ). z < n) (eqb-true x.0 y p) h.0
      | inr p ↦ ios_there n y xs h.1 p
    ]

reset_there : (d : Design) (x : Domain) (r : SigId) → IsReset d x r → r.0 < length d.signals
reset_there d x r is = by (slice_get d.signals r.0) refl is.path
  where
    by : (o : Option Signal) → slice_get d.signals r.0 ≡ o → HasResetPath x o → r.0 < length d.signals
    by None e h = absurd h
    by (Some s) e h = slice_get_within d.signals r.0 s e

named_reset : (d : Design) (x : Domain) (y : ℕ) (o : Option SigId) → IfSome o (IsReset d x) → is_named y (option_map signal_number o) ≡ true → y < length d.signals
named_reset d x y None h e = absurd cc
named_reset d x y (Some r) h e = subst (λ (z : ℕ). z < length d.signals) (eqb-true r.0 y e) (reset_there d x r h)

resets_there : (d : Design) (y k : ℕ) (xs : List Domain) → EachOf (IsDomain d) xs → is_some_reset y (domains_from d k xs) ≡ true → y < length d.signals
resets_there d y k [] h e = absurd cc
resets_there d y k (x ∷ xs) h e =
    elim (or_cases (is_named y (option_map signal_number x.reset)) (is_some_reset y (domains_from d (k + 1) xs)) e) [
      | inl p ↦ named_reset d x y x.reset h.0.reset p
      | inr p ↦ resets_there d y (k + 1) xs h.1 p
    ]

pub input_there : (d : Design) (x : ℕ) → Keeps d → role (circuit_of d) x ≡ circuit.Input → x < length d.signals
unfolding circuit_of
input_there d x keeps e =
    elim (or_cases (is_among x (map signal_number d.ios)) (is_some_reset x (domains_from d 0 d.domains)) (input_named (circuit_of d) x e)) [
      | inl p ↦ ios_there (length d.signals) x d.ios keeps.ios p
      | inr p ↦ resets_there d x 0 d.domains keeps.domains p
    ]

-- ---- inputs of a design, by what drives the signals of the lowered one

pub input_marked : (d e : Design) (x : ℕ) → IsLoweringOf d e → drive e x ≡ signals.Input → is_input (role (circuit_of d) x) ≡ true
input_marked d e x of h = ap is_input (of.lowers.roles x ∙ input_is e x h)

not_marked : (r : Role) → (r ≡ circuit.Input → ⊥) → is_input r ≡ false
not_marked circuit.Input n = absurd (n refl)
not_marked circuit.Comb n = refl
not_marked (circuit.Sync k) n = refl
not_marked (circuit.Read j) n = refl
not_marked circuit.Undriven n = refl

pub other_marked : (d e : Design) (x : ℕ) (g : signals.Drive) → IsLoweringOf d e → drive e x ≡ g → (g ≡ signals.Input → ⊥) → is_input (role (circuit_of d) x) ≡ false
other_marked d e x g of h none = not_marked (role (circuit_of d) x) (λ f. none (sym h ∙ driven_input e x (sym (of.lowers.roles x) ∙ f)))
