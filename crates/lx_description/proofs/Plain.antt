-- A plain module keeps what its design keeps.
use Rattle.std.proofs.Common.{◌≡◌, ℕ, zero, suc, ◌+◌, ◌<◌, Bool, true, false, ◌||◌, List, [], ◌∷◌, ◌++◌, Option, Some, None, length, nat_eq, slice_get, refl, subst, arith, inl, inr, if◌then◌else◌}
use Rattle.std.specs.Prelude.{IfSome, IsTrue}
use Rattle.std.specs.List.{list_any}
use Rattle.std.proofs.lemmas.Bool.{and_parts, eqb-true, or_cases, or_from}
use Rattle.lx_arena.proofs.Places.{all_at-lower}
use Rattle.lx_circuit.specs.Statements.{drives_block}
use Rattle.lx_circuit.specs.Circuit as circuit
use Rattle.lx_circuit.specs.Circuit.{Circuit, Comb, Input, Role, Sync, is_among, role, sync_role}
use Rattle.lx_fhdl.specs.Designs.{circuit_of}
use Rattle.lx_fhdl.specs.Keeping.{EachOf, IsDomain, IsReset, Keeps, is_identifier}
use Rattle.lx_fhdl.specs.declared.exprs.SigId.{SigId}
use Rattle.lx_fhdl.specs.declared.design.Signal.{Signal}
use Rattle.lx_fhdl.specs.declared.design.Domain.{Domain}
use Rattle.lx_fhdl.specs.declared.design.Design.{Design}
use Rattle.lx_fhdl.proofs.Resets.{each_of_at}
use Rattle.lx_description.specs.Below.{fsm_below}
use Rattle.lx_description.specs.Wires.{resets, some_number}
use Rattle.lx_description.specs.Keeping.{IsModule, KeepsDescription, is_driven, is_generated, is_reserved}
use Rattle.lx_description.specs.Laws.{IsWritten, plain}
use Rattle.lx_description.specs.declared.modules.ModuleDecl.{ModuleDecl}

-- ---- an input is driven by no statement

no_comb : (b : Bool) (r : Role) → (if b then Comb else r) ≡ Input → (b ≡ false) × (r ≡ Input)
no_comb true r e = absurd (cc)
no_comb false r e = (refl, e)

no_sync : (b : Bool) (k : ℕ) (r : Role) → (if b then Sync k else r) ≡ Input → (b ≡ false) × (r ≡ Input)
no_sync true k r e = absurd (cc)
no_sync false k r e = (refl, e)

abbrev drives_some : ℕ → List circuit.Domain → Bool
drives_some x ds = list_any (λ (y : circuit.Domain). drives_block x y.stmts) ds

no_domain : (x k : ℕ) (ds : List circuit.Domain) (other : Role) → sync_role x k ds other ≡ Input → drives_some x ds ≡ false
no_domain x k [] other e = refl
no_domain x k (y ∷ ys) other e =
    let p = no_sync (drives_block x y.stmts) k (sync_role x (k + 1) ys other) e in
    or_from (drives_block x y.stmts) (drives_some x ys) p.0 (no_domain x (k + 1) ys other p.1)

idle : (c : Circuit) (x : ℕ) → role c x ≡ Input → (drives_block x c.comb || (drives_some x c.domains || false)) ≡ false
idle c x e =
    let p = no_comb (drives_block x c.comb) _ e in
    or_from (drives_block x c.comb) (drives_some x c.domains || false) p.0 (or_from (drives_some x c.domains) false (no_domain x 0 c.domains _ p.1) refl)

-- ---- a reset is an input

first_input : (d : Design) (y : Domain) (o : Option SigId) → IfSome o (IsReset d y) → (rest : List ℕ) (x : ℕ) → (is_among x rest ≡ true → role (circuit_of d) x ≡ Input) → is_among x (some_number o ++ rest) ≡ true → role (circuit_of d) x ≡ Input
first_input d y None h rest x next e = next e
first_input d y (Some r) h rest x next e =
    elim (or_cases (nat_eq r.0 x) (is_among x rest) e) [
      | inl q ↦ subst (λ (z : ℕ). role (circuit_of d) z ≡ Input) (eqb-true r.0 x q) h.input
      | inr q ↦ next q
    ]

reset_input : (d : Design) (ds : List Domain) → EachOf (IsDomain d) ds → (x : ℕ) → is_among x (resets ds) ≡ true → role (circuit_of d) x ≡ Input
reset_input d [] h x e = absurd (cc)
reset_input d (y ∷ ys) h x e = first_input d y y.reset h.0.reset (resets ys) x (reset_input d ys h.1 x) e

-- ---- the whole

named : (s : Signal) → 0 < length s.path → is_generated s ≡ true → ⊥
named s some e = absurd (omega (arith, eqb-true (length s.path) 0 (and_parts _ _ e).0, some))

not_driven : (name : List ℕ) (d : Design) → Keeps d → IsWritten d → (x : ℕ) (s : Signal) → slice_get d.signals x ≡ Some s → is_reserved (plain name d) s x ≡ true → is_driven (plain name d) x ≡ false
not_driven name d keeps written x s e f =
    elim (or_cases (is_generated s) (is_among x (resets d.domains) || false) f) [
      | inl g ↦ absurd (named s (each_of_at (λ (y : Signal). 0 < length y.path) d.signals written.names x s e) g)
      | inr g ↦
          elim (or_cases (is_among x (resets d.domains)) false g) [
            | inl r ↦ idle (circuit_of d) x (reset_input d d.domains keeps.domains x r)
            | inr never ↦ absurd (cc)
          ]
    ]

one_module : (name : List ℕ) (d : Design) → IsTrue (is_identifier name) → (k : ℕ) (m : ModuleDecl) → slice_get (plain name d).modules k ≡ Some m → IsModule (plain name d) k m
one_module name d spelled zero m e =
    let top : ModuleDecl = record { name = name; named = true; parts = [] } in
    let p : top ≡ m = cc in
    subst (IsModule (plain name d) 0) p (record { name = spelled; parts = tt; later = tt })
one_module name d spelled (suc k) m e = absurd (cc)

pub plain_keeps : (name : List ℕ) (d : Design) → IsTrue (is_identifier name) → Keeps d → IsWritten d → KeepsDescription (plain name d)
plain_keeps name d spelled keeps written = record {
  design = keeps;
  no_fetch = written.no_fetch;
  modules = record { top = refl; each = one_module name d spelled; once = λ k some l. absurd (omega (arith, some, l)); registers = omega arith };
  constants = tt;
  fsms = record { lower = all_at-lower fsm_below [] refl; stmts = tt; fsms = tt; clock = refl };
  lines = written.lines;
  fsm_lines = tt;
  undriven = not_driven name d keeps written;
  apart = written.apart;
  banks = refl;
  managers = refl;
  top = record { regions = refl; slaves = refl; fixes = refl; irqs = refl };
}
