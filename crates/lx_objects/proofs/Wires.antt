-- Signals that are to be made.
use Rattle.std.proofs.Common.{◌≡◌, ◌∙◌, refl, sym, ap, ap₂, ℕ, ℤ, Bool, true, false, ◌&&◌, Option, None, List, [], ◌∷◌, ◌++◌, Ok, Err, length, map}
use Rattle.std.proofs.lemmas.Bool.{leb-true}
use Rattle.std.proofs.lemmas.List.{map-append}
use Rattle.std.specs.List.{list_all}
use Rattle.std.specs.Prelude.{nat_le}
use Rattle.lx_text.specs.declared.faults.LimitKind.TheVariants as limit
use Rattle.lx_text.specs.declared.faults.Kind.TheVariants as kind
use Rattle.lx_fhdl.specs.Instance.{the_signal}
use Rattle.lx_fhdl.specs.Keeping.{is_identifier}
use Rattle.lx_fhdl.specs.Kept.{is_between, is_fit}
use Rattle.lx_fhdl.specs.declared.design.Signal.{Signal}
use Rattle.lx_fhdl.specs.declared.exprs.SigId.{SigId}
use Rattle.lx_description.specs.Wires.{Wire}
use Rattle.lx_shaped.specs.Making.{judged, make_signal, tried}
use Rattle.lx_state.specs.declared.machine.Machine.{Machine}
use Rattle.lx_state.specs.Step.{Outcome, Step, fault, give, go_on, ◌>>=◌}
use Rattle.lx_state.specs.Work.{one_more}
use Rattle.lx_objects.specs.declared.registers.Plan.{Plan}
use Rattle.lx_objects.specs.Exprs.{put}
use Rattle.lx_objects.specs.Registers.{IsReset, part_of, wire_of, wire_signal, with_first}
use Rattle.lx_objects.specs.Signals.{keep_owner, new_signal, put_signal}

pub wire_more : (ps : List Plan) (p : Plan) → map wire_of (ps ++ p ∷ []) ≡ map wire_of ps ++ wire_of p ∷ []
wire_more ps p = map-append wire_of ps (p ∷ [])

pub part_more : (ps : List Plan) (p : Plan) → map part_of (ps ++ p ∷ []) ≡ map part_of ps ++ part_of p ∷ []
part_more ps p = map-append part_of ps (p ∷ [])

-- signals of which the same comes are made alike
same_made : (line : ℕ) (x y : Signal) (object : ℕ) (part : Option (List ℕ)) (m : Machine) → ((n : Machine) → put_signal line x n ≡ put_signal line y n) → new_signal line x object part m ≡ new_signal line y object part m
unfolding new_signal
same_made line x y object part m same = by (one_more line limit.Signals (length m.shaped.signals) m)
  where
    after : SigId → Step SigId
    after id = keep_owner object part >>= λ (u : Unit {0}). give id

    by : (o : Outcome (Unit {0})) → go_on o (λ (u : Unit {0}). put_signal line x >>= after) ≡ go_on o (λ (u : Unit {0}). put_signal line y >>= after)
    by (Ok r) = ap (λ (p : Outcome SigId). go_on p after) (same r.1)
    by (Err f) = refl

refused : (line : ℕ) (x : Signal) (n : Machine) → is_between 1 64 x.shape.bits ≡ false → put_signal line x n ≡ fault line kind.WrongKind n
unfolding put_signal make_signal
refused line x n e =
    let new = record n.shaped { signals = n.shaped.signals ++ x ∷ [] } in
    let rest = is_fit x.shape x.reset && list_all is_identifier x.path in
    let made = the_signal (length n.shaped.signals) in
    ap (λ (b : Bool). put line (tried (judged (b && rest) None made) new n.shaped).0 (tried (judged (b && rest) None made) new n.shaped).1 n) e

-- a signal that isn't made has any first value
pub any_first : (line object : ℕ) (w : Wire) (first : ℤ) (part : Option (List ℕ)) (m : Machine) → IsReset w.bits w.reset first → new_signal line (with_first first (wire_signal line w)) object part m ≡ new_signal line (wire_signal line w) object part m
any_first line object w first part m is = by (nat_le 1 w.bits) (nat_le w.bits 64) refl refl
  where
    other : is_between 1 64 w.bits ≡ false → new_signal line (with_first first (wire_signal line w)) object part m ≡ new_signal line (wire_signal line w) object part m
    other e = same_made line (with_first first (wire_signal line w)) (wire_signal line w) object part m (λ (n : Machine). refused line (with_first first (wire_signal line w)) n e ∙ sym (refused line (wire_signal line w) n e))

    by : (b c : Bool) → nat_le 1 w.bits ≡ b → nat_le w.bits 64 ≡ c → new_signal line (with_first first (wire_signal line w)) object part m ≡ new_signal line (wire_signal line w) object part m
    by true true e f = ap (λ (r : ℤ). new_signal line (with_first r (wire_signal line w)) object part m) (is (leb-true 1 w.bits e) (leb-true w.bits 64 f))
    by true false e f = other (ap₂ (λ (b c : Bool). b && c) e f)
    by false c e f = other (ap (λ (b : Bool). b && nat_le w.bits 64) e)
