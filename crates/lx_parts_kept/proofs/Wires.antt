-- Signals that look as a declaration asks for.
use Rattle.std.proofs.Common.{◌≡◌, ℕ, zero, suc, ◌^◌, ◌<◌, ◌≤◌, Bool, true, false, ◌&&◌, not, List, [], ◌∷◌, Some, drop, get_or, length, nat_eq, nat_le, nat_lt, pos, slice_get, refl, sym, ap, ◌∙◌, subst, arith, eq-eqb}
use Rattle.std.proofs.Math.Nat.{zero-mod}
use Rattle.std.specs.List.{list_all}
use Rattle.std.specs.Ordering.{int_eq}
use Rattle.std.proofs.lemmas.Bool.{and_from, and_parts, leb-true, lt-ltb, ne_eqb}
use Rattle.lx_num.specs.declared.Shape.{Shape}
use Rattle.lx_fhdl.proofs.Kept.{shape_is}
use Rattle.lx_num.specs.Ints.{unsigned, wrapped}
use Rattle.lx_fhdl.specs.Kept.{is_between, is_fit, is_signal}
use Rattle.lx_fhdl.specs.Keeping.{is_identifier}
use Rattle.lx_fhdl.specs.declared.design.Signal.{Signal}
use Rattle.lx_fhdl.specs.declared.design.Design.{Design}
use Rattle.lx_fhdl.specs.declared.exprs.SigId.{SigId}
use Rattle.lx_description.specs.Kept.{have_wires, is_wire, same_bit}
use Rattle.lx_description.specs.Wires.{Wire, left}

-- ---- a signal

pub record Bits (s : Signal) : Type 0 where
  pub some : 1 ≤ s.shape.bits
  pub most : s.shape.bits ≤ 127

-- a signal of a design has 1 to 64 bits
pub signal_bits : (s : Signal) → is_signal s ≡ true → Bits s
signal_bits s h =
    let p = and_parts (is_between 1 64 s.shape.bits) (is_fit s.shape s.reset && list_all is_identifier s.path) h in
    let q = and_parts (nat_le 1 s.shape.bits) (nat_le s.shape.bits 64) p.0 in
    let most = leb-true s.shape.bits 64 q.1 in
    record { some = leb-true 1 s.shape.bits q.0; most = omega arith }

pub other_bits : (s : Signal) (w : Wire) → (s.shape.bits ≡ w.bits → ⊥) → is_wire s w ≡ false
other_bits s w e = rw (ne_eqb s.shape.bits w.bits e) refl

pub signed_bits : (s : Signal) (w : Wire) → s.shape.signed ≡ true → is_wire s w ≡ false
signed_bits s w e = rw e (and_none (nat_eq s.shape.bits w.bits) (int_eq s.reset (wrapped (unsigned w.bits) w.reset) && (not s.reset_less && same_bit s.by_bus w.given)))
  where
    and_none : (a b : Bool) → ((a && false) && b) ≡ false
    and_none true b = refl
    and_none false b = refl

pub same_bits : (s : Signal) (w : Wire) → s.shape.bits ≡ w.bits → s.shape.signed ≡ false → is_wire s w ≡ (int_eq s.reset (wrapped s.shape w.reset) && (not s.reset_less && same_bit s.by_bus w.given))
same_bits s w e f =
    let tail = not s.reset_less && same_bit s.by_bus w.given in
    ap (λ (b : Bool). (b && not s.shape.signed) && (int_eq s.reset (wrapped (unsigned w.bits) w.reset) && tail)) (eq-eqb s.shape.bits w.bits e)
    ∙ ap (λ (b : Bool). (true && not b) && (int_eq s.reset (wrapped (unsigned w.bits) w.reset) && tail)) f
    ∙ ap (λ (a : Shape). int_eq s.reset (wrapped a w.reset) && tail) (sym (shape_is s.shape w.bits e f))

-- ---- ports of the bus

not_given : (b : Bool) → same_bit b false ≡ not b
not_given true = refl
not_given false = refl

-- a port of the bus starts at 0
pub port_is : (s : Signal) (n : ℕ) → is_wire s (left n (pos 0)) ≡ ((nat_eq s.shape.bits n && not s.shape.signed) && (int_eq s.reset (pos 0) && (not s.reset_less && not s.by_bus)))
port_is s n =
    ap (λ (k : ℕ). (nat_eq s.shape.bits n && not s.shape.signed) && (int_eq s.reset (pos k) && (not s.reset_less && same_bit s.by_bus false))) (zero-mod (2 ^ n))
    ∙ ap (λ (b : Bool). (nat_eq s.shape.bits n && not s.shape.signed) && (int_eq s.reset (pos 0) && (not s.reset_less && b))) (not_given s.by_bus)

-- ---- all signals

pub each_signal : (ss : List Signal) → list_all is_signal ss ≡ true → (k : ℕ) (s : Signal) → slice_get ss k ≡ Some s → is_signal s ≡ true
each_signal [] h k s e = absurd (cc)
each_signal (x ∷ xs) h zero s e = let same : x ≡ s = cc in subst (λ y. is_signal y ≡ true) same (and_parts (is_signal x) (list_all is_signal xs) h).0
each_signal (x ∷ xs) h (suc k) s e = each_signal xs (and_parts (is_signal x) (list_all is_signal xs) h).1 k s e

-- ---- lists side by side

-- no look is left for a signal
pub wires_short : (d : Design) (xs : List SigId) (ws : List Wire) (k : ℕ) → k < length xs → length ws < 1 → have_wires d (drop k xs) ws ≡ false
wires_short d [] ws k l h = absurd (omega arith)
wires_short d (x ∷ xs) (w ∷ ws) k l h = absurd (omega arith)
wires_short d (x ∷ xs) [] zero l h = refl
wires_short d (x ∷ xs) [] (suc k) l h = wires_short d xs [] k (omega arith) h

-- ---- words of 32 bits

pub all_fit : (xs : List ℕ) → ((k : ℕ) → k < length xs → get_or xs k 0 < 2 ^ 32) → list_all (λ z. nat_lt z (2 ^ 32)) xs ≡ true
all_fit [] h = refl
all_fit (x ∷ xs) h = and_from (nat_lt x (2 ^ 32)) (list_all (λ z. nat_lt z (2 ^ 32)) xs) (lt-ltb x (2 ^ 32) (h zero (omega arith))) (all_fit xs (λ k l. h (suc k) (omega arith)))
