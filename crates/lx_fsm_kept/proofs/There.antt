-- What a design has at a place.
use Rattle.std.proofs.Common.{◌≡◌, ℕ, ◌-◌, ◌≤◌, false, List, [], ◌∷◌, Some, None, length, slice_get, nat_lt, nat_eq, refl, ap, arith, zero, suc}
use Rattle.std.specs.Prelude.{◌&&◌, map, not, slice_index_or}
use Rattle.std.proofs.lemmas.Bool.{le-ltb, lt-ltb}
use Rattle.std.proofs.lemmas.Option.{slice_get_within}
use Rattle.lx_circuit.specs.Circuit.{made, nothing}
use Rattle.lx_fhdl.specs.Designs.{circuit_of, made_of, shapes}
use Rattle.lx_fhdl.specs.Kept.{is_address, is_fewest, is_unsigned}
use Rattle.lx_fhdl.specs.declared.exprs.SigId.{SigId}
use Rattle.lx_fhdl.specs.declared.design.Design.{Design}
use Rattle.lx_fhdl.specs.declared.design.Signal.{Signal}

mapped_at : {X Y : Type 0} (f : X → Y) (xs : List X) (k : ℕ) (x : X) (none : Y) → slice_get xs k ≡ Some x → slice_index_or (map f xs) k none ≡ f x
mapped_at f [] k x none e = absurd (cc)
mapped_at f (y ∷ ys) zero x none e = let same : y ≡ x = cc in ap f same
mapped_at f (y ∷ ys) (suc k) x none e = mapped_at f ys k x none e

past : {X : Type 0} (xs : List X) (k : ℕ) → slice_get xs k ≡ None → length xs ≤ k
past [] k e = omega arith
past (x ∷ xs) zero e = absurd (cc)
past (x ∷ xs) (suc k) e = let h = past xs k e in omega arith

none_past : {X : Type 0} (xs : List X) (k : ℕ) → slice_get xs k ≡ None → nat_lt k (length xs) ≡ false
none_past xs k e = le-ltb k (length xs) (past xs k e)

-- ---- signals

made_there : (d : Design) (x : ℕ) (s : Signal) → slice_get d.signals x ≡ Some s → made (circuit_of d) x ≡ made_of s
unfolding circuit_of
made_there d x s e = mapped_at made_of d.signals x s nothing e

shape_there : (d : Design) (x : ℕ) (s : Signal) → slice_get d.signals x ≡ Some s → shapes d x ≡ s.shape
shape_there d x s e = ap (λ m. m.shape) (made_there d x s e)

pub unsigned_there : (d : Design) (n : ℕ) (x : SigId) (s : Signal) → slice_get d.signals x.0 ≡ Some s → is_unsigned d n x ≡ (nat_eq s.shape.bits n && not s.shape.signed)
unsigned_there d n x s e = rw (lt-ltb x.0 (length d.signals) (slice_get_within d.signals x.0 s e), shape_there d x.0 s e) refl

pub unsigned_none : (d : Design) (n : ℕ) (x : SigId) → slice_get d.signals x.0 ≡ None → is_unsigned d n x ≡ false
unsigned_none d n x e = rw (none_past d.signals x.0 e) refl

pub address_there : (d : Design) (depth : ℕ) (x : SigId) (s : Signal) → slice_get d.signals x.0 ≡ Some s → is_address d depth x ≡ (not s.shape.signed && is_fewest (depth - 1) s.shape.bits)
address_there d depth x s e = rw (lt-ltb x.0 (length d.signals) (slice_get_within d.signals x.0 s e), shape_there d x.0 s e) refl

pub address_none : (d : Design) (depth : ℕ) (x : SigId) → slice_get d.signals x.0 ≡ None → is_address d depth x ≡ false
address_none d depth x e = rw (none_past d.signals x.0 e) refl
