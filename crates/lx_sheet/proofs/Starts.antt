-- Reset values, and the resets of domains.
use Rattle.std.proofs.Common.{◌≡◌, ℕ, ◌<◌, ◌^◌, List, length, refl, sym, ap}
use Rattle.std.specs.Prelude.{ℤ, Option, Some, None, slice_get, IfSome}
use Rattle.lx_num.specs.declared.Shape.{Shape}
use Rattle.lx_num.specs.Ints.{modulo}
use Rattle.lx_circuit.specs.Circuit.{Made}
use Rattle.lx_vtree.specs.declared.nodes.Literal.{Literal}
use Rattle.lx_fhdl.specs.Keeping.{HasResetPath, IsReset, IsDomain, Keeps}
use Rattle.lx_fhdl.specs.declared.exprs.SigId.{SigId}
use Rattle.lx_fhdl.specs.declared.design.Signal.{Signal}
use Rattle.lx_fhdl.specs.declared.design.Domain.{Domain}
use Rattle.lx_fhdl.specs.declared.design.Design.{Design}
use Rattle.lx_emission.specs.Signals.{literal_text, reset_text}
use Rattle.std.proofs.lemmas.Option.{slice_get_within}
use Rattle.lx_sheet.proofs.Owners.{made_is}
use Rattle.lx_vtext.specs.Tree as tree
use Rattle.lx_vtree.specs.Modules as modules
use Rattle.lx_emission.specs.Signals as signals
use Rattle.lx_fhdl.proofs.Resets.{each_of_at}

pub reset_is : (d : Design) (k : ℕ) (s : Signal) → slice_get d.signals k ≡ Some s → tree.Literal s.shape.bits s.shape.signed (modulo s.reset (2 ^ s.shape.bits)) ≡ reset_text d k
reset_is d k s e = ap (λ (m : Made). literal_text m.shape m.reset) (sym (made_is d k s e))

pub literal_same : (l : Literal) (s : Shape) (z : ℤ) → tree.Literal l.bits l.signed l.value ≡ literal_text s z → modules.literal_of l ≡ signals.literal_of s z
literal_same l s z e =
    let a : l.bits ≡ s.bits = cc in
    let b : l.signed ≡ s.signed = cc in
    let v : l.value ≡ modulo z (2 ^ s.bits) = cc in
    λ i. record { bits = a i; signed = b i; value = v i }

path_there : (xs : List Signal) (x : Domain) (k : ℕ) (o : Option Signal) → slice_get xs k ≡ o → HasResetPath x o → k < length xs
path_there xs x k None e h = absurd h
path_there xs x k (Some s) e h = slice_get_within xs k s e

resets_there : (d : Design) (x : Domain) (o : Option SigId) → IfSome o (IsReset d x) → IfSome o (λ r. r.0 < length d.signals)
resets_there d x None h = tt
resets_there d x (Some r) h = path_there d.signals x r.0 (slice_get d.signals r.0) refl h.path

pub reset_there : (d : Design) (n : ℕ) (x : Domain) → Keeps d → slice_get d.domains n ≡ Some x → IfSome x.reset (λ r. r.0 < length d.signals)
reset_there d n x keeps e = resets_there d x x.reset (each_of_at (IsDomain d) d.domains keeps.domains n x e).reset
