use Rattle.std.proofs.Common.{◌≡◌, ℕ, zero, suc, ◌<◌, Bool, true, false, length, Option, Some, None, refl, ap, arith}
use Rattle.std.specs.Prelude.{option_map}
use Rattle.lx_num.specs.declared.Shape.{Shape}
use Rattle.lx_circuit.specs.Circuit.{shapes}
use Rattle.lx_vmeaning.specs.Runs.{all_nets, net_named}
use Rattle.lx_agree.specs.Agreement.{net_shape}
use Rattle.lx_agree.specs.Rows.{named, one_signal, with_net}
use Rattle.lx_agree.proofs.declared_law.Goals as goal

whole_net : (x : ℕ) → x < length one_signal.signals → option_map net_shape (net_named (named.net x) (all_nets (with_net false 8))) ≡ Some (shapes one_signal x)
whole_net zero lt = refl
whole_net (suc x) lt = absurd (omega arith)

abbrev bits_of : Option Shape → ℕ
bits_of None = 0
bits_of (Some a) = a.bits

abbrev sign_of : Option Shape → Bool
sign_of None = false
sign_of (Some a) = a.signed

pub returns : goal.returns
returns c = record {
  whole = record { nets = whole_net; memories = λ k lt. absurd (omega arith) };
  short = λ h. let e : ◌≡◌ {A = ℕ} 7 8 = ap bits_of (h.nets 0 (omega arith)) in absurd (omega (arith, e));
  other_sign = λ h. let e : ◌≡◌ {A = Bool} true false = ap sign_of (h.nets 0 (omega arith)) in cc;
  undeclared = λ h. let e = h.nets 0 (omega arith) in cc;
}
