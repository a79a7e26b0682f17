use Rattle.std.proofs.Common.{◌≡◌, drop}
use Rattle.std.specs.List.{list_all}
use Rattle.lx_fhdl.specs.Kept.{is_unsigned}
use Rattle.lx_description.specs.declared.fsms.Asked.{Asked}
use Rattle.lx_fsm_kept.proofs.fsms.all_bits.Given as goal

abbrev pub invariant-loop-asked : goal.invariant-loop-asked
invariant-loop-asked l = list_all (λ (a : Asked). is_unsigned l.design 1 a.signal) (drop l.asked-index l.all) ≡ list_all (λ (a : Asked). is_unsigned l.design 1 a.signal) l.all
