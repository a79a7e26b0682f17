-- What is answered by names.
use Rattle.std.specs.Prelude.{◌≡◌, List, Result, Ok, Err, IfSome}
use Rattle.lx_text.specs.declared.faults.Fault.{Fault}
use Rattle.lx_text.specs.declared.faults.Refusal.{Refusal}
use Rattle.lx_text.specs.declared.faults.Refusal.TheVariants as refusal
use Rattle.lx_vtext.specs.Tree.{Name}
use Rattle.lx_fhdl.specs.Keeping.{EachOf, reset_name}
use Rattle.lx_fhdl.specs.declared.exprs.SigId.{SigId}
use Rattle.lx_fhdl.specs.declared.design.Domain.{Domain}
use Rattle.lx_fhdl.specs.declared.design.Design.{Design}
use Rattle.lx_emission.specs.Naming.{net}
use Rattle.lx_namer.specs.declared.nets.Names.{Names}

abbrev pub IsRefusedBy : {A : Type 0} → Refusal → Result A Fault → Type 0
IsRefusedBy (refusal.Fault f) outcome = outcome ≡ Err f
IsRefusedBy refusal.NoMemory outcome = Unit {0}

-- want of memory aside, it is the names or the fault that are asked
abbrev pub Answers : Result Names Refusal → Result (List Name) Fault → Type 0
Answers (Ok n) outcome = outcome ≡ Ok n.words
Answers (Err r) outcome = IsRefusedBy r outcome

-- the net of a domain's reset is `<name>_rst`
abbrev pub HasResetNet : List Name → Domain → Type 0
HasResetNet names x = IfSome x.reset (λ (r : SigId). net names r.0 ≡ reset_name x.name)

abbrev pub HaveResetNets : Design → List Name → Type 0
HaveResetNets d names = EachOf (HasResetNet names) d.domains
