-- Where nothing fails and the command comes to no fault, a run is done or out of memory.
use Rattle.std.proofs.Common.{◌≡◌, ℕ, List, Option, Some, refl, subst, inl, inr, ◌⊎◌}
use Rattle.lx_command.specs.declared.status.Status.{Status}
use Rattle.lx_command.specs.declared.status.Status.TheVariants as status
use Rattle.lx_command.specs.Commands.{Asked}
use Rattle.lx_command.specs.World.{World}
use Rattle.lx_top.specs.Outcome.{EndsBy}
use Rattle.lx_top.specs.Completeness.{IsSound, IsClean, IsCompletenessLaw}

by_command : (words : List (List ℕ)) (a b : World) (c : Asked) (s : Status) → IsSound words a b → IsClean a.files c → EndsBy (Some c) a b s → (s ≡ status.Done) ⊎ (s ≡ status.NoMemory)
by_command words a b c status.Done sound clean ends = inl refl
by_command words a b c status.Refused sound clean ends = absurd (clean.clean ends.file ends.fault ends.cause)
by_command words a b c status.Usage sound clean ends = absurd ends
by_command words a b c status.ReadFault sound clean ends =
    absurd (elim ends.cause [ inl rose ↦ sound.load rose | inr lacks ↦ clean.found ends.name ends.limit ends.comes lacks ])
by_command words a b c status.WriteFault sound clean ends =
    absurd (elim ends.cause [ inl failed ↦ sound.store failed.rose | inr failed ↦ sound.say failed.rose ])
by_command words a b c status.NoMemory sound clean ends = inr refl

pub complete : IsCompletenessLaw
complete words a b s ends sound = by_command words a b sound.asked s sound sound.files (subst (λ (c : Option Asked). EndsBy c a b s) sound.command ends)
