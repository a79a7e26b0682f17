-- What is answered for a design, by way of the design with its ports lowered.
use Rattle.std.proofs.Common.{◌≡◌, ℕ, true, false, List, [], ◌∷◌, Result, Ok, Err, refl, ap, subst, ◌∙◌, inl, inr}
use Rattle.lx_text.specs.declared.faults.Fault.{Fault}
use Rattle.lx_text.specs.declared.faults.Kind.TheVariants as kind
use Rattle.lx_text.specs.declared.faults.Refusal.{Refusal}
use Rattle.lx_text.specs.declared.faults.Refusal.TheVariants as refusal
use Rattle.lx_vtext.specs.Tree.{Name, VModule}
use Rattle.lx_vtext.specs.Printed.{module_text}
use Rattle.lx_fhdl.specs.Designs.{circuit_of}
use Rattle.lx_fhdl.specs.Keeping.{EachOf, Keeps}
use Rattle.lx_fhdl.specs.declared.design.Signal.{Signal}
use Rattle.lx_fhdl.specs.declared.design.Design.{Design}
use Rattle.lx_memory.specs.Alone.{shows_alone}
use Rattle.lx_memory.specs.Lowers.{IsGenerated, IsPortsOf, ShowAlone}
use Rattle.lx_check.specs.Checked.{IsSound}
use Rattle.lx_namer.specs.Answers.{IsRefusedBy}
use Rattle.lx_namer.specs.Names.{names_of}
use Rattle.lx_namer.specs.Staying.{AnswersStay, Gains, HaveStayed}
use Rattle.lx_namer.proofs.Staying.{names_stay}
use Rattle.lx_write.specs.Writes.{Writes}
use Rattle.lx_translate.specs.Translation.{HasFault, IsFaultless, IsTextOf, Translates}
use Rattle.lx_translate.proofs.Agreeing.{agrees_with, has_ports}

pathless : (ss : List Signal) → EachOf IsGenerated ss → EachOf (λ (s : Signal). s.path ≡ []) ss
pathless [] h = tt
pathless (s ∷ ss) h = (h.0.path, pathless ss h.1)

gains : (d p : Design) → IsPortsOf d p → Gains d p
gains d p h = record {
  signals = h.added.signals;
  are = h.added.signals_are;
  pathless = pathless h.added.signals h.added.generated;
  memories = h.memories;
  domains = h.domains;
  ios = h.ios;
}

stay : (d p : Design) (r : Result (List Name) Fault) → Keeps d → IsPortsOf d p → names_of p ≡ r → AnswersStay d p (names_of d) r
stay d p r keeps h e = subst (λ (s : Result (List Name) Fault). AnswersStay d p (names_of d) s) e (names_stay d p keeps (gains d p h))

writes : (d p : Design) (names more : List Name) (m : VModule) → Keeps d → ShowAlone (circuit_of d) → IsSound d → IsPortsOf d p → HaveStayed d p names more → Writes p more m → Writes d names m
writes d p names more m keeps alone sound h stayed w = record {
  lawful = w.lawful;
  meaning = w.meaning;
  ports = has_ports d p names more m keeps alone h stayed w.ports;
  agrees = agrees_with d p names more m keeps alone h stayed sound.order w.agrees;
}

pub translated : (d p : Design) (more : List Name) (m : VModule) (text : List ℕ) → Keeps d → shows_alone d ≡ true → ShowAlone (circuit_of d) → IsSound d → IsPortsOf d p → names_of p ≡ Ok more → Writes p more m → text ≡ module_text m → IsFaultless d × IsTextOf d text
translated d p more m text keeps test alone sound h named w written = by (names_of d) refl (stay d p (Ok more) keeps h named)
  where
    by : (r : Result (List Name) Fault) → names_of d ≡ r → AnswersStay d p r (Ok more) → IsFaultless d × IsTextOf d text
    by (Ok names) e stayed = (
      record { sound = sound; names = names; named = e; alone = test },
      record { names = names; named = e; tree = m; gives = writes d p names more m keeps alone sound h stayed w; written = written },
    )
    by (Err f) e stayed = absurd stayed

-- a name is refused: of the design, or of the design with its ports lowered
pub name_refused : (d : Design) (r : Refusal) → IsSound d → IsRefusedBy r (names_of d) → Translates d (Err r)
name_refused d (refusal.Fault f) sound named = inr (inl (sound, named))
name_refused d refusal.NoMemory sound named = tt

pub name_refused_later : (d p : Design) (r : Refusal) → Keeps d → IsSound d → IsPortsOf d p → IsRefusedBy r (names_of p) → Translates d (Err r)
name_refused_later d p (refusal.Fault f) keeps sound h named = by (names_of d) refl (stay d p (Err f) keeps h named)
  where
    by : (r : Result (List Name) Fault) → names_of d ≡ r → AnswersStay d p r (Err f) → HasFault d f
    by (Ok names) e stayed = absurd stayed
    by (Err g) e stayed = inr (inl (sound, e ∙ ap Err stayed))
name_refused_later d p refusal.NoMemory keeps sound h named = tt

-- a dat_r that isn't alone
pub not_built : (d : Design) (names : List Name) → IsSound d → names_of d ≡ Ok names → shows_alone d ≡ false → Translates d (Err (refusal.Fault (record { line = 0; kind = kind.NotYetBuilt })))
not_built d names sound named shared = inr (inr (record { sound = sound; names = names; named = named; shared = shared; fault = refl }))
