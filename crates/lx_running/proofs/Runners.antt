-- What a circuit without a fault has, and what the run of its lowered circuit needs.
use Rattle.std.proofs.Common.{◌≡◌, ℕ, ◌≤◌, true, false, List, [], Ok, Err, length, refl, arith, inl, inr}
use Rattle.lx_text.specs.declared.faults.Kind.TheVariants.{NotYetBuilt}
use Rattle.lx_text.specs.declared.faults.Refusal.{Refusal}
use Rattle.lx_text.specs.declared.faults.Refusal.TheVariants as refusal
use Rattle.lx_circuit.specs.Reads.{HasOrder}
use Rattle.lx_emission.specs.Emits.{MemoriesFit}
use Rattle.lx_emission.specs.Naming.{NamesFit}
use Rattle.lx_fhdl.specs.Designs.{circuit_of}
use Rattle.lx_fhdl.specs.Keeping.{Keeps}
use Rattle.lx_fhdl.specs.declared.design.Design.{Design}
use Rattle.lx_check.specs.Checked as checked
use Rattle.lx_check.specs.Checked.{IsSound}
use Rattle.lx_memory.specs.Alone.{shows_alone}
use Rattle.lx_memory.specs.Lowers.{IsPortsOf, ShowAlone}
use Rattle.lx_namer.specs.Answers.{IsRefusedBy}
use Rattle.lx_namer.specs.Names.{names_of}
use Rattle.lx_trace.proofs.Standing.{trace_stands}
use Rattle.lx_trace.specs.Laws.{AreLines}
use Rattle.lx_trace.specs.Reading.{IsRead}
use Rattle.lx_trace.specs.Traces.{trace_of}
use Rattle.lx_trace.specs.declared.acts.TraceLine.{TraceLine}
use Rattle.lx_translate.proofs.Writable.{memories_fit}
use Rattle.lx_sim.specs.Moments.{Moment, Seen, Shows, start}
use Rattle.lx_sim.specs.Said.{AreNamed, Says}
use Rattle.lx_running.specs.Parts.{AreNamesOf, IsNaming}
use Rattle.lx_running.specs.Traced.{AnswersTo}
use Rattle.lx_running.proofs.Answering.{answers_back, are_named, lines_stay}

-- ---- names, or the circuit's first fault

pub check_refused : (d : Design) (r : Refusal) → checked.IsRefusedFor d r → IsNaming d (Err r)
check_refused d (refusal.Fault f) h = inl h
check_refused d refusal.NoMemory h = tt

pub name_refused : (d : Design) (r : Refusal) → IsSound d → IsRefusedBy r (names_of d) → IsNaming d (Err r)
name_refused d (refusal.Fault f) sound named = inr (inl (sound, named))
name_refused d refusal.NoMemory sound named = tt

pub not_built : (d : Design) (names : List (List ℕ)) → IsSound d → names_of d ≡ Ok names → shows_alone d ≡ false → IsNaming d (Err (refusal.Fault (record { line = 0; kind = NotYetBuilt })))
not_built d names sound named shared = inr (inr (record { sound = sound; names = names; named = named; shared = shared; fault = refl }))

pub named : (d : Design) (names : List (List ℕ)) → IsSound d → names_of d ≡ Ok names → NamesFit d names → shows_alone d ≡ true → ShowAlone (circuit_of d) → AreNamesOf d names
named d names sound is fit test alone = record { faultless = record { sound = sound; names = names; named = is; alone = test }; named = is; fit = fit; alone = alone }

-- ---- the lowered circuit

pub order_stays : (d p : Design) (names : List (List ℕ)) → AreNamesOf d names → IsPortsOf d p → HasOrder (circuit_of p)
order_stays d p names a h = h.lowers.order a.faultless.sound.order

pub memories_stay : (d p : Design) (names : List (List ℕ)) → Keeps d → AreNamesOf d names → IsPortsOf d p → MemoriesFit p
memories_stay d p names keeps a h = memories_fit d p keeps a.faultless.sound.faultless h

pub names_long : (d : Design) (names : List (List ℕ)) → AreNamesOf d names → length d.signals ≤ length names
names_long d names a = omega (arith, a.fit.long)

-- ---- the trace

pub trace_refused : (d : Design) (names : List (List ℕ)) (trace : List ℕ) (r : Refusal) → AreNamesOf d names → IsRead (trace_of d names trace) (Err r) → AnswersTo d trace (Err r)
trace_refused d names trace (refusal.Fault f) a h = record { names = names; named = a.named; found = h }
trace_refused d names trace refusal.NoMemory a h = tt

pub lines_fit : (d p : Design) (names : List (List ℕ)) (trace : List ℕ) (lines : List TraceLine) → Keeps d → IsPortsOf d p → trace_of d names trace ≡ Ok lines → AreLines p lines
lines_fit d p names trace lines keeps h read = lines_stay d p lines keeps h (trace_stands d names trace lines keeps read)

pub lines_named : (d : Design) (names : List (List ℕ)) (trace : List ℕ) (lines : List TraceLine) → Keeps d → AreNamesOf d names → trace_of d names trace ≡ Ok lines → AreNamed (length names) lines
lines_named d names trace lines keeps a read = are_named d (length names) lines (names_long d names a) (trace_stands d names trace lines keeps read)

pub answered : (d : Design) (s : Seen) (names : List (List ℕ)) (trace text : List ℕ) (lines : List TraceLine) → Keeps d → AreNamesOf d names → IsPortsOf d s.design → Shows s start → trace_of d names trace ≡ Ok lines
    → ((m : Moment) → Shows s m → m.steps ≡ [] → Says s.design names m lines text) → AnswersTo d trace (Ok text)
answered d s names trace text lines keeps a h shows read says = record {
  names = names;
  named = a.named;
  lines = lines;
  read = read;
  answers = answers_back d s.design names lines text keeps h (trace_stands d names trace lines keeps read) (says start shows refl);
}
