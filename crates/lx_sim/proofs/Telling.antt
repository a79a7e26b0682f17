-- What lines tell, one after another.
use Rattle.std.proofs.Common.{◌≡◌, ℕ, zero, suc, ◌+◌, ◌*◌, ◌<◌, ◌≤◌, List, [], ◌∷◌, ◌++◌, drop, length, refl, sym, ◌∙◌, ap, subst, arith, append_assoc, length-append}
use Rattle.std.specs.Prelude.{ℤ, Some, slice_get}
use Rattle.std.proofs.Math.ListN.{drop_of_length-le}
use Rattle.std.proofs.lemmas.List.{append-nil}
use Rattle.std.proofs.lemmas.Option.{get_or_from_slice_get}
use Rattle.lx_fhdl.specs.Nodes.{value_at}
use Rattle.lx_fhdl.specs.declared.design.Design.{Design}
use Rattle.lx_fhdl.specs.declared.exprs.SigId.{SigId}
use Rattle.lx_emission.specs.Naming.{net}
use Rattle.lx_sheet.proofs.Lines.{drop_at}
use Rattle.lx_trace.specs.Laws.{AreLines, IsLine}
use Rattle.lx_trace.specs.Traces.{rises_of, steps_of}
use Rattle.lx_trace.specs.declared.acts.Event.{Event}
use Rattle.lx_trace.specs.declared.acts.TraceAct.{TraceAct}
use Rattle.lx_trace.specs.declared.acts.TraceAct.TheVariants as act
use Rattle.lx_trace.specs.declared.acts.TraceLine.{TraceLine}
use Rattle.lx_sim.specs.Moments.{Moment, Seen, Shows, setting, stepped}
use Rattle.lx_sim.specs.Said.{AreNamed, IsNamed, Says, Tells, TellsLine, after, answer, run_for}
use Rattle.lx_sim.specs.declared.tell.Telling.{Telling}

-- ---- one line

-- nothing is told where the values change
pub quiet : (names : List (List ℕ)) (a : TraceAct) (old new : Seen) (before later : Telling) → later.text ≡ before.text → ((d : Design) (m : Moment) → Tells d names m a []) → ((m : Moment) → Shows old m → Shows new (after m a)) → TellsLine names a old new before later
quiet names a old new before later e none shows = record {
  text = [];
  told = e ∙ sym (append-nil before.text);
  tells = λ m s l. (none old.design m, shows m s);
}

pub shown : (names : List (List ℕ)) (x : SigId) (old : Seen) (before later : Telling) (name : List ℕ) (z : ℤ) → x.0 < length old.design.signals → z ≡ value_at old.values x.0 → name ≡ net names x.0
    → later.text ≡ before.text ++ answer before.steps name z → TellsLine names (act.Show x) old old before later
shown names x old before later name z there value named told = record {
  text = answer before.steps name z;
  told = told;
  tells = λ m s l. (
    (
      s.view,
      s.is_view,
      ap (λ (n : ℕ). answer n name z) (sym l) ∙ (ap (λ (ns : List ℕ). answer (length m.steps) ns z) named ∙ ap (answer (length m.steps) (net names x.0)) (value ∙ s.values.each x.0 there)),
    ),
    s,
  );
}

run_more : (m : Moment) (n rises : ℕ) → run_for m (n + 1) rises ≡ stepped (run_for m n rises) rises
run_more m n rises = let e : n + 1 ≡ suc n = omega arith in ap (λ (k : ℕ). run_for m k rises) e

-- one step more of a line
pub ran_more : (first now next : Seen) (n rises : ℕ) → ((m : Moment) → Shows first m → Shows now (run_for m n rises)) → ((m : Moment) → Shows now m → Shows next (stepped m rises)) → (m : Moment) → Shows first m → Shows next (run_for m (n + 1) rises)
ran_more first now next n rises before step m s = subst (Shows next) (sym (run_more m n rises)) (step (run_for m n rises) (before m s))

-- an input is set
pub set_tells : (names : List (List ℕ)) (x : SigId) (value : ℤ) (old new : Seen) (telling : Telling) → ((m : Moment) → Shows old m → Shows new (setting m x.0 value)) → TellsLine names (act.Set x value) old new telling telling
set_tells names x value old new telling shows = quiet names (act.Set x value) old new telling telling refl (λ d m. refl) shows

-- steps are made
pub run_tells : (names : List (List ℕ)) (count : ℕ) (event : Event) (old new : Seen) (before later : Telling) → later.text ≡ before.text → ((m : Moment) → Shows old m → Shows new (run_for m count event.rises)) → TellsLine names (act.Run count event) old new before later
run_tells names count event old new before later e shows = quiet names (act.Run count event) old new before later e (λ d m. refl) shows

-- a value is shown
pub show_tells : (names : List (List ℕ)) (x : SigId) (old : Seen) (before later : Telling) (at name : List ℕ) (z y : ℤ) → x.0 < length old.design.signals → slice_get names x.0 ≡ Some at → name ≡ at → z ≡ value_at old.values x.0 → y ≡ z
    → later.text ≡ before.text ++ answer before.steps name y → TellsLine names (act.Show x) old old before later
show_tells names x old before later at name z y there found same value stored told =
    shown names x old before later name z there value (same ∙ sym (get_or_from_slice_get names x.0 at [] found)) (told ∙ ap (λ (k : ℤ). before.text ++ answer before.steps name k) stored)

-- ---- all lines

run_long : (m : Moment) (n rises : ℕ) → length (run_for m n rises).steps ≡ length m.steps + n
run_long m zero rises = omega arith
run_long m (suc n) rises = omega (arith, length-append (run_for m n rises).steps (record { inputs = (run_for m n rises).inputs; rises = rises_of rises } ∷ []), run_long m n rises)

after_long : (m : Moment) (a : TraceAct) → length (after m a).steps ≡ length m.steps + steps_of a
after_long m (act.Set x value) = omega arith
after_long m (act.Run count event) = run_long m count event.rises
after_long m (act.Show x) = omega arith

-- the first n lines are told, and the others are left
pub record ToldTo (names : List (List ℕ)) (lines : List TraceLine) (n : ℕ) (old new : Seen) (telling : Telling) : Type 0 where
  pub design : new.design ≡ old.design
  pub few : telling.steps ≤ n * 4294967295
  pub stand : AreLines old.design (drop n lines)
  pub named : AreNamed (length names) (drop n lines)
  pub told : (m : Moment) → Shows old m → m.steps ≡ [] → (now : Moment) × Shows new now × (length now.steps ≡ telling.steps)
      × ((rest : List ℕ) → Says old.design names now (drop n lines) rest → Says old.design names m lines (telling.text ++ rest))

pub none_told : (names : List (List ℕ)) (lines : List TraceLine) (old : Seen) (telling : Telling) → telling.text ≡ [] → telling.steps ≡ 0 → AreLines old.design lines → AreNamed (length names) lines → ToldTo names lines 0 old old telling
none_told names lines old telling none zero_steps stand named = record {
  design = refl;
  few = omega (arith, zero_steps);
  stand = stand;
  named = named;
  told = λ m s e. (m, s, ap length e ∙ sym zero_steps, λ rest says. subst (λ (t : List ℕ). Says old.design names m lines (t ++ rest)) (sym none) says);
}

pub line_stands : (names : List (List ℕ)) (lines : List TraceLine) (n : ℕ) (l : TraceLine) (old new : Seen) (telling : Telling) → slice_get lines n ≡ Some l → ToldTo names lines n old new telling → IsLine new.design l
line_stands names lines n l old new telling found to =
    subst (λ (d : Design). IsLine d l) (sym to.design) (subst (AreLines old.design) (drop_at lines n l found) to.stand).0

pub line_named : (names : List (List ℕ)) (lines : List TraceLine) (n : ℕ) (l : TraceLine) (old new : Seen) (telling : Telling) → slice_get lines n ≡ Some l → ToldTo names lines n old new telling → IsNamed (length names) l.act
line_named names lines n l old new telling found to = (subst (AreNamed (length names)) (drop_at lines n l found) to.named).0

pub one_told : (names : List (List ℕ)) (lines : List TraceLine) (n : ℕ) (l : TraceLine) (old new next : Seen) (before later : Telling) → slice_get lines n ≡ Some l → ToldTo names lines n old new before → next.design ≡ new.design
    → later.steps ≡ before.steps + steps_of l.act → steps_of l.act ≤ 4294967295 → TellsLine names l.act new next before later → ToldTo names lines (n + 1) old next later
one_told names lines n l old new next before later found to same count most line = record {
  design = same ∙ to.design;
  few = omega (arith, to.few, count, most);
  stand = (subst (AreLines old.design) (drop_at lines n l found) to.stand).1;
  named = (subst (AreNamed (length names)) (drop_at lines n l found) to.named).1;
  told = λ m s e.
      let was = to.told m s e in
      let now = was.0 in
      let here = line.tells now was.1 was.2 in (
        after now l.act,
        here.1,
        after_long now l.act ∙ (ap (λ (k : ℕ). k + steps_of l.act) was.2 ∙ sym count),
        λ rest says.
            let both : Says old.design names now (l ∷ drop (n + 1) lines) (line.text ++ rest) = (line.text, rest, subst (λ (d : Design). Tells d names now l.act line.text) to.design here.0, says, refl) in
            subst (Says old.design names m lines) (sym (append_assoc before.text line.text rest) ∙ ap (λ (t : List ℕ). t ++ rest) (sym line.told))
            (was.3 (line.text ++ rest) (subst (λ (ls : List TraceLine). Says old.design names now ls (line.text ++ rest)) (sym (drop_at lines n l found)) both)),
      );
}

pub all_told : (names : List (List ℕ)) (lines : List TraceLine) (n : ℕ) (old new : Seen) (telling : Telling) → length lines ≤ n → ToldTo names lines n old new telling → (m : Moment) → Shows old m → m.steps ≡ [] → Says old.design names m lines telling.text
all_told names lines n old new telling l to m s e =
    let was = to.told m s e in
    let now = was.0 in
    subst (Says old.design names m lines) (append-nil telling.text) (was.3 [] (subst (λ (ls : List TraceLine). Says old.design names now ls []) (sym (drop_of_length-le lines l)) refl))
