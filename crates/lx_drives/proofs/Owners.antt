-- Statements with their signals, and what drives a signal.
use Rattle.std.proofs.Common.{◌≡◌, ◌≢◌, ℕ, ◌+◌, ◌-◌, ◌<◌, ◌≤◌, Bool, true, false, ◌&&◌, ◌||◌, cond, not, List, [], ◌∷◌, ◌++◌, Option, Some, None, length, get_or, set, map, take, drop, add-one, refl, sym, ◌∙◌, ap, subst, nat_eq, arith, below_more, eq-eqb, ne_eqb}
use Rattle.std.specs.Prelude.{slice_get, slice_index_or, option_map}
use Rattle.std.proofs.lemmas.Bool.{eqb-true, true≢false}
use Rattle.std.proofs.lemmas.List.{append-nil, get_or-set_same, get_or-set_other, get_or_default, length-append, length-set, take_more, drop_all}
use Rattle.std.proofs.Math.Seq.{drop-cons}
use Rattle.lx_circuit.specs.Statements.{drives, drives_block}
use Rattle.lx_circuit.specs.Circuit.{Role, Input, Comb, Sync, Undriven, sync_role, read_role, idle_role, is_named}
use Rattle.lx_fhdl.specs.Below.{ExprId, StmtId}
use Rattle.lx_fhdl.specs.Designs.{stmt, block, stmts_of, signal_number, domains_from, circuit_of}
use Rattle.lx_fhdl.specs.Keeping.{EachOf, Keeps}
use Rattle.lx_fhdl.specs.Lowered.{is_for}
use Rattle.lx_fhdl.specs.declared.design.Signal.{Signal}
use Rattle.lx_fhdl.specs.declared.design.Domain.{Domain}
use Rattle.lx_fhdl.specs.declared.design.Design.{Design}
use Rattle.lx_emission.specs.Emission.{is_port}
use Rattle.lx_emission.specs.Emits.{MemoriesFit, ShowsNothing}
use Rattle.lx_emission.specs.Signals.{own, single, comb_drive, drive_by, drive}
use Rattle.lx_emission.specs.Texts.{covers}
use Rattle.lx_emission.proofs.Blocks.{sync_below}
use Rattle.lx_emission.proofs.Pieces.{own_below}
use Rattle.lx_emission.proofs.Roles.{none_read}
use Rattle.lx_sheet.specs.declared.drive.Drive.{Drive}
use Rattle.lx_drives.specs.Drives.{AllAreThere, AreClocked, AreClosed, AreClosedTo, AreFilled, AreIdle, HaveNoBlock, block_of, block_or, clocked_from, clocked_or, closed, drive_at, equal_or, idle_drive, is_block, is_input, with_stmt}
use Rattle.lx_sheet.specs.Drives.{AreDrives, IsThere, drive_of}
use Rattle.lx_sheet.specs.Marks.{AreMarks}
use Rattle.lx_drives.specs.Marks.{some_reset}
use Rattle.lx_width.proofs.Ends.{at_front, at_last}
use Rattle.std.proofs.lemmas.Option.{slice_get_within, get_or_from_slice_get}
use Rattle.lx_drives.proofs.Plain.{for_drives}
use Rattle.lx_circuit.specs.Circuit as circuit
use Rattle.lx_emission.specs.Signals as signals
use Rattle.lx_sheet.specs.declared.drive.Drive.TheVariants as now
use Rattle.lx_sheet.proofs.Owners.{made_is}

-- ---- the statements of a list that assign a signal

own_both : (d : Design) (x : ℕ) (is js : List StmtId) → own d x (is ++ js) ≡ own d x is ++ own d x js
unfolding own
own_both d x [] js = refl
own_both d x (i ∷ is) js = by_answer (drives x (stmt d i.place)) (own_both d x is js)
  where
    by_answer : (b : Bool) → own d x (is ++ js) ≡ own d x is ++ own d x js → cond b (i ∷ own d x (is ++ js)) (own d x (is ++ js)) ≡ cond b (i ∷ own d x is) (own d x is) ++ own d x js
    by_answer true e = ap (λ (ks : List StmtId). i ∷ ks) e
    by_answer false e = e

own_next : (d : Design) (x k : ℕ) (ids : List StmtId) (z : StmtId) (b : Bool) → k < length ids → drives x (stmt d (get_or ids k z).place) ≡ b → own d x (take (k + 1) ids) ≡ own d x (take k ids) ++ cond b (get_or ids k z ∷ []) []
unfolding own
own_next d x k ids z b l e =
    ap (own d x) (take_more ids k z l)
    ∙ own_both d x (take k ids) (get_or ids k z ∷ [])
    ∙ ap (λ c. own d x (take k ids) ++ cond c (get_or ids k z ∷ []) []) e

-- one statement more in the block of its signal
with_more : (clock : Option ℕ) (ids : List StmtId) (i : StmtId) (r : signals.Drive) → is_block clock r ≡ false → with_stmt clock i (block_or clock ids r) ≡ block_or clock (ids ++ i ∷ []) r
with_more None [] i signals.Input e = refl
with_more None [] i signals.Undriven e = refl
with_more None [] i (signals.CombAssign value) e = refl
with_more None [] i (signals.CombBlock body) e = absurd (true≢false e)
with_more None [] i (signals.Sync m body) e = refl
with_more (Some k) [] i signals.Input e = refl
with_more (Some k) [] i signals.Undriven e = refl
with_more (Some k) [] i (signals.CombAssign value) e = refl
with_more (Some k) [] i (signals.CombBlock body) e = refl
with_more (Some k) [] i (signals.Sync m body) e = ap (λ b. cond b (signals.Sync m (body ++ i ∷ [])) (signals.Sync k (i ∷ []))) e
with_more None (j ∷ js) i r e = refl
with_more (Some k) (j ∷ js) i r e = ap (λ b. cond b (signals.Sync k ((j ∷ js) ++ i ∷ [])) (signals.Sync k (i ∷ []))) (eq-eqb k k refl)

-- ---- a list of statements that is filled in

at_set_same : (rs : List Drive) (y : ℕ) (r : Drive) → y < length rs → drive_at (set rs y r) y ≡ drive_of r
at_set_same rs y r l = ap drive_of (get_or-set_same rs y r now.Undriven l)

at_set_other : (rs : List Drive) (y x : ℕ) (r : Drive) → x ≢ y → drive_at (set rs y r) x ≡ drive_at rs x
at_set_other rs y x r n = ap drive_of (get_or-set_other rs y x r now.Undriven n)

pub filled_none : (d : Design) (clock : Option ℕ) (rs : List Drive) → AreFilled d clock [] rs rs
unfolding own
filled_none d clock rs = record { long = refl; each = λ x l. refl }

pub filled_next : (d : Design) (clock : Option ℕ) (ids : List StmtId) (k : ℕ) (z : StmtId) (a b : List Drive) (y : ℕ) (q r : Drive) → HaveNoBlock clock a → k < length ids → is_for y (stmt d (get_or ids k z).place) ≡ true → y < length b
    → AreFilled d clock (take k ids) a b → q ≡ get_or b y q → drive_of r ≡ with_stmt clock (get_or ids k z) (drive_of q) → AreFilled d clock (take (k + 1) ids) a (set b y r)
filled_next d clock ids k z a b y q r none l own_is m h e f = record {
  long = length-set b y r ∙ h.long;
  each = λ x lt. by_answer x lt (nat_eq y x) refl;
}
  where
    was : q ≡ slice_index_or b y now.Undriven
    was = e ∙ get_or_default b y q now.Undriven m

    by_answer : (x : ℕ) → x < length a → (t : Bool) → nat_eq y x ≡ t → drive_at (set b y r) x ≡ block_or clock (own d x (take (k + 1) ids)) (drive_at a x)
    by_answer x lt true s =
        let same : y ≡ x = eqb-true y x s in
        let driven : drives x (stmt d (get_or ids k z).place) ≡ true = for_drives y x (stmt d (get_or ids k z).place) own_is ∙ s in
        ap (drive_at (set b y r)) (sym same)
        ∙ at_set_same b y r m
        ∙ f
        ∙ ap (λ (p : Drive). with_stmt clock (get_or ids k z) (drive_of p)) was
        ∙ ap (λ j. with_stmt clock (get_or ids k z) (drive_at b j)) same
        ∙ ap (with_stmt clock (get_or ids k z)) (h.each x lt)
        ∙ with_more clock (own d x (take k ids)) (get_or ids k z) (drive_at a x) (none x lt)
        ∙ ap (λ (is : List StmtId). block_or clock is (drive_at a x)) (sym (own_next d x k ids z true l driven))
    by_answer x lt false s =
        let other : x ≢ y = λ p. true≢false (sym (eq-eqb y x (sym p)) ∙ s) in
        let not_driven : drives x (stmt d (get_or ids k z).place) ≡ false = for_drives y x (stmt d (get_or ids k z).place) own_is ∙ s in
        at_set_other b y x r other
        ∙ h.each x lt
        ∙ ap (λ (is : List StmtId). block_or clock is (drive_at a x)) (sym (own_next d x k ids z false l not_driven ∙ append-nil (own d x (take k ids))))

-- ---- the signals of a design

reset_is : (d : Design) (x k : ℕ) (xs : List Domain) → circuit.is_some_reset x (domains_from d k xs) ≡ some_reset x xs
reset_is d x k [] = refl
reset_is d x k (a ∷ as_) = ap (λ b. is_named x (option_map signal_number a.reset) || b) (reset_is d x (k + 1) as_)

pub port_is : (d : Design) (x : ℕ) → (circuit.is_among x (map signal_number d.ios) || some_reset x d.domains) ≡ is_port d x
unfolding is_port circuit_of
port_is d x = ap (λ b. circuit.is_among x (map signal_number d.ios) || b) (sym (reset_is d x 0 d.domains))

-- a part from bit 0 on covers its signal where it is as long
pub covers_is : (bits low len : ℕ) → low ≡ 0 → nat_eq len bits ≡ covers bits low len
covers_is bits low len e = ap (λ b. b && nat_eq len bits) (sym (eq-eqb low 0 e))

-- ---- what drives a signal

abbrev has_some : List StmtId → Bool
has_some [] = false
has_some (i ∷ is) = true

driven_own : (d : Design) (x : ℕ) (is : List StmtId) → drives_block x (block d is) ≡ has_some (own d x is)
unfolding own
driven_own d x [] = refl
driven_own d x (i ∷ is) = ap (λ b. drives x (stmt d i.place) || b) (driven_own d x is) ∙ by_answer (drives x (stmt d i.place))
  where
    by_answer : (b : Bool) → (b || has_some (own d x is)) ≡ has_some (cond b (i ∷ own d x is) (own d x is))
    by_answer true = refl
    by_answer false = refl

-- a domain with statements for the signal, or what follows
domain_drive : (d : Design) (x k : ℕ) (rest : Role) (ids : List StmtId) → own d x (stmts_of k d.sync) ≡ ids → drive_by d x (cond (has_some ids) (Sync k) rest) ≡ block_or (Some k) ids (drive_by d x rest)
domain_drive d x k rest [] e = refl
domain_drive d x k rest (i ∷ is) e = ap (signals.Sync k) e

sync_drive : (d : Design) (x k : ℕ) (xs : List Domain) (other : Role) → drive_by d x (sync_role x k (domains_from d k xs) other) ≡ clocked_or d x k xs (drive_by d x other)
sync_drive d x k [] other = refl
sync_drive d x k (a ∷ as_) other =
    let rest = sync_role x (k + 1) (domains_from d (k + 1) as_) other in
    ap (λ b. drive_by d x (cond b (Sync k) rest)) (driven_own d x (stmts_of k d.sync))
    ∙ domain_drive d x k rest (own d x (stmts_of k d.sync)) refl
    ∙ ap (block_or (Some k) (own d x (stmts_of k d.sync))) (sync_drive d x (k + 1) as_ other)

idle_is : (d : Design) (x : ℕ) → drive_by d x (idle_role (circuit_of d) x) ≡ idle_drive (is_input d x)
unfolding is_port
idle_is d x = by_answer (is_port d x) (circuit.made (circuit_of d) x).given
  where
    by_answer : (b g : Bool) → drive_by d x (cond g Undriven (cond b Input Undriven)) ≡ idle_drive (b && not g)
    by_answer true true = refl
    by_answer true false = refl
    by_answer false true = refl
    by_answer false false = refl

-- ---- domains leave no block of `always @(*)`, and none of an earlier domain

no_comb_or : (k : ℕ) (ids : List StmtId) (r : signals.Drive) → is_block None r ≡ false → is_block None (block_or (Some k) ids r) ≡ false
no_comb_or k [] r h = h
no_comb_or k (i ∷ is) r h = refl

idle_no_block : (clock : Option ℕ) (b : Bool) → is_block clock (idle_drive b) ≡ false
idle_no_block None true = refl
idle_no_block None false = refl
idle_no_block (Some k) true = refl
idle_no_block (Some k) false = refl

no_comb : (d : Design) (x k : ℕ) (xs : List Domain) (b : Bool) → is_block None (clocked_or d x k xs (idle_drive b)) ≡ false
no_comb d x k [] b = idle_no_block None b
no_comb d x k (a ∷ as_) b = no_comb_or k (own d x (stmts_of k d.sync)) (clocked_or d x (k + 1) as_ (idle_drive b)) (no_comb d x (k + 1) as_ b)

not_earlier_or : (j k : ℕ) (ids : List StmtId) (r : signals.Drive) → j < k → is_block (Some j) r ≡ false → is_block (Some j) (block_or (Some k) ids r) ≡ false
not_earlier_or j k [] r l h = h
not_earlier_or j k (i ∷ is) r l h = ne_eqb k j (λ e. omega arith)

not_earlier : (d : Design) (x j k : ℕ) (xs : List Domain) (b : Bool) → j < k → is_block (Some j) (clocked_or d x k xs (idle_drive b)) ≡ false
not_earlier d x j k [] b l = idle_no_block (Some j) b
not_earlier d x j k (a ∷ as_) b l =
    not_earlier_or j k (own d x (stmts_of k d.sync)) (clocked_or d x (k + 1) as_ (idle_drive b)) l (not_earlier d x j (k + 1) as_ b (omega arith))

pub none_combined : (d : Design) (k : ℕ) (rs : List Drive) → AreClocked d k rs → HaveNoBlock None rs
none_combined d k rs h x l = ap (is_block None) (h.each x (omega (arith, h.long))) ∙ no_comb d x k (drop k d.domains) (is_input d x)

pub none_earlier : (d : Design) (j k : ℕ) (rs : List Drive) → j < k → AreClocked d k rs → HaveNoBlock (Some j) rs
none_earlier d j k rs lt h x l = ap (is_block (Some j)) (h.each x (omega (arith, h.long))) ∙ not_earlier d x j k (drop k d.domains) (is_input d x) lt

-- ---- domains and combinatorial statements

pub idle_none : (d : Design) → AreIdle d 0 []
idle_none d = record { long = refl; each = λ x l. absurd (omega arith) }

pub idle_more : (d : Design) (n : ℕ) (ports : List Bool) (rs : List Drive) (s : Signal) (z : Bool) (r : Drive) → AreMarks d ports → AreIdle d n rs → slice_get d.signals n ≡ Some s → drive_of r ≡ idle_drive (get_or ports n z && not s.by_bus) → AreIdle d (n + 1) (rs ++ r ∷ [])
idle_more d n ports rs s z r marks h e f = record {
  long = omega (arith, length-append rs (r ∷ []), h.long);
  each = below_more _ n
      (λ x l. let before : x < length rs = omega (arith, h.long) in ap drive_of (at_front rs r x now.Undriven before) ∙ h.each x l)
      (ap (λ k. drive_of (slice_index_or (rs ++ r ∷ []) k now.Undriven)) (sym h.long)
      ∙ ap drive_of (at_last rs r now.Undriven)
      ∙ f
      ∙ ap (λ b. idle_drive (b && not s.by_bus)) (get_or_default ports n z false there ∙ marks.each n within)
      ∙ ap (λ (m : circuit.Made). idle_drive (is_port d n && not m.given)) (sym (made_is d n s e)));
}
  where
    within : n < length d.signals
    within = slice_get_within d.signals n s e

    there : n < length ports
    there = omega (arith, within, marks.long)

pub idle_clocked : (d : Design) (rs : List Drive) → AreIdle d (length d.signals) rs → AreClocked d (length d.domains) rs
idle_clocked d rs h = record {
  long = h.long;
  each = λ x l. h.each x l ∙ ap (λ (xs : List Domain). clocked_or d x (length d.domains) xs (idle_drive (is_input d x))) (sym (drop_all (length d.domains) d.domains (omega arith)));
}

pub clocked_next : (d : Design) (k : ℕ) (ids : List StmtId) (a b : List Drive) → 0 < k → k ≤ length d.domains → ids ≡ stmts_of (k - 1) d.sync → AreClocked d k a → AreFilled d (Some (k - 1)) ids a b → AreClocked d (k - 1) b
clocked_next d k ids a b some l e h f = record {
  long = f.long ∙ h.long;
  each = λ x lt.
      let there : x < length a = omega (arith, h.long) in
      f.each x there
      ∙ ap (λ (is : List StmtId). block_or (Some (k - 1)) (own d x is) (drive_at a x)) e
      ∙ ap (block_or (Some (k - 1)) (own d x (stmts_of (k - 1) d.sync))) (h.each x lt ∙ ap (λ j. clocked_or d x j (drop j d.domains) (idle_drive (is_input d x))) back)
      ∙ ap (λ (xs : List Domain). clocked_or d x (k - 1) xs (idle_drive (is_input d x))) (sym first);
}
  where
    back : k ≡ k - 1 + 1
    back = omega arith

    within : k - 1 < length d.domains
    within = omega arith

    z : Domain
    z = record { name = []; reset = None }

    first : drop (k - 1) d.domains ≡ get_or d.domains (k - 1) z ∷ drop (k - 1 + 1) d.domains
    first = drop-cons d.domains (k - 1) z within ∙ ap (λ j. get_or d.domains (k - 1) z ∷ drop j d.domains) (sym (add-one (k - 1)))

-- ---- a block that is one whole assignment

comb_drive_is : (ids : List StmtId) (o : Option ExprId) → comb_drive ids o ≡ equal_or o (signals.CombBlock ids)
comb_drive_is ids None = refl
comb_drive_is ids (Some value) = refl

not_closed : (d : Design) (r : signals.Drive) → is_block None r ≡ false → closed d r ≡ r
not_closed d signals.Input e = refl
not_closed d signals.Undriven e = refl
not_closed d (signals.CombAssign value) e = refl
not_closed d (signals.CombBlock body) e = absurd (true≢false e)
not_closed d (signals.Sync k body) e = refl

comb_is : (d : Design) (x : ℕ) (rest : Role) (ids : List StmtId) → own d x d.comb ≡ ids → is_block None (drive_by d x rest) ≡ false → drive_by d x (cond (has_some ids) Comb rest) ≡ closed d (block_or None ids (drive_by d x rest))
comb_is d x rest [] e h = sym (not_closed d (drive_by d x rest) h)
comb_is d x rest (i ∷ is) e h = ap (λ (js : List StmtId). comb_drive js (single d js)) e ∙ comb_drive_is (i ∷ is) (single d (i ∷ is))

pub drive_is : (d : Design) (x : ℕ) → EachOf ShowsNothing (circuit_of d).ports → drive d x ≡ closed d (block_or None (own d x d.comb) (clocked_from d 0 x))
unfolding drive circuit_of
drive_is d x nothing_shown =
    let idle = read_role x 0 (circuit_of d).ports (idle_role (circuit_of d) x) in
    let rest = sync_role x 0 (domains_from d 0 d.domains) idle in
    let clocked : drive_by d x rest ≡ clocked_from d 0 x =
    sync_drive d x 0 d.domains idle ∙ ap (clocked_or d x 0 d.domains) (ap (drive_by d x) (none_read x 0 (circuit_of d).ports (idle_role (circuit_of d) x) nothing_shown) ∙ idle_is d x) in
    ap (λ b. drive_by d x (cond b Comb rest)) (driven_own d x d.comb)
    ∙ comb_is d x rest (own d x d.comb) refl (ap (is_block None) clocked ∙ no_comb d x 0 d.domains (is_input d x))
    ∙ ap (λ (r : signals.Drive). closed d (block_or None (own d x d.comb) r)) clocked

pub drives_are : (d : Design) (a b c : List Drive) → MemoriesFit d → AreClocked d 0 a → AreFilled d None d.comb a b → AreClosed d b c → AreDrives d c
drives_are d a b c fit h f g = record {
  long = g.long ∙ f.long ∙ h.long;
  each = λ k r e.
      let within : k < length c = slice_get_within c k r e in
      let in_a : k < length a = omega (arith, f.long, g.long) in
      let in_b : k < length b = omega (arith, g.long) in
      ap drive_of (sym (get_or_from_slice_get c k r now.Undriven e))
      ∙ g.each k in_b
      ∙ ap (closed d) (f.each k in_a ∙ ap (block_or None (own d k d.comb)) (h.each k (omega (arith, h.long))))
      ∙ sym (drive_is d k fit.show_nothing);
}

-- ---- before the blocks of one whole assignment are written so

or_there : (d : Design) (clock : Option ℕ) (ids : List StmtId) (r : signals.Drive) → IsThere d (block_of clock ids) → IsThere d r → IsThere d (block_or clock ids r)
or_there d clock [] r h g = g
or_there d clock (i ∷ is) r h g = h

clocked_there : (d : Design) (x k : ℕ) (xs : List Domain) (b : Bool) → Keeps d → k + length xs ≤ length d.domains → IsThere d (clocked_or d x k xs (idle_drive b))
clocked_there d x k [] true keeps l = tt
clocked_there d x k [] false keeps l = tt
clocked_there d x k (a ∷ as_) b keeps l =
    or_there d (Some k) (own d x (stmts_of k d.sync)) (clocked_or d x (k + 1) as_ (idle_drive b))
    (omega arith, own_below d x (length d.stmts) (stmts_of k d.sync) (sync_below d k d.sync keeps.sync)) (clocked_there d x (k + 1) as_ b keeps (omega arith))

pub all_there : (d : Design) (a b : List Drive) → Keeps d → AreClocked d 0 a → AreFilled d None d.comb a b → AllAreThere d b
all_there d a b keeps h f = record {
  each = λ x l.
      let in_a : x < length a = omega (arith, f.long) in
      let is = f.each x in_a ∙ ap (block_or None (own d x d.comb)) (h.each x (omega (arith, h.long))) in
      subst (IsThere d) (sym is)
      (or_there d None (own d x d.comb) (clocked_from d 0 x) (own_below d x (length d.stmts) d.comb keeps.comb.there) (clocked_there d x 0 d.domains (is_input d x) keeps (omega arith)));
}

-- ---- those are

pub closed_none : (d : Design) (rs : List Drive) → AreClosedTo d 0 rs rs
closed_none d rs = record { long = refl; done = λ x l. absurd (omega arith); left = λ x l. refl }

closed_at : (d : Design) (x : ℕ) (a b : List Drive) (q : Drive) → AreClosedTo d x a b → x < length b → q ≡ get_or b x q → drive_of q ≡ drive_at a x
closed_at d x a b q h l e = ap drive_of (e ∙ get_or_default b x q now.Undriven l) ∙ h.left x (omega arith)

pub there_in : (d : Design) (x : ℕ) (a b : List Drive) (q : Drive) → AllAreThere d a → AreClosedTo d x a b → x < length b → q ≡ get_or b x q → IsThere d (drive_of q)
there_in d x a b q t h l e = subst (IsThere d) (sym (closed_at d x a b q h l e)) (t.each x (omega (arith, h.long)))

pub closed_next : (d : Design) (x : ℕ) (a b : List Drive) (q r : Drive) → AreClosedTo d x a b → x < length b → q ≡ get_or b x q → drive_of r ≡ closed d (drive_of q) → AreClosedTo d (x + 1) a (set b x r)
closed_next d x a b q r h l e f = record {
  long = length-set b x r ∙ h.long;
  done = below_more _ x
      (λ y lt. let other : y ≢ x = omega arith in at_set_other b x y r other ∙ h.done y lt)
      (at_set_same b x r l ∙ f ∙ ap (closed d) (closed_at d x a b q h l e));
  left = λ y lt. let other : y ≢ x = omega arith in at_set_other b x y r other ∙ h.left y (omega arith);
}

pub closed_all : (d : Design) (n : ℕ) (a b : List Drive) → length b ≤ n → AreClosedTo d n a b → AreClosed d a b
closed_all d n a b l h = record { long = h.long; each = λ x lt. h.done x (omega (arith, h.long)) }
