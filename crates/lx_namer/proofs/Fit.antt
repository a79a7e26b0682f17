-- The names of a design fit it.
use Rattle.std.proofs.Common.{◌≡◌, ℕ, zero, suc, ◌+◌, ◌<◌, Bool, true, false, not, ◌||◌, List, [], ◌∷◌, ◌++◌, Option, Some, None, Ok, Err, map, length, codes, refl, sym, ap, subst, ◌∙◌, arith, inl, inr, ◌⊎◌, true≢false, length-append, nat_eq, eqb-true, zero-add}
use Rattle.std.specs.Prelude.{slice_get, slice_index_or, IfSome, IsTrue}
use Rattle.std.specs.List.{AllByRecursion, list_all, range_with_len}
use Rattle.std.specs.Str.{bytes_eq}
use Rattle.std.proofs.lemmas.Bool.{and_from, and_parts, not-true, or_right}
use Rattle.std.proofs.lemmas.List.{append-nil}
use Rattle.std.proofs.lemmas.List.FromFn.{length-map-range_with_len}
use Rattle.std.proofs.lemmas.Option.{slice_get_within}
use Rattle.lx_circuit.specs.Circuit as circuit
use Rattle.lx_text.specs.declared.faults.Fault.{Fault}
use Rattle.lx_vtext.specs.Tree.{Name}
use Rattle.lx_vtext.specs.Names.{is_name}
use Rattle.lx_vtext.specs.Printed.{number_text}
use Rattle.lx_fhdl.specs.Designs.{circuit_of, signal_number}
use Rattle.lx_fhdl.specs.Keeping.{EachOf, HasResetPath, IsDomain, Keeps, is_distinct, reset_name}
use Rattle.lx_fhdl.specs.declared.exprs.SigId.{SigId}
use Rattle.lx_fhdl.specs.declared.design.Signal.{Signal}
use Rattle.lx_fhdl.specs.declared.design.Domain.{Domain}
use Rattle.lx_fhdl.specs.declared.design.Design.{Design}
use Rattle.lx_fhdl.proofs.Resets.{each_of_at}
use Rattle.lx_emission.specs.Naming.{NamesFit, clock, clock_name, is_among, net, node_name}
use Rattle.lx_emission.specs.Emission.{is_port}
use Rattle.lx_emission.specs.Emits.{PortsFit, are_once, none_is_reset}
use Rattle.lx_emission.proofs.Lawful.{dollar_lawful}
use Rattle.lx_emission.proofs.Lists.{all_from_each, name_other, none_from_each}
use Rattle.lx_emission.proofs.Names.{domain_at}
use Rattle.lx_text.specs.declared.faults.Refusal.{Refusal}
use Rattle.lx_text.specs.declared.faults.Refusal.TheVariants as refusal
use Rattle.lx_namer.specs.Answers.{HasResetNet, HaveResetNets, IsRefusedBy}
use Rattle.lx_namer.specs.Giving.{TellsFault}
use Rattle.lx_namer.specs.Marks.{resets_of}
use Rattle.lx_namer.specs.Names.{Wish, all_given, all_wishes, given, has_no_path, memory_wish, memory_wishes, names_of, own_memory_name, own_name, port_fault, port_names, reserved, signal_path, signal_wish, signal_wishes, taken_first, unless}
use Rattle.lx_namer.proofs.Apart.{IsNew, among_first, among_itself, among_not, each_given, given_distinct, given_only}
use Rattle.lx_namer.proofs.Marked.{reset_is}
use Rattle.lx_namer.proofs.Spelling.{IsGood, clock_no_mark, good_lawful, is_marked_name, no_mark, node_marked}
use Rattle.lx_namer.proofs.Wishes.{CanBeNamed, IsIo, IsResetOf, PortsApart, all_apart, all_known, clock_reserved, each_only, io_not_reserved, ports_apart, reset_found, reset_own, reset_port, reset_reserved, reset_stands, wish_name}

abbrev pub names_given : Design → List Name
names_given d = all_given (taken_first d) (all_wishes d)

-- what holds of new names, of those with `$`, and of ports and resets
each_name : (P : Name → Type 0) (d : Design) → CanBeNamed d
    → ((n : Name) → IsNew (taken_first d) n → P n)
    → ((x : ℕ) → own_name d x ≡ codes "s$" ++ number_text x → P (own_name d x))
    → ((k : ℕ) → own_memory_name d k ≡ codes "m$" ++ number_text k → P (own_memory_name d k))
    → ((x : ℕ) → IsGood (own_name d x) → IsIo d x ⊎ IsResetOf d x → P (own_name d x))
    → AllByRecursion P (names_given d)
each_name P d can new signal memory port =
    subst (λ (taken : List Name). AllByRecursion P (all_given taken (all_wishes d))) (append-nil (taken_first d))
    (each_given P (taken_first d) new [] (all_wishes d) (all_known d can.keeps) (each_only P d can.keeps signal memory port))

-- ---- their count

pub given_long : (taken : List Name) (ws : List Wish) → length (all_given taken ws) ≡ length ws
unfolding all_given
given_long taken [] = refl
given_long taken (w ∷ ws) = ap suc (given_long (taken ++ given taken w ∷ []) ws)

names_long : (d : Design) → length (names_given d) ≡ length d.signals + length d.memories
names_long d =
    given_long (taken_first d) (all_wishes d)
    ∙ length-append (signal_wishes d (length d.signals)) (memory_wishes d (length d.memories))
    ∙ (λ i. length-map-range_with_len (signal_wish d) 0 (length d.signals) i + length-map-range_with_len (memory_wish d) 0 (length d.memories) i)

-- ---- their spelling

names_lawful : (d : Design) → CanBeNamed d → list_all is_name (names_given d) ≡ true
names_lawful d can = all_from_each is_name (names_given d) (each_name (λ n. is_name n ≡ true) d can
    (λ n h. good_lawful n h.good)
    (λ x e. ap is_name e ∙ dollar_lawful 115 x refl)
    (λ k e. ap is_name e ∙ dollar_lawful 109 k refl)
    (λ x g role. good_lawful (own_name d x) g))

good_not_node : (j : ℕ) (n : Name) → IsGood n → bytes_eq (node_name j) n ≡ false
good_not_node j n g = name_other (node_name j) n (λ e. true≢false (sym (node_marked j) ∙ ap is_marked_name e ∙ no_mark n g.identifier))

other_mark : (j b k : ℕ) (n : Name) → n ≡ b ∷ (36 ∷ number_text k) → (110 ≡ b → ⊥) → bytes_eq (node_name j) n ≡ false
unfolding node_name
other_mark j b k n e apart = name_other (node_name j) n (λ f. let z : ◌≡◌ {A = ℕ} 110 b = cc in apart z)

names_not_nodes : (d : Design) → CanBeNamed d → (j : ℕ) → is_among (node_name j) (names_given d) ≡ false
names_not_nodes d can j = none_from_each (bytes_eq (node_name j)) (names_given d) (each_name (λ n. bytes_eq (node_name j) n ≡ false) d can
    (λ n h. good_not_node j n h.good)
    (λ x e. other_mark j 115 x (own_name d x) e (λ z. omega (arith, z)))
    (λ k e. other_mark j 109 k (own_memory_name d k) e (λ z. omega (arith, z)))
    (λ x g role. good_not_node j (own_name d x) g))

-- ---- clocks

clock_not_reset : (a b : Name) → a ++ codes "_clk" ≡ b ++ codes "_rst" → ⊥
clock_not_reset [] [] e = let z : ◌≡◌ {A = ℕ} 99 114 = cc in omega (arith, z)
clock_not_reset [] (y ∷ ys) e = omega (arith, ap length e, length-append ys (codes "_rst"))
clock_not_reset (x ∷ xs) [] e = omega (arith, ap length e, length-append xs (codes "_clk"))
clock_not_reset (x ∷ xs) (y ∷ ys) e = let rest : xs ++ codes "_clk" ≡ ys ++ codes "_rst" = cc in clock_not_reset xs ys rest

clock_apart : (a b : Name) → clock_name a ≡ reset_name b → ⊥
unfolding clock_name
clock_apart a b e = clock_not_reset a b e

not_clock : (d : Design) → CanBeNamed d → (k : ℕ) (a : Domain) → slice_get d.domains k ≡ Some a → is_among (clock_name a.name) (names_given d) ≡ false
not_clock d can k a there = none_from_each (bytes_eq (clock_name a.name)) (names_given d) (each_name (λ n. bytes_eq (clock_name a.name) n ≡ false) d can
    (λ n h. name_other (clock_name a.name) n (among_not (clock_name a.name) n (taken_first d) (among_first (clock_name a.name) (reserved d) (port_names d d.ios) reserved_so) h.free))
    (λ x e. marked (own_name d x) (ap is_marked_name e))
    (λ m e. marked (own_memory_name d m) (ap is_marked_name e))
    (λ x g role. by x role))
  where
    stands : IsDomain d a
    stands = each_of_at (IsDomain d) d.domains can.keeps.domains k a there

    reserved_so : is_among (clock_name a.name) (reserved d) ≡ true
    reserved_so = clock_reserved d k a there

    marked : (n : Name) → is_marked_name n ≡ true → bytes_eq (clock_name a.name) n ≡ false
    marked n h = name_other (clock_name a.name) n (λ e. true≢false (sym h ∙ ap is_marked_name (sym e) ∙ clock_no_mark a.name stands.name))

    by : (x : ℕ) → IsIo d x ⊎ IsResetOf d x → bytes_eq (clock_name a.name) (own_name d x) ≡ false
    by x (inl i) = name_other (clock_name a.name) (own_name d x) (among_not (clock_name a.name) (own_name d x) (reserved d) reserved_so (io_not_reserved d can x i))
    by x (inr r) = name_other (clock_name a.name) (own_name d x) (λ e. clock_apart a.name r.domain.name (e ∙ reset_own d can.keeps x r))

names_not_clocks : (d : Design) → CanBeNamed d → (k : ℕ) → k < length d.domains → is_among (clock d k) (names_given d) ≡ false
names_not_clocks d can k l =
    let at = domain_at d k l in
    ap (λ n. is_among n (names_given d)) at.clock ∙ not_clock d can k at.domain at.there

-- ---- the names fit

pub names_fit : (d : Design) → CanBeNamed d → NamesFit d (names_given d)
names_fit d can = record {
  long = names_long d;
  lawful = names_lawful d can;
  distinct = given_distinct (taken_first d) (all_wishes d) (all_known d can.keeps) (all_apart d can);
  clocks = names_not_clocks d can;
  nodes = names_not_nodes d can;
}

-- ---- the ports fit

io_among : (d : Design) (x : ℕ) (xs : List SigId) → circuit.is_among x (map signal_number xs) ≡ true → is_among (own_name d x) (port_names d xs) ≡ true
io_among d x [] h = absurd cc
io_among d x (y ∷ ys) h = by (io_among d x ys) (nat_eq y.0 x) refl h
  where
    by : (circuit.is_among x (map signal_number ys) ≡ true → is_among (own_name d x) (port_names d ys) ≡ true) → (b : Bool) → nat_eq y.0 x ≡ b → (b || circuit.is_among x (map signal_number ys)) ≡ true → is_among (own_name d x) (own_name d y.0 ∷ port_names d ys) ≡ true
    by next true e g = ap (λ k. is_among (own_name d x) (own_name d k ∷ port_names d ys)) (eqb-true y.0 x e) ∙ among_itself (own_name d x) (port_names d ys)
    by next false e g = or_right (bytes_eq (own_name d x) (own_name d y.0)) (is_among (own_name d x) (port_names d ys)) (next g)

ports_once : (d : Design) (xs : List SigId) → is_distinct (port_names d xs) ≡ true → are_once (map signal_number xs) ≡ true
ports_once d [] h = refl
ports_once d (x ∷ xs) h =
    let p = and_parts (not (is_among (own_name d x.0) (port_names d xs))) (is_distinct (port_names d xs)) h in
    and_from (not (circuit.is_among x.0 (map signal_number xs))) (are_once (map signal_number xs)) (by (circuit.is_among x.0 (map signal_number xs)) refl (not-true (is_among (own_name d x.0) (port_names d xs)) p.0)) (ports_once d xs p.1)
  where
    by : (b : Bool) → circuit.is_among x.0 (map signal_number xs) ≡ b → is_among (own_name d x.0) (port_names d xs) ≡ false → not b ≡ true
    by true e none = absurd (true≢false (sym (io_among d x.0 xs e) ∙ none))
    by false e none = refl

no_resets : (d : Design) (xs : List SigId) → AllByRecursion (λ (n : Name). is_among n (reserved d) ≡ false) (port_names d xs) → none_is_reset (map signal_number xs) (circuit_of d).domains ≡ true
unfolding circuit_of
no_resets d [] h = refl
no_resets d (x ∷ xs) h =
    and_from (not (circuit.is_some_reset x.0 (circuit_of d).domains)) (none_is_reset (map signal_number xs) (circuit_of d).domains) (by (circuit.is_among x.0 (resets_of d.domains)) refl (sym (reset_is d x.0 0 d.domains))) (no_resets d xs h.1)
  where
    by : (b : Bool) → circuit.is_among x.0 (resets_of d.domains) ≡ b → circuit.is_some_reset x.0 (circuit_of d).domains ≡ circuit.is_among x.0 (resets_of d.domains) → not (circuit.is_some_reset x.0 (circuit_of d).domains) ≡ true
    by true e same =
        let f = reset_found x.0 d.domains e in
        let r : IsResetOf d x.0 = record { at = f.0; domain = f.1; reset = f.2; there = f.3; has = f.4; is = f.5 } in
        absurd (true≢false (sym (reset_reserved d x.0 r) ∙ h.0))
    by false e same = ap (λ t. not t) (same ∙ e)

ios_once : (d : Design) → PortsApart d (reserved d) d.ios → IsTrue (are_once (circuit_of d).ios)
unfolding circuit_of
ios_once d apart = ports_once d d.ios apart.distinct

reset_free : (d : Design) → PortsApart d (reserved d) d.ios → IsTrue (none_is_reset (circuit_of d).ios (circuit_of d).domains)
unfolding circuit_of
reset_free d apart = no_resets d d.ios apart.others

pub ports_fit : (d : Design) → CanBeNamed d → PortsFit d
ports_fit d can =
    let apart = ports_apart d (reserved d) d.ios can.ports in
    record { once = ios_once d apart; resets = reset_free d apart }

-- ---- the nets of resets

given_at : (taken : List Name) (ws : List Wish) (k : ℕ) (w : Wish) → slice_get ws k ≡ Some w → w.only ≡ true → slice_index_or (all_given taken ws) k [] ≡ w.name
unfolding all_given
given_at taken [] k w e o = absurd cc
given_at taken (v ∷ vs) zero w e o = let same : v ≡ w = cc in given_only taken v (ap (λ (u : Wish). u.only) same ∙ o) ∙ ap (λ (u : Wish). u.name) same
given_at taken (v ∷ vs) (suc k) w e o = given_at (taken ++ given taken v ∷ []) vs k w e o

counted_at : (f : ℕ → Wish) (a n : ℕ) (more : List Wish) (k : ℕ) → k < n → slice_get (map f (range_with_len a n) ++ more) k ≡ Some (f (a + k))
counted_at f a zero more k l = absurd (omega arith)
counted_at f a (suc n) more zero l = let z : a ≡ a + 0 = omega arith in ap (λ i. Some (f i)) z
counted_at f a (suc n) more (suc k) l = let z : (a + 1) + k ≡ a + suc k = omega arith in counted_at f (a + 1) n more k (omega arith) ∙ ap (λ i. Some (f i)) z

pub each_from : {T : Type 0} (P : T → Type 0) (xs : List T) → ((k : ℕ) (x : T) → slice_get xs k ≡ Some x → P x) → EachOf P xs
each_from P [] h = tt
each_from P (x ∷ xs) h = (h 0 x refl, each_from P xs (λ k y e. h (suc k) y e))

reset_within : (d : Design) → Keeps d → (x : ℕ) → IsResetOf d x → x < length d.signals
reset_within d keeps x r =
    let stands = reset_stands d keeps r.at r.domain r.reset r.there r.has in
    let there : r.reset.0 < length d.signals = by (slice_get d.signals r.reset.0) refl stands.path in
    subst (λ (k : ℕ). k < length d.signals) r.is there
  where
    by : (o : Option Signal) → slice_get d.signals r.reset.0 ≡ o → HasResetPath r.domain o → r.reset.0 < length d.signals
    by None e h = absurd h
    by (Some s) e h = slice_get_within d.signals r.reset.0 s e

reset_only : (d : Design) (x : ℕ) → IsResetOf d x → (signal_wish d x).only ≡ true
unfolding signal_wish
reset_only d x r = or_right (has_no_path (signal_path (slice_get d.signals x))) (is_port d x) (reset_port d x r)

reset_net : (d : Design) → CanBeNamed d → (x : ℕ) (r : IsResetOf d x) → net (names_given d) x ≡ reset_name r.domain.name
reset_net d can x r =
    given_at (taken_first d) (all_wishes d) x (signal_wish d x) (counted_at (signal_wish d) 0 (length d.signals) (memory_wishes d (length d.memories)) x (reset_within d can.keeps x r) ∙ ap (λ k. Some (signal_wish d k)) (zero-add x)) (reset_only d x r)
    ∙ wish_name d x ∙ reset_own d can.keeps x r

pub resets_fit : (d : Design) → CanBeNamed d → HaveResetNets d (names_given d)
resets_fit d can = each_from (HasResetNet (names_given d)) d.domains (λ k a e. by k a e a.reset refl)
  where
    by : (k : ℕ) (a : Domain) → slice_get d.domains k ≡ Some a → (o : Option SigId) → a.reset ≡ o → IfSome o (λ (r : SigId). net (names_given d) r.0 ≡ reset_name a.name)
    by k a e None f = tt
    by k a e (Some r) f = reset_net d can r.0 (record { at = k; domain = a; reset = r; there = e; has = f; is = refl })

-- ---- the answer

pub names_are : (d : Design) (names : List Name) → port_fault d (reserved d) d.ios ≡ None → names ≡ names_given d → names_of d ≡ Ok names
unfolding names_of
names_are d names e f = ap (λ (o : Option Fault). unless o (names_given d)) e ∙ ap (λ (ns : List Name). Ok ns) (sym f)

pub fault_is : (d : Design) (f : Fault) → port_fault d (reserved d) d.ios ≡ Some f → names_of d ≡ Err f
unfolding names_of
fault_is d f e = ap (λ (o : Option Fault). unless o (names_given d)) e

pub refused : (d : Design) (r : Refusal) → TellsFault (port_fault d (reserved d) d.ios) r → IsRefusedBy r (names_of d)
refused d (refusal.Fault f) h = fault_is d f h
refused d refusal.NoMemory h = tt

pub fit_as : (d : Design) (names : List Name) → CanBeNamed d → names ≡ names_given d → NamesFit d names
fit_as d names can e = subst (λ (ns : List Name). NamesFit d ns) (sym e) (names_fit d can)

pub resets_as : (d : Design) (names : List Name) → CanBeNamed d → names ≡ names_given d → HaveResetNets d names
resets_as d names can e = subst (λ (ns : List Name). HaveResetNets d ns) (sym e) (resets_fit d can)
