-- What a signal reads by its role: as dat_r of the first port, where nothing drives it.
use Rattle.std.proofs.Common.{◌≡◌, ℕ, zero, suc, ◌+◌, ◌<◌, Bool, true, false, ◌||◌, ◌&&◌, List, [], ◌∷◌, ◌++◌, Option, Some, None, length, map, refl, sym, ap, subst, ◌∙◌, arith, nat_eq, cond}
use Rattle.std.specs.Prelude.{IfSome, option_map, slice_get, slice_index_or, if◌then◌else◌}
use Rattle.std.specs.List.{find, list_any}
use Rattle.std.specs.Option.{is_some}
use Rattle.std.proofs.Math.Bool.{or-false}
use Rattle.std.proofs.lemmas.Bool.{eqb-true, true≢false}
use Rattle.lx_circuit.specs.Circuit as circuit
use Rattle.lx_circuit.specs.Circuit.{Circuit, Role, Comb, Input, Undriven, is_named, no_port, port_at, read_role, role, sync_role}
use Rattle.lx_circuit.specs.Memories as memory
use Rattle.lx_circuit.specs.Places.{At}
use Rattle.lx_circuit.specs.Reads.{reads_in, role_reads, shown_reads}
use Rattle.lx_circuit.specs.Statements.{drives_block}
use Rattle.lx_fhdl.specs.Below.{all_stmts_below}
use Rattle.lx_fhdl.specs.Designs.{block, circuit_of, domains_from, memory_at, mode_of, port_of, signal_number, stmts_of}
use Rattle.lx_fhdl.specs.Keeping.{EachOf, IsPort, IsUnsigned, Keeps}
use Rattle.lx_fhdl.specs.declared.design.Design.{Design}
use Rattle.lx_fhdl.specs.declared.design.Domain.{Domain}
use Rattle.lx_fhdl.specs.declared.design.Port.{Port}
use Rattle.lx_fhdl.specs.declared.design.PortMode.{PortMode}
use Rattle.lx_fhdl.specs.declared.design.PortMode.TheVariants as mode
use Rattle.lx_fhdl.specs.declared.exprs.SigId.{SigId}
use Rattle.lx_emission.proofs.Blocks.{sync_below}
use Rattle.lx_reads.specs.Drivings.{Driving, domains_drivings, drivings, drivings_of, first_driving}
use Rattle.lx_reads.proofs.Driven.{block_drives, some_append, some_drive}
use Rattle.lx_check.specs.Faults.{any_driving, is_reader, reader_of}
use Rattle.lx_check.specs.Graphs.{address_of, all_reads, comb_reads, is_async}

-- an address names y
abbrev pub reads_address : ℕ → Option ℕ → Bool
reads_address y None = false
reads_address y (Some a) = nat_eq a y

-- ---- ports

by_mode : (y k : ℕ) (q : Port) (m : PortMode) → shown_reads k (At y) (port_of q) (mode_of m) ≡ reads_address y (if is_async m then Some q.adr.0 else None)
by_mode y k q mode.Async = or-false (nat_eq q.adr.0 y)
by_mode y k q mode.WriteFirst = refl
by_mode y k q mode.ReadFirst = refl
by_mode y k q mode.NoChange = refl

port_reads : (c : Circuit) (x y k : ℕ) (qs : List Port) (other : Role) → role_reads c (At y) other ≡ false → ((i : ℕ) (q : Port) → slice_get qs i ≡ Some q → port_at c (k + i) ≡ port_of q)
    → role_reads c (At y) (read_role x k (map port_of qs) other) ≡ reads_address y (address_of (find (is_reader x) qs))
port_reads c x y k [] other e h = e
port_reads c x y k (q ∷ qs) other e h = by_answer (is_reader x q) (port_reads c x y (k + 1) qs other e (λ i p is. (let z : k + 1 + i ≡ k + suc i = omega arith in ap (port_at c) z) ∙ h (suc i) p is))
  where
    by_answer : (b : Bool) → role_reads c (At y) (read_role x (k + 1) (map port_of qs) other) ≡ reads_address y (address_of (find (is_reader x) qs))
        → role_reads c (At y) (if b then circuit.Read k else read_role x (k + 1) (map port_of qs) other) ≡ reads_address y (address_of (cond b (Some q) (find (is_reader x) qs)))
    by_answer true more =
        let at : port_at c k ≡ port_of q = (let z : k ≡ k + 0 = omega arith in ap (port_at c) z) ∙ h 0 q refl in
        ap (λ (p : memory.Port). shown_reads k (At y) p p.mode) at ∙ by_mode y k q q.mode
    by_answer false more = more

get_map : (qs : List Port) (i : ℕ) (q : Port) → slice_get qs i ≡ Some q → slice_index_or (map port_of qs) i no_port ≡ port_of q
get_map [] i q e = absurd (cc)
get_map (p ∷ ps) zero q e = let s : p ≡ q = cc in ap port_of s
get_map (p ∷ ps) (suc i) q e = get_map ps i q e

ports_are : (d : Design) (i : ℕ) (q : Port) → slice_get d.ports i ≡ Some q → port_at (circuit_of d) (0 + i) ≡ port_of q
unfolding circuit_of
ports_are d i q e = (let z : 0 + i ≡ i = omega arith in ap (port_at (circuit_of d)) z) ∙ get_map d.ports i q e

-- ---- domains

sync_reads : (d : Design) (c : Circuit) (x y k : ℕ) (xs : List Domain) (other : Role) → Keeps d
    → role_reads c (At y) (sync_role x k (domains_from d k xs) other) ≡ (if some_drive x (domains_drivings d k xs) then false else role_reads c (At y) other)
sync_reads d c x y k [] other keeps = refl
sync_reads d c x y k (z ∷ zs) other keeps =
    by_answer (drives_block x (block d (stmts_of k d.sync))) (some_drive x (domains_drivings d (k + 1) zs)) (sync_reads d c x y (k + 1) zs other keeps)
    ∙ ap (λ (v : Bool). if v then false else role_reads c (At y) other)
    (sym (some_append x (drivings_of d (k + 1) (stmts_of k d.sync)) (domains_drivings d (k + 1) zs)
    ∙ ap (λ (v : Bool). v || some_drive x (domains_drivings d (k + 1) zs)) (block_drives d (k + 1) x (stmts_of k d.sync) keeps (sync_below d k d.sync keeps.sync))))
  where
    by_answer : (b m : Bool) → role_reads c (At y) (sync_role x (k + 1) (domains_from d (k + 1) zs) other) ≡ (if m then false else role_reads c (At y) other)
        → role_reads c (At y) (if b then circuit.Sync k else sync_role x (k + 1) (domains_from d (k + 1) zs) other) ≡ (if b || m then false else role_reads c (At y) other)
    by_answer true m e = refl
    by_answer false m e = e

-- ---- roles

idle_reads : (c : Circuit) (x y : ℕ) → role_reads c (At y) (circuit.idle_role c x) ≡ false
idle_reads c x y = by_given (circuit.made c x).given (circuit.is_among x c.ios || circuit.is_some_reset x c.domains)
  where
    by_given : (a b : Bool) → role_reads c (At y) (if a then Undriven else (if b then Input else Undriven)) ≡ false
    by_given true b = refl
    by_given false true = refl
    by_given false false = refl

-- as dat_r, where nothing drives it
role_is : (d : Design) (x y : ℕ) → Keeps d → role_reads (circuit_of d) (At y) (role (circuit_of d) x) ≡ (if some_drive x (drivings d) then false else reads_address y (address_of (reader_of d x)))
unfolding drivings circuit_of
role_is d x y keeps =
    let c = circuit_of d in
    let other = read_role x 0 c.ports (circuit.idle_role c x) in
    by_answer (drives_block x (block d d.comb)) (some_drive x (domains_drivings d 0 d.domains))
    (sync_reads d c x y 0 d.domains other keeps)
    (port_reads c x y 0 d.ports (circuit.idle_role c x) (idle_reads c x y) (λ i q e. ports_are d i q e))
    ∙ ap (λ (v : Bool). if v then false else reads_address y (address_of (reader_of d x)))
    (sym (some_append x (drivings_of d 0 d.comb) (domains_drivings d 0 d.domains) ∙ ap (λ (v : Bool). v || some_drive x (domains_drivings d 0 d.domains)) (block_drives d 0 x d.comb keeps keeps.comb.there)))
  where
    by_answer : (b m : Bool)
        → role_reads (circuit_of d) (At y) (sync_role x 0 (domains_from d 0 d.domains) (read_role x 0 (map port_of d.ports) (circuit.idle_role (circuit_of d) x)))
        ≡ (if m then false else role_reads (circuit_of d) (At y) (read_role x 0 (map port_of d.ports) (circuit.idle_role (circuit_of d) x)))
        → role_reads (circuit_of d) (At y) (read_role x 0 (map port_of d.ports) (circuit.idle_role (circuit_of d) x)) ≡ reads_address y (address_of (reader_of d x))
        → role_reads (circuit_of d) (At y) (if b then Comb else sync_role x 0 (domains_from d 0 d.domains) (read_role x 0 (map port_of d.ports) (circuit.idle_role (circuit_of d) x)))
        ≡ (if b || m then false else reads_address y (address_of (reader_of d x)))
    by_answer true m e f = refl
    by_answer false true e f = e
    by_answer false false e f = e ∙ f

-- ---- what is driven, as the first driving tells it

some_first : (x : ℕ) (all : List Driving) → is_some (first_driving x any_driving all) ≡ some_drive x all
some_first x [] = refl
some_first x (a ∷ as_) = by_answer (nat_eq a.signal x) (some_first x as_)
  where
    by_answer : (b : Bool) → is_some (first_driving x any_driving as_) ≡ some_drive x as_ → is_some (cond (b && true) (Some a) (first_driving x any_driving as_)) ≡ (b || some_drive x as_)
    by_answer true more = refl
    by_answer false more = more

-- the address that a signal reads as dat_r, where nothing drives it
abbrev pub read_address : Design → ℕ → Option ℕ
read_address d x = if is_some (first_driving x any_driving (drivings d)) then None else address_of (reader_of d x)

reads_split : (d : Design) (x y : ℕ) → all_reads d x y ≡ (comb_reads d x y || role_reads (circuit_of d) (At y) (role (circuit_of d) x))
unfolding circuit_of
reads_split d x y = refl

pub reads_are : (d : Design) (x y : ℕ) → Keeps d → all_reads d x y ≡ (comb_reads d x y || reads_address y (read_address d x))
reads_are d x y keeps =
    reads_split d x y ∙ ap (λ (v : Bool). comb_reads d x y || v) (role_is d x y keeps ∙ ap (λ (v : Bool). if v then false else reads_address y (address_of (reader_of d x))) (sym (some_first x (drivings d))) ∙ by_answer (is_some (first_driving x any_driving (drivings d))))
  where
    by_answer : (b : Bool) → (if b then false else reads_address y (address_of (reader_of d x))) ≡ reads_address y (if b then None else address_of (reader_of d x))
    by_answer true = refl
    by_answer false = refl

-- ---- its signals are there

pub reader_in : (d : Design) (q : Port) (z : SigId) → IsPort d q → q.dat_r ≡ Some z → z.0 < length d.signals
reader_in d q z h e = let P : Option SigId → Type 0 = λ o. IfSome o (IsUnsigned d (memory_at d q.memory).width) in (subst P e h.dat_r).there

reader_there : (d : Design) (x : ℕ) (qs : List Port) (q : Port) → EachOf (IsPort d) qs → find (is_reader x) qs ≡ Some q → x < length d.signals
reader_there d x [] q h e = absurd (cc)
reader_there d x (p ∷ ps) q h e = by_answer (is_reader x p) refl (λ f. reader_there d x ps q h.1 f)
  where
    by_reader : (o : Option SigId) → p.dat_r ≡ o → is_named x (option_map signal_number o) ≡ true → x < length d.signals
    by_reader None i n = absurd (true≢false (sym n))
    by_reader (Some z) i n =
        let s = reader_in d p z h.0 i in
        subst (λ (v : ℕ). v < length d.signals) (eqb-true z.0 x n) s

    by_answer : (b : Bool) → is_reader x p ≡ b → (find (is_reader x) ps ≡ Some q → x < length d.signals) → x < length d.signals
    by_answer true n more = by_reader p.dat_r refl n
    by_answer false n more = more (sym (ap (λ (b : Bool). cond b (Some p) (find (is_reader x) ps)) n) ∙ e)

pub address_there : (d : Design) (x y : ℕ) → Keeps d → reads_address y (read_address d x) ≡ true → x < length d.signals
address_there d x y keeps h = by_driven (is_some (first_driving x any_driving (drivings d))) h
  where
    by_found : (o : Option Port) → reader_of d x ≡ o → reads_address y (address_of o) ≡ true → x < length d.signals
    by_found None e i = absurd (true≢false (sym i))
    by_found (Some q) e i = reader_there d x d.ports q keeps.ports e

    by_driven : (b : Bool) → reads_address y (if b then None else address_of (reader_of d x)) ≡ true → x < length d.signals
    by_driven true i = absurd (true≢false (sym i))
    by_driven false i = by_found (reader_of d x) refl i
