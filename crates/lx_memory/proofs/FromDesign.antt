-- The circuit of a design is one whose ports can be lowered, where each port shows alone.
use Rattle.std.proofs.Common.{◌≡◌, ℕ, zero, suc, ◌+◌, ◌<◌, ◌≤◌, true, List, [], ◌∷◌, Option, Some, None, length, refl, sym, ap, subst, arith, nat_eq, inl, inr}
use Rattle.std.specs.Prelude.{IfSome, IsSomeAnd, map, option_map, slice_get, slice_index_or}
use Rattle.std.proofs.lemmas.Bool.{eqb-true, or_cases}
use Rattle.std.proofs.lemmas.List.{length-map}
use Rattle.std.proofs.lemmas.Option.{slice_get_within}
use Rattle.lx_num.specs.Ints.{unsigned}
use Rattle.lx_circuit.specs.Circuit as circuit
use Rattle.lx_circuit.specs.Circuit.{is_among, is_named, is_some_reset, no_memory, no_port}
use Rattle.lx_circuit.specs.Memories as memory
use Rattle.lx_fhdl.specs.Designs.{circuit_of, domains_from, made_of, memory_at, memory_of, mode_of, port_of, shapes, signal_number, writer_of}
use Rattle.lx_fhdl.specs.Keeping.{EachOf, HasDomain, HasResetPath, IsDomain, IsMemory, IsPort, IsReset, IsUnsigned, Keeps, WriterStands, is_clocked}
use Rattle.lx_fhdl.specs.declared.design.Design.{Design}
use Rattle.lx_fhdl.specs.declared.design.Domain.{Domain}
use Rattle.lx_fhdl.specs.declared.design.Memory.{Memory}
use Rattle.lx_fhdl.specs.declared.design.Port.{Port}
use Rattle.lx_fhdl.specs.declared.design.PortMode.{PortMode}
use Rattle.lx_fhdl.specs.declared.design.PortMode.TheVariants as mode
use Rattle.lx_fhdl.specs.declared.design.Signal.{Signal}
use Rattle.lx_fhdl.specs.declared.exprs.SigId.{SigId}
use Rattle.lx_lowering.specs.Lowering.{BlockKeeps}
use Rattle.lx_lower.proofs.FromKeeps.{can_be_lowered}
use Rattle.lx_memory.specs.Lowers.{CanLowerPorts, NamesBelow, PortFits, ShowAlone, keeps_some}
use Rattle.lx_memory.proofs.Mentioned.{block_below}

pub signals_length : (d : Design) → length (circuit_of d).signals ≡ length d.signals
unfolding circuit_of
signals_length d = length-map d.signals made_of

from_length : (d : Design) (k : ℕ) (xs : List Domain) → length (domains_from d k xs) ≡ length xs
from_length d k [] = refl
from_length d k (x ∷ xs) = ap suc (from_length d (k + 1) xs)

pub domains_length : (d : Design) → length (circuit_of d).domains ≡ length d.domains
unfolding circuit_of
domains_length d = from_length d 0 d.domains

-- ---- statements

each_below : (d : Design) (ds : List circuit.Domain) → EachOf (λ (x : circuit.Domain). BlockKeeps (shapes d) (length (circuit_of d).signals) x.stmts) ds
    → EachOf (λ (x : circuit.Domain). NamesBelow (length (circuit_of d).signals) x.stmts) ds
each_below d [] h = tt
each_below d (x ∷ xs) h = (λ y e. block_below (shapes d) (length (circuit_of d).signals) y x.stmts h.0 e, each_below d xs h.1)

-- ---- resets and ports to the outside

path_there : (d : Design) (x : Domain) (r : ℕ) (o : Option Signal) → slice_get d.signals r ≡ o → HasResetPath x o → r < length d.signals
path_there d x r None e h = absurd h
path_there d x r (Some s) e h = slice_get_within d.signals r s e

reset_there : (d : Design) (x : Domain) (y : ℕ) (o : Option SigId) → IfSome o (IsReset d x) → is_named y (option_map signal_number o) ≡ true → y < length d.signals
reset_there d x y None h e = absurd cc
reset_there d x y (Some r) h e = subst (λ z. z < length d.signals) (eqb-true r.0 y e) (path_there d x r.0 (slice_get d.signals r.0) refl h.path)

resets_there : (d : Design) (y k : ℕ) (xs : List Domain) → EachOf (IsDomain d) xs → is_some_reset y (domains_from d k xs) ≡ true → y < length d.signals
resets_there d y k [] h e = absurd cc
resets_there d y k (x ∷ xs) h e =
    elim (or_cases (is_named y (option_map signal_number x.reset)) (is_some_reset y (domains_from d (k + 1) xs)) e) [
      | inl p ↦ reset_there d x y x.reset h.0.reset p
      | inr p ↦ resets_there d y (k + 1) xs h.1 p
    ]

ios_there : (n y : ℕ) (xs : List SigId) → EachOf (λ (x : SigId). x.0 < n) xs → is_among y (map signal_number xs) ≡ true → y < n
ios_there n y [] h e = absurd cc
ios_there n y (x ∷ xs) h e =
    elim (or_cases (nat_eq x.0 y) (is_among y (map signal_number xs)) e) [
      | inl p ↦ subst (λ z. z < n) (eqb-true x.0 y p) h.0
      | inr p ↦ ios_there n y xs h.1 p
    ]

-- ---- ports of memories

width_some : (ms : List Memory) (m : ℕ) → EachOf IsMemory ms → 1 ≤ (slice_index_or (map memory_of ms) m no_memory).width
width_some [] m h = omega arith
width_some (x ∷ xs) zero h = h.0.width_some
width_some (x ∷ xs) (suc m) h = width_some xs m h.1

word_some : (d : Design) (m : ℕ) → Keeps d → 1 ≤ (memory_at d m).width
unfolding circuit_of
word_some d m h = width_some d.memories m h.memories

reader_fits : (d : Design) (width : ℕ) (o : Option SigId) → IfSome o (IsUnsigned d width) → IfSome (option_map signal_number o) (λ r. (r < length (circuit_of d).signals) × (shapes d r ≡ unsigned width))
reader_fits d width None h = tt
reader_fits d width (Some x) h = ((let z = signals_length d in let l = h.there in omega arith), h.shape)

writer_fits : (d : Design) (width part : ℕ) (w e : Option SigId) → WriterStands d width part w e → IfSome (writer_of part w e) (λ (u : memory.Writer). (u.from < length (circuit_of d).signals) × (u.we < length (circuit_of d).signals))
writer_fits d width part (Some w) (Some e) h = let z = signals_length d in let l = h.0.there in let k = h.1.there in (omega arith, omega arith)
writer_fits d width part None None h = tt
writer_fits d width part (Some w) None h = absurd h
writer_fits d width part None (Some e) h = absurd h

domain_there : (n m : ℕ) (o : Option ℕ) → m ≡ n → IsSomeAnd o (λ k. k < n) → IsSomeAnd o (λ k. k < m)
domain_there n m o e h = subst (λ z. IsSomeAnd o (λ k. k < z)) (sym e) h

domain_fits : (d : Design) (m : PortMode) (we : Option SigId) (o : Option ℕ) → HasDomain (length d.domains) (is_clocked m we) o → keeps_some (mode_of m) ≡ true → IsSomeAnd o (λ k. k < length (circuit_of d).domains)
domain_fits d mode.Async we o h e = absurd cc
domain_fits d mode.WriteFirst we o h e = domain_there (length d.domains) (length (circuit_of d).domains) o (domains_length d) h
domain_fits d mode.ReadFirst we o h e = domain_there (length d.domains) (length (circuit_of d).domains) o (domains_length d) h
domain_fits d mode.NoChange we o h e = domain_there (length d.domains) (length (circuit_of d).domains) o (domains_length d) h

port_fits : (d : Design) (q : Port) → Keeps d → IsPort d q → PortFits (circuit_of d) (port_of q)
port_fits d q k h = record {
  adr = (let z = signals_length d in let l = h.adr.there in omega arith);
  plain = h.adr.plain;
  word = word_some d q.memory k;
  reader = reader_fits d (memory_at d q.memory).width q.dat_r h.dat_r;
  writer = writer_fits d (memory_at d q.memory).width q.part q.dat_w q.we h.writer;
  domain = domain_fits d q.mode q.we q.domain h.domain;
}

ports_fit : (d : Design) (qs : List Port) (j : ℕ) → Keeps d → EachOf (IsPort d) qs → j < length (map port_of qs) → PortFits (circuit_of d) (slice_index_or (map port_of qs) j no_port)
ports_fit d [] j k h l = absurd (omega arith)
ports_fit d (q ∷ qs) zero k h l = port_fits d q k h.0
ports_fit d (q ∷ qs) (suc j) k h l = ports_fit d qs j k h.1 (omega arith)

-- ---- the design

pub can_lower_ports : (d : Design) → Keeps d → ShowAlone (circuit_of d) → CanLowerPorts (circuit_of d)
unfolding circuit_of
can_lower_ports d k alone =
    let c = circuit_of d in
    let can = can_be_lowered d k in
    let long = signals_length d in
    record {
      signals = can.signals;
      small = can.small;
      comb = λ x e. block_below (shapes d) (length c.signals) x c.comb can.comb e;
      domains = each_below d c.domains can.domains;
      resets = λ x e. (let l = resets_there d x 0 d.domains k.domains e in omega arith);
      ios = λ x e. (let l = ios_there (length d.signals) x d.ios k.ios e in omega arith);
      ports = λ j l. ports_fit d d.ports j k k.ports l;
      alone = alone;
    }
