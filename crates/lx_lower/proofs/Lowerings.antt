-- The design of lists by signals is a lowering of the design.
use Rattle.std.proofs.Common.{◌≡◌, ℕ, zero, suc, ◌+◌, ◌<◌, ◌≤◌, Bool, true, false, cond, nat_eq, List, [], ◌∷◌, ◌++◌, length, map, refl, sym, ap, ◌∙◌, subst, arith, eq-eqb, ne_eqb}
use Rattle.std.specs.Prelude.{Option, Some, None, IfSome}
use Rattle.std.proofs.lemmas.List.{append-nil}
use Rattle.lx_circuit.specs.Circuit as circuit
use Rattle.lx_circuit.specs.Statements.{Block}
use Rattle.lx_fhdl.specs.Below.{StmtId}
use Rattle.lx_fhdl.specs.Designs as design
use Rattle.lx_fhdl.specs.Designs.{circuit_of, made_of, memory_of, port_of, shapes, stmts_of, domain_of, domains_from}
use Rattle.lx_fhdl.specs.Drafts.{DraftKeeps}
use Rattle.lx_fhdl.specs.Keeping.{EachOf, IsAddress, IsDomain, IsPort, IsReset, IsUnsigned, PartStands, Keeps, WriterStands, block_depth}
use Rattle.lx_fhdl.specs.Lowered.{ArePlain, IsLowered}
use Rattle.lx_fhdl.specs.declared.exprs.Expr.{Expr}
use Rattle.lx_fhdl.specs.declared.exprs.SigId.{SigId}
use Rattle.lx_fhdl.specs.declared.design.Design.{Design}
use Rattle.lx_fhdl.specs.declared.design.Domain.{Domain}
use Rattle.lx_fhdl.specs.declared.design.Memory.{Memory}
use Rattle.lx_fhdl.specs.declared.design.Port.{Port}
use Rattle.lx_fhdl.specs.declared.design.Signal.{Signal}
use Rattle.lx_fhdl.specs.declared.design.SyncPart.{SyncPart}
use Rattle.lx_fhdl.specs.declared.stmts.Stmt.{Stmt}
use Rattle.lx_fhdl.specs.declared.stmts.Target.{Target}
use Rattle.lx_lowering.specs.Lowering.{Lowers, lowered, lowered_comb, lowered_sync, lowered_domain}
use Rattle.lx_lowering.proofs.FlatShape.{flat_block_depth}
use Rattle.lx_lowering.proofs.Law.{lowering}
use Rattle.lx_lowering.proofs.ListFacts.{lists_plain}
use Rattle.lx_lowering.proofs.Lowering.{sync_depth, comb_depth}
use Rattle.lx_lowering.proofs.Appends.{depth_append}
use Rattle.lx_plain.specs.Lines.{lines, lines_at}
use Rattle.lx_lower.specs.Lists.{AreParts, AreThere, ListPut, PartsPut, folded_lines_of, folded_of, lists_of, part_at, split_of, sync_lines, sync_lists}
use Rattle.lx_lower.specs.Lowers.{IsLoweringOf}
use Rattle.lx_plain.specs.Plain as plain
use Rattle.lx_lower.proofs.BySignal.{split_is_alone, sync_there}
use Rattle.lx_lower.proofs.FromKeeps.{can_be_lowered}
use Rattle.lx_lower.proofs.Listing.{there_kept}
use Rattle.lx_plain.proofs.Puts.{as_many, block_append, block_kept, lines_kept}

-- what lowering made: arenas, and lists of statements in them
record Lists : Type 0 where
  exprs : List Expr
  targets : List Target
  stmts : List Stmt
  comb : List StmtId
  sync : List SyncPart

-- the lowered design
abbrev made : Design → Lists → Design
made d w = record {
  exprs = w.exprs;
  targets = w.targets;
  stmts = w.stmts;
  signals = d.signals;
  comb = w.comb;
  sync = w.sync;
  domains = d.domains;
  memories = d.memories;
  ports = d.ports;
  ios = d.ios;
}

record AreMade (d : Design) (w : Lists) : Type 0 where
  keeps : DraftKeeps (made d w)
  plain : plain.ArePlain (made d w)
  there : AreThere (made d w) w.comb
  comb : design.block (made d w) w.comb ≡ folded_of d d.comb
  comb_lines : (x : ℕ) → x < length d.signals → lines (made d w) x w.comb ≡ folded_lines_of d d.comb x
  sync : AreParts (made d w) (length d.domains) w.sync (sync_lists d) (sync_lines d)

-- ---- the statements of a domain are those of its part

abbrev FromPlace : ℕ → List SyncPart → Type 0
FromPlace n parts = (j : ℕ) → j < length parts → (part_at parts j).domain ≡ n + j

from_next : (n : ℕ) (p : SyncPart) (ps : List SyncPart) → FromPlace n (p ∷ ps) → FromPlace (n + 1) ps
from_next n p ps h j l = h (suc j) (omega arith) ∙ omega arith

no_part : (n k : ℕ) (parts : List SyncPart) → FromPlace n parts → k < n → stmts_of k parts ≡ []
no_part n k [] h l = refl
no_part n k (p ∷ ps) h l =
    let other : nat_eq p.domain k ≡ false = ne_eqb p.domain k (λ e. omega (arith, h 0 (omega arith))) in
    ap (λ b. cond b (p.stmts ++ stmts_of k ps) (stmts_of k ps)) other ∙ no_part (n + 1) k ps (from_next n p ps h) (omega arith)

one_part : (n j k : ℕ) (parts : List SyncPart) → FromPlace n parts → j < length parts → k ≡ n + j → stmts_of k parts ≡ (part_at parts j).stmts
one_part n j k [] h l e = absurd (omega arith)
one_part n zero k (p ∷ ps) h l e =
    let own : nat_eq p.domain k ≡ true = eq-eqb p.domain k (omega (arith, h 0 (omega arith))) in
    ap (λ b. cond b (p.stmts ++ stmts_of k ps) (stmts_of k ps)) own
    ∙ ap (λ (is : List StmtId). p.stmts ++ is) (no_part (n + 1) k ps (from_next n p ps h) (omega arith))
    ∙ append-nil p.stmts
one_part n (suc j) k (p ∷ ps) h l e =
    let other : nat_eq p.domain k ≡ false = ne_eqb p.domain k (λ f. omega (arith, h 0 (omega arith))) in
    ap (λ b. cond b (p.stmts ++ stmts_of k ps) (stmts_of k ps)) other ∙ one_part (n + 1) j k ps (from_next n p ps h) (omega arith) (omega arith)

-- ---- the circuit

lists_are : (d : Design) (ids : List StmtId) → lists_of d ids ≡ lowered_sync (circuit_of d) (design.block d ids)
unfolding circuit_of
lists_are d ids = refl

comb_is : (d : Design) (w : Lists) → AreMade d w → design.block (made d w) w.comb ≡ lowered_comb (circuit_of d)
unfolding circuit_of
comb_is d w h = h.comb

-- the statements of the domain at a place
sync_is : (d : Design) (w : Lists) (k : ℕ) → AreMade d w → k < length d.domains → design.block (made d w) (stmts_of k w.sync) ≡ lowered_sync (circuit_of d) (design.block d (stmts_of k d.sync))
sync_is d w k h l =
    ap (λ (is : List StmtId). design.block (made d w) is) (one_part 0 k k w.sync (λ j i. h.sync.domain j (omega (arith, h.sync.long)) ∙ omega arith) (omega (arith, h.sync.long)) (omega arith))
    ∙ h.sync.blocks k l
    ∙ lists_are d (stmts_of k d.sync)

domains_are : (d : Design) (w : Lists) (k : ℕ) (ds : List Domain) → AreMade d w → k + length ds ≤ length d.domains → domains_from (made d w) k ds ≡ map (lowered_domain (circuit_of d)) (domains_from d k ds)
domains_are d w k [] h l = refl
domains_are d w k (x ∷ xs) h l =
    let own = domain_of d k x in
    ap (λ (b : Block). let y : circuit.Domain = record { name = own.name; reset = own.reset; stmts = b } in y ∷ domains_from (made d w) (k + 1) xs) (sync_is d w k h (omega arith))
    ∙ ap (λ (ys : List circuit.Domain). lowered_domain (circuit_of d) own ∷ ys) (domains_are d w (k + 1) xs h (omega arith))

circuit_is : (d : Design) (w : Lists) → AreMade d w → circuit_of (made d w) ≡ lowered (circuit_of d)
unfolding circuit_of lowered
circuit_is d w h =
    let ms = map made_of d.signals in
    let memories = map memory_of d.memories in
    let ports = map port_of d.ports in
    let ios = map design.signal_number d.ios in
    ap (λ (b : Block). let c : circuit.Circuit = record { signals = ms; comb = b; domains = domains_from (made d w) 0 d.domains; memories = memories; ports = ports; ios = ios } in c) (comb_is d w h)
    ∙ ap (λ (ds : List circuit.Domain). let c : circuit.Circuit = record { signals = ms; comb = lowered_comb (circuit_of d); domains = ds; memories = memories; ports = ports; ios = ios } in c) (domains_are d w 0 d.domains h (omega arith))

lowers : (d : Design) (w : Lists) → Keeps d → AreMade d w → Lowers (circuit_of d) (circuit_of (made d w))
lowers d w keep h = subst (Lowers (circuit_of d)) (sym (circuit_is d w h)) (lowering (circuit_of d) (can_be_lowered d keep))

-- ---- depths

comb_deep : (d : Design) (w : Lists) → Keeps d → AreMade d w → block_depth (design.block (made d w) w.comb) ≤ 128
unfolding circuit_of
comb_deep d w keep h =
    subst (λ (b : Block). block_depth b ≤ 128) (sym (comb_is d w h))
    (omega (arith, comb_depth (circuit_of d), flat_block_depth (shapes d) (design.block d d.comb), keep.comb.depth))

stmts_deep : (d : Design) (k : ℕ) (ps : List SyncPart) → EachOf (PartStands d) ps → block_depth (design.block d (stmts_of k ps)) ≤ 128
stmts_deep d k [] h = omega arith
stmts_deep d k (p ∷ ps) h = by_domain (nat_eq p.domain k) (stmts_deep d k ps h.1)
  where
    by_domain : (b : Bool) → block_depth (design.block d (stmts_of k ps)) ≤ 128 → block_depth (design.block d (cond b (p.stmts ++ stmts_of k ps) (stmts_of k ps))) ≤ 128
    by_domain true later =
        subst (λ (b : Block). block_depth b ≤ 128) (sym (block_append (design.stmt d) p.stmts (stmts_of k ps)))
        (omega (arith, depth_append (design.block d p.stmts) (design.block d (stmts_of k ps)), h.0.stmts.depth))
    by_domain false later = later

sync_deep : (d : Design) (w : Lists) (k : ℕ) → Keeps d → AreMade d w → k < length d.domains → block_depth (design.block (made d w) (part_at w.sync k).stmts) ≤ 128
sync_deep d w k keep h l =
    let b = design.block d (stmts_of k d.sync) in
    subst (λ (c : Block). block_depth c ≤ 128) (sym (h.sync.blocks k l ∙ lists_are d (stmts_of k d.sync)))
    (omega (arith, sync_depth (circuit_of d) b, flat_block_depth (shapes d) b, stmts_deep d k d.sync keep.sync))

-- ---- parts

each_of_parts : (P : SyncPart → Type 0) (parts : List SyncPart) → ((k : ℕ) → k < length parts → P (part_at parts k)) → EachOf P parts
each_of_parts P [] h = tt
each_of_parts P (p ∷ ps) h = (h 0 (omega arith), each_of_parts P ps (λ k l. h (suc k) (omega arith)))

parts_stand : (d : Design) (w : Lists) → Keeps d → AreMade d w → EachOf (PartStands (made d w)) w.sync
parts_stand d w keep h =
    each_of_parts (PartStands (made d w)) w.sync
    (λ k l. let i : k < length d.domains = omega (arith, h.sync.long) in record {
      domain = omega (arith, h.sync.domain k i);
      stmts = record { there = h.sync.there k i; depth = sync_deep d w k keep h i };
    })

sync_plain : (d : Design) (k : ℕ) → Keeps d → ArePlain (sync_lists d k)
sync_plain d k keep =
    let ids = stmts_of k d.sync in
    lists_plain (split_of d ids) (map made_of d.signals) (record { each = split_is_alone d ids keep (sync_there d k ids keep refl) })

parts_plain : (d : Design) (w : Lists) → Keeps d → AreMade d w → EachOf (λ (p : SyncPart). ArePlain (design.block (made d w) p.stmts)) w.sync
parts_plain d w keep h =
    each_of_parts (λ (p : SyncPart). ArePlain (design.block (made d w) p.stmts)) w.sync
    (λ k l. subst ArePlain (sym (h.sync.blocks k (omega (arith, h.sync.long)))) (sync_plain d k keep))

-- ---- what the lowered design keeps

domains_stand : (d : Design) (w : Lists) (ds : List Domain) → Keeps d → AreMade d w → EachOf (IsDomain d) ds → EachOf (IsDomain (made d w)) ds
domains_stand d w [] keep m h = tt
domains_stand d w (x ∷ xs) keep m h = (record { name = h.0.name; reset = by_reset x.reset h.0.reset }, domains_stand d w xs keep m h.1)
  where
    by_reset : (o : Option SigId) → IfSome o (IsReset d x) → IfSome o (IsReset (made d w) x)
    by_reset None r = tt
    by_reset (Some s) r = record { path = r.path; input = sym ((lowers d w keep m).roles s.0) ∙ r.input }

unsigned_stands : (d : Design) (w : Lists) (n : ℕ) (x : SigId) → IsUnsigned d n x → IsUnsigned (made d w) n x
unfolding circuit_of
unsigned_stands d w n x h = record { there = h.there; shape = h.shape }

address_stands : (d : Design) (w : Lists) (n : ℕ) (x : SigId) → IsAddress d n x → IsAddress (made d w) n x
unfolding circuit_of
address_stands d w n x h = record { there = h.there; plain = h.plain; fewest = h.fewest }

reader_stands : (d : Design) (w : Lists) (n : ℕ) (o : Option SigId) → IfSome o (IsUnsigned d n) → IfSome o (IsUnsigned (made d w) n)
reader_stands d w n None h = tt
reader_stands d w n (Some x) h = unsigned_stands d w n x h

writer_stands : (d : Design) (w : Lists) (n part : ℕ) (dat_w we : Option SigId) → WriterStands d n part dat_w we → WriterStands (made d w) n part dat_w we
writer_stands d w n part None None h = tt
writer_stands d w n part None (Some y) h = h
writer_stands d w n part (Some x) None h = h
writer_stands d w n part (Some x) (Some y) h = (unsigned_stands d w _ x h.0, unsigned_stands d w _ y h.1)

ports_stand : (d : Design) (w : Lists) (qs : List Port) → EachOf (IsPort d) qs → EachOf (IsPort (made d w)) qs
unfolding circuit_of
ports_stand d w [] h = tt
ports_stand d w (q ∷ qs) h =
    let p = h.0 in (
      record {
        memory = p.memory;
        domain = p.domain;
        adr = address_stands d w _ q.adr p.adr;
        dat_r = reader_stands d w _ q.dat_r p.dat_r;
        writer = writer_stands d w _ q.part q.dat_w q.we p.writer;
        part_some = p.part_some;
        parts = p.parts;
      },
      ports_stand d w qs h.1,
    )

keeps_made : (d : Design) (w : Lists) → Keeps d → AreMade d w → Keeps (made d w)
keeps_made d w keep h = record {
  arenas = h.keeps.arenas;
  signals = keep.signals;
  memories = keep.memories;
  ports = ports_stand d w d.ports keep.ports;
  comb = record { there = h.there; depth = comb_deep d w keep h };
  sync = parts_stand d w keep h;
  domains = domains_stand d w d.domains keep h keep.domains;
  domains_most = keep.domains_most;
  domains_distinct = keep.domains_distinct;
  ios = keep.ios;
}

is_lowered : (d : Design) (w : Lists) → Keeps d → AreMade d w → IsLowered (made d w)
unfolding circuit_of
is_lowered d w keep h = record {
  exprs = h.plain;
  comb = (lowers d w keep h).comb;
  sync = parts_plain d w keep h;
}

made_is : (d : Design) (w : Lists) → Keeps d → AreMade d w → IsLoweringOf d (made d w)
made_is d w keep h = record {
  keeps = keeps_made d w keep h;
  lowered = is_lowered d w keep h;
  signals = refl;
  memories = refl;
  domains = refl;
  ports = refl;
  ios = refl;
  circuit = circuit_is d w h;
  lowers = lowers d w keep h;
  lines = record {
    comb = h.comb_lines;
    sync = λ x k l m.
        ap (lines (made d w) x) (one_part 0 k k w.sync (λ j i. h.sync.domain j (omega (arith, h.sync.long)) ∙ omega arith) (omega (arith, h.sync.long)) (omega arith))
        ∙ h.sync.lines k x m l;
  };
}

-- ---- the draft that was finished

-- what is known of it
pub record IsFinished (d x : Design) (comb : List StmtId) (sync : List SyncPart) : Type 0 where
  pub keeps : DraftKeeps x
  pub plain : plain.ArePlain x
  pub there : AreThere x comb
  pub block : design.block x comb ≡ folded_of d d.comb
  pub lines : (s : ℕ) → s < length x.signals → lines x s comb ≡ folded_lines_of d d.comb s
  pub parts : AreParts x (length d.domains) sync (sync_lists d) (sync_lines d)

finished_is : (d x : Design) (comb : List StmtId) (sync : List SyncPart) → Keeps d → IsFinished d (record x { signals = d.signals; memories = d.memories }) comb sync
    → IsLoweringOf d (record x { signals = d.signals; memories = d.memories; comb = comb; sync = sync; domains = d.domains; ports = d.ports; ios = d.ios })
unfolding circuit_of lines_at
finished_is d x comb sync keep h =
    let w : Lists = record { exprs = x.exprs; targets = x.targets; stmts = x.stmts; comb = comb; sync = sync } in
    made_is d w keep (record {
      keeps = record { arenas = h.keeps.arenas; signals = h.keeps.signals; memories = h.keeps.memories };
      plain = h.plain;
      there = h.there;
      comb = h.block;
      comb_lines = h.lines;
      sync = record { long = h.parts.long; domain = h.parts.domain; there = h.parts.there; blocks = h.parts.blocks; lines = h.parts.lines };
    })

-- the design of the lists, with copies of the signals, memories, domains and ports
pub is_lowering : (d x : Design) (comb : List StmtId) (sync : List SyncPart) (ds : List Domain) (ports : List Port) (ios : List SigId) → Keeps d → x.signals ≡ d.signals → x.memories ≡ d.memories → IsFinished d x comb sync
    → ds ≡ d.domains → ports ≡ d.ports → ios ≡ d.ios → IsLoweringOf d (record x { comb = comb; sync = sync; domains = ds; ports = ports; ios = ios })
is_lowering d x comb sync ds ports ios keep e f h g i j =
    let same : x ≡ record x { signals = d.signals; memories = d.memories } =
    ap (λ (ss : List Signal). let y : Design = record x { signals = ss } in y) e ∙ ap (λ (ms : List Memory). let y : Design = record x { signals = d.signals; memories = ms } in y) f in
    let own = finished_is d x comb sync keep (subst (λ (y : Design). IsFinished d y comb sync) same h) in
    rw (g, i, j) (subst (λ (y : Design). IsLoweringOf d (record y { comb = comb; sync = sync; domains = d.domains; ports = d.ports; ios = d.ios })) (sym same) own)

-- the draft after its lists were put
pub finished_as : (d x y z : Design) (comb : List StmtId) (sync : List SyncPart) → DraftKeeps z → plain.ArePlain z → ListPut x y comb (folded_of d d.comb) (folded_lines_of d d.comb) → PartsPut d y z (length d.domains) sync → IsFinished d z comb sync
finished_as d x y z comb sync keeps plain p q = record {
  keeps = keeps;
  plain = plain;
  there = there_kept comb q.grows p.there;
  block = block_kept comb q.grows p.there ∙ p.block;
  lines = λ s l. lines_kept s comb q.grows p.there ∙ p.lines s (omega (arith, as_many q.grows, l));
  parts = q.are;
}
