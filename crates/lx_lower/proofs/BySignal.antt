-- What a design's statements assign to each signal is for this signal alone.
use Rattle.std.proofs.Common.{◌≡◌, ℕ, ◌≤◌, true, List, [], ◌∷◌, length, refl, sym, subst, arith, nat_lt}
use Rattle.std.proofs.lemmas.Bool.{and_from, and_parts, lt-ltb, ltb-true}
use Rattle.lx_circuit.specs.Statements.{Block}
use Rattle.lx_fhdl.specs.Below.{StmtId, all_stmts_below}
use Rattle.lx_fhdl.specs.Designs as design
use Rattle.lx_fhdl.specs.Designs.{shapes, stmts_of}
use Rattle.lx_fhdl.specs.Keeping.{Keeps}
use Rattle.lx_fhdl.specs.Lowered.{are_for}
use Rattle.lx_fhdl.specs.declared.design.Design.{Design}
use Rattle.lx_fhdl.proofs.Designs.{signal_small}
use Rattle.lx_lowering.proofs.Law.{flat_laws}
use Rattle.lx_lowering.proofs.SplitFacts.{is_flat_block, split_for}
use Rattle.lx_plain.specs.Lines.{Assigned}
use Rattle.lx_lower.specs.Lists.{AreForSignals, AreThere, ListsPut, split_of}
use Rattle.lx_flat.specs.Puts.{flat_of}
use Rattle.lx_flat.specs.Ready.{LowerStmts}
use Rattle.lx_lower.proofs.FromKeeps.{design_block, sync_below}

-- statements that are lower than some are there
below_all : (n m : ℕ) (ids : List StmtId) → n ≤ m → all_stmts_below n ids ≡ true → all_stmts_below m ids ≡ true
below_all n m [] l h = refl
below_all n m (i ∷ is) l h =
    let p = and_parts (nat_lt i.place n) (all_stmts_below n is) h in
    let q = ltb-true i.place n p.0 in
    and_from (nat_lt i.place m) (all_stmts_below m is) (lt-ltb i.place m (omega arith)) (below_all n m is l p.1)

pub lower_there : (d : Design) (bound : ℕ) (ids : List StmtId) → LowerStmts d bound ids → AreThere d ids
lower_there d bound ids h = search (below_all bound (length d.stmts) ids h.within (search h.below))

-- and statements that are there are lower than their number
pub all_there : (d : Design) (ids : List StmtId) → AreThere d ids → LowerStmts d (length d.stmts) ids
all_there d ids h = record { within = omega arith; below = h }

-- flat statements are flat
pub flat_is_flat : (d : Design) (ids : List StmtId) → Keeps d → AreThere d ids → is_flat_block (flat_of d ids) ≡ true
flat_is_flat d ids keep there = (flat_laws (shapes d) (length d.signals) (λ x l. signal_small d keep x)).flat (design.block d ids) (design_block d ids keep (search there))

pub split_is_alone : (d : Design) (ids : List StmtId) → Keeps d → AreThere d ids → (x : ℕ) → are_for x (split_of d ids x) ≡ true
split_is_alone d ids keep there x = split_for x (flat_of d ids) (flat_is_flat d ids keep there)

pub comb_there : (d : Design) → Keeps d → AreThere d d.comb
comb_there d keep = keep.comb.there

pub sync_there : (d : Design) (k : ℕ) (ids : List StmtId) → Keeps d → ids ≡ stmts_of k d.sync → AreThere d ids
sync_there d k ids keep e = subst (AreThere d) (sym e) (search (sync_below d k d.sync keep.sync))

pub for_signals : (x y : Design) (lists : List (List StmtId)) (f : ℕ → Block) (ls : ℕ → List Assigned) → ListsPut x y (length y.signals) lists f ls → AreForSignals y lists
for_signals x y lists f ls h = record { long = h.long; there = h.there; alone = h.alone }
