-- Lists of statements, and the signals of a design.
use Rattle.std.proofs.Common.{◌≡◌, ℕ, zero, suc, ◌-◌, ◌<◌, true, List, [], ◌∷◌, Some, length, get_or, map, ap, nat_lt, arith}
use Rattle.std.specs.Prelude.{slice_get, slice_index_or}
use Rattle.std.proofs.lemmas.Bool.{ltb-true, and_parts}
use Rattle.lx_circuit.specs.Circuit.{nothing}
use Rattle.lx_fhdl.specs.Below.{StmtId, all_stmts_below}
use Rattle.lx_fhdl.specs.Designs.{stmt, block, made_of, circuit_of}
use Rattle.lx_fhdl.specs.Lowered.{IsPlain, ArePlain}
use Rattle.lx_fhdl.specs.declared.design.Signal.{Signal}
use Rattle.lx_fhdl.specs.declared.design.Design.{Design}
use Rattle.lx_circuit.specs.Circuit as circuit

pub there_at : (n : ℕ) (ids : List StmtId) (k : ℕ) (other : StmtId) → all_stmts_below n ids ≡ true → k < length ids → (get_or ids k other).place < n
there_at n [] k other h l = absurd (omega arith)
there_at n (i ∷ is) zero other h l = ltb-true i.place n (and_parts (nat_lt i.place n) (all_stmts_below n is) h).0
there_at n (i ∷ is) (suc k) other h l = there_at n is k other (and_parts (nat_lt i.place n) (all_stmts_below n is) h).1 (omega arith)

pub plain_at : (d : Design) (ids : List StmtId) (k : ℕ) (other : StmtId) → ArePlain (block d ids) → k < length ids → IsPlain (stmt d (get_or ids k other).place)
plain_at d [] k other h l = absurd (omega arith)
plain_at d (i ∷ is) zero other h l = h.0
plain_at d (i ∷ is) (suc k) other h l = plain_at d is k other h.1 (omega arith)

made_in : (xs : List Signal) (k : ℕ) (s : Signal) → slice_get xs k ≡ Some s → slice_index_or (map made_of xs) k nothing ≡ made_of s
made_in [] k s e = absurd (cc)
made_in (x ∷ xs) zero s e = let same : x ≡ s = cc in ap made_of same
made_in (x ∷ xs) (suc k) s e = made_in xs k s e

pub made_is : (d : Design) (k : ℕ) (s : Signal) → slice_get d.signals k ≡ Some s → circuit.made (circuit_of d) k ≡ made_of s
unfolding circuit_of
made_is d k s e = made_in d.signals k s e
