-- What the role of a signal says of the ports of memories, and of inputs.
use Rattle.std.proofs.Common.{◌≡◌, ℕ, ◌+◌, Bool, true, false, ◌||◌, cond, List, [], ◌∷◌, None, refl, sym, ap, ◌∙◌}
use Rattle.lx_circuit.specs.Memories.{Port}
use Rattle.lx_circuit.specs.Statements.{drives_block}
use Rattle.lx_circuit.specs.Circuit.{Circuit, Domain, Role, Input, Comb, Sync, Read, Undriven, made, is_among, is_some_reset, is_named, sync_role, read_role, idle_role, role}
use Rattle.lx_fhdl.specs.Keeping.{EachOf}

abbrev pub is_read : Role → Bool
is_read Input = false
is_read Comb = false
is_read (Sync d) = false
is_read (Read j) = true
is_read Undriven = false

-- a role that no port gives
pub read_other : (x k : ℕ) (qs : List Port) (other r : Role) → is_read r ≡ false → read_role x k qs other ≡ r → other ≡ r
read_other x k [] other r n e = e
read_other x k (q ∷ qs) other r n e = by (is_named x q.reader) e (λ t. read_other x (k + 1) qs other r n t)
  where
    by : (b : Bool) → cond b (Read k) (read_role x (k + 1) qs other) ≡ r → (read_role x (k + 1) qs other ≡ r → other ≡ r) → other ≡ r
    by true t rest = let same : true ≡ is_read r = ap is_read t in absurd cc
    by false t rest = rest t

choice_not_sync : (a b : Bool) (k : ℕ) → cond a Undriven (cond b Input Undriven) ≡ Sync k → ⊥
choice_not_sync true b k e = cc
choice_not_sync false true k e = cc
choice_not_sync false false k e = cc

-- an idle signal is not registered
pub idle_not_sync : (c : Circuit) (x k : ℕ) → idle_role c x ≡ Sync k → ⊥
idle_not_sync c x k e = choice_not_sync (made c x).given (is_among x c.ios || is_some_reset x c.domains) k e

choice_input : (a b : Bool) → cond a Undriven (cond b Input Undriven) ≡ Input → b ≡ true
choice_input true b e = absurd cc
choice_input false true e = refl
choice_input false false e = absurd cc

-- an idle input is a port of the circuit, or a reset
pub idle_input : (c : Circuit) (x : ℕ) → idle_role c x ≡ Input → (is_among x c.ios || is_some_reset x c.domains) ≡ true
idle_input c x e = choice_input (made c x).given (is_among x c.ios || is_some_reset x c.domains) e

-- ---- no port reads

choice_not_read : (a b : Bool) (j : ℕ) → cond a Undriven (cond b Input Undriven) ≡ Read j → ⊥
choice_not_read true b j e = cc
choice_not_read false true j e = cc
choice_not_read false false j e = cc

pub none_read : (x k : ℕ) (qs : List Port) (other : Role) → EachOf (λ (q : Port). q.reader ≡ None) qs → read_role x k qs other ≡ other
none_read x k [] other h = refl
none_read x k (q ∷ qs) other h = ap (λ o. cond (is_named x o) (Read k) (read_role x (k + 1) qs other)) h.0 ∙ none_read x (k + 1) qs other h.1

sync_read : (x k j : ℕ) (ds : List Domain) (other : Role) → sync_role x k ds other ≡ Read j → other ≡ Read j
sync_read x k j [] other e = e
sync_read x k j (y ∷ ys) other e = by (drives_block x y.stmts) e (λ t. sync_read x (k + 1) j ys other t)
  where
    by : (b : Bool) → cond b (Sync k) (sync_role x (k + 1) ys other) ≡ Read j → (sync_role x (k + 1) ys other ≡ Read j → other ≡ Read j) → other ≡ Read j
    by true t rest = absurd cc
    by false t rest = rest t

-- where no port reads, no signal is what a port shows
pub no_reads : (c : Circuit) → EachOf (λ (q : Port). q.reader ≡ None) c.ports → (x j : ℕ) → role c x ≡ Read j → ⊥
no_reads c h x j e =
    choice_not_read (made c x).given (is_among x c.ios || is_some_reset x c.domains) j
    (sym (none_read x 0 c.ports (idle_role c x) h) ∙ sync_read x 0 j c.domains (read_role x 0 c.ports (idle_role c x)) (by (drives_block x c.comb) e))
  where
    by : (b : Bool) → cond b Comb (sync_role x 0 c.domains (read_role x 0 c.ports (idle_role c x))) ≡ Read j → sync_role x 0 c.domains (read_role x 0 c.ports (idle_role c x)) ≡ Read j
    by true t = absurd cc
    by false t = t
