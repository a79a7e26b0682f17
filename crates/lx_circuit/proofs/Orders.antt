-- Where no port has a reader, the reads of a circuit are those of its statements.
use Rattle.std.proofs.Common.{◌≡◌, ℕ, Bool, true, false, List, [], ◌∷◌, Option, Some, None, ◌+◌, ◌<◌, ◌||◌, cond, refl, ◌∙◌, ap, inl, inr}
use Rattle.std.proofs.lemmas.Bool.{cond_both, or_cases, or_parts, both_ways}
use Rattle.std.specs.Prelude.{is_some}
use Rattle.lx_circuit.specs.Places.{Place, At}
use Rattle.lx_circuit.specs.Statements.{drives_block}
use Rattle.lx_circuit.specs.Memories.{Port}
use Rattle.lx_circuit.specs.Circuit.{Circuit, Domain, Role, Input, Comb, Sync, Read, Undriven, made, role, sync_role, read_role, idle_role, is_among, is_named, is_some_reset}
use Rattle.lx_circuit.specs.Reads.{HasOrder, reads_block, role_reads, reads_in}

-- some port has a reader
abbrev pub some_reader : List Port → Bool
some_reader [] = false
some_reader (q ∷ qs) = is_some q.reader || some_reader qs

abbrev is_read : Role → Bool
is_read (Read j) = true
is_read _ = false

named_none : (x : ℕ) (o : Option ℕ) → is_some o ≡ false → is_named x o ≡ false
named_none x None e = refl
named_none x (Some r) e = absurd cc

read_role_is : (x k : ℕ) (qs : List Port) (other : Role) → some_reader qs ≡ false → read_role x k qs other ≡ other
read_role_is x k [] other e = refl
read_role_is x k (q ∷ qs) other e =
    let both = or_parts (is_some q.reader) (some_reader qs) e in
    ap (λ b. cond b (Read k) (read_role x (k + 1) qs other)) (named_none x q.reader both.0) ∙ read_role_is x (k + 1) qs other both.1

sync_role_no_read : (x k : ℕ) (ds : List Domain) (other : Role) → is_read other ≡ false → is_read (sync_role x k ds other) ≡ false
sync_role_no_read x k [] other e = e
sync_role_no_read x k (d ∷ ds) other e =
    cond_both (drives_block x d.stmts) (Sync k) (sync_role x (k + 1) ds other) (λ r. is_read r ≡ false) (λ h. refl) (λ h. sync_role_no_read x (k + 1) ds other e)

idle_no_read : (c : Circuit) (x : ℕ) → is_read (idle_role c x) ≡ false
idle_no_read c x =
    let open_ = cond (is_among x c.ios || is_some_reset x c.domains) Input Undriven in
    cond_both (made c x).given Undriven open_ (λ r. is_read r ≡ false) (λ h. refl)
    (λ h. cond_both (is_among x c.ios || is_some_reset x c.domains) Input Undriven (λ r. is_read r ≡ false) (λ k. refl) (λ k. refl))

no_read : (c : Circuit) → some_reader c.ports ≡ false → (x : ℕ) → is_read (role c x) ≡ false
no_read c e x =
    let other = read_role x 0 c.ports (idle_role c x) in
    let idle : is_read other ≡ false = ap is_read (read_role_is x 0 c.ports (idle_role c x) e) ∙ idle_no_read c x in
    cond_both (drives_block x c.comb) Comb (sync_role x 0 c.domains other) (λ r. is_read r ≡ false) (λ h. refl) (λ h. sync_role_no_read x 0 c.domains other idle)

reads_nothing : (c : Circuit) (y : Place) (r : Role) → is_read r ≡ false → role_reads c y r ≡ false
reads_nothing c y Input e = refl
reads_nothing c y Comb e = refl
reads_nothing c y (Sync d) e = refl
reads_nothing c y (Read j) e = absurd cc
reads_nothing c y Undriven e = refl

-- a signal reads what it reads in statements
pub reads_by_statements : (c : Circuit) → some_reader c.ports ≡ false → (x : ℕ) (y : Place) → reads_in c x y ≡ true → reads_block x y c.comb ≡ true
reads_by_statements c e x y r =
    elim (or_cases (reads_block x y c.comb) (role_reads c y (role c x)) r) [
      | inl p ↦ p
      | inr q ↦ absurd (both_ways (role_reads c y (role c x)) (reads_nothing c y (role c x) (no_read c e x)) q)
    ]

-- so an order of the statements' reads is one of all reads
pub order_by_statements : (c : Circuit) → some_reader c.ports ≡ false → (rank : Place → ℕ) → ((x : ℕ) (y : Place) → reads_block x y c.comb ≡ true → rank y < rank (At x)) → HasOrder c
order_by_statements c e rank after = record { rank = rank; after = λ x y r. after x y (reads_by_statements c e x y r) }
