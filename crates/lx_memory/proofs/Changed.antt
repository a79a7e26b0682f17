-- One item of a list changed: a domain with further statements, and a port that shows nothing.
use Rattle.std.proofs.Common.{◌≡◌, ℕ, zero, suc, ◌+◌, ◌<◌, ◌≤◌, ◌||◌, Bool, true, false, List, [], ◌∷◌, ◌++◌, length, refl, sym, ap, ◌∙◌, arith, nat_eq, cond, eq-eqb}
use Rattle.std.specs.Prelude.{slice_index_or}
use Rattle.std.proofs.Math.Bool.{or-false}
use Rattle.lx_circuit.specs.Circuit.{Domain, Role, Sync, Read, is_named, is_some_reset, no_port, read_role, sync_role}
use Rattle.lx_circuit.specs.Memories.{Port}
use Rattle.lx_circuit.specs.Statements.{Block, drives_block}
use Rattle.lx_lowering.specs.Flat.{append}
use Rattle.lx_lowering.proofs.Appends.{drives_append}
use Rattle.lx_memory.specs.Ports.{changed, silent, with_stmts}

-- ---- items

pub changed_here : {A : Type 0} (f : A → A) (k : ℕ) (xs : List A) (d : A) → k < length xs → slice_index_or (changed f k xs) k d ≡ f (slice_index_or xs k d)
changed_here f k [] d h = absurd (omega arith)
changed_here f zero (x ∷ xs) d h = refl
changed_here f (suc k) (x ∷ xs) d h = changed_here f k xs d (omega arith)

changed_apart : {A : Type 0} (f : A → A) (k i : ℕ) (xs : List A) (d : A) → (k ≡ i → ⊥) → slice_index_or (changed f k xs) i d ≡ slice_index_or xs i d
changed_apart f k i [] d e = refl
changed_apart f zero zero (x ∷ xs) d e = absurd (e refl)
changed_apart f zero (suc i) (x ∷ xs) d e = refl
changed_apart f (suc k) zero (x ∷ xs) d e = refl
changed_apart f (suc k) (suc i) (x ∷ xs) d e = changed_apart f k i xs d (λ s. e (ap suc s))

pub changed_there : {A : Type 0} (f : A → A) (k i : ℕ) (xs : List A) (d : A) → nat_eq k i ≡ false → slice_index_or (changed f k xs) i d ≡ slice_index_or xs i d
changed_there f k i xs d e = changed_apart f k i xs d (λ s. let z = eq-eqb k i s in absurd (cc))

pub changed_length : {A : Type 0} (f : A → A) (k : ℕ) (xs : List A) → length (changed f k xs) ≡ length xs
changed_length f k [] = refl
changed_length f zero (x ∷ xs) = refl
changed_length f (suc k) (x ∷ xs) = ap suc (changed_length f k xs)

pub index_before : {A : Type 0} (xs ys : List A) (k : ℕ) (d : A) → k < length xs → slice_index_or (xs ++ ys) k d ≡ slice_index_or xs k d
index_before [] ys k d h = absurd (omega arith)
index_before (x ∷ xs) ys zero d h = refl
index_before (x ∷ xs) ys (suc k) d h = index_before xs ys k d (omega arith)

pub index_last : {A : Type 0} (xs : List A) (y d : A) → slice_index_or (xs ++ y ∷ []) (length xs) d ≡ y
index_last [] y d = refl
index_last (x ∷ xs) y d = index_last xs y d

pub index_past : {A : Type 0} (xs : List A) (k : ℕ) (d : A) → length xs ≤ k → slice_index_or xs k d ≡ d
index_past [] k d h = refl
index_past (x ∷ xs) zero d h = absurd (omega arith)
index_past (x ∷ xs) (suc k) d h = index_past xs k d (omega arith)

-- ---- domains

-- no statement of the domains assigns the signal
abbrev pub none_drives : ℕ → List Domain → Bool
none_drives x [] = true
none_drives x (d ∷ ds) = cond (drives_block x d.stmts) false (none_drives x ds)

pub drives_more : (x : ℕ) (a b : Block) → drives_block x b ≡ false → drives_block x a ≡ drives_block x (append a b)
drives_more x a b e = sym (drives_append x a b ∙ (ap (λ t. drives_block x a || t) e ∙ or-false (drives_block x a)))

-- statements of other signals leave a role as it was
pub sync_changed : (x k n : ℕ) (b : Block) (ds : List Domain) (other : Role) → drives_block x b ≡ false → sync_role x n (changed (with_stmts b) k ds) other ≡ sync_role x n ds other
sync_changed x k n b [] other e = refl
sync_changed x zero n b (d ∷ ds) other e = ap (λ t. cond t (Sync n) (sync_role x (n + 1) ds other)) (sym (drives_more x d.stmts b e))
sync_changed x (suc k) n b (d ∷ ds) other e = ap (λ r. cond (drives_block x d.stmts) (Sync n) r) (sync_changed x k (n + 1) b ds other e)

-- where none assigns the signal, it keeps its other role
pub sync_none : (x n : ℕ) (ds : List Domain) (other : Role) → none_drives x ds ≡ true → sync_role x n ds other ≡ other
sync_none x n [] other e = refl
sync_none x n (d ∷ ds) other e = by_answer (drives_block x d.stmts) (sync_none x (n + 1) ds other) e
  where
    by_answer : (t : Bool) → (none_drives x ds ≡ true → sync_role x (n + 1) ds other ≡ other) → cond t false (none_drives x ds) ≡ true → cond t (Sync n) (sync_role x (n + 1) ds other) ≡ other
    by_answer true more h = absurd cc
    by_answer false more h = more h

-- and with a statement more it is that domain's
pub sync_new : (x k n : ℕ) (b : Block) (ds : List Domain) (other : Role) → drives_block x b ≡ true → none_drives x ds ≡ true → k < length ds → sync_role x n (changed (with_stmts b) k ds) other ≡ Sync (n + k)
sync_new x k n b [] other e h l = absurd (omega arith)
sync_new x zero n b (d ∷ ds) other e h l =
    ap (λ t. cond t (Sync n) (sync_role x (n + 1) ds other)) (drives_append x d.stmts b ∙ (ap (λ t. drives_block x d.stmts || t) e ∙ or_true (drives_block x d.stmts)))
    ∙ (let z : n ≡ n + 0 = omega arith in ap Sync z)
  where
    or_true : (t : Bool) → (t || true) ≡ true
    or_true true = refl
    or_true false = refl
sync_new x (suc k) n b (d ∷ ds) other e h l =
    let less : k < length ds = omega arith in
    by_answer (drives_block x d.stmts) (λ g. sync_new x k (n + 1) b ds other e g less ∙ (let z : n + 1 + k ≡ n + suc k = omega arith in ap Sync z)) h
  where
    by_answer : (t : Bool) → (none_drives x ds ≡ true → sync_role x (n + 1) (changed (with_stmts b) k ds) other ≡ Sync (n + suc k)) → cond t false (none_drives x ds) ≡ true
        → cond t (Sync n) (sync_role x (n + 1) (changed (with_stmts b) k ds) other) ≡ Sync (n + suc k)
    by_answer true more g = absurd cc
    by_answer false more g = more g

pub resets_changed : (x k : ℕ) (b : Block) (ds : List Domain) → is_some_reset x (changed (with_stmts b) k ds) ≡ is_some_reset x ds
resets_changed x k b [] = refl
resets_changed x zero b (d ∷ ds) = refl
resets_changed x (suc k) b (d ∷ ds) = ap (λ t. is_named x d.reset || t) (resets_changed x k b ds)

-- ---- ports

pub read_changed : (x j n : ℕ) (qs : List Port) (other : Role) → is_named x (slice_index_or qs j no_port).reader ≡ false → read_role x n (changed silent j qs) other ≡ read_role x n qs other
read_changed x j n [] other e = refl
read_changed x zero n (q ∷ qs) other e = sym (ap (λ t. cond t (Read n) (read_role x (n + 1) qs other)) e)
read_changed x (suc j) n (q ∷ qs) other e = ap (λ r. cond (is_named x q.reader) (Read n) r) (read_changed x j (n + 1) qs other e)
