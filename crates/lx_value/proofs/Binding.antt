-- Arguments by name, as a list of names without one that stands twice says of them.
use Rattle.std.proofs.Common.{◌≡◌, ℕ, ◌+◌, ◌≤◌, Bool, true, false, cond, not, ◌||◌, ◌&&◌, List, [], ◌∷◌, ◌++◌, map, nat_lt, nat_eq, length, Some, None, position, refl, sym, ap, subst, ◌∙◌, arith, drop, drop-cons, get_or, add-one, suc, ◌<◌, true≢false}
use Rattle.std.proofs.lemmas.Bool.{and_right, le-ltb, lt-ltb, ne_eqb, or_left, or_right}
use Rattle.std.proofs.lemmas.List.Sums.{sum_by-cons}
use Rattle.std.specs.List.{count_by, list_any, list_all, enumerate_from, position_or_len}
use Rattle.std.specs.Str.{bytes_eq}
use Rattle.lx_value.specs.declared.arguments.Param.{Param}
use Rattle.lx_value.specs.Arguments.{are_names_distinct, arguments, is_known, is_miscounted, is_named, is_wrong_count, places}
use Rattle.lx_value.specs.Seen.{are_new, with_new}
use Rattle.lx_value.proofs.Repeats.{Names, among, new_once, new_times, never_there, once_there, own_name, same_name, some_twice, times, times_cons, turned, with_more}

abbrev pub name_of : Param → List ℕ
name_of p = p.name

abbrev pub names_of : List Param → Names
names_of ps = map name_of ps

-- ---- the name of a parameter among names

counts_turned : (p : Param) (ns : Names) → count_by (is_named p) ns ≡ times p.name ns
counts_turned p [] = refl
counts_turned p (n ∷ ns) =
    sum_by-cons (λ (k : List ℕ). cond (is_named p k) 1 0) n ns
    ∙ ap (λ (b : Bool). cond b 1 0 + count_by (is_named p) ns) (turned n p.name)
    ∙ ap (λ (k : ℕ). cond (bytes_eq p.name n) 1 0 + k) (counts_turned p ns)
    ∙ sym (times_cons p.name n ns)

before_turned : (p : Param) (ns : Names) → position_or_len (bytes_eq p.name) ns ≡ position_or_len (is_named p) ns
before_turned p [] = refl
before_turned p (n ∷ ns) =
    ap (λ (b : Bool). cond (not b) (1 + position_or_len (bytes_eq p.name) ns) 0) (turned p.name n)
    ∙ ap (λ (k : ℕ). cond (not (bytes_eq n p.name)) (1 + k) 0) (before_turned p ns)

pub place_turned : (p : Param) (ns : Names) → position (bytes_eq p.name) ns ≡ position (is_named p) ns
place_turned p ns = ap (λ (k : ℕ). cond (nat_lt k (length ns)) (Some k) None) (before_turned p ns)

pub known_is : (key : List ℕ) (ps : List Param) → among key (names_of ps) ≡ is_known ps key
known_is key [] = refl
known_is key (p ∷ ps) = ap (λ (b : Bool). bytes_eq key p.name || b) (known_is key ps)

-- a further parameter's name
pub known_more : (ps : List Param) (i : ℕ) (p : Param) (known more : Names) → i < length ps → p ≡ get_or ps i p → more ≡ with_new p.name known
    → (key : List ℕ) → (among key more || is_known (drop (i + 1) ps) key) ≡ (among key known || is_known (drop i ps) key)
known_more ps i p known more l is e key =
    ap (λ (ns : Names). among key ns || is_known (drop (i + 1) ps) key) e
    ∙ ap (λ (b : Bool). b || is_known (drop (i + 1) ps) key) (with_more key p.name known)
    ∙ moved (among key known) (bytes_eq key p.name) (is_known (drop (i + 1) ps) key)
    ∙ sym (ap (λ (qs : List Param). among key known || is_known qs key) (drop-cons ps i p l ∙ ap (λ (q : Param). q ∷ drop (suc i) ps) (sym is) ∙ ap (λ (k : ℕ). p ∷ drop k ps) (sym (add-one i))))
  where
    moved : (a b c : Bool) → ((a || b) || c) ≡ (a || (b || c))
    moved true b c = refl
    moved false b c = refl

-- ---- wrong counts

pub miscounted_is : (placed place : ℕ) (keys : Names) (p : Param) → are_new [] keys ≡ true
    → is_miscounted placed keys place p ≡ cond (nat_lt place placed) (among p.name keys) (p.required && not (among p.name keys))
miscounted_is placed place keys p h =
    ap (λ (k : ℕ). nat_lt 1 (cond (nat_lt place placed) 1 0 + k) || (p.required && nat_eq (cond (nat_lt place placed) 1 0 + k) 0)) (counts_turned p keys ∙ new_times keys p.name h)
    ∙ by (nat_lt place placed) p.required (among p.name keys)
  where
    by : (a r b : Bool) → (nat_lt 1 (cond a 1 0 + cond b 1 0) || (r && nat_eq (cond a 1 0 + cond b 1 0) 0)) ≡ cond a b (r && not b)
    by true true true = refl
    by true true false = refl
    by true false true = refl
    by true false false = refl
    by false true true = refl
    by false true false = refl
    by false false true = refl
    by false false false = refl

-- a parameter that a place gives
pub miscounted_before : (placed place : ℕ) (keys : Names) (p : Param) → are_new [] keys ≡ true → place < placed → among p.name keys ≡ is_miscounted placed keys place p
miscounted_before placed place keys p h l = sym (miscounted_is placed place keys p h ∙ ap (λ (b : Bool). cond b (among p.name keys) (p.required && not (among p.name keys))) (lt-ltb place placed l))

-- another
pub miscounted_behind : (placed place : ℕ) (keys : Names) (p : Param) → are_new [] keys ≡ true → placed ≤ place → (p.required && not (among p.name keys)) ≡ is_miscounted placed keys place p
miscounted_behind placed place keys p h l = sym (miscounted_is placed place keys p h ∙ ap (λ (b : Bool). cond b (among p.name keys) (p.required && not (among p.name keys))) (le-ltb place placed l))

twice_wrong : (placed place : ℕ) (keys : Names) (n : List ℕ) → 2 ≤ times n keys → (ps : List Param) → among n (names_of ps) ≡ true → list_any (λ e. is_miscounted placed keys e.0 e.1) (enumerate_from place ps) ≡ true
twice_wrong placed place keys n two [] h = absurd (true≢false (sym h))
twice_wrong placed place keys n two (p ∷ ps) h = by (bytes_eq n p.name) refl h (twice_wrong placed (place + 1) keys n two ps)
  where
    rest : Bool
    rest = list_any (λ e. is_miscounted placed keys e.0 e.1) (enumerate_from (place + 1) ps)

    many : (k : ℕ) → 2 ≤ k → (r : Bool) → (nat_lt 1 k || (r && nat_eq k 0)) ≡ true
    many k l r = ap (λ (b : Bool). b || (r && nat_eq k 0)) (lt-ltb 1 k (omega (arith, l)))

    by : (b : Bool) → bytes_eq n p.name ≡ b → (b || among n (names_of ps)) ≡ true → (among n (names_of ps) ≡ true → rest ≡ true) → (is_miscounted placed keys place p || rest) ≡ true
    by true e f ih =
        let two_of : 2 ≤ count_by (is_named p) keys = subst (λ (k : ℕ). 2 ≤ k) (ap (λ (m : List ℕ). times m keys) (same_name n p.name e) ∙ sym (counts_turned p keys)) two in
        ap (λ (b : Bool). b || rest) (many (arguments placed keys place p) (omega (arith, two_of)) p.required)
    by false e f ih = or_right (is_miscounted placed keys place p) rest (ih f)

any_at : (f : List ℕ → Bool) (n : List ℕ) (ns : Names) → among n ns ≡ true → f n ≡ true → list_any f ns ≡ true
any_at f n [] h t = absurd (true≢false (sym h))
any_at f n (m ∷ ms) h t = by (bytes_eq n m) refl h (any_at f n ms)
  where
    by : (b : Bool) → bytes_eq n m ≡ b → (b || among n ms) ≡ true → (among n ms ≡ true → f n ≡ true → list_any f ms ≡ true) → (f m || list_any f ms) ≡ true
    by true e g ih = ap (λ (b : Bool). b || list_any f ms) (ap f (sym (same_name n m e)) ∙ t)
    by false e g ih = or_right (f m) (list_any f ms) (ih g t)

some_there : (n : List ℕ) (ns : Names) → 2 ≤ times n ns → among n ns ≡ true
some_there n ns two = by (among n ns) refl
  where
    by : (b : Bool) → among n ns ≡ b → b ≡ true
    by true e = refl
    by false e = let none = never_there n ns e in absurd (omega (arith, two, none))

-- a name that is given twice
pub twice_is_wrong : (placed : ℕ) (ps : List Param) (keys : Names) → are_new [] keys ≡ false → is_wrong_count ps placed keys ≡ true
unfolding is_wrong_count
twice_is_wrong placed ps keys h =
    let found = some_twice [] keys h in
    by found.0 found.1 (is_known ps found.0) refl
  where
    many : Bool
    many = nat_lt (places ps) placed

    unknown : Bool
    unknown = list_any (λ key. not (is_known ps key)) keys

    wrong : Bool
    wrong = list_any (λ e. is_miscounted placed keys e.0 e.1) (enumerate_from 0 ps)

    by : (n : List ℕ) → 2 ≤ times n keys → (b : Bool) → is_known ps n ≡ b → ((many || unknown) || wrong) ≡ true
    by n two true e = or_right (many || unknown) wrong (twice_wrong placed 0 keys n two ps (known_is n ps ∙ e))
    by n two false e = or_left (many || unknown) wrong (or_right many unknown (any_at (λ key. not (is_known ps key)) n keys (some_there n keys two) (ap not e)))

-- ---- parameters of one name

abbrev once : Names → Param → Bool
once ns p = nat_eq (times p.name ns) 1

named_times : (p : Param) (ps : List Param) → count_by (λ q. is_named q p.name) ps ≡ times p.name (names_of ps)
named_times p [] = refl
named_times p (q ∷ qs) =
    sum_by-cons (λ (r : Param). cond (is_named r p.name) 1 0) q qs
    ∙ ap (λ (k : ℕ). cond (bytes_eq p.name q.name) 1 0 + k) (named_times p qs)
    ∙ sym (times_cons p.name q.name (names_of qs))

all_once : (all ps : List Param) → list_all (λ p. nat_eq (count_by (λ q. is_named q p.name) all) 1) ps ≡ list_all (once (names_of all)) ps
all_once all [] = refl
all_once all (p ∷ ps) = ap (λ (k : ℕ). nat_eq k 1 && list_all (λ p. nat_eq (count_by (λ q. is_named q p.name) all) 1) ps) (named_times p all) ∙ ap (λ (b : Bool). once (names_of all) p && b) (all_once all ps)

each_once : (all ps : List Param) → are_new [] (names_of all) ≡ true → ((n : List ℕ) → among n (names_of ps) ≡ true → among n (names_of all) ≡ true) → list_all (once (names_of all)) ps ≡ true
each_once all [] h f = refl
each_once all (p ∷ ps) h f =
    let there = f p.name (ap (λ (b : Bool). b || among p.name (names_of ps)) (own_name p.name)) in
    let one : times p.name (names_of all) ≡ 1 = new_times (names_of all) p.name h ∙ ap (λ (b : Bool). cond b 1 0) there in
    ap (λ (k : ℕ). nat_eq k 1 && list_all (once (names_of all)) ps) one ∙ each_once all ps h (λ n g. f n (or_right (bytes_eq n p.name) _ g))

not_once : (all ps : List Param) (n : List ℕ) → 2 ≤ times n (names_of all) → among n (names_of ps) ≡ true → list_all (once (names_of all)) ps ≡ false
not_once all [] n two h = absurd (true≢false (sym h))
not_once all (p ∷ ps) n two h = by (bytes_eq n p.name) refl h (not_once all ps n two)
  where
    two_not_one : (k : ℕ) → 2 ≤ k → nat_eq k 1 ≡ false
    two_not_one k l = ne_eqb k 1 (λ e. omega (arith, e, l))

    by : (b : Bool) → bytes_eq n p.name ≡ b → (b || among n (names_of ps)) ≡ true → (among n (names_of ps) ≡ true → list_all (once (names_of all)) ps ≡ false) → (once (names_of all) p && list_all (once (names_of all)) ps) ≡ false
    by true e f ih = ap (λ (b : Bool). b && list_all (once (names_of all)) ps) (two_not_one (times p.name (names_of all)) (subst (λ (m : List ℕ). 2 ≤ times m (names_of all)) (same_name n p.name e) two))
    by false e f ih = and_right (once (names_of all) p) _ (ih f)

pub distinct_is : (ps : List Param) → are_new [] (names_of ps) ≡ are_names_distinct ps
distinct_is ps = by (are_new [] (names_of ps)) refl ∙ sym (all_once ps ps)
  where
    by : (b : Bool) → are_new [] (names_of ps) ≡ b → b ≡ list_all (once (names_of ps)) ps
    by true e = sym (each_once ps ps e (λ n g. g))
    by false e = let found = some_twice [] (names_of ps) e in sym (not_once ps ps found.0 found.1 (some_there found.0 (names_of ps) found.1))
