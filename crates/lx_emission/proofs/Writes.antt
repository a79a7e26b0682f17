-- What the statements of a port, and those of all ports of a memory, do to the memory's words.
use Rattle.std.proofs.Common.{◌≡◌, ℕ, zero, suc, ℤ, pos, negsuc, ◌+◌, ◌-◌, ◌*◌, ◌/◌, ◌%◌, ◌^◌, ◌<◌, ◌≤◌, Bool, true, false, not, cond, List, [], ◌∷◌, ◌++◌, map, nat_eq, nat_lt, nat_le, refl, sym, ap, subst, ◌∙◌, arith, inl, inr}
use Rattle.std.specs.List.{range_with_len}
use Rattle.std.proofs.lemmas.Bool.{cond-true, cond-false, lt-ltb, le-ltb, leb-false, eq-eqb, ne_eqb, eqb-true, cases_lt, cases_eq, and_parts}
use Rattle.std.proofs.lemmas.List.{map-append}
use Rattle.std.proofs.Math.Nat.{mul-le-mul_right}
use Rattle.std.proofs.lemmas.Nat.{pow_pos}
use Rattle.lx_num.specs.Ints.{modulo, floor_div, field_of, FitsBits}
use Rattle.lx_num.proofs.Ints.{modulo-small, modulo-below}
use Rattle.lx_num.proofs.Ranges.{fits_pos, unsigned_fits}
use Rattle.lx_circuit.specs.Values.{count_of, flag}
use Rattle.lx_circuit.specs.Statements.{laid_over}
use Rattle.lx_circuit.specs.Memories.{laid_parts}
use Rattle.lx_circuit.proofs.Cases.{by_test}
use Rattle.lx_circuit.proofs.Fitting.{laid_over_below}
use Rattle.lx_circuit.proofs.Values.{flag_on}
use Rattle.lx_vtext.specs.declared.operators.BinOp.TheVariants as op
use Rattle.lx_vtext.specs.Tree.{Name, VExpr, Literal, Net, Binary, WholeWord, PartWord, VStmt, When, NoElse}
use Rattle.lx_vmeaning.specs.Meaning as verilog
use Rattle.lx_vmeaning.specs.Meaning.{Declared, Sizes, Valuation, Meaning, meaning, own, assigned, holds, less}
use Rattle.lx_vmeaning.specs.Runs.{set_bits, set_word, write_word, new_words, run_stmt_words, run_block_words}
use Rattle.lx_vmeaning.proofs.Bits.{by_cond}
use Rattle.lx_tie.specs.Stands.{Exact}
use Rattle.lx_tie.specs.Words.{memory}
use Rattle.lx_tie.proofs.Leaves.{exact_leaf, own_exact}
use Rattle.lx_tie.proofs.Parts.{exact_select, field_bits}
use Rattle.lx_tie.proofs.Texts.{exact_compare, amount_is}
use Rattle.lx_emission.specs.Texts.{covers}
use Rattle.lx_emission.specs.Memories.{WriteNames, field_text, word_target, part_text, parts_text, block_of, guarded}
use Rattle.lx_emission.proofs.Setting.{declared}
use Rattle.lx_emission.proofs.Operands.{cut_exact, holds_exact}
use Rattle.lx_emission.proofs.Pieces.{laid_covering}

-- ---- fields of nets

whole_field : (z : ℤ) (n : ℕ) → modulo z (2 ^ n) ≡ modulo z (2 ^ n) / 2 ^ 0 % 2 ^ n
whole_field z n =
    let below = modulo-below z (2 ^ n) (pow_pos n) in
    let one : modulo z (2 ^ n) / 2 ^ 0 ≡ modulo z (2 ^ n) = omega arith in
    sym (ap (λ (i : ℕ). i % 2 ^ n) one ∙ modulo-small (modulo z (2 ^ n)) (2 ^ n) below)

-- bits of a net that has the pattern of a number
pub field_stands : (s : Sizes) (w : Valuation) (n : Name) (bits low len : ℕ) (z : ℤ) → s n ≡ declared bits false → w.nets n ≡ modulo z (2 ^ bits) → 1 ≤ len → low + len ≤ bits
    → Exact w len false (pos (field_of z low len)) (meaning s (field_text n bits low len))
field_stands s w n bits low len z e p some inside = by_test (covers bits low len) (λ t. rw t (whole t)) (λ t. rw t (exact_select w n bits low len z p some inside))
  where
    whole : covers bits low len ≡ true → Exact w len false (pos (field_of z low len)) (meaning s (Net n))
    whole t =
        let q = and_parts (nat_eq low 0) (nat_eq len bits) t in
        let first : 0 ≡ low = sym (eqb-true low 0 q.0) in
        let all : bits ≡ len = sym (eqb-true len bits q.1) in
        let small = modulo-below (floor_div z (2 ^ 0)) (2 ^ bits) (pow_pos bits) in
        let cut : modulo z (2 ^ bits) ≡ modulo z (2 ^ bits) / 2 ^ 0 % 2 ^ bits = whole_field z bits in
        let P : Declared → Type 0 = λ a. Exact w bits false (pos (field_of z 0 bits)) (verilog.net a n) in
        let at_zero : Exact w bits false (pos (field_of z 0 bits)) (meaning s (Net n)) =
        subst P (sym e) (exact_leaf w bits bits false (pos (field_of z 0 bits)) (λ u. u.nets n) refl (omega (arith, all, some)) (fits_pos bits (field_of z 0 bits) small)
        (p ∙ (cut ∙ (field_bits z bits 0 bits (omega arith) ∙ sym (modulo-small (field_of z 0 bits) (2 ^ bits) small))))) in
        subst (λ (i : ℕ). Exact w len false (pos (field_of z i len)) (meaning s (Net n))) first
        (subst (λ (i : ℕ). Exact w i false (pos (field_of z 0 i)) (meaning s (Net n))) all at_zero)

-- as a right side of so many bits
pub field_assigned : (s : Sizes) (w : Valuation) (n : Name) (bits low len : ℕ) (z : ℤ) → s n ≡ declared bits false → w.nets n ≡ modulo z (2 ^ bits) → 1 ≤ len → low + len ≤ bits
    → assigned s w len (field_text n bits low len) ≡ modulo (floor_div z (2 ^ low)) (2 ^ len)
field_assigned s w n bits low len z e p some inside =
    cut_exact w len false (pos (field_of z low len)) (meaning s (field_text n bits low len)) (field_stands s w n bits low len z e p some inside) len
    ∙ modulo-small (field_of z low len) (2 ^ len) (modulo-below (floor_div z (2 ^ low)) (2 ^ len) (pow_pos len))

-- one bit as a condition
bit_test : (f : ℕ) → f < 2 → not (nat_eq f 0) ≡ nat_eq f 1
bit_test zero h = refl
bit_test (suc zero) h = refl
bit_test (suc (suc f)) h = absurd (omega arith)

pub bit_holds : (s : Sizes) (w : Valuation) (n : Name) (bits i : ℕ) (z : ℤ) → s n ≡ declared bits false → w.nets n ≡ modulo z (2 ^ bits) → i < bits → holds s w (field_text n bits i 1) ≡ nat_eq (field_of z i 1) 1
bit_holds s w n bits i z e p lt =
    let small = modulo-below (floor_div z (2 ^ i)) (2 ^ 1) (pow_pos 1) in
    ap (λ (k : ℕ). not (nat_eq k 0)) (own_exact w 1 false (pos (field_of z i 1)) (meaning s (field_text n bits i 1)) (field_stands s w n bits i 1 z e p (omega arith) (omega arith)) ∙ modulo-small (field_of z i 1) (2 ^ 1) small)
    ∙ bit_test (field_of z i 1) (omega arith)

-- ---- one word

same_test : (a k : ℕ) → nat_eq k a ≡ nat_eq a k
same_test a k = elim (cases_eq a k) [
  | inl same ↦ eq-eqb k a (sym same) ∙ sym (eq-eqb a k same)
  | inr other ↦ ne_eqb k a (λ e. other (sym e)) ∙ sym (ne_eqb a k other)
]

-- a word inside the memory after a write
write_at : (depth : ℕ) (words : ℕ → ℕ) (a p k : ℕ) → k < depth → write_word depth words a p k ≡ cond (nat_eq a k) p (words k)
write_at depth words a p k lt = elim (cases_lt a depth) [
  | inl less ↦
      ap (λ (f : ℕ → ℕ). f k) (cond-true (nat_lt a depth) (set_word words a p) words (lt-ltb a depth less))
      ∙ ap (λ b. cond b p (words k)) (same_test a k)
  | inr most ↦
      ap (λ (f : ℕ → ℕ). f k) (cond-false (nat_lt a depth) (set_word words a p) words (le-ltb a depth most))
      ∙ sym (cond-false (nat_eq a k) p (words k) (ne_eqb a k (λ e. omega (arith, e, most, lt))))
]

same_word : (a k : ℕ) (f : ℕ → ℕ) (words : ℕ → ℕ) → cond (nat_eq a k) (f (words a)) (words k) ≡ cond (nat_eq a k) (f (words k)) (words k)
same_word a k f words = elim (cases_eq a k) [
  | inl same ↦ ap (λ (i : ℕ). cond (nat_eq a k) (f (words i)) (words k)) same
  | inr other ↦ cond-false (nat_eq a k) (f (words a)) (words k) (ne_eqb a k other) ∙ sym (cond-false (nat_eq a k) (f (words k)) (words k) (ne_eqb a k other))
]

same_choice : (b : Bool) (p q r : ℕ) → p ≡ q → cond b p r ≡ cond b q r
same_choice b p q r e = ap (λ (i : ℕ). cond b i r) e

-- bits of a word that a select names
part_is : (p low len : ℕ) (z : ℤ) (x : ℕ) → 1 ≤ len → x ≡ modulo z (2 ^ len) → set_bits p (low + len - 1) low x ≡ laid_over p low len z
part_is p low len z x h e =
    let top : low + len - 1 + 1 ≡ low + len = omega arith in
    ap (λ (k : ℕ). set_bits p (low + len - 1) low k) e ∙ ap (λ (k : ℕ). p % 2 ^ low + 2 ^ low * modulo z (2 ^ len) + 2 ^ k * (p / 2 ^ k)) top

-- ---- what a port writes

-- the nets of a port that writes: its address, its data and its bits of we, and the memory
pub record PortStands (s : Sizes) (w : Valuation) (n : WriteNames) (width depth part bits : ℕ) (adr from we : ℤ) : Type 0 where
  pub memory : s n.memory ≡ memory width depth
  pub address : s n.adr ≡ declared bits false
  pub address_bits : w.nets n.adr ≡ modulo adr (2 ^ bits)
  pub address_fits : FitsBits bits false adr
  pub address_some : 1 ≤ bits
  pub from_net : s n.dat_w ≡ declared width false
  pub from_bits : w.nets n.dat_w ≡ modulo from (2 ^ width)
  pub we_net : s n.we ≡ declared (width / part) false
  pub we_bits : w.nets n.we ≡ modulo we (2 ^ (width / part))
  pub part_some : 1 ≤ part
  pub parts : width / part * part ≤ width

pub address_exact : (s : Sizes) (w : Valuation) (n : WriteNames) (width depth part bits : ℕ) (adr from we : ℤ) → PortStands s w n width depth part bits adr from we → Exact w bits false adr (meaning s (Net n.adr))
address_exact s w n width depth part bits adr from we h =
    let P : Declared → Type 0 = λ a. Exact w bits false adr (verilog.net a n.adr) in
    subst P (sym h.address) (exact_leaf w bits bits false adr (λ u. u.nets n.adr) refl h.address_some h.address_fits h.address_bits)

address_is : (s : Sizes) (w : Valuation) (n : WriteNames) (width depth part bits : ℕ) (adr from we : ℤ) → PortStands s w n width depth part bits adr from we → own (meaning s (Net n.adr)) w ≡ count_of adr
address_is s w n width depth part bits adr from we h = amount_is w bits adr (meaning s (Net n.adr)) (address_exact s w n width depth part bits adr from we h)

-- part i lies inside the word
pub part_inside : (width part n i : ℕ) → n * part ≤ width → i < n → part * i + part ≤ width
part_inside width part n i le lt =
    let up : suc i * part ≤ n * part = mul-le-mul_right part (let q : suc i ≤ n = omega arith in q) in
    omega arith

-- ---- lists of statements

pub runs_joined : (s : Sizes) (w : Valuation) (xs ys : List VStmt) (words : ℕ → ℕ) → run_block_words s w (block_of (xs ++ ys)) words ≡ run_block_words s w (block_of ys) (run_block_words s w (block_of xs) words)
runs_joined s w [] ys words = refl
runs_joined s w (x ∷ xs) ys words = runs_joined s w xs ys (run_stmt_words s w x words)

range_more : (i n : ℕ) → range_with_len i (suc n) ≡ range_with_len i n ++ (i + n) ∷ []
range_more i zero = let e : i ≡ i + 0 = omega arith in ap (λ (k : ℕ). k ∷ []) e
range_more i (suc n) =
    let e : i + 1 + n ≡ i + suc n = omega arith in
    ap (λ (ks : List ℕ). i ∷ ks) (range_more (i + 1) n ∙ ap (λ (k : ℕ). range_with_len (i + 1) n ++ k ∷ []) e)

range_last : (c : ℕ) → range_with_len 0 (suc c) ≡ range_with_len 0 c ++ c ∷ []
range_last c = let e : 0 + c ≡ c = omega arith in range_more 0 c ∙ ap (λ (k : ℕ). range_with_len 0 c ++ k ∷ []) e

pub same_either : (b : Bool) (x : ℕ) → cond b x x ≡ x
same_either true x = refl
same_either false x = refl

less_is : (bits : ℕ) (z : ℤ) (n : ℕ) → FitsBits bits false z → less z (pos n) ≡ nat_lt (count_of z) n
less_is bits (pos x) n f = refl
less_is bits (negsuc x) n f = absurd (let e = unsigned_fits bits (negsuc x) f in omega arith)

-- ---- one part of the word

choice_at : (b : Bool) (f g : ℕ → ℕ) (k : ℕ) → cond b f g k ≡ cond b (f k) (g k)
choice_at true f g k = refl
choice_at false f g k = refl

swapped : (a b : Bool) (x y : ℕ) → cond b (cond a x y) y ≡ cond a (cond b x y) y
swapped true true x y = refl
swapped true false x y = refl
swapped false true x y = refl
swapped false false x y = refl

module _ (s : Sizes) (w : Valuation) (n : WriteNames) (width depth part bits : ℕ) (adr from we : ℤ) (h : PortStands s w n width depth part bits adr from we) where
  -- the address
  a : ℕ
  a = count_of adr

  -- the word at the address takes the bits
  assign_at : (low : ℕ) (z : ℤ) (e : VExpr) (words : ℕ → ℕ) (k : ℕ) (b : Bool) → covers width low part ≡ b → assigned s w part e ≡ modulo z (2 ^ part) → k < depth → words k < 2 ^ width
      → new_words s w (cond b (WholeWord n.memory (Net n.adr)) (PartWord n.memory (Net n.adr) (low + part - 1) low)) e words k ≡ cond (nat_eq (count_of adr) k) (laid_over (words k) low part z) (words k)
  assign_at low z e words k true t p lt below =
      let same : part ≡ width = eqb-true part width (and_parts (nat_eq low 0) (nat_eq part width) t).1 in
      let right : assigned s w width e ≡ modulo z (2 ^ width) = subst (λ (i : ℕ). assigned s w i e ≡ modulo z (2 ^ i)) same p in
      ap (λ (x : Declared). write_word x.depth words (own (meaning s (Net n.adr)) w) (assigned s w x.bits e) k) h.memory
      ∙ (ap (λ (i : ℕ). write_word depth words i (assigned s w width e) k) (address_is s w n width depth part bits adr from we h)
      ∙ (write_at depth words (count_of adr) (assigned s w width e) k lt
      ∙ same_choice (nat_eq (count_of adr) k) (assigned s w width e) (laid_over (words k) low part z) (words k) (right ∙ sym (laid_covering (words k) low part width z t below))))
  assign_at low z e words k false t p lt below =
      let wide : low + part - 1 - low + 1 ≡ part = omega (arith, h.part_some) in
      let put : ℕ → ℕ = λ q. set_bits q (low + part - 1) low (assigned s w (low + part - 1 - low + 1) e) in
      ap (λ (x : Declared). write_word x.depth words (own (meaning s (Net n.adr)) w) (put (words (own (meaning s (Net n.adr)) w))) k) h.memory
      ∙ (ap (λ (i : ℕ). write_word depth words i (put (words i)) k) (address_is s w n width depth part bits adr from we h)
      ∙ (write_at depth words (count_of adr) (put (words (count_of adr))) k lt
      ∙ (same_word (count_of adr) k put words
      ∙ same_choice (nat_eq (count_of adr) k) (put (words k)) (laid_over (words k) low part z) (words k)
      (part_is (words k) low part z (assigned s w (low + part - 1 - low + 1) e) h.part_some (ap (λ (i : ℕ). assigned s w i e) wide ∙ p)))))

  part_runs : (i : ℕ) → i < width / part → (words : ℕ → ℕ) (k : ℕ) → k < depth → words k < 2 ^ width
      → run_stmt_words s w (part_text n width part i) words k
      ≡ cond (nat_eq (count_of adr) k) (cond (nat_eq (field_of we i 1) 1) (laid_over (words k) (part * i) part (floor_div from (2 ^ (part * i)))) (words k)) (words k)
  part_runs i lt words k inside below =
      let low = part * i in
      let z = floor_div from (2 ^ low) in
      let e = field_text n.dat_w width low part in
      let t = word_target n.memory (Net n.adr) width low part in
      let fits = part_inside width part (width / part) i h.parts lt in
      let right = field_assigned s w n.dat_w width low part from h.from_net h.from_bits h.part_some fits in
      choice_at (holds s w (field_text n.we (width / part) i 1)) (new_words s w t e words) words k
      ∙ (ap (λ b. cond b (new_words s w t e words k) (words k)) (bit_holds s w n.we (width / part) i we h.we_net h.we_bits lt)
      ∙ (ap (λ (p : ℕ). cond (nat_eq (field_of we i 1) 1) p (words k)) (assign_at low z e words k (covers width low part) refl right inside below)
      ∙ swapped (nat_eq (count_of adr) k) (nat_eq (field_of we i 1) 1) (laid_over (words k) low part z) (words k)))

  -- ---- all parts

  laid_below : (p i : ℕ) → i * part ≤ width → p < 2 ^ width → laid_parts part we from p i < 2 ^ width
  laid_below p zero le below = below
  laid_below p (suc i) le below =
      let rest = laid_below p i (omega arith) below in
      by_cond (nat_eq (field_of we i 1) 1) (laid_over (laid_parts part we from p i) (part * i) part (floor_div from (2 ^ (part * i)))) (laid_parts part we from p i) (2 ^ width) (laid_over_below width (laid_parts part we from p i) (part * i) part (floor_div from (2 ^ (part * i))) (omega arith) rest) rest

  parts_run : (count : ℕ) → count ≤ width / part → (words : ℕ → ℕ) (k : ℕ) → k < depth → words k < 2 ^ width
      → run_block_words s w (block_of (map (part_text n width part) (range_with_len 0 count))) words k ≡ cond (nat_eq (count_of adr) k) (laid_parts part we from (words k) count) (words k)
  parts_run zero le words k lt below = sym (same_either (nat_eq (count_of adr) k) (words k))
  parts_run (suc c) le words k lt below =
      let g = part_text n width part in
      let first = map g (range_with_len 0 c) in
      let so_far = run_block_words s w (block_of first) words in
      let x = laid_parts part we from (words k) c in
      let here = parts_run c (omega arith) words k lt below in
      let inside : c * part ≤ width = omega (arith, h.parts, le, mul-le-mul_right {m = c} {n = width / part} part (omega arith)) in
      let small : so_far k < 2 ^ width = subst (λ (p : ℕ). p < 2 ^ width) (sym here) (by_cond (nat_eq (count_of adr) k) x (words k) (2 ^ width) (laid_below (words k) c inside below) below) in
      ap (λ (ks : List ℕ). run_block_words s w (block_of (map g ks)) words k) (range_last c)
      ∙ (ap (λ (xs : List VStmt). run_block_words s w (block_of xs) words k) (map-append g (range_with_len 0 c) (c ∷ []))
      ∙ (ap (λ (f : ℕ → ℕ). f k) (runs_joined s w first (g c ∷ []) words)
      ∙ (part_runs c (omega arith) so_far k lt small
      ∙ (ap (λ (p : ℕ). cond (nat_eq (count_of adr) k) (cond (nat_eq (field_of we c 1) 1) (laid_over p (part * c) part (floor_div from (2 ^ (part * c)))) p) p) here
      ∙ taken (nat_eq (count_of adr) k) x (words k) (λ p. cond (nat_eq (field_of we c 1) 1) (laid_over p (part * c) part (floor_div from (2 ^ (part * c)))) p)))))
    where
      taken : (b : Bool) (x y : ℕ) (f : ℕ → ℕ) → cond b (f (cond b x y)) (cond b x y) ≡ cond b (f x) y
      taken true x y f = refl
      taken false x y f = refl

  -- ---- the condition around them

  guard_holds : depth < 2 ^ bits → holds s w (Binary (Net n.adr) op.Less (Literal bits false depth)) ≡ nat_lt (count_of adr) depth
  guard_holds lt =
      let left = address_exact s w n width depth part bits adr from we h in
      let right : Exact w bits false (pos depth) (meaning s (Literal bits false depth)) =
      exact_leaf w bits bits false (pos depth) (λ u. depth) refl h.address_some (fits_pos bits depth lt) (sym (modulo-small depth (2 ^ bits) lt)) in
      let both = exact_compare w less bits bits false adr (pos depth) (meaning s (Net n.adr)) (meaning s (Literal bits false depth)) left right in
      holds_exact w 1 false (flag (less adr (pos depth))) (meaning s (Binary (Net n.adr) op.Less (Literal bits false depth))) both
      ∙ (flag_on (less adr (pos depth)) ∙ less_is bits adr depth h.address_fits)

  guarded_runs : (ss : List VStmt) (words : ℕ → ℕ) (k x : ℕ) → k < depth → run_block_words s w (block_of ss) words k ≡ cond (nat_eq (count_of adr) k) x (words k)
      → (b : Bool) → nat_le (2 ^ bits) depth ≡ b
      → run_block_words s w (block_of (cond b ss (When (Binary (Net n.adr) op.Less (Literal bits false depth)) (block_of ss) NoElse ∷ []))) words k ≡ cond (nat_eq (count_of adr) k) x (words k)
  guarded_runs ss words k x lt e true t = e
  guarded_runs ss words k x lt e false t =
      let few : depth < 2 ^ bits = leb-false (2 ^ bits) depth t in
      choice_at (holds s w (Binary (Net n.adr) op.Less (Literal bits false depth))) (run_block_words s w (block_of ss) words) words k
      ∙ (ap (λ b. cond b (run_block_words s w (block_of ss) words k) (words k)) (guard_holds few)
      ∙ elim (cases_lt (count_of adr) depth) [
        | inl less ↦ cond-true (nat_lt (count_of adr) depth) (run_block_words s w (block_of ss) words k) (words k) (lt-ltb (count_of adr) depth less) ∙ e
        | inr most ↦
            cond-false (nat_lt (count_of adr) depth) (run_block_words s w (block_of ss) words k) (words k) (le-ltb (count_of adr) depth most)
            ∙ sym (cond-false (nat_eq (count_of adr) k) x (words k) (ne_eqb (count_of adr) k (λ q. omega (arith, q, most, lt))))
      ])

  -- what a port writes: the parts whose bits of we are set, at its address
  pub writes_run : (words : ℕ → ℕ) (k : ℕ) → k < depth → words k < 2 ^ width
      → run_block_words s w (block_of (guarded n.adr bits depth (parts_text n width part))) words k ≡ cond (nat_eq (count_of adr) k) (laid_parts part we from (words k) (width / part)) (words k)
  writes_run words k lt below =
      guarded_runs (parts_text n width part) words k (laid_parts part we from (words k) (width / part)) lt (parts_run (width / part) (omega arith) words k lt below) (nat_le (2 ^ bits) depth) refl
