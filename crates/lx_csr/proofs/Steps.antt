-- Steps of loops.
use Rattle.std.proofs.Common.{◌≡◌, inl, inr, ℕ, zero, suc, ◌+◌, ◌*◌, ◌-◌, ◌<◌, ◌≤◌, List, [], ◌∷◌, ◌++◌, Option, Some, None, length, map, take, drop, get_or, refl, ap, sym, ◌∙◌, arith, subst, true, false, if◌then◌else◌, nat_eq, pos, min, append_assoc, add-zero, zero-add, add-one}
use Rattle.std.specs.Prelude.{flat_map, slice_get}
use Rattle.std.specs.List.{range_with_len}
use Rattle.std.proofs.Math.Path.{ap₂}
use Rattle.std.proofs.lemmas.Bool.Decides.{eqb_tells}
use Rattle.std.proofs.lemmas.List.{append-nil, map-append}
use Rattle.std.proofs.lemmas.Grind.{flat_map-append}
use Rattle.lx_fhdl.specs.declared.places.Numbered.{Numbered}
use Rattle.lx_machine.specs.Map.{CsrOptions, word_of, words_from}
use Rattle.lx_description.specs.declared.registers.Field.{Field}
use Rattle.lx_description.specs.declared.registers.SourceDecl.{SourceDecl}
use Rattle.lx_description.specs.declared.modules.ConstDecl.{ConstDecl}
use Rattle.lx_description.specs.declared.description.Description.{Description}
use Rattle.lx_csr.specs.Places.{options, word_count_of, word_place}
use Rattle.lx_csr.specs.Gathered.{IsGathered}
use Rattle.lx_csr.specs.declared.gathering.Gathered.{Gathered}
use Rattle.lx_fhdl.specs.declared.places.Fix.{Fix}
use Rattle.lx_fhdl.specs.declared.places.RegionWish.{RegionWish}
use Rattle.lx_csr.specs.Collected.{Peripheral, banks, banks_from, constants, part_peripheral, parts_of, peripherals, source_fields, top_parts}
use Rattle.lx_csr.specs.Defined.{all_region_names, bank_names, constant_name, header_names, interrupt_name}
use Rattle.lx_csr.specs.Faults.{bank_faults, faults, name_faults, top_faults}
use Rattle.lx_csr.specs.Mapped.{IsAt, mapped, numbered, registers_of}
use Rattle.lx_csr.specs.declared.names.Defined.{Defined}
use Rattle.lx_csr.specs.declared.registers.WordPlace.{WordPlace}
use Rattle.lx_csr.specs.declared.registers.Register.{Register}
use Rattle.lx_csr.specs.declared.registers.Bank.{Bank}
use Rattle.lx_csr.proofs.Lists.{drop_at, drop_past, read_is}
use borrow.Author.Count.{below_more}

some_is : {A : Type 0} {x y : A} → Some x ≡ Some y → x ≡ y
some_is e = cc

-- ---- words and fields

words_suc : (o : CsrOptions) (size addr i n : ℕ) → words_from o size addr i (suc n) ≡ words_from o size addr i n ++ word_of o size addr (i + n) ∷ []
words_suc o size addr i zero = ap (λ k. word_of o size addr k ∷ []) (sym (add-zero i))
words_suc o size addr i (suc n) =
    let e : (i + 1) + n ≡ i + suc n = omega arith in
    ap (λ ws. word_of o size addr i ∷ ws) (words_suc o size addr (i + 1) n ∙ ap (λ k. words_from o size addr (i + 1) n ++ word_of o size addr k ∷ []) e)

pub words_more : (o : CsrOptions) (size addr n : ℕ) → words_from o size addr 0 (n + 1) ≡ words_from o size addr 0 n ++ word_of o size addr n ∷ []
words_more o size addr n = rw add-one (words_suc o size addr 0 n ∙ ap (λ k. words_from o size addr 0 n ++ word_of o size addr k ∷ []) (zero-add n))

abbrev pub made_word : ℕ → ℕ → ℕ → ℕ → WordPlace
made_word addr count i len = record { addr = addr + 4 * i; low = 32 * (count - 1 - i); len = len }

-- a word behind those before it
pub words_put : (size addr i count len : ℕ) (ws pushed : List WordPlace) → ws ≡ map word_place (words_from options size addr 0 i) → count ≡ word_count_of size →
    len ≡ min 32 (size - 32 * (count - 1 - i)) → pushed ≡ ws ++ made_word addr count i len ∷ [] → pushed ≡ map word_place (words_from options size addr 0 (i + 1))
words_put size addr i count len ws pushed before counted most put =
    let n = word_count_of size in
    let least : len ≡ min 32 (size - 32 * (n - 1 - i)) = most ∙ ap (λ k. min 32 (size - 32 * (k - 1 - i))) counted in
    let same : made_word addr count i len ≡ word_place (word_of options size addr i) = ap₂ (λ k l. made_word addr k i l) counted least in
    put ∙ (ap₂ (λ (xs : List WordPlace) w. xs ++ w ∷ []) before same
    ∙ (sym (map-append word_place (words_from options size addr 0 i) (word_of options size addr i ∷ [])) ∙ ap (map word_place) (sym (words_more options size addr i))))

abbrev pub named_field : ℕ → List ℕ → Field
named_field i name = record { name = name; offset = i; size = 1; reset = pos 0; line = 0 }

abbrev pub source_field : ℕ → SourceDecl → Field
source_field i s = named_field i s.name

fields_suc : (k : ℕ) (ss : List SourceDecl) (i : ℕ) (s : SourceDecl) → i < length ss → s ≡ get_or ss i s →
    source_fields k (take (suc i) ss) ≡ source_fields k (take i ss) ++ source_field (k + i) s ∷ []
fields_suc k [] i s l same = absurd (omega arith)
fields_suc k (t ∷ ss) zero s l same = ap₂ (λ n (u : SourceDecl). source_field n u ∷ []) (sym (add-zero k)) (sym same)
fields_suc k (t ∷ ss) (suc i) s l same =
    let e : (k + 1) + i ≡ k + suc i = omega arith in
    ap (λ fs. source_field k t ∷ fs) (fields_suc (k + 1) ss i s (omega arith) same ∙ ap (λ n. source_fields (k + 1) (take i ss) ++ source_field n s ∷ []) e)

pub fields_more : (ss : List SourceDecl) (i : ℕ) (s : SourceDecl) → i < length ss → s ≡ get_or ss i s →
    source_fields 0 (take (i + 1) ss) ≡ source_fields 0 (take i ss) ++ source_field i s ∷ []
fields_more ss i s l same =
    rw add-one (fields_suc 0 ss i s l same ∙ ap (λ n. source_fields 0 (take i ss) ++ source_field n s ∷ []) (zero-add i))

-- ---- banks by number

pub ne_false : (a b : ℕ) → (a ≡ b → ⊥) → nat_eq a b ≡ false
ne_false a b h = elim (eqb_tells a b) [ inl t ↦ absurd (h t.1) | inr f ↦ f.0 ]

no_banks : (base n : ℕ) (ps : List Numbered) → numbered base ps [] n ≡ []
no_banks base n [] = refl
no_banks base n (p ∷ ps) = refl

past : (bs : List Bank) (i : ℕ) → slice_get bs i ≡ None → length bs ≤ i
past [] i e = omega arith
past (b ∷ bs) zero e = absurd (cc)
past (b ∷ bs) (suc i) e = let l = past bs i e in omega arith

numbered_first : (base n : ℕ) (p : Numbered) (ps : List Numbered) (bs : List Bank) (i : ℕ) → nat_eq p.number n ≡ true → (o : Option Bank) → slice_get bs i ≡ o →
    numbered base (p ∷ ps) (drop i bs) n ≡ map (mapped (base + 2048 * n) n) (registers_of o)
numbered_first base n p ps bs i e None none = ap (λ cs. numbered base (p ∷ ps) cs n) (drop_past bs i (past bs i none))
numbered_first base n p ps bs i e (Some b) some =
    ap (λ cs. numbered base (p ∷ ps) cs n) (drop_at bs i b some)
    ∙ ap (λ t. if t then map (mapped (base + 2048 * n) n) b.registers else numbered base ps (drop (i + 1) bs) n) e

pub numbered_here : (base n : ℕ) (ps : List Numbered) (bs : List Bank) (i : ℕ) (p : Numbered) → slice_get ps i ≡ Some p → nat_eq p.number n ≡ true →
    numbered base (drop i ps) (drop i bs) n ≡ map (mapped (base + 2048 * n) n) (registers_of (slice_get bs i))
numbered_here base n ps bs i p is e =
    ap (λ qs. numbered base qs (drop i bs) n) (drop_at ps i p is) ∙ numbered_first base n p (drop (i + 1) ps) bs i e (slice_get bs i) refl

numbered_later : (base n : ℕ) (p : Numbered) (ps : List Numbered) (bs : List Bank) (i : ℕ) → nat_eq p.number n ≡ false → (o : Option Bank) → slice_get bs i ≡ o →
    numbered base (p ∷ ps) (drop i bs) n ≡ numbered base ps (drop (i + 1) bs) n
numbered_later base n p ps bs i e None none =
    ap (λ cs. numbered base (p ∷ ps) cs n) (drop_past bs i (past bs i none))
    ∙ sym (ap (λ cs. numbered base ps cs n) (drop_past bs (i + 1) (let l = past bs i none in omega arith)) ∙ no_banks base n ps)
numbered_later base n p ps bs i e (Some b) some =
    ap (λ cs. numbered base (p ∷ ps) cs n) (drop_at bs i b some)
    ∙ ap (λ t. if t then map (mapped (base + 2048 * n) n) b.registers else numbered base ps (drop (i + 1) bs) n) e

pub numbered_next : (base n : ℕ) (ps : List Numbered) (bs : List Bank) (i : ℕ) (p : Numbered) → slice_get ps i ≡ Some p → nat_eq p.number n ≡ false →
    numbered base (drop i ps) (drop i bs) n ≡ numbered base (drop (i + 1) ps) (drop (i + 1) bs) n
numbered_next base n ps bs i p is e =
    ap (λ qs. numbered base qs (drop i bs) n) (drop_at ps i p is) ∙ numbered_later base n p (drop (i + 1) ps) bs i e (slice_get bs i) refl

pub numbered_end : (base n : ℕ) (ps : List Numbered) (bs : List Bank) (i : ℕ) → length ps ≤ i → numbered base (drop i ps) (drop i bs) n ≡ []
numbered_end base n ps bs i l = ap (λ qs. numbered base qs (drop i bs) n) (drop_past ps i l)

range_suc : (a n : ℕ) → range_with_len a (suc n) ≡ range_with_len a n ++ (a + n) ∷ []
range_suc a zero = ap (λ k. k ∷ []) (sym (add-zero a))
range_suc a (suc n) =
    let e : (a + 1) + n ≡ a + suc n = omega arith in
    ap (λ ks. a ∷ ks) (range_suc (a + 1) n ∙ ap (λ k. range_with_len (a + 1) n ++ k ∷ []) e)

pub numbers_more : {X : Type 0} (f : ℕ → List X) (n : ℕ) → flat_map f (range_with_len 0 (n + 1)) ≡ flat_map f (range_with_len 0 n) ++ f n
numbers_more f n =
    rw add-one (ap (flat_map f) (range_suc 0 n ∙ ap (λ k. range_with_len 0 n ++ k ∷ []) (zero-add n))
    ∙ (flat_map-append f (range_with_len 0 n) (n ∷ []) ∙ ap (λ ys. flat_map f (range_with_len 0 n) ++ ys) (append-nil (f n))))

-- ---- names of headers

pub header_are : (d : Description) → d.soc ≡ true →
    ((((([] ++ flat_map bank_names (banks d)) ++ map interrupt_name d.wishes.irqs) ++ map constant_name (flat_map (λ (p : Peripheral). p.constants) (peripherals d))) ++ map constant_name d.constants) ++ all_region_names d.wishes.regions) ≡ header_names d
unfolding header_names
header_are d soc =
    let own = flat_map (λ (p : Peripheral). p.constants) (peripherals d) in
    let all : map constant_name own ++ map constant_name d.constants ≡ map constant_name (constants d) =
    sym (map-append constant_name own d.constants) ∙ ap (λ b. map constant_name (own ++ (if b then d.constants else []))) (sym soc) in
    let bs = flat_map bank_names (banks d) in
    let is = map interrupt_name d.wishes.irqs in
    let cs = map constant_name own in
    let ds = map constant_name d.constants in
    let rs = all_region_names d.wishes.regions in
    append_assoc ((bs ++ is) ++ cs) ds rs ∙ (append_assoc (bs ++ is) cs (ds ++ rs) ∙ (append_assoc bs is (cs ++ (ds ++ rs))
    ∙ ap (λ xs. bs ++ (is ++ xs)) (sym (append_assoc cs ds rs) ∙ ap (λ xs. xs ++ rs) all)))

pub header_by : (d : Description) (g : Gathered) → d.soc ≡ true → IsGathered d g → (n0 n1 n2 n3 n4 n5 : List Defined)
    (own : List Bank) (irqs : List Fix) (cs ds : List ConstDecl) (regions : List RegionWish) →
    n0 ≡ [] → own ≡ g.banks → irqs ≡ d.wishes.irqs → cs ≡ g.constants → ds ≡ d.constants → regions ≡ d.wishes.regions →
    n1 ≡ n0 ++ flat_map bank_names own → n2 ≡ n1 ++ map interrupt_name irqs → n3 ≡ n2 ++ map constant_name cs → n4 ≡ n3 ++ map constant_name ds →
    n5 ≡ n4 ++ all_region_names regions → n5 ≡ header_names d
header_by d g soc gathered n0 n1 n2 n3 n4 n5 own irqs cs ds regions z a b k e r f1 f2 f3 f4 f5 =
    let bs : own ≡ banks d = a ∙ ap (λ (h : Gathered). h.banks) gathered in
    let ks : cs ≡ flat_map (λ (p : Peripheral). p.constants) (peripherals d) = k ∙ ap (λ (h : Gathered). h.constants) gathered in
    let e1 = f1 ∙ ap₂ (λ (xs : List Defined) ys. xs ++ flat_map bank_names ys) z bs in
    let e2 = f2 ∙ ap₂ (λ (xs : List Defined) ys. xs ++ map interrupt_name ys) e1 b in
    let e3 = f3 ∙ ap₂ (λ (xs : List Defined) ys. xs ++ map constant_name ys) e2 ks in
    let e4 = f4 ∙ ap₂ (λ (xs : List Defined) ys. xs ++ map constant_name ys) e3 e in
    f5 ∙ (ap₂ (λ (xs : List Defined) ys. xs ++ all_region_names ys) e4 r ∙ header_are d soc)

-- ---- no system

-- a top that is no system has no attributes that are looked at
no_parts : (d : Description) → d.soc ≡ false → top_parts d ≡ []
unfolding top_parts
no_parts d none = ap (λ b. if b then parts_of (slice_get d.modules 0) else []) none

pub no_system : (d : Description) → d.soc ≡ false → (faults d ≡ []) × ([] ≡ banks d)
no_system d none = (
  ap (λ b. if b then flat_map top_faults (top_parts d) ++ (name_faults d ++ flat_map bank_faults (banks d)) else []) none,
  sym (ap (λ ps. banks_from 0 (flat_map (part_peripheral d.modules) ps)) (no_parts d none)),
)

-- ---- an address

pub found_more : (rs : List Register) (i : ℕ) (r : Register) (addr : ℕ) → ((k : ℕ) → k < i → (j : ℕ) → IsAt rs addr k j → ⊥) → i < length rs → r ≡ get_or rs i r →
    ((j : ℕ) (w : WordPlace) → slice_get r.words j ≡ Some w → w.addr ≡ addr → ⊥) → (k : ℕ) → k < i + 1 → (j : ℕ) → IsAt rs addr k j → ⊥
found_more rs i r addr before l read none = below_more (λ k. (j : ℕ) → IsAt rs addr k j → ⊥) i before (λ j at.
    let is : slice_get rs i ≡ Some r = read_is rs i r l read in
    let same : at.register ≡ r = some_is (sym at.is_register ∙ is) in
    none j at.word (subst (λ (q : Register). slice_get q.words j ≡ Some at.word) same at.is_word) at.address)
