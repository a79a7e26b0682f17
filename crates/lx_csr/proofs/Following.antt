-- Registers that follow one another, and what is gathered of peripherals.
use Rattle.std.proofs.Common.{◌≡◌, ℕ, ◌+◌, ◌*◌, ◌/◌, List, [], ◌∷◌, ◌++◌, length, ap, sym, ◌∙◌, arith, append_assoc, length-append, zero-add, add-zero, add_assoc}
use Rattle.std.proofs.Math.Path.{ap₂}
use Rattle.std.specs.Prelude.{flat_map}
use Rattle.std.proofs.lemmas.List.{append-nil}
use Rattle.std.proofs.lemmas.Grind.{flat_map-append}
use Rattle.lx_description.specs.declared.modules.ConstDecl.{ConstDecl}
use Rattle.lx_csr.specs.Places.{follow, placed, word_count_of, words_in}
use Rattle.lx_csr.specs.Collected.{Attribute, Peripheral, bank_of, banks_from, constants_of, part_constants, part_registers, registers_of}
use Rattle.lx_csr.specs.Gathered.{gathered_of, with_attributes, with_bank, with_part, with_peripheral, with_peripherals, with_registers}
use Rattle.lx_csr.specs.declared.registers.Register.{Register}
use Rattle.lx_csr.specs.declared.registers.Bank.{Bank}
use Rattle.lx_csr.specs.declared.gathering.Gathered.{Gathered}

pub words_in_append : (rs qs : List Register) → words_in (rs ++ qs) ≡ words_in rs + words_in qs
words_in_append [] qs = sym (zero-add (words_in qs))
words_in_append (r ∷ rs) qs = ap (λ n. word_count_of r.size + n) (words_in_append rs qs) ∙ sym (add_assoc (word_count_of r.size) (words_in rs) (words_in qs))

pub follow_append : (b a : ℕ) (rs qs : List Register) → follow b a (rs ++ qs) ≡ follow b a rs ++ follow b (a + 4 * words_in rs) qs
follow_append b a [] qs = ap (λ n. follow b n qs) (sym (add-zero a))
follow_append b a (r ∷ rs) qs =
    let n = word_count_of r.size in
    let e : (a + 4 * n) + 4 * words_in rs ≡ a + 4 * (n + words_in rs) = omega arith in
    ap (λ ys. placed b a r ∷ ys) (follow_append b (a + 4 * n) rs qs ∙ ap (λ k. follow b (a + 4 * n) rs ++ follow b k qs) e)

-- registers after registers
pub with_registers_more : (g : Gathered) (rs qs : List Register) → with_registers (with_registers g rs) qs ≡ with_registers g (rs ++ qs)
with_registers_more g rs qs =
    let registers = append_assoc g.registers (follow (length g.banks) g.next rs) (follow (length g.banks) (g.next + 4 * words_in rs) qs)
    ∙ ap (λ ys. g.registers ++ ys) (sym (follow_append (length g.banks) g.next rs qs)) in
    let next : (g.next + 4 * words_in rs) + 4 * words_in qs ≡ g.next + 4 * words_in (rs ++ qs) = omega (arith, words_in_append rs qs) in
    ap₂ (λ xs n. record g { registers = xs; next = n }) registers next

abbrev with_all : Gathered → List Register → List ConstDecl → Gathered
with_all g rs cs = record (with_registers g rs) { constants = g.constants ++ cs }

pub attributes_gathered : (g : Gathered) (xs : List Attribute) → with_attributes g xs ≡ with_all g (registers_of xs) (constants_of xs)
attributes_gathered g [] =
    ap₂ (λ (rs : List Register) (n : ℕ). record g { registers = rs; next = n }) (sym (append-nil g.registers)) (sym (add-zero g.next))
    ∙ ap (λ cs. record g { registers = g.registers ++ []; next = g.next + 0; constants = cs }) (sym (append-nil g.constants))
attributes_gathered g (x ∷ xs) =
    let rs = part_registers x.owner x.part in
    let cs = part_constants x.owner x.part in
    let more = with_registers_more g rs (registers_of xs) in
    attributes_gathered (with_part g x.owner x.part) xs
    ∙ ap₂ (λ (h : Gathered) (ks : List ConstDecl). record h { constants = ks }) more (append_assoc g.constants cs (constants_of xs))

-- ---- peripherals

pub banks_append : (n : ℕ) (ps : List Peripheral) (p : Peripheral) →
    banks_from n (ps ++ p ∷ []) ≡ banks_from n ps ++ bank_of (n + length (banks_from n ps)) p.name p.registers
banks_append n [] p =
    append-nil (bank_of n p.name p.registers) ∙ ap (λ k. bank_of k p.name p.registers) (sym (add-zero n))
banks_append n (q ∷ ps) p =
    let bs = bank_of n q.name q.registers in
    let m = n + length bs in
    let e : m + length (banks_from m ps) ≡ n + length (bs ++ banks_from m ps) = omega (arith, length-append bs (banks_from m ps)) in
    ap (λ ys. bs ++ ys) (banks_append m ps p ∙ ap (λ k. banks_from m ps ++ bank_of k p.name p.registers) e)
    ∙ sym (append_assoc bs (banks_from m ps) (bank_of (n + length (bs ++ banks_from m ps)) p.name p.registers))

quarter : (n : ℕ) → (0 + 4 * n) / 4 ≡ n
quarter n = omega arith

-- a peripheral's registers as a bank, behind these banks
bank_is : (bs : List Bank) (cs : List ConstDecl) (name : List ℕ) (rs : List Register) →
    with_bank (record { banks = bs; registers = [] ++ follow (length bs) 0 rs; next = 0 + 4 * words_in rs; constants = cs }) name
    ≡ record { banks = bs ++ bank_of (length bs) name rs; registers = []; next = 0; constants = cs }
bank_is bs cs name [] = ap (λ xs. record { banks = xs; registers = []; next = 0; constants = cs }) (sym (append-nil bs))
bank_is bs cs name (r ∷ rs) =
    ap (λ n. record { banks = bs ++ record { wish = record { name = name; words = n; line = r.line }; registers = follow (length bs) 0 (r ∷ rs) } ∷ []; registers = []; next = 0; constants = cs })
    (quarter (words_in (r ∷ rs)))

pub gathered_more : (ps : List Peripheral) (p : Peripheral) → with_peripheral (gathered_of ps) p ≡ gathered_of (ps ++ p ∷ [])
gathered_more ps p =
    let bs = banks_from 0 ps in
    let cs = flat_map (λ (q : Peripheral). q.constants) ps in
    let banks = ap (λ k. bs ++ bank_of k p.name p.registers) (sym (zero-add (length bs))) ∙ sym (banks_append 0 ps p) in
    let constants = ap (λ ys. cs ++ ys) (sym (append-nil p.constants)) ∙ sym (flat_map-append (λ (q : Peripheral). q.constants) ps (p ∷ [])) in
    bank_is bs (cs ++ p.constants) p.name p.registers
    ∙ ap₂ (λ xs ks. record { banks = xs; registers = []; next = 0; constants = ks }) banks constants

pub gathered_all : (ps qs : List Peripheral) → with_peripherals (gathered_of ps) qs ≡ gathered_of (ps ++ qs)
gathered_all ps [] = ap gathered_of (sym (append-nil ps))
gathered_all ps (q ∷ qs) =
    ap (λ g. with_peripherals g qs) (gathered_more ps q) ∙ gathered_all (ps ++ q ∷ []) qs ∙ ap gathered_of (append_assoc ps (q ∷ []) qs)
