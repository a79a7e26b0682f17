-- A module is read again where it was printed, so two modules never have the same text.
use Rattle.std.proofs.Common.{◌≡◌, ℕ, zero, suc, ◌+◌, ◌-◌, ◌≤◌, Bool, true, false, cond, List, [], ◌∷◌, ◌++◌, length, Option, Some, None, IfSome, IsTrue, nat_le, flat_map, codes, refl, sym, ap, ◌∙◌, append_assoc, append-nil, arith, length-append, leb-true, leb-false, ne_eqb}
use Rattle.std.specs.List.{AllByRecursion}
use Rattle.std.proofs.lemmas.Option.{same_Some}
use Rattle.lx_vtext.specs.Names.{is_digit, is_name_start, is_name_byte, is_name}
use Rattle.lx_tables.specs.VerilogWords.{verilog_words}
use Rattle.lx_vtext.specs.Tree.{Name, VLiteral, VPort, VMemory, VDecl, NetDecl, MemoryDecl, VSet, VAssign, VAlways, VModule}
use Rattle.lx_vtext.specs.Fits.{IsValue, IsPort, IsMemory, IsDecl, IsSet, IsAssign, IsAlways, IsModule}
use Rattle.lx_vtext.specs.Printed.{number_text, expr_text, block_text, net_hi, bits_text, signed_text, head_text, value_text, init_text, net_text, direction_text, port_text, more_ports_text, ports_text, memory_text, decl_text, set_text, initial_text, assign_text, event_text, always_text, module_text}
use Rattle.lx_vtext.specs.Reading.{Reader, after, name_at, many, all_at, signed_at, width_at, bits_at, head_at, net_of, wire_at, reg_at, net_at, port_of, input_at, output_at, port_at, more_port_at, ports_from, ports_at, net_decl_at, memory_head_at, memory_from, reg_decl_at, decl_at, set_at, initial_at, assign_at, clock_at, event_at, always_at, module_at, module_of}
use Rattle.lx_vtext.proofs.Pieces.{stops, closes, closes_name, closes_digit, after_again, after_is, name_again, number_again, value_again}
use Rattle.lx_vtext.proofs.Starts.{name_starts, differs}
use Rattle.lx_vtext.proofs.ExprAgain.{expr_again}
use Rattle.lx_vtext.proofs.StmtAgain.{block_again, indent_ends}

-- ---- lists of parts

module _ {A : Type 0} (read : Reader A) (text : A → List ℕ) (P : A → Type 0) (good : List ℕ → Type 0) (again : (x : A) (r : List ℕ) → P x → good r → read (text x ++ r) ≡ Some (x, r)) (len : (x : A) → 1 ≤ length (text x)) (starts : (x : A) (r : List ℕ) → good (text x ++ r)) (rest : List ℕ) (end : read rest ≡ None) (last : good rest) where
  goes_on : (xs : List A) → good (flat_map text xs ++ rest)
  goes_on [] = last
  goes_on (x ∷ xs) = rw (append_assoc (text x) (flat_map text xs) rest) (starts x (flat_map text xs ++ rest))

  many_again : (n : ℕ) (xs : List A) → AllByRecursion P xs → length (flat_map text xs) ≤ n → many read n (flat_map text xs ++ rest) ≡ (xs, rest)
  unfolding many
  many_again zero [] h le = refl
  many_again (suc n) [] h le = rw end refl
  many_again zero (x ∷ xs) h le = absurd (omega (arith, length-append (text x) (flat_map text xs), len x))
  many_again (suc n) (x ∷ xs) h le =
      let short : length (flat_map text xs) ≤ n = omega (arith, length-append (text x) (flat_map text xs), len x) in
      rw (append_assoc (text x) (flat_map text xs) rest, again x (flat_map text xs ++ rest) h.0 (goes_on xs), many_again n xs h.1 short) refl

  pub all_again : (xs : List A) → AllByRecursion P xs → all_at read (flat_map text xs ++ rest) ≡ (xs, rest)
  all_again xs h = many_again (length (flat_map text xs ++ rest)) xs h (omega (arith, length-append (flat_map text xs) rest))

-- ---- nets

signed_name : (rest : List ℕ) → name_at (codes "signed " ++ rest) ≡ None
unfolding name_at is_name verilog_words
signed_name rest = refl

no_signed : (n r : List ℕ) → IsTrue (is_name n) → stops is_name_byte r ≡ true → after (codes "signed ") (n ++ r) ≡ None
no_signed n r h s = by (after (codes "signed ") (n ++ r)) refl
  where
    clash : (x : Name × List ℕ) → Some x ≡ None → ⊥
    clash x e = absurd cc

    by : (o : Option (List ℕ)) → after (codes "signed ") (n ++ r) ≡ o → o ≡ None
    by None e = refl
    by (Some rest) e = absurd (clash (n, r) (sym (name_again n r h s) ∙ ap name_at (after_is (codes "signed ") (n ++ r) rest e) ∙ signed_name rest))

no_bracket : (n r : List ℕ) → IsTrue (is_name n) → after (codes "[") (n ++ r) ≡ None
unfolding after
no_bracket n r h = let k = name_starts n h in rw (k.2, differs is_name_start k.0 91 k.3 refl) refl

width_again : (hi : ℕ) (rest : List ℕ) → (hi ≡ 0 → ⊥) → bits_at (bits_text (Some hi) ++ rest) ≡ Some (hi + 1, rest)
unfolding bits_at width_at
width_again hi rest some =
    let end = codes ":0] " ++ rest in
    simp append_assoc (rw (after_again (codes "[") (number_text hi ++ end), number_again hi end refl, after_again (codes ":0] ") rest, ne_eqb hi 0 some) refl)

one_bit : (rest : List ℕ) → after (codes "[") rest ≡ None → bits_at rest ≡ Some (1, rest)
unfolding bits_at
one_bit rest e = rw e refl

bits_cases : (bits : ℕ) (rest : List ℕ) (t : Bool) → nat_le bits 1 ≡ t → 1 ≤ bits → after (codes "[") rest ≡ None → bits_at (bits_text (cond t None (Some (bits - 1))) ++ rest) ≡ Some (bits, rest)
bits_cases bits rest true e some none =
    let le = leb-true bits 1 e in
    let one : 1 ≡ bits = omega arith in
    one_bit rest none ∙ ap (λ b. Some (b, rest)) one
bits_cases bits rest false e some none =
    let lt = leb-false bits 1 e in
    let back : bits - 1 + 1 ≡ bits = omega arith in
    width_again (bits - 1) rest (λ z. omega arith) ∙ ap (λ b. Some (b, rest)) back

bits_again : (bits : ℕ) (rest : List ℕ) → 1 ≤ bits → after (codes "[") rest ≡ None → bits_at (bits_text (net_hi bits) ++ rest) ≡ Some (bits, rest)
bits_again bits rest some none = bits_cases bits rest (nat_le bits 1) refl some none

signed_cases : (signed : Bool) (rest : List ℕ) → after (codes "signed ") rest ≡ None → signed_at (signed_text signed ++ rest) ≡ (signed, rest)
unfolding signed_at
signed_cases true rest none = rw (after_again (codes "signed ") rest) refl
signed_cases false rest none = rw none refl

bracket_first : (bytes : List ℕ) → after (codes "signed ") (codes "[" ++ bytes) ≡ None
unfolding after
bracket_first bytes = refl

no_signed_bits : (hi : Option ℕ) (n r : List ℕ) → IsTrue (is_name n) → stops is_name_byte r ≡ true → after (codes "signed ") (bits_text hi ++ (n ++ r)) ≡ None
no_signed_bits None n r h s = no_signed n r h s
no_signed_bits (Some hi) n r h s = bracket_first ((number_text hi ++ codes ":0] ") ++ (n ++ r))

head_again : (signed : Bool) (bits : ℕ) (n r : List ℕ) → 1 ≤ bits → IsTrue (is_name n) → stops is_name_byte r ≡ true → head_at (head_text signed (net_hi bits) n ++ r) ≡ Some ((signed, bits, n), r)
unfolding head_at head_text
head_again signed bits n r some h s =
    simp append_assoc (rw (signed_cases signed (bits_text (net_hi bits) ++ (n ++ r)) (no_signed_bits (net_hi bits) n r h s), bits_again bits (n ++ r) some (no_bracket n r h), name_again n r h s) refl)

wire_again : (signed : Bool) (bits : ℕ) (n r : List ℕ) → 1 ≤ bits → IsTrue (is_name n) → stops is_name_byte r ≡ true → wire_at (head_text signed (net_hi bits) n ++ r) ≡ Some (net_of (signed, bits, n) None, r)
unfolding wire_at
wire_again signed bits n r some h s = rw (head_again signed bits n r some h s) refl

reg_again : (signed : Bool) (bits : ℕ) (n : Name) (v : VLiteral) (r : List ℕ) → 1 ≤ bits → IsTrue (is_name n) → IsValue v → stops is_digit r ≡ true → reg_at (head_text signed (net_hi bits) n ++ (codes " = " ++ (value_text v ++ r))) ≡ Some (net_of (signed, bits, n) (Some v), r)
unfolding reg_at
reg_again signed bits n v r some h k s =
    rw (head_again signed bits n (codes " = " ++ (value_text v ++ r)) some h refl, after_again (codes " = ") (value_text v ++ r), value_again v r k s) refl

no_wire : (rest : List ℕ) → after (codes "wire ") (codes "reg " ++ rest) ≡ None
unfolding after
no_wire rest = refl

join4 : (a b c d r : List ℕ) → (((a ++ b) ++ c) ++ d) ++ r ≡ a ++ (b ++ (c ++ (d ++ r)))
join4 a b c d r = simp append_assoc refl

net_again : (signed : Bool) (bits : ℕ) (n : Name) (init : Option VLiteral) (r : List ℕ) → 1 ≤ bits → IsTrue (is_name n) → IfSome init IsValue → closes r ≡ true → net_at (init_text signed bits n init ++ r) ≡ Some (net_of (signed, bits, n) init, r)
unfolding net_at
net_again signed bits n None r some h k c =
    ap net_at (append_assoc (codes "wire ") (head_text signed (net_hi bits) n) r)
    ∙ rw (after_again (codes "wire ") (head_text signed (net_hi bits) n ++ r), wire_again signed bits n r some h (closes_name r c)) refl
net_again signed bits n (Some v) r some h k c =
    let value = codes " = " ++ (value_text v ++ r) in
    ap net_at (join4 (codes "reg ") (head_text signed (net_hi bits) n) (codes " = ") (value_text v) r)
    ∙ rw (no_wire (head_text signed (net_hi bits) n ++ value), after_again (codes "reg ") (head_text signed (net_hi bits) n ++ value), reg_again signed bits n v r some h k (closes_digit r c)) refl

-- ---- ports

input_again : (signed : Bool) (bits : ℕ) (n r : List ℕ) → 1 ≤ bits → IsTrue (is_name n) → closes r ≡ true → port_at ((codes "    input " ++ init_text signed bits n None) ++ r) ≡ Some (port_of true (net_of (signed, bits, n) None), r)
unfolding port_at input_at
input_again signed bits n r some h c =
    let head = head_text signed (net_hi bits) n in
    ap port_at (append_assoc (codes "    input ") (codes "wire " ++ head) r ∙ ap (λ x. codes "    input " ++ x) (append_assoc (codes "wire ") head r))
    ∙ rw (after_again (codes "    input ") (codes "wire " ++ (head ++ r)), after_again (codes "wire ") (head ++ r), wire_again signed bits n r some h (closes_name r c)) refl

no_input : (rest : List ℕ) → after (codes "    input ") (codes "    output " ++ rest) ≡ None
unfolding after
no_input rest = refl

output_again : (signed : Bool) (bits : ℕ) (n : Name) (init : Option VLiteral) (r : List ℕ) → 1 ≤ bits → IsTrue (is_name n) → IfSome init IsValue → closes r ≡ true → port_at ((codes "    output " ++ init_text signed bits n init) ++ r) ≡ Some (port_of false (net_of (signed, bits, n) init), r)
unfolding port_at output_at
output_again signed bits n init r some h k c =
    ap port_at (append_assoc (codes "    output ") (init_text signed bits n init) r)
    ∙ rw (no_input (init_text signed bits n init ++ r), after_again (codes "    output ") (init_text signed bits n init ++ r), net_again signed bits n init r some h k c) refl

port_cases : (is_input : Bool) (signed : Bool) (bits : ℕ) (n : Name) (init : Option VLiteral) (r : List ℕ) → (is_input ≡ true → init ≡ None) → 1 ≤ bits → IsTrue (is_name n) → IfSome init IsValue → closes r ≡ true → port_at ((direction_text is_input ++ init_text signed bits n init) ++ r) ≡ Some (port_of is_input (net_of (signed, bits, n) init), r)
port_cases true signed bits n None r w some h k c = input_again signed bits n r some h c
port_cases true signed bits n (Some v) r w some h k c = absurd (clash (w refl))
  where
    clash : Some v ≡ None → ⊥
    clash e = absurd cc
port_cases false signed bits n init r w some h k c = output_again signed bits n init r some h k c

port_again : (p : VPort) (r : List ℕ) → IsPort p → closes r ≡ true → port_at (port_text p ++ r) ≡ Some (p, r)
port_again p r h c = port_cases p.is_input p.net.signed p.net.bits p.net.name p.net.init r h.wire h.net.bits h.net.name h.net.init c

abbrev Closes : List ℕ → Type 0
Closes r = closes r ≡ true

abbrev more_port_text : VPort → List ℕ
more_port_text q = codes ",\n" ++ port_text q

more_port_again : (p : VPort) (r : List ℕ) → IsPort p → Closes r → more_port_at (more_port_text p ++ r) ≡ Some (p, r)
unfolding more_port_at
more_port_again p r h c =
    ap more_port_at (append_assoc (codes ",\n") (port_text p) r) ∙ rw (after_again (codes ",\n") (port_text p ++ r)) (port_again p r h c)

no_more_ports : (rest : List ℕ) → more_port_at (codes "\n" ++ rest) ≡ None
unfolding more_port_at after
no_more_ports rest = refl

no_ports : (rest : List ℕ) → port_at (codes ");\n" ++ rest) ≡ None
unfolding port_at after
no_ports rest = refl

more_close : (ps : List VPort) (rest : List ℕ) → closes (more_ports_text ps ++ (codes "\n" ++ rest)) ≡ true
more_close [] rest = refl
more_close (p ∷ ps) rest = refl

join3 : (a b c r : List ℕ) → ((a ++ b) ++ c) ++ r ≡ a ++ (b ++ (c ++ r))
join3 a b c r = simp append_assoc refl

ports_again : (ps : List VPort) (rest : List ℕ) → AllByRecursion IsPort ps → ports_at (ports_text ps ++ (codes ");\n" ++ rest)) ≡ Some (ps, codes ");\n" ++ rest)
unfolding ports_at ports_from
ports_again [] rest h = rw (no_ports rest) refl
ports_again (p ∷ ps) rest h =
    let end = codes ");\n" ++ rest in
    let line = codes "\n" ++ end in
    let more = all_again more_port_at more_port_text IsPort Closes more_port_again (λ q. omega (arith, length-append (codes ",\n") (port_text q))) (λ q r. refl) line (no_more_ports end) refl ps h.1 in
    ap ports_at (join3 (port_text p) (more_ports_text ps) (codes "\n") end) ∙ rw (port_again p (more_ports_text ps ++ line) h.0 (more_close ps end), more, after_again (codes "\n") end) refl

-- ---- declarations

wire_decl_again : (signed : Bool) (bits : ℕ) (n r : List ℕ) → 1 ≤ bits → IsTrue (is_name n) → decl_at ((init_text signed bits n None ++ codes ";\n") ++ r) ≡ Some (NetDecl (net_of (signed, bits, n) None), r)
unfolding decl_at net_decl_at
wire_decl_again signed bits n r some h =
    let head = head_text signed (net_hi bits) n in
    let end = codes ";\n" ++ r in
    ap decl_at (join3 (codes "wire ") head (codes ";\n") r)
    ∙ rw (after_again (codes "wire ") (head ++ end), wire_again signed bits n end some h refl, after_again (codes ";\n") r) refl

-- `[hi:0] name = ` begins no memory
not_memory_name : (n r : List ℕ) → IsTrue (is_name n) → memory_head_at (n ++ r) ≡ None
unfolding memory_head_at
not_memory_name n r h = rw (no_bracket n r h) refl

no_depth : (r : List ℕ) → after (codes " [0:") (codes " = " ++ r) ≡ None
unfolding after
no_depth r = refl

not_memory_bits : (hi : ℕ) (n r : List ℕ) → IsTrue (is_name n) → memory_head_at ((codes "[" ++ number_text hi ++ codes ":0] ") ++ (n ++ (codes " = " ++ r))) ≡ None
unfolding memory_head_at
not_memory_bits hi n r h =
    let value = codes " = " ++ r in
    let end = codes ":0] " ++ (n ++ value) in
    simp append_assoc (rw (after_again (codes "[") (number_text hi ++ end), number_again hi end refl, after_again (codes ":0] ") (n ++ value), name_again n value h refl, no_depth r) refl)

signed_no_bracket : (r : List ℕ) → memory_head_at (codes "signed " ++ r) ≡ None
unfolding memory_head_at after
signed_no_bracket r = refl

not_memory : (signed : Bool) (hi : Option ℕ) (n r : List ℕ) → IsTrue (is_name n) → memory_head_at (signed_text signed ++ (bits_text hi ++ (n ++ (codes " = " ++ r)))) ≡ None
not_memory true hi n r h = signed_no_bracket (bits_text hi ++ (n ++ (codes " = " ++ r)))
not_memory false None n r h = not_memory_name n (codes " = " ++ r) h
not_memory false (Some hi) n r h = not_memory_bits hi n r h

not_memory_head : (signed : Bool) (hi : Option ℕ) (n r : List ℕ) → IsTrue (is_name n) → memory_head_at (head_text signed hi n ++ (codes " = " ++ r)) ≡ None
unfolding head_text
not_memory_head signed hi n r h = ap memory_head_at (join3 (signed_text signed) (bits_text hi) n (codes " = " ++ r)) ∙ not_memory signed hi n r h

join5 : (a b c d e r : List ℕ) → ((((a ++ b) ++ c) ++ d) ++ e) ++ r ≡ a ++ (b ++ (c ++ (d ++ (e ++ r))))
join5 a b c d e r = simp append_assoc refl

reg_decl_again : (signed : Bool) (bits : ℕ) (n : Name) (v : VLiteral) (r : List ℕ) → 1 ≤ bits → IsTrue (is_name n) → IsValue v → decl_at ((init_text signed bits n (Some v) ++ codes ";\n") ++ r) ≡ Some (NetDecl (net_of (signed, bits, n) (Some v)), r)
unfolding decl_at reg_decl_at net_decl_at
reg_decl_again signed bits n v r some h k =
    let head = head_text signed (net_hi bits) n in
    let end = codes ";\n" ++ r in
    let value = value_text v ++ end in
    let rest = head ++ (codes " = " ++ value) in
    ap decl_at (join5 (codes "reg ") head (codes " = ") (value_text v) (codes ";\n") r)
    ∙ rw (no_wire rest, after_again (codes "reg ") rest, not_memory_head signed (net_hi bits) n value h, reg_again signed bits n v end some h k refl, after_again (codes ";\n") r) refl

net_decl_again : (signed : Bool) (bits : ℕ) (n : Name) (init : Option VLiteral) (r : List ℕ) → 1 ≤ bits → IsTrue (is_name n) → IfSome init IsValue → decl_at ((init_text signed bits n init ++ codes ";\n") ++ r) ≡ Some (NetDecl (net_of (signed, bits, n) init), r)
net_decl_again signed bits n None r some h k = wire_decl_again signed bits n r some h
net_decl_again signed bits n (Some v) r some h k = reg_decl_again signed bits n v r some h k

memory_back : (m : VMemory) → IsMemory m → MemoryDecl (record { bits = m.bits - 1 + 1; name = m.name; depth = m.depth - 1 + 1 }) ≡ MemoryDecl m
memory_back m h =
    let b : m.bits - 1 + 1 ≡ m.bits = omega (arith, h.bits) in
    let d : m.depth - 1 + 1 ≡ m.depth = omega (arith, h.depth) in
    rw (b, d) refl

memory_again : (m : VMemory) (r : List ℕ) → IsMemory m → decl_at ((memory_text m ++ codes ";\n") ++ r) ≡ Some (MemoryDecl m, r)
unfolding decl_at reg_decl_at memory_head_at memory_from memory_text
memory_again m r h =
    let end = codes "];\n" ++ r in
    let depth = number_text (m.depth - 1) ++ end in
    let name = codes " [0:" ++ depth in
    let range = codes ":0] " ++ (m.name ++ name) in
    let first = number_text (m.bits - 1) ++ range in
    simp append_assoc (rw (no_wire (codes "[" ++ first), after_again (codes "reg ") (codes "[" ++ first), after_again (codes "[") first, number_again (m.bits - 1) range refl, after_again (codes ":0] ") (m.name ++ name), name_again m.name name h.name refl, after_again (codes " [0:") depth, number_again (m.depth - 1) end refl, after_again (codes "];\n") r) (ap (λ d. Some (d, r)) (memory_back m h)))

decl_again : (d : VDecl) (r : List ℕ) → IsDecl d → Unit {0} → decl_at (decl_text d ++ r) ≡ Some (d, r)
decl_again (NetDecl n) r h u = net_decl_again n.signed n.bits n.name n.init r h.bits h.name h.init
decl_again (MemoryDecl m) r h u = memory_again m r h

decl_len : (d : VDecl) → 1 ≤ length (decl_text d)
decl_len (NetDecl n) = omega (arith, length-append (net_text n) (codes ";\n"))
decl_len (MemoryDecl m) = omega (arith, length-append (memory_text m) (codes ";\n"))

-- ---- initial blocks

set_again : (s : VSet) (r : List ℕ) → IsSet s → Unit {0} → set_at (set_text s ++ r) ≡ Some (s, r)
unfolding set_at set_text
set_again s r h u =
    let end = codes ";\n" ++ r in
    let value = value_text s.value ++ end in
    let index = codes "] = " ++ value in
    let first = number_text s.index ++ index in
    simp append_assoc (rw (after_again (codes "    ") (s.name ++ (codes "[" ++ first)), name_again s.name (codes "[" ++ first) h.name refl, after_again (codes "[") first, number_again s.index index refl, after_again (codes "] = ") value, value_again s.value end h.value refl, after_again (codes ";\n") r) refl)

set_len : (s : VSet) → 1 ≤ length (set_text s)
unfolding set_text
set_len s = omega (arith, length-append (codes "    " ++ s.name ++ codes "[" ++ number_text s.index ++ codes "] = " ++ value_text s.value) (codes ";\n"))

no_set : (r : List ℕ) → set_at (codes "end\n" ++ r) ≡ None
unfolding set_at after
no_set r = refl

initial_again : (sets : List VSet) (r : List ℕ) → AllByRecursion IsSet sets → Unit {0} → initial_at (initial_text sets ++ r) ≡ Some (sets, r)
unfolding initial_at initial_text
initial_again sets r h u =
    let end = codes "end\n" ++ r in
    let lines = all_again set_at set_text IsSet (λ x. Unit {0}) set_again set_len (λ x y. tt) end (no_set r) tt sets h in
    simp append_assoc (rw (after_again (codes "initial begin\n") (flat_map set_text sets ++ end), lines, after_again (codes "end\n") r) refl)

initial_len : (sets : List VSet) → 1 ≤ length (initial_text sets)
unfolding initial_text
initial_len sets = omega (arith, length-append (codes "initial begin\n" ++ flat_map set_text sets) (codes "end\n"))

-- ---- assigns and always blocks

assign_again : (a : VAssign) (r : List ℕ) → IsAssign a → Unit {0} → assign_at (assign_text a ++ r) ≡ Some (a, r)
unfolding assign_at assign_text
assign_again a r h u =
    let end = codes ";\n" ++ r in
    let value = expr_text a.value ++ end in
    let sets = codes " = " ++ value in
    simp append_assoc (rw (after_again (codes "assign ") (a.name ++ sets), name_again a.name sets h.name refl, after_again (codes " = ") value, expr_again 32 a.value end h.value refl, after_again (codes ";\n") r) refl)

assign_len : (a : VAssign) → 1 ≤ length (assign_text a)
unfolding assign_text
assign_len a = omega (arith, length-append (codes "assign " ++ a.name ++ codes " = " ++ expr_text a.value) (codes ";\n"))

star_again : (r : List ℕ) → event_at (codes "*" ++ r) ≡ Some (None, r)
unfolding event_at after
star_again r = refl

no_star : (r : List ℕ) → after (codes "*") (codes "posedge " ++ r) ≡ None
unfolding after
no_star r = refl

event_again : (clock : Option Name) (r : List ℕ) → IfSome clock (λ c. IsTrue (is_name c)) → stops is_name_byte r ≡ true → event_at (event_text clock ++ r) ≡ Some (clock, r)
unfolding event_at clock_at
event_again None r h s = star_again r
event_again (Some c) r h s = ap event_at (append_assoc (codes "posedge ") c r) ∙ rw (no_star (c ++ r), after_again (codes "posedge ") (c ++ r), name_again c r h s) refl

always_again : (a : VAlways) (r : List ℕ) → IsAlways a → Unit {0} → always_at (always_text a ++ r) ≡ Some (a, r)
unfolding always_at always_text
always_again a r h u =
    let end = codes "end\n" ++ r in
    let body = block_text 1 a.body ++ end in
    let begin = codes ") begin\n" ++ body in
    simp append_assoc (rw (after_again (codes "always @(") (event_text a.clock ++ begin), event_again a.clock begin h.clock refl, after_again (codes ") begin\n") body, block_again 128 1 a.body end h.body (indent_ends 0 (codes "\n" ++ r)), after_again (codes "end\n") r) refl)

always_len : (a : VAlways) → 1 ≤ length (always_text a)
unfolding always_text
always_len a = omega (arith, length-append (codes "always @(" ++ event_text a.clock ++ codes ") begin\n" ++ block_text 1 a.body) (codes "end\n"))

-- ---- what follows a list of parts is no such part

after_decls : (inits : List (List VSet)) (assigns : List VAssign) (always : List VAlways) (r : List ℕ) → decl_at (flat_map initial_text inits ++ (flat_map assign_text assigns ++ (flat_map always_text always ++ (codes "endmodule\n" ++ r)))) ≡ None
unfolding decl_at after initial_text assign_text always_text
after_decls [] [] [] r = refl
after_decls [] [] (a ∷ always) r = refl
after_decls [] (a ∷ assigns) always r = refl
after_decls (i ∷ inits) assigns always r = refl

after_inits : (assigns : List VAssign) (always : List VAlways) (r : List ℕ) → initial_at (flat_map assign_text assigns ++ (flat_map always_text always ++ (codes "endmodule\n" ++ r))) ≡ None
unfolding initial_at after assign_text always_text
after_inits [] [] r = refl
after_inits [] (a ∷ always) r = refl
after_inits (a ∷ assigns) always r = refl

after_assigns : (always : List VAlways) (r : List ℕ) → assign_at (flat_map always_text always ++ (codes "endmodule\n" ++ r)) ≡ None
unfolding assign_at after always_text
after_assigns [] r = refl
after_assigns (a ∷ always) r = refl

after_always : (r : List ℕ) → always_at (codes "endmodule\n" ++ r) ≡ None
unfolding always_at after
after_always r = refl

-- A module is read again, whatever follows.
pub module_again : (m : VModule) (r : List ℕ) → IsModule m → module_at (module_text m ++ r) ≡ Some (m, r)
unfolding module_at module_text
module_again m r h =
    let end = codes "endmodule\n" ++ r in
    let always = flat_map always_text m.always ++ end in
    let assigns = flat_map assign_text m.assigns ++ always in
    let inits = flat_map initial_text m.inits ++ assigns in
    let decls = flat_map decl_text m.decls ++ inits in
    let ports = ports_text m.ports ++ (codes ");\n" ++ decls) in
    let a = all_again decl_at decl_text IsDecl (λ x. Unit {0}) decl_again decl_len (λ x y. tt) inits (after_decls m.inits m.assigns m.always r) tt m.decls h.decls in
    let b = all_again initial_at initial_text (λ ss. AllByRecursion IsSet ss) (λ x. Unit {0}) initial_again initial_len (λ x y. tt) assigns (after_inits m.assigns m.always r) tt m.inits h.inits in
    let c = all_again assign_at assign_text IsAssign (λ x. Unit {0}) assign_again assign_len (λ x y. tt) always (after_assigns m.always r) tt m.assigns h.assigns in
    let d = all_again always_at always_text IsAlways (λ x. Unit {0}) always_again always_len (λ x y. tt) end (after_always r) tt m.always h.always in
    simp append_assoc (rw (after_again (codes "module top (\n") ports, ports_again m.ports decls h.ports, after_again (codes ");\n") decls, a, b, c, d, after_again (codes "endmodule\n") r) refl)

pub module_of_again : (m : VModule) → IsModule m → module_of (module_text m) ≡ Some m
unfolding module_of
module_of_again m h = rw (whole_text ∙ module_again m [] h) refl
  where
    whole_text : module_at (module_text m) ≡ module_at (module_text m ++ [])
    whole_text = simp append-nil refl

-- Two modules never have the same text.
pub one_module : (m n : VModule) → IsModule m → IsModule n → module_text m ≡ module_text n → m ≡ n
one_module m n h k e = same_Some m n (sym (module_of_again m h) ∙ ap module_of e ∙ module_of_again n k)
