-- What reads as a module is its text.
use Rattle.std.proofs.Common.{◌≡◌, ℕ, zero, suc, ◌+◌, ◌-◌, ◌≤◌, Bool, true, false, cond, ◌==◌, List, [], ◌∷◌, ◌++◌, length, Option, Some, None, IfSome, IsTrue, nat_le, flat_map, codes, refl, sym, ap, ◌∙◌, append_assoc, append-nil, arith, leb-true}
use Rattle.std.specs.List.{AllByRecursion}
use Rattle.std.proofs.lemmas.Bool.{eqb-false, false≢true}
use Rattle.lx_vtext.specs.Names.{is_name}
use Rattle.lx_vtext.specs.Tree.{Name, VNet, VPort, VDecl, NetDecl, MemoryDecl, VSet, VModule}
use Rattle.lx_vtext.specs.Fits.{IsNet, IsPort, IsDecl, IsSet, IsAssign, IsAlways, IsModule}
use Rattle.lx_vtext.specs.Printed.{number_text, block_text, net_hi, bits_text, signed_text, head_text, value_text, net_text, port_text, more_ports_text, ports_text, memory_text, decl_text, set_text, initial_text, assign_text, event_text, always_text, module_text}
use Rattle.lx_vtext.specs.Reading.{Reader, after, block_at, with_item, many, all_at, signed_of, signed_at, width_at, bits_at, head_at, net_of, wire_at, reg_at, net_at, port_of, input_at, output_at, port_at, more_port_at, ports_from, ports_at, net_decl_at, memory_head_at, memory_from, reg_decl_at, decl_at, set_at, initial_at, assign_at, clock_at, event_at, always_at, made_module, module_at, whole, module_of}
use Rattle.lx_vtext.proofs.Gives.{Gives, gives_none, gives_some, and_then, if_given, if_true_or, weaken}
use Rattle.lx_vtext.proofs.Takes.{after_takes, name_takes, number_takes, value_takes, expr_takes, block_takes}

-- ---- lists of parts

abbrev Good : {A : Type 0} → (A → Type 0) → (A → List ℕ) → List ℕ → A × List ℕ → Type 0
Good P text bytes y = P y.0 × (bytes ≡ text y.0 ++ y.1)

abbrev GoodAll : {A : Type 0} → (A → Type 0) → (A → List ℕ) → List ℕ → List A × List ℕ → Type 0
GoodAll P text bytes y = AllByRecursion P y.0 × (bytes ≡ flat_map text y.0 ++ y.1)

item_cases : {A : Type 0} (P : A → Type 0) (text : A → List ℕ) (bytes : List ℕ) (o : Option (A × List ℕ)) (more : List ℕ → List A × List ℕ) → Gives o (Good P text bytes) → ((rest : List ℕ) → GoodAll P text rest (more rest)) → GoodAll P text bytes (with_item bytes o more)
item_cases P text bytes None more g f = (tt, refl)
item_cases P text bytes (Some x) more g f =
    let h = g.gives x refl in
    let m = f x.1 in
    ((h.0, m.0), h.1 ∙ ap (λ y. text x.0 ++ y) m.1 ∙ sym (append_assoc (text x.0) (flat_map text (more x.1).0) (more x.1).1))

many_take : {A : Type 0} (read : Reader A) (P : A → Type 0) (text : A → List ℕ) (n : ℕ) (bytes : List ℕ) → ((b : List ℕ) → Gives (read b) (Good P text b)) → GoodAll P text bytes (many read n bytes)
unfolding many
many_take read P text zero bytes t = (tt, refl)
many_take read P text (suc n) bytes t = item_cases P text bytes (read bytes) (λ rest. many read n rest) (t bytes) (λ rest. many_take read P text n rest t)

all_take : {A : Type 0} (read : Reader A) (P : A → Type 0) (text : A → List ℕ) (bytes : List ℕ) → ((b : List ℕ) → Gives (read b) (Good P text b)) → GoodAll P text bytes (all_at read bytes)
all_take read P text bytes t = many_take read P text (length bytes) bytes t

-- ---- nets

signed_cases : (bytes : List ℕ) (o : Option (List ℕ)) → Gives o (λ r. bytes ≡ codes "signed " ++ r) → bytes ≡ signed_text (signed_of bytes o).0 ++ (signed_of bytes o).1
signed_cases bytes None g = refl
signed_cases bytes (Some r) g = g.gives r refl

signed_takes : (bytes : List ℕ) → bytes ≡ signed_text (signed_at bytes).0 ++ (signed_at bytes).1
unfolding signed_at
signed_takes bytes = signed_cases bytes (after (codes "signed ") bytes) (after_takes (codes "signed ") bytes)

net_hi_cases : (hi : ℕ) (t : Bool) → nat_le (hi + 1) 1 ≡ t → (hi == 0) ≡ false → cond t None (Some (hi + 1 - 1)) ≡ Some hi
net_hi_cases hi true e f = let le = leb-true (hi + 1) 1 e in absurd (eqb-false hi 0 f (omega arith))
net_hi_cases hi false e f = let back : hi + 1 - 1 ≡ hi = omega arith in ap (λ n. Some n) back

net_hi_of : (hi : ℕ) → (hi == 0) ≡ false → net_hi (hi + 1) ≡ Some hi
net_hi_of hi f = net_hi_cases hi (nat_le (hi + 1) 1) refl f

abbrev GoodBits : List ℕ → ℕ × List ℕ → Type 0
GoodBits bytes y = (1 ≤ y.0) × (bytes ≡ bits_text (net_hi y.0) ++ y.1)

width_takes : (bytes whole : List ℕ) → whole ≡ codes "[" ++ bytes → Gives (width_at bytes) (GoodBits whole)
unfolding width_at
width_takes bytes whole w =
    and_then (number_takes bytes) (λ hi a. and_then (after_takes (codes ":0] ") hi.1) (λ r b. if_true_or (λ e. gives_none) (λ e.
    gives_some (hi.0 + 1, r) (omega arith, w ∙ ap (λ x. codes "[" ++ x) (a ∙ ap (λ x. number_text hi.0 ++ x) b) ∙ joined (number_text hi.0) r ∙ ap (λ o. bits_text o ++ r) (sym (net_hi_of hi.0 e))))))
  where
    joined : (n r : List ℕ) → codes "[" ++ (n ++ (codes ":0] " ++ r)) ≡ ((codes "[" ++ n) ++ codes ":0] ") ++ r
    joined n r = simp append_assoc refl

bits_takes : (bytes : List ℕ) → Gives (bits_at bytes) (GoodBits bytes)
unfolding bits_at
bits_takes bytes = if_given (after_takes (codes "[") bytes) (λ r a. width_takes r bytes a) (gives_some (1, bytes) (omega arith, refl))

abbrev GoodHead : List ℕ → (Bool × ℕ × Name) × List ℕ → Type 0
GoodHead bytes y = (1 ≤ y.0.1) × IsTrue (is_name y.0.2) × (bytes ≡ head_text y.0.0 (net_hi y.0.1) y.0.2 ++ y.1)

head_takes : (bytes : List ℕ) → Gives (head_at bytes) (GoodHead bytes)
unfolding head_at head_text
head_takes bytes =
    let s = signed_takes bytes in
    and_then (bits_takes (signed_at bytes).1) (λ bits a. and_then (name_takes bits.1) (λ n b.
    gives_some (((signed_at bytes).0, bits.0, n.0), n.1) (a.0, b.0, s ∙ ap (λ x. signed_text (signed_at bytes).0 ++ x) (a.1 ∙ ap (λ x. bits_text (net_hi bits.0) ++ x) b.1) ∙ joined (signed_text (signed_at bytes).0) (bits_text (net_hi bits.0)) n.0 n.1)))
  where
    joined : (a b c d : List ℕ) → a ++ (b ++ (c ++ d)) ≡ ((a ++ b) ++ c) ++ d
    joined a b c d = simp append_assoc refl

abbrev GoodNet : List ℕ → VNet × List ℕ → Type 0
GoodNet bytes y = IsNet y.0 × (bytes ≡ net_text y.0 ++ y.1)

-- a wire is a net without a first value
abbrev GoodWire : List ℕ → VNet × List ℕ → Type 0
GoodWire bytes y = IsNet y.0 × (y.0.init ≡ None) × (bytes ≡ net_text y.0 ++ y.1)

wire_takes : (bytes whole : List ℕ) → whole ≡ codes "wire " ++ bytes → Gives (wire_at bytes) (GoodWire whole)
unfolding wire_at
wire_takes bytes whole w =
    and_then (head_takes bytes) (λ h g.
    gives_some {P = GoodWire whole} (net_of h.0 None, h.1) (record { name = g.1; bits = g.0; init = tt }, refl, w ∙ ap (λ x. codes "wire " ++ x) g.2 ∙ sym (append_assoc (codes "wire ") (head_text h.0.0 (net_hi h.0.1) h.0.2) h.1)))

reg_takes : (bytes whole : List ℕ) → whole ≡ codes "reg " ++ bytes → Gives (reg_at bytes) (GoodNet whole)
unfolding reg_at
reg_takes bytes whole w =
    and_then (head_takes bytes) (λ h g. and_then (after_takes (codes " = ") h.1) (λ r a. and_then (value_takes r) (λ v k.
    gives_some {P = GoodNet whole} (net_of h.0 (Some v.0), v.1) (record { name = g.1; bits = g.0; init = k.0 }, w ∙ ap (λ x. codes "reg " ++ x) (g.2 ∙ ap (λ x. head_text h.0.0 (net_hi h.0.1) h.0.2 ++ x) (a ∙ ap (λ x. codes " = " ++ x) k.1)) ∙ joined (head_text h.0.0 (net_hi h.0.1) h.0.2) (value_text v.0) v.1))))
  where
    joined : (a b c : List ℕ) → codes "reg " ++ (a ++ (codes " = " ++ (b ++ c))) ≡ (((codes "reg " ++ a) ++ codes " = ") ++ b) ++ c
    joined a b c = simp append_assoc refl

net_takes : (bytes : List ℕ) → Gives (net_at bytes) (GoodNet bytes)
unfolding net_at
net_takes bytes = if_given (after_takes (codes "wire ") bytes) (λ r a. weaken (wire_takes r bytes a) (λ y g. (g.0, g.2))) (and_then (after_takes (codes "reg ") bytes) (λ r a. reg_takes r bytes a))

-- ---- ports

abbrev GoodPort : List ℕ → VPort × List ℕ → Type 0
GoodPort bytes y = IsPort y.0 × (bytes ≡ port_text y.0 ++ y.1)

input_takes : (bytes whole : List ℕ) → whole ≡ codes "    input " ++ bytes → Gives (input_at bytes) (GoodPort whole)
unfolding input_at
input_takes bytes whole w =
    and_then (after_takes (codes "wire ") bytes) (λ r a. and_then (wire_takes r bytes a) (λ n g.
    gives_some {P = GoodPort whole} (port_of true n.0, n.1) (record { net = g.0; wire = λ e. g.1 }, w ∙ ap (λ x. codes "    input " ++ x) g.2 ∙ sym (append_assoc (codes "    input ") (net_text n.0) n.1))))

output_takes : (bytes whole : List ℕ) → whole ≡ codes "    output " ++ bytes → Gives (output_at bytes) (GoodPort whole)
unfolding output_at
output_takes bytes whole w =
    and_then (net_takes bytes) (λ n g.
    gives_some {P = GoodPort whole} (port_of false n.0, n.1) (record { net = g.0; wire = λ e. absurd (false≢true e) }, w ∙ ap (λ x. codes "    output " ++ x) g.1 ∙ sym (append_assoc (codes "    output ") (net_text n.0) n.1)))

port_takes : (bytes : List ℕ) → Gives (port_at bytes) (GoodPort bytes)
unfolding port_at
port_takes bytes = if_given (after_takes (codes "    input ") bytes) (λ r a. input_takes r bytes a) (and_then (after_takes (codes "    output ") bytes) (λ r a. output_takes r bytes a))

abbrev more_port_text : VPort → List ℕ
more_port_text q = codes ",\n" ++ port_text q

more_port_takes : (bytes : List ℕ) → Gives (more_port_at bytes) (Good IsPort more_port_text bytes)
unfolding more_port_at
more_port_takes bytes =
    and_then (after_takes (codes ",\n") bytes) (λ r a. weaken (port_takes r) (λ y g. (g.0, a ∙ ap (λ x. codes ",\n" ++ x) g.1 ∙ sym (append_assoc (codes ",\n") (port_text y.0) y.1))))

abbrev GoodPorts : List ℕ → List VPort × List ℕ → Type 0
GoodPorts bytes y = AllByRecursion IsPort y.0 × (bytes ≡ ports_text y.0 ++ y.1)

ports_from_takes : (p : VPort) (bytes whole : List ℕ) → IsPort p → whole ≡ port_text p ++ bytes → Gives (ports_from p bytes) (GoodPorts whole)
unfolding ports_from
ports_from_takes p bytes whole h w =
    let m = all_take more_port_at IsPort more_port_text bytes more_port_takes in
    let ps = (all_at more_port_at bytes).0 in
    and_then (after_takes (codes "\n") (all_at more_port_at bytes).1) (λ r a.
    gives_some {P = GoodPorts whole} (p ∷ ps, r) ((h, m.0), w ∙ ap (λ x. port_text p ++ x) (m.1 ∙ ap (λ x. more_ports_text ps ++ x) a) ∙ joined (port_text p) (more_ports_text ps) r))
  where
    joined : (a b c : List ℕ) → a ++ (b ++ (codes "\n" ++ c)) ≡ ((a ++ b) ++ codes "\n") ++ c
    joined a b c = simp append_assoc refl

ports_takes : (bytes : List ℕ) → Gives (ports_at bytes) (GoodPorts bytes)
unfolding ports_at
ports_takes bytes = if_given (port_takes bytes) (λ p g. ports_from_takes p.0 p.1 bytes g.0 g.1) (gives_some {P = GoodPorts bytes} ([], bytes) (tt, refl))

-- ---- declarations

abbrev GoodDecl : List ℕ → VDecl × List ℕ → Type 0
GoodDecl bytes y = IsDecl y.0 × (bytes ≡ decl_text y.0 ++ y.1)

net_decl_takes : (read : Reader VNet) (bytes whole : List ℕ) → Gives (read bytes) (GoodNet whole) → Gives (net_decl_at read bytes) (GoodDecl whole)
unfolding net_decl_at
net_decl_takes read bytes whole t =
    and_then t (λ n g. and_then (after_takes (codes ";\n") n.1) (λ r a.
    gives_some {P = GoodDecl whole} (NetDecl n.0, r) (g.0, g.1 ∙ ap (λ x. net_text n.0 ++ x) a ∙ sym (append_assoc (net_text n.0) (codes ";\n") r))))

abbrev memory_front : ℕ × Name → List ℕ
memory_front head = codes "reg [" ++ number_text (head.0 - 1) ++ codes ":0] " ++ head.1 ++ codes " [0:"

abbrev GoodMemoryHead : List ℕ → (ℕ × Name) × List ℕ → Type 0
GoodMemoryHead whole y = (1 ≤ y.0.0) × IsTrue (is_name y.0.1) × (whole ≡ memory_front y.0 ++ y.1)

memory_head_takes : (bytes whole : List ℕ) → whole ≡ codes "reg " ++ bytes → Gives (memory_head_at bytes) (GoodMemoryHead whole)
unfolding memory_head_at
memory_head_takes bytes whole w =
    and_then (after_takes (codes "[") bytes) (λ b p. and_then (number_takes b) (λ hi a. and_then (after_takes (codes ":0] ") hi.1) (λ r c. and_then (name_takes r) (λ n g. and_then (after_takes (codes " [0:") n.1) (λ s d.
    gives_some {P = GoodMemoryHead whole} ((hi.0 + 1, n.0), s) (omega arith, g.0, rw (w, p, a, c, g.1, d) (joined (number_text hi.0) n.0 s ∙ ap (λ x. (codes "reg [" ++ number_text x ++ codes ":0] " ++ n.0 ++ codes " [0:") ++ s) (back hi.0))))))))
  where
    joined : (a b c : List ℕ) → codes "reg " ++ (codes "[" ++ (a ++ (codes ":0] " ++ (b ++ (codes " [0:" ++ c))))) ≡ (codes "reg [" ++ a ++ codes ":0] " ++ b ++ codes " [0:") ++ c
    joined a b c = simp append_assoc refl

    back : (n : ℕ) → n ≡ n + 1 - 1
    back n = omega arith

memory_from_takes : (head : ℕ × Name) (bytes whole : List ℕ) → 1 ≤ head.0 → IsTrue (is_name head.1) → whole ≡ memory_front head ++ bytes → Gives (memory_from head bytes) (GoodDecl whole)
unfolding memory_from memory_text
memory_from_takes head bytes whole some h w =
    and_then (number_takes bytes) (λ last a. and_then (after_takes (codes "];\n") last.1) (λ r b.
    gives_some {P = GoodDecl whole} (MemoryDecl (record { bits = head.0; name = head.1; depth = last.0 + 1 }), r)
    (record { name = h; bits = some; depth = omega arith }, w ∙ ap (λ x. memory_front head ++ x) (a ∙ ap (λ x. number_text last.0 ++ x) b) ∙ ap (λ x. memory_front head ++ (number_text x ++ (codes "];\n" ++ r))) (back last.0) ∙ joined (memory_front head) (number_text (last.0 + 1 - 1)) r)))
  where
    joined : (a b c : List ℕ) → a ++ (b ++ (codes "];\n" ++ c)) ≡ (((a ++ b) ++ codes "]") ++ codes ";\n") ++ c
    joined a b c = simp append_assoc refl

    back : (n : ℕ) → n ≡ n + 1 - 1
    back n = omega arith

reg_decl_takes : (bytes whole : List ℕ) → whole ≡ codes "reg " ++ bytes → Gives (reg_decl_at bytes) (GoodDecl whole)
unfolding reg_decl_at
reg_decl_takes bytes whole w = if_given (memory_head_takes bytes whole w) (λ h g. memory_from_takes h.0 h.1 whole g.0 g.1 g.2) (net_decl_takes reg_at bytes whole (reg_takes bytes whole w))

decl_takes : (bytes : List ℕ) → Gives (decl_at bytes) (GoodDecl bytes)
unfolding decl_at
decl_takes bytes =
    if_given (after_takes (codes "wire ") bytes) (λ r a. net_decl_takes wire_at r bytes (weaken (wire_takes r bytes a) (λ y g. (g.0, g.2)))) (and_then (after_takes (codes "reg ") bytes) (λ r a. reg_decl_takes r bytes a))

-- ---- initial blocks, assigns, always blocks

set_takes : (bytes : List ℕ) → Gives (set_at bytes) (Good IsSet set_text bytes)
unfolding set_at set_text
set_takes bytes =
    and_then (after_takes (codes "    ") bytes) (λ b p. and_then (name_takes b) (λ n g. and_then (after_takes (codes "[") n.1) (λ i a. and_then (number_takes i) (λ index c. and_then (after_takes (codes "] = ") index.1) (λ v d. and_then (value_takes v) (λ value k. and_then (after_takes (codes ";\n") value.1) (λ r e.
    gives_some (record { name = n.0; index = index.0; value = value.0 }, r) (record { name = g.0; value = k.0 }, rw (p, g.1, a, c, d, k.1, e) (simp append_assoc refl)))))))))

abbrev AreSets : List VSet → Type 0
AreSets sets = AllByRecursion IsSet sets

initial_takes : (bytes : List ℕ) → Gives (initial_at bytes) (Good AreSets initial_text bytes)
unfolding initial_at initial_text
initial_takes bytes =
    and_then (after_takes (codes "initial begin\n") bytes) (λ b a. let m = all_take set_at IsSet set_text b set_takes in and_then (after_takes (codes "end\n") (all_at set_at b).1) (λ r c.
    gives_some ((all_at set_at b).0, r) (m.0, a ∙ ap (λ x. codes "initial begin\n" ++ x) (m.1 ∙ ap (λ x. flat_map set_text (all_at set_at b).0 ++ x) c) ∙ joined (flat_map set_text (all_at set_at b).0) r)))
  where
    joined : (a b : List ℕ) → codes "initial begin\n" ++ (a ++ (codes "end\n" ++ b)) ≡ ((codes "initial begin\n" ++ a) ++ codes "end\n") ++ b
    joined a b = simp append_assoc refl

assign_takes : (bytes : List ℕ) → Gives (assign_at bytes) (Good IsAssign assign_text bytes)
unfolding assign_at assign_text
assign_takes bytes =
    and_then (after_takes (codes "assign ") bytes) (λ b p. and_then (name_takes b) (λ n g. and_then (after_takes (codes " = ") n.1) (λ v a. and_then (expr_takes 32 v) (λ e k. and_then (after_takes (codes ";\n") e.1) (λ r c.
    gives_some (record { name = n.0; value = e.0 }, r) (record { name = g.0; value = k.0 }, rw (p, g.1, a, k.1, c) (simp append_assoc refl)))))))

abbrev GoodEvent : List ℕ → Option Name × List ℕ → Type 0
GoodEvent bytes y = IfSome y.0 (λ c. IsTrue (is_name c)) × (bytes ≡ event_text y.0 ++ y.1)

event_takes : (bytes : List ℕ) → Gives (event_at bytes) (GoodEvent bytes)
unfolding event_at clock_at
event_takes bytes =
    if_given (after_takes (codes "*") bytes) (λ r a. gives_some {P = GoodEvent bytes} (None, r) (tt, a))
    (and_then (after_takes (codes "posedge ") bytes) (λ r a. and_then (name_takes r) (λ c g. gives_some {P = GoodEvent bytes} (Some c.0, c.1) (g.0, a ∙ ap (λ x. codes "posedge " ++ x) g.1 ∙ sym (append_assoc (codes "posedge ") c.0 c.1)))))

always_takes : (bytes : List ℕ) → Gives (always_at bytes) (Good IsAlways always_text bytes)
unfolding always_at always_text
always_takes bytes =
    and_then (after_takes (codes "always @(") bytes) (λ b p. and_then (event_takes b) (λ c g. and_then (after_takes (codes ") begin\n") c.1) (λ s a. let m = block_takes 128 1 s in and_then (after_takes (codes "end\n") (block_at 128 1 s).1) (λ r e.
    gives_some (record { clock = c.0; body = (block_at 128 1 s).0 }, r) (record { clock = g.0; body = m.0 }, rw (p, g.1, a) (ap (λ x. codes "always @(" ++ (event_text c.0 ++ (codes ") begin\n" ++ x))) (m.1 ∙ ap (λ x. block_text 1 (block_at 128 1 s).0 ++ x) e) ∙ joined (event_text c.0) (block_text 1 (block_at 128 1 s).0) r))))))
  where
    joined : (a b c : List ℕ) → codes "always @(" ++ (a ++ (codes ") begin\n" ++ (b ++ (codes "end\n" ++ c)))) ≡ ((((codes "always @(" ++ a) ++ codes ") begin\n") ++ b) ++ codes "end\n") ++ c
    joined a b c = simp append_assoc refl

-- ---- the module

joined_parts : (p d i a w r : List ℕ) → codes "module top (\n" ++ (p ++ (codes ");\n" ++ (d ++ (i ++ (a ++ (w ++ (codes "endmodule\n" ++ r))))))) ≡ (codes "module top (\n" ++ p ++ codes ");\n" ++ d ++ i ++ a ++ w ++ codes "endmodule\n") ++ r
joined_parts p d i a w r = simp append_assoc refl

-- What reads as a module, with what stands after it, is its text.
pub module_takes : (bytes : List ℕ) → Gives (module_at bytes) (Good IsModule module_text bytes)
unfolding module_at module_text
module_takes bytes =
    and_then (after_takes (codes "module top (\n") bytes) (λ b p. and_then (ports_takes b) (λ ps g. and_then (after_takes (codes ");\n") ps.1) (λ r q.
    let d = all_at decl_at r in
    let i = all_at initial_at d.1 in
    let a = all_at assign_at i.1 in
    let w = all_at always_at a.1 in
    let dg = all_take decl_at IsDecl decl_text r decl_takes in
    let ig = all_take initial_at AreSets initial_text d.1 initial_takes in
    let ag = all_take assign_at IsAssign assign_text i.1 assign_takes in
    let wg = all_take always_at IsAlways always_text a.1 always_takes in
    and_then (after_takes (codes "endmodule\n") w.1) (λ s e.
    gives_some {P = Good IsModule module_text bytes} (made_module ps.0 d.0 i.0 a.0 w.0, s) (
      record { ports = g.0; decls = dg.0; inits = ig.0; assigns = ag.0; always = wg.0 },
      rw (p, g.1, q) (ap (λ x. codes "module top (\n" ++ (ports_text ps.0 ++ (codes ");\n" ++ x)))
          (dg.1 ∙ ap (λ x. flat_map decl_text d.0 ++ x) (ig.1 ∙ ap (λ x. flat_map initial_text i.0 ++ x) (ag.1 ∙ ap (λ x. flat_map assign_text a.0 ++ x) (wg.1 ∙ ap (λ x. flat_map always_text w.0 ++ x) e))))
          ∙ joined_parts (ports_text ps.0) (flat_map decl_text d.0) (flat_map initial_text i.0) (flat_map assign_text a.0) (flat_map always_text w.0) s),
    )))))

whole_takes : (m : VModule) (rest bytes : List ℕ) → IsModule m → bytes ≡ module_text m ++ rest → Gives (whole (m, rest)) (λ n. IsModule n × (bytes ≡ module_text n))
whole_takes m [] bytes h e = gives_some m (h, e ∙ simp append-nil refl)
whole_takes m (b ∷ bs) bytes h e = gives_none

-- What reads as a module is its text.
pub module_of_takes : (bytes : List ℕ) → Gives (module_of bytes) (λ m. IsModule m × (bytes ≡ module_text m))
unfolding module_of
module_of_takes bytes = and_then (module_takes bytes) (λ y g. whole_takes y.0 y.1 bytes g.0 g.1)

pub reading_is_text : (bytes : List ℕ) → IfSome (module_of bytes) (λ m. IsModule m × (bytes ≡ module_text m))
reading_is_text bytes = by (module_of bytes) (module_of_takes bytes)
  where
    by : (o : Option VModule) → Gives o (λ m. IsModule m × (bytes ≡ module_text m)) → IfSome o (λ m. IsModule m × (bytes ≡ module_text m))
    by None g = tt
    by (Some m) g = g.gives m refl
