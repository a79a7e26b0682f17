-- The module has a cycle meaning, and a text.
use Rattle.std.proofs.Common.{◌≡◌, ℕ, ◌≤◌, ◌<◌, ◌^◌, Bool, true, false, ◌&&◌, not, List, [], ◌∷◌, length, Option, Some, None, refl, sym, ap, subst, ◌∙◌, arith, nat_le, nat_lt, nat_eq}
use Rattle.std.specs.Prelude.{ℤ, IsTrue, IfSome, is_some, count_by, slice_index_or}
use Rattle.std.specs.List.{list_all, AllByRecursion}
use Rattle.std.proofs.lemmas.Bool.{le-leb, lt-ltb, and_parts, and_from, not_from_false}
use Rattle.std.proofs.lemmas.Nat.{pow_pos, mod_below}
use Rattle.lx_num.specs.declared.Shape.{Shape}
use Rattle.lx_num.specs.Ints.{modulo}
use Rattle.lx_circuit.specs.Circuit.{first_word}
use Rattle.lx_vtext.specs.Tree.{Name, VExpr, Literal, VBlock, VAlways, VModule}
use Rattle.lx_vtext.specs.Names.{is_name}
use Rattle.lx_vtext.specs.Fits.{IsNet, IsPort, IsMemory, IsSet, IsDecl, IsAssign, IsAlways, IsValue, IsModule}
use Rattle.lx_vmeaning.specs.Meaning.{Sizes}
use Rattle.lx_vmeaning.specs.Runs.{Driver, drivers, sizes}
use Rattle.lx_vmeaning.specs.Cycle.{HasCycleMeaning}
use Rattle.lx_vmeaning.specs.Naming.{HasNames, is_net, is_memory, is_register, is_readable, is_clock, names_fit, init_names, assign_names, always_names}
use Rattle.lx_vmeaning.specs.Widths.{HasWidths, is_declared_width, right_fits, value_fits, literal_fits, decl_bits, decl_value_fits, init_widths, assign_widths, always_widths}
use Rattle.lx_vmeaning.specs.Driving.{HasDrivers, is_clocked, net_driven, decl_driven}
use Rattle.lx_vmeaning.specs.Blocks as block
use Rattle.lx_vmeaning.specs.Blocks.{HasBlocks, always_fits, init_fits, is_full_block, blocks_of}
use Rattle.lx_vmeaning.proofs.Owns.{is_width-of, right_from_owns}
use Rattle.lx_fhdl.specs.Keeping.{Keeps, IsDomain}
use Rattle.lx_fhdl.specs.Designs.{circuit_of, memory_at}
use Rattle.lx_fhdl.specs.declared.design.Design.{Design}
use Rattle.lx_fhdl.proofs.Designs as design
use Rattle.lx_emission.specs.Naming.{net, nets_before, node_net, clock, memory_name, NamesFit}
use Rattle.lx_emission.specs.Nodes.{node_shape, operand, node_text}
use Rattle.lx_emission.specs.Signals.{Drive, Input, Undriven, CombAssign, CombBlock, Sync, drive, init_of, shape_of_signal, reset_of_signal, reset_text, signal_net}
use Rattle.lx_emission.specs.Memories.{set_line, memory_body, writing_domain}
use Rattle.lx_emission.specs.Emission.{signal_port, is_input_drive, emitted}
use Rattle.lx_emission.specs.Emits.{CanBeEmitted}
use Rattle.lx_emission.proofs.Setting.{IsNetNode, TermsAreSmall, LetsRead, OperandsFit, BlocksSetAlone, driver_by, clocked_drivers}
use Rattle.lx_emission.proofs.Names.{domain_at, memory_once}
use Rattle.lx_emission.proofs.Structure.{clock_port, node_wire, is_register_signal, is_register_node, clock_is_input, net_node_within}
use Rattle.lx_emission.proofs.Classes.{the_memory, declared_once}
use Rattle.lx_emission.proofs.Parts.{HoldsOfBlocks, lets_read, drive_within, writing_within, each_port, each_decl, each_assign, each_memory, each_init, each_always, ports_hold, decls_hold, inits_hold, assigns_hold, blocks_hold}
use Rattle.lx_emission.proofs.Drivers.{drivers_signal, drivers_node, drivers_clock, drivers_memory, drivers_none}
use Rattle.lx_emission.proofs.Fitting.{operands_fit, node_text_fits, reset_text_fits, signal_bits}
use Rattle.lx_emission.proofs.Lawful.{node_name_lawful, clock_name_lawful, net_lawful, memory_lawful, operands_lawful, node_text_lawful, reset_lawful, reset_value_lawful}
use Rattle.lx_emission.proofs.Blocks.{AlwaysFits, sets_alone, comb_fits, sync_fits}
use Rattle.lx_emission.proofs.BlockLawful.{comb_lawful, sync_lawful}
use Rattle.lx_emission.proofs.Inits.{AreBlocks, each_line, all_lines, block_of_one, own_block}
use Rattle.lx_emission.proofs.Writers.{sized}
use Rattle.lx_emission.proofs.WriteBlocks.{writes_alone, memory_fits, memory_body_lawful}
use Rattle.lx_emission.proofs.Loop.{DriversAre, assign_side, no_loop}
use Rattle.lx_fhdl.proofs.Resets.{each_of_at}

-- all expressions have 1 to 127 bits
pub terms_small : (d : Design) → Keeps d → TermsAreSmall d
unfolding node_shape
terms_small d keeps = record { each = λ k lt. design.term_small d keeps k lt }

-- each block assigns its own net or memory alone
blocks_set_alone : (d : Design) (names : List Name) → CanBeEmitted d names → BlocksSetAlone d names
blocks_set_alone d names can = record {
  each = λ x lt. sets_alone d names x can.keeps can.lowered (drive d x) refl;
  memories = λ k lt. writes_alone d names can.keeps k;
}

pub drivers_are : (d : Design) (names : List Name) → CanBeEmitted d names → DriversAre d names (emitted d names)
drivers_are d names can =
    let alone = blocks_set_alone d names can in
    record {
      signals = λ x lt. drivers_signal d names can.keeps can.named can.ports alone x lt;
      nodes = λ k is. drivers_node d names can.keeps can.named alone k is;
      clocks = λ k lt. drivers_clock d names can.keeps can.named alone k lt;
      memories = λ k lt. drivers_memory d names can.keeps can.named alone k lt;
      none = λ n a b c e. drivers_none d names can.keeps alone n a b c e;
    }

-- ---- what the parts of the proof need of the module

record Facts (d : Design) (names : List Name) (m : VModule) : Type 0 where
  are : DriversAre d names m
  small : TermsAreSmall d
  lets : LetsRead d names m
  operands : OperandsFit d names m

facts : (d : Design) (names : List Name) → CanBeEmitted d names → Facts d names (emitted d names)
facts d names can =
    let small = terms_small d can.keeps in
    let lets = lets_read d names can.keeps can.named can.ports in
    record { are = drivers_are d names can; small = small; lets = lets; operands = operands_fit d names (emitted d names) can.keeps can.lowered lets small }

-- the net of a signal that an assign drives is a wire
wire_of : (d : Design) (names : List Name) (x : ℕ) → CanBeEmitted d names → x < length d.signals → (g : Drive) → drive d x ≡ g → is_some (init_of (shape_of_signal d x) (reset_of_signal d x) g) ≡ false → not (is_register (emitted d names) (net names x)) ≡ true
wire_of d names x can lt g e none =
    let is = is_register_signal d names can.keeps can.named can.ports x lt in
    not_from_false (is_register (emitted d names) (net names x)) (is ∙ (ap (λ h. is_some (init_of (shape_of_signal d x) (reset_of_signal d x) h)) e ∙ none))

register_of : (d : Design) (names : List Name) (x : ℕ) → CanBeEmitted d names → x < length d.signals → (g : Drive) → drive d x ≡ g → is_some (init_of (shape_of_signal d x) (reset_of_signal d x) g) ≡ true → is_register (emitted d names) (net names x) ≡ true
register_of d names x can lt g e some =
    is_register_signal d names can.keeps can.named can.ports x lt ∙ (ap (λ h. is_some (init_of (shape_of_signal d x) (reset_of_signal d x) h)) e ∙ some)

-- a net that is readable is one
readable_net : (m : VModule) (n : Name) → is_readable m n ≡ true → is_net m n ≡ true
readable_net m n e = (and_parts (is_net m n) (not (is_clock m n)) e).0

-- ---- blocks

-- each always block may stand in the module
always_blocks : (d : Design) (names : List Name) → CanBeEmitted d names → HoldsOfBlocks (AlwaysFits (emitted d names)) d names
always_blocks d names can =
    let keeps = can.keeps in
    let m = emitted d names in
    let f = facts d names can in
    let input = λ (k : ℕ) (lt : k < length d.domains). (clock_is_input d names keeps can.named k lt).1 in
    record {
      comb = λ x body lt e. comb_fits d names m x keeps can.lowered f.lets f.operands (register_of d names x can lt (CombBlock body) e refl) lt (reset_text_fits d names m keeps x lt) body e;
      sync = λ x k body lt e. sync_fits d names m x keeps can.lowered f.lets f.operands (register_of d names x can lt (Sync k body) e refl) lt (reset_text_fits d names m keeps x lt) k body e (input k (drive_within d x k body e));
      memories = λ k x lt e. memory_fits d names m keeps f.lets k x e (input x (writing_within d keeps k x e));
    }

-- a test that all always blocks pass
tests_of_blocks : (P : VAlways → Bool) (d : Design) (names : List Name) → CanBeEmitted d names → ((a : VAlways) → AlwaysFits (emitted d names) a → P a ≡ true) → IsTrue (list_all P (emitted d names).always)
tests_of_blocks P d names can f =
    let blocks = always_blocks d names can in
    each_always P d names (record {
      comb = λ x body lt e. f _ (blocks.comb x body lt e);
      sync = λ x k body lt e. f _ (blocks.sync x k body lt e);
      memories = λ k x lt e. f _ (blocks.memories k x lt e);
    })

-- names and memories by number
pub memory_blocks : (d : Design) (names : List Name) → CanBeEmitted d names → AreBlocks (λ k. memory_name d names k) (λ k. memory_at d k) (length d.memories)
memory_blocks d names can = record {
  some = λ k lt. (sized d can.keeps k lt).depth_some;
  once = λ i j p q e. memory_once d names can.named i j p q e;
}

-- ---- names

wire_named : (m : VModule) (n : Name) (e : VExpr) → is_readable m n ≡ true → not (is_register m n) ≡ true → names_fit m e ≡ true → assign_names m (record { name = n; value = e }) ≡ true
wire_named m n e p q r = and_from (is_net m n && not (is_register m n)) (names_fit m e) (and_from (is_net m n) (not (is_register m n)) (readable_net m n p) q) r

names_of : (d : Design) (names : List Name) → CanBeEmitted d names → HasNames (emitted d names)
names_of d names can =
    let keeps = can.keeps in
    let m = emitted d names in
    let f = facts d names can in
    record {
      declared_once = declared_once d names keeps can.named can.ports;
      inits = each_init (λ b. init_names m b) d names (λ k lt. all_lines (λ x. is_memory m x.name) (memory_name d names k) (memory_at d k) (λ i. f.lets.memories k lt));
      assigns = each_assign (λ a. assign_names m a) d names
          (λ k is. wire_named m (node_net d.exprs k) (node_text d names k) (f.lets.nodes k is) (not_from_false (is_register m (node_net d.exprs k)) (is_register_node d names keeps can.named k is)) (node_text_fits d names m keeps can.lowered f.lets f.small k is).names)
          (λ x lt e. wire_named m (net names x) (reset_text d x) (f.lets.signals x lt) (wire_of d names x can lt Undriven e refl) (reset_text_fits d names m keeps x lt).names)
          (λ x value lt e. wire_named m (net names x) (operand d names value.place) (f.lets.signals x lt) (wire_of d names x can lt (CombAssign value) e refl) (f.operands.each value.place (assign_side d x value keeps can.lowered e).within).names);
      blocks = tests_of_blocks (λ a. always_names m a) d names can (λ a h. h.names);
    }

-- ---- widths

declared_width : (n : ℕ) → 1 ≤ n → n ≤ 127 → is_declared_width n ≡ true
declared_width n p q = and_from (nat_le 1 n) (nat_le n 127) (le-leb 1 n p) (le-leb n 127 q)

signal_width : (d : Design) → Keeps d → (x : ℕ) → x < length d.signals → is_declared_width (shape_of_signal d x).bits ≡ true
signal_width d keeps x lt = let bits = signal_bits d keeps x lt in declared_width (shape_of_signal d x).bits bits.0 (omega (arith, bits.1))

literal_width : (s : Sizes) (n bits value : ℕ) (signed : Bool) → n ≤ 128 → 1 ≤ bits → bits ≤ 128 → right_fits s n (Literal bits signed value) ≡ true
literal_width s n bits value signed le p q = right_from_owns s n (Literal bits signed value) le (is_width-of bits p q)

-- the first value of a signal's net
init_width : (s : Sizes) (d : Design) → Keeps d → (x : ℕ) → x < length d.signals → (g : Drive) → value_fits s (shape_of_signal d x).bits (init_of (shape_of_signal d x) (reset_of_signal d x) g) ≡ true
init_width s d keeps x lt Input = refl
init_width s d keeps x lt Undriven = refl
init_width s d keeps x lt (CombAssign value) = refl
init_width s d keeps x lt (CombBlock body) = let bits = signal_bits d keeps x lt in literal_width s (shape_of_signal d x).bits (shape_of_signal d x).bits (modulo (reset_of_signal d x) (2 ^ (shape_of_signal d x).bits)) (shape_of_signal d x).signed (omega (arith, bits.1)) bits.0 (omega (arith, bits.1))
init_width s d keeps x lt (Sync k body) = let bits = signal_bits d keeps x lt in literal_width s (shape_of_signal d x).bits (shape_of_signal d x).bits (modulo (reset_of_signal d x) (2 ^ (shape_of_signal d x).bits)) (shape_of_signal d x).signed (omega (arith, bits.1)) bits.0 (omega (arith, bits.1))

widths_of : (d : Design) (names : List Name) → CanBeEmitted d names → HasWidths (emitted d names)
unfolding signal_net
widths_of d names can =
    let keeps = can.keeps in
    let m = emitted d names in
    let s = sizes m in
    let f = facts d names can in
    record {
      ports = each_port (λ p. is_declared_width p.net.bits) d names keeps (signal_width d keeps) (λ k lt. refl);
      decls = each_decl (λ x. is_declared_width (decl_bits x)) d names (signal_width d keeps)
          (λ k is. let bits = f.small.each k (net_node_within d k is) in declared_width (node_shape d k).bits bits.some bits.most)
          (λ k lt. let size = sized d keeps k lt in declared_width (memory_at d k).width size.width_some (omega (arith, size.width_most)));
      port_values = each_port (λ p. value_fits s p.net.bits p.net.init) d names keeps (λ x lt. init_width s d keeps x lt (drive d x)) (λ k lt. refl);
      decl_values = each_decl (λ x. decl_value_fits s x) d names (λ x lt. init_width s d keeps x lt (drive d x)) (λ k is. refl) (λ k lt. refl);
      inits = each_init (λ b. init_widths s b) d names (λ k lt.
          let size = sized d keeps k lt in
          let bits = ap (λ z. z.bits) (f.lets.declares.memories k lt) in
          all_lines (λ x. literal_fits s (s x.name).bits x.value) (memory_name d names k) (memory_at d k)
          (λ i. literal_width s (s (memory_name d names k)).bits (memory_at d k).width (first_word (memory_at d k) i) false (omega (arith, bits, size.width_most)) size.width_some (omega (arith, size.width_most))));
      assigns = each_assign (λ a. assign_widths s a) d names
          (λ k is.
          let bits = f.small.each k (net_node_within d k is) in
          let own = ap (λ z. z.bits) (f.lets.declares.nodes k is) in
          right_from_owns s (s (node_net d.exprs k)).bits (node_text d names k) (omega (arith, own, bits.most)) (node_text_fits d names m keeps can.lowered f.lets f.small k is).widths)
          (λ x lt e.
          let bits = signal_bits d keeps x lt in
          let own = ap (λ z. z.bits) (f.lets.declares.signals x lt) in
          right_from_owns s (s (net names x)).bits (reset_text d x) (omega (arith, own, bits.1)) (reset_text_fits d names m keeps x lt).widths)
          (λ x value lt e.
          let bits = signal_bits d keeps x lt in
          let own = ap (λ z. z.bits) (f.lets.declares.signals x lt) in
          right_from_owns s (s (net names x)).bits (operand d names value.place) (omega (arith, own, bits.1)) (f.operands.each value.place (assign_side d x value keeps can.lowered e).within).widths);
      blocks = tests_of_blocks (λ a. always_widths s a) d names can (λ a h. h.widths);
    }

-- ---- drivers

one_driver : (ds : List Driver) (x : Driver) → ds ≡ x ∷ [] → nat_eq (length ds) 1 ≡ true
one_driver ds x e = rw e refl

clocked_most : (d : Design) (body : VBlock) (o : Option ℕ) → nat_le (count_by is_clocked (clocked_drivers d body o)) 1 ≡ true
clocked_most d body None = refl
clocked_most d body (Some x) = refl

drivers_of : (d : Design) (names : List Name) → CanBeEmitted d names → HasDrivers (emitted d names)
unfolding signal_net
drivers_of d names can =
    let m = emitted d names in
    let are = drivers_are d names can in
    let signal = λ (x : ℕ) (lt : x < length d.signals). one_driver (drivers m (net names x)) (driver_by d names x (drive d x)) (are.signals x lt) in
    record {
      ports = each_port (λ p. net_driven m p.net) d names can.keeps signal (λ k lt. one_driver (drivers m (clock d k)) _ (are.clocks k lt));
      decls = each_decl (λ x. decl_driven m x) d names signal (λ k is. one_driver (drivers m (node_net d.exprs k)) _ (are.nodes k is))
          (λ k lt. ap (λ ds. nat_le (count_by is_clocked ds) 1) (are.memories k lt) ∙ clocked_most d (memory_body d names k) (writing_domain k (circuit_of d).ports));
    }

-- ---- the cycle meaning

own_blocks : (d : Design) (names : List Name) → CanBeEmitted d names → (k : ℕ) → k < length d.memories → is_full_block (the_memory d names k) (blocks_of (memory_name d names k) (emitted d names).inits) ≡ true
unfolding emitted
own_blocks d names can k lt = own_block (λ i. memory_name d names i) (λ i. memory_at d i) d.memories k (memory_blocks d names can) lt

blocks_have : (d : Design) (names : List Name) → CanBeEmitted d names → HasBlocks (emitted d names)
blocks_have d names can = record {
  memories = each_memory (λ x. block.memory_fits (emitted d names) x) d names (own_blocks d names can);
  inits = each_init init_fits d names (λ k lt. block_of_one (memory_name d names k) (memory_at d k) (sized d can.keeps k lt).depth_some);
  always = tests_of_blocks always_fits d names can (λ a h. h.fits);
}

pub cycle_meaning : (d : Design) (names : List Name) → CanBeEmitted d names → HasCycleMeaning (emitted d names)
cycle_meaning d names can = record {
  names = names_of d names can;
  widths = widths_of d names can;
  drivers = drivers_of d names can;
  blocks = blocks_have d names can;
  no_loop = no_loop d names can.keeps can.lowered can.order can.named (emitted d names) (drivers_are d names can);
}

-- ---- the text

clock_lawful : (d : Design) → Keeps d → (k : ℕ) → k < length d.domains → IsTrue (is_name (clock d k))
clock_lawful d keeps k lt =
    let at = domain_at d k lt in
    let is = each_of_at (IsDomain d) d.domains keeps.domains k at.domain at.there in
    subst (λ (n : Name). IsTrue (is_name n)) (sym at.clock) (clock_name_lawful at.domain.name is.name)

init_lawful : (d : Design) → Keeps d → (x : ℕ) → x < length d.signals → (g : Drive) → IfSome (init_of (shape_of_signal d x) (reset_of_signal d x) g) IsValue
init_lawful d keeps x lt Input = tt
init_lawful d keeps x lt Undriven = tt
init_lawful d keeps x lt (CombAssign value) = tt
init_lawful d keeps x lt (CombBlock body) = reset_value_lawful d keeps x lt
init_lawful d keeps x lt (Sync k body) = reset_value_lawful d keeps x lt

signal_lawful : (d : Design) (names : List Name) → Keeps d → NamesFit d names → (x : ℕ) → x < length d.signals → IsNet (signal_net d names x)
unfolding signal_net
signal_lawful d names keeps fit x lt = record { name = net_lawful d names fit x lt; bits = (signal_bits d keeps x lt).0; init = init_lawful d keeps x lt (drive d x) }

node_lawful : (d : Design) → TermsAreSmall d → (k : ℕ) → IsNetNode d k → IsNet (node_wire d k)
node_lawful d small k is = record { name = node_name_lawful (nets_before d.exprs k); bits = (small.each k (net_node_within d k is)).some; init = tt }

-- an input has no first value
input_init : (s : Shape) (z : ℤ) (g : Drive) → is_input_drive g ≡ true → init_of s z g ≡ None
input_init s z Input e = refl
input_init s z Undriven e = refl
input_init s z (CombAssign value) e = refl
input_init s z (CombBlock body) e = absurd cc
input_init s z (Sync k body) e = absurd cc

port_lawful : (d : Design) (names : List Name) → Keeps d → NamesFit d names → (x : ℕ) → x < length d.signals → IsPort (signal_port d names x)
unfolding signal_net
port_lawful d names keeps fit x lt = record { net = signal_lawful d names keeps fit x lt; wire = input_init (shape_of_signal d x) (reset_of_signal d x) (drive d x) }

clock_port_lawful : (d : Design) → Keeps d → (k : ℕ) → k < length d.domains → IsPort (clock_port d k)
clock_port_lawful d keeps k lt = record { net = record { name = clock_lawful d keeps k lt; bits = omega arith; init = tt }; wire = λ e. refl }

memory_decl_lawful : (d : Design) (names : List Name) → Keeps d → NamesFit d names → (k : ℕ) → k < length d.memories → IsMemory (the_memory d names k)
memory_decl_lawful d names keeps fit k lt = let size = sized d keeps k lt in record { name = memory_lawful d names fit k lt; bits = size.width_some; depth = size.depth_some }

line_lawful : (d : Design) (names : List Name) → Keeps d → NamesFit d names → (k i : ℕ) → k < length d.memories → IsSet (set_line (memory_name d names k) (memory_at d k) i)
line_lawful d names keeps fit k i lt =
    let size = sized d keeps k lt in
    let m = memory_at d k in
    record {
      name = memory_lawful d names fit k lt;
      value = and_from (nat_le 1 m.width && nat_le m.width 128) (nat_lt (first_word m i) (2 ^ m.width))
          (and_from (nat_le 1 m.width) (nat_le m.width 128) (le-leb 1 m.width size.width_some) (le-leb m.width 128 (omega (arith, size.width_most))))
          (lt-ltb (first_word m i) (2 ^ m.width) (mod_below (slice_index_or m.init i 0) (2 ^ m.width) (pow_pos m.width)));
    }

pub lawful : (d : Design) (names : List Name) → CanBeEmitted d names → IsModule (emitted d names)
lawful d names can =
    let keeps = can.keeps in
    let fit = can.named in
    let small = terms_small d keeps in
    let operands = operands_lawful d names keeps can.lowered fit small in
    record {
      ports = ports_hold IsPort d names keeps (port_lawful d names keeps fit) (clock_port_lawful d keeps);
      decls = decls_hold IsDecl d names (signal_lawful d names keeps fit) (node_lawful d small) (memory_decl_lawful d names keeps fit);
      inits = inits_hold (λ sets. AllByRecursion IsSet sets) d names (λ k lt. each_line IsSet (memory_name d names k) (memory_at d k) (λ i h. line_lawful d names keeps fit k i lt));
      assigns = assigns_hold IsAssign d names
          (λ k is. record { name = node_name_lawful (nets_before d.exprs k); value = node_text_lawful d names keeps can.lowered fit small k is })
          (λ x lt e. record { name = net_lawful d names fit x lt; value = reset_lawful d keeps x lt 32 })
          (λ x value lt e. record { name = net_lawful d names fit x lt; value = operands.each value.place 32 (assign_side d x value keeps can.lowered e).within });
      always = blocks_hold IsAlways d names (record {
        comb = λ x body lt e. record { clock = tt; body = comb_lawful d names x keeps can.lowered operands fit lt (reset_lawful d keeps x lt) body e };
        sync = λ x k body lt e. record { clock = clock_lawful d keeps k (drive_within d x k body e); body = sync_lawful d names x keeps can.lowered operands fit lt (reset_lawful d keeps x lt) k body e };
        memories = λ k x lt e. record { clock = clock_lawful d keeps x (writing_within d keeps k x e); body = memory_body_lawful d names keeps fit k };
      });
    }
