-- Six designs can be emitted, and their texts are those that were written by hand.
use Rattle.std.proofs.Common.{◌≡◌, ℕ, zero, suc, ◌+◌, ◌<◌, ◌≤◌, Bool, true, false, not, ◌&&◌, ◌||◌, List, [], ◌∷◌, length, nat_eq, refl, sym, ap, ◌∙◌, arith, inl, inr}
use Rattle.std.specs.Prelude.{Some, slice_get}
use Rattle.std.specs.List.{list_all, range_with_len}
use Rattle.std.proofs.lemmas.Bool.Decides.{nat_tests}
use Rattle.std.proofs.lemmas.Bool.{and_parts, eqb-true, or_cases, cases_eq, not-true}
use Rattle.lx_tables.specs.VerilogWords.{verilog_words}
use Rattle.lx_arena.specs.Folds.{fold_at}
use Rattle.lx_circuit.specs.Places.{Place, At, Word, Kept}
use Rattle.lx_circuit.specs.Circuit as circuit
use Rattle.lx_circuit.specs.Circuit.{Circuit, Role, role}
use Rattle.lx_circuit.specs.Reads.{HasOrder, reads_block, role_reads}
use Rattle.lx_vtext.specs.Names.{is_name}
use Rattle.lx_vtext.specs.Tree.{Name}
use Rattle.lx_vtext.specs.Printed.{number_text, literal_text, range_text, head_text, memory_text, set_text, initial_text, assign_text, always_text, module_text}
use Rattle.lx_fhdl.specs.Trees.{term_at}
use Rattle.lx_fhdl.specs.Stmts.{target_at, stmt_at}
use Rattle.lx_fhdl.specs.Designs.{circuit_of}
use Rattle.lx_fhdl.specs.Keeping.{Keeps, EachOf, is_distinct}
use Rattle.lx_fhdl.specs.Kept.{is_kept}
use Rattle.lx_fhdl.specs.Lowered.{IsLowered, is_no_pick}
use Rattle.lx_fhdl.specs.declared.design.Design.{Design}
use Rattle.lx_fhdl.proofs.Kept.{is_kept-is}
use Rattle.lx_emission.specs.Naming.{NamesFit, is_among, clock, nets_before, node_name, clock_name}
use Rattle.lx_emission.specs.Nodes.{node_shape, operand, node_text}
use Rattle.lx_emission.specs.Texts.{stmt_text}
use Rattle.lx_emission.specs.Signals.{own, drive, signal_net, signal_assign, signal_always}
use Rattle.lx_emission.specs.Memories.{first_words, port_text, memory_body, memory_always}
use Rattle.lx_emission.specs.Emission.{ports_of, is_port, inner_decl, memory_decls, node_decl, node_assign, decls_of, emitted}
use Rattle.lx_emission.specs.Emits.{CanBeEmitted, PortsFit, MemoriesFit, ShowsNothing}
use Rattle.lx_emission.specs.Instance.{toggle_exprs, toggle_targets, toggle_stmts, toggle_signals, toggle, toggle_names, toggle_text, swap_exprs, swap_targets, swap_stmts, swap_signals, swap, swap_names, swap_text, slices_exprs, slices_targets, slices_stmts, slices_signals, slices, slices_names, slices_text, mixed_exprs, mixed_targets, mixed_stmts, mixed_signals, mixed, mixed_names, mixed_text, branched_exprs, branched_targets, branched_stmts, branched_signals, branched, branched_names, branched_text, stored_exprs, stored_targets, stored_stmts, stored_signals, stored_memories, stored_ports, stored, stored_names, stored_text}
use Rattle.lx_emission.proofs.Roles.{no_reads}

-- ---- premises by tests

every : {T : Type 0} (P : T → Bool) (xs : List T) → list_all P xs ≡ true → (k : ℕ) (x : T) → slice_get xs k ≡ Some x → P x ≡ true
every P [] h k x e = absurd cc
every P (y ∷ ys) h zero x e = let same : y ≡ x = cc in ap P (sym same) ∙ (and_parts (P y) (list_all P ys) h).0
every P (y ∷ ys) h (suc k) x e = every P ys (and_parts (P y) (list_all P ys) h).1 k x e

counted : (P : ℕ → Bool) (i n : ℕ) → list_all P (range_with_len i n) ≡ true → (k : ℕ) → i ≤ k → k < i + n → P k ≡ true
counted P i zero h k low high = absurd (omega arith)
counted P i (suc n) h k low high =
    let p = and_parts (P i) (list_all P (range_with_len (i + 1) n)) h in
    elim (cases_eq i k) [
      | inl same ↦ ap P (sym same) ∙ p.0
      | inr other ↦ counted P (i + 1) n p.1 k (omega (arith, other)) (omega arith)
    ]

-- the tests of names
abbrev names_fit : Design → List Name → Bool
names_fit d names =
    nat_eq (length names) (length d.signals + length d.memories)
    && (list_all is_name names && (is_distinct names && list_all (λ k. not (is_among (clock d k) names)) (range_with_len 0 (length d.domains))))

named_by : (d : Design) (names : List Name) → names_fit d names ≡ true → ((n : ℕ) → is_among (node_name n) names ≡ false) → NamesFit d names
named_by d names h nodes =
    let p = and_parts (nat_eq (length names) (length d.signals + length d.memories)) _ h in
    let q = and_parts (list_all is_name names) _ p.1 in
    let r = and_parts (is_distinct names) _ q.1 in
    record {
      long = eqb-true (length names) (length d.signals + length d.memories) p.0;
      lawful = q.0;
      distinct = r.0;
      clocks = λ k lt. not-true (is_among (clock d k) names) (counted (λ i. not (is_among (clock d i) names)) 0 (length d.domains) r.1 k (omega arith) (omega arith));
      nodes = nodes;
    }

-- ---- an order of signals by their numbers

rank_of : Place → ℕ
rank_of (At x) = suc x
rank_of (Word m k) = 0
rank_of (Kept j) = 0

role_reads_nothing : (c : Circuit) → EachOf ShowsNothing c.ports → (x : ℕ) (y : Place) → role_reads c y (role c x) ≡ true → ⊥
role_reads_nothing c h x y = by (role c x) refl
  where
    by : (r : Role) → role c x ≡ r → role_reads c y r ≡ true → ⊥
    by circuit.Input e t = cc
    by circuit.Comb e t = cc
    by (circuit.Sync k) e t = cc
    by (circuit.Read j) e t = no_reads c h x j e
    by circuit.Undriven e t = cc

-- signals that stand after the signals that they read
pub order_by : (c : Circuit) → EachOf ShowsNothing c.ports → ((x y : ℕ) → reads_block x (At y) c.comb ≡ true → y < x) → HasOrder c
unfolding rank_of
order_by c h below = record { rank = rank_of; after = λ x y e. elim (or_cases (reads_block x y c.comb) (role_reads c y (role c x)) e) [ inl p ↦ lower x y p | inr p ↦ absurd (role_reads_nothing c h x y p) ] }
  where
    lower : (x : ℕ) (y : Place) → reads_block x y c.comb ≡ true → rank_of y < rank_of (At x)
    lower x (At z) p = let q = below x z p in omega arith
    lower x (Word m k) p = omega arith
    lower x (Kept j) p = omega arith

-- ---- designs without ports of memories

without_ports : (d : Design) → d.ports ≡ [] → MemoriesFit d
unfolding circuit_of
without_ports d none = record { show_nothing = rw none tt; one_domain = rw none tt }

-- ---- one domain with a reset

toggle_keeps : Keeps toggle
unfolding toggle_exprs toggle_targets toggle_stmts toggle_signals toggle circuit_of fold_at term_at target_at stmt_at is_kept
toggle_keeps = is_kept-is toggle refl

toggle_lowered : IsLowered toggle
unfolding toggle_exprs toggle_targets toggle_stmts toggle_signals toggle circuit_of fold_at term_at target_at stmt_at
toggle_lowered = record {
  exprs = every is_no_pick toggle_exprs refl;
  comb = tt;
  sync = ((record { signal = 1; alone = refl }, tt), tt);
}

toggle_order : HasOrder (circuit_of toggle)
unfolding toggle_exprs toggle_targets toggle_stmts toggle_signals toggle circuit_of fold_at term_at target_at stmt_at
toggle_order = order_by (circuit_of toggle) tt (λ x y h. absurd cc)

toggle_named : NamesFit toggle toggle_names
unfolding toggle_exprs toggle_targets toggle_stmts toggle_signals toggle node_name clock_name is_name verilog_words
toggle_named = named_by toggle toggle_names refl (λ n. refl)

toggle_io : PortsFit toggle
unfolding toggle_exprs toggle_targets toggle_stmts toggle_signals toggle circuit_of
toggle_io = record { once = refl; resets = refl }

toggle_fit : MemoriesFit toggle
unfolding toggle_exprs toggle_targets toggle_stmts toggle_signals toggle
toggle_fit = without_ports toggle refl

pub toggle_can : CanBeEmitted toggle toggle_names
toggle_can = record { keeps = toggle_keeps; lowered = toggle_lowered; order = toggle_order; named = toggle_named; ports = toggle_io; memories = toggle_fit }

pub toggle_is : module_text (emitted toggle toggle_names) ≡ toggle_text
unfolding toggle_exprs toggle_targets toggle_stmts toggle_signals toggle circuit_of fold_at term_at target_at stmt_at nets_before node_name clock_name node_shape operand node_text stmt_text own drive signal_net signal_assign signal_always first_words port_text memory_body memory_always ports_of is_port inner_decl memory_decls node_decl node_assign decls_of emitted number_text literal_text range_text head_text memory_text set_text initial_text assign_text always_text module_text
toggle_is = refl

-- ---- two domains

swap_keeps : Keeps swap
unfolding swap_exprs swap_targets swap_stmts swap_signals swap circuit_of fold_at term_at target_at stmt_at is_kept
swap_keeps = is_kept-is swap refl

swap_lowered : IsLowered swap
unfolding swap_exprs swap_targets swap_stmts swap_signals swap circuit_of fold_at term_at target_at stmt_at
swap_lowered = record {
  exprs = every is_no_pick swap_exprs refl;
  comb = tt;
  sync = ((record { signal = 0; alone = refl }, tt), ((record { signal = 1; alone = refl }, tt), tt));
}

swap_order : HasOrder (circuit_of swap)
unfolding swap_exprs swap_targets swap_stmts swap_signals swap circuit_of fold_at term_at target_at stmt_at
swap_order = order_by (circuit_of swap) tt (λ x y h. absurd cc)

swap_named : NamesFit swap swap_names
unfolding swap_exprs swap_targets swap_stmts swap_signals swap node_name clock_name is_name verilog_words
swap_named = named_by swap swap_names refl (λ n. refl)

swap_io : PortsFit swap
unfolding swap_exprs swap_targets swap_stmts swap_signals swap circuit_of
swap_io = record { once = refl; resets = refl }

swap_fit : MemoriesFit swap
unfolding swap_exprs swap_targets swap_stmts swap_signals swap
swap_fit = without_ports swap refl

pub swap_can : CanBeEmitted swap swap_names
swap_can = record { keeps = swap_keeps; lowered = swap_lowered; order = swap_order; named = swap_named; ports = swap_io; memories = swap_fit }

pub swap_is : module_text (emitted swap swap_names) ≡ swap_text
unfolding swap_exprs swap_targets swap_stmts swap_signals swap circuit_of fold_at term_at target_at stmt_at nets_before node_name clock_name node_shape operand node_text stmt_text own drive signal_net signal_assign signal_always first_words port_text memory_body memory_always ports_of is_port inner_decl memory_decls node_decl node_assign decls_of emitted number_text literal_text range_text head_text memory_text set_text initial_text assign_text always_text module_text
swap_is = refl

-- ---- slices of a combinatorial signal

slices_keeps : Keeps slices
unfolding slices_exprs slices_targets slices_stmts slices_signals slices circuit_of fold_at term_at target_at stmt_at is_kept
slices_keeps = is_kept-is slices refl

slices_lowered : IsLowered slices
unfolding slices_exprs slices_targets slices_stmts slices_signals slices circuit_of fold_at term_at target_at stmt_at
slices_lowered = record {
  exprs = every is_no_pick slices_exprs refl;
  comb = (record { signal = 1; alone = refl }, (record { signal = 1; alone = refl }, tt));
  sync = tt;
}

-- s stands after c, which its second assignment reads
slices_below : (x y : ℕ) → (nat_eq 1 x && false) || (((nat_eq 0 y && ((nat_eq 1 x || false) || false)) || (((nat_eq 1 x && false) || false) || false)) || false) ≡ true → y < x
slices_below x y h = grind (arith, nat_tests)

slices_order : HasOrder (circuit_of slices)
unfolding slices_exprs slices_targets slices_stmts slices_signals slices circuit_of fold_at term_at target_at stmt_at
slices_order = order_by (circuit_of slices) tt slices_below

slices_named : NamesFit slices slices_names
unfolding slices_exprs slices_targets slices_stmts slices_signals slices node_name clock_name is_name verilog_words
slices_named = named_by slices slices_names refl (λ n. refl)

slices_io : PortsFit slices
unfolding slices_exprs slices_targets slices_stmts slices_signals slices circuit_of
slices_io = record { once = refl; resets = refl }

slices_fit : MemoriesFit slices
unfolding slices_exprs slices_targets slices_stmts slices_signals slices
slices_fit = without_ports slices refl

pub slices_can : CanBeEmitted slices slices_names
slices_can = record { keeps = slices_keeps; lowered = slices_lowered; order = slices_order; named = slices_named; ports = slices_io; memories = slices_fit }

pub slices_is : module_text (emitted slices slices_names) ≡ slices_text
unfolding slices_exprs slices_targets slices_stmts slices_signals slices circuit_of fold_at term_at target_at stmt_at nets_before node_name clock_name node_shape operand node_text stmt_text own drive signal_net signal_assign signal_always first_words port_text memory_body memory_always ports_of is_port inner_decl memory_decls node_decl node_assign decls_of emitted number_text literal_text range_text head_text memory_text set_text initial_text assign_text always_text module_text
slices_is = refl

-- ---- operators, and a signal that nothing drives

mixed_keeps : Keeps mixed
unfolding mixed_exprs mixed_targets mixed_stmts mixed_signals mixed circuit_of fold_at term_at target_at stmt_at is_kept
mixed_keeps = is_kept-is mixed refl

mixed_lowered : IsLowered mixed
unfolding mixed_exprs mixed_targets mixed_stmts mixed_signals mixed circuit_of fold_at term_at target_at stmt_at
mixed_lowered = record {
  exprs = every is_no_pick mixed_exprs refl;
  comb = (record { signal = 2; alone = refl }, (record { signal = 3; alone = refl }, tt));
  sync = tt;
}

-- y and z stand after u and t, which they read
mixed_below : (x y : ℕ) → (nat_eq 2 x && ((nat_eq 0 y || nat_eq 1 y) || false)) || ((nat_eq 3 x && ((nat_eq 0 y || (nat_eq 1 y || false)) || false)) || false) ≡ true → y < x
mixed_below x y h = grind (arith, nat_tests)

mixed_order : HasOrder (circuit_of mixed)
unfolding mixed_exprs mixed_targets mixed_stmts mixed_signals mixed circuit_of fold_at term_at target_at stmt_at
mixed_order = order_by (circuit_of mixed) tt mixed_below

mixed_named : NamesFit mixed mixed_names
unfolding mixed_exprs mixed_targets mixed_stmts mixed_signals mixed node_name clock_name is_name verilog_words
mixed_named = named_by mixed mixed_names refl (λ n. refl)

mixed_io : PortsFit mixed
unfolding mixed_exprs mixed_targets mixed_stmts mixed_signals mixed circuit_of
mixed_io = record { once = refl; resets = refl }

mixed_fit : MemoriesFit mixed
unfolding mixed_exprs mixed_targets mixed_stmts mixed_signals mixed
mixed_fit = without_ports mixed refl

pub mixed_can : CanBeEmitted mixed mixed_names
mixed_can = record { keeps = mixed_keeps; lowered = mixed_lowered; order = mixed_order; named = mixed_named; ports = mixed_io; memories = mixed_fit }

pub mixed_is : module_text (emitted mixed mixed_names) ≡ mixed_text
unfolding mixed_exprs mixed_targets mixed_stmts mixed_signals mixed circuit_of fold_at term_at target_at stmt_at nets_before node_name clock_name node_shape operand node_text stmt_text own drive signal_net signal_assign signal_always first_words port_text memory_body memory_always ports_of is_port inner_decl memory_decls node_decl node_assign decls_of emitted number_text literal_text range_text head_text memory_text set_text initial_text assign_text always_text module_text
mixed_is = refl

-- ---- both branches of a condition

branched_keeps : Keeps branched
unfolding branched_exprs branched_targets branched_stmts branched_signals branched circuit_of fold_at term_at target_at stmt_at is_kept
branched_keeps = is_kept-is branched refl

branched_lowered : IsLowered branched
unfolding branched_exprs branched_targets branched_stmts branched_signals branched circuit_of fold_at term_at target_at stmt_at
branched_lowered = record {
  exprs = every is_no_pick branched_exprs refl;
  comb = (record { signal = 2; alone = refl }, (record { signal = 3; alone = refl }, (record { signal = 3; alone = refl }, tt)));
  sync = ((record { signal = 1; alone = refl }, tt), tt);
}

-- v and w stand after u and r, which they read
branched_below : (x y : ℕ) → (nat_eq 2 x && (nat_eq 0 y || false)) || ((nat_eq 3 x && (nat_eq 0 y || false)) || ((nat_eq 3 x && (nat_eq 1 y || false)) || false)) ≡ true → y < x
branched_below x y h = grind (arith, nat_tests)

branched_order : HasOrder (circuit_of branched)
unfolding branched_exprs branched_targets branched_stmts branched_signals branched circuit_of fold_at term_at target_at stmt_at
branched_order = order_by (circuit_of branched) tt branched_below

branched_named : NamesFit branched branched_names
unfolding branched_exprs branched_targets branched_stmts branched_signals branched node_name clock_name is_name verilog_words
branched_named = named_by branched branched_names refl (λ n. refl)

branched_io : PortsFit branched
unfolding branched_exprs branched_targets branched_stmts branched_signals branched circuit_of
branched_io = record { once = refl; resets = refl }

branched_fit : MemoriesFit branched
unfolding branched_exprs branched_targets branched_stmts branched_signals branched
branched_fit = without_ports branched refl

pub branched_can : CanBeEmitted branched branched_names
branched_can = record { keeps = branched_keeps; lowered = branched_lowered; order = branched_order; named = branched_named; ports = branched_io; memories = branched_fit }

pub branched_is : module_text (emitted branched branched_names) ≡ branched_text
unfolding branched_exprs branched_targets branched_stmts branched_signals branched circuit_of fold_at term_at target_at stmt_at nets_before node_name clock_name node_shape operand node_text stmt_text own drive signal_net signal_assign signal_always first_words port_text memory_body memory_always ports_of is_port inner_decl memory_decls node_decl node_assign decls_of emitted number_text literal_text range_text head_text memory_text set_text initial_text assign_text always_text module_text
branched_is = refl

-- ---- two memories

stored_keeps : Keeps stored
unfolding stored_exprs stored_targets stored_stmts stored_signals stored_memories stored_ports stored circuit_of fold_at term_at target_at stmt_at is_kept
stored_keeps = is_kept-is stored refl

stored_lowered : IsLowered stored
unfolding stored_exprs stored_targets stored_stmts stored_signals stored_memories stored_ports stored circuit_of fold_at term_at target_at stmt_at
stored_lowered = record {
  exprs = every is_no_pick stored_exprs refl;
  comb = (record { signal = 3; alone = refl }, (record { signal = 8; alone = refl }, tt));
  sync = tt;
}

-- r stands after adr, which it reads
stored_below : (x y : ℕ) → (nat_eq 3 x && (((nat_eq 0 y || false) || (nat_eq 0 y || false)) || false)) || ((nat_eq 8 x && false) || false) ≡ true → y < x
stored_below x y h = grind (arith, nat_tests)

stored_order : HasOrder (circuit_of stored)
unfolding stored_exprs stored_targets stored_stmts stored_signals stored_memories stored_ports stored circuit_of fold_at term_at target_at stmt_at
stored_order = order_by (circuit_of stored) (refl, (refl, tt)) stored_below

stored_named : NamesFit stored stored_names
unfolding stored_exprs stored_targets stored_stmts stored_signals stored_memories stored_ports stored node_name clock_name is_name verilog_words
stored_named = named_by stored stored_names refl (λ n. refl)

stored_io : PortsFit stored
unfolding stored_exprs stored_targets stored_stmts stored_signals stored_memories stored_ports stored circuit_of
stored_io = record { once = refl; resets = refl }

stored_fit : MemoriesFit stored
unfolding stored_exprs stored_targets stored_stmts stored_signals stored_memories stored_ports stored circuit_of
stored_fit = record { show_nothing = (refl, (refl, tt)); one_domain = (λ h. refl, (λ h. refl, tt)) }

pub stored_can : CanBeEmitted stored stored_names
stored_can = record { keeps = stored_keeps; lowered = stored_lowered; order = stored_order; named = stored_named; ports = stored_io; memories = stored_fit }

pub stored_is : module_text (emitted stored stored_names) ≡ stored_text
unfolding stored_exprs stored_targets stored_stmts stored_signals stored_memories stored_ports stored circuit_of fold_at term_at target_at stmt_at nets_before node_name clock_name node_shape operand node_text stmt_text own drive signal_net signal_assign signal_always first_words port_text memory_body memory_always ports_of is_port inner_decl memory_decls node_decl node_assign decls_of emitted number_text literal_text range_text head_text memory_text set_text initial_text assign_text always_text module_text
stored_is = refl
