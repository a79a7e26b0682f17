-- Steps worked by hand.
use Rattle.std.specs.Prelude.{◌≡◌, ℕ, zero, suc, Bool, true, false, List, [], ◌∷◌, drop, map, codes, pos, Option, Some, None, Result, Ok, Err}
use Rattle.lx_text.specs.declared.faults.LimitKind.TheVariants as limit
use Rattle.lx_text.specs.declared.faults.Kind.TheVariants as kind
use Rattle.lx_num.specs.Ints.{unsigned}
use Rattle.lx_fhdl.specs.Drafts.{started}
use Rattle.lx_fhdl.specs.Instance.{signal_of, the_expr, the_signal, the_target}
use Rattle.lx_fhdl.specs.declared.exprs.Expr.{Expr}
use Rattle.lx_fhdl.specs.declared.exprs.Expr.TheVariants as expr
use Rattle.lx_fhdl.specs.declared.stmts.Target.{Target}
use Rattle.lx_fhdl.specs.declared.stmts.Target.TheVariants as target
use Rattle.lx_fhdl.specs.declared.design.Signal.{Signal}
use Rattle.lx_state.specs.declared.values.Value.{Value}
use Rattle.lx_state.specs.declared.values.Value.TheVariants as value
use Rattle.lx_state.specs.declared.machine.Fsm.{Fsm}
use Rattle.lx_state.specs.declared.machine.Items.{Items}
use Rattle.lx_state.specs.declared.machine.Binding.TheVariants as binding
use Rattle.lx_state.specs.declared.machine.DomainState.{DomainState}
use Rattle.lx_state.specs.declared.machine.Leaves.{Leaves}
use Rattle.lx_state.specs.declared.machine.Leaves.TheVariants as leaves
use Rattle.lx_state.specs.declared.machine.Machine.{Machine}
use Rattle.lx_state.specs.declared.machine.Made.{Made}
use Rattle.lx_state.specs.declared.machine.Object.{Object}
use Rattle.lx_state.specs.declared.machine.Ongoing.{Ongoing}
use Rattle.lx_state.specs.declared.machine.Owner.{Owner}
use Rattle.lx_state.specs.declared.machine.Pair.{Pair}
use Rattle.lx_state.specs.declared.machine.Form.{Form}
use Rattle.lx_state.specs.declared.machine.Form.TheVariants as form
use Rattle.lx_state.specs.declared.machine.Module.{Module}
use Rattle.lx_state.specs.declared.machine.ModuleKind.TheVariants as bases
use Rattle.lx_state.specs.declared.machine.Specials.{Specials}
use Rattle.lx_state.specs.declared.machine.Submodule.{Submodule}
use Rattle.lx_state.specs.declared.machine.What.{What}
use Rattle.lx_state.specs.declared.machine.What.TheVariants as what
use Rattle.lx_state.specs.Naming.{item_name}
use Rattle.lx_state.specs.Step.{Outcome, Step, give, ◌>>=◌}
use Rattle.lx_state.specs.Worked.{seen, start}
use Rattle.lx_objects.specs.Cases.{case_made}
use Rattle.lx_objects.specs.Crossings.{multireg_made}
use Rattle.lx_objects.specs.Domains.{clock_domain_made, declare_bound}
use Rattle.lx_objects.specs.Fsms.{act_made, fsm_made, new_fsm, ongoing_made}
use Rattle.lx_objects.specs.Ios.{ios_of}
use Rattle.lx_objects.specs.Modules.{add_comb, add_module, add_modules, add_sync, module_count, set_attribute}
use Rattle.lx_objects.specs.Signals.{part_made, signal_made}
use Rattle.lx_objects.specs.Statements.{elif_made, else_made, if_made, next_state_made, next_value_made}

abbrev pub a_module : Option ℕ → ℕ → Module
a_module added room = record { object = 0; class = 0; kind = bases.Plain; attributes = []; bound = []; comb = []; sync = []; submodules = []; added = added; room = room }

abbrev pub rooms : Machine → List ℕ
rooms m = map (λ x. x.room) m.modules

-- a statement of so many nodes
abbrev pub a_statement : ℕ → Made
a_statement size = record { form = form.Else 0 []; line = 1; size = size; depth = 1; in_state = false }

abbrev pub items : List Value → Leaves → ℕ → Items
items values hangs size = record { values = values; depth = 1; leaves = hangs; size = size; named = binding.Nowhere }

-- a module, two statements of 3 and 5 nodes, and `[s1, [s0, s1]]`, `[[], []]`, `[s0, 1]`
abbrev pub fragment : Machine
fragment = record start {
  modules = a_module None 63 ∷ [];
  made = a_statement 3 ∷ a_statement 5 ∷ [];
  lists = items (value.Made 0 ∷ value.Made 1 ∷ []) leaves.Statements 8 ∷ items (value.Made 1 ∷ value.List 0 ∷ []) leaves.Statements 13 ∷ items [] leaves.Nothing 0 ∷ items (value.List 2 ∷ value.List 2 ∷ []) leaves.Nothing 0 ∷ items (value.Made 0 ∷ value.Int (pos 1) ∷ []) leaves.Others 3 ∷ [];
}

abbrev pub combs : Machine → List (List ℕ)
combs m = map (λ x. x.comb) m.modules

abbrev pub domain_names : Machine → List (List ℕ)
domain_names m = map (λ e. e.0) m.domains

abbrev pub nodes : Machine → ℕ
nodes m = m.nodes

abbrev pub sizes : Machine → List (ℕ × ℕ)
sizes m = map (λ (x : Made). (x.line, x.size)) m.made

abbrev pub owners : Machine → List Owner
owners m = m.owners

-- a signal of so many bits
abbrev pub a_signal : ℕ → Signal
a_signal bits = record { path = []; shape = unsigned bits; reset = pos 0; reset_less = false; by_bus = false; line = 9 }

abbrev pub new_forms : Machine → List Form
new_forms m = drop 2 (map (λ (x : Made). x.form) m.made)

abbrev pub pair : Value → Value → Pair
pair k v = record { key = k; value = v }

-- with the texts `default` and `other`
abbrev pub keyed : Machine
keyed = record fragment { texts = codes "default" ∷ codes "other" ∷ [] }

-- ---- clock domains

abbrev pub an_object : What → Object
an_object what_ = record { what = what_; line = 1; maker = None; given = None; by_attribute = None; by_local = None; home = None }

abbrev pub a_clock_domain : Bool → Object
a_clock_domain reset = an_object (what.ClockDomain (record { reset = reset; bound = false }))

-- the domain `sys` was mentioned; a `ClockDomain` without a reset, and one with a reset
abbrev pub clocked : Machine
clocked = record start {
  objects = a_clock_domain false ∷ a_clock_domain true ∷ [];
  domains = (codes "sys", record { declared = false; reset = true }) ∷ [];
}

abbrev pub domains : Machine → List (List ℕ × DomainState)
domains m = m.domains

abbrev pub declared : Bool → DomainState
declared reset = record { declared = true; reset = reset }

-- the `ClockDomain` at a place is bound to an attribute
abbrev pub bind_domain : List ℕ → ℕ → Step (Unit {0})
bind_domain name at = declare_bound 9 name (value.Object at)

-- so many domains are made and bound
abbrev pub bind_new : ℕ → Step (Unit {0})
bind_new k = clock_domain_made 9 true >>= declare_bound 9 (item_name (codes "d") k)

abbrev pub bind_many : ℕ → Step (Unit {0})
bind_many zero = give tt
bind_many (suc k) = bind_many k >>= λ _. bind_new k

-- ---- crossings

-- the signals a of 4 bits and o of 1 bit, and the expression a
abbrev pub crossing : Machine
crossing = record start {
  shaped = record (started (signal_of (codes "a") 4 0 ∷ signal_of (codes "o") 1 0 ∷ []) []) { exprs = expr.Sig (the_signal 0) ∷ [] };
}

-- a goes into the domain `pix` through so many registers, and then to o
abbrev pub cross : ℕ → Outcome Value
cross count = multireg_made 9 (the_expr 0) (unsigned 4) (the_signal 1) (codes "pix") count crossing

abbrev pub forms : Machine → List Form
forms m = map (λ (x : Made). x.form) m.made

abbrev pub targets : Machine → List Target
targets m = m.shaped.targets

abbrev pub exprs : Machine → List Expr
exprs m = m.shaped.exprs

abbrev pub new_signals : Machine → List Signal
new_signals m = drop 2 m.shaped.signals

abbrev pub specials : Machine → Specials
specials m = m.specials

abbrev pub a_part : List ℕ → Owner
a_part name = record { object = 0; part = Some name }

abbrev pub a_register : Signal
a_register = record { path = []; shape = unsigned 4; reset = pos 0; reset_less = true; by_bus = false; line = 9 }

-- ---- state machines

abbrev pub fsms : Machine → List Fsm
fsms m = m.fsms

abbrev pub an_fsm : Fsm
an_fsm = new_fsm 0 0 (the_signal 0) None

-- the statements above, and an FSM without states
abbrev pub staged : Machine
staged = record fragment { fsms = an_fsm ∷ [] }

-- so many states
abbrev pub many_states : ℕ → List (List ℕ × ℕ)
many_states zero = []
many_states (suc k) = (item_name (codes "s") k, k) ∷ many_states k

abbrev pub with_states : ℕ → Machine
with_states count = record start { fsms = record an_fsm { names = many_states count } ∷ [] }

-- two calls for one state, and between them one for another
abbrev pub acts : Step Value
acts = act_made 9 0 (codes "A") (value.Made 1 ∷ value.Made 0 ∷ []) >>= λ _. act_made 9 0 (codes "B") (value.Made 0 ∷ []) >>= λ _. act_made 9 0 (codes "A") (value.List 0 ∷ [])

-- an FSM in a module of this kind
abbrev pub within_module : (Value → Step (Unit {0})) → Outcome (Unit {0})
within_module add = (fsm_made 9 None >>= add) (record start { modules = record (a_module None 63) { kind = bases.Lite } ∷ [] })

abbrev pub submodules : Machine → List (List Submodule)
submodules m = map (λ x. x.submodules) m.modules

-- `ongoing` of a state of a new FSM
abbrev pub ongoing_once : Step Value
ongoing_once = fsm_made 9 None >>= λ _. ongoing_made 8 0 (codes "A")

-- What steps do.
pub record AreWorked : Type 0 where
  -- lists within lists keep the order, and the nodes count where they are added
  pub flattened : seen combs (add_comb 9 0 (value.List 1) fragment) ≡ Ok ((1 ∷ 0 ∷ 1 ∷ []) ∷ [])
  pub counted : seen nodes (add_comb 9 0 (value.List 1) fragment) ≡ Ok 13
  pub empty_lists : seen combs (add_comb 9 0 (value.List 3) fragment) ≡ Ok ([] ∷ [])
  pub no_statement : seen combs (add_comb 9 0 (value.List 4) fragment) ≡ Err (record { line = 9; kind = kind.WrongKind })
  -- an `If` counts its statements and itself, an `Elif` its own alone; but its size is that of all branches
  pub if_counts : seen nodes (if_made 9 (the_expr 0) (value.List 0 ∷ []) fragment) ≡ Ok 9
  pub elif_counts : seen nodes (elif_made 9 0 (the_expr 0) (value.Made 1 ∷ []) fragment) ≡ Ok 5
  pub elif_size : seen sizes (elif_made 9 0 (the_expr 0) (value.Made 1 ∷ []) fragment) ≡ Ok ((1, 3) ∷ (1, 5) ∷ (1, 8) ∷ [])
  -- a `Case` counts its keys too
  pub case_counts : seen nodes (case_made 9 (the_expr 0) (pair (value.Int (pos 2)) (value.Made 1) ∷ pair (value.Text 0) (value.List 0) ∷ []) keyed) ≡ Ok 16
  pub case_form : seen new_forms (case_made 9 (the_expr 0) (pair (value.Int (pos 2)) (value.Made 1) ∷ pair (value.Text 0) (value.List 0) ∷ []) keyed) ≡ Ok (form.Case (the_expr 0) (record { key = pos 2; body = 1 ∷ [] } ∷ []) (0 ∷ 1 ∷ []) ∷ [])
  pub same_keys : seen nodes (case_made 9 (the_expr 0) (pair (value.Int (pos 2)) (value.Made 1) ∷ pair (value.Int (pos 2)) (value.Made 0) ∷ []) keyed) ≡ Err (record { line = 9; kind = kind.BadKey })
  pub other_key : seen nodes (case_made 9 (the_expr 0) (pair (value.Text 1) (value.Int (pos 2)) ∷ []) keyed) ≡ Err (record { line = 9; kind = kind.BadKey })
  pub no_body : seen nodes (case_made 9 (the_expr 0) (pair (value.Int (pos 2)) (value.Int (pos 2)) ∷ pair (value.Text 1) (value.Made 0) ∷ []) keyed) ≡ Err (record { line = 9; kind = kind.WrongKind })
  -- a domain is mentioned by a statement
  pub mentioned : seen domain_names (add_sync 9 0 (codes "pix") (value.List 0) fragment) ≡ Ok (codes "pix" ∷ [])
  pub not_mentioned : seen domain_names (add_sync 9 0 (codes "pix") (value.List 2) fragment) ≡ Ok []
  -- a `ClockDomain` declares a domain by its first attribute, whose prefix isn't in the domain's name
  pub declares : seen domains (bind_domain (codes "cd_pix") 0 clocked) ≡ Ok ((codes "sys", record { declared = false; reset = true }) ∷ (codes "pix", declared false) ∷ [])
  pub second_attribute : seen domains ((bind_domain (codes "cd_pix") 0 >>= λ _. bind_domain (codes "cd_") 0) clocked) ≡ Ok ((codes "sys", record { declared = false; reset = true }) ∷ (codes "pix", declared false) ∷ [])
  -- the first declaration of a domain decides, also where it was mentioned before
  pub mentioned_before : seen domains ((bind_domain (codes "sys") 0 >>= λ _. bind_domain (codes "cd_sys") 1) clocked) ≡ Ok ((codes "sys", declared false) ∷ [])
  pub no_name : seen domains (bind_domain (codes "cd_") 1 clocked) ≡ Err (record { line = 9; kind = kind.BadKey })
  pub name_with_a_digit : seen domains (bind_domain (codes "cd_1x") 1 clocked) ≡ Err (record { line = 9; kind = kind.BadKey })
  pub last_domain : seen nodes (bind_many 15 clocked) ≡ Ok 0
  pub too_many_domains : seen nodes (bind_many 16 clocked) ≡ Err (record { line = 9; kind = kind.Limit limit.Domains })
  -- registers one behind the other; they stand in their domain, and what is behind them in comb
  pub crossed : seen forms (cross 2) ≡ Ok (form.Assign (the_target 0) (the_expr 0) ∷ form.Assign (the_target 1) (the_expr 1) ∷ form.Assign (the_target 2) (the_expr 2) ∷ [])
  pub crossed_to : seen targets (cross 2) ≡ Ok (target.Whole (the_signal 2) ∷ target.Whole (the_signal 3) ∷ target.Whole (the_signal 1) ∷ [])
  pub crossed_from : seen exprs (cross 2) ≡ Ok (expr.Sig (the_signal 0) ∷ expr.Sig (the_signal 2) ∷ expr.Sig (the_signal 3) ∷ [])
  pub registers : seen new_signals (cross 2) ≡ Ok (a_register ∷ a_register ∷ [])
  pub register_names : seen owners (cross 2) ≡ Ok (a_part (codes "regs0") ∷ a_part (codes "regs1") ∷ [])
  pub kept : seen specials (cross 2) ≡ Ok (record { fields = []; comb = 2 ∷ []; sync = record { domain = 0; made = 0 } ∷ record { domain = 0; made = 1 } ∷ [] })
  pub crossing_mentions : seen domain_names (cross 2) ≡ Ok (codes "pix" ∷ [])
  pub no_node : seen nodes (cross 2) ≡ Ok 0
  pub too_many_registers : seen nodes (cross 65537) ≡ Err (record { line = 9; kind = kind.Limit limit.Signals })
  -- a module is added once, and not inside itself
  pub rises : seen rooms (add_module 9 0 false 1 (record start { modules = a_module None 63 ∷ a_module None 63 ∷ [] })) ≡ Ok (62 ∷ 63 ∷ [])
  pub added_twice : seen rooms (add_module 9 0 false 1 (record start { modules = a_module None 63 ∷ a_module (Some 0) 63 ∷ [] })) ≡ Err (record { line = 9; kind = kind.WrongKind })
  pub inside_itself : seen rooms (add_module 9 0 false 0 (record start { modules = a_module None 63 ∷ [] })) ≡ Err (record { line = 9; kind = kind.Limit limit.Depth })
  -- an FSM is no module of its own, and no level
  pub fsm : seen fsms (fsm_made 9 (Some (codes "B")) start) ≡ Ok (new_fsm 0 0 (the_signal 0) (Some (codes "B")) ∷ [])
  pub fsm_mentions : seen domain_names (fsm_made 9 None start) ≡ Ok (codes "sys" ∷ [])
  pub fsm_is_no_module : seen module_count (within_module (λ f. give tt)) ≡ Ok 1
  pub fsm_is_no_level : seen rooms (within_module (add_modules 9 0)) ≡ Ok (63 ∷ 64 ∷ [])
  pub fsm_added : seen submodules (within_module (add_modules 9 0)) ≡ Ok ((record { place = 1; named = false } ∷ []) ∷ [] ∷ [])
  pub fsm_bound : seen submodules (within_module (set_attribute 9 0 (codes "f"))) ≡ Ok ((record { place = 1; named = true } ∷ []) ∷ [] ∷ [])
  pub fsm_added_twice : seen submodules (within_module (λ f. add_modules 9 0 f >>= λ _. add_modules 9 0 f)) ≡ Err (record { line = 9; kind = kind.WrongKind })
  -- several calls of one name lengthen the state, and the nodes count again
  pub states : seen fsms (acts staged) ≡ Ok (record an_fsm { names = (codes "A", 0) ∷ (codes "B", 1) ∷ []; bodies = (1 ∷ 0 ∷ 0 ∷ 1 ∷ []) ∷ (0 ∷ []) ∷ [] } ∷ [])
  pub states_count : seen nodes (acts staged) ≡ Ok 19
  pub last_state : seen nodes (act_made 9 0 (codes "t") [] (with_states 255)) ≡ Ok 0
  pub too_many_states : seen nodes (act_made 9 0 (codes "t") [] (with_states 256)) ≡ Err (record { line = 9; kind = kind.Limit limit.States })
  pub full_but_known : seen nodes (act_made 9 0 (codes "s_0") [] (with_states 256)) ≡ Ok 0
  -- what stands in a state alone is added to no module, nor is what holds it
  pub state_statement : seen fsms ((next_state_made 9 0 >>= λ s. act_made 9 0 (codes "A") (s ∷ [])) staged) ≡ Ok (record an_fsm { names = (codes "A", 0) ∷ []; bodies = (2 ∷ []) ∷ [] } ∷ [])
  pub next_state_in_comb : seen nodes ((next_state_made 9 0 >>= add_comb 9 0) staged) ≡ Err (record { line = 9; kind = kind.WrongKind })
  pub next_value_in_sync : seen nodes ((next_value_made 9 (the_target 0) (the_expr 0) 0 0 >>= add_sync 9 0 (codes "sys")) staged) ≡ Err (record { line = 9; kind = kind.WrongKind })
  pub if_around_it : seen nodes ((next_state_made 9 0 >>= λ s. if_made 9 (the_expr 0) (value.List 0 ∷ s ∷ []) >>= add_comb 9 0) staged) ≡ Err (record { line = 9; kind = kind.WrongKind })
  pub else_behind_it : seen nodes ((next_state_made 9 0 >>= λ s. if_made 9 (the_expr 0) (s ∷ []) >>= λ i. else_made 9 3 [] >>= add_comb 9 0) staged) ≡ Err (record { line = 9; kind = kind.WrongKind })
  pub case_around_it : seen nodes ((next_state_made 9 0 >>= λ s. case_made 9 (the_expr 0) (pair (value.Int (pos 2)) s ∷ pair (value.Int (pos 3)) (value.Made 0) ∷ []) >>= add_comb 9 0) staged) ≡ Err (record { line = 9; kind = kind.WrongKind })
  pub plain_if : seen nodes ((if_made 9 (the_expr 0) (value.Made 0 ∷ []) >>= add_comb 9 0) staged) ≡ Ok 8
  -- a `NextValue` counts as an assignment does
  pub next_value : seen sizes (next_value_made 9 (the_target 0) (the_expr 0) 2 1 start) ≡ Ok ((9, 3) ∷ [])
  -- the signal of a state is made once
  pub ongoing : seen fsms (ongoing_once start) ≡ Ok (record an_fsm { asked = (codes "A", record { signal = the_signal 1; read = the_expr 0; line = 8 }) ∷ [] } ∷ [])
  pub ongoing_owner : seen owners (ongoing_once start) ≡ Ok (record { object = 0; part = None } ∷ a_part (codes "A") ∷ [])
  pub ongoing_again : seen exprs ((ongoing_once >>= λ _. ongoing_made 7 0 (codes "A")) start) ≡ Ok (expr.Sig (the_signal 1) ∷ [])
  pub ongoing_of_another : seen exprs ((ongoing_once >>= λ _. ongoing_made 7 0 (codes "B")) start) ≡ Ok (expr.Sig (the_signal 1) ∷ expr.Sig (the_signal 2) ∷ [])
  -- whose a signal is
  pub own_signal : seen owners (signal_made 9 (a_signal 4) None start) ≡ Ok (record { object = 0; part = None } ∷ [])
  pub part : seen owners (part_made 9 (a_signal 4) 7 (codes "re") start) ≡ Ok (record { object = 7; part = Some (codes "re") } ∷ [])
  pub no_signal : seen nodes (ios_of 9 (value.List 4) fragment) ≡ Err (record { line = 9; kind = kind.WrongKind })
  pub wide_signal : seen owners (signal_made 9 (a_signal 65) None start) ≡ Err (record { line = 9; kind = kind.WrongKind })
