-- Operators on a small machine, worked by hand.
use Rattle.std.specs.Prelude.{◌≡◌, ℕ, pos, negsuc, true, false, List, [], ◌∷◌, ◌++◌, map, codes, Option, Some, None, Result, Ok, Err, slice_get}
use Rattle.lx_text.specs.declared.faults.Fault.{Fault}
use Rattle.lx_text.specs.declared.faults.Kind.{Kind}
use Rattle.lx_text.specs.declared.faults.Kind.TheVariants as kind
use Rattle.lx_text.specs.declared.faults.LimitKind.TheVariants as limit
use Rattle.lx_tables.specs.declared.operators.Op.TheVariants as node
use Rattle.lx_value.specs.declared.numbers.PyOp.TheVariants as op
use Rattle.lx_fhdl.specs.Drafts.{started}
use Rattle.lx_fhdl.specs.Instance.{signal_of, the_expr, the_signal, the_target}
use Rattle.lx_fhdl.specs.declared.design.PortMode.TheVariants as mode
use Rattle.lx_fhdl.specs.declared.exprs.Expr.{Expr}
use Rattle.lx_fhdl.specs.declared.exprs.Expr.TheVariants as expr
use Rattle.lx_fhdl.specs.declared.stmts.Target.TheVariants as target
use Rattle.lx_state.specs.declared.machine.Binding.TheVariants as binding
use Rattle.lx_state.specs.declared.machine.Items.{Items}
use Rattle.lx_state.specs.declared.machine.Leaves.TheVariants as leaves
use Rattle.lx_state.specs.declared.machine.Machine.{Machine}
use Rattle.lx_state.specs.declared.machine.DomainState.{DomainState}
use Rattle.lx_state.specs.declared.machine.Form.{Form}
use Rattle.lx_state.specs.declared.machine.Form.TheVariants as form
use Rattle.lx_state.specs.declared.machine.Made.{Made}
use Rattle.lx_state.specs.declared.machine.Module.{Module}
use Rattle.lx_state.specs.declared.machine.ModuleKind.{ModuleKind}
use Rattle.lx_state.specs.declared.machine.ModuleKind.TheVariants as bases
use Rattle.lx_state.specs.declared.machine.Object.{Object}
use Rattle.lx_state.specs.declared.machine.PortState.{PortState}
use Rattle.lx_state.specs.declared.machine.Submodule.{Submodule}
use Rattle.lx_state.specs.declared.machine.What.{What}
use Rattle.lx_state.specs.declared.machine.What.TheVariants as what
use Rattle.lx_state.specs.declared.values.Builtin.TheVariants as builtin
use Rattle.lx_state.specs.declared.values.Hub.TheVariants as hub
use Rattle.lx_state.specs.declared.values.Method.TheVariants as method
use Rattle.lx_state.specs.declared.values.Value.{Value}
use Rattle.lx_state.specs.declared.values.Value.TheVariants as value
use Rattle.lx_state.specs.Step.{Outcome}
use Rattle.lx_state.specs.Worked.{seen, spent, start}
use Rattle.lx_objects.specs.Fsms.{new_fsm, stand_in}
use Rattle.lx_ops.specs.Attributes.{attribute_of}
use Rattle.lx_ops.specs.Binary.{binary}
use Rattle.lx_ops.specs.Compare.{compare, negated, prefixed}
use Rattle.lx_ops.specs.Items.{item_of, slice_of}
use Rattle.lx_ops.specs.Places.{add_at, bind_at, holder_of}
use Rattle.lx_ops.specs.Targets.{assign, assign_next, target_of}
use Rattle.lx_ops.specs.declared.attributes.Fragment.{Fragment}
use Rattle.lx_ops.specs.declared.attributes.Fragment.TheVariants as fragment
use Rattle.lx_ops.specs.declared.places.Holder.{Holder}
use Rattle.lx_ops.specs.declared.places.Holder.TheVariants as holder
use Rattle.lx_ops.specs.declared.comparisons.Comparison.TheVariants as by_
use Rattle.lx_ops.specs.declared.comparisons.Sign.TheVariants as sign_

abbrev pub items : List Value → Items
items values = record { values = values; depth = 1; leaves = leaves.Others; size = 0; named = binding.Nowhere }

-- the signals a of 4 bits and w of 64 bits, and `Cat(a, a[1:3])`
abbrev pub exprs : List Expr
exprs = expr.Sig (the_signal 0) ∷ expr.Sig (the_signal 1) ∷ expr.Slice (the_expr 0) 1 3 ∷ expr.Cat (the_expr 0 ∷ the_expr 2 ∷ []) ∷ []

-- the texts "ab" and "c", the lists `[]`, `[7, a]` and `[7, a, w]`
abbrev pub some : Machine
some = record start {
  shaped = record (started (signal_of (codes "a") 4 0 ∷ signal_of (codes "w") 64 0 ∷ []) []) { exprs = exprs };
  texts = codes "ab" ∷ codes "c" ∷ [];
  lists = items [] ∷ items (value.Int (pos 7) ∷ value.Expr (the_expr 0) ∷ []) ∷ items (value.Int (pos 7) ∷ value.Expr (the_expr 0) ∷ value.Expr (the_expr 1) ∷ []) ∷ [];
}

abbrev pub a : Value
a = value.Expr (the_expr 0)

abbrev pub w : Value
w = value.Expr (the_expr 1)

abbrev pub cat : Value
cat = value.Expr (the_expr 3)

-- what is given, or the fault
abbrev pub value_of : {A : Type 0} → Outcome A → Result A Fault
value_of (Ok r) = Ok r.0
value_of (Err f) = Err f

abbrev pub at_nine : {A : Type 0} → Kind → Result A Fault
at_nine k = Err (record { line = 9; kind = k })

abbrev pub expr_at : ℕ → Machine → Option Expr
expr_at k m = slice_get m.shaped.exprs k

abbrev pub nodes : Machine → ℕ
nodes m = m.nodes

abbrev pub text_at : ℕ → Machine → Option (List ℕ)
text_at k m = slice_get m.texts k

abbrev pub values_at : ℕ → Machine → List (List Value)
values_at k m = elim (slice_get m.lists k) as (λ _. List (List Value)) [ None ↦ [] | Some i ↦ i.values ∷ [] ]

abbrev pub int : ℕ → Value
int n = value.Int (pos n)

abbrev pub an_object : What → Object
an_object what_ = record { what = what_; line = 1; maker = None; given = None; by_attribute = None; by_local = None; home = None }

abbrev pub a_module : ModuleKind → Module
a_module kind_ = record { object = 0; class = 0; kind = kind_; attributes = (codes "x", value.Int (pos 5)) ∷ []; bound = []; comb = []; sync = []; submodules = []; added = None; room = 63 }

abbrev pub a_statement : Form → Made
a_statement f = record { form = f; line = 1; size = 1; depth = 1; in_state = false }

-- the system's top with an attribute x, and an `If` and its `Else`
abbrev pub top : Machine
top = record some {
  objects = an_object (what.Module 0) ∷ [];
  modules = a_module bases.Soc ∷ [];
  made = a_statement (form.If None (the_expr 0) []) ∷ a_statement (form.Else 0 []) ∷ [];
}

-- that top, of the one class, with the lists `[a]` and `[a, 7]`
abbrev pub topped : Machine
topped = record top {
  classes = record { name = codes "Top"; kind = bases.Soc; defaults = [] } ∷ [];
  lists = items (a ∷ []) ∷ items (a ∷ int 7 ∷ []) ∷ [];
}

-- with a `MultiReg`, a `ClockDomain` and a list of it
abbrev pub equipped : Machine
equipped = record top {
  objects = top.objects ++ an_object what.MultiReg ∷ an_object (what.ClockDomain (record { reset = false; bound = false })) ∷ [];
  lists = record (items (value.Object 2 ∷ [])) { leaves = leaves.ClockDomains } ∷ [];
}

abbrev pub domains : Machine → List (List ℕ × DomainState)
domains m = m.domains

abbrev pub own_bound : List ℕ → Value → Machine → Result (Unit {0}) Fault
own_bound name v m = value_of (bind_at 9 (holder.Plain (value.Object 0)) name v m)

abbrev pub under : Fragment → Holder
under f = holder.Part (record { module_ = 0; fragment = f })

abbrev pub forms : Machine → List Form
forms m = map (λ (s : Made). s.form) m.made

-- with an FSM without states
abbrev pub staged : Machine
staged = record top {
  objects = top.objects ++ an_object (what.Fsm 0) ∷ [];
  modules = top.modules ++ stand_in 1 ∷ [];
  fsms = new_fsm 1 1 (the_signal 0) None ∷ [];
}

abbrev pub an_fsm : Value
an_fsm = value.Object 1

abbrev pub a_reader : PortState
a_reader = record {
  port = record { memory = 0; domain = Some 0; adr = the_signal 0; dat_r = Some (the_signal 1); dat_w = None; we = None; part = 8; mode = mode.WriteFirst };
  adr = the_expr 0;
  dat_r = the_expr 1;
  writing = None;
}

-- with a memory, a port that may write, one that can't, and a list of the memory and a port
abbrev pub stored : Machine
stored = record top {
  objects = top.objects ++ an_object (what.Memory 0) ∷ an_object (what.Port 0) ∷ an_object (what.Port 1) ∷ [];
  ports = record a_reader { writing = Some (record { dat_w = the_expr 2; we = the_expr 3 }) } ∷ a_reader ∷ [];
  lists = record (items (value.Object 1 ∷ value.Object 2 ∷ [])) { leaves = leaves.Specials } ∷ [];
}

abbrev pub submodules : Machine → List (List Submodule)
submodules m = map (λ (x : Module). x.submodules) m.modules

-- Of values of Python.
pub record AreComputed : Type 0 where
  pub remainder : value_of (binary 9 op.Mod (value.Int (negsuc 6)) (int 4) some) ≡ Ok (int 1)
  pub no_divisor : value_of (binary 9 op.FloorDiv (int 1) (int 0) some) ≡ at_nine kind.DivZero
  pub joined_texts : seen (text_at 2) (binary 9 op.Add (value.Text 0) (value.Text 1) some) ≡ Ok (Some (codes "abc"))
  pub joined_units : seen spent (binary 9 op.Add (value.List 1) (value.List 2) some) ≡ Ok 5
  pub text_and_list : value_of (binary 9 op.Add (value.Text 0) (value.List 1) some) ≡ at_nine kind.WrongKind
  pub repeated : seen (values_at 3) (binary 9 op.Mul (int 2) (value.List 1) some) ≡ Ok ((int 7 ∷ a ∷ int 7 ∷ a ∷ []) ∷ [])
  pub never_repeated : seen (values_at 3) (binary 9 op.Mul (value.List 1) (value.Int (negsuc 0)) some) ≡ Ok ([] ∷ [])
  pub tuple_repeated : value_of (binary 9 op.Mul (value.Tuple 1) (int 2) some) ≡ at_nine kind.WrongKind
  pub too_often : value_of (binary 9 op.Mul (value.List 1) (int 500001) some) ≡ at_nine (kind.Limit limit.Work)
  pub inverted : value_of (prefixed 9 sign_.Tilde (int 5) some) ≡ Ok (value.Int (negsuc 5))
  pub last_byte : seen (text_at 2) (item_of 9 (value.Text 0) (value.Int (negsuc 0)) some) ≡ Ok (Some (codes "b"))
  pub last_item : value_of (item_of 9 (value.Tuple 2) (value.Int (negsuc 0)) some) ≡ Ok w
  pub past_the_items : value_of (item_of 9 (value.List 1) (int 2) some) ≡ at_nine kind.BadSlice
  pub before_the_items : value_of (item_of 9 (value.List 1) (value.Int (negsuc 2)) some) ≡ at_nine kind.BadSlice

-- Of comparisons and truth.
pub record AreCompared : Type 0 where
  pub two_kinds : value_of (compare 9 by_.Equal value.Nothing (int 0) some) ≡ Ok (int 0)
  pub two_kinds_differ : value_of (compare 9 by_.Unequal (value.Text 0) (int 0) some) ≡ Ok (int 1)
  pub lists : value_of (compare 9 by_.Equal (value.List 1) (value.List 1) some) ≡ at_nine kind.WrongKind
  pub none_below : value_of (compare 9 by_.Less value.Nothing (int 0) some) ≡ at_nine kind.WrongKind
  -- what stands behind the first equal item isn't met
  pub first_of_list : value_of (compare 9 by_.In (int 7) (value.List 1) some) ≡ Ok (int 1)
  pub behind_an_expression : value_of (compare 9 by_.In (int 8) (value.List 1) some) ≡ at_nine kind.WrongKind
  pub in_nothing : value_of (compare 9 by_.In a (value.Tuple 0) some) ≡ Ok (int 0)
  pub empty_list : value_of (negated 9 (value.List 0) some) ≡ Ok (int 1)
  pub expression_as_condition : value_of (negated 9 a some) ≡ at_nine kind.WrongKind

-- Of expressions.
pub record AreExpressed : Type 0 where
  -- an integer has its fewest bits, and counts no node
  pub fewest_bits : seen (expr_at 4) (binary 9 op.Sub a (value.Int (negsuc 4)) some) ≡ Ok (Some (expr.Const (negsuc 4) 4 true))
  pub difference : seen (expr_at 5) (binary 9 op.Sub a (value.Int (negsuc 4)) some) ≡ Ok (Some (expr.Binary node.Sub (the_expr 0) (the_expr 4)))
  pub one_node : seen nodes (binary 9 op.Sub a (value.Int (negsuc 4)) some) ≡ Ok 1
  pub never_divided : value_of (binary 9 op.FloorDiv a (int 2) some) ≡ at_nine kind.WrongKind
  pub signed_amount : value_of (binary 9 op.Shl a (value.Int (negsuc 0)) some) ≡ at_nine kind.SignedShift
  pub too_wide : value_of (binary 9 op.Mul w w some) ≡ at_nine (kind.TooWide 128)
  pub compared : seen (expr_at 4) (compare 9 by_.GreaterEqual a w some) ≡ Ok (Some (expr.Binary node.Ge (the_expr 0) (the_expr 1)))
  pub equal_to_none : value_of (compare 9 by_.Equal a value.Nothing some) ≡ at_nine kind.WrongKind
  pub plus : value_of (prefixed 9 sign_.Plus a some) ≡ at_nine kind.WrongKind
  pub last_bit : seen (expr_at 4) (item_of 9 a (value.Int (negsuc 0)) some) ≡ Ok (Some (expr.Slice (the_expr 0) 3 4))
  pub clamped_slice : seen (expr_at 4) (slice_of 9 a (Some (value.Int (negsuc 2))) (Some (int 100)) some) ≡ Ok (Some (expr.Slice (the_expr 0) 1 4))
  pub empty_slice : value_of (slice_of 9 a (Some (int 4)) None some) ≡ at_nine kind.BadSlice
  pub picked : seen (expr_at 5) (item_of 9 (value.Array 1) w some) ≡ Ok (Some (expr.Pick (the_expr 4 ∷ the_expr 0 ∷ []) (the_expr 1)))
  pub picked_nodes : seen nodes (item_of 9 (value.Array 1) w some) ≡ Ok 3

-- Of targets.
pub record AreAssigned : Type 0 where
  pub cat_aimed : value_of (target_of 9 cat some) ≡ Ok (record { target = the_target 2; inside = 2; depth = 1 })
  pub part_aimed : seen (λ m. slice_get m.shaped.targets 1) (target_of 9 cat some) ≡ Ok (Some (target.Part (the_signal 0) 1 2))
  pub assigned_nodes : seen nodes (assign 9 cat (int 5) some) ≡ Ok 3
  pub to_an_integer : value_of (assign 9 (int 5) a some) ≡ at_nine kind.WrongKind
  pub a_text : value_of (assign 9 a (value.Text 0) some) ≡ at_nine kind.WrongKind
  -- a `NextValue` has the targets of an assignment
  pub next_value_nodes : seen nodes (assign_next 9 cat (int 5) some) ≡ Ok 3
  pub next_value_form : seen forms (assign_next 9 a w some) ≡ Ok (form.NextValue (the_target 0) (the_expr 1) ∷ [])
  pub next_value_of_an_integer : value_of (assign_next 9 (int 5) a some) ≡ at_nine kind.WrongKind

-- Of attributes and places.
pub record HaveAttributes : Type 0 where
  pub bound_method : value_of (attribute_of 9 a (codes "eq") top) ≡ Ok (value.Method (method.Eq (the_expr 0)))
  pub no_method : value_of (attribute_of 9 (int 5) (codes "eq") top) ≡ at_nine (kind.UnknownName (codes "eq"))
  pub branch : value_of (attribute_of 9 (value.Made 0) (codes "Else") top) ≡ Ok (value.Method (method.Else 0))
  pub second_else : value_of (attribute_of 9 (value.Made 1) (codes "Else") top) ≡ at_nine kind.WrongKind
  pub own : value_of (attribute_of 9 (value.Object 0) (codes "x") top) ≡ Ok (int 5)
  pub bus : value_of (attribute_of 9 (value.Object 0) (codes "bus") top) ≡ Ok (value.Hub hub.Bus)
  pub add_slave : value_of (attribute_of 9 (value.Hub hub.Bus) (codes "add_slave") top) ≡ Ok (value.Method method.AddSlave)
  pub add_bank : value_of (attribute_of 9 (value.Hub hub.Csr) (codes "add") top) ≡ Ok (value.Method method.AddBank)
  pub add_interrupt : value_of (attribute_of 9 (value.Hub hub.Irq) (codes "add") top) ≡ Ok (value.Method method.AddInterrupt)
  pub no_slave : value_of (attribute_of 9 (value.Hub hub.Csr) (codes "add_slave") top) ≡ at_nine (kind.UnknownName (codes "add_slave"))
  pub interface : value_of (attribute_of 9 (value.Builtin builtin.Wishbone) (codes "Interface") top) ≡ Ok (value.Method method.Interface)
  pub fragment_as_value : value_of (attribute_of 9 (value.Object 0) (codes "comb") top) ≡ at_nine kind.WrongKind
  pub fragment_in_place : value_of (holder_of 9 (value.Object 0) (codes "sync") top) ≡ Ok (under fragment.Sync)
  pub domain_is_bound : value_of (bind_at 9 (under fragment.Sync) (codes "pix") a top) ≡ at_nine kind.WrongKind
  pub fragment_is_bound : value_of (bind_at 9 (holder.Plain (value.Object 0)) (codes "comb") a top) ≡ at_nine kind.WrongKind
  pub signal_is_added : value_of (add_at 9 (holder.Plain (value.Object 0)) (codes "submodules") a top) ≡ at_nine kind.WrongKind

-- Of what takes part once it is made, and of clock domains.
pub record AreLookedAt : Type 0 where
  pub special_bound : value_of (bind_at 9 (under fragment.Specials) (codes "x") (value.Object 1) equipped) ≡ Ok tt
  pub special_added : value_of (add_at 9 (holder.Plain (value.Object 0)) (codes "specials") (value.Object 1) equipped) ≡ Ok tt
  pub domain_as_special : value_of (bind_at 9 (under fragment.Specials) (codes "x") (value.Object 2) equipped) ≡ at_nine kind.WrongKind
  pub module_as_special : value_of (add_at 9 (holder.Plain (value.Object 0)) (codes "specials") (value.Object 0) equipped) ≡ at_nine kind.WrongKind
  -- binding declares a domain, and adding declares none
  pub domain_bound : seen domains (bind_at 9 (under fragment.ClockDomains) (codes "cd_pix") (value.Object 2) equipped) ≡ Ok ((codes "pix", record { declared = true; reset = false }) ∷ [])
  pub domain_bound_plainly : seen domains (bind_at 9 (holder.Plain (value.Object 0)) (codes "cd_pix") (value.Object 2) equipped) ≡ Ok ((codes "pix", record { declared = true; reset = false }) ∷ [])
  pub domain_added : seen domains (add_at 9 (holder.Plain (value.Object 0)) (codes "clock_domains") (value.List 0) equipped) ≡ Ok []
  pub signal_as_domain : value_of (bind_at 9 (under fragment.ClockDomains) (codes "cd_x") a equipped) ≡ at_nine kind.WrongKind
  pub list_as_domain : value_of (bind_at 9 (under fragment.ClockDomains) (codes "cd_x") (value.List 0) equipped) ≡ at_nine kind.WrongKind
  pub special_as_domain : value_of (add_at 9 (holder.Plain (value.Object 0)) (codes "clock_domains") (value.Object 1) equipped) ≡ at_nine kind.WrongKind

-- Of FSMs.
pub record HaveStates : Type 0 where
  pub act : value_of (attribute_of 9 an_fsm (codes "act") staged) ≡ Ok (value.Method (method.Act 0))
  pub ongoing : value_of (attribute_of 9 an_fsm (codes "ongoing") staged) ≡ Ok (value.Method (method.Ongoing 0))
  pub no_state : value_of (attribute_of 9 an_fsm (codes "state") staged) ≡ at_nine (kind.UnknownName (codes "state"))
  -- it has no fragments and no attributes of its own
  pub no_fragment : value_of (holder_of 9 an_fsm (codes "comb") staged) ≡ at_nine (kind.UnknownName (codes "comb"))
  pub not_bound : value_of (bind_at 9 (holder.Plain an_fsm) (codes "y") (int 5) staged) ≡ at_nine kind.WrongKind
  pub added_by_name : seen submodules (bind_at 9 (under fragment.Submodules) (codes "f") an_fsm staged) ≡ Ok ((record { place = 1; named = true } ∷ []) ∷ [] ∷ [])
  pub added_without : seen submodules (add_at 9 (holder.Plain (value.Object 0)) (codes "submodules") an_fsm staged) ≡ Ok ((record { place = 1; named = false } ∷ []) ∷ [] ∷ [])
  pub as_special : value_of (bind_at 9 (under fragment.Specials) (codes "f") an_fsm staged) ≡ at_nine kind.WrongKind

-- Of memories and their ports.
pub record HaveMemories : Type 0 where
  pub get_port : value_of (attribute_of 9 (value.Object 1) (codes "get_port") stored) ≡ Ok (value.Method (method.GetPort 0))
  pub no_width : value_of (attribute_of 9 (value.Object 1) (codes "width") stored) ≡ at_nine (kind.UnknownName (codes "width"))
  pub address : value_of (attribute_of 9 (value.Object 2) (codes "adr") stored) ≡ Ok (value.Expr (the_expr 0))
  pub read : value_of (attribute_of 9 (value.Object 2) (codes "dat_r") stored) ≡ Ok (value.Expr (the_expr 1))
  pub written : value_of (attribute_of 9 (value.Object 2) (codes "dat_w") stored) ≡ Ok (value.Expr (the_expr 2))
  pub parts_written : value_of (attribute_of 9 (value.Object 2) (codes "we") stored) ≡ Ok (value.Expr (the_expr 3))
  pub no_enable : value_of (attribute_of 9 (value.Object 2) (codes "re") stored) ≡ at_nine (kind.UnknownName (codes "re"))
  -- a port that can't write
  pub reader : value_of (attribute_of 9 (value.Object 3) (codes "dat_r") stored) ≡ Ok (value.Expr (the_expr 1))
  pub reader_writes : value_of (attribute_of 9 (value.Object 3) (codes "dat_w") stored) ≡ at_nine (kind.UnknownName (codes "dat_w"))
  pub reader_enables : value_of (attribute_of 9 (value.Object 3) (codes "we") stored) ≡ at_nine (kind.UnknownName (codes "we"))
  pub not_bound : value_of (bind_at 9 (holder.Plain (value.Object 2)) (codes "y") (int 5) stored) ≡ at_nine kind.WrongKind
  -- both are specials
  pub memory_bound : value_of (bind_at 9 (under fragment.Specials) (codes "x") (value.Object 1) stored) ≡ Ok tt
  pub port_bound : value_of (bind_at 9 (under fragment.Specials) (codes "x") (value.Object 2) stored) ≡ Ok tt
  pub both_added : value_of (add_at 9 (holder.Plain (value.Object 0)) (codes "specials") (value.List 0) stored) ≡ Ok tt
  pub memory_as_module : value_of (bind_at 9 (under fragment.Submodules) (codes "x") (value.Object 1) stored) ≡ at_nine kind.WrongKind

-- Of the ports of the top.
pub record HavePorts : Type 0 where
  pub signals : own_bound (codes "ios") (value.List 0) topped ≡ Ok tt
  pub an_integer : own_bound (codes "ios") (int 7) topped ≡ at_nine kind.WrongKind
  pub an_integer_among : own_bound (codes "ios") (value.List 1) topped ≡ at_nine kind.WrongKind
  pub a_tuple : own_bound (codes "ios") (value.Tuple 0) topped ≡ at_nine kind.WrongKind
  pub added : value_of (bind_at 9 (under fragment.Submodules) (codes "ios") (value.Object 0) topped) ≡ at_nine kind.WrongKind
  pub another_name : own_bound (codes "io") (int 7) topped ≡ Ok tt
  -- a module of a class that isn't the last
  pub another_module : own_bound (codes "ios") (int 7) (record topped { classes = topped.classes ++ topped.classes }) ≡ Ok tt
