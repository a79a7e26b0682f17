-- What can be called, but for classes.
use Rattle.std.specs.Prelude.{ℕ, true, false}
use Rattle.lx_text.specs.declared.faults.Kind.TheVariants as kind
use Rattle.lx_description.specs.declared.registers.SourceKind.TheVariants as source
use Rattle.lx_state.specs.declared.values.Builtin.{Builtin}
use Rattle.lx_state.specs.declared.values.Builtin.TheVariants as builtin
use Rattle.lx_state.specs.declared.values.Method.{Method}
use Rattle.lx_state.specs.declared.values.Method.TheVariants as method
use Rattle.lx_state.specs.declared.values.Value.{Value}
use Rattle.lx_state.specs.Step.{Step, fault}
use Rattle.lx_builtins.specs.Domains.{clock_domain_called, multireg_called}
use Rattle.lx_builtins.specs.Events.{event_manager_called, finalize_called, source_called, source_process_called}
use Rattle.lx_builtins.specs.Exprs.{array_called, cat_called, constant_called, mux_called, replicate_called}
use Rattle.lx_builtins.specs.Fsms.{act_called, fsm_called, next_state_called, next_value_called, ongoing_called}
use Rattle.lx_builtins.specs.Memories.{get_port_called, memory_called}
use Rattle.lx_builtins.specs.Numbers.{bits_for_called, int_called, log2_int_called, max_called, min_called, range_called, str_called}
use Rattle.lx_builtins.specs.Objects.{case_called, elif_called, else_called, eq_called, getattr_called, if_called, init_called, setattr_called, super_called}
use Rattle.lx_builtins.specs.Registers.{csr_called, csr_constant_called, csr_field_called, csr_status_called, csr_storage_called}
use Rattle.lx_builtins.specs.Sequences.{enumerate_called, len_called, list_called, reversed_called, zip_called}
use Rattle.lx_builtins.specs.Signals.{signal_called}
use Rattle.lx_builtins.specs.Systems.{add_bank_called, add_constant_called, add_interrupt_called, add_slave_called, interface_called, region_called, store_called}
use Rattle.lx_builtins.specs.declared.arguments.Arguments.{Arguments}

-- a built-in name; the modes of ports and `wishbone` can't be called
unfoldable pub builtin_called : ℕ → Builtin → Arguments → Step Value
builtin_called line builtin.Range args = range_called line args
builtin_called line builtin.Len args = len_called line args
builtin_called line builtin.Enumerate args = enumerate_called line args
builtin_called line builtin.Zip args = zip_called line args
builtin_called line builtin.Reversed args = reversed_called line args
builtin_called line builtin.List args = list_called line args
builtin_called line builtin.Min args = min_called line args
builtin_called line builtin.Max args = max_called line args
builtin_called line builtin.Int args = int_called line args
builtin_called line builtin.Str args = str_called line args
builtin_called line builtin.BitsFor args = bits_for_called line args
builtin_called line builtin.Log2Int args = log2_int_called line args
builtin_called line builtin.SetAttr args = setattr_called line args
builtin_called line builtin.GetAttr args = getattr_called line args
builtin_called line builtin.Super args = super_called line args
builtin_called line builtin.Signal args = signal_called line args
builtin_called line builtin.C args = constant_called line args
builtin_called line builtin.Constant args = constant_called line args
builtin_called line builtin.Cat args = cat_called line args
builtin_called line builtin.Replicate args = replicate_called line args
builtin_called line builtin.Mux args = mux_called line args
builtin_called line builtin.Array args = array_called line args
builtin_called line builtin.If args = if_called line args
builtin_called line builtin.Case args = case_called line args
builtin_called line builtin.Memory args = memory_called line args
builtin_called line builtin.ClockDomain args = clock_domain_called line args
builtin_called line builtin.MultiReg args = multireg_called line args
builtin_called line builtin.Fsm args = fsm_called line args
builtin_called line builtin.NextState args = next_state_called line args
builtin_called line builtin.NextValue args = next_value_called line args
builtin_called line builtin.Csr args = csr_called line args
builtin_called line builtin.CsrStorage args = csr_storage_called line args
builtin_called line builtin.CsrStatus args = csr_status_called line args
builtin_called line builtin.CsrConstant args = csr_constant_called line args
builtin_called line builtin.CsrField args = csr_field_called line args
builtin_called line builtin.EventManager args = event_manager_called line args
builtin_called line builtin.EventSourcePulse args = source_called line source.Pulse args
builtin_called line builtin.EventSourceProcess args = source_process_called line args
builtin_called line builtin.EventSourceLevel args = source_called line source.Level args
builtin_called line builtin.WriteFirst args = fault line kind.WrongKind
builtin_called line builtin.ReadFirst args = fault line kind.WrongKind
builtin_called line builtin.NoChange args = fault line kind.WrongKind
builtin_called line builtin.SocRegion args = region_called line args
builtin_called line builtin.Wishbone args = fault line kind.WrongKind

-- a method of an object
unfoldable pub method_called : ℕ → Method → Arguments → Step Value
method_called line (method.Eq id) args = eq_called line id args
method_called line (method.Elif at) args = elif_called line at args
method_called line (method.Else at) args = else_called line at args
method_called line (method.Init at) args = init_called line at args
method_called line (method.Act at) args = act_called line at args
method_called line (method.Ongoing at) args = ongoing_called line at args
method_called line (method.GetPort at) args = get_port_called line at args
method_called line method.Finalize args = finalize_called line args
method_called line method.Interface args = interface_called line args
method_called line method.AddRam args = store_called line true args
method_called line method.AddRom args = store_called line false args
method_called line method.AddConstant args = add_constant_called line args
method_called line method.AddSlave args = add_slave_called line args
method_called line method.AddBank args = add_bank_called line args
method_called line method.AddInterrupt args = add_interrupt_called line args
