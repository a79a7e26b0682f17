-- The built-in names.
use Rattle.std.specs.Prelude.{ℕ, Bool, List, [], ◌∷◌, Option, Some, None, codes, if◌then◌else◌}
use Rattle.std.specs.Str.{bytes_eq}
use Rattle.lx_state.specs.declared.values.Builtin.{Builtin}
use Rattle.lx_state.specs.declared.values.Builtin.TheVariants as builtin

unfoldable pub builtin_name : Builtin → List ℕ
builtin_name builtin.Range = codes "range"
builtin_name builtin.Len = codes "len"
builtin_name builtin.Enumerate = codes "enumerate"
builtin_name builtin.Zip = codes "zip"
builtin_name builtin.Reversed = codes "reversed"
builtin_name builtin.List = codes "list"
builtin_name builtin.Min = codes "min"
builtin_name builtin.Max = codes "max"
builtin_name builtin.Int = codes "int"
builtin_name builtin.Str = codes "str"
builtin_name builtin.BitsFor = codes "bits_for"
builtin_name builtin.Log2Int = codes "log2_int"
builtin_name builtin.SetAttr = codes "setattr"
builtin_name builtin.GetAttr = codes "getattr"
builtin_name builtin.Super = codes "super"
builtin_name builtin.Signal = codes "Signal"
builtin_name builtin.C = codes "C"
builtin_name builtin.Constant = codes "Constant"
builtin_name builtin.Cat = codes "Cat"
builtin_name builtin.Replicate = codes "Replicate"
builtin_name builtin.Mux = codes "Mux"
builtin_name builtin.Array = codes "Array"
builtin_name builtin.If = codes "If"
builtin_name builtin.Case = codes "Case"
builtin_name builtin.Memory = codes "Memory"
builtin_name builtin.WriteFirst = codes "WRITE_FIRST"
builtin_name builtin.ReadFirst = codes "READ_FIRST"
builtin_name builtin.NoChange = codes "NO_CHANGE"
builtin_name builtin.ClockDomain = codes "ClockDomain"
builtin_name builtin.MultiReg = codes "MultiReg"
builtin_name builtin.Fsm = codes "FSM"
builtin_name builtin.NextState = codes "NextState"
builtin_name builtin.NextValue = codes "NextValue"
builtin_name builtin.Csr = codes "CSR"
builtin_name builtin.CsrStorage = codes "CSRStorage"
builtin_name builtin.CsrStatus = codes "CSRStatus"
builtin_name builtin.CsrConstant = codes "CSRConstant"
builtin_name builtin.CsrField = codes "CSRField"
builtin_name builtin.EventManager = codes "EventManager"
builtin_name builtin.EventSourcePulse = codes "EventSourcePulse"
builtin_name builtin.EventSourceProcess = codes "EventSourceProcess"
builtin_name builtin.EventSourceLevel = codes "EventSourceLevel"
builtin_name builtin.SocRegion = codes "SoCRegion"
builtin_name builtin.Wishbone = codes "wishbone"

unfoldable pub builtins : List Builtin
builtins = builtin.Range ∷ builtin.Len ∷ builtin.Enumerate ∷ builtin.Zip ∷ builtin.Reversed ∷ builtin.List ∷ builtin.Min ∷ builtin.Max ∷ builtin.Int ∷ builtin.Str ∷ builtin.BitsFor ∷ builtin.Log2Int ∷ builtin.SetAttr ∷ builtin.GetAttr ∷ builtin.Super ∷ builtin.Signal ∷ builtin.C ∷ builtin.Constant ∷ builtin.Cat ∷ builtin.Replicate ∷ builtin.Mux ∷ builtin.Array ∷ builtin.If ∷ builtin.Case ∷ builtin.Memory ∷ builtin.WriteFirst ∷ builtin.ReadFirst ∷ builtin.NoChange ∷ builtin.ClockDomain ∷ builtin.MultiReg ∷ builtin.Fsm ∷ builtin.NextState ∷ builtin.NextValue ∷ builtin.Csr ∷ builtin.CsrStorage ∷ builtin.CsrStatus ∷ builtin.CsrConstant ∷ builtin.CsrField ∷ builtin.EventManager ∷ builtin.EventSourcePulse ∷ builtin.EventSourceProcess ∷ builtin.EventSourceLevel ∷ builtin.SocRegion ∷ builtin.Wishbone ∷ []

-- the first of these with the name
abbrev pub first_named : List ℕ → List Builtin → Option Builtin
first_named name [] = None
first_named name (b ∷ bs) = if bytes_eq (builtin_name b) name then Some b else first_named name bs

-- the built-in with this name
unfoldable pub builtin_of : List ℕ → Option Builtin
builtin_of name = first_named name builtins
