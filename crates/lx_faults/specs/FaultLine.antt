-- The line that tells a fault.
use Rattle.std.specs.Prelude.{ℕ, Bool, List, ◌++◌, [], flat_map, codes, if◌then◌else◌}
use Rattle.std.specs.Fmt.{decimal}
use Rattle.lx_text.specs.Hex.{hex_text}
use Rattle.lx_text.specs.Limits.{limit_number, max_bytes}
use Rattle.lx_text.specs.declared.faults.Fault.{Fault}
use Rattle.lx_text.specs.declared.faults.Kind.{Kind}
use Rattle.lx_text.specs.declared.faults.Kind.TheVariants as kind
use Rattle.lx_text.specs.declared.faults.LimitKind.{LimitKind}
use Rattle.lx_text.specs.declared.faults.LimitKind.TheVariants as limit

abbrev pub limit_name : LimitKind → List ℕ
limit_name limit.Work = codes "Work"
limit_name limit.Nodes = codes "Nodes"
limit_name limit.Depth = codes "Depth"
limit_name limit.Signals = codes "Signals"
limit_name limit.Modules = codes "Modules"
limit_name limit.Items = codes "Items"
limit_name limit.States = codes "States"
limit_name limit.Domains = codes "Domains"
limit_name limit.Memories = codes "Memories"
limit_name limit.MemoryWords = codes "MemoryWords"
limit_name limit.Regions = codes "Regions"
limit_name limit.Sources = codes "Sources"
limit_name limit.Name = codes "Name"

abbrev pub name_of : Kind → List ℕ
name_of kind.NotYetBuilt = codes "NotYetBuilt"
name_of (kind.BadByte _) = codes "BadByte"
name_of kind.BadIndent = codes "BadIndent"
name_of kind.NumberRange = codes "NumberRange"
name_of kind.TooLong = codes "TooLong"
name_of kind.TooDeep = codes "TooDeep"
name_of (kind.Syntax _) = codes "Syntax"
name_of kind.NoTop = codes "NoTop"
name_of kind.WrongKind = codes "WrongKind"
name_of kind.WrongCount = codes "WrongCount"
name_of kind.DivZero = codes "DivZero"
name_of kind.BadSlice = codes "BadSlice"
name_of kind.BadWidth = codes "BadWidth"
name_of kind.SignedShift = codes "SignedShift"
name_of kind.BadKey = codes "BadKey"
name_of kind.NoStates = codes "NoStates"
name_of kind.TraceSyntax = codes "TraceSyntax"
name_of kind.TraceValue = codes "TraceValue"
name_of (kind.UnknownName _) = codes "UnknownName"
name_of (kind.BadOption _) = codes "BadOption"
name_of (kind.UnknownState _) = codes "UnknownState"
name_of (kind.TopRegister _) = codes "TopRegister"
name_of (kind.NameTaken _) = codes "NameTaken"
name_of (kind.UnknownBank _) = codes "UnknownBank"
name_of (kind.UnknownEvent _) = codes "UnknownEvent"
name_of (kind.StorageDriven _) = codes "StorageDriven"
name_of (kind.MemoryClocks _) = codes "MemoryClocks"
name_of (kind.RegionRange _) = codes "RegionRange"
name_of (kind.WrongWindow _) = codes "WrongWindow"
name_of (kind.TraceName _) = codes "TraceName"
name_of (kind.UnknownAccessor _) = codes "UnknownAccessor"
name_of (kind.TooWide _) = codes "TooWide"
name_of (kind.Limit _) = codes "Limit"
name_of (kind.FieldOverlap _ _) = codes "FieldOverlap"
name_of (kind.RegionOverlap _ _) = codes "RegionOverlap"
name_of (kind.RegionMisaligned _ _ _) = codes "RegionMisaligned"
name_of (kind.RegionExhausted _ _ _ _) = codes "RegionExhausted"
name_of (kind.IrqRange _ _) = codes "IrqRange"
name_of (kind.BankRange _ _) = codes "BankRange"
name_of (kind.IrqTaken _ _ _) = codes "IrqTaken"
name_of (kind.BankTaken _ _ _) = codes "BankTaken"
name_of (kind.IrqExhausted _) = codes "IrqExhausted"
name_of (kind.BankExhausted _) = codes "BankExhausted"
name_of (kind.BankFull _ _) = codes "BankFull"
name_of (kind.TwoDrivers _ _) = codes "TwoDrivers"
name_of (kind.CombLoop _) = codes "CombLoop"

-- a value behind a blank
abbrev pub blank_number : ℕ → List ℕ
blank_number n = codes " " ++ decimal n

-- with at least 8 digits
abbrev pub blank_hex : ℕ → List ℕ
blank_hex n = codes " " ++ hex_text 8 n

abbrev pub blank_name : List ℕ → List ℕ
blank_name name = codes " " ++ name

abbrev pub blank_names : List (List ℕ) → List ℕ
blank_names names = flat_map (λ name. blank_name name) names

abbrev pub window_text : Bool → List ℕ
window_text cached = if cached then codes " cached" else codes " uncached"

abbrev pub limit_text : LimitKind → List ℕ
limit_text l = blank_name (limit_name l) ++ blank_number (limit_number l)

-- the values of a kind, in their order
abbrev pub values_text : Kind → List ℕ
values_text kind.NotYetBuilt = []
values_text (kind.BadByte n) = blank_number n
values_text kind.BadIndent = []
values_text kind.NumberRange = []
values_text kind.TooLong = blank_number max_bytes
values_text kind.TooDeep = codes " 64"
values_text (kind.Syntax n) = blank_number n
values_text kind.NoTop = []
values_text kind.WrongKind = []
values_text kind.WrongCount = []
values_text kind.DivZero = []
values_text kind.BadSlice = []
values_text kind.BadWidth = []
values_text kind.SignedShift = []
values_text kind.BadKey = []
values_text kind.NoStates = []
values_text kind.TraceSyntax = []
values_text kind.TraceValue = []
values_text (kind.UnknownName name) = blank_name name
values_text (kind.BadOption name) = blank_name name
values_text (kind.UnknownState name) = blank_name name
values_text (kind.TopRegister name) = blank_name name
values_text (kind.NameTaken name) = blank_name name
values_text (kind.UnknownBank name) = blank_name name
values_text (kind.UnknownEvent name) = blank_name name
values_text (kind.StorageDriven name) = blank_name name
values_text (kind.MemoryClocks name) = blank_name name
values_text (kind.RegionRange name) = blank_name name
values_text (kind.WrongWindow name) = blank_name name
values_text (kind.TraceName name) = blank_name name
values_text (kind.UnknownAccessor name) = blank_name name
values_text (kind.TooWide n) = blank_number n
values_text (kind.Limit l) = limit_text l
values_text (kind.FieldOverlap earlier later) = blank_name earlier ++ blank_name later
values_text (kind.RegionOverlap earlier later) = blank_name earlier ++ blank_name later
values_text (kind.RegionMisaligned name origin rounded) = blank_name name ++ (blank_hex origin ++ blank_hex rounded)
values_text (kind.RegionExhausted cached size free wanted) = window_text cached ++ (blank_hex size ++ (blank_number free ++ blank_number wanted))
values_text (kind.IrqRange name n) = blank_name name ++ blank_number n
values_text (kind.BankRange name n) = blank_name name ++ blank_number n
values_text (kind.IrqTaken n earlier later) = blank_number n ++ (blank_name earlier ++ blank_name later)
values_text (kind.BankTaken n earlier later) = blank_number n ++ (blank_name earlier ++ blank_name later)
values_text (kind.IrqExhausted n) = blank_number n
values_text (kind.BankExhausted n) = blank_number n
values_text (kind.BankFull name n) = blank_name name ++ blank_number n
values_text (kind.TwoDrivers name n) = blank_name name ++ blank_number n
values_text (kind.CombLoop names) = blank_names names

-- the file's name, the line, the kind and its values
abbrev pub line_text : List ℕ → Fault → List ℕ
line_text file f = file ++ (codes ":" ++ (decimal f.line ++ (codes ": " ++ (name_of f.kind ++ (values_text f.kind ++ codes "\n")))))
