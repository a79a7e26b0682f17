-- What is limited, and to what.
use Rattle.std.specs.Prelude.{ℕ}
use Rattle.lx_text.specs.declared.faults.LimitKind.{LimitKind}
use Rattle.lx_text.specs.declared.faults.LimitKind.TheVariants as limit

-- the most bytes of a description, a trace or a script
abbrev pub max_bytes : ℕ
max_bytes = 1048576

-- the greatest number that is allowed
abbrev pub limit_number : LimitKind → ℕ
limit_number limit.Work = 1000000
limit_number limit.Nodes = 262144
limit_number limit.Depth = 64
limit_number limit.Signals = 65536
limit_number limit.Modules = 4096
limit_number limit.Items = 1024
limit_number limit.States = 256
limit_number limit.Domains = 16
limit_number limit.Memories = 1024
limit_number limit.MemoryWords = 131072
limit_number limit.Regions = 64
limit_number limit.Sources = 32
limit_number limit.Name = 64
