-- The lines that are said.
use Rattle.std.specs.Prelude.{ℕ, List, ◌++◌, codes}
use Rattle.lx_text.specs.declared.faults.Fault.{Fault}
use Rattle.lx_text.specs.declared.faults.Kind.TheVariants as kind
use Rattle.lx_command.specs.declared.lines.Line.{Line}
use Rattle.lx_command.specs.declared.lines.Line.TheVariants as line

-- what a build says of a circuit without a bus
abbrev pub summary_text : List ℕ → List ℕ
summary_text top = codes "built " ++ (top ++ codes ": 0 registers, 0 banks, 0 regions, 0 interrupts\n")

abbrev pub usage_line : List ℕ
usage_line = codes "usage: lxb build SRC | map SRC | sim SRC TRACE | poke SRC SCRIPT | gen N\n"

abbrev pub cannot_read_line : List ℕ → List ℕ
cannot_read_line name = name ++ codes ": cannot read\n"

abbrev pub cannot_write_line : List ℕ → List ℕ
cannot_write_line name = codes "cannot write " ++ (name ++ codes "\n")

abbrev pub no_memory_line : List ℕ
no_memory_line = codes "no memory\n"

-- the fixed lines
abbrev pub fixed_line : Line → List ℕ
fixed_line line.Usage = usage_line
fixed_line (line.CannotRead name) = cannot_read_line name.now
fixed_line (line.CannotWrite name) = cannot_write_line name.now
fixed_line line.NoMemory = no_memory_line

-- a fault of a command that isn't built yet, or of a description that isn't
abbrev pub not_built : Fault
not_built = record { line = 0; kind = kind.NotYetBuilt }

-- a fault of a file that is too long
abbrev pub too_long : Fault
too_long = record { line = 0; kind = kind.TooLong }
