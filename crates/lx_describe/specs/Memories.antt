-- The memories of a design with their paths, and their ports.
use Rattle.std.specs.Prelude.{ℕ, List, [], ◌∷◌, map, Option, Some, None}
use Rattle.lx_fhdl.specs.declared.design.Memory.{Memory}
use Rattle.lx_fhdl.specs.declared.design.Port.{Port}
use Rattle.lx_state.specs.declared.machine.Machine.{Machine}
use Rattle.lx_state.specs.declared.machine.PortState.{PortState}
use Rattle.lx_paths.specs.Paths.{path_of}

-- of each memory the path of its object
abbrev pub memory_paths : Machine → List (List (List ℕ))
memory_paths m = map (λ object. path_of m object None) m.memory_objects

-- a memory with its path, where there is one
abbrev pub at_path : Option (List (List ℕ)) → Memory → Memory
at_path None x = x
at_path (Some path) x = record x { path = path }

-- each memory with the path at its place; one past them keeps its own
unfoldable pub with_paths : List (List (List ℕ)) → List Memory → List Memory
with_paths [] xs = xs
with_paths (p ∷ ps) [] = []
with_paths (p ∷ ps) (x ∷ xs) = at_path (Some p) x ∷ with_paths ps xs

-- the memories, named after their objects
abbrev pub named_memories : Machine → List Memory
named_memories m = with_paths (memory_paths m) m.memories

-- the ports of all memories, in order of making
abbrev pub ports_of : Machine → List Port
ports_of m = map (λ (p : PortState). p.port) m.ports
