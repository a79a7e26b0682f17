-- Which modules declare a circuit, worked by hand on one signal of 8 unsigned bits.
use Rattle.std.specs.Prelude.{ℕ, pos, Bool, true, false, List, [], ◌∷◌, None, codes}
use Rattle.lx_num.specs.Ints.{unsigned}
use Rattle.lx_circuit.specs.Statements.{Done}
use Rattle.lx_circuit.specs.Circuit.{Circuit}
use Rattle.lx_vtext.specs.Tree.{VDecl, NetDecl, VModule}
use Rattle.lx_agree.specs.Agreement.{Naming, Declares}

abbrev pub one_signal : Circuit
one_signal = record {
  signals = record { shape = unsigned 8; reset = pos 0; reset_less = false; given = false } ∷ [];
  comb = Done;
  domains = [];
  memories = [];
  ports = [];
  ios = [];
}

abbrev pub named : Naming
named = record { net = λ x. codes "a"; clock = λ d. []; memory = λ m. [] }

-- a module with these nets alone
abbrev pub with_nets : List VDecl → VModule
with_nets ds = record { ports = []; decls = ds; inits = []; assigns = []; always = [] }

abbrev pub with_net : Bool → ℕ → VModule
with_net signed bits = with_nets (NetDecl (record { signed = signed; bits = bits; name = codes "a"; init = None }) ∷ [])

-- A net of the signal's width and sign declares it; a net that is a bit short or signed does not, nor does a module without it.
pub record AreDeclared : Type 0 where
  pub whole : Declares one_signal (with_net false 8) named
  pub short : Declares one_signal (with_net false 7) named → ⊥
  pub other_sign : Declares one_signal (with_net true 8) named → ⊥
  pub undeclared : Declares one_signal (with_nets []) named → ⊥
