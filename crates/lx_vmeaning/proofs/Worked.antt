-- The values of modules that are run by hand.
use Rattle.std.proofs.Common.{ℕ, cond, List, [], ◌∷◌, refl, sym, ◌∙◌}
use Rattle.std.specs.Str.{bytes_eq}
use Rattle.lx_vtext.specs.Tree.{Name, VModule}
use Rattle.lx_vmeaning.specs.Meaning.{Valuation}
use Rattle.lx_vmeaning.specs.Runs.{VStep, v_next, v_first, VViewFrom, IsVView}
use Rattle.lx_vmeaning.specs.Loops.{HasNoLoop}
use Rattle.lx_vmeaning.specs.Cycle.{HasCycleMeaning}
use Rattle.lx_vmeaning.specs.Settling.{IsSame}
use Rattle.lx_vmeaning.specs.Samples.{r, s, with_memory, two_clocks}
use Rattle.lx_vmeaning.specs.WorkedFaults.{y, plain}
use Rattle.lx_vmeaning.proofs.Ranks.{ranks_fall}
use Rattle.lx_vmeaning.proofs.Settle.{reached, reached_settled}
use Rattle.lx_vmeaning.proofs.Views.{viewed_once}

-- one name above all others
abbrev pub over : Name → Name → ℕ
over top n = cond (bytes_eq n top) 1 0

abbrev pub memory_loop : HasNoLoop with_memory
memory_loop = record { rank = over r; falls = ranks_fall with_memory (over r) refl refl }

abbrev pub clocks_loop : HasNoLoop two_clocks
clocks_loop = record { rank = over s; falls = ranks_fall two_clocks (over s) refl refl }

pub memory_meaning : HasCycleMeaning with_memory
memory_meaning = record {
  names = record { declared_once = refl; inits = refl; assigns = refl; blocks = refl };
  widths = record { ports = refl; decls = refl; port_values = refl; decl_values = refl; inits = refl; assigns = refl; blocks = refl };
  drivers = record { ports = refl; decls = refl };
  blocks = record { memories = refl; inits = refl; always = refl };
  no_loop = memory_loop;
}

pub clocks_meaning : HasCycleMeaning two_clocks
clocks_meaning = record {
  names = record { declared_once = refl; inits = refl; assigns = refl; blocks = refl };
  widths = record { ports = refl; decls = refl; port_values = refl; decl_values = refl; inits = refl; assigns = refl; blocks = refl };
  drivers = record { ports = refl; decls = refl };
  blocks = record { memories = refl; inits = refl; always = refl };
  no_loop = clocks_loop;
}

-- y reads q and a, and s reads y
abbrev plain_rank : Name → ℕ
plain_rank n = cond (bytes_eq n s) 2 (over y n)

pub plain_meaning : HasCycleMeaning plain
plain_meaning = record {
  names = record { declared_once = refl; inits = refl; assigns = refl; blocks = refl };
  widths = record { ports = refl; decls = refl; port_values = refl; decl_values = refl; inits = refl; assigns = refl; blocks = refl };
  drivers = record { ports = refl; decls = refl };
  blocks = record { memories = refl; inits = refl; always = refl };
  no_loop = record { rank = plain_rank; falls = ranks_fall plain plain_rank refl refl };
}

-- the values after a list of steps, round by round
abbrev pub run : (m : VModule) → HasNoLoop m → Valuation → List VStep → (Name → ℕ) → Valuation
run m o state [] inputs = reached m o state inputs
run m o state (t ∷ ts) inputs = run m o (v_next m state (reached m o state t.inputs) t.rises) ts inputs

run_views : (m : VModule) (o : HasNoLoop m) (state : Valuation) (steps : List VStep) (inputs : Name → ℕ) → VViewFrom m state steps inputs (run m o state steps inputs)
run_views m o state [] inputs = reached_settled m o state inputs
run_views m o state (t ∷ ts) inputs = (reached m o state t.inputs, reached_settled m o state t.inputs, run_views m o (v_next m state (reached m o state t.inputs) t.rises) ts inputs)

-- every view has them
view_is : (m : VModule) (o : HasNoLoop m) → HasCycleMeaning m → (steps : List VStep) (inputs : Name → ℕ) (v : Valuation) → IsVView m steps inputs v → IsSame v (run m o (v_first m) steps inputs)
view_is m o h steps inputs v p =
    let once = viewed_once m h steps inputs in
    let mine = run_views m o (v_first m) steps inputs in
    record {
      nets = λ n. (once.only v p).nets n ∙ sym ((once.only (run m o (v_first m) steps inputs) mine).nets n);
      words = λ n k. (once.only v p).words n k ∙ sym ((once.only (run m o (v_first m) steps inputs) mine).words n k);
    }

pub memory_view : (steps : List VStep) (inputs : Name → ℕ) (v : Valuation) → IsVView with_memory steps inputs v → IsSame v (run with_memory memory_loop (v_first with_memory) steps inputs)
memory_view = view_is with_memory memory_loop memory_meaning

pub clocks_view : (steps : List VStep) (inputs : Name → ℕ) (v : Valuation) → IsVView two_clocks steps inputs v → IsSame v (run two_clocks clocks_loop (v_first two_clocks) steps inputs)
clocks_view = view_is two_clocks clocks_loop clocks_meaning
