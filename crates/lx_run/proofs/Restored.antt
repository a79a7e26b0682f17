-- Names of a comprehension.
use Rattle.std.proofs.Common.{◌≡◌, ◌∙◌, ◌++◌, List, [], ◌∷◌, ap, sym}
use Rattle.lx_state.specs.declared.machine.Machine.{Machine}
use Rattle.lx_state.specs.Frames.{restore}
use Rattle.lx_state.specs.Step.{go_on}
use Rattle.lx_run.specs.declared.loops.Hidden.{Hidden}
use Rattle.lx_run.specs.Loops.{names_restored}
use Rattle.lx_run.proofs.Steps.{go_on_give, go_on_go_on}

pub restored_last : (hs : List Hidden) (h : Hidden) (m : Machine) → names_restored (hs ++ h ∷ []) m ≡ go_on (restore h.name h.before m) (λ u. names_restored hs)
unfolding names_restored
restored_last [] h m = sym (go_on_give (restore h.name h.before m))
restored_last (g ∷ hs) h m = ap (λ r. go_on r (λ u. restore g.name g.before)) (restored_last hs h m) ∙ go_on_go_on (restore h.name h.before m) (λ u. names_restored hs) (λ u. restore g.name g.before)
