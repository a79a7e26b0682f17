-- Where a run stands, and words past the end, worked by hand.
use Rattle.std.specs.Prelude.{◌≡◌, ℕ, ℤ, pos, negsuc, List, [], ◌∷◌, length}
use Rattle.lx_circuit.specs.Places.{At}
use Rattle.lx_fhdl.specs.Instance.{the_signal}
use Rattle.lx_trace.specs.declared.acts.TraceAct.{TraceAct}
use Rattle.lx_trace.specs.declared.acts.TraceAct.TheVariants as act
use Rattle.lx_trace.specs.Traces.{rises_of}
use Rattle.lx_sim.specs.Moments.{Moment, start, with_input}
use Rattle.lx_sim.specs.Said.{after}
use Rattle.lx_sim.specs.Words.{word_at}

abbrev pub tick : ℕ → TraceAct
tick rises = act.Run 1 (record { rises = rises })

-- input 2 is 5, then domains rise, and then the input is -1
abbrev pub moved : Moment
moved = after (after (after start (act.Set (the_signal 2) (pos 5))) (tick 3)) (act.Set (the_signal 2) (negsuc 0))

abbrev pub two_words : List (List ℤ)
two_words = (pos 7 ∷ pos 9 ∷ []) ∷ []

pub record AreWorked : Type 0 where
  -- what an input is during a step stays as it was
  pub during : moved.steps ≡ record { inputs = with_input start.inputs 2 (pos 5); rises = rises_of 3 } ∷ []
  pub now : moved.inputs (At 2) ≡ negsuc 0
  pub other : moved.inputs (At 1) ≡ pos 0
  pub each_step : length (after start (act.Run 4 (record { rises = 1 }))).steps ≡ 4
  pub word : word_at two_words 0 1 ≡ pos 9
  pub past_the_end : word_at two_words 0 2 ≡ pos 0
  pub no_memory : word_at two_words 1 0 ≡ pos 0
