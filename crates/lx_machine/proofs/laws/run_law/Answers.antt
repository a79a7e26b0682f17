use Rattle.lx_machine.proofs.Views.{view_ran, ran_view}
use Rattle.lx_machine.proofs.laws.run_law.Goals as goal

pub returns : goal.returns
returns c = record { there = view_ran; back = ran_view }
