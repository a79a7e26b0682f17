-- The statements of a description with an FSM, worked by hand.
use Rattle.std.specs.Prelude.{◌≡◌, ℕ, pos, List, [], ◌∷◌, Option, Some, None, codes, option_map, slice_get, nat_eq, if◌then◌else◌}
use Rattle.lx_num.specs.Ints.{unsigned}
use Rattle.lx_tables.specs.declared.operators.Op.TheVariants as op
use Rattle.lx_circuit.specs.Terms.{Term, Constant, Signal, Binary}
use Rattle.lx_circuit.specs.Statements as tree
use Rattle.lx_circuit.specs.Statements.{Whole}
use Rattle.lx_fhdl.specs.declared.design.Signal as made
use Rattle.lx_description.specs.Instance.{fsm_of, system, system_signals}
use Rattle.lx_description.specs.declared.fsms.FsmDecl.{FsmDecl}
use Rattle.lx_lowering.specs.Flat.{one, when}
use Rattle.lx_fsm.specs.Flattened.{flat_comb, flat_sync, given_at, sys_number, with_starts, woven}

abbrev pub bit : ℕ → Term
bit k = Constant (pos k) (unsigned 1)

-- `state == k`
abbrev pub is_ : ℕ → Term
is_ k = Binary op.Eq (Signal 19) (bit k)

-- the FSM, with this reset state
abbrev pub starting : Option (List ℕ) → FsmDecl
starting start = record (fsm_of 20) { start = start }

pub record AreLaid : Type 0 where
  -- it was added after both statements, and is asked for B: signal 20 is `state == 1`
  pub comb : flat_comb system ≡
      tree.Then (tree.Assign (Whole 21) (Signal 10)) (tree.Then (tree.Assign (Whole 13) (Signal 20)) (one (tree.Assign (Whole 20) (is_ 1))))
  -- A goes to B where signal 10 isn't 0; B goes back, and assigns signal 22
  pub sync : flat_sync system 0 ≡
      tree.Then
      (tree.If (tree.Branch (is_ 0) (when (Signal 10) (one (tree.Assign (Whole 19) (bit 1)))) tree.NoBranch) tree.Done)
      (when (is_ 1) (tree.Then (tree.Assign (Whole 19) (bit 0)) (one (tree.Assign (Whole 22) (bit 1)))))
  -- no other domain has them
  pub other : flat_sync system 1 ≡ tree.Done
  -- two FSMs at one place stand in order of creation
  pub both : given_at (λ f. Some f.line) (λ f. one (tree.Assign (Whole f.state.0) (bit 0))) 29 (starting None ∷ starting None ∷ []) ≡ tree.Then (tree.Assign (Whole 19) (bit 0)) (one (tree.Assign (Whole 19) (bit 0)))
  -- what stands before number 1
  pub between : woven (λ k. if nat_eq k 1 then one (tree.Assign (Whole 7) (bit 0)) else tree.Done) 0 (one (tree.Assign (Whole 5) (bit 0)) ∷ one (tree.Assign (Whole 6) (bit 0)) ∷ []) ≡
      tree.Then (tree.Assign (Whole 5) (bit 0)) (tree.Then (tree.Assign (Whole 7) (bit 0)) (one (tree.Assign (Whole 6) (bit 0))))
  -- `state` starts in B where B is the reset state, else in A
  pub first : option_map (λ (s : made.Signal). s.reset) (slice_get (with_starts (starting None ∷ []) system_signals) 19) ≡ Some (pos 0)
  pub stated : option_map (λ (s : made.Signal). s.reset) (slice_get (with_starts (starting (Some (codes "B")) ∷ []) system_signals) 19) ≡ Some (pos 1)
  -- `sys` is the first domain
  pub domain : sys_number system.design.domains ≡ 0
