-- Programs whose nodes hang.
use Rattle.std.specs.Prelude.{ℕ, ◌≡◌, length, Some, slice_get}
use Rattle.lx_arena.specs.Lower.{EachLower}
use Rattle.lx_syntax.specs.declared.forms.ClassForm.{ClassForm}
use Rattle.lx_syntax.specs.declared.forms.Program.{Program}
use Rattle.lx_syntax.specs.Forms.{Lower, class_ids, node_below}

-- each node's parts are lower, and the parts of classes are nodes
pub record IsProgram (p : Program) : Type 0 where
  pub lower : EachLower node_below p.nodes
  pub classes : (k : ℕ) (c : ClassForm) → slice_get p.classes k ≡ Some c → Lower (length p.nodes) (class_ids c)
