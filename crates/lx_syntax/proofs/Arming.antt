-- What an `if` goes on with, by the first parts.
use Rattle.std.proofs.Common.{◌≡◌, List, [], ◌∷◌, refl, arith, Bor}
use Rattle.lx_token.specs.declared.tokens.Token.{Token}
use Rattle.lx_arena.specs.declared.Id.{Id}
use Rattle.lx_pytree.specs.declared.tree.PyNodes.{PyNodes}
use Rattle.lx_pytree.specs.declared.tree.PyPart.{PyPart}
use Rattle.lx_pytree.specs.declared.tree.PyPart.TheVariants as part
use Rattle.lx_pytree.specs.Trees.{plants}
use Rattle.lx_syntax.specs.declared.stmts.Arm.{Arm}
use Rattle.lx_syntax.specs.declared.stmts.Arm.TheVariants as arm
use Rattle.lx_syntax.specs.Blocks.{IsArm, IsBranching, IsElse, IsEnd}
use Rattle.lx_syntax.specs.Convert.{branches, otherwise}
use Rattle.lx_syntax.specs.Says.{PartsLower}

nothing : IsEnd []
unfolding branches otherwise plants
nothing = record { branches = λ src t. refl; otherwise = λ src t. refl }

node : (id : Id PyNodes) (ps : List PyPart) → IsEnd (part.Node id ∷ ps)
unfolding branches otherwise plants
node id ps = record { branches = λ src t. refl; otherwise = λ src t. refl }

word : (x : Token) → IsEnd (part.Token x ∷ [])
unfolding branches otherwise plants
word x = record { branches = λ src t. refl; otherwise = λ src t. refl }

two : (x y : Token) → IsEnd (part.Token x ∷ part.Token y ∷ [])
unfolding branches otherwise plants
two x y = record { branches = λ src t. refl; otherwise = λ src t. refl }

three : (x y z : Token) (ps : List PyPart) → IsEnd (part.Token x ∷ part.Token y ∷ part.Token z ∷ ps)
unfolding branches otherwise plants
three x y z ps = record { branches = λ src t. refl; otherwise = λ src t. refl }

condition : (x : Token) (id : Id PyNodes) → IsEnd (part.Token x ∷ part.Node id ∷ [])
unfolding branches otherwise plants
condition x id = record { branches = λ src t. refl; otherwise = λ src t. refl }

conditions : (x : Token) (id j : Id PyNodes) (ps : List PyPart) → IsEnd (part.Token x ∷ part.Node id ∷ part.Node j ∷ ps)
unfolding branches otherwise plants
conditions x id j ps = record { branches = λ src t. refl; otherwise = λ src t. refl }

open_ : (x y : Token) (id : Id PyNodes) → IsEnd (part.Token x ∷ part.Node id ∷ part.Token y ∷ [])
unfolding branches otherwise plants
open_ x y id = record { branches = λ src t. refl; otherwise = λ src t. refl }

opens : (x y z : Token) (id : Id PyNodes) (ps : List PyPart) → IsEnd (part.Token x ∷ part.Node id ∷ part.Token y ∷ part.Token z ∷ ps)
unfolding branches otherwise plants
opens x y z id ps = record { branches = λ src t. refl; otherwise = λ src t. refl }

other : (x y : Token) (id : Id PyNodes) (ps : List PyPart) → IsElse (part.Token x ∷ part.Token y ∷ part.Node id ∷ ps) id.place
unfolding branches otherwise plants PartsLower
other x y id ps = record { branches = λ src t. refl; otherwise = λ src t. refl; block_low = λ n l. l.0 }

branch : (x y : Token) (c b : Id PyNodes) (ps : List PyPart) → IsBranching (part.Token x ∷ part.Node c ∷ part.Token y ∷ part.Node b ∷ ps) c.place b.place ps
unfolding branches otherwise plants PartsLower
branch x y c b ps = record { branches = λ src t. refl; otherwise = λ src t. refl; condition_low = λ n l. l.0; block_low = λ n l. l.1.0; left = λ n l. l.1.1; shorter = omega arith }

pub arm_same : (ps qs : List PyPart) (a : Arm) → ps ≡ qs → IsArm qs a → IsArm ps a
arm_same ps qs a e is = rw e is

pub behind_same : (x : Token) (ps qs : List PyPart) (a : Arm) → ps ≡ qs → IsArm (part.Token x ∷ qs) a → IsArm (part.Token x ∷ ps) a
behind_same x ps qs a e is = rw e is

pub arm_done : (ps : List PyPart) → ps ≡ [] → IsArm ps arm.End
arm_done ps e = rw e nothing

pub arm_node : (ps qs : List PyPart) (id : Id PyNodes) → ps ≡ part.Node id ∷ qs → IsArm ps arm.End
arm_node ps qs id e = rw e (node id qs)

pub word_done : (x : Token) (ps : List PyPart) → ps ≡ [] → IsArm (part.Token x ∷ ps) arm.End
word_done x ps e = rw e (word x)

pub else_done : (x y : Token) (ps : List PyPart) → ps ≡ [] → IsArm (part.Token x ∷ part.Token y ∷ ps) arm.End
else_done x y ps e = rw e (two x y)

pub else_token : (x y z : Token) (ps qs : List PyPart) → ps ≡ part.Token z ∷ qs → IsArm (part.Token x ∷ part.Token y ∷ ps) arm.End
else_token x y z ps qs e = rw e (three x y z qs)

pub else_node : (x y : Token) (id : Id PyNodes) (ps qs : List PyPart) → ps ≡ part.Node id ∷ qs → IsArm (part.Token x ∷ part.Token y ∷ ps) (arm.Else id)
else_node x y id ps qs e = rw e (other x y id qs)

pub branch_done : (x : Token) (c : Id PyNodes) (ps : List PyPart) → ps ≡ [] → IsArm (part.Token x ∷ part.Node c ∷ ps) arm.End
branch_done x c ps e = rw e (condition x c)

pub branch_node : (x : Token) (c j : Id PyNodes) (ps qs : List PyPart) → ps ≡ part.Node j ∷ qs → IsArm (part.Token x ∷ part.Node c ∷ ps) arm.End
branch_node x c j ps qs e = rw e (conditions x c j qs)

pub branch_open : (x y : Token) (c : Id PyNodes) (ps qs : List PyPart) → ps ≡ part.Token y ∷ qs → qs ≡ [] → IsArm (part.Token x ∷ part.Node c ∷ ps) arm.End
branch_open x y c ps qs e f = rw (e, f) (open_ x y c)

pub branch_token : (x y z : Token) (c : Id PyNodes) (ps qs rs : List PyPart) → ps ≡ part.Token y ∷ qs → qs ≡ part.Token z ∷ rs → IsArm (part.Token x ∷ part.Node c ∷ ps) arm.End
branch_token x y z c ps qs rs e f = rw (e, f) (opens x y z c rs)

pub branch_block : (x y : Token) (c b : Id PyNodes) (ps qs : List PyPart) (left : Bor (List PyPart)) → ps ≡ part.Token y ∷ qs → qs ≡ part.Node b ∷ left.now → IsArm (part.Token x ∷ part.Node c ∷ ps) (arm.Branch c b left)
branch_block x y c b ps qs left e f = rw (e, f) (branch x y c b left.now)
