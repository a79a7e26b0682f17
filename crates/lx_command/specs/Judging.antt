-- What the reader finds in a description's text: its tree, or the fault that comes first.
use Rattle.std.specs.Prelude.{◌≡◌, ℕ, ◌<◌, List, map, length, Result, Ok, Err, ◌⊎◌}
use Rattle.lx_text.specs.declared.faults.Fault.{Fault}
use Rattle.lx_text.specs.declared.faults.Refusal.{Refusal}
use Rattle.lx_text.specs.declared.faults.Refusal.TheVariants as refusal
use Rattle.lx_token.specs.declared.tokens.Token.{Token}
use Rattle.lx_token.specs.Tokens.{tokens_of}
use Rattle.lx_grammar.specs.Derives.{IsTreeOf}
use Rattle.lx_grammar.specs.Derives as grown
use Rattle.lx_grammar.specs.Signs.{item_of}
use Rattle.lx_pytree.specs.declared.tree.Tree.{Tree}
use Rattle.lx_pytree.specs.Reading.{IsAtToken, tree_of}

-- the tree that the grammar derives from all tokens of the text
pub record HasTree (bytes : List ℕ) (t : grown.Tree) : Type 0 where
  pub tokens : List Token
  pub cut : tokens_of bytes ≡ Ok tokens
  pub derived : IsTreeOf (map (item_of bytes) tokens) t

-- the tokens have no tree, and the fault tells the number and the line of one of them
pub record IsSyntaxFault (bytes : List ℕ) (f : Fault) : Type 0 where
  pub tokens : List Token
  pub cut : tokens_of bytes ≡ Ok tokens
  pub none : (t : grown.Tree) → IsTreeOf (map (item_of bytes) tokens) t → ⊥
  pub place : IsAtToken tokens f

-- the fault that the text has: of its tokens, or of its syntax
abbrev pub HasTextFault : List ℕ → Fault → Type 0
HasTextFault bytes f = (tokens_of bytes ≡ Err f) ⊎ IsSyntaxFault bytes f

-- the text's tree, as it is held
pub record IsTreeOfText (bytes : List ℕ) (t : Tree) : Type 0 where
  pub has : HasTree bytes (tree_of t)
  pub rooted : t.root.place < length t.nodes

-- want of memory aside, judging a text answers its tree or its fault
abbrev pub Judges : List ℕ → Result Tree Refusal → Type 0
Judges bytes (Ok t) = IsTreeOfText bytes t
Judges bytes (Err (refusal.Fault f)) = HasTextFault bytes f
Judges bytes (Err refusal.NoMemory) = Unit {0}
