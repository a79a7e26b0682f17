-- That trailers say what stands behind an atom.
use Rattle.std.specs.Prelude.{ℕ, List, [], ◌∷◌, ◌++◌, ◌≡◌, ◌<◌, length}
use Rattle.lx_grammar.specs.Derives.{Tree}
use Rattle.lx_pytree.specs.declared.tree.PyPart.{PyPart}
use Rattle.lx_pytree.specs.Trees.{plants}
use Rattle.lx_syntax.specs.declared.forms.Trailer.{Trailer}
use Rattle.lx_syntax.specs.declared.trailers.Front.{Front}
use Rattle.lx_syntax.specs.declared.trailers.Front.TheVariants as front
use Rattle.lx_syntax.specs.declared.trailers.Mark.{Mark}
use Rattle.lx_syntax.specs.declared.trailers.Mark.TheVariants as mark
use Rattle.lx_syntax.specs.Ast as ast
use Rattle.lx_syntax.specs.Ast.{Trailers}
use Rattle.lx_syntax.specs.Convert.{arguments, bounds, called_or_indexed, called_or_named, expr, sign_of, text_of, trailers}
use Rattle.lx_syntax.specs.Forms.{Exprs_at, Lower, trailer_before, trailer_ids, trailers_at, trailers_ids}
use Rattle.lx_syntax.specs.Says.{PartsLower, exprs_of}

-- what a mark says before other trailers
abbrev pub mark_before : List ℕ → (ℕ → Tree) → Mark → Trailers → Trailers
mark_before src t (mark.Pair x y) rest = called_or_named (sign_of src x) (text_of src y) rest
mark_before src t (mark.Bracket x id) rest = called_or_indexed (sign_of src x) (arguments src (t id.place) (expr src (t id.place))) (bounds src (t id.place) (expr src (t id.place))) rest

abbrev pub MarkLower : ℕ → Mark → Type 0
MarkLower n (mark.Pair x y) = Unit {0}
MarkLower n (mark.Bracket x id) = id.place < n

-- a mark at the front of parts, and what is left behind it
pub record IsOn (ps : List PyPart) (mark : Mark) (rest : List PyPart) : Type 0 where
  pub says : (src : List ℕ) (t : ℕ → Tree) → trailers src (plants t ps) ≡ mark_before src t mark (trailers src (plants t rest))
  pub lower : (n : ℕ) → PartsLower n ps → MarkLower n mark
  pub left : (n : ℕ) → PartsLower n ps → PartsLower n rest
  pub shorter : length rest < length ps

abbrev pub IsFront : List PyPart → Front → Type 0
IsFront ps front.End = (src : List ℕ) (t : ℕ → Tree) → trailers src (plants t ps) ≡ ast.no_trailer
IsFront ps (front.On mark rest) = IsOn ps mark rest.now

-- a trailer that says what a mark says
pub record IsMade (src : List ℕ) (t : ℕ → Tree) (mark : Mark) (x : Trailer) : Type 0 where
  pub says : (rest : Trailers) → trailer_before src (exprs_of src t) x rest ≡ mark_before src t mark rest
  pub lower : (n : ℕ) → MarkLower n mark → Lower n (trailer_ids x)

-- one that is put behind others
pub record IsPut (src : List ℕ) (t : ℕ → Tree) (mark : Mark) (old new : List Trailer) : Type 0 where
  pub trailer : Trailer
  pub made : IsMade src t mark trailer
  pub put : new ≡ old ++ trailer ∷ []

-- trailers, and behind them these
unfoldable pub trailers_onto : List ℕ → Exprs_at → List Trailer → Trailers → Trailers
trailers_onto src f [] rest = rest
trailers_onto src f (x ∷ xs) rest = trailer_before src f x (trailers_onto src f xs rest)

-- trailers that are read from parts, of which these are left
pub record AreRead (src : List ℕ) (t : ℕ → Tree) (n : ℕ) (ps rest : List PyPart) (xs : List Trailer) : Type 0 where
  pub says : trailers_onto src (exprs_of src t) xs (trailers src (plants t rest)) ≡ trailers src (plants t ps)
  pub lower : Lower n (trailers_ids xs)
  pub left : PartsLower n rest

-- all of them
pub record AreTrailers (src : List ℕ) (t : ℕ → Tree) (n : ℕ) (ps : List PyPart) (xs : List Trailer) : Type 0 where
  pub says : trailers_at src (exprs_of src t) xs ≡ trailers src (plants t ps)
  pub lower : Lower n (trailers_ids xs)
