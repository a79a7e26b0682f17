-- The first of some parts or nodes, and what is left behind it.
use Rattle.std.specs.Prelude.{List, [], ◌∷◌, ◌≡◌, ◌<◌, ◌≤◌, length}
use Rattle.lx_token.specs.declared.tokens.Token.{Token}
use Rattle.lx_pytree.specs.declared.tree.PyPart.{PyPart}
use Rattle.lx_pytree.specs.declared.tree.PyPart.TheVariants as part
use Rattle.lx_syntax.specs.declared.parts.Few.{Few}
use Rattle.lx_syntax.specs.declared.parts.Few.TheVariants as few
use Rattle.lx_syntax.specs.declared.parts.Head.{Head}
use Rattle.lx_syntax.specs.declared.parts.Head.TheVariants as head
use Rattle.lx_syntax.specs.declared.parts.Line.{Line}
use Rattle.lx_syntax.specs.declared.parts.Line.TheVariants as line
use Rattle.lx_syntax.specs.declared.parts.Row.{Row}
use Rattle.lx_syntax.specs.declared.parts.Row.TheVariants as row
use Rattle.lx_syntax.specs.declared.parts.Twos.{Twos}
use Rattle.lx_syntax.specs.declared.parts.Twos.TheVariants as twos
use Rattle.lx_syntax.specs.declared.parts.Words.{Words}
use Rattle.lx_syntax.specs.declared.parts.Words.TheVariants as words
use Rattle.lx_syntax.specs.Forms.{Ids}

abbrev pub IsFew : Ids → Few → Type 0
IsFew ids few.Zero = ids ≡ []
IsFew ids (few.One a) = ids ≡ a ∷ []
IsFew ids (few.Two a b) = ids ≡ a ∷ b ∷ []
IsFew ids few.Many = 3 ≤ length ids

abbrev pub IsRow : Ids → Row → Type 0
IsRow ids row.Done = ids ≡ []
IsRow ids (row.Next id rest) = (ids ≡ id ∷ rest.now) × (length rest.now < length ids)

abbrev pub IsTwos : Ids → Twos → Type 0
IsTwos ids twos.Done = length ids < 2
IsTwos ids (twos.Next a b rest) = (ids ≡ a ∷ b ∷ rest.now) × (length rest.now < length ids)

abbrev pub IsHead : List PyPart → Head → Type 0
IsHead ps head.Done = ps ≡ []
IsHead ps (head.Token x rest) = ps ≡ part.Token x ∷ rest.now
IsHead ps (head.Node id rest) = ps ≡ part.Node id ∷ rest.now

abbrev pub AreWords : List Token → Words → Type 0
AreWords xs words.Zero = xs ≡ []
AreWords xs (words.One x) = xs ≡ x ∷ []
AreWords xs words.Two = length xs ≡ 2
AreWords xs words.Three = length xs ≡ 3
AreWords xs words.Many = 4 ≤ length xs

abbrev pub IsLine : List Token → Line → Type 0
IsLine xs line.Done = xs ≡ []
IsLine xs (line.Next x rest) = xs ≡ x ∷ rest.now
