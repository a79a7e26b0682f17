use Rattle.std.proofs.Common.{◌≡◌, drop}
use Rattle.lx_syntax.specs.Forming.{behind, links_in}
use Rattle.lx_syntax.proofs.parts.links_in.Given as goal

abbrev pub invariant-links : goal.invariant-links
invariant-links l = behind l.links (links_in l.src (drop l.token-index l.tokens) l.rest) ≡ links_in l.src l.tokens l.ids
