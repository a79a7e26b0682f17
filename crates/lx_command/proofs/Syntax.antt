-- A fault of syntax stands at a token of the text: there is always one, End.
use Rattle.std.proofs.Common.{◌≡◌, ℕ, List, [], ◌∷◌, length, Ok, ap, arith}
use Rattle.std.proofs.lemmas.List.{length-append}
use Rattle.lx_text.specs.declared.faults.Fault.{Fault}
use Rattle.lx_token.specs.declared.tokens.Token.{Token}
use Rattle.lx_token.specs.Tokens.{tokens_of}
use Rattle.lx_token.specs.Order.{EndsText}
use Rattle.lx_token.proofs.Rising.{tokens-rise}
use Rattle.lx_pytree.specs.Reading.{IsRefused}
use Rattle.lx_command.specs.Judging.{IsSyntaxFault}

some_token : (n : ℕ) (ts : List Token) → EndsText n ts → ts ≡ [] → ⊥
some_token n ts ends e =
    let whole = ap length ends.is in
    let none = ap length e in
    omega (arith, whole, none, length-append ends.front (ends.last ∷ []))

pub syntax_fault : (bytes : List ℕ) (tokens : List Token) (f : Fault) → tokens_of bytes ≡ Ok tokens → IsRefused bytes tokens f → IsSyntaxFault bytes f
syntax_fault bytes tokens f cut refused = record {
  tokens = tokens;
  cut = cut;
  none = refused.none;
  place = refused.place (some_token (length bytes) tokens (tokens-rise bytes tokens cut).ended);
}
