use Rattle.std.proofs.Common.{length, subst}
use Rattle.lx_token.specs.Lexemes.{IsWithin}
use Rattle.lx_token.proofs.Within.{front_within}
use Rattle.lx_token.proofs.reader.length_of.Goals as goal

pub returns-in-Part-clause-within : goal.returns-in-Part-clause-within
returns-in-Part-clause-within c = front_within c.args.lexeme c.args.bytes.now c.requires.front c.requires.some

pub returns-in-Part-clause-some : goal.returns-in-Part-clause-some
returns-in-Part-clause-some c =
    (subst (λ x. IsWithin x (length c.args.bytes.now)) c.in-Part.is (front_within c.args.lexeme c.args.bytes.now c.requires.front c.requires.some)).0

pub returns-in-Part-clause-bound : goal.returns-in-Part-clause-bound
returns-in-Part-clause-bound c =
    (subst (λ x. IsWithin x (length c.args.bytes.now)) c.in-Part.is (front_within c.args.lexeme c.args.bytes.now c.requires.front c.requires.some)).1

pub returns-in-BadByte-clause-within : goal.returns-in-BadByte-clause-within
returns-in-BadByte-clause-within c = front_within c.args.lexeme c.args.bytes.now c.requires.front c.requires.some

pub returns-in-NumberRange-clause-within : goal.returns-in-NumberRange-clause-within
returns-in-NumberRange-clause-within c = front_within c.args.lexeme c.args.bytes.now c.requires.front c.requires.some
