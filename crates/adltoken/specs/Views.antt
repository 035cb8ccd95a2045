-- Views of tokens.
use Rattle.std.specs.Prelude.{ℕ, List}
use Rattle.list_terms.specs.Tokens.{TokenText}
use Rattle.adltoken.specs.declared.tokens.Token.{Token}
use Rattle.adltoken.specs.declared.tokens.Cut.{Cut}

-- The token that a Rattle value represents.
abbrev pub token_view : Token → TokenText
token_view token = record { kind = token.kind; content = token.content.now }

-- A token and the rest of its line.
abbrev pub cut_view : Cut → TokenText × List ℕ
cut_view cut = (record { kind = cut.kind; content = cut.content.now }, cut.rest.now)
