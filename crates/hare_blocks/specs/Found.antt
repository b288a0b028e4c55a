-- The token that stands at the front of a text, before its bytes are copied.
use Rattle.hare_blocks.specs.declared.token.Token.{Token}
use Rattle.hare_blocks.specs.declared.token.Token.TheVariants as token
use Rattle.hare_blocks.specs.declared.lex.Found.{Found}
use Rattle.hare_blocks.specs.declared.lex.Found.TheVariants as found

abbrev pub found_token : Found → Token
found_token (found.Whole t) = t
found_token (found.Name w) = token.Name w.now
found_token (found.Text w) = token.Text w.now
