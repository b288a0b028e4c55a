-- Rows of joined tokens: two strings, and a string beside one to which a number belongs.
use Rattle.std.proofs.Common.{◌≡◌, [], ◌∷◌, codes, true, false, ◌&&◌, refl}
use Rattle.hare_tree.specs.declared.token.Suffix.TheVariants as suffix
use Rattle.hare_tree.specs.declared.token.TokenKind.TheVariants as tk
use Rattle.hare_tree.specs.declared.token.Token.{Token}
use Rattle.hare_tree.specs.Spell.{start_of, word_token}
use Rattle.hare_tree.specs.Grammar.{joined, ends_in_string, begins_with_string}

abbrev first_text : Token
first_text = word_token 0 tk.Str (codes "a")

abbrev second_text : Token
second_text = word_token 0 tk.Str (codes "b")

-- no tree has such a string
abbrev numbered : Token
numbered = record { kind = tk.Str; place = start_of 0; text = codes "c"; number = 1; suffix = suffix.None }

two_strings : joined (first_text ∷ second_text ∷ []) ≡ word_token 0 tk.Str (codes "ab") ∷ []
two_strings = refl

beside_numbered : joined (first_text ∷ second_text ∷ numbered ∷ first_text ∷ []) ≡
    word_token 0 tk.Str (codes "ab") ∷ numbered ∷ first_text ∷ []
beside_numbered = refl

-- within joined strings nothing stands, and at the numbered one something does
within_strings : (ends_in_string (first_text ∷ []) && begins_with_string (second_text ∷ numbered ∷ [])) ≡ true
within_strings = refl

at_numbered : (ends_in_string (first_text ∷ second_text ∷ []) && begins_with_string (numbered ∷ [])) ≡ false
at_numbered = refl
