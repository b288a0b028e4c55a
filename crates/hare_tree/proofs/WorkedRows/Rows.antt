-- Rows of the definition of tokens, by computing.
use Rattle.std.proofs.Common.{◌≡◌, [], ◌∷◌, true, false, codes, length, refl}
use Rattle.hare_tree.specs.Words.{is_listed, is_left_out, keywords, left_out, marks, begins_fraction}
use Rattle.hare_tree.specs.Tokens.{place_at, holds, no_gap}

-- the tables are whole
keywords_all : length keywords ≡ 51
keywords_all = refl

left_out_all : length left_out ≡ 14
left_out_all = refl

marks_all : length marks ≡ 47
marks_all = refl

-- words
yield_is_keyword : is_listed keywords (codes "yield") ≡ true
yield_is_keyword = refl

nomem_out : is_left_out false (codes "nomem") ≡ true
nomem_out = refl

nomem_behind_path : is_left_out true (codes "nomem") ≡ false
nomem_behind_path = refl

done_behind_path : is_left_out true (codes "done") ≡ true
done_behind_path = refl

-- fractions and exponents
fraction : begins_fraction (codes "1.5") ≡ true
fraction = refl

exponent : begins_fraction (codes "12e+5") ≡ true
exponent = refl

member : begins_fraction (codes "1.x") ≡ false
member = refl

hexadecimal : begins_fraction (codes "0x1.5") ≡ false
hexadecimal = refl

suffixed : begins_fraction (codes "1u8.5") ≡ false
suffixed = refl

-- places: lines count LF, and columns the bytes since the last
start : place_at 2 [] ≡ record { file = 2; line = 1; column = 1 }
start = refl

behind_feed : place_at 0 (97 ∷ 10 ∷ 195 ∷ 169 ∷ 9 ∷ []) ≡ record { file = 0; line = 2; column = 4 }
behind_feed = refl

-- closing quotes
taken_quote : holds 34 false (97 ∷ 92 ∷ 34 ∷ []) ≡ true
taken_quote = refl

taken_behind : holds 34 false (97 ∷ 92 ∷ []) ≡ false
taken_behind = refl

plain_backslash : holds 96 false (97 ∷ 92 ∷ []) ≡ true
plain_backslash = refl

-- blanks and comments
comment_next : no_gap (codes "//") ≡ false
comment_next = refl

slash_next : no_gap (codes "/=") ≡ true
slash_next = refl
