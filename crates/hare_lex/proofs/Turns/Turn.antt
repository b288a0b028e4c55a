-- One turn of the lexer, behind which it has read one more token.
use Rattle.std.proofs.Common.{◌≡◌, ℕ, List, [], ◌∷◌, ◌++◌, Bool, false, take, drop, refl, sym, ap, ◌∙◌, subst, take-append-drop}
use Rattle.hare_tree.specs.declared.place.Place.{Place}
use Rattle.hare_tree.specs.declared.token.TokenKind.{TokenKind}
use Rattle.hare_tree.specs.declared.token.TokenKind.TheVariants.{Name, Keyword, Number, Str, RuneLit, Mark, End}
use Rattle.hare_tree.specs.declared.token.Suffix.{Suffix}
use Rattle.hare_tree.specs.declared.token.Token.{Token}
use Rattle.hare_tree.specs.Tokens.{Gap, is_path_mark}
use Rattle.hare_lex.specs.Lexing.{advanced, text_of, skipped}
use Rattle.hare_lex.proofs.Fronts.Lists.{front_is, behind_is}
use Rattle.hare_lex.specs.Fronts.{Standing, token_at}
use Rattle.hare_lex.proofs.Turns.Progress.{Reached, reached_more, gap_skipped}

-- whether a token is the mark `::` is told by its spelling too
pub path_mark_text : (k : TokenKind) (s : List ℕ) → is_path_mark k (text_of k s) ≡ is_path_mark k s
path_mark_text Name s = refl
path_mark_text Keyword s = refl
path_mark_text Number s = refl
path_mark_text Str s = refl
path_mark_text RuneLit s = refl
path_mark_text Mark s = refl
path_mark_text End s = refl

-- one turn: where the lexer stood, the gap that it passed, the token that stands behind it, and where it stands then
pub record IsTurn (file : ℕ) (src : List ℕ) (tokens : List Token) (p at : Place) (b : Bool) (rest blank text : List ℕ)
    (parts : List (List ℕ)) (k : TokenKind) (len n : ℕ) (x : Suffix) (spelling behind : List ℕ) (token : Token) (new : List Token)
    (q : Place) (m : Bool) : Type 0 where
  pub reached : Reached file src tokens p b rest
  pub gap : Gap parts rest text
  pub passed : rest ≡ blank ++ text
  pub begins_at : at ≡ advanced p blank
  pub stands : Standing b text k len n x
  pub spelling_is : spelling ≡ take len text
  pub rest_is : behind ≡ drop len text
  pub token_is : token ≡ token_at k at spelling n x
  pub tokens_are : new ≡ tokens ++ token ∷ []
  pub ends_at : q ≡ advanced at spelling
  pub path_mark : m ≡ is_path_mark k spelling

pub token_read : (file : ℕ) (src : List ℕ) (tokens : List Token) (p at : Place) (b : Bool) (rest blank text : List ℕ)
    (parts : List (List ℕ)) (k : TokenKind) (len n : ℕ) (x : Suffix) (spelling behind : List ℕ) (token : Token) (new : List Token)
    (q : Place) (m : Bool) → IsTurn file src tokens p at b rest blank text parts k len n x spelling behind token new q m →
    Reached file src new q m behind
token_read file src tokens p at b rest blank text parts k len n x spelling behind token new q m turn =
    let st = turn.stands in
    let word : spelling ≡ st.word = turn.spelling_is ∙ ap (λ y. take y text) (sym st.len_is) ∙ front_is text st.word st.rest st.split in
    let more : behind ≡ st.rest = turn.rest_is ∙ ap (λ y. drop y text) (sym st.len_is) ∙ behind_is text st.word st.rest st.split in
    let one = token_at k at st.word n x in
    let same : token ≡ one = turn.token_is ∙ ap (λ y. token_at k at y n x) word in
    let path : m ≡ is_path_mark k (text_of k st.word) = turn.path_mark ∙ ap (is_path_mark k) word ∙ sym (path_mark_text k st.word) in
    let reached : Reached file src (tokens ++ one ∷ []) q (is_path_mark k (text_of k st.word)) st.rest =
    reached_more file src tokens p at q b rest blank text st.word st.rest parts one turn.reached turn.gap turn.passed turn.begins_at refl
    st.split (st.stands at) (turn.ends_at ∙ ap (advanced at) word) in
    subst (λ l. Reached file src l q m behind) (sym (turn.tokens_are ∙ ap (λ y. tokens ++ y ∷ []) same))
    (subst (λ c. Reached file src (tokens ++ one ∷ []) q c behind) (sym path)
    (subst (λ y. Reached file src (tokens ++ one ∷ []) q (is_path_mark k (text_of k st.word)) y) (sym more) reached))

-- two parts of a list, joined again
pub joined : (n : ℕ) (s a b : List ℕ) → a ≡ take n s → b ≡ drop n s → s ≡ a ++ b
joined n s a b e f = rw (e, f) (sym (take-append-drop n s))

-- blanks and comments lead to what is left
pub gap_to : (s text : List ℕ) → text ≡ skipped false s → (parts : List (List ℕ)) × Gap parts s text
gap_to s text e = let g = gap_skipped s in (g.0, subst (Gap g.0 s) (sym e) g.1)
