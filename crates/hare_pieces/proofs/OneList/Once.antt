-- A text has one list of pieces.
use Rattle.std.proofs.Common.{◌≡◌, ℕ, ◌+◌, List, [], ◌∷◌, ◌++◌, Result, Ok, Err, IfOk, Bool, true, false, ◌||◌, not, eqb, length, refl, sym}
use Rattle.std.proofs.Common.{ap, ◌∙◌, subst, arith, ◌⊎◌}
use Rattle.std.proofs.Math.Logic.{⊎_elim}
use Rattle.std.proofs.Math.Seq.{drop-append_seam}
use Rattle.std.specs.List.{list_all, prefix_len}
use Rattle.std.specs.Prelude.{drop}
use Rattle.std.specs.declared.alloc.AllocError.{AllocError}
use Rattle.hare_tree.specs.declared.token.Token.{Token}
use Rattle.hare_tree.specs.Words.{is_blank, is_not_feed}
use Rattle.hare_tree.specs.Tokens.{IsComment, Stands, is_path_mark, no_gap, ends_line}
use Rattle.hare_tree.specs.Grammar.{before_end}
use Rattle.hare_lex.proofs.Fronts.Lists.{and_left, and_right, same_front}
use Rattle.hare_lex.proofs.Fronts.Firsts.{first_of_kind}
use Rattle.hare_lex.proofs.Whole.Tokens.{fits_same}
use Rattle.hare_lex.proofs.Whole.Unique.{only_tokens}
use Rattle.hare_pieces.specs.declared.piece.Piece.{Piece}
use Rattle.hare_pieces.specs.Pieces.{ConsistsOf, ArePieces, OneListOfPieces, are_blank}

-- ---- where a piece begins

-- a byte comes first that is no blank
abbrev begins_fresh : List ℕ → Bool
begins_fresh [] = false
begins_fresh (c ∷ r) = not (is_blank c)

neither : (a b : Bool) → not (a || b) ≡ true → not a ≡ true
neither false b h = refl
neither true b h = absurd (cc)

comment_fresh : (s rest : List ℕ) → IsComment s rest → begins_fresh (s ++ rest) ≡ true
comment_fresh s rest k = ap (λ l. begins_fresh (l ++ rest)) k.1

token_fresh : (b : Bool) (t : Token) (s rest : List ℕ) → no_gap (s ++ rest) ≡ true → Stands b t s rest → begins_fresh (s ++ rest) ≡ true
token_fresh b t [] rest g st = let k = (first_of_kind t.kind t.text t.number t.suffix [] st.fits.spells).0 in absurd (omega (arith, k))
token_fresh b t (c ∷ s) rest g st = neither (is_blank c) _ g

-- a piece of either sort begins so
Either : ℕ → Bool → List Token → List Piece → Piece → List ℕ → List ℕ → Type 0
Either at b ts ps p s rest =
    ((p.comment ≡ true) × IsComment s rest × ConsistsOf p.to b rest ts ps)
    ⊎ ((t : Token) × (more : List Token) × (p.comment ≡ false) × (ts ≡ t ∷ more) × (no_gap (s ++ rest) ≡ true) × Stands b t s rest
    × ConsistsOf p.to (is_path_mark t.kind t.text) rest more ps)

piece_fresh : (at : ℕ) (b : Bool) (ts : List Token) (ps : List Piece) (p : Piece) (s rest : List ℕ) → Either at b ts ps p s rest
    → begins_fresh (s ++ rest) ≡ true
unfolding Either
piece_fresh at b ts ps p s rest e = ⊎_elim (λ k. comment_fresh s rest k.1) (λ k. token_fresh b k.0 s rest k.4 k.5) e

-- blanks alone have no such byte
all_blank : (blank x : List ℕ) → are_blank (blank ++ x) ≡ true → begins_fresh x ≡ true → ⊥
all_blank [] [] h f = cc
all_blank [] (c ∷ x) h f = let a = and_left (is_blank c) _ h in let b : not true ≡ true = ap not (sym a) ∙ f in cc
all_blank (c ∷ blank) x h f = all_blank blank x (and_right (is_blank c) _ h) f

-- the blanks in front of such a byte are one list
blank_once : (a b x y : List ℕ) → are_blank a ≡ true → are_blank b ≡ true → begins_fresh x ≡ true → begins_fresh y ≡ true
    → a ++ x ≡ b ++ y → a ≡ b
blank_once [] [] x y h k f g e = refl
blank_once [] (c ∷ b) x y h k f g e =
    let fresh : not (is_blank c) ≡ true = sym (ap begins_fresh e) ∙ f in
    let no : not true ≡ true = ap not (sym (and_left (is_blank c) _ k)) ∙ fresh in absurd (cc)
blank_once (c ∷ a) [] x y h k f g e =
    let fresh : not (is_blank c) ≡ true = ap begins_fresh e ∙ g in
    let no : not true ≡ true = ap not (sym (and_left (is_blank c) _ h)) ∙ fresh in absurd (cc)
blank_once (c ∷ a) (d ∷ b) x y h k f g e =
    let first : c ≡ d = cc in
    let rest : a ++ x ≡ b ++ y = cc in
    let more = blank_once a b x y (and_right (is_blank c) _ h) (and_right (is_blank d) _ k) f g rest in
    ap (λ q. q ∷ a) first ∙ ap (λ l. d ∷ l) more

same_behind : (a b x y : List ℕ) → a ++ x ≡ b ++ y → a ≡ b → x ≡ y
same_behind a b x y e h = sym (drop-append_seam a x) ∙ ap (drop (length a)) e ∙ ap (λ n. drop n (b ++ y)) (ap length h)
    ∙ drop-append_seam b y

-- ---- comments

not_not : (b : Bool) → not b ≡ true → b ≡ false
not_not false h = refl
not_not true h = absurd (cc)

run_is : (w rest : List ℕ) → list_all is_not_feed w ≡ true → ends_line rest ≡ true → prefix_len is_not_feed (w ++ rest) ≡ length w
run_is [] [] h k = refl
run_is [] (c ∷ rest) h k = rw k refl
run_is (c ∷ w) rest h k =
    let first : eqb c 10 ≡ false = not_not (eqb c 10) (and_left _ _ h) in
    let more = run_is w rest (and_right (is_not_feed c) _ h) k in
    rw first (omega (arith, more))

comment_run : (s rest : List ℕ) → IsComment s rest → prefix_len is_not_feed (s ++ rest) ≡ length s
comment_run s rest k =
    let all : list_all is_not_feed s ≡ true = ap (list_all is_not_feed) k.1 ∙ k.2 in
    run_is s rest all k.3

comment_once : (s w rest more : List ℕ) → IsComment s rest → IsComment w more → s ++ rest ≡ w ++ more → s ≡ w
comment_once s w rest more h k e = same_front s w rest more e
    (sym (comment_run s rest h) ∙ ap (prefix_len is_not_feed) e ∙ comment_run w more k)

-- no token stands where a comment begins
comment_no_token : (s rest w more : List ℕ) → IsComment s rest → s ++ rest ≡ w ++ more → no_gap (w ++ more) ≡ true → ⊥
comment_no_token s rest w more k e g = let no : false ≡ true = sym (ap (λ l. no_gap (l ++ rest)) k.1) ∙ ap no_gap e ∙ g in cc

-- ---- one list

same_piece : (p q : Piece) → p.from ≡ q.from → p.to ≡ q.to → p.comment ≡ q.comment → p ≡ q
same_piece p q a b c = λ i. record { from = a i; to = b i; comment = c i }

-- two first pieces of one text
record OnePiece (p q : Piece) (s w rest more : List ℕ) : Type 0 where
  piece : p ≡ q
  word : s ≡ w
  behind : rest ≡ more

one_piece : (p q : Piece) (s w rest more : List ℕ) → p.from ≡ q.from → p.to ≡ p.from + length s → q.to ≡ q.from + length w
    → p.comment ≡ q.comment → s ≡ w → s ++ rest ≡ w ++ more → OnePiece p q s w rest more
one_piece p q s w rest more f a b c e g =
    let n = ap length e in
    let to : p.to ≡ q.to = omega (arith, f, a, b, n) in
    record { piece = same_piece p q f to c; word = e; behind = same_behind s w rest more g e }

pub pieces_once : (at : ℕ) (b : Bool) (text : List ℕ) (ts : List Token) (ps qs : List Piece) → ConsistsOf at b text ts ps
    → ConsistsOf at b text ts qs → ps ≡ qs
unfolding Either
pieces_once at b text ts [] [] h g = refl
pieces_once at b text ts [] (q ∷ qs) h g =
    absurd (all_blank g.0 (g.1 ++ g.2) (ap are_blank (sym g.3) ∙ h.1) (piece_fresh at b ts qs q g.1 g.2 g.7))
pieces_once at b text ts (p ∷ ps) [] h g =
    absurd (all_blank h.0 (h.1 ++ h.2) (ap are_blank (sym h.3) ∙ g.1) (piece_fresh at b ts ps p h.1 h.2 h.7))
pieces_once at b text ts (p ∷ ps) (q ∷ qs) h g =
    let s = h.1 in
    let w = g.1 in
    let both = sym h.3 ∙ g.3 in
    let blank : h.0 ≡ g.0 = blank_once h.0 g.0 (s ++ h.2) (w ++ g.2) h.4 g.4 (piece_fresh at b ts ps p s h.2 h.7)
    (piece_fresh at b ts qs q w g.2 g.7) both in
    let front : s ++ h.2 ≡ w ++ g.2 = same_behind h.0 g.0 (s ++ h.2) (w ++ g.2) both blank in
    let len = ap length blank in
    let from : p.from ≡ q.from = omega (arith, h.5, g.5, len) in
    let one : p.comment ≡ q.comment → s ≡ w → OnePiece p q s w h.2 g.2 = λ c e. one_piece p q s w h.2 g.2 from h.6 g.6 c e front in
    let next : (c d : Bool) (us vs : List Token) (z : OnePiece p q s w h.2 g.2) → c ≡ d → us ≡ vs → ConsistsOf p.to c h.2 us ps
    → ConsistsOf q.to d g.2 vs qs → p ∷ ps ≡ q ∷ qs =
    λ c d us vs z e f x y.
    let moved = subst (λ k. ConsistsOf p.to k g.2 vs qs) (sym e)
    (subst (λ i. ConsistsOf i d g.2 vs qs) (sym (ap (λ (r : Piece). r.to) z.piece)) y) in
    let same = subst (λ l. ConsistsOf p.to c l us qs) (sym z.behind) (subst (λ l. ConsistsOf p.to c g.2 l qs) (sym f) moved) in
    ap (λ r. r ∷ ps) z.piece ∙ ap (λ l. q ∷ l) (pieces_once p.to c h.2 us ps qs x same) in
    ⊎_elim
    (λ x. ⊎_elim
    (λ y. next b b ts ts (one (x.0 ∙ sym y.0) (comment_once s w h.2 g.2 x.1 y.1 front)) refl refl x.2 y.2)
    (λ y. absurd (comment_no_token s h.2 w g.2 x.1 front y.4))
    g.7)
    (λ x. ⊎_elim
    (λ y. absurd (comment_no_token w g.2 s h.2 y.1 (sym front) x.4))
    (λ y.
    let lists = sym x.3 ∙ y.3 in
    let token : x.0 ≡ y.0 = cc in
    let others : x.1 ≡ y.1 = cc in
    let path = ap (λ (t : Token). is_path_mark t.kind t.text) token in
    let word = fits_same x.0 y.0 s h.2 w g.2 x.5.fits y.5.fits front in
    next (is_path_mark x.0.kind x.0.text) (is_path_mark y.0.kind y.0.text) x.1 y.1 (one (x.2 ∙ sym y.2) word) path others x.6 y.6)
    g.7)
    h.7

pub one_list_of_pieces : OneListOfPieces
one_list_of_pieces text ps qs h g =
    let same : h.tokens ≡ g.tokens = only_tokens 0 text (Ok h.tokens) h.are tt g.tokens g.are in
    pieces_once 0 false text (before_end h.tokens) ps qs h.consists
    (subst (λ l. ConsistsOf 0 false text (before_end l) qs) (sym same) g.consists)

-- what a call gives, where it gives the pieces of a text
pub only_pieces : (text : List ℕ) (result : Result (List Piece) AllocError) → IfOk result (λ ps. ArePieces text ps) → (ps : List Piece)
    → ArePieces text ps → IfOk result (λ found. found ≡ ps)
only_pieces text (Ok found) h ps g = one_list_of_pieces text found ps h g
only_pieces text (Err e) h ps g = tt
