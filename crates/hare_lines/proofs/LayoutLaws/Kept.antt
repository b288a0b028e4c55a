-- A layout keeps the pieces of its source.
use Rattle.std.proofs.Common.{◌≡◌, ℕ, ◌+◌, ◌<◌, ◌≤◌, List, [], ◌∷◌, ◌++◌, Bool, true, false, ◌&&◌, map, length, drop, refl, ap, ◌∙◌, arith, length-append, if◌then◌else◌}
use Rattle.std.proofs.Math.Logic.{⊎_elim}
use Rattle.std.specs.List.{flat_map}
use Rattle.hare_tree.specs.declared.token.Token.{Token}
use Rattle.hare_lex.proofs.Fronts.Firsts.{first_of_kind}
use Rattle.hare_pieces.specs.declared.piece.Piece.{Piece}
use Rattle.hare_pieces.specs.Pieces.{ConsistsOf}
use Rattle.hare_lines.specs.declared.way.Gap.{Gap}
use Rattle.hare_lines.specs.Read.{Seen, is_string}
use Rattle.hare_lines.specs.Gaps.{Placed, laid, without_comma, next_is_string, string_way, next_way, comma_of, gap_of, behind_added, behind_piece}
use Rattle.hare_lines.specs.Layout.{PlacedAreSeen, LaidAreKept, PiecesAreInOrder, InOrder, bodies_of}

placed_if : (c : Bool) (x : Seen) (a b : List Placed) (xs : List Seen) → map (λ p. p.piece) a ≡ xs → map (λ p. p.piece) b ≡ xs
    → x ∷ map (λ p. p.piece) (if c then a else b) ≡ x ∷ xs
placed_if true x a b xs h k = ap (λ l. x ∷ l) h
placed_if false x a b xs h k = ap (λ l. x ∷ l) k

pub placed_are_seen : PlacedAreSeen
placed_are_seen joined depth ws [] = refl
placed_are_seen joined depth ws (x ∷ xs) =
    placed_if x.comment x _ _ xs (placed_are_seen joined depth (if joined then ws else without_comma ws) xs)
    (placed_are_seen (is_string x && next_is_string xs) (if joined then string_way depth else next_way ws).depth
    (if joined then ws else drop 1 ws) xs)

kept_if : (c : Bool) (g : Gap) (o : List ℕ) (l : List (Gap × List ℕ)) (ls : List (List ℕ)) → map (λ q. q.1) l ≡ ls
    → map (λ q. q.1) (comma_of c ++ (g, o) ∷ l) ≡ (if c then (44 ∷ []) ∷ o ∷ [] else o ∷ []) ++ ls
kept_if true g o l ls h = ap (λ m. (44 ∷ []) ∷ o ∷ m) h
kept_if false g o l ls h = ap (λ m. o ∷ m) h

pub laid_are_kept : LaidAreKept
laid_are_kept b [] = refl
laid_are_kept b (p ∷ ps) =
    let here = behind_added p.way.comma b in
    kept_if p.way.comma (gap_of here p) p.piece.body (laid (behind_piece here p) ps) (flat_map bodies_of ps)
    (laid_are_kept (behind_piece here p) ps)

-- ---- order

step_order : (at n : ℕ) (p : Piece) (blank s rest text : List ℕ) → at + length text ≡ n → text ≡ blank ++ (s ++ rest)
    → p.from ≡ at + length blank → p.to ≡ p.from + length s → 0 < length s
    → (at ≤ p.from) × (p.from < p.to) × (p.to ≤ n) × (p.to + length rest ≡ n)
step_order at n p blank s rest text h e f t k =
    let l = ap length e ∙ length-append blank (s ++ rest) in
    let m = length-append s rest in
    (omega arith, omega arith, omega (arith, l, m), omega (arith, l, m))

pub in_order : (at n : ℕ) (b : Bool) (text : List ℕ) (ts : List Token) (ps : List Piece) → at + length text ≡ n
    → ConsistsOf at b text ts ps → InOrder at n ps
in_order at n b text ts [] h c = omega arith
in_order at n b text ts (p ∷ ps) h c = ⊎_elim
    (λ k.
    let some : 0 < length c.1 = let l = ap length k.1.1 in omega (arith, l) in
    let o = step_order at n p c.0 c.1 c.2 text h c.3 c.5 c.6 some in
    (o.0, o.1, o.2, in_order p.to n b c.2 ts ps o.3 k.2))
    (λ k.
    let some = (first_of_kind k.0.kind k.0.text k.0.number k.0.suffix c.1 k.5.fits.spells).0 in
    let o = step_order at n p c.0 c.1 c.2 text h c.3 c.5 c.6 some in
    (o.0, o.1, o.2, in_order p.to n _ c.2 k.1 ps o.3 k.6))
    c.7

pub pieces_are_in_order : PiecesAreInOrder
pieces_are_in_order text ps h = in_order 0 (length text) false text _ ps (omega arith) h.consists
