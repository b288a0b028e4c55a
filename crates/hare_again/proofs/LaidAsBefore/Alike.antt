-- What stands before a piece, in a layout and in the layout of what is read of it.
use Rattle.std.proofs.Common.{◌≡◌, ℕ, List, [], ◌⊎◌, inl, inr, Bool, true, false, ◌&&◌, codes, refl, sym, ap, ◌∙◌, subst, if◌then◌else◌}
use Rattle.std.specs.Prelude.{◌||◌, ◌==◌, not, bytes_eq, slice_index}
use Rattle.std.specs.Char.{is_ascii_digit}
use Rattle.hare_tree.specs.Words.{is_listed}
use Rattle.hare_ways.specs.declared.way.Start.{Start}
use Rattle.hare_ways.specs.declared.way.Start.TheVariants.{Within, Begins, Outdented}
use Rattle.hare_ways.specs.declared.way.Way.{Way}
use Rattle.hare_lines.specs.declared.way.Feeds.{Feeds}
use Rattle.hare_lines.specs.declared.way.Before.{Before}
use Rattle.hare_lines.specs.declared.way.Before.TheVariants.{Nothing, Opening, Remark, Other}
use Rattle.hare_lines.specs.declared.way.Gap.{Gap}
use Rattle.hare_lines.specs.declared.way.Gap.TheVariants.{First, Join, Blank, Line}
use Rattle.hare_lines.specs.Gaps.{Behind, Placed, line, comment_gap, comment_tabs, lengthened, are_digits, grows, joins, within_line, start_gap, before_gap, token_gap, tabs_of, gap_of, previous_of, behind_token}
use Rattle.hare_lines.specs.Layout.{read_again}
use Rattle.hare_lines.proofs.LayoutLaws.Again.{gaps_stay}

-- no piece behind this one is kept apart from it
pub record IsQuiet (s : List ℕ) : Type 0 where
  pub mark : (c : ℕ) → is_listed (lengthened c) s ≡ false
  pub dot : bytes_eq s (codes ".") ≡ false
  pub digits : are_digits s ≡ false

-- the last two pieces are the same, or keep no piece apart
abbrev pub AreLastAlike : Behind → Behind → Type 0
AreLastAlike b c =
    ((b.last ≡ c.last) × ((b.previous ≡ c.previous) ⊎ ((are_digits b.previous ≡ false) × (are_digits c.previous ≡ false))))
    ⊎ (IsQuiet b.last × IsQuiet c.last)

-- what stands before asks for the same gaps
pub record IsAlike (b c : Behind) : Type 0 where
  pub before : b.before ≡ c.before
  pub joins : b.joins ≡ c.joins
  pub last : AreLastAlike b c

pub alike-same : (b : Behind) → IsAlike b b
alike-same b = record { before = refl; joins = refl; last = inl (refl, inl refl) }

neither-lists : (b : Bool) (x y : List (List ℕ)) (s : List ℕ) → is_listed x s ≡ false → is_listed y s ≡ false
    → is_listed (if b then x else y) s ≡ false
neither-lists true x y s p q = p
neither-lists false x y s p q = q

-- no byte makes a longer mark of nothing, or of a comma
abbrev IsKept : List ℕ → Type 0
IsKept s = (c : ℕ) → is_listed (lengthened c) s ≡ false

nothing-kept : IsKept []
nothing-kept c =
    neither-lists (c == 61) _ _ [] refl (neither-lists (c == 46) _ _ [] refl (neither-lists (c == 62) _ _ [] refl
    (neither-lists (c == 38) _ _ [] refl (neither-lists (c == 58) _ _ [] refl (neither-lists (c == 60) _ _ [] refl
    (neither-lists (c == 94) _ _ [] refl (neither-lists (c == 124) _ _ [] refl refl)))))))

pub comma-kept : IsKept (codes ",")
comma-kept c =
    neither-lists (c == 61) _ _ (codes ",") refl (neither-lists (c == 46) _ _ (codes ",") refl (neither-lists (c == 62) _ _ (codes ",") refl
    (neither-lists (c == 38) _ _ (codes ",") refl
    (neither-lists (c == 58) _ _ (codes ",") refl (neither-lists (c == 60) _ _ (codes ",") refl
    (neither-lists (c == 94) _ _ (codes ",") refl (neither-lists (c == 124) _ _ (codes ",") refl refl)))))))

pub quiet-nothing : IsQuiet []
quiet-nothing = record { mark = nothing-kept; dot = refl; digits = refl }

pub quiet-comma : IsQuiet (codes ",")
quiet-comma = record { mark = comma-kept; dot = refl; digits = refl }

-- ---- gaps

never-grows : (a c d e : Bool) → a ≡ false → d ≡ false → (a || (c && d && e)) ≡ false
never-grows true c d e p q = cc
never-grows false true true e p q = cc
never-grows false true false e p q = refl
never-grows false false d e p q = refl

no-digits : (a c d e : Bool) → c ≡ false → (a || (c && d && e)) ≡ a
no-digits true c d e p = refl
no-digits false true d e p = cc
no-digits false false d e p = refl

quiet-grows : (last previous body : List ℕ) → IsQuiet last → grows last previous body ≡ false
quiet-grows last previous body q =
    never-grows (is_listed (lengthened (slice_index body 0)) last) (are_digits previous) (bytes_eq last (codes "."))
    (is_ascii_digit (slice_index body 0)) (q.mark (slice_index body 0)) q.dot

undotted : (last previous body : List ℕ) → are_digits previous ≡ false
    → grows last previous body ≡ is_listed (lengthened (slice_index body 0)) last
undotted last previous body e =
    no-digits (is_listed (lengthened (slice_index body 0)) last) (are_digits previous) (bytes_eq last (codes "."))
    (is_ascii_digit (slice_index body 0)) e

grows-alike : (b c : Behind) (body : List ℕ) → AreLastAlike b c → grows b.last b.previous body ≡ grows c.last c.previous body
grows-alike b c body (inl (e, inl f)) = λ i. grows (e i) (f i) body
grows-alike b c body (inl (e, inr f)) =
    undotted b.last b.previous body f.0 ∙ ap (is_listed (lengthened (slice_index body 0))) e
    ∙ sym (undotted c.last c.previous body f.1)
grows-alike b c body (inr (p, q)) = quiet-grows b.last b.previous body p ∙ sym (quiet-grows c.last c.previous body q)

joins-alike : (b c : Behind) (w : Way) (body : List ℕ) → IsAlike b c → joins b w body ≡ joins c w body
joins-alike b c w body a =
    ap (λ j. (j || w.joins_before) && not (grows b.last b.previous body)) a.joins
    ∙ ap (λ g. (c.joins || w.joins_before) && not g) (grows-alike b c body a.last)

start-alike : (b c : Behind) (w : Way) (f : Feeds) (body : List ℕ) (s : Start) → IsAlike b c
    → start_gap b w f body s ≡ start_gap c w f body s
start-alike b c w f body Within a = ap within_line (joins-alike b c w body a)
start-alike b c w f body Begins a = ap (λ x. line x f (tabs_of w)) a.before
start-alike b c w f body Outdented a = ap (λ x. line x f (tabs_of w)) a.before

before-alike : (b c : Behind) (w : Way) (f : Feeds) (body : List ℕ) (x : Before) → IsAlike b c
    → before_gap b w f body x ≡ before_gap c w f body x
before-alike b c w f body Nothing a = refl
before-alike b c w f body Remark a = refl
before-alike b c w f body Opening a = start-alike b c w f body w.start a
before-alike b c w f body Other a = start-alike b c w f body w.start a

token-alike : (b c : Behind) (w : Way) (f : Feeds) (body : List ℕ) → IsAlike b c → token_gap b w f body ≡ token_gap c w f body
token-alike b c w f body a = before-alike b c w f body b.before a ∙ ap (before_gap c w f body) a.before

gap-alike : (b c : Behind) (p : Placed) → IsAlike b c → gap_of b p ≡ gap_of c p
gap-alike b c p a =
    λ i. if p.piece.comment then comment_gap (a.before i) p.piece.feeds (comment_tabs p.way)
    else token-alike b c p.way p.piece.feeds p.piece.body a i

-- a piece that is read again has the gap that it had
pub gap-again : (b c : Behind) (p : Placed) → IsAlike b c → gap_of c (read_again b p) ≡ gap_of b p
gap-again b c p a = sym (gap-alike b c (read_again b p) a) ∙ gaps_stay b p

-- ---- behind a piece

previous-alike : (g : Gap) (b c : Behind) → AreLastAlike b c
    → (previous_of g b.last ≡ previous_of g c.last)
    ⊎ ((are_digits (previous_of g b.last) ≡ false) × (are_digits (previous_of g c.last) ≡ false))
previous-alike First b c a = inl refl
previous-alike Join b c (inl e) = inl e.0
previous-alike Join b c (inr (p, q)) = inr (p.digits, q.digits)
previous-alike Blank b c a = inl refl
previous-alike (Line e t) b c a = inl refl

-- behind a token with the same gap
pub behind-alike : (b c : Behind) (w : Way) (body : List ℕ) (g k : Gap) → k ≡ g → IsAlike b c
    → IsAlike (behind_token g b w body) (behind_token k c w body)
behind-alike b c w body g k e a = subst (λ z. IsAlike (behind_token g b w body) (behind_token z c w body)) (sym e)
    record { before = refl; joins = refl; last = inl (refl, previous-alike g b c a.last) }
