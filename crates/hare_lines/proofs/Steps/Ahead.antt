-- Looking ahead over comments.
use Rattle.std.proofs.Common.{◌≡◌, ℕ, zero, suc, ◌+◌, ◌<◌, ◌≤◌, List, [], ◌∷◌, true, false, length, drop, get_or, refl, sym, ap, ◌∙◌, subst, arith, add-one}
use Rattle.hare_pieces.specs.declared.piece.Piece.{Piece}
use Rattle.hare_lines.specs.Read.{seen_from, body_of, is_quoted}
use Rattle.hare_lines.specs.Gaps.{next_is_string}
use Rattle.hare_lines.specs.Layout.{InOrder}
use Rattle.hare_lines.proofs.Steps.Written.{piece_next}

-- what is ahead of these pieces is what is ahead of those from the i-th on
pub record Ahead (src : List ℕ) (at : ℕ) (ps : List Piece) (i : ℕ) : Type 0 where
  pub from : ℕ
  pub order : InOrder from (length src) (drop i ps)
  pub same : next_is_string (seen_from src from (drop i ps)) ≡ next_is_string (seen_from src at ps)

pub ahead_start : (src : List ℕ) (at : ℕ) (ps : List Piece) → InOrder at (length src) ps → Ahead src at ps 0
ahead_start src at ps h = record { from = at; order = h; same = refl }

-- a piece lies in the text
pub record Lies (src : List ℕ) (p : Piece) : Type 0 where
  pub ordered : p.from ≤ p.to
  pub within : p.to ≤ length src

pub lies_of : (src : List ℕ) (at : ℕ) (ps : List Piece) (i : ℕ) (p : Piece) → i < length ps → p ≡ get_or ps i p → Ahead src at ps i
    → Lies src p
lies_of src at ps i p h e a =
    let next = piece_next ps i p h e in
    let order = subst (InOrder a.from (length src)) next a.order in
    record { ordered = omega (arith, order.1); within = order.2 }

comment_ahead : (src : List ℕ) (from : ℕ) (p : Piece) (ps : List Piece) → p.comment ≡ true
    → next_is_string (seen_from src from (p ∷ ps)) ≡ next_is_string (seen_from src p.to ps)
comment_ahead src from p ps h = rw h refl

token_ahead : (src : List ℕ) (from : ℕ) (p : Piece) (ps : List Piece) → p.comment ≡ false
    → next_is_string (seen_from src from (p ∷ ps)) ≡ is_quoted (body_of src p)
token_ahead src from p ps h = rw h refl

pub ahead_more : (src : List ℕ) (at : ℕ) (ps : List Piece) (i : ℕ) (p : Piece) → i < length ps → p ≡ get_or ps i p → p.comment ≡ true
    → Ahead src at ps i → Ahead src at ps (i + 1)
ahead_more src at ps i p h e k a =
    let next = piece_next ps i p h e in
    let order = subst (InOrder a.from (length src)) next a.order in
    let more : Ahead src at ps (suc i) = record {
      from = p.to;
      order = order.3;
      same = sym (comment_ahead src a.from p (drop (suc i) ps) k) ∙ ap (λ l. next_is_string (seen_from src a.from l)) (sym next) ∙ a.same;
    } in
    subst (Ahead src at ps) (sym (add-one i)) more

pub ahead_token : (src : List ℕ) (at : ℕ) (ps : List Piece) (i : ℕ) (p : Piece) → i < length ps → p ≡ get_or ps i p → p.comment ≡ false
    → Ahead src at ps i → is_quoted (body_of src p) ≡ next_is_string (seen_from src at ps)
ahead_token src at ps i p h e k a =
    let next = piece_next ps i p h e in
    sym (token_ahead src a.from p (drop (suc i) ps) k) ∙ ap (λ l. next_is_string (seen_from src a.from l)) (sym next) ∙ a.same

none_ahead : (src : List ℕ) (at : ℕ) (ps : List Piece) (i : ℕ) → drop i ps ≡ [] → Ahead src at ps i
    → false ≡ next_is_string (seen_from src at ps)
none_ahead src at ps i e a = ap (λ l. next_is_string (seen_from src a.from l)) (sym e) ∙ a.same

pub drop_over : (ps : List Piece) (i : ℕ) → length ps ≤ i → drop i ps ≡ []
drop_over [] zero h = refl
drop_over [] (suc i) h = refl
drop_over (p ∷ ps) zero h = absurd (omega arith)
drop_over (p ∷ ps) (suc i) h = drop_over ps i (omega arith)

pub ahead_end : (src : List ℕ) (at : ℕ) (ps : List Piece) (i : ℕ) → length ps ≤ i → Ahead src at ps i
    → false ≡ next_is_string (seen_from src at ps)
ahead_end src at ps i h a = none_ahead src at ps i (drop_over ps i h) a
