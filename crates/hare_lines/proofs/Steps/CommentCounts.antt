-- How many comments stand in front of each token, piece by piece.
use Rattle.std.proofs.Common.{◌≡◌, ℕ, suc, ◌+◌, ◌≤◌, List, [], ◌∷◌, ◌++◌, Bool, true, false, length, drop, refl, sym, ap, ◌∙◌, subst, arith, add-one, append_assoc, if◌then◌else◌}
use Rattle.std.specs.Prelude.{◌&&◌, not}
use Rattle.hare_pieces.specs.declared.piece.Piece.{Piece}
use Rattle.hare_lines.specs.Read.{seen, seen_from, body_of, is_quoted, comments_before}
use Rattle.hare_lines.specs.Layout.{InOrder}
use Rattle.hare_lines.proofs.Steps.Ahead.{Lies, drop_over}

-- what is counted, and behind it what is left from the i-th piece on, are the whole
pub record Counts (src : List ℕ) (ps : List Piece) (i : ℕ) (counts : List ℕ) (n : ℕ) (behind_string : Bool) : Type 0 where
  pub from : ℕ
  pub order : InOrder from (length src) (drop i ps)
  pub whole : counts ++ comments_before n behind_string (seen_from src from (drop i ps)) ≡ comments_before 0 false (seen src ps)
  pub few : n ≤ i

pub counts_start : (src : List ℕ) (ps : List Piece) → InOrder 0 (length src) ps → Counts src ps 0 [] 0 false
counts_start src ps h = record { from = 0; order = h; whole = refl; few = omega arith }

pub counts_lies : (src : List ℕ) (ps : List Piece) (i : ℕ) (p : Piece) (counts : List ℕ) (n : ℕ) (b : Bool)
    → drop i ps ≡ p ∷ drop (suc i) ps → Counts src ps i counts n b → Lies src p
counts_lies src ps i p counts n b here a =
    let order = subst (InOrder a.from (length src)) here a.order in
    record { ordered = omega (arith, order.1); within = order.2 }

-- ---- a comment

comment_counted : (src : List ℕ) (from n : ℕ) (b : Bool) (p : Piece) (ps : List Piece) → p.comment ≡ true
    → comments_before n b (seen_from src from (p ∷ ps)) ≡ comments_before (n + 1) b (seen_from src p.to ps)
comment_counted src from n b p ps h = rw h refl

pub counts_comment : (src : List ℕ) (ps : List Piece) (i : ℕ) (p : Piece) (counts : List ℕ) (n : ℕ) (b : Bool)
    → drop i ps ≡ p ∷ drop (suc i) ps → p.comment ≡ true → Counts src ps i counts n b → Counts src ps (i + 1) counts (n + 1) b
counts_comment src ps i p counts n b next k a =
    let order = subst (InOrder a.from (length src)) next a.order in
    let more : Counts src ps (suc i) counts (n + 1) b = record {
      from = p.to;
      order = order.3;
      whole = ap (λ l. counts ++ l) (sym (comment_counted src a.from n b p (drop (suc i) ps) k))
          ∙ ap (λ l. counts ++ comments_before n b (seen_from src a.from l)) (sym next) ∙ a.whole;
      few = omega (arith, a.few);
    } in
    subst (λ m. Counts src ps m counts (n + 1) b) (sym (add-one i)) more

-- ---- a token

string_left : (b q : Bool) (n : ℕ) (f : Bool → List ℕ) → (if b && q then f true else n ∷ f q) ≡ (if b && q then [] else n ∷ []) ++ f q
string_left true true n f = refl
string_left true false n f = refl
string_left false q n f = refl

token_seen : (n : ℕ) (b c : Bool) (body : List ℕ) (rest : Bool → List ℕ) → c ≡ false
    → (if b && (not c && is_quoted body) then rest true else n ∷ rest (not c && is_quoted body))
    ≡ (if b && is_quoted body then [] else n ∷ []) ++ rest (is_quoted body)
token_seen n b true body rest h = cc
token_seen n b false body rest h = string_left b (is_quoted body) n rest

token_counted : (src : List ℕ) (from n : ℕ) (b : Bool) (p : Piece) (ps : List Piece) → p.comment ≡ false
    → comments_before n b (seen_from src from (p ∷ ps))
    ≡ (if b && is_quoted (body_of src p) then [] else n ∷ []) ++ comments_before n (is_quoted (body_of src p)) (seen_from src p.to ps)
token_counted src from n b p ps h =
    let skip = comments_before (n + 1) b (seen_from src p.to ps) in
    let token = if b && (not p.comment && is_quoted (body_of src p)) then comments_before n true (seen_from src p.to ps)
    else n ∷ comments_before n (not p.comment && is_quoted (body_of src p)) (seen_from src p.to ps) in
    ap (λ c. if c then skip else token) h
    ∙ token_seen n b p.comment (body_of src p) (λ q. comments_before n q (seen_from src p.to ps)) h

pub counts_token : (src : List ℕ) (ps : List Piece) (i : ℕ) (p : Piece) (counts next : List ℕ) (n : ℕ) (b q : Bool)
    → drop i ps ≡ p ∷ drop (suc i) ps → p.comment ≡ false → q ≡ is_quoted (body_of src p)
    → next ≡ counts ++ (if b && q then [] else n ∷ [])
    → Counts src ps i counts n b → Counts src ps (i + 1) next n q
counts_token src ps i p counts next n b q here k r put a =
    let order = subst (InOrder a.from (length src)) here a.order in
    let step : comments_before n b (seen_from src a.from (p ∷ drop (suc i) ps))
    ≡ (if b && q then [] else n ∷ []) ++ comments_before n q (seen_from src p.to (drop (suc i) ps)) =
    token_counted src a.from n b p (drop (suc i) ps) k
    ∙ ap (λ z. (if b && z then [] else n ∷ []) ++ comments_before n z (seen_from src p.to (drop (suc i) ps))) (sym r) in
    let more : Counts src ps (suc i) next n q = record {
      from = p.to;
      order = order.3;
      whole = ap (λ l. l ++ comments_before n q (seen_from src p.to (drop (suc i) ps))) put
          ∙ append_assoc counts (if b && q then [] else n ∷ []) (comments_before n q (seen_from src p.to (drop (suc i) ps)))
          ∙ ap (λ l. counts ++ l) (sym step)
          ∙ ap (λ l. counts ++ comments_before n b (seen_from src a.from l)) (sym here) ∙ a.whole;
      few = omega (arith, a.few);
    } in
    subst (λ m. Counts src ps m next n q) (sym (add-one i)) more

-- ---- the end

pub counts_end : (src : List ℕ) (ps : List Piece) (i : ℕ) (counts : List ℕ) (n : ℕ) (b : Bool) → length ps ≤ i → Counts src ps i counts n b
    → counts ++ n ∷ [] ≡ comments_before 0 false (seen src ps)
counts_end src ps i counts n b h a = ap (λ l. counts ++ comments_before n b (seen_from src a.from l)) (sym (drop_over ps i h)) ∙ a.whole
