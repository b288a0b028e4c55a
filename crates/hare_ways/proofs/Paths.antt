-- The ways of a path, byte by byte of its text.
use Rattle.std.proofs.Common.{◌≡◌, ℕ, zero, suc, ◌+◌, ◌<◌, List, [], ◌∷◌, ◌++◌, Bool, true, false, length, drop, refl, ap, sym, ◌∙◌, arith, append_assoc, add-one, if◌then◌else◌}
use Rattle.std.specs.Prelude.{◌&&◌, ◌==◌, not, slice_index}
use Rattle.std.proofs.lemmas.List.{append-nil}
use Rattle.hare_tree.specs.declared.kind.Kind.{Kind}
use Rattle.hare_tree.specs.declared.kind.Kind.TheVariants as ki
use Rattle.hare_tree.specs.declared.form.Sign.TheVariants as si
use Rattle.hare_tree.specs.Spell.{parts, parts_from, path_tokens}
use Rattle.hare_ways.specs.declared.way.Way.{Way}
use Rattle.hare_ways.specs.Ways.{plain, sign_way, path_ways}
use Rattle.hare_ways.specs.Walk.{deepened, at_depth, mark_ways, path_behind}
use Rattle.hare_ways.proofs.Counted.{path_length}

-- ---- one byte

mark-if : (k : Kind) (m : Bool) (s : List ℕ)
    → (if m then sign_way k si.PathMark ∷ plain ∷ path_behind k true s else path_behind k false s) ≡ mark_ways k m ++ path_behind k m s
mark-if k true s = refl
mark-if k false s = refl

step-suc : (k : Kind) (taken : Bool) (text : List ℕ) (i : ℕ) → i < length text
    → path_behind k taken (drop i text)
    ≡ mark_ways k (not taken && (slice_index text i == 58 && slice_index text (suc i) == 58))
    ++ path_behind k (not taken && (slice_index text i == 58 && slice_index text (suc i) == 58)) (drop (suc i) text)
step-suc k taken [] i h = absurd (omega arith)
step-suc k true (c ∷ s) zero h = refl
step-suc k false (c ∷ s) zero h = mark-if k (c == 58 && slice_index s 0 == 58) s
step-suc k taken (c ∷ s) (suc i) h = step-suc k taken s i (omega arith)

-- a byte of a path is the first colon of a `::`, or has no way
pub path-step : (k : Kind) (taken m : Bool) (text : List ℕ) (i : ℕ) → i < length text
    → m ≡ (not taken && (slice_index text i == 58 && slice_index text (i + 1) == 58))
    → path_behind k taken (drop i text) ≡ mark_ways k m ++ path_behind k m (drop (i + 1) text)
path-step k taken m text i h e = rw (e, add-one) (step-suc k taken text i h)

-- ---- the whole path

ways-either : (k : Kind) (p : List ℕ) (d : Bool) (xs ys : List (List ℕ))
    → path_ways k (p ∷ xs) ≡ plain ∷ sign_way k si.PathMark ∷ path_ways k xs
    → path_ways k (p ∷ ys) ≡ plain ∷ sign_way k si.PathMark ∷ path_ways k ys
    → path_ways k (p ∷ (if d then xs else ys)) ≡ plain ∷ sign_way k si.PathMark ∷ path_ways k (if d then xs else ys)
ways-either k p true xs ys h j = h
ways-either k p false xs ys h j = j

ways-more : (k : Kind) (p : List ℕ) (b : Bool) (q s : List ℕ)
    → path_ways k (p ∷ parts_from b q s) ≡ plain ∷ sign_way k si.PathMark ∷ path_ways k (parts_from b q s)
ways-more k p b q [] = refl
ways-more k p true q (c ∷ s) = ways-more k p false q s
ways-more k p false q (c ∷ s) =
    ways-either k p (c == 58 && slice_index s 0 == 58) (q ∷ parts_from true [] s) (parts_from false (q ++ c ∷ []) s) refl
    (ways-more k p false (q ++ c ∷ []) s)

behind-either : (k : Kind) (d : Bool) (xs ys : List (List ℕ)) (a b : List Way) → path_ways k xs ≡ plain ∷ a → path_ways k ys ≡ plain ∷ b
    → path_ways k (if d then xs else ys) ≡ plain ∷ (if d then a else b)
behind-either k true xs ys a b h j = h
behind-either k false xs ys a b h j = j

-- the ways of a path are that of its first name, and those behind it
pub path-behind : (k : Kind) (b : Bool) (part s : List ℕ) → path_ways k (parts_from b part s) ≡ plain ∷ path_behind k b s
path-behind k b part [] = refl
path-behind k true part (c ∷ s) = path-behind k false part s
path-behind k false part (c ∷ s) =
    behind-either k (c == 58 && slice_index s 0 == 58) (part ∷ parts_from true [] s) (parts_from false (part ++ c ∷ []) s) _ _
    (ways-more k part true [] s ∙ ap (λ ws. plain ∷ sign_way k si.PathMark ∷ ws) (path-behind k true [] s))
    (path-behind k false (part ++ c ∷ []) s)

-- all of a path is put
pub path-put : (k : Kind) (d : ℕ) (taken : Bool) (text rest : List ℕ) (old first out : List Way) → rest ≡ []
    → first ≡ old ++ deepened d plain ∷ []
    → out ++ at_depth d (path_behind k taken rest) ≡ first ++ at_depth d (path_behind k false text)
    → out ≡ old ++ at_depth d (path_ways k (parts text))
path-put k d taken text rest old first out e1 e2 e3 =
    let a : out ++ at_depth d (path_behind k taken []) ≡ first ++ at_depth d (path_behind k false text) = rw e1 at e3 in
    sym (append-nil out) ∙ a ∙ ap (λ f. f ++ at_depth d (path_behind k false text)) e2
    ∙ append_assoc old (deepened d plain ∷ []) (at_depth d (path_behind k false text))
    ∙ ap (λ ws. old ++ at_depth d ws) (sym (path-behind k false [] text))

-- a path has a token more than ways stand behind its first name
pub path-count : (text : List ℕ) → length (path_tokens 0 (parts text)) ≡ 1 + length (path_behind ki.None false text)
path-count text =
    let a : length (path_ways ki.None (parts text)) ≡ length (path_tokens 0 (parts text)) = path_length ki.None (parts text) in
    let b : length (path_ways ki.None (parts text)) ≡ suc (length (path_behind ki.None false text)) =
    ap length (path-behind ki.None false [] text) in
    omega (arith, a, b)
