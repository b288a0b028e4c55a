-- Facts on the tokens of trees.
use Rattle.std.proofs.Common.{◌≡◌, ℕ, zero, suc, ◌+◌, ◌<◌, ◌≤◌, List, [], ◌∷◌, ◌++◌, Bool, true, false, length, take, drop, get_or, Some, refl, ap, sym, ◌∙◌, arith, append_assoc, add-one, if◌then◌else◌}
use Rattle.std.specs.Prelude.{slice_get, slice_index, ◌&&◌, ◌==◌}
use Rattle.std.proofs.lemmas.List.{append-nil}
use Rattle.hare_tree.specs.declared.token.Token.{Token}
use Rattle.hare_tree.specs.declared.token.TokenKind.TheVariants as tk
use Rattle.hare_tree.specs.declared.form.Sign.TheVariants as si
use Rattle.hare_tree.specs.declared.form.Lead.{Lead}
use Rattle.hare_tree.specs.declared.form.Piece.{Piece}
use Rattle.hare_tree.specs.Node.{Head, Node, branch, head, nodes_of}
use Rattle.hare_tree.specs.Forms.{form_of}
use Rattle.hare_tree.specs.Spell.{Spelled, word_token, sign_token, parts_from, path_tokens, with_lead, all_led, one_led, listed, spell, spells, spelled_kid, kids_spelled, pieces_tokens, piece_tokens, left_behind}

-- as many kids are spelled as there are
pub length-spells : (f : ℕ) (ts : List Node) → length (spells f (nodes_of ts)) ≡ length ts
unfolding spells
length-spells f [] = refl
length-spells f (t ∷ ts) = ap suc (length-spells f ts)

-- the first kid from a place on
pub take-one-spells : (f : ℕ) (ts : List Node) (i : ℕ) (x : Node) → slice_get ts i ≡ Some x →
    take 1 (drop i (spells f (nodes_of ts))) ≡ spelled_kid f x ∷ []
unfolding spells
take-one-spells f [] i x e = cc
take-one-spells f (t ∷ ts) zero x e = let h : t ≡ x = cc in ap (λ y. spelled_kid f y ∷ []) h
take-one-spells f (t ∷ ts) (suc i) x e = take-one-spells f ts i x e

-- a tree as a kid with its sign
pub one_led-here : (f : ℕ) (l : Lead) (ts : List Node) (i : ℕ) (x : Node) → slice_get ts i ≡ Some x →
    one_led f l (drop i (spells f (nodes_of ts))) ≡ with_lead f l (spelled_kid f x)
one_led-here f l ts i x e = ap (all_led f l) (take-one-spells f ts i x e) ∙ append-nil (with_lead f l (spelled_kid f x))

-- there is none past the end
pub drop-past : {A : Type 0} (us : List A) (i : ℕ) → length us ≤ i → drop i us ≡ []
drop-past [] zero e = refl
drop-past [] (suc i) e = refl
drop-past (u ∷ us) zero e = absurd (omega arith)
drop-past (u ∷ us) (suc i) e = drop-past us i (omega arith)

-- no kid is left past the end
pub drop_spells-past : (f : ℕ) (ts : List Node) (i : ℕ) → length ts ≤ i → drop i (spells f (nodes_of ts)) ≡ []
drop_spells-past f ts i e = drop-past (spells f (nodes_of ts)) i (rw (length-spells f ts) e)

pub all_led-past : (f : ℕ) (l : Lead) (ts : List Node) (i : ℕ) → length ts ≤ i → all_led f l (drop i (spells f (nodes_of ts))) ≡ []
all_led-past f l ts i e = ap (all_led f l) (drop_spells-past f ts i e)

pub one_led-past : (f : ℕ) (l : Lead) (ts : List Node) (i : ℕ) → length ts ≤ i → one_led f l (drop i (spells f (nodes_of ts))) ≡ []
one_led-past f l ts i e = ap (one_led f l) (drop_spells-past f ts i e)

pub listed-past : (f : ℕ) (ts : List Node) (i : ℕ) → length ts ≤ i → listed f (drop i (spells f (nodes_of ts))) ≡ []
listed-past f ts i e = ap (listed f) (drop_spells-past f ts i e)

-- kids are the first and those behind it
all_led-suc : (f : ℕ) (l : Lead) (us : List Spelled) (i : ℕ) → all_led f l (drop i us) ≡ one_led f l (drop i us) ++
    all_led f l (drop (suc i) us)
all_led-suc f l [] zero = refl
all_led-suc f l [] (suc i) = refl
all_led-suc f l (u ∷ us) zero = ap (λ x. x ++ all_led f l us) (sym (append-nil (with_lead f l u)))
all_led-suc f l (u ∷ us) (suc i) = all_led-suc f l us i

pub all_led-step : (f : ℕ) (l : Lead) (us : List Spelled) (i : ℕ) → all_led f l (drop i us) ≡ one_led f l (drop i us) ++
    all_led f l (drop (i + 1) us)
all_led-step f l us i = rw add-one (all_led-suc f l us i)

-- dropping one more
drop-suc : {A : Type 0} (us : List A) (i : ℕ) → drop (suc i) us ≡ drop 1 (drop i us)
drop-suc [] zero = refl
drop-suc [] (suc i) = refl
drop-suc (u ∷ us) zero = refl
drop-suc (u ∷ us) (suc i) = drop-suc us i

pub drop-one : {A : Type 0} (us : List A) (i : ℕ) → drop (i + 1) us ≡ drop 1 (drop i us)
drop-one us i = rw add-one (drop-suc us i)

-- pieces are the first and those behind it
pieces-suc : (f : ℕ) (h : Head) (ps : List Piece) (us : List Spelled) (i : ℕ) (d : Piece) → i < length ps →
    pieces_tokens f h (drop i ps) us ≡ piece_tokens f h (get_or ps i d) us ++
    pieces_tokens f h (drop (suc i) ps) (left_behind (get_or ps i d) us)
pieces-suc f h [] us i d e = absurd (omega arith)
pieces-suc f h (p ∷ ps) us zero d e = refl
pieces-suc f h (p ∷ ps) us (suc i) d e = pieces-suc f h ps us i d (omega arith)

pub pieces-step : (f : ℕ) (h : Head) (ps : List Piece) (us : List Spelled) (i : ℕ) (d : Piece) → i < length ps →
    pieces_tokens f h (drop i ps) us ≡ piece_tokens f h (get_or ps i d) us ++
    pieces_tokens f h (drop (i + 1) ps) (left_behind (get_or ps i d) us)
pieces-step f h ps us i d e = rw add-one (pieces-suc f h ps us i d e)

-- what a tree's form says
pub spell-pieces : (f : ℕ) (t : Node) → spell f t ≡ pieces_tokens f (head t) (form_of (head t).kind) (kids_spelled f t)
unfolding spell
spell-pieces f (branch h ts) = refl

-- as many kids are spelled as the tree has
pub length-kids_spelled : (f : ℕ) (h : Head) (ts : List Node) (t : Node) → branch h (nodes_of ts) ≡ t →
    length (kids_spelled f t) ≡ length ts
length-kids_spelled f h ts t e = rw (← e) (length-spells f ts)

-- ---- paths

-- the second colon of a mark
second-suc : (part text : List ℕ) (i : ℕ) → i < length text → parts_from true part (drop i text) ≡ parts_from false part (drop (suc i) text)
second-suc part [] i h = absurd (omega arith)
second-suc part (c ∷ s) zero h = refl
second-suc part (c ∷ s) (suc i) h = second-suc part s i (omega arith)

pub parts_from-second : (part text : List ℕ) (i : ℕ) → i < length text → parts_from true part (drop i text) ≡ parts_from false part
    (drop (i + 1) text)
parts_from-second part text i h = rw add-one (second-suc part text i h)

-- the first colon of a mark
mark-suc : (part text : List ℕ) (i : ℕ) → i < length text → (slice_index text i == 58 && slice_index text (suc i) == 58) ≡ true →
    parts_from false part (drop i text) ≡ part ∷ parts_from true [] (drop (suc i) text)
mark-suc part [] i h e = absurd (omega arith)
mark-suc part (c ∷ s) zero h e = rw e refl
mark-suc part (c ∷ s) (suc i) h e = mark-suc part s i (omega arith) e

pub parts_from-mark : (part text : List ℕ) (i : ℕ) → i < length text → (slice_index text i == 58 && slice_index text (i + 1) == 58) ≡ true →
    parts_from false part (drop i text) ≡ part ∷ parts_from true [] (drop (i + 1) text)
parts_from-mark part text i h e = rw add-one (mark-suc part text i h (rw add-one at e))

-- any other byte
byte-suc : (part text : List ℕ) (i : ℕ) → i < length text → (slice_index text i == 58 && slice_index text (suc i) == 58) ≡ false →
    parts_from false part (drop i text) ≡ parts_from false (part ++ slice_index text i ∷ []) (drop (suc i) text)
byte-suc part [] i h e = absurd (omega arith)
byte-suc part (c ∷ s) zero h e = rw e refl
byte-suc part (c ∷ s) (suc i) h e = byte-suc part s i (omega arith) e

pub parts_from-byte : (part text : List ℕ) (i : ℕ) → i < length text → (slice_index text i == 58 && slice_index text (i + 1) == 58) ≡
    false → parts_from false part (drop i text) ≡ parts_from false (part ++ slice_index text i ∷ []) (drop (i + 1) text)
parts_from-byte part text i h e = rw add-one (byte-suc part text i h (rw add-one at e))

-- what follows `::` follows the part before it, whichever of two readings it is
path_tokens-either : (f : ℕ) (p : List ℕ) (d : Bool) (xs ys : List (List ℕ)) → path_tokens f (p ∷ xs) ≡ word_token f tk.Name p ∷
    sign_token f si.PathMark ∷ path_tokens f xs → path_tokens f (p ∷ ys) ≡ word_token f tk.Name p ∷ sign_token f si.PathMark ∷
    path_tokens f ys → path_tokens f (p ∷ (if d then xs else ys)) ≡ word_token f tk.Name p ∷ sign_token f si.PathMark ∷
    path_tokens f (if d then xs else ys)
path_tokens-either f p true xs ys h k = h
path_tokens-either f p false xs ys h k = k

-- what follows `::` follows the part before it
pub path_tokens-more : (f : ℕ) (p : List ℕ) (b : Bool) (q s : List ℕ) → path_tokens f (p ∷ parts_from b q s) ≡ word_token f tk.Name p ∷
    sign_token f si.PathMark ∷ path_tokens f (parts_from b q s)
path_tokens-more f p b q [] = refl
path_tokens-more f p true q (c ∷ s) = path_tokens-more f p false q s
path_tokens-more f p false q (c ∷ s) =
    path_tokens-either f p (c == 58 && slice_index s 0 == 58) (q ∷ parts_from true [] s) (parts_from false (q ++ c ∷ []) s) refl
    (path_tokens-more f p false (q ++ c ∷ []) s)

-- a part and a mark are put
pub path-mark : (f : ℕ) (o p q : List Token) (part s n r : List ℕ) → p ≡ o ++ word_token f tk.Name s ∷ [] → s ≡ part → q ≡ p ++
    sign_token f si.PathMark ∷ [] → n ≡ [] → q ++ path_tokens f (parts_from true n r) ≡ o ++ path_tokens f (part ∷ parts_from true [] r)
path-mark f o p q part s n r e1 e2 e3 e4 = rw (e3, e1, e2, e4, path_tokens-more f part true [] r, append_assoc, append_assoc) refl
