-- Steps over the pieces of a form.
use Rattle.std.proofs.Common.{◌≡◌, ℕ, ◌+◌, ◌<◌, ◌≤◌, List, [], ◌∷◌, ◌++◌, Bool, true, false, Some, None, length, drop, get_or, refl, ap, sym, subst, ◌∙◌, arith, add-one, length-append, if◌then◌else◌}
use Rattle.std.specs.Prelude.{◌||◌}
use Rattle.std.proofs.Math.Seq.{drop-cons}
use Rattle.hare_tree.specs.declared.kind.Kind.{Kind}
use Rattle.hare_tree.specs.declared.form.Sign.{Sign}
use Rattle.hare_tree.specs.declared.form.Sign.TheVariants as si
use Rattle.hare_tree.specs.declared.form.Piece.{Piece}
use Rattle.hare_tree.specs.Node.{Head, Node, Nodes, more, head, kids_of}
use Rattle.hare_tree.specs.Spell.{Spelled, spells, piece_tokens, pieces_tokens, left_behind}
use Rattle.hare_tree.specs.Shape.{stops_each, form_stops}
use Rattle.hare_tree.specs.Judged.{nodes_from}
use Rattle.hare_tree.proofs.Spelling.Spelled.{drop-past}
use Rattle.hare_ways.specs.declared.edge.Seen.{Seen}
use Rattle.hare_ways.specs.declared.part.Part.{Part}
use Rattle.hare_ways.specs.Breaks.{Item, is_fixed, is_comma, sign_at, kids_behind, ends_in_comma, wants_comma}
use Rattle.hare_ways.specs.Parts.{part_of, part_tokens, nodes_behind, items_of, first_kind, wants_behind_first}
use Rattle.hare_ways.specs.Edges.{end_told, end_behind}
use Rattle.hare_ways.proofs.Ends.{IsTold, is-told}
use Rattle.hare_ways.proofs.PartLemmas.{tokens-part, spells-behind, items-behind}

-- the pieces from one on are that one and those behind it
pub drop-at : {A : Type 0} (ps : List A) (j : ℕ) (d : A) → j < length ps → drop j ps ≡ get_or ps j d ∷ drop (j + 1) ps
drop-at ps j d h = rw add-one (drop-cons ps j d h)

-- ---- the kids behind a sign

pub behind-found : (s : Sign) (ps : List Piece) (j : ℕ) (d : Piece) (us all : List Item) → j < length ps
    → is_fixed s (get_or ps j d) ≡ true → kids_behind s (drop j ps) us ≡ all → us ≡ all
behind-found s ps j d us all h e k =
    let a : us ≡ kids_behind s (get_or ps j d ∷ drop (j + 1) ps) us = rw e refl in
    a ∙ ap (λ qs. kids_behind s qs us) (sym (drop-at ps j d h)) ∙ k

pub behind-next : (s : Sign) (ps : List Piece) (j : ℕ) (d : Piece) (text : List ℕ) (q : Part) (ts ts' : Nodes) (all : List Item)
    → j < length ps → is_fixed s (get_or ps j d) ≡ false → q ≡ part_of (get_or ps j d) text → ts' ≡ nodes_behind q ts
    → kids_behind s (drop j ps) (items_of ts) ≡ all → kids_behind s (drop (j + 1) ps) (items_of ts') ≡ all
behind-next s ps j d text q ts ts' all h e r n k =
    let p = get_or ps j d in
    let a : kids_behind s (p ∷ drop (j + 1) ps) (items_of ts) ≡ kids_behind s (drop (j + 1) ps) (left_behind p (items_of ts)) = rw e refl in
    ap (λ us. kids_behind s (drop (j + 1) ps) (items_of us)) (n ∙ ap (λ x. nodes_behind x ts) r)
    ∙ ap (λ us. kids_behind s (drop (j + 1) ps) us) (sym (items-behind p text ts))
    ∙ sym a ∙ ap (λ qs. kids_behind s qs (items_of ts)) (sym (drop-at ps j d h)) ∙ k

pub behind-end : (s : Sign) (ps : List Piece) (j : ℕ) (us all : List Item) → length ps ≤ j → kids_behind s (drop j ps) us ≡ all → us ≡ all
behind-end s ps j us all h k = ap (λ qs. kids_behind s qs us) (sym (drop-past ps j h)) ∙ k

-- ---- where a sign stands

pub sign-found : (s : Sign) (hd : Head) (ps : List Piece) (j : ℕ) (d : Piece) (n all : ℕ) (us : List Spelled) → j < length ps
    → is_fixed s (get_or ps j d) ≡ true → sign_at s hd (drop j ps) n us ≡ all → n ≡ all
sign-found s hd ps j d n all us h e k =
    let a : n ≡ sign_at s hd (get_or ps j d ∷ drop (j + 1) ps) n us = rw e refl in
    a ∙ ap (λ qs. sign_at s hd qs n us) (sym (drop-at ps j d h)) ∙ k

pub sign-next : (s : Sign) (hd : Head) (ps : List Piece) (j : ℕ) (d : Piece) (q : Part) (ts ts' : Nodes) (n l all : ℕ) → j < length ps
    → is_fixed s (get_or ps j d) ≡ false → q ≡ part_of (get_or ps j d) hd.text → ts' ≡ nodes_behind q ts
    → l ≡ length (part_tokens hd q (spells 0 ts))
    → sign_at s hd (drop j ps) n (spells 0 ts) ≡ all → sign_at s hd (drop (j + 1) ps) (n + l) (spells 0 ts') ≡ all
sign-next s hd ps j d q ts ts' n l all h e r k' m' i =
    let p = get_or ps j d in
    let us = spells 0 ts in
    let k : ts' ≡ nodes_behind (part_of p hd.text) ts = k' ∙ ap (λ x. nodes_behind x ts) r in
    let m : n + l ≡ n + length (part_tokens hd (part_of p hd.text) us) =
    ap (λ x. n + x) m' ∙ ap (λ x. n + length (part_tokens hd x us)) r in
    let a : sign_at s hd (p ∷ drop (j + 1) ps) n us ≡ sign_at s hd (drop (j + 1) ps) (n + length (piece_tokens 0 hd p us))
    (left_behind p us) =
    rw e refl in
    ap (λ x. sign_at s hd (drop (j + 1) ps) x (spells 0 ts')) m
    ∙ ap (λ us'. sign_at s hd (drop (j + 1) ps) (n + length (part_tokens hd (part_of p hd.text) us)) (spells 0 us')) k
    ∙ ap (λ vs. sign_at s hd (drop (j + 1) ps) (n + length (part_tokens hd (part_of p hd.text) us)) vs) (sym (spells-behind p hd.text ts))
    ∙ ap (λ xs. sign_at s hd (drop (j + 1) ps) (n + length xs) (left_behind p us)) (sym (tokens-part hd p us))
    ∙ sym a ∙ ap (λ qs. sign_at s hd qs n us) (sym (drop-at ps j d h)) ∙ i

pub sign-end : (s : Sign) (hd : Head) (ps : List Piece) (j n all : ℕ) (us : List Spelled) → length ps ≤ j
    → sign_at s hd (drop j ps) n us ≡ all → n ≡ all
sign-end s hd ps j n all us h k = ap (λ qs. sign_at s hd qs n us) (sym (drop-past ps j h)) ∙ k

bound-if : (c : Bool) (x y m : ℕ) → x ≤ m → y ≤ m → (if c then x else y) ≤ m
bound-if true x y m a b = a
bound-if false x y m a b = b

-- it stands among the tokens of the form
pub sign-bound : (s : Sign) (hd : Head) (ps : List Piece) (n : ℕ) (us : List Spelled)
    → sign_at s hd ps n us ≤ n + length (pieces_tokens 0 hd ps us)
sign-bound s hd [] n us = omega arith
sign-bound s hd (p ∷ ps) n us =
    let here = piece_tokens 0 hd p us in
    let rest = pieces_tokens 0 hd ps (left_behind p us) in
    let more = sign-bound s hd ps (n + length here) (left_behind p us) in
    bound-if (is_fixed s p) n (sign_at s hd ps (n + length here) (left_behind p us)) (n + length (here ++ rest))
    (omega (arith, length-append here rest)) (omega (arith, more, length-append here rest))

-- ---- how many tokens there are

tokens-at : (hd : Head) (ps : List Piece) (j : ℕ) (d : Piece) (ts : Nodes) → j < length ps
    → length (pieces_tokens 0 hd (drop j ps) (spells 0 ts))
    ≡ length (part_tokens hd (part_of (get_or ps j d) hd.text) (spells 0 ts))
    + length (pieces_tokens 0 hd (drop (j + 1) ps) (spells 0 (nodes_behind (part_of (get_or ps j d) hd.text) ts)))
tokens-at hd ps j d ts h =
    let p = get_or ps j d in
    let us = spells 0 ts in
    ap (λ qs. length (pieces_tokens 0 hd qs us)) (drop-at ps j d h)
    ∙ length-append (piece_tokens 0 hd p us) (pieces_tokens 0 hd (drop (j + 1) ps) (left_behind p us))
    ∙ ap (λ x. length x + length (pieces_tokens 0 hd (drop (j + 1) ps) (left_behind p us))) (tokens-part hd p us)
    ∙ ap (λ vs. length (part_tokens hd (part_of p hd.text) us) + length (pieces_tokens 0 hd (drop (j + 1) ps) vs))
    (spells-behind p hd.text ts)

pub tokens-next : (hd : Head) (ps : List Piece) (j : ℕ) (d : Piece) (q : Part) (ts ts' : Nodes) (n m all : ℕ) → j < length ps
    → q ≡ part_of (get_or ps j d) hd.text → ts' ≡ nodes_behind q ts → m ≡ length (part_tokens hd q (spells 0 ts))
    → n + length (pieces_tokens 0 hd (drop j ps) (spells 0 ts)) ≡ all
    → (n + m) + length (pieces_tokens 0 hd (drop (j + 1) ps) (spells 0 ts')) ≡ all
tokens-next hd ps j d q ts ts' n m all h r k l i =
    let at = tokens-at hd ps j d ts h in
    let here : length (part_tokens hd q (spells 0 ts)) ≡ length (part_tokens hd (part_of (get_or ps j d) hd.text) (spells 0 ts)) =
    ap (λ x. length (part_tokens hd x (spells 0 ts))) r in
    let rest : length (pieces_tokens 0 hd (drop (j + 1) ps) (spells 0 ts'))
    ≡ length (pieces_tokens 0 hd (drop (j + 1) ps) (spells 0 (nodes_behind (part_of (get_or ps j d) hd.text) ts))) =
    ap (λ us. length (pieces_tokens 0 hd (drop (j + 1) ps) (spells 0 us))) (k ∙ ap (λ x. nodes_behind x ts) r) in
    omega (arith, at, here, rest, l, i)

pub tokens-room : (hd : Head) (ps : List Piece) (j : ℕ) (d : Piece) (q : Part) (ts : Nodes) (n all : ℕ) → j < length ps
    → q ≡ part_of (get_or ps j d) hd.text → n + length (pieces_tokens 0 hd (drop j ps) (spells 0 ts)) ≡ all
    → n + length (part_tokens hd q (spells 0 ts)) ≤ all
tokens-room hd ps j d q ts n all h r i =
    let at = tokens-at hd ps j d ts h in
    let here : length (part_tokens hd q (spells 0 ts)) ≡ length (part_tokens hd (part_of (get_or ps j d) hd.text) (spells 0 ts)) =
    ap (λ x. length (part_tokens hd x (spells 0 ts))) r in
    omega (arith, at, here, i)

pub tokens-end : (hd : Head) (ps : List Piece) (j : ℕ) (us : List Spelled) → length ps ≤ j → length (pieces_tokens 0 hd (drop j ps) us) ≡ 0
tokens-end hd ps j us h = ap (λ qs. length (pieces_tokens 0 hd qs us)) (drop-past ps j h)

-- ---- where a tree ends

pub told-next : (t : Node) (ps : List Piece) (j : ℕ) (d : Piece) (seen next : Seen) (all : Bool) → j < length ps
    → Some next ≡ end_behind (head t) (get_or ps j d) (nodes_from seen.kid (kids_of t)) seen
    → form_stops si.Comma (head t) (end_told seen.end (kids_of t)) (drop j ps) (stops_each si.Comma (nodes_from seen.kid (kids_of t))) ≡ all
    → form_stops si.Comma (head t) (end_told next.end (kids_of t)) (drop (j + 1) ps) (stops_each si.Comma (nodes_from next.kid
    (kids_of t))) ≡ all
told-next t ps j d seen next all h e k =
    let ts = kids_of t in
    let p = get_or ps j d in
    let told : IsTold (head t) ts p seen (Some next) = subst (IsTold (head t) ts p seen) (sym e) (is-told (head t) ts p seen) in
    told (drop (j + 1) ps)
    ∙ ap (λ qs. form_stops si.Comma (head t) (end_told seen.end ts) qs (stops_each si.Comma (nodes_from seen.kid ts))) (sym
    (drop-at ps j d h))
    ∙ k

pub told-none : (t : Node) (ps : List Piece) (j : ℕ) (d : Piece) (seen : Seen) (all : Bool) → j < length ps
    → None ≡ end_behind (head t) (get_or ps j d) (nodes_from seen.kid (kids_of t)) seen
    → form_stops si.Comma (head t) (end_told seen.end (kids_of t)) (drop j ps) (stops_each si.Comma (nodes_from seen.kid (kids_of t))) ≡ all
    → true ≡ all
told-none t ps j d seen all h e k =
    let ts = kids_of t in
    let p = get_or ps j d in
    let told : IsTold (head t) ts p seen None = subst (IsTold (head t) ts p seen) (sym e) (is-told (head t) ts p seen) in
    sym (told (drop (j + 1) ps))
    ∙ ap (λ qs. form_stops si.Comma (head t) (end_told seen.end ts) qs (stops_each si.Comma (nodes_from seen.kid ts))) (sym
    (drop-at ps j d h))
    ∙ k

pub told-end : (t : Node) (ps : List Piece) (j : ℕ) (seen : Seen) (all : Bool) → length ps ≤ j
    → form_stops si.Comma (head t) (end_told seen.end (kids_of t)) (drop j ps) (stops_each si.Comma (nodes_from seen.kid (kids_of t))) ≡ all
    → end_told seen.end (kids_of t) ≡ all
told-end t ps j seen all h k =
    ap (λ qs. form_stops si.Comma (head t) (end_told seen.end (kids_of t)) qs (stops_each si.Comma (nodes_from seen.kid (kids_of t))))
    (sym (drop-past ps j h))
    ∙ k

-- ---- items

pub comma-found : (us ts : Nodes) (t : Node) (k : Kind) → us ≡ more t ts → k ≡ first_kind us → is_comma k ≡ true
    → true ≡ ends_in_comma (items_of us)
comma-found us ts t k e n c =
    let a : is_comma (head t).kind ≡ true = ap is_comma (sym (n ∙ ap first_kind e)) ∙ c in
    sym (ap (λ vs. ends_in_comma (items_of vs)) e ∙ ap (λ b. b || ends_in_comma (items_of ts)) a)

pub comma-next : (us ts : Nodes) (t : Node) (k : Kind) → us ≡ more t ts → k ≡ first_kind us → is_comma k ≡ false
    → ends_in_comma (items_of ts) ≡ ends_in_comma (items_of us)
comma-next us ts t k e n c =
    let a : is_comma (head t).kind ≡ false = ap is_comma (sym (n ∙ ap first_kind e)) ∙ c in
    sym (ap (λ vs. ends_in_comma (items_of vs)) e ∙ ap (λ b. b || ends_in_comma (items_of ts)) a)

pub wants-next : (us ts : Nodes) (t : Node) (w w' : Bool) → us ≡ more t ts → w' ≡ wants_behind_first w us
    → wants_comma w' (items_of ts) ≡ wants_comma w (items_of us)
wants-next us ts t w w' e n =
    ap (λ b. wants_comma b (items_of ts)) (n ∙ ap (wants_behind_first w) e) ∙ ap (λ vs. wants_comma w (items_of vs)) (sym e)
