-- What is spelled by the pieces of a form is read.
use Rattle.std.proofs.Common.{◌≡◌, ℕ, ◌≤◌, List, [], ◌∷◌, ◌++◌, Bool, true, false, ◌&&◌, ◌||◌, not, refl, ap, sym, ◌∙◌, subst, arith, rules, append_assoc, if◌then◌else◌}
use Rattle.std.specs.Prelude.{nat_le}
use Rattle.std.proofs.lemmas.Bool.Decides.{nat_tests}
use Rattle.std.proofs.lemmas.List.{append-nil}
use Rattle.std.specs.List.{list_all}
use Rattle.hare_tree.specs.declared.place.Place.{Place}
use Rattle.hare_tree.specs.declared.kind.Kind.{Kind}
use Rattle.hare_tree.specs.declared.kind.Kind.TheVariants as ki
use Rattle.hare_tree.specs.declared.token.Token.{Token}
use Rattle.hare_tree.specs.declared.form.Sign.{Sign}
use Rattle.hare_tree.specs.declared.form.Sign.TheVariants as si
use Rattle.hare_tree.specs.declared.form.Own.TheVariants as ow
use Rattle.hare_tree.specs.declared.form.Sort.{Sort}
use Rattle.hare_tree.specs.declared.form.Sort.TheVariants as so
use Rattle.hare_tree.specs.declared.form.Lead.TheVariants as le
use Rattle.hare_tree.specs.declared.form.Piece.{Piece}
use Rattle.hare_tree.specs.declared.form.Piece.TheVariants as pi
use Rattle.hare_tree.specs.Node.{Head, Node, Nodes, branch, none, more, head, size_of, sizes_of}
use Rattle.hare_tree.specs.Words.{is_listed}
use Rattle.hare_tree.specs.Signs.{sign_word}
use Rattle.hare_tree.specs.Forms.{expr}
use Rattle.hare_tree.specs.Levels.{is_name, admits, sort_in}
use Rattle.hare_tree.specs.Spell.{sign_token, full_token, all_led, pieces_tokens, spell, spells}
use Rattle.hare_tree.specs.Shape.{is_shaped, are_kids, is_own, has_text_alone, is_number, is_none, kid_pieces, kids_end, edges}
use Rattle.hare_automaton.specs.declared.class.Class.{Class}
use Rattle.hare_automaton.specs.declared.class.Class.TheVariants as cl
use Rattle.hare_automaton.specs.declared.rule.Rule.TheVariants as ru
use Rattle.hare_automaton.specs.declared.rule.Symbol.{Symbol}
use Rattle.hare_automaton.specs.declared.rule.Symbol.TheVariants as sy
use Rattle.hare_automaton.specs.declared.rule.Change.TheVariants as ch
use Rattle.hare_automaton.specs.Classes.{class_of}
use Rattle.hare_automaton.specs.Rows.{Fault, Skips, Uses, of, part, or_skips, has_sign, symbols}
use Rattle.hare_automaton.specs.DeclarationRows.{of_row}
use Rattle.hare_automaton.specs.Table.{row}
use Rattle.hare_automaton.specs.Engine.{Group, with_kids, add, take_text, run}
use Rattle.hare_tree.specs.Signs.{is_sign}
use Rattle.hare_tree.specs.Shape.{stops, stops_each, form_stops, Ending, kid_or, edges, ends_before, behind_kid}
use Rattle.hare_automaton.specs.OneTree.{plain, is_sort as covered}
use Rattle.hare_automaton.proofs.Machine.Steps.{front, run_uses, run_absent, run_want, run_groups}
use Rattle.hare_automaton.proofs.Machine.Tokens.{class_sign, class_number}
use Rattle.hare_automaton.proofs.Spelled.Paths.{split}
use Rattle.hare_automaton.proofs.Machine.Edges.{true_le, edge, ReadsTo, read_kid}
use Rattle.hare_automaton.proofs.Spelled.Lists.{plain_list, shape}
use Rattle.hare_tree.specs.Shape.{is_absent}
use Rattle.hare_automaton.proofs.Spelled.Kids.{begins, run_or_none, absent_kind, absent_spell, absent_plain, stands, led_kid, led_absent}
use Rattle.hare_automaton.proofs.Spelled.Lists.{filled, run_group}
use Rattle.hare_tree.specs.Spell.{listed, label_tokens, member_kind}
use Rattle.hare_automaton.proofs.Spelled.Items.{read_more, read_list, read_statements, read_cases}
use Rattle.hare_automaton.proofs.Spelled.Elements.{read_elements}
use Rattle.hare_automaton.proofs.Spelled.Forms.{LedOver, state, has_own, Owns, next_class, Plainly, Clear, next_is, Standing, Maybe, lacks, has, maybe, kid_ends, read_name, read_label}
use Rattle.std.proofs.lemmas.Grind.{common_steps}
use denote.Enum.Bare.{true_same, same_true}
use Rattle.std.specs.Char.{is_ascii_digit}
use Rattle.hare_tree.specs.Words.{is_letter, is_word_byte, is_word, keywords, is_left_out}
use Rattle.std.specs.Prelude.{slice_index, nat_lt, ◌^◌}
use Rattle.std.proofs.lemmas.Slice.Eq.{bytes_eq-Decides}
use Rattle.hare_tree.specs.contracts.form.Sign.{the_type}

state_more : (f : ℕ) (b : Bool) (p : Place) (h : Head) (ks : List Node) (t : Node) (ts : Nodes) →
    state b p h ((ks ++ plain f t ∷ []) ++ plain_list f ts) ≡ state b p h (ks ++ plain_list f (more t ts))
state_more f b p h ks t ts = ap (state b p h) (append_assoc ks (plain f t ∷ []) (plain_list f ts))

state_with : (b : Bool) (p : Place) (h : Head) (ks ls : List Node) → with_kids (state b p h ks) ls ≡ state b p h ls
state_with true p h ks ls = refl
state_with false p h ks ls = refl

state_filled : (f : ℕ) (b : Bool) (p : Place) (h : Head) (ks : List Node) (ts : Nodes) →
    filled f (state b p h ks) ts ≡ state b p h (ks ++ plain_list f ts)
state_filled f true p h ks ts = refl
state_filled f false p h ks ts = refl

state_add : (b : Bool) (p : Place) (h : Head) (ks : List Node) (t : Node) (gs : List Group) →
    add t (state b p h ks ∷ gs) ≡ state b p h (ks ++ t ∷ []) ∷ gs
state_add true p h ks t gs = refl
state_add false p h ks t gs = refl

or_false' : (b : Bool) → (b || false) ≡ b
or_false' true = refl
or_false' false = refl

or_true' : (b : Bool) → (b || true) ≡ true
or_true' true = refl
or_true' false = refl

sort_kept : (m : ℕ) (s : Sort) → covered s ≡ true → sort_in m s ≡ s
sort_kept m so.Left e = cc
sort_kept m so.Right e = cc
sort_kept m _ e = refl

-- the kid where it stands
kid_at : (f n : ℕ) → ReadsTo f n → (s : Sort) (t : Node) → size_of t ≤ n → covered s ≡ true → is_shaped s t ≡ true →
    (b : Bool) (p : Place) (h : Head) (ks : List Node) (v : List Token) (st : List Symbol) (gs : List Group) → Standing s t v →
    run f (spell f t ++ v) (of s ∷ st) (state b p h ks ∷ gs) ≡ run f v st (state b p h (ks ++ plain f t ∷ []) ∷ gs)
kid_at f n ih s t z c e b p h ks v st gs q =
    read_kid f n ih s t z c e v st (state b p h ks) gs q.pulls q.stops_at q.closed ∙ run_groups f v st _ _
    (state_add b p h ks (plain f t) gs)

none_level : (l : ℕ) → nat_le 1 l ≡ true → nat_le l 0 ≡ true → ⊥
none_level l a b = let x = true_le 1 l a in let y = true_le l 0 b in omega (arith, x, y)

pub is_there : (s : Sort) (t : Node) → covered s ≡ true → is_shaped s t ≡ true → is_none (head t).kind ≡ false
is_there s (branch h ts) c e = by_kind s h.kind h.text c (shape s h ts e).admitted
  where
    by_kind : (s : Sort) (k : Kind) (x : List ℕ) → covered s ≡ true → admits s k x ≡ true → is_none k ≡ false
    by_kind (so.Level l) ki.None x c a = absurd (none_level l c a)
    by_kind so.Type ki.None x c a = cc
    by_kind _ ki.None x c a = cc
    by_kind s _ x c a = refl

has_self : (a : Sign) → has_sign a (cl.Sign a) ≡ true
has_self a = true_same the_type a a refl

-- the sign of a kid that is not there
led_over : (h : Head) (y : Sign) (ps : List Piece) (es : Sign → List Ending) (c : Class) (e : Sign → Bool) → Plainly ps → LedOver y ps →
    ((d : Sign) → c ≡ cl.Sign d → form_stops d h (e d && not (is_sign y d)) ps (es d) ≡ true) → has_sign y (next_class ps c) ≡ false
led_over h y (pi.Fixed d ∷ ps) es c e p o x = o
led_over h y (pi.Own o' ∷ ps) es c e p o x = absurd p
led_over h y [] es c e p o x = by c refl
  where
    differ : (r : Sign) (b : Bool) → has_sign y (cl.Sign r) ≡ b → c ≡ cl.Sign r → has_sign y (cl.Sign r) ≡ false
    differ r false m i = m
    differ r true m i =
        let same : y ≡ r = same_true the_type (search rules) y r m in
        let self : is_sign y r ≡ true = rw (← same) ((bytes_eq-Decides (sign_word y) (sign_word y)).1 refl) in
        let q = split (e r) (not (is_sign y r)) (x r i) in
        let no : not true ≡ true = rw self at q.1 in
        cc

    by : (k : Class) → c ≡ k → has_sign y k ≡ false
    by (cl.Sign r) i = differ r (has_sign y (cl.Sign r)) refl i
    by _ i = refl
led_over h y _ es c e p o x = absurd p

letter_no_digit : (c : ℕ) → is_letter c ≡ true → is_ascii_digit c ≡ false
letter_no_digit c i = grind (arith, nat_tests, common_steps)

-- a name begins with no digit
pub no_digit : (x : List ℕ) → is_name false x ≡ true → is_ascii_digit (slice_index x 0) ≡ false
no_digit x e = by x (word x e)
  where
    other : (b d : Bool) → (if b then false else d) ≡ true → d ≡ true
    other true d i = cc
    other false d i = i

    word : (x : List ℕ) → is_name false x ≡ true → is_word x ≡ true
    word x i = other (is_listed keywords x || is_left_out false x) (is_word x) i

    by : (x : List ℕ) → is_word x ≡ true → is_ascii_digit (slice_index x 0) ≡ false
    by [] i = refl
    by (c ∷ s) i = letter_no_digit c (split (is_letter c) (list_all is_word_byte s) i).0

read_member : (f : ℕ) (b : Bool) (p : Place) (h : Head) (ks : List Node) (w : List Token) (st : List Symbol) (gs : List Group) →
    is_own ow.Member h ≡ true → run f (full_token f (member_kind h.text) h ∷ w) (part (ru.Own ow.Member) ∷ st) (state b p h ks ∷ gs) ≡
    run f w st (state true p h ks ∷ gs)
read_member f b p h ks w st gs e =
    run_uses f (full_token f (member_kind h.text) h) w (ru.Own ow.Member) st (state b p h ks ∷ gs) (ch.Take ∷ []) []
    (takes (is_ascii_digit (slice_index h.text 0)) refl (is_number h) refl e) ∙ took b
  where
    took : (b : Bool) → run f w st (take_text (full_token f (member_kind h.text) h) (state b p h ks ∷ gs)) ≡
        run f w st (state true p h ks ∷ gs)
    took true = refl
    took false = refl

    takes : (d : Bool) → is_ascii_digit (slice_index h.text 0) ≡ d → (m : Bool) → is_number h ≡ m →
        (m || (is_name false h.text && has_text_alone h)) ≡ true →
        row (ru.Own ow.Member) (class_of (full_token f (member_kind h.text) h)) ≡ Uses (ch.Take ∷ []) []
    takes true i true j k = rw (i, class_number f h j) refl
    takes true i false j k =
        let q = split (is_name false h.text) (has_text_alone h) k in
        let n = no_digit h.text q.0 in
        cc
    takes false i true j k =
        let q = split (is_ascii_digit (slice_index h.text 0)) (nat_lt h.number (2 ^ 127)) j in
        cc
    takes false i false j k =
        let q = split (is_name false h.text) (has_text_alone h) k in
        rw (i, q.1, q.0) refl

pub read_pieces : (f n : ℕ) → ReadsTo f n → (h : Head) (m : ℕ) (ps : List Piece) (b : Bool) (ts : Nodes) → sizes_of ts ≤ n →
    are_kids m (kid_pieces ps) ts ≡ true → kids_end ps (edges ts) ≡ true → Owns h ps → (b && has_own ps) ≡ false →
    (w : List Token) (st : List Symbol) (p : Place) (ks : List Node) (gs : List Group) → (e : Sign → Bool) →
    ((d : Sign) → front w ≡ cl.Sign d → form_stops d h (e d) ps (stops_each d ts) ≡ true) → Clear ps (front w) →
    run f (pieces_tokens f h ps (spells f ts) ++ w) (symbols ps ++ st) (state b p h ks ∷ gs) ≡
    run f w st (state (b || has_own ps) p h (ks ++ plain_list f ts) ∷ gs)
unfolding is_shaped spell stops
read_pieces f n ih h m [] b none z k q o u w st p ks gs e x c = run_group f w st gs _ _ (rw (or_false' b, append-nil ks) refl)
read_pieces f n ih h m [] b (more t ts) z k q o u w st p ks gs e x c = cc
read_pieces f n ih h m (pi.Fixed d ∷ ps) b ts z k q o u w st p ks gs e x c =
    run_want f (sign_token f d) (pieces_tokens f h ps (spells f ts) ++ w) d (symbols ps ++ st) (state b p h ks ∷ gs) (class_sign f d) ∙
    read_pieces f n ih h m ps b ts z k q o u w st p ks gs (λ y. true) x c
read_pieces f n ih h m (pi.Kid s ∷ ps) b none z k q o u w st p ks gs e x c = cc
read_pieces f n ih h m (pi.Kid s ∷ ps) b (more t ts) z k q o u w st p ks gs e x c =
    let a = split (is_shaped (sort_in m s) t) (are_kids m (kid_pieces ps) ts) k in
    let sh : is_shaped s t ≡ true = subst (λ y. is_shaped y t ≡ true) (sort_kept m s c.0) a.0 in
    let q' = split (ends_before (behind_kid ps (edges ts)) (edge t)) (kids_end ps (edges ts)) q in
    let z' : size_of t ≤ n = omega arith in
    let zs : sizes_of ts ≤ n = omega arith in
    let v = pieces_tokens f h ps (spells f ts) in
    rw (append-nil (spell f t), append_assoc (spell f t) v w)
    (kid_at f n ih s t z' c.0 sh b p h ks (v ++ w) (symbols ps ++ st) gs (kid_ends f h m s t ps ts w a.1 q'.0 x c.1)
    ∙ read_pieces f n ih h m ps b ts zs a.1 q'.1 o u w st p (ks ++ plain f t ∷ []) gs (λ y. stops y t) x c.2
    ∙ run_group f w st gs _ _ (state_more f (b || has_own ps) p h ks t ts))
read_pieces f n ih h m (pi.Own ow.Name ∷ ps) b ts z k q o u w st p ks gs e x c =
    read_name f b p h ks (pieces_tokens f h ps (spells f ts) ++ w) (symbols ps ++ st) gs o.0
    ∙ read_pieces f n ih h m ps true ts z k q o.1 c.0 w st p ks gs (λ y. true) x c.1
    ∙ run_group f w st gs _ _ (rw (or_true' b) refl)
read_pieces f n ih h m (pi.Own ow.Member ∷ ps) b ts z k q o u w st p ks gs e x c =
    read_member f b p h ks (pieces_tokens f h ps (spells f ts) ++ w) (symbols ps ++ st) gs o.0
    ∙ read_pieces f n ih h m ps true ts z k q o.1 c.0 w st p ks gs (λ y. true) x c.1
    ∙ run_group f w st gs _ _ (rw (or_true' b) refl)
read_pieces f n ih h m (pi.Own ow.Label ∷ ps) true ts z k q o u w st p ks gs e x c = cc
read_pieces f n ih h m (pi.Own ow.Label ∷ ps) false ts z k q o u w st p ks gs e x c =
    let v = pieces_tokens f h ps (spells f ts) in
    let y : has_sign si.Colon (front (v ++ w)) ≡ false = rw (next_is f h ps (spells f ts) w c.0) c.1 in
    rw (append_assoc (label_tokens f h.text) v w)
    (read_label f p h ks (v ++ w) (symbols ps ++ st) gs o.0 y
    ∙ read_pieces f n ih h m ps true ts z k q o.1 c.2 w st p ks gs (λ y. true) x c.3)
read_pieces f n ih h m (pi.Optional s ∷ ps) b none z k q o u w st p ks gs e x c = cc
read_pieces f n ih h m (pi.Optional s ∷ ps) b (more t ts) z k q o u w st p ks gs e x c =
    let a = split (is_absent t || is_shaped s t) (are_kids m (kid_pieces ps) ts) k in
    let q' = split (ends_before (behind_kid ps (edges ts)) (edge t)) (kids_end ps (edges ts)) q in
    let zs : sizes_of ts ≤ n = omega arith in
    by (maybe s t a.0) a.1 q'.0 (read_pieces f n ih h m ps b ts zs a.1 q'.1 o u w st p (ks ++ plain f t ∷ []) gs
    (λ y. kid_or (e y) ((head t).kind, stops y t)) x c.4 ∙ run_group f w st gs _ _ (state_more f (b || has_own ps) p h ks t ts))
  where
    by : Maybe s t → are_kids m (kid_pieces ps) ts ≡ true → ends_before (behind_kid ps (edges ts)) (edge t) ≡ true →
        run f (pieces_tokens f h ps (spells f ts) ++ w) (symbols ps ++ st) (state b p h (ks ++ plain f t ∷ []) ∷ gs) ≡
        run f w st (state (b || has_own ps) p h (ks ++ plain_list f (more t ts)) ∷ gs) →
        run f (pieces_tokens f h (pi.Optional s ∷ ps) (spells f (more t ts)) ++ w) (symbols (pi.Optional s ∷ ps) ++ st)
        (state b p h ks ∷ gs) ≡ run f w st (state (b || has_own ps) p h (ks ++ plain_list f (more t ts)) ∷ gs)
    by (lacks l) k' e' r =
        let v = pieces_tokens f h ps (spells f ts) in
        let y : row (ru.Optional s) (front (v ++ w)) ≡ Skips (ch.Absent ∷ []) =
        rw (next_is f h ps (spells f ts) w c.1) (ap (λ z. or_skips z (ch.Absent ∷ [])) c.2) in
        rw (absent_spell f t l)
        (run_absent f (v ++ w) (ru.Optional s) (symbols ps ++ st) (state b p h ks ∷ gs) y
        ∙ run_groups f (v ++ w) (symbols ps ++ st) _ _
        (ap (λ z. add z (state b p h ks ∷ gs)) (sym (absent_plain f t l)) ∙ state_add b p h ks (plain f t) gs)
        ∙ r)
    by (has l) k' e' r =
        let v = pieces_tokens f h ps (spells f ts) in
        let z' : size_of t ≤ n = omega arith in
        let there = is_there s t c.0 l in
        let x' : (d : Sign) → front w ≡ cl.Sign d → form_stops d h (stops d t) ps (stops_each d ts) ≡ true = λ d i. rw there at x d i in
        rw (append-nil (spell f t), append_assoc (spell f t) v w)
        (run_or_none f s (ru.Optional s) (ch.Absent ∷ []) (spell f t) (v ++ w) (symbols ps ++ st) (state b p h ks ∷ gs) (λ y. refl)
        (begins f n ih s t z' c.0 l)
        ∙ kid_at f n ih s t z' c.0 l b p h ks (v ++ w) (symbols ps ++ st) gs (kid_ends f h m s t ps ts w k' e' x' c.3)
        ∙ r)
read_pieces f n ih h m (pi.Led y s ∷ ps) b none z k q o u w st p ks gs e x c = cc
read_pieces f n ih h m (pi.Led y s ∷ ps) b (more t ts) z k q o u w st p ks gs e x c =
    let a = split (is_absent t || is_shaped s t) (are_kids m (kid_pieces ps) ts) k in
    let q' = split (ends_before (behind_kid ps (edges ts)) (edge t)) (kids_end ps (edges ts)) q in
    let zs : sizes_of ts ≤ n = omega arith in
    by (maybe s t a.0) (split (covered s) (stands s) c.0) a.1 q'.0
    (read_pieces f n ih h m ps b ts zs a.1 q'.1 o u w st p (ks ++ plain f t ∷ []) gs
    (λ d. kid_or (e d && not (is_sign y d)) ((head t).kind, stops d t)) x c.4 ∙ run_group f w st gs _ _
    (state_more f (b || has_own ps) p h ks t ts))
  where
    by : Maybe s t → (covered s ≡ true) × (stands s ≡ true) → are_kids m (kid_pieces ps) ts ≡ true →
        ends_before (behind_kid ps (edges ts)) (edge t) ≡ true →
        run f (pieces_tokens f h ps (spells f ts) ++ w) (symbols ps ++ st) (state b p h (ks ++ plain f t ∷ []) ∷ gs) ≡
        run f w st (state (b || has_own ps) p h (ks ++ plain_list f (more t ts)) ∷ gs) →
        run f (pieces_tokens f h (pi.Led y s ∷ ps) (spells f (more t ts)) ++ w) (symbols (pi.Led y s ∷ ps) ++ st) (state b p h ks ∷ gs) ≡
        run f w st (state (b || has_own ps) p h (ks ++ plain_list f (more t ts)) ∷ gs)
    by (lacks l) cs k' e' r =
        let v = pieces_tokens f h ps (spells f ts) in
        let n = absent_kind t l in
        let x' : (d : Sign) → front w ≡ cl.Sign d → form_stops d h (e d && not (is_sign y d)) ps (stops_each d ts) ≡ true =
        λ d i. rw n at x d i in
        let i' = led_over h y ps (λ d. stops_each d ts) (front w) e c.1 c.2 x' in
        let o' : row (ru.Led y s) (front (v ++ w)) ≡ Skips (ch.Absent ∷ []) = rw (next_is f h ps (spells f ts) w c.1, i') refl in
        rw (led_absent f y t [] l)
        (run_absent f (v ++ w) (ru.Led y s) (symbols ps ++ st) (state b p h ks ∷ gs) o'
        ∙ run_groups f (v ++ w) (symbols ps ++ st) _ _
        (ap (λ z. add z (state b p h ks ∷ gs)) (sym (absent_plain f t l)) ∙ state_add b p h ks (plain f t) gs)
        ∙ r)
    by (has l) cs k' e' r =
        let v = pieces_tokens f h ps (spells f ts) in
        let z' : size_of t ≤ n = omega arith in
        let there = is_there s t cs.0 l in
        let x' : (d : Sign) → front w ≡ cl.Sign d → form_stops d h (stops d t) ps (stops_each d ts) ≡ true = λ d i. rw there at x d i in
        let o' : row (ru.Led y s) (class_of (sign_token f y)) ≡ Uses [] (of s ∷ []) = rw (class_sign f y, has_self y) refl in
        rw (led_kid f y s t [] cs.1 l, append-nil (spell f t), append_assoc (spell f t) v w)
        (run_uses f (sign_token f y) (spell f t ++ (v ++ w)) (ru.Led y s) (symbols ps ++ st) (state b p h ks ∷ gs) [] (of s ∷ []) o'
        ∙ kid_at f n ih s t z' cs.0 l b p h ks (v ++ w) (symbols ps ++ st) gs (kid_ends f h m s t ps ts w k' e' x' c.3)
        ∙ r)
read_pieces f n ih h m (pi.EachFollowed so.Statement si.Semicolon ∷ []) b ts z k q o u w st p ks gs e x c =
    rw (append-nil (all_led f (le.Behind si.Semicolon) (spells f ts)), or_false' b)
    (read_statements f n ih m ts z k w st (state b p h ks) gs c ∙ run_group f w st gs _ _ (state_filled f b p h ks ts))
read_pieces f n ih h m (pi.EachFollowed so.Statement si.Semicolon ∷ pi.Fixed d ∷ []) b ts z k q o u w st p ks gs e x c =
    let c' : of_row so.Statement (class_of (sign_token f d)) ≡ Fault = rw (class_sign f d) c in
    rw (append_assoc (all_led f (le.Behind si.Semicolon) (spells f ts)) (sign_token f d ∷ []) w, or_false' b)
    (read_statements f n ih m ts z k (sign_token f d ∷ w) (sy.Want d ∷ st) (state b p h ks) gs c'
    ∙ run_want f (sign_token f d) w d st _ (class_sign f d) ∙ run_group f w st gs _ _ (state_filled f b p h ks ts))
read_pieces f n ih h m (pi.Each s ∷ pi.Fixed si.RightBrace ∷ []) b ts z k q o u w st p ks gs e x c =
    let r = read_cases f n ih s m c ts z k (sign_token f si.RightBrace ∷ w) (sy.Want si.RightBrace ∷ st) (state b p h ks) gs
    (class_sign f si.RightBrace) in
    rw (append_assoc (all_led f le.Nothing (spells f ts)) (sign_token f si.RightBrace ∷ []) w, or_false' b)
    (r.runs ∙ run_want f (sign_token f si.RightBrace) w si.RightBrace st _ (class_sign f si.RightBrace) ∙ run_group f w st gs _ _
    (state_filled f b p h ks ts))
read_pieces f n ih h m (pi.More s ∷ []) b ts z k q o u w st p ks gs e x c =
    let r = read_more f n ih s si.Arrow m c.1 ts z k q w st (state b p h ks) gs c.0 in
    rw (append-nil (all_led f (le.Before si.Comma) (spells f ts)), or_false' b)
    (r.runs ∙ run_group f w st gs _ _ (state_filled f b p h ks ts))
read_pieces f n ih h m (pi.More s ∷ pi.Fixed d ∷ []) b ts z k q o u w st p ks gs e x c =
    let r = read_more f n ih s d m c ts z k q (sign_token f d ∷ w) (sy.Want d ∷ st) (state b p h ks) gs (class_sign f d) in
    rw (append_assoc (all_led f (le.Before si.Comma) (spells f ts)) (sign_token f d ∷ []) w, or_false' b)
    (r.runs ∙ run_want f (sign_token f d) w d st _ (class_sign f d) ∙ run_group f w st gs _ _ (state_filled f b p h ks ts))
read_pieces f n ih h m (pi.List s ∷ pi.Fixed d ∷ []) b ts z k q o u w st p ks gs e x c =
    rw (append_assoc (listed f (spells f ts)) (sign_token f d ∷ []) w, or_false' b)
    (read_list f n ih s d m c ts z k q (sign_token f d ∷ w) (sy.Want d ∷ st) (state b p h ks) gs (class_sign f d)
    ∙ run_want f (sign_token f d) w d st _ (class_sign f d) ∙ run_group f w st gs _ _ (state_filled f b p h ks ts))
read_pieces f n ih h m (pi.Elements s ∷ pi.Fixed si.RightBracket ∷ []) b ts z k q o u w st p ks gs e x c =
    let k' : are_kids m (pi.Elements expr ∷ []) ts ≡ true = subst (λ y. are_kids m (pi.Elements y ∷ []) ts ≡ true) c k in
    rw (append_assoc (listed f (spells f ts)) (sign_token f si.RightBracket ∷ []) w, or_false' b)
    (read_elements f n ih m ts z k' q (sign_token f si.RightBracket ∷ w) (sy.Want si.RightBracket ∷ st) (state b p h ks) gs
    (class_sign f si.RightBracket)
    ∙ run_want f (sign_token f si.RightBracket) w si.RightBracket st _ (class_sign f si.RightBracket) ∙ run_group f w st gs _ _
    (state_filled f b p h ks ts))
read_pieces f n ih h m _ b ts z k q o u w st p ks gs e x c = absurd c
