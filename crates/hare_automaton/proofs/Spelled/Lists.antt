-- What is spelled is read: kids side by side, up to a size.
use Rattle.std.proofs.Common.{◌≡◌, ℕ, ◌≤◌, List, [], ◌∷◌, ◌++◌, Bool, true, false, ◌&&◌, refl, ap, sym, ◌∙◌, arith, append_assoc, ◌==◌}
use Rattle.std.proofs.lemmas.List.{append-nil}
use Rattle.hare_tree.specs.declared.kind.Kind.{Kind}
use Rattle.hare_tree.specs.declared.kind.Kind.TheVariants as ki
use Rattle.hare_tree.specs.declared.token.TokenKind.TheVariants as tk
use Rattle.hare_tree.specs.declared.token.Suffix.{Suffix}
use Rattle.hare_tree.specs.declared.token.Suffix.TheVariants as suffix
use Rattle.hare_tree.specs.declared.token.Token.{Token}
use Rattle.hare_tree.specs.declared.form.Sign.{Sign}
use Rattle.hare_tree.specs.declared.form.Sign.TheVariants as si
use Rattle.hare_tree.specs.declared.form.Own.TheVariants as ow
use Rattle.hare_tree.specs.declared.form.Sort.{Sort}
use Rattle.hare_tree.specs.declared.form.Sort.TheVariants as so
use Rattle.hare_tree.specs.declared.form.Lead.TheVariants as le
use Rattle.hare_tree.specs.declared.form.Piece.TheVariants as pi
use Rattle.hare_tree.specs.Node.{Head, Node, Nodes, branch, none, more, head, nodes_of, size_of, sizes_of}
use Rattle.hare_tree.specs.Forms.{form_of}
use Rattle.hare_tree.specs.Levels.{level, admits}
use Rattle.hare_tree.specs.Spell.{start_of, word_token, sign_token, Spelled, stands_alone, all_led, spell, spells}
use Rattle.hare_tree.specs.Shape.{is_shaped, are_kids, is_own, is_empty, has_no_suffix, has_text_alone, is_leaf, is_none_or_comma, kid_pieces, own_of, kids_end, edges, yields_label}
use Rattle.hare_automaton.specs.declared.class.Class.{Class}
use Rattle.hare_automaton.specs.declared.class.Class.TheVariants as cl
use Rattle.hare_automaton.specs.declared.rule.Rule.{Rule}
use Rattle.hare_automaton.specs.declared.rule.Rule.TheVariants as ru
use Rattle.hare_automaton.specs.declared.rule.Symbol.{Symbol}
use Rattle.hare_automaton.specs.declared.rule.Change.{Change}
use Rattle.hare_automaton.specs.declared.rule.Change.TheVariants as ch
use Rattle.hare_automaton.specs.Classes.{class_of}
use Rattle.hare_automaton.specs.Rows.{Row, Fault, Skips, Uses, of, part, before, led_by, or_skips, has_sign}
use Rattle.hare_automaton.specs.TypeRows.{bare_row, type_row, member_row}
use Rattle.hare_automaton.specs.DeclarationRows.{of_row}
use Rattle.hare_automaton.specs.Table.{row}
use Rattle.hare_automaton.specs.Engine.{Group, begun, with_kids, head_in, add, all_changed, Outcome, Done, Fails, run, bottom}
use Rattle.hare_automaton.specs.OneTree.{plain, plains, plain_head, is_sort_of_types as typed}
use Rattle.hare_automaton.proofs.Machine.Steps.{front, run_uses, run_skip, run_absent, run_ends, run_faults, run_done, all_changed-append}
use Rattle.hare_automaton.proofs.Spelled.Paths.{split}

-- ---- trees up to a size

abbrev pub ReadsTo : ℕ → ℕ → Type 0
ReadsTo f n = (s : Sort) (t : Node) → size_of t ≤ n → typed s ≡ true → is_shaped s t ≡ true →
    (w : List Token) (st : List Symbol) (g : Group) (gs : List Group) → has_sign si.PathMark (front w) ≡ false →
    run f (spell f t ++ w) (of s ∷ st) (g ∷ gs) ≡ run f w st (add (plain f t) (g ∷ gs))

-- the kids as a list
abbrev pub plain_list : ℕ → Nodes → List Node
plain_list f none = []
plain_list f (more t ts) = plain f t ∷ plain_list f ts

pub back : (f : ℕ) (ts : Nodes) → nodes_of (plain_list f ts) ≡ plains f ts
back f none = refl
back f (more t ts) = ap (more (plain f t)) (back f ts)

-- the tree under way with further kids
abbrev pub filled : ℕ → Group → Nodes → Group
filled f g ts = with_kids g (g.kids ++ plain_list f ts)

pub fill_more : (f : ℕ) (g : Group) (t : Node) (ts : Nodes) → filled f (with_kids g (g.kids ++ plain f t ∷ [])) ts ≡ filled f g (more t ts)
fill_more f g t ts = ap (with_kids g) (append_assoc g.kids (plain f t ∷ []) (plain_list f ts))

pub fill_none : (f : ℕ) (g : Group) → filled f g none ≡ g
fill_none f g = ap (with_kids g) (append-nil g.kids)

pub run_group : (f : ℕ) (w : List Token) (st : List Symbol) (gs : List Group) (g g' : Group) → g ≡ g' →
    run f w st (g ∷ gs) ≡ run f w st (g' ∷ gs)
run_group f w st gs g g' e = ap (λ x. run f w st (x ∷ gs)) e

-- ---- leaves that say nothing

pub no_text : (x : List ℕ) → is_empty x ≡ true → x ≡ []
no_text [] e = refl
no_text (c ∷ x) e = cc

pub no_suffix : (q : Suffix) → has_no_suffix q ≡ true → q ≡ suffix.None
no_suffix suffix.None e = refl
no_suffix _ e = cc

pub record Alone (h : Head) : Type 0 where
  pub number : h.number ≡ 0
  pub suffix : h.suffix ≡ suffix.None

pub alone : (h : Head) → has_text_alone h ≡ true → Alone h
alone h e =
    let p = split (h.number == 0) (has_no_suffix h.suffix) e in
    record { number = grind (arith, p.0); suffix = no_suffix h.suffix p.1 }

-- the head of a tree with nothing of its own
pub nothing_head : (f : ℕ) (h : Head) (k : Kind) → h.kind ≡ k → is_own ow.Nothing h ≡ true →
    plain_head f h ≡ head_in k (begun (start_of f) [])
nothing_head f h k i e =
    let p = split (is_empty h.text) (has_text_alone h) e in
    let q = alone h p.1 in
    rw (i, no_text h.text p.0, q.number, q.suffix) refl

-- the head of a tree with a text alone
pub text_head : (f : ℕ) (h : Head) (k : Kind) → h.kind ≡ k → has_text_alone h ≡ true →
    plain_head f h ≡ record { kind = k; place = start_of f; text = h.text; number = 0; suffix = suffix.None }
text_head f h k i e =
    let q = alone h e in
    rw (i, q.number, q.suffix) refl

-- ---- the first token of a tree

pub record Begins (s : Sort) (u : List Token) : Type 0 where
  pub head : Token
  pub tail : List Token
  pub changes : List Change
  pub symbols : List Symbol
  pub is : u ≡ head ∷ tail
  pub uses : of_row s (class_of head) ≡ Uses changes symbols

junk_faults : (s : Sort) → typed s ≡ true → of_row s cl.Junk ≡ Fault
junk_faults so.Type e = refl
junk_faults so.BareType e = refl
junk_faults so.Member e = refl
junk_faults so.TypePath e = refl
junk_faults so.Length e = refl
junk_faults so.StructField e = refl
junk_faults _ e = cc

abbrev pub is_skips : Row → Bool
is_skips Fault = false
is_skips (Skips cs) = true
is_skips (Uses cs ss) = false

pub bare_never : (c : Class) → is_skips (bare_row c) ≡ false
bare_never cl.Scalar = refl
bare_never cl.Name = refl
bare_never (cl.Sign si.Size) = refl
bare_never (cl.Sign _) = refl
bare_never _ = refl

pub type_never : (c : Class) → is_skips (type_row c) ≡ false
type_never (cl.Sign si.Bang) = refl
type_never c = bare_never c

member_never : (c : Class) → is_skips (member_row c) ≡ false
member_never (cl.Sign si.Dots) = refl
member_never c = type_never c

name_never : (c : Class) → is_skips (of_row so.TypePath c) ≡ false
name_never cl.Name = refl
name_never _ = refl

length_never : (c : Class) → is_skips (of_row so.Length c) ≡ false
length_never cl.Name = refl
length_never cl.Number = refl
length_never _ = refl

field_never : (c : Class) → is_skips (of_row so.StructField c) ≡ false
field_never cl.Name = refl
field_never _ = refl

-- a tree that is wanted is never passed over
pub never_skips : (s : Sort) (c : Class) → typed s ≡ true → is_skips (of_row s c) ≡ false
never_skips so.Type c e = type_never c
never_skips so.BareType c e = bare_never c
never_skips so.Member c e = member_never c
never_skips so.TypePath c e = name_never c
never_skips so.Length c e = length_never c
never_skips so.StructField c e = field_never c
never_skips _ c e = cc

pub done_not_fails : (o : Outcome) (u v : List Token) (hs : List Group) → o ≡ Done u hs → o ≡ Fails v → ⊥
done_not_fails o u v hs e d = cc

-- what stands behind all tokens
abbrev pub stop : ℕ → Token
stop f = word_token f tk.End []

pub begins : (f n : ℕ) → ReadsTo f n → (s : Sort) (t : Node) → size_of t ≤ n → typed s ≡ true → is_shaped s t ≡ true → Begins s (spell f t)
begins f n ih s t z l h =
    first (spell f t) (ih s t z l h (stop f ∷ []) [] (begun (start_of 0) []) [] refl ∙ run_done f (stop f) [] (add (plain f t) bottom))
  where
    by_row : (t0 : Token) (u : List Token) (hs : List Group) (r : Row) → of_row s (class_of t0) ≡ r → is_skips r ≡ false →
        run f (t0 ∷ (u ++ stop f ∷ [])) (of s ∷ []) bottom ≡ Done (stop f ∷ []) hs → Begins s (t0 ∷ u)
    by_row t0 u hs Fault e q d = absurd (done_not_fails _ _ _ _ d (run_faults f t0 _ (ru.Of s) [] bottom e))
    by_row t0 u hs (Skips cs) e q d = cc
    by_row t0 u hs (Uses cs ss) e q d = record { head = t0; tail = u; changes = cs; symbols = ss; is = refl; uses = e }

    first : (u : List Token) → run f (u ++ stop f ∷ []) (of s ∷ []) bottom ≡ Done (stop f ∷ []) (add (plain f t) bottom) → Begins s u
    first [] d = absurd (done_not_fails _ _ _ _ d (run_faults f (stop f) [] (ru.Of s) [] bottom (junk_faults s l)))
    first (t0 ∷ u) d = by_row t0 u _ (of_row s (class_of t0)) refl (never_skips s (class_of t0) l) d

-- where a tree begins, a rule that reads one and more is the tree and more, after some changes
pub run_optional : (f : ℕ) (s : Sort) (n : Rule) (ds other : List Change) (ss : List Symbol) (u v : List Token) (st : List Symbol)
    (gs : List Group) → ((c : Class) → row n c ≡ or_skips (led_by ds (before (of_row s c) ss)) other) → (b : Begins s u) →
    run f (u ++ v) (part n ∷ st) gs ≡ run f (u ++ v) (of s ∷ (ss ++ st)) (all_changed f b.head ds gs)
run_optional f s n ds other ss u v st gs is b =
    rw b.is
    (run_uses f b.head (b.tail ++ v) n st gs (ds ++ b.changes) (b.symbols ++ ss)
    (is (class_of b.head) ∙ ap (λ r. or_skips (led_by ds (before r ss)) other) b.uses)
    ∙ (rw (append_assoc b.symbols ss st, all_changed-append f b.head ds b.changes gs) refl)
    ∙ sym (run_uses f b.head (b.tail ++ v) (ru.Of s) (ss ++ st) (all_changed f b.head ds gs) b.changes b.symbols b.uses))

-- the same where nothing else may stand there
pub run_before : (f : ℕ) (s : Sort) (n : Rule) (ss : List Symbol) (u v : List Token) (st : List Symbol) (gs : List Group) →
    (b : Begins s u) → row n (class_of b.head) ≡ before (of_row s (class_of b.head)) ss →
    run f (u ++ v) (part n ∷ st) gs ≡ run f (u ++ v) (of s ∷ (ss ++ st)) gs
run_before f s n ss u v st gs b is =
    rw b.is
    (run_uses f b.head (b.tail ++ v) n st gs b.changes (b.symbols ++ ss) (is ∙ ap (λ r. before r ss) b.uses)
    ∙ (rw (append_assoc b.symbols ss st) refl)
    ∙ sym (run_uses f b.head (b.tail ++ v) (ru.Of s) (ss ++ st) gs b.changes b.symbols b.uses))

-- ---- what a shaped tree says

pub record Shape (s : Sort) (h : Head) (ts : Nodes) : Type 0 where
  pub admitted : admits s h.kind h.text ≡ true
  pub own : is_own (own_of (form_of h.kind)) h ≡ true
  pub kids : are_kids (level h.kind h.text) (kid_pieces (form_of h.kind)) ts ≡ true

pub shape : (s : Sort) (h : Head) (ts : Nodes) → is_shaped s (branch h ts) ≡ true → Shape s h ts
unfolding is_shaped
shape s h ts e =
    let a = admits s h.kind h.text in
    let b = is_own (own_of (form_of h.kind)) h in
    let c = are_kids (level h.kind h.text) (kid_pieces (form_of h.kind)) ts in
    let d = kids_end (form_of h.kind) (edges ts) in
    let p = split (a && b && c && d) (yields_label h ts) e in
    let q = split (a && b && c) d p.0 in
    let r = split (a && b) c q.0 in
    let v = split a b r.0 in
    record { admitted = v.0; own = v.1; kids = r.1 }

-- ---- lists

-- no tree of these sorts is nothing, a comma or \`...\`
pub not_alone : (s : Sort) (h : Head) (ts : Nodes) → typed s ≡ true → is_shaped s (branch h ts) ≡ true → stands_alone h.kind ≡ false
not_alone s h ts l e = by_kind s h.kind h.text l (shape s h ts e).admitted
  where
    by_kind : (s : Sort) (k : Kind) (x : List ℕ) → typed s ≡ true → admits s k x ≡ true → stands_alone k ≡ false
    by_kind so.Type ki.None x l e = cc
    by_kind so.BareType ki.None x l e = cc
    by_kind so.Member ki.None x l e = cc
    by_kind so.TypePath ki.None x l e = cc
    by_kind so.Length ki.None x l e = cc
    by_kind so.StructField ki.None x l e = cc
    by_kind so.Type ki.TrailingComma x l e = cc
    by_kind so.BareType ki.TrailingComma x l e = cc
    by_kind so.Member ki.TrailingComma x l e = cc
    by_kind so.TypePath ki.TrailingComma x l e = cc
    by_kind so.Length ki.TrailingComma x l e = cc
    by_kind so.StructField ki.TrailingComma x l e = cc
    by_kind so.Type ki.Dots x l e = cc
    by_kind so.BareType ki.Dots x l e = cc
    by_kind so.Member ki.Dots x l e = cc
    by_kind so.TypePath ki.Dots x l e = cc
    by_kind so.Length ki.Dots x l e = cc
    by_kind so.StructField ki.Dots x l e = cc
    by_kind _ ki.None x l e = cc
    by_kind _ ki.TrailingComma x l e = cc
    by_kind _ ki.Dots x l e = cc
    by_kind _ _ x l e = refl

-- a kid with a sign before it
pub led_kid : (f : ℕ) (a : Sign) (s : Sort) (t : Node) (us : List Spelled) → typed s ≡ true → is_shaped s t ≡ true →
    all_led f (le.Before a) (((head t).kind, spell f t) ∷ us) ≡ sign_token f a ∷ (spell f t ++ all_led f (le.Before a) us)
led_kid f a s (branch h ts) us l e = rw (not_alone s h ts l e) refl

-- the sign that closes a list of a sort
pub record Closes (s : Sort) (d : Sign) : Type 0 where
  pub sort : typed s ≡ true
  pub faults : of_row s (cl.Sign d) ≡ Fault
  pub mark : has_sign si.PathMark (cl.Sign d) ≡ false
  pub comma : has_sign si.Comma (cl.Sign d) ≡ false
  pub bar : has_sign si.Bar (cl.Sign d) ≡ false

-- ---- `{"," kid} [","]`, before the sign that closes it

comma_ends : (s : Sort) (d : Sign) (c : Class) → Closes s d → c ≡ cl.Sign d → row (ru.More s) c ≡ Skips (ch.Absent ∷ [])
comma_ends s d c q e = rw (e, q.comma) refl

last_comma : (s : Sort) (d : Sign) (c : Class) → Closes s d → c ≡ cl.Sign d →
    row (ru.BehindComma s) c ≡ Skips (ch.Close ki.TrailingComma ∷ [])
last_comma s d c q e = rw (e, q.faults) refl

-- a list that ends: the next class is no `::`, and the kids are read
pub record Read (f : ℕ) (n : Rule) (u w : List Token) (ts : Nodes) (st : List Symbol) (g : Group) (gs : List Group) : Type 0 where
  pub next : has_sign si.PathMark (front (u ++ w)) ≡ false
  pub runs : run f (u ++ w) (part n ∷ st) (g ∷ gs) ≡ run f w st (filled f g ts ∷ gs)

-- the last kid: a comma, or nothing
more_last : (f : ℕ) (s : Sort) (d : Sign) (h : Head) (w : List Token) (st : List Symbol) (g : Group) (gs : List Group) → Closes s d →
    front w ≡ cl.Sign d → is_leaf is_none_or_comma (branch h none) ≡ true →
    Read f (ru.More s) (all_led f (le.Before si.Comma) (spells f (more (branch h none) none))) w (more (branch h none) none) st g gs
unfolding spell
more_last f s d h w st g gs q e l =
    let p = split (is_none_or_comma h.kind) (is_own ow.Nothing h) l in
    by h.kind refl p.0 p.1
  where
    by : (k : Kind) → h.kind ≡ k → is_none_or_comma k ≡ true → is_own ow.Nothing h ≡ true →
        Read f (ru.More s) (all_led f (le.Before si.Comma) (spells f (more (branch h none) none))) w (more (branch h none) none) st g gs
    by ki.None i a b =
        let m : has_sign si.PathMark (front w) ≡ false = rw e q.mark in
        let r = run_absent f w (ru.More s) st (g ∷ gs) (comma_ends s d (front w) q e) in
        let x : all_led f (le.Before si.Comma) (spells f (more (branch h none) none)) ≡ [] = rw i refl in
        record { next = rw x m; runs = rw x (r ∙ ap (λ y. run f w st (add (branch y none) (g ∷ gs))) (sym (nothing_head f h ki.None i b))) }
    by ki.TrailingComma i a b =
        let r = run_uses f (sign_token f si.Comma) w (ru.More s) st (g ∷ gs) (ch.Open ∷ []) (part (ru.BehindComma s) ∷ []) refl ∙ run_ends f
        w (ru.BehindComma s) ki.TrailingComma st _ (last_comma s d (front w) q e) in
        let x : all_led f (le.Before si.Comma) (spells f (more (branch h none) none)) ≡ sign_token f si.Comma ∷ [] = rw i refl in
        record {
          next = rw x refl;
          runs = rw x
              (r ∙ ap (λ y. run f w st (add (branch y none) (g ∷ gs))) (sym (nothing_head f h ki.TrailingComma i b)));
        }
    by _ i a b = cc

pub read_more : (f n : ℕ) → ReadsTo f n → (s : Sort) (d : Sign) (m : ℕ) → Closes s d → (ts : Nodes) → sizes_of ts ≤ n →
    are_kids m (pi.More s ∷ []) ts ≡ true → (w : List Token) (st : List Symbol) (g : Group) (gs : List Group) → front w ≡ cl.Sign d →
    Read f (ru.More s) (all_led f (le.Before si.Comma) (spells f ts)) w ts st g gs
unfolding is_shaped spell
read_more f n ih s d m q none z h w st g gs e = cc
read_more f n ih s d m q (more (branch h' none) none) z h w st g gs e = more_last f s d h' w st g gs q e h
read_more f n ih s d m q (more (branch h' (more t' ts')) none) z h w st g gs e = cc
read_more f n ih s d m q (more t (more u ts)) z h w st g gs e =
    let p = split (is_shaped s t) (are_kids m (pi.More s ∷ []) (more u ts)) h in
    let z' : size_of t ≤ n = omega arith in
    let zs : sizes_of (more u ts) ≤ n = omega arith in
    let r = read_more f n ih s d m q (more u ts) zs p.1 w st (with_kids g (g.kids ++ plain f t ∷ [])) gs e in
    let v = all_led f (le.Before si.Comma) (spells f (more u ts)) in
    let x : all_led f (le.Before si.Comma) (spells f (more t (more u ts))) ≡ sign_token f si.Comma ∷ (spell f t ++ v) =
    led_kid f si.Comma s t (spells f (more u ts)) q.sort p.0 in
    let b = begins f n ih s t z' q.sort p.0 in
    record {
      next = rw x refl;
      runs = rw (x, append_assoc (spell f t) v w)
          (run_uses f (sign_token f si.Comma) (spell f t ++ (v ++ w)) (ru.More s) st (g ∷ gs) (ch.Open ∷ []) (part (ru.BehindComma s) ∷ [])
          refl
          ∙ run_optional f s (ru.BehindComma s) (ch.Drop ∷ []) (ch.Close ki.TrailingComma ∷ []) (part (ru.More s) ∷ []) (spell f t) (v ++ w)
          st (begun (start_of f) [] ∷ g ∷ gs) (λ c. refl) b
          ∙ ih s t z' q.sort p.0 (v ++ w) _ g gs r.next
          ∙ r.runs
          ∙ run_group f w st gs _ _ (fill_more f g t (more u ts)));
    }

-- ---- `{"|" kid}`, before the sign that closes it

pub read_each_led : (f n : ℕ) → ReadsTo f n → (s : Sort) (d : Sign) (m : ℕ) → Closes s d → (ts : Nodes) → sizes_of ts ≤ n →
    are_kids m (pi.EachLed si.Bar s ∷ []) ts ≡ true → (w : List Token) (st : List Symbol) (g : Group) (gs : List Group) →
    front w ≡ cl.Sign d → Read f (ru.EachLed si.Bar s) (all_led f (le.Before si.Bar) (spells f ts)) w ts st g gs
unfolding is_shaped spell
read_each_led f n ih s d m q none z h w st g gs e =
    let ends : row (ru.EachLed si.Bar s) (front w) ≡ Skips [] = rw (e, q.bar) refl in
    record {
      next = rw e q.mark;
      runs = run_skip f w (ru.EachLed si.Bar s) st (g ∷ gs) ends ∙ run_group f w st gs _ _ (sym (fill_none f g));
    }
read_each_led f n ih s d m q (more t ts) z h w st g gs e =
    let p = split (is_shaped s t) (are_kids m (pi.EachLed si.Bar s ∷ []) ts) h in
    let z' : size_of t ≤ n = omega arith in
    let zs : sizes_of ts ≤ n = omega arith in
    let r = read_each_led f n ih s d m q ts zs p.1 w st (with_kids g (g.kids ++ plain f t ∷ [])) gs e in
    let v = all_led f (le.Before si.Bar) (spells f ts) in
    let x : all_led f (le.Before si.Bar) (spells f (more t ts)) ≡ sign_token f si.Bar ∷ (spell f t ++ v) =
    led_kid f si.Bar s t (spells f ts) q.sort p.0 in
    record {
      next = rw x refl;
      runs = rw (x, append_assoc (spell f t) v w)
          (run_uses f (sign_token f si.Bar) (spell f t ++ (v ++ w)) (ru.EachLed si.Bar s) st (g ∷ gs) []
          (of s ∷ part (ru.EachLed si.Bar s) ∷ []) refl
          ∙ ih s t z' q.sort p.0 (v ++ w) _ g gs r.next
          ∙ r.runs
          ∙ run_group f w st gs _ _ (fill_more f g t ts));
    }
