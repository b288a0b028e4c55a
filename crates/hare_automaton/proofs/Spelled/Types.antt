-- Types are read from their tokens, kind by kind.
use Rattle.std.proofs.Common.{◌≡◌, ℕ, zero, suc, ◌≤◌, List, [], ◌∷◌, ◌++◌, Bool, true, false, refl, ap, sym, ◌∙◌, subst, arith, append_assoc, ◌⊎◌, inl, inr}
use Rattle.std.proofs.lemmas.List.{append-nil}
use Rattle.hare_tree.specs.declared.kind.Kind.{Kind}
use Rattle.hare_tree.specs.declared.kind.Kind.TheVariants as ki
use Rattle.hare_tree.specs.declared.token.TokenKind.TheVariants as tk
use Rattle.hare_tree.specs.declared.token.Token.{Token}
use Rattle.hare_tree.specs.declared.form.Sign.{Sign}
use Rattle.hare_tree.specs.declared.form.Sign.TheVariants as si
use Rattle.hare_tree.specs.declared.form.Own.TheVariants as ow
use Rattle.hare_tree.specs.declared.form.Sort.{Sort}
use Rattle.hare_tree.specs.declared.form.Sort.TheVariants as so
use Rattle.hare_tree.specs.declared.form.Piece.{Piece}
use Rattle.hare_tree.specs.declared.form.Piece.TheVariants as pi
use Rattle.hare_tree.specs.Node.{Head, Nodes, branch, none, more, nodes_of, size_of, sizes_of}
use Rattle.hare_tree.specs.Words.{is_listed}
use Rattle.hare_tree.specs.Forms.{form_of}
use Rattle.hare_tree.specs.Levels.{is_name, level, admits, is_bare_type}
use Rattle.hare_tree.specs.Spell.{start_of, word_token, sign_token, full_token, parts, path_tokens, pieces_tokens, spell, spells}
use Rattle.hare_tree.specs.Shape.{is_shaped, are_kids, is_own, has_text_alone, are_names, scalars, kid_pieces, own_of}
use Rattle.hare_automaton.specs.declared.class.Class.{Class}
use Rattle.hare_automaton.specs.declared.class.Class.TheVariants as cl
use Rattle.hare_automaton.specs.declared.rule.Rule.TheVariants as ru
use Rattle.hare_automaton.specs.declared.rule.Symbol.{Symbol}
use Rattle.hare_automaton.specs.declared.rule.Symbol.TheVariants as sy
use Rattle.hare_automaton.specs.declared.rule.Change.{Change}
use Rattle.hare_automaton.specs.declared.rule.Change.TheVariants as ch
use Rattle.hare_automaton.specs.Classes.{class_of}
use Rattle.hare_automaton.specs.Rows.{Uses, of, part, before, has_sign, symbols, rest_of, opens, leaf, names, path}
use Rattle.hare_automaton.specs.DeclarationRows.{of_row}
use Rattle.hare_automaton.specs.Table.{row}
use Rattle.hare_automaton.specs.Engine.{Group, begun, add, run}
use Rattle.hare_automaton.specs.OneTree.{plain, plain_head, is_sort_of_types as typed}
use Rattle.hare_automaton.proofs.Machine.Steps.{front, run_close, run_uses}
use Rattle.hare_automaton.proofs.Machine.Tokens.{class_sign, class_name, class_number, scalar_rows}
use Rattle.hare_automaton.proofs.Spelled.Paths.{split, texted, read_path}
use Rattle.hare_automaton.proofs.Spelled.Lists.{ReadsTo, plain_list, back, filled, Shape, shape, Closes, nothing_head, text_head, begins, run_before}
use Rattle.hare_automaton.proofs.Spelled.Pieces.{Clear, read_pieces}

abbrev Claim : ℕ → Sort → Head → Nodes → List Token → List Symbol → Group → List Group → Type 0
Claim f s h ts w st g gs = run f (spell f (branch h ts) ++ w) (of s ∷ st) (g ∷ gs) ≡ run f w st (add (plain f (branch h ts)) (g ∷ gs))

-- ---- leaves

no_kids : (m : ℕ) (ts : Nodes) → are_kids m [] ts ≡ true → ts ≡ none
unfolding is_shaped
no_kids m none e = refl
no_kids m (more t ts) e = cc

kids_as : (s : Sort) (h : Head) (ts : Nodes) (ps : List Piece) → form_of h.kind ≡ ps → Shape s h ts →
    are_kids (level h.kind h.text) (kid_pieces ps) ts ≡ true
kids_as s h ts ps e p = subst (λ x. are_kids (level h.kind h.text) (kid_pieces x) ts ≡ true) e p.kids

own_as : (s : Sort) (h : Head) (ts : Nodes) (ps : List Piece) → form_of h.kind ≡ ps → Shape s h ts → is_own (own_of ps) h ≡ true
own_as s h ts ps e p = subst (λ x. is_own (own_of x) h ≡ true) e p.own

admits_as : (s : Sort) (h : Head) (ts : Nodes) (k : Kind) → h.kind ≡ k → Shape s h ts → admits s k h.text ≡ true
admits_as s h ts k e p = subst (λ x. admits s x h.text ≡ true) e p.admitted

-- the tree is added
put : (f : ℕ) (h : Head) (ts : Nodes) (y : Head) (w : List Token) (st : List Symbol) (g : Group) (gs : List Group) → plain_head f h ≡ y →
    ts ≡ none → run f w st (add (branch y none) (g ∷ gs)) ≡ run f w st (add (plain f (branch h ts)) (g ∷ gs))
put f h ts y w st g gs e i = rw (i, ← e) refl

scalar_row : (s : Sort) (x : List ℕ) → typed s ≡ true → admits s ki.TypeScalar x ≡ true → is_listed scalars x ≡ true →
    row (ru.Of s) (class_of (word_token 0 tk.Keyword x)) ≡ leaf ki.TypeScalar
scalar_row so.BareType x l a e = (scalar_rows x e).0
scalar_row so.Type x l a e = (scalar_rows x e).1
scalar_row so.Member x l a e = (scalar_rows x e).2
scalar_row so.TypePath x l a e = cc
scalar_row so.Length x l a e = cc
scalar_row so.StructField x l a e = cc
scalar_row _ x l a e = cc

scalar_reads : (f : ℕ) (s : Sort) (h : Head) (ts : Nodes) → h.kind ≡ ki.TypeScalar → typed s ≡ true → Shape s h ts →
    (w : List Token) (st : List Symbol) (g : Group) (gs : List Group) → Claim f s h ts w st g gs
unfolding spell
scalar_reads f s h ts i l p w st g gs =
    let e : form_of h.kind ≡ form_of ki.TypeScalar = ap form_of i in
    let own = split (is_listed scalars h.text) (has_text_alone h) (own_as s h ts _ e p) in
    let r = scalar_row s h.text l (admits_as s h ts ki.TypeScalar i p) own.0 in
    rw e (run_uses f (word_token f tk.Keyword h.text) w (ru.Of s) st (g ∷ gs) (ch.Leaf ki.TypeScalar ∷ []) [] r
    ∙ put f h ts _ w st g gs (text_head f h ki.TypeScalar i own.1) (no_kids _ ts (kids_as s h ts _ e p)))

number_reads : (f : ℕ) (s : Sort) (h : Head) (ts : Nodes) → h.kind ≡ ki.Number → row (ru.Of s) cl.Number ≡ leaf ki.Number → Shape s h ts →
    (w : List Token) (st : List Symbol) (g : Group) (gs : List Group) → Claim f s h ts w st g gs
unfolding spell
number_reads f s h ts i l p w st g gs =
    let e : form_of h.kind ≡ form_of ki.Number = ap form_of i in
    let r : row (ru.Of s) (class_of (full_token f tk.Number h)) ≡ leaf ki.Number = rw (class_number f h (own_as s h ts _ e p)) l in
    let y : plain_head f h ≡ record { kind = ki.Number; place = start_of f; text = h.text; number = h.number; suffix = h.suffix } =
    rw i refl in
    rw e (run_uses f (full_token f tk.Number h) w (ru.Of s) st (g ∷ gs) (ch.Leaf ki.Number ∷ []) [] r
    ∙ put f h ts _ w st g gs y (no_kids _ ts (kids_as s h ts _ e p)))

-- a path
path_reads : (f : ℕ) (s : Sort) (k : Kind) (h : Head) (ts : Nodes) → h.kind ≡ k → form_of k ≡ pi.Own ow.Path ∷ [] →
    row (ru.Of s) cl.Name ≡ path k → Shape s h ts → (w : List Token) (st : List Symbol) (g : Group) (gs : List Group) →
    has_sign si.PathMark (front w) ≡ false → Claim f s h ts w st g gs
unfolding spell
path_reads f s k h ts i q r p w st g gs m =
    let e : form_of h.kind ≡ pi.Own ow.Path ∷ [] = ap form_of i ∙ q in
    let own = split (are_names false (parts h.text)) (has_text_alone h) (own_as s h ts _ e p) in
    rw (e, append-nil (path_tokens f (parts h.text)))
    (read_path f (ru.Of s) k [] h.text own.0 r w st (g ∷ gs) m
    ∙ put f h ts _ w st g gs (text_head f h k i own.1) (no_kids _ ts (kids_as s h ts _ e p)))

-- ---- forms that begin with a sign

-- the tree under way is whole
closed : (f : ℕ) (h : Head) (k : Kind) (ts : Nodes) → h.kind ≡ k → is_own ow.Nothing h ≡ true →
    (w : List Token) (st : List Symbol) (g : Group) (gs : List Group) →
    run f w (sy.Close k ∷ st) (filled f (begun (start_of f) []) ts ∷ g ∷ gs) ≡ run f w st (add (plain f (branch h ts)) (g ∷ gs))
closed f h k ts i e w st g gs =
    run_close f w k st _ ∙ ap (λ y. run f w st (add (branch y (nodes_of (plain_list f ts))) (g ∷ gs))) (sym (nothing_head f h k i e)) ∙ ap
    (λ y. run f w st (add (branch (plain_head f h) y) (g ∷ gs))) (back f ts)

-- pieces, and the end of their form
rest_reads : (f n : ℕ) → ReadsTo f n → (h : Head) (m : ℕ) (ps : List Piece) (k : Kind) (ts : Nodes) → sizes_of ts ≤ n →
    are_kids m (kid_pieces ps) ts ≡ true → (w : List Token) (st : List Symbol) (g : Group) (gs : List Group) → Clear ps (front w) →
    run f (pieces_tokens f h ps (spells f ts) ++ w) ((symbols ps ++ sy.Close k ∷ []) ++ st) (g ∷ gs) ≡
    run f w (sy.Close k ∷ st) (filled f g ts ∷ gs)
rest_reads f n ih h m ps k ts z a w st g gs c =
    ap (λ x. run f (pieces_tokens f h ps (spells f ts) ++ w) x (g ∷ gs)) (append_assoc (symbols ps) (sy.Close k ∷ []) st) ∙ read_pieces f n
    ih h m ps ts z a w (sy.Close k ∷ st) g gs c

opens_reads : (f n : ℕ) → ReadsTo f n → (s : Sort) (k : Kind) (d : Sign) (ps : List Piece) (h : Head) (ts : Nodes) → sizes_of ts ≤ n →
    h.kind ≡ k → form_of k ≡ pi.Fixed d ∷ ps → own_of ps ≡ ow.Nothing → row (ru.Of s) (cl.Sign d) ≡ opens k → Shape s h ts →
    (w : List Token) (st : List Symbol) (g : Group) (gs : List Group) → Clear ps (front w) → Claim f s h ts w st g gs
unfolding spell
opens_reads f n ih s k d ps h ts z i q o r p w st g gs c =
    let e : form_of h.kind ≡ pi.Fixed d ∷ ps = ap form_of i ∙ q in
    let own : is_own ow.Nothing h ≡ true = subst (λ x. is_own x h ≡ true) o (own_as s h ts _ e p) in
    let r' : row (ru.Of s) (class_of (sign_token f d)) ≡ Uses (ch.Open ∷ []) (symbols ps ++ sy.Close k ∷ []) =
    rw (class_sign f d) (r ∙ (rw q refl)) in
    rw e (run_uses f (sign_token f d) (pieces_tokens f h ps (spells f ts) ++ w) (ru.Of s) st (g ∷ gs) (ch.Open ∷ [])
    (symbols ps ++ sy.Close k ∷ []) r'
    ∙ rest_reads f n ih h _ ps k ts z (kids_as s h ts _ e p) w st (begun (start_of f) []) (g ∷ gs) c
    ∙ closed f h k ts i own w st g gs)

-- ---- rows of types

row_pointer : (s : Sort) (x : List ℕ) → typed s ≡ true → admits s ki.TypePointer x ≡ true →
    row (ru.Of s) (cl.Sign si.Star) ≡ opens ki.TypePointer
row_pointer so.Type x l a = refl
row_pointer so.BareType x l a = refl
row_pointer so.Member x l a = refl
row_pointer so.TypePath x l a = cc
row_pointer so.Length x l a = cc
row_pointer so.StructField x l a = cc
row_pointer _ x l a = cc

row_nullable : (s : Sort) (x : List ℕ) → typed s ≡ true → admits s ki.TypeNullable x ≡ true →
    row (ru.Of s) (cl.Sign si.Nullable) ≡ opens ki.TypeNullable
row_nullable so.Type x l a = refl
row_nullable so.BareType x l a = refl
row_nullable so.Member x l a = refl
row_nullable so.TypePath x l a = cc
row_nullable so.Length x l a = cc
row_nullable so.StructField x l a = cc
row_nullable _ x l a = cc

row_struct : (s : Sort) (x : List ℕ) → typed s ≡ true → admits s ki.TypeStruct x ≡ true →
    row (ru.Of s) (cl.Sign si.Struct) ≡ opens ki.TypeStruct
row_struct so.Type x l a = refl
row_struct so.BareType x l a = refl
row_struct so.Member x l a = refl
row_struct so.TypePath x l a = cc
row_struct so.Length x l a = cc
row_struct so.StructField x l a = cc
row_struct _ x l a = cc

row_error : (s : Sort) (x : List ℕ) → typed s ≡ true → admits s ki.TypeError x ≡ true → row (ru.Of s) (cl.Sign si.Bang) ≡ opens ki.TypeError
row_error so.Type x l a = refl
row_error so.BareType x l a = cc
row_error so.Member x l a = refl
row_error so.TypePath x l a = cc
row_error so.Length x l a = cc
row_error so.StructField x l a = cc
row_error _ x l a = cc

row_spread : (s : Sort) (x : List ℕ) → typed s ≡ true → admits s ki.Spread x ≡ true → row (ru.Of s) (cl.Sign si.Dots) ≡ opens ki.Spread
row_spread so.Type x l a = cc
row_spread so.BareType x l a = cc
row_spread so.Member x l a = refl
row_spread so.TypePath x l a = cc
row_spread so.Length x l a = cc
row_spread so.StructField x l a = cc
row_spread _ x l a = cc

row_bracket : (s : Sort) (k : Kind) (x : List ℕ) → (k ≡ ki.TypeSlice) ⊎ (k ≡ ki.TypeArray) → typed s ≡ true → admits s k x ≡ true →
    row (ru.Of s) (cl.Sign si.LeftBracket) ≡ Uses (ch.Open ∷ []) (part ru.InBracket ∷ [])
row_bracket so.Type k x o l a = refl
row_bracket so.BareType k x o l a = refl
row_bracket so.Member k x o l a = refl
row_bracket so.TypePath k x (inl o) l a = cc
row_bracket so.TypePath k x (inr o) l a = cc
row_bracket so.Length k x (inl o) l a = cc
row_bracket so.Length k x (inr o) l a = cc
row_bracket so.StructField k x (inl o) l a = cc
row_bracket so.StructField k x (inr o) l a = cc
row_bracket _ k x o l a = cc

row_paren : (s : Sort) (k : Kind) (x : List ℕ) → (k ≡ ki.TypeTuple) ⊎ (k ≡ ki.TypeUnion) → typed s ≡ true → admits s k x ≡ true →
    row (ru.Of s) (cl.Sign si.LeftParen) ≡ Uses (ch.Open ∷ []) (part ru.FirstMember ∷ [])
row_paren so.Type k x o l a = refl
row_paren so.BareType k x o l a = refl
row_paren so.Member k x o l a = refl
row_paren so.TypePath k x (inl o) l a = cc
row_paren so.TypePath k x (inr o) l a = cc
row_paren so.Length k x (inl o) l a = cc
row_paren so.Length k x (inr o) l a = cc
row_paren so.StructField k x (inl o) l a = cc
row_paren so.StructField k x (inr o) l a = cc
row_paren _ k x o l a = cc

row_type_path : (s : Sort) (x : List ℕ) → typed s ≡ true → admits s ki.TypePath x ≡ true → row (ru.Of s) cl.Name ≡ path ki.TypePath
row_type_path so.Type x l a = refl
row_type_path so.BareType x l a = refl
row_type_path so.Member x l a = refl
row_type_path so.TypePath x l a = refl
row_type_path so.Length x l a = cc
row_type_path so.StructField x l a = cc
row_type_path _ x l a = cc

row_length : (s : Sort) (x : List ℕ) → typed s ≡ true → admits s ki.Number x ≡ true → row (ru.Of s) cl.Number ≡ leaf ki.Number
row_length so.Type x l a = cc
row_length so.BareType x l a = cc
row_length so.Member x l a = cc
row_length so.TypePath x l a = cc
row_length so.Length x l a = refl
row_length so.StructField x l a = cc
row_length _ x l a = cc

row_length_path : (s : Sort) (x : List ℕ) → typed s ≡ true → admits s ki.Path x ≡ true → row (ru.Of s) cl.Name ≡ path ki.Path
row_length_path so.Type x l a = cc
row_length_path so.BareType x l a = cc
row_length_path so.Member x l a = cc
row_length_path so.TypePath x l a = cc
row_length_path so.Length x l a = refl
row_length_path so.StructField x l a = cc
row_length_path _ x l a = cc

row_field : (s : Sort) (x : List ℕ) → typed s ≡ true → admits s ki.StructField x ≡ true → row (ru.Of s) cl.Name ≡ names ki.StructField
row_field so.Type x l a = cc
row_field so.BareType x l a = cc
row_field so.Member x l a = cc
row_field so.TypePath x l a = cc
row_field so.Length x l a = cc
row_field so.StructField x l a = refl
row_field _ x l a = cc

-- ---- forms whose kind shows later

fields_close : Closes so.StructField si.RightBrace
fields_close = record { sort = refl; faults = refl; mark = refl; comma = refl; bar = refl }

types_close : Closes so.Type si.RightParen
types_close = record { sort = refl; faults = refl; mark = refl; comma = refl; bar = refl }

members_close : Closes so.Member si.RightParen
members_close = record { sort = refl; faults = refl; mark = refl; comma = refl; bar = refl }

slice_reads : (f n : ℕ) → ReadsTo f n → (s : Sort) (h : Head) (ts : Nodes) → sizes_of ts ≤ n → h.kind ≡ ki.TypeSlice → typed s ≡ true →
    Shape s h ts → (w : List Token) (st : List Symbol) (g : Group) (gs : List Group) → has_sign si.PathMark (front w) ≡ false →
    Claim f s h ts w st g gs
unfolding spell
slice_reads f n ih s h ts z i l p w st g gs m =
    let ps : List Piece = pi.Kid so.Type ∷ [] in
    let e : form_of h.kind ≡ form_of ki.TypeSlice = ap form_of i in
    let own = own_as s h ts _ e p in
    let a = row_bracket s ki.TypeSlice h.text (inl refl) l (admits_as s h ts ki.TypeSlice i p) in
    rw e (run_uses f (sign_token f si.LeftBracket) _ (ru.Of s) st (g ∷ gs) (ch.Open ∷ []) (part ru.InBracket ∷ []) a
    ∙ run_uses f (sign_token f si.RightBracket) _ ru.InBracket st (begun (start_of f) [] ∷ g ∷ gs) [] (rest_of 2 ki.TypeSlice) refl
    ∙ rest_reads f n ih h _ ps ki.TypeSlice ts z (kids_as s h ts _ e p) w st (begun (start_of f) []) (g ∷ gs) (refl, m, tt)
    ∙ closed f h ki.TypeSlice ts i own w st g gs)

in_bracket : (c : Class) (cs : List Change) (ss : List Symbol) → of_row so.Length c ≡ Uses cs ss →
    row ru.InBracket c ≡ before (of_row so.Length c) (rest_of 2 ki.TypeArray)
in_bracket (cl.Sign si.RightBracket) cs ss e = cc
in_bracket (cl.Sign _) cs ss e = refl
in_bracket _ cs ss e = refl

first_type : (c : Class) (cs : List Change) (ss : List Symbol) → of_row so.Type c ≡ Uses cs ss →
    row ru.FirstMember c ≡ before (of_row so.Type c) (part ru.AfterType ∷ [])
first_type (cl.Sign si.Dots) cs ss e = cc
first_type (cl.Sign _) cs ss e = refl
first_type _ cs ss e = refl

first_member : (c : Class) → (row ru.FirstMember c ≡ before (of_row so.Member c) (part ru.AfterSpread ∷ [])) ⊎
    (row ru.FirstMember c ≡ before (of_row so.Member c) (part ru.AfterType ∷ []))
first_member (cl.Sign si.Dots) = inl refl
first_member (cl.Sign _) = inr refl
first_member _ = inr refl

array_reads : (f n : ℕ) → ReadsTo f n → (s : Sort) (h : Head) (ts : Nodes) → sizes_of ts ≤ n → h.kind ≡ ki.TypeArray → typed s ≡ true →
    Shape s h ts → (w : List Token) (st : List Symbol) (g : Group) (gs : List Group) → has_sign si.PathMark (front w) ≡ false →
    Claim f s h ts w st g gs
unfolding spell is_shaped
array_reads f n ih s h none z i l p w st g gs m = let a = kids_as s h none _ (ap form_of i) p in cc
array_reads f n ih s h (more t ts) z i l p w st g gs m =
    let ps : List Piece = pi.Fixed si.RightBracket ∷ pi.Kid so.Type ∷ [] in
    let e : form_of h.kind ≡ form_of ki.TypeArray = ap form_of i in
    let own = own_as s h (more t ts) _ e p in
    let a = row_bracket s ki.TypeArray h.text (inr refl) l (admits_as s h (more t ts) ki.TypeArray i p) in
    let k = split (is_shaped so.Length t) (are_kids (level h.kind h.text) (kid_pieces ps) ts) (kids_as s h (more t ts) _ e p) in
    let z' : size_of t ≤ n = omega arith in
    let zs : sizes_of ts ≤ n = omega arith in
    let b = begins f n ih so.Length t z' refl k.0 in
    let u = pieces_tokens f h ps (spells f ts) in
    rw (e, append-nil (spell f t), append_assoc (spell f t) u w)
    (run_uses f (sign_token f si.LeftBracket) _ (ru.Of s) st (g ∷ gs) (ch.Open ∷ []) (part ru.InBracket ∷ []) a
    ∙ run_before f so.Length ru.InBracket (rest_of 2 ki.TypeArray) (spell f t) (u ++ w) st (begun (start_of f) [] ∷ g ∷ gs) b
    (in_bracket (class_of b.head) b.changes b.symbols b.uses)
    ∙ ih so.Length t z' refl k.0 (u ++ w) _ (begun (start_of f) []) (g ∷ gs) refl
    ∙ rest_reads f n ih h _ ps ki.TypeArray ts zs k.1 w st (begun (start_of f) (plain f t ∷ [])) (g ∷ gs) (refl, m, tt)
    ∙ closed f h ki.TypeArray (more t ts) i own w st g gs)

tuple_reads : (f n : ℕ) → ReadsTo f n → (s : Sort) (h : Head) (ts : Nodes) → sizes_of ts ≤ n → h.kind ≡ ki.TypeTuple → typed s ≡ true →
    Shape s h ts → (w : List Token) (st : List Symbol) (g : Group) (gs : List Group) → Claim f s h ts w st g gs
unfolding spell is_shaped
tuple_reads f n ih s h none z i l p w st g gs = let a = kids_as s h none _ (ap form_of i) p in cc
tuple_reads f n ih s h (more t ts) z i l p w st g gs =
    let ps : List Piece = pi.Kid so.Type ∷ pi.More so.Type ∷ pi.Fixed si.RightParen ∷ [] in
    let e : form_of h.kind ≡ form_of ki.TypeTuple = ap form_of i in
    let own = own_as s h (more t ts) _ e p in
    let a = row_paren s ki.TypeTuple h.text (inl refl) l (admits_as s h (more t ts) ki.TypeTuple i p) in
    let k = split (is_shaped so.Type t) (are_kids (level h.kind h.text) (kid_pieces ps) ts) (kids_as s h (more t ts) _ e p) in
    let z' : size_of t ≤ n = omega arith in
    let zs : sizes_of ts ≤ n = omega arith in
    let b = begins f n ih so.Type t z' refl k.0 in
    let u = sign_token f si.Comma ∷ pieces_tokens f h ps (spells f ts) in
    rw (e, append-nil (spell f t), append_assoc (spell f t) u w)
    (run_uses f (sign_token f si.LeftParen) _ (ru.Of s) st (g ∷ gs) (ch.Open ∷ []) (part ru.FirstMember ∷ []) a
    ∙ run_before f so.Type ru.FirstMember (part ru.AfterType ∷ []) (spell f t) (u ++ w) st (begun (start_of f) [] ∷ g ∷ gs) b
    (first_type (class_of b.head) b.changes b.symbols b.uses)
    ∙ ih so.Type t z' refl k.0 (u ++ w) _ (begun (start_of f) []) (g ∷ gs) refl
    ∙ run_uses f (sign_token f si.Comma) _ ru.AfterType st (begun (start_of f) (plain f t ∷ []) ∷ g ∷ gs) [] (rest_of 3 ki.TypeTuple) refl
    ∙ rest_reads f n ih h _ ps ki.TypeTuple ts zs k.1 w st (begun (start_of f) (plain f t ∷ [])) (g ∷ gs) (refl, tt, types_close)
    ∙ closed f h ki.TypeTuple (more t ts) i own w st g gs)

union_reads : (f n : ℕ) → ReadsTo f n → (s : Sort) (h : Head) (ts : Nodes) → sizes_of ts ≤ n → h.kind ≡ ki.TypeUnion → typed s ≡ true →
    Shape s h ts → (w : List Token) (st : List Symbol) (g : Group) (gs : List Group) → Claim f s h ts w st g gs
unfolding spell is_shaped
union_reads f n ih s h none z i l p w st g gs = let a = kids_as s h none _ (ap form_of i) p in cc
union_reads f n ih s h (more t ts) z i l p w st g gs =
    let e : form_of h.kind ≡ form_of ki.TypeUnion = ap form_of i in
    let own = own_as s h (more t ts) _ e p in
    let a = row_paren s ki.TypeUnion h.text (inr refl) l (admits_as s h (more t ts) ki.TypeUnion i p) in
    let k = split (is_shaped so.Member t) (are_kids (level h.kind h.text)
    (kid_pieces (pi.Kid so.Member ∷ pi.EachLed si.Bar so.Member ∷ pi.Fixed si.RightParen ∷ [])) ts) (kids_as s h (more t ts) _ e p) in
    let zs : sizes_of ts ≤ n = omega arith in
    rw (
      e,
      append-nil (spell f t),
      append_assoc (spell f t)
          (sign_token f si.Bar ∷ pieces_tokens f h (pi.Kid so.Member ∷ pi.EachLed si.Bar so.Member ∷ pi.Fixed si.RightParen ∷ [])
          (spells f ts)) w,
    )
    (run_uses f (sign_token f si.LeftParen) _ (ru.Of s) st (g ∷ gs) (ch.Open ∷ []) (part ru.FirstMember ∷ []) a
    ∙ first k.0 (first_member (class_of (begins f n ih so.Member t (omega arith) refl k.0).head))
    ∙ rest_reads f n ih h _ (pi.Kid so.Member ∷ pi.EachLed si.Bar so.Member ∷ pi.Fixed si.RightParen ∷ []) ki.TypeUnion ts zs k.1 w st
    (begun (start_of f) (plain f t ∷ [])) (g ∷ gs) (refl, tt, members_close)
    ∙ closed f h ki.TypeUnion (more t ts) i own w st g gs)
  where
    rest : List Token
    rest = pieces_tokens f h (pi.Kid so.Member ∷ pi.EachLed si.Bar so.Member ∷ pi.Fixed si.RightParen ∷ []) (spells f ts) ++ w

    first : (k : is_shaped so.Member t ≡ true) →
        (row ru.FirstMember (class_of (begins f n ih so.Member t (omega arith) refl k).head) ≡
        before (of_row so.Member (class_of (begins f n ih so.Member t (omega arith) refl k).head)) (part ru.AfterSpread ∷ [])) ⊎
        (row ru.FirstMember (class_of (begins f n ih so.Member t (omega arith) refl k).head) ≡
        before (of_row so.Member (class_of (begins f n ih so.Member t (omega arith) refl k).head)) (part ru.AfterType ∷ [])) →
        run f (spell f t ++ sign_token f si.Bar ∷ rest) (part ru.FirstMember ∷ st) (begun (start_of f) [] ∷ g ∷ gs) ≡
        run f rest (rest_of 3 ki.TypeUnion ++ st) (begun (start_of f) (plain f t ∷ []) ∷ g ∷ gs)
    first k (inl o) =
        run_before f so.Member ru.FirstMember (part ru.AfterSpread ∷ []) (spell f t) (sign_token f si.Bar ∷ rest) st
        (begun (start_of f) [] ∷ g ∷ gs) (begins f n ih so.Member t (omega arith) refl k) o
        ∙ ih so.Member t (omega arith) refl k (sign_token f si.Bar ∷ rest) _ (begun (start_of f) []) (g ∷ gs) refl
        ∙ run_uses f (sign_token f si.Bar) rest ru.AfterSpread st (begun (start_of f) (plain f t ∷ []) ∷ g ∷ gs) [] (rest_of 3 ki.TypeUnion)
        refl
    first k (inr o) =
        run_before f so.Member ru.FirstMember (part ru.AfterType ∷ []) (spell f t) (sign_token f si.Bar ∷ rest) st
        (begun (start_of f) [] ∷ g ∷ gs) (begins f n ih so.Member t (omega arith) refl k) o
        ∙ ih so.Member t (omega arith) refl k (sign_token f si.Bar ∷ rest) _ (begun (start_of f) []) (g ∷ gs) refl
        ∙ run_uses f (sign_token f si.Bar) rest ru.AfterType st (begun (start_of f) (plain f t ∷ []) ∷ g ∷ gs) [] (rest_of 3 ki.TypeUnion)
        refl

-- a field: its name is its text
field_reads : (f n : ℕ) → ReadsTo f n → (s : Sort) (h : Head) (ts : Nodes) → sizes_of ts ≤ n → h.kind ≡ ki.StructField → typed s ≡ true →
    Shape s h ts → (w : List Token) (st : List Symbol) (g : Group) (gs : List Group) → has_sign si.PathMark (front w) ≡ false →
    Claim f s h ts w st g gs
unfolding spell
field_reads f n ih s h ts z i l p w st g gs m =
    let ps : List Piece = pi.Fixed si.Colon ∷ pi.Kid so.Type ∷ [] in
    let e : form_of h.kind ≡ form_of ki.StructField = ap form_of i in
    let own = split (is_name false h.text) (has_text_alone h) (own_as s h ts _ e p) in
    let a : row (ru.Of s) (class_of (word_token f tk.Name h.text)) ≡ names ki.StructField =
    rw (class_name f h.text own.0) (row_field s h.text l (admits_as s h ts ki.StructField i p)) in
    rw e (run_uses f (word_token f tk.Name h.text) _ (ru.Of s) st (g ∷ gs) (ch.Open ∷ ch.Take ∷ []) (rest_of 1 ki.StructField) a
    ∙ rest_reads f n ih h _ ps ki.StructField ts z (kids_as s h ts _ e p) w st (texted f h.text) (g ∷ gs) (refl, m, tt)
    ∙ run_close f w ki.StructField st _
    ∙ ap (λ y. run f w st (add (branch y (nodes_of (plain_list f ts))) (g ∷ gs))) (sym (text_head f h ki.StructField i own.1))
    ∙ ap (λ y. run f w st (add (branch (plain_head f h) y) (g ∷ gs))) (back f ts))

-- ---- all kinds

abbrev is_kind_of_types : Kind → Bool
is_kind_of_types ki.TypeError = true
is_kind_of_types ki.Spread = true
is_kind_of_types ki.Number = true
is_kind_of_types ki.Path = true
is_kind_of_types ki.StructField = true
is_kind_of_types k = is_bare_type k

bare_kind : (k : Kind) → is_bare_type k ≡ true → is_kind_of_types k ≡ true
bare_kind ki.TypeError e = refl
bare_kind ki.Spread e = refl
bare_kind ki.Number e = refl
bare_kind ki.Path e = refl
bare_kind ki.StructField e = refl
bare_kind _ e = e

type_kind : (k : Kind) (x : List ℕ) → admits so.Type k x ≡ true → is_kind_of_types k ≡ true
type_kind ki.TypeError x e = refl
type_kind k x e = bare_kind k e

member_kind : (k : Kind) (x : List ℕ) → admits so.Member k x ≡ true → is_kind_of_types k ≡ true
member_kind ki.Spread x e = refl
member_kind k x e = type_kind k x e

path_kind : (k : Kind) (x : List ℕ) → admits so.TypePath k x ≡ true → is_kind_of_types k ≡ true
path_kind ki.TypePath x e = refl
path_kind _ x e = cc

length_kind : (k : Kind) (x : List ℕ) → admits so.Length k x ≡ true → is_kind_of_types k ≡ true
length_kind ki.Number x e = refl
length_kind ki.Path x e = refl
length_kind _ x e = cc

field_kind : (k : Kind) (x : List ℕ) → admits so.StructField k x ≡ true → is_kind_of_types k ≡ true
field_kind ki.StructField x e = refl
field_kind _ x e = cc

kind_in : (s : Sort) (k : Kind) (x : List ℕ) → typed s ≡ true → admits s k x ≡ true → is_kind_of_types k ≡ true
kind_in so.Type k x l a = type_kind k x a
kind_in so.BareType k x l a = bare_kind k a
kind_in so.Member k x l a = member_kind k x a
kind_in so.TypePath k x l a = path_kind k x a
kind_in so.Length k x l a = length_kind k x a
kind_in so.StructField k x l a = field_kind k x a
kind_in _ k x l a = cc

kind_reads : (f n : ℕ) → ReadsTo f n → (s : Sort) (k : Kind) (h : Head) (ts : Nodes) → sizes_of ts ≤ n → h.kind ≡ k → typed s ≡ true →
    Shape s h ts → is_kind_of_types k ≡ true → admits s k h.text ≡ true →
    (w : List Token) (st : List Symbol) (g : Group) (gs : List Group) → has_sign si.PathMark (front w) ≡ false → Claim f s h ts w st g gs
kind_reads f n ih s ki.TypeScalar h ts z i l p q a w st g gs m = scalar_reads f s h ts i l p w st g gs
kind_reads f n ih s ki.Number h ts z i l p q a w st g gs m = number_reads f s h ts i (row_length s h.text l a) p w st g gs
kind_reads f n ih s ki.Path h ts z i l p q a w st g gs m = path_reads f s ki.Path h ts i refl (row_length_path s h.text l a) p w st g gs m
kind_reads f n ih s ki.TypePath h ts z i l p q a w st g gs m =
    path_reads f s ki.TypePath h ts i refl (row_type_path s h.text l a) p w st g gs m
kind_reads f n ih s ki.TypePointer h ts z i l p q a w st g gs m =
    opens_reads f n ih s ki.TypePointer si.Star _ h ts z i refl refl (row_pointer s h.text l a) p w st g gs (refl, m, tt)
kind_reads f n ih s ki.TypeNullable h ts z i l p q a w st g gs m =
    opens_reads f n ih s ki.TypeNullable si.Nullable _ h ts z i refl refl (row_nullable s h.text l a) p w st g gs (refl, m, tt)
kind_reads f n ih s ki.TypeError h ts z i l p q a w st g gs m =
    opens_reads f n ih s ki.TypeError si.Bang _ h ts z i refl refl (row_error s h.text l a) p w st g gs (refl, m, tt)
kind_reads f n ih s ki.Spread h ts z i l p q a w st g gs m =
    opens_reads f n ih s ki.Spread si.Dots _ h ts z i refl refl (row_spread s h.text l a) p w st g gs (refl, m, tt)
kind_reads f n ih s ki.TypeStruct h ts z i l p q a w st g gs m =
    opens_reads f n ih s ki.TypeStruct si.Struct _ h ts z i refl refl (row_struct s h.text l a) p w st g gs (refl, tt, fields_close)
kind_reads f n ih s ki.TypeSlice h ts z i l p q a w st g gs m = slice_reads f n ih s h ts z i l p w st g gs m
kind_reads f n ih s ki.TypeArray h ts z i l p q a w st g gs m = array_reads f n ih s h ts z i l p w st g gs m
kind_reads f n ih s ki.TypeTuple h ts z i l p q a w st g gs m = tuple_reads f n ih s h ts z i l p w st g gs
kind_reads f n ih s ki.TypeUnion h ts z i l p q a w st g gs m = union_reads f n ih s h ts z i l p w st g gs
kind_reads f n ih s ki.StructField h ts z i l p q a w st g gs m = field_reads f n ih s h ts z i l p w st g gs m
kind_reads f n ih s _ h ts z i l p q a w st g gs m = cc

-- what is spelled is read, of every size
pub reads : (f n : ℕ) → ReadsTo f n
reads f zero s (branch h ts) z l h' w st g gs m = absurd (omega arith)
reads f (suc n) s (branch h ts) z l e w st g gs m =
    let p = shape s h ts e in
    kind_reads f n (reads f n) s h.kind h ts (omega arith) refl l p (kind_in s h.kind h.text l p.admitted) p.admitted w st g gs m
