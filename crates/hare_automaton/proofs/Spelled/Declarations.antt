-- Declarations are read from their tokens.
use Rattle.std.proofs.Common.{◌≡◌, ℕ, ◌≤◌, List, [], ◌∷◌, ◌++◌, true, false, ◌&&◌, ◌||◌, refl, ap, ◌∙◌, subst, arith, append_assoc}
use Rattle.std.proofs.lemmas.List.{append-nil}
use Rattle.hare_tree.specs.declared.kind.Kind.{Kind}
use Rattle.hare_tree.specs.declared.kind.Kind.TheVariants as ki
use Rattle.hare_tree.specs.declared.token.Token.{Token}
use Rattle.hare_tree.specs.declared.form.Sign.{Sign}
use Rattle.hare_tree.specs.declared.form.Sign.TheVariants as si
use Rattle.hare_tree.specs.declared.form.Own.TheVariants as ow
use Rattle.hare_tree.specs.declared.form.Sort.TheVariants as so
use Rattle.hare_tree.specs.declared.form.Piece.{Piece}
use Rattle.hare_tree.specs.declared.form.Piece.TheVariants as pi
use Rattle.hare_tree.specs.Node.{Head, Node, Nodes, branch, none, more, size_of, sizes_of}
use Rattle.hare_tree.specs.Forms.{form_of, expr}
use Rattle.hare_tree.specs.Levels.{admits, level}
use Rattle.hare_tree.specs.Spell.{start_of, sign_token, pieces_tokens, spell, spells}
use Rattle.hare_tree.specs.Shape.{is_shaped, is_absent, are_kids, is_own, kid_pieces, own_of, kids_end, edges, stops, stops_each, form_stops}
use Rattle.hare_automaton.specs.declared.class.Class.{Class}
use Rattle.hare_automaton.specs.declared.class.Class.TheVariants as cl
use Rattle.hare_automaton.specs.declared.rule.Rule.TheVariants as ru
use Rattle.hare_automaton.specs.declared.rule.Symbol.{Symbol}
use Rattle.hare_automaton.specs.declared.rule.Symbol.TheVariants as sy
use Rattle.hare_automaton.specs.declared.rule.Change.{Change}
use Rattle.hare_automaton.specs.declared.rule.Change.TheVariants as ch
use Rattle.hare_automaton.specs.Classes.{class_of}
use Rattle.hare_automaton.specs.Rows.{Uses, of, part, symbols}
use Rattle.hare_automaton.specs.DeclarationRows.{of_row}
use Rattle.hare_automaton.specs.Table.{row}
use Rattle.hare_automaton.specs.Engine.{Group, begun, bare_leaf, run}
use Rattle.hare_automaton.specs.OneTree.{plain}
use Rattle.hare_automaton.proofs.Machine.Steps.{front, run_uses}
use Rattle.hare_automaton.proofs.Machine.Tokens.{class_sign}
use Rattle.hare_automaton.proofs.Spelled.Paths.{split}
use Rattle.hare_automaton.proofs.Spelled.Lists.{plain_list, nothing_head}
use Rattle.hare_automaton.proofs.Machine.Edges.{Edge, pull, stops_calm, ReadsTo, read_kid}
use Rattle.hare_automaton.proofs.Spelled.Kids.{begins, absent_spell, absent_plain}
use Rattle.hare_automaton.proofs.Spelled.Forms.{Maybe, lacks, has, maybe}
use Rattle.hare_automaton.proofs.Spelled.Read.{read_pieces}
use Rattle.hare_automaton.proofs.Spelled.Nodes.{Whole, whole, Claim, closed}
use Rattle.hare_automaton.proofs.Spelled.Items.{Closer}
use Rattle.hare_automaton.proofs.Spelled.Openers.{sort_reads}
use Rattle.hare_automaton.proofs.Spelled.Leaves.{no_kids}
use Rattle.hare_automaton.proofs.Spelled.Late.{own_at, kids_at, ends_at, before_sign}

-- ---- `export`

export_kind : (k : Kind) (x : List ℕ) → admits so.Export k x ≡ true → k ≡ ki.Export
export_kind ki.Export x a = refl
export_kind _ x a = cc

record Exported (f : ℕ) (t : Node) : Type 0 where
  spelled : spell f t ≡ sign_token f si.Export ∷ []
  plain_is : plain f t ≡ bare_leaf ki.Export (start_of f)

exported : (f : ℕ) (t : Node) → is_shaped so.Export t ≡ true → Exported f t
unfolding spell
exported f (branch h ts) e =
    let p = whole so.Export h ts e in
    let i = export_kind h.kind h.text p.admitted in
    let n : ts ≡ none = no_kids (level h.kind h.text) ts (kids_at so.Export h ts ki.Export i p) in
    let is : spell f (branch h ts) ≡ sign_token f si.Export ∷ [] = ap (λ ps. pieces_tokens f h ps (spells f ts)) (ap form_of i) in
    record { spelled = is; plain_is = rw n (ap (λ y. branch y none) (nothing_head f h ki.Export i (own_at so.Export h ts ki.Export i p))) }

-- ---- what stands behind the word of a declaration

abbrev Word : Kind → Sign → List Piece → Type 0
Word k d ps = (f n : ℕ) → ReadsTo f n → (h : Head) (m : ℕ) (ts : Nodes) → sizes_of ts ≤ n → are_kids m (kid_pieces ps) ts ≡ true →
    kids_end ps (edges ts) ≡ true → (w : List Token) (st : List Symbol) (ks : List Node) (gs : List Group) →
    run f (pieces_tokens f h ps (spells f ts) ++ w) (symbols ps ++ st) (begun (start_of f) ks ∷ gs) ≡
    run f w st (begun (start_of f) (ks ++ plain_list f ts) ∷ gs)

-- name [":" type] "=" expr ";"
abbrev value_pieces : List Piece
value_pieces = pi.Kid so.Name ∷ pi.Led si.Colon so.Type ∷ pi.Fixed si.Equals ∷ pi.Kid expr ∷ pi.Fixed si.Semicolon ∷ []

value_word : (k : Kind) (d : Sign) → Word k d value_pieces
unfolding stops
value_word k d f n ih h m ts z e q w st ks gs =
    read_pieces f n ih h m value_pieces false ts z e q tt refl w st (start_of f) ks gs (λ y. true) (stopped ts)
    (refl, (refl, refl), (refl, tt, refl, refl, (refl, refl, tt)))
  where
    stopped : (ts : Nodes) (y : Sign) → front w ≡ cl.Sign y → form_stops y h true value_pieces (stops_each y ts) ≡ true
    stopped none y j = refl
    stopped (more a none) y j = refl
    stopped (more a (more b none)) y j = refl
    stopped (more a (more b (more c cs))) y j = refl

-- name "=" type ";"
abbrev type_pieces : List Piece
type_pieces = pi.Kid so.Name ∷ pi.Fixed si.Equals ∷ pi.Kid so.Type ∷ pi.Fixed si.Semicolon ∷ []

type_word : Word ki.TypeDecl si.Type type_pieces
unfolding stops
type_word f n ih h m ts z e q w st ks gs = read_pieces f n ih h m type_pieces false ts z e q tt refl w st (start_of f) ks gs (λ y. true)
    (stopped ts) (refl, refl, (refl, refl, tt))
  where
    stopped : (ts : Nodes) (y : Sign) → front w ≡ cl.Sign y → form_stops y h true type_pieces (stops_each y ts) ≡ true
    stopped none y j = refl
    stopped (more a none) y j = refl
    stopped (more a (more b cs)) y j = refl

-- ---- functions

-- type "=" expr ";"
abbrev result_pieces : List Piece
result_pieces = pi.Kid so.Type ∷ pi.Fixed si.Equals ∷ pi.Kid expr ∷ pi.Fixed si.Semicolon ∷ []

abbrev function_pieces : List Piece
function_pieces = pi.Kid so.Name ∷ pi.Kid so.Params ∷ result_pieces

result_word : Word ki.Fn si.Fn result_pieces
unfolding stops
result_word f n ih h m ts z e q w st ks gs =
    read_pieces f n ih h m result_pieces false ts z e q tt refl w st (start_of f) ks gs (λ y. true) (stopped ts)
    (refl, refl, (refl, refl, tt))
  where
    stopped : (ts : Nodes) (y : Sign) → front w ≡ cl.Sign y → form_stops y h true result_pieces (stops_each y ts) ≡ true
    stopped none y j = refl
    stopped (more a none) y j = refl
    stopped (more a (more b cs)) y j = refl

-- what begins a type goes on with no list of parameters
type_pull : (c : Class) (cs : List Change) (ss : List Symbol) → of_row so.Type c ≡ Uses cs ss → pull c ≤ 18
type_pull cl.Scalar cs ss e = omega arith
type_pull cl.Name cs ss e = omega arith
type_pull (cl.Sign si.Bang) cs ss e = omega arith
type_pull (cl.Sign si.Size) cs ss e = omega arith
type_pull (cl.Sign si.Void) cs ss e = omega arith
type_pull (cl.Sign si.Star) cs ss e = omega arith
type_pull (cl.Sign si.Nullable) cs ss e = omega arith
type_pull (cl.Sign si.Struct) cs ss e = omega arith
type_pull (cl.Sign si.LeftBracket) cs ss e = omega arith
type_pull (cl.Sign si.LeftParen) cs ss e = omega arith
type_pull (cl.Sign _) cs ss e = cc
type_pull _ cs ss e = cc

pub params_kind : (k : Kind) (x : List ℕ) → admits so.Params k x ≡ true → k ≡ ki.Params
params_kind ki.Params x a = refl
params_kind _ x a = cc

params_close : Closer so.Param si.RightParen
params_close = record {
  sort = refl;
  items = refl;
  anywhere = λ c. refl;
  faults = refl;
  pulls = refl;
  comma = refl;
  no_else = refl;
  no_comma = refl;
}

pub params_reads : (f n : ℕ) → ReadsTo f n → (h : Head) (ts : Nodes) → sizes_of ts ≤ n → h.kind ≡ ki.Params → Whole so.Params h ts →
    (w : List Token) (st : List Symbol) (g : Group) (gs : List Group) → Edge so.Params (front w) (branch h ts) →
    Claim f so.Params h ts w st g gs
params_reads f n ih h ts z i p w st g gs x =
    sort_reads f n ih so.Params ki.Params si.LeftParen (pi.List so.Param ∷ pi.Fixed si.RightParen ∷ []) h ts z i p w st g gs
    (record { form = refl; row_is = refl; owns = λ h e. tt; nothing = λ e. refl; clear = λ q c. params_close }) x

-- parameters begin with `(` and end with `)`
record Bracketed (f : ℕ) (t : Node) : Type 0 where
  behind : List Token
  spelled : spell f t ≡ sign_token f si.LeftParen ∷ behind
  closed_off : (d : Sign) → stops d t ≡ true

bracketed : (f : ℕ) (t : Node) → is_shaped so.Params t ≡ true → Bracketed f t
unfolding spell stops
bracketed f (branch h ts) e =
    let p = whole so.Params h ts e in
    let i = params_kind h.kind h.text p.admitted in
    record {
      behind = pieces_tokens f h (pi.List so.Param ∷ pi.Fixed si.RightParen ∷ []) (spells f ts);
      spelled = ap (λ ps. pieces_tokens f h ps (spells f ts)) (ap form_of i);
      closed_off = λ d. ap (λ ps. form_stops d h true ps (stops_each d ts)) (ap form_of i);
    }

function_word : Word ki.Fn si.Fn function_pieces
unfolding spell is_shaped
function_word f n ih h m none z e q w st ks gs = cc
function_word f n ih h m (more a none) z e q w st ks gs = let k = split (is_shaped so.Name a) false e in cc
function_word f n ih h m (more a (more b none)) z e q w st ks gs =
    let k = split (is_shaped so.Name a) (is_shaped so.Params b && false) e in
    let k' = split (is_shaped so.Params b) false k.1 in
    cc
function_word f n ih h m (more a (more b (more c cs))) z e q w st ks gs =
    let k = split (is_shaped so.Name a) (is_shaped so.Params b &&
    (is_shaped so.Type c && are_kids m (kid_pieces (pi.Fixed si.Equals ∷ pi.Kid expr ∷ pi.Fixed si.Semicolon ∷ [])) cs)) e in
    let k' = split (is_shaped so.Params b) (is_shaped so.Type c && are_kids m
    (kid_pieces (pi.Fixed si.Equals ∷ pi.Kid expr ∷ pi.Fixed si.Semicolon ∷ [])) cs) k.1 in
    let k'' = split (is_shaped so.Type c) (are_kids m (kid_pieces (pi.Fixed si.Equals ∷ pi.Kid expr ∷ pi.Fixed si.Semicolon ∷ [])) cs)
    k'.1 in
    let za : size_of a ≤ n = omega arith in
    let zb : size_of b ≤ n = omega arith in
    let zc : size_of c ≤ n = omega arith in
    let zs : sizes_of (more c cs) ≤ n = omega arith in
    let x = bracketed f b k'.0 in
    let v = pieces_tokens f h result_pieces (spells f (more c cs)) in
    let y = begins f n ih so.Type c zc refl k''.0 in
    let fits : pull (front (v ++ w)) ≤ 18 = rw (append-nil (spell f c), y.is) (type_pull (class_of y.head) y.changes y.symbols y.uses) in
    let name : run f (spell f a ++ (spell f b ++ (v ++ w))) (of so.Name ∷ of so.Params ∷ (symbols result_pieces ++ st))
    (begun (start_of f) ks ∷ gs) ≡ run f (spell f b ++ (v ++ w)) (of so.Params ∷ (symbols result_pieces ++ st))
    (begun (start_of f) (ks ++ plain f a ∷ []) ∷ gs) =
    rw x.spelled (before_sign f n ih so.Name si.LeftParen a za refl k.0 refl (stops_calm si.LeftParen refl refl a) (x.behind ++ (v ++ w))
    (of so.Params ∷ (symbols result_pieces ++ st)) (begun (start_of f) ks) gs) in
    rw (append-nil (spell f a), append-nil (spell f b), append_assoc (spell f a) (spell f b ++ v) w, append_assoc (spell f b) v w)
    (name
    ∙ read_kid f n ih so.Params b zb refl k'.0 (v ++ w) (symbols result_pieces ++ st) (begun (start_of f) (ks ++ plain f a ∷ [])) gs fits
    (λ d j. x.closed_off d) refl
    ∙ result_word f n ih h m (more c cs) zs k'.1 q w st ((ks ++ plain f a ∷ []) ++ plain f b ∷ []) gs
    ∙ ap (λ l. run f w st (begun (start_of f) l ∷ gs))
    (append_assoc (ks ++ plain f a ∷ []) (plain f b ∷ []) (plain_list f (more c cs)) ∙ append_assoc ks (plain f a ∷ [])
    (plain f b ∷ plain_list f (more c cs))))

-- ---- a declaration

-- the form, the rows and the rest of a kind of declaration
record Declared (k : Kind) (d : Sign) (ps : List Piece) : Type 0 where
  form : form_of k ≡ pi.Optional so.Export ∷ pi.Fixed d ∷ ps
  own : own_of (form_of k) ≡ ow.Nothing
  word_row : row ru.DeclWord (cl.Sign d) ≡ Uses [] (symbols ps ++ sy.Close k ∷ [])
  first : row (ru.Of so.Decl) (cl.Sign d) ≡ Uses (ch.Open ∷ ch.Absent ∷ []) (symbols ps ++ sy.Close k ∷ [])
  ends : (h : Head) (t : Node) (ts : Nodes) → kids_end (form_of k) (edges (more t ts)) ≡ true → kids_end ps (edges ts) ≡ true
  word : Word k d ps

declared_reads : (f n : ℕ) → ReadsTo f n → (k : Kind) (d : Sign) (ps : List Piece) → Declared k d ps → (h : Head) (ts : Nodes) →
    sizes_of ts ≤ n → h.kind ≡ k → Whole so.Decl h ts → (w : List Token) (st : List Symbol) (g : Group) (gs : List Group) →
    Claim f so.Decl h ts w st g gs
unfolding spell is_shaped
declared_reads f n ih k d ps o h none z i p w st g gs =
    let a : form_of h.kind ≡ pi.Optional so.Export ∷ pi.Fixed d ∷ ps = ap form_of i ∙ o.form in
    let kids : are_kids (level h.kind h.text) (pi.Optional so.Export ∷ kid_pieces ps) none ≡ true =
    subst (λ y. are_kids (level h.kind h.text) (kid_pieces y) none ≡ true) a p.kids in
    cc
declared_reads f n ih k d ps o h (more t ts) z i p w st g gs =
    let a : form_of h.kind ≡ pi.Optional so.Export ∷ pi.Fixed d ∷ ps = ap form_of i ∙ o.form in
    let kids : are_kids (level h.kind h.text) (pi.Optional so.Export ∷ kid_pieces ps) (more t ts) ≡ true =
    subst (λ y. are_kids (level h.kind h.text) (kid_pieces y) (more t ts) ≡ true) a p.kids in
    let c = split (is_absent t || is_shaped so.Export t) (are_kids (level h.kind h.text) (kid_pieces ps) ts) kids in
    let zs : sizes_of ts ≤ n = omega arith in
    let own : is_own ow.Nothing h ≡ true = subst (λ y. is_own y h ≡ true) (ap (λ y. own_of (form_of y)) i ∙ o.own) p.own in
    let v = pieces_tokens f h ps (spells f ts) in
    let rest = o.word f n ih h (level h.kind h.text) ts zs c.1 (o.ends h t ts (ends_at so.Decl h (more t ts) k i p)) w (sy.Close k ∷ st) in
    rw (a, append-nil (spell f t), append_assoc (spell f t) (sign_token f d ∷ v) w)
    (by (maybe so.Export t c.0)
    ∙ run_symbols (v ++ w) _
    ∙ rest (plain f t ∷ []) (g ∷ gs)
    ∙ closed f h k false (more t ts) i (λ y. own) w st g gs)
  where
    run_symbols : (u : List Token) (hs : List Group) →
        run f u ((symbols ps ++ sy.Close k ∷ []) ++ st) hs ≡ run f u (symbols ps ++ sy.Close k ∷ st) hs
    run_symbols u hs = ap (λ y. run f u y hs) (append_assoc (symbols ps) (sy.Close k ∷ []) st)

    by : Maybe so.Export t → run f (spell f t ++ (sign_token f d ∷ (pieces_tokens f h ps (spells f ts) ++ w))) (of so.Decl ∷ st) (g ∷ gs) ≡
        run f (pieces_tokens f h ps (spells f ts) ++ w) ((symbols ps ++ sy.Close k ∷ []) ++ st)
        (begun (start_of f) (plain f t ∷ []) ∷ g ∷ gs)
    by (lacks e) =
        let r : row (ru.Of so.Decl) (class_of (sign_token f d)) ≡ Uses (ch.Open ∷ ch.Absent ∷ []) (symbols ps ++ sy.Close k ∷ []) =
        rw (class_sign f d) o.first in
        rw (absent_spell f t e, absent_plain f t e)
        (run_uses f (sign_token f d) _ (ru.Of so.Decl) st (g ∷ gs) (ch.Open ∷ ch.Absent ∷ []) (symbols ps ++ sy.Close k ∷ []) r)
    by (has e) =
        let x = exported f t e in
        let r : row ru.DeclWord (class_of (sign_token f d)) ≡ Uses [] (symbols ps ++ sy.Close k ∷ []) = rw (class_sign f d) o.word_row in
        rw (x.spelled, x.plain_is)
        (run_uses f (sign_token f si.Export) _ (ru.Of so.Decl) st (g ∷ gs) (ch.Open ∷ ch.Mark ki.Export ∷ []) (part ru.DeclWord ∷ []) refl
        ∙ run_uses f (sign_token f d) _ ru.DeclWord st _ [] (symbols ps ++ sy.Close k ∷ []) r)

declared_def : Declared ki.Def si.Def value_pieces
declared_def = record { form = refl; own = refl; word_row = refl; first = refl; ends = λ h t ts e. e; word = value_word ki.Def si.Def }

declared_let : Declared ki.GlobalLet si.Let value_pieces
declared_let = record {
  form = refl;
  own = refl;
  word_row = refl;
  first = refl;
  ends = λ h t ts e. e;
  word = value_word ki.GlobalLet
      si.Let;
}

declared_const : Declared ki.GlobalConst si.Const value_pieces
declared_const = record {
  form = refl;
  own = refl;
  word_row = refl;
  first = refl;
  ends = λ h t ts e. e;
  word = value_word ki.GlobalConst
      si.Const;
}

declared_type : Declared ki.TypeDecl si.Type type_pieces
declared_type = record { form = refl; own = refl; word_row = refl; first = refl; ends = λ h t ts e. e; word = type_word }

declared_fn : Declared ki.Fn si.Fn function_pieces
declared_fn = record { form = refl; own = refl; word_row = refl; first = refl; ends = λ h t ts e. e; word = function_word }

pub decl_reads : (f n : ℕ) → ReadsTo f n → (k : Kind) (h : Head) (ts : Nodes) → sizes_of ts ≤ n → h.kind ≡ k →
    admits so.Decl k h.text ≡ true → Whole so.Decl h ts → (w : List Token) (st : List Symbol) (g : Group) (gs : List Group) →
    Claim f so.Decl h ts w st g gs
decl_reads f n ih ki.Def h ts z i a p w st g gs = declared_reads f n ih ki.Def si.Def value_pieces declared_def h ts z i p w st g gs
decl_reads f n ih ki.GlobalLet h ts z i a p w st g gs =
    declared_reads f n ih ki.GlobalLet si.Let value_pieces declared_let h ts z i p w st g gs
decl_reads f n ih ki.GlobalConst h ts z i a p w st g gs =
    declared_reads f n ih ki.GlobalConst si.Const value_pieces declared_const h ts z i p w st g gs
decl_reads f n ih ki.TypeDecl h ts z i a p w st g gs =
    declared_reads f n ih ki.TypeDecl si.Type type_pieces declared_type h ts z i p w st g gs
decl_reads f n ih ki.Fn h ts z i a p w st g gs = declared_reads f n ih ki.Fn si.Fn function_pieces declared_fn h ts z i p w st g gs
decl_reads f n ih _ h ts z i a p w st g gs = cc
