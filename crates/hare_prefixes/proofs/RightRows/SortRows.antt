-- Each row of a tree of a sort is right, and each row of a path in an expression.
use Rattle.std.proofs.Common.{◌≡◌, ℕ, ◌+◌, List, [], ◌∷◌, ◌++◌, true, length, refl, ap, sym, ◌∙◌, subst, arith}
use Rattle.hare_tree.specs.declared.kind.Kind.{Kind}
use Rattle.hare_tree.specs.declared.kind.Kind.TheVariants as ki
use Rattle.hare_tree.specs.declared.token.Token.{Token}
use Rattle.hare_tree.specs.declared.form.Sign.TheVariants as si
use Rattle.hare_tree.specs.declared.form.Own.TheVariants as ow
use Rattle.hare_tree.specs.declared.form.Sort.{Sort}
use Rattle.hare_tree.specs.declared.form.Sort.TheVariants as so
use Rattle.hare_tree.specs.declared.form.Piece.{Piece}
use Rattle.hare_tree.specs.declared.form.Piece.TheVariants as pi
use Rattle.hare_tree.specs.Forms.{expr}
use Rattle.hare_tree.specs.declared.token.TokenKind.TheVariants as tk
use Rattle.hare_tree.specs.Levels.{is_name, admits}
use Rattle.hare_tree.specs.Spell.{word_token}
use Rattle.hare_tree.specs.Grammar.{place_of, unplaced}
use Rattle.hare_automaton.specs.declared.class.Class.{Class}
use Rattle.hare_automaton.specs.declared.class.Class.TheVariants as cl
use Rattle.hare_automaton.specs.declared.rule.Rule.TheVariants as ru
use Rattle.hare_automaton.specs.declared.rule.Change.TheVariants as ch
use Rattle.hare_automaton.specs.Classes.{class_of}
use Rattle.hare_automaton.specs.Rows.{before, rest_of}
use Rattle.hare_automaton.specs.ExpressionRows.{level_row, path_or_struct_row}
use Rattle.hare_automaton.specs.DeclarationRows.{message_row, export_row, dots_row, by_ref_row, params_row, let_row, binding_row, statement_row, pattern_row, case_row, switch_case_row, values_row, of_row}
use Rattle.hare_automaton.specs.Engine.{Group, begun, close, lift, join_text}
use Rattle.hare_automaton.proofs.Spelled.Paths.{joined_by}
use Rattle.hare_prefixes.proofs.Soundness.Seen.{text_is}
use Rattle.hare_prefixes.proofs.Soundness.Trees.{Source, tree_as, Ended}
use Rattle.hare_prefixes.proofs.Soundness.Means.{Names, OneName, with_kid, closed_as, fields, PathEnd, path, literal, Means}
use Rattle.hare_prefixes.proofs.Soundness.Stacks.{Reads, last_part, Used, used_led, used_place}
use Rattle.hare_prefixes.proofs.Soundness.Pieces.{whole_form}
use Rattle.hare_prefixes.proofs.Soundness.Forms.{form_tree, ended_form}
use Rattle.hare_prefixes.proofs.Soundness.Paths.{joined_nothing, further_name}
use Rattle.hare_prefixes.proofs.RightRows.TypeRows.{RowMeans, unit, leaf_means, mark_means, opens_means, bare_means, type_means, member_means, type_path_means, length_means, named_means}
use Rattle.hare_prefixes.proofs.RightRows.StartRows.{level_means}
use Rattle.hare_prefixes.proofs.RightRows.DeclRows.{name_means, further_name_means, use_means, import_path_means, decl_means}

-- ---- a path in an expression

-- `::` and a name in front of the rest of a path
path_on : (x : Source) (t k : Token) (g o : Group) (hs : List Group) (m n : ℕ) (v w : List Token) (gs' : List Group) →
    class_of t ≡ cl.Sign si.PathMark → unplaced k ≡ word_token 0 tk.Name k.text → is_name true k.text ≡ true → n ≡ m + 2 →
    PathEnd x (joined_by k.text (joined_by t.text g)) o hs n v w gs' → PathEnd x g o hs m (t ∷ (k ∷ v)) w gs'
path_on x t k g o hs m n v w gs' e i y at (path q j) =
    let f = further_name t k v g e i y q in
    path f.q (j ∙ ap (λ z. lift (close ki.Path (z ∷ o ∷ hs))) f.joined)
path_on x t k g o hs m n v w gs' e i y at (literal q) =
    let f = further_name t k q.path g e i y q.names in
    literal (record {
      path = t ∷ (k ∷ q.path);
      brace = q.brace;
      v = q.v;
      n = q.n;
      is = ap (λ z. t ∷ (k ∷ z)) q.is;
      names = f.q;
      class = q.class;
      place = ap (place_of x.tokens) (omega (arith, at)) ∙ q.place;
      at = omega (arith, q.at, at);
      ended = subst (λ z. Ended x ki.StructLit fields (with_kid o (closed_as ki.TypePath z)) hs q.n q.v w gs') f.joined q.ended;
    })

abbrev pub no_names : Names []
no_names = record { names = []; are = refl; spelled = refl }

pub path_or_struct_means : (x : Source) (c : Class) (t : Token) (gs : List Group) (m : ℕ) (u w : List Token) (gs' : List Group) →
    class_of t ≡ c → Used x (path_or_struct_row c) t gs m u w gs' → Means x ru.PathOrStruct gs m (t ∷ u) w gs'
path_or_struct_means x (cl.Sign si.PathMark) t gs m u w gs' e h g o hs i =
    let a = h.reads in
    let n : OneName a.v (join_text t gs) a.hs = a.part in
    let at : a.hs ≡ joined_by n.t.text (joined_by t.text g) ∷ o ∷ hs = n.adds ∙ ap (λ l. join_text n.t (join_text t l)) i in
    let r = last_part x ru.PathOrStruct a.hs a.n a.v' w gs' a.rest (joined_by n.t.text (joined_by t.text g)) o hs at in
    let is : t ∷ u ≡ t ∷ (n.t ∷ a.v') = ap (λ l. t ∷ l) (a.is ∙ ap (λ l. l ++ a.v') n.is) in
    subst (λ l. PathEnd x g o hs m l w gs') (sym is)
    (path_on x t n.t g o hs m a.n a.v' w gs' e n.spelled n.name (omega (arith, a.at, h.at, ap length n.is)) r)
path_or_struct_means x (cl.Sign si.LeftBrace) t gs m u w gs' e h g o hs i =
    let r = subst (λ y. Reads x (rest_of 2 ki.StructLit) (close ki.TypePath y) h.n u w gs') i h.reads in
    let d = whole_form x ki.StructLit fields (with_kid o (closed_as ki.TypePath g)) hs h.n u w gs' (refl, (refl, tt)) (λ y. cc) r in
    literal (record {
      path = [];
      brace = t;
      v = u;
      n = h.n;
      is = refl;
      names = no_names;
      class = e;
      place = ap (place_of x.tokens) (omega arith) ∙ h.place;
      at = omega (arith, h.at);
      ended = subst (λ y. Ended x ki.StructLit fields (with_kid o (closed_as ki.TypePath y)) hs h.n u w gs') (sym (joined_nothing g)) d;
    })
path_or_struct_means x (cl.Sign _) t gs m u w gs' e h g o hs i = absurd h
path_or_struct_means x _ t gs m u w gs' e h g o hs i = absurd h

-- the path is over
pub path_or_struct_skips : (x : Source) (gs : List Group) (m : ℕ) (w : List Token) →
    Means x ru.PathOrStruct gs m [] w (lift (close ki.Path gs))
path_or_struct_skips x gs m w g o hs i = path no_names
    (ap (λ y. lift (close ki.Path y)) (i ∙ ap (λ y. y ∷ o ∷ hs) (sym (joined_nothing g))))

-- ---- sorts of a few forms

message_means : (x : Source) → RowMeans x message_row so.Message
message_means x cl.Text t gs m u w gs' o e h =
    let p = text_is t e in
    form_tree x so.Message ki.Message gs m (t ∷ u) w gs' refl (λ y. refl)
    (leaf_means x ki.Message ow.Text t gs m u w gs' refl (record { none = refl; operator = refl; yield = refl }) refl p.alone
    (ap (λ y. y ∷ []) (sym p.is)) h)
message_means x _ t gs m u w gs' o e h = absurd h

export_means : (x : Source) → RowMeans x export_row so.Export
export_means x (cl.Sign si.Export) t gs m u w gs' o e h =
    form_tree x so.Export ki.Export gs m (t ∷ u) w gs' refl (λ y. refl)
    (mark_means x ki.Export si.Export t gs m u w gs' refl (record { none = refl; operator = refl; yield = refl }) e h)
export_means x (cl.Sign _) t gs m u w gs' o e h = absurd h
export_means x _ t gs m u w gs' o e h = absurd h

dots_means : (x : Source) → RowMeans x dots_row so.Dots
dots_means x (cl.Sign si.Dots) t gs m u w gs' o e h =
    form_tree x so.Dots ki.Dots gs m (t ∷ u) w gs' refl (λ y. refl)
    (mark_means x ki.Dots si.Dots t gs m u w gs' refl (record { none = refl; operator = refl; yield = refl }) e h)
dots_means x (cl.Sign _) t gs m u w gs' o e h = absurd h
dots_means x _ t gs m u w gs' o e h = absurd h

by_ref_means : (x : Source) → RowMeans x by_ref_row so.ByRef
by_ref_means x (cl.Sign si.Ampersand) t gs m u w gs' o e h =
    form_tree x so.ByRef ki.ByRef gs m (t ∷ u) w gs' refl (λ y. refl)
    (mark_means x ki.ByRef si.Ampersand t gs m u w gs' refl (record { none = refl; operator = refl; yield = refl }) e h)
by_ref_means x (cl.Sign _) t gs m u w gs' o e h = absurd h
by_ref_means x _ t gs m u w gs' o e h = absurd h

params_means : (x : Source) → RowMeans x params_row so.Params
params_means x (cl.Sign si.LeftParen) t gs m u w gs' o e h =
    form_tree x so.Params ki.Params gs m (t ∷ u) w gs' refl (λ y. refl)
    (opens_means x ki.Params si.LeftParen (pi.List so.Param ∷ pi.Fixed si.RightParen ∷ []) t gs m u w gs' refl
    (record { none = refl; operator = refl; yield = refl }) (refl, tt) e h)
params_means x (cl.Sign _) t gs m u w gs' o e h = absurd h
params_means x _ t gs m u w gs' o e h = absurd h

-- the name of a binding, its type and its value
abbrev bound_pieces : List Piece
bound_pieces = pi.Own ow.Name ∷ pi.Led si.Colon so.Type ∷ pi.Fixed si.Equals ∷ pi.Kid expr ∷ []

let_means : (x : Source) → RowMeans x let_row so.Let
let_means x (cl.Sign si.Let) t gs m u w gs' o e h =
    form_tree x so.Let ki.Let gs m (t ∷ u) w gs' refl (λ y. refl)
    (opens_means x ki.Let si.Let (bound_pieces) t gs m u w gs' refl (record { none = refl; operator = refl; yield = refl })
    (refl, (refl, refl, (refl, tt))) e h)
let_means x (cl.Sign _) t gs m u w gs' o e h = absurd h
let_means x _ t gs m u w gs' o e h = absurd h

binding_means : (x : Source) → RowMeans x binding_row so.Binding
binding_means x (cl.Sign si.Let) t gs m u w gs' o e h =
    form_tree x so.Binding ki.Binding gs m (t ∷ u) w gs' refl (λ y. refl)
    (opens_means x ki.Binding si.Let (pi.Own ow.Name ∷ pi.Optional so.ByRef ∷ pi.Fixed si.DotDot ∷ []) t gs m u w gs' refl
    (record { none = refl; operator = refl; yield = refl }) (refl, (refl, tt)) e h)
binding_means x (cl.Sign _) t gs m u w gs' o e h = absurd h
binding_means x _ t gs m u w gs' o e h = absurd h

case_means : (x : Source) → RowMeans x case_row so.Case
case_means x (cl.Sign si.Case) t gs m u w gs' o e h =
    form_tree x so.Case ki.Case gs m (t ∷ u) w gs' refl (λ y. refl)
    (opens_means x ki.Case si.Case (pi.Optional so.Pattern ∷ pi.Fixed si.Arrow ∷ pi.EachFollowed so.Statement si.Semicolon ∷ []) t gs m u w
    gs' refl (record { none = refl; operator = refl; yield = refl }) (refl, (refl, tt)) e h)
case_means x (cl.Sign _) t gs m u w gs' o e h = absurd h
case_means x _ t gs m u w gs' o e h = absurd h

switch_case_means : (x : Source) → RowMeans x switch_case_row so.SwitchCase
switch_case_means x (cl.Sign si.Case) t gs m u w gs' o e h =
    form_tree x so.SwitchCase ki.SwitchCase gs m (t ∷ u) w gs' refl (λ y. refl)
    (opens_means x ki.SwitchCase si.Case (pi.Optional so.Values ∷ pi.Fixed si.Arrow ∷ pi.EachFollowed so.Statement si.Semicolon ∷ []) t gs m
    u w gs' refl (record { none = refl; operator = refl; yield = refl }) (refl, (refl, tt)) e h)
switch_case_means x (cl.Sign _) t gs m u w gs' o e h = absurd h
switch_case_means x _ t gs m u w gs' o e h = absurd h

-- ---- statements, patterns and values

level_statement : (k : Kind) (y : List ℕ) → admits (so.Level 1) k y ≡ true → admits so.Statement k y ≡ true
level_statement ki.Let y e = refl
level_statement ki.Const y e = refl
level_statement ki.Defer y e = refl
level_statement _ y e = e

statement_means : (x : Source) → RowMeans x statement_row so.Statement
statement_means x (cl.Sign si.Let) t gs m u w gs' o e h =
    form_tree x so.Statement ki.Let gs m (t ∷ u) w gs' refl (λ y. refl)
    (opens_means x ki.Let si.Let (bound_pieces) t gs m u w gs' refl (record { none = refl; operator = refl; yield = refl })
    (refl, (refl, refl, (refl, tt))) e h)
statement_means x (cl.Sign si.Const) t gs m u w gs' o e h =
    form_tree x so.Statement ki.Const gs m (t ∷ u) w gs' refl (λ y. refl)
    (opens_means x ki.Const si.Const (bound_pieces) t gs m u w gs' refl (record { none = refl; operator = refl; yield = refl })
    (refl, (refl, refl, (refl, tt))) e h)
statement_means x (cl.Sign si.Defer) t gs m u w gs' o e h =
    form_tree x so.Statement ki.Defer gs m (t ∷ u) w gs' refl (λ y. refl)
    (opens_means x ki.Defer si.Defer (pi.Kid expr ∷ []) t gs m u w gs' refl (record { none = refl; operator = refl; yield = refl })
    (refl, tt) e h)
statement_means x c t gs m u w gs' o e h = tree_as x (so.Level 1) so.Statement gs m (t ∷ u) w gs' level_statement
    (level_means x 1 c t gs m u w gs' o e h)

type_pattern : (k : Kind) (y : List ℕ) → admits so.Type k y ≡ true → admits so.Pattern k y ≡ true
type_pattern ki.PatternLet y e = refl
type_pattern ki.PatternNull y e = refl
type_pattern _ y e = e

pattern_means : (x : Source) → RowMeans x pattern_row so.Pattern
pattern_means x (cl.Sign si.Let) t gs m u w gs' o e h =
    form_tree x so.Pattern ki.PatternLet gs m (t ∷ u) w gs' refl (λ y. refl)
    (opens_means x ki.PatternLet si.Let (pi.Own ow.Name ∷ pi.Fixed si.Colon ∷ pi.Kid so.Type ∷ []) t gs m u w gs' refl
    (record { none = refl; operator = refl; yield = refl }) (refl, (refl, tt)) e h)
pattern_means x (cl.Sign si.Null) t gs m u w gs' o e h =
    form_tree x so.Pattern ki.PatternNull gs m (t ∷ u) w gs' refl (λ y. refl)
    (mark_means x ki.PatternNull si.Null t gs m u w gs' refl (record { none = refl; operator = refl; yield = refl }) e h)
pattern_means x c t gs m u w gs' o e h = tree_as x so.Type so.Pattern gs m (t ∷ u) w gs' type_pattern (type_means x c t gs m u w gs' o e h)

values_means : (x : Source) → RowMeans x values_row so.Values
values_means x c t gs m u w gs' o e h =
    let g = begun t.place [] in
    let r0 = before (level_row 1 c) (rest_of 1 ki.Values) in
    let h1 = used_led x (ch.Open ∷ []) r0 t gs m u w gs' h in
    let r = unit x (level_row 1) expr (level_means x 1) (rest_of 1 ki.Values) c t (g ∷ gs) m u w gs' e h1 in
    let d = whole_form x ki.Values (pi.Kid expr ∷ pi.More expr ∷ []) g gs m (t ∷ u) w gs' (refl, (refl, tt)) (λ y. cc) r in
    form_tree x so.Values ki.Values gs m (t ∷ u) w gs' refl (λ y. refl)
    (ended_form x ki.Values g gs m (t ∷ u) w gs' (record { none = refl; operator = refl; yield = refl })
    (record { text = refl; number = refl; suffix = refl }) refl (used_place x r0 t (g ∷ gs) m u w gs' h1) d)

-- ---- all sorts

abbrev named_pieces : List Piece
named_pieces = pi.Fixed si.Colon ∷ pi.Kid so.Type ∷ []

pub of_means : (x : Source) (s : Sort) → RowMeans x (of_row s) s
of_means x so.Use = use_means x
of_means x so.Decl = decl_means x
of_means x so.ImportPath = import_path_means x
of_means x so.Name = name_means x
of_means x so.PathName = further_name_means x
of_means x so.Export = export_means x
of_means x so.Params = params_means x
of_means x so.Param = named_means x so.Param ki.Param named_pieces refl (record { none = refl; operator = refl; yield = refl }) (refl, tt)
    refl (λ y. refl) refl
of_means x so.StructField = named_means x so.StructField ki.StructField named_pieces refl
    (record { none = refl; operator = refl; yield = refl }) (refl, tt) refl (λ y. refl) refl
of_means x so.Dots = dots_means x
of_means x so.ByRef = by_ref_means x
of_means x so.Type = type_means x
of_means x so.BareType = bare_means x
of_means x so.Member = member_means x
of_means x so.TypePath = type_path_means x
of_means x so.Length = length_means x
of_means x so.Message = message_means x
of_means x (so.Level l) = level_means x l
of_means x so.Left = λ c t gs m u w gs' o e h. absurd h
of_means x so.Right = λ c t gs m u w gs' o e h. absurd h
of_means x so.FieldValue = named_means x so.FieldValue ki.FieldValue (pi.Fixed si.Equals ∷ pi.Kid expr ∷ []) refl
    (record { none = refl; operator = refl; yield = refl }) (refl, tt) refl (λ y. refl) refl
of_means x so.Let = let_means x
of_means x so.Binding = binding_means x
of_means x so.Statement = statement_means x
of_means x so.Pattern = pattern_means x
of_means x so.Case = case_means x
of_means x so.SwitchCase = switch_case_means x
of_means x so.Values = values_means x
