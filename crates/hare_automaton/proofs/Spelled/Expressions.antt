-- Every tree is read from its tokens, kind by kind.
use Rattle.std.proofs.Common.{◌≡◌, ℕ, zero, suc, ◌≤◌, List, [], ◌∷◌, ◌++◌, true, false, refl, sym, ◌∙◌, subst, arith}
use Rattle.std.specs.Prelude.{nat_le}
use Rattle.hare_tree.specs.declared.kind.Kind.{Kind}
use Rattle.hare_tree.specs.declared.kind.Kind.TheVariants as ki
use Rattle.hare_tree.specs.declared.token.Token.{Token}
use Rattle.hare_tree.specs.declared.form.Sign.TheVariants as si
use Rattle.hare_tree.specs.declared.form.Sort.{Sort}
use Rattle.hare_tree.specs.declared.form.Sort.TheVariants as so
use Rattle.hare_tree.specs.Node.{Head, Nodes, branch, size_of, sizes_of}
use Rattle.hare_tree.specs.Forms.{unary, postfix}
use Rattle.hare_tree.specs.Levels.{level, admits, is_type}
use Rattle.hare_tree.specs.Spell.{spell}
use Rattle.hare_tree.specs.Shape.{is_shaped}
use Rattle.hare_automaton.specs.declared.class.Class.{Class}
use Rattle.hare_automaton.specs.declared.class.Class.TheVariants as cl
use Rattle.hare_automaton.specs.declared.rule.Rule.TheVariants as ru
use Rattle.hare_automaton.specs.declared.rule.Symbol.{Symbol}
use Rattle.hare_automaton.specs.declared.rule.Change.{Change}
use Rattle.hare_automaton.specs.Classes.{class_of}
use Rattle.hare_automaton.specs.Rows.{Uses, of, has_sign}
use Rattle.hare_automaton.specs.DeclarationRows.{of_row}
use Rattle.hare_automaton.specs.Engine.{Group, run}
use Rattle.hare_automaton.specs.OneTree.{is_sort_of_types as typed, is_sort as covered}
use Rattle.hare_automaton.proofs.Machine.Steps.{front, run_uses}
use Rattle.hare_automaton.proofs.Spelled.Lists.{Begins, begins}
use Rattle.hare_automaton.proofs.Spelled.Types.{reads as types_read}
use Rattle.hare_automaton.proofs.Machine.Edges.{Edge, pull, le_true, true_le, reach, left, ReadsTo}
use Rattle.hare_automaton.proofs.Spelled.Nodes.{Whole, whole, Claim, tops}
use Rattle.hare_automaton.proofs.Spelled.Openers.{word_reads, opened_neg, opened_not, opened_bang, opened_deref, opened_addr, opened_free, opened_delete, opened_len, opened_offset, opened_size, opened_align, opened_array, opened_alloc, opened_append, opened_abort, opened_assert, opened_if, opened_break, opened_continue, opened_return, opened_match, opened_switch, let_reads, const_reads, defer_reads, loop_let_reads, binding_reads, pattern_let_reads, case_reads, switch_case_reads}
use Rattle.hare_automaton.proofs.Spelled.Operators.{is_expr, shaped_by, behind_reads, behinds_try, behinds_force, behinds_field, behinds_call, behinds_cast, behinds_as, behinds_is, behinds_assign, binary_reads, binaries_arith, binaries_shift, binaries_less, binaries_equal, binaries_logic, op_assign_reads}
use Rattle.hare_automaton.proofs.Spelled.Leaves.{mark_reads, number_reads, rune_reads, str_reads, bool_reads, message_reads, null_reads, void_reads, field_value_reads, path_reads, struct_reads}
use Rattle.hare_automaton.proofs.Spelled.Late.{block_reads, paren_reads, tuple_reads, index_reads, slice_reads}
use Rattle.hare_automaton.proofs.Spelled.Names.{name_reads, path_name_reads, import_path_reads, param_reads}
use Rattle.hare_automaton.proofs.Spelled.Imports.{use_reads}
use Rattle.hare_automaton.proofs.Spelled.Declarations.{params_kind, params_reads, decl_reads}
use Rattle.hare_automaton.proofs.Spelled.Loops.{let_kind, binding_kind, by_ref_kind, yield_reads, values_reads, for_reads, for_each_reads}

-- ---- expressions

expression_reads : (f n : ℕ) → ReadsTo f n → (s : Sort) (k : Kind) (h : Head) (ts : Nodes) → sizes_of ts ≤ n → is_expr s ≡ true →
    h.kind ≡ k → tops s (level k h.text) ≡ true → nat_le 1 (level k h.text) ≡ true → Whole s h ts →
    (w : List Token) (st : List Symbol) (g : Group) (gs : List Group) → Edge s (front w) (branch h ts) → Claim f s h ts w st g gs
expression_reads f n ih s ki.Assign h ts z c i t o p w st g gs x =
    behind_reads f n ih s ki.Assign si.Equals _ unary 14 1 h ts z c i behinds_assign t p w st g gs x
expression_reads f n ih s ki.OpAssign h ts z c i t o p w st g gs x = op_assign_reads f n ih s h ts z c i t p w st g gs x
expression_reads f n ih s ki.If h ts z c i t o p w st g gs x = word_reads f n ih s ki.If si.If _ 1 h ts z i opened_if t p w st g gs x
expression_reads f n ih s ki.For h ts z c i t o p w st g gs x = for_reads f n ih s h ts z i t p w st g gs x
expression_reads f n ih s ki.ForEach h ts z c i t o p w st g gs x = for_each_reads f n ih s h ts z i t p w st g gs x
expression_reads f n ih s ki.Break h ts z c i t o p w st g gs x =
    word_reads f n ih s ki.Break si.Break _ 1 h ts z i opened_break t p w st g gs x
expression_reads f n ih s ki.Continue h ts z c i t o p w st g gs x =
    word_reads f n ih s ki.Continue si.Continue _ 1 h ts z i opened_continue t p w st g gs x
expression_reads f n ih s ki.Return h ts z c i t o p w st g gs x =
    word_reads f n ih s ki.Return si.Return _ 1 h ts z i opened_return t p w st g gs x
expression_reads f n ih s ki.Yield h ts z c i t o p w st g gs x = yield_reads f n ih s h ts z i t p w st g gs x
expression_reads f n ih s ki.Arith h ts z c i t o p w st g gs x = binary_reads f n ih s ki.Arith h ts z c i binaries_arith t p w st g gs x
expression_reads f n ih s ki.Shift h ts z c i t o p w st g gs x = binary_reads f n ih s ki.Shift h ts z c i binaries_shift t p w st g gs x
expression_reads f n ih s ki.Less h ts z c i t o p w st g gs x = binary_reads f n ih s ki.Less h ts z c i binaries_less t p w st g gs x
expression_reads f n ih s ki.Equal h ts z c i t o p w st g gs x = binary_reads f n ih s ki.Equal h ts z c i binaries_equal t p w st g gs x
expression_reads f n ih s ki.Logic h ts z c i t o p w st g gs x = binary_reads f n ih s ki.Logic h ts z c i binaries_logic t p w st g gs x
expression_reads f n ih s ki.Cast h ts z c i t o p w st g gs x =
    behind_reads f n ih s ki.Cast si.Colon _ so.Left 13 13 h ts z c i behinds_cast t p w st g gs x
expression_reads f n ih s ki.As h ts z c i t o p w st g gs x =
    behind_reads f n ih s ki.As si.As _ so.Left 13 13 h ts z c i behinds_as t p w st g gs x
expression_reads f n ih s ki.Is h ts z c i t o p w st g gs x =
    behind_reads f n ih s ki.Is si.Is _ so.Left 13 13 h ts z c i behinds_is t p w st g gs x
expression_reads f n ih s ki.Neg h ts z c i t o p w st g gs x = word_reads f n ih s ki.Neg si.Minus _ 14 h ts z i opened_neg t p w st g gs x
expression_reads f n ih s ki.Not h ts z c i t o p w st g gs x = word_reads f n ih s ki.Not si.Tilde _ 14 h ts z i opened_not t p w st g gs x
expression_reads f n ih s ki.Bang h ts z c i t o p w st g gs x =
    word_reads f n ih s ki.Bang si.Bang _ 14 h ts z i opened_bang t p w st g gs x
expression_reads f n ih s ki.Deref h ts z c i t o p w st g gs x =
    word_reads f n ih s ki.Deref si.Star _ 14 h ts z i opened_deref t p w st g gs x
expression_reads f n ih s ki.Addr h ts z c i t o p w st g gs x =
    word_reads f n ih s ki.Addr si.Ampersand _ 14 h ts z i opened_addr t p w st g gs x
expression_reads f n ih s ki.Call h ts z c i t o p w st g gs x =
    behind_reads f n ih s ki.Call si.LeftParen _ postfix 15 15 h ts z c i behinds_call t p w st g gs x
expression_reads f n ih s ki.Index h ts z c i t o p w st g gs x = index_reads f n ih s h ts z c i t p w st g gs
expression_reads f n ih s ki.Slice h ts z c i t o p w st g gs x = slice_reads f n ih s h ts z c i t p w st g gs
expression_reads f n ih s ki.Field h ts z c i t o p w st g gs x =
    behind_reads f n ih s ki.Field si.Dot _ postfix 15 15 h ts z c i behinds_field t p w st g gs x
expression_reads f n ih s ki.Try h ts z c i t o p w st g gs x =
    behind_reads f n ih s ki.Try si.Question _ postfix 15 15 h ts z c i behinds_try t p w st g gs x
expression_reads f n ih s ki.Force h ts z c i t o p w st g gs x =
    behind_reads f n ih s ki.Force si.Bang _ postfix 15 15 h ts z c i behinds_force t p w st g gs x
expression_reads f n ih s ki.Number h ts z c i t o p w st g gs x = number_reads f s h ts i t p w st g gs
expression_reads f n ih s ki.RuneLit h ts z c i t o p w st g gs x = rune_reads f s h ts i t p w st g gs
expression_reads f n ih s ki.Str h ts z c i t o p w st g gs x = str_reads f s h ts i t p w st g gs
expression_reads f n ih s ki.Bool h ts z c i t o p w st g gs x = bool_reads f s h ts i t p w st g gs
expression_reads f n ih s ki.Null h ts z c i t o p w st g gs x = null_reads f s h ts i t p w st g gs
expression_reads f n ih s ki.Void h ts z c i t o p w st g gs x = void_reads f s h ts i t p w st g gs
expression_reads f n ih s ki.Path h ts z c i t o p w st g gs x = path_reads f s h ts i t p w st g gs x
expression_reads f n ih s ki.Paren h ts z c i t o p w st g gs x = paren_reads f n ih s h ts z i t p w st g gs
expression_reads f n ih s ki.Free h ts z c i t o p w st g gs x =
    word_reads f n ih s ki.Free si.Free _ 16 h ts z i opened_free t p w st g gs x
expression_reads f n ih s ki.Delete h ts z c i t o p w st g gs x =
    word_reads f n ih s ki.Delete si.Delete _ 16 h ts z i opened_delete t p w st g gs x
expression_reads f n ih s ki.Len h ts z c i t o p w st g gs x = word_reads f n ih s ki.Len si.Len _ 16 h ts z i opened_len t p w st g gs x
expression_reads f n ih s ki.Offset h ts z c i t o p w st g gs x =
    word_reads f n ih s ki.Offset si.Offset _ 16 h ts z i opened_offset t p w st g gs x
expression_reads f n ih s ki.Size h ts z c i t o p w st g gs x =
    word_reads f n ih s ki.Size si.Size _ 16 h ts z i opened_size t p w st g gs x
expression_reads f n ih s ki.Align h ts z c i t o p w st g gs x =
    word_reads f n ih s ki.Align si.Align _ 16 h ts z i opened_align t p w st g gs x
expression_reads f n ih s ki.StructLit h ts z c i t o p w st g gs x = struct_reads f n ih s h ts z i t p w st g gs
expression_reads f n ih s ki.Tuple h ts z c i t o p w st g gs x = tuple_reads f n ih s h ts z i t p w st g gs
expression_reads f n ih s ki.Array h ts z c i t o p w st g gs x =
    word_reads f n ih s ki.Array si.LeftBracket _ 16 h ts z i opened_array t p w st g gs x
expression_reads f n ih s ki.Alloc h ts z c i t o p w st g gs x =
    word_reads f n ih s ki.Alloc si.Alloc _ 16 h ts z i opened_alloc t p w st g gs x
expression_reads f n ih s ki.Append h ts z c i t o p w st g gs x =
    word_reads f n ih s ki.Append si.Append _ 16 h ts z i opened_append t p w st g gs x
expression_reads f n ih s ki.Abort h ts z c i t o p w st g gs x =
    word_reads f n ih s ki.Abort si.Abort _ 16 h ts z i opened_abort t p w st g gs x
expression_reads f n ih s ki.Assert h ts z c i t o p w st g gs x =
    word_reads f n ih s ki.Assert si.Assert _ 16 h ts z i opened_assert t p w st g gs x
expression_reads f n ih s ki.Block h ts z c i t o p w st g gs x = block_reads f n ih s h ts z i t p w st g gs x
expression_reads f n ih s ki.Match h ts z c i t o p w st g gs x =
    word_reads f n ih s ki.Match si.Match _ 16 h ts z i opened_match t p w st g gs x
expression_reads f n ih s ki.Switch h ts z c i t o p w st g gs x =
    word_reads f n ih s ki.Switch si.Switch _ 16 h ts z i opened_switch t p w st g gs x
expression_reads f n ih s _ h ts z c i t o p w st g gs x = cc

statement_reads : (f n : ℕ) → ReadsTo f n → (k : Kind) (h : Head) (ts : Nodes) → sizes_of ts ≤ n → h.kind ≡ k →
    admits so.Statement k h.text ≡ true → Whole so.Statement h ts → (w : List Token) (st : List Symbol) (g : Group) (gs : List Group) →
    Edge so.Statement (front w) (branch h ts) → Claim f so.Statement h ts w st g gs
statement_reads f n ih ki.Let h ts z i e p w st g gs x = let_reads f n ih h ts z i p w st g gs x
statement_reads f n ih ki.Const h ts z i e p w st g gs x = const_reads f n ih h ts z i p w st g gs x
statement_reads f n ih ki.Defer h ts z i e p w st g gs x = defer_reads f n ih h ts z i p w st g gs x
statement_reads f n ih k h ts z i e p w st g gs x = expression_reads f n ih so.Statement k h ts z refl i e e p w st g gs x

-- ---- types

left_typed : (s : Sort) (j : ℕ) → typed s ≡ true → left s j ≡ []
left_typed so.Type j e = refl
left_typed so.BareType j e = refl
left_typed so.Member j e = refl
left_typed so.TypePath j e = refl
left_typed so.Length j e = refl
left_typed so.StructField j e = refl
left_typed _ j e = cc

reach_typed : (s : Sort) (j : ℕ) → typed s ≡ true → reach s j ≡ 16
reach_typed so.Type j e = refl
reach_typed so.BareType j e = refl
reach_typed so.Member j e = refl
reach_typed so.TypePath j e = refl
reach_typed so.Length j e = refl
reach_typed so.StructField j e = refl
reach_typed _ j e = cc

no_path : (c : Class) → pull c ≤ 16 → has_sign si.PathMark c ≡ false
no_path (cl.Sign si.PathMark) e = absurd (omega (arith, e))
no_path (cl.Sign _) e = refl
no_path _ e = refl

typed_reads : (f n : ℕ) (s : Sort) (h : Head) (ts : Nodes) → sizes_of ts ≤ n → typed s ≡ true → is_shaped s (branch h ts) ≡ true →
    (w : List Token) (st : List Symbol) (g : Group) (gs : List Group) → Edge s (front w) (branch h ts) → Claim f s h ts w st g gs
typed_reads f n s h ts z c e w st g gs x =
    let q : pull (front w) ≤ 16 = subst (λ y. pull (front w) ≤ y) (reach_typed s (level h.kind h.text) c) x.reaches in
    rw (left_typed s (level h.kind h.text) c) (types_read f (suc n) s (branch h ts) (omega (arith, z)) c e w st g gs (no_path (front w) q))

pattern_type : (c : Class) (cs : List Change) (ss : List Symbol) → of_row so.Type c ≡ Uses cs ss → of_row so.Pattern c ≡ Uses cs ss
pattern_type (cl.Sign si.Let) cs ss e = cc
pattern_type (cl.Sign si.Null) cs ss e = cc
pattern_type (cl.Sign _) cs ss e = e
pattern_type _ cs ss e = e

pattern_starts : (f : ℕ) (u w : List Token) (st : List Symbol) (gs : List Group) → Begins so.Type u →
    run f (u ++ w) (of so.Pattern ∷ st) gs ≡ run f (u ++ w) (of so.Type ∷ st) gs
pattern_starts f u w st gs b =
    rw b.is
    (run_uses f b.head (b.tail ++ w) (ru.Of so.Pattern) st gs b.changes b.symbols
    (pattern_type (class_of b.head) b.changes b.symbols b.uses)
    ∙ sym (run_uses f b.head (b.tail ++ w) (ru.Of so.Type) st gs b.changes b.symbols b.uses))

-- a pattern that is a type is read as one
type_pattern_reads : (f n : ℕ) (h : Head) (ts : Nodes) → sizes_of ts ≤ n → is_type h.kind ≡ true →
    is_shaped so.Pattern (branch h ts) ≡ true → (w : List Token) (st : List Symbol) (g : Group) (gs : List Group) →
    Edge so.Pattern (front w) (branch h ts) → Claim f so.Pattern h ts w st g gs
type_pattern_reads f n h ts z a e w st g gs x =
    let e' : is_shaped so.Type (branch h ts) ≡ true = shaped_by so.Type so.Pattern h ts a e in
    let y : size_of (branch h ts) ≤ suc n = omega (arith, z) in
    pattern_starts f (spell f (branch h ts)) w st (g ∷ gs) (begins f (suc n) (types_read f (suc n)) so.Type (branch h ts) y refl e')
    ∙ types_read f (suc n) so.Type (branch h ts) y refl e' w st g gs (no_path (front w) x.reaches)

pattern_reads : (f n : ℕ) → ReadsTo f n → (k : Kind) (h : Head) (ts : Nodes) → sizes_of ts ≤ n → h.kind ≡ k →
    admits so.Pattern k h.text ≡ true → is_shaped so.Pattern (branch h ts) ≡ true →
    (w : List Token) (st : List Symbol) (g : Group) (gs : List Group) → Edge so.Pattern (front w) (branch h ts) →
    Claim f so.Pattern h ts w st g gs
pattern_reads f n ih ki.PatternLet h ts z i a e w st g gs x = pattern_let_reads f n ih h ts z i (whole so.Pattern h ts e) w st g gs x
pattern_reads f n ih ki.PatternNull h ts z i a e w st g gs x =
    mark_reads f so.Pattern ki.PatternNull si.Null h ts i refl refl (whole so.Pattern h ts e) w st g gs
pattern_reads f n ih k h ts z i a e w st g gs x = type_pattern_reads f n h ts z (rw i a) e w st g gs x

-- ---- sorts of one kind

message_kind : (k : Kind) (x : List ℕ) → admits so.Message k x ≡ true → k ≡ ki.Message
message_kind ki.Message x a = refl
message_kind _ x a = cc

dots_kind : (k : Kind) (x : List ℕ) → admits so.Dots k x ≡ true → k ≡ ki.Dots
dots_kind ki.Dots x a = refl
dots_kind _ x a = cc

field_kind : (k : Kind) (x : List ℕ) → admits so.FieldValue k x ≡ true → k ≡ ki.FieldValue
field_kind ki.FieldValue x a = refl
field_kind _ x a = cc

case_kind : (k : Kind) (x : List ℕ) → admits so.Case k x ≡ true → k ≡ ki.Case
case_kind ki.Case x a = refl
case_kind _ x a = cc

switch_case_kind : (k : Kind) (x : List ℕ) → admits so.SwitchCase k x ≡ true → k ≡ ki.SwitchCase
switch_case_kind ki.SwitchCase x a = refl
switch_case_kind _ x a = cc

values_kind : (k : Kind) (x : List ℕ) → admits so.Values k x ≡ true → k ≡ ki.Values
values_kind ki.Values x a = refl
values_kind _ x a = cc

export_kind : (k : Kind) (x : List ℕ) → admits so.Export k x ≡ true → k ≡ ki.Export
export_kind ki.Export x a = refl
export_kind _ x a = cc

-- ---- all sorts

-- no `::` goes on with a path that ends there
path_ends : (h : Head) (ts : Nodes) (w : List Token) → Edge so.ImportPath (front w) (branch h ts) → has_sign si.PathMark (front w) ≡ false
path_ends h ts w x = no_path (front w) x.reaches

up : (l j : ℕ) → nat_le 1 l ≡ true → nat_le l j ≡ true → nat_le 1 j ≡ true
up l j a b = let x = true_le 1 l a in let y = true_le l j b in le_true 1 j (omega (arith, x, y))

sort_reads : (f n : ℕ) → ReadsTo f n → (s : Sort) (h : Head) (ts : Nodes) → sizes_of ts ≤ n → covered s ≡ true →
    is_shaped s (branch h ts) ≡ true → Whole s h ts → (w : List Token) (st : List Symbol) (g : Group) (gs : List Group) →
    Edge s (front w) (branch h ts) → Claim f s h ts w st g gs
sort_reads f n ih (so.Level l) h ts z c e p w st g gs x =
    expression_reads f n ih (so.Level l) h.kind h ts z c refl p.admitted (up l (level h.kind h.text) c p.admitted) p w st g gs x
sort_reads f n ih so.Statement h ts z c e p w st g gs x = statement_reads f n ih h.kind h ts z refl p.admitted p w st g gs x
sort_reads f n ih so.Pattern h ts z c e p w st g gs x = pattern_reads f n ih h.kind h ts z refl p.admitted e w st g gs x
sort_reads f n ih so.Message h ts z c e p w st g gs x = message_reads f h ts (message_kind h.kind h.text p.admitted) p w st g gs
sort_reads f n ih so.Dots h ts z c e p w st g gs x =
    mark_reads f so.Dots ki.Dots si.Dots h ts (dots_kind h.kind h.text p.admitted) refl refl p w st g gs
sort_reads f n ih so.ByRef h ts z c e p w st g gs x =
    mark_reads f so.ByRef ki.ByRef si.Ampersand h ts (by_ref_kind h.kind h.text p.admitted) refl refl p w st g gs
sort_reads f n ih so.FieldValue h ts z c e p w st g gs x =
    field_value_reads f n ih h ts z (field_kind h.kind h.text p.admitted) p w st g gs x
sort_reads f n ih so.Let h ts z c e p w st g gs x = loop_let_reads f n ih h ts z (let_kind h.kind h.text p.admitted) p w st g gs x
sort_reads f n ih so.Binding h ts z c e p w st g gs x = binding_reads f n ih h ts z (binding_kind h.kind h.text p.admitted) p w st g gs x
sort_reads f n ih so.Case h ts z c e p w st g gs x = case_reads f n ih h ts z (case_kind h.kind h.text p.admitted) p w st g gs x
sort_reads f n ih so.SwitchCase h ts z c e p w st g gs x =
    switch_case_reads f n ih h ts z (switch_case_kind h.kind h.text p.admitted) p w st g gs x
sort_reads f n ih so.Values h ts z c e p w st g gs x = values_reads f n ih h ts z (values_kind h.kind h.text p.admitted) p w st g gs x
sort_reads f n ih so.Use h ts z c e p w st g gs x = use_reads f n ih h.kind h ts z refl p.admitted p w st g gs
sort_reads f n ih so.Decl h ts z c e p w st g gs x = decl_reads f n ih h.kind h ts z refl p.admitted p w st g gs
sort_reads f n ih so.ImportPath h ts z c e p w st g gs x = import_path_reads f h ts e w st g gs (path_ends h ts w x)
sort_reads f n ih so.Name h ts z c e p w st g gs x = name_reads f h ts p w st g gs
sort_reads f n ih so.PathName h ts z c e p w st g gs x = path_name_reads f h ts p w st g gs
sort_reads f n ih so.Export h ts z c e p w st g gs x =
    mark_reads f so.Export ki.Export si.Export h ts (export_kind h.kind h.text p.admitted) refl refl p w st g gs
sort_reads f n ih so.Params h ts z c e p w st g gs x = params_reads f n ih h ts z (params_kind h.kind h.text p.admitted) p w st g gs x
sort_reads f n ih so.Param h ts z c e p w st g gs x = param_reads f n ih h ts z p w st g gs x
sort_reads f n ih s h ts z c e p w st g gs x = typed_reads f n s h ts z c e w st g gs x

-- what is spelled is read, of every size
pub reads : (f n : ℕ) → ReadsTo f n
reads f zero s (branch h ts) z c e w st g gs x = absurd (omega (arith, z))
reads f (suc n) s (branch h ts) z c e w st g gs x = sort_reads f n (reads f n) s h ts (omega (arith, z)) c e (whole s h ts e) w st g gs x
