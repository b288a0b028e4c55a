-- Expressions and statements that begin with a sign of their own, one line for each kind.
use Rattle.std.proofs.Common.{◌≡◌, ℕ, ◌≤◌, List, [], ◌∷◌, true, false, refl, ap, sym, ◌∙◌, subst, arith}
use Rattle.hare_tree.specs.declared.kind.Kind.{Kind}
use Rattle.hare_tree.specs.declared.kind.Kind.TheVariants as ki
use Rattle.hare_tree.specs.declared.token.Token.{Token}
use Rattle.hare_tree.specs.declared.form.Sign.{Sign}
use Rattle.hare_tree.specs.declared.form.Sign.TheVariants as si
use Rattle.hare_tree.specs.declared.form.Own.TheVariants as ow
use Rattle.hare_tree.specs.declared.form.Sort.{Sort}
use Rattle.hare_tree.specs.declared.form.Sort.TheVariants as so
use Rattle.hare_tree.specs.declared.form.Piece.{Piece}
use Rattle.hare_tree.specs.declared.form.Piece.TheVariants as pi
use Rattle.hare_tree.specs.Node.{Head, Nodes, branch, sizes_of}
use Rattle.hare_tree.specs.Forms.{form_of, expr, unary}
use Rattle.hare_tree.specs.Levels.{level}
use Rattle.hare_tree.specs.Shape.{is_own, own_of}
use Rattle.hare_automaton.specs.declared.class.Class.{Class}
use Rattle.hare_automaton.specs.declared.class.Class.TheVariants as cl
use Rattle.hare_automaton.specs.declared.rule.Rule.TheVariants as ru
use Rattle.hare_automaton.specs.declared.rule.Symbol.{Symbol}
use Rattle.hare_automaton.specs.Rows.{Fault, before, opens, has_sign}
use Rattle.hare_automaton.specs.DeclarationRows.{of_row}
use Rattle.hare_automaton.specs.Table.{row}
use Rattle.hare_automaton.specs.Engine.{Group}
use Rattle.hare_automaton.specs.ExpressionRows.{level_row, start_row, start_level}
use Rattle.hare_automaton.proofs.Machine.Steps.{front}
use Rattle.hare_automaton.proofs.Machine.Edges.{Edge, pull, le_true, quiet_start, reach, tight, bound, closed_by, left, ReadsTo}
use Rattle.hare_automaton.proofs.Spelled.Forms.{has_own, Owns, Clear, at}
use Rattle.hare_automaton.proofs.Spelled.Nodes.{Whole, Claim, opens_reads, tops, expr_row}

-- what takes no more than the bound of a sort stands behind its trees
pub at_of : (s : Sort) (c : Class) → pull c ≤ bound s → closed_by s c ≡ true → at s c ≡ true
at_of s c e k = rw (le_true (pull c) (bound s) e, k) refl

pub top_reach : (s : Sort) (j : ℕ) → tops s j ≡ true → reach s j ≡ tight j
top_reach (so.Level l) j e = refl
top_reach so.Statement j e = refl
top_reach _ j e = cc

-- what stands behind an expression of a level takes nothing so tight
pub edge_pull : (s : Sort) (c : Class) (h : Head) (ts : Nodes) (j : ℕ) → level h.kind h.text ≡ j → tops s j ≡ true →
    Edge s c (branch h ts) → pull c ≤ tight j
edge_pull s c h ts j i t x =
    let r : pull c ≤ reach s j = subst (λ y. pull c ≤ reach s y) i x.reaches in
    subst (λ y. pull c ≤ y) (top_reach s j t) r

-- a form behind its sign
pub record Opened (k : Kind) (d : Sign) (ps : List Piece) (j : ℕ) : Type 0 where
  pub form : form_of k ≡ pi.Fixed d ∷ ps
  pub level_is : (x : List ℕ) → level k x ≡ j
  pub starts : start_level (cl.Sign d) ≡ j
  pub statement : of_row so.Statement (cl.Sign d) ≡ level_row 1 (cl.Sign d)
  pub row_is : start_row (cl.Sign d) ≡ opens k
  pub owns : (h : Head) → is_own (own_of ps) h ≡ true → Owns h ps
  pub nothing : has_own ps ≡ false → own_of ps ≡ ow.Nothing
  pub clear : (c : Class) → pull c ≤ tight j → Clear ps c

pub word_reads : (f n : ℕ) → ReadsTo f n → (s : Sort) (k : Kind) (d : Sign) (ps : List Piece) (j : ℕ) (h : Head) (ts : Nodes) →
    sizes_of ts ≤ n → h.kind ≡ k → Opened k d ps j → tops s j ≡ true → Whole s h ts →
    (w : List Token) (st : List Symbol) (g : Group) (gs : List Group) → Edge s (front w) (branch h ts) → Claim f s h ts w st g gs
word_reads f n ih s k d ps j h ts z i o t p w st g gs x =
    let lv : level h.kind h.text ≡ j = ap (λ y. level y h.text) i ∙ o.level_is h.text in
    let r : row (ru.Of s) (cl.Sign d) ≡ before (opens k) (left s (level h.kind h.text)) =
    subst (λ y. row (ru.Of s) (cl.Sign d) ≡ before (opens k) (left s y)) (sym lv)
    (expr_row s (cl.Sign d) j o.starts o.statement t ∙ ap (λ y. before y (left s j)) o.row_is) in
    let own : is_own (own_of ps) h ≡ true = subst (λ y. is_own (own_of y) h ≡ true) (ap form_of i ∙ o.form) p.own in
    opens_reads f n ih s k d ps h ts z w st g gs (record {
      kind_is = i;
      form = o.form;
      row_is = r;
      shaped = p;
      owns = o.owns h own;
      nothing = λ e. subst (λ y. is_own y h ≡ true) (o.nothing e) own;
      edge = x;
      clear = o.clear (front w) (edge_pull s (front w) h ts j lv t x);
    })

-- ---- prefix operators

abbrev prefix_word : Kind → Sign → Type 0
prefix_word k d = Opened k d (pi.Kid unary ∷ []) 14

pub opened_neg : prefix_word ki.Neg si.Minus
opened_neg = record {
  form = refl;
  level_is = λ x. refl;
  starts = refl;
  statement = refl;
  row_is = refl;
  owns = λ h e. tt;
  nothing = λ e.
      refl;
  clear = λ c q. (refl, at_of unary c q refl, tt);
}

pub opened_not : prefix_word ki.Not si.Tilde
opened_not = record {
  form = refl;
  level_is = λ x. refl;
  starts = refl;
  statement = refl;
  row_is = refl;
  owns = λ h e. tt;
  nothing = λ e.
      refl;
  clear = λ c q. (refl, at_of unary c q refl, tt);
}

pub opened_bang : prefix_word ki.Bang si.Bang
opened_bang = record {
  form = refl;
  level_is = λ x. refl;
  starts = refl;
  statement = refl;
  row_is = refl;
  owns = λ h e. tt;
  nothing = λ e.
      refl;
  clear = λ c q. (refl, at_of unary c q refl, tt);
}

pub opened_deref : prefix_word ki.Deref si.Star
opened_deref = record {
  form = refl;
  level_is = λ x. refl;
  starts = refl;
  statement = refl;
  row_is = refl;
  owns = λ h e. tt;
  nothing = λ e.
      refl;
  clear = λ c q. (refl, at_of unary c q refl, tt);
}

pub opened_addr : prefix_word ki.Addr si.Ampersand
opened_addr = record {
  form = refl;
  level_is = λ x. refl;
  starts = refl;
  statement = refl;
  row_is = refl;
  owns = λ h e. tt;
  nothing = λ e.
      refl;
  clear = λ c q. (refl, at_of unary c q refl, tt);
}

-- ---- a word and a list in parentheses or brackets

abbrev inside_word : Kind → Sign → Sort → Type 0
inside_word k d s = Opened k d (pi.Fixed si.LeftParen ∷ pi.Kid s ∷ pi.Fixed si.RightParen ∷ []) 16

pub opened_free : inside_word ki.Free si.Free expr
opened_free = record {
  form = refl;
  level_is = λ x. refl;
  starts = refl;
  statement = refl;
  row_is = refl;
  owns = λ h e. tt;
  nothing = λ e.
      refl;
  clear = λ c q. (refl, refl, tt);
}

pub opened_delete : inside_word ki.Delete si.Delete expr
opened_delete = record {
  form = refl;
  level_is = λ x. refl;
  starts = refl;
  statement = refl;
  row_is = refl;
  owns = λ h e. tt;
  nothing = λ e.
      refl;
  clear = λ c q. (refl, refl, tt);
}

pub opened_len : inside_word ki.Len si.Len expr
opened_len = record {
  form = refl;
  level_is = λ x. refl;
  starts = refl;
  statement = refl;
  row_is = refl;
  owns = λ h e. tt;
  nothing = λ e.
      refl;
  clear = λ c q. (refl, refl, tt);
}

pub opened_offset : inside_word ki.Offset si.Offset expr
opened_offset = record {
  form = refl;
  level_is = λ x. refl;
  starts = refl;
  statement = refl;
  row_is = refl;
  owns = λ h e. tt;
  nothing = λ e.
      refl;
  clear = λ c q. (refl, refl, tt);
}

pub opened_size : inside_word ki.Size si.Size so.Type
opened_size = record {
  form = refl;
  level_is = λ x. refl;
  starts = refl;
  statement = refl;
  row_is = refl;
  owns = λ h e. tt;
  nothing = λ e.
      refl;
  clear = λ c q. (refl, refl, tt);
}

pub opened_align : inside_word ki.Align si.Align so.Type
opened_align = record {
  form = refl;
  level_is = λ x. refl;
  starts = refl;
  statement = refl;
  row_is = refl;
  owns = λ h e. tt;
  nothing = λ e.
      refl;
  clear = λ c q. (refl, refl, tt);
}

pub opened_array : Opened ki.Array si.LeftBracket (pi.Elements expr ∷ pi.Fixed si.RightBracket ∷ []) 16
opened_array = record {
  form = refl;
  level_is = λ x. refl;
  starts = refl;
  statement = refl;
  row_is = refl;
  owns = λ h e. tt;
  nothing = λ e.
      refl;
  clear = λ c q. refl;
}

pub opened_alloc : Opened ki.Alloc si.Alloc (pi.Fixed si.LeftParen ∷ pi.Kid expr ∷ pi.Led si.Comma expr ∷ pi.Fixed si.RightParen ∷ []) 16
opened_alloc = record {
  form = refl;
  level_is = λ x. refl;
  starts = refl;
  statement = refl;
  row_is = refl;
  owns = λ h e. tt;
  nothing = λ e.
      refl;
  clear = λ c q. (refl, (refl, refl), (refl, tt, refl, refl, tt));
}

pub opened_append : Opened ki.Append si.Append
    (pi.Fixed si.LeftParen ∷ pi.Kid expr ∷ pi.Fixed si.Comma ∷ pi.Kid expr ∷ pi.Optional so.Dots ∷ pi.Fixed si.RightParen ∷ []) 16
opened_append = record {
  form = refl;
  level_is = λ x. refl;
  starts = refl;
  statement = refl;
  row_is = refl;
  owns = λ h e. tt;
  nothing = λ e.
      refl;
  clear = λ c q. (refl, refl, (refl, (refl, refl), (refl, tt, refl, refl, tt)));
}

pub opened_abort : Opened ki.Abort si.Abort (pi.Fixed si.LeftParen ∷ pi.Optional so.Message ∷ pi.Fixed si.RightParen ∷ []) 16
opened_abort = record {
  form = refl;
  level_is = λ x. refl;
  starts = refl;
  statement = refl;
  row_is = refl;
  owns = λ h e. tt;
  nothing = λ e.
      refl;
  clear = λ c q. (refl, tt, refl, refl, tt);
}

pub opened_assert : Opened ki.Assert si.Assert
    (pi.Fixed si.LeftParen ∷ pi.Kid expr ∷ pi.Led si.Comma so.Message ∷ pi.Fixed si.RightParen ∷ []) 16
opened_assert = record {
  form = refl;
  level_is = λ x. refl;
  starts = refl;
  statement = refl;
  row_is = refl;
  owns = λ h e. tt;
  nothing = λ e.
      refl;
  clear = λ c q. (refl, (refl, refl), (refl, tt, refl, refl, tt));
}

-- ---- control

pub opened_if : Opened ki.If si.If (pi.Fixed si.LeftParen ∷ pi.Kid expr ∷ pi.Fixed si.RightParen ∷ pi.Kid expr ∷ pi.Led si.Else expr ∷ []) 1
opened_if = record {
  form = refl;
  level_is = λ x. refl;
  starts = refl;
  statement = refl;
  row_is = refl;
  owns = λ h e. tt;
  nothing = λ e.
      refl;
  clear = λ c q. (refl, refl, (refl, (refl, at_of expr c q refl), (refl, tt, tt, at_of expr c q refl, tt)));
}

-- what takes nothing is no `:`
pub quiet_colon : (c : Class) → pull c ≤ 0 → has_sign si.Colon c ≡ false
quiet_colon (cl.Sign si.Colon) q = absurd (omega (arith, q))
quiet_colon (cl.Sign _) q = refl
quiet_colon _ q = refl

pub quiet_expr : (c : Class) → pull c ≤ 0 → of_row expr c ≡ Fault
quiet_expr c q = quiet_start c (omega (arith, q))

pub opened_break : Opened ki.Break si.Break (pi.Own ow.Label ∷ []) 1
opened_break = record {
  form = refl;
  level_is = λ x. refl;
  starts = refl;
  statement = refl;
  row_is = refl;
  owns = λ h e. (e, tt);
  nothing =
      λ e. cc;
  clear = λ c q. (tt, quiet_colon c q, refl, tt);
}

pub opened_continue : Opened ki.Continue si.Continue (pi.Own ow.Label ∷ []) 1
opened_continue = record {
  form = refl;
  level_is = λ x. refl;
  starts = refl;
  statement = refl;
  row_is = refl;
  owns = λ h e. (e, tt);
  nothing = λ e. cc;
  clear = λ c q. (tt, quiet_colon c q, refl, tt);
}

pub opened_return : Opened ki.Return si.Return (pi.Optional expr ∷ []) 1
opened_return = record {
  form = refl;
  level_is = λ x. refl;
  starts = refl;
  statement = refl;
  row_is = refl;
  owns = λ h e. tt;
  nothing = λ e.
      refl;
  clear = λ c q. (refl, tt, quiet_expr c q, at_of expr c q refl, tt);
}

pub opened_match : Opened ki.Match si.Match (pi.Fixed si.LeftParen ∷ pi.Kid expr ∷ pi.Fixed si.RightParen ∷ pi.Fixed si.LeftBrace ∷ pi.Each
    so.Case ∷ pi.Fixed si.RightBrace ∷ []) 16
opened_match = record {
  form = refl;
  level_is = λ x. refl;
  starts = refl;
  statement = refl;
  row_is = refl;
  owns = λ h e. tt;
  nothing = λ e.
      refl;
  clear = λ c q. (refl, refl, refl);
}

pub opened_switch : Opened ki.Switch si.Switch
    (pi.Fixed si.LeftParen ∷ pi.Kid expr ∷ pi.Fixed si.RightParen ∷ pi.Fixed si.LeftBrace ∷ pi.Each so.SwitchCase ∷ pi.Fixed si.RightBrace ∷
    []) 16
opened_switch = record {
  form = refl;
  level_is = λ x. refl;
  starts = refl;
  statement = refl;
  row_is = refl;
  owns = λ h e. tt;
  nothing = λ e.
      refl;
  clear = λ c q. (refl, refl, refl);
}

-- ---- sorts of which each tree begins with one sign

-- a form of a sort of its own, of a tree with this text, before a token of the class
pub record SortForm (s : Sort) (k : Kind) (d : Sign) (ps : List Piece) (x : List ℕ) (c : Class) : Type 0 where
  -- the sign, and the pieces behind it
  pub form : form_of k ≡ pi.Fixed d ∷ ps
  -- where a tree of the sort is wanted, the sign opens one of the kind
  pub row_is : row (ru.Of s) (cl.Sign d) ≡ before (opens k) (left s (level k x))
  -- the text of such a tree is the one that a piece reads
  pub owns : (h : Head) → is_own (own_of ps) h ≡ true → Owns h ps
  -- where no piece reads a text it has none
  pub nothing : has_own ps ≡ false → own_of ps ≡ ow.Nothing
  -- before what may stand behind the sort each piece sees where it ends
  pub clear : pull c ≤ reach s (level k x) → closed_by s c ≡ true → Clear ps c

pub sort_reads : (f n : ℕ) → ReadsTo f n → (s : Sort) (k : Kind) (d : Sign) (ps : List Piece) (h : Head) (ts : Nodes) → sizes_of ts ≤ n →
    h.kind ≡ k → Whole s h ts → (w : List Token) (st : List Symbol) (g : Group) (gs : List Group) → SortForm s k d ps h.text (front w) →
    Edge s (front w) (branch h ts) → Claim f s h ts w st g gs
sort_reads f n ih s k d ps h ts z i p w st g gs o x =
    let lv : level h.kind h.text ≡ level k h.text = ap (λ y. level y h.text) i in
    let r : row (ru.Of s) (cl.Sign d) ≡ before (opens k) (left s (level h.kind h.text)) = rw lv o.row_is in
    let own : is_own (own_of ps) h ≡ true = subst (λ y. is_own (own_of y) h ≡ true) (ap form_of i ∙ o.form) p.own in
    let m : pull (front w) ≤ reach s (level k h.text) = subst (λ y. pull (front w) ≤ reach s y) lv x.reaches in
    opens_reads f n ih s k d ps h ts z w st g gs (record {
      kind_is = i;
      form = o.form;
      row_is = r;
      shaped = p;
      owns = o.owns h own;
      nothing = λ y. subst (λ v. is_own v h ≡ true) (o.nothing y) own;
      edge = x;
      clear = o.clear m x.closed;
    })

abbrev bound_pieces : List Piece
bound_pieces = pi.Own ow.Name ∷ pi.Led si.Colon so.Type ∷ pi.Fixed si.Equals ∷ pi.Kid expr ∷ []

bound_clear : (c : Class) → pull c ≤ 0 → Clear bound_pieces c
bound_clear c q = (refl, (refl, tt, refl, refl, (refl, at_of expr c q refl, tt)))

-- `let`, `const` and `defer` as statements, and the `let` of a loop
pub let_reads : (f n : ℕ) → ReadsTo f n → (h : Head) (ts : Nodes) → sizes_of ts ≤ n → h.kind ≡ ki.Let → Whole so.Statement h ts →
    (w : List Token) (st : List Symbol) (g : Group) (gs : List Group) → Edge so.Statement (front w) (branch h ts) →
    Claim f so.Statement h ts w st g gs
let_reads f n ih h ts z i p w st g gs x = sort_reads f n ih so.Statement ki.Let si.Let bound_pieces h ts z i p w st g gs
    (record { form = refl; row_is = refl; owns = λ h e. (e, tt); nothing = λ e. cc; clear = λ q c. bound_clear (front w) q }) x

pub const_reads : (f n : ℕ) → ReadsTo f n → (h : Head) (ts : Nodes) → sizes_of ts ≤ n → h.kind ≡ ki.Const → Whole so.Statement h ts →
    (w : List Token) (st : List Symbol) (g : Group) (gs : List Group) → Edge so.Statement (front w) (branch h ts) →
    Claim f so.Statement h ts w st g gs
const_reads f n ih h ts z i p w st g gs x = sort_reads f n ih so.Statement ki.Const si.Const bound_pieces h ts z i p w st g gs
    (record { form = refl; row_is = refl; owns = λ h e. (e, tt); nothing = λ e. cc; clear = λ q c. bound_clear (front w) q }) x

pub defer_reads : (f n : ℕ) → ReadsTo f n → (h : Head) (ts : Nodes) → sizes_of ts ≤ n → h.kind ≡ ki.Defer → Whole so.Statement h ts →
    (w : List Token) (st : List Symbol) (g : Group) (gs : List Group) → Edge so.Statement (front w) (branch h ts) →
    Claim f so.Statement h ts w st g gs
defer_reads f n ih h ts z i p w st g gs x =
    sort_reads f n ih so.Statement ki.Defer si.Defer (pi.Kid expr ∷ []) h ts z i p w st g gs (record {
      form = refl;
      row_is = refl;
      owns = λ h e. tt;
      nothing = λ e. refl;
      clear = λ q c. (refl, at_of expr (front w) q refl, tt);
    }) x

pub loop_let_reads : (f n : ℕ) → ReadsTo f n → (h : Head) (ts : Nodes) → sizes_of ts ≤ n → h.kind ≡ ki.Let → Whole so.Let h ts →
    (w : List Token) (st : List Symbol) (g : Group) (gs : List Group) → Edge so.Let (front w) (branch h ts) → Claim f so.Let h ts w st g gs
loop_let_reads f n ih h ts z i p w st g gs x =
    sort_reads f n ih so.Let ki.Let si.Let bound_pieces h ts z i p w st g gs
    (record { form = refl; row_is = refl; owns = λ h e. (e, tt); nothing = λ e. cc; clear = λ q c. bound_clear (front w) q }) x

pub binding_reads : (f n : ℕ) → ReadsTo f n → (h : Head) (ts : Nodes) → sizes_of ts ≤ n → h.kind ≡ ki.Binding → Whole so.Binding h ts →
    (w : List Token) (st : List Symbol) (g : Group) (gs : List Group) → Edge so.Binding (front w) (branch h ts) →
    Claim f so.Binding h ts w st g gs
binding_reads f n ih h ts z i p w st g gs x =
    sort_reads f n ih so.Binding ki.Binding si.Let (pi.Own ow.Name ∷ pi.Optional so.ByRef ∷ pi.Fixed si.DotDot ∷ []) h ts z i p w st g gs
    (record {
      form = refl;
      row_is = refl;
      owns = λ h e. (e, tt);
      nothing = λ e. cc;
      clear = λ q c. (refl, (refl, tt, refl, refl, tt));
    }) x

pub pattern_let_reads : (f n : ℕ) → ReadsTo f n → (h : Head) (ts : Nodes) → sizes_of ts ≤ n → h.kind ≡ ki.PatternLet →
    Whole so.Pattern h ts → (w : List Token) (st : List Symbol) (g : Group) (gs : List Group) → Edge so.Pattern (front w) (branch h ts) →
    Claim f so.Pattern h ts w st g gs
pattern_let_reads f n ih h ts z i p w st g gs x =
    sort_reads f n ih so.Pattern ki.PatternLet si.Let (pi.Own ow.Name ∷ pi.Fixed si.Colon ∷ pi.Kid so.Type ∷ []) h ts z i p w st g gs
    (record {
      form = refl;
      row_is = refl;
      owns = λ h e. (e, tt);
      nothing = λ e. cc;
      clear = λ q c. (refl, (refl, at_of so.Type (front w) q refl, tt));
    }) x

-- `case` and `}` begin no statement
case_over : (s : Sort) (c : Class) → closed_by so.Case c ≡ true → of_row so.Statement c ≡ Fault
case_over s (cl.Sign si.RightBrace) e = refl
case_over s (cl.Sign si.Case) e = refl
case_over s (cl.Sign _) e = cc
case_over s _ e = cc

pub case_reads : (f n : ℕ) → ReadsTo f n → (h : Head) (ts : Nodes) → sizes_of ts ≤ n → h.kind ≡ ki.Case → Whole so.Case h ts →
    (w : List Token) (st : List Symbol) (g : Group) (gs : List Group) → Edge so.Case (front w) (branch h ts) →
    Claim f so.Case h ts w st g gs
case_reads f n ih h ts z i p w st g gs x = sort_reads f n ih so.Case ki.Case si.Case
    (pi.Optional so.Pattern ∷ pi.Fixed si.Arrow ∷ pi.EachFollowed so.Statement si.Semicolon ∷ []) h ts z i p w st g gs (record {
      form = refl;
      row_is = refl;
      owns = λ h e. tt;
      nothing = λ e. refl;
      clear = λ q c. (refl, tt, refl, refl, case_over so.Case (front w) c);
    }) x

pub switch_case_reads : (f n : ℕ) → ReadsTo f n → (h : Head) (ts : Nodes) → sizes_of ts ≤ n → h.kind ≡ ki.SwitchCase →
    Whole so.SwitchCase h ts → (w : List Token) (st : List Symbol) (g : Group) (gs : List Group) →
    Edge so.SwitchCase (front w) (branch h ts) → Claim f so.SwitchCase h ts w st g gs
switch_case_reads f n ih h ts z i p w st g gs x =
    sort_reads f n ih so.SwitchCase ki.SwitchCase si.Case
    (pi.Optional so.Values ∷ pi.Fixed si.Arrow ∷ pi.EachFollowed so.Statement si.Semicolon ∷ []) h ts z i p w st g gs (record {
      form = refl;
      row_is = refl;
      owns = λ h e. tt;
      nothing = λ e. refl;
      clear = λ q c. (refl, tt, refl, refl, case_over so.SwitchCase (front w) c);
    }) x
