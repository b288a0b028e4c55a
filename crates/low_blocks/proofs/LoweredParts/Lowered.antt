-- What the parts of statements add together.
use Rattle.std.proofs.Common.{◌≡◌, ℕ, suc, ◌+◌, ◌-◌, ◌≤◌, List, [], ◌∷◌, ◌++◌, length, drop, Some, refl, sym, ap, ◌∙◌, subst, arith, append_assoc, length-append}
use Rattle.std.specs.Prelude.{slice_get}
use Rattle.std.proofs.lemmas.List.{append-nil}
use Rattle.flat_code.specs.declared.program.Data.{Data}
use Rattle.flat_code.specs.declared.value.Value.{Value}
use Rattle.flat_code.specs.Code.{Code, If}
use Rattle.hare_blocks.specs.Trees.{Condition, Statement, Statements, chooses_one, nothing, first}
use Rattle.hare_blocks.specs.Sizes.{list_of_statements}
use Rattle.low_blocks.specs.declared.draft.Draft.{Draft}
use Rattle.low_blocks.specs.Expressions.{Scope, Piece, condition_piece}
use Rattle.low_blocks.specs.Statements.{Site, Lowered, past, outside, seq, statement_code, statements_code, statement_texts, statements_texts}
use Rattle.low_blocks.specs.Programs.{text_global, text_globals}
use Rattle.low_blocks.specs.Drafts.{piece_of, behind, IsEmptyDraft, Grows, site, Lowers, LowersBlock}
use Rattle.low_blocks.proofs.Temporaries.Scopes.{Extends}
use Rattle.low_blocks.proofs.Temporaries.Sites.{statements_extend}
use Rattle.low_blocks.proofs.RightCode.Globals.{length-text_globals}
use Rattle.low_blocks.proofs.LoweredParts.Drafts.{drop_item, drop_past}

-- ---- globals

globals_parts : (i : ℕ) (a b : List (List ℕ)) → text_globals i (a ++ b) ≡ text_globals i a ++ text_globals (i + length a) b
globals_parts i [] b = ap (λ x. text_globals x b) (let e : i ≡ i + 0 = omega arith in e)
globals_parts i (t ∷ a) b =
    let e : suc i + length a ≡ i + suc (length a) = omega arith in
    ap (λ x. text_global i t ∷ x) (globals_parts (suc i) a b ∙ ap (λ x. text_globals (suc i) a ++ text_globals x b) e)

-- the globals of some strings, and behind them those of others
globals_on : (g g' g'' : List Data) (a b : List (List ℕ)) → g' ≡ g ++ text_globals (length g) a → g'' ≡ g' ++ text_globals (length g') b →
    g'' ≡ g ++ text_globals (length g) (a ++ b)
globals_on g g' g'' a b e f =
    let l : length g' ≡ length g + length a =
    ap length e ∙ length-append g (text_globals (length g) a) ∙ omega (arith, length-text_globals (length g) a) in
    let f' : g'' ≡ (g ++ text_globals (length g) a) ++ text_globals (length g + length a) b = f ∙ rw (l, e) refl in
    f' ∙ append_assoc g (text_globals (length g) a) _ ∙ ap (λ x. g ++ x) (sym (globals_parts (length g) a b))

-- ---- scopes

drop_inner : (inner scope : Scope) → drop (length (inner ++ scope) - length scope) (inner ++ scope) ≡ scope
drop_inner inner scope = (let e : length (inner ++ scope) - length scope ≡ length inner =
    omega (arith, length-append inner scope) in ap (λ n. drop n (inner ++ scope)) e) ∙ behind_inner inner scope
  where
    behind_inner : (inner scope : Scope) → drop (length inner) (inner ++ scope) ≡ scope
    behind_inner [] scope = refl
    behind_inner (x ∷ inner) scope = behind_inner inner scope

-- the scope in front of a block is left of that behind it
outer_scope : (scope scope' : Scope) → Extends scope scope' → drop (length scope' - length scope) scope' ≡ scope
outer_scope scope scope' x = subst (λ z. drop (length z - length scope) z ≡ scope) (sym x.1) (drop_inner x.0 scope)

-- ---- statements of a block

-- What is left of statements, from where the code stands now: with it, the code is that of all.
pub record IsRest (d0 d : Draft) (scope0 : Scope) (g0 g : List Data) (scope : Scope) (all rest : Statements) : Type 0 where
  pub code : d.code ++ (statements_code (site d scope g) rest).code ≡ d0.code ++ (statements_code (site d0 scope0 g0) all).code
  pub ends : (statements_code (site d scope g) rest).behind ≡ (statements_code (site d0 scope0 g0) all).behind
  pub texts_are : g ++ text_globals (length g) (statements_texts rest) ≡ g0 ++ text_globals (length g0) (statements_texts all)

pub rest_begins : (d : Draft) (scope : Scope) (g : List Data) (all : Statements) → IsRest d d scope g g scope all all
rest_begins d scope g all = record { code = refl; ends = refl; texts_are = refl }

pub rest_goes_on : (d0 d d' : Draft) (scope0 scope scope' : Scope) (g0 g g' : List Data) (all : Statements) (ss : List Statement) (i : ℕ)
    (s : Statement) → slice_get ss i ≡ Some s → IsRest d0 d scope0 g0 g scope all (list_of_statements (drop i ss))
    → Lowers d d' scope g g' scope' (statement_code (site d scope g) s) (statement_texts s) →
    IsRest d0 d' scope0 g0 g' scope' all (list_of_statements (drop (suc i) ss))
rest_goes_on d0 d d' scope0 scope scope' g0 g g' all ss i s e r h =
    let rest = list_of_statements (drop (suc i) ss) in
    let r' : IsRest d0 d scope0 g0 g scope all (first s rest) =
    subst (λ x. IsRest d0 d scope0 g0 g scope all (list_of_statements x)) (drop_item ss i s e) r in
    let low = statement_code (site d scope g) s in
    let code : d'.code ++ (statements_code (site d' scope' g') rest).code ≡ d.code ++ (low.code ++ (statements_code low.behind rest).code) =
    rw (h.code, h.ends) (append_assoc d.code low.code _) in
    let texts : g' ++ text_globals (length g') (statements_texts rest) ≡ g ++
    text_globals (length g) (statement_texts s ++ statements_texts rest) = globals_on g g' _ (statement_texts s) (statements_texts rest)
    h.texts_are refl in
    record { code = code ∙ r'.code; ends = ap (λ x. (statements_code x rest).behind) h.ends ∙ r'.ends; texts_are = texts ∙ r'.texts_are }

pub rest_ends : (d0 d : Draft) (scope0 scope : Scope) (g0 g : List Data) (ss : List Statement) (i : ℕ) → length ss ≤ i →
    IsRest d0 d scope0 g0 g scope (list_of_statements ss) (list_of_statements (drop i ss))
    → Lowers d0 d scope0 g0 g scope (statements_code (site d0 scope0 g0) (list_of_statements ss)) (statements_texts (list_of_statements ss))
rest_ends d0 d scope0 scope g0 g ss i l r =
    let r' : IsRest d0 d scope0 g0 g scope (list_of_statements ss) nothing =
    subst (λ x. IsRest d0 d scope0 g0 g scope (list_of_statements ss) (list_of_statements x)) (drop_past ss i l) r in
    record { code = sym (append-nil d.code) ∙ r'.code; ends = r'.ends; texts_are = sym (append-nil g) ∙ r'.texts_are }

-- ---- blocks

pub block_lowers : (d0 i0 i1 : Draft) (scope scope1 scope2 : Scope) (g g2 : List Data) (body : Statements) → IsEmptyDraft d0.next i0
    → Lowers i0 i1 scope g g2 scope1 (statements_code (site i0 scope g) body) (statements_texts body) →
    scope2 ≡ drop (length scope1 - length scope) scope1
    → LowersBlock d0 (record d0 { next = i1.next }) scope g g2 scope2 i1.code (statements_code (site d0 scope g) body)
    (statements_texts body)
block_lowers d0 i0 i1 scope scope1 scope2 g g2 body empty h e =
    let s0 : site i0 scope g ≡ site d0 scope g = ap (λ (n : ℕ). record { scope = scope; next = n; texts = length g }) empty.1 in
    let low = statements_code (site d0 scope g) body in
    let same : statements_code (site i0 scope g) body ≡ low = ap (λ s. statements_code s body) s0 in
    let at : site i1 scope1 g2 ≡ low.behind = h.ends ∙ ap (λ (x : Lowered). x.behind) same in
    let grew : Extends scope scope1 =
    subst (λ x. Extends scope x) (sym (ap (λ (x : Site). x.scope) at)) (statements_extend (site d0 scope g) body) in
    let outer : scope2 ≡ scope = e ∙ outer_scope scope scope1 grew in
    let next : i1.next ≡ low.behind.next = ap (λ (x : Site). x.next) at in
    let texts : length g2 ≡ low.behind.texts = ap (λ (x : Site). x.texts) at in
    record {
      code_is = h.code ∙ rw (empty.0, same) refl;
      kept = refl;
      ends = rw (outer, next, texts) refl;
      texts_are = h.texts_are;
    }

-- a branch of two blocks behind the code of its condition
pub branch_lowers : (c : Condition) (body other : Statements) (d0 d1 d2 d3 d4 : Draft) (scope scope2 scope3 : Scope) (g g2 g3 : List Data)
    (v : Value) (does else_does : List Code)
    → piece_of d1 v ≡ behind d0.code (condition_piece scope d0.next c)
    → LowersBlock d1 d2 scope g g2 scope2 does (statements_code (site d1 scope g) body) (statements_texts body)
    → LowersBlock d2 d3 scope2 g2 g3 scope3 else_does (statements_code (site d2 scope2 g2) other) (statements_texts other)
    → Grows d3 d4 (If v (seq does) (seq else_does) ∷ []) d3.next
    → Lowers d0 d4 scope g g3 scope3 (statement_code (site d0 scope g) (chooses_one c body other))
    (statement_texts (chooses_one c body other))
branch_lowers c body other d0 d1 d2 d3 d4 scope scope2 scope3 g g2 g3 v does else_does e h k r =
    let test = condition_piece scope d0.next c in
    let low = statements_code (past (site d0 scope g) test.next) body in
    let low' = statements_code (outside (site d0 scope g) low.behind) other in
    let s1 : site d1 scope g ≡ past (site d0 scope g) test.next =
    ap (λ (p : Piece). record { scope = scope; next = p.next; texts = length g }) e in
    let same : statements_code (site d1 scope g) body ≡ low = ap (λ s. statements_code s body) s1 in
    let s2 : site d2 scope2 g2 ≡ outside (site d0 scope g) low.behind =
    h.ends ∙ ap (λ (x : Lowered). outside (site d0 scope g) x.behind) same in
    let same' : statements_code (site d2 scope2 g2) other ≡ low' = ap (λ s. statements_code s other) s2 in
    let ends : site d3 scope3 g3 ≡ outside (site d0 scope g) low'.behind =
    k.ends ∙ ap (λ (s : Site). outside s (statements_code s other).behind) s2 in
    let one : does ≡ low.code = h.code_is ∙ ap (λ (x : Lowered). x.code) same in
    let two : else_does ≡ low'.code = k.code_is ∙ ap (λ (x : Lowered). x.code) same' in
    let front : d3.code ≡ d0.code ++ test.code = k.kept ∙ h.kept ∙ ap (λ (p : Piece). p.code) e in
    let value : v ≡ test.value = ap (λ (p : Piece). p.value) e in
    record {
      code = r.code_is ∙ rw (front, value, one, two) (append_assoc d0.code test.code _);
      ends = ap (λ (n : ℕ). record { scope = scope3; next = n; texts = length g3 }) r.next_is ∙ ends;
      texts_are = globals_on g g2 g3 (statements_texts body) (statements_texts other) h.texts_are k.texts_are;
    }
