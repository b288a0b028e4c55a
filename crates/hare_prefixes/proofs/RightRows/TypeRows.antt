-- Each row of types is right: what it and its symbols read is what its rule means.
use Rattle.std.proofs.Common.{◌≡◌, ℕ, ◌+◌, List, [], ◌∷◌, ◌++◌, true, false, length, refl, ap, sym, ◌∙◌, subst, arith}
use Rattle.hare_tree.specs.declared.kind.Kind.{Kind}
use Rattle.hare_tree.specs.declared.kind.Kind.TheVariants as ki
use Rattle.hare_tree.specs.declared.token.Suffix.TheVariants as suffix
use Rattle.hare_tree.specs.declared.token.TokenKind.TheVariants as tk
use Rattle.hare_tree.specs.declared.token.Token.{Token}
use Rattle.hare_tree.specs.declared.form.Sign.{Sign}
use Rattle.hare_tree.specs.declared.form.Sign.TheVariants as si
use Rattle.hare_tree.specs.declared.form.Own.{Own}
use Rattle.hare_tree.specs.declared.form.Own.TheVariants as ow
use Rattle.hare_tree.specs.declared.form.Sort.{Sort}
use Rattle.hare_tree.specs.declared.form.Sort.TheVariants as so
use Rattle.hare_tree.specs.declared.form.Piece.{Piece}
use Rattle.hare_tree.specs.declared.form.Piece.TheVariants as pi
use Rattle.hare_tree.specs.Node.{Node}
use Rattle.hare_tree.specs.Words.{is_listed}
use Rattle.hare_tree.specs.Signs.{sign_word, sign_kind}
use Rattle.hare_tree.specs.Forms.{form_of}
use Rattle.hare_tree.specs.Levels.{admits}
use Rattle.hare_tree.specs.Spell.{word_token, own_tokens}
use Rattle.hare_tree.specs.Shape.{is_own, is_none, has_text_alone, scalars}
use Rattle.hare_tree.specs.Grammar.{unplaced}
use Rattle.hare_automaton.specs.declared.class.Class.{Class}
use Rattle.hare_automaton.specs.declared.class.Class.TheVariants as cl
use Rattle.hare_automaton.specs.declared.rule.Rule.TheVariants as ru
use Rattle.hare_automaton.specs.declared.rule.Symbol.{Symbol}
use Rattle.hare_automaton.specs.declared.rule.Symbol.TheVariants as sy
use Rattle.hare_automaton.specs.Classes.{head_of, class_of}
use Rattle.hare_automaton.specs.Rows.{Row, of, part, before, symbols, rest_of, opens}
use Rattle.hare_automaton.specs.TypeRows.{bare_row, type_row, member_row, type_path_row, length_row, bracket_row, first_row, after_row, spread_row}
use Rattle.hare_automaton.specs.DeclarationRows.{named_row}
use Rattle.hare_automaton.specs.Engine.{Group, begun, full_leaf, bare_leaf, add}
use Rattle.hare_automaton.proofs.Spelled.Forms.{has_own}
use Rattle.hare_prefixes.proofs.Soundness.Seen.{sign_is, name_is, number_is, scalar_is}
use Rattle.hare_prefixes.proofs.Soundness.Trees.{Source, IsTree, Tree, tree_as, as_sort, Begun}
use Rattle.hare_prefixes.proofs.Soundness.Means.{HasGroup, Means}
use Rattle.hare_prefixes.proofs.Soundness.Stacks.{Reads, last_part, Goes, Used, used_before}
use Rattle.hare_prefixes.proofs.Soundness.Kids.{Simple}
use Rattle.hare_prefixes.proofs.Soundness.Forms.{Ordinary, Form, form_tree, opened, named, leaf_form, mark_form}
use Rattle.hare_prefixes.proofs.Soundness.Paths.{first_of, path_form}

-- ---- rows of one token

-- a form of the tokens that were read
pub moved_form : (x : Source) (k : Kind) (gs : List Group) (m : ℕ) (u v w : List Token) (gs1 gs' : List Group) → u ≡ v → gs' ≡ gs1 →
    Form x k gs m v w gs1 → Form x k gs m u w gs'
moved_form x k gs m u v w gs1 gs' i e q = subst (λ y. Form x k gs m u w y) (sym e) (subst (λ y. Form x k gs m y w gs1) (sym i) q)

-- a token that is a tree
pub leaf_means : (x : Source) (k : Kind) (o : Own) (t : Token) (gs : List Group) (m : ℕ) (u w : List Token) (gs' : List Group) →
    form_of k ≡ pi.Own o ∷ [] → Ordinary k →
    is_own o (head_of t) ≡ is_own o (record { kind = k; place = t.place; text = t.text; number = t.number; suffix = t.suffix }) →
    is_own o (head_of t) ≡ true → own_tokens 0 (record { kind = k; place = t.place; text = t.text; number = t.number; suffix = t.suffix }) o
    ≡ unplaced t ∷ [] → Goes x [] (add (full_leaf k t) gs) t m u w gs' → Form x k gs m (t ∷ u) w gs'
leaf_means x k o t gs m u w gs' f y same own text h =
    moved_form x k gs m (t ∷ u) (t ∷ []) w (add (full_leaf k t) gs) gs' (ap (λ l. t ∷ l) h.reads.0) h.reads.1
    (leaf_form x k o t gs m w f y h.place same own text)

pub mark_means : (x : Source) (k : Kind) (d : Sign) (t : Token) (gs : List Group) (m : ℕ) (u w : List Token) (gs' : List Group) →
    form_of k ≡ pi.Fixed d ∷ [] → Ordinary k → class_of t ≡ cl.Sign d → Goes x [] (add (bare_leaf k t.place) gs) t m u w gs' →
    Form x k gs m (t ∷ u) w gs'
mark_means x k d t gs m u w gs' f y e h =
    moved_form x k gs m (t ∷ u) (t ∷ []) w (add (bare_leaf k t.place) gs) gs' (ap (λ l. t ∷ l) h.reads.0) h.reads.1
    (mark_form x k d t gs m w f y h.place e)

-- a row that opens a form
pub opens_means : (x : Source) (k : Kind) (d : Sign) (ps : List Piece) (t : Token) (gs : List Group) (m : ℕ) (u w : List Token)
    (gs' : List Group) → form_of k ≡ pi.Fixed d ∷ ps → Ordinary k → Simple ps → class_of t ≡ cl.Sign d →
    Goes x (symbols ps ++ sy.Close k ∷ []) (begun t.place [] ∷ gs) t m u w gs' → Form x k gs m (t ∷ u) w gs'
opens_means x k d ps t gs m u w gs' f y c e h =
    opened x k d ps gs t m h.n u w gs' f y c (record { class = e; place = h.place; next = h.at }) h.reads

-- the name of a form
pub names_means : (x : Source) (k : Kind) (ps : List Piece) (t : Token) (gs : List Group) (m : ℕ) (u w : List Token) (gs' : List Group) →
    form_of k ≡ pi.Own ow.Name ∷ ps → Ordinary k → Simple ps → has_own ps ≡ false → class_of t ≡ cl.Name →
    Goes x (symbols ps ++ sy.Close k ∷ []) (first_of t ∷ gs) t m u w gs' → Form x k gs m (t ∷ u) w gs'
names_means x k ps t gs m u w gs' f y c o e h =
    let n = name_is t e in
    named x k ow.Name ps (first_of t) gs m h.n (t ∷ []) u w gs' (record { form = f; ordinary = y; simple = c; textless = o })
    (record {
      kids = refl;
      own = rw (n.name, n.plain.alone) refl;
      spelled = ap (λ z. z ∷ []) (sym n.plain.is);
      place = h.place;
      next = h.at;
    }) h.reads

-- a path by itself
pub path_means : (x : Source) (k : Kind) (t : Token) (gs : List Group) (m : ℕ) (u w : List Token) (gs' : List Group) →
    form_of k ≡ pi.Own ow.Path ∷ [] → Ordinary k → class_of t ≡ cl.Name → Goes x (part (ru.PathRest k) ∷ []) (first_of t ∷ gs) t m u w gs' →
    Form x k gs m (t ∷ u) w gs'
path_means x k t gs m u w gs' f y e h =
    let r = last_part x (ru.PathRest k) (first_of t ∷ gs) h.n u w gs' h.reads (first_of t) gs refl in
    subst (λ z. Form x k gs m (t ∷ u) w z) (sym r.1) (path_form x k t gs m u w f y h.place e r.0)

-- ---- types

abbrev pub RowMeans : Source → (Class → Row) → Sort → Type 0
RowMeans x f s = (c : Class) (t : Token) (gs : List Group) (m : ℕ) (u w : List Token) (gs' : List Group) → HasGroup gs → class_of t ≡ c →
    Used x (f c) t gs m u w gs' → Tree x s gs m (t ∷ u) w gs'

-- a row and what stands behind it
pub unit : (x : Source) (f : Class → Row) (s : Sort) → RowMeans x f s →
    (ss : List Symbol) (c : Class) (t : Token) (gs : List Group) (m : ℕ) (u w : List Token) (gs' : List Group) → class_of t ≡ c →
    Used x (before (f c) ss) t gs m u w gs' → Reads x (of s ∷ ss) gs m (t ∷ u) w gs'
unit x f s r ss c t gs m u w gs' e h =
    let b = used_before x (f c) ss t gs m u w gs' h in
    record {
      v = t ∷ b.v;
      v' = b.v';
      n = b.n;
      hs = b.hs;
      is = ap (λ l. t ∷ l) b.is;
      at = omega (arith, b.at);
      part = λ o. r c t gs m b.v
          (b.v' ++ w) b.hs o e b.first;
      rest = b.rest;
    }

-- what a word or a mark says
pub record SignParts (s : Sign) (t : Token) : Type 0 where
  pub text : t.text ≡ sign_word s
  pub alone : has_text_alone (head_of t) ≡ true
  pub is : unplaced t ≡ word_token 0 (sign_kind s) t.text

pub sign_parts : (t : Token) (s : Sign) → class_of t ≡ cl.Sign s → SignParts s t
sign_parts t s e =
    let i = sign_is t s e in
    let text : t.text ≡ sign_word s = ap (λ y. y.text) i in
    let number : t.number ≡ 0 = ap (λ y. y.number) i in
    let suffix : t.suffix ≡ suffix.None = ap (λ y. y.suffix) i in
    record { text = text; alone = rw (number, suffix) refl; is = i ∙ ap (λ y. word_token 0 (sign_kind s) y) (sym text) }

-- a word that is a type by itself
scalar_means : (x : Source) (t : Token) (gs : List Group) (m : ℕ) (u w : List Token) (gs' : List Group) → is_listed scalars t.text ≡ true →
    has_text_alone (head_of t) ≡ true → unplaced t ≡ word_token 0 tk.Keyword t.text →
    Goes x [] (add (full_leaf ki.TypeScalar t) gs) t m u w gs' → Tree x so.BareType gs m (t ∷ u) w gs'
scalar_means x t gs m u w gs' l a i h =
    form_tree x so.BareType ki.TypeScalar gs m (t ∷ u) w gs' refl (λ y. refl)
    (leaf_means x ki.TypeScalar ow.Scalar t gs m u w gs' refl (record { none = refl; operator = refl; yield = refl }) refl
    (rw (l, a) refl) (ap (λ y. y ∷ []) (sym i)) h)

-- a word that is a type besides
word_type : (x : Source) (s : Sign) (t : Token) (gs : List Group) (m : ℕ) (u w : List Token) (gs' : List Group) →
    is_listed scalars (sign_word s) ≡ true → sign_kind s ≡ tk.Keyword → class_of t ≡ cl.Sign s →
    Goes x [] (add (full_leaf ki.TypeScalar t) gs) t m u w gs' → Tree x so.BareType gs m (t ∷ u) w gs'
word_type x s t gs m u w gs' l k e h =
    let p = sign_parts t s e in
    scalar_means x t gs m u w gs' (ap (is_listed scalars) p.text ∙ l) p.alone (p.is ∙ ap (λ y. word_token 0 y t.text) k) h

bare_form : (x : Source) (k : Kind) (gs : List Group) (m : ℕ) (u w : List Token) (gs' : List Group) → is_none k ≡ false →
    ((y : List ℕ) → admits so.BareType k y ≡ true) → Form x k gs m u w gs' → Tree x so.BareType gs m u w gs'
bare_form x k gs m u w gs' n a q = form_tree x so.BareType k gs m u w gs' n a q

pub bare_means : (x : Source) → RowMeans x bare_row so.BareType
bare_means x cl.Scalar t gs m u w gs' o e h = let p = scalar_is t e in scalar_means x t gs m u w gs' p.listed p.plain.alone p.plain.is h
bare_means x cl.Name t gs m u w gs' o e h = bare_form x ki.TypePath gs m (t ∷ u) w gs' refl (λ y. refl)
    (path_means x ki.TypePath t gs m u w gs' refl (record { none = refl; operator = refl; yield = refl }) e h)
bare_means x (cl.Sign si.Size) t gs m u w gs' o e h = word_type x si.Size t gs m u w gs' refl refl e h
bare_means x (cl.Sign si.Void) t gs m u w gs' o e h = word_type x si.Void t gs m u w gs' refl refl e h
bare_means x (cl.Sign si.Star) t gs m u w gs' o e h =
    bare_form x ki.TypePointer gs m (t ∷ u) w gs' refl (λ y. refl)
    (opens_means x ki.TypePointer si.Star (pi.Kid so.Type ∷ []) t gs m u w gs' refl (record { none = refl; operator = refl; yield = refl })
    (refl, tt) e h)
bare_means x (cl.Sign si.Nullable) t gs m u w gs' o e h =
    bare_form x ki.TypeNullable gs m (t ∷ u) w gs' refl (λ y. refl)
    (opens_means x ki.TypeNullable si.Nullable (pi.Fixed si.Star ∷ pi.Kid so.Type ∷ []) t gs m u w gs' refl
    (record { none = refl; operator = refl; yield = refl }) (refl, tt) e h)
bare_means x (cl.Sign si.Struct) t gs m u w gs' o e h =
    bare_form x ki.TypeStruct gs m (t ∷ u) w gs' refl (λ y. refl)
    (opens_means x ki.TypeStruct si.Struct (pi.Fixed si.LeftBrace ∷ pi.Kid so.StructField ∷ pi.More so.StructField ∷ pi.Fixed si.RightBrace
    ∷ []) t gs m u w gs' refl (record { none = refl; operator = refl; yield = refl }) (refl, (refl, tt)) e h)
bare_means x (cl.Sign si.LeftBracket) t gs m u w gs' o e h =
    last_part x ru.InBracket (begun t.place [] ∷ gs) h.n u w gs' h.reads t m gs refl (record { class = e; place = h.place; next = h.at })
bare_means x (cl.Sign si.LeftParen) t gs m u w gs' o e h =
    last_part x ru.FirstMember (begun t.place [] ∷ gs) h.n u w gs' h.reads t m gs refl (record { class = e; place = h.place; next = h.at })
bare_means x (cl.Sign _) t gs m u w gs' o e h = absurd h
bare_means x _ t gs m u w gs' o e h = absurd h

pub bare_type : (k : Kind) (y : List ℕ) → admits so.BareType k y ≡ true → admits so.Type k y ≡ true
bare_type ki.TypeError y e = refl
bare_type _ y e = e

pub type_member : (k : Kind) (y : List ℕ) → admits so.Type k y ≡ true → admits so.Member k y ≡ true
type_member ki.Spread y e = refl
type_member _ y e = e

pub type_means : (x : Source) → RowMeans x type_row so.Type
type_means x (cl.Sign si.Bang) t gs m u w gs' o e h =
    form_tree x so.Type ki.TypeError gs m (t ∷ u) w gs' refl (λ y. refl)
    (opens_means x ki.TypeError si.Bang (pi.Kid so.BareType ∷ []) t gs m u w gs' refl
    (record { none = refl; operator = refl; yield = refl }) (refl, tt) e h)
type_means x c t gs m u w gs' o e h = tree_as x so.BareType so.Type gs m (t ∷ u) w gs' bare_type (bare_means x c t gs m u w gs' o e h)

spread_form : (x : Source) (t : Token) (gs : List Group) (m : ℕ) (u w : List Token) (gs' : List Group) → class_of t ≡ cl.Sign si.Dots →
    Used x (opens ki.Spread) t gs m u w gs' → Tree x so.Member gs m (t ∷ u) w gs'
spread_form x t gs m u w gs' e h = form_tree x so.Member ki.Spread gs m (t ∷ u) w gs' refl (λ y. refl)
    (opens_means x ki.Spread si.Dots (pi.Kid so.TypePath ∷ []) t gs m u w gs' refl (record { none = refl; operator = refl; yield = refl })
    (refl, tt) e h)

pub member_means : (x : Source) → RowMeans x member_row so.Member
member_means x (cl.Sign si.Dots) t gs m u w gs' o e h = spread_form x t gs m u w gs' e h
member_means x c t gs m u w gs' o e h = tree_as x so.Type so.Member gs m (t ∷ u) w gs' type_member (type_means x c t gs m u w gs' o e h)

pub type_path_means : (x : Source) → RowMeans x type_path_row so.TypePath
type_path_means x cl.Name t gs m u w gs' o e h =
    form_tree x so.TypePath ki.TypePath gs m (t ∷ u) w gs' refl (λ y. refl)
    (path_means x ki.TypePath t gs m u w gs' refl (record { none = refl; operator = refl; yield = refl }) e h)
type_path_means x _ t gs m u w gs' o e h = absurd h

pub length_means : (x : Source) → RowMeans x length_row so.Length
length_means x cl.Number t gs m u w gs' o e h =
    let p = number_is t e in
    form_tree x so.Length ki.Number gs m (t ∷ u) w gs' refl (λ y. refl)
    (leaf_means x ki.Number ow.Number t gs m u w gs' refl (record { none = refl; operator = refl; yield = refl }) refl p.1
    (ap (λ y. y ∷ []) (sym p.0)) h)
length_means x cl.Name t gs m u w gs' o e h =
    form_tree x so.Length ki.Path gs m (t ∷ u) w gs' refl (λ y. refl)
    (path_means x ki.Path t gs m u w gs' refl (record { none = refl; operator = refl; yield = refl }) e h)
length_means x _ t gs m u w gs' o e h = absurd h

-- parameters, fields of structs and of values
pub named_means : (x : Source) (s : Sort) (k : Kind) (ps : List Piece) → form_of k ≡ pi.Own ow.Name ∷ ps → Ordinary k → Simple ps →
    has_own ps ≡ false → ((y : List ℕ) → admits s k y ≡ true) → rest_of 1 k ≡ symbols ps ++ sy.Close k ∷ [] → RowMeans x (named_row k) s
named_means x s k ps f y c l a r cl.Name t gs m u w gs' o e h =
    let h' : Goes x (symbols ps ++ sy.Close k ∷ []) (first_of t ∷ gs) t m u w gs' =
    subst (λ z. Goes x z (first_of t ∷ gs) t m u w gs') r h in
    form_tree x s k gs m (t ∷ u) w gs' y.none a (names_means x k ps t gs m u w gs' f y c l e h')
named_means x s k ps f y c l a r _ t gs m u w gs' o e h = absurd h

-- ---- behind a bracket or a parenthesis

-- a sign that was waited for
pub wants : (x : Source) (d : Sign) (st : List Symbol) (t : Token) (gs : List Group) (m : ℕ) (u w : List Token) (gs' : List Group) →
    class_of t ≡ cl.Sign d → Goes x st gs t m u w gs' → Reads x (sy.Want d ∷ st) gs m (t ∷ u) w gs'
wants x d st t gs m u w gs' e h = record {
  t = t;
  v = u;
  n = h.n;
  is = refl;
  begun = record { class = e; place = h.place; next = h.at };
  rest = h.reads;
}

pub bracket_means : (x : Source) (c : Class) (t1 : Token) (gs : List Group) (m : ℕ) (u w : List Token) (gs' : List Group) →
    class_of t1 ≡ c → Used x (bracket_row c) t1 gs m u w gs' → Means x ru.InBracket gs m (t1 ∷ u) w gs'
bracket_means x (cl.Sign si.RightBracket) t1 gs m u w gs' e h t n hs i b =
    let r = subst (λ y. Reads x (rest_of 1 ki.TypeSlice) y m (t1 ∷ u) w gs') i
    (wants x si.RightBracket (rest_of 2 ki.TypeSlice) t1 gs m u w gs' e h) in
    bare_form x ki.TypeSlice hs n (t ∷ (t1 ∷ u)) w gs' refl (λ y. refl)
    (opened x ki.TypeSlice si.LeftBracket (pi.Fixed si.RightBracket ∷ pi.Kid so.Type ∷ []) hs t n m (t1 ∷ u) w gs' refl
    (record { none = refl; operator = refl; yield = refl }) (refl, tt) b r)
bracket_means x c t1 gs m u w gs' e h t n hs i b =
    let r = subst (λ y. Reads x (rest_of 1 ki.TypeArray) y m (t1 ∷ u) w gs') i
    (unit x length_row so.Length (length_means x) (rest_of 2 ki.TypeArray) c t1 gs m u w gs' e h) in
    bare_form x ki.TypeArray hs n (t ∷ (t1 ∷ u)) w gs' refl (λ y. refl)
    (opened x ki.TypeArray si.LeftBracket (pi.Kid so.Length ∷ pi.Fixed si.RightBracket ∷ pi.Kid so.Type ∷ []) hs t n m (t1 ∷ u) w gs'
    refl (record { none = refl; operator = refl; yield = refl }) (refl, (refl, tt)) b r)

-- The tree `a` of the tokens `v` between the token `t` with one sign, at `n`, and the token `t1` with another, at `m`, in front of the
-- tokens `w`.
pub record Between (x : Source) (d0 : Sign) (s : Sort) (d : Sign) (t t1 : Token) (n n1 m : ℕ) (a : Node) (v w : List Token) : Type 0 where
  -- the first sign
  pub begun : Begun x d0 t n n1
  -- the tree behind it
  pub is : IsTree x s n1 v (t1 ∷ w) a
  -- where the tree ends
  pub at : m ≡ n1 + length v
  -- the sign there
  pub class : class_of t1 ≡ cl.Sign d

-- a form that begins with a sign, a tree and another sign
pub inside_form : (x : Source) (k : Kind) (d0 : Sign) (s : Sort) (d : Sign) (ps : List Piece) (hs : List Group) (t t1 : Token) (n n1 m : ℕ)
    (a : Node) (v u w : List Token) (gs gs' : List Group) → form_of k ≡ pi.Fixed d0 ∷ pi.Kid s ∷ pi.Fixed d ∷ ps → Ordinary k →
    Simple (pi.Kid s ∷ ps) → gs ≡ begun t.place (a ∷ []) ∷ hs → Between x d0 s d t t1 n n1 m a v (u ++ w) →
    Goes x (symbols ps ++ sy.Close k ∷ []) gs t1 m u w gs' → Form x k hs n (t ∷ (v ++ (t1 ∷ u))) w gs'
inside_form x k d0 s d ps hs t t1 n n1 m a v u w gs gs' f y c i b h =
    let h' : Goes x (symbols ps ++ sy.Close k ∷ []) (begun t.place (a ∷ []) ∷ hs) t1 m u w gs' =
    subst (λ z. Goes x (symbols ps ++ sy.Close k ∷ []) z t1 m u w gs') i h in
    opened x k d0 (pi.Kid s ∷ pi.Fixed d ∷ ps) hs t n n1 (v ++ (t1 ∷ u)) w gs' f y (c.0, c.1) b.begun
    (record {
      v = v;
      v' = t1 ∷ u;
      n = m;
      hs = begun t.place (a ∷ []) ∷ hs;
      is = refl;
      at = b.at;
      part = λ o.
          record { t = a; is = b.is; adds = refl };
      rest =
          wants x d (symbols ps ++ sy.Close k ∷ []) t1 (begun t.place (a ∷ []) ∷ hs) m u w gs' b.class h';
    })

pub spread_means : (x : Source) (c : Class) (t1 : Token) (gs : List Group) (m : ℕ) (u w : List Token) (gs' : List Group) → class_of t1 ≡ c →
    Used x (spread_row c) t1 gs m u w gs' → Means x ru.AfterSpread gs m (t1 ∷ u) w gs'
spread_means x (cl.Sign si.Bar) t1 gs m u w gs' e h t n n' hs a v i b q at =
    bare_form x ki.TypeUnion hs n (t ∷ (v ++ (t1 ∷ u))) w gs' refl (λ y. refl)
    (inside_form x ki.TypeUnion si.LeftParen so.Member si.Bar
    (pi.Kid so.Member ∷ pi.EachLed si.Bar so.Member ∷ pi.Fixed si.RightParen ∷ []) hs t t1 n n' m a v u w gs gs' refl
    (record { none = refl; operator = refl; yield = refl }) (refl, (refl, (refl, tt))) i
    (record { begun = b; is = q; at = at; class = e }) h)
spread_means x (cl.Sign _) t1 gs m u w gs' e h t n n' hs a v i b q at = absurd h
spread_means x _ t1 gs m u w gs' e h t n n' hs a v i b q at = absurd h

pub after_means : (x : Source) (c : Class) (t1 : Token) (gs : List Group) (m : ℕ) (u w : List Token) (gs' : List Group) → class_of t1 ≡ c →
    Used x (after_row c) t1 gs m u w gs' → Means x ru.AfterType gs m (t1 ∷ u) w gs'
after_means x (cl.Sign si.Comma) t1 gs m u w gs' e h t n n' hs a v i b q at =
    bare_form x ki.TypeTuple hs n (t ∷ (v ++ (t1 ∷ u))) w gs' refl (λ y. refl)
    (inside_form x ki.TypeTuple si.LeftParen so.Type si.Comma (pi.Kid so.Type ∷ pi.More so.Type ∷ pi.Fixed si.RightParen ∷ []) hs t t1 n
    n' m a v u w gs gs' refl (record { none = refl; operator = refl; yield = refl }) (refl, (refl, (refl, tt))) i
    (record { begun = b; is = q; at = at; class = e }) h)
after_means x c t1 gs m u w gs' e h t n n' hs a v i b q at =
    spread_means x c t1 gs m u w gs' e h t n n' hs a v i b (as_sort x so.Type so.Member n' v ((t1 ∷ u) ++ w) a type_member q) at

pub first_means : (x : Source) (c : Class) (t1 : Token) (gs : List Group) (m : ℕ) (u w : List Token) (gs' : List Group) → class_of t1 ≡ c →
    Used x (first_row c) t1 gs m u w gs' → Means x ru.FirstMember gs m (t1 ∷ u) w gs'
first_means x (cl.Sign si.Dots) t1 gs m u w gs' e h t n hs i b =
    let p = used_before x (opens ki.Spread) (part ru.AfterSpread ∷ []) t1 gs m u w gs' h in
    let q = spread_form x t1 gs m p.v (p.v' ++ w) p.hs e p.first in
    let r = last_part x ru.AfterSpread p.hs p.n p.v' w gs' p.rest t n m hs q.t (t1 ∷ p.v) (q.adds ∙ ap (add q.t) i) b q.is
    (omega (arith, p.at)) in
    subst (λ l. Tree x so.BareType hs n (t ∷ (t1 ∷ l)) w gs') (sym p.is) r
first_means x c t1 gs m u w gs' e h t n hs i b =
    let p = unit x type_row so.Type (type_means x) (part ru.AfterType ∷ []) c t1 gs m u w gs' e h in
    let q = p.part (record { g = begun t.place []; hs = hs; is = i }) in
    let r = last_part x ru.AfterType p.hs p.n p.v' w gs' p.rest t n m hs q.t p.v (q.adds ∙ ap (add q.t) i) b q.is p.at in
    subst (λ l. Tree x so.BareType hs n (t ∷ l) w gs') (sym p.is) r
