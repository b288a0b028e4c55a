-- The forms that have a comma list, and those of cases.
use Rattle.std.proofs.Common.{◌≡◌, ℕ, List, [], ◌∷◌, ◌++◌, ◌⊎◌, inl, inr, Bool, true, false, drop, refl, subst}
use Rattle.std.specs.Prelude.{◌||◌}
use Rattle.hare_tree.specs.declared.kind.Kind.{Kind}
use Rattle.hare_tree.specs.declared.kind.Kind.TheVariants as ki
use Rattle.hare_tree.specs.declared.form.Sign.TheVariants as si
use Rattle.hare_tree.specs.declared.form.Sort.TheVariants as so
use Rattle.hare_tree.specs.declared.form.Lead.TheVariants as le
use Rattle.hare_tree.specs.declared.form.Piece.{Piece}
use Rattle.hare_tree.specs.declared.form.Piece.TheVariants as pi
use Rattle.hare_tree.specs.Node.{Head, Node, Nodes, branch, none, more, head}
use Rattle.hare_tree.specs.Signs.{is_sign}
use Rattle.hare_tree.specs.Forms.{form_of}
use Rattle.hare_tree.specs.Shape.{stops}
use Rattle.hare_tree.specs.Spell.{Spelled, stands_alone}
use Rattle.hare_tree.specs.Judged.{nodes_from}
use Rattle.hare_ways.specs.declared.breaks.Breaks.{Breaks}
use Rattle.hare_ways.specs.declared.part.Part.{Part}
use Rattle.hare_ways.specs.declared.part.Part.TheVariants as pa
use Rattle.hare_ways.specs.Breaks.{Item, is_list, is_braced, is_case, opening, closing, kids_behind, sign_at, wants_behind, wants_comma}
use Rattle.hare_ways.specs.Ways.{item_start}
use Rattle.hare_ways.specs.Parts.{part_of, items_of}
use Rattle.hare_ways.specs.Walk.{start_of, inside_behind_part}
use Rattle.hare_commas.proofs.WaysAgain.Pieces.{closes, nodes_after, has_sign, pieces_from, nodes_at}
use Rattle.hare_commas.proofs.WaysAgain.Kin.{IsNothing}
use Rattle.hare_commas.proofs.WaysAgain.Kids.{EndsInNothing, ListEndsInNothing}

false-true : {A : Type 0} → false ≡ true → A
false-true h = cc

-- ---- the signs of brackets

pub brackets-are-signs : (k : Kind) → (is_braced k || is_list k) ≡ true
    → (has_sign (opening k) (form_of k) ≡ true) × (has_sign (closing k) (form_of k) ≡ true)
brackets-are-signs ki.Params e = (refl, refl)
brackets-are-signs ki.Call e = (refl, refl)
brackets-are-signs ki.StructLit e = (refl, refl)
brackets-are-signs ki.Tuple e = (refl, refl)
brackets-are-signs ki.TypeTuple e = (refl, refl)
brackets-are-signs ki.Array e = (refl, refl)
brackets-are-signs ki.UseNames e = (refl, refl)
brackets-are-signs ki.TypeStruct e = (refl, refl)
brackets-are-signs ki.Block e = (refl, refl)
brackets-are-signs ki.Match e = (refl, refl)
brackets-are-signs ki.Switch e = (refl, refl)
brackets-are-signs _ e = false-true e

-- ---- cases

-- `case`, what may stand behind it, `=>`, and statements
pub record CaseForm (k : Kind) : Type 0 where
  pub begins : has_sign si.Case (form_of k) ≡ true
  pub arrow : has_sign si.Arrow (form_of k) ≡ true
  pub first : (h : Head) (n : ℕ) (us : List Spelled) → sign_at si.Case h (form_of k) n us ≡ n
  pub behind : pieces_from si.Arrow (form_of k) ≡ pi.EachFollowed so.Statement si.Semicolon ∷ []
  pub left : (text : List ℕ) (ts : Nodes) → nodes_at si.Arrow text (form_of k) ts ≡ nodes_from 1 ts
  pub items : (is : List Item) → kids_behind si.Arrow (form_of k) is ≡ drop 1 is

pub case-form : (k : Kind) → is_case k ≡ true → CaseForm k
case-form ki.Case e = record {
  begins = refl;
  arrow = refl;
  first = λ h n us. refl;
  behind = refl;
  left = λ text ts. refl;
  items = λ is. refl;
}
case-form ki.SwitchCase e = record {
  begins = refl;
  arrow = refl;
  first = λ h n us. refl;
  behind = refl;
  left = λ text ts. refl;
  items = λ is. refl;
}
case-form _ e = false-true e

pub list-is-no-case : (k : Kind) → is_list k ≡ true → is_case k ≡ false
list-is-no-case ki.Case e = false-true e
list-is-no-case ki.SwitchCase e = false-true e
list-is-no-case _ e = refl

pub list-is-not-braced : (k : Kind) → is_list k ≡ true → is_braced k ≡ false
list-is-not-braced ki.Block e = false-true e
list-is-not-braced ki.Match e = false-true e
list-is-not-braced ki.Switch e = false-true e
list-is-not-braced _ e = refl

-- ---- comma lists

abbrev pub list_part : Bool → Part
list_part true = pa.Listed
list_part false = pa.All (le.Before si.Comma)

abbrev pub inside_after : Breaks → Bool → List ℕ → List Piece → Bool
inside_after b inside text [] = inside
inside_after b inside text (p ∷ ps) = inside_after b (inside_behind_part b inside (part_of p text)) text ps

-- the kids of a form from its list on
abbrev pub list_kids : Kind → Nodes → Nodes
list_kids ki.Params ts = ts
list_kids ki.Call ts = nodes_from 1 ts
list_kids ki.StructLit ts = nodes_from 1 (nodes_from 1 ts)
list_kids ki.Tuple ts = nodes_from 1 (nodes_from 1 ts)
list_kids ki.TypeTuple ts = nodes_from 1 (nodes_from 1 ts)
list_kids ki.Array ts = ts
list_kids ki.UseNames ts = nodes_from 1 (nodes_from 1 ts)
list_kids ki.TypeStruct ts = nodes_from 1 ts
list_kids _ ts = none

-- a comma may be added behind the items from the list on, where this was so of those before
pub record Wants (listed : Bool) (rest : Nodes) : Type 0 where
  pub before : Bool
  pub none_before : listed ≡ true → before ≡ false
  pub wants : wants_comma before (items_of rest) ≡ true

pub record ListForm (k : Kind) : Type 0 where
  pub front : List Piece
  pub last : Piece
  pub behind : List Piece
  pub listed : Bool
  pub form_is : form_of k ≡ front ++ last ∷ pi.Fixed (closing k) ∷ behind
  pub part_is : (text : List ℕ) → part_of last text ≡ list_part listed
  pub starts : (b : Breaks) → start_of b true last ≡ item_start b true
  pub opens : (x y z : Bool) (text : List ℕ)
      → inside_after (record { kind = k; brackets = x; statements = y; comma = z }) false text front ≡ true
  pub calm : (x y z : Bool) (text : List ℕ) → closes (record { kind = k; brackets = x; statements = y; comma = z }) false text front ≡ false
  pub closed : is_sign (closing k) (closing k) ≡ true
  pub behind_is : (behind ≡ []) ⊎ (behind ≡ pi.Fixed si.Semicolon ∷ [])
  pub left : (text : List ℕ) (ts : Nodes) → nodes_after front text ts ≡ list_kids k ts
  pub wants : (ts : Nodes) → wants_comma false (kids_behind (opening k) (form_of k) (items_of ts)) ≡ true → Wants listed (list_kids k ts)

not-listed : {A : Type 0} → false ≡ true → A
not-listed e = false-true e

-- behind one kid in front of the list
wants-one : (ts : Nodes) → wants_comma false (items_of ts) ≡ true → Wants false (nodes_from 1 ts)
wants-one none e = false-true e
wants-one (more t ts) e =
    record { before = wants_behind (head t).kind false (stops si.Comma t); none_before = λ x. false-true x; wants = e }

-- behind two
wants-two : (ts : Nodes) → wants_comma false (items_of ts) ≡ true → Wants false (nodes_from 1 (nodes_from 1 ts))
wants-two none e = false-true e
wants-two (more t none) e = record {
  before = wants_behind (head t).kind false (stops si.Comma t);
  none_before = λ x. false-true x;
  wants =
      e;
}
wants-two (more t (more u ts)) e = record {
  before = wants_behind (head u).kind (wants_behind (head t).kind false (stops si.Comma t)) (stops si.Comma u);
  none_before = λ x. false-true x;
  wants = e;
}

-- behind one in front of the brackets
wants-call : (ts : Nodes) → wants_comma false (drop 1 (items_of ts)) ≡ true → Wants true (nodes_from 1 ts)
wants-call none e = false-true e
wants-call (more t ts) e = record { before = false; none_before = λ x. refl; wants = e }

wants-named : (ts : Nodes) → wants_comma false (drop 1 (items_of ts)) ≡ true → Wants false (nodes_from 1 (nodes_from 1 ts))
wants-named none e = false-true e
wants-named (more t ts) e = wants-one ts e

pub list-form : (k : Kind) → is_list k ≡ true → ListForm k
list-form ki.Params e = record {
  front = pi.Fixed si.LeftParen ∷ [];
  last = pi.List so.Param;
  behind = [];
  listed = true;
  form_is = refl;
  part_is = λ text. refl;
  starts = λ b. refl;
  opens = λ x y z text. refl;
  calm = λ x y z text. refl;
  closed = refl;
  behind_is = inl refl;
  left = λ text ts. refl;
  wants = λ ts w. record { before = false; none_before = λ x. refl; wants = w };
}
list-form ki.Call e = record {
  front = pi.Kid (so.Level 15) ∷ pi.Fixed si.LeftParen ∷ [];
  last = pi.List (so.Level 1);
  behind = [];
  listed = true;
  form_is = refl;
  part_is = λ text. refl;
  starts = λ b. refl;
  opens = λ x y z text. refl;
  calm = λ x y z text. refl;
  closed = refl;
  behind_is = inl refl;
  left = λ text ts. refl;
  wants = wants-call;
}
list-form ki.StructLit e = record {
  front = pi.Kid so.TypePath ∷ pi.Fixed si.LeftBrace ∷ pi.Kid so.FieldValue ∷ [];
  last = pi.More so.FieldValue;
  behind = [];
  listed = false;
  form_is = refl;
  part_is = λ text. refl;
  starts = λ b. refl;
  opens = λ x y z text. refl;
  calm = λ x y z text. refl;
  closed = refl;
  behind_is = inl refl;
  left = λ text ts. refl;
  wants = wants-named;
}
list-form ki.Tuple e = record {
  front = pi.Fixed si.LeftParen ∷ pi.Kid (so.Level 1) ∷ pi.Fixed si.Comma ∷ pi.Kid (so.Level 1) ∷ [];
  last = pi.More (so.Level 1);
  behind = [];
  listed = false;
  form_is = refl;
  part_is = λ text. refl;
  starts = λ b. refl;
  opens = λ x y z text. refl;
  calm = λ x y z text. refl;
  closed = refl;
  behind_is = inl refl;
  left = λ text ts. refl;
  wants = wants-two;
}
list-form ki.TypeTuple e = record {
  front = pi.Fixed si.LeftParen ∷ pi.Kid so.Type ∷ pi.Fixed si.Comma ∷ pi.Kid so.Type ∷ [];
  last = pi.More so.Type;
  behind = [];
  listed = false;
  form_is = refl;
  part_is = λ text. refl;
  starts = λ b. refl;
  opens = λ x y z text. refl;
  calm = λ x y z text. refl;
  closed = refl;
  behind_is = inl refl;
  left = λ text ts. refl;
  wants = wants-two;
}
list-form ki.Array e = record {
  front = pi.Fixed si.LeftBracket ∷ [];
  last = pi.Elements (so.Level 1);
  behind = [];
  listed = true;
  form_is = refl;
  part_is = λ text. refl;
  starts = λ b. refl;
  opens = λ x y z text. refl;
  calm = λ x y z text. refl;
  closed = refl;
  behind_is = inl refl;
  left = λ text ts. refl;
  wants = λ ts w. record { before = false; none_before = λ x. refl; wants = w };
}
list-form ki.UseNames e = record {
  front = pi.Fixed si.Use ∷ pi.Kid so.ImportPath ∷ pi.Fixed si.PathMark ∷ pi.Fixed si.LeftBrace ∷ pi.Kid so.Name ∷ [];
  last = pi.More so.Name;
  behind = pi.Fixed si.Semicolon ∷ [];
  listed = false;
  form_is = refl;
  part_is = λ text. refl;
  starts = λ b. refl;
  opens = λ x y z text. refl;
  calm = λ x y z text. refl;
  closed = refl;
  behind_is = inr refl;
  left = λ text ts. refl;
  wants = wants-named;
}
list-form ki.TypeStruct e = record {
  front = pi.Fixed si.Struct ∷ pi.Fixed si.LeftBrace ∷ pi.Kid so.StructField ∷ [];
  last = pi.More so.StructField;
  behind = [];
  listed = false;
  form_is = refl;
  part_is = λ text. refl;
  starts = λ b. refl;
  opens = λ x y z text. refl;
  calm = λ x y z text. refl;
  closed = refl;
  behind_is = inl refl;
  left = λ text ts. refl;
  wants = wants-one;
}
list-form _ e = false-true e

-- ---- trees whose lists and cases have the kids of their forms

-- nothing, or a comma
abbrev pub IsOpen : Node → Type 0
IsOpen (branch h none) = (h.kind ≡ ki.None) ⊎ (h.kind ≡ ki.TrailingComma)
IsOpen (branch h (more t ts)) = ⊥

abbrev pub EndsOpen : Nodes → Type 0
EndsOpen none = ⊥
EndsOpen (more t none) = IsOpen t
EndsOpen (more t (more u us)) = EndsOpen (more u us)

-- each of them takes the sign that stands with it
abbrev pub TakeSigns : Nodes → Type 0
TakeSigns none = Unit {0}
TakeSigns (more t ts) = (stands_alone (head t).kind ≡ false) × TakeSigns ts

abbrev mutual
  pub IsRegular : Node → Type 0
  IsRegular (branch h ts) =
      (is_list h.kind ≡ true → EndsOpen (list_kids h.kind ts)) × (is_case h.kind ≡ true → TakeSigns (nodes_from 1 ts)) × AreRegular ts

  pub AreRegular : Nodes → Type 0
  AreRegular none = Unit {0}
  AreRegular (more t ts) = IsRegular t × AreRegular ts

-- ---- the last item of a list, behind which a comma may be added

open-nothing : (t : Node) (w : Bool) → IsOpen t → wants_behind (head t).kind w (stops si.Comma t) ≡ true → IsNothing t
open-nothing (branch h none) w (inl e) x = e
open-nothing (branch h none) w (inr e) x =
    false-true (subst (λ k. wants_behind k w (stops si.Comma (branch h none)) ≡ true) e x)
open-nothing (branch h (more t ts)) w o x = absurd o

pub ends-in-nothing : (ts : Nodes) (w : Bool) → EndsOpen ts → wants_comma w (items_of ts) ≡ true → EndsInNothing ts
ends-in-nothing none w o x = absurd o
ends-in-nothing (more t none) w o x = open-nothing t w o x
ends-in-nothing (more t (more u us)) w o x = ends-in-nothing (more u us) (wants_behind (head t).kind w (stops si.Comma t)) o x

nothing-wants : {A : Type 0} (t : Node) → IsNothing t → wants_behind (head t).kind false (stops si.Comma t) ≡ true → A
nothing-wants (branch h none) e x = false-true (subst (λ k. wants_behind k false (stops si.Comma (branch h none)) ≡ true) e x)
nothing-wants (branch h (more t ts)) e x = absurd e

pub list-ends-in-nothing : (ts : Nodes) → EndsOpen ts → wants_comma false (items_of ts) ≡ true → ListEndsInNothing ts
list-ends-in-nothing none o x = absurd o
list-ends-in-nothing (more t none) o x = nothing-wants t (open-nothing t false o x) x
list-ends-in-nothing (more t (more u us)) o x = ends-in-nothing (more u us) (wants_behind (head t).kind false (stops si.Comma t)) o x
