-- What rules mean: the tokens that they read, and what they make of the trees under way.
use Rattle.std.proofs.Common.{◌≡◌, ℕ, ◌+◌, List, [], ◌∷◌, ◌++◌, Bool, true, false, map, length, refl, ap}
use Rattle.std.specs.Prelude.{nat_le}
use Rattle.hare_tree.specs.declared.kind.Kind.{Kind}
use Rattle.hare_tree.specs.declared.kind.Kind.TheVariants as ki
use Rattle.hare_tree.specs.declared.token.TokenKind.TheVariants as tk
use Rattle.hare_tree.specs.declared.token.Token.{Token}
use Rattle.hare_tree.specs.declared.form.Sign.{Sign}
use Rattle.hare_tree.specs.declared.form.Sign.TheVariants as si
use Rattle.hare_tree.specs.declared.form.Own.TheVariants as ow
use Rattle.hare_tree.specs.declared.form.Sort.{Sort}
use Rattle.hare_tree.specs.declared.form.Sort.TheVariants as so
use Rattle.hare_tree.specs.declared.form.Piece.{Piece}
use Rattle.hare_tree.specs.declared.form.Piece.TheVariants as pi
use Rattle.hare_tree.specs.Node.{Node, Nodes, branch, nodes_of}
use Rattle.hare_tree.specs.declared.form.Lead.TheVariants as le
use Rattle.hare_tree.specs.Depth.{begins_led}
use Rattle.hare_tree.specs.Forms.{expr, postfix}
use Rattle.hare_tree.specs.Levels.{is_name}
use Rattle.hare_tree.specs.Spell.{start_of, word_token, sign_token, label_tokens, all_led, spell, spells}
use Rattle.hare_tree.specs.Shape.{are_kids, is_own, is_leaf, is_none_or_comma, are_names}
use Rattle.hare_tree.specs.Grammar.{HasPlaces, HavePlaces, place_of, unplaced}
use Rattle.hare_automaton.specs.declared.class.Class.TheVariants as cl
use Rattle.hare_automaton.specs.declared.rule.Rule.{Rule}
use Rattle.hare_automaton.specs.declared.rule.Rule.TheVariants as ru
use Rattle.hare_automaton.specs.Classes.{class_of}
use Rattle.hare_automaton.specs.Rows.{has_sign}
use Rattle.hare_automaton.specs.Engine.{Group, begun, with_kids, head_in, bare_leaf, add, close, lift, join_text}
use Rattle.hare_automaton.proofs.Machine.Steps.{front}
use Rattle.hare_automaton.proofs.Spelled.Paths.{further, further_tokens, joined_by}
use Rattle.hare_prefixes.proofs.Soundness.Trees.{Source, IsTree, Tree, Listed, Items, Begun, Bare, Owned, Ended, list_of}

-- ---- what the rules mean

-- `[tree]`
pub data Optionally (x : Source) (s : Sort) (gs : List Group) (m : ℕ) (u w : List Token) (gs' : List Group) : Type 0 where
  absent : u ≡ [] → gs' ≡ add (bare_leaf ki.None (start_of x.file)) gs → Optionally x s gs m u w gs'
  present : Tree x s gs m u w gs' → Optionally x s gs m u w gs'

-- a sign and a tree behind it
pub record Behind (x : Source) (a : Sign) (s : Sort) (gs : List Group) (m : ℕ) (u w : List Token) (gs' : List Group) : Type 0 where
  pub sign : Token
  pub v : List Token
  pub n : ℕ
  pub is : u ≡ sign ∷ v
  pub begun : Begun x a sign m n
  pub tree : Tree x s gs n v w gs'

-- `[sign tree]`
pub data Led (x : Source) (a : Sign) (s : Sort) (gs : List Group) (m : ℕ) (u w : List Token) (gs' : List Group) : Type 0 where
  lacks : u ≡ [] → has_sign a (front w) ≡ false → gs' ≡ add (bare_leaf ki.None (start_of x.file)) gs → Led x a s gs m u w gs'
  leads : Behind x a s gs m u w gs' → Led x a s gs m u w gs'

-- `[","]`
pub record LastComma (x : Source) (gs : List Group) (m : ℕ) (u w : List Token) (gs' : List Group) : Type 0 where
  pub t : Node
  pub leaf : is_leaf is_none_or_comma t ≡ true
  pub spelled : spell 0 t ≡ map unplaced u
  pub placed : HasPlaces x.file x.tokens m t
  pub adds : gs' ≡ add t gs

-- further names of a path
pub record Names (u : List Token) : Type 0 where
  pub names : List (List ℕ)
  pub are : are_names true names ≡ true
  pub spelled : further_tokens 0 names ≡ map unplaced u

-- a name behind `::`
pub record OneName (u : List Token) (gs gs' : List Group) : Type 0 where
  pub t : Token
  pub is : u ≡ t ∷ []
  pub spelled : unplaced t ≡ word_token 0 tk.Name t.text
  pub name : is_name true t.text ≡ true
  pub adds : gs' ≡ join_text t gs

-- the fields of a struct literal
abbrev pub fields : List Piece
fields = pi.Kid so.FieldValue ∷ pi.More so.FieldValue ∷ pi.Fixed si.RightBrace ∷ []

-- the group with a tree as its next kid
abbrev pub with_kid : Group → Node → Group
with_kid g t = with_kids g (g.kids ++ t ∷ [])

-- the tree that the group is, of a kind
abbrev pub closed_as : Kind → Group → Node
closed_as k g = branch (head_in k g) (nodes_of g.kids)

-- a path that a struct literal begins with
pub record Literal (x : Source) (g o : Group) (hs : List Group) (m : ℕ) (u w : List Token) (gs' : List Group) : Type 0 where
  pub path : List Token
  pub brace : Token
  pub v : List Token
  pub n : ℕ
  pub is : u ≡ path ++ (brace ∷ v)
  pub names : Names path
  pub class : class_of brace ≡ cl.Sign si.LeftBrace
  pub place : place_of x.tokens (m + length path) ≡ brace.place
  pub at : n ≡ m + (length path + 1)
  pub ended : Ended x ki.StructLit fields (with_kid o (closed_as ki.TypePath (joined_by (further names.names) g))) hs n v w gs'

-- a path, or a struct literal
pub data PathEnd (x : Source) (g o : Group) (hs : List Group) (m : ℕ) (u w : List Token) (gs' : List Group) : Type 0 where
  path : (q : Names u) → gs' ≡ lift (close ki.Path (joined_by (further q.names) g ∷ o ∷ hs)) → PathEnd x g o hs m u w gs'
  literal : Literal x g o hs m u w gs' → PathEnd x g o hs m u w gs'

-- what stands behind `(` and a tree
abbrev pub Inside : Source → Sort → Sort → List Group → ℕ → List Token → List Token → List Group → Type 0
Inside x s r gs m u w gs' = (t : Token) (n n' : ℕ) (hs : List Group) (a : Node) (v : List Token) → gs ≡ begun t.place (a ∷ []) ∷ hs →
    Begun x si.LeftParen t n n' → IsTree x s n' v (u ++ w) a → m ≡ n' + length v → Tree x r hs n (t ∷ (v ++ u)) w gs'

-- the head of a loop up to its `(`, as the group `g` says it
pub record LoopBegun (x : Source) (g : Group) (n m : ℕ) (v : List Token) : Type 0 where
  pub kids : g.kids ≡ []
  pub own : is_own ow.Label (head_in ki.For g) ≡ true
  pub spelled : map unplaced v ≡ sign_token 0 si.For ∷ (label_tokens 0 g.text ++ sign_token 0 si.LeftParen ∷ [])
  pub place : place_of x.tokens n ≡ g.place
  pub at : m ≡ n + length v

-- `let` and a name behind it, as the group `g` says them
pub record LetBegun (x : Source) (g : Group) (n m : ℕ) (v : List Token) : Type 0 where
  pub kids : g.kids ≡ []
  pub own : is_own ow.Name (head_in ki.Let g) ≡ true
  pub spelled : map unplaced v ≡ sign_token 0 si.Let ∷ word_token 0 tk.Name g.text ∷ []
  pub place : place_of x.tokens n ≡ g.place
  pub at : m ≡ n + length v

-- the names behind `{` of an import
abbrev pub imported : List Piece
imported = pi.Kid so.Name ∷ pi.More so.Name ∷ pi.Fixed si.RightBrace ∷ pi.Fixed si.Semicolon ∷ []

-- the group of a path with further names
abbrev pub longer : Group → Nodes → Group
longer g ts = with_kids g (g.kids ++ list_of ts)

-- the end of an import whose path is whole
pub data ImportEnd (x : Source) (g o : Group) (hs : List Group) (m : ℕ) (u w : List Token) (gs' : List Group) : Type 0 where
  whole : (t : Token) (n : ℕ) → u ≡ t ∷ [] → Begun x si.Semicolon t m n → gs' ≡ close ki.Use (close ki.ImportPath (g ∷ o ∷ hs)) →
      ImportEnd x g o hs m u w gs'
  braces : (mark brace : Token) (v : List Token) (n n' : ℕ) → u ≡ mark ∷ brace ∷ v → Begun x si.PathMark mark m n →
      Begun x si.LeftBrace brace n n' → Ended x ki.UseNames imported (with_kid o (closed_as ki.ImportPath g)) hs n' v w gs' →
      ImportEnd x g o hs m u w gs'

-- an import behind a name of its path: further names, and its end
pub record Import (x : Source) (g o : Group) (hs : List Group) (m : ℕ) (u w : List Token) (gs' : List Group) : Type 0 where
  pub v : List Token
  pub v' : List Token
  pub n : ℕ
  pub ts : Nodes
  pub is : u ≡ v ++ v'
  pub at : n ≡ m + length v
  pub kids : (k : ℕ) → are_kids k (pi.EachLed si.PathMark so.PathName ∷ []) ts ≡ true
  pub spelled : all_led 0 (le.Before si.PathMark) (spells 0 ts) ≡ map unplaced v
  pub placed : HavePlaces x.file x.tokens (begins_led (le.Before si.PathMark) m (spells 0 ts)) ts
  pub ends : ImportEnd x (longer g ts) o hs n v' w gs'

-- the path of an alias
abbrev pub aliased : List Piece
aliased = pi.Kid so.ImportPath ∷ pi.Fixed si.Semicolon ∷ []

pub data AfterName (x : Source) (g o : Group) (hs : List Group) (m : ℕ) (u w : List Token) (gs' : List Group) : Type 0 where
  import : Import x g o hs m u w gs' → AfterName x g o hs m u w gs'
  alias : (t : Token) (v : List Token) (n : ℕ) → u ≡ t ∷ v → Begun x si.Equals t m n →
      Ended x ki.UseAlias aliased (with_kids o (o.kids ++ g.kids)) hs n v w gs' → AfterName x g o hs m u w gs'

-- some tree is under way
pub record HasGroup (gs : List Group) : Type 0 where
  pub g : Group
  pub hs : List Group
  pub is : gs ≡ g ∷ hs

-- the sorts of which no tree is nothing, a comma or `...`
abbrev pub apart : Sort → Bool
apart (so.Level l) = nat_le 1 l
apart so.Dots = false
apart so.Left = false
apart so.Right = false
apart _ = true

abbrev pub Means : Source → Rule → List Group → ℕ → List Token → List Token → List Group → Type 0
Means x (ru.Of s) gs m u w gs' = HasGroup gs → Tree x s gs m u w gs'
Means x (ru.Own o) gs m u w gs' = (g : Group) (hs : List Group) → gs ≡ g ∷ hs → Bare g → (g' : Group) × (gs' ≡ g' ∷ hs) × Owned o g u g'
Means x (ru.Optional s) gs m u w gs' = HasGroup gs → Optionally x s gs m u w gs'
Means x (ru.Led a s) gs m u w gs' = HasGroup gs → Led x a s gs m u w gs'
Means x (ru.Each s) gs m u w gs' = HasGroup gs → Listed x (pi.Each s) gs m u w gs'
Means x (ru.EachLed a s) gs m u w gs' = apart s ≡ true → HasGroup gs → Listed x (pi.EachLed a s) gs m u w gs'
Means x (ru.EachFollowed s a) gs m u w gs' = apart s ≡ true → HasGroup gs → Listed x (pi.EachFollowed s a) gs m u w gs'
Means x (ru.List s) gs m u w gs' = apart s ≡ true → HasGroup gs → Listed x (pi.List s) gs m u w gs'
Means x (ru.More s) gs m u w gs' = apart s ≡ true → HasGroup gs → Items x (pi.More s) gs m u w gs'
Means x (ru.BehindComma s) gs m u w gs' = apart s ≡ true → (t : Token) (n : ℕ) (hs : List Group) → HasGroup hs →
    gs ≡ begun t.place [] ∷ hs → Begun x si.Comma t n m → Items x (pi.More s) hs n (t ∷ u) w gs'
Means x ru.Elements gs m u w gs' = HasGroup gs → Listed x (pi.Elements expr) gs m u w gs'
Means x ru.MoreElements gs m u w gs' = HasGroup gs → Items x (pi.MoreElements expr) gs m u w gs'
Means x ru.BehindElementComma gs m u w gs' = (t : Token) (n : ℕ) (hs : List Group) → HasGroup hs →
    gs ≡ begun t.place [] ∷ begun t.place (bare_leaf ki.None (start_of x.file) ∷ []) ∷ hs → Begun x si.Comma t n m →
    Items x (pi.MoreElements expr) hs n (t ∷ u) w gs'
Means x ru.LastComma gs m u w gs' = LastComma x gs m u w gs'
Means x (ru.PathRest k) gs m u w gs' = (g : Group) (hs : List Group) → gs ≡ g ∷ hs → (q : Names u) ×
    (gs' ≡ close k (joined_by (further q.names) g ∷ hs))
Means x ru.PathOrStruct gs m u w gs' = (g o : Group) (hs : List Group) → gs ≡ g ∷ o ∷ hs → PathEnd x g o hs m u w gs'
Means x ru.PathName gs m u w gs' = OneName u gs gs'
Means x ru.InBracket gs m u w gs' = (t : Token) (n : ℕ) (hs : List Group) → gs ≡ begun t.place [] ∷ hs → Begun x si.LeftBracket t n m →
    Tree x so.BareType hs n (t ∷ u) w gs'
Means x ru.FirstMember gs m u w gs' = (t : Token) (n : ℕ) (hs : List Group) → gs ≡ begun t.place [] ∷ hs → Begun x si.LeftParen t n m →
    Tree x so.BareType hs n (t ∷ u) w gs'
Means x ru.AfterType gs m u w gs' = Inside x so.Type so.BareType gs m u w gs'
Means x ru.AfterSpread gs m u w gs' = Inside x so.Member so.BareType gs m u w gs'
Means x (ru.Climb l j) gs m u w gs' = (a : Node) (hs : List Group) (n : ℕ) (v : List Token) → HasGroup hs → nat_le l j ≡ true →
    gs ≡ add a hs → IsTree x (so.Level j) n v (u ++ w) a → m ≡ n + length v → Tree x (so.Level l) hs n (v ++ u) w gs'
Means x ru.AfterValue gs m u w gs' = Inside x expr (so.Level 16) gs m u w gs'
Means x ru.InIndex gs m u w gs' = (a : Node) (hs : List Group) (n n1 : ℕ) (v : List Token) (t : Token) → gs ≡ begun t.place (a ∷ []) ∷ hs →
    IsTree x postfix n v (t ∷ (u ++ w)) a → n1 ≡ n + length v → Begun x si.LeftBracket t n1 m → Tree x postfix hs n (v ++ (t ∷ u)) w gs'
Means x ru.AfterIndex gs m u w gs' = (a : Node) (hs : List Group) (n n1 n2 : ℕ) (v : List Token) (t : Token) (b : Node) (v' : List Token) →
    gs ≡ begun t.place (a ∷ b ∷ []) ∷ hs → IsTree x postfix n v (t ∷ (v' ++ (u ++ w))) a → n1 ≡ n + length v →
    Begun x si.LeftBracket t n1 n2 → IsTree x expr n2 v' (u ++ w) b → m ≡ n2 + length v' → Tree x postfix hs n (v ++ (t ∷ (v' ++ u))) w gs'
Means x ru.AfterYield gs m u w gs' = (t : Token) (n : ℕ) (hs : List Group) → gs ≡ begun t.place [] ∷ hs → Begun x si.Yield t n m →
    Tree x expr hs n (t ∷ u) w gs'
Means x ru.ForHead gs m u w gs' = (g : Group) (hs : List Group) (n : ℕ) (v : List Token) → gs ≡ g ∷ hs → LoopBegun x g n m v →
    Tree x expr hs n (v ++ u) w gs'
Means x ru.AfterForName gs m u w gs' = (g o : Group) (hs : List Group) (n n1 : ℕ) (v v' : List Token) → gs ≡ g ∷ o ∷ hs →
    LoopBegun x o n n1 v → LetBegun x g n1 m v' → Tree x expr hs n (v ++ (v' ++ u)) w gs'
Means x ru.DeclWord gs m u w gs' = (t : Token) (n : ℕ) (hs : List Group) → gs ≡ begun t.place (bare_leaf ki.Export t.place ∷ []) ∷ hs →
    Begun x si.Export t n m → Tree x so.Decl hs n (t ∷ u) w gs'
Means x ru.UseStart gs m u w gs' = (t : Token) (n : ℕ) (hs : List Group) → gs ≡ begun t.place [] ∷ hs → Begun x si.Use t n m →
    Tree x so.Use hs n (t ∷ u) w gs'
Means x ru.AfterUseName gs m u w gs' = (g o : Group) (hs : List Group) → gs ≡ g ∷ o ∷ hs → AfterName x g o hs m u w gs'
Means x ru.AfterUseMark gs m u w gs' = (t : Token) (n : ℕ) (g o : Group) (hs : List Group) → gs ≡ g ∷ o ∷ hs → Begun x si.PathMark t n m →
    Import x g o hs n (t ∷ u) w gs'
Means x ru.AfterUsePart gs m u w gs' = (g o : Group) (hs : List Group) → gs ≡ g ∷ o ∷ hs → Import x g o hs m u w gs'

-- with one kid more there still is one
pub has_kid : (t : Node) (gs : List Group) → HasGroup gs → HasGroup (add t gs)
has_kid t gs o = record { g = with_kid o.g t; hs = o.hs; is = ap (add t) o.is }

pub has_first : (g : Group) (hs : List Group) → HasGroup (g ∷ hs)
has_first g hs = record { g = g; hs = hs; is = refl }
