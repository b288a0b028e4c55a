-- The length of an array, of which no judge is asked: the rows of the array speak of it.
use Rattle.std.specs.Prelude.{◌≡◌, Bool, true, false, List, map}
use Rattle.hare_tree.specs.declared.kind.Kind.{Kind}
use Rattle.hare_tree.specs.declared.kind.Kind.TheVariants as ki
use Rattle.hare_tree.specs.declared.token.Meaning.{Meaning}
use Rattle.hare_tree.specs.declared.token.Meaning.TheVariants as means
use Rattle.hare_tree.specs.Node.{Head}
use Rattle.hare_types.specs.Store.{Store}
use Rattle.hare_types.specs.Later.{IsLater}
use Rattle.hare_typed.specs.Typed.{TypedNode}
use Rattle.hare_rules.specs.declared.declared.DeclType.{DeclType}
use Rattle.hare_rules.specs.Context.{Setting, Context, Length, declaration, store_of}
use Rattle.hare_rules.specs.Above.{Above}
use Rattle.hare_rules.specs.Finished.{bare}
use Rattle.hare_rules.specs.Flow.{Flow, path_meaning}
use Rattle.hare_walk.specs.Walks.{AreInHand}
use Rattle.rule_judge.specs.Settings.{setting_of}
use Rattle.rule_judge.specs.Meant.{IsKnownDecl}

-- the two kinds that a length can be of
abbrev pub is_length : Kind → Bool
is_length ki.Number = true
is_length ki.Path = true
is_length _ = false

-- the declaration that a path means, if it means one, is known
abbrev pub IsLengthMeant : Store → List DeclType → Meaning → Type 0
IsLengthMeant s ds (means.Decl n) = IsKnownDecl s n (declaration (setting_of s ds) n)
IsLengthMeant s ds (means.Local n) = Unit {0}
IsLengthMeant s ds (means.Rt n) = Unit {0}
IsLengthMeant s ds means.None = Unit {0}

-- what is known of the program and of the node where a length stands, in a store that may come later
pub record IsLengthIn (s : Store) (ds : List DeclType) (m : Meaning) (h : Head) (c : Context) : Type 0 where
  pub later : IsLater s (store_of c)
  pub decls : c.setting.decls ≡ ds
  pub meaning : c.meaning ≡ m
  pub head : c.head ≡ h

-- The turn of the length of an array has come, with this head and these kids; its path means this.
pub record IsAtLength (w : Store → Setting) (s : Store) (a : Above) (f : Flow) (ds : List DeclType) (m : Meaning) (h : Head)
    (xs : List TypedNode) : Type 0 where
  pub store : (l : Store) → (w l).store ≡ l
  pub decls : (l : Store) → (w l).decls ≡ ds
  pub hand : AreInHand f xs
  pub role : a.inside.role ≡ Length
  pub meaning : (l : Store) → IsLater s l → m ≡ path_meaning (w l) h h.kind (map bare xs)
