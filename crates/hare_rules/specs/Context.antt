-- What is known of a node when its turn comes: its kids have been judged, and nothing behind it has.
use Rattle.std.specs.Prelude.{ℕ, Bool, not, nat_eq, List, drop, find, Option, Some, None}
use Rattle.hare_tree.specs.declared.place.Place.{Place}
use Rattle.hare_tree.specs.declared.token.Meaning.{Meaning}
use Rattle.hare_tree.specs.Node.{Head}
use Rattle.hare_types.specs.declared.coercion.Ty.{Ty}
use Rattle.hare_types.specs.Store.{Store}
use Rattle.hare_typed.specs.Typed.{TypedNode, head_of, mark_of}
use Rattle.hare_typed.specs.Order.{tree_from_front}
use Rattle.hare_typed.specs.Numbers.{kind_of}
use Rattle.hare_tree.specs.Shape.{is_none as is_absent}
use Rattle.hare_rules.specs.declared.hint.Hint.{Hint}
use Rattle.hare_rules.specs.declared.inside.Target.{Target}
use Rattle.hare_rules.specs.declared.declared.Local.{Local}
use Rattle.hare_rules.specs.declared.declared.DeclType.{DeclType}

-- ---- what is known of the program

-- the types of a program, what is known of its declarations, and what paths mean, by their places: all are fixed while a body is judged
pub record Setting : Type 0 where
  pub store : Store
  pub decls : List DeclType
  pub means : Place → Meaning

-- what is known of a declaration
abbrev pub declaration : Setting → ℕ → Option DeclType
declaration w n = find (λ d. nat_eq d.decl n) w.decls

-- What is known of a binding. That of a for-each over what is no array and no slice has no type, and the fault stands where that loop does.
pub data Entry : Type 0 where
  Later : Entry  -- it has not been judged
  Known : Local → Entry
  Odd : Place → Entry

abbrev pub known_local : Option Entry → Option Local
known_local (Some (Known l)) = Some l
known_local _ = None

-- ---- what stands round a node

-- A tree round a node that a jump can mean. A value that is yielded to it has its hint.
pub record Open : Type 0 where
  pub target : Target
  pub name : List ℕ
  pub node : ℕ  -- the number of its node
  pub deferred : Bool  -- it stands inside the innermost deferred expression that is open
  pub hint : Hint

-- What a node is to its parent, where that says more of it than its kind.
pub data Role : Type 0 where
  Ordinary : Role
  Callee : Role  -- a path that is called: it is not judged
  Length : Role  -- the length of an array: it is judged by the row of its array
  BindingType : Role  -- the written type of a binding: it has to have a size
  CaseValue : Role  -- a value of a case of a switch: it has a constant
  DeclaredValue : Role  -- the value of a def or of a global: it has a constant, that of its type where none is written

pub record Inside : Type 0 where
  pub own : ℕ  -- the declaration
  pub result : ℕ  -- the type that the function gives; never in the value of a definition or of a global
  pub labels : List Open  -- the outermost first
  pub deferred : Bool  -- a deferred expression is open
  pub body : Bool  -- the node is the body of a function
  pub role : Role

-- ---- what has been found inside a node

-- A value that is handed to a node from inside it, and where: by a yield, by a branch or case, or, where it has no type here, the void
-- of an end that is reached. The number is that of the node that gets a coercion, where there is one.
pub record Given : Type 0 where
  pub place : Place
  pub ty : Option Ty
  pub node : Option ℕ

-- The context of a node. The kids carry the coercions that are settled by then.
pub record Context : Type 0 where
  pub setting : Setting
  pub locals : List Entry  -- by their numbers
  pub head : Head
  pub node : ℕ  -- its number
  pub meaning : Meaning  -- what the names say of a path; of a call and of a struct literal what they say of its path
  pub hint : Hint
  pub inside : Inside
  pub kids : List TypedNode
  pub yields : List Given  -- what was yielded to it, in check order

abbrev pub store_of : Context → Store
store_of c = c.setting.store

-- ---- reading the kids

-- kid number i, counted from 0; of one that a form lacks, the tree that stands for it
abbrev pub kid : Context → ℕ → TypedNode
kid c i = tree_from_front i c.kids

abbrev pub place_of : TypedNode → Place
place_of x = (head_of x).place

abbrev pub text_of : TypedNode → List ℕ
text_of x = (head_of x).text

-- the part is not left out
abbrev pub is_there : TypedNode → Bool
is_there x = not (is_absent (kind_of x))

-- the type of what it gives, before its coercion
abbrev pub own_type : TypedNode → Ty
own_type x = (mark_of x).ty

-- the first kid of which it is so blames its own place, and none blames the node's
abbrev pub place_or : Place → Option TypedNode → Place
place_or p None = p
place_or p (Some x) = place_of x

-- the kids behind the first
abbrev pub behind_first : Context → List TypedNode
behind_first c = drop 1 c.kids
