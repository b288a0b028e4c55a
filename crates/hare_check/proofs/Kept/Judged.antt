-- That a tree is kept whose node a judge has judged.
use Rattle.std.proofs.Common.{◌≡◌, ℕ, Bool, true, false, cond, List, [], ◌∷◌, Option, Some, None, IsSome, refl, ap, sym, ◌∙◌, subst}
use Rattle.std.specs.Prelude.{slice_get, option_map}
use Rattle.std.specs.Option.{unwrap_or}
use Rattle.hare_tree.specs.declared.kind.Kind.{Kind}
use Rattle.hare_tree.specs.declared.kind.Kind.TheVariants as ki
use Rattle.hare_tree.specs.declared.token.Meaning.{Meaning}
use Rattle.hare_tree.specs.declared.token.Meaning.TheVariants as means
use Rattle.hare_tree.specs.Node.{Head}
use Rattle.hare_types.specs.declared.coercion.Coercion.{Coercion}
use Rattle.hare_types.specs.declared.coercion.Ty.{Ty}
use Rattle.hare_types.specs.declared.coercion.Ty.TheVariants as ty
use Rattle.hare_types.specs.Assign.{first_row, value_at, type_at}
use Rattle.hare_types.specs.Store.{Store}
use Rattle.hare_typed.specs.Typed.{TypedNode, Mark, marked, typed_nodes}
use Rattle.hare_typed.specs.Given.{given}
use Rattle.hare_typed.specs.Order.{tree_from_front}
use Rattle.hare_rules.specs.declared.declared.DeclType.{DeclType}
use Rattle.hare_rules.specs.declared.declared.Local.{Local}
use Rattle.hare_rules.specs.declared.hint.Hint.{Hint}
use Rattle.hare_rules.specs.declared.hint.Hint.TheVariants as hint
use Rattle.hare_rules.specs.Context.{Setting, Context, Role, Ordinary, Callee, Length, BindingType, CaseValue, DeclaredValue, store_of, known_local, declaration}
use Rattle.hare_rules.specs.Control.{block_type_by, block_values}
use Rattle.hare_rules.specs.Flow.{own_settled}
use Rattle.hare_rules.specs.Operators.{path_type, type_of_local, type_of_declaration, is_type_decl, first_seen, named_id}
use Rattle.hare_rules.specs.Rows.{is_judged}
use Rattle.hare_rules.specs.Settles.{same, own_coercion}
use Rattle.hare_rules.specs.Types.{type_by, type_in_role, type_of}
use Rattle.hare_rules.specs.Words.{id_in, typed_as}
use Rattle.hare_judge.specs.Kinds.{is_judged_kind}
use Rattle.hare_find.specs.Listed.{coated_one, coated_each}
use Rattle.hare_told.specs.Told.{has_judge}
use Rattle.rule_judge.specs.Defined.{IsDefinedTree}
use Rattle.rule_mem.specs.Needs.{leads_by, has_place_form, has_first_form}
use Rattle.rule_types.specs.Known.{IsKnownBy}
use Rattle.hare_check.specs.Keeps.{is_case, IsKeptTree, AreKeptTrees}
use Rattle.hare_check.proofs.Kept.Relied.{first-typed}

-- ---- types with an id

-- a type that is made of an id has one
pub typed_id : (o : Option ℕ) (a : Ty) → typed_as o ≡ Some a → IsSome (id_in a)
typed_id None a e = cc
typed_id (Some t) a e = let same : ty.Of t ≡ a = cc in subst (λ (b : Ty). IsSome (id_in b)) same refl

local_id : (o : Option Local) (a : Ty) → type_of_local o ≡ Some a → IsSome (id_in a)
local_id None a e = cc
local_id (Some l) a e = let same : ty.Of l.ty ≡ a = cc in subst (λ (b : Ty). IsSome (id_in b)) same refl

value_id : (w : Setting) (d : DeclType) (n : ℕ) (b : Bool) (a : Ty) → cond b (typed_as (named_id w n)) (Some (ty.Of d.ty)) ≡ Some a →
    IsSome (id_in a)
value_id w d n true a e = typed_id (named_id w n) a e
value_id w d n false a e = let same : ty.Of d.ty ≡ a = cc in subst (λ (b : Ty). IsSome (id_in b)) same refl

declaration_id : (w : Setting) (o : Option DeclType) (n : ℕ) (a : Ty) → type_of_declaration w o n ≡ Some a → IsSome (id_in a)
declaration_id w None n a e = typed_id (named_id w n) a e
declaration_id w (Some d) n a e = value_id w d n (is_type_decl d.kind) a e

-- a local that is known, or a declaration
pub path_id : (c : Context) (m : Meaning) (a : Ty) → path_type c m ≡ Some a → IsSome (id_in a)
path_id c (means.Local n) a e = local_id (known_local (slice_get c.locals n)) a e
path_id c (means.Decl n) a e = declaration_id c.setting (declaration c.setting n) n a e
path_id c _ a e = cc

-- ---- behind the coercion of the node

row_id : (s : Store) (a : Ty) (t : ℕ) (o : Option ℕ) → IsSome (id_in a) →
    IsSome (id_in (unwrap_or (option_map (λ n. let r : Coercion = record { row = n; to = ty.Of t } in r) o) (same a)).to)
row_id s a t None h = h
row_id s a t (Some n) h = refl

site_id : (s : Store) (g : Hint) (a : Ty) → IsSome (id_in a) → IsSome (id_in (own_coercion s g a).to)
site_id s (hint.Of t) a h = row_id s a t (first_row s (value_at s a) (type_at s t)) h
site_id s hint.Drop a h = h
site_id s hint.None a h = h

either_id : (b : Bool) (r q : Coercion) → IsSome (id_in r.to) → IsSome (id_in q.to) → IsSome (id_in (cond b r q).to)
either_id true r q h k = h
either_id false r q h k = k

-- a hint leads to a type, and without one the type stays
pub settled_id : (c : Context) (a : Ty) → IsSome (id_in a) → IsSome (id_in (own_settled c a).to)
settled_id c a h = either_id (is_judged c) (own_coercion (store_of c) c.hint a) (same a) (site_id (store_of c) c.hint a h) h

-- ---- forms of kids

-- what is settled of a kid says nothing of whether it can be a place
form-coated : (o : Option Coercion) (x : TypedNode) → has_place_form (coated_one x o) ≡ has_place_form x
form-coated None x = refl
form-coated (Some r) (marked h m ts) = refl

first_form-coated : (xs : List TypedNode) (os : List (Option Coercion)) →
    has_first_form (typed_nodes (coated_each xs os)) ≡ has_place_form (tree_from_front 0 xs)
first_form-coated [] os = refl
first_form-coated (x ∷ xs) [] = refl
first_form-coated (x ∷ xs) (o ∷ os) = form-coated o x

-- ---- the node, by its kind

type-judged : (c : Context) (r : Role) → has_judge r ≡ true → type_in_role c r ≡ type_by c c.head.kind
type-judged c Ordinary e = refl
type-judged c CaseValue e = refl
type-judged c DeclaredValue e = refl
type-judged c BindingType e = cc
type-judged c Callee e = cc
type-judged c Length e = cc

-- the type of what can be a place; in parentheses it is that of the first kid
place_id : (c : Context) (k : Kind) (b : Bool) (a : Ty) → type_by c k ≡ Some a → (b ≡ true → IsSome (id_in (first_seen c))) →
    leads_by k b ≡ true → IsSome (id_in a)
place_id c ki.Path b a e f l = path_id c c.meaning a e
place_id c ki.Deref b a e f l = typed_id _ a e
place_id c ki.Index b a e f l = typed_id _ a e
place_id c ki.Field b a e f l = typed_id _ a e
place_id c ki.Paren b a e f l = let same : first_seen c ≡ a = cc in subst (λ (b : Ty). IsSome (id_in b)) same (f l)
place_id c _ b a e f l = cc

-- what comes together in a case has a type
case_id : (c : Context) (k : Kind) (a : Ty) → type_by c k ≡ Some a → is_case k ≡ true → IsSome (id_in a)
case_id c ki.Case a e l = typed_id (block_type_by c (block_values c)) a e
case_id c ki.SwitchCase a e l = typed_id (block_type_by c (block_values c)) a e
case_id c _ a e l = cc

-- what is judged is no written type and no part of one
part-judged : (s : Store) (k : Kind) (x : TypedNode) → is_judged_kind k ≡ true → IsKnownBy s k x
part-judged s ki.TypeScalar x e = cc
part-judged s ki.TypePath x e = cc
part-judged s ki.TypePointer x e = cc
part-judged s ki.TypeNullable x e = cc
part-judged s ki.TypeSlice x e = cc
part-judged s ki.TypeError x e = cc
part-judged s ki.TypeArray x e = cc
part-judged s ki.TypeStruct x e = cc
part-judged s ki.TypeTuple x e = cc
part-judged s ki.TypeUnion x e = cc
part-judged s ki.StructField x e = cc
part-judged s ki.Spread x e = cc
part-judged s _ x e = tt

-- This has been found of a node that a judge is asked of: its type, its own coercion, and those of its kids, which were kept.
pub record IsJudgedTree (s : Store) (c : Context) (h : Head) (m : Mark) (xs ys : List TypedNode) : Type 0 where
  pub kind : is_judged_kind h.kind ≡ true
  pub role : has_judge c.inside.role ≡ true
  pub head : c.head ≡ h
  pub kids : c.kids ≡ xs
  pub kept : AreKeptTrees s xs
  pub type : type_of c ≡ Some m.ty
  pub own : own_settled c m.ty ≡ m.coerce
  pub settled : (os : List (Option Coercion)) × (ys ≡ coated_each xs os)
  pub types : IsDefinedTree s (marked h m (typed_nodes ys))

-- such a node is kept
pub kept-judged : (s : Store) (c : Context) (h : Head) (m : Mark) (xs ys : List TypedNode) → IsJudgedTree s c h m xs ys →
    IsKeptTree s (marked h m (typed_nodes ys))
kept-judged s c h m xs ys q =
    let same_kind : c.head.kind ≡ h.kind = ap (λ (g : Head). g.kind) q.head in
    let by : type_by c h.kind ≡ Some m.ty = ap (type_by c) (sym same_kind) ∙ sym (type-judged c c.inside.role q.role) ∙ q.type in
    let form : has_first_form (typed_nodes ys) ≡ has_place_form (tree_from_front 0 xs) =
    ap (λ zs. has_first_form (typed_nodes zs)) q.settled.1 ∙ first_form-coated xs q.settled.0 in
    let first : has_first_form (typed_nodes ys) ≡ true → IsSome (id_in (first_seen c)) =
    λ e. subst (λ zs. IsSome (id_in (given (tree_from_front 0 zs)))) (sym q.kids) (first-typed s xs q.kept (sym form ∙ e)) in
    record {
      types = q.types;
      place = λ e.
          subst (λ (r : Coercion). IsSome (id_in r.to)) q.own
          (settled_id c m.ty (place_id c h.kind (has_first_form (typed_nodes ys)) m.ty by first e));
      case = λ e. case_id c h.kind m.ty by e;
      part = part-judged s h.kind (marked h m (typed_nodes ys)) q.kind;
    }
