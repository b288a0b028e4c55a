-- The value of a tree that is constant rests on no object but static ones and those that its evaluation made.
use Rattle.std.proofs.Common.{◌≡◌, ℕ, zero, suc, ◌+◌, Bool, true, false, [], length, refl, sym, subst, inl}
use Rattle.std.specs.Prelude.{if◌then◌else◌, not, ◌&&◌, ◌||◌, ◌==◌, Option, Some, None}
use Rattle.hare_tree.specs.declared.kind.Kind.{Kind}
use Rattle.hare_tree.specs.declared.kind.Kind.TheVariants as kind
use Rattle.hare_tree.specs.declared.token.Meaning.{Meaning}
use Rattle.hare_tree.specs.declared.token.Meaning.TheVariants as meant
use Rattle.hare_tree.specs.Levels.{is_type}
use Rattle.hare_tree.specs.Node.{Head}
use Rattle.hare_types.specs.Store.{Store}
use Rattle.hare_typed.specs.Typed.{TypedNode, TypedNodes, Mark, marked, typed_none, typed_more, mark_of}
use Rattle.hare_typed.specs.Given.{first_given}
use Rattle.hare_typed.specs.Constants.{is_known}
use Rattle.hare_typed.specs.Constancy.{is_global_path, begins_with_global, names_void, is_constant, hides_kids, or_else, first_inconstant, first_inconstant_of}
use Rattle.hare_typed.specs.Scalars.{Address}
use Rattle.hare_typed.specs.State.{State, Scope, Mode, AsValue, AsPlace, Value, Reached}
use Rattle.hare_typed.specs.Acts.{end, make}
use Rattle.hare_typed.specs.Bindings.{own_bindings}
use Rattle.hare_typed.specs.Interpreter.{Evaluation, behind, Tasks, Kids, node_act, kid_act, part_act, fewer_than}
use Rattle.hare_typed.specs.World.{World}
use Rattle.hare_typed.specs.Evaluated.{ValueForm, PlaceForm, is_evaluated, is_named, is_place_kind, is_place, first_is_place, place_in_mode, value_in_mode, value_object, evaluated, gives}
use Rattle.hare_typed.specs.ConstantForms.{object_meant}
use Rattle.hare_typed.specs.ConstantValues.{constant_form, constant_place, constant_node, constant_forms}
use Rattle.hare_typed.specs.Quiet.{ConstantsLookAtStatics}
use Rattle.hare_typed.proofs.Steady.Acts.{MayLook, Alike, DoesAlike, DoesAlike-refl, IsSteady, Steady, ends, makes, ticks, act-alike, Alike-begins, DoesTheSame-from}
use Rattle.hare_typed.proofs.Steady.Forms.{Ready, SteadyForm, steady_form, steady_by_value}

-- ---- what constancy says of a node

first-none : (x y : Option TypedNode) → or_else x y ≡ None → (x ≡ None) × (y ≡ None)
first-none None y e = (refl, e)
first-none (Some t) y e = absurd cc

unless-none : (x : Bool) (t : TypedNode) → (if not x || false then Some t else None) ≡ None → x ≡ true
unless-none true t e = refl
unless-none false t e = absurd cc

shown-none : (x : Bool) (r : Option TypedNode) → (if x then None else r) ≡ None → x ≡ false → r ≡ None
shown-none true r e f = absurd cc
shown-none false r e f = e

record Constant (s : Store) (h : Head) (m : Mark) (ts : TypedNodes) : Type 0 where
  itself : is_constant s h.kind m ts ≡ true
  kids : hides_kids h.kind ts ≡ false → first_inconstant_of s (λ u. false) ts ≡ None

constant_from : (s : Store) (h : Head) (m : Mark) (ts : TypedNodes) → is_type h.kind ≡ false →
    first_inconstant s (λ u. false) (marked h m ts) ≡ None → Constant s h m ts
constant_from s h m ts f e =
    let n : or_else (if hides_kids h.kind ts then None else first_inconstant_of s (λ u. false) ts)
    (if not (is_constant s h.kind m ts) || false then Some (marked h m ts) else None) ≡ None
    = subst (λ x. (if x then None else or_else (if hides_kids h.kind ts then None else first_inconstant_of s (λ u. false) ts)
    (if not (is_constant s h.kind m ts) || false then Some (marked h m ts) else None)) ≡ None) f e in
    let p = first-none _ _ n in
    record {
      itself = unless-none (is_constant s h.kind m ts) (marked h m ts) p.1;
      kids =
          shown-none (hides_kids h.kind ts) (first_inconstant_of s (λ u. false) ts) p.0;
    }

-- types are not evaluated
type-idle : (k : Kind) → is_type k ≡ true → is_evaluated k ≡ false
type-idle kind.TypeScalar e = refl
type-idle kind.TypePath e = refl
type-idle kind.TypePointer e = refl
type-idle kind.TypeNullable e = refl
type-idle kind.TypeSlice e = refl
type-idle kind.TypeError e = refl
type-idle kind.TypeArray e = refl
type-idle kind.TypeStruct e = refl
type-idle kind.TypeTuple e = refl
type-idle kind.TypeUnion e = refl
type-idle _ e = absurd cc

-- ---- a constant node is no place by its form

type-no_place : (s : Store) (k : Kind) (m : Mark) (ts : TypedNodes) → is_type k ≡ true →
    is_place_kind s k m (first_given ts) (first_is_place s ts) ≡ false
type-no_place s kind.Path m ts e = absurd cc
type-no_place s kind.Deref m ts e = absurd cc
type-no_place s kind.Index m ts e = absurd cc
type-no_place s kind.Field m ts e = absurd cc
type-no_place s kind.Paren m ts e = absurd cc
type-no_place s _ m ts e = refl

path-no_object : (named known void odd : Bool) → (false || ((known || void) && odd)) ≡ true → (named && not (known || void)) ≡ false
path-no_object true true void odd e = refl
path-no_object true false true odd e = refl
path-no_object true false false odd e = absurd cc
path-no_object false known void odd e = refl

constant-no_place : (s : Store) (k : Kind) (m : Mark) (ts : TypedNodes) → is_constant s k m ts ≡ true →
    (hides_kids k ts ≡ false → first_is_place s ts ≡ false) → is_place_kind s k m (first_given ts) (first_is_place s ts) ≡ false
constant-no_place s kind.Path m ts e f =
    path-no_object (is_named m.meaning) (is_known m.value) (names_void s m.meaning m.ty) (not (m.coerce.row == 2)) e
constant-no_place s kind.Deref m ts e f = absurd cc
constant-no_place s kind.Index m ts e f = absurd cc
constant-no_place s kind.Field m ts e f = absurd cc
constant-no_place s kind.Paren m ts e f = f refl
constant-no_place s _ m ts e f = refl

mutual
  no_place : (s : Store) (t : TypedNode) → first_inconstant s (λ u. false) t ≡ None → is_place s t ≡ false
  no_place s (marked h m ts) e = go (is_type h.kind) refl (λ f. first-no_place s ts f)
    where
      go : (x : Bool) → is_type h.kind ≡ x → (first_inconstant_of s (λ u. false) ts ≡ None → first_is_place s ts ≡ false) →
          is_place s (marked h m ts) ≡ false
      go true f k = type-no_place s h.kind m ts f
      go false f k =
          let c = constant_from s h m ts f e in
          constant-no_place s h.kind m ts c.itself (λ g. k (c.kids g))

  first-no_place : (s : Store) (ts : TypedNodes) → first_inconstant_of s (λ u. false) ts ≡ None → first_is_place s ts ≡ false
  first-no_place s typed_none e = refl
  first-no_place s (typed_more t ts) e = no_place s t (first-none (first_inconstant s (λ u. false) t) _ e).0

-- ---- the acts of a constant node

module _ (w : World) (b : ℕ) where
  steady_evaluated : (ks : Kids) (t : TypedNode) (sc : Scope) (f : ValueForm) (g : PlaceForm) → is_place w.types t ≡ false →
      SteadyForm w b ks f →
      Steady w b ks (evaluated w t AsValue sc f g)
  steady_evaluated ks t sc f g e h = go (not (is_evaluated (Rattle.hare_typed.specs.Constants.own_kind t)))
    where
      value : Steady w b ks (value_in_mode w t AsValue sc f)
      value = steady_by_value w b ks t sc f gives h (λ cs p. ends (Value cs) p)

      placed : (y : Bool) → y ≡ false → Steady w b ks (if y then place_in_mode w t AsValue sc f g else value_in_mode w t AsValue sc f)
      placed true q = absurd cc
      placed false q = value

      go : (x : Bool) → Steady w b ks (if x then gives [] else
          (if is_place w.types t then place_in_mode w t AsValue sc f g else value_in_mode w t AsValue sc f))
      go true = ends (Value []) tt
      go false = placed (is_place w.types t) e

  idle_evaluated : (ks : Kids) (h : Head) (m : Mark) (ts : TypedNodes) (mode : Mode) (sc : Scope) (f : ValueForm) (g : PlaceForm) →
      is_evaluated h.kind ≡ false →
      Steady w b ks (evaluated w (marked h m ts) mode sc f g)
  idle_evaluated ks h m ts mode sc f g e = go (is_evaluated h.kind) e
    where
      go : (x : Bool) → x ≡ false → Steady w b ks
          (if not x then gives [] else (if is_place w.types (marked h m ts) then place_in_mode w (marked h m ts) mode sc f g
          else value_in_mode w (marked h m ts) mode sc f))
      go true q = absurd cc
      go false q = ends (Value []) tt

  -- the kids of a constant node are as its kind asks
  ready : (ks : Kids) (k : Kind) (m : Mark) (ts : TypedNodes) → is_constant w.types k m ts ≡ true →
      (hides_kids k ts ≡ false → (i : ℕ) → IsSteady w b (ks.kid i AsValue)) →
      (begins_with_global ts ≡ true → IsSteady w b (ks.kid 0 AsPlace)) → Ready w b ks k
  ready ks kind.Addr m ts e f g = g (and-left (begins_with_global ts) (not (m.coerce.row == 2)) e)
    where
      and-left : (x y : Bool) → (false || (x && y)) ≡ true → x ≡ true
      and-left true y q = refl
      and-left false y q = absurd cc
  ready ks kind.Offset m ts e f g = tt
  ready ks kind.Path m ts e f g = tt
  ready ks _ m ts e f g = f refl

  -- ---- the place of a global

  global_meaning : (m : Mark) → is_global_path kind.Path m ≡ true → (d : ℕ) × (m.meaning ≡ meant.Decl d)
  global_meaning m e = go m.meaning e
    where
      go : (x : Meaning) → is_global_path kind.Path (record m { meaning = x }) ≡ true → (d : ℕ) × (x ≡ meant.Decl d)
      go (meant.Local x) q = absurd cc
      go (meant.Decl d) q = (d, refl)
      go (meant.Rt x) q = absurd cc
      go meant.None q = absurd cc

  global-seen : (sc : Scope) (m : Mark) → is_global_path kind.Path m ≡ true → MayLook w b (object_meant w sc m.meaning)
  global-seen sc m e = go (global_meaning m e)
    where
      go : (d : ℕ) × (m.meaning ≡ meant.Decl d) → MayLook w b (object_meant w sc m.meaning)
      go (d, f) = subst (λ x. MayLook w b (object_meant w sc x)) (sym f) (inl (d, refl))

  -- the path to a global, asked for its place
  path_form : (ks : Kids) (t : TypedNode) (sc : Scope) → SteadyForm w b ks (constant_form w t sc kind.Path)
  path_form ks t sc k q = steady_form w b ks t sc kind.Path k tt q

  path_evaluated : (ks : Kids) (t : TypedNode) (sc : Scope) → MayLook w b (object_meant w sc (mark_of t).meaning) →
      Steady w b ks (if is_place w.types t then place_in_mode w t AsPlace sc (constant_form w t sc kind.Path)
      (constant_place w t sc kind.Path) else value_in_mode w t AsPlace sc (constant_form w t sc kind.Path))
  path_evaluated ks t sc l = go (is_place w.types t)
    where
      go : (x : Bool) → Steady w b ks (if x then place_in_mode w t AsPlace sc (constant_form w t sc kind.Path)
          (constant_place w t sc kind.Path) else value_in_mode w t AsPlace sc (constant_form w t sc kind.Path))
      go true = ticks _ _ (ends (Reached (Address (object_meant w sc (mark_of t).meaning) 0)) l)
      go false =
          steady_by_value w b ks t sc (constant_form w t sc kind.Path)
          (λ cs. make None (value_object w t cs) λ o. end (Reached (Address o 0))) (path_form ks t sc)
          (λ cs p. makes None (value_object w t cs) (λ o. end (Reached (Address o 0))) tt (λ o k. ends (Reached (Address o 0)) k))

  global_evaluated : (ks : Kids) (t : TypedNode) (sc : Scope) (k : Kind) → is_global_path k (mark_of t) ≡ true →
      Steady w b ks (if not (is_evaluated k) then gives [] else
      (if is_place w.types t then place_in_mode w t AsPlace sc (constant_form w t sc k) (constant_place w t sc k)
      else value_in_mode w t AsPlace sc (constant_form w t sc k)))
  global_evaluated ks t sc kind.Path e = path_evaluated ks t sc (global-seen sc (mark_of t) e)
  global_evaluated ks t sc _ e = absurd cc

  -- ---- trees

  idle : (s s' : State) → Alike w b s s' → DoesAlike w b s s' (Value [], s) (Value [], s')
  idle s s' l = DoesAlike-refl w b (Value []) s s' tt l

  module _ (less : Tasks) where
    -- what the kids of a node give
    abbrev over : Head → TypedNodes → Kids
    over h ts =
        record {
          kid = λ i. behind (own_bindings h.kind) (kid_act (constant_forms w) less ts i);
          part = λ i j. behind (own_bindings h.kind) (part_act (constant_forms w) less ts i j);
        }

    -- steady in every scope, and so behind any bindings
    behind-steady : (n : ℕ) (k : Evaluation) (mode : Mode) → IsSteady w b (k mode) → IsSteady w b (behind n k mode)
    behind-steady n k mode h sc s s' l = h (record sc { first = sc.first + n }) s s' l

    global-steady : (ts : TypedNodes) → begins_with_global ts ≡ true → IsSteady w b (kid_act (constant_forms w) less ts 0 AsPlace)
    global-steady typed_none e sc s s' l = absurd cc
    global-steady (typed_more (marked h m us) ts) e sc s s' l =
        act-alike w b (over h us) less (constant_node w (marked h m us) AsPlace sc)
        (global_evaluated (over h us) (marked h m us) sc h.kind e) s s' l

    node-steady : (h : Head) (m : Mark) (ts : TypedNodes) → first_inconstant w.types (λ u. false) (marked h m ts) ≡ None →
        (first_inconstant_of w.types (λ u. false) ts ≡ None → (i : ℕ) → IsSteady w b (kid_act (constant_forms w) less ts i AsValue)) →
        (sc : Scope) → Steady w b (over h ts) (constant_node w (marked h m ts) AsValue sc)
    node-steady h m ts e k sc = go (is_type h.kind) refl
      where
        go : (x : Bool) → is_type h.kind ≡ x → Steady w b (over h ts) (constant_node w (marked h m ts) AsValue sc)
        go true f =
            idle_evaluated (over h ts) h m ts AsValue sc (constant_form w (marked h m ts) sc h.kind)
            (constant_place w (marked h m ts) sc h.kind) (type-idle h.kind f)
        go false f =
            let c = constant_from w.types h m ts f e in
            let r =
            ready (over h ts) h.kind m ts c.itself
            (λ g i. behind-steady (own_bindings h.kind) (kid_act (constant_forms w) less ts i) AsValue (k (c.kids g) i))
            (λ g. behind-steady (own_bindings h.kind) (kid_act (constant_forms w) less ts 0) AsPlace (global-steady ts g)) in
            steady_evaluated (over h ts) (marked h m ts) sc (constant_form w (marked h m ts) sc h.kind)
            (constant_place w (marked h m ts) sc h.kind) (no_place w.types (marked h m ts) e)
            (λ x q. steady_form w b (over h ts) (marked h m ts) sc h.kind x r q)

    mutual
      tree-steady : (t : TypedNode) → first_inconstant w.types (λ u. false) t ≡ None →
          IsSteady w b (node_act (constant_forms w) less t AsValue)
      tree-steady (marked h m ts) e sc s s' l =
          act-alike w b (over h ts) less (constant_node w (marked h m ts) AsValue sc)
          (node-steady h m ts e (λ f i. kids-steady ts f i) sc) s s' l

      kids-steady : (ts : TypedNodes) → first_inconstant_of w.types (λ u. false) ts ≡ None → (i : ℕ) →
          IsSteady w b (kid_act (constant_forms w) less ts i AsValue)
      kids-steady typed_none e i sc s s' l = idle s s' l
      kids-steady (typed_more t ts) e zero sc s s' l =
          tree-steady t (first-none (first_inconstant w.types (λ u. false) t) _ e).0 sc s s' l
      kids-steady (typed_more t ts) e (suc i) sc s s' l =
          kids-steady ts (first-none (first_inconstant w.types (λ u. false) t) _ e).1 i _ s s' l

pub constants_look_at_statics : ConstantsLookAtStatics
constants_look_at_statics =
    record {
      alike = λ w n t sc s s' e h.
          DoesTheSame-from w (length s.memory.objects.made) s s' _ _
          (tree-steady w (length s.memory.objects.made) (fewer_than (constant_forms w) n) t e sc s s' (Alike-begins w s s' h));
    }
