-- What a walk relies on of judged trees: it stays as the store grows, and says what is asked of kids.
use Rattle.std.proofs.Common.{◌≡◌, ℕ, ◌<◌, List, [], ◌∷◌, length, Bool, true, Option, Some, None, IsSome, refl, ap, sym, ◌∙◌, subst}
use Rattle.std.specs.Prelude.{Contains}
use Rattle.std.specs.List.{cons_option}
use Rattle.std.proofs.lemmas.Option.{slice_get_within}
use Rattle.hare_tree.specs.declared.kind.Kind.{Kind}
use Rattle.hare_tree.specs.declared.kind.Kind.TheVariants as ki
use Rattle.hare_types.specs.declared.coercion.Ty.{Ty}
use Rattle.hare_types.specs.declared.coercion.Ty.TheVariants as ty
use Rattle.hare_types.specs.declared.row.Row.{Row}
use Rattle.hare_types.specs.declared.row.Row.TheVariants as row
use Rattle.hare_types.specs.Bases.{base_over}
use Rattle.hare_types.specs.Store.{Store, Extends, sized_of, definition_of}
use Rattle.hare_types.specs.Sound.{IsStore}
use Rattle.hare_types.specs.ByIds.{row_at, base_at, sized_over, sized_at}
use Rattle.hare_types.proofs.FollowLemmas.{row-continued, found-more}
use Rattle.hare_types.proofs.IdLemmas.{base_over-grows, sized_over-grows}
use Rattle.hare_typed.specs.Typed.{TypedNode, TypedNodes, marked, typed_none, typed_more, typed_nodes}
use Rattle.hare_typed.specs.Given.{given}
use Rattle.hare_typed.specs.Numbers.{kind_of}
use Rattle.hare_typed.specs.Order.{tree_from_front, kid_from_front}
use Rattle.hare_rules.specs.Context.{own_type}
use Rattle.hare_rules.specs.Words.{id_in}
use Rattle.hare_walk.specs.Grown.{IsGrown}
use Rattle.hare_walk.specs.Walks.{Each}
use Rattle.rule_judge.specs.Defined.{made_of, Mentions, itself, through, IsDefined, IsDefinedTy, IsDefinedTree, AreDefinedTrees}
use Rattle.rule_judge.proofs.DefinedLemmas.{row_of, defined_part, defined_mentioned}
use Rattle.rule_mem.specs.Needs.{has_place_form}
use Rattle.rule_types.specs.Known.{IsKnownTy, IsBasedTy, IsKnownBy, AreKnownParts}
use Rattle.hare_check.specs.Keeps.{IsKeptTree, AreKeptTrees}

-- ---- as the store grows

some_of : {A : Type 0} (o : Option A) → IsSome o → (a : A) × (o ≡ Some a)
some_of None h = absurd cc
some_of (Some a) h = (a, refl)

module _ (now later : Store) (v : IsStore now) (g : Extends now later) where
  same_row : (t : ℕ) (r : Row) → row_at now t ≡ Some r → row_at later t ≡ Some r
  same_row = row-continued now later g.rows

  row_here : (t : ℕ) → t < length now.rows → row_at later t ≡ row_at now t
  row_here t h = let r = row_of now t h in same_row t r.0 r.1 ∙ sym r.1

  within : (t : ℕ) → t < length now.rows → t < length later.rows
  within t h = let r = row_of now t h in slice_get_within later.rows t r.0 (same_row t r.0 r.1)

  same_name : (d : ℕ) (o : Option ℕ) → definition_of now d ≡ o → IsSome o → definition_of later d ≡ definition_of now d
  same_name d None e k = absurd cc
  same_name d (Some j) e k = g.defined d j e ∙ sym e

  same_made : (t : ℕ) (r : Row) → IsDefined now t → row_at now t ≡ Some r → made_of later r ≡ made_of now r
  same_made t (row.Named d) h e = ap (λ o. cons_option o []) (same_name d (definition_of now d) refl (h.names t d itself e))
  same_made t (row.Scalar k) h e = refl
  same_made t (row.Pointer j) h e = refl
  same_made t (row.Nullable j) h e = refl
  same_made t (row.Slice j) h e = refl
  same_made t (row.Array n j) h e = refl
  same_made t (row.Struct fs) h e = refl
  same_made t (row.Tuple is) h e = refl
  same_made t (row.Union is) h e = refl
  same_made t (row.Error j) h e = refl

  mentioned : {t u : ℕ} → IsDefined now t → Mentions later t u → Mentions now t u
  mentioned h itself = itself
  mentioned {t} h (through {u = w} r e c m) =
      let here : row_at now t ≡ Some r = sym (row_here t h.within) ∙ e in
      let part : Contains (made_of now r) w = subst (λ is. Contains is w) (same_made t r h here) c in
      through r here part (mentioned (defined_part now v t r h here w part) m)

  name_stays : (d : ℕ) (o : Option ℕ) → definition_of now d ≡ o → IsSome o → IsSome (definition_of later d)
  name_stays d None e k = absurd cc
  name_stays d (Some j) e k = subst IsSome (sym (g.defined d j e)) k

  defined_kept : (t : ℕ) → IsDefined now t → IsDefined later t
  defined_kept t h = record {
    within = within t h.within;
    names = λ u d m e.
        let k : Mentions now t u = mentioned h m in
        let there : IsDefined now u = defined_mentioned now v t u h k in
        name_stays d (definition_of now d) refl (h.names u d k (sym (row_here u there.within) ∙ e));
  }

  ty_kept : (a : Ty) → IsDefinedTy now a → IsDefinedTy later a
  ty_kept (ty.Of t) h = defined_kept t h
  ty_kept (ty.Iconst n) h = tt
  ty_kept ty.Null h = tt
  ty_kept ty.Empty h = tt

  mutual
    tree_kept : (t : TypedNode) → IsDefinedTree now t → IsDefinedTree later t
    tree_kept (marked k m ts) h = (ty_kept m.ty h.0, ty_kept m.coerce.to h.1, trees_kept ts h.2)

    trees_kept : (ts : TypedNodes) → AreDefinedTrees now ts → AreDefinedTrees later ts
    trees_kept typed_none h = tt
    trees_kept (typed_more t ts) h = (tree_kept t h.0, trees_kept ts h.1)

  base_kept : (t b : ℕ) → base_at now t ≡ Some b → base_at later t ≡ Some b
  base_kept =
      found-more now later g.rows (base_over (definition_of now)) (base_over (definition_of later))
      (base_over-grows (definition_of now) (definition_of later) g.defined)

  size_kept : (t : ℕ) (b : Bool) → sized_at now t ≡ Some b → sized_at later t ≡ Some b
  size_kept =
      found-more now later g.rows (sized_over (sized_of now)) (sized_over (sized_of later))
      (sized_over-grows (sized_of now) (sized_of later) g.sized)

  known_kept : (a : Ty) → IsKnownTy now a → IsKnownTy later a
  known_kept (ty.Of t) h =
      let b = some_of (sized_at now t) h.sized in
      record { within = within t h.within; sized = subst IsSome (sym (size_kept t b.0 b.1)) refl }
  known_kept (ty.Iconst n) h = absurd h
  known_kept ty.Null h = absurd h
  known_kept ty.Empty h = absurd h

  based_kept : (a : Ty) → IsBasedTy now a → IsBasedTy later a
  based_kept (ty.Of t) h =
      let b = some_of (base_at now t) h.based in
      record { within = within t h.within; based = subst IsSome (sym (base_kept t b.0 b.1)) refl }
  based_kept (ty.Iconst n) h = absurd h
  based_kept ty.Null h = absurd h
  based_kept ty.Empty h = absurd h

  part_kept : (k : Kind) (x : TypedNode) → IsKnownBy now k x → IsKnownBy later k x
  part_kept ki.TypeScalar x h = known_kept (own_type x) h
  part_kept ki.TypePath x h = known_kept (own_type x) h
  part_kept ki.TypePointer x h = known_kept (own_type x) h
  part_kept ki.TypeNullable x h = known_kept (own_type x) h
  part_kept ki.TypeSlice x h = known_kept (own_type x) h
  part_kept ki.TypeError x h = known_kept (own_type x) h
  part_kept ki.TypeArray x h = known_kept (own_type x) h
  part_kept ki.TypeStruct x h = known_kept (own_type x) h
  part_kept ki.TypeTuple x h = known_kept (own_type x) h
  part_kept ki.TypeUnion x h = known_kept (own_type x) h
  part_kept ki.StructField x h = known_kept (own_type (kid_from_front 0 x)) h
  part_kept ki.Spread x h = based_kept (own_type (kid_from_front 0 x)) h
  part_kept _ x h = tt

  kept_stays : (x : TypedNode) → IsKeptTree now x → IsKeptTree later x
  kept_stays x h = record {
    types = tree_kept x h.types;
    place = h.place;
    case = h.case;
    part = part_kept (kind_of x) x h.part;
  }

-- what is kept stays kept as a walk goes on
pub kept-grown : (s r : Store) → IsStore s → IsGrown s r → (x : TypedNode) → IsKeptTree s x → IsKeptTree r x
kept-grown s r v g x h = kept_stays s r v g.grows x h

-- so it is of each
pub each_kept-grown : (s r : Store) → IsStore s → IsGrown s r → (xs : List TypedNode) → AreKeptTrees s xs → AreKeptTrees r xs
each_kept-grown s r v g [] h = tt
each_kept-grown s r v g (x ∷ xs) h = (kept-grown s r v g x h.0, each_kept-grown s r v g xs h.1)

-- ---- lists

-- what a walk says of each kid is this
pub each-kept : (s : Store) (xs : List TypedNode) → Each (IsKeptTree s) xs → AreKeptTrees s xs
each-kept s [] h = tt
each-kept s (x ∷ xs) h = (h.0, each-kept s xs h.1)

-- and back
pub kept-each : (s : Store) (xs : List TypedNode) → AreKeptTrees s xs → Each (IsKeptTree s) xs
kept-each s [] h = tt
kept-each s (x ∷ xs) h = (h.0, kept-each s xs h.1)

-- ---- what is asked of kids

-- where the first kid can be a place, it has a type
pub first-typed : (s : Store) (xs : List TypedNode) → AreKeptTrees s xs → has_place_form (tree_from_front 0 xs) ≡ true →
    IsSome (id_in (given (tree_from_front 0 xs)))
first-typed s [] h e = cc
first-typed s (x ∷ xs) h e = h.0.place e

-- what the kids of a written type write is known
pub parts-known : (s : Store) (xs : List TypedNode) → AreKeptTrees s xs → AreKnownParts s xs
parts-known s [] h = tt
parts-known s (x ∷ xs) h = (h.0.part, parts-known s xs h.1)

-- no type that stands in a kid mentions a name without a definition
pub trees-defined : (s : Store) (xs : List TypedNode) → AreKeptTrees s xs → AreDefinedTrees s (typed_nodes xs)
trees-defined s [] h = tt
trees-defined s (x ∷ xs) h = (h.0.types, trees-defined s xs h.1)
