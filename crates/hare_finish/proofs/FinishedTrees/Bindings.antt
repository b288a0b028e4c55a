-- The finished tree of a def or a global.
use Rattle.std.proofs.Common.{◌≡◌, ℕ, List, [], ◌∷◌, ◌++◌, Bool, true, false, not, cond, sym, ap, ◌∙◌, subst, refl, inl, inr, Some, None}
use Rattle.std.specs.Prelude.{Option, Contains}
use Rattle.hare_tree.specs.declared.kind.Kind.{Kind}
use Rattle.hare_tree.specs.Node.{Node, branch, none, more, head}
use Rattle.hare_tree.specs.Shape.{is_none}
use Rattle.hare_types.specs.declared.coercion.Coercion.{Coercion}
use Rattle.hare_types.specs.declared.row.Scalar.TheVariants as keyword
use Rattle.hare_types.specs.Store.{Store}
use Rattle.hare_types.specs.Later.{IsLater}
use Rattle.hare_typed.specs.Typed.{TypedNode, marked, typed_nodes, head_of}
use Rattle.hare_typed.specs.Coats.{with_coercion}
use Rattle.hare_typed.specs.Erased.{erase}
use Rattle.hare_typed.specs.Numbers.{kind_of}
use Rattle.hare_rules.specs.Context.{Setting, BindingType, is_there, own_type}
use Rattle.hare_rules.specs.Words.{id_in, word_id}
use Rattle.hare_rules.specs.Above.{hint_to}
use Rattle.hare_rules.specs.Rows.{first_failing}
use Rattle.hare_rules.specs.Values.{declared_coercion}
use Rattle.hare_rules.specs.Finished.{IsWell}
use Rattle.hare_modules.specs.Uses.{kid}
use Rattle.hare_depends.specs.Sorts.{sort_of, sort_by, has_type, has_value}
use Rattle.hare_whole.specs.Listing.{written_by}
use Rattle.hare_whole.specs.Parts.{known_by}
use Rattle.hare_whole.specs.Declared.{unnumbered, over_value, before_value, own_context, hint_of_part, IsWellTypePart, IsWellBinding, IsWellBy}
use Rattle.hare_whole.specs.Turns.{IsTyped, AreTyped, hint_by, plain_of, type_or_plain, known_by_types, known_by_value}
use Rattle.hare_finish.specs.Finished.{IsValued, IsFinished, IsFinishedIn, said_by_parts}
use Rattle.hare_finish.specs.Made.{void_mark, plain_as, type_as, IsVoid, IsLeaf, IsLeafOrWritten, IsDeclaration}
use Rattle.hare_finish.specs.Made.{IsDeclaredCoercion, IsBindingMade}
use Rattle.hare_finish.proofs.PutTogether.PlainNodes.{void_plain, plain_as-plain_of, plain_as-IsPlain, erase-plain_as, four-kids}
use Rattle.hare_finish.proofs.PutTogether.Copies.{erase-unnumbered, own_type-unnumbered}
use Rattle.hare_finish.proofs.PutTogether.WrittenTypes.{one-typed, none-typed, unnumbered-well}
use Rattle.hare_finish.proofs.FinishedTrees.Kinds.{types_of, IsBindingKind}

-- ---- the written type, and the value

erase-with_coercion : (r : Coercion) (x : TypedNode) → erase (with_coercion r x) ≡ erase x
erase-with_coercion r (marked h m ts) = refl

head-erase : (x : TypedNode) → head (erase x) ≡ head_of x
head-erase (marked h m ts) = refl

is_there-unnumbered : (x : TypedNode) → is_there (unnumbered x) ≡ is_there x
is_there-unnumbered (marked h m ts) = refl

-- a type that is written is there
written-there : (t : Node) (x : TypedNode) → erase x ≡ kid t 2 → has_type t ≡ true → is_there x ≡ true
written-there t x e h = ap (λ g. not (is_none g.kind)) (sym (head-erase x) ∙ ap head e) ∙ h

-- a value is asked for a type that is there, and for none where none is
hint-there : (y : TypedNode) → is_there y ≡ true → hint_of_part y ≡ hint_to (id_in (own_type y))
hint-there y e = rw e

hint-none : (y : TypedNode) → is_there y ≡ false → hint_of_part y ≡ hint_to None
hint-none y e = rw e

-- a value is asked for the type with its numbers as for that without
hint-unnumbered : (y : TypedNode) → is_there (unnumbered y) ≡ true → hint_of_part (unnumbered y) ≡ hint_by (y ∷ [])
hint-unnumbered y e = hint-there (unnumbered y) e ∙ ap (λ q. hint_to (id_in q)) (own_type-unnumbered y)

-- ---- well typed

module _ (w : Setting) (n v : ℕ) (t : Node) (void : word_id w.store keyword.Void ≡ Some v) (y x d : TypedNode) (r : Coercion)
    (m : IsDeclaration v t (y ∷ with_coercion r x ∷ []) d) (value : erase x ≡ kid t 3) where
  -- with the other kids they are the untyped tree
  binding-erases : erase y ≡ kid t 2 → erase d ≡ t
  binding-erases e =
      let a = erase (plain_as v (kid t 1)) in
      let z = erase (with_coercion r x) in
      ap erase m.is
      ∙ ap (λ u. branch (head t) (more u (more a (more (erase y) (more z none))))) (erase-plain_as v (kid t 0) m.export_leaf)
      ∙ ap (λ u. branch (head t) (more (kid t 0) (more u (more (erase y) (more z none))))) (erase-plain_as v (kid t 1) m.name_leaf)
      ∙ ap (λ u. branch (head t) (more (kid t 0) (more (kid t 1) (more u (more z none))))) e
      ∙ ap (λ u. branch (head t) (more (kid t 0) (more (kid t 1) (more (kid t 2) (more u none))))) (erase-with_coercion r x ∙ value)
      ∙ four-kids t m.count

  -- the first two kids are those of which the rows were asked
  context-plain : own_context w n (head t) (plain_as v (kid t 0) ∷ plain_as v (kid t 1) ∷ y ∷ x ∷ [])
      ≡ own_context w n (head t) (plain_of w (kid t 0) ∷ plain_of w (kid t 1) ∷ y ∷ x ∷ [])
  context-plain =
      ap (λ u. own_context w n (head t) (u ∷ plain_as v (kid t 1) ∷ y ∷ x ∷ [])) (plain_as-plain_of w v (kid t 0) void)
      ∙ ap (λ u. own_context w n (head t) (plain_of w (kid t 0) ∷ u ∷ y ∷ x ∷ [])) (plain_as-plain_of w v (kid t 1) void)

  binding-well : IsWellTypePart w n y → IsWell w (over_value w n (hint_of_part y)) (before_value (kid t 3)) x →
      r ≡ declared_coercion w.store (hint_of_part y) (own_type x) →
      first_failing (own_context w n (head t) (plain_of w (kid t 0) ∷ plain_of w (kid t 1) ∷ y ∷ x ∷ [])) ≡ None → IsWellBinding w n d
  binding-well a h c f =
      let us : List TypedNode = plain_as v (kid t 0) ∷ plain_as v (kid t 1) ∷ y ∷ with_coercion r x ∷ [] in
      subst (IsWellBinding w n) (sym m.is) (record {
        export_is = plain_as v (kid t 0);
        name = plain_as v (kid t 1);
        type = y;
        value = with_coercion r x;
        shape = ap (λ k. marked (head t) k (typed_nodes us)) (sym (void_plain w v 0 void));
        plain_export = plain_as-IsPlain w v (kid t 0) void;
        plain_name = plain_as-IsPlain w v (kid t 1) void;
        well_type = a;
        well_value = record {
          tree = x;
          well = subst (λ u. IsWell w (over_value w n (hint_of_part y)) (before_value u) x) (sym (erase-with_coercion r x ∙ value)) h;
          is = ap (λ q. with_coercion q x) c;
        };
        rows = ap first_failing context-plain ∙ f;
      })

-- ---- the whole

module _ (s : Store) (v : ℕ) (t : Node) (k : Kind) (z : IsVoid s v) (i : IsBindingKind k) (e : (head t).kind ≡ k) where
  module _ (w : Setting) (n : ℕ) (l : IsLater s w.store) (x d : TypedNode) where
    -- what is said of one of this kind is said of the declaration
    said-by-kind : (ts : List TypedNode) (y : TypedNode) → type_or_plain w (kid t 2) ts ≡ y → kind_of d ≡ k →
        Contains (known_by_types w.store n k (sort_by k t) ts ++ known_by_value w.store n k (sort_by k t) y x) (known_by w.store n k d) →
        Contains (said_by_parts w n t ts (Some x)) (known_by w.store n (kind_of d) d)
    said-by-kind ts y p j h =
        let Says : Kind → Kind → TypedNode → Type 0 =
        λ a b u. Contains (known_by_types w.store n a (sort_by a t) ts ++ known_by_value w.store n a (sort_by a t) u x)
        (known_by w.store n b d) in
        let u = type_or_plain w (kid t 2) ts in
        subst (λ a. Says a (kind_of d) u) (sym e) (subst (λ b. Says k b u) (sym j) (subst (λ q. Says k k q) (sym p) h))

    module _ (r : Coercion) where
      -- its type is written
      finished-written : (y : TypedNode) → has_type t ≡ true → IsTyped w n (BindingType, kid t 2) y → IsValued w n t (y ∷ []) (Some x) →
          IsDeclaredCoercion s (y ∷ []) x r → IsDeclaration v t (unnumbered y ∷ with_coercion r x ∷ []) d →
          IsFinishedIn w n t (y ∷ []) (Some x) d
      finished-written y a h p c m =
          let void = z w.store l in
          let there : is_there y ≡ true = written-there t y h.erases a in
          let there' : is_there (unnumbered y) ≡ true = is_there-unnumbered y ∙ there in
          let hint : hint_of_part (unnumbered y) ≡ hint_by (y ∷ []) = hint-unnumbered y there' in
          let j : kind_of d ≡ k = ap kind_of m.is ∙ e in
          record {
            erases = binding-erases w n v t void (unnumbered y) x d r m p.0.erases (erase-unnumbered y ∙ h.erases);
            well =
                subst (λ q. IsWellBy w n q d) (sym j)
                (i.well w n d (binding-well w n v t void (unnumbered y) x d r m p.0.erases
                (inr (there', unnumbered-well w n BindingType (kid t 2) y h))
                (subst (λ q. IsWell w (over_value w n q) (before_value (kid t 3)) x) (sym hint) p.0.well)
                (c w.store l ∙ ap (λ q. declared_coercion w.store q (own_type x)) (sym hint))
                (i.rows w n (head t) (plain_of w (kid t 0)) (plain_of w (kid t 1)) y x e ∙ p.1)));
            known =
                said-by-kind (y ∷ []) y refl j
                (subst (λ u. Contains (known_by_types w.store n k (sort_by k t) (y ∷ []) ++ known_by_value w.store n k (sort_by k t) y x)
                (known_by w.store n k u)) (sym m.is)
                (i.written w.store n t (head t) (void_mark v 0) (plain_as v (kid t 0)) (plain_as v (kid t 1)) y x r a there));
          }

      -- it is left out
      finished-left_out : has_type t ≡ false → IsLeaf (kid t 2) → IsValued w n t [] (Some x) → IsDeclaredCoercion s [] x r →
          IsDeclaration v t (plain_as v (kid t 2) ∷ with_coercion r x ∷ []) d → IsFinishedIn w n t [] (Some x) d
      finished-left_out a f p c m =
          let void = z w.store l in
          let y = plain_as v (kid t 2) in
          let same = plain_as-plain_of w v (kid t 2) void in
          let hint : hint_of_part y ≡ hint_by [] = hint-none y a in
          let j : kind_of d ≡ k = ap kind_of m.is ∙ e in
          record {
            erases = binding-erases w n v t void y x d r m p.0.erases (erase-plain_as v (kid t 2) f);
            well =
                subst (λ q. IsWellBy w n q d) (sym j)
                (i.well w n d (binding-well w n v t void y x d r m p.0.erases
                (inl (a, plain_as-IsPlain w v (kid t 2) void))
                (subst (λ q. IsWell w (over_value w n q) (before_value (kid t 3)) x) (sym hint) p.0.well)
                (c w.store l ∙ ap (λ q. declared_coercion w.store q (own_type x)) (sym hint))
                (ap (λ u. first_failing (own_context w n (head t) (plain_of w (kid t 0) ∷ plain_of w (kid t 1) ∷ u ∷ x ∷ []))) same ∙
                p.1)));
            known =
                said-by-kind [] y (sym same) j
                (subst (λ u. Contains (known_by_types w.store n k (sort_by k t) [] ++ known_by_value w.store n k (sort_by k t) y x)
                (known_by w.store n k u)) (sym m.is)
                (i.left_out w.store n t (head t) (void_mark v 0) (plain_as v (kid t 0)) (plain_as v (kid t 1)) y x r a));
          }

  -- by whether its type is written
  finished-by-type : (w : Setting) (n : ℕ) (ts : List TypedNode) (x d : TypedNode) (r : Coercion) → IsLater s w.store →
      AreTyped w n (types_of t) ts → IsValued w n t ts (Some x) → IsDeclaredCoercion s ts x r → IsBindingMade v t ts x r d →
      IsFinishedIn w n t ts (Some x) d
  finished-by-type w n ts x d r l h p c m = by (has_type t) refl
    where
      by : (b : Bool) → has_type t ≡ b → IsFinishedIn w n t ts (Some x) d
      by true a =
          let q = one-typed w n (BindingType, kid t 2) ts (subst (λ b. AreTyped w n (cond b ((BindingType, kid t 2) ∷ []) []) ts) a h) in
          subst (λ us. IsFinishedIn w n t us (Some x) d) (sym q.1)
          (finished-written w n l x d r q.0 a q.2 (subst (λ us. IsValued w n t us (Some x)) q.1 p)
          (subst (λ us. IsDeclaredCoercion s us x r) q.1 c)
          (subst (λ us. IsDeclaration v t (type_as v (kid t 2) us ∷ with_coercion r x ∷ []) d) q.1 m.declaration))
      by false a =
          let q = none-typed w n ts (subst (λ b. AreTyped w n (cond b ((BindingType, kid t 2) ∷ []) []) ts) a h) in
          subst (λ us. IsFinishedIn w n t us (Some x) d) (sym q)
          (finished-left_out w n l x d r a (subst (IsLeafOrWritten (kid t 2)) q m.leaf) (subst (λ us. IsValued w n t us (Some x)) q p)
          (subst (λ us. IsDeclaredCoercion s us x r) q c)
          (subst (λ us. IsDeclaration v t (type_as v (kid t 2) us ∷ with_coercion r x ∷ []) d) q m.declaration))

  -- the tree that is made of a def or a global is finished
  pub binding-finished : (ts : List TypedNode) (x : TypedNode) (b : Option TypedNode) (r : Coercion) (d : TypedNode) →
      IsDeclaredCoercion s ts x r → IsBindingMade v t ts x r d → IsFinished s t ts (Some x) b d
  binding-finished ts x b r d c m w n l p =
      let types = subst (λ rs. AreTyped w n rs ts) (i.types t) (subst (λ q. AreTyped w n (written_by (sort_by q t) t) ts) e p.types) in
      let valued : has_value (sort_of t) ≡ true = ap (λ q. has_value (sort_by q t)) e ∙ i.valued t in
      finished-by-type w n ts x d r l types (p.value valued) c m
