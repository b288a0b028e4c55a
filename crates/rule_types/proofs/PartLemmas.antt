-- Components and fields, one by one.
use Rattle.std.proofs.Common.{◌≡◌, ℕ, zero, suc, ◌+◌, ◌-◌, ◌<◌, ◌≤◌, cond, List, [], ◌∷◌, ◌++◌, length, drop, Option, Some, None, refl, ap, ap₂, sym, ◌∙◌, subst, arith, add-one, append_assoc}
use Rattle.std.specs.Prelude.{slice_get, Contains, option_map}
use Rattle.std.proofs.lemmas.List.{append-nil, length-drop}
use Rattle.hare_types.specs.declared.coercion.Ty.{Ty}
use Rattle.hare_types.specs.declared.coercion.Ty.TheVariants as ty
use Rattle.hare_types.specs.declared.lists.Field.{Field}
use Rattle.hare_types.specs.Store.{Store}
use Rattle.hare_tree.specs.Node.{Head}
use Rattle.hare_tree.specs.declared.kind.Kind.TheVariants as ki
use Rattle.hare_types.specs.Rows.{AllBelow, FieldsBelow}
use Rattle.hare_types.specs.Sound.{IsStore}
use Rattle.hare_types.specs.Later.{IsLater}
use Rattle.hare_typed.specs.Typed.{TypedNode, Mark, marked, typed_nodes, listed_nodes}
use Rattle.hare_typed.specs.Order.{tree_from_front, kid_from_front}
use Rattle.hare_typed.specs.Numbers.{kind_of}
use Rattle.hare_rules.specs.Context.{text_of, own_type}
use Rattle.hare_rules.specs.Words.{id_in}
use Rattle.hare_rules.specs.Aggregates.{but_last, with_id, name_number, field_types}
use Rattle.hare_rules.specs.Written.{part_type_by, part_ids, field_of, with_field, fields, is_spread, is_spread_kind}
use Rattle.rule_judge.specs.Defined.{IsDefined, IsDefinedTy}
use Rattle.rule_types.specs.Known.{IsKnown, IsKnownTy}
use Rattle.rule_types.specs.Parts.{EachKnown, ArePartsKnown, EachDefined}
use Rattle.rule_judge.proofs.DefinedLemmas.{ty_stays}
use Rattle.rule_types.proofs.KnownLemmas.{known_ty_stays}

-- ---- the list without its last

pub length-but_last : {A : Type 0} (xs : List A) → length (but_last xs) ≡ length xs - 1
length-but_last [] = refl
length-but_last (x ∷ []) = refl
length-but_last (x ∷ y ∷ ys) = let h = length-but_last (y ∷ ys) in omega arith

but_last-suc : {A : Type 0} (xs : List A) (i : ℕ) (x : A) → slice_get xs i ≡ Some x → suc i < length xs →
    but_last (drop i xs) ≡ x ∷ but_last (drop (suc i) xs)
but_last-suc [] i x e h = absurd (omega arith)
but_last-suc (y ∷ []) zero x e h = absurd (omega arith)
but_last-suc (y ∷ z ∷ zs) zero x e h = let same : y ≡ x = cc in ap (λ w. w ∷ but_last (z ∷ zs)) same
but_last-suc (y ∷ ys) (suc i) x e h = but_last-suc ys i x e (omega arith)

pub but_last-drop : {A : Type 0} (xs : List A) (i : ℕ) (x : A) → slice_get xs i ≡ Some x → i < length xs - 1 →
    but_last (drop i xs) ≡ x ∷ but_last (drop (i + 1) xs)
but_last-drop xs i x e h = rw add-one (but_last-suc xs i x e (omega arith))

few-but_last : {A : Type 0} (xs : List A) → length xs ≤ 1 → but_last xs ≡ []
few-but_last [] h = refl
few-but_last (x ∷ []) h = refl
few-but_last (x ∷ y ∷ ys) h = absurd (omega arith)

pub but_last-end : {A : Type 0} (xs : List A) (i : ℕ) → length xs - 1 ≤ i → but_last (drop i xs) ≡ []
but_last-end xs i h = few-but_last (drop i xs) (omega (arith, length-drop i xs))

-- ---- what is known of a part

known_at : (s : Store) (xs : List TypedNode) (i : ℕ) (x : TypedNode) → EachKnown s (but_last xs) → slice_get xs i ≡ Some x →
    suc i < length xs → IsKnownTy s (part_type_by (kind_of x) x)
known_at s [] i x k e h = cc
known_at s (y ∷ []) i x k e h = absurd (omega arith)
known_at s (y ∷ z ∷ zs) zero x k e h = let same : y ≡ x = cc in subst (λ w. IsKnownTy s (part_type_by (kind_of w) w)) same k.0
known_at s (y ∷ z ∷ zs) (suc i) x k e h = known_at s (z ∷ zs) i x k.1 e (omega arith)

pub part_known : (s : Store) (xs : List TypedNode) (i : ℕ) (x : TypedNode) → ArePartsKnown s xs → slice_get xs i ≡ Some x →
    i < length xs - 1 → IsKnownTy s (part_type_by (kind_of x) x)
part_known s xs i x k e h = known_at s xs i x k e (omega arith)

-- a list of ids that parts write
with_each : (P : ℕ → Type 0) (a : Ty) (o : Option (List ℕ)) (ts : List ℕ) → ((t : ℕ) → a ≡ ty.Of t → P t) →
    ((us : List ℕ) → o ≡ Some us → (i : ℕ) → Contains us i → P i)
    → with_id (id_in a) o ≡ Some ts → (i : ℕ) → Contains ts i → P i
with_each P (ty.Of t) (Some us) ts here rest e i c = by (subst (λ (ws : List ℕ). Contains ws i) (sym same) c)
  where
    same : t ∷ us ≡ ts
    same = cc

    by : Contains (t ∷ us) i → P i
    by (zero, l, g) = subst P g (here t refl)
    by (suc n, l, g) = rest us refl i (n, omega (arith, l), g)
with_each P (ty.Of t) None ts here rest e i c = absurd cc
with_each P (ty.Iconst n) o ts here rest e i c = absurd cc
with_each P ty.Null o ts here rest e i c = absurd cc
with_each P ty.Empty o ts here rest e i c = absurd cc

pub ids_known : (s : Store) (xs : List TypedNode) (ts : List ℕ) → EachKnown s xs → part_ids xs ≡ Some ts → (i : ℕ) → Contains ts i →
    IsKnown s i
ids_known s [] ts k e i c =
    let none : [] ≡ ts = cc in let d = subst (λ (ws : List ℕ). Contains ws i) (sym none) c in absurd (omega (arith, d.1))
ids_known s (x ∷ xs) ts k e i c =
    with_each (IsKnown s) (part_type_by (kind_of x) x) (part_ids xs) ts (λ t g. subst (IsKnownTy s) g k.0) (λ us g. ids_known s xs us k.1 g)
    e i c

pub ids_defined : (s : Store) (xs : List TypedNode) (ts : List ℕ) → EachDefined s xs → part_ids xs ≡ Some ts → (i : ℕ) → Contains ts i →
    IsDefined s i
ids_defined s [] ts k e i c =
    let none : [] ≡ ts = cc in let d = subst (λ (ws : List ℕ). Contains ws i) (sym none) c in absurd (omega (arith, d.1))
ids_defined s (x ∷ xs) ts k e i c =
    with_each (IsDefined s) (part_type_by (kind_of x) x) (part_ids xs) ts (λ t g. subst (IsDefinedTy s) g k.0)
    (λ us g. ids_defined s xs us k.1 g) e i c

-- ---- ids, one more

joined-id : (ts : List ℕ) (d : ℕ) (o : Option (List ℕ)) →
    option_map (λ us. ts ++ us) (with_id (Some d) o) ≡ option_map (λ us. (ts ++ d ∷ []) ++ us) o
joined-id ts d None = refl
joined-id ts d (Some us) = ap Some (sym (append_assoc ts (d ∷ []) us))

module _ (xs : List TypedNode) (i : ℕ) (x : TypedNode) (u : ℕ) (e : slice_get xs i ≡ Some x) (h : i < length xs - 1)
    (here : part_type_by (kind_of x) x ≡ ty.Of u) where
  pub ids-more : (ts us : List ℕ) (all : Option (List ℕ)) → us ≡ ts ++ u ∷ []
      → option_map (λ vs. ts ++ vs) (part_ids (but_last (drop i xs))) ≡ all →
      option_map (λ vs. us ++ vs) (part_ids (but_last (drop (i + 1) xs))) ≡ all
  ids-more ts us all n g =
      ap (λ (ws : List ℕ). option_map (λ vs. ws ++ vs) (part_ids (but_last (drop (i + 1) xs)))) n
      ∙ sym (joined-id ts u (part_ids (but_last (drop (i + 1) xs))))
      ∙ sym (ap (λ a. option_map (λ vs. ts ++ vs) (with_id (id_in a) (part_ids (but_last (drop (i + 1) xs))))) here)
      ∙ sym (ap (λ ys. option_map (λ vs. ts ++ vs) (part_ids ys)) (but_last-drop xs i x e h)) ∙ g

pub ids-end : (xs : List TypedNode) (ts : List ℕ) (i : ℕ) (all : Option (List ℕ)) → length xs - 1 ≤ i
    → option_map (λ vs. ts ++ vs) (part_ids (but_last (drop i xs))) ≡ all → all ≡ Some ts
ids-end xs ts i all h g = sym g ∙ ap (λ ys. option_map (λ vs. ts ++ vs) (part_ids ys)) (but_last-end xs i h) ∙ ap Some (append-nil ts)

-- ---- fields, one more

joined-field : (fs : List Field) (d : Field) (o : Option (List Field)) →
    option_map (λ us. fs ++ us) (with_field (Some d) o) ≡ option_map (λ us. (fs ++ d ∷ []) ++ us) o
joined-field fs d None = refl
joined-field fs d (Some us) = ap Some (sym (append_assoc fs (d ∷ []) us))

pub fields-more : (f : Store) (xs : List TypedNode) (i : ℕ) (x : TypedNode) (d : Field) (fs us : List Field) (all : Option (List Field)) →
    slice_get xs i ≡ Some x → i < length xs - 1
    → part_type_by (kind_of x) x ≡ ty.Of d.ty → name_number f (text_of x) ≡ Some d.name → us ≡ fs ++ d ∷ []
    → option_map (λ vs. fs ++ vs) (fields f (but_last (drop i xs))) ≡ all →
    option_map (λ vs. us ++ vs) (fields f (but_last (drop (i + 1) xs))) ≡ all
fields-more f xs i x d fs us all e h here name n g =
    ap (λ (ws : List Field). option_map (λ vs. ws ++ vs) (fields f (but_last (drop (i + 1) xs)))) n
    ∙ sym (joined-field fs d (fields f (but_last (drop (i + 1) xs))))
    ∙ sym (ap₂ (λ a b. option_map (λ vs. fs ++ vs) (with_field (field_of a (id_in b)) (fields f (but_last (drop (i + 1) xs))))) name here)
    ∙ sym (ap (λ ys. option_map (λ vs. fs ++ vs) (fields f ys)) (but_last-drop xs i x e h)) ∙ g

pub fields-end : (f : Store) (xs : List TypedNode) (fs : List Field) (i : ℕ) (all : Option (List Field)) → length xs - 1 ≤ i
    → option_map (λ vs. fs ++ vs) (fields f (but_last (drop i xs))) ≡ all → all ≡ Some fs
fields-end f xs fs i all h g = sym g ∙ ap (λ ys. option_map (λ vs. fs ++ vs) (fields f ys)) (but_last-end xs i h) ∙ ap Some (append-nil fs)

pub types-push : (fs us : List Field) (d : Field) → us ≡ fs ++ d ∷ [] → field_types us ≡ field_types fs ++ d.ty ∷ []
types-push fs us d e = ap field_types e ∙ by fs
  where
    by : (gs : List Field) → field_types (gs ++ d ∷ []) ≡ field_types gs ++ d.ty ∷ []
    by [] = refl
    by (g ∷ gs) = ap (λ ts. g.ty ∷ ts) (by gs)

-- what is known is a type
pub not_known : (s : Store) (a b : Ty) → a ≡ b → IsKnownTy s b → ((t : ℕ) → ¬ (a ≡ ty.Of t)) → ⊥
not_known s a (ty.Of t) e k h = h t e
not_known s a (ty.Iconst n) e k h = k
not_known s a ty.Null e k h = k
not_known s a ty.Empty e k h = k

-- ---- kids of a part

listed : (ks : List TypedNode) → listed_nodes (typed_nodes ks) ≡ ks
listed [] = refl
listed (k ∷ ks) = ap (λ us. k ∷ us) (listed ks)

inside : (x : TypedNode) (h : Head) (m : Mark) (ks : List TypedNode) → marked h m (typed_nodes ks) ≡ x →
    own_type (tree_from_front 0 ks) ≡ own_type (kid_from_front 0 x)
inside x h m ks e = sym (ap (λ us. own_type (tree_from_front 0 us)) (listed ks)) ∙ ap (λ y. own_type (kid_from_front 0 y)) e

-- what a field writes, and what is spread
pub field_part : (x : TypedNode) (h : Head) (m : Mark) (ks : List TypedNode) → marked h m (typed_nodes ks) ≡ x → h.kind ≡ ki.StructField →
    own_type (tree_from_front 0 ks) ≡ part_type_by (kind_of x) x
field_part x h m ks e k = inside x h m ks e ∙ sym (ap (λ j. part_type_by j x) (sym (ap kind_of e) ∙ k))

pub spread_part : (x : TypedNode) (h : Head) (m : Mark) (ks : List TypedNode) → marked h m (typed_nodes ks) ≡ x → h.kind ≡ ki.Spread
    → own_type (tree_from_front 0 ks) ≡ own_type (cond (is_spread x) (kid_from_front 0 x) x)
spread_part x h m ks e k = inside x h m ks e ∙ sym
    (ap (λ j. own_type (cond (is_spread_kind j) (kid_from_front 0 x) x)) (sym (ap kind_of e) ∙ k))

-- ---- no parts yet

pub no_ids : (fs : List Field) (o : Option (List ℕ)) → fs ≡ [] → option_map (λ us. field_types fs ++ us) o ≡ o
no_ids fs o e = ap (λ (gs : List Field). option_map (λ us. field_types gs ++ us) o) e ∙ by o
  where
    by : (p : Option (List ℕ)) → option_map (λ us. [] ++ us) p ≡ p
    by None = refl
    by (Some ts) = refl

pub no_fields : (fs : List Field) (o : Option (List Field)) → fs ≡ [] → option_map (λ us. fs ++ us) o ≡ o
no_fields fs o e = ap (λ (gs : List Field). option_map (λ us. gs ++ us) o) e ∙ by o
  where
    by : (p : Option (List Field)) → option_map (λ us. [] ++ us) p ≡ p
    by None = refl
    by (Some gs) = refl

-- ids and fields of the store
pub ids_below : (s : Store) (ts : List ℕ) → ((i : ℕ) → Contains ts i → IsKnown s i) → AllBelow (length s.rows) ts
ids_below s [] h = tt
ids_below s (t ∷ ts) h = ((h t (0, omega arith, refl)).within, ids_below s ts (λ u c. h u (suc c.0, omega (arith, c.1), c.2)))

pub fields_below : (s : Store) (fs : List Field) → ((i : ℕ) → Contains (field_types fs) i → IsKnown s i) → FieldsBelow (length s.rows) fs
fields_below s [] h = tt
fields_below s (g ∷ fs) h = ((h g.ty (0, omega arith, refl)).within, fields_below s fs (λ u c. h u (suc c.0, omega (arith, c.1), c.2)))

pub parts_stay : (now later : Store) → IsStore now → IsLater now later → (xs : List TypedNode) → EachKnown now xs → EachKnown later xs
parts_stay now later v l [] k = tt
parts_stay now later v l (x ∷ xs) k = (known_ty_stays now later v l (part_type_by (kind_of x) x) k.0, parts_stay now later v l xs k.1)

pub parts_defined : (now later : Store) → IsStore now → IsLater now later → (xs : List TypedNode) → EachDefined now xs →
    EachDefined later xs
parts_defined now later v l [] k = tt
parts_defined now later v l (x ∷ xs) k = (ty_stays now later v l (part_type_by (kind_of x) x) k.0, parts_defined now later v l xs k.1)

pub same_ids : (xs : List TypedNode) (ts us : List ℕ) → part_ids xs ≡ Some ts → part_ids xs ≡ Some us → ts ≡ us
same_ids xs ts us e h = let both : Some ts ≡ Some us = sym e ∙ h in cc
