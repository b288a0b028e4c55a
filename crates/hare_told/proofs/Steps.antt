-- Which rows look at what of a context: most look at little, so that what is changed elsewhere changes none of their answers.
use Rattle.std.proofs.Common.{◌≡◌, ℕ, zero, suc, Bool, true, false, not, ◌||◌, List, [], ◌∷◌, map, refl, ap, ◌∙◌}
use Rattle.std.specs.Prelude.{slice_get}
use Rattle.hare_tree.specs.declared.kind.Kind.{Kind}
use Rattle.hare_tree.specs.declared.kind.Kind.TheVariants as ki
use Rattle.hare_tree.specs.declared.token.Meaning.{Meaning}
use Rattle.hare_tree.specs.declared.token.Meaning.TheVariants as means
use Rattle.hare_typed.specs.Typed.{TypedNode, TypedNodes, marked, typed_none, typed_more}
use Rattle.hare_rules.specs.declared.row_id.RowId.{RowId}
use Rattle.hare_rules.specs.declared.row_id.RowId.TheVariants as row
use Rattle.hare_rules.specs.declared.declared.Local.{Local}
use Rattle.hare_rules.specs.Context.{Context, Setting, Entry, Later, Known, Odd, store_of, kid}
use Rattle.hare_rules.specs.Places.{place_by, means_place, is_place, is_first_place, means_mutable, is_mutable, is_first_mutable, is_mutable_entry}
use Rattle.hare_rules.specs.Aggregates.{behind_pointer_or, deleted_from}
use Rattle.hare_rules.specs.Types.{type_by, type_of}
use Rattle.hare_rules.specs.Rows.{holds, stands, is_bound, type_sized, fits_hint, may_drop}
use Rattle.hare_told.specs.Told.{AreToldEntries}

-- ---- places

-- what paths elsewhere mean says nothing of a place
abbrev pub without_names : Setting → Setting
without_names w = record w { means = λ p. means.None }

mutual
  is_place-named : (w : Setting) (t : TypedNode) → is_place (without_names w) t ≡ is_place w t
  is_place-named w (marked h m ts) = ap (place_by w.store h.kind (means_place w m.meaning) ts) (is_first_place-named w ts)

  is_first_place-named : (w : Setting) (ts : TypedNodes) → is_first_place (without_names w) ts ≡ is_first_place w ts
  is_first_place-named w typed_none = refl
  is_first_place-named w (typed_more t ts) = is_place-named w t

mutual
  is_mutable-named : (w : Setting) (ls : List Entry) (t : TypedNode) → is_mutable (without_names w) ls t ≡ is_mutable w ls t
  is_mutable-named w ls (marked h m ts) = ap (place_by w.store h.kind (means_mutable w ls m.meaning) ts) (is_first_mutable-named w ls ts)

  is_first_mutable-named : (w : Setting) (ls : List Entry) (ts : TypedNodes) →
      is_first_mutable (without_names w) ls ts ≡ is_first_mutable w ls ts
  is_first_mutable-named w ls typed_none = refl
  is_first_mutable-named w ls (typed_more t ts) = is_mutable-named w ls t

-- ---- the number of a node, and the meanings of other paths

abbrev pub unnamed : Context → Context
unnamed c = record c { setting = without_names c.setting; node = 0 }

pub holds-unnamed : (r : RowId) (c : Context) → holds r (unnamed c) ≡ holds r c
holds-unnamed row.AddrPlace c = is_place-named c.setting (kid c 0)
holds-unnamed row.AssignPlace c = is_place-named c.setting (kid c 0)
holds-unnamed row.OpAssignPlace c = is_place-named c.setting (kid c 0)
holds-unnamed row.AppendPlace c = is_place-named c.setting (kid c 0)
holds-unnamed row.DeletePlace c = ap (behind_pointer_or c) (is_place-named c.setting (deleted_from c))
holds-unnamed row.AddrMutable c = is_mutable-named c.setting c.locals (kid c 0)
holds-unnamed row.AssignMutable c = is_mutable-named c.setting c.locals (kid c 0)
holds-unnamed row.OpAssignMutable c = is_mutable-named c.setting c.locals (kid c 0)
holds-unnamed row.AppendMutable c = is_mutable-named c.setting c.locals (kid c 0)
holds-unnamed row.DeleteMutable c = ap (behind_pointer_or c) (is_mutable-named c.setting c.locals (deleted_from c))
holds-unnamed _ c = refl

pub stands-unnamed : (r : RowId) (c : Context) → stands r (unnamed c) ≡ stands r c
stands-unnamed row.PathBindingKnown c = refl
stands-unnamed _ c = refl

pub type_by-unnamed : (k : Kind) (c : Context) → type_by (unnamed c) k ≡ type_by c k
type_by-unnamed ki.Number c = refl
type_by-unnamed _ c = refl

-- ---- bindings

abbrev pub with_locals : List Local → Context → Context
with_locals ls c = record c { locals = map Known ls }

slice_get-told : (es : List Entry) (ls : List Local) (n : ℕ) → AreToldEntries es ls →
    is_mutable_entry (slice_get (map Known ls) n) ≡ is_mutable_entry (slice_get es n)
slice_get-told [] [] n h = refl
slice_get-told [] (l ∷ ls) n h = absurd h
slice_get-told (e ∷ es) [] n h = absurd h
slice_get-told (Known l ∷ es) (m ∷ ls) zero h = ap (λ x. x.mutable) h.0
slice_get-told (Later ∷ es) (m ∷ ls) zero h = h.0
slice_get-told (Odd p ∷ es) (m ∷ ls) zero h = h.0
slice_get-told (e ∷ es) (m ∷ ls) (suc n) h = slice_get-told es ls n h.1

means_mutable-told : (w : Setting) (es : List Entry) (ls : List Local) (m : Meaning) → AreToldEntries es ls →
    means_mutable w (map Known ls) m ≡ means_mutable w es m
means_mutable-told w es ls (means.Local n) h = slice_get-told es ls n h
means_mutable-told w es ls (means.Decl n) h = refl
means_mutable-told w es ls _ h = refl

mutual
  is_mutable-told : (w : Setting) (es : List Entry) (ls : List Local) (t : TypedNode) → AreToldEntries es ls →
      is_mutable w (map Known ls) t ≡ is_mutable w es t
  is_mutable-told w es ls (marked h m ts) k =
      ap (λ b. place_by w.store h.kind b ts (is_first_mutable w (map Known ls) ts)) (means_mutable-told w es ls m.meaning k)
      ∙ ap (place_by w.store h.kind (means_mutable w es m.meaning) ts) (is_first_mutable-told w es ls ts k)

  is_first_mutable-told : (w : Setting) (es : List Entry) (ls : List Local) (ts : TypedNodes) → AreToldEntries es ls →
      is_first_mutable w (map Known ls) ts ≡ is_first_mutable w es ts
  is_first_mutable-told w es ls typed_none k = refl
  is_first_mutable-told w es ls (typed_more t ts) k = is_mutable-told w es ls t k

-- the row that asks whether the binding of a path is known
abbrev pub asks_binding : RowId → Bool
asks_binding row.PathBindingKnown = true
asks_binding _ = false

pub holds-locals : (r : RowId) (ls : List Local) (c : Context) → AreToldEntries c.locals ls → type_of (with_locals ls c) ≡ type_of c →
    asks_binding r ≡ false → holds r (with_locals ls c) ≡ holds r c
holds-locals row.PathBindingKnown ls c h t e = cc
holds-locals row.Bound ls c h t e = ap (λ o. not (is_bound c.inside.role) || type_sized (store_of c) o) t
holds-locals row.Site ls c h t e = ap (fits_hint (store_of c) c.hint) t
holds-locals row.Kept ls c h t e = ap (may_drop (store_of c) c.hint) t
holds-locals row.AddrMutable ls c h t e = is_mutable-told c.setting c.locals ls (kid c 0) h
holds-locals row.AssignMutable ls c h t e = is_mutable-told c.setting c.locals ls (kid c 0) h
holds-locals row.OpAssignMutable ls c h t e = is_mutable-told c.setting c.locals ls (kid c 0) h
holds-locals row.AppendMutable ls c h t e = is_mutable-told c.setting c.locals ls (kid c 0) h
holds-locals row.DeleteMutable ls c h t e = ap (behind_pointer_or c) (is_mutable-told c.setting c.locals ls (deleted_from c) h)
holds-locals _ ls c h t e = refl

pub stands-locals : (r : RowId) (ls : List Local) (c : Context) → asks_binding r ≡ false → stands r (with_locals ls c) ≡ stands r c
stands-locals row.PathBindingKnown ls c e = cc
stands-locals _ ls c e = refl

-- a node that is no path has its type by no binding
abbrev pub is_path : Kind → Bool
is_path ki.Path = true
is_path _ = false

pub type_by-locals : (k : Kind) (ls : List Local) (c : Context) → is_path k ≡ false → type_by (with_locals ls c) k ≡ type_by c k
type_by-locals ki.Path ls c e = cc
type_by-locals _ ls c e = refl
