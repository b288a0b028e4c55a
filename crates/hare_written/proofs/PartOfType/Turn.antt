-- What the turn of a part of a written type comes to.
use Rattle.std.proofs.Common.{◌≡◌, ℕ, Bool, true, false, cond, List, [], ◌∷◌, ◌++◌, map, length, Option, Some, None, Ok, Err, refl, ap, ap₂, sym, ◌∙◌, subst}
use Rattle.std.specs.List.{list_any}
use Rattle.hare_tree.specs.declared.kind.Kind.{Kind}
use Rattle.hare_tree.specs.declared.kind.Kind.TheVariants as ki
use Rattle.hare_tree.specs.declared.place.Fault.{Fault}
use Rattle.hare_tree.specs.declared.stop.Stop.TheVariants.{Fault as Refused}
use Rattle.hare_tree.specs.declared.token.Meaning.{Meaning}
use Rattle.hare_tree.specs.Node.{Head}
use Rattle.hare_types.specs.declared.coercion.Coercion.{Coercion}
use Rattle.hare_types.specs.declared.coercion.Ty.{Ty}
use Rattle.hare_types.specs.declared.coercion.Ty.TheVariants as ty
use Rattle.hare_types.specs.declared.row.Row.{Row}
use Rattle.hare_types.specs.declared.row.Row.TheVariants as row
use Rattle.hare_types.specs.Store.{Store}
use Rattle.hare_types.specs.Later.{IsLater}
use Rattle.hare_typed.specs.declared.constant.Const.{Const}
use Rattle.hare_typed.specs.Typed.{TypedNode, Mark, marked, typed_nodes}
use Rattle.hare_typed.specs.Coats.{coat}
use Rattle.hare_rules.specs.declared.row_id.RowId.{RowId}
use Rattle.hare_rules.specs.declared.row_id.RowId.TheVariants as rows
use Rattle.hare_rules.specs.Above.{Above}
use Rattle.hare_rules.specs.Context.{Setting, Context, Entry, Role, Length, store_of}
use Rattle.hare_rules.specs.Flow.{Yielded, context, meaning_of, flow_after, settled_type, own_settled, write_each}
use Rattle.hare_rules.specs.Rows.{first_failing, fault_of, is_judged, is_site, rows_in_role}
use Rattle.hare_rules.specs.Settles.{Settled, same, own_coercion, settles_kids, settles_late}
use Rattle.hare_rules.specs.Types.{type_of}
use Rattle.hare_rules.specs.Values.{value_of, value_by_type, value_as, value_named}
use Rattle.hare_inference.specs.Inferred.{Fails, found, found_kids, with_kids, with_type, judged, judged_by, typed_or, mark_found}
use Rattle.hare_find.proofs.Verdicts.Found.{none_settled}
use Rattle.hare_seen.specs.Sizes.{size_row_by, IsLargeNode, too_large}
use Rattle.hare_walk.specs.Walks.{IsStop}
use Rattle.rule_judge.specs.Defined.{IsDefinedTy}
use Rattle.rule_types.specs.Known.{IsKnownPart}
use Rattle.hare_written.specs.declared.roles.Role.{Role as Part}
use Rattle.hare_written.specs.declared.roles.Role.TheVariants as part
use Rattle.hare_written.specs.Judged.{large_stop}
use Rattle.hare_written.specs.Nodes.{is_written, seen_of}
use Rattle.hare_written.specs.Roles.{role_in}
use Rattle.hare_written.specs.Turns.{IsAt, IsTypeFound, IsTurned}
use Rattle.hare_written.proofs.PartOfType.Kinds.{written-target, written-late, written-locals, written-yields}

-- ---- what has been seen behind it

same-flow : (cs : List Coercion) (b : Ty) (ls : List Entry) (ys : List Yielded) (ss late : List Settled) (r : Coercion) → ls ≡ [] →
    ys ≡ [] → ss ≡ [] → late ≡ [] →
    r ≡ same b → record { locals = ls; yields = ys; coercions = write_each ss (cs ++ r ∷ []); late = late } ≡ seen_of (cs ++ same b ∷ [])
same-flow cs b ls ys ss late r e f g h k = rw (e, f, g, h, k) refl

-- its constant is that of the def that it names
value-part : (c : Context) (q : Part) (b : Ty) → c.inside.role ≡ role_in q → value_as c c.inside.role b ≡ value_named c
value-part c part.Ordinary b e = ap (λ o. value_as c o b) e
value-part c part.BindingType b e = ap (λ o. value_as c o b) e
value-part c part.Length b e = ap (λ o. value_as c o b) e

module _ (w : Setting) (a : Above) (h : Head) (xs : List TypedNode) (cs : List Coercion) where
  abbrev c : Context
  c = context w a h xs (seen_of cs)

  failed : (r : RowId) → first_failing c ≡ Some r → with_kids w a h (Ok (found_kids xs (seen_of cs))) ≡ Err (Fails r c)
  failed r e = ap (λ o. with_type w a h xs (seen_of cs) (judged_by c o)) e

  -- a refusal of the node
  pub refused : (r : RowId) (e : Fault) → first_failing c ≡ Some r → e ≡ fault_of r c →
      IsStop (Refused e) (with_kids w a h (Ok (found_kids xs (seen_of cs))))
  refused r e k g = (r, c, failed r k, g)

  module _ (b : Ty) (kind : is_written h.kind ≡ true) (role : Role) (is : a.inside.role ≡ role)
      (unasked : list_any is_site (rows_in_role role h.kind) ≡ false)
      (meets : first_failing c ≡ None) (type : type_of c ≡ Some b) where
    settled : settled_type c (type_of c) ≡ same b
    settled =
        ap (settled_type c) type
        ∙ ap (λ x. cond x (own_coercion (store_of c) c.hint b) (same b)) (ap (λ o. list_any is_site (rows_in_role o h.kind)) is ∙ unasked)

    behind : flow_after w a h xs (seen_of cs) ≡ seen_of (cs ++ same b ∷ [])
    behind =
        same-flow cs b _ _ (settles_kids c) _ (settled_type c (type_of c)) (written-locals h.kind kind c a.first)
        (written-yields h.kind kind a.inside.labels h xs) (none_settled c 0 c.kids (written-target h.kind kind))
        (written-late h.kind kind c) settled

    pub passed : (m : Mark) → mark_found c b ≡ m →
        with_kids w a h (Ok (found_kids xs (seen_of cs))) ≡ Ok (found (marked h m (typed_nodes xs)) (seen_of (cs ++ same b ∷ [])))
    passed m e =
        ap (λ o. with_type w a h xs (seen_of cs) (judged_by c o)) meets ∙ ap (λ o. with_type w a h xs (seen_of cs) (typed_or c o)) type
        ∙ ap₂ (λ k g. Ok (found (marked h k (typed_nodes xs)) g)) e behind

-- ---- a type that is too large

-- each row that asks for the size has one fault, at the place of the type
large-fault : (k : Kind) (o : Option Row) (q : RowId) → size_row_by k o ≡ Some q → (c : Context) → too_large c.head.place ≡ fault_of q c
large-fault ki.TypeArray o q e c = let s : rows.ArrayTypeSmall ≡ q = cc in ap (λ x. fault_of x c) s
large-fault ki.TypeStruct o q e c = let s : rows.FieldsSmall ≡ q = cc in ap (λ x. fault_of x c) s
large-fault ki.TypeTuple o q e c = let s : rows.FieldsSmall ≡ q = cc in ap (λ x. fault_of x c) s
large-fault ki.TypeUnion (Some (row.Union is)) q e c = let s : rows.UnionSmall ≡ q = cc in ap (λ x. fault_of x c) s
large-fault _ _ q e c = cc

-- ---- the turn

same-mark : (n k : ℕ) (b : Ty) (m l : Meaning) (u v : Const) → n ≡ k → m ≡ l → u ≡ v →
    ◌≡◌ {A = Mark} (record { node = n; ty = b; coerce = same b; meaning = m; value = u })
    (record { node = k; ty = b; coerce = same b; meaning = l; value = v })
same-mark n k b m l u v e f g = rw (e, f, g) refl

-- the tree of a part with this type, number and meaning, and the constant that it names
pub turned : (w : Store → Setting) (s : Store) (q : Part) (h : Head) (xs : List TypedNode) (n : ℕ) (b : Ty) (l : Meaning) (v : Const) →
    IsTypeFound w s (role_in q) h xs b → ((f : Store) → l ≡ meaning_of (w f) h) →
    ((f : Store) (a : Above) (cs : List Coercion) → v ≡ value_named (context (w f) a h xs (seen_of cs))) →
    ((m : Mark) → m.ty ≡ b → IsKnownPart s (marked h m (typed_nodes xs))) → (role_in q ≡ Length → IsDefinedTy s b) →
    IsTurned w s (role_in q) h xs n (record { node = n; ty = b; coerce = same b; meaning = l; value = v })
turned w s q h xs n b l v i means value known counted =
    let m : Mark = record { node = n; ty = b; coerce = same b; meaning = l; value = v } in
    record {
      plain = refl;
      node = refl;
      stands = i.stands;
      fits = i.fits;
      known = known m refl;
      counted = counted;
      turns = λ f k fit a cs at e.
          let c = context (w f) a h xs (seen_of cs) in
          let type = i.type f k a cs at in
          let constant : value_of c ≡ v = ap (value_by_type c) type ∙ value-part c q b at.role ∙ sym (value f a cs) in
          passed (w f) a h xs cs b i.kind (role_in q) at.role i.unasked (i.meets f k fit a cs at) type m
          (same-mark _ n b (meaning_of (w f) h) l (value_of c) v e (sym (means f)) constant);
      large = λ f k x a cs at e.
          let c = context (w f) a h xs (seen_of cs) in
          refused (w f) a h xs cs x.row (too_large h.place) (i.large f x.id x.row k x.type x.asks x.large a cs at)
          (large-fault h.kind _ x.row x.asks c);
    }
