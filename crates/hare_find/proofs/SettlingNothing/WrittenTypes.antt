-- What is found of written types.
use Rattle.std.proofs.Common.{◌≡◌, ℕ, Bool, true, false, List, [], map, refl, ap, sym, ◌∙◌, subst, Option, Some, None, Err, Ok}
use Rattle.std.specs.Prelude.{option_map}
use Rattle.std.specs.List.{list_any}
use Rattle.hare_tree.specs.declared.kind.Kind.{Kind}
use Rattle.hare_tree.specs.declared.kind.Kind.TheVariants as ki
use Rattle.hare_tree.specs.declared.place.Fault.{Fault}
use Rattle.hare_tree.specs.declared.stop.Stop.{Stop}
use Rattle.hare_tree.specs.declared.stop.Stop.TheVariants.{Fault as Refused, Memory}
use Rattle.hare_tree.specs.Levels.{is_type}
use Rattle.hare_tree.specs.Node.{Head}
use Rattle.hare_types.specs.declared.coercion.Ty.TheVariants as ty
use Rattle.hare_types.specs.declared.extent.Extent.{Extent}
use Rattle.hare_types.specs.Sound.{IsStore}
use Rattle.hare_types.specs.Store.{Store}
use Rattle.hare_types.specs.Later.{IsLater}
use Rattle.hare_typed.specs.Typed.{TypedNode}
use Rattle.hare_rules.specs.declared.row_id.RowId.{RowId}
use Rattle.hare_rules.specs.Above.{Above}
use Rattle.hare_rules.specs.Aggregates.{is_small}
use Rattle.hare_rules.specs.Context.{Setting, Context, Role}
use Rattle.hare_rules.specs.Finished.{bare}
use Rattle.hare_rules.specs.Flow.{Flow, context}
use Rattle.hare_rules.specs.Judged.{IsRefusal}
use Rattle.hare_rules.specs.Rows.{first_failing, is_site, rows_in_role}
use Rattle.hare_rules.specs.Settles.{target_of, settles_late}
use Rattle.hare_rules.specs.Table.{rows_of}
use Rattle.hare_rules.specs.Types.{type_of}
use Rattle.hare_inference.specs.Inferred.{Fails, judged, found_kids, with_type, with_kids}
use Rattle.hare_walk.specs.Walks.{IsStop, IsTurnedBack}
use Rattle.hare_seen.specs.Sizes.{size_row_by, FitsAs}
use Rattle.rule_judge.specs.Defined.{IsDefined}
use Rattle.rule_judge.proofs.DefinedLemmas.{row_stays}
use Rattle.rule_mem.proofs.ExtentLemmas.{extent_stays}
use Rattle.rule_types.specs.declared.written.Written.{Written}
use Rattle.rule_types.specs.Answers.{IsWrittenType, IsStoppedType}
use Rattle.rule_types.specs.Contexts.{role_of, head_in, kind_in, context_of, context_in}
use Rattle.rule_types.specs.Enough.{told, IsSameType}
use Rattle.rule_types.proofs.ToldLemmas.{types_are_told}
use Rattle.hare_find.specs.declared.finding.Finding.{Finding}
use Rattle.hare_find.specs.Findings.{IsFound}
use Rattle.hare_find.specs.Unsettled.{IsUnsettled}
use Rattle.hare_find.specs.Written.{IsAtType}
use Rattle.hare_find.proofs.SettlingNothing.AsFound.{SettlesNothing, found_unsettled}

-- ---- type nodes settle nothing

type_rows : (k : Kind) → is_type k ≡ true → list_any is_site (rows_of k) ≡ false
type_rows ki.None e = refl
type_rows _ e = cc

type_target : (k : Kind) → is_type k ≡ true → (d : Context) (i : ℕ) → target_of d k i ≡ None
type_target ki.None e d i = refl
type_target _ e d i = cc

type_late : (k : Kind) → is_type k ≡ true → (c : Context) → settles_late c k ≡ []
type_late ki.None e c = refl
type_late _ e c = cc

rows_by : (b : Bool) (o : Role) (k : Kind) → o ≡ role_of b → rows_in_role o k ≡ rows_of k
rows_by true o k e = rw e refl
rows_by false o k e = rw e refl

type_silent : (c : Context) (b : Bool) → is_type c.head.kind ≡ true → c.inside.role ≡ role_of b → SettlesNothing c
type_silent c b k e = record {
  judged = ap (list_any is_site) (rows_by b c.inside.role c.head.kind e) ∙ type_rows c.head.kind k;
  kids = type_target c.head.kind k;
  late = type_late c.head.kind k c;
}

-- ---- what its judge is told

abbrev context_at : (Store → Setting) → Above → Flow → Written → Store → Context
context_at w a f t l = context (w l) a (head_in t) (map bare t.kids.now) f

-- it is told all that is known of the node
told_type : (w : Store → Setting) (s : Store) (a : Above) (f : Flow) (t : Written) (l : Store) → IsAtType w s a f t → IsLater s l →
    told (context_at w a f t l) t.bound ≡ context_in l t
told_type w s a f t l q d =
    let c = context_at w a f t l in
    let h = head_in t in
    ap (λ v. context_of v c.setting.decls c.meaning t.bound h c.kids) (q.store l)
    ∙ ap (λ ds. context_of l ds c.meaning t.bound h c.kids) (q.decls l)
    ∙ ap (λ m. context_of l t.decls.now m t.bound h c.kids) (sym (q.meaning l d))
    ∙ ap (λ xs. context_of l t.decls.now t.meaning t.bound h xs) (sym q.hand)

-- ---- its type

-- what fits stays so where each name that it mentions is defined
fits_stays : (s l : Store) → IsStore s → IsLater s l → (k : Kind) (u : ℕ) → IsDefined s u → FitsAs s k u → FitsAs l k u
fits_stays s l v d k u g h r e =
    ap (λ (o : Option Extent). is_small (option_map (λ x. x.size) o)) (extent_stays s l v d u g)
    ∙ h r (ap (size_row_by k) (sym (row_stays s l v d u g.within)) ∙ e)

-- what is found of a type node that writes this type
pub found_written : (w : Store → Setting) (s : Store) (a : Above) (f : Flow) (t : Written) (u n : ℕ) (x : Finding) → IsStore s →
    is_type (kind_in t) ≡ true → IsWrittenType s t u → IsDefined s u → IsUnsettled (ty.Of u) n x → IsAtType w s a f t →
    IsFound w s a (head_in t) t.kids.now f x
found_written w s a f t u n x v k i g z q l d =
    let c = context_at w a f t l in
    let same : IsSameType c (told c t.bound) = types_are_told c t.bound k q.role in
    let here = told_type w s a f t l q d in
    let failing : first_failing c ≡ None = sym same.failing ∙ ap first_failing here ∙ i.rows l d
    (fits_stays s l v d (kind_in t) u g i.fits) in
    let type : type_of c ≡ Some (ty.Of u) = sym same.type ∙ ap type_of here ∙ i.type l d in
    found_unsettled c t.kids.now f.coercions (ty.Of u) n x z (type_silent c t.bound k q.role) failing type (sym q.hand)

-- ---- a refusal

failed_as : (c : Context) (r : RowId) → first_failing c ≡ Some r → judged c ≡ Err (Fails r c)
failed_as c r e = rw e refl

stopped : (w : Setting) (a : Above) (h : Head) (xs : List TypedNode) (f : Flow) (e : Fault) → IsRefusal (context w a h xs f) e →
    IsStop (Refused e) (with_kids w a h (Ok (found_kids xs f)))
stopped w a h xs f e r =
    let c = context w a h xs f in
    (r.row, c, ap (with_type w a h xs f) (failed_as c r.row r.first), sym r.is)

-- what is refused is turned back
pub written_back : (w : Store → Setting) (s : Store) (a : Above) (f : Flow) (t : Written) (e : Stop Fault) → is_type (kind_in t) ≡ true →
    IsStoppedType s t e → IsAtType w s a f t → IsTurnedBack w s a (head_in t) t.kids.now f e
written_back w s a f t Memory k i q = λ l d. tt
written_back w s a f t (Refused e) k i q =
    λ l d.
    let c = context_at w a f t l in
    let same : IsSameType c (told c t.bound) = types_are_told c t.bound k q.role in
    let r : IsRefusal (told c t.bound) e = subst (λ z. IsRefusal z e) (sym (told_type w s a f t l q d)) (i l d) in
    stopped (w l) a (head_in t) (map bare t.kids.now) f e (same.refusal e r)
