-- The objects of a tree to which a constant leads.
use Rattle.std.proofs.Common.{◌≡◌, ◌∙◌, sym, ap, ap₂, refl, ℕ, zero, suc, ◌+◌, ◌<◌, ◌≤◌, ◌⊎◌, inl, inr, arith, take, append_assoc, append-nil, Bool, true, false, List, [], ◌∷◌, ◌++◌, length, Option, Some, None}
use Rattle.std.specs.Prelude.{nat_eq, cond, slice_get, IsSome, flat_map, option_map, unwrap_or}
use Rattle.std.specs.declared.cmp.Ordering.TheVariants.{Less, Equal, Greater}
use Rattle.std.specs.Ordering.{nat_cmp, is_eq}
use Rattle.std.specs.Cmp.{nat_cmp_is}
use Rattle.std.specs.BTreeMap.{BTreeMap, get, is_at}
use Rattle.std.proofs.lemmas.Bool.{cases_order}
use Rattle.std.proofs.lemmas.Bool.Decides.{nat_tests}
use Rattle.std.proofs.lemmas.List.{take_all}
use Rattle.std.specs.Map.{lookup}
use Rattle.hare_types.specs.Store.{Store}
use Rattle.hare_types.specs.Unions.{put_all, ascending}
use Rattle.hare_typed.specs.declared.cell.Cell.{Cell}
use Rattle.hare_typed.specs.declared.constant.Const.TheVariants as constant
use Rattle.hare_typed.specs.declared.constant.ConstObject.{ConstObject}
use Rattle.hare_typed.specs.Typed.{TypedNode, marked, typed_nodes, mark_of, kids_of}
use Rattle.hare_typed.specs.Constants.{own_kind}
use Rattle.hare_typed.specs.Objects.{Object}
use Rattle.hare_typed.specs.State.{Result, Value}
use Rattle.hare_typed.specs.ConstantValues.{constant_object, listed_objects, objects_of, text_object, statics, statics_of_each, constant_result}
use Rattle.hare_typed.specs.Leads.{leads}
use Rattle.hare_typed.specs.Folded.{cells_named, cells_of_named, reached_in, with_cells_of, objects_behind, tagged_by_id, folded_from, folded, inconstant}
use Rattle.hare_const.specs.NodeValues.{cells_in}
use Rattle.hare_typed.specs.Settled.{IsSettled}
use Rattle.hare_typed.specs.Texts.{cells_found}
use Rattle.hare_typed.specs.Coherent.{scope_in, held, statics_in, statics_in_each, IsCoherent}
use Rattle.hare_const.specs.Statics.{objects_in, objects_led_to, cells_by, reached_by, listed_by}
use Rattle.hare_const.proofs.Shown.Trees.{plain_from}
use Rattle.hare_const.proofs.LaterNodes.{coherent_stays}
use Rattle.hare_const.proofs.Tagged.{tagged_later, tagged_settled, constant_there}
use Rattle.hare_types.specs.Sound.{IsStore}
use Rattle.hare_const.proofs.Shown.Texts.{held-append, held_listed}
use Rattle.hare_const.proofs.Shown.MadeTrees.{made_shown}
use Rattle.hare_typed.proofs.KidLemmas.{take-get}

-- ---- objects by what is found of them

module _ (os : List (ℕ × Object)) (find : ℕ → Option (List Cell)) (same : (n : ℕ) → cells_of_named os n ≡ cells_by find n) where
  led_same : (ns : List ℕ) → flat_map (λ n. leads (cells_of_named os n)) ns ≡ flat_map (λ n. leads (cells_by find n)) ns
  led_same [] = refl
  led_same (n ∷ ns) = ap₂ (λ xs ys. xs ++ ys) (ap leads (same n)) (led_same ns)

  reached_same : (k : ℕ) (ns : List ℕ) → reached_in k os ns ≡ reached_by find k ns
  reached_same zero ns = refl
  reached_same (suc k) ns =
      ap (λ ms. reached_in k os (put_all ms ns)) (led_same ns)
      ∙ reached_same k (put_all (flat_map (λ n. leads (cells_by find n)) ns) ns)

  listed_same : (ns : List ℕ) → with_cells_of os ns ≡ listed_by find ns
  listed_same [] = refl
  listed_same (n ∷ ns) = ap₂ (λ cs l. record { object = n; cells = cs } ∷ l) (same n) (listed_same ns)

  pub behind_same : (cs : List Cell) → objects_behind os cs ≡ listed_by find (reached_by find (length os) (ascending (leads cs)))
  behind_same cs =
      listed_same (reached_in (length os) os (ascending (leads cs)))
      ∙ ap (listed_by find) (reached_same (length os) (ascending (leads cs)))

-- ---- objects as a constant lists them

named_found : (o : Option Object) → cells_named o ≡ unwrap_or (option_map (λ x. x.cells) o) []
named_found None = refl
named_found (Some o) = refl

-- what is found among these objects
pub found_same : (os : List ConstObject) (n : ℕ) → cells_of_named (listed_objects os) n ≡ cells_by (cells_found os) n
found_same os n = named_found (lookup (nat_eq n) (listed_objects os))

held_found : (os : List (ℕ × Object)) (n : ℕ) → cells_of_named os n ≡ cells_by (cells_found (held os)) n
held_found [] n = refl
held_found (o ∷ os) n = by (nat_eq n o.0) (held_found os n)
  where
    by : (b : Bool) → cells_of_named os n ≡ cells_by (cells_found (held os)) n →
        cells_named (cond b (Some o.1) (lookup (nat_eq n) os))
        ≡ unwrap_or (option_map (λ x. x.cells) (cond b (Some (constant_object o.1.cells)) (lookup (nat_eq n) (listed_objects (held os)))))
        []
    by true rest = refl
    by false rest = rest

length_held : (os : List (ℕ × Object)) → length os ≡ length (listed_objects (held os))
length_held [] = refl
length_held (o ∷ os) = ap suc (length_held os)

pub length_listed : (os : List ConstObject) → length (listed_objects os) ≡ length os
length_listed [] = refl
length_listed (o ∷ os) = ap suc (length_listed os)

held_behind : (os : List (ℕ × Object)) (cs : List Cell) → objects_behind os cs ≡ objects_led_to (held os) cs
held_behind os cs =
    let find = cells_found (held os) in
    behind_same os find (held_found os) cs
    ∙ ap (λ k. listed_by find (reached_by find k (ascending (leads cs)))) (length_held os)
    ∙ sym (behind_same (listed_objects (held os)) find (found_same (held os)) cs)

-- ---- the objects that stand in a tree

pub statics_parts : (own : ℕ) (t : TypedNode) →
    (held (text_object (scope_in own) t (own_kind t)) ++ held (objects_of (mark_of t).value)) ++ statics_in_each own (kids_of t) ≡
    statics_in own t
statics_parts own (marked h m ts) =
    let text = text_object (scope_in own) (marked h m ts) h.kind in
    sym (held-append (text ++ objects_of m.value) (statics_of_each (scope_in own) ts)
    ∙ ap (λ l. l ++ statics_in_each own ts) (held-append text (objects_of m.value)))

statics_push : (own : ℕ) (ts : List TypedNode) (x : TypedNode) →
    statics_in_each own (typed_nodes (ts ++ x ∷ [])) ≡ statics_in_each own (typed_nodes ts) ++ statics_in own x
statics_push own [] x = held-append (statics (scope_in own) x) [] ∙ append-nil (statics_in own x)
statics_push own (t ∷ ts) x =
    held-append (statics (scope_in own) t) (statics_of_each (scope_in own) (typed_nodes (ts ++ x ∷ [])))
    ∙ ap (λ l. statics_in own t ++ l) (statics_push own ts x)
    ∙ sym (append_assoc (statics_in own t) (statics_in_each own (typed_nodes ts)) (statics_in own x))
    ∙ ap (λ l. l ++ statics_in own x) (sym (held-append (statics (scope_in own) t) (statics_of_each (scope_in own) (typed_nodes ts))))

-- those of one kid more
pub statics_more : (own : ℕ) (ts : List TypedNode) (i : ℕ) (x : TypedNode) (first before new : List ConstObject) → slice_get ts i ≡ Some x →
    before ≡ first ++ statics_in_each own (typed_nodes (take i ts)) → new ≡ before ++ statics_in own x →
    new ≡ first ++ statics_in_each own (typed_nodes (take (i + 1) ts))
statics_more own ts i x first before new e f g =
    g ∙ ap (λ l. l ++ statics_in own x) f
    ∙ append_assoc first (statics_in_each own (typed_nodes (take i ts))) (statics_in own x)
    ∙ ap (λ l. first ++ l) (sym (statics_push own (take i ts) x) ∙ ap (λ l. statics_in_each own (typed_nodes l)) (sym (take-get ts i x e)))

pub statics_all : (own : ℕ) (ts : List TypedNode) (i : ℕ) (first all : List ConstObject) → length ts ≤ i →
    all ≡ first ++ statics_in_each own (typed_nodes (take i ts)) → all ≡ first ++ statics_in_each own (typed_nodes ts)
statics_all own ts i first all h e = e ∙ ap (λ l. first ++ statics_in_each own (typed_nodes l)) (take_all i ts h)

-- one object more of a constant
pub listed_more : (os : List ConstObject) (i : ℕ) (o : ConstObject) (first before new : List ConstObject) → slice_get os i ≡ Some o →
    before ≡ first ++ take i os → new ≡ before ++ o ∷ [] → new ≡ first ++ take (i + 1) os
listed_more os i o first before new e f g =
    g ∙ ap (λ l. l ++ o ∷ []) f ∙ append_assoc first (take i os) (o ∷ []) ∙ ap (λ l. first ++ l) (sym (take-get os i o e))

pub listed_all : (os : List ConstObject) (i : ℕ) (first all : List ConstObject) → length os ≤ i → all ≡ first ++ take i os →
    all ≡ first ++ held (listed_objects os)
listed_all os i first all h e = e ∙ ap (λ l. first ++ l) (take_all i os h ∙ sym (held_listed os))

-- ---- the cells by the numbers

-- what is found among these, and else what was found
abbrev pub found_or : List ConstObject → ℕ → Option (List Cell) → Option (List Cell)
found_or [] n d = d
found_or (o ∷ os) n d = cond (nat_eq n o.object) (Some o.cells) (found_or os n d)

or_none : (os : List ConstObject) (n : ℕ) → found_or os n None ≡ cells_found os n
or_none [] n = refl
or_none (o ∷ os) n = by (nat_eq n o.object) (or_none os n)
  where
    by : (b : Bool) → found_or os n None ≡ cells_found os n →
        cond b (Some o.cells) (found_or os n None)
        ≡ option_map (λ x. x.cells) (cond b (Some (constant_object o.cells)) (lookup (nat_eq n) (listed_objects os)))
    by true rest = refl
    by false rest = rest

or_last : (os : List ConstObject) (o : ConstObject) (n : ℕ) (d : Option (List Cell)) →
    found_or (os ++ o ∷ []) n d ≡ found_or os n (cond (nat_eq n o.object) (Some o.cells) d)
or_last [] o n d = refl
or_last (p ∷ os) o n d = ap (λ x. cond (nat_eq n p.object) (Some p.cells) x) (or_last os o n d)

-- so many from the front are still to be put into the table
abbrev pub Tables : List ConstObject → List ConstObject → BTreeMap ℕ (List Cell) → Type 0
Tables whole os m = (n : ℕ) → found_or os n (get nat_cmp m n) ≡ cells_found whole n

pub tables_first : (os : List ConstObject) (m : BTreeMap ℕ (List Cell)) → m.entries ≡ [] → Tables os os m
tables_first os m e n = ap (λ es. found_or os n (lookup (is_at (nat_cmp n)) es)) e ∙ or_none os n

at_same : (n q : ℕ) → is_at (nat_cmp n) q ≡ nat_eq q n
at_same n q = by (cases_order n q)
  where
    by : (n ≡ q) ⊎ ((n < q) ⊎ (q < n)) → is_at (nat_cmp n) q ≡ nat_eq q n
    by (inl e) = ap is_eq (sym (nat_cmp_is n q Equal e)) ∙ sym (grind (arith, nat_tests))
    by (inr (inl l)) = ap is_eq (sym (nat_cmp_is n q Less l)) ∙ sym (grind (arith, nat_tests))
    by (inr (inr l)) = ap is_eq (sym (nat_cmp_is n q Greater l)) ∙ sym (grind (arith, nat_tests))

pub tables_more : (whole os rest : List ConstObject) (o : ConstObject) (m new : BTreeMap ℕ (List Cell)) → os ≡ rest ++ o ∷ [] →
    ((q : ℕ) → get nat_cmp new q ≡ cond (is_at (nat_cmp o.object) q) (Some o.cells) (get nat_cmp m q)) → Tables whole os m →
    Tables whole rest new
tables_more whole os rest o m new e f h n =
    ap (found_or rest n) (f n ∙ ap (λ b. cond b (Some o.cells) (get nat_cmp m n)) (at_same o.object n))
    ∙ sym (or_last rest o n (get nat_cmp m n)) ∙ ap (λ l. found_or l n (get nat_cmp m n)) (sym e) ∙ h n

none_left : (os : List ConstObject) → (0 < length os → IsSome {T = ConstObject} None) → os ≡ []
none_left [] h = refl
none_left (o ∷ os) h = let none : IsSome {T = ConstObject} None = h (omega arith) in absurd cc

pub tables_all : (whole os : List ConstObject) (m : BTreeMap ℕ (List Cell)) → (0 < length os → IsSome {T = ConstObject} None) →
    Tables whole os m →
    (n : ℕ) → get nat_cmp m n ≡ cells_found whole n
tables_all whole os m e h n = ap (λ l. found_or l n (get nat_cmp m n)) (sym (none_left os e)) ∙ h n

-- ---- what the table tells

pub led_by_table : (os : List ConstObject) (m : BTreeMap ℕ (List Cell)) (cs : List Cell) (count : ℕ) (numbers : List ℕ) →
    ((n : ℕ) → get nat_cmp m n ≡ cells_found os n) → count ≡ length os → numbers ≡ reached_by (get nat_cmp m) count (ascending (leads cs)) →
    listed_by (get nat_cmp m) numbers ≡ objects_led_to os cs
led_by_table os m cs count numbers h e f =
    ap (listed_by (get nat_cmp m)) (f ∙ ap (λ k. reached_by (get nat_cmp m) k (ascending (leads cs))) (e ∙ sym (length_listed os)))
    ∙ sym (behind_same (listed_objects os) (get nat_cmp m) (λ n. found_same os n ∙ ap (λ o. unwrap_or o []) (sym (h n))) cs)

-- ---- the constant

from_objects : (os : List ConstObject) (r : Result) (cs : List Cell) →
    ((ds : List Cell) → r.0 ≡ Value ds → held r.1.memory.objects.named ≡ os) → cells_in (folded_from r) ≡ Some cs →
    folded_from r ≡ constant.Known cs (objects_led_to os cs)
from_objects os (Value ds, st) cs m e =
    let same : ds ≡ cs = cc in
    ap₂ (λ xs l. constant.Known xs l) same
    (ap (objects_behind st.memory.objects.named) same ∙ held_behind st.memory.objects.named cs ∙ ap (λ l. objects_led_to l cs) (m ds refl))
from_objects os (_, st) cs m e = absurd cc

-- the constant with these cells
pub folded_known : (s : Store) → IsStore s → (own : ℕ) (t : TypedNode) (cs : List Cell) → IsSettled s t → IsCoherent s own t →
    cells_in (folded s own t) ≡ Some cs →
    folded s own t ≡ constant.Known cs (objects_led_to (objects_in (tagged_by_id s) own t) cs)
folded_known s v own t cs p c e = by (inconstant s own t) refl e
  where
    by : (o : Option TypedNode) → inconstant s own t ≡ o →
        cells_in (elim o [ None ↦ folded_from (constant_result (tagged_by_id s) own t) | Some u ↦ constant.Absent ]) ≡ Some cs →
        elim o [ None ↦ folded_from (constant_result (tagged_by_id s) own t) | Some u ↦ constant.Absent ]
        ≡ constant.Known cs (objects_led_to (objects_in (tagged_by_id s) own t) cs)
    by None q g =
        from_objects (objects_in (tagged_by_id s) own t) (constant_result (tagged_by_id s) own t) cs
        (λ ds. made_shown (tagged_by_id s) own t (constant_there s v own t p c q)
        (plain_from (tagged_by_id s) t (tagged_settled s v t p).simple)
        (coherent_stays s (tagged_by_id s) v (tagged_later s v) own t p.bases c) ds) g
    by (Some u) q g = absurd cc
