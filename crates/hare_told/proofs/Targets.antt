-- A kid that goes to a type at its parent's turn was asked for none before.
use Rattle.std.proofs.Common.{◌≡◌, ℕ, zero, suc, ◌+◌, ◌-◌, ◌<◌, ◌≤◌, Bool, true, false, not, ◌&&◌, List, [], ◌∷◌, length, take, drop, refl, ap, sym, ◌∙◌, arith, length-drop}
use Rattle.std.specs.Prelude.{nat_eq, is_some, is_none, cond, Option, Some, None}
use Rattle.hare_tree.specs.declared.kind.Kind.{Kind}
use Rattle.hare_tree.specs.declared.kind.Kind.TheVariants as ki
use Rattle.hare_tree.specs.Node.{Nodes, more}
use Rattle.hare_tree.specs.Shape.{is_none as is_left_out}
use Rattle.std.specs.Cmp.{unsigned_Decides}
use Rattle.hare_types.specs.Store.{Store}
use Rattle.hare_typed.specs.Typed.{TypedNode, marked, typed_nodes}
use Rattle.hare_typed.specs.Erased.{erase, erase_each}
use Rattle.hare_typed.specs.Order.{tree_from_front}
use Rattle.hare_typed.specs.Numbers.{kind_of}
use Rattle.hare_rules.specs.declared.hint.Hint.{Hint}
use Rattle.hare_rules.specs.declared.hint.Hint.TheVariants as hint
use Rattle.hare_rules.specs.Context.{Context, Given, store_of, kid, is_there}
use Rattle.hare_rules.specs.Aggregates.{but_last, hinted_components, hinted_element, tuple_items, has_capacity}
use Rattle.hare_rules.specs.Above.{hint_of, unless_bare, is_bare_part, hint_to, next_kind, count_of, component_at, by_place, hint_id, object_hint, written_hint, then_hint, first, declared_hint, item_hint_by, allocated_hint}
use Rattle.hare_rules.specs.Control.{type_kid_of, branches, case_values}
use Rattle.hare_rules.specs.Settles.{target_of, only_where, joined_target, binding_target, case_target}
use Rattle.hare_rules.specs.Judged.{is_type_hint, hands_on, was_hinted}

-- ---- conditions

where_true : {A : Type 0} (b : Bool) (o : Option A) (x : A) → only_where b o ≡ Some x → b ≡ true
where_true true o x e = refl
where_true false o x e = cc

where_some : {A : Type 0} (b : Bool) (o : Option A) (x : A) → only_where b o ≡ Some x → o ≡ Some x
where_some true o x e = e
where_some false o x e = cc

and_first : (a b : Bool) → a && b ≡ true → a ≡ true
and_first true b e = refl
and_first false b e = cc

and_second : (a b : Bool) → a && b ≡ true → b ≡ true
and_second true b e = e
and_second false b e = cc

not_true : (b : Bool) → not b ≡ true → b ≡ false
not_true true e = cc
not_true false e = refl

none_of : {A : Type 0} (o : Option A) → is_some o ≡ false → o ≡ None
none_of None e = refl
none_of (Some x) e = cc

none_is : {A : Type 0} (o : Option A) → is_none o ≡ true → o ≡ None
none_is None e = refl
none_is (Some x) e = cc

-- ---- hints

unasked-bare : (k : Kind) (h : Hint) → is_type_hint h ≡ false → is_type_hint (unless_bare k h) ≡ false
unasked-bare k h e = by_part (is_bare_part k) where
  by_part : (b : Bool) → is_type_hint (cond b hint.None h) ≡ false
  by_part true = refl
  by_part false = e

unasked-none : (o : Option ℕ) → o ≡ None → is_type_hint (hint_to o) ≡ false
unasked-none o e = rw e refl

unasked-id : (h : Hint) → hint_id h ≡ None → is_type_hint h ≡ false
unasked-id (hint.Of t) e = cc
unasked-id hint.Drop e = refl
unasked-id hint.None e = refl

unasked-written : (x : TypedNode) → is_there x ≡ false → is_type_hint (written_hint x) ≡ false
unasked-written x e = rw e refl

-- values are joined at a node's turn only where nothing is asked of it
unasked-joined : (s : Store) (h : Hint) (vs : List Given) (t : ℕ) → joined_target s h vs ≡ Some t → h ≡ hint.None
unasked-joined s hint.None vs t e = refl
unasked-joined s hint.Drop vs t e = cc
unasked-joined s (hint.Of u) vs t e = cc

-- ---- places of kids

abbrev rest : Context → ℕ → Nodes
rest c i = erase_each (typed_nodes (drop (suc i) c.kids))

-- what a kid of this kind is asked for by a node of this kind
abbrev asked_as : Kind → Context → ℕ → Hint
asked_as k c i =
    hint_of c.setting c.head c.hint hint.None c.inside.labels c.inside.result (take i c.kids) (erase (kid c i)) (rest c i) k

count_of-erase_each : (xs : List TypedNode) → count_of (erase_each (typed_nodes xs)) ≡ length xs
count_of-erase_each [] = refl
count_of-erase_each (x ∷ xs) = ap suc (count_of-erase_each xs)

length-but_last : {A : Type 0} (xs : List A) → length (but_last xs) ≡ length xs - 1
length-but_last [] = refl
length-but_last (x ∷ []) = refl
length-but_last (x ∷ y ∷ ys) = let e = length-but_last (y ∷ ys) in omega (arith, e)

length-take_within : {A : Type 0} (xs : List A) (i : ℕ) → i ≤ length xs → length (take i xs) ≡ i
length-take_within [] zero h = refl
length-take_within [] (suc i) h = absurd (omega arith)
length-take_within (x ∷ xs) zero h = refl
length-take_within (x ∷ xs) (suc i) h = ap suc (length-take_within xs i (omega arith))

kind_of-erase : (x : TypedNode) (ts : Nodes) → next_kind (more (erase x) ts) ≡ kind_of x
kind_of-erase (marked h m us) ts = refl

next_kind-second : (xs : List TypedNode) → next_kind (erase_each (typed_nodes (drop 1 xs))) ≡ kind_of (tree_from_front 1 xs)
next_kind-second [] = refl
next_kind-second (x ∷ []) = refl
next_kind-second (x ∷ y ∷ ys) = kind_of-erase y (erase_each (typed_nodes ys))

at_place : (n m : ℕ) → nat_eq n m ≡ true → n ≡ m
at_place n m e = (unsigned_Decides n m).0 e

-- ---- by kinds

tuple_unasked : (c : Context) (i t : ℕ) → i < length c.kids → target_of c ki.Tuple i ≡ Some t → is_type_hint (asked_as ki.Tuple c i) ≡ false
tuple_unasked c i t l e =
    let h : hinted_components (store_of c) c.hint (length (tuple_items c)) ≡ None =
    none_of _ (not_true _ (and_first _ _ (where_true _ _ _ e))) in
    let n : (length (take i c.kids) + suc (count_of (rest c i))) - 1 ≡ length (tuple_items c) =
    omega (
      arith,
      l,
      length-take_within c.kids i (omega (arith, l)),
      count_of-erase_each (drop (suc i) c.kids),
      length-drop
          (suc i) c.kids,
      length-but_last c.kids,
    ) in
    ap (λ m. is_type_hint (hint_to (component_at (hinted_components (store_of c) c.hint m) (length (take i c.kids))))) n
    ∙ ap (λ o. is_type_hint (hint_to (component_at o (length (take i c.kids))))) h

array_unasked : (c : Context) (i t : ℕ) → target_of c ki.Array i ≡ Some t → is_type_hint (asked_as ki.Array c i) ≡ false
array_unasked c zero t e =
    let h : hinted_element (store_of c) c.hint ≡ None = none_is _ (and_second _ _ (where_true _ _ _ e)) in
    ap (λ o. is_type_hint (item_hint_by c.setting o [])) h
array_unasked c (suc i) t e = let n : suc i ≡ 0 =
    at_place (suc i) 0 (and_first _ _ (and_first _ _ (where_true _ _ _ e))) in absurd (omega (arith, n))

alloc_unasked : (c : Context) (i t : ℕ) → target_of c ki.Alloc i ≡ Some t → is_type_hint (asked_as ki.Alloc c i) ≡ false
alloc_unasked c zero t e =
    let b = where_true _ _ _ e in
    let h : hint_id (object_hint c.setting c.hint) ≡ None = none_is _ (and_second _ _ b) in
    let d = and_first (nat_eq 0 0 && not (has_capacity c)) (is_none (hint_id (object_hint c.setting c.hint))) b in
    let k : has_capacity c ≡ false = not_true (has_capacity c) (and_second (nat_eq 0 0) (not (has_capacity c)) d) in
    let p : not (is_left_out (next_kind (rest c 0))) ≡ has_capacity c = ap (λ x. not (is_left_out x)) (next_kind-second c.kids) in
    ap (λ x. is_type_hint (allocated_hint c.setting c.hint x)) (p ∙ k) ∙ unasked-id (object_hint c.setting c.hint) h
alloc_unasked c (suc i) t e = let n : suc i ≡ 0 =
    at_place (suc i) 0 (and_first _ _ (and_first _ _ (where_true _ _ _ e))) in absurd (omega (arith, n))

let_hint : (xs : List TypedNode) → 1 < length xs → is_there (tree_from_front 0 xs) ≡ false →
    is_type_hint (by_place (length (take 1 xs)) (hint.None ∷ written_hint (first (take 1 xs)) ∷ []) hint.None) ≡ false
let_hint [] l e = absurd (omega arith)
let_hint (x ∷ xs) l e = unasked-written x e

def_hint : (xs : List TypedNode) → 3 < length xs → is_there (tree_from_front 2 xs) ≡ false →
    is_type_hint (declared_hint (take 3 xs)) ≡ false
def_hint [] l e = absurd (omega arith)
def_hint (x ∷ []) l e = absurd (omega arith)
def_hint (x ∷ y ∷ []) l e = absurd (omega arith)
def_hint (x ∷ y ∷ z ∷ zs) l e = unasked-written z e

-- the value of a binding, behind a written type that is left out
record IsValue (c : Context) (n i : ℕ) : Type 0 where
  at : i ≡ suc n
  unwritten : is_there (kid c n) ≡ false

value_of_binding : (c : Context) (n i t : ℕ) → type_kid_of c.head.kind ≡ n → binding_target c i ≡ Some t → IsValue c n i
value_of_binding c n i t e h =
    let b = where_true _ _ _ h in
    record {
      at = at_place i (suc (type_kid_of c.head.kind)) (and_first _ _ b) ∙ ap suc e;
      unwritten = ap (λ m. is_there (kid c m)) (sym e) ∙ not_true _ (and_second _ _ b);
    }

let_unasked : (c : Context) (i : ℕ) → IsValue c 0 i → i < length c.kids →
    is_type_hint (by_place (length (take i c.kids)) (hint.None ∷ written_hint (first (take i c.kids)) ∷ []) hint.None) ≡ false
let_unasked c i v l =
    let e = v.at in
    let n : 1 < length c.kids = omega (arith, l, e) in
    ap (λ m. is_type_hint (by_place (length (take m c.kids)) (hint.None ∷ written_hint (first (take m c.kids)) ∷ []) hint.None)) e
    ∙ let_hint c.kids n v.unwritten

def_unasked : (c : Context) (i : ℕ) → IsValue c 2 i → i < length c.kids → is_type_hint (declared_hint (take i c.kids)) ≡ false
def_unasked c i v l =
    let e = v.at in
    let n : 3 < length c.kids = omega (arith, l, e) in
    ap (λ m. is_type_hint (declared_hint (take m c.kids))) e ∙ def_hint c.kids n v.unwritten

then_unasked : (h : Hint) (r : Nodes) → h ≡ hint.None → is_type_hint (then_hint h r) ≡ false
then_unasked h r e = rw e (by_else (is_left_out (next_kind r))) where
  by_else : (b : Bool) → is_type_hint (cond b hint.Drop hint.None) ≡ false
  by_else true = refl
  by_else false = refl

if_hint : (n m : ℕ) (b h : Hint) (r : Nodes) → n ≡ suc m → h ≡ hint.None → is_type_hint (by_place n (b ∷ then_hint h r ∷ []) h) ≡ false
if_hint n m b h r e d = ap (λ x. is_type_hint (by_place x (b ∷ then_hint h r ∷ []) h)) e ∙ by_place_behind m where
  by_place_behind : (k : ℕ) → is_type_hint (by_place (suc k) (b ∷ then_hint h r ∷ []) h) ≡ false
  by_place_behind zero = then_unasked h r d
  by_place_behind (suc k) = ap is_type_hint d

if_unasked : (c : Context) (i t : ℕ) → i < length c.kids → target_of c ki.If i ≡ Some t → is_type_hint (asked_as ki.If c i) ≡ false
if_unasked c zero t l e = cc
if_unasked c (suc i) t l e =
    let m : suc i ≤ length c.kids = omega (arith, l) in
    let n = length-take_within c.kids (suc i) m in
    let h = unasked-joined (store_of c) c.hint (branches c) t (where_some _ _ _ e) in
    if_hint (length (take (suc i) c.kids)) i _ c.hint (rest c (suc i)) n h

case_hint : (n : ℕ) (h : Hint) → h ≡ hint.None → is_type_hint (by_place n (hint.None ∷ []) h) ≡ false
case_hint zero h e = refl
case_hint (suc n) h e = ap is_type_hint e

case_unasked : (c : Context) (i t : ℕ) → case_target c i ≡ Some t →
    is_type_hint (by_place (length (take i c.kids)) (hint.None ∷ []) c.hint) ≡ false
case_unasked c i t e = case_hint (length (take i c.kids)) c.hint (unasked-joined (store_of c) c.hint (case_values c) t (where_some _ _ _ e))

switch_unasked : (c : Context) (i t : ℕ) → target_of c ki.Switch i ≡ Some t → is_type_hint (asked_as ki.Switch c i) ≡ false
switch_unasked c zero t e = refl
switch_unasked c (suc i) t e = case_unasked c (suc i) t e

unasked_by : (k : Kind) (c : Context) (i t : ℕ) → c.head.kind ≡ k → i < length c.kids → target_of c k i ≡ Some t →
    is_type_hint (asked_as k c i) ≡ false
unasked_by ki.Arith c i t n l e = refl
unasked_by ki.Less c i t n l e = refl
unasked_by ki.Equal c i t n l e = refl
unasked_by ki.Shift c i t n l e = refl
unasked_by ki.OpAssign c i t n l e = refl
unasked_by ki.Cast c i t n l e = refl
unasked_by ki.Tuple c i t n l e = tuple_unasked c i t l e
unasked_by ki.Array c i t n l e = array_unasked c i t e
unasked_by ki.Alloc c i t n l e = alloc_unasked c i t e
unasked_by ki.Let c i t n l e = let_unasked c i (value_of_binding c 0 i t (ap type_kid_of n) e) l
unasked_by ki.Const c i t n l e = let_unasked c i (value_of_binding c 0 i t (ap type_kid_of n) e) l
unasked_by ki.Def c i t n l e = def_unasked c i (value_of_binding c 2 i t (ap type_kid_of n) e) l
unasked_by ki.GlobalLet c i t n l e = def_unasked c i (value_of_binding c 2 i t (ap type_kid_of n) e) l
unasked_by ki.GlobalConst c i t n l e = def_unasked c i (value_of_binding c 2 i t (ap type_kid_of n) e) l
unasked_by ki.If c i t n l e = if_unasked c i t l e
unasked_by ki.Match c i t n l e = case_unasked c i t e
unasked_by ki.Switch c i t n l e = switch_unasked c i t e
unasked_by _ c i t n l e = cc

-- a kid that goes to a type at the node's turn was asked for none, where it hands nothing on
pub target_unhinted : (c : Context) (i t : ℕ) → i < length c.kids → hands_on (kind_of (kid c i)) ≡ false →
    target_of c c.head.kind i ≡ Some t → was_hinted c i ≡ false
target_unhinted c i t l h e =
    rw (h, unasked-bare (kind_of (kid c i)) (asked_as c.head.kind c i) (unasked_by c.head.kind c i t refl l e)) refl
