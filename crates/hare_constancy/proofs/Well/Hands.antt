-- Behind a node's turn each node of the tree in hand meets its rows, in the context that it had at its own turn.
use Rattle.std.proofs.Common.{◌≡◌, ◌∙◌, sym, ap, subst, refl, ℕ, zero, suc, ◌+◌, ◌≤◌, Bool, true, false, not, ◌||◌, List, [], ◌∷◌, ◌++◌, map, length, arith, Option, Some, None}
use Rattle.std.specs.Prelude.{cond, nat_eq, is_some, option_and_then}
use Rattle.std.proofs.lemmas.Bool.{eqb-true}
use Rattle.std.proofs.lemmas.List.{length-append}
use Rattle.hare_tree.specs.declared.kind.Kind.{Kind}
use Rattle.hare_tree.specs.declared.kind.Kind.TheVariants as kind
use Rattle.hare_tree.specs.declared.token.Meaning.TheVariants as meant
use Rattle.hare_tree.specs.Node.{Head, Node, Nodes}
use Rattle.hare_types.specs.declared.coercion.Ty.{Ty}
use Rattle.hare_types.specs.declared.coercion.Coercion.{Coercion}
use Rattle.hare_typed.specs.Typed.{TypedNode, TypedNodes, Mark, marked, typed_none, typed_more, typed_nodes, listed_nodes}
use Rattle.hare_typed.specs.Coats.{coat, with_coercion}
use Rattle.hare_typed.specs.Erased.{erase, erase_each}
use Rattle.hare_typed.specs.Given.{given}
use Rattle.hare_typed.specs.Numbers.{kind_of}
use Rattle.hare_typed.specs.Order.{tree_from_front}
use Rattle.hare_typed.specs.Constants.{own_kind}
use Rattle.hare_typed.specs.ConstantForms.{own_type}
use Rattle.hare_rules.specs.declared.row_id.RowId.TheVariants as rules
use Rattle.hare_rules.specs.declared.hint.Hint.{Hint}
use Rattle.hare_rules.specs.declared.hint.Hint.TheVariants as hint
use Rattle.hare_rules.specs.Above.{Above, is_bare_part, unless_bare, hint_of, over_kid, role_where, declared_role, role_of}
use Rattle.hare_rules.specs.Aggregates.{is_path}
use Rattle.hare_rules.specs.Constants.{unless_long, length_by}
use Rattle.hare_rules.specs.Context.{Setting, Context, Open, Role, Ordinary, Callee, Length, BindingType, CaseValue, DeclaredValue, store_of, kid, declaration}
use Rattle.hare_rules.specs.Finished.{bare, bare_each, behind, behind_each, Carries, AllCarry, EachCarries}
use Rattle.hare_rules.specs.Flow.{Flow, count, meaning_of, path_meaning, flow_before, context, own_settled, settled_type}
use Rattle.hare_rules.specs.Operators.{type_of_declaration, path_type}
use Rattle.hare_rules.specs.Rows.{is_judged}
use Rattle.hare_rules.specs.Settles.{same, to_type, own_coercion, target_of, kid_coercion, settled_kid, settled_from, settled_kids}
use Rattle.hare_rules.specs.Types.{type_by, type_in_role}
use Rattle.hare_rules.specs.Values.{value_as, value_by_type, value_of_path, value_of_meaning}
use Rattle.hare_inference.specs.Hands.{IsBelow, AreBelow}
use Rattle.hare_inference.proofs.Orders.{count-flow_before, count-behind}
use Rattle.hare_inference.proofs.Hands.{coats-behind, coercions-before, below-behind, below-more}
use Rattle.hare_inference.proofs.Turns.{turns_settle}
use Rattle.hare_constancy.specs.Met.{is_number, is_in_role, shown, GoesTo, asks_nothing}
use Rattle.hare_constancy.specs.Traced.{takes_texts, hands_texts, IsNamed, IsTracedNode, IsTraced, AreTraced}
use Rattle.hare_constancy.proofs.Judged.{row_holds, stands_alone}

-- ---- the trees in hand

-- the tree in hand, when its turn is over
abbrev pub hand : Setting → Above → TypedNode → Flow → TypedNode
hand w a t f = coat (behind w a t f).coercions (bare t)

mutual
  below-bare : (n : ℕ) (t : TypedNode) → IsBelow n t → IsBelow n (bare t)
  below-bare n (marked h m ts) b = (b.0, below_each-bare n ts b.1)

  below_each-bare : (n : ℕ) (ts : TypedNodes) → AreBelow n ts → AreBelow n (typed_nodes (bare_each ts))
  below_each-bare n typed_none b = tt
  below_each-bare n (typed_more t ts) b = (below-bare n t b.0, below_each-bare n ts b.1)

-- while the kids behind it are judged, a tree in hand stays
coat-behind_each : (w : Setting) (a : Above) (h : Head) (xs : List TypedNode) (ts : TypedNodes) (f : Flow) (u : TypedNode) →
    EachCarries w a h xs ts f → IsBelow (count f) u → coat (behind_each w a h xs ts f).coercions u ≡ coat f.coercions u
coat-behind_each w a h xs typed_none f u k b = refl
coat-behind_each w a h xs (typed_more t ts) f u k b =
    let o = over_kid w a h xs (erase t) (erase_each ts) in
    let g = flow_before w a h xs f in
    let e : count g ≡ count f = count-flow_before w a h xs f in
    let p : IsBelow (count g) u = subst (λ (n : ℕ). IsBelow n u) (sym e) b in
    let l : count g ≤ count (behind w o t g) = omega (arith, count-behind w o t g) in
    coat-behind_each w a h (xs ++ bare t ∷ []) ts (behind w o t g) u k.1 (below-more (count g) (count (behind w o t g)) u l p)
    ∙ coats-behind w o t g u k.0 p
    ∙ ap (λ (cs : List Coercion). coat cs u) (coercions-before w a h xs f)

listed_nodes-typed_nodes : (xs : List TypedNode) → listed_nodes (typed_nodes xs) ≡ xs
listed_nodes-typed_nodes [] = refl
listed_nodes-typed_nodes (x ∷ xs) = ap (λ ys. x ∷ ys) (listed_nodes-typed_nodes xs)

-- ---- roles

where-fits : (b : Bool) (r : Role) (k : Kind) → is_in_role r k ≡ true → is_in_role (role_where b r) k ≡ true
where-fits true r k e = e
where-fits false r k e = refl

declared-fits : (i : ℕ) (k : Kind) → is_in_role (declared_role i) k ≡ true
declared-fits i k = by (nat_eq i 2) (where-fits (nat_eq i 3) DeclaredValue k refl)
  where
    by : (b : Bool) → is_in_role (role_where (nat_eq i 3) DeclaredValue) k ≡ true →
        is_in_role (cond b BindingType (role_where (nat_eq i 3) DeclaredValue)) k ≡ true
    by true e = refl
    by false e = e

called-fits : (i : ℕ) (k : Kind) → is_in_role (role_of kind.Call i k) k ≡ true
called-fits i kind.Path = where-fits (nat_eq i 0) Callee kind.Path refl
called-fits i _ = refl

length-fits : (i : ℕ) (k : Kind) → (i ≡ 0 → (is_path k || is_number k) ≡ true) → is_in_role (role_of kind.TypeArray i k) k ≡ true
length-fits i k f = by (nat_eq i 0) refl
  where
    by : (b : Bool) → nat_eq i 0 ≡ b → is_in_role (role_where b Length) k ≡ true
    by true e = f (eqb-true i 0 e)
    by false e = refl

-- a kid stands in its role, where the first kid of the type of an array is a length
role-fits : (k : Kind) (i : ℕ) (q : Kind) → (k ≡ kind.TypeArray → i ≡ 0 → (is_path q || is_number q) ≡ true) →
    is_in_role (role_of k i q) q ≡ true
role-fits kind.Call i q f = called-fits i q
role-fits kind.Let i q f = where-fits (nat_eq i 0) BindingType q refl
role-fits kind.Const i q f = where-fits (nat_eq i 0) BindingType q refl
role-fits kind.Def i q f = declared-fits i q
role-fits kind.GlobalLet i q f = declared-fits i q
role-fits kind.GlobalConst i q f = declared-fits i q
role-fits kind.Values i q f = where-fits (not (is_bare_part q)) CaseValue q refl
role-fits kind.TypeArray i q f = length-fits i q (f refl)
role-fits _ i q f = refl

length-kind : (w : Setting) (k : Kind) (x : TypedNode) → is_some (option_and_then unless_long (length_by w k x)) ≡ true →
    (is_path k || is_number k) ≡ true
length-kind w kind.Number x e = refl
length-kind w kind.Path x e = refl
length-kind w _ x e = absurd cc

-- the first of the kids is a length, where there is one
abbrev FirstIsLength : List TypedNode → TypedNodes → Type 0
FirstIsLength xs typed_none = Unit {0}
FirstIsLength xs (typed_more t ts) = length xs ≡ 0 → (is_path (own_kind t) || is_number (own_kind t)) ≡ true

pub first-length : (w : Setting) (a : Above) (h : Head) (m : Mark) (ts : TypedNodes) (f : Flow) → AllCarry w a (marked h m ts) f →
    is_in_role a.inside.role h.kind ≡ true → h.kind ≡ kind.TypeArray → FirstIsLength [] ts
first-length w a h m typed_none f k r e = tt
first-length w a h m (typed_more (marked q n us) ts) f k r e =
    let g = behind_each w a h [] (typed_more (marked q n us) ts) f in
    let c = context w a h (bare_each (typed_more (marked q n us) ts)) g in
    let s = stands_alone c kind.TypeArray e (subst (λ (x : Kind). is_in_role a.inside.role x ≡ true) e r) refl refl k.1.rows in
    let row = (row_holds c rules.ArrayLength (rules.ArrayElementSized ∷ rules.ArrayTypeSmall ∷ rules.Bound ∷ []) s.rows).0 in
    λ z. length-kind w q.kind (kid c 0) row

-- ---- hints

unless-none : (k : Kind) (g : Hint) → g ≡ hint.None → unless_bare k g ≡ hint.None
unless-none k g e = by (is_bare_part k)
  where
    by : (b : Bool) → cond b hint.None g ≡ hint.None
    by true = refl
    by false = e

module _ (w : Setting) (h : Head) (own values : Hint) (labels : List Open) (result : ℕ) (xs : List TypedNode) (t : Node) (rest : Nodes) where
  nothing-asked : (k : Kind) → asks_nothing k ≡ true → hint_of w h own values labels result xs t rest k ≡ hint.None
  nothing-asked kind.Neg e = refl
  nothing-asked kind.Not e = refl
  nothing-asked kind.Arith e = refl
  nothing-asked kind.Shift e = refl
  nothing-asked kind.Size e = refl
  nothing-asked kind.Align e = refl
  nothing-asked _ e = absurd cc

  no-type-asked : (k : Kind) → takes_texts k ≡ true → hint_of w h own values labels result xs t rest k ≡ hint.None
  no-type-asked kind.Equal e = refl
  no-type-asked kind.Cast e = refl
  no-type-asked _ e = absurd cc

own-unasked : (c : Context) (a : Ty) → c.hint ≡ hint.None → (own_settled c a).to ≡ a
own-unasked c a e = by (is_judged c)
  where
    by : (b : Bool) → (cond b (own_coercion (store_of c) c.hint a) (same a)).to ≡ a
    by true = ap (λ (g : Hint). (own_coercion (store_of c) g a).to) e
    by false = refl

own-goes : (c : Context) (a : Ty) → GoesTo (store_of c) a (own_settled c a)
own-goes c a = by (is_judged c) c.hint
  where
    by : (b : Bool) (g : Hint) → GoesTo (store_of c) a (cond b (own_coercion (store_of c) g a) (same a))
    by true (hint.Of t) = (Some t, refl)
    by true hint.Drop = (None, refl)
    by true hint.None = (None, refl)
    by false g = (None, refl)

-- ---- paths

path-kind : (k : Kind) → is_path k ≡ true → k ≡ kind.Path
path-kind kind.Path e = refl
path-kind _ e = absurd cc

ordinary-role : (k : Kind) (i : ℕ) (q : Kind) → hands_texts k ≡ true → role_of k i q ≡ Ordinary
ordinary-role kind.Equal i q e = refl
ordinary-role kind.Cast i q e = refl
ordinary-role kind.Paren i q e = refl
ordinary-role _ i q e = absurd cc

module _ (c : Context) (m : Mark) (k : Carries c m) (r : c.inside.role ≡ Ordinary) (p : c.head.kind ≡ kind.Path) where
  carried-value : m.value ≡ value_of_meaning c.setting c.meaning
  carried-value =
      k.value
      ∙ ap (value_by_type c) k.type
      ∙ ap (λ (o : Role). value_as c o m.ty) r
      ∙ ap (value_of_path c) p

  carried-type : (d : ℕ) → c.meaning ≡ meant.Decl d → type_of_declaration c.setting (declaration c.setting d) d ≡ Some m.ty
  carried-type d e =
      sym (ap (type_in_role c) r ∙ ap (type_by c) p ∙ ap (path_type c) e) ∙ k.type

-- ---- the kids of a node of this kind

pub record IsKidOf (w : Setting) (k : Kind) (x : TypedNode) : Type 0 where
  pub traced : IsTraced w x
  pub unasked : asks_nothing k ≡ true → given x ≡ own_type x
  pub alone : takes_texts k ≡ true → given x ≡ own_type x
  pub named : hands_texts k ≡ true → is_path (kind_of x) ≡ true → IsNamed w x

abbrev AreKidsOf : Setting → Kind → List TypedNode → Type 0
AreKidsOf w k [] = Unit {0}
AreKidsOf w k (x ∷ xs) = IsKidOf w k x × AreKidsOf w k xs

module _ (w : Setting) (k : Kind) where
  front-unasked : (xs : List TypedNode) → AreKidsOf w k xs → asks_nothing k ≡ true → (i : ℕ) →
      given (tree_from_front i xs) ≡ own_type (tree_from_front i xs)
  front-unasked [] q e i = refl
  front-unasked (x ∷ xs) q e zero = q.0.unasked e
  front-unasked (x ∷ xs) q e (suc i) = front-unasked xs q.1 e i

  front-alone : (xs : List TypedNode) → AreKidsOf w k xs → takes_texts k ≡ true → (i : ℕ) →
      given (tree_from_front i xs) ≡ own_type (tree_from_front i xs)
  front-alone [] q e i = refl
  front-alone (x ∷ xs) q e zero = q.0.alone e
  front-alone (x ∷ xs) q e (suc i) = front-alone xs q.1 e i

  front-named : (xs : List TypedNode) → AreKidsOf w k xs → hands_texts k ≡ true → (i : ℕ) →
      is_path (kind_of (tree_from_front i xs)) ≡ true → IsNamed w (tree_from_front i xs)
  front-named [] q e i p = absurd cc
  front-named (x ∷ xs) q e zero p = q.0.named e p
  front-named (x ∷ xs) q e (suc i) p = front-named xs q.1 e i p

-- ---- a tree with another coercion at its root

recoerced-node : (c : Context) (h : Head) (m : Mark) (ts : TypedNodes) (r : Coercion) → IsTracedNode c (marked h m ts) →
    GoesTo (store_of c) m.ty r → IsTracedNode c (marked h (record m { coerce = r }) ts)
recoerced-node c h m ts r q g =
    record {
      judged = record {
        head = q.judged.head;
        role = q.judged.role;
        rows = q.judged.rows;
        type = q.judged.type;
        kids = q.judged.kids;
        goes = g;
        unasked = q.judged.unasked;
      };
      alone = q.alone;
      named = q.named;
    }

pub recoerced : (w : Setting) (t : TypedNode) (r : Coercion) → IsTraced w t → GoesTo w.store (own_type t) r → IsTraced w (with_coercion r t)
recoerced w (marked h m ts) r p g =
    let there = ap (λ (x : Setting). x.store) (sym p.0.1) in
    ((p.0.0, p.0.1, recoerced-node p.0.0 h m ts r p.0.2 (subst (λ s. GoesTo s m.ty r) there g)), p.1)

settled-goes : (w : Setting) (c : Context) (i : ℕ) (x : TypedNode) → c.setting ≡ w → own_type (kid c i) ≡ own_type x →
    GoesTo w.store (own_type x) (kid_coercion c i)
settled-goes w c i x e s =
    let o = target_of c c.head.kind i in
    (o, ap (λ (a : Ty). to_type (store_of c) a o) s ∙ ap (λ (v : Setting). to_type v.store (own_type x) o) e)

settled-one : (w : Setting) (c : Context) (i : ℕ) (o : Option ℕ) (x : TypedNode) → c.setting ≡ w → own_type (kid c i) ≡ own_type x →
    IsTraced w x → IsTraced w (settled_kid c i o x)
settled-one w c i None x e s p = p
settled-one w c i (Some u) x e s p = recoerced w x (kid_coercion c i) p (settled-goes w c i x e s)

-- the kids behind the turn of the node of this context
settled-traced : (w : Setting) (c : Context) (k : Kind) (i : ℕ) (xs : List TypedNode) → c.setting ≡ w →
    ((j : ℕ) → own_type (kid c (i + j)) ≡ own_type (tree_from_front j xs)) → AreKidsOf w k xs → AreTraced w (typed_nodes (settled_from c i xs))
settled-traced w c k i [] e s q = tt
settled-traced w c k i (x ∷ xs) e s q =
    let n : i + 0 ≡ i = omega arith in
    let own : own_type (kid c i) ≡ own_type x = ap (λ (j : ℕ). own_type (kid c j)) (sym n) ∙ s 0 in
    let rest : (j : ℕ) → own_type (kid c (suc i + j)) ≡ own_type (tree_from_front j xs) =
    λ j. (let m : suc i + j ≡ i + suc j = omega arith in ap (λ (l : ℕ). own_type (kid c l)) m ∙ s (suc j)) in
    (settled-one w c i (target_of c c.head.kind i) x e own q.0.traced, settled-traced w c k (suc i) xs e rest q.1)

-- ---- a node's turn

module _ (w : Setting) (a : Above) (h : Head) (m : Mark) (ts : TypedNodes) (f : Flow) (k : AllCarry w a (marked h m ts) f) where
  abbrev c : Context
  c = context w a h (bare_each ts) (behind_each w a h [] ts f)

  pub kids-traced : AreKidsOf w h.kind c.kids → AreTraced w (typed_nodes (settled_kids c))
  kids-traced q = settled-traced w c h.kind 0 c.kids refl (λ j. (let n : 0 + j ≡ j = omega arith in ap (λ (l : ℕ). own_type (kid c l)) n)) q

  -- the node over its kids behind its turn, with any coercion that it may have
  pub node-traced : is_in_role a.inside.role h.kind ≡ true → AreKidsOf w h.kind c.kids → (n : Mark) → n.ty ≡ m.ty →
      GoesTo w.store n.ty n.coerce → IsTracedNode c (marked h n (typed_nodes (settled_kids c)))
  node-traced r q n e g =
      record {
        judged = record {
          head = refl;
          role = r;
          rows = k.1.rows;
          type = k.1.type ∙ ap (λ (b : Ty). Some b) (sym e);
          kids = λ y. ap (map shown) (listed_nodes-typed_nodes (settled_kids c));
          goes = g;
          unasked = λ i y. front-unasked w h.kind c.kids q y i;
        };
        alone = λ i y. front-alone w h.kind c.kids q y i;
        named = λ i y p. front-named w h.kind c.kids q y i p;
      }

-- what the tree in hand gives is what its own turn settled
hand-given : (w : Setting) (a : Above) (t : TypedNode) (f : Flow) → AllCarry w a t f → a.hint ≡ hint.None →
    given (hand w a t f) ≡ own_type (hand w a t f)
hand-given w a (marked h m ts) f k e =
    let c = context w a h (bare_each ts) (behind_each w a h [] ts f) in
    ap given (turns_settle w a h m ts f k) ∙ own-unasked c m.ty e

path-means : (w : Setting) (h : Head) (xs : List TypedNode) (k : Kind) → k ≡ kind.Path → path_meaning w h k xs ≡ meaning_of w h
path-means w h xs kind.Path e = refl
path-means w h xs _ e = absurd cc

hand-named : (w : Setting) (a : Above) (t : TypedNode) (f : Flow) → AllCarry w a t f → a.inside.role ≡ Ordinary →
    is_path (kind_of (hand w a t f)) ≡ true → IsNamed w (hand w a t f)
hand-named w a (marked h m ts) f k r p =
    let c = context w a h (bare_each ts) (behind_each w a h [] ts f) in
    let e : h.kind ≡ kind.Path = path-kind h.kind p in
    let meaning : c.meaning ≡ m.meaning = path-means w h (bare_each ts) h.kind e ∙ sym k.1.meaning in
    record {
      value = carried-value c m k.1 r e ∙ ap (value_of_meaning w) meaning;
      type = λ d g. carried-type c m k.1 r e d (meaning ∙ g);
    }

-- a kid of a node, when its turn is over
kid-in_hand : (w : Setting) (a : Above) (h : Head) (xs : List TypedNode) (t : TypedNode) (rest : Nodes) (f : Flow) →
    AllCarry w (over_kid w a h xs (erase t) rest) t f → IsTraced w (hand w (over_kid w a h xs (erase t) rest) t f) →
    IsKidOf w h.kind (hand w (over_kid w a h xs (erase t) rest) t f)
kid-in_hand w a h xs (marked q n us) rest f k p =
    let t = marked q n us in
    let o = over_kid w a h xs (erase t) rest in
    let none : hint_of w h a.hint a.values a.inside.labels a.inside.result xs (erase t) rest h.kind ≡ hint.None → o.hint ≡ hint.None =
    unless-none q.kind (hint_of w h a.hint a.values a.inside.labels a.inside.result xs (erase t) rest h.kind) in
    record {
      traced = p;
      unasked = λ e. hand-given w o t f k
          (none (nothing-asked w h a.hint a.values a.inside.labels a.inside.result xs (erase t) rest h.kind e));
      alone = λ e. hand-given w o t f k
          (none (no-type-asked w h a.hint a.values a.inside.labels a.inside.result xs (erase t) rest h.kind e));
      named = λ e y. hand-named w o t f k (ordinary-role h.kind (length xs) q.kind e) y;
    }

kid-role : (w : Setting) (a : Above) (h : Head) (xs : List TypedNode) (t : TypedNode) (ts : TypedNodes) (rest : Nodes) →
    (h.kind ≡ kind.TypeArray → FirstIsLength xs (typed_more t ts)) →
    is_in_role (over_kid w a h xs (erase t) rest).inside.role (own_kind t) ≡ true
kid-role w a h xs (marked q n us) ts rest l = role-fits h.kind (length xs) q.kind l

-- ---- trees

mutual
  pub hand-traced : (w : Setting) (a : Above) (t : TypedNode) (f : Flow) → AllCarry w a t f → is_in_role a.inside.role (own_kind t) ≡ true →
      IsTraced w (hand w a t f)
  hand-traced w a (marked h m ts) f k r =
      let c = context w a h (bare_each ts) (behind_each w a h [] ts f) in
      let q = kids-in_hand w a h [] ts f k.0 (λ e. first-length w a h m ts f k r e) in
      let node = node-traced w a h m ts f k r q (record m { coerce = settled_type c (Some m.ty) }) refl (own-goes c m.ty) in
      subst (IsTraced w) (sym (turns_settle w a h m ts f k)) ((c, refl, node), kids-traced w a h m ts f k q)

  pub kids-in_hand : (w : Setting) (a : Above) (h : Head) (xs : List TypedNode) (ts : TypedNodes) (f : Flow) → EachCarries w a h xs ts f →
      (h.kind ≡ kind.TypeArray → FirstIsLength xs ts) → AreKidsOf w h.kind (map (coat (behind_each w a h xs ts f).coercions) (bare_each ts))
  kids-in_hand w a h xs typed_none f k l = tt
  kids-in_hand w a h xs (typed_more t ts) f k l =
      let o = over_kid w a h xs (erase t) (erase_each ts) in
      let g = flow_before w a h xs f in
      let b = behind w o t g in
      let below = below-bare (count b) t (below-behind w o t g k.0) in
      let stays : coat (behind_each w a h (xs ++ bare t ∷ []) ts b).coercions (bare t) ≡ hand w o t g =
      coat-behind_each w a h (xs ++ bare t ∷ []) ts b (bare t) k.1 below in
      let own = kid-in_hand w a h xs t (erase_each ts) g k.0 (hand-traced w o t g k.0 (kid-role w a h xs t ts (erase_each ts) l)) in
      (subst (IsKidOf w h.kind) (sym stays) own, kids-in_hand w a h (xs ++ bare t ∷ []) ts b k.1 (λ e. no_first ts))
    where
      no_first : (us : TypedNodes) → FirstIsLength (xs ++ bare t ∷ []) us
      no_first typed_none = tt
      no_first (typed_more u us) = λ z. absurd (omega (arith, z, length-append xs (bare t ∷ [])))
