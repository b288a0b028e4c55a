-- The objects agree of the strings and of the defs in a tree of which a constant is asked for.
use Rattle.std.proofs.Common.{◌≡◌, ◌∙◌, sym, ap, subst, refl, ℕ, suc, ◌^◌, ◌<◌, arith, Bool, true, false, inl, inr, List, [], ◌∷◌, ◌++◌, map, length, Option, Some, None}
use Rattle.std.specs.Prelude.{nat_eq, Contains}
use Rattle.hare_tree.specs.declared.kind.Kind.{Kind}
use Rattle.hare_tree.specs.declared.kind.Kind.TheVariants as kind
use Rattle.hare_tree.specs.declared.token.Meaning.{Meaning}
use Rattle.hare_tree.specs.declared.token.Meaning.TheVariants as meant
use Rattle.hare_tree.specs.Node.{Head, Nodes}
use Rattle.hare_types.specs.declared.coercion.Coercion.{Coercion}
use Rattle.hare_typed.specs.declared.constant.Const.{Const}
use Rattle.hare_typed.specs.declared.constant.Const.TheVariants as constant
use Rattle.hare_typed.specs.declared.constant.ConstObject.{ConstObject}
use Rattle.hare_typed.specs.Typed.{TypedNode, TypedNodes, Mark, marked, typed_none, typed_more, typed_nodes, mark_of}
use Rattle.hare_typed.specs.Cells.{byte_cells}
use Rattle.hare_typed.specs.Coats.{coat, coat_each}
use Rattle.hare_typed.specs.ConstantValues.{objects_of, text_object, statics, statics_of_each}
use Rattle.hare_typed.specs.Erased.{erase, erase_each}
use Rattle.hare_typed.specs.Numbers.{number_of}
use Rattle.hare_typed.specs.Coherent.{scope_in, held, statics_in, statics_in_each}
use Rattle.hare_typed.specs.Texts.{AreCoherent}
use Rattle.hare_const.proofs.Shown.Texts.{held-append, held_listed}
use Rattle.hare_rules.specs.declared.declared.DeclType.{DeclType}
use Rattle.hare_rules.specs.Above.{Above, over_kid, role_where, role_of}
use Rattle.hare_rules.specs.Context.{Setting, Context, Role, Ordinary, Callee, Length, BindingType, CaseValue, DeclaredValue, declaration}
use Rattle.hare_rules.specs.Finished.{bare, bare_each, behind, behind_each, Carries, AllCarry, EachCarries}
use Rattle.hare_rules.specs.Flow.{Flow, count, flow_at, flow_before, context}
use Rattle.hare_rules.specs.Settles.{target_of, settled_kid, settled_from}
use Rattle.hare_rules.specs.Values.{value_as, value_by_type, value_named, value_of_path, value_of_decl, value_of_meaning}
use Rattle.hare_inference.proofs.Orders.{number_of-root}
use Rattle.hare_constancy.specs.Coherent.{listed, DefsAgree, HasString, HaveString, IsStatic, asks_constants, ListsOnly, CasesList, EachCaseLists, AskedTreesAreCoherent}
use Rattle.hare_constancy.specs.Well.{asked}
use Rattle.hare_constancy.proofs.Coherent.Lists.{AllAre, all-append, all-contained, coherent}
use Rattle.hare_constancy.proofs.Coherent.Strings.{one_string, string_below}
use Rattle.hare_constancy.proofs.Well.Numbers.{IsRanged, AreRanged, ranged_each}

-- ---- the constants of a tree

-- each lists such objects alone
abbrev mutual
  pub AllList : (ConstObject → Type 0) → TypedNode → Type 0
  AllList P (marked h m ts) = ListsOnly P m.value × EachLists P ts

  pub EachLists : (ConstObject → Type 0) → TypedNodes → Type 0
  EachLists P typed_none = Unit {0}
  EachLists P (typed_more t ts) = AllList P t × EachLists P ts

-- ---- objects of a tree

module _ (w : Setting) (own : ℕ) (whole : TypedNode) where
  one_static : DefsAgree w own → IsRanged 0 whole → number_of whole < 2 ^ 32 → (o p : ConstObject) → IsStatic w own whole o → IsStatic w own whole p →
      o.object ≡ p.object → o.cells ≡ p.cells
  one_static d r l o p (inl (n, x, s, e, f)) (inl (k, y, u, g, i)) q =
      let same : n ≡ k = omega (arith, e, g, q) in
      let there = subst (λ (j : ℕ). HasString j x whole) same s in
      f ∙ ap byte_cells (one_string k x y 0 whole r there u) ∙ sym i
  one_static d r l o p (inl (n, x, s, e, f)) (inr (k, a, g, c)) q =
      let below : n < 2 ^ 32 = (let b = string_below n x 0 whole r s in omega (arith, b, l)) in
      absurd (d.others k n a p g c below (sym q ∙ e))
  one_static d r l o p (inr (k, a, g, c)) (inl (n, x, s, e, f)) q =
      let below : n < 2 ^ 32 = (let b = string_below n x 0 whole r s in omega (arith, b, l)) in
      absurd (d.others k n a o g c below (q ∙ e))
  one_static d r l o p (inr (n, a, g, c)) (inr (k, b, i, e)) q = d.one n k a b o p g i c e q

  listed_static : (v : Const) → ListsOnly (IsStatic w own whole) v → AllAre (IsStatic w own whole) (held (objects_of v))
  listed_static constant.Absent q = tt
  listed_static (constant.Known cs os) q =
      subst (AllAre (IsStatic w own whole)) (sym (held_listed os)) (all-contained (IsStatic w own whole) os q)

  texts_static : (h : Head) (m : Mark) (ts : TypedNodes) → ((n : ℕ) (x : List ℕ) → HasString n x (marked h m ts) → HasString n x whole) →
      AllAre (IsStatic w own whole) (held (text_object (scope_in own) (marked h m ts) h.kind))
  texts_static h m ts q = by h.kind refl
    where
      by : (k : Kind) → h.kind ≡ k → AllAre (IsStatic w own whole) (held (text_object (scope_in own) (marked h m ts) k))
      by kind.Str e = (inl (m.node, h.text, q m.node h.text (inl (e, refl, refl)), refl, refl), tt)
      by _ e = tt

  mutual
    statics_static : (t : TypedNode) → AllList (IsStatic w own whole) t → ((n : ℕ) (x : List ℕ) → HasString n x t → HasString n x whole) →
        AllAre (IsStatic w own whole) (statics_in own t)
    statics_static (marked h m ts) p q =
        let sc = scope_in own in
        let texts = text_object sc (marked h m ts) h.kind in
        let defs = objects_of m.value in
        let both = all-append (IsStatic w own whole) (held texts) (held defs) (texts_static h m ts q) (listed_static m.value p.0) in
        let front = subst (AllAre (IsStatic w own whole)) (sym (held-append texts defs)) both in
        let kids = statics_static_each ts p.1 (λ n x s. q n x (inr s)) in
        subst (AllAre (IsStatic w own whole)) (sym (held-append (texts ++ defs) (statics_of_each sc ts)))
        (all-append (IsStatic w own whole) (held (texts ++ defs)) (statics_in_each own ts) front kids)

    statics_static_each : (ts : TypedNodes) → EachLists (IsStatic w own whole) ts → ((n : ℕ) (x : List ℕ) → HaveString n x ts → HasString n x whole) →
        AllAre (IsStatic w own whole) (statics_in_each own ts)
    statics_static_each typed_none p q = tt
    statics_static_each (typed_more t ts) p q =
        subst (AllAre (IsStatic w own whole)) (sym (held-append (statics (scope_in own) t) (statics_of_each (scope_in own) ts)))
        (all-append (IsStatic w own whole) (statics_in own t) (statics_in_each own ts) (statics_static t p.0 (λ n x s. q n x (inl s)))
        (statics_static_each ts p.1 (λ n x s. q n x (inr s))))

pub tree_coherent : (w : Setting) (own : ℕ) (t : TypedNode) → DefsAgree w own → AllList (IsStatic w own t) t → IsRanged 0 t → number_of t < 2 ^ 32 →
    AreCoherent (statics_in own t)
tree_coherent w own t d p r l =
    coherent (IsStatic w own t) (one_static w own t d r l) (statics_in own t) (statics_static w own t t p (λ n x s. s))

-- ---- what a well-typed tree names

-- what a def lists is such
abbrev pub DefsList : Setting → (ConstObject → Type 0) → Type 0
DefsList w P = (n : ℕ) (d : DeclType) (o : ConstObject) → declaration w n ≡ Some d → Contains (listed d.value) o → P o

module _ (P : ConstObject → Type 0) where
  pub lists_none : ListsOnly P constant.Absent
  lists_none o c = (let l = c.1 in absurd (omega (arith, l)))

  named_decl : (w : Setting) → DefsList w P → (n : ℕ) (o : Option DeclType) → declaration w n ≡ o → ListsOnly P (value_of_decl o)
  named_decl w d n None e = lists_none
  named_decl w d n (Some x) e = λ o c. d n x o e c

  named_meaning : (w : Setting) → DefsList w P → (a : Meaning) → ListsOnly P (value_of_meaning w a)
  named_meaning w d (meant.Decl n) = named_decl w d n (declaration w n) refl
  named_meaning w d (meant.Local n) = lists_none
  named_meaning w d (meant.Rt r) = lists_none
  named_meaning w d meant.None = lists_none

  pub named_value : (c : Context) → DefsList c.setting P → ListsOnly P (value_named c)
  named_value c d = by c.head.kind
    where
      by : (k : Kind) → ListsOnly P (value_of_path c k)
      by kind.Path = named_meaning c.setting d c.meaning
      by _ = lists_none

-- the value of a case and that of a declaration have constants of their own
abbrev is_asked : Role → Bool
is_asked CaseValue = true
is_asked DeclaredValue = true
is_asked _ = false

where_unasked : (b : Bool) (r : Role) → is_asked r ≡ false → is_asked (role_where b r) ≡ false
where_unasked true r e = e
where_unasked false r e = refl

called_unasked : (i : ℕ) (q : Kind) → is_asked (role_of kind.Call i q) ≡ false
called_unasked i kind.Path = where_unasked (nat_eq i 0) Callee refl
called_unasked i _ = refl

role_unasked : (k : Kind) (i : ℕ) (q : Kind) → asks_constants k ≡ false → is_asked (role_of k i q) ≡ false
role_unasked kind.Call i q e = called_unasked i q
role_unasked kind.Let i q e = where_unasked (nat_eq i 0) BindingType refl
role_unasked kind.Const i q e = where_unasked (nat_eq i 0) BindingType refl
role_unasked kind.TypeArray i q e = where_unasked (nat_eq i 0) Length refl
role_unasked kind.Values i q e = absurd cc
role_unasked kind.Def i q e = absurd cc
role_unasked kind.GlobalLet i q e = absurd cc
role_unasked kind.GlobalConst i q e = absurd cc
role_unasked _ i q e = refl

kid_unasked : (w : Setting) (a : Above) (h : Head) (xs : List TypedNode) (t : TypedNode) (rest : Nodes) → asks_constants h.kind ≡ false →
    is_asked (over_kid w a h xs (erase t) rest).inside.role ≡ false
kid_unasked w a h xs (marked q n us) rest e = role_unasked h.kind (length xs) q.kind e

module _ (w : Setting) (P : ConstObject → Type 0) (d : DefsList w P) where
  carried_lists : (c : Context) (m : Mark) → c.setting ≡ w → Carries c m → is_asked c.inside.role ≡ false → ListsOnly P m.value
  carried_lists c m s k e =
      subst (ListsOnly P) (sym (k.value ∙ ap (value_by_type c) k.type)) (by c.inside.role e)
    where
      there : DefsList c.setting P
      there = subst (λ (x : Setting). DefsList x P) (sym s) d

      by : (r : Role) → is_asked r ≡ false → ListsOnly P (value_as c r m.ty)
      by Ordinary f = named_value P c there
      by Callee f = named_value P c there
      by Length f = named_value P c there
      by BindingType f = named_value P c there
      by CaseValue f = absurd cc
      by DeclaredValue f = absurd cc

  kid_lists : (a : Above) (h : Head) (xs : List TypedNode) (t : TypedNode) (rest : Nodes) (f : Flow) →
      AllCarry w (over_kid w a h xs (erase t) rest) t f → (asks_constants h.kind ≡ true → ListsOnly P (mark_of t).value) →
      ListsOnly P (mark_of t).value
  kid_lists a h xs (marked q n us) rest f k e = by (asks_constants h.kind) refl
    where
      by : (b : Bool) → asks_constants h.kind ≡ b → ListsOnly P n.value
      by true g = e g
      by false g =
          let o = over_kid w a h xs (erase (marked q n us)) rest in
          carried_lists (context w o q (bare_each us) (behind_each w o q [] us f)) n refl k.1
          (kid_unasked w a h xs (marked q n us) rest g)

  mutual
    -- of the root it is said apart
    all_list : (a : Above) (t : TypedNode) (f : Flow) → AllCarry w a t f → CasesList P t → ListsOnly P (mark_of t).value → AllList P t
    all_list a (marked h m ts) f k q e = (e, each_lists a h [] ts f k.0 q)

    pub each_lists : (a : Above) (h : Head) (xs : List TypedNode) (ts : TypedNodes) (f : Flow) → EachCarries w a h xs ts f →
        EachCaseLists P h.kind ts → EachLists P ts
    each_lists a h xs typed_none f k q = tt
    each_lists a h xs (typed_more t ts) f k q =
        let o = over_kid w a h xs (erase t) (erase_each ts) in
        let g = flow_before w a h xs f in
        let own = kid_lists a h xs t (erase_each ts) g k.0 q.0 in
        (all_list o t g k.0 q.1 own, each_lists a h (xs ++ bare t ∷ []) ts (behind w o t g) k.1 q.2)

-- ---- the same of the trees in hand

mutual
  lists-hand : (P : ConstObject → Type 0) (cs : List Coercion) (t : TypedNode) → AllList P t → AllList P (coat cs (bare t))
  lists-hand P cs (marked h m ts) p = (p.0, each_lists-hand P cs ts p.1)

  each_lists-hand : (P : ConstObject → Type 0) (cs : List Coercion) (ts : TypedNodes) → EachLists P ts →
      EachLists P (coat_each cs (typed_nodes (bare_each ts)))
  each_lists-hand P cs typed_none p = tt
  each_lists-hand P cs (typed_more t ts) p = (lists-hand P cs t p.0, each_lists-hand P cs ts p.1)

mutual
  string-hand : (n : ℕ) (x : List ℕ) (cs : List Coercion) (t : TypedNode) → HasString n x t → HasString n x (coat cs (bare t))
  string-hand n x cs (marked h m ts) (inl s) = inl s
  string-hand n x cs (marked h m ts) (inr s) = inr (strings-hand n x cs ts s)

  strings-hand : (n : ℕ) (x : List ℕ) (cs : List Coercion) (ts : TypedNodes) → HaveString n x ts →
      HaveString n x (coat_each cs (typed_nodes (bare_each ts)))
  strings-hand n x cs typed_none s = absurd s
  strings-hand n x cs (typed_more t ts) (inl s) = inl (string-hand n x cs t s)
  strings-hand n x cs (typed_more t ts) (inr s) = inr (strings-hand n x cs ts s)

mutual
  ranged-hand : (lo : ℕ) (cs : List Coercion) (t : TypedNode) → IsRanged lo t → IsRanged lo (coat cs (bare t))
  ranged-hand lo cs (marked h m ts) r = ranged_each-hand lo m.node cs ts r

  ranged_each-hand : (lo hi : ℕ) (cs : List Coercion) (ts : TypedNodes) → AreRanged lo hi ts →
      AreRanged lo hi (coat_each cs (typed_nodes (bare_each ts)))
  ranged_each-hand lo hi cs typed_none r = r
  ranged_each-hand lo hi cs (typed_more (marked h m us) ts) r =
      (ranged-hand lo cs (marked h m us) r.0, ranged_each-hand (suc m.node) hi cs ts r.1)

lists-settled : (P : ConstObject → Type 0) (c : Context) (i : ℕ) (o : Option ℕ) (x : TypedNode) → AllList P x →
    AllList P (settled_kid c i o x)
lists-settled P c i None x p = p
lists-settled P c i (Some u) (marked h m ts) p = p

string-settled : (n : ℕ) (y : List ℕ) (c : Context) (i : ℕ) (o : Option ℕ) (x : TypedNode) → HasString n y x →
    HasString n y (settled_kid c i o x)
string-settled n y c i None x s = s
string-settled n y c i (Some u) (marked h m ts) s = s

ranged-settled : (lo hi : ℕ) (c : Context) (i : ℕ) (o : Option ℕ) (x : TypedNode) (rest : TypedNodes) → IsRanged lo x →
    AreRanged (suc (number_of x)) hi rest → AreRanged lo hi (typed_more (settled_kid c i o x) rest)
ranged-settled lo hi c i None x rest p r = (p, r)
ranged-settled lo hi c i (Some u) (marked h m ts) rest p r = (p, r)

lists-settled_from : (P : ConstObject → Type 0) (c : Context) (i : ℕ) (cs : List Coercion) (ts : TypedNodes) → EachLists P ts →
    EachLists P (typed_nodes (settled_from c i (map (coat cs) (bare_each ts))))
lists-settled_from P c i cs typed_none p = tt
lists-settled_from P c i cs (typed_more t ts) p =
    (lists-settled P c i (target_of c c.head.kind i) (coat cs (bare t)) (lists-hand P cs t p.0), lists-settled_from P c (suc i) cs ts p.1)

strings-settled_from : (n : ℕ) (x : List ℕ) (c : Context) (i : ℕ) (cs : List Coercion) (ts : TypedNodes) → HaveString n x ts →
    HaveString n x (typed_nodes (settled_from c i (map (coat cs) (bare_each ts))))
strings-settled_from n x c i cs typed_none s = absurd s
strings-settled_from n x c i cs (typed_more t ts) (inl s) =
    inl (string-settled n x c i (target_of c c.head.kind i) (coat cs (bare t)) (string-hand n x cs t s))
strings-settled_from n x c i cs (typed_more t ts) (inr s) = inr (strings-settled_from n x c (suc i) cs ts s)

ranged-settled_from : (lo hi : ℕ) (c : Context) (i : ℕ) (cs : List Coercion) (ts : TypedNodes) → AreRanged lo hi ts →
    AreRanged lo hi (typed_nodes (settled_from c i (map (coat cs) (bare_each ts))))
ranged-settled_from lo hi c i cs typed_none r = r
ranged-settled_from lo hi c i cs (typed_more (marked h m us) ts) r =
    ranged-settled lo hi c i (target_of c c.head.kind i) (coat cs (bare (marked h m us)))
    (typed_nodes (settled_from c (suc i) (map (coat cs) (bare_each ts)))) (ranged-hand lo cs (marked h m us) r.0)
    (ranged-settled_from (suc m.node) hi c (suc i) cs ts r.1)

-- ---- the tree that is asked for

-- what defs list is static
pub defs_static : (w : Setting) (own : ℕ) (t : TypedNode) → DefsList w (IsStatic w own t)
defs_static w own t n d o e c = inr (n, d, e, c)

string-asked : (w : Setting) (a : Above) (f : Flow) (r : Coercion) (t : TypedNode) → AllCarry w a t f → (n : ℕ) (x : List ℕ) →
    HasString n x t → HasString n x (asked w a f r t)
string-asked w a f r (marked h m ts) k n x (inl s) = inl (s.0, sym k.1.node ∙ s.1, s.2)
string-asked w a f r (marked h m ts) k n x (inr s) =
    let g = behind_each w a h [] ts f in
    inr (strings-settled_from n x (context w a h (bare_each ts) g) 0 g.coercions ts s)

static-asked : (w : Setting) (a : Above) (f : Flow) (r : Coercion) (t : TypedNode) → AllCarry w a t f → (own : ℕ) (o : ConstObject) →
    IsStatic w own t o → IsStatic w own (asked w a f r t) o
static-asked w a f r t k own o (inl (n, x, s, e, g)) = inl (n, x, string-asked w a f r t k n x s, e, g)
static-asked w a f r t k own o (inr d) = inr d

mutual
  lists-more : (P Q : ConstObject → Type 0) → ((o : ConstObject) → P o → Q o) → (t : TypedNode) → CasesList P t → CasesList Q t
  lists-more P Q h (marked g m ts) p = each_lists-more P Q h g.kind ts p

  each_lists-more : (P Q : ConstObject → Type 0) → ((o : ConstObject) → P o → Q o) → (k : Kind) (ts : TypedNodes) → EachCaseLists P k ts →
      EachCaseLists Q k ts
  each_lists-more P Q h k typed_none p = tt
  each_lists-more P Q h k (typed_more t ts) p =
      (λ e o c. h o (p.0 e o c), lists-more P Q h t p.1, each_lists-more P Q h k ts p.2)

pub asked_trees_are_coherent : AskedTreesAreCoherent
asked_trees_are_coherent w a ls (marked h m ts) r k d q l e =
    let f = flow_at ls in
    let g = behind_each w a h [] ts f in
    let c = context w a h (bare_each ts) g in
    let t = asked w a f r (marked h m ts) in
    let own = a.inside.own in
    let cases = lists-more (IsStatic w own (marked h m ts)) (IsStatic w own t) (static-asked w a f r (marked h m ts) k own)
    (marked h m ts) q in
    let defs = defs_static w own t in
    let kids = each_lists w (IsStatic w own t) defs a h [] ts f k.0 cases in
    let all : AllList (IsStatic w own t) t =
    (named_value (IsStatic w own t) c defs, lists-settled_from (IsStatic w own t) c 0 g.coercions ts kids) in
    let place : IsRanged 0 t = ranged-settled_from 0 (count g) c 0 g.coercions ts (ranged_each w a h [] ts f k.0) in
    let root = number_of-root w a (marked h m ts) f k in
    let below : number_of t < 2 ^ 32 = omega (arith, root, k.1.node, l) in
    tree_coherent w own t d all place below
