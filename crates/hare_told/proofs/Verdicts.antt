-- So a judge that is told of a node finds its row, its fault and its type.
use Rattle.std.proofs.Common.{◌≡◌, ◌⊎◌, ℕ, zero, suc, Bool, true, false, not, ◌||◌, List, [], ◌∷◌, map, refl, ap, sym, ◌∙◌, inl, inr, subst}
use Rattle.std.specs.Prelude.{find, slice_get, Option, Some, None, cond, option_map}
use Rattle.std.specs.List.{list_any}
use Rattle.hare_tree.specs.declared.place.Fault.{Fault}
use Rattle.hare_tree.specs.declared.kind.Kind.{Kind}
use Rattle.hare_tree.specs.declared.kind.Kind.TheVariants as ki
use Rattle.hare_tree.specs.declared.token.Meaning.{Meaning}
use Rattle.hare_tree.specs.declared.token.Meaning.TheVariants as means
use Rattle.hare_rules.specs.declared.row_id.RowId.{RowId}
use Rattle.hare_rules.specs.declared.row_id.RowId.TheVariants as row
use Rattle.hare_rules.specs.declared.declared.Local.{Local}
use Rattle.hare_rules.specs.declared.declared.DeclType.{DeclType}
use Rattle.hare_rules.specs.declared.judged.Case.{Case}
use Rattle.hare_rules.specs.declared.judged.Yielded.{Yielded}
use Rattle.hare_rules.specs.Context.{Context, Entry, Later, Known, Odd, known_local, Open, Role, Ordinary, Callee, Length, BindingType, CaseValue, DeclaredValue, store_of, kid, is_there}
use Rattle.hare_rules.specs.Operators.{path_type, binding_known, entry_is_known, type_of_local}
use Rattle.hare_rules.specs.Control.{block_meant, hint_of_open, void_fits_hint}
use Rattle.hare_rules.specs.Judged.{open_of, IsRefusal}
use Rattle.hare_rules.specs.Table.{rows_of, number_of}
use Rattle.hare_rules.specs.Types.{type_by, type_in_role, type_of}
use Rattle.hare_rules.specs.Rows.{holds, stands, is_bound, fits_hint, may_drop, rows_in_role, first_failing, fault_of}
use Rattle.hare_told.specs.Told.{told_label, AreToldEntries, AreToldYields, has_judge, IsTold}
use Rattle.hare_told.specs.Enough.{told, IsSameVerdict, ToldIsEnough}
use Rattle.hare_told.proofs.Steps.{unnamed, with_locals, asks_binding, holds-unnamed, stands-unnamed, type_by-unnamed, holds-locals, stands-locals}
use Rattle.hare_told.proofs.Labels.{blank, with_blanks, asks_value, holds-blanks, stands-blanks, type_by-blanks, block_meant-blanks}
use Rattle.hare_told.proofs.Yields.{with_told, IsTaken, type_by-told, holds-told, stands-told}

-- ---- roles

rows_in_role-judge : (o : Role) (k : Kind) → has_judge o ≡ true → rows_in_role o k ≡ rows_of k
rows_in_role-judge Ordinary k e = refl
rows_in_role-judge CaseValue k e = refl
rows_in_role-judge DeclaredValue k e = refl
rows_in_role-judge BindingType k e = cc
rows_in_role-judge Callee k e = cc
rows_in_role-judge Length k e = cc

pub type_in_role-judge : (c : Context) (o : Role) → has_judge o ≡ true → type_in_role c o ≡ type_by c c.head.kind
type_in_role-judge c Ordinary e = refl
type_in_role-judge c CaseValue e = refl
type_in_role-judge c DeclaredValue e = refl
type_in_role-judge c BindingType e = cc
type_in_role-judge c Callee e = cc
type_in_role-judge c Length e = cc

is_bound-judge : (o : Role) → has_judge o ≡ true → is_bound o ≡ false
is_bound-judge Ordinary e = refl
is_bound-judge CaseValue e = refl
is_bound-judge DeclaredValue e = refl
is_bound-judge BindingType e = cc
is_bound-judge Callee e = cc
is_bound-judge Length e = cc

abbrev pub ordinary : Context → Context
ordinary c = record c { inside = record c.inside { role = Ordinary } }

holds-ordinary : (r : RowId) (c : Context) → has_judge c.inside.role ≡ true → type_of (ordinary c) ≡ type_of c →
    holds r (ordinary c) ≡ holds r c
holds-ordinary row.Bound c h t = rw (is_bound-judge c.inside.role h) refl
holds-ordinary row.Site c h t = ap (fits_hint (store_of c) c.hint) t
holds-ordinary row.Kept c h t = ap (may_drop (store_of c) c.hint) t
holds-ordinary _ c h t = refl

stands-ordinary : (r : RowId) (c : Context) → stands r (ordinary c) ≡ stands r c
stands-ordinary row.PathBindingKnown c = refl
stands-ordinary _ c = refl

-- ---- paths

known-told : (es : List Entry) (ls : List Local) (n : ℕ) (l : Local) → AreToldEntries es ls → slice_get es n ≡ Some (Known l) →
    slice_get (map Known ls) n ≡ Some (Known l)
known-told [] ls n l h e = cc
known-told (e ∷ es) [] n l h d = absurd h
known-told (Known k ∷ es) (m ∷ ls) zero l h d =
    let p : m ≡ k = h.0 in
    ap (λ x. Some (Known x)) p ∙ d
known-told (Later ∷ es) (m ∷ ls) zero l h d = cc
known-told (Odd p ∷ es) (m ∷ ls) zero l h d = cc
known-told (e ∷ es) (m ∷ ls) (suc n) l h d = known-told es ls n l h.1 d

abbrev IsKnownPath : Context → Type 0
IsKnownPath c = (n : ℕ) → c.head.kind ≡ ki.Path → c.meaning ≡ means.Local n → (l : Local) × (slice_get c.locals n ≡ Some (Known l))

path_type-told : (ls : List Local) (c : Context) (m : Meaning) → AreToldEntries c.locals ls →
    ((n : ℕ) → m ≡ means.Local n → (l : Local) × (slice_get c.locals n ≡ Some (Known l))) → path_type (with_locals ls c) m ≡ path_type c m
path_type-told ls c (means.Local n) h k =
    let p = k n refl in
    ap (λ o. type_of_local (known_local o)) (known-told c.locals ls n p.0 h p.1 ∙ sym p.1)
path_type-told ls c (means.Decl n) h k = refl
path_type-told ls c _ h k = refl

type_by-known : (k : Kind) (ls : List Local) (c : Context) → AreToldEntries c.locals ls →
    ((n : ℕ) → k ≡ ki.Path → c.meaning ≡ means.Local n → (l : Local) × (slice_get c.locals n ≡ Some (Known l))) →
    type_by (with_locals ls c) k ≡ type_by c k
type_by-known ki.Path ls c h k = path_type-told ls c c.meaning h (λ n e. k n refl e)
type_by-known _ ls c h k = refl

-- a binding that is told is known
told-known : (ls : List Local) (n : ℕ) → entry_is_known (slice_get (map Known ls) n) ≡ true
told-known [] n = refl
told-known (l ∷ ls) zero = refl
told-known (l ∷ ls) (suc n) = told-known ls n

binding-told : (ls : List Local) (c : Context) (m : Meaning) → binding_known (with_locals ls c) m ≡ true
binding-told ls c (means.Local n) = told-known ls n
binding-told ls c (means.Decl n) = refl
binding-told ls c _ = refl

binding-known : (c : Context) (m : Meaning) → ((n : ℕ) → m ≡ means.Local n → (l : Local) × (slice_get c.locals n ≡ Some (Known l))) →
    binding_known c m ≡ true
binding-known c (means.Local n) k =
    let p = k n refl in
    ap entry_is_known p.1
binding-known c (means.Decl n) k = refl
binding-known c _ k = refl

-- ---- all that a judge is not told, taken away

abbrev pub plain : List Local → Context → Context
plain ls c = with_locals ls (with_blanks (unnamed c))

abbrev pub seen : List Local → List Yielded → Context → Context
seen ls ys c = ordinary (with_told ys (plain ls c))

type-plain : (ls : List Local) (c : Context) → AreToldEntries c.locals ls → IsKnownPath c →
    type_by (plain ls c) c.head.kind ≡ type_by c c.head.kind
type-plain ls c h k = type_by-known c.head.kind ls (with_blanks (unnamed c)) h k ∙ type_by-blanks c.head.kind (unnamed c)
    ∙ type_by-unnamed c.head.kind c

type-seen : (ls : List Local) (ys : List Yielded) (c : Context) → AreToldEntries c.locals ls → AreToldYields (store_of c) c.yields ys →
    IsKnownPath c → has_judge c.inside.role ≡ true → type_of (seen ls ys c) ≡ type_of c
type-seen ls ys c h y k r = type_by-told c.head.kind ys (plain ls c) y ∙ type-plain ls c h k ∙ sym (type_in_role-judge c c.inside.role r)

-- the same with the role that the node has
type-each : (ls : List Local) (c : Context) → AreToldEntries c.locals ls → IsKnownPath c → has_judge c.inside.role ≡ true →
    type_of (plain ls c) ≡ type_of (with_blanks (unnamed c))
type-each ls c h k r =
    type_in_role-judge (plain ls c) c.inside.role r
    ∙ type_by-known c.head.kind ls (with_blanks (unnamed c)) h k
    ∙ sym (type_in_role-judge (with_blanks (unnamed c)) c.inside.role r)

type-yields : (ls : List Local) (ys : List Yielded) (c : Context) → AreToldYields (store_of c) c.yields ys →
    has_judge c.inside.role ≡ true →
    type_of (with_told ys (plain ls c)) ≡ type_of (plain ls c)
type-yields ls ys c y r =
    type_in_role-judge (with_told ys (plain ls c)) c.inside.role r
    ∙ type_by-told c.head.kind ys (plain ls c) y
    ∙ sym (type_in_role-judge (plain ls c) c.inside.role r)

type-role : (ls : List Local) (ys : List Yielded) (c : Context) → has_judge c.inside.role ≡ true →
    type_of (seen ls ys c) ≡ type_of (with_told ys (plain ls c))
type-role ls ys c r = sym (type_in_role-judge (with_told ys (plain ls c)) c.inside.role r)

-- what is needed of a node for its rows to be asked
record IsAsked (c : Context) (ls : List Local) (ys : List Yielded) : Type 0 where
  locals : AreToldEntries c.locals ls
  yields : AreToldYields (store_of c) c.yields ys
  role : has_judge c.inside.role ≡ true
  path : IsKnownPath c
  taken : IsTaken c

-- a row behind the labels and the names, in the context that is told
holds-behind : (r : RowId) (ls : List Local) (ys : List Yielded) (c : Context) → IsAsked c ls ys → asks_binding r ≡ false →
    holds r (seen ls ys c) ≡ holds r (with_blanks (unnamed c))
holds-behind r ls ys c q e =
    holds-ordinary r (with_told ys (plain ls c)) q.role (type-role ls ys c q.role)
    ∙ holds-told r ys (plain ls c) q.yields q.taken (type-yields ls ys c q.yields q.role)
    ∙ holds-locals r ls (with_blanks (unnamed c)) q.locals (type-each ls c q.locals q.path q.role) e

holds-seen : (r : RowId) (ls : List Local) (ys : List Yielded) (c : Context) → IsAsked c ls ys → asks_binding r ≡ false →
    asks_value r ≡ false →
    holds r (seen ls ys c) ≡ holds r c
holds-seen r ls ys c q e d = holds-behind r ls ys c q e ∙ holds-blanks r (unnamed c) d ∙ holds-unnamed r c

stands-seen : (r : RowId) (ls : List Local) (ys : List Yielded) (c : Context) → IsAsked c ls ys → asks_binding r ≡ false →
    stands r (seen ls ys c) ≡ stands r c
stands-seen r ls ys c q e =
    stands-ordinary r (with_told ys (plain ls c))
    ∙ stands-told r ys (plain ls c) q.yields q.taken
    ∙ stands-locals r ls (with_blanks (unnamed c)) e
    ∙ stands-blanks r (unnamed c)
    ∙ stands-unnamed r c

-- ---- the first row that fails

or-none : (a b : Bool) → a || b ≡ false → (a ≡ false) × (b ≡ false)
or-none true b e = cc
or-none false b e = (refl, e)

abbrev asks_apart : RowId → Bool
asks_apart r = asks_binding r || asks_value r

find-same : (p q : RowId → Bool) (rs : List RowId) → list_any asks_apart rs ≡ false → ((r : RowId) → asks_apart r ≡ false → p r ≡ q r) →
    find p rs ≡ find q rs
find-same p q [] n h = refl
find-same p q (r ∷ rs) n h =
    let k = or-none (asks_apart r) (list_any asks_apart rs) n in
    rw (h r k.0, find-same p q rs k.1 h) refl

kinds : (k : Kind) → (k ≡ ki.Path) ⊎ ((k ≡ ki.Yield) ⊎ (list_any asks_apart (rows_of k) ≡ false))
kinds ki.Path = inl refl
kinds ki.Yield = inr (inl refl)
kinds _ = inr (inr refl)

or-true : (b : Bool) → b || true ≡ true
or-true true = refl
or-true false = refl

-- nothing is asked of a `yield` by a label that is told
value-blank : (c : Context) → holds row.YieldNoValue (with_blanks c) ≡ true
value-blank c = rw (block_meant-blanks c.head.text c.inside.labels) (by_label (block_meant c.head.text c.inside.labels)) where
  by_label : (o : Option Open) → is_there (kid c 0) || void_fits_hint (store_of c) (hint_of_open (option_map blank o)) ≡ true
  by_label None = or-true (is_there (kid c 0))
  by_label (Some l) = or-true (is_there (kid c 0))

skips : (a b n : Bool) (t i v : RowId) (o : Option RowId) → (a ≡ true → b ≡ true → n ≡ true) →
    cond (not a) (Some t) (cond (not b) (Some i) o) ≡ cond (not a) (Some t) (cond (not b) (Some i) (cond (not n) (Some v) o))
skips false b n t i v o h = refl
skips true false n t i v o h = refl
skips true true n t i v o h = rw (h refl refl) refl

abbrev fails : Context → RowId → Bool
fails c r = not (holds r c)

fails-same : (ls : List Local) (ys : List Yielded) (c : Context) → IsAsked c ls ys → (r : RowId) → asks_apart r ≡ false →
    fails (seen ls ys c) r ≡ fails c r
fails-same ls ys c q r e =
    let k = or-none (asks_binding r) (asks_value r) e in
    ap not (holds-seen r ls ys c q k.0 k.1)

find-path : (ls : List Local) (ys : List Yielded) (c : Context) → IsAsked c ls ys → c.head.kind ≡ ki.Path →
    find (fails (seen ls ys c)) (rows_of ki.Path) ≡ find (fails c) (rows_of ki.Path)
find-path ls ys c q e =
    let p : holds row.PathBindingKnown (seen ls ys c) ≡ true = binding-told ls c c.meaning in
    let m : holds row.PathBindingKnown c ≡ true = binding-known c c.meaning (λ n d. q.path n e d) in
    rw (p, m) (find-same (fails (seen ls ys c)) (fails c) (row.PathNamed ∷ row.Site ∷ row.Kept ∷ []) refl (fails-same ls ys c q))

find-yield : (ls : List Local) (ys : List Yielded) (c : Context) → IsAsked c ls ys →
    (holds row.YieldTarget c ≡ true → holds row.YieldInside c ≡ true → holds row.YieldNoValue c ≡ true) →
    find (fails (seen ls ys c)) (rows_of ki.Yield) ≡ find (fails c) (rows_of ki.Yield)
find-yield ls ys c q h =
    let n : holds row.YieldNoValue (seen ls ys c) ≡ true = holds-behind row.YieldNoValue ls ys c q refl ∙ value-blank (unnamed c) in
    let t = holds-seen row.YieldTarget ls ys c q refl refl in
    let i = holds-seen row.YieldInside ls ys c q refl refl in
    let o = find-same (fails (seen ls ys c)) (fails c) (row.Site ∷ row.Kept ∷ []) refl (fails-same ls ys c q) in
    rw (n, t, i, o)
    (skips (holds row.YieldTarget c) (holds row.YieldInside c) (holds row.YieldNoValue c) row.YieldTarget row.YieldInside row.YieldNoValue
    (find (fails c) (row.Site ∷ row.Kept ∷ [])) h)

find-seen : (k : Kind) (ls : List Local) (ys : List Yielded) (c : Context) → IsAsked c ls ys → c.head.kind ≡ k →
    (k ≡ ki.Yield → holds row.YieldTarget c ≡ true → holds row.YieldInside c ≡ true → holds row.YieldNoValue c ≡ true) →
    find (fails (seen ls ys c)) (rows_of k) ≡ find (fails c) (rows_of k)
find-seen k ls ys c q e h = by_kind (kinds k) where
  by_kind : (k ≡ ki.Path) ⊎ ((k ≡ ki.Yield) ⊎ (list_any asks_apart (rows_of k) ≡ false)) →
      find (fails (seen ls ys c)) (rows_of k) ≡ find (fails c) (rows_of k)
  by_kind (inl i) = rw i (find-path ls ys c q (e ∙ i))
  by_kind (inr (inl i)) = rw i (find-yield ls ys c q (h i))
  by_kind (inr (inr i)) = find-same (fails (seen ls ys c)) (fails c) (rows_of k) i (fails-same ls ys c q)

failing-seen : (ls : List Local) (ys : List Yielded) (c : Context) → IsAsked c ls ys →
    (c.head.kind ≡ ki.Yield → holds row.YieldTarget c ≡ true → holds row.YieldInside c ≡ true → holds row.YieldNoValue c ≡ true) →
    first_failing (seen ls ys c) ≡ first_failing c
failing-seen ls ys c q h =
    find-seen c.head.kind ls ys c q refl h ∙ ap (find (fails c)) (sym (rows_in_role-judge c.inside.role c.head.kind q.role))

-- ---- its fault

found-fails : (p : RowId → Bool) (rs : List RowId) (r : RowId) → find p rs ≡ Some r → p r ≡ true
found-fails p [] r e = cc
found-fails p (x ∷ xs) r e = by_test (p x) refl e (found-fails p xs r) where
  by_test : (b : Bool) → p x ≡ b → cond b (Some x) (find p xs) ≡ Some r → (find p xs ≡ Some r → p r ≡ true) → p r ≡ true
  by_test true i d k = let s : x ≡ r = cc in ap p (sym s) ∙ i
  by_test false i d k = k d

no_binding : (r : RowId) (ls : List Local) (ys : List Yielded) (c : Context) → fails (seen ls ys c) r ≡ true → asks_binding r ≡ false
no_binding row.PathBindingKnown ls ys c e =
    let p : holds row.PathBindingKnown (seen ls ys c) ≡ true = binding-told ls c c.meaning in
    let q : not (holds row.PathBindingKnown (seen ls ys c)) ≡ not true = ap not p in
    absurd cc
no_binding _ ls ys c e = refl

refusal-seen : (ls : List Local) (ys : List Yielded) (c : Context) (e : Fault) → IsAsked c ls ys →
    (c.head.kind ≡ ki.Yield → holds row.YieldTarget c ≡ true → holds row.YieldInside c ≡ true → holds row.YieldNoValue c ≡ true) →
    IsRefusal (seen ls ys c) e → IsRefusal c e
refusal-seen ls ys c e q h k =
    let b = no_binding k.row ls ys c (found-fails (fails (seen ls ys c)) (rows_of c.head.kind) k.row k.first) in
    let p : stands k.row c ≡ stands k.row (seen ls ys c) = sym (stands-seen k.row ls ys c q b) in
    let f : fault_of k.row c ≡ fault_of k.row (seen ls ys c) = ap (λ x. record { number = number_of k.row; place = x }) p in
    record { row = k.row; first = sym (failing-seen ls ys c q h) ∙ k.first; is = f ∙ k.is }

-- ---- what is told

labels-told : (ls : List Open) → map open_of (map told_label ls) ≡ map blank ls
labels-told [] = refl
labels-told (l ∷ ls) = ap (λ x. blank l ∷ x) (labels-told ls)

pub told-seen : (c : Context) (ds : List DeclType) (ls : List Local) (q : Case) → IsTold c ds ls q → told c ds ls q ≡ seen ls q.yields c
told-seen c ds ls q t =
    rw (t.decls, t.hint, t.meaning, t.own, t.result, t.deferred, t.body, t.labels, labels-told c.inside.labels) refl

pub told_is_enough : ToldIsEnough
told_is_enough c ds ls q t k =
    let a : IsAsked c ls q.yields = record { locals = t.locals; yields = t.yields; role = t.role; path = k.path; taken = k.taken } in
    let e = told-seen c ds ls q t in
    let all : IsSameVerdict c (seen ls q.yields c) =
    record {
      failing = failing-seen ls q.yields c a k.value;
      refusal = λ x r. refusal-seen ls q.yields c x a k.value r;
      type = type-seen ls q.yields c t.locals t.yields k.path t.role;
    } in
    subst (λ (j : Context). IsSameVerdict c j) (sym e) all
