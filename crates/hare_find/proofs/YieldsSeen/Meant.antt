-- What a `yield` means, and what of one without a value is taken or refused.
use Rattle.std.proofs.Common.{◌≡◌, ℕ, Bool, true, false, not, cond, ◌&&◌, ◌||◌, List, [], ◌∷◌, map, refl, ap, sym, ◌∙◌, Option, Some, None}
use Rattle.std.specs.Prelude.{find, is_some, option_map}
use Rattle.hare_tree.specs.declared.kind.Kind.TheVariants as ki
use Rattle.hare_tree.specs.Node.{Head}
use Rattle.hare_types.specs.declared.coercion.Ty.{Ty}
use Rattle.hare_types.specs.Store.{Store}
use Rattle.hare_types.specs.Later.{IsLater}
use Rattle.hare_typed.specs.Typed.{TypedNode, marked}
use Rattle.hare_typed.specs.Order.{tree_from_front}
use Rattle.hare_rules.specs.declared.hint.Hint.{Hint}
use Rattle.hare_rules.specs.declared.inside.Label.{Label}
use Rattle.hare_rules.specs.declared.judged.Case.{Case}
use Rattle.hare_rules.specs.declared.row_id.RowId.{RowId}
use Rattle.hare_rules.specs.declared.row_id.RowId.TheVariants as asked
use Rattle.hare_rules.specs.Above.{Above}
use Rattle.hare_rules.specs.Context.{Setting, Context, Given, Inside, Open, is_there, kid, own_type, store_of}
use Rattle.hare_rules.specs.Control.{block_meant, hint_of_open, is_inside, void_fits_hint}
use Rattle.hare_rules.specs.Finished.{bare}
use Rattle.hare_rules.specs.Flow.{Flow, context, yielded}
use Rattle.hare_rules.specs.Judged.{IsRefusal, open_of}
use Rattle.hare_rules.specs.Rows.{first_failing, holds, rows_in_role}
use Rattle.hare_rules.specs.Table.{rows_of, asked as last_rows}
use Rattle.hare_told.specs.Told.{has_judge, told_label}
use Rattle.hare_told.proofs.Labels.{blank, block_meant-blanks}
use Rattle.hare_walk.specs.Walks.{AreInHand}
use Rattle.hare_find.specs.Looked.{IsVoidTaken, IsYield, MeansInside}
use Rattle.hare_find.proofs.FoundOfNode.Judged.{judged_role}

-- ---- what it means

blank-told : (ls : List Open) → map open_of (map told_label ls) ≡ map blank ls
blank-told [] = refl
blank-told (l ∷ ls) = ap (λ ms. blank l ∷ ms) (blank-told ls)

-- the label that is found among those that are told, is the one that is meant, without its hint
pub meant-told : (name : List ℕ) (o : Option Open) (us : List Label) (ls : List Open) → o ≡ block_meant name (map open_of us) →
    us ≡ map told_label ls → o ≡ option_map blank (block_meant name ls)
meant-told name o us ls e k =
    e ∙ ap (λ ms. block_meant name (map open_of ms)) k ∙ ap (block_meant name) (blank-told ls) ∙ block_meant-blanks name ls

pub inside-some : (i : Inside) (d : Bool) (l : Label) (m : Option Open) → Some (open_of l) ≡ option_map blank m → d ≡ i.deferred →
    (not d || l.deferred) ≡ (is_some m && is_inside i m)
inside-some i d l None e k = cc
inside-some i d l (Some m) e k =
    let same : open_of l ≡ blank m = cc in
    ap (λ b. not b || l.deferred) k ∙ ap (λ (o : Open). not i.deferred || o.deferred) same

pub inside-none : (i : Inside) (m : Option Open) → None ≡ option_map blank m → false ≡ (is_some m && is_inside i m)
inside-none i None e = refl
inside-none i (Some m) e = cc

pub or-left : (a b : Bool) → a ≡ true → a ≡ (a || b)
or-left true b e = refl
or-left false b e = cc

pub or-right : (a b : Bool) → a ≡ false → b ≡ (a || b)
or-right true b e = cc
or-right false b e = refl

-- ---- its value

valued : (c : Context) → is_there (kid c 0) ≡ true → holds asked.YieldNoValue c ≡ true
valued c e = ap (λ b. b || void_fits_hint (store_of c) (hint_of_open (block_meant c.head.text c.inside.labels))) e

void_fits-meant : (c : Context) (q : Case) (h : Head) (xs : List TypedNode) (i : Hint) → IsYield c q h xs i →
    void_fits_hint (store_of c) (hint_of_open (block_meant c.head.text c.inside.labels)) ≡ void_fits_hint (store_of c) i
void_fits-meant c q h xs i y =
    ap (λ (k : Head). void_fits_hint (store_of c) (hint_of_open (block_meant k.text c.inside.labels))) y.head
    ∙ ap (void_fits_hint (store_of c)) y.hint

or-true : (a b : Bool) → b ≡ true → a || b ≡ true
or-true true b e = refl
or-true false b e = e

pub void_valued : (c : Context) (q : Case) (h : Head) (xs : List TypedNode) (i : Hint) → IsYield c q h xs i →
    void_fits_hint (store_of c) i ≡ true →
    holds asked.YieldNoValue c ≡ true
void_valued c q h xs i y e = or-true _ _ (void_fits-meant c q h xs i y ∙ e)

-- it has a value, where it does not hand on void to what it means
has_value : (a t i : Bool) → not a && (t && i) ≡ false → t ≡ true → i ≡ true → a ≡ true
has_value true t i e p q = refl
has_value false t i e p q = cc

there : (c : Context) (q : Case) (h : Head) (xs : List TypedNode) (i : Hint) → IsYield c q h xs i → MeansInside c →
    (not (is_there (kid c 0)) && (holds asked.YieldTarget c && holds asked.YieldInside c)) ≡ false → is_there (kid c 0) ≡ true
there c q h xs i y m e = has_value _ _ _ e m.target m.inside

pub there_valued : (c : Context) (q : Case) (h : Head) (xs : List TypedNode) (i : Hint) → IsYield c q h xs i → MeansInside c →
    (not (is_there (kid c 0)) && (holds asked.YieldTarget c && holds asked.YieldInside c)) ≡ false → holds asked.YieldNoValue c ≡ true
there_valued c q h xs i y m e = valued c (there c q h xs i y m e)

first-bare : (xs : List TypedNode) → is_there (tree_from_front 0 (map bare xs)) ≡ is_there (tree_from_front 0 xs)
first-bare [] = refl
first-bare (marked h m ts ∷ xs) = refl

some_type : (b : Bool) (g v : Given) (a : Ty) → g.ty ≡ Some a → b ≡ true → (cond b g v).ty ≡ None → ⊥
some_type true g v a e k p = cc
some_type false g v a e k p = cc

given_there : (s : Store) (h : Head) (x : TypedNode) (i : Hint) → is_there x ≡ true → IsVoidTaken s i (yielded h x)
given_there s h x i e p t k f l = absurd (some_type (is_there x) _ _ (own_type x) refl e p)

pub there_taken : (s : Store) (c : Context) (q : Case) (h : Head) (xs : List TypedNode) (i : Hint) → IsYield c q h xs i → MeansInside c →
    (not (is_there (kid c 0)) && (holds asked.YieldTarget c && holds asked.YieldInside c)) ≡ false →
    IsVoidTaken s i (yielded h (tree_from_front 0 (map bare xs)))
there_taken s c q h xs i y m e =
    let k : is_there (tree_from_front 0 xs) ≡ true = sym (ap (λ ys. is_there (tree_from_front 0 ys)) y.kids) ∙ there c q h xs i y m e in
    given_there s h (tree_from_front 0 (map bare xs)) i (first-bare xs ∙ k)

pub void_taken : (s : Store) (i : Hint) (g : Given) → ((f : Store) → IsLater s f → true ≡ void_fits_hint f i) → IsVoidTaken s i g
void_taken s i g k e t p f l = sym (k f l ∙ ap (void_fits_hint f) p)

-- ---- what is refused

first_of_three : (c : Context) (rest : List RowId) → holds asked.YieldTarget c ≡ true → holds asked.YieldInside c ≡ true →
    holds asked.YieldNoValue c ≡ false →
    find (λ r. not (holds r c)) (asked.YieldTarget ∷ asked.YieldInside ∷ asked.YieldNoValue ∷ rest) ≡ Some asked.YieldNoValue
first_of_three c rest t i v =
    let p = λ (r : RowId). not (holds r c) in
    ap (λ b. cond (not b) (Some asked.YieldTarget) (find p (asked.YieldInside ∷ asked.YieldNoValue ∷ rest))) t
    ∙ ap (λ b. cond (not b) (Some asked.YieldInside) (find p (asked.YieldNoValue ∷ rest))) i
    ∙ ap (λ b. cond (not b) (Some asked.YieldNoValue) (find p rest)) v

all_of : (a t i : Bool) → not a && (t && i) ≡ true → (a ≡ false) × (t ≡ true) × (i ≡ true)
all_of true t i e = cc
all_of false true true e = (refl, refl, refl)
all_of false true false e = cc
all_of false false i e = cc

pub void_refused : (c : Context) (q : Case) (h : Head) (xs : List TypedNode) (i : Hint) → IsYield c q h xs i →
    (not (is_there (kid c 0)) && (holds asked.YieldTarget c && holds asked.YieldInside c)) ≡ true → void_fits_hint (store_of c) i ≡ false →
    IsRefusal c (record { number = 25; place = h.place })
void_refused c q h xs i y e v =
    let met = all_of _ _ _ e in
    let lacks : holds asked.YieldNoValue c ≡ false =
    ap (λ b. b || void_fits_hint (store_of c) (hint_of_open (block_meant c.head.text c.inside.labels))) met.0
    ∙ void_fits-meant c q h xs i y ∙ v in
    let kind : c.head.kind ≡ ki.Yield = ap (λ (k : Head). k.kind) y.head ∙ y.kind in
    let rows : rows_in_role c.inside.role c.head.kind ≡ rows_of ki.Yield = judged_role c.inside.role c.head.kind y.role ∙ ap rows_of kind in
    record {
      row = asked.YieldNoValue;
      first = ap (find (λ r. not (holds r c))) rows ∙ first_of_three c last_rows met.1 met.2 lacks;
      is = ap (λ (k : Head). record { number = 25; place = k.place }) y.head;
    }

-- ---- at a node's turn

-- what is asked of a `yield` of its context is so, where it is so of what stands over it and of its kids in hand
pub yield-context : (w : Setting) (a : Above) (h : Head) (xs : List TypedNode) (f : Flow) (q : Case) (i : Hint) → h.kind ≡ ki.Yield →
    AreInHand f xs → q.inside.labels ≡ map told_label a.inside.labels → q.inside.deferred ≡ a.inside.deferred →
    has_judge a.inside.role ≡ true →
    i ≡ hint_of_open (block_meant h.text a.inside.labels) → IsYield (context w a h (map bare xs) f) q h xs i
yield-context w a h xs f q i k hand labels deferred role e =
    record { kind = k; head = refl; kids = sym hand; labels = labels; deferred = deferred; role = role; hint = sym e }

none_first : (p : RowId → Bool) (r : RowId) (rs : List RowId) → find p (r ∷ rs) ≡ None → (p r ≡ false) × (find p rs ≡ None)
none_first p r rs e = by_test (p r) e where
  by_test : (b : Bool) → cond b (Some r) (find p rs) ≡ None → (b ≡ false) × (find p rs ≡ None)
  by_test true d = cc
  by_test false d = (refl, d)

not_false : (b : Bool) → not b ≡ false → b ≡ true
not_false true e = refl
not_false false e = cc

-- a `yield` that meets its rows means what stands inside the same deferred expression
pub met_inside : (c : Context) → c.head.kind ≡ ki.Yield → has_judge c.inside.role ≡ true → first_failing c ≡ None → MeansInside c
met_inside c k role e =
    let p = λ (r : RowId). not (holds r c) in
    let rows : rows_in_role c.inside.role c.head.kind ≡ rows_of ki.Yield = judged_role c.inside.role c.head.kind role ∙ ap rows_of k in
    let all : find p (rows_of ki.Yield) ≡ None = sym (ap (find p) rows) ∙ e in
    let one = none_first p asked.YieldTarget (asked.YieldInside ∷ asked.YieldNoValue ∷ last_rows) all in
    let two = none_first p asked.YieldInside (asked.YieldNoValue ∷ last_rows) one.1 in
    record { target = not_false _ one.0; inside = not_false _ two.0 }
