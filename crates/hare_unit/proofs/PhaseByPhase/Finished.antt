-- Declarations are finished one behind another.
use Rattle.std.proofs.Common.{◌≡◌, ◌≢◌, ◌⊎◌, inl, inr, ℕ, ◌+◌, ◌≤◌, List, [], ◌∷◌, ◌++◌, Bool, true, false, take, length, slice_get, Option, Some, None, IsSome, refl, sym, subst, ap, ◌∙◌, suc, zero, append_assoc, append-nil, arith}
use Rattle.std.specs.Prelude.{reverse}
use Rattle.std.proofs.lemmas.List.{reverse-append, length-map}
use Rattle.hare_tree.specs.declared.kind.Kind.{Kind}
use Rattle.hare_tree.specs.declared.kind.Kind.TheVariants as ki
use Rattle.hare_tree.specs.Node.{Node, head}
use Rattle.hare_tree.specs.declared.tree.FileTree.{FileTree}
use Rattle.hare_types.specs.Store.{Store}
use Rattle.hare_types.specs.Later.{IsLater}
use Rattle.hare_types.proofs.LaterLemmas.{later_trans}
use Rattle.hare_typed.specs.Typed.{TypedNode}
use Rattle.hare_depends.specs.declared.said.Sort.{Sort}
use Rattle.hare_depends.specs.declared.said.Sort.TheVariants as so
use Rattle.hare_depends.specs.Sorts.{sort_of, sort_by, sort_of_global, has_type}
use Rattle.hare_saids.specs.Saids.{decls}
use Rattle.hare_steps.specs.declared.listed.DeclPlace.{DeclPlace}
use Rattle.hare_steps.specs.Plans.{decl_at, ArePlaces}
use Rattle.hare_graph.proofs.Elements.{no-elements}
use Rattle.hare_finish.specs.Finished.{IsFinished}
use Rattle.hare_declarations.specs.declared.parts.Parts.{Parts}
use Rattle.hare_joined.specs.Joined.{AreFinished}
use Rattle.hare_unit.specs.Finishing.{TakesBody, AreFinishedTo}

-- ---- functions

no-function : (b : Bool) → sort_of_global b ≡ so.Function → ⊥
no-function true e = absurd cc
no-function false e = absurd cc

-- a declaration is a function just where its kind says so
pub function-kind : (k : Kind) (t : Node) → sort_by k t ≡ so.Function → k ≡ ki.Fn
function-kind ki.Fn t e = refl
function-kind ki.TypeDecl t e = absurd cc
function-kind ki.GlobalLet t e = absurd (no-function (has_type t) e)
function-kind ki.GlobalConst t e = absurd (no-function (has_type t) e)
function-kind _ t e = absurd cc

pub function-sort : (t : Node) → (head t).kind ≡ ki.Fn → sort_of t ≡ so.Function
function-sort t e = ap (λ k. sort_by k t) e

-- ---- growing

finished-later : (s r : Store) (t : Node) (q : Parts) (b : Option TypedNode) (d : TypedNode) → IsLater s r →
    IsFinished s t q.types q.value b d → IsFinished r t q.types q.value b d
finished-later s r t q b d l h w n m p = h w n (later_trans s r w.store l m) p

pub are-finished-later : (s r : Store) (ts : List Node) (qs : List Parts) (bs ds : List TypedNode) → IsLater s r →
    AreFinished s ts qs bs ds →
    AreFinished r ts qs bs ds
are-finished-later s r ts qs bs ds l AreFinished.none = AreFinished.none
are-finished-later s r ts qs bs ds l (AreFinished.function t q b d us ps cs es f h rest) =
    AreFinished.function t q b d us ps cs es f (finished-later s r t q (Some b) d l h) (are-finished-later s r us ps cs es l rest)
are-finished-later s r ts qs bs ds l (AreFinished.other t q d us ps cs es f h rest) =
    AreFinished.other t q d us ps cs es f (finished-later s r t q None d l h) (are-finished-later s r us ps cs es l rest)

-- one declaration more
push-function : (s : Store) (ts : List Node) (qs : List Parts) (bs ds : List TypedNode) (t : Node) (q : Parts) (b d : TypedNode) →
    AreFinished s ts qs bs ds → sort_of t ≡ so.Function → IsFinished s t q.types q.value (Some b) d →
    AreFinished s (ts ++ t ∷ []) (qs ++ q ∷ []) (bs ++ b ∷ []) (ds ++ d ∷ [])
push-function s ts qs bs ds t q b d AreFinished.none f h = AreFinished.function t q b d [] [] [] [] f h AreFinished.none
push-function s ts qs bs ds t q b d (AreFinished.function u p c e us ps cs es g k rest) f h =
    AreFinished.function u p c e (us ++ t ∷ []) (ps ++ q ∷ []) (cs ++ b ∷ []) (es ++ d ∷ []) g k
    (push-function s us ps cs es t q b d rest f h)
push-function s ts qs bs ds t q b d (AreFinished.other u p e us ps cs es g k rest) f h =
    AreFinished.other u p e (us ++ t ∷ []) (ps ++ q ∷ []) (cs ++ b ∷ []) (es ++ d ∷ []) g k (push-function s us ps cs es t q b d rest f h)

push-other : (s : Store) (ts : List Node) (qs : List Parts) (bs ds : List TypedNode) (t : Node) (q : Parts) (d : TypedNode) →
    AreFinished s ts qs bs ds → sort_of t ≢ so.Function → IsFinished s t q.types q.value None d →
    AreFinished s (ts ++ t ∷ []) (qs ++ q ∷ []) bs (ds ++ d ∷ [])
push-other s ts qs bs ds t q d AreFinished.none f h = AreFinished.other t q d [] [] [] [] f h AreFinished.none
push-other s ts qs bs ds t q d (AreFinished.function u p c e us ps cs es g k rest) f h =
    AreFinished.function u p c e (us ++ t ∷ []) (ps ++ q ∷ []) cs (es ++ d ∷ []) g k (push-other s us ps cs es t q d rest f h)
push-other s ts qs bs ds t q d (AreFinished.other u p e us ps cs es g k rest) f h =
    AreFinished.other u p e (us ++ t ∷ []) (ps ++ q ∷ []) cs (es ++ d ∷ []) g k (push-other s us ps cs es t q d rest f h)

-- ---- lists from their ends

-- what was the last is the first of what is turned round
turned : {A : Type 0} (done left rest : List A) (x : A) (all : List A) → all ≡ done ++ reverse left → left ≡ rest ++ x ∷ [] →
    all ≡ (done ++ x ∷ []) ++ reverse rest
turned done left rest x all e f =
    e ∙ ap (λ ys. done ++ reverse ys) f ∙ ap (λ ys. done ++ ys) (reverse-append rest (x ∷ []))
    ∙ sym (append_assoc done (x ∷ []) (reverse rest))

take-more : {A : Type 0} (xs : List A) (i : ℕ) (x : A) → slice_get xs i ≡ Some x → take (i + 1) xs ≡ take i xs ++ x ∷ []
take-more [] i x e = absurd cc
take-more (y ∷ ys) zero x e = let q : y ≡ x = cc in ap (λ z. z ∷ []) q
take-more (y ∷ ys) (suc i) x e =
    let p : suc i + 1 ≡ suc (i + 1) = omega arith in ap (λ n. take n (y ∷ ys)) p ∙ ap (λ zs. y ∷ zs) (take-more ys i x e)

-- ---- one turn

is-function : (x : Sort) → (x ≡ so.Function) ⊎ (x ≢ so.Function)
is-function so.Function = inl refl
is-function so.Type = inr (λ e. absurd cc)
is-function so.Constant = inr (λ e. absurd cc)
is-function so.Global = inr (λ e. absurd cc)

-- what is known at the turn of a declaration
pub record Turn (s r : Store) (ts : List Node) (qs : List Parts) (bs : List TypedNode) (n : ℕ) (t : Node) (q : Parts) (b : Option TypedNode)
    (d : TypedNode)
    (parts rest : List Parts) (bodies left ds : List TypedNode) : Type 0 where
  pub before : AreFinishedTo s ts qs bs n parts bodies ds
  pub there : slice_get ts n ≡ Some t
  pub part : parts ≡ rest ++ q ∷ []
  pub takes : TakesBody t bodies left b
  pub later : IsLater s r
  pub finished : IsFinished r t q.types q.value b d

pub finished-more : (s r : Store) (ts : List Node) (qs : List Parts) (bs : List TypedNode) (n : ℕ) (t : Node) (q : Parts)
    (b : Option TypedNode) (d : TypedNode)
    (parts rest : List Parts) (bodies left ds : List TypedNode) → Turn s r ts qs bs n t q b d parts rest bodies left ds →
    AreFinishedTo r ts qs bs (n + 1) rest left (ds ++ d ∷ [])
finished-more s r ts qs bs n t q b d parts rest bodies left ds k = by (is-function (sort_of t)) b k.takes k.finished
  where
    was : AreFinishedTo s ts qs bs n parts bodies ds
    was = k.before

    now : AreFinished r (take n ts) was.used was.taken ds
    now = are-finished-later s r (take n ts) was.used was.taken ds k.later was.finished

    more : take (n + 1) ts ≡ take n ts ++ t ∷ []
    more = take-more ts n t k.there

    parts-left : qs ≡ (was.used ++ q ∷ []) ++ reverse rest
    parts-left = turned was.used parts rest q qs was.parts_left k.part

    function : (c : TypedNode) → sort_of t ≡ so.Function → bodies ≡ left ++ c ∷ [] → IsFinished r t q.types q.value (Some c) d →
        AreFinishedTo r ts qs bs (n + 1) rest left (ds ++ d ∷ [])
    function c f e h = record {
      used = was.used ++ q ∷ [];
      taken = was.taken ++ c ∷ [];
      finished =
          subst (λ us. AreFinished r us (was.used ++ q ∷ []) (was.taken ++ c ∷ []) (ds ++ d ∷ [])) (sym more)
          (push-function r (take n ts) was.used was.taken ds t q c d now f h);
      parts_left = parts-left;
      bodies_left = turned was.taken bodies left c bs was.bodies_left e;
    }

    other : sort_of t ≢ so.Function → bodies ≡ left → IsFinished r t q.types q.value None d →
        AreFinishedTo r ts qs bs (n + 1) rest left (ds ++ d ∷ [])
    other f e h = record {
      used = was.used ++ q ∷ [];
      taken = was.taken;
      finished =
          subst (λ us. AreFinished r us (was.used ++ q ∷ []) was.taken (ds ++ d ∷ [])) (sym more)
          (push-other r (take n ts) was.used was.taken ds t q d now f h);
      parts_left = parts-left;
      bodies_left = was.bodies_left ∙ ap (λ ys. was.taken ++ reverse ys) e;
    }

    by : (sort_of t ≡ so.Function) ⊎ (sort_of t ≢ so.Function) → (c : Option TypedNode) → TakesBody t bodies left c →
        IsFinished r t q.types q.value c d → AreFinishedTo r ts qs bs (n + 1) rest left (ds ++ d ∷ [])
    by (inl f) (Some c) w h = function c f w.rest h
    by (inl f) None w h = let n : IsSome {T = TypedNode} None = w.function f in absurd cc
    by (inr f) (Some c) w h = let e : Some c ≡ None = w.other f in absurd cc
    by (inr f) None w h = other f (w.rest ∙ append-nil left) h

-- ---- before the first and behind the last

pub none-finished : (s : Store) (ts : List Node) (qs : List Parts) (bs : List TypedNode) (parts : List Parts) (bodies ds : List TypedNode) →
    qs ≡ reverse parts →
    bs ≡ reverse bodies → ds ≡ [] → AreFinishedTo s ts qs bs 0 parts bodies ds
none-finished s ts qs bs parts bodies ds e f g =
    subst (λ xs. AreFinishedTo s ts qs bs 0 parts bodies xs) (sym g)
    record { used = []; taken = []; finished = AreFinished.none; parts_left = e; bodies_left = f }

take-all : {A : Type 0} (xs : List A) (n : ℕ) → length xs ≤ n → take n xs ≡ xs
take-all [] zero l = refl
take-all [] (suc n) l = refl
take-all (x ∷ xs) zero l = absurd (omega (arith, l))
take-all (x ∷ xs) (suc n) l = ap (λ ys. x ∷ ys) (take-all xs n (omega (arith, l)))

pub all-finished : (s : Store) (ts : List Node) (qs : List Parts) (bs : List TypedNode) (n : ℕ) (parts : List Parts)
    (bodies ds : List TypedNode) →
    AreFinishedTo s ts qs bs n parts bodies ds → length ts ≤ n → length parts ≡ 0 → length bodies ≡ 0 → AreFinished s ts qs bs ds
all-finished s ts qs bs n parts bodies ds k l e f =
    let a : qs ≡ k.used = k.parts_left ∙ ap (λ ys. k.used ++ reverse ys) (no-elements parts e) ∙ append-nil k.used in
    let b : bs ≡ k.taken = k.bodies_left ∙ ap (λ ys. k.taken ++ reverse ys) (no-elements bodies f) ∙ append-nil k.taken in
    subst (λ us. AreFinished s us qs bs ds) (take-all ts n l)
    (subst (λ ps. AreFinished s (take n ts) ps bs ds) (sym a) (subst (λ cs. AreFinished s (take n ts) k.used cs ds) (sym b) k.finished))

-- there are as many declarations as places
pub length-decls : (fs : List FileTree) (ps : List DeclPlace) → ArePlaces fs ps → length (decls fs) ≡ length ps
length-decls fs ps h = sym (length-map (decls fs) Some) ∙ sym (ap length h) ∙ length-map ps (decl_at fs)
