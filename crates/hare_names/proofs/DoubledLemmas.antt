-- Equal names of parameters and fields, kid by kid.
use Rattle.std.proofs.Common.{◌≡◌, ℕ, zero, suc, ◌+◌, ◌-◌, ◌<◌, ◌≤◌, List, [], ◌∷◌, ◌++◌, Bool, true, false, cond, ◌&&◌, ◌||◌, fold, map, filter, take, drop, length, bytes_eq, slice_get, Option, Some, None, is_some, refl, sym, ap, ◌∙◌, if◌then◌else◌, arith, add-one}
use Rattle.std.specs.List.{list_any}
use Rattle.std.proofs.lemmas.List.Sums.{fold-append}
use Rattle.std.proofs.Math.Bool.{or_assoc}
use Rattle.std.proofs.lemmas.Slice.Eq.{bytes_eq-Decides}
use Rattle.hare_tree.specs.declared.place.Fault.{Fault}
use Rattle.hare_tree.specs.Node.{Node, Nodes, branch, none, more, nodes_of, head}
use Rattle.hare_modules.specs.Order.{earlier}
use Rattle.hare_modules.specs.Tables.{value_of, has, put}
use Rattle.hare_modules.specs.Uses.{text_of}
use Rattle.hare_modules.specs.Repeated.{repeated_behind}
use Rattle.hare_modules.proofs.Trees.{listed-nodes_of}
use Rattle.hare_modules.proofs.ListLemmas.{drop-there, drop-past}
use Rattle.hare_directory.proofs.TakenNames.First.{names-symmetric}
use Rattle.hare_names.specs.Doubling.{names_with, first_with}
use Rattle.hare_names.specs.Spots.{is_idle}
use Rattle.hare_names.specs.Doubled.{has_names, is_named, same_text, doubled_fault, doubled_kids, doubled_in, doubled_among}

-- ---- all kids

pub among-on : (found found' : Option Fault) (ts : Nodes) (t : Node) (us : Nodes) (all : Option Fault) → ts ≡ more t us →
    found' ≡ fold earlier found (doubled_in t) → fold earlier found (doubled_among ts) ≡ all →
    fold earlier found' (doubled_among us) ≡ all
among-on found found' ts t us all e k h =
    ap (λ o. fold earlier o (doubled_among us)) k ∙ sym (fold-append earlier found (doubled_in t) (doubled_among us))
    ∙ ap (λ vs. fold earlier found (doubled_among vs)) (sym e) ∙ h

pub among-done : (found : Option Fault) (ts : Nodes) (all : Option Fault) → ts ≡ none → fold earlier found (doubled_among ts) ≡ all →
    found ≡ all
among-done found ts all e h = ap (λ vs. fold earlier found (doubled_among vs)) (sym e) ∙ h

-- a tree that the walk passes by has no such names
pub doubled-idle : (t : Node) (found : Option Fault) → is_idle t ≡ true → found ≡ fold earlier found (doubled_in t)
doubled-idle (branch h none) found i = by (has_names h.kind)
  where
    by : (b : Bool) → found ≡ fold earlier found ((if b then doubled_kids none else []) ++ doubled_among none)
    by true = refl
    by false = refl
doubled-idle (branch h (more u us)) found i = absurd cc

-- the kids of a `for` over items
pub doubled-one : (found found' : Option Fault) (ts : Nodes) (b : Node) → ts ≡ more b none → found' ≡ fold earlier found (doubled_in b) →
    found' ≡ fold earlier found (doubled_among ts)
doubled-one found found' ts b e k = among-on found found' ts b none (fold earlier found (doubled_among ts)) e k refl

pub doubled-two : (found found₁ found₂ found₃ : Option Fault) (ts : Nodes) (b over : Node) (us : Nodes) → ts ≡ more b (more over us) →
    found₁ ≡ fold earlier found (doubled_in b) → found₂ ≡ fold earlier found₁ (doubled_in over) →
    found₃ ≡ fold earlier found₂ (doubled_among us) → found₃ ≡ fold earlier found (doubled_among ts)
doubled-two found found₁ found₂ found₃ ts b over us e h₁ h₂ h₃ =
    h₃ ∙ among-on found₁ found₂ (more over us) over us (fold earlier found₁ (doubled_among (more over us))) refl h₂ refl
    ∙ among-on found found₁ ts b (more over us) (fold earlier found (doubled_among ts)) e h₁ refl

-- ---- the names of one list

abbrev named : Node → Bool
named t = is_named (head t).kind

-- the names before, by their table, and what is left
pub record Doubling (ts : List Node) (found : Option Fault) (i : ℕ) (names : List (List ℕ × Unit {0})) (first : Option Fault) : Type 0 where
  pub before : List Node
  pub told : (x : List ℕ) → has x names ≡ list_any (λ a. bytes_eq (text_of a) x) before
  pub left : fold earlier first (map doubled_fault (repeated_behind same_text before (filter named (drop i ts)))) ≡ fold earlier found
      (doubled_kids (nodes_of ts))

pub doubling-start : (ts : List Node) (found : Option Fault) (names : List (List ℕ × Unit {0})) → names ≡ [] →
    Doubling ts found 0 names found
doubling-start ts found names e = record {
  before = [];
  told = λ x. ap (has x) e;
  left = ap (λ us. fold earlier found (map doubled_fault (repeated_behind same_text [] (filter named us)))) (sym (listed-nodes_of ts));
}

-- a kid that has no such name
doubling-pass : (ts : List Node) (found first : Option Fault) (i : ℕ) (names : List (List ℕ × Unit {0})) (t : Node) →
    slice_get ts i ≡ Some t → named t ≡ false → Doubling ts found i names first → Doubling ts found (i + 1) names first
doubling-pass ts found first i names t e n w = record {
  before = w.before;
  told = w.told;
  left =
      ap (λ us. fold earlier first (map doubled_fault (repeated_behind same_text w.before us)))
      (sym (ap (filter named) (drop-there ts i t e) ∙ ap
      (λ b. cond b (t ∷ filter named (drop (i + 1) ts)) (filter named (drop (i + 1) ts))) n)) ∙ w.left;
}

or-false : (c : Bool) → c ≡ (c || false)
or-false true = refl
or-false false = refl

list_any-push : {A : Type 0} (p : A → Bool) (xs : List A) (x : A) → list_any p (xs ++ x ∷ []) ≡ (list_any p xs || p x)
list_any-push p [] x = by (p x)
  where
    by : (b : Bool) → (b || false) ≡ b
    by true = refl
    by false = refl
list_any-push p (y ∷ ys) x = by (p y) (list_any-push p ys x)
  where
    by : (b : Bool) → list_any p (ys ++ x ∷ []) ≡ (list_any p ys || p x) → (b || list_any p (ys ++ x ∷ [])) ≡ ((b || list_any p ys) || p x)
    by true h = refl
    by false h = h

-- what a table tells with a name more
has-push : (x y : List ℕ) (es : List (List ℕ × Unit {0})) → has x (es ++ (y, tt) ∷ []) ≡ (has x es || bytes_eq x y)
has-push x y [] = by (bytes_eq x y)
  where
    by : (b : Bool) → is_some (cond b (Some (tt {0})) None) ≡ b
    by true = refl
    by false = refl
has-push x y (e ∷ es) = by (bytes_eq x e.0) (has-push x y es)
  where
    by : (b : Bool) → has x (es ++ (y, tt) ∷ []) ≡ (has x es || bytes_eq x y) →
        is_some (cond b (Some e.1) (value_of x (es ++ (y, tt) ∷ []))) ≡ (is_some (cond b (Some e.1) (value_of x es)) || bytes_eq x y)
    by true h = refl
    by false h = h

has-put : (x y : List ℕ) (es : List (List ℕ × Unit {0})) → has x (put es y tt) ≡ (has x es || bytes_eq x y)
has-put x y es = by (has y es) refl
  where
    same : has y es ≡ true → (b : Bool) → bytes_eq x y ≡ b → has x es ≡ (has x es || b)
    same h true e = let s : has x es ≡ true = ap (λ z. has z es) ((bytes_eq-Decides x y).0 e) ∙ h in s ∙ sym (ap (λ c. c || true) s)
    same h false e = or-false (has x es)

    by : (b : Bool) → has y es ≡ b → has x (cond b es (es ++ (y, tt) ∷ [])) ≡ (has x es || bytes_eq x y)
    by true h = same h (bytes_eq x y) refl
    by false h = has-push x y es

-- a name more
doubling-named : (ts : List Node) (found first first' : Option Fault) (i : ℕ) (names names' : List (List ℕ × Unit {0})) (t : Node) →
    slice_get ts i ≡ Some t → named t ≡ true → names' ≡ put names (text_of t) tt →
    first' ≡ (if has (text_of t) names then earlier first (doubled_fault t) else first) → Doubling ts found i names first →
    Doubling ts found (i + 1) names' first'
doubling-named ts found first first' i names names' t e n p k w = record {
  before = w.before ++ t ∷ [];
  told = λ x. ap (has x) p ∙ has-put x (text_of t) names ∙ ap (λ b. b || bytes_eq x (text_of t)) (w.told x)
      ∙ ap (λ b. list_any (λ a. bytes_eq (text_of a) x) w.before || b) (names-symmetric x (text_of t))
      ∙ sym (list_any-push (λ a. bytes_eq (text_of a) x) w.before t);
  left = by (has (text_of t) names) refl ∙ w.left;
}
  where
    rest : List Node
    rest = filter named (drop (i + 1) ts)

    front : filter named (drop i ts) ≡ t ∷ rest
    front = ap (filter named) (drop-there ts i t e) ∙ ap (λ b. cond b (t ∷ rest) rest) n

    all : Option Fault
    all = fold earlier first (map doubled_fault (repeated_behind same_text w.before (filter named (drop i ts))))

    by : (b : Bool) → has (text_of t) names ≡ b →
        fold earlier first' (map doubled_fault (repeated_behind same_text (w.before ++ t ∷ []) rest)) ≡ all
    by b h =
        let any : list_any (λ a. same_text a t) w.before ≡ b = sym (w.told (text_of t)) ∙ h in
        ap (λ o. fold earlier o (map doubled_fault (repeated_behind same_text (w.before ++ t ∷ []) rest)))
        (k ∙ ap (λ c. cond c (earlier first (doubled_fault t)) first) h)
        ∙ here b
        ∙ ap (λ c. fold earlier first (map doubled_fault (cond c (t ∷ []) [] ++ repeated_behind same_text (w.before ++ t ∷ []) rest)))
        (sym any)
        ∙ ap (λ us. fold earlier first (map doubled_fault (repeated_behind same_text w.before us))) (sym front)
      where
        here : (c : Bool) →
            fold earlier (cond c (earlier first (doubled_fault t)) first)
            (map doubled_fault (repeated_behind same_text (w.before ++ t ∷ []) rest)) ≡ fold earlier first
            (map doubled_fault (cond c (t ∷ []) [] ++ repeated_behind same_text (w.before ++ t ∷ []) rest))
        here true = refl
        here false = refl

-- a kid more
pub doubling-on : (ts : List Node) (found first first' : Option Fault) (i : ℕ) (names names' : List (List ℕ × Unit {0})) (t : Node) →
    slice_get ts i ≡ Some t → names' ≡ names_with names t → first' ≡ first_with names t first → Doubling ts found i names first →
    Doubling ts found (i + 1) names' first'
doubling-on ts found first first' i names names' t e p k w = by (named t) refl
  where
    by : (b : Bool) → named t ≡ b → Doubling ts found (i + 1) names' first'
    by false n =
        let p' : names' ≡ names = p ∙ ap (λ c. if c then put names (text_of t) tt else names) n in
        let k' : first' ≡ first = k ∙ ap (λ c. if c then (if has (text_of t) names then earlier first (doubled_fault t) else first) else
        first) n in
        rw (p', k') (doubling-pass ts found first i names t e n w)
    by true n =
        doubling-named ts found first first' i names names' t e n (p ∙ ap (λ c. if c then put names (text_of t) tt else names) n)
        (k ∙ ap (λ c. if c then (if has (text_of t) names then earlier first (doubled_fault t) else first) else first) n) w

pub doubling-done : (ts : List Node) (found first : Option Fault) (i : ℕ) (names : List (List ℕ × Unit {0})) → length ts ≤ i →
    Doubling ts found i names first → first ≡ fold earlier found (doubled_kids (nodes_of ts))
doubling-done ts found first i names l w =
    ap (λ us. fold earlier first (map doubled_fault (repeated_behind same_text w.before (filter named us)))) (sym (drop-past ts i l))
    ∙ w.left
