-- The walk over kids, kid by kid.
use Rattle.std.proofs.Common.{◌≡◌, ℕ, ◌+◌, ◌<◌, ◌^◌, ◌≤◌, ◌-◌, List, [], ◌∷◌, ◌++◌, Bool, true, false, not, ◌&&◌, if◌then◌else◌, fold, length, drop, refl, sym, ap, ◌∙◌, subst, suc, zero, append_assoc, add-zero, arith}
use Rattle.std.proofs.lemmas.List.Sums.{fold-append}
use Rattle.std.proofs.lemmas.List.{length-append}
use Rattle.hare_tree.specs.Node.{Head, Node, Nodes, branch, none, more, nodes_of}
use Rattle.hare_tree.specs.Judged.{nodes_from}
use Rattle.hare_tree.proofs.TreeKids.KidsFrom.{nodes_from-get, nodes_from-past}
use Rattle.std.specs.Prelude.{slice_get, Some}
use Rattle.hare_modules.specs.Directory.{Directory}
use Rattle.hare_names.specs.declared.notes.Notes.{Notes}
use Rattle.hare_names.specs.Scopes.{Local, is_binding, is_params, is_for_each, bindings_in, bindings_among, bound_by, bound_among, bound_itself}
use Rattle.hare_names.specs.Paths.{is_type_path, is_value_path, before_kids}
use Rattle.hare_names.specs.Spots.{Spot, noted, spot_at, spots_in, spots_among, spots_of_loop, is_idle_kind, is_idle}

-- what is left of kids comes to the same as all of them
pub record Walking (d : Directory) (f n₀ : ℕ) (ls₀ : List Local) (notes₀ : Notes) (whole rest : Nodes) (n : ℕ) (ls : List Local)
    (notes : Notes) : Type 0 where
  pub count : n + bindings_among rest ≡ n₀ + bindings_among whole
  pub locals : bound_among n rest ++ ls ≡ bound_among n₀ whole ++ ls₀
  pub noted_is : fold (noted d f) notes (spots_among n ls rest) ≡ fold (noted d f) notes₀ (spots_among n₀ ls₀ whole)

pub walking-start : (d : Directory) (f n : ℕ) (ls : List Local) (notes : Notes) (ts : Nodes) → Walking d f n ls notes ts ts n ls notes
walking-start d f n ls notes ts = record { count = refl; locals = refl; noted_is = refl }

-- a kid more
pub walking-on : (d : Directory) (f n₀ : ℕ) (ls₀ : List Local) (notes₀ : Notes) (whole rest : Nodes) (t : Node) (ts : Nodes) (n n' : ℕ)
    (ls ls' : List Local) (notes notes' : Notes) →
    rest ≡ more t ts → n' ≡ n + bindings_in t → ls' ≡ bound_by n t ++ ls → notes' ≡ fold (noted d f) notes (spots_in n ls t) →
    Walking d f n₀ ls₀ notes₀ whole rest n ls notes → Walking d f n₀ ls₀ notes₀ whole ts n' ls' notes'
walking-on d f n₀ ls₀ notes₀ whole rest t ts n n' ls ls' notes notes' r e k m w =
    let v = subst (λ us. Walking d f n₀ ls₀ notes₀ whole us n ls notes) r w in
    let sum : n' + bindings_among ts ≡ n + (bindings_in t + bindings_among ts) = omega (arith, e) in
    record {
      count = sum ∙ v.count;
      locals =
          ap (λ x. bound_among x ts ++ ls') e ∙ ap (λ x. bound_among (n + bindings_in t) ts ++ x) k
          ∙ sym (append_assoc (bound_among (n + bindings_in t) ts) (bound_by n t) ls) ∙ v.locals;
      noted_is =
          ap (λ x. fold (noted d f) notes' (spots_among x ls' ts)) e
          ∙ ap (λ x. fold (noted d f) notes' (spots_among (n + bindings_in t) x ts)) k
          ∙ ap (λ x. fold (noted d f) x (spots_among (n + bindings_in t) (bound_by n t ++ ls) ts)) m
          ∙ sym (fold-append (noted d f) notes (spots_in n ls t) (spots_among (n + bindings_in t) (bound_by n t ++ ls) ts)) ∙ v.noted_is;
    }

-- ---- a kid that is passed by: it has no kids, and is neither a path nor a binding

pub idle-leaf : (h : Head) (ts : List Node) (t : Node) → branch h (nodes_of ts) ≡ t → length ts ≡ 0 → is_idle_kind h.kind ≡ is_idle t
idle-leaf h [] t e l = ap is_idle e
idle-leaf h (u ∷ us) t e l = absurd (omega (arith, l))

pub idle-not : (h : Head) (ts : List Node) (t : Node) → branch h (nodes_of ts) ≡ t → 0 < length ts → false ≡ is_idle t
idle-not h [] t e l = absurd (omega (arith, l))
idle-not h (u ∷ us) t e l = ap is_idle e

-- it binds nothing, and no path stands in it
record Idle (t : Node) : Type 0 where
  count : bindings_in t ≡ 0
  locals : (n : ℕ) → bound_by n t ≡ []
  spots : (n : ℕ) (ls : List Local) → spots_in n ls t ≡ []

idle-parts : (h : Head) (b c e : Bool) → is_binding h.kind ≡ b → is_type_path h.kind ≡ c → is_value_path h.kind ≡ e →
    (not b && not c && not e) ≡ true → Idle (branch h none)
idle-parts h true c e p q r i = absurd cc
idle-parts h false true e p q r i = absurd cc
idle-parts h false false true p q r i = absurd cc
idle-parts h false false false p q r i = record {
  count = ap (λ x. (if x then 1 else 0) + 0) p;
  locals = λ n. ap (λ x. if x then (h.text, n) ∷ [] else if is_params h.kind then bound_among n none else []) p ∙ by (is_params h.kind) [];
  spots = λ n ls. at n ls (is_for_each h.kind);
}
  where
    by : (x : Bool) (ls : List Local) → (if x then ls else ls) ≡ ls
    by true ls = refl
    by false ls = refl

    none-here : (ls : List Local) → (spot_at h ls ++ []) ≡ []
    none-here ls = rw (q, r) refl

    at : (n : ℕ) (ls : List Local) (x : Bool) →
        (spot_at h ls ++ (if x then spots_of_loop (before_kids n h.kind) ls none else spots_among (before_kids n h.kind) ls none)) ≡ []
    at n ls true = none-here ls
    at n ls false = none-here ls

idle : (t : Node) → is_idle t ≡ true → Idle t
idle (branch h none) i = idle-parts h (is_binding h.kind) (is_type_path h.kind) (is_value_path h.kind) refl refl refl i
idle (branch h (more u us)) i = absurd cc

pub walking-past : (d : Directory) (f n₀ : ℕ) (ls₀ : List Local) (notes₀ : Notes) (whole rest : Nodes) (t : Node) (ts : Nodes) (n : ℕ)
    (ls : List Local) (notes : Notes) →
    rest ≡ more t ts → is_idle t ≡ true → Walking d f n₀ ls₀ notes₀ whole rest n ls notes → Walking d f n₀ ls₀ notes₀ whole ts n ls notes
walking-past d f n₀ ls₀ notes₀ whole rest t ts n ls notes r e w =
    let i = idle t e in
    let same : n ≡ n + bindings_in t = omega (arith, i.count) in
    walking-on d f n₀ ls₀ notes₀ whole rest t ts n n ls ls notes notes r same (sym (ap (λ xs. xs ++ ls) (i.locals n)))
    (sym (ap (fold (noted d f) notes) (i.spots n ls))) w

-- ---- no kid is left

pub record Walked (d : Directory) (f n₀ : ℕ) (ls₀ : List Local) (notes₀ : Notes) (whole : Nodes) (n : ℕ) (ls : List Local)
    (notes : Notes) : Type 0 where
  pub count : n ≡ n₀ + bindings_among whole
  pub locals : ls ≡ bound_among n₀ whole ++ ls₀
  pub noted_is : notes ≡ fold (noted d f) notes₀ (spots_among n₀ ls₀ whole)

pub walking-done : (d : Directory) (f n₀ : ℕ) (ls₀ : List Local) (notes₀ : Notes) (whole rest : Nodes) (n : ℕ) (ls : List Local)
    (notes : Notes) →
    rest ≡ none → Walking d f n₀ ls₀ notes₀ whole rest n ls notes → Walked d f n₀ ls₀ notes₀ whole n ls notes
walking-done d f n₀ ls₀ notes₀ whole rest n ls notes r w =
    let v = subst (λ us. Walking d f n₀ ls₀ notes₀ whole us n ls notes) r w in
    record { count = sym (add-zero n) ∙ v.count; locals = v.locals; noted_is = v.noted_is }

-- there is room for the number of a kid's last binding
pub walking-room : (d : Directory) (f n₀ : ℕ) (ls₀ : List Local) (notes₀ : Notes) (whole rest : Nodes) (t : Node) (ts : Nodes) (n : ℕ)
    (ls : List Local) (notes : Notes) →
    rest ≡ more t ts → n₀ + bindings_among whole < 2 ^ 32 → Walking d f n₀ ls₀ notes₀ whole rest n ls notes → n + bindings_in t < 2 ^ 32
walking-room d f n₀ ls₀ notes₀ whole rest t ts n ls notes r l w =
    let c : n + bindings_among (more t ts) ≡ n₀ + bindings_among whole = subst
    (λ us. n + bindings_among us ≡ n₀ + bindings_among whole) r w.count in
    omega (arith, c)

-- what was bound since is forgotten
pub back : {A : Type 0} (xs ys now : List A) (mark : ℕ) → now ≡ xs ++ ys → mark ≡ length ys → drop (length now - mark) now ≡ ys
back {A} xs ys now mark e m = rw (e, m) (by xs)
  where
    at : (n : ℕ) (zs : List A) → n ≡ length zs → drop n (zs ++ ys) ≡ ys
    at zero [] e = refl
    at zero (z ∷ zs) e = absurd (omega arith)
    at (suc n) [] e = absurd (omega arith)
    at (suc n) (z ∷ zs) e = at n zs (omega arith)

    by : (zs : List A) → drop (length (zs ++ ys) - length ys) (zs ++ ys) ≡ ys
    by zs = at (length (zs ++ ys) - length ys) zs (omega (arith, length-append zs ys))

-- ---- the kids of a `for` over items

pub one-kid : (ts : List Node) (b : Node) → slice_get ts 0 ≡ Some b → length ts ≤ 1 → nodes_of ts ≡ more b none
one-kid ts b e l = nodes_from-get ts 0 b e ∙ ap (more b) (nodes_from-past ts 1 l)

pub two-kids : (ts : List Node) (b over : Node) → slice_get ts 0 ≡ Some b → slice_get ts 1 ≡ Some over →
    nodes_of ts ≡ more b (more over (nodes_from 2 (nodes_of ts)))
two-kids ts b over e d = nodes_from-get ts 0 b e ∙ ap (more b) (nodes_from-get ts 1 over d)

pub counted-two : (ts : List Node) (b over : Node) → nodes_of ts ≡ more b (more over (nodes_from 2 (nodes_of ts))) →
    bindings_among (nodes_of ts) ≡ bindings_in b + (bindings_in over + bindings_among (nodes_from 2 (nodes_of ts)))
counted-two ts b over e = ap bindings_among e

pub counted-one : (ts : List Node) (b : Node) → slice_get ts 0 ≡ Some b → bindings_in b ≤ bindings_among (nodes_of ts)
counted-one ts b e = let k : bindings_among (nodes_of ts) ≡ bindings_in b + bindings_among (nodes_from 1 (nodes_of ts)) =
    ap bindings_among (nodes_from-get ts 0 b e) in omega (arith, k)

pub loop-one : (d : Directory) (f n : ℕ) (ls : List Local) (notes notes' : Notes) (ts : List Node) (b : Node) → nodes_of ts ≡ more b none →
    notes' ≡ fold (noted d f) notes (spots_in n ls b) → notes' ≡ fold (noted d f) notes (spots_of_loop n ls (nodes_of ts))
loop-one d f n ls notes notes' ts b e m = m ∙ ap (λ us. fold (noted d f) notes (spots_of_loop n ls us)) (sym e)

pub loop-two : (d : Directory) (f n m k : ℕ) (ls ls₁ ls₂ : List Local) (notes notes₁ notes₂ notes₃ : Notes) (ts : List Node)
    (b over : Node) (us : Nodes) →
    nodes_of ts ≡ more b (more over us) → m ≡ n + bindings_in b → k ≡ m + bindings_in over → ls₁ ≡ ls → ls₂ ≡ bound_itself n b ++ ls →
    notes₁ ≡ fold (noted d f) notes (spots_in n ls b) → notes₂ ≡ fold (noted d f) notes₁ (spots_in m ls₁ over) →
    notes₃ ≡ fold (noted d f) notes₂ (spots_among k ls₂ us) → notes₃ ≡ fold (noted d f) notes (spots_of_loop n ls (nodes_of ts))
loop-two d f n m k ls ls₁ ls₂ notes notes₁ notes₂ notes₃ ts b over us e em ek e₁ e₂ h₁ h₂ h₃ =
    let at : k ≡ n + bindings_in b + bindings_in over = ek ∙ ap (λ x. x + bindings_in over) em in
    h₃
    ∙ ap (λ x. fold (noted d f) notes₂ (spots_among x ls₂ us)) at
    ∙ ap (λ x. fold (noted d f) notes₂ (spots_among (n + bindings_in b + bindings_in over) x us)) e₂
    ∙ ap (λ x. fold (noted d f) x rest) (h₂ ∙ ap (λ x. fold (noted d f) notes₁ (spots_in x ls₁ over)) em
    ∙ ap (λ x. fold (noted d f) notes₁ (spots_in (n + bindings_in b) x over)) e₁ ∙ ap (λ x. fold (noted d f) x second) h₁)
    ∙ ap (λ x. fold (noted d f) x rest) (sym (fold-append (noted d f) notes first second))
    ∙ sym (fold-append (noted d f) notes (first ++ second) rest)
    ∙ ap (λ vs. fold (noted d f) notes (spots_of_loop n ls vs)) (sym e)
  where
    first : List Spot
    first = spots_in n ls b

    second : List Spot
    second = spots_in (n + bindings_in b) ls over

    rest : List Spot
    rest = spots_among (n + bindings_in b + bindings_in over) (bound_itself n b ++ ls) us
