-- The bodies of the functions of a shaped file are shaped.
use Rattle.std.proofs.Common.{◌≡◌, ℕ, zero, suc, Bool, true, false, ◌&&◌, List, [], ◌∷◌, Some, refl, subst, inl, inr}
use Rattle.std.specs.Prelude.{slice_get}
use Rattle.std.specs.List.{list_all}
use Rattle.hare_tree.specs.declared.kind.Kind.{Kind}
use Rattle.hare_tree.specs.declared.kind.Kind.TheVariants as ki
use Rattle.hare_tree.specs.declared.form.Sort.TheVariants as so
use Rattle.hare_tree.specs.declared.form.Own.TheVariants as ow
use Rattle.hare_tree.specs.Node.{Node, branch, none, more, head}
use Rattle.hare_tree.specs.KidSorts.{IsKid}
use Rattle.hare_tree.specs.Shape.{is_shaped, is_absent, is_none, is_own}
use Rattle.hare_rules.specs.Finished.{expression}

both-left : (a b : Bool) → (a && b) ≡ true → a ≡ true
both-left true b h = refl
both-left false b h = h

both-right : (a b : Bool) → (a && b) ≡ true → b ≡ true
both-right true b h = h
both-right false b h = absurd cc

-- one of some of which all pass
pub all-at : {A : Type 0} (p : A → Bool) (xs : List A) (i : ℕ) (x : A) → list_all p xs ≡ true → slice_get xs i ≡ Some x → p x ≡ true
all-at p [] i x h e = absurd cc
all-at {A} p (y ∷ ys) zero x h e = let same : y ≡ x = cc in subst (λ (z : A). p z ≡ true) same (both-left (p y) (list_all p ys) h)
all-at p (y ∷ ys) (suc i) x h e = all-at p ys i x (both-right (p y) (list_all p ys) h) e

-- ---- bodies

is-none : (k : Kind) → is_none k ≡ true → k ≡ ki.None
is-none ki.None h = refl
is-none _ h = absurd cc

absent-is : (b : Node) → is_absent b ≡ true → (head b).kind ≡ ki.None
absent-is (branch h none) e = is-none h.kind (both-left (is_none h.kind) (is_own ow.Nothing h) e)
absent-is (branch h (more t ts)) e = absurd cc

-- a kid that is there
pub kid-shaped : (l : ℕ) (b : Node) → ((head b).kind ≡ ki.None → ⊥) → IsKid l (Some (so.Level 1)) b → is_shaped expression b ≡ true
kid-shaped l b here (inl e) = absurd (here (absent-is b e))
kid-shaped l b here (inr e) = e
