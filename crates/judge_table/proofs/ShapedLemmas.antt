-- The function of a file that was read, and its parts, are shaped.
use Rattle.std.proofs.Common.{◌≡◌, ℕ, Bool, true, false, ◌&&◌, List, [], ◌∷◌, Some, refl, subst, inl, inr}
use Rattle.std.specs.Prelude.{slice_get}
use Rattle.std.specs.List.{list_all}
use Rattle.hare_tree.specs.declared.form.Sort.{Sort}
use Rattle.hare_tree.specs.declared.form.Sort.TheVariants as so
use Rattle.hare_tree.specs.declared.form.Own.TheVariants as ow
use Rattle.hare_tree.specs.declared.kind.Kind.{Kind}
use Rattle.hare_tree.specs.declared.kind.Kind.TheVariants as ki
use Rattle.hare_tree.specs.declared.tree.FileTree.{FileTree}
use Rattle.hare_tree.specs.Depth.{fits_file}
use Rattle.hare_tree.specs.KidSorts.{IsKid}
use Rattle.hare_tree.specs.Levels.{sort_in}
use Rattle.hare_tree.specs.Node.{Node, branch, none, more, head}
use Rattle.hare_tree.specs.Shape.{is_shaped, is_absent, is_none, is_own}
use Rattle.hare_tree.proofs.Low.Fitting.{fits_file_parts}
use Rattle.judge_table.specs.Shaped.{IsShaped}

both-left : (a b : Bool) → (a && b) ≡ true → a ≡ true
both-left true b h = refl
both-left false b h = h

both-right : (a b : Bool) → (a && b) ≡ true → b ≡ true
both-right true b h = h
both-right false b h = absurd cc

-- the first of some of which all pass
first-of : (p : Node → Bool) (ts : List Node) (t : Node) → list_all p ts ≡ true → slice_get ts 0 ≡ Some t → p t ≡ true
first-of p [] t h e = absurd cc
first-of p (y ∷ ys) t h e = let same : y ≡ t = cc in subst (λ (z : Node). p z ≡ true) same (both-left (p y) (list_all p ys) h)

pub first-shaped : (f : FileTree) (t : Node) → fits_file f ≡ true → slice_get f.decls 0 ≡ Some t → IsShaped t
first-shaped f t h e = (
  so.Decl,
  first-of (is_shaped so.Decl) f.decls t
      (both-right (list_all (is_shaped so.Use) f.uses) (list_all (is_shaped so.Decl) f.decls) (fits_file_parts f h).0) e,
)

-- ---- parts

is-none : (k : Kind) → is_none k ≡ true → k ≡ ki.None
is-none ki.None h = refl
is-none _ h = absurd cc

absent-is : (t : Node) → is_absent t ≡ true → (head t).kind ≡ ki.None
absent-is (branch h none) e = is-none h.kind (both-left (is_none h.kind) (is_own ow.Nothing h) e)
absent-is (branch h (more t ts)) e = absurd cc

-- a kid that is there
pub part-shaped : (l : ℕ) (s : Sort) (t : Node) → ((head t).kind ≡ ki.None → ⊥) → IsKid l (Some s) t → IsShaped t
part-shaped l s t here (inl e) = absurd (here (absent-is t e))
part-shaped l s t here (inr e) = (sort_in l s, e)
