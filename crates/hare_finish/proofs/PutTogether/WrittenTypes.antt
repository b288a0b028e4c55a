-- The written types of a declaration: none, one, or some and one more.
use Rattle.std.proofs.Common.{◌≡◌, ℕ, List, [], ◌∷◌, ◌++◌, refl, ap}
use Rattle.hare_tree.specs.Node.{Node}
use Rattle.hare_typed.specs.Typed.{TypedNode}
use Rattle.hare_rules.specs.Context.{Setting, Role}
use Rattle.hare_whole.specs.Declared.{unnumbered, IsWellType}
use Rattle.hare_whole.specs.Listing.{Written}
use Rattle.hare_whole.specs.Turns.{IsTyped, AreTyped}

-- the tree that stands for one written type
pub one-typed : (w : Setting) (n : ℕ) (r : Written) (ts : List TypedNode) → AreTyped w n (r ∷ []) ts →
    (x : TypedNode) × (ts ≡ x ∷ []) × IsTyped w n r x
one-typed w n r [] h = absurd h
one-typed w n r (x ∷ []) h = (x, refl, h.0)
one-typed w n r (x ∷ y ∷ ys) h = absurd h.1

-- none stands for none
pub none-typed : (w : Setting) (n : ℕ) (ts : List TypedNode) → AreTyped w n [] ts → ts ≡ []
none-typed w n [] h = refl
none-typed w n (x ∷ xs) h = absurd h

-- what is typed behind some and one more
pub record IsSplit (w : Setting) (n : ℕ) (rs : List Written) (r : Written) (ts : List TypedNode) : Type 0 where
  pub others : List TypedNode
  pub last : TypedNode
  pub is : ts ≡ others ++ last ∷ []
  pub typed : AreTyped w n rs others
  pub last_typed : IsTyped w n r last

pub typed-split : (w : Setting) (n : ℕ) (rs : List Written) (r : Written) (ts : List TypedNode) → AreTyped w n (rs ++ r ∷ []) ts →
    IsSplit w n rs r ts
typed-split w n [] r [] h = absurd h
typed-split w n [] r (x ∷ []) h = record { others = []; last = x; is = refl; typed = tt; last_typed = h.0 }
typed-split w n [] r (x ∷ y ∷ ys) h = absurd h.1
typed-split w n (q ∷ rs) r [] h = absurd h
typed-split w n (q ∷ rs) r (x ∷ xs) h =
    let k = typed-split w n rs r xs h.1 in
    record { others = x ∷ k.others; last = k.last; is = ap (λ ys. x ∷ ys) k.is; typed = (h.0, k.typed); last_typed = k.last_typed }

-- without its numbers it is a written type of a declaration
pub unnumbered-well : (w : Setting) (n : ℕ) (role : Role) (t : Node) (x : TypedNode) → IsTyped w n (role, t) x →
    IsWellType w n role (unnumbered x)
unnumbered-well w n role t x h = record { tree = x; carries = h.carries; plain = h.plain; is = refl }
