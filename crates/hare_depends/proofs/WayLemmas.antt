-- The way of a search in depth: it descends to what is next, and is no circle.
use Rattle.std.proofs.Common.{◌≡◌, ◌↔◌, ℕ, ◌+◌, ◌<◌, ◌≤◌, List, [], ◌∷◌, ◌++◌, ◌⊎◌, inl, inr, length, get_or, take, slice_get, Option, Some, None, refl, sym, ap, ◌∙◌, subst, zero, suc, arith}
use Rattle.std.specs.Prelude.{Contains}
use Rattle.std.proofs.lemmas.List.Elements.{Contains-push, Contains-append_left, Contains-push_cases}
use Rattle.hare_depends.specs.declared.said.Said.{Said}
use Rattle.hare_depends.specs.declared.search.Frame.{Frame}
use Rattle.hare_depends.specs.Dependence.{DependsOn, LeadsTo, at_once, further}
use Rattle.hare_depends.specs.Circles.{TellsCircle}
use Rattle.hare_depends.specs.Order.{IsReady, IsFirstLeft, Descends, arrives, goes_on, IsAny, IsNext, AreInTurn}
use Rattle.hare_depends.specs.Search.{wants, last_of, IsOnWay, IsFrame, IsWay, IsNextOn, IsUnder}

-- ---- the last on the way

pub on-way-push : (fs : List Frame) (f : Frame) (e : ℕ) → IsOnWay fs e ⊎ (f.decl ≡ e) → IsOnWay (fs ++ f ∷ []) e
on-way-push [] f e (inl w) = absurd w
on-way-push [] f e (inr q) = inl q
on-way-push (g ∷ fs) f e (inl (inl q)) = inl q
on-way-push (g ∷ fs) f e (inl (inr w)) = inr (on-way-push fs f e (inl w))
on-way-push (g ∷ fs) f e (inr q) = inr (on-way-push fs f e (inr q))

pub on-way-cases : (fs : List Frame) (f : Frame) (e : ℕ) → IsOnWay (fs ++ f ∷ []) e → IsOnWay fs e ⊎ (f.decl ≡ e)
on-way-cases [] f e (inl q) = inr q
on-way-cases [] f e (inr w) = absurd w
on-way-cases (g ∷ fs) f e (inl q) = inl (inl q)
on-way-cases (g ∷ fs) f e (inr w) = by (on-way-cases fs f e w)
  where
    by : IsOnWay fs e ⊎ (f.decl ≡ e) → IsOnWay (g ∷ fs) e ⊎ (f.decl ≡ e)
    by (inl v) = inl (inr v)
    by (inr q) = inr q

pub last-push : (o : Option ℕ) (fs : List Frame) (f : Frame) → last_of o (fs ++ f ∷ []) ≡ Some f.decl
last-push o [] f = refl
last-push o (g ∷ fs) f = last-push (Some g.decl) fs f

module _ (ds : List Said) (done : List ℕ) where
  pub way-push : (o : Option ℕ) (fs : List Frame) (f : Frame) → IsWay ds done o fs → IsFirstLeft ds done (wants ds (last_of o fs)) f.decl →
      IsFrame ds done f → IsWay ds done o (fs ++ f ∷ [])
  way-push o [] f w h k = (h, k, tt)
  way-push o (g ∷ fs) f w h k = (w.0, w.1, way-push (Some g.decl) fs f w.2 h k)

  -- the way without its last
  pub way-front : (o : Option ℕ) (fs : List Frame) (f : Frame) → IsWay ds done o (fs ++ f ∷ []) → IsWay ds done o fs
  way-front o [] f w = tt
  way-front o (g ∷ fs) f w = (w.0, w.1, way-front (Some g.decl) fs f w.2)

  pub way-first : (o : Option ℕ) (fs : List Frame) (f : Frame) → IsWay ds done o (fs ++ f ∷ []) →
      IsFirstLeft ds done (wants ds (last_of o fs)) f.decl
  way-first o [] f w = w.0
  way-first o (g ∷ fs) f w = way-first (Some g.decl) fs f w.2

  pub way-frame : (o : Option ℕ) (fs : List Frame) (f : Frame) → IsWay ds done o (fs ++ f ∷ []) → IsFrame ds done f
  way-frame o [] f w = w.1
  way-frame o (g ∷ fs) f w = way-frame (Some g.decl) fs f w.2

  -- the first left descends along the way to the next on it that is ready
  way-descends : (o : Option ℕ) (fs : List Frame) (d : ℕ) → IsWay ds done o fs → IsFirstLeft ds done (wants ds (last_of o fs)) d →
      IsReady ds done d → (c : ℕ) × IsFirstLeft ds done (wants ds o) c × Descends ds done c d
  way-descends o [] d w h r = (d, h, arrives d r)
  way-descends o (f ∷ fs) d w h r =
      let x = way-descends (Some f.decl) fs d w.2 h r in (f.decl, w.0, goes_on f.decl x.0 d x.1 x.2)

  pub way-next : (fs : List Frame) (d : ℕ) → IsWay ds done None fs → IsNextOn ds done fs d → IsReady ds done d → IsNext ds done d
  way-next fs d w h r = let x = way-descends None fs d w h r in record { from = x.0; first = x.1; descends = x.2 }

-- ---- no circle

leads-before : (ds : List Said) (c e d : ℕ) → DependsOn ds c e → LeadsTo ds e d → LeadsTo ds c d
leads-before ds c e d h (at_once f k) = further e d (at_once e h) k
leads-before ds c e d h (further f u l k) = further f d (leads-before ds c e f h l) k

module _ (ds : List Said) (done : List ℕ) (d : ℕ) where
  way-leads : (c : ℕ) (fs : List Frame) → IsWay ds done (Some c) fs → IsFirstLeft ds done (wants ds (last_of (Some c) fs)) d →
      LeadsTo ds c d
  way-leads c [] w h = at_once d h.holds
  way-leads c (f ∷ fs) w h = leads-before ds c f.decl d w.0.holds (way-leads f.decl fs w.2 h)

  -- what is on the way leads to the next on it
  on-way-leads : (o : Option ℕ) (fs : List Frame) (e : ℕ) → IsWay ds done o fs → IsFirstLeft ds done (wants ds (last_of o fs)) d →
      IsOnWay fs e → LeadsTo ds e d
  on-way-leads o [] e w h x = absurd x
  on-way-leads o (f ∷ fs) e w h (inl q) = subst (λ c. LeadsTo ds c d) q (way-leads f.decl fs w.2 h)
  on-way-leads o (f ∷ fs) e w h (inr x) = on-way-leads (Some f.decl) fs e w.2 h x

  -- and so it is not on the way itself
  pub next-fresh : TellsCircle ds None → (fs : List Frame) → IsWay ds done None fs → IsNextOn ds done fs d → IsUnder done fs d → ⊥
  next-fresh n fs w h (inl c) = h.is_left c
  next-fresh n fs w h (inr x) = n d (on-way-leads None fs d w h x)

-- ---- one more is done

module _ (ds : List Said) (done : List ℕ) (d : ℕ) where
  abbrev more : List ℕ
  more = done ++ d ∷ []

  pub done-kept : (e : ℕ) → Contains done e → Contains more e
  done-kept e c = Contains-append_left done (d ∷ []) e c

  first-more : (P : ℕ → Type 0) (c : ℕ) → (d ≡ c → ⊥) → IsFirstLeft ds done P c → IsFirstLeft ds more P c
  first-more P c n h = record {
    is_there = h.is_there;
    is_left = λ k. left (Contains-push_cases done d c k);
    holds = h.holds;
    first = λ e l k. h.first e l (λ x. k (done-kept e x));
  }
    where
      left : Contains done c ⊎ (d ≡ c) → ⊥
      left (inl k) = h.is_left k
      left (inr q) = n q

  frame-more : (f : Frame) → IsFrame ds done f → IsFrame ds more f
  frame-more f h = record {
    sorted = h.sorted;
    only = h.only;
    all = λ e k. all e (h.all e k);
    passed = λ j l m. done-kept _ (h.passed j l m);
  }
    where
      all : (e : ℕ) → Contains done e ⊎ Contains f.left.items e → Contains more e ⊎ Contains f.left.items e
      all e (inl c) = inl (done-kept e c)
      all e (inr c) = inr c

  -- the way stays where what is done is not on it
  way-more : (o : Option ℕ) (fs : List Frame) → (IsOnWay fs d → ⊥) → IsWay ds done o fs → IsWay ds more o fs
  way-more o [] n w = tt
  way-more o (f ∷ fs) n w =
      (first-more (wants ds o) f.decl (λ q. n (inl (sym q))) w.0, frame-more f w.1, way-more (Some f.decl) fs (λ x. n (inr x)) w.2)

  pub way-done : TellsCircle ds None → (fs : List Frame) → IsWay ds done None fs → IsNextOn ds done fs d → IsWay ds more None fs
  way-done n fs w h = way-more None fs (λ x. next-fresh ds done d n fs w h (inr x)) w

  -- it is the next in turn
  pub turn-more : AreInTurn ds done → IsNext ds done d → AreInTurn ds more
  turn-more t i = λ k e q. by k e q (there done d k e q)
    where
      there : (xs : List ℕ) (x k e : ℕ) → slice_get (xs ++ x ∷ []) k ≡ Some e →
          ((slice_get xs k ≡ Some e) × (take k (xs ++ x ∷ []) ≡ take k xs)) ⊎ ((x ≡ e) × (take k (xs ++ x ∷ []) ≡ xs))
      there [] x zero e q = inr (cc, refl)
      there [] x (suc k) e q = absurd cc
      there (y ∷ ys) x zero e q = inl (q, refl)
      there (y ∷ ys) x (suc k) e q = behind (there ys x k e q)
        where
          behind : ((slice_get ys k ≡ Some e) × (take k (ys ++ x ∷ []) ≡ take k ys)) ⊎ ((x ≡ e) × (take k (ys ++ x ∷ []) ≡ ys)) →
              ((slice_get ys k ≡ Some e) × (y ∷ take k (ys ++ x ∷ []) ≡ y ∷ take k ys)) ⊎ ((x ≡ e) × (y ∷ take k (ys ++ x ∷ []) ≡ y ∷ ys))
          behind (inl h) = inl (h.0, ap (λ zs. y ∷ zs) h.1)
          behind (inr h) = inr (h.0, ap (λ zs. y ∷ zs) h.1)

      by : (k e : ℕ) → slice_get more k ≡ Some e →
          ((slice_get done k ≡ Some e) × (take k more ≡ take k done)) ⊎ ((d ≡ e) × (take k more ≡ done)) →
          IsNext ds (take k more) e
      by k e q (inl h) = subst (λ zs. IsNext ds zs e) (sym h.1) (t k e h.0)
      by k e q (inr h) = subst (λ zs. IsNext ds zs e) (sym h.1) (subst (IsNext ds done) h.0 i)
