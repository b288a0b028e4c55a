-- Graphs of imports, and what following an import tells.
use Rattle.std.proofs.Common.{◌≡◌, ◌⊎◌, inl, inr, ℕ, ◌+◌, ◌<◌, List, [], ◌∷◌, ◌++◌, Bool, true, false, not, length, get_or, fold, take, map, Option, Some, None, refl, sym, ap, ◌∙◌, subst, suc, zero, add-one, arith}
use Rattle.std.specs.Prelude.{Contains}
use Rattle.std.proofs.lemmas.List.Elements.{Contains-push, Contains-append_left, Contains-push_cases}
use Rattle.hare_tree.specs.declared.place.Fault.{Fault}
use Rattle.hare_modules.specs.Order.{fault, counts_before, earlier, TellsFirst}
use Rattle.hare_modules.specs.Uses.{place_of}
use Rattle.hare_graph.specs.Graphs.{Graph, Reached, edgeless}
use Rattle.hare_graph.specs.Ranks.{IsReverse, StaysWithin}
use Rattle.hare_modules.specs.Takings.{Using}
use Rattle.hare_modules.specs.CirclesIn.{with_target, with_source, with_import, with_import_back, imports_graph, imports_graph_back, IsUsingWithin, AreUsingsWithin, IsCircleAt, IsCircleIn, is_later, Follows}
use Rattle.hare_graph.proofs.Elements.{Contains-none, Contains-here, Contains-behind}
use Rattle.hare_graph.proofs.EdgeLemmas.{Both, both-on, start-both}
use Rattle.hare_modules.proofs.OrderLemmas.{before-between, not-before-itself, first-of-both, first-of-none, first-of-same}

-- ---- graphs of imports

import-on : (modules : ℕ) (g h : Graph) (u : Using) → IsUsingWithin modules u → Both modules g h →
    Both modules (with_import g u) (with_import_back h u)
import-on modules g h u w t = by u.to refl
  where
    by : (o : Option ℕ) → u.to ≡ o → Both modules (with_target g u.home o) (with_source h u.home o)
    by None e = t
    by (Some b) e = both-on modules g h u.home b w.home (w.to b e) t

imports-both : (modules : ℕ) (us : List Using) (g h : Graph) → AreUsingsWithin modules us → Both modules g h →
    Both modules (fold with_import g us) (fold with_import_back h us)
imports-both modules [] g h w t = t
imports-both modules (u ∷ us) g h w t =
    imports-both modules us (with_import g u) (with_import_back h u) (λ v c. w v (Contains-behind u v us c))
    (import-on modules g h u (w u (Contains-here u us)) t)

whole-both : (modules : ℕ) (us : List Using) → AreUsingsWithin modules us →
    Both modules (imports_graph modules us) (imports_graph_back modules us)
whole-both modules us w = imports-both modules us (edgeless modules) (edgeless modules) w (start-both modules)

pub imports-reverse : (modules : ℕ) (us : List Using) → AreUsingsWithin modules us →
    IsReverse (imports_graph modules us) (imports_graph_back modules us)
imports-reverse modules us w = let t = whole-both modules us w in t.reverse

pub imports-stay : (modules : ℕ) (us : List Using) → AreUsingsWithin modules us → StaysWithin (imports_graph modules us)
imports-stay modules us w = let t = whole-both modules us w in t.stays

pub length-imports : (modules : ℕ) (us : List Using) → AreUsingsWithin modules us → length (imports_graph modules us) ≡ modules
length-imports modules us w = let t = whole-both modules us w in t.length_is

-- ---- following

the-some : {A : Type 0} {a b : A} → Some a ≡ Some b → a ≡ b
the-some e = cc

-- what was found tells of itself
found-first : (found : Option Fault) → TellsFirst (λ f. found ≡ Some f) found
found-first found = record {
  first = λ f e. record { stands = e; none_before = λ g h. by f g (the-some (sym e ∙ h)) };
  none = λ e f h. none-by e f h;
}
  where
    by : (f g : Fault) → f ≡ g → counts_before g f ≡ false
    by f g e = rw (← e) (not-before-itself f)

    none-by : found ≡ None → (f : Fault) → found ≡ Some f → ⊥
    none-by e f h = let k : None ≡ Some f = sym e ∙ h in cc

-- an import on no circle changes nothing
pub follows-none : (g : Graph) (u : Using) (found : Option Fault) → ((f : Fault) → IsCircleAt g u f → ⊥) → Follows g u found found
follows-none g u found n =
    first-of-same (λ f. found ≡ Some f) (λ f. (found ≡ Some f) ⊎ IsCircleAt g u f) (λ f e. inl e) (λ f r. by f r) found (found-first found)
  where
    by : (f : Fault) → (found ≡ Some f) ⊎ IsCircleAt g u f → found ≡ Some f
    by f (inl e) = e
    by f (inr c) = absurd (n f c)

pub no-circle : (g : Graph) (u : Using) (to : ℕ) → u.to ≡ Some to → (Reached g to u.home → ⊥) → (f : Fault) → IsCircleAt g u f → ⊥
no-circle g u to e n f c = n (subst (λ a. Reached g a u.home) (the-some (sym c.known ∙ e)) c.back)

pub no-target : (g : Graph) (u : Using) → u.to ≡ None → (f : Fault) → IsCircleAt g u f → ⊥
no-target g u e f c = let k : None ≡ Some c.to = sym e ∙ c.known in cc

-- nor does one that counts later
pub follows-later : (g : Graph) (u : Using) (found : Option Fault) (o : Fault) → o ≡ fault 16 (place_of u.tree) → is_later found o ≡ true →
    Follows g u found found
follows-later g u None o e h = absurd cc
follows-later g u (Some k) o e h = record {
  first = λ f q. record { stands = inl q; none_before = λ i r. by f i (the-some q) r };
  none = λ q. absurd cc;
}
  where
    later : (b : Bool) → not b ≡ true → b ≡ false
    later true x = absurd cc
    later false x = refl

    by : (f i : Fault) → k ≡ f → (Some k ≡ Some i) ⊎ IsCircleAt g u i → counts_before i f ≡ false
    by f i q (inl x) = let y : i ≡ k = sym (the-some x) in rw (y, ← q) (not-before-itself k)
    by f i q (inr c) = let y : i ≡ o = c.fault_is ∙ sym e in rw (y, ← q) (later (counts_before o k) h)

-- an import on a circle is a fault more
pub follows-circle : (g : Graph) (u : Using) (found : Option Fault) (o : Fault) (to : ℕ) → o ≡ fault 16 (place_of u.tree) → u.to ≡ Some to →
    Reached g to u.home → Follows g u found (earlier found o)
follows-circle g u found o to e k r = by found
  where
    circle : IsCircleAt g u o
    circle = record { to = to; known = k; back = r; fault_is = e }

    one : TellsFirst (IsCircleAt g u) (Some o)
    one = record {
      first = λ f q. record { stands = subst (IsCircleAt g u) (the-some q) circle; none_before = λ i c. at f i (the-some q) c };
      none = λ q. absurd cc;
    }
      where
        at : (f i : Fault) → o ≡ f → IsCircleAt g u i → counts_before i f ≡ false
        at f i q c = let y : i ≡ o = c.fault_is ∙ sym e in rw (y, ← q) (not-before-itself o)

    by : (p : Option Fault) → Follows g u p (earlier p o)
    by None = first-of-both (λ f. None ≡ Some f) (IsCircleAt g u) (λ f. (None ≡ Some f) ⊎ IsCircleAt g u f) (λ f r. r) (λ f x. inl x)
        (λ f x. inr x) None (Some o) (found-first None) one
    by (Some h) = first-of-both (λ f. Some h ≡ Some f) (IsCircleAt g u) (λ f. (Some h ≡ Some f) ⊎ IsCircleAt g u f) (λ f r. r)
        (λ f x. inl x) (λ f x. inr x) (Some h) (Some o) (found-first (Some h)) one

-- ---- all imports

module _ (P Q : Fault → Type 0) (found new : Option Fault) (t : TellsFirst P found) (u : TellsFirst (λ f. (found ≡ Some f) ⊎ Q f) new) where
  -- what tells of what was found and of more, tells of all
  carried-before : (o : Option Fault) → found ≡ o → (f g : Fault) → new ≡ Some f → P g → counts_before g f ≡ false
  carried-before None e f g n p = absurd (t.none e g p)
  carried-before (Some h) e f g n p = by (counts_before g f) refl
    where
      by : (b : Bool) → counts_before g f ≡ b → b ≡ false
      by false x = refl
      by true x = between (before-between g h f x)
        where
          between : (counts_before g h ≡ true) ⊎ (counts_before h f ≡ true) → true ≡ false
          between (inl y) = let z : counts_before g h ≡ false = (t.first h e).none_before g p in absurd cc
          between (inr y) = let z : counts_before h f ≡ false = (u.first f n).none_before h (inl e) in absurd cc

  carried-stands : (f : Fault) → (found ≡ Some f) ⊎ Q f → P f ⊎ Q f
  carried-stands f (inl e) = inl (t.first f e).stands
  carried-stands f (inr q) = inr q

  carried-none : (o : Option Fault) → found ≡ o → new ≡ None → (f : Fault) → P f → ⊥
  carried-none None e n f p = t.none e f p
  carried-none (Some h) e n f p = u.none n h (inl e)

  pub carried : TellsFirst (λ f. P f ⊎ Q f) new
  carried = record {
    first = λ f e. record { stands = carried-stands f (u.first f e).stands; none_before = λ g r. by f e g r };
    none = λ e f r. none-by e f r;
  }
    where
      by : (f : Fault) → new ≡ Some f → (g : Fault) → P g ⊎ Q g → counts_before g f ≡ false
      by f e g (inl p) = carried-before found refl f g e p
      by f e g (inr q) = (u.first f e).none_before g (inr q)

      none-by : new ≡ None → (f : Fault) → P f ⊎ Q f → ⊥
      none-by e f (inl p) = carried-none found refl e f p
      none-by e f (inr q) = u.none e f (inr q)

pub circles-none : (g : Graph) → TellsFirst (IsCircleIn g []) None
circles-none g = first-of-none (IsCircleIn g []) (λ f c. Contains-none c.0 c.1)

-- one import more was followed
pub circles-on : (g : Graph) (us : List Using) (u : Using) (found new : Option Fault) → TellsFirst (IsCircleIn g us) found →
    Follows g u found new → TellsFirst (IsCircleIn g (us ++ u ∷ [])) new
circles-on g us u found new t f =
    first-of-same (λ f. IsCircleIn g us f ⊎ IsCircleAt g u f) (IsCircleIn g (us ++ u ∷ [])) (λ f r. to f r)
    (λ f c. from f c.0 (Contains-push_cases us u c.0 c.1) c.2) new (carried (IsCircleIn g us) (IsCircleAt g u) found new t f)
  where
    to : (f : Fault) → IsCircleIn g us f ⊎ IsCircleAt g u f → IsCircleIn g (us ++ u ∷ []) f
    to f (inl c) = (c.0, Contains-append_left us (u ∷ []) c.0 c.1, c.2)
    to f (inr c) = (u, Contains-push us u, c)

    from : (f : Fault) (v : Using) → Contains us v ⊎ (u ≡ v) → IsCircleAt g v f → IsCircleIn g us f ⊎ IsCircleAt g u f
    from f v (inl x) c = inl (v, x, c)
    from f v (inr e) c = inr (subst (λ w. IsCircleAt g w f) (sym e) c)

pub take-on : {A : Type 0} (xs : List A) (i : ℕ) (x : A) → i < length xs → x ≡ get_or xs i x → take (i + 1) xs ≡ take i xs ++ x ∷ []
take-on [] i x l e = absurd (omega arith)
take-on (y ∷ ys) zero x l e = ap (λ z. z ∷ []) (sym e)
take-on (y ∷ ys) (suc i) x l e = rw add-one (ap (λ zs. y ∷ zs) (rw add-one at (take-on ys i x (omega arith) e)))

-- an element is one of what is seen of the list
pub Contains-seen : {A B : Type 0} (f : A → B) (xs : List A) (i : ℕ) (x : A) → i < length xs → x ≡ get_or xs i x → Contains (map f xs) (f x)
Contains-seen f [] i x l e = absurd (omega arith)
Contains-seen f (y ∷ ys) zero x l e = subst (λ z. Contains (map f (y ∷ ys)) (f z)) (sym e) (Contains-here (f y) (map f ys))
Contains-seen f (y ∷ ys) (suc i) x l e = Contains-behind (f y) (f x) (map f ys) (Contains-seen f ys i x (omega arith) e)
