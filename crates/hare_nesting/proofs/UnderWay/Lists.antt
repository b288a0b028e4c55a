-- What is on lists of numbers, and what one list gains over another.
use Rattle.std.proofs.Common.{◌≡◌, ℕ, List, [], ◌∷◌, ◌++◌, map, refl, ap, ◌⊎◌, inl, inr, subst}
use Rattle.hare_tree.specs.Grammar.{IsOn}
use Rattle.hare_nesting.proofs.UnderWay.Stacks.{Gains}

-- ---- lists side by side

pub on_left : (x : ℕ) (a b : List ℕ) → IsOn x a → IsOn x (a ++ b)
on_left x [] b i = absurd i
on_left x (n ∷ a) b (inl e) = inl e
on_left x (n ∷ a) b (inr i) = inr (on_left x a b i)

pub on_right : (x : ℕ) (a b : List ℕ) → IsOn x b → IsOn x (a ++ b)
on_right x [] b i = i
on_right x (n ∷ a) b i = inr (on_right x a b i)

pub on_either : (x : ℕ) (a b : List ℕ) → IsOn x (a ++ b) → IsOn x a ⊎ IsOn x b
on_either x [] b i = inr i
on_either x (n ∷ a) b (inl e) = inl (inl e)
on_either x (n ∷ a) b (inr i) = by (on_either x a b i)
  where
    by : IsOn x a ⊎ IsOn x b → IsOn x (n ∷ a) ⊎ IsOn x b
    by (inl j) = inl (inr j)
    by (inr j) = inr j

-- ---- gains

pub gains_refl : (a : List ℕ) → Gains a a []
gains_refl a = record { kept = λ x i. i; gained = λ x i. absurd i; only = λ x i. inl i }

pub gains_none : (a b : List ℕ) → a ≡ b → Gains a b []
gains_none a b e = subst (λ l. Gains a l []) e (gains_refl a)

-- one after the other
pub gains_both : (a b c x y : List ℕ) → Gains a b x → Gains b c y → Gains a c (y ++ x)
gains_both a b c x y g h = record {
  kept = λ n i. h.kept n (g.kept n i);
  gained = λ n i. gained n (on_either n y x i);
  only = λ n i. only n
      (h.only n i);
}
  where
    gained : (n : ℕ) → IsOn n y ⊎ IsOn n x → IsOn n c
    gained n (inl i) = h.gained n i
    gained n (inr i) = h.kept n (g.gained n i)

    behind : (n : ℕ) → IsOn n a ⊎ IsOn n x → IsOn n a ⊎ IsOn n (y ++ x)
    behind n (inl i) = inl i
    behind n (inr i) = inr (on_right n y x i)

    only : (n : ℕ) → IsOn n b ⊎ IsOn n y → IsOn n a ⊎ IsOn n (y ++ x)
    only n (inl i) = behind n (g.only n i)
    only n (inr i) = inr (on_left n y x i)

pub gains_then : (a b c y : List ℕ) → Gains a b [] → Gains b c y → Gains a c y
gains_then a b c y g h = record { kept = λ n i. h.kept n (g.kept n i); gained = h.gained; only = λ n i. only n (h.only n i) }
  where
    behind : (n : ℕ) → IsOn n a ⊎ IsOn n [] → IsOn n a ⊎ IsOn n y
    behind n (inl i) = inl i
    behind n (inr i) = absurd i

    only : (n : ℕ) → IsOn n b ⊎ IsOn n y → IsOn n a ⊎ IsOn n y
    only n (inl i) = behind n (g.only n i)
    only n (inr i) = inr i

pub gains_after : (a b c x : List ℕ) → Gains a b x → Gains b c [] → Gains a c x
gains_after a b c x g h = gains_both a b c x [] g h

-- the other way round, where nothing is gained
pub gains_back : (a b : List ℕ) → Gains a b [] → Gains b a []
gains_back a b g = record { kept = λ n i. kept n (g.only n i); gained = λ n i. absurd i; only = λ n i. inl (g.kept n i) }
  where
    kept : (n : ℕ) → IsOn n a ⊎ IsOn n [] → IsOn n a
    kept n (inl i) = i
    kept n (inr i) = absurd i

-- with others that were there before
pub gains_known : (a b x y : List ℕ) → Gains a b x → ((n : ℕ) → IsOn n y → IsOn n a) → Gains a b (y ++ x)
gains_known a b x y g k = record { kept = g.kept; gained = λ n i. gained n (on_either n y x i); only = λ n i. only n (g.only n i) }
  where
    gained : (n : ℕ) → IsOn n y ⊎ IsOn n x → IsOn n b
    gained n (inl i) = g.kept n (k n i)
    gained n (inr i) = g.gained n i

    only : (n : ℕ) → IsOn n a ⊎ IsOn n x → IsOn n a ⊎ IsOn n (y ++ x)
    only n (inl i) = inl i
    only n (inr i) = inr (on_right n y x i)

-- ---- gains of lists side by side

pub gains_in_front : (e a : List ℕ) → Gains a (e ++ a) e
gains_in_front e a = record { kept = λ n i. on_right n e a i; gained = λ n i. on_left n e a i; only = λ n i. only n (on_either n e a i) }
  where
    only : (n : ℕ) → IsOn n e ⊎ IsOn n a → IsOn n a ⊎ IsOn n e
    only n (inl i) = inr i
    only n (inr i) = inl i

pub gains_within : (a e r : List ℕ) → Gains (a ++ r) ((a ++ e) ++ r) e
gains_within a e r = record {
  kept = λ n i. kept n (on_either n a r i);
  gained = λ n i. on_left n (a ++ e) r (on_right n a e i);
  only = λ n
      i. only n (on_either n (a ++ e) r i);
}
  where
    kept : (n : ℕ) → IsOn n a ⊎ IsOn n r → IsOn n ((a ++ e) ++ r)
    kept n (inl i) = on_left n (a ++ e) r (on_left n a e i)
    kept n (inr i) = on_right n (a ++ e) r i

    front : (n : ℕ) → IsOn n a ⊎ IsOn n e → IsOn n (a ++ r) ⊎ IsOn n e
    front n (inl i) = inl (on_left n a r i)
    front n (inr i) = inr i

    only : (n : ℕ) → IsOn n (a ++ e) ⊎ IsOn n r → IsOn n (a ++ r) ⊎ IsOn n e
    only n (inl i) = front n (on_either n a e i)
    only n (inr i) = inl (on_right n a r i)

-- what stood in front is what the list behind it gains
pub gains_moved : (a b e : List ℕ) → Gains a b e → Gains (e ++ a) b []
gains_moved a b e g = record { kept = λ n i. kept n (on_either n e a i); gained = λ n i. absurd i; only = λ n i. only n (g.only n i) }
  where
    kept : (n : ℕ) → IsOn n e ⊎ IsOn n a → IsOn n b
    kept n (inl i) = g.gained n i
    kept n (inr i) = g.kept n i

    only : (n : ℕ) → IsOn n a ⊎ IsOn n e → IsOn n (e ++ a) ⊎ IsOn n []
    only n (inl i) = inl (on_right n e a i)
    only n (inr i) = inl (on_left n e a i)

-- what a list has gained stands in front, with others that are new
pub gains_new : (a b d e : List ℕ) → Gains a b e → Gains b ((d ++ e) ++ a) d
gains_new a b d e g = record {
  kept = λ n i. kept n (g.only n i);
  gained = λ n i. on_left n (d ++ e) a (on_left n d e i);
  only = λ n i. only
      n (on_either n (d ++ e) a i);
}
  where
    kept : (n : ℕ) → IsOn n a ⊎ IsOn n e → IsOn n ((d ++ e) ++ a)
    kept n (inl i) = on_right n (d ++ e) a i
    kept n (inr i) = on_left n (d ++ e) a (on_right n d e i)

    front : (n : ℕ) → IsOn n d ⊎ IsOn n e → IsOn n b ⊎ IsOn n d
    front n (inl i) = inr i
    front n (inr i) = inl (g.gained n i)

    only : (n : ℕ) → IsOn n (d ++ e) ⊎ IsOn n a → IsOn n b ⊎ IsOn n d
    only n (inl i) = front n (on_either n d e i)
    only n (inr i) = inl (g.kept n i)

-- ---- values at the numbers of a list

pub on_map : (g : ℕ → ℕ) (x : ℕ) (ks : List ℕ) → IsOn x (map g ks) → (k : ℕ) × IsOn k ks × (x ≡ g k)
on_map g x [] i = absurd i
on_map g x (k ∷ ks) (inl e) = (k, inl refl, e)
on_map g x (k ∷ ks) (inr i) = let r = on_map g x ks i in (r.0, inr r.1, r.2)

pub map_on : (g : ℕ → ℕ) (k : ℕ) (ks : List ℕ) → IsOn k ks → IsOn (g k) (map g ks)
map_on g k (m ∷ ks) (inl e) = inl (ap g e)
map_on g k (m ∷ ks) (inr i) = inr (map_on g k ks i)
map_on g k [] i = absurd i
