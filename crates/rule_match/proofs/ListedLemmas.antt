-- Patterns that are listed one by one.
use Rattle.std.proofs.Common.{◌≡◌, ℕ, ◌+◌, ◌<◌, ◌≤◌, Bool, true, false, cond, ◌||◌, nat_eq, List, [], length, map, drop, refl, ap, sym, ◌∙◌}
use Rattle.std.specs.Cmp.{unsigned_Decides}
use Rattle.std.specs.List.{list_any}
use Rattle.indexmap.specs.IndexSet.{contains}
use Rattle.hare_typed.specs.Typed.{TypedNode}
use Rattle.hare_typed.specs.Order.{tree_from_front}
use Rattle.hare_rules.specs.Control.{Pattern, Default, NullPointer, Member, Lacking, same_pattern, pattern_of, stands_among}
use Rattle.rule_judge.proofs.KidLemmas.{drop_front, drop_past}
use Rattle.rule_match.specs.declared.listed.Patterns.{Patterns}
use Rattle.rule_match.specs.declared.patterns.Pattern.{Pattern as Told}
use Rattle.rule_match.specs.Patterns.{meant, holds, AreListed}

-- ---- none

pub none_listed : (q : Patterns) → q.has_default ≡ false → q.has_null ≡ false → q.types.keys ≡ [] → AreListed q []
none_listed q d n h Default = d
none_listed q d n h NullPointer = n
none_listed q d n h (Member t) = ap (λ ts. list_any (nat_eq t) ts) h
none_listed q d n h Lacking = refl

-- ---- one more

nat_eq-same : (t u : ℕ) → nat_eq t u ≡ nat_eq u t
nat_eq-same t u = by (nat_eq t u) refl (nat_eq u t) refl
  where
    by : (a : Bool) → nat_eq t u ≡ a → (b : Bool) → nat_eq u t ≡ b → nat_eq t u ≡ nat_eq u t
    by true e true g = e ∙ sym g
    by false e false g = e ∙ sym g
    by true e false g = let same : t ≡ u = (unsigned_Decides t u).0 e in ap (λ n. nat_eq n u) same ∙ ap (λ n. nat_eq u n) (sym same)
    by false e true g = let same : u ≡ t = (unsigned_Decides u t).0 g in ap (λ n. nat_eq n u) (sym same) ∙ ap (λ n. nat_eq u n) same

either : (t u : ℕ) (o : Bool) → cond (nat_eq t u) true o ≡ (nat_eq u t || o)
either t u o = ap (λ b. cond b true o) (nat_eq-same t u) ∙ by (nat_eq u t)
  where
    by : (b : Bool) → cond b true o ≡ (b || o)
    by true = refl
    by false = refl

module _ (old new : Patterns) where
  pub put : (m : Pattern) (p : Told) → meant p ≡ m → ((q : Pattern) → holds new q ≡ (same_pattern q m || holds old q))
      → (q : Pattern) → holds new q ≡ (same_pattern q (meant p) || holds old q)
  put m p e h q = h q ∙ sym (ap (λ x. same_pattern q x || holds old q) e)

  pub holds-default : new.has_default ≡ true → new.has_null ≡ old.has_null → new.types ≡ old.types → (q : Pattern)
      → holds new q ≡ (same_pattern q Default || holds old q)
  holds-default d n h Default = d
  holds-default d n h NullPointer = n
  holds-default d n h (Member t) = ap (λ ts. contains nat_eq ts t) h
  holds-default d n h Lacking = refl

  pub holds-null : new.has_default ≡ old.has_default → new.has_null ≡ true → new.types ≡ old.types → (q : Pattern)
      → holds new q ≡ (same_pattern q NullPointer || holds old q)
  holds-null d n h Default = d
  holds-null d n h NullPointer = n
  holds-null d n h (Member t) = ap (λ ts. contains nat_eq ts t) h
  holds-null d n h Lacking = refl

  pub holds-member : (t : ℕ) → new.has_default ≡ old.has_default → new.has_null ≡ old.has_null
      → ((u : ℕ) → contains nat_eq new.types u ≡ cond (nat_eq t u) true (contains nat_eq old.types u)) → (q : Pattern)
      → holds new q ≡ (same_pattern q (Member t) || holds old q)
  holds-member t d n h Default = d
  holds-member t d n h NullPointer = n
  holds-member t d n h (Member u) = h u ∙ either t u (contains nat_eq old.types u)
  holds-member t d n h Lacking = refl

-- what has no type is not listed
pub holds-lacking : (old : Patterns) (q : Pattern) → holds old q ≡ (same_pattern q Lacking || holds old q)
holds-lacking old Default = refl
holds-lacking old NullPointer = refl
holds-lacking old (Member t) = refl
holds-lacking old Lacking = refl

-- ---- those of all cases

joined : (x o r all n : Bool) → n ≡ (x || o) → (o || (x || r)) ≡ all → (n || r) ≡ all
joined true true r all n e h = ap (λ b. b || r) e ∙ h
joined true false r all n e h = ap (λ b. b || r) e ∙ h
joined false true r all n e h = ap (λ b. b || r) e ∙ h
joined false false r all n e h = ap (λ b. b || r) e ∙ h

module _ (xs : List TypedNode) (i : ℕ) (p : Pattern) where
  pub listed_more : (x : Pattern) (old new all : Bool) → i < length xs → x ≡ pattern_of (tree_from_front i xs)
      → new ≡ (same_pattern p x || old)
      → (old || stands_among (map pattern_of (drop i xs)) p) ≡ all → (new || stands_among (map pattern_of (drop (i + 1) xs)) p) ≡ all
  listed_more x old new all l e n h =
      joined (same_pattern p x) old (stands_among (map pattern_of (drop (i + 1) xs)) p) all new n
      (ap (λ y. old || (same_pattern p y || stands_among (map pattern_of (drop (i + 1) xs)) p)) e
      ∙ sym (ap (λ ys. old || stands_among (map pattern_of ys) p) (drop_front xs i l)) ∙ h)

  alone : (b : Bool) → b ≡ (b || false)
  alone true = refl
  alone false = refl

  pub listed_all : (old all : Bool) → length xs ≤ i → (old || stands_among (map pattern_of (drop i xs)) p) ≡ all → old ≡ all
  listed_all old all l h = alone old ∙ sym (ap (λ ys. old || stands_among (map pattern_of ys) p) (drop_past xs i l)) ∙ h
