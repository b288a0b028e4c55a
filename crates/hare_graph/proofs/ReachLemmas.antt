-- What a label that spreads tells of what is reached.
use Rattle.std.proofs.Common.{◌≡◌, ◌⊎◌, inl, inr, ◌↔◌, IsTrue, ℕ, ◌<◌, List, Bool, true, false, length, replicate, Option, Some, None, is_some, refl, sym, ap, ◌∙◌, subst, suc, zero, arith}
use Rattle.std.proofs.lemmas.List.{length-replicate}
use Rattle.hare_graph.specs.Graphs.{Graph, Reached, at_start, along, label_of, IsLabelled, Spreads}
use Rattle.hare_graph.specs.Ranks.{StaysWithin}

pub label_of-replicate : (n a : ℕ) → label_of (replicate n None) a ≡ None
label_of-replicate zero a = refl
label_of-replicate (suc n) zero = refl
label_of-replicate (suc n) (suc a) = label_of-replicate n a

module _ (g : Graph) (start k : ℕ) (old new : List (Option ℕ)) (free : old ≡ replicate (length g) None) (stays : StaysWithin g)
    (there : start < length g) (s : Spreads g start k old new) where
  none-old : (a : ℕ) → label_of old a ≡ None
  none-old a = ap (λ ls. label_of ls a) free ∙ label_of-replicate (length g) a

  size-old : length old ≡ length g
  size-old = ap length free ∙ length-replicate (length g) None

  reached-labelled : {b : ℕ} → Reached g start b → IsLabelled new b
  reached-labelled at_start = s.started (omega (arith, size-old))
  reached-labelled (along a b r h) =
      let l : b < length g = stays a b h in s.closed a b (none-old a) (reached-labelled r) h (omega (arith, size-old))

  labelled-reached : (b : ℕ) → IsLabelled new b → Reached g start b
  labelled-reached b l = by (s.fresh b l.0 l.1)
    where
      by : (label_of old b ≡ Some l.0) ⊎ ((label_of old b ≡ None) × (l.0 ≡ k) × Reached g start b) → Reached g start b
      by (inl e) = let n : label_of old b ≡ None = none-old b in absurd cc
      by (inr h) = h.2

  pub reached-by-labels : (b : ℕ) (o : Option ℕ) (r : Bool) → o ≡ label_of new b → r ≡ is_some o → IsTrue r ↔ Reached g start b
  reached-by-labels b o r e f = (λ t. labelled-reached b (some-of o r t f e), λ q. by (reached-labelled q))
    where
      some-of : (o : Option ℕ) (r : Bool) → IsTrue r → r ≡ is_some o → o ≡ label_of new b → IsLabelled new b
      some-of (Some l) r t f e = (l, sym e)
      some-of None r t f e = let x : false ≡ true = subst IsTrue f t in absurd cc

      by : IsLabelled new b → IsTrue r
      by l = let h : r ≡ true = f ∙ ap is_some (e ∙ l.1) in h
