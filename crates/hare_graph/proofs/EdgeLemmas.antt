-- Edges of graphs, and graphs with their edges the other way round.
use Rattle.std.proofs.Common.{◌≡◌, ◌⊎◌, inl, inr, ℕ, ◌<◌, [], ◌∷◌, ◌++◌, Bool, true, false, length, get_or, set, nat_lt, refl, sym, ap, ◌∙◌, subst, suc, zero, arith}
use Rattle.std.specs.Prelude.{Contains}
use Rattle.std.proofs.lemmas.Bool.{ltb-true, lt-ltb}
use Rattle.std.proofs.lemmas.List.{length-set, get_or-set_same, get_or-set_other, length-replicate}
use Rattle.std.proofs.lemmas.List.Elements.{Contains-push, Contains-append_left, Contains-push_cases}
use Rattle.hare_graph.specs.Graphs.{Graph, HasEdge, edgeless, with_edge}
use Rattle.hare_graph.specs.Ranks.{StaysWithin, IsReverse}
use Rattle.hare_graph.proofs.Elements.{Contains-none, Other, other}

past : (g : Graph) (a b : ℕ) → nat_lt a (length g) ≡ false → with_edge g a b ≡ g
past g a b e = rw e refl

within : (g : Graph) (a b : ℕ) → nat_lt a (length g) ≡ true → with_edge g a b ≡ set g a (get_or g a [] ++ b ∷ [])
within g a b e = rw e refl

-- a graph with an edge more, or none
abbrev Grown : Graph → ℕ → ℕ → Graph → Type 0
Grown g a b h = ((nat_lt a (length g) ≡ true) × (h ≡ set g a (get_or g a [] ++ b ∷ []))) ⊎ ((nat_lt a (length g) ≡ false) × (h ≡ g))

grown : (g : Graph) (a b : ℕ) → Grown g a b (with_edge g a b)
grown g a b = by (nat_lt a (length g)) refl
  where
    by : (c : Bool) → nat_lt a (length g) ≡ c → Grown g a b (with_edge g a b)
    by true e = inl (e, within g a b e)
    by false e = inr (e, past g a b e)

pub length-with_edge : (g : Graph) (a b : ℕ) → length (with_edge g a b) ≡ length g
length-with_edge g a b = by (grown g a b)
  where
    by : Grown g a b (with_edge g a b) → length (with_edge g a b) ≡ length g
    by (inl e) = rw e.1 (length-set g a (get_or g a [] ++ b ∷ []))
    by (inr e) = ap length e.1

module _ (g : Graph) (a b : ℕ) where
  pub edge-kept : (x y : ℕ) → HasEdge g x y → HasEdge (with_edge g a b) x y
  edge-kept x y h = by (grown g a b) (other x a)
    where
      by : Grown g a b (with_edge g a b) → Other x a → HasEdge (with_edge g a b) x y
      by (inr e) o = subst (λ k. HasEdge k x y) (sym e.1) h
      by (inl e) (inr o) =
          subst (λ k. HasEdge k x y) (sym e.1) (subst (λ ns. Contains ns y) (sym (get_or-set_other g a x (get_or g a [] ++ b ∷ []) [] o)) h)
      by (inl e) (inl o) =
          subst (λ k. HasEdge k x y) (sym e.1)
          (subst (λ z. HasEdge (set g a (get_or g a [] ++ b ∷ [])) z y) (sym o)
          (subst (λ ns. Contains ns y) (sym (get_or-set_same g a (get_or g a [] ++ b ∷ []) [] (ltb-true a (length g) e.0)))
          (Contains-append_left (get_or g a []) (b ∷ []) y (subst (λ z. HasEdge g z y) o h))))

  pub edge-new : a < length g → HasEdge (with_edge g a b) a b
  edge-new l =
      subst (λ k. HasEdge k a b) (sym (within g a b (lt-ltb a (length g) l)))
      (subst (λ ns. Contains ns b) (sym (get_or-set_same g a (get_or g a [] ++ b ∷ []) [] l)) (Contains-push (get_or g a []) b))

  pub edge-from : (x y : ℕ) → HasEdge (with_edge g a b) x y → HasEdge g x y ⊎ ((x ≡ a) × (y ≡ b))
  edge-from x y h = by (grown g a b) (other x a)
    where
      pushed : x ≡ a → Contains (get_or g a []) y ⊎ (b ≡ y) → HasEdge g x y ⊎ ((x ≡ a) × (y ≡ b))
      pushed o (inl c) = inl (subst (λ z. HasEdge g z y) (sym o) c)
      pushed o (inr e) = inr (o, sym e)

      by : Grown g a b (with_edge g a b) → Other x a → HasEdge g x y ⊎ ((x ≡ a) × (y ≡ b))
      by (inr e) o = inl (subst (λ k. HasEdge k x y) e.1 h)
      by (inl e) (inr o) =
          inl (subst (λ ns. Contains ns y) (get_or-set_other g a x (get_or g a [] ++ b ∷ []) [] o) (subst (λ k. HasEdge k x y) e.1 h))
      by (inl e) (inl o) =
          pushed o (Contains-push_cases (get_or g a []) b y
          (subst (λ ns. Contains ns y) (get_or-set_same g a (get_or g a [] ++ b ∷ []) [] (ltb-true a (length g) e.0))
          (subst (λ z. HasEdge (set g a (get_or g a [] ++ b ∷ [])) z y) o (subst (λ k. HasEdge k x y) e.1 h))))

-- a graph of so many nodes, and the same the other way round
pub record Both (count : ℕ) (g h : Graph) : Type 0 where
  pub length_is : length g ≡ count
  pub reverse : IsReverse g h
  pub stays : StaysWithin g

pub both-on : (count : ℕ) (g h : Graph) (a b : ℕ) → a < count → b < count → Both count g h → Both count (with_edge g a b) (with_edge h b a)
both-on count g h a b la lb t = record {
  length_is = length-with_edge g a b ∙ t.length_is;
  reverse = record {
    size = length-with_edge h b a ∙ t.reverse.size ∙ sym (length-with_edge g a b);
    back = λ x y e. by x y (edge-from g a b x y e);
  };
  stays = λ x y e. let l : length (with_edge g a b) ≡ length g = length-with_edge g a b in within-by x y (edge-from g a b x y e) l;
}
  where
    by : (x y : ℕ) → HasEdge g x y ⊎ ((x ≡ a) × (y ≡ b)) → HasEdge (with_edge h b a) y x
    by x y (inl e) = edge-kept h b a y x (t.reverse.back x y e)
    by x y (inr e) = subst (λ z. HasEdge (with_edge h b a) z x) (sym e.1)
        (subst (λ z. HasEdge (with_edge h b a) b z) (sym e.0) (edge-new h b a (omega (arith, t.length_is, t.reverse.size))))

    within-by : (x y : ℕ) → HasEdge g x y ⊎ ((x ≡ a) × (y ≡ b)) → length (with_edge g a b) ≡ length g → y < length (with_edge g a b)
    within-by x y (inl e) l = let m : y < length g = t.stays x y e in omega arith
    within-by x y (inr e) l = let q : y ≡ b = e.1 in omega (arith, t.length_is)

pub no-edges : (n a b : ℕ) → HasEdge (edgeless n) a b → ⊥
no-edges n a b h = Contains-none b (subst (λ ns. Contains ns b) (get_or-replicate n a) h)
  where
    get_or-replicate : (n a : ℕ) → get_or (edgeless n) a [] ≡ []
    get_or-replicate zero a = refl
    get_or-replicate (suc n) zero = refl
    get_or-replicate (suc n) (suc a) = get_or-replicate n a

pub start-both : (count : ℕ) → Both count (edgeless count) (edgeless count)
start-both count = record {
  length_is = length-replicate count [];
  reverse = record { size = refl; back = λ a b h. absurd (no-edges count a b h) };
  stays = λ a b h. absurd (no-edges count a b h);
}
