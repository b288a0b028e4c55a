-- The order of three types, of which the first holds the third: `type a = struct { f: c }; type b = int; type c = int;` are judged as c, a,
-- b.
use Rattle.std.proofs.Common.{◌≡◌, ℕ, ◌<◌, List, [], ◌∷◌, ◌⊎◌, inl, inr, length, take, slice_get, Some, refl, sym, subst, zero, suc, arith}
use Rattle.std.specs.Prelude.{Contains}
use Rattle.hare_graph.proofs.Elements.{Contains-none, Contains-cases, Contains-here, Contains-behind}
use Rattle.hare_depends.specs.declared.said.Said.{Said}
use Rattle.hare_depends.specs.declared.said.Sort.TheVariants as so
use Rattle.hare_depends.specs.Dependence.{DependsOn, needed, mentioned}
use Rattle.hare_depends.specs.Order.{IsFirstLeft, Descends, arrives, goes_on, IsAny, IsNext, IsOrder}
use Rattle.hare_depends.proofs.Samples.{says}

abbrev three : List Said
three = says so.Type 5 (2 ∷ []) [] [] ∷ says so.Type 25 [] [] [] ∷ says so.Type 40 [] [] [] ∷ []

abbrev c_a_b : List ℕ
c_a_b = 2 ∷ 0 ∷ 1 ∷ []

-- ---- what they depend on

the_only : (x e : ℕ) → Contains (x ∷ []) e → e ≡ x
the_only x e c = by (Contains-cases x e [] c)
  where
    by : (x ≡ e) ⊎ Contains [] e → e ≡ x
    by (inl q) = sym q
    by (inr n) = absurd (Contains-none e n)

first_needs : (e : ℕ) → DependsOn three 0 e → e ≡ 2
first_needs e (needed d c) = the_only 2 e c
first_needs e (mentioned d t h c m) = absurd cc

second_needs : (e : ℕ) → DependsOn three 1 e → ⊥
second_needs e (needed d c) = Contains-none e c
second_needs e (mentioned d t h c m) = absurd cc

third_needs : (e : ℕ) → DependsOn three 2 e → ⊥
third_needs e (needed d c) = Contains-none e c
third_needs e (mentioned d t h c m) = absurd cc

-- ---- their turns

not_the_only : (x e : ℕ) → (e ≡ x → ⊥) → Contains (x ∷ []) e → ⊥
not_the_only x e n c = n (the_only x e c)

first_turn : IsNext three [] 2
first_turn = record {
  from = 0;
  first = record { is_there = omega arith; is_left = Contains-none 0; holds = tt; first = λ c l. absurd (omega arith) };
  descends =
      goes_on 0 2 2
      (record {
        is_there = omega arith;
        is_left = Contains-none 2;
        holds = needed 2 (Contains-here 2 []);
        first = λ c l n h. omega (arith, first_needs c h);
      })
      (arrives 2 (λ e h. absurd (third_needs e h)));
}

second_turn : IsNext three (2 ∷ []) 0
second_turn = record {
  from = 0;
  first = record {
    is_there = omega arith;
    is_left = not_the_only 2 0 (λ e. omega (arith, e));
    holds = tt;
    first = λ c l. absurd
        (omega arith);
  };
  descends = arrives 0 (λ e h. subst (Contains (2 ∷ [])) (sym (first_needs e h)) (Contains-here 2 []));
}

abbrev done : List ℕ
done = 2 ∷ 0 ∷ []

both : (x y e : ℕ) → (e ≡ x → ⊥) → (e ≡ y → ⊥) → Contains (x ∷ y ∷ []) e → ⊥
both x y e n m c = by (Contains-cases x e (y ∷ []) c)
  where
    by : (x ≡ e) ⊎ Contains (y ∷ []) e → ⊥
    by (inl q) = n (sym q)
    by (inr k) = not_the_only y e m k

not_done : Contains done 1 → ⊥
not_done c = both 2 0 1 (λ e. omega (arith, e)) (λ e. omega (arith, e)) c

third_turn : IsNext three done 1
third_turn = record {
  from = 1;
  first = record { is_there = omega arith; is_left = not_done; holds = tt; first = before };
  descends = arrives 1 (λ e h. absurd (second_needs e h));
}
  where
    before : (c : ℕ) → c < 1 → (Contains done c → ⊥) → IsAny c → ⊥
    before zero l n h = n (Contains-behind 2 0 (0 ∷ []) (Contains-here 0 []))
    before (suc c) l n h = omega (arith, l)

-- ---- the order

pub order_of_three : IsOrder three c_a_b
order_of_three = record { all = all; in_turn = in_turn }
  where
    all : (d : ℕ) → d < 3 → Contains c_a_b d
    all zero l = Contains-behind 2 0 (0 ∷ 1 ∷ []) (Contains-here 0 (1 ∷ []))
    all (suc zero) l = Contains-behind 2 1 (0 ∷ 1 ∷ []) (Contains-behind 0 1 (1 ∷ []) (Contains-here 1 []))
    all (suc (suc zero)) l = Contains-here 2 (0 ∷ 1 ∷ [])
    all (suc (suc (suc d))) l = absurd (omega (arith, l))

    in_turn : (k d : ℕ) → slice_get c_a_b k ≡ Some d → IsNext three (take k c_a_b) d
    in_turn zero d e = let q : 2 ≡ d = cc in subst (IsNext three []) q first_turn
    in_turn (suc zero) d e = let q : 0 ≡ d = cc in subst (IsNext three (2 ∷ [])) q second_turn
    in_turn (suc (suc zero)) d e = let q : 1 ≡ d = cc in subst (IsNext three done) q third_turn
    in_turn (suc (suc (suc k))) d e = absurd cc
