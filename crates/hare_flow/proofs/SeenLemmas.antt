-- What has been seen, in one field or another.
use Rattle.std.proofs.Common.{◌≡◌, ℕ, zero, suc, List, [], ◌∷◌, refl, ap, ◌∙◌}
use Rattle.std.specs.Prelude.{map, slice_set}
use Rattle.hare_types.specs.declared.coercion.Coercion.{Coercion}
use Rattle.hare_rules.specs.Flow.{Flow, Yielded}
use Rattle.hare_flow.specs.declared.seen.Binding.{Binding}
use Rattle.hare_flow.specs.declared.yields.Yield.{Yield}
use Rattle.hare_flow.specs.declared.coercions.Settled.{Settled}
use Rattle.hare_flow.specs.Seen.{yielded_of, flow_of}

pub with_yields : (bs : List Binding) (ys new : List Yield) (cs : List Coercion) (ss : List Settled) (f : Flow) (vs : List Yielded) →
    flow_of bs ys cs ss ≡ f → map yielded_of new ≡ vs
    → flow_of bs new cs ss ≡ record f { yields = vs }
with_yields bs ys new cs ss f vs e h =
    ap (λ us. let g : Flow = record (flow_of bs ys cs ss) { yields = us } in g) h ∙ ap
    (λ (g : Flow). let k : Flow = record g { yields = vs } in k) e

pub map_set : {A B : Type 0} (f : A → B) (xs : List A) (i : ℕ) (a : A) → map f (slice_set xs i a) ≡ slice_set (map f xs) i (f a)
map_set f [] zero a = refl
map_set f [] (suc i) a = refl
map_set f (x ∷ xs) zero a = refl
map_set f (x ∷ xs) (suc i) a = ap (λ ys. f x ∷ ys) (map_set f xs i a)
