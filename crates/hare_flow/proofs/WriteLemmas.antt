-- Coercions that are written, one by one.
use Rattle.std.proofs.Common.{◌≡◌, ℕ, ◌+◌, ◌<◌, ◌≤◌, List, length, drop, get_or, ap, sym, ◌∙◌}
use Rattle.std.specs.Prelude.{map, slice_set}
use Rattle.hare_types.specs.declared.coercion.Coercion.{Coercion}
use Rattle.hare_rules.specs.Flow.{write_each}
use Rattle.hare_flow.specs.declared.coercions.Settled.{Settled}
use Rattle.hare_flow.specs.Seen.{settled_of}
use Rattle.hare_flow.proofs.YieldLemmas.{drop_get, drop_none}

pub written_more : (ss : List Settled) (i : ℕ) (x : Settled) (cs new all : List Coercion) → i < length ss → x ≡ get_or ss i x →
    new ≡ slice_set cs x.node x.coercion
    → write_each (map settled_of (drop i ss)) cs ≡ all → write_each (map settled_of (drop (i + 1) ss)) new ≡ all
written_more ss i x cs new all h e k g =
    ap (write_each (map settled_of (drop (i + 1) ss))) k ∙ sym (ap (λ zs. write_each (map settled_of zs) cs) (drop_get ss i x h e)) ∙ g

pub written_end : (ss : List Settled) (i : ℕ) (cs all : List Coercion) → length ss ≤ i → write_each (map settled_of (drop i ss)) cs ≡ all →
    cs ≡ all
written_end ss i cs all h g = sym (ap (λ zs. write_each (map settled_of zs) cs) (drop_none ss i h)) ∙ g
