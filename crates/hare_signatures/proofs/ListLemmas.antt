-- How the types that are written in a declaration are listed.
use Rattle.std.proofs.Common.{◌≡◌, ℕ, ◌+◌, ◌<◌, List, [], ◌∷◌, ◌++◌, map, filter, length, take, Some, sym, ap, ◌∙◌, append_assoc}
use Rattle.std.specs.Prelude.{slice_get, slice_index_or, option_map}
use Rattle.std.proofs.lemmas.Option.{slice_get-map, slice_get-get_or}
use Rattle.std.proofs.lemmas.List.{map-append}
use Rattle.std.proofs.lemmas.List.Elements.{filter-append}
use Rattle.hare_tree.specs.declared.kind.Kind.TheVariants as ki
use Rattle.hare_tree.specs.Node.{Node, head}
use Rattle.hare_typed.proofs.KidLemmas.{take-get}
use Rattle.hare_modules.specs.Uses.{kid, kids}
use Rattle.hare_depends.specs.Sorts.{sort_by}
use Rattle.hare_rules.specs.Context.{Ordinary, BindingType}
use Rattle.hare_whole.specs.Listing.{Written, is_param, written_by, written_types}
use Rattle.hare_signatures.specs.declared.listed.Written.{Written as Listed}
use Rattle.hare_signatures.specs.Listed.{written_of, types_among}

-- ---- parameters

types_among-append : (ts us : List Node) → types_among (ts ++ us) ≡ types_among ts ++ types_among us
types_among-append ts us =
    ap (map (λ p. (BindingType, kid p 0))) (filter-append (λ p. is_param (head p).kind) ts us)
    ∙ map-append (λ p. (BindingType, kid p 0)) (filter (λ p. is_param (head p).kind) ts) (filter (λ p. is_param (head p).kind) us)

-- one tree more
pub types_among-next : (ts : List Node) (i : ℕ) (t : Node) (old done new : List Written) → slice_get ts i ≡ Some t →
    done ≡ old ++ types_among (take i ts) → new ≡ done ++ types_among (t ∷ []) → new ≡ old ++ types_among (take (i + 1) ts)
types_among-next ts i t old done new g d n =
    n ∙ ap (λ ws. ws ++ types_among (t ∷ [])) d ∙ append_assoc old (types_among (take i ts)) (types_among (t ∷ []))
    ∙ ap (λ ws. old ++ ws) (sym (types_among-append (take i ts) (t ∷ []))) ∙ ap (λ us. old ++ types_among us) (sym (take-get ts i t g))

-- ---- functions

-- behind the types of the parameters of a function stands that of its result
pub types-of_function : (t r : Node) (ps : List Node) (old done new : List Written) → (head t).kind ≡ ki.Fn →
    kids (kid t 2) ≡ ps → r ≡ kid t 3 → done ≡ old ++ types_among ps → new ≡ done ++ (Ordinary, r) ∷ [] → new ≡ old ++ written_types t
types-of_function t r ps old done new k p e d n =
    let whole : types_among (kids (kid t 2)) ++ (Ordinary, kid t 3) ∷ [] ≡ written_types t = ap (λ j. written_by (sort_by j t) t) (sym k) in
    let result : types_among ps ++ (Ordinary, r) ∷ [] ≡ types_among (kids (kid t 2)) ++ (Ordinary, kid t 3) ∷ [] =
    ap (λ us. types_among us ++ (Ordinary, r) ∷ []) (sym p) ∙ ap (λ u. types_among (kids (kid t 2)) ++ (Ordinary, u) ∷ []) e in
    n ∙ ap (λ ws. ws ++ (Ordinary, r) ∷ []) d ∙ append_assoc old (types_among ps) ((Ordinary, r) ∷ [])
    ∙ ap (λ ws. old ++ ws) (result ∙ whole)

-- ---- one of them

-- what is listed at a place is the written type there
pub written-there : (ws : List Listed) (rs : List Written) (i : ℕ) (w : Listed) → map written_of ws ≡ rs → i < length ws →
    w ≡ slice_index_or ws i w → slice_get rs i ≡ Some (written_of w)
written-there ws rs i w e l g =
    ap (λ qs. slice_get qs i) (sym e) ∙ slice_get-map written_of ws i
    ∙ ap (option_map written_of) (slice_get-get_or ws i w l ∙ ap Some (sym g))
