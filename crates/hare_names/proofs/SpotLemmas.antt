-- The paths of a tree, by the scopes in which they stand and by the locals that are visible there.
use Rattle.std.proofs.Common.{◌≡◌, ℕ, ◌+◌, List, [], ◌∷◌, ◌++◌, Bool, true, false, map, refl, ap, ◌∙◌, append_assoc, if◌then◌else◌}
use Rattle.std.specs.Prelude.{◌||◌}
use Rattle.std.proofs.lemmas.List.{map-append}
use Rattle.hare_tree.specs.declared.kind.Kind.{Kind}
use Rattle.hare_tree.specs.Node.{Head, Node, Nodes, branch, none, more}
use Rattle.hare_names.specs.Scopes.{Local, Scopes, entered, with_locals, visible, is_scope, is_for_each, bindings_in, bound_by, bound_itself}
use Rattle.hare_names.specs.Paths.{Path, path_of, path_at, is_type_path, is_value_path, before_kids, scopes_within, paths_in, paths_among, paths_of_loop}
use Rattle.hare_names.specs.Spots.{Spot, spot_at, spots_in, spots_among, spots_of_loop}

abbrev pub spot_of : Path → Spot
spot_of p = record { place = p.place; names = p.names; is_type = p.is_type; locals = visible p.scopes }

pub visible-with : (ls : List Local) (ss : Scopes) → visible (with_locals ls ss) ≡ ls ++ visible ss
visible-with ls [] = refl
visible-with ls (s ∷ ss) = append_assoc ls s (visible ss)

pub visible-within : (k : Kind) (ss : Scopes) → visible (scopes_within k ss) ≡ visible ss
visible-within k ss = by (is_scope k)
  where
    by : (b : Bool) → visible (if b then entered ss else ss) ≡ visible ss
    by true = refl
    by false = refl

own-spot : (h : Head) (ss : Scopes) → map spot_of (path_at h ss) ≡ spot_at h (visible ss)
own-spot h ss = by (is_type_path h.kind || is_value_path h.kind)
  where
    by : (b : Bool) → map spot_of (if b then path_of h ss ∷ [] else []) ≡ (if b then spot_of (path_of h ss) ∷ [] else [])
    by true = refl
    by false = refl

both : (ps qs : List Path) (xs ys : List Spot) → map spot_of ps ≡ xs → map spot_of qs ≡ ys → map spot_of (ps ++ qs) ≡ xs ++ ys
both ps qs xs ys e d = map-append spot_of ps qs ∙ ap (λ zs. zs ++ map spot_of qs) e ∙ ap (λ zs. xs ++ zs) d

mutual
  pub spots-in : (n : ℕ) (ss : Scopes) (t : Node) → map spot_of (paths_in n ss t) ≡ spots_in n (visible ss) t
  spots-in n ss (branch h ts) =
      both (path_at h ss) kids (spot_at h (visible ss)) seen (own-spot h ss)
      (by (is_for_each h.kind) (spots-loop (before_kids n h.kind) (scopes_within h.kind ss) ts
      ∙ ap (λ ls. spots_of_loop (before_kids n h.kind) ls ts) (visible-within h.kind ss))
      (spots-among (before_kids n h.kind) (scopes_within h.kind ss) ts
      ∙ ap (λ ls. spots_among (before_kids n h.kind) ls ts) (visible-within h.kind ss)))
    where
      kids : List Path
      kids = if is_for_each h.kind then paths_of_loop (before_kids n h.kind) (scopes_within h.kind ss) ts else paths_among
          (before_kids n h.kind) (scopes_within h.kind ss) ts

      seen : List Spot
      seen = if is_for_each h.kind then spots_of_loop (before_kids n h.kind) (visible ss) ts else spots_among (before_kids n h.kind)
          (visible ss) ts

      by : (b : Bool) →
          map spot_of (paths_of_loop (before_kids n h.kind) (scopes_within h.kind ss) ts) ≡ spots_of_loop (before_kids n h.kind)
          (visible ss) ts →
          map spot_of (paths_among (before_kids n h.kind) (scopes_within h.kind ss) ts) ≡ spots_among (before_kids n h.kind)
          (visible ss) ts →
          map spot_of (if b then paths_of_loop (before_kids n h.kind) (scopes_within h.kind ss) ts else paths_among (before_kids n h.kind)
          (scopes_within h.kind ss) ts) ≡ (if b then spots_of_loop (before_kids n h.kind) (visible ss) ts else spots_among
          (before_kids n h.kind) (visible ss) ts)
      by true e d = e
      by false e d = d

  pub spots-among : (n : ℕ) (ss : Scopes) (ts : Nodes) → map spot_of (paths_among n ss ts) ≡ spots_among n (visible ss) ts
  spots-among n ss none = refl
  spots-among n ss (more t ts) =
      both (paths_in n ss t) (paths_among (n + bindings_in t) (with_locals (bound_by n t) ss) ts) (spots_in n (visible ss) t)
      (spots_among (n + bindings_in t) (bound_by n t ++ visible ss) ts)
      (spots-in n ss t)
      (spots-among (n + bindings_in t) (with_locals (bound_by n t) ss) ts
      ∙ ap (λ ls. spots_among (n + bindings_in t) ls ts) (visible-with (bound_by n t) ss))

  pub spots-loop : (n : ℕ) (ss : Scopes) (ts : Nodes) → map spot_of (paths_of_loop n ss ts) ≡ spots_of_loop n (visible ss) ts
  spots-loop n ss none = refl
  spots-loop n ss (more b none) = spots-in n ss b
  spots-loop n ss (more b (more over ts)) =
      both (paths_in n ss b ++ paths_in (n + bindings_in b) ss over)
      (paths_among (n + bindings_in b + bindings_in over) (with_locals (bound_itself n b) ss) ts)
      (spots_in n (visible ss) b ++ spots_in (n + bindings_in b) (visible ss) over)
      (spots_among (n + bindings_in b + bindings_in over) (bound_itself n b ++ visible ss) ts)
      (both (paths_in n ss b) (paths_in (n + bindings_in b) ss over) (spots_in n (visible ss) b)
      (spots_in (n + bindings_in b) (visible ss) over) (spots-in n ss b) (spots-in (n + bindings_in b) ss over))
      (spots-among (n + bindings_in b + bindings_in over) (with_locals (bound_itself n b) ss) ts
      ∙ ap (λ ls. spots_among (n + bindings_in b + bindings_in over) ls ts) (visible-with (bound_itself n b) ss))
