-- Functions over two settings of one store that say the same of what these name: there is one tree of each.
use Rattle.std.proofs.Common.{◌≡◌, ℕ, List, [], ◌∷◌, ◌++◌, map, ap, sym, ◌∙◌, subst, length}
use Rattle.hare_tree.specs.Node.{Head, Node, Nodes, branch, none, more}
use Rattle.hare_typed.specs.Typed.{TypedNode, typed_nodes, head_of}
use Rattle.hare_typed.specs.Erased.{erase, erase_each, heads, heads_each}
use Rattle.hare_typed.specs.Numbers.{parameters_of, params_among}
use Rattle.hare_rules.specs.declared.declared.DeclType.{DeclType}
use Rattle.hare_rules.specs.Context.{Ordinary}
use Rattle.hare_rules.specs.Above.{trees_in}
use Rattle.hare_rules.specs.Finished.{IsWell}
use Rattle.hare_modules.specs.Uses.{kid}
use Rattle.hare_whole.specs.Parts.{result_part, type_of_param, written_id, function_known}
use Rattle.hare_whole.specs.Declared.{over_body, before_body, param_ids, AreWellParams, IsWellFunction}
use Rattle.hare_sole.proofs.OneTree.Parts.{Trees, Pair, one, two, AgreeAmong, agree-left, plain-same, type-same, well-same, params-same}
use Rattle.hare_sole.proofs.OneTree.Bindings.{AgreeOnKid}

-- what is known of a function by its tree
abbrev pub known_of_function : ℕ → TypedNode → DeclType
known_of_function n d = function_known n (map type_of_param (parameters_of d)) (result_part d)

-- the untyped kids of a function
abbrev kids_of_function : (export name : Node) → Head → Nodes → (result body : Node) → Nodes
kids_of_function a b h ps r t = more a (more b (more (branch h ps) (more r (more t none))))

module _ (l : Trees) (k : Pair) (n : ℕ) (d e : TypedNode) (erased : erase d ≡ erase e) (h : IsWellFunction (one k) n d)
    (j : IsWellFunction (two k) n e) where
  kids-erased :
      branch (head_of d)
      (kids_of_function (erase h.export_is) (erase h.name) h.params_head (erase_each (typed_nodes h.params)) (erase h.result)
      (erase h.body))
      ≡ branch (head_of e)
      (kids_of_function (erase j.export_is) (erase j.name) j.params_head (erase_each (typed_nodes j.params)) (erase j.result)
      (erase j.body))
  kids-erased = sym (ap erase h.shape) ∙ erased ∙ ap erase j.shape

  bodies-erased : erase h.body ≡ erase j.body
  bodies-erased = let both = kids-erased in cc

  -- ---- parameters and the result

  params-are : AgreeOnKid k (erase d) 2 → h.params ≡ j.params
  params-are g =
      let both = kids-erased in
      let same : erase_each (typed_nodes h.params) ≡ erase_each (typed_nodes j.params) = cc in
      let all = heads_each (erase_each (typed_nodes h.params)) in
      let own : AgreeAmong k (all ++ h.params_head ∷ []) =
      subst (λ (x : Node). AgreeAmong k (heads x)) (ap (λ (z : TypedNode). kid (erase z) 2) h.shape) g in
      let well = subst (λ (x : Node). AreWellParams (two k) n (trees_in x) j.params) (sym bodies-erased) j.well_params in
      params-same l k n (trees_in (erase h.body)) h.params j.params same (agree-left k all (h.params_head ∷ []) own) h.well_params well

  results-are : AgreeOnKid k (erase d) 3 → h.result ≡ j.result
  results-are g =
      let both = kids-erased in
      let own = subst (λ (x : Node). AgreeAmong k (heads x)) (ap (λ (z : TypedNode). kid (erase z) 3) h.shape) g in
      type-same l k n Ordinary h.result j.result (cc) own h.well_result j.well_result

  parameters_of-same : AgreeOnKid k (erase d) 2 → parameters_of d ≡ parameters_of e
  parameters_of-same g =
      ap parameters_of h.shape ∙ ap (λ (ps : List TypedNode). params_among (typed_nodes ps)) (params-are g)
      ∙ sym (ap parameters_of j.shape)

  pub function_known-same : AgreeOnKid k (erase d) 2 → AgreeOnKid k (erase d) 3 → known_of_function n d ≡ known_of_function n e
  function_known-same f g =
      let result = ap result_part h.shape ∙ results-are g ∙ sym (ap result_part j.shape) in
      ap (λ (ps : List TypedNode). function_known n (map type_of_param ps) (result_part d)) (parameters_of-same f)
      ∙ ap (λ (r : TypedNode). function_known n (map type_of_param (parameters_of e)) r) result

  -- ---- the body

  -- what it is judged by, and what it is judged to be
  abbrev IsBody : TypedNode → List TypedNode → Node → Type 0
  IsBody r ps b =
      let ids = map (λ p. written_id (type_of_param p)) ps in
      IsWell (two k) (over_body n (written_id r) (length ids)) (before_body ids b) j.body

  bodies-are : AgreeOnKid k (erase d) 2 → AgreeOnKid k (erase d) 3 → AgreeOnKid k (erase d) 4 → h.body ≡ j.body
  bodies-are f g i =
      let own = subst (λ (x : Node). AgreeAmong k (heads x)) (ap (λ (z : TypedNode). kid (erase z) 4) h.shape) i in
      let first : IsBody h.result (parameters_of e) (erase j.body) =
      subst (λ (r : TypedNode). IsBody r (parameters_of e) (erase j.body)) (sym (results-are g)) j.well_body in
      let second : IsBody h.result (parameters_of d) (erase j.body) =
      subst (λ (ps : List TypedNode). IsBody h.result ps (erase j.body)) (sym (parameters_of-same f)) first in
      let third : IsBody h.result (parameters_of d) (erase h.body) =
      subst (λ (b : Node). IsBody h.result (parameters_of d) b) (sym bodies-erased) second in
      well-same l k (over_body n (written_id h.result) (length (param_ids d))) (before_body (param_ids d) (erase h.body)) h.body j.body
      bodies-erased own h.well_body third

  -- ---- the whole

  pub function-same : AgreeOnKid k (erase d) 2 → AgreeOnKid k (erase d) 3 → AgreeOnKid k (erase d) 4 → d ≡ e
  function-same f g i =
      let both = kids-erased in
      let head : head_of d ≡ head_of e = cc in
      let export : h.export_is ≡ j.export_is = plain-same l k h.export_is j.export_is (cc) h.plain_export j.plain_export in
      let name : h.name ≡ j.name = plain-same l k h.name j.name (cc) h.plain_name j.plain_name in
      let front : h.params_head ≡ j.params_head = cc in
      let params = params-are f in
      let result = results-are g in
      let body = bodies-are f g i in
      cc
