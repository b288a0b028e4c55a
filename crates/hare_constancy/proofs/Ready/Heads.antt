-- The tree of which a constant is asked for has the heads of the finished one.
use Rattle.std.proofs.Common.{◌≡◌, ◌∙◌, ap, refl, ℕ, suc, List, [], map, Option, Some, None}
use Rattle.hare_tree.specs.Node.{Node, branch, more}
use Rattle.hare_types.specs.declared.coercion.Coercion.{Coercion}
use Rattle.hare_typed.specs.Typed.{TypedNode, TypedNodes, marked, typed_none, typed_more, typed_nodes}
use Rattle.hare_typed.specs.Coats.{coat, coat_each, with_coercion}
use Rattle.hare_typed.specs.Erased.{erase, erase_each}
use Rattle.hare_rules.specs.Above.{Above}
use Rattle.hare_rules.specs.Context.{Setting, Context}
use Rattle.hare_rules.specs.Finished.{bare, bare_each, behind_each}
use Rattle.hare_rules.specs.Flow.{Flow, context}
use Rattle.hare_rules.specs.Settles.{target_of, settled_kid, settled_from}
use Rattle.hare_inference.proofs.Bares.{erase-bare}
use Rattle.hare_inference.proofs.Coats.{erase-coat}
use Rattle.hare_constancy.specs.Texts.{HasShortTexts, HaveShortTexts}
use Rattle.hare_constancy.specs.Well.{asked}

-- ---- untyped trees

erase-settled_kid : (c : Context) (i : ℕ) (o : Option ℕ) (x : TypedNode) → erase (settled_kid c i o x) ≡ erase x
erase-settled_kid c i None x = refl
erase-settled_kid c i (Some u) (marked h m ts) = refl

erase-settled_from : (c : Context) (i : ℕ) (cs : List Coercion) (ts : TypedNodes) →
    erase_each (typed_nodes (settled_from c i (map (coat cs) (bare_each ts)))) ≡ erase_each ts
erase-settled_from c i cs typed_none = refl
erase-settled_from c i cs (typed_more t ts) =
    let x = coat cs (bare t) in
    let one : erase (settled_kid c i (target_of c c.head.kind i) x) ≡ erase t =
    erase-settled_kid c i (target_of c c.head.kind i) x ∙ erase-coat cs (bare t) ∙ erase-bare t in
    let rest = erase-settled_from c (suc i) cs ts in
    ap (λ (y : Node). more y (erase_each (typed_nodes (settled_from c (suc i) (map (coat cs) (bare_each ts)))))) one
    ∙ ap (more (erase t)) rest

pub erase-asked : (w : Setting) (a : Above) (f : Flow) (r : Coercion) (t : TypedNode) → erase (asked w a f r t) ≡ erase t
erase-asked w a f r (marked h m ts) =
    let g = behind_each w a h [] ts f in
    ap (branch h) (erase-settled_from (context w a h (bare_each ts) g) 0 g.coercions ts)

pub erase-with_coercion : (r : Coercion) (t : TypedNode) → erase (with_coercion r t) ≡ erase t
erase-with_coercion r (marked h m ts) = refl

-- ---- strings

mutual
  short-hand : (cs : List Coercion) (t : TypedNode) → HasShortTexts t → HasShortTexts (coat cs (bare t))
  short-hand cs (marked h m ts) p = (p.0, short_each-hand cs ts p.1)

  short_each-hand : (cs : List Coercion) (ts : TypedNodes) → HaveShortTexts ts → HaveShortTexts (coat_each cs (typed_nodes (bare_each ts)))
  short_each-hand cs typed_none p = tt
  short_each-hand cs (typed_more t ts) p = (short-hand cs t p.0, short_each-hand cs ts p.1)

short-settled_kid : (c : Context) (i : ℕ) (o : Option ℕ) (x : TypedNode) → HasShortTexts x → HasShortTexts (settled_kid c i o x)
short-settled_kid c i None x p = p
short-settled_kid c i (Some u) (marked h m ts) p = p

short-settled_from : (c : Context) (i : ℕ) (cs : List Coercion) (ts : TypedNodes) → HaveShortTexts ts →
    HaveShortTexts (typed_nodes (settled_from c i (map (coat cs) (bare_each ts))))
short-settled_from c i cs typed_none p = tt
short-settled_from c i cs (typed_more t ts) p =
    (short-settled_kid c i (target_of c c.head.kind i) (coat cs (bare t)) (short-hand cs t p.0), short-settled_from c (suc i) cs ts p.1)

pub short-asked : (w : Setting) (a : Above) (f : Flow) (r : Coercion) (t : TypedNode) → HasShortTexts t → HasShortTexts (asked w a f r t)
short-asked w a f r (marked h m ts) p =
    let g = behind_each w a h [] ts f in
    (p.0, short-settled_from (context w a h (bare_each ts) g) 0 g.coercions ts p.1)

pub short-with_coercion : (r : Coercion) (t : TypedNode) → HasShortTexts t → HasShortTexts (with_coercion r t)
short-with_coercion r (marked h m ts) p = p
