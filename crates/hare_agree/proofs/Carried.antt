-- A tree carries what it should whatever is known of declarations that it does not name, and the same has been seen behind it.
use Rattle.std.proofs.Common.{◌≡◌, true, List, [], ◌∷◌, ◌++◌, refl, ap, sym, ◌∙◌, subst, arith}
use Rattle.std.specs.Prelude.{Contains}
use Rattle.std.proofs.lemmas.List.Elements.{Contains-append_left, Contains-append_right}
use Rattle.hare_tree.specs.Node.{Head, Nodes, branch}
use Rattle.hare_typed.specs.Typed.{TypedNode, TypedNodes, Mark, marked, typed_none, typed_more}
use Rattle.hare_typed.specs.Erased.{erase, erase_each, heads, heads_each}
use Rattle.hare_rules.specs.declared.declared.DeclType.{DeclType}
use Rattle.hare_rules.specs.Context.{Setting}
use Rattle.hare_rules.specs.Aggregates.{is_path}
use Rattle.hare_rules.specs.Above.{Above, over_kid}
use Rattle.hare_rules.specs.Flow.{Flow, flow_before, flow_after, context}
use Rattle.hare_rules.specs.Finished.{bare, bare_each, behind, behind_each, Carries, AllCarry, EachCarries}
use Rattle.hare_agree.proofs.Meanings.{knowing, IsKnownAlike, IsTreeAlike, AreTreesAlike, AreTreesAlike-append, AreKidsAlike-typed_nodes}
use Rattle.hare_agree.proofs.Contexts.{first_failing-alike, type_of-alike, value_of-alike}
use Rattle.hare_agree.proofs.Steps.{IsHeadAlike, IsKnownAlike-meaning_of, over_kid-alike, context-alike, flow_after-alike}

-- ---- heads

abbrev pub AreHeadsAlike : Setting → Setting → List Head → Type 0
AreHeadsAlike w v hs = (h : Head) → Contains hs h → IsHeadAlike w v h

pub front : (w v : Setting) (gs hs : List Head) → AreHeadsAlike w v (gs ++ hs) → AreHeadsAlike w v gs
front w v gs hs k h c = k h (Contains-append_left gs hs h c)

pub back : (w v : Setting) (gs hs : List Head) → AreHeadsAlike w v (gs ++ hs) → AreHeadsAlike w v hs
back w v gs hs k h c = k h (Contains-append_right gs hs h c)

-- the head of a node is the last of its tree
pub own_head : (w v : Setting) (h : Head) (ts : Nodes) → AreHeadsAlike w v (heads (branch h ts)) → IsHeadAlike w v h
own_head w v h ts k = back w v (heads_each ts) (h ∷ []) k h (0, omega arith, refl)

-- ---- a tree that carries what it should

mutual
  tree_alike : (w v : Setting) (a : Above) (t : TypedNode) (f : Flow) → AreHeadsAlike w v (heads (erase t)) → AllCarry w a t f →
      IsTreeAlike w v (bare t)
  tree_alike w v a (marked h m ts) f k c =
      let own : is_path h.kind ≡ true → IsKnownAlike w v m.meaning =
      λ e n i. IsKnownAlike-meaning_of w v h e (own_head w v h (erase_each ts) k) n (sym c.1.meaning ∙ i) in (
        own,
        AreKidsAlike-typed_nodes w v (bare_each ts)
            (trees_alike w v a h [] ts f (front w v (heads_each (erase_each ts)) (h ∷ []) k) c.0),
      )

  pub trees_alike : (w v : Setting) (a : Above) (h : Head) (xs : List TypedNode) (ts : TypedNodes) (f : Flow) →
      AreHeadsAlike w v (heads_each (erase_each ts)) → EachCarries w a h xs ts f → AreTreesAlike w v (bare_each ts)
  trees_alike w v a h xs typed_none f k c = tt
  trees_alike w v a h xs (typed_more t ts) f k c =
      let o = over_kid w a h xs (erase t) (erase_each ts) in
      let b = flow_before w a h xs f in (
        tree_alike w v o t b (front w v (heads (erase t)) (heads_each (erase_each ts)) k) c.0,
        trees_alike w v a h (xs ++ bare t ∷ []) ts (behind w o t b) (back w v (heads (erase t)) (heads_each (erase_each ts)) k) c.1,
      )

-- the kids so far, with the next
pub next_alike : (w v : Setting) (o : Above) (xs : List TypedNode) (t : TypedNode) (b : Flow) → AreTreesAlike w v xs →
    AreHeadsAlike w v (heads (erase t)) → AllCarry w o t b → AreTreesAlike w v (xs ++ bare t ∷ [])
next_alike w v o xs t b j k c = AreTreesAlike-append w v xs (bare t ∷ []) j (tree_alike w v o t b k c, tt)

-- ---- what has been seen behind it

mutual
  pub behind-alike : (ds : List DeclType) (w : Setting) (a : Above) (t : TypedNode) (f : Flow) →
      AreHeadsAlike w (knowing ds w) (heads (erase t)) → AllCarry w a t f → behind (knowing ds w) a t f ≡ behind w a t f
  behind-alike ds w a (marked h m ts) f k c =
      let v = knowing ds w in
      let hs = front w v (heads_each (erase_each ts)) (h ∷ []) k in
      ap (flow_after v a h (bare_each ts)) (behind_each-alike ds w a h [] ts f tt hs c.0)
      ∙ flow_after-alike ds w a h (bare_each ts) (behind_each w a h [] ts f) (own_head w v h (erase_each ts) k)
      (trees_alike w v a h [] ts f hs c.0)

  pub behind_each-alike : (ds : List DeclType) (w : Setting) (a : Above) (h : Head) (xs : List TypedNode) (ts : TypedNodes) (f : Flow) →
      AreTreesAlike w (knowing ds w) xs → AreHeadsAlike w (knowing ds w) (heads_each (erase_each ts)) → EachCarries w a h xs ts f →
      behind_each (knowing ds w) a h xs ts f ≡ behind_each w a h xs ts f
  behind_each-alike ds w a h xs typed_none f j k c = refl
  behind_each-alike ds w a h xs (typed_more t ts) f j k c =
      let v = knowing ds w in
      let o = over_kid w a h xs (erase t) (erase_each ts) in
      let b = flow_before w a h xs f in
      let ks = front w v (heads (erase t)) (heads_each (erase_each ts)) k in
      ap (λ z. behind_each v a h (xs ++ bare t ∷ []) ts (behind v z t b)) (over_kid-alike ds w a h xs (erase t) (erase_each ts) j)
      ∙ ap (behind_each v a h (xs ++ bare t ∷ []) ts) (behind-alike ds w o t b ks c.0)
      ∙ behind_each-alike ds w a h (xs ++ bare t ∷ []) ts (behind w o t b) (next_alike w v o xs t b j ks c.0)
      (back w v (heads (erase t)) (heads_each (erase_each ts)) k) c.1

-- ---- what it carries

carries-node : (ds : List DeclType) (w : Setting) (a : Above) (h : Head) (m : Mark) (xs : List TypedNode) (f : Flow) →
    IsHeadAlike w (knowing ds w) h → AreTreesAlike w (knowing ds w) xs → Carries (context w a h xs f) m →
    Carries (context (knowing ds w) a h xs f) m
carries-node ds w a h m xs f i k c =
    let d = context w a h xs f in
    let n = context-alike ds w a h xs f i k in
    record {
      rows = first_failing-alike ds d n ∙ c.rows;
      type = type_of-alike ds d n ∙ c.type;
      node = c.node;
      meaning = c.meaning;
      value = c.value ∙ sym (value_of-alike ds d n);
    }

mutual
  pub carries-alike : (ds : List DeclType) (w : Setting) (a : Above) (t : TypedNode) (f : Flow) →
      AreHeadsAlike w (knowing ds w) (heads (erase t)) → AllCarry w a t f → AllCarry (knowing ds w) a t f
  carries-alike ds w a (marked h m ts) f k c =
      let v = knowing ds w in
      let hs = front w v (heads_each (erase_each ts)) (h ∷ []) k in
      let own =
      carries-node ds w a h m (bare_each ts) (behind_each w a h [] ts f) (own_head w v h (erase_each ts) k)
      (trees_alike w v a h [] ts f hs c.0) c.1 in (
        carries_each-alike ds w a h [] ts f tt hs c.0,
        subst (λ (z : Flow). Carries (context v a h (bare_each ts) z) m) (sym (behind_each-alike ds w a h [] ts f tt hs c.0)) own,
      )

  pub carries_each-alike : (ds : List DeclType) (w : Setting) (a : Above) (h : Head) (xs : List TypedNode) (ts : TypedNodes) (f : Flow) →
      AreTreesAlike w (knowing ds w) xs → AreHeadsAlike w (knowing ds w) (heads_each (erase_each ts)) → EachCarries w a h xs ts f →
      EachCarries (knowing ds w) a h xs ts f
  carries_each-alike ds w a h xs typed_none f j k c = tt
  carries_each-alike ds w a h xs (typed_more t ts) f j k c =
      let v = knowing ds w in
      let o = over_kid w a h xs (erase t) (erase_each ts) in
      let b = flow_before w a h xs f in
      let ks = front w v (heads (erase t)) (heads_each (erase_each ts)) k in
      let p = over_kid-alike ds w a h xs (erase t) (erase_each ts) j in
      let rest =
      carries_each-alike ds w a h (xs ++ bare t ∷ []) ts (behind w o t b) (next_alike w v o xs t b j ks c.0)
      (back w v (heads (erase t)) (heads_each (erase_each ts)) k) c.1 in (
        subst (λ (z : Above). AllCarry v z t b) (sym p) (carries-alike ds w o t b ks c.0),
        subst (λ (z : Flow). EachCarries v a h (xs ++ bare t ∷ []) ts z) (sym (ap (λ z. behind v z t b) p ∙ behind-alike ds w o t b ks c.0))
            rest,
      )
