-- The first node without a type is the same whatever is known of declarations that the tree does not name, and so is the reason.
use Rattle.std.proofs.Common.{◌≡◌, List, [], ◌∷◌, ◌++◌, ap, sym, ◌∙◌, subst, inl, inr}
use Rattle.hare_tree.specs.Node.{Head, Node, Nodes, branch, none, more}
use Rattle.hare_typed.specs.Typed.{TypedNode, TypedNodes}
use Rattle.hare_typed.specs.Erased.{erase_each, heads, heads_each}
use Rattle.hare_rules.specs.declared.declared.DeclType.{DeclType}
use Rattle.hare_rules.specs.declared.row_id.RowId.{RowId}
use Rattle.hare_rules.specs.Context.{Setting, Context}
use Rattle.hare_rules.specs.Above.{Above, over_kid}
use Rattle.hare_rules.specs.Flow.{Flow, flow_before, context}
use Rattle.hare_rules.specs.Types.{type_of}
use Rattle.hare_rules.specs.Rows.{first_failing}
use Rattle.hare_rules.specs.Finished.{bare, bare_each, behind, behind_each, AllCarry, EachCarries, FailsIn, EachFails}
use Rattle.hare_inference.specs.Lacking.{LacksIn, EachLacks}
use Rattle.hare_agree.proofs.Meanings.{knowing, AreTreesAlike}
use Rattle.hare_agree.proofs.Contexts.{told, first_failing-alike, type_of-alike}
use Rattle.hare_agree.proofs.Steps.{over_kid-alike, context-alike}
use Rattle.hare_agree.proofs.Carried.{AreHeadsAlike, front, back, own_head, trees_alike, next_alike, behind-alike, behind_each-alike, carries-alike, carries_each-alike}

-- ---- the turn of a node

-- where the kids of a node have carried what they should, and its own turn comes
record IsTurn (ds : List DeclType) (w : Setting) (a : Above) (h : Head) (f : Flow) (c : Context) (xs : TypedNodes) : Type 0 where
  carries : EachCarries (knowing ds w) a h [] xs f
  at : record c { setting = knowing ds w } ≡ context (knowing ds w) a h (bare_each xs) (behind_each (knowing ds w) a h [] xs f)
  row : first_failing (record c { setting = knowing ds w }) ≡ first_failing c
  type : type_of (record c { setting = knowing ds w }) ≡ type_of c

turn-alike : (ds : List DeclType) (w : Setting) (a : Above) (h : Head) (ts : Nodes) (f : Flow) (c : Context) (xs : TypedNodes) →
    AreHeadsAlike w (knowing ds w) (heads (branch h ts)) → erase_each xs ≡ ts → EachCarries w a h [] xs f →
    c ≡ context w a h (bare_each xs) (behind_each w a h [] xs f) → IsTurn ds w a h f c xs
turn-alike ds w a h ts f c xs k i e s =
    let v = knowing ds w in
    let hs : AreHeadsAlike w v (heads_each (erase_each xs)) =
    subst (λ (us : Nodes). AreHeadsAlike w v (heads_each us)) (sym i) (front w v (heads_each ts) (h ∷ []) k) in
    let g = behind_each w a h [] xs f in
    let d = context w a h (bare_each xs) g in
    let n = context-alike ds w a h (bare_each xs) g (own_head w v h ts k) (trees_alike w v a h [] xs f hs e) in
    let there : record c { setting = v } ≡ told ds d = ap (λ (x : Context). record x { setting = v }) s in
    record {
      carries = carries_each-alike ds w a h [] xs f tt hs e;
      at = there ∙ ap (context v a h (bare_each xs)) (sym (behind_each-alike ds w a h [] xs f tt hs e));
      row = ap first_failing there ∙ first_failing-alike ds d n ∙ ap first_failing (sym s);
      type = ap type_of there ∙ type_of-alike ds d n ∙ ap type_of (sym s);
    }

-- ---- a row that fails

mutual
  pub fails-alike : (ds : List DeclType) (w : Setting) (a : Above) (t : Node) (f : Flow) (r : RowId) (c : Context) →
      AreHeadsAlike w (knowing ds w) (heads t) → FailsIn w a t f r c → FailsIn (knowing ds w) a t f r (record c { setting = knowing ds w })
  fails-alike ds w a (branch h ts) f r c k (inl e) =
      inl (fails_each-alike ds w a h [] ts f r c tt (front w (knowing ds w) (heads_each ts) (h ∷ []) k) e)
  fails-alike ds w a (branch h ts) f r c k (inr (xs, i, e, s, j)) =
      let z = turn-alike ds w a h ts f c xs k i e s in
      inr (xs, i, z.carries, z.at, z.row ∙ j)

  fails_each-alike : (ds : List DeclType) (w : Setting) (a : Above) (h : Head) (xs : List TypedNode) (ts : Nodes) (f : Flow) (r : RowId)
      (c : Context) →
      AreTreesAlike w (knowing ds w) xs → AreHeadsAlike w (knowing ds w) (heads_each ts) → EachFails w a h xs ts f r c →
      EachFails (knowing ds w) a h xs ts f r (record c { setting = knowing ds w })
  fails_each-alike ds w a h xs none f r c j k e = absurd e
  fails_each-alike ds w a h xs (more t ts) f r c j k (inl e) =
      let v = knowing ds w in
      let o = over_kid w a h xs t ts in
      let b = flow_before w a h xs f in
      let there = fails-alike ds w o t b r c (front w v (heads t) (heads_each ts) k) e in
      inl
      (subst (λ (z : Above). FailsIn v z t b r (record c { setting = v })) (sym (over_kid-alike ds w a h xs t ts j)) there)
  fails_each-alike ds w a h xs (more t ts) f r c j k (inr (x, i, e, l)) =
      let v = knowing ds w in
      let o = over_kid w a h xs t ts in
      let b = flow_before w a h xs f in
      let p = over_kid-alike ds w a h xs t ts j in
      let ks = subst (λ (u : Node). AreHeadsAlike w v (heads u)) (sym i) (front w v (heads t) (heads_each ts) k) in
      let rest =
      fails_each-alike ds w a h (xs ++ bare x ∷ []) ts (behind w o x b) r c (next_alike w v o xs x b j ks e)
      (back w v (heads t) (heads_each ts) k) l in
      inr (
        x,
        i,
        subst (λ (z : Above). AllCarry v z x b) (sym p) (carries-alike ds w o x b ks e),
        subst
            (λ (z : Flow). EachFails v a h (xs ++ bare x ∷ []) ts z r (record c { setting = v }))
            (sym (ap (λ z. behind v z x b) p ∙ behind-alike ds w o x b ks e))
            rest,
      )

-- where it stands there is this setting
mutual
  pub setting_of-fails : (w : Setting) (a : Above) (t : Node) (f : Flow) (r : RowId) (c : Context) → FailsIn w a t f r c → c.setting ≡ w
  setting_of-fails w a (branch h ts) f r c (inl e) = setting_of-fails_each w a h [] ts f r c e
  setting_of-fails w a (branch h ts) f r c (inr (xs, i, e, s, j)) = ap (λ (x : Context). x.setting) s

  setting_of-fails_each : (w : Setting) (a : Above) (h : Head) (xs : List TypedNode) (ts : Nodes) (f : Flow) (r : RowId) (c : Context) →
      EachFails w a h xs ts f r c → c.setting ≡ w
  setting_of-fails_each w a h xs none f r c e = absurd e
  setting_of-fails_each w a h xs (more t ts) f r c (inl e) =
      setting_of-fails w (over_kid w a h xs t ts) t (flow_before w a h xs f) r c e
  setting_of-fails_each w a h xs (more t ts) f r c (inr (x, i, e, l)) =
      setting_of-fails_each w a h (xs ++ bare x ∷ []) ts (behind w (over_kid w a h xs t ts) x (flow_before w a h xs f)) r c l

-- ---- a type that the store lacks

mutual
  pub lacks-alike : (ds : List DeclType) (w : Setting) (a : Above) (t : Node) (f : Flow) (c : Context) →
      AreHeadsAlike w (knowing ds w) (heads t) → LacksIn w a t f c → LacksIn (knowing ds w) a t f (record c { setting = knowing ds w })
  lacks-alike ds w a (branch h ts) f c k (inl e) =
      inl (lacks_each-alike ds w a h [] ts f c tt (front w (knowing ds w) (heads_each ts) (h ∷ []) k) e)
  lacks-alike ds w a (branch h ts) f c k (inr (xs, i, e, s, j, l)) =
      let z = turn-alike ds w a h ts f c xs k i e s in
      inr (xs, i, z.carries, z.at, z.row ∙ j, z.type ∙ l)

  lacks_each-alike : (ds : List DeclType) (w : Setting) (a : Above) (h : Head) (xs : List TypedNode) (ts : Nodes) (f : Flow) (c : Context) →
      AreTreesAlike w (knowing ds w) xs → AreHeadsAlike w (knowing ds w) (heads_each ts) → EachLacks w a h xs ts f c →
      EachLacks (knowing ds w) a h xs ts f (record c { setting = knowing ds w })
  lacks_each-alike ds w a h xs none f c j k e = absurd e
  lacks_each-alike ds w a h xs (more t ts) f c j k (inl e) =
      let v = knowing ds w in
      let o = over_kid w a h xs t ts in
      let b = flow_before w a h xs f in
      let there = lacks-alike ds w o t b c (front w v (heads t) (heads_each ts) k) e in
      inl
      (subst (λ (z : Above). LacksIn v z t b (record c { setting = v })) (sym (over_kid-alike ds w a h xs t ts j)) there)
  lacks_each-alike ds w a h xs (more t ts) f c j k (inr (x, i, e, l)) =
      let v = knowing ds w in
      let o = over_kid w a h xs t ts in
      let b = flow_before w a h xs f in
      let p = over_kid-alike ds w a h xs t ts j in
      let ks = subst (λ (u : Node). AreHeadsAlike w v (heads u)) (sym i) (front w v (heads t) (heads_each ts) k) in
      let rest =
      lacks_each-alike ds w a h (xs ++ bare x ∷ []) ts (behind w o x b) c (next_alike w v o xs x b j ks e)
      (back w v (heads t) (heads_each ts) k) l in
      inr (
        x,
        i,
        subst (λ (z : Above). AllCarry v z x b) (sym p) (carries-alike ds w o x b ks e),
        subst
            (λ (z : Flow). EachLacks v a h (xs ++ bare x ∷ []) ts z (record c { setting = v }))
            (sym (ap (λ z. behind v z x b) p ∙ behind-alike ds w o x b ks e))
            rest,
      )
