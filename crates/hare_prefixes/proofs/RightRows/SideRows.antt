-- Each row of trees side by side is right, where the rows of the trees are.
use Rattle.std.proofs.Common.{◌≡◌, ℕ, ◌+◌, List, [], ◌∷◌, ◌++◌, Bool, true, false, map, length, refl, ap, sym, ◌∙◌, subst, arith, append_assoc, if◌then◌else◌}
use Rattle.std.specs.Prelude.{Option, Some, None, nat_le}
use Rattle.std.proofs.Common.{rules}
use denote.Enum.Bare.{same_true}
use Rattle.hare_tree.specs.contracts.form.Sign.{the_type}
use Rattle.std.proofs.lemmas.List.{length-append, length-map, map-append}
use Rattle.hare_tree.specs.declared.kind.Kind.{Kind}
use Rattle.hare_tree.specs.declared.kind.Kind.TheVariants as ki
use Rattle.hare_tree.specs.declared.token.Token.{Token}
use Rattle.hare_tree.specs.declared.form.Sign.{Sign}
use Rattle.hare_tree.specs.declared.form.Sign.TheVariants as si
use Rattle.hare_tree.specs.declared.form.Sort.{Sort}
use Rattle.hare_tree.specs.declared.form.Sort.TheVariants as so
use Rattle.hare_tree.specs.declared.form.Lead.TheVariants as le
use Rattle.hare_tree.specs.declared.form.Piece.TheVariants as pi
use Rattle.hare_tree.specs.Node.{Node, branch, more, head}
use Rattle.hare_tree.specs.Levels.{admits}
use Rattle.hare_tree.specs.Spell.{sign_token, stands_alone, with_lead, spell, spells}
use Rattle.hare_tree.specs.Shape.{is_shaped, is_none, is_dots}
use Rattle.hare_tree.specs.Depth.{lead_length, begins_led}
use Rattle.hare_tree.specs.Grammar.{HasPlaces, HavePlaces, unplaced}
use Rattle.hare_automaton.specs.declared.class.Class.{Class}
use Rattle.hare_automaton.specs.declared.class.Class.TheVariants as cl
use Rattle.hare_automaton.specs.declared.rule.Rule.TheVariants as ru
use Rattle.hare_automaton.specs.declared.rule.Symbol.{Symbol}
use Rattle.hare_automaton.specs.declared.rule.Symbol.TheVariants as sy
use Rattle.hare_automaton.specs.declared.rule.Change.{Change}
use Rattle.hare_automaton.specs.declared.rule.Change.TheVariants as ch
use Rattle.hare_automaton.specs.Classes.{class_of}
use Rattle.hare_automaton.specs.Rows.{Skips, Uses, of, part, before, or_skips, has_sign, at_sign}
use Rattle.hare_automaton.specs.DeclarationRows.{of_row}
use Rattle.hare_automaton.specs.Engine.{Group}
use Rattle.hare_automaton.proofs.Machine.Edges.{true_le}
use Rattle.hare_automaton.proofs.Spelled.Lists.{shape}
use Rattle.hare_prefixes.proofs.Soundness.Seen.{sign_is}
use Rattle.hare_prefixes.proofs.Soundness.Trees.{Source, IsTree, Tree, Listed, Begun, add_all}
use Rattle.hare_prefixes.proofs.Soundness.Means.{HasGroup, apart, has_kid, leads, Means}
use Rattle.hare_prefixes.proofs.Soundness.Stacks.{last_part, Goes, Used, used_or}
use Rattle.hare_prefixes.proofs.Soundness.Kids.{if_false}
use Rattle.hare_prefixes.proofs.RightRows.TypeRows.{RowMeans, unit}

-- ---- kids that take a sign

none_level : (l : ℕ) → nat_le 1 l ≡ true → nat_le l 0 ≡ true → ⊥
none_level l a b = let x = true_le 1 l a in let y = true_le l 0 b in omega (arith, x, y)

pub apart_alone : (s : Sort) (t : Node) → apart s ≡ true → is_shaped s t ≡ true → stands_alone (head t).kind ≡ false
apart_alone s (branch h ts) c e = by s h.kind h.text c (shape s h ts e).admitted
  where
    by : (s : Sort) (k : Kind) (y : List ℕ) → apart s ≡ true → admits s k y ≡ true → stands_alone k ≡ false
    by (so.Level l) ki.None y c e = absurd (none_level l c e)
    by (so.Level l) ki.TrailingComma y c e = absurd (none_level l c e)
    by (so.Level l) ki.Dots y c e = absurd (none_level l c e)
    by _ ki.None y c e = cc
    by _ ki.TrailingComma y c e = cc
    by _ ki.Dots y c e = cc
    by _ _ y c e = refl

-- a kid that is apart is no `nothing` and no `...`
apart_comma : (k : Kind) (o : Option Sign) → stands_alone k ≡ false →
    (if is_none k then o else if is_dots k then None else Some si.Comma) ≡ Some si.Comma
apart_comma ki.None o e = cc
apart_comma ki.Dots o e = cc
apart_comma _ o e = refl

-- ---- trees side by side

-- the tokens of a kid and of those behind it
pub put : (a b : List Token) (v v' : List Token) → a ≡ map unplaced v → b ≡ map unplaced v' → a ++ b ≡ map unplaced (v ++ v')
put a b v v' e d = ap (λ l. l ++ b) e ∙ ap (λ l. map unplaced v ++ l) d ∙ sym (map-append unplaced v v')

-- `{tree}`
each_more : (x : Source) (s : Sort) (gs hs : List Group) (m n : ℕ) (u v v' w : List Token) (gs' : List Group) → u ≡ v ++ v' →
    n ≡ m + length v → Tree x s gs m v (v' ++ w) hs → Listed x (pi.Each s) hs n v' w gs' → Listed x (pi.Each s) gs m u w gs'
unfolding is_shaped spell HasPlaces
each_more x s gs hs m n u v v' w gs' i at q r =
    let ln : length (spell 0 q.t) ≡ length v = ap length q.is.spelled ∙ length-map v unplaced in
    record {
      ts = more q.t r.ts;
      kids = λ y. rw q.is.shaped (r.kids y);
      ends = refl;
      spelled = λ h. put (spell 0 q.t) _ v v' q.is.spelled (r.spelled h) ∙ ap (map unplaced) (sym i);
      placed = λ h. (
        subst (λ y. HasPlaces x.file x.tokens y q.t) (omega arith) q.is.placed,
        subst
            (λ y. HavePlaces x.file x.tokens (begins_led le.Nothing y (spells 0 r.ts)) r.ts) (at ∙ ap (λ y. m + y) (sym ln)) (r.placed h),
      );
      adds = r.adds ∙ ap (add_all r.ts) q.adds;
    }

pub each_means : (x : Source) (s : Sort) → RowMeans x (of_row s) s →
    (c : Class) (t : Token) (gs : List Group) (m : ℕ) (u w : List Token) (gs' : List Group) → class_of t ≡ c →
    Used x (or_skips (before (of_row s c) (part (ru.Each s) ∷ [])) []) t gs m u w gs' → Means x (ru.Each s) gs m (t ∷ u) w gs'
each_means x s f c t gs m u w gs' e h o =
    let p = unit x (of_row s) s f (part (ru.Each s) ∷ []) c t gs m u w gs' e
    (used_or x (before (of_row s c) (part (ru.Each s) ∷ [])) [] t gs m u w gs' h) in
    let q = p.part o in
    each_more x s gs p.hs m p.n (t ∷ u) p.v p.v' w gs' p.is p.at q
    (last_part x (ru.Each s) p.hs p.n p.v' w gs' p.rest (subst HasGroup (sym q.adds) (has_kid q.t gs o)))

-- `{tree sign}`
followed_more : (x : Source) (s : Sort) (a : Sign) (gs hs : List Group) (m n n' : ℕ) (t0 : Token) (u v v' w : List Token)
    (gs' : List Group) → apart s ≡ true → u ≡ v ++ (t0 ∷ v') → n ≡ m + length v → Tree x s gs m v (t0 ∷ (v' ++ w)) hs → Begun x a t0 n n' →
    Listed x (pi.EachFollowed s a) hs n' v' w gs' → Listed x (pi.EachFollowed s a) gs m u w gs'
unfolding is_shaped spell HasPlaces
followed_more x s a gs hs m n n' t0 u v v' w gs' c i at q b r =
    let ln : length (spell 0 q.t) ≡ length v = ap length q.is.spelled ∙ length-map v unplaced in
    let al = apart_alone s q.t c q.is.shaped in
    let led : with_lead 0 (le.Behind a) ((head q.t).kind, spell 0 q.t) ≡ spell 0 q.t ++ sign_token 0 a ∷ [] =
    if_false (stands_alone (head q.t).kind) (spell 0 q.t) (spell 0 q.t ++ sign_token 0 a ∷ []) al in
    let words : spell 0 q.t ++ sign_token 0 a ∷ [] ≡ map unplaced (v ++ t0 ∷ []) =
    put (spell 0 q.t) (sign_token 0 a ∷ []) v (t0 ∷ []) q.is.spelled (ap (λ y. y ∷ []) (sym (sign_is t0 a b.class))) in
    let far : n' ≡ m + length (with_lead 0 (le.Behind a) ((head q.t).kind, spell 0 q.t)) =
    omega (arith, ap length led, length-append (spell 0 q.t) (sign_token 0 a ∷ []), ln, at, b.next) in
    record {
      ts = more q.t r.ts;
      kids = λ y. rw q.is.shaped (r.kids y);
      ends = refl;
      spelled = λ h. put _ _ (v ++ t0 ∷ []) v' (led ∙ words) (r.spelled h) ∙ ap (map unplaced) (append_assoc v (t0 ∷ []) v' ∙ sym i);
      placed = λ h. (
        subst (λ y. HasPlaces x.file x.tokens y q.t) (omega arith) q.is.placed,
        subst
            (λ y. HavePlaces x.file x.tokens (begins_led (le.Behind a) y (spells 0 r.ts)) r.ts) far (r.placed h),
      );
      adds = r.adds ∙ ap (add_all r.ts) q.adds;
    }

pub followed_means : (x : Source) (s : Sort) (a : Sign) → RowMeans x (of_row s) s →
    (c : Class) (t : Token) (gs : List Group) (m : ℕ) (u w : List Token) (gs' : List Group) → class_of t ≡ c →
    Used x (or_skips (before (of_row s c) (sy.Want a ∷ part (ru.EachFollowed s a) ∷ [])) []) t gs m u w gs' →
    Means x (ru.EachFollowed s a) gs m (t ∷ u) w gs'
followed_means x s a f c t gs m u w gs' e h y o =
    let ss : List Symbol = sy.Want a ∷ part (ru.EachFollowed s a) ∷ [] in
    let p = unit x (of_row s) s f ss c t gs m u w gs' e (used_or x (before (of_row s c) ss) [] t gs m u w gs' h) in
    let r = p.rest in
    let q : Tree x s gs m p.v ((r.t ∷ r.v) ++ w) p.hs = subst (λ l. Tree x s gs m p.v (l ++ w) p.hs) r.is (p.part o) in
    followed_more x s a gs p.hs m p.n r.n r.t (t ∷ u) p.v r.v w gs' y (p.is ∙ ap (λ l. p.v ++ l) r.is) p.at q r.begun
    (last_part x (ru.EachFollowed s a) p.hs r.n r.v w gs' r.rest y (subst HasGroup (sym q.adds) (has_kid q.t gs o)))

-- ---- trees with a sign before them

-- the tokens and the number of such a kid
pub record LedKid (x : Source) (a : Sign) (m n : ℕ) (t0 : Token) (v : List Token) (t : Node) : Type 0 where
  pub words : with_lead 0 (le.Before a) ((head t).kind, spell 0 t) ≡ map unplaced (t0 ∷ v)
  pub placed : HasPlaces x.file x.tokens (m + lead_length (le.Before a) ((head t).kind, spell 0 t)) t
  pub far : n + length v ≡ m + length (with_lead 0 (le.Before a) ((head t).kind, spell 0 t))

pub led_kid : (x : Source) (a : Sign) (s : Sort) (m n : ℕ) (t0 : Token) (v rest : List Token) (t : Node) → apart s ≡ true →
    Begun x a t0 m n → IsTree x s n v rest t → LedKid x a m n t0 v t
led_kid x a s m n t0 v rest t c b q =
    let al = apart_alone s t c q.shaped in
    let led : with_lead 0 (le.Before a) ((head t).kind, spell 0 t) ≡ sign_token 0 a ∷ spell 0 t =
    if_false (stands_alone (head t).kind) (spell 0 t) (sign_token 0 a ∷ spell 0 t) al in
    let words = led ∙ ap (λ l. sign_token 0 a ∷ l) q.spelled ∙ ap (λ y. y ∷ map unplaced v) (sym (sign_is t0 a b.class)) in
    let one : lead_length (le.Before a) ((head t).kind, spell 0 t) ≡ 1 = if_false (stands_alone (head t).kind) 0 1 al in
    record {
      words = words;
      placed = subst (λ y. HasPlaces x.file x.tokens y t) (b.next ∙ ap (λ y. m + y) (sym one)) q.placed;
      far = omega (arith, ap length words, length-map (t0 ∷ v) unplaced, b.next);
    }

-- `{sign tree}`
led_more : (x : Source) (s : Sort) (a : Sign) (gs hs : List Group) (m n n' : ℕ) (t0 : Token) (u v v' w : List Token) (gs' : List Group) →
    apart s ≡ true → u ≡ t0 ∷ (v ++ v') → n' ≡ n + length v → Begun x a t0 m n → Tree x s gs n v (v' ++ w) hs →
    Listed x (pi.EachLed a s) hs n' v' w gs' → Listed x (pi.EachLed a s) gs m u w gs'
unfolding is_shaped spell HasPlaces
led_more x s a gs hs m n n' t0 u v v' w gs' c i at b q r =
    let k = led_kid x a s m n t0 v (v' ++ w) q.t c b q.is in
    record {
      ts = more q.t r.ts;
      kids = λ y. rw q.is.shaped (r.kids y);
      ends = refl;
      spelled = λ h. put _ _ (t0 ∷ v) v' k.words (r.spelled h) ∙ ap (map unplaced) (sym i);
      placed = λ h. (
        k.placed,
        subst (λ y. HavePlaces x.file x.tokens (begins_led (le.Before a) y (spells 0 r.ts)) r.ts) (at ∙ k.far)
            (r.placed h),
      );
      adds = r.adds ∙ ap (add_all r.ts) q.adds;
    }

-- what a sign that is there leads to
at_used : (x : Source) (a : Sign) (c : Class) (ss : List Symbol) (cs : List Change) (t : Token) (gs : List Group) (m : ℕ) (u w : List Token)
    (gs' : List Group) → Used x (at_sign a c (Uses [] ss) (Skips cs)) t gs m u w gs' → (has_sign a c ≡ true) × Goes x ss gs t m u w gs'
at_used x a c ss cs t gs m u w gs' h = by (has_sign a c) refl h
  where
    by : (b : Bool) → has_sign a c ≡ b → Used x (if b then Uses [] ss else Skips cs) t gs m u w gs' → (has_sign a c ≡ true) ×
        Goes x ss gs t m u w gs'
    by true i h = (i, h)
    by false i h = absurd h

pub sign_of : (a : Sign) (c : Class) → has_sign a c ≡ true → c ≡ cl.Sign a
sign_of a (cl.Sign r) e = ap cl.Sign (sym (same_true the_type (search rules) a r e))
sign_of a _ e = cc

-- the sign that leads is the token
led_begun : (x : Source) (a : Sign) (c : Class) (ss : List Symbol) (hs : List Group) (t : Token) (m : ℕ) (u w : List Token)
    (gs' : List Group) → class_of t ≡ c → has_sign a c ≡ true → (h : Goes x ss hs t m u w gs') → Begun x a t m h.n
led_begun x a c ss hs t m u w gs' e i h = record { class = e ∙ sign_of a c i; place = h.place; next = h.at }

pub led_means : (x : Source) (s : Sort) (a : Sign) (c : Class) (t : Token) (gs : List Group) (m : ℕ) (u w : List Token) (gs' : List Group) →
    class_of t ≡ c → Used x (at_sign a c (Uses [] (of s ∷ [])) (Skips (ch.Absent ∷ []))) t gs m u w gs' →
    Means x (ru.Led a s) gs m (t ∷ u) w gs'
led_means x s a c t gs m u w gs' e h o =
    let p = at_used x a c (of s ∷ []) (ch.Absent ∷ []) t gs m u w gs' h in
    leads (record {
      sign = t;
      v = u;
      n = p.1.n;
      is = refl;
      begun = led_begun x a c (of s ∷ []) gs t m u w gs' e p.0 p.1;
      tree = last_part x
          (ru.Of s) gs p.1.n u w gs' p.1.reads o;
    })

pub each_led_means : (x : Source) (s : Sort) (a : Sign) (c : Class) (t : Token) (gs : List Group) (m : ℕ) (u w : List Token)
    (gs' : List Group) → class_of t ≡ c → Used x (at_sign a c (Uses [] (of s ∷ part (ru.EachLed a s) ∷ [])) (Skips [])) t gs m u w gs' →
    Means x (ru.EachLed a s) gs m (t ∷ u) w gs'
each_led_means x s a c t gs m u w gs' e h y o =
    let ss : List Symbol = of s ∷ part (ru.EachLed a s) ∷ [] in
    let p = at_used x a c ss [] t gs m u w gs' h in
    let r = p.1.reads in
    let q = r.part o in
    led_more x s a gs r.hs m p.1.n r.n t (t ∷ u) r.v r.v' w gs' y (ap (λ l. t ∷ l) r.is) r.at (led_begun x a c ss gs t m u w gs' e p.0 p.1)
    q (last_part x (ru.EachLed a s) r.hs r.n r.v' w gs' r.rest y (subst HasGroup (sym q.adds) (has_kid q.t gs o)))
