-- The ways of kids, where commas are added and where they stand.
use Rattle.std.proofs.Common.{◌≡◌, ℕ, ◌+◌, List, [], ◌∷◌, ◌++◌, inl, inr, Bool, true, false, length, drop, refl, sym, ap, ◌∙◌, subst, append_assoc}
use Rattle.std.proofs.lemmas.List.{append-nil}
use Rattle.hare_tree.specs.declared.kind.Kind.{Kind}
use Rattle.hare_tree.specs.declared.form.Sign.{Sign}
use Rattle.hare_tree.specs.declared.form.Sign.TheVariants as si
use Rattle.hare_tree.specs.declared.form.Lead.{Lead}
use Rattle.hare_tree.specs.declared.form.Lead.TheVariants as le
use Rattle.hare_tree.specs.Node.{Node, Nodes, branch, none, more, head}
use Rattle.hare_tree.specs.Forms.{form_of}
use Rattle.hare_tree.specs.declared.token.Token.{Token}
use Rattle.hare_tree.specs.Spell.{sign_token, stands_alone, with_lead, all_led, listed, pieces_tokens, spell, spells, spelled_kid}
use Rattle.hare_ways.specs.declared.way.Start.{Start}
use Rattle.hare_ways.specs.declared.way.Way.{Way}
use Rattle.hare_ways.specs.Breaks.{Item, breaks_of}
use Rattle.hare_ways.specs.Ways.{ways, sign_way, starting, pieces_ways}
use Rattle.hare_ways.specs.Parts.{item_of}
use Rattle.hare_ways.specs.Walk.{kid_ways, row_ways, listed_walk}
use Rattle.hare_ways.proofs.Puts.{kid-nothing, before-alone, before-sign, behind-alone, behind-sign}
use Rattle.hare_ways.proofs.Counted.{kid_length}
use Rattle.hare_commas.specs.Commas.{comma_way, with_commas, comma_tokens, tokens_with}
use Rattle.hare_commas.proofs.AddedCommas.Spread.{spread-left, spread-next, with_commas-append}
use Rattle.hare_commas.specs.Commas.{AreSpread}
use Rattle.hare_commas.proofs.AddedCommas.Flags.{with_commas-starting, spread-starting}
use Rattle.hare_commas.proofs.AddedCommas.Plain.{ways-plain}
use Rattle.hare_commas.proofs.AddedCommas.Tokens.{with-append, with-starting, alone-before, sign-before, alone-behind, sign-behind}
use Rattle.hare_commas.proofs.WaysAgain.Kin.{Adds, Kin, IsNothing, comma_for}

-- ---- trees

-- A tree behind `n` tokens again, behind `m`: the commas that are added stand in it.
pub record Again (cs ds : List ℕ) (n m : ℕ) (t : Node) : Type 0 where
  pub tree : Node
  pub item : item_of tree ≡ item_of t
  pub adds : Adds t tree
  pub ways_are : ways ds m tree ≡ with_commas (ways cs n t)
  pub spelled : spell 0 tree ≡ tokens_with (ways cs n t) (spell 0 t)

abbrev pub IsAgain : List ℕ → List ℕ → Node → Type 0
IsAgain cs ds t = (n m : ℕ) → AreSpread (ways cs n t) (drop n cs) (drop m ds) → Again cs ds n m t

abbrev pub AreAgain : List ℕ → List ℕ → Nodes → Type 0
AreAgain cs ds none = Unit {0}
AreAgain cs ds (more t ts) = IsAgain cs ds t × AreAgain cs ds ts

-- ---- one kid

pub record KidAgain (cs ds : List ℕ) (k : Kind) (s : Start) (l : Lead) (n m : ℕ) (t : Node) : Type 0 where
  pub tree : Node
  pub item : item_of tree ≡ item_of t
  pub adds : Adds t tree
  pub ways_are : kid_ways ds k s l m tree ≡ with_commas (kid_ways cs k s l n t)
  pub spelled : with_lead 0 l (spelled_kid 0 tree) ≡ tokens_with (kid_ways cs k s l n t) (with_lead 0 l (spelled_kid 0 t))

kind-same : (t u : Node) → item_of u ≡ item_of t → (head u).kind ≡ (head t).kind
kind-same t u e = ap (λ (x : Item). x.kind) e

-- where the kid's own ways begin a line so
starts-again : (cs ds : List ℕ) (s : Start) (n m : ℕ) (t : Node) (a : Again cs ds n m t)
    → starting s (ways ds m a.tree) ≡ with_commas (starting s (ways cs n t))
starts-again cs ds s n m t a = ap (starting s) a.ways_are ∙ sym (with_commas-starting s (ways cs n t) (ways-plain cs n t))

-- and its tokens are these
starts-spelled : (cs ds : List ℕ) (s : Start) (n m : ℕ) (t : Node) (a : Again cs ds n m t)
    → spell 0 a.tree ≡ tokens_with (starting s (ways cs n t)) (spell 0 t)
starts-spelled cs ds s n m t a = a.spelled ∙ sym (with-starting s (ways cs n t) (spell 0 t))

pub starts-long : (cs : List ℕ) (k : Kind) (s : Start) (n : ℕ) (t : Node) → length (starting s (ways cs n t)) ≡ length (spell 0 t)
starts-long cs k s n t = ap length (sym (kid-nothing cs k s n t)) ∙ kid_length cs k s le.Nothing n t

nothing-again : (cs ds : List ℕ) (k : Kind) (s : Start) (n m : ℕ) (t : Node) → IsAgain cs ds t
    → AreSpread (kid_ways cs k s le.Nothing n t) (drop n cs) (drop m ds) → KidAgain cs ds k s le.Nothing n m t
nothing-again cs ds k s n m t f h =
    let e = kid-nothing cs k s n t in
    let a = f n m (spread-starting s (ways cs n t) _ _ (subst (λ ws. AreSpread ws (drop n cs) (drop m ds)) e h)) in
    record {
      tree = a.tree;
      item = a.item;
      adds = a.adds;
      ways_are = kid-nothing ds k s m a.tree ∙ starts-again cs ds s n m t a ∙ ap with_commas (sym e);
      spelled = starts-spelled cs ds s n m t a ∙ ap (λ ws. tokens_with ws (spell 0 t)) (sym e);
    }

before-again : (cs ds : List ℕ) (k : Kind) (s : Start) (c : Sign) (n m : ℕ) (t : Node) (b : Bool) → stands_alone (head t).kind ≡ b
    → IsAgain cs ds t → AreSpread (kid_ways cs k s (le.Before c) n t) (drop n cs) (drop m ds) → KidAgain cs ds k s (le.Before c) n m t
before-again cs ds k s c n m t true e f h =
    let one = before-alone cs k s c n t e in
    let a = f n m (subst (λ ws. AreSpread ws (drop n cs) (drop m ds)) one h) in
    record {
      tree = a.tree;
      item = a.item;
      adds = a.adds;
      ways_are = before-alone ds k s c m a.tree (ap stands_alone (kind-same t a.tree a.item) ∙ e) ∙ a.ways_are ∙ ap with_commas (sym one);
      spelled = alone-before c a.tree (ap stands_alone (kind-same t a.tree a.item) ∙ e) ∙ a.spelled
          ∙ sym (λ i. tokens_with (one i) (alone-before c t e i));
    }
before-again cs ds k s c n m t false e f h =
    let one = before-sign cs k s c n t e in
    let here = subst (λ ws. AreSpread ws (drop n cs) (drop m ds)) one h in
    let a = f (n + 1) (m + 1) (spread-starting s (ways cs (n + 1) t) _ _
    (spread-next (sign_way k c ∷ []) (starting s (ways cs (n + 1) t)) n m cs ds here)) in
    record {
      tree = a.tree;
      item = a.item;
      adds = a.adds;
      ways_are = before-sign ds k s c m a.tree (ap stands_alone (kind-same t a.tree a.item) ∙ e)
          ∙ ap (λ ws. sign_way k c ∷ ws) (starts-again cs ds s (n + 1) (m + 1) t a) ∙ ap with_commas (sym one);
      spelled = sign-before c a.tree (ap stands_alone (kind-same t a.tree a.item) ∙ e)
          ∙ ap (λ us. sign_token 0 c ∷ us) (starts-spelled cs ds s (n + 1) (m + 1) t a)
          ∙ sym (λ i. tokens_with (one i) (sign-before c t e i));
    }

behind-again : (cs ds : List ℕ) (k : Kind) (s : Start) (c : Sign) (n m : ℕ) (t : Node) (b : Bool) → stands_alone (head t).kind ≡ b
    → IsAgain cs ds t → AreSpread (kid_ways cs k s (le.Behind c) n t) (drop n cs) (drop m ds) → KidAgain cs ds k s (le.Behind c) n m t
behind-again cs ds k s c n m t true e f h =
    let one = behind-alone cs k s c n t e in
    let a = f n m (subst (λ ws. AreSpread ws (drop n cs) (drop m ds)) one h) in
    record {
      tree = a.tree;
      item = a.item;
      adds = a.adds;
      ways_are = behind-alone ds k s c m a.tree (ap stands_alone (kind-same t a.tree a.item) ∙ e) ∙ a.ways_are ∙ ap with_commas (sym one);
      spelled = alone-behind c a.tree (ap stands_alone (kind-same t a.tree a.item) ∙ e) ∙ a.spelled
          ∙ sym (λ i. tokens_with (one i) (alone-behind c t e i));
    }
behind-again cs ds k s c n m t false e f h =
    let one = behind-sign cs k s c n t e in
    let here = subst (λ ws. AreSpread ws (drop n cs) (drop m ds)) one h in
    let a = f n m (spread-starting s (ways cs n t) _ _ (spread-left (starting s (ways cs n t)) (sign_way k c ∷ []) _ _ here)) in
    record {
      tree = a.tree;
      item = a.item;
      adds = a.adds;
      ways_are = behind-sign ds k s c m a.tree (ap stands_alone (kind-same t a.tree a.item) ∙ e)
          ∙ ap (λ ws. ws ++ sign_way k c ∷ []) (starts-again cs ds s n m t a)
          ∙ sym (with_commas-append (starting s (ways cs n t)) (sign_way k c ∷ [])) ∙ ap with_commas (sym one);
      spelled = sign-behind c a.tree (ap stands_alone (kind-same t a.tree a.item) ∙ e)
          ∙ ap (λ us. us ++ sign_token 0 c ∷ []) (starts-spelled cs ds s n m t a)
          ∙ sym (with-append (starting s (ways cs n t)) (sign_way k c ∷ []) (spell 0 t) (sign_token 0 c ∷ []) (starts-long cs k s n t))
          ∙ sym (λ i. tokens_with (one i) (sign-behind c t e i));
    }

pub kid-again : (cs ds : List ℕ) (k : Kind) (s : Start) (l : Lead) (n m : ℕ) (t : Node) → IsAgain cs ds t
    → AreSpread (kid_ways cs k s l n t) (drop n cs) (drop m ds) → KidAgain cs ds k s l n m t
kid-again cs ds k s le.Nothing n m t f h = nothing-again cs ds k s n m t f h
kid-again cs ds k s (le.Before c) n m t f h = before-again cs ds k s c n m t (stands_alone (head t).kind) refl f h
kid-again cs ds k s (le.Behind c) n m t f h = behind-again cs ds k s c n m t (stands_alone (head t).kind) refl f h

-- ---- kids side by side

-- the comma that stands behind the last of them, or nothing
abbrev pub comma_end : Bool → List Way
comma_end true = comma_way 0 ∷ []
comma_end false = []

-- all kids, behind the last of which a comma stands or not
pub record RowAgain (cs ds : List ℕ) (k : Kind) (s : Start) (l : Lead) (e : Bool) (n m : ℕ) (ts : Nodes) : Type 0 where
  pub kids : Nodes
  pub kin : Kin e ts kids
  pub ways_are : row_ways ds k s l m kids ≡ with_commas (row_ways cs k s l n ts) ++ comma_end e
  pub spelled : all_led 0 l (spells 0 kids) ≡ tokens_with (row_ways cs k s l n ts) (all_led 0 l (spells 0 ts)) ++ comma_tokens e

ends-join : (u v end : List Way) → with_commas u ++ (with_commas v ++ end) ≡ with_commas (u ++ v) ++ end
ends-join u v end = sym (append_assoc (with_commas u) (with_commas v) end) ∙ ap (λ x. x ++ end) (sym (with_commas-append u v))

-- the tokens of a kid and of those behind it
spelled-join : (u v : List Way) (s t end : List Token) → length u ≡ length s
    → tokens_with u s ++ (tokens_with v t ++ end) ≡ tokens_with (u ++ v) (s ++ t) ++ end
spelled-join u v s t end e = sym (append_assoc (tokens_with u s) (tokens_with v t) end) ∙ ap (λ x. x ++ end) (sym (with-append u v s t e))

row-more : (cs ds : List ℕ) (k : Kind) (s : Start) (l : Lead) (e : Bool) (n m : ℕ) (t : Node) (ts : Nodes) → KidAgain cs ds k s l n m t
    → RowAgain cs ds k s l e (n + length (kid_ways cs k s l n t)) (m + length (with_commas (kid_ways cs k s l n t))) ts
    → RowAgain cs ds k s l e n m (more t ts)
unfolding spells
row-more cs ds k s l e n m t ts a b =
    let u = kid_ways cs k s l n t in
    record {
      kids = more a.tree b.kids;
      kin = inl (a.item, a.adds, b.kin);
      ways_are = ap (λ x. x ++ row_ways ds k s l (m + length x) b.kids) a.ways_are ∙ ap (λ x. with_commas u ++ x) b.ways_are
          ∙ ends-join u (row_ways cs k s l (n + length u) ts) (comma_end e);
      spelled = ap (λ x. x ++ all_led 0 l (spells 0 b.kids)) a.spelled
          ∙ ap (λ x. tokens_with u (with_lead 0 l (spelled_kid 0 t)) ++ x) b.spelled
          ∙ spelled-join u (row_ways cs k s l (n + length u) ts) (with_lead 0 l (spelled_kid 0 t)) (all_led 0 l (spells 0 ts))
          (comma_tokens e)
          (kid_length cs k s l n t);
    }

pub row-again : (cs ds : List ℕ) (k : Kind) (s : Start) (l : Lead) (n m : ℕ) (ts : Nodes) → AreAgain cs ds ts
    → AreSpread (row_ways cs k s l n ts) (drop n cs) (drop m ds) → RowAgain cs ds k s l false n m ts
unfolding spells
row-again cs ds k s l n m none f h = record { kids = none; kin = refl; ways_are = refl; spelled = refl }
row-again cs ds k s l n m (more t ts) f h =
    let u = kid_ways cs k s l n t in
    let v = row_ways cs k s l (n + length u) ts in
    row-more cs ds k s l false n m t ts (kid-again cs ds k s l n m t f.0 (spread-left u v _ _ h))
    (row-again cs ds k s l (n + length u) (m + length (with_commas u)) ts f.1 (spread-next u v n m cs ds h))

-- nothing stands in the place of the last
abbrev pub EndsInNothing : Nodes → Type 0
EndsInNothing none = ⊥
EndsInNothing (more t none) = IsNothing t
EndsInNothing (more t (more u us)) = EndsInNothing (more u us)

nothing-alone : (t : Node) → IsNothing t → stands_alone (head t).kind ≡ true
nothing-alone (branch h none) e = ap stands_alone e
nothing-alone (branch h (more t ts)) e = absurd e

nothing-ways : (cs : List ℕ) (n : ℕ) (t : Node) → IsNothing t → ways cs n t ≡ []
unfolding ways spells
nothing-ways cs n (branch h none) e = ap (λ k. pieces_ways h (breaks_of cs h n [] []) false (form_of k) []) e
nothing-ways cs n (branch h (more t ts)) e = absurd e

nothing-spelled : (t : Node) → IsNothing t → spell 0 t ≡ []
unfolding spells
nothing-spelled (branch h none) e = ap (λ k. pieces_tokens 0 h (form_of k) []) e
nothing-spelled (branch h (more t ts)) e = absurd e

comma-spelled : (t : Node) → spell 0 (comma_for t) ≡ sign_token 0 si.Comma ∷ []
unfolding spells
comma-spelled (branch h ts) = refl

comma-alone : (t : Node) → stands_alone (head (comma_for t)).kind ≡ true
comma-alone (branch h ts) = refl

comma-ways : (ds : List ℕ) (m : ℕ) (t : Node) → ways ds m (comma_for t) ≡ comma_way 0 ∷ []
unfolding ways spells
comma-ways ds m (branch h ts) = refl

pub row-comma : (cs ds : List ℕ) (k : Kind) (s : Start) (n m : ℕ) (ts : Nodes) → EndsInNothing ts → AreAgain cs ds ts
    → AreSpread (row_ways cs k s (le.Before si.Comma) n ts) (drop n cs) (drop m ds) → RowAgain cs ds k s (le.Before si.Comma) true n m ts
unfolding spells
row-comma cs ds k s n m none g f h = absurd g
row-comma cs ds k s n m (more t none) g f h =
    let old = before-alone cs k s si.Comma n t (nothing-alone t g) ∙ nothing-ways cs n t g in
    let new = before-alone ds k s si.Comma m (comma_for t) (comma-alone t) ∙ comma-ways ds m t in
    let empty = alone-before si.Comma t (nothing-alone t g) ∙ nothing-spelled t g in
    record {
      kids = more (comma_for t) none;
      kin = inr (refl, g, refl, refl, refl);
      ways_are = ap (λ x. x ++ []) new ∙ ap (λ x. with_commas (x ++ []) ++ comma_way 0 ∷ []) (sym old);
      spelled = ap (λ x. x ++ []) (alone-before si.Comma (comma_for t) (comma-alone t) ∙ comma-spelled t)
          ∙ sym (λ i. tokens_with (old i ++ []) (empty i ++ []) ++ sign_token 0 si.Comma ∷ []);
    }
row-comma cs ds k s n m (more t (more u us)) g f h =
    let x = kid_ways cs k s (le.Before si.Comma) n t in
    let v = row_ways cs k s (le.Before si.Comma) (n + length x) (more u us) in
    row-more cs ds k s (le.Before si.Comma) true n m t (more u us)
    (kid-again cs ds k s (le.Before si.Comma) n m t f.0 (spread-left x v _ _ h))
    (row-comma cs ds k s (n + length x) (m + length (with_commas x)) (more u us) g f.1 (spread-next x v n m cs ds h))

-- ---- lists

pub record ListedAgain (cs ds : List ℕ) (k : Kind) (s : Start) (e : Bool) (n m : ℕ) (ts : Nodes) : Type 0 where
  pub kids : Nodes
  pub kin : Kin e ts kids
  pub ways_are : listed_walk ds k s m kids ≡ with_commas (listed_walk cs k s n ts) ++ comma_end e
  pub spelled : listed 0 (spells 0 kids) ≡ tokens_with (listed_walk cs k s n ts) (listed 0 (spells 0 ts)) ++ comma_tokens e

pub listed-first : (t : Node) (ts : Nodes) → listed 0 (spells 0 (more t ts)) ≡ spell 0 t ++ all_led 0 (le.Before si.Comma) (spells 0 ts)
unfolding spells
listed-first t ts = ap (λ x. x ++ all_led 0 (le.Before si.Comma) (spells 0 ts)) (append-nil (spell 0 t))

listed-more : (cs ds : List ℕ) (k : Kind) (s : Start) (e : Bool) (n m : ℕ) (t : Node) (ts : Nodes) → KidAgain cs ds k s le.Nothing n m t
    → RowAgain cs ds k s (le.Before si.Comma) e (n + length (kid_ways cs k s le.Nothing n t))
    (m + length (with_commas (kid_ways cs k s le.Nothing n t))) ts
    → ListedAgain cs ds k s e n m (more t ts)
listed-more cs ds k s e n m t ts a b =
    let u = kid_ways cs k s le.Nothing n t in
    record {
      kids = more a.tree b.kids;
      kin = inl (a.item, a.adds, b.kin);
      ways_are = ap (λ x. x ++ row_ways ds k s (le.Before si.Comma) (m + length x) b.kids) a.ways_are ∙ ap (λ x. with_commas u ++ x)
          b.ways_are
          ∙ ends-join u (row_ways cs k s (le.Before si.Comma) (n + length u) ts) (comma_end e);
      spelled = listed-first a.tree b.kids ∙ ap (λ x. x ++ all_led 0 (le.Before si.Comma) (spells 0 b.kids)) a.spelled
          ∙ ap (λ x. tokens_with u (spell 0 t) ++ x) b.spelled
          ∙ spelled-join u (row_ways cs k s (le.Before si.Comma) (n + length u) ts) (spell 0 t)
          (all_led 0 (le.Before si.Comma) (spells 0 ts))
          (comma_tokens e) (kid_length cs k s le.Nothing n t)
          ∙ ap (λ x. tokens_with (listed_walk cs k s n (more t ts)) x ++ comma_tokens e) (sym (listed-first t ts));
    }

pub listed-again : (cs ds : List ℕ) (k : Kind) (s : Start) (n m : ℕ) (ts : Nodes) → AreAgain cs ds ts
    → AreSpread (listed_walk cs k s n ts) (drop n cs) (drop m ds) → ListedAgain cs ds k s false n m ts
unfolding spells
listed-again cs ds k s n m none f h = record { kids = none; kin = refl; ways_are = refl; spelled = refl }
listed-again cs ds k s n m (more t ts) f h =
    let u = kid_ways cs k s le.Nothing n t in
    let v = row_ways cs k s (le.Before si.Comma) (n + length u) ts in
    listed-more cs ds k s false n m t ts (kid-again cs ds k s le.Nothing n m t f.0 (spread-left u v _ _ h))
    (row-again cs ds k s (le.Before si.Comma) (n + length u) (m + length (with_commas u)) ts f.1 (spread-next u v n m cs ds h))

-- a list with an item, behind the last of which nothing stands
abbrev pub ListEndsInNothing : Nodes → Type 0
ListEndsInNothing none = ⊥
ListEndsInNothing (more t ts) = EndsInNothing ts

pub listed-comma : (cs ds : List ℕ) (k : Kind) (s : Start) (n m : ℕ) (ts : Nodes) → ListEndsInNothing ts → AreAgain cs ds ts
    → AreSpread (listed_walk cs k s n ts) (drop n cs) (drop m ds) → ListedAgain cs ds k s true n m ts
listed-comma cs ds k s n m none g f h = absurd g
listed-comma cs ds k s n m (more t ts) g f h =
    let u = kid_ways cs k s le.Nothing n t in
    let v = row_ways cs k s (le.Before si.Comma) (n + length u) ts in
    listed-more cs ds k s true n m t ts (kid-again cs ds k s le.Nothing n m t f.0 (spread-left u v _ _ h))
    (row-comma cs ds k s (n + length u) (m + length (with_commas u)) ts g f.1 (spread-next u v n m cs ds h))
