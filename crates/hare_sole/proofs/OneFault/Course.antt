-- Over one store the judging of declarations comes to one stage or to one first fault, and not to both.
use Rattle.std.proofs.Common.{◌≡◌, ℕ, List, [], ◌∷◌, ◌++◌, refl, ap, sym, ◌∙◌, subst}
use Rattle.hare_tree.specs.declared.place.Fault.{Fault}
use Rattle.hare_tree.specs.Node.{Node}
use Rattle.hare_types.specs.Store.{Store}
use Rattle.hare_depends.specs.Order.{OrdersAreOne}
use Rattle.hare_whole.specs.Listing.{Listing, saids}
use Rattle.hare_whole.specs.Turns.{Stage, Step, early, turn, AreSteps, start, Passes, Goes, Fails, AreAllSteps, IsDeclarationFault, AreJudged}
use Rattle.hare_sole.proofs.OneFault.Steps.{Inference, decl-once, passes-once, passes-or-fails, fails-once}

-- ---- the steps are one list

steps-once : (p : Listing) (js ns : List ℕ) (xs ys : List Step) → AreSteps p js ns xs → AreSteps p js ns ys → xs ≡ ys
steps-once p js ns xs ys (AreSteps.no_more ks) (AreSteps.no_more ls) = refl
steps-once p js ns xs ys (AreSteps.next ks n t ms us i h) (AreSteps.next ls m u os vs j k) =
    let e : u ≡ t = decl-once p n u t j i in
    let rest = subst (λ (z : Node). AreSteps p (n ∷ early p (n ∷ js) z ++ js) ms vs) e k in
    let same : us ≡ vs = steps-once p (n ∷ early p (n ∷ js) t ++ js) ms us vs h rest in
    ap (λ (zs : List Step). turn p js n t ++ zs) same ∙ ap (λ (z : Node). turn p js n z ++ vs) (sym e)

pub all-steps-once : OrdersAreOne → (p : Listing) (xs ys : List Step) → AreAllSteps p xs → AreAllSteps p ys → xs ≡ ys
all-steps-once orders p xs ys h k =
    let e : h.order ≡ k.order = orders (saids p) h.order k.order h.is_order k.is_order in
    steps-once p [] k.order xs ys (subst (λ (ns : List ℕ). AreSteps p [] ns xs) e h.steps) k.steps

-- ---- going on

module _ (k : Inference) (p : Listing) (s : Store) where
  goes-once : (g h m : Stage) (xs : List Step) → Goes p s g xs h → Goes p s g xs m → h ≡ m
  goes-once g h m xs (Goes.nowhere a) (Goes.nowhere b) = refl
  goes-once g h m xs (Goes.on a b c x ys i r) (Goes.on d e f y zs j q) =
      let o : e ≡ b = passes-once k p s g x e b j i in
      goes-once b h m ys r (subst (λ (z : Stage). Goes p s z ys m) o q)

  -- of two faults each behind steps that are passed, of one list, both are one
  first-once : (g h m : Stage) (us vs ws zs : List Step) (x y : Step) (f e : Fault) → us ++ x ∷ vs ≡ ws ++ y ∷ zs → Goes p s g us h →
      Fails p s h f x → Goes p s g ws m → Fails p s m e y → f ≡ e
  first-once g h m [] vs [] zs x y f e q (Goes.nowhere a) i (Goes.nowhere b) j =
      let o : x ≡ y = cc in
      fails-once k p s g y f e (subst (λ (z : Step). Fails p s g f z) o i) j
  first-once g h m [] vs (w ∷ ws) zs x y f e q (Goes.nowhere a) i (Goes.on b n c d ds r rest) j =
      let o : x ≡ w = cc in
      absurd (passes-or-fails k p s g w n f r (subst (λ (z : Step). Fails p s g f z) o i))
  first-once g h m (u ∷ us) vs [] zs x y f e q (Goes.on b n c d ds r rest) i (Goes.nowhere a) j =
      let o : y ≡ u = cc in
      absurd (passes-or-fails k p s g u n e r (subst (λ (z : Step). Fails p s g e z) o j))
  first-once g h m (u ∷ us) vs (w ∷ ws) zs x y f e q (Goes.on b n c d ds r rest) i (Goes.on a o t l ls v left) j =
      let first : w ≡ u = cc in
      let others : us ++ x ∷ vs ≡ ws ++ y ∷ zs = cc in
      let same : o ≡ n = passes-once k p s g u o n (subst (λ (z : Step). Passes p s g z o) first v) r in
      first-once n h m us vs ws zs x y f e others rest i (subst (λ (z : Stage). Goes p s z ws m) same left) j

  -- where all steps are passed none of them has a fault
  goes-or-fails : (g h m : Stage) (us vs : List Step) (x : Step) (f : Fault) → Goes p s g (us ++ x ∷ vs) h → Goes p s g us m →
      Fails p s m f x → ⊥
  goes-or-fails g h m [] vs x f (Goes.on a n c d ds r rest) (Goes.nowhere b) j = passes-or-fails k p s g x n f r j
  goes-or-fails g h m (u ∷ us) vs x f (Goes.on b n c d ds r rest) (Goes.on a o t l ls v left) j =
      let same : o ≡ n = passes-once k p s g u o n v r in
      goes-or-fails n h m us vs x f rest (subst (λ (z : Stage). Goes p s z us m) same left) j

-- ---- the phase

module _ (k : Inference) (orders : OrdersAreOne) (p : Listing) (s : Store) where
  pub judged-once : (g h : Stage) → AreJudged p s g → AreJudged p s h → g ≡ h
  judged-once g h a b =
      let e : a.steps ≡ b.steps = all-steps-once orders p a.steps b.steps a.all b.all in
      goes-once k p s start g h b.steps (subst (λ (xs : List Step). Goes p s start xs g) e a.goes) b.goes

  pub declaration-once : (f e : Fault) → IsDeclarationFault p s f → IsDeclarationFault p s e → f ≡ e
  declaration-once f e a b =
      let same = all-steps-once orders p (a.before ++ a.step ∷ a.behind) (b.before ++ b.step ∷ b.behind) a.all b.all in
      first-once k p s start a.stage b.stage a.before a.behind b.before b.behind a.step b.step f e same a.goes a.fails b.goes b.fails

  pub declaration-or-judged : (g : Stage) (f : Fault) → AreJudged p s g → IsDeclarationFault p s f → ⊥
  declaration-or-judged g f a b =
      let same = all-steps-once orders p a.steps (b.before ++ b.step ∷ b.behind) a.all b.all in
      goes-or-fails k p s start g b.stage b.before b.behind b.step f (subst (λ (xs : List Step). Goes p s start xs g) same a.goes)
      b.goes b.fails
