-- Over one store bodies are well typed or have one first fault, and not both.
use Rattle.std.proofs.Common.{◌≡◌, ◌⊎◌, inl, inr, ℕ, ◌<◌, ◌≤◌, length, refl, sym, ◌∙◌, subst, arith}
use Rattle.std.proofs.lemmas.Bool.{cases_lt}
use Rattle.hare_tree.specs.declared.place.Fault.{Fault}
use Rattle.hare_tree.specs.Node.{Node}
use Rattle.hare_types.specs.Store.{Store}
use Rattle.hare_rules.specs.Context.{Setting, declaration}
use Rattle.hare_rules.specs.Above.{Above}
use Rattle.hare_rules.specs.Flow.{Flow}
use Rattle.hare_rules.specs.Finished.{FailsIn}
use Rattle.hare_modules.specs.Uses.{kid}
use Rattle.hare_depends.specs.declared.said.Sort.TheVariants as so
use Rattle.hare_depends.specs.Sorts.{sort_of}
use Rattle.hare_depends.specs.Order.{OrdersAreOne}
use Rattle.hare_whole.specs.Listing.{Listing, IsDecl}
use Rattle.hare_whole.specs.Declared.{over_body, before_body}
use Rattle.hare_whole.specs.Turns.{Stage, setting_at, params_in, result_in, HasWellBody, IsFaultOfBody, IsBodyFault}
use Rattle.hare_whole.specs.Judged.{AreFaultless}
use Rattle.hare_sole.proofs.OneFault.Steps.{Inference, decl-once}
use Rattle.hare_sole.proofs.OneFault.Course.{judged-once}

-- ---- one body

module _ (w : Setting) (n : ℕ) (t : Node) where
  abbrev above : Above
  above = over_body n (result_in (declaration w n)) (length (params_in (declaration w n)))

  abbrev flow : Flow
  flow = before_body (params_in (declaration w n)) (kid t 4)

  body-or-fault : Inference → (f : Fault) → HasWellBody w n t → IsFaultOfBody w n t f → ⊥
  body-or-fault k f h j =
      (k.decided w above flow).tree_or_fault h.tree j.0 j.1 h.well (subst (λ (x : Node). FailsIn w above x flow j.0 j.1) (sym h.erases) j.2)

  body-fault-once : Inference → (f e : Fault) → IsFaultOfBody w n t f → IsFaultOfBody w n t e → f ≡ e
  body-fault-once k f e h j = h.3 ∙ (k.fault w above flow (kid t 4) h.0 j.0 h.1 j.1 h.2 j.2).fault ∙ sym j.3

-- ---- the phase

module _ (k : Inference) (orders : OrdersAreOne) (p : Listing) (s : Store) where
  -- both at one stage
  at-one-stage : (g : Stage) (f e : Fault) (a : IsBodyFault p s f) (b : IsBodyFault p s e) → a.stage ≡ g → b.stage ≡ g → f ≡ e
  at-one-stage g f e a b i j = by (cases_lt a.decl b.decl) (cases_lt b.decl a.decl)
    where
      first : IsFaultOfBody (setting_at p s g) a.decl a.tree f
      first = subst (λ (z : Stage). IsFaultOfBody (setting_at p s z) a.decl a.tree f) i a.fault

      second : IsFaultOfBody (setting_at p s g) b.decl b.tree e
      second = subst (λ (z : Stage). IsFaultOfBody (setting_at p s z) b.decl b.tree e) j b.fault

      before-first : (n : ℕ) (t : Node) → n < a.decl → IsDecl p n t → sort_of t ≡ so.Function → HasWellBody (setting_at p s g) n t
      before-first n t l d o = subst (λ (z : Stage). HasWellBody (setting_at p s z) n t) i (a.before n t l d o)

      before-second : (n : ℕ) (t : Node) → n < b.decl → IsDecl p n t → sort_of t ≡ so.Function → HasWellBody (setting_at p s g) n t
      before-second n t l d o = subst (λ (z : Stage). HasWellBody (setting_at p s z) n t) j (b.before n t l d o)

      equal : a.decl ≡ b.decl → f ≡ e
      equal q =
          let here = subst (λ (n : ℕ). IsFaultOfBody (setting_at p s g) n a.tree f) q first in
          let same : a.tree ≡ b.tree =
          decl-once p b.decl a.tree b.tree (subst (λ (n : ℕ). IsDecl p n a.tree) q a.is_there) b.is_there in
          body-fault-once (setting_at p s g) b.decl b.tree k f e
          (subst (λ (t : Node). IsFaultOfBody (setting_at p s g) b.decl t f) same here) second

      by : (a.decl < b.decl) ⊎ (b.decl ≤ a.decl) → (b.decl < a.decl) ⊎ (a.decl ≤ b.decl) → f ≡ e
      by (inl l) r =
          absurd (body-or-fault (setting_at p s g) a.decl a.tree k f (before-second a.decl a.tree l a.is_there a.function) first)
      by (inr l) (inl r) =
          absurd (body-or-fault (setting_at p s g) b.decl b.tree k e (before-first b.decl b.tree r b.is_there b.function) second)
      by (inr l) (inr r) = equal (omega arith)

  pub body-once : (f e : Fault) → IsBodyFault p s f → IsBodyFault p s e → f ≡ e
  body-once f e a b = at-one-stage b.stage f e a b (judged-once k orders p s a.stage b.stage a.judged b.judged) refl

  pub body-or-faultless : (f : Fault) → AreFaultless p s → IsBodyFault p s f → ⊥
  body-or-faultless f a b =
      let same : a.stage ≡ b.stage = judged-once k orders p s a.stage b.stage a.judged b.judged in
      body-or-fault (setting_at p s b.stage) b.decl b.tree k f
      (subst (λ (z : Stage). HasWellBody (setting_at p s z) b.decl b.tree) same (a.bodies b.decl b.tree b.is_there b.function)) b.fault
