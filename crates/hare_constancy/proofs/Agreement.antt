-- What is known agrees as before, when one constant more is known.
use Rattle.std.proofs.Common.{◌≡◌, ◌≢◌, ◌∙◌, sym, ap, subst, ℕ, ◌+◌, ◌*◌, ◌^◌, ◌<◌, ◌⊎◌, inl, inr, refl, arith, Bool, true, false, Some}
use Rattle.std.specs.Prelude.{nat_eq, Contains}
use Rattle.std.specs.Cmp.{unsigned_Decides}
use Rattle.hare_typed.specs.declared.constant.Const.{Const}
use Rattle.hare_typed.specs.declared.constant.ConstObject.{ConstObject}
use Rattle.hare_rules.specs.declared.declared.DeclType.{DeclType}
use Rattle.hare_rules.specs.Context.{Setting, declaration}
use Rattle.hare_constancy.specs.Coherent.{listed, DefsAgree}
use Rattle.hare_constancy.specs.Kept.{IsOfNode, IsListed, ListsSoundly, Knows, DefsStayInAgreement}

module _ (w later : Setting) (own : ℕ) (v : Const) (k : Knows w later own v) where
  -- the constant lists it, or what was known of another declaration
  known : (n : ℕ) (d : DeclType) (o : ConstObject) → declaration later n ≡ Some d → Contains (listed d.value) o →
      Contains (listed v) o ⊎ IsListed w o
  known n d o e c = by (nat_eq n own) refl
    where
      by : (b : Bool) → nat_eq n own ≡ b → Contains (listed v) o ⊎ IsListed w o
      by true f =
          let same : n ≡ own = (unsigned_Decides n own).0 f in
          let this : d.value ≡ v = k.this d (sym (ap (declaration later) same) ∙ e) in
          inl (subst (λ (x : Const). Contains (listed x) o) this c)
      by false f =
          let other : n ≢ own = λ g. (let both = sym f ∙ (unsigned_Decides n own).1 g in absurd cc) in
          inr (n, d, sym (k.others n other) ∙ e, c)

  module _ (s : ListsSoundly w own v) (a : DefsAgree w own) where
    -- of the constant and of what was known
    across : (o p : ConstObject) → Contains (listed v) o → IsListed w p → o.object ≡ p.object → o.cells ≡ p.cells
    across o p c (n, d, e, g) q = by (s.from o c)
      where
        by : IsOfNode own o ⊎ IsListed w o → o.cells ≡ p.cells
        by (inl (i, l, f)) = absurd (a.others n i d p e g l (sym q ∙ f))
        by (inr (m, b, f, h)) = a.one m n b d o p f e h g q

    both_known : (o p : ConstObject) → Contains (listed v) o ⊎ IsListed w o → Contains (listed v) p ⊎ IsListed w p →
        o.object ≡ p.object → o.cells ≡ p.cells
    both_known o p (inl c) (inl e) q = s.one o p c e q
    both_known o p (inl c) (inr e) q = across o p c e q
    both_known o p (inr c) (inl e) q = sym (across p o e c (sym q))
    both_known o p (inr (n, d, e, c)) (inr (m, b, f, h)) q = a.one n m d b o p e f c h q

    module _ (other : ℕ) (b : DefsAgree w other) (unlike : own ≢ other) where
      elsewhere : (i : ℕ) (o : ConstObject) → Contains (listed v) o ⊎ IsListed w o → i < 2 ^ 32 → o.object ≢ (other + 1) * 2 ^ 32 + i
      elsewhere i o (inl c) l q = by (s.from o c)
        where
          by : IsOfNode own o ⊎ IsListed w o → ⊥
          by (inl (j, h, f)) = unlike (omega (arith, q, f, l, h))
          by (inr (n, d, e, g)) = b.others n i d o e g l q
      elsewhere i o (inr (n, d, e, c)) l q = b.others n i d o e c l q

      agreement : DefsAgree later other
      agreement = record {
        one = λ n m d e o p f g c h q. both_known o p (known n d o f c) (known m e p g h) q;
        others = λ n i d o e c l q. elsewhere i o (known n d o e c) l q;
      }

pub defs_stay_in_agreement : DefsStayInAgreement
defs_stay_in_agreement w later own other v k s a b u = agreement w later own v k s a other b u
