-- What the store says of declared types is what their text says.
use Rattle.std.proofs.Common.{◌≡◌, ◌⊎◌, inl, inr, ℕ, ◌<◌, ◌-◌, ◌^◌, Bool, true, false, List, length, Option, Some, None, refl, sym, ap, ◌∙◌, arith, true≢false}
use Rattle.std.specs.Prelude.{is_none}
use Rattle.std.proofs.lemmas.List.{length-map}
use Rattle.std.proofs.lemmas.Option.{slice_get_within}
use Rattle.hare_tree.specs.declared.kind.Kind.{Kind}
use Rattle.hare_tree.specs.declared.kind.Kind.TheVariants as ki
use Rattle.hare_tree.specs.Node.{Node, head}
use Rattle.hare_graph.specs.Graphs.{label_of}
use Rattle.hare_modules.specs.Uses.{kid}
use Rattle.hare_types.specs.Store.{Store, sized_of}
use Rattle.hare_types.specs.Sound.{IsStore}
use Rattle.hare_depends.specs.declared.said.Sort.TheVariants as so
use Rattle.hare_depends.specs.Sorts.{sort_by, sort_of, sort_of_global, has_type}
use Rattle.hare_rules.specs.Words.{nomem}
use Rattle.hare_whole.specs.Listing.{Listing, IsDecl, IsUnsized, IsDeclared}
use Rattle.hare_declare.specs.declared.outline.Outline.{Outline}
use Rattle.hare_declare.specs.Outlines.{is_type_kind, outline_of, outlines}
use Rattle.hare_declare.specs.Lacking.{TellsLacking}
use Rattle.hare_declare.specs.Entered.{IsTypeAt, AreEntered, KeepsBeside}
use Rattle.hare_declare.proofs.TypesSeen.Sizeless.{outline-at, outline-of, unsized-lacks, lacks-unsized}

global-no-type : (b : Bool) → sort_of_global b ≡ so.Type → ⊥
global-no-type true e = absurd cc
global-no-type false e = absurd cc

kind-of-type : (k : Kind) (t : Node) → sort_by k t ≡ so.Type → is_type_kind k ≡ true
kind-of-type ki.TypeDecl t e = refl
kind-of-type ki.GlobalLet t e = absurd (global-no-type (has_type t) e)
kind-of-type ki.GlobalConst t e = absurd (global-no-type (has_type t) e)
kind-of-type _ t e = absurd cc

type-of-kind : (k : Kind) (t : Node) → is_type_kind k ≡ true → sort_by k t ≡ so.Type
type-of-kind ki.TypeDecl t e = refl
type-of-kind _ t e = absurd (true≢false (sym e))

module _ (p : Listing) (s : Store) (ls : List (Option ℕ)) (entered : AreEntered s (outlines p) ls (length (outlines p))) where
  count-is : length (outlines p) ≡ length p.decls
  count-is = length-map p.decls _

  -- the last number is left for the refusal of memory
  pub nomem-free : length p.decls < 2 ^ 32 - 1 → sized_of s nomem ≡ None
  nomem-free few = by (sized_of s nomem) refl
    where
      by : (o : Option Bool) → sized_of s nomem ≡ o → sized_of s nomem ≡ None
      by None e = e
      by (Some b) e = let l = (entered.only nomem b e).0 in absurd (omega (arith, l, count-is))

  is-type-at : (n : ℕ) (t : Node) → IsDecl p n t → sort_of t ≡ so.Type → IsTypeAt (outlines p) n
  is-type-at n t i e = (outline_of (length p.decls) p.means t, outline-at p n t i, kind-of-type (head t).kind t e)

  within : (n : ℕ) (t : Node) → IsDecl p n t → n < length (outlines p)
  within n t i = let l : n < length p.decls = slice_get_within p.decls n t i in omega (arith, count-is)

  module _ (tells : TellsLacking (outlines p) ls) where
    unlabelled : (n : ℕ) (t : Node) → IsDecl p n t → ¬ IsUnsized p (kid t 2) → label_of ls n ≡ None
    unlabelled n t i sized = by (label_of ls n) refl
      where
        by : (o : Option ℕ) → label_of ls n ≡ o → label_of ls n ≡ None
        by None e = e
        by (Some l) e = absurd (sized (lacks-unsized p n ((tells n (within n t i)).0 (l, e)) t i))

    pub declared : (new : Store) → KeepsBeside nomem s new → IsStore new → IsDeclared new p
    declared new keeps sound = record {
      sound = sound;
      sized = λ n t i e u. keeps.sized n true (entered.sized n (within n t i) (is-type-at n t i e)
          ∙ ap (λ o. Some (is_none o)) (unlabelled n t i u));
      unsized = λ n t i e u.
          let l = (tells n (within n t i)).1 (unsized-lacks p n t i u) in
          keeps.sized n false (entered.sized n (within n t i) (is-type-at n t i e) ∙ ap (λ o. Some (is_none o)) l.1);
      no_other = λ n b e. other-number n b (keeps.only n b e);
    }
      where
        other-number : (n : ℕ) (b : Bool) → (n ≡ nomem) ⊎ (sized_of s n ≡ Some b)
            → ((t : Node) × IsDecl p n t × (sort_of t ≡ so.Type)) ⊎ (n ≡ nomem)
        other-number n b (inl e) = inr e
        other-number n b (inr e) = by (entered.only n b e).1
          where
            by : IsTypeAt (outlines p) n → ((t : Node) × IsDecl p n t × (sort_of t ≡ so.Type)) ⊎ (n ≡ nomem)
            by (o, g, k) =
                let d = outline-of p n o g in
                inl (d.0, d.1, type-of-kind (head d.0).kind d.0 (ap (λ (x : Outline). x.is_type) d.2 ∙ k))
