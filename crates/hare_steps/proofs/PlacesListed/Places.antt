-- Where declarations stand.
use Rattle.std.proofs.Common.{◌≡◌, ℕ, ◌+◌, ◌≤◌, List, [], ◌∷◌, ◌++◌, length, map, drop, Option, Some, None, refl, ap, sym, subst, ◌∙◌, append_assoc}
use Rattle.std.specs.Prelude.{slice_get, option_map, option_and_then, option_copied, IfSome, IfNone}
use Rattle.std.proofs.lemmas.List.{map-append}
use Rattle.std.specs.Borrow.{Bor}
use Rattle.std.proofs.lemmas.Option.{slice_get-map, slice_get_past}
use Rattle.hare_tree.specs.declared.tree.FileTree.{FileTree}
use Rattle.hare_tree.specs.Node.{Node}
use Rattle.hare_modules.proofs.ListLemmas.{drop-there, map-push}
use Rattle.hare_saids.proofs.FileLemmas.{mapped-more}
use Rattle.hare_saids.specs.Saids.{decls}
use Rattle.hare_steps.specs.declared.listed.DeclPlace.{DeclPlace}
use Rattle.hare_steps.specs.Plans.{decl_at, ArePlaces}

-- ---- one place more

-- the place of one declaration more of a file is put behind others
pub places-next : (fs : List FileTree) (f : FileTree) (p : DeclPlace) (i : ℕ) (x : Node) (old new : List DeclPlace)
    (all : List (Option Node))
    → slice_get fs p.file ≡ Some f → slice_get f.decls p.decl ≡ Some x → p.decl ≡ i → new ≡ old ++ p ∷ []
    → map (decl_at fs) old ++ map Some (drop i f.decls) ≡ all → map (decl_at fs) new ++ map Some (drop (i + 1) f.decls) ≡ all
places-next fs f p i x old new all file there at e w =
    let here : decl_at fs p ≡ Some x = ap (option_and_then (λ f. slice_get f.decls p.decl)) file ∙ there in
    mapped-more Some (map (decl_at fs) old) (map (decl_at fs) new) all f.decls i x (decl_at fs p)
    (subst (λ k. slice_get f.decls k ≡ Some x) at there) here
    (ap (map (decl_at fs)) e ∙ map-push (decl_at fs) old p) w

-- the places of one file more
pub files-next : (fs : List FileTree) (f : FileTree) (i : ℕ) (now new all : List (Option Node)) → slice_get fs i ≡ Some f →
    new ≡ now ++ map Some f.decls
    → now ++ map Some (decls (drop i fs)) ≡ all → new ++ map Some (decls (drop (i + 1) fs)) ≡ all
files-next fs f i now new all here e w =
    ap (λ xs. xs ++ map Some (decls (drop (i + 1) fs))) e
    ∙ append_assoc now (map Some f.decls) (map Some (decls (drop (i + 1) fs)))
    ∙ ap (λ xs. now ++ xs) (sym (map-append Some f.decls (decls (drop (i + 1) fs))))
    ∙ ap (λ gs. now ++ map Some (decls gs)) (sym (drop-there fs i f here)) ∙ w

-- ---- by their numbers

one-of : {A : Type 0} (o : Option A) (q : Option A) → option_map Some o ≡ Some q → o ≡ q
one-of None q e = absurd cc
one-of (Some x) q e = cc

none-of : {A : Type 0} (o : Option A) → option_map Some o ≡ None → o ≡ None
none-of None e = refl
none-of (Some x) e = absurd cc

module _ (fs : List FileTree) (ps : List DeclPlace) (h : ArePlaces fs ps) (n : ℕ) where
  both : option_map Some (slice_get (decls fs) n) ≡ option_map (decl_at fs) (slice_get ps n)
  both = sym (slice_get-map Some (decls fs) n) ∙ ap (λ l. slice_get l n) (sym h) ∙ slice_get-map (decl_at fs) ps n

  -- the declaration stands at its place
  pub stands-there : (p : DeclPlace) → slice_get ps n ≡ Some p → slice_get (decls fs) n ≡ decl_at fs p
  stands-there p e = one-of (slice_get (decls fs) n) (decl_at fs p) (both ∙ ap (option_map (decl_at fs)) e)

  -- where there is no such place, there is no such declaration
  pub stands-nowhere : slice_get ps n ≡ None → slice_get (decls fs) n ≡ None
  stands-nowhere e = none-of (slice_get (decls fs) n) (both ∙ ap (option_map (decl_at fs)) e)

-- ---- reading a place

pub no-file : (fs : List FileTree) (p : DeclPlace) → None ≡ slice_get fs p.file → None ≡ decl_at fs p
no-file fs p e = ap (option_and_then (λ f. slice_get f.decls p.decl)) e

pub in-file : (fs : List FileTree) (p : DeclPlace) (f : FileTree) (o : Option (Bor Node)) → Some f ≡ slice_get fs p.file
    → IfNone o (length f.decls ≤ p.decl) → IfSome o (λ t. slice_get f.decls p.decl ≡ Some t.now) → option_copied o ≡ decl_at fs p
in-file fs p f None e none some = sym (slice_get_past f.decls p.decl none) ∙ ap (option_and_then (λ f. slice_get f.decls p.decl)) e
in-file fs p f (Some t) e none some = sym some ∙ ap (option_and_then (λ f. slice_get f.decls p.decl)) e
