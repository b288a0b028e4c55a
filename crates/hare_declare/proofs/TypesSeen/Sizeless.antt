-- Which types are seen to have no size, by names and error marks.
use Rattle.std.proofs.Common.{◌≡◌, ◌⊎◌, inl, inr, ℕ, zero, suc, ◌<◌, ◌≤◌, Bool, true, false, List, [], ◌∷◌, length, Option, Some, None, refl, sym, ap, ◌∙◌, subst, arith}
use Rattle.std.specs.Prelude.{slice_get, option_map, bytes_eq, codes, ◌||◌, nat_lt, if◌then◌else◌}
use Rattle.std.proofs.Common.{true≢false}
use Rattle.std.proofs.lemmas.Bool.{ltb-true, lt-ltb}
use Rattle.std.proofs.lemmas.Slice.Eq.{bytes_eq-Decides}
use Rattle.std.proofs.lemmas.List.{length-map}
use Rattle.std.proofs.lemmas.Option.{slice_get-map, slice_get_within}
use Rattle.hare_tree.specs.declared.kind.Kind.{Kind}
use Rattle.hare_tree.specs.declared.kind.Kind.TheVariants as ki
use Rattle.hare_tree.specs.declared.token.Meaning.{Meaning}
use Rattle.hare_tree.specs.declared.token.Meaning.TheVariants as me
use Rattle.hare_tree.specs.Node.{Head, Node, Nodes, branch, none, more, head}
use Rattle.hare_modules.specs.Uses.{kid, text_of, place_of}
use Rattle.hare_whole.specs.Listing.{Listing, IsDecl, names_no_size, is_error, is_path, IsUnsized, word, error, name}
use Rattle.hare_declare.specs.declared.outline.SizeSeen.{SizeSeen}
use Rattle.hare_declare.specs.declared.outline.SizeSeen.TheVariants as seen
use Rattle.hare_declare.specs.declared.outline.Outline.{Outline}
use Rattle.hare_declare.specs.Outlines.{seen_by, seen_in_word, seen_in_meaning, size_seen, first_seen, outline_of, outlines}
use Rattle.hare_declare.specs.Lacking.{Sees, Lacks, itself, by_name, AreWithin}

within-none : (xs : List Node) (n : ℕ) → slice_get xs n ≡ None → length xs ≤ n
within-none [] n e = omega arith
within-none (x ∷ xs) zero e = absurd cc
within-none (x ∷ xs) (suc n) e = let l = within-none xs n e in omega (arith, l)

module _ (p : Listing) where
  abbrev pub count : ℕ
  count = length p.decls

  abbrev seen_of : Node → SizeSeen
  seen_of t = size_seen count p.means t

  -- ---- what the text of a type says is so

  -- what is seen of the size of a type, as a fact
  abbrev Says : Node → SizeSeen → Type 0
  Says t seen.Has = Unit {0}
  Says t seen.Lacks = IsUnsized p t
  Says t (seen.ThatOf n) = (d : Node) × IsDecl p n d × (IsUnsized p (kid d 2) → IsUnsized p t)

  says-word : (t : Node) → (head t).kind ≡ ki.TypeScalar → Says t (seen_in_word (text_of t))
  says-word t k = by (bytes_eq (text_of t) (codes "never")) refl (bytes_eq (text_of t) (codes "opaque")) refl
    where
      unsized : (text_of t ≡ codes "never") ⊎ (text_of t ≡ codes "opaque") → IsUnsized p t
      unsized w = word t (subst (λ z. names_no_size z (text_of t)) (sym k) w)

      by : (a : Bool) → bytes_eq (text_of t) (codes "never") ≡ a → (b : Bool) → bytes_eq (text_of t) (codes "opaque") ≡ b
          → Says t (if a || b then seen.Lacks else seen.Has)
      by true e b f = unsized (inl ((bytes_eq-Decides (text_of t) (codes "never")).0 e))
      by false e true f = unsized (inr ((bytes_eq-Decides (text_of t) (codes "opaque")).0 f))
      by false e false f = tt

  is-decl : (n : ℕ) → n < count → (d : Node) × IsDecl p n d
  is-decl n l = by (slice_get p.decls n) refl
    where
      by : (o : Option Node) → slice_get p.decls n ≡ o → (d : Node) × IsDecl p n d
      by (Some d) e = (d, e)
      by None e = let m : length p.decls ≤ n = within-none p.decls n e in absurd (omega (arith, l))

  says-name : (t : Node) → (head t).kind ≡ ki.TypePath → (m : Meaning) → p.means (place_of t) ≡ m → Says t (seen_in_meaning count m)
  says-name t k (me.Decl n) e = by (nat_lt n count) refl
    where
      named : (d : Node) × IsDecl p n d → Says t (seen.ThatOf n)
      named d = (d.0, d.1, λ u. name t n d.0 (ap is_path k) e d.1 u)

      by : (b : Bool) → nat_lt n count ≡ b → Says t (if b then seen.ThatOf n else seen.Has)
      by true l = named (is-decl n (ltb-true n count l))
      by false l = tt
  says-name t k (me.Local n) e = tt
  says-name t k (me.Rt n) e = tt
  says-name t k me.None e = tt

  -- an error mark takes no size and gives none
  says-marked : (t : Node) (z : SizeSeen) → (head t).kind ≡ ki.TypeError → Says (kid t 0) z → Says t z
  says-marked t seen.Has k s = tt
  says-marked t seen.Lacks k s = error t (ap is_error k) s
  says-marked t (seen.ThatOf n) k s = (s.0, s.1, λ u. error t (ap is_error k) (s.2 u))

  says-by : (t : Node) (k : Kind) (w m i : SizeSeen) → (k ≡ ki.TypeScalar → Says t w) → (k ≡ ki.TypePath → Says t m)
      → (k ≡ ki.TypeError → Says t i)
      → Says t (seen_by k w m i)
  says-by t ki.TypeScalar w m i a b c = a refl
  says-by t ki.TypePath w m i a b c = b refl
  says-by t ki.TypeError w m i a b c = c refl
  says-by t _ w m i a b c = tt

  mutual
    says : (t : Node) → Says t (seen_of t)
    says (branch h ts) =
        says-by (branch h ts) h.kind _ _ _ (says-word (branch h ts)) (λ k. says-name (branch h ts) k (p.means h.place) refl)
        (says-first h ts)

    says-first : (h : Head) (ts : Nodes) → h.kind ≡ ki.TypeError → Says (branch h ts) (first_seen count p.means ts)
    says-first h none k = tt
    says-first h (more t ts) k = says-marked (branch h (more t ts)) (seen_of t) k (says t)

  -- ---- and what is so is said

  pub outline-at : (n : ℕ) (d : Node) → IsDecl p n d → slice_get (outlines p) n ≡ Some (outline_of count p.means d)
  outline-at n d e = slice_get-map (outline_of count p.means) p.decls n ∙ ap (option_map (outline_of count p.means)) e

  sees : (n : ℕ) (d : Node) → IsDecl p n d → Sees (outlines p) n (seen_of (kid d 2))
  sees n d e = (outline_of count p.means d, outline-at n d e, refl)

  -- what is seen of a type that has no size
  abbrev IsSeen : SizeSeen → Type 0
  IsSeen z = (z ≡ seen.Lacks) ⊎ ((n : ℕ) × (z ≡ seen.ThatOf n) × Lacks (outlines p) n)

  lacks : (n : ℕ) (z : SizeSeen) → Sees (outlines p) n z → IsSeen z → Lacks (outlines p) n
  lacks n z s (inl e) = itself n (subst (Sees (outlines p) n) e s)
  lacks n z s (inr e) = by_name n e.0 (subst (Sees (outlines p) n) e.1 s) e.2

  word-is : (k : Kind) (w : List ℕ) → names_no_size k w → (k ≡ ki.TypeScalar) × ((w ≡ codes "never") ⊎ (w ≡ codes "opaque"))
  word-is ki.TypeScalar w h = (refl, h)
  word-is _ w h = absurd h

  error-is : (k : Kind) → is_error k ≡ true → k ≡ ki.TypeError
  error-is ki.TypeError e = refl
  error-is _ e = absurd (true≢false (sym e))

  path-is : (k : Kind) → is_path k ≡ true → k ≡ ki.TypePath
  path-is ki.TypePath e = refl
  path-is _ e = absurd (true≢false (sym e))

  word-seen : (w : List ℕ) → (w ≡ codes "never") ⊎ (w ≡ codes "opaque") → seen_in_word w ≡ seen.Lacks
  word-seen w (inl e) =
      ap (λ b. if b || bytes_eq w (codes "opaque") then seen.Lacks else seen.Has) ((bytes_eq-Decides w (codes "never")).1 e)
  word-seen w (inr e) = by (bytes_eq w (codes "never"))
    where
      by : (b : Bool) → (if b || bytes_eq w (codes "opaque") then seen.Lacks else seen.Has) ≡ seen.Lacks
      by true = refl
      by false = ap (λ c. if c then seen.Lacks else seen.Has) ((bytes_eq-Decides w (codes "opaque")).1 e)

  seen-scalar : (t : Node) → (head t).kind ≡ ki.TypeScalar → seen_of t ≡ seen_in_word (text_of t)
  seen-scalar (branch h ts) k =
      ap (λ z. seen_by z (seen_in_word h.text) (seen_in_meaning count (p.means h.place)) (first_seen count p.means ts)) k

  seen-path : (t : Node) → (head t).kind ≡ ki.TypePath → seen_of t ≡ seen_in_meaning count (p.means (place_of t))
  seen-path (branch h ts) k =
      ap (λ z. seen_by z (seen_in_word h.text) (seen_in_meaning count (p.means h.place)) (first_seen count p.means ts)) k

  seen-marked : (t : Node) → (head t).kind ≡ ki.TypeError → IsSeen (seen_of (kid t 0)) → IsSeen (seen_of t)
  seen-marked (branch h none) k s = s
  seen-marked (branch h (more t ts)) k s =
      subst IsSeen (sym (ap (λ z. seen_by z (seen_in_word h.text) (seen_in_meaning count (p.means h.place)) (seen_of t)) k)) s

  unsized-seen : (t : Node) → IsUnsized p t → IsSeen (seen_of t)
  unsized-seen t (word _ w) = let h = word-is (head t).kind (text_of t) w in inl (seen-scalar t h.0 ∙ word-seen (text_of t) h.1)
  unsized-seen t (error _ e u) = seen-marked t (error-is (head t).kind e) (unsized-seen (kid t 0) u)
  unsized-seen t (name _ n d e m i u) =
      let l : n < count = slice_get_within p.decls n d i in
      inr (
        n,
        seen-path t (path-is (head t).kind e) ∙ ap (seen_in_meaning count) m
            ∙ ap (λ b. if b then seen.ThatOf n else seen.Has) (lt-ltb n count l),
        lacks n (seen_of (kid d 2)) (sees n d i) (unsized-seen (kid d 2) u),
      )

  -- ---- declarations

  pub unsized-lacks : (n : ℕ) (d : Node) → IsDecl p n d → IsUnsized p (kid d 2) → Lacks (outlines p) n
  unsized-lacks n d i u = lacks n (seen_of (kid d 2)) (sees n d i) (unsized-seen (kid d 2) u)

  -- each outline is that of a declaration
  pub outline-of : (n : ℕ) (o : Outline) → slice_get (outlines p) n ≡ Some o → (d : Node) × IsDecl p n d × (outline_of count p.means d ≡ o)
  outline-of n o s = by (slice_get p.decls n) refl
    where
      by : (q : Option Node) → slice_get p.decls n ≡ q → (d : Node) × IsDecl p n d × (outline_of count p.means d ≡ o)
      by None e =
          let gone : slice_get (outlines p) n ≡ None = slice_get-map (outline_of count p.means) p.decls n
          ∙ ap (option_map (outline_of count p.means)) e in
          absurd cc
      by (Some d) e =
          let here : slice_get (outlines p) n ≡ Some (outline_of count p.means d) = outline-at n d e in
          let same : outline_of count p.means d ≡ o = cc in
          (d, e, same)

  seen-there : (n : ℕ) (z : SizeSeen) → Sees (outlines p) n z → (d : Node) × IsDecl p n d × (seen_of (kid d 2) ≡ z)
  seen-there n z s = let d = outline-of n s.0 s.1 in (d.0, d.1, ap (λ (o : Outline). o.size) d.2 ∙ s.2)

  pub lacks-unsized : (n : ℕ) → Lacks (outlines p) n → (d : Node) → IsDecl p n d → IsUnsized p (kid d 2)
  lacks-unsized n (itself _ s) d i = by (seen-there n seen.Lacks s)
    where
      by : (e : Node) × IsDecl p n e × (seen_of (kid e 2) ≡ seen.Lacks) → IsUnsized p (kid d 2)
      by (e, j, q) = let same : e ≡ d = cc in subst (λ x. IsUnsized p (kid x 2)) same (subst (Says (kid e 2)) q (says (kid e 2)))
  lacks-unsized n (by_name _ m s l) d i = by (lacks-unsized m l) (seen-there n (seen.ThatOf m) s)
    where
      by : ((f : Node) → IsDecl p m f → IsUnsized p (kid f 2)) → (e : Node) × IsDecl p n e × (seen_of (kid e 2) ≡ seen.ThatOf m)
          → IsUnsized p (kid d 2)
      by r (e, j, q) =
          let same : e ≡ d = cc in
          let said = subst (Says (kid e 2)) q (says (kid e 2)) in
          subst (λ x. IsUnsized p (kid x 2)) same (said.2 (r said.0 said.1))

  pub are-within : AreWithin (outlines p)
  are-within n m s = by (seen-there n (seen.ThatOf m) s)
    where
      by : (e : Node) × IsDecl p n e × (seen_of (kid e 2) ≡ seen.ThatOf m) → m < length (outlines p)
      by (e, j, q) =
          let said = subst (Says (kid e 2)) q (says (kid e 2)) in
          let l : m < count = slice_get_within p.decls m said.0 said.1 in
          omega (arith, length-map p.decls (outline_of count p.means))
