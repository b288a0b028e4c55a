-- The items of an array one behind another.
use Rattle.std.proofs.Common.{◌≡◌, ◌∙◌, sym, ap, refl, ℕ, zero, suc, ◌+◌, ◌-◌, ◌≤◌, ◌<◌, arith, List, [], ◌∷◌, ◌++◌, append_assoc, length, drop}
use Rattle.std.proofs.lemmas.List.{append-nil, drop_at}
use Rattle.hare_tree.specs.declared.kind.Kind.TheVariants as kind
use Rattle.hare_types.specs.Store.{Store}
use Rattle.hare_typed.specs.declared.cell.Cell.{Cell}
use Rattle.hare_typed.specs.Typed.{TypedNode, kids_of}
use Rattle.hare_typed.specs.Weight.{items_of}
use Rattle.hare_typed.specs.Repeats.{again}
use Rattle.hare_typed.specs.ConstantForms.{joined, last_of, repeats}
use Rattle.hare_typed.specs.ConstantValues.{without_run}
use Rattle.hare_const.specs.declared.outcome.Outcome.{Outcome}
use Rattle.hare_const.specs.declared.outcome.Outcome.TheVariants.{Known, Aborts, Undefined}
use Rattle.hare_const.specs.NodeValues.{on_cells, kid_at, kids_at, array_value}

-- ---- what is made of kids

on-same : (o : Outcome) (f g : List Cell → Outcome) → ((c : List Cell) → f c ≡ g c) → on_cells o f ≡ on_cells o g
on-same (Known c) f g h = h c
on-same Aborts f g h = refl
on-same Undefined f g h = refl

kids-same : (i n : ℕ) (os : List Outcome) (f g : List (List Cell) → Outcome) → ((cs : List (List Cell)) → f cs ≡ g cs) →
    kids_at i n os f ≡ kids_at i n os g
kids-same i zero os f g h = h []
kids-same i (suc n) os f g h = on-same (kid_at i os) _ _ (λ c. kids-same (suc i) n os _ _ (λ cs. h (c ∷ cs)))

-- ---- lists of lists

joined-push : (cs : List (List Cell)) (c : List Cell) → joined (cs ++ c ∷ []) ≡ joined cs ++ c
joined-push [] c = append-nil c
joined-push (d ∷ cs) c = ap (λ xs. d ++ xs) (joined-push cs c) ∙ sym (append_assoc d (joined cs) c)

last-push : (cs : List (List Cell)) (c : List Cell) → last_of (cs ++ c ∷ []) ≡ c
last-push [] c = refl
last-push (d ∷ []) c = refl
last-push (d ∷ e ∷ cs) c = last-push (e ∷ cs) c

-- ---- the loop

-- what the value is once these items are laid and some are left
abbrev pub Rest : Store → TypedNode → List Outcome → ℕ → ℕ → List (List Cell) → Outcome
Rest s t os i n done = kids_at i n os (λ cs. Known (array_value s t (done ++ cs)))

-- so many items are laid one behind another, of which the last one begins at a place
pub record Laid (s : Store) (t : TypedNode) (os : List Outcome) (i n last : ℕ) (whole : List Cell) : Type 0 where
  pub done : List (List Cell)
  pub cells : whole ≡ joined done
  pub repeated : drop last whole ≡ last_of done
  pub rest : kids_at 0 n os (λ cs. Known (array_value s t cs)) ≡ Rest s t os i (n - i) done

pub laid-none : (s : Store) (t : TypedNode) (os : List Outcome) (n : ℕ) → Laid s t os 0 n 0 []
laid-none s t os n =
    let e : n ≡ n - 0 = omega arith in
    record { done = []; cells = refl; repeated = refl; rest = ap (λ k. Rest s t os 0 k []) e }

rest-next : (s : Store) (t : TypedNode) (os : List Outcome) (i n k : ℕ) (done : List (List Cell)) (c : List Cell) → kid_at i os ≡ Known c →
    n - i ≡ suc k → Rest s t os i (n - i) done ≡ Rest s t os (suc i) k (done ++ c ∷ [])
rest-next s t os i n k done c e f =
    ap (λ m. Rest s t os i m done) f
    ∙ ap (λ o. on_cells o (λ d. kids_at (suc i) k os λ cs. Known (array_value s t (done ++ (d ∷ cs))))) e
    ∙ kids-same (suc i) k os _ _ (λ cs. ap (λ xs. Known (array_value s t xs)) (sym (append_assoc done (c ∷ []) cs)))

-- one more item is laid
pub laid-more : (s : Store) (t : TypedNode) (os : List Outcome) (i n last at : ℕ) (whole new c : List Cell) →
    Laid s t os i n last whole → i < n →
    kid_at i os ≡ Known c → at ≡ length whole → new ≡ whole ++ c → Laid s t os (i + 1) n at new
laid-more s t os i n last at whole new c l h e a w =
    let f : n - i ≡ suc (n - (i + 1)) = omega arith in
    let g : suc i ≡ i + 1 = omega arith in
    record {
      done = l.done ++ c ∷ [];
      cells = w ∙ ap (λ xs. xs ++ c) l.cells ∙ sym (joined-push l.done c);
      repeated = ap (drop at) w ∙ drop_at whole c at (sym a) ∙ sym (last-push l.done c);
      rest =
          l.rest ∙ rest-next s t os i n (n - (i + 1)) l.done c e f
          ∙ ap (λ j. Rest s t os j (n - (i + 1)) (l.done ++ c ∷ [])) g;
    }

-- an item that has no value
pub laid-stopped : (s : Store) (t : TypedNode) (os : List Outcome) (i n last : ℕ) (whole : List Cell) (o : Outcome) →
    Laid s t os i n last whole → i < n →
    n ≡ items_of kind.Array (kids_of t) → kid_at i os ≡ o → ((f : List Cell → Outcome) → on_cells o f ≡ o) →
    o ≡ kids_at 0 (items_of kind.Array (kids_of t)) os (λ cs. Known (array_value s t cs))
laid-stopped s t os i n last whole o l h m e f =
    let g : n - i ≡ suc (n - (i + 1)) = omega arith in
    let next : List Cell → Outcome = λ d. kids_at (suc i) (n - (i + 1)) os λ cs. Known (array_value s t (l.done ++ (d ∷ cs))) in
    sym (l.rest ∙ ap (λ k. Rest s t os i k l.done) g ∙ ap (λ x. on_cells x next) e ∙ f next)
    ∙ ap (λ k. kids_at 0 k os (λ cs. Known (array_value s t cs))) m

-- all items are laid, and the last one is repeated
pub laid-all : (s : Store) (t : TypedNode) (os : List Outcome) (i n last k : ℕ) (whole new : List Cell) → Laid s t os i n last whole →
    n ≤ i →
    n ≡ items_of kind.Array (kids_of t) → k ≡ repeats (without_run s) t (items_of kind.Array (kids_of t)) →
    new ≡ whole ++ again k (drop last whole) →
    Known new ≡ kids_at 0 (items_of kind.Array (kids_of t)) os (λ cs. Known (array_value s t cs))
laid-all s t os i n last k whole new l h m e w =
    let g : n - i ≡ 0 = omega arith in
    let r : ℕ = repeats (without_run s) t (items_of kind.Array (kids_of t)) in
    ap Known (w ∙ ap (λ x. whole ++ again k x) l.repeated ∙ ap (λ x. x ++ again k (last_of l.done)) l.cells ∙ ap
    (λ m. joined l.done ++ again m (last_of l.done)) e
    ∙ ap (λ xs. joined xs ++ again r (last_of xs)) (sym (append-nil l.done)))
    ∙ sym (l.rest ∙ ap (λ j. Rest s t os i j l.done) g)
    ∙ ap (λ j. kids_at 0 j os (λ cs. Known (array_value s t cs))) m
