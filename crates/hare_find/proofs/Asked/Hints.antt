-- What a judge is told of a node tells which kids were asked for a type, as what stands over each of them does.
use Rattle.std.proofs.Common.{◌≡◌, ℕ, zero, suc, ◌+◌, Bool, true, false, cond, List, [], ◌∷◌, ◌++◌, map, take, drop, length, refl, ap, ap₂, sym, ◌∙◌, Option, Some, None}
use Rattle.std.specs.Prelude.{slice_get, slice_index_or, is_some}
use Rattle.std.proofs.lemmas.List.{map-append}
use Rattle.hare_tree.specs.declared.kind.Kind.{Kind}
use Rattle.hare_tree.specs.declared.kind.Kind.TheVariants as ki
use Rattle.hare_tree.specs.Node.{Head, Node, Nodes, head}
use Rattle.hare_tree.specs.Shape.{is_none as is_left_out}
use Rattle.hare_types.specs.declared.coercion.Coercion.{Coercion}
use Rattle.hare_types.specs.declared.coercion.Ty.{Ty}
use Rattle.hare_typed.specs.Typed.{TypedNode, marked, typed_nodes}
use Rattle.hare_typed.specs.Erased.{erase, erase_each}
use Rattle.hare_typed.specs.Coats.{coat}
use Rattle.hare_typed.specs.Coercions.{element_of_slice as slice_element}
use Rattle.hare_typed.specs.Given.{given, base_row}
use Rattle.hare_typed.specs.Numbers.{number_of, kind_of}
use Rattle.hare_rules.specs.declared.hint.Hint.{Hint}
use Rattle.hare_rules.specs.declared.hint.Hint.TheVariants as hint
use Rattle.hare_rules.specs.declared.declared.Local.{Local}
use Rattle.hare_rules.specs.declared.judged.Yielded.{Yielded}
use Rattle.hare_rules.specs.Context.{Setting, Open, own_type, kid}
use Rattle.hare_rules.specs.Aggregates.{called, callee_meaning, hinted_element}
use Rattle.hare_rules.specs.Above.{Above, over_kid, hint_of, unless_bare, is_bare_part, hint_to, first, by_place, param_at, argument_hint, field_hint, component_hint, item_hint_by, written_hint, declared_hint, appended_hint, next_kind, count_of}
use Rattle.hare_rules.specs.Settles.{same}
use Rattle.hare_rules.specs.Judged.{is_type_hint, hands_on, was_hinted}
use Rattle.hare_rules.specs.Words.{id_in}
use Rattle.hare_rules.specs.Flow.{Flow, context}
use Rattle.hare_rules.specs.Finished.{bare}
use Rattle.hare_inference.proofs.Coats.{erase-coat}
use Rattle.hare_told.specs.Settled.{AreAsIs, HandNothingOn}
use Rattle.hare_told.proofs.Steps.{without_names}
use Rattle.hare_told.proofs.Labels.{blank}
use Rattle.hare_told.proofs.Verdicts.{seen}
use Rattle.hare_told.proofs.Settling.{first_left, next_left}
use Rattle.hare_find.specs.Findings.{lists}
use Rattle.hare_find.proofs.Asked.Kids.{EachOver, IsKidFound}

-- ---- coats

length-coats : (cs : List Coercion) (xs : List TypedNode) → length (map (coat cs) xs) ≡ length xs
length-coats cs [] = refl
length-coats cs (x ∷ xs) = ap suc (length-coats cs xs)

meaning-coat : (cs : List Coercion) (xs : List TypedNode) → callee_meaning (first (map (coat cs) xs)) ≡ callee_meaning (first xs)
meaning-coat cs [] = refl
meaning-coat cs (marked h m ts ∷ xs) = refl

written-coat : (cs : List Coercion) (xs : List TypedNode) → written_hint (first (map (coat cs) xs)) ≡ written_hint (first xs)
written-coat cs [] = refl
written-coat cs (marked h m ts ∷ xs) = refl

declared-coat : (cs : List Coercion) (xs : List TypedNode) → declared_hint (map (coat cs) xs) ≡ declared_hint xs
declared-coat cs [] = refl
declared-coat cs (x ∷ []) = refl
declared-coat cs (x ∷ y ∷ []) = refl
declared-coat cs (x ∷ y ∷ marked h m ts ∷ xs) = refl

field-coat : (cs : List Coercion) (w : Setting) (k : Head) (xs : List TypedNode) → field_hint w (map (coat cs) xs) k ≡ field_hint w xs k
field-coat cs w k [] = refl
field-coat cs w k (marked h m ts ∷ xs) = refl

item-coat : (cs : List Coercion) (w : Setting) (o : Option ℕ) (xs : List TypedNode) →
    item_hint_by w o (map (coat cs) xs) ≡ item_hint_by w o xs
item-coat cs w (Some t) xs = refl
item-coat cs w None [] = refl
item-coat cs w None (marked h m ts ∷ xs) = refl

argument-coat : (cs : List Coercion) (w : Setting) (n : ℕ) (xs : List TypedNode) →
    argument_hint w (map (coat cs) xs) n ≡ argument_hint w xs n
argument-coat cs w zero xs = refl
argument-coat cs w (suc n) xs = ap (λ m. hint_to (param_at (called w m) n)) (meaning-coat cs xs)

erased-coats : (cs : List Coercion) (xs : List TypedNode) → erase_each (typed_nodes (map (coat cs) xs)) ≡ erase_each (typed_nodes xs)
erased-coats cs [] = refl
erased-coats cs (x ∷ xs) = rw (erase-coat cs x, erased-coats cs xs) refl

-- ---- hints

-- the kinds that ask a kid for what the first one gives
abbrev pub looks_at_first : Kind → Bool
looks_at_first ki.Assign = true
looks_at_first ki.Append = true
looks_at_first _ = false

appended-same : (w : Setting) (x y : TypedNode) (rest : Nodes) → given x ≡ given y → appended_hint w x rest ≡ appended_hint w y rest
appended-same w x y rest e =
    ap
    (λ (b : Ty).
    cond (is_some (slice_element (base_row w.store b)))
    (cond (is_left_out (next_kind rest)) (hint_to (slice_element (base_row w.store b))) (hint_to (id_in b)))
    hint.None)
    e

hint-coat : (k : Kind) (w : Setting) (h : Head) (own values : Hint) (ls ms : List Open) (result : ℕ) (cs : List Coercion)
    (xs : List TypedNode)
    (t : Node) (rest : Nodes) → lists k ≡ true → (looks_at_first k ≡ true → given (first (map (coat cs) xs)) ≡ given (first xs)) →
    hint_of (without_names w) h own hint.None ms result (map (coat cs) xs) t rest k ≡ hint_of w h own values ls result xs t rest k
hint-coat ki.Yield w h own values ls ms result cs xs t rest e g = cc
hint-coat ki.SwitchCase w h own values ls ms result cs xs t rest e g = cc
hint-coat ki.Assign w h own values ls ms result cs xs t rest e g =
    ap₂ (λ n (x : Hint). by_place n (hint.None ∷ x ∷ []) hint.None) (length-coats cs xs) (ap (λ (b : Ty). hint_to (id_in b)) (g refl))
hint-coat ki.Append w h own values ls ms result cs xs t rest e g =
    ap₂ (λ n (x : Hint). by_place n (hint.None ∷ x ∷ []) hint.None) (length-coats cs xs)
    (appended-same w (first (map (coat cs) xs)) (first xs) rest (g refl))
hint-coat ki.Call w h own values ls ms result cs xs t rest e g =
    ap (λ n. argument_hint w (map (coat cs) xs) n) (length-coats cs xs) ∙ argument-coat cs w (length xs) xs
hint-coat ki.Index w h own values ls ms result cs xs t rest e g = rw (length-coats cs xs) refl
hint-coat ki.Slice w h own values ls ms result cs xs t rest e g = rw (length-coats cs xs) refl
hint-coat ki.StructLit w h own values ls ms result cs xs t rest e g = field-coat cs w (head t) xs
hint-coat ki.Tuple w h own values ls ms result cs xs t rest e g =
    ap (λ n. component_hint w own (n + suc (count_of rest)) n) (length-coats cs xs)
hint-coat ki.Array w h own values ls ms result cs xs t rest e g = item-coat cs w (hinted_element w.store own) xs
hint-coat ki.Alloc w h own values ls ms result cs xs t rest e g = rw (length-coats cs xs) refl
hint-coat ki.Let w h own values ls ms result cs xs t rest e g =
    ap₂ (λ n (x : Hint). by_place n (hint.None ∷ x ∷ []) hint.None) (length-coats cs xs) (written-coat cs xs)
hint-coat ki.Const w h own values ls ms result cs xs t rest e g =
    ap₂ (λ n (x : Hint). by_place n (hint.None ∷ x ∷ []) hint.None) (length-coats cs xs) (written-coat cs xs)
hint-coat ki.Def w h own values ls ms result cs xs t rest e g = declared-coat cs xs
hint-coat ki.GlobalLet w h own values ls ms result cs xs t rest e g = declared-coat cs xs
hint-coat ki.GlobalConst w h own values ls ms result cs xs t rest e g = declared-coat cs xs
hint-coat ki.If w h own values ls ms result cs xs t rest e g = rw (length-coats cs xs) refl
hint-coat ki.For w h own values ls ms result cs xs t rest e g = rw (length-coats cs xs) refl
hint-coat ki.ForEach w h own values ls ms result cs xs t rest e g = rw (length-coats cs xs) refl
hint-coat ki.Case w h own values ls ms result cs xs t rest e g = rw (length-coats cs xs) refl
hint-coat ki.Match w h own values ls ms result cs xs t rest e g = rw (length-coats cs xs) refl
hint-coat ki.Switch w h own values ls ms result cs xs t rest e g = rw (length-coats cs xs) refl
hint-coat _ w h own values ls ms result cs xs t rest e g = refl

-- ---- kids

got : (cs : List Coercion) (n : ℕ) (r d : Coercion) → slice_get cs n ≡ Some r → slice_index_or cs n d ≡ r
got [] zero r d e = cc
got [] (suc n) r d e = cc
got (c ∷ cs) zero r d e = cc
got (c ∷ cs) (suc n) r d e = got cs n r d e

unasked-bare : (k : Kind) → is_type_hint (unless_bare k hint.None) ≡ false
unasked-bare k = by_part (is_bare_part k) where
  by_part : (b : Bool) → is_type_hint (cond b hint.None hint.None) ≡ false
  by_part true = refl
  by_part false = refl

-- what the first gives, where it stays as it is
given-stays : (cs : List Coercion) (z : TypedNode) → slice_get cs (number_of (bare z)) ≡ Some (same (own_type (bare z))) →
    given (coat cs (bare z)) ≡ given (bare z)
given-stays cs (marked h m ts) e = ap (λ (r : Coercion). r.to) (got cs m.node (same m.ty) (same m.ty) e)

first-hint : (k : Kind) (w : Setting) (h : Head) (own values : Hint) (ls : List Open) (result : ℕ) (t : Node) (rest : Nodes) →
    looks_at_first k ≡ true → hint_of w h own values ls result [] t rest k ≡ hint.None
first-hint ki.Assign w h own values ls result t rest e = refl
first-hint ki.Append w h own values ls result t rest e = refl
first-hint _ w h own values ls result t rest e = cc

first-next : (cs : List Coercion) (w : Setting) (a : Above) (h : Head) (xs zs : List TypedNode) (z : TypedNode) →
    IsKidFound w cs (over_kid w a h xs (erase (bare z)) (erase_each (typed_nodes zs))) (bare z) →
    (looks_at_first h.kind ≡ true → given (first (map (coat cs) xs)) ≡ given (first xs)) → looks_at_first h.kind ≡ true →
    given (first (map (coat cs) (xs ++ bare z ∷ []))) ≡ given (first (xs ++ bare z ∷ []))
first-next cs w a h [] zs z k g e =
    let t = erase (bare z) in
    let p = first-hint h.kind w h a.hint a.values a.inside.labels a.inside.result t (erase_each (typed_nodes zs)) e in
    given-stays cs z (k.stays (ap (λ q. is_type_hint (unless_bare (head t).kind q)) p ∙ unasked-bare (head t).kind))
first-next cs w a h (x ∷ xs) zs z k g e = g e

kind-coat : (cs : List Coercion) (z : TypedNode) → kind_of (coat cs (bare z)) ≡ (head (erase (bare z))).kind
kind-coat cs (marked h m ts) = refl

stays-coat : (cs : List Coercion) (z : TypedNode) → slice_get cs (number_of (bare z)) ≡ Some (same (own_type (bare z))) →
    slice_get cs (number_of (coat cs (bare z))) ≡ Some (same (own_type (coat cs (bare z))))
stays-coat cs (marked h m ts) e = e

take_next : (xs ys : List TypedNode) (i : ℕ) (x : TypedNode) → drop i xs ≡ x ∷ ys → take (suc i) xs ≡ take i xs ++ x ∷ []
take_next [] ys zero x e = cc
take_next [] ys (suc i) x e = cc
take_next (y ∷ xs) ys zero x e = let s : y ≡ x = cc in ap (λ z. z ∷ []) s
take_next (y ∷ xs) ys (suc i) x e = ap (λ zs. y ∷ zs) (take_next xs ys i x e)

-- a kid that the judge finds unasked stands under no hint of a type
hint-same : (w : Setting) (a : Above) (h : Head) (all : List TypedNode) (f : Flow) (ls : List Local) (ys : List Yielded) (i : ℕ)
    (xs zs : List TypedNode)
    (z : TypedNode) →
    lists h.kind ≡ true → drop i (map (coat f.coercions) all) ≡ coat f.coercions (bare z) ∷ map (coat f.coercions) zs →
    take i (map (coat f.coercions) all) ≡ map (coat f.coercions) xs →
    hands_on (kind_of (coat f.coercions (bare z))) ≡ false →
    (looks_at_first h.kind ≡ true → given (first (map (coat f.coercions) xs)) ≡ given (first xs)) →
    was_hinted (seen ls ys (context w a h all f)) i ≡ false →
    is_type_hint (over_kid w a h xs (erase (bare z)) (erase_each (typed_nodes zs))).hint ≡ false
hint-same w a h all f ls ys i xs zs z e d t n g u =
    let cs = f.coercions in
    let kids = map (coat cs) all in
    let y = coat cs (bare z) in
    let rest = map (coat cs) zs in
    let j = seen ls ys (context w a h all f) in
    let at : kid j i ≡ y = first_left kids rest i y d in
    let behind : drop (suc i) kids ≡ rest = next_left kids rest i y d in
    let none : hands_on (kind_of (kid j i)) ≡ false = ap (λ x. hands_on (kind_of x)) at ∙ n in
    let asked : is_type_hint (told_hint (kid j i) (take i kids) (drop (suc i) kids)) ≡ false = rw none at u in
    let moved : told_hint (kid j i) (take i kids) (drop (suc i) kids) ≡ told_hint y (map (coat cs) xs) rest =
    ap (λ x. told_hint x (take i kids) (drop (suc i) kids)) at
    ∙ ap (λ qs. told_hint y qs (drop (suc i) kids)) t
    ∙ ap (told_hint y (map (coat cs) xs)) behind in
    let kind : kind_of y ≡ (head (erase (bare z))).kind = kind-coat cs z in
    let same_tree : erase y ≡ erase (bare z) = erase-coat cs (bare z) in
    let same_rest : erase_each (typed_nodes rest) ≡ erase_each (typed_nodes zs) = erased-coats cs zs in
    let as_told : told_hint y (map (coat cs) xs) rest
    ≡ unless_bare (head (erase (bare z))).kind
    (hint_of (without_names w) h a.hint hint.None (map blank a.inside.labels) a.inside.result (map (coat cs) xs) (erase (bare z))
    (erase_each (typed_nodes zs)) h.kind) =
    rw (kind, same_tree, same_rest) refl in
    let here = hint-coat h.kind w h a.hint a.values a.inside.labels (map blank a.inside.labels) a.inside.result cs xs (erase (bare z))
    (erase_each (typed_nodes zs)) e g in
    sym (ap is_type_hint (moved ∙ as_told ∙ ap (unless_bare (head (erase (bare z))).kind) here)) ∙ asked
  where
    told_hint : TypedNode → List TypedNode → List TypedNode → Hint
    told_hint x qs rs =
        unless_bare (kind_of x)
        (hint_of (without_names w) h a.hint hint.None (map blank a.inside.labels) a.inside.result qs (erase x) (erase_each
        (typed_nodes rs)) h.kind)

-- Each kid that the judge finds unasked has been left as it is.
pub as_is-from : (w : Setting) (a : Above) (h : Head) (all : List TypedNode) (f : Flow) (ls : List Local) (ys : List Yielded) (i : ℕ)
    (xs zs : List TypedNode) →
    lists h.kind ≡ true → drop i (map (coat f.coercions) all) ≡ map (coat f.coercions) (map bare zs) →
    take i (map (coat f.coercions) all) ≡ map (coat f.coercions) xs →
    HandNothingOn (map (coat f.coercions) (map bare zs)) →
    (looks_at_first h.kind ≡ true → given (first (map (coat f.coercions) xs)) ≡ given (first xs)) →
    EachOver (IsKidFound w f.coercions) w a h xs (map bare zs) →
    AreAsIs (seen ls ys (context w a h all f)) i (map (coat f.coercions) (map bare zs)) f.coercions
as_is-from w a h all f ls ys i xs [] e d t n g k = tt
as_is-from w a h all f ls ys i xs (z ∷ zs) e d t n g k =
    let cs = f.coercions in
    let kids = map (coat cs) all in
    let y = coat cs (bare z) in
    let rest = map (coat cs) (map bare zs) in
    let next : take (suc i) kids ≡ map (coat cs) (xs ++ bare z ∷ []) =
    take_next kids rest i y d ∙ ap (λ qs. qs ++ y ∷ []) t ∙ sym (map-append (coat cs) xs (bare z ∷ [])) in (
      (λ u. stays-coat cs z (k.0.stays (hint-same w a h all f ls ys i xs (map bare zs) z e d t n.0 g u))),
      as_is-from w a h all f ls ys (suc i) (xs ++ bare z ∷ []) zs e (next_left kids rest i y d) next n.1 (first-next cs w a h xs
          (map bare zs) z k.0 g) k.1,
    )
