-- What is seen behind a node's turn.
use Rattle.std.proofs.Common.{◌≡◌, ℕ, zero, suc, ◌+◌, ◌<◌, true, false, not, List, [], ◌∷◌, ◌++◌, length, map, take, get_or, refl, ap, sym, ◌∙◌, subst, arith, add-one, append_assoc, Option, Some, None}
use Rattle.std.specs.Prelude.{filter}
use Rattle.hare_tree.specs.declared.kind.Kind.{Kind}
use Rattle.hare_tree.specs.declared.kind.Kind.TheVariants as ki
use Rattle.hare_tree.specs.declared.place.Place.{Place}
use Rattle.hare_tree.specs.Node.{Head}
use Rattle.hare_types.specs.declared.coercion.Coercion.{Coercion}
use Rattle.hare_types.specs.declared.coercion.Ty.{Ty}
use Rattle.hare_types.specs.Store.{Store}
use Rattle.hare_types.specs.Later.{IsLater}
use Rattle.hare_typed.specs.Typed.{TypedNode, marked}
use Rattle.hare_typed.specs.Copies.{has_defers as takes_yields}
use Rattle.hare_typed.specs.Numbers.{number_of}
use Rattle.hare_typed.specs.Order.{tree_from_front}
use Rattle.hare_rules.specs.Above.{Above}
use Rattle.hare_rules.specs.Context.{Setting, Entry, Given, Open, is_there, own_type, place_of, store_of}
use Rattle.hare_rules.specs.Control.{yield_level}
use Rattle.hare_rules.specs.Finished.{bare}
use Rattle.hare_rules.specs.Flow.{Flow, Yielded, is_at, add_yield, context, locals_after, yields_after, yielded, write_each, settled_type, flow_after}
use Rattle.hare_rules.specs.Settles.{Settled, settles_kids}
use Rattle.hare_rules.specs.Types.{type_of}
use Rattle.hare_find.specs.declared.finding.Finding.{Finding}
use Rattle.hare_find.specs.declared.late.Late.{Late}
use Rattle.hare_find.specs.declared.yields.Levels.{Levels}
use Rattle.hare_find.specs.Closing.{HasKids, Closes}
use Rattle.hare_find.specs.Findings.{IsFoundAt}
use Rattle.hare_find.specs.Late.{settled_in}
use Rattle.hare_find.specs.Listed.{written_each}
use Rattle.hare_find.specs.Settling.{option_in}

-- ---- what is settled late

taken : (xs : List Late) (i : ℕ) (x : Late) → i < length xs → x ≡ get_or xs i x →
    map settled_in (take (suc i) xs) ≡ map settled_in (take i xs) ++ settled_in x ∷ []
taken [] i x h e = absurd (omega arith)
taken (y ∷ ys) zero x h e = ap (λ z. settled_in z ∷ []) (sym e)
taken (y ∷ ys) (suc i) x h e = ap (λ zs. settled_in y ∷ zs) (taken ys i x (omega arith) e)

pub late_taken : (xs : List Late) (i : ℕ) (x : Late) (before now new : List Settled) → i < length xs → x ≡ get_or xs i x →
    now ≡ before ++ map settled_in (take i xs) → new ≡ now ++ settled_in x ∷ [] → new ≡ before ++ map settled_in (take (i + 1) xs)
late_taken xs i x before now new h e k g =
    rw add-one
    (g ∙ ap (λ zs. zs ++ settled_in x ∷ []) k ∙ append_assoc before (map settled_in (take i xs)) (settled_in x ∷ [])
    ∙ ap (λ zs. before ++ zs) (sym (taken xs i x h e)))

-- ---- the value of a `yield`

pub handed_value : (h : Head) (xs : List TypedNode) (p : Place) (a : Ty) (n : ℕ) (g : Given) → is_there (tree_from_front 0 xs) ≡ true →
    p ≡ place_of (tree_from_front 0 xs) → a ≡ own_type (tree_from_front 0 xs) → n ≡ number_of (tree_from_front 0 xs) →
    g ≡ record { place = p; ty = Some a; node = Some n } → g ≡ yielded h (tree_from_front 0 (map bare xs))
handed_value h [] p a n g e i j k d = cc
handed_value h (marked l m ts ∷ xs) p a n g e i j k d = d ∙ rw (e, i, j, k) refl

pub handed_void : (h : Head) (xs : List TypedNode) (g : Given) → is_there (tree_from_front 0 xs) ≡ false →
    g ≡ record { place = h.place; ty = None; node = None } → g ≡ yielded h (tree_from_front 0 (map bare xs))
handed_void h [] g e d = d
handed_void h (marked l m ts ∷ xs) g e d = d ∙ rw e refl

pub yields_handed : (k : Kind) (ls : List Open) (h : Head) (xs : List TypedNode) (ys : List Yielded) (o : Option ℕ) → k ≡ ki.Yield →
    yield_level h.text ls ≡ o → yields_after k ls h xs ys ≡ add_yield h xs o ys
yields_handed k ls h xs ys o e g = ap (λ z. yields_after z ls h xs ys) e ∙ ap (λ z. add_yield h xs z ys) g

pub yields_taken : (k : Kind) (ls : List Open) (h : Head) (xs : List TypedNode) (ys : List Yielded) (n : ℕ) → takes_yields k ≡ true →
    length ls ≡ n → yields_after k ls h xs ys ≡ filter (λ y. not (is_at n y)) ys
yields_taken ki.Block ls h xs ys n e g = ap (λ z. filter (λ y. not (is_at z y)) ys) g
yields_taken ki.Case ls h xs ys n e g = ap (λ z. filter (λ y. not (is_at z y)) ys) g
yields_taken ki.SwitchCase ls h xs ys n e g = ap (λ z. filter (λ y. not (is_at z y)) ys) g
yields_taken _ ls h xs ys n e g = cc

pub yields_left : (k : Kind) (ls : List Open) (h : Head) (xs : List TypedNode) (ys : List Yielded) → takes_yields k ≡ false →
    ¬ (k ≡ ki.Yield) →
    yields_after k ls h xs ys ≡ ys
yields_left ki.Yield ls h xs ys e n = absurd (n refl)
yields_left ki.Block ls h xs ys e n = cc
yields_left ki.Case ls h xs ys e n = cc
yields_left ki.SwitchCase ls h xs ys e n = cc
yields_left _ ls h xs ys e n = refl

-- ---- all that is seen

abbrev seen : List Entry → List Yielded → List Coercion → List Settled → Flow
seen ls ys cs ss = record { locals = ls; yields = ys; coercions = cs; late = ss }

-- the context of a node in hand
pub has_kids : (w : Store → Setting) (a : Above) (h : Head) (xs : List TypedNode) (f : Flow) (n : ℕ) (v : Levels) (l : Store) →
    Closes w a h xs f n v → HasKids (context (w l) a h (map bare xs) f) h xs
has_kids w a h xs f n v l q = record { head = refl; kids = sym q.hand }

pub later_setting : (w : Store → Setting) (a : Above) (h : Head) (xs : List TypedNode) (f : Flow) (n : ℕ) (v : Levels) (s l : Store) →
    Closes w a h xs f n v → IsLater s l → IsLater s (store_of (context (w l) a h (map bare xs) f))
later_setting w a h xs f n v s l q d = subst (IsLater s) (sym (q.store l)) d

pub closed : (w : Setting) (a : Above) (h : Head) (xs : List TypedNode) (f f1 f2 f3 : Flow) (n : ℕ) (x : Finding) → a.first ≡ n →
    IsFoundAt (context w a h (map bare xs) f) xs f.coercions x →
    f1 ≡ record f { locals = locals_after (context w a h (map bare xs) f) h.kind n f.locals } →
    f2 ≡ record f1 { yields = yields_after h.kind a.inside.labels h (map bare xs) f1.yields } →
    f3
    ≡ record f2 {
      coercions = write_each (written_each xs (map option_in x.kids)) (f2.coercions ++ x.own ∷ []);
      late = f2.late ++ map settled_in x.late;
    } →
    f3 ≡ flow_after w a h (map bare xs) f
closed w a h xs f f1 f2 f3 n x first i p1 p2 p3 =
    let c = context w a h (map bare xs) f in
    let ls = λ (k : ℕ). locals_after c h.kind k f.locals in
    let ys = yields_after h.kind a.inside.labels h (map bare xs) f.yields in
    let written = write_each (written_each xs (map option_in x.kids)) (f.coercions ++ x.own ∷ []) in
    let late = f.late ++ map settled_in x.late in
    let all : f3 ≡ seen (ls n) ys written late = p3 ∙ rw p2 (rw p1 refl) in
    let own : settled_type c (type_of c) ≡ x.own = ap (settled_type c) i.type ∙ i.own in
    let kids : write_each (settles_kids c) (f.coercions ++ settled_type c (type_of c) ∷ []) ≡ written =
    ap (λ r. write_each (settles_kids c) (f.coercions ++ r ∷ [])) own ∙ i.kids x.own in
    all
    ∙ ap (λ k. seen (ls k) ys written late) (sym first)
    ∙ ap (λ cs. seen (ls a.first) ys cs late) (sym kids)
    ∙ ap
    (λ ss.
    seen (ls a.first) ys (write_each (settles_kids c) (f.coercions ++ settled_type c (type_of c) ∷ [])) (f.late ++ ss)) (sym i.late)
