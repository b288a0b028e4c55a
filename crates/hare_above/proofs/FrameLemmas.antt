-- The stack of labels, and the frames of the trees round the one at hand.
use Rattle.std.proofs.Common.{◌≡◌, ℕ, zero, suc, ◌+◌, ◌<◌, ◌≤◌, get_or, List, [], ◌∷◌, ◌++◌, map, take, length, Option, Some, None, refl, ap, ap₂, sym, ◌∙◌, subst, arith, add-one}
use Rattle.std.specs.Prelude.{reverse}
use Rattle.std.proofs.lemmas.List.{map-append, reverse-append, length-append, length-take-le, take-append-le}
use Rattle.hare_rules.specs.declared.hint.Hint.{Hint}
use Rattle.hare_rules.specs.declared.inside.Label.{Label}
use Rattle.hare_rules.specs.declared.judged.Case.{Case}
use Rattle.hare_rules.specs.Above.{outside}
use Rattle.hare_told.specs.Told.{told_label}
use Rattle.hare_above.specs.declared.frames.Frame.{Frame}
use Rattle.hare_above.specs.Frames.{open_of, opens, unmarked, labels_by, labels_at, hints_at, above_at, outer_at, AreKept, AreFramed}

-- ---- labels with their hints

pub opens-append : (ls : List Label) (hs : List Hint) (l : Label) (h : Hint) → length hs ≡ length ls →
    opens (ls ++ l ∷ []) (hs ++ h ∷ []) ≡ opens ls hs ++ open_of l h ∷ []
opens-append [] [] l h e = refl
opens-append [] (x ∷ hs) l h e = absurd (omega (arith, e))
opens-append (u ∷ us) [] l h e = absurd (omega (arith, e))
opens-append (u ∷ us) (x ∷ hs) l h e = ap (λ os. open_of u x ∷ os) (opens-append us hs l h (omega (arith, e)))

pub opens-outside : (ls : List Label) (hs : List Hint) → opens (map unmarked ls) hs ≡ map outside (opens ls hs)
opens-outside [] [] = refl
opens-outside [] (h ∷ hs) = refl
opens-outside (l ∷ ls) [] = refl
opens-outside (l ∷ ls) (h ∷ hs) = ap (λ os. open_of (unmarked l) h ∷ os) (opens-outside ls hs)

pub length-opens : (ls : List Label) (hs : List Hint) → length hs ≡ length ls → length ls ≡ length (opens ls hs)
length-opens [] hs e = refl
length-opens (l ∷ ls) [] e = absurd (omega (arith, e))
length-opens (l ∷ ls) (h ∷ hs) e = ap suc (length-opens ls hs (omega (arith, e)))

pub told-opens : (ls : List Label) (hs : List Hint) → length hs ≡ length ls → ls ≡ map told_label (opens ls hs)
told-opens [] hs e = refl
told-opens (l ∷ ls) [] e = absurd (omega (arith, e))
told-opens (l ∷ ls) (h ∷ hs) e = ap (λ us. l ∷ us) (told-opens ls hs (omega (arith, e)))

-- ---- frames

reverse-last : (fs : List Frame) (f : Frame) → reverse (fs ++ f ∷ []) ≡ f ∷ reverse fs
reverse-last fs f = reverse-append fs (f ∷ [])

-- a frame more, from where labels and hints are the same on the way back
pub outer-push : (own result : ℕ) (fs gs : List Frame) (f : Frame) (ls us : List Label) (hs : List Hint) → gs ≡ fs ++ f ∷ [] →
    labels_at f us ≡ ls → hints_at f hs ≡ hs →
    outer_at own result (reverse gs) us hs ≡ above_at own result f us hs ∷ outer_at own result (reverse fs) ls hs
outer-push own result fs gs f ls us hs k e g =
    ap (λ x. outer_at own result x us hs) (ap reverse k ∙ reverse-last fs f)
    ∙ ap₂ (λ (x : List Label) (y : List Hint). above_at own result f us hs ∷ outer_at own result (reverse fs) x y) e g

-- the labels of the innermost frame are not those behind
labels-append : (o : Option (List Label)) (n : ℕ) (ls : List Label) (l : Label) → n ≤ length ls →
    labels_by o n (ls ++ l ∷ []) ≡ labels_by o n ls
labels-append None n ls l h = take-append-le n ls (l ∷ []) h
labels-append (Some us) n ls l h = refl

pub outer-append : (own result : ℕ) (fs : List Frame) (ls : List Label) (hs : List Hint) (l : Label) (h : Hint) →
    length hs ≡ length ls → AreKept (length ls) fs →
    outer_at own result fs (ls ++ l ∷ []) (hs ++ h ∷ []) ≡ outer_at own result fs ls hs
outer-append own result [] ls hs l h e k = refl
outer-append own result (f ∷ fs) ls hs l h e k =
    let p : labels_at f (ls ++ l ∷ []) ≡ labels_at f ls = labels-append f.kept f.labels ls l k.0.fewer in
    let q : hints_at f (hs ++ h ∷ []) ≡ hints_at f hs = take-append-le f.labels hs (h ∷ []) (omega (arith, e, k.0.fewer)) in
    rw (p, q) refl

kept-more : (m k : ℕ) (fs : List Frame) → m ≤ k → AreKept m fs → AreKept k fs
kept-more m k [] h a = tt
kept-more m k (f ∷ fs) h a = (record { fewer = omega (arith, a.0.fewer); kept = a.0.kept }, a.1)

-- one label more
pub framed-append : (ls : List Label) (hs : List Hint) (fs : List Frame) (l : Label) (h : Hint) → AreFramed ls hs fs →
    AreFramed (ls ++ l ∷ []) (hs ++ h ∷ []) fs
framed-append ls hs fs l h a =
    let p = length-append ls (l ∷ []) in
    let q = length-append hs (h ∷ []) in
    record {
      hints = omega (arith, p, q, a.hints);
      kept =
          kept-more (length ls) (length (ls ++ l ∷ [])) (reverse fs) (omega (arith, p)) a.kept;
    }

-- one frame more, with all labels
pub framed-push : (ls us : List Label) (hs : List Hint) (fs gs : List Frame) (f : Frame) → gs ≡ fs ++ f ∷ [] → f.labels ≡ length ls →
    length us ≡ length ls → ((vs : List Label) → f.kept ≡ Some vs → length vs ≡ f.labels) → AreFramed ls hs fs → AreFramed us hs gs
framed-push ls us hs fs gs f e k m h a =
    let rest : AreKept f.labels (reverse fs) = subst (λ (x : ℕ). AreKept x (reverse fs)) (sym k) a.kept in
    let all : AreKept (length us) (f ∷ reverse fs) = (record { fewer = omega (arith, k, m); kept = h }, rest) in
    record { hints = a.hints ∙ sym m; kept = subst (AreKept (length us)) (sym (ap reverse e ∙ reverse-last fs f)) all }

-- ---- the way back

-- what the innermost frame says, as it is taken away
pub record IsBack (own result : ℕ) (ls us : List Label) (hs : List Hint) (fs gs : List Frame) (f : Frame) : Type 0 where
  pub framed : AreFramed us (hints_at f hs) fs
  pub outer : outer_at own result (reverse gs) ls hs ≡ above_at own result f ls hs ∷ outer_at own result (reverse fs) us (hints_at f hs)

kept-length : (o : Option (List Label)) (n : ℕ) (ls : List Label) → n ≤ length ls → ((us : List Label) → o ≡ Some us → length us ≡ n) →
    length (labels_by o n ls) ≡ n
kept-length None n ls h k = length-take-le n ls h
kept-length (Some us) n ls h k = k us refl

pub is_back : (own result : ℕ) (ls us : List Label) (hs : List Hint) (fs gs : List Frame) (f : Frame) → gs ≡ fs ++ f ∷ [] →
    us ≡ labels_at f ls →
    AreFramed ls hs gs → IsBack own result ls us hs fs gs f
is_back own result ls us hs fs gs f e m a =
    let k : AreKept (length ls) (f ∷ reverse fs) = subst (AreKept (length ls)) (ap reverse e ∙ reverse-last fs f) a.kept in
    let l : length us ≡ f.labels = ap length m ∙ kept-length f.kept f.labels ls k.0.fewer k.0.kept in
    record {
      framed =
          record {
            hints = length-take-le f.labels hs (omega (arith, k.0.fewer, a.hints)) ∙ sym l;
            kept = subst (λ (x : ℕ). AreKept x (reverse fs)) (sym l) k.1;
          };
      outer =
          ap (λ x. outer_at own result x ls hs) (ap reverse e ∙ reverse-last fs f)
          ∙ ap (λ x. above_at own result f ls hs ∷ outer_at own result (reverse fs) x (hints_at f hs)) (sym m);
    }

-- ---- copies

taken-next : (ls : List Label) (i : ℕ) (l : Label) → i < length ls → l ≡ get_or ls i l → take (suc i) ls ≡ take i ls ++ l ∷ []
taken-next [] i l h e = absurd (omega arith)
taken-next (u ∷ us) zero l h e = ap (λ x. x ∷ []) (sym e)
taken-next (u ∷ us) (suc i) l h e = ap (λ x. u ∷ x) (taken-next us i l (omega arith) e)

pub copied-next : (ls us vs : List Label) (i : ℕ) (l u : Label) → i < length ls → l ≡ get_or ls i l → u ≡ unmarked l → vs ≡ us ++ u ∷ [] →
    us ≡ map unmarked (take i ls) → vs ≡ map unmarked (take (i + 1) ls)
copied-next ls us vs i l u h e g k m =
    rw add-one
    (k ∙ ap₂ (λ x y. x ++ y ∷ []) m g ∙ sym (map-append unmarked (take i ls) (l ∷ [])) ∙ ap (map unmarked) (sym (taken-next ls i l h e)))

-- ---- what is told

pub told-is : (q : Case) (hs : List Hint) → length hs ≡ length q.inside.labels →
    q ≡ record {
      hint = q.hint;
      meaning = q.meaning;
      yields = q.yields;
      inside =
          record {
            own = q.inside.own;
            result = q.inside.result;
            labels = map told_label (opens q.inside.labels hs);
            deferred = q.inside.deferred;
            body = q.inside.body;
          };
    }
told-is q hs e =
    ap (λ (ls : List Label). record {
      hint = q.hint;
      meaning = q.meaning;
      yields = q.yields;
      inside = record {
        own = q.inside.own;
        result = q.inside.result;
        labels = ls;
        deferred = q.inside.deferred;
        body = q.inside.body;
      };
    }) (told-opens q.inside.labels hs e)
