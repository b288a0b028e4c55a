-- Where trees end, told piece by piece.
use Rattle.std.proofs.Common.{◌≡◌, ℕ, ◌+◌, List, [], ◌∷◌, Bool, true, false, Option, Some, None, refl, ap, sym, ◌∙◌, if◌then◌else◌}
use Rattle.std.specs.Prelude.{◌&&◌, ◌||◌, not}
use Rattle.hare_tree.specs.declared.form.Sign.TheVariants as si
use Rattle.hare_tree.specs.declared.form.Piece.{Piece}
use Rattle.hare_tree.specs.declared.form.Piece.TheVariants as pi
use Rattle.hare_tree.specs.Node.{Head, Node, Nodes, branch, none, more, head, kids_of}
use Rattle.hare_tree.specs.Forms.{form_of}
use Rattle.hare_tree.specs.Signs.{is_sign}
use Rattle.hare_tree.specs.Shape.{stops, stops_each, form_stops, Ending, is_none, is_empty}
use Rattle.hare_tree.specs.Judged.{nodes_from}
use Rattle.hare_ways.specs.declared.edge.End.{End}
use Rattle.hare_ways.specs.declared.edge.End.TheVariants.{Here, Kid}
use Rattle.hare_ways.specs.declared.edge.Seen.{Seen}
use Rattle.hare_ways.specs.Parts.{first_kind}
use Rattle.hare_ways.specs.Edges.{first_ends, end_told, behind_kid, end_or, end_led, end_behind}
use Rattle.hare_ways.proofs.KidLemmas.{nodes_from-next}

-- what is told behind a piece is what is told in front of it
abbrev pub IsTold : Head → Nodes → Piece → Seen → Option Seen → Type 0
IsTold h ts p seen None =
    (ps : List Piece) → form_stops si.Comma h (end_told seen.end ts) (p ∷ ps) (stops_each si.Comma (nodes_from seen.kid ts)) ≡ true
IsTold h ts p seen (Some next) =
    (ps : List Piece) → form_stops si.Comma h (end_told next.end ts) ps (stops_each si.Comma (nodes_from next.kid ts))
    ≡ form_stops si.Comma h (end_told seen.end ts) (p ∷ ps) (stops_each si.Comma (nodes_from seen.kid ts))

-- the kid as its parent has it
abbrev ending : Node → Ending
ending t = ((head t).kind, stops si.Comma t)

-- A piece with one kid: without the kid it ends, and with it the end that is told is that of the form.
pub record HasEnd (h : Head) (ts : Nodes) (p : Piece) (v : Bool) (us : Nodes) (end : End) : Type 0 where
  pub missing : (ps : List Piece) → form_stops si.Comma h v (p ∷ ps) [] ≡ true
  pub told : (t : Node) (ts' : Nodes) → us ≡ more t ts' → (ps : List Piece) (es : List Ending)
      → form_stops si.Comma h v (p ∷ ps) (ending t ∷ es) ≡ form_stops si.Comma h (end_told end ts) ps es

kid-told : (h : Head) (ts : Nodes) (p : Piece) (seen : Seen) (end : End) (us : Nodes) → nodes_from seen.kid ts ≡ us
    → HasEnd h ts p (end_told seen.end ts) us end → IsTold h ts p seen (behind_kid us seen.kid end)
unfolding stops
kid-told h ts p seen end none e has = λ ps.
    ap (λ us. form_stops si.Comma h (end_told seen.end ts) (p ∷ ps) (stops_each si.Comma us)) e ∙ has.missing ps
kid-told h ts p seen end (more t us) e has = λ ps.
    let next : nodes_from (seen.kid + 1) ts ≡ us = nodes_from-next seen.kid ts ∙ ap (nodes_from 1) e in
    ap (λ vs. form_stops si.Comma h (end_told end ts) ps (stops_each si.Comma vs)) next
    ∙ sym (has.told t us refl ps (stops_each si.Comma us))
    ∙ ap (λ vs. form_stops si.Comma h (end_told seen.end ts) (p ∷ ps) (stops_each si.Comma vs)) (sym e)

-- ---- ends by cases

told-if : (c : Bool) (x y : End) (ts : Nodes) → end_told (if c then x else y) ts ≡ (if c then end_told x ts else end_told y ts)
told-if true x y ts = refl
told-if false x y ts = refl

and-false : (v : Bool) → v && false ≡ false
and-false true = refl
and-false false = refl

and-true : (v : Bool) → v && true ≡ v
and-true true = refl
and-true false = refl

or-false : (v : Bool) → v || false ≡ v
or-false true = refl
or-false false = refl

led-if : (c : Bool) (x : End) (ts : Nodes) → end_told (if c then Here false else x) ts ≡ end_told x ts && not c
led-if true x ts = sym (and-false (end_told x ts))
led-if false x ts = sym (and-true (end_told x ts))

-- the kid with this number is the first from there on
kid-ends : (ts us : Nodes) (i : ℕ) (t : Node) (ts' : Nodes) → nodes_from i ts ≡ us → us ≡ more t ts'
    → end_told (Kid i) ts ≡ stops si.Comma t
kid-ends ts us i t ts' e f = ap first_ends (e ∙ f)

-- a kid that may be absent
or-told : (ts us : Nodes) (absent there : End) (t : Node) (ts' : Nodes) (v w : Bool) → us ≡ more t ts' → end_told absent ts ≡ v
    → end_told there ts ≡ w → (if is_none (head t).kind then v else w) ≡ end_told (end_or (first_kind us) absent there) ts
or-told ts us absent there t ts' v w e a b =
    let k = ap (λ vs. is_none (first_kind vs)) e in
    sym (rw (k, told-if (is_none (head t).kind) absent there ts, a, b) refl)

-- ---- pieces

optional-has : (h : Head) (ts : Nodes) (p : Piece) (v : Bool) (us : Nodes) (absent there : End) (x : Bool) (y : Node → Bool)
    → ((ps : List Piece) → form_stops si.Comma h v (p ∷ ps) [] ≡ true)
    → ((t : Node) (ps : List Piece) (es : List Ending)
    → form_stops si.Comma h v (p ∷ ps) (ending t ∷ es) ≡ form_stops si.Comma h (if is_none (head t).kind then x else y t) ps es)
    → end_told absent ts ≡ x → ((t : Node) (ts' : Nodes) → us ≡ more t ts' → end_told there ts ≡ y t)
    → HasEnd h ts p v us (end_or (first_kind us) absent there)
optional-has h ts p v us absent there x y missing told a b = record {
  missing = missing;
  told = λ t ts' e ps es.
      told t ps es ∙ ap (λ z. form_stops si.Comma h z ps es) (or-told ts us absent there t ts' x (y t) e a (b t ts' e));
}

pub is-told : (h : Head) (ts : Nodes) (p : Piece) (seen : Seen) → IsTold h ts p seen (end_behind h p (nodes_from seen.kid ts) seen)
is-told h ts (pi.Fixed s) seen = λ ps. refl
is-told h ts (pi.Own o) seen = λ ps. refl
is-told h ts (pi.Kid s) seen =
    kid-told h ts (pi.Kid s) seen (Kid seen.kid) (nodes_from seen.kid ts) refl record {
      missing = λ ps. refl;
      told = λ t ts' e ps es. ap (λ z. form_stops si.Comma h z ps es) (sym (kid-ends ts (nodes_from seen.kid ts) seen.kid t ts' refl e));
    }
is-told h ts (pi.Optional s) seen =
    kid-told h ts (pi.Optional s) seen _ (nodes_from seen.kid ts) refl
    (optional-has h ts (pi.Optional s) (end_told seen.end ts) (nodes_from seen.kid ts) seen.end (Kid seen.kid) (end_told seen.end ts)
    (stops si.Comma) (λ ps. refl) (λ t ps es. refl) refl (λ t ts' e. kid-ends ts (nodes_from seen.kid ts) seen.kid t ts' refl e))
is-told h ts (pi.Led c s) seen =
    kid-told h ts (pi.Led c s) seen _ (nodes_from seen.kid ts) refl
    (optional-has h ts (pi.Led c s) (end_told seen.end ts) (nodes_from seen.kid ts) (end_led seen.end c) (Kid seen.kid)
    (end_told seen.end ts && not (is_sign c si.Comma)) (stops si.Comma) (λ ps. refl) (λ t ps es. refl)
    (led-if (is_sign c si.Comma) seen.end ts) (λ t ts' e. kid-ends ts (nodes_from seen.kid ts) seen.kid t ts' refl e))
is-told h ts (pi.Followed s c) seen =
    kid-told h ts (pi.Followed s c) seen _ (nodes_from seen.kid ts) refl
    (optional-has h ts (pi.Followed s c) (end_told seen.end ts) (nodes_from seen.kid ts) seen.end (Here true) (end_told seen.end ts)
    (λ t. true) (λ ps. refl) (λ t ps es. refl) refl (λ t ts' e. refl))
is-told h ts (pi.Value s) seen =
    kid-told h ts (pi.Value s) seen _ (nodes_from seen.kid ts) refl
    (optional-has h ts (pi.Value s) (end_told seen.end ts) (nodes_from seen.kid ts) (Here (is_empty h.text)) (Kid seen.kid)
    (is_empty h.text || false) (stops si.Comma) (λ ps. refl) (λ t ps es. refl) (sym (or-false (is_empty h.text)))
    (λ t ts' e. kid-ends ts (nodes_from seen.kid ts) seen.kid t ts' refl e))
is-told h ts (pi.Each s) seen = λ ps. refl
is-told h ts (pi.EachLed c s) seen = λ ps. refl
is-told h ts (pi.EachFollowed s c) seen = λ ps. refl
is-told h ts (pi.More s) seen = λ ps. refl
is-told h ts (pi.List s) seen = λ ps. refl
is-told h ts (pi.Elements s) seen = λ ps. refl
is-told h ts (pi.MoreElements s) seen = λ ps. refl

-- ---- trees

-- what a tree's form says
pub stops-form : (t : Node) → stops si.Comma t ≡ form_stops si.Comma (head t) true (form_of (head t).kind) (stops_each si.Comma (kids_of t))
unfolding stops
stops-form (branch h ts) = refl
