-- Lists of tokens in which nothing is joined, as those that a run uses.
use Rattle.std.proofs.Common.{◌≡◌, ◌==◌, List, [], ◌∷◌, Bool, true, false, ◌&&◌, not, map, refl, ap, sym, ◌∙◌}
use Rattle.hare_tree.specs.declared.token.TokenKind.{TokenKind}
use Rattle.hare_tree.specs.declared.token.TokenKind.TheVariants as tk
use Rattle.hare_tree.specs.declared.token.Token.{Token}
use Rattle.hare_tree.specs.Shape.{has_no_suffix}
use Rattle.hare_tree.specs.Grammar.{is_string, is_proper_string, joined_to, joined, unplaced}
use Rattle.hare_automaton.specs.declared.class.Class.TheVariants as cl
use Rattle.hare_automaton.specs.Classes.{class_of}
use Rattle.hare_automaton.proofs.Spelled.Paths.{split}
use Rattle.hare_prefixes.proofs.Soundness.TokenKinds.{is_junk}
use Rattle.hare_prefixes.proofs.Outcomes.Breaks.{both}
use Rattle.hare_prefixes.proofs.Joining.Apart.{is_text}
use Rattle.hare_prefixes.proofs.Joining.UsedApart.{usable, apart}

-- ---- lists in which nothing is joined

-- no strings stand side by side, where `b` says that one stands before the list
abbrev pub loose : Bool → List Token → Bool
loose b [] = true
loose b (t ∷ u) = not (is_proper_string t && b) && loose (is_proper_string t) u

pub loose_unplaced : (b : Bool) (u : List Token) → loose b (map unplaced u) ≡ loose b u
loose_unplaced b [] = refl
loose_unplaced b (t ∷ u) = ap (λ c. not (is_proper_string t && b) && c) (loose_unplaced (is_proper_string t) u)

pub loose_joined : (b : Bool) (u : List Token) → loose b u ≡ true → joined u ≡ u
loose_joined b [] e = refl
loose_joined b (t ∷ []) e = refl
loose_joined b (t ∷ y ∷ u) e =
    let p = split (not (is_proper_string t && b)) (loose (is_proper_string t) (y ∷ u)) e in
    let q = split (not (is_proper_string y && is_proper_string t)) (loose (is_proper_string y) u) p.1 in
    ap (joined_to t) (loose_joined (is_proper_string t) (y ∷ u) p.1) ∙ by (is_proper_string t) refl (is_proper_string y) refl q.0
  where
    by : (p : Bool) → is_proper_string t ≡ p → (q : Bool) → is_proper_string y ≡ q → not (q && p) ≡ true → joined_to t (y ∷ u) ≡ t ∷ y ∷ u
    by true a true b c = cc
    by true a false b c = rw (a, b) refl
    by false a q b c = rw a refl

-- ---- classes

-- what is known of a string with nothing beside its text
record Parts (t : Token) : Type 0 where
  kind : t.kind ≡ tk.Str
  suffix : has_no_suffix t.suffix ≡ true
  number : (t.number == 0) ≡ true

proper_parts : (t : Token) → is_proper_string t ≡ true → Parts t
proper_parts t e =
    let p = split (is_string t.kind && has_no_suffix t.suffix) (t.number == 0) e in
    let q = split (is_string t.kind) (has_no_suffix t.suffix) p.0 in
    record { kind = by t.kind q.0; suffix = q.1; number = p.1 }
  where
    by : (k : TokenKind) → is_string k ≡ true → k ≡ tk.Str
    by tk.Str i = refl
    by _ i = cc

pub proper_class : (t : Token) → is_proper_string t ≡ true → class_of t ≡ cl.Text
proper_class t e = let p = proper_parts t e in rw (p.kind, p.suffix, p.number) refl

-- the tokens that a run uses
pub apart_loose : (b d : Bool) (u : List Token) → (d ≡ true → b ≡ true) → apart b u ≡ true → loose d u ≡ true
apart_loose b d [] i e = refl
apart_loose b d (t ∷ u) i e =
    let p = split (usable b (class_of t)) (apart (is_text (class_of t)) u) e in
    let q = split (not (is_junk (class_of t))) (not (b && is_text (class_of t))) p.0 in
    let r = apart_loose (is_text (class_of t)) (is_proper_string t) u (λ a. ap is_text (proper_class t a)) p.1 in
    both (not (is_proper_string t && d)) (loose (is_proper_string t) u) (none (is_proper_string t) d (λ a x. fit x a q.1)) r
  where
    none : (x y : Bool) → (x ≡ true → y ≡ true → not true ≡ true) → not (x && y) ≡ true
    none true true f = f refl refl
    none true false f = refl
    none false y f = refl

    fit : d ≡ true → is_proper_string t ≡ true → not (b && is_text (class_of t)) ≡ true → not true ≡ true
    fit x a n =
        let z : (b && is_text (class_of t)) ≡ true =
        both b (is_text (class_of t)) (i x) (ap is_text (proper_class t a)) in ap not (sym z) ∙ n
