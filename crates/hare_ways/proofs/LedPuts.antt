-- Ways of a kid, with those of the sign that stands with it, that are put behind others.
use Rattle.std.proofs.Common.{◌≡◌, ℕ, suc, ◌+◌, ◌<◌, List, [], ◌∷◌, ◌++◌, false, length, ap, sym, ◌∙◌, arith, length-append, append_assoc}
use Rattle.hare_tree.specs.declared.kind.Kind.{Kind}
use Rattle.hare_tree.specs.declared.form.Sign.{Sign}
use Rattle.hare_tree.specs.declared.form.Lead.TheVariants as le
use Rattle.hare_tree.specs.Node.{Node, head}
use Rattle.hare_tree.specs.Spell.{stands_alone}
use Rattle.hare_ways.specs.declared.way.Start.{Start}
use Rattle.hare_ways.specs.declared.way.Way.{Way}
use Rattle.hare_ways.specs.Ways.{ways, starting, sign_way}
use Rattle.hare_ways.specs.Walk.{deepened, at_depth, kid_ways}
use Rattle.hare_ways.proofs.Counted.{length-starting}
use Rattle.hare_ways.proofs.Depths.{at_depth-append, at_depth-starting}
use Rattle.hare_ways.proofs.Puts.{kid-nothing, before-sign, behind-sign}

-- ---- no sign

pub nothing-room : (cs : List ℕ) (k : Kind) (s : Start) (m : ℕ) (out : List Way) (t : Node)
    → length out + length (kid_ways cs k s le.Nothing (length out) t) < m → length out + length (ways cs (length out) t) < m
nothing-room cs k s m out t h =
    omega (arith, h, ap length (kid-nothing cs k s (length out) t), length-starting s (ways cs (length out) t))

pub nothing-put : (cs : List ℕ) (k : Kind) (s : Start) (d : ℕ) (out next : List Way) (t : Node)
    → next ≡ out ++ at_depth d (starting s (ways cs (length out) t)) → next ≡ out ++ at_depth d (kid_ways cs k s le.Nothing (length out) t)
nothing-put cs k s d out next t e = e ∙ ap (λ ws. out ++ at_depth d ws) (sym (kid-nothing cs k s (length out) t))

-- ---- a sign in front

pub length-one : (out one : List Way) (w : Way) → one ≡ out ++ w ∷ [] → length one ≡ length out + 1
length-one out one w e = omega (arith, ap length e, length-append out (w ∷ []))

pub before-room : (cs : List ℕ) (k : Kind) (s : Start) (c : Sign) (m : ℕ) (out one : List Way) (w : Way) (t : Node)
    → stands_alone (head t).kind ≡ false → one ≡ out ++ w ∷ [] → length out + length (kid_ways cs k s (le.Before c) (length out) t) < m
    → length one + length (ways cs (length one) t) < m
before-room cs k s c m out one w t a e h =
    let many = length-one out one w e in
    let long : length (kid_ways cs k s (le.Before c) (length out) t) ≡ suc (length (starting s (ways cs (length out + 1) t))) =
    ap length (before-sign cs k s c (length out) t a) in
    let same : length (ways cs (length one) t) ≡ length (ways cs (length out + 1) t) = ap (λ n. length (ways cs n t)) many in
    omega (arith, h, many, long, same, length-starting s (ways cs (length out + 1) t))

pub before-put : (cs : List ℕ) (k : Kind) (s : Start) (c : Sign) (d : ℕ) (out one two : List Way) (w : Way) (t : Node)
    → stands_alone (head t).kind ≡ false → one ≡ out ++ w ∷ [] → w ≡ deepened d (sign_way k c)
    → two ≡ one ++ at_depth d (starting s (ways cs (length one) t)) → two ≡ out ++ at_depth d (kid_ways cs k s (le.Before c) (length out) t)
before-put cs k s c d out one two w t a e f g =
    let many = length-one out one w e in
    let rest = at_depth d (starting s (ways cs (length out + 1) t)) in
    g ∙ ap (λ n. one ++ at_depth d (starting s (ways cs n t))) many
    ∙ ap (λ ws. ws ++ rest) (e ∙ ap (λ v. out ++ v ∷ []) f)
    ∙ append_assoc out (deepened d (sign_way k c) ∷ []) rest
    ∙ ap (λ ws. out ++ at_depth d ws) (sym (before-sign cs k s c (length out) t a))

-- ---- a sign behind

pub behind-room : (cs : List ℕ) (k : Kind) (s : Start) (c : Sign) (m : ℕ) (out : List Way) (t : Node)
    → stands_alone (head t).kind ≡ false → length out + length (kid_ways cs k s (le.Behind c) (length out) t) < m
    → length out + length (ways cs (length out) t) < m
behind-room cs k s c m out t a h =
    omega (
      arith,
      h,
      ap length (behind-sign cs k s c (length out) t a),
      length-append (starting s (ways cs (length out) t)) (sign_way k c ∷ []),
      length-starting s (ways cs (length out) t),
    )

pub behind-put : (cs : List ℕ) (k : Kind) (s : Start) (c : Sign) (d : ℕ) (out one two : List Way) (w : Way) (t : Node)
    → stands_alone (head t).kind ≡ false → one ≡ out ++ at_depth d (starting s (ways cs (length out) t)) → w ≡ deepened d (sign_way k c)
    → two ≡ one ++ w ∷ [] → two ≡ out ++ at_depth d (kid_ways cs k s (le.Behind c) (length out) t)
behind-put cs k s c d out one two w t a e f g =
    let here = starting s (ways cs (length out) t) in
    g ∙ ap (λ v. one ++ v ∷ []) f
    ∙ ap (λ ws. ws ++ deepened d (sign_way k c) ∷ []) e
    ∙ append_assoc out (at_depth d here) (deepened d (sign_way k c) ∷ [])
    ∙ ap (λ ws. out ++ ws) (sym (at_depth-append d here (sign_way k c ∷ [])))
    ∙ ap (λ ws. out ++ at_depth d ws) (sym (behind-sign cs k s c (length out) t a))

-- ---- a kid that begins a line

pub started-put : (cs : List ℕ) (s : Start) (d : ℕ) (out next : List Way) (t : Node)
    → next ≡ out ++ starting s (at_depth d (ways cs (length out) t)) → next ≡ out ++ at_depth d (starting s (ways cs (length out) t))
started-put cs s d out next t e = e ∙ ap (λ ws. out ++ ws) (sym (at_depth-starting d s (ways cs (length out) t)))
