-- How many tokens kids have.
use Rattle.std.proofs.Common.{◌≡◌, ◌+◌, [], ◌∷◌, true, false, length, refl, ap, sym, ◌∙◌, arith, length-append}
use Rattle.std.proofs.lemmas.List.{append-nil}
use Rattle.hare_tree.specs.declared.form.Lead.{Lead}
use Rattle.hare_tree.specs.declared.form.Lead.TheVariants as le
use Rattle.hare_tree.specs.declared.form.Sign.TheVariants as si
use Rattle.hare_tree.specs.Node.{Node, Nodes, none, more, head}
use Rattle.hare_tree.specs.Spell.{spell, spells, spelled_kid, stands_alone, sign_token, with_lead, one_led, all_led, listed}
use Rattle.hare_ways.specs.Counts.{lead_count}

-- a kid that takes no sign
pub with-alone : (l : Lead) (t : Node) → stands_alone (head t).kind ≡ true → length (with_lead 0 l (spelled_kid 0 t)) ≡ length (spell 0 t)
with-alone le.Nothing t e = refl
with-alone (le.Before s) t e = rw e refl
with-alone (le.Behind s) t e = rw e refl

-- a kid with its sign
pub with-sign : (l : Lead) (t : Node) → stands_alone (head t).kind ≡ false
    → length (with_lead 0 l (spelled_kid 0 t)) ≡ length (spell 0 t) + lead_count l
with-sign le.Nothing t e = omega arith
with-sign (le.Before s) t e = rw e (omega arith)
with-sign (le.Behind s) t e = rw e (length-append (spell 0 t) (sign_token 0 s ∷ []))

-- the first kid
one-kid : (l : Lead) (t : Node) (ts : Nodes) → length (one_led 0 l (spells 0 (more t ts))) ≡ length (with_lead 0 l (spelled_kid 0 t))
unfolding spells
one-kid l t ts = ap length (append-nil (with_lead 0 l (spelled_kid 0 t)))

pub one-here : (l : Lead) (us : Nodes) (t : Node) (ts : Nodes) → us ≡ more t ts
    → length (one_led 0 l (spells 0 us)) ≡ length (with_lead 0 l (spelled_kid 0 t))
one-here l us t ts e = ap (λ vs. length (one_led 0 l (spells 0 vs))) e ∙ one-kid l t ts

one-past : (l : Lead) → 0 ≡ length (one_led 0 l (spells 0 none))
unfolding spells
one-past l = refl

pub one-none : (l : Lead) (us : Nodes) → us ≡ none → 0 ≡ length (one_led 0 l (spells 0 us))
one-none l us e = one-past l ∙ ap (λ vs. length (one_led 0 l (spells 0 vs))) (sym e)

-- all kids
row-kids : (l : Lead) (t : Node) (ts : Nodes)
    → length (all_led 0 l (spells 0 (more t ts))) ≡ length (one_led 0 l (spells 0 (more t ts))) + length (all_led 0 l (spells 0 ts))
unfolding spells
row-kids l t ts =
    length-append (with_lead 0 l (spelled_kid 0 t)) (all_led 0 l (spells 0 ts))
    ∙ ap (λ n. n + length (all_led 0 l (spells 0 ts))) (sym (one-kid l t ts))

pub row-here : (l : Lead) (us : Nodes) (t : Node) (ts : Nodes) → us ≡ more t ts
    → length (all_led 0 l (spells 0 us)) ≡ length (one_led 0 l (spells 0 us)) + length (all_led 0 l (spells 0 ts))
row-here l us t ts e =
    ap (λ vs. length (all_led 0 l (spells 0 vs))) e ∙ row-kids l t ts
    ∙ ap (λ vs. length (one_led 0 l (spells 0 vs)) + length (all_led 0 l (spells 0 ts))) (sym e)

row-past : (l : Lead) → 0 ≡ length (all_led 0 l (spells 0 none))
unfolding spells
row-past l = refl

pub row-none : (l : Lead) (us : Nodes) → us ≡ none → 0 ≡ length (all_led 0 l (spells 0 us))
row-none l us e = row-past l ∙ ap (λ vs. length (all_led 0 l (spells 0 vs))) (sym e)

-- a list
listed-kids : (t : Node) (ts : Nodes)
    → length (listed 0 (spells 0 (more t ts)))
    ≡ length (one_led 0 le.Nothing (spells 0 (more t ts))) + length (all_led 0 (le.Before si.Comma) (spells 0 ts))
unfolding spells
listed-kids t ts = length-append (one_led 0 le.Nothing (spells 0 (more t ts))) (all_led 0 (le.Before si.Comma) (spells 0 ts))

pub listed-here : (us : Nodes) (t : Node) (ts : Nodes) → us ≡ more t ts
    → length (listed 0 (spells 0 us)) ≡ length (one_led 0 le.Nothing (spells 0 us)) + length (all_led 0 (le.Before si.Comma) (spells 0 ts))
listed-here us t ts e =
    ap (λ vs. length (listed 0 (spells 0 vs))) e ∙ listed-kids t ts
    ∙ ap (λ vs. length (one_led 0 le.Nothing (spells 0 vs)) + length (all_led 0 (le.Before si.Comma) (spells 0 ts))) (sym e)

listed-past : 0 ≡ length (listed 0 (spells 0 none))
unfolding spells
listed-past = refl

pub listed-none : (us : Nodes) → us ≡ none → 0 ≡ length (listed 0 (spells 0 us))
listed-none us e = listed-past ∙ ap (λ vs. length (listed 0 (spells 0 vs))) (sym e)
