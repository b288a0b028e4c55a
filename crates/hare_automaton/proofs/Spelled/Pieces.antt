-- The pieces of a form are read, whatever the form.
use Rattle.std.proofs.Common.{◌≡◌, ℕ, ◌≤◌, List, [], ◌∷◌, ◌++◌, true, false, refl, sym, ◌∙◌, subst, arith, append_assoc}
use Rattle.std.proofs.lemmas.List.{append-nil}
use Rattle.hare_tree.specs.declared.token.Token.{Token}
use Rattle.hare_tree.specs.declared.form.Sign.TheVariants as si
use Rattle.hare_tree.specs.declared.form.Sort.{Sort}
use Rattle.hare_tree.specs.declared.form.Sort.TheVariants as so
use Rattle.hare_tree.specs.declared.form.Lead.TheVariants as le
use Rattle.hare_tree.specs.declared.form.Piece.{Piece}
use Rattle.hare_tree.specs.declared.form.Piece.TheVariants as pi
use Rattle.hare_tree.specs.Node.{Head, Nodes, none, more, size_of, sizes_of}
use Rattle.hare_tree.specs.Levels.{sort_in}
use Rattle.hare_tree.specs.Spell.{start_of, sign_token, all_led, pieces_tokens, spell, spells}
use Rattle.hare_tree.specs.Shape.{is_shaped, are_kids, kid_pieces}
use Rattle.hare_automaton.specs.declared.class.Class.{Class}
use Rattle.hare_automaton.specs.declared.class.Class.TheVariants as cl
use Rattle.hare_automaton.specs.declared.rule.Symbol.{Symbol}
use Rattle.hare_automaton.specs.declared.rule.Symbol.TheVariants as sy
use Rattle.hare_automaton.specs.Rows.{has_sign, symbols}
use Rattle.hare_automaton.specs.Engine.{Group, begun, with_kids, run}
use Rattle.hare_automaton.specs.OneTree.{plain, is_sort_of_types as typed}
use Rattle.hare_automaton.proofs.Machine.Steps.{front, run_want}
use Rattle.hare_automaton.proofs.Machine.Tokens.{class_sign}
use Rattle.hare_automaton.proofs.Spelled.Paths.{split}
use Rattle.hare_automaton.proofs.Spelled.Lists.{ReadsTo, filled, fill_more, fill_none, run_group, Closes, read_more, read_each_led}

-- what follows a kid is no `::`
abbrev pub Leads : List Piece → Class → Type 0
Leads [] e = has_sign si.PathMark e ≡ false
Leads (pi.Fixed d ∷ ps) e = has_sign si.PathMark (cl.Sign d) ≡ false
Leads (pi.More s ∷ ps) e = Unit {0}
Leads (pi.EachLed a s ∷ ps) e = Unit {0}
Leads _ e = ⊥

-- what these pieces are read as ends where its form goes on
abbrev pub Clear : List Piece → Class → Type 0
Clear [] e = Unit {0}
Clear (pi.Fixed d ∷ ps) e = Clear ps e
Clear (pi.Kid s ∷ ps) e = (typed s ≡ true) × Leads ps e × Clear ps e
Clear (pi.More s ∷ pi.Fixed d ∷ []) e = Closes s d
Clear (pi.EachLed si.Bar s ∷ pi.Fixed d ∷ []) e = Closes s d
Clear _ e = ⊥

sort_kept : (m : ℕ) (s : Sort) → typed s ≡ true → sort_in m s ≡ s
sort_kept m so.Left e = cc
sort_kept m so.Right e = cc
sort_kept m _ e = refl

pub next_of : (f n : ℕ) → ReadsTo f n → (h : Head) (m : ℕ) (ps : List Piece) (ts : Nodes) → sizes_of ts ≤ n →
    are_kids m (kid_pieces ps) ts ≡ true → (w : List Token) → Leads ps (front w) → Clear ps (front w) →
    has_sign si.PathMark (front (pieces_tokens f h ps (spells f ts) ++ w)) ≡ false
next_of f n ih h m [] ts z k w l c = l
next_of f n ih h m (pi.Fixed d ∷ ps) ts z k w l c = rw (class_sign f d) l
next_of f n ih h m (pi.More s ∷ pi.Fixed d ∷ []) ts z k w l c =
    let r = read_more f n ih s d m c ts z k (sign_token f d ∷ w) [] (begun (start_of f) []) [] (class_sign f d) in
    rw (append_assoc (all_led f (le.Before si.Comma) (spells f ts)) (sign_token f d ∷ []) w) r.next
next_of f n ih h m (pi.EachLed si.Bar s ∷ pi.Fixed d ∷ []) ts z k w l c =
    let r = read_each_led f n ih s d m c ts z k (sign_token f d ∷ w) [] (begun (start_of f) []) [] (class_sign f d) in
    rw (append_assoc (all_led f (le.Before si.Bar) (spells f ts)) (sign_token f d ∷ []) w) r.next
next_of f n ih h m (pi.Kid s ∷ ps) ts z k w l c = absurd l
next_of f n ih h m _ ts z k w l c = absurd c

-- what is spelled is read
pub read_pieces : (f n : ℕ) → ReadsTo f n → (h : Head) (m : ℕ) (ps : List Piece) (ts : Nodes) → sizes_of ts ≤ n →
    are_kids m (kid_pieces ps) ts ≡ true → (w : List Token) (st : List Symbol) (g : Group) (gs : List Group) → Clear ps (front w) →
    run f (pieces_tokens f h ps (spells f ts) ++ w) (symbols ps ++ st) (g ∷ gs) ≡ run f w st (filled f g ts ∷ gs)
unfolding is_shaped spell
read_pieces f n ih h m [] none z k w st g gs c = run_group f w st gs _ _ (sym (fill_none f g))
read_pieces f n ih h m [] (more t ts) z k w st g gs c = cc
read_pieces f n ih h m (pi.Fixed d ∷ ps) ts z k w st g gs c =
    run_want f (sign_token f d) (pieces_tokens f h ps (spells f ts) ++ w) d (symbols ps ++ st) (g ∷ gs) (class_sign f d) ∙ read_pieces f n
    ih h m ps ts z k w st g gs c
read_pieces f n ih h m (pi.Kid s ∷ ps) none z k w st g gs c = cc
read_pieces f n ih h m (pi.Kid s ∷ ps) (more t ts) z k w st g gs c =
    let p = split (is_shaped (sort_in m s) t) (are_kids m (kid_pieces ps) ts) k in
    let a : is_shaped s t ≡ true = subst (λ x. is_shaped x t ≡ true) (sort_kept m s c.0) p.0 in
    let z' : size_of t ≤ n = omega arith in
    let zs : sizes_of ts ≤ n = omega arith in
    let u = pieces_tokens f h ps (spells f ts) in
    rw (append-nil (spell f t), append_assoc (spell f t) u w)
    (ih s t z' c.0 a (u ++ w) (symbols ps ++ st) g gs (next_of f n ih h m ps ts zs p.1 w c.1 c.2)
    ∙ read_pieces f n ih h m ps ts zs p.1 w st (with_kids g (g.kids ++ plain f t ∷ [])) gs c.2
    ∙ run_group f w st gs _ _ (fill_more f g t ts))
read_pieces f n ih h m (pi.More s ∷ pi.Fixed d ∷ []) ts z k w st g gs c =
    let r = read_more f n ih s d m c ts z k (sign_token f d ∷ w) (sy.Want d ∷ st) g gs (class_sign f d) in
    rw (append_assoc (all_led f (le.Before si.Comma) (spells f ts)) (sign_token f d ∷ []) w)
    (r.runs ∙ run_want f (sign_token f d) w d st _ (class_sign f d))
read_pieces f n ih h m (pi.EachLed si.Bar s ∷ pi.Fixed d ∷ []) ts z k w st g gs c =
    let r = read_each_led f n ih s d m c ts z k (sign_token f d ∷ w) (sy.Want d ∷ st) g gs (class_sign f d) in
    rw (append_assoc (all_led f (le.Before si.Bar) (spells f ts)) (sign_token f d ∷ []) w)
    (r.runs ∙ run_want f (sign_token f d) w d st _ (class_sign f d))
read_pieces f n ih h m _ ts z k w st g gs c = absurd c
