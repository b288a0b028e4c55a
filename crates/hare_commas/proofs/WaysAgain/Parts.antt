-- The ways of the parts of a form, where commas are added and where they stand.
use Rattle.std.proofs.Common.{◌≡◌, ℕ, ◌+◌, List, [], ◌∷◌, ◌++◌, ◌⊎◌, inl, inr, Bool, true, false, ◌&&◌, length, drop, refl, sym, ap, ◌∙◌, subst, arith, length-append, if◌then◌else◌}
use Rattle.std.proofs.lemmas.List.{append-nil}
use Rattle.hare_tree.specs.declared.kind.Kind.{Kind}
use Rattle.hare_tree.specs.declared.form.Sign.{Sign}
use Rattle.hare_tree.specs.declared.form.Sign.TheVariants as si
use Rattle.hare_tree.specs.declared.form.Own.{Own}
use Rattle.hare_tree.specs.declared.form.Own.TheVariants as ow
use Rattle.hare_tree.specs.declared.form.Lead.{Lead}
use Rattle.hare_tree.specs.declared.form.Lead.TheVariants as le
use Rattle.hare_tree.specs.Node.{Head, Node, Nodes, none, more}
use Rattle.hare_tree.specs.Signs.{is_sign}
use Rattle.hare_tree.specs.Spell.{parts, own_tokens, label_tokens, with_lead, one_led, all_led, listed, spells, spelled_kid}
use Rattle.hare_ways.specs.declared.way.Start.{Start}
use Rattle.hare_ways.specs.declared.way.Way.{Way}
use Rattle.hare_ways.specs.declared.breaks.Breaks.{Breaks}
use Rattle.hare_ways.specs.declared.part.Part.{Part}
use Rattle.hare_ways.specs.declared.part.Part.TheVariants as pa
use Rattle.hare_ways.specs.Breaks.{closing}
use Rattle.hare_ways.specs.Ways.{plain, sign_way, path_ways, label_ways, own_ways, closing_way, fixed_way}
use Rattle.hare_ways.specs.Parts.{part_tokens, nodes_behind}
use Rattle.hare_ways.specs.Walk.{kid_ways, first_ways, row_ways, listed_walk, part_ways}
use Rattle.hare_ways.proofs.Counted.{path_length, kid_length}
use Rattle.hare_commas.specs.Commas.{settled, comma_ways, with_commas, tokens_with}
use Rattle.hare_commas.specs.Commas.{AreSpread}
use Rattle.hare_commas.proofs.AddedCommas.Tokens.{with-sign, with-own}
use Rattle.hare_commas.proofs.WaysAgain.Kin.{Kin}
use Rattle.hare_commas.proofs.WaysAgain.Kids.{AreAgain, kid-again, row-again, listed-again}

-- the same, but that no comma is added
abbrev pub quiet : Breaks → Breaks
quiet b = record { kind = b.kind; brackets = b.brackets; statements = b.statements; comma = false }

-- ---- how many tokens a part has

label_length : (s : List ℕ) → length (label_ways s) ≡ length (label_tokens 0 s)
label_length [] = refl
label_length (c ∷ s) = refl

own_length : (h : Head) (o : Own) → length (own_ways h o) ≡ length (own_tokens 0 h o)
own_length h ow.Nothing = refl
own_length h ow.Name = refl
own_length h ow.PathName = refl
own_length h ow.Path = path_length h.kind (parts h.text)
own_length h ow.Label = label_length h.text
own_length h ow.Scalar = refl
own_length h ow.Bool = refl
own_length h ow.Number = refl
own_length h ow.Rune = refl
own_length h ow.Text = refl
own_length h ow.Operator = refl
own_length h ow.Member = refl

one_length : (cs : List ℕ) (k : Kind) (s : Start) (l : Lead) (n : ℕ) (ts : Nodes)
    → length (first_ways cs k s l n ts) ≡ length (one_led 0 l (spells 0 ts))
unfolding spells
one_length cs k s l n none = refl
one_length cs k s l n (more t ts) = kid_length cs k s l n t ∙ sym (ap length (append-nil (with_lead 0 l (spelled_kid 0 t))))

pub row_length : (cs : List ℕ) (k : Kind) (s : Start) (l : Lead) (n : ℕ) (ts : Nodes)
    → length (row_ways cs k s l n ts) ≡ length (all_led 0 l (spells 0 ts))
unfolding spells
row_length cs k s l n none = refl
row_length cs k s l n (more t ts) =
    let u = kid_ways cs k s l n t in
    omega (
      arith,
      kid_length cs k s l n t,
      row_length cs k s l (n + length u) ts,
      length-append u (row_ways cs k s l (n + length u) ts),
      length-append (with_lead 0 l (spelled_kid 0 t)) (all_led 0 l (spells 0 ts)),
    )

listed_length : (cs : List ℕ) (k : Kind) (s : Start) (n : ℕ) (ts : Nodes) →
    length (listed_walk cs k s n ts) ≡ length (listed 0 (spells 0 ts))
unfolding spells
listed_length cs k s n none = refl
listed_length cs k s n (more t ts) =
    let u = kid_ways cs k s le.Nothing n t in
    omega (
      arith,
      kid_length cs k s le.Nothing n t,
      row_length cs k s (le.Before si.Comma) (n + length u) ts,
      length-append u (row_ways cs k s (le.Before si.Comma) (n + length u) ts),
      length-append (with_lead 0 le.Nothing (spelled_kid 0 t) ++ []) (all_led 0 (le.Before si.Comma) (spells 0 ts)),
      ap length (append-nil (with_lead 0 le.Nothing (spelled_kid 0 t))),
    )

pub part-length : (cs : List ℕ) (h : Head) (b : Breaks) (inside : Bool) (s : Start) (q : Part) (n : ℕ) (ts : Nodes)
    → length (part_ways cs h b inside s q n ts) ≡ length (part_tokens h q (spells 0 ts))
part-length cs h b inside s (pa.Sign c) n ts = refl
part-length cs h b inside s (pa.Own o) n ts = own_length h o
part-length cs h b inside s (pa.One l) n ts = one_length cs h.kind s l n ts
part-length cs h b inside s (pa.All l) n ts = row_length cs h.kind s l n ts
part-length cs h b inside s pa.Listed n ts = listed_length cs h.kind s n ts

-- ---- signs, and a tree's own tokens

path-settled : (k : Kind) (xs : List (List ℕ)) → path_ways k xs ≡ with_commas (path_ways k xs)
path-settled k [] = refl
path-settled k (x ∷ []) = refl
path-settled k (x ∷ y ∷ xs) = ap (λ l. plain ∷ sign_way k si.PathMark ∷ l) (path-settled k (y ∷ xs))

label-settled : (s : List ℕ) → label_ways s ≡ with_commas (label_ways s)
label-settled [] = refl
label-settled (c ∷ s) = refl

own-settled : (h : Head) (o : Own) → own_ways h o ≡ with_commas (own_ways h o)
own-settled h ow.Nothing = refl
own-settled h ow.Name = refl
own-settled h ow.PathName = refl
own-settled h ow.Path = path-settled h.kind (parts h.text)
own-settled h ow.Label = label-settled h.text
own-settled h ow.Scalar = refl
own-settled h ow.Bool = refl
own-settled h ow.Number = refl
own-settled h ow.Rune = refl
own-settled h ow.Text = refl
own-settled h ow.Operator = refl
own-settled h ow.Member = refl

-- the closing sign stands here, inside the brackets
abbrev pub part_closes : Breaks → Bool → Part → Bool
part_closes b inside (pa.Sign c) = inside && is_sign c (closing b.kind)
part_closes b inside _ = false

closing-settled : (b : Breaks) (c : Sign) (x : Bool) → b.brackets ≡ x → settled (closing_way b c) ≡ closing_way (quiet b) c
closing-settled b c true e = rw e refl
closing-settled b c false e = rw e refl

pub fixed-settled : (b : Breaks) (inside : Bool) (c : Sign) → settled (fixed_way b inside c) ≡ fixed_way (quiet b) inside c
fixed-settled b inside c = by (inside && is_sign c (closing b.kind))
  where
    by : (x : Bool) → settled (if x then closing_way b c else sign_way b.kind c) ≡
        (if x then closing_way (quiet b) c else sign_way b.kind c)
    by true = closing-settled b c b.brackets refl
    by false = refl

quiet-closing : (b : Breaks) (c : Sign) (x : Bool) → b.brackets ≡ x → b.comma ≡ false → (closing_way b c).comma ≡ false
quiet-closing b c true e f = rw e f
quiet-closing b c false e f = rw e refl

-- no comma is added in front of this part
abbrev pub IsCalm : Breaks → Bool → Part → Type 0
IsCalm b inside q = (b.comma ≡ false) ⊎ (part_closes b inside q ≡ false)

pub fixed-calm : (b : Breaks) (inside : Bool) (c : Sign) → IsCalm b inside (pa.Sign c) → (fixed_way b inside c).comma ≡ false
fixed-calm b inside c (inl e) = by (inside && is_sign c (closing b.kind))
  where
    by : (x : Bool) → (if x then closing_way b c else sign_way b.kind c).comma ≡ false
    by true = quiet-closing b c b.brackets refl e
    by false = refl
fixed-calm b inside c (inr e) = ap (λ x. (if x then closing_way b c else sign_way b.kind c).comma) e

one-settled : (w : Way) → w.comma ≡ false → with_commas (w ∷ []) ≡ settled w ∷ []
one-settled w e = ap (λ x. comma_ways x w.depth ++ settled w ∷ []) e

fixed-again : (b : Breaks) (inside : Bool) (c : Sign) → IsCalm b inside (pa.Sign c)
    → fixed_way (quiet b) inside c ∷ [] ≡ with_commas (fixed_way b inside c ∷ [])
fixed-again b inside c h =
    ap (λ w. w ∷ []) (sym (fixed-settled b inside c)) ∙ sym (one-settled (fixed_way b inside c) (fixed-calm b inside c h))

-- ---- parts

-- a part in front of which these kids are left, and which leaves these of the kids again
pub record PartAgain (cs ds : List ℕ) (h : Head) (b : Breaks) (inside : Bool) (s : Start) (q : Part) (n m : ℕ) (ts tail : Nodes) : Type 0
  where
    pub kids : Nodes
    pub behind : nodes_behind q kids ≡ tail
    pub kin : (e : Bool) → Kin e (nodes_behind q ts) tail → Kin e ts kids
    pub ways_are : part_ways ds h (quiet b) inside s q m kids ≡ with_commas (part_ways cs h b inside s q n ts)
    pub spelled : part_tokens h q (spells 0 kids) ≡ tokens_with (part_ways cs h b inside s q n ts) (part_tokens h q (spells 0 ts))
    pub no_kids : ts ≡ none → kids ≡ none

more-none : {A : Type 0} (t : Node) (ts : Nodes) → more t ts ≡ none → A
more-none t ts e = cc

all-kin : (e : Bool) (tail ts kids : Nodes) → tail ≡ none → Kin false ts kids → Kin e none tail → Kin e ts kids
all-kin e tail ts kids p k x = subst (λ f. Kin f ts kids) (sym (subst (λ us. Kin e none us) p x)) k

no-row : (e : Bool) (ts kids : Nodes) → Kin e ts kids → ts ≡ none → kids ≡ none
no-row e none none k p = refl
no-row e none (more u us) k p = absurd k
no-row e (more t ts) kids k p = more-none t ts p

pub part-again : (cs ds : List ℕ) (h : Head) (b : Breaks) (inside : Bool) (s : Start) (q : Part) (n m : ℕ) (ts tail : Nodes)
    → IsCalm b inside q → AreAgain cs ds ts → (nodes_behind q ts ≡ none → tail ≡ none)
    → AreSpread (part_ways cs h b inside s q n ts) (drop n cs) (drop m ds) → PartAgain cs ds h b inside s q n m ts tail
unfolding spells
part-again cs ds h b inside s (pa.Sign c) n m ts tail calm f g x =
    record {
      kids = tail;
      behind = refl;
      kin = λ e k. k;
      ways_are = fixed-again b inside c calm;
      spelled = with-sign (fixed_way b inside c) c (fixed-calm b inside c calm);
      no_kids = g;
    }
part-again cs ds h b inside s (pa.Own o) n m ts tail calm f g x =
    record { kids = tail; behind = refl; kin = λ e k. k; ways_are = own-settled h o; spelled = with-own h o; no_kids = g }
part-again cs ds h b inside s (pa.One l) n m none tail calm f g x =
    record {
      kids = none;
      behind = sym (g refl);
      kin = λ e k. subst (λ us. Kin e none us) (g refl) k;
      ways_are = refl;
      spelled = refl;
      no_kids = λ e. refl;
    }
part-again cs ds h b inside s (pa.One l) n m (more t ts) tail calm f g x =
    let a = kid-again cs ds h.kind s l n m t f.0 x in
    record {
      kids = more a.tree tail;
      behind = refl;
      kin = λ e k. inl (a.item, a.adds, k);
      ways_are = a.ways_are;
      spelled = append-nil (with_lead 0 l (spelled_kid 0 a.tree)) ∙ a.spelled
          ∙ ap (tokens_with (kid_ways cs h.kind s l n t)) (sym (append-nil (with_lead 0 l (spelled_kid 0 t))));
      no_kids = λ e. more-none t ts e;
    }
part-again cs ds h b inside s (pa.All l) n m ts tail calm f g x =
    let a = row-again cs ds h.kind s l n m ts f x in
    record {
      kids = a.kids;
      behind = sym (g refl);
      kin = λ e k. all-kin e tail ts a.kids (g refl) a.kin k;
      ways_are = a.ways_are ∙ append-nil (with_commas (row_ways cs h.kind s l n ts));
      spelled = a.spelled ∙ append-nil (tokens_with (row_ways cs h.kind s l n ts) (all_led 0 l (spells 0 ts)));
      no_kids = no-row false ts a.kids a.kin;
    }
part-again cs ds h b inside s pa.Listed n m ts tail calm f g x =
    let a = listed-again cs ds h.kind s n m ts f x in
    record {
      kids = a.kids;
      behind = sym (g refl);
      kin = λ e k. all-kin e tail ts a.kids (g refl) a.kin k;
      ways_are = a.ways_are ∙ append-nil (with_commas (listed_walk cs h.kind s n ts));
      spelled = a.spelled ∙ append-nil (tokens_with (listed_walk cs h.kind s n ts) (listed 0 (spells 0 ts)));
      no_kids = no-row false ts a.kids a.kin;
    }
