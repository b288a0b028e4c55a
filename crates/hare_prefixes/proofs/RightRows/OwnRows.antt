-- Each row of a tree's own text is right.
use Rattle.std.proofs.Common.{◌≡◌, ℕ, List, [], ◌∷◌, Bool, true, false, ◌&&◌, ◌||◌, map, refl, ap, sym, ◌∙◌, subst, if◌then◌else◌, ◌^◌}
use Rattle.std.specs.Prelude.{slice_index, nat_lt}
use Rattle.std.specs.Char.{is_ascii_digit}
use Rattle.hare_tree.specs.declared.token.TokenKind.TheVariants as tk
use Rattle.hare_tree.specs.declared.token.Token.{Token}
use Rattle.hare_tree.specs.declared.form.Sign.TheVariants as si
use Rattle.hare_tree.specs.declared.form.Own.{Own}
use Rattle.hare_tree.specs.declared.form.Own.TheVariants as ow
use Rattle.hare_tree.specs.Levels.{is_name}
use Rattle.hare_tree.specs.Spell.{word_token, sign_token, full_token, label_tokens, member_kind}
use Rattle.hare_tree.specs.Shape.{is_empty, is_number, has_text_alone}
use Rattle.hare_tree.specs.Grammar.{unplaced}
use Rattle.hare_automaton.specs.declared.class.Class.{Class}
use Rattle.hare_automaton.specs.declared.class.Class.TheVariants as cl
use Rattle.hare_automaton.specs.declared.rule.Rule.TheVariants as ru
use Rattle.hare_automaton.specs.declared.rule.Change.{Change}
use Rattle.hare_automaton.specs.Classes.{head_of, class_of}
use Rattle.hare_automaton.specs.Rows.{Skips}
use Rattle.hare_automaton.specs.Table.{own_row}
use Rattle.hare_automaton.specs.Engine.{Group, head_in, take_text, all_changed}
use Rattle.hare_automaton.proofs.Spelled.Paths.{split}
use Rattle.hare_automaton.proofs.Spelled.Read.{no_digit}
use Rattle.hare_prefixes.proofs.Soundness.Seen.{sign_is, name_is, number_is}
use Rattle.hare_prefixes.proofs.Soundness.Trees.{Source, Bare, Owned}
use Rattle.hare_prefixes.proofs.Soundness.Means.{Means}
use Rattle.hare_prefixes.proofs.Soundness.Stacks.{last_part, Goes, Used}

-- the group with the text of a token
abbrev pub texted : Token → Group → Group
texted t g = record { place = g.place; text = t.text; number = t.number; suffix = t.suffix; kids = g.kids }

-- what a text says, read with these changes
abbrev Text : Own → Token → List Token → List Group → List Group → Type 0
Text o t u gs gs' = (g : Group) (hs : List Group) → gs ≡ g ∷ hs → Bare g → (g' : Group) × (gs' ≡ g' ∷ hs) × Owned o g (t ∷ u) g'

taken : (x : Source) (o : Own) (t : Token) (gs : List Group) (m : ℕ) (u w : List Token) (gs' : List Group) →
    ((g : Group) → Owned o g (t ∷ []) (texted t g)) → Goes x [] (take_text t gs) t m u w gs' → Text o t u gs gs'
taken x o t gs m u w gs' f h g hs i b = (
  texted t g,
  h.reads.1 ∙ ap (take_text t) i,
  subst (λ y. Owned o g (t ∷ y) (texted t g))
      (sym h.reads.0) (f g),
)

named_text : (t : Token) → class_of t ≡ cl.Name → (g : Group) → Owned ow.Name g (t ∷ []) (texted t g)
named_text t e g =
    let n = name_is t e in
    record { own = λ k. rw (n.name, n.plain.alone) refl; spelled = λ k. ap (λ y. y ∷ []) (sym n.plain.is); kids = refl; place = refl }

member_name : (t : Token) → class_of t ≡ cl.Name → (g : Group) → Owned ow.Member g (t ∷ []) (texted t g)
member_name t e g =
    let n = name_is t e in
    let d : member_kind t.text ≡ tk.Name = ap (λ b. if b then tk.Number else tk.Name) (no_digit t.text n.name) in
    record {
      own = λ k. right (is_number (head_in k (texted t g))) (is_name false t.text) (has_text_alone (head_of t)) n.name n.plain.alone;
      spelled = λ k. ap (λ y. full_token 0 y (head_in k (texted t g)) ∷ []) d ∙ ap (λ y. full_token 0 y (head_in k (texted t g)) ∷ [])
          (sym (ap (λ y. y.kind) n.plain.is));
      kids = refl;
      place = refl;
    }
  where
    right : (a b c : Bool) → b ≡ true → c ≡ true → (a || (b && c)) ≡ true
    right true b c p q = refl
    right false b c p q = rw (p, q) refl

member_number : (t : Token) → class_of t ≡ cl.Number → (g : Group) → Owned ow.Member g (t ∷ []) (texted t g)
member_number t e g =
    let n = number_is t e in
    let p = split (is_ascii_digit (slice_index t.text 0)) (nat_lt t.number (2 ^ 127)) n.1 in
    let d : member_kind t.text ≡ tk.Number = ap (λ b. if b then tk.Number else tk.Name) p.0 in
    record {
      own = λ k. rw (p.0, p.1) refl;
      spelled = λ k. ap (λ y. full_token 0 y (head_in k (texted t g)) ∷ []) d ∙ ap (λ y. y ∷ []) (sym n.0);
      kids = refl;
      place = refl;
    }

-- `:` and a name
label_text : (t : Token) (g g' : Group) (v : List Token) → class_of t ≡ cl.Sign si.Colon → Owned ow.Name g v g' →
    Owned ow.Label g (t ∷ v) g'
label_text t g g' v e q = record {
  own = λ k. let p = split (is_name false g'.text) (has_text_alone (head_in k g')) (q.own k) in labelled (is_empty g'.text)
      (is_name false g'.text) (has_text_alone (head_in k g')) p.0 p.1;
  spelled = λ k. let p = split (is_name false g'.text) (has_text_alone (head_in k g')) (q.own k) in spelled g'.text p.0 ∙ ap
      (λ y. sign_token 0 si.Colon ∷ y) (q.spelled k) ∙ ap (λ y. y ∷ map unplaced v) (sym (sign_is t si.Colon e));
  kids = q.kids;
  place = q.place;
}
  where
    labelled : (a b c : Bool) → b ≡ true → c ≡ true → ((a || b) && c) ≡ true
    labelled true b c p q = q
    labelled false b c p q = rw (p, q) refl

    spelled : (y : List ℕ) → is_name false y ≡ true → label_tokens 0 y ≡ sign_token 0 si.Colon ∷ word_token 0 tk.Name y ∷ []
    spelled [] p = cc
    spelled (c ∷ y) p = refl

pub own_means : (x : Source) (o : Own) (c : Class) (t : Token) (gs : List Group) (m : ℕ) (u w : List Token) (gs' : List Group) →
    class_of t ≡ c → Used x (own_row o c) t gs m u w gs' → Means x (ru.Own o) gs m (t ∷ u) w gs'
own_means x ow.Name cl.Name t gs m u w gs' e h = taken x ow.Name t gs m u w gs' (named_text t e) h
own_means x ow.Member cl.Name t gs m u w gs' e h = taken x ow.Member t gs m u w gs' (member_name t e) h
own_means x ow.Member cl.Number t gs m u w gs' e h = taken x ow.Member t gs m u w gs' (member_number t e) h
own_means x ow.Label (cl.Sign si.Colon) t gs m u w gs' e h =
    λ g hs i b. let r = last_part x (ru.Own ow.Name) gs h.n u w gs' h.reads g hs i b in (r.0, r.1, label_text t g r.0 u e r.2)
own_means x ow.Label _ t gs m u w gs' e h = absurd h
own_means x _ c t gs m u w gs' e h = absurd h

-- no label
skips_nothing : (cs : List Change) → Skips [] ≡ Skips cs → cs ≡ []
skips_nothing cs e = cc

label_skips : (c : Class) (cs : List Change) → own_row ow.Label c ≡ Skips cs → cs ≡ []
label_skips (cl.Sign si.Colon) cs e = cc
label_skips (cl.Sign _) cs e = skips_nothing cs e
label_skips _ cs e = skips_nothing cs e

pub own_skips : (x : Source) (o : Own) (c : Class) (t : Token) (gs : List Group) (m : ℕ) (w : List Token) (cs : List Change) →
    own_row o c ≡ Skips cs → Means x (ru.Own o) gs m [] w (all_changed x.file t cs gs)
own_skips x ow.Name cl.Name t gs m w cs i = cc
own_skips x ow.Member cl.Name t gs m w cs i = cc
own_skips x ow.Member cl.Number t gs m w cs i = cc
own_skips x ow.Label c t gs m w cs i =
    λ g hs j b. (
      g,
      ap (λ y. all_changed x.file t y gs) (label_skips c cs i) ∙ j,
      record { own = λ k. rw (b.text, b.number, b.suffix) refl; spelled = λ k. ap (label_tokens 0) b.text; kids = refl; place = refl },
    )
own_skips x _ c t gs m w cs i = cc
