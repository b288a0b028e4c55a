-- The tokens of ways, with the commas that are added among them.
use Rattle.std.proofs.Common.{◌≡◌, ℕ, suc, List, [], ◌∷◌, ◌++◌, Bool, true, false, map, length, refl, sym, ap, ◌∙◌, arith, append_assoc, if◌then◌else◌}
use Rattle.hare_tree.specs.declared.kind.Kind.{Kind}
use Rattle.hare_tree.specs.declared.token.TokenKind.TheVariants as tk
use Rattle.hare_tree.specs.declared.token.Token.{Token}
use Rattle.hare_tree.specs.declared.form.Sign.{Sign}
use Rattle.hare_tree.specs.declared.form.Sign.TheVariants as si
use Rattle.hare_tree.specs.declared.form.Own.{Own}
use Rattle.hare_tree.specs.declared.form.Own.TheVariants as ow
use Rattle.hare_tree.specs.declared.form.Lead.TheVariants as le
use Rattle.hare_tree.specs.Node.{Head, Node, head}
use Rattle.hare_tree.specs.Spell.{word_token, sign_token, parts, path_tokens, label_tokens, own_tokens, stands_alone, with_lead, spell, spelled_kid}
use Rattle.hare_ways.specs.declared.way.Start.{Start}
use Rattle.hare_ways.specs.declared.way.Way.{Way}
use Rattle.hare_ways.specs.Ways.{starting, deeper, path_ways, label_ways, own_ways}
use Rattle.hare_commas.specs.Commas.{comma_tokens, tokens_with}

less-one : (a b : ℕ) → suc a ≡ suc b → a ≡ b
less-one a b e = omega (arith, e)

pub with-append : (u v : List Way) (s t : List Token) → length u ≡ length s
    → tokens_with (u ++ v) (s ++ t) ≡ tokens_with u s ++ tokens_with v t
with-append [] v [] t e = refl
with-append [] v (x ∷ s) t e = cc
with-append (w ∷ u) v [] t e = cc
with-append (w ∷ u) v (x ∷ s) t e =
    ap (λ l. comma_tokens w.comma ++ x ∷ l) (with-append u v s t (less-one (length u) (length s) e))
    ∙ sym (append_assoc (comma_tokens w.comma) (x ∷ tokens_with u s) (tokens_with v t))

-- ---- lines and tabs

pub with-starting : (s : Start) (u : List Way) (ts : List Token) → tokens_with (starting s u) ts ≡ tokens_with u ts
with-starting s [] ts = refl
with-starting s (w ∷ u) [] = refl
with-starting s (w ∷ u) (t ∷ ts) = refl

pub with-deeper : (u : List Way) (ts : List Token) → tokens_with (map deeper u) ts ≡ tokens_with u ts
with-deeper [] ts = refl
with-deeper (w ∷ u) [] = refl
with-deeper (w ∷ u) (t ∷ ts) = ap (λ l. comma_tokens w.comma ++ t ∷ l) (with-deeper u ts)

pub with-within : (c : Bool) (u : List Way) (ts : List Token) → tokens_with (if c then map deeper u else u) ts ≡ tokens_with u ts
with-within true u ts = with-deeper u ts
with-within false u ts = refl

-- ---- signs, and a tree's own tokens

pub with-sign : (w : Way) (s : Sign) → w.comma ≡ false → sign_token 0 s ∷ [] ≡ tokens_with (w ∷ []) (sign_token 0 s ∷ [])
with-sign w s e = ap (λ x. comma_tokens x ++ sign_token 0 s ∷ []) (sym e)

path-with : (k : Kind) (xs : List (List ℕ)) → path_tokens 0 xs ≡ tokens_with (path_ways k xs) (path_tokens 0 xs)
path-with k [] = refl
path-with k (x ∷ []) = refl
path-with k (x ∷ y ∷ xs) = ap (λ l. word_token 0 tk.Name x ∷ sign_token 0 si.PathMark ∷ l) (path-with k (y ∷ xs))

label-with : (s : List ℕ) → label_tokens 0 s ≡ tokens_with (label_ways s) (label_tokens 0 s)
label-with [] = refl
label-with (c ∷ s) = refl

pub with-own : (h : Head) (o : Own) → own_tokens 0 h o ≡ tokens_with (own_ways h o) (own_tokens 0 h o)
with-own h ow.Nothing = refl
with-own h ow.Name = refl
with-own h ow.PathName = refl
with-own h ow.Path = path-with h.kind (parts h.text)
with-own h ow.Label = label-with h.text
with-own h ow.Scalar = refl
with-own h ow.Bool = refl
with-own h ow.Number = refl
with-own h ow.Rune = refl
with-own h ow.Text = refl
with-own h ow.Operator = refl
with-own h ow.Member = refl

-- ---- kids with their signs

pub alone-before : (c : Sign) (t : Node) → stands_alone (head t).kind ≡ true → with_lead 0 (le.Before c) (spelled_kid 0 t) ≡ spell 0 t
alone-before c t e = ap (λ x. if x then spell 0 t else sign_token 0 c ∷ spell 0 t) e

pub sign-before : (c : Sign) (t : Node) → stands_alone (head t).kind ≡ false
    → with_lead 0 (le.Before c) (spelled_kid 0 t) ≡ sign_token 0 c ∷ spell 0 t
sign-before c t e = ap (λ x. if x then spell 0 t else sign_token 0 c ∷ spell 0 t) e

pub alone-behind : (c : Sign) (t : Node) → stands_alone (head t).kind ≡ true → with_lead 0 (le.Behind c) (spelled_kid 0 t) ≡ spell 0 t
alone-behind c t e = ap (λ x. if x then spell 0 t else spell 0 t ++ sign_token 0 c ∷ []) e

pub sign-behind : (c : Sign) (t : Node) → stands_alone (head t).kind ≡ false
    → with_lead 0 (le.Behind c) (spelled_kid 0 t) ≡ spell 0 t ++ sign_token 0 c ∷ []
sign-behind c t e = ap (λ x. if x then spell 0 t else spell 0 t ++ sign_token 0 c ∷ []) e
