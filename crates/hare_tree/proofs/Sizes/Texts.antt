-- The strings and messages of a shaped tree are among its tokens.
use Rattle.std.proofs.Common.{◌≡◌, ◌⊎◌, ℕ, ◌≤◌, List, [], ◌∷◌, ◌++◌, Bool, true, false, length, refl, inl, inr, arith, if◌then◌else◌}
use Rattle.std.specs.List.{list_all}
use Rattle.std.proofs.lemmas.Bool.{and_parts}
use Rattle.std.proofs.lemmas.List.Sums.{sum_by-append, sum_by-cons}
use Rattle.hare_tree.specs.declared.kind.Kind.{Kind}
use Rattle.hare_tree.specs.declared.kind.Kind.TheVariants as ki
use Rattle.hare_tree.specs.declared.token.Token.{Token}
use Rattle.hare_tree.specs.declared.token.TokenKind.TheVariants as tk
use Rattle.hare_tree.specs.declared.form.Own.TheVariants as ow
use Rattle.hare_tree.specs.declared.form.Sort.{Sort}
use Rattle.hare_tree.specs.declared.form.Sort.TheVariants as so
use Rattle.hare_tree.specs.declared.form.Piece.TheVariants as pi
use Rattle.hare_tree.specs.Node.{Head, Node, Nodes, branch, none, more, nodes_of}
use Rattle.hare_tree.specs.Forms.{form_of}
use Rattle.hare_tree.specs.Levels.{level}
use Rattle.hare_tree.specs.Spell.{word_token, spell, spell_all}
use Rattle.hare_tree.specs.Shape.{is_shaped}
use Rattle.hare_tree.specs.Grammar.{is_string}
use Rattle.hare_tree.specs.Size.{is_text, text_bytes, texts_bytes, TextsAreSpelled}
use Rattle.hare_tree.proofs.Sizes.Weights.{weight, kids_weight, own_weight, pieces_weight, side_weight}
use Rattle.hare_tree.proofs.TreeKids.KidSorts.{shaped_kids}
use Rattle.hare_tree.proofs.TreeKids.ShapedKids.{AllShaped, kids_of_shaped}

-- a token weighs the bytes of its text, if it is a string
abbrev bytes : Token → ℕ
bytes t = if is_string t.kind then length t.text else 0

-- a string or a message is a token
texts : (k : Kind) → (is_text k ≡ false) ⊎ (form_of k ≡ pi.Own ow.Text ∷ [])
texts ki.Str = inr refl
texts ki.Message = inr refl
texts _ = inl refl

one_string : (f : ℕ) (x : List ℕ) → weight bytes f (word_token f tk.Str x ∷ []) ≡ length x
one_string f x = omega (arith, sum_by-cons bytes (word_token f tk.Str x) [])

own_text : (f : ℕ) (h : Head) → (if is_text h.kind then length h.text else 0) ≤ own_weight bytes f h (form_of h.kind)
own_text f h =
    elim (texts h.kind) [
      | inl n ↦ rw n (omega arith)
      | inr t ↦ let b = at_most (is_text h.kind) (length h.text) in rw t (omega (arith, b, one_string f h.text))
    ]
  where
    at_most : (b : Bool) (n : ℕ) → (if b then n else 0) ≤ n
    at_most true n = omega arith
    at_most false n = omega arith

mutual
  unfolding text_bytes spell

  pub text_spelled : (f : ℕ) (s : Sort) (t : Node) → is_shaped s t ≡ true → text_bytes t ≤ weight bytes f (spell f t)
  text_spelled f s (branch h ts) e =
      let k = kids_of_shaped s h ts e in
      let w = pieces_weight bytes f (level h.kind h.text) h (form_of h.kind) ts (shaped_kids s h ts e) in
      omega (arith, w, own_text f h, all_spelled f ts k.shaped)

  all_spelled : (f : ℕ) (ts : Nodes) → AllShaped ts → texts_bytes ts ≤ kids_weight bytes f ts
  all_spelled f none a = omega arith
  all_spelled f (more t ts) a = omega (arith, text_spelled f a.0.0 t a.0.1, all_spelled f ts a.1)

-- trees side by side
all_are : (s : Sort) (ts : List Node) → list_all (is_shaped s) ts ≡ true → AllShaped (nodes_of ts)
all_are s [] e = tt
all_are s (t ∷ ts) e = let p = and_parts (is_shaped s t) (list_all (is_shaped s) ts) e in ((s, p.0), all_are s ts p.1)

pub texts_are_spelled : TextsAreSpelled
texts_are_spelled t e =
    let p = and_parts (list_all (is_shaped so.Use) t.uses) (list_all (is_shaped so.Decl) t.decls) e in
    let end = word_token t.file tk.End [] ∷ [] in
    let u = all_spelled t.file (nodes_of t.uses) (all_are so.Use t.uses p.0) in
    let d = all_spelled t.file (nodes_of t.decls) (all_are so.Decl t.decls p.1) in
    let a = sum_by-append bytes (spell_all t.file t.uses) (spell_all t.file t.decls ++ end) in
    let b = sum_by-append bytes (spell_all t.file t.decls) end in
    omega (arith, u, d, a, b, side_weight bytes t.file t.uses, side_weight bytes t.file t.decls)
