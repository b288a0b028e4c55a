-- A shaped tree has at most eight nodes for each of its tokens.
use Rattle.std.proofs.Common.{◌≡◌, ◌⊎◌, ℕ, ◌+◌, ◌*◌, ◌≤◌, List, [], ◌∷◌, ◌++◌, Bool, true, false, length, refl, inl, inr, arith, lit≤, if◌then◌else◌}
use Rattle.std.specs.Prelude.{◌&&◌, slice_index, ◌==◌}
use Rattle.std.specs.List.{list_all}
use Rattle.std.proofs.lemmas.Bool.{and_parts}
use Rattle.std.proofs.lemmas.List.Sums.{sum_by-cons}
use Rattle.std.proofs.lemmas.List.{length-append}
use Rattle.hare_tree.specs.declared.kind.Kind.{Kind}
use Rattle.hare_tree.specs.declared.kind.Kind.TheVariants as ki
use Rattle.hare_tree.specs.declared.token.Token.{Token}
use Rattle.hare_tree.specs.declared.token.TokenKind.TheVariants as tk
use Rattle.hare_tree.specs.declared.form.Own.{Own}
use Rattle.hare_tree.specs.declared.form.Own.TheVariants as ow
use Rattle.hare_tree.specs.declared.form.Sort.{Sort}
use Rattle.hare_tree.specs.declared.form.Sort.TheVariants as so
use Rattle.hare_tree.specs.declared.form.Piece.{Piece}
use Rattle.hare_tree.specs.declared.form.Piece.TheVariants as pi
use Rattle.hare_tree.specs.Node.{Head, Node, Nodes, branch, none, more, head, nodes_of}
use Rattle.hare_tree.specs.Forms.{form_of}
use Rattle.hare_tree.specs.Levels.{level, admits}
use Rattle.hare_tree.specs.Spell.{own_tokens, parts_from, path_tokens, word_token, spell, spell_all}
use Rattle.hare_tree.specs.Shape.{is_shaped, is_none, are_kids, kid_pieces}
use Rattle.hare_tree.specs.Size.{node_count, kid_count, ShapedTreesAreSmall, ShapedFilesAreSmall}
use Rattle.hare_tree.proofs.Sizes.Weights.{weight, kids_weight, own_weight, pieces_weight, side_weight}
use Rattle.hare_tree.proofs.TreeKids.KidSorts.{shaped_kids}
use Rattle.hare_tree.proofs.TreeKids.ShapedKids.{AllShaped, absent, absents, room_for, shaped_admits, something, kids_of_shaped}

-- each token has room for eight nodes
abbrev eight : Token → ℕ
eight t = 8

eight_each : (ts : List Token) → weight eight 0 ts ≡ 8 * length ts
eight_each [] = refl
eight_each (t ∷ ts) = omega (arith, sum_by-cons eight t ts, eight_each ts)

-- ---- the tokens that a form has of its own

abbrev least_own : Own → ℕ
least_own ow.Nothing = 0
least_own ow.Label = 0
least_own _ = 8

abbrev least : List Piece → ℕ
least [] = 0
least (pi.Fixed s ∷ ps) = 8 + least ps
least (pi.Own o ∷ ps) = least_own o + least ps
least (_ ∷ ps) = least ps

-- a text has a part
parts_length : (taken : Bool) (part s : List ℕ) → 1 ≤ length (parts_from taken part s)
parts_length taken part [] = lit≤ tt
parts_length true part (c ∷ s) = parts_length false part s
parts_length false part (c ∷ s) =
    elim (c == 58 && slice_index s 0 == 58) as
    (λ b. 1 ≤ length (if b then part ∷ parts_from true [] s else parts_from false (part ++ c ∷ []) s)) [
      | true ↦ omega arith
      | false ↦ parts_length false (part ++ c ∷ []) s
    ]

path_length : (f : ℕ) (ps : List (List ℕ)) → 1 ≤ length ps → 1 ≤ length (path_tokens f ps)
path_length f [] h = h
path_length f (p ∷ []) h = lit≤ tt
path_length f (p ∷ q ∷ ps) h = omega arith

own_least : (f : ℕ) (h : Head) (o : Own) → least_own o ≤ weight eight f (own_tokens f h o)
own_least f h ow.Nothing = omega arith
own_least f h ow.Label = omega arith
own_least f h ow.Path =
    omega (arith, eight_each (own_tokens f h ow.Path), path_length f (parts_from false [] h.text) (parts_length false [] h.text))
own_least f h _ = lit≤ tt

form_least : (f : ℕ) (h : Head) (ps : List Piece) → least ps ≤ own_weight eight f h ps
form_least f h [] = omega arith
form_least f h (pi.Fixed s ∷ ps) = omega (arith, form_least f h ps)
form_least f h (pi.Own o ∷ ps) = omega (arith, own_least f h o, form_least f h ps)
form_least f h (_ ∷ ps) = form_least f h ps

-- ---- what is left of the room of a tree's tokens

-- The values of a case and the path of an import have no token of their own.
abbrev spare : Kind → ℕ
spare ki.None = 0
spare ki.Values = 0
spare ki.ImportPath = 0
spare _ = 3

abbrev spares : Nodes → ℕ
spares none = 0
spares (more t ts) = spare (head t).kind + spares ts

-- a kind with tokens of its own has room for itself and for the kids that may be absent
record HasRoom (k : Kind) : Type 0 where
  spares_three : spare k ≡ 3
  is_there : is_none k ≡ false
  room : 4 + room_for (form_of k) ≤ least (form_of k)

has_room : (k : Kind) → (k ≡ ki.None) ⊎ ((k ≡ ki.Values) ⊎ ((k ≡ ki.ImportPath) ⊎ HasRoom k))
has_room ki.None = inl refl
has_room ki.Values = inr (inl refl)
has_room ki.ImportPath = inr (inr (inl refl))
has_room _ = inr (inr (inr record { spares_three = refl; is_there = refl; room = lit≤ tt }))

-- an expression and a name have room to spare
expression_spares : (k : Kind) (x : List ℕ) → admits (so.Level 1) k x ≡ true → 3 ≤ spare k
expression_spares ki.None x e = cc
expression_spares ki.Values x e = cc
expression_spares ki.ImportPath x e = cc
expression_spares _ x e = lit≤ tt

name_spares : (k : Kind) (x : List ℕ) → admits so.Name k x ≡ true → 3 ≤ spare k
name_spares ki.Name x e = lit≤ tt
name_spares _ x e = cc

first_value : (n : ℕ) (ts : Nodes) → are_kids n (kid_pieces (form_of ki.Values)) ts ≡ true → 3 ≤ spares ts
unfolding is_shaped
first_value n none e = cc
first_value n (more (branch h us) ts) e =
    omega (arith, expression_spares h.kind h.text (shaped_admits (so.Level 1) h us (and_parts _ _ e).0))

first_name : (n : ℕ) (ts : Nodes) → are_kids n (kid_pieces (form_of ki.ImportPath)) ts ≡ true → 3 ≤ spares ts
unfolding is_shaped
first_name n none e = cc
first_name n (more (branch h us) ts) e =
    omega (arith, name_spares h.kind h.text (shaped_admits so.Name h us (and_parts _ _ e).0))

-- ---- trees

-- what is known of the kids of a node
record Counted (f : ℕ) (h : Head) (ts : Nodes) : Type 0 where
  kids : are_kids (level h.kind h.text) (kid_pieces (form_of h.kind)) ts ≡ true
  weighed : own_weight eight f h (form_of h.kind) + kids_weight eight f ts ≤ weight eight f (spell f (branch h ts))
  few : absents ts ≤ room_for (form_of h.kind)
  small : kid_count ts + spares ts ≤ kids_weight eight f ts + absents ts

counted : (f : ℕ) (h : Head) (ts : Nodes) → Counted f h ts → node_count (branch h ts) + spare h.kind ≤ weight eight f
    (spell f (branch h ts)) + absent (branch h ts)
unfolding node_count
counted f h ts c =
    let w = c.weighed in
    let l = form_least f h (form_of h.kind) in
    let few = c.few in
    let s = c.small in
    elim (has_room h.kind) [
      | inl e ↦ let z : room_for (form_of h.kind) ≡ 0 = rw e refl in let a : absent (branch h ts) ≡ 1 =
          rw e refl in let p : spare h.kind ≡ 0 = rw e refl in omega (arith, w, few, s, z, a, p)
      | inr (inl e) ↦ let z : room_for (form_of h.kind) ≡ 2 = rw e refl in let p : spare h.kind ≡ 0 = rw e refl in
          let k : are_kids (level ki.Values h.text) (kid_pieces (form_of ki.Values)) ts ≡ true = rw e at c.kids in
          omega (arith, w, few, s, z, p, first_value (level ki.Values h.text) ts k)
      | inr (inr (inl e)) ↦ let z : room_for (form_of h.kind) ≡ 1 = rw e refl in let p : spare h.kind ≡ 0 = rw e refl in
          let k : are_kids (level ki.ImportPath h.text) (kid_pieces (form_of ki.ImportPath)) ts ≡ true = rw e at c.kids in
          omega (arith, w, few, s, z, p, first_name (level ki.ImportPath h.text) ts k)
      | inr (inr (inr r)) ↦ omega (arith, w, few, s, l, r.room, r.spares_three)
    ]

mutual
  unfolding node_count spell

  small : (f : ℕ) (s : Sort) (t : Node) → is_shaped s t ≡ true → node_count t + spare (head t).kind ≤ weight eight f (spell f t) + absent t
  small f s (branch h ts) e =
      let k = kids_of_shaped s h ts e in
      let a = shaped_kids s h ts e in
      counted f h ts record {
        kids = a;
        weighed = pieces_weight eight f (level h.kind h.text) h (form_of h.kind) ts a;
        few = k.few;
        small =
            all_small f ts k.shaped;
      }

  all_small : (f : ℕ) (ts : Nodes) → AllShaped ts → kid_count ts + spares ts ≤ kids_weight eight f ts + absents ts
  all_small f none a = omega arith
  all_small f (more t ts) a = omega (arith, small f a.0.0 t a.0.1, all_small f ts a.1)

pub shaped_trees_are_small : ShapedTreesAreSmall
shaped_trees_are_small f s t e n =
    let a : absent t ≡ 0 = rw n refl in
    omega (arith, small f s t e, eight_each (spell f t), a)

-- ---- files

-- trees side by side, none of which is absent
side_small : (f : ℕ) (s : Sort) (ts : List Node) → list_all (is_shaped s) ts ≡ true → ((t : Node) → is_shaped s t ≡ true → absent t ≡ 0) →
    kid_count (nodes_of ts) ≤ kids_weight eight f (nodes_of ts)
unfolding node_count
side_small f s [] e r = omega arith
side_small f s (t ∷ ts) e r =
    let p = and_parts (is_shaped s t) (list_all (is_shaped s) ts) e in
    omega (arith, small f s t p.0, r t p.0, side_small f s ts p.1 r)

pub shaped_files_are_small : ShapedFilesAreSmall
shaped_files_are_small t e =
    let p = and_parts (list_all (is_shaped so.Use) t.uses) (list_all (is_shaped so.Decl) t.decls) e in
    let u = side_small t.file so.Use t.uses p.0 (λ x. something so.Use x refl) in
    let d = side_small t.file so.Decl t.decls p.1 (λ x. something so.Decl x refl) in
    let end = word_token t.file tk.End [] ∷ [] in
    let a = length-append (spell_all t.file t.uses) (spell_all t.file t.decls ++ end) in
    let b = length-append (spell_all t.file t.decls) end in
    omega (
      arith,
      u,
      d,
      a,
      b,
      side_weight eight t.file t.uses,
      side_weight eight t.file t.decls,
      eight_each (spell_all t.file t.uses),
      eight_each (spell_all t.file t.decls),
    )
