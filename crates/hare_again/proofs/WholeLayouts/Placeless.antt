-- The ways of tokens do not depend on places.
use Rattle.std.proofs.Common.{◌≡◌, ℕ, ◌+◌, List, [], ◌∷◌, ◌++◌, Bool, true, false, ◌&&◌, map, length, refl, ap, sym, ◌∙◌, if◌then◌else◌}
use Rattle.std.specs.List.{flat_map}
use Rattle.hare_tree.specs.declared.form.Sign.{Sign}
use Rattle.hare_tree.specs.declared.form.Sign.TheVariants as si
use Rattle.hare_tree.specs.declared.form.Own.{Own}
use Rattle.hare_tree.specs.declared.form.Own.TheVariants as ow
use Rattle.hare_tree.specs.declared.form.Piece.{Piece}
use Rattle.hare_tree.specs.declared.form.Piece.TheVariants as pi
use Rattle.hare_tree.specs.declared.form.Lead.TheVariants as le
use Rattle.hare_tree.specs.declared.tree.FileTree.{FileTree}
use Rattle.hare_tree.specs.Node.{Head, Node, Nodes, branch, none, more, head, nodes_of}
use Rattle.hare_tree.specs.Forms.{form_of}
use Rattle.hare_tree.specs.Spell.{Spelled, own_tokens, piece_tokens, left_behind, spells, spell_all}
use Rattle.hare_tree.specs.Shape.{Ending, form_stops, stops, stops_each}
use Rattle.hare_tree.specs.Depth.{begins, begins_in, begins_led, first_number, numbers_behind}
use Rattle.hare_automaton.specs.OneTree.{plain, plains, plain_head}
use Rattle.hare_automaton.proofs.Unambiguous.Places.{spells_plain}
use Rattle.hare_ways.specs.declared.way.Start.TheVariants.{Begins}
use Rattle.hare_ways.specs.declared.breaks.Breaks.{Breaks}
use Rattle.hare_ways.specs.Breaks.{Item, is_fixed, sign_at, is_commented, has_comment, has_case_comment, is_broken, is_list, is_case, has_own_lines, wants_comma, kids_behind, opening, closing, breaks_of}
use Rattle.hare_ways.specs.Ways.{Laid, own_ways, piece_ways, inside_behind, within_brackets, pieces_ways, node_ways, ways, kids_laid, starting, roots_ways, end_way, file_ways}

-- ---- forms

own-tokens-plain : (g : ℕ) (h : Head) (o : Own) → own_tokens 0 (plain_head g h) o ≡ own_tokens 0 h o
own-tokens-plain g h ow.Nothing = refl
own-tokens-plain g h _ = refl

piece-tokens-plain : (g : ℕ) (h : Head) (p : Piece) (us : List Spelled) → piece_tokens 0 (plain_head g h) p us ≡ piece_tokens 0 h p us
piece-tokens-plain g h (pi.Own o) us = own-tokens-plain g h o
piece-tokens-plain g h (pi.Fixed s) us = refl
piece-tokens-plain g h _ us = refl

own-ways-plain : (g : ℕ) (h : Head) (o : Own) → own_ways (plain_head g h) o ≡ own_ways h o
own-ways-plain g h ow.Nothing = refl
own-ways-plain g h _ = refl

piece-ways-plain : (g : ℕ) (h : Head) (b : Breaks) (inside : Bool) (p : Piece) (us : List Laid)
    → piece_ways (plain_head g h) b inside p us ≡ piece_ways h b inside p us
piece-ways-plain g h b inside (pi.Own o) us = own-ways-plain g h o
piece-ways-plain g h b inside (pi.Fixed s) us = refl
piece-ways-plain g h b inside _ us = refl

pieces-ways-plain : (g : ℕ) (h : Head) (b : Breaks) (inside : Bool) (ps : List Piece) (us : List Laid)
    → pieces_ways (plain_head g h) b inside ps us ≡ pieces_ways h b inside ps us
pieces-ways-plain g h b inside [] us = refl
pieces-ways-plain g h b inside (p ∷ ps) us =
    λ i. within_brackets b inside (piece-ways-plain g h b inside p us i)
    ++ pieces-ways-plain g h b (inside_behind b inside p) ps (left_behind p us) i

sign-plain : (s : Sign) (g : ℕ) (h : Head) (ps : List Piece) (n : ℕ) (us : List Spelled) →
    sign_at s (plain_head g h) ps n us ≡ sign_at s h ps n us
sign-plain s g h [] n us = refl
sign-plain s g h (p ∷ ps) n us =
    ap (λ l. if is_fixed s p then n else sign_at s (plain_head g h) ps (n + length l) (left_behind p us)) (piece-tokens-plain g h p us)
    ∙ ap (λ k. if is_fixed s p then n else k) (sign-plain s g h ps (n + length (piece_tokens 0 h p us)) (left_behind p us))

begins-in-plain : (g : ℕ) (h : Head) (p : Piece) (n : ℕ) (us : List Spelled) → begins_in (plain_head g h) p n us ≡ begins_in h p n us
begins-in-plain g h (pi.Fixed s) n us = refl
begins-in-plain g h _ n us = refl

begins-plain : (g : ℕ) (h : Head) (ps : List Piece) (n : ℕ) (us : List Spelled) → begins (plain_head g h) ps n us ≡ begins h ps n us
begins-plain g h [] n us = refl
begins-plain g h (p ∷ ps) n us =
    ap (λ l. begins_in (plain_head g h) p n us ++ begins (plain_head g h) ps (n + length l) (left_behind p us))
    (piece-tokens-plain g h p us)
    ∙ (λ i. begins-in-plain g h p n us i ++ begins-plain g h ps (n + length (piece_tokens 0 h p us)) (left_behind p us) i)

breaks-plain : (cs : List ℕ) (g : ℕ) (h : Head) (n : ℕ) (us : List Spelled) (items : List Item)
    → breaks_of cs (plain_head g h) n us items ≡ breaks_of cs h n us items
breaks-plain cs g h n us items =
    let inside = kids_behind (opening h.kind) (form_of h.kind) items in
    let a : has_comment cs (plain_head g h) n us ≡ has_comment cs h n us =
    λ i. is_commented cs (sign-plain (opening h.kind) g h (form_of h.kind) n us i)
    (sign-plain (closing h.kind) g h (form_of h.kind) n us i) in
    let c : has_case_comment cs (plain_head g h) n us ≡ has_case_comment cs h n us =
    λ i. is_commented cs n (sign-plain si.Arrow g h (form_of h.kind) n us i + 1) in
    λ i. record {
      kind = h.kind;
      brackets = is_broken h.kind inside (a i);
      statements = if is_case h.kind then has_own_lines (kids_behind si.Arrow (form_of h.kind) items) (c i) else is_broken h.kind inside
          (a i);
      comma = is_broken h.kind inside (a i) && is_list h.kind && wants_comma false inside;
    }

-- ---- where trees end

form-stops-plain : (c : Sign) (g : ℕ) (h : Head) (x : Bool) (ps : List Piece) (es : List Ending)
    → form_stops c (plain_head g h) x ps es ≡ form_stops c h x ps es
form-stops-plain c g h x [] es = refl
form-stops-plain c g h x (pi.Fixed s ∷ ps) es = form-stops-plain c g h true ps es
form-stops-plain c g h x (pi.Own o ∷ ps) es = form-stops-plain c g h true ps es
form-stops-plain c g h x (pi.Kid s ∷ ps) [] = refl
form-stops-plain c g h x (pi.Kid s ∷ ps) (e ∷ es) = form-stops-plain c g h e.1 ps es
form-stops-plain c g h x (pi.Optional s ∷ ps) [] = refl
form-stops-plain c g h x (pi.Optional s ∷ ps) (e ∷ es) = form-stops-plain c g h _ ps es
form-stops-plain c g h x (pi.Led a s ∷ ps) [] = refl
form-stops-plain c g h x (pi.Led a s ∷ ps) (e ∷ es) = form-stops-plain c g h _ ps es
form-stops-plain c g h x (pi.Followed s a ∷ ps) [] = refl
form-stops-plain c g h x (pi.Followed s a ∷ ps) (e ∷ es) = form-stops-plain c g h _ ps es
form-stops-plain c g h x (pi.Value s ∷ ps) [] = refl
form-stops-plain c g h x (pi.Value s ∷ ps) (e ∷ es) = form-stops-plain c g h _ ps es
form-stops-plain c g h x (_ ∷ ps) es = refl

mutual
  unfolding stops

  stops-plain : (c : Sign) (g : ℕ) (t : Node) → stops c (plain g t) ≡ stops c t
  stops-plain c g (branch h ts) =
      ap (form_stops c (plain_head g h) true (form_of h.kind)) (each-plain c g ts)
      ∙ form-stops-plain c g h true (form_of h.kind) (stops_each c ts)

  each-plain : (c : Sign) (g : ℕ) (ts : Nodes) → stops_each c (plains g ts) ≡ stops_each c ts
  each-plain c g none = refl
  each-plain c g (more t ts) = λ i. ((kind-plain g t i), stops-plain c g t i) ∷ each-plain c g ts i

  kind-plain : (g : ℕ) (t : Node) → (head (plain g t)).kind ≡ (head t).kind
  kind-plain g (branch h ts) = refl

-- ---- trees

mutual
  unfolding ways

  ways-plain : (cs : List ℕ) (g n : ℕ) (t : Node) → ways cs n (plain g t) ≡ ways cs n t
  ways-plain cs g n (branch h ts) =
      let us = spells 0 ts in
      let ns = begins h (form_of h.kind) n us in
      let kids = kids_laid cs ns ts in
      ap (λ vs. node_ways cs n (plain_head g h) vs (kids_laid cs (begins (plain_head g h) (form_of h.kind) n vs) (plains g ts)))
      (spells_plain 0 g ts)
      ∙ ap (λ ms. node_ways cs n (plain_head g h) us (kids_laid cs ms (plains g ts))) (begins-plain g h (form_of h.kind) n us)
      ∙ ap (node_ways cs n (plain_head g h) us) (laid-plain cs g ns ts)
      ∙ ap (λ b. pieces_ways (plain_head g h) b false (form_of h.kind) kids) (breaks-plain cs g h n us (map (λ u. u.item) kids))
      ∙ pieces-ways-plain g h (breaks_of cs h n us (map (λ u. u.item) kids)) false (form_of h.kind) kids

  laid-plain : (cs : List ℕ) (g : ℕ) (ns : List ℕ) (ts : Nodes) → kids_laid cs ns (plains g ts) ≡ kids_laid cs ns ts
  laid-plain cs g ns none = refl
  laid-plain cs g ns (more t ts) =
      λ i. record {
        item = record { kind = kind-plain g t i; ends = stops-plain si.Comma g t i };
        ways = ways-plain cs g (first_number ns) t
            i;
      }
      ∷ laid-plain cs g (numbers_behind ns) ts i

-- ---- files

nodes-plain : (g : ℕ) (ts : List Node) → nodes_of (map (plain g) ts) ≡ plains g (nodes_of ts)
nodes-plain g [] = refl
nodes-plain g (t ∷ ts) = ap (more (plain g t)) (nodes-plain g ts)

spelled-plain : (g : ℕ) (ts : List Node) → spells 0 (nodes_of (map (plain g) ts)) ≡ spells 0 (nodes_of ts)
spelled-plain g ts = ap (spells 0) (nodes-plain g ts) ∙ spells_plain 0 g (nodes_of ts)

roots-plain : (cs : List ℕ) (g n : ℕ) (ts : List Node) → roots_ways cs n (map (plain g) ts) ≡ roots_ways cs n ts
roots-plain cs g n ts =
    let rooted = λ (ks : List Laid). flat_map (λ (u : Laid). starting Begins u.ways) ks in
    let ns = begins_led le.Nothing n (spells 0 (nodes_of ts)) in
    ap (λ us. rooted (kids_laid cs (begins_led le.Nothing n us) (nodes_of (map (plain g) ts)))) (spelled-plain g ts)
    ∙ ap (λ vs. rooted (kids_laid cs ns vs)) (nodes-plain g ts)
    ∙ ap rooted (laid-plain cs g ns (nodes_of ts))

-- two lists of trees that are equal but for places
abbrev pub AreLike : List Node → List Node → Type 0
AreLike ts us = map (plain 0) ts ≡ map (plain 0) us

roots-like : (cs : List ℕ) (n : ℕ) (ts us : List Node) → AreLike ts us → roots_ways cs n ts ≡ roots_ways cs n us
roots-like cs n ts us e = sym (roots-plain cs 0 n ts) ∙ ap (roots_ways cs n) e ∙ roots-plain cs 0 n us

pub all-like : (ts us : List Node) → AreLike ts us → spell_all 0 ts ≡ spell_all 0 us
all-like ts us e =
    ap (λ vs. flat_map (λ (u : Spelled). u.1) vs) (sym (spelled-plain 0 ts) ∙ ap (λ l. spells 0 (nodes_of l)) e ∙ spelled-plain 0 us)

pub files-like : (cs : List ℕ) (t u : FileTree) → AreLike t.uses u.uses → AreLike t.decls u.decls → file_ways cs t ≡ file_ways cs u
files-like cs t u a b =
    ap (λ ws. ws ++ (roots_ways cs (length (spell_all 0 t.uses)) t.decls ++ end_way ∷ [])) (roots-like cs 0 t.uses u.uses a)
    ∙ ap (λ l. roots_ways cs 0 u.uses ++ (roots_ways cs (length l) t.decls ++ end_way ∷ [])) (all-like t.uses u.uses a)
    ∙ ap (λ ws. roots_ways cs 0 u.uses ++ (ws ++ end_way ∷ [])) (roots-like cs (length (spell_all 0 u.uses)) t.decls u.decls b)
