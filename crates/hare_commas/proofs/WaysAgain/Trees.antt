-- The ways of a tree again, where the commas that are added stand in the tree.
use Rattle.std.proofs.Common.{◌≡◌, ℕ, ◌+◌, List, [], ◌∷◌, ◌++◌, ◌⊎◌, inl, inr, Bool, true, false, ◌&&◌, map, length, drop, refl, sym, ap, ◌∙◌, subst, arith, length-append, append_assoc, if◌then◌else◌}
use Rattle.std.proofs.lemmas.List.{length-map}
use Rattle.std.specs.Prelude.{◌||◌, not}
use Rattle.hare_tree.specs.declared.kind.Kind.{Kind}
use Rattle.hare_tree.specs.declared.kind.Kind.TheVariants as ki
use Rattle.hare_tree.specs.declared.form.Sign.{Sign}
use Rattle.hare_tree.specs.declared.form.Sign.TheVariants as si
use Rattle.hare_tree.specs.declared.form.Piece.{Piece}
use Rattle.hare_tree.specs.declared.form.Piece.TheVariants as pi
use Rattle.hare_tree.specs.Node.{Head, Node, Nodes, branch, none, more, head}
use Rattle.hare_tree.specs.Signs.{is_sign}
use Rattle.hare_tree.specs.Forms.{form_of}
use Rattle.hare_tree.specs.Shape.{Ending, form_stops, stops, stops_each}
use Rattle.hare_tree.specs.declared.token.Token.{Token}
use Rattle.hare_tree.specs.Spell.{sign_token, pieces_tokens, spell, spells}
use Rattle.hare_tree.specs.Judged.{nodes_from}
use Rattle.hare_ways.specs.declared.way.Start.{Start}
use Rattle.hare_ways.specs.declared.way.Way.{Way}
use Rattle.hare_ways.specs.declared.breaks.Breaks.{Breaks}
use Rattle.hare_ways.specs.declared.part.Part.{Part}
use Rattle.hare_ways.specs.Breaks.{Item, is_list, is_case, is_struct, is_nil, is_broken, ends_in_comma, wants_comma, has_comment, opening, closing, kids_behind, breaks_of}
use Rattle.hare_ways.specs.Ways.{ways, deeper, sign_way, closing_way, item_start, within_brackets}
use Rattle.hare_ways.specs.Parts.{part_of, part_tokens, nodes_behind, items_of}
use Rattle.hare_ways.specs.Walk.{start_of, part_ways, inside_behind_part, pieces_walk}
use Rattle.hare_ways.proofs.Walked.{tree-walk}
use Rattle.hare_commas.specs.Commas.{comma_way, with_commas, tokens_with}
use Rattle.hare_commas.proofs.AddedCommas.Spread.{add-zero, spread-left, spread-next, with_commas-append}
use Rattle.hare_commas.specs.Commas.{AreSpread}
use Rattle.hare_commas.proofs.AddedCommas.Flags.{with_commas-deeper, spread-deeper}
use Rattle.hare_commas.proofs.WaysAgain.Kin.{Kin, kin-same, kin-items, Ended, kin-ended, behind-ended, ended-comma, ended-wants}
use Rattle.hare_commas.proofs.WaysAgain.Kids.{Again, IsAgain, AreAgain, row-comma, listed-comma}
use Rattle.hare_commas.proofs.AddedCommas.Tokens.{with-append, with-deeper}
use Rattle.hare_commas.proofs.WaysAgain.Parts.{quiet, part-length}
use Rattle.hare_commas.proofs.WaysAgain.Pieces.{nodes_after, within-length, has_sign, SignAgain, pieces-first, pieces-again}
use Rattle.hare_commas.proofs.WaysAgain.Pieces.{areagain-behind}
use Rattle.hare_commas.proofs.WaysAgain.ListForms.{list_part, inside_after, list_kids, Wants, ListForm, list-form, list-is-no-case}
use Rattle.hare_commas.proofs.WaysAgain.ListForms.{list-is-not-braced, EndsOpen, TakeSigns, IsRegular, AreRegular, ends-in-nothing}
use Rattle.hare_commas.proofs.WaysAgain.ListForms.{list-ends-in-nothing}
use Rattle.hare_commas.proofs.WaysAgain.Comments.{broken-same, own-lines-same}

true-false : {A : Type 0} → true ≡ false → A
true-false h = cc

false-true : {A : Type 0} → false ≡ true → A
false-true h = cc

-- ---- where a tree ends

item_ending : Item → Ending
item_ending i = (i.kind, i.ends)

endings : (ts : Nodes) → stops_each si.Comma ts ≡ map item_ending (items_of ts)
unfolding stops item_ending
endings none = refl
endings (more t ts) = ap (λ es. ((head t).kind, stops si.Comma t) ∷ es) (endings ts)

stops-kids : (h : Head) (ts : Nodes) → stops si.Comma (branch h ts) ≡
    form_stops si.Comma h true (form_of h.kind) (map item_ending (items_of ts))
unfolding stops
stops-kids h ts = ap (form_stops si.Comma h true (form_of h.kind)) (endings ts)

-- a list closes, whatever stands in it
pub list-stops : (k : Kind) → is_list k ≡ true → (c : Sign) (h : Head) (es : List Ending) → form_stops c h true (form_of k) es ≡ true
list-stops ki.Params e c h es = refl
list-stops ki.Call e c h [] = refl
list-stops ki.Call e c h (x ∷ es) = refl
list-stops ki.StructLit e c h [] = refl
list-stops ki.StructLit e c h (x ∷ []) = refl
list-stops ki.StructLit e c h (x ∷ y ∷ es) = refl
list-stops ki.Tuple e c h [] = refl
list-stops ki.Tuple e c h (x ∷ []) = refl
list-stops ki.Tuple e c h (x ∷ y ∷ es) = refl
list-stops ki.TypeTuple e c h [] = refl
list-stops ki.TypeTuple e c h (x ∷ []) = refl
list-stops ki.TypeTuple e c h (x ∷ y ∷ es) = refl
list-stops ki.Array e c h es = refl
list-stops ki.UseNames e c h [] = refl
list-stops ki.UseNames e c h (x ∷ []) = refl
list-stops ki.UseNames e c h (x ∷ y ∷ es) = refl
list-stops ki.TypeStruct e c h [] = refl
list-stops ki.TypeStruct e c h (x ∷ es) = refl
list-stops _ e c h es = false-true e

-- ---- no comma is added

-- how the tree is broken, without a comma that is added
abbrev settled_breaks : List ℕ → Head → ℕ → Nodes → Breaks
settled_breaks cs h n ts = breaks_of cs h n (spells 0 ts) (items_of ts)

statements-by : (c x y o p : Bool) → (c ≡ true → o ≡ p) → x ≡ y → (if c then o else x) ≡ (if c then p else y)
statements-by true x y o p f e = f refl
statements-by false x y o p f e = e

breaks-kept : (cs ds : List ℕ) (h : Head) (n m : ℕ) (ts kids : Nodes) → (settled_breaks cs h n ts).comma ≡ false
    → (is_case h.kind ≡ true → TakeSigns (nodes_from 1 ts)) → items_of kids ≡ items_of ts
    → AreSpread (pieces_walk cs h (settled_breaks cs h n ts) false (form_of h.kind) n ts) (drop n cs) (drop m ds)
    → ((s : Sign) → has_sign s (form_of h.kind) ≡ true
    → SignAgain cs h (settled_breaks cs h n ts) false (form_of h.kind) n m ts kids s)
    → breaks_of ds h m (spells 0 kids) (items_of kids) ≡ quiet (settled_breaks cs h n ts)
breaks-kept cs ds h n m ts kids e t i x f =
    let b = settled_breaks cs h n ts in
    let inside = kids_behind (opening h.kind) (form_of h.kind) (items_of ts) in
    let brackets = broken-same cs ds h b n m ts kids x f inside in
    let statements = statements-by (is_case h.kind) _ _ _ _ (λ c. own-lines-same cs ds h b n m ts kids x f c (t c)) brackets in
    let comma = ap (λ x. x && is_list h.kind && wants_comma false inside) brackets ∙ e in
    ap (λ is. breaks_of ds h m (spells 0 kids) is) i
    ∙ (λ j. record { kind = h.kind; brackets = brackets j; statements = statements j; comma = comma j })

tokens-of : (h : Head) (ts : Nodes) → spell 0 (branch h ts) ≡ pieces_tokens 0 h (form_of h.kind) (spells 0 ts)
unfolding spell
tokens-of h ts = refl

quiet-tree : (cs ds : List ℕ) (h : Head) (n m : ℕ) (ts : Nodes) → (settled_breaks cs h n ts).comma ≡ false
    → (is_case h.kind ≡ true → TakeSigns (nodes_from 1 ts)) → AreAgain cs ds ts
    → AreSpread (ways cs n (branch h ts)) (drop n cs) (drop m ds) → Again cs ds n m (branch h ts)
quiet-tree cs ds h n m ts e t f x =
    let b = settled_breaks cs h n ts in
    let walk = tree-walk cs n (branch h ts) in
    let spread = subst (λ ws. AreSpread ws (drop n cs) (drop m ds)) walk x in
    let a = pieces-again cs ds h b false (form_of h.kind) n m ts (nodes_after (form_of h.kind) h.text ts) (inl e) f (λ p. p) spread in
    let kin = a.kin false (kin-same (nodes_after (form_of h.kind) h.text ts)) in
    let items = kin-items ts a.kids kin in
    let ends : stops si.Comma (branch h a.kids) ≡ stops si.Comma (branch h ts) =
    stops-kids h a.kids ∙ ap (λ is. form_stops si.Comma h true (form_of h.kind) (map item_ending is)) items ∙ sym (stops-kids h ts) in
    record {
      tree = branch h a.kids;
      item = ap (λ o. record { kind = h.kind; ends = o }) ends;
      adds = (refl, inl kin);
      ways_are = tree-walk ds m (branch h a.kids)
          ∙ ap (λ y. pieces_walk ds h y false (form_of h.kind) m a.kids) (breaks-kept cs ds h n m ts a.kids e t items spread a.signs)
          ∙ a.ways_are ∙ ap with_commas (sym walk);
      spelled = tokens-of h a.kids ∙ a.spelled ∙ ap (λ ws. tokens_with ws (pieces_tokens 0 h (form_of h.kind) (spells 0 ts))) (sym walk)
          ∙ ap (tokens_with (ways cs n (branch h ts))) (sym (tokens-of h ts));
    }

-- ---- the pieces of a form, cut in two

add-three : (n a b c d : ℕ) → b ≡ a → d ≡ b + c → n + a + c ≡ n + d
add-three n a b c d e f = omega (arith, e, f)

walk-append : (cs : List ℕ) (h : Head) (b : Breaks) (inside : Bool) (ps qs : List Piece) (n : ℕ) (ts : Nodes)
    → pieces_walk cs h b inside (ps ++ qs) n ts
    ≡ pieces_walk cs h b inside ps n ts
    ++ pieces_walk cs h b (inside_after b inside h.text ps) qs (n + length (pieces_walk cs h b inside ps n ts)) (nodes_after ps h.text ts)
walk-append cs h b inside [] qs n ts = ap (λ k. pieces_walk cs h b inside qs k ts) (add-zero n)
walk-append cs h b inside (p ∷ ps) qs n ts =
    let q = part_of p h.text in
    let u = part_ways cs h b inside (start_of b inside p) q n ts in
    let v = within_brackets b inside u in
    let i = inside_behind_part b inside q in
    let rest = pieces_walk cs h b i ps (n + length u) (nodes_behind q ts) in
    let others = λ (k : ℕ). pieces_walk cs h b (inside_after b i h.text ps) qs k (nodes_after ps h.text (nodes_behind q ts)) in
    ap (λ ws. v ++ ws) (walk-append cs h b i ps qs (n + length u) (nodes_behind q ts))
    ∙ ap (λ k. v ++ (rest ++ others k)) (add-three n (length u) (length v) (length rest) (length (v ++ rest)) (within-length b inside u)
    (length-append v rest))
    ∙ sym (append_assoc v rest (others (n + length (v ++ rest))))

tokens-append : (h : Head) (ps qs : List Piece) (ts : Nodes)
    → pieces_tokens 0 h (ps ++ qs) (spells 0 ts)
    ≡ pieces_tokens 0 h ps (spells 0 ts) ++ pieces_tokens 0 h qs (spells 0 (nodes_after ps h.text ts))
tokens-append h [] qs ts = refl
tokens-append h (p ∷ ps) qs ts =
    let rest = nodes_behind (part_of p h.text) ts in
    let one = part_tokens h (part_of p h.text) (spells 0 ts) in
    pieces-first h p (ps ++ qs) ts rest refl
    ∙ ap (λ x. one ++ x) (tokens-append h ps qs rest)
    ∙ sym (append_assoc one (pieces_tokens 0 h ps (spells 0 rest)) (pieces_tokens 0 h qs (spells 0 (nodes_after ps h.text rest))))
    ∙ ap (λ x. x ++ pieces_tokens 0 h qs (spells 0 (nodes_after ps h.text rest))) (sym (pieces-first h p ps ts rest refl))

walk-length : (cs : List ℕ) (h : Head) (b : Breaks) (inside : Bool) (ps : List Piece) (n : ℕ) (ts : Nodes)
    → length (pieces_walk cs h b inside ps n ts) ≡ length (pieces_tokens 0 h ps (spells 0 ts))
walk-length cs h b inside [] n ts = refl
walk-length cs h b inside (p ∷ ps) n ts =
    let q = part_of p h.text in
    let u = part_ways cs h b inside (start_of b inside p) q n ts in
    let v = pieces_walk cs h b (inside_behind_part b inside q) ps (n + length u) (nodes_behind q ts) in
    let others = pieces_tokens 0 h ps (spells 0 (nodes_behind q ts)) in
    omega (
      arith,
      length-append (within_brackets b inside u) v,
      within-length b inside u,
      part-length cs h b inside (start_of b inside p) q n ts,
      walk-length cs h b (inside_behind_part b inside q) ps (n + length u) (nodes_behind q ts),
      ap length (pieces-first h p ps ts (nodes_behind q ts) refl),
      length-append (part_tokens h q (spells 0 ts)) others,
    )

again-after : (cs ds : List ℕ) (ps : List Piece) (text : List ℕ) (ts : Nodes) → AreAgain cs ds ts → AreAgain cs ds (nodes_after ps text ts)
again-after cs ds [] text ts f = f
again-after cs ds (p ∷ ps) text ts f = again-after cs ds ps text (nodes_behind (part_of p text) ts)
    (areagain-behind cs ds (part_of p text) ts f)

-- ---- a list and its closing bracket

-- broken, as a form of the kind is whose list is broken, with a comma that is added or not
abbrev broken : Kind → Bool → Breaks
broken k x = record { kind = k; brackets = true; statements = true; comma = x }

-- the ways of what stands behind the closing bracket
abbrev behind_ways : Kind → Bool → List Way
behind_ways k true = sign_way k si.Semicolon ∷ []
behind_ways k false = []

abbrev behind_pieces : Bool → List Piece
behind_pieces true = pi.Fixed si.Semicolon ∷ []
behind_pieces false = []

behind-walk : (cs : List ℕ) (h : Head) (x c : Bool) (n : ℕ) (ts : Nodes)
    → pieces_walk cs h (broken h.kind x) false (behind_pieces c) n ts ≡ behind_ways h.kind c
behind-walk cs h x true n ts = refl
behind-walk cs h x false n ts = refl

closing-walk : (cs : List ℕ) (h : Head) (x c : Bool) (s : Sign) (n : ℕ) (ts : Nodes) → is_sign s (closing h.kind) ≡ true
    → pieces_walk cs h (broken h.kind x) true (pi.Fixed s ∷ behind_pieces c) n ts
    ≡ deeper (closing_way (broken h.kind x) s) ∷ behind_ways h.kind c
closing-walk cs h x c s n ts e =
    ap (λ o. within_brackets (broken h.kind x) true ((if o then closing_way (broken h.kind x) s else sign_way h.kind s) ∷ [])
    ++ pieces_walk cs h (broken h.kind x) (not o) (behind_pieces c) (n + 1) ts) e
    ∙ ap (λ ws. deeper (closing_way (broken h.kind x) s) ∷ ws) (behind-walk cs h x c (n + 1) ts)

list-walk-by : (cs : List ℕ) (h : Head) (x c o : Bool) (s : Sign) (n : ℕ) (ts : Nodes) → is_sign s (closing h.kind) ≡ true
    → within_brackets (broken h.kind x) true (part_ways cs h (broken h.kind x) true (item_start (broken h.kind x) true) (list_part o) n ts)
    ++ pieces_walk cs h (broken h.kind x) (inside_behind_part (broken h.kind x) true (list_part o)) (pi.Fixed s ∷ behind_pieces c)
    (n + length (part_ways cs h (broken h.kind x) true (item_start (broken h.kind x) true) (list_part o) n ts))
    (nodes_behind (list_part o) ts)
    ≡ map deeper (part_ways cs h (broken h.kind x) true (item_start (broken h.kind x) true) (list_part o) n ts)
    ++ deeper (closing_way (broken h.kind x) s) ∷ behind_ways h.kind c
list-walk-by cs h x c true s n ts e =
    ap (λ ws. map deeper (part_ways cs h (broken h.kind x) true (item_start (broken h.kind x) true) (list_part true) n ts) ++ ws)
    (closing-walk cs h x c s _ _ e)
list-walk-by cs h x c false s n ts e =
    ap (λ ws. map deeper (part_ways cs h (broken h.kind x) true (item_start (broken h.kind x) true) (list_part false) n ts) ++ ws)
    (closing-walk cs h x c s _ _ e)

list-walk : (cs : List ℕ) (h : Head) (x c o : Bool) (last : Piece) (s : Sign) (n : ℕ) (ts : Nodes) → is_sign s (closing h.kind) ≡ true
    → part_of last h.text ≡ list_part o → start_of (broken h.kind x) true last ≡ item_start (broken h.kind x) true
    → pieces_walk cs h (broken h.kind x) true (last ∷ pi.Fixed s ∷ behind_pieces c) n ts
    ≡ map deeper (part_ways cs h (broken h.kind x) true (item_start (broken h.kind x) true) (list_part o) n ts)
    ++ deeper (closing_way (broken h.kind x) s) ∷ behind_ways h.kind c
list-walk cs h x c o last s n ts e p q =
    let b = broken h.kind x in
    let walk = λ (t : Start) (r : Part). within_brackets b true (part_ways cs h b true t r n ts)
    ++ pieces_walk cs h b (inside_behind_part b true r) (pi.Fixed s ∷ behind_pieces c) (n + length (part_ways cs h b true t r n ts))
    (nodes_behind r ts) in
    ap (λ t. walk t (part_of last h.text)) q ∙ ap (walk (item_start b true)) p ∙ list-walk-by cs h x c o s n ts e

-- ---- and their tokens

abbrev behind_tokens : Bool → List Token
behind_tokens true = sign_token 0 si.Semicolon ∷ []
behind_tokens false = []

behind-tokens : (h : Head) (c : Bool) (ts : Nodes) → pieces_tokens 0 h (behind_pieces c) (spells 0 ts) ≡ behind_tokens c
behind-tokens h true ts = refl
behind-tokens h false ts = refl

list-tokens : (h : Head) (c o : Bool) (last : Piece) (s : Sign) (ts : Nodes) → part_of last h.text ≡ list_part o
    → pieces_tokens 0 h (last ∷ pi.Fixed s ∷ behind_pieces c) (spells 0 ts)
    ≡ part_tokens h (list_part o) (spells 0 ts) ++ sign_token 0 s ∷ behind_tokens c
list-tokens h c o last s ts e =
    let rest = nodes_behind (part_of last h.text) ts in
    pieces-first h last (pi.Fixed s ∷ behind_pieces c) ts rest refl
    ∙ ap (λ q. part_tokens h q (spells 0 ts) ++ sign_token 0 s ∷ pieces_tokens 0 h (behind_pieces c) (spells 0 rest)) e
    ∙ ap (λ x. part_tokens h (list_part o) (spells 0 ts) ++ sign_token 0 s ∷ x) (behind-tokens h c rest)

behind-with : (k : Kind) (c : Bool) → tokens_with (behind_ways k c) (behind_tokens c) ≡ behind_tokens c
behind-with k true = refl
behind-with k false = refl

-- the tokens of the list again, with the comma
list-spelled : (k : Kind) (c : Bool) (s : Sign) (old : List Way) (ts new : List Token) → length old ≡ length ts
    → new ≡ tokens_with old ts ++ sign_token 0 si.Comma ∷ []
    → new ++ sign_token 0 s ∷ behind_tokens c
    ≡ tokens_with (map deeper old ++ deeper (closing_way (broken k true) s) ∷ behind_ways k c) (ts ++ sign_token 0 s ∷ behind_tokens c)
list-spelled k c s old ts new l e =
    let close = deeper (closing_way (broken k true) s) ∷ behind_ways k c in
    let end = sign_token 0 s ∷ behind_tokens c in
    ap (λ x. x ++ end) e
    ∙ append_assoc (tokens_with old ts) (sign_token 0 si.Comma ∷ []) end
    ∙ ap (λ x. tokens_with old ts ++ sign_token 0 si.Comma ∷ sign_token 0 s ∷ x) (sym (behind-with k c))
    ∙ ap (λ x. x ++ tokens_with close end) (sym (with-deeper old ts))
    ∙ sym (with-append (map deeper old) close ts end (length-map old deeper ∙ l))

behind-settled : (k : Kind) (c : Bool) → with_commas (behind_ways k c) ≡ behind_ways k c
behind-settled k true = refl
behind-settled k false = refl

map-append : (u v : List Way) → map deeper (u ++ v) ≡ map deeper u ++ map deeper v
map-append [] v = refl
map-append (w ∷ u) v = ap (λ l. deeper w ∷ l) (map-append u v)

-- what is laid out between the brackets again, with the comma
list-again : (k : Kind) (c : Bool) (s : Sign) (old new : List Way) → new ≡ with_commas old ++ comma_way 0 ∷ []
    → map deeper new ++ deeper (closing_way (broken k false) s) ∷ behind_ways k c
    ≡ with_commas (map deeper old ++ deeper (closing_way (broken k true) s) ∷ behind_ways k c)
list-again k c s old new e =
    let close = deeper (closing_way (broken k false) s) in
    let behind = behind_ways k c in
    ap (λ u. map deeper u ++ close ∷ behind) e
    ∙ ap (λ u. u ++ close ∷ behind) (map-append (with_commas old) (comma_way 0 ∷ []))
    ∙ append_assoc (map deeper (with_commas old)) (comma_way 1 ∷ []) (close ∷ behind)
    ∙ ap (λ u. u ++ comma_way 1 ∷ close ∷ behind) (sym (with_commas-deeper old))
    ∙ ap (λ u. with_commas (map deeper old) ++ comma_way 1 ∷ close ∷ u) (sym (behind-settled k c))
    ∙ sym (with_commas-append (map deeper old) (deeper (closing_way (broken k true) s) ∷ behind))

-- the kids of the list again
record ListAgain (cs ds : List ℕ) (h : Head) (o : Bool) (n m : ℕ) (ts : Nodes) : Type 0 where
  kids : Nodes
  kin : Kin true ts kids
  ways_are : part_ways ds h (broken h.kind false) true (item_start (broken h.kind false) true) (list_part o) m kids
      ≡ with_commas (part_ways cs h (broken h.kind true) true (item_start (broken h.kind true) true) (list_part o) n ts) ++ comma_way 0 ∷ []
  spelled : part_tokens h (list_part o) (spells 0 kids)
      ≡ tokens_with (part_ways cs h (broken h.kind true) true (item_start (broken h.kind true) true) (list_part o) n ts)
      (part_tokens h (list_part o) (spells 0 ts)) ++ sign_token 0 si.Comma ∷ []

list-kids : (cs ds : List ℕ) (h : Head) (o : Bool) (n m : ℕ) (ts : Nodes) → EndsOpen ts → Wants o ts → AreAgain cs ds ts
    → AreSpread (part_ways cs h (broken h.kind true) true (item_start (broken h.kind true) true) (list_part o) n ts) (drop n cs) (drop m ds)
    → ListAgain cs ds h o n m ts
list-kids cs ds h true n m ts p w f x =
    let a = listed-comma cs ds h.kind (item_start (broken h.kind true) true) n m ts
    (list-ends-in-nothing ts p (subst (λ y. wants_comma y (items_of ts) ≡ true) (w.none_before refl) w.wants)) f x in
    record { kids = a.kids; kin = a.kin; ways_are = a.ways_are; spelled = a.spelled }
list-kids cs ds h false n m ts p w f x =
    let a = row-comma cs ds h.kind (item_start (broken h.kind true) true) n m ts (ends-in-nothing ts w.before p w.wants) f x in
    record { kids = a.kids; kin = a.kin; ways_are = a.ways_are; spelled = a.spelled }

-- ---- a comma is added

all-three : (x y z : Bool) → (x && y && z) ≡ true → (x ≡ true) × (y ≡ true) × (z ≡ true)
all-three true true z h = (refl, refl, h)
all-three true false z h = false-true h
all-three false y z h = false-true h

not-all : (x y z : Bool) → z ≡ false → (x && y && z) ≡ false
not-all true true z h = h
not-all true false z h = refl
not-all false y z h = refl

or-middle : (x y z : Bool) → y ≡ true → (x || y || z) ≡ true
or-middle true y z h = refl
or-middle false true z h = refl
or-middle false false z h = false-true h

list-broken : (k : Kind) (is : List Item) (x : Bool) → is_list k ≡ true → ends_in_comma is ≡ true → is_broken k is x ≡ true
list-broken k is x e f =
    ap (λ c. if c then not (is_nil is) || x else if is_list k then is_struct k || ends_in_comma is || x else false) (list-is-not-braced k e)
    ∙ ap (λ c. if c then is_struct k || ends_in_comma is || x else false) e ∙ or-middle (is_struct k) (ends_in_comma is) x f

no-statements : (c o x : Bool) → c ≡ false → x ≡ true → (if c then o else x) ≡ true
no-statements true o x e f = true-false e
no-statements false o x e f = f

-- the form is broken, and a comma is added
broken-now : (cs : List ℕ) (h : Head) (n : ℕ) (ts : Nodes) → (settled_breaks cs h n ts).comma ≡ true
    → settled_breaks cs h n ts ≡ broken h.kind true
broken-now cs h n ts e =
    let all = all-three (settled_breaks cs h n ts).brackets (is_list h.kind) _ e in
    let statements = no-statements (is_case h.kind) _ _ (list-is-no-case h.kind all.1) all.0 in
    λ j. record { kind = h.kind; brackets = all.0 j; statements = statements j; comma = e j }

inside-of : (is us : List Item) → Ended is us ⊎ (is ≡ []) → wants_comma false is ≡ true → Ended is us
inside-of is us (inl h) w = h
inside-of is us (inr e) w = false-true (ap (wants_comma false) (sym e) ∙ w)

inside-ended : (k : Kind) (ts us : List Item) → Ended ts us → wants_comma false (kids_behind (opening k) (form_of k) ts) ≡ true
    → Ended (kids_behind (opening k) (form_of k) ts) (kids_behind (opening k) (form_of k) us)
inside-ended k ts us h w = inside-of _ _ (behind-ended (opening k) (form_of k) ts us h) w

-- the same again, and the comma stands there
broken-again : (ds : List ℕ) (h : Head) (m : ℕ) (ts kids : Nodes) → is_list h.kind ≡ true → Kin true ts kids
    → wants_comma false (kids_behind (opening h.kind) (form_of h.kind) (items_of ts)) ≡ true
    → breaks_of ds h m (spells 0 kids) (items_of kids) ≡ broken h.kind false
broken-again ds h m ts kids e k w =
    let inside = kids_behind (opening h.kind) (form_of h.kind) (items_of kids) in
    let ended = inside-ended h.kind (items_of ts) (items_of kids) (kin-ended ts kids k) w in
    let brackets = list-broken h.kind inside (has_comment ds h m (spells 0 kids)) e (ended-comma _ inside ended) in
    let statements = no-statements (is_case h.kind) _ _ (list-is-no-case h.kind e) brackets in
    let comma = not-all (is_broken h.kind inside (has_comment ds h m (spells 0 kids))) (is_list h.kind) _
    (ended-wants _ inside false ended) in
    λ j. record { kind = h.kind; brackets = brackets j; statements = statements j; comma = comma j }

more-none : {A : Type 0} (t : Node) (ts : Nodes) → more t ts ≡ none → A
more-none t ts e = cc

no-kids-end : (ts kids : Nodes) → Kin true ts kids → ts ≡ none → kids ≡ none
no-kids-end none none k e = refl
no-kids-end none (more u us) k e = absurd k
no-kids-end (more t ts) kids k e = more-none t ts e

-- the ways of the tree, cut behind the pieces in front of its list
record IsCut (cs : List ℕ) (h : Head) (x : Bool) (o c : Bool) (front : List Piece) (n : ℕ) (ts : Nodes) : Type 0 where
  walk : pieces_walk cs h (broken h.kind x) false (form_of h.kind) n ts
      ≡ pieces_walk cs h (broken h.kind x) false front n ts
      ++ (map deeper (part_ways cs h (broken h.kind x) true (item_start (broken h.kind x) true) (list_part o)
      (n + length (pieces_walk cs h (broken h.kind x) false front n ts)) (nodes_after front h.text ts))
      ++ deeper (closing_way (broken h.kind x) (closing h.kind)) ∷ behind_ways h.kind c)

cut-walk : (cs : List ℕ) (h : Head) (x c : Bool) (f : ListForm h.kind) (n : ℕ) (ts : Nodes) → f.behind ≡ behind_pieces c
    → IsCut cs h x f.listed c f.front n ts
cut-walk cs h x c f n ts e =
    let b = broken h.kind x in
    let front = pieces_walk cs h b false f.front n ts in
    let rest = nodes_after f.front h.text ts in
    let k = n + length front in
    record {
      walk = ap (λ ps. pieces_walk cs h b false ps n ts) (f.form_is ∙ ap (λ ps. f.front ++ f.last ∷ pi.Fixed (closing h.kind) ∷ ps) e)
          ∙ walk-append cs h b false f.front (f.last ∷ pi.Fixed (closing h.kind) ∷ behind_pieces c) n ts
          ∙ ap (λ i. front ++ pieces_walk cs h b i (f.last ∷ pi.Fixed (closing h.kind) ∷ behind_pieces c) k rest)
          (f.opens true true x h.text)
          ∙ ap (λ ws. front ++ ws)
          (list-walk cs h x c f.listed f.last (closing h.kind) k rest f.closed (f.part_is h.text) (f.starts b));
    }

-- the tokens of the tree, cut there too
cut-tokens : (h : Head) (c : Bool) (f : ListForm h.kind) (ts rest : Nodes) → f.behind ≡ behind_pieces c →
    nodes_after f.front h.text ts ≡ rest
    → spell 0 (branch h ts)
    ≡ pieces_tokens 0 h f.front (spells 0 ts)
    ++ (part_tokens h (list_part f.listed) (spells 0 rest) ++ sign_token 0 (closing h.kind) ∷ behind_tokens c)
cut-tokens h c f ts rest e k =
    let front = pieces_tokens 0 h f.front (spells 0 ts) in
    tokens-of h ts
    ∙ ap (λ ps. pieces_tokens 0 h ps (spells 0 ts)) (f.form_is ∙ ap (λ ps. f.front ++ f.last ∷ pi.Fixed (closing h.kind) ∷ ps) e)
    ∙ tokens-append h f.front (f.last ∷ pi.Fixed (closing h.kind) ∷ behind_pieces c) ts
    ∙ ap (λ us. front ++ pieces_tokens 0 h (f.last ∷ pi.Fixed (closing h.kind) ∷ behind_pieces c) (spells 0 us)) k
    ∙ ap (λ x. front ++ x) (list-tokens h c f.listed f.last (closing h.kind) rest (f.part_is h.text))

which-behind : (ps : List Piece) → (ps ≡ []) ⊎ (ps ≡ pi.Fixed si.Semicolon ∷ []) → (c : Bool) × (ps ≡ behind_pieces c)
which-behind ps (inl e) = (false, e)
which-behind ps (inr e) = (true, e)

comma-tree : (cs ds : List ℕ) (h : Head) (n m : ℕ) (ts : Nodes) → (settled_breaks cs h n ts).comma ≡ true
    → (is_list h.kind ≡ true → EndsOpen (list_kids h.kind ts)) → AreAgain cs ds ts
    → AreSpread (ways cs n (branch h ts)) (drop n cs) (drop m ds) → Again cs ds n m (branch h ts)
comma-tree cs ds h n m ts e p g x =
    let all = all-three (settled_breaks cs h n ts).brackets (is_list h.kind) _ e in
    let f = list-form h.kind all.1 in
    let c = which-behind f.behind f.behind_is in
    let bt = broken h.kind true in
    let bf = broken h.kind false in
    let front = pieces_walk cs h bt false f.front n ts in
    let rest = nodes_after f.front h.text ts in
    let k = n + length front in
    let old = part_ways cs h bt true (item_start bt true) (list_part f.listed) k rest in
    let close = deeper (closing_way bt (closing h.kind)) ∷ behind_ways h.kind c.0 in
    let walk : ways cs n (branch h ts) ≡ front ++ (map deeper old ++ close) =
    tree-walk cs n (branch h ts) ∙ ap (λ b. pieces_walk cs h b false (form_of h.kind) n ts) (broken-now cs h n ts e)
    ∙ (cut-walk cs h true c.0 f n ts c.1).walk in
    let spread = subst (λ ws. AreSpread ws (drop n cs) (drop m ds)) walk x in
    let j = m + length (with_commas front) in
    let behind = spread-left (map deeper old) close (drop k cs) (drop j ds)
    (spread-next front (map deeper old ++ close) n m cs ds spread) in
    let l = list-kids cs ds h f.listed k j rest (subst EndsOpen (sym (f.left h.text ts)) (p all.1))
    (subst (Wants f.listed) (sym (f.left h.text ts)) (f.wants ts all.2)) (again-after cs ds f.front h.text ts g)
    (spread-deeper old (drop k cs) (drop j ds) behind) in
    let a = pieces-again cs ds h bt false f.front n m ts l.kids (inr (f.calm true true true h.text)) g (no-kids-end rest l.kids l.kin)
    (spread-left front (map deeper old ++ close) (drop n cs) (drop m ds) spread) in
    let kin = a.kin true l.kin in
    let tokens = pieces_tokens 0 h f.front (spells 0 ts) in
    let items = part_tokens h (list_part f.listed) (spells 0 rest) in
    let end = sign_token 0 (closing h.kind) ∷ behind_tokens c.0 in
    let again = λ (ws : List Way) (us : Nodes). ws ++
    (map deeper (part_ways ds h bf true (item_start bf true) (list_part f.listed) (m + length ws) us)
    ++ deeper (closing_way bf (closing h.kind)) ∷ behind_ways h.kind c.0) in
    record {
      tree = branch h a.kids;
      item = ap (λ o. record { kind = h.kind; ends = o })
          (stops-kids h a.kids ∙ list-stops h.kind all.1 si.Comma h (map item_ending (items_of a.kids))
          ∙ sym (list-stops h.kind all.1 si.Comma h (map item_ending (items_of ts))) ∙ sym (stops-kids h ts));
      adds = (refl, inr (all.1, all.2, kin));
      ways_are = tree-walk ds m (branch h a.kids)
          ∙ ap (λ b. pieces_walk ds h b false (form_of h.kind) m a.kids) (broken-again ds h m ts a.kids all.1 kin all.2)
          ∙ (cut-walk ds h false c.0 f m a.kids c.1).walk
          ∙ ap (λ ws. again ws (nodes_after f.front h.text a.kids)) a.ways_are ∙ ap (again (with_commas front)) a.behind
          ∙ ap (λ ws. with_commas front ++ ws) (list-again h.kind c.0 (closing h.kind) old _ l.ways_are)
          ∙ sym (with_commas-append front (map deeper old ++ close)) ∙ ap with_commas (sym walk);
      spelled = cut-tokens h c.0 f a.kids l.kids c.1 a.behind
          ∙ (λ i. a.spelled i ++ list-spelled h.kind c.0 (closing h.kind) old items (part_tokens h (list_part f.listed) (spells 0 l.kids))
          (part-length cs h bt true (item_start bt true) (list_part f.listed) k rest) l.spelled i)
          ∙ sym (with-append front (map deeper old ++ close) tokens (items ++ end) (walk-length cs h bt false f.front n ts))
          ∙ sym (λ i. tokens_with (walk i) (cut-tokens h c.0 f ts rest c.1 refl i));
    }

-- ---- trees

tree-by : (cs ds : List ℕ) (h : Head) (n m : ℕ) (ts : Nodes) (c : Bool) → (settled_breaks cs h n ts).comma ≡ c → IsRegular (branch h ts)
    → AreAgain cs ds ts → AreSpread (ways cs n (branch h ts)) (drop n cs) (drop m ds) → Again cs ds n m (branch h ts)
tree-by cs ds h n m ts true e r f x = comma-tree cs ds h n m ts e r.0 f x
tree-by cs ds h n m ts false e r f x = quiet-tree cs ds h n m ts e r.1 f x

mutual
  pub tree-again : (cs ds : List ℕ) (t : Node) → IsRegular t → IsAgain cs ds t
  tree-again cs ds (branch h ts) r =
      λ n m x. tree-by cs ds h n m ts (settled_breaks cs h n ts).comma refl r (kids-again cs ds ts r.2) x

  pub kids-again : (cs ds : List ℕ) (ts : Nodes) → AreRegular ts → AreAgain cs ds ts
  kids-again cs ds none r = tt
  kids-again cs ds (more t ts) r = (tree-again cs ds t r.0, kids-again cs ds ts r.1)
