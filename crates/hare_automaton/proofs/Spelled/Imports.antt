-- Imports are read from their tokens: what a name is, the tokens behind it decide.
use Rattle.std.proofs.Common.{◌≡◌, ℕ, ◌≤◌, List, [], ◌∷◌, ◌++◌, Bool, true, false, ◌&&◌, refl, ap, sym, ◌∙◌, ◌⊎◌, inl, inr, arith, append_assoc}
use Rattle.std.proofs.lemmas.List.{append-nil}
use Rattle.hare_tree.specs.declared.kind.Kind.{Kind}
use Rattle.hare_tree.specs.declared.kind.Kind.TheVariants as ki
use Rattle.hare_tree.specs.declared.token.TokenKind.TheVariants as tk
use Rattle.hare_tree.specs.declared.token.Token.{Token}
use Rattle.hare_tree.specs.declared.form.Sign.{Sign}
use Rattle.hare_tree.specs.declared.form.Sign.TheVariants as si
use Rattle.hare_tree.specs.declared.form.Own.TheVariants as ow
use Rattle.hare_tree.specs.declared.form.Sort.TheVariants as so
use Rattle.hare_tree.specs.declared.form.Lead.TheVariants as le
use Rattle.hare_tree.specs.declared.form.Piece.TheVariants as pi
use Rattle.hare_tree.specs.Node.{Head, Node, Nodes, branch, none, more, size_of, sizes_of}
use Rattle.hare_tree.specs.Forms.{form_of}
use Rattle.hare_tree.specs.Levels.{admits, level}
use Rattle.hare_tree.specs.Spell.{start_of, word_token, sign_token, all_led, spell, spells}
use Rattle.hare_tree.specs.Shape.{is_shaped, are_kids, is_own, edges, ends_before, behind_item, items_end}
use Rattle.hare_automaton.specs.declared.class.Class.TheVariants as cl
use Rattle.hare_automaton.specs.declared.rule.Rule.{Rule}
use Rattle.hare_automaton.specs.declared.rule.Rule.TheVariants as ru
use Rattle.hare_automaton.specs.declared.rule.Symbol.{Symbol}
use Rattle.hare_automaton.specs.declared.rule.Symbol.TheVariants as sy
use Rattle.hare_automaton.specs.declared.rule.Change.{Change}
use Rattle.hare_automaton.specs.declared.rule.Change.TheVariants as ch
use Rattle.hare_automaton.specs.Classes.{class_of}
use Rattle.hare_automaton.specs.Rows.{Uses, of, part, rest_of}
use Rattle.hare_automaton.specs.Table.{row}
use Rattle.hare_automaton.specs.Engine.{Group, begun, head_in, full_leaf, add, all_changed, run}
use Rattle.hare_automaton.specs.OneTree.{plain}
use Rattle.hare_automaton.proofs.Machine.Steps.{run_uses, run_want}
use Rattle.hare_automaton.proofs.Machine.Tokens.{class_sign, class_path_name}
use Rattle.hare_automaton.proofs.Spelled.Paths.{split}
use Rattle.hare_automaton.proofs.Spelled.Lists.{filled, fill_none, nothing_head}
use Rattle.hare_automaton.proofs.Machine.Edges.{edge, stops_calm, ReadsTo}
use Rattle.hare_automaton.proofs.Spelled.Items.{Closer}
use Rattle.hare_automaton.proofs.Spelled.Nodes.{Whole, Claim, closed}
use Rattle.hare_automaton.proofs.Spelled.Leaves.{read_some}
use Rattle.hare_automaton.proofs.Spelled.Late.{own_at, kids_at, ends_at, before_sign}
use Rattle.hare_automaton.proofs.Spelled.Names.{first_name, path_name_leaf, led_name, name_more, PathShape, path_shape}

-- ---- the names of a path, behind which other things may stand

-- the rule behind the first name, and behind a further one
abbrev behind_name : Bool → Rule
behind_name true = ru.AfterUseName
behind_name false = ru.AfterUsePart

further_row : (f : ℕ) (x : List ℕ) → (class_of (word_token f tk.Name x) ≡ cl.Name) ⊎ (class_of (word_token f tk.Name x) ≡ cl.PathWord) →
    row ru.AfterUseMark (class_of (word_token f tk.Name x)) ≡ Uses (ch.Leaf ki.Name ∷ []) (part ru.AfterUsePart ∷ [])
further_row f x (inl i) = rw i refl
further_row f x (inr i) = rw i refl

-- the names up to a sign that ends them
read_names : (f : ℕ) (b : Bool) (ts : Nodes) (d : Sign) (cs : List Change) (ss : List Symbol) →
    are_kids 0 (pi.EachLed si.PathMark so.PathName ∷ []) ts ≡ true → ((b : Bool) → row (behind_name b) (cl.Sign d) ≡ Uses cs ss) →
    (w : List Token) (st : List Symbol) (g : Group) (gs : List Group) →
    run f (all_led f (le.Before si.PathMark) (spells f ts) ++ (sign_token f d ∷ w)) (part (behind_name b) ∷ st) (g ∷ gs) ≡
    run f w (ss ++ st) (all_changed f (sign_token f d) cs (filled f g ts ∷ gs))
unfolding is_shaped spell
read_names f b none d cs ss e r w st g gs =
    let r' : row (behind_name b) (class_of (sign_token f d)) ≡ Uses cs ss = rw (class_sign f d) (r b) in
    run_uses f (sign_token f d) w (behind_name b) st (g ∷ gs) cs ss r' ∙ ap
    (λ y. run f w (ss ++ st) (all_changed f (sign_token f d) cs (y ∷ gs))) (sym (fill_none f g))
read_names f b (more t ts) d cs ss e r w st g gs =
    let k = split (is_shaped so.PathName t) (are_kids 0 (pi.EachLed si.PathMark so.PathName ∷ []) ts) e in
    let n = path_name_leaf f t k.0 in
    let v = all_led f (le.Before si.PathMark) (spells f ts) in
    let u = v ++ (sign_token f d ∷ w) in
    rw (led_name f t ts n k.0)
    (run_uses f (sign_token f si.PathMark) (word_token f tk.Name n.text ∷ u) (behind_name b) st (g ∷ gs) [] (part ru.AfterUseMark ∷ [])
    (mark_row b)
    ∙ run_uses f (word_token f tk.Name n.text) u ru.AfterUseMark st (g ∷ gs) (ch.Leaf ki.Name ∷ []) (part ru.AfterUsePart ∷ [])
    (further_row f n.text (class_path_name f n.text n.name))
    ∙ read_names f false ts d cs ss k.1 r w st _ gs
    ∙ ap (λ y. run f w (ss ++ st) (all_changed f (sign_token f d) cs (y ∷ gs))) (name_more f g t ts n))
  where
    mark_row : (b : Bool) → row (behind_name b) (class_of (sign_token f si.PathMark)) ≡ Uses [] (part ru.AfterUseMark ∷ [])
    mark_row true = refl
    mark_row false = refl

-- an import up to a sign behind its path
open_import : (f : ℕ) (t : Node) (q : PathShape f t) (d : Sign) (cs : List Change) (ss : List Symbol) →
    ((b : Bool) → row (behind_name b) (cl.Sign d) ≡ Uses cs ss) → (w : List Token) (st : List Symbol) (gs : List Group) →
    run f (sign_token f si.Use ∷ (spell f t ++ (sign_token f d ∷ w))) (of so.Use ∷ st) gs ≡
    run f w (ss ++ st) (all_changed f (sign_token f d) cs
    (filled f (begun (start_of f) (full_leaf ki.Name (word_token f tk.Name q.first) ∷ [])) q.others ∷ begun (start_of f) [] ∷ gs))
open_import f t q d cs ss r w st gs =
    let v = all_led f (le.Before si.PathMark) (spells f q.others) in
    let n : row ru.UseStart (class_of (word_token f tk.Name q.first)) ≡ Uses (ch.Open ∷ ch.Leaf ki.Name ∷ []) (part ru.AfterUseName ∷ []) =
    rw q.class refl in
    rw q.spelled
    (run_uses f (sign_token f si.Use) (word_token f tk.Name q.first ∷ (v ++ (sign_token f d ∷ w))) (ru.Of so.Use) st gs (ch.Open ∷ [])
    (part ru.UseStart ∷ []) refl
    ∙ run_uses f (word_token f tk.Name q.first) (v ++ (sign_token f d ∷ w)) ru.UseStart st (begun (start_of f) [] ∷ gs)
    (ch.Open ∷ ch.Leaf ki.Name ∷ []) (part ru.AfterUseName ∷ []) n
    ∙ read_names f true q.others d cs ss q.names r w st (begun (start_of f) (full_leaf ki.Name (word_token f tk.Name q.first) ∷ []))
    (begun (start_of f) [] ∷ gs))

-- ---- `use` path `;`

use_closes : (b : Bool) → row (behind_name b) (cl.Sign si.Semicolon) ≡ Uses (ch.Close ki.ImportPath ∷ ch.Close ki.Use ∷ []) []
use_closes true = refl
use_closes false = refl

module_reads : (f : ℕ) (h : Head) (ts : Nodes) → h.kind ≡ ki.Use → Whole so.Use h ts →
    (w : List Token) (st : List Symbol) (g : Group) (gs : List Group) → Claim f so.Use h ts w st g gs
unfolding spell is_shaped
module_reads f h none i p w st g gs = let k = kids_at so.Use h none ki.Use i p in cc
module_reads f h (more t (more u us)) i p w st g gs =
    let k = split (is_shaped so.ImportPath t) false (kids_at so.Use h (more t (more u us)) ki.Use i p) in cc
module_reads f h (more t none) i p w st g gs =
    let a : form_of h.kind ≡ form_of ki.Use = ap form_of i in
    let k = split (is_shaped so.ImportPath t) true (kids_at so.Use h (more t none) ki.Use i p) in
    let q = path_shape f t k.0 in
    let own : is_own ow.Nothing h ≡ true = own_at so.Use h (more t none) ki.Use i p in
    rw (a, append-nil (spell f t), append_assoc (spell f t) (sign_token f si.Semicolon ∷ []) w)
    (open_import f t q si.Semicolon (ch.Close ki.ImportPath ∷ ch.Close ki.Use ∷ []) [] use_closes w st (g ∷ gs)
    ∙ ap (λ y. run f w st (add (branch (head_in ki.Use (begun (start_of f) [])) (more y none)) (g ∷ gs))) (sym q.plain_is)
    ∙ ap (λ y. run f w st (add (branch y (more (plain f t) none)) (g ∷ gs))) (sym (nothing_head f h ki.Use i own)))

-- ---- `use` name `=` path `;`

alias_reads : (f n : ℕ) → ReadsTo f n → (h : Head) (ts : Nodes) → sizes_of ts ≤ n → h.kind ≡ ki.UseAlias → Whole so.Use h ts →
    (w : List Token) (st : List Symbol) (g : Group) (gs : List Group) → Claim f so.Use h ts w st g gs
unfolding spell is_shaped
alias_reads f n ih h none z i p w st g gs = let k = kids_at so.Use h none ki.UseAlias i p in cc
alias_reads f n ih h (more t none) z i p w st g gs =
    let k = split (is_shaped so.Name t) false (kids_at so.Use h (more t none) ki.UseAlias i p) in cc
alias_reads f n ih h (more t (more u (more v vs))) z i p w st g gs =
    let k = split (is_shaped so.Name t) (is_shaped so.ImportPath u && false)
    (kids_at so.Use h (more t (more u (more v vs))) ki.UseAlias i p) in
    let k' = split (is_shaped so.ImportPath u) false k.1 in
    cc
alias_reads f n ih h (more t (more u none)) z i p w st g gs =
    let a : form_of h.kind ≡ form_of ki.UseAlias = ap form_of i in
    let k = split (is_shaped so.Name t) (is_shaped so.ImportPath u && true) (kids_at so.Use h (more t (more u none)) ki.UseAlias i p) in
    let k' = split (is_shaped so.ImportPath u) true k.1 in
    let q = first_name f t k.0 in
    let own : is_own ow.Nothing h ≡ true = own_at so.Use h (more t (more u none)) ki.UseAlias i p in
    let zu : size_of u ≤ n = omega arith in
    let r : row ru.UseStart (class_of (word_token f tk.Name q.text)) ≡ Uses (ch.Open ∷ ch.Leaf ki.Name ∷ []) (part ru.AfterUseName ∷ []) =
    rw q.class refl in
    let tail = spell f u ++ (sign_token f si.Semicolon ∷ w) in
    rw (a, append-nil (spell f t), append-nil (spell f u), q.spelled, append_assoc (spell f u) (sign_token f si.Semicolon ∷ []) w)
    (run_uses f (sign_token f si.Use) (word_token f tk.Name q.text ∷ sign_token f si.Equals ∷ tail) (ru.Of so.Use) st (g ∷ gs)
    (ch.Open ∷ []) (part ru.UseStart ∷ []) refl
    ∙ run_uses f (word_token f tk.Name q.text) (sign_token f si.Equals ∷ tail) ru.UseStart st (begun (start_of f) [] ∷ g ∷ gs)
    (ch.Open ∷ ch.Leaf ki.Name ∷ []) (part ru.AfterUseName ∷ []) r
    ∙ run_uses f (sign_token f si.Equals) tail ru.AfterUseName st _ (ch.Lift ∷ []) (rest_of 3 ki.UseAlias) refl
    ∙ ap (λ y. run f tail (rest_of 3 ki.UseAlias ++ st) (begun (start_of f) (y ∷ []) ∷ g ∷ gs)) (sym q.plain_is)
    ∙ before_sign f n ih so.ImportPath si.Semicolon u zu refl k'.0 refl (stops_calm si.Semicolon refl refl u) w
    (sy.Want si.Semicolon ∷ sy.Close ki.UseAlias ∷ st) (begun (start_of f) (plain f t ∷ [])) (g ∷ gs)
    ∙ run_want f (sign_token f si.Semicolon) w si.Semicolon (sy.Close ki.UseAlias ∷ st) _ (class_sign f si.Semicolon)
    ∙ closed f h ki.UseAlias false (more t (more u none)) i (λ y. own) w st g gs)

-- ---- `use` path `::` `{` names `}` `;`

mark_goes_on : (b : Bool) → row (behind_name b) (cl.Sign si.PathMark) ≡ Uses [] (part ru.AfterUseMark ∷ [])
mark_goes_on true = refl
mark_goes_on false = refl

names_close : Closer so.Name si.RightBrace
names_close = record {
  sort = refl;
  items = refl;
  anywhere = λ c. refl;
  faults = refl;
  pulls = refl;
  comma = refl;
  no_else = refl;
  no_comma = refl;
}

names_reads : (f n : ℕ) → ReadsTo f n → (h : Head) (ts : Nodes) → sizes_of ts ≤ n → h.kind ≡ ki.UseNames → Whole so.Use h ts →
    (w : List Token) (st : List Symbol) (g : Group) (gs : List Group) → Claim f so.Use h ts w st g gs
unfolding spell is_shaped
names_reads f n ih h none z i p w st g gs = let k = kids_at so.Use h none ki.UseNames i p in cc
names_reads f n ih h (more t none) z i p w st g gs =
    let k = split (is_shaped so.ImportPath t) false (kids_at so.Use h (more t none) ki.UseNames i p) in cc
names_reads f n ih h (more t (more u us)) z i p w st g gs =
    let a : form_of h.kind ≡ form_of ki.UseNames = ap form_of i in
    let m = level h.kind h.text in
    let k = split (is_shaped so.ImportPath t) (is_shaped so.Name u && are_kids m (pi.More so.Name ∷ []) us)
    (kids_at so.Use h (more t (more u us)) ki.UseNames i p) in
    let k' = split (is_shaped so.Name u) (are_kids m (pi.More so.Name ∷ []) us) k.1 in
    let e = split (ends_before (behind_item (edges us)) (edge u)) (items_end (edges us))
    (ends_at so.Use h (more t (more u us)) ki.UseNames i p) in
    let q = path_shape f t k.0 in
    let own : is_own ow.Nothing h ≡ true = own_at so.Use h (more t (more u us)) ki.UseNames i p in
    let zu : size_of u ≤ n = omega arith in
    let zs : sizes_of us ≤ n = omega arith in
    let y = all_led f (le.Before si.Comma) (spells f us) in
    let last : List Token = sign_token f si.RightBrace ∷ sign_token f si.Semicolon ∷ [] in
    let tail = spell f u ++ (y ++ (sign_token f si.RightBrace ∷ sign_token f si.Semicolon ∷ w)) in
    rw (
      a,
      append-nil (spell f t),
      append-nil (spell f u),
      append_assoc (spell f t)
          (sign_token f si.PathMark ∷ sign_token f si.LeftBrace ∷ (spell f u ++ (y ++ last))) w,
      append_assoc (spell f u) (y ++ last) w,
      append_assoc y last w,
    )
    (open_import f t q si.PathMark [] (part ru.AfterUseMark ∷ []) mark_goes_on (sign_token f si.LeftBrace ∷ tail) st (g ∷ gs)
    ∙ run_uses f (sign_token f si.LeftBrace) tail ru.AfterUseMark st _ (ch.Close ki.ImportPath ∷ []) (rest_of 4 ki.UseNames) refl
    ∙ ap (λ v. run f tail (rest_of 4 ki.UseNames ++ st) (begun (start_of f) (v ∷ []) ∷ g ∷ gs)) (sym q.plain_is)
    ∙ read_some f n ih so.Name si.RightBrace m names_close u us
    (record { small = zu; others_small = zs; shaped = k'.0; others = k'.1; ends = e.0; others_end = e.1 })
    (sign_token f si.RightBrace ∷ sign_token f si.Semicolon ∷ w)
    (sy.Want si.RightBrace ∷ sy.Want si.Semicolon ∷ sy.Close ki.UseNames ∷ st) (begun (start_of f) (plain f t ∷ [])) (g ∷ gs)
    (class_sign f si.RightBrace)
    ∙ run_want f (sign_token f si.RightBrace) (sign_token f si.Semicolon ∷ w) si.RightBrace
    (sy.Want si.Semicolon ∷ sy.Close ki.UseNames ∷ st) _ (class_sign f si.RightBrace)
    ∙ run_want f (sign_token f si.Semicolon) w si.Semicolon (sy.Close ki.UseNames ∷ st) _ (class_sign f si.Semicolon)
    ∙ closed f h ki.UseNames false (more t (more u us)) i (λ v. own) w st g gs)

-- ---- all imports

pub use_reads : (f n : ℕ) → ReadsTo f n → (k : Kind) (h : Head) (ts : Nodes) → sizes_of ts ≤ n → h.kind ≡ k →
    admits so.Use k h.text ≡ true → Whole so.Use h ts → (w : List Token) (st : List Symbol) (g : Group) (gs : List Group) →
    Claim f so.Use h ts w st g gs
use_reads f n ih ki.Use h ts z i a p w st g gs = module_reads f h ts i p w st g gs
use_reads f n ih ki.UseAlias h ts z i a p w st g gs = alias_reads f n ih h ts z i p w st g gs
use_reads f n ih ki.UseNames h ts z i a p w st g gs = names_reads f n ih h ts z i p w st g gs
use_reads f n ih _ h ts z i a p w st g gs = cc
