-- A layout is laid out.
use Rattle.std.proofs.Common.{◌≡◌, ℕ, ◌<◌, List, [], ◌∷◌, ◌++◌, inl, inr, Bool, true, false, ◌&&◌, Ok, length, map, refl, sym, ap, ◌∙◌, subst, arith, length-append, if◌then◌else◌}
use Rattle.std.proofs.Math.Logic.{⊎_elim}
use Rattle.std.proofs.lemmas.Bool.{and_parts}
use Rattle.std.specs.List.{list_all}
use Rattle.std.specs.Str.{IsUtf8}
use Rattle.hare_tree.specs.declared.place.Place.{Place}
use Rattle.hare_tree.specs.declared.token.TokenKind.TheVariants as tk
use Rattle.hare_tree.specs.declared.token.Token.{Token}
use Rattle.hare_tree.specs.declared.form.Lead.TheVariants as le
use Rattle.hare_tree.specs.declared.tree.FileTree.{FileTree}
use Rattle.hare_tree.specs.Node.{Node, Nodes, branch, none, more, nodes_of}
use Rattle.hare_tree.specs.Spell.{word_token, spells, spell_all, spell_file}
use Rattle.hare_tree.specs.Shape.{is_shaped_file}
use Rattle.hare_tree.specs.Depth.{is_nil, is_shallow, fits_file}
use Rattle.hare_tree.specs.Tokens.{IsTokens, Reads, Stands, end_at, place_at, is_path_mark, no_gap}
use Rattle.hare_tree.specs.Grammar.{is_proper_string, string_at, joined_to, joined, before_end, unplaced, Spells, IsFileTree}
use Rattle.hare_automaton.specs.OneTree.{plain, plains, plain_head, plain_file}
use Rattle.hare_automaton.proofs.Spelled.Files.{files_have_one_tree}
use Rattle.hare_automaton.proofs.Machine.Still.{still_append, still_led, still_spells}
use Rattle.hare_prefixes.proofs.Outcomes.Whole.{whole_runs_make_files, files_have_whole_runs}
use Rattle.hare_nesting.proofs.ByTheLetter.Placeless.{roots_pass_alike}
use Rattle.hare_lex.proofs.Whole.Unique.{only_tokens}
use Rattle.hare_pieces.specs.Pieces.{ConsistsOf}
use Rattle.hare_ways.specs.declared.way.Way.{Way}
use Rattle.hare_ways.specs.Ways.{file_ways}
use Rattle.hare_commas.specs.Commas.{AreMarks, comma_tokens, tokens_with, head_without, without_commas, kids_without, file_without}
use Rattle.hare_commas.proofs.WholeFiles.Marks.{ways-ask-at-marks}
use Rattle.hare_lines.specs.declared.way.Gap.{Gap}
use Rattle.hare_lines.specs.Read.{Seen, seen, comments_before}
use Rattle.hare_lines.specs.Gaps.{placed, at_start, behind_added, behind_piece, gap_of, comma_of, laid}
use Rattle.hare_lines.specs.Layout.{IsLaidOut, with_end as ended, gap_bytes, laid_bytes, written, layout}
use Rattle.hare_again.specs.Again.{comments_of, layout_seen, written_seen}
use Rattle.hare_again.specs.Reading.{Part, text_of, AreParts, places, read_of}
use Rattle.hare_again.specs.Laid.{LayoutsHaveParts, LayoutsAreLaidOut}
use Rattle.hare_again.proofs.LaidAsBefore.Comments.{comments-stay}
use Rattle.hare_again.proofs.LaidAsBefore.Files.{sources-stay}
use Rattle.hare_again.proofs.ReadBack.Reading.{texts-are-read}
use Rattle.hare_again.proofs.LaidAsBefore.Sources.{before-end}
use Rattle.hare_again.proofs.LaidAsBefore.PiecesAgain.{way_here}
use Rattle.hare_again.proofs.PartsOfLayouts.LaidParts.{parts_laid, tokens_laid, placed_at, placed_behind, end_of_text, AreRead, parts-are}
use Rattle.hare_again.proofs.PartsOfLayouts.LaidParts.{parts-text, parts-read, token-long}
use Rattle.hare_again.proofs.ReadBack.ReadSources.{with_end, marks-unplaced, marks-placed, read-source, laid-tokens}
use Rattle.hare_again.proofs.ReadBack.TextTokens.{parts-have-tokens, stands-at, at_place}
use Rattle.hare_again.proofs.WholeLayouts.Utf8.{source-utf8, written-utf8}
use Rattle.hare_again.proofs.WholeLayouts.Placeless.{AreLike, files-like, all-like}

true-false : {A : Type 0} → true ≡ false → A
true-false h = cc

-- ---- what is read of the source

-- the source's tokens, without its end
abbrev tokens_of : (src text : List ℕ) → IsLaidOut src text → List Token
tokens_of src text l = l.cut.are.spelled_by

abbrev ways_of : (src text : List ℕ) → IsLaidOut src text → List Way
ways_of src text l = file_ways (comments_before 0 false (seen src l.pieces)) l.tree

-- all its tokens
tokens-are : (src text : List ℕ) (l : IsLaidOut src text) → l.tokens ≡ tokens_of src text l ++ end_at (place_at 0 src) ∷ []
tokens-are src text l = only_tokens 0 src (Ok l.tokens) l.are tt l.cut.tokens l.cut.are ∙ l.cut.are.tokens_are

-- the tree spells them, strings side by side as one
spelled-is : (src text : List ℕ) (l : IsLaidOut src text)
    → map unplaced (spell_file l.tree) ≡ map unplaced (with_end (place_at 0 src) (tokens_of src text l))
spelled-is src text l = l.file_is.spelled ∙ ap (λ ts. map unplaced (joined ts)) (tokens-are src text l)

source-consists : (src text : List ℕ) (l : IsLaidOut src text) → ConsistsOf 0 false src (tokens_of src text l) l.pieces
source-consists src text l =
    subst (λ ts. ConsistsOf 0 false src ts l.pieces)
    (ap before_end l.cut.are.tokens_are ∙ before-end (tokens_of src text l) (place_at 0 src))
    l.cut.consists

source-read : (src text : List ℕ) (l : IsLaidOut src text)
    → AreRead false false (ways_of src text l) (seen src l.pieces) (tokens_of src text l)
source-read src text l =
    let ws = ways_of src text l in
    let m = marks-unplaced ws (spell_file l.tree)
    (ways-ask-at-marks (comments_before 0 false (seen src l.pieces)) l.tree l.file_is.file_is) in
    read-source src [] src 0 false false ws (tokens_of src text l) l.pieces (place_at 0 src) refl refl (source-consists src text l)
    (marks-placed ws (with_end (place_at 0 src) (tokens_of src text l)) (subst (AreMarks ws) (spelled-is src text l) m))

-- ---- the parts

comma-some : (y : Bool) (g : Gap) (o : List ℕ) (rest : List (Gap × List ℕ)) → 0 < length o →
    0 < length (laid_bytes (comma_of y ++ (g, o) ∷ rest))
comma-some true g o rest h = omega arith
comma-some false g o rest h =
    omega (arith, h, length-append (gap_bytes g ++ o) (laid_bytes rest), length-append (gap_bytes g) o)

body-some : (b joined : Bool) (ws : List Way) (x : Seen) (xs : List Seen) (ts : List Token) → AreRead b joined ws (x ∷ xs) ts →
    0 < length x.body
body-some b joined ws x xs ts r =
    ⊎_elim (λ k. subst (λ s. 0 < length s) (sym k.1.1) (omega arith)) (λ k. token-long k.0 x.body k.4.spells) r.1

with-end : (s : List ℕ) → 0 < length s → ended s ≡ s ++ end_of_text
with-end [] h = absurd (omega (arith, h))
with-end (c ∷ s) h = refl

-- what is written of such pieces
record WritesParts (ws : List Way) (xs : List Seen) (ts : List Token) : Type 0 where
  parts : List Part
  end : List ℕ
  text_is : written ws xs ≡ text_of parts end
  are : AreParts false parts end (tokens_laid (placed false 0 ws xs) ts)
  read : map read_of parts ≡ written_seen ws xs

writes-parts : (ws : List Way) (xs : List Seen) (ts : List Token) → AreRead false false ws xs ts → WritesParts ws xs ts
writes-parts ws [] ts r = record { parts = []; end = []; text_is = refl; are = (r.0, refl); read = refl }
writes-parts ws (x ∷ xs) ts r =
    let ps = placed false 0 ws (x ∷ xs) in
    let w = way_here false 0 ws in
    let here = behind_added w.comma at_start in
    let p = placed_at false 0 ws x in
    let some = comma-some w.comma (gap_of here p) x.body (laid (behind_piece here p) (placed_behind false 0 ws x xs))
    (body-some false false ws x xs ts r) in
    record {
      parts = parts_laid at_start ps;
      end = end_of_text;
      text_is = with-end (laid_bytes (laid at_start ps)) some ∙ sym (parts-text at_start ps);
      are = parts-are (x ∷ xs) false false 0 ws ts at_start r;
      read = parts-read false false 0 ws (x ∷ xs) ts at_start r;
    }

layout-parts : (src text : List ℕ) (l : IsLaidOut src text) → WritesParts (ways_of src text l) (seen src l.pieces) (tokens_of src text l)
layout-parts src text l = writes-parts (ways_of src text l) (seen src l.pieces) (tokens_of src text l) (source-read src text l)

pub layouts-have-parts : LayoutsHaveParts
layouts-have-parts src text l =
    let w = layout-parts src text l in
    record {
      parts = w.parts;
      end = w.end;
      tokens = tokens_laid (placed false 0 (ways_of src text l) (seen src l.pieces)) (tokens_of src text l);
      text_is = l.text_is ∙ w.text_is;
      are = w.are;
      read = w.read;
    }

-- ---- tokens at other places

joined-unplaced : (t : Token) (us : List Token) → map unplaced (joined_to t us) ≡ joined_to (unplaced t) (map unplaced us)
joined-unplaced t [] = refl
joined-unplaced t (u ∷ us) = by (is_proper_string t) (is_proper_string u)
  where
    by : (x y : Bool) → map unplaced (if x then (if y then string_at t.place (t.text ++ u.text) ∷ us else t ∷ u ∷ us) else t ∷ u ∷ us)
        ≡ (if x then (if y then string_at (unplaced t).place (t.text ++ u.text) ∷ map unplaced us else unplaced t ∷ unplaced u ∷ map
        unplaced us)
        else unplaced t ∷ unplaced u ∷ map unplaced us)
    by true true = refl
    by true false = refl
    by false y = refl

all-unplaced : (ts : List Token) → map unplaced (joined ts) ≡ joined (map unplaced ts)
all-unplaced [] = refl
all-unplaced (t ∷ ts) = joined-unplaced t (joined ts) ∙ ap (joined_to (unplaced t)) (all-unplaced ts)

map-append : (a b : List Token) → map unplaced (a ++ b) ≡ map unplaced a ++ map unplaced b
map-append [] b = refl
map-append (t ∷ a) b = ap (λ l. unplaced t ∷ l) (map-append a b)

-- the same tokens with an end behind them
ended-alike : (ts us : List Token) (p q : Place) → map unplaced ts ≡ map unplaced us
    → map unplaced (joined (ts ++ end_at p ∷ [])) ≡ map unplaced (joined (us ++ end_at q ∷ []))
ended-alike ts us p q e =
    all-unplaced (ts ++ end_at p ∷ [])
    ∙ ap joined (map-append ts (end_at p ∷ []) ∙ ap (λ l. l ++ unplaced (end_at p) ∷ []) e ∙ sym (map-append us (end_at q ∷ [])))
    ∙ sym (all-unplaced (us ++ end_at q ∷ []))

comma-unplaced : (y : Bool) (ts : List Token) → map unplaced (comma_tokens y ++ ts) ≡ comma_tokens y ++ map unplaced ts
comma-unplaced true ts = refl
comma-unplaced false ts = refl

with-unplaced : (ws : List Way) (ts : List Token) → map unplaced (tokens_with ws ts) ≡ tokens_with ws (map unplaced ts)
with-unplaced [] ts = refl
with-unplaced (w ∷ ws) [] = refl
with-unplaced (w ∷ ws) (t ∷ ts) =
    comma-unplaced w.comma (t ∷ tokens_with ws ts) ∙ ap (λ l. comma_tokens w.comma ++ unplaced t ∷ l) (with-unplaced ws ts)

-- parts with the same tokens elsewhere
abbrev first_in : List Token → Token → Token
first_in [] d = d
first_in (x ∷ xs) d = x

abbrev rest_in : List Token → List Token
rest_in [] = []
rest_in (x ∷ xs) = xs

nil-alike : (us : List Token) → map unplaced us ≡ [] → us ≡ []
nil-alike [] e = refl
nil-alike (u ∷ us) e = cc

stands-alike : (b : Bool) (t u : Token) (s rest : List ℕ) → unplaced u ≡ unplaced t → Stands b t s rest → Stands b u s rest
stands-alike b t u s rest e st = subst (λ v. Stands b v s rest) (ap (at_place u.place) (sym e)) (stands-at b u.place t s rest st)

-- a token and those behind it
abbrev StandsFirst : Bool → Part → List Part → List ℕ → List Token → Type 0
StandsFirst b x xs end us =
    (t : Token) × (more : List Token) × (x.comment ≡ false) × (us ≡ t ∷ more) × (no_gap (x.body ++ text_of xs end) ≡ true)
    × Stands b t x.body (text_of xs end) × AreParts (is_path_mark t.kind t.text) xs end more

first-alike : (b : Bool) (x : Part) (xs : List Part) (end : List ℕ) (us : List Token) (t : Token) (more : List Token) → x.comment ≡ false
    → map unplaced us ≡ map unplaced (t ∷ more) → no_gap (x.body ++ text_of xs end) ≡ true → Stands b t x.body (text_of xs end)
    → ((vs : List Token) → map unplaced vs ≡ map unplaced more → AreParts (is_path_mark t.kind t.text) xs end vs) →
    StandsFirst b x xs end us
first-alike b x xs end [] t behind c e g st f = cc
first-alike b x xs end (u ∷ us) t behind c e g st f =
    let one : unplaced u ≡ unplaced t = ap (λ l. first_in l (unplaced t)) e in
    let path = ap (λ (v : Token). is_path_mark v.kind v.text) one in (
      u,
      us,
      c,
      refl,
      g,
      stands-alike b t u x.body (text_of xs end) one st,
      subst (λ y. AreParts y xs end us) (sym path) (f us (ap rest_in e)),
    )

parts-alike : (b : Bool) (xs : List Part) (end : List ℕ) (ts us : List Token) → map unplaced us ≡ map unplaced ts → AreParts b xs end ts
    → AreParts b xs end us
parts-alike b [] end ts us e h = (nil-alike us (e ∙ ap (map unplaced) h.0), h.1)
parts-alike b (x ∷ xs) end ts us e h = (
  h.0,
  ⊎_elim
      (λ k. inl (k.0, k.1, parts-alike b xs end ts us e k.2))
      (λ k. inr (first-alike b x xs end us k.0 k.1 k.2 (e ∙ ap (map unplaced) k.3) k.4 k.5
      (λ vs q. parts-alike (is_path_mark k.0.kind k.0.text) xs end k.1 vs q k.6)))
      h.1,
)

-- ---- trees at other places

still-file : (t : FileTree) → t.file ≡ 0 → map unplaced (spell_file t) ≡ spell_file t
still-file t e =
    let end = word_token 0 tk.End [] ∷ [] in
    let uses = still_led 0 le.Nothing (spells 0 (nodes_of t.uses)) (still_spells 0 (nodes_of t.uses)) in
    let decls = still_led 0 le.Nothing (spells 0 (nodes_of t.decls)) (still_spells 0 (nodes_of t.decls)) in
    subst (λ f. map unplaced (spell_file (record { file = f; uses = t.uses; decls = t.decls }))
    ≡ spell_file (record { file = f; uses = t.uses; decls = t.decls })) (sym e)
    (still_append 0 (spell_all 0 t.uses) (spell_all 0 t.decls ++ end) uses (still_append 0 (spell_all 0 t.decls) end decls refl))

-- two files with number 0 that are equal but for places
record IsLike (t u : FileTree) : Type 0 where
  uses : AreLike t.uses u.uses
  decls : AreLike t.decls u.decls

like-of : (t u : FileTree) → t.file ≡ 0 → u.file ≡ 0 → plain_file t ≡ plain_file u → IsLike t u
like-of t u e f q = record {
  uses = ap (λ n. map (plain n) t.uses) (sym e) ∙ ap (λ (y : FileTree). y.uses) q ∙ ap (λ n. map (plain n) u.uses) f;
  decls = ap (λ n. map (plain n) t.decls) (sym e) ∙ ap (λ (y : FileTree). y.decls) q ∙ ap (λ n. map (plain n) u.decls) f;
}

abbrev first_node : List Node → Node → Node
first_node [] d = d
first_node (t ∷ ts) d = t

abbrev other_nodes : List Node → List Node
other_nodes [] = []
other_nodes (t ∷ ts) = ts

shallow-like : (ts us : List Node) → AreLike ts us → list_all is_shallow ts ≡ list_all is_shallow us
shallow-like [] [] e = refl
shallow-like [] (u ∷ us) e = cc
shallow-like (t ∷ ts) [] e = cc
shallow-like (t ∷ ts) (u ∷ us) e =
    let one : plain 0 t ≡ plain 0 u = ap (λ l. first_node l (plain 0 u)) e in
    let others : AreLike ts us = ap other_nodes e in
    λ i. is_nil (roots_pass_alike t u one i) && shallow-like ts us others i

both : (x y : Bool) → x ≡ true → y ≡ true → (x && y) ≡ true
both true y e f = f
both false y e f = e

fits-like : (t u : FileTree) → IsLike t u → is_shaped_file u ≡ true → fits_file t ≡ true → fits_file u ≡ true
fits-like t u k shaped e =
    let a = and_parts _ _ e in
    let b = and_parts _ _ a.0 in
    both (is_shaped_file u && list_all is_shallow u.uses) (list_all is_shallow u.decls)
    (both (is_shaped_file u) (list_all is_shallow u.uses) shaped (sym (shallow-like t.uses u.uses k.uses) ∙ b.1))
    (sym (shallow-like t.decls u.decls k.decls) ∙ a.1)

-- ---- trees without the commas behind last items

mutual
  plain-without : (t : Node) → plain 0 (without_commas t) ≡ without_commas (plain 0 t)
  plain-without (branch h ts) = ap (branch (head_without (plain_head 0 h))) (plains-without ts)

  plains-without : (ts : Nodes) → plains 0 (kids_without ts) ≡ kids_without (plains 0 ts)
  plains-without none = refl
  plains-without (more t ts) = λ i. more (plain-without t i) (plains-without ts i)

map-without : (ts : List Node) → map (plain 0) (map without_commas ts) ≡ map without_commas (map (plain 0) ts)
map-without [] = refl
map-without (t ∷ ts) = λ i. plain-without t i ∷ map-without ts i

without-like : (ts us : List Node) → AreLike ts us → AreLike (map without_commas ts) (map without_commas us)
without-like ts us e = map-without ts ∙ ap (map without_commas) e ∙ sym (map-without us)

spell-of : (t : FileTree) → t.file ≡ 0 → spell_file t ≡ spell_all 0 t.uses ++ (spell_all 0 t.decls ++ word_token 0 tk.End [] ∷ [])
spell-of t e = ap (λ f. spell_all f t.uses ++ (spell_all f t.decls ++ word_token f tk.End [] ∷ [])) e

spell-like : (t u : FileTree) → t.file ≡ 0 → u.file ≡ 0 → IsLike t u → spell_file t ≡ spell_file u
spell-like t u e f k =
    spell-of t e
    ∙ (λ i. all-like t.uses u.uses k.uses i ++ (all-like t.decls u.decls k.decls i ++ word_token 0 tk.End [] ∷ []))
    ∙ sym (spell-of u f)

tokens-like : (t u : FileTree) → t.file ≡ 0 → u.file ≡ 0 → IsLike t u → spell_file (file_without t) ≡ spell_file (file_without u)
tokens-like t u e f k =
    spell-like (file_without t) (file_without u) e f
    record { uses = without-like t.uses u.uses k.uses; decls = without-like t.decls u.decls k.decls }

-- ---- layouts

-- the tokens of a layout spell the tree with its commas
layout-spelled : (src text : List ℕ) (l : IsLaidOut src text) (again : FileTree) (us : List Token) (p : Place)
    → spell_file again ≡ tokens_with (ways_of src text l) (spell_file l.tree)
    → map unplaced us ≡ map unplaced (tokens_laid (placed false 0 (ways_of src text l) (seen src l.pieces)) (tokens_of src text l))
    → Spells (spell_file again) (us ++ end_at p ∷ [])
layout-spelled src text l again us p e same =
    let ws = ways_of src text l in
    let xs = seen src l.pieces in
    let ts = tokens_of src text l in
    let q = place_at 0 src in
    ap (map unplaced) e ∙ with-unplaced ws (spell_file l.tree) ∙ ap (tokens_with ws) (spelled-is src text l)
    ∙ sym (with-unplaced ws (with_end q ts)) ∙ ap (map unplaced) (sym (laid-tokens false false 0 ws xs ts q (source-read src text l)))
    ∙ ended-alike (tokens_laid (placed false 0 ws xs) ts) us q p (sym same)

-- the tree of a layout, at its places
record HasTree (again : FileTree) (tokens : List Token) : Type 0 where
  tree : FileTree
  file_is : IsFileTree 0 tokens tree
  like : IsLike again tree

layout-tree : (again : FileTree) (tokens : List Token) → again.file ≡ 0 → fits_file again ≡ true → Spells (spell_file again) tokens
    → HasTree again tokens
layout-tree again tokens i fits spells =
    let shaped = (and_parts _ _ (and_parts _ _ fits).0).0 in
    let run = files_have_whole_runs 0 tokens again shaped spells in
    let made = whole_runs_make_files 0 tokens run.made run.whole in
    let sp = made.spells in
    let same = sym (still-file again i) ∙ spells ∙ sym sp.spelled ∙ still-file made.tree sp.file_is in
    let like = like-of again made.tree i sp.file_is (files_have_one_tree again made.tree (i ∙ sym sp.file_is) shaped sp.shaped same) in
    record {
      tree = made.tree;
      file_is = record {
        file_is = sp.file_is;
        fits = fits-like again made.tree like sp.shaped fits;
        spelled = sp.spelled;
        placed = sp.placed;
      };
      like = like;
    }

pub layouts-are-laid-out : LayoutsAreLaidOut
layouts-are-laid-out src text l =
    let s = sources-stay src text l in
    let ws = ways_of src text l in
    let xs = seen src l.pieces in
    let ts = tokens_of src text l in
    let w = layout-parts src text l in
    let laid_ts = tokens_laid (placed false 0 ws xs) ts in
    let text_is : text ≡ text_of w.parts w.end = l.text_is ∙ w.text_is in
    let h = parts-have-tokens 0 [] false w.parts w.end laid_ts w.are in
    let p = place_at 0 text in
    let tokens = h.tokens ++ end_at p ∷ [] in
    let utf8 = subst IsUtf8 (sym l.text_is)
    (written-utf8 ws xs (source-utf8 src [] src 0 false ts l.pieces refl refl (source-consists src text l) l.cut.are.utf8)) in
    let are : IsTokens 0 text tokens = record {
      utf8 = utf8;
      spelled_by = h.tokens;
      at_path = h.at_path;
      reads = subst (λ x. Reads 0 [] false h.tokens x [] h.at_path) (sym text_is) h.reads;
      tokens_are = refl;
    } in
    let i : s.again.file ≡ 0 = ap (λ (x : FileTree). x.file) s.same ∙ l.file_is.file_is in
    let t = layout-tree s.again tokens i s.fits (layout-spelled src text l s.again h.tokens p s.spelled h.same) in
    let pieces = places 0 w.parts in
    let r = texts-are-read false [] w.parts w.end h.tokens (parts-alike false w.parts w.end laid_ts h.tokens h.same w.are) in
    let consists = subst (λ x. ConsistsOf 0 false x (before_end tokens) pieces) (sym text_is)
    (subst (λ us. ConsistsOf 0 false (text_of w.parts w.end) us pieces) (sym (before-end h.tokens p)) r.consists) in
    let read : seen text pieces ≡ layout_seen l.tree xs = ap (λ x. seen x pieces) text_is ∙ r.seen ∙ w.read in
    let cs = comments_before 0 false (layout_seen l.tree xs) in
    let ways_like = files-like cs s.again t.tree t.like.uses t.like.decls in
    let again : IsLaidOut text text = record {
      tokens = tokens;
      are = are;
      tree = t.tree;
      file_is = t.file_is;
      pieces = pieces;
      cut = record { tokens = tokens; are = are; consists = consists };
      text_is = sym s.stays ∙ ap (λ vs. written vs (layout_seen l.tree xs)) ways_like ∙ ap (layout t.tree) (sym read);
    } in
    record {
      again = again;
      tokens = sym (tokens-like s.again t.tree i t.file_is.file_is t.like) ∙ ap spell_file s.same;
      comments = ap comments_of read ∙ comments-stay ws xs;
    }
