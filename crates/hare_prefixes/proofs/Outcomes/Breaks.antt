-- What each outcome of a run says of the tokens, of sorts and of files.
use Rattle.std.proofs.Common.{◌≡◌, ℕ, List, [], ◌∷◌, ◌++◌, Bool, true, ◌&&◌, map, length, refl, ap, sym, ◌∙◌, arith, append_assoc}
use Rattle.std.specs.Prelude.{nat_le}
use Rattle.std.specs.List.{list_all}
use Rattle.std.proofs.lemmas.List.{append-nil, map-append, append_cancel_right}
use Rattle.hare_tree.specs.declared.token.TokenKind.TheVariants as tk
use Rattle.hare_tree.specs.declared.token.Token.{Token}
use Rattle.hare_tree.specs.declared.form.Sort.{Sort}
use Rattle.hare_tree.specs.declared.form.Sort.TheVariants as so
use Rattle.hare_tree.specs.declared.tree.FileTree.{FileTree}
use Rattle.hare_tree.specs.Spell.{word_token, spell_all, spell_file}
use Rattle.hare_tree.specs.Shape.{is_shaped, is_shaped_file}
use Rattle.hare_tree.specs.Grammar.{unplaced}
use Rattle.hare_automaton.specs.declared.class.Class.TheVariants as cl
use Rattle.hare_automaton.specs.Rows.{of}
use Rattle.hare_automaton.specs.Engine.{Group, Done, Fails, run, bottom}
use Rattle.hare_automaton.specs.OneTree.{is_sort, file_symbols}
use Rattle.hare_automaton.proofs.Spelled.Paths.{split}
use Rattle.hare_automaton.proofs.Spelled.Files.{read_file}
use Rattle.hare_prefixes.specs.Viable.{has_trees, RunsBreak, RunsAreLongest, RunsGoOn, BeginsFile, FileRunsBreak, FileRunsEnd, FileRunsGoOn}
use Rattle.hare_prefixes.proofs.Soundness.Readings.{runs_read_files}
use Rattle.hare_prefixes.proofs.Completion.Endings.{good}
use Rattle.hare_prefixes.proofs.Outcomes.Alike.{classes, Alike, alike}
use Rattle.hare_prefixes.proofs.Completion.Viable.{Stopped, StuckAt, stuck_at, EndsAt, ends_at, used_up, end, goes_on, viable, not_viable, ends_whole, same_classes, not_done, fails_there, done_there, done_lengths}

-- ---- sorts

pub trees_sort : (s : Sort) → has_trees s ≡ true → is_sort s ≡ true
trees_sort (so.Level l) e = (split (nat_le 1 l) (nat_le l 16) e).0
trees_sort so.Left e = cc
trees_sort so.Right e = cc
trees_sort _ e = refl

-- a tree of the sort may stand at the end
pub trees_end : (s : Sort) → has_trees s ≡ true → good (of s ∷ []) cl.Junk ≡ true
trees_end (so.Level l) e = let p = split (nat_le 1 l) (nat_le l 16) e in rw (p.0, p.1) refl
trees_end so.Left e = cc
trees_end so.Right e = cc
trees_end _ e = refl

pub runs_break : RunsBreak
runs_break s c file ts t rest e =
    let p = stuck_at file ts (of s ∷ []) bottom t rest (trees_end s c) e in
    record { before = p.u; split = p.is; begins = viable s file p.u p.stop; ends = not_viable s file ts t rest (trees_sort s c) p }

pub runs_are_longest : RunsAreLongest
runs_are_longest s c file ts t rest made e =
    let p = ends_at file ts (of s ∷ []) bottom t rest made (trees_end s c) e in
    record { before = p.u; split = p.is; begins = viable s file p.u p.stop; ends = ends_whole s file ts t rest (trees_sort s c) p }

pub runs_go_on : RunsGoOn
runs_go_on s c file ts e = viable s file ts (used_up file ts (of s ∷ []) bottom (trees_end s c) e)

-- ---- files

pub twice : (u : List Token) → map unplaced (map unplaced u) ≡ map unplaced u
twice [] = refl
twice (t ∷ u) = ap (λ l. unplaced t ∷ l) (twice u)

pub both : (a b : Bool) → a ≡ true → b ≡ true → (a && b) ≡ true
both a b p q = rw (p, q) refl

-- a file of these imports and declarations
file_begins : (f : ℕ) (u more : List Token) (made : List Group) →
    run f (u ++ (more ++ end ∷ [])) file_symbols bottom ≡ Done (end ∷ []) made → (tree : FileTree) × (is_shaped_file tree ≡ true) ×
    (map unplaced (spell_file tree) ≡ map unplaced (u ++ more) ++ end ∷ [])
file_begins f u more made e =
    let r = runs_read_files f (u ++ (more ++ end ∷ [])) (end ∷ []) made e in
    let i : r.used ≡ u ++ more = sym (append_cancel_right (u ++ more) r.used (end ∷ []) (append_assoc u more (end ∷ []) ∙ r.split)) in
    let x = spell_all 0 r.uses in
    let y = spell_all 0 r.decls in
    let w : map unplaced (x ++ (y ++ end ∷ [])) ≡ map unplaced (u ++ more) ++ end ∷ [] =
    ap (map unplaced) (sym (append_assoc x y (end ∷ []))) ∙ map-append unplaced (x ++ y) (end ∷ []) ∙ ap (λ l. map unplaced l ++ end ∷ [])
    r.spelled ∙ ap (λ l. l ++ end ∷ []) (twice r.used) ∙ ap (λ l. map unplaced l ++ end ∷ []) i in (
      record { file = 0; uses = r.uses; decls = r.decls },
      both (list_all (is_shaped so.Use) r.uses) (list_all (is_shaped so.Decl) r.decls)
          r.uses_shaped r.decls_shaped,
      w,
    )

pub file_viable : (f : ℕ) (u : List Token) → Stopped f u file_symbols bottom → BeginsFile u
file_viable f u p =
    let g = goes_on f u file_symbols bottom p in
    let r = file_begins f u g.0 g.1 g.2 in
    let w : map unplaced (u ++ g.0) ++ end ∷ [] ≡ map unplaced (u ++ (g.0 ++ end ∷ [])) =
    sym (map-append unplaced (u ++ g.0) (end ∷ [])) ∙ ap (map unplaced) (append_assoc u g.0 (end ∷ [])) in
    record { tree = r.0; behind = g.0 ++ end ∷ []; shaped = r.1; spelled = r.2 ∙ w }

-- the run over a file's tokens, in front of which these stand
file_alike : (f : ℕ) (u : List Token) (q : BeginsFile u) →
    Alike (run f (u ++ q.behind) file_symbols bottom) (run q.tree.file (spell_file q.tree) file_symbols bottom)
file_alike f u q =
    let e : classes (u ++ q.behind) ≡ classes (spell_file q.tree) =
    sym (same_classes (u ++ q.behind)) ∙ ap classes (sym q.spelled) ∙ same_classes (spell_file q.tree) in
    alike f q.tree.file (u ++ q.behind) (spell_file q.tree) file_symbols bottom bottom e

pub file_not_viable : (f : ℕ) (w : List Token) (t : Token) (v : List Token) → (p : StuckAt f w file_symbols bottom t v) →
    BeginsFile (p.u ++ t ∷ []) → ⊥
file_not_viable f w t v p q =
    let x = q.behind in
    let a : run f ((p.u ++ t ∷ []) ++ x) file_symbols bottom ≡ Fails (t ∷ x) =
    ap (λ l. run f l file_symbols bottom) (append_assoc p.u (t ∷ []) x) ∙ p.stop.same (t ∷ x) ∙ fails_there f t x p.stop.rest
    p.stop.trees p.stuck in
    not_done _ _ _ _ _ a (read_file q.tree q.shaped) (file_alike f (p.u ++ t ∷ []) q)

pub file_runs_break : FileRunsBreak
file_runs_break file ts t rest e =
    let p = stuck_at file ts file_symbols bottom t rest refl e in
    record { before = p.u; split = p.is; begins = file_viable file p.u p.stop; ends = file_not_viable file ts t rest p }

-- what stands behind the token at which imports and declarations are over
pub nothing_more : (f : ℕ) (w : List Token) (t : Token) (v : List Token) (p : EndsAt f w file_symbols bottom t v) (y : List Token)
    (q : BeginsFile (p.u ++ t ∷ y)) → y ++ q.behind ≡ []
nothing_more f w t v p y q =
    let x = y ++ q.behind in
    let a : run f ((p.u ++ t ∷ y) ++ q.behind) file_symbols bottom ≡ Done (t ∷ x) p.made =
    ap (λ l. run f l file_symbols bottom) (append_assoc p.u (t ∷ y) q.behind) ∙ p.stop.same (t ∷ x) ∙ done_there f t x p.stop.rest
    p.stop.trees p.made p.over in
    let n : length (t ∷ x) ≡ length (end ∷ []) =
    done_lengths _ _ (t ∷ x) (word_token q.tree.file tk.End [] ∷ []) _ _ a (read_file q.tree q.shaped)
    (file_alike f (p.u ++ t ∷ y) q) in
    empty x n
  where
    empty : (x : List Token) → length (t ∷ x) ≡ length (end ∷ []) → x ≡ []
    empty [] n = refl
    empty (z ∷ x) n = absurd (omega (arith, n))

-- the last token of a list
abbrev pub last_of : Token → List Token → Token
last_of t [] = t
last_of t (y ∷ ys) = last_of y ys

pub last_behind : (z : Token) (u : List Token) (t : Token) → last_of z (u ++ t ∷ []) ≡ t
last_behind z [] t = refl
last_behind z (y ∷ u) t = last_behind y u t

pub file_last : (z : Token) (tree : FileTree) → last_of z (map unplaced (spell_file tree)) ≡ end
file_last z tree =
    let x = spell_all tree.file tree.uses in
    let y = spell_all tree.file tree.decls in
    let k = word_token tree.file tk.End [] in
    ap (λ l. last_of z (map unplaced l)) (sym (append_assoc x y (k ∷ []))) ∙ ap (last_of z) (map-append unplaced (x ++ y) (k ∷ [])) ∙
    last_behind z (map unplaced (x ++ y)) end

pub is_the_end : (f : ℕ) (w : List Token) (t : Token) (v : List Token) (p : EndsAt f w file_symbols bottom t v) →
    BeginsFile (p.u ++ t ∷ []) → unplaced t ≡ end
is_the_end f w t v p q =
    let no : q.behind ≡ [] = nothing_more f w t v p [] q in
    let e : map unplaced (spell_file q.tree) ≡ map unplaced p.u ++ unplaced t ∷ [] =
    q.spelled ∙ ap (λ l. map unplaced ((p.u ++ t ∷ []) ++ l)) no ∙ ap (map unplaced) (append-nil (p.u ++ t ∷ [])) ∙ map-append unplaced
    p.u (t ∷ []) in
    sym (last_behind t (map unplaced p.u) (unplaced t)) ∙ ap (last_of t) (sym e) ∙ file_last t q.tree

-- End makes the file whole
pub whole_file : (f : ℕ) (ts : List Token) (t : Token) (v : List Token) (made : List Group) (p : EndsAt f ts file_symbols bottom t v) →
    run f ts file_symbols bottom ≡ Done (t ∷ v) made → unplaced t ≡ end → BeginsFile (p.u ++ t ∷ [])
whole_file f ts t v made p e i =
    let r = runs_read_files f ts (t ∷ v) made e in
    let j : r.used ≡ p.u = append_cancel_right r.used p.u (t ∷ v) (sym r.split ∙ p.is) in
    let x = spell_all 0 r.uses in
    let y = spell_all 0 r.decls in
    let w : map unplaced (x ++ (y ++ end ∷ [])) ≡ map unplaced ((p.u ++ t ∷ []) ++ []) =
    ap (map unplaced) (sym (append_assoc x y (end ∷ []))) ∙ map-append unplaced (x ++ y) (end ∷ []) ∙ ap (λ l. map unplaced l ++ end ∷ [])
    r.spelled ∙ ap (λ l. l ++ end ∷ []) (twice r.used) ∙ ap (λ l. map unplaced l ++ end ∷ []) j ∙ ap (λ z. map unplaced p.u ++ z ∷ [])
    (sym i) ∙ sym (map-append unplaced p.u (t ∷ [])) ∙ ap (map unplaced) (sym (append-nil (p.u ++ t ∷ []))) in
    record {
      tree = record { file = 0; uses = r.uses; decls = r.decls };
      behind = [];
      shaped = both (list_all (is_shaped so.Use) r.uses)
          (list_all (is_shaped so.Decl) r.decls) r.uses_shaped r.decls_shaped;
      spelled = w;
    }

pub file_runs_end : FileRunsEnd
file_runs_end file ts t rest made e =
    let p = ends_at file ts file_symbols bottom t rest made refl e in
    record {
      before = p.u;
      split = p.is;
      begins = file_viable file p.u p.stop;
      is_end = is_the_end file ts t rest p;
      whole = whole_file file ts t rest made p e;
      nothing_behind = λ u q. nothing_one u q.behind (nothing_more file ts t rest p (u ∷ []) q);
    }
  where
    nothing_one : (u : Token) (x : List Token) → (u ∷ []) ++ x ≡ [] → ⊥
    nothing_one u x i = cc

pub file_runs_go_on : FileRunsGoOn
file_runs_go_on file ts e = file_viable file ts (used_up file ts file_symbols bottom refl e)
