-- The first syntax fault at the tokens of a file.
use Rattle.std.proofs.Common.{◌≡◌, ℕ, suc, ◌<◌, List, [], ◌∷◌, ◌++◌, Bool, true, false, ◌&&◌, not, map, take, length, refl, ap, sym, ◌∙◌, subst, append_assoc}
use Rattle.hare_tree.specs.declared.token.Token.{Token}
use Rattle.hare_tree.specs.declared.tree.FileTree.{FileTree}
use Rattle.hare_tree.specs.Spell.{spell_file}
use Rattle.hare_tree.specs.Shape.{is_shaped_file}
use Rattle.hare_tree.specs.Grammar.{is_proper_string, joined_to, joined, ends_in_string, unplaced, Spells, files, IsViable, IsSyntaxFault}
use Rattle.hare_automaton.specs.Classes.{class_of}
use Rattle.hare_automaton.specs.Engine.{Group, Done, run, bottom}
use Rattle.hare_automaton.specs.OneTree.{file_symbols}
use Rattle.hare_prefixes.specs.Viable.{BeginsFile}
use Rattle.hare_prefixes.specs.Faults.{FileRunsFault, FileRunsAreOver, FileRunsUseAll, FileRunsUseNoEnd}
use Rattle.hare_prefixes.proofs.Completion.Viable.{stuck_at, EndsAt, ends_at, used_up, end}
use Rattle.hare_prefixes.proofs.Outcomes.Breaks.{file_viable, file_not_viable, nothing_more, is_the_end, whole_file}
use Rattle.hare_prefixes.proofs.Soundness.TokenKinds.{is_junk, class_unplaced}
use Rattle.hare_prefixes.proofs.Joining.UsedApart.{apart, used_up_apart, apart_proper}
use Rattle.hare_prefixes.proofs.Joining.Joined.{head, joined_append}
use Rattle.hare_prefixes.proofs.Joining.Places.{cut, Spot, spot}
use Rattle.hare_prefixes.proofs.FirstFault.Faults.{file_loose, goes_back, comes_back, same_class, stuck_like, ends_like, before_spot}

-- ---- files

file_front_viable : (front : List Token) → BeginsFile (joined front) → IsViable files front
file_front_viable front q = (
  q.tree,
  record {
    shaped = q.shaped;
    behind = q.behind;
    spelled = goes_back (spell_file q.tree) front q.behind
        (file_loose q.tree q.shaped) q.spelled;
  },
)

-- the joined tokens with which a file begins that goes on with a front of the file's tokens
abbrev file_back : (front : List Token) (first : Token) (behind : List Token) (tree : FileTree) → is_shaped_file tree ≡ true →
    (ends_in_string front && is_proper_string first) ≡ false → Spells (spell_file tree) ((front ++ first ∷ []) ++ behind) →
    BeginsFile (joined front ++ (head first behind).first ∷ [])
file_back front first behind tree h p i =
    record { tree = tree; behind = (head first behind).rest; shaped = h; spelled = comes_back (spell_file tree) front first behind p i }

file_none : (ts : List Token) (n : ℕ) (t : Token) (rest u : List Token) → (p : Spot ts n t rest) → u ≡ joined (take n ts) →
    ((z : Token) → class_of z ≡ class_of t → is_proper_string z ≡ is_proper_string p.cut.first →
    (is_proper_string p.cut.first ≡ false → z ≡ p.cut.first) → BeginsFile (u ++ z ∷ []) → ⊥) → IsViable files (take (suc n) ts) → ⊥
file_none ts n t rest u p e k v =
    let g = v.1 in
    let x = p.cut.first in
    let h = head x g.behind in
    let i : Spells (spell_file v.0) ((take n ts ++ x ∷ []) ++ g.behind) =
    subst (λ l. Spells (spell_file v.0) (l ++ g.behind)) p.cut.next g.spelled in
    let b = file_back (take n ts) x g.behind v.0 g.shaped p.apart i in
    k h.first (same_class x g.behind p.cut.behind h p.head ∙ ap class_of (sym p.is)) h.proper h.same
    (subst (λ l. BeginsFile (l ++ h.first ∷ [])) (sym e) b)

pub file_runs_fault : FileRunsFault
file_runs_fault file ts n t rest e q =
    let p = stuck_at file (joined ts) file_symbols bottom t rest refl e in
    let o = spot ts n t rest q in
    let b = before_spot ts n t rest p.u o p.is in
    record {
      within = o.within;
      before = file_front_viable (take n ts) (subst BeginsFile b (file_viable file p.u p.stop));
      ends = file_none ts n t rest p.u o b (λ z i j l. file_not_viable file (p.u ++ z ∷ []) z []
          (stuck_like file (joined ts) file_symbols bottom t z rest p i));
    }

-- End is no string
end_proper : (z : Token) → unplaced z ≡ end → is_proper_string z ≡ false
end_proper z e = ap is_proper_string e

-- at a token that is not End no file goes on
no_end_fault : (file : ℕ) (ts : List Token) (n : ℕ) (t : Token) (rest : List Token)
    (p : EndsAt file (joined ts) file_symbols bottom t rest) → (o : Spot ts n t rest) → p.u ≡ joined (take n ts) → (unplaced t ≡ end → ⊥) →
    IsSyntaxFault files ts n
no_end_fault file ts n t rest p o b other =
    record {
      within = o.within;
      before = file_front_viable (take n ts) (subst BeginsFile b (file_viable file p.u p.stop));
      ends = file_none ts n t rest p.u o b (λ z i j l y. none z i j l y);
    }
  where
    none : (z : Token) → class_of z ≡ class_of t → is_proper_string z ≡ is_proper_string o.cut.first →
        (is_proper_string o.cut.first ≡ false → z ≡ o.cut.first) → BeginsFile (p.u ++ z ∷ []) → ⊥
    none z i j l y =
        let x = is_the_end file (p.u ++ z ∷ []) z [] (ends_like file (joined ts) file_symbols bottom t z rest p i) y in
        let d : is_proper_string o.cut.first ≡ false = sym j ∙ end_proper z x in
        other (ap unplaced (o.is ∙ o.head.same d ∙ sym (l d)) ∙ x)

-- End stands by itself
end_first : (ts : List Token) (n : ℕ) (t : Token) (rest : List Token) → (o : Spot ts n t rest) → unplaced t ≡ end → (t ≡ o.cut.first) ×
    (is_proper_string o.cut.first ≡ false)
end_first ts n t rest o e =
    let d : is_proper_string o.cut.first ≡ false = sym o.head.proper ∙ ap is_proper_string (sym o.is) ∙ end_proper t e in
    (o.is ∙ o.head.same d, d)

end_viable : (file : ℕ) (ts : List Token) (n : ℕ) (t : Token) (rest : List Token) (made : List Group)
    (p : EndsAt file (joined ts) file_symbols bottom t rest) → (o : Spot ts n t rest) → p.u ≡ joined (take n ts) →
    run file (joined ts) file_symbols bottom ≡ Done (t ∷ rest) made → unplaced t ≡ end → IsViable files (take (suc n) ts)
end_viable file ts n t rest made p o b e i =
    let d = end_first ts n t rest o i in
    let x = o.cut.first in
    let w : joined (take (suc n) ts) ≡ p.u ++ t ∷ [] =
    ap joined o.cut.next ∙ joined_append (take n ts) (x ∷ []) o.apart ∙ ap (λ l. l ++ x ∷ []) (sym b) ∙ ap (λ y. p.u ++ y ∷ [])
    (sym d.0) in
    file_front_viable (take (suc n) ts) (subst BeginsFile (sym w) (whole_file file (joined ts) t rest made p e i))

-- behind End nothing goes on
behind_end : (file : ℕ) (ts : List Token) (n : ℕ) (t : Token) (rest : List Token) (p : EndsAt file (joined ts) file_symbols bottom t rest) →
    (o : Spot ts n t rest) → p.u ≡ joined (take n ts) → unplaced t ≡ end → suc n < length ts → IsViable files (take (suc (suc n)) ts) → ⊥
behind_end file ts n t rest p o b i m v =
    let g = v.1 in
    let x = o.cut.first in
    let c = cut ts (suc n) m in
    let y = c.first in
    let d = end_first ts n t rest o i in
    let h = head x (y ∷ g.behind) in
    let l : take (suc (suc n)) ts ++ g.behind ≡ (take n ts ++ x ∷ []) ++ y ∷ g.behind =
    ap (λ l. l ++ g.behind) (c.next ∙ ap (λ l. l ++ y ∷ []) o.cut.next) ∙ append_assoc (take n ts ++ x ∷ []) (y ∷ []) g.behind in
    let q = file_back (take n ts) x (y ∷ g.behind) v.0 g.shaped o.apart (subst (λ l. Spells (spell_file v.0) l) l g.spelled) in
    let k = ends_like file (joined ts) file_symbols bottom t h.first rest p (ap class_of (h.same d.1 ∙ sym d.0)) in
    let r : BeginsFile (p.u ++ h.first ∷ []) = subst (λ l. BeginsFile (l ++ h.first ∷ [])) (sym b) q in
    let z : h.rest ≡ [] = nothing_more file (p.u ++ h.first ∷ []) h.first [] k []
    (record {
      tree = v.0;
      behind = h.rest;
      shaped = g.shaped;
      spelled = subst
          (λ l. map unplaced (spell_file v.0) ≡ map unplaced ((l ++ h.first ∷ []) ++ h.rest)) (sym b) q.spelled;
    }) in
    let s = head y g.behind in
    let j : joined (x ∷ y ∷ g.behind) ≡ x ∷ s.first ∷ s.rest = ap (joined_to x) s.is ∙ rw d.1 refl in
    let f : h.first ∷ [] ≡ x ∷ s.first ∷ s.rest = ap (λ l. h.first ∷ l) (sym z) ∙ sym h.is ∙ j in
    cc

pub file_runs_are_over : FileRunsAreOver
file_runs_are_over file ts n t rest made e q =
    let p = ends_at file (joined ts) file_symbols bottom t rest made refl e in
    let o = spot ts n t rest q in
    let b = before_spot ts n t rest p.u o p.is in
    record {
      no_end = λ x. no_end_fault file ts n t rest p o b x;
      whole = λ i. end_viable file ts n t rest made p o b e i;
      more = λ i m. record {
        within = m;
        before = end_viable file ts n t rest made p o b e i;
        ends = behind_end file ts n t rest p o b i m;
      };
    }

pub file_runs_use_all : FileRunsUseAll
file_runs_use_all file ts e = file_front_viable ts (file_viable file (joined ts) (used_up file (joined ts) file_symbols bottom refl e))

pub file_runs_use_no_end : FileRunsUseNoEnd
file_runs_use_no_end file before t rest i e =
    let h = head t rest in
    let n : is_proper_string t ≡ false = end_proper t i in
    let w : joined (before ++ t ∷ rest) ≡ joined before ++ t ∷ h.rest =
    joined_append before (t ∷ rest) (none (ends_in_string before) (is_proper_string t) n) ∙ ap (λ l. joined before ++ l)
    (h.is ∙ ap (λ z. z ∷ h.rest) (h.same n)) in
    let a : apart false (joined before ++ t ∷ h.rest) ≡ true =
    ap (apart false) (sym w) ∙ used_up_apart file (joined (before ++ t ∷ rest)) false file_symbols bottom refl (λ x. cc) e in
    let c : not (is_junk (class_of t)) ≡ false = ap (λ k. not (is_junk k)) (sym (class_unplaced t) ∙ ap class_of i) in
    let d = apart_proper false (joined before) t h.rest a in
    cc
  where
    none : (a b : Bool) → b ≡ false → (a && b) ≡ false
    none a true e = cc
    none true false e = refl
    none false false e = refl
