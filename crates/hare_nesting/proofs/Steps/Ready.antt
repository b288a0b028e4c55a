-- What a rule needs of the trees under way is there where it comes to stand on top.
use Rattle.std.proofs.Common.{◌≡◌, ℕ, suc, List, [], ◌∷◌, ◌++◌, Bool, true, false, ◌&&◌, ◌||◌, ◌==◌, refl, ap, ◌∙◌, arith, if◌then◌else◌}
use Rattle.std.specs.Prelude.{nat_le}
use Rattle.std.specs.List.{list_all}
use Rattle.hare_tree.specs.declared.kind.Kind.{Kind}
use Rattle.hare_tree.specs.declared.kind.Kind.TheVariants as ki
use Rattle.hare_tree.specs.Depth.{is_node}
use Rattle.hare_automaton.specs.declared.rule.Rule.TheVariants as ru
use Rattle.hare_automaton.specs.declared.rule.Symbol.{Symbol}
use Rattle.hare_automaton.specs.declared.rule.Symbol.TheVariants as sy
use Rattle.hare_automaton.specs.declared.rule.Change.{Change}
use Rattle.hare_automaton.specs.declared.rule.Change.TheVariants as ch
use Rattle.hare_automaton.proofs.Spelled.Paths.{split}
use Rattle.hare_automaton.proofs.Machine.Edges.{true_le}
use Rattle.hare_nesting.specs.Marks.{Frame, leaf_mark, put, close, changed, all_changed}
use Rattle.hare_nesting.proofs.UnderWay.Stacks.{is_ordered, ends_in_operand, ready_frames, ready}
use Rattle.hare_nesting.proofs.UnderWay.Grown.{behind_later}
use Rattle.hare_nesting.proofs.UnderWay.Operands.{put_operand, close_operand}
use Rattle.hare_nesting.proofs.CheckedRows.Slots.{all_undone, is_quiet, is_loud, is_still, tame, is_operand, is_put, ends_in, is_twice}
use Rattle.hare_nesting.proofs.CheckedRows.Slots.{is_begun, is_begun_behind, is_named, made_for, hands_on, prepared}
use Rattle.hare_nesting.proofs.Steps.Stands.{at_most, Stands, quiet_stands, loud_stands}

-- ---- an operand that is put

abbrev pub operand_on_top : List Frame → Bool
operand_on_top [] = true
operand_on_top (f ∷ fs) = ends_in_operand f.at f.kids

leaf_on_top : (n : ℕ) (k : Kind) (fs : List Frame) → is_node k ≡ true → at_most n fs ≡ true → operand_on_top (put (leaf_mark k n) fs) ≡ true
leaf_on_top n k [] a p = refl
leaf_on_top n k (f ∷ fs) a p = put_operand (leaf_mark k n) f a
    (behind_later f.at f.kids (leaf_mark k n) (true_le f.at n (split (nat_le f.at n) (at_most n fs) p).0))

pub close_on_top : (k : Kind) (fs : List Frame) → is_node k ≡ true → is_ordered fs ≡ true → operand_on_top (close k fs) ≡ true
close_on_top k [] a o = refl
close_on_top k (f ∷ []) a o = refl
close_on_top k (f ∷ g ∷ fs) a o = close_operand k f g fs a o

-- ---- the last changes

pub still_frames : (n : ℕ) (cs : List Change) (fs : List Frame) → list_all is_still cs ≡ true → all_changed n cs fs ≡ fs
unfolding all_changed
still_frames n [] fs e = refl
still_frames n (ch.Take ∷ cs) fs e = still_frames n cs fs e
still_frames n (ch.Join ∷ cs) fs e = still_frames n cs fs e
still_frames n (c ∷ cs) fs e = cc

still_tame : (cs : List Change) (bs : List Bool) → list_all is_still cs ≡ true → tame cs bs ≡ true
still_tame [] bs e = refl
still_tame (ch.Take ∷ cs) bs e = still_tame cs bs e
still_tame (ch.Join ∷ cs) bs e = still_tame cs bs e
still_tame (c ∷ cs) bs e = cc

-- what holds behind a tame change
tame_stands : (n : ℕ) (c : Change) (cs : List Change) (bs : List Bool) (fs : List Frame) → tame (c ∷ cs) bs ≡ true →
    Stands n (suc n) (all_undone (c ∷ cs) bs) fs → (tame cs bs ≡ true) × Stands n (suc n) (all_undone cs bs) (changed n c fs)
tame_stands n c cs bs fs e s = by (is_quiet c (all_undone cs bs)) refl e
  where
    by : (b : Bool) → is_quiet c (all_undone cs bs) ≡ b →
        (if b then tame cs bs else is_loud c (all_undone cs bs) && list_all is_still cs) ≡ true → (tame cs bs ≡ true) ×
        Stands n (suc n) (all_undone cs bs) (changed n c fs)
    by true q i = (i, quiet_stands n c (all_undone cs bs) fs q s)
    by false q i =
        let p = split (is_loud c (all_undone cs bs)) (list_all is_still cs) i in
        (still_tame cs bs p.1, loud_stands n c (all_undone cs bs) fs p.0 s)

-- what the last changes make is there behind all
ends_make : (test : List Change → Bool) (made : List Frame → Bool) (n : ℕ) (bs : List Bool) →
    ((cs : List Change) (fs : List Frame) → test cs ≡ true → Stands n (suc n) (all_undone cs bs) fs → made (all_changed n cs fs) ≡ true) →
    (cs : List Change) (fs : List Frame) → tame cs bs ≡ true → ends_in test cs ≡ true → Stands n (suc n) (all_undone cs bs) fs →
    made (all_changed n cs fs) ≡ true
unfolding all_changed
ends_make test made n bs h [] fs e i s = h [] fs i s
ends_make test made n bs h (c ∷ cs) fs e i s =
    let p = tame_stands n c cs bs fs e s in
    by (test (c ∷ cs)) refl i (λ j. ends_make test made n bs h cs (changed n c fs) p.0 j p.1)
  where
    by : (b : Bool) → test (c ∷ cs) ≡ b → (b || ends_in test cs) ≡ true →
        (ends_in test cs ≡ true → made (all_changed n cs (changed n c fs)) ≡ true) → made (all_changed n (c ∷ cs) fs) ≡ true
    by true q i k = h (c ∷ cs) fs q s
    by false q i k = k i

put_made : (n : ℕ) (bs : List Bool) (cs : List Change) (fs : List Frame) → is_put cs ≡ true → Stands n (suc n) (all_undone cs bs) fs →
    operand_on_top (all_changed n cs fs) ≡ true
unfolding all_changed
put_made n bs [] fs e s = cc
put_made n bs (c ∷ cs) fs e s =
    let p = split (is_operand c) (list_all is_still cs) e in
    ap operand_on_top (still_frames n cs (changed n c fs) p.1) ∙ by c p.0 s
  where
    by : (c : Change) → is_operand c ≡ true → Stands n (suc n) (all_undone (c ∷ cs) bs) fs → operand_on_top (changed n c fs) ≡ true
    by (ch.Mark k) i s = leaf_on_top n k fs i s.placed
    by (ch.Leaf k) i s = leaf_on_top n k fs i s.placed
    by (ch.Close k) i s = close_on_top k fs i s.ordered
    by _ i s = cc

pub operand_made : (n : ℕ) (bs : List Bool) (cs : List Change) (fs : List Frame) → tame cs bs ≡ true → ends_in is_put cs ≡ true →
    Stands n (suc n) (all_undone cs bs) fs → operand_on_top (all_changed n cs fs) ≡ true
operand_made n bs cs fs e i s = ends_make is_put operand_on_top n bs (put_made n bs) cs fs e i s

-- ---- what symbols need

same_number : (n : ℕ) → (n == n) ≡ true
same_number n = grind arith

twice_made : (n : ℕ) (cs : List Change) (fs : List Frame) → is_twice cs ≡ true →
    ready_frames (sy.Part ru.PathOrStruct) (all_changed n cs fs) ≡ true
unfolding all_changed
twice_made n (ch.Open ∷ ch.Open ∷ cs) fs e =
    ap (ready_frames (sy.Part ru.PathOrStruct)) (still_frames n cs (record { at = n; kids = [] } ∷ record { at = n; kids = [] } ∷ fs) e) ∙
    same_number n
twice_made n (ch.Open ∷ _) fs e = cc
twice_made n _ fs e = cc

begun_made : (n : ℕ) (cs : List Change) (fs : List Frame) → is_begun cs ≡ true → all_changed n cs fs ≡ record { at = n; kids = [] } ∷ fs
unfolding all_changed
begun_made n (ch.Open ∷ []) fs e = refl
begun_made n (ch.Open ∷ c ∷ cs) fs e = cc
begun_made n _ fs e = cc

behind_made : (n : ℕ) (cs : List Change) (fs : List Frame) → is_begun_behind cs ≡ true →
    ready_frames (sy.Part ru.BehindElementComma) (all_changed n cs fs) ≡ true
unfolding all_changed
behind_made n (ch.Open ∷ ch.Absent ∷ ch.Open ∷ []) fs e = refl
behind_made n (ch.Open ∷ ch.Absent ∷ ch.Open ∷ c ∷ cs) fs e = cc
behind_made n (ch.Open ∷ ch.Absent ∷ _) fs e = cc
behind_made n (ch.Open ∷ _) fs e = cc
behind_made n _ fs e = cc

named_made : (n : ℕ) (cs : List Change) (fs : List Frame) → is_named cs ≡ true →
    ready_frames (sy.Part ru.AfterUseName) (all_changed n cs fs) ≡ true
unfolding all_changed
named_made n (ch.Open ∷ ch.Leaf ki.Name ∷ []) fs e = refl
named_made n (ch.Open ∷ ch.Leaf ki.Name ∷ c ∷ cs) fs e = cc
named_made n (ch.Open ∷ ch.Leaf _ ∷ cs) fs e = cc
named_made n (ch.Open ∷ _) fs e = cc
named_made n _ fs e = cc

pub operand_ready : (l h : ℕ) (fs : List Frame) → operand_on_top fs ≡ true → ready_frames (sy.Part (ru.Climb l h)) fs ≡ true
operand_ready l h [] e = refl
operand_ready l h (f ∷ fs) e = e

pub made_ready : (n : ℕ) (bs : List Bool) (cs : List Change) (fs : List Frame) (s : Symbol) → tame cs bs ≡ true → made_for cs s ≡ true →
    Stands n (suc n) (all_undone cs bs) fs → ready_frames s (all_changed n cs fs) ≡ true
made_ready n bs cs fs (sy.Part (ru.Climb l h)) e i s = operand_ready l h (all_changed n cs fs) (operand_made n bs cs fs e i s)
made_ready n bs cs fs (sy.Part ru.PathOrStruct) e i s =
    ends_make is_twice (ready_frames (sy.Part ru.PathOrStruct)) n bs (λ ds gs j z. twice_made n ds gs j) cs fs e i s
made_ready n bs cs fs (sy.Part (ru.BehindComma r)) e i s =
    ends_make is_begun (ready_frames (sy.Part (ru.BehindComma r))) n bs
    (λ ds gs j z. ap (ready_frames (sy.Part (ru.BehindComma r))) (begun_made n ds gs j)) cs fs e i s
made_ready n bs cs fs (sy.Part ru.BehindElementComma) e i s =
    ends_make is_begun_behind (ready_frames (sy.Part ru.BehindElementComma)) n bs (λ ds gs j z. behind_made n ds gs j) cs fs e i s
made_ready n bs cs fs (sy.Part ru.AfterForName) e i s =
    ends_make is_begun (ready_frames (sy.Part ru.AfterForName)) n bs
    (λ ds gs j z. ap (ready_frames (sy.Part ru.AfterForName)) (begun_made n ds gs j)) cs fs e i s
made_ready n bs cs fs (sy.Part ru.AfterUseName) e i s =
    ends_make is_named (ready_frames (sy.Part ru.AfterUseName)) n bs (λ ds gs j z. named_made n ds gs j) cs fs e i s
made_ready n bs cs fs _ e i s = refl

-- ---- what stands on top

pub ready_first : (s : Symbol) (st : List Symbol) (fs : List Frame) → hands_on s ≡ false → ready (s ∷ st) fs ≡ ready_frames s fs
ready_first (sy.Part ru.PathName) st fs e = cc
ready_first (sy.Part (ru.Own o)) st fs e = cc
ready_first s st fs e = refl

pub ready_second : (s d : Symbol) (st : List Symbol) (fs : List Frame) → hands_on s ≡ true → ready (s ∷ d ∷ st) fs ≡ ready_frames d fs
ready_second (sy.Part ru.PathName) d st fs e = refl
ready_second (sy.Part (ru.Own o)) d st fs e = refl
ready_second s d st fs e = cc

-- where the changes make what the symbols need, they are ready
pub prepared_ready : (cs : List Change) (s : Symbol) (rs st : List Symbol) (fs : List Frame) → prepared cs (s ∷ rs) ≡ true →
    ((d : Symbol) → made_for cs d ≡ true → ready_frames d fs ≡ true) → ready (s ∷ (rs ++ st)) fs ≡ true
prepared_ready cs s [] st fs e h = by (hands_on s) refl e
  where
    by : (b : Bool) → hands_on s ≡ b → (if b then false else made_for cs s) ≡ true → ready (s ∷ st) fs ≡ true
    by true q i = cc
    by false q i = ready_first s st fs q ∙ h s i
prepared_ready cs s (d ∷ rs) st fs e h = by (hands_on s) refl e
  where
    by : (b : Bool) → hands_on s ≡ b → (if b then made_for cs d else made_for cs s) ≡ true → ready (s ∷ d ∷ (rs ++ st)) fs ≡ true
    by true q i = ready_second s d (rs ++ st) fs q ∙ h d i
    by false q i = ready_first s (d ∷ (rs ++ st)) fs q ∙ h s i

-- where nothing is made, the symbols need nothing
nothing_made : (d : Symbol) (fs : List Frame) → made_for [] d ≡ true → ready_frames d fs ≡ true
nothing_made (sy.Part (ru.Climb l h)) fs e = cc
nothing_made (sy.Part ru.PathOrStruct) fs e = cc
nothing_made (sy.Part (ru.BehindComma r)) fs e = cc
nothing_made (sy.Part ru.BehindElementComma) fs e = cc
nothing_made (sy.Part ru.AfterForName) fs e = cc
nothing_made (sy.Part ru.AfterUseName) fs e = cc
nothing_made _ fs e = refl

pub needless_ready : (s : Symbol) (rs st : List Symbol) (fs : List Frame) → prepared [] (s ∷ rs) ≡ true → ready (s ∷ (rs ++ st)) fs ≡ true
needless_ready s rs st fs e = prepared_ready [] s rs st fs e (λ d i. nothing_made d fs i)
