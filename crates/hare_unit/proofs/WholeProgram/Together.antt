-- What the phases of a program come to together.
use Rattle.std.proofs.Common.{◌≡◌, ℕ, List, map, sym, ap, ◌∙◌, subst, subst₂}
use Rattle.hare_tree.specs.declared.place.Place.{Place}
use Rattle.hare_tree.specs.declared.place.Fault.{Fault}
use Rattle.hare_tree.specs.declared.stop.Stop.{Stop}
use Rattle.hare_tree.specs.declared.stop.Stop.TheVariants.{Fault as Refused, Memory}
use Rattle.hare_tree.specs.declared.token.Meaning.{Meaning}
use Rattle.hare_tree.specs.declared.tree.FileTree.{FileTree}
use Rattle.hare_tree.specs.Node.{Node}
use Rattle.hare_types.specs.Store.{Store, empty}
use Rattle.hare_types.specs.Sound.{IsStore}
use Rattle.hare_types.proofs.LaterLemmas.{later_trans}
use Rattle.hare_typed.specs.Typed.{TypedNode}
use Rattle.hare_typed.specs.Erased.{erase}
use Rattle.hare_names.specs.Answers.{meaning_in}
use Rattle.hare_decl.specs.Answers.{Stops}
use Rattle.hare_sources.specs.declared.named.Named.{Named}
use Rattle.hare_sources.specs.Named.{AreNamed, IsEarlyFault, EarlyFaultsAreOne, NamedOrFaulty, TreesAreOne}
use Rattle.hare_saids.specs.Saids.{decls}
use Rattle.hare_filed.specs.Filed.{AreFiled}
use Rattle.hare_depends.specs.Circles.{IsCircleFault}
use Rattle.hare_whole.specs.Listing.{Listing, saids}
use Rattle.hare_whole.specs.Judged.{IsFinal, IsFaultOfPhases}
use Rattle.hare_whole.specs.Limits.{AreWithinLimits, IsLimitFault}
use Rattle.hare_whole.specs.Tags.{tag_list}
use Rattle.hare_limits.specs.Stops.{StopsAtLimit}
use Rattle.hare_sole.specs.Checked.{AreChecked, PhaseFaultsAreOne, CheckedOrFaulty, LimitsAreLeft}
use Rattle.hare_unit.specs.declared.phases.Typing.{Typing}
use Rattle.hare_unit.specs.declared.checked.Checked.{Checked}
use Rattle.hare_unit.specs.Programs.{OverEnds, AreJudged, IsFaultBehindNames, IsFaultOfProgram, IsProgramStop, IsOnlyFaultOfPhases, IsOnlyFaultOfProgram, IsOnlyProgramStop, IsFaultless, listing_by, listing_of, IsTypedBy, IsPhaseStop, IsEnded, IsLimitStop}
use Rattle.hare_unit.proofs.StoresAtEnd.Stores.{end-here, listed-later, listed-grown, final-grown}
use Rattle.hare_unit.proofs.WholeProgram.Names.{names-once}
use Rattle.hare_unit.proofs.WholeProgram.Complete.{IsSeen}
use Rattle.hare_unit.proofs.StoresAtEnd.Tags.{tag_list-relisted}

pub early-stops : (paths srcs : List (List ℕ)) (e : Stop Fault) → Stops (IsEarlyFault paths srcs) e → IsProgramStop paths srcs e
early-stops paths srcs Memory h = tt
early-stops paths srcs (Refused f) h = IsFaultOfProgram.early h

pub phase-stops : (paths srcs : List (List ℕ)) (n : Named) (e : Stop Fault) → AreNamed paths srcs n.files (meaning_in n.names) →
    IsPhaseStop n e →
    IsProgramStop paths srcs e
phase-stops paths srcs n Memory m h = tt
phase-stops paths srcs n (Refused f) m h = IsFaultOfProgram.late n.files (meaning_in n.names) m (h paths)

-- the list of tags has been made anew, and nothing else of the store has changed
pub record IsListed (n : Named) (t : Typing) (r : Store) : Type 0 where
  pub typed : IsTypedBy n t
  pub sound : IsStore r
  pub listed : r ≡ record t.types { listed = tag_list t.types t.decls }

-- all is judged over it as before
judged-listed : (n : Named) (t : Typing) (r : Store) → IsListed n t r → IsTypedBy n (record { types = r; decls = t.decls })
judged-listed n t r k =
    let v : IsStore t.types = k.typed.final.declared.sound in
    let tags = tag_list t.types t.decls in
    let final : IsFinal (listing_of n) r =
    final-grown (listing_of n) t.types r v (listed-grown t.types r tags v k.sound k.listed) k.typed.final in
    let later = listed-later t.types r tags v k.sound k.listed in
    record {
      final = final;
      each = λ l e. k.typed.each l (record { later = later_trans t.types r l later e.later; final = e.final });
    }

-- that of the entry rests on no types
pub limit-stops : (paths : List (List ℕ)) (n : Named) (t : Typing) (r : Store) (e : Stop Fault) → IsListed n t r →
    StopsAtLimit paths r t.decls e →
    IsLimitStop paths n e
limit-stops paths n t r Memory k h = tt
limit-stops paths n t r (Refused f) k h = by h
  where
    judged : IsTypedBy n (record { types = r; decls = t.decls })
    judged = judged-listed n t r k

    by : IsLimitFault paths r t.decls f → IsFaultBehindNames paths (listing_of n) f
    by (IsLimitFault.of_entry i) =
        IsFaultBehindNames.of_each r
        (record {
          final = judged.final;
          each = λ l e.
              let here = judged.each l e in
              IsFaultOfPhases.of_limits t.decls e.final here.faultless here.typed (IsLimitFault.of_entry i);
        })
    by (IsLimitFault.of_frame m i d) = IsFaultBehindNames.of_limits r t.decls judged (IsLimitFault.of_frame m i d)
    by (IsLimitFault.of_sum m i d j) = IsFaultBehindNames.of_limits r t.decls judged (IsLimitFault.of_sum m i d j)

pub ended-stops : (paths srcs : List (List ℕ)) (n : Named) (e : Stop Fault) → AreNamed paths srcs n.files (meaning_in n.names) →
    IsLimitStop paths n e → IsProgramStop paths srcs e
ended-stops paths srcs n Memory m h = tt
ended-stops paths srcs n (Refused f) m h = IsFaultOfProgram.late n.files (meaning_in n.names) m h

-- the list of tags does not look at the list as it was
tags-listed : (s r : Store) (ds : List TypedNode) → r ≡ record s { listed = tag_list s ds } → r.listed ≡ tag_list r ds
tags-listed s r ds e = ap (λ x. x.listed) e ∙ sym (ap (λ x. tag_list x ds) e ∙ tag_list-relisted s (tag_list s ds) ds)

pub is-ended : (paths : List (List ℕ)) (n : Named) (t : Typing) (r : Store) (entry : ℕ) → IsListed n t r →
    AreWithinLimits paths r t.decls entry →
    IsEnded paths n (record { types = r; decls = t.decls }) entry
is-ended paths n t r entry k l =
    record { sound = k.sound; judged = judged-listed n t r k; tags = tags-listed t.types r t.decls k.listed; limits = l }

-- all is judged over the store itself
pub judged-here : (n : Named) (t : Typing) → IsStore t.types → IsTypedBy n t → AreJudged (listing_of n) t.decls t.types
judged-here n t v k = k.each t.types (end-here (listing_of n) t.types v k.final)

-- all is judged of the declarations that the finished trees tell
abbrev IsJudgedAs : Named → Typing → List Node → Type 0
IsJudgedAs n t ts =
    let p : Listing = record { decls = ts; means = meaning_in n.names } in
    OverEnds p t.types (AreJudged p t.decls)

pub told-judged : (n : Named) (t : Typing) → IsStore t.types → IsTypedBy n t → IsJudgedAs n t (map erase t.decls)
told-judged n t v k = subst (IsJudgedAs n t) (sym (judged-here n t v k).typed.erases) k

pub is-seen : (paths : List (List ℕ)) (n : Named) (t : Typing) (entry : ℕ) → AreFiled paths (decls n.files) → IsEnded paths n t entry →
    IsSeen paths (listing_of n) t.types t.decls entry
is-seen paths n t entry f k = record {
  filed = f;
  sound = k.sound;
  final = k.judged.final;
  typed = (judged-here n t k.sound k.judged).typed;
  tags = k.tags;
  limits = k.limits;
}

-- ---- that there is no other

-- what the laws of names say
pub record Names : Type 0 where
  pub one : EarlyFaultsAreOne
  pub none : NamedOrFaulty
  pub trees : TreesAreOne

-- what the laws of the phases behind them say
pub record Phases : Type 0 where
  pub one : PhaseFaultsAreOne
  pub none : CheckedOrFaulty
  pub left : LimitsAreLeft

pub only-early : Names → (paths srcs : List (List ℕ)) (e : Stop Fault) → Stops (IsEarlyFault paths srcs) e → IsOnlyProgramStop paths srcs e
only-early k paths srcs Memory h = tt
only-early k paths srcs (Refused f) h =
    IsOnlyFaultOfProgram.early (record { fault = h; only = only; unnamed = λ ts m n. k.none paths srcs ts m f n h })
  where
    only : (g : Fault) → IsFaultOfProgram paths srcs g → g ≡ f
    only g (IsFaultOfProgram.early j) = k.one paths srcs g f j h
    only g (IsFaultOfProgram.late ts m n j) = absurd (k.none paths srcs ts m f n h)

module _ (k : Phases) (paths : List (List ℕ)) (p : Listing) where
  only-fault : (f : Fault) (s : Store) → IsFaultOfPhases paths p s f → IsOnlyFaultOfPhases paths p f s
  only-fault f s h = record { fault = h; only = λ g j. k.one paths p s g f j h; unchecked = λ ds entry j. k.none paths p s ds entry f j h }

  -- a fault of circles is one over each store
  circle-once : (f g : Fault) → IsCircleFault (saids p) f → IsFaultBehindNames paths p g → g ≡ f
  circle-once f g h (IsFaultBehindNames.of_circles j) = k.one paths p empty g f (IsFaultOfPhases.of_circles j) (IsFaultOfPhases.of_circles h)
  circle-once f g h (IsFaultBehindNames.of_each s j) =
      k.one paths p s g f (j.each s (end-here p s j.final.declared.sound j.final)) (IsFaultOfPhases.of_circles h)
  circle-once f g h (IsFaultBehindNames.of_limits s ds j i) =
      let here = j.each s (end-here p s j.final.declared.sound j.final) in
      k.one paths p s g f (IsFaultOfPhases.of_limits ds j.final here.faultless here.typed i) (IsFaultOfPhases.of_circles h)

module _ (l : Names) (k : Phases) (paths srcs : List (List ℕ)) (n : Named) (m : AreNamed paths srcs n.files (meaning_in n.names)) where
  circle-only : (f g : Fault) → IsCircleFault (saids (listing_of n)) f → IsFaultOfProgram paths srcs g → g ≡ f
  circle-only f g h (IsFaultOfProgram.early j) = absurd (l.none paths srcs n.files (meaning_in n.names) g m j)
  circle-only f g h (IsFaultOfProgram.late ts means i j) =
      let same = names-once l.trees paths srcs ts n.files means (meaning_in n.names) i m in
      circle-once k paths (listing_of n) f g h
      (subst₂ (λ (us : List FileTree) (ns : Place → Meaning). IsFaultBehindNames paths (listing_by us ns) g) same.0 same.1 j)

  only-behind : (f : Fault) → IsFaultBehindNames paths (listing_of n) f → IsOnlyFaultOfProgram paths srcs f
  only-behind f (IsFaultBehindNames.of_circles h) =
      IsOnlyFaultOfProgram.of_circles
      (record {
        trees = n.files;
        means = meaning_in n.names;
        named = m;
        fault = h;
        only = λ g j. circle-only f g h j;
        unchecked = λ s ds entry j. k.none paths (listing_of n) s ds entry f j (IsFaultOfPhases.of_circles h);
      })
  only-behind f (IsFaultBehindNames.of_each s h) =
      IsOnlyFaultOfProgram.of_each n.files (meaning_in n.names) s m
      (record { final = h.final; each = λ r e. only-fault k paths (listing_of n) f r (h.each r e) })
  only-behind f (IsFaultBehindNames.of_limits s ds h i) =
      let here = h.each s (end-here (listing_of n) s h.final.declared.sound h.final) in
      IsOnlyFaultOfProgram.of_limits n.files (meaning_in n.names) s ds m h
      (only-fault k paths (listing_of n) f s (IsFaultOfPhases.of_limits ds h.final here.faultless here.typed i))

  pub only-phase : (e : Stop Fault) → IsPhaseStop n e → IsOnlyProgramStop paths srcs e
  only-phase Memory h = tt
  only-phase (Refused f) h = only-behind f (h paths)

  pub only-limit : (e : Stop Fault) → IsLimitStop paths n e → IsOnlyProgramStop paths srcs e
  only-limit Memory h = tt
  only-limit (Refused f) h = only-behind f h

-- no phase finds a fault where the checking has ended
all-passed : (paths : List (List ℕ)) (n : Named) (t : Typing) (entry : ℕ) → IsEnded paths n t entry →
    AreChecked paths (listing_of n) t.types t.decls entry
all-passed paths n t entry k =
    let here = judged-here n t k.sound k.judged in
    record { final = k.judged.final; faultless = here.faultless; typed = here.typed; limits = k.limits }

-- the checked program of these files
abbrev checked-of : List (List ℕ) → Named → Typing → ℕ → Checked
checked-of paths n t entry =
    record { program = record { types = t.types; decls = t.decls; paths = paths; entry = entry }; names = n.names }

pub is-faultless : Names → Phases → (paths srcs : List (List ℕ)) (n : Named) (t : Typing) (entry : ℕ) →
    AreNamed paths srcs n.files (meaning_in n.names) →
    IsEnded paths n t entry → IsFaultless paths srcs (checked-of paths n t entry)
is-faultless l k paths srcs n t entry m h = record {
  trees = n.files;
  named = m;
  early = λ f e. l.none paths srcs n.files (meaning_in n.names) f m e;
  checked = all-passed paths n t entry h;
  late = λ f e. k.none paths (listing_of n) t.types t.decls entry f (all-passed paths n t entry h) e;
  judged = h.judged;
  left = λ r f e i. let here = h.judged.each r e in k.left paths (listing_of n) r t.decls f here.faultless here.typed i;
}
