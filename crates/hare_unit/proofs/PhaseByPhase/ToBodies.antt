-- What the phases from declarations to bodies come to.
use Rattle.std.proofs.Common.{◌≡◌, ℕ, zero, suc, ◌+◌, List, slice_get, Some, ap, sym, ◌∙◌, subst, arith}
use Rattle.hare_tree.specs.declared.place.Fault.{Fault}
use Rattle.hare_tree.specs.declared.stop.Stop.{Stop}
use Rattle.hare_tree.specs.declared.stop.Stop.TheVariants.{Fault as Refused, Memory}
use Rattle.hare_tree.specs.Node.{Node}
use Rattle.hare_types.specs.Store.{Store}
use Rattle.hare_types.specs.Sound.{IsStore}
use Rattle.hare_types.specs.Later.{IsLater}
use Rattle.hare_types.proofs.LaterLemmas.{later_trans}
use Rattle.hare_typed.specs.Typed.{TypedNode}
use Rattle.hare_rules.specs.declared.declared.DeclType.{DeclType}
use Rattle.hare_depends.specs.declared.said.Sort.TheVariants as so
use Rattle.hare_depends.specs.Sorts.{sort_of}
use Rattle.hare_sources.specs.declared.named.Named.{Named}
use Rattle.hare_whole.specs.Listing.{Listing, saids}
use Rattle.hare_whole.specs.Turns.{Stage, seen}
use Rattle.hare_whole.specs.Judged.{IsFinal, AreTyped, AreFaultless, IsFaultOfPhases}
use Rattle.hare_turns.specs.Laws.{IsGrownTo, IsSeenAt, StagesStay, EndsAreSeen}
use Rattle.hare_turns.specs.Ends.{IsBodyOf, AreBodies, IsBodyStop, IsDeclarationStop, BodiesStop}
use Rattle.hare_walk.specs.Grown.{IsGrown}
use Rattle.hare_steps.specs.Plans.{StopsAtCircle}
use Rattle.hare_declarations.specs.declared.parts.Judged.{Judged}
use Rattle.hare_declarations.specs.Judged.{IsJudgedAs}
use Rattle.hare_declarations.proofs.WhileStoresGrow.Stores.{grown-to}
use Rattle.hare_joined.specs.Joined.{AreFinished, FinishedAreTyped}
use Rattle.hare_unit.specs.Programs.{listing_of, OverEnds, AreJudged, IsFaultBehindNames, IsPhaseStop}
use Rattle.hare_unit.proofs.StoresAtEnd.Stores.{final-grown}

pub circle-stops : (n : Named) (e : Stop Fault) → StopsAtCircle (saids (listing_of n)) e → IsPhaseStop n e
circle-stops n Memory h = tt
circle-stops n (Refused f) h = λ paths. IsFaultBehindNames.of_circles h

pub declaration-stops : (n : Named) (s : Store) (e : Stop Fault) → IsFinal (listing_of n) s → IsDeclarationStop (listing_of n) s e →
    IsPhaseStop n e
declaration-stops n s Memory f h = tt
declaration-stops n s (Refused e) f h = λ paths.
    IsFaultBehindNames.of_each s (record { final = f; each = λ l k. IsFaultOfPhases.of_declarations k.final (h l k) })

-- declarations were judged with the first store, and bodies with the second
pub record AreJudgedWith (p : Listing) (s r : Store) (j : Judged) : Type 0 where
  pub judged : IsJudgedAs p s j
  pub sound : IsStore s
  pub grown : IsGrown s r
  pub sound_behind : IsStore r

final-judged : (p : Listing) (s : Store) (j : Judged) → IsJudgedAs p s j → IsFinal p s
final-judged p s j h = record { declared = h.judged.stage.declared; nomem = h.judged.stage.nomem }

pub body-stops : BodiesStop → (n : Named) (s r : Store) (j : Judged) (e : Stop Fault) → AreJudgedWith (listing_of n) s r j →
    IsBodyStop (listing_of n) j.known r e → IsPhaseStop n e
body-stops law n s r j Memory k h = tt
body-stops law n s r j (Refused f) k h =
    let p = listing_of n in
    let g = grown-to s r k.sound_behind k.grown in
    let final = final-grown p s r k.sound g (final-judged p s j k.judged) in
    λ paths.
    IsFaultBehindNames.of_each r
    (record {
      final = final;
      each = λ l e.
          IsFaultOfPhases.of_bodies e.final
          (law p s r l k.judged.stage k.judged.values f k.judged.judged g
          (subst (λ ds. IsBodyStop p ds r (Refused f)) (sym k.judged.same) h) e);
    })

-- trees were finished with the third
pub record AreFinishedWith (p : Listing) (s r f : Store) (j : Judged) (bs ds : List TypedNode) : Type 0 where
  pub judged : AreJudgedWith p s r j
  pub bodies : AreBodies p j.known r 0 p.decls bs
  pub grown : IsGrown r f
  pub sound : IsStore f
  pub finished : AreFinished f p.decls j.parts bs ds

final-finished : (p : Listing) (s r f : Store) (j : Judged) (bs ds : List TypedNode) → AreFinishedWith p s r f j bs ds → IsFinal p f
final-finished p s r f j bs ds k =
    let g = grown-to s r k.judged.sound_behind k.judged.grown in
    let h = grown-to r f k.sound k.grown in
    final-grown p r f k.judged.sound_behind h (final-grown p s r k.judged.sound g (final-judged p s j k.judged.judged))

typed-finished : FinishedAreTyped → (p : Listing) (s r f : Store) (j : Judged) (bs ds : List TypedNode) →
    AreFinishedWith p s r f j bs ds →
    (l : Store) → IsLater f l → IsFinal p l → AreTyped p l ds
typed-finished law p s r f j bs ds k l later final =
    law p s r f l j bs ds k.judged.judged (grown-to s r k.judged.sound_behind k.judged.grown) k.bodies (grown-to r f k.sound k.grown)
    k.finished
    (record { later = later; final = final })

-- ---- that no phase up to bodies finds a fault

-- the body of a function among these, of which the first declaration has this number
body-at : (p : Listing) (ds : List DeclType) (s : Store) {m : ℕ} {ts : List Node} {xs : List TypedNode} → AreBodies p ds s m ts xs →
    (i n : ℕ) (t : Node) → m + i ≡ n → slice_get ts i ≡ Some t → sort_of t ≡ so.Function → (x : TypedNode) × IsBodyOf p ds s n t x
body-at p ds s (AreBodies.none m) i n t e h f = absurd cc
body-at p ds s (AreBodies.function m u x us xs g b rest) zero n t e h f =
    let same : u ≡ t = cc in
    let here : m ≡ n = omega arith in
    (x, subst (λ (z : Node). IsBodyOf p ds s n z x) same (subst (λ (k : ℕ). IsBodyOf p ds s k u x) here b))
body-at p ds s (AreBodies.function m u x us xs g b rest) (suc i) n t e h f = body-at p ds s rest i n t (omega arith) h f
body-at p ds s (AreBodies.other m u us xs g rest) zero n t e h f = let same : u ≡ t = cc in absurd (g (ap sort_of same ∙ f))
body-at p ds s (AreBodies.other m u us xs g rest) (suc i) n t e h f = body-at p ds s rest i n t (omega arith) h f

-- Where declarations were judged with the first store and bodies with the second, with whatever store the checking ends.
faultless-judged : StagesStay → EndsAreSeen → (p : Listing) (s r : Store) (j : Judged) (bs : List TypedNode) → AreJudgedWith p s r j →
    AreBodies p j.known r 0 p.decls bs → (l : Store) → IsLater r l → IsFinal p l → AreFaultless p l
faultless-judged stay ends p s r j bs k bodies l later final = record {
  stage = g;
  judged = k.judged.judged.judged l (record { later = later_trans s r l grown.later later; final = final });
  bodies = λ n t i f.
      let b = body-at p g.known r known n n t (omega arith) i f in
      record { tree = b.0; erases = b.1.erases; well = b.1.well (seen l g.done) behind.later };
}
  where
    g : Stage
    g = k.judged.stage

    grown : IsGrownTo s r
    grown = grown-to s r k.sound_behind k.grown

    known : AreBodies p g.known r 0 p.decls bs
    known = subst (λ (ds : List DeclType). AreBodies p ds r 0 p.decls bs) (sym k.judged.same) bodies

    behind : IsSeenAt r (seen l g.done)
    behind =
        ends p r l g k.judged.values (stay p s r g k.judged.values k.judged.judged.stage grown) (record { later = later; final = final })

-- all is judged with whatever store the checking ends
pub judged-finished : FinishedAreTyped → StagesStay → EndsAreSeen → (p : Listing) (s r f : Store) (j : Judged) (bs ds : List TypedNode) →
    AreFinishedWith p s r f j bs ds → OverEnds p f (AreJudged p ds)
judged-finished law stay ends p s r f j bs ds k = record {
  final = final-finished p s r f j bs ds k;
  each = λ l e. record {
    faultless =
        faultless-judged stay ends p s r j bs k.judged k.bodies l (later_trans r f l (grown-to r f k.sound k.grown).later e.later) e.final;
    typed = typed-finished law p s r f j bs ds k l e.later e.final;
  };
}
