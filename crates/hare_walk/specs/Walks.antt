-- What a walk over a body says of the trees that it has judged. It says it of each store that may come later, since types are still put in.
use Rattle.std.specs.Prelude.{◌≡◌, ◌⊎◌, true, List, [], ◌∷◌, map, Result, Ok, Err}
use Rattle.hare_tree.specs.declared.place.Fault.{Fault}
use Rattle.hare_tree.specs.declared.stop.Stop.{Stop}
use Rattle.hare_tree.specs.declared.stop.Stop.TheVariants.{Fault as Refused, Memory}
use Rattle.hare_tree.specs.declared.form.Sort.{Sort}
use Rattle.hare_tree.specs.Node.{Head, Node, Nodes}
use Rattle.hare_tree.specs.Shape.{is_shaped, is_leaf, is_none_or_comma}
use Rattle.hare_types.specs.Store.{Store}
use Rattle.hare_types.specs.Later.{IsLater}
use Rattle.hare_typed.specs.Typed.{TypedNode}
use Rattle.hare_typed.specs.Coats.{coat}
use Rattle.hare_rules.specs.declared.row_id.RowId.{RowId}
use Rattle.hare_rules.specs.Context.{Setting, Context}
use Rattle.hare_rules.specs.Above.{Above, over_kid}
use Rattle.hare_rules.specs.Flow.{Flow, flow_before}
use Rattle.hare_rules.specs.Rows.{fault_of}
use Rattle.hare_rules.specs.Finished.{bare, IsTheTree, IsTheFault}
use Rattle.hare_inference.specs.Inferred.{Reason, Fails, found, found_kids, with_kids, infer, infer_each}

-- ---- trees of the grammar

-- It is shaped, of some sort; or it stands in the place of a part that is left out, or of a trailing comma.
abbrev pub IsPart : Node → Type 0
IsPart t = ((s : Sort) × (is_shaped s t ≡ true)) ⊎ (is_leaf is_none_or_comma t ≡ true)

-- ---- trees in hand

-- so it is of each
abbrev pub Each : {A : Type 0} → (A → Type 0) → List A → Type 0
Each P [] = Unit {0}
Each P (x ∷ xs) = P x × Each P xs

-- the tree carries what is settled by now, and nothing else
abbrev pub IsInHand : Flow → TypedNode → Type 0
IsInHand f x = x ≡ coat f.coercions (bare x)

abbrev pub AreInHand : Flow → List TypedNode → Type 0
AreInHand f xs = xs ≡ map (coat f.coercions) (map bare xs)

-- ---- answers

-- where a fault is told, it is that of a first row that fails
abbrev pub IsStop : {A : Type 0} → Stop Fault → Result A Reason → Type 0
IsStop Memory v = Unit {0}
IsStop (Refused e) v = (r : RowId) × (c : Context) × (v ≡ Err (Fails r c)) × (e ≡ fault_of r c)

-- the tree is what is inferred, in each later store
abbrev pub IsInferred : (Store → Setting) → Store → Above → Node → Flow → TypedNode → Flow → Type 0
IsInferred w s a t f x g = (l : Store) → IsLater s l → infer (w l) a t f ≡ Ok (found (bare x) g)

abbrev pub IsStopped : (Store → Setting) → Store → Above → Node → Flow → Stop Fault → Type 0
IsStopped w s a t f e = (l : Store) → IsLater s l → IsStop e (infer (w l) a t f)

-- These trees are what is inferred of the kids of a node, in each later store, from what had been seen when the first of them began.
abbrev pub AreInferred : (Store → Setting) → Store → Above → Head → Nodes → List TypedNode → Flow → Type 0
AreInferred w s a h ts xs g = (f : Flow) × ((l : Store) → IsLater s l → infer_each (w l) a h [] ts f ≡ Ok (found_kids (map bare xs) g))

-- the same of a node whose kids have been judged
abbrev pub IsTurned : (Store → Setting) → Store → Above → Head → List TypedNode → Flow → TypedNode → Flow → Type 0
IsTurned w s a h xs f x g = (l : Store) → IsLater s l → with_kids (w l) a h (Ok (found_kids (map bare xs) f)) ≡ Ok (found (bare x) g)

abbrev pub IsTurnedBack : (Store → Setting) → Store → Above → Head → List TypedNode → Flow → Stop Fault → Type 0
IsTurnedBack w s a h xs f e = (l : Store) → IsLater s l → IsStop e (with_kids (w l) a h (Ok (found_kids (map bare xs) f)))

-- this stands over the next kid of a node, behind these
abbrev pub IsOver : (Store → Setting) → Store → Above → Head → List TypedNode → Node → Nodes → Above → Type 0
IsOver w s a h xs t rest b = (l : Store) → IsLater s l → b ≡ over_kid (w l) a h (map bare xs) t rest

-- this has been seen when it begins
abbrev pub IsBefore : (Store → Setting) → Store → Above → Head → List TypedNode → Flow → Flow → Type 0
IsBefore w s a h xs f g = (l : Store) → IsLater s l → g ≡ flow_before (w l) a h (map bare xs) f

-- the fault that is told is the first of the body; of want of memory nothing is said
abbrev pub IsAnswer : Setting → Above → Flow → Node → Stop Fault → Type 0
IsAnswer w a f t Memory = Unit {0}
IsAnswer w a f t (Refused e) = IsTheFault w a f t e

-- in each later store the tree is well typed and erases to the body, and no other is
abbrev pub IsTheTreeLater : (Store → Setting) → Store → Above → Flow → Node → TypedNode → Type 0
IsTheTreeLater w s a f t x = (l : Store) → IsLater s l → IsTheTree (w l) a f t x

-- in each later store the fault that is told is the first of the body
abbrev pub IsAnswerLater : (Store → Setting) → Store → Above → Flow → Node → Stop Fault → Type 0
IsAnswerLater w s a f t e = (l : Store) → IsLater s l → IsAnswer (w l) a f t e
