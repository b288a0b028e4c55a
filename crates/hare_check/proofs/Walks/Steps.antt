-- A walk before a body, and its steps to a kid and back.
use Rattle.std.proofs.Common.{◌≡◌, ℕ, zero, suc, ◌<◌, true, false, List, [], ◌∷◌, ◌++◌, map, length, refl, ap, sym, ◌∙◌, subst, arith, Option, Some, None}
use Rattle.std.specs.Prelude.{reverse, replicate, slice_get, option_to_list, option_and_then, find, nat_eq, IsSome, ◌↔◌}
use Rattle.std.proofs.lemmas.List.{reverse-append}
use Rattle.hare_tree.specs.declared.kind.Kind.{Kind}
use Rattle.hare_tree.specs.declared.kind.Kind.TheVariants as ki
use Rattle.hare_tree.specs.Node.{Head, Node, Nodes, head}
use Rattle.hare_types.specs.Store.{Store, tree_at, sized_of}
use Rattle.hare_types.specs.Sound.{IsStore}
use Rattle.hare_types.specs.Later.{IsLater}
use Rattle.hare_types.proofs.CallerLemmas.{tree_at_row}
use Rattle.hare_typed.specs.Typed.{TypedNode}
use Rattle.hare_rules.specs.declared.declared.DeclType.{DeclType}
use Rattle.hare_rules.specs.declared.declared.Local.{Local}
use Rattle.hare_rules.specs.declared.hint.Hint.TheVariants as hint
use Rattle.hare_rules.specs.Above.{Above, over_kid}
use Rattle.hare_rules.specs.Context.{Setting, Later, Ordinary}
use Rattle.hare_rules.specs.Finished.{bare}
use Rattle.hare_rules.specs.Flow.{Flow, flow_at}
use Rattle.hare_told.specs.Told.{AreToldEntries}
use Rattle.rule_judge.specs.Defined.{IsDefined, IsDefinedName}
use Rattle.rule_judge.specs.Meant.{IsKnownLocal, IsKnownKind}
use Rattle.rule_judge.proofs.DefinedLemmas.{row_of}
use Rattle.hare_walk.specs.Spots.{Spot, spot, one_more}
use Rattle.hare_above.specs.Ready.{IsReady, IsKnown}
use Rattle.hare_above.specs.Stands.{Stands, start}
use Rattle.hare_above.proofs.BareLemmas.{length-bare}
use Rattle.hare_find.specs.Defined.{AreDefinedLocals}
use Rattle.hare_check.specs.Beginnings.{known_params, told_params}
use Rattle.hare_check.specs.Spotted.{AreSpotted}
use Rattle.hare_check.specs.Walking.{AreKnownDecls, IsWalking}
use Rattle.hare_check.proofs.Labels.Spots.{spotted-start, spotted-enter, spotted-leave}
use Rattle.hare_check.proofs.Walks.Growing.{walking-later}

-- ---- before a body

unknown-told : (n : ℕ) (l : Local) → l.mutable ≡ false → AreToldEntries (replicate n Later) (replicate n l)
unknown-told zero l e = tt
unknown-told (suc n) l e = (e, unknown-told n l e)

-- judges are told of the parameters, and of so many others with any type
pub begun-told : (ts : List ℕ) (n : ℕ) (l : Local) → l.mutable ≡ false →
    AreToldEntries (known_params ts ++ replicate n Later) (told_params ts ++ replicate n l)
begun-told [] n l e = unknown-told n l e
begun-told (t ∷ ts) n l e = (refl, begun-told ts n l e)

unknown-defined : (s : Store) (n : ℕ) (l : Local) → IsDefined s l.ty → AreDefinedLocals s (replicate n l)
unknown-defined s zero l h = tt
unknown-defined s (suc n) l h = (h, unknown-defined s n l h)

pub begun-defined : (s : Store) (ts : List ℕ) (n : ℕ) (l : Local) → IsDefined s l.ty →
    ((i t : ℕ) → slice_get ts i ≡ Some t → IsDefined s t) → AreDefinedLocals s (told_params ts ++ replicate n l)
begun-defined s [] n l h k = unknown-defined s n l h
begun-defined s (t ∷ ts) n l h k = (k 0 t refl, begun-defined s ts n l h (λ i u e. k (suc i) u e))

-- What a walk begins with, over a body of this function.
pub record IsBegun (s : Store) (ds : List DeclType) (ty : ℕ) (ps : List ℕ) : Type 0 where
  pub known : IsKnown s ds
  pub decls : AreKnownDecls s ds
  pub gives : IsDefined s ty
  pub params : (i t : ℕ) → slice_get ps i ≡ Some t → IsDefined s t

pub walking-start : (s : Store) (k : Kind) (ds : List DeclType) (own ty first : ℕ) (ps : List ℕ) (n : ℕ) → IsBegun s ds ty ps →
    IsWalking s (spot k 0 ∷ []) ds (start own ty true Ordinary (hint.Of ty) first) (flow_at (known_params ps ++ replicate n Later))
    (told_params ps ++ replicate n (record { ty = ty; mutable = false })) (0 ∷ [])
walking-start s k ds own ty first ps n b =
    let l : Local = record { ty = ty; mutable = false } in
    record {
      standing = record { above = record { hint = b.gives; values = tt; result = b.gives; labels = tt }; outer = tt };
      known = b.known;
      decls = b.decls;
      entries = begun-told ps n l refl;
      locals = begun-defined s ps n l b.gives b.params;
      yields = tt;
      spots = spotted-start s k (start own ty true Ordinary (hint.Of ty) first).above;
    }

-- ---- a local that is told

pub local-known : (s : Store) (ls : List Local) (n : ℕ) → n < length ls → AreDefinedLocals s ls → IsKnownLocal s (slice_get ls n)
local-known s [] n h k = absurd (omega arith)
local-known s (l ∷ ls) zero h k = k.0
local-known s (l ∷ ls) (suc n) h k = local-known s ls n (omega arith) k.1

-- ---- a step to a kid

-- the walk stands in the next kid of a node, in a later store; of what has been seen only what is known of bindings may have changed
pub record IsEntered (s r : Store) (w : Setting) (h : Head) (xs : List TypedNode) (kid : Node) (rest : Nodes) (st t : Stands) (f g : Flow)
    (told now : List Local) : Type 0 where
  pub sound : IsStore s
  pub later : IsLater s r
  pub ready : IsReady r t
  pub over : t.above ≡ over_kid w st.above h (map bare xs) kid rest
  pub outer : t.outer ≡ st.above ∷ st.outer
  pub seen : g ≡ record f { locals = g.locals }
  pub entries : AreToldEntries g.locals now
  pub locals : AreDefinedLocals r now

pub walking-enter : (s r : Store) (w : Setting) (h : Head) (xs : List TypedNode) (kid : Node) (rest : Nodes) (st t : Stands) (f g : Flow)
    (told now : List Local) (ps : List Spot) (ds : List DeclType) (begun : List ℕ) → IsEntered s r w h xs kid rest st t f g told now →
    IsWalking s (spot h.kind (length xs) ∷ ps) ds st f told begun →
    IsWalking r (spot (head kid).kind 0 ∷ spot h.kind (length xs) ∷ ps) ds t g now (begun ++ length g.yields ∷ [])
walking-enter s r w h xs kid rest st t f g told now ps ds begun e walks =
    let k = walking-later s r e.sound e.later (spot h.kind (length xs) ∷ ps) ds st f told begun walks in
    let same : g.yields ≡ f.yields = ap (λ (x : Flow). x.yields) e.seen in
    let turned : reverse (begun ++ length f.yields ∷ []) ≡ length f.yields ∷ reverse begun = reverse-append begun (length f.yields ∷ []) in
    let spots : AreSpotted r (spot (head kid).kind 0 ∷ spot h.kind (length xs) ∷ ps) (t.above ∷ st.above ∷ st.outer)
    (length f.yields ∷ reverse begun) f.yields =
    spotted-enter r w h.kind (length xs) ps st.above t.above st.outer (reverse begun) f.yields h (map bare xs) kid rest e.over refl
    (length-bare xs) k.spots in
    let P = AreSpotted r (spot (head kid).kind 0 ∷ spot h.kind (length xs) ∷ ps) in
    record {
      standing = e.ready;
      known = k.known;
      decls = k.decls;
      entries = e.entries;
      locals = e.locals;
      yields = rw same k.yields;
      spots =
          rw same
          (subst (λ ns. P (t.above ∷ t.outer) ns f.yields) (sym turned)
          (subst (λ os. P (t.above ∷ os) (length f.yields ∷ reverse begun) f.yields) (sym e.outer) spots));
    }

-- ---- a step back

pub walking-leave : (s : Store) (k : Kind) (p : Spot) (ps : List Spot) (ds : List DeclType) (st t : Stands) (f : Flow) (told : List Local)
    (begun rest : List ℕ) →
    (IsReady s st → IsReady s t) → ((a : Above) (os : List Above) → st.outer ≡ a ∷ os → t.above ≡ a) →
    ((a : Above) (os : List Above) → st.outer ≡ a ∷ os → t.outer ≡ os) →
    ((n : ℕ) (ns : List ℕ) → reverse begun ≡ n ∷ ns → reverse rest ≡ ns) →
    IsWalking s (spot k 0 ∷ p ∷ ps) ds st f told begun → IsWalking s (one_more p ∷ ps) ds t f told rest
walking-leave s k p ps ds st t f told begun rest ready above outer left walks =
    record {
      standing = ready walks.standing;
      known = walks.known;
      decls = walks.decls;
      entries = walks.entries;
      locals = walks.locals;
      yields = walks.yields;
      spots = by_outer st.outer refl (reverse begun) refl walks.spots;
    }
  where
    by_outer : (os : List Above) → st.outer ≡ os → (ns : List ℕ) → reverse begun ≡ ns →
        AreSpotted s (spot k 0 ∷ p ∷ ps) (st.above ∷ st.outer) (reverse begun) f.yields →
        AreSpotted s (one_more p ∷ ps) (t.above ∷ t.outer) (reverse rest) f.yields
    by_outer os e [] i o = absurd (subst (λ ns. AreSpotted s (spot k 0 ∷ p ∷ ps) (st.above ∷ st.outer) ns f.yields) i o)
    by_outer [] e (n ∷ ns) i o =
        let q = subst (λ ms. AreSpotted s (spot k 0 ∷ p ∷ ps) (st.above ∷ []) ms f.yields) i
        (subst (λ os. AreSpotted s (spot k 0 ∷ p ∷ ps) (st.above ∷ os) (reverse begun) f.yields) e o) in
        absurd q.1
    by_outer (a ∷ os) e (n ∷ ns) i o =
        let q = subst (λ ms. AreSpotted s (spot k 0 ∷ p ∷ ps) (st.above ∷ a ∷ os) ms f.yields) i
        (subst (λ us. AreSpotted s (spot k 0 ∷ p ∷ ps) (st.above ∷ us) (reverse begun) f.yields) e o) in
        rw (above a os e, outer a os e, left n ns i) (spotted-leave s k p ps a st.above os n ns f.yields q)

no-number : {A : Type 0} → IsSome {T = ℕ} None → A
no-number e = absurd cc

-- what is left of the numbers where the last is taken away
pub popped-rest : (begun rest : List ℕ) (o : Option ℕ) → begun ≡ rest ++ option_to_list o → IsSome o ↔ (0 < length begun) →
    (n : ℕ) (ns : List ℕ) → reverse begun ≡ n ∷ ns → reverse rest ≡ ns
popped-rest begun rest (Some x) e k n ns i =
    let turned : reverse begun ≡ x ∷ reverse rest = ap reverse e ∙ reverse-append rest (x ∷ []) in
    cc
popped-rest [] rest None e k n ns i = cc
popped-rest (m ∷ begun) rest None e k n ns i = no-number (k.1 (omega arith))

-- ---- what a path means

pub name-known : (s : Store) (ds : List DeclType) (n : ℕ) (d : DeclType) → find (λ e. nat_eq e.decl n) ds ≡ Some d → d.kind ≡ ki.TypeDecl →
    AreKnownDecls s ds → IsDefinedName s n
name-known s ds n d e i h = subst (IsKnownKind s n d) i (h n d e)

-- of a declared type whose name is defined it is known whether it has a size
pub name-sized : (s : Store) → IsStore s → (n : ℕ) → IsDefinedName s n → IsSome (sized_of s n)
name-sized s v n h =
    let r = row_of s h.0 (v.defined_within n h.0 h.1) in
    let k = v.defined_sized n _ (ap (option_and_then (tree_at s)) h.1 ∙ tree_at_row s v h.0 r.0 r.1) in
    subst IsSome (sym k.1) refl

-- of a function the type of its value is defined
pub function-known : (s : Store) (ds : List DeclType) (n : ℕ) (d : DeclType) → find (λ e. nat_eq e.decl n) ds ≡ Some d → d.kind ≡ ki.Fn →
    AreKnownDecls s ds → IsDefined s d.ty
function-known s ds n d e i h = subst (IsKnownKind s n d) i (h n d e)
