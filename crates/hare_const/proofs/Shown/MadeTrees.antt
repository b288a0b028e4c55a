-- The objects that the evaluation of a constant makes are those of its tree.
use Rattle.std.proofs.Common.{◌≡◌, ◌∙◌, ℕ, zero, suc, Bool, true, false, List, [], ◌++◌, refl, ap, sym, append-nil}
use Rattle.std.specs.Prelude.{◌+◌, ◌==◌, not, if◌then◌else◌, None}
use Rattle.hare_tree.specs.declared.kind.Kind.{Kind}
use Rattle.hare_tree.specs.declared.kind.Kind.TheVariants as kind
use Rattle.hare_tree.specs.Levels.{is_type}
use Rattle.hare_tree.specs.Node.{Head}
use Rattle.hare_types.specs.Store.{Store}
use Rattle.hare_typed.specs.declared.cell.Cell.{Cell}
use Rattle.hare_typed.specs.declared.constant.ConstObject.{ConstObject}
use Rattle.hare_typed.specs.Typed.{TypedNode, TypedNodes, Mark, marked, typed_none, typed_more}
use Rattle.hare_typed.specs.Constancy.{begins_with_global, is_constant, hides_kids, first_inconstant, first_inconstant_of}
use Rattle.hare_typed.specs.State.{Scope, AsValue, Value}
use Rattle.hare_typed.specs.Bindings.{own_bindings}
use Rattle.hare_typed.specs.Acts.{Act}
use Rattle.hare_typed.specs.Interpreter.{Tasks, node_act, kid_act, fewer_than}
use Rattle.hare_typed.specs.Evaluated.{is_evaluated, is_place, place_in_mode, value_in_mode, gives}
use Rattle.hare_typed.specs.ConstantValues.{without_run, constant_place, constant_node, constant_forms, statics, state_without_run, constant_result}
use Rattle.hare_const.specs.declared.operands.Operands.TheVariants.{NoKid}
use Rattle.hare_typed.specs.Settled.{PlainKind, IsPlain, ArePlain}
use Rattle.hare_const.specs.NodeValues.{kid_at, operands_of, kind_value, kid_values}
use Rattle.hare_const.specs.Made.{made_by_kids, made_of_value, made_by, made_by_each}
use Rattle.hare_typed.specs.Coherent.{scope_in, held, statics_in, statics_in_each, is_text_equality, compares_texts, compares_texts_each, IsCoherent}
use Rattle.hare_const.specs.Statics.{objects_in}
use Rattle.hare_const.proofs.Shown.Acts.{Shows}
use Rattle.hare_const.proofs.Shown.Made.{made_at, named_in, MakesThese, Makes, makes_as, makes_end, taken_none, ReadyToMake, makes_value_of}
use Rattle.hare_const.proofs.Shown.Trees.{first-none, type-idle, constant_from, no_place, and-left, not-true, compared, over, first-reached, form, kids-shown, Safe, safe_kids, safe_node, safe_first, safe_rest, has_statics}

-- what is not evaluated takes the value of no kid
pub idle_operands : (k : Kind) → is_evaluated k ≡ false → operands_of k ≡ NoKid
idle_operands kind.Paren e = absurd cc
idle_operands kind.FieldValue e = absurd cc
idle_operands kind.Neg e = absurd cc
idle_operands kind.Not e = absurd cc
idle_operands kind.Bang e = absurd cc
idle_operands kind.Cast e = absurd cc
idle_operands kind.Len e = absurd cc
idle_operands kind.Arith e = absurd cc
idle_operands kind.Shift e = absurd cc
idle_operands kind.Less e = absurd cc
idle_operands kind.Equal e = absurd cc
idle_operands kind.Logic e = absurd cc
idle_operands kind.Tuple e = absurd cc
idle_operands kind.StructLit e = absurd cc
idle_operands kind.Array e = absurd cc
idle_operands _ e = refl

module _ (s : Store) (own : ℕ) (all : List ConstObject) (less : Tasks) where
  -- ---- nodes

  -- what the kids of a node show, and what they make
  record KidsAre (ts : TypedNodes) : Type 0 where
    shown : (i : ℕ) → Shows all own (kid_act (constant_forms (without_run s)) less ts i AsValue) (kid_at i (kid_values s own ts))
    made : (i : ℕ) → MakesThese all own (kid_act (constant_forms (without_run s)) less ts i AsValue) (made_at i (made_by_each s own ts))

  -- a constant node is as its kind asks
  ready : (h : Head) (k : Kind) (m : Mark) (ts : TypedNodes) → is_constant s k m ts ≡ true → PlainKind s k ts →
      Safe all (statics_in_each own ts) (is_text_equality s k ts) →
      (hides_kids k ts ≡ false → first_inconstant_of s (λ u. false) ts ≡ None) →
      (hides_kids k ts ≡ false → KidsAre ts) →
      ReadyToMake s own all (over s own all less h ts) less (kid_values s own ts) (made_by_each s own ts) (marked h m ts) k
  ready h kind.Addr m ts e p w n f = λ sc st q.
      let g = and-left (begins_with_global ts) (not (m.coerce.row == 2)) e in
      first-reached s own all less h m ts g (p g) (record sc { first = sc.first + own_bindings h.kind }) st q
  ready h kind.Offset m ts e p w n f = tt
  ready h kind.Equal m ts e p w n f = (
    record {
      shown = λ i sc st q. (f refl).shown i (record sc { first = sc.first + own_bindings h.kind }) st q;
      made = λ i sc st cs q z. (f refl).made i (record sc { first = sc.first + own_bindings h.kind }) st cs q z;
    },
    compared s own all less h m ts (not-true _ (and-left _ (not (m.coerce.row == 2)) e)) (λ r. p r (n refl)) w,
  )
  ready h _ m ts e p w n f = record {
    shown = λ i sc st q. (f refl).shown i (record sc { first = sc.first + own_bindings h.kind }) st q;
    made = λ i sc st cs q z. (f refl).made i (record sc { first = sc.first + own_bindings h.kind }) st cs q z;
  }

  module _ (h : Head) (m : Mark) (ts : TypedNodes) (sc : Scope) where
    abbrev those_of_kids : List ConstObject
    those_of_kids = made_by_kids (marked h m ts) (operands_of h.kind) (kid_values s own ts) (made_by_each s own ts)

    abbrev own_one : List ConstObject
    own_one = made_of_value s own (marked h m ts) (kind_value s own (marked h m ts) h.kind (kid_values s own ts))

    abbrev chosen : (y x : Bool) → Act
    chosen y x =
        if not x then gives [] else
        (if y then place_in_mode (without_run s) (marked h m ts) AsValue sc (form s own all less h m ts sc)
        (constant_place (without_run s) (marked h m ts) sc h.kind)
        else value_in_mode (without_run s) (marked h m ts) AsValue sc (form s own all less h m ts sc))

    idle-made : (x : Bool) → x ≡ false → is_evaluated h.kind ≡ x → [] ≡ those_of_kids ++ (if x then own_one else [])
    idle-made true q e = absurd cc
    idle-made false q e =
        sym (ap (λ o. made_by_kids (marked h m ts) o (kid_values s own ts) (made_by_each s own ts) ++ []) (idle_operands h.kind e)
        ∙ ap (λ l. l ++ []) (taken_none (marked h m ts) (kid_at 0 (kid_values s own ts)) (made_by_each s own ts)))

    idle : (y x : Bool) → x ≡ false → is_evaluated h.kind ≡ x →
        Makes all (over s own all less h ts) less (chosen y x) (those_of_kids ++ (if x then own_one else []))
    idle y true q e = absurd cc
    idle y false q e = makes_as all (over s own all less h ts) less (gives []) _ _ (idle-made false q e)
        (makes_end all (over s own all less h ts) less (Value []))

    placed : (y : Bool) → y ≡ false → (x : Bool) → is_evaluated h.kind ≡ x →
        Makes all (over s own all less h ts) less (value_in_mode (without_run s) (marked h m ts) AsValue sc (form s own all less h m ts sc))
        (those_of_kids ++ own_one) →
        Makes all (over s own all less h ts) less (chosen y x) (those_of_kids ++ (if x then own_one else []))
    placed true r x e v = absurd cc
    placed false r true e v = v
    placed false r false e v = idle false false refl e

    node-made : first_inconstant s (λ u. false) (marked h m ts) ≡ None → PlainKind s h.kind ts →
        Safe all (statics_in_each own ts) (is_text_equality s h.kind ts) → (first_inconstant_of s (λ u. false) ts ≡ None → KidsAre ts) →
        sc.own ≡ own →
        Makes all (over s own all less h ts) less (constant_node (without_run s) (marked h m ts) AsValue sc) (made_by s own (marked h m ts))
    node-made e p w f q = go (is_type h.kind) refl
      where
        go : (x : Bool) → is_type h.kind ≡ x →
            Makes all (over s own all less h ts) less (constant_node (without_run s) (marked h m ts) AsValue sc)
            (made_by s own (marked h m ts))
        go true g = idle (is_place s (marked h m ts)) (is_evaluated h.kind) (type-idle h.kind g) refl
        go false g =
            let c = constant_from s h m ts g e in
            placed (is_place s (marked h m ts)) (no_place s (marked h m ts) e) (is_evaluated h.kind) refl
            (makes_value_of s own all (over s own all less h ts) less (kid_values s own ts) (made_by_each s own ts) (marked h m ts) sc
            h.kind q
            (ready h h.kind m ts c.itself p w c.kids (λ r. f (c.kids r))))

  mutual
    tree-made : (t : TypedNode) → first_inconstant s (λ u. false) t ≡ None → IsPlain s t →
        Safe all (statics_in own t) (compares_texts s t) → MakesThese all own (node_act (constant_forms (without_run s)) less t AsValue)
        (made_by s own t)
    tree-made (marked h m ts) e p w sc st cs q has r =
        let safe = safe_kids s all own h m ts w in
        (node-made h m ts sc e p.0 (safe_node s all own h m ts w) (λ f. record {
          shown = kids-shown s own all less ts f p.1 safe;
          made = kids-made ts f p.1 safe;
        }) q).named st cs has r

    kids-made : (ts : TypedNodes) → first_inconstant_of s (λ u. false) ts ≡ None → ArePlain s ts →
        Safe all (statics_in_each own ts) (compares_texts_each s ts) → (i : ℕ) →
        MakesThese all own (kid_act (constant_forms (without_run s)) less ts i AsValue) (made_at i (made_by_each s own ts))
    kids-made typed_none e p w i sc st cs q has r = sym (append-nil (named_in st))
    kids-made (typed_more t ts) e p w zero sc st cs q has r =
        tree-made t (first-none (first_inconstant s (λ u. false) t) _ e).0 p.0 (safe_first s all own t ts w) sc st cs q has r
    kids-made (typed_more t ts) e p w (suc i) sc st cs q has r =
        kids-made ts (first-none (first_inconstant s (λ u. false) t) _ e).1 p.1 (safe_rest s all own t ts w) i _ st cs q has r

-- all objects that there are when a constant is known
pub made_shown : (s : Store) (own : ℕ) (t : TypedNode) → first_inconstant s (λ u. false) t ≡ None → IsPlain s t →
    IsCoherent s own t → (cs : List Cell) → (constant_result s own t).0 ≡ Value cs →
    held (constant_result s own t).1.memory.objects.named ≡ objects_in s own t
made_shown s own t e p c cs r =
    tree-made s own (statics_in own t) (fewer_than (constant_forms (without_run s)) 0) t e p (λ x. (c x, λ o h. h)) (scope_in own)
    (state_without_run (statics (scope_in own) t)) cs refl (has_statics own t) r
