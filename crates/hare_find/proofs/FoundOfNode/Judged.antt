-- That a verdict is what is found of its node.
use Rattle.std.proofs.Common.{◌≡◌, ℕ, Bool, true, false, List, [], ◌∷◌, ◌++◌, map, length, refl, ap, sym, ◌∙◌, subst, Option, Some, None}
use Rattle.std.specs.Prelude.{not, ◌&&◌, replicate}
use Rattle.std.specs.List.{list_any}
use Rattle.hare_tree.specs.declared.kind.Kind.{Kind}
use Rattle.hare_tree.specs.declared.kind.Kind.TheVariants as ki
use Rattle.hare_tree.specs.declared.place.Fault.{Fault}
use Rattle.hare_tree.specs.declared.stop.Stop.{Stop}
use Rattle.hare_tree.specs.declared.stop.Stop.TheVariants.{Fault as Refused, Memory}
use Rattle.hare_types.specs.declared.coercion.Coercion.{Coercion}
use Rattle.hare_types.specs.declared.coercion.Ty.{Ty}
use Rattle.hare_types.specs.Store.{Store}
use Rattle.hare_types.specs.Later.{IsLater}
use Rattle.hare_typed.specs.Typed.{TypedNode}
use Rattle.hare_typed.specs.Coats.{coat}
use Rattle.hare_typed.specs.Copies.{has_defers as takes_yields}
use Rattle.hare_rules.specs.declared.hint.Hint.{Hint}
use Rattle.hare_rules.specs.declared.hint.Hint.TheVariants as hint
use Rattle.hare_rules.specs.declared.declared.Local.{Local}
use Rattle.hare_rules.specs.declared.judged.Case.{Case}
use Rattle.hare_rules.specs.declared.judged.Verdict.{Verdict}
use Rattle.hare_rules.specs.declared.judged.Yielded.{Yielded}
use Rattle.hare_rules.specs.Context.{Setting, Context, Given, Role, Ordinary, Callee, Length, BindingType, CaseValue, DeclaredValue}
use Rattle.hare_rules.specs.Above.{Above}
use Rattle.hare_rules.specs.Settles.{Settled, target_of, settles_from, settled_from, settles_late}
use Rattle.hare_rules.specs.Flow.{Flow, own_settled, write_each}
use Rattle.hare_rules.specs.Types.{type_of}
use Rattle.hare_rules.specs.Rows.{is_site, rows_in_role, is_judged}
use Rattle.hare_rules.specs.Table.{rows_of}
use Rattle.hare_rules.specs.Judged.{IsVerdict, IsRefusal}
use Rattle.hare_rules.specs.Finished.{bare}
use Rattle.hare_told.specs.Told.{IsTold, IsLookedAt, has_judge}
use Rattle.hare_told.specs.Enough.{told, IsSameVerdict}
use Rattle.hare_told.specs.Settled.{listed_from, listed_late, AreApart, AreAsIs, HandNothingOn, IsAllSettled}
use Rattle.hare_told.proofs.Verdicts.{seen, told-seen, told_is_enough}
use Rattle.hare_told.proofs.Settling.{kids_written, verdicts_settle}
use Rattle.hare_walk.specs.Verdicts.{IsTurnOf}
use Rattle.hare_walk.specs.Walks.{IsTurnedBack}
use Rattle.hare_walk.proofs.Verdicts.{verdicts_turn}
use Rattle.rule_judge.specs.declared.turn.Turn.{Turn}
use Rattle.rule_judge.specs.Told.{IsStoppedNode}
use Rattle.rule_judge.specs.Turns.{context_in, head_in, kind_in, yields_in}
use Rattle.rule_ctl.specs.Declaring.{declares}
use Rattle.hare_judge.specs.Kinds.{is_judged_kind}
use Rattle.hare_find.specs.declared.finding.Finding.{Finding}
use Rattle.hare_find.specs.Listed.{listed_each, yields_listed, written_each, coated_each}
use Rattle.hare_find.specs.Late.{settled_in}
use Rattle.hare_find.specs.Settling.{option_in}
use Rattle.hare_find.specs.Findings.{lists, IsFoundAt}
use Rattle.hare_find.proofs.SettlingNothing.AsFound.{AreFound, found_none}
use Rattle.hare_find.proofs.Asked.AtTurn.{IsAsked, context_at, told_context}
use Rattle.hare_find.proofs.Verdicts.Found.{listed_same, coated_from, as_is-more, no_yield_target, no_case_target}

-- what a finding takes of a verdict
pub record IsTakenFrom (l : Store) (t : Turn) (gs : List Given) (v : Verdict) (x : Finding) : Type 0 where
  pub ty : x.ty ≡ v.ty
  pub own : x.own ≡ v.own
  pub listed : lists (kind_in t) ≡ true → map option_in x.kids ≡ listed_each (context_in l t) 0 t.kids.now
  pub nones : lists (kind_in t) ≡ false → map option_in x.kids ≡ replicate (length t.kids.now) None
  pub asked : t.case.now.hint ≡ hint.None → takes_yields (kind_in t) ≡ true →
      map settled_in x.late ≡ listed_late gs (yields_listed (context_in l t) (yields_in t))
  pub hinted : ¬ (t.case.now.hint ≡ hint.None) → x.late ≡ []
  pub others : takes_yields (kind_in t) ≡ false → x.late ≡ []

pub judged_role : (o : Role) (k : Kind) → has_judge o ≡ true → rows_in_role o k ≡ rows_of k
judged_role Ordinary k e = refl
judged_role CaseValue k e = refl
judged_role DeclaredValue k e = refl
judged_role BindingType k e = refl
judged_role Callee k e = cc
judged_role Length k e = cc

has_site : (k : Kind) → is_judged_kind k ≡ true → list_any is_site (rows_of k) ≡ true
has_site k e = first (list_any is_site (rows_of k)) (not (declares k)) e where
  first : (a b : Bool) → (a && b) ≡ true → a ≡ true
  first true b h = refl
  first false b h = h

-- the node is one of those that settle nothing
unlisted : (k : Kind) → lists k ≡ false → (c : Context) (i : ℕ) → target_of c k i ≡ None
unlisted ki.Yield e = no_yield_target ki.Yield refl
unlisted ki.SwitchCase e = no_case_target ki.SwitchCase refl
unlisted _ e = cc

-- ---- the kids of a node that settles what is listed

-- what is known of the kids, where a judge is told `k` of the node `c`
record AreListed (c k : Context) (ls : List Local) (ys : List Yielded) (xs : List TypedNode) (cs : List Coercion) (os : List
    (Option Coercion)) : Type 0 where
  seen : k ≡ seen ls ys c
  hand : xs ≡ map (coat cs) (map bare xs)
  kids : c.kids ≡ xs
  hands : HandNothingOn xs
  apart : AreApart xs
  as_is : AreAsIs k 0 xs cs
  listed : os ≡ listed_each k 0 xs

found_listed : (c k : Context) (ls : List Local) (ys : List Yielded) (xs : List TypedNode) (cs : List Coercion) (os : List
    (Option Coercion)) →
    AreListed c k ls ys xs cs os → AreFound c xs cs os
found_listed c k ls ys xs cs os h =
    let j = seen ls ys c in
    let as_is : AreAsIs j 0 xs cs = subst (λ z. AreAsIs z 0 xs cs) h.seen h.as_is in
    let all : listed_each j 0 xs ≡ os = ap (λ z. listed_each z 0 xs) (sym h.seen) ∙ sym h.listed in
    let same : listed_from j 0 xs ≡ written_each xs os = listed_same j 0 xs ∙ ap (written_each xs) all in
    record {
      kids = λ r.
          let ds = cs ++ r ∷ [] in
          let p : write_each (settles_from c 0 xs) ds ≡ write_each (listed_from j 0 xs) ds =
          kids_written c ls ys 0 xs ds h.kids h.hands h.apart (as_is-more j 0 xs cs (r ∷ []) as_is) in
          ap (λ zs. write_each (settles_from c 0 zs) ds) h.kids ∙ p ∙ ap (λ ss. write_each ss ds) same;
      coated = ap (settled_from c 0) h.kids ∙ coated_from c ls ys 0 xs cs h.kids h.hands as_is h.hand ∙ ap (coated_each xs) all;
    }

-- ---- what was yielded

late_by : (c : Context) (q : Case) (j : Context) (ls : List Settled) (v : Ty) (gs : List Given) (h : Hint) (b : Bool) → IsAllSettled c j q →
    c.hint ≡ h → takes_yields c.head.kind ≡ b → type_of c ≡ Some v → c.yields ≡ gs →
    (h ≡ hint.None → b ≡ true → ls ≡ listed_late gs (yields_listed j q.yields)) → (¬ (h ≡ hint.None) → ls ≡ []) → (b ≡ false → ls ≡ []) →
    settles_late c c.head.kind ≡ ls
late_by c q j ls v gs h false s e d t y asked hinted others = s.others d ∙ sym (others refl)
late_by c q j ls v gs hint.None true s e d t y asked hinted others =
    s.late v d e t ∙ ap (λ zs. listed_late zs (yields_listed j q.yields)) y ∙ sym (asked refl refl)
late_by c q j ls v gs hint.Drop true s e d t y asked hinted others = s.dropped e ∙ sym (hinted (λ p. cc))
late_by c q j ls v gs (hint.Of n) true s e d t y asked hinted others = s.asked n e ∙ sym (hinted (λ p. cc))

-- ---- a verdict

pub found_judged : (w : Store → Setting) (s : Store) (a : Above) (f : Flow) (t : Turn) (gs : List Given) (v : Verdict) (x : Finding)
    (l : Store) →
    is_judged_kind (kind_in t) ≡ true → IsAsked w s a f t gs → IsLater s l → IsVerdict (context_in l t) (yields_in t) v →
    IsTakenFrom l t gs v x →
    IsFoundAt (context_at w a f t l) t.kids.now f.coercions x
found_judged w s a f t gs v x l kind q later i from =
    let c = context_at w a f t l in
    let ds = t.decls.now in
    let ls = t.locals.now in
    let k = t.case.now in
    let xs = t.kids.now in
    let here = told_context w a f t l (q.store l) q.hand in
    let told_ : IsTold c ds ls k = q.told l later in
    let looked : IsLookedAt c = q.looked l later in
    let verdict : IsVerdict (told c ds ls k) k.yields v = subst (λ z. IsVerdict z k.yields v) here i in
    let enough : IsSameVerdict c (told c ds ls k) = told_is_enough c ds ls k told_ looked in
    let turn : IsTurnOf (w l) a (head_in t) (map bare xs) f ds ls k c =
    verdicts_turn (w l) a (head_in t) (map bare xs) f ds ls k told_ looked in
    let settle : IsAllSettled c (told c ds ls k) k = verdicts_settle c ds ls k told_ in
    let judged : is_judged c ≡ true = ap (list_any is_site) (judged_role c.inside.role c.head.kind told_.role) ∙
    has_site (kind_in t) kind in
    let type : type_of c ≡ Some v.ty = sym enough.type ∙ verdict.type in
    let kids = kids_by (lists (kind_in t)) refl in
    record {
      failing = sym enough.failing ∙ verdict.rows;
      type = type ∙ ap Some (sym from.ty);
      own = ap (own_settled c) from.ty ∙ turn.own v verdict judged ∙ sym from.own;
      kids = kids.kids;
      coated = kids.coated;
      late =
          late_by c k (told c ds ls k) (map settled_in x.late) v.ty gs c.hint (takes_yields c.head.kind) settle refl refl type q.yields
          (λ e b. from.asked (told_.hint ∙ e) b ∙ ap (λ z. listed_late gs (yields_listed z k.yields)) here)
          (λ n. ap (map settled_in) (from.hinted (λ e. n (sym told_.hint ∙ e))))
          (λ b. ap (map settled_in) (from.others b));
    }
  where
    kids_by : (b : Bool) → lists (kind_in t) ≡ b → AreFound (context_at w a f t l) t.kids.now f.coercions (map option_in x.kids)
    kids_by true e =
        found_listed (context_at w a f t l) (context_in l t) t.locals.now t.case.now.yields t.kids.now f.coercions (map option_in x.kids)
        (record {
          seen = told_context w a f t l (q.store l) q.hand
              ∙ told-seen (context_at w a f t l) t.decls.now t.locals.now t.case.now (q.told l later);
          hand = q.hand;
          kids = sym q.hand;
          hands = q.hands e;
          apart = q.apart;
          as_is = q.as_is e l later;
          listed = from.listed e;
        })
    kids_by false e =
        found_none (context_at w a f t l) t.kids.now f.coercions (map option_in x.kids) (length t.kids.now) (unlisted (kind_in t) e)
        (sym q.hand) (from.nones e)

-- ---- a refusal

pub turned_back : (w : Store → Setting) (s : Store) (a : Above) (f : Flow) (t : Turn) (gs : List Given) (e : Stop Fault) →
    IsAsked w s a f t gs → IsStoppedNode s t.decls.now t.locals.now t.case.now t.node.now t.kids.now e →
    IsTurnedBack w s a (head_in t) t.kids.now f e
turned_back w s a f t gs Memory q h = λ l d. tt
turned_back w s a f t gs (Refused e) q h =
    λ l d.
    let c = context_at w a f t l in
    let r = subst (λ z. IsRefusal z e) (told_context w a f t l (q.store l) q.hand) (h l d) in
    let turn : IsTurnOf (w l) a (head_in t) (map bare t.kids.now) f t.decls.now t.locals.now t.case.now c =
    verdicts_turn (w l) a (head_in t) (map bare t.kids.now) f t.decls.now t.locals.now t.case.now (q.told l d) (q.looked l d) in
    turn.refused e r
