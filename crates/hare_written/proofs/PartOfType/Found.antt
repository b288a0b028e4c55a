-- What is found of a part of a written type, by its kind.
use Rattle.std.proofs.Common.{◌≡◌, ℕ, ◌<◌, Bool, true, false, cond, nat_eq, List, [], ◌∷◌, length, map, Option, Some, None, Ok, refl, ap, ap₂, sym, ◌∙◌, subst}
use Rattle.std.specs.Prelude.{find}
use Rattle.std.specs.List.{list_any}
use Rattle.hare_tree.specs.declared.kind.Kind.{Kind}
use Rattle.hare_tree.specs.declared.kind.Kind.TheVariants as ki
use Rattle.hare_tree.specs.declared.place.Place.{Place}
use Rattle.hare_tree.specs.declared.place.Fault.{Fault}
use Rattle.hare_tree.specs.declared.stop.Stop.{Stop}
use Rattle.hare_tree.specs.declared.stop.Stop.TheVariants.{Fault as Refused, Memory}
use Rattle.hare_tree.specs.declared.token.Meaning.{Meaning}
use Rattle.hare_tree.specs.declared.token.Meaning.TheVariants as means
use Rattle.hare_tree.specs.Levels.{is_type}
use Rattle.hare_tree.specs.Node.{Head, head}
use Rattle.hare_types.specs.declared.coercion.Coercion.{Coercion}
use Rattle.hare_types.specs.declared.coercion.Ty.{Ty}
use Rattle.hare_types.specs.declared.coercion.Ty.TheVariants as ty
use Rattle.hare_types.specs.declared.row.Row.{Row}
use Rattle.hare_types.specs.declared.row.Scalar.TheVariants as keyword
use Rattle.hare_types.specs.Store.{Store}
use Rattle.hare_types.specs.ByIds.{row_at}
use Rattle.hare_types.specs.Later.{IsLater}
use Rattle.hare_typed.specs.Typed.{TypedNode}
use Rattle.hare_typed.specs.Coats.{coat}
use Rattle.hare_rules.specs.declared.declared.DeclType.{DeclType}
use Rattle.hare_rules.specs.declared.row_id.RowId.{RowId}
use Rattle.hare_rules.specs.Above.{Above}
use Rattle.hare_rules.specs.Constants.{means_def}
use Rattle.hare_rules.specs.Context.{Setting, Context, Role, Ordinary, Length, store_of}
use Rattle.hare_rules.specs.Finished.{bare}
use Rattle.hare_rules.specs.Flow.{Flow, context, meaning_of}
use Rattle.hare_rules.specs.Judged.{IsRefusal}
use Rattle.hare_rules.specs.Operators.{path_type}
use Rattle.hare_rules.specs.Rows.{first_failing, is_site, rows_in_role}
use Rattle.hare_rules.specs.Types.{type_of, length_type, type_in_role, word}
use Rattle.hare_rules.specs.Words.{typed_as, word_id}
use Rattle.hare_find.specs.declared.finding.Finding.{Finding}
use Rattle.hare_find.specs.Findings.{IsFound, IsFoundAt, IsDefinedFinding}
use Rattle.hare_find.specs.Lengths.{is_length, IsAtLength}
use Rattle.hare_find.specs.Plain.{goes_by_kind, IsAtPlain}
use Rattle.hare_find.proofs.SettlingNothing.WithoutRows.{meets_none}
use Rattle.hare_seen.specs.Sizes.{FitsAs, size_row, size_row_by, is_small_at}
use Rattle.hare_walk.specs.Walks.{IsStop}
use Rattle.rule_judge.specs.Defined.{IsDefined, IsDefinedTy}
use Rattle.rule_types.specs.declared.written.Written.{Written}
use Rattle.rule_types.specs.Answers.{IsWrittenType, IsStoppedType}
use Rattle.rule_types.specs.Contexts.{role_of, head_in, kind_in, context_of, context_in}
use Rattle.rule_types.specs.Enough.{told, IsSameType}
use Rattle.rule_types.specs.Known.{IsKnown}
use Rattle.rule_types.proofs.ToldLemmas.{types_are_told}
use Rattle.hare_written.specs.Nodes.{is_around, is_written, IsIn, seen_of}
use Rattle.hare_written.specs.Program.{program_over}
use Rattle.hare_written.specs.Turns.{FitsTy, IsAt, IsTypeFound, IsTurnedBack}
use Rattle.hare_written.proofs.PartOfType.Kinds.{type-written, around-written, length-written, type-unasked, around-unasked, around-small, length-small, written-meaning}
use Rattle.hare_written.proofs.PartOfType.Turn.{refused}

-- what is no type, or may have any number of bytes, fits
no-row : (h : Head) (b : Ty) → ((o : Option Row) → size_row_by h.kind o ≡ None) → (s : Store) → FitsTy s h b
no-row h b none s u e r q = let n = none (row_at s u) in absurd cc

defined-in : (s : Store) (b : Ty) → IsDefinedTy s b → IsIn s b
defined-in s (ty.Of t) h u e = let same : t ≡ u = cc in subst (λ i. i < length s.rows) same h.within
defined-in s (ty.Iconst n) h u e = cc
defined-in s ty.Null h u e = cc
defined-in s ty.Empty h u e = cc

-- ---- written types

module _ (ns : List (Place × Meaning)) (s : Store) (t : Written) (kind : is_type (kind_in t) ≡ true)
    (means : (f : Store) → t.meaning ≡ meaning_of (program_over ns t.decls.now f) (head_in t)) where
  abbrev w : Store → Setting
  w = program_over ns t.decls.now

  module _ (f : Store) (a : Above) (cs : List Coercion) (at : IsAt a (role_of t.bound) t.kids.now cs) where
    abbrev c : Context
    c = context (w f) a (head_in t) t.kids.now (seen_of cs)

    -- its judge is told all that is known of it
    told-is : told c t.bound ≡ context_in f t
    told-is =
        ap₂ (λ m ys. context_of f t.decls.now m t.bound (head_in t) ys)
        (written-meaning (kind_in t) (type-written (kind_in t) kind) (w f) (head_in t) t.kids.now ∙ sym (means f)) at.hand

    same : IsSameType c (told c t.bound)
    same = types_are_told c t.bound kind at.role

    failing-is : first_failing c ≡ first_failing (context_in f t)
    failing-is = sym same.failing ∙ ap first_failing told-is

    type-is : type_of c ≡ type_of (context_in f t)
    type-is = sym same.type ∙ ap type_of told-is

  pub type-found : (u : ℕ) → IsKnown s u → IsWrittenType s t u → IsTypeFound w s (role_of t.bound) (head_in t) t.kids.now (ty.Of u)
  type-found u known i = record {
    kind = type-written (kind_in t) kind;
    unasked = type-unasked t.bound (kind_in t) kind;
    stands = λ v e. let same : u ≡ v = cc in subst (λ j. j < length s.rows) same known.within;
    fits = λ v e. let same : u ≡ v = cc in subst (FitsAs s (kind_in t)) same i.fits;
    meets = λ f l fit a cs at. failing-is f a cs at ∙ i.rows f l (fit u refl);
    type = λ f l a cs at. type-is f a cs at ∙ i.type f l;
    large = λ f v q l e asks big a cs at.
        let same : v ≡ u = cc in
        failing-is f a cs at ∙ i.large f q l (subst (λ j. size_row f (kind_in t) j ≡ Some q) same asks)
        (subst (λ j. is_small_at f j ≡ false) same big);
  }

  pub type-back : (e : Stop Fault) → IsStoppedType s t e → IsTurnedBack w s (role_of t.bound) (head_in t) t.kids.now e
  type-back Memory k f l a cs at = tt
  type-back (Refused e) k f l a cs at =
      let r = (same f a cs at).refusal e (subst (λ z. IsRefusal z e) (sym (told-is f a cs at)) (k f l)) in
      refused (w f) a (head_in t) t.kids.now cs r.row e r.first (sym r.is)

-- ---- other parts

module _ (ns : List (Place × Meaning)) (ds : List DeclType) (s : Store) (h : Head) (xs : List TypedNode) (plain : map bare xs ≡ xs) where
  abbrev v : Store → Setting
  v = program_over ns ds

  hand : (a : Above) (r : Role) (cs : List Coercion) → IsAt a r xs cs → xs ≡ map (coat cs) (map bare xs)
  hand a r cs at = sym at.hand ∙ ap (map (coat cs)) (sym plain)

  module _ (x : Finding) (defined : IsDefinedFinding s x) where
    -- what is found of the part is its type
    by-finding : (r : Role) → is_written h.kind ≡ true → list_any is_site (rows_in_role r h.kind) ≡ false →
        ((o : Option Row) → size_row_by h.kind o ≡ None) →
        ((f : Store) → IsLater s f → (a : Above) (cs : List Coercion) → IsAt a r xs cs →
        IsFoundAt (context (v f) a h (map bare xs) (seen_of cs)) xs cs x) →
        IsTypeFound v s r h xs x.ty
    by-finding r kind unasked none found = record {
      kind = kind;
      unasked = unasked;
      stands = defined-in s x.ty defined.ty;
      fits = no-row h x.ty none s;
      meets = λ f l fit a cs at. (here f l a cs at).failing;
      type = λ f l a cs at. (here f l a cs at).type;
      large = λ f u q l e asks big. let n = none (row_at f u) in absurd cc;
    }
      where
        here : (f : Store) → IsLater s f → (a : Above) (cs : List Coercion) → IsAt a r xs cs →
            IsFoundAt (context (v f) a h xs (seen_of cs)) xs cs x
        here f l a cs at = subst (λ (ys : List TypedNode). IsFoundAt (context (v f) a h ys (seen_of cs)) xs cs x) plain (found f l a cs at)

    -- what stands round types
    pub around-found : is_around h.kind ≡ true →
        ((u : Store → Setting) (a : Above) (f : Flow) → IsAtPlain u a f xs → IsFound u s a h xs f x) → IsTypeFound v s Ordinary h xs x.ty
    around-found kind found =
        by-finding Ordinary (around-written h.kind kind) (around-unasked h.kind kind) (around-small h.kind kind)
        (λ f l a cs at. found v a (seen_of cs) (record { store = λ l. refl; hand = hand a Ordinary cs at; role = ap goes_by_kind at.role })
        f l)

    -- a length
    pub length-found : (m : Meaning) → is_length h.kind ≡ true → ((f : Store) → m ≡ meaning_of (v f) h) →
        ((u : Store → Setting) (a : Above) (f : Flow) → IsAtLength u s a f ds m h xs → IsFound u s a h xs f x) →
        IsTypeFound v s Length h xs x.ty
    length-found m kind means found =
        by-finding Length (length-written h.kind kind) refl (length-small h.kind kind)
        (λ f l a cs at.
        found v a (seen_of cs)
        (record {
          store = λ l. refl;
          decls = λ l. refl;
          hand = hand a Length cs at;
          role = at.role;
          meaning = λ l k. means l ∙ sym (written-meaning h.kind (length-written h.kind kind) (v l) h (map bare xs));
        }) f l)

  -- the path of a length that means no def
  pub other-found : (m : Meaning) (u : ℕ) → h.kind ≡ ki.Path → ((f : Store) → m ≡ meaning_of (v f) h) →
      ((f : Store) → means_def (v f) m ≡ false) →
      IsDefined s u → ((f : Store) → IsLater s f → word_id f keyword.Void ≡ Some u) → IsTypeFound v s Length h xs (ty.Of u)
  other-found m u kind means other defined void =
      let length : is_length h.kind ≡ true = ap is_length kind in
      record {
        kind = length-written h.kind length;
        unasked = refl;
        stands = defined-in s (ty.Of u) defined;
        fits = no-row h (ty.Of u) (length-small h.kind length) s;
        meets = λ f l fit a cs at. meets_none (context (v f) a h xs (seen_of cs)) (ap (λ o. rows_in_role o h.kind) at.role);
        type = λ f l a cs at.
            let c = context (v f) a h xs (seen_of cs) in
            let meant : c.meaning ≡ m = written-meaning h.kind (length-written h.kind length) (v f) h xs ∙ sym (means f) in
            ap (type_in_role c) at.role ∙ ap (length_type c) kind
            ∙ ap (λ b. cond b (path_type c c.meaning) (word c keyword.Void)) (ap (means_def (v f)) meant ∙ other f) ∙ ap typed_as
            (void f l);
        large = λ f i q l e asks big. let n = length-small h.kind length (row_at f i) in absurd cc;
      }
