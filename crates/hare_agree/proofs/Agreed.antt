-- So two settings that say the same of the declarations that a tree names judge it alike.
use Rattle.std.proofs.Common.{◌≡◌, true, List, refl, ap, sym, ◌∙◌, subst}
use Rattle.std.specs.Prelude.{Option}
use Rattle.hare_tree.specs.declared.place.Fault.{Fault}
use Rattle.hare_tree.specs.declared.kind.Kind.{Kind}
use Rattle.hare_tree.specs.declared.kind.Kind.TheVariants as ki
use Rattle.hare_tree.specs.Node.{Head, Node}
use Rattle.hare_typed.specs.Typed.{TypedNode}
use Rattle.hare_typed.specs.Erased.{erase, heads}
use Rattle.hare_rules.specs.declared.declared.DeclType.{DeclType}
use Rattle.hare_rules.specs.Context.{Setting, declaration}
use Rattle.hare_rules.specs.Aggregates.{is_path}
use Rattle.hare_rules.specs.Above.{Above}
use Rattle.hare_rules.specs.Flow.{Flow, is_path_kind, all_settled}
use Rattle.hare_rules.specs.Rows.{fault_of}
use Rattle.hare_rules.specs.Finished.{IsTheTree, IsTheFault}
use Rattle.hare_agree.specs.Agree.{SaysTheSame, AgreeOn, AgreeOnValues, AreAlike}
use Rattle.hare_agree.specs.Laws.{IsSaidToo, SettingsAgree, ValuesAreEnough}
use Rattle.hare_agree.proofs.Meanings.{knowing}
use Rattle.hare_agree.proofs.Contexts.{fault_of-told}
use Rattle.hare_agree.proofs.Carried.{AreHeadsAlike, behind-alike, carries-alike}
use Rattle.hare_agree.proofs.Failing.{fails-alike, setting_of-fails, lacks-alike}

-- ---- one setting, with other declarations

knowing-said : (ds : List DeclType) (w : Setting) (a : Above) (f : Flow) (t : Node) → AreHeadsAlike w (knowing ds w) (heads t) →
    IsSaidToo w (knowing ds w) a f t
knowing-said ds w a f t k =
    let v = knowing ds w in
    let ks : (x : TypedNode) → erase x ≡ t → AreHeadsAlike w v (heads (erase x)) =
    λ x e. subst (λ (u : Node). AreHeadsAlike w v (heads u)) (sym e) k in
    record {
      carries = λ x e c. carries-alike ds w a x f (ks x e) c;
      well = λ x e c.
          record {
            shaped = c.shaped;
            carries = carries-alike ds w a x f (ks x e) c.carries;
            coerced = c.coerced ∙ ap all_settled (sym (behind-alike ds w a x f (ks x e) c.carries));
          };
      fails = λ r c l. fails-alike ds w a t f r c k l;
      fault = λ r c l.
          ap (λ (z : Setting). fault_of r (record c { setting = knowing ds z })) (sym (setting_of-fails w a t f r c l)) ∙ fault_of-told ds c
          r;
      lacks = λ c l. lacks-alike ds w a t f c k l;
      behind = λ x e c. behind-alike ds w a x f (ks x e) c;
    }

-- ---- two settings

setting-ext : (w v : Setting) → AreAlike w v → knowing v.decls w ≡ v
setting-ext w v l = λ i. record { store = sym l.store i; decls = v.decls; means = sym l.means i }

alike-said : (w v : Setting) (a : Above) (f : Flow) (t : Node) → AreAlike w v → AreHeadsAlike w v (heads t) → IsSaidToo w v a f t
alike-said w v a f t l k =
    subst (λ (z : Setting). IsSaidToo w z a f t) (setting-ext w v l) (knowing-said v.decls w a f t k)

-- ---- both ways

tree-said : (w v : Setting) (a : Above) (f : Flow) (t : Node) (x : TypedNode) → IsSaidToo w v a f t → IsSaidToo v w a f t →
    IsTheTree w a f t x → IsTheTree v a f t x
tree-said w v a f t x p q k =
    record { well = p.well x k.erases k.well; erases = k.erases; only = λ u e l. k.only u e (q.well u e l) }

fault-said : (w v : Setting) (a : Above) (f : Flow) (t : Node) (e : Fault) → IsSaidToo w v a f t → IsSaidToo v w a f t →
    IsTheFault w a f t e → IsTheFault v a f t e
fault-said w v a f t e p q k =
    record {
      row = k.row;
      at = record k.at { setting = v };
      fails = p.fails k.row k.at k.fails;
      is = k.is ∙ sym (p.fault k.row k.at k.fails);
      only = λ r c l. sym (q.fault r c l) ∙ k.only r (record c { setting = w }) (q.fails r c l);
      unwell = λ u i l. k.unwell u i (q.well u i l);
    }

AreAlike-sym : (w v : Setting) → AreAlike w v → AreAlike v w
AreAlike-sym w v l = record { store = sym l.store; means = sym l.means }

AreHeadsAlike-sym : (w v : Setting) (hs : List Head) → AreAlike w v → AreHeadsAlike w v hs → AreHeadsAlike v w hs
AreHeadsAlike-sym w v hs l k h c e n i = sym (k h c e n (ap (λ m. m h.place) (sym l.means) ∙ i))

pub values_are_enough : ValuesAreEnough
values_are_enough w v a f t l k =
    let m = AreAlike-sym w v l in
    let hs : AreHeadsAlike w v (heads t) = λ h c e n i. k h n c e i in
    let p = alike-said w v a f t l hs in
    let q = alike-said v w a f t m (AreHeadsAlike-sym w v (heads t) l hs) in
    record {
      there = p;
      back = q;
      tree = λ x. (tree-said w v a f t x p q, tree-said v w a f t x q p);
      first = λ e. (fault-said w v a f t e p q, fault-said v w a f t e q p);
    }

-- ---- paths in written types

-- of a path that is no written type all is the same
says_value : (k : Kind) (o p : Option DeclType) → is_path k ≡ true → SaysTheSame k o p → o ≡ p
says_value ki.Path o p e s = s
says_value _ o p e s = cc

is_path_kind-path : (k : Kind) → is_path k ≡ true → is_path_kind k ≡ true
is_path_kind-path ki.Path e = refl
is_path_kind-path _ e = cc

pub agree_on_values : (w v : Setting) (t : Node) → AgreeOn w v t → AgreeOnValues w v t
agree_on_values w v t k h n c e i =
    says_value h.kind (declaration w n) (declaration v n) e (k h n c (is_path_kind-path h.kind e) i)

pub settings_agree : SettingsAgree
settings_agree w v a f t l k = values_are_enough w v a f t l (agree_on_values w v t k)
