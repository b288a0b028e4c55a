-- The turn of a written type.
use Rattle.std.specs.Prelude.{◌≡◌, map}
use Rattle.hare_types.specs.Store.{Store}
use Rattle.hare_types.specs.Later.{IsLater}
use Rattle.hare_rules.specs.Context.{Setting}
use Rattle.hare_rules.specs.Above.{Above}
use Rattle.hare_rules.specs.Finished.{bare}
use Rattle.hare_rules.specs.Flow.{Flow, path_meaning}
use Rattle.hare_walk.specs.Walks.{AreInHand}
use Rattle.rule_types.specs.declared.written.Written.{Written}
use Rattle.rule_types.specs.Contexts.{role_of, head_in, kind_in}

-- Its kids have been judged and are in hand, and its judge is told what a path means and whether it is the type of a binding.
pub record IsAtType (w : Store → Setting) (s : Store) (a : Above) (f : Flow) (t : Written) : Type 0 where
  pub store : (l : Store) → (w l).store ≡ l
  pub decls : (l : Store) → (w l).decls ≡ t.decls.now
  pub hand : AreInHand f t.kids.now
  pub role : a.inside.role ≡ role_of t.bound
  pub meaning : (l : Store) → IsLater s l → t.meaning ≡ path_meaning (w l) (head_in t) (kind_in t) (map bare t.kids.now)
