-- What a tree comes to over two settings that agree on it.
use Rattle.std.specs.Prelude.{◌≡◌, ◌↔◌}
use Rattle.hare_tree.specs.declared.place.Fault.{Fault}
use Rattle.hare_tree.specs.Node.{Node}
use Rattle.hare_typed.specs.Typed.{TypedNode}
use Rattle.hare_typed.specs.Erased.{erase}
use Rattle.hare_rules.specs.declared.row_id.RowId.{RowId}
use Rattle.hare_rules.specs.Context.{Setting, Context}
use Rattle.hare_rules.specs.Above.{Above}
use Rattle.hare_rules.specs.Flow.{Flow}
use Rattle.hare_rules.specs.Rows.{fault_of}
use Rattle.hare_rules.specs.Finished.{behind, AllCarry, IsWell, FailsIn, IsTheTree, IsTheFault}
use Rattle.hare_inference.specs.Lacking.{LacksIn}
use Rattle.hare_agree.specs.Agree.{AreAlike, AgreeOn, AgreeOnValues}

-- What the first setting says of a tree the second says too: which typed trees carry what they should and which is well typed, which row is
-- the first that fails, where, and with which fault, where the store lacks a type, and what has been seen behind the tree.
pub record IsSaidToo (w v : Setting) (a : Above) (f : Flow) (t : Node) : Type 0 where
  pub carries : (x : TypedNode) → erase x ≡ t → AllCarry w a x f → AllCarry v a x f
  pub well : (x : TypedNode) → erase x ≡ t → IsWell w a f x → IsWell v a f x
  pub fails : (r : RowId) (c : Context) → FailsIn w a t f r c → FailsIn v a t f r (record c { setting = v })
  pub fault : (r : RowId) (c : Context) → FailsIn w a t f r c → fault_of r (record c { setting = v }) ≡ fault_of r c
  pub lacks : (c : Context) → LacksIn w a t f c → LacksIn v a t f (record c { setting = v })
  pub behind : (x : TypedNode) → erase x ≡ t → AllCarry w a x f → behind v a x f ≡ behind w a x f

-- Each says what the other says, and so they have the same one tree and the same first fault.
pub record IsAgreed (w v : Setting) (a : Above) (f : Flow) (t : Node) : Type 0 where
  pub there : IsSaidToo w v a f t
  pub back : IsSaidToo v w a f t
  pub tree : (x : TypedNode) → IsTheTree w a f t x ↔ IsTheTree v a f t x
  pub first : (e : Fault) → IsTheFault w a f t e ↔ IsTheFault v a f t e

abbrev pub SettingsAgree : Type 0
SettingsAgree = (w v : Setting) (a : Above) (f : Flow) (t : Node) → AreAlike w v → AgreeOn w v t → IsAgreed w v a f t

abbrev pub ValuesAreEnough : Type 0
ValuesAreEnough = (w v : Setting) (a : Above) (f : Flow) (t : Node) → AreAlike w v → AgreeOnValues w v t → IsAgreed w v a f t
