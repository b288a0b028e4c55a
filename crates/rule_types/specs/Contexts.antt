-- A written type whose turn has come, and its context.
use Rattle.std.specs.Prelude.{Bool, true, false, not, List, [], find, Option}
use Rattle.hare_tree.specs.declared.kind.Kind.{Kind}
use Rattle.hare_tree.specs.declared.token.Meaning.{Meaning}
use Rattle.hare_tree.specs.Node.{Head, head}
use Rattle.hare_types.specs.Store.{Store}
use Rattle.hare_typed.specs.Typed.{TypedNode}
use Rattle.hare_rules.specs.declared.hint.Hint.TheVariants as hint
use Rattle.hare_rules.specs.declared.declared.DeclType.{DeclType}
use Rattle.hare_rules.specs.declared.row_id.RowId.{RowId}
use Rattle.hare_rules.specs.Context.{Context, Role, Ordinary, BindingType}
use Rattle.hare_rules.specs.Aggregates.{but_last}
use Rattle.hare_rules.specs.Table.{rows_of}
use Rattle.hare_rules.specs.Rows.{holds}
use Rattle.rule_judge.specs.Settings.{setting_of}
use Rattle.rule_types.specs.declared.written.Written.{Written}

-- what the type is to its parent: that of a binding has to have a size
abbrev pub role_of : Bool → Role
role_of true = BindingType
role_of false = Ordinary

-- what a judge of written types is told: no row of theirs reads anything else
abbrev pub context_of : Store → List DeclType → Meaning → Bool → Head → List TypedNode → Context
context_of s decls m bound h xs =
    record {
      setting = setting_of s decls;
      locals = [];
      head = h;
      node = 0;
      meaning = m;
      hint = hint.None;
      inside = record { own = 0; result = 0; labels = []; deferred = false; body = false; role = role_of bound };
      kids = xs;
      yields = [];
    }

abbrev pub head_in : Written → Head
head_in t = head t.node.now

abbrev pub kind_in : Written → Kind
kind_in t = (head_in t).kind

-- the context of the node in a store
abbrev pub context_in : Store → Written → Context
context_in s t = context_of s t.decls.now t.meaning t.bound (head_in t) t.kids.now

-- the rows of a kind of written type but the last, which asks whether the type of a binding has a size
abbrev pub own_rows : Kind → List RowId
own_rows k = but_last (rows_of k)

-- the first of them that fails
abbrev pub own_failing : Kind → Context → Option RowId
own_failing k c = find (λ r. not (holds r c)) (own_rows k)
