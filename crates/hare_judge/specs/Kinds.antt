-- Which kinds each crate of rules judges.
use Rattle.std.specs.Prelude.{Bool, not, ◌&&◌, ◌||◌}
use Rattle.std.specs.List.{list_any}
use Rattle.hare_tree.specs.declared.kind.Kind.{Kind}
use Rattle.hare_rules.specs.Table.{rows_of}
use Rattle.hare_rules.specs.Rows.{is_site}
use Rattle.rule_ops.specs.Kinds.{is_operator}
use Rattle.rule_mem.specs.Kinds.{judges as judges_places}
use Rattle.rule_ctl.specs.Declaring.{declares}
use Rattle.rule_ctl.specs.Kinds.{judges as judges_control}
use Rattle.rule_join.specs.Kinds.{judges as judges_joins}
use Rattle.rule_match.specs.Kinds.{judges as judges_matches}
use Rattle.rule_switch.specs.Kinds.{judges as judges_switches}
use Rattle.hare_judge.specs.declared.kinds.Judge.{Judge}
use Rattle.hare_judge.specs.declared.kinds.Judge.TheVariants as by

-- An expression or a statement: a hint asks something of it, since its rows end in those that all expressions, statements and declarations
-- of values share, and it is no declaration. A declaration is judged by itself, with the place in its value that is not constant.
abbrev pub is_judged_kind : Kind → Bool
is_judged_kind k = list_any is_site (rows_of k) && not (declares k)

-- its kids behind the first are cases
abbrev pub has_cases : Kind → Bool
has_cases k = judges_matches k || judges_switches k

-- these rules are those of the kind
abbrev pub judges : Judge → Kind → Bool
judges by.Operators k = is_operator k
judges by.Memory k = judges_places k
judges by.Control k = judges_control k
judges by.Joining k = judges_joins k
judges by.Matching k = judges_matches k
judges by.Switching k = judges_switches k
