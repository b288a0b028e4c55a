-- Types are written by those that came before them.
use Rattle.std.proofs.Common.{◌+◌, ◌*◌}
use Rattle.spelled_types.proofs.printed.+types.Given as goal

abbrev pub decreases-put_type : goal.decreases-put_type
decreases-put_type l = 4 * l.t + 3

abbrev pub decreases-put_fields : goal.decreases-put_fields
decreases-put_fields l = 4 * l.t + 2

abbrev pub decreases-put_types : goal.decreases-put_types
decreases-put_types l = 4 * l.t + 2

abbrev pub decreases-put_behind : goal.decreases-put_behind
decreases-put_behind l = 4 * l.t + 1
