-- That no type of what has been seen, and of what judges are told of it, mentions a name that is not defined.
use Rattle.std.specs.Prelude.{List, [], ◌∷◌}
use Rattle.hare_types.specs.Store.{Store}
use Rattle.hare_rules.specs.declared.declared.Local.{Local}
use Rattle.hare_rules.specs.Context.{Entry, Later, Known, Odd}
use Rattle.hare_rules.specs.Flow.{Yielded}
use Rattle.rule_judge.specs.Defined.{IsDefined}
use Rattle.hare_find.specs.Yields.{IsDefinedOption}

-- the type of each local that a judge is told
abbrev pub AreDefinedLocals : Store → List Local → Type 0
AreDefinedLocals s [] = Unit {0}
AreDefinedLocals s (l ∷ ls) = IsDefined s l.ty × AreDefinedLocals s ls

-- the type of a binding, where it is known
abbrev pub IsDefinedEntry : Store → Entry → Type 0
IsDefinedEntry s (Known l) = IsDefined s l.ty
IsDefinedEntry s Later = Unit {0}
IsDefinedEntry s (Odd p) = Unit {0}

-- the type of each value that was yielded, where it has one
abbrev pub AreDefinedYielded : Store → List Yielded → Type 0
AreDefinedYielded s [] = Unit {0}
AreDefinedYielded s (y ∷ ys) = IsDefinedOption s y.given.ty × AreDefinedYielded s ys
