-- The patterns of cases, one by one and together.
use Rattle.std.specs.Prelude.{◌≡◌, ℕ, Bool, false, nat_eq, List}
use Rattle.hare_types.specs.Store.{Store}
use Rattle.hare_types.specs.ByIds.{row_at}
use Rattle.hare_typed.specs.Cover.{Patterns as Listed, is_pointer_to}
use Rattle.hare_rules.specs.Control.{Pattern, Default, NullPointer, Member, Lacking, stands_among, members_listed}
use Rattle.indexmap.specs.IndexSet.{contains}
use Rattle.rule_judge.specs.Defined.{IsDefined}
use Rattle.rule_match.specs.declared.patterns.Pattern.{Pattern as Told}
use Rattle.rule_match.specs.declared.patterns.Pattern.TheVariants as told
use Rattle.rule_match.specs.declared.listed.Patterns.{Patterns}

-- a pattern as the table has it
abbrev pub meant : Told → Pattern
meant told.Default = Default
meant told.NullPointer = NullPointer
meant (told.Member t) = Member t
meant told.Lacking = Lacking

-- the type that it names mentions no name that is not defined
abbrev pub IsDefinedPattern : Store → Pattern → Type 0
IsDefinedPattern s Default = Unit {0}
IsDefinedPattern s NullPointer = Unit {0}
IsDefinedPattern s (Member t) = IsDefined s t
IsDefinedPattern s Lacking = Unit {0}

-- a pointer to the type that is never null
abbrev pub points_to : Store → ℕ → Pattern → Bool
points_to s u (Member t) = is_pointer_to u (row_at s t)
points_to s u Default = false
points_to s u NullPointer = false
points_to s u Lacking = false

-- ---- together

-- the pattern is one of those that are listed
abbrev pub holds : Patterns → Pattern → Bool
holds q Default = q.has_default
holds q NullPointer = q.has_null
holds q (Member t) = contains nat_eq q.types t
holds q Lacking = false

-- those are the patterns of this list
abbrev pub AreListed : Patterns → List Pattern → Type 0
AreListed q ps = (p : Pattern) → holds q p ≡ stands_among ps p

-- the patterns of a list as what they cover is asked of them
abbrev pub as_cover : List Pattern → Listed
as_cover ps = record { has_default = stands_among ps Default; has_null = stands_among ps NullPointer; types = members_listed ps }
