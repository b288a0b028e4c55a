-- A gap is read back as itself.
use Rattle.std.proofs.Common.{◌≡◌, ℕ, ◌+◌, List, Bool, true, false, refl, if◌then◌else◌}
use Rattle.hare_lines.specs.declared.way.Feeds.{Feeds}
use Rattle.hare_lines.specs.declared.way.Feeds.TheVariants.{Same, Next, Empty}
use Rattle.hare_ways.specs.declared.way.Start.{Start}
use Rattle.hare_ways.specs.declared.way.Start.TheVariants.{Within, Begins, Outdented}
use Rattle.hare_lines.specs.declared.way.Before.{Before}
use Rattle.hare_lines.specs.declared.way.Before.TheVariants.{Nothing, Opening, Remark, Other}
use Rattle.hare_ways.specs.declared.way.Way.{Way}
use Rattle.hare_lines.specs.Gaps.{Behind, line, comment_gap, comment_tabs, start_gap, before_gap, token_gap, tabs_of, extra_tab}
use Rattle.hare_lines.specs.Layout.{read_back, GapsStay}

line_again : (before : Before) (f : Feeds) (tabs : ℕ) → line before (read_back (line before f tabs)) tabs ≡ line before f tabs
line_again Nothing f tabs = refl
line_again Opening f tabs = refl
line_again Remark Same tabs = refl
line_again Remark Next tabs = refl
line_again Remark Empty tabs = refl
line_again Other Same tabs = refl
line_again Other Next tabs = refl
line_again Other Empty tabs = refl

comment_again : (before : Before) (f : Feeds) (tabs : ℕ)
    → comment_gap before (read_back (comment_gap before f tabs)) tabs ≡ comment_gap before f tabs
comment_again Nothing f tabs = refl
comment_again Opening Same tabs = refl
comment_again Opening Next tabs = refl
comment_again Opening Empty tabs = refl
comment_again Remark Same tabs = refl
comment_again Remark Next tabs = refl
comment_again Remark Empty tabs = refl
comment_again Other Same tabs = refl
comment_again Other Next tabs = refl
comment_again Other Empty tabs = refl

start_again : (b : Behind) (w : Way) (f : Feeds) (o : List ℕ) (s : Start)
    → start_gap b w (read_back (start_gap b w f o s)) o s ≡ start_gap b w f o s
start_again b w f o Within = refl
start_again b w f o Begins = line_again b.before f (tabs_of w)
start_again b w f o Outdented = line_again b.before f (tabs_of w)

before_again : (b : Behind) (w : Way) (f : Feeds) (o : List ℕ) (before : Before)
    → before_gap b w (read_back (before_gap b w f o before)) o before ≡ before_gap b w f o before
before_again b w f o Nothing = refl
before_again b w f o Remark = line_again Remark f (tabs_of w + extra_tab w.start)
before_again b w f o Opening = start_again b w f o w.start
before_again b w f o Other = start_again b w f o w.start

gap_again : (b : Behind) (w : Way) (f : Feeds) (o : List ℕ) (c : Bool)
    → (if c then comment_gap b.before (read_back (if c then comment_gap b.before f (comment_tabs w) else token_gap b w f o))
    (comment_tabs w)
    else token_gap b w (read_back (if c then comment_gap b.before f (comment_tabs w) else token_gap b w f o)) o)
    ≡ (if c then comment_gap b.before f (comment_tabs w) else token_gap b w f o)
gap_again b w f o true = comment_again b.before f (comment_tabs w)
gap_again b w f o false = before_again b w f o b.before

pub gaps_stay : GapsStay
gaps_stay b p = gap_again b p.way p.piece.feeds p.piece.body p.piece.comment
