-- How what stands over the trees round the one at hand is kept: each has a frame, and all share one stack of labels.
use Rattle.std.specs.Prelude.{◌≡◌, ℕ, ◌≤◌, false, List, [], ◌∷◌, length, take, reverse, Option, Some, None}
use Rattle.hare_rules.specs.declared.hint.Hint.{Hint}
use Rattle.hare_rules.specs.declared.inside.Label.{Label}
use Rattle.hare_rules.specs.Context.{Open, Role, Ordinary, Callee, Length, BindingType, CaseValue, DeclaredValue}
use Rattle.hare_rules.specs.Above.{Above}
use Rattle.hare_above.specs.declared.role.Role.{Role as Played}
use Rattle.hare_above.specs.declared.role.Role.TheVariants as played
use Rattle.hare_above.specs.declared.frames.Frame.{Frame}

abbrev pub role_in : Played → Role
role_in played.Ordinary = Ordinary
role_in played.Callee = Callee
role_in played.Length = Length
role_in played.BindingType = BindingType
role_in played.CaseValue = CaseValue
role_in played.DeclaredValue = DeclaredValue

-- ---- labels

abbrev pub open_of : Label → Hint → Open
open_of l h = record { target = l.target; name = l.name; node = l.node; deferred = l.deferred; hint = h }

-- labels, each with what is asked of what is yielded to it
abbrev pub opens : List Label → List Hint → List Open
opens (l ∷ ls) (h ∷ hs) = open_of l h ∷ opens ls hs
opens _ _ = []

-- inside a deferred expression no label from outside is marked
abbrev pub unmarked : Label → Label
unmarked l = record l { deferred = false }

-- ---- frames

-- the labels round the tree of a frame: of those round a tree in it the first, or those that were kept
abbrev pub labels_by : Option (List Label) → (labels : ℕ) → List Label → List Label
labels_by None n ls = take n ls
labels_by (Some us) n ls = us

abbrev pub labels_at : Frame → List Label → List Label
labels_at f ls = labels_by f.kept f.labels ls

abbrev pub hints_at : Frame → List Hint → List Hint
hints_at f hs = take f.labels hs

abbrev pub above_at : (own result : ℕ) → Frame → List Label → List Hint → Above
above_at own result f ls hs =
    record {
      hint = f.hint;
      values = f.values;
      inside =
          record {
            own = own;
            result = result;
            labels = opens (labels_at f ls) (hints_at f hs);
            deferred = f.deferred;
            body = f.body;
            role = role_in f.role;
          };
      first = f.first;
      begins = f.begins;
    }

-- what stands over the trees of frames, the innermost first
abbrev pub outer_at : (own result : ℕ) → List Frame → List Label → List Hint → List Above
outer_at own result [] ls hs = []
outer_at own result (f ∷ fs) ls hs = above_at own result f ls hs ∷ outer_at own result fs (labels_at f ls) (hints_at f hs)

-- a frame has no more labels than what stands in it, and those that it keeps are so many
pub record IsKept (within : ℕ) (f : Frame) : Type 0 where
  pub fewer : f.labels ≤ within
  pub kept : (us : List Label) → f.kept ≡ Some us → length us ≡ f.labels

-- so each, the innermost first
abbrev pub AreKept : (within : ℕ) → List Frame → Type 0
AreKept n [] = Unit {0}
AreKept n (f ∷ fs) = IsKept n f × AreKept f.labels fs

-- each label has a hint, and the frames, of which the innermost is the last, are kept
pub record AreFramed (ls : List Label) (hs : List Hint) (fs : List Frame) : Type 0 where
  pub hints : length hs ≡ length ls
  pub kept : AreKept (length ls) (reverse fs)
