-- The bytes of files, by what is told of them.
use Rattle.std.specs.Prelude.{◌≡◌, ℕ, ◌<◌, List, length, take, Option, IfSome}
use Rattle.std.specs.List.{AllZip}
use Rattle.hx_io.specs.Causes.{Rose}

-- one list of bytes for each path, and each that which the path holds, where that is told
abbrev pub AreTold : (List ℕ → Option (List ℕ)) → List (List ℕ) → List (List ℕ) → Type 0
AreTold content = AllZip (λ path src. IfSome (content path) (λ told. src ≡ told))

-- The count of faults rose from before to now. The number, from 0, is that of a path, in front of which there is a list of bytes for each
-- path: that which the path holds, where it is told. Files tell that one was not read, and not which.
pub record IsFirstUnread (content : List ℕ → Option (List ℕ)) (paths : List (List ℕ)) (before now number : ℕ) : Type 0 where
  pub within : number < length paths
  pub srcs : List (List ℕ)
  pub told : AreTold content (take number paths) srcs
  pub risen : Rose before now
