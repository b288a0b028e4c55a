-- How many copies a node has once the deferred expressions stand where they run: one of each where its block ends, and one where the block
-- is left before.
use Rattle.std.specs.Prelude.{ℕ, suc, ◌*◌, ◌==◌, Bool, true, false, not, ◌&&◌, ◌||◌, List, [], ◌∷◌, ◌++◌, length, map, flat_map, filter, find, Option, Some, None, nat_eq, if◌then◌else◌}
use Rattle.std.specs.Cmp.Lexicographic.{pointwise}
use Rattle.hare_tree.specs.declared.kind.Kind.{Kind}
use Rattle.hare_tree.specs.declared.kind.Kind.TheVariants as kind
use Rattle.hare_typed.specs.declared.exits.Way.{Way}
use Rattle.hare_typed.specs.declared.exits.Way.TheVariants as way
use Rattle.hare_typed.specs.Typed.{TypedNode, TypedNodes, marked, typed_none, typed_more}
use Rattle.hare_typed.specs.Numbers.{kind_of, number_of, body_of, parameters_of}

-- ---- what leaves

-- where the node goes that leaves what stands round it: to the end of the function; to a loop, to go on behind it or with its next turn; to
-- the end of a block
abbrev pub way_of : Kind → Option Way
way_of kind.Return = Some way.Return
way_of kind.Try = Some way.Return
way_of kind.Break = Some way.Break
way_of kind.Continue = Some way.Break
way_of kind.Yield = Some way.Yield
way_of _ = None

-- what leaves: where it goes, and by which label, if by one
pub record Exit : Type 0 where
  pub way : Way
  pub label : List ℕ

abbrev pub exit_by : Option Way → List ℕ → List Exit
exit_by None label = []
exit_by (Some w) label = record { way = w; label = label } ∷ []

abbrev pub is_break : Way → Bool
is_break way.Return = false
is_break way.Break = true
is_break way.Yield = false

abbrev pub is_yield : Way → Bool
is_yield way.Return = false
is_yield way.Break = false
is_yield way.Yield = true

abbrev pub is_unlabelled : List ℕ → Bool
is_unlabelled label = length label == 0

-- whether a label means the node with this one: no label means the nearest
abbrev pub means : (label own : List ℕ) → Bool
means label own = is_unlabelled label || pointwise nat_eq label own

-- Whether an exit goes no further than a node of this kind and label. Loops are what a break and a continue go to, blocks and cases what a
-- yield goes to. What a deferred expression leaves with is dropped, and the rules admit none that leaves it.
abbrev pub ends_at : Kind → List ℕ → Exit → Bool
ends_at kind.For own e = is_break e.way && means e.label own
ends_at kind.ForEach own e = is_break e.way && means e.label own
ends_at kind.Block own e = is_yield e.way && means e.label own
ends_at kind.Case own e = is_yield e.way && is_unlabelled e.label
ends_at kind.SwitchCase own e = is_yield e.way && is_unlabelled e.label
ends_at kind.Defer own e = true
ends_at _ own e = false

-- the exits in a node that leave it
abbrev mutual
  pub exits : TypedNode → List Exit
  exits (marked h m ts) = filter (λ e. not (ends_at h.kind h.text e)) (exit_by (way_of h.kind) h.text ++ exits_each ts)

  pub exits_each : TypedNodes → List Exit
  exits_each typed_none = []
  exits_each (typed_more t ts) = exits t ++ exits_each ts

-- ---- copies

-- a node, and how many copies it has
pub record Copied : Type 0 where
  pub tree : TypedNode
  pub times : ℕ

-- whether a node of this kind is a block or a case: as one is left, the defers that it reached run
abbrev pub has_defers : Kind → Bool
has_defers kind.Block = true
has_defers kind.Case = true
has_defers kind.SwitchCase = true
has_defers _ = false

abbrev pub is_defer : Kind → Bool
is_defer kind.Defer = true
is_defer _ = false

-- The copies of the kids of a node that has so many itself. As a deferred expression it has others.
abbrev pub inner_copies : Kind → (own deferred : ℕ) → ℕ
inner_copies k own deferred = if is_defer k then deferred else own

-- A deferred expression runs at the end of its block, which counts once, also where it is not reached, and at each exit behind it that
-- leaves the block. Each of these stands in no further deferred expression, so that it has as many copies as the block.
abbrev pub deferred_copies : (own : ℕ) → TypedNodes → ℕ
deferred_copies own behind = own * suc (length (exits_each behind))

-- the nodes in check order, where the node has so many copies, and its kids have others if it is a defer
abbrev mutual
  pub copied : (own deferred : ℕ) → TypedNode → List Copied
  copied own deferred (marked h m ts) =
      copied_each (has_defers h.kind) (inner_copies h.kind own deferred) ts ++ record { tree = marked h m ts; times = own } ∷ []

  pub copied_each : Bool → ℕ → TypedNodes → List Copied
  copied_each is_block own typed_none = []
  copied_each is_block own (typed_more t ts) =
      copied own (if is_block then deferred_copies own ts else own) t ++ copied_each is_block own ts

abbrev pub once : TypedNode → Copied
once t = record { tree = t; times = 1 }

abbrev pub counted_by : Kind → TypedNode → List Copied
counted_by kind.Fn t = flat_map (copied 1 1) (body_of t) ++ map once (parameters_of t)
counted_by kind.Def t = flat_map (copied 1 1) (body_of t)
counted_by kind.GlobalLet t = flat_map (copied 1 1) (body_of t)
counted_by kind.GlobalConst t = flat_map (copied 1 1) (body_of t)
counted_by _ t = []

-- the numbered nodes of a declaration, each with its copies
abbrev pub counted : TypedNode → List Copied
counted t = counted_by (kind_of t) t

abbrev pub times_of : Option Copied → ℕ
times_of None = 0
times_of (Some x) = x.times

abbrev pub has_number : ℕ → Copied → Bool
has_number n x = number_of x.tree == n

-- how many copies the first numbered node of a declaration has that has this number; none where no node has it
abbrev pub copies_of : TypedNode → ℕ → ℕ
copies_of f n = times_of (find (has_number n) (counted f))
