-- The lines of code do what the code does, whatever the number of turns, in every call of every function.
use Rattle.std.proofs.Common.{◌≡◌, ℕ, zero, suc, ◌+◌, ◌-◌, ◌*◌, ◌^◌, ◌<◌, ◌≤◌, Bool, true, false, ◌&&◌, List, [], ◌∷◌, ◌++◌, map, length, Option, None, Some, refl, sym, ap, ◌∙◌, subst, arith, append_assoc, length-append, inl}
use Rattle.std.specs.Prelude.{nat_lt, nat_le, ◌==◌, slice_index_or, if◌then◌else◌}
use Rattle.std.proofs.Math.ListN.{get_or-append}
use Rattle.std.proofs.Math.Seq.{get_or-append_seam}
use Rattle.std.proofs.lemmas.Bool.{and_parts}
use Rattle.std.proofs.lemmas.Bool.Decides.{nat_tests}
use Rattle.hx_base.specs.declared.Class.TheVariants.{W, L}
use Rattle.hx_base.specs.Runtime.{World}
use Rattle.flat_code.specs.declared.program.FlatFn.{FlatFn}
use Rattle.flat_code.specs.declared.program.FlatProgram.{FlatProgram}
use Rattle.flat_code.specs.declared.value.Value.{Value}
use Rattle.flat_code.specs.Code.{Code, Codes, none, more, Seq, Set, Load, Store, Move, If, Loop, Leave, Call, Ret}
use Rattle.flat_code.specs.Costs.{addressed}
use Rattle.hx_runtime.specs.Functions.{runtime_function}
use Rattle.flat_code.specs.Evaluation.{flat_begun, flats_in, flat_below, called, function_named}
use Rattle.flat_code.specs.Kinds.{op_kind, takes_two, first_class, second_class, may_give}
use Rattle.flat_code.specs.Shape.{code_of}
use Rattle.flat_code.specs.State as flat
use Rattle.flat_code.specs.State.{State, Result, Left, cut, value_of, stepped}
use Rattle.flat_code.specs.Temps.{called_class}
use Rattle.flat_code.specs.WellFormed.{deepest, most, is_right, are_right, is_operand, is_second, is_target, is_width, stored_class, are_args, takes_result, is_call}
use Rattle.flat_laws.proofs.CountLemmas.{code_counts}
use Rattle.il_code.specs.declared.types.Jump.TheVariants as jump
use Rattle.il_code.specs.declared.types.Module.{Module}
use Rattle.il_code.specs.Run.{Run}
use Rattle.il_code.specs.State.{Waiting, place_at}
use Rattle.il_code.specs.declared.types.Block.{Block}
use Rattle.il_emit.specs.Lines.{Line, Label, End, is_next, fresh, is_more, has_lines, goal_label, inner, in_front, first_goal, go_lines, own_label, side, seq_end, target, way, named_call_lines, set_lines, load_lines, store_lines, move_lines, leave_lines, operand, address_lines, exit_at, all_addressed, called_params, result_param, call_lines, code_lines, each_lines, labels_in, labels_in_all, addresses_in, addresses_in_all, frame_lines, inner_lines, end_value, function_lines}
use Rattle.il_emit.specs.declared.goal.Goal.{Goal}
use Rattle.il_emit.specs.declared.goal.Goal.TheVariants.{Next, Near, Far}
use Rattle.il_emit.specs.Names.{label_name}
use Rattle.il_emit.specs.Numbered.{HasFewNames}
use Rattle.il_emit.proofs.SameRuns.Calling.{callee, last, program_meets}
use Rattle.il_emit.proofs.LineRuns.Forms.{set_meets, load_meets, store_meets, move_meets, runtime_meets, branch_comes, return_meets}
use Rattle.il_emit.proofs.NamesAndNumbers.NamedFunctions.{emitted}
use Rattle.il_emit.proofs.LineRuns.Operands.{addressed_one, Setting, behind_address, address_used, address_jumps, address_holds}
use Rattle.il_emit.proofs.Lines.Places.{line_blocks, Inside, inside_all, inside_behind, inside_next, inside_regroup, five_parts, Finds}
use Rattle.il_emit.proofs.Lines.Places.{finds}
use Rattle.il_emit.proofs.LineRuns.Meeting.{later, may_use, then_meets, turn_meets, caught_meets, label_meets, jump_meets}
use Rattle.il_emit.proofs.LineRuns.Running.{Activation, counted, Mark, before, out_of, Holds, Meets, jumped_to, jump_step, passed}
use Rattle.il_emit.proofs.NamesAndNumbers.Numbering.{inner_next, first_next, front_next}

-- ---- exits

-- where the exits of the Seqs and Loops round a statement lead
pub record Exits (all : List Line) (around : ℕ) (es : List ℕ) (out : ℕ → List Line) : Type 0 where
  pub depth : length es ≡ around
  pub leads : (j : ℕ) → j < around → Finds all (exit_at es j) (out j)

last_exit : (es : List ℕ) (x : ℕ) → exit_at (es ++ x ∷ []) 0 ≡ x
last_exit es x =
    let e : length (es ++ x ∷ []) - 1 ≡ length es = omega (arith, length-append es (x ∷ [])) in
    ap (λ (i : ℕ). slice_index_or (es ++ x ∷ []) i 0) e ∙ get_or-append_seam es x [] 0

outer_exit : (es : List ℕ) (x j : ℕ) → j < length es → exit_at (es ++ x ∷ []) (suc j) ≡ exit_at es j
outer_exit es x j h =
    let e : length (es ++ x ∷ []) - suc (suc j) ≡ length es - suc j = omega (arith, length-append es (x ∷ [])) in
    ap (λ (i : ℕ). slice_index_or (es ++ x ∷ []) i 0) e ∙ get_or-append es (x ∷ []) 0 (length es - suc j) (omega arith)

finds_at : (all : List Line) (x y : ℕ) (ls : List Line) → x ≡ y → Finds all y ls → Finds all x ls
finds_at all x y ls e h = subst (λ (n : ℕ). Finds all n ls) (sym e) h

-- one exit more
exits_more : (all : List Line) (around : ℕ) (es : List ℕ) (out : ℕ → List Line) (x : ℕ) (rest : List Line) → Exits all around es out →
    Finds all x rest → Exits all (suc around) (es ++ x ∷ []) (out_of rest out)
exits_more all around es out x rest h f = record { depth = length-append es (x ∷ []) ∙ omega (arith, h.depth); leads = leads }
  where
    leads : (j : ℕ) → j < suc around → Finds all (exit_at (es ++ x ∷ []) j) (out_of rest out j)
    leads zero l = finds_at all _ x rest (last_exit es x) f
    leads (suc j) l = finds_at all _ (exit_at es j) (out j) (outer_exit es x j (omega (arith, h.depth, l))) (h.leads j (omega arith))

-- ---- goals

-- where control comes that goes to a goal, where some lines stand behind the code
abbrev pub Leads : (all : List Line) → Goal → (rest after : List Line) → Type 0
Leads all Next rest after = rest ≡ after
Leads all (Near x) rest after = (rest ≡ Label x ∷ after) × Finds all x after
Leads all (Far x) rest after = Finds all x after

-- the units that code may use besides those for its steps: a jump to its goal is one more
abbrev pub allowed : Goal → ℕ → ℕ
allowed Next used = used + 3
allowed (Near x) used = used + 3
allowed (Far x) used = used + 4

allowed_least : (g : Goal) (used : ℕ) → used + 3 ≤ allowed g used
allowed_least Next used = omega arith
allowed_least (Near x) used = omega arith
allowed_least (Far x) used = omega arith

allowed_most : (g : Goal) (used : ℕ) → allowed g used ≤ used + 4
allowed_most Next used = omega arith
allowed_most (Near x) used = omega arith
allowed_most (Far x) used = omega arith

-- control that goes to what stands last within a statement goes to the statement's goal
inner_leads : (all : List Line) (g : Goal) (n : ℕ) (rest after : List Line) → Leads all g rest after → Finds all (goal_label g n) after →
    Leads all (inner g n) (own_label g n ++ rest) after
inner_leads all Next n rest after h f = (ap (λ (ls : List Line). Label n ∷ ls) h, f)
inner_leads all (Near x) n rest after h f = h
inner_leads all (Far x) n rest after h f = h

first_leads : (all : List Line) (b : Bool) (g : Goal) (n m : ℕ) (lines rest after : List Line) → Leads all g rest after →
    Finds all (goal_label g n) after → Leads all (first_goal b g n) (side b m lines ++ (own_label g n ++ rest)) after
first_leads all true g n m lines rest after h f = f
first_leads all false g n m lines rest after h f = inner_leads all g n rest after h f

-- where statements begin, if there are some, and else what is behind them
abbrev from_each : Codes → (lines after : List Line) → List Line
from_each none lines after = after
from_each (more c cs) lines after = lines

front_leads : (all : List Line) (cs : Codes) (g : Goal) (others rest after : List Line) → (is_more cs ≡ false → others ≡ []) →
    Leads all g rest after → Leads all (in_front cs g) (others ++ rest) (from_each cs (others ++ rest) after)
front_leads all none g others rest after h l =
    let e : others ≡ [] = h refl in
    subst (λ (ls : List Line). Leads all g (ls ++ rest) after) (sym e) l
front_leads all (more c cs) g others rest after h l = refl

-- where a side of an If without lines leads
abbrev target_to : Code → (after : List Line) → (ℕ → List Line) → List Line
target_to (Seq cs) after out = after
target_to (Set t class o a b) after out = after
target_to (Load t how at) after out = after
target_to (Store width value at) after out = after
target_to (Move to from bytes) after out = after
target_to (If cond a b) after out = after
target_to (Loop c) after out = after
target_to (Leave j) after out = out j
target_to (Call temp name args) after out = after
target_to (Ret value) after out = after

-- where a branch to a side leads: before the side's lines, if it has any
abbrev way_to : Bool → Code → (lines after : List Line) → (ℕ → List Line) → List Line
way_to true c lines after out = lines
way_to false c lines after out = target_to c after out

stepped_holds : (call : Activation) (s : State) (c : Mark) → Holds call s c → Holds call (stepped 1 s) c
stepped_holds call s c h = record { same = h.same; frame = h.frame; base = h.base; top = h.top; cost = h.cost }

jumped_holds : (m : Module) (call : Activation) (x : ℕ) (s : State) (c : Mark) → Holds call s c → Holds call s (jumped_to m call x c)
jumped_holds m call x s c h = record { same = h.same; frame = h.frame; base = h.base; top = h.top; cost = h.cost }

-- ---- what is claimed of code

-- what is known of a function and of its calls
pub record IsReady (p : FlatProgram) (m : Module) (f : FlatFn) : Type 0 where
  pub few : HasFewNames f
  pub few_params : length f.params ≤ f.temps
  pub code : is_right p f 0 (code_of f.body) ≡ true
  pub setting : (call : Activation) → call.frame ≡ f.frame → Setting p f m call

-- the names that the lines of code may use
pub record Room (f : FlatFn) (label more_labels k more_addresses : ℕ) : Type 0 where
  pub labels : label + more_labels ≤ suc (labels_in (code_of f.body) true)
  pub addresses : k + more_addresses < 2 ^ 64

-- a function begins with no Seq or Loop round its body, behind which it returns
pub body_exits : (p : FlatProgram) (g : FlatFn) (rest : List Line) → Exits (function_lines p g) 0 [] (λ j. rest)
body_exits p g rest = record { depth = refl; leads = λ j l. absurd (omega arith) }

pub body_inside : (p : FlatProgram) (g : FlatFn) → Inside (function_lines p g)
    (code_lines p (code_of g.body) Next 1 0 [] ++ (End (jump.Ret (end_value g.result)) ∷ []))
body_inside p g =
    let last : List Line = End (jump.Ret (end_value g.result)) ∷ [] in
    inside_behind (function_lines p g) (frame_lines g.frame) (code_lines p (code_of g.body) Next 1 0 [] ++ last)
    (inside_regroup (function_lines p g) (frame_lines g.frame) (code_lines p (code_of g.body) Next 1 0 []) last
    (inside_next (function_lines p g) (inner_lines p g ++ last) (Label 0) (inside_all (function_lines p g))))

module _ (p : FlatProgram) (m : Module) where
  -- a call of a function
  abbrev call_of : FlatFn → (base pointer cost : ℕ) → List Waiting → Activation
  call_of f base pointer cost waiting = record {
    name = f.name;
    lines = function_lines p f;
    frame = f.frame;
    base = base;
    pointer = pointer;
    cost = cost;
    waiting = waiting;
  }

  -- wherever the lines of code stand, the machine comes to what the code does in `n` turns
  abbrev pub ClaimOf : (f : FlatFn) (call : Activation) → ℕ → Code → Type 0
  ClaimOf f call n c =
      (g : Goal) (around label k : ℕ) (es : List ℕ) (out : ℕ → List Line) (rest after : List Line) (s : State) (at : Mark)
      → is_right p f around c ≡ true → Exits call.lines around es out → Leads call.lines g rest after
      → Room f label (labels_in c (is_next g)) k (addresses_in c)
      → Inside call.lines (code_lines p c g label k es ++ rest) → Holds call s at
      → Meets m call n (counted at) (4 * s.steps) (allowed g at.used) out after
      (before m call (code_lines p c g label k es ++ rest) s.world at) (flat_begun p n (flat_below p n) c s)

  -- the same of the statements of a Seq, if there are some: else control is where it goes behind them
  abbrev pub ClaimOfEach : (f : FlatFn) (call : Activation) → ℕ → Codes → Type 0
  ClaimOfEach f call n cs =
      (g : Goal) (around label k : ℕ) (es : List ℕ) (out : ℕ → List Line) (rest after : List Line) (s : State) (at : Mark)
      → is_next g ≡ false → are_right p f around cs ≡ true → Exits call.lines around es out → Leads call.lines g rest after
      → Room f label (labels_in_all cs) k (addresses_in_all cs)
      → Inside call.lines (each_lines p cs g label k es ++ rest) → Holds call s at
      → Meets m call n (counted at) (4 * s.steps) (at.used + 0) out after
      (before m call (from_each cs (each_lines p cs g label k es ++ rest) after) s.world at) (flats_in p n (flat_below p n) cs s)

  -- it is claimed of all code of all functions at each smaller number of turns
  abbrev pub Below : ℕ → Type 0
  Below zero = Unit {0}
  Below (suc n) =
      ((f : FlatFn) → IsReady p m f → (base pointer cost : ℕ) (waiting : List Waiting) (c : Code) →
      ClaimOf f (call_of f base pointer cost waiting) n c) × Below n

  module _ (all_ready : (name : List ℕ) (g : FlatFn) → function_named p.functions name ≡ Some g → IsReady p m g)
      (f : FlatFn) (ready : IsReady p m f) (base pointer cost : ℕ) (waiting : List Waiting) where
    abbrev all : List Line
    all = function_lines p f

    abbrev call : Activation
    call = call_of f base pointer cost waiting

    abbrev run_at : List Line → World → Mark → Run
    run_at ls w c = before m call ls w c

    abbrev Claim : ℕ → Code → Type 0
    Claim n c = ClaimOf f call n c

    abbrev ClaimEach : ℕ → Codes → Type 0
    ClaimEach n cs = ClaimOfEach f call n cs

    set : Setting p f m call
    set = ready.setting call refl

    found : (x : ℕ) (ls : List Line) → x < suc (labels_in (code_of f.body) true) → Inside all (Label x ∷ ls) → Finds all x ls
    found x ls l h = finds p f ready.few.labels x ls l h

    -- where control goes to the label of a goal
    label_finds : (g : Goal) (label : ℕ) (rest after : List Line) → label + fresh (is_next g) ≤ suc (labels_in (code_of f.body) true) →
        Leads all g rest after → Inside all (own_label g label ++ rest) → Finds all (goal_label g label) after
    label_finds Next label rest after l h inside =
        subst (λ (ls : List Line). Finds all label ls) h (found label rest (omega arith) inside)
    label_finds (Near x) label rest after l h inside = h.1
    label_finds (Far x) label rest after l h inside = h

    -- the way to the goal, behind lines that come to their end
    go_meets : (n q low used : ℕ) (g : Goal) (out : ℕ → List Line) (rest after : List Line) (r : Run) (res : Result) →
        Leads all g rest after →
        Meets m call n q low (used + 3) out (go_lines g ++ rest) r res → Meets m call n q low (allowed g used) out after r res
    go_meets n q low used Next out rest after r res h does =
        subst (λ (ls : List Line). Meets m call n q low (used + 3) out ls r res) h does
    go_meets n q low used (Near x) out rest after r res h does =
        label_meets m call n q low (used + 3) x out after r res
        (subst (λ (ls : List Line). Meets m call n q low (used + 3) out ls r res) h.0 does)
    go_meets n q low used (Far x) out rest after r res h does =
        may_use m call n q low low (used + 4) (used + 3 + 1) out after r res (omega arith)
        (jump_meets m call n q low (used + 3) x out rest after r res h does)

    -- a single statement, and then the way to its goal
    then_go_meets : (n q low used : ℕ) (g : Goal) (out : ℕ → List Line) (xs rest after : List Line) (w : World) (at : Mark) (res : Result) →
        Leads all g rest after → Meets m call n q low (used + 3) out (go_lines g ++ rest) (run_at (xs ++ (go_lines g ++ rest)) w at) res →
        Meets m call n q low (allowed g used) out after (run_at ((xs ++ go_lines g) ++ rest) w at) res
    then_go_meets n q low used g out xs rest after w at res h does =
        subst (λ (ls : List Line). Meets m call n q low (allowed g used) out after (run_at ls w at) res)
        (sym (append_assoc xs (go_lines g) rest))
        (go_meets n q low used g out rest after (run_at (xs ++ (go_lines g ++ rest)) w at) res h does)

    -- ---- loops

    module _ (c : Code) (g : Goal) (around label k : ℕ) (es : List ℕ) (out : ℕ → List Line) (rest after : List Line)
        (right : is_right p f (suc around) c ≡ true) (exits : Exits all around es out) (leads : Leads all g rest after)
        (room : Room f label (labels_in (Loop c) (is_next g)) k (addresses_in c)) where
      abbrev begin : ℕ
      begin = label + fresh (is_next g)

      abbrev back : List Line
      back = End (jump.Jmp (label_name begin)) ∷ (own_label g label ++ rest)

      abbrev body : List Line
      body = code_lines p c Next (suc begin) k (es ++ goal_label g label ∷ []) ++ back

      module _ (inside : Inside all (Label begin ∷ body)) where
        enters : Finds all begin body
        enters = let r = room.labels in found begin body (omega arith) inside

        leaves : Finds all (goal_label g label) after
        leaves =
            let r = room.labels in
            label_finds g label rest after (omega arith) leads
            (inside_next all (own_label g label ++ rest) (End (jump.Jmp (label_name begin)))
            (inside_behind all (code_lines p c Next (suc begin) k (es ++ goal_label g label ∷ [])) back
            (inside_next all body (Label begin) inside)))

        -- a turn begins at a jump to the loop's label, wherever that stands
        pub loop_meets : (n : ℕ) → Below n → (ls : List Line) (s : State) (at : Mark) → Holds call s at
            → Meets m call n (counted at) (4 * s.steps) (at.used + 3) out after
            (run_at (End (jump.Jmp (label_name begin)) ∷ ls) s.world at) (flat_begun p n (flat_below p n) (Loop c) s)
        loop_meets zero below ls s at h =
            inl (record { count = 0; ended = refl; world = refl; jumps = omega arith; units = omega arith })
        loop_meets (suc n) below ls s at h =
            let inner' = jumped_to m call begin at in
            let r = room.labels in
            let a = room.addresses in
            let turn = below.0 f ready base pointer cost waiting c Next (suc around) (suc begin) k (es ++ goal_label g label ∷ [])
            (out_of after out) back back (stepped 1 s) inner' right
            (exits_more all around es out (goal_label g label) after exits leaves) refl
            (record { labels = omega arith; addresses = omega arith })
            (inside_next all body (Label begin) inside)
            (stepped_holds call s inner' (jumped_holds m call begin s at h)) in
            let turns = turn_meets m call n (counted inner') (4 * (s.steps + 1)) (inner'.used + 3) 0 out after back
            (run_at body s.world inner')
            (flat_below p (suc n) (Loop c)) (λ s1. (code_counts.body p (suc n) (Loop c) s1).most)
            (λ s1 c1 h1. may_use m call n (counted c1) (4 * s1.steps) (4 * (s1.steps + 1)) (c1.used + 0) (c1.used + 3) out after _ _
            (omega arith) (loop_meets n below.1 (own_label g label ++ rest) (stepped 1 s1) c1 (stepped_holds call s1 c1 h1)))
            (flat_below p (suc n) c s) turn in
            later m call 1 (run_at (End (jump.Jmp (label_name begin)) ∷ ls) s.world at) (run_at body s.world inner')
            (jump_step m call begin body ls s.world at enters) (4 * s.steps) (4 * (s.steps + 1)) (at.used + 3) (inner'.used + 3 + 0)
            (omega arith)
            (suc n) n (counted at) (counted inner') out after _ (omega arith) (omega arith) turns

    -- ---- branches

    abbrev side_meets : (n : ℕ) (a b : Code) (s : State) → Bool → Result
    side_meets n a b s z = if z then flat_begun p n (flat_below p n) b (stepped 1 s) else flat_begun p n (flat_below p n) a (stepped 1 s)

    -- a side without lines is at its end
    direct_meets : (n : ℕ) (c : Code) (out : ℕ → List Line) (after : List Line) (s : State) (at : Mark) → has_lines c ≡ false →
        Holds call s at → Meets m call n (counted at) (4 * s.steps) (at.used + 4) out after (run_at (target_to c after out) s.world at)
        (flat_begun p n (flat_below p n) c s)
    direct_meets n (Seq none) out after s at e h =
        inl (record { to = at; count = 0; by = refl; holds = h; jumps = omega arith; units = omega arith })
    direct_meets n (Seq (more c cs)) out after s at e h = cc
    direct_meets n (Set t class o a b) out after s at e h = cc
    direct_meets n (Load t how a) out after s at e h = cc
    direct_meets n (Store width value a) out after s at e h = cc
    direct_meets n (Move to from bytes) out after s at e h = cc
    direct_meets n (If v a b) out after s at e h = cc
    direct_meets n (Loop c) out after s at e h = cc
    direct_meets n (Leave j) out after s at e h =
        inl (record { to = at; count = 0; by = refl; holds = h; jumps = omega arith; units = omega arith })
    direct_meets n (Call temp name args) out after s at e h = cc
    direct_meets n (Ret value) out after s at e h = cc

    target_finds : (c : Code) (around x : ℕ) (es : List ℕ) (out : ℕ → List Line) (after : List Line) → is_right p f around c ≡ true →
        Exits all around es out → Finds all x after → Finds all (target c es x) (target_to c after out)
    target_finds (Seq cs) around x es out after r exits h = h
    target_finds (Set t class o a b) around x es out after r exits h = h
    target_finds (Load t how a) around x es out after r exits h = h
    target_finds (Store width value a) around x es out after r exits h = h
    target_finds (Move to from bytes) around x es out after r exits h = h
    target_finds (If v a b) around x es out after r exits h = h
    target_finds (Loop c) around x es out after r exits h = h
    target_finds (Leave j) around x es out after r exits h = let lt : j < around = grind (arith, nat_tests) in exits.leads j lt
    target_finds (Call temp name args) around x es out after r exits h = h
    target_finds (Ret value) around x es out after r exits h = h

    -- a branch to a side finds it
    way_finds : (c : Code) (around x own : ℕ) (es : List ℕ) (out : ℕ → List Line) (lines ls after : List Line) →
        is_right p f around c ≡ true →
        Exits all around es out → Finds all x after → own + fresh (has_lines c) ≤ suc (labels_in (code_of f.body) true) →
        Inside all (side (has_lines c) own lines ++ ls) → Finds all (way c es x own) (way_to (has_lines c) c (lines ++ ls) after out)
    way_finds c around x own es out lines ls after r exits h l inside = pick (has_lines c) l inside
      where
        pick : (b : Bool) → own + fresh b ≤ suc (labels_in (code_of f.body) true) → Inside all (side b own lines ++ ls) →
            Finds all (if b then own else target c es x) (way_to b c (lines ++ ls) after out)
        pick true u i = found own (lines ++ ls) (omega arith) i
        pick false u i = target_finds c around x es out after r exits h

    module _ (n : ℕ) (v : Value) (a b : Code) (claim_a : Claim n a) (claim_b : Claim n b) (g : Goal) (around label k : ℕ) (es : List ℕ)
        (out : ℕ → List Line) (rest after : List Line)
        (operand_right : is_operand p f W v ≡ true)
        (right_a : is_right p f around a ≡ true) (right_b : is_right p f around b ≡ true)
        (exits : Exits all around es out) (leads : Leads all g rest after)
        (room : Room f label (labels_in (If v a b) (is_next g)) k (addressed v + addresses_in a + addresses_in b)) where
      abbrev one : ℕ
      one = label + fresh (is_next g)

      abbrev other : ℕ
      other = one + fresh (has_lines a)

      abbrev first : ℕ
      first = other + fresh (has_lines b)

      abbrev lines_a : List Line
      lines_a = code_lines p a (first_goal (has_lines b) g label) first (k + addressed v) es

      abbrev lines_b : List Line
      lines_b = code_lines p b (inner g label) (first + labels_in a false) (k + addressed v + addresses_in a) es

      abbrev tail : List Line
      tail = own_label g label ++ rest

      abbrev behind_a : List Line
      behind_a = side (has_lines b) other lines_b ++ tail

      abbrev behind : List Line
      behind = side (has_lines a) one lines_a ++ behind_a

      abbrev to_a : ℕ
      to_a = way a es (goal_label g label) one

      abbrev to_b : ℕ
      to_b = way b es (goal_label g label) other

      abbrev branch : List Line
      branch = End (jump.Jnz (operand p.globals v k) (label_name to_a) (label_name to_b)) ∷ behind

      regrouped : code_lines p (If v a b) g label k es ++ rest ≡ address_lines p.globals v k ++ branch
      regrouped =
          five_parts (address_lines p.globals v k) (End (jump.Jnz (operand p.globals v k) (label_name to_a) (label_name to_b)) ∷ [])
          (side (has_lines a) one lines_a) (side (has_lines b) other lines_b) (own_label g label) rest

      module _ (inside : Inside all (address_lines p.globals v k ++ branch)) where
        at_one : Inside all behind
        at_one = inside_next all behind (End (jump.Jnz (operand p.globals v k) (label_name to_a) (label_name to_b)))
            (inside_behind all (address_lines p.globals v k) branch inside)

        at_other : Inside all behind_a
        at_other = inside_behind all (side (has_lines a) one lines_a) behind_a at_one

        ends : Finds all (goal_label g label) after
        ends =
            let r = room.labels in
            label_finds g label rest after (omega arith) leads (inside_behind all (side (has_lines b) other lines_b) tail at_other)

        one_meets : (s : State) (at : Mark) → Holds call s at → Meets m call n (counted at) (4 * s.steps) (at.used + 4) out after
            (run_at (way_to (has_lines a) a (lines_a ++ behind_a) after out) s.world at) (flat_begun p n (flat_below p n) a s)
        one_meets s at h = pick (has_lines a) refl at_one
          where
            pick : (z : Bool) → has_lines a ≡ z → Inside all (side z one lines_a ++ behind_a) →
                Meets m call n (counted at) (4 * s.steps) (at.used + 4) out after
                (run_at (way_to z a (lines_a ++ behind_a) after out) s.world at) (flat_begun p n (flat_below p n) a s)
            pick false e i = direct_meets n a out after s at e h
            pick true e i =
                let r = room.labels in
                let z = room.addresses in
                let goal = first_goal (has_lines b) g label in
                let few = allowed_most goal at.used in
                let last = first_next (has_lines b) g label in
                let does = claim_a goal around first (k + addressed v) es out behind_a after s at right_a exits
                (first_leads all (has_lines b) g label other lines_b rest after leads ends)
                (record { labels = rw last (omega arith); addresses = omega arith })
                (inside_next all (lines_a ++ behind_a) (Label one) i) h in
                may_use m call n (counted at) (4 * s.steps) (4 * s.steps) (at.used + 4) (allowed goal at.used) out after _ _
                (omega arith) does

        other_meets : (s : State) (at : Mark) → Holds call s at → Meets m call n (counted at) (4 * s.steps) (at.used + 4) out after
            (run_at (way_to (has_lines b) b (lines_b ++ tail) after out) s.world at) (flat_begun p n (flat_below p n) b s)
        other_meets s at h = pick (has_lines b) refl at_other
          where
            pick : (z : Bool) → has_lines b ≡ z → Inside all (side z other lines_b ++ tail) →
                Meets m call n (counted at) (4 * s.steps) (at.used + 4) out after
                (run_at (way_to z b (lines_b ++ tail) after out) s.world at) (flat_begun p n (flat_below p n) b s)
            pick false e i = direct_meets n b out after s at e h
            pick true e i =
                let r = room.labels in
                let z = room.addresses in
                let goal = inner g label in
                let few = allowed_most goal at.used in
                let last = inner_next g label in
                let does = claim_b goal around (first + labels_in a false) (k + addressed v + addresses_in a) es out tail after s at
                right_b exits (inner_leads all g label rest after leads ends)
                (record { labels = rw last (omega arith); addresses = omega arith })
                (inside_next all (lines_b ++ tail) (Label other) i) h in
                may_use m call n (counted at) (4 * s.steps) (4 * s.steps) (at.used + 4) (allowed goal at.used) out after _ _
                (omega arith) does

        branch_meets : (s : State) (at : Mark) (z : Bool) → Holds call s at → (cut W (value_of p s v) == 0) ≡ z
            → Meets m call n (counted at) (4 * s.steps) (at.used + 3) out after (run_at (address_lines p.globals v k ++ branch) s.world at)
            (side_meets n a b s z)
        branch_meets s at z h e =
            let moved = behind_address p f m call set v k at in
            let r = room.labels in
            let finds_a = way_finds a around (goal_label g label) one es out lines_a behind_a after right_a exits ends
            (omega arith) at_one in
            let finds_b = way_finds b around (goal_label g label) other es out lines_b tail after right_b exits ends
            (omega arith) at_other in
            let comes = branch_comes p f m call set v k to_a to_b behind (way_to (has_lines a) a (lines_a ++ behind_a) after out)
            (way_to (has_lines b) b (lines_b ++ tail) after out) s at z operand_right h finds_a finds_b e in
            let used = address_used p f m call set v k at in
            let jumps = address_jumps p f m call set v k at in
            let few = addressed_one v in
            let held : Holds call s moved = address_holds p f m call set v k at s h in
            later m call (addressed v + 1) _ _ comes (4 * s.steps) (4 * (s.steps + 1)) (at.used + 3) (moved.used + 1 + 0 + 4)
            (omega arith) n
            n (counted at) (suc (counted moved)) out after _ (omega arith) (omega arith) (taken z moved held)
          where
            taken : (y : Bool) (c : Mark) → Holds call s c → Meets m call n (suc (counted c)) (4 * (s.steps + 1)) (c.used + 1 + 0 + 4) out
                after (run_at (if y then way_to (has_lines b) b (lines_b ++ tail) after out else way_to (has_lines a) a
                (lines_a ++ behind_a) after out)
                s.world (jumped_to m call (if y then to_b else to_a) c)) (side_meets n a b s y)
            taken true c hc = other_meets (stepped 1 s) (jumped_to m call to_b c)
                (stepped_holds call s _ (jumped_holds m call to_b s c hc))
            taken false c hc =
                one_meets (stepped 1 s) (jumped_to m call to_a c) (stepped_holds call s _ (jumped_holds m call to_a s c hc))

    if_meets : (n : ℕ) (v : Value) (a b : Code) → Claim n a → Claim n b → Claim n (If v a b)
    if_meets n v a b ca cb g around label k es out rest after s at right exits leads room inside h =
        let q = and_parts (is_operand p f W v)
        (is_right p f around a && is_right p f around b) right in
        let w = and_parts (is_right p f around a) (is_right p f around b) q.1 in
        let same = regrouped n v a b ca cb g around label k es out rest after q.0 w.0 w.1 exits leads room in
        let there = subst (λ (x : List Line). Inside all x) same inside in
        let least = allowed_least g at.used in
        subst (λ (x : List Line). Meets m call n (counted at) (4 * s.steps) (allowed g at.used) out after (run_at x s.world at)
        (flat_begun p n (flat_below p n) (If v a b) s)) (sym same)
        (may_use m call n (counted at) (4 * s.steps) (4 * s.steps) (allowed g at.used) (at.used + 3) out after _ _ (omega arith)
        (branch_meets n v a b ca cb g around label k es out rest after q.0 w.0 w.1 exits leads room there s at
        (cut W (value_of p s v) == 0) h
        refl))

    -- ---- calls

    call_meets : (n : ℕ) → Below n → (temp : Option ℕ) (name : List ℕ) (args : List Value) (k : ℕ) (out : ℕ → List Line) (rest : List Line)
        (s : State) (at : Mark) (o : Option FlatFn) → function_named p.functions name ≡ o → is_call p f temp name args o ≡ true
        → k + all_addressed args < 2 ^ 64 → Holds call s at
        → Meets m call n (counted at) (4 * s.steps) (at.used + 3) out rest
        (run_at (call_lines p.globals (called_params o name) (called_class o name) temp name args k ++ rest) s.world at)
        (called n (flat_below p n) (stepped (length args) s) temp name o (map (value_of p s) args))
    call_meets n below temp name args k out rest s at None e right few h =
        runtime_meets p f m call set n out temp name args k rest s at (runtime_function name) (set.functions name ∙ ap (emitted p) e) refl
        right few h
    call_meets zero below temp name args k out rest s at (Some g) e right few h =
        inl (record { count = 0; ended = refl; world = refl; jumps = omega arith; units = omega arith })
    call_meets (suc n) below temp name args k out rest s at (Some g) e right few h =
        let q = and_parts (are_args p f g.params args) (takes_result p f temp g.result) right in
        let own = all_ready name g e in
        let names = own.few in
        let labels = names.labels in
        let addresses = names.addresses in
        program_meets p f m call set g own.code own.few_params names.temps n out temp name args k rest s at e q.0 q.1 few h
        (λ c c' t holds. below.0 g own (callee m call p g rest (result_param temp g.result) c).base
        (callee m call p g rest (result_param temp g.result) c).pointer (callee m call p g rest (result_param temp g.result) c).cost
        (callee m call p g rest (result_param temp g.result) c).waiting (code_of g.body) Next 0 1 0 [] (λ j. last m call p g rest)
        (last m call p g rest) (last m call p g rest) t c' own.code (body_exits p g (last m call p g rest)) refl
        (record { labels = omega arith; addresses = omega arith })
        (body_inside p g) holds)

    -- ---- leaves

    leave_meets : (n j x : ℕ) (g : Goal) (out : ℕ → List Line) (ls after : List Line) (s : State) (at : Mark) → Finds all x (out j) →
        Holds call s at → Meets m call n (counted at) (4 * s.steps) (allowed g at.used) out after
        (run_at (End (jump.Jmp (label_name x)) ∷ ls) s.world at) (Left j, s)
    leave_meets n j x g out ls after s at f h =
        let least = allowed_least g at.used in
        inl (record {
          to = jumped_to m call x at;
          count = 1;
          by = jump_step m call x (out j) ls s.world at f;
          holds = jumped_holds m call x s at h;
          jumps = omega arith;
          units = omega arith;
        })

    -- lines that begin with one label are the same to the machine
    same_place : (x : ℕ) (ls ls' : List Line) (w : World) (at : Mark) → Finds all x ls → Finds all x ls' →
        run_at (Label x ∷ ls) w at ≡ run_at ls' w (passed m call x at)
    same_place x ls ls' w at h h' =
        ap (λ (bs : List Block). record {
          used = at.used;
          ended = None;
          state = record {
            active = record {
              function = call.name;
              blocks = line_blocks call.lines;
              place = place_at at.from at.label [] [] jump.Fall bs;
              temps = at.temps;
              pointer = call.pointer;
              cost = call.cost;
            };
            waiting = call.waiting;
            world = w;
            done = at.done;
          };
        }) (sym h.blocks ∙ h'.blocks)

    -- a Leave to the label right behind it
    near_meets : (n j x y : ℕ) (out : ℕ → List Line) (rest after : List Line) (s : State) (at : Mark) → Finds all x (out j) →
        Leads all (Near y) rest after → Holds call s at → Meets m call n (counted at) (4 * s.steps) (at.used + 3) out after
        (run_at ((if x == y then [] else End (jump.Jmp (label_name x)) ∷ []) ++ rest) s.world at) (Left j, s)
    near_meets n j x y out rest after s at f leads h = pick (x == y) refl
      where
        pick : (b : Bool) → (x == y) ≡ b → Meets m call n (counted at) (4 * s.steps) (at.used + 3) out after
            (run_at ((if b then [] else End (jump.Jmp (label_name x)) ∷ []) ++ rest) s.world at) (Left j, s)
        pick false e = leave_meets n j x (Near y) out rest after s at f h
        pick true e =
            let same : x ≡ y = grind (arith, nat_tests) in
            inl (record {
              to = passed m call y at;
              count = 0;
              by = ap (λ (ls : List Line). run_at ls s.world at) leads.0
                  ∙ same_place y after (out j) s.world at leads.1 (finds_at all y x (out j) (sym same) f);
              holds = record { same = h.same; frame = h.frame; base = h.base; top = h.top; cost = h.cost };
              jumps = omega arith;
              units = omega arith;
            })

    leaves_meets : (n j x label : ℕ) (g : Goal) (out : ℕ → List Line) (rest after : List Line) (s : State) (at : Mark) →
        Finds all x (out j) →
        Leads all g rest after → Holds call s at → Meets m call n (counted at) (4 * s.steps) (allowed g at.used) out after
        (run_at (leave_lines x g label ++ rest) s.world at) (Left j, s)
    leaves_meets n j x label Next out rest after s at f leads h = leave_meets n j x Next out (Label label ∷ rest) after s at f h
    leaves_meets n j x label (Near y) out rest after s at f leads h = near_meets n j x y out rest after s at f leads h
    leaves_meets n j x label (Far y) out rest after s at f leads h = leave_meets n j x (Far y) out rest after s at f h

    -- ---- all code

    -- a Seq without statements is at its end
    empty_meets : (n : ℕ) (g : Goal) (label : ℕ) (out : ℕ → List Line) (rest after : List Line) (s : State) (at : Mark) →
        Leads all g rest after → Finds all (goal_label g label) after → Holds call s at
        → Meets m call n (counted at) (4 * s.steps) (allowed g at.used) out after
        (run_at (seq_end true g label ++ rest) s.world at) (flat.Next, s)
    empty_meets n g label out rest after s at leads f h =
        let there = inner_leads all g label rest after leads f in
        let here = go_lines (inner g label) ++ (own_label g label ++ rest) in
        let does : Meets m call n (counted at) (4 * s.steps) (at.used + 3) out here (run_at here s.world at) (flat.Next, s) =
        inl (record { to = at; count = 0; by = refl; holds = h; jumps = omega arith; units = omega arith }) in
        let goes = go_meets n (counted at) (4 * s.steps) at.used (inner g label) out (own_label g label ++ rest) after
        (run_at here s.world at) (flat.Next, s) there does in
        subst (λ (ls : List Line). Meets m call n (counted at) (4 * s.steps) (allowed g at.used) out after (run_at ls s.world at)
        (flat.Next, s))
        (sym (append_assoc (go_lines (inner g label)) (own_label g label) rest))
        (may_use m call n (counted at) (4 * s.steps) (4 * s.steps) (allowed g at.used) (allowed (inner g label) at.used) out after
        (run_at here s.world at) (flat.Next, s) (few g) goes)
      where
        few : (goal : Goal) → allowed (inner goal label) at.used + 4 * s.steps ≤ allowed goal at.used + 4 * s.steps
        few Next = omega arith
        few (Near x) = omega arith
        few (Far x) = omega arith

    seq_meets : (n : ℕ) (cs : Codes) → ClaimEach n cs → Claim n (Seq cs)
    seq_meets n none claim g around label k es out rest after s at right exits leads room inside h =
        let r = room.labels in
        let there = inside_behind all (go_lines (inner g label)) (own_label g label ++ rest)
        (inside_regroup all (go_lines (inner g label)) (own_label g label) rest inside) in
        empty_meets n g label out rest after s at leads (label_finds g label rest after (omega arith) leads there) h
    seq_meets n (more c cs) claim g around label k es out rest after s at right exits leads room inside h =
        let q = and_parts (nat_lt around deepest) (are_right p f (suc around) (more c cs)) right in
        let r = room.labels in
        let z = room.addresses in
        let least = allowed_least g at.used in
        let each = each_lines p (more c cs) (inner g label) (label + fresh (is_next g)) k (es ++ goal_label g label ∷ []) in
        let same = append_assoc each (own_label g label) rest in
        let there = inside_regroup all each (own_label g label) rest inside in
        let leaves = label_finds g label rest after (omega arith) leads (inside_behind all each (own_label g label ++ rest) there) in
        let does = claim (inner g label) (suc around) (label + fresh (is_next g)) k (es ++ goal_label g label ∷ [])
        (out_of after out) (own_label g label ++ rest) after s at (inner_next g label) q.1
        (exits_more all around es out (goal_label g label) after exits leaves) (inner_leads all g label rest after leads leaves)
        (record { labels = omega arith; addresses = z }) there h in
        subst (λ (x : List Line). Meets m call n (counted at) (4 * s.steps) (allowed g at.used) out after (run_at x s.world at)
        (flat_begun p n (flat_below p n) (Seq (more c cs)) s)) (sym same)
        (may_use m call n (counted at) (4 * s.steps) (4 * s.steps) (allowed g at.used) (at.used + 0) out after _ _ (omega arith)
        (caught_meets m call n (counted at) (4 * s.steps) (at.used + 0) out after _ (flats_in p n (flat_below p n) (more c cs) s) does))

    nothing_behind : (cs : Codes) (g : Goal) (label k : ℕ) (es : List ℕ) → is_more cs ≡ false → each_lines p cs g label k es ≡ []
    nothing_behind none g label k es h = refl
    nothing_behind (more c cs) g label k es h = cc

    module _ (n : ℕ) (below : Below n) where
      mutual
        code_meets : (c : Code) → Claim n c
        code_meets (Seq cs) g around label k es out rest after s at right exits leads room inside h =
            seq_meets n cs (each_meets cs) g around label k es out rest after s at right exits leads room inside h
        code_meets (Set t class o a b) g around label k es out rest after s at right exits leads room inside h =
            let q = and_parts (is_target p f t class) _ right in
            let u = and_parts (may_give (op_kind o) class) _ q.1 in
            let w = and_parts (is_operand p f (first_class (op_kind o) class) a)
            (is_second p f (second_class (op_kind o) class) (takes_two (op_kind o)) b) u.1 in
            then_go_meets n (counted at) (4 * s.steps) at.used g out (set_lines p.globals t class o a b k) rest after s.world at _ leads
            (set_meets p f m call set n out t class o a b k (go_lines g ++ rest) s at q.0 w.0 w.1 room.addresses h)
        code_meets (Load t how a) g around label k es out rest after s at right exits leads room inside h =
            let q = and_parts (is_target p f t L) (is_operand p f L a) right in
            then_go_meets n (counted at) (4 * s.steps) at.used g out (load_lines p.globals t how a k) rest after s.world at _ leads
            (load_meets p f m call set n out t how a k (go_lines g ++ rest) s at q.0 q.1 h)
        code_meets (Store width value a) g around label k es out rest after s at right exits leads room inside h =
            let q = and_parts (is_width width) _ right in
            let u = and_parts (is_operand p f (stored_class width) value) (is_operand p f L a) q.1 in
            then_go_meets n (counted at) (4 * s.steps) at.used g out (store_lines p.globals width value a k) rest after s.world at _ leads
            (store_meets p f m call set n out width value a k (go_lines g ++ rest) s at q.0 u.0 u.1 room.addresses h)
        code_meets (Move to from bytes) g around label k es out rest after s at right exits leads room inside h =
            let q = and_parts (nat_le bytes most) _ right in
            let u = and_parts (is_operand p f L to) (is_operand p f L from) q.1 in
            then_go_meets n (counted at) (4 * s.steps) at.used g out (move_lines p.globals to from bytes k) rest after s.world at _ leads
            (move_meets p f m call set n out to from bytes k (go_lines g ++ rest) s at u.0 u.1 room.addresses h)
        code_meets (If v a b) g around label k es out rest after s at right exits leads room inside h =
            if_meets n v a b (code_meets a) (code_meets b) g around label k es out rest after s at right exits leads room inside h
        code_meets (Loop c) g around label k es out rest after s at right exits leads room inside h =
            let q = and_parts (nat_lt around deepest) (is_right p f (suc around) c) right in
            let begin = label + fresh (is_next g) in
            let lines = code_lines p c Next (suc begin) k (es ++ goal_label g label ∷ []) in
            let same = append_assoc lines (End (jump.Jmp (label_name begin)) ∷ own_label g label) rest in
            let there = subst (λ (x : List Line). Inside all (Label begin ∷ x)) same
            (inside_next all _ (End (jump.Jmp (label_name begin))) inside) in
            let least = allowed_least g at.used in
            may_use m call n (counted at) (4 * s.steps) (4 * s.steps) (allowed g at.used) (at.used + 3) out after _ _ (omega arith)
            (loop_meets c g around label k es out rest after q.1 exits leads room there n below
            (Label begin ∷ ((lines ++ (End (jump.Jmp (label_name begin)) ∷ own_label g label)) ++ rest)) s at h)
        code_meets (Leave j) g around label k es out rest after s at right exits leads room inside h =
            let lt : j < around = grind (arith, nat_tests) in
            leaves_meets n j (exit_at es j) label g out rest after s at (exits.leads j lt) leads h
        code_meets (Call temp name args) g around label k es out rest after s at right exits leads room inside h =
            then_go_meets n (counted at) (4 * s.steps) at.used g out (named_call_lines p temp name args k) rest after s.world at _ leads
            (call_meets n below temp name args k out (go_lines g ++ rest) s at
            (function_named p.functions name) refl right room.addresses h)
        code_meets (Ret value) g around label k es out rest after s at right exits leads room inside h =
            let least = allowed_least g at.used in
            may_use m call n (counted at) (4 * s.steps) (4 * s.steps) (allowed g at.used) (at.used + 3) out after _ _ (omega arith)
            (return_meets p f m call set n g label out f.result value k rest after s at right h)

        each_meets : (cs : Codes) → ClaimEach n cs
        each_meets none g around label k es out rest after s at e right exits leads room inside h =
            inl (record { to = at; count = 0; by = refl; holds = h; jumps = omega arith; units = omega arith })
        each_meets (more c cs) g around label k es out rest after s at e right exits leads room inside h =
            let q = and_parts (is_right p f around c) (are_right p f around cs) right in
            let r = room.labels in
            let z = room.addresses in
            let goal = in_front cs g in
            let next = front_next cs g e in
            let lines = code_lines p c goal label k es in
            let others = each_lines p cs g (label + labels_in c (is_more cs)) (k + addresses_in c) es in
            let behind = from_each cs (others ++ rest) after in
            let most = allowed_most goal at.used in
            let same = append_assoc lines others rest in
            let there = inside_regroup all lines others rest inside in
            let goes = front_leads all cs g others rest after
            (nothing_behind cs g (label + labels_in c (is_more cs)) (k + addresses_in c) es) leads in
            let does = code_meets c goal around label k es out (others ++ rest) behind (stepped 1 s) at q.0 exits goes
            (record { labels = rw next (omega arith); addresses = omega arith }) there (stepped_holds call s at h) in
            let does_s = may_use m call n (counted at) (4 * s.steps) (4 * (s.steps + 1)) (at.used + 0) (allowed goal at.used) out behind _ _
            (omega arith) does in
            subst (λ (x : List Line). Meets m call n (counted at) (4 * s.steps) (at.used + 0) out after (run_at x s.world at)
            (flats_in p n (flat_below p n) (more c cs) s)) (sym same)
            (may_use m call n (counted at) (4 * s.steps) (4 * s.steps) (at.used + 0) (at.used + 0 + 0) out after _ _ (omega arith)
            (then_meets m call n (counted at) (4 * s.steps) (at.used + 0) 0 out after behind _ (flats_in p n (flat_below p n) cs)
            (λ s1. (code_counts.statements p n cs s1).most)
            (λ s1 c1 h1. each_meets cs g around (label + labels_in c (is_more cs))
            (k + addresses_in c) es out rest after s1 c1 e q.1 exits leads
            (record { labels = omega arith; addresses = omega arith }) (inside_behind all lines (others ++ rest) there) h1)
            (flat_begun p n (flat_below p n) c (stepped 1 s)) does_s))

  module _ (all_ready : (name : List ℕ) (g : FlatFn) → function_named p.functions name ≡ Some g → IsReady p m g) where
    every_below : (n : ℕ) → Below n
    every_below zero = tt
    every_below (suc n) =
        (λ f ready base pointer cost waiting. code_meets all_ready f ready base pointer cost waiting n (every_below n), every_below n)

    pub meets : (f : FlatFn) → IsReady p m f → (base pointer cost : ℕ) (waiting : List Waiting) (n : ℕ) (c : Code) →
        ClaimOf f (call_of f base pointer cost waiting) n c
    meets f ready base pointer cost waiting n c = code_meets all_ready f ready base pointer cost waiting n (every_below n) c
