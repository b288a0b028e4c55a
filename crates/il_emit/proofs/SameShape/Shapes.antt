-- Each function of the module has the shape of one of the program: what it jumps back and calls, and what it takes of the stack, which is
-- its frame.
use Rattle.std.proofs.Common.{◌≡◌, ℕ, zero, suc, ◌+◌, ◌≤◌, Bool, true, false, not, ◌||◌, List, [], ◌∷◌, ◌++◌, map, length, Option, None, Some, refl, sym, ap, ◌∙◌, subst, arith, append_assoc}
use Rattle.std.specs.Prelude.{sum_by, if◌then◌else◌}
use Rattle.std.specs.List.{list_all}
use Rattle.std.proofs.lemmas.Bool.{and_parts}
use Rattle.hx_base.specs.declared.Class.TheVariants.{L}
use Rattle.flat_code.specs.declared.op.LoadKind.{LoadKind}
use Rattle.flat_code.specs.declared.op.LoadKind.TheVariants as how
use Rattle.flat_code.specs.declared.op.Op.{Op}
use Rattle.flat_code.specs.declared.program.Data.{Data}
use Rattle.flat_code.specs.declared.program.FlatFn.{FlatFn}
use Rattle.flat_code.specs.declared.program.FlatProgram.{FlatProgram}
use Rattle.flat_code.specs.Contents.{loops_in, calls_in}
use Rattle.flat_code.specs.Costs as flat_cost
use Rattle.flat_code.specs.Evaluation as flat
use Rattle.flat_code.specs.Shape.{code_of}
use Rattle.flat_code.specs.WellFormed.{IsWellFormed, is_right}
use Rattle.il_code.specs.declared.op.IlOp.TheVariants as op
use Rattle.il_code.specs.declared.types.Block.{Block}
use Rattle.il_code.specs.declared.types.IlValue.TheVariants as il_value
use Rattle.il_code.specs.declared.types.Inst.{Inst}
use Rattle.il_code.specs.declared.types.Inst.TheVariants as inst
use Rattle.il_code.specs.declared.types.Jump.TheVariants as jump
use Rattle.il_code.specs.declared.types.Module.{Module}
use Rattle.il_code.specs.State as il
use Rattle.il_code.specs.Step.{Kind, kind_of}
use Rattle.il_tight.proofs.SameRuns.Light.{price}
use Rattle.il_emit.specs.declared.goal.Goal.TheVariants.{Next}
use Rattle.il_emit.specs.Names.{frame_name, label_name}
use Rattle.il_emit.specs.Ops.{il_op, load_op}
use Rattle.il_emit.specs.Lines.{Line, Label, End, code_lines, end_value, frame_lines, labels_in, addresses_in}
use Rattle.il_emit.specs.Emitted.{data_item, params_of, blocks_of, function_item, module_of}
use Rattle.il_emit.specs.Shape.{is_taking, is_alloc, number_of, fixed, has_fixed_size, allocs_are_placed, taken_of, takes, backward_jumps, calls_of, outlined}
use Rattle.il_emit.proofs.Lines.Allowed.{LinesPass, code_good}
use Rattle.il_emit.proofs.SameShape.BackwardJumps.{jumps_few}
use Rattle.il_emit.proofs.Lines.Blocks.{block}
use Rattle.il_emit.proofs.SameShape.CallCosts.{frame_cost, full_costs}
use Rattle.il_emit.proofs.SameShape.CallCounts.{calls_few}
use Rattle.il_emit.proofs.Lines.Counts.{both_true, all_append, all_more, sum_cons}
use Rattle.il_emit.proofs.Lines.EachInst.{passes, all_pass, lines_blocks_pass}
use Rattle.il_emit.proofs.NamesAndNumbers.NamedFunctions.{emitted, items_named, found_right, parts}
use Rattle.il_emit.proofs.LineRuns.Outcomes.{op_computes}
use Rattle.il_emit.proofs.Lines.Places.{insts_of, jump_of, line_blocks, function_blocks}

-- ---- the stack

-- no operation of flat code takes bytes of the stack
abbrev plain : Inst → Bool
plain i = not (is_alloc i)

plain_op : (o : Op) → not (is_taking (kind_of (il_op o))) ≡ true
plain_op o = ap (λ (k : Kind). not (is_taking k)) (op_computes o)

plain_load : (h : LoadKind) → not (is_taking (kind_of (load_op h))) ≡ true
plain_load how.Sb = refl
plain_load how.Ub = refl
plain_load how.Sh = refl
plain_load how.Uh = refl
plain_load how.Sw = refl
plain_load how.Uw = refl
plain_load how.L = refl

plain_lines : (p : FlatProgram) (f : FlatFn) (most_labels most_addresses : ℕ) → LinesPass p f (passes plain) most_labels most_addresses
plain_lines p f most_labels most_addresses = record {
  label = λ n h. refl;
  goes = λ n l u. refl;
  branch = λ v k n m r u a b c d. refl;
  returns = λ r. refl;
  returns_value = λ v k r u. refl;
  set = λ t class o a b k r u. plain_op o;
  load = λ t how at k r u. plain_load how;
  store = λ width value at k r u. refl;
  move = λ to from bytes k r u. refl;
  call = λ temp name args k r u. refl;
  place = λ offset k h l. refl;
  address = λ i offset k h b l. refl;
}

plain_takes : (i : Inst) → plain i ≡ true → takes i ≡ 0
plain_takes (inst.Set temp class op a b) h = pick (is_taking (kind_of op)) h
  where
    pick : (z : Bool) → not z ≡ true → (if z then taken_of (number_of a) else 0) ≡ 0
    pick true e = cc
    pick false e = refl
plain_takes (inst.Store width value at) h = refl
plain_takes (inst.Blit from to bytes) h = refl
plain_takes (inst.Call result target args) h = refl

pub plain_sized : (i : Inst) → plain i ≡ true → has_fixed_size i ≡ true
plain_sized (inst.Set temp class op a b) h = ap (λ (z : Bool). z || fixed (number_of a)) h
plain_sized (inst.Store width value at) h = refl
plain_sized (inst.Blit from to bytes) h = refl
plain_sized (inst.Call result target args) h = refl

sum_none : {A : Type 0} (q : A → Bool) (g : A → ℕ) → ((x : A) → q x ≡ true → g x ≡ 0) → (xs : List A) → list_all q xs ≡ true →
    sum_by g xs ≡ 0
sum_none q g on [] h = refl
sum_none q g on (x ∷ xs) h = let k = and_parts (q x) (list_all q xs) h in sum_cons g x xs ∙ omega (arith, on x k.0, sum_none q g on xs k.1)

abbrev block_takes : Block → ℕ
block_takes b = sum_by takes b.insts

-- blocks whose instructions take nothing
nothing_taken : (bs : List Block) → all_pass plain bs ≡ true → sum_by block_takes bs ≡ 0
nothing_taken bs h =
    sum_none (λ (b : Block). list_all plain b.insts) block_takes (λ b k. sum_none plain takes plain_takes b.insts k) bs h

-- lines behind those of a frame, none of which takes bytes
record Framed (n : ℕ) (ls : List Line) : Type 0 where
  placed : allocs_are_placed (line_blocks (Label 0 ∷ (frame_lines n ++ ls))) ≡ true
  unframed : n ≡ 0 → all_pass plain (line_blocks (Label 0 ∷ (frame_lines n ++ ls))) ≡ true
  taken : sum_by block_takes (line_blocks (Label 0 ∷ (frame_lines n ++ ls))) ≡ frame_cost n

framed : (n : ℕ) (ls : List Line) → list_all (passes plain) ls ≡ true → Framed n ls
framed zero ls h =
    let k = lines_blocks_pass plain ls h in
    record {
      placed = both_true _ _ (all_more plain has_fixed_size plain_sized (insts_of ls) k.0) k.1;
      unframed = λ e. both_true _ _ k.0 k.1;
      taken = nothing_taken (line_blocks (Label 0 ∷ ls)) (both_true _ _ k.0 k.1);
    }
framed (suc n) ls h =
    let k = lines_blocks_pass plain ls h in
    let alloc : Inst = inst.Set frame_name L op.Alloc16 (il_value.Number (suc n)) None in
    record {
      placed = both_true _ _ (all_more plain has_fixed_size plain_sized (insts_of ls) k.0) k.1;
      unframed = λ e. absurd (omega arith);
      taken =
          sum_cons block_takes (block (label_name 0) (alloc ∷ insts_of ls) (jump_of ls)) (line_blocks ls)
          ∙ omega (
            arith,
            sum_cons takes alloc (insts_of ls),
            sum_none plain takes plain_takes (insts_of ls) k.0,
            nothing_taken (line_blocks ls) k.1,
          );
    }

function_framed : (p : FlatProgram) (f : FlatFn) → is_right p f 0 (code_of f.body) ≡ true →
    Framed f.frame (code_lines p (code_of f.body) Next 1 0 [] ++ (End (jump.Ret (end_value f.result)) ∷ []))
function_framed p f right =
    framed f.frame _
    (all_append (passes plain) (code_lines p (code_of f.body) Next 1 0 []) _
    (code_good p f (passes plain) (suc (labels_in (code_of f.body) true)) (addresses_in (code_of f.body))
    (plain_lines p f (suc (labels_in (code_of f.body) true)) (addresses_in (code_of f.body))) (code_of f.body) Next 0 1 0 [] right refl
    refl refl (omega arith) (omega arith) (omega arith)) refl)

-- the blocks of a function, with its frame apart
blocks_are : (p : FlatProgram) (f : FlatFn) → blocks_of p f ≡ line_blocks
    (Label 0 ∷ (frame_lines f.frame ++ (code_lines p (code_of f.body) Next 1 0 [] ++ (End (jump.Ret (end_value f.result)) ∷ []))))
blocks_are p f = function_blocks p f ∙ ap (λ (ls : List Line). line_blocks (Label 0 ∷ ls))
    (append_assoc (frame_lines f.frame) (code_lines p (code_of f.body) Next 1 0 []) (End (jump.Ret (end_value f.result)) ∷ []))

-- ---- all functions

-- what holds of a function of the module before its blocks are tight: what calls of it cost is said of tight blocks
pub record IsLoose (f : FlatFn) (c : il.Code) : Type 0 where
  pub jumps : backward_jumps c.blocks ≤ loops_in (code_of f.body)
  pub calls : (name : List ℕ) → calls_of name c.blocks ≤ calls_in name (code_of f.body)
  pub allocs : allocs_are_placed c.blocks ≡ true
  pub unframed : f.frame ≡ 0 → all_pass plain c.blocks ≡ true
  pub cost : price c.params c.blocks + sum_by block_takes c.blocks ≤ flat_cost.call_cost f

abbrev pub AreLoose : Option FlatFn → Option il.Code → Type 0
AreLoose None None = Unit {0}
AreLoose None (Some c) = ⊥
AreLoose (Some f) None = ⊥
AreLoose (Some f) (Some c) = IsLoose f c

pub record HasLooseShape (p : FlatProgram) (m : Module) : Type 0 where
  pub items : map outlined m.items ≡
      map (λ (d : Data). (d.name, false)) p.globals ++ map (λ (f : FlatFn). (f.name, true)) p.functions
  pub functions : (name : List ℕ) → AreLoose (flat.function_named p.functions name) (il.function_named m.items name)

shaped : (p : FlatProgram) (f : FlatFn) → is_right p f 0 (code_of f.body) ≡ true → length f.params ≤ f.temps →
    IsLoose f (record { name = f.name; class = f.result; params = params_of 0 f.params; blocks = blocks_of p f })
shaped p f right few =
    let k = function_framed p f right in
    record {
      jumps = jumps_few p f right;
      calls = λ name. calls_few p name f;
      allocs = ap allocs_are_placed (blocks_are p f) ∙ k.placed;
      unframed = λ e. ap (all_pass plain) (blocks_are p f) ∙ k.unframed e;
      cost = omega (arith, full_costs p f right few, ap (sum_by block_takes) (blocks_are p f), k.taken);
    }

functions_alike : (p : FlatProgram) → IsWellFormed p → (name : List ℕ) →
    AreLoose (flat.function_named p.functions name) (il.function_named (module_of p).items name)
functions_alike p w name = subst (λ (c : Option il.Code). AreLoose (flat.function_named p.functions name) c) (sym (items_named p w name))
    (pick (flat.function_named p.functions name) refl)
  where
    pick : (o : Option FlatFn) → flat.function_named p.functions name ≡ o → AreLoose o (emitted p o)
    pick None e = tt
    pick (Some f) e = let is = parts p f (found_right p name f w e) in shaped p f is.code is.few_params

data_outlined : (p : FlatProgram) (ds : List Data) → map outlined (map data_item ds ++ map (function_item p) p.functions) ≡
    map (λ (d : Data). (d.name, false)) ds ++ map (λ (f : FlatFn). (f.name, true)) p.functions
data_outlined p [] = code_outlined p.functions
  where
    code_outlined : (fs : List FlatFn) → map outlined (map (function_item p) fs) ≡ map (λ (f : FlatFn). (f.name, true)) fs
    code_outlined [] = refl
    code_outlined (f ∷ fs) = ap (λ (xs : List (List ℕ × Bool)). (f.name, true) ∷ xs) (code_outlined fs)
data_outlined p (d ∷ ds) = ap (λ (xs : List (List ℕ × Bool)). (d.name, false) ∷ xs) (data_outlined p ds)

pub shape : (p : FlatProgram) → IsWellFormed p → HasLooseShape p (module_of p)
shape p w = record { items = data_outlined p p.globals; functions = functions_alike p w }
