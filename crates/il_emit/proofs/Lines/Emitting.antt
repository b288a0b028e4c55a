-- What the parts of a statement add together.
use Rattle.std.proofs.Common.{◌≡◌, ℕ, suc, ◌+◌, ◌-◌, true, false, not, refl, List, [], ◌∷◌, ◌++◌, length, take, drop, Option, Some, sym, ap, ◌∙◌, arith, length-append}
use Rattle.std.specs.Prelude.{slice_get, ◌==◌}
use Rattle.std.proofs.Math.Seq.{take-append_seam}
use Rattle.flat_code.specs.declared.program.Data.{Data}
use Rattle.flat_code.specs.declared.program.FlatFn.{FlatFn}
use Rattle.flat_code.specs.declared.program.FlatProgram.{FlatProgram}
use Rattle.flat_code.specs.declared.value.Value.{Value}
use Rattle.flat_code.specs.Code.{Code, Codes, Seq, If, Loop, codes_of}
use Rattle.flat_code.specs.Shape.{code_of}
use Rattle.flat_code.specs.Costs.{addressed}
use Rattle.flat_code.proofs.Kids.{drop_kid}
use Rattle.hx_base.specs.declared.Class.{Class}
use Rattle.il_code.specs.declared.types.IlArg.{IlArg}
use Rattle.il_code.specs.declared.types.IlParam.{IlParam}
use Rattle.il_code.specs.declared.types.Inst.{Inst}
use Rattle.il_code.specs.declared.types.Inst.TheVariants.{Call}
use Rattle.il_code.specs.declared.types.Jump.TheVariants as jump
use Rattle.il_emit.specs.declared.draft.Draft.{Draft}
use Rattle.il_emit.specs.declared.emitter.Emitter.{Emitter}
use Rattle.il_emit.specs.declared.goal.Goal.{Goal}
use Rattle.il_emit.specs.declared.goal.Goal.TheVariants.{Next}
use Rattle.il_emit.specs.Names.{label_name}
use Rattle.il_emit.specs.Lines.{Line, Label, Do, End, is_next, fresh, is_more, has_lines, goal_label, inner, in_front, first_goal, go_lines, own_label, side, seq_end, if_branch, arg_lines, args_of, all_addressed, labels_in, labels_in_all, addresses_in, addresses_in_all, code_lines, each_lines, frame_lines, inner_lines, end_value}
use Rattle.il_emit.specs.Drafts.{add_all}
use Rattle.il_emit.specs.Emitting.{Emits}
use Rattle.il_emit.specs.Emitted.{empty_draft, blocks_of}
use Rattle.il_emit.proofs.Lines.Drafts.{add_all_append}
use Rattle.il_emit.proofs.NamesAndNumbers.Numbering.{front_next}
use Rattle.std.proofs.lemmas.Bool.Decides.{nat_tests}

-- a list without what was put at its end
take_back : (xs : List ℕ) (x : ℕ) → take (length (xs ++ x ∷ []) - 1) (xs ++ x ∷ []) ≡ xs
take_back xs x =
    let e : length (xs ++ x ∷ []) - 1 ≡ length xs = omega (arith, length-append xs (x ∷ [])) in
    rw e (take-append_seam xs (x ∷ []))

-- lines behind lines
pub then_emits : (a b c : Emitter) (xs ys : List Line) (l m k j : ℕ) (es fs : List ℕ) → Emits a b xs l k es → Emits b c ys m j fs →
    Emits a c (xs ++ ys) (l + m) (k + j) fs
then_emits a b c xs ys l m k j es fs p q = record {
  draft = q.draft ∙ ap (λ (d : Draft). add_all d ys) p.draft ∙ sym (add_all_append a.draft xs ys);
  labels = omega (arith, p.labels, q.labels);
  addresses = omega (arith, p.addresses, q.addresses);
  exits = q.exits;
}

-- the lines of a single statement, and then the way to its goal
pub go_emits : (g : Goal) (a b c : Emitter) (xs : List Line) (k : ℕ) → Emits a b xs 0 k a.exits.items →
    Emits b c (go_lines g) 0 0 b.exits.items →
    Emits a c (xs ++ go_lines g) 0 k a.exits.items
go_emits g a b c xs k p q = record {
  draft = q.draft ∙ ap (λ (d : Draft). add_all d (go_lines g)) p.draft ∙ sym (add_all_append a.draft xs (go_lines g));
  labels = omega (arith, p.labels, q.labels);
  addresses = omega (arith, p.addresses, q.addresses);
  exits = q.exits ∙ p.exits;
}

pub empty_is : (cs : List Code) → (length cs == 0) ≡ not (is_more (codes_of cs))
empty_is [] = refl
empty_is (c ∷ cs) = grind (arith, nat_tests)

pub seq_emits : (program : FlatProgram) (cs : Codes) (g : Goal) (n : ℕ) (a b c d : Emitter) → n ≡ a.labels
    → Emits a b [] (fresh (is_next g)) 0 (a.exits.items ++ goal_label g a.labels ∷ [])
    → Emits b c (each_lines program cs (inner g n) b.labels b.addresses b.exits.items) (labels_in_all cs)
    (addresses_in_all cs) b.exits.items
    → Emits c d (seq_end (not (is_more cs)) g n) 0 0 (take (length c.exits.items - 1) c.exits.items)
    → Emits a d (code_lines program (Seq cs) g a.labels a.addresses a.exits.items) (labels_in (Seq cs) (is_next g)) (addresses_in (Seq cs))
    a.exits.items
seq_emits program cs g n a b c d same p q s =
    let k : b.addresses ≡ a.addresses = omega (arith, p.addresses) in
    let each = each_lines program cs (inner g a.labels) (a.labels + fresh (is_next g)) a.addresses
    (a.exits.items ++ goal_label g a.labels ∷ []) in
    let body : c.draft ≡ add_all a.draft each = rw (p.draft, p.labels, k, p.exits, same) at q.draft in
    let last : d.draft ≡ add_all c.draft (seq_end (not (is_more cs)) g a.labels) = rw same at s.draft in
    let behind : c.exits.items ≡ a.exits.items ++ goal_label g a.labels ∷ [] = q.exits ∙ p.exits in
    record {
      draft = last ∙ ap (λ (x : Draft). add_all x (seq_end (not (is_more cs)) g a.labels)) body ∙ sym
          (add_all_append a.draft each (seq_end (not (is_more cs)) g a.labels));
      labels = omega (arith, p.labels, q.labels, s.labels);
      addresses = omega (arith, p.addresses, q.addresses, s.addresses);
      exits = s.exits ∙ ap (λ (xs : List ℕ). take (length xs - 1) xs) behind ∙ take_back a.exits.items (goal_label g a.labels);
    }

pub loop_emits : (program : FlatProgram) (body : Code) (g : Goal) (n : ℕ) (a b c d : Emitter) → n ≡ a.labels
    → Emits a b (End (jump.Jmp (label_name (a.labels + fresh (is_next g)))) ∷ Label (a.labels + fresh (is_next g)) ∷ [])
    (fresh (is_next g) + 1) 0 (a.exits.items ++ goal_label g a.labels ∷ [])
    → Emits b c (code_lines program body Next b.labels b.addresses b.exits.items) (labels_in body true) (addresses_in body) b.exits.items
    → Emits c d (End (jump.Jmp (label_name (n + fresh (is_next g)))) ∷ own_label g n) 0 0 (take (length c.exits.items - 1) c.exits.items)
    → Emits a d (code_lines program (Loop body) g a.labels a.addresses a.exits.items) (labels_in (Loop body) (is_next g))
    (addresses_in (Loop body))
    a.exits.items
loop_emits program body g n a b c d same p q s =
    let begin = a.labels + fresh (is_next g) in
    let l : b.labels ≡ suc begin = omega (arith, p.labels) in
    let k : b.addresses ≡ a.addresses = omega (arith, p.addresses) in
    let lines = code_lines program body Next (suc begin) a.addresses (a.exits.items ++ goal_label g a.labels ∷ []) in
    let start = add_all a.draft (End (jump.Jmp (label_name begin)) ∷ Label begin ∷ []) in
    let ends : List Line = End (jump.Jmp (label_name begin)) ∷ own_label g a.labels in
    let inside : c.draft ≡ add_all start lines = rw (p.draft, l, k, p.exits) at q.draft in
    let last : d.draft ≡ add_all c.draft ends = rw same at s.draft in
    let behind : c.exits.items ≡ a.exits.items ++ goal_label g a.labels ∷ [] = q.exits ∙ p.exits in
    record {
      draft = last ∙ ap (λ (x : Draft). add_all x ends) inside ∙ sym (add_all_append start lines ends);
      labels = omega (arith, p.labels, q.labels, s.labels);
      addresses = omega (arith, p.addresses, q.addresses, s.addresses);
      exits = s.exits ∙ ap (λ (xs : List ℕ). take (length xs - 1) xs) behind ∙ take_back a.exits.items (goal_label g a.labels);
    }

pub if_emits : (program : FlatProgram) (cond : Value) (x y : Code) (g : Goal) (n : ℕ) (a b c d e : Emitter) → n ≡ a.labels
    → Emits a b (if_branch program.globals cond x y g a.labels a.addresses a.exits.items)
    (fresh (is_next g) + fresh (has_lines x) + fresh (has_lines y)) (addressed cond) a.exits.items
    → Emits b c (side (has_lines x) (n + fresh (is_next g))
    (code_lines program x (first_goal (has_lines y) g n) b.labels b.addresses b.exits.items)) (labels_in x false)
    (addresses_in x) b.exits.items
    → Emits c d (side (has_lines y) (n + fresh (is_next g) + fresh (has_lines x))
    (code_lines program y (inner g n) c.labels c.addresses c.exits.items)) (labels_in y false) (addresses_in y) c.exits.items
    → Emits d e (own_label g n) 0 0 d.exits.items
    → Emits a e (code_lines program (If cond x y) g a.labels a.addresses a.exits.items) (labels_in (If cond x y) (is_next g))
    (addresses_in (If cond x y)) a.exits.items
if_emits program cond x y g n a b c d e same p q r s =
    let one = a.labels + fresh (is_next g) in
    let other = one + fresh (has_lines x) in
    let m = other + fresh (has_lines y) in
    let lb : b.labels ≡ m = omega (arith, p.labels) in
    let lc : c.labels ≡ m + labels_in x false = omega (arith, lb, q.labels) in
    let kb : b.addresses ≡ a.addresses + addressed cond = omega (arith, p.addresses) in
    let kc : c.addresses ≡ a.addresses + addressed cond + addresses_in x = omega (arith, p.addresses, q.addresses) in
    let ec : c.exits.items ≡ a.exits.items = q.exits ∙ p.exits in
    let branch = if_branch program.globals cond x y g a.labels a.addresses a.exits.items in
    let X = side (has_lines x) one (code_lines program x (first_goal (has_lines y) g a.labels) m
    (a.addresses + addressed cond) a.exits.items) in
    let Y = side (has_lines y) other
    (code_lines program y (inner g a.labels) (m + labels_in x false) (a.addresses + addressed cond + addresses_in x) a.exits.items) in
    let own = own_label g a.labels in
    let first : c.draft ≡ add_all b.draft X = rw (lb, kb, p.exits, same) at q.draft in
    let second : d.draft ≡ add_all c.draft Y = rw (lc, kc, ec, same) at r.draft in
    let last : e.draft ≡ add_all d.draft own = rw same at s.draft in
    record {
      draft =
          last
          ∙ ap (λ (z : Draft). add_all z own) (second ∙ ap (λ (z : Draft). add_all z Y) (first ∙ ap (λ (z : Draft). add_all z X) p.draft))
          ∙ sym (add_all_append a.draft branch (X ++ (Y ++ own)) ∙ add_all_append (add_all a.draft branch) X (Y ++ own)
          ∙ add_all_append (add_all (add_all a.draft branch) X) Y own);
      labels = omega (arith, p.labels, q.labels, r.labels, s.labels);
      addresses = omega (arith, p.addresses, q.addresses, r.addresses, s.addresses);
      exits = s.exits ∙ r.exits ∙ ec;
    }

-- what is left to be emitted, of the statements from one on
pub record Left (program : FlatProgram) (cs : List Code) (g : Goal) (i : ℕ) (a b : Emitter) : Type 0 where
  pub draft : add_all a.draft (each_lines program (codes_of (drop i cs)) g a.labels a.addresses a.exits.items) ≡ add_all b.draft
      (each_lines program (codes_of (drop (i + 1) cs)) g b.labels b.addresses b.exits.items)
  pub labels : a.labels + labels_in_all (codes_of (drop i cs)) ≡ b.labels + labels_in_all (codes_of (drop (i + 1) cs))
  pub addresses : a.addresses + addresses_in_all (codes_of (drop i cs)) ≡ b.addresses + addresses_in_all (codes_of (drop (i + 1) cs))
  pub exits : b.exits.items ≡ a.exits.items

pub kid_emits : (program : FlatProgram) (cs : List Code) (g : Goal) (i : ℕ) (x : Code) (h : Goal) (a b : Emitter) → slice_get cs i ≡ Some x
    → is_next g ≡ false → h ≡ in_front (codes_of (drop (i + 1) cs)) g
    → Emits a b (code_lines program x h a.labels a.addresses a.exits.items) (labels_in x (is_next h)) (addresses_in x) a.exits.items
    → Left program cs g i a b
kid_emits program cs g i x h a b e last front p =
    let n : i + 1 ≡ suc i = omega arith in
    let d = drop_kid cs i x e in
    let behind = codes_of (drop (suc i) cs) in
    let goal : h ≡ in_front behind g = rw n at front in
    let next : is_next h ≡ is_more behind = ap is_next goal ∙ front_next behind g last in
    let lines : b.draft ≡ add_all a.draft (code_lines program x (in_front behind g) a.labels a.addresses a.exits.items) = rw goal at
    p.draft in
    let labels : b.labels ≡ a.labels + labels_in x (is_more behind) = rw next at p.labels in
    record {
      draft = rw (n, d, lines, labels, p.addresses, p.exits)
          (add_all_append a.draft (code_lines program x (in_front behind g) a.labels a.addresses a.exits.items)
          (each_lines program behind g (a.labels + labels_in x (is_more behind)) (a.addresses + addresses_in x) a.exits.items));
      labels = rw (n, d) (omega (arith, labels));
      addresses = rw (n, d) (omega (arith, p.addresses));
      exits = p.exits;
    }

-- the blocks of a function, which begins with no line
pub function_emits : (program : FlatProgram) (f : FlatFn) (a b c d e : Emitter) → a.draft ≡ empty_draft → a.labels ≡ 1 → a.addresses ≡ 0 →
    a.exits.items ≡ []
    → Emits a b (Label 0 ∷ []) 0 0 a.exits.items
    → Emits b c (frame_lines f.frame) 0 0 b.exits.items
    → Emits c d (code_lines program (code_of f.body) Next c.labels c.addresses c.exits.items) (labels_in (code_of f.body) true)
    (addresses_in (code_of f.body)) c.exits.items
    → Emits d e (End (jump.Ret (end_value f.result)) ∷ []) 0 0 d.exits.items
    → e.draft.blocks ≡ blocks_of program f
function_emits program f a b c d e da la ka ea p o q r =
    let l : c.labels ≡ 1 = omega (arith, p.labels, o.labels, la) in
    let k : c.addresses ≡ 0 = omega (arith, p.addresses, o.addresses, ka) in
    let es : c.exits.items ≡ [] = o.exits ∙ p.exits ∙ ea in
    let start : b.draft ≡ add_all empty_draft (Label 0 ∷ []) = rw da at p.draft in
    let framed : c.draft ≡ add_all (add_all empty_draft (Label 0 ∷ [])) (frame_lines f.frame) = rw start at o.draft in
    let body : d.draft ≡ add_all (add_all (add_all empty_draft (Label 0 ∷ [])) (frame_lines f.frame))
    (code_lines program (code_of f.body) Next 1 0 []) =
    rw (framed, l, k, es) at q.draft in
    let inner : d.draft ≡ add_all (add_all empty_draft (Label 0 ∷ [])) (inner_lines program f) =
    body ∙ sym (add_all_append (add_all empty_draft (Label 0 ∷ [])) (frame_lines f.frame)
    (code_lines program (code_of f.body) Next 1 0 [])) in
    ap (λ (x : Draft). x.blocks) (r.draft ∙ ap (λ (x : Draft). add_all x (End (jump.Ret (end_value f.result)) ∷ [])) inner ∙ sym
    (add_all_append (add_all empty_draft (Label 0 ∷ [])) (inner_lines program f) (End (jump.Ret (end_value f.result)) ∷ [])))

pub call_emits : (globals : List Data) (args : List Value) (ps qs : List Class) (xs : List IlArg) (r : Option IlParam) (name : List ℕ)
    (i : Inst) (a b c : Emitter)
    → Emits a b (arg_lines globals args a.addresses) 0 (all_addressed args) a.exits.items
    → xs ≡ args_of globals ps args a.addresses → ps ≡ qs → i ≡ Call r name xs
    → Emits b c (Do i ∷ []) 0 0 b.exits.items
    → Emits a c (arg_lines globals args a.addresses ++ Do (Call r name (args_of globals qs args a.addresses)) ∷ []) 0 (all_addressed args)
    a.exits.items
call_emits globals args ps qs xs r name i a b c p v e f q =
    let x : xs ≡ args_of globals qs args a.addresses = v ∙ ap (λ (cs : List Class). args_of globals cs args a.addresses) e in
    let y : i ≡ Call r name (args_of globals qs args a.addresses) = f ∙ ap (λ (zs : List IlArg). Call r name zs) x in
    let last : c.draft ≡ add_all b.draft (Do (Call r name (args_of globals qs args a.addresses)) ∷ []) = rw y at q.draft in
    record {
      draft = rw (last, p.draft) (sym
          (add_all_append a.draft (arg_lines globals args a.addresses) (Do (Call r name (args_of globals qs args a.addresses)) ∷ [])));
      labels = omega (arith, p.labels, q.labels);
      addresses = omega (arith, p.addresses, q.addresses);
      exits = q.exits ∙ p.exits;
    }
