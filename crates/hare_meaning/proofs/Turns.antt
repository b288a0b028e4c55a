-- More turns keep the outcome and extend the output, whatever the forms of the nodes are.
use Rattle.std.proofs.Common.{◌≡◌, ℕ, zero, suc, ◌+◌, ◌≤◌, List, [], ◌++◌, length, take, drop, refl, sym, ap, ◌∙◌, subst, arith, append_assoc, append-nil}
use Rattle.hare_typed.specs.Typed.{TypedNode, TypedNodes, marked, typed_none, typed_more}
use Rattle.hare_typed.specs.Bindings.{own_bindings, bindings_in}
use Rattle.hare_typed.specs.State.{State, Scope, Mode, AsValue, Outcome, Spent, Result}
use Rattle.hare_typed.specs.Acts.{Act, end, look, put, make, tick, say, take_in, kid, part, within, turn, call, Task, Turn, Call}
use Rattle.hare_typed.specs.Interpreter.{Tasks, Forms, Kids, after, with_memory, with_objects, made_object, number_made, closed, scope_of_call, act, behind, node_act, kid_act, part_act, task_act, fewer_than, evaluate}
use Rattle.hare_meaning.specs.Code.{Code, world_of}
use Rattle.hare_meaning.specs.Forms.{forms}
use Rattle.hare_meaning.specs.Run.{run, ended, ending, entry_of, entry_scope, start, first_objects}
use Rattle.hare_meaning.specs.Laws.{IsFront, TurnsKeepOutcomes, TurnsExtendOutput}

front_self : (xs : List ℕ) → IsFront xs xs
front_self xs = ([], append-nil xs)

front_on : (xs ys zs : List ℕ) → IsFront xs ys → IsFront ys zs → IsFront xs zs
front_on xs ys zs p q = (p.0 ++ q.0, sym (append_assoc xs p.0 q.0) ∙ ap (λ l. l ++ q.0) p.1 ∙ q.1)

-- ---- the output only grows

abbrev Grows : (State → Result) → Type 0
Grows m = (s : State) → IsFront s.output (m s).1.output

abbrev KidsGrow : Kids → Type 0
KidsGrow ks =
    ((i : ℕ) (mode : Mode) (sc : Scope) → Grows (ks.kid i mode sc)) × ((i j : ℕ) (mode : Mode) (sc : Scope) → Grows (ks.part i j mode sc))

abbrev TasksGrow : Tasks → Type 0
TasksGrow less = (k : Task) (sc : Scope) → Grows (less k sc)

after_grows : (xs : List ℕ) (r : Result) (go : Outcome → State → Result) → IsFront xs r.1.output →
    ((o : Outcome) → Grows (go o)) → IsFront xs (after r go).1.output
after_grows xs (Spent, s) go p h = p
after_grows xs (o, s) go p h = front_on _ _ _ p (h o s)

module _ (ks : Kids) (less : Tasks) (kids_grow : KidsGrow ks) (less_grows : TasksGrow less) where
  act_grows : (a : Act) → Grows (act ks less a)
  act_grows (end o) s = front_self s.output
  act_grows (look f) s = act_grows (f s.memory) s
  act_grows (put m a) s = act_grows a (with_memory s m)
  act_grows (make name o f) s =
      act_grows (f (number_made name s.memory.objects)) (with_objects s (made_object name o s.memory.objects))
  act_grows (tick n a) s = act_grows a (record s { ticks = s.ticks + n })
  act_grows (say bs a) s = front_on _ _ _ (bs, refl) (act_grows a (record s { output = s.output ++ bs }))
  act_grows (take_in n f) s = act_grows (f (take n s.input)) (record s { input = drop n s.input })
  act_grows (kid i mode sc f) s = after_grows s.output (ks.kid i mode sc s) _ (kids_grow.0 i mode sc s) (λ o s'. act_grows (f o) s')
  act_grows (part i j mode sc f) s = after_grows s.output (ks.part i j mode sc s) _ (kids_grow.1 i j mode sc s) (λ o s'. act_grows (f o) s')
  act_grows (within a f) s =
      after_grows s.output (closed (length s.memory.objects.made) (act ks less a s)) _ (act_grows a s) (λ o s'. act_grows (f o) s')
  act_grows (turn t r sc f) s = after_grows s.output (less (Turn t r) sc s) _ (less_grows (Turn t r) sc s) (λ o s'. act_grows (f o) s')
  act_grows (call d cs f) s =
      after_grows s.output (less (Call d cs) (scope_of_call d) s) _ (less_grows (Call d cs) (scope_of_call d) s)
      (λ o s'. act_grows (f o) s')

-- ---- the same, or cut short

data Below (r r' : Result) : Type 0 where
  same : r ≡ r' → Below r r'
  cut : r.0 ≡ Spent → IsFront r.1.output r'.1.output → Below r r'

after_same : (r : Result) (go go' : Outcome → State → Result) → ((o : Outcome) (s : State) → Below (go o s) (go' o s)) →
    Below (after r go) (after r go')
after_same (Spent, s) go go' h = same refl
after_same (o, s) go go' h = h o s

after_spent : (r : Result) (go : Outcome → State → Result) → r.0 ≡ Spent → after r go ≡ r
after_spent (Spent, s) go e = refl
after_spent (o, s) go e = cc

after_below : (r r' : Result) (go go' : Outcome → State → Result) → Below r r' → ((o : Outcome) (s : State) → Below (go o s) (go' o s)) →
    ((o : Outcome) → Grows (go' o)) → Below (after r go) (after r' go')
after_below r r' go go' (same e) h g = subst (λ x. Below (after r go) (after x go')) e (after_same r go go' h)
after_below r r' go go' (cut e p) h g =
    let x = after_spent r go e in
    cut (ap (λ y. y.0) x ∙ e) (rw x (after_grows r.1.output r' go' p g))

closed_below : (n : ℕ) (r r' : Result) → Below r r' → Below (closed n r) (closed n r')
closed_below n r r' (same e) = same (ap (closed n) e)
closed_below n r r' (cut e p) = cut e p

abbrev IsBelow : (m m' : State → Result) → Type 0
IsBelow m m' = (s : State) → Below (m s) (m' s)

abbrev KidsBelow : (ks ks' : Kids) → Type 0
KidsBelow ks ks' =
    ((i : ℕ) (mode : Mode) (sc : Scope) → IsBelow (ks.kid i mode sc) (ks'.kid i mode sc))
    × ((i j : ℕ) (mode : Mode) (sc : Scope) → IsBelow (ks.part i j mode sc) (ks'.part i j mode sc))

abbrev TasksBelow : (less less' : Tasks) → Type 0
TasksBelow less less' = (k : Task) (sc : Scope) → IsBelow (less k sc) (less' k sc)

module _
    (ks ks' : Kids) (less less' : Tasks)
    (kids_below : KidsBelow ks ks') (less_below : TasksBelow less less') (kids_grow : KidsGrow ks') (less_grows : TasksGrow less') where
  abbrev goes : (Outcome → Act) → Outcome → State → Result
  goes f o s = act ks less (f o) s

  abbrev goes' : (Outcome → Act) → Outcome → State → Result
  goes' f o s = act ks' less' (f o) s

  act_below : (a : Act) → IsBelow (act ks less a) (act ks' less' a)
  act_below (end o) s = same refl
  act_below (look f) s = act_below (f s.memory) s
  act_below (put m a) s = act_below a (with_memory s m)
  act_below (make name o f) s =
      act_below (f (number_made name s.memory.objects)) (with_objects s (made_object name o s.memory.objects))
  act_below (tick n a) s = act_below a (record s { ticks = s.ticks + n })
  act_below (say bs a) s = act_below a (record s { output = s.output ++ bs })
  act_below (take_in n f) s = act_below (f (take n s.input)) (record s { input = drop n s.input })
  act_below (kid i mode sc f) s =
      after_below (ks.kid i mode sc s) (ks'.kid i mode sc s) (goes f) (goes' f) (kids_below.0 i mode sc s)
      (λ o s'. act_below (f o) s') (λ o. act_grows ks' less' kids_grow less_grows (f o))
  act_below (part i j mode sc f) s =
      after_below (ks.part i j mode sc s) (ks'.part i j mode sc s) (goes f) (goes' f) (kids_below.1 i j mode sc s)
      (λ o s'. act_below (f o) s') (λ o. act_grows ks' less' kids_grow less_grows (f o))
  act_below (within a f) s =
      after_below (closed (length s.memory.objects.made) (act ks less a s)) (closed (length s.memory.objects.made) (act ks' less' a s))
      (goes f) (goes' f) (closed_below (length s.memory.objects.made) _ _ (act_below a s))
      (λ o s'. act_below (f o) s') (λ o. act_grows ks' less' kids_grow less_grows (f o))
  act_below (turn t r sc f) s =
      after_below (less (Turn t r) sc s) (less' (Turn t r) sc s) (goes f) (goes' f) (less_below (Turn t r) sc s)
      (λ o s'. act_below (f o) s') (λ o. act_grows ks' less' kids_grow less_grows (f o))
  act_below (call d cs f) s =
      after_below (less (Call d cs) (scope_of_call d) s) (less' (Call d cs) (scope_of_call d) s) (goes f) (goes' f)
      (less_below (Call d cs) (scope_of_call d) s)
      (λ o s'. act_below (f o) s') (λ o. act_grows ks' less' kids_grow less_grows (f o))

-- ---- trees

-- what is in scope of a kid, where the node's own binding begins before it
abbrev shifted : ℕ → Scope → Scope
shifted n sc = record sc { first = sc.first + n }

module _ (fs : Forms) where
  module _ (less : Tasks) (less_grows : TasksGrow less) where
    mutual
      node_grows : (t : TypedNode) (mode : Mode) (sc : Scope) → Grows (node_act fs less t mode sc)
      node_grows (marked h m ts) mode sc s =
          act_grows
          (record {
            kid = λ i. behind (own_bindings h.kind) (kid_act fs less ts i);
            part = λ i j. behind (own_bindings h.kind) (part_act fs less ts i j);
          })
          less (
            λ i mode sc. kids_grow ts i mode (shifted (own_bindings h.kind) sc),
            λ i j mode sc. parts_grow ts i j mode (shifted (own_bindings h.kind) sc),
          )
          less_grows (fs.node (marked h m ts) mode sc) s

      kids_grow : (ts : TypedNodes) (i : ℕ) (mode : Mode) (sc : Scope) → Grows (kid_act fs less ts i mode sc)
      kids_grow typed_none i mode sc s = front_self s.output
      kids_grow (typed_more t ts) zero mode sc s = node_grows t mode sc s
      kids_grow (typed_more t ts) (suc i) mode sc s = kids_grow ts i mode (shifted (bindings_in t) sc) s

      parts_grow : (ts : TypedNodes) (i j : ℕ) (mode : Mode) (sc : Scope) → Grows (part_act fs less ts i j mode sc)
      parts_grow typed_none i j mode sc s = front_self s.output
      parts_grow (typed_more (marked h m us) ts) zero j mode sc s = kids_grow us j mode (shifted (own_bindings h.kind) sc) s
      parts_grow (typed_more (marked h m us) ts) (suc i) j mode sc s = parts_grow ts i j mode (shifted (bindings_in (marked h m us)) sc) s

    task_grows : TasksGrow (task_act fs less)
    task_grows k sc s =
        act_grows (record { kid = kid_act fs less (fs.kids k); part = part_act fs less (fs.kids k) }) less
        (λ i mode sc. kids_grow (fs.kids k) i mode sc, λ i j mode sc. parts_grow (fs.kids k) i j mode sc) less_grows (fs.task k sc) s

  fewer_grows : (n : ℕ) → TasksGrow (fewer_than fs n)
  fewer_grows zero k sc s = front_self s.output
  fewer_grows (suc n) k sc s = task_grows (fewer_than fs n) (fewer_grows n) k sc s

  module _ (less less' : Tasks) (less_below : TasksBelow less less') (less_grows : TasksGrow less') where
    mutual
      node_below : (t : TypedNode) (mode : Mode) (sc : Scope) → IsBelow (node_act fs less t mode sc) (node_act fs less' t mode sc)
      node_below (marked h m ts) mode sc s =
          act_below
          (record {
            kid = λ i. behind (own_bindings h.kind) (kid_act fs less ts i);
            part = λ i j. behind (own_bindings h.kind) (part_act fs less ts i j);
          })
          (record {
            kid = λ i. behind (own_bindings h.kind) (kid_act fs less' ts i);
            part = λ i j. behind (own_bindings h.kind) (part_act fs less' ts i j);
          })
          less less' (
            λ i mode sc. kids_below ts i mode (shifted (own_bindings h.kind) sc),
            λ i j mode sc. parts_below ts i j mode (shifted (own_bindings h.kind) sc),
          )
          less_below (
            λ i mode sc. kids_grow less' less_grows ts i mode (shifted (own_bindings h.kind) sc),
            λ i j mode sc. parts_grow less' less_grows ts i j mode (shifted (own_bindings h.kind) sc),
          )
          less_grows (fs.node (marked h m ts) mode sc) s

      kids_below : (ts : TypedNodes) (i : ℕ) (mode : Mode) (sc : Scope) →
          IsBelow (kid_act fs less ts i mode sc) (kid_act fs less' ts i mode sc)
      kids_below typed_none i mode sc s = same refl
      kids_below (typed_more t ts) zero mode sc s = node_below t mode sc s
      kids_below (typed_more t ts) (suc i) mode sc s = kids_below ts i mode (shifted (bindings_in t) sc) s

      parts_below : (ts : TypedNodes) (i j : ℕ) (mode : Mode) (sc : Scope) →
          IsBelow (part_act fs less ts i j mode sc) (part_act fs less' ts i j mode sc)
      parts_below typed_none i j mode sc s = same refl
      parts_below (typed_more (marked h m us) ts) zero j mode sc s = kids_below us j mode (shifted (own_bindings h.kind) sc) s
      parts_below (typed_more (marked h m us) ts) (suc i) j mode sc s = parts_below ts i j mode (shifted (bindings_in (marked h m us)) sc) s

    task_below : TasksBelow (task_act fs less) (task_act fs less')
    task_below k sc s =
        act_below (record { kid = kid_act fs less (fs.kids k); part = part_act fs less (fs.kids k) })
        (record { kid = kid_act fs less' (fs.kids k); part = part_act fs less' (fs.kids k) }) less less'
        (λ i mode sc. kids_below (fs.kids k) i mode sc, λ i j mode sc. parts_below (fs.kids k) i j mode sc)
        less_below
        (λ i mode sc. kids_grow less' less_grows (fs.kids k) i mode sc, λ i j mode sc. parts_grow less' less_grows (fs.kids k) i j mode sc)
        less_grows (fs.task k sc) s

  fewer_below : (n n' : ℕ) → n ≤ n' → TasksBelow (fewer_than fs n) (fewer_than fs n')
  fewer_below zero n' le k sc s = cut refl (fewer_grows n' k sc s)
  fewer_below (suc n) zero le k sc s = absurd (omega arith)
  fewer_below (suc n) (suc n') le k sc s =
      task_below (fewer_than fs n) (fewer_than fs n') (fewer_below n n' (omega arith)) (fewer_grows n') k sc s

  evaluate_below : (n n' : ℕ) → n ≤ n' → (t : TypedNode) (mode : Mode) (sc : Scope) →
      IsBelow (evaluate fs n t mode sc) (evaluate fs n' t mode sc)
  evaluate_below n n' le t mode sc s =
      node_below (fewer_than fs n) (fewer_than fs n') (fewer_below n n' le) (fewer_grows n') t mode sc s

-- ---- the laws

keeps : (r r' : Result) → Below r r' → ¬ (r.0 ≡ Spent) → r' ≡ r
keeps r r' (same e) h = sym e
keeps r r' (cut e p) h = absurd (h e)

extends : (r r' : Result) → Below r r' → IsFront r.1.output r'.1.output
extends r r' (same e) = subst (λ x. IsFront r.1.output x.1.output) e (front_self r.1.output)
extends r r' (cut e p) = p

ending_below : (r r' : Result) → Below r r' → Below (ending r) (ending r')
ending_below r r' (same e) = same (ap ending e)
ending_below r r' (cut e p) = cut (ap ended e) p

run_below : (c : Code) (args : List (List ℕ)) (input : List ℕ) (n n' : ℕ) → n ≤ n' → Below (run c args input n) (run c args input n')
run_below c args input n n' le =
    let body = evaluate_below (forms (world_of c (length args))) n n' le (entry_of c) AsValue (entry_scope c) (start c args input) in
    ending_below _ _ (closed_below (length (first_objects c args)) _ _ body)

pub turns_keep : TurnsKeepOutcomes
turns_keep =
    record {
      of_nodes = λ fs n m t mode sc s le h. keeps _ _ (evaluate_below fs n m le t mode sc s) h;
      of_runs = λ c args input n m le h. keeps _ _ (run_below c args input n m le) h;
    }

pub turns_extend : TurnsExtendOutput
turns_extend =
    record {
      of_nodes = λ fs n m t mode sc s le. extends _ _ (evaluate_below fs n m le t mode sc s);
      of_runs = λ c args input n m le. extends _ _ (run_below c args input n m le);
    }
