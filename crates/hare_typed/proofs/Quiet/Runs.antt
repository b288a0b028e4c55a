-- What quiet acts come to: nothing changes but ticks and new objects, and turns do not count.
use Rattle.std.proofs.Common.{◌≡◌, ℕ, zero, suc, ◌+◌, List, [], ◌∷◌, ◌++◌, refl, sym, ap, ◌∙◌, arith, append_assoc}
use Rattle.std.specs.Prelude.{Option, Some, None}
use Rattle.std.proofs.lemmas.List.{append-nil}
use Rattle.hare_typed.specs.Typed.{TypedNode, TypedNodes, marked, typed_none, typed_more}
use Rattle.hare_tree.specs.Node.{Head}
use Rattle.hare_typed.specs.Bindings.{own_bindings}
use Rattle.hare_typed.specs.Objects.{Object, Objects}
use Rattle.hare_typed.specs.State.{State, Scope, Mode, Outcome, Spent, Result}
use Rattle.hare_typed.specs.Acts.{Act}
use Rattle.hare_typed.specs.Interpreter.{Evaluation, Tasks, Kids, after, made_object, number_made, with_objects, act, behind, node_act, kid_act, part_act, fewer_than}
use Rattle.hare_typed.specs.World.{World}
use Rattle.hare_typed.specs.ConstantValues.{constant_node, constant_forms}
use Rattle.hare_typed.specs.Quiet.{IsQuiet, ends, looks, makes, ticks, asks, Keeps, ConstantsAreQuiet}
use Rattle.hare_typed.proofs.Quiet.Forms.{quiet_node}

-- ---- what is kept

pub Keeps-refl : (s : State) → Keeps s s
Keeps-refl s =
    record {
      made = ([], sym (append-nil s.memory.objects.made));
      named = ([], sym (append-nil s.memory.objects.named));
      live = refl;
      taken = refl;
      stack = refl;
      input = refl;
      output = refl;
      ticks = omega arith;
    }

more_behind : {A : Type 0} (xs ys zs new newer : List A) → ys ≡ xs ++ new → zs ≡ ys ++ newer → zs ≡ xs ++ (new ++ newer)
more_behind xs ys zs new newer e f = f ∙ ap (λ l. l ++ newer) e ∙ append_assoc xs new newer

pub Keeps-trans : (s t u : State) → Keeps s t → Keeps t u → Keeps s u
Keeps-trans s t u k l =
    record {
      made = (
        k.made.0 ++ l.made.0,
        more_behind s.memory.objects.made t.memory.objects.made u.memory.objects.made k.made.0 l.made.0
            k.made.1 l.made.1,
      );
      named = (
        k.named.0 ++ l.named.0,
        more_behind s.memory.objects.named t.memory.objects.named u.memory.objects.named k.named.0
            l.named.0 k.named.1 l.named.1,
      );
      live = l.live ∙ k.live;
      taken = l.taken ∙ k.taken;
      stack = l.stack ∙ k.stack;
      input = l.input ∙ k.input;
      output = l.output ∙ k.output;
      ticks = omega (arith, k.ticks, l.ticks);
    }

Keeps-objects : (s : State) (os : Objects) → (new : List Object) × (os.made ≡ s.memory.objects.made ++ new) →
    (new : List (ℕ × Object)) × (os.named ≡ s.memory.objects.named ++ new) → Keeps s (with_objects s os)
Keeps-objects s os m n =
    record {
      made = m;
      named = n;
      live = refl;
      taken = refl;
      stack = refl;
      input = refl;
      output = refl;
      ticks = omega arith;
    }

Keeps-make : (s : State) (name : Option ℕ) (b : Object) → Keeps s (with_objects s (made_object name b s.memory.objects))
Keeps-make s None b = Keeps-objects s _ (b ∷ [], refl) (Keeps-refl s).named
Keeps-make s (Some n) b = Keeps-objects s _ (Keeps-refl s).made ((n, b) ∷ [], refl)

Keeps-tick : (s : State) (n : ℕ) → Keeps s (record s { ticks = s.ticks + n })
Keeps-tick s n =
    record {
      made = (Keeps-refl s).made;
      named = (Keeps-refl s).named;
      live = refl;
      taken = refl;
      stack = refl;
      input = refl;
      output = refl;
      ticks = omega arith;
    }

-- a meaning keeps what constants keep
abbrev KeepsAll : Evaluation → Type 0
KeepsAll m = (mode : Mode) (sc : Scope) (s : State) → Keeps s (m mode sc s).1

after-keeps : (s : State) (r : Result) (go : Outcome → State → Result) → Keeps s r.1 →
    ((o : Outcome) (s' : State) → Keeps s' (go o s').1) → Keeps s (after r go).1
after-keeps s (Spent, s') go k h = k
after-keeps s (o, s') go k h = Keeps-trans s s' _ k (h o s')

module _ (ks : Kids) (less : Tasks) (kids_keep : (i : ℕ) → KeepsAll (ks.kid i)) where
  act-keeps : (a : Act) → IsQuiet a → (s : State) → Keeps s (act ks less a s).1
  act-keeps a (ends o) s = Keeps-refl s
  act-keeps a (looks f q) s = act-keeps (f s.memory) (q s.memory) s
  act-keeps a (makes name b f q) s =
      Keeps-trans s (with_objects s (made_object name b s.memory.objects)) _ (Keeps-make s name b)
      (act-keeps (f (number_made name s.memory.objects)) (q _) _)
  act-keeps a (ticks n b q) s = Keeps-trans s (record s { ticks = s.ticks + n }) _ (Keeps-tick s n) (act-keeps b q _)
  act-keeps a (asks i mode sc f q) s =
      after-keeps s (ks.kid i mode sc s) _ (kids_keep i mode sc s) (λ o s'. act-keeps (f o) (q o) s')

-- ---- turns

-- two meanings give the same
abbrev Same : Evaluation → Evaluation → Type 0
Same m m' = (mode : Mode) (sc : Scope) (s : State) → m mode sc s ≡ m' mode sc s

after-same : (r : Result) (go go' : Outcome → State → Result) → ((o : Outcome) (s : State) → go o s ≡ go' o s) → after r go ≡ after r go'
after-same (Spent, s) go go' h = refl
after-same (o, s) go go' h = h o s

module _ (ks ks' : Kids) (less less' : Tasks) (kids_same : (i : ℕ) → Same (ks.kid i) (ks'.kid i)) where
  act-same : (a : Act) → IsQuiet a → (s : State) → act ks less a s ≡ act ks' less' a s
  act-same a (ends o) s = refl
  act-same a (looks f q) s = act-same (f s.memory) (q s.memory) s
  act-same a (makes name b f q) s = act-same (f (number_made name s.memory.objects)) (q _) _
  act-same a (ticks n b q) s = act-same b q _
  act-same a (asks i mode sc f q) s =
      after-same (ks.kid i mode sc s) _ _ (λ o s'. act-same (f o) (q o) s')
      ∙ ap (λ r. after r (λ o s'. act ks' less' (f o) s')) (kids_same i mode sc s)

-- ---- trees

module _ (w : World) where
  -- what the kids of a node give
  abbrev over : Tasks → Head → TypedNodes → Kids
  over less h ts =
      record {
        kid = λ i. behind (own_bindings h.kind) (kid_act (constant_forms w) less ts i);
        part = λ i j. behind (own_bindings h.kind) (part_act (constant_forms w) less ts i j);
      }

  mutual
    node-keeps : (less : Tasks) (t : TypedNode) → KeepsAll (node_act (constant_forms w) less t)
    node-keeps less (marked h m ts) mode sc s =
        act-keeps (over less h ts) less (λ i x y z. kids-keep less ts i x _ z) (constant_node w (marked h m ts) mode sc)
        (quiet_node w (marked h m ts) mode sc) s

    kids-keep : (less : Tasks) (ts : TypedNodes) (i : ℕ) → KeepsAll (kid_act (constant_forms w) less ts i)
    kids-keep less typed_none i mode sc s = Keeps-refl s
    kids-keep less (typed_more t ts) zero mode sc s = node-keeps less t mode sc s
    kids-keep less (typed_more t ts) (suc i) mode sc s = kids-keep less ts i mode _ s

  mutual
    node-same : (less less' : Tasks) (t : TypedNode) → Same (node_act (constant_forms w) less t) (node_act (constant_forms w) less' t)
    node-same less less' (marked h m ts) mode sc s =
        act-same (over less h ts) (over less' h ts) less less' (λ i x y z. kids-same less less' ts i x _ z)
        (constant_node w (marked h m ts) mode sc) (quiet_node w (marked h m ts) mode sc) s

    kids-same : (less less' : Tasks) (ts : TypedNodes) (i : ℕ) →
        Same (kid_act (constant_forms w) less ts i) (kid_act (constant_forms w) less' ts i)
    kids-same less less' typed_none i mode sc s = refl
    kids-same less less' (typed_more t ts) zero mode sc s = node-same less less' t mode sc s
    kids-same less less' (typed_more t ts) (suc i) mode sc s = kids-same less less' ts i mode _ s

pub constants_are_quiet : ConstantsAreQuiet
constants_are_quiet =
    record {
      acts = quiet_node;
      turns = λ w n m t mode sc s. node-same w (fewer_than (constant_forms w) n) (fewer_than (constant_forms w) m) t mode sc s;
      keeps = λ w n t mode sc s. node-keeps w (fewer_than (constant_forms w) n) t mode sc s;
    }
