-- What acts come to that look at no object but static ones, where it is known what the kids come to.
use Rattle.std.proofs.Common.{◌≡◌, ℕ, zero, suc, List, [], ◌∷◌, ◌++◌, ◌∙◌, refl, ap, sym, subst, append_assoc}
use Rattle.std.specs.Prelude.{◌+◌, Some}
use Rattle.hare_tree.specs.Node.{Head}
use Rattle.hare_typed.specs.declared.cell.Cell.{Cell}
use Rattle.hare_typed.specs.declared.constant.ConstObject.{ConstObject}
use Rattle.hare_typed.specs.Answers.{Answer, Gives, Aborts as aborts, IsUndefined}
use Rattle.hare_typed.specs.Objects.{Object}
use Rattle.hare_typed.specs.State.{Memory, State, Scope, AsValue, Outcome as End, Value, Abort, Result}
use Rattle.hare_typed.specs.Acts.{Act, look, make, tick}
use Rattle.hare_typed.specs.Interpreter.{Tasks, Kids, after, act, with_objects, made_object}
use Rattle.hare_typed.specs.World.{World, answered}
use Rattle.hare_typed.specs.Sequence.{on_value, value, values}
use Rattle.hare_typed.specs.ConstantValues.{listed_objects}
use Rattle.hare_const.specs.declared.outcome.Outcome.{Outcome}
use Rattle.hare_const.specs.declared.outcome.Outcome.TheVariants.{Known, Aborts, Undefined}
use Rattle.hare_const.specs.NodeValues.{on_cells, on_answer, kid_at, kids_at}

-- how an evaluation ended
abbrev pub shown : End → Outcome
shown (Value cs) = Known cs
shown (Abort text) = Aborts
shown _ = Undefined

-- the objects of a state are these and others behind them, and no program has made one
pub record Has (os : List ConstObject) (m : Memory) : Type 0 where
  pub none_made : m.objects.made ≡ []
  pub others : List (ℕ × Object)
  pub named : m.objects.named ≡ listed_objects os ++ others

-- one named object more
pub has_more : (os : List ConstObject) (st : State) (name : ℕ) (b : Object) → Has os st.memory →
    Has os (with_objects st (made_object (Some name) b st.memory.objects)).memory
has_more os st name b p = record {
  none_made = p.none_made;
  others = p.others ++ (name, b) ∷ [];
  named = ap (λ l. l ++ (name, b) ∷ []) p.named ∙ append_assoc (listed_objects os) p.others ((name, b) ∷ []);
}

-- an evaluation ended so, and no object was lost
pub record Shown (os : List ConstObject) (o : Outcome) (r : Result) : Type 0 where
  pub ended : shown r.0 ≡ o
  pub has : Has os r.1.memory

-- in each state with these objects an evaluation ends so, where it is given a scope of this declaration
abbrev pub Shows : List ConstObject → (own : ℕ) → (Scope → State → Result) → Outcome → Type 0
Shows os own m o = (sc : Scope) (s : State) → sc.own ≡ own → Has os s.memory → Shown os o (m sc s)

module _ (os : List ConstObject) (ks : Kids) (less : Tasks) where
  -- in each state with these objects the act ends so
  abbrev pub Ends : Act → Outcome → Type 0
  Ends a o = (s : State) → Has os s.memory → Shown os o (act ks less a s)

  -- whatever cells come, it ends as f says
  abbrev pub EndsBehind : (List Cell → Act) → (List Cell → Outcome) → Type 0
  EndsBehind k f = (cs : List Cell) → Ends (k cs) (f cs)

  pub ends_tick : (n : ℕ) (a : Act) (o : Outcome) → Ends a o → Ends (tick n a) o
  ends_tick n a o h s p = h (record s { ticks = s.ticks + n }) p

  pub ends_make : (name : ℕ) (b : Object) (f : ℕ → Act) (o : Outcome) → Ends (f name) o → Ends (make (Some name) b f) o
  ends_make name b f o h s p = h (with_objects s (made_object (Some name) b s.memory.objects)) (has_more os s name b p)

  after-shown : (r : Result) (k : List Cell → Act) (x : Outcome) (f : List Cell → Outcome) → Shown os x r → EndsBehind k f →
      Shown os (on_cells x f) (after r (λ o s. act ks less (on_value k o) s))
  after-shown (Value cs, s) k x f e h = subst (λ y. Shown os (on_cells y f) (act ks less (k cs) s)) e.ended (h cs s e.has)
  after-shown (Abort text, s) k x f e h = record { ended = subst (λ y. Aborts ≡ on_cells y f) e.ended refl; has = e.has }
  after-shown (_, s) k x f e h = record { ended = subst (λ y. Undefined ≡ on_cells y f) e.ended refl; has = e.has }

  pub ends_value : (own i : ℕ) (sc : Scope) (k : List Cell → Act) (x : Outcome) (f : List Cell → Outcome) → sc.own ≡ own →
      Shows os own (ks.kid i AsValue) x → EndsBehind k f → Ends (value i sc k) (on_cells x f)
  ends_value own i sc k x f e m h s p = after-shown (ks.kid i AsValue sc s) k x f (m sc s e p) h

  after-known : (r : Result) (k : List Cell → Act) (cs : List Cell) (o : Outcome) → Shown os (Known cs) r → Ends (k cs) o →
      Shown os o (after r (λ x s. act ks less (on_value k x) s))
  after-known (Value ds, s) k cs o e h =
      let same : ds ≡ cs = known_same e.ended in
      subst (λ xs. Shown os o (act ks less (k xs) s)) (sym same) (h s e.has)
    where
      known_same : Known ds ≡ Known cs → ds ≡ cs
      known_same q = cc
  after-known (Abort text, s) k cs o e h = let q : Aborts ≡ Known cs = e.ended in absurd cc
  after-known (_, s) k cs o e h = let q : Undefined ≡ Known cs = e.ended in absurd cc

  -- where the kid's cells are known
  pub ends_known : (own i : ℕ) (sc : Scope) (k : List Cell → Act) (cs : List Cell) (o : Outcome) → sc.own ≡ own →
      Shows os own (ks.kid i AsValue) (Known cs) → Ends (k cs) o → Ends (value i sc k) o
  ends_known own i sc k cs o e m h s p = after-known (ks.kid i AsValue sc s) k cs o (m sc s e p) h

  pub ends_values : (own : ℕ) (xs : List Outcome) (sc : Scope) → sc.own ≡ own →
      ((i : ℕ) → Shows os own (ks.kid i AsValue) (kid_at i xs)) → (i n : ℕ) (k : List (List Cell) → Act) (f : List (List Cell) → Outcome) →
      ((cs : List (List Cell)) → Ends (k cs) (f cs)) → Ends (values i n sc k) (kids_at i n xs f)
  ends_values own xs sc e m i zero k f h = h []
  ends_values own xs sc e m i (suc n) k f h =
      ends_value own i sc (λ c. values (suc i) n sc λ cs. k (c ∷ cs)) (kid_at i xs) (λ c. kids_at (suc i) n xs λ cs. f (c ∷ cs)) e (m i)
      (λ c. ends_values own xs sc e m (suc i) n (λ cs. k (c ∷ cs)) (λ cs. f (c ∷ cs)) (λ cs. h (c ∷ cs)))

  pub ends_answered : {A : Type 0} (w : World) (h : Head) (a : Answer A) (k : A → Act) (f : A → Outcome) → ((x : A) → Ends (k x) (f x)) →
      Ends (answered w h a k) (on_answer a f)
  ends_answered w h (Gives x) k f e s p = e x s p
  ends_answered w h (aborts r) k f e s p = record { ended = refl; has = p }
  ends_answered w h (IsUndefined u) k f e s p = record { ended = refl; has = p }

  -- where the answer is known
  pub ends_as_given : {A : Type 0} (w : World) (h : Head) (a : Answer A) (k : A → Act) (x : A) (o : Outcome) → a ≡ Gives x → Ends (k x) o →
      Ends (answered w h a k) o
  ends_as_given w h a k x o e g = subst (λ b. Ends (answered w h b k) o) (sym e) g

  -- where it rests on memory, and is known for each memory with these objects
  pub ends_looked : {A : Type 0} (w : World) (h : Head) (a : Memory → Answer A) (k : A → Act) (x : A) (o : Outcome) →
      ((m : Memory) → Has os m → a m ≡ Gives x) → Ends (k x) o → Ends (look λ m. answered w h (a m) k) o
  ends_looked w h a k x o e g s p = ends_as_given w h (a s.memory) k x o (e s.memory p) g s p
