-- Acts that look only where a constant may look do the same in states that are the same there.
use Rattle.std.proofs.Common.{◌≡◌, ℕ, zero, suc, ◌+◌, ◌≤◌, List, [], ◌∷◌, ◌++◌, length, refl, sym, ap, ◌∙◌, subst, arith, append_assoc, ◌⊎◌, inl, inr}
use Rattle.std.specs.Prelude.{Option, Some, None, slice_get}
use Rattle.std.proofs.lemmas.List.{append-nil, length-append}
use Rattle.std.proofs.lemmas.Option.{slice_get_past}
use Rattle.hare_typed.specs.Objects.{Object, reading}
use Rattle.hare_typed.specs.State.{State, Memory, Scope, Mode, Outcome, Value, Reached, Break, Continue, Yield, Return, Exit, Abort, Undefined, Over, Spent, Result}
use Rattle.hare_typed.specs.Acts.{Act, end, look, make, tick, kid}
use Rattle.hare_typed.specs.Interpreter.{Tasks, Kids, after, made_object, number_made, with_objects, act}
use Rattle.hare_typed.specs.World.{World}
use Rattle.hare_typed.specs.Quiet.{SameStatics, DoesTheSame}
use Rattle.hare_typed.proofs.Steady.Points.{Points, PointsTo}

-- a static object
abbrev pub IsStatic : World → ℕ → Type 0
IsStatic w o = (name : ℕ) × (o ≡ w.home name)

-- an object at which a constant may look whose evaluation began when there were b objects: a static one, or a new one
abbrev pub MayLook : World → ℕ → ℕ → Type 0
MayLook w b o = IsStatic w o ⊎ (b ≤ o)

module _ (w : World) (b : ℕ) where
  -- ---- states that are the same where it may look

  pub record Alike (s s' : State) : Type 0 where
    pub as_many : length s.memory.objects.made ≡ length s'.memory.objects.made
    pub above : b ≤ length s.memory.objects.made
    pub named : s.memory.objects.named ≡ s'.memory.objects.named
    pub objects : (o : ℕ) → MayLook w b o → slice_get s.memory.objects.made o ≡ slice_get s'.memory.objects.made o

  pub Alike-reading : (s s' : State) → Alike s s' → (o : ℕ) → MayLook w b o → reading s.memory.objects o ≡ reading s'.memory.objects o
  Alike-reading s s' h o l = rw (h.objects o l, h.named) refl

  -- ---- outcomes that lead where it may look

  abbrev pub PointsOutcome : Outcome → Type 0
  PointsOutcome (Value cs) = Points (MayLook w b) cs
  PointsOutcome (Reached p) = PointsTo (MayLook w b) p
  PointsOutcome (Break l) = Unit {0}
  PointsOutcome (Continue l) = Unit {0}
  PointsOutcome (Yield l v) = Unit {0}
  PointsOutcome (Return v) = Unit {0}
  PointsOutcome (Exit k) = Unit {0}
  PointsOutcome (Abort t) = Unit {0}
  PointsOutcome (Undefined u p) = Unit {0}
  PointsOutcome Over = Unit {0}
  PointsOutcome Spent = Unit {0}

  -- from s to r and from s' to r' the same was done, and both are the same again where it may look
  pub record DoesAlike (s s' : State) (r r' : Result) : Type 0 where
    pub outcome : r.0 ≡ r'.0
    pub points : PointsOutcome r.0
    pub alike : Alike r.1 r'.1
    pub made : (new : List Object) × (r.1.memory.objects.made ≡ s.memory.objects.made ++ new)
        × (r'.1.memory.objects.made ≡ s'.memory.objects.made ++ new)
    pub ticks : (n : ℕ) × (r.1.ticks ≡ s.ticks + n) × (r'.1.ticks ≡ s'.ticks + n)

  -- what a kid gives in one mode does so
  abbrev pub IsSteady : (Scope → State → Result) → Type 0
  IsSteady m = (sc : Scope) (s s' : State) → Alike s s' → DoesAlike s s' (m sc s) (m sc s')

  -- ---- acts

  -- two memories that are alike where it may look
  abbrev pub ReadAlike : Memory → Memory → Type 0
  ReadAlike m m' = (o : ℕ) → MayLook w b o → reading m.objects o ≡ reading m'.objects o

  -- a new object's number, where it is not the next one, is that of a static object
  abbrev pub StaticNumber : Option ℕ → Type 0
  StaticNumber None = Unit {0}
  StaticNumber (Some n) = IsStatic w n

  -- The act looks only where it may, asks kids that do the same, and ends in what leads there; its kids are `ks`.
  pub data Steady (ks : Kids) : Act → Type 0 where
    ends : (o : Outcome) → PointsOutcome o → Steady ks (end o)
    looks : (f : Memory → Act) → ((m m' : Memory) → ReadAlike m m' → f m ≡ f m') → ((m : Memory) → Steady ks (f m)) → Steady ks (look f)
    makes : (n : Option ℕ) (x : Object) (f : ℕ → Act) → StaticNumber n → ((o : ℕ) → MayLook w b o → Steady ks (f o)) →
        Steady ks (make n x f)
    ticks : (n : ℕ) (a : Act) → Steady ks a → Steady ks (tick n a)
    asks : (i : ℕ) (mode : Mode) (sc : Scope) (f : Outcome → Act) → IsSteady (ks.kid i mode) →
        ((o : Outcome) → PointsOutcome o → Steady ks (f o)) → Steady ks (kid i mode sc f)

  -- ---- steps

  pub DoesAlike-refl : (o : Outcome) (s s' : State) → PointsOutcome o → Alike s s' → DoesAlike s s' (o, s) (o, s')
  DoesAlike-refl o s s' p h =
      record {
        outcome = refl;
        points = p;
        alike = h;
        made = ([], sym (append-nil s.memory.objects.made), sym (append-nil s'.memory.objects.made));
        ticks = (0, omega arith, omega arith);
      }

  behind : (xs ys zs new newer : List Object) → ys ≡ xs ++ new → zs ≡ ys ++ newer → zs ≡ xs ++ (new ++ newer)
  behind xs ys zs new newer e f = f ∙ ap (λ l. l ++ newer) e ∙ append_assoc xs new newer

  -- one step behind another, of which the first made the states t and t'
  DoesAlike-trans : (s s' t t' : State) (r r' : Result) →
      ((new : List Object) × (t.memory.objects.made ≡ s.memory.objects.made ++ new)
      × (t'.memory.objects.made ≡ s'.memory.objects.made ++ new)) →
      ((n : ℕ) × (t.ticks ≡ s.ticks + n) × (t'.ticks ≡ s'.ticks + n)) → DoesAlike t t' r r' → DoesAlike s s' r r'
  DoesAlike-trans s s' t t' r r' m k d =
      record {
        outcome = d.outcome;
        points = d.points;
        alike = d.alike;
        made = (m.0 ++ d.made.0, behind _ _ _ m.0 d.made.0 m.1 d.made.1, behind _ _ _ m.0 d.made.0 m.2 d.made.2);
        ticks = (k.0 + d.ticks.0, omega (arith, k.1, d.ticks.1), omega (arith, k.2, d.ticks.2));
      }

  slice_get-push : (xs ys : List Object) (x : Object) (o : ℕ) → length xs ≡ length ys → slice_get xs o ≡ slice_get ys o →
      slice_get (xs ++ x ∷ []) o ≡ slice_get (ys ++ x ∷ []) o
  slice_get-push [] [] x o l e = refl
  slice_get-push [] (y ∷ ys) x o l e = absurd (omega (arith, l))
  slice_get-push (z ∷ zs) [] x o l e = absurd (omega (arith, l))
  slice_get-push (z ∷ zs) (y ∷ ys) x zero l e = e
  slice_get-push (z ∷ zs) (y ∷ ys) x (suc o) l e = slice_get-push zs ys x o (omega (arith, l)) e

  Alike-make : (s s' : State) (n : Option ℕ) (x : Object) → Alike s s' →
      Alike (with_objects s (made_object n x s.memory.objects)) (with_objects s' (made_object n x s'.memory.objects))
  Alike-make s s' None x h =
      record {
        as_many = rw (length-append s.memory.objects.made (x ∷ []), length-append s'.memory.objects.made (x ∷ []), h.as_many) refl;
        above = rw (length-append s.memory.objects.made (x ∷ [])) (omega (arith, h.above));
        named = h.named;
        objects = λ o l. slice_get-push s.memory.objects.made s'.memory.objects.made x o h.as_many (h.objects o l);
      }
  Alike-make s s' (Some n) x h = record { as_many = h.as_many; above = h.above; named = rw h.named refl; objects = h.objects }

  made_alike : (s s' : State) (n : Option ℕ) (x : Object) →
      (new : List Object) × ((made_object n x s.memory.objects).made ≡ s.memory.objects.made ++ new)
      × ((made_object n x s'.memory.objects).made ≡ s'.memory.objects.made ++ new)
  made_alike s s' None x = (x ∷ [], refl, refl)
  made_alike s s' (Some n) x = ([], sym (append-nil s.memory.objects.made), sym (append-nil s'.memory.objects.made))

  number_alike : (s s' : State) (n : Option ℕ) → Alike s s' → number_made n s.memory.objects ≡ number_made n s'.memory.objects
  number_alike s s' None h = h.as_many
  number_alike s s' (Some n) h = refl

  number_seen : (s s' : State) (n : Option ℕ) → StaticNumber n → Alike s s' → MayLook w b (number_made n s.memory.objects)
  number_seen s s' None k h = inr h.above
  number_seen s s' (Some n) k h = inl k

  -- goes on alike from results that are alike
  abbrev Follows : (Outcome → State → Result) → (Outcome → State → Result) → Type 0
  Follows go go' = (o : Outcome) (s s' : State) → PointsOutcome o → Alike s s' → DoesAlike s s' (go o s) (go' o s')

  after-one : (s s' : State) (o : Outcome) (t t' : State) (go go' : Outcome → State → Result) → DoesAlike s s' (o, t) (o, t') →
      Follows go go' →
      DoesAlike s s' (after (o, t) go) (after (o, t') go')
  after-one s s' Spent t t' go go' d h = d
  after-one s s' o t t' go go' d h = DoesAlike-trans s s' t t' _ _ d.made d.ticks (h o t t' d.points d.alike)

  after-alike : (s s' : State) (r r' : Result) (go go' : Outcome → State → Result) → DoesAlike s s' r r' → Follows go go' →
      DoesAlike s s' (after r go) (after r' go')
  after-alike s s' (o, t) (o', t') go go' d h =
      subst (λ x. DoesAlike s s' (o, t) (x, t') → DoesAlike s s' (after (o, t) go) (after (x, t') go')) d.outcome
      (λ e. after-one s s' o t t' go go' e h) d

  module _ (ks : Kids) (less : Tasks) where
    pub act-alike : (a : Act) → Steady ks a → (s s' : State) → Alike s s' → DoesAlike s s' (act ks less a s) (act ks less a s')
    act-alike a (ends o p) s s' h = DoesAlike-refl o s s' p h
    act-alike a (looks f e k) s s' h =
        subst (λ x. DoesAlike s s' (act ks less (f s.memory) s) (act ks less x s')) (e s.memory s'.memory (Alike-reading s s' h))
        (act-alike (f s.memory) (k s.memory) s s' h)
    act-alike a (makes n x f p k) s s' h =
        DoesAlike-trans s s' (with_objects s (made_object n x s.memory.objects)) (with_objects s' (made_object n x s'.memory.objects)) _ _
        (made_alike s s' n x) (0, omega arith, omega arith)
        (subst (λ o. DoesAlike (with_objects s (made_object n x s.memory.objects)) (with_objects s' (made_object n x s'.memory.objects))
        (act ks less (f (number_made n s.memory.objects)) (with_objects s (made_object n x s.memory.objects)))
        (act ks less (f o) (with_objects s' (made_object n x s'.memory.objects)))) (number_alike s s' n h)
        (act-alike (f (number_made n s.memory.objects)) (k _ (number_seen s s' n p h)) _ _ (Alike-make s s' n x h)))
    act-alike a (ticks n c k) s s' h =
        DoesAlike-trans s s' (record s { ticks = s.ticks + n }) (record s' { ticks = s'.ticks + n }) _ _
        ([], sym (append-nil s.memory.objects.made), sym (append-nil s'.memory.objects.made)) (n, refl, refl)
        (act-alike c k (record s { ticks = s.ticks + n }) (record s' { ticks = s'.ticks + n })
        (record { as_many = h.as_many; above = h.above; named = h.named; objects = h.objects }))
    act-alike a (asks i mode sc f m k) s s' h =
        after-alike s s' (ks.kid i mode sc s) (ks.kid i mode sc s') _ _ (m sc s s' h) (λ o t t' p l. act-alike (f o) (k o p) t t' l)

-- ---- the states in which an evaluation begins

pub Alike-begins : (w : World) (s s' : State) → SameStatics w s s' → Alike w (length s.memory.objects.made) s s'
Alike-begins w s s' h = record { as_many = h.as_many; above = omega arith; named = h.named; objects = each }
  where
    each : (o : ℕ) → MayLook w (length s.memory.objects.made) o → slice_get s.memory.objects.made o ≡ slice_get s'.memory.objects.made o
    each o (inl (name, e)) = subst (λ x. slice_get s.memory.objects.made x ≡ slice_get s'.memory.objects.made x) (sym e) (h.static name)
    each o (inr l) =
        slice_get_past s.memory.objects.made o l ∙ sym (slice_get_past s'.memory.objects.made o (rw (← h.as_many) l))

pub DoesTheSame-from : (w : World) (b : ℕ) (s s' : State) (r r' : Result) → DoesAlike w b s s' r r' → DoesTheSame s s' r r'
DoesTheSame-from w b s s' r r' d = record { outcome = d.outcome; made = d.made; named = d.alike.named; ticks = d.ticks }
