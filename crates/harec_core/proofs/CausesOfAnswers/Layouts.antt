-- Layouts of files.
use Rattle.std.proofs.Common.{◌≡◌, ℕ, ◌<◌, ◌≤◌, List, [], ◌∷◌, length, Option, Some, Result, Ok, Err, IfOk, IfErr, refl, sym, subst, inl, inr, arith}
use Rattle.std.specs.Prelude.{slice_get}
use Rattle.hare_tree.specs.declared.place.Fault as fault
use Rattle.hare_tree.specs.declared.stop.Stop.TheVariants.{Fault, Memory}
use Rattle.hare_decl.specs.Answers.{HasSourceFault}
use Rattle.hare_lines.specs.Layout.{IsLaidOut}
use Rattle.hare_fmt.specs.Answer.{GivesText, GivesFault}
use Rattle.hare_sources.specs.Files.{most_of_file}
use Rattle.harec_check.specs.declared.stopped.Stopped.{Stopped}
use Rattle.harec_check.specs.declared.stopped.Stopped.TheVariants as stopped
use Rattle.harec_check.specs.Lines.{IsRefusal}
use Rattle.harec_words.specs.Commands.{Fmt}
use Rattle.harec_check.specs.Files.{AreTold}
use Rattle.harec_core.specs.declared.done.Done.{Done}
use Rattle.harec_core.specs.Answers.{Call, IsToLayOut, LaidOut, CutLayout}
use Rattle.harec_core.specs.Layouts.{HasLayout, HasNoLayout, IsLayoutFault, too_large, of_source, too_large_fault}
use Rattle.harec_core.specs.Outside.{Stands, Received, Sent, IsSent}
use Rattle.harec_core.specs.Stages.{Emits, IsLayoutStop, IsFound}

-- ---- what is answered of bytes

module _ (source : List ℕ) (small : length source ≤ most_of_file) where
  -- a text that is given is the layout
  pub HasLayout-given :
      (text : List ℕ) → IsLaidOut source text → ((t : List ℕ) → IsLaidOut source t → GivesText t (Ok text))
      → ((f : fault.Fault) → HasSourceFault 0 source f → GivesFault f (Ok text)) → HasLayout source text
  HasLayout-given text laid texts faults = record {
    small = small;
    laid = laid;
    only = λ t l. sym (texts t l);
    faultless = faults;
  }

  -- and a fault is that of the bytes
  pub HasNoLayout-given :
      (f : fault.Fault) → HasSourceFault 0 source f → ((t : List ℕ) → IsLaidOut source t → GivesText t (Err (Fault f)))
      → ((g : fault.Fault) → HasSourceFault 0 source g → GivesFault g (Err (Fault f))) → HasNoLayout source f
  HasNoLayout-given f has texts faults = record { fault = of_source small has; only = only; none = λ t l laid. differ (texts t laid) }
    where
      differ : Fault f ≡ Memory → ⊥
      differ e = cc

      one : (g : fault.Fault) → Fault f ≡ Fault g → g ≡ f
      one g e = cc

      same : (g : fault.Fault) → GivesFault g (Err (Fault f)) → g ≡ f
      same g (inl e) = absurd (differ e)
      same g (inr e) = one g e

      only : (g : fault.Fault) → IsLayoutFault source g → g ≡ f
      only g (too_large l e) = absurd (omega (arith, small, l))
      only g (of_source l h) = same g (faults g h)

-- too many bytes have no layout
pub HasNoLayout-large : (source : List ℕ) → most_of_file < length source → HasNoLayout source too_large_fault
HasNoLayout-large source large = record { fault = too_large large refl; only = only; none = λ t l laid. absurd (omega (arith, large, l)) }
  where
    only : (g : fault.Fault) → IsLayoutFault source g → g ≡ too_large_fault
    only g (too_large l e) = e
    only g (of_source l h) = absurd (omega (arith, large, l))

-- a fault with its line
pub refused_layout :
    (paths : List (List ℕ)) (source : List ℕ) (f : fault.Fault) (s : Stopped) → HasNoLayout source f → IsRefusal paths f s
    → IsLayoutStop paths source s
refused_layout paths source f (stopped.Refused r) none h = (rw h.0 none, rw h.0 h.1)
refused_layout paths source f (stopped.Unread number) none h = absurd h
refused_layout paths source f stopped.Memory none h = tt

-- ---- the one file

-- the first of one
pub sole_source : (srcs : List (List ℕ)) (src : List ℕ) → length srcs ≡ 1 → slice_get srcs 0 ≡ Some src → srcs ≡ src ∷ []
sole_source [] src n e = absurd (omega (arith, n))
sole_source (s ∷ []) src n e = cc
sole_source (s ∷ t ∷ ss) src n e = absurd (omega (arith, n))

module _ (srcs : List (List ℕ)) (src : List ℕ) where
  pub sole_ok :
      {E : Type 0} (r : Result (List ℕ) E) → srcs ≡ src ∷ [] → IfOk r (HasLayout src)
      → IfOk r (λ layout. (source : List ℕ) × (srcs ≡ source ∷ []) × HasLayout source layout)
  sole_ok (Ok layout) one h = (src, one, h)
  sole_ok (Err e) one h = tt

  pub sole_err :
      {T : Type 0} (paths : List (List ℕ)) (r : Result T Stopped) → srcs ≡ src ∷ [] → IfErr r (IsLayoutStop paths src)
      → IfErr r (λ s. (source : List ℕ) × (srcs ≡ source ∷ []) × IsLayoutStop paths source s)
  sole_err paths (Ok t) one h = tt
  sole_err paths (Err s) one h = (src, one, h)

-- ---- causes

module _ (c : Call) (paths : List (List ℕ)) (source : List ℕ) (asked : IsToLayOut c source) where
  -- a layout that was written out
  laid_found : (layout : List ℕ) (d : Done) → HasLayout source layout → Emits layout c.out d → IsFound c paths (Ok d)
  laid_found layout d laid (inl h) =
      let cause : LaidOut c = record { source = source; asked = asked; layout = layout; laid = laid; sent = h.1 } in
      subst (λ (x : Done). IsFound c paths (Ok x)) (sym h.0)
      (record { cause = inr (inr cause); text = []; line = tt; aborts = tt })
  laid_found layout d laid (inr h) =
      let cut : CutLayout c = record { source = source; asked = asked; layout = layout; laid = laid; cut = h.1 } in
      subst (λ (x : Done). IsFound c paths (Ok x)) (sym h.0) (record { cause = inr (inr cut); text = []; line = tt; aborts = tt })

  -- a file without a layout
  not_laid_found :
      (s : Stopped) → Stands c.input.faults → IsSent [] c.out → IsLayoutStop paths source s → IsFound c paths (Err s)
  not_laid_found (stopped.Refused r) unread quiet h = record {
    cause = inr (inr (record { source = source; asked = asked; fault = h.0; silent = quiet }));
    text = [];
    line = h.1;
    aborts = tt;
  }
  not_laid_found (stopped.Unread number) unread quiet h = absurd h
  not_laid_found stopped.Memory unread quiet h = record {
    cause = inl (record { files = asked.files; input = unread; silent = quiet; text = inl asked.text });
    text = [];
    line = tt;
    aborts = tt;
  }

module _
    (content : List ℕ → Option (List ℕ)) (paths srcs : List (List ℕ)) (before now : ℕ) (out : Sent) (told : AreTold content paths srcs)
    (stands : now ≡ before) (source : List ℕ) (one : srcs ≡ source ∷ []) where
  -- the call that lays the one file out, and leaves no text
  abbrev pub call_for : ℕ → List ℕ → Received → Call
  call_for fill text input = record {
    command = Fmt paths;
    sources = srcs;
    fill = fill;
    files = record { before = before; now = now };
    input = input;
    out = out;
    text = text;
  }

  to_lay_out : (fill : ℕ) (text : List ℕ) (input : Received) → text ≡ [] → IsToLayOut (call_for fill text input) source
  to_lay_out fill text input empty = record { file = paths; command = refl; files = stands; one = one; text = empty }

  -- the one file was laid out
  pub laid_out_found :
      (layout : List ℕ) (d : Done) → HasLayout source layout → Emits layout out d
      → (srcs : List (List ℕ)) × AreTold content paths srcs
      × ((fill : ℕ) (text : List ℕ) (input : Received) → text ≡ [] → Stands input.faults → IsFound (record {
        command = Fmt paths;
        sources = srcs;
        fill = fill;
        files = record { before = before; now = now };
        input = input;
        out = out;
        text = text;
      }) paths (Ok d))
  laid_out_found layout d laid e = (
    srcs,
    told,
    λ fill text input empty unread. laid_found (call_for fill text input) paths source (to_lay_out fill text input empty) layout d laid e,
  )

  -- it was not
  pub layout_stop_found :
      (s : Stopped) → IsSent [] out → IsLayoutStop paths source s
      → (srcs : List (List ℕ)) × AreTold content paths srcs
      × ((fill : ℕ) (text : List ℕ) (input : Received) → text ≡ [] → Stands input.faults → IsFound (record {
        command = Fmt paths;
        sources = srcs;
        fill = fill;
        files = record { before = before; now = now };
        input = input;
        out = out;
        text = text;
      }) paths (Err s))
  layout_stop_found s quiet h = (
    srcs,
    told,
    λ fill text input empty unread. not_laid_found (call_for fill text input) paths source (to_lay_out fill text input empty) s unread quiet h,
  )
