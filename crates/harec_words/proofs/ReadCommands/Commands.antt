-- The commands that are read are those of the table.
use Rattle.std.proofs.Common.{◌≡◌, ℕ, ◌≤◌, ◌^◌, List, [], ◌∷◌, ◌++◌, Bool, true, false, cond, ◌&&◌, length, drop, Option, Some, option_map, option_and_then, None, get_or, refl, sym, ap, subst, ◌∙◌, arith, codes, inl, inr, nat_le, nat_lt, sum_by, append-nil, append_assoc}
use Rattle.std.specs.Bool.{Decides}
use Rattle.std.specs.List.{All, list_all, position_or_len}
use Rattle.std.specs.Str.{bytes_eq}
use Rattle.std.specs.Str.Parse.{digits_value}
use Rattle.std.specs.Char.{is_ascii_digit}
use Rattle.std.proofs.lemmas.Slice.Eq.{bytes_eq-Decides, starts_is}
use Rattle.std.proofs.lemmas.Bool.{ltb-true, ltb-false, and_parts, and_from, leb-true, le-leb, false_from_ne_true, false≢true}
use Rattle.std.proofs.lemmas.Bool.Decides.{Decides-eqb, Decides-by_and}
use Rattle.std.proofs.lemmas.List.Elements.{All-nil, All-cons, All-weaker}
use Rattle.std.proofs.lemmas.List.{take_all, drop_all}
use Rattle.std.proofs.lemmas.List.Sums.{split_at_first, passes_at_first}
use Rattle.std.proofs.lemmas.Option.{same_Some}
use Rattle.harec_words.specs.Commands.{IsFile, AreFiles, IsOneFile, IsProgram, IsUnits, default_units, Limits, Brings, AreArguments, Runs, Command, Check, Emit, Run, Exec, Fmt, IsCommand, MeanOneCommand}
use Rattle.harec_words.specs.Reading.{is_file, are_files, is_one_file, begins_with_dashes, is_program, is_units, units_of, number_in, units_behind, is_dashes, named_in, args_in, are_arguments, run_of, run_in, files_behind, file_behind, command_in}
use Rattle.harec_words.proofs.PartsOfWords.Paths.{file_decides}
use Rattle.harec_words.proofs.PartsOfWords.Lists.{IsCut, cut_at, cut_end}

-- a test of what is run, and the command that it makes with units and arguments
abbrev pub Test : Type 0
Test = List (List ℕ) → Bool

abbrev pub Make : Type 0
Make = ℕ → List (List ℕ) → List (List ℕ) → Command

-- ---- tests

pub files_decide : (files : List (List ℕ)) → Decides (are_files files) (AreFiles files)
files_decide files = by (nat_le 1 (length files) && nat_le (length files) 65536) refl
  where
    each : Decides (list_all is_file files) (All IsFile files)
    each = Decides-by_and is_file IsFile (list_all is_file) file_decides refl (λ _ _. refl) files

    by : (b : Bool) → (nat_le 1 (length files) && nat_le (length files) 65536) ≡ b →
        Decides (cond b (list_all is_file files) false) (AreFiles files)
    by true e =
        let parts = and_parts (nat_le 1 (length files)) _ e in
        (λ k. record { some = leb-true _ _ parts.0; few = leb-true _ _ parts.1; named = each.0 k }, λ f. each.1 f.named)
    by false e = (
      λ k. absurd cc,
      λ f. absurd (false≢true (sym e ∙ and_from _ _ (le-leb 1 (length files) f.some) (le-leb (length files) 65536 f.few))),
    )

one_decides : (file : List (List ℕ)) → Decides (is_one_file file) (IsOneFile file)
one_decides [] = (λ k. absurd cc, λ p. let e = p.only in absurd cc)
one_decides (v ∷ w ∷ ws) = (λ k. absurd cc, λ p. let e = p.only in absurd cc)
one_decides (word ∷ []) = (
  λ k. record { word = word; only = refl; named = (file_decides word).0 k },
  λ p. let e : word ≡ p.word = let o = p.only in cc in (file_decides word).1 (subst IsFile (sym e) p.named),
)

program_decides : (program : List (List ℕ)) → Decides (is_program program) (IsProgram program)
program_decides [] = (λ k. absurd cc, λ p. let e = p.only in absurd cc)
program_decides (v ∷ w ∷ ws) = (λ k. absurd cc, λ p. let e = p.only in absurd cc)
program_decides (word ∷ []) = by (begins_with_dashes word) (starts_is Decides-eqb word (codes "--") (begins_with_dashes word) refl)
  where
    by : (b : Bool) → ((b ≡ true → word ≡ codes "--" ++ drop 2 word) × ((rest : List ℕ) → word ≡ codes "--" ++ rest → b ≡ true)) →
        Decides (cond b false true) (IsProgram (word ∷ []))
    by true h = (λ k. absurd cc, λ p. let e : word ≡ p.word = let o = p.only in cc in absurd (p.plain (drop 2 word) (sym e ∙ h.0 refl)))
    by false h = (λ k. record { word = word; only = refl; plain = λ rest e. false≢true (h.1 rest e) }, λ p. refl)

pub arguments_decide : (args : List (List ℕ)) → Decides (are_arguments args) (AreArguments args)
arguments_decide args = (
  λ k. let parts = and_parts (nat_le (length args) 1048576) _ k in record { few = leb-true _ _ parts.0; small = leb-true _ _ parts.1 },
  λ a. and_from _ _ (le-leb (length args) 1048576 a.few) (le-leb (sum_by length args) (2 ^ 30) a.small),
)

units_decide : (word : List ℕ) → Decides (is_units word) (IsUnits word (digits_value 10 word))
units_decide word = (
  λ k.
      let last = and_parts (list_all is_ascii_digit word && nat_le (length word) 20 && nat_le 1 (digits_value 10 word)) _ k in
      let third = and_parts (list_all is_ascii_digit word && nat_le (length word) 20) _ last.0 in
      let first = and_parts (list_all is_ascii_digit word) _ third.0 in
      record { decimal = first.0; short = leb-true _ _ first.1; value = refl; least = leb-true _ _ third.1; most = leb-true _ _ last.1 },
  λ u. and_from _ _ (and_from _ _ (and_from _ _ u.decimal (le-leb _ _ u.short)) (le-leb _ _ u.least)) (le-leb _ _ u.most),
)

units_read : (word : List ℕ) (n : ℕ) → units_of word ≡ Some n → IsUnits word n
units_read word n e = by (is_units word) refl e
  where
    by : (b : Bool) → is_units word ≡ b → cond b (Some (digits_value 10 word)) None ≡ Some n → IsUnits word n
    by true h k = let m : digits_value 10 word ≡ n = cc in subst (IsUnits word) m ((units_decide word).0 h)
    by false h k = absurd cc

units_told : (word : List ℕ) (n : ℕ) → IsUnits word n → units_of word ≡ Some n
units_told word n u =
    let own : IsUnits word (digits_value 10 word) = subst (IsUnits word) (sym u.value) u in
    let passes : is_units word ≡ true = (units_decide word).1 own in
    rw passes (ap Some u.value)

-- ---- words that are run

-- none of the words is `--`, and the first is not `--units`
pub record IsPlain (named : List (List ℕ)) : Type 0 where
  pub none : All (λ w. is_dashes w ≡ false) named
  pub fronted : (behind : List (List ℕ)) → units_behind (named ++ behind) ≡ Some (default_units, 1)

-- words for which a test is not true are other words
other : (test : List ℕ → Bool) (word known : List ℕ) → test word ≡ true → test known ≡ false → bytes_eq word known ≡ false
other test word known h k =
    false_from_ne_true (bytes_eq word known) (λ e. false≢true (sym k ∙ sym (ap test ((bytes_eq-Decides word known).0 e)) ∙ h))

plain_first : (w : List ℕ) (ws behind : List (List ℕ)) → bytes_eq w (codes "--units") ≡ false →
    units_behind (w ∷ ws ++ behind) ≡ Some (default_units, 1)
plain_first w ws behind h = rw h refl

abbrev pub Plains : Test → Type 0
Plains test = (named : List (List ℕ)) → test named ≡ true → IsPlain named

files_plain : Plains are_files
files_plain [] h = absurd cc
files_plain (w ∷ ws) h =
    let f = (files_decide (w ∷ ws)).0 h in
    let first : is_file w ≡ true = (file_decides w).1 (f.named 0 w (omega arith)) in
    record {
      none =
          All-weaker IsFile (λ w. is_dashes w ≡ false)
          (λ v g. other is_file v (codes "--") ((file_decides v).1 g) refl) (w ∷ ws) f.named;
      fronted = λ behind. plain_first w ws behind (other is_file w (codes "--units") first refl);
    }

program_plain : Plains is_program
program_plain [] h = absurd cc
program_plain (v ∷ w ∷ ws) h = absurd cc
program_plain (w ∷ []) h =
    let alone : List ℕ → Bool = λ v. is_program (v ∷ []) in
    record {
      none = All-cons (λ w. is_dashes w ≡ false) w [] (other alone w (codes "--") h refl) (All-nil (λ w. is_dashes w ≡ false));
      fronted = λ behind. plain_first w [] behind (other alone w (codes "--units") h refl);
    }

-- what is run and the arguments, in the words behind the units
cut_behind : (named behind args : List (List ℕ)) → All (λ w. is_dashes w ≡ false) named → Brings behind args →
    IsCut is_dashes (named ++ behind) named args
cut_behind named behind args h (inl b) = rw (b.0, b.1) (cut_end is_dashes named h)
cut_behind named behind args h (inr b) = rw b (cut_at is_dashes named (codes "--") args h refl)

run_told : (test : Test) (make : Make) (units : ℕ) (named args rest : List (List ℕ)) → IsCut is_dashes rest named args →
    test named ≡ true → AreArguments args → run_of test make units rest ≡ Some (make units named args)
run_told test make units named args rest cut h a =
    let few : are_arguments args ≡ true = (arguments_decide args).1 a in
    rw (cut.front_is, cut.back_is, h, few) refl

-- the words that are run are read
run_is : (test : Test) (make : Make) (name : List ℕ) (words : List (List ℕ)) (units : ℕ) (named args : List (List ℕ)) → Plains test →
    Runs words name units named args → test named ≡ true → run_in test make words ≡ Some (make units named args)
run_is test make name words units named args plains r h = by r.front r.limited r.spelled
  where
    plain : IsPlain named
    plain = plains named h

    cut : IsCut is_dashes (named ++ r.behind) named args
    cut = cut_behind named r.behind args plain.none r.brought

    told : run_of test make units (named ++ r.behind) ≡ Some (make units named args)
    told = run_told test make units named args (named ++ r.behind) cut h r.arguments

    by : (front : List (List ℕ)) → Limits front units → words ≡ name ∷ (front ++ named ++ r.behind) →
        run_in test make words ≡ Some (make units named args)
    by front (inl l) e =
        let at : words ≡ name ∷ (named ++ r.behind) = rw l.0 at e in
        rw (at, plain.fronted r.behind, sym l.1) told
    by front (inr l) e =
        let at : words ≡ name ∷ codes "--units" ∷ l.0 ∷ (named ++ r.behind) = rw l.1 at e in
        rw (at, units_told l.0 units l.2) told

-- what is read stands so in the words
record IsFront (words named : List (List ℕ)) (name : List ℕ) (units : ℕ) : Type 0 where
  front : List (List ℕ)
  words_are : words ≡ name ∷ (front ++ named)
  limited : Limits front units

front_is : (name : List ℕ) (rest : List (List ℕ)) (r : ℕ × ℕ) → units_behind rest ≡ Some r →
    IsFront (name ∷ rest) (drop r.1 (name ∷ rest)) name r.0
front_is name [] r e =
    let u : r ≡ (default_units, 1) = cc in
    rw u (record { front = []; words_are = refl; limited = inl (refl, refl) })
front_is name (w ∷ ws) r e = by (bytes_eq w (codes "--units")) refl e
  where
    numbered : (ws : List (List ℕ)) → w ≡ codes "--units" → number_in ws ≡ Some r →
        IsFront (name ∷ w ∷ ws) (drop r.1 (name ∷ w ∷ ws)) name r.0
    numbered [] f k = absurd cc
    numbered (v ∷ vs) f k = found (units_of v) refl k
      where
        found : (o : Option ℕ) → units_of v ≡ o → option_map (λ n. (n, 3)) o ≡ Some r →
            IsFront (name ∷ w ∷ v ∷ vs) (drop r.1 (name ∷ w ∷ v ∷ vs)) name r.0
        found None g k = absurd cc
        found (Some n) g k =
            let u : r ≡ (n, 3) = cc in
            rw u (record {
              front = w ∷ v ∷ [];
              words_are = refl;
              limited = inr (v, ap (λ x. x ∷ v ∷ []) f, units_read v n g);
            })

    by : (b : Bool) → bytes_eq w (codes "--units") ≡ b → cond b (number_in ws) (Some (default_units, 1)) ≡ Some r →
        IsFront (name ∷ w ∷ ws) (drop r.1 (name ∷ w ∷ ws)) name r.0
    by true f k = numbered ws ((bytes_eq-Decides w (codes "--units")).0 f) k
    by false f k =
        let u : r ≡ (default_units, 1) = cc in
        rw u (record { front = []; words_are = refl; limited = inl (refl, refl) })

record IsBack (rest : List (List ℕ)) : Type 0 where
  behind : List (List ℕ)
  words_are : rest ≡ named_in rest ++ behind
  brought : Brings behind (args_in rest)

back_is : (rest : List (List ℕ)) → IsBack rest
back_is rest = by (nat_lt (position_or_len is_dashes rest) (length rest)) refl
  where
    by : (b : Bool) → nat_lt (position_or_len is_dashes rest) (length rest) ≡ b → IsBack rest
    by true t =
        let dashes = (bytes_eq-Decides _ (codes "--")).0 (passes_at_first is_dashes rest [] (ltb-true _ _ t)) in
        record {
          behind = get_or rest (position_or_len is_dashes rest) [] ∷ args_in rest;
          words_are = split_at_first is_dashes rest [] (ltb-true _ _ t);
          brought = inr (ap (λ w. w ∷ args_in rest) dashes);
        }
    by false t =
        let past : length rest ≤ position_or_len is_dashes rest = ltb-false _ _ t in
        record {
          behind = [];
          words_are = sym (append-nil (named_in rest) ∙ take_all _ rest past);
          brought = inl (refl, drop_all _ rest (omega (arith, past)));
        }

-- the words are run with what is read
pub record IsRead (test : Test) (make : Make) (name : List ℕ) (words : List (List ℕ)) (c : Command) : Type 0 where
  pub units : ℕ
  pub named : List (List ℕ)
  pub args : List (List ℕ)
  pub made : make units named args ≡ c
  pub runs : Runs words name units named args
  pub passes : test named ≡ true

pub run_reads : (test : Test) (make : Make) (name : List ℕ) (rest : List (List ℕ)) (c : Command) →
    run_in test make (name ∷ rest) ≡ Some c → IsRead test make name (name ∷ rest) c
run_reads test make name rest c e = by (units_behind rest) refl e
  where
    put : (r : ℕ × ℕ) → IsFront (name ∷ rest) (drop r.1 (name ∷ rest)) name r.0 → (b : Bool) →
        (test (named_in (drop r.1 (name ∷ rest))) && are_arguments (args_in (drop r.1 (name ∷ rest)))) ≡ b →
        cond b (Some (make r.0 (named_in (drop r.1 (name ∷ rest))) (args_in (drop r.1 (name ∷ rest))))) None ≡ Some c →
        IsRead test make name (name ∷ rest) c
    put r f true t k =
        let behind = drop r.1 (name ∷ rest) in
        let parts = and_parts (test (named_in behind)) (are_arguments (args_in behind)) t in
        let back = back_is behind in
        record {
          units = r.0;
          named = named_in behind;
          args = args_in behind;
          made = same_Some _ _ k;
          runs = record {
            front = f.front;
            behind = back.behind;
            spelled =
                f.words_are
                ∙ ap (λ ws. name ∷ (f.front ++ ws)) back.words_are
                ∙ ap (λ ws. name ∷ ws) (sym (append_assoc f.front (named_in behind) back.behind));
            limited = f.limited;
            brought = back.brought;
            arguments = (arguments_decide (args_in behind)).0 parts.1;
          };
          passes = parts.0;
        }
    put r f false t k = absurd cc

    by : (o : Option (ℕ × ℕ)) → units_behind rest ≡ o → option_and_then (λ u. run_of test make u.0 (drop u.1 (name ∷ rest))) o ≡ Some c →
        IsRead test make name (name ∷ rest) c
    by None f k = absurd cc
    by (Some r) f k = put r (front_is name rest r f) _ refl k

-- ---- commands

same_name : (name known : List ℕ) → bytes_eq name known ≡ true → name ≡ known
same_name name known = (bytes_eq-Decides name known).0

file_words : (make : List (List ℕ) → Command) (name : List ℕ) (rest : List (List ℕ)) (c : Command) →
    option_map make (files_behind (name ∷ rest)) ≡ Some c → (make rest ≡ c) × AreFiles rest
file_words make name rest c e = by (are_files rest) refl e
  where
    by : (b : Bool) → are_files rest ≡ b → option_map make (cond b (Some rest) None) ≡ Some c → (make rest ≡ c) × AreFiles rest
    by true h k = (same_Some _ _ k, (files_decide rest).0 h)
    by false h k = absurd cc

file_word : (name : List ℕ) (rest : List (List ℕ)) (c : Command) → option_map Fmt (file_behind (name ∷ rest)) ≡ Some c →
    (Fmt rest ≡ c) × IsOneFile rest
file_word name rest c e = by (is_one_file rest) refl e
  where
    by : (b : Bool) → is_one_file rest ≡ b → option_map Fmt (cond b (Some rest) None) ≡ Some c → (Fmt rest ≡ c) × IsOneFile rest
    by true h k = (same_Some _ _ k, (one_decides rest).0 h)
    by false h k = absurd cc

-- the commands in the order in which they are looked for
abbrev fmt_or_none : List ℕ → List (List ℕ) → Option Command
fmt_or_none name words = cond (bytes_eq name (codes "fmt")) (option_map Fmt (file_behind words)) None

abbrev exec_or_fmt : List ℕ → List (List ℕ) → Option Command
exec_or_fmt name words = cond (bytes_eq name (codes "exec")) (run_in is_program Exec words) (fmt_or_none name words)

abbrev run_or_exec : List ℕ → List (List ℕ) → Option Command
run_or_exec name words = cond (bytes_eq name (codes "run")) (run_in are_files Run words) (exec_or_fmt name words)

abbrev emit_or_run : List ℕ → List (List ℕ) → Option Command
emit_or_run name words = cond (bytes_eq name (codes "emit")) (option_map Emit (files_behind words)) (run_or_exec name words)

-- what is read is a command
pub reads : (words : List (List ℕ)) (c : Command) → command_in words ≡ Some c → IsCommand words c
reads [] c e = absurd cc
reads (name ∷ rest) c e = by_check (bytes_eq name (codes "check")) refl e
  where
    by_fmt : (b : Bool) → bytes_eq name (codes "fmt") ≡ b → cond b (option_map Fmt (file_behind (name ∷ rest))) None ≡ Some c →
        IsCommand (name ∷ rest) c
    by_fmt true h k =
        let f = file_word name rest c k in
        subst (IsCommand (name ∷ rest)) f.0 (ap (λ n. n ∷ rest) (same_name name _ h), f.1)
    by_fmt false h k = absurd cc

    by_exec : (b : Bool) → bytes_eq name (codes "exec") ≡ b →
        cond b (run_in is_program Exec (name ∷ rest)) (fmt_or_none name (name ∷ rest)) ≡ Some c → IsCommand (name ∷ rest) c
    by_exec true h k =
        let r = run_reads is_program Exec name rest c k in
        let runs : Runs (name ∷ rest) (codes "exec") r.units r.named r.args =
        subst (λ n. Runs (name ∷ rest) n r.units r.named r.args) (same_name name _ h) r.runs in
        subst (IsCommand (name ∷ rest)) r.made (runs, (program_decides r.named).0 r.passes)
    by_exec false h k = by_fmt _ refl k

    by_run : (b : Bool) → bytes_eq name (codes "run") ≡ b →
        cond b (run_in are_files Run (name ∷ rest)) (exec_or_fmt name (name ∷ rest)) ≡ Some c → IsCommand (name ∷ rest) c
    by_run true h k =
        let r = run_reads are_files Run name rest c k in
        let runs : Runs (name ∷ rest) (codes "run") r.units r.named r.args =
        subst (λ n. Runs (name ∷ rest) n r.units r.named r.args) (same_name name _ h) r.runs in
        subst (IsCommand (name ∷ rest)) r.made (runs, (files_decide r.named).0 r.passes)
    by_run false h k = by_exec _ refl k

    by_emit : (b : Bool) → bytes_eq name (codes "emit") ≡ b →
        cond b (option_map Emit (files_behind (name ∷ rest))) (run_or_exec name (name ∷ rest)) ≡ Some c → IsCommand (name ∷ rest) c
    by_emit true h k =
        let f = file_words Emit name rest c k in
        subst (IsCommand (name ∷ rest)) f.0 (ap (λ n. n ∷ rest) (same_name name _ h), f.1)
    by_emit false h k = by_run _ refl k

    by_check : (b : Bool) → bytes_eq name (codes "check") ≡ b →
        cond b (option_map Check (files_behind (name ∷ rest))) (emit_or_run name (name ∷ rest)) ≡ Some c → IsCommand (name ∷ rest) c
    by_check true h k =
        let f = file_words Check name rest c k in
        subst (IsCommand (name ∷ rest)) f.0 (ap (λ n. n ∷ rest) (same_name name _ h), f.1)
    by_check false h k = by_emit _ refl k

-- a command is read
pub tells : (words : List (List ℕ)) (c : Command) → IsCommand words c → command_in words ≡ Some c
tells words (Check files) h = let f : are_files files ≡ true = (files_decide files).1 h.1 in rw (h.0, f) refl
tells words (Emit files) h = let f : are_files files ≡ true = (files_decide files).1 h.1 in rw (h.0, f) refl
tells words (Run units files args) h =
    let passes = (files_decide files).1 h.1 in
    let told = run_is are_files Run (codes "run") words units files args files_plain h.0 passes in
    rw h.0.spelled (subst (λ ws. run_in are_files Run ws ≡ Some (Run units files args)) h.0.spelled told)
tells words (Exec units program args) h =
    let passes = (program_decides program).1 h.1 in
    let told = run_is is_program Exec (codes "exec") words units program args program_plain h.0 passes in
    rw h.0.spelled (subst (λ ws. run_in is_program Exec ws ≡ Some (Exec units program args)) h.0.spelled told)
tells words (Fmt file) h = let f : is_one_file file ≡ true = (one_decides file).1 h.1 in rw (h.0, f) refl

-- words are at most one command
pub one_command : MeanOneCommand
one_command words a b h k = same_Some _ _ (sym (tells words a h) ∙ tells words b k)
