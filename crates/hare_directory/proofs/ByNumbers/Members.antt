-- Names between the braces of imports.
use Rattle.std.proofs.Common.{◌≡◌, ℕ, ◌+◌, List, [], ◌∷◌, ◌++◌, Bool, true, false, cond, not, length, map, position, bytes_eq, Option, Some, None, is_some, refl, sym, ap, ◌∙◌, true≢false, append-nil}
use Rattle.std.specs.Prelude.{option_map}
use Rattle.std.specs.List.{flat_map, filter_map, cons_option}
use Rattle.std.proofs.lemmas.List.Concat.{flat_map-append}
use Rattle.std.proofs.lemmas.List.Elements.{filter_map-append}
use Rattle.hare_tree.specs.declared.place.Place.{Place}
use Rattle.hare_tree.specs.declared.place.Fault.{Fault}
use Rattle.hare_tree.specs.declared.tree.FileTree.{FileTree}
use Rattle.hare_tree.specs.Node.{Node, head}
use Rattle.hare_modules.specs.declared.items.Entry.{Entry}
use Rattle.hare_modules.specs.Order.{fault}
use Rattle.hare_modules.specs.Modules.{Module, Source, sources, module_of, is_known}
use Rattle.hare_modules.specs.Uses.{import_as, imports_of, imports, text_of, place_of, names_brought, is_braced, module_used}
use Rattle.hare_modules.specs.Declarations.{Item, item_named}
use Rattle.hare_modules.specs.Entries.{entry}
use Rattle.hare_modules.specs.Faults.{member_fault, member_faults}
use Rattle.hare_modules.specs.Numbering.{AreHomes}
use Rattle.hare_modules.specs.Tables.{value_of}
use Rattle.hare_modules.specs.Takings.{named, import_taker, use_takings, decl_takings, takings}
use Rattle.hare_modules.specs.Taken.{table_at, not_had, member_of, member_fault as member_fault_by}

module _ (all : List Source) (known : List Module) (items : List (List (List ℕ × Entry)))
    (is-known : (m : Module) → is_some (position (bytes_eq m) known) ≡ is_known all m)
    (told : (m : Module) (n : ℕ) (x : List ℕ) → position (bytes_eq m) known ≡ Some n → value_of x (table_at items n) ≡ option_map entry
    (item_named all m x)) where
  not-had-same : (i : Option Item) (p : Place) (fs : List Fault) → cons_option (not_had (option_map entry i) p) fs ≡ member_fault i p ++ fs
  not-had-same None p fs = refl
  not-had-same (Some i) p fs = by i.exported
    where
      by : (b : Bool) → cons_option (cond b None (Some (fault 14 p))) fs ≡ cond b [] (fault 14 p ∷ []) ++ fs
      by true = refl
      by false = refl

  -- a name between braces
  name-same : (f h : ℕ) (m : Module) (whole : Bool) (t : Node) (fs : List Fault) →
      cons_option (member_fault_by items (named f h (import_taker (position (bytes_eq m) known) whole) t)) fs ≡ member_faults all
      (import_as m whole t) ++ fs
  name-same f h m true t fs = refl
  name-same f h m false t fs = by (position (bytes_eq m) known) refl (is_known all m) (is-known m)
    where
      by : (o : Option ℕ) → position (bytes_eq m) known ≡ o → (b : Bool) → is_some (position (bytes_eq m) known) ≡ b →
          cons_option (member_of items (named f h (import_taker o false) t) o) fs ≡ cond b
          (member_fault (item_named all m (text_of t)) (place_of t)) [] ++ fs
      by None e false d = refl
      by None e true d = absurd (true≢false (sym d ∙ ap is_some e))
      by (Some n) e false d = absurd (true≢false (sym (ap is_some e) ∙ d))
      by (Some n) e true d = ap (λ o. cons_option (not_had o (place_of t)) fs) (told m n (text_of t) e)
          ∙ not-had-same (item_named all m (text_of t)) (place_of t) fs

  names-same : (f h : ℕ) (m : Module) (whole : Bool) (ns : List Node) →
      filter_map (member_fault_by items) (map (named f h (import_taker (position (bytes_eq m) known) whole)) ns) ≡ flat_map
      (member_faults all) (map (import_as m whole) ns)
  names-same f h m whole [] = refl
  names-same f h m whole (t ∷ ts) =
      name-same f h m whole t (filter_map (member_fault_by items) (map (named f h (import_taker (position (bytes_eq m) known) whole)) ts))
      ∙ ap (λ fs. member_faults all (import_as m whole t) ++ fs) (names-same f h m whole ts)

  uses-same : (f h : ℕ) (us : List Node) →
      filter_map (member_fault_by items) (flat_map (use_takings known f h) us) ≡ flat_map (member_faults all) (flat_map imports_of us)
  uses-same f h [] = refl
  uses-same f h (u ∷ us) =
      filter_map-append (member_fault_by items) (use_takings known f h u) (flat_map (use_takings known f h) us)
      ∙ ap (λ fs. fs ++ filter_map (member_fault_by items) (flat_map (use_takings known f h) us))
      (names-same f h (module_used u) (not (is_braced (head u).kind)) (names_brought u))
      ∙ ap (λ fs. flat_map (member_faults all) (imports_of u) ++ fs) (uses-same f h us)
      ∙ sym (flat_map-append (member_faults all) (imports_of u) (flat_map imports_of us))

  -- declarations have no such fault
  decls-none : (f h n : ℕ) (ts : List Node) → filter_map (member_fault_by items) (decl_takings f h n ts) ≡ []
  decls-none f h n [] = refl
  decls-none f h n (t ∷ ts) = decls-none f h (n + 1) ts

  pub members-same : (f n : ℕ) (ps : List (List ℕ)) (hs : List ℕ) (ts : List FileTree) → AreHomes known (map module_of ps) hs →
      filter_map (member_fault_by items) (takings known f n hs ts) ≡ flat_map (member_faults all)
      (flat_map (λ s. imports s.tree) (sources ps ts))
  members-same f n [] [] ts h = refl
  members-same f n [] (y ∷ hs) ts h = absurd h
  members-same f n (p ∷ ps) [] ts h = absurd h
  members-same f n (p ∷ ps) (y ∷ hs) [] h = refl
  members-same f n (p ∷ ps) (y ∷ hs) (t ∷ ts) h =
      filter_map-append (member_fault_by items) (flat_map (use_takings known f y) t.uses ++ decl_takings f y n t.decls)
      (takings known (f + 1) (n + length t.decls) hs ts)
      ∙ ap (λ fs. fs ++ filter_map (member_fault_by items) (takings known (f + 1) (n + length t.decls) hs ts))
      (filter_map-append (member_fault_by items) (flat_map (use_takings known f y) t.uses) (decl_takings f y n t.decls)
      ∙ ap (λ fs. filter_map (member_fault_by items) (flat_map (use_takings known f y) t.uses) ++ fs) (decls-none f y n t.decls)
      ∙ append-nil (filter_map (member_fault_by items) (flat_map (use_takings known f y) t.uses)) ∙ uses-same f y t.uses)
      ∙ ap (λ fs. flat_map (member_faults all) (imports t) ++ fs) (members-same (f + 1) (n + length t.decls) ps hs ts h.1)
      ∙ sym (flat_map-append (member_faults all) (imports t) (flat_map (λ s. imports s.tree) (sources ps ts)))
