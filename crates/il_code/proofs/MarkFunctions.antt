-- The tokens of functions and data are unmarked exactly where these keep the rules.
use Rattle.std.proofs.Common.{◌≡◌, ℕ, suc, List, [], ◌∷◌, ◌++◌, Option, None, Some, Bool, true, false, ◌&&◌, ◌||◌, not, ◌==◌, length, bytes_eq, refl, sym, ap, ◌∙◌, arith, tests, append-nil}
use Rattle.std.specs.Prelude.{map}
use Rattle.std.specs.List.{list_all, list_any, flat_map, filter_map}
use Rattle.std.proofs.Math.Bool.{and-true}
use Rattle.std.proofs.lemmas.Bool.Decides.{nat_tests}
use Rattle.std.proofs.lemmas.List.Folds.{list_all-append, list_all-map}
use Rattle.std.proofs.lemmas.List.Elements.{filter_map-append}
use Rattle.hx_base.specs.declared.Class.{Class}
use Rattle.il_code.specs.declared.types.IlItem.{IlItem}
use Rattle.il_code.specs.declared.types.IlItem.TheVariants.{Data, Function}
use Rattle.il_code.specs.declared.types.Part.{Part}
use Rattle.il_code.specs.declared.types.Part.TheVariants.{Values, Zero}
use Rattle.il_code.specs.declared.types.PartValue.{PartValue}
use Rattle.il_code.specs.declared.types.PartValue.TheVariants as part
use Rattle.il_code.specs.declared.types.IlParam.{IlParam}
use Rattle.il_code.specs.declared.types.Block.{Block}
use Rattle.il_code.specs.declared.types.Phi.{Phi}
use Rattle.il_code.specs.declared.types.Inst.{Inst}
use Rattle.il_code.specs.declared.types.Inst.TheVariants.{Set, Store, Blit, Call}
use Rattle.il_code.specs.Rules.{item_name, are_distinct, has_named, has_own_names, is_reserved, block_labels_known, start_is_no_target, phis_are_placed, other_class, sets, inst_sets, block_sets, is_set, has_one_class, inst_has_one_class, block_has_one_class, each_has_one_class, block_is_right, part_value_is_right, part_is_right, is_main_right, flow_is_right, item_is_right}
use Rattle.il_code.specs.Loose.{PhiLine, InstLine, LooseBlock, LooseItem, phi_of, inst_of, settled_block, settled_item, settled, loose_block, loose_item, loose}
use Rattle.il_code.specs.Marks.{when, each_behind, line_sets, all_set, block_marks, param_marks, part_value_marks, part_marks, loose_name, definition_marks, loose_item_marks, marks}
use Rattle.il_code.specs.MarkLaws.{is_clean}
use Rattle.il_code.proofs.MarkLists.{same_when, not-or, not-not, list_all-same, list_all-and, list_all-flat_map, list_any-append, all_behind, all_behind-each, all_behind-same, all_behind-and, all_behind-plain, all_behind-map, is_clean-when, is_clean-unless, is_clean-append, is_clean-whens}
use Rattle.il_code.proofs.MarkNames.{is_as_first, one_class, distinct_before}
use Rattle.il_code.proofs.MarkTokens.{clear}
use Rattle.il_code.proofs.MarkBlocks.{list_any-map, passes_start, phis_placed, keeps, clear-block}

-- ---- what is read is the module

phis_of_insts : (insts : List Inst) → filter_map phi_of (map (λ i. InstLine i) insts) ≡ []
phis_of_insts [] = refl
phis_of_insts (i ∷ insts) = phis_of_insts insts

phis_of_phis : (phis : List Phi) → filter_map phi_of (map (λ p. PhiLine p) phis) ≡ phis
phis_of_phis [] = refl
phis_of_phis (p ∷ phis) = ap (λ z. p ∷ z) (phis_of_phis phis)

insts_of_phis : (phis : List Phi) → filter_map inst_of (map (λ p. PhiLine p) phis) ≡ []
insts_of_phis [] = refl
insts_of_phis (p ∷ phis) = insts_of_phis phis

insts_of_insts : (insts : List Inst) → filter_map inst_of (map (λ i. InstLine i) insts) ≡ insts
insts_of_insts [] = refl
insts_of_insts (i ∷ insts) = ap (λ z. i ∷ z) (insts_of_insts insts)

settled-block : (b : Block) → settled_block (loose_block b) ≡ b
settled-block b =
    let ps : filter_map phi_of (loose_block b).lines ≡ b.phis =
    filter_map-append phi_of (map (λ p. PhiLine p) b.phis) (map (λ i. InstLine i) b.insts) ∙ rw
    (phis_of_phis b.phis, phis_of_insts b.insts) (append-nil b.phis) in
    let is : filter_map inst_of (loose_block b).lines ≡ b.insts =
    filter_map-append inst_of (map (λ p. PhiLine p) b.phis) (map (λ i. InstLine i) b.insts) ∙ rw
    (insts_of_phis b.phis, insts_of_insts b.insts) refl in
    rw (ps, is) refl

settled-blocks : (bs : List Block) → map settled_block (map loose_block bs) ≡ bs
settled-blocks [] = refl
settled-blocks (b ∷ bs) = rw (settled-block b, settled-blocks bs) refl

settled-item : (i : IlItem) → settled_item (loose_item i) ≡ i
settled-item (Data export name align parts) = refl
settled-item (Function export class name params blocks) = rw (settled-blocks blocks) refl

pub settled-loose : (items : List IlItem) → settled (loose items) ≡ items
settled-loose [] = refl
settled-loose (i ∷ items) = rw (settled-item i, settled-loose items) refl

-- ---- phis and jumps of all blocks

no_phis : (phis : List Phi) → list_all (λ p. false) phis ≡ (length phis == 0)
no_phis [] = refl
no_phis (p ∷ phis) = sym (none_more (length phis))
  where
    none_more : (n : ℕ) → (suc n == 0) ≡ false
    none_more n = grind (arith, nat_tests)

behind_first : {A : Type 0} (q : Bool → A → Bool) (y : A) (ys zs : List A) →
    all_behind (λ b x. q (length b == 0) x) (y ∷ ys) zs ≡ list_all (q false) zs
behind_first q y ys [] = refl
behind_first q y ys (z ∷ zs) = rw (none_more (length ys), behind_first q y (ys ++ z ∷ []) zs) refl
  where
    none_more : (n : ℕ) → (suc n == 0) ≡ false
    none_more n = grind (arith, nat_tests)

placed-blocks : (items : List IlItem) (params sets : List IlParam) (blocks : List Block) →
    all_behind (λ b x. phis_placed items params blocks sets (length b == 0) x) [] blocks ≡ phis_are_placed blocks
placed-blocks items params sets [] = refl
placed-blocks items params sets (first ∷ rest) =
    rw (no_phis first.phis, behind_first (phis_placed items params (first ∷ rest) sets) first [] rest) refl

passing-blocks : (items : List IlItem) (params sets : List IlParam) (blocks : List Block) →
    list_all (passes_start items params blocks sets) blocks ≡ start_is_no_target blocks
passing-blocks items params sets [] = refl
passing-blocks items params sets (first ∷ rest) = refl

-- ---- what a function sets

list_any-flat_map : {A B : Type 0} (p : B → Bool) (f : A → List B) (xs : List A) →
    list_any p (flat_map f xs) ≡ list_any (λ x. list_any p (f x)) xs
list_any-flat_map p f [] = refl
list_any-flat_map p f (x ∷ xs) = list_any-append p (f x) (flat_map f xs) ∙ ap (λ b. list_any p (f x) || b) (list_any-flat_map p f xs)

list_any-same : {A : Type 0} (p q : A → Bool) → ((x : A) → p x ≡ q x) → (xs : List A) → list_any p xs ≡ list_any q xs
list_any-same p q h [] = refl
list_any-same p q h (x ∷ xs) = rw (h x, list_any-same p q h xs) refl

or-none : (a : Bool) → (a || false) ≡ a
or-none true = refl
or-none false = refl

-- a test of all that a function sets
abbrev set_lines : (IlParam → Bool) → Block → Bool
set_lines F b = list_all (λ p. list_all F (line_sets (PhiLine p))) b.phis && list_all (λ i. list_all F (line_sets (InstLine i))) b.insts

all_lines : (F : IlParam → Bool) (b : Block) → list_all F (flat_map line_sets (loose_block b).lines) ≡ set_lines F b
all_lines F b =
    list_all-flat_map F line_sets (loose_block b).lines
    ∙ list_all-append (λ l. list_all F (line_sets l)) (map (λ p. PhiLine p) b.phis) (map (λ i. InstLine i) b.insts)
    ∙ rw (
      list_all-map (λ l. list_all F (line_sets l)) (λ p. PhiLine p) b.phis,
      list_all-map (λ l. list_all F (line_sets l))
          (λ i. InstLine i) b.insts,
    ) refl

all_of_set : (F : IlParam → Bool) (params : List IlParam) (bs : List Block) →
    list_all F (all_set params (map loose_block bs)) ≡ (list_all F params && list_all (set_lines F) bs)
all_of_set F params bs =
    list_all-append F params (flat_map (λ (b : LooseBlock). flat_map line_sets b.lines) (map loose_block bs))
    ∙ ap (λ z. list_all F params && z)
    (list_all-flat_map F (λ (b : LooseBlock). flat_map line_sets b.lines) (map loose_block bs)
    ∙ list_all-map (λ (b : LooseBlock). list_all F (flat_map line_sets b.lines)) loose_block bs
    ∙ list_all-same (λ b. list_all F (flat_map line_sets (loose_block b).lines)) (set_lines F) (all_lines F) bs)

any_phis : (name : List ℕ) (c : Class) (p : Phi) →
    list_any (λ (q : IlParam). sets name c q.name q.class) (line_sets (PhiLine p)) ≡ sets name c p.temp p.class
any_phis name c p = or-none _

any_insts : (name : List ℕ) (c : Class) (i : Inst) →
    list_any (λ (q : IlParam). sets name c q.name q.class) (line_sets (InstLine i)) ≡ inst_sets name c i
any_insts name c (Set temp class op a b) = or-none _
any_insts name c (Store width value at) = refl
any_insts name c (Blit from to bytes) = refl
any_insts name c (Call None target args) = refl
any_insts name c (Call (Some p) target args) = or-none _

any_lines : (name : List ℕ) (c : Class) (b : Block) →
    list_any (λ (q : IlParam). sets name c q.name q.class) (flat_map line_sets (loose_block b).lines) ≡ block_sets name c b
any_lines name c b =
    list_any-flat_map (λ (q : IlParam). sets name c q.name q.class) line_sets (loose_block b).lines
    ∙ list_any-append (λ l. list_any (λ (q : IlParam). sets name c q.name q.class) (line_sets l)) (map (λ p. PhiLine p) b.phis)
    (map (λ i. InstLine i) b.insts)
    ∙ rw (
      list_any-map (λ l. list_any (λ (q : IlParam). sets name c q.name q.class) (line_sets l)) (λ p. PhiLine p) b.phis,
      list_any-map
          (λ l. list_any (λ (q : IlParam). sets name c q.name q.class) (line_sets l)) (λ i. InstLine i) b.insts,
      list_any-same _
          (λ (p : Phi). sets name c p.temp p.class) (any_phis name c) b.phis,
      list_any-same _ (inst_sets name c) (any_insts name c) b.insts,
    )
    refl

any_of_set : (name : List ℕ) (c : Class) (params : List IlParam) (bs : List Block) →
    list_any (λ (q : IlParam). sets name c q.name q.class) (all_set params (map loose_block bs)) ≡ is_set params bs name c
any_of_set name c params bs =
    list_any-append (λ (q : IlParam). sets name c q.name q.class) params
    (flat_map (λ (b : LooseBlock). flat_map line_sets b.lines) (map loose_block bs))
    ∙ ap (λ z. list_any (λ (q : IlParam). sets name c q.name q.class) params || z)
    (list_any-flat_map (λ (q : IlParam). sets name c q.name q.class) (λ (b : LooseBlock). flat_map line_sets b.lines) (map loose_block bs)
    ∙ list_any-map (λ (b : LooseBlock). list_any (λ (q : IlParam). sets name c q.name q.class) (flat_map line_sets b.lines)) loose_block bs
    ∙ list_any-same (λ b. list_any (λ (q : IlParam). sets name c q.name q.class) (flat_map line_sets (loose_block b).lines))
    (block_sets name c) (any_lines name c) bs)

module _ (params : List IlParam) (bs : List Block) where
  abbrev of_one_class : IlParam → Bool
  of_one_class p = has_one_class params bs p.name p.class

  one_inst : (i : Inst) → list_all of_one_class (line_sets (InstLine i)) ≡ inst_has_one_class params bs i
  one_inst (Set temp class op a b) = and-true _
  one_inst (Store width value at) = refl
  one_inst (Blit from to bytes) = refl
  one_inst (Call None target args) = refl
  one_inst (Call (Some p) target args) = and-true _

  one_block : (b : Block) → set_lines of_one_class b ≡ block_has_one_class params bs b
  one_block b = rw (
    list_all-same (λ p. list_all of_one_class (line_sets (PhiLine p))) (λ (p : Phi). has_one_class params bs p.temp p.class)
        (λ p. and-true _) b.phis,
    list_all-same (λ i. list_all of_one_class (line_sets (InstLine i))) (inst_has_one_class params bs) one_inst
        b.insts,
  ) refl

  -- each temporary is set as the first time, exactly where each has one class
  one_class_is : (list_all (is_as_first (all_set params (map loose_block bs))) params && list_all
      (set_lines (is_as_first (all_set params (map loose_block bs)))) bs) ≡ each_has_one_class params bs
  one_class_is =
      sym (all_of_set (is_as_first (all_set params (map loose_block bs))) params bs)
      ∙ one_class (all_set params (map loose_block bs))
      ∙ list_all-same _ of_one_class (λ p. ap not (any_of_set p.name (other_class p.class) params bs)) (all_set params (map loose_block bs))
      ∙ all_of_set of_one_class params bs
      ∙ ap (λ z. list_all of_one_class params && z) (list_all-same (set_lines of_one_class) (block_has_one_class params bs) one_block bs)

-- ---- parameters and blocks

clear-params : (all params : List IlParam) →
    clear (each_behind (param_marks all) [] params) ≡ (are_distinct (λ (p : IlParam). p.name) params && list_all (is_as_first all) params)
clear-params all params =
    all_behind-each is_clean (param_marks all) [] params
    ∙ all_behind-same _ (λ b p. not (has_named (λ (x : IlParam). x.name) p.name b) && is_as_first all p) one [] params
    ∙ all_behind-and (λ b p. not (has_named (λ (x : IlParam). x.name) p.name b)) (λ b p. is_as_first all p) [] params
    ∙ rw (distinct_before (λ (x : IlParam). x.name) params, all_behind-plain (is_as_first all) [] params) refl
  where
    one : (b : List IlParam) (p : IlParam) →
        clear (param_marks all b p) ≡ (not (has_named (λ (x : IlParam). x.name) p.name b) && is_as_first all p)
    one b p = and-true _ ∙ is_clean-whens (has_named (λ (x : IlParam). x.name) p.name b) (not (is_as_first all p)) 5 8 ∙ ap
        (λ z. not (has_named (λ (x : IlParam). x.name) p.name b) && z) (not-not (is_as_first all p))

module _ (items : List IlItem) (params sets : List IlParam) (bs : List Block) (class : Option Class) where
  split_keeps : all_behind (λ b x. keeps items params bs sets class (length b == 0) x) [] bs ≡
      (list_all (set_lines (is_as_first sets)) bs &&
      (list_all (block_labels_known bs) bs &&
      (start_is_no_target bs && (phis_are_placed bs && list_all (block_is_right items params bs class) bs))))
  split_keeps =
      all_behind-and (λ b x. set_lines (is_as_first sets) x)
      (λ b x. block_labels_known bs x &&
      (passes_start items params bs sets x &&
      (phis_placed items params bs sets (length b == 0) x && block_is_right items params bs class x))) [] bs
      ∙ rw (
        all_behind-and (λ b x. block_labels_known bs x)
            (λ b x. passes_start items params bs sets x &&
            (phis_placed items params bs sets (length b == 0) x && block_is_right items params bs class x)) [] bs,
        all_behind-and (λ b x. passes_start items params bs sets x)
            (λ b x. phis_placed items params bs sets (length b == 0) x && block_is_right items params bs class x) [] bs,
        all_behind-and (λ b x. phis_placed items params bs sets (length b == 0) x) (λ b x. block_is_right items params bs class x) [] bs,
        all_behind-plain (set_lines (is_as_first sets)) [] bs,
        all_behind-plain (block_labels_known bs) [] bs,
        all_behind-plain (passes_start items params bs sets) [] bs,
        all_behind-plain (block_is_right items params bs class) [] bs,
        placed-blocks items params sets bs,
        passing-blocks items params sets bs,
      ) refl

  clear-blocks : clear (each_behind (block_marks items class params bs sets) [] (map loose_block bs)) ≡
      (are_distinct (λ (b : Block). b.label) bs &&
      (list_all (set_lines (is_as_first sets)) bs &&
      (list_all (block_labels_known bs) bs &&
      (start_is_no_target bs && (phis_are_placed bs && list_all (block_is_right items params bs class) bs)))))
  clear-blocks =
      all_behind-each is_clean (block_marks items class params bs sets) [] (map loose_block bs)
      ∙ all_behind-map loose_block (λ b x. clear (block_marks items class params bs sets b x)) [] bs
      ∙ all_behind-same _ (λ b x. not (has_named (λ (y : Block). y.label) x.label b) && keeps items params bs sets class (length b == 0) x)
      (clear-block items params bs sets class) [] bs
      ∙ all_behind-and (λ b x. not (has_named (λ (y : Block). y.label) x.label b))
      (λ b x. keeps items params bs sets class (length b == 0) x) [] bs
      ∙ rw (distinct_before (λ (y : Block). y.label) bs, split_keeps) refl

-- ---- items

shuffle : (d r m p f l o k n a g : Bool) → (((d && r) && m) && ((p && f) && (l && (o && (k && (n && (a && g))))))) ≡
    (d && ((r && (p && l)) && ((k && (n && a)) && (m && ((f && o) && g)))))
shuffle d r m p f l o k n a g = same_when _ _ (λ x. grind (arith, tests)) (λ x. grind (arith, tests))

data_shuffle : (d r g : Bool) → ((d && r) && g) ≡ (d && (r && (true && g)))
data_shuffle true r g = refl
data_shuffle false r g = refl

clear-part_value : (items : List IlItem) (width : ℕ) (v : PartValue) →
    clear (part_value_marks items width v) ≡ part_value_is_right items width v
clear-part_value items width (part.Number n) = refl
clear-part_value items width (part.Str s) = and-true _ ∙ is_clean-unless (width == 1) 8
clear-part_value items width (part.Symbol s n) =
    and-true _ ∙ is_clean-whens (not (width == 8)) (not (has_named item_name s items)) 8 9 ∙ rw
    (not-not (width == 8), not-not (has_named item_name s items)) refl

clear-part : (items : List IlItem) (p : Part) → clear (part_marks items p) ≡ part_is_right items p
clear-part items (Values width values) = list_all-flat_map is_clean (part_value_marks items width) values ∙ list_all-same _
    (part_value_is_right items width) (clear-part_value items width) values
clear-part items (Zero n) = refl

-- what an item must keep beside a name of its own
abbrev stands : List IlItem → IlItem → Bool
stands items i = has_own_names i && (flow_is_right i && item_is_right items i)

same_name : (name : List ℕ) (i : IlItem) → bytes_eq (loose_name (loose_item i)) name ≡ bytes_eq (item_name i) name
same_name name (Data export n align parts) = refl
same_name name (Function export class n params blocks) = refl

named_before : (name : List ℕ) (before : List IlItem) → has_named loose_name name (map loose_item before) ≡ has_named item_name name before
named_before name before = list_any-map (λ (x : LooseItem). bytes_eq (loose_name x) name) loose_item before ∙ list_any-same _
    (λ (x : IlItem). bytes_eq (item_name x) name) (same_name name) before

clear-item : (items before : List IlItem) (i : IlItem) →
    clear (loose_item_marks items (map loose_item before) (loose_item i)) ≡
    (not (has_named item_name (item_name i) before) && stands items i)
clear-item items before (Data export name align parts) =
    rw (
      is_clean-when (has_named loose_name name (map loose_item before) || is_reserved name) 5,
      named_before name before,
      not-or
          (has_named item_name name before) (is_reserved name),
      list_all-flat_map is_clean (part_marks items) parts,
      list_all-same
          (λ p. list_all is_clean (part_marks items p)) (part_is_right items) (clear-part items) parts,
    )
    (data_shuffle (not (has_named item_name name before)) (not (is_reserved name)) (list_all (part_is_right items) parts))
clear-item items before (Function export class name params blocks) =
    rw (
      settled-blocks blocks,
      is_clean-append (definition_marks (map loose_item before) name) (when (not (is_main_right name class params)) 8),
      is_clean-when (has_named loose_name name (map loose_item before) || is_reserved name) 5,
      is_clean-unless (is_main_right name class params) 8,
      named_before name before,
      not-or (has_named item_name name before) (is_reserved name),
      list_all-append is_clean (each_behind (param_marks (all_set params (map loose_block blocks))) [] params)
          (each_behind (block_marks items class params blocks (all_set params (map loose_block blocks))) [] (map loose_block blocks)),
      clear-params (all_set params (map loose_block blocks)) params,
      clear-blocks items params (all_set params (map loose_block blocks)) blocks class,
    )
    (shuffle (not (has_named item_name name before)) (not (is_reserved name)) (is_main_right name class params)
    (are_distinct (λ (p : IlParam). p.name) params) (list_all (is_as_first (all_set params (map loose_block blocks))) params)
    (are_distinct (λ (b : Block). b.label) blocks) (list_all (set_lines (is_as_first (all_set params (map loose_block blocks)))) blocks)
    (list_all (block_labels_known blocks) blocks) (start_is_no_target blocks) (phis_are_placed blocks)
    (list_all (block_is_right items params blocks class) blocks)
    ∙ ap (λ z. not (has_named item_name name before) &&
    ((not (is_reserved name) && (are_distinct (λ (p : IlParam). p.name) params && are_distinct (λ (b : Block). b.label) blocks)) &&
    ((list_all (block_labels_known blocks) blocks && (start_is_no_target blocks && phis_are_placed blocks)) &&
    (is_main_right name class params && (z && list_all (block_is_right items params blocks class) blocks)))))
    (one_class_is params blocks))

-- no token of a module is marked, exactly where the rules on its tokens are kept
pub clear-module : (items : List IlItem) → clear (marks (loose items)) ≡
    (are_distinct item_name items && (list_all has_own_names items &&
    (list_all flow_is_right items && list_all (item_is_right items) items)))
clear-module items =
    ap (λ all. clear (each_behind (loose_item_marks all) [] (loose items))) (settled-loose items)
    ∙ all_behind-each is_clean (loose_item_marks items) [] (loose items)
    ∙ all_behind-map loose_item (λ b x. clear (loose_item_marks items b x)) [] items
    ∙ all_behind-same _ (λ b x. not (has_named item_name (item_name x) b) && stands items x) (clear-item items) [] items
    ∙ all_behind-and (λ b x. not (has_named item_name (item_name x) b)) (λ b x. stands items x) [] items
    ∙ rw (
      distinct_before item_name items,
      all_behind-plain (stands items) [] items,
      list_all-and has_own_names
          (λ i. flow_is_right i && item_is_right items i) items,
      list_all-and flow_is_right (item_is_right items) items,
    ) refl
