-- What is mapped when data and arguments have been put.
use Rattle.std.proofs.Common.{◌≡◌, ℕ, ◌+◌, ◌*◌, ◌≤◌, Bool, true, false, List, [], ◌∷◌, ◌++◌, refl, ap, ◌∙◌, subst, cond, arith}
use Rattle.std.specs.Prelude.{count_by, sum_by, not, nat_le, nat_eq, nat_lt}
use Rattle.std.specs.List.{All, list_all}
use Rattle.std.specs.Ordering.{nat_cmp}
use Rattle.std.specs.BTreeMap.{insert_entry}
use Rattle.std.proofs.lemmas.Bool.{and_parts}
use Rattle.std.proofs.lemmas.Bool.Decides.{nat_tests}
use Rattle.std.proofs.lemmas.List.Sums.{sum_by-cons}
use Rattle.std.proofs.lemmas.List.Elements.{All-nil, All-cons, All-head, All-tail, All-weaker}
use Rattle.hx_base.specs.Memory.{round_up}
use Rattle.hx_base.specs.Runtime.{arguments_start, data_start}
use Rattle.hx_base.proofs.Memory.Numbers.{round_up-reaches}
use Rattle.il_code.specs.declared.types.IlItem.{IlItem}
use Rattle.il_code.specs.declared.types.IlItem.TheVariants.{Data, Function}
use Rattle.il_code.specs.declared.types.Module.{Module}
use Rattle.il_code.specs.declared.types.Part.{Part}
use Rattle.il_code.specs.Addresses.{data_size}
use Rattle.il_code.specs.Rules.{IsValid, is_alignment, item_is_small, is_function, item_size}
use Rattle.il_code.specs.Tokens.{is_identifier}
use Rattle.il_code.specs.Shaped.{is_item, is_part, is_bits, is_shaped, is_lawful}
use Rattle.il_code.proofs.Validates.{valid_is}
use Rattle.il_decode.proofs.RoomLemmas.{alignment, round_up-near, parts_are, below}
use Rattle.il_mem.specs.Kept.{range_has, IsBare}
use Rattle.il_load.specs.Start.{LiesBefore, LiesBelow}
use Rattle.il_load.proofs.SymbolLemmas.{data_after, data_after-append, each-passes}

-- ---- ranges that lie below an address

-- what holds of each range and of a new one
pub inserted_all : (P : ℕ × ℕ → Type 0) (at end : ℕ) (rs : List (ℕ × ℕ)) → All P rs → P (at, end) → All P (insert_entry nat_cmp rs at end)
inserted_all P at end [] h p = All-cons P (at, end) [] p (All-nil P)
inserted_all P at end (r ∷ rs) h p = pick (nat_lt at r.0) (nat_eq at r.0) refl refl (inserted_all P at end rs (All-tail P r rs h) p)
  where
    pick : (t u : Bool) → nat_lt at r.0 ≡ t → nat_eq at r.0 ≡ u → All P (insert_entry nat_cmp rs at end) →
        All P (insert_entry nat_cmp (r ∷ rs) at end)
    pick true u e f on = rw e (All-cons P (at, end) (r ∷ rs) p h)
    pick false true e f on =
        let same : at ≡ r.0 = grind (arith, nat_tests) in
        rw (e, f) (All-cons P (r.0, end) rs (subst (λ (a : ℕ). P (a, end)) same p) (All-tail P r rs h))
    pick false false e f on = rw (e, f) (All-cons P r (insert_entry nat_cmp rs at end) (All-head P r rs h) on)

pub before-weaker : (b c : ℕ) (rs : List (ℕ × ℕ)) → b ≤ c → All (LiesBefore b) rs → All (LiesBefore c) rs
before-weaker b c rs l h =
    All-weaker (LiesBefore b) (LiesBefore c) (λ r k. record { some = k.some; below = let below = k.below in omega arith }) rs h

pub before-below : (rs : List (ℕ × ℕ)) → All (LiesBefore arguments_start) rs → All LiesBelow rs
before-below rs h =
    All-weaker (LiesBefore arguments_start) LiesBelow (λ r k. record { some = k.some; below = let below = k.below in omega arith }) rs h

-- no address from there on is mapped
pub before-bare : (b at n : ℕ) (rs : List (ℕ × ℕ)) → b ≤ at → All (LiesBefore b) rs → IsBare rs at n
before-bare b at n [] l h a f u = refl
before-bare b at n (r ∷ rs) l h a f u =
    let k = All-head (LiesBefore b) r rs h in
    let far : range_has a r ≡ false = (let below = k.below in grind (arith, nat_tests)) in
    rw far (before-bare b at n rs l (All-tail (LiesBefore b) r rs h) a f u)

-- ---- how far the data of a module reaches

-- what all items pass, those behind one do
all-behind : (p : IlItem → Bool) (front : List IlItem) (i : IlItem) (rest : List IlItem) → list_all p (front ++ i ∷ rest) ≡ true →
    list_all p rest ≡ true
all-behind p [] i rest h = (and_parts (p i) (list_all p rest) h).1
all-behind p (j ∷ front) i rest h = all-behind p front i rest (and_parts (p j) (list_all p (front ++ i ∷ rest)) h).1

abbrev Datas : List IlItem → ℕ
Datas items = count_by (λ (i : IlItem). not (is_function i)) items

-- the data of items ends behind where it begins, and not too far
record Reaches (d : ℕ) (items : List IlItem) : Type 0 where
  least : d ≤ data_after d items
  most : data_after d items ≤ d + (16 * Datas items + sum_by item_size items)

reaches : (items : List IlItem) (d : ℕ) → list_all is_item items ≡ true → list_all item_is_small items ≡ true → Reaches d items
reaches [] d shaped small = record { least = omega arith; most = omega arith }
reaches (Function export class name params blocks ∷ items) d shaped small =
    let i : IlItem = Function export class name params blocks in
    let a = and_parts (is_item i) (list_all is_item items) shaped in
    let b = and_parts (item_is_small i) (list_all item_is_small items) small in
    let datas = sum_by-cons (λ (x : IlItem). cond (not (is_function x)) 1 0) i items in
    let sizes = sum_by-cons item_size i items in
    let more = reaches items d a.1 b.1 in
    let least = more.least in
    let most = more.most in
    record { least = omega arith; most = omega arith }
reaches (Data export name align parts ∷ items) d shaped small =
    let i : IlItem = Data export name align parts in
    let a = and_parts (is_item i) (list_all is_item items) shaped in
    let b = and_parts (item_is_small i) (list_all item_is_small items) small in
    let datas = sum_by-cons (λ (x : IlItem). cond (not (is_function x)) 1 0) i items in
    let sizes = sum_by-cons item_size i items in
    let bits = and_parts (is_bits align) (list_all is_part parts) (and_parts (is_identifier name) _ a.0).1 in
    let same_size = parts_are parts bits.1 in
    let al = alignment align (and_parts (is_alignment align) _ b.0).0 in
    let near = round_up-near d align al.some in
    let far = round_up-reaches d align al.some in
    let few = al.few in
    let more = reaches items (round_up d align + data_size parts) a.1 b.1 in
    let least = more.least in
    let most = more.most in
    record { least = omega arith; most = omega arith }

module _ (m : Module) (v : IsValid m) where
  shaped-items : list_all is_item m.items ≡ true
  unfolding is_shaped
  shaped-items = (and_parts (is_shaped m) (is_lawful m.items) ((valid_is m).1 v)).0

  -- the data of a valid module ends where the arguments begin, or before
  pub data-ends : data_after data_start m.items ≤ arguments_start
  data-ends =
      let s = v.lawful.small in
      let a = and_parts (nat_le (count_by is_function m.items) 268435456) _ s in
      let b = and_parts (nat_le (Datas m.items) 1073741824) (nat_le (sum_by item_size m.items) 1073741824) a.1 in
      let datas = below (Datas m.items) 1073741824 b.0 in
      let sizes = below (sum_by item_size m.items) 1073741824 b.1 in
      let reach = (reaches m.items data_start shaped-items v.lawful.numbers).most in
      omega arith

  -- an item of data behind some others begins behind them, and ends where the arguments begin, or before
  pub record Placed (front : List IlItem) (align : ℕ) (parts : List Part) : Type 0 where
    pub begins : data_after data_start front ≤ round_up (data_after data_start front) align
    pub ends : round_up (data_after data_start front) align + data_size parts ≤ arguments_start

  pub item_placed : (front : List IlItem) (export : Bool) (name : List ℕ) (align : ℕ) (parts : List Part) (rest : List IlItem) →
      m.items ≡ front ++ Data export name align parts ∷ rest → Placed front align parts
  item_placed front export name align parts rest e = record {
    begins = round_up-reaches d align (alignment align (and_parts (is_alignment align) _ small).0).some;
    ends = let a = behind.least in let b = data-ends in let c = whole in omega arith;
  }
    where
      i : IlItem
      i = Data export name align parts

      d : ℕ
      d = data_after data_start front

      small : item_is_small i ≡ true
      small = each-passes item_is_small front i rest (subst (λ items. list_all item_is_small items ≡ true) e v.lawful.numbers)

      whole : data_after data_start m.items ≡ data_after (round_up d align + data_size parts) rest
      whole = ap (data_after data_start) e ∙ data_after-append data_start front (i ∷ rest)

      behind : Reaches (round_up d align + data_size parts) rest
      behind = reaches rest (round_up d align + data_size parts)
          (all-behind is_item front i rest (subst (λ items. list_all is_item items ≡ true) e shaped-items))
          (all-behind item_is_small front i rest (subst (λ items. list_all item_is_small items ≡ true) e v.lawful.numbers))
