-- One item of data more.
use Rattle.std.proofs.Common.{◌≡◌, ℕ, suc, ◌+◌, ◌-◌, ◌<◌, ◌≤◌, Bool, true, List, [], ◌∷◌, ◌++◌, length, take, drop, get_or, refl, sym, ap, ◌∙◌, subst, arith}
use Rattle.std.specs.Prelude.{max, sum_by}
use Rattle.std.specs.List.{All, flat_map}
use Rattle.std.proofs.lemmas.List.{drop_more, take-append-drop}
use Rattle.std.specs.Ordering.{nat_cmp}
use Rattle.std.specs.BTreeMap.{insert_entry}
use Rattle.hx_base.specs.Memory.{Memory, round_up, write, map_range}
use Rattle.hx_base.specs.Runtime.{data_start}
use Rattle.hx_base.proofs.Memory.Mapped.{all_mapped-map_range_inside}
use Rattle.il_code.specs.declared.types.IlItem.{IlItem}
use Rattle.il_code.specs.declared.types.IlItem.TheVariants.{Data, Function}
use Rattle.il_code.specs.declared.types.Module.{Module}
use Rattle.il_code.specs.declared.types.Part.{Part}
use Rattle.il_code.specs.Addresses.{data_size, part_size, with_data}
use Rattle.il_code.specs.Rules.{IsValid}
use Rattle.il_decode.specs.declared.symbols.Symbol.{Symbol}
use Rattle.il_mem.specs.Kept.{Kept, is_held}
use Rattle.il_mem.specs.Holds.{Holds}
use Rattle.il_load.specs.Data.{Knows, IsFree, PutsItem, address_in, part_in, ranges_with}
use Rattle.il_load.specs.Puts.{Stands, IsReady, PutsBefore}
use Rattle.il_load.specs.Start.{LiesBefore}
use Rattle.il_load.proofs.DataLemmas.{data-append, length-part_in, one_is}
use Rattle.il_load.proofs.PutLemmas.{length-flat}
use Rattle.il_load.proofs.StartLemmas.{before-bare, before-weaker, inserted_all, item_placed}
use Rattle.il_load.proofs.SymbolLemmas.{data_after, data_after-append, own_address}

-- ---- one item, by itself

-- a range that was mapped
pub mapped-stands : (old new : Kept) (m : Memory) (at n : ℕ) → new.held ≡ old.held → (Holds old m → Holds new (map_range m at n)) →
    Stands old m → Stands new (map_range m at n)
mapped-stands old new m at n same holds s = record {
  holds = holds s.holds;
  pages = λ p t. subst (λ h. is_held h p ≡ true) (sym same) (s.pages p t);
}

-- is ready for as many bytes
pub mapped-ready : (new : Kept) (m : Memory) (at n k : ℕ) → k ≤ n → Stands new (map_range m at n) → IsReady new (at + n) k
mapped-ready new m at n k l s = record {
  memory = map_range m at n;
  stands = s;
  room = omega arith;
  mapped = all_mapped-map_range_inside m at n (at + n - k) k (omega arith) (omega arith);
}

pub part-sizes : (table : List (List ℕ × Symbol)) (parts : List Part) → length (flat_map (part_in table) parts) ≡ sum_by part_size parts
part-sizes table parts = length-flat (part_in table) part_size (length-part_in table) parts

-- what is mapped first and written then was written first and mapped then
pub item-written : (m : Memory) (at a : ℕ) (bs : List ℕ) → a + length bs ≡ at + max 1 (length bs) →
    write (map_range m at (max 1 (length bs))) a bs ≡ map_range (write m at bs) at (max 1 (length bs))
item-written m at a [] e = refl
item-written m at a (b ∷ bs) e =
    let whole : max 1 (suc (length bs)) ≡ suc (length bs) = omega arith in
    let same : a ≡ at = omega (arith, e, whole) in
    ap (λ (x : ℕ). write (map_range m at (max 1 (suc (length bs)))) x (b ∷ bs)) same

-- the parts of an item take no more than the item
pub parts-fit : (parts ps ps' : List Part) (size : ℕ) → ps ≡ parts → ps' ≡ parts → size ≡ data_size ps → sum_by part_size ps' ≤ size
parts-fit parts ps ps' size e f g =
    let a = ap (sum_by part_size) e in
    let b = ap (sum_by part_size) f in
    omega (arith, a, b, g)

-- an item that was mapped, and whose parts were put then
pub item-puts : (old mid new : Kept) (table : List (List ℕ × Symbol)) (export : Bool) (name : List ℕ) (align : ℕ) (parts ps ps' : List Part)
    (at a size : ℕ) → ps ≡ parts → ps' ≡ parts → at ≡ address_in table name → size ≡ data_size ps →
    ((m : Memory) → Stands old m → Stands mid (map_range m at size)) → PutsBefore mid new (at + size) (flat_map (part_in table) ps') a →
    PutsItem table old new (Data export name align parts)
item-puts old mid new table export name align parts ps ps' at a size e f here g mapped p m s =
    subst (Stands new) whole (puts.puts.stands (map_range m at size) (mapped m s))
  where
    bs : List ℕ
    bs = flat_map (part_in table) parts

    puts : PutsBefore mid new (at + size) bs a
    puts = subst (λ (xs : List Part). PutsBefore mid new (at + size) (flat_map (part_in table) xs) a) f p

    long : max 1 (length bs) ≡ data_size parts
    long = ap (max 1) (part-sizes table parts)

    size_is : size ≡ max 1 (length bs)
    size_is = g ∙ ap data_size e ∙ sym long

    whole : write (map_range m at size) a bs ≡ map_range (write m (address_in table name) bs) (address_in table name) (data_size parts)
    whole =
        let begin = puts.begin in
        ap (λ (n : ℕ). write (map_range m at n) a bs) size_is ∙ item-written m at a bs (omega (arith, begin, size_is))
        ∙ ap (map_range (write m at bs) at) long
        ∙ ap (λ (x : ℕ). map_range (write m x bs) x (data_size parts)) here

-- ---- one item behind others

module _ (m : Module) (v : IsValid m) (table : List (List ℕ × Symbol)) (knows : Knows m table) where
  -- the first address behind the data of these
  abbrev pub End : List IlItem → ℕ
  End front = data_after data_start front

  module _ (front : List IlItem) (ranges : List (ℕ × ℕ)) (before : All (LiesBefore (End front)) ranges) where
    -- where the item stands, by the table
    here : (export : Bool) (name : List ℕ) (align : ℕ) (parts : List Part) (rest : List IlItem)
        → m.items ≡ front ++ Data export name align parts ∷ rest → address_in table name ≡ round_up (End front) align
    here export name align parts rest e = knows name ∙ own_address m front (Data export name align parts) rest v e

    pub item-free : (i : IlItem) (rest : List IlItem) → m.items ≡ front ++ i ∷ rest → IsFree ranges table i
    item-free (Function export class name params blocks) rest e = tt
    item-free (Data export name align parts) rest e =
        let at = here export name align parts rest e in
        let p = item_placed m v front export name align parts rest e in
        let begins = p.begins in
        let ends = p.ends in (
          before-bare (End front) (address_in table name) (data_size parts) ranges (omega (arith, at, begins)) before,
          omega (arith, at, ends),
        )

    pub item-before : (i : IlItem) (rest : List IlItem) → m.items ≡ front ++ i ∷ rest →
        All (LiesBefore (End (front ++ i ∷ []))) (ranges_with ranges table i)
    item-before (Function export class name params blocks) rest e =
        subst (λ n. All (LiesBefore n) ranges)
        (sym (data_after-append data_start front (Function export class name params blocks ∷ []))) before
    item-before (Data export name align parts) rest e =
        let at = here export name align parts rest e in
        let begins = (item_placed m v front export name align parts rest e).begins in
        let a = address_in table name in
        let size = data_size parts in
        subst (λ n. All (LiesBefore n) (insert_entry nat_cmp ranges a (a + size)))
        (sym (data_after-append data_start front (Data export name align parts ∷ [])))
        (inserted_all (LiesBefore (round_up (End front) align + size)) a (a + size) ranges
        (before-weaker (End front) (round_up (End front) align + size) ranges (omega (arith, begins)) before)
        (record { some = omega arith; below = omega (arith, at) }))

  -- an item among the others
  pub item-split : (k : ℕ) (i : IlItem) → k < length m.items → i ≡ get_or m.items k i → m.items ≡ take k m.items ++ i ∷ drop (k + 1) m.items
  item-split k i l here =
      sym (take-append-drop k m.items)
      ∙ ap (λ xs. take k m.items ++ xs) (drop_more m.items k i l ∙ ap (λ x. x ∷ drop (k + 1) m.items) (sym here))

  pub item-stands : (old mid new : Kept) (front : List IlItem) (i : IlItem)
      → ((memory : Memory) → Stands old memory → Stands mid (with_data m memory front)) → PutsItem table mid new i → (memory : Memory) →
      Stands old memory → Stands new (with_data m memory (front ++ i ∷ []))
  item-stands old mid new front i h puts memory s =
      subst (Stands new)
      (one_is m table knows (with_data m memory front) i ∙ sym (data-append m table knows memory front (i ∷ [])))
      (puts (with_data m memory front) (h memory s))
