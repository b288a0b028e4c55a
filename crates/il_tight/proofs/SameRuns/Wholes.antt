-- A function whose blocks have no phis, and the same one with tight blocks.
use Rattle.std.proofs.Common.{◌≡◌, ℕ, Bool, List, [], ◌∷◌, ◌++◌, true, false, refl, sym, ap}
use Rattle.std.proofs.lemmas.Bool.{and_parts}
use Rattle.il_code.specs.declared.types.Block.{Block}
use Rattle.il_code.specs.declared.types.IlParam.{IlParam}
use Rattle.il_code.specs.Machine.{call_cost}
use Rattle.il_code.specs.Rules.{targets_pass}
use Rattle.il_tight.specs.Tight.{staying, unset}
use Rattle.il_tight.proofs.KeptBlocks.Behind.{unset_apart, unset_sealed, unset_zeros}
use Rattle.il_tight.proofs.KeptBlocks.Kept.{kept, tight_is}
use Rattle.il_tight.proofs.SameRuns.Light.{price}
use Rattle.il_tight.proofs.SameRuns.Twins.{Plain, Landing, IsSound, nowhere_lands, block_lands, closed_here, IsWhole}
use Rattle.il_tight.proofs.KeptBlocks.Staying.{first_stays, staying_first, staying_closed}

pub price_is : (params : List IlParam) (bs : List Block) →
    price params bs ≡ call_cost params (kept (staying bs) bs ++ unset params (staying bs) bs)
unfolding price
price_is params bs = ap (call_cost params) (tight_is params bs)

-- the blocks of a function are sound, and control begins at the first of them
opens_at : (stays : List ℕ → Bool) (last bs : List Block) → (bs ≡ [] → last ≡ []) → first_stays stays bs ≡ true → IsSound stays last bs →
    (l l' : List ℕ) → Landing stays l l' bs (kept stays bs ++ last)
opens_at stays last [] n e z l l' = let none = n refl in rw none (nowhere_lands stays l l')
opens_at stays last (b ∷ bs) n e z l l' =
    let k = and_parts (targets_pass stays b.jump) _ (closed_here stays l l' false b bs e z.closed) in
    rw e (block_lands stays l l' last b bs z.plain.0 (record { passes = k.0; closed = k.1; plain = z.plain.1; sealed = z.sealed }))

nothing_unset : (params : List IlParam) (bs : List Block) → bs ≡ [] → unset params (staying bs) bs ≡ []
nothing_unset params [] e = refl
nothing_unset params (b ∷ bs) e = cc

pub is_sound : (params : List IlParam) (bs : List Block) → Plain bs → IsSound (staying bs) (unset params (staying bs) bs) bs
is_sound params bs p = record {
  closed = staying_closed bs;
  plain = p;
  apart = unset_apart params (staying bs) bs;
  sealed = unset_sealed params (staying bs) bs;
}

pub is_whole : (params : List IlParam) (bs : List Block) → Plain bs → IsWhole (staying bs) (unset params (staying bs) bs) params bs
is_whole params bs p = record {
  opens =
      opens_at (staying bs) (unset params (staying bs) bs) bs (nothing_unset params bs) (staying_first bs) (is_sound params bs p);
  first = staying_first bs;
  sound = is_sound params bs p;
  zeros = unset_zeros params (staying bs) bs;
  cost = sym (price_is params bs);
}
