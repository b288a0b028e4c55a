-- The store grows step by step.
use Rattle.std.proofs.Common.{◌≡◌, ℕ, List, refl, ap, sym, ◌∙◌}
use Rattle.hare_types.specs.declared.row.Row.{Row}
use Rattle.hare_types.specs.Store.{Store, Extends}
use Rattle.hare_types.specs.Sound.{IsStore}
use Rattle.hare_types.specs.Later.{IsLater}
use Rattle.hare_types.proofs.CallerLemmas.{Extends-refl, Extends-trans}
use Rattle.hare_types.proofs.LaterLemmas.{later_here, later_trans}
use Rattle.rule_types.specs.Grown.{IsGrown}

pub grown_here : (s : Store) → IsStore s → IsGrown s s
grown_here s v = record { rest = refl; grows = Extends-refl s; later = later_here s v }

pub grown_trans : (a b c : Store) → IsGrown a b → IsGrown b c → IsGrown a c
grown_trans a b c h k = record {
  rest = by b.names b.rows h.rest;
  grows = Extends-trans a b c h.grows k.grows;
  later = later_trans a b c h.later k.later;
}
  where
    by : (ns : List (List ℕ)) (rs : List Row) → b ≡ record a { names = ns; rows = rs } → c ≡ record a { names = c.names; rows = c.rows }
    by ns rs e = k.rest ∙ ap (λ (s : Store). let t : Store = record s { names = c.names; rows = c.rows } in t) e

-- in types alone
pub grown_rows : (a b : Store) → b ≡ record a { rows = b.rows } → Extends a b → IsLater a b → IsGrown a b
grown_rows a b e g l = record { rest = by b.rows e; grows = g; later = l }
  where
    by : (rs : List Row) → b ≡ record a { rows = rs } → b ≡ record a { names = b.names; rows = b.rows }
    by rs e = e ∙ sym (ap (λ (s : Store). let t : Store = record a { names = s.names; rows = s.rows } in t) e)

-- in names alone
pub grown_names : (a b : Store) → b ≡ record a { names = b.names } → Extends a b → IsLater a b → IsGrown a b
grown_names a b e g l = record { rest = by b.names e; grows = g; later = l }
  where
    by : (ns : List (List ℕ)) → b ≡ record a { names = ns } → b ≡ record a { names = b.names; rows = b.rows }
    by ns e = e ∙ sym (ap (λ (s : Store). let t : Store = record a { names = s.names; rows = s.rows } in t) e)
