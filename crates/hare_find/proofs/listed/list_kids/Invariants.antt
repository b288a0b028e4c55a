use Rattle.std.proofs.Common.{◌≡◌, ◌≤◌, ◌++◌, length, map, drop}
use Rattle.hare_types.specs.Store.{Store}
use Rattle.hare_types.specs.Later.{IsLater}
use Rattle.rule_judge.specs.Grown.{IsGrown}
use Rattle.rule_judge.specs.Turns.{context_in, yields_in}
use Rattle.hare_find.specs.Settling.{option_in}
use Rattle.hare_find.specs.Listed.{listed_each, listed_behind}
use Rattle.hare_find.proofs.listed.list_kids.Given as goal

abbrev pub invariant-loop-i : goal.invariant-loop-i
invariant-loop-i l = record {
  within : l.i ≤ length l.t.kids.now;
  count : l.count ≤ l.i;
  grown : IsGrown l.initial.s l.s;
  rest : (f : Store) → IsLater l.s f → drop l.count l.v.coerce ≡ listed_behind (context_in f l.t) l.i (yields_in l.t);
  done : (f : Store) → IsLater l.s f →
      map option_in l.kids ++ listed_each (context_in f l.t) l.i (drop l.i l.t.kids.now) ≡ listed_each (context_in f l.t) 0 l.t.kids.now;
}
