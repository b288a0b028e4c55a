use Rattle.std.proofs.Common.{◌≡◌, drop}
use Rattle.std.specs.Prelude.{find}
use Rattle.hare_typed.specs.Folded.{tagged_by_id}
use Rattle.hare_typed.specs.Unions.{has_tag}
use Rattle.hare_const.proofs.payloads.member_tagged.Given as goal

-- what is found of those that are left is found of all
abbrev pub invariant-loop-m : goal.invariant-loop-m
invariant-loop-m l = find (has_tag (tagged_by_id l.s) l.tag) (drop l.m-index l.members) ≡ find (has_tag (tagged_by_id l.s) l.tag) l.members
