-- Places and members, in single cases.
use Rattle.std.proofs.Common.{◌≡◌, true, false, codes, refl}
use Rattle.hare_tree.specs.declared.kind.Kind.TheVariants as ki
use Rattle.hare_tree.specs.declared.token.Suffix.TheVariants as suffix
use Rattle.hare_rules.specs.Aggregates.{is_component_number, is_part, is_member_access}
use Rattle.rule_mem.specs.Needs.{leads_by}

-- `.0` and `.00` are components; `.0z`, `.0x0` and `.x` are none
zero_names : is_component_number (codes "0") suffix.None ≡ true
zero_names = refl

zeros_name : is_component_number (codes "00") suffix.None ≡ true
zeros_name = refl

suffixed : is_component_number (codes "0") suffix.Z ≡ false
suffixed = refl

hexadecimal : is_component_number (codes "0x0") suffix.None ≡ false
hexadecimal = refl

name : is_component_number (codes "x") suffix.None ≡ false
name = refl

nothing : is_component_number (codes "") suffix.None ≡ false
nothing = refl

-- what is deleted stands in no parentheses, and a member that is asked for does not either
deleted_part : is_part ki.Paren ≡ false
deleted_part = refl

asked_member : is_member_access ki.Paren ≡ false
asked_member = refl

-- a call is no place, and parentheses are one where what stands in them is
call_leads : leads_by ki.Call true ≡ false
call_leads = refl

parentheses_lead : leads_by ki.Paren true ≡ true
parentheses_lead = refl
