use Rattle.std.proofs.Common.{rules, ◌≡◌, Some, nat_eq, sym, ◌∙◌, subst, ap}
use Rattle.std.specs.Prelude.{find, option_copied}
use denote.Enum.Bare.{same_true}
use Rattle.hare_tree.specs.declared.kind.Kind.TheVariants as ki
use Rattle.hare_tree.specs.contracts.kind.Kind.{the_type}
use Rattle.rule_types.specs.Known.{IsTypeMeant, IsDefinedMeaning}
use Rattle.hare_check.proofs.Walks.Steps.{name-known, name-sized}
use Rattle.hare_check.proofs.known.is_known_type.Goals as goal

pub returns-in-Some-clause-defined : goal.returns-in-Some-clause-defined
returns-in-Some-clause-defined c same s p h =
    let kind : c.in-Some.d.now.kind ≡ ki.TypeDecl = same_true the_type (search rules) _ _ (sym c.eq.ensures ∙ same) in
    let found : find (λ d. nat_eq d.decl c.in-Decl.n) c.args.decls.now ≡ Some c.in-Some.d.now =
    sym c.find.ensures ∙ ap option_copied c.in-Some.is in
    subst (IsDefinedMeaning s) (sym c.in-Decl.is) (name-known s c.args.decls.now c.in-Decl.n c.in-Some.d.now found kind h)

pub returns-in-Some-clause-meant : goal.returns-in-Some-clause-meant
returns-in-Some-clause-meant c same s v p h =
    let kind : c.in-Some.d.now.kind ≡ ki.TypeDecl = same_true the_type (search rules) _ _ (sym c.eq.ensures ∙ same) in
    let found : find (λ d. nat_eq d.decl c.in-Decl.n) c.args.decls.now ≡ Some c.in-Some.d.now =
    sym c.find.ensures ∙ ap option_copied c.in-Some.is in
    subst (IsTypeMeant s) (sym c.in-Decl.is)
    (name-sized s v c.in-Decl.n (name-known s c.args.decls.now c.in-Decl.n c.in-Some.d.now found kind h))
