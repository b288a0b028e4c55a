use Rattle.std.proofs.Common.{◌≡◌, [], sym, ap, ◌∙◌, subst, refl, arith}
use Rattle.hare_blocks.specs.Names.{names_of, expr_holds}
use Rattle.hare_blocks.specs.Class.{AreLimited}
use Rattle.hare_blocks.proofs.DeclaredNames.Told.{tell_no_names}
use Rattle.hare_blocks.proofs.file.is_exit_file.Goals as goal

pub returns : goal.returns
returns c =
    let t = tell_no_names c.args.value.now in
    let same : c.expr_holds-2.result ≡ expr_holds [] c.args.value.now =
    c.expr_holds-2.ensures ∙ ap (λ bs. expr_holds (names_of bs) c.args.value.now) c.new.ensures in (
      λ h. record {
        names = t.told (sym same ∙ h);
        limited = subst AreLimited c.requires (c.if-not-is_limited.ensures.0 refl);
        small = omega arith;
      },
      λ h. same ∙ t.tells h.names,
    )
