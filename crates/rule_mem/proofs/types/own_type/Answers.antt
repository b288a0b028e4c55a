use Rattle.std.proofs.Common.{[], ◌∷◌, refl, ap, sym, ◌∙◌}
use Rattle.hare_tree.specs.Node.{head}
use Rattle.hare_tree.specs.declared.kind.Kind.TheVariants as ki
use Rattle.hare_types.proofs.LaterLemmas.{later_here}
use Rattle.hare_typed.specs.Order.{tree_from_front}
use Rattle.hare_rules.specs.declared.row_id.RowId.TheVariants as row
use Rattle.rule_judge.specs.Settings.{setting_of}
use Rattle.rule_judge.specs.Turns.{context_in}
use Rattle.rule_mem.proofs.OwnLemmas.{first_met, third_met, place_form}
use Rattle.rule_mem.proofs.types.own_type.Goals as goal

pub address_type-requires-clause-typed : goal.address_type-requires-clause-typed
address_type-requires-clause-typed c =
    let h = later_here c.args.s.now c.declarations-law.ensures.sound in
    let kind = sym (ap (λ n. (head n).kind) c.node.view_is) ∙ c.in-Addr.is in
    c.requires.needs.typed
    (place_form (setting_of c.args.s.now c.args.t.now.decls.now) (tree_from_front 0 c.args.t.now.kids.now)
    (first_met (context_in c.args.s.now c.args.t.now) ki.Addr row.AddrPlace (row.AddrMutable ∷ []) kind refl
    (c.requires.rows c.args.s.now h)))

pub member_type-requires-clause-met : goal.member_type-requires-clause-met
member_type-requires-clause-met c f l =
    first_met (context_in f c.args.t.now) ki.Field row.FieldMember [] (sym (ap (λ n. (head n).kind) c.node.view_is) ∙ c.in-Field.is) refl
    (c.requires.rows f l)

pub index_type-requires-clause-met : goal.index_type-requires-clause-met
index_type-requires-clause-met c f l =
    first_met (context_in f c.args.t.now) ki.Index row.IndexIndexable [] (sym (ap (λ n. (head n).kind) c.node.view_is) ∙ c.in-Index.is) refl
    (c.requires.rows f l)

pub slice_type-requires-clause-met : goal.slice_type-requires-clause-met
slice_type-requires-clause-met c f l =
    first_met (context_in f c.args.t.now) ki.Slice row.SliceIndexable [] (sym (ap (λ n. (head n).kind) c.node.view_is) ∙ c.in-Slice.is) refl
    (c.requires.rows f l)

pub alloc_type-requires-clause-sequence : goal.alloc_type-requires-clause-sequence
alloc_type-requires-clause-sequence c f l =
    third_met (context_in f c.args.t.now) ki.Alloc row.AllocDefault row.AllocHasSize row.AllocSequence []
    (sym (ap (λ n. (head n).kind) c.node.view_is) ∙ c.in-Alloc.is) refl
    (c.requires.rows f l)

pub tuple_type-requires-clause-met : goal.tuple_type-requires-clause-met
tuple_type-requires-clause-met c f l =
    first_met (context_in f c.args.t.now) ki.Tuple row.TupleDefaults (row.TupleHasSize ∷ row.TupleSmall ∷ [])
    (sym (ap (λ n. (head n).kind) c.node.view_is) ∙ c.in-Tuple.is) refl (c.requires.rows f l)

pub array_type-requires-clause-met : goal.array_type-requires-clause-met
array_type-requires-clause-met c f l =
    first_met (context_in f c.args.t.now) ki.Array row.ArrayFirstDefault (row.ArrayLong ∷ row.ArrayHasSize ∷ row.ArraySmall ∷ [])
    (sym (ap (λ n. (head n).kind) c.node.view_is) ∙ c.in-Array.is) refl
    (c.requires.rows f l)
