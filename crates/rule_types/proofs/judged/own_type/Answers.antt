use Rattle.std.proofs.Common.{ap, sym, ◌∙◌}
use Rattle.std.proofs.lemmas.Result.{IfOk-weaker}
use Rattle.hare_tree.specs.Node.{head}
use Rattle.rule_types.proofs.DefinedShapes.{first_defined, parts_defined_struct, members_defined_union, second_defined}
use Rattle.rule_types.proofs.ShapeLemmas.{word_listed, pointer_known, nullable_known, slice_known, error_known, array_known, struct_known, tuple_known, union_known}
use Rattle.rule_types.proofs.judged.own_type.Goals as goal

pub scalar-requires : goal.scalar-requires
scalar-requires c = word_listed c.requires.told.shaped.0 c.args.t.now.node.now c.requires.told.shaped.1
    (sym (ap (λ n. (head n).kind) c.node.view_is) ∙ c.in-TypeScalar.is)

pub pointer-requires : goal.pointer-requires
pointer-requires c =
    pointer_known c.args.s.now c.requires.told.shaped.0 c.args.t.now.node.now c.args.t.now.kids.now c.requires.told.shaped.1
    c.requires.told.kids c.requires.told.parts
    (sym (ap (λ n. (head n).kind) c.node.view_is) ∙ c.in-TypePointer.is)

pub nullable-requires : goal.nullable-requires
nullable-requires c =
    nullable_known c.args.s.now c.requires.told.shaped.0 c.args.t.now.node.now c.args.t.now.kids.now c.requires.told.shaped.1
    c.requires.told.kids c.requires.told.parts
    (sym (ap (λ n. (head n).kind) c.node.view_is) ∙ c.in-TypeNullable.is)

pub error-requires : goal.error-requires
error-requires c =
    error_known c.args.s.now c.requires.told.shaped.0 c.args.t.now.node.now c.args.t.now.kids.now c.requires.told.shaped.1
    c.requires.told.kids c.requires.told.parts
    (sym (ap (λ n. (head n).kind) c.node.view_is) ∙ c.in-TypeError.is)

pub slice-requires : goal.slice-requires
slice-requires c =
    slice_known c.args.s.now c.requires.told.shaped.0 c.args.t.now.node.now c.args.t.now.kids.now c.requires.told.shaped.1
    c.requires.told.kids c.requires.told.parts
    (sym (ap (λ n. (head n).kind) c.node.view_is) ∙ c.in-TypeSlice.is)

pub structure-requires : goal.structure-requires
structure-requires c =
    struct_known c.args.s.now c.requires.told.shaped.0 c.args.t.now.node.now c.args.t.now.kids.now c.requires.told.shaped.1
    c.requires.told.kids c.requires.told.parts
    (sym (ap (λ n. (head n).kind) c.node.view_is) ∙ c.in-TypeStruct.is)

pub tuple-requires : goal.tuple-requires
tuple-requires c =
    tuple_known c.args.s.now c.requires.told.shaped.0 c.args.t.now.node.now c.args.t.now.kids.now c.requires.told.shaped.1
    c.requires.told.kids c.requires.told.parts
    (sym (ap (λ n. (head n).kind) c.node.view_is) ∙ c.in-TypeTuple.is)

pub union_type-requires : goal.union_type-requires
union_type-requires c =
    union_known c.args.s.now c.requires.told.shaped.0 c.args.t.now.node.now c.args.t.now.kids.now c.requires.told.shaped.1
    c.requires.told.kids c.requires.told.parts
    (sym (ap (λ n. (head n).kind) c.node.view_is) ∙ c.in-TypeUnion.is)

pub returns-in_ok-u-in-TypePointer-clause-defined : goal.returns-in_ok-u-in-TypePointer-clause-defined
returns-in_ok-u-in-TypePointer-clause-defined c d =
    c.in_ok-u-in-TypePointer.ensures.defined (first_defined c.args.s.now c.args.t.now.kids.now d.kids)

pub returns-in_ok-u-in-TypeNullable-clause-defined : goal.returns-in_ok-u-in-TypeNullable-clause-defined
returns-in_ok-u-in-TypeNullable-clause-defined c d =
    c.in_ok-u-in-TypeNullable.ensures.defined (first_defined c.args.s.now c.args.t.now.kids.now d.kids)

pub returns-in_ok-u-in-TypeError-clause-defined : goal.returns-in_ok-u-in-TypeError-clause-defined
returns-in_ok-u-in-TypeError-clause-defined c d =
    c.in_ok-u-in-TypeError.ensures.defined (first_defined c.args.s.now c.args.t.now.kids.now d.kids)

pub returns-in-TypeSlice-clause-defined : goal.returns-in-TypeSlice-clause-defined
returns-in-TypeSlice-clause-defined c =
    IfOk-weaker c.slice.result _ _ (λ u h d. h (first_defined c.args.s.now c.args.t.now.kids.now d.kids)) c.slice.ensures.defined

pub returns-in-TypeStruct-clause-defined : goal.returns-in-TypeStruct-clause-defined
returns-in-TypeStruct-clause-defined c =
    IfOk-weaker c.structure.result _ _ (λ u h d. h (parts_defined_struct c.args.s.now c.args.t.now.kids.now d.kids))
    c.structure.ensures.defined

pub returns-in-TypeTuple-clause-defined : goal.returns-in-TypeTuple-clause-defined
returns-in-TypeTuple-clause-defined c =
    IfOk-weaker c.tuple.result _ _ (λ u h d. h (parts_defined_struct c.args.s.now c.args.t.now.kids.now d.kids)) c.tuple.ensures.defined

pub returns-in-TypeUnion-clause-defined : goal.returns-in-TypeUnion-clause-defined
returns-in-TypeUnion-clause-defined c =
    IfOk-weaker c.union_type.result _ _ (λ u h d. h (members_defined_union c.args.s.now c.args.t.now.kids.now d.kids))
    c.union_type.ensures.defined

pub array-requires-clause-length : goal.array-requires-clause-length
array-requires-clause-length c = c.requires.told.length (sym (ap (λ n. (head n).kind) c.node.view_is) ∙ c.in-TypeArray.is)

pub array-requires-clause-element : goal.array-requires-clause-element
array-requires-clause-element c =
    array_known c.args.s.now c.requires.told.shaped.0 c.args.t.now.node.now c.args.t.now.kids.now c.requires.told.shaped.1
    c.requires.told.kids c.requires.told.parts
    (sym (ap (λ n. (head n).kind) c.node.view_is) ∙ c.in-TypeArray.is)

pub returns-in-TypeArray-clause-defined : goal.returns-in-TypeArray-clause-defined
returns-in-TypeArray-clause-defined c =
    IfOk-weaker c.array.result _ _ (λ u h d. h (second_defined c.args.s.now c.args.t.now.kids.now d.kids)) c.array.ensures.defined
