-- Small bodies: the typed tree that each has, and the first fault of those that have none. Above each stands its source; bindings count
-- from 0.
use Rattle.std.specs.Prelude.{◌≡◌, refl, ℕ, pos, Bool, true, false, cond, not, ◌&&◌, nat_eq, List, [], ◌∷◌, codes}
use Rattle.std.proofs.Common.{inl, inr}
use Rattle.hare_tree.specs.declared.kind.Kind.{Kind}
use Rattle.hare_tree.specs.declared.kind.Kind.TheVariants as ki
use Rattle.hare_tree.specs.declared.token.Meaning.{Meaning}
use Rattle.hare_tree.specs.declared.token.Meaning.TheVariants as means
use Rattle.hare_tree.specs.Shape as shape
use Rattle.hare_types.specs.declared.coercion.Ty.{Ty}
use Rattle.hare_types.specs.declared.coercion.Ty.TheVariants as ty
use Rattle.hare_types.specs.declared.coercion.Coercion.{Coercion}
use Rattle.hare_typed.specs.declared.cell.Cell.TheVariants as cell
use Rattle.hare_typed.specs.declared.constant.Const.{Const}
use Rattle.hare_typed.specs.declared.constant.Const.TheVariants as constant
use Rattle.hare_typed.specs.Typed.{TypedNode, marked, typed_nodes, Mark, head_of, mark_of}
use Rattle.hare_typed.specs.Order.{check_order}
use Rattle.hare_typed.specs.Erased.{erase}
use Rattle.hare_rules.specs.declared.hint.Hint.TheVariants as hint
use Rattle.hare_rules.specs.declared.row_id.RowId.{RowId}
use Rattle.hare_rules.specs.declared.row_id.RowId.TheVariants as row
use Rattle.hare_rules.specs.Context.{Setting, Context, Entry, Later, Known, Ordinary}
use Rattle.hare_rules.specs.Above.{Above}
use Rattle.hare_rules.specs.Flow.{flow_at}
use Rattle.hare_rules.specs.Rows.{fault_of}
use Rattle.hare_rules.specs.Finished.{IsWell, FailsIn}
use Rattle.hare_rules.proofs.Worked.{store, decls, at, head_as, void_t, never_t, opaque_t, bool_t, str_t, int_t, u8_t, size_t, pointer_t, nullable_t, bytes_t, ints_t, three_t, either_t, fallible_t, tuple_t, new_int_t, appended_t}

-- ---- trees

abbrev to : ℕ → Ty → Coercion
to r a = record { row = r; to = a }

abbrev mark : ℕ → Ty → Coercion → Meaning → Const → Mark
mark n a r m v = record { node = n; ty = a; coerce = r; meaning = m; value = v }

abbrev tree : Kind → (column : ℕ) → List ℕ → (number : ℕ) → Mark → List TypedNode → TypedNode
tree k c text n m xs = marked (record (head_as k c text) { number = n }) m (typed_nodes xs)

abbrev is_none_meaning : Meaning → Bool
is_none_meaning means.None = true
is_none_meaning _ = false

-- what the names say of the paths of a tree: just what it carries
abbrev meaning_at : List TypedNode → ℕ → Meaning
meaning_at [] c = means.None
meaning_at (t ∷ ts) c = cond (nat_eq (head_of t).place.column c && not (is_none_meaning (mark_of t).meaning)) (mark_of t).meaning
    (meaning_at ts c)

abbrev in_names_of : TypedNode → Setting
in_names_of t = record { store = store; decls = decls; means = λ p. meaning_at (check_order t) p.column }

-- over the body of a function with this result and so many parameters
abbrev body_of : (result params : ℕ) → Above
body_of t n =
    record {
      hint = hint.Of t;
      values = hint.None;
      inside = record { own = 1; result = t; labels = []; deferred = false; body = true; role = Ordinary };
      first = n;
      begins = 0;
    }

-- the first fault of the body has this number, and stands in this column
abbrev FailsAt : Above → List Entry → TypedNode → RowId → (number column : ℕ) → Type 0
FailsAt a ls t r n c =
    (at_node : Context) × FailsIn (in_names_of t) a (erase t) (flow_at ls) r at_node ×
    (fault_of r at_node ≡ record { number = n; place = at c })

-- ---- well-typed bodies

-- 5
abbrev literal : TypedNode
literal =
    tree ki.Number 1 (codes "5") 5 (mark 0 (ty.Iconst (pos 5)) (to 3 (ty.Of int_t)) means.None (constant.Absent)) ([])

literal_is_well : IsWell (in_names_of literal) (body_of int_t 0) (flow_at ([])) literal
unfolding shape.is_shaped shape.stops shape.begins_labelled
literal_is_well =
    record {
      shaped = refl;
      carries = (tt, record { rows = refl; type = refl; node = refl; meaning = refl; value = refl });
      coerced =
          refl;
    }

-- 5 + 250
abbrev sum : TypedNode
sum =
    tree ki.Arith 3 (codes "+") 0 (mark 2 (ty.Iconst (pos 255)) (to 3 (ty.Of int_t)) means.None (constant.Absent)) (tree ki.Number 1
    (codes "5") 5 (mark 0 (ty.Iconst (pos 5)) (to 1 (ty.Iconst (pos 5))) means.None (constant.Absent)) ([]) ∷ tree ki.Number 5 (codes
    "250") 250 (mark 1 (ty.Iconst (pos 250)) (to 1 (ty.Iconst (pos 250))) means.None (constant.Absent)) ([]) ∷ [])

sum_is_well : IsWell (in_names_of sum) (body_of int_t 0) (flow_at ([])) sum
unfolding shape.is_shaped shape.stops shape.begins_labelled
sum_is_well =
    record {
      shaped = refl;
      carries = (
        (
          (tt, record { rows = refl; type = refl; node = refl; meaning = refl; value = refl }),
          (
            (
              tt,
              record { rows = refl; type = refl; node = refl; meaning = refl; value = refl },
            ),
            tt,
          ),
        ),
        record {
          rows = refl;
          type = refl;
          node =
              refl;
          meaning = refl;
          value = refl;
        },
      );
      coerced = refl;
    }

-- { let x = 5; x + 1; }
abbrev binding : TypedNode
binding =
    tree ki.Block 1 [] 0 (mark 6 (ty.Of void_t) (to 1 (ty.Of void_t)) means.None (constant.Absent)) (tree ki.Let 3 (codes "x") 0 (mark 2
    (ty.Of void_t) (to 1 (ty.Of void_t)) means.None (constant.Absent)) (tree ki.None 1 [] 0 (mark 0 (ty.Of void_t) (to 1 (ty.Of void_t))
    means.None (constant.Absent)) ([]) ∷ tree ki.Number 11 (codes "5") 5 (mark 1 (ty.Iconst (pos 5)) (to 3 (ty.Of int_t)) means.None
    (constant.Absent)) ([]) ∷ []) ∷ tree ki.Arith 16 (codes "+") 0 (mark 5 (ty.Of int_t) (to 1 (ty.Of int_t)) means.None
    (constant.Absent)) (tree ki.Path 14 (codes "x") 0 (mark 3 (ty.Of int_t) (to 1 (ty.Of int_t)) (means.Local 0) (constant.Absent)) ([])
    ∷ tree ki.Number 18 (codes "1") 1 (mark 4 (ty.Iconst (pos 1)) (to 3 (ty.Of int_t)) means.None (constant.Absent)) ([]) ∷ []) ∷ [])

binding_is_well : IsWell (in_names_of binding) (body_of void_t 0) (flow_at (Later ∷ [])) binding
unfolding shape.is_shaped shape.stops shape.begins_labelled
binding_is_well =
    record {
      shaped = refl;
      carries = (
        (
          (
            (
              (tt, record { rows = refl; type = refl; node = refl; meaning = refl; value = refl }),
              (
                (
                  tt,
                  record { rows = refl; type = refl; node = refl; meaning = refl; value = refl },
                ),
                tt,
              ),
            ),
            record {
              rows = refl;
              type = refl;
              node =
                  refl;
              meaning = refl;
              value = refl;
            },
          ),
          (
            (
              (
                (tt, record { rows = refl; type = refl; node = refl; meaning = refl; value = refl }),
                (
                  (
                    tt,
                    record { rows = refl; type = refl; node = refl; meaning = refl; value = refl },
                  ),
                  tt,
                ),
              ),
              record {
                rows = refl;
                type = refl;
                node =
                    refl;
                meaning = refl;
                value = refl;
              },
            ),
            tt,
          ),
        ),
        record { rows = refl; type = refl; node = refl; meaning = refl; value = refl },
      );
      coerced
          = refl;
    }

-- { return 5; }
abbrev return_of_value : TypedNode
return_of_value =
    tree ki.Block 1 [] 0 (mark 2 (ty.Of never_t) (to 2 (ty.Of int_t)) means.None (constant.Absent)) (tree ki.Return 3 [] 0 (mark 1 (ty.Of
    never_t) (to 1 (ty.Of never_t)) means.None (constant.Absent)) (tree ki.Number 10 (codes "5") 5 (mark 0 (ty.Iconst (pos 5)) (to 3
    (ty.Of int_t)) means.None (constant.Absent)) ([]) ∷ []) ∷ [])

return_of_value_is_well : IsWell (in_names_of return_of_value) (body_of int_t 0) (flow_at ([])) return_of_value
unfolding shape.is_shaped shape.stops shape.begins_labelled
return_of_value_is_well =
    record {
      shaped = refl;
      carries = (
        (
          (
            ((tt, record { rows = refl; type = refl; node = refl; meaning = refl; value = refl }), tt),
            record { rows = refl; type = refl; node = refl; meaning = refl; value = refl },
          ),
          tt,
        ),
        record {
          rows = refl;
          type = refl;
          node = refl;
          meaning = refl;
          value = refl;
        },
      );
      coerced = refl;
    }

-- { let x = { yield 6; }; }
abbrev yield_alone : TypedNode
yield_alone =
    tree ki.Block 1 [] 0 (mark 5 (ty.Of void_t) (to 1 (ty.Of void_t)) means.None (constant.Absent)) (tree ki.Let 3 (codes "x") 0 (mark 4
    (ty.Of void_t) (to 1 (ty.Of void_t)) means.None (constant.Absent)) (tree ki.None 1 [] 0 (mark 0 (ty.Of void_t) (to 1 (ty.Of void_t))
    means.None (constant.Absent)) ([]) ∷ tree ki.Block 11 [] 0 (mark 3 (ty.Of int_t) (to 1 (ty.Of int_t)) means.None (constant.Absent))
    (tree ki.Yield 13 [] 0 (mark 2 (ty.Of never_t) (to 1 (ty.Of never_t)) means.None (constant.Absent)) (tree ki.Number 19 (codes "6") 6
    (mark 1 (ty.Iconst (pos 6)) (to 3 (ty.Of int_t)) means.None (constant.Absent)) ([]) ∷ []) ∷ []) ∷ []) ∷ [])

yield_alone_is_well : IsWell (in_names_of yield_alone) (body_of void_t 0) (flow_at (Later ∷ [])) yield_alone
unfolding shape.is_shaped shape.stops shape.begins_labelled
yield_alone_is_well =
    record {
      shaped = refl;
      carries = (
        (
          (
            (
              (tt, record { rows = refl; type = refl; node = refl; meaning = refl; value = refl }),
              (
                (
                  (
                    (
                      (
                        (
                          tt,
                          record { rows = refl; type = refl; node = refl; meaning = refl; value = refl },
                        ),
                        tt,
                      ),
                      record {
                        rows = refl;
                        type = refl;
                        node = refl;
                        meaning = refl;
                        value = refl;
                      },
                    ),
                    tt,
                  ),
                  record { rows = refl; type = refl; node = refl; meaning = refl; value = refl },
                ),
                tt,
              ),
            ),
            record {
              rows = refl;
              type = refl;
              node = refl;
              meaning = refl;
              value = refl;
            },
          ),
          tt,
        ),
        record {
          rows = refl;
          type = refl;
          node = refl;
          meaning
              = refl;
          value = refl;
        },
      );
      coerced = refl;
    }

-- { let x = { if (b) yield 6; yield 7; }; }
abbrev two_yields : TypedNode
two_yields =
    tree ki.Block 1 [] 0 (mark 10 (ty.Of void_t) (to 1 (ty.Of void_t)) means.None (constant.Absent)) (tree ki.Let 3 (codes "x") 0 (mark 9
    (ty.Of void_t) (to 1 (ty.Of void_t)) means.None (constant.Absent)) (tree ki.None 1 [] 0 (mark 0 (ty.Of void_t) (to 1 (ty.Of void_t))
    means.None (constant.Absent)) ([]) ∷ tree ki.Block 11 [] 0 (mark 8 (ty.Of int_t) (to 1 (ty.Of int_t)) means.None (constant.Absent))
    (tree ki.If 13 [] 0 (mark 5 (ty.Of void_t) (to 1 (ty.Of void_t)) means.None (constant.Absent)) (tree ki.Path 17 (codes "b") 0 (mark 1
    (ty.Of bool_t) (to 1 (ty.Of bool_t)) (means.Local 0) (constant.Absent)) ([]) ∷ tree ki.Yield 20 [] 0 (mark 3 (ty.Of never_t) (to 1
    (ty.Of never_t)) means.None (constant.Absent)) (tree ki.Number 26 (codes "6") 6 (mark 2 (ty.Iconst (pos 6)) (to 3 (ty.Of int_t))
    means.None (constant.Absent)) ([]) ∷ []) ∷ tree ki.None 1 [] 0 (mark 4 (ty.Of void_t) (to 1 (ty.Of void_t)) means.None
    (constant.Absent)) ([]) ∷ []) ∷ tree ki.Yield 29 [] 0 (mark 7 (ty.Of never_t) (to 1 (ty.Of never_t)) means.None (constant.Absent))
    (tree ki.Number 35 (codes "7") 7 (mark 6 (ty.Iconst (pos 7)) (to 3 (ty.Of int_t)) means.None (constant.Absent)) ([]) ∷ []) ∷ []) ∷
    []) ∷ [])

two_yields_is_well : IsWell (in_names_of two_yields) (body_of void_t 1)
    (flow_at (Known (record { ty = bool_t; mutable = true }) ∷ Later ∷ [])) two_yields
unfolding shape.is_shaped shape.stops shape.begins_labelled
two_yields_is_well =
    record {
      shaped = refl;
      carries = (
        (
          (
            (
              (tt, record { rows = refl; type = refl; node = refl; meaning = refl; value = refl }),
              (
                (
                  (
                    (
                      (
                        (
                          tt,
                          record { rows = refl; type = refl; node = refl; meaning = refl; value = refl },
                        ),
                        (
                          (
                            (
                              (
                                tt,
                                record {
                                  rows = refl;
                                  type = refl;
                                  node =
                                      refl;
                                  meaning = refl;
                                  value = refl;
                                },
                              ),
                              tt,
                            ),
                            record { rows = refl; type = refl; node = refl; meaning = refl; value = refl },
                          ),
                          (
                            (
                              tt,
                              record { rows = refl; type = refl; node = refl; meaning = refl; value = refl },
                            ),
                            tt,
                          ),
                        ),
                      ),
                      record {
                        rows = refl;
                        type = refl;
                        node =
                            refl;
                        meaning = refl;
                        value = refl;
                      },
                    ),
                    (
                      (
                        ((tt, record { rows = refl; type = refl; node = refl; meaning = refl; value = refl }), tt),
                        record { rows = refl; type = refl; node = refl; meaning = refl; value = refl },
                      ),
                      tt,
                    ),
                  ),
                  record {
                    rows = refl;
                    type = refl;
                    node =
                        refl;
                    meaning = refl;
                    value = refl;
                  },
                ),
                tt,
              ),
            ),
            record { rows = refl; type = refl; node = refl; meaning = refl; value = refl },
          ),
          tt,
        ),
        record { rows = refl; type = refl; node = refl; meaning = refl; value = refl },
      );
      coerced = refl;
    }

-- { let x = :a { for (true) { yield :a, 6; }; }; }
abbrev yield_from_deep_inside : TypedNode
yield_from_deep_inside =
    tree ki.Block 1 [] 0 (mark 10 (ty.Of void_t) (to 1 (ty.Of void_t)) means.None (constant.Absent)) (tree ki.Let 3 (codes "x") 0 (mark 9
    (ty.Of void_t) (to 1 (ty.Of void_t)) means.None (constant.Absent)) (tree ki.None 1 [] 0 (mark 0 (ty.Of void_t) (to 1 (ty.Of void_t))
    means.None (constant.Absent)) ([]) ∷ tree ki.Block 11 (codes "a") 0 (mark 8 (ty.Of int_t) (to 1 (ty.Of int_t)) means.None
    (constant.Absent)) (tree ki.For 16 [] 0 (mark 7 (ty.Of never_t) (to 1 (ty.Of never_t)) means.None (constant.Absent)) (tree ki.None 1
    [] 0 (mark 1 (ty.Of void_t) (to 1 (ty.Of void_t)) means.None (constant.Absent)) ([]) ∷ tree ki.Bool 21 (codes "true") 0 (mark 2
    (ty.Of bool_t) (to 1 (ty.Of bool_t)) means.None (constant.Absent)) ([]) ∷ tree ki.None 1 [] 0 (mark 3 (ty.Of void_t) (to 1 (ty.Of
    void_t)) means.None (constant.Absent)) ([]) ∷ tree ki.Block 27 [] 0 (mark 6 (ty.Of never_t) (to 1 (ty.Of never_t)) means.None
    (constant.Absent)) (tree ki.Yield 29 (codes "a") 0 (mark 5 (ty.Of never_t) (to 1 (ty.Of never_t)) means.None (constant.Absent)) (tree
    ki.Number 38 (codes "6") 6 (mark 4 (ty.Iconst (pos 6)) (to 3 (ty.Of int_t)) means.None (constant.Absent)) ([]) ∷ []) ∷ []) ∷ []) ∷
    []) ∷ []) ∷ [])

yield_from_deep_inside_is_well : IsWell (in_names_of yield_from_deep_inside) (body_of void_t 0) (flow_at (Later ∷ []))
    yield_from_deep_inside
unfolding shape.is_shaped shape.stops shape.begins_labelled
yield_from_deep_inside_is_well =
    record {
      shaped = refl;
      carries = (
        (
          (
            (
              (tt, record { rows = refl; type = refl; node = refl; meaning = refl; value = refl }),
              (
                (
                  (
                    (
                      (
                        (
                          tt,
                          record { rows = refl; type = refl; node = refl; meaning = refl; value = refl },
                        ),
                        (
                          (
                            tt,
                            record {
                              rows = refl;
                              type = refl;
                              node =
                                  refl;
                              meaning = refl;
                              value = refl;
                            },
                          ),
                          (
                            (tt, record { rows = refl; type = refl; node = refl; meaning = refl; value = refl }),
                            (
                              (
                                (
                                  (
                                    ((tt, record { rows = refl; type = refl; node = refl; meaning = refl; value = refl }), tt),
                                    record {
                                      rows = refl;
                                      type = refl;
                                      node = refl;
                                      meaning = refl;
                                      value = refl;
                                    },
                                  ),
                                  tt,
                                ),
                                record { rows = refl; type = refl; node = refl; meaning = refl; value = refl },
                              ),
                              tt,
                            ),
                          ),
                        ),
                      ),
                      record { rows = refl; type = refl; node = refl; meaning = refl; value = refl },
                    ),
                    tt,
                  ),
                  record {
                    rows = refl;
                    type = refl;
                    node
                        = refl;
                    meaning = refl;
                    value = refl;
                  },
                ),
                tt,
              ),
            ),
            record { rows = refl; type = refl; node = refl; meaning = refl; value = refl },
          ),
          tt,
        ),
        record { rows = refl; type = refl; node = refl; meaning = refl; value = refl },
      );
      coerced = refl;
    }

-- { let x = { yield return; yield 6; }; }
abbrev yield_of_never : TypedNode
yield_of_never =
    tree ki.Block 1 [] 0 (mark 8 (ty.Of void_t) (to 1 (ty.Of void_t)) means.None (constant.Absent)) (tree ki.Let 3 (codes "x") 0 (mark 7
    (ty.Of void_t) (to 1 (ty.Of void_t)) means.None (constant.Absent)) (tree ki.None 1 [] 0 (mark 0 (ty.Of void_t) (to 1 (ty.Of void_t))
    means.None (constant.Absent)) ([]) ∷ tree ki.Block 11 [] 0 (mark 6 (ty.Of int_t) (to 1 (ty.Of int_t)) means.None (constant.Absent))
    (tree ki.Yield 13 [] 0 (mark 3 (ty.Of never_t) (to 1 (ty.Of never_t)) means.None (constant.Absent)) (tree ki.Return 19 [] 0 (mark 2
    (ty.Of never_t) (to 2 (ty.Of int_t)) means.None (constant.Absent)) (tree ki.None 1 [] 0 (mark 1 (ty.Of void_t) (to 1 (ty.Of void_t))
    means.None (constant.Absent)) ([]) ∷ []) ∷ []) ∷ tree ki.Yield 27 [] 0 (mark 5 (ty.Of never_t) (to 1 (ty.Of never_t)) means.None
    (constant.Absent)) (tree ki.Number 33 (codes "6") 6 (mark 4 (ty.Iconst (pos 6)) (to 3 (ty.Of int_t)) means.None (constant.Absent))
    ([]) ∷ []) ∷ []) ∷ []) ∷ [])

yield_of_never_is_well : IsWell (in_names_of yield_of_never) (body_of void_t 0) (flow_at (Later ∷ [])) yield_of_never
unfolding shape.is_shaped shape.stops shape.begins_labelled
yield_of_never_is_well =
    record {
      shaped = refl;
      carries = (
        (
          (
            (
              (tt, record { rows = refl; type = refl; node = refl; meaning = refl; value = refl }),
              (
                (
                  (
                    (
                      (
                        (
                          ((tt, record { rows = refl; type = refl; node = refl; meaning = refl; value = refl }), tt),
                          record {
                            rows = refl;
                            type = refl;
                            node = refl;
                            meaning = refl;
                            value = refl;
                          },
                        ),
                        tt,
                      ),
                      record { rows = refl; type = refl; node = refl; meaning = refl; value = refl },
                    ),
                    (
                      (
                        ((tt, record { rows = refl; type = refl; node = refl; meaning = refl; value = refl }), tt),
                        record {
                          rows = refl;
                          type = refl;
                          node
                              = refl;
                          meaning = refl;
                          value = refl;
                        },
                      ),
                      tt,
                    ),
                  ),
                  record { rows = refl; type = refl; node = refl; meaning = refl; value = refl },
                ),
                tt,
              ),
            ),
            record { rows = refl; type = refl; node = refl; meaning = refl; value = refl },
          ),
          tt,
        ),
        record {
          rows = refl;
          type = refl;
          node = refl;
          meaning = refl;
          value = refl;
        },
      );
      coerced = refl;
    }

-- for (let x .. s) x += 1
abbrev loop_over_elements : TypedNode
loop_over_elements =
    tree ki.ForEach 1 [] 0 (mark 6 (ty.Of void_t) (to 1 (ty.Of void_t)) means.None (constant.Absent)) (tree ki.Binding 6 (codes "x") 0
    (mark 1 (ty.Of void_t) (to 1 (ty.Of void_t)) means.None (constant.Absent)) (tree ki.None 1 [] 0 (mark 0 (ty.Of void_t) (to 1 (ty.Of
    void_t)) means.None (constant.Absent)) ([]) ∷ []) ∷ tree ki.Path 15 (codes "s") 0 (mark 2 (ty.Of ints_t) (to 1 (ty.Of ints_t))
    (means.Local 0) (constant.Absent)) ([]) ∷ tree ki.OpAssign 20 (codes "+=") 0 (mark 5 (ty.Of void_t) (to 1 (ty.Of void_t)) means.None
    (constant.Absent)) (tree ki.Path 18 (codes "x") 0 (mark 3 (ty.Of int_t) (to 1 (ty.Of int_t)) (means.Local 1) (constant.Absent)) ([])
    ∷ tree ki.Number 23 (codes "1") 1 (mark 4 (ty.Iconst (pos 1)) (to 3 (ty.Of int_t)) means.None (constant.Absent)) ([]) ∷ []) ∷ [])

loop_over_elements_is_well : IsWell (in_names_of loop_over_elements) (body_of void_t 1)
    (flow_at (Known (record { ty = ints_t; mutable = true }) ∷ Later ∷ [])) loop_over_elements
unfolding shape.is_shaped shape.stops shape.begins_labelled
loop_over_elements_is_well =
    record {
      shaped = refl;
      carries = (
        (
          (
            ((tt, record { rows = refl; type = refl; node = refl; meaning = refl; value = refl }), tt),
            record { rows = refl; type = refl; node = refl; meaning = refl; value = refl },
          ),
          (
            (
              tt,
              record {
                rows = refl;
                type = refl;
                node =
                    refl;
                meaning = refl;
                value = refl;
              },
            ),
            (
              (
                (
                  (tt, record { rows = refl; type = refl; node = refl; meaning = refl; value = refl }),
                  (
                    (
                      tt,
                      record { rows = refl; type = refl; node = refl; meaning = refl; value = refl },
                    ),
                    tt,
                  ),
                ),
                record {
                  rows = refl;
                  type = refl;
                  node =
                      refl;
                  meaning = refl;
                  value = refl;
                },
              ),
              tt,
            ),
          ),
        ),
        record { rows = refl; type = refl; node = refl; meaning = refl; value = refl },
      );
      coerced = refl;
    }

-- for (let x &.. s) *x = 1
abbrev loop_over_pointers : TypedNode
loop_over_pointers =
    tree ki.ForEach 1 [] 0 (mark 7 (ty.Of void_t) (to 1 (ty.Of void_t)) means.None (constant.Absent)) (tree ki.Binding 6 (codes "x") 0
    (mark 1 (ty.Of void_t) (to 1 (ty.Of void_t)) means.None (constant.Absent)) (tree ki.ByRef 12 [] 0 (mark 0 (ty.Of void_t) (to 1 (ty.Of
    void_t)) means.None (constant.Absent)) ([]) ∷ []) ∷ tree ki.Path 16 (codes "s") 0 (mark 2 (ty.Of ints_t) (to 1 (ty.Of ints_t))
    (means.Local 0) (constant.Absent)) ([]) ∷ tree ki.Assign 22 [] 0 (mark 6 (ty.Of void_t) (to 1 (ty.Of void_t)) means.None
    (constant.Absent)) (tree ki.Deref 19 [] 0 (mark 4 (ty.Of int_t) (to 1 (ty.Of int_t)) means.None (constant.Absent)) (tree ki.Path 20
    (codes "x") 0 (mark 3 (ty.Of pointer_t) (to 1 (ty.Of pointer_t)) (means.Local 1) (constant.Absent)) ([]) ∷ []) ∷ tree ki.Number 24
    (codes "1") 1 (mark 5 (ty.Iconst (pos 1)) (to 3 (ty.Of int_t)) means.None (constant.Absent)) ([]) ∷ []) ∷ [])

loop_over_pointers_is_well : IsWell (in_names_of loop_over_pointers) (body_of void_t 1)
    (flow_at (Known (record { ty = ints_t; mutable = true }) ∷ Later ∷ [])) loop_over_pointers
unfolding shape.is_shaped shape.stops shape.begins_labelled
loop_over_pointers_is_well =
    record {
      shaped = refl;
      carries = (
        (
          (
            ((tt, record { rows = refl; type = refl; node = refl; meaning = refl; value = refl }), tt),
            record { rows = refl; type = refl; node = refl; meaning = refl; value = refl },
          ),
          (
            (
              tt,
              record {
                rows = refl;
                type = refl;
                node =
                    refl;
                meaning = refl;
                value = refl;
              },
            ),
            (
              (
                (
                  (
                    (
                      (tt, record { rows = refl; type = refl; node = refl; meaning = refl; value = refl }),
                      tt,
                    ),
                    record { rows = refl; type = refl; node = refl; meaning = refl; value = refl },
                  ),
                  (
                    (
                      tt,
                      record {
                        rows = refl;
                        type = refl;
                        node =
                            refl;
                        meaning = refl;
                        value = refl;
                      },
                    ),
                    tt,
                  ),
                ),
                record { rows = refl; type = refl; node = refl; meaning = refl; value = refl },
              ),
              tt,
            ),
          ),
        ),
        record { rows = refl; type = refl; node = refl; meaning = refl; value = refl },
      );
      coerced = refl;
    }

-- for :a (true) { break :a; }
abbrev labelled_break : TypedNode
labelled_break =
    tree ki.For 1 (codes "a") 0 (mark 5 (ty.Of void_t) (to 1 (ty.Of void_t)) means.None (constant.Absent)) (tree ki.None 1 [] 0 (mark 0
    (ty.Of void_t) (to 1 (ty.Of void_t)) means.None (constant.Absent)) ([]) ∷ tree ki.Bool 9 (codes "true") 0 (mark 1 (ty.Of bool_t) (to
    1 (ty.Of bool_t)) means.None (constant.Absent)) ([]) ∷ tree ki.None 1 [] 0 (mark 2 (ty.Of void_t) (to 1 (ty.Of void_t)) means.None
    (constant.Absent)) ([]) ∷ tree ki.Block 15 [] 0 (mark 4 (ty.Of never_t) (to 1 (ty.Of never_t)) means.None (constant.Absent)) (tree
    ki.Break 17 (codes "a") 0 (mark 3 (ty.Of never_t) (to 1 (ty.Of never_t)) means.None (constant.Absent)) ([]) ∷ []) ∷ [])

labelled_break_is_well : IsWell (in_names_of labelled_break) (body_of void_t 0) (flow_at ([])) labelled_break
unfolding shape.is_shaped shape.stops shape.begins_labelled
labelled_break_is_well =
    record {
      shaped = refl;
      carries = (
        (
          (tt, record { rows = refl; type = refl; node = refl; meaning = refl; value = refl }),
          (
            (
              tt,
              record { rows = refl; type = refl; node = refl; meaning = refl; value = refl },
            ),
            (
              (
                tt,
                record {
                  rows = refl;
                  type = refl;
                  node =
                      refl;
                  meaning = refl;
                  value = refl;
                },
              ),
              (
                (
                  ((tt, record { rows = refl; type = refl; node = refl; meaning = refl; value = refl }), tt),
                  record { rows = refl; type = refl; node = refl; meaning = refl; value = refl },
                ),
                tt,
              ),
            ),
          ),
        ),
        record {
          rows = refl;
          type = refl;
          node =
              refl;
          meaning = refl;
          value = refl;
        },
      );
      coerced = refl;
    }

-- for (true) { }
abbrev loop_without_end : TypedNode
loop_without_end =
    tree ki.For 1 [] 0 (mark 4 (ty.Of never_t) (to 2 (ty.Of int_t)) means.None (constant.Absent)) (tree ki.None 1 [] 0 (mark 0 (ty.Of
    void_t) (to 1 (ty.Of void_t)) means.None (constant.Absent)) ([]) ∷ tree ki.Bool 6 (codes "true") 0 (mark 1 (ty.Of bool_t) (to 1
    (ty.Of bool_t)) means.None (constant.Absent)) ([]) ∷ tree ki.None 1 [] 0 (mark 2 (ty.Of void_t) (to 1 (ty.Of void_t)) means.None
    (constant.Absent)) ([]) ∷ tree ki.Block 12 [] 0 (mark 3 (ty.Of void_t) (to 1 (ty.Of void_t)) means.None (constant.Absent)) ([]) ∷ [])

loop_without_end_is_well : IsWell (in_names_of loop_without_end) (body_of int_t 0) (flow_at ([])) loop_without_end
unfolding shape.is_shaped shape.stops shape.begins_labelled
loop_without_end_is_well =
    record {
      shaped = refl;
      carries = (
        (
          (tt, record { rows = refl; type = refl; node = refl; meaning = refl; value = refl }),
          (
            (
              tt,
              record { rows = refl; type = refl; node = refl; meaning = refl; value = refl },
            ),
            (
              (
                tt,
                record {
                  rows = refl;
                  type = refl;
                  node =
                      refl;
                  meaning = refl;
                  value = refl;
                },
              ),
              ((tt, record { rows = refl; type = refl; node = refl; meaning = refl; value = refl }), tt),
            ),
          ),
        ),
        record { rows = refl; type = refl; node = refl; meaning = refl; value = refl },
      );
      coerced = refl;
    }

-- { defer g = 1; }
abbrev deferred : TypedNode
deferred =
    tree ki.Block 1 [] 0 (mark 4 (ty.Of void_t) (to 1 (ty.Of void_t)) means.None (constant.Absent)) (tree ki.Defer 3 [] 0 (mark 3 (ty.Of
    void_t) (to 1 (ty.Of void_t)) means.None (constant.Absent)) (tree ki.Assign 11 [] 0 (mark 2 (ty.Of void_t) (to 1 (ty.Of void_t))
    means.None (constant.Absent)) (tree ki.Path 9 (codes "g") 0 (mark 0 (ty.Of int_t) (to 1 (ty.Of int_t)) (means.Decl 0)
    (constant.Absent)) ([]) ∷ tree ki.Number 13 (codes "1") 1 (mark 1 (ty.Iconst (pos 1)) (to 3 (ty.Of int_t)) means.None
    (constant.Absent)) ([]) ∷ []) ∷ []) ∷ [])

deferred_is_well : IsWell (in_names_of deferred) (body_of void_t 0) (flow_at ([])) deferred
unfolding shape.is_shaped shape.stops shape.begins_labelled
deferred_is_well =
    record {
      shaped = refl;
      carries = (
        (
          (
            (
              (
                (
                  (tt, record { rows = refl; type = refl; node = refl; meaning = refl; value = refl }),
                  (
                    (
                      tt,
                      record { rows = refl; type = refl; node = refl; meaning = refl; value = refl },
                    ),
                    tt,
                  ),
                ),
                record {
                  rows = refl;
                  type = refl;
                  node =
                      refl;
                  meaning = refl;
                  value = refl;
                },
              ),
              tt,
            ),
            record { rows = refl; type = refl; node = refl; meaning = refl; value = refl },
          ),
          tt,
        ),
        record { rows = refl; type = refl; node = refl; meaning = refl; value = refl },
      );
      coerced = refl;
    }

-- { defer for (true) break; }
abbrev loop_inside_a_defer : TypedNode
loop_inside_a_defer =
    tree ki.Block 1 [] 0 (mark 6 (ty.Of void_t) (to 1 (ty.Of void_t)) means.None (constant.Absent)) (tree ki.Defer 3 [] 0 (mark 5 (ty.Of
    void_t) (to 1 (ty.Of void_t)) means.None (constant.Absent)) (tree ki.For 9 [] 0 (mark 4 (ty.Of void_t) (to 1 (ty.Of void_t))
    means.None (constant.Absent)) (tree ki.None 1 [] 0 (mark 0 (ty.Of void_t) (to 1 (ty.Of void_t)) means.None (constant.Absent)) ([]) ∷
    tree ki.Bool 14 (codes "true") 0 (mark 1 (ty.Of bool_t) (to 1 (ty.Of bool_t)) means.None (constant.Absent)) ([]) ∷ tree ki.None 1 []
    0 (mark 2 (ty.Of void_t) (to 1 (ty.Of void_t)) means.None (constant.Absent)) ([]) ∷ tree ki.Break 20 [] 0 (mark 3 (ty.Of never_t) (to
    1 (ty.Of never_t)) means.None (constant.Absent)) ([]) ∷ []) ∷ []) ∷ [])

loop_inside_a_defer_is_well : IsWell (in_names_of loop_inside_a_defer) (body_of void_t 0) (flow_at ([])) loop_inside_a_defer
unfolding shape.is_shaped shape.stops shape.begins_labelled
loop_inside_a_defer_is_well =
    record {
      shaped = refl;
      carries = (
        (
          (
            (
              (
                (
                  (tt, record { rows = refl; type = refl; node = refl; meaning = refl; value = refl }),
                  (
                    (
                      tt,
                      record { rows = refl; type = refl; node = refl; meaning = refl; value = refl },
                    ),
                    (
                      (
                        tt,
                        record {
                          rows = refl;
                          type = refl;
                          node =
                              refl;
                          meaning = refl;
                          value = refl;
                        },
                      ),
                      ((tt, record { rows = refl; type = refl; node = refl; meaning = refl; value = refl }), tt),
                    ),
                  ),
                ),
                record { rows = refl; type = refl; node = refl; meaning = refl; value = refl },
              ),
              tt,
            ),
            record {
              rows = refl;
              type = refl;
              node = refl;
              meaning = refl;
              value = refl;
            },
          ),
          tt,
        ),
        record { rows = refl; type = refl; node = refl; meaning = refl; value = refl },
      );
      coerced = refl;
    }

-- (alloc(5))!
abbrev allocation_behind_force : TypedNode
allocation_behind_force =
    tree ki.Force 11 [] 0 (mark 4 (ty.Of pointer_t) (to 1 (ty.Of pointer_t)) means.None (constant.Absent)) (tree ki.Paren 1 [] 0 (mark 3
    (ty.Of new_int_t) (to 1 (ty.Of new_int_t)) means.None (constant.Absent)) (tree ki.Alloc 2 [] 0 (mark 2 (ty.Of new_int_t) (to 1 (ty.Of
    new_int_t)) means.None (constant.Absent)) (tree ki.Number 8 (codes "5") 5 (mark 0 (ty.Iconst (pos 5)) (to 3 (ty.Of int_t)) means.None
    (constant.Absent)) ([]) ∷ tree ki.None 1 [] 0 (mark 1 (ty.Of void_t) (to 1 (ty.Of void_t)) means.None (constant.Absent)) ([]) ∷ []) ∷
    []) ∷ [])

allocation_behind_force_is_well : IsWell (in_names_of allocation_behind_force) (body_of pointer_t 0) (flow_at ([])) allocation_behind_force
unfolding shape.is_shaped shape.stops shape.begins_labelled
allocation_behind_force_is_well =
    record {
      shaped = refl;
      carries = (
        (
          (
            (
              (
                (
                  (tt, record { rows = refl; type = refl; node = refl; meaning = refl; value = refl }),
                  (
                    (
                      tt,
                      record { rows = refl; type = refl; node = refl; meaning = refl; value = refl },
                    ),
                    tt,
                  ),
                ),
                record {
                  rows = refl;
                  type = refl;
                  node =
                      refl;
                  meaning = refl;
                  value = refl;
                },
              ),
              tt,
            ),
            record { rows = refl; type = refl; node = refl; meaning = refl; value = refl },
          ),
          tt,
        ),
        record { rows = refl; type = refl; node = refl; meaning = refl; value = refl },
      );
      coerced = refl;
    }

-- alloc(5)
abbrev allocation_returned : TypedNode
allocation_returned =
    tree ki.Alloc 1 [] 0 (mark 2 (ty.Of new_int_t) (to 1 (ty.Of new_int_t)) means.None (constant.Absent)) (tree ki.Number 7 (codes "5") 5
    (mark 0 (ty.Iconst (pos 5)) (to 3 (ty.Of int_t)) means.None (constant.Absent)) ([]) ∷ tree ki.None 1 [] 0 (mark 1 (ty.Of void_t) (to
    1 (ty.Of void_t)) means.None (constant.Absent)) ([]) ∷ [])

allocation_returned_is_well : IsWell (in_names_of allocation_returned) (body_of new_int_t 0) (flow_at ([])) allocation_returned
unfolding shape.is_shaped shape.stops shape.begins_labelled
allocation_returned_is_well =
    record {
      shaped = refl;
      carries = (
        (
          (tt, record { rows = refl; type = refl; node = refl; meaning = refl; value = refl }),
          (
            (
              tt,
              record { rows = refl; type = refl; node = refl; meaning = refl; value = refl },
            ),
            tt,
          ),
        ),
        record {
          rows = refl;
          type = refl;
          node =
              refl;
          meaning = refl;
          value = refl;
        },
      );
      coerced = refl;
    }

-- match (e) { case let n: int => yield n; case str => yield 0; }
abbrev match_with_let : TypedNode
match_with_let =
    tree ki.Match 1 [] 0 (mark 10 (ty.Of int_t) (to 1 (ty.Of int_t)) means.None (constant.Absent)) (tree ki.Path 8 (codes "e") 0 (mark 0
    (ty.Of either_t) (to 1 (ty.Of either_t)) (means.Local 0) (constant.Absent)) ([]) ∷ tree ki.Case 13 [] 0 (mark 5 (ty.Of int_t) (to 1
    (ty.Of int_t)) means.None (constant.Absent)) (tree ki.PatternLet 18 (codes "n") 0 (mark 2 (ty.Of void_t) (to 1 (ty.Of void_t))
    means.None (constant.Absent)) (tree ki.TypeScalar 25 (codes "int") 0 (mark 1 (ty.Of int_t) (to 1 (ty.Of int_t)) means.None
    (constant.Absent)) ([]) ∷ []) ∷ tree ki.Yield 32 [] 0 (mark 4 (ty.Of never_t) (to 1 (ty.Of never_t)) means.None (constant.Absent))
    (tree ki.Path 38 (codes "n") 0 (mark 3 (ty.Of int_t) (to 1 (ty.Of int_t)) (means.Local 1) (constant.Absent)) ([]) ∷ []) ∷ []) ∷ tree
    ki.Case 41 [] 0 (mark 9 (ty.Of int_t) (to 1 (ty.Of int_t)) means.None (constant.Absent)) (tree ki.TypeScalar 46 (codes "str") 0 (mark
    6 (ty.Of str_t) (to 1 (ty.Of str_t)) means.None (constant.Absent)) ([]) ∷ tree ki.Yield 53 [] 0 (mark 8 (ty.Of never_t) (to 1 (ty.Of
    never_t)) means.None (constant.Absent)) (tree ki.Number 59 (codes "0") 0 (mark 7 (ty.Iconst (pos 0)) (to 3 (ty.Of int_t)) means.None
    (constant.Absent)) ([]) ∷ []) ∷ []) ∷ [])

match_with_let_is_well : IsWell (in_names_of match_with_let) (body_of int_t 1)
    (flow_at (Known (record { ty = either_t; mutable = true }) ∷ Later ∷ [])) match_with_let
unfolding shape.is_shaped shape.stops shape.begins_labelled
match_with_let_is_well =
    record {
      shaped = refl;
      carries = (
        (
          (tt, record { rows = refl; type = refl; node = refl; meaning = refl; value = refl }),
          (
            (
              (
                (
                  (
                    (
                      tt,
                      record { rows = refl; type = refl; node = refl; meaning = refl; value = refl },
                    ),
                    tt,
                  ),
                  record {
                    rows = refl;
                    type = refl;
                    node = refl;
                    meaning = refl;
                    value = refl;
                  },
                ),
                (
                  (
                    ((tt, record { rows = refl; type = refl; node = refl; meaning = refl; value = refl }), tt),
                    record
                        { rows = refl; type = refl; node = refl; meaning = refl; value = refl },
                  ),
                  tt,
                ),
              ),
              record {
                rows = refl;
                type = refl;
                node = refl;
                meaning = refl;
                value = refl;
              },
            ),
            (
              (
                (
                  (tt, record { rows = refl; type = refl; node = refl; meaning = refl; value = refl }),
                  (
                    (
                      (
                        (
                          tt,
                          record { rows = refl; type = refl; node = refl; meaning = refl; value = refl },
                        ),
                        tt,
                      ),
                      record {
                        rows = refl;
                        type = refl;
                        node = refl;
                        meaning = refl;
                        value = refl;
                      },
                    ),
                    tt,
                  ),
                ),
                record { rows = refl; type = refl; node = refl; meaning = refl; value = refl },
              ),
              tt,
            ),
          ),
        ),
        record
            { rows = refl; type = refl; node = refl; meaning = refl; value = refl },
      );
      coerced = refl;
    }

-- switch (b) { case true => yield 1; case false => yield 2; }
abbrev switch_of_bool : TypedNode
switch_of_bool =
    tree ki.Switch 1 [] 0 (mark 13 (ty.Of int_t) (to 1 (ty.Of int_t)) means.None (constant.Absent)) (tree ki.Path 9 (codes "b") 0 (mark 0
    (ty.Of bool_t) (to 1 (ty.Of bool_t)) (means.Local 0) (constant.Absent)) ([]) ∷ tree ki.SwitchCase 14 [] 0 (mark 6 (ty.Of int_t) (to 1
    (ty.Of int_t)) means.None (constant.Absent)) (tree ki.Values 19 [] 0 (mark 3 (ty.Of void_t) (to 1 (ty.Of void_t)) means.None
    (constant.Absent)) (tree ki.Bool 19 (codes "true") 0 (mark 1 (ty.Of bool_t) (to 1 (ty.Of bool_t)) means.None (constant.Known
    (cell.Byte 1 ∷ []) [])) ([]) ∷ tree ki.None 1 [] 0 (mark 2 (ty.Of void_t) (to 1 (ty.Of void_t)) means.None (constant.Absent)) ([]) ∷
    []) ∷ tree ki.Yield 27 [] 0 (mark 5 (ty.Of never_t) (to 1 (ty.Of never_t)) means.None (constant.Absent)) (tree ki.Number 33 (codes
    "1") 1 (mark 4 (ty.Iconst (pos 1)) (to 3 (ty.Of int_t)) means.None (constant.Absent)) ([]) ∷ []) ∷ []) ∷ tree ki.SwitchCase 36 [] 0
    (mark 12 (ty.Of int_t) (to 1 (ty.Of int_t)) means.None (constant.Absent)) (tree ki.Values 41 [] 0 (mark 9 (ty.Of void_t) (to 1 (ty.Of
    void_t)) means.None (constant.Absent)) (tree ki.Bool 41 (codes "false") 0 (mark 7 (ty.Of bool_t) (to 1 (ty.Of bool_t)) means.None
    (constant.Known (cell.Byte 0 ∷ []) [])) ([]) ∷ tree ki.None 1 [] 0 (mark 8 (ty.Of void_t) (to 1 (ty.Of void_t)) means.None
    (constant.Absent)) ([]) ∷ []) ∷ tree ki.Yield 50 [] 0 (mark 11 (ty.Of never_t) (to 1 (ty.Of never_t)) means.None (constant.Absent))
    (tree ki.Number 56 (codes "2") 2 (mark 10 (ty.Iconst (pos 2)) (to 3 (ty.Of int_t)) means.None (constant.Absent)) ([]) ∷ []) ∷ []) ∷
    [])

switch_of_bool_is_well : IsWell (in_names_of switch_of_bool) (body_of int_t 1)
    (flow_at (Known (record { ty = bool_t; mutable = true }) ∷ [])) switch_of_bool
unfolding shape.is_shaped shape.stops shape.begins_labelled
switch_of_bool_is_well =
    record {
      shaped = refl;
      carries = (
        (
          (tt, record { rows = refl; type = refl; node = refl; meaning = refl; value = refl }),
          (
            (
              (
                (
                  (
                    (
                      tt,
                      record { rows = refl; type = refl; node = refl; meaning = refl; value = refl },
                    ),
                    (
                      (
                        tt,
                        record {
                          rows = refl;
                          type = refl;
                          node =
                              refl;
                          meaning = refl;
                          value = refl;
                        },
                      ),
                      tt,
                    ),
                  ),
                  record { rows = refl; type = refl; node = refl; meaning = refl; value = refl },
                ),
                (
                  (
                    (
                      (
                        tt,
                        record { rows = refl; type = refl; node = refl; meaning = refl; value = refl },
                      ),
                      tt,
                    ),
                    record {
                      rows = refl;
                      type = refl;
                      node = refl;
                      meaning = refl;
                      value = refl;
                    },
                  ),
                  tt,
                ),
              ),
              record { rows = refl; type = refl; node = refl; meaning = refl; value = refl },
            ),
            (
              (
                (
                  (
                    (
                      (
                        tt,
                        record { rows = refl; type = refl; node = refl; meaning = refl; value = refl },
                      ),
                      (
                        (
                          tt,
                          record {
                            rows = refl;
                            type = refl;
                            node =
                                refl;
                            meaning = refl;
                            value = refl;
                          },
                        ),
                        tt,
                      ),
                    ),
                    record { rows = refl; type = refl; node = refl; meaning = refl; value = refl },
                  ),
                  (
                    (
                      (
                        (
                          tt,
                          record { rows = refl; type = refl; node = refl; meaning = refl; value = refl },
                        ),
                        tt,
                      ),
                      record {
                        rows = refl;
                        type = refl;
                        node = refl;
                        meaning = refl;
                        value = refl;
                      },
                    ),
                    tt,
                  ),
                ),
                record { rows = refl; type = refl; node = refl; meaning = refl; value = refl },
              ),
              tt,
            ),
          ),
        ),
        record
            { rows = refl; type = refl; node = refl; meaning = refl; value = refl },
      );
      coerced = refl;
    }

-- { let x = if (b) return else 6; }
abbrev joined_with_never : TypedNode
joined_with_never =
    tree ki.Block 1 [] 0 (mark 7 (ty.Of void_t) (to 1 (ty.Of void_t)) means.None (constant.Absent)) (tree ki.Let 3 (codes "x") 0 (mark 6
    (ty.Of void_t) (to 1 (ty.Of void_t)) means.None (constant.Absent)) (tree ki.None 1 [] 0 (mark 0 (ty.Of void_t) (to 1 (ty.Of void_t))
    means.None (constant.Absent)) ([]) ∷ tree ki.If 11 [] 0 (mark 5 (ty.Of int_t) (to 1 (ty.Of int_t)) means.None (constant.Absent))
    (tree ki.Path 15 (codes "b") 0 (mark 1 (ty.Of bool_t) (to 1 (ty.Of bool_t)) (means.Local 0) (constant.Absent)) ([]) ∷ tree ki.Return
    18 [] 0 (mark 3 (ty.Of never_t) (to 2 (ty.Of int_t)) means.None (constant.Absent)) (tree ki.None 1 [] 0 (mark 2 (ty.Of void_t) (to 1
    (ty.Of void_t)) means.None (constant.Absent)) ([]) ∷ []) ∷ tree ki.Number 30 (codes "6") 6 (mark 4 (ty.Iconst (pos 6)) (to 3 (ty.Of
    int_t)) means.None (constant.Absent)) ([]) ∷ []) ∷ []) ∷ [])

joined_with_never_is_well : IsWell (in_names_of joined_with_never) (body_of void_t 1)
    (flow_at (Known (record { ty = bool_t; mutable = true }) ∷ Later ∷ [])) joined_with_never
unfolding shape.is_shaped shape.stops shape.begins_labelled
joined_with_never_is_well =
    record {
      shaped = refl;
      carries = (
        (
          (
            (
              (tt, record { rows = refl; type = refl; node = refl; meaning = refl; value = refl }),
              (
                (
                  (
                    (
                      tt,
                      record { rows = refl; type = refl; node = refl; meaning = refl; value = refl },
                    ),
                    (
                      (
                        (
                          (
                            tt,
                            record {
                              rows = refl;
                              type = refl;
                              node =
                                  refl;
                              meaning = refl;
                              value = refl;
                            },
                          ),
                          tt,
                        ),
                        record { rows = refl; type = refl; node = refl; meaning = refl; value = refl },
                      ),
                      (
                        (
                          tt,
                          record { rows = refl; type = refl; node = refl; meaning = refl; value = refl },
                        ),
                        tt,
                      ),
                    ),
                  ),
                  record {
                    rows = refl;
                    type = refl;
                    node =
                        refl;
                    meaning = refl;
                    value = refl;
                  },
                ),
                tt,
              ),
            ),
            record { rows = refl; type = refl; node = refl; meaning = refl; value = refl },
          ),
          tt,
        ),
        record { rows = refl; type = refl; node = refl; meaning = refl; value = refl },
      );
      coerced = refl;
    }

-- if (b) 1 else "a"
abbrev branches_for_a_hint : TypedNode
branches_for_a_hint =
    tree ki.If 1 [] 0 (mark 3 (ty.Of either_t) (to 1 (ty.Of either_t)) means.None (constant.Absent)) (tree ki.Path 5 (codes "b") 0 (mark
    0 (ty.Of bool_t) (to 1 (ty.Of bool_t)) (means.Local 0) (constant.Absent)) ([]) ∷ tree ki.Number 8 (codes "1") 1 (mark 1 (ty.Iconst
    (pos 1)) (to 9 (ty.Of either_t)) means.None (constant.Absent)) ([]) ∷ tree ki.Str 15 (codes "a") 0 (mark 2 (ty.Of str_t) (to 9 (ty.Of
    either_t)) means.None (constant.Absent)) ([]) ∷ [])

branches_for_a_hint_is_well : IsWell (in_names_of branches_for_a_hint) (body_of either_t 1)
    (flow_at (Known (record { ty = bool_t; mutable = true }) ∷ [])) branches_for_a_hint
unfolding shape.is_shaped shape.stops shape.begins_labelled
branches_for_a_hint_is_well =
    record {
      shaped = refl;
      carries = (
        (
          (tt, record { rows = refl; type = refl; node = refl; meaning = refl; value = refl }),
          (
            (
              tt,
              record { rows = refl; type = refl; node = refl; meaning = refl; value = refl },
            ),
            (
              (
                tt,
                record {
                  rows = refl;
                  type = refl;
                  node =
                      refl;
                  meaning = refl;
                  value = refl;
                },
              ),
              tt,
            ),
          ),
        ),
        record { rows = refl; type = refl; node = refl; meaning = refl; value = refl },
      );
      coerced = refl;
    }

-- { let x: [3]int = [1...]; }
abbrev array_of_one_item : TypedNode
array_of_one_item =
    tree ki.Block 1 [] 0 (mark 8 (ty.Of void_t) (to 1 (ty.Of void_t)) means.None (constant.Absent)) (tree ki.Let 3 (codes "x") 0 (mark 7
    (ty.Of void_t) (to 1 (ty.Of void_t)) means.None (constant.Absent)) (tree ki.TypeArray 10 [] 0 (mark 2 (ty.Of three_t) (to 1 (ty.Of
    three_t)) means.None (constant.Absent)) (tree ki.Number 11 (codes "3") 3 (mark 0 (ty.Iconst (pos 3)) (to 1 (ty.Iconst (pos 3)))
    means.None (constant.Absent)) ([]) ∷ tree ki.TypeScalar 13 (codes "int") 0 (mark 1 (ty.Of int_t) (to 1 (ty.Of int_t)) means.None
    (constant.Absent)) ([]) ∷ []) ∷ tree ki.Array 19 [] 0 (mark 6 (ty.Of three_t) (to 1 (ty.Of three_t)) means.None (constant.Absent))
    (tree ki.Number 20 (codes "1") 1 (mark 3 (ty.Iconst (pos 1)) (to 3 (ty.Of int_t)) means.None (constant.Absent)) ([]) ∷ tree ki.Dots
    21 [] 0 (mark 4 (ty.Of void_t) (to 1 (ty.Of void_t)) means.None (constant.Absent)) ([]) ∷ tree ki.None 1 [] 0 (mark 5 (ty.Of void_t)
    (to 1 (ty.Of void_t)) means.None (constant.Absent)) ([]) ∷ []) ∷ []) ∷ [])

array_of_one_item_is_well : IsWell (in_names_of array_of_one_item) (body_of void_t 0) (flow_at (Later ∷ [])) array_of_one_item
unfolding shape.is_shaped shape.stops shape.begins_labelled
array_of_one_item_is_well =
    record {
      shaped = refl;
      carries = (
        (
          (
            (
              (
                (
                  (tt, record { rows = refl; type = refl; node = refl; meaning = refl; value = refl }),
                  (
                    (
                      tt,
                      record { rows = refl; type = refl; node = refl; meaning = refl; value = refl },
                    ),
                    tt,
                  ),
                ),
                record {
                  rows = refl;
                  type = refl;
                  node =
                      refl;
                  meaning = refl;
                  value = refl;
                },
              ),
              (
                (
                  (
                    (tt, record { rows = refl; type = refl; node = refl; meaning = refl; value = refl }),
                    (
                      (
                        tt,
                        record { rows = refl; type = refl; node = refl; meaning = refl; value = refl },
                      ),
                      (
                        (
                          tt,
                          record {
                            rows = refl;
                            type = refl;
                            node =
                                refl;
                            meaning = refl;
                            value = refl;
                          },
                        ),
                        tt,
                      ),
                    ),
                  ),
                  record { rows = refl; type = refl; node = refl; meaning = refl; value = refl },
                ),
                tt,
              ),
            ),
            record { rows = refl; type = refl; node = refl; meaning = refl; value = refl },
          ),
          tt,
        ),
        record {
          rows = refl;
          type = refl;
          node = refl;
          meaning = refl;
          value = refl;
        },
      );
      coerced = refl;
    }

-- { let x = (1, u); }
abbrev tuple_of_defaults : TypedNode
tuple_of_defaults =
    tree ki.Block 1 [] 0 (mark 6 (ty.Of void_t) (to 1 (ty.Of void_t)) means.None (constant.Absent)) (tree ki.Let 3 (codes "x") 0 (mark 5
    (ty.Of void_t) (to 1 (ty.Of void_t)) means.None (constant.Absent)) (tree ki.None 1 [] 0 (mark 0 (ty.Of void_t) (to 1 (ty.Of void_t))
    means.None (constant.Absent)) ([]) ∷ tree ki.Tuple 11 [] 0 (mark 4 (ty.Of tuple_t) (to 1 (ty.Of tuple_t)) means.None
    (constant.Absent)) (tree ki.Number 12 (codes "1") 1 (mark 1 (ty.Iconst (pos 1)) (to 3 (ty.Of int_t)) means.None (constant.Absent))
    ([]) ∷ tree ki.Path 15 (codes "u") 0 (mark 2 (ty.Of u8_t) (to 1 (ty.Of u8_t)) (means.Local 0) (constant.Absent)) ([]) ∷ tree ki.None
    1 [] 0 (mark 3 (ty.Of void_t) (to 1 (ty.Of void_t)) means.None (constant.Absent)) ([]) ∷ []) ∷ []) ∷ [])

tuple_of_defaults_is_well : IsWell (in_names_of tuple_of_defaults) (body_of void_t 1)
    (flow_at (Known (record { ty = u8_t; mutable = true }) ∷ Later ∷ [])) tuple_of_defaults
unfolding shape.is_shaped shape.stops shape.begins_labelled
tuple_of_defaults_is_well =
    record {
      shaped = refl;
      carries = (
        (
          (
            (
              (tt, record { rows = refl; type = refl; node = refl; meaning = refl; value = refl }),
              (
                (
                  (
                    (
                      tt,
                      record { rows = refl; type = refl; node = refl; meaning = refl; value = refl },
                    ),
                    (
                      (
                        tt,
                        record {
                          rows = refl;
                          type = refl;
                          node =
                              refl;
                          meaning = refl;
                          value = refl;
                        },
                      ),
                      ((tt, record { rows = refl; type = refl; node = refl; meaning = refl; value = refl }), tt),
                    ),
                  ),
                  record { rows = refl; type = refl; node = refl; meaning = refl; value = refl },
                ),
                tt,
              ),
            ),
            record {
              rows = refl;
              type = refl;
              node =
                  refl;
              meaning = refl;
              value = refl;
            },
          ),
          tt,
        ),
        record { rows = refl; type = refl; node = refl; meaning = refl; value = refl },
      );
      coerced
          = refl;
    }

-- f(5)
abbrev call_of_function : TypedNode
call_of_function =
    tree ki.Call 2 [] 0 (mark 3 (ty.Of int_t) (to 1 (ty.Of int_t)) means.None (constant.Absent)) (tree ki.Path 1 (codes "f") 0 (mark 0
    (ty.Of void_t) (to 1 (ty.Of void_t)) (means.Decl 1) (constant.Absent)) ([]) ∷ tree ki.Number 3 (codes "5") 5 (mark 1 (ty.Iconst (pos
    5)) (to 3 (ty.Of int_t)) means.None (constant.Absent)) ([]) ∷ tree ki.None 1 [] 0 (mark 2 (ty.Of void_t) (to 1 (ty.Of void_t))
    means.None (constant.Absent)) ([]) ∷ [])

call_of_function_is_well : IsWell (in_names_of call_of_function) (body_of int_t 0) (flow_at ([])) call_of_function
unfolding shape.is_shaped shape.stops shape.begins_labelled
call_of_function_is_well =
    record {
      shaped = refl;
      carries = (
        (
          (tt, record { rows = refl; type = refl; node = refl; meaning = refl; value = refl }),
          (
            (
              tt,
              record { rows = refl; type = refl; node = refl; meaning = refl; value = refl },
            ),
            (
              (
                tt,
                record {
                  rows = refl;
                  type = refl;
                  node =
                      refl;
                  meaning = refl;
                  value = refl;
                },
              ),
              tt,
            ),
          ),
        ),
        record { rows = refl; type = refl; node = refl; meaning = refl; value = refl },
      );
      coerced = refl;
    }

-- h()
abbrev call_that_never_returns : TypedNode
call_that_never_returns =
    tree ki.Call 2 [] 0 (mark 2 (ty.Of never_t) (to 2 (ty.Of int_t)) means.None (constant.Absent)) (tree ki.Path 1 (codes "h") 0 (mark 0
    (ty.Of void_t) (to 1 (ty.Of void_t)) (means.Decl 16) (constant.Absent)) ([]) ∷ tree ki.None 1 [] 0 (mark 1 (ty.Of void_t) (to 1
    (ty.Of void_t)) means.None (constant.Absent)) ([]) ∷ [])

call_that_never_returns_is_well : IsWell (in_names_of call_that_never_returns) (body_of int_t 0) (flow_at ([])) call_that_never_returns
unfolding shape.is_shaped shape.stops shape.begins_labelled
call_that_never_returns_is_well =
    record {
      shaped = refl;
      carries = (
        (
          (tt, record { rows = refl; type = refl; node = refl; meaning = refl; value = refl }),
          (
            (
              tt,
              record { rows = refl; type = refl; node = refl; meaning = refl; value = refl },
            ),
            tt,
          ),
        ),
        record {
          rows = refl;
          type = refl;
          node =
              refl;
          meaning = refl;
          value = refl;
        },
      );
      coerced = refl;
    }

-- append(s, 1)!
abbrev append_forced : TypedNode
append_forced =
    tree ki.Force 13 [] 0 (mark 4 (ty.Of void_t) (to 1 (ty.Of void_t)) means.None (constant.Absent)) (tree ki.Append 1 [] 0 (mark 3
    (ty.Of appended_t) (to 1 (ty.Of appended_t)) means.None (constant.Absent)) (tree ki.Path 8 (codes "s") 0 (mark 0 (ty.Of bytes_t) (to
    1 (ty.Of bytes_t)) (means.Local 0) (constant.Absent)) ([]) ∷ tree ki.Number 11 (codes "1") 1 (mark 1 (ty.Iconst (pos 1)) (to 3 (ty.Of
    u8_t)) means.None (constant.Absent)) ([]) ∷ tree ki.None 1 [] 0 (mark 2 (ty.Of void_t) (to 1 (ty.Of void_t)) means.None
    (constant.Absent)) ([]) ∷ []) ∷ [])

append_forced_is_well : IsWell (in_names_of append_forced) (body_of void_t 1)
    (flow_at (Known (record { ty = bytes_t; mutable = true }) ∷ [])) append_forced
unfolding shape.is_shaped shape.stops shape.begins_labelled
append_forced_is_well =
    record {
      shaped = refl;
      carries = (
        (
          (
            (
              (tt, record { rows = refl; type = refl; node = refl; meaning = refl; value = refl }),
              (
                (
                  tt,
                  record { rows = refl; type = refl; node = refl; meaning = refl; value = refl },
                ),
                (
                  (
                    tt,
                    record {
                      rows = refl;
                      type = refl;
                      node =
                          refl;
                      meaning = refl;
                      value = refl;
                    },
                  ),
                  tt,
                ),
              ),
            ),
            record { rows = refl; type = refl; node = refl; meaning = refl; value = refl },
          ),
          tt,
        ),
        record { rows = refl; type = refl; node = refl; meaning = refl; value = refl },
      );
      coerced = refl;
    }

-- e()?
abbrev error_handed_on : TypedNode
error_handed_on =
    tree ki.Try 4 [] 0 (mark 3 (ty.Of int_t) (to 9 (ty.Of fallible_t)) means.None (constant.Absent)) (tree ki.Call 2 [] 0 (mark 2 (ty.Of
    fallible_t) (to 1 (ty.Of fallible_t)) means.None (constant.Absent)) (tree ki.Path 1 (codes "e") 0 (mark 0 (ty.Of void_t) (to 1 (ty.Of
    void_t)) (means.Decl 17) (constant.Absent)) ([]) ∷ tree ki.None 1 [] 0 (mark 1 (ty.Of void_t) (to 1 (ty.Of void_t)) means.None
    (constant.Absent)) ([]) ∷ []) ∷ [])

error_handed_on_is_well : IsWell (in_names_of error_handed_on) (body_of fallible_t 0) (flow_at ([])) error_handed_on
unfolding shape.is_shaped shape.stops shape.begins_labelled
error_handed_on_is_well =
    record {
      shaped = refl;
      carries = (
        (
          (
            (
              (tt, record { rows = refl; type = refl; node = refl; meaning = refl; value = refl }),
              (
                (
                  tt,
                  record { rows = refl; type = refl; node = refl; meaning = refl; value = refl },
                ),
                tt,
              ),
            ),
            record {
              rows = refl;
              type = refl;
              node =
                  refl;
              meaning = refl;
              value = refl;
            },
          ),
          tt,
        ),
        record { rows = refl; type = refl; node = refl; meaning = refl; value = refl },
      );
      coerced
          = refl;
    }

-- p == null
abbrev null_compared : TypedNode
null_compared =
    tree ki.Equal 3 (codes "==") 0 (mark 2 (ty.Of bool_t) (to 1 (ty.Of bool_t)) means.None (constant.Absent)) (tree ki.Path 1 (codes "p")
    0 (mark 0 (ty.Of nullable_t) (to 1 (ty.Of nullable_t)) (means.Local 0) (constant.Absent)) ([]) ∷ tree ki.Null 6 [] 0 (mark 1
    (ty.Null) (to 6 (ty.Of nullable_t)) means.None (constant.Absent)) ([]) ∷ [])

null_compared_is_well : IsWell (in_names_of null_compared) (body_of bool_t 1)
    (flow_at (Known (record { ty = nullable_t; mutable = true }) ∷ [])) null_compared
unfolding shape.is_shaped shape.stops shape.begins_labelled
null_compared_is_well =
    record {
      shaped = refl;
      carries = (
        (
          (tt, record { rows = refl; type = refl; node = refl; meaning = refl; value = refl }),
          (
            (
              tt,
              record { rows = refl; type = refl; node = refl; meaning = refl; value = refl },
            ),
            tt,
          ),
        ),
        record {
          rows = refl;
          type = refl;
          node =
              refl;
          meaning = refl;
          value = refl;
        },
      );
      coerced = refl;
    }

-- s[0]
abbrev element : TypedNode
element =
    tree ki.Index 2 [] 0 (mark 2 (ty.Of u8_t) (to 1 (ty.Of u8_t)) means.None (constant.Absent)) (tree ki.Path 1 (codes "s") 0 (mark 0
    (ty.Of bytes_t) (to 1 (ty.Of bytes_t)) (means.Local 0) (constant.Absent)) ([]) ∷ tree ki.Number 3 (codes "0") 0 (mark 1 (ty.Iconst
    (pos 0)) (to 3 (ty.Of size_t)) means.None (constant.Absent)) ([]) ∷ [])

element_is_well : IsWell (in_names_of element) (body_of u8_t 1) (flow_at (Known (record { ty = bytes_t; mutable = true }) ∷ [])) element
unfolding shape.is_shaped shape.stops shape.begins_labelled
element_is_well =
    record {
      shaped = refl;
      carries = (
        (
          (tt, record { rows = refl; type = refl; node = refl; meaning = refl; value = refl }),
          (
            (
              tt,
              record { rows = refl; type = refl; node = refl; meaning = refl; value = refl },
            ),
            tt,
          ),
        ),
        record {
          rows = refl;
          type = refl;
          node =
              refl;
          meaning = refl;
          value = refl;
        },
      );
      coerced = refl;
    }

-- 300: u8
abbrev cast_of_exact : TypedNode
cast_of_exact =
    tree ki.Cast 4 [] 0 (mark 2 (ty.Of u8_t) (to 1 (ty.Of u8_t)) means.None (constant.Absent)) (tree ki.Number 1 (codes "300") 300 (mark
    0 (ty.Iconst (pos 300)) (to 1 (ty.Iconst (pos 300))) means.None (constant.Absent)) ([]) ∷ tree ki.TypeScalar 6 (codes "u8") 0 (mark 1
    (ty.Of u8_t) (to 1 (ty.Of u8_t)) means.None (constant.Absent)) ([]) ∷ [])

cast_of_exact_is_well : IsWell (in_names_of cast_of_exact) (body_of u8_t 0) (flow_at ([])) cast_of_exact
unfolding shape.is_shaped shape.stops shape.begins_labelled
cast_of_exact_is_well =
    record {
      shaped = refl;
      carries = (
        (
          (tt, record { rows = refl; type = refl; node = refl; meaning = refl; value = refl }),
          (
            (
              tt,
              record { rows = refl; type = refl; node = refl; meaning = refl; value = refl },
            ),
            tt,
          ),
        ),
        record {
          rows = refl;
          type = refl;
          node =
              refl;
          meaning = refl;
          value = refl;
        },
      );
      coerced = refl;
    }

-- ---- first faults

-- 5 + "a"
abbrev sum_of_int_and_text : TypedNode
sum_of_int_and_text =
    tree ki.Arith 3 (codes "+") 0 (mark 2 (ty.Of int_t) (to 1 (ty.Of int_t)) means.None (constant.Absent)) (tree ki.Number 1 (codes "5")
    5 (mark 0 (ty.Iconst (pos 5)) (to 1 (ty.Iconst (pos 5))) means.None (constant.Absent)) ([]) ∷ tree ki.Str 5 (codes "a") 0 (mark 1
    (ty.Of str_t) (to 1 (ty.Of str_t)) means.None (constant.Absent)) ([]) ∷ [])

sum_of_int_and_text_fails : FailsAt (body_of int_t 0) ([]) sum_of_int_and_text row.ArithCommon 27 3
sum_of_int_and_text_fails = (
  _,
  inr (
    typed_nodes (tree ki.Number 1 (codes "5") 5 (mark 0 (ty.Iconst (pos 5)) (to 1 (ty.Iconst (pos 5))) means.None
        (constant.Absent)) ([]) ∷ tree ki.Str 5 (codes "a") 0 (mark 1 (ty.Of str_t) (to 1 (ty.Of str_t)) means.None (constant.Absent)) ([])
        ∷
        []),
    refl,
    (
      (tt, record { rows = refl; type = refl; node = refl; meaning = refl; value = refl }),
      (
        (
          tt,
          record {
            rows = refl;
            type =
                refl;
            node = refl;
            meaning = refl;
            value = refl;
          },
        ),
        tt,
      ),
    ),
    refl,
    refl,
  ),
  refl,
)

-- { 5; }
abbrev body_that_ends : TypedNode
body_that_ends =
    tree ki.Block 1 [] 0 (mark 1 (ty.Of void_t) (to 1 (ty.Of void_t)) means.None (constant.Absent)) (tree ki.Number 3 (codes "5") 5 (mark
    0 (ty.Iconst (pos 5)) (to 1 (ty.Iconst (pos 5))) means.None (constant.Absent)) ([]) ∷ [])

body_that_ends_fails : FailsAt (body_of int_t 0) ([]) body_that_ends row.BlockReturns 45 1
body_that_ends_fails = (
  _,
  inr (
    typed_nodes (tree ki.Number 3 (codes "5") 5 (mark 0 (ty.Iconst (pos 5)) (to 1 (ty.Iconst (pos 5))) means.None
        (constant.Absent)) ([]) ∷ []),
    refl,
    ((tt, record { rows = refl; type = refl; node = refl; meaning = refl; value = refl }), tt),
    refl,
    refl,
  ),
  refl,
)

-- g(5 + "a")
abbrev argument_before_callee : TypedNode
argument_before_callee =
    tree ki.Call 2 [] 0 (mark 5 (ty.Of int_t) (to 1 (ty.Of int_t)) means.None (constant.Absent)) (tree ki.Path 1 (codes "g") 0 (mark 0
    (ty.Of void_t) (to 1 (ty.Of void_t)) (means.Decl 0) (constant.Absent)) ([]) ∷ tree ki.Arith 5 (codes "+") 0 (mark 3 (ty.Of int_t) (to
    1 (ty.Of int_t)) means.None (constant.Absent)) (tree ki.Number 3 (codes "5") 5 (mark 1 (ty.Iconst (pos 5)) (to 1 (ty.Iconst (pos 5)))
    means.None (constant.Absent)) ([]) ∷ tree ki.Str 7 (codes "a") 0 (mark 2 (ty.Of str_t) (to 1 (ty.Of str_t)) means.None
    (constant.Absent)) ([]) ∷ []) ∷ tree ki.None 1 [] 0 (mark 4 (ty.Of void_t) (to 1 (ty.Of void_t)) means.None (constant.Absent)) ([]) ∷
    [])

argument_before_callee_fails : FailsAt (body_of int_t 0) ([]) argument_before_callee row.ArithCommon 27 5
argument_before_callee_fails = (
  _,
  inl (inr (
    tree ki.Path 1 (codes "g") 0 (mark 0 (ty.Of void_t) (to 1 (ty.Of void_t)) (means.Decl 0) (constant.Absent)) ([]),
    refl,
    (tt, record { rows = refl; type = refl; node = refl; meaning = refl; value = refl }),
    inl (inr (
      typed_nodes (tree ki.Number 3 (codes
          "5") 5 (mark 1 (ty.Iconst (pos 5)) (to 1 (ty.Iconst (pos 5))) means.None (constant.Absent)) ([]) ∷ tree ki.Str 7 (codes "a") 0
          (mark
          2 (ty.Of str_t) (to 1 (ty.Of str_t)) means.None (constant.Absent)) ([]) ∷ []),
      refl,
      (
        (
          tt,
          record {
            rows = refl;
            type = refl;
            node =
                refl;
            meaning = refl;
            value = refl;
          },
        ),
        ((tt, record { rows = refl; type = refl; node = refl; meaning = refl; value = refl }), tt),
      ),
      refl,
      refl,
    )),
  )),
  refl,
)

-- for (let x .. 5) x
abbrev binding_of_odd_loop : TypedNode
binding_of_odd_loop =
    tree ki.ForEach 1 [] 0 (mark 4 (ty.Of void_t) (to 1 (ty.Of void_t)) means.None (constant.Absent)) (tree ki.Binding 6 (codes "x") 0
    (mark 1 (ty.Of void_t) (to 1 (ty.Of void_t)) means.None (constant.Absent)) (tree ki.None 1 [] 0 (mark 0 (ty.Of void_t) (to 1 (ty.Of
    void_t)) means.None (constant.Absent)) ([]) ∷ []) ∷ tree ki.Number 15 (codes "5") 5 (mark 2 (ty.Iconst (pos 5)) (to 1 (ty.Iconst (pos
    5))) means.None (constant.Absent)) ([]) ∷ tree ki.Path 18 (codes "x") 0 (mark 3 (ty.Of int_t) (to 1 (ty.Of int_t)) (means.Local 0)
    (constant.Absent)) ([]) ∷ [])

binding_of_odd_loop_fails : FailsAt (body_of void_t 0) (Later ∷ []) binding_of_odd_loop row.PathBindingKnown 33 1
binding_of_odd_loop_fails = (
  _,
  inl (inr (
    tree ki.Binding 6 (codes "x") 0 (mark 1 (ty.Of void_t) (to 1 (ty.Of void_t)) means.None (constant.Absent)) (tree
        ki.None 1 [] 0 (mark 0 (ty.Of void_t) (to 1 (ty.Of void_t)) means.None (constant.Absent)) ([]) ∷ []),
    refl,
    (
      (
        (
          tt,
          record {
            rows =
                refl;
            type = refl;
            node = refl;
            meaning = refl;
            value = refl;
          },
        ),
        tt,
      ),
      record {
        rows = refl;
        type = refl;
        node = refl;
        meaning = refl;
        value = refl;
      },
    ),
    inr (
      tree ki.Number 15 (codes "5") 5 (mark 2 (ty.Iconst (pos 5)) (to 1 (ty.Iconst (pos 5))) means.None
          (constant.Absent)) ([]),
      refl,
      (tt, record { rows = refl; type = refl; node = refl; meaning = refl; value = refl }),
      inl (inr
          (typed_nodes ([]), refl, tt, refl, refl)),
    ),
  )),
  refl,
)

-- for (let x .. 5) { }
abbrev odd_loop : TypedNode
odd_loop =
    tree ki.ForEach 1 [] 0 (mark 4 (ty.Of void_t) (to 1 (ty.Of void_t)) means.None (constant.Absent)) (tree ki.Binding 6 (codes "x") 0
    (mark 1 (ty.Of void_t) (to 1 (ty.Of void_t)) means.None (constant.Absent)) (tree ki.None 1 [] 0 (mark 0 (ty.Of void_t) (to 1 (ty.Of
    void_t)) means.None (constant.Absent)) ([]) ∷ []) ∷ tree ki.Number 15 (codes "5") 5 (mark 2 (ty.Iconst (pos 5)) (to 1 (ty.Iconst (pos
    5))) means.None (constant.Absent)) ([]) ∷ tree ki.Block 18 [] 0 (mark 3 (ty.Of void_t) (to 1 (ty.Of void_t)) means.None
    (constant.Absent)) ([]) ∷ [])

odd_loop_fails : FailsAt (body_of void_t 0) (Later ∷ []) odd_loop row.ForEachSequence 33 1
odd_loop_fails = (
  _,
  inr (
    typed_nodes (tree ki.Binding 6 (codes "x") 0 (mark 1 (ty.Of void_t) (to 1 (ty.Of void_t)) means.None (constant.Absent))
        (tree ki.None 1 [] 0 (mark 0 (ty.Of void_t) (to 1 (ty.Of void_t)) means.None (constant.Absent)) ([]) ∷ []) ∷ tree ki.Number 15
        (codes
        "5") 5 (mark 2 (ty.Iconst (pos 5)) (to 1 (ty.Iconst (pos 5))) means.None (constant.Absent)) ([]) ∷ tree ki.Block 18 [] 0 (mark 3
        (ty.Of void_t) (to 1 (ty.Of void_t)) means.None (constant.Absent)) ([]) ∷ []),
    refl,
    (
      (
        (
          (
            tt,
            record {
              rows = refl;
              type = refl;
              node
                  = refl;
              meaning = refl;
              value = refl;
            },
          ),
          tt,
        ),
        record { rows = refl; type = refl; node = refl; meaning = refl; value = refl },
      ),
      (
        (
          tt,
          record { rows = refl; type = refl; node = refl; meaning = refl; value = refl },
        ),
        (
          (
            tt,
            record {
              rows = refl;
              type = refl;
              node =
                  refl;
              meaning = refl;
              value = refl;
            },
          ),
          tt,
        ),
      ),
    ),
    refl,
    refl,
  ),
  refl,
)

-- for (true) { defer break; }
abbrev break_out_of_a_defer : TypedNode
break_out_of_a_defer =
    tree ki.For 1 [] 0 (mark 6 (ty.Of void_t) (to 1 (ty.Of void_t)) means.None (constant.Absent)) (tree ki.None 1 [] 0 (mark 0 (ty.Of
    void_t) (to 1 (ty.Of void_t)) means.None (constant.Absent)) ([]) ∷ tree ki.Bool 6 (codes "true") 0 (mark 1 (ty.Of bool_t) (to 1
    (ty.Of bool_t)) means.None (constant.Absent)) ([]) ∷ tree ki.None 1 [] 0 (mark 2 (ty.Of void_t) (to 1 (ty.Of void_t)) means.None
    (constant.Absent)) ([]) ∷ tree ki.Block 12 [] 0 (mark 5 (ty.Of void_t) (to 1 (ty.Of void_t)) means.None (constant.Absent)) (tree
    ki.Defer 14 [] 0 (mark 4 (ty.Of void_t) (to 1 (ty.Of void_t)) means.None (constant.Absent)) (tree ki.Break 20 [] 0 (mark 3 (ty.Of
    never_t) (to 1 (ty.Of never_t)) means.None (constant.Absent)) ([]) ∷ []) ∷ []) ∷ [])

break_out_of_a_defer_fails : FailsAt (body_of void_t 0) ([]) break_out_of_a_defer row.JumpInside 41 20
break_out_of_a_defer_fails = (
  _,
  inl (inr (
    tree ki.None 1 [] 0 (mark 0 (ty.Of void_t) (to 1 (ty.Of void_t)) means.None (constant.Absent)) ([]),
    refl,
    (
      tt,
      record
          { rows = refl; type = refl; node = refl; meaning = refl; value = refl },
    ),
    inr (
      tree ki.Bool 6 (codes "true") 0 (mark 1 (ty.Of bool_t)
          (to 1 (ty.Of bool_t)) means.None (constant.Absent)) ([]),
      refl,
      (
        tt,
        record {
          rows = refl;
          type = refl;
          node = refl;
          meaning = refl;
          value = refl;
        },
      ),
      inr (
        tree ki.None 1 [] 0 (mark 2 (ty.Of void_t) (to 1 (ty.Of void_t)) means.None (constant.Absent)) ([]),
        refl,
        (
          tt,
          record { rows = refl; type = refl; node = refl; meaning = refl; value = refl },
        ),
        inl (inl (inl (inl (inl (inr (
          typed_nodes ([]),
          refl,
          tt,
          refl,
          refl,
        )))))),
      ),
    ),
  )),
  refl,
)

-- { append(s, 1); }
abbrev append_dropped : TypedNode
append_dropped =
    tree ki.Block 1 [] 0 (mark 4 (ty.Of void_t) (to 1 (ty.Of void_t)) means.None (constant.Absent)) (tree ki.Append 3 [] 0 (mark 3 (ty.Of
    appended_t) (to 1 (ty.Of appended_t)) means.None (constant.Absent)) (tree ki.Path 10 (codes "s") 0 (mark 0 (ty.Of bytes_t) (to 1
    (ty.Of bytes_t)) (means.Local 0) (constant.Absent)) ([]) ∷ tree ki.Number 13 (codes "1") 1 (mark 1 (ty.Iconst (pos 1)) (to 3 (ty.Of
    u8_t)) means.None (constant.Absent)) ([]) ∷ tree ki.None 1 [] 0 (mark 2 (ty.Of void_t) (to 1 (ty.Of void_t)) means.None
    (constant.Absent)) ([]) ∷ []) ∷ [])

append_dropped_fails : FailsAt (body_of void_t 1) (Known (record { ty = bytes_t; mutable = true }) ∷ []) append_dropped row.Kept 44 3
append_dropped_fails = (
  _,
  inl (inl (inr (
    typed_nodes (tree ki.Path 10 (codes "s") 0 (mark 0 (ty.Of bytes_t) (to 1 (ty.Of bytes_t)) (means.Local 0)
        (constant.Absent)) ([]) ∷ tree ki.Number 13 (codes "1") 1 (mark 1 (ty.Iconst (pos 1)) (to 3 (ty.Of u8_t)) means.None
        (constant.Absent)) ([]) ∷ tree ki.None 1 [] 0 (mark 2 (ty.Of void_t) (to 1 (ty.Of void_t)) means.None (constant.Absent)) ([]) ∷ []),
    refl,
    (
      (tt, record { rows = refl; type = refl; node = refl; meaning = refl; value = refl }),
      (
        (
          tt,
          record {
            rows = refl;
            type = refl;
            node = refl;
            meaning = refl;
            value = refl;
          },
        ),
        (
          (tt, record { rows = refl; type = refl; node = refl; meaning = refl; value = refl }),
          tt,
        ),
      ),
    ),
    refl,
    refl,
  ))),
  refl,
)

-- { let x: u8 = 256; }
abbrev number_too_large : TypedNode
number_too_large =
    tree ki.Block 1 [] 0 (mark 3 (ty.Of void_t) (to 1 (ty.Of void_t)) means.None (constant.Absent)) (tree ki.Let 3 (codes "x") 0 (mark 2
    (ty.Of void_t) (to 1 (ty.Of void_t)) means.None (constant.Absent)) (tree ki.TypeScalar 10 (codes "u8") 0 (mark 0 (ty.Of u8_t) (to 1
    (ty.Of u8_t)) means.None (constant.Absent)) ([]) ∷ tree ki.Number 15 (codes "256") 256 (mark 1 (ty.Iconst (pos 256)) (to 1 (ty.Iconst
    (pos 256))) means.None (constant.Absent)) ([]) ∷ []) ∷ [])

number_too_large_fails : FailsAt (body_of void_t 0) (Later ∷ []) number_too_large row.Site 25 15
number_too_large_fails = (
  _,
  inl (inl (inl (inr (
    tree ki.TypeScalar 10 (codes "u8") 0 (mark 0 (ty.Of u8_t) (to 1 (ty.Of u8_t)) means.None (constant.Absent))
        ([]),
    refl,
    (tt, record { rows = refl; type = refl; node = refl; meaning = refl; value = refl }),
    inl (inr (
      typed_nodes ([]),
      refl,
      tt,
      refl,
      refl,
    )),
  )))),
  refl,
)

-- { let x = { if (b) yield 6; yield "a"; }; }
abbrev second_yield_misfits : TypedNode
second_yield_misfits =
    tree ki.Block 1 [] 0 (mark 10 (ty.Of void_t) (to 1 (ty.Of void_t)) means.None (constant.Absent)) (tree ki.Let 3 (codes "x") 0 (mark 9
    (ty.Of void_t) (to 1 (ty.Of void_t)) means.None (constant.Absent)) (tree ki.None 1 [] 0 (mark 0 (ty.Of void_t) (to 1 (ty.Of void_t))
    means.None (constant.Absent)) ([]) ∷ tree ki.Block 11 [] 0 (mark 8 (ty.Of int_t) (to 1 (ty.Of int_t)) means.None (constant.Absent))
    (tree ki.If 13 [] 0 (mark 5 (ty.Of void_t) (to 1 (ty.Of void_t)) means.None (constant.Absent)) (tree ki.Path 17 (codes "b") 0 (mark 1
    (ty.Of bool_t) (to 1 (ty.Of bool_t)) (means.Local 0) (constant.Absent)) ([]) ∷ tree ki.Yield 20 [] 0 (mark 3 (ty.Of never_t) (to 1
    (ty.Of never_t)) means.None (constant.Absent)) (tree ki.Number 26 (codes "6") 6 (mark 2 (ty.Iconst (pos 6)) (to 1 (ty.Iconst (pos
    6))) means.None (constant.Absent)) ([]) ∷ []) ∷ tree ki.None 1 [] 0 (mark 4 (ty.Of void_t) (to 1 (ty.Of void_t)) means.None
    (constant.Absent)) ([]) ∷ []) ∷ tree ki.Yield 29 [] 0 (mark 7 (ty.Of never_t) (to 1 (ty.Of never_t)) means.None (constant.Absent))
    (tree ki.Str 35 (codes "a") 0 (mark 6 (ty.Of str_t) (to 1 (ty.Of str_t)) means.None (constant.Absent)) ([]) ∷ []) ∷ []) ∷ []) ∷ [])

second_yield_misfits_fails : FailsAt (body_of void_t 1) (Known (record { ty = bool_t; mutable = true }) ∷ Later ∷ []) second_yield_misfits
    row.BlockRestFits 39 35
second_yield_misfits_fails = (
  _,
  inl (inl (inl (inr (
    tree ki.None 1 [] 0 (mark 0 (ty.Of void_t) (to 1 (ty.Of void_t)) means.None (constant.Absent)) ([]),
    refl,
    (tt, record { rows = refl; type = refl; node = refl; meaning = refl; value = refl }),
    inl (inr (
      typed_nodes (tree ki.If 13 [] 0 (mark
          5 (ty.Of void_t) (to 1 (ty.Of void_t)) means.None (constant.Absent)) (tree ki.Path 17 (codes "b") 0 (mark 1 (ty.Of bool_t) (to 1
          (ty.Of bool_t)) (means.Local 0) (constant.Absent)) ([]) ∷ tree ki.Yield 20 [] 0 (mark 3 (ty.Of never_t) (to 1 (ty.Of never_t))
          means.None (constant.Absent)) (tree ki.Number 26 (codes "6") 6 (mark 2 (ty.Iconst (pos 6)) (to 1 (ty.Iconst (pos 6))) means.None
          (constant.Absent)) ([]) ∷ []) ∷ tree ki.None 1 [] 0 (mark 4 (ty.Of void_t) (to 1 (ty.Of void_t)) means.None (constant.Absent))
          ([]) ∷
          []) ∷ tree ki.Yield 29 [] 0 (mark 7 (ty.Of never_t) (to 1 (ty.Of never_t)) means.None (constant.Absent))
          (tree ki.Str 35 (codes "a")
          0 (mark 6 (ty.Of str_t) (to 1 (ty.Of str_t)) means.None (constant.Absent)) ([]) ∷ []) ∷ []),
      refl,
      (
        (
          (
            (
              tt,
              record {
                rows = refl;
                type
                    = refl;
                node = refl;
                meaning = refl;
                value = refl;
              },
            ),
            (
              (
                (
                  (
                    tt,
                    record {
                      rows = refl;
                      type = refl;
                      node = refl;
                      meaning = refl;
                      value =
                          refl;
                    },
                  ),
                  tt,
                ),
                record { rows = refl; type = refl; node = refl; meaning = refl; value = refl },
              ),
              (
                (
                  tt,
                  record {
                    rows = refl;
                    type =
                        refl;
                    node = refl;
                    meaning = refl;
                    value = refl;
                  },
                ),
                tt,
              ),
            ),
          ),
          record {
            rows = refl;
            type = refl;
            node = refl;
            meaning = refl;
            value =
                refl;
          },
        ),
        (
          (
            ((tt, record { rows = refl; type = refl; node = refl; meaning = refl; value = refl }), tt),
            record {
              rows = refl;
              type =
                  refl;
              node = refl;
              meaning = refl;
              value = refl;
            },
          ),
          tt,
        ),
      ),
      refl,
      refl,
    )),
  )))),
  refl,
)

-- match (e) { case int => yield 1; }
abbrev member_without_case : TypedNode
member_without_case =
    tree ki.Match 1 [] 0 (mark 5 (ty.Of int_t) (to 1 (ty.Of int_t)) means.None (constant.Absent)) (tree ki.Path 8 (codes "e") 0 (mark 0
    (ty.Of either_t) (to 1 (ty.Of either_t)) (means.Local 0) (constant.Absent)) ([]) ∷ tree ki.Case 13 [] 0 (mark 4 (ty.Of int_t) (to 1
    (ty.Of int_t)) means.None (constant.Absent)) (tree ki.TypeScalar 18 (codes "int") 0 (mark 1 (ty.Of int_t) (to 1 (ty.Of int_t))
    means.None (constant.Absent)) ([]) ∷ tree ki.Yield 25 [] 0 (mark 3 (ty.Of never_t) (to 1 (ty.Of never_t)) means.None
    (constant.Absent)) (tree ki.Number 31 (codes "1") 1 (mark 2 (ty.Iconst (pos 1)) (to 3 (ty.Of int_t)) means.None (constant.Absent))
    ([]) ∷ []) ∷ []) ∷ [])

member_without_case_fails : FailsAt (body_of int_t 1) (Known (record { ty = either_t; mutable = true }) ∷ []) member_without_case
    row.MatchCovered 37 1
member_without_case_fails = (
  _,
  inr (
    typed_nodes (tree ki.Path 8 (codes "e") 0 (mark 0 (ty.Of either_t) (to 1 (ty.Of either_t)) (means.Local 0)
        (constant.Absent)) ([]) ∷ tree ki.Case 13 [] 0 (mark 4 (ty.Of int_t) (to 1 (ty.Of int_t)) means.None (constant.Absent)) (tree
        ki.TypeScalar 18 (codes "int") 0 (mark 1 (ty.Of int_t) (to 1 (ty.Of int_t)) means.None (constant.Absent)) ([]) ∷ tree ki.Yield 25 []
        0 (mark 3 (ty.Of never_t) (to 1 (ty.Of never_t)) means.None (constant.Absent)) (tree ki.Number 31 (codes "1") 1 (mark 2 (ty.Iconst
        (pos 1)) (to 3 (ty.Of int_t)) means.None (constant.Absent)) ([]) ∷ []) ∷ []) ∷ []),
    refl,
    (
      (
        tt,
        record {
          rows = refl;
          type = refl;
          node = refl;
          meaning = refl;
          value = refl;
        },
      ),
      (
        (
          (
            (
              tt,
              record {
                rows = refl;
                type = refl;
                node = refl;
                meaning = refl;
                value = refl;
              },
            ),
            (
              (
                ((tt, record { rows = refl; type = refl; node = refl; meaning = refl; value = refl }), tt),
                record {
                  rows = refl;
                  type = refl;
                  node = refl;
                  meaning = refl;
                  value = refl;
                },
              ),
              tt,
            ),
          ),
          record { rows = refl; type = refl; node = refl; meaning = refl; value = refl },
        ),
        tt,
      ),
    ),
    refl,
    refl,
  ),
  refl,
)

-- { let x: opaque = 5 + "a"; }
abbrev unsized_type_before_value : TypedNode
unsized_type_before_value =
    tree ki.Block 1 [] 0 (mark 5 (ty.Of void_t) (to 1 (ty.Of void_t)) means.None (constant.Absent)) (tree ki.Let 3 (codes "x") 0 (mark 4
    (ty.Of void_t) (to 1 (ty.Of void_t)) means.None (constant.Absent)) (tree ki.TypeScalar 10 (codes "opaque") 0 (mark 0 (ty.Of opaque_t)
    (to 1 (ty.Of opaque_t)) means.None (constant.Absent)) ([]) ∷ tree ki.Arith 21 (codes "+") 0 (mark 3 (ty.Of int_t) (to 1 (ty.Of
    int_t)) means.None (constant.Absent)) (tree ki.Number 19 (codes "5") 5 (mark 1 (ty.Iconst (pos 5)) (to 1 (ty.Iconst (pos 5)))
    means.None (constant.Absent)) ([]) ∷ tree ki.Str 23 (codes "a") 0 (mark 2 (ty.Of str_t) (to 1 (ty.Of str_t)) means.None
    (constant.Absent)) ([]) ∷ []) ∷ []) ∷ [])

unsized_type_before_value_fails : FailsAt (body_of void_t 0) (Later ∷ []) unsized_type_before_value row.Bound 17 10
unsized_type_before_value_fails =
    (_, inl (inl (inl (inl (inr (typed_nodes ([]), refl, tt, refl, refl))))), refl)
