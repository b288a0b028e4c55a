-- The table at work on small texts, by computing: shaped trees are read back from their tokens, and a token that cannot stand is found.
use Rattle.std.proofs.Common.{◌≡◌, ℕ, List, [], ◌∷◌, ◌++◌, length, codes, true, refl}
use Rattle.hare_tree.specs.declared.kind.Kind.{Kind}
use Rattle.hare_tree.specs.declared.kind.Kind.TheVariants as ki
use Rattle.hare_tree.specs.declared.token.TokenKind.TheVariants as tk
use Rattle.hare_tree.specs.declared.token.Suffix.TheVariants as suffix
use Rattle.hare_tree.specs.declared.token.Token.{Token}
use Rattle.hare_tree.specs.declared.form.Sort.{Sort}
use Rattle.hare_tree.specs.declared.form.Sort.TheVariants as so
use Rattle.hare_tree.specs.declared.form.Sign.TheVariants as si
use Rattle.hare_tree.specs.Node.{Node, branch, none, nodes_of}
use Rattle.hare_tree.specs.Forms.{expr}
use Rattle.hare_tree.specs.declared.tree.FileTree.{FileTree}
use Rattle.hare_tree.specs.Spell.{start_of, word_token, sign_token, spell, spell_file}
use Rattle.hare_tree.specs.Shape.{is_shaped, is_shaped_file, stops, begins_labelled}
use Rattle.hare_automaton.specs.declared.rule.Rule.TheVariants as ru
use Rattle.hare_automaton.specs.Rows.{of, part}
use Rattle.hare_automaton.specs.Engine.{run, step, Outcome, Done, Fails, begun, bottom}

-- ---- small words for trees and tokens

abbrev tree : Kind → List ℕ → List Node → Node
tree k x ts = branch (record { kind = k; place = start_of 0; text = x; number = 0; suffix = suffix.None }) (nodes_of ts)

abbrev no : Node
no = tree ki.None [] []

abbrev comma : Node
comma = tree ki.TrailingComma [] []

abbrev int : Node
int = tree ki.TypeScalar (codes "int") []

abbrev void : Node
void = tree ki.TypeScalar (codes "void") []

abbrev a : Node
a = tree ki.Path (codes "a") []

abbrev b : Node
b = tree ki.Path (codes "b") []

abbrev five : Node
five = branch (record { kind = ki.Number; place = start_of 0; text = codes "5"; number = 5; suffix = suffix.None }) none

abbrev named : List ℕ → Node
named x = tree ki.Name x []

abbrev end : Token
end = word_token 0 tk.End []

-- the tree is shaped, and comes back from its tokens
record ReadsBack (s : Sort) (t : Node) : Type 0 where
  shaped : is_shaped s t ≡ true
  read : run 0 (spell 0 t ++ end ∷ []) (of s ∷ []) bottom ≡ Done (end ∷ []) (begun (start_of 0) (t ∷ []) ∷ [])

-- how many tokens stand behind the one that cannot stand where it does
abbrev left : Outcome → ℕ
left (Done w gs) = 1000
left (Fails w) = length w

abbrev word : List ℕ → Token
word x = word_token 0 tk.Name x

abbrev fails : Sort → List Token → ℕ
fails s w = left (run 0 (w ++ end ∷ []) (of s ∷ []) bottom)

-- ---- types

scalar_type : ReadsBack so.Type int
unfolding is_shaped stops begins_labelled spell run step
scalar_type = record { shaped = refl; read = refl }

-- *[]!a::b
pointer_type : ReadsBack so.Type (tree ki.TypePointer []
    (tree ki.TypeSlice [] (tree ki.TypeError [] (tree ki.TypePath (codes "a::b") [] ∷ []) ∷ []) ∷ []))
unfolding is_shaped stops begins_labelled spell run step
pointer_type = record { shaped = refl; read = refl }

-- nullable *[5]int
array_type : ReadsBack so.Type (tree ki.TypeNullable [] (tree ki.TypeArray [] (five ∷ int ∷ []) ∷ []))
unfolding is_shaped stops begins_labelled spell run step
array_type = record { shaped = refl; read = refl }

-- [a::nomem]int
array_of_path : ReadsBack so.Type (tree ki.TypeArray [] (tree ki.Path (codes "a::nomem") [] ∷ int ∷ []))
unfolding is_shaped stops begins_labelled spell run step
array_of_path = record { shaped = refl; read = refl }

-- struct { a: int, b: void, }
struct_type : ReadsBack so.Type (tree ki.TypeStruct []
    (tree ki.StructField (codes "a") (int ∷ []) ∷ tree ki.StructField (codes "b") (void ∷ []) ∷ comma ∷ []))
unfolding is_shaped stops begins_labelled spell run step
struct_type = record { shaped = refl; read = refl }

-- (int, void, int)
tuple_type : ReadsBack so.Type (tree ki.TypeTuple [] (int ∷ void ∷ int ∷ no ∷ []))
unfolding is_shaped stops begins_labelled spell run step
tuple_type = record { shaped = refl; read = refl }

-- (...a::b | int | !void)
union_type : ReadsBack so.Type (tree ki.TypeUnion []
    (tree ki.Spread [] (tree ki.TypePath (codes "a::b") [] ∷ []) ∷ int ∷ tree ki.TypeError [] (void ∷ []) ∷ []))
unfolding is_shaped stops begins_labelled spell run step
union_type = record { shaped = refl; read = refl }

-- (int): the parenthesis is one token too early
one_in_parentheses : fails so.Type (sign_token 0 si.LeftParen ∷ word_token 0 tk.Keyword (codes "int") ∷ sign_token 0 si.RightParen ∷ []) ≡ 2
unfolding run step
one_in_parentheses = refl

-- nomem::a: no name in front
nomem_in_front : fails so.Type (word (codes "nomem") ∷ sign_token 0 si.PathMark ∷ word (codes "a") ∷ []) ≡ 4
unfolding run step
nomem_in_front = refl

-- ---- expressions

-- a + b * 5 - a
precedence : ReadsBack expr (tree ki.Arith (codes "-")
    (tree ki.Arith (codes "+") (a ∷ tree ki.Arith (codes "*") (b ∷ five ∷ []) ∷ []) ∷ a ∷ []))
unfolding is_shaped stops begins_labelled spell run step
precedence = record { shaped = refl; read = refl }

-- a || b && a == b < 5 << a
levels : ReadsBack expr (tree ki.Logic (codes "||")
    (a ∷ tree ki.Logic (codes "&&") (b ∷ tree ki.Equal (codes "==")
    (a ∷ tree ki.Less (codes "<") (b ∷ tree ki.Shift (codes "<<") (five ∷ a ∷ []) ∷ []) ∷ []) ∷ []) ∷ []))
unfolding is_shaped stops begins_labelled spell run step
levels = record { shaped = refl; read = refl }

-- -a.b(a, b,)[5]! : int as void
postfixes : ReadsBack expr (tree ki.As [] (tree ki.Cast []
    (tree ki.Neg [] (tree ki.Force [] (tree ki.Index []
    (tree ki.Call [] (tree ki.Field (codes "b") (a ∷ []) ∷ a ∷ b ∷ comma ∷ []) ∷ five ∷ []) ∷ []) ∷ []) ∷ int ∷ []) ∷ void ∷ []))
unfolding is_shaped stops begins_labelled spell run step
postfixes = record { shaped = refl; read = refl }

-- a[..b], a[b..]
slices : ReadsBack expr (tree ki.Array [] (tree ki.Slice [] (a ∷ no ∷ b ∷ []) ∷ tree ki.Slice [] (a ∷ b ∷ no ∷ []) ∷ no ∷ no ∷ []))
unfolding is_shaped stops begins_labelled spell run step
slices = record { shaped = refl; read = refl }

-- [a, b...,]
elements : ReadsBack expr (tree ki.Array [] (a ∷ b ∷ tree ki.Dots [] [] ∷ comma ∷ []))
unfolding is_shaped stops begins_labelled spell run step
elements = record { shaped = refl; read = refl }

-- [a, b,]
elements_and_comma : ReadsBack expr (tree ki.Array [] (a ∷ b ∷ no ∷ comma ∷ []))
unfolding is_shaped stops begins_labelled spell run step
elements_and_comma = record { shaped = refl; read = refl }

-- *a += b = 5
assignments : ReadsBack expr (tree ki.OpAssign (codes "+=") (tree ki.Deref [] (a ∷ []) ∷ tree ki.Assign [] (b ∷ five ∷ []) ∷ []))
unfolding is_shaped stops begins_labelled spell run step
assignments = record { shaped = refl; read = refl }

-- a::b { a = (5), b = (a, b) }
struct_value : ReadsBack expr (tree ki.StructLit []
    (tree ki.TypePath (codes "a::b") [] ∷ tree ki.FieldValue (codes "a") (tree ki.Paren [] (five ∷ []) ∷ []) ∷ tree ki.FieldValue
    (codes "b") (tree ki.Tuple [] (a ∷ b ∷ no ∷ []) ∷ []) ∷ no ∷ []))
unfolding is_shaped stops begins_labelled spell run step
struct_value = record { shaped = refl; read = refl }

-- if (a) if (b) 5 else a
nearest_if : ReadsBack expr (tree ki.If [] (a ∷ tree ki.If [] (b ∷ five ∷ a ∷ []) ∷ no ∷ []))
unfolding is_shaped stops begins_labelled spell run step
nearest_if = record { shaped = refl; read = refl }

-- for :b (let a: int = 5; a < b; a += 5) { }
loop : ReadsBack expr (tree ki.For (codes "b")
    (tree ki.Let (codes "a") (int ∷ five ∷ []) ∷ tree ki.Less (codes "<") (a ∷ b ∷ []) ∷ tree ki.OpAssign (codes "+=") (a ∷ five ∷ []) ∷
    tree ki.Block [] [] ∷ []))
unfolding is_shaped stops begins_labelled spell run step
loop = record { shaped = refl; read = refl }

-- for (a) break :b
loop_alone : ReadsBack expr (tree ki.For [] (no ∷ a ∷ no ∷ tree ki.Break (codes "b") [] ∷ []))
unfolding is_shaped stops begins_labelled spell run step
loop_alone = record { shaped = refl; read = refl }

-- for (let a & .. b) continue
loop_over : ReadsBack expr (tree ki.ForEach [] (tree ki.Binding (codes "a") (tree ki.ByRef [] [] ∷ []) ∷ b ∷ tree ki.Continue [] [] ∷ []))
unfolding is_shaped stops begins_labelled spell run step
loop_over = record { shaped = refl; read = refl }

-- :a { let b = 5; yield :a, return; }
block : ReadsBack expr (tree ki.Block (codes "a")
    (tree ki.Let (codes "b") (no ∷ five ∷ []) ∷ tree ki.Yield (codes "a") (tree ki.Return [] (no ∷ []) ∷ []) ∷ []))
unfolding is_shaped stops begins_labelled spell run step
block = record { shaped = refl; read = refl }

-- match (a) { case let b: int => b; case null => case => a; }
match_value : ReadsBack expr (tree ki.Match []
    (a ∷ tree ki.Case [] (tree ki.PatternLet (codes "b") (int ∷ []) ∷ b ∷ []) ∷ tree ki.Case [] (tree ki.PatternNull [] [] ∷ []) ∷ tree
    ki.Case [] (no ∷ a ∷ []) ∷ []))
unfolding is_shaped stops begins_labelled spell run step
match_value = record { shaped = refl; read = refl }

-- switch (a) { case 5, b => a; }
switch_value : ReadsBack expr (tree ki.Switch [] (a ∷ tree ki.SwitchCase [] (tree ki.Values [] (five ∷ b ∷ no ∷ []) ∷ a ∷ []) ∷ []))
unfolding is_shaped stops begins_labelled spell run step
switch_value = record { shaped = refl; read = refl }

-- alloc(a, 5)
allocation : ReadsBack expr (tree ki.Alloc [] (a ∷ five ∷ []))
unfolding is_shaped stops begins_labelled spell run step
allocation = record { shaped = refl; read = refl }

-- append(a, b...)
append_all : ReadsBack expr (tree ki.Append [] (a ∷ b ∷ tree ki.Dots [] [] ∷ []))
unfolding is_shaped stops begins_labelled spell run step
append_all = record { shaped = refl; read = refl }

-- assert(a, "b")
assertion : ReadsBack expr (tree ki.Assert [] (a ∷ tree ki.Message (codes "b") [] ∷ []))
unfolding is_shaped stops begins_labelled spell run step
assertion = record { shaped = refl; read = refl }

-- abort()
abort_alone : ReadsBack expr (tree ki.Abort [] (no ∷ []))
unfolding is_shaped stops begins_labelled spell run step
abort_alone = record { shaped = refl; read = refl }

-- free(&a) is *int
builtin_and_type_test : ReadsBack expr (tree ki.Is []
    (tree ki.Free [] (tree ki.Addr [] (a ∷ []) ∷ []) ∷ tree ki.TypePointer [] (int ∷ []) ∷ []))
unfolding is_shaped stops begins_labelled spell run step
builtin_and_type_test = record { shaped = refl; read = refl }

-- size(int) ^ align((int, void)) | 5
levels_of_bits : ReadsBack expr (tree ki.Arith (codes "|")
    (tree ki.Arith (codes "^") (tree ki.Size [] (int ∷ []) ∷ tree ki.Align [] (tree ki.TypeTuple [] (int ∷ void ∷ no ∷ []) ∷ []) ∷ []) ∷
    five ∷ []))
unfolding is_shaped stops begins_labelled spell run step
levels_of_bits = record { shaped = refl; read = refl }

-- { defer a; const b: int = 5; yield a; }
statements : ReadsBack expr (tree ki.Block []
    (tree ki.Defer [] (a ∷ []) ∷ tree ki.Const (codes "b") (int ∷ five ∷ []) ∷ tree ki.Yield [] (a ∷ []) ∷ []))
unfolding is_shaped stops begins_labelled spell run step
statements = record { shaped = refl; read = refl }

-- ~!true
prefixes : ReadsBack expr (tree ki.Not [] (tree ki.Bang [] (tree ki.Bool (codes "true") [] ∷ []) ∷ []))
unfolding is_shaped stops begins_labelled spell run step
prefixes = record { shaped = refl; read = refl }

-- a + b = 5: no assignment to a sum
assignment_to_sum : fails (so.Statement) (word (codes "a") ∷ word_token 0 tk.Mark (codes "+") ∷ word (codes "b") ∷ sign_token 0 si.Equals ∷
    word (codes "a") ∷ []) ≡ 1000
unfolding run step
assignment_to_sum = refl

-- (a +): no operand
operand_lacks : fails expr (sign_token 0 si.LeftParen ∷ word (codes "a") ∷ word_token 0 tk.Mark (codes "+") ∷ sign_token 0 si.RightParen ∷
    []) ≡ 2
unfolding run step
operand_lacks = refl

-- ---- declarations

-- use a::b::{a, b};
import_names : ReadsBack so.Use (tree ki.UseNames []
    (tree ki.ImportPath [] (named (codes "a") ∷ named (codes "b") ∷ []) ∷ named (codes "a") ∷ named (codes "b") ∷ no ∷ []))
unfolding is_shaped stops begins_labelled spell run step
import_names = record { shaped = refl; read = refl }

-- use b = a::nomem;
import_alias : ReadsBack so.Use (tree ki.UseAlias []
    (named (codes "b") ∷ tree ki.ImportPath [] (named (codes "a") ∷ named (codes "nomem") ∷ []) ∷ []))
unfolding is_shaped stops begins_labelled spell run step
import_alias = record { shaped = refl; read = refl }

-- use a::b;
import_module : ReadsBack so.Use (tree ki.Use [] (tree ki.ImportPath [] (named (codes "a") ∷ named (codes "b") ∷ []) ∷ []))
unfolding is_shaped stops begins_labelled spell run step
import_module = record { shaped = refl; read = refl }

-- export fn a(b: int, a: int) void = { };
function : ReadsBack so.Decl (tree ki.Fn [] (tree ki.Export [] [] ∷ named (codes "a") ∷ tree ki.Params []
    (tree ki.Param (codes "b") (int ∷ []) ∷ tree ki.Param (codes "a") (int ∷ []) ∷ no ∷ []) ∷ void ∷ tree ki.Block [] [] ∷ []))
unfolding is_shaped stops begins_labelled spell run step
function = record { shaped = refl; read = refl }

-- def a: int = 5;
constant : ReadsBack so.Decl (tree ki.Def [] (no ∷ named (codes "a") ∷ int ∷ five ∷ []))
unfolding is_shaped stops begins_labelled spell run step
constant = record { shaped = refl; read = refl }

-- type a = *b;
type_declaration : ReadsBack so.Decl (tree ki.TypeDecl []
    (no ∷ named (codes "a") ∷ tree ki.TypePointer [] (tree ki.TypePath (codes "b") [] ∷ []) ∷ []))
unfolding is_shaped stops begins_labelled spell run step
type_declaration = record { shaped = refl; read = refl }

-- ---- a file

-- the file is shaped, and its imports and then its declarations come back from its tokens
record FileReadsBack (t : FileTree) : Type 0 where
  shaped : is_shaped_file t ≡ true
  read : run 0 (spell_file t) (part (ru.Each so.Use) ∷ part (ru.Each so.Decl) ∷ []) bottom ≡
      Done (end ∷ []) (begun (start_of 0) (t.uses ++ t.decls) ∷ [])

-- use a; use b = a::b; def a: int = 5; export type b = *int;
abbrev small_file : FileTree
small_file = record {
  file = 0;
  uses = tree ki.Use [] (tree ki.ImportPath [] (named (codes "a") ∷ []) ∷ []) ∷ tree ki.UseAlias []
      (named (codes "b") ∷ tree ki.ImportPath [] (named (codes "a") ∷ named (codes "b") ∷ []) ∷ []) ∷ [];
  decls = tree ki.Def [] (no ∷ named (codes "a") ∷ int ∷ five ∷ []) ∷ tree ki.TypeDecl []
      (tree ki.Export [] [] ∷ named (codes "b") ∷ tree ki.TypePointer [] (int ∷ []) ∷ []) ∷ [];
}

file : FileReadsBack small_file
unfolding is_shaped stops begins_labelled spell run step
file = record { shaped = refl; read = refl }
