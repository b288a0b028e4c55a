-- What declarations say of others, worked out by hand. A path's column is the number of the declaration that it means, of nine.
use Rattle.std.proofs.Common.{◌≡◌, [], ◌∷◌, refl}
use Rattle.hare_tree.specs.Node.{Node}
use Rattle.hare_depends.specs.declared.said.Said.{Said}
use Rattle.hare_depends.specs.declared.said.Sort.TheVariants as so
use Rattle.hare_depends.specs.Said.{said_of}
use Rattle.hare_depends.proofs.Samples.{absent, type_path, path, by_column, type_decl, def, global, function, param, pointer, slice, array, struct_with, field, spread, union_with, says}

abbrev said : Node → Said
said = said_of 9 by_column

-- `type n = t;`: another name holds the type
named_type : said (type_decl (type_path 2)) ≡ says so.Type 9 (2 ∷ []) (2 ∷ []) []
named_type = refl

-- `type n = struct { f: *t, f: t };`: what stands behind a pointer is not held, and is mentioned all the same
fields : said (type_decl (struct_with (field (pointer (type_path 2)) ∷ field (type_path 3) ∷ []))) ≡ says so.Type 9 (3 ∷ []) (2 ∷ 3 ∷ []) []
fields = refl

-- `type n = *[x]t;`: a length is looked at wherever it stands
length_behind : said (type_decl (pointer (array (path 4) (type_path 2)))) ≡ says so.Type 9 (4 ∷ []) (4 ∷ 2 ∷ []) []
length_behind = refl

-- `type n = [](...t | t);`: what is spread is needed wherever it stands
spread_behind : said (type_decl (slice (union_with (spread (type_path 2) ∷ type_path 3 ∷ [])))) ≡ says so.Type 9 (2 ∷ []) (2 ∷ 3 ∷ []) []
spread_behind = refl

-- a pointer below a spread is a pointer again
pointer_inside : said (type_decl (array (path 4) (pointer (array (path 5) (type_path 2))))) ≡
    says so.Type 9 (4 ∷ 5 ∷ []) (4 ∷ 5 ∷ 2 ∷ []) []
pointer_inside = refl

-- `def n = x;`, and `def n: t = x;`: all that is named
def_without_type : said (def absent (path 2)) ≡ says so.Constant 9 [] (2 ∷ []) []
def_without_type = refl

def_with_type : said (def (type_path 3) (path 2)) ≡ says so.Constant 9 [] (3 ∷ 2 ∷ []) (3 ∷ [])
def_with_type = refl

-- `let n = x;`, and `let n: *t = x;`
global_without_type : said (global absent (path 2)) ≡ says so.Constant 9 [] (2 ∷ []) []
global_without_type = refl

global_with_type : said (global (pointer (type_path 3)) (path 2)) ≡ says so.Global 9 [] (3 ∷ 2 ∷ []) (3 ∷ [])
global_with_type = refl

-- `fn n(p: t, p: *t) t = x;`: of a function its signature, and nothing of its body
signature :
    said (function (param (type_path 2) ∷ param (pointer (type_path 3)) ∷ []) (type_path 4) (path 5))
    ≡ says so.Function 9 (2 ∷ 4 ∷ []) (2 ∷ 3 ∷ 4 ∷ []) []
signature = refl

-- `rt::nomem` is no declaration of the program
beyond : said (type_decl (union_with (type_path 2 ∷ type_path 4294967295 ∷ []))) ≡ says so.Type 9 (2 ∷ []) (2 ∷ []) []
beyond = refl
