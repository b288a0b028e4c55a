-- Functions are read as they are printed.
use Rattle.std.proofs.Common.{◌≡◌, ℕ, ◌<◌, List, ◌∷◌, ◌++◌, Option, Some, None, Bool, true, length, refl, arith, codes}
use Rattle.std.specs.List.{flat_map, list_all}
use Rattle.hx_base.specs.declared.Class.{Class}
use Rattle.hx_base.specs.declared.Class.TheVariants.{W, L}
use Rattle.il_code.specs.declared.types.Block.{Block}
use Rattle.il_code.specs.declared.types.IlItem.TheVariants.{Function}
use Rattle.il_code.specs.declared.types.IlParam.{IlParam}
use Rattle.il_code.specs.Tokens.{is_identifier}
use Rattle.il_code.specs.Shaped.{is_block, is_param}
use Rattle.il_code.specs.Print.{block_text, param_text, with_commas, result_class_text}
use Rattle.il_read.specs.Values.{param_at}
use Rattle.il_read.specs.Blocks.{begins_block, block_at}
use Rattle.il_read.specs.Functions.{result_class_at, blocks_at, function_at}
use Rattle.il_read.proofs.FrontsAgain.{Stops}
use Rattle.il_read.proofs.ListsAgain.{length-rest, each_again, bracketed_again}
use Rattle.il_read.proofs.ValuesAgain.{symbol_again, param_again, param_is_no}
use Rattle.il_read.proofs.JumpsAgain.{NoTab}
use Rattle.il_read.proofs.BlocksAgain.{block_again}

some_block : (b : Block) → 0 < length (block_text b)
some_block b = omega arith

blocks_again : (bs : List Block) (rest : List ℕ) → list_all is_block bs ≡ true →
    blocks_at (codes " {\n" ++ (flat_map block_text bs ++ (codes "}\n" ++ rest))) ≡ Some (bs, rest)
unfolding blocks_at
blocks_again bs rest h =
    let end = codes "}\n" ++ rest in
    let all = each_again block_at begins_block block_text is_block NoTab block_again (λ b r h. refl) (λ b r h. refl) bs end
    (length (flat_map block_text bs ++ end)) h (length-rest block_text some_block bs end) refl refl in
    rw all refl

class_again : (class : Option Class) (rest : List ℕ) → result_class_at (result_class_text class ++ 36 ∷ rest) ≡ Some (class, 36 ∷ rest)
unfolding result_class_at
class_again None rest = refl
class_again (Some W) rest = refl
class_again (Some L) rest = refl

pub function_again : (export : Bool) (class : Option Class) (name : List ℕ) (params : List IlParam) (bs : List Block) (rest : List ℕ) →
    is_identifier name ≡ true → list_all is_param params ≡ true → list_all is_block bs ≡ true →
    function_at export (result_class_text class ++ 36 ∷
    (name ++ 40 ∷ (with_commas param_text params ++ 41 ∷ (codes " {\n" ++ (flat_map block_text bs ++ (codes "}\n" ++ rest)))))) ≡
    Some (Function export class name params bs, rest)
unfolding function_at
function_again export class name params bs rest hn hp hb =
    let body = codes " {\n" ++ (flat_map block_text bs ++ (codes "}\n" ++ rest)) in
    let behind_name = 40 ∷ (with_commas param_text params ++ 41 ∷ body) in
    let one = class_again class (name ++ behind_name) in
    let two = symbol_again name behind_name hn refl in
    let three = bracketed_again param_at param_text is_param Stops param_again (λ r. refl) param_is_no (λ r. refl) params body hp in
    let four = blocks_again bs rest hb in
    rw one (rw two (rw three (rw four refl)))
