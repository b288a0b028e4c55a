use Rattle.std.proofs.Common.{◌∙◌, refl, arith}
use Rattle.hare_blocks.proofs.ReadExpressions.Factored.{variable_read, path_too_deep, path_of_other, path_to_other, arg_count_read}
use Rattle.hare_blocks.proofs.read_expr.named.Goals as goal

pub returns-then-not-takes : goal.returns-then-not-takes
returns-then-not-takes c = variable_read c.args.depth c.args.name.now c.in_ok-name.name c.args.tokens.now c.takes.new.self c.requires
    (c.in_ok-name.ensures ∙ c.bytes.ensures) (c.if-not-takes.ensures.kept refl) (c.if-not-takes.ensures.absent refl)

pub returns-then-depth-ge-DEEPEST : goal.returns-then-depth-ge-DEEPEST
returns-then-depth-ge-DEEPEST c = path_too_deep c.args.depth c.args.name.now c.args.tokens.now c.takes.new.self c.takes.new.self
    (c.if-not-takes.ensures.taken refl) (omega arith)

pub returns-then-not-is_word : goal.returns-then-not-is_word
returns-then-not-is_word c = path_of_other c.args.depth c.args.name.now c.args.tokens.now c.takes.new.self c.takes.new.self
    (c.if-not-takes.ensures.taken refl) (λ h. let k = c.if-not-is_word.ensures.1 h in cc)

pub returns-then-not-takes_all : goal.returns-then-not-takes_all
returns-then-not-takes_all c = path_to_other c.args.depth c.args.name.now c.args.tokens.now c.takes.new.self c.takes_all.new.self
    (c.if-not-takes.ensures.taken refl) (c.if-not-takes_all.ensures.absent refl)

pub returns : goal.returns
returns c = arg_count_read c.args.depth c.args.name.now c.args.tokens.now c.takes.new.self c.takes_all.new.self
    (c.if-not-takes.ensures.taken refl) (c.if-not-is_word.ensures.0 refl) (c.if-not-takes_all.ensures.taken refl) (omega arith)
