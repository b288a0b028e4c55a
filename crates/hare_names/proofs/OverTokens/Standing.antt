-- The declarations of a file stand over its tokens, and behind them at least one more.
use Rattle.std.proofs.Common.{◌≡◌, ℕ, ◌+◌, ◌<◌, ◌≤◌, List, [], ◌∷◌, ◌++◌, true, ◌&&◌, length, sym, ap, ◌∙◌, subst, arith}
use Rattle.std.specs.List.{list_all}
use Rattle.std.proofs.lemmas.Bool.{and_parts}
use Rattle.std.proofs.lemmas.List.{length-append, length-map}
use Rattle.hare_tree.specs.declared.token.Token.{Token}
use Rattle.hare_tree.specs.declared.token.TokenKind.TheVariants as tk
use Rattle.hare_tree.specs.declared.form.Lead.TheVariants as le
use Rattle.hare_tree.specs.declared.form.Sort.TheVariants as so
use Rattle.hare_tree.specs.declared.tree.FileTree.{FileTree}
use Rattle.hare_tree.specs.Node.{Node, nodes_of}
use Rattle.hare_tree.specs.Spell.{spells, spell_all, spell_file, word_token}
use Rattle.hare_tree.specs.Shape.{is_shaped, is_shaped_file}
use Rattle.hare_tree.specs.Depth.{begins_led, is_shallow}
use Rattle.hare_tree.specs.Grammar.{joined, unplaced, HavePlaces}
use Rattle.hare_lex.specs.Order.{AreInOrder}
use Rattle.hare_prefixes.proofs.Outcomes.Moved.{side_moved}
use Rattle.hare_names.specs.Answers.{IsFileOf}
use Rattle.hare_names.proofs.TurnLemmas.{InTurn, side_turns}
use Rattle.hare_names.proofs.OverTokens.Ascending.{Up, up-from, joined-up}

-- how many tokens trees have does not rest on the file
length-moved : (f : ℕ) (ts : List Node) → length (spell_all f ts) ≡ length (spell_all 0 ts)
length-moved f ts = sym (length-map (spell_all f ts) unplaced) ∙ ap length (side_moved f (nodes_of ts))

-- the declarations of a file stand over these tokens, and behind them at least one more
pub record Standing (number : ℕ) (tree : FileTree) : Type 0 where
  pub ws : List Token
  pub up : Up number ws
  pub first : ℕ
  pub high : ℕ
  pub turns : InTurn first high (begins_led le.Nothing first (spells 0 (nodes_of tree.decls))) (spells 0 (nodes_of tree.decls))
  pub shaped : list_all (is_shaped so.Decl) tree.decls ≡ true
  pub file_is : tree.file ≡ number
  pub placed : HavePlaces tree.file ws (begins_led le.Nothing first (spells 0 (nodes_of tree.decls))) (nodes_of tree.decls)
  pub enough : high < length ws

pub standing : (number : ℕ) (tree : FileTree) → IsFileOf number tree → Standing number tree
standing number tree h = record {
  ws = ws;
  up = up;
  first = first;
  high = high;
  turns = side_turns first (spells 0 (nodes_of tree.decls));
  shaped = shaped;
  file_is = h.file_is;
  placed = h.stands.placed.decls;
  enough = enough;
}
  where
    ws : List Token
    ws = joined h.tokens

    first : ℕ
    first = length (spell_all 0 tree.uses)

    high : ℕ
    high = first + length (spell_all 0 tree.decls)

    up : Up number ws
    up =
        let o = subst (λ f. AreInOrder f h.tokens) h.file_is h.stands.in_order in
        joined-up number h.tokens (up-from number h.tokens o.of_file (λ i j d l k. o.ascend i j d l k))

    shaped : list_all (is_shaped so.Decl) tree.decls ≡ true
    shaped =
        let a = and_parts (is_shaped_file tree && list_all is_shallow tree.uses) (list_all is_shallow tree.decls) h.fits in
        let b = and_parts (is_shaped_file tree) (list_all is_shallow tree.uses) a.0 in
        (and_parts (list_all (is_shaped so.Use) tree.uses) (list_all (is_shaped so.Decl) tree.decls) b.0).1

    enough : high < length ws
    enough =
        let all : length (spell_file tree) ≤ length ws = h.stands.enough in
        let a = length-append (spell_all tree.file tree.uses) (spell_all tree.file tree.decls ++ end ∷ []) in
        let b = length-append (spell_all tree.file tree.decls) (end ∷ []) in
        omega (arith, all, a, b, length-moved tree.file tree.uses, length-moved tree.file tree.decls)
      where
        end : Token
        end = word_token tree.file tk.End []
