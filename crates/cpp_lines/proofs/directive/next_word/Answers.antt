use Rattle.std.proofs.Common.{take, drop, sym, ◌∙◌, arith}
use Rattle.std.proofs.lemmas.List.{take_rest, length-drop}
use Rattle.c_lexer.specs.First.{IsFirst}
use Rattle.cpp_lines.proofs.Words.{pass, find, no_more}
use Rattle.cpp_lines.proofs.directive.next_word.Goals as goal

pub returns-then-is_token : goal.returns-then-is_token
returns-then-is_token c =
    let at = c.loop-at.at in
    let len = c.first_piece-kind.result.1 in
    let first : IsFirst c.first_piece-kind.result.0 (take len (drop at c.args.text.now)) (drop len (drop at c.args.text.now)) =
    rw take_rest at c.first_piece-kind.ensures.first in (
      omega arith,
      (
        omega (arith, c.first_piece-kind.ensures.within, length-drop at c.args.text.now, c.loop-at-test.true),
        find _ at len _ c.loop-at.invariant.1 first (sym c.is_token.ensures ∙ c.if-is_token.true),
      ),
    )

pub loop-at-preserved : goal.loop-at-preserved
loop-at-preserved c =
    let at = c.loop-at.at in
    let len = c.first_piece-kind.result.1 in
    let first : IsFirst c.first_piece-kind.result.0 (take len (drop at c.args.text.now)) (drop len (drop at c.args.text.now)) =
    rw take_rest at c.first_piece-kind.ensures.first in (
      omega (arith, c.first_piece-kind.ensures.within, length-drop at c.args.text.now, c.loop-at-test.true),
      pass _ at len _ c.loop-at.invariant.1 first (sym c.is_token.ensures ∙ c.if-is_token.false),
    )

pub returns : goal.returns
returns c = no_more _ c.loop-at.at c.loop-at.invariant.1 c.loop-at-test.false
