use Rattle.std.proofs.Common.{◌+◌, ap, ◌∙◌}
use Rattle.std.specs.Prelude.{Option}
use Rattle.std.proofs.Common.{ℕ, List}
use Rattle.std.proofs.lemmas.List.{take_rest}
use Rattle.edit_marks.specs.Blocks.{left_after}
use Rattle.edit_marks.proofs.Tidied.BracketLemmas.{brackets_more}
use Rattle.edit_marks.proofs.tidy.brackets.with_brackets.Goals as goal

pub loop-i-preserved : goal.loop-i-preserved
loop-i-preserved c =
    let words = c.args.words.now in
    let i = c.loop-i.i in
    record {
      end = c.loop-i.invariant.end;
      written = brackets_more words i c.index-words-i.result c.in_ok-with_brackets_if.field-0 c.loop-i.left c.left_after-left.result c.args.outside.now.right
          c.is_loose-needs.result _ c.loop-i.all.items c.push.new.self.items _ c.loop-i-test.true c.index-words-i.is (take_rest words (i + 1))
          c.is_loose-needs.ensures c.in_ok-with_brackets_if.ensures c.in_ok-push.ensures.items
          (c.left_after-left.ensures ∙ ap (left_after c.loop-i.left) c.in_ok-copy_of.ensures) c.loop-i.invariant.written;
    }
