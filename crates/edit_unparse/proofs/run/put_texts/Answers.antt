use Rattle.std.proofs.Common.{◌+◌, ◌-◌, ℕ, ap, ◌∙◌, arith, List, ◌++◌, length, length-append}
use Rattle.std.specs.Prelude.{Some}
use Rattle.c_lexer.specs.Pieces.{text_of}
use Rattle.edit_unparse.specs.Output.{gap, is_word}
use Rattle.edit_unparse.specs.Written.{left}
use Rattle.edit_unparse.specs.Runs.{run_of}
use Rattle.edit_unparse.proofs.RunTextLemmas.{run_text, first_text, last_kind, text_rises, gap_is, bytes_more, end_is_last, left_is}
use Rattle.edit_unparse.proofs.run.put_texts.Goals as goal

pub part-text-requires : goal.part-text-requires
part-text-requires c = record {
  rise = omega (
    arith,
    c.piece-first.ensures.start,
    c.piece-last.ensures.end,
    text_rises c.args.lexed.now c.args.from (c.args.to - 1 + 1) (omega (arith, c.requires.some)),
  );
  within = omega (arith, c.piece-last.ensures.within, ap length c.bytes-bytes.ensures.bytes);
}

pub overflow_sub-draft : goal.overflow_sub-draft
overflow_sub-draft c = omega (
  arith,
  c.piece-first.ensures.start,
  c.piece-last.ensures.start,
  text_rises c.args.lexed.now c.args.from (c.args.to - 1) (omega (arith, c.requires.some)),
)

pub returns-then-text-spaces-clause-too_long : goal.returns-then-text-spaces-clause-too_long
returns-then-text-spaces-clause-too_long c = λ p at e.
    let ps = c.args.lexed.now in
    let run = c.part-text.ensures ∙ run_text ps c.bytes-bytes.result.now c.args.from c.args.to c.piece-first.result.start
    c.piece-last.result.end c.requires.some c.bytes-bytes.ensures.bytes c.piece-first.ensures.start c.piece-last.ensures.end in
    let first = c.part-first_text.ensures ∙ first_text ps c.bytes-bytes.result.now c.args.from c.piece-first.result.start
    c.piece-first.result.end c.piece-first.result.kind p c.bytes-bytes.ensures.bytes c.piece-first.ensures.piece at in
    let g = text_of (gap (left c.args.draft.now) (Some c.args.from) p.text) in
    let r = text_of (run_of ps c.args.from c.args.to) in
    let spaces = c.spaces-spaces.ensures.value ∙ ap (λ (l : List ℕ). length (text_of (gap (left c.args.draft.now) (Some c.args.from) l))) first in
    omega (
      arith,
      c.if-text-spaces.true,
      spaces,
      ap length run,
      c.len-used.ensures.value,
      length-append c.args.draft.now.bytes.items (g ++ r),
      length-append g r,
    )

pub returns-clause-bytes : goal.returns-clause-bytes
returns-clause-bytes c = λ p at.
    let ps = c.args.lexed.now in
    let run = c.part-text.ensures ∙ run_text ps c.bytes-bytes.result.now c.args.from c.args.to c.piece-first.result.start
    c.piece-last.result.end c.requires.some c.bytes-bytes.ensures.bytes c.piece-first.ensures.start c.piece-last.ensures.end in
    let first = c.part-first_text.ensures ∙ first_text ps c.bytes-bytes.result.now c.args.from c.piece-first.result.start
    c.piece-first.result.end c.piece-first.result.kind p c.bytes-bytes.ensures.bytes c.piece-first.ensures.piece at in
    let spaces = c.spaces-spaces.ensures.value ∙ ap (λ (l : List ℕ). length (text_of (gap (left c.args.draft.now) (Some c.args.from) l))) first in
    bytes_more c.args.draft.now.bytes.items c.extend_from_slice.new.self.items c.extend_from_slice-2.new.self.items
    (text_of (gap (left c.args.draft.now) (Some c.args.from) p.text)) (text_of (run_of ps c.args.from c.args.to))
    (c.in_ok-extend_from_slice.ensures.items
    ∙ ap (λ (l : List ℕ). c.args.draft.now.bytes.items ++ l) (gap_is (left c.args.draft.now) (Some c.args.from) p.text c.spaces-spaces.result spaces))
    (c.in_ok-extend_from_slice-2.ensures.items ∙ ap (λ (l : List ℕ). c.extend_from_slice.new.self.items ++ l) run)

pub returns-clause-last : goal.returns-clause-last
returns-clause-last c = λ p at.
    let ps = c.args.lexed.now in
    let run = c.part-text.ensures ∙ run_text ps c.bytes-bytes.result.now c.args.from c.args.to c.piece-first.result.start
    c.piece-last.result.end c.requires.some c.bytes-bytes.ensures.bytes c.piece-first.ensures.start c.piece-last.ensures.end in
    left_is (c.args.to - 1) c.is_word.result _ p
    (c.is_word.ensures ∙ ap is_word (last_kind ps (c.args.to - 1) c.piece-last.result.kind _ p c.piece-last.ensures.piece at))
    (end_is_last ps c.extend_from_slice.new.self.items c.extend_from_slice-2.new.self.items c.part-text.result.now c.args.from
    c.args.to c.piece-first.result.start c.piece-last.result.start c.len-before.result p c.requires.some at
    c.len-before.ensures.value c.piece-last.ensures.start c.piece-first.ensures.start c.in_ok-extend_from_slice-2.ensures.items run)
