use Rattle.std.proofs.Common.{◌≡◌, ◌+◌, ◌-◌, ℕ, sym, ap, ◌∙◌, List, ◌++◌, append_assoc, take, drop, length}
use Rattle.edit_marks.specs.Blocks.{tokens_text, without_lead, last_token}
use Rattle.edit_marks.proofs.Lines.{gap_left, token_step, last_step}
use Rattle.edit_marks.proofs.line.put_line.Goals as goal

pub loop-i-preserved : goal.loop-i-preserved
loop-i-preserved c =
    let decls = c.args.decls.now in
    let env = c.args.env.now in
    let gaps = c.as_slice-gaps.result.now in
    let tokens = c.as_slice-tokens.result.now in
    let i = c.loop-i.i in
    let even : length gaps ≡ length tokens = ap length c.as_slice-gaps.ensures ∙ c.requires ∙ ap length (sym c.as_slice-tokens.ensures) in
    let bytes = c.as_bytes-gap.result.now in
    let k = c.min.result in
    let cut : take (length bytes - k) (drop k bytes) ≡ drop c.loop-i.lead c.index-gaps-i.result =
    gap_left bytes c.loop-i.lead k c.min.ensures ∙ ap (drop c.loop-i.lead) c.as_bytes-gap.ensures.bytes in
    let step = token_step decls env gaps tokens i c.loop-i.lead c.index-gaps-i.result
    (take (length bytes - k) (drop k bytes)) c.index-tokens-i.result c.loop-i.edge.beside c.loop-i-test.true even
    c.index-tokens-i.is c.index-gaps-i.is cut in
    record {
      end = c.loop-i.invariant.end;
      written =
          (λ j. c.in_ok-edge.ensures.text j ++ tokens_text decls env (c.in_ok-edge.ensures.beside j) (without_lead 0 (drop (i + 1) gaps)) (drop (i + 1) tokens))
          ∙ append_assoc c.loop-i.out.items _ _ ∙ ap (λ (l : List ℕ). c.loop-i.out.items ++ l) (sym step) ∙ c.loop-i.invariant.written;
      last = ap (λ o. last_token decls env o (drop (i + 1) tokens)) c.in_ok-edge.ensures.last
          ∙ sym (last_step decls env tokens i c.index-tokens-i.result c.loop-i.edge.last c.loop-i-test.true c.index-tokens-i.is) ∙ c.loop-i.invariant.last;
    }
