use Rattle.std.proofs.Common.{◌≡◌, ◌+◌, ◌∷◌, [], List, length, take, sym, ap, subst, ◌∙◌, arith}
use Rattle.std.proofs.lemmas.List.{length-append}
use Rattle.smpl_meta.specs.declared.head.RuleHead.{RuleHead}
use Rattle.smpl_meta.specs.Before.{Before, with_head}
use Rattle.smpl_meta.specs.Heads.{AreHeads}
use Rattle.smpl_meta.proofs.ReadingHeads.{heads-more}
use Rattle.smpl_meta.proofs.read_headers.Goals as goal

pub loop-i-preserved : goal.loop-i-preserved
loop-i-preserved c =
    let text = c.args.text.now in
    let rules = c.as_slice-rules.result.now in
    let before = c.loop-i.earlier in
    let head = c.in_ok-head.head in
    let more : c.in_ok-earlier-2.earlier ≡ with_head before head = c.in_ok-earlier-2.ensures in
    record {
      virtuals = ap (λ (b : Before). b.virtuals) more ∙ c.loop-i.invariant.virtuals;
      count = omega (arith, ap (λ (b : Before). length b.heads) more, length-append before.heads (head ∷ []), c.loop-i.invariant.count);
      heads = subst (λ (hs : List RuleHead). AreHeads text [] (take (c.loop-i.i + 1) rules) hs) (sym (ap (λ (b : Before). b.heads) more))
          (heads-more text rules c.loop-i.i before.virtuals before.heads c.index-rules-i.result head c.loop-i-test.true
          c.index-rules-i.is c.loop-i.invariant.virtuals c.loop-i.invariant.count c.loop-i.invariant.heads c.in_ok-head.ensures.head);
    }
