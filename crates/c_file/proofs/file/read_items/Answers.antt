use Rattle.std.proofs.Common.{◌∙◌}
use Rattle.c_terms.specs.Names.{listed_names}
use Rattle.c_file.proofs.ReadLemmas.{span-rises, span-ends, reads-more, reads-all}
use Rattle.c_file.proofs.file.read_items.Goals as goal

pub tokens_in-requires-clause-rises : goal.tokens_in-requires-clause-rises
tokens_in-requires-clause-rises c = span-rises c.args.spans.now _ c.loop-span.span-index _ c.requires.stand c.loop-span-test.true

pub tokens_in-requires-clause-within : goal.tokens_in-requires-clause-within
tokens_in-requires-clause-within c = span-ends c.args.spans.now _ c.loop-span.span-index _ c.requires.stand c.loop-span-test.true

pub loop-span-preserved : goal.loop-span-preserved
loop-span-preserved c = reads-more c.args.visible.now listed_names _ _ c.args.spans.now c.loop-span.span-index _ _ _ _
    c.in_ok-item.item c.loop-span.invariant c.loop-span-test.true
    (c.as_slice.ensures.value ∙ c.in_ok-tokens.ensures) c.in_ok-item.ensures c.in_ok-add_names.ensures c.in_ok-push.ensures.items

pub returns : goal.returns
returns c = reads-all c.args.visible.now listed_names _ c.args.spans.now c.loop-span.span-index _ c.loop-span.invariant c.loop-span-test.false
