use Rattle.std.proofs.Common.{ap, ◌∙◌, subst, Bool}
use Rattle.c_file.specs.ItemGraphs.Made.{IsMade}
use Rattle.smpl_patch.specs.Wants.{ask_types}
use Rattle.rule_chain.proofs.RuleEdits.NodeLemmas.{made_more}
use Rattle.rule_chain.proofs.rule_edits.nodes.make_all.Goals as goal

pub loop-i-preserved : goal.loop-i-preserved
loop-i-preserved c =
    let typed = ask_types c.args.rule.now.vars in
    let here : IsMade c.make.new.self typed c.loop-i.i =
    subst (λ (t : Bool). IsMade c.make.new.self t c.loop-i.i) (c.ask_types-typed.ensures.value ∙ ap ask_types c.as_slice.ensures)
    c.in_ok-make.ensures.made in
    record {
      items = c.make.ensures.items ∙ c.loop-i.invariant.items;
      count = c.loop-i.invariant.count;
      made = made_more c.loop-i.graphs c.make.new.self typed c.loop-i.i c.loop-i.invariant.made c.make.ensures.kept here;
      kept = λ t k h. c.make.ensures.kept t k (c.loop-i.invariant.kept t k h);
    }
