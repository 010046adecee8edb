use Rattle.std.proofs.Common.{ap, ◌∙◌, List}
use Rattle.std.proofs.lemmas.Result.{IfOk-weaker, on_ok_weaker}
use Rattle.cpp_lines.specs.declared.reading.Item.{Item}
use Rattle.smpl_patch.specs.Wants.{ask_types}
use Rattle.rule_chain.specs.FileWitnesses.Found.{is_large_under}
use Rattle.rule_chain.specs.FileWitnesses.Lent.{AreLent}
use Rattle.rule_chain.specs.FileWitnesses.Lists.{AreFound, AreSmall}
use Rattle.rule_chain.proofs.FileWitnesses.ChosenLemmas.{seen_lent}
use Rattle.rule_chain.proofs.file_witnesses.whole.over_items.Goals as goal

pub returns-clause-found : goal.returns-clause-found
returns-clause-found g c =
    let number = c.args.ready.now.number in
    let rule = c.args.ready.now.rule.now in
    let items = c.args.graphs.now.items in
    let lent = c.as_slice-3.result.now in
    let envs = c.args.envs.now in
    let are : AreLent rule items lent =
    seen_lent rule items c.candidate_items.new.graphs.items c.ask_types-typed.result c.in_ok-chosen.chosen.items c.as_slice-2.result.now
    c.in_ok-lent.lent.items lent c.in_ok-chosen.ensures.chosen c.in_ok-lent.ensures.graphs
    (c.ask_types-typed.ensures.value ∙ ap ask_types c.as_slice.ensures) c.candidate_items.ensures.items c.as_slice-2.ensures.value
    c.as_slice-3.ensures.value in
    IfOk-weaker c.over_lent.result (λ lists. (ps : List Item) → AreLent rule ps lent → AreFound number rule ps envs lists.items)
    (λ lists. AreFound number rule items envs lists.items) (λ lists h. h items are) c.over_lent.ensures.found

pub returns-clause-few : goal.returns-clause-few
returns-clause-few g c =
    let number = c.args.ready.now.number in
    let rule = c.args.ready.now.rule.now in
    let items = c.args.graphs.now.items in
    let lent = c.as_slice-3.result.now in
    let envs = c.args.envs.now in
    let are : AreLent rule items lent =
    seen_lent rule items c.candidate_items.new.graphs.items c.ask_types-typed.result c.in_ok-chosen.chosen.items c.as_slice-2.result.now
    c.in_ok-lent.lent.items lent c.in_ok-chosen.ensures.chosen c.in_ok-lent.ensures.graphs
    (c.ask_types-typed.ensures.value ∙ ap ask_types c.as_slice.ensures) c.candidate_items.ensures.items c.as_slice-2.ensures.value
    c.as_slice-3.ensures.value in
    on_ok_weaker c.over_lent.result (λ (h : (ps : List Item) → AreLent rule ps lent → AreSmall (is_large_under number rule ps) envs). h items are)
    c.over_lent.ensures.few

pub returns-clause-too_many : goal.returns-clause-too_many
returns-clause-too_many g c = λ e.
    let rule = c.args.ready.now.rule.now in
    let items = c.args.graphs.now.items in
    let lent = c.as_slice-3.result.now in
    let are : AreLent rule items lent =
    seen_lent rule items c.candidate_items.new.graphs.items c.ask_types-typed.result c.in_ok-chosen.chosen.items c.as_slice-2.result.now
    c.in_ok-lent.lent.items lent c.in_ok-chosen.ensures.chosen c.in_ok-lent.ensures.graphs
    (c.ask_types-typed.ensures.value ∙ ap ask_types c.as_slice.ensures) c.candidate_items.ensures.items c.as_slice-2.ensures.value
    c.as_slice-3.ensures.value in
    c.over_lent.ensures.too_many e items are
