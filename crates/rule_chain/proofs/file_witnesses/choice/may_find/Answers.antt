use Rattle.std.proofs.Common.{◌≡◌, true, sym, ap, ◌∙◌}
use Rattle.std.specs.Prelude.{slice_get}
use Rattle.c_file.specs.ItemGraphs.Trees.{item_tree}
use Rattle.c_file.specs.ItemGraphs.Typed.{graph_in}
use Rattle.smpl_patch.specs.Wants.{ask_types}
use Rattle.rule_chain.specs.FileWitnesses.Seen.{seen_graph}
use Rattle.rule_chain.specs.FileWitnesses.Lacking.{misses}
use Rattle.rule_chain.proofs.FileWitnesses.ChosenLemmas.{no_graph}
use Rattle.rule_chain.proofs.FileWitnesses.LackLemmas.{nothing_found}
use Rattle.rule_chain.proofs.file_witnesses.choice.may_find.Goals as goal

pub returns-then-lacks_word-clause-nothing : goal.returns-then-lacks_word-clause-nothing
returns-then-lacks_word-clause-nothing c = λ is number env.
    let o = slice_get c.args.graphs.now.items c.args.i in
    let h : misses c.args.words.now (item_tree o) ≡ true = sym c.lacks_word.ensures.lacks ∙ c.if-lacks_word.true in
    nothing_found number c.args.rule.now c.args.f.now c.requires.formula c.args.words.now c.requires.needed c.args.i env
    c.args.graphs.now.items c.args.i c.lacks_word.ensures.few h

pub returns-in-None-clause-nothing : goal.returns-in-None-clause-nothing
returns-in-None-clause-nothing c = λ is.
    no_graph c.args.rule.now c.args.graphs.now.items c.args.i
    (c.in-None.ensures.graph
    ∙ ap (λ typed. graph_in typed c.make.new.self.items c.args.i) (c.ask_types-typed.ensures.value ∙ ap ask_types c.as_slice.ensures)
    ∙ ap (λ its. seen_graph c.args.rule.now its c.args.i) c.make.ensures.items)
