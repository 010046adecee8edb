use Rattle.std.proofs.Common.{◌∷◌, [], ◌++◌, ap, ◌∙◌}
use Rattle.cfg_build.specs.CfgGraph.LinkRows.{last_end}
use Rattle.cfg_build.proofs.CfgGraph.LinkLemmas.{pushed}
use Rattle.cfg_build.proofs.cfg_graph.link_rows.LinkRows.push.Goals as goal

pub invariant_of-self-2 : goal.invariant_of-self-2
invariant_of-self-2 c =
    (pushed c.self.inside.ends.items c.self.inside.numbers.items c.args.list.now c.push.new.self.items
    c.extend_from_slice.new.self.items c.end_of-from.result c.len-end.result
    c.self.invariant (c.end_of-from.ensures ∙ ap (last_end 0) c.as_slice.ensures.value)
    (c.in_ok-extend_from_slice.ensures.items ∙ ap (λ xs. xs ++ c.args.list.now) c.truncate.ensures.items)
    (c.len-end.ensures ∙ c.extend_from_slice.new.self.ok.0) c.in_ok-push.ensures.items).1

pub returns : goal.returns
returns c =
    (pushed c.self.inside.ends.items c.self.inside.numbers.items c.args.list.now c.push.new.self.items
    c.extend_from_slice.new.self.items c.end_of-from.result c.len-end.result
    c.self.invariant (c.end_of-from.ensures ∙ ap (last_end 0) c.as_slice.ensures.value)
    (c.in_ok-extend_from_slice.ensures.items ∙ ap (λ xs. xs ++ c.args.list.now) c.truncate.ensures.items)
    (c.len-end.ensures ∙ c.extend_from_slice.new.self.ok.0) c.in_ok-push.ensures.items).0 ∙ ap (λ ls. ls ++ c.args.list.now ∷ []) c.self.view_is
