use Rattle.std.proofs.Common.{refl, ap, ◌∙◌}
use Rattle.c_rows.specs.Facts.{leaf_facts}
use Rattle.c_expr.proofs.RecognizerLemmas.{leaf_opened}
use Rattle.c_expr.proofs.recognizer.sketch_leaf.Goals as goal

pub returns-in-len1-up-clause-found : goal.returns-in-len1-up-clause-found
returns-in-len1-up-clause-found c =
    leaf_opened c.args.most c.args.seen.now c.args.kind c.args.at c.rest_at.result.now c.first-item.result c.leaf_facts.result _
    c.requires c.rest_at.ensures c.in-len1-up.len_at_least c.first-item.is
    (c.leaf_facts.ensures.value ∙ ap leaf_facts c.token.ensures.value) refl refl refl refl
