use Rattle.std.proofs.Common.{◌∙◌}
use Rattle.std.proofs.lemmas.List.Elements.{All-from_recursion, recursion_from_All}
use Rattle.rule_laws.specs.Ready.{IsReady}
use Rattle.rule_laws.proofs.FormLaws.ReadyLemmas.{rules-ready}
use Rattle.insert_laws.proofs.KindLemmas.{is_meta_of_some}
use Rattle.insert_laws.proofs.RuleLemmas.{one_form, rules_known, read_fit, forms_fit}
use Rattle.insert_laws.proofs.ChainLemmas.{at_rule}
use Rattle.insert_laws.proofs.laws.plus_code_is_instantiated.Goals as goal

pub returns-clause-read : goal.returns-clause-read
returns-clause-read c = λ bytes patch defined text number rule rest s of before.
    let metas = is_meta_of_some patch.rules in
    let sound = c.spelled_patches_are_sound.ensures.sound bytes patch of.spelled in
    let known = rules_known patch.rules sound.rules (c.declared_names_are_words.ensures bytes patch of.spelled) in
    let fits = read_fit metas patch.rules known (c.rules_may_run.ensures.rules bytes patch of)
    (c.rules_have_formulas.ensures.right patch of.checked)
    (one_form c.bodies_are_parted_once.ensures.cut c.patch_is_read_once.ensures.small bytes patch of.spelled) in
    at_rule c.touches_show_terms.ensures.found c.touches_show_terms.ensures.carried metas defined patch.rules text fits
    c.aligned_tokens_are_compared.ensures c.paths_lead_to_trees.ensures c.simple_nodes_have_no_bodies.ensures number rule rest s before

pub returns-clause-forms : goal.returns-clause-forms
returns-clause-forms c = λ bytes isos patch whole defined text number rule rest s of is before.
    let metas = is_meta_of_some patch.rules in
    let shape = c.formulas_keep_their_shape.ensures in
    let sound = c.spelled_patches_are_sound.ensures.sound bytes patch of.spelled in
    let known = rules_known patch.rules sound.rules (c.declared_names_are_words.ensures bytes patch of.spelled) in
    let ready = All-from_recursion IsReady whole.rules
    (rules-ready isos shape.formula shape.stands shape.sure shape.bound patch.rules whole.rules is.rules
    (recursion_from_All IsReady patch.rules (c.rules_may_run.ensures.rules bytes patch of))) in
    let fits = forms_fit c.forms_keep_plus_code.ensures c.the_tree_comes_first.ensures c.rules_keep_their_shape.ensures.patterns
    c.rules_keep_their_shape.ensures.atoms isos metas patch.rules whole.rules is.rules known ready
    (c.rules_have_formulas.ensures.right whole (c.accepted_patches_stay_accepted.ensures.fault isos patch whole is ∙ of.checked)) in
    at_rule c.touches_show_terms.ensures.found c.touches_show_terms.ensures.carried metas defined whole.rules text fits
    c.aligned_tokens_are_compared.ensures c.paths_lead_to_trees.ensures c.simple_nodes_have_no_bodies.ensures number rule rest s before
