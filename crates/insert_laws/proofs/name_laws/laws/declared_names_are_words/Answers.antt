use Rattle.insert_laws.proofs.NameLaws.RuleLemmas.{patch_open}
use Rattle.insert_laws.proofs.name_laws.laws.declared_names_are_words.Goals as goal

pub returns : goal.returns
returns c = patch_open c.name_texts.ensures c.keyword_texts.ensures
