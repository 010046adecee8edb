use Rattle.c_rows.proofs.LevelLemmas.{short_all_low}
use Rattle.c_rows.proofs.LetterLemmas.{letter_tree, tree_letter}
use Rattle.c_rows.proofs.laws.rivals_need_no_rule.Goals as goal

pub returns-clause-letter : goal.returns-clause-letter
returns-clause-letter c = λ kind names tokens t h. letter_tree names kind tokens t h

pub returns-clause-low : goal.returns-clause-low
returns-clause-low c = λ kind names tokens t o p h. tree_letter names kind tokens t o p h

pub returns-clause-short : goal.returns-clause-short
returns-clause-short c = λ kind names tokens t o s h. tree_letter names kind tokens t o (short_all_low names tokens s) h
