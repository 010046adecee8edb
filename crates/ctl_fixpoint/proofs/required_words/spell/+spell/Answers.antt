use Rattle.ctl_fixpoint.proofs.RequiredWords.WordLemmas.{spells-shown}
use Rattle.ctl_fixpoint.proofs.required_words.spell.+spell.Goals as goal

pub spells-returns-in-Or : goal.spells-returns-in-Or
spells-returns-in-Or t c = spells-shown c.args.word.now c.args.tree.now c.in-Branch.label c.in-Branch.children
    c.as_slice.result.now c.shape.result _ c.in-Branch.is c.shape.ensures.value c.as_slice.ensures (rw c.in-Or.is c.in_branches.ensures)

pub spells-returns-in-And : goal.spells-returns-in-And
spells-returns-in-And t c = spells-shown c.args.word.now c.args.tree.now c.in-Branch.label c.in-Branch.children
    c.as_slice-in-And.result.now c.shape.result _ c.in-Branch.is c.shape.ensures.value c.as_slice-in-And.ensures (rw c.in-And.is c.in_some.ensures)

pub spells-returns-in-List : goal.spells-returns-in-List
spells-returns-in-List t c = spells-shown c.args.word.now c.args.tree.now c.in-Branch.label c.in-Branch.children
    c.as_slice-in-List.result.now c.shape.result _ c.in-Branch.is c.shape.ensures.value c.as_slice-in-List.ensures (rw c.in-List.is c.in_some-in-List.ensures)

pub spells-returns-in-Plain : goal.spells-returns-in-Plain
spells-returns-in-Plain t c = spells-shown c.args.word.now c.args.tree.now c.in-Branch.label c.in-Branch.children
    c.as_slice-in-Plain.result.now c.shape.result _ c.in-Branch.is c.shape.ensures.value c.as_slice-in-Plain.ensures
    (rw c.in-Plain.is c.in_some-in-Plain.ensures)
