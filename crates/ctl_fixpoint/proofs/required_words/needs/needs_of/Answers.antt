use Rattle.ctl_fixpoint.proofs.required_words.needs.needs_of.Goals as goal

pub returns-in-Atom : goal.returns-in-Atom
returns-in-Atom c = λ fs h. rw c.in-Atom.is (c.atom.ensures fs)

pub returns-in-BraceOpen : goal.returns-in-BraceOpen
returns-in-BraceOpen c = λ fs h. rw c.in-BraceOpen.is (c.brace.ensures.opens fs)

pub returns-in-BraceClose : goal.returns-in-BraceClose
returns-in-BraceClose c = λ fs h. rw c.in-BraceClose.is (c.brace-in-BraceClose.ensures.closes fs)
