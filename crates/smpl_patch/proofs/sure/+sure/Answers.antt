use Rattle.smpl_patch.proofs.SureLemmas.{sure-shown}
use Rattle.smpl_patch.proofs.sure.+sure.Goals as goal

pub is_sure_in-returns-in-Or : goal.is_sure_in-returns-in-Or
is_sure_in-returns-in-Or t c = sure-shown c.args.decls.now c.args.tokens.now c.args.x.now c.args.tree.now c.in-Branch.label
    c.in-Branch.children c.as_slice.result.now c.shape.result _ c.in-Branch.is c.shape.ensures.value c.as_slice.ensures (rw c.in-Or.is c.in_every.ensures)

pub is_sure_in-returns-in-And : goal.is_sure_in-returns-in-And
is_sure_in-returns-in-And t c = sure-shown c.args.decls.now c.args.tokens.now c.args.x.now c.args.tree.now c.in-Branch.label
    c.in-Branch.children c.as_slice-in-And.result.now c.shape.result _ c.in-Branch.is c.shape.ensures.value
    c.as_slice-in-And.ensures (rw c.in-And.is c.in_some.ensures)

pub is_sure_in-returns-in-List : goal.is_sure_in-returns-in-List
is_sure_in-returns-in-List t c = sure-shown c.args.decls.now c.args.tokens.now c.args.x.now c.args.tree.now c.in-Branch.label
    c.in-Branch.children c.as_slice-in-List.result.now c.shape.result _ c.in-Branch.is c.shape.ensures.value
    c.as_slice-in-List.ensures (rw c.in-List.is c.in_some-in-List.ensures)

pub is_sure_in-returns-in-Plain : goal.is_sure_in-returns-in-Plain
is_sure_in-returns-in-Plain t c = sure-shown c.args.decls.now c.args.tokens.now c.args.x.now c.args.tree.now c.in-Branch.label
    c.in-Branch.children c.as_slice-in-Plain.result.now c.shape.result _ c.in-Branch.is c.shape.ensures.value
    c.as_slice-in-Plain.ensures (rw c.in-Plain.is c.in_some-in-Plain.ensures)
