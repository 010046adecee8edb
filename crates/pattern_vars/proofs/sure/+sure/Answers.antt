use Rattle.std.proofs.Common.{sym, ◌∙◌}
use Rattle.c_terms.specs.declared.shape.Shape.TheVariants as shape
use Rattle.pattern_vars.proofs.SureLemmas.{put-shown}
use Rattle.pattern_vars.proofs.sure.+sure.Goals as goal

pub put_sure_in-returns-in-Or : goal.put_sure_in-returns-in-Or
put_sure_in-returns-in-Or t c =
    put-shown c.args.decls.now c.args.tokens.now c.args.tree.now c.in-Branch.label c.in-Branch.children c.as_slice.result.now
    shape.Or c.args.set.now c.put_common.new.set c.put_common.result
    (record { branch = c.in-Branch.is; shape = sym c.in-Or.is ∙ c.shape.ensures.value; children = c.as_slice.ensures })
    c.put_common.ensures

pub put_sure_in-returns-in-And : goal.put_sure_in-returns-in-And
put_sure_in-returns-in-And t c =
    put-shown c.args.decls.now c.args.tokens.now c.args.tree.now c.in-Branch.label c.in-Branch.children c.as_slice-in-And.result.now
    shape.And c.args.set.now c.put_each.new.set c.put_each.result
    (record { branch = c.in-Branch.is; shape = sym c.in-And.is ∙ c.shape.ensures.value; children = c.as_slice-in-And.ensures })
    c.put_each.ensures

pub put_sure_in-returns-in-List : goal.put_sure_in-returns-in-List
put_sure_in-returns-in-List t c =
    put-shown c.args.decls.now c.args.tokens.now c.args.tree.now c.in-Branch.label c.in-Branch.children c.as_slice-in-List.result.now
    shape.List c.args.set.now c.put_each-in-List.new.set c.put_each-in-List.result
    (record { branch = c.in-Branch.is; shape = sym c.in-List.is ∙ c.shape.ensures.value; children = c.as_slice-in-List.ensures })
    c.put_each-in-List.ensures

pub put_sure_in-returns-in-Plain : goal.put_sure_in-returns-in-Plain
put_sure_in-returns-in-Plain t c =
    put-shown c.args.decls.now c.args.tokens.now c.args.tree.now c.in-Branch.label c.in-Branch.children c.as_slice-in-Plain.result.now
    shape.Plain c.args.set.now c.put_each-in-Plain.new.set c.put_each-in-Plain.result
    (record { branch = c.in-Branch.is; shape = sym c.in-Plain.is ∙ c.shape.ensures.value; children = c.as_slice-in-Plain.ensures })
    c.put_each-in-Plain.ensures
