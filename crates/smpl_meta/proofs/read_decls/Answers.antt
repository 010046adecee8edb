use Rattle.std.proofs.Common.{inr, sym, ◌∙◌}
use Rattle.smpl_lexer.proofs.Readings.{no_first}
use Rattle.smpl_meta.specs.Decls.{decl_faults}
use Rattle.smpl_meta.proofs.read_decls.Goals as goal

pub returns-in-None-clause-vars : goal.returns-in-None-clause-vars
returns-in-None-clause-vars c =
    let d = c.in_ok-vars.ensures.declared in
    record {
      answers = d.answers;
      read = d.read;
      faultless = no_first (decl_faults c.args.earlier.now.heads d.answers c.args.decls.now) (sym d.first_is ∙ c.in-None.is);
      vars_are = d.vars_are;
    }

pub returns-in-Some-clause-fault : goal.returns-in-Some-clause-fault
returns-in-Some-clause-fault c =
    let d = c.in_ok-vars.ensures.declared in
    inr (record { answers = d.answers; read = d.read; first = sym d.first_is ∙ c.in-Some.is })
