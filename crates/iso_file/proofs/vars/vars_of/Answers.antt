use Rattle.std.proofs.Common.{◌≡◌, true, List, [], Option, sym, subst}
use Rattle.smpl_patch.specs.declared.pattern.VarDecl.{VarDecl}
use Rattle.smpl_lexer.specs.Texts.{OrNoMemory}
use Rattle.smpl_meta.specs.Before.{Before}
use Rattle.smpl_meta.specs.Decls.{IsDecls, IsDeclFault}
use Rattle.iso_file.specs.Sides.{are_of_kinds}
use Rattle.iso_file.specs.Isos.{AreVars}
use Rattle.iso_file.specs.Stepped.{Decides}
use Rattle.iso_file.proofs.VarLemmas.{of_kinds}
use Rattle.iso_file.proofs.vars.vars_of.Goals as goal

pub returns-in-Ok : goal.returns-in-Ok
returns-in-Ok c =
    let tokens = c.args.tokens.now in
    let kinds : are_of_kinds true tokens ≡ true = cc (c.are_of_kinds.ensures, c.if-not-are_of_kinds.false) in
    let decls : IsDecls [] 0 tokens c.in-Ok.vars
    = subst (λ (e : Before). IsDecls e.heads 0 tokens c.in-Ok.vars) c.in_ok-earlier.ensures c.in-Ok.ensures.vars in
    subst (λ (o : Option (List VarDecl)). Decides (AreVars tokens) o) (sym c.with_kinds.ensures)
    (of_kinds c.ranges_have_one_tree.ensures tokens c.in-Ok.vars kinds decls)

pub no_vars-requires : goal.no_vars-requires
no_vars-requires c =
    subst (λ (e : Before). OrNoMemory (IsDeclFault e.heads c.args.tokens.now) c.in-Err.fault) c.in_ok-earlier.ensures c.in-Err.ensures.fault
