use Rattle.std.proofs.Common.{◌++◌, sym, ap, ◌∙◌}
use Rattle.std.proofs.lemmas.List.{append-nil}
use Rattle.c_typing.proofs.DeclarationLemmas.{param-none}
use Rattle.c_typing.proofs.declaration.put_param_by.Goals as goal

pub returns-in_default : goal.returns-in_default
returns-in_default c =
    let items = c.args.found.now.items in
    sym (append-nil items) ∙ ap (λ bs. items ++ bs) (sym (param-none c.args.label c.args.children.now c.in_default.not-Param))
