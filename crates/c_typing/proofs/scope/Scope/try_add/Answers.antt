use Rattle.std.proofs.Common.{◌++◌, ◌∙◌, ap}
use Rattle.std.proofs.lemmas.Result.{IfOk-weaker}
use Rattle.c_typing.proofs.scope.Scope.try_add.Goals as goal

pub returns-clause-ok : goal.returns-clause-ok
returns-clause-ok c =
    IfOk-weaker c.push_all.result _ _
    (λ r h. let names = h ∙ ap (λ ns. c.args.self.now.names ++ ns) c.in_ok-names.ensures in
    let fields = c.in_ok-add_item.ensures.ok in
    λ i. record { names = names i; fields = fields i }) c.push_all.ensures.ok
