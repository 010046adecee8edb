use Rattle.std.proofs.Common.{◌∙◌, ap, take}
use Rattle.c_typing.proofs.scope.Scope.add.Goals as goal

pub returns-in-Err-clause-err : goal.returns-in-Err-clause-err
returns-in-Err-clause-err c =
    let names = c.truncate.ensures ∙ ap (λ n. take n c.try_add.new.self.names) c.len-names.ensures ∙ c.try_add.ensures.names in
    let fields = c.truncate-in-Err.ensures ∙ ap (λ n. take n c.try_add.new.self.fields) c.len-fields.ensures ∙ c.try_add.ensures.fields in
    λ i. record { names = names i; fields = fields i }
