use Rattle.std.proofs.Common.{sym, ap, ◌∙◌, refl, Some, None}
use Rattle.std.proofs.lemmas.Result.{IfOk-weaker}
use Rattle.c_typing.specs.Fields.{with_fields}
use Rattle.c_typing.proofs.FieldLemmas.{own-none, tagged-own}
use Rattle.c_typing.proofs.field.Fields.add_own.Goals as goal

pub returns-in-Some-clause-ok : goal.returns-in-Some-clause-ok
returns-in-Some-clause-ok c =
    let tag = ap Some c.as_bytes.ensures.bytes ∙ c.in-Some.ensures in
    let own = tagged-own c.args.children.now (Some c.as_bytes.result.now) c.is_word_at-is_union.result tag c.is_word_at-is_union.ensures in
    rw c.in-StructDef.is (IfOk-weaker c.add_rows.result _ _ (λ r h. h ∙ ap (with_fields c.args.self.now) own) c.add_rows.ensures.ok)

pub returns-in-None-clause-ok : goal.returns-in-None-clause-ok
returns-in-None-clause-ok c =
    rw c.in-StructDef.is (ap (with_fields c.args.self.now)
    (tagged-own c.args.children.now None _ c.in-None.ensures refl))

pub returns-in_default-clause-ok : goal.returns-in_default-clause-ok
returns-in_default-clause-ok c =
    ap (with_fields c.args.self.now) (sym (own-none c.args.label c.args.children.now c.in_default.not-StructDef))
