use Rattle.std.proofs.Common.{◌≡◌, Ok, Err}
use Rattle.c_expr.specs.declared.fault.ParseFault.TheVariants.{NoTree, TooDeep}
use Rattle.smpl_body.proofs.ReadingLemmas.{kind-alone, reads-form, form-found, form-none, form-deep}
use Rattle.smpl_body.proofs.reading.read_form.Goals as goal

pub parse_kind-requires-clause-alone : goal.parse_kind-requires-clause-alone
parse_kind-requires-clause-alone c = rw c.kind_of.ensures (kind-alone c.args.form)

pub returns-in-Ok : goal.returns-in-Ok
returns-in-Ok c =
    form-found c.args.form c.args.tokens.now c.in-Ok.tree c.of_form.result
    (reads-form c.args.form c.kind_of.result c.args.names.now c.args.tokens.now (Ok c.in-Ok.tree) c.kind_of.ensures c.requires c.in-Ok.ensures.reads)
    c.of_form.ensures

pub returns-in-Err-NoTree : goal.returns-in-Err-NoTree
returns-in-Err-NoTree c =
    let e : c.parse_kind.result ≡ Err NoTree = rw c.in-Err-NoTree.field-0-is at c.in-Err-NoTree.is in
    form-none c.args.form c.args.tokens.now c.parse_kind.result
    (reads-form c.args.form c.kind_of.result c.args.names.now c.args.tokens.now c.parse_kind.result c.kind_of.ensures c.requires c.parse_kind.ensures.reads) e

pub returns-in-Err-TooDeep : goal.returns-in-Err-TooDeep
returns-in-Err-TooDeep c =
    let e : c.parse_kind.result ≡ Err TooDeep = rw c.in-Err-TooDeep.field-0-is at c.in-Err-TooDeep.is in
    form-deep c.args.form c.args.tokens.now c.parse_kind.result
    (reads-form c.args.form c.kind_of.result c.args.names.now c.args.tokens.now c.parse_kind.result c.kind_of.ensures c.requires c.parse_kind.ensures.reads) e
