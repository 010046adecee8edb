use Rattle.std.proofs.Common.{◌∙◌, ap, sym, length}
use Rattle.ctl_table.proofs.EachLemmas.{from-nothing}
use Rattle.ctl_table.proofs.end_atoms.from_scope.Goals as goal

pub returns-then-len-eq0 : goal.returns-then-len-eq0
returns-then-len-eq0 c = record {
  made = from-nothing c.args.parts.now c.args.n.now c.args.scope.now c.requires (ap length (sym c.get.ensures.value) ∙ sym c.len.ensures ∙ c.if-len-eq0.true);
}
