use Rattle.std.proofs.Common.{◌≡◌, ◌++◌, drop, length}
use Rattle.std.specs.Prelude.{None}
use Rattle.edit_marks.specs.Blocks.{tokens_text, without_lead, last_token}
use Rattle.edit_marks.proofs.line.put_line.Given as goal

abbrev pub invariant-loop-i : goal.invariant-loop-i
invariant-loop-i l = record {
  end : l.i-end ≡ length l.tokens;
  written : l.out.items ++ tokens_text l.decls l.env l.edge.beside (without_lead l.lead (drop l.i l.gaps)) (drop l.i l.tokens)
      ≡ l.initial.out.items ++ tokens_text l.decls l.env None (without_lead l.initial.lead l.gaps) l.tokens;
  last : last_token l.decls l.env l.edge.last (drop l.i l.tokens) ≡ last_token l.decls l.env l.initial.edge.last l.tokens;
}
