use Rattle.std.proofs.Common.{◌++◌, ◌&&◌, ap, ◌∙◌, arith, cond, []}
use Rattle.smpl_notes.specs.Types.{type_note, is_lone}
use Rattle.smpl_notes.proofs.TypeLemmas.{types-step, types-end}
use Rattle.smpl_notes.proofs.types.type_notes.Goals as goal

pub loop-i-preserved : goal.loop-i-preserved
loop-i-preserved c = record {
  same = c.in_ok-put_if.ensures.same ∙ c.loop-i.invariant.same;
  done = types-step c.args.places.now c.args.number c.args.decls.now c.loop-i.i c.index-decls-i.result c.loop-i.begins c.is_lone-lone.result
      c.is_sign-begins.result c.loop-i.notes c.put_if.new.notes _ (omega arith) c.index-decls-i.is
      (c.is_lone-lone.ensures ∙ ap (λ o. c.loop-i.begins && is_lone c.index-decls-i.result o) c.at.ensures)
      (c.in_ok-put_if.ensures.notes
      ∙ ap (λ z. c.loop-i.notes ++ cond c.is_lone-lone.result (type_note z c.args.number c.index-decls-i.result) []) c.loop-i.invariant.same)
      c.is_sign-begins.ensures.value c.loop-i.invariant.done;
}

pub returns-clause-notes : goal.returns-clause-notes
returns-clause-notes c =
    types-end c.args.places.now c.args.number c.args.decls.now c.loop-i.i c.loop-i.begins c.loop-i.notes _ (omega arith) c.loop-i.invariant.done
