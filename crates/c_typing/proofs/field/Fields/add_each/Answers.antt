use Rattle.c_typing.specs.Fields.{field_of}
use Rattle.c_typing.proofs.FieldLemmas.{keeps-field, keeps-more, binding-more}
use Rattle.c_typing.proofs.field.Fields.add_each.Goals as goal

pub loop-binding-preserved : goal.loop-binding-preserved
loop-binding-preserved c = record {
  done = binding-more _ c.loop-binding.self c.add.new.self c.args.is_union c.args.tag.now c.loop-binding.yielded c.in-Some.binding
      c.loop-binding.invariant.done c.in_ok-add.ensures.ok;
  kept = keeps-more _ c.loop-binding.self c.add.new.self c.loop-binding.invariant.kept
      (rw c.in_ok-add.ensures.ok (keeps-field c.loop-binding.self (field_of c.args.is_union c.args.tag.now c.in-Some.binding)));
}

pub returns-in_err-add-clause-kept : goal.returns-in_err-add-clause-kept
returns-in_err-add-clause-kept c = rw c.in_err-add.ensures.err c.loop-binding.invariant.kept
