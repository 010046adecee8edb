use Rattle.std.proofs.Common.{map}
use Rattle.std.proofs.lemmas.Result.{err_from_is_err_and}
use Rattle.spatch_run.proofs.Beginning.{unfed_first, follows_refusal}
use Rattle.spatch_run.proofs.stages.refuse_texts.Goals as goal

pub word_fault-requires : goal.word_fault-requires
word_fault-requires g c = c.requires.texts

pub returns-in_err-fault : goal.returns-in_err-fault
returns-in_err-fault g c = record {
  ends = λ files out stores s o.
      let p = err_from_is_err_and c.from_residual.result c.from_residual.ensures.1 in
      rw (p.1, p.2) (unfed_first _ _ _);
}

pub returns : goal.returns
returns g c = record {
  ends = λ files out stores s o.
      follows_refusal (map (λ t. t.now) c.args.texts.now) c.in_ok-fault.fault c.requires.none c.in_ok-fault.ensures.fault
      (c.refuse_words.ensures.ends files out stores s o);
}
