use Rattle.std.proofs.Common.{◌≡◌, ◌∙◌, refl, sym}
use Rattle.std.proofs.lemmas.Result.{err_from_is_err_and}
use Rattle.std.proofs.lemmas.Bool.{false≢true}
use Rattle.rule_chain.specs.declared.rule_run.fault.FileFault.TheVariants.{NoMemory}
use Rattle.rule_chain.specs.Chain.{Refused}
use Rattle.rule_chain.specs.Passed.{EndsBy}
use Rattle.run_files.specs.Treatment.{faulted, told_places}
use Rattle.run_files.specs.Cuts.TreatsPart.{earlier, later}
use Rattle.run_files.proofs.TreatLemmas.{fault_ends, text_places}
use Rattle.run_files.proofs.applies.apply_or_refuse.Goals as goal

pub returns-in_err-copy-clause-stopped : goal.returns-in_err-copy-clause-stopped
returns-in_err-copy-clause-stopped g c =
    let p = err_from_is_err_and c.from_residual.result c.from_residual.ensures.1 in
    rw (p.1, p.2) (λ files out stores s o s' o'. earlier refl refl)

pub returns-in-Ok-clause-done : goal.returns-in-Ok-clause-done
returns-in-Ok-clause-done g c = rw (← c.in_ok-copy.ensures) (λ files stores out.
    let is = c.in-Ok.ensures.result in (is.0, (is.1.0, (is.1.1, refl))))

pub returns-in_err-refuse-in-Err-clause-stopped : goal.returns-in_err-refuse-in-Err-clause-stopped
returns-in_err-refuse-in-Err-clause-stopped g c =
    let p = err_from_is_err_and c.from_residual-in_err-refuse-in-Err.result c.from_residual-in_err-refuse-in-Err.ensures.1 in
    let other : c.in-Err.fault ≡ NoMemory → ⊥ = λ e. false≢true (sym c.if-is_no_memory.false ∙ c.is_no_memory.ensures.1 e) in
    let rules = c.args.rules.now in
    let bytes = c.args.bytes.now in
    let made : EndsBy rules.tidy rules.unread rules.patch.now.rules rules.defined.now bytes (Refused c.in-Err.fault) =
    rw (← c.in_ok-copy.ensures) (fault_ends rules.tidy rules.unread rules.patch.now.rules rules.defined.now c.in_ok-copy.copy.items c.in-Err.fault other
    c.in-Err.ensures.result) in
    let found = text_places bytes in
    rw (p.1, p.2) (λ files out stores s o s' o'.
    later (faulted c.args.name.now bytes (told_places c.args.quiet found.0) c.in-Err.fault)
    (c.in-Err.fault, (made, (found.0, (found.1, refl))))
    (c.in_err-refuse-in-Err.ensures.stopped found.0 found.1 files out stores s o s' o'))

pub returns-in_ok-refuse-in-Err-clause-done : goal.returns-in_ok-refuse-in-Err-clause-done
returns-in_ok-refuse-in-Err-clause-done g c = λ files stores out.
    let other : c.in-Err.fault ≡ NoMemory → ⊥ = λ e. false≢true (sym c.if-is_no_memory.false ∙ c.is_no_memory.ensures.1 e) in
    let rules = c.args.rules.now in
    let bytes = c.args.bytes.now in
    let made : EndsBy rules.tidy rules.unread rules.patch.now.rules rules.defined.now bytes (Refused c.in-Err.fault) =
    rw (← c.in_ok-copy.ensures) (fault_ends rules.tidy rules.unread rules.patch.now.rules rules.defined.now c.in_ok-copy.copy.items c.in-Err.fault other
    c.in-Err.ensures.result) in
    let found = text_places bytes in
    (c.in-Err.fault, (made, (found.0, (found.1, c.in_ok-refuse-in-Err.ensures.done found.0 found.1 files stores out))))
