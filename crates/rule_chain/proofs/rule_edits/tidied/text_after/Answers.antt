use Rattle.std.proofs.Common.{◌≡◌, ◌≤◌, ◌<◌, ◌⊎◌, inr, true, false, ap, sym, subst, ◌∙◌, arith, List, length}
use Rattle.std.specs.Prelude.{All}
use Rattle.std.proofs.lemmas.Grind.{common_steps}
use Rattle.std.proofs.lemmas.Result.{err_from_is_err_and}
use Rattle.c_lexer.specs.Ids.{ids_of}
use Rattle.c_lexer.specs.Pieces.{TextPiece, text_of}
use Rattle.edit_marks.specs.EditWalk.Fit.{FitsText}
use Rattle.rule_chain.specs.RuleEdits.Pages as of
use Rattle.rule_chain.specs.declared.rule_edits.fault.EditFault.TheVariants as fault
use Rattle.rule_chain.specs.RuleEdits.Tidied.{IsTidyEditFault, TidyLeaves, tidied_page}
use Rattle.rule_chain.proofs.RuleEdits.LeaveLemmas.{apart_of}
use Rattle.rule_chain.proofs.RuleEdits.TidyLemmas.{at_one, clash_fault, leaves_old, leaves_new, long_fault}
use Rattle.rule_chain.proofs.rule_edits.tidied.text_after.Goals as goal

pub conflict-requires : goal.conflict-requires
conflict-requires c = record {
  first = c.in-Some.ensures.first;
  fit = subst (λ (ps : List TextPiece). All (FitsText (length (ids_of ps))) c.args.made.list) (sym c.lexed-lexed.ensures.lexed) c.requires.fit;
}

pub laid_out-requires : goal.laid_out-requires
laid_out-requires c =
    let same : c.is_edited.result ≡ of.is_edited c.args.made.list = c.is_edited.ensures ∙ ap of.is_edited c.edits.ensures.edits in
    record {
      apart = apart_of c.first_clash.result c.in_default.not-Some c.first_clash.ensures.none;
      edited = grind (arith, common_steps);
      own = c.requires.own;
    }

pub returns-in-Some-clause-fault : goal.returns-in-Some-clause-fault
returns-in-Some-clause-fault c =
    let next = c.args.next in
    let lexed = c.lexed-lexed in
    inr (subst (λ (ps : List TextPiece). IsTidyEditFault next ps c.args.file.now.items c.args.made c.conflict.result) lexed.ensures.lexed
    (clash_fault next lexed.result.now c.args.file.now.items c.args.made c.in-Some.clash c.conflict.result c.in-Some.ensures.first
    (c.conflict.ensures.fault next)))

pub returns-then-not-is_edited-clause-text : goal.returns-then-not-is_edited-clause-text
returns-then-not-is_edited-clause-text c =
    let same : c.is_edited.result ≡ of.is_edited c.args.made.list = c.is_edited.ensures ∙ ap of.is_edited c.edits.ensures.edits in
    let e : of.is_edited c.args.made.list ≡ false = grind (arith, common_steps) in
    subst (TidyLeaves c.args.next c.args.file.now.pieces c.args.file.now.items c.args.made) (sym c.nothing_new.ensures.none)
    (leaves_old c.args.next c.args.file.now.pieces c.args.file.now.items c.args.made
    (apart_of c.first_clash.result c.in_default.not-Some c.first_clash.ensures.none) e
    (subst (λ (ps : List TextPiece). length (text_of ps) ≤ 16777216) c.lexed-lexed.ensures.lexed c.nothing_new.ensures.short))

pub returns-clause-text : goal.returns-clause-text
returns-clause-text c =
    let same : c.is_edited.result ≡ of.is_edited c.args.made.list = c.is_edited.ensures ∙ ap of.is_edited c.edits.ensures.edits in
    let e : of.is_edited c.args.made.list ≡ true = grind (arith, common_steps) in
    leaves_new c.args.next c.args.file.now.pieces c.args.file.now.items c.args.made
    (apart_of c.first_clash.result c.in_default.not-Some c.first_clash.ensures.none) e c.in_ok-laid.laid c.in_ok-laid.ensures.laid c.in_ok-text.text
    (c.in_ok-text.ensures.text ∙ ap (λ (ps : List TextPiece). tidied_page c.args.next ps c.args.made.list c.in_ok-laid.laid) c.lexed-lexed.ensures.lexed)
    c.in_ok-text.ensures.short

pub returns-in_err-laid-clause-fault : goal.returns-in_err-laid-clause-fault
returns-in_err-laid-clause-fault c =
    let p = err_from_is_err_and c.from_residual.result c.from_residual.ensures.1 in
    rw (p.1, p.2) (at_one (λ n. IsTidyEditFault n c.args.file.now.pieces c.args.file.now.items c.args.made c.in_err-laid.field-0.0) c.args.next
    c.in_err-laid.ensures.fault)

pub returns-in_err-text-clause-fault : goal.returns-in_err-text-clause-fault
returns-in_err-text-clause-fault c =
    let p = err_from_is_err_and c.from_residual-in_err-text.result c.from_residual-in_err-text.ensures.1 in
    let same : c.is_edited.result ≡ of.is_edited c.args.made.list = c.is_edited.ensures ∙ ap of.is_edited c.edits.ensures.edits in
    let e : of.is_edited c.args.made.list ≡ true = grind (arith, common_steps) in
    let f = c.in_err-text.field-0.0 in
    let laid = c.in_ok-laid.laid in
    rw (p.1, p.2) (long_fault c.args.next c.args.file.now.pieces c.args.file.now.items c.args.made
    (apart_of c.first_clash.result c.in_default.not-Some c.first_clash.ensures.none) e laid c.in_ok-laid.ensures.laid f
    (subst (λ (ps : List TextPiece). (f ≡ fault.NoMemory)
    ⊎ ((f ≡ fault.TooLong) × (16777216 < length (tidied_page c.args.next ps c.args.made.list laid).bytes)))
    c.lexed-lexed.ensures.lexed c.in_err-text.ensures.fault))
