use Rattle.std.proofs.Common.{◌≡◌, inr, subst, Some, List}
use Rattle.std.proofs.Math.Path.{subst₂}
use Rattle.std.specs.Prelude.{slice_get}
use Rattle.c_lexer.specs.Ids.{ids_of}
use Rattle.c_lexer.specs.Pieces.{TextPiece}
use Rattle.cpp_lines.specs.declared.reading.Item.{Item}
use Rattle.edit_bodies.specs.Laid.{IsLaidOut}
use Rattle.rule_chain.proofs.RuleEdits.BodyLemmas.{token_is_within, body_is_broken}
use Rattle.rule_chain.proofs.RuleEdits.TidyLemmas.{broken_fault}
use Rattle.rule_chain.proofs.rule_edits.tidied.laid_out.Goals as goal

pub id_of-requires : goal.id_of-requires
id_of-requires c =
    token_is_within c.lexed-lexed.result.now c.args.file.now.pieces c.items.result.now c.args.file.now.items c.args.made.now c.in-Err-Body.field-0
    c.in-Err-Body.token c.lexed-lexed.ensures.lexed c.in-Err-Body.field-0-is c.in-Err-Body.ensures.fault c.requires.own

pub returns-in-Ok-clause-laid : goal.returns-in-Ok-clause-laid
returns-in-Ok-clause-laid c =
    subst₂ (λ (ps : List TextPiece) (its : List Item). IsLaidOut ps its c.args.made.now c.in-Ok.laid) c.lexed-lexed.ensures.lexed c.items.ensures.items
    c.in-Ok.ensures.laid

pub returns-in-Err-Body-clause-fault : goal.returns-in-Err-Body-clause-fault
returns-in-Err-Body-clause-fault c = inr (λ next.
    broken_fault next c.args.file.now.pieces c.args.file.now.items c.args.made.now c.requires.apart c.requires.edited c.in-Err-Body.token c.id_of.result
    (body_is_broken c.lexed-lexed.result.now c.args.file.now.pieces c.items.result.now c.args.file.now.items c.args.made.now c.in-Err-Body.field-0
    c.in-Err-Body.token c.lexed-lexed.ensures.lexed c.in-Err-Body.field-0-is c.in-Err-Body.ensures.fault c.items.ensures.items)
    (subst (λ (ps : List TextPiece). slice_get (ids_of ps) c.in-Err-Body.token ≡ Some c.id_of.result) c.lexed-lexed.ensures.lexed c.id_of.ensures))
