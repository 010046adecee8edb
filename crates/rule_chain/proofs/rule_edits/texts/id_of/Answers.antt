use Rattle.std.proofs.Common.{◌≡◌, ◌<◌, ◌+◌, ◌-◌, None, Some, sym, ap, ◌∙◌, arith, get_or, drop}
use Rattle.std.specs.Prelude.{slice_get}
use Rattle.std.proofs.lemmas.Option.{slice_get-get_or}
use Rattle.c_lexer.specs.Ids.{ids_of}
use Rattle.rule_chain.proofs.RuleEdits.TokenLemmas.{word_here, word_passed, no_word, none_left}
use Rattle.rule_chain.proofs.rule_edits.texts.id_of.Goals as goal
use Rattle.rule_chain.proofs.rule_edits.texts.id_of.Goals.{in-Word+else-number-token, in_default}

pub returns-then-number-token : goal.returns-then-number-token
returns-then-number-token c =
    sym c.loop-i.invariant.rest
    ∙ word_here c.args.lexed.now c.loop-i.i c.piece.result.kind _ c.piece.ensures.piece c.in-Word.field-0 c.in-Word.id c.args.token c.loop-i.number
    c.in-Word.is c.if-number-token.true

pub loop-i-preserved : goal.loop-i-preserved
loop-i-preserved c =
    let pieces = c.args.lexed.now in
    let i = c.loop-i.i in
    elim c.match-piece.branch [
      | in-Word+else-number-token w ↦
          let lt : c.loop-i.number < c.args.token = omega arith in
          record {
            passed = omega arith;
            rest = ap (λ n. slice_get (ids_of (drop (i + 1) pieces)) (c.args.token - n)) w.number-is
                ∙ sym (word_passed pieces i c.piece.result.kind _ c.piece.ensures.piece w.in-Word.field-0 w.in-Word.id
                c.args.token c.loop-i.number w.in-Word.is lt)
                ∙ c.loop-i.invariant.rest;
          }
      | in_default w ↦ record {
        passed = omega arith;
        rest = ap (λ n. slice_get (ids_of (drop (i + 1) pieces)) (c.args.token - n)) w.number-is
            ∙ ap (λ ids. slice_get ids (c.args.token - c.loop-i.number))
            (sym (no_word pieces i c.piece.result.kind _ c.piece.ensures.piece (λ k id. w.in_default.not-Word k id)))
            ∙ c.loop-i.invariant.rest;
      }
    ]

pub returns : goal.returns
returns c =
    let ids = ids_of c.args.lexed.now in
    let none : slice_get ids c.args.token ≡ None =
    sym c.loop-i.invariant.rest ∙ none_left c.args.lexed.now c.loop-i.i (c.args.token - c.loop-i.number) (omega arith) in
    let some : slice_get ids c.args.token ≡ Some (get_or ids c.args.token 0) = slice_get-get_or ids c.args.token 0 (omega arith) in
    absurd cc
