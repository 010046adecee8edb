use Rattle.std.proofs.Common.{ℕ, List, [], get_or, refl, subst, sym}
use Rattle.std.specs.Prelude.{Option, slice_get}
use Rattle.c_terms.specs.declared.token.Token.{Token}
use Rattle.edit_marks.specs.declared.edit_conflict.edit.Insert.{Insert}
use Rattle.edit_unparse.specs.Written.{insert_text}
use Rattle.edit_bodies.specs.Scenes.{AreVisibleIn, falls_in}
use Rattle.edit_bodies.proofs.SceneLemmas.{first_all}
use Rattle.edit_bodies.proofs.words.tokens_of_edit.Goals as goal

pub returns : goal.returns
returns c = λ insert.
    let falls = falls_in c.args.fallen.now c.args.number in
    let own = c.loop-i.own.items in
    subst (λ (ws : List (List Token)). AreVisibleIn (falls insert) (insert_text (slice_get c.args.edit.now.inserts insert)) (get_or ws insert []))
    (sym c.from_vec-2.ensures)
    (subst (λ (is : List Insert). AreVisibleIn (falls insert) (insert_text (slice_get is insert)) (get_or own insert [])) c.as_slice-inserts.ensures
    (first_all (λ (i : ℕ) (added : Option Insert) (words : List Token). AreVisibleIn (falls i) (insert_text added) words) [] c.as_slice-inserts.result.now own
    c.loop-i.i c.loop-i-test.false c.loop-i.invariant (λ k. refl) insert))
