use Rattle.std.proofs.Common.{[]}
use Rattle.edit_unparse.specs.Written.{insert_text}
use Rattle.edit_bodies.specs.Scenes.{AreVisibleIn, falls_in}
use Rattle.edit_bodies.proofs.SceneLemmas.{AreFirst}
use Rattle.edit_bodies.proofs.words.tokens_of_edit.Given as goal

abbrev pub invariant-loop-i : goal.invariant-loop-i
invariant-loop-i l = AreFirst (λ i insert words. AreVisibleIn (falls_in l.fallen l.fn.number i) (insert_text insert) words) [] l.inserts l.own.items l.i
