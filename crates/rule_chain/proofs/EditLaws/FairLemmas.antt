-- Inserts of blanks and tokens of C are fair.
use Rattle.std.proofs.Common.{◌≡◌, ℕ, Bool, true, false, ◌&&◌, refl, List, [], ◌∷◌}
use Rattle.std.specs.Prelude.{All}
use Rattle.std.specs.List.{list_all}
use Rattle.std.proofs.lemmas.List.Elements.{All-head, All-tail}
use Rattle.c_show.specs.PlainText.{IsPlainText}
use Rattle.edit_marks.specs.declared.edit_conflict.edit.Insert.{Insert}
use Rattle.edit_marks.specs.declared.edit_conflict.edit.Edit.{Edit}
use Rattle.edit_marks.specs.Edits.{ArePlainInserts}
use Rattle.edit_unparse.specs.Cutting.{cut, cut-lexes}
use Rattle.edit_unparse.specs.Fair.{is_plain_text, has_plain_inserts}

both : (a b : Bool) → a ≡ true → b ≡ true → (a && b) ≡ true
both true b x y = y
both false b x y = absurd cc

fair_text : (text : List ℕ) → IsPlainText text → is_plain_text text ≡ true
fair_text text plain = plain (cut text) (cut-lexes text)

fair_inserts : (inserts : List Insert) → ArePlainInserts inserts → list_all (λ i. is_plain_text i.text) inserts ≡ true
fair_inserts [] h = refl
fair_inserts (i ∷ inserts) h = both (is_plain_text i.text) (list_all (λ j. is_plain_text j.text) inserts) (fair_text i.text h.0) (fair_inserts inserts h.1)

pub fair_edits : (edits : List Edit) → All (λ edit. ArePlainInserts edit.inserts) edits → list_all has_plain_inserts edits ≡ true
fair_edits [] h = refl
fair_edits (e ∷ edits) h =
    both (has_plain_inserts e) (list_all has_plain_inserts edits) (fair_inserts e.inserts (All-head (λ (d : Edit). ArePlainInserts d.inserts) e edits h))
    (fair_edits edits (All-tail (λ (d : Edit). ArePlainInserts d.inserts) e edits h))
