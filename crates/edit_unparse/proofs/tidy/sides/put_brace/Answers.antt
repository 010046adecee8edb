use Rattle.std.proofs.Common.{◌≡◌, ◌==◌, ℕ, Bool, true, false, ap, ◌∙◌, sym, eq-eqb, List, [], ◌∷◌}
use Rattle.std.specs.Prelude.{if◌then◌else◌}
use Rattle.std.proofs.lemmas.List.{append-nil}
use Rattle.edit_unparse.specs.Output.{added, new_parts}
use Rattle.edit_unparse.proofs.Oks.{ok_more}
use Rattle.edit_unparse.proofs.tidy.sides.put_brace.Goals as goal

-- a brace that stands there
brace_text : (b : Bool) (text own : List ℕ) → b ≡ true → own ≡ text → new_parts own ≡ added (if b then text ∷ [] else [])
brace_text true text own is same = ap new_parts same ∙ sym (append-nil (new_parts text))
brace_text false text own is same = absurd cc

pub returns : goal.returns
returns c = λ pieces.
    ok_more c.put_text.result _ _ _ _ (c.put_text.ensures.parts pieces)
    (brace_text (c.args.brace.now.inserts == c.args.count) c.args.brace.now.text c.as_bytes.result.now
    (eq-eqb c.args.brace.now.inserts c.args.count c.if-brace-count.false) c.as_bytes.ensures.bytes)
