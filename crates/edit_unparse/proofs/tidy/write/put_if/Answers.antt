use Rattle.std.proofs.Common.{◌≡◌, true, false, sym, rules, arith, Bool, [], ◌∷◌, subst}
use Rattle.std.specs.Prelude.{OnOk, if◌then◌else◌}
use Rattle.std.proofs.lemmas.Grind.{common_steps}
use Rattle.edit_unparse.specs.Tidy.Made.{part_in}
use Rattle.edit_unparse.specs.Written.{Overflows, Writes}
use Rattle.edit_unparse.proofs.WrittenLemmas.{writes_none}
use Rattle.edit_unparse.proofs.tidy.write.put_if.Goals as goal

pub returns-then-not-stays-clause-ok : goal.returns-then-not-stays-clause-ok
returns-then-not-stays-clause-ok c =
    let part = part_in c.args.lexed.now c.args.part.now in
    let e : c.args.stays ≡ false = first_of (search rules, grind (arith, common_steps)) in
    subst (λ (b : Bool). Writes c.args.draft.now c.args.draft.now (if b then part ∷ [] else [])) (sym e) (writes_none c.args.draft.now)

pub returns-clause-ok : goal.returns-clause-ok
returns-clause-ok c =
    let part = part_in c.args.lexed.now c.args.part.now in
    let e : c.args.stays ≡ true = first_of (search rules, grind (arith, common_steps)) in
    subst (λ (b : Bool). OnOk c.put_part.result (Writes c.args.draft.now c.put_part.new.draft (if b then part ∷ [] else []))) (sym e) c.put_part.ensures.ok

pub returns-clause-too_long : goal.returns-clause-too_long
returns-clause-too_long c = λ fault.
    let part = part_in c.args.lexed.now c.args.part.now in
    let e : c.args.stays ≡ true = first_of (search rules, grind (arith, common_steps)) in
    subst (λ (b : Bool). Overflows c.args.draft.now (if b then part ∷ [] else [])) (sym e) (c.put_part.ensures.too_long fault)
