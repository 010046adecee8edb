use Rattle.std.proofs.Common.{◌≡◌, inr, true, false, drop, Option, None, subst}
use Rattle.std.proofs.lemmas.List.{take_rest}
use Rattle.iso_file.specs.declared.block.Block.{Block}
use Rattle.iso_file.specs.Stepped.{is_begun, Behind, IsBlockOf}
use Rattle.iso_file.specs.Stepped.IsFormFault.{of_no_form as no_form_fault}
use Rattle.iso_file.proofs.FormLemmas.{not_begun, no_form, is_lost, is_iso, named}
use Rattle.iso_file.proofs.block.read_lines.Goals as goal

pub returns-then-not-is_begun-clause-fault : goal.returns-then-not-is_begun-clause-fault
returns-then-not-is_begun-clause-fault c =
    let lines = c.args.lines.now in
    let none : is_begun lines ≡ false = cc (c.is_begun.ensures, c.if-not-is_begun.true) in
    inr (no_form_fault (λ iso sides f. not_begun lines iso sides none f))

pub returns-in-None-clause-fault : goal.returns-in-None-clause-fault
returns-in-None-clause-fault c =
    let lines = c.args.lines.now in
    let told : Behind (drop 2 lines) c.in_ok-behind_header.field-0 = rw take_rest at c.in_ok-behind_header.ensures in
    let none : Behind (drop 2 lines) None = subst (λ (o : Option Block). Behind (drop 2 lines) o) c.in-None.is told in
    inr (no_form_fault (λ iso sides f. no_form lines none iso sides f))

pub returns-in-Some-lost-clause-fault : goal.returns-in-Some-lost-clause-fault
returns-in-Some-lost-clause-fault c =
    let lines = c.args.lines.now in
    let begun : is_begun lines ≡ true = cc (c.is_begun.ensures, c.if-not-is_begun.false) in
    let told : Behind (drop 2 lines) c.in_ok-behind_header.field-0 = rw take_rest at c.in_ok-behind_header.ensures in
    let found : IsBlockOf (drop 2 lines) c.in-Some.block = subst (λ (o : Option Block). Behind (drop 2 lines) o) c.in-Some.is told in
    inr (is_lost lines c.args.at c.in-Some-lost.place c.in-Some.block found c.in-Some-lost.is begun)

pub returns-in_ok-made_iso-in-None-lost-clause-iso : goal.returns-in_ok-made_iso-in-None-lost-clause-iso
returns-in_ok-made_iso-in-None-lost-clause-iso c =
    let lines = c.args.lines.now in
    let begun : is_begun lines ≡ true = cc (c.is_begun.ensures, c.if-not-is_begun.false) in
    let told : Behind (drop 2 lines) c.in_ok-behind_header.field-0 = rw take_rest at c.in_ok-behind_header.ensures in
    let found : IsBlockOf (drop 2 lines) c.in-Some.block = subst (λ (o : Option Block). Behind (drop 2 lines) o) c.in-Some.is told in
    let e = c.in_ok-made_iso-in-None-lost.ensures in
    let header : c.as_slice.result.now ≡ c.index-lines-1.result = c.as_slice.ensures in
    is_iso lines c.index-lines-1.result c.in-Some.block c.in_ok-made_iso-in-None-lost.field-0 found c.in-None-lost.is begun
    (named c.as_slice.result.now c.index-lines-1.result lines c.in_ok-made_iso-in-None-lost.field-0.name header c.index-lines-1.is e.name) e.vars e.sides e.both
