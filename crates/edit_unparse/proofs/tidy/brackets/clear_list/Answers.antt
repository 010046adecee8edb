use Rattle.std.proofs.Common.{◌≡◌, ◌<◌, ◌≤◌, ◌+◌, ℕ, sym, ap, ◌∙◌, arith, length, drop}
use Rattle.std.proofs.lemmas.List.{length-map}
use Rattle.edit_unparse.specs.Tidy.Clearing.{place_of}
use Rattle.edit_unparse.specs.Tidy.Made.{part_in, parts_in}
use Rattle.edit_unparse.proofs.AlikeLemmas.{alike_length, drop_alike, place_alike}
use Rattle.edit_unparse.proofs.BracketLemmas.{list_none}
use Rattle.edit_unparse.proofs.StayLemmas.{cleared, found_is}
use Rattle.edit_unparse.proofs.tidy.brackets.clear_list.Goals as goal

pub returns-then-start-parts : goal.returns-then-start-parts
returns-then-start-parts c = λ pieces ps are begins closes most.
    let b = c.args.brackets in
    let flags = c.args.stays.now in
    let parts = parts_in pieces c.args.parts.now in
    let same : length ps ≡ length c.args.parts.now = alike_length b.begin ps parts begins ∙ length-map c.args.parts.now (part_in pieces) in
    let long : length flags ≡ length ps = omega arith in
    let there : place_of b.begin (drop b.from flags) (drop b.from ps) ≡ place_of b.begin (drop b.from flags) (drop b.from parts) =
    place_alike b.begin (drop b.from flags) (drop b.from ps) (drop b.from parts) (drop_alike b.begin b.from ps parts begins) in
    let start : c.find-start.result ≡ place_of b.begin flags ps =
    found_is b.begin b.from c.find-start.result flags ps long most
    (λ within. c.find-start.ensures.value pieces (omega arith) ∙ ap (λ (k : ℕ). b.from + k) (sym there)) in
    let past : length ps ≤ place_of b.begin flags ps = omega arith in
    list_none c.args.may_end b.begin b.close ps c.args.signs.now flags long are past

pub returns : goal.returns
returns c = λ pieces ps are begins closes most.
    let b = c.args.brackets in
    let flags = c.args.stays.now in
    let parts = parts_in pieces c.args.parts.now in
    let same : length ps ≡ length c.args.parts.now = alike_length b.begin ps parts begins ∙ length-map c.args.parts.now (part_in pieces) in
    let long : length flags ≡ length ps = omega arith in
    let there : place_of b.begin (drop b.from flags) (drop b.from ps) ≡ place_of b.begin (drop b.from flags) (drop b.from parts) =
    place_alike b.begin (drop b.from flags) (drop b.from ps) (drop b.from parts) (drop_alike b.begin b.from ps parts begins) in
    let start : c.find-start.result ≡ place_of b.begin flags ps =
    found_is b.begin b.from c.find-start.result flags ps long most
    (λ within. c.find-start.ensures.value pieces (omega arith) ∙ ap (λ (k : ℕ). b.from + k) (sym there)) in
    let less : c.find-start.result < length ps = omega arith in
    let next = c.find-start.result + 1 in
    let behind : place_of b.close (drop next flags) (drop next ps) ≡ place_of b.close (drop next flags) (drop next parts) =
    place_alike b.close (drop next flags) (drop next ps) (drop next parts) (drop_alike b.close next ps parts closes) in
    let stop : c.find-stop.result ≡ (c.find-start.result + 1) + place_of b.close (drop (c.find-start.result + 1) flags) (drop (c.find-start.result + 1) ps) =
    c.find-stop.ensures.value pieces (omega arith) ∙ ap (λ (k : ℕ). (c.find-start.result + 1) + k) (sym behind) in
    cleared c.args.may_end b.begin b.close c.find-start.result c.find-stop.result ps c.args.signs.now flags c.clear_commas.new.stays long are start less stop
    c.clear_commas.ensures
