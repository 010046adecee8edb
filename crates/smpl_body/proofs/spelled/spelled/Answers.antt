use Rattle.std.proofs.Common.{◌≡◌, ◌∷◌, [], false, ap, sym, ◌∙◌}
use Rattle.smpl_body.specs.Spelled.{body_forms, IsRead}
use Rattle.smpl_body.specs.SoFar.{WithCodes}
use Rattle.smpl_body.specs.Bodies.{fits}
use Rattle.smpl_body.proofs.SpelledLemmas.{none-fit}
use Rattle.smpl_body.proofs.spelled.spelled.Goals as goal

pub returns : goal.returns
returns c =
    let ps = c.args.placed.now in
    let cut = c.args.cut.now in
    let all = c.in-Some-2.trees.items in
    let body : IsRead body_forms cut.main c.in-Some.tree = rw (c.in-Some.is, c.as_slice.ensures) at c.in_ok-read_main.ensures in
    let first : c.push.new.self.items ≡ c.in-Some.tree ∷ [] = rw c.new-trees.ensures.items at c.in_ok-push.ensures.items in
    let codes : WithCodes c.push.new.self.items all cut.codes = rw (c.in-Some-2.is, c.as_slice-2.ensures) at c.in_ok-put_codes.ensures in
    let unfit : fits ps cut all ≡ false = ap (λ ts. fits ps cut ts) (sym c.as_slice-3.ensures.value) ∙ (sym c.in_ok-fits.ensures ∙ c.if-branch.false) in
    none-fit c.ranges_have_one_tree.ensures ps cut c.in-Some.tree c.push.new.self.items all c.requires body first codes unfit
