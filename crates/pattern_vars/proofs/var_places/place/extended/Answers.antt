use Rattle.std.proofs.Common.{◌≡◌, ◌∙◌, ◌++◌, sym, ap, subst, arith, length, take, append-nil, List}
use Rattle.std.specs.Result.{IfOk}
use Rattle.std.proofs.lemmas.List.{nil_from_length}
use Rattle.std.proofs.Math.Seq.{take-length}
use Rattle.smpl_terms.specs.declared.var.Var.{Var}
use Rattle.pattern_vars.proofs.var_places.place.extended.Goals as goal

pub returns-then-here-eq0 : goal.returns-then-here-eq0
returns-then-here-eq0 c =
    let none : length c.args.here.now ≡ 0 = omega arith in
    subst (λ (z : List Var). IfOk c.share.result (λ found. found ≡ z))
    (sym (append-nil c.args.scope.now) ∙ ap (λ (z : List Var). c.args.scope.now ++ z) (sym (nil_from_length c.args.here.now none))) c.share.ensures

pub returns : goal.returns
returns c =
    let here : c.in_ok-inside.inside.vars ≡ c.args.here.now =
    c.in_ok-inside.ensures.vars ∙ c.in_ok-append.ensures ∙ ap (λ (z : List Var). z ++ c.args.here.now) c.new-vars.ensures.items in
    subst (λ (z : List Var). IfOk c.front.result (λ found. found ≡ z))
    (ap (λ (z : List Var). z ++ take (length c.args.here.now) c.in_ok-inside.inside.vars) c.in_ok-inside.ensures.outer
    ∙ ap (λ (z : List Var). c.args.scope.now ++ z) (ap (take (length c.args.here.now)) here ∙ take-length c.args.here.now))
    c.front.ensures
