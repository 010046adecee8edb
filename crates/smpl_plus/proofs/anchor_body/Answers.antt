use Rattle.std.proofs.Common.{◌≡◌, ◌&&◌, false, List, None, Some, inr, sym, subst, ◌∙◌}
use Rattle.smpl_patch.specs.declared.pattern.VarDecl.{VarDecl}
use Rattle.smpl_meta.specs.declared.patterns.Placed.{Placed}
use Rattle.smpl_meta.specs.Heads.{has_edit}
use Rattle.smpl_plus.specs.Blocks.{blocks_of}
use Rattle.smpl_plus.specs.Anchors.{has_star}
use Rattle.smpl_plus.specs.SoFar.{RisingFrom, SoFar}
use Rattle.smpl_plus.proofs.Ordered.{pattern-tokens-rise}
use Rattle.smpl_plus.proofs.Ending.{no-star, anchored-all}
use Rattle.smpl_plus.proofs.anchor_body.Goals as goal

pub anchored-requires-clause-rising : goal.anchored-requires-clause-rising
anchored-requires-clause-rising c = subst (RisingFrom 0) (sym (c.as_slice-2.ensures ∙ c.in_ok-placed.ensures))
    (pattern-tokens-rise c.args.vars.now c.args.body.now)

pub returns-in-Some-clause-fault : goal.returns-in-Some-clause-fault
returns-in-Some-clause-fault c =
    let vars = c.args.vars.now in
    let body = c.args.body.now in
    let all = c.in_ok-tokens.field-0 in
    let star : (has_star body && has_edit body) ≡ false = sym c.is_starred_edit.ensures ∙ c.if-is_starred_edit.false in
    let of-vars = subst (λ (v : List VarDecl). SoFar v c.as_slice-2.result.now
    (record { whole = blocks_of c.as_slice-2.result.now body; last = None }) all) c.in_ok-table.ensures c.in_ok-tokens.ensures in
    let s = subst (λ (p : List Placed). SoFar vars p (record { whole = blocks_of p body; last = None }) all)
    (c.as_slice-2.ensures ∙ c.in_ok-placed.ensures) of-vars in
    let first : all.first ≡ Some c.in-Some.fault = cc in
    inr (no-star vars c.args.rule body star ∙ (sym s.first ∙ first))

pub returns-clause-tokens : goal.returns-clause-tokens
returns-clause-tokens c =
    let vars = c.args.vars.now in
    let body = c.args.body.now in
    let all = c.in_ok-tokens.field-0 in
    let star : (has_star body && has_edit body) ≡ false = sym c.is_starred_edit.ensures ∙ c.if-is_starred_edit.false in
    let of-vars = subst (λ (v : List VarDecl). SoFar v c.as_slice-2.result.now
    (record { whole = blocks_of c.as_slice-2.result.now body; last = None }) all) c.in_ok-table.ensures c.in_ok-tokens.ensures in
    let s = subst (λ (p : List Placed). SoFar vars p (record { whole = blocks_of p body; last = None }) all)
    (c.as_slice-2.ensures ∙ c.in_ok-placed.ensures) of-vars in
    let first : all.first ≡ None = cc in
    let same : c.from_vec.result ≡ all.tokens.items = cc in
    anchored-all vars c.args.rule body all c.from_vec.result s star first same
