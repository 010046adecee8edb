use Rattle.std.proofs.Common.{◌≡◌, ◌<◌, sym, ap, ◌∙◌, subst, length}
use Rattle.std.specs.List.{list_all}
use Rattle.std.proofs.lemmas.Result.{IfOk-weaker}
use Rattle.smpl_terms.specs.Vars.{Rising, with_pair}
use Rattle.smpl_terms.specs.Environments.{value_in}
use Rattle.env_parts.specs.Parts as of
use Rattle.env_parts.proofs.RisingLemmas.{absent_before, restricted_kept, restricted_left, restricted_all}
use Rattle.env_parts.proofs.parts.restricted.Goals as goal
use Rattle.env_parts.proofs.parts.restricted.Goals.{then-is_among+in_ok-part, else-is_among}

pub returns-then-are_among : goal.returns-then-are_among
returns-then-are_among c =
    let all : of.restricted c.args.vars.now c.args.env.now ≡ c.args.env.now =
    restricted_all c.args.vars.now c.args.env.now
    (ap (λ ps. list_all (λ p. of.is_among c.args.vars.now p.0) ps) (sym c.pairs-pairs.ensures.pairs) ∙ sym c.are_among.ensures ∙ c.if-are_among.true) in
    record {
      pairs = IfOk-weaker c.copy.result (λ r. r ≡ c.args.env.now) (λ r. r ≡ of.restricted c.args.vars.now c.args.env.now)
          (λ r h. h ∙ sym all) c.copy.ensures.same;
    }

pub with-requires : goal.with-requires
with-requires c = record {
  absent = ap (λ ps. value_in ps c.p-item.result.0) c.loop-p.invariant
      ∙ absent_before c.args.vars.now c.pairs-pairs.result.now c.loop-p.p-index c.p-item.result
      (subst Rising (sym c.pairs-pairs.ensures.pairs) c.pairs-pairs.ensures.rising) c.loop-p-test.true c.p-item.is;
}

pub loop-p-preserved : goal.loop-p-preserved
loop-p-preserved c =
    let rises : Rising c.pairs-pairs.result.now = subst Rising (sym c.pairs-pairs.ensures.pairs) c.pairs-pairs.ensures.rising in
    let within : c.loop-p.p-index < length c.pairs-pairs.result.now = c.loop-p-test.true in
    let vars = c.args.vars.now in
    let ps = c.pairs-pairs.result.now in
    let n = c.loop-p.p-index in
    let p = c.p-item.result in
    elim c.if-is_among.branch [
      | then-is_among+in_ok-part w ↦
          w.part-is ∙ w.in_ok-part.ensures.pairs
          ∙ ap (λ e. with_pair e p.0 p.1) c.loop-p.invariant
          ∙ restricted_kept vars ps n p rises within c.p-item.is (sym c.is_among.ensures.value ∙ w.if-is_among.true)
      | else-is_among w ↦
          w.part-is ∙ c.loop-p.invariant
          ∙ restricted_left vars ps n p rises within c.p-item.is (sym c.is_among.ensures.value ∙ w.if-is_among.false)
    ]
