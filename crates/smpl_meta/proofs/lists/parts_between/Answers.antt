use Rattle.std.proofs.Common.{◌≡◌, ◌≤◌, ◌<◌, length, take, drop, sym, ◌∙◌, arith}
use Rattle.std.specs.Prelude.{false}
use Rattle.std.proofs.lemmas.List.{take_rest, length-drop}
use Rattle.smpl_meta.specs.Splits.{chunk_length}
use Rattle.smpl_meta.proofs.SplitLemmas.{so_far_none, so_far_last, so_far_more}
use Rattle.smpl_meta.proofs.lists.parts_between.Goals as goal

pub returns-in-None : goal.returns-in-None
returns-in-None g c =
    let ts = c.args.tokens.now in
    let start = c.loop-parts.start in
    let n = c.chunk_length-n.result in
    let n_is : c.chunk_length-n.result ≡ chunk_length false (drop start ts) = rw take_rest at c.chunk_length-n.ensures.value in
    let within : n ≤ length (drop start ts) = omega (arith, c.chunk_length-n.ensures.within, length-drop start ts) in
    let read : c.in_ok-read.field-0 ≡ g.R.PartReader.spelled c.args.reader.now (take n (drop start ts)) = rw take_rest at c.in_ok-read.ensures in
    sym (so_far_none (g.R.PartReader.spelled c.args.reader.now) ts start c.loop-parts.parts n c.loop-parts.invariant n_is within (sym read ∙ c.in-None.is))

pub returns-then-n-rest : goal.returns-then-n-rest
returns-then-n-rest g c =
    let ts = c.args.tokens.now in
    let start = c.loop-parts.start in
    let n = c.chunk_length-n.result in
    let n_is : c.chunk_length-n.result ≡ chunk_length false (drop start ts) = rw take_rest at c.chunk_length-n.ensures.value in
    let read : c.in_ok-read.field-0 ≡ g.R.PartReader.spelled c.args.reader.now (take n (drop start ts)) = rw take_rest at c.in_ok-read.ensures in
    let all : n ≡ length (drop start ts) = rw take_rest at c.if-n-rest.true in
    rw c.in_ok-push-in-Some.ensures.ok (sym (so_far_last
    (g.R.PartReader.spelled c.args.reader.now) ts start c.loop-parts.parts c.in-Some.part n c.loop-parts.invariant n_is all (sym read ∙ c.in-Some.is)))

pub loop-parts-preserved : goal.loop-parts-preserved
loop-parts-preserved g c =
    let ts = c.args.tokens.now in
    let start = c.loop-parts.start in
    let n = c.chunk_length-n.result in
    let n_is : c.chunk_length-n.result ≡ chunk_length false (drop start ts) = rw take_rest at c.chunk_length-n.ensures.value in
    let read : c.in_ok-read.field-0 ≡ g.R.PartReader.spelled c.args.reader.now (take n (drop start ts)) = rw take_rest at c.in_ok-read.ensures in
    let not_all : n ≡ length (drop start ts) → ⊥ = rw take_rest at c.if-n-rest.false in
    let less : n < length (drop start ts) = omega (arith, c.chunk_length-n.ensures.within, length-drop start ts, not_all) in
    rw c.in_ok-push-in-Some.ensures.ok (so_far_more
    (g.R.PartReader.spelled c.args.reader.now) ts start c.loop-parts.parts c.in-Some.part n c.loop-parts.invariant n_is less (sym read ∙ c.in-Some.is))
