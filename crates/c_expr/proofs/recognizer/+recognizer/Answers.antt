use Rattle.std.proofs.Common.{arith, rules, refl, subst, sym, ap, ◌∙◌}
use Rattle.std.specs.Prelude.{IsTrue, Option}
use Rattle.std.proofs.lemmas.Result.{err_from_is_err_and}
use Rattle.c_rows.specs.declared.symbol.Symbol.TheVariants.{Word, Child, Argument}
use Rattle.c_rows.specs.declared.word.Word.TheVariants.{Name}
use Rattle.c_rows.specs.Rows.{Row}
use Rattle.c_rows.specs.Choice.{row_fine}
use Rattle.c_rows.specs.Seen.{front}
use Rattle.c_rows.proofs.Checks.{own_fine}
use Rattle.c_rows.proofs.LengthLemmas.{fine_rest}
use Rattle.c_expr.specs.declared.memo.Recognizer.{Recognizer}
use Rattle.c_expr.specs.Recognizers.{Known}
use Rattle.c_expr.proofs.OperandLemmas.{at_none, at_zero, fault_weaker, ok_each}
use Rattle.c_expr.proofs.Growing.{no_start}
use Rattle.c_expr.proofs.RecognizerLemmas.{row_whole, leaf_here, err_each, opened, not_opened, never_opened, grown, not_grown}
use Rattle.c_expr.proofs.RecognizerLemmas.{never_grown, too_high, child_steps, child_shorter, child_stuck, member_steps}
use Rattle.c_expr.proofs.RecognizerLemmas.{member_shorter, member_stuck, moves_none, moves_more, moves_on, moves_stuck}
use Rattle.c_expr.proofs.RecognizerLemmas.{grew_first, grew_more, grew_shorter, grew_stuck, grew_all}
use Rattle.c_expr.proofs.recognizer.+recognizer.Goals as goal

-- ---- parts of a row

pub pass_child-returns-in_err-found-clause-refused : goal.pass_child-returns-in_err-found-clause-refused
pass_child-returns-in_err-found-clause-refused t c =
    let p = err_from_is_err_and c.from_residual.result c.from_residual.ensures.1 in
    rw (p.1, p.2) (fault_weaker _ _ _ (child_stuck c.args.most c.args.seen.now c.args.kind c.args.spot.row.now c.args.spot.at
    c.requires.fine) c.in_err-found.ensures.refused)

pub pass_child-returns-clause-steps : goal.pass_child-returns-clause-steps
pass_child-returns-clause-steps t c = record {
  moves = record {
    leads = child_steps c.args.most c.args.seen.now c.args.kind c.args.spot.row.now c.args.spot.at c.args.spot.deepest
        c.max.result c.args.spot.parts.items c.push.new.self.items c.in_ok-found.found c.requires.fine
        c.in_ok-found.ensures.found (search rules) c.max.ensures;
    ahead = c.in_ok-found.ensures.found.ahead;
  };
  fine = fine_rest (Child c.args.kind) c.args.spot.row.now c.requires.fine;
  smaller = child_shorter c.args.most c.args.seen.now c.args.kind c.args.spot.row.now c.args.spot.at c.in_ok-found.found
      c.requires.fine c.in_ok-found.ensures.found;
}

pub pass_argument-returns-in_err-found-clause-refused : goal.pass_argument-returns-in_err-found-clause-refused
pass_argument-returns-in_err-found-clause-refused t c =
    let p = err_from_is_err_and c.from_residual.result c.from_residual.ensures.1 in
    rw (p.1, p.2) (fault_weaker _ _ _ (member_stuck c.args.most c.args.seen.now c.member_kind-kind.result c.args.spot.row.now
    c.args.spot.at c.rest_at.result.now c.front_typed.result c.rest_at.ensures c.front_typed.ensures.value
    c.member_kind-kind.ensures.value c.requires.fine) c.in_err-found.ensures.refused)

pub pass_argument-returns-clause-steps : goal.pass_argument-returns-clause-steps
pass_argument-returns-clause-steps t c = record {
  moves = record {
    leads = member_steps c.args.most c.args.seen.now c.member_kind-kind.result c.args.spot.row.now c.args.spot.at
        c.args.spot.deepest c.max.result c.args.spot.parts.items c.push.new.self.items c.in_ok-found.found c.rest_at.result.now
        c.front_typed.result c.rest_at.ensures c.front_typed.ensures.value c.member_kind-kind.ensures.value c.requires.fine
        c.in_ok-found.ensures.found (search rules) c.max.ensures;
    ahead = c.in_ok-found.ensures.found.ahead;
  };
  fine = fine_rest Argument c.args.spot.row.now c.requires.fine;
  smaller = member_shorter c.args.most c.args.seen.now c.member_kind-kind.result c.args.spot.row.now c.args.spot.at
      c.in_ok-found.found c.rest_at.result.now c.front_typed.result c.rest_at.ensures c.front_typed.ensures.value
      c.member_kind-kind.ensures.value c.in_ok-found.ensures.found;
}

-- ---- a row

pub pass_row-loop-spot-init : goal.pass_row-loop-spot-init
pass_row-loop-spot-init t c = record {
  moves = moves_none c.args.most c.args.seen.now c.args.spot.row.now c.args.spot refl;
  fine = c.requires.fine;
  right = c.requires.right;
}

pub pass_row-pass-requires : goal.pass_row-pass-requires
pass_row-pass-requires t c = (
  omega arith,
  (
    subst (λ (ps : Row). IsTrue (row_fine ps))
        (row_whole c.loop-spot.spot.row.now (Word Name) c.in-len1-up.len_at_least) c.loop-spot.invariant.fine,
    c.loop-spot.invariant.right,
  ),
)

pub pass_row-loop-spot-preserved : goal.pass_row-loop-spot-preserved
pass_row-loop-spot-preserved t c = record {
  moves = moves_more c.args.most c.args.seen.now c.args.spot.row.now c.args.spot c.loop-spot.spot _ c.in_ok-spot.spot _
      c.loop-spot.invariant.moves c.in_ok-spot.ensures.steps (row_whole c.loop-spot.spot.row.now (Word Name) c.in-len1-up.len_at_least) refl refl refl;
  fine = c.in_ok-spot.ensures.steps.fine;
  right = c.in_ok-spot.ensures.right;
}

pub pass_row-loop-spot-smaller : goal.pass_row-loop-spot-smaller
pass_row-loop-spot-smaller t c = let less = c.in_ok-spot.ensures.steps.smaller in search rules

pub pass_row-returns-in_err-spot-clause-refused : goal.pass_row-returns-in_err-spot-clause-refused
pass_row-returns-in_err-spot-clause-refused t c =
    let p = err_from_is_err_and c.from_residual.result c.from_residual.ensures.1 in
    rw (p.1, p.2) (moves_stuck c.args.most c.args.seen.now c.args.spot c.loop-spot.spot _ _ c.loop-spot.spot.at _
    c.loop-spot.invariant.moves (row_whole c.loop-spot.spot.row.now (Word Name) c.in-len1-up.len_at_least) refl c.in_err-spot.ensures.refused)

pub pass_row-returns-clause-found : goal.pass_row-returns-clause-found
pass_row-returns-clause-found t c = moves_on c.args.most c.args.seen.now c.args.spot c.loop-spot.spot c.loop-spot.invariant.moves c.in_default.len_below

-- ---- the first tree

pub begin-sketch_leaf-requires : goal.begin-sketch_leaf-requires
begin-sketch_leaf-requires t c = leaf_here c.args.kind _ c.rest_at-rest.result.now c.front-class.result c.family_of.result
    c.has_leaf.result c.rest_at-rest.ensures c.front-class.ensures.value c.family_of.ensures.value c.has_leaf.ensures.value c.if-has_leaf.true

pub begin-returns-in_default-clause-refused : goal.begin-returns-in_default-clause-refused
begin-returns-in_default-clause-refused t c =
    at_none c.args.most c.args.kind _ c.front-class.result c.has_leaf.result
    (c.front-class.ensures.value ∙ ap front c.rest_at-rest.ensures) (search rules) (search rules) c.in_default.ensures

pub begin-returns-then-most-eq0-clause-refused : goal.begin-returns-then-most-eq0-clause-refused
begin-returns-then-most-eq0-clause-refused t c =
    at_zero c.args.most c.args.kind _ c.front-class.result c.has_leaf.result c.if-most-eq0.true
    (c.front-class.ensures.value ∙ ap front c.rest_at-rest.ensures) (search rules) (search rules)

pub begin-pass_row-requires : goal.begin-pass_row-requires
begin-pass_row-requires t c = (omega arith, (subst (λ (ps : Row). IsTrue (row_fine ps)) (sym c.own.ensures.value) (own_fine c.in-Some.rule), c.requires.right))

pub begin-returns-in_err-spot-clause-refused : goal.begin-returns-in_err-spot-clause-refused
begin-returns-in_err-spot-clause-refused t c =
    let p = err_from_is_err_and c.from_residual.result c.from_residual.ensures.1 in
    rw (p.1, p.2) (never_opened c.args.most c.args.seen.now c.args.kind c.args.at c.rest_at-rest.result.now c.front-class.result
    c.has_leaf.result c.in-Some.rule (record { row = c.own.result; at = c.args.at; parts = c.new.result; deepest = 0 }) _
    c.rest_at-rest.ensures c.front-class.ensures.value (search rules)
    (search rules) c.in-Some.ensures c.own.ensures.value refl (search rules) refl c.in_err-spot.ensures.refused)

pub begin-returns-clause-found : goal.begin-returns-clause-found
begin-returns-clause-found t c =
    ok_each c.finish.result (λ g b. opened c.args.most c.args.seen.now c.args.kind c.args.at c.rest_at-rest.result.now
    c.front-class.result c.has_leaf.result c.in-Some.rule _ _ g c.rest_at-rest.ensures c.front-class.ensures.value
    (search rules) (search rules) c.in-Some.ensures c.own.ensures.value refl (search rules) refl c.in_ok-spot.ensures.found b) c.finish.ensures.found

pub begin-returns-clause-refused : goal.begin-returns-clause-refused
begin-returns-clause-refused t c =
    err_each c.finish.result (λ e b. not_opened c.args.most c.args.seen.now c.args.kind c.args.at c.rest_at-rest.result.now
    c.front-class.result c.has_leaf.result c.in-Some.rule _ _ e c.rest_at-rest.ensures c.front-class.ensures.value
    (search rules) (search rules) c.in-Some.ensures c.own.ensures.value refl (search rules) refl c.in_ok-spot.ensures.found b) c.finish.ensures.refused

-- ---- a tree that grows

pub grow-returns-then-first-most-clause-refused : goal.grow-returns-then-first-most-clause-refused
grow-returns-then-first-most-clause-refused t c = too_high c.args.most c.args.seen.now c.args.rule c.args.first c.if-first-most.true

pub grow-pass_row-requires : goal.grow-pass_row-requires
grow-pass_row-requires t c = (omega arith, (subst (λ (ps : Row). IsTrue (row_fine ps)) (sym c.own.ensures.value) (own_fine c.args.rule), c.requires.right))

pub grow-returns-in_err-spot-clause-refused : goal.grow-returns-in_err-spot-clause-refused
grow-returns-in_err-spot-clause-refused t c =
    let p = err_from_is_err_and c.from_residual-in_err-spot.result c.from_residual-in_err-spot.ensures.1 in
    rw (p.1, p.2) (never_grown c.args.most c.args.seen.now c.args.rule c.args.first
    (record { row = c.own.result; at = c.args.first.end; parts = c.push.new.self; deepest = c.args.first.levels }) _
    c.own.ensures.value refl (search rules) refl c.in_err-spot.ensures.refused)

pub grow-returns-clause-found : goal.grow-returns-clause-found
grow-returns-clause-found t c =
    ok_each c.finish.result (λ g b. grown c.args.most c.args.seen.now c.args.rule c.args.first _ _ g c.own.ensures.value refl
    (search rules) refl c.in_ok-spot.ensures.found b) c.finish.ensures.found

pub grow-returns-clause-refused : goal.grow-returns-clause-refused
grow-returns-clause-refused t c =
    err_each c.finish.result (λ e b. not_grown c.args.most c.args.seen.now c.args.rule c.args.first _ _ e c.own.ensures.value
    refl (search rules) refl c.in_ok-spot.ensures.found b) c.finish.ensures.refused

pub read-returns-in_err-sketch-clause-refused : goal.read-returns-in_err-sketch-clause-refused
read-returns-in_err-sketch-clause-refused t c =
    let p = err_from_is_err_and c.from_residual.result c.from_residual.ensures.1 in
    rw (p.1, p.2) (fault_weaker _ _ _ (no_start c.args.most c.args.kind _) c.in_err-sketch.ensures.refused)

pub read-loop-rule-init : goal.read-loop-rule-init
read-loop-rule-init t c = record {
  grew =
      grew_first c.args.most c.args.seen.now c.args.kind c.args.at c.in_ok-sketch.sketch c.in_ok-sketch.ensures.found;
  right = c.in_ok-sketch.ensures.right;
}

pub read-loop-rule-preserved : goal.read-loop-rule-preserved
read-loop-rule-preserved t c = record {
  grew = grew_more c.args.most c.args.seen.now c.args.kind c.args.at c.loop-rule.sketch c.in_ok-sketch-2.sketch
      c.rest_at.result.now c.front.result c.in-Some.rule c.loop-rule.invariant.grew c.rest_at.ensures c.front.ensures.value
      c.in-Some.ensures c.in_ok-sketch-2.ensures.found;
  right = c.in_ok-sketch-2.ensures.right;
}

pub read-loop-rule-smaller : goal.read-loop-rule-smaller
read-loop-rule-smaller t c =
    grew_shorter c.args.most c.args.seen.now c.args.kind c.args.at c.loop-rule.sketch c.in_ok-sketch-2.sketch
    c.rest_at.result.now c.front.result c.in-Some.rule c.loop-rule.invariant.grew c.rest_at.ensures c.front.ensures.value
    c.in-Some.ensures c.in_ok-sketch-2.ensures.found

pub read-returns-in_err-sketch-2-clause-refused : goal.read-returns-in_err-sketch-2-clause-refused
read-returns-in_err-sketch-2-clause-refused t c =
    let p = err_from_is_err_and c.from_residual-in_err-sketch-2.result c.from_residual-in_err-sketch-2.ensures.1 in
    rw (p.1, p.2) (grew_stuck c.args.most c.args.seen.now c.args.kind c.args.at c.loop-rule.sketch c.rest_at.result.now
    c.front.result c.in-Some.rule _ c.loop-rule.invariant.grew c.rest_at.ensures c.front.ensures.value c.in-Some.ensures
    c.in_err-sketch-2.ensures.refused)

pub read-returns-clause-found : goal.read-returns-clause-found
read-returns-clause-found t c =
    grew_all c.args.most c.args.seen.now c.args.kind c.args.at c.loop-rule.sketch c.rest_at.result.now c.front.result
    c.loop-rule.invariant.grew c.rest_at.ensures c.front.ensures.value c.in_default.ensures

-- ---- what is kept

pub recognizer-returns-in-None-clause-refused : goal.recognizer-returns-in-None-clause-refused
recognizer-returns-in-None-clause-refused t c =
    subst (λ (o : Option Recognizer). Known c.args.most c.args.kind c.args.seen.now c.args.at o) c.in-None.is
    (c.in-Some.ensures c.args.from c.args.seen.now c.requires.right)

pub recognizer-returns-in-Some-known-clause-found : goal.recognizer-returns-in-Some-known-clause-found
recognizer-returns-in-Some-known-clause-found t c =
    subst (λ (o : Option Recognizer). Known c.args.most c.args.kind c.args.seen.now c.args.at o) c.in-Some-known.is
    (c.in-Some.ensures c.args.from c.args.seen.now c.requires.right)

pub recognizer-returns-in_err-keep-in-Ok-clause-right : goal.recognizer-returns-in_err-keep-in-Ok-clause-right
recognizer-returns-in_err-keep-in-Ok-clause-right t c =
    c.keep.ensures c.args.from c.args.seen.now c.read-2.ensures.right c.if-at-from.false c.in-Ok.ensures.found

pub recognizer-returns-in_ok-keep-in-Ok-clause-right : goal.recognizer-returns-in_ok-keep-in-Ok-clause-right
recognizer-returns-in_ok-keep-in-Ok-clause-right t c =
    c.keep.ensures c.args.from c.args.seen.now c.read-2.ensures.right c.if-at-from.false c.in-Ok.ensures.found

pub recognizer-returns-in_err-keep-in-Err-NoTree-clause-right : goal.recognizer-returns-in_err-keep-in-Err-NoTree-clause-right
recognizer-returns-in_err-keep-in-Err-NoTree-clause-right t c =
    c.keep-in-Err-NoTree.ensures c.args.from c.args.seen.now c.read-2.ensures.right c.if-at-from.false
    (rw c.in-Err-NoTree.field-0-is at c.in-Err-NoTree.ensures.refused)

pub recognizer-returns-in_ok-keep-in-Err-NoTree-clause-right : goal.recognizer-returns-in_ok-keep-in-Err-NoTree-clause-right
recognizer-returns-in_ok-keep-in-Err-NoTree-clause-right t c =
    c.keep-in-Err-NoTree.ensures c.args.from c.args.seen.now c.read-2.ensures.right c.if-at-from.false
    (rw c.in-Err-NoTree.field-0-is at c.in-Err-NoTree.ensures.refused)
