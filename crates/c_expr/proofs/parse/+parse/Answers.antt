use Rattle.std.proofs.Common.{rules, ◌∙◌}
use Rattle.c_rows.specs.declared.symbol.Symbol.TheVariants.{Child, Argument}
use Rattle.c_rows.proofs.LengthLemmas.{fine_rest}
use Rattle.std.proofs.lemmas.Result.{err_from_is_err_and}
use Rattle.c_expr.proofs.OperandLemmas.{at_refused, at_none, at_zero, branch_found, branch_only, no_branch_found, ok_each, err_none, fault_weaker, deep_child}
use Rattle.c_expr.proofs.Growing.{growing_start, turn, shorter, stuck, found, finished, no_start}
use Rattle.c_expr.proofs.StepLemmas.{run_done}
use Rattle.c_expr.proofs.CallLemmas.{child_taken, child_refused, child_smaller, member_taken, member_refused, member_smaller}
use Rattle.c_expr.proofs.parse.+parse.Goals as goal

-- ---- parts of a row

pub take_child-returns-in_err-found-clause-refused : goal.take_child-returns-in_err-found-clause-refused
take_child-returns-in_err-found-clause-refused t c =
    let p = err_from_is_err_and c.from_residual.result c.from_residual.ensures.1 in
    rw (p.1, p.2) (fault_weaker _ _ _ (child_refused c.args.most c.args.kind c.args.at.row.now c.args.at.rest.now
    c.args.at.children c.requires.fine) c.in_err-found.ensures.refused)

pub take_child-returns-clause-takes : goal.take_child-returns-clause-takes
take_child-returns-clause-takes t c = record {
  leads = child_taken c.args.most c.args.kind c.args.at.row.now c.args.at.rest.now c.in_ok-found.found.rest.now
      c.args.at.children c.push.new.self c.in_ok-found.found.tree c.requires.fine (search rules)
      c.in_ok-found.ensures.found c.in_ok-found.ensures.only;
  sound = record {
    fine = fine_rest (Child c.args.kind) c.args.at.row.now c.requires.fine;
    deep = c.max.ensures ∙ deep_child c.args.at.children c.push.new.self c.in_ok-found.found.tree c.args.at.deepest
        c.in_ok-found.found.levels (search rules) c.requires.deep c.in_ok-found.ensures.levels.0;
  };
  smaller = child_smaller c.args.kind c.args.at.row.now c.args.at.rest.now c.in_ok-found.found.rest.now c.in_ok-found.found.tree
      c.requires.fine c.in_ok-found.ensures.found;
}

pub take_argument-returns-in_err-found-clause-refused : goal.take_argument-returns-in_err-found-clause-refused
take_argument-returns-in_err-found-clause-refused t c =
    let p = err_from_is_err_and c.from_residual.result c.from_residual.ensures.1 in
    rw (p.1, p.2) (fault_weaker _ _ _ (member_refused c.args.most _ c.args.at.row.now c.args.at.rest.now c.args.at.children
    (search rules) c.requires.fine) c.in_err-found.ensures.refused)

pub take_argument-returns-clause-takes : goal.take_argument-returns-clause-takes
take_argument-returns-clause-takes t c = record {
  leads = member_taken c.args.most _ c.args.at.row.now c.args.at.rest.now c.in_ok-found.found.rest.now c.args.at.children
      c.push.new.self c.in_ok-found.found.tree (search rules) c.requires.fine (search rules)
      c.in_ok-found.ensures.found c.in_ok-found.ensures.only;
  sound = record {
    fine = fine_rest Argument c.args.at.row.now c.requires.fine;
    deep = c.max.ensures ∙ deep_child c.args.at.children c.push.new.self c.in_ok-found.found.tree c.args.at.deepest
        c.in_ok-found.found.levels (search rules) c.requires.deep c.in_ok-found.ensures.levels.0;
  };
  smaller = member_smaller _ c.args.at.row.now c.args.at.rest.now c.in_ok-found.found.rest.now c.in_ok-found.found.tree
      (search rules) c.in_ok-found.ensures.found;
}

pub run-returns-clause-found : goal.run-returns-clause-found
run-returns-clause-found t c =
    run_done c.args.most c.args.at.row.now c.loop-at.at.row.now c.args.at.rest.now c.loop-at.at.rest.now c.args.at.children
    c.loop-at.at.children c.in_default.len_below c.loop-at.invariant.led

-- ---- the first tree

pub operand-returns-in_default-clause-refused : goal.operand-returns-in_default-clause-refused
operand-returns-in_default-clause-refused t c =
    at_none c.args.most c.args.kind c.args.rest.now c.front-class.result c.has_leaf.result c.front-class.ensures.value
    (search rules) (search rules) c.in_default.ensures

pub operand-returns-then-most-eq0-clause-refused : goal.operand-returns-then-most-eq0-clause-refused
operand-returns-then-most-eq0-clause-refused t c =
    at_zero c.args.most c.args.kind c.args.rest.now c.front-class.result c.has_leaf.result c.if-most-eq0.true
    c.front-class.ensures.value (search rules) (search rules)

pub operand-returns-in_err-read-clause-refused : goal.operand-returns-in_err-read-clause-refused
operand-returns-in_err-read-clause-refused t c =
    let p = err_from_is_err_and c.from_residual-in_err-read.result c.from_residual-in_err-read.ensures.1 in
    rw (p.1, p.2) (fault_weaker _ _ _ (at_refused c.args.most c.args.kind c.args.rest.now c.front-class.result c.has_leaf.result
    c.in-Some.rule c.own.result.now c.front-class.ensures.value (search rules) (search rules)
    c.in-Some.ensures c.own.ensures.value) c.in_err-read.ensures.refused)

pub operand-returns-clause-found : goal.operand-returns-clause-found
operand-returns-clause-found t c =
    ok_each c.finish.result (λ g b. branch_found c.args.most c.args.kind c.args.rest.now c.in_ok-read.read.rest.now _
    c.front-class.result c.in-Some.rule c.own.result.now c.in_ok-children.children c.in_ok-read.read.children _ _
    c.front-class.ensures.value c.in-Some.ensures c.own.ensures.value c.in_ok-children.ensures.none c.in_ok-read.ensures.found b) c.finish.ensures.found

pub operand-returns-clause-only : goal.operand-returns-clause-only
operand-returns-clause-only t c =
    ok_each c.finish.result (λ g b. branch_only c.args.most c.args.kind c.args.rest.now c.in_ok-read.read.rest.now _
    c.front-class.result c.has_leaf.result c.in-Some.rule c.own.result.now c.in_ok-children.children c.in_ok-read.read.children _ _
    c.front-class.ensures.value (search rules)
    (search rules) c.in-Some.ensures c.own.ensures.value c.in_ok-children.ensures.none c.in_ok-read.ensures.found b) c.finish.ensures.found

pub operand-returns-clause-refused : goal.operand-returns-clause-refused
operand-returns-clause-refused t c =
    err_none c.finish.result (no_branch_found c.args.most c.args.kind c.args.rest.now c.in_ok-read.read.rest.now
    c.front-class.result c.has_leaf.result c.in-Some.rule c.own.result.now c.in_ok-children.children c.in_ok-read.read.children
    c.front-class.ensures.value (search rules)
    (search rules) c.in-Some.ensures c.own.ensures.value c.in_ok-children.ensures.none c.in_ok-read.ensures.found) c.finish.ensures.refused

-- ---- a tree that grows

pub parse-returns-in_err-grown-clause-refused : goal.parse-returns-in_err-grown-clause-refused
parse-returns-in_err-grown-clause-refused t c =
    let p = err_from_is_err_and c.from_residual.result c.from_residual.ensures.1 in
    rw (p.1, p.2) (fault_weaker _ _ _ (no_start c.args.most c.args.kind c.args.rest.now) c.in_err-grown.ensures.refused)

pub parse-loop-rule-init : goal.parse-loop-rule-init
parse-loop-rule-init t c = record {
  growing = growing_start c.args.most c.args.kind c.args.rest.now _ _ _ c.in_ok-grown.ensures.found c.in_ok-grown.ensures.only;
  deep = c.in_ok-grown.ensures.levels;
}

pub parse-returns-in_err-grown-2-clause-refused : goal.parse-returns-in_err-grown-2-clause-refused
parse-returns-in_err-grown-2-clause-refused t c =
    let p = err_from_is_err_and c.from_residual-in_err-grown-2.result c.from_residual-in_err-grown-2.ensures.1 in
    rw (p.1, p.2) (fault_weaker _ _ _ (stuck c.args.most c.args.kind c.args.rest.now c.loop-rule.grown.root
    c.loop-rule.grown.tree c.loop-rule.grown.rest.now c.front.result c.in-Some.rule c.loop-rule.invariant.growing
    c.front.ensures.value c.in-Some.ensures) c.in_err-grown-2.ensures.refused)

pub parse-loop-rule-smaller : goal.parse-loop-rule-smaller
parse-loop-rule-smaller t c =
    shorter c.args.most c.args.kind c.loop-rule.grown.root c.in_ok-grown-2.grown.root c.loop-rule.grown.tree
    c.in_ok-grown-2.grown.tree c.loop-rule.grown.rest.now c.in_ok-grown-2.grown.rest.now
    c.front.result c.in-Some.rule c.front.ensures.value c.in-Some.ensures c.in_ok-grown-2.ensures.found

pub parse-loop-rule-preserved : goal.parse-loop-rule-preserved
parse-loop-rule-preserved t c = record {
  growing = turn c.args.most c.args.kind c.args.rest.now c.loop-rule.grown.root _ c.loop-rule.grown.tree _ c.loop-rule.grown.rest.now _
      c.front.result c.in-Some.rule c.loop-rule.invariant.growing c.front.ensures.value c.in-Some.ensures c.in_ok-grown-2.ensures.found;
  deep = c.in_ok-grown-2.ensures.levels;
}

pub parse-returns-clause-found : goal.parse-returns-clause-found
parse-returns-clause-found t c = found c.args.most c.args.kind c.args.rest.now _ _ _ c.loop-rule.invariant.growing

pub parse-returns-clause-only : goal.parse-returns-clause-only
parse-returns-clause-only t c =
    finished c.args.most c.args.kind c.args.rest.now c.loop-rule.grown.root c.loop-rule.grown.tree c.loop-rule.grown.rest.now
    c.front.result c.loop-rule.invariant.growing c.front.ensures.value c.in_default.ensures
