use Rattle.std.proofs.Common.{true, false, ℕ, ◌≡◌, ◌+◌, ◌-◌, ◌<◌, ◌∙◌, ◌++◌, ap, sym, subst, refl, arith, length, map, take}
use Rattle.std.proofs.Common.{drop, get_or, List, [], ◌∷◌, None, Some}
use Rattle.std.specs.Option.{option_copied}
use Rattle.std.specs.List.{filter}
use Rattle.std.specs.Result.{IfOk}
use Rattle.std.proofs.lemmas.Result.{IfOk-weaker}
use Rattle.smpl_patch.specs.declared.elem.Elem.{Elem}
use Rattle.smpl_patch.specs.Bodies.{body, element}
use Rattle.smpl_patch.specs.Bodies as bodies
use Rattle.smpl_patch.proofs.BodyLemmas.{bodies as bodies_of, dots_of, element-Atom, element-Compound, element-Block}
use Rattle.smpl_patch.proofs.BodyLemmas.{element-Gap, element-Nest, element-AnyOf, element-AllOf}
use Rattle.smpl_terms.specs.declared.var.Var.{Var}
use Rattle.ctl_formula.specs.Plain.{Plain}
use Rattle.ctl_formula.specs.Tables.{plains, Makes}
use Rattle.ctl_formula.proofs.TableLemmas.{grows-refl, grows-trans}
use Rattle.pattern_vars.specs.VarPlaces.Placing.{occurs_body}
use Rattle.ctl_table.specs.Table as table
use Rattle.pattern_vars.specs.VarPlaces.Places.{reading_at}
use Rattle.ctl_table.specs.declared.follow.Continuation.{Continuation}
use Rattle.ctl_table.specs.Settings.{setting_at, element_or_none, all_below, all_made_below, made_below, next_at, parts_at}
use Rattle.ctl_table.specs.Settings.{next_of, suffix_at, start_with, block_at, compound_at, MakesAll, MakesBehind, MakesFollows}
use Rattle.ctl_table.specs.Columns.{rows_within, MakesColumns}
use Rattle.ctl_table.specs.Suffixes.{begins, along}
use Rattle.smpl_patch.proofs.Weights.{weight_element, weight_body, body-at, bodies-at, weight-take, weight-first, weight-rest}
use Rattle.ctl_table.proofs.MakingLemmas.{all-stand, both-true}
use Rattle.ctl_table.proofs.FollowLemmas.{follow-stays}
use Rattle.ctl_table.proofs.RowLemmas.{taken, init-all, all-next, each-step, when-step}
use Rattle.ctl_table.proofs.AlongLemmas.{length-places}
use Rattle.ctl_table.proofs.BranchLemmas.{block-made, compound-made, when-made, elem-at, whens-are, nest-is}
use Rattle.ctl_table.proofs.EachLemmas.{nexts-stand, follows-within, only-made, only-one}
use Rattle.ctl_table.proofs.SuffixLemmas.{last-each, step-each, whole-each, sequences-made, sequences-none, row-each, same-rows, dots-each, past-each}
use Rattle.ctl_table.proofs.ColumnLemmas.{no-rows, columns-step, rows-stand, choice-each, choice-none, last-branch, every-none}
use Rattle.ctl_table.proofs.ColumnLemmas.{every-each, last-long, front-long, all-within, all-long}
use Rattle.ctl_table.proofs.rows.+rows.Goals as goal

-- bodies or branches, nothing following

pub each-loop-b-init : goal.each-loop-b-init
each-loop-b-init t c = init-all c.args.parts.now _ (cc)

pub each-sequence-requires : goal.each-sequence-requires
each-sequence-requires t c =
    let w = bodies-at c.args.bs.now c.loop-b.b-index c.b-item.result c.loop-b-test.true c.b-item.is in
    let e = ap (λ z. weight_body (body z)) c.as_slice-body.ensures in
    (omega (arith, w, e), refl)

pub each-loop-b-preserved : goal.each-loop-b-preserved
each-loop-b-preserved t c =
    let m = setting_at c.args.m.now in
    all-next _ _ _ _ _ _ c.in_ok-push.ensures.items
    (each-step m c.args.parts.now c.loop-b.parts c.sequence.new.parts table.nothing table.nothing
    c.args.vars.now c.args.scope.now c.as_slice-own.result.now c.args.bs.now c.b-item.result c.as_slice-body.result.now
    c.loop-b.made.items c.loop-b.b-index c.in_ok-row.row
    c.loop-b-test.true c.b-item.is c.as_slice-body.ensures (c.as_slice-own.ensures ∙ c.in_ok-own.ensures
    ∙ ap (λ (vs : List Var). filter (occurs_body (reading_at c.args.m.now.reader) (body c.as_slice-body.result.now)) vs) c.in_ok-ordered.ensures) refl
    c.loop-b.invariant c.in_ok-row.ensures.made)

pub each-returns : goal.each-returns
each-returns t c = record {
  made = subst (λ (z : List (List Elem)). MakesAll c.args.parts.now c.loop-b.parts c.loop-b.made.items
      (table.each (setting_at c.args.m.now) (bodies_of z) table.nothing c.args.vars.now c.args.scope.now))
      (taken c.loop-b.b-index c.args.bs.now (omega arith)) c.loop-b.invariant;
}

-- branches, with each thing that may follow

pub branches-loop-b-init : goal.branches-loop-b-init
branches-loop-b-init t c = no-rows c.args.parts.now c.args.nexts.now _ _ (λ n. refl) (grows-refl c.args.parts.now) (cc)

pub branches-sequences-requires : goal.branches-sequences-requires
branches-sequences-requires t c =
    let w = bodies-at c.args.bs.now c.loop-b.b-index c.b-item.result c.loop-b-test.true c.b-item.is in
    let e = ap (λ z. weight_body (body z)) c.as_slice-body.ensures in
    (omega (arith, w, e), nexts-stand c.args.parts.now c.loop-b.parts c.args.nexts.now c.loop-b.invariant.grows c.requires)

pub branches-loop-b-preserved : goal.branches-loop-b-preserved
branches-loop-b-preserved t c =
    columns-step (setting_at c.args.m.now) c.args.parts.now c.loop-b.parts c.sequences.new.parts c.args.nexts.now
    c.args.vars.now c.args.scope.now c.as_slice-own.result.now c.args.bs.now c.b-item.result c.as_slice-body.result.now
    c.loop-b.rows.items _ c.in_ok-row.row.items c.loop-b.b-index
    c.loop-b-test.true c.b-item.is c.as_slice-body.ensures (c.as_slice-own.ensures ∙ c.in_ok-own.ensures
    ∙ ap (λ (vs : List Var). filter (occurs_body (reading_at c.args.m.now.reader) (body c.as_slice-body.result.now)) vs) c.in_ok-ordered.ensures)
    (c.in_ok-push.ensures.items ∙ ap (λ z. c.loop-b.rows.items ++ z ∷ []) c.from_vec.ensures) c.requires c.loop-b.invariant c.in_ok-row.ensures.made

pub branches-returns : goal.branches-returns
branches-returns t c = record {
  made = subst (λ (z : List (List Elem)). MakesColumns c.args.parts.now c.loop-b.parts c.args.nexts.now c.loop-b.rows.items
      (λ n. table.each (setting_at c.args.m.now) (bodies_of z)
      (next_of (plains c.args.parts.now) (setting_at c.args.m.now) n) c.args.vars.now c.args.scope.now))
      (taken c.loop-b.b-index c.args.bs.now (omega arith)) c.loop-b.invariant;
}

-- `when` code

pub when_parts-loop-w-init : goal.when_parts-loop-w-init
when_parts-loop-w-init t c = init-all c.args.parts.now _ (cc)

pub when_parts-when_part-requires : goal.when_parts-when_part-requires
when_parts-when_part-requires t c =
    let w = bodies-at c.args.whens.now c.loop-w.w-index c.w-item.result c.loop-w-test.true c.w-item.is in
    let e = ap (λ z. weight_body (body z)) c.as_slice.ensures in
    (omega (arith, w, e), tt)

pub when_parts-loop-w-preserved : goal.when_parts-loop-w-preserved
when_parts-loop-w-preserved t c =
    all-next _ _ _ _ _ _ c.in_ok-push.ensures.items
    (when-step (setting_at c.args.m.now) c.args.parts.now c.loop-w.parts c.when_part.new.parts c.args.scope.now c.args.whens.now
    c.w-item.result c.as_slice.result.now c.loop-w.made.items c.loop-w.w-index c.in_ok-part.part
    c.loop-w-test.true c.w-item.is c.as_slice.ensures c.loop-w.invariant c.in_ok-part.ensures.made)

pub when_parts-returns : goal.when_parts-returns
when_parts-returns t c = record {
  made = subst (λ (z : List (List Elem)). MakesAll c.args.parts.now c.loop-w.parts c.loop-w.made.items
      (table.when_parts (setting_at c.args.m.now) (bodies_of z) c.args.scope.now))
      (taken c.loop-w.w-index c.args.whens.now (omega arith)) c.loop-w.invariant;
}

pub when_part-returns : goal.when_part-returns
when_part-returns t c = record {
  made = when-made (setting_at c.args.m.now) c.args.parts.now c.sequence.new.parts c.not_piece.new.parts c.in_ok-f.f (body c.args.w.now)
      c.as_slice-alone.result.now c.in_ok-around.around _ c.args.scope.now c.not_piece.result
      (c.as_slice-alone.ensures ∙ c.in_ok-alone.ensures) c.in_ok-around.ensures refl
      c.in_ok-f.ensures.made c.not_piece.ensures.made;
}

-- the part of a nest

pub nest-returns : goal.nest-returns
nest-returns t c = record {
  made = subst (λ (z : List Var). IfOk c.sequence.result (λ i. Makes c.args.parts.now c.sequence.new.parts i
      (table.seq (setting_at c.args.m.now) None (body c.args.b.now) table.nothing z c.args.scope.now c.args.scope.now)))
      (c.as_slice-own.ensures ∙ c.in_ok-own.ensures) c.sequence.ensures.made;
}

-- heads with bodies, and blocks

pub compound-returns : goal.compound-returns
compound-returns t c = record {
  made = compound-made (setting_at c.args.m.now) c.args.parts.now c.each.new.parts c.headed.new.parts c.args.h.now c.args.tail.now (bodies_of c.args.bs.now)
      c.args.vars.now c.args.scope.now c.in_ok-inside.inside.items c.as_slice.result.now c.headed.result
      c.as_slice.ensures.value c.in_ok-inside.ensures.made c.headed.ensures.made;
}

pub block-returns : goal.block-returns
block-returns t c = record {
  made = block-made (setting_at c.args.m.now)
      (setting_at c.within-inner.result) c.args.parts.now c.own_close.new.parts c.sequence.new.parts c.braced.new.parts
      c.args.o.now c.args.c.now (body c.args.b.now)
      c.args.vars.now c.as_slice.result.now c.args.scope.now c.in_ok-v.v c.in_ok-close.close c.in_ok-inside.inside c.braced.result
      c.in_ok-v.ensures c.within-inner.ensures c.in_ok-close.ensures.made
      (c.as_slice.ensures ∙ c.in_ok-own.ensures) c.in_ok-inside.ensures.made c.braced.ensures.made;
}

-- disjunctions

pub choice-branches-requires : goal.choice-branches-requires
choice-branches-requires t c = (
  (let w = weight-take (length c.args.bs.now - 1) c.args.bs.now in omega (arith, w)),
  ap (all_made_below (length c.args.parts.now)) c.as_slice-all.ensures.value
      ∙ all-within (length c.args.parts.now) c.args.nexts.now c.in_ok-all-in-len1-up.all.items c.in_ok-all-in-len1-up.ensures c.requires,
)

pub choice-one_branch-requires : goal.choice-one_branch-requires
choice-one_branch-requires t c =
    let l = c.in-len1-up.len_at_least in
    let w = bodies-at c.args.bs.now (length c.args.bs.now - 1) c.last-item.result (omega (arith, l)) c.last-item.is in
    let e = ap (λ z. weight_body (body z)) c.as_slice-last.ensures in
    (omega (arith, w, e), nexts-stand c.args.parts.now c.branches.new.parts c.args.nexts.now c.in_ok-rows-in-len1-up.ensures.made.grows c.requires)

pub choice-first_branches-requires : goal.choice-first_branches-requires
choice-first_branches-requires t c =
    let ends_with = c.in_ok-all-in-len1-up.ensures in
    let made = c.in_ok-rows-in-len1-up.ensures.made in
    let ends = c.in_ok-ends-in-len1-up.ensures.made in
    let long = ap length c.as_slice-all.ensures.value in
    let width : length c.as_slice-all.result.now ≡ length c.as_slice-all.result.now - 1 + 1 =
    omega (arith, long, last-long c.args.nexts.now c.in_ok-all-in-len1-up.all.items ends_with) in
    let as_many = ap length c.as_slice-ends.ensures.value
    ∙ all-long c.branches.new.parts c.one_branch.new.parts c.in_ok-ends-in-len1-up.ends.items _ c.args.nexts.now ends in
    record {
      most = omega (arith, long, as_many, front-long c.args.nexts.now c.in_ok-all-in-len1-up.all.items ends_with);
      within = ap (rows_within (length c.one_branch.new.parts) (length c.as_slice-all.result.now - 1 + 1)) c.as_slice.ensures.value
          ∙ ap (λ (z : ℕ). rows_within (length c.one_branch.new.parts) z c.in_ok-rows-in-len1-up.rows.items) (sym width)
          ∙ rows-stand c.branches.new.parts c.one_branch.new.parts (length c.as_slice-all.result.now) c.in_ok-rows-in-len1-up.rows.items ends.grows made.within;
      ends = ap (all_below (length c.one_branch.new.parts)) c.as_slice-ends.ensures.value ∙ ends.within;
    }

pub choice-returns-in-empty : goal.choice-returns-in-empty
choice-returns-in-empty t c = record {
  made = IfOk-weaker c.no_branches.result _ _
      (λ is h. choice-none (setting_at c.args.m.now) c.args.parts.now c.no_branches.new.parts
      (λ n. next_of (plains c.args.parts.now) (setting_at c.args.m.now) n) c.args.nexts.now is.items
      c.args.bs.now c.args.vars.now c.args.scope.now (omega arith) h) c.no_branches.ensures.made;
}

pub choice-returns-in_ok-ends-in-len1-up : goal.choice-returns-in_ok-ends-in-len1-up
choice-returns-in_ok-ends-in-len1-up t c =
    let m = setting_at c.args.m.now in
    let a = c.args.parts.now in
    let b = c.branches.new.parts in
    let all = c.in_ok-all-in-len1-up.all.items in
    let bs = c.args.bs.now in
    let front = take (length bs - 1) bs in
    let each = λ (n : Continuation). table.each m (bodies_of front) (next_of (plains a) m n) c.args.vars.now c.args.scope.now in
    record {
      made = IfOk-weaker c.first_branches.result _ _
          (λ is h. choice-each m a b c.one_branch.new.parts c.first_branches.new.parts c.args.nexts.now all
          c.args.vars.now c.args.scope.now bs front c.last-item.result c.as_slice-last.result.now
          c.as_slice.result.now c.in_ok-ends-in-len1-up.ends.items c.as_slice-ends.result.now is.items (length c.as_slice-all.result.now - 1)
          c.in_ok-all-in-len1-up.ensures (ap (λ (z : List Continuation). length z - 1) c.as_slice-all.ensures.value)
          (last-branch bs c.last-item.result c.in-len1-up.len_at_least c.last-item.is) c.as_slice-last.ensures c.as_slice-ends.ensures.value c.requires
          (subst (λ (z : List (List ℕ)). MakesColumns a b all z each) (sym c.as_slice.ensures.value)
          (subst (λ (z : List Continuation). MakesColumns a b z c.in_ok-rows-in-len1-up.rows.items each)
          c.as_slice-all.ensures.value c.in_ok-rows-in-len1-up.ensures.made))
          c.in_ok-ends-in-len1-up.ensures.made h)
          c.first_branches.ensures.made;
    }

-- a branch

pub one_branch-sequences-requires : goal.one_branch-sequences-requires
one_branch-sequences-requires t c = (omega arith, c.requires)

pub one_branch-returns : goal.one_branch-returns
one_branch-returns t c =
    let m = setting_at c.args.m.now in
    let k = λ (n : Continuation). next_of (plains c.args.parts.now) m n in
    record {
      made = subst (λ (z : List Var). IfOk c.sequences.result (λ is. MakesAll c.args.parts.now c.sequences.new.parts is.items
          (map (λ n. table.seq m None (body c.args.b.now) (k n) z c.args.scope.now c.args.scope.now) c.args.nexts.now)))
          (c.as_slice-own.ensures ∙ c.in_ok-own.ensures) c.sequences.ensures.made;
    }

-- conjunctions

pub every-returns-in-empty : goal.every-returns-in-empty
every-returns-in-empty t c = record {
  made = IfOk-weaker c.follows_at.result _ _
      (λ is h. every-none (setting_at c.args.m.now) c.args.parts.now c.follows_at.new.parts
      (λ n. next_of (plains c.args.parts.now) (setting_at c.args.m.now) n) c.args.nexts.now is.items
      c.args.bs.now c.args.vars.now c.args.scope.now (omega arith) h) c.follows_at.ensures.made;
}

pub every-one_branch-requires : goal.every-one_branch-requires
every-one_branch-requires t c =
    let w = weight-first c.args.bs.now c.b-item.result c.in-len1-up.len_at_least c.b-item.is in
    let e = ap (λ z. weight_body (body z)) c.as_slice-first.ensures in
    (omega (arith, w, e), c.requires)

pub every-each-requires : goal.every-each-requires
every-each-requires t c =
    let w = weight-rest c.args.bs.now c.in-len1-up.len_at_least in
    (omega (arith, w), tt)

pub every-and_each-requires : goal.every-and_each-requires
every-and_each-requires t c = record {
  fs = ap (all_below (length c.each.new.parts)) c.as_slice.ensures.value
      ∙ all-stand c.one_branch.new.parts c.each.new.parts c.in_ok-fs-in-len1-up.fs.items
      c.in_ok-others-in-len1-up.ensures.made.grows c.in_ok-fs-in-len1-up.ensures.made.within;
  more = ap (all_below (length c.each.new.parts)) c.as_slice-in-len1-up.ensures.value ∙ c.in_ok-others-in-len1-up.ensures.made.within;
}

pub every-returns-in_ok-others-in-len1-up : goal.every-returns-in_ok-others-in-len1-up
every-returns-in_ok-others-in-len1-up t c = record {
  made = IfOk-weaker c.and_each.result _ _
      (λ is h. every-each (setting_at c.args.m.now) c.args.parts.now c.one_branch.new.parts c.each.new.parts c.and_each.new.parts
      (λ n. next_of (plains c.args.parts.now) (setting_at c.args.m.now) n) c.args.nexts.now
      c.args.bs.now c.b-item.result c.as_slice-first.result.now c.args.vars.now _ c.args.scope.now
      c.in_ok-fs-in-len1-up.fs.items c.as_slice.result.now c.in_ok-others-in-len1-up.others.items c.as_slice-in-len1-up.result.now is.items
      c.in-len1-up.len_at_least c.b-item.is c.as_slice-first.ensures refl
      c.as_slice.ensures.value c.as_slice-in-len1-up.ensures.value c.in_ok-fs-in-len1-up.ensures.made c.in_ok-others-in-len1-up.ensures.made h)
      c.and_each.ensures.made;
}

-- sequences

pub suffixes-suffix-requires : goal.suffixes-suffix-requires
suffixes-suffix-requires t c =
    let l : length c.args.b.now - 1 < length c.args.b.now = omega arith in
    let w = body-at c.args.b.now (length c.args.b.now - 1) c.index-b-i.result l c.index-b-i.is in
    (omega (arith, w), c.requires.nexts)

pub suffixes-loop-i-init : goal.suffixes-loop-i-init
suffixes-loop-i-init t c = (
  omega arith,
  last-each (setting_at c.args.m.now) (λ n. next_of (plains c.args.parts.now) (setting_at c.args.m.now) n)
      c.args.parts.now c.suffix.new.parts c.args.nexts.now c.in_ok-made.made.items c.args.b.now c.args.places.now (length c.args.b.now - 1)
      c.index-b-i.result c.index-places-i.result (omega arith) c.requires.places c.index-b-i.is c.index-places-i.is c.in_ok-made.ensures.made,
)

pub suffixes-behind_each-requires : goal.suffixes-behind_each-requires
suffixes-behind_each-requires t c =
    let m = setting_at c.args.m.now in
    let k = λ (n : Continuation). next_of (plains c.args.parts.now) m n in
    let es = drop c.loop-i.i c.args.b.now in
    ap (all_made_below (length c.loop-i.parts)) c.as_slice.ensures.value
    ∙ follows-within m c.args.parts.now c.loop-i.parts c.args.nexts.now c.loop-i.made.items
    (λ n. begins es (k n).start) (λ n. along m (k n) es (drop c.loop-i.i c.args.places.now)) c.loop-i.invariant.1

pub suffixes-suffix-requires-in-loop-i : goal.suffixes-suffix-requires-in-loop-i
suffixes-suffix-requires-in-loop-i t c =
    let l : c.loop-i.i - 1 < length c.args.b.now = omega (arith, c.loop-i.invariant.0) in
    let w = body-at c.args.b.now (c.loop-i.i - 1) c.index-b-i-in-loop-i.result l c.index-b-i-in-loop-i.is in (
      omega (arith, w),
      ap (all_made_below (length c.behind_each.new.parts)) c.as_slice-behind.ensures.value ∙ c.in_ok-behind.ensures.made.within,
    )

pub suffixes-loop-i-preserved : goal.suffixes-loop-i-preserved
suffixes-loop-i-preserved t c =
    let n : c.loop-i.i - 1 + 1 ≡ c.loop-i.i = omega (arith, c.loop-i-test.true) in
    let m = setting_at c.args.m.now in
    let k = λ (x : Continuation). next_of (plains c.args.parts.now) m x in
    let e = c.index-b-i-in-loop-i.result in (
      omega (arith, c.loop-i.invariant.0),
      step-each m k c.args.parts.now c.loop-i.parts c.behind_each.new.parts c.suffix-in-loop-i.new.parts c.args.nexts.now
          c.loop-i.made.items c.in_ok-behind.behind.items c.in_ok-made-2.made.items c.args.b.now c.args.places.now (c.loop-i.i - 1)
          c.index-b-i-in-loop-i-2.result e c.index-places-i-in-loop-i.result (omega (arith, c.loop-i.invariant.0, n)) c.requires.places
          c.index-b-i-in-loop-i-2.is c.index-b-i-in-loop-i.is c.index-places-i-in-loop-i.is
          (subst (λ (z : ℕ). MakesFollows m c.args.parts.now c.loop-i.parts c.args.nexts.now c.loop-i.made.items
          (λ x. begins (drop z c.args.b.now) (k x).start) (λ x. along m (k x) (drop z c.args.b.now) (drop z c.args.places.now))) (sym n) c.loop-i.invariant.1)
          (subst (λ (z : List Continuation). MakesBehind m
          (element e) c.index-places-i-in-loop-i.result.scope c.loop-i.parts c.behind_each.new.parts z
          c.in_ok-behind.behind.items) c.as_slice.ensures.value c.in_ok-behind.ensures.made)
          (subst (λ (z : List Continuation). MakesFollows m c.behind_each.new.parts c.suffix-in-loop-i.new.parts z
          c.in_ok-made-2.made.items (λ f. start_with (element e))
          (λ f. suffix_at m (Some (element c.index-b-i-in-loop-i-2.result)) (element e)
          (next_of (plains c.behind_each.new.parts) m f) c.index-places-i-in-loop-i.result))
          c.as_slice-behind.ensures.value c.in_ok-made-2.ensures.made),
    )

pub suffixes-returns : goal.suffixes-returns
suffixes-returns t c = record {
  made = whole-each (setting_at c.args.m.now) (λ n. next_of (plains c.args.parts.now) (setting_at c.args.m.now) n)
      c.args.parts.now c.loop-i.parts c.args.nexts.now c.loop-i.made.items c.args.b.now c.args.places.now c.loop-i.i (omega arith) c.loop-i.invariant.1;
}

pub sequences-returns-then-b-eq0 : goal.sequences-returns-then-b-eq0
sequences-returns-then-b-eq0 t c = record {
  made = IfOk-weaker c.follows_at.result _ _
      (λ is h. sequences-none (setting_at c.args.m.now) (λ n. next_of (plains c.args.parts.now) (setting_at c.args.m.now) n)
      c.args.parts.now c.follows_at.new.parts c.args.nexts.now is.items c.args.b.now c.args.vars.now c.args.scope.now
      c.if-b-eq0.true h) c.follows_at.ensures.made;
}

pub sequences-suffixes-requires : goal.sequences-suffixes-requires
sequences-suffixes-requires t c = (
  omega arith,
  (
    c.requires,
    (
      omega arith,
      ap length (c.as_slice.ensures.value ∙ c.in_ok-places.ensures)
          ∙ length-places (reading_at c.args.m.now.reader) c.args.b.now c.args.vars.now c.args.scope.now,
    ),
  ),
)

pub sequences-follows_at-requires-2 : goal.sequences-follows_at-requires-2
sequences-follows_at-requires-2 t c =
    ap (all_made_below (length c.suffixes.new.parts)) c.as_slice-2.ensures.value
    ∙ follows-within (setting_at c.args.m.now) c.args.parts.now c.suffixes.new.parts c.args.nexts.now c.in_ok-made.made.items _ _ c.in_ok-made.ensures.made

pub sequences-returns : goal.sequences-returns
sequences-returns t c = record {
  made = IfOk-weaker c.follows_at-2.result _ _
      (λ is h. sequences-made (setting_at c.args.m.now) (λ n. next_of (plains c.args.parts.now) (setting_at c.args.m.now) n)
      c.args.parts.now c.suffixes.new.parts c.follows_at-2.new.parts c.args.nexts.now c.in_ok-made.made.items is.items
      c.args.b.now c.args.vars.now c.args.scope.now c.as_slice.result.now (c.as_slice.ensures.value ∙ c.in_ok-places.ensures)
      c.in_ok-made.ensures.made
      (subst (λ (z : List Continuation). MakesAll c.suffixes.new.parts c.follows_at-2.new.parts is.items
      (map (λ f. next_at (plains c.suffixes.new.parts) (setting_at c.args.m.now) f c.args.scope.now) z))
      c.as_slice-2.ensures.value h)) c.follows_at-2.ensures.made;
}

pub sequence-sequences-requires : goal.sequence-sequences-requires
sequence-sequences-requires t c = (
  omega arith,
  ap (all_made_below (length c.args.parts.now)) c.from_ref-nexts.ensures.value
      ∙ both-true (made_below (length c.args.parts.now) c.args.next.now) true c.requires refl,
)

first-any : (is : List ℕ) (d e : ℕ) → 0 < length is → get_or is 0 d ≡ get_or is 0 e
first-any [] d e l = absurd (omega (arith, l))
first-any (i ∷ is) d e l = refl

pub sequence-returns : goal.sequence-returns
sequence-returns t c =
    let m = setting_at c.args.m.now in
    let k = λ (n : Continuation). next_of (plains c.args.parts.now) m n in
    let only =
    subst (λ (z : List Continuation). MakesAll c.args.parts.now c.sequences.new.parts c.in_ok-made.made.items
    (map (λ n. table.seq m None (body c.args.b.now) (k n) c.args.vars.now c.args.scope.now c.args.scope.now) z))
    c.from_ref-nexts.ensures.value c.in_ok-made.ensures.made in
    record {
      made = only-made c.args.parts.now c.sequences.new.parts c.in_ok-made.made.items c.index.result.now _
          (c.index.ensures ∙ first-any c.in_ok-made.made.items c.index.result.now 0
          (only-one c.args.parts.now c.sequences.new.parts c.in_ok-made.made.items _ only)) only;
    }

-- suffixes

pub suffix-returns-in_ok-fs-in-Atom : goal.suffix-returns-in_ok-fs-in-Atom
suffix-returns-in_ok-fs-in-Atom t c =
    let m = setting_at c.args.m.now in
    let a = c.args.parts.now in
    let after = element_or_none (option_copied c.args.after) in
    let k = λ (n : Continuation). next_of (plains a) m n in
    let place = c.args.place.now in
    let vars = c.as_slice-vars.result.now in
    let b = c.atoms.new.parts in
    let y = bodies.Atom c.in-Atom.p in
    record {
      made = IfOk-weaker c.part_each.result _ _
          (λ fs h. row-each m a b c.part_each.new.parts after (element c.args.e.now) y k place c.args.nexts.now
          c.in_ok-fs-in-Atom.fs.items c.as_slice.result.now fs.items (λ n. table.elem m None None y (k n) vars place.scope place.scope)
          (ap element c.in-Atom.is ∙ element-Atom _) refl c.as_slice.ensures.value
          c.in_ok-fs-in-Atom.ensures.made
          (λ n s u. elem-at m after y (k n) vars place.scope place c.as_slice-vars.ensures refl s u) h) c.part_each.ensures.made;
    }

pub suffix-returns-in_ok-fs-in-Compound : goal.suffix-returns-in_ok-fs-in-Compound
suffix-returns-in_ok-fs-in-Compound t c =
    let m = setting_at c.args.m.now in
    let a = c.args.parts.now in
    let after = element_or_none (option_copied c.args.after) in
    let k = λ (n : Continuation). next_of (plains a) m n in
    let place = c.args.place.now in
    let vars = c.as_slice-vars.result.now in
    let b = c.after_each.new.parts in
    let y = bodies.Compound c.in-Compound.h (bodies_of c.as_slice-bodies.result.now) c.in-Compound.tail in
    record {
      made = IfOk-weaker c.part_each-in-Compound.result _ _
          (λ fs h. row-each m a b c.part_each-in-Compound.new.parts after (element c.args.e.now) y k place c.args.nexts.now
          c.in_ok-fs-in-Compound.fs.items c.as_slice-in-Compound.result.now fs.items (λ n. table.elem m None None y (k n) vars place.scope place.scope)
          (ap element c.in-Compound.is ∙ element-Compound _ _ _
          ∙ ap (λ (z : List (List Elem)). bodies.Compound c.in-Compound.h (bodies_of z) c.in-Compound.tail)
          (sym c.as_slice-bodies.ensures)) refl c.as_slice-in-Compound.ensures.value
          (past-each m a c.compound.new.parts b c.in_ok-f-in-Compound.f
          (compound_at m c.in-Compound.h (bodies_of c.as_slice-bodies.result.now) c.in-Compound.tail vars place.scope)
          c.args.nexts.now c.in_ok-fs-in-Compound.fs.items place.scope c.requires c.in_ok-f-in-Compound.ensures.made c.in_ok-fs-in-Compound.ensures.made)
          (λ n s u. elem-at m after y (k n) vars place.scope place c.as_slice-vars.ensures refl s u) h) c.part_each-in-Compound.ensures.made;
    }

pub suffix-returns-in_ok-fs-in-Block : goal.suffix-returns-in_ok-fs-in-Block
suffix-returns-in_ok-fs-in-Block t c =
    let m = setting_at c.args.m.now in
    let a = c.args.parts.now in
    let after = element_or_none (option_copied c.args.after) in
    let k = λ (n : Continuation). next_of (plains a) m n in
    let place = c.args.place.now in
    let vars = c.as_slice-vars.result.now in
    let b = c.after_each-in-Block.new.parts in
    let y = bodies.Block c.in-Block.o (body c.as_slice-in-Block.result.now) c.in-Block.c in
    record {
      made = IfOk-weaker c.part_each-in-Block.result _ _
          (λ fs h. row-each m a b c.part_each-in-Block.new.parts after (element c.args.e.now) y k place c.args.nexts.now
          c.in_ok-fs-in-Block.fs.items c.as_slice-in-Block-2.result.now fs.items (λ n. table.elem m None None y (k n) vars place.scope place.scope)
          (ap element c.in-Block.is ∙ element-Block _ _ _
          ∙ ap (λ (z : List Elem). bodies.Block c.in-Block.o (body z) c.in-Block.c) (sym c.as_slice-in-Block.ensures)) refl
          c.as_slice-in-Block-2.ensures.value
          (past-each m a c.block.new.parts b c.in_ok-f-in-Block.f (block_at m c.in-Block.o (body c.as_slice-in-Block.result.now) c.in-Block.c vars place.scope)
          c.args.nexts.now c.in_ok-fs-in-Block.fs.items place.scope c.requires c.in_ok-f-in-Block.ensures.made c.in_ok-fs-in-Block.ensures.made)
          (λ n s u. elem-at m after y (k n) vars place.scope place c.as_slice-vars.ensures refl s u) h) c.part_each-in-Block.ensures.made;
    }

pub suffix-choice-requires : goal.suffix-choice-requires
suffix-choice-requires t c =
    let w = ap weight_element (ap element c.in-AnyOf.is ∙ element-AnyOf _
    ∙ ap (λ (z : List (List Elem)). bodies.AnyOf (bodies_of z)) (sym c.as_slice-bodies-in-AnyOf.ensures)) in
    (omega (arith, w), ap (all_made_below (length c.deeper_each.new.parts)) c.as_slice-nexts.ensures.value ∙ c.in_ok-nexts-in-AnyOf.ensures.made.within)

pub suffix-returns-in_ok-fs-in-AnyOf : goal.suffix-returns-in_ok-fs-in-AnyOf
suffix-returns-in_ok-fs-in-AnyOf t c =
    let m = setting_at c.args.m.now in
    let a = c.args.parts.now in
    let after = element_or_none (option_copied c.args.after) in
    let k = λ (n : Continuation). next_of (plains a) m n in
    let place = c.args.place.now in
    let vars = c.as_slice-vars.result.now in
    let d = c.deeper_each.new.parts in
    let b = c.choice.new.parts in
    let y = bodies.AnyOf (bodies_of c.as_slice-bodies-in-AnyOf.result.now) in
    record {
      made = IfOk-weaker c.part_each-in-AnyOf.result _ _
          (λ fs h. row-each m a b c.part_each-in-AnyOf.new.parts after (element c.args.e.now) y k place c.args.nexts.now
          c.in_ok-fs-in-AnyOf.fs.items c.as_slice-in-AnyOf.result.now fs.items (λ n. table.elem m None None y (k n) vars place.scope place.scope)
          (ap element c.in-AnyOf.is ∙ element-AnyOf _
          ∙ ap (λ (z : List (List Elem)). bodies.AnyOf (bodies_of z)) (sym c.as_slice-bodies-in-AnyOf.ensures)) refl c.as_slice-in-AnyOf.ensures.value
          (same-rows m place.scope a d b y vars c.args.nexts.now c.in_ok-nexts-in-AnyOf.nexts.items c.in_ok-fs-in-AnyOf.fs.items
          c.in_ok-nexts-in-AnyOf.ensures.made
          (subst (λ (z : List Continuation). MakesAll d b c.in_ok-fs-in-AnyOf.fs.items
          (map (λ n. table.elem m None None y (next_of (plains d) m n) vars place.scope place.scope) z))
          c.as_slice-nexts.ensures.value c.in_ok-fs-in-AnyOf.ensures.made))
          (λ n s u. elem-at m after y (k n) vars place.scope place c.as_slice-vars.ensures refl s u) h) c.part_each-in-AnyOf.ensures.made;
    }

pub suffix-returns-in_ok-fs-in-AllOf : goal.suffix-returns-in_ok-fs-in-AllOf
suffix-returns-in_ok-fs-in-AllOf t c =
    let m = setting_at c.args.m.now in
    let a = c.args.parts.now in
    let after = element_or_none (option_copied c.args.after) in
    let k = λ (n : Continuation). next_of (plains a) m n in
    let place = c.args.place.now in
    let vars = c.as_slice-vars.result.now in
    let b = c.every.new.parts in
    let y = bodies.AllOf (bodies_of c.as_slice-bodies-in-AllOf.result.now) in
    record {
      made = IfOk-weaker c.part_each-in-AllOf.result _ _
          (λ fs h. row-each m a b c.part_each-in-AllOf.new.parts after (element c.args.e.now) y k place c.args.nexts.now
          c.in_ok-fs-in-AllOf.fs.items c.as_slice-in-AllOf.result.now fs.items (λ n. table.elem m None None y (k n) vars place.scope place.scope)
          (ap element c.in-AllOf.is ∙ element-AllOf _
          ∙ ap (λ (z : List (List Elem)). bodies.AllOf (bodies_of z)) (sym c.as_slice-bodies-in-AllOf.ensures)) refl c.as_slice-in-AllOf.ensures.value
          c.in_ok-fs-in-AllOf.ensures.made
          (λ n s u. elem-at m after y (k n) vars place.scope place c.as_slice-vars.ensures refl s u) h) c.part_each-in-AllOf.ensures.made;
    }

pub suffix-returns-in_ok-whens-in-Gap : goal.suffix-returns-in_ok-whens-in-Gap
suffix-returns-in_ok-whens-in-Gap t c =
    let m = setting_at c.args.m.now in
    let a = c.args.parts.now in
    let after = element_or_none (option_copied c.args.after) in
    let k = λ (n : Continuation). next_of (plains a) m n in
    let place = c.args.place.now in
    let vars = c.as_slice-vars.result.now in
    let b = c.when_parts.new.parts in
    let d = c.in-Gap.d in
    let whens = c.in_ok-whens-in-Gap.ensures.made in
    record {
      made = IfOk-weaker c.dots_each.result _ _
          (λ fs h. dots-each m a b c.dots_each.new.parts after (element c.args.e.now) (bodies.Gap (dots_of d).whens (dots_of d).any (dots_of d).strict)
          k (λ n. next_of (plains b) m n) place c.args.nexts.now fs.items
          (table.stays m.around ++ parts_at b c.in_ok-whens-in-Gap.whens.items)
          (table.stays m.around ++ table.when_parts m (dots_of d).whens place.scope) (dots_of d).any (dots_of d).strict None
          (ap element c.in-Gap.is ∙ element-Gap d) refl whens.grows
          (ap (λ (z : List Plain). table.stays m.around ++ z)
          (whens-are m a b c.in_ok-whens-in-Gap.whens.items d c.as_slice-in-Gap.result.now place.scope place c.as_slice-in-Gap.ensures refl whens))
          c.requires (λ n w. follow-stays a b m n whens.grows w)
          (λ n s u. refl) h) c.dots_each.ensures.made;
    }

pub suffix-returns-in_ok-whens-in-Nest : goal.suffix-returns-in_ok-whens-in-Nest
suffix-returns-in_ok-whens-in-Nest t c =
    let m = setting_at c.args.m.now in
    let a = c.args.parts.now in
    let after = element_or_none (option_copied c.args.after) in
    let k = λ (n : Continuation). next_of (plains a) m n in
    let place = c.args.place.now in
    let vars = c.as_slice-vars.result.now in
    let b = c.when_parts-in-Nest.new.parts in
    let d = c.in-Nest.d in
    let nest = c.in_ok-part-in-Nest.ensures.made in
    let whens = c.in_ok-whens-in-Nest.ensures.made in
    let grown = grows-trans a c.nest.new.parts b nest.grows whens.grows in
    let held = table.stays m.around ++ table.when_parts m (dots_of d).whens place.scope in
    let part =
    nest-is m a c.nest.new.parts b c.in_ok-part-in-Nest.part (body c.as_slice-in-Nest.result.now) vars
    place.scope place c.as_slice-vars.ensures refl nest whens.grows
    ∙ ap (λ (z : List Elem). table.seq m None (body z) table.nothing
    (filter (occurs_body m.reading (body z)) place.inside) place.scope place.scope) c.as_slice-in-Nest.ensures in
    record {
      made = IfOk-weaker c.dots_each-in-Nest.result _ _
          (λ fs h. dots-each m a b c.dots_each-in-Nest.new.parts after (element c.args.e.now)
          (bodies.Nest c.in-Nest.plus (body c.in-Nest.b) (dots_of d).whens (dots_of d).any (dots_of d).strict)
          k (λ n. next_of (plains b) m n) place c.args.nexts.now fs.items
          (table.stays m.around ++ parts_at b c.in_ok-whens-in-Nest.whens.items) held (dots_of d).any (dots_of d).strict
          (Some (record { plus = c.in-Nest.plus; part = c.in_ok-part-in-Nest.part }))
          (ap element c.in-Nest.is ∙ element-Nest c.in-Nest.plus c.in-Nest.b d) refl grown
          (ap (λ (z : List Plain). table.stays m.around ++ z)
          (whens-are m c.nest.new.parts b c.in_ok-whens-in-Nest.whens.items d c.as_slice-in-Nest-2.result.now place.scope place
          c.as_slice-in-Nest-2.ensures refl whens))
          c.requires (λ n w. follow-stays a b m n grown w)
          (λ n s u. ap (λ (z : Plain). table.exists_all place.here (table.nested m.forall_walks c.in-Nest.plus (dots_of d).strict
          (table.condition (dots_of d).any held (table.ends_of_option m true s (u ++ place.here)) (table.ends_of_option m false after place.scope)) z
          (table.target m.around (k n).start ((k n).at place.scope)))) part) h)
          c.dots_each-in-Nest.ensures.made;
    }

-- what may follow, in the tables that grew

pub suffix-after_each-requires-clause-nexts : goal.suffix-after_each-requires-clause-nexts
suffix-after_each-requires-clause-nexts t c =
    nexts-stand c.args.parts.now c.compound.new.parts c.args.nexts.now c.in_ok-f-in-Compound.ensures.made.grows c.requires

pub suffix-after_each-requires-in-Block-clause-nexts : goal.suffix-after_each-requires-in-Block-clause-nexts
suffix-after_each-requires-in-Block-clause-nexts t c =
    nexts-stand c.args.parts.now c.block.new.parts c.args.nexts.now c.in_ok-f-in-Block.ensures.made.grows c.requires

pub suffix-dots_each-requires-clause-nexts : goal.suffix-dots_each-requires-clause-nexts
suffix-dots_each-requires-clause-nexts t c =
    nexts-stand c.args.parts.now c.when_parts.new.parts c.args.nexts.now c.in_ok-whens-in-Gap.ensures.made.grows c.requires

pub suffix-dots_each-requires-in-Nest-clause-nexts : goal.suffix-dots_each-requires-in-Nest-clause-nexts
suffix-dots_each-requires-in-Nest-clause-nexts t c =
    nexts-stand c.args.parts.now c.when_parts-in-Nest.new.parts c.args.nexts.now
    (grows-trans c.args.parts.now c.nest.new.parts c.when_parts-in-Nest.new.parts c.in_ok-part-in-Nest.ensures.made.grows
    c.in_ok-whens-in-Nest.ensures.made.grows) c.requires
