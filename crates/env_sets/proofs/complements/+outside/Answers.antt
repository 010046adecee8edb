use Rattle.std.proofs.Common.{◌≡◌, ◌&&◌, ◌||◌, Bool, true, false, not, List, [], ◌∷◌, length, get_or, take, refl, ap, sym, ◌∙◌, arith}
use Rattle.std.specs.List.{list_any}
use Rattle.std.proofs.lemmas.List.{take_all, get_or_default}
use Rattle.std.proofs.lemmas.Result.{IfOk-weaker}
use Rattle.smpl_terms.specs.Values.{same}
use Rattle.env_sets.specs.Bounds.{fits, is_not}
use Rattle.smpl_terms.specs.declared.var.Var.{Var}
use Rattle.smpl_terms.specs.declared.value.Value.{Value}
use Rattle.smpl_terms.specs.Environments.{Environment}
use Rattle.env_sets.specs.declared.bounds.Bound.{Bound}
use Rattle.env_sets.specs.declared.bounds.Bound.TheVariants.{Not}
use Rattle.env_sets.specs.Sets.{Entries, entry_denotes, set_denotes, set_vars}
use Rattle.env_sets.specs.Splits.{size_of}
use Rattle.env_sets.proofs.LoopLemmas.{any_step, any_at, or_true}
use Rattle.env_sets.proofs.RisingLemmas.{no_items}
use Rattle.env_sets.proofs.PartLemmas.{lone_end, part_smaller, part_is}
use Rattle.env_sets.proofs.SplitLemmas.{is-split, other-split, restricted_vars, occurs_vars, occurs_size, occurs_at, complement_step, complement_end, lone_var}
use Rattle.env_sets.proofs.complements.+outside.Goals as goal

alone : (k : Bool) → ((not k && true) || false) ≡ not k
alone true = refl
alone false = refl

no_others : (others : Entries) (env : Environment) (k : Bool) → length others ≡ 0 → (k || set_denotes others env) ≡ k
no_others [] env true h = refl
no_others [] env false h = refl
no_others (e ∷ es) env k h = absurd (omega arith)

-- the complement of values of one variable
lone_outside : (all : Entries) (e : List (Var × Bound)) (x : Var) (fixed known : List Value) (read others a : Entries) (env : Environment)
    → all ≡ e ∷ [] → e ≡ (x, Not fixed) ∷ [] → fixed ≡ known → read ≡ others → length read ≡ 0
    → set_denotes a env ≡ (list_any (λ v. same v (env x)) known || set_denotes others env) → set_denotes all env ≡ not (set_denotes a env)
lone_outside all e x fixed known read others a env i f g r n m =
    let excluded = list_any (λ v. same v (env x)) known in
    ap (λ es. set_denotes es env) i ∙ ap (λ d. set_denotes (d ∷ []) env) f ∙ ap (λ vs. set_denotes (((x, Not vs) ∷ []) ∷ []) env) g
    ∙ alone excluded ∙ ap not (sym (m ∙ ap (λ es. excluded || set_denotes es env) (sym r) ∙ no_others read env excluded n))

pub outside_at-returns-then-is_empty-clause-meaning : goal.outside_at-returns-then-is_empty-clause-meaning
outside_at-returns-then-is_empty-clause-meaning t c = IfOk-weaker c.one_entry.result _ _ (λ r h env.
    lone_outside r.items c.in_ok-one.field-0 c.args.x.now c.in_ok-fixed.fixed c.in_ok-parts.parts.fixed
    c.entries-others.result.now c.in_ok-parts.parts.others c.args.a.now env
    h c.in_ok-one.ensures.pairs (c.in_ok-fixed.ensures.items ∙ c.into_vec.ensures.items) c.entries-others.ensures.entries
    (no_items (length c.entries-others.result.now) (sym c.if-is_empty.true ∙ c.is_empty.ensures)) (c.in_ok-parts.ensures.meaning env)) c.one_entry.ensures

pub outside-split_var-requires : goal.outside-split_var-requires
outside-split_var-requires t c = record {
  first =
      occurs_at c.args.a.now c.first-item.result c.pair-item.result
      (omega (arith, c.in-len1-up.len_at_least)) c.first-item.is
      (omega (arith, ap length c.pairs.ensures.pairs, c.in-len1-up-pairs.len_at_least))
      (c.pair-item.is ∙ ap (λ ps. get_or ps 0 c.pair-item.result) c.pairs.ensures.pairs);
}

pub outside-outside_at-requires : goal.outside-outside_at-requires
outside-outside_at-requires t c = (omega (arith, c.decreases), c.in_ok-x-in-len1-up-pairs.ensures.occurs)

pub outside_at-returns-then-is_empty-clause-vars : goal.outside_at-returns-then-is_empty-clause-vars
outside_at-returns-then-is_empty-clause-vars t c = IfOk-weaker c.one_entry.result _ _ (λ r h test all.
    ap (set_vars test) (h ∙ ap (λ e. e ∷ []) c.in_ok-one.ensures.pairs)
    ∙ lone_var (test c.args.x.now) (occurs_vars c.args.x.now test c.args.a.now c.requires.occurs all)) c.one_entry.ensures

pub outside_at-returns-in-Some-clause-meaning : goal.outside_at-returns-in-Some-clause-meaning
outside_at-returns-in-Some-clause-meaning t c = IfOk-weaker c.outside_lone.result _ _ (λ r h env.
    let in_values = list_any (λ v. same v (env c.args.x.now)) c.as_slice.result.now in
    let others = c.in_ok-parts.parts.others in
    let fixed = list_any (λ v. same v (env c.args.x.now)) c.in_ok-parts.parts.fixed in
    h env
    ∙ lone_end in_values (fixed || set_denotes others env)
    (λ none. or_true fixed (set_denotes others env)
    (ap (λ es. set_denotes es env) (sym c.entries-others.ensures.entries)
    ∙ any_at (λ e. entry_denotes e env) c.entries-others.result.now c.shortest.result c.index-others-shortest.result
    c.shortest.ensures c.index-others-shortest.is
    (c.in-Some.ensures env ∙ ap (λ vs. not (list_any (λ v. same v (env c.args.x.now)) vs))
    (sym (c.as_slice.ensures.items ∙ c.in_ok-listed.ensures.items)) ∙ ap not none)))
    ∙ ap not (sym (c.in_ok-parts.ensures.meaning env)))
    c.outside_lone.ensures.meaning

pub outside_at-returns-in-Some-clause-vars : goal.outside_at-returns-in-Some-clause-vars
outside_at-returns-in-Some-clause-vars t c = IfOk-weaker c.outside_lone.result _ _ (λ r h test all.
    h test (occurs_vars c.args.x.now test c.args.a.now c.requires.occurs all)) c.outside_lone.ensures.vars

pub split-outside-requires : goal.split-outside-requires
split-outside-requires t c = (
  omega (
    arith,
    c.decreases,
    part_smaller c.args.x.now c.as_slice-all.result.now c.args.a.now c.in_ok-parts.parts.items c.loop-i.i c.entries.result.now
        c.in_ok-parts.ensures c.loop-i-test.true
        (c.entries.ensures.entries ∙ c.index.ensures
        ∙ get_or_default c.in_ok-parts.parts.items c.loop-i.i c.index.result.now []
        (omega (arith, c.in_ok-parts.ensures.0, c.loop-i-test.true))) c.requires.occurs,
  ),
  tt,
)

pub split-outside-requires-2 : goal.split-outside-requires-2
split-outside-requires-2 t c =
    (omega (arith, c.decreases, ap size_of (c.deref.ensures.value ∙ c.in_ok-other.ensures), occurs_size c.args.x.now is_not c.args.a.now c.requires.occurs), tt)

pub split-loop-i-preserved : goal.split-loop-i-preserved
split-loop-i-preserved t c =
    let v = c.index-all-i.result in
    let x = c.args.x.now in
    let is_part = part_is x c.as_slice-all.result.now c.args.a.now c.in_ok-parts.parts.items c.loop-i.i c.entries.result.now v
    c.in_ok-parts.ensures c.loop-i-test.true
    (c.entries.ensures.entries ∙ c.index.ensures
    ∙ get_or_default c.in_ok-parts.parts.items c.loop-i.i c.index.result.now []
    (omega (arith, c.in_ok-parts.ensures.0, c.loop-i-test.true))) c.index-all-i.is in
    record {
      meaning = λ env.
          c.in_ok-put_fixed.ensures.meaning env
          ∙ (λ i. c.loop-i.invariant.meaning env i || (c.in_ok-rest.ensures.meaning env i && same v (env x)))
          ∙ complement_step (list_any (λ w. same w (env x)) (take c.loop-i.i c.as_slice-all.result.now)) (same v (env x))
          (set_denotes c.entries.result.now env) (set_denotes c.args.a.now env)
          (λ yes. ap (λ es. set_denotes es env) is_part ∙ is-split x v env c.args.a.now yes)
          ∙ ap (λ b. b && not (set_denotes c.args.a.now env))
          (sym (any_step (λ w. same w (env x)) c.as_slice-all.result.now c.loop-i.i v (omega arith) c.index-all-i.is));
      vars = λ test all.
          c.in_ok-put_fixed.ensures.vars test (c.loop-i.invariant.vars test all)
          (c.in_ok-rest.ensures.vars test (ap (set_vars test) is_part ∙ restricted_vars x (fits v) test c.args.a.now all))
          (occurs_vars x test c.args.a.now c.requires.occurs all);
    }

pub split-returns-clause-meaning : goal.split-returns-clause-meaning
split-returns-clause-meaning t c = λ env.
    let x = c.args.x.now in
    let all_values : take c.loop-i.i c.as_slice-all.result.now ≡ c.in_ok-values.values =
    take_all c.loop-i.i c.as_slice-all.result.now (omega arith) ∙ c.as_slice-all.ensures.items in
    c.in_ok-put_other.ensures.meaning env
    ∙ (λ i. (c.loop-i.invariant.meaning env ∙ ap (λ vs. list_any (λ v. same v (env x)) vs && not (set_denotes c.args.a.now env)) all_values) i
    || (c.in_ok-rest-2.ensures.meaning env i && not (list_any (λ v. same v (env x)) (c.into_vec.ensures.items i))))
    ∙ complement_end (list_any (λ v. same v (env x)) c.in_ok-values.values) (set_denotes c.deref.result.now env) (set_denotes c.args.a.now env)
    (λ none. ap (λ es. set_denotes es env) (c.deref.ensures.value ∙ c.in_ok-other.ensures)
    ∙ other-split x env c.args.a.now (c.in_ok-values.ensures.meaning (env x) none))

pub split-returns-clause-vars : goal.split-returns-clause-vars
split-returns-clause-vars t c = λ test all.
    c.in_ok-put_other.ensures.vars test (c.loop-i.invariant.vars test all)
    (c.in_ok-rest-2.ensures.vars test (ap (set_vars test) (c.deref.ensures.value ∙ c.in_ok-other.ensures)
    ∙ restricted_vars c.args.x.now is_not test c.args.a.now all))
    (occurs_vars c.args.x.now test c.args.a.now c.requires.occurs all)
