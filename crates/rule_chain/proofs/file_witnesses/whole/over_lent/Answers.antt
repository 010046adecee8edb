use Rattle.std.proofs.Common.{◌≡◌, ◌<◌, ◌+◌, ℕ, false, ap, sym, ◌∙◌, subst, arith, List, [], ◌∷◌, ◌++◌, length, map}
use Rattle.smpl_patch.specs.declared.witness.RuleWitness.{RuleWitness}
use Rattle.env_parts.specs.Parts.{Pairs, bare_env}
use Rattle.rule_chain.specs.RuleWitnesses.Bare.{bare_witness}
use Rattle.rule_chain.specs.FileWitnesses.Found.{found_under, is_large_under}
use Rattle.rule_chain.specs.FileWitnesses.Lists.{env_at}
use Rattle.rule_chain.proofs.FileWitnesses.EachLemmas.{next_each, next_length, any_default}
use Rattle.rule_chain.proofs.file_witnesses.whole.over_lent.Goals as goal

pub loop-k-init : goal.loop-k-init
loop-k-init g c =
    let number = c.args.ready.now.number in
    let rule = c.args.ready.now.rule.now in
    let envs = c.args.envs.now in
    let lists = c.put_list.new.lists.items in
    let one = c.in_ok-first.first.found in
    let is : lists ≡ [] ++ one ∷ [] = c.in_ok-put_list.ensures.added ∙ ap (λ (xs : List (List RuleWitness)). xs ++ one ∷ []) c.new-lists.ensures.items in
    let own = c.index-envs-0.is ∙ any_default envs 0 c.index-envs-0.result [] c.requires.some_envs in
    record {
      from = omega arith;
      upto = omega (arith, c.requires.some_envs);
      so_far = omega (arith, next_length (λ (j : ℕ) (list : List RuleWitness). j ≡ j) [] [] lists one is);
      found = λ items lent.
          next_each (λ j list. map bare_witness list ≡ found_under number rule items (env_at envs j)) [] [] lists one is
          (λ j lt. absurd (omega (arith, lt)))
          (c.in_ok-first.ensures.found items lent ∙ ap (λ (d : Pairs). found_under number rule items (bare_env d)) own);
      few = λ items lent.
          next_each (λ j list. is_large_under number rule items (env_at envs j) ≡ false) [] [] lists one is
          (λ j lt. absurd (omega (arith, lt)))
          (ap (λ (d : Pairs). is_large_under number rule items (bare_env d)) (sym own) ∙ c.in_ok-first.ensures.few items lent);
    }

pub loop-k-preserved : goal.loop-k-preserved
loop-k-preserved g c =
    let number = c.args.ready.now.number in
    let rule = c.args.ready.now.rule.now in
    let envs = c.args.envs.now in
    let k = c.loop-k.k in
    let old = c.loop-k.lists.items in
    let lists = c.put_list-in-loop-k.new.lists.items in
    let one = c.in_ok-found.found in
    let i = c.loop-k.invariant in
    let is : lists ≡ old ++ one ∷ [] = c.in_ok-put_list-2.ensures.added in
    let own = c.index-envs-k.is ∙ any_default envs k c.index-envs-k.result [] c.loop-k-test.true in
    record {
      from = omega (arith, i.from);
      upto = omega (arith, c.loop-k-test.true);
      so_far = next_length (λ (j : ℕ) (list : List RuleWitness). j ≡ j) [] old lists one is ∙ ap (λ (n : ℕ). n + 1) i.so_far;
      found = λ items lent.
          next_each (λ j list. map bare_witness list ≡ found_under number rule items (env_at envs j)) [] old lists one is
          (i.found items lent)
          (subst (λ (n : ℕ). map bare_witness one ≡ found_under number rule items (env_at envs n)) (sym i.so_far)
          (c.in_ok-found.ensures.found items lent ∙ ap (λ (d : Pairs). found_under number rule items (bare_env d)) own));
      few = λ items lent.
          next_each (λ j list. is_large_under number rule items (env_at envs j) ≡ false) [] old lists one is
          (i.few items lent)
          (subst (λ (n : ℕ). is_large_under number rule items (env_at envs n) ≡ false) (sym i.so_far)
          (ap (λ (d : Pairs). is_large_under number rule items (bare_env d)) (sym own) ∙ c.in_ok-found.ensures.few items lent));
    }

pub returns-clause-found : goal.returns-clause-found
returns-clause-found g c = λ items lent.
    let i = c.loop-k.invariant in
    let all : length c.loop-k.lists.items ≡ length c.args.envs.now = omega (arith, i.so_far, i.upto, c.loop-k-test.false) in
    record { count = all; each = λ k lt. i.found items lent k (omega (arith, lt, all)) }

pub returns-clause-few : goal.returns-clause-few
returns-clause-few g c = λ items lent k lt.
    let i = c.loop-k.invariant in
    let low : k < length c.loop-k.lists.items = omega (arith, lt, i.so_far, i.upto, c.loop-k-test.false) in
    i.few items lent k low
