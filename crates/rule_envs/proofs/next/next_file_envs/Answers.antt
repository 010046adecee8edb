use Rattle.std.proofs.Common.{◌≡◌, ◌<◌, ◌+◌, ◌++◌, length, map, drop, ap, subst, ◌∙◌, arith}
use Rattle.rule_envs.specs.Shares.{bare_file_env}
use Rattle.rule_envs.specs.FileEnvs as of
use Rattle.rule_envs.proofs.FileEnvLemmas.{all_replaced, all_becomes, all_done, one_replaced, front_is_less}
use Rattle.rule_envs.proofs.next.next_file_envs.Goals as goal

pub returns-then-len-gt-MOST_ENVIRONMENTS-clause-too_many : goal.returns-then-len-gt-MOST_ENVIRONMENTS-clause-too_many
returns-then-len-gt-MOST_ENVIRONMENTS-clause-too_many c = λ is share brings h.
    let front = one_replaced c.args.number c.args.parts.now c.args.file_envs.now c.args.places.now c.loop-i.i c.loop-i.next c.in_ok-next.next
    c.index-file_envs-i.result _ (omega arith) c.requires.lengths c.index-file_envs-i.is c.loop-i.invariant.rest
    (c.in_ok-next.ensures ∙ ap (λ ps. c.loop-i.next ++ of.replaced c.args.number c.index-file_envs-i.result ps) c.parts_of-brought.ensures) in
    let more : of.most_environments < length (map bare_file_env (all_replaced c.args.number c.args.parts.now c.args.file_envs.now c.args.places.now)) =
    front_is_less (all_replaced c.args.number c.args.parts.now c.args.file_envs.now c.args.places.now) c.in_ok-next.next
    (all_replaced c.args.number c.args.parts.now (drop (c.loop-i.i + 1) c.args.file_envs.now) (drop (c.loop-i.i + 1) c.args.places.now))
    bare_file_env of.most_environments front (omega arith) in
    subst (λ cs. of.most_environments < length cs)
    (all_becomes c.args.number share brings h.projections c.args.parts.now h.brought c.args.file_envs.now c.args.places.now h.shares) more

pub returns-clause-file_envs : goal.returns-clause-file_envs
returns-clause-file_envs c = λ share brings h.
    let done : c.loop-i.next ≡ all_replaced c.args.number c.args.parts.now c.args.file_envs.now c.args.places.now =
    all_done c.args.number c.args.parts.now c.args.file_envs.now c.args.places.now c.loop-i.i c.loop-i.next (omega arith) c.loop-i.invariant.rest in
    ap (map bare_file_env) done
    ∙ all_becomes c.args.number share brings h.projections c.args.parts.now h.brought c.args.file_envs.now c.args.places.now h.shares
