use Rattle.c_typing.specs.Declarations.{param}
use Rattle.c_types.proofs.JoinLemmas.{join-more}
use Rattle.c_typing.proofs.declaration.params_of.Goals as goal

pub loop-member-preserved : goal.loop-member-preserved
loop-member-preserved c =
    join-more param c.args.members.now c.loop-member.member-index c.member-item.result c.member-item.result c.loop-member.found.items
    c.put_param.new.found.items c.loop-member-test.true c.member-item.is c.loop-member.invariant c.in_ok-put_param.ensures
