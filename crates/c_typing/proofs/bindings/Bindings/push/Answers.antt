use Rattle.std.proofs.Common.{◌≡◌, length, arith}
use Rattle.c_typing.proofs.EntryLemmas.{seen-push, push-linked}
use Rattle.c_typing.proofs.bindings.Bindings.push.Goals as goal

pub invariant_of-self-2 : goal.invariant_of-self-2
invariant_of-self-2 c =
    let entries = c.reserve.new.self in
    let many : c.len-last.result ≡ length entries.items = omega (arith, c.len-last.ensures, entries.ok.0) in
    push-linked c.self.inside.lasts c.put.new.self c.self.inside.entries.items entries.items c.push_reserved.new.self.items _ c.len-last.result
    c.as_bytes-2.result.now c.as_bytes.result.now c.push_reserved.ensures.items c.as_bytes-2.ensures.bytes c.as_bytes.ensures.bytes
    c.self.invariant c.in_ok-reserve.ensures.items many c.in_ok-put.ensures.ok c.get-before.ensures

pub returns-clause-ok : goal.returns-clause-ok
returns-clause-ok c =
    rw (← c.self.view_is) (seen-push c.self.inside.entries.items c.reserve.new.self.items c.push_reserved.new.self.items _
    c.in_ok-reserve.ensures.items c.push_reserved.ensures.items)
