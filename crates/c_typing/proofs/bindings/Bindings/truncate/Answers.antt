use Rattle.std.proofs.Common.{◌≡◌, ◌+◌, ◌-◌, ◌≤◌, length, arith}
use Rattle.c_typing.proofs.EntryLemmas.{cut-linked, cut-known, cut-kept, kept-whole}
use Rattle.c_typing.proofs.bindings.Bindings.truncate.Goals as goal

pub set-requires : goal.set-requires
set-requires c =
    let entries = c.loop-self.self-inside.entries in
    let last : (c.len-last.result - 1) + 1 ≡ length entries.items = omega (arith, c.len-last.ensures, entries.ok.0) in
    cut-known c.loop-self.self-inside.lasts entries.items _ _ c.as_bytes.result.now c.index-entry.ensures last c.as_bytes.ensures.bytes
    c.loop-self.invariant.linked

pub loop-self-preserved : goal.loop-self-preserved
loop-self-preserved c =
    let entries = c.loop-self.self-inside.entries in
    let last : (c.len-last.result - 1) + 1 ≡ length entries.items = omega (arith, c.len-last.ensures, entries.ok.0) in
    record {
      linked = cut-linked c.loop-self.self-inside.lasts c.set.new.self entries.items c.truncate.new.self.items _ _ c.as_bytes.result.now
          c.truncate.ensures.items c.index-entry.ensures last c.as_bytes.ensures.bytes c.loop-self.invariant.linked c.set.ensures;
      kept = cut-kept c.args.len _ entries.items c.truncate.new.self.items _ c.truncate.ensures.items (omega arith) c.loop-self.invariant.kept;
    }

pub returns : goal.returns
returns c =
    let entries = c.loop-self.self-inside.entries in
    let few : length entries.items ≤ c.args.len = omega (arith, c.len.ensures, entries.ok.0) in
    rw (← c.self.view_is) (kept-whole c.args.len c.self.inside.entries.items entries.items few c.loop-self.invariant.kept)
