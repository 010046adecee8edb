use Rattle.std.proofs.Common.{◌≡◌, ap, ◌∙◌, false, map}
use Rattle.c_terms.specs.Names.{has_name}
use Rattle.c_terms.proofs.NamesLemmas.{put-new}
use Rattle.smpl_notes.proofs.words.Words.add.Goals as goal

pub returns : goal.returns
returns c =
    let same : c.in_ok-key.key.items ≡ c.args.word.now = cc (c.in_ok-key.ensures.items, c.as_bytes-2.ensures.bytes) in
    let absent : has_name c.args.self.now c.args.word.now ≡ false = cc (c.if-has.ensures, c.as_bytes.ensures.bytes) in
    let new : has_name (map (λ k. k.items) c.self.inside.set.keys) c.args.word.now ≡ false =
    ap (λ names. has_name names c.args.word.now) c.self.view_is ∙ absent in
    rw (← c.self.view_is) (ap (map (λ k. k.items)) c.in_ok-insert.ensures.keys
    ∙ put-new (λ k. k.items) c.self.inside.set.keys c.in_ok-key.key c.args.word.now same new)
