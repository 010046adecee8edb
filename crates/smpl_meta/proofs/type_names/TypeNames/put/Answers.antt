use Rattle.std.proofs.Common.{◌≡◌, ap, ◌∙◌, false, map}
use Rattle.c_terms.specs.Names.{has_name}
use Rattle.c_terms.proofs.NamesLemmas.{put-new}
use Rattle.smpl_meta.proofs.type_names.TypeNames.put.Goals as goal

pub returns : goal.returns
returns c =
    let same : c.in_ok-key.key.items ≡ c.args.name.now = cc (c.in_ok-key.ensures.items, c.as_bytes-2.ensures.bytes) in
    let absent : has_name c.args.self.now c.args.name.now ≡ false = cc (c.if-has.ensures, c.as_bytes.ensures.bytes) in
    let new : has_name (map (λ k. k.items) c.self.inside.names.keys) c.args.name.now ≡ false =
    ap (λ names. has_name names c.args.name.now) c.self.view_is ∙ absent in
    rw (← c.self.view_is) (ap (map (λ k. k.items)) c.in_ok-insert.ensures.keys
    ∙ put-new (λ k. k.items) c.self.inside.names.keys c.in_ok-key.key c.args.name.now same new)
