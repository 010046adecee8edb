use Rattle.std.proofs.Common.{◌≡◌, ap, ◌∙◌, false, map, refl}
use Rattle.c_terms.specs.Names.{has_name}
use Rattle.c_terms.proofs.NamesLemmas.{put-new}
use Rattle.iso_expand.proofs.iso_forms.listed.Seen.add.Goals as goal

pub returns : goal.returns
returns c =
    let absent : has_name c.args.self.now c.args.key.items ≡ false = cc (c.if-has.ensures, c.has.ensures, c.as_slice.ensures.value) in
    let new : has_name (map (λ k. k.items) c.self.inside.set.keys) c.args.key.items ≡ false =
    ap (λ names. has_name names c.args.key.items) c.self.view_is ∙ absent in
    rw (← c.self.view_is) (ap (map (λ k. k.items)) c.in_ok-insert.ensures.keys
    ∙ put-new (λ k. k.items) c.self.inside.set.keys c.args.key c.args.key.items refl new)
