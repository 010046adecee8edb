use Rattle.std.proofs.Common.{◌≡◌, sym, ap, ◌∙◌, false, map}
use Rattle.c_terms.specs.Names.{has_name}
use Rattle.c_terms.proofs.NamesLemmas.{put-new}
use Rattle.rule_chain.proofs.item_texts.TextSet.add.Goals as goal

pub returns : goal.returns
returns c =
    let new : has_name (map (λ k. k.items) c.self.inside.set.keys) c.args.text.now ≡ false =
    ap (λ names. has_name names c.args.text.now) c.self.view_is ∙ sym c.if-has.ensures in
    rw (← c.self.view_is) (ap (map (λ k. k.items)) c.in_ok-insert.ensures.keys
    ∙ put-new (λ k. k.items) c.self.inside.set.keys c.in_ok-key.key c.args.text.now c.in_ok-key.ensures.items new)
