use Rattle.std.proofs.Common.{◌≡◌, None, ap, sym, ◌∙◌}
use Rattle.smpl_meta.specs.Index.{number_in, or_else, only}
use Rattle.smpl_meta.proofs.IndexLemmas.{pairs, inserted, none_of}
use Rattle.smpl_meta.proofs.index.NameIndex.put.Goals as goal

pub returns : goal.returns
returns c = λ other.
    let absent : number_in c.args.self.now c.args.name.now ≡ None = sym c.find.ensures ∙ none_of c.find.result (sym c.is_some.ensures ∙ c.if-is_some.false) in
    let same = c.in_ok-key.ensures.items in
    let none : number_in (pairs (λ k. k.items) c.self.inside.numbers.entries) c.in_ok-key.key.items ≡ None =
    ap (number_in (pairs (λ k. k.items) c.self.inside.numbers.entries)) same ∙ ap (λ index. number_in index c.args.name.now) c.self.view_is ∙ absent in
    ap (λ es. number_in (pairs (λ k. k.items) es) other) c.in_ok-insert.ensures.entries
    ∙ inserted (λ k. k.items) c.in_ok-key.key c.args.number other c.self.inside.numbers.entries none
    ∙ ap (λ w. or_else (number_in (pairs (λ k. k.items) c.self.inside.numbers.entries) other) (only w c.args.number other)) same
    ∙ ap (λ index. or_else (number_in index other) (only c.args.name.now c.args.number other)) c.self.view_is
