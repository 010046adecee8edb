use Rattle.std.proofs.Common.{List, length, subst, sym, ◌∙◌, rules}
use Rattle.std.specs.Prelude.{filter}
use Rattle.edit_marks.specs.Tokens.{file_tokens}
use Rattle.std.proofs.lemmas.List.Sorted.{IsNonDecreasingBy-from_sort, answers_always}
use Rattle.edit_unparse.specs.declared.tidy.parts.Brace.{Brace}
use Rattle.edit_unparse.specs.Tidy.Spots.{brace_number}
use Rattle.edit_bodies.specs.Laid.{AreBraces}
use Rattle.edit_bodies.proofs.LayoutLemmas.{made_braces, no_braces, no_items, probe, probe_number, tied}
use Rattle.edit_bodies.proofs.lay.braces_of.Goals as goal

pub returns-then-is_empty : goal.returns-then-is_empty
returns-then-is_empty c =
    let coming = c.args.coming.now in
    let files = file_tokens c.args.lexed.now in
    subst (λ (braces : List Brace). AreBraces files coming braces) (sym c.new.ensures.items) (no_braces files coming (no_items (length coming) c.if-is_empty.ensures))

pub returns : goal.returns
returns c = record {
  rise = IsNonDecreasingBy-from_sort brace_number c.sort_by_key.new.self.items
      (c.in_ok-sort_by_key.ensures.sorted brace_number (answers_always _ _ _ (λ f a r g h. search rules)));
  same = λ n.
      sym (λ i. filter (λ (b : Brace). tied (brace_number (probe n)) (brace_number b) n (probe_number n) i) c.sort_by_key.new.self.items)
      ∙ c.sort_by_key.ensures.stable brace_number (answers_always _ _ _ (λ f a r g h. search rules)) (probe n)
      ∙ (λ i. filter (λ (b : Brace). tied (brace_number (probe n)) (brace_number b) n (probe_number n) i) c.in_ok-braces.braces.items)
      ∙ made_braces _ _ c.args.coming.now c.in_ok-braces.braces.items n c.in_ok-files.ensures c.in_ok-braces.ensures;
}
