use Rattle.std.proofs.Common.{◌≡◌, ℕ, List, [], length, drop, sym, ap, subst, ◌∙◌}
use Rattle.std.proofs.lemmas.List.{nil_from_length, take_rest}
use Rattle.std.proofs.lemmas.Bool.{eqb-true}
use Rattle.cpp_lines.specs.Words.{DoesAll}
use Rattle.cpp_lines.proofs.Words.{does}
use Rattle.cpp_lines.proofs.directive.read_directive.Goals as goal

pub returns-then-is_empty : goal.returns-then-is_empty
returns-then-is_empty c =
    let line = c.args.line.now in
    let none : line ≡ [] = nil_from_length line (eqb-true (length line) 0 (sym c.is_empty.ensures ∙ c.if-is_empty.true)) in
    does line _ (subst (λ (l : List ℕ). DoesAll l c.of_words.result) (none ∙ ap (λ (l : List ℕ). drop 1 l) (sym none)) c.of_words.ensures)

pub returns : goal.returns
returns c = does c.args.line.now _ (rw take_rest at c.of_words-2.ensures)
