use Rattle.std.proofs.Common.{◌≡◌, map, take}
use Rattle.c_terms.specs.Trees.{join}
use Rattle.c_typing.specs.Base.{basic_words, times}
use Rattle.c_typing.proofs.base.words_of.Given as goal

abbrev pub invariant-loop-i : goal.invariant-loop-i
invariant-loop-i l = l.words ≡ join (map (λ word. times word l.children) (take l.i basic_words))
