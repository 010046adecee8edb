use Rattle.std.proofs.Common.{◌≡◌, [], None, fold, take}
use Rattle.run_words.specs.Forms.{Going, after_one, shown_walk}
use Rattle.run_words.proofs.walk.first_fault.Given as goal

-- the walk has come as far as the words so far lead
abbrev pub invariant-loop-word : goal.invariant-loop-word
invariant-loop-word l = shown_walk l.walk ≡ fold (λ t w. after_one t w.now) (Going [] None) (take l.word-index l.words)
