use Rattle.std.proofs.Common.{◌≡◌, ℕ, List, drop}
use Rattle.c_terms.specs.Names.{has_name}
use Rattle.smpl_lexer.specs.declared.token.PatchToken.{PatchToken}
use Rattle.iso_file.specs.Lost.{stands_in, lost_between}
use Rattle.iso_file.proofs.lost.lost_between.Given as goal

abbrev pub invariant-loop-t : goal.invariant-loop-t
invariant-loop-t l = (side : List PatchToken) → ((text : List ℕ) → has_name l.from text ≡ stands_in side text)
    → lost_between l.vars side (drop l.t-index l.to) ≡ lost_between l.vars side l.to
