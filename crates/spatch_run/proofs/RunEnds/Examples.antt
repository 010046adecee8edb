-- What is left of reports under `--quiet`, by example.
use Rattle.std.proofs.Common.{◌≡◌, [], ◌∷◌, ◌++◌, codes, refl}
use Rattle.run_acts.specs.Acts.{Load, Report}
use Rattle.spatch_run.specs.RunEnds.Quiet.{kept, quieted}

-- the line that says more, behind the first line, is left out
refused : kept (Report (codes "spatch: a.c: refused: conflict in rule 0 at token 7\n" ++ codes "  a.c:2:5: conflict in rule 0\n"))
    ≡ Report (codes "spatch: a.c: refused: conflict in rule 0 at token 7\n") ∷ []
refused = refl

-- one line stays as it is
plain : kept (Report (codes "spatch: a.c: cannot read\n")) ≡ Report (codes "spatch: a.c: cannot read\n") ∷ []
plain = refl

-- a note is left out
note : quieted (Load (codes "a.c") 9 ∷ Report (codes "  p.cocci:3:1: note: a - that isn't in the first column is an operator\n") ∷ [])
    ≡ Load (codes "a.c") 9 ∷ []
note = refl
