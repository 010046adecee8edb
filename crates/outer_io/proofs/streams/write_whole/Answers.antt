-- What was written, joined with what is left, is the piece.
use Rattle.std.proofs.Common.{◌≡◌, ℕ, ◌-◌, List, ◌++◌, Option, length, take, drop, sym, ap, ◌∙◌, subst, append_assoc, take-append-drop}
use Rattle.std.proofs.Math.Seq.{take-append_seam}
use Rattle.std.proofs.lemmas.List.{take_rest}
use Rattle.std.specs.Io.KnownBytes.{Appends}
use Rattle.std.proofs.KnownBytes.{Appends-trans, Appends-kept}
use Rattle.outer_io.proofs.streams.write_whole.Goals as goal

-- a step of the loop
moves_front : (all done rest : List ℕ) (n : ℕ) → all ≡ done ++ rest → all ≡ (done ++ take n rest) ++ take (length rest - n) (drop n rest)
moves_front all done rest n e =
    e ∙ ap (λ l. done ++ l) (sym (take-append-drop n rest)) ∙ sym (append_assoc done (take n rest) (drop n rest))
    ∙ ap (λ l. (done ++ take n rest) ++ l) (sym (take_rest rest n))

-- what was written is a prefix of the piece
front_of : (before after : Option (List ℕ)) (all done rest : List ℕ) → all ≡ done ++ rest → Appends before after done
    → (n : ℕ) × Appends before after (take n all)
front_of before after all done rest split appended =
    (length done, subst (Appends before after) (sym (take-append_seam done rest) ∙ ap (take (length done)) (sym split)) appended)

-- and also after one more write, even if it accepted nothing
front_more : (before mid after : Option (List ℕ)) (all done rest : List ℕ) (n : ℕ) → all ≡ done ++ rest
    → Appends before mid done → Appends mid after (take n rest) → (x : ℕ) × Appends before after (take x all)
front_more before mid after all done rest n split appended more =
    front_of before after all (done ++ take n rest) (drop n rest)
    (split ∙ ap (λ l. done ++ l) (sym (take-append-drop n rest)) ∙ sym (append_assoc done (take n rest) (drop n rest)))
    (Appends-trans before mid after done (take n rest) appended more)

pub loop-rest-preserved : goal.loop-rest-preserved
loop-rest-preserved g c =
    let (done, split, appended) = c.loop-rest.invariant in
    let rest = c.loop-rest.rest.now in
    let n = c.in-Ok.count in
    (done ++ take n rest, moves_front _ done rest n split, Appends-trans _ _ _ _ _ appended c.in-Ok.ensures.ok)

pub returns-in-Ok-eq0-clause-front : goal.returns-in-Ok-eq0-clause-front
returns-in-Ok-eq0-clause-front g c =
    let (done, split, appended) = c.loop-rest.invariant in
    front_more _ _ _ _ done c.loop-rest.rest.now _ split appended c.in-Ok-eq0.ensures.ok

pub returns-in-Err-clause-front : goal.returns-in-Err-clause-front
returns-in-Err-clause-front g c =
    let (done, split, appended) = c.loop-rest.invariant in
    front_of _ _ _ done c.loop-rest.rest.now split (Appends-kept _ _ _ _ appended c.in-Err.ensures.err)

pub returns-clause-front : goal.returns-clause-front
returns-clause-front g c =
    let (done, split, appended) = c.loop-rest.invariant in
    front_of _ _ _ done c.loop-rest.rest.now split appended
