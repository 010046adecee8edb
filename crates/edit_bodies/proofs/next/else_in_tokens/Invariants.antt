use Rattle.std.proofs.Common.{◌≡◌, drop}
use Rattle.std.specs.List.{flat_map}
use Rattle.edit_bodies.specs.Looks.{tokens_there}
use Rattle.edit_bodies.specs.Scenes.{first_else, text_in}
use Rattle.edit_bodies.proofs.next.else_in_tokens.Given as goal

abbrev pub invariant-loop-token : goal.invariant-loop-token
invariant-loop-token l =
    first_else (flat_map (tokens_there (text_in l.scene)) l.tokens) ≡ first_else (flat_map (tokens_there (text_in l.scene)) (drop l.token-index l.tokens))
