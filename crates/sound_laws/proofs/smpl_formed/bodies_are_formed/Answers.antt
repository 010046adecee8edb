use Rattle.std.proofs.Common.{arith, ◌*◌}
use Rattle.std.specs.Prelude.{true, length}
use Rattle.c_terms.specs.declared.token.Token.{Token}
use Rattle.smpl_patch.specs.Bodies.{body}
use Rattle.smpl_patch.specs.Shapes.{patterns_body}
use Rattle.sound_laws.specs.SmplFormed.Bodies.{tokens_of}
use Rattle.sound_laws.proofs.SmplFormed.PatternLemmas.{any_tokens, patterns_fit, patterns_few, patterns_stand}
use Rattle.sound_laws.proofs.SmplFormed.ReadLemmas.{body_formed, body_few, body_patterns}
use Rattle.sound_laws.proofs.SmplFormed.NumberLemmas.{body_atoms}
use Rattle.sound_laws.proofs.smpl_formed.bodies_are_formed.Goals as goal

pub returns-clause-formed : goal.returns-clause-formed
returns-clause-formed c ps es s is = body_formed (λ (t : Token). true) ps es (c.bodies_are_parted_once.ensures.cut ps) s (any_tokens (tokens_of ps)) is

pub returns-clause-few : goal.returns-clause-few
returns-clause-few c ps es s is = body_few (λ (t : Token). true) ps es (c.bodies_are_parted_once.ensures.cut ps) s (any_tokens (tokens_of ps)) is

pub returns-clause-atoms : goal.returns-clause-atoms
returns-clause-atoms c ps es number is = body_atoms ps es (c.bodies_are_parted_once.ensures.cut ps) number is

pub returns-clause-patterns : goal.returns-clause-patterns
returns-clause-patterns c ok ps es s v is =
    patterns_fit ok (2 * length ps) (patterns_body (body es)) (body_patterns ok ps es (c.bodies_are_parted_once.ensures.cut ps) s v is)

pub returns-clause-narrow : goal.returns-clause-narrow
returns-clause-narrow c ps es s is =
    patterns_few (λ (t : Token). true) (2 * length ps) (patterns_body (body es)) (omega (arith, s))
    (body_patterns (λ (t : Token). true) ps es (c.bodies_are_parted_once.ensures.cut ps) s (any_tokens (tokens_of ps)) is)

pub returns-clause-sure : goal.returns-clause-sure
returns-clause-sure c decls tokens ps es s is =
    patterns_stand (λ (t : Token). true) (2 * length ps) decls tokens (patterns_body (body es))
    (body_patterns (λ (t : Token). true) ps es (c.bodies_are_parted_once.ensures.cut ps) s (any_tokens (tokens_of ps)) is)
