use Rattle.std.proofs.Common.{◌≡◌, ◌++◌, ◌∷◌, [], ℕ, Some, None, true, sym, ap, subst, ◌∙◌, cond, length}
use Rattle.std.specs.Prelude.{IsSomeAnd, slice_get}
use Rattle.std.specs.Map.{lookup}
use Rattle.std.specs.Ordering.{is_eq}
use Rattle.env_parts.specs.declared.key.Key.{Key}
use Rattle.env_parts.specs.Parts as of
use Rattle.env_parts.specs.Places.{place_in, ArePlaces}
use Rattle.env_parts.proofs.PlaceLemmas.{place_in_at, pushed_at, with_new_there, with_new_absent, are_places_push, none_of}
use Rattle.env_parts.proofs.distinct.DistinctEnvs.«with».Goals as goal

pub returns-in-Some : goal.returns-in-Some
returns-in-Some c =
    let there : place_in c.args.env c.args.self ≡ Some c.in-Some.place =
    ap (λ e. place_in e c.args.self) (sym c.in_ok-copy.ensures.same) ∙ sym c.place.ensures ∙ c.in-Some.is in
    record {
      envs = sym (with_new_there c.args.env c.args.self c.in-Some.place there);
      place = place_in_at c.args.env c.args.self c.in-Some.place there;
    }

pub invariant_of-result : goal.invariant_of-result
invariant_of-result c =
    let none : place_in c.args.env c.self.inside.envs ≡ None =
    ap (place_in c.args.env) c.self.view_is ∙ ap (λ e. place_in e c.args.self) (sym c.in_ok-copy.ensures.same)
    ∙ sym c.place.ensures ∙ none_of c.place.result c.in_default.not-Some in
    let old = c.self.inside.places.entries in
    let put : (q : Key) → lookup (λ (k : Key). is_eq (of.env_order q.env k.env)) c.insert.new.self.entries
    ≡ cond (is_eq (of.env_order c.args.env q.env)) (Some (length c.self.inside.envs)) (lookup (λ (k : Key). is_eq (of.env_order q.env k.env)) old) =
    λ q. c.in_ok-insert.ensures.updates.0 q
    ∙ (λ i. cond (is_eq (of.env_order (c.in_ok-copy.ensures.same i) q.env)) (Some (c.len-place.ensures i))
    (lookup (λ (k : Key). is_eq (of.env_order q.env k.env)) old)) in
    subst (ArePlaces c.insert.new.self.entries) (sym c.in_ok-push.ensures.ok)
    (are_places_push old c.insert.new.self.entries c.self.inside.envs c.args.env c.self.invariant none put)

pub returns-clause-envs : goal.returns-clause-envs
returns-clause-envs c =
    let none : place_in c.args.env c.args.self ≡ None =
    ap (λ e. place_in e c.args.self) (sym c.in_ok-copy.ensures.same) ∙ sym c.place.ensures ∙ none_of c.place.result c.in_default.not-Some in
    c.in_ok-push.ensures.ok ∙ (λ i. c.self.view_is i ++ c.args.env ∷ []) ∙ sym (with_new_absent c.args.env c.args.self none)

pub returns-clause-place : goal.returns-clause-place
returns-clause-place c =
    subst (λ (n : ℕ). IsSomeAnd (slice_get c.push.new.self n) (λ e. of.same_env c.args.env e ≡ true)) (sym c.len-place.ensures)
    (subst (λ envs. IsSomeAnd (slice_get envs (length c.self.inside.envs)) (λ e. of.same_env c.args.env e ≡ true)) (sym c.in_ok-push.ensures.ok)
    (pushed_at c.args.env c.self.inside.envs))
