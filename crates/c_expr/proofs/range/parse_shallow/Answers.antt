use Rattle.c_expr.proofs.RangeLemmas.{spelled_at, found_at}
use Rattle.c_expr.proofs.range.parse_shallow.Goals as goal

pub returns-clause-found : goal.returns-clause-found
returns-clause-found c =
    found_at c.args.kind c.args.names.now c.args.tokens.now c.in_ok-seen.seen.items c.as_slice.result.now _ c.requires
    c.as_slice.ensures.value c.in_ok-seen.ensures.right c.parse_seen.ensures.found

pub returns-clause-only : goal.returns-clause-only
returns-clause-only c = λ t h.
    c.parse_seen.ensures.only t (spelled_at c.args.kind c.args.names.now c.args.tokens.now c.in_ok-seen.seen.items
    c.as_slice.result.now t c.requires c.as_slice.ensures.value c.in_ok-seen.ensures.right h) h.shallow

pub returns-clause-no_tree : goal.returns-clause-no_tree
returns-clause-no_tree c = λ e t h.
    c.parse_seen.ensures.no_tree e t (spelled_at c.args.kind c.args.names.now c.args.tokens.now c.in_ok-seen.seen.items
    c.as_slice.result.now t c.requires c.as_slice.ensures.value c.in_ok-seen.ensures.right h) h.shallow
