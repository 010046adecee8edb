use Rattle.std.proofs.Common.{◌≡◌, ◌≤◌, ◌<◌, length, take, drop, subst, arith, Option}
use Rattle.std.proofs.lemmas.List.{take_rest, length-drop}
use Rattle.smpl_meta.specs.declared.item.Item.{Item}
use Rattle.smpl_meta.specs.Typed.{declarator_length, IsDeclarator}
use Rattle.smpl_meta.proofs.TypedLemmas.{read_first, read_none, read_last, read_more}
use Rattle.smpl_meta.proofs.typed.declarator_items.Goals as goal

pub loop-items-init : goal.loop-items-init
loop-items-init c = rw c.new-items.ensures (read_first (IsDeclarator c.args.context.now.types.now c.args.name c.args.specs.now) c.args.tokens.now)

pub returns-in-None : goal.returns-in-None
returns-in-None c =
    let spells = IsDeclarator c.args.context.now.types.now c.args.name c.args.specs.now in
    let ts = c.args.tokens.now in
    let start = c.loop-items.start in
    let n = c.declarator_length-n.result in
    let n_is : c.declarator_length-n.result ≡ declarator_length 0 (drop start ts) = rw take_rest at c.declarator_length-n.ensures.value in
    let within : n ≤ length (drop start ts) = omega (arith, c.declarator_length-n.ensures.within, length-drop start ts) in
    let read : IsDeclarator c.args.context.now.types.now c.args.name c.args.specs.now (take n (drop start ts)) c.in_ok-declarator_item.field-0
    = rw take_rest at c.in_ok-declarator_item.ensures in
    read_none spells ts start c.loop-items.items n c.loop-items.invariant n_is within
    (subst (λ (o : Option Item). spells (take n (drop start ts)) o) c.in-None.is read)

pub returns-then-n-rest : goal.returns-then-n-rest
returns-then-n-rest c =
    let spells = IsDeclarator c.args.context.now.types.now c.args.name c.args.specs.now in
    let ts = c.args.tokens.now in
    let start = c.loop-items.start in
    let n = c.declarator_length-n.result in
    let n_is : c.declarator_length-n.result ≡ declarator_length 0 (drop start ts) = rw take_rest at c.declarator_length-n.ensures.value in
    let read : IsDeclarator c.args.context.now.types.now c.args.name c.args.specs.now (take n (drop start ts)) c.in_ok-declarator_item.field-0
    = rw take_rest at c.in_ok-declarator_item.ensures in
    let all : n ≡ length (drop start ts) = rw take_rest at c.if-n-rest.true in
    rw c.in_ok-push-in-Some.ensures.ok (read_last spells ts start c.loop-items.items c.in-Some.item n c.loop-items.invariant n_is all
    (subst (λ (o : Option Item). spells (take n (drop start ts)) o) c.in-Some.is read))

pub loop-items-preserved : goal.loop-items-preserved
loop-items-preserved c =
    let spells = IsDeclarator c.args.context.now.types.now c.args.name c.args.specs.now in
    let ts = c.args.tokens.now in
    let start = c.loop-items.start in
    let n = c.declarator_length-n.result in
    let n_is : c.declarator_length-n.result ≡ declarator_length 0 (drop start ts) = rw take_rest at c.declarator_length-n.ensures.value in
    let read : IsDeclarator c.args.context.now.types.now c.args.name c.args.specs.now (take n (drop start ts)) c.in_ok-declarator_item.field-0
    = rw take_rest at c.in_ok-declarator_item.ensures in
    let not_all : n ≡ length (drop start ts) → ⊥ = rw take_rest at c.if-n-rest.false in
    let less : n < length (drop start ts) = omega (arith, c.declarator_length-n.ensures.within, length-drop start ts, not_all) in
    rw c.in_ok-push-in-Some.ensures.ok (read_more spells ts start c.loop-items.items c.in-Some.item n c.loop-items.invariant n_is less
    (subst (λ (o : Option Item). spells (take n (drop start ts)) o) c.in-Some.is read))
