use Rattle.std.proofs.Common.{◌≡◌, List, [], ◌∷◌, ◌++◌, ap, ◌∙◌, append_assoc, take-append-drop}
use Rattle.env_sets.specs.Sets.{Entries}
use Rattle.env_sets.specs.Blocks.{all_entries}
use Rattle.env_sets.proofs.BlockLemmas.{all_push}
use Rattle.env_sets.proofs.blocks.put_block.Goals as goal

two_blocks : (old mid new : List Entries) (front back block f b : Entries) → mid ≡ old ++ f ∷ [] → new ≡ mid ++ b ∷ []
    → f ≡ front → b ≡ back → front ++ back ≡ block → all_entries new ≡ all_entries old ++ block
two_blocks old mid new front back block f b e g h k is =
    ap all_entries g ∙ all_push mid b
    ∙ ap (λ bs. all_entries bs ++ b) e ∙ ap (λ es. es ++ b) (all_push old f)
    ∙ append_assoc (all_entries old) f b
    ∙ ap (λ es. all_entries old ++ (es ++ b)) h ∙ ap (λ es. all_entries old ++ (front ++ es)) k
    ∙ ap (λ es. all_entries old ++ es) is

pub returns-then-len-gt-MOST : goal.returns-then-len-gt-MOST
returns-then-len-gt-MOST c =
    two_blocks c.args.out.now.items c.push.new.self.items c.push-then-len-gt-MOST.new.self.items _ _ c.args.block.items c.in_ok-of.field-0 c.in_ok-of-2.field-0
    c.in_ok-push.ensures.items c.in_ok-push-2.ensures.items (c.in_ok-of.ensures.items ∙ c.in_ok-back.ensures.items)
    (c.in_ok-of-2.ensures.items ∙ c.in_ok-back.ensures.tail) (take-append-drop 64 c.args.block.items)
