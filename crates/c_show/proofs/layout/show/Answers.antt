use Rattle.std.proofs.Common.{◌≡◌, ℕ, sym, ◌∙◌, List, [], ◌++◌}
use Rattle.std.specs.Prelude.{Result, Ok, Err, IfOk, None}
use Rattle.std.proofs.lemmas.List.{append-nil}
use Rattle.c_terms.specs.declared.text.NoMemory.{NoMemory}
use Rattle.c_show.specs.declared.page.Role.TheVariants.{Plain}
use Rattle.c_show.specs.Show.{shown, joined, show_of}
use Rattle.c_show.proofs.layout.show.Goals as goal

given : (r : Result (List ℕ) NoMemory) (bytes text : List ℕ) → IfOk r (λ t. t ≡ bytes) → bytes ≡ text → IfOk r (λ t. t ≡ text)
given (Ok t) bytes text h e = h ∙ e
given (Err f) bytes text h e = tt

pub returns : goal.returns
returns c =
    let tree = c.args.tree.now in
    let written = sym (append-nil c.put_tree.new.page.text.items) ∙ c.in_ok-put_tree.ensures.text []
    ∙ (λ i. c.new.ensures.items i ++ joined None (append-nil (shown tree Plain) i)) in
    record { text = given c.from_bytes.result c.as_slice.result.now (show_of tree) c.from_bytes.ensures.bytes (c.as_slice.ensures.value ∙ written) }
