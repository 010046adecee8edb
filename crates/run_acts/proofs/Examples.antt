-- Examples of the definitions, computed.
use Rattle.std.proofs.Common.{◌≡◌, [], ◌∷◌, Some, None, refl, codes}
use Rattle.run_acts.specs.Acts.{Load, Store, Print, Report, observed, after, after_failed_store}
use Rattle.run_acts.specs.Lines.{cannot_read, cannot_write, cannot_print}

cannot_read_line : cannot_read (codes "k.c") ≡ codes "spatch: k.c: cannot read\n"
cannot_read_line = refl

cannot_write_line : cannot_write (codes "k.c") ≡ codes "spatch: k.c: cannot write\n"
cannot_write_line = refl

cannot_print_line : cannot_print ≡ codes "spatch: cannot print\n"
cannot_print_line = refl

-- a load leaves no trace, and two puts are written one after the other
acts_in_order : after (Load (codes "p") 9 ∷ Print (codes "ab") ∷ Report (codes "x") ∷ Print (codes "c") ∷ [])
    (observed None 3 (Some []) (Some (codes "w"))) ≡ observed None 3 (Some (codes "abc")) (Some (codes "wx"))
acts_in_order = refl

-- what isn't reported stays unreported
untold_stays : after (Print (codes "ab") ∷ Report (codes "x") ∷ []) (observed None 0 None None) ≡ observed None 0 None None
untold_stays = refl

-- each store counts, even one of the same bytes on a shelf that reveals nothing
stores_count : after (Store (codes "k.c") (codes "x") ∷ Load (codes "k.c") 9 ∷ Store (codes "k.c") (codes "x") ∷ [])
    (observed None 0 None None) ≡ observed None 2 None None
stores_count = refl

-- a store that fails counts too
failed_store_counts : after_failed_store (observed None 0 None None) ≡ observed None 1 None None
failed_store_counts = refl

-- a newline in a name doesn't end the line
escaped_line : cannot_read (codes "a\nb") ≡ codes "spatch: a\\nb: cannot read\n"
escaped_line = refl
