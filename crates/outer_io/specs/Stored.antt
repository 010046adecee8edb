-- How shelves and sinks in memory store what contracts see.
use Rattle.std.specs.Prelude.{ℕ, List, map, Vec, refl}
use Rattle.std.specs.declared.alloc.Global.{Global}
use Rattle.std.specs.Coded.{Coded, code_by, coded×, coded_list, coded_ℕ}
use Rattle.std.specs.FinMap.{from_entries, code}
use Rattle.outer_io.specs.Files.{Files}
use Rattle.outer_io.specs.Calls.{Calls, ShelfState, CalmShelfState}

-- the files of the entries of a search tree, whose names differ
abbrev pub files_in : List (Vec ℕ Global × Vec ℕ Global) → Files
files_in entries = from_entries (map (λ e. (e.0.items, e.1.items)) entries)

abbrev pub files_code : Coded Files
files_code = code (coded_list coded_ℕ) (coded_list coded_ℕ)

abbrev pub calls_code : Coded Calls
calls_code = code_by (ℕ × (List ℕ × ℕ)) (coded× coded_ℕ (coded× (coded_list coded_ℕ) coded_ℕ))
    (λ c. (c.done, (c.fail, c.faults))) (λ p. record { done = p.0; fail = p.1.0; faults = p.1.1 }) (λ _. refl)

abbrev pub rewrites_code : Coded (List (ℕ × List ℕ))
rewrites_code = coded_list (coded× coded_ℕ (coded_list coded_ℕ))

abbrev pub shelf_code : Coded ShelfState
shelf_code = code_by (Files × (ℕ × (Calls × List (ℕ × List ℕ))))
    (coded× files_code (coded× coded_ℕ (coded× calls_code rewrites_code))) (λ s. (s.files, (s.stores, (s.calls, s.rewrites))))
    (λ p. record { files = p.0; stores = p.1.0; calls = p.1.1.0; rewrites = p.1.1.1 }) (λ _. refl)

abbrev pub calm_code : Coded CalmShelfState
calm_code = code_by (Files × (ℕ × ℕ)) (coded× files_code (coded× coded_ℕ coded_ℕ)) (λ s. (s.files, (s.stores, s.calls)))
    (λ p. record { files = p.0; stores = p.1.0; calls = p.1.1 }) (λ _. refl)
