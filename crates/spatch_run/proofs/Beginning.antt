-- How a run begins.
use Rattle.std.proofs.Common.{◌≡◌, List, ℕ, Option, Some, None, refl, inl}
use Rattle.run_acts.specs.Acts.{Act, Load, Print, Report, Observed}
use Rattle.run_acts.specs.Breaks.{Counts}
use Rattle.run_acts.proofs.BreaksLemmas.{NoneFell-refl}
use Rattle.sp_gen.specs.Generated.{generated}
use Rattle.run_words.specs.declared.fault.WordFault.{WordFault}
use Rattle.run_words.specs.Orders.{Order, Apply, Generate, Say, order_of}
use Rattle.run_words.specs.Faults.{word_fault}
use Rattle.run_files.specs.RunLines.Words.{refused_words, said}
use Rattle.run_files.specs.RunStages.Stages.{begun, begun_by, next_act, patch_limit, refusing}
use Rattle.run_files.specs.RunStages.Ends.{Ends, Follows}
use Rattle.spatch_run.proofs.Chain.{broken}

-- a run begins with an act
first_act : (fault : Option WordFault) (order : Option Order) → (act : Act) × (next_act (begun fault order) ≡ Some act)
first_act fault None = (Report (refused_words fault), refl)
first_act fault (Some (Apply patch isos defined target)) = (Load patch patch_limit, refl)
first_act fault (Some (Generate seed functions)) = (Print (generated seed functions), refl)
first_act fault (Some (Say saying)) = (Print (said saying), refl)

-- memory ran out before it
pub unfed_first : (words : List (List ℕ)) (now : Counts) (old : Observed) → Follows words now now old old 7
unfed_first words now old =
    let first = first_act (word_fault words) (order_of words) in
    broken (begun_by words) first.0 first.1 (NoneFell-refl now) (inl (refl, refl))

pub follows : (words : List (List ℕ)) (order : Option Order) {before now : Counts} {old new : Observed} {status : ℕ}
    → order_of words ≡ order → Ends (begun (word_fault words) order) before now old new status → Follows words before now old new status
follows words order is ends = rw is ends

-- words that are no command, and what is wrong with them
pub follows_refusal : (words : List (List ℕ)) (fault : Option WordFault) {before now : Counts} {old new : Observed} {status : ℕ}
    → order_of words ≡ None → fault ≡ word_fault words → Ends (refusing (refused_words fault) 1) before now old new status
    → Follows words before now old new status
follows_refusal words fault none is ends =
    follows words None none (rw (← is) ends)
