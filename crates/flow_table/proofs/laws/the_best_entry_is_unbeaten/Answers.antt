-- The leading entry of all is the one that no other beats.
use Rattle.std.proofs.Common.{◌≡◌, ◌∙◌, Some, true, false, refl, sym}
use Rattle.flow_table.proofs.BestLaws.{best_is, found, is_best, leads_best, none_takes}
use Rattle.flow_table.specs.Entry.{rank}
use Rattle.flow_table.proofs.laws.the_best_entry_is_unbeaten.Goals as goal

pub returns-clause-best : goal.returns-clause-best
returns-clause-best c = λ entries port header place is.
    let champion = found entries port header place is in
    (champion.0, is_best entries port header place champion.0 (λ e. c.tests_mean_what_matches_take.ensures.takes e.matches port header) champion.1)

pub returns-clause-only : goal.returns-clause-only
returns-clause-only c = λ entries port header place entry best.
    let champion = leads_best entries port header place entry (λ e. c.tests_mean_what_matches_take.ensures.takes e.matches port header) best in
    best_is entries port header (Some (place, rank entry)) (entry, refl, champion)

pub returns-clause-none : goal.returns-clause-none
returns-clause-none c = λ entries port header place entry is takes.
    let misses = none_takes entries port header is place entry takes.here in
    let fits = (c.tests_mean_what_matches_take.ensures.takes entry.matches port header).1 takes.takes in
    let both : true ≡ false = sym fits ∙ misses in
    absurd (cc both)
