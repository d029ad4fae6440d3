-- The entries of a table as they are tried.
use Rattle.std.specs.Prelude.{◌≡◌, ◌&&◌, ℕ, All, Bool, List, Some, map, nat_eq, slice_get}
use Rattle.std.specs.declared.cmp.Reverse.{Reverse}
use Rattle.of10_match.specs.Field.{takes_by}
use Rattle.of10_match.specs.Header.{IsValidHeader}
use Rattle.of10_match.specs.Match.{takes}
use Rattle.of10_match.specs.declared.header.Header.{Header}
use Rattle.flow_table.specs.declared.entry.Entry.{Entry}
use Rattle.header_classes.specs.Cell.{in_cell}
use Rattle.header_classes.specs.Order.{IsOrder}
use Rattle.header_classes.specs.declared.trials.Trials.{Trials}
use Rattle.header_classes.specs.declared.trials.Trial.{Trial}

-- whether a trial takes a packet
abbrev pub tried : ℕ → Header → Trial → Bool
tried port h trial = takes_by nat_eq trial.in_port port && in_cell trial.taken h

-- a trial is of the entry at its place: on the port that it asks for, if any, it has the headers that the entry takes
pub record IsTrialOf (entries : List Entry) (it : Trial) : Type 0 where
  pub entry : Entry
  pub here : slice_get entries it.place ≡ Some entry
  pub takes : (port : ℕ) (h : Header) → IsValidHeader h → takes entry.matches port h ≡ tried port h it

-- the trials are of all entries, in the order in which they are tried
pub record AreTrials (entries : List Entry) (trials : Trials) : Type 0 where
  pub order : List (Reverse ℕ × ℕ)
  pub is_order : IsOrder entries order
  pub places : map (λ (it : Trial). it.place) trials.trials.items ≡ map (λ (ranked : Reverse ℕ × ℕ). ranked.1) order
  pub each : All (IsTrialOf entries) trials.trials.items
