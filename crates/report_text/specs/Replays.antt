-- The lines of a replay. Each ends with a line feed.
use Rattle.std.specs.Prelude.{ℕ, List, ◌++◌, length, flat_map, codes, Option, Some, None}
use Rattle.std.specs.Fmt.{decimal}
use Rattle.std.specs.List.{enumerate_from}
use Rattle.event_world.specs.Events.{number_of}
use Rattle.event_world.specs.declared.event.Event.{Event}
use Rattle.causal_replay.specs.declared.replayed.Taken.{Taken}
use Rattle.causal_replay.specs.declared.replayed.Why.{Why}
use Rattle.causal_replay.specs.declared.replayed.Why.TheVariants.{Input, Expected, Extra}
use Rattle.report_text.specs.Events.{event_text, line_feed}

-- Why an event was taken, and which: an input by its position, an event that an entry expects with the entry's place, and
-- one that no entry expects.
abbrev pub reason_text : Why → Event → List ℕ
reason_text Input event = codes "input " ++ decimal (number_of event)
reason_text (Expected place) event = codes "expected " ++ (decimal place ++ (codes " " ++ event_text event))
reason_text Extra event = codes "extra " ++ event_text event

-- step number j of a replay
abbrev pub step_line : ℕ → Taken → List ℕ
step_line j step = decimal j ++ (codes " " ++ (reason_text step.why step.event ++ line_feed))

-- how many steps a replay has
abbrev pub head_line : ℕ → List ℕ
head_line count = codes "replay " ++ (decimal count ++ (codes " steps" ++ line_feed))

-- the lines of the steps, in order
abbrev pub step_lines : List Taken → List ℕ
step_lines run = flat_map (λ step. step_line step.0 step.1) (enumerate_from 0 run)

-- how many entries never came
abbrev pub absent_line : List ℕ → List ℕ
absent_line absent = codes "absent " ++ (decimal (length absent) ++ line_feed)

-- the invariant that is violated at the end, by its place in the scenario, if there is one
abbrev pub end_line : Option ℕ → List ℕ
end_line None = codes "end holds" ++ line_feed
end_line (Some invariant) = codes "end violated " ++ (decimal invariant ++ line_feed)

-- a replay: its steps, how many entries are absent from it, and its end
abbrev pub replay_text : List Taken → List ℕ → Option ℕ → List ℕ
replay_text run absent end = head_line (length run) ++ (step_lines run ++ (absent_line absent ++ end_line end))
