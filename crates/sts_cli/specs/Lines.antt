-- The lines of answers. Each ends with a line feed, and numbers are decimal.
use Rattle.std.specs.Prelude.{ℕ, List, [], ◌++◌, length, codes}
use Rattle.std.specs.Fmt.{decimal}
use Rattle.event_machine.specs.declared.legal.LogNo.{LogNo}
use Rattle.event_machine.specs.declared.legal.LogNo.TheVariants.{NotLegal, WorkerOrder, EndWrong, OutOfMemory}
use Rattle.event_machine.specs.declared.trace.End.{End}
use Rattle.event_machine.specs.declared.trace.End.TheVariants.{Quiet, Full}
use Rattle.event_machine.specs.declared.trace.Trace.{Trace}
use Rattle.report_text.specs.Events.{line_feed}

-- a document that is refused: the rule's number, and where it is broken
abbrev pub refused_line : ℕ → List ℕ → List ℕ
refused_line number path = codes "refused " ++ (decimal number ++ (codes " at " ++ (path ++ line_feed)))

-- a log that is no legal run: what is wrong, and at which entry; want of memory writes nothing
abbrev pub wrong_line : LogNo → List ℕ
wrong_line (NotLegal at) = codes "not legal at " ++ (decimal at ++ line_feed)
wrong_line (WorkerOrder at want has) = codes "worker order at " ++ (decimal at ++ (codes " want " ++ (decimal want
    ++ (codes " has " ++ (decimal has ++ line_feed)))))
wrong_line EndWrong = codes "end wrong" ++ line_feed
wrong_line OutOfMemory = []

-- that no invariant is violated
abbrev pub calm_line : List ℕ
calm_line = codes "no violation" ++ line_feed

-- which scenario was made
abbrev pub made_line : ℕ → ℕ → List ℕ
made_line seed size = codes "gen " ++ (decimal seed ++ (codes " " ++ (decimal size ++ line_feed)))

-- the word for the end of a run
abbrev pub end_word : End → List ℕ
end_word Quiet = codes "quiet"
end_word Full = codes "full"

-- how many entries a run has, and how it ends
abbrev pub run_line : Trace → List ℕ
run_line trace = codes "entries " ++ (decimal (length trace.entries) ++ (codes " end " ++ (end_word trace.end ++ line_feed)))
