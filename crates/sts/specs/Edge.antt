-- What the process makes of its words and of a status.
use Rattle.std.specs.Prelude.{ℕ, ◌==◌, List, Option, Some, None, codes, if◌then◌else◌}

-- the line of help on standard error for a status that writes nothing, or no more than a part
abbrev pub help_of : ℕ → Option (List ℕ)
help_of code =
    if code == 2 then Some (codes "usage:\n  sts find < SCENARIO     the log of a run, its verdicts and, where an invariant is violated, the inputs that are enough for it\n  sts record < SCENARIO   the log of a run\n  sts check < LOG         its invariants judged over every packet header\n  sts replay < LOG        its replay with all inputs\n  sts reduce < LOG        the inputs that are enough for the first invariant that is violated at its end\n  sts gen SEED SIZE       what a run of a made-up scenario comes to")
    else if code == 5 then Some (codes "reading standard input failed")
    else if code == 6 then Some (codes "writing standard output failed")
    else if code == 7 then Some (codes "out of memory")
    else if code == 8 then Some (codes "the input is longer than 16,777,216 bytes")
    else None
