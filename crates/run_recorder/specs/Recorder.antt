-- What a recorder stands for.
use Rattle.turn_book.specs.Words.{book_id}
use Rattle.run_recorder.specs.Answers.{Recorded}
use Rattle.run_recorder.specs.declared.recorder.Recorder.{Recorder}

-- the recorder's setup, the number of its workers, and its book
abbrev pub recorded : {C : Type 0} → Recorder C → Recorded C
recorded recorder = record { setup = recorder.setup.now; workers = recorder.workers; book = book_id recorder.turns }
