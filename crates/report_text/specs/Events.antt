-- The words of events. Numbers are decimal.
use Rattle.std.specs.Prelude.{ℕ, List, [], ◌∷◌, ◌++◌, codes}
use Rattle.std.specs.Fmt.{decimal}
use Rattle.event_world.specs.declared.event.Event.{Event}
use Rattle.event_world.specs.declared.event.Event.TheVariants.{In, Ctl, Pkt, Note, App, Admin, Recv}

-- the end of a line
abbrev pub line_feed : List ℕ
line_feed = 10 ∷ []

-- The words of an event: an input by its position, and any other event by its pool and the item's number. A pool is told by
-- who takes from it, and by the port or the switch from which its items come, where there are several.
abbrev pub event_text : Event → List ℕ
event_text (In position) = codes "in " ++ decimal position
event_text (Ctl s item) = codes "ctl " ++ (decimal s ++ (codes " " ++ decimal item))
event_text (Pkt s p item) = codes "pkt " ++ (decimal s ++ (codes " " ++ (decimal p ++ (codes " " ++ decimal item))))
event_text (Note s item) = codes "note " ++ (decimal s ++ (codes " " ++ decimal item))
event_text (App c s item) = codes "app " ++ (decimal c ++ (codes " " ++ (decimal s ++ (codes " " ++ decimal item))))
event_text (Admin c item) = codes "admin " ++ (decimal c ++ (codes " " ++ decimal item))
event_text (Recv h item) = codes "recv " ++ (decimal h ++ (codes " " ++ decimal item))
