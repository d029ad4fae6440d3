-- What the shared part of a world stands for.
use Rattle.pool_book.specs.Pools.{queues}
use Rattle.event_world.specs.Mail.{Shared}
use Rattle.event_world.specs.declared.shell.Shell.{Shell}

-- the shared part without the room in its pools
abbrev pub shared_of : Shell → Shared
shared_of shell = record {
  status = shell.status;
  pools = queues shell.pools;
  received = shell.received;
  events = shell.events;
  inputs = shell.inputs;
}
