-- What an application needs to go back to the state before an item.
use Rattle.std.specs.Prelude.{Bool, true, false}
use Rattle.controller_api.specs.declared.item.UpItem.{UpItem}
use Rattle.controller_apps.specs.Firewall.{IsWall, joined_before}
use Rattle.controller_apps.specs.Learning.{is_packet, known_before}
use Rattle.controller_host.specs.declared.app.App.{App}
use Rattle.controller_host.specs.declared.app.App.TheVariants as app
use Rattle.controller_host.specs.declared.app.Before.{Before}
use Rattle.controller_host.specs.declared.app.Before.TheVariants as before

-- what holds of every application
abbrev pub IsApp : App → Type 0
IsApp (app.Learning learner) = Unit {0}
IsApp (app.Firewall wall) = IsWall wall
IsApp (app.Routing router) = Unit {0}

-- whether an application may want memory where it hears an item
abbrev pub wants_memory : App → UpItem → Bool
wants_memory (app.Learning learner) item = is_packet item
wants_memory (app.Firewall wall) item = true
wants_memory (app.Routing router) item = false

-- what there was where an item changes an application
abbrev pub before_of : App → UpItem → Before
before_of (app.Learning learner) item = before.Known (known_before learner item)
before_of (app.Firewall wall) item = before.Joined (joined_before wall item)
before_of (app.Routing router) item = before.Nothing
