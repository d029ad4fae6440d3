-- The controllers that the applications of a document make.
use Rattle.std.specs.Prelude.{List, map}
use Rattle.controller_apps.specs.Firewall.{wall_of}
use Rattle.controller_apps.specs.Learning.{unlearnt}
use Rattle.route_app.specs.Routing.{router_of}
use Rattle.route_app.specs.declared.map.Map.{Map}
use Rattle.controller_host.specs.Hosting.{Hosting, hosting_of}
use Rattle.controller_host.specs.declared.app.App.{App}
use Rattle.controller_host.specs.declared.app.App.TheVariants as app
use Rattle.scenario_doc.specs.declared.plans.Plan.{Plan}
use Rattle.scenario_doc.specs.declared.plans.Plan.TheVariants as plan

-- the application of a plan, as it starts in a network
abbrev pub app_of : Map → Plan → App
app_of network (plan.Learning idle) = app.Learning (unlearnt idle)
app_of network (plan.Firewall reinstall rules) = app.Firewall (wall_of reinstall rules)
app_of network (plan.Routing clear_on_down) = app.Routing (router_of clear_on_down network)

-- a controller of such applications
abbrev pub host_by : Map → List Plan → Hosting
host_by network plans = hosting_of (map (app_of network) plans)
