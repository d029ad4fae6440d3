-- A fresh host has no policies.
use Rattle.std.proofs.Common.{◌∙◌, List, ap}
use Rattle.controller_host.specs.Hosting.{policies_of}
use Rattle.controller_host.specs.declared.app.App.{App}
use Rattle.controller_host.proofs.Bounds.{none_fresh}
use Rattle.controller_host.proofs.host.HostController.fresh.Goals as goal

pub returns-clause-policies : goal.returns-clause-policies
returns-clause-policies c = ap (λ (apps : List App). policies_of (record { apps = apps; xid = 1; cookie = 1 })) c.in_ok-apps.ensures ∙ none_fresh c.as_slice.result.now
