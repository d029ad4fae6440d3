-- A controller hears the first item of its pool, and the world becomes what it should.
use Rattle.std.proofs.Common.{◌≡◌, ◌∙◌, ℕ, List, ◌++◌, ◌<◌, ◌≤◌, ◌^◌, Some, ap, arith, length, refl, slice_get, slice_set, subst, subst₂, sym}
use Rattle.controller_api.specs.Reaction.{AreValidMessages, CountsPolicies, IsValidUpItem}
use Rattle.of10_messages.specs.declared.message.Message.{Message}
use Rattle.pool_book.specs.Pools.{queues}
use Rattle.event_world.specs.Mail.{Shared, mail_down}
use Rattle.event_world.specs.Room.{CanNumber}
use Rattle.event_world.specs.Shell.{shared_of}
use Rattle.event_world.specs.World.{Situation, delivered, news_at, taken}
use Rattle.event_world.proofs.Giving.{few_policies, fits_heard, heard_was, hears, is_some_news, number_within, same_news, sent_numbers}
use Rattle.event_world.proofs.Steps.{on_err, place_within, same_state, stands, unheard}
use Rattle.event_world.proofs.world.World.hear.Goals as goal

pub heard-requires-after_bounds : goal.heard-requires-after_bounds
heard-requires-after_bounds g c κs within =
    let world = c.args.self.now in
    let setup = c.args.setup.now in
    let h = hears setup.topology (length setup.controllers) c.args.c c.args.name world.shared c.requires.fits.shared c.requires.name c.requires.head in
    is_some_news (length setup.controllers) c.args.c c.args.name world.shared h

pub bounds-deref-at : goal.bounds-deref-at
bounds-deref-at g c =
    let world = c.args.self.now in
    let setup = c.args.setup.now in
    let h = hears setup.topology (length setup.controllers) c.args.c c.args.name world.shared c.requires.fits.shared c.requires.name c.requires.head in
    let inside : Situation g.row.C.Denot = record { shared = shared_of c.self.inside.shell; switches = c.self.inside.switches; controllers = c.self.inside.controllers } in
    let same : inside ≡ world = c.self.view_is in
    let within = number_within world.controllers c.args.c (length setup.controllers) h.there c.requires.fits.controllers in
    let list : c.self.inside.controllers ≡ world.controllers = ap (λ (w : Situation g.row.C.Denot). w.controllers) same in
    place_within c.deref.result.now world.controllers c.from-at.result c.args.c (c.deref.ensures ∙ list) c.from-at.ensures within

pub offset_bounds-deref-at : goal.offset_bounds-deref-at
offset_bounds-deref-at g c =
    let below = bounds-deref-at g c in omega arith

pub send-requires-clause-item : goal.send-requires-clause-item
send-requires-clause-item g c =
    let world = c.args.self.now in
    let setup = c.args.setup.now in
    let h = hears setup.topology (length setup.controllers) c.args.c c.args.name world.shared c.requires.fits.shared c.requires.name c.requires.head in
    subst IsValidUpItem (same_news (length setup.controllers) c.args.c c.args.name world.shared h c.in_ok-item.item c.in_ok-item.ensures) h.valid

pub send-requires-clause-policies : goal.send-requires-clause-policies
send-requires-clause-policies g c =
    let world = c.args.self.now in
    let setup = c.args.setup.now in
    let h = hears setup.topology (length setup.controllers) c.args.c c.args.name world.shared c.requires.fits.shared c.requires.name c.requires.head in
    let inside : Situation g.row.C.Denot = record { shared = shared_of c.self.inside.shell; switches = c.self.inside.switches; controllers = c.self.inside.controllers } in
    let same : inside ≡ world = c.self.view_is in
    let within = number_within world.controllers c.args.c (length setup.controllers) h.there c.requires.fits.controllers in
    let list : c.self.inside.controllers ≡ world.controllers = ap (λ (w : Situation g.row.C.Denot). w.controllers) same in
    let item = c.in_ok-item.item in
    let state = c.index-deref-at.result in
    let at : slice_get world.controllers c.args.c ≡ Some state = stands c.deref.result.now world.controllers c.from-at.result c.args.c state (c.deref.ensures ∙ list) c.from-at.ensures within c.index-deref-at.is in
    few_policies (g.C.Controller.policies state) _ world.shared.inputs (c.requires.fits.each_controller c.args.c state at) c.requires.fits.inputs

pub item_mut-requires : goal.item_mut-requires
item_mut-requires g c =
    let world = c.args.self.now in
    let setup = c.args.setup.now in
    let h = hears setup.topology (length setup.controllers) c.args.c c.args.name world.shared c.requires.fits.shared c.requires.name c.requires.head in
    let inside : Situation g.row.C.Denot = record { shared = shared_of c.self.inside.shell; switches = c.self.inside.switches; controllers = c.self.inside.controllers } in
    let same : inside ≡ world = c.self.view_is in
    let within = number_within world.controllers c.args.c (length setup.controllers) h.there c.requires.fits.controllers in
    let list : c.self.inside.controllers ≡ world.controllers = ap (λ (w : Situation g.row.C.Denot). w.controllers) same in
    place_within c.self.inside.controllers world.controllers c.from-at.result c.args.c list c.from-at.ensures within

pub hear-requires-clause-item : goal.hear-requires-clause-item
hear-requires-clause-item g c =
    let world = c.args.self.now in
    let setup = c.args.setup.now in
    let h = hears setup.topology (length setup.controllers) c.args.c c.args.name world.shared c.requires.fits.shared c.requires.name c.requires.head in
    subst IsValidUpItem (same_news (length setup.controllers) c.args.c c.args.name world.shared h c.in_ok-item.item c.in_ok-item.ensures) h.valid

pub hear-requires-clause-policies : goal.hear-requires-clause-policies
hear-requires-clause-policies g c =
    let world = c.args.self.now in
    let setup = c.args.setup.now in
    let h = hears setup.topology (length setup.controllers) c.args.c c.args.name world.shared c.requires.fits.shared c.requires.name c.requires.head in
    let inside : Situation g.row.C.Denot = record { shared = shared_of c.self.inside.shell; switches = c.self.inside.switches; controllers = c.self.inside.controllers } in
    let same : inside ≡ world = c.self.view_is in
    let within = number_within world.controllers c.args.c (length setup.controllers) h.there c.requires.fits.controllers in
    let list : c.self.inside.controllers ≡ world.controllers = ap (λ (w : Situation g.row.C.Denot). w.controllers) same in
    let item = c.in_ok-item.item in
    let state = c.index-deref-at.result in
    let at : slice_get world.controllers c.args.c ≡ Some state = stands c.deref.result.now world.controllers c.from-at.result c.args.c state (c.deref.ensures ∙ list) c.from-at.ensures within c.index-deref-at.is in
    let before = c.item_mut.result.now in
    let unchanged : before ≡ state = same_state c.self.inside.controllers world.controllers c.from-at.result c.args.c before state list c.from-at.ensures c.item_mut.ensures.value at in
    subst (λ (state : g.row.C.Denot). g.C.Controller.policies state < 2 ^ 24) (sym unchanged)
    (few_policies (g.C.Controller.policies state) _ world.shared.inputs (c.requires.fits.each_controller c.args.c state at) c.requires.fits.inputs)

pub hear-requires-clause-sent : goal.hear-requires-clause-sent
hear-requires-clause-sent g c =
    let world = c.args.self.now in
    let setup = c.args.setup.now in
    let h = hears setup.topology (length setup.controllers) c.args.c c.args.name world.shared c.requires.fits.shared c.requires.name c.requires.head in
    let inside : Situation g.row.C.Denot = record { shared = shared_of c.self.inside.shell; switches = c.self.inside.switches; controllers = c.self.inside.controllers } in
    let same : inside ≡ world = c.self.view_is in
    let within = number_within world.controllers c.args.c (length setup.controllers) h.there c.requires.fits.controllers in
    let list : c.self.inside.controllers ≡ world.controllers = ap (λ (w : Situation g.row.C.Denot). w.controllers) same in
    let item = c.in_ok-item.item in
    let state = c.index-deref-at.result in
    let at : slice_get world.controllers c.args.c ≡ Some state = stands c.deref.result.now world.controllers c.from-at.result c.args.c state (c.deref.ensures ∙ list) c.from-at.ensures within c.index-deref-at.is in
    let before = c.item_mut.result.now in
    let unchanged : before ≡ state = same_state c.self.inside.controllers world.controllers c.from-at.result c.args.c before state list c.from-at.ensures c.item_mut.ensures.value at in
    c.list-2.ensures.list ∙ c.in_ok-send.ensures.sent ∙ ap (λ (out : List (ℕ × Message)). out ++ (g.C.Controller.react state item).sent) c.new-out.ensures
    ∙ ap (λ (state : g.row.C.Denot). (g.C.Controller.react state item).sent) (sym unchanged)

pub returns-in_err-hear-clause-err : goal.returns-in_err-hear-clause-err
returns-in_err-hear-clause-err g c =
    let world = c.args.self.now in
    let inside : Situation g.row.C.Denot = record { shared = shared_of c.self.inside.shell; switches = c.self.inside.switches; controllers = c.self.inside.controllers } in
    let same : inside ≡ world = c.self.view_is in
    on_err c.from_residual-in_err-hear.result
    (unheard world inside (shared_of c.make_room_down.new.self) c.from-at.result c.item_mut.result.now c.hear.new.self same c.in_ok-make_room_down.ensures.shared c.item_mut.ensures.value c.in_err-hear.ensures.err)

pub exchange_down-requires-clause-numbers : goal.exchange_down-requires-clause-numbers
exchange_down-requires-clause-numbers g c =
    let world = c.args.self.now in
    let setup = c.args.setup.now in
    let h = hears setup.topology (length setup.controllers) c.args.c c.args.name world.shared c.requires.fits.shared c.requires.name c.requires.head in
    let inside : Situation g.row.C.Denot = record { shared = shared_of c.self.inside.shell; switches = c.self.inside.switches; controllers = c.self.inside.controllers } in
    let same : inside ≡ world = c.self.view_is in
    let item = c.in_ok-item.item in
    let state = c.index-deref-at.result in
    let reaction = g.C.Controller.react state item in
    let sent : c.into_list.result ≡ reaction.sent = c.into_list.ensures.list ∙ c.in_ok-send.ensures.sent ∙ ap (λ (out : List (ℕ × Message)). out ++ reaction.sent) c.new-out.ensures in
    let status = c.make_room_down.new.self.status in
    let few : length c.into_list.result < 2 ^ 32 = subst (λ (sent : List (ℕ × Message)). length sent < 2 ^ 32) (sym sent) c.in_ok-send.ensures.few in
    let pools : queues c.make_room_down.new.self.pools ≡ world.shared.pools = ap (λ (shared : Shared). shared.pools) c.in_ok-make_room_down.ensures.shared ∙ ap (λ (w : Situation g.row.C.Denot). w.shared.pools) same in
    subst (CanNumber (length (mail_down setup.topology status c.args.c c.into_list.result))) (sym pools)
    (sent_numbers setup.topology (length setup.controllers) c.args.c status c.into_list.result (mail_down setup.topology status c.args.c c.into_list.result) world.shared c.requires.fits.shared c.requires.events few refl)

pub returns-clause-ok : goal.returns-clause-ok
returns-clause-ok g c =
    let world = c.args.self.now in
    let setup = c.args.setup.now in
    let h = hears setup.topology (length setup.controllers) c.args.c c.args.name world.shared c.requires.fits.shared c.requires.name c.requires.head in
    let inside : Situation g.row.C.Denot = record { shared = shared_of c.self.inside.shell; switches = c.self.inside.switches; controllers = c.self.inside.controllers } in
    let same : inside ≡ world = c.self.view_is in
    let within = number_within world.controllers c.args.c (length setup.controllers) h.there c.requires.fits.controllers in
    let list : c.self.inside.controllers ≡ world.controllers = ap (λ (w : Situation g.row.C.Denot). w.controllers) same in
    let item = c.in_ok-item.item in
    let state = c.index-deref-at.result in
    let at : slice_get world.controllers c.args.c ≡ Some state = stands c.deref.result.now world.controllers c.from-at.result c.args.c state (c.deref.ensures ∙ list) c.from-at.ensures within c.index-deref-at.is in
    let before = c.item_mut.result.now in
    let unchanged : before ≡ state = same_state c.self.inside.controllers world.controllers c.from-at.result c.args.c before state list c.from-at.ensures c.item_mut.ensures.value at in
    let reaction = g.C.Controller.react state item in
    let sent : c.into_list.result ≡ reaction.sent = c.into_list.ensures.list ∙ c.in_ok-send.ensures.sent ∙ ap (λ (out : List (ℕ × Message)). out ++ reaction.sent) c.new-out.ensures in
    let is : news_at c.args.name world.shared ≡ Some item = c.in_ok-item.ensures in
    let shared = c.exchange_down.ensures
    ∙ ap (λ (shared : Shared). delivered (mail_down setup.topology shared.status c.args.c c.into_list.result) (taken c.args.name shared)) c.in_ok-make_room_down.ensures.shared
    ∙ ap (λ (sent : List (ℕ × Message)). delivered (mail_down setup.topology c.self.inside.shell.status c.args.c sent) (taken c.args.name (shared_of c.self.inside.shell))) sent in
    let states = ap (λ (n : ℕ). slice_set c.self.inside.controllers n c.hear.new.self) c.from-at.ensures
    ∙ ap (slice_set c.self.inside.controllers c.args.c) (c.in_ok-hear.ensures.state ∙ ap (λ (state : g.row.C.Denot). (g.C.Controller.react state item).state) unchanged) in
    heard_was g.C.Controller.react setup.topology (length setup.controllers) c.args.c c.args.name state item world inside (shared_of c.exchange_down.new.self) (slice_set c.self.inside.controllers c.from-at.result c.hear.new.self) same h is at shared states

pub returns-clause-fits : goal.returns-clause-fits
returns-clause-fits g c =
    let world = c.args.self.now in
    let setup = c.args.setup.now in
    let h = hears setup.topology (length setup.controllers) c.args.c c.args.name world.shared c.requires.fits.shared c.requires.name c.requires.head in
    let inside : Situation g.row.C.Denot = record { shared = shared_of c.self.inside.shell; switches = c.self.inside.switches; controllers = c.self.inside.controllers } in
    let same : inside ≡ world = c.self.view_is in
    let within = number_within world.controllers c.args.c (length setup.controllers) h.there c.requires.fits.controllers in
    let list : c.self.inside.controllers ≡ world.controllers = ap (λ (w : Situation g.row.C.Denot). w.controllers) same in
    let item = c.in_ok-item.item in
    let state = c.index-deref-at.result in
    let at : slice_get world.controllers c.args.c ≡ Some state = stands c.deref.result.now world.controllers c.from-at.result c.args.c state (c.deref.ensures ∙ list) c.from-at.ensures within c.index-deref-at.is in
    let before = c.item_mut.result.now in
    let unchanged : before ≡ state = same_state c.self.inside.controllers world.controllers c.from-at.result c.args.c before state list c.from-at.ensures c.item_mut.ensures.value at in
    let reaction = g.C.Controller.react state item in
    let sent : c.into_list.result ≡ reaction.sent = c.into_list.ensures.list ∙ c.in_ok-send.ensures.sent ∙ ap (λ (out : List (ℕ × Message)). out ++ reaction.sent) c.new-out.ensures in
    let valid : AreValidMessages reaction.sent = subst AreValidMessages sent c.into_list.ensures.valid in
    let counts : CountsPolicies item (g.C.Controller.policies state) (g.C.Controller.policies reaction.state) =
    subst₂ (λ (was after : g.row.C.Denot). CountsPolicies item (g.C.Controller.policies was) (g.C.Controller.policies after)) unchanged
    (c.in_ok-hear.ensures.state ∙ ap (λ (state : g.row.C.Denot). (g.C.Controller.react state item).state) unchanged) c.in_ok-hear.ensures.policies in
    fits_heard g.C.Controller.react g.C.Controller.policies setup c.args.c c.args.name state item world _ h c.requires.fits c.in_ok-item.ensures at valid c.in_ok-send.ensures.few counts (returns-clause-ok g c)
