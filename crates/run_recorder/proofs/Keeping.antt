-- A deed that is due stays so while its worker only looks.
use Rattle.std.proofs.Common.{◌≡◌, ℕ, ◌<◌, ◌≤◌, length, map, take, slice_get, Some, inl, inr, ap, sym, ◌∙◌, subst, arith}
use Rattle.std.proofs.lemmas.Bool.{cases_lt}
use Rattle.std.proofs.lemmas.List.{take-append-le}
use Rattle.controller_api.specs.Reaction.{Reaction}
use Rattle.controller_api.specs.declared.item.UpItem.{UpItem}
use Rattle.machine_setup.specs.declared.setup.Setup.{Setup}
use Rattle.turn_book.specs.Places.{times}
use Rattle.turn_book.proofs.Begins.{prefix_back, prefix_length}
use Rattle.event_world.specs.Answers.{first_event_of}
use Rattle.event_world.specs.Events.{actor_of}
use Rattle.event_world.specs.World.{after_all}
use Rattle.event_machine.specs.Legal.{world_before}
use Rattle.event_machine.specs.declared.trace.Entry.{Entry}
use Rattle.run_recorder.specs.Answers.{HasActor, IsDue, IsLook, own_places}
use Rattle.run_recorder.specs.Recording.{IsWorking, Working}
use Rattle.run_recorder.specs.declared.task.Deed.{Deed}

module _ {C : Type 0} (react : C → UpItem → Reaction C) (first : C → C) where
  pub look_keeps_due : (old new : Working C) (deed : Deed) → IsWorking old → IsDue react first old deed → IsLook old new → IsDue react first new deed
  look_keeps_due old new deed working due look =
      let who = actor_of deed.task.event in
      let setup : new.setup ≡ old.setup = ap (λ (w : Working C). w.setup) look.view in
      let own : own_places new ≡ own_places old = ap (λ (w : Working C). own_places w) look.view in
      let longer = prefix_length old.view.seen new.view.seen look.begins in
      let before = due.place in
      let earlier : take deed.task.place new.view.seen ≡ take deed.task.place old.view.seen =
      sym (ap (λ list. take deed.task.place list) look.begins.1) ∙ take-append-le deed.task.place old.view.seen look.begins.0 before in
      let offered : first_event_of old.setup (world_before react first old.setup new.view.seen deed.task.place).shared who ≡ Some deed.task.event =
      ap (λ list. first_event_of old.setup (after_all react first old.setup (map (λ entry. entry.event) list)).shared who) earlier ∙ due.offered in
      let since = λ (at : ℕ) (entry : Entry) (from : deed.task.place ≤ at) (there : slice_get new.view.seen at ≡ Some entry) (mine : 0 < times at (own_places new)).
      let mine_before : 0 < times at (own_places old) = subst (λ places. 0 < times at places) own mine in
      let seen_there : slice_get old.view.seen at ≡ Some entry = elim (cases_lt at (length old.view.seen)) [
        | inl lt ↦ prefix_back old.view.seen new.view.seen at entry look.begins lt there
        | inr past ↦ let none = working.marked.within at past in absurd (omega arith)
      ] in
      due.since at entry from seen_there mine_before in
      record {
        has = subst (λ (w : Working C). HasActor w who) (sym look.view) due.has;
        place = omega arith;
        offered = subst (λ (setup : Setup C). first_event_of setup (world_before react first setup new.view.seen deed.task.place).shared who ≡ Some deed.task.event) (sym setup) offered;
        since = since;
      }
