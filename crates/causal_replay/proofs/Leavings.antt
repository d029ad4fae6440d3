-- What leaves a switch is alike where it is equal but for the numbers of the entries of which it tells.
use Rattle.std.proofs.Common.{◌≡◌, ◌∙◌, ℕ, List, [], ◌∷◌, ◌++◌, map, fold, refl, sym, ap}
use Rattle.std.proofs.lemmas.List.{map-append}
use Rattle.of10_messages.specs.declared.message.Message.{Message}
use Rattle.switch_core.specs.Leaving.{Sent, leave, leave_all, nothing_sent, told}
use Rattle.switch_core.specs.Step.{Step, sends}
use Rattle.switch_core.specs.declared.leaving.Leaving.{Leaving}
use Rattle.switch_core.specs.declared.leaving.Leaving.TheVariants.{Told, Emitted}
use Rattle.switch_core.specs.declared.leaving.News.{News}
use Rattle.switch_core.specs.declared.leaving.News.TheVariants.{Greeting, Arrival, Removal, PortChange}
use Rattle.switch_core.specs.declared.state.State.{State}
use Rattle.causal_replay.specs.Congruence.{masked_answer, masked_entry, masked_state}

-- the switch that a step comes to and what it sends, without the numbers
abbrev pub masked_step : Step → Step
masked_step step = record { state = masked_state step.state; up = map masked_answer step.up; out = step.out }

abbrev masked_news : News → News
masked_news (Removal entry reason now) = Removal (masked_entry entry) reason now
masked_news news = news

-- what leaves, without the numbers of an entry
abbrev pub masked_leaving : Leaving → Leaving
masked_leaving (Told news) = Told (masked_news news)
masked_leaving (Emitted port packet) = Emitted port packet

-- a message tells nothing more of the numbers
told_masked : (xid : ℕ) (news : News) → masked_answer (told xid news) ≡ masked_answer (told 0 (masked_news news))
told_masked xid Greeting = refl
told_masked xid (Arrival port reason packet) = refl
told_masked xid (Removal entry reason now) = refl
told_masked xid (PortChange port) = refl

abbrev masked_sent : Sent → Sent
masked_sent sent = record { up = map masked_answer sent.up; out = sent.out; next_xid = 0 }

-- one thing more, to what is masked
abbrev put : Sent → Leaving → Sent
put sent (Told news) = record { up = sent.up ++ masked_answer (told 0 news) ∷ []; out = sent.out; next_xid = 0 }
put sent (Emitted port packet) = record { up = sent.up; out = sent.out ++ (port, packet) ∷ []; next_xid = 0 }

leave_masked : (sent : Sent) (l : Leaving) → masked_sent (leave sent l) ≡ put (masked_sent sent) (masked_leaving l)
leave_masked sent (Told news) =
    let message = told sent.next_xid news in
    let up : map masked_answer (sent.up ++ message ∷ []) ≡ map masked_answer sent.up ++ masked_answer (told 0 (masked_news news)) ∷ [] =
    map-append masked_answer sent.up (message ∷ []) ∙ ap (λ (m : Message). map masked_answer sent.up ++ m ∷ []) (told_masked sent.next_xid news) in
    λ i. record { up = up i; out = sent.out; next_xid = 0 }
leave_masked sent (Emitted port packet) = refl

leave_all_masked : (ls : List Leaving) (sent : Sent) → masked_sent (leave_all sent ls) ≡ fold put (masked_sent sent) (map masked_leaving ls)
leave_all_masked [] sent = refl
leave_all_masked (l ∷ ls) sent =
    leave_all_masked ls (leave sent l) ∙ ap (λ (w : Sent). fold put w (map masked_leaving ls)) (leave_masked sent l)

pub sends_alike : (s t : State) (ls ks : List Leaving) → masked_state s ≡ masked_state t → map masked_leaving ls ≡ map masked_leaving ks
    → masked_step (sends s ls) ≡ masked_step (sends t ks)
sends_alike s t ls ks same leaving =
    let none : Sent = record { up = []; out = []; next_xid = 0 } in
    let sent : masked_sent (leave_all (nothing_sent s.next_xid) ls) ≡ masked_sent (leave_all (nothing_sent t.next_xid) ks) =
    leave_all_masked ls (nothing_sent s.next_xid) ∙ (ap (λ (w : List Leaving). fold put none w) leaving ∙ sym (leave_all_masked ks (nothing_sent t.next_xid))) in
    λ i. record { state = same i; up = (sent i).up; out = (sent i).out }
