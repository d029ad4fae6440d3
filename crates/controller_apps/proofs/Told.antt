-- What a learning controller knows is what was told last.
use Rattle.std.proofs.Common.{◌≡◌, ◌∙◌, ◌==◌, ◌&&◌, ℕ, List, [], ◌∷◌, ◌++◌, Bool, true, false, Option, Some, None, cond, filter_map, fold, option_and_then, reverse, slice_get, unwrap_or, ap, inl, inr, refl, sym, subst}
use Rattle.std.proofs.lemmas.Bool.{cases_eq, eq-eqb, ne_eqb}
use Rattle.std.proofs.lemmas.Grind.{reverse_onto}
use Rattle.std.specs.FinMap.{get, get-empty}
use Rattle.std.specs.List.{cons_option}
use Rattle.std.specs.Option.{option_map_or}
use Rattle.std.specs.Ordering.{nat_cmp}
use Rattle.app_messages.specs.Sent.{Sighting, header_of, seen_in}
use Rattle.controller_api.specs.declared.item.UpItem.{UpItem}
use Rattle.controller_api.specs.declared.item.UpItem.TheVariants.{FromSwitch, Gone, Policy}
use Rattle.controller_apps.specs.Learning.{Learner, at_packet, last_told, learning, port_of, told_of, unlearnt, unmoved}
use Rattle.controller_apps.specs.Ports.{port_at, with_port, without_switch}
use Rattle.controller_apps.proofs.Tables.{port_at_forgotten, port_at_kept, port_at_other, port_at_same}
use Rattle.of10_messages.specs.declared.message.Message.TheVariants.{FeaturesReply, PacketIn}

-- ---- one item

told_nothing : (b : Bool) (x y : Option ℕ) → cond b x y ≡ unwrap_or (cond b (Some x) None) y
told_nothing true x y = refl
told_nothing false x y = refl

forgets : (learner : Learner) (t s address : ℕ) → port_at s address (without_switch t learner.known) ≡ unwrap_or (cond (t == s) (Some None) None) (port_of learner s address)
forgets learner t s address =
    elim (cases_eq t s) [
      | inl same ↦ rw (eq-eqb t s same) (subst (λ n. port_at n address (without_switch t learner.known) ≡ None) same (port_at_forgotten t address learner.known))
      | inr not ↦ rw (ne_eqb t s not) (port_at_kept t s address learner.known (λ e. not (sym e)))
    ]

learns : (learner : Learner) (t source port s address : ℕ)
    → port_at s address (with_port t source port learner.known) ≡ unwrap_or (cond (t == s && address == source) (Some (Some port)) None) (port_of learner s address)
learns learner t source port s address =
    elim (cases_eq t s) [
      | inl same ↦ rw (eq-eqb t s same) (
          subst (λ n. port_at n address (with_port t source port learner.known) ≡ cond (address == source) (Some port) (port_at n address learner.known)) same (port_at_same t source port address learner.known)
          ∙ told_nothing (address == source) (Some port) (port_at s address learner.known)
          )
      | inr not ↦ rw (ne_eqb t s not) (port_at_other t s source port address learner.known (λ e. not (sym e)))
    ]

hears_packet : (learner : Learner) (t s address : ℕ) (seen : Option Sighting)
    → port_of (option_map_or (λ seen. at_packet t seen learner) seen (unmoved learner)).state s address
    ≡ unwrap_or (option_and_then (λ seen. cond (t == s && address == (header_of seen).dl_src) (Some (Some seen.in_port)) None) seen) (port_of learner s address)
hears_packet learner t s address None = refl
hears_packet learner t s address (Some seen) = learns learner t (header_of seen).dl_src seen.in_port s address

-- after an item a port is the one that it told, if it told any
hears : (learner : Learner) (s address : ℕ) (item : UpItem) → port_of (learning learner item).state s address ≡ unwrap_or (told_of s address item) (port_of learner s address)
hears learner s address (FromSwitch t (FeaturesReply xid features)) = forgets learner t s address
hears learner s address (FromSwitch t (PacketIn xid buffer_id total_len in_port reason content)) = hears_packet learner t s address (seen_in (PacketIn xid buffer_id total_len in_port reason content))
hears learner s address (FromSwitch t _) = refl
hears learner s address (Gone t) = refl
hears learner s address (Policy deny) = refl

-- ---- all items

-- the last of a list, or what came before it
abbrev last_or : Option ℕ → List (Option ℕ) → Option ℕ
last_or before told = fold (λ b t. t) before told

one_told : (told : Option (Option ℕ)) (before : Option ℕ) (rest : List (Option ℕ)) → last_or (unwrap_or told before) rest ≡ last_or before (cons_option told rest)
one_told None before rest = refl
one_told (Some now) before rest = refl

hears_all : (s address : ℕ) (items : List UpItem) (learner : Learner)
    → port_of (fold (λ learner item. (learning learner item).state) learner items) s address ≡ last_or (port_of learner s address) (filter_map (told_of s address) items)
hears_all s address [] learner = refl
hears_all s address (item ∷ items) learner =
    hears_all s address items (learning learner item).state ∙ ap (λ before. last_or before (filter_map (told_of s address) items)) (hears learner s address item)
    ∙ one_told (told_of s address item) (port_of learner s address) (filter_map (told_of s address) items)

first_or : (ys : List (Option ℕ)) (x before : Option ℕ) → option_map_or (λ y. y) (slice_get ys 0) x ≡ option_map_or (λ y. y) (slice_get (ys ++ x ∷ []) 0) before
first_or [] x before = refl
first_or (y ∷ ys) x before = refl

last_is : (told : List (Option ℕ)) (before : Option ℕ) → last_or before told ≡ option_map_or (λ y. y) (slice_get (reverse told) 0) before
last_is [] before = refl
last_is (x ∷ told) before =
    last_is told x ∙ first_or (reverse told) x before ∙ ap (λ (ys : List (Option ℕ)). option_map_or (λ y. y) (slice_get ys 0) before) (sym (reverse_onto told x []))

or_none : (o : Option (Option ℕ)) → option_map_or (λ y. y) o None ≡ option_and_then (λ y. y) o
or_none None = refl
or_none (Some y) = refl

pub knows_last : (idle : ℕ) (items : List UpItem) (s address : ℕ) → port_of (fold (λ learner item. (learning learner item).state) (unlearnt idle) items) s address ≡ last_told s address items
knows_last idle items s address =
    let told = filter_map (told_of s address) items in
    hears_all s address items (unlearnt idle) ∙ ap (λ before. last_or before told) (ap (option_and_then (λ there. get there address)) (get-empty nat_cmp s))
    ∙ last_is told None ∙ or_none (slice_get (reverse told) 0)
