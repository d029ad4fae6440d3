-- Each kind of atomic step keeps the shared history.
use Rattle.std.proofs.Common.{◌≡◌, ◌≢◌, ℕ, zero, suc, ◌+◌, ◌*◌, ◌%◌, ◌<◌, ◌≤◌, eqb, Bool, true, false, true≢false, ◌⊎◌, ⊎_elim, inl, inr, List, [], ◌∷◌, ◌++◌, length, get_or, set, Option, Some, refl, ap, sym, ◌∙◌, subst, arith, length-append, eq-eqb, ne_eqb, le_refl, lt_of_not-le}
use Rattle.std.specs.Prelude.{MatchBool}
use Rattle.std.specs.List.{concat}
use mathlib.Core.List.{IsPrefix}
use mathlib.Core.Option.{none, some, some-ne-none, some-injective}
use mathlib.Core.Logic.{dite}
use native.Mathlib.Decide.{ℕ_discrete, dec_le}
use lib.ListN.{get_elem?}
use lib.Seq.{set-get_or}
use prog.Atomic.{either}
use Rattle.atomic_table.specs.Table.{State, Me, Act, step, keeps, takes, gives, Valid, carried_after, put_back, rest, stepped, opening, Allows, Splits, Joins, Final, Seen}
use Rattle.atomic_table.proofs.Lists.{at_set, set_else, at_longer}
use Rattle.turn_book.specs.declared.view.View.{View}
use Rattle.turn_book.specs.Places.{times, once_between, but_last, last_alone}
use Rattle.turn_book.specs.History.{marks_of, places_of, IsMarked, IsAway, Sits, Seated, Free, Taken, Kept}
use Rattle.turn_book.specs.Steps.{opener, having_met, won, left, committed, parent, child, both, joined_away, noted, ended, Learns, Looks, Notes, Wins, Misses, Tries, Leaves, Commits, Whole}
use Rattle.turn_book.specs.Words.{LastMarkIsFree}
use Rattle.turn_book.proofs.Sums.{times-numbers_from, length-numbers_from, between_empty, between_in, halves, length-last_alone}
use Rattle.turn_book.proofs.Begins.{prefix_self, prefix_trans, prefix_length, prefix_whole, get_below}
use Rattle.turn_book.proofs.Seats.{set_each, snoc_each, one_at, same_seated, idle_seated, all_alone, few_marks, few_places, all_places, live_marked, grown_seated, split_seated, joined_seated}

-- a word is even and odd at once
not_both : (n m : ℕ) → 2 * n + 1 ≡ m → m % 2 ≡ 0 → ⊥
not_both n m odd even = omega arith

even_twice : (n : ℕ) → (2 * n) % 2 ≡ 0
even_twice n = omega arith

-- what stood at a place is there once it was set
set_there : {A : Type 0} (xs : List A) (id : ℕ) (x y : A) → get_elem? xs id ≡ some x → get_elem? (set xs id y) id ≡ some y
set_there [] id x y e = absurd (some-ne-none x (sym e))
set_there (z ∷ xs) zero x y e = refl
set_there (z ∷ xs) (suc id) x y e = set_there xs id x y e

not_true : (b : Bool) → (b ≡ true → ⊥) → b ≡ false
not_true true never = absurd (never refl)
not_true false never = refl

single : {A : Type 0} (x y : A) (id : ℕ) → get_elem? (x ∷ []) id ≡ some y → x ≡ y
single x y zero e = some-injective x y e
single x y (suc id) e = absurd (some-ne-none y (sym e))

module _ {B E S : Type 0} (history : B → List E) (subject_of : B → S) (mark : E → ℕ) (start : ℕ) (subject : S) where
  abbrev V : Type 0
  V = View E S

  abbrev St : Type 0
  St = State (Option B) V

  abbrev M : Type 0
  M = Me (Option B) V

  abbrev Rule : St → Type 0
  Rule = Kept history subject_of mark start subject

  abbrev word : St → ℕ
  word s = get_or s.words 0 0

  abbrev Turn : List E → St → Type 0
  Turn log s = Free history subject_of subject log s ⊎ Taken log s

  abbrev Known : ℕ → List V → Type 0
  Known n views = (id : ℕ) (v : V) → get_elem? views id ≡ some v → v.live ≡ true → length v.marks ≡ 64 → n ≡ v.last

  -- the one that has the turn is another than a seat that has it not
  holder_other : (log : List E) (s : St) (t : Taken log s) (id : ℕ) (v : V) → get_elem? s.views id ≡ some v → v.holds ≡ false → t.holder ≢ id
  holder_other log s t id v at idle same =
      let there : get_elem? s.views id ≡ some t.view = subst (λ (n : ℕ). get_elem? s.views n ≡ some t.view) same t.there in
      let e = one_at s.views id v t.view at there in
      true≢false (sym t.holds ∙ (ap (λ (u : V). u.holds) (sym e) ∙ idle))

  -- the view of a seat that has not the turn changes to one that has it not
  turn_set : (log : List E) (s : St) (id : ℕ) (v w : V) → Turn log s → get_elem? s.views id ≡ some v → v.holds ≡ false → w.holds ≡ false → Turn log record { words = s.words; homes = s.homes; views = set s.views id w }
  turn_set log s id v w (inl f) at idle still = inl record {
    book = f.book;
    word = f.word;
    home = f.home;
    stands = f.stands;
    about = f.about;
    nobody = set_each (λ j u. u.holds ≡ false) s.views id w still (λ j u _ e. f.nobody j u e);
  }
  turn_set log s id v w (inr t) at idle still = inr record {
    holder = t.holder;
    view = t.view;
    word = t.word;
    away = t.away;
    there = set_else s.views id t.holder w (holder_other log s t id v at idle) ∙ t.there;
    holds = t.holds;
    live = t.live;
    met = t.met;
    alone = set_each (λ j u. u.holds ≡ true → j ≡ t.holder) s.views id w (λ holds. absurd (true≢false (sym holds ∙ still))) (λ j u _ e. t.alone j u e);
  }

  -- a view that has not the turn is added
  turn_snoc : (log : List E) (s : St) (w : V) → Turn log s → w.holds ≡ false → Turn log record { words = s.words; homes = s.homes; views = s.views ++ w ∷ [] }
  turn_snoc log s w (inl f) still = inl record {
    book = f.book;
    word = f.word;
    home = f.home;
    stands = f.stands;
    about = f.about;
    nobody = snoc_each (λ j u. u.holds ≡ false) s.views w f.nobody (λ _. still);
  }
  turn_snoc log s w (inr t) still = inr record {
    holder = t.holder;
    view = t.view;
    word = t.word;
    away = t.away;
    there = at_longer s.views (w ∷ []) t.holder t.view t.there;
    holds = t.holds;
    live = t.live;
    met = t.met;
    alone = snoc_each (λ j u. u.holds ≡ true → j ≡ t.holder) s.views w t.alone (λ _ holds. absurd (true≢false (sym holds ∙ still)));
  }

  -- a step of a seat that changes no word, no mark and no own place
  unmoved : (s : St) (r : Rule s) (id : ℕ) (v w : V) → get_elem? s.views id ≡ some v → v.holds ≡ false → w.holds ≡ false → marks_of w ≡ marks_of v → places_of w ≡ places_of v
      → w.live ≡ true → Sits mark start subject r.log w → (length w.marks ≡ 64 → word s ≡ w.last) → Rule record { words = s.words; homes = s.homes; views = set s.views id w }
  unmoved s r id v w at idle still same_marks same_places live sits last = record {
    log = r.log;
    seated = same_seated mark start subject r.log s.views id v w r.seated at same_marks same_places live sits;
    turn = turn_set r.log s id v w r.turn at idle still;
    known = set_each (λ j u. u.live ≡ true → length u.marks ≡ 64 → word s ≡ u.last) s.views id w (λ _. last) (λ j u _ e. r.known j u e);
  }

  -- the same, as the step of a load writes it
  loaded : (s : St) (id : ℕ) (cs : List (ℕ × Option B)) (w : V) → Rule record { words = s.words; homes = s.homes; views = set s.views id w } → Rule (stepped s 0 (word s) id cs w keeps)
  loaded s id cs w = subst (λ (ws : List ℕ). Rule record { words = ws; homes = s.homes; views = set s.views id w }) (sym (set-get_or s.words 0 0))

  -- the word is at least twice the history's length
  word_long : (s : St) (log : List E) → Turn log s → 2 * length log ≤ word s
  word_long s log (inl f) = let w = ap (λ (l : List ℕ). get_or l 0 0) f.word in omega arith
  word_long s log (inr t) = let w = ap (λ (l : List ℕ). get_or l 0 0) t.word in omega arith

  -- where a seat that has not the turn has all shares, nobody has it
  all_free : (s : St) (log : List E) → Seated mark start subject log s.views → (id : ℕ) (v : V) → get_elem? s.views id ≡ some v → v.live ≡ true → v.holds ≡ false → length v.marks ≡ 64 → Turn log s → Free history subject_of subject log s
  all_free s log seated id v at live idle all (inl f) = f
  all_free s log seated id v at live idle all (inr t) = absurd (all_alone mark start subject log s.views id v seated at live all t.holder t.view (holder_other log s t id v at idle) t.there t.live)

  learns : (s : St) (r : Rule s) (id : ℕ) (v : V) → get_elem? s.views id ≡ some v → v.live ≡ true → v.holds ≡ false → Learns v (word s)
  learns s r id v at live idle = record {
    all = λ all. (r.known id v at live all, (let f = all_free s r.log r.seated id v at live idle all r.turn in ap (λ (l : List ℕ). get_or l 0 0 % 2) f.word ∙ even_twice (length r.log)));
    few = few_marks mark start subject r.log s.views id v r.seated at live;
    room = let long = word_long s r.log r.turn in let few = few_places mark start subject r.log s.views id v r.seated at live in let sits = r.seated.each id v at live in let same = sits.same_start in omega arith;
    told = (r.seated.each id v at live).told_begins;
  }

  -- what a live seat knows after its step
  set_marked : (log : List E) (s : St) (id : ℕ) (v w : V) → get_elem? s.views id ≡ some v → w.live ≡ true → Seated mark start subject log (set s.views id w) → IsMarked mark w
  set_marked log s id v w at live seated = live_marked mark start subject log (set s.views id w) id w seated (set_there s.views id v w at) live

  sits_looked : (s : St) (r : Rule s) (id : ℕ) (v : V) (found : ℕ) → get_elem? s.views id ≡ some v → v.live ≡ true → Sits mark start subject r.log (having_met found v)
  sits_looked s r id v found at live = let k = r.seated.each id v at live in record {
    some_mark = k.some_mark;
    same_subject = k.same_subject;
    same_start = k.same_start;
    seen_begins = k.seen_begins;
    seen_start = k.seen_start;
    told_begins = k.told_begins;
    own_seen = k.own_seen;
    own_ascends = k.own_ascends;
    own_marked = k.own_marked;
  }

  sits_noted : (s : St) (r : Rule s) (id : ℕ) (v : V) (found : ℕ) → get_elem? s.views id ≡ some v → v.live ≡ true → Sits mark start subject r.log (noted found v)
  sits_noted s r id v found at live = let k = r.seated.each id v at live in record {
    some_mark = k.some_mark;
    same_subject = k.same_subject;
    same_start = k.same_start;
    seen_begins = k.seen_begins;
    seen_start = k.seen_start;
    told_begins = k.told_begins;
    own_seen = k.own_seen;
    own_ascends = k.own_ascends;
    own_marked = k.own_marked;
  }

  pub looks : (slots id : ℕ) (me : M) → me.0.live ≡ true → me.0.holds ≡ false → Allows Rule slots id me 0 (λ n. n) (Looks mark (step slots 0 0 0 none) me)
  looks slots id me live idle s r _ at _ =
      let w : V = having_met (word s) me.0 in
      let now = unmoved s r id me.0 w at idle idle refl refl live (sits_looked s r id me.0 (word s) at live) (λ _. refl) in
      (w, keeps, tt, loaded s id me.1 w now, (refl, learns s r id me.0 at live idle, set_marked now.log s id me.0 w at live now.seated))

  pub notes : (slots id : ℕ) (me : M) → me.0.live ≡ true → me.0.holds ≡ false → Allows Rule slots id me 0 (λ n. n) (Notes mark (step slots 0 0 0 none) me)
  notes slots id me live idle s r _ at _ =
      let w : V = noted (word s) me.0 in
      let now = unmoved s r id me.0 w at idle idle refl refl live (sits_noted s r id me.0 (word s) at live) (λ _. refl) in
      (w, keeps, tt, loaded s id me.1 w now, (refl, learns s r id me.0 at live idle, set_marked now.log s id me.0 w at live now.seated))

  -- what the seats with all shares know of a new word, where a live seat makes the step
  known_set : (s : St) (r : Rule s) (id : ℕ) (v w : V) (n : ℕ) → get_elem? s.views id ≡ some v → v.live ≡ true → n ≡ w.last → Known n (set s.views id w)
  known_set s r id v w n at live same = set_each (λ j u. u.live ≡ true → length u.marks ≡ 64 → n ≡ u.last) s.views id w (λ _ _. same)
      (λ j u apart e alive all. absurd (all_alone mark start subject r.log s.views j u r.seated e alive all id v (λ x. apart (sym x)) at live))

  won_sits : (s : St) (r : Rule s) (id : ℕ) (v : V) (found : ℕ) → get_elem? s.views id ≡ some v → v.live ≡ true → Sits mark start subject r.log (won found r.log v)
  won_sits s r id v found at live = let k = r.seated.each id v at live in let long = prefix_length v.seen r.log k.seen_begins in let was = k.seen_start in record {
    some_mark = k.some_mark;
    same_subject = k.same_subject;
    same_start = k.same_start;
    seen_begins = prefix_self r.log;
    seen_start = omega arith;
    told_begins = prefix_trans v.told v.seen r.log k.told_begins k.seen_begins;
    own_seen = λ p le. k.own_seen p (omega arith);
    own_ascends = k.own_ascends;
    own_marked = k.own_marked;
  }

  wins : (s : St) (r : Rule s) (id : ℕ) (me : M) (new : ℕ) → get_elem? s.views id ≡ some me.0 → me.0.live ≡ true → me.0.holds ≡ false → me.1 ≡ [] → new ≡ word s + 1 → word s % 2 ≡ 0 → Turn r.log s
      → (w : V) × (a : Act (Option B)) × Valid s.homes me.1 a × Rule (stepped s 0 new id me.1 w a) × Wins history subject_of mark me.0 (word s) (w, carried_after me.1 a)
  wins s r id me new at live idle none_out up even (inr t) = let w = ap (λ (l : List ℕ). get_or l 0 0) t.word in absurd (not_both (length r.log) (word s) (sym w) even)
  wins s r id me new at live idle none_out up even (inl f) =
      let v : V = me.0 in
      let w : V = won (word s) (history f.book) v in
      let n : word s ≡ 2 * length r.log = ap (λ (l : List ℕ). get_or l 0 0) f.word in
      let k = r.seated.each id v at live in
      let sits : Sits mark start subject r.log w = subst (λ (l : List E). Sits mark start subject r.log (won (word s) l v)) (sym f.stands) (won_sits s r id v (word s) at live) in
      let seated = same_seated mark start subject r.log s.views id v w r.seated at refl refl live sits in
      let few = few_places mark start subject r.log s.views id v r.seated at live in
      let odd : new ≡ 2 * length r.log + 1 = omega arith in
      let count = ap length f.stands in
      let same = k.same_start in (
        w,
        takes 0 (Some f.book),
        ap (λ (hs : List (mathlib.Core.Option.Option (Option B))). get_elem? hs 0) f.home,
        record {
          log = r.log;
          seated = seated;
          turn = inr record {
            holder = id;
            view = w;
            word = ap (λ (ws : List ℕ). set ws 0 new) f.word ∙ ap (λ (x : ℕ). x ∷ []) odd;
            away = ap (λ (hs : List (mathlib.Core.Option.Option (Option B))). set hs 0 none) f.home;
            there = set_there s.views id v w at;
            holds = refl;
            live = live;
            met = f.stands;
            alone = set_each (λ j u. u.holds ≡ true → j ≡ id) s.views id w (λ _. refl) (λ j u _ e holds. absurd (true≢false (sym holds ∙ f.nobody j u e)));
          };
          known = subst (λ (x : ℕ). Known x (set s.views id w)) (sym (get_or-set s new n f.word)) (known_set s r id v w new at live up);
        },
        record {
          book = f.book;
          now = ap (λ (cs : List (ℕ × Option B)). (w, (0, Some f.book) ∷ cs)) none_out;
          word = omega arith;
          about = k.same_subject ∙ ap Some (sym f.about);
          begins = subst (λ (l : List E). IsPrefix v.seen l) (sym f.stands) k.seen_begins;
          marked = set_marked r.log s id v w at live seated;
          room = omega arith;
        },
      )
    where
      get_or-set : (s : St) (new : ℕ) {x : ℕ} → word s ≡ x → s.words ≡ x ∷ [] → get_or (set s.words 0 new) 0 0 ≡ new
      get_or-set s new n is = ap (λ (ws : List ℕ). get_or (set ws 0 new) 0 0) is

  pub tries : (slots id : ℕ) (me : M) (old new : ℕ) → me.0.live ≡ true → me.0.holds ≡ false → me.1 ≡ [] → old % 2 ≡ 0 → new ≡ old + 1
      → Allows Rule slots id me 0 (λ n. either (eqb n old) new n) (Tries history subject_of mark (step slots 0 old new none) me)
  tries slots id me old new live idle none_out even up s r _ at _ = dite (ℕ_discrete (word s) old)
      (λ hit. let t = wins s r id me new at live idle none_out (up ∙ ap (λ (n : ℕ). n + 1) (sym hit)) (ap (λ (n : ℕ). n % 2) hit ∙ even) r.turn in (
        t.0,
        t.1,
        t.2,
        subst (λ (b : Bool). Rule (stepped s 0 (either b new (word s)) id me.1 t.0 t.1)) (sym (eq-eqb (word s) old hit)) t.3,
        subst (λ (b : Bool). MatchBool b (Wins history subject_of mark me.0 (word s) (t.0, carried_after me.1 t.1)) (Misses mark me (word s) (t.0, carried_after me.1 t.1)))
            (sym (eq-eqb (word s) old hit)) t.4,
      ))
      (λ miss.
      let w : V = having_met (word s) me.0 in
      let now = unmoved s r id me.0 w at idle idle refl refl live (sits_looked s r id me.0 (word s) at live) (λ _. refl) in (
        w,
        keeps,
        tt,
        subst (λ (b : Bool). Rule (stepped s 0 (either b new (word s)) id me.1 w keeps)) (sym (ne_eqb (word s) old miss)) (loaded s id me.1 w now),
        subst (λ (b : Bool). MatchBool b (Wins history subject_of mark me.0 (word s) (w, me.1)) (Misses mark me (word s) (w, me.1)))
            (sym (ne_eqb (word s) old miss)) (refl, learns s r id me.0 at live idle, set_marked now.log s id me.0 w at live now.seated),
      ))

  -- the seat that has the turn met the whole history
  holder_is : (s : St) (log : List E) (id : ℕ) (v : V) → get_elem? s.views id ≡ some v → v.holds ≡ true → Turn log s → Taken log s × (v.seen ≡ log) × ((j : ℕ) (u : V) → j ≢ id → get_elem? s.views j ≡ some u → u.holds ≡ false)
  holder_is s log id v at holds (inl f) = absurd (true≢false (sym holds ∙ f.nobody id v at))
  holder_is s log id v at holds (inr t) =
      let here : id ≡ t.holder = t.alone id v at holds in
      let there : get_elem? s.views id ≡ some t.view = subst (λ (n : ℕ). get_elem? s.views n ≡ some t.view) (sym here) t.there in
      let same = one_at s.views id v t.view at there in
      (t, ap (λ (u : V). u.seen) same ∙ t.met, λ j u apart e. not_true u.holds (λ yes. apart (t.alone j u e yes ∙ sym here)))

  -- the turn is given back with the book and a new word
  free_again : (s : St) (r : Rule s) (id : ℕ) (me : M) (book : B) (log : List E) (w : V) (given : ℕ) → Taken r.log s → me.1 ≡ (0, Some book) ∷ [] → history book ≡ log → subject_of book ≡ subject → given ≡ 2 * length log
      → ((j : ℕ) (u : V) → j ≢ id → get_elem? s.views j ≡ some u → u.holds ≡ false) → w.holds ≡ false → Free history subject_of subject log (stepped s 0 given id me.1 w gives)
  free_again s r id me book log w given t carried stands about twice others still = record {
    book = book;
    word = ap (λ (ws : List ℕ). set ws 0 given) t.word ∙ ap (λ (x : ℕ). x ∷ []) twice;
    home = ap (λ (cs : List (ℕ × Option B)). put_back s.homes cs) carried ∙ ap (λ (hs : List (mathlib.Core.Option.Option (Option B))). set hs 0 (some (Some book))) t.away;
    stands = stands;
    about = about;
    nobody = set_each (λ j u. u.holds ≡ false) s.views id w still others;
  }

  given_word : (s : St) (r : Rule s) (given : ℕ) → Taken r.log s → get_or (set s.words 0 given) 0 0 ≡ given
  given_word s r given t = ap (λ (ws : List ℕ). get_or (set ws 0 given) 0 0) t.word

  left_sits : (log : List E) (v : V) (given : ℕ) → Sits mark start subject log v → Sits mark start subject log (left given v)
  left_sits log v given k = record {
    some_mark = k.some_mark;
    same_subject = k.same_subject;
    same_start = k.same_start;
    seen_begins = k.seen_begins;
    seen_start = k.seen_start;
    told_begins = k.told_begins;
    own_seen = k.own_seen;
    own_ascends = k.own_ascends;
    own_marked = k.own_marked;
  }

  pub leaves : (slots id : ℕ) (me : M) (book : B) (given : ℕ) → me.0.live ≡ true → me.0.holds ≡ true → me.1 ≡ (0, Some book) ∷ [] → history book ≡ me.0.seen → me.0.subject ≡ Some (subject_of book) → given ≡ 2 * length me.0.seen
      → Allows Rule slots id me 0 (λ _. given) (λ _. Leaves mark (step slots 0 given 0 none) me given)
  leaves slots id me book given live holds carried same about twice s r _ at _ =
      let v : V = me.0 in
      let w : V = left given v in
      let t = holder_is s r.log id v at holds r.turn in
      let k = r.seated.each id v at live in
      let seated = same_seated mark start subject r.log s.views id v w r.seated at refl refl live (left_sits r.log v given k) in
      let count = ap length t.1 in (
        w,
        gives,
        tt,
        record {
          log = r.log;
          seated = seated;
          turn = inl (free_again s r id me book r.log w given t.0 carried (same ∙ t.1) (subject_is k.same_subject) (omega arith) t.2 refl);
          known = subst (λ (x : ℕ). Known x (set s.views id w)) (sym (given_word s r given t.0)) (known_set s r id v w given at live refl);
        },
        (ap (λ (cs : List (ℕ × Option B)). (w, rest cs)) carried, set_marked r.log s id v w at live seated),
      )
    where
      subject_is : me.0.subject ≡ Some subject → subject_of book ≡ subject
      subject_is is = some_is (sym about ∙ is)
        where
          some_is : {x y : S} → Some x ≡ Some y → x ≡ y
          some_is e = cc

  pub commits : (slots id : ℕ) (me : M) (book : B) (e : E) (given : ℕ) → me.0.live ≡ true → me.0.holds ≡ true → me.1 ≡ (0, Some book) ∷ [] → history book ≡ me.0.seen ++ e ∷ [] → 0 < times (mark e) me.0.marks
      → me.0.subject ≡ Some (subject_of book) → given ≡ 2 * length me.0.seen + 2
      → Allows Rule slots id me 0 (λ _. given) (λ _. Commits history mark (step slots 0 given 0 none) me given)
  commits slots id me book e given live holds carried grew has about twice s r _ at _ =
      let v : V = me.0 in
      let t = holder_is s r.log id v at holds r.turn in
      let k = r.seated.each id v at live in
      let now : history book ≡ r.log ++ e ∷ [] = grew ∙ ap (λ (l : List E). l ++ e ∷ []) t.1 in
      let w : V = committed given (history book) v in
      let count = ap length t.1 in
      let more = length-append r.log (e ∷ []) in
      let grown : Seated mark start subject (r.log ++ e ∷ []) (set s.views id w) = subst (λ (l : List E). Seated mark start subject (r.log ++ e ∷ []) (set s.views id (committed given l v))) (sym now) (grown_seated mark start subject r.log e s.views id v given r.seated at live t.1 has) in (
        w,
        gives,
        tt,
        record {
          log = r.log ++ e ∷ [];
          seated = grown;
          turn = inl (free_again s r id me book (r.log ++ e ∷ []) w given t.0 carried now (subject_is k.same_subject) (omega arith) t.2 refl);
          known = subst (λ (x : ℕ). Known x (set s.views id w)) (sym (given_word s r given t.0)) (known_set s r id v w given at live refl);
        },
        λ book' carried'. let same : book ≡ book' = one_book (sym carried ∙ carried') in (
          ap (λ (cs : List (ℕ × Option B)). (w, rest cs)) carried ∙ ap (λ (b : B). (committed given (history b) v, [])) same,
          set_marked (r.log ++ e ∷ []) s id v w at live grown,
        ),
      )
    where
      subject_is : me.0.subject ≡ Some subject → subject_of book ≡ subject
      subject_is is = some_is (sym about ∙ is)
        where
          some_is : {x y : S} → Some x ≡ Some y → x ≡ y
          some_is e = cc

      one_book : {x y : B} → ◌≡◌ {A = List (ℕ × Option B)} ((0, Some x) ∷ []) ((0, Some y) ∷ []) → x ≡ y
      one_book {x} e = some_book (ap (first_or (Some x)) e)
        where
          first_or : Option B → List (ℕ × Option B) → Option B
          first_or b [] = b
          first_or b (c ∷ cs) = c.1

          some_book : {x y : B} → Some x ≡ Some y → x ≡ y
          some_book e = cc

  pub splits : (id : ℕ) (v : V) → v.live ≡ true → v.holds ≡ false → LastMarkIsFree mark v → 2 ≤ length v.marks → Splits Rule id v (parent v) (child v)
  splits id v live idle free two s r at =
      let p : V = parent v in
      let c : V = child v in
      let one = length-last_alone v.marks (omega arith) in
      let parts = ap length (sym (halves v.marks)) ∙ length-append (but_last v.marks) (last_alone v.marks) in
      let few = few_marks mark start subject r.log s.views id v r.seated at live in
      record {
        log = r.log;
        seated = split_seated mark start subject r.log s.views id v r.seated at live free two;
        turn = turn_snoc r.log record { words = s.words; homes = s.homes; views = set s.views id p } c (turn_set r.log s id v p r.turn at idle idle) refl;
        known = snoc_each (λ j u. u.live ≡ true → length u.marks ≡ 64 → word s ≡ u.last) (set s.views id p) c
            (set_each (λ j u. u.live ≡ true → length u.marks ≡ 64 → word s ≡ u.last) s.views id p (λ _ all. absurd (omega arith)) (λ j u _ e. r.known j u e))
            (λ j _ all. absurd (omega arith));
      }

  pub endings : (id : ℕ) (v : V) → v.live ≡ true → v.holds ≡ false → Splits Rule id v v (ended v)
  endings id v live idle s r at =
      let w : V = ended v in
      let was : St = record { words = s.words; homes = s.homes; views = set s.views id v } in
      let r' : Rule was = unmoved s r id v v at idle idle refl refl live (r.seated.each id v at live) (r.known id v at live) in
      record {
        log = r'.log;
        seated = idle_seated mark start subject r'.log (set s.views id v) w r'.seated refl refl refl (λ _ still. absurd (true≢false still));
        turn = turn_snoc r'.log was w r'.turn idle;
        known = snoc_each (λ j u. u.live ≡ true → length u.marks ≡ 64 → word s ≡ u.last) (set s.views id v) w r'.known (λ j never. absurd (true≢false (sym never)));
      }

  pub joins : (id : ℕ) (v : V) (other : ℕ) (w : V) → v.live ≡ true → v.holds ≡ false → w.live ≡ true → w.holds ≡ false → Joins Rule id v other w (both v w) joined_away
  joins id v other w live idle live' idle' s r at apart still =
      let b : V = both v w in
      let vs : List V = set s.views id b in
      let end : List V = set vs other joined_away in
      let there : get_elem? s.views other ≡ some w = ⊎_elim (λ (t : (other ≡ id) × (b ≡ w)). absurd (apart t.0)) (λ (t : (other ≢ id) × (get_elem? s.views other ≡ some w)). t.1) (at_set s.views id other b w still) in
      let seated = joined_seated mark start subject r.log s.views id other v w r.seated at there still live live' in
      let first : St = record { words = s.words; homes = s.homes; views = vs } in
      let turn : Turn r.log record { words = s.words; homes = s.homes; views = end } =
      turn_set r.log first other w joined_away (turn_set r.log s id v b r.turn at idle idle) still idle' refl in
      let here : get_elem? end id ≡ some b = set_else vs other id joined_away (λ x. apart (sym x)) ∙ set_there s.views id v b at in
      record {
        log = r.log;
        seated = seated;
        turn = turn;
        known = known_all r.log record { words = s.words; homes = s.homes; views = end } seated turn id b here live idle refl
            (λ j u apart' e alive all. set_each (λ i y. i ≢ id → y.live ≡ true → length y.marks ≡ 64 → word s ≡ y.last) vs other joined_away (λ _ never. absurd (true≢false (sym never)))
            (λ i y _ f away. r.known i y (sym (set_else s.views id i b away) ∙ f)) j u e apart' alive all);
      }
    where
      -- the seat that has the calls of both knows the word where it has all shares
      known_all : (log : List E) (s : St) → Seated mark start subject log s.views → Turn log s → (id : ℕ) (b : V) → get_elem? s.views id ≡ some b → b.live ≡ true → b.holds ≡ false → b.last ≡ 2 * (b.start + length (concat b.own))
          → ((j : ℕ) (u : V) → j ≢ id → get_elem? s.views j ≡ some u → u.live ≡ true → length u.marks ≡ 64 → word s ≡ u.last) → Known (word s) s.views
      known_all log s seated turn id b at live idle last others j u e alive all = dite (ℕ_discrete j id)
          (λ same.
          let is : b ≡ u = one_at s.views id b u at (subst (λ (n : ℕ). get_elem? s.views n ≡ some u) same e) in
          let all' : length b.marks ≡ 64 = ap (λ (x : V). length x.marks) is ∙ all in
          let f = all_free s log seated id b at live idle all' turn in
          let n = ap (λ (l : List ℕ). get_or l 0 0) f.word in
          let calls = (all_places mark start subject log s.views id b seated at live all').0 in
          let same_start = (seated.each id b at live).same_start in
          let mine : word s ≡ b.last = omega arith in
          mine ∙ ap (λ (x : V). x.last) is)
          (λ apart. others j u apart e alive all)

  -- what a seat with all shares knows of the book once the table is closed
  pub closes : (id : ℕ) (v : V) (words : List ℕ) (slots : List (Option B)) → v.live ≡ true → v.holds ≡ false → length v.marks ≡ 64 → Final (Seen Rule id v) words slots
      → (book : B) × (get_elem? slots 0 ≡ some (Some book)) × Whole history subject_of v book
  closes id v words slots live idle all final =
      let s = final.0 in
      let r = final.1.0 in
      let at = final.1.1 in
      let f = all_free s r.log r.seated id v at live idle all r.turn in
      let places = all_places mark start subject r.log s.views id v r.seated at live all in
      let sits = r.seated.each id v at live in
      let home : get_elem? s.homes 0 ≡ some (some (Some f.book)) = ap (λ (hs : List (mathlib.Core.Option.Option (Option B))). get_elem? hs 0) f.home in
      let count = ap length f.stands in
      let start_is = sits.same_start in
      let calls = places.0 in
      let long : length r.log ≤ length v.seen = all_seen r.log v sits places.1 in (
        f.book,
        final.4 0 (Some f.book) home,
        record {
          about = sits.same_subject ∙ ap Some (sym f.about);
          whole = prefix_whole v.seen r.log sits.seen_begins long ∙ sym f.stands;
          calls = omega arith;
          once = λ p. places.1 p ∙ ap (λ (x : ℕ × ℕ). once_between x.0 x.1 p) (pair (sym start_is) (sym count));
        },
      )
    where
      pair : {a b c d : ℕ} → a ≡ c → b ≡ d → ◌≡◌ {A = ℕ × ℕ} (a, b) (c, d)
      pair x y = λ i. (x i, y i)

      all_seen : (log : List E) (v : V) → Sits mark start subject log v → ((p : ℕ) → times p (concat v.own) ≡ once_between start (length log) p) → length log ≤ length v.seen
      all_seen log v sits once = dite (dec_le (length log) (length v.seen)) (λ le. le)
          (λ other.
          let below : length v.seen < length log = lt_of_not-le other in
          let none = sits.own_seen (length v.seen) (le_refl (length v.seen)) in
          let one = between_in start (length log) (length v.seen) sits.seen_start below in
          let is = once (length v.seen) in absurd (omega arith))

  -- the same of what is taken out of the slot
  pub closes_taken : (id : ℕ) (v w : V) (words : List ℕ) (slots : List (Option B)) (taken : Option B) → w ≡ v → v.live ≡ true → v.holds ≡ false → length v.marks ≡ 64 → Final (Seen Rule id w) words slots → get_elem? slots 0 ≡ some taken
      → (book : B) × (taken ≡ Some book) × Whole history subject_of v book
  closes_taken id v w words slots taken same live idle all final at =
      let it = closes id v words slots live idle all (subst (λ (u : V). Final (Seen Rule id u) words slots) same final) in
      (it.0, some-injective taken (Some it.0) (sym at ∙ it.1), it.2)

  pub closes_whole : (id : ℕ) (v w : V) (words : List ℕ) (slots : List (Option B)) (taken : Option B) → w ≡ v → v.live ≡ true → v.holds ≡ false → length v.marks ≡ 64 → Final (Seen Rule id w) words slots → get_elem? slots 0 ≡ some taken
      → (book : B) → taken ≡ Some book → Whole history subject_of v book
  closes_whole id v w words slots taken same live idle all final at book is =
      let it = closes_taken id v w words slots taken same live idle all final at in
      subst (λ (b : B). Whole history subject_of v b) (some_is (sym it.1 ∙ is)) it.2
    where
      some_is : {x y : B} → Some x ≡ Some y → x ≡ y
      some_is e = cc

module _ {B E S : Type 0} (history : B → List E) (subject_of : B → S) (mark : E → ℕ) where
  -- the rule holds at the opening
  pub begins : (book : B) → Kept history subject_of mark (length (history book)) (subject_of book) (opening ((2 * length (history book)) ∷ []) (Some book ∷ []) (opener (history book) (subject_of book)))
  begins book =
      let log = history book in
      let v : View E S = opener log (subject_of book) in
      let only = λ (P : View E S → Type 0) (mine : P v) (id : ℕ) (u : View E S) (at : get_elem? (v ∷ []) id ≡ some u). subst P (single v u id at) mine in
      record {
        log = log;
        seated = record {
          marks = λ m. let a = times-numbers_from m 0 64 in omega arith;
          shares = let a = length-numbers_from 0 64 in omega arith;
          places = λ p. let a = between_empty (length log) p in omega arith;
          calls = omega arith;
          each = only (λ u. u.live ≡ true → Sits mark (length log) (subject_of book) log u) (λ _. record {
            some_mark = let a = length-numbers_from 0 64 in omega arith;
            same_subject = refl;
            same_start = refl;
            seen_begins = prefix_self log;
            seen_start = le_refl (length log);
            told_begins = (log, refl);
            own_seen = λ p le. refl;
            own_ascends = (tt, tt);
            own_marked = λ p e le h. let below = get_below log p e h in absurd (omega arith);
          });
          away = only (λ u. u.live ≡ false → u.closed ≡ false → IsAway u) (λ gone. absurd (true≢false gone));
        };
        turn = inl record {
          book = book;
          word = refl;
          home = refl;
          stands = refl;
          about = refl;
          nobody = only (λ u. u.holds ≡ false) refl;
        };
        known = only (λ u. u.live ≡ true → length u.marks ≡ 64 → 2 * length log ≡ u.last) (λ _ _. refl);
      }

  -- the same, in the words of the call that opens the table
  pub begins_as : (book key : B) (n : ℕ) (items : List (Option B)) → key ≡ book → n ≡ length (history book) → items ≡ Some book ∷ []
      → Kept history subject_of mark (length (history key)) (subject_of key) (opening ((2 * n) ∷ []) items (opener (history key) (subject_of key)))
  begins_as book key n items is count one =
      let all : ◌≡◌ {A = B × ℕ × List (Option B)} (book, length (history book), Some book ∷ []) (key, n, items) = λ i. (sym is i, sym count i, sym one i) in
      subst (λ (x : B × ℕ × List (Option B)). Kept history subject_of mark (length (history x.0)) (subject_of x.0) (opening ((2 * x.1) ∷ []) x.2 (opener (history x.0) (subject_of x.0)))) all (begins book)
