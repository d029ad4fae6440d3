-- Bytes have one answer.
use Rattle.std.proofs.Common.{◌≡◌, ℕ, ◌<◌, Bool, List, length, slice_get, Some, Ok, Err, refl, sym, ◌∙◌, ap, ap₂, subst, inl, inr}
use Rattle.std.proofs.lemmas.Option.{slice_get_within}
use Rattle.std.proofs.lemmas.Bool.{cases_order}
use Rattle.controller_api.specs.Reaction.{Reaction}
use Rattle.controller_api.specs.declared.item.UpItem.{UpItem}
use Rattle.machine_setup.specs.declared.setup.Setup.{Setup}
use Rattle.event_world.specs.World.{Situation}
use Rattle.event_machine.specs.declared.legal.LogNo.{LogNo}
use Rattle.event_machine.specs.declared.legal.LogNo.TheVariants.{NotLegal, WorkerOrder, EndWrong, OutOfMemory}
use Rattle.event_machine.specs.declared.trace.Entry.{Entry}
use Rattle.event_machine.specs.declared.trace.Trace.{Trace}
use Rattle.event_machine.specs.Legal.{IsLegalIn, IsSoundTo, IsLegalRun, IsWrong, IsFirstWrong, IsWrongEntry, earlier_of, world_after, world_before}
use Rattle.controller_host.specs.Hosting.{Hosting, hosting, starting}
use Rattle.doc_forms.specs.Texts.{IsRefused, IsText, rooted}
use Rattle.doc_forms.specs.declared.fail.DocFail.TheVariants.{Refused}
use Rattle.log_doc.specs.declared.log.Log.{Log}
use Rattle.log_doc.specs.Log.{log_of}
use Rattle.causal_replay.specs.Replay.{IsReplay}
use Rattle.causal_replay.specs.declared.replayed.Taken.{Taken}
use Rattle.scenario_doc.specs.declared.scenario.Scenario.{Scenario}
use Rattle.report_text.specs.Replays.{replay_text}
use Rattle.report_text.specs.Verdicts.{verdicts_text}
use Rattle.sts_cli.specs.Lines.{refused_line, wrong_line}
use Rattle.sts_cli.specs.Answer.{IsIllegal, IsJob, IsJudged, IsOfLog, IsRefusal}
use Rattle.sts_cli.specs.Recorded.{IsWholeReplay, all_kept}
use Rattle.sts_cli.specs.Verdicts.{AreVerdicts, IsCheck, first_violated, judging_code}
use Rattle.sts_cli.specs.declared.words.Job.{Job}
use Rattle.sts_cli.specs.declared.words.Job.TheVariants.{Check, Replay, Reduce}
use Rattle.sts_cli.proofs.OneConclusion.{IsJudgedOnce, IsReducedOnce, one_sequence, verdicts_once}

-- the bytes are one log at most
one_log : (bytes : List ℕ) (l m : Log) → IsText log_of bytes l → IsText log_of bytes m → l ≡ m
one_log bytes l m one other =
    let a = one.1.1 in let b = other.1.1 in
    let same : one.0 ≡ other.0 = cc in
    let read : log_of other.0 ≡ Ok l = subst (λ v. log_of v ≡ Ok l) same one.2 in
    let again = other.2 in cc

-- a log is not refused
log_or_refused : (bytes : List ℕ) (log : Log) (number : ℕ) (path : List ℕ) → IsText log_of bytes log → IsRefused log_of bytes (Refused number path) → ⊥
log_or_refused bytes log number path read refused = elim refused [
  | inl h ↦ h.2 read.0 read.1
  | inr h ↦
      let a = read.1.1 in let b = h.2.1 in
      let same : read.0 ≡ h.0 = cc in
      let there : log_of h.0 ≡ Ok log = subst (λ v. log_of v ≡ Ok log) same read.2 in
      let broken = h.3 in cc
]

-- bytes are refused by one rule
one_rule : (bytes : List ℕ) (n m : ℕ) (p q : List ℕ) → IsRefused log_of bytes (Refused n p) → IsRefused log_of bytes (Refused m q) → (n ≡ m) × (p ≡ q)
one_rule bytes n m p q one other = elim one [
  | inl a ↦ elim other [ inl b ↦ (a.0 ∙ sym b.0, a.1 ∙ sym b.1) | inr b ↦ absurd (a.2 b.0 b.2) ]
  | inr a ↦ elim other [
    | inl b ↦ absurd (b.2 a.0 a.2)
    | inr b ↦
        let x = a.2.1 in let y = b.2.1 in
        let same : a.0 ≡ b.0 = cc in
        let there : log_of b.0 ≡ Err (Refused n a.1) = subst (λ v. log_of v ≡ Err (Refused n a.1)) same a.3 in
        let broken = b.3 in
        let inner : a.1 ≡ b.1 = cc in
        (cc, a.4 ∙ ap rooted inner ∙ sym b.4)
  ]
]

-- it is one entry at one place
one_entry : (entries : List Entry) (a b : ℕ) (e f : Entry) → a ≡ b → slice_get entries a ≡ Some e → slice_get entries b ≡ Some f → e ≡ f
one_entry entries a b e f same one other = let moved = ap (λ n. slice_get entries n) same in cc

-- it is not want of memory
abbrev IsCause : LogNo → Type 0
IsCause why = why ≡ OutOfMemory → ⊥

module _ {C : Type 0} where
  -- an entry that is wrong is not sound
  not_sound : (setup : Setup C) (world : Situation C) (want at : ℕ) (entry : Entry) (why : LogNo) → IsCause why → IsWrongEntry setup world want at entry why → (IsLegalIn setup world at entry × (entry.number ≡ want)) → ⊥
  not_sound setup world want at entry (NotLegal place) cause w both = w.1 both.0
  not_sound setup world want at entry (WorkerOrder place next has) cause w both = w.4 (w.2 ∙ sym both.1 ∙ sym w.3)
  not_sound setup world want at entry EndWrong cause w both = w
  not_sound setup world want at entry OutOfMemory cause w both = cause refl

  -- what is wrong with an entry is one thing
  one_flaw : (setup : Setup C) (world : Situation C) (want at : ℕ) (entry : Entry) (why other : LogNo) → IsCause why → IsCause other → IsWrongEntry setup world want at entry why → IsWrongEntry setup world want at entry other → why ≡ other
  one_flaw setup world want at entry (NotLegal a) (NotLegal b) cause reason w v = ap NotLegal (w.0 ∙ sym v.0)
  one_flaw setup world want at entry (NotLegal a) (WorkerOrder b next has) cause reason w v = absurd (w.1 v.1)
  one_flaw setup world want at entry (WorkerOrder a next has) (NotLegal b) cause reason w v = absurd (v.1 w.1)
  one_flaw setup world want at entry (WorkerOrder a next has) (WorkerOrder b wanted had) cause reason w v =
      let place : a ≡ b = w.0 ∙ sym v.0 in
      let wants : next ≡ wanted = w.2 ∙ sym v.2 in
      let number : has ≡ had = w.3 ∙ sym v.3 in
      cc
  one_flaw setup world want at entry EndWrong other cause reason w v = absurd w
  one_flaw setup world want at entry OutOfMemory other cause reason w v = absurd (cause refl)
  one_flaw setup world want at entry why EndWrong cause reason w v = absurd v
  one_flaw setup world want at entry why OutOfMemory cause reason w v = absurd (reason refl)

  module _ (react : C → UpItem → Reaction C) (first : C → C) where
    -- a trace that is sound up to its end has no first entry that is wrong
    none_wrong : (setup : Setup C) (entries : List Entry) (at : ℕ) (entry : Entry) (why : LogNo) → IsCause why → IsSoundTo react first setup entries (length entries) → IsFirstWrong react first setup entries at entry why → ⊥
    none_wrong setup entries at entry why cause sound w =
        not_sound setup (world_before react first setup entries at) (earlier_of entries at entry.worker) at entry why cause w.wrong
        (sound at entry (slice_get_within entries at entry w.here) w.here)

    -- the first entry that is wrong doesn't stand before another one
    not_before : (setup : Setup C) (entries : List Entry) (a b : ℕ) (e f : Entry) (why other : LogNo) → IsCause why → IsFirstWrong react first setup entries a e why → IsFirstWrong react first setup entries b f other → a < b → ⊥
    not_before setup entries a b e f why other cause one two below =
        not_sound setup (world_before react first setup entries a) (earlier_of entries a e.worker) a e why cause one.wrong (two.before a e below one.here)

    -- it stands at one place
    one_place : (setup : Setup C) (entries : List Entry) (a b : ℕ) (e f : Entry) (why other : LogNo) → IsCause why → IsCause other → IsFirstWrong react first setup entries a e why → IsFirstWrong react first setup entries b f other → a ≡ b
    one_place setup entries a b e f why other cause reason one two = elim (cases_order a b) [
      | inl same ↦ same
      | inr apart ↦ elim apart [
        | inl below ↦ absurd (not_before setup entries a b e f why other cause one two below)
        | inr above ↦ absurd (not_before setup entries b a f e other why reason two one above)
      ]
    ]

    -- what is wrong with it is one thing
    one_first : (setup : Setup C) (entries : List Entry) (a b : ℕ) (e f : Entry) (why other : LogNo) → IsCause why → IsCause other → IsFirstWrong react first setup entries a e why → IsFirstWrong react first setup entries b f other → why ≡ other
    one_first setup entries a b e f why other cause reason one two =
        let place : a ≡ b = one_place setup entries a b e f why other cause reason one two in
        let entry : e ≡ f = one_entry entries a b e f place one.here two.here in
        let there = subst (λ (n : ℕ). IsWrongEntry setup (world_before react first setup entries n) (earlier_of entries n e.worker) n e why) place one.wrong in
        let same = subst (λ (x : Entry). IsWrongEntry setup (world_before react first setup entries b) (earlier_of entries b x.worker) b x why) entry there in
        one_flaw setup (world_before react first setup entries b) (earlier_of entries b f.worker) b f why other cause reason same two.wrong

    -- a legal run has nothing wrong
    legal_or_wrong : (setup : Setup C) (trace : Trace) (why : LogNo) → IsLegalRun react first setup trace → IsWrong react first setup trace why → IsCause why → ⊥
    legal_or_wrong setup trace (NotLegal at) run w cause = none_wrong setup trace.entries w.0 w.1 (NotLegal at) cause run.entries w.2
    legal_or_wrong setup trace (WorkerOrder at want has) run w cause = none_wrong setup trace.entries w.0 w.1 (WorkerOrder at want has) cause run.entries w.2
    legal_or_wrong setup trace EndWrong run w cause = w.1 run.end
    legal_or_wrong setup trace OutOfMemory run w cause = cause refl

    -- what is wrong with a trace is one thing
    one_wrong : (setup : Setup C) (trace : Trace) (why other : LogNo) → IsWrong react first setup trace why → IsWrong react first setup trace other → IsCause why → IsCause other → why ≡ other
    one_wrong setup trace (NotLegal a) (NotLegal b) w v cause reason = one_first setup trace.entries w.0 v.0 w.1 v.1 (NotLegal a) (NotLegal b) cause reason w.2 v.2
    one_wrong setup trace (NotLegal a) (WorkerOrder b want has) w v cause reason = one_first setup trace.entries w.0 v.0 w.1 v.1 (NotLegal a) (WorkerOrder b want has) cause reason w.2 v.2
    one_wrong setup trace (NotLegal a) EndWrong w v cause reason = absurd (none_wrong setup trace.entries w.0 w.1 (NotLegal a) cause v.0 w.2)
    one_wrong setup trace (WorkerOrder a want has) (NotLegal b) w v cause reason = one_first setup trace.entries w.0 v.0 w.1 v.1 (WorkerOrder a want has) (NotLegal b) cause reason w.2 v.2
    one_wrong setup trace (WorkerOrder a want has) (WorkerOrder b next had) w v cause reason = one_first setup trace.entries w.0 v.0 w.1 v.1 (WorkerOrder a want has) (WorkerOrder b next had) cause reason w.2 v.2
    one_wrong setup trace (WorkerOrder a want has) EndWrong w v cause reason = absurd (none_wrong setup trace.entries w.0 w.1 (WorkerOrder a want has) cause v.0 w.2)
    one_wrong setup trace EndWrong (NotLegal b) w v cause reason = absurd (none_wrong setup trace.entries v.0 v.1 (NotLegal b) reason w.0 v.2)
    one_wrong setup trace EndWrong (WorkerOrder b want has) w v cause reason = absurd (none_wrong setup trace.entries v.0 v.1 (WorkerOrder b want has) reason w.0 v.2)
    one_wrong setup trace EndWrong EndWrong w v cause reason = refl
    one_wrong setup trace OutOfMemory other w v cause reason = absurd (cause refl)
    one_wrong setup trace why OutOfMemory w v cause reason = absurd (reason refl)

-- ---- what is said of a log

-- entries have at most one replay for each choice of lines
abbrev IsDetermined : Type 0
IsDetermined = (setup : Setup Hosting) (entries : List Entry) (keep : List Bool) (run other_run : List Taken) (absent other_absent : List ℕ) (world other_world : Situation Hosting)
    → IsReplay hosting starting setup entries keep run absent world → IsReplay hosting starting setup entries keep other_run other_absent other_world
    → (run ≡ other_run) × (absent ≡ other_absent) × (world ≡ other_world)

-- the verdicts have one text and one status
one_check : (scenario : Scenario) (world : Situation Hosting) (code other : ℕ) (text more : List ℕ) → IsJudgedOnce → IsCheck scenario world code text → IsCheck scenario world other more → (code ≡ other) × (text ≡ more)
one_check scenario world code other text more once (verdicts, are, status, is) (others, are', status', is') =
    let same : verdicts ≡ others = verdicts_once once scenario world verdicts others are are' in
    (status ∙ ap (λ v. judging_code (first_violated v)) same ∙ sym status', is ∙ ap (λ v. verdicts_text scenario.invariants v) same ∙ sym is')

-- a log has one text of its replay
one_text : (log : Log) (text more : List ℕ) → IsDetermined → IsJudgedOnce → IsWholeReplay log text → IsWholeReplay log more → text ≡ more
one_text log text more one once (run, absent, world, verdicts, left, are, is) (other_run, other_absent, other_world, others, right, are', is') =
    let same = one log.scenario.setup log.trace.entries (all_kept log) run other_run absent other_absent world other_world left right in
    let there : AreVerdicts log.scenario world others = subst (λ (w : Situation Hosting). AreVerdicts log.scenario w others) (sym same.2) are' in
    let judged : verdicts ≡ others = verdicts_once once log.scenario world verdicts others are there in
    is ∙ ap (λ v. replay_text run absent (first_violated v)) judged ∙ ap₂ (λ (r : List Taken) (a : List ℕ). replay_text r a (first_violated others)) same.0 same.1 ∙ sym is'

-- a job has one answer
one_job : (job : Job) (log : Log) (code other : ℕ) (text more : List ℕ) → IsDetermined → IsJudgedOnce → IsReducedOnce → IsJob job log code text → IsJob job log other more → (code ≡ other) × (text ≡ more)
one_job Check log code other text more one once reduced a b = one_check log.scenario (world_after hosting starting log.scenario.setup log.trace) code other text more once a b
one_job Replay log code other text more one once reduced a b = (a.0 ∙ sym b.0, one_text log text more one once a.1 b.1)
one_job Reduce log code other text more one once reduced a b = one_sequence reduced once log.scenario log.trace code other text more a b

-- what is wrong with a log has one text
one_illegal : (log : Log) (text more : List ℕ) → IsIllegal log text → IsIllegal log more → text ≡ more
one_illegal log text more (why, wrong, cause, is) (other, wrong', cause', is') =
    is ∙ ap wrong_line (one_wrong hosting starting log.scenario.setup log.trace why other wrong wrong' cause cause') ∙ sym is'

-- what is said of a log is one thing
one_saying : (job : Job) (log : Log) (code other : ℕ) (text more : List ℕ) → IsDetermined → IsJudgedOnce → IsReducedOnce → IsJudged job log code text → IsJudged job log other more → (code ≡ other) × (text ≡ more)
one_saying job log code other text more one once reduced a b = elim a [
  | inl x ↦ elim b [
    | inl y ↦ one_job job log code other text more one once reduced x.1 y.1
    | inr y ↦ absurd (legal_or_wrong hosting starting log.scenario.setup log.trace y.1.0 x.0 y.1.1 y.1.2)
  ]
  | inr x ↦ elim b [
    | inl y ↦ absurd (legal_or_wrong hosting starting log.scenario.setup log.trace x.1.0 y.0 x.1.1 x.1.2)
    | inr y ↦ (x.0 ∙ sym y.0, one_illegal log text more x.1 y.1)
  ]
]

-- a document is refused in one way
one_refusal : (bytes : List ℕ) (code other : ℕ) (text more : List ℕ) → IsRefusal log_of bytes code text → IsRefusal log_of bytes other more → (code ≡ other) × (text ≡ more)
one_refusal bytes code other text more a b =
    let one = one_rule bytes a.1.0 b.1.0 a.1.1 b.1.1 a.1.2 b.1.2 in
    let number = one.0 in
    let path = one.1 in
    (a.0 ∙ sym b.0, a.1.3 ∙ ap (λ n. refused_line n a.1.1) number ∙ ap (λ p. refused_line b.1.0 p) path ∙ sym b.1.3)

pub one_answer : IsDetermined → IsJudgedOnce → IsReducedOnce → (job : Job) (bytes : List ℕ) (code other : ℕ) (text more : List ℕ) → IsOfLog job bytes code text → IsOfLog job bytes other more → (code ≡ other) × (text ≡ more)
one_answer one once reduced job bytes code other text more a b = elim a [
  | inl x ↦ elim b [
    | inl y ↦
        let log : y.0 ≡ x.0 = one_log bytes y.0 x.0 y.1 x.1 in
        one_saying job x.0 code other text more one once reduced x.2 (subst (λ (l : Log). IsJudged job l other more) log y.2)
    | inr y ↦ absurd (log_or_refused bytes x.0 y.1.0 y.1.1 x.1 y.1.2)
  ]
  | inr x ↦ elim b [
    | inl y ↦ absurd (log_or_refused bytes y.0 x.1.0 x.1.1 y.1 x.1.2)
    | inr y ↦ one_refusal bytes code other text more x y
  ]
]
