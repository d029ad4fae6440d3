-- An answer that waits for no more bytes stays.
use Rattle.of10_view.proofs.Stream.{answer_stays}
use Rattle.of10_view.specs.Stream.{Broken, Whole}
use Rattle.of10_view.proofs.laws.answers_stay.Goals as goal

pub returns-clause-whole : goal.returns-clause-whole
returns-clause-whole c = λ held more m is. answer_stays held more (Whole m) (λ need have e. cc) is

pub returns-clause-broken : goal.returns-clause-broken
returns-clause-broken c = λ held more bad is. answer_stays held more (Broken bad) (λ need have e. cc) is
