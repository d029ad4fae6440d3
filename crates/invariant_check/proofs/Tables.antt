-- The tables of a network, and their trials.
use Rattle.std.proofs.Common.{◌≡◌, ◌<◌, ℕ, zero, suc, List, [], ◌∷◌, length, get_or, Some, sym, subst, arith}
use Rattle.std.proofs.lemmas.List.Quantifiers.{position-Some}
use Rattle.std.specs.List.{AllZip}
use Rattle.of10_match.specs.declared.header.Header.{Header}
use Rattle.flow_table.specs.Best.{best_place, has_greatest_rank}
use Rattle.flow_table.specs.declared.entry.Entry.{Entry}
use Rattle.header_classes.specs.Trials.{AreTrials}
use Rattle.header_classes.specs.declared.trials.Trials.{Trials}

-- what holds at each place of two lists
zip_at : {A B : Type 0} (R : A → B → Type 0) (xs : List A) (ys : List B) (at : ℕ) (d : A) (e : B) → AllZip R xs ys → at < length xs → R (get_or xs at d) (get_or ys at e)
zip_at R [] ys at d e all fits = absurd (omega arith)
zip_at R (x ∷ xs) [] at d e all fits = absurd all
zip_at R (x ∷ xs) (y ∷ ys) zero d e all fits = all.0
zip_at R (x ∷ xs) (y ∷ ys) (suc at) d e all fits = zip_at R xs ys at d e all.1 (omega arith)

-- the trials of a switch are those of its table
pub trials_at : (tables : List (List Entry)) (all : List Trials) (s : ℕ) (table : List Entry) (trials : Trials) → AllZip AreTrials tables all → s < length tables
    → table ≡ get_or tables s table → trials ≡ get_or all s trials → AreTrials table trials
trials_at tables all s table trials are few here there =
    subst (λ (t : List Entry). AreTrials t trials) (sym here)
    (subst (AreTrials (get_or tables s table)) (sym there) (zip_at AreTrials tables all s table trials are few))

-- the best entry stands in the table
pub best_within : (table : List Entry) (port : ℕ) (header : Header) (place : ℕ) → best_place table port header ≡ Some place → place < length table
best_within [] port header place best = absurd cc
best_within (entry ∷ table) port header place best = (position-Some (has_greatest_rank (entry ∷ table) port header) (entry ∷ table) place entry best).0
