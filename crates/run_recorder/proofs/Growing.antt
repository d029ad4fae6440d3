-- Lists that grow.
use Rattle.std.proofs.Common.{◌≡◌, ◌≢◌, ◌∙◌, List, [], ◌∷◌, ◌++◌, map, All, Some, ap, append_assoc, subst, sym}
use Rattle.std.proofs.lemmas.List.{map-append}
use Rattle.std.proofs.lemmas.List.Elements.{All-push}
use Rattle.run_recorder.specs.Recording.{Working}
use Rattle.run_recorder.specs.AtOnce.{CameBack}
use Rattle.run_recorder.specs.declared.at_once.Stint.{Stint}
use Rattle.run_recorder.specs.declared.drive.Left.TheVariants as leave

-- the images of what is done, with those of one more, and what is still to come, are all
pub images_more : {X Y : Type 0} (f : X → Y) (done more : List X) (x : X) (rest later all : List Y) → map f done ++ rest ≡ all → rest ≡ f x ∷ later → more ≡ done ++ x ∷ [] → map f more ++ later ≡ all
images_more f done more x rest later all whole next is =
    ap (λ xs. map f xs ++ later) is ∙ ap (λ ys. ys ++ later) (map-append f done (x ∷ [])) ∙ append_assoc (map f done) (f x ∷ []) later ∙ ap (λ ys. map f done ++ ys) (sym next) ∙ whole

-- what holds of all holds with one more
pub all_more : {X : Type 0} (P : X → Type 0) (done more : List X) (x : X) → All P done → P x → more ≡ done ++ x ∷ [] → All P more
all_more P done more x all here is = subst (All P) (sym is) (All-push P done x all here)

module _ {C : Type 0} where
  -- The parts of the first stints came back, and the others are still to come.
  pub record ComesBack (all rest : List (Stint C)) (parts : List (Working C)) : Type 0 where
    pub done : List (Stint C)
    pub whole : done ++ rest ≡ all
    pub came : CameBack done parts

  pub comes_more : (all rest later : List (Stint C)) (stint : Stint C) (parts more : List (Working C)) → ComesBack all rest parts → rest ≡ stint ∷ later → more ≡ parts ++ stint.part ∷ []
      → stint.left ≢ Some leave.OutOfMemory → ComesBack all later more
  comes_more all rest later stint parts more before next is memory = record {
    done = before.done ++ stint ∷ [];
    whole = append_assoc before.done (stint ∷ []) later ∙ ap (λ stints. before.done ++ stints) (sym next) ∙ before.whole;
    came = record {
      same = is ∙ ap (λ list. list ++ stint.part ∷ []) before.came.same ∙ sym (map-append (λ (stint : Stint C). stint.part) before.done (stint ∷ []));
      memory = All-push (λ (stint : Stint C). stint.left ≢ Some leave.OutOfMemory) before.done stint before.came.memory memory;
    };
  }
