-- Steps of the walks over ports and actions.
use Rattle.std.proofs.Common.{◌≡◌, ◌∙◌, ◌+◌, ◌<◌, ◌||◌, ℕ, All, length, drop, get_or, subst, zero, suc, true, false, not, List, [], ◌∷◌, ◌++◌, map, cond, refl, sym, ap, arith, append_assoc, append-nil}
use Rattle.std.specs.Bool.{◌==◌}
use Rattle.std.specs.List.{filter, range_with_len}
use Rattle.std.proofs.Math.Seq.{drop-cons}
use Rattle.std.proofs.lemmas.Bool.{cond_both, eq-eqb, ne_eqb}
use Rattle.std.proofs.lemmas.List.{map-append}
use Rattle.std.proofs.lemmas.List.Elements.{All-cons, All-map, All-nil, All-weaker, filter-append}
use Rattle.of10_match.specs.Header.{IsValidHeader}
use Rattle.of10_match.specs.declared.header.Header.{Header}
use Rattle.of10_messages.specs.declared.action.Action.{Action}
use Rattle.of10_messages.specs.declared.action.Action.TheVariants as action
use Rattle.flow_table.specs.Outcome.{after_action, is_port, outcome, outputs_of, outputs_to, ports_but}
use Rattle.flow_table.specs.declared.outputs.Output.{Output}

-- one number more at the end of a range
range_suc : (a n : ℕ) → range_with_len a (suc n) ≡ range_with_len a n ++ (a + n) ∷ []
range_suc a zero = let same : a ≡ a + 0 = omega arith in ap (λ (m : ℕ). m ∷ []) same
range_suc a (suc n) =
    let rest = range_suc (a + 1) n in
    let last : a + 1 + n ≡ a + suc n = omega arith in
    ap (λ (ns : List ℕ). a ∷ ns) (rest ∙ ap (λ (m : ℕ). range_with_len (a + 1) n ++ m ∷ []) last)

-- the ports but one, with the next port
with_next : (n but : ℕ) → ports_but (n + 1) but ≡ ports_but n but ++ cond (not (n + 1 == but)) ((n + 1) ∷ []) []
with_next n but =
    let test = λ (port : ℕ). not (port == but) in
    let at : 1 + n ≡ n + 1 = omega arith in
    let more : range_with_len 1 (n + 1) ≡ range_with_len 1 n ++ (n + 1) ∷ [] =
    let next : suc n ≡ n + 1 = omega arith in
    sym (ap (range_with_len 1) next) ∙ range_suc 1 n ∙ ap (λ (m : ℕ). range_with_len 1 n ++ m ∷ []) at in
    ap (filter test) more ∙ filter-append test (range_with_len 1 n) ((n + 1) ∷ [])

-- that is the one
pub same_port : (n but : ℕ) → n + 1 ≡ but → ports_but (n + 1) but ≡ ports_but n but
same_port n but is =
    let test : (n + 1 == but) ≡ true = eq-eqb (n + 1) but is in
    with_next n but ∙ rw test (append-nil (ports_but n but))

-- that is another one
pub next_port : (n but : ℕ) → (n + 1 ≡ but → ⊥) → ports_but (n + 1) but ≡ ports_but n but ++ (n + 1) ∷ []
next_port n but differs =
    let test : (n + 1 == but) ≡ false = ne_eqb (n + 1) but differs in
    with_next n but ∙ rw test refl

-- the image of one element more is added
pub put_more : {A B : Type 0} (f : A → B) (start so_far after : List B) (xs ys : List A) (x : A) → so_far ≡ start ++ map f xs → after ≡ so_far ++ f x ∷ []
    → ys ≡ xs ++ x ∷ [] → after ≡ start ++ map f ys
put_more f start so_far after xs ys x before put all =
    put ∙ ap (λ (bs : _). bs ++ f x ∷ []) before ∙ append_assoc start (map f xs) (f x ∷ [])
    ∙ ap (λ (bs : _). start ++ bs) (sym (map-append f xs (x ∷ [])) ∙ ap (map f) (sym all))

-- ---- actions

-- what an Output sends has the header as it is then
to_port : (ports in_port : ℕ) (header : Header) (port : ℕ) → All (λ o. o.header ≡ header) (outputs_to ports in_port header port)
to_port ports in_port header port =
    let Same : List Output → Type 0 = λ os. All (λ o. o.header ≡ header) os in
    let none : Same [] = All-nil (λ (o : Output). o.header ≡ header) in
    let one : (o : Output) → o.header ≡ header → Same (o ∷ []) = λ o is. All-cons (λ (o : Output). o.header ≡ header) o [] is none in
    cond_both (port == 65528) _ _ Same (λ _. cond_both (is_port ports in_port) _ _ Same (λ _. one _ refl) (λ _. none))
    (λ _. cond_both (port == 65531 || port == 65532) _ _ Same (λ _. All-map (λ (o : Output). o.header ≡ header) _ (ports_but ports in_port) (λ k d within. refl))
    (λ _. cond_both (port == 65533) _ _ Same (λ _. one _ refl)
    (λ _. cond_both (port == 65529) _ _ Same (λ _. one _ refl)
    (λ _. cond_both (port == in_port) _ _ Same (λ _. none) (λ _. one _ refl)))))

-- what an action sends has a valid header
pub sent_valid : (ports in_port : ℕ) (header : Header) (a : Action) → IsValidHeader header → All (λ o. IsValidHeader o.header) (outputs_of ports in_port header a)
sent_valid ports in_port header (action.Output port max_len) valid =
    All-weaker (λ (o : Output). o.header ≡ header) (λ (o : Output). IsValidHeader o.header) (λ o is. subst IsValidHeader (sym is) valid)
    (outputs_to ports in_port header port) (to_port ports in_port header port)
sent_valid ports in_port header _ valid = All-nil (λ (o : Output). IsValidHeader o.header)

-- the outputs after one action more
pub next_action : (ports in_port : ℕ) (header : Header) (actions : List Action) (n : ℕ) (a : Action) (so_far after all : List Output) → n < length actions
    → a ≡ get_or actions n a → after ≡ so_far ++ outputs_of ports in_port header a → so_far ++ outcome ports in_port header (drop n actions) ≡ all
    → after ++ outcome ports in_port (after_action header a) (drop (n + 1) actions) ≡ all
next_action ports in_port header actions n a so_far after all within is put before =
    let next : suc n ≡ n + 1 = omega arith in
    let first : drop n actions ≡ a ∷ drop (n + 1) actions = subst (λ (m : ℕ). drop n actions ≡ a ∷ drop m actions) next
    (subst (λ (x : Action). drop n actions ≡ x ∷ drop (suc n) actions) (sym is) (drop-cons actions n a within)) in
    rw put (append_assoc so_far (outputs_of ports in_port header a) (outcome ports in_port (after_action header a) (drop (n + 1) actions))
    ∙ rw first at before)
