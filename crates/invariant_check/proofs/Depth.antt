-- A search in depth: each step keeps what it knows, and what it finds is the first forbidden walk.
use Rattle.std.proofs.Common.{◌≡◌, ◌∙◌, ◌+◌, ◌-◌, ◌≤◌, ◌⊎◌, ◌++◌, ℕ, Bool, true, false, List, [], ◌∷◌, inl, inr, refl, sym, ap, subst, append_assoc, arith}
use Rattle.std.proofs.lemmas.Bool.{cases_lt, false≢true}
use Rattle.invariant_check.specs.Search.{AllDone, AllTried, Before, Differ, Forbidden, In, IsSearch, Leads, Tried, nodes_of, places_of}

-- ---- one of a list

pub in_left : {A : Type 0} (x : A) (xs ys : List A) → In x xs → In x (xs ++ ys)
in_left x [] ys i = elim i [ ]
in_left x (z ∷ xs) ys (inl e) = inl e
in_left x (z ∷ xs) ys (inr i) = inr (in_left x xs ys i)

pub in_right : {A : Type 0} (x : A) (xs ys : List A) → In x ys → In x (xs ++ ys)
in_right x [] ys i = i
in_right x (z ∷ xs) ys i = inr (in_right x xs ys i)

pub in_either : {A : Type 0} (x : A) (xs ys : List A) → In x (xs ++ ys) → In x xs ⊎ In x ys
in_either x [] ys i = inr i
in_either x (z ∷ xs) ys (inl e) = inl (inl e)
in_either x (z ∷ xs) ys (inr i) = elim (in_either x xs ys i) [ inl l ↦ inl (inr l) | inr r ↦ inr r ]

-- the first thing moves behind others
differ_move : {A : Type 0} (x : A) (xs ys : List A) → Differ (x ∷ xs ++ ys) → Differ (xs ++ x ∷ ys)
differ_move x [] ys d = d
differ_move x (z ∷ xs) ys (out, rest) = (
  λ i. elim (in_either z xs (x ∷ ys) i) [
    | inl l ↦ rest.0 (in_left z xs ys l)
    | inr (inl e) ↦ out (inl (sym e))
    | inr (inr r) ↦ rest.0 (in_right z xs ys r)
  ],
  differ_move x xs ys (λ i. out (inr i), rest.1),
)

in_move : {A : Type 0} (y x : A) (xs ys : List A) → In y (x ∷ xs ++ ys) → In y (xs ++ x ∷ ys)
in_move y x xs ys (inl e) = in_right y xs (x ∷ ys) (inl e)
in_move y x xs ys (inr i) = elim (in_either y xs ys i) [ inl l ↦ in_left y xs (x ∷ ys) l | inr r ↦ in_right y xs (x ∷ ys) (inr r) ]

-- things at the front are not at the back
differ_apart : {A : Type 0} (x : A) (xs ys : List A) → Differ (xs ++ ys) → In x xs → In x ys → ⊥
differ_apart x [] ys d i r = elim i [ ]
differ_apart x (z ∷ xs) ys d (inl e) r = d.0 (in_right z xs ys (subst (λ w. In w ys) e r))
differ_apart x (z ∷ xs) ys d (inr l) r = differ_apart x xs ys d.1 l r

-- ---- the order of places

before_nothing : (places : List ℕ) → Before places [] → ⊥
before_nothing [] b = b
before_nothing (x ∷ xs) b = b

pub before_next : (places ks : List ℕ) (m n : ℕ) → m ≡ n + 1 → Before places (ks ++ m ∷ []) → Before places (ks ++ n ∷ []) ⊎ ((more : List ℕ) × (places ≡ ks ++ n ∷ more))
before_next [] [] m n e b = inl tt
before_next (x ∷ xs) [] m n e (inl l) = elim (cases_lt x n) [ inl less ↦ inl (inl less) | inr most ↦ inr (xs, ap (λ y. y ∷ xs) (let is : x ≡ n = omega arith in is)) ]
before_next (x ∷ []) [] m n e (inr r) = absurd r.1
before_next (x ∷ y ∷ xs) [] m n e (inr r) = absurd r.1
before_next [] (k ∷ ks) m n e b = inl tt
before_next (x ∷ xs) (k ∷ ks) m n e (inl l) = inl (inl l)
before_next (x ∷ xs) (k ∷ ks) m n e (inr r) = elim (before_next xs ks m n e r.1) [
  | inl b ↦ inl (inr (r.0, b))
  | inr more ↦ inr (more.0, cc (r.0, more.1))
]

pub before_first : (places ks : List ℕ) (m : ℕ) → Before places (ks ++ m ∷ 0 ∷ []) → Before places (ks ++ m ∷ []) ⊎ (places ≡ ks ++ m ∷ [])
before_first [] [] m b = inl tt
before_first (x ∷ xs) [] m (inl l) = inl (inl l)
before_first (x ∷ []) [] m (inr r) = inr (ap (λ y. y ∷ []) r.0)
before_first (x ∷ y ∷ xs) [] m (inr r) = elim r.1 [ inl less ↦ absurd (omega (arith, less)) | inr same ↦ absurd (before_nothing xs same.1) ]
before_first [] (k ∷ ks) m b = inl tt
before_first (x ∷ xs) (k ∷ ks) m (inl l) = inl (inl l)
before_first (x ∷ xs) (k ∷ ks) m (inr r) = elim (before_first xs ks m r.1) [ inl b ↦ inl (inr (r.0, b)) | inr same ↦ inr (cc (r.0, same)) ]

pub before_last : (places ks : List ℕ) (m k n : ℕ) → m ≡ k + 1 → Before places (ks ++ m ∷ [])
    → Before places (ks ++ k ∷ n ∷ []) ⊎ ((r : ℕ) × (more : List ℕ) × (n ≤ r) × (places ≡ ks ++ k ∷ r ∷ more))
before_last [] [] m k n e b = inl tt
before_last (x ∷ []) [] m k n e (inl l) = elim (cases_lt x k) [ inl less ↦ inl (inl less) | inr most ↦ inl (inr (omega (arith, most, l, e), tt)) ]
before_last (x ∷ r ∷ xs) [] m k n e (inl l) = elim (cases_lt x k) [
  | inl less ↦ inl (inl less)
  | inr most ↦
      let is : x ≡ k = omega arith in
      elim (cases_lt r n) [ inl few ↦ inl (inr (is, inl few)) | inr many ↦ inr (r, xs, many, ap (λ y. y ∷ r ∷ xs) is) ]
]
before_last (x ∷ xs) [] m k n e (inr r) = absurd (before_nothing xs r.1)
before_last [] (j ∷ ks) m k n e b = inl tt
before_last (x ∷ xs) (j ∷ ks) m k n e (inl l) = inl (inl l)
before_last (x ∷ xs) (j ∷ ks) m k n e (inr r) = elim (before_last xs ks m k n e r.1) [
  | inl b ↦ inl (inr (r.0, b))
  | inr more ↦ inr (more.0, more.1, more.2, cc (r.0, more.3))
]

-- ---- what is known stays known of more nodes

tried_more : {N : Type 0} (goes : N → ℕ → N → Type 0) (ends : N → ℕ → Type 0) (loop : Bool) (all new finished later : List N) (x : N) (q : ℕ)
    → ((y : N) → In y all → In y new) → ((y : N) → In y finished → In y later) → Tried goes ends loop all finished x q → Tried goes ends loop new later x q
tried_more goes ends loop all new finished later x q wide long t = record {
  free = t.free;
  leads = λ y g. elim (t.leads y g) [ inl i ↦ inl (long y i) | inr p ↦ inr (p.0, wide y p.1) ];
}

all_tried_more : {N : Type 0} (goes : N → ℕ → N → Type 0) (ends : N → ℕ → Type 0) (loop : Bool) (all new finished later : List N) (path : List (N × ℕ))
    → ((y : N) → In y all → In y new) → ((y : N) → In y finished → In y later) → AllTried goes ends loop all finished path → AllTried goes ends loop new later path
all_tried_more goes ends loop all new finished later [] wide long t = tt
all_tried_more goes ends loop all new finished later (step ∷ path) wide long t = (
  λ q less. tried_more goes ends loop all new finished later step.0 q wide long (t.0 q less),
  all_tried_more goes ends loop all new (step.0 ∷ finished) (step.0 ∷ later) path wide (λ y i. elim i [ inl e ↦ inl e | inr r ↦ inr (long y r) ]) t.1,
)

all_done_more : {N : Type 0} (goes : N → ℕ → N → Type 0) (ends : N → ℕ → Type 0) (loop : Bool) (all new done : List N)
    → ((y : N) → In y all → In y new) → AllDone goes ends loop all done → AllDone goes ends loop new done
all_done_more goes ends loop all new [] wide t = tt
all_done_more goes ends loop all new (x ∷ done) wide t = (
  λ q. tried_more goes ends loop all new done done x q wide (λ y i. i) (t.0 q),
  all_done_more goes ends loop all new done wide t.1,
)

-- ---- no forbidden walk goes through a done node

-- where it is not forbidden to come back: all that done nodes lead to is done, or was seen
closed_dead : {N : Type 0} (goes : N → ℕ → N → Type 0) (ends : N → ℕ → Type 0) (done seen : List N) (y : N) (places : List ℕ)
    → ((d : N) → In d done → (q : ℕ) → (ends d q → ⊥) × ((z : N) → goes d q z → In z done ⊎ In z seen))
    → In y done → Forbidden goes ends false seen y places → ⊥
closed_dead goes ends done seen y [] closed i w = w
closed_dead goes ends done seen y (q ∷ []) closed i (inl e) = (closed y i q).0 e
closed_dead goes ends done seen y (q ∷ []) closed i (inr back) = false≢true back.0
closed_dead goes ends done seen y (q ∷ r ∷ qs) closed i (z, g, new, w) = elim ((closed y i q).1 z g) [
  | inl d ↦ closed_dead goes ends done (y ∷ seen) z (r ∷ qs) (λ d inside k. ((closed d inside k).0, λ v way. elim ((closed d inside k).1 v way) [ inl a ↦ inl a | inr b ↦ inr (inr b) ])) d w
  | inr s ↦ new (inr s)
]

-- where it is forbidden: done nodes lead to nodes done before alone
falling_dead : {N : Type 0} (goes : N → ℕ → N → Type 0) (ends : N → ℕ → Type 0) (all done seen : List N) (y : N) (places : List ℕ)
    → AllDone goes ends true all done → ((z : N) → In z done → In z seen → ⊥) → Differ done
    → In y done → Forbidden goes ends true seen y places → ⊥
falling_dead goes ends all [] seen y places t apart differ i w = i
falling_dead goes ends all (x ∷ done) seen y places t apart differ (inr i) w = falling_dead goes ends all done seen y places t.1 (λ z d s. apart z (inr d) s) differ.1 i w
falling_dead goes ends all (x ∷ done) seen y [] t apart differ (inl e) w = w
falling_dead goes ends all (x ∷ done) seen y (q ∷ []) t apart differ (inl e) (inl ending) = (t.0 q).free (subst (λ (v : _). ends v q) e ending)
falling_dead goes ends all (x ∷ done) seen y (q ∷ []) t apart differ (inl e) (inr (is, (z, g, back))) =
    elim ((t.0 q).leads z (subst (λ (v : _). goes v q z) e g)) [
      | inl d ↦ elim back [ inl same ↦ differ.0 (subst (λ (v : _). In v done) (same ∙ e) d) | inr s ↦ apart z (inr d) s ]
      | inr p ↦ false≢true (sym p.0)
    ]
falling_dead goes ends all (x ∷ done) seen y (q ∷ r ∷ qs) t apart differ (inl e) (z, g, new, w) =
    elim ((t.0 q).leads z (subst (λ (v : _). goes v q z) e g)) [
      | inl d ↦ falling_dead goes ends all done (y ∷ seen) z (r ∷ qs) t.1
          (λ v inside s. elim s [ inl same ↦ differ.0 (subst (λ (u : _). In u done) (same ∙ e) inside) | inr old ↦ apart v (inr inside) old ])
          differ.1 d w
      | inr p ↦ false≢true (sym p.0)
    ]

differ_drop : {A : Type 0} (xs ys : List A) → Differ (xs ++ ys) → Differ ys
differ_drop [] ys d = d
differ_drop (x ∷ xs) ys d = differ_drop xs ys d.1

done_tried : {N : Type 0} (goes : N → ℕ → N → Type 0) (ends : N → ℕ → Type 0) (loop : Bool) (all done : List N) (d : N) (q : ℕ)
    → AllDone goes ends loop all done → In d done → Tried goes ends loop all done d q
done_tried goes ends loop all [] d q t i = elim i [ ]
done_tried goes ends loop all (x ∷ done) d q t (inl e) =
    tried_more goes ends loop all all done (x ∷ done) d q (λ y i. i) (λ y i. inr i) (subst (λ (v : _). Tried goes ends loop all done v q) (sym e) (t.0 q))
done_tried goes ends loop all (x ∷ done) d q t (inr i) =
    tried_more goes ends loop all all done (x ∷ done) d q (λ y i. i) (λ y i. inr i) (done_tried goes ends loop all done d q t.1 i)

dead : {N : Type 0} (goes : N → ℕ → N → Type 0) (ends : N → ℕ → Type 0) (loop : Bool) (path done : List N) (y : N) (places : List ℕ)
    → Differ (path ++ done) → AllDone goes ends loop (path ++ done) done → In y done → Forbidden goes ends loop path y places → ⊥
dead goes ends true path done y places differ t i w =
    falling_dead goes ends (path ++ done) done path y places t (λ z d s. differ_apart z path done differ s d) (differ_drop path done differ) i w
dead goes ends false path done y places differ t i w =
    closed_dead goes ends done path y places
    (λ d inside q.
    let tried = done_tried goes ends false (path ++ done) done d q t inside in (
      tried.free,
      λ z g. elim (tried.leads z g) [
        | inl f ↦ inl f
        | inr p ↦ elim (in_either z path done p.1) [ inl s ↦ inr s | inr f ↦ inl f ]
      ],
    )) i w

-- ---- a walk that takes a path

-- By each output one comes to one node, and no output both leads on and ends a walk.
pub record AreSteps {N : Type 0} (goes : N → ℕ → N → Type 0) (ends : N → ℕ → Type 0) : Type 0 where
  pub one : (x y z : N) (q : ℕ) → goes x q y → goes x q z → y ≡ z
  pub either : (x y : N) (q : ℕ) → goes x q y → ends x q → ⊥

-- a walk by the places of a path comes to its last node
pub follow : {N : Type 0} (goes : N → ℕ → N → Type 0) (ends : N → ℕ → Type 0) (loop : Bool) (from x : N) (path : List (N × ℕ)) (q : ℕ) (more : List ℕ)
    → AreSteps goes ends → Leads goes from x path → Forbidden goes ends loop [] from (places_of path ++ q ∷ more) → Forbidden goes ends loop (nodes_of path) x (q ∷ more)
follow goes ends loop from x [] q more steps leads w = subst (λ (v : _). Forbidden goes ends loop [] v (q ∷ more)) (sym leads) w
follow goes ends loop from x (step ∷ path) q more steps leads w =
    let longer : Forbidden goes ends loop [] from (places_of path ++ (step.1 - 1) ∷ q ∷ more) = rw append_assoc at w in
    let before : Forbidden goes ends loop (nodes_of path) step.0 ((step.1 - 1) ∷ q ∷ more) = follow goes ends loop from step.0 path (step.1 - 1) (q ∷ more) steps leads.2 longer in
    subst (λ (v : _). Forbidden goes ends loop (step.0 ∷ nodes_of path) v (q ∷ more)) (steps.one step.0 before.0 x (step.1 - 1) before.1 leads.1) before.3

-- no forbidden walk takes a tried output
none_through : {N : Type 0} (goes : N → ℕ → N → Type 0) (ends : N → ℕ → Type 0) (loop : Bool) (x : N) (path done : List N) (q : ℕ) (more : List ℕ)
    → Differ (x ∷ path ++ done) → AllDone goes ends loop (x ∷ path ++ done) done → Tried goes ends loop (x ∷ path ++ done) done x q → Forbidden goes ends loop path x (q ∷ more) → ⊥
none_through goes ends loop x path done q [] differ t tried (inl ending) = tried.free ending
none_through goes ends loop x path done q [] differ t tried (inr (is, (y, g, back))) = elim (tried.leads y g) [
  | inl d ↦ differ_apart y (x ∷ path) done differ back d
  | inr p ↦ false≢true (sym p.0 ∙ is)
]
none_through goes ends loop x path done q (r ∷ more) differ t tried (y, g, new, w) = elim (tried.leads y g) [
  | inl d ↦ dead goes ends loop (x ∷ path) done y (r ∷ more) differ t d w
  | inr p ↦ elim (in_either y (x ∷ path) done p.1) [ inl s ↦ new s | inr d ↦ dead goes ends loop (x ∷ path) done y (r ∷ more) differ t d w ]
]

-- ---- the steps of a search

pub search_starts : {N : Type 0} (goes : N → ℕ → N → Type 0) (ends : N → ℕ → Type 0) (loop : Bool) (from : N) → IsSearch goes ends loop from from 0 [] []
search_starts goes ends loop from = record {
  leads = refl;
  differ = (λ i. i, tt);
  tried = (λ q less. absurd (omega (arith, less)), tt);
  finished = tt;
  none = λ places w b. none_before places w b;
}
  where
    none_before : (places : List ℕ) → Forbidden goes ends loop [] from places → Before places (0 ∷ []) → ⊥
    none_before [] w b = w
    none_before (x ∷ xs) w (inl less) = omega (arith, less)
    none_before (x ∷ xs) w (inr r) = before_nothing xs r.1

-- one more output is tried
pub search_skips : {N : Type 0} (goes : N → ℕ → N → Type 0) (ends : N → ℕ → Type 0) (loop : Bool) (from x : N) (n m : ℕ) (path : List (N × ℕ)) (done : List N)
    → AreSteps goes ends → m ≡ n + 1 → IsSearch goes ends loop from x n path done → Tried goes ends loop (x ∷ nodes_of path ++ done) done x n → IsSearch goes ends loop from x m path done
search_skips goes ends loop from x n m path done steps is s tried = record {
  leads = s.leads;
  differ = s.differ;
  tried = (
    λ q less. elim (cases_lt q n) [
      | inl low ↦ s.tried.0 q low
      | inr high ↦ let at : n ≡ q = omega arith in subst (λ (k : ℕ). Tried goes ends loop (x ∷ nodes_of path ++ done) done x k) at tried
    ],
    s.tried.1,
  );
  finished = s.finished;
  none = λ places w b. elim (before_next places (places_of path) m n is b) [
    | inl old ↦ s.none places w old
    | inr new ↦
        let taken : Forbidden goes ends loop [] from (places_of path ++ n ∷ new.0) = subst (Forbidden goes ends loop [] from) new.1 w in
        none_through goes ends loop x (nodes_of path) done n new.0 s.differ s.finished tried (follow goes ends loop from x path n new.0 steps s.leads taken)
  ];
}

-- a node is entered
pub search_enters : {N : Type 0} (goes : N → ℕ → N → Type 0) (ends : N → ℕ → Type 0) (loop : Bool) (from x y : N) (n m : ℕ) (path : List (N × ℕ)) (done : List N)
    → AreSteps goes ends → m ≡ n + 1 → IsSearch goes ends loop from x n path done → goes x n y → (In y (x ∷ nodes_of path) → ⊥) → (In y done → ⊥)
    → IsSearch goes ends loop from y 0 ((x, m) ∷ path) done
search_enters goes ends loop from x y n m path done steps is s g off fresh =
    let at : m - 1 ≡ n = omega arith in
    let here : goes x (m - 1) y = subst (λ (k : ℕ). goes x k y) (sym at) g in
    record {
      leads = (omega (arith, is), here, s.leads);
      differ = (λ i. elim (in_either y (x ∷ nodes_of path) done i) [ inl a ↦ off a | inr b ↦ fresh b ], s.differ);
      tried = (
        λ q less. absurd (omega (arith, less)),
        (
          λ q less. elim (cases_lt q n) [
            | inl low ↦
                tried_more goes ends loop (x ∷ nodes_of path ++ done) (y ∷ x ∷ nodes_of path ++ done) done (y ∷ done) x q (λ z i. inr i) (λ z i. inr i) (s.tried.0 q low)
            | inr high ↦
                let same : n ≡ q = omega arith in
                subst (λ (k : ℕ). Tried goes ends loop (y ∷ x ∷ nodes_of path ++ done) (y ∷ done) x k) same record {
                  free = steps.either x y n g;
                  leads = λ z way. inl (inl (steps.one x z y n way g));
                }
          ],
          all_tried_more goes ends loop (x ∷ nodes_of path ++ done) (y ∷ x ∷ nodes_of path ++ done) (x ∷ done) (x ∷ y ∷ done) path (λ z i. inr i)
              (λ z i. elim i [ inl e ↦ inl e | inr r ↦ inr (inr r) ]) s.tried.1,
        ),
      );
      finished = all_done_more goes ends loop (x ∷ nodes_of path ++ done) (y ∷ x ∷ nodes_of path ++ done) done (λ z i. inr i) s.finished;
      none = λ places w b.
          let joined : Before places (places_of path ++ (m - 1) ∷ 0 ∷ []) = rw append_assoc at b in
          let there : Before places (places_of path ++ n ∷ 0 ∷ []) = subst (λ (k : ℕ). Before places (places_of path ++ k ∷ 0 ∷ [])) at joined in
          elim (before_first places (places_of path) n there) [
            | inl old ↦ s.none places w old
            | inr new ↦
                let taken : Forbidden goes ends loop [] from (places_of path ++ n ∷ []) = subst (Forbidden goes ends loop [] from) new w in
                elim (follow goes ends loop from x path n [] steps s.leads taken) [
                  | inl ending ↦ steps.either x y n g ending
                  | inr back ↦ off (subst (λ (v : _). In v (x ∷ nodes_of path)) (steps.one x back.1.0 y n back.1.1 g) back.1.2)
                ]
          ];
    }

-- all outputs of the node are tried, and it is left
pub search_leaves : {N : Type 0} (goes : N → ℕ → N → Type 0) (ends : N → ℕ → Type 0) (loop : Bool) (from x y : N) (n m : ℕ) (path : List (N × ℕ)) (done : List N)
    → AreSteps goes ends → ((q : ℕ) → n ≤ q → (ends x q → ⊥) × ((z : N) → goes x q z → ⊥)) → IsSearch goes ends loop from x n ((y, m) ∷ path) done
    → IsSearch goes ends loop from y m path (x ∷ done)
search_leaves goes ends loop from x y n m path done steps past s =
    let old = x ∷ y ∷ nodes_of path ++ done in
    let new = y ∷ nodes_of path ++ x ∷ done in
    let wide : (z : _) → In z old → In z new = λ z i. in_move z x (y ∷ nodes_of path) done i in
    record {
      leads = s.leads.2;
      differ = differ_move x (y ∷ nodes_of path) done s.differ;
      tried = all_tried_more goes ends loop old new (x ∷ done) (x ∷ done) ((y, m) ∷ path) wide (λ z i. i) s.tried.1;
      finished = (
        λ q. elim (cases_lt q n) [
          | inl low ↦ tried_more goes ends loop old new done done x q wide (λ z i. i) (s.tried.0 q low)
          | inr high ↦ record { free = (past q high).0; leads = λ z way. absurd ((past q high).1 z way) }
        ],
        all_done_more goes ends loop old new done wide s.finished,
      );
      none = λ places w b. elim (before_last places (places_of path) m (m - 1) n (omega (arith, s.leads.0)) b) [
        | inl low ↦ s.none places w (rw append_assoc low)
        | inr more ↦
            let taken : Forbidden goes ends loop [] from ((places_of path ++ (m - 1) ∷ []) ++ more.0 ∷ more.1) = rw append_assoc (subst (Forbidden goes ends loop [] from) more.3 w) in
            none_past x more.0 (y ∷ nodes_of path) more.1 (past more.0 more.2) (follow goes ends loop from x ((y, m) ∷ path) more.0 more.1 steps s.leads taken)
      ];
    }
  where
    none_past : (x : _) (q : ℕ) (seen : List _) (more : List ℕ) → (ends x q → ⊥) × ((z : _) → goes x q z → ⊥) → Forbidden goes ends loop seen x (q ∷ more) → ⊥
    none_past x q seen [] past (inl ending) = past.0 ending
    none_past x q seen [] past (inr back) = past.1 back.1.0 back.1.1
    none_past x q seen (r ∷ more) past w = past.1 w.0 w.1

-- all outputs of the first node are tried: there is no forbidden walk
pub search_ends : {N : Type 0} (goes : N → ℕ → N → Type 0) (ends : N → ℕ → Type 0) (loop : Bool) (from x : N) (n : ℕ) (done : List N)
    → ((q : ℕ) → n ≤ q → (ends x q → ⊥) × ((z : N) → goes x q z → ⊥)) → IsSearch goes ends loop from x n [] done → (places : List ℕ) → Forbidden goes ends loop [] from places → ⊥
search_ends goes ends loop from x n done past s [] w = w
search_ends goes ends loop from x n done past s (q ∷ []) w = elim (cases_lt q n) [
  | inl low ↦ s.none (q ∷ []) w (inl low)
  | inr high ↦ elim w [
    | inl ending ↦ (past q high).0 (subst (λ (v : _). ends v q) (sym s.leads) ending)
    | inr back ↦ (past q high).1 back.1.0 (subst (λ (v : _). goes v q back.1.0) (sym s.leads) back.1.1)
  ]
]
search_ends goes ends loop from x n done past s (q ∷ r ∷ more) w = elim (cases_lt q n) [
  | inl low ↦ s.none (q ∷ r ∷ more) w (inl low)
  | inr high ↦ (past q high).1 w.0 (subst (λ (v : _). goes v q w.0) (sym s.leads) w.1)
]
